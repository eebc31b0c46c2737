-- A payload after its length is read where it is, and no other.
use Rattle.std.proofs.Common.{◌≡◌, ℕ, ◌<◌, ◌^◌, List, ◌++◌, length, Option, Some, None, sym, ap, subst, ◌∙◌}
use Rattle.std.specs.Prelude.{IfSome, IfNone}
use Rattle.std.specs.Int.{w64, to_be_bytes}
use Rattle.mmtel_journal.specs.Payloads.{IsPayload}
use Rattle.mmtel_journal.specs.Fields.{then_read, sized_at, text_at}
use Rattle.mmtel_journal.specs.Reading.{IsReadValue, IsFramed, IsUnframed, IsNoRecord}
use Rattle.mmtel_journal.proofs.ReadRecords.{IsBytes}
use Rattle.mmtel_journal.proofs.Readers.{some_same}
use Rattle.mmtel_journal.proofs.FieldsRead.{long_reads}

pub framed_found : {X : Type 0} (view : X → List ℕ × List ℕ) (bytes : List ℕ) (r : Option X) → IsBytes bytes → IsReadValue view r (then_read (sized_at w64 8 bytes) text_at)
    → IfSome r (λ x. IsFramed bytes (view x).0 (view x).1)
framed_found view bytes None small given = tt
framed_found view bytes (Some x) small given = long_reads.takes bytes (view x) small given

pub framed_again : (p rest : List ℕ) → length p < 2 ^ 64 → then_read (sized_at w64 8 (to_be_bytes w64 (length p) ++ p ++ rest)) text_at ≡ Some (p, rest)
framed_again p rest lt = long_reads.again p rest lt

pub framed_none : {X : Type 0} (view : X → List ℕ × List ℕ) (bytes : List ℕ) (r : Option X) → IsReadValue view r (then_read (sized_at w64 8 bytes) text_at)
    → IfNone r (IsUnframed bytes)
framed_none view bytes None given = λ p rest is. absurd (cc (sym given ∙ ap (λ (l : List ℕ). then_read (sized_at w64 8 l) text_at) is.1 ∙ framed_again p rest is.0))
framed_none view bytes (Some x) given = tt

-- the same bytes frame one payload
pub same_framed : (p q x y : List ℕ) → length p < 2 ^ 64 → length q < 2 ^ 64 → to_be_bytes w64 (length p) ++ p ++ x ≡ to_be_bytes w64 (length q) ++ q ++ y → (p ≡ q) × (x ≡ y)
same_framed p q x y lp lq e =
    let both = some_same (p, x) (q, y) (sym (framed_again p x lp) ∙ ap (λ (l : List ℕ). then_read (sized_at w64 8 l) text_at) e ∙ framed_again q y lq) in
    (ap (λ (z : List ℕ × List ℕ). z.0) both, ap (λ (z : List ℕ × List ℕ). z.1) both)

-- what is framed is no payload of the format, so no record begins so
pub unread : (tail p behind : List ℕ) → IsFramed tail p behind → (IsPayload p → ⊥) → IsNoRecord tail
unread tail p behind framed other = λ q rest lt form e. other (subst IsPayload (sym (same_framed p q behind rest framed.0 lt (sym framed.1 ∙ e)).0) form)
