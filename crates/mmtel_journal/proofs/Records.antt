-- A record after the records of a journal, and what a stop leaves of it.
use Rattle.std.proofs.Common.{◌≡◌, ◌≢◌, inl, inr, ⊎_elim, ℕ, ◌+◌, ◌<◌, Bool, true, false, List, [], ◌∷◌, ◌++◌, length, refl, sym, ◌∙◌, ap, subst, arith, append_assoc}
use Rattle.std.proofs.Common.{length-append}
use Rattle.std.proofs.lemmas.List.{append-nil}
use Rattle.std.proofs.lemmas.Bool.{cases_eq}
use Rattle.std.specs.Int.{w64, to_be_bytes}
use Rattle.mmtel_journal.specs.Disks.{Leaves}
use Rattle.mmtel_journal.specs.Gates.{Gated, Staged}
use Rattle.mmtel_journal.specs.Journal.{record_bytes, encoded_records, IsJournal, IsAmong, IsJournalOrMore}
use Rattle.mmtel_journal.specs.Logs.{body_bytes, LogRepresents}
use Rattle.mmtel_journal.specs.declared.logs.Log.{Log}

pub spelled_push : (ps : List (List ℕ)) (p rest : List ℕ) → encoded_records (ps ++ p ∷ []) ++ rest ≡ encoded_records ps ++ (record_bytes p ++ rest)
spelled_push [] p rest = ap (λ (l : List ℕ). l ++ rest) (append-nil (record_bytes p))
spelled_push (q ∷ ps) p rest =
    append_assoc (record_bytes q) (encoded_records (ps ++ p ∷ [])) rest
    ∙ ap (λ (l : List ℕ). record_bytes q ++ l) (spelled_push ps p rest)
    ∙ sym (append_assoc (record_bytes q) (encoded_records ps) (record_bytes p ++ rest))

-- an open gate and what was written after it are a record, with a closed gate after it
opened : (p rest : List ℕ) → 1 ∷ (body_bytes p ++ rest) ≡ record_bytes p ++ 0 ∷ rest
unfolding record_bytes body_bytes
opened p rest =
    let number = to_be_bytes w64 (length p) in
    ap (λ (l : List ℕ). 1 ∷ l) (append_assoc (number ++ p) (0 ∷ []) rest)

pub gated_open : (ps : List (List ℕ)) (p c : List ℕ) → Gated (encoded_records ps) 1 (body_bytes p) c → IsJournal (ps ++ p ∷ []) c
gated_open ps p c gated =
    let shut : 0 ≢ 1 = λ e. absurd (omega (arith, e)) in
    (0, gated.0, shut, gated.1 ∙ ap (λ (l : List ℕ). encoded_records ps ++ l) (opened p gated.0) ∙ sym (spelled_push ps p (0 ∷ gated.0)))

pub gated_shut : (ps : List (List ℕ)) (gate : ℕ) (body c : List ℕ) → gate ≢ 1 → Gated (encoded_records ps) gate body c → IsJournal ps c
gated_shut ps gate body c shut gated = (gate, body ++ gated.0, shut, gated.1)

-- a stop leaves the record or not
pub staged_is : (ps others : List (List ℕ)) (p c : List ℕ) → IsAmong others p → Staged (encoded_records ps) (body_bytes p) c → IsJournalOrMore ps others c
staged_is ps others p c among staged = elim (cases_eq staged.0 1) [
  | inl up ↦ inr (p, among, gated_open ps p c (subst (λ g. Gated (encoded_records ps) g (body_bytes p) c) up staged.1))
  | inr shut ↦ inl (gated_shut ps staged.0 (body_bytes p) c shut staged.1)
]

pub body_long : (p : List ℕ) → 0 < length (body_bytes p)
unfolding body_bytes
body_long p = omega arith

pub size_push : (ps : List (List ℕ)) (p : List ℕ) → length (encoded_records (ps ++ p ∷ [])) ≡ length (encoded_records ps) + length (body_bytes p)
unfolding record_bytes body_bytes
size_push ps p =
    let number = to_be_bytes w64 (length p) in
    omega (
      arith,
      ap length (sym (append-nil (encoded_records (ps ++ p ∷ [])))),
      ap length (spelled_push ps p []),
      ap length (append-nil (record_bytes p)),
      length-append (encoded_records ps) (record_bytes p ++ []),
      length-append number p,
      length-append (number ++ p) (0 ∷ []),
    )

-- ---- candidates

pub among_left : (others more : List (List ℕ)) (p : List ℕ) → IsAmong others p → IsAmong (others ++ more) p
among_left [] more p none = absurd none
among_left (q ∷ others) more p (inl here) = inl here
among_left (q ∷ others) more p (inr there) = inr (among_left others more p there)

pub among_right : (others more : List (List ℕ)) (p : List ℕ) → IsAmong more p → IsAmong (others ++ more) p
among_right [] more p is = is
among_right (q ∷ others) more p is = inr (among_right others more p is)

pub more_left : (ps others more : List (List ℕ)) (c : List ℕ) → IsJournalOrMore ps others c → IsJournalOrMore ps (others ++ more) c
more_left ps others more c is = ⊎_elim (λ same. inl same) (λ one. inr (one.0, among_left others more one.0 one.1, one.2)) is

pub more_right : (ps others more : List (List ℕ)) (c : List ℕ) → IsJournalOrMore ps more c → IsJournalOrMore ps (others ++ more) c
more_right ps others more c is = ⊎_elim (λ same. inl same) (λ one. inr (one.0, among_right others more one.0 one.1, one.2)) is

-- ---- the state of a journal

module _ {D : Type 0} (may_leave : D → List ℕ → Type 0) where
  by_flag : (ps others : List (List ℕ)) (log : Log D) (flag : Bool) → log.pending ≡ flag → LogRepresents may_leave ps others log
      → Leaves (may_leave log.disk) (IsJournalOrMore ps others)
  by_flag ps others log false is stands c left = inl (stands.closed is c left)
  by_flag ps others log true is stands c left = let one = stands.pending is in staged_is ps others one.0 c one.1 (one.2 c left)

  -- what a stop may leave of it
  pub log_leaves : (ps others : List (List ℕ)) (log : Log D) → LogRepresents may_leave ps others log → Leaves (may_leave log.disk) (IsJournalOrMore ps others)
  log_leaves ps others log stands = by_flag ps others log log.pending refl stands

  pub log_closed : (ps others : List (List ℕ)) (log : Log D) → log.pending ≡ false → log.gate ≡ length (encoded_records ps) → Leaves (may_leave log.disk) (IsJournal ps)
      → LogRepresents may_leave ps others log
  log_closed ps others log shut at leaves = record { gate = at; closed = λ is. leaves; pending = λ is. absurd (cc (shut, is)) }

  pub log_open : (ps others : List (List ℕ)) (p : List ℕ) (log : Log D) → log.pending ≡ true → log.gate ≡ length (encoded_records ps) → IsAmong others p
      → Leaves (may_leave log.disk) (Staged (encoded_records ps) (body_bytes p)) → LogRepresents may_leave ps others log
  log_open ps others p log up at among leaves = record { gate = at; closed = λ is. absurd (cc (up, is)); pending = λ is. (p, among, leaves) }

  pub log_left : (ps others more : List (List ℕ)) (log : Log D) → LogRepresents may_leave ps others log → LogRepresents may_leave ps (others ++ more) log
  log_left ps others more log stands = record {
    gate = stands.gate;
    closed = stands.closed;
    pending = λ is. let one = stands.pending is in (one.0, among_left others more one.0 one.1, one.2);
  }

  pub log_right : (ps others more : List (List ℕ)) (log : Log D) → LogRepresents may_leave ps more log → LogRepresents may_leave ps (others ++ more) log
  log_right ps others more log stands = record {
    gate = stands.gate;
    closed = stands.closed;
    pending = λ is. let one = stands.pending is in (one.0, among_right others more one.0 one.1, one.2);
  }
