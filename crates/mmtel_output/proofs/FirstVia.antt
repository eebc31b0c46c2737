-- The first Via of a message is the first line of that name, and its branch and the method of CSeq are those of the lines.
use Rattle.std.proofs.Common.{◌≡◌, ℕ, Bool, true, false, List, [], ◌∷◌, Option, Some, None, refl, sym, ap, codes}
use Rattle.mmtel_base.specs.Chain.{◌>>=◌}
use Rattle.mmtel_message.specs.Fields.{cseq_at, via_at}
use Rattle.mmtel_message.specs.Identifiers.{first_branch, first_method}
use Rattle.mmtel_message.specs.Message.{Line, first_value, is_line, line_texts}
use Rattle.mmtel_message.specs.declared.fields.CSeq.{CSeq}
use Rattle.mmtel_message.specs.declared.fields.Via.{Via}
use Rattle.mmtel_output.specs.ResponseMatching.{first_branch_in, first_via, is_awaited_cseq, is_awaited_method, is_awaited_response, via_branch}

via_if : (b : Bool) (name : List ℕ) (l : Line) (ls : List Line) → is_line name l ≡ b → first_via (line_texts name ls) ≡ (first_value name ls >>= via_at) →
    first_via (line_texts name (l ∷ ls)) ≡ (first_value name (l ∷ ls) >>= via_at)
via_if true name l ls e ih = rw e refl
via_if false name l ls e ih = rw e ih

via_read : (name : List ℕ) (ls : List Line) → first_via (line_texts name ls) ≡ (first_value name ls >>= via_at)
via_read name [] = refl
via_read name (l ∷ ls) = via_if (is_line name l) name l ls refl (via_read name ls)

pub branch_read : (ls : List Line) → first_branch ls ≡ first_branch_in (line_texts (codes "Via") ls)
branch_read ls = sym (ap (λ (o : Option Via). o >>= via_branch) (via_read (codes "Via") ls))

none_of : (o : Option CSeq) → (o >>= λ cseq. Some cseq.method) ≡ None → is_awaited_cseq o ≡ false
none_of None e = refl
none_of (Some cseq) e = absurd cc

one_of : (o : Option CSeq) (method : List ℕ) → (o >>= λ cseq. Some cseq.method) ≡ Some method → is_awaited_cseq o ≡ is_awaited_method method
one_of None method e = absurd cc
one_of (Some cseq) method e =
    let same : cseq.method ≡ method = cc in
    ap (λ (m : List ℕ). is_awaited_method m) same

pub none_awaited : (ls : List Line) → first_method ls ≡ None → is_awaited_response (first_value (codes "CSeq") ls) ≡ false
none_awaited ls e = none_of (first_value (codes "CSeq") ls >>= λ v. cseq_at v) e

pub method_awaited : (ls : List Line) (method : List ℕ) → first_method ls ≡ Some method → is_awaited_response (first_value (codes "CSeq") ls) ≡ is_awaited_method method
method_awaited ls method e = one_of (first_value (codes "CSeq") ls >>= λ v. cseq_at v) method e
