-- To which request a message belongs, by what its five fields say.
use Rattle.std.proofs.Common.{◌≡◌, ◌==◌, Bool, true, false, ℕ, List, [], ◌∷◌, length, map, Option, Some, None, refl, sym, ap, subst, ◌∙◌, codes}
use Rattle.std.specs.Bool.{OnFalse}
use Rattle.std.specs.Option.{option_map, unwrap_or}
use Rattle.mmtel_base.specs.Chain.{◌>>=◌}
use Rattle.mmtel_base.proofs.ChainTheorems.{some_is}
use Rattle.mmtel_lex.specs.Params.{param_value}
use Rattle.mmtel_message.specs.Fields.{cseq_at, first_in, first_part, five_at, via_at}
use Rattle.mmtel_message.specs.Headers.{trim}
use Rattle.mmtel_message.specs.Identifiers.{Identifiers, first_branch, first_method, identifiers_in, identifiers_of, param_text}
use Rattle.mmtel_message.specs.Message.{Line, first_value}
use Rattle.mmtel_message.specs.Values.{parts, values_of}
use Rattle.mmtel_message.specs.declared.fields.CSeq.{CSeq}
use Rattle.mmtel_message.specs.declared.fields.Five.{Five}
use Rattle.mmtel_message.specs.declared.fields.Via.{Via}
use Rattle.mmtel_message.specs.declared.values.Mode.TheVariants.{Plain}
use Rattle.mmtel_message.proofs.GuaranteeTheorems.{fields_are}

said_by : (o : Option Five) (said : Identifiers) → option_map identifiers_of o ≡ Some said → (five : Five) × (o ≡ Some five) × (identifiers_of five ≡ said)
said_by None said e = absurd cc
said_by (Some five) said e = (five, refl, some_is (identifiers_of five) said e)

head_alone : (ls : List (List ℕ)) (v : List ℕ) → map trim ls ≡ v ∷ [] → trim (first_in ls) ≡ v
head_alone [] v e = absurd cc
head_alone (x ∷ xs) v e = cc

branch_found : (o : Option (List ℕ)) → (length (unwrap_or o []) == 0) ≡ false → Some (unwrap_or o []) ≡ o
branch_found None e = absurd cc
branch_found (Some branch) e = refl

pub branch_at : (ls : List Line) (v : List ℕ) → first_value (codes "Via") ls ≡ Some v → first_branch ls ≡ (via_at v >>= λ via. param_value (codes "branch") via.params)
branch_at ls v first = ap (λ (o : Option (List ℕ)). (o >>= λ w. via_at w) >>= λ via. param_value (codes "branch") via.params) first

pub branch_nowhere : (ls : List Line) → first_value (codes "Via") ls ≡ None → first_branch ls ≡ None
branch_nowhere ls none = ap (λ (o : Option (List ℕ)). (o >>= λ w. via_at w) >>= λ via. param_value (codes "branch") via.params) none

known_branch : (ls : List Line) (said : Identifiers) (v : List ℕ) → identifiers_in ls ≡ Some said → first_value (codes "Via") ls ≡ Some v → values_of v ≡ v ∷ [] → (length said.branch == 0) ≡ false →
    Some said.branch ≡ first_branch ls
known_branch ls said v is first alone filled =
    let five = said_by (five_at ls) said is in
    let via = (fields_are ls five.0 five.1).via in
    let same : via.0 ≡ v = some_is via.0 v (sym via.1 ∙ first) in
    let part : first_part via.0 ≡ v = ap (λ (s : List ℕ). first_part s) same ∙ head_alone (parts Plain v) v alone in
    let read : via_at v ≡ Some five.0.via = ap (λ (s : List ℕ). via_at s) (sym part) ∙ via.2 in
    let text : param_text (codes "branch") five.0.via.params ≡ said.branch = ap (λ (i : Identifiers). i.branch) five.2 in
    let there : (length (param_text (codes "branch") five.0.via.params) == 0) ≡ false = subst (λ (b : List ℕ). (length b == 0) ≡ false) (sym text) filled in
    let given : Some (param_text (codes "branch") five.0.via.params) ≡ param_value (codes "branch") five.0.via.params = branch_found (param_value (codes "branch") five.0.via.params) there in
    ap (λ (b : List ℕ). Some b) (sym text)
    ∙ given
    ∙ sym (branch_at ls v first ∙ ap (λ (o : Option Via). o >>= λ w. param_value (codes "branch") w.params) read)

-- the same, with a test of the line's value
pub known_if : (b : Bool) (branch v : List ℕ) → (length branch == 0) ≡ false → OnFalse b (values_of v ≡ v ∷ []) →
    OnFalse b ((ls : List Line) (said : Identifiers) → identifiers_in ls ≡ Some said → said.branch ≡ branch → first_value (codes "Via") ls ≡ Some v → Some branch ≡ first_branch ls)
known_if true branch v filled alone = tt
known_if false branch v filled alone = λ ls said is same first.
    let there : (length said.branch == 0) ≡ false = subst (λ (b : List ℕ). (length b == 0) ≡ false) (sym same) filled in
    ap (λ (b : List ℕ). Some b) (sym same) ∙ known_branch ls said v is first alone there

pub known_method : (ls : List Line) (said : Identifiers) → identifiers_in ls ≡ Some said → Some said.method ≡ first_method ls
known_method ls said is =
    let five = said_by (five_at ls) said is in
    let cseq = (fields_are ls five.0 five.1).cseq in
    let read : (first_value (codes "CSeq") ls >>= λ v. cseq_at v) ≡ Some five.0.cseq = ap (λ (o : Option (List ℕ)). o >>= λ v. cseq_at v) cseq.1.first ∙ cseq.2 in
    ap (λ (i : Identifiers). Some i.method) (sym five.2) ∙ sym (ap (λ (o : Option CSeq). o >>= λ c. Some c.method) read)
