-- What is read of From does not depend on its private place.
use Rattle.std.proofs.Common.{◌≡◌, ◌∙◌, ◌==◌, ◌+◌, arith, suc, ℕ, Bool, true, false, List, [], ◌∷◌, Option, Some, None, ap, codes, cond, length, map, refl, sym}
use Rattle.std.specs.Option.{option_map}
use Rattle.std.specs.Prelude.{count_by}
use Rattle.std.proofs.lemmas.List.Recursion.{is_count_by}
use Rattle.mmtel_base.specs.Chain.{◌>>=◌}
use Rattle.mmtel_lex.specs.Reading.{name_addr_of}
use Rattle.mmtel_lex.specs.declared.values.NameAddr.{NameAddr}
use Rattle.mmtel_lex.specs.declared.values.Param.{Param}
use Rattle.mmtel_message.specs.Fields.{call_in, first_part, only_value, via_at}
use Rattle.mmtel_message.specs.Message.{Line, first_value, is_line, lines_named}
use Rattle.mmtel_message.specs.declared.fields.Via.{Via}
use Rattle.mmtel_trust.proofs.IndexKeeping.{first_named, head_value}
use Rattle.mmtel_trust.specs.PrivateFields.{hide_if, with_value}
use Rattle.mmtel_transaction.specs.Heads.{param_text}
use Rattle.mmtel_transaction.specs.HeadsRead.{tag_read, via_read}

-- ---- the first line of a name, and the only one, by the lines of the name

abbrev only_of : List Line → Option (List ℕ)
only_of ls = cond (length ls == 1) (head_value ls) None

tally : (b : Bool) (l : Line) (xs : List Line) → length (cond b (l ∷ xs) xs) ≡ cond b (1 + length xs) (length xs)
tally true l xs = omega arith
tally false l xs = refl

only_named : (name : List ℕ) (ls : List Line) → only_value name ls ≡ only_of (lines_named name ls)
only_named name ls =
    let n : length (lines_named name ls) ≡ count_by (λ l. is_line name l) ls = is_count_by (λ xs. length (lines_named name xs)) (λ l. is_line name l) refl (λ x xs. tally (is_line name x) x (lines_named name xs)) ls in
    rw (sym n, first_named name ls) refl

only_kept : (name : List ℕ) (ls ms : List Line) → lines_named name ls ≡ lines_named name ms → only_value name ls ≡ only_value name ms
only_kept name ls ms e = only_named name ls ∙ (ap (λ (xs : List Line). only_of xs) e ∙ sym (only_named name ms))

first_kept : (name : List ℕ) (ls ms : List Line) → lines_named name ls ≡ lines_named name ms → first_value name ls ≡ first_value name ms
first_kept name ls ms e = first_named name ls ∙ (ap (λ (xs : List Line). head_value xs) e ∙ sym (first_named name ms))

-- ---- tags

-- the tag of a value
abbrev tag_at : Option (List ℕ) → Option (List ℕ)
tag_at v = option_map (λ (party : NameAddr). param_text (codes "tag") party.params) (v >>= λ s. name_addr_of s)

by_params : (o : Option NameAddr) → option_map (λ (party : NameAddr). param_text (codes "tag") party.params) o ≡ option_map (λ (ps : List Param). param_text (codes "tag") ps) (option_map (λ (n : NameAddr). n.params) o)
by_params None = refl
by_params (Some n) = refl

-- the value keeps its parameters
abbrev KeepsParams : Bool → Type 0
KeepsParams b = (v : List ℕ) → option_map (λ (n : NameAddr). n.params) (name_addr_of (hide_if b v)) ≡ option_map (λ (n : NameAddr). n.params) (name_addr_of v)

tag_hidden : (b : Bool) → KeepsParams b → (v : List ℕ) → tag_at (Some (hide_if b v)) ≡ tag_at (Some v)
tag_hidden b keeps v = by_params (name_addr_of (hide_if b v)) ∙ (ap (option_map (λ (ps : List Param). param_text (codes "tag") ps)) (keeps v) ∙ sym (by_params (name_addr_of v)))

map_length : (f : Line → Line) (ls : List Line) → length (map f ls) ≡ length ls
map_length f [] = refl
map_length f (l ∷ ls) = ap suc (map_length f ls)

only_hidden : (b : Bool) → KeepsParams b → (ls : List Line) → tag_at (only_of (map (with_value (hide_if b)) ls)) ≡ tag_at (only_of ls)
only_hidden b keeps [] = refl
only_hidden b keeps (l ∷ ls) = rw (map_length (with_value (hide_if b)) ls) (either (suc (length ls) == 1))
  where
    either : (c : Bool) → tag_at (cond c (Some (hide_if b l.1)) None) ≡ tag_at (cond c (Some l.1) None)
    either true = tag_hidden b keeps l.1
    either false = refl

-- lines whose values of the name are hidden
pub tag_stays : (b : Bool) → KeepsParams b → (name : List ℕ) (ls ms : List Line) → lines_named name ls ≡ map (with_value (hide_if b)) (lines_named name ms) → tag_read name ls ≡ tag_read name ms
tag_stays b keeps name ls ms e =
    ap tag_at (only_named name ls ∙ ap (λ (xs : List Line). only_of xs) e)
    ∙ (only_hidden b keeps (lines_named name ms)
    ∙ ap tag_at (sym (only_named name ms)))

pub same_tag : (name : List ℕ) (ls ms : List Line) → lines_named name ls ≡ lines_named name ms → tag_read name ls ≡ tag_read name ms
same_tag name ls ms e = ap tag_at (only_kept name ls ms e)

pub same_via : (ls ms : List Line) → lines_named (codes "Via") ls ≡ lines_named (codes "Via") ms → via_read ls ≡ via_read ms
same_via ls ms e = ap (λ (v : Option (List ℕ)). option_map (λ (via : Via). (param_text (codes "branch") via.params, via.sent_by)) (v >>= λ s. via_at (first_part s))) (first_kept (codes "Via") ls ms e)

pub same_call : (ls ms : List Line) → lines_named (codes "Call-ID") ls ≡ lines_named (codes "Call-ID") ms → lines_named (codes "CSeq") ls ≡ lines_named (codes "CSeq") ms → call_in ls ≡ call_in ms
unfolding call_in
same_call ls ms id cseq = rw (only_kept (codes "Call-ID") ls ms id, only_kept (codes "CSeq") ls ms cseq) refl
