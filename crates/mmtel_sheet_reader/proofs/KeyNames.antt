-- The names of the keys that say to which identities a rule applies.
use Rattle.std.proofs.Common.{◌≡◌, ℕ, Bool, true, false, cond, List, Option, Some, None, refl, sym, ◌∙◌, codes}
use Rattle.std.proofs.lemmas.Slice.Eq.{bytes_eq-Decides}
use Rattle.std.proofs.lemmas.Map.Text.{is_eq-slice_cmp}
use Rattle.std.specs.Prelude.{IfSome}
use Rattle.std.specs.Str.{bytes_eq}
use Rattle.toml.specs.Data.{same_key}
use Rattle.mmtel_sheet_grammar.specs.Keys.{rule_key_of, event_of, notification_of, identity_key_of, second_key_of, other_key_of, event_or, notification_or, key_or}
use Rattle.mmtel_sheet_grammar.specs.declared.keys.Notification.{Notification}
use Rattle.mmtel_sheet_grammar.specs.declared.keys.RuleKey.{RuleKey}
use Rattle.mmtel_sheet_grammar.specs.declared.keys.RuleKey.TheVariants as key
use Rattle.mmtel_sheet_values.specs.declared.values.EventWord.{EventWord}

-- the key of a name, where it is one of except, many and one
abbrev pub IsNamedAs : List ℕ → RuleKey → Type 0
IsNamedAs k key.Allow = Unit {0}
IsNamedAs k key.Anonymous = Unit {0}
IsNamedAs k key.DayFrom = Unit {0}
IsNamedAs k key.DayUntil = Unit {0}
IsNamedAs k key.Days = Unit {0}
IsNamedAs k key.Diverted = Unit {0}
IsNamedAs k (key.Event e) = Unit {0}
IsNamedAs k key.Except = k ≡ codes "except"
IsNamedAs k key.From = Unit {0}
IsNamedAs k key.Id = Unit {0}
IsNamedAs k key.International = Unit {0}
IsNamedAs k key.Many = k ≡ codes "many"
IsNamedAs k key.Media = Unit {0}
IsNamedAs k (key.Notification n) = Unit {0}
IsNamedAs k key.Offset = Unit {0}
IsNamedAs k key.One = k ≡ codes "one"
IsNamedAs k key.Target = Unit {0}
IsNamedAs k key.Until = Unit {0}

if_named : (P : RuleKey → Type 0) (b : Bool) (n : RuleKey) (rest : Option RuleKey) → (b ≡ true → P n) → IfSome rest P → IfSome (cond b (Some n) rest) P
if_named P true n rest here more = here refl
if_named P false n rest here more = more

identity_named : (k : List ℕ) → IfSome (identity_key_of k) (IsNamedAs k)
unfolding identity_key_of
identity_named k =
    if_named (IsNamedAs k) (bytes_eq k (codes "anonymous")) key.Anonymous _ (λ e. tt)
    (if_named (IsNamedAs k) (bytes_eq k (codes "except")) key.Except _ (λ e. (bytes_eq-Decides k (codes "except")).0 e)
    (if_named (IsNamedAs k) (bytes_eq k (codes "many")) key.Many _ (λ e. (bytes_eq-Decides k (codes "many")).0 e)
    (if_named (IsNamedAs k) (bytes_eq k (codes "one")) key.One None (λ e. (bytes_eq-Decides k (codes "one")).0 e) tt)))

second_named : (k : List ℕ) → IfSome (second_key_of k) (IsNamedAs k)
unfolding second_key_of
second_named k =
    if_named (IsNamedAs k) (bytes_eq k (codes "communication-diverted")) key.Diverted _ (λ e. tt)
    (if_named (IsNamedAs k) (bytes_eq k (codes "day-from")) key.DayFrom _ (λ e. tt)
    (if_named (IsNamedAs k) (bytes_eq k (codes "day-until")) key.DayUntil _ (λ e. tt)
    (if_named (IsNamedAs k) (bytes_eq k (codes "days")) key.Days _ (λ e. tt)
    (if_named (IsNamedAs k) (bytes_eq k (codes "international")) key.International _ (λ e. tt)
    (if_named (IsNamedAs k) (bytes_eq k (codes "offset")) key.Offset None (λ e. tt) tt)))))

other_named : (k : List ℕ) → IfSome (other_key_of k) (IsNamedAs k)
unfolding other_key_of
other_named k =
    if_named (IsNamedAs k) (bytes_eq k (codes "allow")) key.Allow _ (λ e. tt)
    (if_named (IsNamedAs k) (bytes_eq k (codes "from")) key.From _ (λ e. tt)
    (if_named (IsNamedAs k) (bytes_eq k (codes "id")) key.Id _ (λ e. tt)
    (if_named (IsNamedAs k) (bytes_eq k (codes "media")) key.Media _ (λ e. tt)
    (if_named (IsNamedAs k) (bytes_eq k (codes "target")) key.Target _ (λ e. tt)
    (if_named (IsNamedAs k) (bytes_eq k (codes "until")) key.Until None (λ e. tt) tt)))))

key_named : (k : List ℕ) (first other : Option RuleKey) → IfSome first (IsNamedAs k) → IfSome other (IsNamedAs k) → IfSome (key_or first other) (IsNamedAs k)
key_named k (Some n) other i o = i
key_named k None other i o = o

or_named : (k : List ℕ) (ev : Option EventWord) (notice : Option Notification) (other : Option RuleKey) → IfSome other (IsNamedAs k) → IfSome (event_or ev (notification_or notice other)) (IsNamedAs k)
or_named k (Some e) n other o = tt
or_named k None (Some n) other o = tt
or_named k None None other o = o

pub named : (k : List ℕ) → IfSome (rule_key_of k) (IsNamedAs k)
named k =
    or_named k (event_of k) (notification_of k) (key_or (identity_key_of k) (key_or (second_key_of k) (other_key_of k)))
    (key_named k (identity_key_of k) (key_or (second_key_of k) (other_key_of k)) (identity_named k) (key_named k (second_key_of k) (other_key_of k) (second_named k) (other_named k)))

-- equal keys are one key
pub one_key : (k l : List ℕ) → same_key k l ≡ true → k ≡ l
one_key k l e = (bytes_eq-Decides k l).0 (sym (is_eq-slice_cmp k l) ∙ e)
