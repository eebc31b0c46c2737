-- A record that names no version reads as by the definitions of the first version alone.
use Rattle.std.proofs.Common.{◌≡◌, ℕ, Bool, true, false, cond, nat_lt, List, [], ◌∷◌, ◌++◌, length, Option, Some, None, Ok, Err, Ordering, Less, Equal, Greater, nat_cmp, is_eq, refl, sym, ap, ◌∙◌, codes}
use Rattle.std.proofs.lemmas.Bool.{false≢true}
use Rattle.std.proofs.lemmas.Map.Text.{is_eq-slice_cmp}
use Rattle.std.proofs.lemmas.Slice.Eq.{bytes_eq-Decides}
use Rattle.std.specs.Cmp.Lexicographic.{slice_cmp}
use Rattle.std.specs.Ordering.{match_ordering}
use Rattle.std.specs.Prelude.{IfSome}
use Rattle.std.specs.Str.{bytes_eq, is_utf8}
use Rattle.toml.specs.Parse.{parse_document}
use Rattle.toml.specs.Data.{Data, Items, no_items, item, Members, no_members, member, get_member, as_array, as_table}
use Rattle.mmtel_sheet_grammar.specs.ReadResults.{Read, then_read, or_wrong}
use Rattle.mmtel_sheet_grammar.specs.Elements.{truth_at, number_at}
use Rattle.mmtel_sheet_grammar.specs.Keys.{rule_key_of, event_of, notification_of, identity_key_of, second_key_of, other_key_of, key_or, notification_or, event_or, is_listed, dotted_path, rule_path}
use Rattle.mmtel_sheet_grammar.specs.Rules.{members_from, empty_draft, listed_key, listed_key_read, action_of, rule_from, rule_of, are_tables, items_count, rules_from, rules_at}
use Rattle.mmtel_sheet_grammar.specs.Texts.{document_read, sheet_read}
use Rattle.mmtel_sheet_grammar.specs.Walk.{schema, no_diversion_keys, diversion_key, diversion_part, diversion_of, no_bar_keys, is_rejection}
use Rattle.mmtel_sheet_grammar.specs.Walk.{bar_key, bar_part, bar_of, table_key_of, table_read, named_read, name_read, sheet_from, sheet_of}
use Rattle.mmtel_sheet_grammar.specs.declared.faults.SheetFault.TheVariants.{NotToml, Unknown, Wrong, Many}
use Rattle.mmtel_sheet_grammar.specs.declared.keys.Service.{Service}
use Rattle.mmtel_sheet_grammar.specs.declared.keys.Service.TheVariants as service
use Rattle.mmtel_sheet_grammar.specs.declared.keys.Version.TheVariants as version
use Rattle.mmtel_sheet_grammar.specs.declared.keys.Notification.{Notification}
use Rattle.mmtel_sheet_grammar.specs.declared.keys.RuleKey.{RuleKey}
use Rattle.mmtel_sheet_grammar.specs.declared.keys.RuleKey.TheVariants as key
use Rattle.mmtel_sheet_grammar.specs.declared.keys.TableKey.{TableKey}
use Rattle.mmtel_sheet_grammar.specs.declared.keys.TableKey.TheVariants as part
use Rattle.mmtel_sheet_grammar.specs.declared.drafts.BarDraft.{BarDraft}
use Rattle.mmtel_sheet_grammar.specs.declared.drafts.DiversionDraft.{DiversionDraft}
use Rattle.mmtel_sheet_grammar.specs.declared.drafts.RuleDraft.{RuleDraft}
use Rattle.mmtel_sheet_values.specs.Sheets.{empty_sheet}
use Rattle.mmtel_sheet_values.specs.declared.values.EventWord.{EventWord}
use Rattle.mmtel_sheet_values.specs.declared.values.Rule.{Rule}
use Rattle.mmtel_sheet_values.specs.declared.values.Sheet.{Sheet}
use Rattle.mmtel_sheets.specs.FirstVersion.{first_key_of, has_first_key, first_listed, first_rule_key, first_rule, first_rules_from, first_rules_at, first_diversion_key, first_diversion}
use Rattle.mmtel_sheets.specs.FirstVersion.{first_bar_key, first_bar, first_table, first_name, first_from, first_sheet, first_document, first_read, HasNoVersion, NamesNoVersion}

module _ {A B : Type 0} where
  then_alike : (r : Read A) (f g : A → Read B) → ((a : A) → f a ≡ g a) → then_read r f ≡ then_read r g
  then_alike (Ok a) f g same = same a
  then_alike (Err e) f g same = refl

  both_alike : (r q : Read A) (f g : A → Read B) → r ≡ q → ((a : A) → f a ≡ g a) → then_read r f ≡ then_read q g
  both_alike r q f g one same = ap (λ (x : Read A). then_read x f) one ∙ then_alike q f g same

module _ {A : Type 0} where
  -- keys that are read in the same way, one by one
  members_alike : (path : List ℕ) (read first : List ℕ → A → List ℕ → Data → Read A) → ((at : List ℕ) (a : A) (k : List ℕ) (d : Data) → read at a k d ≡ first at a k d) → (a : A)
      (ms : Members)
      → members_from path read a ms ≡ members_from path first a ms
  members_alike path read first same a no_members = refl
  members_alike path read first same a (member k d ms) =
      both_alike (read (dotted_path path k) a k d) (first (dotted_path path k) a k d) (λ b. members_from path read b ms) (λ b. members_from path first b ms) (same (dotted_path path k) a k d)
      (λ b. members_alike path read first same b ms)

-- ---- keys of rules

has_same : (s : Service) (k : RuleKey) → is_listed (schema version.One s) k ≡ has_first_key s k
has_same s key.Allow = refl
has_same s key.Anonymous = refl
has_same s key.DayFrom = refl
has_same s key.DayUntil = refl
has_same s key.Days = refl
has_same s key.Diverted = refl
has_same s (key.Event e) = refl
has_same s key.Except = refl
has_same s key.From = refl
has_same s key.Id = refl
has_same s key.International = refl
has_same s key.Many = refl
has_same s key.Media = refl
has_same s (key.Notification n) = refl
has_same s key.Offset = refl
has_same s key.One = refl
has_same s key.Target = refl
has_same s key.Until = refl

listed_same : (s : Service) (k : RuleKey) → listed_key (schema version.One s) (Some k) ≡ first_listed s (Some k)
listed_same s k = ap (λ (b : Bool). cond b (Some k) None) (has_same s k)

-- a key that the first version does not have, and no other key has its name
abbrev IsNew : Service → List ℕ → RuleKey → Type 0
IsNew s name k = (is_listed (schema version.One s) k ≡ false) × (other_key_of name ≡ None)

new_name : (s : Service) (name wanted : List ℕ) (k : RuleKey) → is_listed (schema version.One s) k ≡ false → other_key_of wanted ≡ None → bytes_eq name wanted ≡ true
    → IsNew s name k
new_name s name wanted k unlisted none e = (unlisted, ap other_key_of ((bytes_eq-Decides name wanted).0 e) ∙ none)

if_here : (P : RuleKey → Type 0) (b : Bool) (k : RuleKey) (rest : Option RuleKey) → (b ≡ true → P k) → IfSome rest P → IfSome (cond b (Some k) rest) P
if_here P true k rest here more = here refl
if_here P false k rest here more = more

all_new : (s : Service) (name : List ℕ) → IfSome (second_key_of name) (IsNew s name)
unfolding second_key_of other_key_of
all_new s name =
    if_here (IsNew s name) (bytes_eq name (codes "communication-diverted")) key.Diverted _ (new_name s name (codes "communication-diverted") key.Diverted refl refl)
    (if_here (IsNew s name) (bytes_eq name (codes "day-from")) key.DayFrom _ (new_name s name (codes "day-from") key.DayFrom refl refl)
    (if_here (IsNew s name) (bytes_eq name (codes "day-until")) key.DayUntil _ (new_name s name (codes "day-until") key.DayUntil refl refl)
    (if_here (IsNew s name) (bytes_eq name (codes "days")) key.Days _ (new_name s name (codes "days") key.Days refl refl)
    (if_here (IsNew s name) (bytes_eq name (codes "international")) key.International _ (new_name s name (codes "international") key.International refl refl)
    (if_here (IsNew s name) (bytes_eq name (codes "offset")) key.Offset None (new_name s name (codes "offset") key.Offset refl refl) tt)))))

-- where the first version does not have the new key, and no other has its name
beside_new : (s : Service) (new other : Option RuleKey) → IfSome new (λ k. (is_listed (schema version.One s) k ≡ false) × (other ≡ None))
    → listed_key (schema version.One s) (key_or new other) ≡ first_listed s other
beside_new s None None is = refl
beside_new s None (Some k) is = listed_same s k
beside_new s (Some k) other is = ap (λ (b : Bool). cond b (Some k) None) is.0 ∙ ap (λ (o : Option RuleKey). first_listed s o) (sym is.1)

by_name : (s : Service) (ev : Option EventWord) (notice : Option Notification) (who new other : Option RuleKey) → listed_key (schema version.One s) (key_or new other) ≡ first_listed s other
    → listed_key (schema version.One s) (event_or ev (notification_or notice (key_or who (key_or new other)))) ≡ first_listed s (event_or ev (notification_or notice (key_or who other)))
by_name s (Some e) notice who new other same = refl
by_name s None (Some n) who new other same = refl
by_name s None None (Some k) new other same = listed_same s k
by_name s None None None new other same = same

key_same : (s : Service) (name : List ℕ) → listed_key (schema version.One s) (rule_key_of name) ≡ first_listed s (first_key_of name)
key_same s name =
    by_name s (event_of name) (notification_of name) (identity_key_of name) (second_key_of name) (other_key_of name)
    (beside_new s (second_key_of name) (other_key_of name) (all_new s name))

-- ---- rules

rule_same : (s : Service) (path : List ℕ) (ms : Members) → rule_of (schema version.One s) path ms ≡ first_rule s path ms
rule_same s path ms =
    ap (λ (x : Read RuleDraft). then_read x (λ r. then_read (action_of s path r.target r.notifications r.allow) (λ a. Ok (rule_from r a))))
    (members_alike path _ (λ at r k d. first_rule_key s ms at r k d) (λ at r k d. ap (λ (o : Option RuleKey). listed_key_read ms at r o d) (key_same s k)) empty_draft ms)

rules_each : (s : Service) (path : List ℕ) (done : List Rule) (ds : Items) → rules_from (schema version.One s) path done ds ≡ first_rules_from s path done ds
rules_each s path done no_items = refl
rules_each s path done (item d ds) =
    then_alike (or_wrong path (as_table d)) _ _ (λ ms. both_alike (rule_of (schema version.One s) (rule_path path (length done)) ms)
    (first_rule s (rule_path path (length done)) ms) _ _ (rule_same s (rule_path path (length done)) ms) (λ r. rules_each s path (done ++ r ∷ []) ds))

rules_same : (s : Service) (at : List ℕ) (d : Data) → rules_at (schema version.One s) at d ≡ first_rules_at s at d
rules_same s at d =
    then_alike (or_wrong at (as_array d)) _ _ (λ ds. ap (λ (x : Read (List Rule)). cond (are_tables ds) (cond (nat_lt 64 (items_count ds)) (Err (Many at 64)) x)
    (Err (Wrong at))) (rules_each s at [] ds))

-- ---- tables

diversion_key_same : (at : List ℕ) (r : DiversionDraft) (k : List ℕ) (d : Data) → diversion_key version.One at r k d ≡ first_diversion_key at r k d
diversion_key_same at r k d =
    ap (λ (x : Read (List Rule)).
    cond (bytes_eq k (codes "active")) (then_read (truth_at at d) (λ b. Ok (record r { active = b })))
    (cond (bytes_eq k (codes "deflection")) (then_read (truth_at at d) (λ b. Ok (record r { deflection = b })))
    (cond (bytes_eq k (codes "no-reply-time")) (then_read (number_at 5 180 at d) (λ n. Ok (record r { no_reply = n })))
    (cond (bytes_eq k (codes "rule")) (then_read x (λ rs. Ok (record r { rules = rs }))) (Err (Unknown at))))))
    (rules_same service.Diversion at d)

diversion_same : (at : List ℕ) (ms : Members) → diversion_of version.One at ms ≡ first_diversion at ms
diversion_same at ms =
    ap (λ (x : Read DiversionDraft). then_read x (λ r. Ok (diversion_part r))) (members_alike at _ (λ at r k d. first_diversion_key at r k d) diversion_key_same no_diversion_keys ms)

bar_key_same : (s : Service) (at : List ℕ) (r : BarDraft) (k : List ℕ) (d : Data) → bar_key (schema version.One s) at r k d ≡ first_bar_key s at r k d
bar_key_same s at r k d =
    ap (λ (x : Read (List Rule)).
    cond (bytes_eq k (codes "active")) (then_read (truth_at at d) (λ b. Ok (record r { active = b })))
    (cond (is_rejection s k) (then_read (truth_at at d) (λ b. Ok (record r { reject_anonymous = b })))
    (cond (bytes_eq k (codes "rule")) (then_read x (λ rs. Ok (record r { rules = rs }))) (Err (Unknown at)))))
    (rules_same s at d)

bar_same : (s : Service) (at : List ℕ) (ms : Members) → bar_of (schema version.One s) at ms ≡ first_bar s at ms
bar_same s at ms = ap (λ (x : Read BarDraft). then_read x (λ r. Ok (bar_part r))) (members_alike at _ (λ at r k d. first_bar_key s at r k d) (bar_key_same s) no_bar_keys ms)

table_same : (at : List ℕ) (s : Sheet) (t : TableKey) (ms : Members) → table_read version.One at s t ms ≡ first_table at s t ms
table_same at s part.Diversion ms = both_alike _ _ _ _ (diversion_same at ms) (λ p. refl)
table_same at s part.Incoming ms = both_alike _ _ _ _ (bar_same service.Incoming at ms) (λ p. refl)
table_same at s part.Outgoing ms = both_alike _ _ _ _ (bar_same service.Outgoing at ms) (λ p. refl)
table_same at s part.Oip ms = refl
table_same at s part.Oir ms = refl
table_same at s part.Tip ms = refl
table_same at s part.Tir ms = refl
table_same at s part.Waiting ms = refl

name_same : (at : List ℕ) (s : Sheet) (t : Option TableKey) (d : Data) → named_read version.One at s t d ≡ first_name at s t d
name_same at s None d = refl
name_same at s (Some t) d = then_alike (or_wrong at (as_table d)) _ _ (λ ms. table_same at s t ms)

-- ---- the record

-- no member has this key
record IsAbsent (o : Ordering) (others : Option Data) : Type 0 where
  pub apart : is_eq o ≡ false
  pub more : others ≡ None

absent : (o : Ordering) (more : Option Data) (d : Data) → match_ordering o more (Some d) more ≡ None → IsAbsent o more
absent Less more d e = record { apart = refl; more = e }
absent Equal more d e = absurd cc
absent Greater more d e = record { apart = refl; more = e }

not_true : (b : Bool) → (b ≡ true → ⊥) → b ≡ false
not_true true h = absurd (h refl)
not_true false h = refl

other_way : (k l : List ℕ) → bytes_eq k l ≡ false → bytes_eq l k ≡ false
other_way k l apart = not_true (bytes_eq l k) (λ e. false≢true (sym apart ∙ (bytes_eq-Decides k l).1 (sym ((bytes_eq-Decides l k).0 e))))

tables_same : (s : Sheet) (ms : Members) → HasNoVersion ms → sheet_from version.One s ms ≡ first_from s ms
tables_same s no_members none = refl
tables_same s (member k d ms) none =
    let is = absent (slice_cmp nat_cmp (codes "version") k) (get_member (codes "version") ms) d none in
    let apart : bytes_eq k (codes "version") ≡ false = other_way (codes "version") k (sym (is_eq-slice_cmp (codes "version") k) ∙ is.apart) in
    let here : name_read version.One k s d ≡ first_name k s (table_key_of k) d = rw apart (name_same k s (table_key_of k) d) in
    both_alike (name_read version.One k s d) (first_name k s (table_key_of k) d) (λ t. sheet_from version.One t ms) (λ t. first_from t ms) here (λ t. tables_same t ms is.more)

pub document_same : (ms : Members) → HasNoVersion ms → sheet_of ms ≡ first_sheet ms
document_same ms none = rw none (tables_same empty_sheet ms none)

parsed_same : (b : Bool) (o : Option Members) → ((ms : Members) → o ≡ Some ms → HasNoVersion ms) → cond b (document_read o) (Err NotToml) ≡ cond b (first_document o) (Err NotToml)
parsed_same false o none = refl
parsed_same true None none = refl
parsed_same true (Some ms) none = document_same ms (none ms refl)

pub text_same : (bytes : List ℕ) → NamesNoVersion bytes → sheet_read bytes ≡ first_read bytes
unfolding sheet_read
text_same bytes none = parsed_same (is_utf8 bytes) (parse_document bytes) none
