-- The records in force have URIs of one line: each URI of a record is read from a text by the grammar of URIs.
use Rattle.std.proofs.Common.{◌≡◌, ℕ, Bool, true, false, List, [], ◌∷◌, ◌++◌, length, Option, Some, None, refl, IfOk, IfSome, Result, Ok, Err}
use Rattle.std.specs.Prelude.{if◌then◌else◌, nat_lt, nat_le, not, ◌&&◌, ◌+◌, ℤ, int_lt, codes}
use Rattle.std.specs.List.{list_all}
use Rattle.std.specs.Str.{bytes_eq, is_utf8}
use Rattle.toml.specs.Data.{Data, Items, Members, as_array, as_table, item, member, no_items, no_members}
use Rattle.toml.specs.Parse.{parse_document}
use Rattle.mmtel_call_theorems.specs.NoInjection.Inputs.{RulesHaveNoInjection, SheetHasNoInjection, UriHasNoInjection, action_has_no_injection, rule_has_no_injection}
use Rattle.mmtel_call_theorems.proofs.NoInjection.Bytes.{all_append, all_cons}
use Rattle.mmtel_call_theorems.proofs.NoInjection.ReceivedMessages.{read_uri_no_injection}
use Rattle.mmtel_lex.specs.Reading.{Refusal, uri_of}
use Rattle.mmtel_lex.specs.declared.values.Uri.{Uri}
use Rattle.mmtel_sheet_grammar.specs.ReadResults.{Read, or_wrong, then_read}
use Rattle.mmtel_sheet_grammar.specs.Elements.{is_target, target_at, target_or_wrong, text_at, time_at, tokens_at, truth_at, uri_read, uris_at, domain_at, number_at, clock_at, days_at, offset_at}
use Rattle.mmtel_sheet_grammar.specs.Keys.{dotted_path, rule_key_of, rule_path}
use Rattle.mmtel_sheet_grammar.specs.Rules.{action_of, allow_read, are_tables, event_read, forward_read, has_key, items_count, key_read, keys_of_rule, listed_key, listed_key_read, members_from}
use Rattle.mmtel_sheet_grammar.specs.Rules.{empty_draft, rule_from, rule_key_read, rule_of, rules_at, rules_from, rules_of, rules_within, until_read, day_until_read, days_read, offset_read, with_event}
use Rattle.mmtel_sheet_grammar.specs.Texts.{document_read, sheet_or_empty, sheet_read, stored_sheet}
use Rattle.mmtel_sheet_grammar.specs.Walk.{schema, is_bound, version_at, version_of, name_read, bar_of, diversion_key, diversion_of, diversion_part}
use Rattle.mmtel_sheet_grammar.specs.Walk.{named_read, no_diversion_keys, presentation_of, restriction_of, sheet_from, table_key_of, table_read, waiting_of}
use Rattle.mmtel_sheet_grammar.specs.declared.drafts.DiversionDraft.{DiversionDraft}
use Rattle.mmtel_sheet_grammar.specs.declared.drafts.Hours.{Hours}
use Rattle.mmtel_sheet_grammar.specs.declared.drafts.Notifications.{Notifications}
use Rattle.mmtel_sheet_grammar.specs.declared.drafts.RuleDraft.{RuleDraft}
use Rattle.mmtel_sheet_grammar.specs.declared.keys.RuleKey.{RuleKey}
use Rattle.mmtel_sheet_grammar.specs.declared.keys.RuleKey.TheVariants as key
use Rattle.mmtel_sheet_grammar.specs.declared.keys.Service.{Service}
use Rattle.mmtel_sheet_grammar.specs.declared.keys.Service.TheVariants as service
use Rattle.mmtel_sheet_grammar.specs.declared.keys.Version.{Version}
use Rattle.mmtel_sheet_grammar.specs.declared.keys.Schema.{Schema}
use Rattle.mmtel_sheet_grammar.specs.declared.keys.TableKey.{TableKey}
use Rattle.mmtel_sheet_grammar.specs.declared.keys.TableKey.TheVariants as table
use Rattle.mmtel_sheet_values.specs.Sheets.{empty_sheet}
use Rattle.mmtel_sheet_values.specs.declared.values.Action.{Action}
use Rattle.mmtel_sheet_values.specs.declared.values.EventWord.{EventWord}
use Rattle.mmtel_sheet_values.specs.declared.values.Rule.{Rule}
use Rattle.mmtel_sheet_values.specs.declared.values.Sheet.{Sheet}
use Rattle.mmtel_sheet_values.specs.declared.values.Weekly.{Weekly}
use Rattle.mmtel_trust.specs.Asserted.{or_no_uri}

-- ---- what is read, if it is

module _ {A B : Type 0} where
  then_ok : (P : A → Type 0) (Q : B → Type 0) (r : Read A) (next : A → Read B) → IfOk r P → ((a : A) → P a → IfOk (next a) Q) → IfOk (then_read r next) Q
  then_ok P Q (Ok a) next h f = f a h
  then_ok P Q (Err e) next h f = tt

  -- whatever the first is
  any_ok : (Q : B → Type 0) (r : Read A) (next : A → Read B) → ((a : A) → IfOk (next a) Q) → IfOk (then_read r next) Q
  any_ok Q (Ok a) next f = f a
  any_ok Q (Err e) next f = tt

if_ok : {A : Type 0} (Q : A → Type 0) (b : Bool) (x y : Read A) → IfOk x Q → IfOk y Q → IfOk (if b then x else y) Q
if_ok Q true x y h g = h
if_ok Q false x y h g = g

-- ---- the keys of a rule

abbrev DraftHasNoInjection : RuleDraft → Type 0
DraftHasNoInjection r = IfSome r.target UriHasNoInjection

uri_ok : (at : List ℕ) (o : Result Uri Refusal) → IfSome (or_no_uri o) UriHasNoInjection → IfOk (or_wrong at (uri_read o)) UriHasNoInjection
uri_ok at (Ok u) h = h
uri_ok at (Err e) h = tt

target_ok : (at : List ℕ) (d : Data) → IfOk (target_at at d) UriHasNoInjection
target_ok at d =
    any_ok UriHasNoInjection (text_at at d) (λ s. then_read (or_wrong at (uri_read (uri_of s))) (λ u. target_or_wrong at s u))
    (λ s. then_ok UriHasNoInjection UriHasNoInjection (or_wrong at (uri_read (uri_of s))) (λ u. target_or_wrong at s u) (uri_ok at (uri_of s) (read_uri_no_injection s))
    (λ u h. if_ok UriHasNoInjection (is_target u && nat_le (length s) 256) _ _ h tt))

event_ok : (at : List ℕ) (e : EventWord) (r : RuleDraft) (o : Option EventWord) → DraftHasNoInjection r → IfOk (with_event at e r o) DraftHasNoInjection
event_ok at e r None h = h
event_ok at e r (Some f) h = tt

event_read_ok : (at : List ℕ) (e : EventWord) (r : RuleDraft) (b : Bool) → DraftHasNoInjection r → IfOk (event_read at e r b) DraftHasNoInjection
event_read_ok at e r true h = event_ok at e r r.event h
event_read_ok at e r false h = h

until_ok : (at : List ℕ) (r : RuleDraft) (t : ℤ) (o : Option ℤ) → DraftHasNoInjection r → IfOk (until_read at r t o) DraftHasNoInjection
until_ok at r t None h = tt
until_ok at r t (Some f) h = if_ok DraftHasNoInjection (int_lt f t) _ _ h tt

hours_ok : (at : List ℕ) (r : RuleDraft) (n : ℕ) (o : Option ℕ) → DraftHasNoInjection r → IfOk (day_until_read at r n o) DraftHasNoInjection
hours_ok at r n None h = tt
hours_ok at r n (Some f) h = if_ok DraftHasNoInjection (nat_lt f n) _ _ h tt

days_ok : (at : List ℕ) (r : RuleDraft) (days : List Bool) (o : Option Hours) → DraftHasNoInjection r → IfOk (days_read at r days o) DraftHasNoInjection
days_ok at r days None h = tt
days_ok at r days (Some hours) h = h

offset_ok : (at : List ℕ) (r : RuleDraft) (z : ℤ) (o : Option Weekly) → DraftHasNoInjection r → IfOk (offset_read at r z o) DraftHasNoInjection
offset_ok at r z None h = tt
offset_ok at r z (Some w) h = h

key_ok : (ms : Members) (at : List ℕ) (r : RuleDraft) (k : RuleKey) (d : Data) → DraftHasNoInjection r → IfOk (key_read ms at r k d) DraftHasNoInjection
key_ok ms at r key.Allow d h = any_ok DraftHasNoInjection (truth_at at d) _ (λ b. h)
key_ok ms at r key.Anonymous d h = any_ok DraftHasNoInjection (truth_at at d) _ (λ b. h)
key_ok ms at r key.DayFrom d h = any_ok DraftHasNoInjection (clock_at 1_439 at d) _ (λ n. if_ok DraftHasNoInjection (has_key (codes "day-until") ms && has_key (codes "days") ms) _ _ h tt)
key_ok ms at r key.DayUntil d h = any_ok DraftHasNoInjection (clock_at 1_440 at d) _ (λ n. hours_ok at r n r.day_from h)
key_ok ms at r key.Days d h = any_ok DraftHasNoInjection (days_at at d) _ (λ days. days_ok at r days r.hours h)
key_ok ms at r key.Diverted d h = any_ok DraftHasNoInjection (truth_at at d) _ (λ b. h)
key_ok ms at r (key.Event e) d h = any_ok DraftHasNoInjection (truth_at at d) _ (λ b. event_read_ok at e r b h)
key_ok ms at r key.Except d h =
    any_ok DraftHasNoInjection (uris_at at d) _ (λ uris. if_ok DraftHasNoInjection (has_key (codes "many") ms) _ _ (if_ok DraftHasNoInjection (nat_lt 64 (length uris) && not (has_key (codes "one") ms)) _ _ tt h) tt)
key_ok ms at r key.From d h = any_ok DraftHasNoInjection (time_at at d) _ (λ t. if_ok DraftHasNoInjection (has_key (codes "until") ms) _ _ h tt)
key_ok ms at r key.Id d h = any_ok DraftHasNoInjection (text_at at d) _ (λ s. h)
key_ok ms at r key.International d h = any_ok DraftHasNoInjection (truth_at at d) _ (λ b. h)
key_ok ms at r key.Many d h = any_ok DraftHasNoInjection (domain_at at d) _ (λ s. h)
key_ok ms at r key.Media d h = any_ok DraftHasNoInjection (tokens_at at d) _ (λ ts. h)
key_ok ms at r (key.Notification n) d h = any_ok DraftHasNoInjection (truth_at at d) _ (λ b. h)
key_ok ms at r key.Offset d h = any_ok DraftHasNoInjection (offset_at at d) _ (λ z. offset_ok at r z r.weekly h)
key_ok ms at r key.One d h = any_ok DraftHasNoInjection (uris_at at d) _ (λ uris. if_ok DraftHasNoInjection (nat_lt 64 (length uris + length r.except)) _ _ tt h)
key_ok ms at r key.Target d h = then_ok UriHasNoInjection DraftHasNoInjection (target_at at d) _ (target_ok at d) (λ u clean. clean)
key_ok ms at r key.Until d h = any_ok DraftHasNoInjection (time_at at d) _ (λ t. until_ok at r t r.from h)

listed_key_ok : (ms : Members) (at : List ℕ) (r : RuleDraft) (o : Option RuleKey) (d : Data) → DraftHasNoInjection r → IfOk (listed_key_read ms at r o d) DraftHasNoInjection
listed_key_ok ms at r None d h = tt
listed_key_ok ms at r (Some k) d h = key_ok ms at r k d h

members_ok : {A : Type 0} (P : A → Type 0) (path : List ℕ) (read : List ℕ → A → List ℕ → Data → Read A) →
    ((at : List ℕ) (a : A) (k : List ℕ) (d : Data) → P a → IfOk (read at a k d) P) → (a : A) (ms : Members) → P a → IfOk (members_from path read a ms) P
members_ok P path read each a no_members h = h
members_ok P path read each a (member k d ms) h =
    then_ok P P (read (dotted_path path k) a k d) (λ b. members_from path read b ms) (each (dotted_path path k) a k d h) (λ b clean. members_ok P path read each b ms clean)

-- ---- rules

abbrev RuleHasNoInjection : Rule → Type 0
RuleHasNoInjection r = rule_has_no_injection r ≡ true

abbrev ActionHasNoInjection : Action → Type 0
ActionHasNoInjection a = action_has_no_injection a ≡ true

forward_ok : (path : List ℕ) (o : Option Uri) (n : Notifications) → IfSome o UriHasNoInjection → IfOk (forward_read path o n) ActionHasNoInjection
forward_ok path None n h = tt
forward_ok path (Some u) n h = h

allow_ok : (path : List ℕ) (o : Option Bool) → IfOk (allow_read path o) ActionHasNoInjection
allow_ok path None = tt
allow_ok path (Some b) = refl

action_ok : (s : Service) (path : List ℕ) (target : Option Uri) (n : Notifications) (allow : Option Bool) → IfSome target UriHasNoInjection → IfOk (action_of s path target n allow) ActionHasNoInjection
action_ok service.Diversion path target n allow h = forward_ok path target n h
action_ok service.Incoming path target n allow h = allow_ok path allow
action_ok service.Outgoing path target n allow h = allow_ok path allow

rule_ok : (s : Schema) (path : List ℕ) (ms : Members) → IfOk (rule_of s path ms) RuleHasNoInjection
rule_ok s path ms =
    then_ok DraftHasNoInjection RuleHasNoInjection (keys_of_rule s path ms) _
    (members_ok DraftHasNoInjection path (λ at d k v. rule_key_read s ms at d k v) (λ at r k d h. listed_key_ok ms at r (listed_key s (rule_key_of k)) d h) empty_draft ms tt)
    (λ r h. then_ok ActionHasNoInjection RuleHasNoInjection (action_of s.service path r.target r.notifications r.allow) (λ a. Ok (rule_from r a))
    (action_ok s.service path r.target r.notifications r.allow h) (λ a clean. clean))

abbrev AllRulesHaveNoInjection : List Rule → Type 0
AllRulesHaveNoInjection rules = list_all rule_has_no_injection rules ≡ true

rules_from_ok : (s : Schema) (path : List ℕ) (done : List Rule) (ds : Items) → AllRulesHaveNoInjection done → IfOk (rules_from s path done ds) AllRulesHaveNoInjection
rules_from_ok s path done no_items h = h
rules_from_ok s path done (item d ds) h =
    any_ok AllRulesHaveNoInjection (or_wrong path (as_table d)) _
    (λ ms. then_ok RuleHasNoInjection AllRulesHaveNoInjection (rule_of s (rule_path path (length done)) ms) (λ r. rules_from s path (done ++ r ∷ []) ds) (rule_ok s (rule_path path (length done)) ms)
    (λ r clean. rules_from_ok s path (done ++ r ∷ []) ds (all_append rule_has_no_injection done (r ∷ []) h (all_cons rule_has_no_injection r [] clean refl))))

rules_ok : (s : Schema) (at : List ℕ) (d : Data) → IfOk (rules_at s at d) AllRulesHaveNoInjection
rules_ok s at d =
    any_ok AllRulesHaveNoInjection (or_wrong at (as_array d)) (λ ds. rules_of s at ds)
    (λ ds. if_ok AllRulesHaveNoInjection (are_tables ds) (rules_within s at ds) _ (if_ok AllRulesHaveNoInjection (nat_lt 64 (items_count ds)) _ (rules_from s at [] ds) tt (rules_from_ok s at [] ds refl)) tt)

-- ---- tables

abbrev DiversionDraftHasNoInjection : DiversionDraft → Type 0
DiversionDraftHasNoInjection r = AllRulesHaveNoInjection r.rules

diversion_key_ok : (v : Version) (at : List ℕ) (r : DiversionDraft) (k : List ℕ) (d : Data) → DiversionDraftHasNoInjection r → IfOk (diversion_key v at r k d) DiversionDraftHasNoInjection
diversion_key_ok v at r k d h =
    if_ok DiversionDraftHasNoInjection (bytes_eq k (codes "active")) _ _ (any_ok DiversionDraftHasNoInjection (truth_at at d) _ (λ b. h))
    (if_ok DiversionDraftHasNoInjection (is_bound v k) _ _ (any_ok DiversionDraftHasNoInjection (number_at 0 16 at d) _ (λ n. h))
    (if_ok DiversionDraftHasNoInjection (bytes_eq k (codes "deflection")) _ _ (any_ok DiversionDraftHasNoInjection (truth_at at d) _ (λ b. h))
    (if_ok DiversionDraftHasNoInjection (bytes_eq k (codes "no-reply-time")) _ _ (any_ok DiversionDraftHasNoInjection (number_at 5 180 at d) _ (λ n. h))
    (if_ok DiversionDraftHasNoInjection (bytes_eq k (codes "rule")) _ _
    (then_ok AllRulesHaveNoInjection DiversionDraftHasNoInjection (rules_at (schema v service.Diversion) at d) _ (rules_ok (schema v service.Diversion) at d) (λ rs clean. clean)) tt))))

part_ok : (b : Bool) (r : DiversionDraft) → DiversionDraftHasNoInjection r → IfSome (diversion_part (record r { active = b })) RulesHaveNoInjection
part_ok true r h = h
part_ok false r h = tt

diversion_ok : (v : Version) (path : List ℕ) (ms : Members) → IfOk (diversion_of v path ms) (λ o. IfSome o RulesHaveNoInjection)
diversion_ok v path ms =
    then_ok DiversionDraftHasNoInjection (λ o. IfSome o RulesHaveNoInjection) (members_from path (λ at r k d. diversion_key v at r k d) no_diversion_keys ms) _
    (members_ok DiversionDraftHasNoInjection path (λ at r k d. diversion_key v at r k d) (diversion_key_ok v) no_diversion_keys ms refl) (λ r h. part_ok r.active r h)

table_ok : (v : Version) (at : List ℕ) (s : Sheet) (k : TableKey) (ms : Members) → SheetHasNoInjection s → IfOk (table_read v at s k ms) SheetHasNoInjection
table_ok v at s table.Diversion ms h = then_ok (λ o. IfSome o RulesHaveNoInjection) SheetHasNoInjection (diversion_of v at ms) _ (diversion_ok v at ms) (λ p clean. clean)
table_ok v at s table.Incoming ms h = any_ok SheetHasNoInjection (bar_of (schema v service.Incoming) at ms) _ (λ p. h)
table_ok v at s table.Outgoing ms h = any_ok SheetHasNoInjection (bar_of (schema v service.Outgoing) at ms) _ (λ p. h)
table_ok v at s table.Oip ms h = any_ok SheetHasNoInjection (presentation_of at ms) _ (λ b. h)
table_ok v at s table.Oir ms h = any_ok SheetHasNoInjection (restriction_of at ms) _ (λ r. h)
table_ok v at s table.Tip ms h = any_ok SheetHasNoInjection (presentation_of at ms) _ (λ b. h)
table_ok v at s table.Tir ms h = any_ok SheetHasNoInjection (restriction_of at ms) _ (λ r. h)
table_ok v at s table.Waiting ms h = any_ok SheetHasNoInjection (waiting_of at ms) _ (λ n. h)

named_ok : (v : Version) (at : List ℕ) (s : Sheet) (o : Option TableKey) (d : Data) → SheetHasNoInjection s → IfOk (named_read v at s o d) SheetHasNoInjection
named_ok v at s None d h = tt
named_ok v at s (Some t) d h = any_ok SheetHasNoInjection (or_wrong at (as_table d)) (λ ms. table_read v at s t ms) (λ ms. table_ok v at s t ms h)

-- ---- records

name_ok : (v : Version) (k : List ℕ) (s : Sheet) (d : Data) → SheetHasNoInjection s → IfOk (name_read v k s d) SheetHasNoInjection
name_ok v k s d h = if_ok SheetHasNoInjection (bytes_eq k (codes "version")) _ _ (any_ok SheetHasNoInjection (version_at k d) _ (λ w. h)) (named_ok v k s (table_key_of k) d h)

sheet_from_ok : (v : Version) (s : Sheet) (ms : Members) → SheetHasNoInjection s → IfOk (sheet_from v s ms) SheetHasNoInjection
sheet_from_ok v s no_members h = h
sheet_from_ok v s (member k d ms) h =
    then_ok SheetHasNoInjection SheetHasNoInjection (name_read v k s d) (λ t. sheet_from v t ms) (name_ok v k s d h) (λ t clean. sheet_from_ok v t ms clean)

document_ok : (o : Option Members) → IfOk (document_read o) SheetHasNoInjection
document_ok None = tt
document_ok (Some ms) = any_ok SheetHasNoInjection (version_of ms) (λ v. sheet_from v empty_sheet ms) (λ v. sheet_from_ok v empty_sheet ms tt)

or_empty_ok : (r : Read Sheet) → IfOk r SheetHasNoInjection → SheetHasNoInjection (sheet_or_empty r)
or_empty_ok (Ok s) h = h
or_empty_ok (Err e) h = tt

pub kept_no_injection : (bytes : List ℕ) → SheetHasNoInjection (stored_sheet bytes)
unfolding sheet_read
kept_no_injection bytes = or_empty_ok (sheet_read bytes) (if_ok SheetHasNoInjection (is_utf8 bytes) (document_read (parse_document bytes)) _ (document_ok (parse_document bytes)) tt)
