-- Records of the first version by themselves, without the keys that came with the second: the content of a record that names no version, and which fault is its first (3GPP TS
-- 24.623; TS 24.604, 24.607, 24.608, 24.611, 24.615).
use Rattle.std.specs.Prelude.{◌≡◌, ℕ, List, [], ◌∷◌, ◌++◌, Bool, true, false, nat_lt, Option, Some, None, Ok, Err, if◌then◌else◌, codes, length}
use Rattle.std.specs.Str.{bytes_eq, is_utf8}
use Rattle.toml.specs.Parse.{parse_document}
use Rattle.toml.specs.Data.{Data, Items, no_items, item, Members, no_members, member, get_member, as_array, as_table}
use Rattle.mmtel_sheet_grammar.specs.ReadResults.{Read, then_read, or_wrong}
use Rattle.mmtel_sheet_grammar.specs.Elements.{truth_at, number_at}
use Rattle.mmtel_sheet_grammar.specs.Keys.{event_of, notification_of, identity_key_of, other_key_of, key_or, notification_or}
use Rattle.mmtel_sheet_grammar.specs.Keys.{event_or, is_diversion, is_barring, applies_to_callers, rule_path}
use Rattle.mmtel_sheet_grammar.specs.Rules.{members_from, empty_draft, listed_key_read, action_of, rule_from, are_tables, items_count}
use Rattle.mmtel_sheet_grammar.specs.Walk.{no_diversion_keys, diversion_part, no_bar_keys, is_rejection, bar_part, presentation_of, restriction_of, waiting_of, table_key_of}
use Rattle.mmtel_sheet_grammar.specs.declared.faults.SheetFault.TheVariants.{NotToml, Unknown, Wrong, Many}
use Rattle.mmtel_sheet_grammar.specs.declared.keys.Service.{Service}
use Rattle.mmtel_sheet_grammar.specs.declared.keys.Service.TheVariants as service
use Rattle.mmtel_sheet_grammar.specs.declared.keys.RuleKey.{RuleKey}
use Rattle.mmtel_sheet_grammar.specs.declared.keys.RuleKey.TheVariants as key
use Rattle.mmtel_sheet_grammar.specs.declared.keys.TableKey.{TableKey}
use Rattle.mmtel_sheet_grammar.specs.declared.keys.TableKey.TheVariants as part
use Rattle.mmtel_sheet_grammar.specs.declared.drafts.BarDraft.{BarDraft}
use Rattle.mmtel_sheet_grammar.specs.declared.drafts.DiversionDraft.{DiversionDraft}
use Rattle.mmtel_sheet_grammar.specs.declared.drafts.RuleDraft.{RuleDraft}
use Rattle.mmtel_sheet_values.specs.Sheets.{empty_sheet}
use Rattle.mmtel_sheet_values.specs.declared.values.BarPart.{BarPart}
use Rattle.mmtel_sheet_values.specs.declared.values.DiversionPart.{DiversionPart}
use Rattle.mmtel_sheet_values.specs.declared.values.Rule.{Rule}
use Rattle.mmtel_sheet_values.specs.declared.values.Sheet.{Sheet}

-- ---- rules

-- the key of a name
abbrev pub first_key_of : List ℕ → Option RuleKey
first_key_of k = event_or (event_of k) (notification_or (notification_of k) (key_or (identity_key_of k) (other_key_of k)))

-- whether the rules of the service have the key
abbrev pub has_first_key : Service → RuleKey → Bool
has_first_key s key.Allow = is_barring s
has_first_key s key.Anonymous = applies_to_callers s
has_first_key s key.DayFrom = false
has_first_key s key.DayUntil = false
has_first_key s key.Days = false
has_first_key s key.Diverted = false
has_first_key s (key.Event e) = is_diversion s
has_first_key s key.Except = true
has_first_key s key.From = true
has_first_key s key.Id = true
has_first_key s key.International = false
has_first_key s key.Many = true
has_first_key s key.Media = true
has_first_key s (key.Notification n) = is_diversion s
has_first_key s key.Offset = false
has_first_key s key.One = true
has_first_key s key.Target = is_diversion s
has_first_key s key.Until = true

abbrev pub first_listed : Service → Option RuleKey → Option RuleKey
first_listed s None = None
first_listed s (Some k) = if has_first_key s k then Some k else None

-- a key of a rule of the service, in the table of these members
abbrev pub first_rule_key : Service → Members → List ℕ → RuleDraft → List ℕ → Data → Read RuleDraft
first_rule_key s ms at r k d = listed_key_read ms at r (first_listed s (first_key_of k)) d

-- the rule of a table
abbrev pub first_rule : Service → List ℕ → Members → Read Rule
first_rule s path ms =
    then_read (members_from path (λ at r k d. first_rule_key s ms at r k d) empty_draft ms)
    (λ r. then_read (action_of s path r.target r.notifications r.allow) (λ a. Ok (rule_from r a)))

-- rules after those that were read before, numbered from 0
abbrev pub first_rules_from : Service → List ℕ → List Rule → Items → Read (List Rule)
first_rules_from s path done no_items = Ok done
first_rules_from s path done (item d ds) =
    then_read (or_wrong path (as_table d)) (λ ms. then_read (first_rule s (rule_path path (length done)) ms) (λ r. first_rules_from s path (done ++ r ∷ []) ds))

-- an array of at most 64 tables
abbrev pub first_rules_of : Service → List ℕ → Items → Read (List Rule)
first_rules_of s path ds = if are_tables ds then (if nat_lt 64 (items_count ds) then Err (Many path 64) else first_rules_from s path [] ds) else Err (Wrong path)

abbrev pub first_rules_at : Service → List ℕ → Data → Read (List Rule)
first_rules_at s at d = then_read (or_wrong at (as_array d)) (λ ds. first_rules_of s at ds)

-- ---- tables

abbrev pub first_diversion_key : List ℕ → DiversionDraft → List ℕ → Data → Read DiversionDraft
first_diversion_key at r k d =
    if bytes_eq k (codes "active") then then_read (truth_at at d) (λ b. Ok (record r { active = b }))
    else if bytes_eq k (codes "deflection") then then_read (truth_at at d) (λ b. Ok (record r { deflection = b }))
    else if bytes_eq k (codes "no-reply-time") then then_read (number_at 5 180 at d) (λ n. Ok (record r { no_reply = n }))
    else if bytes_eq k (codes "rule") then then_read (first_rules_at service.Diversion at d) (λ rs. Ok (record r { rules = rs }))
    else Err (Unknown at)

abbrev pub first_diversion : List ℕ → Members → Read (Option DiversionPart)
first_diversion path ms = then_read (members_from path (λ at r k d. first_diversion_key at r k d) no_diversion_keys ms) (λ r. Ok (diversion_part r))

abbrev pub first_bar_key : Service → List ℕ → BarDraft → List ℕ → Data → Read BarDraft
first_bar_key s at r k d =
    if bytes_eq k (codes "active") then then_read (truth_at at d) (λ b. Ok (record r { active = b }))
    else if is_rejection s k then then_read (truth_at at d) (λ b. Ok (record r { reject_anonymous = b }))
    else if bytes_eq k (codes "rule") then then_read (first_rules_at s at d) (λ rs. Ok (record r { rules = rs }))
    else Err (Unknown at)

abbrev pub first_bar : Service → List ℕ → Members → Read (Option BarPart)
first_bar s path ms = then_read (members_from path (λ at r k d. first_bar_key s at r k d) no_bar_keys ms) (λ r. Ok (bar_part r))

-- ---- the record

abbrev pub first_table : List ℕ → Sheet → TableKey → Members → Read Sheet
first_table at s part.Diversion ms = then_read (first_diversion at ms) (λ p. Ok (record s { diversion = p }))
first_table at s part.Incoming ms = then_read (first_bar service.Incoming at ms) (λ p. Ok (record s { incoming = p }))
first_table at s part.Outgoing ms = then_read (first_bar service.Outgoing at ms) (λ p. Ok (record s { outgoing = p }))
first_table at s part.Oip ms = then_read (presentation_of at ms) (λ b. Ok (record s { oip = b }))
first_table at s part.Oir ms = then_read (restriction_of at ms) (λ r. Ok (record s { oir = r }))
first_table at s part.Tip ms = then_read (presentation_of at ms) (λ b. Ok (record s { tip = b }))
first_table at s part.Tir ms = then_read (restriction_of at ms) (λ r. Ok (record s { tir = r }))
first_table at s part.Waiting ms = then_read (waiting_of at ms) (λ n. Ok (record s { waiting = n }))

abbrev pub first_name : List ℕ → Sheet → Option TableKey → Data → Read Sheet
first_name at s None d = Err (Unknown at)
first_name at s (Some t) d = then_read (or_wrong at (as_table d)) (λ ms. first_table at s t ms)

-- the tables, one after another
abbrev pub first_from : Sheet → Members → Read Sheet
first_from s no_members = Ok s
first_from s (member k d ms) = then_read (first_name k s (table_key_of k) d) (λ t. first_from t ms)

-- the sheet of a document of the first version, or its first fault
abbrev pub first_sheet : Members → Read Sheet
first_sheet ms = first_from empty_sheet ms

abbrev pub first_document : Option Members → Read Sheet
first_document None = Err NotToml
first_document (Some ms) = first_sheet ms

-- the same of a text
abbrev pub first_read : List ℕ → Read Sheet
first_read bytes = if is_utf8 bytes then first_document (parse_document bytes) else Err NotToml

-- the document names no version
abbrev pub HasNoVersion : Members → Type 0
HasNoVersion ms = get_member (codes "version") ms ≡ None

-- the document that the text is, where it is one, names no version
abbrev pub NamesNoVersion : List ℕ → Type 0
NamesNoVersion bytes = (ms : Members) → parse_document bytes ≡ Some ms → HasNoVersion ms
