-- A service record as a sheet (3GPP TS 24.623; TS 24.604, 24.607, 24.608, 24.611, 24.615): what is read of the tables of a TOML document, in byte order of their names, and
-- which fault is the first.
use Rattle.std.specs.Prelude.{◌≡◌, ℕ, ◌==◌, List, [], Bool, true, false, ◌&&◌, Option, Some, None, Ok, Err, if◌then◌else◌, codes, IsUtf8}
use Rattle.std.specs.Str.{bytes_eq}
use Rattle.toml.specs.Parse.{parse_document}
use Rattle.toml.specs.Data.{Data, Members, no_members, member, get_member, as_table}
use Rattle.mmtel_sheet_grammar.specs.ReadResults.{Read, then_read, or_wrong}
use Rattle.mmtel_sheet_grammar.specs.Elements.{truth_at, number_at, text_at}
use Rattle.mmtel_sheet_grammar.specs.Rules.{members_from, rules_at}
use Rattle.mmtel_sheet_grammar.specs.declared.faults.SheetFault.{SheetFault}
use Rattle.mmtel_sheet_grammar.specs.declared.faults.SheetFault.TheVariants.{NotToml, Unknown, Wrong, Many, NoMemory}
use Rattle.mmtel_sheet_grammar.specs.declared.keys.Service.{Service}
use Rattle.mmtel_sheet_grammar.specs.declared.keys.Service.TheVariants as service
use Rattle.mmtel_sheet_grammar.specs.declared.keys.Version.{Version}
use Rattle.mmtel_sheet_grammar.specs.declared.keys.Version.TheVariants as version
use Rattle.mmtel_sheet_grammar.specs.declared.keys.Schema.{Schema}
use Rattle.mmtel_sheet_grammar.specs.declared.keys.TableKey.{TableKey}
use Rattle.mmtel_sheet_grammar.specs.declared.keys.TableKey.TheVariants as key
use Rattle.mmtel_sheet_grammar.specs.declared.drafts.DiversionDraft.{DiversionDraft}
use Rattle.mmtel_sheet_grammar.specs.declared.drafts.BarDraft.{BarDraft}
use Rattle.mmtel_sheet_grammar.specs.declared.drafts.WaitingDraft.{WaitingDraft}
use Rattle.mmtel_sheet_values.specs.declared.values.BarPart.{BarPart}
use Rattle.mmtel_sheet_values.specs.declared.values.DiversionPart.{DiversionPart}
use Rattle.mmtel_sheet_values.specs.declared.values.Restriction.{Restriction}
use Rattle.mmtel_sheet_values.specs.declared.values.Sheet.{Sheet}
use Rattle.mmtel_sheet_values.specs.Sheets.{empty_sheet}

-- the rules of a service, in a version of records
abbrev pub schema : Version → Service → Schema
schema v s = record { service = s; version = v }

-- ---- communication diversion

-- a table that is present is active where it does not say otherwise
abbrev pub no_diversion_keys : DiversionDraft
no_diversion_keys = record { active = true; bound = None; deflection = false; no_reply = 20; rules = [] }

-- the second version has a bound
abbrev pub is_bound : Version → List ℕ → Bool
is_bound version.One k = false
is_bound version.Two k = bytes_eq k (codes "bound")

abbrev pub diversion_key : Version → List ℕ → DiversionDraft → List ℕ → Data → Read DiversionDraft
diversion_key v at r k d =
    if bytes_eq k (codes "active") then then_read (truth_at at d) (λ b. Ok (record r { active = b }))
    else if is_bound v k then then_read (number_at 0 16 at d) (λ n. Ok (record r { bound = Some n }))
    else if bytes_eq k (codes "deflection") then then_read (truth_at at d) (λ b. Ok (record r { deflection = b }))
    else if bytes_eq k (codes "no-reply-time") then then_read (number_at 5 180 at d) (λ n. Ok (record r { no_reply = n }))
    else if bytes_eq k (codes "rule") then then_read (rules_at (schema v service.Diversion) at d) (λ rs. Ok (record r { rules = rs }))
    else Err (Unknown at)

-- a table that is not active gives nothing
abbrev pub diversion_part : DiversionDraft → Option DiversionPart
diversion_part r = if r.active then Some (record { rules = r.rules; no_reply = r.no_reply; deflection = r.deflection; bound = r.bound }) else None

abbrev pub diversion_of : Version → List ℕ → Members → Read (Option DiversionPart)
diversion_of v path ms = then_read (members_from path (λ at r k d. diversion_key v at r k d) no_diversion_keys ms) (λ r. Ok (diversion_part r))

-- ---- barring

abbrev pub no_bar_keys : BarDraft
no_bar_keys = record { active = true; reject_anonymous = false; rules = [] }

-- only incoming barring rejects anonymous callers
abbrev pub is_rejection : Service → List ℕ → Bool
is_rejection service.Diversion k = false
is_rejection service.Incoming k = bytes_eq k (codes "reject-anonymous")
is_rejection service.Outgoing k = false

abbrev pub bar_key : Schema → List ℕ → BarDraft → List ℕ → Data → Read BarDraft
bar_key s at r k d =
    if bytes_eq k (codes "active") then then_read (truth_at at d) (λ b. Ok (record r { active = b }))
    else if is_rejection s.service k then then_read (truth_at at d) (λ b. Ok (record r { reject_anonymous = b }))
    else if bytes_eq k (codes "rule") then then_read (rules_at s at d) (λ rs. Ok (record r { rules = rs }))
    else Err (Unknown at)

abbrev pub bar_part : BarDraft → Option BarPart
bar_part r = if r.active then Some (record { rules = r.rules; reject_anonymous = r.reject_anonymous }) else None

abbrev pub bar_of : Schema → List ℕ → Members → Read (Option BarPart)
bar_of s path ms = then_read (members_from path (λ at r k d. bar_key s at r k d) no_bar_keys ms) (λ r. Ok (bar_part r))

-- ---- presentation and restriction of identities

abbrev pub presentation_key : List ℕ → Bool → List ℕ → Data → Read Bool
presentation_key at active k d = if bytes_eq k (codes "active") then truth_at at d else Err (Unknown at)

abbrev pub presentation_of : List ℕ → Members → Read Bool
presentation_of path ms = members_from path presentation_key true ms

-- one of two words: true for the first
abbrev pub choice : List ℕ → List ℕ → List ℕ → Option Bool
choice first second s = if bytes_eq s first then Some true else if bytes_eq s second then Some false else None

abbrev pub choice_at : List ℕ → List ℕ → List ℕ → Data → Read Bool
choice_at first second at d = then_read (text_at at d) (λ s. or_wrong at (choice first second s))

abbrev pub no_restriction_keys : Restriction
no_restriction_keys = record { active = true; permanent = false; by_default = false }

abbrev pub restriction_key : List ℕ → Restriction → List ℕ → Data → Read Restriction
restriction_key at r k d =
    if bytes_eq k (codes "active") then then_read (truth_at at d) (λ b. Ok (record r { active = b }))
    else if bytes_eq k (codes "default-behaviour") then then_read (choice_at (codes "presentation-restricted") (codes "presentation-not-restricted") at d)
    (λ b. Ok (record r { by_default = b }))
    else if bytes_eq k (codes "mode") then then_read (choice_at (codes "permanent") (codes "temporary") at d) (λ b. Ok (record r { permanent = b }))
    else Err (Unknown at)

abbrev pub restriction_of : List ℕ → Members → Read Restriction
restriction_of path ms = members_from path restriction_key no_restriction_keys ms

-- ---- communication waiting

abbrev pub no_waiting_keys : WaitingDraft
no_waiting_keys = record { active = true; calls = 2 }

abbrev pub waiting_key : List ℕ → WaitingDraft → List ℕ → Data → Read WaitingDraft
waiting_key at r k d =
    if bytes_eq k (codes "active") then then_read (truth_at at d) (λ b. Ok (record r { active = b }))
    else if bytes_eq k (codes "calls") then then_read (number_at 2 8 at d) (λ n. Ok (record r { calls = n }))
    else Err (Unknown at)

abbrev pub waiting_part : WaitingDraft → Option ℕ
waiting_part r = if r.active then Some r.calls else None

abbrev pub waiting_of : List ℕ → Members → Read (Option ℕ)
waiting_of path ms = then_read (members_from path waiting_key no_waiting_keys ms) (λ r. Ok (waiting_part r))

-- ---- the record

-- the table of a name
unfoldable pub table_key_of : List ℕ → Option TableKey
table_key_of k =
    if bytes_eq k (codes "communication-diversion") then Some key.Diversion
    else if bytes_eq k (codes "communication-waiting") then Some key.Waiting
    else if bytes_eq k (codes "incoming-communication-barring") then Some key.Incoming
    else if bytes_eq k (codes "originating-identity-presentation") then Some key.Oip
    else if bytes_eq k (codes "originating-identity-presentation-restriction") then Some key.Oir
    else if bytes_eq k (codes "outgoing-communication-barring") then Some key.Outgoing
    else if bytes_eq k (codes "terminating-identity-presentation") then Some key.Tip
    else if bytes_eq k (codes "terminating-identity-presentation-restriction") then Some key.Tir
    else None

abbrev pub table_read : Version → List ℕ → Sheet → TableKey → Members → Read Sheet
table_read v at s key.Diversion ms = then_read (diversion_of v at ms) (λ p. Ok (record s { diversion = p }))
table_read v at s key.Incoming ms = then_read (bar_of (schema v service.Incoming) at ms) (λ p. Ok (record s { incoming = p }))
table_read v at s key.Outgoing ms = then_read (bar_of (schema v service.Outgoing) at ms) (λ p. Ok (record s { outgoing = p }))
table_read v at s key.Oip ms = then_read (presentation_of at ms) (λ b. Ok (record s { oip = b }))
table_read v at s key.Oir ms = then_read (restriction_of at ms) (λ r. Ok (record s { oir = r }))
table_read v at s key.Tip ms = then_read (presentation_of at ms) (λ b. Ok (record s { tip = b }))
table_read v at s key.Tir ms = then_read (restriction_of at ms) (λ r. Ok (record s { tir = r }))
table_read v at s key.Waiting ms = then_read (waiting_of at ms) (λ n. Ok (record s { waiting = n }))

abbrev pub named_read : Version → List ℕ → Sheet → Option TableKey → Data → Read Sheet
named_read v at s None d = Err (Unknown at)
named_read v at s (Some t) d = then_read (or_wrong at (as_table d)) (λ ms. table_read v at s t ms)

-- a version of records
abbrev pub version_at : List ℕ → Data → Read Version
version_at at d = then_read (number_at 1 2 at d) (λ n. Ok (if n == 1 then version.One else version.Two))

-- the first, where the record names none
abbrev pub version_or_first : Option Data → Read Version
version_or_first None = Ok version.One
version_or_first (Some d) = version_at (codes "version") d

-- the version of a document, which is read before all else
abbrev pub version_of : Members → Read Version
version_of ms = version_or_first (get_member (codes "version") ms)

-- one more name of the document: the version adds nothing to the sheet
abbrev pub name_read : Version → List ℕ → Sheet → Data → Read Sheet
name_read v k s d = if bytes_eq k (codes "version") then then_read (version_at k d) (λ w. Ok s) else named_read v k s (table_key_of k) d

-- the names, one after another
abbrev pub sheet_from : Version → Sheet → Members → Read Sheet
sheet_from v s no_members = Ok s
sheet_from v s (member k d ms) = then_read (name_read v k s d) (λ t. sheet_from v t ms)

-- the sheet of a document, or its first fault
abbrev pub sheet_of : Members → Read Sheet
sheet_of ms = then_read (version_of ms) (λ v. sheet_from v empty_sheet ms)

-- the bytes are a document, with this sheet or first fault
abbrev pub IsDocumentReadAs : List ℕ → Read Sheet → Type 0
IsDocumentReadAs bytes read = (IsUtf8 bytes) × (ms : Members) × (parse_document bytes ≡ Some ms) × (sheet_of ms ≡ read)

abbrev pub IsRefused : List ℕ → SheetFault → Type 0
IsRefused bytes NotToml = IsUtf8 bytes → parse_document bytes ≡ None
IsRefused bytes (Unknown k) = IsDocumentReadAs bytes (Err (Unknown k))
IsRefused bytes (Wrong k) = IsDocumentReadAs bytes (Err (Wrong k))
IsRefused bytes (Many k limit) = IsDocumentReadAs bytes (Err (Many k limit))
IsRefused bytes NoMemory = Unit {0}

-- the result of reading the bytes: the sheet or the first fault of the document that they are, or that they are none
abbrev pub IsRead : List ℕ → Read Sheet → Type 0
IsRead bytes (Ok s) = IsDocumentReadAs bytes (Ok s)
IsRead bytes (Err e) = IsRefused bytes e
