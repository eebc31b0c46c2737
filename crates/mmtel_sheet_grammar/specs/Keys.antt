-- The keys of a record's rules, which service lists them, and how faults name them.
use Rattle.std.specs.Prelude.{ℕ, List, ◌++◌, ◌∷◌, Bool, true, false, ◌&&◌, Option, Some, None, if◌then◌else◌, codes, decimal}
use Rattle.std.specs.Str.{bytes_eq}
use Rattle.mmtel_sheet_values.specs.declared.values.EventWord.{EventWord}
use Rattle.mmtel_sheet_values.specs.declared.values.EventWord.TheVariants as event
use Rattle.mmtel_sheet_grammar.specs.declared.keys.Service.{Service}
use Rattle.mmtel_sheet_grammar.specs.declared.keys.Service.TheVariants.{Diversion, Incoming, Outgoing}
use Rattle.mmtel_sheet_grammar.specs.declared.keys.Version.{Version}
use Rattle.mmtel_sheet_grammar.specs.declared.keys.Version.TheVariants as version
use Rattle.mmtel_sheet_grammar.specs.declared.keys.Schema.{Schema}
use Rattle.mmtel_sheet_grammar.specs.declared.keys.Notification.{Notification}
use Rattle.mmtel_sheet_grammar.specs.declared.keys.Notification.TheVariants as notice
use Rattle.mmtel_sheet_grammar.specs.declared.keys.RuleKey.{RuleKey}
use Rattle.mmtel_sheet_grammar.specs.declared.keys.RuleKey.TheVariants as key

-- the events of a diversion
unfoldable pub event_of : List ℕ → Option EventWord
event_of k =
    if bytes_eq k (codes "busy") then Some event.Busy
    else if bytes_eq k (codes "no-answer") then Some event.NoAnswer
    else if bytes_eq k (codes "not-reachable") then Some event.NotReachable
    else if bytes_eq k (codes "not-registered") then Some event.NotRegistered
    else None

-- what a diversion reveals, and to whom
unfoldable pub notification_of : List ℕ → Option Notification
notification_of k =
    if bytes_eq k (codes "notify-caller") then Some notice.NotifyCaller
    else if bytes_eq k (codes "reveal-identity-to-caller") then Some notice.RevealToCaller
    else if bytes_eq k (codes "reveal-served-user-identity-to-caller") then Some notice.RevealServedToCaller
    else if bytes_eq k (codes "reveal-identity-to-target") then Some notice.RevealToTarget
    else None

-- the keys that say to which identities a rule applies
unfoldable pub identity_key_of : List ℕ → Option RuleKey
identity_key_of k =
    if bytes_eq k (codes "anonymous") then Some key.Anonymous
    else if bytes_eq k (codes "except") then Some key.Except
    else if bytes_eq k (codes "many") then Some key.Many
    else if bytes_eq k (codes "one") then Some key.One
    else None

-- the keys that came with the second version
unfoldable pub second_key_of : List ℕ → Option RuleKey
second_key_of k =
    if bytes_eq k (codes "communication-diverted") then Some key.Diverted
    else if bytes_eq k (codes "day-from") then Some key.DayFrom
    else if bytes_eq k (codes "day-until") then Some key.DayUntil
    else if bytes_eq k (codes "days") then Some key.Days
    else if bytes_eq k (codes "international") then Some key.International
    else if bytes_eq k (codes "offset") then Some key.Offset
    else None

-- the other keys of a rule
unfoldable pub other_key_of : List ℕ → Option RuleKey
other_key_of k =
    if bytes_eq k (codes "allow") then Some key.Allow
    else if bytes_eq k (codes "from") then Some key.From
    else if bytes_eq k (codes "id") then Some key.Id
    else if bytes_eq k (codes "media") then Some key.Media
    else if bytes_eq k (codes "target") then Some key.Target
    else if bytes_eq k (codes "until") then Some key.Until
    else None

abbrev pub key_or : Option RuleKey → Option RuleKey → Option RuleKey
key_or None other = other
key_or (Some k) other = Some k

abbrev pub notification_or : Option Notification → Option RuleKey → Option RuleKey
notification_or None other = other
notification_or (Some n) other = Some (key.Notification n)

abbrev pub event_or : Option EventWord → Option RuleKey → Option RuleKey
event_or None other = other
event_or (Some e) other = Some (key.Event e)

-- the key of a name: each name is that of one key only
abbrev pub rule_key_of : List ℕ → Option RuleKey
rule_key_of k = event_or (event_of k) (notification_or (notification_of k) (key_or (identity_key_of k) (key_or (second_key_of k) (other_key_of k))))

-- only diversion has it
abbrev pub is_diversion : Service → Bool
is_diversion Diversion = true
is_diversion Incoming = false
is_diversion Outgoing = false

-- only barring has it
abbrev pub is_barring : Service → Bool
is_barring Diversion = false
is_barring Incoming = true
is_barring Outgoing = true

-- all but outgoing barring have it: the caller is known there
abbrev pub applies_to_callers : Service → Bool
applies_to_callers Diversion = true
applies_to_callers Incoming = true
applies_to_callers Outgoing = false

-- only outgoing barring has it: the destination of a call is tested there
abbrev pub is_outgoing : Service → Bool
is_outgoing Diversion = false
is_outgoing Incoming = false
is_outgoing Outgoing = true

abbrev pub is_version_two : Version → Bool
is_version_two version.One = false
is_version_two version.Two = true

-- whether the rules of the service have the key, in that version of records
abbrev pub is_listed : Schema → RuleKey → Bool
is_listed s key.Allow = is_barring s.service
is_listed s key.Anonymous = applies_to_callers s.service
is_listed s key.DayFrom = is_version_two s.version
is_listed s key.DayUntil = is_version_two s.version
is_listed s key.Days = is_version_two s.version
is_listed s key.Diverted = is_version_two s.version && applies_to_callers s.service
is_listed s (key.Event e) = is_diversion s.service
is_listed s key.Except = true
is_listed s key.From = true
is_listed s key.Id = true
is_listed s key.International = is_version_two s.version && is_outgoing s.service
is_listed s key.Many = true
is_listed s key.Media = true
is_listed s (key.Notification n) = is_diversion s.service
is_listed s key.Offset = is_version_two s.version
is_listed s key.One = true
is_listed s key.Target = is_diversion s.service
is_listed s key.Until = true

-- a key below another: path.key
abbrev pub dotted_path : List ℕ → List ℕ → List ℕ
dotted_path path k = (path ++ codes ".") ++ k

-- the path of a rule: path.N, in decimal digits
abbrev pub rule_path : List ℕ → ℕ → List ℕ
rule_path path n = dotted_path path (decimal n)
