-- The document of a sheet (3GPP TS 24.623; TS 24.604, 24.607, 24.608, 24.611, 24.615): its members in byte order of their keys. Each default is written out, and a part that is
-- absent has no table.
use Rattle.std.specs.Prelude.{ℕ, ◌/◌, ◌%◌, pos, List, [], ◌∷◌, ◌++◌, Bool, true, false, Option, Some, None, if◌then◌else◌, codes, slice_index_or}
use Rattle.std.specs.Cmp.Lexicographic.{slice_cmp}
use Rattle.std.specs.Ordering.{nat_cmp, is_lt}
use Rattle.jiff_fmt.specs.Text.{pad2}
use Rattle.toml.specs.Data.{Data, string, integer, boolean, array, table, Items, no_items, item, push_item, Members, no_members, member}
use Rattle.mmtel_lex.specs.Grammar.{uri_text}
use Rattle.mmtel_lex.specs.declared.values.Uri.{Uri}
use Rattle.mmtel_sheet_grammar.specs.Keys.{is_diversion, applies_to_callers, is_outgoing}
use Rattle.mmtel_sheet_grammar.specs.declared.keys.Service.{Service}
use Rattle.mmtel_sheet_grammar.specs.declared.keys.Service.TheVariants as service
use Rattle.mmtel_sheet_grammar.specs.declared.keys.Notification.{Notification}
use Rattle.mmtel_sheet_grammar.specs.declared.keys.Notification.TheVariants as notice
use Rattle.mmtel_sheet_values.specs.declared.values.Action.{Action}
use Rattle.mmtel_sheet_values.specs.declared.values.Action.TheVariants.{Forward, Allow}
use Rattle.mmtel_sheet_values.specs.declared.values.BarPart.{BarPart}
use Rattle.mmtel_sheet_values.specs.declared.values.DiversionPart.{DiversionPart}
use Rattle.mmtel_sheet_values.specs.declared.values.EventWord.{EventWord}
use Rattle.mmtel_sheet_values.specs.declared.values.EventWord.TheVariants as event
use Rattle.mmtel_sheet_values.specs.declared.values.Restriction.{Restriction}
use Rattle.mmtel_sheet_values.specs.declared.values.Rule.{Rule}
use Rattle.mmtel_sheet_values.specs.declared.values.Sheet.{Sheet}
use Rattle.mmtel_sheet_values.specs.declared.values.Weekly.{Weekly}
use Rattle.mmtel_sheet_values.specs.declared.values.Who.{Who}
use Rattle.mmtel_sheet_values.specs.declared.values.Window.{Window}
use Rattle.mmtel_sheets.specs.Times.{moment_text}

-- the first key precedes the second, in byte order
abbrev pub comes_before : List ℕ → List ℕ → Bool
comes_before k l = is_lt (slice_cmp nat_cmp k l)

-- a key, where there is a value for it, before the keys after it
abbrev pub with_key : List ℕ → Option Data → Members → Members
with_key key None rest = rest
with_key key (Some d) rest = member key d rest

module _ {A : Type 0} where
  -- a value for each item
  abbrev pub each_item : (A → Data) → List A → Items
  each_item data_of [] = no_items
  each_item data_of (x ∷ xs) = item (data_of x) (each_item data_of xs)

-- a value, where there is to be one
abbrev pub where_true : Bool → Data → Option Data
where_true true d = Some d
where_true false d = None

abbrev pub uri_data : Uri → Data
uri_data u = string (uri_text u)

abbrev pub uris_data : List Uri → Data
uris_data us = array (each_item uri_data us)

-- ---- the identities of a rule

-- with `many` alone
abbrev pub except_beside : Option (List ℕ) → List Uri → Option Data
except_beside None except = None
except_beside (Some domain) except = Some (uris_data except)

abbrev pub except_data : Option Who → Option Data
except_data None = None
except_data (Some w) = except_beside w.many w.except

abbrev pub text_data : Option (List ℕ) → Option Data
text_data None = None
text_data (Some s) = Some (string s)

abbrev pub many_data : Option Who → Option Data
many_data None = None
many_data (Some w) = text_data w.many

abbrev pub one_data : Option Who → Option Data
one_data None = None
one_data (Some w) = Some (uris_data w.one)

-- ---- when it holds

abbrev pub from_data : Option Window → Option Data
from_data None = None
from_data (Some w) = Some (string (moment_text w.from))

abbrev pub until_data : Option Window → Option Data
until_data None = None
until_data (Some w) = Some (string (moment_text w.until))

abbrev pub media_data : Option (List (List ℕ)) → Option Data
media_data None = None
media_data (Some tokens) = Some (array (each_item string tokens))

-- the two are one event
abbrev pub is_same_event : EventWord → EventWord → Bool
is_same_event event.Busy event.Busy = true
is_same_event event.NoAnswer event.NoAnswer = true
is_same_event event.NotReachable event.NotReachable = true
is_same_event event.NotRegistered event.NotRegistered = true
is_same_event _ _ = false

-- this is the event of the rule
abbrev pub is_event : EventWord → Option EventWord → Bool
is_event e None = false
is_event e (Some f) = is_same_event e f

-- only diversion has events
abbrev pub event_data : Service → EventWord → Option EventWord → Option Data
event_data s e happened = where_true (is_diversion s) (boolean (is_event e happened))

-- only where the caller is known
abbrev pub anonymous_data : Service → Bool → Option Data
anonymous_data s b = where_true (applies_to_callers s) (boolean b)

-- only where the caller is known
abbrev pub diverted_data : Service → Bool → Option Data
diverted_data s b = where_true (applies_to_callers s) (boolean b)

-- only where the destination of the call is tested
abbrev pub abroad_data : Service → Bool → Option Data
abroad_data s b = where_true (is_outgoing s) (boolean b)

-- HH:MM, of the minutes since the day began
abbrev pub hour_text : ℕ → List ℕ
hour_text n = pad2 (n / 60) ++ 58 ∷ pad2 (n % 60)

abbrev pub day_from_data : Option Weekly → Option Data
day_from_data None = None
day_from_data (Some w) = Some (string (hour_text w.from))

abbrev pub day_until_data : Option Weekly → Option Data
day_until_data None = None
day_until_data (Some w) = Some (string (hour_text w.until))

-- one more day after others, where it is one of them
abbrev pub with_word : Items → Bool → List ℕ → Items
with_word ds b word = if b then push_item ds (string word) else ds

-- the words of the days, from Monday on
abbrev pub day_words : List Bool → Items
day_words days =
    with_word (with_word (with_word (with_word (with_word (with_word (with_word no_items
    (slice_index_or days 0 false) (codes "mon"))
    (slice_index_or days 1 false) (codes "tue"))
    (slice_index_or days 2 false) (codes "wed"))
    (slice_index_or days 3 false) (codes "thu"))
    (slice_index_or days 4 false) (codes "fri"))
    (slice_index_or days 5 false) (codes "sat"))
    (slice_index_or days 6 false) (codes "sun")

abbrev pub days_data : Option Weekly → Option Data
days_data None = None
days_data (Some w) = Some (array (day_words w.days))

abbrev pub offset_data : Option Weekly → Option Data
offset_data None = None
offset_data (Some w) = Some (integer w.offset)

-- ---- its action

abbrev pub allow_data : Action → Option Data
allow_data (Forward f) = None
allow_data (Allow b) = Some (boolean b)

abbrev pub target_data : Action → Option Data
target_data (Forward f) = Some (uri_data f.target)
target_data (Allow b) = None

abbrev pub notification_data : Notification → Action → Option Data
notification_data notice.NotifyCaller (Forward f) = Some (boolean f.notify_caller)
notification_data notice.RevealToCaller (Forward f) = Some (boolean f.reveal_to_caller)
notification_data notice.RevealServedToCaller (Forward f) = Some (boolean f.reveal_served_to_caller)
notification_data notice.RevealToTarget (Forward f) = Some (boolean f.reveal_to_target)
notification_data n (Allow b) = None

-- ---- rules

-- the keys of a rule from "one" on
abbrev pub late_keys : Rule → Members
late_keys r =
    with_key (codes "one") (one_data r.condition.identity)
    (with_key (codes "reveal-identity-to-caller") (notification_data notice.RevealToCaller r.action)
    (with_key (codes "reveal-identity-to-target") (notification_data notice.RevealToTarget r.action)
    (with_key (codes "reveal-served-user-identity-to-caller") (notification_data notice.RevealServedToCaller r.action)
    (with_key (codes "target") (target_data r.action)
    (with_key (codes "until") (until_data r.condition.window) no_members)))))

-- the keys from "media" on
abbrev pub middle_keys : Service → Rule → Members
middle_keys s r =
    with_key (codes "media") (media_data r.condition.media)
    (with_key (codes "no-answer") (event_data s event.NoAnswer r.condition.event)
    (with_key (codes "not-reachable") (event_data s event.NotReachable r.condition.event)
    (with_key (codes "not-registered") (event_data s event.NotRegistered r.condition.event)
    (with_key (codes "notify-caller") (notification_data notice.NotifyCaller r.action)
    (with_key (codes "offset") (offset_data r.condition.weekly) (late_keys r))))))

-- the keys from "except" on
abbrev pub party_keys : Service → Rule → Members
party_keys s r =
    with_key (codes "except") (except_data r.condition.identity)
    (with_key (codes "from") (from_data r.condition.window)
    (with_key (codes "international") (abroad_data s r.condition.abroad)
    (with_key (codes "many") (many_data r.condition.identity) (middle_keys s r))))

-- the keys from "day-from" on
abbrev pub week_keys : Service → Rule → Members
week_keys s r =
    with_key (codes "day-from") (day_from_data r.condition.weekly)
    (with_key (codes "day-until") (day_until_data r.condition.weekly)
    (with_key (codes "days") (days_data r.condition.weekly) (party_keys s r)))

-- all of them
abbrev pub rule_data : Service → Rule → Members
rule_data s r =
    with_key (codes "allow") (allow_data r.action)
    (with_key (codes "anonymous") (anonymous_data s r.condition.anonymous)
    (with_key (codes "busy") (event_data s event.Busy r.condition.event)
    (with_key (codes "communication-diverted") (diverted_data s r.condition.diverted) (week_keys s r))))

abbrev pub rules_data : Service → List Rule → Data
rules_data s rules = array (each_item (λ r. table (rule_data s r)) rules)

-- ---- tables

abbrev pub bound_data : Option ℕ → Option Data
bound_data None = None
bound_data (Some n) = Some (integer (pos n))

abbrev pub diversion_data : DiversionPart → Data
diversion_data p = table
    (member (codes "active") (boolean true)
    (with_key (codes "bound") (bound_data p.bound)
    (member (codes "deflection") (boolean p.deflection)
    (member (codes "no-reply-time") (integer (pos p.no_reply))
    (member (codes "rule") (rules_data service.Diversion p.rules) no_members)))))

-- only incoming barring rejects anonymous callers
abbrev pub rejection_data : Service → Bool → Option Data
rejection_data service.Diversion b = None
rejection_data service.Incoming b = Some (boolean b)
rejection_data service.Outgoing b = None

abbrev pub bar_data : Service → BarPart → Data
bar_data s p = table
    (member (codes "active") (boolean true)
    (with_key (codes "reject-anonymous") (rejection_data s p.reject_anonymous)
    (member (codes "rule") (rules_data s p.rules) no_members)))

abbrev pub presentation_data : Bool → Data
presentation_data active = table (member (codes "active") (boolean active) no_members)

-- one of two words: the first for true
abbrev pub word_of : List ℕ → List ℕ → Bool → List ℕ
word_of first second b = if b then first else second

abbrev pub restriction_data : Restriction → Data
restriction_data r = table
    (member (codes "active") (boolean r.active)
    (member (codes "default-behaviour") (string (word_of (codes "presentation-restricted") (codes "presentation-not-restricted") r.by_default))
    (member (codes "mode") (string (word_of (codes "permanent") (codes "temporary") r.permanent)) no_members)))

abbrev pub waiting_data : ℕ → Data
waiting_data calls = table
    (member (codes "active") (boolean true)
    (member (codes "calls") (integer (pos calls)) no_members))

module _ {A : Type 0} where
  -- the table of a part that is present
  abbrev pub part_data : (A → Data) → Option A → Option Data
  part_data data_of None = None
  part_data data_of (Some p) = Some (data_of p)

-- the version of the records that are printed
abbrev pub version_data : Data
version_data = integer (pos 2)

-- the tables from that of outgoing barring on, and the version
abbrev pub late_tables : Sheet → Members
late_tables s =
    with_key (codes "outgoing-communication-barring") (part_data (bar_data service.Outgoing) s.outgoing)
    (member (codes "terminating-identity-presentation") (presentation_data s.tip)
    (member (codes "terminating-identity-presentation-restriction") (restriction_data s.tir)
    (member (codes "version") version_data no_members)))

-- the document of a sheet: the presentations and restrictions always have their table
abbrev pub document_of : Sheet → Members
document_of s =
    with_key (codes "communication-diversion") (part_data diversion_data s.diversion)
    (with_key (codes "communication-waiting") (part_data waiting_data s.waiting)
    (with_key (codes "incoming-communication-barring") (part_data (bar_data service.Incoming) s.incoming)
    (member (codes "originating-identity-presentation") (presentation_data s.oip)
    (member (codes "originating-identity-presentation-restriction") (restriction_data s.oir) (late_tables s)))))
