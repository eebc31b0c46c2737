-- The rules of a service (RFC 4745 §6 and §7; TS 24.604 §4.9.1, TS 24.611 §4.9.1): what is read of their keys, in byte order, and which fault is the first.
use Rattle.std.specs.Prelude.{◌≡◌, ℕ, ℤ, pos, int_lt, List, [], ◌∷◌, ◌++◌, Bool, true, false, ◌&&◌, not, nat_lt, ◌+◌, Option, Some, None, Ok, Err, if◌then◌else◌, codes, length}
use Rattle.std.specs.Option.{is_some}
use Rattle.toml.specs.Data.{Data, Items, no_items, item, Members, no_members, member, get_member, as_array, as_table}
use Rattle.mmtel_lex.specs.declared.values.Uri.{Uri}
use Rattle.mmtel_sheet_grammar.specs.ReadResults.{Read, then_read, or_wrong}
use Rattle.mmtel_sheet_grammar.specs.Elements.{truth_at, text_at, target_at, domain_at, time_at, uris_at, tokens_at, days_at, clock_at, offset_at}
use Rattle.mmtel_sheet_grammar.specs.Keys.{rule_key_of, is_listed, dotted_path, rule_path}
use Rattle.mmtel_sheet_grammar.specs.declared.faults.SheetFault.TheVariants.{Wrong, Unknown, Many}
use Rattle.mmtel_sheet_grammar.specs.declared.keys.Service.{Service}
use Rattle.mmtel_sheet_grammar.specs.declared.keys.Service.TheVariants as service
use Rattle.mmtel_sheet_grammar.specs.declared.keys.Schema.{Schema}
use Rattle.mmtel_sheet_grammar.specs.declared.keys.Notification.{Notification}
use Rattle.mmtel_sheet_grammar.specs.declared.keys.Notification.TheVariants as notice
use Rattle.mmtel_sheet_grammar.specs.declared.keys.RuleKey.{RuleKey}
use Rattle.mmtel_sheet_grammar.specs.declared.keys.RuleKey.TheVariants as key
use Rattle.mmtel_sheet_grammar.specs.declared.drafts.Notifications.{Notifications}
use Rattle.mmtel_sheet_grammar.specs.declared.drafts.Hours.{Hours}
use Rattle.mmtel_sheet_grammar.specs.declared.drafts.RuleDraft.{RuleDraft}
use Rattle.mmtel_sheet_values.specs.declared.values.Action.{Action}
use Rattle.mmtel_sheet_values.specs.declared.values.Action.TheVariants.{Forward, Allow}
use Rattle.mmtel_sheet_values.specs.declared.values.Condition.{Condition}
use Rattle.mmtel_sheet_values.specs.declared.values.EventWord.{EventWord}
use Rattle.mmtel_sheet_values.specs.declared.values.Rule.{Rule}
use Rattle.mmtel_sheet_values.specs.declared.values.Weekly.{Weekly}
use Rattle.mmtel_sheet_values.specs.declared.values.Who.{Who}

module _ {A : Type 0} where
  -- the keys of a table, one after another, each at its path
  abbrev pub members_from : List ℕ → (List ℕ → A → List ℕ → Data → Read A) → A → Members → Read A
  members_from path read a no_members = Ok a
  members_from path read a (member k d ms) = then_read (read (dotted_path path k) a k d) (λ b. members_from path read b ms)

-- the table has the key
abbrev pub has_key : List ℕ → Members → Bool
has_key k ms = is_some (get_member k ms)

-- before any key: a diversion reveals all of it
abbrev pub all_notified : Notifications
all_notified = record { notify_caller = true; reveal_to_caller = true; reveal_served_to_caller = true; reveal_to_target = true }

abbrev pub empty_draft : RuleDraft
empty_draft = record {
  abroad = false;
  allow = None;
  anonymous = false;
  day_from = None;
  diverted = false;
  event = None;
  except = [];
  from = None;
  hours = None;
  many = None;
  media = None;
  notifications = all_notified;
  one = None;
  target = None;
  weekly = None;
  window = None;
}

abbrev pub with_notification : Notification → Bool → Notifications → Notifications
with_notification notice.NotifyCaller b n = record n { notify_caller = b }
with_notification notice.RevealToCaller b n = record n { reveal_to_caller = b }
with_notification notice.RevealServedToCaller b n = record n { reveal_served_to_caller = b }
with_notification notice.RevealToTarget b n = record n { reveal_to_target = b }

-- an event that is true: only one may be
abbrev pub with_event : List ℕ → EventWord → RuleDraft → Option EventWord → Read RuleDraft
with_event at e r None = Ok (record r { event = Some e })
with_event at e r (Some f) = Err (Wrong at)

-- an event that is false counts as absent
abbrev pub event_read : List ℕ → EventWord → RuleDraft → Bool → Read RuleDraft
event_read at e r true = with_event at e r r.event
event_read at e r false = Ok r

-- identities that are excepted: with `many` alone, and at most 64, which are counted at the later of `except` and `one`
abbrev pub except_read : List ℕ → RuleDraft → Members → List Uri → Read RuleDraft
except_read at r ms uris =
    if has_key (codes "many") ms then
    (if nat_lt 64 (length uris) && not (has_key (codes "one") ms) then Err (Many at 64) else Ok (record r { except = uris }))
    else Err (Wrong at)

-- identities that are meant: with those of `except` at most 64
abbrev pub one_read : List ℕ → RuleDraft → List Uri → Read RuleDraft
one_read at r uris = if nat_lt 64 (length uris + length r.except) then Err (Many at 64) else Ok (record r { one = Some uris })

-- the start of a window: not without its end
abbrev pub from_read : List ℕ → RuleDraft → Members → ℤ → Read RuleDraft
from_read at r ms t = if has_key (codes "until") ms then Ok (record r { from = Some t }) else Err (Wrong at)

-- the end of a window: after its start, which comes first in byte order
abbrev pub until_read : List ℕ → RuleDraft → ℤ → Option ℤ → Read RuleDraft
until_read at r t None = Err (Wrong at)
until_read at r t (Some f) = if int_lt f t then Ok (record r { window = Some (record { from = f; until = t }) }) else Err (Wrong at)

-- the start of some hours: not without their end and the days
abbrev pub day_from_read : List ℕ → RuleDraft → Members → ℕ → Read RuleDraft
day_from_read at r ms n = if has_key (codes "day-until") ms && has_key (codes "days") ms then Ok (record r { day_from = Some n }) else Err (Wrong at)

-- their end: after their start, which comes first in byte order
abbrev pub day_until_read : List ℕ → RuleDraft → ℕ → Option ℕ → Read RuleDraft
day_until_read at r n None = Err (Wrong at)
day_until_read at r n (Some f) = if nat_lt f n then Ok (record r { hours = Some (record { from = f; until = n }) }) else Err (Wrong at)

-- the days: not without the hours, which come first in byte order; the clock is that of UTC where no offset follows
abbrev pub days_read : List ℕ → RuleDraft → List Bool → Option Hours → Read RuleDraft
days_read at r days None = Err (Wrong at)
days_read at r days (Some h) = Ok (record r { weekly = Some (record { days = days; from = h.from; until = h.until; offset = pos 0 }) })

-- the offset of the clock: not without the days
abbrev pub offset_read : List ℕ → RuleDraft → ℤ → Option Weekly → Read RuleDraft
offset_read at r z None = Err (Wrong at)
offset_read at r z (Some w) = Ok (record r { weekly = Some (record w { offset = z }) })

-- the value at a key of a rule
abbrev pub key_read : Members → List ℕ → RuleDraft → RuleKey → Data → Read RuleDraft
key_read ms at r key.Allow d = then_read (truth_at at d) (λ b. Ok (record r { allow = Some b }))
key_read ms at r key.Anonymous d = then_read (truth_at at d) (λ b. Ok (record r { anonymous = b }))
key_read ms at r key.DayFrom d = then_read (clock_at 1_439 at d) (λ n. day_from_read at r ms n)
key_read ms at r key.DayUntil d = then_read (clock_at 1_440 at d) (λ n. day_until_read at r n r.day_from)
key_read ms at r key.Days d = then_read (days_at at d) (λ days. days_read at r days r.hours)
key_read ms at r key.Diverted d = then_read (truth_at at d) (λ b. Ok (record r { diverted = b }))
key_read ms at r (key.Event e) d = then_read (truth_at at d) (λ b. event_read at e r b)
key_read ms at r key.Except d = then_read (uris_at at d) (λ uris. except_read at r ms uris)
key_read ms at r key.From d = then_read (time_at at d) (λ t. from_read at r ms t)
key_read ms at r key.Id d = then_read (text_at at d) (λ s. Ok r)
key_read ms at r key.International d = then_read (truth_at at d) (λ b. Ok (record r { abroad = b }))
key_read ms at r key.Many d = then_read (domain_at at d) (λ s. Ok (record r { many = Some s }))
key_read ms at r key.Media d = then_read (tokens_at at d) (λ ts. Ok (record r { media = Some ts }))
key_read ms at r (key.Notification n) d = then_read (truth_at at d) (λ b. Ok (record r { notifications = with_notification n b r.notifications }))
key_read ms at r key.Offset d = then_read (offset_at at d) (λ z. offset_read at r z r.weekly)
key_read ms at r key.One d = then_read (uris_at at d) (λ uris. one_read at r uris)
key_read ms at r key.Target d = then_read (target_at at d) (λ u. Ok (record r { target = Some u }))
key_read ms at r key.Until d = then_read (time_at at d) (λ t. until_read at r t r.from)

-- the key, where the rules of the service have it
abbrev pub listed_key : Schema → Option RuleKey → Option RuleKey
listed_key s None = None
listed_key s (Some k) = if is_listed s k then Some k else None

abbrev pub listed_key_read : Members → List ℕ → RuleDraft → Option RuleKey → Data → Read RuleDraft
listed_key_read ms at r None d = Err (Unknown at)
listed_key_read ms at r (Some k) d = key_read ms at r k d

-- a key of a rule of the service, in the table of these members
abbrev pub rule_key_read : Schema → Members → List ℕ → RuleDraft → List ℕ → Data → Read RuleDraft
rule_key_read s ms at r k d = listed_key_read ms at r (listed_key s (rule_key_of k)) d

-- ---- the rule of a table

-- the identities that are meant, where a key names them
abbrev pub who_of : Option (List Uri) → Option (List ℕ) → List Uri → Option Who
who_of None None except = None
who_of None (Some domain) except = Some (record { one = []; many = Some domain; except = except })
who_of (Some uris) many except = Some (record { one = uris; many = many; except = except })

abbrev pub condition_of : RuleDraft → Condition
condition_of r = record {
  identity = who_of r.one r.many r.except;
  anonymous = r.anonymous;
  window = r.window;
  media = r.media;
  event = r.event;
  diverted = r.diverted;
  abroad = r.abroad;
  weekly = r.weekly;
}

abbrev pub forward_to : Uri → Notifications → Action
forward_to u n = Forward (record {
  target = u;
  notify_caller = n.notify_caller;
  reveal_to_caller = n.reveal_to_caller;
  reveal_served_to_caller = n.reveal_served_to_caller;
  reveal_to_target = n.reveal_to_target;
})

abbrev pub forward_read : List ℕ → Option Uri → Notifications → Read Action
forward_read path None n = Err (Wrong (dotted_path path (codes "target")))
forward_read path (Some u) n = Ok (forward_to u n)

abbrev pub allow_read : List ℕ → Option Bool → Read Action
allow_read path None = Err (Wrong (dotted_path path (codes "allow")))
allow_read path (Some b) = Ok (Allow b)

-- the action of the rule: the key that sets it is required
abbrev pub action_of : Service → List ℕ → Option Uri → Notifications → Option Bool → Read Action
action_of service.Diversion path target notices allow = forward_read path target notices
action_of service.Incoming path target notices allow = allow_read path allow
action_of service.Outgoing path target notices allow = allow_read path allow

abbrev pub rule_from : RuleDraft → Action → Rule
rule_from r a = record { condition = condition_of r; action = a }

-- keys of the table of these members, one after another, after those that were read before
abbrev pub keys_from : Schema → Members → List ℕ → RuleDraft → Members → Read RuleDraft
keys_from s ms path r rest = members_from path (λ at d k v. rule_key_read s ms at d k v) r rest

abbrev pub keys_of_rule : Schema → List ℕ → Members → Read RuleDraft
keys_of_rule s path ms = keys_from s ms path empty_draft ms

-- the rule of a table: the faults of its keys, then a required key that is absent
abbrev pub rule_of : Schema → List ℕ → Members → Read Rule
rule_of s path ms = then_read (keys_of_rule s path ms) (λ r. then_read (action_of s.service path r.target r.notifications r.allow) (λ a. Ok (rule_from r a)))

-- ---- the rules of an array

abbrev pub are_tables : Items → Bool
are_tables no_items = true
are_tables (item d ds) = is_some (as_table d) && are_tables ds

abbrev pub items_count : Items → ℕ
items_count no_items = 0
items_count (item d ds) = items_count ds + 1

-- rules after those that were read before, numbered from 0
abbrev pub rules_from : Schema → List ℕ → List Rule → Items → Read (List Rule)
rules_from s path done no_items = Ok done
rules_from s path done (item d ds) =
    then_read (or_wrong path (as_table d)) (λ ms. then_read (rule_of s (rule_path path (length done)) ms) (λ r. rules_from s path (done ++ r ∷ []) ds))

-- at most 64
abbrev pub rules_within : Schema → List ℕ → Items → Read (List Rule)
rules_within s path ds = if nat_lt 64 (items_count ds) then Err (Many path 64) else rules_from s path [] ds

-- an array of tables
abbrev pub rules_of : Schema → List ℕ → Items → Read (List Rule)
rules_of s path ds = if are_tables ds then rules_within s path ds else Err (Wrong path)

abbrev pub rules_at : Schema → List ℕ → Data → Read (List Rule)
rules_at s at d = then_read (or_wrong at (as_array d)) (λ ds. rules_of s at ds)
