-- The table of a printed rule reads back as the rule.
use Rattle.std.proofs.Common.{◌≡◌, ℕ, Bool, false, List, Option, Some, None, Ok, Ordering, Less, Equal, Greater, nat_cmp, is_eq, refl, ◌∙◌, codes}
use Rattle.std.proofs.lemmas.Cmp.{nat_list_cmp_total}
use Rattle.std.specs.Cmp.{tied_itself}
use Rattle.std.specs.Cmp.Lexicographic.{slice_cmp}
use Rattle.std.specs.Option.{is_some}
use Rattle.std.specs.Ordering.{match_ordering}
use Rattle.std.specs.Prelude.{IfSome}
use Rattle.toml.specs.Data.{Data, Members, no_members, same_key}
use Rattle.mmtel_sheet_grammar.specs.Keys.{rule_key_of, event_of, notification_of, identity_key_of, second_key_of, other_key_of, dotted_path}
use Rattle.mmtel_sheet_grammar.specs.Rules.{has_key, empty_draft, all_notified, who_of, action_of, rule_of, keys_from}
use Rattle.mmtel_sheet_grammar.specs.declared.keys.Service.{Service}
use Rattle.mmtel_sheet_grammar.specs.declared.keys.Service.TheVariants as service
use Rattle.mmtel_sheet_grammar.specs.declared.keys.Notification.TheVariants as notice
use Rattle.mmtel_sheet_grammar.specs.declared.keys.RuleKey.TheVariants as key
use Rattle.mmtel_sheet_grammar.specs.declared.drafts.RuleDraft.{RuleDraft}
use Rattle.mmtel_sheet_values.specs.declared.values.Action.{Action}
use Rattle.mmtel_sheet_values.specs.declared.values.Action.TheVariants.{Forward, Allow}
use Rattle.mmtel_sheet_values.specs.declared.values.EventWord.TheVariants as event
use Rattle.mmtel_sheet_values.specs.declared.values.Rule.{Rule}
use Rattle.mmtel_sheet_values.specs.declared.values.Who.{Who}
use Rattle.mmtel_sheet_grammar.specs.Printable.{IsWho, IsAction, IsRule}
use Rattle.mmtel_sheets.specs.Printing.{with_key, allow_data, anonymous_data, diverted_data, abroad_data, day_from_data, day_until_data, days_data, offset_data}
use Rattle.mmtel_sheets.specs.Printing.{event_data, except_data, from_data, media_data, notification_data, target_data, many_data, one_data, until_data, rule_data}
use Rattle.mmtel_sheets.proofs.KeySteps.{second, walk, allowed, aimed, notifications_after, except_of, many_of, one_of, start_of, day_from_of, hours_of, week_of, at_busy, at_no_answer}
use Rattle.mmtel_sheets.proofs.KeySteps.{at_not_reachable, allow_step, anonymous_step, busy_step, diverted_step, day_from_step, day_until_step, days_step, abroad_step, offset_step}
use Rattle.mmtel_sheets.proofs.KeySteps.{except_step, from_step, many_step, media_step, no_answer_step, not_reachable_step, not_registered_step, notice_step, one_step, target_step, until_step}

passes : (o : Ordering) (x : Option Data) (d : Data) (b : Bool) → is_eq o ≡ false → is_some x ≡ b → is_some (match_ordering o x (Some d) x) ≡ b
passes Less x d b apart e = e
passes Equal x d b apart e = absurd cc
passes Greater x d b apart e = e

-- another key
skip_to : (k l : List ℕ) (o : Option Data) (ms : Members) (b : Bool) → same_key k l ≡ false → has_key k ms ≡ b → has_key k (with_key l o ms) ≡ b
skip_to k l None ms b apart e = e
skip_to k l (Some d) ms b apart e = passes (slice_cmp nat_cmp k l) _ d b apart e

-- the key itself
found_here : (k : List ℕ) (o : Option Data) (ms : Members) → has_key k ms ≡ false → has_key k (with_key k o ms) ≡ is_some o
found_here k None ms e = e
found_here k (Some d) ms e = rw (tied_itself nat_list_cmp_total k)

-- the keys of a printed rule after each of its keys
abbrev from-until : Service → Rule → Members
from-until s r = with_key (codes "until") (until_data r.condition.window) no_members

abbrev from-target : Service → Rule → Members
from-target s r = with_key (codes "target") (target_data r.action) (from-until s r)

abbrev from-served : Service → Rule → Members
from-served s r = with_key (codes "reveal-served-user-identity-to-caller") (notification_data notice.RevealServedToCaller r.action) (from-target s r)

abbrev from-to_target : Service → Rule → Members
from-to_target s r = with_key (codes "reveal-identity-to-target") (notification_data notice.RevealToTarget r.action) (from-served s r)

abbrev from-to_caller : Service → Rule → Members
from-to_caller s r = with_key (codes "reveal-identity-to-caller") (notification_data notice.RevealToCaller r.action) (from-to_target s r)

abbrev from-one : Service → Rule → Members
from-one s r = with_key (codes "one") (one_data r.condition.identity) (from-to_caller s r)

abbrev from-offset : Service → Rule → Members
from-offset s r = with_key (codes "offset") (offset_data r.condition.weekly) (from-one s r)

abbrev from-notify_caller : Service → Rule → Members
from-notify_caller s r = with_key (codes "notify-caller") (notification_data notice.NotifyCaller r.action) (from-offset s r)

abbrev from-not_registered : Service → Rule → Members
from-not_registered s r = with_key (codes "not-registered") (event_data s event.NotRegistered r.condition.event) (from-notify_caller s r)

abbrev from-not_reachable : Service → Rule → Members
from-not_reachable s r = with_key (codes "not-reachable") (event_data s event.NotReachable r.condition.event) (from-not_registered s r)

abbrev from-no_answer : Service → Rule → Members
from-no_answer s r = with_key (codes "no-answer") (event_data s event.NoAnswer r.condition.event) (from-not_reachable s r)

abbrev from-media : Service → Rule → Members
from-media s r = with_key (codes "media") (media_data r.condition.media) (from-no_answer s r)

abbrev from-many : Service → Rule → Members
from-many s r = with_key (codes "many") (many_data r.condition.identity) (from-media s r)

abbrev from-international : Service → Rule → Members
from-international s r = with_key (codes "international") (abroad_data s r.condition.abroad) (from-many s r)

abbrev from-from : Service → Rule → Members
from-from s r = with_key (codes "from") (from_data r.condition.window) (from-international s r)

abbrev from-except : Service → Rule → Members
from-except s r = with_key (codes "except") (except_data r.condition.identity) (from-from s r)

abbrev from-days : Service → Rule → Members
from-days s r = with_key (codes "days") (days_data r.condition.weekly) (from-except s r)

abbrev from-day_until : Service → Rule → Members
from-day_until s r = with_key (codes "day-until") (day_until_data r.condition.weekly) (from-days s r)

abbrev from-day_from : Service → Rule → Members
from-day_from s r = with_key (codes "day-from") (day_from_data r.condition.weekly) (from-day_until s r)

abbrev from-diverted : Service → Rule → Members
from-diverted s r = with_key (codes "communication-diverted") (diverted_data s r.condition.diverted) (from-day_from s r)

abbrev from-busy : Service → Rule → Members
from-busy s r = with_key (codes "busy") (event_data s event.Busy r.condition.event) (from-diverted s r)

abbrev from-anonymous : Service → Rule → Members
from-anonymous s r = with_key (codes "anonymous") (anonymous_data s r.condition.anonymous) (from-busy s r)

abbrev from-allow : Service → Rule → Members
from-allow s r = with_key (codes "allow") (allow_data r.action) (from-anonymous s r)

has_many : (s : Service) (r : Rule) → has_key (codes "many") (rule_data s r) ≡ is_some (many_data r.condition.identity)
has_many s r =
    skip_to (codes "many") (codes "allow") (allow_data r.action) (from-anonymous s r) (is_some (many_data r.condition.identity)) refl
    (skip_to (codes "many") (codes "anonymous") (anonymous_data s r.condition.anonymous) (from-busy s r) (is_some (many_data r.condition.identity)) refl
    (skip_to (codes "many") (codes "busy") (event_data s event.Busy r.condition.event) (from-diverted s r) (is_some (many_data r.condition.identity)) refl
    (skip_to (codes "many") (codes "communication-diverted") (diverted_data s r.condition.diverted) (from-day_from s r) (is_some (many_data r.condition.identity)) refl
    (skip_to (codes "many") (codes "day-from") (day_from_data r.condition.weekly) (from-day_until s r) (is_some (many_data r.condition.identity)) refl
    (skip_to (codes "many") (codes "day-until") (day_until_data r.condition.weekly) (from-days s r) (is_some (many_data r.condition.identity)) refl
    (skip_to (codes "many") (codes "days") (days_data r.condition.weekly) (from-except s r) (is_some (many_data r.condition.identity)) refl
    (skip_to (codes "many") (codes "except") (except_data r.condition.identity) (from-from s r) (is_some (many_data r.condition.identity)) refl
    (skip_to (codes "many") (codes "from") (from_data r.condition.window) (from-international s r) (is_some (many_data r.condition.identity)) refl
    (skip_to (codes "many") (codes "international") (abroad_data s r.condition.abroad) (from-many s r) (is_some (many_data r.condition.identity)) refl
    (found_here (codes "many") (many_data r.condition.identity) (from-media s r)
    (skip_to (codes "many") (codes "media") (media_data r.condition.media) (from-no_answer s r) false refl
    (skip_to (codes "many") (codes "no-answer") (event_data s event.NoAnswer r.condition.event) (from-not_reachable s r) false refl
    (skip_to (codes "many") (codes "not-reachable") (event_data s event.NotReachable r.condition.event) (from-not_registered s r) false refl
    (skip_to (codes "many") (codes "not-registered") (event_data s event.NotRegistered r.condition.event) (from-notify_caller s r) false refl
    (skip_to (codes "many") (codes "notify-caller") (notification_data notice.NotifyCaller r.action) (from-offset s r) false refl
    (skip_to (codes "many") (codes "offset") (offset_data r.condition.weekly) (from-one s r) false refl
    (skip_to (codes "many") (codes "one") (one_data r.condition.identity) (from-to_caller s r) false refl
    (skip_to (codes "many") (codes "reveal-identity-to-caller") (notification_data notice.RevealToCaller r.action) (from-to_target s r) false refl
    (skip_to (codes "many") (codes "reveal-identity-to-target") (notification_data notice.RevealToTarget r.action) (from-served s r) false refl
    (skip_to (codes "many") (codes "reveal-served-user-identity-to-caller") (notification_data notice.RevealServedToCaller r.action) (from-target s r) false refl
    (skip_to (codes "many") (codes "target") (target_data r.action) (from-until s r) false refl
    (skip_to (codes "many") (codes "until") (until_data r.condition.window) no_members false refl refl))))))))))))))))))))))

has_one : (s : Service) (r : Rule) → has_key (codes "one") (rule_data s r) ≡ is_some (one_data r.condition.identity)
has_one s r =
    skip_to (codes "one") (codes "allow") (allow_data r.action) (from-anonymous s r) (is_some (one_data r.condition.identity)) refl
    (skip_to (codes "one") (codes "anonymous") (anonymous_data s r.condition.anonymous) (from-busy s r) (is_some (one_data r.condition.identity)) refl
    (skip_to (codes "one") (codes "busy") (event_data s event.Busy r.condition.event) (from-diverted s r) (is_some (one_data r.condition.identity)) refl
    (skip_to (codes "one") (codes "communication-diverted") (diverted_data s r.condition.diverted) (from-day_from s r) (is_some (one_data r.condition.identity)) refl
    (skip_to (codes "one") (codes "day-from") (day_from_data r.condition.weekly) (from-day_until s r) (is_some (one_data r.condition.identity)) refl
    (skip_to (codes "one") (codes "day-until") (day_until_data r.condition.weekly) (from-days s r) (is_some (one_data r.condition.identity)) refl
    (skip_to (codes "one") (codes "days") (days_data r.condition.weekly) (from-except s r) (is_some (one_data r.condition.identity)) refl
    (skip_to (codes "one") (codes "except") (except_data r.condition.identity) (from-from s r) (is_some (one_data r.condition.identity)) refl
    (skip_to (codes "one") (codes "from") (from_data r.condition.window) (from-international s r) (is_some (one_data r.condition.identity)) refl
    (skip_to (codes "one") (codes "international") (abroad_data s r.condition.abroad) (from-many s r) (is_some (one_data r.condition.identity)) refl
    (skip_to (codes "one") (codes "many") (many_data r.condition.identity) (from-media s r) (is_some (one_data r.condition.identity)) refl
    (skip_to (codes "one") (codes "media") (media_data r.condition.media) (from-no_answer s r) (is_some (one_data r.condition.identity)) refl
    (skip_to (codes "one") (codes "no-answer") (event_data s event.NoAnswer r.condition.event) (from-not_reachable s r) (is_some (one_data r.condition.identity)) refl
    (skip_to (codes "one") (codes "not-reachable") (event_data s event.NotReachable r.condition.event) (from-not_registered s r) (is_some (one_data r.condition.identity)) refl
    (skip_to (codes "one") (codes "not-registered") (event_data s event.NotRegistered r.condition.event) (from-notify_caller s r) (is_some (one_data r.condition.identity)) refl
    (skip_to (codes "one") (codes "notify-caller") (notification_data notice.NotifyCaller r.action) (from-offset s r) (is_some (one_data r.condition.identity)) refl
    (skip_to (codes "one") (codes "offset") (offset_data r.condition.weekly) (from-one s r) (is_some (one_data r.condition.identity)) refl
    (found_here (codes "one") (one_data r.condition.identity) (from-to_caller s r)
    (skip_to (codes "one") (codes "reveal-identity-to-caller") (notification_data notice.RevealToCaller r.action) (from-to_target s r) false refl
    (skip_to (codes "one") (codes "reveal-identity-to-target") (notification_data notice.RevealToTarget r.action) (from-served s r) false refl
    (skip_to (codes "one") (codes "reveal-served-user-identity-to-caller") (notification_data notice.RevealServedToCaller r.action) (from-target s r) false refl
    (skip_to (codes "one") (codes "target") (target_data r.action) (from-until s r) false refl
    (skip_to (codes "one") (codes "until") (until_data r.condition.window) no_members false refl refl))))))))))))))))))))))

has_until : (s : Service) (r : Rule) → has_key (codes "until") (rule_data s r) ≡ is_some (until_data r.condition.window)
has_until s r =
    skip_to (codes "until") (codes "allow") (allow_data r.action) (from-anonymous s r) (is_some (until_data r.condition.window)) refl
    (skip_to (codes "until") (codes "anonymous") (anonymous_data s r.condition.anonymous) (from-busy s r) (is_some (until_data r.condition.window)) refl
    (skip_to (codes "until") (codes "busy") (event_data s event.Busy r.condition.event) (from-diverted s r) (is_some (until_data r.condition.window)) refl
    (skip_to (codes "until") (codes "communication-diverted") (diverted_data s r.condition.diverted) (from-day_from s r) (is_some (until_data r.condition.window)) refl
    (skip_to (codes "until") (codes "day-from") (day_from_data r.condition.weekly) (from-day_until s r) (is_some (until_data r.condition.window)) refl
    (skip_to (codes "until") (codes "day-until") (day_until_data r.condition.weekly) (from-days s r) (is_some (until_data r.condition.window)) refl
    (skip_to (codes "until") (codes "days") (days_data r.condition.weekly) (from-except s r) (is_some (until_data r.condition.window)) refl
    (skip_to (codes "until") (codes "except") (except_data r.condition.identity) (from-from s r) (is_some (until_data r.condition.window)) refl
    (skip_to (codes "until") (codes "from") (from_data r.condition.window) (from-international s r) (is_some (until_data r.condition.window)) refl
    (skip_to (codes "until") (codes "international") (abroad_data s r.condition.abroad) (from-many s r) (is_some (until_data r.condition.window)) refl
    (skip_to (codes "until") (codes "many") (many_data r.condition.identity) (from-media s r) (is_some (until_data r.condition.window)) refl
    (skip_to (codes "until") (codes "media") (media_data r.condition.media) (from-no_answer s r) (is_some (until_data r.condition.window)) refl
    (skip_to (codes "until") (codes "no-answer") (event_data s event.NoAnswer r.condition.event) (from-not_reachable s r) (is_some (until_data r.condition.window)) refl
    (skip_to (codes "until") (codes "not-reachable") (event_data s event.NotReachable r.condition.event) (from-not_registered s r) (is_some (until_data r.condition.window)) refl
    (skip_to (codes "until") (codes "not-registered") (event_data s event.NotRegistered r.condition.event) (from-notify_caller s r) (is_some (until_data r.condition.window)) refl
    (skip_to (codes "until") (codes "notify-caller") (notification_data notice.NotifyCaller r.action) (from-offset s r) (is_some (until_data r.condition.window)) refl
    (skip_to (codes "until") (codes "offset") (offset_data r.condition.weekly) (from-one s r) (is_some (until_data r.condition.window)) refl
    (skip_to (codes "until") (codes "one") (one_data r.condition.identity) (from-to_caller s r) (is_some (until_data r.condition.window)) refl
    (skip_to (codes "until") (codes "reveal-identity-to-caller") (notification_data notice.RevealToCaller r.action) (from-to_target s r) (is_some (until_data r.condition.window)) refl
    (skip_to (codes "until") (codes "reveal-identity-to-target") (notification_data notice.RevealToTarget r.action) (from-served s r) (is_some (until_data r.condition.window)) refl
    (skip_to (codes "until") (codes "reveal-served-user-identity-to-caller") (notification_data notice.RevealServedToCaller r.action) (from-target s r)
    (is_some (until_data r.condition.window)) refl
    (skip_to (codes "until") (codes "target") (target_data r.action) (from-until s r) (is_some (until_data r.condition.window)) refl
    (found_here (codes "until") (until_data r.condition.window) no_members refl))))))))))))))))))))))

has_day_until : (s : Service) (r : Rule) → has_key (codes "day-until") (rule_data s r) ≡ is_some (day_until_data r.condition.weekly)
has_day_until s r =
    skip_to (codes "day-until") (codes "allow") (allow_data r.action) (from-anonymous s r) (is_some (day_until_data r.condition.weekly)) refl
    (skip_to (codes "day-until") (codes "anonymous") (anonymous_data s r.condition.anonymous) (from-busy s r) (is_some (day_until_data r.condition.weekly)) refl
    (skip_to (codes "day-until") (codes "busy") (event_data s event.Busy r.condition.event) (from-diverted s r) (is_some (day_until_data r.condition.weekly)) refl
    (skip_to (codes "day-until") (codes "communication-diverted") (diverted_data s r.condition.diverted) (from-day_from s r) (is_some (day_until_data r.condition.weekly)) refl
    (skip_to (codes "day-until") (codes "day-from") (day_from_data r.condition.weekly) (from-day_until s r) (is_some (day_until_data r.condition.weekly)) refl
    (found_here (codes "day-until") (day_until_data r.condition.weekly) (from-days s r)
    (skip_to (codes "day-until") (codes "days") (days_data r.condition.weekly) (from-except s r) false refl
    (skip_to (codes "day-until") (codes "except") (except_data r.condition.identity) (from-from s r) false refl
    (skip_to (codes "day-until") (codes "from") (from_data r.condition.window) (from-international s r) false refl
    (skip_to (codes "day-until") (codes "international") (abroad_data s r.condition.abroad) (from-many s r) false refl
    (skip_to (codes "day-until") (codes "many") (many_data r.condition.identity) (from-media s r) false refl
    (skip_to (codes "day-until") (codes "media") (media_data r.condition.media) (from-no_answer s r) false refl
    (skip_to (codes "day-until") (codes "no-answer") (event_data s event.NoAnswer r.condition.event) (from-not_reachable s r) false refl
    (skip_to (codes "day-until") (codes "not-reachable") (event_data s event.NotReachable r.condition.event) (from-not_registered s r) false refl
    (skip_to (codes "day-until") (codes "not-registered") (event_data s event.NotRegistered r.condition.event) (from-notify_caller s r) false refl
    (skip_to (codes "day-until") (codes "notify-caller") (notification_data notice.NotifyCaller r.action) (from-offset s r) false refl
    (skip_to (codes "day-until") (codes "offset") (offset_data r.condition.weekly) (from-one s r) false refl
    (skip_to (codes "day-until") (codes "one") (one_data r.condition.identity) (from-to_caller s r) false refl
    (skip_to (codes "day-until") (codes "reveal-identity-to-caller") (notification_data notice.RevealToCaller r.action) (from-to_target s r) false refl
    (skip_to (codes "day-until") (codes "reveal-identity-to-target") (notification_data notice.RevealToTarget r.action) (from-served s r) false refl
    (skip_to (codes "day-until") (codes "reveal-served-user-identity-to-caller") (notification_data notice.RevealServedToCaller r.action) (from-target s r) false refl
    (skip_to (codes "day-until") (codes "target") (target_data r.action) (from-until s r) false refl
    (skip_to (codes "day-until") (codes "until") (until_data r.condition.window) no_members false refl refl))))))))))))))))))))))

has_days : (s : Service) (r : Rule) → has_key (codes "days") (rule_data s r) ≡ is_some (days_data r.condition.weekly)
has_days s r =
    skip_to (codes "days") (codes "allow") (allow_data r.action) (from-anonymous s r) (is_some (days_data r.condition.weekly)) refl
    (skip_to (codes "days") (codes "anonymous") (anonymous_data s r.condition.anonymous) (from-busy s r) (is_some (days_data r.condition.weekly)) refl
    (skip_to (codes "days") (codes "busy") (event_data s event.Busy r.condition.event) (from-diverted s r) (is_some (days_data r.condition.weekly)) refl
    (skip_to (codes "days") (codes "communication-diverted") (diverted_data s r.condition.diverted) (from-day_from s r) (is_some (days_data r.condition.weekly)) refl
    (skip_to (codes "days") (codes "day-from") (day_from_data r.condition.weekly) (from-day_until s r) (is_some (days_data r.condition.weekly)) refl
    (skip_to (codes "days") (codes "day-until") (day_until_data r.condition.weekly) (from-days s r) (is_some (days_data r.condition.weekly)) refl
    (found_here (codes "days") (days_data r.condition.weekly) (from-except s r)
    (skip_to (codes "days") (codes "except") (except_data r.condition.identity) (from-from s r) false refl
    (skip_to (codes "days") (codes "from") (from_data r.condition.window) (from-international s r) false refl
    (skip_to (codes "days") (codes "international") (abroad_data s r.condition.abroad) (from-many s r) false refl
    (skip_to (codes "days") (codes "many") (many_data r.condition.identity) (from-media s r) false refl
    (skip_to (codes "days") (codes "media") (media_data r.condition.media) (from-no_answer s r) false refl
    (skip_to (codes "days") (codes "no-answer") (event_data s event.NoAnswer r.condition.event) (from-not_reachable s r) false refl
    (skip_to (codes "days") (codes "not-reachable") (event_data s event.NotReachable r.condition.event) (from-not_registered s r) false refl
    (skip_to (codes "days") (codes "not-registered") (event_data s event.NotRegistered r.condition.event) (from-notify_caller s r) false refl
    (skip_to (codes "days") (codes "notify-caller") (notification_data notice.NotifyCaller r.action) (from-offset s r) false refl
    (skip_to (codes "days") (codes "offset") (offset_data r.condition.weekly) (from-one s r) false refl
    (skip_to (codes "days") (codes "one") (one_data r.condition.identity) (from-to_caller s r) false refl
    (skip_to (codes "days") (codes "reveal-identity-to-caller") (notification_data notice.RevealToCaller r.action) (from-to_target s r) false refl
    (skip_to (codes "days") (codes "reveal-identity-to-target") (notification_data notice.RevealToTarget r.action) (from-served s r) false refl
    (skip_to (codes "days") (codes "reveal-served-user-identity-to-caller") (notification_data notice.RevealServedToCaller r.action) (from-target s r) false refl
    (skip_to (codes "days") (codes "target") (target_data r.action) (from-until s r) false refl
    (skip_to (codes "days") (codes "until") (until_data r.condition.window) no_members false refl refl))))))))))))))))))))))

named-allow : rule_key_of (codes "allow") ≡ Some (key.Allow)
unfolding event_of notification_of identity_key_of second_key_of other_key_of
named-allow = refl

named-anonymous : rule_key_of (codes "anonymous") ≡ Some (key.Anonymous)
unfolding event_of notification_of identity_key_of second_key_of other_key_of
named-anonymous = refl

named-busy : rule_key_of (codes "busy") ≡ Some (key.Event event.Busy)
unfolding event_of notification_of identity_key_of second_key_of other_key_of
named-busy = refl

named-diverted : rule_key_of (codes "communication-diverted") ≡ Some (key.Diverted)
unfolding event_of notification_of identity_key_of second_key_of other_key_of
named-diverted = refl

named-day_from : rule_key_of (codes "day-from") ≡ Some (key.DayFrom)
unfolding event_of notification_of identity_key_of second_key_of other_key_of
named-day_from = refl

named-day_until : rule_key_of (codes "day-until") ≡ Some (key.DayUntil)
unfolding event_of notification_of identity_key_of second_key_of other_key_of
named-day_until = refl

named-days : rule_key_of (codes "days") ≡ Some (key.Days)
unfolding event_of notification_of identity_key_of second_key_of other_key_of
named-days = refl

named-except : rule_key_of (codes "except") ≡ Some (key.Except)
unfolding event_of notification_of identity_key_of second_key_of other_key_of
named-except = refl

named-from : rule_key_of (codes "from") ≡ Some (key.From)
unfolding event_of notification_of identity_key_of second_key_of other_key_of
named-from = refl

named-international : rule_key_of (codes "international") ≡ Some (key.International)
unfolding event_of notification_of identity_key_of second_key_of other_key_of
named-international = refl

named-many : rule_key_of (codes "many") ≡ Some (key.Many)
unfolding event_of notification_of identity_key_of second_key_of other_key_of
named-many = refl

named-media : rule_key_of (codes "media") ≡ Some (key.Media)
unfolding event_of notification_of identity_key_of second_key_of other_key_of
named-media = refl

named-no_answer : rule_key_of (codes "no-answer") ≡ Some (key.Event event.NoAnswer)
unfolding event_of notification_of identity_key_of second_key_of other_key_of
named-no_answer = refl

named-not_reachable : rule_key_of (codes "not-reachable") ≡ Some (key.Event event.NotReachable)
unfolding event_of notification_of identity_key_of second_key_of other_key_of
named-not_reachable = refl

named-not_registered : rule_key_of (codes "not-registered") ≡ Some (key.Event event.NotRegistered)
unfolding event_of notification_of identity_key_of second_key_of other_key_of
named-not_registered = refl

named-notify_caller : rule_key_of (codes "notify-caller") ≡ Some (key.Notification notice.NotifyCaller)
unfolding event_of notification_of identity_key_of second_key_of other_key_of
named-notify_caller = refl

named-offset : rule_key_of (codes "offset") ≡ Some (key.Offset)
unfolding event_of notification_of identity_key_of second_key_of other_key_of
named-offset = refl

named-one : rule_key_of (codes "one") ≡ Some (key.One)
unfolding event_of notification_of identity_key_of second_key_of other_key_of
named-one = refl

named-to_caller : rule_key_of (codes "reveal-identity-to-caller") ≡ Some (key.Notification notice.RevealToCaller)
unfolding event_of notification_of identity_key_of second_key_of other_key_of
named-to_caller = refl

named-to_target : rule_key_of (codes "reveal-identity-to-target") ≡ Some (key.Notification notice.RevealToTarget)
unfolding event_of notification_of identity_key_of second_key_of other_key_of
named-to_target = refl

named-served : rule_key_of (codes "reveal-served-user-identity-to-caller") ≡ Some (key.Notification notice.RevealServedToCaller)
unfolding event_of notification_of identity_key_of second_key_of other_key_of
named-served = refl

named-target : rule_key_of (codes "target") ≡ Some (key.Target)
unfolding event_of notification_of identity_key_of second_key_of other_key_of
named-target = refl

named-until : rule_key_of (codes "until") ≡ Some (key.Until)
unfolding event_of notification_of identity_key_of second_key_of other_key_of
named-until = refl

-- what was read after each key
abbrev after-allow : Rule → RuleDraft
after-allow r = record empty_draft { allow = allowed r.action }

abbrev after-anonymous : Rule → RuleDraft
after-anonymous r = record (after-allow r) { anonymous = r.condition.anonymous }

abbrev after-busy : Rule → RuleDraft
after-busy r = record (after-anonymous r) { event = at_busy r.condition.event }

abbrev after-diverted : Rule → RuleDraft
after-diverted r = record (after-busy r) { diverted = r.condition.diverted }

abbrev after-day_from : Rule → RuleDraft
after-day_from r = record (after-diverted r) { day_from = day_from_of r.condition.weekly }

abbrev after-day_until : Rule → RuleDraft
after-day_until r = record (after-day_from r) { hours = hours_of r.condition.weekly }

abbrev after-days : Rule → RuleDraft
after-days r = record (after-day_until r) { weekly = week_of r.condition.weekly }

abbrev after-except : Rule → RuleDraft
after-except r = record (after-days r) { except = except_of r.condition.identity }

abbrev after-from : Rule → RuleDraft
after-from r = record (after-except r) { from = start_of r.condition.window }

abbrev after-international : Rule → RuleDraft
after-international r = record (after-from r) { abroad = r.condition.abroad }

abbrev after-many : Rule → RuleDraft
after-many r = record (after-international r) { many = many_of r.condition.identity }

abbrev after-media : Rule → RuleDraft
after-media r = record (after-many r) { media = r.condition.media }

abbrev after-no_answer : Rule → RuleDraft
after-no_answer r = record (after-media r) { event = at_no_answer r.condition.event }

abbrev after-not_reachable : Rule → RuleDraft
after-not_reachable r = record (after-no_answer r) { event = at_not_reachable r.condition.event }

abbrev after-not_registered : Rule → RuleDraft
after-not_registered r = record (after-not_reachable r) { event = r.condition.event }

abbrev after-notify_caller : Rule → RuleDraft
after-notify_caller r = record (after-not_registered r) { notifications = notifications_after notice.NotifyCaller r.action (after-not_registered r).notifications }

abbrev after-offset : Rule → RuleDraft
after-offset r = record (after-notify_caller r) { weekly = r.condition.weekly }

abbrev after-one : Rule → RuleDraft
after-one r = record (after-offset r) { one = one_of r.condition.identity }

abbrev after-to_caller : Rule → RuleDraft
after-to_caller r = record (after-one r) { notifications = notifications_after notice.RevealToCaller r.action (after-one r).notifications }

abbrev after-to_target : Rule → RuleDraft
after-to_target r = record (after-to_caller r) { notifications = notifications_after notice.RevealToTarget r.action (after-to_caller r).notifications }

abbrev after-served : Rule → RuleDraft
after-served r = record (after-to_target r) { notifications = notifications_after notice.RevealServedToCaller r.action (after-to_target r).notifications }

abbrev after-target : Rule → RuleDraft
after-target r = record (after-served r) { target = aimed r.action }

abbrev after-until : Rule → RuleDraft
after-until r = record (after-target r) { window = r.condition.window }

module _ (s : Service) (r : Rule) (is : IsRule s r) (ms : Members) (path : List ℕ)
    (many_there : has_key (codes "many") ms ≡ is_some (many_data r.condition.identity))
    (one_there : has_key (codes "one") ms ≡ is_some (one_data r.condition.identity))
    (until_there : has_key (codes "until") ms ≡ is_some (until_data r.condition.window))
    (day_until_there : has_key (codes "day-until") ms ≡ is_some (day_until_data r.condition.weekly))
    (days_there : has_key (codes "days") ms ≡ is_some (days_data r.condition.weekly)) where
  at-allow : (rest : Members) → keys_from (second s) ms path empty_draft (with_key (codes "allow") (allow_data r.action) rest) ≡ keys_from (second s) ms path (after-allow r) rest
  at-allow rest = walk s ms path empty_draft (codes "allow") (key.Allow) (allow_data r.action) rest (after-allow r) named-allow
      (allow_step s ms (dotted_path path (codes "allow")) empty_draft r.action is.action refl)

  at-anonymous : (rest : Members) → keys_from (second s) ms path (after-allow r) (with_key (codes "anonymous") (anonymous_data s r.condition.anonymous) rest) ≡ keys_from
      (second s) ms path (after-anonymous r) rest
  at-anonymous rest = walk s ms path (after-allow r) (codes "anonymous") (key.Anonymous) (anonymous_data s r.condition.anonymous) rest (after-anonymous r) named-anonymous
      (anonymous_step s ms (dotted_path path (codes "anonymous")) (after-allow r) r.condition.anonymous is.condition.anonymous refl)

  at-busy : (rest : Members) → keys_from (second s) ms path (after-anonymous r) (with_key (codes "busy") (event_data s event.Busy r.condition.event) rest) ≡ keys_from (second s)
      ms path (after-busy r) rest
  at-busy rest = walk s ms path (after-anonymous r) (codes "busy") (key.Event event.Busy) (event_data s event.Busy r.condition.event) rest (after-busy r) named-busy
      (busy_step s ms (dotted_path path (codes "busy")) (after-anonymous r) r.condition.event is.condition.event)

  at-diverted : (rest : Members) → keys_from (second s) ms path (after-busy r) (with_key (codes "communication-diverted") (diverted_data s r.condition.diverted) rest)
      ≡ keys_from (second s) ms path (after-diverted r) rest
  at-diverted rest = walk s ms path (after-busy r) (codes "communication-diverted") (key.Diverted) (diverted_data s r.condition.diverted) rest (after-diverted r) named-diverted
      (diverted_step s ms (dotted_path path (codes "communication-diverted")) (after-busy r) r.condition.diverted is.condition.diverted refl)

  at-day_from : (rest : Members) → keys_from (second s) ms path (after-diverted r) (with_key (codes "day-from") (day_from_data r.condition.weekly) rest) ≡ keys_from (second s)
      ms path (after-day_from r) rest
  at-day_from rest = walk s ms path (after-diverted r) (codes "day-from") (key.DayFrom) (day_from_data r.condition.weekly) rest (after-day_from r) named-day_from
      (day_from_step s ms (dotted_path path (codes "day-from")) (after-diverted r) r.condition.weekly is.condition.weekly day_until_there days_there refl)

  at-day_until : (rest : Members) → keys_from (second s) ms path (after-day_from r) (with_key (codes "day-until") (day_until_data r.condition.weekly) rest) ≡ keys_from
      (second s) ms path (after-day_until r) rest
  at-day_until rest = walk s ms path (after-day_from r) (codes "day-until") (key.DayUntil) (day_until_data r.condition.weekly) rest (after-day_until r) named-day_until
      (day_until_step s ms (dotted_path path (codes "day-until")) (after-day_from r) r.condition.weekly is.condition.weekly refl refl)

  at-days : (rest : Members) → keys_from (second s) ms path (after-day_until r) (with_key (codes "days") (days_data r.condition.weekly) rest) ≡ keys_from (second s) ms path
      (after-days r) rest
  at-days rest = walk s ms path (after-day_until r) (codes "days") (key.Days) (days_data r.condition.weekly) rest (after-days r) named-days
      (days_step s ms (dotted_path path (codes "days")) (after-day_until r) r.condition.weekly is.condition.weekly refl refl)

  at-except : (rest : Members) → keys_from (second s) ms path (after-days r) (with_key (codes "except") (except_data r.condition.identity) rest) ≡ keys_from (second s) ms path
      (after-except r) rest
  at-except rest = walk s ms path (after-days r) (codes "except") (key.Except) (except_data r.condition.identity) rest (after-except r) named-except
      (except_step s ms (dotted_path path (codes "except")) (after-days r) r.condition.identity is.condition.identity refl many_there one_there)

  at-from : (rest : Members) → keys_from (second s) ms path (after-except r) (with_key (codes "from") (from_data r.condition.window) rest) ≡ keys_from (second s) ms path
      (after-from r) rest
  at-from rest = walk s ms path (after-except r) (codes "from") (key.From) (from_data r.condition.window) rest (after-from r) named-from
      (from_step s ms (dotted_path path (codes "from")) (after-except r) r.condition.window is.condition.window until_there refl)

  at-international : (rest : Members) → keys_from (second s) ms path (after-from r) (with_key (codes "international") (abroad_data s r.condition.abroad) rest) ≡ keys_from
      (second s) ms path (after-international r) rest
  at-international rest = walk s ms path (after-from r) (codes "international") (key.International) (abroad_data s r.condition.abroad) rest (after-international r)
      named-international (abroad_step s ms (dotted_path path (codes "international")) (after-from r) r.condition.abroad is.condition.abroad refl)

  at-many : (rest : Members) → keys_from (second s) ms path (after-international r) (with_key (codes "many") (many_data r.condition.identity) rest) ≡ keys_from (second s)
      ms path (after-many r) rest
  at-many rest = walk s ms path (after-international r) (codes "many") (key.Many) (many_data r.condition.identity) rest (after-many r) named-many
      (many_step s ms (dotted_path path (codes "many")) (after-international r) r.condition.identity is.condition.identity refl)

  at-media : (rest : Members) → keys_from (second s) ms path (after-many r) (with_key (codes "media") (media_data r.condition.media) rest) ≡ keys_from (second s) ms path
      (after-media r) rest
  at-media rest = walk s ms path (after-many r) (codes "media") (key.Media) (media_data r.condition.media) rest (after-media r) named-media
      (media_step s ms (dotted_path path (codes "media")) (after-many r) r.condition.media is.condition.media refl)

  at-no_answer : (rest : Members) → keys_from (second s) ms path (after-media r) (with_key (codes "no-answer") (event_data s event.NoAnswer r.condition.event) rest) ≡ keys_from
      (second s) ms path (after-no_answer r) rest
  at-no_answer rest = walk s ms path (after-media r) (codes "no-answer") (key.Event event.NoAnswer) (event_data s event.NoAnswer r.condition.event) rest (after-no_answer r)
      named-no_answer (no_answer_step s ms (dotted_path path (codes "no-answer")) (after-media r) r.condition.event is.condition.event)

  at-not_reachable : (rest : Members) → keys_from (second s) ms path (after-no_answer r)
      (with_key (codes "not-reachable") (event_data s event.NotReachable r.condition.event) rest) ≡ keys_from (second s) ms path (after-not_reachable r) rest
  at-not_reachable rest = walk s ms path (after-no_answer r) (codes "not-reachable") (key.Event event.NotReachable) (event_data s event.NotReachable r.condition.event) rest
      (after-not_reachable r) named-not_reachable (not_reachable_step s ms (dotted_path path (codes "not-reachable")) (after-no_answer r) r.condition.event is.condition.event)

  at-not_registered : (rest : Members) → keys_from (second s) ms path (after-not_reachable r)
      (with_key (codes "not-registered") (event_data s event.NotRegistered r.condition.event) rest) ≡ keys_from (second s) ms path (after-not_registered r) rest
  at-not_registered rest = walk s ms path (after-not_reachable r) (codes "not-registered") (key.Event event.NotRegistered) (event_data s event.NotRegistered r.condition.event)
      rest (after-not_registered r) named-not_registered (not_registered_step s ms (dotted_path path (codes "not-registered")) (after-not_reachable r)
      r.condition.event is.condition.event)

  at-notify_caller : (rest : Members) → keys_from (second s) ms path (after-not_registered r) (with_key (codes "notify-caller") (notification_data notice.NotifyCaller r.action) rest)
      ≡ keys_from (second s) ms path (after-notify_caller r) rest
  at-notify_caller rest = walk s ms path (after-not_registered r) (codes "notify-caller") (key.Notification notice.NotifyCaller) (notification_data notice.NotifyCaller r.action) rest
      (after-notify_caller r) named-notify_caller (notice_step s ms (dotted_path path (codes "notify-caller")) (after-not_registered r) notice.NotifyCaller r.action is.action)

  at-offset : (rest : Members) → keys_from (second s) ms path (after-notify_caller r) (with_key (codes "offset") (offset_data r.condition.weekly) rest) ≡ keys_from (second s)
      ms path (after-offset r) rest
  at-offset rest = walk s ms path (after-notify_caller r) (codes "offset") (key.Offset) (offset_data r.condition.weekly) rest (after-offset r) named-offset
      (offset_step s ms (dotted_path path (codes "offset")) (after-notify_caller r) r.condition.weekly is.condition.weekly refl)

  at-one : (rest : Members) → keys_from (second s) ms path (after-offset r) (with_key (codes "one") (one_data r.condition.identity) rest) ≡ keys_from (second s) ms path
      (after-one r) rest
  at-one rest = walk s ms path (after-offset r) (codes "one") (key.One) (one_data r.condition.identity) rest (after-one r) named-one
      (one_step s ms (dotted_path path (codes "one")) (after-offset r) r.condition.identity is.condition.identity refl refl)

  at-to_caller : (rest : Members) → keys_from (second s) ms path (after-one r) (with_key (codes "reveal-identity-to-caller") (notification_data notice.RevealToCaller r.action) rest)
      ≡ keys_from (second s) ms path (after-to_caller r) rest
  at-to_caller rest = walk s ms path (after-one r) (codes "reveal-identity-to-caller") (key.Notification notice.RevealToCaller) (notification_data notice.RevealToCaller r.action) rest
      (after-to_caller r) named-to_caller (notice_step s ms (dotted_path path (codes "reveal-identity-to-caller")) (after-one r) notice.RevealToCaller r.action is.action)

  at-to_target : (rest : Members) → keys_from (second s) ms path (after-to_caller r)
      (with_key (codes "reveal-identity-to-target") (notification_data notice.RevealToTarget r.action) rest) ≡ keys_from (second s) ms path (after-to_target r) rest
  at-to_target rest = walk s ms path (after-to_caller r) (codes "reveal-identity-to-target") (key.Notification notice.RevealToTarget) (notification_data notice.RevealToTarget r.action) rest
      (after-to_target r) named-to_target (notice_step s ms (dotted_path path (codes "reveal-identity-to-target")) (after-to_caller r) notice.RevealToTarget r.action is.action)

  at-served : (rest : Members) → keys_from (second s) ms path (after-to_target r)
      (with_key (codes "reveal-served-user-identity-to-caller") (notification_data notice.RevealServedToCaller r.action) rest) ≡ keys_from (second s) ms path (after-served r) rest
  at-served rest = walk s ms path (after-to_target r) (codes "reveal-served-user-identity-to-caller") (key.Notification notice.RevealServedToCaller)
      (notification_data notice.RevealServedToCaller r.action) rest (after-served r) named-served
      (notice_step s ms (dotted_path path (codes "reveal-served-user-identity-to-caller")) (after-to_target r) notice.RevealServedToCaller r.action is.action)

  at-target : (rest : Members) → keys_from (second s) ms path (after-served r) (with_key (codes "target") (target_data r.action) rest) ≡ keys_from (second s) ms path
      (after-target r) rest
  at-target rest = walk s ms path (after-served r) (codes "target") (key.Target) (target_data r.action) rest (after-target r) named-target
      (target_step s ms (dotted_path path (codes "target")) (after-served r) r.action is.action refl)

  at-until : (rest : Members) → keys_from (second s) ms path (after-target r) (with_key (codes "until") (until_data r.condition.window) rest) ≡ keys_from (second s) ms path
      (after-until r) rest
  at-until rest = walk s ms path (after-target r) (codes "until") (key.Until) (until_data r.condition.window) rest (after-until r) named-until
      (until_step s ms (dotted_path path (codes "until")) (after-target r) r.condition.window is.condition.window refl refl)

  keys_read : keys_from (second s) ms path empty_draft (rule_data s r) ≡ Ok (after-until r)
  keys_read = at-allow _ ∙ at-anonymous _ ∙ at-busy _ ∙ at-diverted _ ∙ at-day_from _ ∙ at-day_until _ ∙ at-days _ ∙ at-except _ ∙ at-from _ ∙ at-international _ ∙ at-many _
      ∙ at-media _ ∙ at-no_answer _ ∙ at-not_reachable _ ∙ at-not_registered _ ∙ at-notify_caller _ ∙ at-offset _ ∙ at-one _ ∙ at-to_caller _ ∙ at-to_target _ ∙ at-served _
      ∙ at-target _ ∙ at-until _

-- the identities of the rule, by its keys
who_back : (who : Option Who) → IfSome who IsWho → who_of (one_of who) (many_of who) (except_of who) ≡ who
who_back None is = refl
who_back (Some w) is = refl

-- the action of the rule, by its keys
action_back : (s : Service) (path : List ℕ) (a : Action) → IsAction s a
    → action_of s path (aimed a)
    (notifications_after notice.RevealServedToCaller a (notifications_after notice.RevealToTarget a (notifications_after notice.RevealToCaller a (notifications_after notice.NotifyCaller a all_notified))))
    (allowed a) ≡ Ok a
action_back service.Diversion path (Forward f) is = refl
action_back service.Incoming path (Forward f) is = absurd (let bad = is.0 in cc)
action_back service.Outgoing path (Forward f) is = absurd (let bad = is.0 in cc)
action_back service.Diversion path (Allow b) is = absurd cc
action_back service.Incoming path (Allow b) is = refl
action_back service.Outgoing path (Allow b) is = refl

pub rule_back : (s : Service) (path : List ℕ) (r : Rule) → IsRule s r → rule_of (second s) path (rule_data s r) ≡ Ok r
rule_back s path r is =
    let keys = keys_read s r is (rule_data s r) path (has_many s r) (has_one s r) (has_until s r) (has_day_until s r) (has_days s r) in
    let who = who_back r.condition.identity is.condition.identity in
    let act = action_back s path r.action is.action in
    rw (keys, act, who)
