-- What each key of a printed rule adds to what is read of the rule.
use Rattle.std.proofs.Common.{◌≡◌, ℕ, ℤ, pos, ◌+◌, ◌≤◌, Bool, true, false, ◌&&◌, nat_lt, List, [], length, Option, Some, None, Ok, refl, sym, ap, ◌∙◌, arith, codes}
use Rattle.std.proofs.lemmas.Bool.Decides.{nat_tests}
use Rattle.std.specs.Prelude.{IfSome}
use Rattle.std.specs.List.{AllByRecursion}
use Rattle.std.specs.Option.{is_some}
use Rattle.toml.specs.Data.{Data, Members, boolean}
use Rattle.mmtel_lex.specs.declared.values.Uri.{Uri}
use Rattle.mmtel_sheet_grammar.specs.Elements.{is_token_text, is_domain}
use Rattle.mmtel_sheet_grammar.specs.Keys.{rule_key_of, is_listed, is_diversion, applies_to_callers, is_outgoing, dotted_path}
use Rattle.mmtel_sheet_grammar.specs.Rules.{keys_from, has_key, event_read, key_read}
use Rattle.mmtel_sheet_grammar.specs.declared.keys.Service.{Service}
use Rattle.mmtel_sheet_grammar.specs.declared.keys.Service.TheVariants as service
use Rattle.mmtel_sheet_grammar.specs.declared.keys.Version.TheVariants as version
use Rattle.mmtel_sheet_grammar.specs.declared.keys.Schema.{Schema}
use Rattle.mmtel_sheet_grammar.specs.declared.keys.Notification.{Notification}
use Rattle.mmtel_sheet_grammar.specs.declared.keys.Notification.TheVariants as notice
use Rattle.mmtel_sheet_grammar.specs.declared.keys.RuleKey.{RuleKey}
use Rattle.mmtel_sheet_grammar.specs.declared.keys.RuleKey.TheVariants as key
use Rattle.mmtel_sheet_grammar.specs.declared.drafts.Notifications.{Notifications}
use Rattle.mmtel_sheet_grammar.specs.Walk.{schema}
use Rattle.mmtel_sheet_grammar.specs.declared.drafts.Hours.{Hours}
use Rattle.mmtel_sheet_grammar.specs.declared.drafts.RuleDraft.{RuleDraft}
use Rattle.mmtel_sheet_values.specs.declared.values.Action.{Action}
use Rattle.mmtel_sheet_values.specs.declared.values.Action.TheVariants.{Forward, Allow}
use Rattle.mmtel_sheet_values.specs.declared.values.EventWord.{EventWord}
use Rattle.mmtel_sheet_values.specs.declared.values.EventWord.TheVariants as event
use Rattle.mmtel_sheet_values.specs.declared.values.Weekly.{Weekly}
use Rattle.mmtel_sheet_values.specs.declared.values.Who.{Who}
use Rattle.mmtel_sheet_values.specs.declared.values.Window.{Window}
use Rattle.mmtel_sheet_grammar.specs.Printable.{IsUriOfText, IsWho, IsWindow, IsWeekly, IsAction}
use Rattle.mmtel_sheets.specs.Printing.{with_key, where_true, except_beside, except_data, text_data, many_data, one_data, from_data, until_data, media_data, event_data}
use Rattle.mmtel_sheets.specs.Printing.{anonymous_data, diverted_data, abroad_data, day_from_data, day_until_data, days_data, offset_data, allow_data, target_data, notification_data}
use Rattle.mmtel_sheets.proofs.ElementsBack.{target_back, domain_back, time_back, uris_back, tokens_back, clock_back, days_back, offset_back}

-- the rules of the service, as they are printed
abbrev pub second : Service → Schema
second s = schema version.Two s

-- a key changes what was read so far to this
abbrev pub StepsTo : Service → Members → List ℕ → RuleDraft → RuleKey → Option Data → RuleDraft → Type 0
StepsTo s ms at r k None after = r ≡ after
StepsTo s ms at r k (Some d) after = (is_listed (second s) k ≡ true) × (key_read ms at r k d ≡ Ok after)

pub walk : (s : Service) (ms : Members) (path : List ℕ) (r : RuleDraft) (name : List ℕ) (k : RuleKey) (o : Option Data) (rest : Members) (after : RuleDraft)
    → rule_key_of name ≡ Some k → StepsTo s ms (dotted_path path name) r k o after → keys_from (second s) ms path r (with_key name o rest) ≡ keys_from (second s) ms path after rest
walk s ms path r name k None rest after named step = ap (λ (x : RuleDraft). keys_from (second s) ms path x rest) step
walk s ms path r name k (Some d) rest after named step = rw (named, step.0, step.1)

-- ---- what is read of each part

abbrev pub allowed : Action → Option Bool
allowed (Forward f) = None
allowed (Allow b) = Some b

abbrev pub aimed : Action → Option Uri
aimed (Forward f) = Some f.target
aimed (Allow b) = None

abbrev pub notifications_after : Notification → Action → Notifications → Notifications
notifications_after n (Allow b) ns = ns
notifications_after notice.NotifyCaller (Forward f) ns = record ns { notify_caller = f.notify_caller }
notifications_after notice.RevealToCaller (Forward f) ns = record ns { reveal_to_caller = f.reveal_to_caller }
notifications_after notice.RevealServedToCaller (Forward f) ns = record ns { reveal_served_to_caller = f.reveal_served_to_caller }
notifications_after notice.RevealToTarget (Forward f) ns = record ns { reveal_to_target = f.reveal_to_target }

abbrev pub except_of : Option Who → List Uri
except_of None = []
except_of (Some w) = w.except

abbrev pub many_of : Option Who → Option (List ℕ)
many_of None = None
many_of (Some w) = w.many

abbrev pub one_of : Option Who → Option (List Uri)
one_of None = None
one_of (Some w) = Some w.one

abbrev pub start_of : Option Window → Option ℤ
start_of None = None
start_of (Some w) = Some w.from

abbrev pub day_from_of : Option Weekly → Option ℕ
day_from_of None = None
day_from_of (Some w) = Some w.from

abbrev pub hours_of : Option Weekly → Option Hours
hours_of None = None
hours_of (Some w) = Some (record { from = w.from; until = w.until })

-- before the offset of the clock was read
abbrev pub week_of : Option Weekly → Option Weekly
week_of None = None
week_of (Some w) = Some (record w { offset = pos 0 })

-- the event, once the key of it and those before it were read
abbrev pub at_busy : Option EventWord → Option EventWord
at_busy None = None
at_busy (Some event.Busy) = Some event.Busy
at_busy (Some event.NoAnswer) = None
at_busy (Some event.NotReachable) = None
at_busy (Some event.NotRegistered) = None

abbrev pub at_no_answer : Option EventWord → Option EventWord
at_no_answer None = None
at_no_answer (Some event.Busy) = Some event.Busy
at_no_answer (Some event.NoAnswer) = Some event.NoAnswer
at_no_answer (Some event.NotReachable) = None
at_no_answer (Some event.NotRegistered) = None

abbrev pub at_not_reachable : Option EventWord → Option EventWord
at_not_reachable None = None
at_not_reachable (Some event.Busy) = Some event.Busy
at_not_reachable (Some event.NoAnswer) = Some event.NoAnswer
at_not_reachable (Some event.NotReachable) = Some event.NotReachable
at_not_reachable (Some event.NotRegistered) = None

-- ---- the steps

module _ (s : Service) (ms : Members) (at : List ℕ) where
  pub allow_step : (d : RuleDraft) (a : Action) → IsAction s a → d.allow ≡ None → StepsTo s ms at d key.Allow (allow_data a) (record d { allow = allowed a })
  allow_step d (Forward f) is e = ap (λ (x : Option Bool). record d { allow = x }) e
  allow_step d (Allow b) is e = (is, refl)

  pub target_step : (d : RuleDraft) (a : Action) → IsAction s a → d.target ≡ None → StepsTo s ms at d key.Target (target_data a) (record d { target = aimed a })
  target_step d (Forward f) is e = (is.0, rw (target_back at f.target is.1))
  target_step d (Allow b) is e = ap (λ (x : Option Uri). record d { target = x }) e

  pub notice_step : (d : RuleDraft) (n : Notification) (a : Action) → IsAction s a → StepsTo s ms at d (key.Notification n) (notification_data n a) (record d { notifications = notifications_after n a d.notifications })
  notice_step d notice.NotifyCaller (Forward f) is = (is.0, refl)
  notice_step d notice.RevealToCaller (Forward f) is = (is.0, refl)
  notice_step d notice.RevealServedToCaller (Forward f) is = (is.0, refl)
  notice_step d notice.RevealToTarget (Forward f) is = (is.0, refl)
  notice_step d notice.NotifyCaller (Allow b) is = refl
  notice_step d notice.RevealToCaller (Allow b) is = refl
  notice_step d notice.RevealServedToCaller (Allow b) is = refl
  notice_step d notice.RevealToTarget (Allow b) is = refl

  and_false : (b : Bool) → (b && false) ≡ false
  and_false true = refl
  and_false false = refl

  beside_step : (d : RuleDraft) (many : Option (List ℕ)) (except : List Uri) → AllByRecursion IsUriOfText except → (many ≡ None → except ≡ []) → d.except ≡ []
      → has_key (codes "many") ms ≡ is_some (text_data many) → has_key (codes "one") ms ≡ true
      → StepsTo s ms at d key.Except (except_beside many except) (record d { except = except })
  beside_step d None except all partner e many one = ap (λ (x : List Uri). record d { except = x }) (e ∙ sym (partner refl))
  beside_step d (Some domain) except all partner e many one = (refl, rw (uris_back at except all, many, one, and_false (nat_lt 64 (length except))))

  pub except_step : (d : RuleDraft) (who : Option Who) → IfSome who IsWho → d.except ≡ [] → has_key (codes "many") ms ≡ is_some (many_data who) → has_key (codes "one") ms
      ≡ is_some (one_data who)
      → StepsTo s ms at d key.Except (except_data who) (record d { except = except_of who })
  except_step d None is e many one = ap (λ (x : List Uri). record d { except = x }) e
  except_step d (Some w) is e many one = beside_step d w.many w.except is.except is.partner e many one

  domain_step : (d : RuleDraft) (many : Option (List ℕ)) → IfSome many (λ domain. is_domain domain ≡ true) → d.many ≡ None → StepsTo s ms at d key.Many (text_data many)
      (record d { many = many })
  domain_step d None is e = ap (λ (x : Option (List ℕ)). record d { many = x }) e
  domain_step d (Some domain) is e = (refl, rw (domain_back at domain is))

  pub many_step : (d : RuleDraft) (who : Option Who) → IfSome who IsWho → d.many ≡ None → StepsTo s ms at d key.Many (many_data who) (record d { many = many_of who })
  many_step d None is e = ap (λ (x : Option (List ℕ)). record d { many = x }) e
  many_step d (Some w) is e = domain_step d w.many is.many e

  pub one_step : (d : RuleDraft) (who : Option Who) → IfSome who IsWho → d.except ≡ except_of who → d.one ≡ None → StepsTo s ms at d key.One (one_data who)
      (record d { one = one_of who })
  one_step d None is had e = ap (λ (x : Option (List Uri)). record d { one = x }) e
  one_step d (Some w) is had e =
      let few : nat_lt 64 (length w.one + length w.except) ≡ false = grind (arith, nat_tests, is.few) in
      (refl, rw (uris_back at w.one is.one, had, few))

  pub from_step : (d : RuleDraft) (window : Option Window) → IfSome window IsWindow → has_key (codes "until") ms ≡ is_some (until_data window) → d.from ≡ None
      → StepsTo s ms at d key.From (from_data window) (record d { from = start_of window })
  from_step d None is until e = ap (λ (x : Option ℤ). record d { from = x }) e
  from_step d (Some w) is until e = (refl, rw (time_back at w.from is.from, until))

  pub until_step : (d : RuleDraft) (window : Option Window) → IfSome window IsWindow → d.from ≡ start_of window → d.window ≡ None
      → StepsTo s ms at d key.Until (until_data window) (record d { window = window })
  until_step d None is had e = ap (λ (x : Option Window). record d { window = x }) e
  until_step d (Some w) is had e = (refl, rw (time_back at w.until is.until, had, is.order))

  pub media_step : (d : RuleDraft) (media : Option (List (List ℕ))) → IfSome media (λ tokens. AllByRecursion (λ t. is_token_text t ≡ true) tokens) → d.media ≡ None
      → StepsTo s ms at d key.Media (media_data media) (record d { media = media })
  media_step d None is e = ap (λ (x : Option (List (List ℕ))). record d { media = x }) e
  media_step d (Some tokens) is e = (refl, rw (tokens_back at tokens is))

  pub day_from_step : (d : RuleDraft) (week : Option Weekly) → IfSome week IsWeekly → has_key (codes "day-until") ms ≡ is_some (day_until_data week) → has_key (codes "days") ms
      ≡ is_some (days_data week)
      → d.day_from ≡ None → StepsTo s ms at d key.DayFrom (day_from_data week) (record d { day_from = day_from_of week })
  day_from_step d None is until days e = ap (λ (x : Option ℕ). record d { day_from = x }) e
  day_from_step d (Some w) is until days e =
      let early : w.from ≤ 1_439 = omega (arith, is.order, is.within) in
      (refl, rw (clock_back 1_439 at w.from early (omega arith), until, days))

  pub day_until_step : (d : RuleDraft) (week : Option Weekly) → IfSome week IsWeekly → d.day_from ≡ day_from_of week → d.hours ≡ None
      → StepsTo s ms at d key.DayUntil (day_until_data week) (record d { hours = hours_of week })
  day_until_step d None is had e = ap (λ (x : Option Hours). record d { hours = x }) e
  day_until_step d (Some w) is had e =
      let order : nat_lt w.from w.until ≡ true = grind (arith, nat_tests, is.order) in
      (refl, rw (clock_back 1_440 at w.until is.within (omega arith), had, order))

  pub days_step : (d : RuleDraft) (week : Option Weekly) → IfSome week IsWeekly → d.hours ≡ hours_of week → d.weekly ≡ None
      → StepsTo s ms at d key.Days (days_data week) (record d { weekly = week_of week })
  days_step d None is had e = ap (λ (x : Option Weekly). record d { weekly = x }) e
  days_step d (Some w) is had e = (refl, rw (days_back at w.days is.whole is.days, had))

  pub offset_step : (d : RuleDraft) (week : Option Weekly) → IfSome week IsWeekly → d.weekly ≡ week_of week
      → StepsTo s ms at d key.Offset (offset_data week) (record d { weekly = week })
  offset_step d None is had = ap (λ (x : Option Weekly). record d { weekly = x }) had
  offset_step d (Some w) is had = (refl, rw (offset_back at w.offset is.offset, had))

pub diverted_step : (s : Service) (ms : Members) (at : List ℕ) (d : RuleDraft) (b : Bool) → (b ≡ true → applies_to_callers s ≡ true) → d.diverted ≡ false
    → StepsTo s ms at d key.Diverted (diverted_data s b) (record d { diverted = b })
diverted_step service.Diversion ms at d b fits e = (refl, refl)
diverted_step service.Incoming ms at d b fits e = (refl, refl)
diverted_step service.Outgoing ms at d true fits e = absurd (let bad = fits refl in cc)
diverted_step service.Outgoing ms at d false fits e = ap (λ (x : Bool). record d { diverted = x }) e

pub abroad_step : (s : Service) (ms : Members) (at : List ℕ) (d : RuleDraft) (b : Bool) → (b ≡ true → is_outgoing s ≡ true) → d.abroad ≡ false
    → StepsTo s ms at d key.International (abroad_data s b) (record d { abroad = b })
abroad_step service.Outgoing ms at d b fits e = (refl, refl)
abroad_step service.Diversion ms at d true fits e = absurd (let bad = fits refl in cc)
abroad_step service.Diversion ms at d false fits e = ap (λ (x : Bool). record d { abroad = x }) e
abroad_step service.Incoming ms at d true fits e = absurd (let bad = fits refl in cc)
abroad_step service.Incoming ms at d false fits e = ap (λ (x : Bool). record d { abroad = x }) e

pub anonymous_step : (s : Service) (ms : Members) (at : List ℕ) (d : RuleDraft) (b : Bool) → (b ≡ true → applies_to_callers s ≡ true) → d.anonymous ≡ false
    → StepsTo s ms at d key.Anonymous (anonymous_data s b) (record d { anonymous = b })
anonymous_step service.Diversion ms at d b fits e = (refl, refl)
anonymous_step service.Incoming ms at d b fits e = (refl, refl)
anonymous_step service.Outgoing ms at d true fits e = absurd (let bad = fits refl in cc)
anonymous_step service.Outgoing ms at d false fits e = ap (λ (x : Bool). record d { anonymous = x }) e

-- a key of an event that is true
true_event : (s : Service) (ms : Members) (at : List ℕ) (r : RuleDraft) (e : EventWord) (after : RuleDraft) → is_diversion s ≡ true → event_read at e r true ≡ Ok after
    → StepsTo s ms at r (key.Event e) (where_true (is_diversion s) (boolean true)) after
true_event service.Diversion ms at r e after fits read = (refl, read)
true_event service.Incoming ms at r e after fits read = absurd cc
true_event service.Outgoing ms at r e after fits read = absurd cc

-- a key of an event that is false
false_event : (s : Service) (ms : Members) (at : List ℕ) (r : RuleDraft) (e : EventWord) → StepsTo s ms at r (key.Event e) (where_true (is_diversion s) (boolean false)) r
false_event service.Diversion ms at r e = (refl, refl)
false_event service.Incoming ms at r e = refl
false_event service.Outgoing ms at r e = refl

module _ (s : Service) (ms : Members) (at : List ℕ) (d : RuleDraft) where
  pub busy_step : (happened : Option EventWord) → IfSome happened (λ e. is_diversion s ≡ true)
      → StepsTo s ms at (record d { event = None }) (key.Event event.Busy) (event_data s event.Busy happened) (record d { event = at_busy happened })
  busy_step None fits = false_event s ms at (record d { event = None }) event.Busy
  busy_step (Some event.Busy) fits = true_event s ms at (record d { event = None }) event.Busy (record d { event = Some event.Busy }) fits refl
  busy_step (Some event.NoAnswer) fits = false_event s ms at (record d { event = None }) event.Busy
  busy_step (Some event.NotReachable) fits = false_event s ms at (record d { event = None }) event.Busy
  busy_step (Some event.NotRegistered) fits = false_event s ms at (record d { event = None }) event.Busy

  pub no_answer_step : (happened : Option EventWord) → IfSome happened (λ e. is_diversion s ≡ true)
      → StepsTo s ms at (record d { event = at_busy happened }) (key.Event event.NoAnswer) (event_data s event.NoAnswer happened) (record d { event = at_no_answer happened })
  no_answer_step None fits = false_event s ms at (record d { event = None }) event.NoAnswer
  no_answer_step (Some event.Busy) fits = false_event s ms at (record d { event = Some event.Busy }) event.NoAnswer
  no_answer_step (Some event.NoAnswer) fits = true_event s ms at (record d { event = None }) event.NoAnswer (record d { event = Some event.NoAnswer }) fits refl
  no_answer_step (Some event.NotReachable) fits = false_event s ms at (record d { event = None }) event.NoAnswer
  no_answer_step (Some event.NotRegistered) fits = false_event s ms at (record d { event = None }) event.NoAnswer

  pub not_reachable_step : (happened : Option EventWord) → IfSome happened (λ e. is_diversion s ≡ true)
      → StepsTo s ms at (record d { event = at_no_answer happened }) (key.Event event.NotReachable) (event_data s event.NotReachable happened)
      (record d { event = at_not_reachable happened })
  not_reachable_step None fits = false_event s ms at (record d { event = None }) event.NotReachable
  not_reachable_step (Some event.Busy) fits = false_event s ms at (record d { event = Some event.Busy }) event.NotReachable
  not_reachable_step (Some event.NoAnswer) fits = false_event s ms at (record d { event = Some event.NoAnswer }) event.NotReachable
  not_reachable_step (Some event.NotReachable) fits = true_event s ms at (record d { event = None }) event.NotReachable (record d { event = Some event.NotReachable }) fits refl
  not_reachable_step (Some event.NotRegistered) fits = false_event s ms at (record d { event = None }) event.NotReachable

  pub not_registered_step : (happened : Option EventWord) → IfSome happened (λ e. is_diversion s ≡ true)
      → StepsTo s ms at (record d { event = at_not_reachable happened }) (key.Event event.NotRegistered) (event_data s event.NotRegistered happened) (record d { event = happened })
  not_registered_step None fits = false_event s ms at (record d { event = None }) event.NotRegistered
  not_registered_step (Some event.Busy) fits = false_event s ms at (record d { event = Some event.Busy }) event.NotRegistered
  not_registered_step (Some event.NoAnswer) fits = false_event s ms at (record d { event = Some event.NoAnswer }) event.NotRegistered
  not_registered_step (Some event.NotReachable) fits = false_event s ms at (record d { event = Some event.NotReachable }) event.NotRegistered
  not_registered_step (Some event.NotRegistered) fits = true_event s ms at (record d { event = None }) event.NotRegistered (record d { event = Some event.NotRegistered }) fits refl
