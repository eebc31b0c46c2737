-- What is read of the keys of a rule can be printed, each by itself.
use Rattle.std.proofs.Common.{◌≡◌, ℕ, ℤ, ◌+◌, ◌<◌, ◌≤◌, arith, cond, Bool, true, false, ◌&&◌, not, nat_lt, int_lt, List, length, Option, Some, None, Ok, refl, codes}
use Rattle.std.proofs.lemmas.Bool.{and_parts}
use Rattle.std.proofs.lemmas.Bool.Decides.{nat_tests}
use Rattle.std.specs.Prelude.{IfOk, IfSome}
use Rattle.std.specs.List.{AllByRecursion}
use Rattle.toml.specs.Data.{Data, Members, no_members, member}
use Rattle.mmtel_sheet_grammar.specs.Elements.{truth_at, text_at, target_at, is_domain, domain_at, is_token_text, time_at, uris_at, tokens_at, days_at, clock_at, is_offset, offset_at}
use Rattle.mmtel_sheet_grammar.specs.Keys.{rule_key_of, is_listed, is_diversion, applies_to_callers, is_outgoing, is_version_two, dotted_path}
use Rattle.mmtel_sheet_grammar.specs.Rules.{has_key, empty_draft, with_event, event_read, until_read, day_until_read, days_read, offset_read, key_read, listed_key, listed_key_read, rule_key_read, keys_from}
use Rattle.mmtel_sheet_grammar.specs.declared.faults.SheetFault.TheVariants.{Wrong, Many}
use Rattle.mmtel_sheet_grammar.specs.declared.keys.Schema.{Schema}
use Rattle.mmtel_sheet_grammar.specs.declared.keys.RuleKey.{RuleKey}
use Rattle.mmtel_sheet_grammar.specs.declared.keys.RuleKey.TheVariants as key
use Rattle.mmtel_sheet_grammar.specs.declared.keys.Notification.{Notification}
use Rattle.mmtel_sheet_grammar.specs.declared.drafts.Hours.{Hours}
use Rattle.mmtel_sheet_grammar.specs.declared.drafts.RuleDraft.{RuleDraft}
use Rattle.mmtel_sheet_values.specs.declared.values.EventWord.{EventWord}
use Rattle.mmtel_sheet_values.specs.declared.values.Weekly.{Weekly}
use Rattle.mmtel_sheet_grammar.specs.Printable.{IsUriOfText, IsTarget, IsMoment, IsWindow, IsWeekly}
use Rattle.mmtel_sheet_grammar.specs.Sound.{IsSound, IsSoundTable}
use Rattle.mmtel_sheet_reader.proofs.ReadValues.{then_all, then_any, where_ok, unless_err}
use Rattle.mmtel_sheet_reader.proofs.ReadElements.{IsDays, target_ok, domain_ok, time_ok, uris_ok, tokens_ok, days_ok, clock_ok, offset_ok}

-- some hours of a day
pub record IsHours (h : Hours) : Type 0 where
  pub order : h.from < h.until
  pub within : h.until ≤ 1_440

-- the values of the keys of a rule so far can be printed
pub record IsKept (s : Schema) (d : RuleDraft) : Type 0 where
  pub abroad : d.abroad ≡ true → is_outgoing s.service ≡ true
  pub diverted : d.diverted ≡ true → applies_to_callers s.service ≡ true
  pub hours : IfSome d.hours IsHours
  pub weekly : IfSome d.weekly IsWeekly
  pub anonymous : d.anonymous ≡ true → applies_to_callers s.service ≡ true
  pub event : IfSome d.event (λ e. is_diversion s.service ≡ true)
  pub except : AllByRecursion IsUriOfText d.except
  pub from : IfSome d.from IsMoment
  pub many : IfSome d.many (λ domain. is_domain domain ≡ true)
  pub media : IfSome d.media (λ tokens. AllByRecursion (λ t. is_token_text t ≡ true) tokens)
  pub one : IfSome d.one (λ uris. AllByRecursion IsUriOfText uris)
  pub target : IfSome d.target IsTarget
  pub window : IfSome d.window IsWindow

pub nothing_kept : (s : Schema) → IsKept s empty_draft
nothing_kept s =
    record { abroad = λ e. absurd cc; diverted = λ e. absurd cc; hours = tt; weekly = tt; anonymous = λ e. absurd cc; event = tt; except = tt; from = tt; many = tt; media = tt; one = tt; target = tt; window = tt }

module _ (s : Schema) (ms : Members) (at : List ℕ) (d : RuleDraft) (k : IsKept s d) where
  allow_kept : (v : Data) → IfOk (key_read ms at d key.Allow v) (IsKept s)
  allow_kept v = then_any (truth_at at v) _ (IsKept s) (λ b. record {
    abroad = k.abroad;
    diverted = k.diverted;
    hours = k.hours;
    weekly = k.weekly;
    anonymous = k.anonymous;
    event = k.event;
    except = k.except;
    from = k.from;
    many = k.many;
    media = k.media;
    one = k.one;
    target = k.target;
    window = k.window;
  })

  anonymous_kept : (v : Data) → applies_to_callers s.service ≡ true → IfOk (key_read ms at d key.Anonymous v) (IsKept s)
  anonymous_kept v listed = then_any (truth_at at v) _ (IsKept s) (λ b. record {
    abroad = k.abroad;
    diverted = k.diverted;
    hours = k.hours;
    weekly = k.weekly;
    anonymous = λ e. listed;
    event = k.event;
    except = k.except;
    from = k.from;
    many = k.many;
    media = k.media;
    one = k.one;
    target = k.target;
    window = k.window;
  })

  diverted_kept : (v : Data) → applies_to_callers s.service ≡ true → IfOk (key_read ms at d key.Diverted v) (IsKept s)
  diverted_kept v listed = then_any (truth_at at v) _ (IsKept s) (λ b. record {
    abroad = k.abroad;
    diverted = λ e. listed;
    hours = k.hours;
    weekly = k.weekly;
    anonymous = k.anonymous;
    event = k.event;
    except = k.except;
    from = k.from;
    many = k.many;
    media = k.media;
    one = k.one;
    target = k.target;
    window = k.window;
  })

  international_kept : (v : Data) → is_outgoing s.service ≡ true → IfOk (key_read ms at d key.International v) (IsKept s)
  international_kept v listed = then_any (truth_at at v) _ (IsKept s) (λ b. record {
    abroad = λ e. listed;
    diverted = k.diverted;
    hours = k.hours;
    weekly = k.weekly;
    anonymous = k.anonymous;
    event = k.event;
    except = k.except;
    from = k.from;
    many = k.many;
    media = k.media;
    one = k.one;
    target = k.target;
    window = k.window;
  })

  day_from_kept : (v : Data) → IfOk (key_read ms at d key.DayFrom v) (IsKept s)
  day_from_kept v = then_any (clock_at 1_439 at v) _ (IsKept s) (λ n.
      where_ok (has_key (codes "day-until") ms && has_key (codes "days") ms) (Ok (record d { day_from = Some n })) (Wrong at) (IsKept s) (λ both. record {
        abroad = k.abroad;
        diverted = k.diverted;
        hours = k.hours;
        weekly = k.weekly;
        anonymous = k.anonymous;
        event = k.event;
        except = k.except;
        from = k.from;
        many = k.many;
        media = k.media;
        one = k.one;
        target = k.target;
        window = k.window;
      }))

  hours_kept : (n : ℕ) (o : Option ℕ) → n ≤ 1_440 → IfOk (day_until_read at d n o) (IsKept s)
  hours_kept n None bound = tt
  hours_kept n (Some f) bound = where_ok (nat_lt f n) _ (Wrong at) (IsKept s) (λ order.
      let before : f < n = grind (arith, nat_tests) in
      record {
        abroad = k.abroad;
        diverted = k.diverted;
        hours = record { order = before; within = bound };
        weekly = k.weekly;
        anonymous = k.anonymous;
        event = k.event;
        except = k.except;
        from = k.from;
        many = k.many;
        media = k.media;
        one = k.one;
        target = k.target;
        window = k.window;
      })

  day_until_kept : (v : Data) → IfOk (key_read ms at d key.DayUntil v) (IsKept s)
  day_until_kept v = then_all (clock_at 1_440 at v) _ (λ n. n ≤ 1_440) (IsKept s) (clock_ok 1_440 at v) (λ n bound. hours_kept n d.day_from bound)

  week_kept : (days : List Bool) (o : Option Hours) → IsDays days → IfSome o IsHours → IfOk (days_read at d days o) (IsKept s)
  week_kept days None is hours = tt
  week_kept days (Some h) is hours = record {
    abroad = k.abroad;
    diverted = k.diverted;
    hours = k.hours;
    weekly = record { whole = is.whole; days = is.some; order = hours.order; within = hours.within; offset = refl };
    anonymous = k.anonymous;
    event = k.event;
    except = k.except;
    from = k.from;
    many = k.many;
    media = k.media;
    one = k.one;
    target = k.target;
    window = k.window;
  }

  days_kept : (v : Data) → IfOk (key_read ms at d key.Days v) (IsKept s)
  days_kept v = then_all (days_at at v) _ IsDays (IsKept s) (days_ok at v) (λ days is. week_kept days d.hours is k.hours)

  ahead_kept : (z : ℤ) (o : Option Weekly) → is_offset z ≡ true → IfSome o IsWeekly → IfOk (offset_read at d z o) (IsKept s)
  ahead_kept z None is weekly = tt
  ahead_kept z (Some w) is weekly = record {
    abroad = k.abroad;
    diverted = k.diverted;
    hours = k.hours;
    weekly = record { whole = weekly.whole; days = weekly.days; order = weekly.order; within = weekly.within; offset = is };
    anonymous = k.anonymous;
    event = k.event;
    except = k.except;
    from = k.from;
    many = k.many;
    media = k.media;
    one = k.one;
    target = k.target;
    window = k.window;
  }

  offset_kept : (v : Data) → IfOk (key_read ms at d key.Offset v) (IsKept s)
  offset_kept v = then_all (offset_at at v) _ (λ z. is_offset z ≡ true) (IsKept s) (offset_ok at v) (λ z is. ahead_kept z d.weekly is k.weekly)

  event_with : (e : EventWord) (o : Option EventWord) → is_diversion s.service ≡ true → IfOk (with_event at e d o) (IsKept s)
  event_with e None listed = record {
    abroad = k.abroad;
    diverted = k.diverted;
    hours = k.hours;
    weekly = k.weekly;
    anonymous = k.anonymous;
    event = listed;
    except = k.except;
    from = k.from;
    many = k.many;
    media = k.media;
    one = k.one;
    target = k.target;
    window = k.window;
  }
  event_with e (Some f) listed = tt

  event_told : (e : EventWord) (b : Bool) → is_diversion s.service ≡ true → IfOk (event_read at e d b) (IsKept s)
  event_told e true listed = event_with e d.event listed
  event_told e false listed = k

  event_kept : (e : EventWord) (v : Data) → is_diversion s.service ≡ true → IfOk (key_read ms at d (key.Event e) v) (IsKept s)
  event_kept e v listed = then_any (truth_at at v) _ (IsKept s) (λ b. event_told e b listed)

  except_kept : (v : Data) → IsSound v → IfOk (key_read ms at d key.Except v) (IsKept s)
  except_kept v sound = then_all (uris_at at v) _ (λ us. AllByRecursion IsUriOfText us) (IsKept s) (uris_ok at v sound) (λ us all.
      where_ok (has_key (codes "many") ms) _ (Wrong at) (IsKept s) (λ many.
      unless_err (nat_lt 64 (length us) && not (has_key (codes "one") ms)) (Ok (record d { except = us })) (Many at 64) (IsKept s) (λ few. record {
        abroad = k.abroad;
        diverted = k.diverted;
        hours = k.hours;
        weekly = k.weekly;
        anonymous = k.anonymous;
        event = k.event;
        except = all;
        from = k.from;
        many = k.many;
        media = k.media;
        one = k.one;
        target = k.target;
        window = k.window;
      })))

  from_kept : (v : Data) → IfOk (key_read ms at d key.From v) (IsKept s)
  from_kept v = then_all (time_at at v) _ IsMoment (IsKept s) (time_ok at v) (λ t moment.
      where_ok (has_key (codes "until") ms) (Ok (record d { from = Some t })) (Wrong at) (IsKept s) (λ until. record {
        abroad = k.abroad;
        diverted = k.diverted;
        hours = k.hours;
        weekly = k.weekly;
        anonymous = k.anonymous;
        event = k.event;
        except = k.except;
        from = moment;
        many = k.many;
        media = k.media;
        one = k.one;
        target = k.target;
        window = k.window;
      }))

  id_kept : (v : Data) → IfOk (key_read ms at d key.Id v) (IsKept s)
  id_kept v = then_any (text_at at v) _ (IsKept s) (λ x. k)

  many_kept : (v : Data) → IfOk (key_read ms at d key.Many v) (IsKept s)
  many_kept v = then_all (domain_at at v) _ (λ x. is_domain x ≡ true) (IsKept s) (domain_ok at v) (λ x is. record {
    abroad = k.abroad;
    diverted = k.diverted;
    hours = k.hours;
    weekly = k.weekly;
    anonymous = k.anonymous;
    event = k.event;
    except = k.except;
    from = k.from;
    many = is;
    media = k.media;
    one = k.one;
    target = k.target;
    window = k.window;
  })

  media_kept : (v : Data) → IsSound v → IfOk (key_read ms at d key.Media v) (IsKept s)
  media_kept v sound = then_all (tokens_at at v) _ (AllByRecursion (λ t. is_token_text t ≡ true)) (IsKept s) (tokens_ok at v sound) (λ ts all. record {
    abroad = k.abroad;
    diverted = k.diverted;
    hours = k.hours;
    weekly = k.weekly;
    anonymous = k.anonymous;
    event = k.event;
    except = k.except;
    from = k.from;
    many = k.many;
    media = all;
    one = k.one;
    target = k.target;
    window = k.window;
  })

  notice_kept : (n : Notification) (v : Data) → IfOk (key_read ms at d (key.Notification n) v) (IsKept s)
  notice_kept n v = then_any (truth_at at v) _ (IsKept s) (λ b. record {
    abroad = k.abroad;
    diverted = k.diverted;
    hours = k.hours;
    weekly = k.weekly;
    anonymous = k.anonymous;
    event = k.event;
    except = k.except;
    from = k.from;
    many = k.many;
    media = k.media;
    one = k.one;
    target = k.target;
    window = k.window;
  })

  one_kept : (v : Data) → IsSound v → IfOk (key_read ms at d key.One v) (IsKept s)
  one_kept v sound = then_all (uris_at at v) _ (λ us. AllByRecursion IsUriOfText us) (IsKept s) (uris_ok at v sound) (λ us all.
      unless_err (nat_lt 64 (length us + length d.except)) (Ok (record d { one = Some us })) (Many at 64) (IsKept s) (λ few. record {
        abroad = k.abroad;
        diverted = k.diverted;
        hours = k.hours;
        weekly = k.weekly;
        anonymous = k.anonymous;
        event = k.event;
        except = k.except;
        from = k.from;
        many = k.many;
        media = k.media;
        one = all;
        target = k.target;
        window = k.window;
      }))

  target_kept : (v : Data) → IsSound v → IfOk (key_read ms at d key.Target v) (IsKept s)
  target_kept v sound = then_all (target_at at v) _ IsTarget (IsKept s) (target_ok at v sound) (λ u is. record {
    abroad = k.abroad;
    diverted = k.diverted;
    hours = k.hours;
    weekly = k.weekly;
    anonymous = k.anonymous;
    event = k.event;
    except = k.except;
    from = k.from;
    many = k.many;
    media = k.media;
    one = k.one;
    target = is;
    window = k.window;
  })

  window_kept : (t : ℤ) (o : Option ℤ) → IsMoment t → IfSome o IsMoment → IfOk (until_read at d t o) (IsKept s)
  window_kept t None until from = tt
  window_kept t (Some f) until from = where_ok (int_lt f t) _ (Wrong at) (IsKept s) (λ order. record {
    abroad = k.abroad;
    diverted = k.diverted;
    hours = k.hours;
    weekly = k.weekly;
    anonymous = k.anonymous;
    event = k.event;
    except = k.except;
    from = k.from;
    many = k.many;
    media = k.media;
    one = k.one;
    target = k.target;
    window = record { from = from; until = until; order = order };
  })

  until_kept : (v : Data) → IfOk (key_read ms at d key.Until v) (IsKept s)
  until_kept v = then_all (time_at at v) _ IsMoment (IsKept s) (time_ok at v) (λ t moment. window_kept t d.from moment k.from)

  key_kept : (n : RuleKey) (v : Data) → is_listed s n ≡ true → IsSound v → IfOk (key_read ms at d n v) (IsKept s)
  key_kept key.Allow v listed sound = allow_kept v
  key_kept key.Anonymous v listed sound = anonymous_kept v listed
  key_kept key.DayFrom v listed sound = day_from_kept v
  key_kept key.DayUntil v listed sound = day_until_kept v
  key_kept key.Days v listed sound = days_kept v
  key_kept key.Diverted v listed sound = diverted_kept v (and_parts (is_version_two s.version) (applies_to_callers s.service) listed).1
  key_kept (key.Event e) v listed sound = event_kept e v listed
  key_kept key.Except v listed sound = except_kept v sound
  key_kept key.From v listed sound = from_kept v
  key_kept key.Id v listed sound = id_kept v
  key_kept key.International v listed sound = international_kept v (and_parts (is_version_two s.version) (is_outgoing s.service) listed).1
  key_kept key.Many v listed sound = many_kept v
  key_kept key.Media v listed sound = media_kept v sound
  key_kept (key.Notification n) v listed sound = notice_kept n v
  key_kept key.Offset v listed sound = offset_kept v
  key_kept key.One v listed sound = one_kept v sound
  key_kept key.Target v listed sound = target_kept v sound
  key_kept key.Until v listed sound = until_kept v

  listed_kept : (o : Option RuleKey) (v : Data) → IfSome o (λ n. is_listed s n ≡ true) → IsSound v → IfOk (listed_key_read ms at d o v) (IsKept s)
  listed_kept None v listed sound = tt
  listed_kept (Some n) v listed sound = key_kept n v listed sound

only_listed : (s : Schema) (n : RuleKey) (b : Bool) → is_listed s n ≡ b → IfSome (cond b (Some n) None) (λ m. is_listed s m ≡ true)
only_listed s n true e = e
only_listed s n false e = tt

is_in_list : (s : Schema) (o : Option RuleKey) → IfSome (listed_key s o) (λ n. is_listed s n ≡ true)
is_in_list s None = tt
is_in_list s (Some n) = only_listed s n (is_listed s n) refl

pub keys_kept : (s : Schema) (ms : Members) (path : List ℕ) (d : RuleDraft) (rest : Members) → IsKept s d → IsSoundTable rest → IfOk (keys_from s ms path d rest) (IsKept s)
keys_kept s ms path d no_members k sound = k
keys_kept s ms path d (member n v rest) k sound =
    then_all (rule_key_read s ms (dotted_path path n) d n v) (λ e. keys_from s ms path e rest) (IsKept s) (IsKept s)
    (listed_kept s ms (dotted_path path n) d k (listed_key s (rule_key_of n)) v (is_in_list s (rule_key_of n)) sound.1) (λ e kept. keys_kept s ms path e rest kept sound.2)
