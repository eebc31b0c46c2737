-- The document of a printable sheet is sound: its texts are UTF-8, and its keys ascend.
use Rattle.std.proofs.Common.{◌≡◌, ℕ, pos, arith, Bool, true, false, List, [], ◌∷◌, Option, Some, None, Ok, ◌↔◌, refl, codes}
use Rattle.std.specs.Prelude.{IfSome, slice_index_or}
use Rattle.std.specs.List.{AllByRecursion}
use Rattle.toml.specs.Data.{Data, string, integer, boolean, table, Items, no_items, item, push_item, Members, no_members, is_before}
use Rattle.mmtel_base.specs.Classes.{in_class}
use Rattle.mmtel_lex.specs.declared.values.Uri.{Uri}
use Rattle.mmtel_sheet_grammar.specs.Elements.{is_domain, is_token_text}
use Rattle.mmtel_sheet_grammar.specs.Keys.{is_diversion, applies_to_callers, is_outgoing}
use Rattle.mmtel_sheet_grammar.specs.Printable.{IsUriOfText, IsWho, IsWindow, IsWeekly, IsAction, IsRule, AreRules, IsDiversion, IsBar, IsWaiting, IsPrintable}
use Rattle.mmtel_sheet_grammar.specs.Sound.{IsSound, IsSoundArray, IsSoundTable}
use Rattle.mmtel_sheet_grammar.specs.Walk.{sheet_of}
use Rattle.mmtel_sheet_grammar.specs.declared.keys.Notification.{Notification}
use Rattle.mmtel_sheet_grammar.specs.declared.keys.Notification.TheVariants as notice
use Rattle.mmtel_sheet_grammar.specs.declared.keys.Service.{Service}
use Rattle.mmtel_sheet_grammar.specs.declared.keys.Service.TheVariants as service
use Rattle.mmtel_sheet_values.specs.declared.values.Action.{Action}
use Rattle.mmtel_sheet_values.specs.declared.values.Action.TheVariants.{Forward, Allow}
use Rattle.mmtel_sheet_values.specs.declared.values.BarPart.{BarPart}
use Rattle.mmtel_sheet_values.specs.declared.values.DiversionPart.{DiversionPart}
use Rattle.mmtel_sheet_values.specs.declared.values.Restriction.{Restriction}
use Rattle.mmtel_sheet_values.specs.declared.values.Rule.{Rule}
use Rattle.mmtel_sheet_values.specs.declared.values.Sheet.{Sheet}
use Rattle.mmtel_sheet_values.specs.declared.values.Weekly.{Weekly}
use Rattle.mmtel_sheet_values.specs.declared.values.Who.{Who}
use Rattle.mmtel_sheet_values.specs.declared.values.Window.{Window}
use Rattle.mmtel_sheet_reader.proofs.Ascii.{token_text, domain_text}
use Rattle.mmtel_sheet_reader.proofs.Order.{before_through}
use Rattle.mmtel_sheet_reader.proofs.ReadTables.{read_printable}
use Rattle.mmtel_sheets.specs.Printing.{comes_before, with_key, each_item, where_true, uri_data, uris_data, except_beside, except_data, text_data, many_data, one_data, from_data, until_data, media_data}
use Rattle.mmtel_sheets.specs.Printing.{day_from_data, day_until_data, with_word, day_words, days_data, offset_data, bound_data, version_data, party_keys, allow_data, target_data, notification_data, late_keys}
use Rattle.mmtel_sheets.specs.Printing.{middle_keys, rule_data, rules_data, diversion_data, rejection_data, bar_data, presentation_data, word_of, restriction_data, waiting_data, part_data, late_tables, document_of}
use Rattle.mmtel_sheets.proofs.DayWords.{to_monday, to_tuesday, to_wednesday, to_thursday, to_friday, to_saturday}
use Rattle.mmtel_sheets.proofs.MomentTexts.{moment_utf8, hour_utf8}
use Rattle.mmtel_sheets.proofs.TablesBack.{sheet_back}

-- members that are sound and come after each key that precedes this one
record IsTail (l : List ℕ) (ms : Members) : Type 0 where
  pub sound : IsSoundTable ms
  pub behind : (k : List ℕ) → comes_before k l ≡ true → is_before k ms ≡ true

no_tail : (l : List ℕ) → IsTail l no_members
no_tail l = record { sound = tt; behind = λ k a. refl }

-- one more key, which is the first
key_tail : (l m : List ℕ) (o : Option Data) (ms : Members) → comes_before l m ≡ true → IfSome o IsSound → IsTail m ms → IsTail l (with_key l o ms)
key_tail l m None ms first here tail = record { sound = tail.sound; behind = λ k a. tail.behind k (before_through k l m a first) }
key_tail l m (Some d) ms first here tail = record { sound = (tail.behind l first, here, tail.sound); behind = λ k a. a }

last_tail : (l : List ℕ) (o : Option Data) → IfSome o IsSound → IsTail l (with_key l o no_members)
last_tail l None here = no_tail l
last_tail l (Some d) here = record { sound = (refl, here, tt); behind = λ k a. a }

-- ---- the values at keys

module _ {A : Type 0} where
  items_sound : (P : A → Type 0) (f : A → Data) → ((x : A) → P x → IsSound (f x)) → (xs : List A) → AllByRecursion P xs → IsSoundArray (each_item f xs)
  items_sound P f each [] all = tt
  items_sound P f each (x ∷ xs) all = (each x all.0, items_sound P f each xs all.1)

  part_sound : (P : A → Type 0) (f : A → Data) → ((x : A) → P x → IsSound (f x)) → (o : Option A) → IfSome o P → IfSome (part_data f o) IsSound
  part_sound P f each None is = tt
  part_sound P f each (Some x) is = each x is

uris_sound : (us : List Uri) → AllByRecursion IsUriOfText us → IsSound (uris_data us)
uris_sound us all = items_sound IsUriOfText uri_data (λ u is. is.text) us all

truth_where : (here b : Bool) → IfSome (where_true here (boolean b)) IsSound
truth_where true b = tt
truth_where false b = tt

beside_sound : (many : Option (List ℕ)) (us : List Uri) → AllByRecursion IsUriOfText us → IfSome (except_beside many us) IsSound
beside_sound None us all = tt
beside_sound (Some domain) us all = uris_sound us all

except_sound : (who : Option Who) → IfSome who IsWho → IfSome (except_data who) IsSound
except_sound None is = tt
except_sound (Some w) is = beside_sound w.many w.except is.except

domain_sound : (many : Option (List ℕ)) → IfSome many (λ domain. is_domain domain ≡ true) → IfSome (text_data many) IsSound
domain_sound None is = tt
domain_sound (Some s) is = domain_text s is

many_sound : (who : Option Who) → IfSome who IsWho → IfSome (many_data who) IsSound
many_sound None is = tt
many_sound (Some w) is = domain_sound w.many is.many

one_sound : (who : Option Who) → IfSome who IsWho → IfSome (one_data who) IsSound
one_sound None is = tt
one_sound (Some w) is = uris_sound w.one is.one

from_sound : (window : Option Window) → IfSome window IsWindow → IfSome (from_data window) IsSound
from_sound None is = tt
from_sound (Some w) is = moment_utf8 w.from is.from

until_sound : (window : Option Window) → IfSome window IsWindow → IfSome (until_data window) IsSound
until_sound None is = tt
until_sound (Some w) is = moment_utf8 w.until is.until

media_sound : (media : Option (List (List ℕ))) → IfSome media (λ tokens. AllByRecursion (λ t. is_token_text t ≡ true) tokens) → IfSome (media_data media) IsSound
media_sound None is = tt
media_sound (Some ts) is = items_sound (λ t. is_token_text t ≡ true) string token_text ts is

day_from_sound : (week : Option Weekly) → IfSome week IsWeekly → IfSome (day_from_data week) IsSound
day_from_sound None is = tt
day_from_sound (Some w) is = hour_utf8 w.from (omega (arith, is.order, is.within))

day_until_sound : (week : Option Weekly) → IfSome week IsWeekly → IfSome (day_until_data week) IsSound
day_until_sound None is = tt
day_until_sound (Some w) is = hour_utf8 w.until is.within

push_sound : (ds : Items) (d : Data) → IsSoundArray ds → IsSound d → IsSoundArray (push_item ds d)
push_sound no_items d all here = (here, tt)
push_sound (item e ds) d all here = (all.0, push_sound ds d all.1 here)

word_there : (ds : Items) (b : Bool) (word : List ℕ) → is_token_text word ≡ true → IsSoundArray ds → IsSoundArray (with_word ds b word)
word_there ds true word is all = push_sound ds (string word) all (token_text word is)
word_there ds false word is all = all

week_sound : (days : List Bool) → IsSoundArray (day_words days)
unfolding in_class
week_sound days =
    word_there (to_saturday days) (slice_index_or days 6 false) (codes "sun") refl
    (word_there (to_friday days) (slice_index_or days 5 false) (codes "sat") refl
    (word_there (to_thursday days) (slice_index_or days 4 false) (codes "fri") refl
    (word_there (to_wednesday days) (slice_index_or days 3 false) (codes "thu") refl
    (word_there (to_tuesday days) (slice_index_or days 2 false) (codes "wed") refl
    (word_there (to_monday days) (slice_index_or days 1 false) (codes "tue") refl
    (word_there no_items (slice_index_or days 0 false) (codes "mon") refl tt))))))

days_sound : (week : Option Weekly) → IfSome (days_data week) IsSound
days_sound None = tt
days_sound (Some w) = week_sound w.days

offset_sound : (week : Option Weekly) → IfSome (offset_data week) IsSound
offset_sound None = tt
offset_sound (Some w) = tt

allow_sound : (a : Action) → IfSome (allow_data a) IsSound
allow_sound (Forward f) = tt
allow_sound (Allow b) = tt

target_sound : (s : Service) (a : Action) → IsAction s a → IfSome (target_data a) IsSound
target_sound s (Forward f) is = is.1.uri.text
target_sound s (Allow b) is = tt

notice_sound : (n : Notification) (a : Action) → IfSome (notification_data n a) IsSound
notice_sound notice.NotifyCaller (Forward f) = tt
notice_sound notice.RevealToCaller (Forward f) = tt
notice_sound notice.RevealServedToCaller (Forward f) = tt
notice_sound notice.RevealToTarget (Forward f) = tt
notice_sound notice.NotifyCaller (Allow b) = tt
notice_sound notice.RevealToCaller (Allow b) = tt
notice_sound notice.RevealServedToCaller (Allow b) = tt
notice_sound notice.RevealToTarget (Allow b) = tt

-- ---- rules

module _ (s : Service) (r : Rule) (is : IsRule s r) where
  late_tail : IsTail (codes "one") (late_keys r)
  late_tail =
      key_tail (codes "one") (codes "reveal-identity-to-caller") _ _ refl (one_sound r.condition.identity is.condition.identity)
      (key_tail (codes "reveal-identity-to-caller") (codes "reveal-identity-to-target") _ _ refl (notice_sound notice.RevealToCaller r.action)
      (key_tail (codes "reveal-identity-to-target") (codes "reveal-served-user-identity-to-caller") _ _ refl (notice_sound notice.RevealToTarget r.action)
      (key_tail (codes "reveal-served-user-identity-to-caller") (codes "target") _ _ refl (notice_sound notice.RevealServedToCaller r.action)
      (key_tail (codes "target") (codes "until") _ _ refl (target_sound s r.action is.action)
      (last_tail (codes "until") _ (until_sound r.condition.window is.condition.window))))))

  middle_tail : IsTail (codes "media") (middle_keys s r)
  middle_tail =
      key_tail (codes "media") (codes "no-answer") _ _ refl (media_sound r.condition.media is.condition.media)
      (key_tail (codes "no-answer") (codes "not-reachable") _ _ refl (truth_where (is_diversion s) _)
      (key_tail (codes "not-reachable") (codes "not-registered") _ _ refl (truth_where (is_diversion s) _)
      (key_tail (codes "not-registered") (codes "notify-caller") _ _ refl (truth_where (is_diversion s) _)
      (key_tail (codes "notify-caller") (codes "offset") _ _ refl (notice_sound notice.NotifyCaller r.action)
      (key_tail (codes "offset") (codes "one") _ _ refl (offset_sound r.condition.weekly) late_tail)))))

  party_tail : IsTail (codes "except") (party_keys s r)
  party_tail =
      key_tail (codes "except") (codes "from") _ _ refl (except_sound r.condition.identity is.condition.identity)
      (key_tail (codes "from") (codes "international") _ _ refl (from_sound r.condition.window is.condition.window)
      (key_tail (codes "international") (codes "many") _ _ refl (truth_where (is_outgoing s) _)
      (key_tail (codes "many") (codes "media") _ _ refl (many_sound r.condition.identity is.condition.identity) middle_tail)))

  rule_tail : IsTail (codes "allow") (rule_data s r)
  rule_tail =
      key_tail (codes "allow") (codes "anonymous") _ _ refl (allow_sound r.action)
      (key_tail (codes "anonymous") (codes "busy") _ _ refl (truth_where (applies_to_callers s) _)
      (key_tail (codes "busy") (codes "communication-diverted") _ _ refl (truth_where (is_diversion s) _)
      (key_tail (codes "communication-diverted") (codes "day-from") _ _ refl (truth_where (applies_to_callers s) _)
      (key_tail (codes "day-from") (codes "day-until") _ _ refl (day_from_sound r.condition.weekly is.condition.weekly)
      (key_tail (codes "day-until") (codes "days") _ _ refl (day_until_sound r.condition.weekly is.condition.weekly)
      (key_tail (codes "days") (codes "except") _ _ refl (days_sound r.condition.weekly) party_tail))))))

rules_sound : (s : Service) (rs : List Rule) → AreRules s rs → IsSound (rules_data s rs)
rules_sound s rs are = items_sound (IsRule s) (λ r. table (rule_data s r)) (λ r is. (rule_tail s r is).sound) rs are.each

-- ---- tables

bound_sound : (bound : Option ℕ) → IfSome (bound_data bound) IsSound
bound_sound None = tt
bound_sound (Some n) = tt

diversion_sound : (p : DiversionPart) → IsDiversion p → IsSound (diversion_data p)
diversion_sound p is =
    (key_tail (codes "active") (codes "bound") (Some (boolean true)) _ refl tt
    (key_tail (codes "bound") (codes "deflection") (bound_data p.bound) _ refl (bound_sound p.bound)
    (key_tail (codes "deflection") (codes "no-reply-time") (Some (boolean p.deflection)) _ refl tt
    (key_tail (codes "no-reply-time") (codes "rule") (Some (integer (pos p.no_reply))) _ refl tt
    (last_tail (codes "rule") (Some (rules_data service.Diversion p.rules)) (rules_sound service.Diversion p.rules is.rules)))))).sound

rejection_sound : (s : Service) (b : Bool) → IfSome (rejection_data s b) IsSound
rejection_sound service.Diversion b = tt
rejection_sound service.Incoming b = tt
rejection_sound service.Outgoing b = tt

bar_sound : (s : Service) (p : BarPart) → IsBar s p → IsSound (bar_data s p)
bar_sound s p is =
    let rule : IsTail (codes "rule") (with_key (codes "rule") (Some (rules_data s p.rules)) no_members) = last_tail (codes "rule") (Some (rules_data s p.rules)) (rules_sound s p.rules is.rules) in
    let rejection : IsTail (codes "reject-anonymous") (with_key (codes "reject-anonymous") (rejection_data s p.reject_anonymous) (with_key (codes "rule") (Some (rules_data s p.rules)) no_members)) =
    key_tail (codes "reject-anonymous") (codes "rule") (rejection_data s p.reject_anonymous) _ refl (rejection_sound s p.reject_anonymous) rule in
    (key_tail (codes "active") (codes "reject-anonymous") (Some (boolean true)) _ refl tt rejection).sound

waiting_sound : (calls : ℕ) → IsSound (waiting_data calls)
waiting_sound calls = (refl, tt, (refl, tt, tt))

presentation_sound : (active : Bool) → IsSound (presentation_data active)
presentation_sound active = (refl, tt, tt)

word_sound : (first second : List ℕ) (b : Bool) → is_token_text first ≡ true → is_token_text second ≡ true → IsSound (string (word_of first second b))
word_sound first second true a c = token_text first a
word_sound first second false a c = token_text second c

restriction_sound : (r : Restriction) → IsSound (restriction_data r)
unfolding in_class
restriction_sound r =
    (refl, tt, (refl, word_sound (codes "presentation-restricted") (codes "presentation-not-restricted") r.by_default refl refl, (refl, word_sound (codes "permanent") (codes "temporary") r.permanent refl refl, tt)))

-- ---- the document

module _ (s : Sheet) (is : IsPrintable s) where
  late_sound : IsTail (codes "outgoing-communication-barring") (late_tables s)
  late_sound =
      key_tail (codes "outgoing-communication-barring") (codes "terminating-identity-presentation") _ _ refl
      (part_sound (IsBar service.Outgoing) (bar_data service.Outgoing) (bar_sound service.Outgoing) s.outgoing is.outgoing)
      (key_tail (codes "terminating-identity-presentation") (codes "terminating-identity-presentation-restriction") (Some (presentation_data s.tip)) _ refl (presentation_sound s.tip)
      (key_tail (codes "terminating-identity-presentation-restriction") (codes "version") (Some (restriction_data s.tir)) _ refl (restriction_sound s.tir)
      (last_tail (codes "version") (Some version_data) tt)))

  document_sound : IsSoundTable (document_of s)
  document_sound =
      (key_tail (codes "communication-diversion") (codes "communication-waiting") _ _ refl (part_sound IsDiversion diversion_data diversion_sound s.diversion is.diversion)
      (key_tail (codes "communication-waiting") (codes "incoming-communication-barring") _ _ refl (part_sound IsWaiting waiting_data (λ n w. waiting_sound n) s.waiting is.waiting)
      (key_tail (codes "incoming-communication-barring") (codes "originating-identity-presentation") _ _ refl
      (part_sound (IsBar service.Incoming) (bar_data service.Incoming) (bar_sound service.Incoming) s.incoming is.incoming)
      (key_tail (codes "originating-identity-presentation") (codes "originating-identity-presentation-restriction") (Some (presentation_data s.oip)) _ refl (presentation_sound s.oip)
      (key_tail (codes "originating-identity-presentation-restriction") (codes "outgoing-communication-barring") (Some (restriction_data s.oir)) _ refl (restriction_sound s.oir) late_sound))))).sound

-- a sheet can be printed exactly where a sound document reads as it
pub printable_where_read : (s : Sheet) → IsPrintable s ↔ ((ms : Members) × IsSoundTable ms × (sheet_of ms ≡ Ok s))
printable_where_read s = (λ is. (document_of s, document_sound s is, sheet_back s is), λ of. read_printable of.0 s of.1 of.2)
