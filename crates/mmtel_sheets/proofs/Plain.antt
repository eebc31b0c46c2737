-- The document of a sheet nests four deep and has no dates of TOML's own.
use Rattle.std.proofs.Common.{◌≡◌, ℕ, ℤ, pos, suc, ◌≤◌, Bool, true, false, List, [], ◌∷◌, Option, Some, None, refl, arith, codes}
use Rattle.std.proofs.lemmas.Bool.{and_parts}
use Rattle.std.specs.Prelude.{IfSome, slice_index_or}
use Rattle.toml.specs.Data.{Data, string, integer, boolean, array, table, Items, no_items, item, push_item, Members, no_members, depth, members_depth, has_valid_dates, items_have_valid_dates, members_have_valid_dates}
use Rattle.mmtel_lex.specs.declared.values.Uri.{Uri}
use Rattle.mmtel_sheet_grammar.specs.Keys.{is_diversion, applies_to_callers, is_outgoing}
use Rattle.mmtel_sheet_grammar.specs.declared.keys.Notification.{Notification}
use Rattle.mmtel_sheet_grammar.specs.declared.keys.Notification.TheVariants as notice
use Rattle.mmtel_sheet_grammar.specs.declared.keys.Service.{Service}
use Rattle.mmtel_sheet_grammar.specs.declared.keys.Service.TheVariants as service
use Rattle.mmtel_sheet_values.specs.declared.values.Action.{Action}
use Rattle.mmtel_sheet_values.specs.declared.values.Action.TheVariants.{Forward, Allow}
use Rattle.mmtel_sheet_values.specs.declared.values.BarPart.{BarPart}
use Rattle.mmtel_sheet_values.specs.declared.values.DiversionPart.{DiversionPart}
use Rattle.mmtel_sheet_values.specs.declared.values.Rule.{Rule}
use Rattle.mmtel_sheet_values.specs.declared.values.Sheet.{Sheet}
use Rattle.mmtel_sheet_values.specs.declared.values.Weekly.{Weekly}
use Rattle.mmtel_sheet_values.specs.declared.values.Who.{Who}
use Rattle.mmtel_sheet_values.specs.declared.values.Window.{Window}
use Rattle.mmtel_sheets.specs.Printing.{with_key, each_item, where_true, uri_data, uris_data, except_beside, except_data, text_data, many_data, one_data, from_data, until_data, media_data}
use Rattle.mmtel_sheets.specs.Printing.{day_from_data, day_until_data, with_word, days_data, offset_data, bound_data, party_keys, allow_data, target_data, notification_data, late_keys, middle_keys}
use Rattle.mmtel_sheets.specs.Printing.{rule_data, rules_data, diversion_data, rejection_data, bar_data, presentation_data, restriction_data, waiting_data, part_data, late_tables, document_of}
use Rattle.mmtel_sheets.proofs.DayWords.{to_monday, to_tuesday, to_wednesday, to_thursday, to_friday, to_saturday}

-- no deeper than this, and no dates
pub record IsPlain (n : ℕ) (d : Data) : Type 0 where
  pub shallow : depth d ≤ n
  pub dateless : has_valid_dates d ≡ true

pub record ArePlain (n : ℕ) (ms : Members) : Type 0 where
  pub shallow : members_depth ms ≤ n
  pub dateless : members_have_valid_dates ms ≡ true

key_plain : (n : ℕ) (k : List ℕ) (o : Option Data) (ms : Members) → IfSome o (IsPlain n) → ArePlain n ms → ArePlain n (with_key k o ms)
key_plain n k None ms here more = more
key_plain n k (Some d) ms here more = record { shallow = omega (arith, here.shallow, more.shallow); dateless = rw (here.dateless, more.dateless) }

none_plain : (n : ℕ) → ArePlain n no_members
none_plain n = record { shallow = omega arith; dateless = refl }

table_plain : (n : ℕ) (ms : Members) → ArePlain n ms → IsPlain (suc n) (table ms)
table_plain n ms is = record { shallow = omega (arith, is.shallow); dateless = is.dateless }

module _ {A : Type 0} where
  -- an array of such items
  items_plain : (n : ℕ) (f : A → Data) → ((x : A) → IsPlain n (f x)) → (xs : List A) → IsPlain (suc n) (array (each_item f xs))
  items_plain n f each [] = record { shallow = omega arith; dateless = refl }
  items_plain n f each (x ∷ xs) =
      let here = each x in
      let more = items_plain n f each xs in
      record { shallow = omega (arith, here.shallow, more.shallow); dateless = rw (here.dateless, more.dateless) }

text_plain : (n : ℕ) (s : List ℕ) → IsPlain n (string s)
text_plain n s = record { shallow = omega arith; dateless = refl }

truth_plain : (n : ℕ) (b : Bool) → IsPlain n (boolean b)
truth_plain n b = record { shallow = omega arith; dateless = refl }

where_plain : (n : ℕ) (here b : Bool) → IfSome (where_true here (boolean b)) (IsPlain n)
where_plain n true b = truth_plain n b
where_plain n false b = tt

uris_plain : (us : List Uri) → IsPlain 1 (uris_data us)
uris_plain us = items_plain 0 uri_data (λ u. text_plain 0 _) us

beside_plain : (many : Option (List ℕ)) (us : List Uri) → IfSome (except_beside many us) (IsPlain 1)
beside_plain None us = tt
beside_plain (Some domain) us = uris_plain us

except_plain : (who : Option Who) → IfSome (except_data who) (IsPlain 1)
except_plain None = tt
except_plain (Some w) = beside_plain w.many w.except

domain_plain : (many : Option (List ℕ)) → IfSome (text_data many) (IsPlain 1)
domain_plain None = tt
domain_plain (Some s) = text_plain 1 s

many_plain : (who : Option Who) → IfSome (many_data who) (IsPlain 1)
many_plain None = tt
many_plain (Some w) = domain_plain w.many

one_plain : (who : Option Who) → IfSome (one_data who) (IsPlain 1)
one_plain None = tt
one_plain (Some w) = uris_plain w.one

from_plain : (window : Option Window) → IfSome (from_data window) (IsPlain 1)
from_plain None = tt
from_plain (Some w) = text_plain 1 _

until_plain : (window : Option Window) → IfSome (until_data window) (IsPlain 1)
until_plain None = tt
until_plain (Some w) = text_plain 1 _

media_plain : (media : Option (List (List ℕ))) → IfSome (media_data media) (IsPlain 1)
media_plain None = tt
media_plain (Some ts) = items_plain 0 string (λ s. text_plain 0 s) ts

day_from_plain : (week : Option Weekly) → IfSome (day_from_data week) (IsPlain 1)
day_from_plain None = tt
day_from_plain (Some w) = text_plain 1 _

day_until_plain : (week : Option Weekly) → IfSome (day_until_data week) (IsPlain 1)
day_until_plain None = tt
day_until_plain (Some w) = text_plain 1 _

push_plain : (n : ℕ) (ds : Items) (d : Data) → IsPlain (suc n) (array ds) → IsPlain n d → IsPlain (suc n) (array (push_item ds d))
push_plain n no_items d all here = record { shallow = omega (arith, here.shallow); dateless = rw here.dateless }
push_plain n (item e ds) d all here =
    let first : has_valid_dates e ≡ true = (and_parts (has_valid_dates e) (items_have_valid_dates ds) all.dateless).0 in
    let others : items_have_valid_dates ds ≡ true = (and_parts (has_valid_dates e) (items_have_valid_dates ds) all.dateless).1 in
    let more = push_plain n ds d (record { shallow = omega (arith, all.shallow); dateless = others }) here in
    record { shallow = omega (arith, all.shallow, more.shallow); dateless = rw (first, more.dateless) }

word_plain : (ds : Items) (b : Bool) (word : List ℕ) → IsPlain 1 (array ds) → IsPlain 1 (array (with_word ds b word))
word_plain ds true word all = push_plain 0 ds (string word) all (text_plain 0 word)
word_plain ds false word all = all

days_plain : (week : Option Weekly) → IfSome (days_data week) (IsPlain 1)
days_plain None = tt
days_plain (Some w) =
    word_plain (to_saturday w.days) (slice_index_or w.days 6 false) (codes "sun")
    (word_plain (to_friday w.days) (slice_index_or w.days 5 false) (codes "sat")
    (word_plain (to_thursday w.days) (slice_index_or w.days 4 false) (codes "fri")
    (word_plain (to_wednesday w.days) (slice_index_or w.days 3 false) (codes "thu")
    (word_plain (to_tuesday w.days) (slice_index_or w.days 2 false) (codes "wed")
    (word_plain (to_monday w.days) (slice_index_or w.days 1 false) (codes "tue")
    (word_plain no_items (slice_index_or w.days 0 false) (codes "mon") (record { shallow = omega arith; dateless = refl })))))))

number_plain : (n : ℕ) (z : ℤ) → IsPlain n (integer z)
number_plain n z = record { shallow = omega arith; dateless = refl }

offset_plain : (week : Option Weekly) → IfSome (offset_data week) (IsPlain 1)
offset_plain None = tt
offset_plain (Some w) = number_plain 1 w.offset

bound_plain : (bound : Option ℕ) → IfSome (bound_data bound) (IsPlain 3)
bound_plain None = tt
bound_plain (Some n) = number_plain 3 (pos n)

allow_plain : (a : Action) → IfSome (allow_data a) (IsPlain 1)
allow_plain (Forward f) = tt
allow_plain (Allow b) = truth_plain 1 b

target_plain : (a : Action) → IfSome (target_data a) (IsPlain 1)
target_plain (Forward f) = text_plain 1 _
target_plain (Allow b) = tt

notice_plain : (n : Notification) (a : Action) → IfSome (notification_data n a) (IsPlain 1)
notice_plain notice.NotifyCaller (Forward f) = truth_plain 1 _
notice_plain notice.RevealToCaller (Forward f) = truth_plain 1 _
notice_plain notice.RevealServedToCaller (Forward f) = truth_plain 1 _
notice_plain notice.RevealToTarget (Forward f) = truth_plain 1 _
notice_plain notice.NotifyCaller (Allow b) = tt
notice_plain notice.RevealToCaller (Allow b) = tt
notice_plain notice.RevealServedToCaller (Allow b) = tt
notice_plain notice.RevealToTarget (Allow b) = tt

late_plain : (r : Rule) → ArePlain 1 (late_keys r)
late_plain r =
    key_plain 1 _ _ _ (one_plain r.condition.identity)
    (key_plain 1 _ _ _ (notice_plain notice.RevealToCaller r.action)
    (key_plain 1 _ _ _ (notice_plain notice.RevealToTarget r.action)
    (key_plain 1 _ _ _ (notice_plain notice.RevealServedToCaller r.action)
    (key_plain 1 _ _ _ (target_plain r.action)
    (key_plain 1 _ _ _ (until_plain r.condition.window) (none_plain 1))))))

middle_plain : (s : Service) (r : Rule) → ArePlain 1 (middle_keys s r)
middle_plain s r =
    key_plain 1 _ _ _ (media_plain r.condition.media)
    (key_plain 1 _ _ _ (where_plain 1 (is_diversion s) _)
    (key_plain 1 _ _ _ (where_plain 1 (is_diversion s) _)
    (key_plain 1 _ _ _ (where_plain 1 (is_diversion s) _)
    (key_plain 1 _ _ _ (notice_plain notice.NotifyCaller r.action)
    (key_plain 1 _ _ _ (offset_plain r.condition.weekly) (late_plain r))))))

party_plain : (s : Service) (r : Rule) → ArePlain 1 (party_keys s r)
party_plain s r =
    key_plain 1 _ _ _ (except_plain r.condition.identity)
    (key_plain 1 _ _ _ (from_plain r.condition.window)
    (key_plain 1 _ _ _ (where_plain 1 (is_outgoing s) _)
    (key_plain 1 _ _ _ (many_plain r.condition.identity) (middle_plain s r))))

rule_plain : (s : Service) (r : Rule) → ArePlain 1 (rule_data s r)
rule_plain s r =
    key_plain 1 _ _ _ (allow_plain r.action)
    (key_plain 1 _ _ _ (where_plain 1 (applies_to_callers s) _)
    (key_plain 1 _ _ _ (where_plain 1 (is_diversion s) _)
    (key_plain 1 _ _ _ (where_plain 1 (applies_to_callers s) _)
    (key_plain 1 _ _ _ (day_from_plain r.condition.weekly)
    (key_plain 1 _ _ _ (day_until_plain r.condition.weekly)
    (key_plain 1 _ _ _ (days_plain r.condition.weekly) (party_plain s r)))))))

rules_plain : (s : Service) (rs : List Rule) → IsPlain 3 (rules_data s rs)
rules_plain s rs = items_plain 2 (λ r. table (rule_data s r)) (λ r. table_plain 1 (rule_data s r) (rule_plain s r)) rs

rejection_plain : (s : Service) (b : Bool) → IfSome (rejection_data s b) (IsPlain 3)
rejection_plain service.Diversion b = tt
rejection_plain service.Incoming b = truth_plain 3 b
rejection_plain service.Outgoing b = tt

diversion_plain : (part : Option DiversionPart) → IfSome (part_data diversion_data part) (IsPlain 4)
diversion_plain None = tt
diversion_plain (Some p) =
    table_plain 3 _
    (key_plain 3 (codes "active") (Some (boolean true)) _ (truth_plain 3 true)
    (key_plain 3 (codes "bound") (bound_data p.bound) _ (bound_plain p.bound)
    (key_plain 3 (codes "deflection") (Some (boolean p.deflection)) _ (truth_plain 3 p.deflection)
    (key_plain 3 (codes "no-reply-time") (Some (integer (pos p.no_reply))) _ (number_plain 3 (pos p.no_reply))
    (key_plain 3 (codes "rule") (Some (rules_data service.Diversion p.rules)) no_members (rules_plain service.Diversion p.rules) (none_plain 3))))))

bar_plain : (s : Service) (part : Option BarPart) → IfSome (part_data (bar_data s) part) (IsPlain 4)
bar_plain s None = tt
bar_plain s (Some p) =
    let rules : ArePlain 3 (with_key (codes "rule") (Some (rules_data s p.rules)) no_members) = key_plain 3 (codes "rule") (Some (rules_data s p.rules)) no_members (rules_plain s p.rules) (none_plain 3) in
    table_plain 3 _
    (key_plain 3 (codes "active") (Some (boolean true)) _ (truth_plain 3 true) (key_plain 3 (codes "reject-anonymous") (rejection_data s p.reject_anonymous) _ (rejection_plain s p.reject_anonymous) rules))

waiting_plain : (calls : Option ℕ) → IfSome (part_data waiting_data calls) (IsPlain 4)
waiting_plain None = tt
waiting_plain (Some n) = record { shallow = omega arith; dateless = refl }

late_tables_plain : (s : Sheet) → ArePlain 4 (late_tables s)
late_tables_plain s = key_plain 4 (codes "outgoing-communication-barring") _ _ (bar_plain service.Outgoing s.outgoing) (record { shallow = omega arith; dateless = refl })

originating_plain : (s : Sheet) →
    ArePlain 4 (with_key (codes "originating-identity-presentation") (Some (presentation_data s.oip)) (with_key (codes "originating-identity-presentation-restriction") (Some (restriction_data s.oir)) (late_tables s)))
originating_plain s =
    key_plain 4 (codes "originating-identity-presentation") (Some (presentation_data s.oip)) _ (record { shallow = omega arith; dateless = refl })
    (key_plain 4 (codes "originating-identity-presentation-restriction") (Some (restriction_data s.oir)) _ (record { shallow = omega arith; dateless = refl }) (late_tables_plain s))

pub document_plain : (s : Sheet) → ArePlain 4 (document_of s)
document_plain s =
    key_plain 4 (codes "communication-diversion") _ _ (diversion_plain s.diversion)
    (key_plain 4 (codes "communication-waiting") _ _ (waiting_plain s.waiting)
    (key_plain 4 (codes "incoming-communication-barring") _ _ (bar_plain service.Incoming s.incoming) (originating_plain s)))
