-- Each sheet that is read of a document can be printed.
use Rattle.std.proofs.Common.{◌≡◌, ℕ, ℤ, pos, negsuc, ◌+◌, ◌≤◌, Bool, true, false, cond, ◌&&◌, nat_le, nat_lt, List, [], ◌∷◌, ◌++◌, length, Option, Some, None, Ok, Err, refl, arith, length-append, codes}
use Rattle.std.proofs.lemmas.Bool.Decides.{nat_tests}
use Rattle.std.specs.Prelude.{IfOk, IfSome}
use Rattle.std.specs.List.{AllByRecursion}
use Rattle.std.specs.Str.{bytes_eq}
use Rattle.toml.specs.Data.{Data, string, integer, float, boolean, datetime, array, table, Items, no_items, item, Members, no_members, member}
use Rattle.mmtel_lex.specs.declared.values.Uri.{Uri}
use Rattle.mmtel_sheet_grammar.specs.ReadResults.{Read, IsReadResult, then_read}
use Rattle.mmtel_sheet_grammar.specs.Elements.{truth_at, in_range, number_at}
use Rattle.mmtel_sheet_grammar.specs.Keys.{dotted_path, rule_path}
use Rattle.mmtel_sheet_grammar.specs.Rules.{members_from, empty_draft, action_of, rule_from, keys_of_rule, rule_of, are_tables, items_count, rules_from, rules_within, rules_at}
use Rattle.mmtel_sheet_grammar.specs.Walk.{schema, no_diversion_keys, is_bound, diversion_key, diversion_part, diversion_of, no_bar_keys, is_rejection, bar_key, bar_part, bar_of, presentation_of}
use Rattle.mmtel_sheet_grammar.specs.Walk.{restriction_of, no_waiting_keys, waiting_key, waiting_part, waiting_of, table_key_of, table_read, named_read, name_read, version_at, version_of, sheet_from, sheet_of}
use Rattle.mmtel_sheet_grammar.specs.declared.drafts.BarDraft.{BarDraft}
use Rattle.mmtel_sheet_grammar.specs.declared.drafts.DiversionDraft.{DiversionDraft}
use Rattle.mmtel_sheet_grammar.specs.declared.drafts.Notifications.{Notifications}
use Rattle.mmtel_sheet_grammar.specs.declared.drafts.WaitingDraft.{WaitingDraft}
use Rattle.mmtel_sheet_grammar.specs.declared.faults.SheetFault.TheVariants.{Wrong, Many, Unknown}
use Rattle.mmtel_sheet_grammar.specs.declared.keys.Service.{Service}
use Rattle.mmtel_sheet_grammar.specs.declared.keys.Service.TheVariants as service
use Rattle.mmtel_sheet_grammar.specs.declared.keys.Version.{Version}
use Rattle.mmtel_sheet_grammar.specs.declared.keys.Schema.{Schema}
use Rattle.mmtel_sheet_grammar.specs.declared.keys.TableKey.{TableKey}
use Rattle.mmtel_sheet_grammar.specs.declared.keys.TableKey.TheVariants as key
use Rattle.mmtel_sheet_values.specs.Sheets.{empty_sheet}
use Rattle.mmtel_sheet_values.specs.declared.values.BarPart.{BarPart}
use Rattle.mmtel_sheet_values.specs.declared.values.DiversionPart.{DiversionPart}
use Rattle.mmtel_sheet_values.specs.declared.values.Rule.{Rule}
use Rattle.mmtel_sheet_values.specs.declared.values.Sheet.{Sheet}
use Rattle.mmtel_sheet_grammar.specs.Printable.{IsTarget, IsAction, IsRule, AreRules, IsDiversion, CanReject, IsBar, IsWaiting, IsPrintable}
use Rattle.mmtel_sheet_grammar.specs.Sound.{IsSound, IsSoundArray, IsSoundTable}
use Rattle.mmtel_sheet_reader.proofs.ReadValues.{then_all, then_any, where_ok, unless_err, or_all, both_all, at_ok}
use Rattle.mmtel_sheet_reader.proofs.ReadElements.{all_last}
use Rattle.mmtel_sheet_reader.proofs.ReadKeys.{IsKept, nothing_kept, keys_kept}
use Rattle.mmtel_sheet_reader.proofs.ReadRules.{IsCounted, keys_counted, nothing_counted, who_ok}

-- ---- rules

action_ok : (s : Service) (path : List ℕ) (target : Option Uri) (n : Notifications) (allow : Option Bool) → IfSome target IsTarget → IfOk (action_of s path target n allow) (IsAction s)
action_ok service.Diversion path None n allow is = tt
action_ok service.Diversion path (Some u) n allow is = (refl, is)
action_ok service.Incoming path target n None is = tt
action_ok service.Incoming path target n (Some b) is = refl
action_ok service.Outgoing path target n None is = tt
action_ok service.Outgoing path target n (Some b) is = refl

rule_ok : (s : Schema) (path : List ℕ) (ms : Members) → IsSoundTable ms → IfOk (rule_of s path ms) (IsRule s.service)
rule_ok s path ms sound =
    then_all (keys_of_rule s path ms) _ (λ d. IsKept s d × IsCounted ms no_members d.except d.many d.one) (IsRule s.service)
    (both_all (keys_of_rule s path ms) (IsKept s) (λ d. IsCounted ms no_members d.except d.many d.one) (keys_kept s ms path empty_draft ms (nothing_kept s) sound)
    (keys_counted s ms path empty_draft ms (nothing_counted ms) sound))
    (λ d both.
    let k = both.0 in
    then_all (action_of s.service path d.target d.notifications d.allow) (λ a. Ok (rule_from d a)) (IsAction s.service) (IsRule s.service) (action_ok s.service path d.target d.notifications d.allow k.target)
    (λ a act. record {
      condition = record {
        identity = who_ok ms d.one d.many d.except both.1 k.except k.many k.one;
        anonymous = k.anonymous;
        window = k.window;
        media = k.media;
        event = k.event;
        diverted = k.diverted;
        abroad = k.abroad;
        weekly = k.weekly;
      };
      action = act;
    }))

-- the rules so far, and how many they will be
abbrev AreRead : Schema → ℕ → List Rule → Type 0
AreRead s n rs = AllByRecursion (IsRule s.service) rs × (length rs ≡ n)

rules_ok : (s : Schema) (path : List ℕ) (done : List Rule) (ds : Items) → AllByRecursion (IsRule s.service) done → IsSoundArray ds
    → IfOk (rules_from s path done ds) (AreRead s (length done + items_count ds))
rules_ok s path done no_items all sound = (all, omega arith)
rules_ok s path done (item (string x) ds) all sound = tt
rules_ok s path done (item (integer z) ds) all sound = tt
rules_ok s path done (item (float x) ds) all sound = tt
rules_ok s path done (item (boolean b) ds) all sound = tt
rules_ok s path done (item (datetime dt) ds) all sound = tt
rules_ok s path done (item (array es) ds) all sound = tt
rules_ok s path done (item (table ms) ds) all sound =
    then_all (rule_of s (rule_path path (length done)) ms) (λ r. rules_from s path (done ++ r ∷ []) ds) (IsRule s.service) (AreRead s (length done + items_count (item (table ms) ds)))
    (rule_ok s (rule_path path (length done)) ms sound.0)
    (λ r is.
    let count : length (done ++ r ∷ []) + items_count ds ≡ length done + (items_count ds + 1) = omega (arith, length-append done (r ∷ [])) in
    rw (← count) (rules_ok s path (done ++ r ∷ []) ds (all_last (IsRule s.service) done r all is) sound.1))

few_rules : (s : Schema) (n : ℕ) (r : Read (List Rule)) → n ≤ 64 → IfOk r (AreRead s (0 + n)) → IfOk r (AreRules s.service)
few_rules s n (Ok rs) bound read = let count = read.1 in record { each = read.0; few = omega arith }
few_rules s n (Err e) bound read = tt

pub rules_at_ok : (s : Schema) (at : List ℕ) (d : Data) → IsSound d → IfOk (rules_at s at d) (AreRules s.service)
rules_at_ok s at (string x) sound = tt
rules_at_ok s at (integer z) sound = tt
rules_at_ok s at (float x) sound = tt
rules_at_ok s at (boolean b) sound = tt
rules_at_ok s at (datetime dt) sound = tt
rules_at_ok s at (table ms) sound = tt
rules_at_ok s at (array ds) sound =
    where_ok (are_tables ds) (rules_within s at ds) (Wrong at) (AreRules s.service) (λ tables.
    unless_err (nat_lt 64 (items_count ds)) (rules_from s at [] ds) (Many at 64) (AreRules s.service) (λ few.
    let bound : items_count ds ≤ 64 = grind (arith, nat_tests) in
    few_rules s (items_count ds) (rules_from s at [] ds) bound (rules_ok s at [] ds tt sound)))

-- ---- tables

either : {A : Type 0} (b : Bool) (x y : Read A) (P : A → Type 0) → IfOk x P → IfOk y P → IfOk (cond b x y) P
either true x y P p q = p
either false x y P p q = q

members_ok : {A : Type 0} (path : List ℕ) (read : List ℕ → A → List ℕ → Data → Read A) (P : A → Type 0)
    → ((at : List ℕ) (a : A) (k : List ℕ) (d : Data) → P a → IsSound d → IfOk (read at a k d) P)
    → (a : A) (ms : Members) → P a → IsSoundTable ms → IfOk (members_from path read a ms) P
members_ok path read P step a no_members p sound = p
members_ok path read P step a (member k d ms) p sound =
    then_all (read (dotted_path path k) a k d) (λ b. members_from path read b ms) P P (step (dotted_path path k) a k d p sound.1) (λ b q. members_ok path read P step b ms q sound.2)

-- a number of a range
abbrev IsBetween : ℕ → ℕ → ℕ → Type 0
IsBetween least most n = (least ≤ n) × (n ≤ most)

range_some : (least most n : ℕ) (b : Bool) → (nat_le least n && nat_le n most) ≡ b → IfSome (cond b (Some n) None) (IsBetween least most)
range_some least most n true e = (grind (arith, nat_tests), grind (arith, nat_tests))
range_some least most n false e = tt

range_ok : (least most : ℕ) (z : ℤ) → IfSome (in_range least most z) (IsBetween least most)
range_ok least most (pos n) = range_some least most n (nat_le least n && nat_le n most) refl
range_ok least most (negsuc n) = tt

number_ok : (least most : ℕ) (at : List ℕ) (d : Data) → IfOk (number_at least most at d) (IsBetween least most)
number_ok least most at (string x) = tt
number_ok least most at (integer z) = or_all at (in_range least most z) (IsBetween least most) (range_ok least most z)
number_ok least most at (float x) = tt
number_ok least most at (boolean b) = tt
number_ok least most at (datetime dt) = tt
number_ok least most at (array ds) = tt
number_ok least most at (table ms) = tt

pub record IsDiversionDraft (r : DiversionDraft) : Type 0 where
  pub rules : AreRules service.Diversion r.rules
  pub no_reply : IsBetween 5 180 r.no_reply
  pub bound : IfSome r.bound (λ n. n ≤ 16)

bound_key : (v : Version) (at : List ℕ) (r : DiversionDraft) (k : List ℕ) (d : Data) (more : Read DiversionDraft) → IsDiversionDraft r → IfOk more IsDiversionDraft
    → IfOk (cond (is_bound v k) (then_read (number_at 0 16 at d) (λ n. Ok (record r { bound = Some n }))) more) IsDiversionDraft
bound_key v at r k d more is rest =
    either (is_bound v k) _ more IsDiversionDraft (then_all (number_at 0 16 at d) _ (IsBetween 0 16) IsDiversionDraft (number_ok 0 16 at d) (λ n p. record { rules = is.rules; no_reply = is.no_reply; bound = p.1 })) rest

diversion_step : (v : Version) (at : List ℕ) (r : DiversionDraft) (k : List ℕ) (d : Data) → IsDiversionDraft r → IsSound d → IfOk (diversion_key v at r k d) IsDiversionDraft
diversion_step v at r k d is sound =
    either (bytes_eq k (codes "active")) _ _ IsDiversionDraft (then_any (truth_at at d) _ IsDiversionDraft (λ b. record { rules = is.rules; no_reply = is.no_reply; bound = is.bound }))
    (bound_key v at r k d _ is
    (either (bytes_eq k (codes "deflection")) _ _ IsDiversionDraft (then_any (truth_at at d) _ IsDiversionDraft (λ b. record { rules = is.rules; no_reply = is.no_reply; bound = is.bound }))
    (either (bytes_eq k (codes "no-reply-time")) _ _ IsDiversionDraft
    (then_all (number_at 5 180 at d) _ (IsBetween 5 180) IsDiversionDraft (number_ok 5 180 at d) (λ n p. record { rules = is.rules; no_reply = p; bound = is.bound }))
    (either (bytes_eq k (codes "rule")) _ _ IsDiversionDraft (then_all (rules_at (schema v service.Diversion) at d) _ (AreRules service.Diversion) IsDiversionDraft
    (rules_at_ok (schema v service.Diversion) at d sound) (λ rs p. record { rules = p; no_reply = is.no_reply; bound = is.bound })) tt))))

no_rules : (s : Service) → AreRules s []
no_rules s = record { each = tt; few = omega arith }

diversion_there : (active : Bool) (p : DiversionPart) → IsDiversion p → IfSome (cond active (Some p) None) IsDiversion
diversion_there true p is = is
diversion_there false p is = tt

diversion_ok : (v : Version) (path : List ℕ) (ms : Members) → IsSoundTable ms → IfOk (diversion_of v path ms) (λ part. IfSome part IsDiversion)
diversion_ok v path ms sound =
    then_all (members_from path (λ at r k d. diversion_key v at r k d) no_diversion_keys ms) (λ r. Ok (diversion_part r)) IsDiversionDraft (λ part. IfSome part IsDiversion)
    (members_ok path (λ at r k d. diversion_key v at r k d) IsDiversionDraft (diversion_step v) no_diversion_keys ms
    (record { rules = no_rules service.Diversion; no_reply = (omega arith, omega arith); bound = tt }) sound)
    (λ r is. diversion_there r.active _ (record { rules = is.rules; least = is.no_reply.0; most = is.no_reply.1; bound = is.bound }))

pub record IsBarDraft (s : Service) (r : BarDraft) : Type 0 where
  pub rules : AreRules s r.rules
  pub rejection : CanReject s r.reject_anonymous

-- the keys of a barring table after those of its truth values
abbrev bar_rest : Schema → List ℕ → BarDraft → List ℕ → Data → Read BarDraft
bar_rest s at r k d = cond (bytes_eq k (codes "rule")) (then_read (rules_at s at d) (λ rs. Ok (record r { rules = rs }))) (Err (Unknown at))

rejection_ok : (v : Version) (s : Service) (at : List ℕ) (r : BarDraft) (k : List ℕ) (d : Data) → IsBarDraft s r → IfOk (bar_rest (schema v s) at r k d) (IsBarDraft s)
    → IfOk (cond (is_rejection s k) (then_read (truth_at at d) (λ b. Ok (record r { reject_anonymous = b }))) (bar_rest (schema v s) at r k d)) (IsBarDraft s)
rejection_ok v service.Diversion at r k d is more = more
rejection_ok v service.Incoming at r k d is more =
    either (bytes_eq k (codes "reject-anonymous")) _ _ (IsBarDraft service.Incoming) (then_any (truth_at at d) _ (IsBarDraft service.Incoming) (λ b. record { rules = is.rules; rejection = tt })) more
rejection_ok v service.Outgoing at r k d is more = more

bar_step : (v : Version) (s : Service) (at : List ℕ) (r : BarDraft) (k : List ℕ) (d : Data) → IsBarDraft s r → IsSound d → IfOk (bar_key (schema v s) at r k d) (IsBarDraft s)
bar_step v s at r k d is sound =
    either (bytes_eq k (codes "active")) _ _ (IsBarDraft s) (then_any (truth_at at d) _ (IsBarDraft s) (λ b. record { rules = is.rules; rejection = is.rejection }))
    (rejection_ok v s at r k d is
    (either (bytes_eq k (codes "rule")) _ _ (IsBarDraft s)
    (then_all (rules_at (schema v s) at d) _ (AreRules s) (IsBarDraft s) (rules_at_ok (schema v s) at d sound) (λ rs p. record { rules = p; rejection = is.rejection })) tt))

bar_there : (s : Service) (active : Bool) (p : BarPart) → IsBar s p → IfSome (cond active (Some p) None) (IsBar s)
bar_there s true p is = is
bar_there s false p is = tt

no_rejection : (s : Service) → CanReject s false
no_rejection service.Diversion = λ e. absurd cc
no_rejection service.Incoming = tt
no_rejection service.Outgoing = λ e. absurd cc

bar_ok : (v : Version) (s : Service) (path : List ℕ) (ms : Members) → IsSoundTable ms → IfOk (bar_of (schema v s) path ms) (λ part. IfSome part (IsBar s))
bar_ok v s path ms sound =
    then_all (members_from path (λ at r k d. bar_key (schema v s) at r k d) no_bar_keys ms) (λ r. Ok (bar_part r)) (IsBarDraft s) (λ part. IfSome part (IsBar s))
    (members_ok path (λ at r k d. bar_key (schema v s) at r k d) (IsBarDraft s) (bar_step v s) no_bar_keys ms (record { rules = no_rules s; rejection = no_rejection s }) sound)
    (λ r is. bar_there s r.active _ (record { rules = is.rules; rejection = is.rejection }))

waiting_step : (at : List ℕ) (r : WaitingDraft) (k : List ℕ) (d : Data) → IsWaiting r.calls → IsSound d → IfOk (waiting_key at r k d) (λ x. IsWaiting x.calls)
waiting_step at r k d is sound =
    either (bytes_eq k (codes "active")) _ _ (λ x. IsWaiting x.calls) (then_any (truth_at at d) _ (λ x. IsWaiting x.calls) (λ b. is))
    (either (bytes_eq k (codes "calls")) _ _ (λ x. IsWaiting x.calls) (then_all (number_at 2 8 at d) _ (IsBetween 2 8) (λ x. IsWaiting x.calls) (number_ok 2 8 at d) (λ n p. p)) tt)

waiting_there : (active : Bool) (n : ℕ) → IsWaiting n → IfSome (cond active (Some n) None) IsWaiting
waiting_there true n is = is
waiting_there false n is = tt

waiting_ok : (path : List ℕ) (ms : Members) → IsSoundTable ms → IfOk (waiting_of path ms) (λ part. IfSome part IsWaiting)
waiting_ok path ms sound =
    then_all (members_from path waiting_key no_waiting_keys ms) (λ r. Ok (waiting_part r)) (λ x. IsWaiting x.calls) (λ part. IfSome part IsWaiting)
    (members_ok path waiting_key (λ x. IsWaiting x.calls) waiting_step no_waiting_keys ms (omega arith, omega arith) sound)
    (λ r is. waiting_there r.active r.calls is)

-- ---- the document

table_ok : (v : Version) (at : List ℕ) (s : Sheet) (k : TableKey) (ms : Members) → IsPrintable s → IsSoundTable ms → IfOk (table_read v at s k ms) IsPrintable
table_ok v at s key.Diversion ms is sound = then_all (diversion_of v at ms) _ (λ part. IfSome part IsDiversion) IsPrintable (diversion_ok v at ms sound)
    (λ p q. record { diversion = q; incoming = is.incoming; outgoing = is.outgoing; waiting = is.waiting })
table_ok v at s key.Incoming ms is sound = then_all (bar_of (schema v service.Incoming) at ms) _ (λ part. IfSome part (IsBar service.Incoming)) IsPrintable (bar_ok v service.Incoming at ms sound)
    (λ p q. record { diversion = is.diversion; incoming = q; outgoing = is.outgoing; waiting = is.waiting })
table_ok v at s key.Outgoing ms is sound = then_all (bar_of (schema v service.Outgoing) at ms) _ (λ part. IfSome part (IsBar service.Outgoing)) IsPrintable (bar_ok v service.Outgoing at ms sound)
    (λ p q. record { diversion = is.diversion; incoming = is.incoming; outgoing = q; waiting = is.waiting })
table_ok v at s key.Oip ms is sound = then_any (presentation_of at ms) _ IsPrintable (λ b. record { diversion = is.diversion; incoming = is.incoming; outgoing = is.outgoing; waiting = is.waiting })
table_ok v at s key.Oir ms is sound = then_any (restriction_of at ms) _ IsPrintable (λ r. record { diversion = is.diversion; incoming = is.incoming; outgoing = is.outgoing; waiting = is.waiting })
table_ok v at s key.Tip ms is sound = then_any (presentation_of at ms) _ IsPrintable (λ b. record { diversion = is.diversion; incoming = is.incoming; outgoing = is.outgoing; waiting = is.waiting })
table_ok v at s key.Tir ms is sound = then_any (restriction_of at ms) _ IsPrintable (λ r. record { diversion = is.diversion; incoming = is.incoming; outgoing = is.outgoing; waiting = is.waiting })
table_ok v at s key.Waiting ms is sound = then_all (waiting_of at ms) _ (λ part. IfSome part IsWaiting) IsPrintable (waiting_ok at ms sound)
    (λ p q. record { diversion = is.diversion; incoming = is.incoming; outgoing = is.outgoing; waiting = q })

named_ok : (v : Version) (at : List ℕ) (s : Sheet) (o : Option TableKey) (d : Data) → IsPrintable s → IsSound d → IfOk (named_read v at s o d) IsPrintable
named_ok v at s None d is sound = tt
named_ok v at s (Some k) (string x) is sound = tt
named_ok v at s (Some k) (integer z) is sound = tt
named_ok v at s (Some k) (float x) is sound = tt
named_ok v at s (Some k) (boolean b) is sound = tt
named_ok v at s (Some k) (datetime dt) is sound = tt
named_ok v at s (Some k) (array ds) is sound = tt
named_ok v at s (Some k) (table ms) is sound = table_ok v at s k ms is sound

name_ok : (v : Version) (k : List ℕ) (s : Sheet) (d : Data) → IsPrintable s → IsSound d → IfOk (name_read v k s d) IsPrintable
name_ok v k s d is sound =
    either (bytes_eq k (codes "version")) (then_read (version_at k d) (λ w. Ok s)) (named_read v k s (table_key_of k) d) IsPrintable (then_any (version_at k d) _ IsPrintable (λ w. is))
    (named_ok v k s (table_key_of k) d is sound)

sheet_ok : (v : Version) (s : Sheet) (ms : Members) → IsPrintable s → IsSoundTable ms → IfOk (sheet_from v s ms) IsPrintable
sheet_ok v s no_members is sound = is
sheet_ok v s (member k d ms) is sound =
    then_all (name_read v k s d) (λ t. sheet_from v t ms) IsPrintable IsPrintable (name_ok v k s d is sound.1) (λ t p. sheet_ok v t ms p sound.2)

document_ok : (ms : Members) → IsSoundTable ms → IfOk (sheet_of ms) IsPrintable
document_ok ms sound =
    then_any (version_of ms) (λ v. sheet_from v empty_sheet ms) IsPrintable (λ v. sheet_ok v empty_sheet ms (record { diversion = tt; incoming = tt; outgoing = tt; waiting = tt }) sound)

pub read_printable : (ms : Members) (s : Sheet) → IsSoundTable ms → sheet_of ms ≡ Ok s → IsPrintable s
read_printable ms s sound e = at_ok (sheet_of ms) s IsPrintable (document_ok ms sound) e

-- the result of the reader for a sound document
pub read_is_printable : (ms : Members) (r : Read Sheet) → IsReadResult (sheet_of ms) r → IfOk r (λ _. IsSoundTable ms) → IfOk r IsPrintable
read_is_printable ms (Ok s) a sound = read_printable ms s sound a
read_is_printable ms (Err e) a sound = tt
