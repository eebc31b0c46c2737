-- The actions of the rules of a sheet are those of their service: by recursion on the document that it is read of.
use Rattle.std.proofs.Common.{◌≡◌, ℕ, List, [], ◌∷◌, ◌++◌, Bool, true, false, Option, Some, None, Ok, Err, refl, subst, length, codes}
use Rattle.std.specs.Prelude.{if◌then◌else◌, nat_lt}
use Rattle.std.specs.List.{list_all}
use Rattle.std.specs.Result.{IfOk}
use Rattle.std.specs.Str.{bytes_eq}
use Rattle.std.proofs.lemmas.List.Folds.{list_all-append}
use Rattle.toml.specs.Data.{Data, Items, no_items, item, Members, no_members, member, as_array, as_table}
use Rattle.mmtel_lex.specs.declared.values.Uri.{Uri}
use Rattle.mmtel_sheet_grammar.specs.ReadResults.{Read, then_read, or_wrong}
use Rattle.mmtel_sheet_grammar.specs.Elements.{truth_at, number_at}
use Rattle.mmtel_sheet_grammar.specs.Keys.{dotted_path, rule_path}
use Rattle.mmtel_sheet_grammar.specs.Rules.{members_from, action_of, keys_of_rule, rule_from, rule_of, are_tables, items_count, rules_from, rules_within, rules_of, rules_at}
use Rattle.mmtel_sheet_grammar.specs.Walk.{schema, is_bound, diversion_key, no_diversion_keys, diversion_part, diversion_of, is_rejection, bar_key, no_bar_keys, bar_part, bar_of}
use Rattle.mmtel_sheet_grammar.specs.Walk.{presentation_of, restriction_of, waiting_of, table_key_of, table_read, named_read, name_read, version_at, version_of, sheet_from, sheet_of}
use Rattle.mmtel_sheet_grammar.specs.declared.faults.SheetFault.TheVariants.{Wrong, Unknown, Many}
use Rattle.mmtel_sheet_grammar.specs.declared.keys.Service.{Service}
use Rattle.mmtel_sheet_grammar.specs.declared.keys.Service.TheVariants as service
use Rattle.mmtel_sheet_grammar.specs.declared.keys.Version.{Version}
use Rattle.mmtel_sheet_grammar.specs.declared.keys.Schema.{Schema}
use Rattle.mmtel_sheet_grammar.specs.declared.keys.TableKey.{TableKey}
use Rattle.mmtel_sheet_grammar.specs.declared.keys.TableKey.TheVariants as key
use Rattle.mmtel_sheet_grammar.specs.declared.drafts.Notifications.{Notifications}
use Rattle.mmtel_sheet_grammar.specs.declared.drafts.DiversionDraft.{DiversionDraft}
use Rattle.mmtel_sheet_grammar.specs.declared.drafts.BarDraft.{BarDraft}
use Rattle.mmtel_sheet_values.specs.declared.values.Action.{Action}
use Rattle.mmtel_sheet_values.specs.declared.values.BarPart.{BarPart}
use Rattle.mmtel_sheet_values.specs.declared.values.DiversionPart.{DiversionPart}
use Rattle.mmtel_sheet_values.specs.declared.values.Rule.{Rule}
use Rattle.mmtel_sheet_values.specs.declared.values.Sheet.{Sheet}
use Rattle.mmtel_sheet_values.specs.Sheets.{empty_sheet}
use Rattle.mmtel_sheet_reader.specs.Actions.{is_forward, is_allowance, all_allow, Diverts, Bars}

-- ---- what holds of a first result holds along the reading

kept : {A B : Type 0} (r : Read A) (next : A → Read B) (P : A → Type 0) (Q : B → Type 0) → IfOk r P → ((a : A) → P a → IfOk (next a) Q) → IfOk (then_read r next) Q
kept (Ok a) next P Q p f = f a p
kept (Err e) next P Q p f = tt

after : {A B : Type 0} (r : Read A) (next : A → Read B) (Q : B → Type 0) → ((a : A) → IfOk (next a) Q) → IfOk (then_read r next) Q
after (Ok a) next Q f = f a
after (Err e) next Q f = tt

chosen : {A : Type 0} (b : Bool) (x y : Read A) (P : A → Type 0) → IfOk x P → IfOk y P → IfOk (if b then x else y) P
chosen true x y P p q = p
chosen false x y P p q = q

members_keep : {A : Type 0} (path : List ℕ) (read : List ℕ → A → List ℕ → Data → Read A) (P : A → Type 0) → ((at : List ℕ) (a : A) (k : List ℕ) (d : Data) → P a → IfOk (read at a k d) P) →
    (a : A) (ms : Members) → P a → IfOk (members_from path read a ms) P
members_keep path read P step a no_members p = p
members_keep path read P step a (member k d ms) p = kept (read (dotted_path path k) a k d) (λ b. members_from path read b ms) P P (step (dotted_path path k) a k d p) (λ b q. members_keep path read P step b ms q)

-- ---- rules

-- the action is one of the service's
does : Service → Action → Bool
does service.Diversion a = is_forward a
does service.Incoming a = is_allowance a
does service.Outgoing a = is_allowance a

all_do : Service → List Rule → Type 0
all_do s rs = list_all (λ r. does s r.action) rs ≡ true

action_does : (s : Service) (path : List ℕ) (target : Option Uri) (n : Notifications) (allow : Option Bool) → IfOk (action_of s path target n allow) (λ a. does s a ≡ true)
unfolding does
action_does service.Diversion path None n allow = tt
action_does service.Diversion path (Some u) n allow = refl
action_does service.Incoming path target n None = tt
action_does service.Incoming path target n (Some b) = refl
action_does service.Outgoing path target n None = tt
action_does service.Outgoing path target n (Some b) = refl

rule_does : (s : Schema) (path : List ℕ) (ms : Members) → IfOk (rule_of s path ms) (λ r. does s.service r.action ≡ true)
rule_does s path ms = after (keys_of_rule s path ms) (λ r. then_read (action_of s.service path r.target r.notifications r.allow) (λ a. Ok (rule_from r a)))
    (λ (r : Rule). does s.service r.action ≡ true) (λ r. kept (action_of s.service path r.target r.notifications r.allow) (λ a. Ok (rule_from r a)) (λ a. does s.service a ≡ true)
    (λ (r : Rule). does s.service r.action ≡ true) (action_does s.service path r.target r.notifications r.allow) (λ a p. p))

one_more : (s : Service) (done : List Rule) (r : Rule) → all_do s done → does s r.action ≡ true → all_do s (done ++ r ∷ [])
unfolding all_do
one_more s done r p q = rw (list_all-append (λ (r : Rule). does s r.action) done (r ∷ []), p, q)

rules_do : (s : Schema) (path : List ℕ) (done : List Rule) (ds : Items) → all_do s.service done → IfOk (rules_from s path done ds) (all_do s.service)
rules_do s path done no_items p = p
rules_do s path done (item d ds) p = after (or_wrong path (as_table d)) (λ ms. then_read (rule_of s (rule_path path (length done)) ms) (λ r. rules_from s path (done ++ r ∷ []) ds))
    (all_do s.service) (λ ms. kept (rule_of s (rule_path path (length done)) ms) (λ r. rules_from s path (done ++ r ∷ []) ds) (λ (r : Rule). does s.service r.action ≡ true) (all_do s.service)
    (rule_does s (rule_path path (length done)) ms) (λ r q. rules_do s path (done ++ r ∷ []) ds (one_more s.service done r p q)))

none_does : (s : Service) → all_do s []
unfolding all_do
none_does s = refl

rules_at_do : (s : Schema) (at : List ℕ) (d : Data) → IfOk (rules_at s at d) (all_do s.service)
rules_at_do s at d = after (or_wrong at (as_array d)) (λ ds. rules_of s at ds) (all_do s.service) (λ ds. chosen (are_tables ds) (rules_within s at ds) (Err (Wrong at)) (all_do s.service)
    (chosen (nat_lt 64 (items_count ds)) (Err (Many at 64)) (rules_from s at [] ds) (all_do s.service) tt (rules_do s at [] ds (none_does s.service))) tt)

-- ---- diversion

Forwards : DiversionDraft → Type 0
Forwards r = all_do service.Diversion r.rules

last_diversion_key : (v : Version) (at : List ℕ) (r : DiversionDraft) (k : List ℕ) (d : Data) →
    IfOk (if bytes_eq k (codes "rule") then then_read (rules_at (schema v service.Diversion) at d) (λ rs. Ok (record r { rules = rs })) else Err (Unknown at)) Forwards
unfolding Forwards
last_diversion_key v at r k d = chosen (bytes_eq k (codes "rule")) (then_read (rules_at (schema v service.Diversion) at d) (λ rs. Ok (record r { rules = rs }))) (Err (Unknown at)) Forwards
    (kept (rules_at (schema v service.Diversion) at d) (λ rs. Ok (record r { rules = rs })) (all_do service.Diversion) Forwards (rules_at_do (schema v service.Diversion) at d) (λ rs q. q)) tt

third_diversion_key : (v : Version) (at : List ℕ) (r : DiversionDraft) (k : List ℕ) (d : Data) → Forwards r →
    IfOk (if bytes_eq k (codes "no-reply-time") then then_read (number_at 5 180 at d) (λ n. Ok (record r { no_reply = n })) else if bytes_eq k (codes "rule")
    then then_read (rules_at (schema v service.Diversion) at d) (λ rs. Ok (record r { rules = rs })) else Err (Unknown at)) Forwards
unfolding Forwards
third_diversion_key v at r k d p = chosen (bytes_eq k (codes "no-reply-time")) (then_read (number_at 5 180 at d) (λ n. Ok (record r { no_reply = n })))
    (if bytes_eq k (codes "rule") then then_read (rules_at (schema v service.Diversion) at d) (λ rs. Ok (record r { rules = rs })) else Err (Unknown at)) Forwards
    (after (number_at 5 180 at d) (λ n. Ok (record r { no_reply = n })) Forwards (λ n. p)) (last_diversion_key v at r k d)

second_diversion_key : (v : Version) (at : List ℕ) (r : DiversionDraft) (k : List ℕ) (d : Data) → Forwards r →
    IfOk (if bytes_eq k (codes "deflection") then then_read (truth_at at d) (λ b. Ok (record r { deflection = b })) else if bytes_eq k (codes "no-reply-time") then then_read (number_at 5 180 at d)
    (λ n. Ok (record r { no_reply = n })) else if bytes_eq k (codes "rule") then then_read (rules_at (schema v service.Diversion) at d) (λ rs. Ok (record r { rules = rs })) else Err (Unknown at)) Forwards
unfolding Forwards
second_diversion_key v at r k d p = chosen (bytes_eq k (codes "deflection")) (then_read (truth_at at d) (λ b. Ok (record r { deflection = b })))
    (if bytes_eq k (codes "no-reply-time") then then_read (number_at 5 180 at d) (λ n. Ok (record r { no_reply = n })) else if bytes_eq k (codes "rule")
    then then_read (rules_at (schema v service.Diversion) at d) (λ rs. Ok (record r { rules = rs })) else Err (Unknown at)) Forwards
    (after (truth_at at d) (λ b. Ok (record r { deflection = b })) Forwards (λ b. p)) (third_diversion_key v at r k d p)

bound_diversion_key : (v : Version) (at : List ℕ) (r : DiversionDraft) (k : List ℕ) (d : Data) (more : Read DiversionDraft) → Forwards r → IfOk more Forwards
    → IfOk (if is_bound v k then then_read (number_at 0 16 at d) (λ n. Ok (record r { bound = Some n })) else more) Forwards
unfolding Forwards
bound_diversion_key v at r k d more p rest =
    chosen (is_bound v k) (then_read (number_at 0 16 at d) (λ n. Ok (record r { bound = Some n }))) more Forwards (after (number_at 0 16 at d) (λ n. Ok (record r { bound = Some n })) Forwards (λ n. p)) rest

diversion_key_keeps : (v : Version) (at : List ℕ) (r : DiversionDraft) (k : List ℕ) (d : Data) → Forwards r → IfOk (diversion_key v at r k d) Forwards
unfolding Forwards
diversion_key_keeps v at r k d p = chosen (bytes_eq k (codes "active")) (then_read (truth_at at d) (λ b. Ok (record r { active = b }))) _ Forwards
    (after (truth_at at d) (λ b. Ok (record r { active = b })) Forwards (λ b. p)) (bound_diversion_key v at r k d _ p (second_diversion_key v at r k d p))

diverting_part : (b : Bool) (p : DiversionPart) → all_do service.Diversion p.rules → Diverts (if b then Some p else None)
unfolding all_do does
diverting_part true p h = h
diverting_part false p h = tt

diversion_diverts : (v : Version) (at : List ℕ) (ms : Members) → IfOk (diversion_of v at ms) Diverts
unfolding Forwards
diversion_diverts v at ms =
    kept (members_from at (λ at r k d. diversion_key v at r k d) no_diversion_keys ms) (λ r. Ok (diversion_part r)) Forwards Diverts
    (members_keep at (λ at r k d. diversion_key v at r k d) Forwards (diversion_key_keeps v) no_diversion_keys ms (none_does service.Diversion))
    (λ r p. diverting_part r.active (record { rules = r.rules; no_reply = r.no_reply; deflection = r.deflection; bound = r.bound }) p)

-- ---- barring

Allowances : Service → BarDraft → Type 0
Allowances s r = all_do s r.rules

last_bar_key : (s : Schema) (at : List ℕ) (r : BarDraft) (k : List ℕ) (d : Data) →
    IfOk (if bytes_eq k (codes "rule") then then_read (rules_at s at d) (λ rs. Ok (record r { rules = rs })) else Err (Unknown at)) (Allowances s.service)
unfolding Allowances
last_bar_key s at r k d = chosen (bytes_eq k (codes "rule")) (then_read (rules_at s at d) (λ rs. Ok (record r { rules = rs }))) (Err (Unknown at)) (Allowances s.service)
    (kept (rules_at s at d) (λ rs. Ok (record r { rules = rs })) (all_do s.service) (Allowances s.service) (rules_at_do s at d) (λ rs q. q)) tt

second_bar_key : (s : Schema) (at : List ℕ) (r : BarDraft) (k : List ℕ) (d : Data) → Allowances s.service r →
    IfOk (if is_rejection s.service k then then_read (truth_at at d) (λ b. Ok (record r { reject_anonymous = b })) else if bytes_eq k (codes "rule")
    then then_read (rules_at s at d) (λ rs. Ok (record r { rules = rs })) else Err (Unknown at)) (Allowances s.service)
unfolding Allowances
second_bar_key s at r k d p = chosen (is_rejection s.service k) (then_read (truth_at at d) (λ b. Ok (record r { reject_anonymous = b })))
    (if bytes_eq k (codes "rule") then then_read (rules_at s at d) (λ rs. Ok (record r { rules = rs })) else Err (Unknown at)) (Allowances s.service)
    (after (truth_at at d) (λ b. Ok (record r { reject_anonymous = b })) (Allowances s.service) (λ b. p)) (last_bar_key s at r k d)

bar_key_keeps : (s : Schema) (at : List ℕ) (r : BarDraft) (k : List ℕ) (d : Data) → Allowances s.service r → IfOk (bar_key s at r k d) (Allowances s.service)
unfolding Allowances
bar_key_keeps s at r k d p = chosen (bytes_eq k (codes "active")) (then_read (truth_at at d) (λ b. Ok (record r { active = b }))) (if is_rejection s.service k then then_read (truth_at at d)
    (λ b. Ok (record r { reject_anonymous = b })) else if bytes_eq k (codes "rule") then then_read (rules_at s at d) (λ rs. Ok (record r { rules = rs })) else Err (Unknown at)) (Allowances s.service)
    (after (truth_at at d) (λ b. Ok (record r { active = b })) (Allowances s.service) (λ b. p)) (second_bar_key s at r k d p)

barring_part : (s : Service) (b : Bool) (p : BarPart) → (all_do s p.rules → all_allow p.rules ≡ true) → all_do s p.rules → Bars (if b then Some p else None)
barring_part s true p allows h = allows h
barring_part s false p allows h = tt

bar_bars : (v : Version) (s : Service) → ((rs : List Rule) → all_do s rs → all_allow rs ≡ true) → (at : List ℕ) (ms : Members) → IfOk (bar_of (schema v s) at ms) Bars
unfolding Allowances
bar_bars v s allows at ms = kept (members_from at (λ at r k d. bar_key (schema v s) at r k d) no_bar_keys ms) (λ r. Ok (bar_part r)) (Allowances s) Bars
    (members_keep at (λ at r k d. bar_key (schema v s) at r k d) (Allowances s) (bar_key_keeps (schema v s)) no_bar_keys ms (none_does s))
    (λ r p. barring_part s r.active (record { rules = r.rules; reject_anonymous = r.reject_anonymous }) (allows r.rules) p)

incoming_allows : (rs : List Rule) → all_do service.Incoming rs → all_allow rs ≡ true
unfolding all_do does
incoming_allows rs h = h

outgoing_allows : (rs : List Rule) → all_do service.Outgoing rs → all_allow rs ≡ true
unfolding all_do does
outgoing_allows rs h = h

-- ---- the sheet

pub record Acts (s : Sheet) : Type 0 where
  pub diversion : Diverts s.diversion
  pub incoming : Bars s.incoming
  pub outgoing : Bars s.outgoing

table_acts : (v : Version) (at : List ℕ) (s : Sheet) (t : TableKey) (ms : Members) → Acts s → IfOk (table_read v at s t ms) Acts
table_acts v at s key.Diversion ms h =
    kept (diversion_of v at ms) (λ p. Ok (record s { diversion = p })) Diverts Acts (diversion_diverts v at ms) (λ p q. record { diversion = q; incoming = h.incoming; outgoing = h.outgoing })
table_acts v at s key.Incoming ms h = kept (bar_of (schema v service.Incoming) at ms) (λ p. Ok (record s { incoming = p })) Bars Acts (bar_bars v service.Incoming incoming_allows at ms)
    (λ p q. record { diversion = h.diversion; incoming = q; outgoing = h.outgoing })
table_acts v at s key.Outgoing ms h = kept (bar_of (schema v service.Outgoing) at ms) (λ p. Ok (record s { outgoing = p })) Bars Acts (bar_bars v service.Outgoing outgoing_allows at ms)
    (λ p q. record { diversion = h.diversion; incoming = h.incoming; outgoing = q })
table_acts v at s key.Oip ms h = after (presentation_of at ms) (λ b. Ok (record s { oip = b })) Acts (λ b. record { diversion = h.diversion; incoming = h.incoming; outgoing = h.outgoing })
table_acts v at s key.Oir ms h = after (restriction_of at ms) (λ r. Ok (record s { oir = r })) Acts (λ b. record { diversion = h.diversion; incoming = h.incoming; outgoing = h.outgoing })
table_acts v at s key.Tip ms h = after (presentation_of at ms) (λ b. Ok (record s { tip = b })) Acts (λ b. record { diversion = h.diversion; incoming = h.incoming; outgoing = h.outgoing })
table_acts v at s key.Tir ms h = after (restriction_of at ms) (λ r. Ok (record s { tir = r })) Acts (λ b. record { diversion = h.diversion; incoming = h.incoming; outgoing = h.outgoing })
table_acts v at s key.Waiting ms h = after (waiting_of at ms) (λ n. Ok (record s { waiting = n })) Acts (λ b. record { diversion = h.diversion; incoming = h.incoming; outgoing = h.outgoing })

named_acts : (v : Version) (at : List ℕ) (s : Sheet) (t : Option TableKey) (d : Data) → Acts s → IfOk (named_read v at s t d) Acts
named_acts v at s None d h = tt
named_acts v at s (Some t) d h = after (or_wrong at (as_table d)) (λ ms. table_read v at s t ms) Acts (λ ms. table_acts v at s t ms h)

name_acts : (v : Version) (k : List ℕ) (s : Sheet) (d : Data) → Acts s → IfOk (name_read v k s d) Acts
name_acts v k s d h =
    chosen (bytes_eq k (codes "version")) (then_read (version_at k d) (λ w. Ok s)) (named_read v k s (table_key_of k) d) Acts (after (version_at k d) (λ w. Ok s) Acts (λ w. h)) (named_acts v k s (table_key_of k) d h)

sheet_acts : (v : Version) (s : Sheet) (ms : Members) → Acts s → IfOk (sheet_from v s ms) Acts
sheet_acts v s no_members h = h
sheet_acts v s (member k d ms) h = kept (name_read v k s d) (λ t. sheet_from v t ms) Acts Acts (name_acts v k s d h) (λ t q. sheet_acts v t ms q)

document_acts : (ms : Members) → IfOk (sheet_of ms) Acts
document_acts ms = after (version_of ms) (λ v. sheet_from v empty_sheet ms) Acts (λ v. sheet_acts v empty_sheet ms (record { diversion = tt; incoming = tt; outgoing = tt }))

pub read_sheet_acts : (ms : Members) (s : Sheet) → sheet_of ms ≡ Ok s → Acts s
read_sheet_acts ms s e = subst (λ (r : Read Sheet). IfOk r Acts) e (document_acts ms)
