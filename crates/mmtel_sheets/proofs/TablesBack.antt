-- The document of a sheet reads back as the sheet.
use Rattle.std.proofs.Common.{◌≡◌, ℕ, ◌≤◌, Ordering, Less, Equal, Greater, nat_cmp, is_eq, Bool, true, false, nat_lt, List, [], ◌∷◌}
use Rattle.std.proofs.Common.{◌++◌, length, Option, Some, None, Ok, refl, sym, ap, ◌∙◌, append_assoc, append-nil, arith, codes}
use Rattle.std.proofs.lemmas.Bool.Decides.{nat_tests}
use Rattle.std.specs.Prelude.{IfSome}
use Rattle.std.specs.List.{AllByRecursion}
use Rattle.std.specs.Cmp.Lexicographic.{slice_cmp}
use Rattle.std.specs.Ordering.{match_ordering}
use Rattle.std.specs.Str.{bytes_eq}
use Rattle.toml.specs.Data.{Data, string, table, Items, Members, no_members, get_member, same_key, as_table}
use Rattle.mmtel_sheet_grammar.specs.ReadResults.{Read, then_read, or_wrong}
use Rattle.mmtel_sheet_grammar.specs.Keys.{dotted_path, rule_path}
use Rattle.mmtel_sheet_grammar.specs.Rules.{are_tables, items_count, rules_from, rules_at}
use Rattle.mmtel_sheet_grammar.specs.Walk.{diversion_of, bar_of, presentation_of, choice_at, restriction_of, waiting_of, table_key_of, table_read, version_of, sheet_from, sheet_of}
use Rattle.mmtel_sheet_grammar.specs.declared.keys.Service.{Service}
use Rattle.mmtel_sheet_grammar.specs.declared.keys.Service.TheVariants as service
use Rattle.mmtel_sheet_grammar.specs.declared.keys.Version.TheVariants as version
use Rattle.mmtel_sheet_grammar.specs.declared.keys.TableKey.{TableKey}
use Rattle.mmtel_sheet_grammar.specs.declared.keys.TableKey.TheVariants as key
use Rattle.mmtel_sheet_values.specs.Sheets.{empty_sheet}
use Rattle.mmtel_sheet_values.specs.declared.values.BarPart.{BarPart}
use Rattle.mmtel_sheet_values.specs.declared.values.DiversionPart.{DiversionPart}
use Rattle.mmtel_sheet_values.specs.declared.values.Restriction.{Restriction}
use Rattle.mmtel_sheet_values.specs.declared.values.Rule.{Rule}
use Rattle.mmtel_sheet_values.specs.declared.values.Sheet.{Sheet}
use Rattle.mmtel_sheet_grammar.specs.Printable.{IsRule, AreRules, IsDiversion, IsBar, IsWaiting, IsPrintable}
use Rattle.mmtel_sheets.specs.Printing.{with_key, each_item, rule_data, rules_data, diversion_data, bar_data, presentation_data, word_of, restriction_data, waiting_data, version_data, part_data, document_of}
use Rattle.mmtel_sheets.proofs.ElementsBack.{number_back}
use Rattle.mmtel_sheets.proofs.KeySteps.{second}
use Rattle.mmtel_sheets.proofs.RuleBack.{rule_back}

not_true : (b : Bool) → (b ≡ true → ⊥) → false ≡ b
not_true true h = absurd (h refl)
not_true false h = refl

-- ---- rules

abbrev items_of_rules : Service → List Rule → Items
items_of_rules s rs = each_item (λ r. table (rule_data s r)) rs

rules_each : (s : Service) (path : List ℕ) (done rs : List Rule) → AllByRecursion (IsRule s) rs → rules_from (second s) path done (items_of_rules s rs) ≡ Ok (done ++ rs)
rules_each s path done [] all = ap Ok (sym (append-nil done))
rules_each s path done (r ∷ rs) all =
    rw (rule_back s (rule_path path (length done)) r all.0) (rules_each s path (done ++ r ∷ []) rs all.1 ∙ ap Ok (append_assoc done (r ∷ []) rs))

rules_tables : (s : Service) (rs : List Rule) → are_tables (items_of_rules s rs) ≡ true
rules_tables s [] = refl
rules_tables s (r ∷ rs) = rules_tables s rs

rules_count : (s : Service) (rs : List Rule) → items_count (items_of_rules s rs) ≡ length rs
rules_count s [] = refl
rules_count s (r ∷ rs) = omega (arith, rules_count s rs)

rules_back : (s : Service) (at : List ℕ) (rs : List Rule) → AreRules s rs → rules_at (second s) at (rules_data s rs) ≡ Ok rs
rules_back s at rs is =
    let few : nat_lt 64 (length rs) ≡ false = grind (arith, nat_tests, is.few) in
    rw (rules_tables s rs, rules_count s rs, few) (rules_each s at [] rs is.each)

-- ---- tables

-- the members of a table
abbrev reads_table : {A : Type 0} → List ℕ → Data → (Members → Read A) → Read A
reads_table at d read = then_read (or_wrong at (as_table d)) read

-- by its bound
abbrev bounded : DiversionPart → Option ℕ → DiversionPart
bounded p bound = record p { bound = bound }

bounded_back : (path : List ℕ) (p : DiversionPart) (bound : Option ℕ) → IsDiversion p → IfSome bound (λ n. n ≤ 16)
    → reads_table path (diversion_data (bounded p bound)) (λ ms. diversion_of version.Two path ms) ≡ Ok (Some (bounded p bound))
bounded_back path p None is few = rw (
  number_back 5 180 (dotted_path path (codes "no-reply-time")) p.no_reply is.least is.most,
  rules_back service.Diversion
      (dotted_path path (codes "rule")) p.rules is.rules,
)
bounded_back path p (Some n) is few =
    rw (
      number_back 0 16 (dotted_path path (codes "bound")) n (omega arith) few,
      number_back 5 180 (dotted_path path (codes "no-reply-time"))
          p.no_reply is.least is.most,
      rules_back service.Diversion (dotted_path path (codes "rule")) p.rules is.rules,
    )

diversion_back : (path : List ℕ) (p : DiversionPart) → IsDiversion p → reads_table path (diversion_data p) (λ ms. diversion_of version.Two path ms) ≡ Ok (Some p)
diversion_back path p is = bounded_back path p p.bound is is.bound

bar_back : (s : Service) (path : List ℕ) (p : BarPart) → IsBar s p → reads_table path (bar_data s p) (λ ms. bar_of (second s) path ms) ≡ Ok (Some p)
bar_back service.Diversion path p is =
    let had = rules_back service.Diversion (dotted_path path (codes "rule")) p.rules is.rules in
    let never : false ≡ p.reject_anonymous = not_true p.reject_anonymous is.rejection in
    rw (had, ← never)
bar_back service.Incoming path p is = rw (rules_back service.Incoming (dotted_path path (codes "rule")) p.rules is.rules)
bar_back service.Outgoing path p is =
    let had = rules_back service.Outgoing (dotted_path path (codes "rule")) p.rules is.rules in
    let never : false ≡ p.reject_anonymous = not_true p.reject_anonymous is.rejection in
    rw (had, ← never)

presentation_back : (path : List ℕ) (b : Bool) → reads_table path (presentation_data b) (λ ms. presentation_of path ms) ≡ Ok b
presentation_back path b = refl

choice_back : (first second at : List ℕ) (b : Bool) → bytes_eq first first ≡ true → bytes_eq second first ≡ false → bytes_eq second second ≡ true → choice_at first second at
    (string (word_of first second b)) ≡ Ok b
choice_back first second at true x y z = rw x
choice_back first second at false x y z = rw (y, z)

restriction_back : (path : List ℕ) (r : Restriction) → reads_table path (restriction_data r) (λ ms. restriction_of path ms) ≡ Ok r
restriction_back path r =
    rw (
      choice_back (codes "presentation-restricted") (codes "presentation-not-restricted") (dotted_path path (codes "default-behaviour")) r.by_default refl refl refl,
      choice_back (codes "permanent") (codes "temporary") (dotted_path path (codes "mode")) r.permanent refl refl refl,
    )

waiting_back : (path : List ℕ) (n : ℕ) → IsWaiting n → reads_table path (waiting_data n) (λ ms. waiting_of path ms) ≡ Ok (Some n)
waiting_back path n is = rw (number_back 2 8 (dotted_path path (codes "calls")) n is.0 is.1)

-- ---- the document

-- a table changes what was read so far to this
abbrev StepsTo : List ℕ → Sheet → TableKey → Option Data → Sheet → Type 0
StepsTo at s k None after = s ≡ after
StepsTo at s k (Some d) after = reads_table at d (λ ms. table_read version.Two at s k ms) ≡ Ok after

walk : (s : Sheet) (name : List ℕ) (k : TableKey) (o : Option Data) (rest : Members) (after : Sheet) → table_key_of name ≡ Some k → bytes_eq name (codes "version") ≡ false
    → StepsTo name s k o after → sheet_from version.Two s (with_key name o rest) ≡ sheet_from version.Two after rest
walk s name k None rest after named apart step = ap (λ (x : Sheet). sheet_from version.Two x rest) step
walk s name k (Some d) rest after named apart step = rw (apart, named, step)

diversion_step : (at : List ℕ) (s : Sheet) (part : Option DiversionPart) → IfSome part IsDiversion → s.diversion ≡ None → StepsTo at s key.Diversion
    (part_data diversion_data part) (record s { diversion = part })
diversion_step at s None is e = ap (λ (x : Option DiversionPart). record s { diversion = x }) e
diversion_step at s (Some p) is e = rw (diversion_back at p is)

waiting_step : (at : List ℕ) (s : Sheet) (calls : Option ℕ) → IfSome calls IsWaiting → s.waiting ≡ None → StepsTo at s key.Waiting (part_data waiting_data calls)
    (record s { waiting = calls })
waiting_step at s None is e = ap (λ (x : Option ℕ). record s { waiting = x }) e
waiting_step at s (Some n) is e = rw (waiting_back at n is)

incoming_step : (at : List ℕ) (s : Sheet) (part : Option BarPart) → IfSome part (IsBar service.Incoming) → s.incoming ≡ None → StepsTo at s key.Incoming
    (part_data (bar_data service.Incoming) part) (record s { incoming = part })
incoming_step at s None is e = ap (λ (x : Option BarPart). record s { incoming = x }) e
incoming_step at s (Some p) is e = rw (bar_back service.Incoming at p is)

outgoing_step : (at : List ℕ) (s : Sheet) (part : Option BarPart) → IfSome part (IsBar service.Outgoing) → s.outgoing ≡ None → StepsTo at s key.Outgoing
    (part_data (bar_data service.Outgoing) part) (record s { outgoing = part })
outgoing_step at s None is e = ap (λ (x : Option BarPart). record s { outgoing = x }) e
outgoing_step at s (Some p) is e = rw (bar_back service.Outgoing at p is)

restricted_oir : (at : List ℕ) (s : Sheet) (r : Restriction) → StepsTo at s key.Oir (Some (restriction_data r)) (record s { oir = r })
restricted_oir at s r = rw (restriction_back at r)

restricted_tir : (at : List ℕ) (s : Sheet) (r : Restriction) → StepsTo at s key.Tir (Some (restriction_data r)) (record s { tir = r })
restricted_tir at s r = rw (restriction_back at r)

named-diversion : table_key_of (codes "communication-diversion") ≡ Some key.Diversion
unfolding table_key_of
named-diversion = refl

named-waiting : table_key_of (codes "communication-waiting") ≡ Some key.Waiting
unfolding table_key_of
named-waiting = refl

named-incoming : table_key_of (codes "incoming-communication-barring") ≡ Some key.Incoming
unfolding table_key_of
named-incoming = refl

named-oip : table_key_of (codes "originating-identity-presentation") ≡ Some key.Oip
unfolding table_key_of
named-oip = refl

named-oir : table_key_of (codes "originating-identity-presentation-restriction") ≡ Some key.Oir
unfolding table_key_of
named-oir = refl

named-outgoing : table_key_of (codes "outgoing-communication-barring") ≡ Some key.Outgoing
unfolding table_key_of
named-outgoing = refl

named-tip : table_key_of (codes "terminating-identity-presentation") ≡ Some key.Tip
unfolding table_key_of
named-tip = refl

named-tir : table_key_of (codes "terminating-identity-presentation-restriction") ≡ Some key.Tir
unfolding table_key_of
named-tir = refl

-- the tables of a document after each of its tables
abbrev from-version : Sheet → Members
from-version s = with_key (codes "version") (Some version_data) no_members

abbrev from-tir : Sheet → Members
from-tir s = with_key (codes "terminating-identity-presentation-restriction") (Some (restriction_data s.tir)) (from-version s)

abbrev from-tip : Sheet → Members
from-tip s = with_key (codes "terminating-identity-presentation") (Some (presentation_data s.tip)) (from-tir s)

abbrev from-outgoing : Sheet → Members
from-outgoing s = with_key (codes "outgoing-communication-barring") (part_data (bar_data service.Outgoing) s.outgoing) (from-tip s)

abbrev from-oir : Sheet → Members
from-oir s = with_key (codes "originating-identity-presentation-restriction") (Some (restriction_data s.oir)) (from-outgoing s)

abbrev from-oip : Sheet → Members
from-oip s = with_key (codes "originating-identity-presentation") (Some (presentation_data s.oip)) (from-oir s)

abbrev from-incoming : Sheet → Members
from-incoming s = with_key (codes "incoming-communication-barring") (part_data (bar_data service.Incoming) s.incoming) (from-oip s)

abbrev from-waiting : Sheet → Members
from-waiting s = with_key (codes "communication-waiting") (part_data waiting_data s.waiting) (from-incoming s)

-- what was read after each table
abbrev after-diversion : Sheet → Sheet
after-diversion s = record empty_sheet { diversion = s.diversion }

abbrev after-waiting : Sheet → Sheet
after-waiting s = record (after-diversion s) { waiting = s.waiting }

abbrev after-incoming : Sheet → Sheet
after-incoming s = record (after-waiting s) { incoming = s.incoming }

abbrev after-oip : Sheet → Sheet
after-oip s = record (after-incoming s) { oip = s.oip }

abbrev after-oir : Sheet → Sheet
after-oir s = record (after-oip s) { oir = s.oir }

abbrev after-outgoing : Sheet → Sheet
after-outgoing s = record (after-oir s) { outgoing = s.outgoing }

abbrev after-tip : Sheet → Sheet
after-tip s = record (after-outgoing s) { tip = s.tip }

abbrev after-tir : Sheet → Sheet
after-tir s = record (after-tip s) { tir = s.tir }

-- ---- the version

passes : (o : Ordering) (x : Option Data) (d : Data) → is_eq o ≡ false → match_ordering o x (Some d) x ≡ x
passes Less x d apart = refl
passes Equal x d apart = absurd cc
passes Greater x d apart = refl

skip_to : (l : List ℕ) (o : Option Data) (ms : Members) → same_key (codes "version") l ≡ false → get_member (codes "version") (with_key l o ms) ≡ get_member (codes "version") ms
skip_to l None ms apart = refl
skip_to l (Some d) ms apart = passes (slice_cmp nat_cmp (codes "version") l) _ d apart

pub version_back : (s : Sheet) → version_of (document_of s) ≡ Ok version.Two
version_back s =
    let found : get_member (codes "version") (document_of s) ≡ Some version_data =
    skip_to (codes "communication-diversion") (part_data diversion_data s.diversion) (from-waiting s) refl
    ∙ (skip_to (codes "communication-waiting") (part_data waiting_data s.waiting) (from-incoming s) refl
    ∙ (skip_to (codes "incoming-communication-barring") (part_data (bar_data service.Incoming) s.incoming) (from-oip s) refl
    ∙ (skip_to (codes "originating-identity-presentation") (Some (presentation_data s.oip)) (from-oir s) refl
    ∙ (skip_to (codes "originating-identity-presentation-restriction") (Some (restriction_data s.oir)) (from-outgoing s) refl
    ∙ (skip_to (codes "outgoing-communication-barring") (part_data (bar_data service.Outgoing) s.outgoing) (from-tip s) refl
    ∙ (skip_to (codes "terminating-identity-presentation") (Some (presentation_data s.tip)) (from-tir s) refl
    ∙ (skip_to (codes "terminating-identity-presentation-restriction") (Some (restriction_data s.tir)) (from-version s) refl ∙ refl))))))) in
    rw found refl

module _ (s : Sheet) (is : IsPrintable s) where
  at-diversion : (rest : Members) → sheet_from version.Two empty_sheet (with_key (codes "communication-diversion") (part_data diversion_data s.diversion) rest)
      ≡ sheet_from version.Two (after-diversion s) rest
  at-diversion rest = walk empty_sheet (codes "communication-diversion") key.Diversion (part_data diversion_data s.diversion) rest (after-diversion s) named-diversion refl
      (diversion_step (codes "communication-diversion") empty_sheet s.diversion is.diversion refl)

  at-waiting : (rest : Members) → sheet_from version.Two (after-diversion s) (with_key (codes "communication-waiting") (part_data waiting_data s.waiting) rest)
      ≡ sheet_from version.Two (after-waiting s) rest
  at-waiting rest = walk (after-diversion s) (codes "communication-waiting") key.Waiting (part_data waiting_data s.waiting) rest (after-waiting s) named-waiting refl
      (waiting_step (codes "communication-waiting") (after-diversion s) s.waiting is.waiting refl)

  at-incoming : (rest : Members) → sheet_from version.Two (after-waiting s) (with_key (codes "incoming-communication-barring") (part_data (bar_data service.Incoming) s.incoming)
      rest) ≡ sheet_from version.Two (after-incoming s) rest
  at-incoming rest = walk (after-waiting s) (codes "incoming-communication-barring") key.Incoming (part_data (bar_data service.Incoming) s.incoming) rest (after-incoming s)
      named-incoming refl (incoming_step (codes "incoming-communication-barring") (after-waiting s) s.incoming is.incoming refl)

  at-oip : (rest : Members) → sheet_from version.Two (after-incoming s) (with_key (codes "originating-identity-presentation") (Some (presentation_data s.oip)) rest)
      ≡ sheet_from version.Two (after-oip s) rest
  at-oip rest = walk (after-incoming s) (codes "originating-identity-presentation") key.Oip (Some (presentation_data s.oip)) rest (after-oip s) named-oip refl (refl)

  at-oir : (rest : Members) → sheet_from version.Two (after-oip s) (with_key (codes "originating-identity-presentation-restriction") (Some (restriction_data s.oir)) rest)
      ≡ sheet_from version.Two (after-oir s) rest
  at-oir rest = walk (after-oip s) (codes "originating-identity-presentation-restriction") key.Oir (Some (restriction_data s.oir)) rest (after-oir s) named-oir refl
      (restricted_oir (codes "originating-identity-presentation-restriction") (after-oip s) s.oir)

  at-outgoing : (rest : Members) → sheet_from version.Two (after-oir s) (with_key (codes "outgoing-communication-barring") (part_data (bar_data service.Outgoing) s.outgoing)
      rest) ≡ sheet_from version.Two (after-outgoing s) rest
  at-outgoing rest = walk (after-oir s) (codes "outgoing-communication-barring") key.Outgoing (part_data (bar_data service.Outgoing) s.outgoing) rest (after-outgoing s)
      named-outgoing refl (outgoing_step (codes "outgoing-communication-barring") (after-oir s) s.outgoing is.outgoing refl)

  at-tip : (rest : Members) → sheet_from version.Two (after-outgoing s) (with_key (codes "terminating-identity-presentation") (Some (presentation_data s.tip)) rest)
      ≡ sheet_from version.Two (after-tip s) rest
  at-tip rest = walk (after-outgoing s) (codes "terminating-identity-presentation") key.Tip (Some (presentation_data s.tip)) rest (after-tip s) named-tip refl (refl)

  at-tir : (rest : Members) → sheet_from version.Two (after-tip s) (with_key (codes "terminating-identity-presentation-restriction") (Some (restriction_data s.tir)) rest)
      ≡ sheet_from version.Two (after-tir s) rest
  at-tir rest = walk (after-tip s) (codes "terminating-identity-presentation-restriction") key.Tir (Some (restriction_data s.tir)) rest (after-tir s) named-tir refl
      (restricted_tir (codes "terminating-identity-presentation-restriction") (after-tip s) s.tir)

  at-version : sheet_from version.Two (after-tir s) (from-version s) ≡ Ok (after-tir s)
  at-version = refl

  tables_back : sheet_from version.Two empty_sheet (document_of s) ≡ Ok s
  tables_back =
      at-diversion (from-waiting s) ∙ at-waiting (from-incoming s) ∙ at-incoming (from-oip s) ∙ at-oip (from-oir s) ∙ at-oir (from-outgoing s) ∙ at-outgoing (from-tip s)
      ∙ at-tip (from-tir s)
      ∙ at-tir (from-version s) ∙ at-version

  -- the document reads as the sheet
  pub sheet_back : sheet_of (document_of s) ≡ Ok s
  sheet_back = rw (version_back s) tables_back
