-- What is read of a rule can be printed: its identities and its action.
use Rattle.std.proofs.Common.{◌≡◌, ℕ, ℤ, ◌+◌, ◌≤◌, Bool, true, false, cond, ◌&&◌, not, nat_lt, int_lt, List, [], length, Option, Some, None}
use Rattle.std.proofs.Common.{Ok, Ordering, Less, Equal, Greater, nat_cmp, is_eq, refl, sym, ap, subst, ◌∙◌, ◌⊎◌, inl, inr, arith, codes}
use Rattle.std.proofs.lemmas.Bool.{false≢true}
use Rattle.std.proofs.lemmas.Bool.Decides.{nat_tests}
use Rattle.std.specs.Cmp.Lexicographic.{slice_cmp}
use Rattle.std.specs.Ordering.{match_ordering, is_lt}
use Rattle.std.specs.Option.{is_some}
use Rattle.std.specs.Prelude.{IfOk, IfSome}
use Rattle.std.specs.List.{AllByRecursion}
use Rattle.toml.specs.Data.{Data, Members, no_members, member, get_member, is_before, same_key}
use Rattle.mmtel_lex.specs.declared.values.Uri.{Uri}
use Rattle.mmtel_sheet_grammar.specs.Elements.{truth_at, text_at, target_at, is_domain, domain_at, time_at, uris_at, tokens_at, clock_at, days_at, offset_at}
use Rattle.mmtel_sheet_grammar.specs.Keys.{rule_key_of, event_of, notification_of, identity_key_of, is_listed, dotted_path}
use Rattle.mmtel_sheet_grammar.specs.Rules.{has_key, keys_from, with_event, event_read, until_read, day_until_read, days_read, offset_read, key_read, listed_key, listed_key_read, rule_key_read, who_of}
use Rattle.mmtel_sheet_grammar.specs.declared.faults.SheetFault.TheVariants.{Wrong, Many}
use Rattle.mmtel_sheet_grammar.specs.declared.keys.Schema.{Schema}
use Rattle.mmtel_sheet_grammar.specs.declared.keys.RuleKey.{RuleKey}
use Rattle.mmtel_sheet_grammar.specs.declared.keys.RuleKey.TheVariants as key
use Rattle.mmtel_sheet_grammar.specs.declared.drafts.Hours.{Hours}
use Rattle.mmtel_sheet_grammar.specs.declared.drafts.RuleDraft.{RuleDraft}
use Rattle.mmtel_sheet_values.specs.declared.values.EventWord.{EventWord}
use Rattle.mmtel_sheet_values.specs.declared.values.Weekly.{Weekly}
use Rattle.mmtel_sheet_grammar.specs.Printable.{IsUriOfText, IsWho}
use Rattle.mmtel_sheet_grammar.specs.Sound.{IsSoundTable}
use Rattle.mmtel_sheet_reader.proofs.ReadValues.{then_all, then_any, where_ok, unless_err, weaker}
use Rattle.mmtel_sheet_reader.proofs.KeyNames.{IsNamedAs, named, one_key}
use Rattle.mmtel_sheet_reader.proofs.Order.{before_members}

-- the keys that do not change the identities of a rule, in this way
abbrev IsOther : RuleKey → Type 0
IsOther key.Allow = Unit {0}
IsOther key.Anonymous = Unit {0}
IsOther key.DayFrom = Unit {0}
IsOther key.DayUntil = Unit {0}
IsOther key.Days = Unit {0}
IsOther key.Diverted = Unit {0}
IsOther (key.Event e) = Unit {0}
IsOther key.Except = ⊥
IsOther key.From = Unit {0}
IsOther key.Id = Unit {0}
IsOther key.International = Unit {0}
IsOther key.Many = ⊥
IsOther key.Media = Unit {0}
IsOther (key.Notification n) = Unit {0}
IsOther key.Offset = Unit {0}
IsOther key.One = ⊥
IsOther key.Target = Unit {0}
IsOther key.Until = Unit {0}

-- except, many and one are as they were
pub record IsSame (d e : RuleDraft) : Type 0 where
  pub except : e.except ≡ d.except
  pub many : e.many ≡ d.many
  pub one : e.one ≡ d.one

module _ (ms : Members) (at : List ℕ) (d : RuleDraft) where
  event_with : (e : EventWord) (o : Option EventWord) → IfOk (with_event at e d o) (IsSame d)
  event_with e None = record { except = refl; many = refl; one = refl }
  event_with e (Some f) = tt

  event_told : (e : EventWord) (b : Bool) → IfOk (event_read at e d b) (IsSame d)
  event_told e true = event_with e d.event
  event_told e false = record { except = refl; many = refl; one = refl }

  until_same : (t : ℤ) (o : Option ℤ) → IfOk (until_read at d t o) (IsSame d)
  until_same t None = tt
  until_same t (Some f) = where_ok (int_lt f t) _ (Wrong at) (IsSame d) (λ order. record { except = refl; many = refl; one = refl })

  hours_same : (n : ℕ) (o : Option ℕ) → IfOk (day_until_read at d n o) (IsSame d)
  hours_same n None = tt
  hours_same n (Some f) = where_ok (nat_lt f n) _ (Wrong at) (IsSame d) (λ order. record { except = refl; many = refl; one = refl })

  days_same : (days : List Bool) (o : Option Hours) → IfOk (days_read at d days o) (IsSame d)
  days_same days None = tt
  days_same days (Some h) = record { except = refl; many = refl; one = refl }

  offset_same : (z : ℤ) (o : Option Weekly) → IfOk (offset_read at d z o) (IsSame d)
  offset_same z None = tt
  offset_same z (Some w) = record { except = refl; many = refl; one = refl }

  other_same : (n : RuleKey) (v : Data) → IsOther n → IfOk (key_read ms at d n v) (IsSame d)
  other_same key.Allow v o = then_any (truth_at at v) _ (IsSame d) (λ b. record { except = refl; many = refl; one = refl })
  other_same key.Anonymous v o = then_any (truth_at at v) _ (IsSame d) (λ b. record { except = refl; many = refl; one = refl })
  other_same key.DayFrom v o = then_any (clock_at 1_439 at v) _ (IsSame d)
      (λ n. where_ok (has_key (codes "day-until") ms && has_key (codes "days") ms) (Ok (record d { day_from = Some n })) (Wrong at) (IsSame d) (λ e. record { except = refl; many = refl; one = refl }))
  other_same key.DayUntil v o = then_any (clock_at 1_440 at v) _ (IsSame d) (λ n. hours_same n d.day_from)
  other_same key.Days v o = then_any (days_at at v) _ (IsSame d) (λ days. days_same days d.hours)
  other_same key.Diverted v o = then_any (truth_at at v) _ (IsSame d) (λ b. record { except = refl; many = refl; one = refl })
  other_same (key.Event e) v o = then_any (truth_at at v) _ (IsSame d) (λ b. event_told e b)
  other_same key.Except v o = absurd o
  other_same key.From v o =
      then_any (time_at at v) _ (IsSame d) (λ t. where_ok (has_key (codes "until") ms) (Ok (record d { from = Some t })) (Wrong at) (IsSame d) (λ e. record { except = refl; many = refl; one = refl }))
  other_same key.Id v o = then_any (text_at at v) _ (IsSame d) (λ x. record { except = refl; many = refl; one = refl })
  other_same key.International v o = then_any (truth_at at v) _ (IsSame d) (λ b. record { except = refl; many = refl; one = refl })
  other_same key.Many v o = absurd o
  other_same key.Media v o = then_any (tokens_at at v) _ (IsSame d) (λ ts. record { except = refl; many = refl; one = refl })
  other_same (key.Notification n) v o = then_any (truth_at at v) _ (IsSame d) (λ b. record { except = refl; many = refl; one = refl })
  other_same key.Offset v o = then_any (offset_at at v) _ (IsSame d) (λ z. offset_same z d.weekly)
  other_same key.One v o = absurd o
  other_same key.Target v o = then_any (target_at at v) _ (IsSame d) (λ u. record { except = refl; many = refl; one = refl })
  other_same key.Until v o = then_any (time_at at v) _ (IsSame d) (λ t. until_same t d.from)

-- a key that is looked up: its value is present, or it is still to come where the rule has it
abbrev IsSeen : {A : Type 0} → List ℕ → Members → Members → Option A → Type 0
IsSeen k ms rest o = (is_some o ≡ true) ⊎ (has_key k rest ≡ has_key k ms)

-- the values of except, many and one so far, before the rest of the keys
pub record IsCounted (ms rest : Members) (except : List Uri) (many : Option (List ℕ)) (one : Option (List Uri)) : Type 0 where
  pub partner : (except ≡ []) ⊎ (has_key (codes "many") ms ≡ true)
  pub alone : (length except ≤ 64) ⊎ (has_key (codes "one") ms ≡ true)
  pub few : IfSome one (λ uris. length uris + length except ≤ 64)
  pub behind : IfSome one (λ uris. is_before (codes "one") rest ≡ true)
  pub many_seen : IsSeen (codes "many") ms rest many
  pub one_seen : IsSeen (codes "one") ms rest one

passed : (o : Ordering) (x : Option Data) (v : Data) → is_eq o ≡ false → is_some (match_ordering o x (Some v) x) ≡ is_some x
passed Less x v e = refl
passed Equal x v e = absurd cc
passed Greater x v e = refl

apart_keys : (k l : List ℕ) (n m : RuleKey) (b : Bool) → same_key k l ≡ b → rule_key_of k ≡ Some n → rule_key_of l ≡ Some m → (n ≡ m → ⊥) → same_key k l ≡ false
apart_keys k l n m true e a c apart = absurd (let same = ap (λ x. rule_key_of x) (one_key k l e) in let some : Some n ≡ Some m = sym a ∙ same ∙ c in let is : n ≡ m = cc in apart is)
apart_keys k l n m false e a c apart = e

-- another key than this one
other_key : (k l : List ℕ) (n m : RuleKey) (v : Data) (rest : Members) → rule_key_of k ≡ Some n → rule_key_of l ≡ Some m → (n ≡ m → ⊥) → has_key k (member l v rest) ≡ has_key k rest
other_key k l n m v rest a c apart = passed (slice_cmp nat_cmp k l) (get_member k rest) v (apart_keys k l n m (same_key k l) refl a c apart)

some_before : {A : Type 0} (o : Option A) (k : List ℕ) (v : Data) (rest : Members) → is_before k rest ≡ true → IfSome o (λ x. is_before (codes "one") (member k v rest) ≡ true) →
    IfSome o (λ x. is_before (codes "one") rest ≡ true)
some_before None k v rest sorted behind = tt
some_before (Some x) k v rest sorted behind = before_members (codes "one") k rest behind sorted

many_name : rule_key_of (codes "many") ≡ Some key.Many
unfolding event_of notification_of identity_key_of
many_name = refl

one_name : rule_key_of (codes "one") ≡ Some key.One
unfolding event_of notification_of identity_key_of
one_name = refl

seen_moved : {A : Type 0} (name k : List ℕ) (v : Data) (ms rest : Members) (o : Option A) → has_key name (member k v rest) ≡ has_key name rest → IsSeen name ms (member k v rest) o → IsSeen name ms rest o
seen_moved name k v ms rest o same (inl here) = inl here
seen_moved name k v ms rest o same (inr there) = inr (sym same ∙ there)

not_many : (n : RuleKey) → IsOther n → key.Many ≡ n → ⊥
not_many n o e = subst (λ (x : RuleKey). IsOther x) (sym e) o

not_one : (n : RuleKey) → IsOther n → key.One ≡ n → ⊥
not_one n o e = subst (λ (x : RuleKey). IsOther x) (sym e) o

many_not_except : key.Many ≡ key.Except → ⊥
many_not_except e = absurd cc

many_not_one : key.Many ≡ key.One → ⊥
many_not_one e = absurd cc

one_not_except : key.One ≡ key.Except → ⊥
one_not_except e = absurd cc

one_not_many : key.One ≡ key.Many → ⊥
one_not_many e = absurd cc

-- no key but these changes what is counted
module _ (ms : Members) (k : List ℕ) (v : Data) (rest : Members) (sorted : is_before k rest ≡ true) where
  moved : (n : RuleKey) (except : List Uri) (many : Option (List ℕ)) (one : Option (List Uri)) → rule_key_of k ≡ Some n → (key.Many ≡ n → ⊥) → (key.One ≡ n → ⊥)
      → IsCounted ms (member k v rest) except many one → IsCounted ms rest except many one
  moved n except many one is no_many no_one c = record {
    partner = c.partner;
    alone = c.alone;
    few = c.few;
    behind = some_before one k v rest sorted c.behind;
    many_seen = seen_moved (codes "many") k v ms rest many (other_key (codes "many") k key.Many n v rest many_name is no_many) c.many_seen;
    one_seen = seen_moved (codes "one") k v ms rest one (other_key (codes "one") k key.One n v rest one_name is no_one) c.one_seen;
  }

  -- no key follows one but in byte order
  never_one : (o : Option (List Uri)) (P : List Uri → Type 0) → k ≡ codes "except" → IfSome o (λ x. is_before (codes "one") (member k v rest) ≡ true) → IfSome o P
  never_one None P e behind = tt
  never_one (Some x) P e behind = absurd (false≢true (subst (λ (y : List ℕ). is_lt (slice_cmp nat_cmp (codes "one") y) ≡ true) e behind))

  alone_by : (n : ℕ) (one : Bool) → (nat_lt 64 n && not one) ≡ false → has_key (codes "one") ms ≡ one → (n ≤ 64) ⊎ (has_key (codes "one") ms ≡ true)
  alone_by n true e is = inr is
  alone_by n false e is = inl (grind (arith, nat_tests))

  abbrev Counted : RuleDraft → Type 0
  Counted e = IsCounted ms rest e.except e.many e.one

  same_counted : (d e : RuleDraft) → IsCounted ms rest d.except d.many d.one → IsSame d e → Counted e
  same_counted d e c same = rw (same.except, same.many, same.one) c

  module _ (at : List ℕ) (d : RuleDraft) (c : IsCounted ms (member k v rest) d.except d.many d.one) where
    except_counted : rule_key_of k ≡ Some key.Except → k ≡ codes "except" → IfOk (key_read ms at d key.Except v) Counted
    except_counted is name = then_any (uris_at at v) _ Counted (λ us.
        where_ok (has_key (codes "many") ms) _ (Wrong at) Counted (λ many.
        unless_err (nat_lt 64 (length us) && not (has_key (codes "one") ms)) (Ok (record d { except = us })) (Many at 64) Counted (λ few.
        let old = moved key.Except d.except d.many d.one is many_not_except one_not_except c in
        record {
          partner = inr many;
          alone = alone_by (length us) (has_key (codes "one") ms) few refl;
          few = never_one d.one (λ uris. length uris + length us ≤ 64) name c.behind;
          behind = old.behind;
          many_seen = old.many_seen;
          one_seen = old.one_seen;
        })))

    many_counted : rule_key_of k ≡ Some key.Many → IfOk (key_read ms at d key.Many v) Counted
    many_counted is = then_any (domain_at at v) _ Counted (λ x.
        record {
          partner = c.partner;
          alone = c.alone;
          few = c.few;
          behind = some_before d.one k v rest sorted c.behind;
          many_seen = inl refl;
          one_seen = seen_moved (codes "one") k v ms rest d.one (other_key (codes "one") k key.One key.Many v rest one_name is one_not_many) c.one_seen;
        })

    one_counted : rule_key_of k ≡ Some key.One → k ≡ codes "one" → IfOk (key_read ms at d key.One v) Counted
    one_counted is name = then_any (uris_at at v) _ Counted (λ us.
        unless_err (nat_lt 64 (length us + length d.except)) (Ok (record d { one = Some us })) (Many at 64) Counted (λ few.
        let bound : length us + length d.except ≤ 64 = grind (arith, nat_tests) in
        record {
          partner = c.partner;
          alone = c.alone;
          few = bound;
          behind = subst (λ (y : List ℕ). is_before y rest ≡ true) name sorted;
          many_seen = seen_moved (codes "many") k v ms rest d.many (other_key (codes "many") k key.Many key.One v rest many_name is many_not_one) c.many_seen;
          one_seen = inl refl;
        }))

    other_counted : (n : RuleKey) → IsOther n → rule_key_of k ≡ Some n → IfOk (key_read ms at d n v) Counted
    other_counted n o is = weaker (key_read ms at d n v) (IsSame d) Counted (other_same ms at d n v o) (λ e same. same_counted d e (moved n d.except d.many d.one is (not_many n o) (not_one n o) c) same)

    key_counted : (n : RuleKey) → rule_key_of k ≡ Some n → IsNamedAs k n → IfOk (key_read ms at d n v) Counted
    key_counted key.Allow is name = other_counted key.Allow tt is
    key_counted key.Anonymous is name = other_counted key.Anonymous tt is
    key_counted key.DayFrom is name = other_counted key.DayFrom tt is
    key_counted key.DayUntil is name = other_counted key.DayUntil tt is
    key_counted key.Days is name = other_counted key.Days tt is
    key_counted key.Diverted is name = other_counted key.Diverted tt is
    key_counted (key.Event e) is name = other_counted (key.Event e) tt is
    key_counted key.Except is name = except_counted is name
    key_counted key.From is name = other_counted key.From tt is
    key_counted key.Id is name = other_counted key.Id tt is
    key_counted key.International is name = other_counted key.International tt is
    key_counted key.Many is name = many_counted is
    key_counted key.Media is name = other_counted key.Media tt is
    key_counted (key.Notification n) is name = other_counted (key.Notification n) tt is
    key_counted key.Offset is name = other_counted key.Offset tt is
    key_counted key.One is name = one_counted is name
    key_counted key.Target is name = other_counted key.Target tt is
    key_counted key.Until is name = other_counted key.Until tt is

    listed_counted : (o : Option RuleKey) → IfSome o (λ n. (rule_key_of k ≡ Some n) × IsNamedAs k n) → IfOk (listed_key_read ms at d o v) Counted
    listed_counted None h = tt
    listed_counted (Some n) h = key_counted n h.0 h.1

some_listed : (s : Schema) (k : List ℕ) (n : RuleKey) (b : Bool) → (rule_key_of k ≡ Some n) → IsNamedAs k n → IfSome (cond b (Some n) None) (λ m. (rule_key_of k ≡ Some m) × IsNamedAs k m)
some_listed s k n true is name = (is, name)
some_listed s k n false is name = tt

listed_named : (s : Schema) (k : List ℕ) (o : Option RuleKey) → rule_key_of k ≡ o → IfSome o (IsNamedAs k) → IfSome (listed_key s o) (λ n. (rule_key_of k ≡ Some n) × IsNamedAs k n)
listed_named s k None e name = tt
listed_named s k (Some n) e name = some_listed s k n (is_listed s n) e name

pub keys_counted : (s : Schema) (ms : Members) (path : List ℕ) (d : RuleDraft) (rest : Members) → IsCounted ms rest d.except d.many d.one → IsSoundTable rest
    → IfOk (keys_from s ms path d rest) (λ e. IsCounted ms no_members e.except e.many e.one)
keys_counted s ms path d no_members c sound = c
keys_counted s ms path d (member k v rest) c sound =
    then_all (rule_key_read s ms (dotted_path path k) d k v) (λ e. keys_from s ms path e rest) (λ e. IsCounted ms rest e.except e.many e.one) (λ e. IsCounted ms no_members e.except e.many e.one)
    (listed_counted ms k v rest sound.0 (dotted_path path k) d c (listed_key s (rule_key_of k)) (listed_named s k (rule_key_of k) refl (named k)))
    (λ e counted. keys_counted s ms path e rest counted sound.2)

pub nothing_counted : (ms : Members) → IsCounted ms ms [] None None
nothing_counted ms = record { partner = inl refl; alone = inl (omega arith); few = tt; behind = tt; many_seen = inr refl; one_seen = inr refl }

-- the identities of the rule
absent : (b : Bool) → b ≡ true → (false ≡ true) ⊎ (false ≡ b) → ⊥
absent b e (inl bad) = false≢true bad
absent b e (inr is) = false≢true (is ∙ e)

partner_by : (ms : Members) (except : List Uri) (many : Option (List ℕ)) → (except ≡ []) ⊎ (has_key (codes "many") ms ≡ true) → IsSeen (codes "many") ms no_members many → many ≡ None → except ≡ []
partner_by ms except many (inl none) seen e = none
partner_by ms except None (inr there) seen e = absurd (absent (has_key (codes "many") ms) there seen)
partner_by ms except (Some x) (inr there) seen e = absurd cc

few_by : (ms : Members) (except : List Uri) (one : Option (List Uri)) → (length except ≤ 64) ⊎ (has_key (codes "one") ms ≡ true) → IsSeen (codes "one") ms no_members one → one ≡ None → length except ≤ 64
few_by ms except one (inl few) seen e = few
few_by ms except None (inr there) seen e = absurd (absent (has_key (codes "one") ms) there seen)
few_by ms except (Some x) (inr there) seen e = absurd cc

pub who_ok : (ms : Members) (one : Option (List Uri)) (many : Option (List ℕ)) (except : List Uri) → IsCounted ms no_members except many one
    → AllByRecursion IsUriOfText except → IfSome many (λ domain. is_domain domain ≡ true) → IfSome one (λ uris. AllByRecursion IsUriOfText uris) → IfSome (who_of one many except) IsWho
who_ok ms None None except c e m o = tt
who_ok ms None (Some domain) except c e m o =
    let few = few_by ms except None c.alone c.one_seen refl in
    record { one = tt; many = m; except = e; partner = λ none. absurd cc; few = omega arith }
who_ok ms (Some uris) many except c e m o = record { one = o; many = m; except = e; partner = partner_by ms except many c.partner c.many_seen; few = c.few }
