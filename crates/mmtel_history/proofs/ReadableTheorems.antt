-- Entries that can be written and read again stay so.
use Rattle.std.proofs.Common.{◌≡◌, ◌==◌, Bool, true, false, ◌||◌, ℕ, zero, suc, ◌-◌, ◌≤◌, ◌<◌, List, [], ◌∷◌, ◌++◌, length, Option, Some, None, Result, Ok, Err, refl, sym, subst, ◌∙◌, arith, inl, inr, nat_lt}
use Rattle.std.specs.Option.{option_map_or}
use Rattle.std.specs.Prelude.{codes, decimal, slice_get, option_to_list, IfOk}
use Rattle.std.specs.List.{list_all, find}
use Rattle.std.proofs.lemmas.Bool.{cases_Bool}
use Rattle.std.proofs.lemmas.Bool.Decides.{nat_tests}
use Rattle.std.proofs.lemmas.List.{length-append}
use Rattle.std.proofs.lemmas.List.Folds.{list_all-append}
use Rattle.mmtel_base.specs.Classes.{in_class, IsAll}
use Rattle.mmtel_base.specs.Numbers.{number_of}
use Rattle.mmtel_base.specs.Scanning.{split_once_at}
use Rattle.mmtel_base.specs.declared.classes.Class.TheVariants.{Digit, UriByte, BareByte}
use Rattle.mmtel_base.proofs.ChainTheorems.{bind_some, guard_some, some_is, unless_some, where_some}
use Rattle.mmtel_base.proofs.NumberTheorems.{number_takes}
use Rattle.mmtel_base.proofs.Runs.{and_true, wider, split_takes}
use Rattle.mmtel_lex.specs.Grammar.{params_text, AreParams, IsNameAddr}
use Rattle.mmtel_lex.specs.Params.{param_value}
use Rattle.mmtel_lex.specs.Reading.{name_addr_of}
use Rattle.mmtel_lex.specs.declared.values.NameAddr.{NameAddr}
use Rattle.mmtel_lex.proofs.NameAddrTheorems.{name_addr_takes}
use Rattle.mmtel_message.specs.Entries.{is_dotted, is_indexed}
use Rattle.mmtel_lex.specs.UriParts.{prefix_or_all, user_part, host_part, host_and_params, uri_params}
use Rattle.mmtel_history.specs.EntryUri.{is_cause, cause_in, cause_number, from_hundred, cause_of, hides, is_marked, headers_from, host_part_without_causes, with_host_part, cause_text, with_cause}
use Rattle.mmtel_history.specs.HistoryInfo.{index_of, without_index, entry_with, entry_in, entry_of, entries_of, anonymous, masked_uri, masked_list, hidden_entry, list_marked_at}
use Rattle.mmtel_history.specs.HistoryInfo.{list_hidden_if, with_first_entry, last_index, target_entry, with_target, list_after_diversion, IsReadable, AreReadable, IsUriText, IsTarget}
use Rattle.mmtel_history.specs.declared.entries.Entry.{Entry}
use Rattle.mmtel_history.proofs.CauseTheorems.{cause_theorem, cause_keeps_mark, decimal_digits}
use Rattle.mmtel_history.proofs.HostPartTheorems.{plain_all}
use Rattle.mmtel_history.proofs.IndexTheorems.{dotted_more, index_dotted, others_readable}
use Rattle.mmtel_lex.proofs.UriPartTheorems.{whole_uri}

-- ---- what was read

bare_uri : (b : ℕ) → in_class BareByte b ≡ true → in_class UriByte b ≡ true
unfolding in_class
bare_uri b e = grind (arith, nat_tests)

uri_by : (s : List ℕ) (n : NameAddr) → IsNameAddr s n → IsUriText n.uri
uri_by s n (inl is) = is.uri_in
uri_by s n (inr is) = record { filled = is.uri_in.filled; each = wider BareByte UriByte bare_uri n.uri is.uri_in.each }

params_by : (s : List ℕ) (n : NameAddr) → IsNameAddr s n → AreParams n.params
params_by s n (inl is) = is.params_in
params_by s n (inr is) = is.params_in

entry_readable : (s : List ℕ) (n : NameAddr) (e : Entry) → IsNameAddr s n → entry_in n ≡ Some e → IsReadable e
entry_readable s n e is made =
    let g = guard_some (is_indexed (Some n)) (entry_with n.uri (index_of n.params) (params_text (without_index n.params))) e made in
    subst (λ (x : Entry). IsReadable x) g.1
    (record {
      uri = uri_by s n is;
      index = index_dotted (param_value (codes "index") n.params) g.0;
      cause = refl;
      mark = λ m. m;
      rest = (without_index n.params, refl, others_readable n.params (params_by s n is));
    })

pub read_readable : (s : List ℕ) (e : Entry) → entry_of s ≡ Some e → IsReadable e
unfolding entry_of
read_readable s e read =
    let b = bind_some (name_addr_of s) entry_in e read in
    entry_readable s b.0 e (name_addr_takes s b.0 b.1) b.2

pub readable_append : (h g : List Entry) → AreReadable h → AreReadable g → AreReadable (h ++ g)
readable_append [] g are more = more
readable_append (e ∷ h) g are more = (are.0, readable_append h g are.1 more)

one_readable : (s : List ℕ) (o : Option Entry) → entry_of s ≡ o → AreReadable (option_to_list o)
one_readable s None e = tt
one_readable s (Some x) e = (read_readable s x e, tt)

pub entries_readable : (vs : List (List ℕ)) → AreReadable (entries_of vs)
entries_readable [] = tt
entries_readable (v ∷ vs) = readable_append (option_to_list (entry_of v)) (entries_of vs) (one_readable v (entry_of v) refl) (entries_readable vs)

-- ---- marks

hidden_readable : (e : Entry) → IsReadable e → IsReadable (hidden_entry e)
hidden_readable e is = record { uri = is.uri; index = is.index; cause = is.cause; mark = λ m. refl; rest = is.rest }

pub marked_readable : (h : List Entry) (n : ℕ) → AreReadable h → AreReadable (list_marked_at n h)
marked_readable [] n are = tt
marked_readable (e ∷ h) zero are = (hidden_readable e are.0, are.1)
marked_readable (e ∷ h) (suc n) are = (are.0, marked_readable h n are.1)

pub hidden_if_readable : (hide : Bool) (h : List Entry) (n : ℕ) → AreReadable h → AreReadable (list_hidden_if hide n h)
hidden_if_readable true h n are = marked_readable h n are
hidden_if_readable false h n are = are

-- ---- targets

first_readable : (from : List ℕ) → IsUriText from → IsReadable (entry_with from (codes "1") [])
unfolding is_dotted in_class
first_readable from is = record { uri = is; index = refl; cause = refl; mark = λ m. m; rest = ([], refl, tt) }

pub started_readable : (h : List Entry) (from : List ℕ) → IsUriText from → AreReadable h → AreReadable (with_first_entry from h)
started_readable [] from is are = (first_readable from is, tt)
started_readable (e ∷ h) from is are = are

digit_uri : (b : ℕ) → in_class Digit b ≡ true → in_class UriByte b ≡ true
unfolding in_class
digit_uri b e = grind (arith, nat_tests)

both_all : (s t : List ℕ) → IsAll UriByte s → IsAll UriByte t → IsAll UriByte (s ++ t)
both_all s t x y = rw (list_all-append, x, y) refl

split_all : (s t : List ℕ) → IsAll UriByte (s ++ t) → IsAll UriByte s × IsAll UriByte t
split_all s t all = and_true (list_all (in_class UriByte) s) (list_all (in_class UriByte) t) (rw list_all-append at all)

cause_word : IsAll UriByte (codes ";cause=")
unfolding in_class
cause_word = refl

semicolon : in_class UriByte 59 ≡ true
unfolding in_class
semicolon = refl

front_all : (h : List ℕ) (o : Option (List ℕ × List ℕ)) → split_once_at 63 h ≡ o → IsAll UriByte h → IsAll UriByte (prefix_or_all h o)
front_all h None e all = all
front_all h (Some x) e all = (split_all x.0 (63 ∷ x.1) (rw (split_takes 63 h x e) at all)).0

headers_all : (h : List ℕ) (o : Option (List ℕ × List ℕ)) → split_once_at 63 h ≡ o → IsAll UriByte h → IsAll UriByte (headers_from o)
headers_all h None e all = refl
headers_all h (Some x) e all = (split_all x.0 (63 ∷ x.1) (rw (split_takes 63 h x e) at all)).1

put_all : (u f : List ℕ) → IsAll UriByte u → IsAll UriByte f → IsAll UriByte (with_host_part f u)
put_all u f all front =
    let whole : IsAll UriByte (user_part u ++ host_part u) = subst (λ (l : List ℕ). IsAll UriByte l) (whole_uri u) all in
    let both = split_all (user_part u) (host_part u) whole in
    both_all (user_part u) (f ++ headers_from (split_once_at 63 (host_part u))) both.0
    (both_all f (headers_from (split_once_at 63 (host_part u))) front (headers_all (host_part u) (split_once_at 63 (host_part u)) refl both.1))

own_front : (u : List ℕ) → IsAll UriByte u → IsAll UriByte (host_part_without_causes (host_and_params u))
own_front u all =
    let whole : IsAll UriByte (user_part u ++ host_part u) = subst (λ (l : List ℕ). IsAll UriByte l) (whole_uri u) all in
    plain_all (in_class UriByte) (host_and_params u) semicolon (front_all (host_part u) (split_once_at 63 (host_part u)) refl (split_all (user_part u) (host_part u) whole).1)

put_filled : (p f h : List ℕ) (n : ℕ) → 0 < length (p ++ ((f ++ cause_text (Some n)) ++ h))
put_filled p f h n = omega (arith, length-append p ((f ++ cause_text (Some n)) ++ h), length-append (f ++ cause_text (Some n)) h, length-append f (cause_text (Some n)), length-append (codes ";cause=") (decimal n))

pub caused_text : (n : ℕ) (u : List ℕ) → n < 65536 → IsUriText u → IsUriText (with_cause n u)
unfolding with_cause
caused_text n u lt is =
    let digits : IsAll UriByte (decimal n) = wider Digit UriByte digit_uri (decimal n) (decimal_digits n lt) in
    let text : IsAll UriByte (cause_text (Some n)) = both_all (codes ";cause=") (decimal n) cause_word digits in
    record {
      filled = put_filled (user_part u) (host_part_without_causes (host_and_params u)) (headers_from (split_once_at 63 (host_part u))) n;
      each = put_all u (host_part_without_causes (host_and_params u) ++ cause_text (Some n)) is.each (both_all (host_part_without_causes (host_and_params u)) (cause_text (Some n)) (own_front u is.each) text);
    }

position_dotted : (h : List Entry) (n : ℕ) → n < length h → AreReadable h → is_dotted false (option_map_or (λ e. e.index) (slice_get h n) []) ≡ true
position_dotted [] n lt are = absurd (omega arith)
position_dotted (e ∷ h) zero lt are = are.0.index
position_dotted (e ∷ h) (suc n) lt are = position_dotted h n (omega arith) are.1

last_dotted : (h : List Entry) → 0 < length h → AreReadable h → is_dotted false (last_index h) ≡ true
last_dotted h filled are = position_dotted h (length h - 1) (omega arith) are

target_readable : (index target : List ℕ) (cause : ℕ) → is_dotted false index ≡ true → IsTarget target cause → IsReadable (target_entry index target cause)
target_readable index target cause dotted is =
    let lt : cause < 65536 = omega (arith, is.high) in
    record {
      uri = caused_text cause target lt is.uri;
      index = dotted_more index dotted;
      cause = sym (cause_theorem cause target is.low is.high);
      mark = λ m. m;
      rest = ([], refl, tt);
    }

with_readable : (h : List Entry) (target : List ℕ) (cause : ℕ) (hide : Bool) → 0 < length h → AreReadable h → IsTarget target cause → AreReadable (with_target h target cause hide)
with_readable h target cause hide filled are is =
    readable_append (list_hidden_if hide (length h - 1) h) (target_entry (last_index h) target cause ∷ []) (hidden_if_readable hide h (length h - 1) are)
    (target_readable (last_index h) target cause (last_dotted h filled are) is, tt)

started_filled : (from : List ℕ) (h : List Entry) → 0 < length (with_first_entry from h)
started_filled from [] = omega arith
started_filled from (e ∷ h) = omega arith

pub appended_readable : (h : List Entry) (from target : List ℕ) (cause : ℕ) (hide : Bool) → AreReadable h → IsUriText from → IsTarget target cause → AreReadable (list_after_diversion h from target cause hide)
unfolding list_after_diversion
appended_readable h from target cause hide are first is = with_readable (with_first_entry from h) target cause hide (started_filled from h) (started_readable h from first are) is

-- ---- masks

anonymous_text : IsUriText anonymous
unfolding in_class
anonymous_text = record { filled = omega arith; each = refl }

anonymous_cause : cause_of anonymous ≡ None
unfolding cause_of host_part split_once_at
anonymous_cause = refl

anonymous_mark : is_marked anonymous ≡ false
unfolding is_marked host_part split_once_at hides
anonymous_mark = refl

pub record InRange (n : ℕ) : Type 0 where
  pub low : 100 ≤ n
  pub high : n ≤ 699

range_of : (o : Option ℕ) (n : ℕ) → ((m : ℕ) → o ≡ Some m → m ≤ 699) → from_hundred o ≡ Some n → InRange n
range_of None n le e = absurd cc
range_of (Some m) n le e =
    let g = unless_some (nat_lt m 100) (Some m) n e in
    let same : m ≡ n = some_is m n g.1 in
    let high : m ≤ 699 = le m refl in
    record { low = grind (arith, nat_tests, g.0, same); high = omega (arith, same) }

number_range : (d : List ℕ) (n : ℕ) → cause_number d ≡ Some n → InRange n
unfolding cause_number
number_range d n e =
    let g = where_some (length d == 3) (from_hundred (number_of 699 d)) n e in
    range_of (number_of 699 d) n (λ m h. (number_takes 699 d m h).1) g.1

cause_range : (o : Option (List ℕ)) (n : ℕ) → cause_in o ≡ Some n → InRange n
cause_range None n e = absurd cc
cause_range (Some p) n e = number_range _ n e

pub range_by : (u : List ℕ) (n : ℕ) → cause_of u ≡ Some n → InRange n
unfolding cause_of
range_by u n e = cause_range (find is_cause (uri_params u)) n e

nobody_readable : (e : Entry) (c : Option ℕ) → e.cause ≡ c → IsReadable e → IsReadable (record { uri = masked_uri c; index = e.index; cause = c; hidden = false; rest = e.rest })
nobody_readable e None same is = record { uri = anonymous_text; index = is.index; cause = sym anonymous_cause; mark = λ m. absurd (let f = anonymous_mark in cc); rest = is.rest }
nobody_readable e (Some n) same is =
    let range = range_by e.uri n (sym is.cause ∙ same) in
    let lt : n < 65536 = omega (arith, range.high) in
    let unmarked : is_marked (with_cause n anonymous) ≡ false = cause_keeps_mark n anonymous lt ∙ anonymous_mark in
    record { uri = caused_text n anonymous lt anonymous_text; index = is.index; cause = sym (cause_theorem n anonymous range.low range.high); mark = λ m. absurd (let f = unmarked in cc); rest = is.rest }

pub masked_readable : (all : Bool) (h : List Entry) → AreReadable h → AreReadable (masked_list all h)
masked_readable all [] are = tt
masked_readable all (e ∷ h) are =
    elim (cases_Bool (all || e.hidden)) [
      | inl y ↦ rw y (nobody_readable e e.cause refl are.0, masked_readable all h are.1)
      | inr n ↦ rw n (are.0, masked_readable all h are.1)
    ]

pub if_ok_by : {X E : Type 0} {P Q : X → Type 0} (r : Result X E) → IfOk r P → ((x : X) → P x → Q x) → IfOk r Q
if_ok_by (Ok x) h f = f x h
if_ok_by (Err e) h f = tt
