-- What is read of clean bytes is clean.
use Rattle.std.proofs.Common.{◌≡◌, Bool, true, false, ℕ, List, [], ◌∷◌, ◌++◌, Option, Some, None, refl, subst, inl, inr}
use Rattle.std.specs.Prelude.{IfSome, codes, reverse, if◌then◌else◌}
use Rattle.std.specs.Option.{unwrap_or}
use Rattle.std.specs.List.{list_all, flat_map}
use Rattle.std.specs.Str.{str_eq_ignore_ascii_case}
use Rattle.std.proofs.lemmas.List.{reverse-append}
use Rattle.mmtel_base.specs.Chain.{◌>>=◌}
use Rattle.mmtel_base.specs.Scanning.{after_run, leading_run, without_trailing}
use Rattle.mmtel_base.specs.declared.classes.Class.{Class}
use Rattle.mmtel_base.specs.declared.classes.Class.TheVariants.{Blank}
use Rattle.mmtel_base.proofs.Runs.{and_true, run_whole}
use Rattle.mmtel_base.proofs.Trims.{trimmed_takes}
use Rattle.mmtel_lex.specs.Grammar.{IsNameAddr, display_text, name_addr_text, param_text, params_text, value_text}
use Rattle.mmtel_lex.specs.Params.{param_value}
use Rattle.mmtel_lex.specs.Reading.{name_addr_of}
use Rattle.mmtel_lex.specs.declared.values.NameAddr.{NameAddr}
use Rattle.mmtel_lex.specs.declared.values.Param.{Param}
use Rattle.mmtel_lex.proofs.NameAddrTheorems.{name_addr_takes}
use Rattle.mmtel_message.specs.Headers.{is_value_byte, trim}
use Rattle.mmtel_message.specs.Message.{Line, first_value, is_line, line_texts, line_values, lines_named, values_named}
use Rattle.mmtel_message.specs.Values.{base, is_separator, joined_by, mode_after, parts, put_byte, values_in}
use Rattle.mmtel_message.specs.declared.values.Mode.{Mode}
use Rattle.mmtel_trust.specs.ParsedMessage.{tag_of}
use Rattle.mmtel_call_theorems.specs.NoInjection.Messages.{HasNoInjection, HaveNoInjection, LinesHaveNoInjection, line_has_no_injection}
use Rattle.mmtel_call_theorems.proofs.NoInjection.Bytes.{all_append, all_cons, all_filter, all_flat, all_head, all_map, both, joined, line_parts, parted as cut}

-- ---- positions in a text

pub reverse_all : {A : Type 0} (p : A → Bool) (xs : List A) → list_all p xs ≡ true → list_all p (reverse xs) ≡ true
reverse_all p [] e = refl
reverse_all p (x ∷ xs) e =
    let halves = and_true (p x) (list_all p xs) e in
    let turned : reverse (x ∷ xs) ≡ reverse xs ++ x ∷ [] = reverse-append (x ∷ []) xs in
    rw turned (all_append p (reverse xs) (x ∷ []) (reverse_all p xs halves.1) (both (p x) true halves.0 refl))

pub run_no_injection : (k : Class) (s : List ℕ) → HasNoInjection s → HasNoInjection (leading_run k s)
run_no_injection k s e = (cut (leading_run k s) (after_run k s) (subst HasNoInjection (run_whole k s) e)).0

pub after_run_no_injection : (k : Class) (s : List ℕ) → HasNoInjection s → HasNoInjection (after_run k s)
after_run_no_injection k s e = (cut (leading_run k s) (after_run k s) (subst HasNoInjection (run_whole k s) e)).1

pub trimmed_no_injection : (k : Class) (s : List ℕ) → HasNoInjection s → HasNoInjection (without_trailing k s)
trimmed_no_injection k s e = let t = trimmed_takes k s in (cut (without_trailing k s) t.back (subst HasNoInjection t.whole e)).0

pub trim_no_injection : (s : List ℕ) → HasNoInjection s → HasNoInjection (trim s)
trim_no_injection s e = trimmed_no_injection Blank (after_run Blank s) (after_run_no_injection Blank s e)

-- ---- values of a header field

put_no_injection : (b : ℕ) (ls : List (List ℕ)) → is_value_byte b ≡ true → HaveNoInjection ls → HaveNoInjection (put_byte b ls)
put_no_injection b [] e f = both (list_all is_value_byte (b ∷ [])) true (both (is_value_byte b) true e refl) refl
put_no_injection b (l ∷ ls) e f =
    let halves = and_true (list_all is_value_byte l) (list_all (list_all is_value_byte) ls) f in
    both (list_all is_value_byte (b ∷ l)) (list_all (list_all is_value_byte) ls) (both (is_value_byte b) (list_all is_value_byte l) e halves.0) halves.1

pub parts_no_injection : (m : Mode) (s : List ℕ) → HasNoInjection s → HaveNoInjection (parts m s)
unfolding parts
parts_no_injection m [] e = refl
parts_no_injection m (b ∷ s) e =
    let halves = and_true (is_value_byte b) (list_all is_value_byte s) e in
    by (is_separator m b) (parts_no_injection (base m) s halves.1) (put_no_injection b (parts (mode_after m b) s) halves.0 (parts_no_injection (mode_after m b) s halves.1))
  where
    by : (t : Bool) → HaveNoInjection (parts (base m) s) → HaveNoInjection (put_byte b (parts (mode_after m b) s)) → HaveNoInjection (if t then [] ∷ parts (base m) s else put_byte b (parts (mode_after m b) s))
    by true f g = f
    by false f g = g

pub values_no_injection : (m : Mode) (s : List ℕ) → HasNoInjection s → HaveNoInjection (values_in m s)
values_no_injection m s e = all_map (list_all is_value_byte) (list_all is_value_byte) trim trim_no_injection (parts m s) (parts_no_injection m s e)

pub line_values_no_injection : (m : Mode) (name : List ℕ) (l : Line) → line_has_no_injection l ≡ true → HaveNoInjection (line_values m name l)
line_values_no_injection m name l e = by (is_line name l)
  where
    by : (t : Bool) → HaveNoInjection (if t then values_in m l.1 else [])
    by true = values_no_injection m l.1 (line_parts l e).1
    by false = refl

pub values_named_no_injection : (m : Mode) (name : List ℕ) (ls : List Line) → LinesHaveNoInjection ls → HaveNoInjection (values_named m name ls)
values_named_no_injection m name ls e = all_flat line_has_no_injection (list_all is_value_byte) (λ l. line_values m name l) (line_values_no_injection m name) ls e

pub named_no_injection : (name : List ℕ) (ls : List Line) → LinesHaveNoInjection ls → LinesHaveNoInjection (lines_named name ls)
named_no_injection name ls e = all_filter line_has_no_injection (λ l. is_line name l) ls e

pub texts_no_injection : (name : List ℕ) (ls : List Line) → LinesHaveNoInjection ls → HaveNoInjection (line_texts name ls)
texts_no_injection name ls e = all_map line_has_no_injection (list_all is_value_byte) (λ l. l.1) (λ l f. (line_parts l f).1) (lines_named name ls) (named_no_injection name ls e)

pub first_no_injection : (name : List ℕ) (ls : List Line) → LinesHaveNoInjection ls → IfSome (first_value name ls) HasNoInjection
first_no_injection name [] e = tt
first_no_injection name (l ∷ ls) e =
    let halves = and_true (line_has_no_injection l) (list_all line_has_no_injection ls) e in
    by (is_line name l) (line_parts l halves.0).1 (first_no_injection name ls halves.1)
  where
    by : (t : Bool) → HasNoInjection l.1 → IfSome (first_value name ls) HasNoInjection → IfSome (if t then Some l.1 else first_value name ls) HasNoInjection
    by true f g = f
    by false f g = g

pub or_no_injection : (o : Option (List ℕ)) → IfSome o HasNoInjection → HasNoInjection (unwrap_or o [])
or_no_injection None e = refl
or_no_injection (Some s) e = e

pub joined_by_no_injection : (between : List ℕ) (vs : List (List ℕ)) → HasNoInjection between → HaveNoInjection vs → HasNoInjection (joined_by between vs)
joined_by_no_injection between [] e f = refl
joined_by_no_injection between (v ∷ vs) e f =
    let halves = and_true (list_all is_value_byte v) (list_all (list_all is_value_byte) vs) f in
    joined v (flat_map (λ w. between ++ w) vs) halves.0 (all_flat (list_all is_value_byte) is_value_byte (λ w. between ++ w) (λ w g. joined between w e g) vs halves.1)

-- ---- name-addrs

pub record NameHasNoInjection (n : NameAddr) : Type 0 where
  pub display : HasNoInjection n.display
  pub uri : HasNoInjection n.uri
  pub params : HasNoInjection (params_text n.params)

pub name_no_injection : (s : List ℕ) (n : NameAddr) → name_addr_of s ≡ Some n → HasNoInjection s → NameHasNoInjection n
name_no_injection s n is e = by (name_addr_takes s n is)
  where
    by : IsNameAddr s n → NameHasNoInjection n
    by (inl a) =
        let one = cut n.display (a.gap ++ (60 ∷ (n.uri ++ 62 ∷ params_text n.params))) (subst HasNoInjection a.whole e) in
        let two = cut a.gap (60 ∷ (n.uri ++ 62 ∷ params_text n.params)) one.1 in
        let three = all_head is_value_byte 60 (n.uri ++ 62 ∷ params_text n.params) two.1 in
        let four = cut n.uri (62 ∷ params_text n.params) three.1 in
        record { display = one.0; uri = four.0; params = (all_head is_value_byte 62 (params_text n.params) four.1).1 }
    by (inr b) =
        let one = cut n.uri (params_text n.params) (subst HasNoInjection b.whole e) in
        record { display = rw b.no_display refl; uri = one.0; params = one.1 }

display_no_injection : (d : List ℕ) → HasNoInjection d → HasNoInjection (display_text d)
display_no_injection [] e = refl
display_no_injection (b ∷ d) e = joined (b ∷ d) (32 ∷ []) e refl

pub name_text_no_injection : (n : NameAddr) → HasNoInjection n.display → HasNoInjection n.uri → HasNoInjection (params_text n.params) → HasNoInjection (name_addr_text n)
name_text_no_injection n display uri params =
    joined (display_text n.display) (60 ∷ (n.uri ++ 62 ∷ params_text n.params)) (display_no_injection n.display display)
    (all_cons is_value_byte 60 (n.uri ++ 62 ∷ params_text n.params) refl (joined n.uri (62 ∷ params_text n.params) uri (all_cons is_value_byte 62 (params_text n.params) refl params)))

-- ---- parameters

pub param_text_parts : (p : Param) → HasNoInjection (param_text p) → HasNoInjection p.name × IfSome p.value HasNoInjection
param_text_parts p e =
    let one = cut p.name (value_text p.value) (all_head is_value_byte 59 (p.name ++ value_text p.value) e).1 in
    (one.0, by p.value one.1)
  where
    by : (v : Option (List ℕ)) → HasNoInjection (value_text v) → IfSome v HasNoInjection
    by None f = tt
    by (Some v) f = (all_head is_value_byte 61 v f).1

pub param_no_injection : (name : List ℕ) (ps : List Param) → HasNoInjection (params_text ps) → IfSome (param_value name ps) HasNoInjection
param_no_injection name [] e = tt
param_no_injection name (p ∷ ps) e =
    let halves = cut (param_text p) (params_text ps) e in
    by (str_eq_ignore_ascii_case p.name name) (param_text_parts p halves.0).1 (param_no_injection name ps halves.1)
  where
    by : (t : Bool) → IfSome p.value HasNoInjection → IfSome (param_value name ps) HasNoInjection → IfSome (if t then p.value else param_value name ps) HasNoInjection
    by true f g = f
    by false f g = g

pub tag_no_injection : (v : Option (List ℕ)) → IfSome v HasNoInjection → IfSome (tag_of v) HasNoInjection
tag_no_injection None e = tt
tag_no_injection (Some s) e = by (name_addr_of s) refl
  where
    by : (o : Option NameAddr) → name_addr_of s ≡ o → IfSome (o >>= λ n. param_value (codes "tag") n.params) HasNoInjection
    by None f = tt
    by (Some n) f = param_no_injection (codes "tag") n.params (name_no_injection s n f e).params
