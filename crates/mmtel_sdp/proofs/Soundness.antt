-- What holds for each medium of a description that was read.
use Rattle.std.proofs.Common.{◌≡◌, ◌==◌, ◌⊎◌, Bool, true, not, nat_lt, ◌&&◌, ◌||◌, ℕ, List, [], ◌∷◌, length, take, drop, Option, Some, None, refl, sym, ap, ◌∙◌, subst, inl, inr}
use Rattle.std.specs.Prelude.{codes}
use Rattle.std.specs.List.{list_all}
use Rattle.std.specs.Option.{option_or, unwrap_or}
use Rattle.std.specs.Str.{byte, bytes_eq}
use Rattle.std.proofs.lemmas.Bool.{cases_Bool}
use Rattle.mmtel_base.specs.Chain.{◌>>=◌}
use Rattle.mmtel_base.specs.Scanning.{after_byte, after_text}
use Rattle.mmtel_base.proofs.ChainTheorems.{bind_some, guard_some, where_some, unless_some, some_is}
use Rattle.mmtel_base.proofs.Runs.{and_true}
use Rattle.mmtel_sdp.specs.Lines.{lines_of}
use Rattle.mmtel_sdp.specs.Sdp.{is_medium, before_media, Section, sections, words, is_filled, MediaLine, media_line_in, media_line, first_of, attribute}
use Rattle.mmtel_sdp.specs.Sdp.{map_of, map_in, map_under, medium_from, medium_of, media_of, has_session_head, view_from, session_of, sdp_of}
use Rattle.mmtel_sdp.specs.declared.lines.Line.{Line}
use Rattle.mmtel_sdp.specs.declared.values.Medium.{Medium}
use Rattle.mmtel_sdp.specs.declared.values.SdpView.{SdpView}
use Rattle.mmtel_sdp.proofs.Plain.{plain_byte, IsPlain, plain_line, ArePlain, both_true, weaker, all_behind, parts_pass, lines_plain}

abbrev pub word_byte : ℕ → Bool
word_byte b = plain_byte b && not (b == 32)

-- a word of an m line
abbrev pub is_word : List ℕ → Bool
is_word word = is_filled word && list_all word_byte word

pub record IsMapOf (format map : List ℕ) : Type 0 where
  pub of_format : map_of format map ≡ Some map
  pub plain : IsPlain map

abbrev pub IsMap : List ℕ → List ℕ → Type 0
IsMap format map = (map ≡ []) ⊎ IsMapOf format map

pub record IsSound (medium : Medium) : Type 0 where
  pub kind : is_word medium.kind ≡ true
  pub proto : is_word medium.proto ≡ true
  pub format : is_word medium.format ≡ true
  pub map : IsMap medium.format medium.map

abbrev pub AreSound : List Medium → Type 0
AreSound [] = Unit {0}
AreSound (medium ∷ media) = IsSound medium × AreSound media

-- ---- the m line

pub record IsStated (said : MediaLine) : Type 0 where
  pub kind : is_word said.kind ≡ true
  pub proto : is_word said.proto ≡ true
  pub format : is_word said.format ≡ true

blank_or_word : (c : ℕ) → plain_byte c ≡ true → (c == 32 || word_byte c) ≡ true
blank_or_word c e = elim (cases_Bool (c == 32)) [ inl y ↦ rw y refl | inr n ↦ rw (n, e) refl ]

words_in : (head : List ℕ) → IsPlain head → list_all (λ part. list_all word_byte part) (words head) ≡ true
unfolding words
words_in head plain = parts_pass 32 word_byte head (weaker plain_byte (λ c. c == 32 || word_byte c) blank_or_word head plain)

abbrev all_filled : List (List ℕ) → Bool
all_filled ws = list_all is_filled ws

abbrev all_of_words : List (List ℕ) → Bool
all_of_words ws = list_all (λ part. list_all word_byte part) ws

stated_in : (ws : List (List ℕ)) (said : MediaLine) → all_filled ws ≡ true → all_of_words ws ≡ true → media_line_in ws ≡ Some said → IsStated said
stated_in [] said filled each is = absurd cc
stated_in (kind ∷ []) said filled each is = absurd cc
stated_in (kind ∷ port ∷ []) said filled each is = absurd cc
stated_in (kind ∷ port ∷ proto ∷ []) said filled each is = absurd cc
stated_in (kind ∷ port ∷ proto ∷ format ∷ formats) said filled each is =
    let f1 = and_true (is_filled kind) (all_filled (port ∷ proto ∷ format ∷ formats)) filled in
    let f2 = and_true (is_filled port) (all_filled (proto ∷ format ∷ formats)) f1.1 in
    let f3 = and_true (is_filled proto) (all_filled (format ∷ formats)) f2.1 in
    let f4 = and_true (is_filled format) (all_filled formats) f3.1 in
    let e1 = and_true (list_all word_byte kind) (all_of_words (port ∷ proto ∷ format ∷ formats)) each in
    let e2 = and_true (list_all word_byte port) (all_of_words (proto ∷ format ∷ formats)) e1.1 in
    let e3 = and_true (list_all word_byte proto) (all_of_words (format ∷ formats)) e2.1 in
    let e4 = and_true (list_all word_byte format) (all_of_words formats) e3.1 in
    let here : IsStated (record { kind = kind; port = port; proto = proto; format = format }) = record { kind = both_true _ _ f1.0 e1.0; proto = both_true _ _ f3.0 e3.0; format = both_true _ _ f4.0 e4.0 } in
    subst (λ (s : MediaLine). IsStated s) (some_is (record { kind = kind; port = port; proto = proto; format = format }) said is) here

pub stated_sound : (head : List ℕ) (said : MediaLine) → IsPlain head → media_line head ≡ Some said → IsStated said
unfolding media_line
stated_sound head said plain is =
    let both = where_some (all_filled (words head)) (media_line_in (words head)) said is in
    stated_in (words head) said both.0 (words_in head plain) both.1

-- ---- the rtpmap

behind_plain : (front s rest : List ℕ) → IsPlain s → after_text front s ≡ Some rest → IsPlain rest
behind_plain front s rest plain is =
    let one = unless_some (nat_lt (length s) (length front)) _ rest is in
    let two = guard_some (bytes_eq (take (length front) s) front) (drop (length front) s) rest one.1 in
    subst (λ (t : List ℕ). IsPlain t) two.1 (all_behind plain_byte (length front) s plain)

attribute_plain : (line : Line) (value : List ℕ) → plain_line line ≡ true → attribute line ≡ Some value → IsPlain value
attribute_plain line value plain is =
    let same = guard_some (line.letter == byte "a") line.value value is in
    subst (λ (t : List ℕ). IsPlain t) same.1 (and_true (plain_byte line.letter) (list_all plain_byte line.value) plain).1

map_is : (format map other : List ℕ) → map_of format map ≡ Some other → map ≡ other
unfolding map_of
map_is format map other is =
    let x = bind_some (after_text format map) (λ rest. after_byte 32 rest >>= λ more. Some map) other is in
    let y = bind_some (after_byte 32 x.0) (λ more. Some map) other x.2 in
    some_is map other y.2

map_takes : (format : List ℕ) (line : Line) (map : List ℕ) → plain_line line ≡ true → map_in format line ≡ Some map → IsMapOf format map
unfolding map_in
map_takes format line map plain is =
    let x = bind_some (attribute line) (λ value. after_text (codes "rtpmap:") value >>= λ m. map_of format m) map is in
    let y = bind_some (after_text (codes "rtpmap:") x.0) (λ m. map_of format m) map x.2 in
    let here : IsMapOf format y.0 = record { of_format = y.2 ∙ ap (λ (m : List ℕ). Some m) (sym (map_is format y.0 map y.2)); plain = behind_plain (codes "rtpmap:") x.0 y.0 (attribute_plain line x.0 plain x.1) y.1 } in
    subst (λ (m : List ℕ). IsMapOf format m) (map_is format y.0 map y.2) here

or_takes : {A : Type 0} (o p : Option A) (x : A) → option_or o p ≡ Some x → (o ≡ Some x) ⊎ (p ≡ Some x)
or_takes (Some y) p x e = inl e
or_takes None p x e = inr e

first_takes : (format : List ℕ) (lines : List Line) (map : List ℕ) → ArePlain lines → first_of (λ line. map_in format line) lines ≡ Some map → IsMapOf format map
first_takes format [] map plain is = absurd cc
first_takes format (line ∷ lines) map plain is =
    let both = and_true (plain_line line) (list_all plain_line lines) plain in
    elim (or_takes (map_in format line) (first_of (λ l. map_in format l) lines) map is) [
      | inl here ↦ map_takes format line map both.0 here
      | inr later ↦ first_takes format lines map both.1 later
    ]

map_from : (format : List ℕ) (o : Option (List ℕ)) → ((map : List ℕ) → o ≡ Some map → IsMapOf format map) → IsMap format (unwrap_or o [])
map_from format None takes = inl refl
map_from format (Some map) takes = inr (takes map refl)

map_sound : (format : List ℕ) (lines : List Line) → ArePlain lines → IsMap format (map_under format lines)
map_sound format lines plain = map_from format (first_of (λ line. map_in format line) lines) (λ map is. first_takes format lines map plain is)

-- ---- the media

abbrev plain_part : Section → Bool
plain_part part = list_all plain_byte part.head && list_all plain_line part.under

before_plain : (lines : List Line) → ArePlain lines → ArePlain (before_media lines)
before_plain [] plain = refl
before_plain (line ∷ lines) plain =
    let both = and_true (plain_line line) (list_all plain_line lines) plain in
    elim (cases_Bool (is_medium line)) [
      | inl y ↦ rw y refl
      | inr n ↦ rw n (both_true _ _ both.0 (before_plain lines both.1))
    ]

parts_plain : (lines : List Line) → ArePlain lines → list_all plain_part (sections lines) ≡ true
parts_plain [] plain = refl
parts_plain (line ∷ lines) plain =
    let both = and_true (plain_line line) (list_all plain_line lines) plain in
    let value = and_true (plain_byte line.letter) (list_all plain_byte line.value) both.0 in
    elim (cases_Bool (is_medium line)) [
      | inl y ↦ rw y (both_true _ _ (both_true _ _ value.1 (before_plain lines both.1)) (parts_plain lines both.1))
      | inr n ↦ rw n (parts_plain lines both.1)
    ]

medium_sound : (under : List Line) (head : List ℕ) (o : Option MediaLine) (medium : Medium) → ArePlain under → IsPlain head → media_line head ≡ o → medium_from under o ≡ Some medium → IsSound medium
medium_sound under head None medium plain all e is = absurd cc
medium_sound under head (Some said) medium plain all e is =
    let words = stated_sound head said all e in
    let made : Medium = record { kind = said.kind; proto = said.proto; format = said.format; map = map_under said.format under } in
    let here : IsSound (record { kind = said.kind; proto = said.proto; format = said.format; map = map_under said.format under }) =
    record { kind = words.kind; proto = words.proto; format = words.format; map = map_sound said.format under plain } in
    subst (λ (m : Medium). IsSound m) (some_is (record { kind = said.kind; proto = said.proto; format = said.format; map = map_under said.format under }) medium is) here

media_sound : (parts : List Section) (media : List Medium) → list_all plain_part parts ≡ true → media_of parts ≡ Some media → AreSound media
media_sound [] media plain is = subst (λ (ms : List Medium). AreSound ms) (some_is [] media is) tt
media_sound (part ∷ parts) media plain is =
    let both = and_true (plain_part part) (list_all plain_part parts) plain in
    let here = and_true (list_all plain_byte part.head) (list_all plain_line part.under) both.0 in
    let x = bind_some (medium_of part) (λ medium. media_of parts >>= λ more. Some (medium ∷ more)) media is in
    let y = bind_some (media_of parts) (λ more. Some (x.0 ∷ more)) media x.2 in
    subst (λ (ms : List Medium). AreSound ms) (some_is (x.0 ∷ y.0) media y.2) (medium_sound part.under part.head (media_line part.head) x.0 here.1 here.0 refl x.1, media_sound parts y.0 both.1 y.1)

view_sound : (lines : List Line) (o : Option (List Medium)) (view : SdpView) → ((media : List Medium) → o ≡ Some media → AreSound media) → view_from lines o ≡ Some view → AreSound view.media
view_sound lines None view sound is = absurd cc
view_sound lines (Some []) view sound is = absurd cc
view_sound lines (Some (medium ∷ media)) view sound is = let same : medium ∷ media ≡ view.media = cc in subst (λ (ms : List Medium). AreSound ms) same (sound (medium ∷ media) refl)

session_sound : (lines : List Line) (view : SdpView) → ArePlain lines → session_of lines ≡ Some view → AreSound view.media
unfolding session_of
session_sound lines view plain is =
    let both = where_some (has_session_head lines) (view_from lines (media_of (sections lines))) view is in
    view_sound lines (media_of (sections lines)) view (λ media e. media_sound (sections lines) media (parts_plain lines plain) e) both.1

pub sdp_sound : (body : List ℕ) (view : SdpView) → sdp_of body ≡ Some view → AreSound view.media
unfolding sdp_of
sdp_sound body view is =
    let x = bind_some (lines_of body) (λ lines. session_of lines) view is in
    session_sound x.0 view (lines_plain body x.0 x.1) x.2
