-- What the mixer's texts say when they are read.
use Rattle.std.proofs.Common.{◌≡◌, ◌==◌, true, false, not, nat_lt, ℕ, List, [], ◌∷◌, ◌++◌, map, length, get_or, Some, None, if◌then◌else◌, refl, ap, ◌∙◌, inl, inr, arith}
use Rattle.std.specs.Prelude.{codes, decimal}
use Rattle.std.specs.List.{list_all, flat_map}
use Rattle.std.specs.Str.{byte, bytes_eq}
use Rattle.std.proofs.lemmas.List.{length-append, take_at, drop_at}
use Rattle.std.proofs.lemmas.List.Folds.{list_all-append}
use Rattle.std.proofs.lemmas.Bool.{cases_Bool}
use Rattle.std.proofs.lemmas.Bool.Decides.{nat_tests}
use Rattle.mmtel_base.specs.Scanning.{IsFree, after_text}
use Rattle.mmtel_base.proofs.Runs.{and_true, split_again}
use Rattle.mmtel_sdp.specs.Sdp.{before_media, Section, sections, words, is_filled, first_word, media_line, first_of, map_of, map_in, map_under}
use Rattle.mmtel_sdp.specs.Sdp.{direction_word, direction_in, under_audio, is_audio, medium_of, media_of, has_session_head, session_of, sdp_of}
use Rattle.mmtel_sdp.specs.Mixer.{line, ip_text, session_lines, media_value, direction_text, offer_lines, offer_text, map_lines, accepted_lines, refused_lines, answer_direction}
use Rattle.mmtel_sdp.specs.Mixer.{answer_media_lines, answer_lines, answer_text, has_audio, without_map, answer_media, answer_view, offer_view, ports_in, ports_of, ports_of_answer}
use Rattle.mmtel_sdp.specs.declared.lines.Line.{Line}
use Rattle.mmtel_sdp.specs.declared.values.Direction.{Direction}
use Rattle.mmtel_sdp.specs.declared.values.Direction.TheVariants.{SendRecv, SendOnly, RecvOnly, Inactive}
use Rattle.mmtel_sdp.specs.declared.values.Medium.{Medium}
use Rattle.mmtel_sdp.specs.declared.values.Mixer.{Mixer}
use Rattle.mmtel_sdp.specs.declared.values.SdpView.{SdpView}
use Rattle.mmtel_sdp.proofs.Parts.{cut_more, cut_free, stated}
use Rattle.mmtel_sdp.proofs.Plain.{plain_byte, IsPlain, ArePlain, both_true, plain_line, weaker, all_both, lines_again}
use Rattle.mmtel_sdp.proofs.Decimals.{decimal_word}
use Rattle.mmtel_sdp.proofs.Soundness.{word_byte, is_word, IsMap, IsSound, AreSound, sdp_sound}

-- ---- words

word_is_plain : (b : ℕ) → word_byte b ≡ true → plain_byte b ≡ true
word_is_plain b e = (and_true (plain_byte b) (not (b == 32)) e).0

word_not_blank : (b : ℕ) → word_byte b ≡ true → not (b == 32) ≡ true
word_not_blank b e = (and_true (plain_byte b) (not (b == 32)) e).1

word_plain : (word : List ℕ) → is_word word ≡ true → IsPlain word
word_plain word e = weaker word_byte plain_byte word_is_plain word (and_true (is_filled word) (list_all word_byte word) e).1

word_free : (word : List ℕ) → is_word word ≡ true → IsFree 32 word
word_free word e = weaker word_byte (λ b. not (b == 32)) word_not_blank word (and_true (is_filled word) (list_all word_byte word) e).1

words_more : (word more : List ℕ) → is_word word ≡ true → words (word ++ 32 ∷ more) ≡ word ∷ words more
unfolding words
words_more word more e = cut_more 32 (word ++ 32 ∷ more) (word, more) (split_again 32 word more (word_free word e))

words_one : (word : List ℕ) → is_word word ≡ true → words word ≡ word ∷ []
unfolding words
words_one word e = cut_free 32 word (word_free word e)

-- ---- the m line

record AreWords (kind port proto : List ℕ) : Type 0 where
  kind_is : is_word kind ≡ true
  port_is : is_word port ≡ true
  proto_is : is_word proto ≡ true

filled_word : (word : List ℕ) → is_word word ≡ true → is_filled word ≡ true
filled_word word e = (and_true (is_filled word) (list_all word_byte word) e).0

value_words : (kind port proto formats : List ℕ) → AreWords kind port proto → words (media_value kind port proto formats) ≡ kind ∷ (port ∷ (proto ∷ words formats))
unfolding media_value
value_words kind port proto formats are =
    words_more kind (port ++ 32 ∷ (proto ++ 32 ∷ formats)) are.kind_is
    ∙ ap (λ (ws : List (List ℕ)). kind ∷ ws) (words_more port (proto ++ 32 ∷ formats) are.port_is ∙ ap (λ (ws : List (List ℕ)). port ∷ ws) (words_more proto formats are.proto_is))

value_stated : (kind port proto formats first : List ℕ) (more : List (List ℕ)) → AreWords kind port proto → words formats ≡ first ∷ more → list_all is_filled (first ∷ more) ≡ true →
    media_line (media_value kind port proto formats) ≡ stated kind port proto first
unfolding media_line
value_stated kind port proto formats first more are is filled =
    let whole : words (media_value kind port proto formats) ≡ kind ∷ (port ∷ (proto ∷ (first ∷ more))) = rw (value_words kind port proto formats are, is) refl in
    let all : list_all is_filled (kind ∷ (port ∷ (proto ∷ (first ∷ more)))) ≡ true =
    both_true (is_filled kind) _ (filled_word kind are.kind_is) (both_true (is_filled port) _ (filled_word port are.port_is) (both_true (is_filled proto) _ (filled_word proto are.proto_is) filled)) in
    rw (whole, all) refl

value_kind : (kind port proto formats : List ℕ) → AreWords kind port proto → first_word (words (media_value kind port proto formats)) ≡ kind
value_kind kind port proto formats are = rw (value_words kind port proto formats are) refl

value_plain : (kind port proto formats : List ℕ) → AreWords kind port proto → IsPlain formats → IsPlain (media_value kind port proto formats)
unfolding media_value
value_plain kind port proto formats are plain =
    all_both plain_byte kind (32 ∷ (port ++ 32 ∷ (proto ++ 32 ∷ formats))) (word_plain kind are.kind_is)
    (all_both plain_byte port (32 ∷ (proto ++ 32 ∷ formats)) (word_plain port are.port_is) (all_both plain_byte proto (32 ∷ formats) (word_plain proto are.proto_is) plain))

medium_words : (medium : Medium) (port : ℕ) → IsSound medium → AreWords medium.kind (decimal port) medium.proto
medium_words medium port sound = record { kind_is = sound.kind; port_is = decimal_word port; proto_is = sound.proto }

abbrev head_of : ℕ → Medium → List ℕ
head_of port medium = media_value medium.kind (decimal port) medium.proto medium.format

one_filled : (word : List ℕ) → is_word word ≡ true → list_all is_filled (word ∷ []) ≡ true
one_filled word e = rw (filled_word word e) refl

head_stated : (port : ℕ) (medium : Medium) → IsSound medium → media_line (head_of port medium) ≡ stated medium.kind (decimal port) medium.proto medium.format
head_stated port medium sound =
    value_stated medium.kind (decimal port) medium.proto medium.format medium.format [] (medium_words medium port sound) (words_one medium.format sound.format) (one_filled medium.format sound.format)

-- ---- the lines after it

direction_plain : (direction : Direction) → IsPlain (direction_text direction)
unfolding direction_text
direction_plain SendRecv = refl
direction_plain SendOnly = refl
direction_plain RecvOnly = refl
direction_plain Inactive = refl

direction_again : (direction : Direction) → direction_word (direction_text direction) ≡ Some direction
unfolding direction_text direction_word
direction_again SendRecv = refl
direction_again SendOnly = refl
direction_again RecvOnly = refl
direction_again Inactive = refl

direction_no_map : (format : List ℕ) (direction : Direction) → map_in format (line (byte "a") (direction_text direction)) ≡ None
unfolding direction_text map_in
direction_no_map format SendRecv = refl
direction_no_map format SendOnly = refl
direction_no_map format RecvOnly = refl
direction_no_map format Inactive = refl

map_no_direction : (rest : List ℕ) → direction_word (codes "rtpmap:" ++ rest) ≡ None
unfolding direction_word
map_no_direction rest = refl

bytes_same : (s : List ℕ) → bytes_eq s s ≡ true
bytes_same [] = refl
bytes_same (c ∷ s) = let same : (c == c) ≡ true = grind (arith, nat_tests) in rw same (bytes_same s)

text_again : (front rest : List ℕ) → after_text front (front ++ rest) ≡ Some rest
text_again front rest =
    let long_enough : nat_lt (length (front ++ rest)) (length front) ≡ false = grind (arith, nat_tests, length-append front rest) in
    rw (long_enough, take_at front rest (length front) refl, bytes_same front, drop_at front rest (length front) refl) refl

map_again : (format map : List ℕ) → map_of format map ≡ Some map → map_in format (line (byte "a") (codes "rtpmap:" ++ map)) ≡ Some map
unfolding map_in
map_again format map is = rw (text_again (codes "rtpmap:") map) is

abbrev under_of : Direction → Medium → List Line
under_of direction medium = map_lines medium.map ++ line (byte "a") (direction_text direction) ∷ []

under_direction : (direction : Direction) (map : List ℕ) → first_of direction_in (map_lines map ++ line (byte "a") (direction_text direction) ∷ []) ≡ Some direction
under_direction direction [] = rw (direction_again direction) refl
under_direction direction (b ∷ map) = rw (map_no_direction (b ∷ map), direction_again direction) refl

under_map : (direction : Direction) (format map : List ℕ) → IsMap format map → map_under format (map_lines map ++ line (byte "a") (direction_text direction) ∷ []) ≡ map
under_map direction format [] is = rw (direction_no_map format direction) refl
under_map direction format (b ∷ map) (inl none) = absurd cc
under_map direction format (b ∷ map) (inr is) = rw (map_again format (b ∷ map) is.of_format) refl

under_plain : (direction : Direction) (format map : List ℕ) → IsMap format map → ArePlain (map_lines map ++ line (byte "a") (direction_text direction) ∷ [])
under_plain direction format [] is = rw (direction_plain direction) refl
under_plain direction format (b ∷ map) (inl none) = absurd cc
under_plain direction format (b ∷ map) (inr is) = rw (all_both plain_byte (codes "rtpmap:") (b ∷ map) refl is.plain, direction_plain direction) refl

-- ---- the media

abbrev refused_part : Medium → Section
refused_part medium = record { head = head_of 0 medium; under = [] }

abbrev accepted_part : ℕ → Direction → Medium → Section
accepted_part port direction medium = record { head = head_of port medium; under = under_of direction medium }

abbrev answer_parts : ℕ → Direction → List Medium → List Section
answer_parts port direction [] = []
answer_parts port direction (medium ∷ media) = if is_audio medium.kind then accepted_part port direction medium ∷ map refused_part media else refused_part medium ∷ answer_parts port direction media

refused_start : (media : List Medium) → before_media (flat_map refused_lines media) ≡ []
refused_start [] = refl
refused_start (medium ∷ media) = refl

refused_parts : (media : List Medium) → sections (flat_map refused_lines media) ≡ map refused_part media
refused_parts [] = refl
refused_parts (medium ∷ media) = rw (refused_start media, refused_parts media) refl

answer_start : (port : ℕ) (direction : Direction) (media : List Medium) → before_media (answer_media_lines port direction media) ≡ []
answer_start port direction [] = refl
answer_start port direction (medium ∷ media) = elim (cases_Bool (is_audio medium.kind)) [ inl y ↦ rw y refl | inr n ↦ rw n refl ]

under_stays : (direction : Direction) (map : List ℕ) (media : List Medium) →
    before_media ((map_lines map ++ line (byte "a") (direction_text direction) ∷ []) ++ flat_map refused_lines media) ≡ map_lines map ++ line (byte "a") (direction_text direction) ∷ []
under_stays direction [] media = rw (refused_start media) refl
under_stays direction (b ∷ map) media = rw (refused_start media) refl

behind_under : (direction : Direction) (mapped : List ℕ) (media : List Medium) → sections ((map_lines mapped ++ line (byte "a") (direction_text direction) ∷ []) ++ flat_map refused_lines media) ≡ map refused_part media
behind_under direction [] media = refused_parts media
behind_under direction (b ∷ mapped) media = refused_parts media

parts_are : (port : ℕ) (direction : Direction) (media : List Medium) → sections (answer_media_lines port direction media) ≡ answer_parts port direction media
parts_are port direction [] = refl
parts_are port direction (medium ∷ media) =
    elim (cases_Bool (is_audio medium.kind)) [
      | inl y ↦ rw (y, under_stays direction medium.map media, behind_under direction medium.map media) refl
      | inr n ↦ rw (n, answer_start port direction media, parts_are port direction media) refl
    ]

refused_medium : (medium : Medium) → IsSound medium → medium_of (refused_part medium) ≡ Some (without_map medium)
refused_medium medium sound = rw (head_stated 0 medium sound) refl

accepted_medium : (port : ℕ) (direction : Direction) (medium : Medium) → IsSound medium → medium_of (accepted_part port direction medium) ≡ Some medium
accepted_medium port direction medium sound = rw (head_stated port medium sound, under_map direction medium.format medium.map sound.map) refl

refused_media : (media : List Medium) → AreSound media → media_of (map refused_part media) ≡ Some (map without_map media)
refused_media [] sound = refl
refused_media (medium ∷ media) sound = rw (refused_medium medium sound.0, refused_media media sound.1) refl

media_are : (port : ℕ) (direction : Direction) (media : List Medium) → AreSound media → media_of (answer_parts port direction media) ≡ Some (answer_media media)
media_are port direction [] sound = refl
media_are port direction (medium ∷ media) sound =
    elim (cases_Bool (is_audio medium.kind)) [
      | inl y ↦ rw (y, accepted_medium port direction medium sound.0, refused_media media sound.1) refl
      | inr n ↦ rw (n, refused_medium medium sound.0, media_are port direction media sound.1) refl
    ]

direction_is : (port : ℕ) (direction : Direction) (media : List Medium) → AreSound media → has_audio media ≡ true → first_of direction_in (under_audio (answer_parts port direction media)) ≡ Some direction
direction_is port direction [] sound has = absurd cc
direction_is port direction (medium ∷ media) sound has =
    elim (cases_Bool (is_audio medium.kind)) [
      | inl y ↦
          let kind : is_audio (first_word (words (head_of port medium))) ≡ true = rw (value_kind medium.kind (decimal port) medium.proto medium.format (medium_words medium port sound.0)) y in
          rw (y, kind) (under_direction direction medium.map)
      | inr n ↦
          let kind : is_audio (first_word (words (head_of 0 medium))) ≡ false = rw (value_kind medium.kind (decimal 0) medium.proto medium.format (medium_words medium 0 sound.0)) n in
          let later : has_audio media ≡ true = rw n at has in
          rw (n, kind) (direction_is port direction media sound.1 later)
    ]

refused_ports : (media : List Medium) → AreSound media → ports_in (map refused_part media) ≡ Some (map (λ other. decimal 0) media)
refused_ports [] sound = refl
refused_ports (medium ∷ media) sound = rw (head_stated 0 medium sound.0, refused_ports media sound.1) refl

ports_are : (port : ℕ) (direction : Direction) (media : List Medium) → AreSound media → ports_in (answer_parts port direction media) ≡ Some (ports_of_answer port media)
ports_are port direction [] sound = refl
ports_are port direction (medium ∷ media) sound =
    elim (cases_Bool (is_audio medium.kind)) [
      | inl y ↦ rw (y, head_stated port medium sound.0, refused_ports media sound.1) refl
      | inr n ↦ rw (n, head_stated 0 medium sound.0, ports_are port direction media sound.1) refl
    ]

-- ---- the lines have no CR and no LF

head_plain : (port : ℕ) (medium : Medium) → IsSound medium → IsPlain (head_of port medium)
head_plain port medium sound = value_plain medium.kind (decimal port) medium.proto medium.format (medium_words medium port sound) (word_plain medium.format sound.format)

refused_plain : (media : List Medium) → AreSound media → ArePlain (flat_map refused_lines media)
refused_plain [] sound = refl
refused_plain (medium ∷ media) sound = rw (head_plain 0 medium sound.0) (refused_plain media sound.1)

accepted_plain : (port : ℕ) (direction : Direction) (medium : Medium) → IsSound medium → ArePlain (accepted_lines port direction medium)
accepted_plain port direction medium sound = rw (head_plain port medium sound) (under_plain direction medium.format medium.map sound.map)

answered_plain : (port : ℕ) (direction : Direction) (media : List Medium) → AreSound media → ArePlain (answer_media_lines port direction media)
answered_plain port direction [] sound = refl
answered_plain port direction (medium ∷ media) sound =
    elim (cases_Bool (is_audio medium.kind)) [
      | inl y ↦ rw y (all_both plain_line (accepted_lines port direction medium) (flat_map refused_lines media) (accepted_plain port direction medium sound.0) (refused_plain media sound.1))
      | inr n ↦ rw (n, head_plain 0 medium sound.0) (answered_plain port direction media sound.1)
    ]

ip_plain : (mixer : Mixer) → IsPlain (ip_text mixer.ip)
unfolding ip_text
ip_plain mixer =
    let part : (i : ℕ) → IsPlain (decimal (get_or mixer.ip i 0)) = λ i. word_plain (decimal (get_or mixer.ip i 0)) (decimal_word (get_or mixer.ip i 0)) in
    simp list_all-append (rw (part 0, part 1, part 2, part 3) refl)

opening_plain : (mixer : Mixer) → ArePlain (session_lines mixer)
opening_plain mixer = rw (ip_plain mixer) refl

-- ---- the answer

session_is : (lines : List Line) (medium : Medium) (media : List Medium) (direction : Direction) → has_session_head lines ≡ true → media_of (sections lines) ≡ Some (medium ∷ media) →
    first_of direction_in (under_audio (sections lines)) ≡ Some direction → session_of lines ≡ Some (record { media = medium ∷ media; direction = direction })
unfolding session_of
session_is lines medium media direction one two three = rw (one, two, three) refl

not_empty : (media : List Medium) → has_audio media ≡ true → (x : Medium × List Medium) × (answer_media media ≡ x.0 ∷ x.1)
not_empty [] has = absurd cc
not_empty (medium ∷ media) has =
    elim (cases_Bool (is_audio medium.kind)) [
      | inl y ↦ ((medium, map without_map media), rw y refl)
      | inr n ↦ ((without_map medium, answer_media media), rw n refl)
    ]

answer_session : (view : SdpView) (mixer : Mixer) → AreSound view.media → has_audio view.media ≡ true → session_of (answer_lines view mixer) ≡ Some (answer_view view)
answer_session view mixer sound has =
    let direction : Direction = answer_direction view.direction in
    let some = not_empty view.media has in
    let parts = parts_are mixer.port (answer_direction view.direction) view.media in
    let media : media_of (sections (answer_lines view mixer)) ≡ Some (some.0.0 ∷ some.0.1) =
    rw parts (media_are mixer.port (answer_direction view.direction) view.media sound ∙ ap (λ (ms : List Medium). Some ms) some.1) in
    let turned : first_of direction_in (under_audio (sections (answer_lines view mixer))) ≡ Some (answer_direction view.direction) =
    rw parts (direction_is mixer.port (answer_direction view.direction) view.media sound has) in
    let made = session_is (answer_lines view mixer) some.0.0 some.0.1 (answer_direction view.direction) refl media turned in
    rw some.1 made

answer_plain : (view : SdpView) (mixer : Mixer) → AreSound view.media → ArePlain (answer_lines view mixer)
answer_plain view mixer sound = all_both plain_line (session_lines mixer) (answer_media_lines mixer.port (answer_direction view.direction) view.media) (opening_plain mixer)
    (answered_plain mixer.port (answer_direction view.direction) view.media sound)

answer_again : (view : SdpView) (mixer : Mixer) → AreSound view.media → has_audio view.media ≡ true → sdp_of (answer_text view mixer) ≡ Some (answer_view view)
unfolding sdp_of answer_text
answer_again view mixer sound has = rw (lines_again (answer_lines view mixer) (answer_plain view mixer sound)) (answer_session view mixer sound has)

answer_ports : (view : SdpView) (mixer : Mixer) → AreSound view.media → ports_of (answer_text view mixer) ≡ Some (ports_of_answer mixer.port view.media)
unfolding ports_of answer_text
answer_ports view mixer sound = rw (lines_again (answer_lines view mixer) (answer_plain view mixer sound), parts_are mixer.port (answer_direction view.direction) view.media)
    (ports_are mixer.port (answer_direction view.direction) view.media sound)

pub reads_back_by : (view : SdpView) (mixer : Mixer) (text body : List ℕ) → has_audio view.media ≡ true → text ≡ answer_text view mixer → sdp_of body ≡ Some view → sdp_of text ≡ Some (answer_view view)
reads_back_by view mixer text body has is read = rw is (answer_again view mixer (sdp_sound body view read) has)

pub ports_by : (view : SdpView) (mixer : Mixer) (text body : List ℕ) → text ≡ answer_text view mixer → sdp_of body ≡ Some view → ports_of text ≡ Some (ports_of_answer mixer.port view.media)
ports_by view mixer text body is read = rw is (answer_ports view mixer (sdp_sound body view read))

-- ---- the offer

offer_words : (port : ℕ) → AreWords (codes "audio") (decimal port) (codes "RTP/AVP")
offer_words port = record { kind_is = refl; port_is = decimal_word port; proto_is = refl }

formats_are : words (codes "0 8") ≡ codes "0" ∷ (codes "8" ∷ [])
unfolding words
formats_are = refl

abbrev offer_head : ℕ → List ℕ
offer_head port = media_value (codes "audio") (decimal port) (codes "RTP/AVP") (codes "0 8")

offer_stated : (port : ℕ) → media_line (offer_head port) ≡ stated (codes "audio") (decimal port) (codes "RTP/AVP") (codes "0")
offer_stated port = value_stated (codes "audio") (decimal port) (codes "RTP/AVP") (codes "0 8") (codes "0") (codes "8" ∷ []) (offer_words port) formats_are refl

offer_plain : (mixer : Mixer) → ArePlain (offer_lines mixer)
offer_plain mixer =
    let head = value_plain (codes "audio") (decimal mixer.port) (codes "RTP/AVP") (codes "0 8") (offer_words mixer.port) refl in
    let ends : ArePlain (line (byte "m") (offer_head mixer.port) ∷ line (byte "a") (direction_text SendRecv) ∷ []) = rw (head, direction_plain SendRecv) refl in
    all_both plain_line (session_lines mixer) (line (byte "m") (offer_head mixer.port) ∷ line (byte "a") (direction_text SendRecv) ∷ []) (opening_plain mixer) ends

offer_session : (mixer : Mixer) → session_of (offer_lines mixer) ≡ Some offer_view
offer_session mixer =
    let media : media_of (sections (offer_lines mixer)) ≡ Some offer_view.media = rw (offer_stated mixer.port, direction_no_map (codes "0") SendRecv) refl in
    let kind : is_audio (first_word (words (offer_head mixer.port))) ≡ true = rw (value_kind (codes "audio") (decimal mixer.port) (codes "RTP/AVP") (codes "0 8") (offer_words mixer.port)) refl in
    let turned : first_of direction_in (under_audio (sections (offer_lines mixer))) ≡ Some SendRecv = rw kind (under_direction SendRecv []) in
    session_is (offer_lines mixer) (record { kind = codes "audio"; proto = codes "RTP/AVP"; format = codes "0"; map = [] }) [] SendRecv refl media turned

pub offer_again : (mixer : Mixer) → sdp_of (offer_text mixer) ≡ Some offer_view
unfolding sdp_of offer_text
offer_again mixer = rw (lines_again (offer_lines mixer) (offer_plain mixer)) (offer_session mixer)

pub offer_ports : (mixer : Mixer) → ports_of (offer_text mixer) ≡ Some (decimal mixer.port ∷ [])
unfolding ports_of offer_text
offer_ports mixer = rw (lines_again (offer_lines mixer) (offer_plain mixer), offer_stated mixer.port) refl
