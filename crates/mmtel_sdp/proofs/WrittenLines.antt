-- Texts that are written line by line.
use Rattle.std.proofs.Common.{◌≡◌, Bool, true, false, ℕ, List, [], ◌∷◌, ◌++◌, sym, ap, ◌∙◌, append_assoc}
use Rattle.std.proofs.lemmas.List.{append-nil}
use Rattle.std.proofs.lemmas.List.Concat.{flat_map-append}
use Rattle.std.specs.Prelude.{codes, decimal}
use Rattle.std.specs.List.{flat_map}
use Rattle.std.specs.Str.{byte}
use Rattle.mmtel_sdp.specs.Lines.{line_text_of, text_of}
use Rattle.mmtel_sdp.specs.Mixer.{line, session_lines, media_value, direction_text, offer_text, refused_lines, answer_media_lines, answer_direction, answer_text}
use Rattle.mmtel_sdp.specs.declared.lines.Line.{Line}
use Rattle.mmtel_sdp.specs.declared.values.Direction.{Direction}
use Rattle.mmtel_sdp.specs.declared.values.Direction.TheVariants.{SendRecv}
use Rattle.mmtel_sdp.specs.declared.values.Medium.{Medium}
use Rattle.mmtel_sdp.specs.declared.values.Mixer.{Mixer}
use Rattle.mmtel_sdp.specs.declared.values.SdpView.{SdpView}

pub text_of_both : (a b : List Line) → text_of (a ++ b) ≡ text_of a ++ text_of b
text_of_both a b = flat_map-append (λ (l : Line). line_text_of l) a b

abbrev offer_medium : Mixer → Line
offer_medium mixer = line (byte "m") (media_value (codes "audio") (decimal mixer.port) (codes "RTP/AVP") (codes "0 8"))

abbrev offer_direction : Line
offer_direction = line (byte "a") (direction_text SendRecv)

two_lines : (front : List ℕ) (a b : Line) → (front ++ line_text_of a) ++ line_text_of b ≡ front ++ text_of (a ∷ b ∷ [])
two_lines front a b = append_assoc front (line_text_of a) (line_text_of b) ∙ ap (λ (s : List ℕ). front ++ (line_text_of a ++ s)) (sym (append-nil (line_text_of b)))

pub offer_is : (mixer : Mixer) (out more whole : List ℕ) → out ≡ text_of (session_lines mixer) → more ≡ out ++ line_text_of (offer_medium mixer) → whole ≡ more ++ line_text_of offer_direction → whole ≡ offer_text mixer
unfolding offer_text
offer_is mixer out more whole one two three =
    three ∙ rw (two, one) (two_lines (text_of (session_lines mixer)) (offer_medium mixer) offer_direction ∙ sym (text_of_both (session_lines mixer) (offer_medium mixer ∷ offer_direction ∷ [])))

-- the lines of the media that remain; the flag says whether an audio medium was accepted
abbrev pub rest_lines : ℕ → Direction → Bool → List Medium → List Line
rest_lines port direction true media = flat_map refused_lines media
rest_lines port direction false media = answer_media_lines port direction media

pub record IsWrittenSoFar (port : ℕ) (direction : Direction) (taken : Bool) (out : List ℕ) (rest : List Medium) (whole : List ℕ) : Type 0 where
  pub same : out ++ text_of (rest_lines port direction taken rest) ≡ whole

pub answer_is : (view : SdpView) (mixer : Mixer) (direction : Direction) (media : List Medium) (out whole : List ℕ) → media ≡ view.media → direction ≡ answer_direction view.direction →
    out ≡ text_of (session_lines mixer) → whole ≡ out ++ text_of (answer_media_lines mixer.port direction media) → whole ≡ answer_text view mixer
unfolding answer_text
answer_is view mixer direction media out whole same turned one two =
    two ∙ rw (one, same, turned) (sym (text_of_both (session_lines mixer) (answer_media_lines mixer.port (answer_direction view.direction) view.media)))
