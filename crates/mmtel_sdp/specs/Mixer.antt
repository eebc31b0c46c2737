-- The offer and the answer of a conference's mixer (RFC 3264 §5 and §6), and what they say when they are read.
use Rattle.std.specs.Prelude.{ℕ, List, [], ◌∷◌, ◌++◌, map, Option, Some, Bool, codes, decimal, slice_index, if◌then◌else◌}
use Rattle.std.specs.List.{flat_map, list_any}
use Rattle.std.specs.Str.{byte}
use Rattle.mmtel_base.specs.Chain.{◌>>=◌}
use Rattle.mmtel_sdp.specs.Lines.{lines_of, text_of}
use Rattle.mmtel_sdp.specs.Sdp.{Section, sections, media_line, is_audio}
use Rattle.mmtel_sdp.specs.declared.lines.Line.{Line}
use Rattle.mmtel_sdp.specs.declared.values.Direction.{Direction}
use Rattle.mmtel_sdp.specs.declared.values.Direction.TheVariants.{SendRecv, SendOnly, RecvOnly, Inactive}
use Rattle.mmtel_sdp.specs.declared.values.Medium.{Medium}
use Rattle.mmtel_sdp.specs.declared.values.Mixer.{Mixer}
use Rattle.mmtel_sdp.specs.declared.values.SdpView.{SdpView}

-- ---- lines

abbrev pub line : ℕ → List ℕ → Line
line letter value = record { letter = letter; value = value }

unfoldable pub ip_text : List ℕ → List ℕ
ip_text ip = decimal (slice_index ip 0) ++ codes "." ++ decimal (slice_index ip 1) ++ codes "." ++ decimal (slice_index ip 2) ++ codes "." ++ decimal (slice_index ip 3)

-- the lines with which both texts begin: v, o, s, c and t (RFC 4566 §5.1 to §5.9)
abbrev pub session_lines : Mixer → List Line
session_lines mixer =
    line (byte "v") (codes "0")
    ∷ line (byte "o") (codes "mixer 1 1 IN IP4 " ++ ip_text mixer.ip)
    ∷ line (byte "s") (codes "-")
    ∷ line (byte "c") (codes "IN IP4 " ++ ip_text mixer.ip)
    ∷ line (byte "t") (codes "0 0")
    ∷ []

-- kind port proto format
unfoldable pub media_value : List ℕ → List ℕ → List ℕ → List ℕ → List ℕ
media_value kind port proto format = kind ++ 32 ∷ (port ++ 32 ∷ (proto ++ 32 ∷ format))

unfoldable pub direction_text : Direction → List ℕ
direction_text SendRecv = codes "sendrecv"
direction_text SendOnly = codes "sendonly"
direction_text RecvOnly = codes "recvonly"
direction_text Inactive = codes "inactive"

-- ---- the offer

abbrev pub offer_lines : Mixer → List Line
offer_lines mixer = session_lines mixer ++ line (byte "m") (media_value (codes "audio") (decimal mixer.port) (codes "RTP/AVP") (codes "0 8"))
    ∷ line (byte "a") (direction_text SendRecv) ∷ []

unfoldable pub offer_text : Mixer → List ℕ
offer_text mixer = text_of (offer_lines mixer)

-- ---- the answer

-- the direction that answers a direction (RFC 3264 §6.1)
abbrev pub answer_direction : Direction → Direction
answer_direction SendRecv = SendRecv
answer_direction SendOnly = RecvOnly
answer_direction RecvOnly = SendOnly
answer_direction Inactive = Inactive

abbrev pub map_lines : List ℕ → List Line
map_lines [] = []
map_lines (b ∷ more) = line (byte "a") (codes "rtpmap:" ++ b ∷ more) ∷ []

-- a medium that the mixer accepts
abbrev pub accepted_lines : ℕ → Direction → Medium → List Line
accepted_lines port direction medium =
    line (byte "m") (media_value medium.kind (decimal port) medium.proto medium.format) ∷ (map_lines medium.map ++ line (byte "a") (direction_text direction) ∷ [])

-- a medium that it rejects: port 0 (RFC 3264 §6)
abbrev pub refused_lines : Medium → List Line
refused_lines medium = line (byte "m") (media_value medium.kind (decimal 0) medium.proto medium.format) ∷ []

-- the first audio medium is accepted, and no other
abbrev pub answer_media_lines : ℕ → Direction → List Medium → List Line
answer_media_lines port direction [] = []
answer_media_lines port direction (medium ∷ media) =
    if is_audio medium.kind then accepted_lines port direction medium ++ flat_map refused_lines media else refused_lines medium ++ answer_media_lines port direction media

abbrev pub answer_lines : SdpView → Mixer → List Line
answer_lines view mixer = session_lines mixer ++ answer_media_lines mixer.port (answer_direction view.direction) view.media

unfoldable pub answer_text : SdpView → Mixer → List ℕ
answer_text view mixer = text_of (answer_lines view mixer)

abbrev pub has_audio : List Medium → Bool
has_audio media = list_any (λ medium. is_audio medium.kind) media

-- ---- what the texts say

abbrev pub without_map : Medium → Medium
without_map medium = record medium { map = [] }

-- the media of the answer: those of the offer, of which the first audio medium alone keeps its rtpmap
abbrev pub answer_media : List Medium → List Medium
answer_media [] = []
answer_media (medium ∷ media) = if is_audio medium.kind then medium ∷ map without_map media else without_map medium ∷ answer_media media

abbrev pub answer_view : SdpView → SdpView
answer_view view = record { media = answer_media view.media; direction = answer_direction view.direction }

-- one audio medium, format 0 first, in both directions
abbrev pub offer_view : SdpView
offer_view = record { media = record { kind = codes "audio"; proto = codes "RTP/AVP"; format = codes "0"; map = [] } ∷ []; direction = SendRecv }

-- the ports of the m lines
abbrev pub ports_in : List Section → Option (List (List ℕ))
ports_in [] = Some []
ports_in (part ∷ parts) = media_line part.head >>= λ said. ports_in parts >>= λ ports. Some (said.port ∷ ports)

unfoldable pub ports_of : List ℕ → Option (List (List ℕ))
ports_of body = lines_of body >>= λ lines. ports_in (sections lines)

-- the port at the first audio medium, and 0 at each other
abbrev pub ports_of_answer : ℕ → List Medium → List (List ℕ)
ports_of_answer port [] = []
ports_of_answer port (medium ∷ media) = if is_audio medium.kind then decimal port ∷ map (λ other. decimal 0) media else decimal 0 ∷ ports_of_answer port media
