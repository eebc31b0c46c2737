-- What a session description says: its media (RFC 4566 §5.14), the rtpmap of a format (RFC 4566 §6) and the direction of the first audio medium (RFC 3264 §5.1 and §6.1).
use Rattle.std.specs.Prelude.{ℕ, List, [], ◌∷◌, length, Option, Some, None, Bool, false, ◌&&◌, ◌==◌, nat_lt, codes, if◌then◌else◌}
use Rattle.std.specs.List.{slice_split, list_all}
use Rattle.std.specs.Option.{option_or, unwrap_or}
use Rattle.std.specs.Str.{byte, bytes_eq}
use Rattle.mmtel_base.specs.Chain.{◌>>=◌}
use Rattle.mmtel_base.specs.Scanning.{after_byte, after_text}
use Rattle.mmtel_sdp.specs.Lines.{lines_of}
use Rattle.mmtel_sdp.specs.declared.lines.Line.{Line}
use Rattle.mmtel_sdp.specs.declared.values.Direction.{Direction}
use Rattle.mmtel_sdp.specs.declared.values.Direction.TheVariants.{SendRecv, SendOnly, RecvOnly, Inactive}
use Rattle.mmtel_sdp.specs.declared.values.Medium.{Medium}
use Rattle.mmtel_sdp.specs.declared.values.SdpView.{SdpView}

-- ---- a description's parts

abbrev pub is_medium : Line → Bool
is_medium line = line.letter == byte "m"

-- the lines before the first m line
abbrev pub before_media : List Line → List Line
before_media [] = []
before_media (line ∷ lines) = if is_medium line then [] else line ∷ before_media lines

-- a medium's part: the value of its m line, and the lines after it, up to the next m line
pub record Section : Type 0 where
  pub head : List ℕ
  pub under : List Line

-- the parts of the media, in order
abbrev pub sections : List Line → List Section
sections [] = []
sections (line ∷ lines) = if is_medium line then record { head = line.value; under = before_media lines } ∷ sections lines else sections lines

-- ---- the m line

-- the words, separated by single blanks
unfoldable pub words : List ℕ → List (List ℕ)
words s = slice_split (λ b. b == 32) s

abbrev pub is_filled : List ℕ → Bool
is_filled word = nat_lt 0 (length word)

pub record MediaLine : Type 0 where
  pub kind : List ℕ
  pub port : List ℕ
  pub proto : List ℕ
  pub format : List ℕ

-- kind port proto format, and further formats
abbrev pub media_line_in : List (List ℕ) → Option MediaLine
media_line_in [] = None
media_line_in (kind ∷ []) = None
media_line_in (kind ∷ port ∷ []) = None
media_line_in (kind ∷ port ∷ proto ∷ []) = None
media_line_in (kind ∷ port ∷ proto ∷ format ∷ formats) = Some (record { kind = kind; port = port; proto = proto; format = format })

-- none of the words is empty
unfoldable pub media_line : List ℕ → Option MediaLine
media_line head = if list_all is_filled (words head) then media_line_in (words head) else None

-- ---- attributes

-- what f gives for the first line for which it gives something
abbrev pub first_of : {A : Type 0} → (Line → Option A) → List Line → Option A
first_of f [] = None
first_of f (line ∷ lines) = option_or (f line) (first_of f lines)

-- the value of an a line
abbrev pub attribute : Line → Option (List ℕ)
attribute line = if line.letter == byte "a" then Some line.value else None

-- an rtpmap of the format: the format, a blank, and more
unfoldable pub map_of : List ℕ → List ℕ → Option (List ℕ)
map_of format map = after_text format map >>= λ rest. after_byte 32 rest >>= λ more. Some map

unfoldable pub map_in : List ℕ → Line → Option (List ℕ)
map_in format line = attribute line >>= λ value. after_text (codes "rtpmap:") value >>= λ map. map_of format map

-- the first rtpmap of the format, or nothing
abbrev pub map_under : List ℕ → List Line → List ℕ
map_under format lines = unwrap_or (first_of (λ line. map_in format line) lines) []

unfoldable pub direction_word : List ℕ → Option Direction
direction_word value = if bytes_eq value (codes "sendrecv") then Some SendRecv else if bytes_eq value (codes "sendonly") then Some SendOnly
    else if bytes_eq value (codes "recvonly") then Some RecvOnly else if bytes_eq value (codes "inactive") then Some Inactive else None

abbrev pub direction_in : Line → Option Direction
direction_in line = attribute line >>= λ value. direction_word value

-- ---- the view

abbrev pub medium_from : List Line → Option MediaLine → Option Medium
medium_from under None = None
medium_from under (Some line) = Some (record { kind = line.kind; proto = line.proto; format = line.format; map = map_under line.format under })

abbrev pub medium_of : Section → Option Medium
medium_of part = medium_from part.under (media_line part.head)

-- each medium, if each m line has that form
abbrev pub media_of : List Section → Option (List Medium)
media_of [] = Some []
media_of (part ∷ parts) = medium_of part >>= λ medium. media_of parts >>= λ media. Some (medium ∷ media)

abbrev pub first_word : List (List ℕ) → List ℕ
first_word [] = []
first_word (word ∷ more) = word

abbrev pub is_audio : List ℕ → Bool
is_audio kind = bytes_eq kind (codes "audio")

-- the lines after the m line of the first audio medium
abbrev pub under_audio : List Section → List Line
under_audio [] = []
under_audio (part ∷ parts) = if is_audio (first_word (words part.head)) then part.under else under_audio parts

-- the first direction in the part of the first audio medium, else before the media, else sendrecv
abbrev pub direction_of : List Line → Direction
direction_of lines = unwrap_or (option_or (first_of direction_in (under_audio (sections lines))) (first_of direction_in (before_media lines))) SendRecv

-- the first line is v=0
abbrev pub has_session_head : List Line → Bool
has_session_head [] = false
has_session_head (line ∷ lines) = line.letter == byte "v" && bytes_eq line.value (codes "0")

-- one medium or more
abbrev pub view_from : List Line → Option (List Medium) → Option SdpView
view_from lines None = None
view_from lines (Some []) = None
view_from lines (Some (medium ∷ media)) = Some (record { media = medium ∷ media; direction = direction_of lines })

unfoldable pub session_of : List Line → Option SdpView
session_of lines = if has_session_head lines then view_from lines (media_of (sections lines)) else None

-- what a body says, if it is a session description
unfoldable pub sdp_of : List ℕ → Option SdpView
sdp_of body = lines_of body >>= λ lines. session_of lines
