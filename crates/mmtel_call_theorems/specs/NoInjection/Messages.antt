-- Messages without injected lines: the start line and each header field are one line each, so that the bytes of a message, split at its line ends, are its own lines and nobody
-- else's (RFC 3261 §7, §25.1). Such a message is called clean.
use Rattle.std.specs.Prelude.{◌≡◌, true, ◌&&◌, ℕ, Bool, List, [], ◌∷◌, ◌++◌, codes, map}
use Rattle.std.specs.List.{list_all}
use Rattle.mmtel_message.specs.Headers.{is_value_byte}
use Rattle.mmtel_message.specs.Lines.{split}
use Rattle.mmtel_message.specs.Message.{Line, Message}
use Rattle.mmtel_message.specs.Texts.{message_text, start_text}
use Rattle.mmtel_message.specs.declared.messages.Start.{Start}
use Rattle.mmtel_message.specs.declared.messages.Start.TheVariants.{Request, Status}

-- bytes within one line: none is 0, CR or LF
abbrev pub HasNoInjection : List ℕ → Type 0
HasNoInjection s = list_all is_value_byte s ≡ true

-- the same of a name and of a value
abbrev pub line_has_no_injection : Line → Bool
line_has_no_injection l = list_all is_value_byte l.0 && list_all is_value_byte l.1

abbrev pub LinesHaveNoInjection : List Line → Type 0
LinesHaveNoInjection ls = list_all line_has_no_injection ls ≡ true

-- the same of each of these texts
abbrev pub HaveNoInjection : List (List ℕ) → Type 0
HaveNoInjection texts = list_all (list_all is_value_byte) texts ≡ true

-- the same of a method and a Request-URI, and of a phrase
abbrev pub StartHasNoInjection : Start → Type 0
StartHasNoInjection (Request method uri) = HasNoInjection method × HasNoInjection uri
StartHasNoInjection (Status code phrase) = HasNoInjection phrase

-- a message whose start line and header fields are clean; its body may be anything
pub record MessageHasNoInjection (m : Message Start) : Type 0 where
  pub start_in : StartHasNoInjection m.start
  pub lines_in : LinesHaveNoInjection m.lines

-- a header field as it is in a text, without its line end
abbrev pub written_line : Line → List ℕ
written_line l = l.0 ++ (codes ": " ++ l.1)

-- its text, split at the line ends, is its start line, its header fields, an empty line and its body, and nothing else
pub record HasOwnFields (m : Message Start) : Type 0 where
  pub parted : split (message_text m) ≡ start_text m.start ∷ (map written_line m.lines ++ [] ∷ split m.body)
  pub no_injection : HaveNoInjection (start_text m.start ∷ map written_line m.lines)
