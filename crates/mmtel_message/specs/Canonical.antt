-- Canonical messages, whose text is read as the same message: what holds of each message that was read, and what one that is built has to satisfy.
use Rattle.std.specs.Prelude.{◌≡◌, ◌≤◌, Some, None, ℕ, true, false, List, [], ◌∷◌, length}
use Rattle.std.specs.List.{list_all}
use Rattle.mmtel_lex.specs.Grammar.{IsToken}
use Rattle.mmtel_message.specs.Lines.{first_break, starts_blank}
use Rattle.mmtel_message.specs.Headers.{trim, is_value_byte}
use Rattle.mmtel_message.specs.Names.{long_name}
use Rattle.mmtel_message.specs.Message.{Message}
use Rattle.mmtel_message.specs.Texts.{start_text, message_text}
use Rattle.mmtel_message.specs.Starts.{start_at}
use Rattle.mmtel_message.specs.Fields.{five_at}
use Rattle.mmtel_message.specs.Faults.{first_fault}
use Rattle.mmtel_message.specs.Expansion.{expanded_lines}
use Rattle.mmtel_message.specs.Reads.{body_of, limit, most_lines}
use Rattle.mmtel_message.specs.declared.lines.Break.TheVariants.{Line}
use Rattle.mmtel_message.specs.declared.fields.Five.{Five}
use Rattle.mmtel_message.specs.declared.messages.Start.{Start}

-- a header line of a canonical text: its name a token as this server spells it, its value without blanks around it and without byte 0, CR and LF
pub record IsCanonicalLine (l : List ℕ × List ℕ) : Type 0 where
  pub name_in : IsToken l.0
  pub spelled : long_name l.0 ≡ l.0
  pub trimmed : trim l.1 ≡ l.1
  pub value_in : list_all is_value_byte l.1 ≡ true

abbrev pub AreCanonicalLines : List (List ℕ × List ℕ) → Type 0
AreCanonicalLines [] = Unit {0}
AreCanonicalLines (l ∷ ls) = IsCanonicalLine l × AreCanonicalLines ls

-- a start line whose text is one line and is read as the same start line
pub record IsCanonicalStart (s : Start) : Type 0 where
  pub reads_back : start_at (start_text s) ≡ Some s
  pub one_line : first_break Line (start_text s) ≡ None
  pub not_folded : starts_blank (start_text s) ≡ false

-- the five fields can be read, and nothing is wrong with a line
pub record IsFaultless (m : Message Start) : Type 0 where
  pub five : Five
  pub five_in : five_at m.lines ≡ Some five
  pub faultless : first_fault m.start five (length m.body) m.lines ≡ None

-- one value per line, and a body as long as Content-Length says, where that field is present
pub record IsCanonical (m : Message Start) : Type 0 where
  pub start_in : IsCanonicalStart m.start
  pub lines_in : AreCanonicalLines m.lines
  pub single : expanded_lines m.lines ≡ m.lines
  pub sound : IsFaultless m
  pub whole_body : body_of m.lines m.body ≡ m.body

-- the message fits into a datagram that is read
pub record IsWithinLimits (m : Message Start) : Type 0 where
  pub few : length m.lines ≤ most_lines
  pub fits : length (message_text m) ≤ limit
