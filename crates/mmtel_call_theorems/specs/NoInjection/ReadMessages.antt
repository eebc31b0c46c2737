-- What is clean in a message that was read: each that `read` returns is canonical.
use Rattle.std.specs.Prelude.{◌≡◌, ℕ, List, Ok}
use Rattle.mmtel_compose.specs.ReceivedMessages.{phrase_in}
use Rattle.mmtel_lex.specs.Reading.{uri_of}
use Rattle.mmtel_lex.specs.declared.values.Uri.{Uri}
use Rattle.mmtel_message.specs.Canonical.{IsCanonical}
use Rattle.mmtel_message.specs.Message.{Message}
use Rattle.mmtel_message.specs.declared.messages.Start.{Start}
use Rattle.mmtel_call_theorems.specs.NoInjection.Messages.{HasNoInjection, LinesHaveNoInjection}
use Rattle.mmtel_call_theorems.specs.NoInjection.Inputs.{UriHasNoInjection}

pub record ReadingHasNoInjection : Type 0 where
  -- its header fields, and its phrase if it has one
  pub lines : (m : Message Start) → IsCanonical m → LinesHaveNoInjection m.lines
  pub phrase : (m : Message Start) → IsCanonical m → HasNoInjection (phrase_in m.start)
  -- a Request-URI of the grammar, and each URI that was read, as it is printed
  pub uri : (text : List ℕ) (u : Uri) → uri_of text ≡ Ok u → HasNoInjection text
  pub printed : (text : List ℕ) (u : Uri) → uri_of text ≡ Ok u → UriHasNoInjection u
