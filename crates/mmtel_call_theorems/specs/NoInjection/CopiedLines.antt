-- What is claimed of what was received, and of what is copied from it.
use Rattle.std.specs.Prelude.{Bool, List}
use Rattle.mmtel_history.specs.declared.entries.Entry.{Entry}
use Rattle.mmtel_message.specs.Message.{Line}
use Rattle.mmtel_message.specs.declared.messages.Start.{Start}
use Rattle.mmtel_trust.specs.ParsedMessage.{ParsedMessage}
use Rattle.mmtel_trust.specs.HeaderTable.{shown_lines}
use Rattle.mmtel_trust.specs.declared.header_table.Facing.{Facing}
use Rattle.mmtel_call_theorems.specs.NoInjection.Messages.{LinesHaveNoInjection}
use Rattle.mmtel_call_theorems.specs.NoInjection.Inputs.{ParsedHasNoInjection}
use Rattle.mmtel_call_theorems.specs.NoInjection.CallState.{EntriesHaveNoInjection}

-- the header fields that the header table copies from clean ones, with clean entries of History-Info
abbrev pub CopiedLinesHaveNoInjection : Type 0
CopiedLinesHaveNoInjection = (f : Facing) (to_trusted : Bool) (h : List Entry) (start : Start) (ls : List Line) → EntriesHaveNoInjection h → LinesHaveNoInjection ls →
    LinesHaveNoInjection (shown_lines f to_trusted h start ls)

-- the entries of History-Info that are read from a clean message
abbrev pub ParsedEntriesHaveNoInjection : Type 0
ParsedEntriesHaveNoInjection = (m : ParsedMessage) → ParsedHasNoInjection m → EntriesHaveNoInjection m.history
