-- The input of a call: messages as the reader returns them, and records and a directory whose URIs are clean. Each URI of the grammar has visible bytes alone (RFC 3261 §19.1.1,
-- §25.1), which are clean.
use Rattle.std.specs.Prelude.{◌≡◌, true, ℕ, Bool, IfSome}
use Rattle.std.specs.List.{list_all}
use Rattle.mmtel_lex.specs.Grammar.{uri_text}
use Rattle.mmtel_lex.specs.declared.values.Uri.{Uri}
use Rattle.mmtel_message.specs.Headers.{is_value_byte}
use Rattle.mmtel_message.specs.Message.{Message}
use Rattle.mmtel_message.specs.declared.messages.Start.{Start}
use Rattle.mmtel_precedence.specs.Calls.{SnapshotView}
use Rattle.mmtel_sheet_values.specs.declared.values.Action.{Action}
use Rattle.mmtel_sheet_values.specs.declared.values.Action.TheVariants.{Allow, Forward}
use Rattle.mmtel_sheet_values.specs.declared.values.DiversionPart.{DiversionPart}
use Rattle.mmtel_sheet_values.specs.declared.values.Rule.{Rule}
use Rattle.mmtel_sheet_values.specs.declared.values.Sheet.{Sheet}
use Rattle.mmtel_trust.specs.ParsedMessage.{ParsedMessage, parsed_message}
use Rattle.mmtel_compose.specs.ReceivedMessages.{phrase_in}
use Rattle.mmtel_call_theorems.specs.NoInjection.Messages.{HasNoInjection, LinesHaveNoInjection}

-- what was read of a message whose header fields are clean, and whose phrase is clean if it has one, as is so for each message that was read
pub record ParsedHasNoInjection (m : ParsedMessage) : Type 0 where
  pub trusted : Bool
  pub message : Message Start
  pub is : m ≡ parsed_message trusted message
  pub lines_in : LinesHaveNoInjection message.lines
  pub phrase_no_injection : HasNoInjection (phrase_in message.start)

-- ---- URIs

abbrev pub uri_has_no_injection : Uri → Bool
uri_has_no_injection uri = list_all is_value_byte (uri_text uri)

abbrev pub UriHasNoInjection : Uri → Type 0
UriHasNoInjection uri = HasNoInjection (uri_text uri)

-- the URI to which a rule forwards
abbrev pub action_has_no_injection : Action → Bool
action_has_no_injection (Forward forward) = uri_has_no_injection forward.target
action_has_no_injection (Allow allowed) = true

abbrev pub rule_has_no_injection : Rule → Bool
rule_has_no_injection rule = action_has_no_injection rule.action

abbrev pub RulesHaveNoInjection : DiversionPart → Type 0
RulesHaveNoInjection part = list_all rule_has_no_injection part.rules ≡ true

-- a record
abbrev pub SheetHasNoInjection : Sheet → Type 0
SheetHasNoInjection sheet = IfSome sheet.diversion RulesHaveNoInjection

-- all records, as they currently are
abbrev pub SheetsHaveNoInjection : SnapshotView → Type 0
SheetsHaveNoInjection now = (number : ℕ) → IfSome (now.sheets number) SheetHasNoInjection
