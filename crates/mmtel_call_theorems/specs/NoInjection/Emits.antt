-- What a step sends, without injected lines: each message, and each text, which is that of an ACK.
use Rattle.std.specs.Prelude.{◌≡◌, ℕ, List, [], ◌∷◌}
use Rattle.mmtel_output.specs.declared.outputs.StepOutput.{StepOutput}
use Rattle.mmtel_leg.specs.Requests.{RequestPartsView, ack_of}
use Rattle.mmtel_leg.specs.declared.dialogues.Dialogue.{Dialogue}
use Rattle.mmtel_message.specs.Texts.{message_text}
use Rattle.mmtel_transaction.specs.declared.words.Emit.{Emit}
use Rattle.mmtel_transaction.specs.declared.words.Emit.TheVariants as emit
use Rattle.mmtel_call_theorems.specs.NoInjection.Acks.{IsPassedTo, ReceivedAck}
use Rattle.mmtel_call_theorems.specs.NoInjection.Messages.{HasNoInjection, MessageHasNoInjection}

-- the predicate holds of each
abbrev pub Each : {A : Type 0} → (A → Type 0) → List A → Type 0
Each P [] = Unit {0}
Each P (x ∷ xs) = P x × Each P xs

-- the text of an ACK in a dialog (RFC 3261 §13.2.2.4), which is sent without a transaction: it is that of a clean message, which was made from the dialog and from content that is
-- nothing, or what is relayed of one of these ACKs that were received
pub record IsTextOfAck (acks : List ReceivedAck) (text : List ℕ) : Type 0 where
  pub dialogue : Dialogue
  pub parts : RequestPartsView
  pub passes : IsPassedTo acks dialogue parts
  pub no_injection : MessageHasNoInjection (ack_of dialogue parts)
  pub is : text ≡ message_text (ack_of dialogue parts)

abbrev pub EmitHasNoInjection : (acks : List ReceivedAck) → Emit → Type 0
EmitHasNoInjection acks (emit.Ask peer m) = MessageHasNoInjection m
EmitHasNoInjection acks (emit.Reply key m) = MessageHasNoInjection m
EmitHasNoInjection acks (emit.Plain peer text) = IsTextOfAck acks text
EmitHasNoInjection acks (emit.Ack key m) = MessageHasNoInjection m
EmitHasNoInjection acks (emit.Settled key own) = Unit {0}
EmitHasNoInjection acks (emit.Arm call what at) = Unit {0}
EmitHasNoInjection acks (emit.ArmSeat room seat what at) = Unit {0}

-- the text of which tokens are drawn, and what is sent
pub record DoneHasNoInjection (acks : List ReceivedAck) (drawn_of : List ℕ) (out : List Emit) : Type 0 where
  pub token_in : HasNoInjection drawn_of
  pub out_in : Each (EmitHasNoInjection acks) out

abbrev pub OutputHasNoInjection : (acks : List ReceivedAck) → StepOutput → Type 0
OutputHasNoInjection acks output = DoneHasNoInjection acks output.tokens.token output.out
