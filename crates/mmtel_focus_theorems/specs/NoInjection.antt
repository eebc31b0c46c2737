-- A property of all operations on a table of conferences: where the messages and legs that they get are clean, each message that is sent is clean (RFC 3261 §7, §25.1).
use Rattle.std.specs.Prelude.{List, [], ◌∷◌}
use Rattle.mmtel_call_theorems.specs.NoInjection.Messages.{HasNoInjection}
use Rattle.mmtel_call_theorems.specs.NoInjection.Emits.{Each, EmitHasNoInjection}
use Rattle.mmtel_call_theorems.specs.NoInjection.Inputs.{ParsedHasNoInjection}
use Rattle.mmtel_call_theorems.specs.NoInjection.CallState.{LegHasNoInjection}
use Rattle.mmtel_call_theorems.specs.NoInjection.Traces.{SendsOwnFields}
use Rattle.mmtel_focus.specs.Operations.{Adoption, JoinRequest, TableOp, ReceivedSignal, Opens, Joins, Adopts, Notifies, Receives, Leaves, Closes, Drops, effects_after}
use Rattle.mmtel_focus.specs.ConferenceConfig.{ConferenceConfigView}
use Rattle.mmtel_focus.specs.declared.signals.RoomSignal.{RoomSignal}
use Rattle.mmtel_focus.specs.declared.signals.RoomSignal.TheVariants as signal

-- ---- the premises of an operation

-- each message that is received was parsed from a clean one
abbrev pub SignalHasNoInjection : RoomSignal → Type 0
SignalHasNoInjection (signal.Request room seat key request) = ParsedHasNoInjection request.parsed
SignalHasNoInjection (signal.Ack room seat ack) = ParsedHasNoInjection ack.parsed
SignalHasNoInjection (signal.Answer key response) = ParsedHasNoInjection response.parsed
SignalHasNoInjection (signal.Silent branch method) = Unit {0}
SignalHasNoInjection (signal.Due room seat what) = Unit {0}
SignalHasNoInjection (signal.Over key) = Unit {0}

-- the leg that joins, its INVITE, and the text of which tokens are drawn
pub record JoinRequestHasNoInjection (c : JoinRequest) : Type 0 where
  pub leg : LegHasNoInjection c.leg
  pub invite : ParsedHasNoInjection c.invite.parsed
  pub token : HasNoInjection c.tokens.token

-- the leg that is moved out of a call, and the text of which tokens are drawn
pub record AdoptionHasNoInjection (a : Adoption) : Type 0 where
  pub leg : LegHasNoInjection a.leg
  pub token : HasNoInjection a.tokens.token

pub record ReceivedHasNoInjection (x : ReceivedSignal) : Type 0 where
  pub token : HasNoInjection x.tokens.token
  pub signal : SignalHasNoInjection x.signal

abbrev pub OpHasNoInjection : TableOp → Type 0
OpHasNoInjection (Opens coming) = JoinRequestHasNoInjection coming
OpHasNoInjection (Joins room coming) = JoinRequestHasNoInjection coming
OpHasNoInjection (Adopts room adoption) = AdoptionHasNoInjection adoption
OpHasNoInjection (Notifies room seat code tokens) = HasNoInjection tokens.token
OpHasNoInjection (Receives received) = ReceivedHasNoInjection received
OpHasNoInjection (Leaves room seat) = Unit {0}
OpHasNoInjection (Closes room) = Unit {0}
OpHasNoInjection (Drops count) = Unit {0}

-- ---- each message that is sent is clean, whatever was done before; and no header field is taken from an ACK of a 2xx, since a conference relays no ACK

abbrev pub EmitsHaveNoInjection : Type 0
EmitsHaveNoInjection = (config : ConferenceConfigView) (ops : List TableOp) (op : TableOp) → Each OpHasNoInjection (op ∷ ops) →
    Each (EmitHasNoInjection []) (effects_after config ops op).output.out

-- and its text has its own lines
abbrev pub EmitsHaveOwnFields : Type 0
EmitsHaveOwnFields = (config : ConferenceConfigView) (ops : List TableOp) (op : TableOp) → Each OpHasNoInjection (op ∷ ops) →
    Each (SendsOwnFields []) (effects_after config ops op).output.out
