-- The INVITEs of conferences: each was sent, once, to the peer of its participant (RFC 3261 §8.1.1.7, §13.2.1, §17.1.3; RFC 4579 §5.5, §5.6).
use Rattle.std.specs.Prelude.{◌≡◌, ◌<◌, ◌^◌, ◌++◌, ℕ, List, ◌∷◌, Option, Some, None}
use Rattle.mmtel_call_theorems.specs.Branches.SentRequests.{AbandonedWasSent, AreNumbered, Each, SentInviteWasSent, SomeInviteWasSent, requests_in}
use Rattle.mmtel_output.specs.declared.outputs.StepOutput.{StepOutput}
use Rattle.mmtel_focus.specs.Operations.{TableOp, effects_after, table_after}
use Rattle.mmtel_focus.specs.Conferences.{Conference}
use Rattle.mmtel_participants.specs.declared.participants.Invite.{Invite}
use Rattle.mmtel_participants.specs.declared.participants.Invite.TheVariants.{Accepted, Outstanding}
use Rattle.mmtel_participants.specs.declared.participants.ParticipantState.{ParticipantState}
use Rattle.mmtel_focus.specs.Participants.{dialogue_of}
use Rattle.mmtel_focus.specs.ConferenceConfig.{ConferenceConfigView}
use Rattle.mmtel_focus.specs.Table.{Table}
use Rattle.mmtel_message.specs.Message.{Message}
use Rattle.mmtel_message.specs.declared.messages.Start.{Start}
use Rattle.mmtel_run_definitions.specs.ShortRuns.{tokens_of_op}
use Rattle.mmtel_transaction.specs.Tokens.{TokensView}
use Rattle.mmtel_types.specs.declared.addrs.Addr.{Addr}
use Rattle.mmtel_types.specs.declared.numbers.Peer.{Peer}

-- ---- for a predicate of which INVITEs were sent, and to whom

-- the INVITE of a participant, whose dialog is with this peer
abbrev pub ParticipantInviteWasSent : (List ℕ → Peer → Type 0) → Peer → Option Invite → Type 0
ParticipantInviteWasSent sent peer None = Unit {0}
ParticipantInviteWasSent sent peer (Some (Outstanding number i)) = SentInviteWasSent sent i × sent i.branch peer
ParticipantInviteWasSent sent peer (Some (Accepted branch tag ack)) = sent branch peer

abbrev pub ParticipantWasSent : (List ℕ → Peer → Type 0) → ParticipantState → Type 0
ParticipantWasSent sent seat = ParticipantInviteWasSent sent (dialogue_of seat).peer seat.invite

abbrev pub ConferenceWasSent : (List ℕ → Peer → Type 0) → Conference → Type 0
ConferenceWasSent sent room = Each (ParticipantWasSent sent) room.participants

-- those of the participants, and those that were abandoned
pub record TableWasSent (sent : List ℕ → Peer → Type 0) (table : Table) : Type 0 where
  pub live_in : Each (ConferenceWasSent sent) table.live
  pub abandoned_in : Each (AbandonedWasSent sent) table.abandoned

-- ---- for an operation that began with these tokens drawn, after all requests before

pub record OpSendsOnce (sip : Addr) (before : List (Peer × Message Start)) (tokens : TokensView) (output : StepOutput) (table : Table) : Type 0 where
  -- each INVITE of the conferences was sent to its peer, before or by this operation
  pub conferences_in : TableWasSent (SomeInviteWasSent sip (before ++ requests_in output.out)) table
  -- the INVITEs that are output have numbers that were drawn for this operation, each its own
  pub out_in : output.tokens.drawn < 2 ^ 60 → AreNumbered sip tokens.token tokens.drawn output.tokens.drawn output.out
  pub text_in : output.tokens.token ≡ tokens.token

abbrev pub ConferencesSendOnce : Type 0
ConferencesSendOnce = (config : ConferenceConfigView) (ops : List TableOp) (op : TableOp) (before : List (Peer × Message Start)) →
    TableWasSent (SomeInviteWasSent config.sip before) (table_after config ops) →
    OpSendsOnce config.sip before (tokens_of_op op) (effects_after config ops op).output (table_after config (op ∷ ops))
