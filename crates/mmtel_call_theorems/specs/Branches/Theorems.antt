-- What is claimed of each step of a call: its INVITEs, PRACKs and UPDATEs were sent, each once.
use Rattle.std.specs.Prelude.{◌≡◌, ◌<◌, ◌^◌, ℕ, List, ◌++◌}
use Rattle.mmtel_call_services.specs.CallConfig.{CallConfigView}
use Rattle.mmtel_call_services.specs.declared.openings.Arrival.{Arrival}
use Rattle.mmtel_call.specs.Closing.{StepResult}
use Rattle.mmtel_call.specs.Detaching.{call_finish, detached_in, with_leg_restored}
use Rattle.mmtel_call.specs.Opening.{call_after_opening}
use Rattle.mmtel_call.specs.Table.{step}
use Rattle.mmtel_call.specs.declared.calls.Call.{Call}
use Rattle.mmtel_call.specs.declared.signals.Signal.{Signal}
use Rattle.mmtel_output.specs.Outputs.{empty_output}
use Rattle.mmtel_leg.specs.declared.legs.Released.{Released}
use Rattle.mmtel_message.specs.Message.{Message}
use Rattle.mmtel_message.specs.declared.messages.Start.{Start}
use Rattle.mmtel_precedence.specs.Calls.{SnapshotView}
use Rattle.mmtel_transaction.specs.Tokens.{TokensView}
use Rattle.mmtel_types.specs.declared.addrs.Addr.{Addr}
use Rattle.mmtel_types.specs.declared.numbers.Peer.{Peer}
use Rattle.mmtel_types.specs.declared.sides.Side.{Side}
use Rattle.mmtel_call_theorems.specs.Branches.SentRequests.{AreNumbered, CallWasSent, RequestWasSent, requests_in}

-- of a step before which these tokens were drawn and these requests were sent
pub record SendsOnce (sip : Addr) (before : List (Peer × Message Start)) (tokens : TokensView) (s : StepResult) : Type 0 where
  -- each INVITE of the call, and each request in flight, was sent to its peer, before or in this step
  pub call_in : CallWasSent (RequestWasSent sip (before ++ requests_in s.output.out)) s.call
  -- the INVITEs, PRACKs and UPDATEs that are sent have numbers that were drawn in this step, each its own
  pub out_in : s.output.tokens.drawn < 2 ^ 60 → AreNumbered sip tokens.token tokens.drawn s.output.tokens.drawn s.output.out
  pub text_in : s.output.tokens.token ≡ tokens.token

abbrev pub StepsSendOnce : Type 0
StepsSendOnce = (config : CallConfigView) (now : SnapshotView) (received : Signal) (c : Call) (before : List (Peer × Message Start)) (tokens : TokensView) →
    CallWasSent (RequestWasSent config.sip before) c → SendsOnce config.sip before tokens (step config now received c (empty_output tokens))

abbrev pub OpeningsSendOnce : Type 0
OpeningsSendOnce = (config : CallConfigView) (now : SnapshotView) (arrival : Arrival) (before : List (Peer × Message Start)) (tokens : TokensView) →
    SendsOnce config.sip before tokens (call_after_opening config now arrival (empty_output tokens))

-- of the end of a call whose leg is detached
abbrev pub EndsSendOnce : Type 0
EndsSendOnce = (config : CallConfigView) (at : ℕ) (c : Call) (before : List (Peer × Message Start)) (tokens : TokensView) →
    CallWasSent (RequestWasSent config.sip before) c → SendsOnce config.sip before tokens (call_finish config at c (empty_output tokens))

abbrev pub DetachedCallsWereSent : Type 0
DetachedCallsWereSent = (sip : Addr) (side : Side) (c : Call) (before : List (Peer × Message Start)) → CallWasSent (RequestWasSent sip before) c →
    CallWasSent (RequestWasSent sip before) (detached_in c.phase side c)

abbrev pub RestoredCallsWereSent : Type 0
RestoredCallsWereSent = (sip : Addr) (away : Released) (c : Call) (before : List (Peer × Message Start)) → CallWasSent (RequestWasSent sip before) c →
    CallWasSent (RequestWasSent sip before) (with_leg_restored c.phase away c)
