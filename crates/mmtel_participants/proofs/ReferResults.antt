-- The result of a REFER, by the route that leads to the referred party.
use Rattle.std.proofs.Common.{◌≡◌, ℕ, List, Option, Some, ap}
use Rattle.std.specs.Prelude.{Result, Ok, Err}
use Rattle.mmtel_output.specs.Outputs.{after_draw}
use Rattle.mmtel_output.specs.declared.outputs.StepOutput.{StepOutput}
use Rattle.mmtel_lex.specs.Grammar.{uri_text}
use Rattle.mmtel_lex.specs.declared.values.Uri.{Uri}
use Rattle.mmtel_trust.specs.Accounts.{account_of}
use Rattle.mmtel_trust.specs.Peers.{route_of}
use Rattle.mmtel_types.specs.declared.numbers.Peer.{Peer}
use Rattle.mmtel_participants.specs.Inviting.{invitation_dialog, invite_started, peer_or_status, refer_refused, refer_step, refer_step_by}
use Rattle.mmtel_participants.specs.Participants.{has_no_free_seat}
use Rattle.mmtel_participants.specs.ConferenceConfig.{ConferenceConfigView}
use Rattle.mmtel_participants.specs.Targets.{target_of}
use Rattle.mmtel_participants.specs.declared.numbers.NextNumbers.{NextNumbers}
use Rattle.mmtel_participants.specs.declared.participants.ParticipantState.{ParticipantState}

step_by_route : (config : ConferenceConfigView) (now : ℕ) (next : NextNumbers) (by : ℕ) (seats : List ParticipantState) (o : Option Uri) (u : Uri) (way : Result Peer ℕ) (output : StepOutput) →
    o ≡ Some u → peer_or_status (route_of u config.peers.routes) (has_no_free_seat seats) ≡ way → refer_step config now next by seats o output ≡ refer_step_by config now next by u way output
unfolding refer_step
step_by_route config now next by seats o u way output is leads = rw is (ap (λ (w : Result Peer ℕ). refer_step_by config now next by u w output) leads)

pub refer_step_refused : (config : ConferenceConfigView) (now : ℕ) (next : NextNumbers) (by : ℕ) (seats : List ParticipantState) (o : Option Uri) (u : Uri) (code : ℕ) (output : StepOutput) →
    o ≡ Some u → peer_or_status (route_of u config.peers.routes) (has_no_free_seat seats) ≡ Err code → refer_step config now next by seats o output ≡ refer_refused code output
refer_step_refused config now next by seats o u code output is leads = step_by_route config now next by seats o u (Err code) output is leads

pub refer_step_started : (config : ConferenceConfigView) (now : ℕ) (next : NextNumbers) (by : ℕ) (seats : List ParticipantState) (o : Option Uri) (u : Uri) (peer : Peer) (output : StepOutput) →
    o ≡ Some u → peer_or_status (route_of u config.peers.routes) (has_no_free_seat seats) ≡ Ok peer → refer_step config now next by seats o output
    ≡ invite_started config now next by (account_of config.accounts u) (invitation_dialog config next.room peer (uri_text (target_of u)) output) (after_draw (after_draw output))
refer_step_started config now next by seats o u peer output is leads = step_by_route config now next by seats o u (Ok peer) output is leads
