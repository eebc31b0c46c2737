-- What a conference does with a REFER follows the result of that REFER.
use Rattle.std.proofs.Common.{◌≡◌, ℕ, Bool, true, false, Option, Some, None, refl}
use Rattle.mmtel_lex.specs.declared.values.Uri.{Uri}
use Rattle.mmtel_trust.specs.Peers.{route_of}
use Rattle.mmtel_types.specs.declared.numbers.Peer.{Peer}
use Rattle.mmtel_focus.specs.Joining.{after_invite_if_peer, after_refer, next_in}
use Rattle.mmtel_focus.specs.Private.{after_refer_step}
use Rattle.mmtel_focus.specs.Conferences.{StepResult}
use Rattle.mmtel_focus.specs.Participants.{is_full}
use Rattle.mmtel_focus.specs.ConferenceConfig.{ConferenceConfigView}
use Rattle.mmtel_participants.specs.Inviting.{refer_step, refer_step_at}

bid_led : (full : Bool) (config : ConferenceConfigView) (now by : ℕ) (peer : Peer) (u : Uri) (s : StepResult) → is_full s.conference ≡ full →
    after_invite_if_peer config now by (Some peer) u s ≡ after_refer_step config by (refer_step_at config now (next_in s.conference) by s.conference.participants u (Some peer) s.effects.output) s
bid_led true config now by peer u s is = rw is refl
bid_led false config now by peer u s is = rw is refl

bid_routed : (route : Option Peer) (config : ConferenceConfigView) (now by : ℕ) (u : Uri) (s : StepResult) →
    after_invite_if_peer config now by route u s ≡ after_refer_step config by (refer_step_at config now (next_in s.conference) by s.conference.participants u route s.effects.output) s
bid_routed None config now by u s = refl
bid_routed (Some peer) config now by u s = bid_led (is_full s.conference) config now by peer u s refl

pub bid_taken : (config : ConferenceConfigView) (now by : ℕ) (u : Option Uri) (s : StepResult) →
    after_refer config now by u s ≡ after_refer_step config by (refer_step config now (next_in s.conference) by s.conference.participants u s.effects.output) s
unfolding after_refer refer_step
bid_taken config now by None s = refl
bid_taken config now by (Some u) s = bid_routed (route_of u config.peers.routes) config now by u s
