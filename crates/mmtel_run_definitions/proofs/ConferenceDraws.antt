-- The output of conferences has tokens of the same text, and the count of drawn numbers never decreases.
use Rattle.std.proofs.Common.{◌&&◌, not, ℕ, List, [], ◌∷◌, Bool, true, false, Option, Some, None, Result, Ok, Err}
use Rattle.std.specs.Prelude.{codes, if◌then◌else◌, nat_lt, position, slice_get}
use Rattle.std.specs.Str.{bytes_eq}
use Rattle.mmtel_compose.specs.Responses.{allow_lines}
use Rattle.mmtel_compose.specs.ReceivedMessages.{MessageView, phrase_in, status_of}
use Rattle.mmtel_charging.specs.Meters.{MeterView}
use Rattle.mmtel_output.specs.AbandonedInvites.{is_of_branch}
use Rattle.mmtel_output.specs.Sending.{with_bye}
use Rattle.mmtel_output.specs.declared.outputs.StepOutput.{StepOutput}
use Rattle.mmtel_output.specs.declared.sent_invites.AbandonedInvite.{AbandonedInvite}
use Rattle.mmtel_focus.specs.Responses.{after_ack_retransmission, after_connect, after_end, after_invite_end, after_missing_ack, after_own_ack, after_ringing_limit, has_outstanding_number}
use Rattle.mmtel_focus.specs.Responses.{invite_after_due_cancel, is_ack_pending, is_success, on_any_response, on_cap, on_due, on_failure, on_no_ack, on_outstanding_response}
use Rattle.mmtel_focus.specs.Responses.{on_provisional, on_response_to, on_retransmission, on_success, on_timeout, to_tag_of, with_failure_ack, with_invite_cancel}
use Rattle.mmtel_focus.specs.Operations as rooms
use Rattle.mmtel_focus.specs.Operations.{TableOp, effects_of, table_after}
use Rattle.mmtel_focus.specs.Joining.{after_adoption, after_failure_notify, after_invite, after_invite_if_peer, after_join, after_refer, new_conference}
use Rattle.mmtel_focus.specs.Referrals.{referral_in}
use Rattle.mmtel_focus.specs.Requests.{after_accepted_refer, acknowledges, after_reinvite, after_response, participant_after_request, is_invite_outstanding, on_ack, on_bye, on_request_in_order}
use Rattle.mmtel_focus.specs.Requests.{on_checked_request, on_invite, on_referral, on_request, after_refusal, request_check, invite_in_flight, after_trying, after_out_of_order}
use Rattle.mmtel_focus.specs.Conferences.{Conference, StepResult, no_effects, with_output}
use Rattle.mmtel_focus.specs.ParticipantSignals as of_seat
use Rattle.mmtel_focus.specs.ParticipantSignals.{ParticipantSignal}
use Rattle.mmtel_focus.specs.Participants.{after_close, after_close_with, after_dismissal, after_leave, after_notify, after_notify_referrer, after_notify_to}
use Rattle.mmtel_focus.specs.Participants.{at_participant, at_place, by_participant, dialogue_of, effects_of_dismissal, effects_of_leave, has_seat_number, is_connected}
use Rattle.mmtel_focus.specs.Participants.{is_creator, is_full, leg_of, participant_after_bye, place_of, with_notify_to_party, with_participant, with_row_of_meter}
use Rattle.mmtel_focus.specs.ConferenceConfig.{ConferenceConfigView}
use Rattle.mmtel_focus.specs.Table as table
use Rattle.mmtel_focus.specs.Table.{ConferenceStep, Table, TableStep, access, conference_has_branch, is_provisional, next_room_number, open_result_at, open_result_in, participant_has_branch}
use Rattle.mmtel_focus.specs.Table.{step_by_branch, step_by_number, step_if_access, step_of_abandoned_response, step_of_adoption, step_of_join, step_of_notify, step_of_participant}
use Rattle.mmtel_focus.specs.Table.{step_of_response, step_of_response_at, step_of_signal, step_of_timeout, step_of_timeout_at, step_result_at, step_result_in, with_abandoned}
use Rattle.mmtel_output.specs.ResponseMatching.{awaited_request_branch, timed_out_branch}
use Rattle.mmtel_focus.specs.Texts.{own_status, status_line}
use Rattle.mmtel_focus.specs.declared.faults.RoomFault.{RoomFault}
use Rattle.mmtel_focus.specs.declared.referrals.Referral.{Referral}
use Rattle.mmtel_focus.specs.declared.referrals.Referral.TheVariants as referral
use Rattle.mmtel_participants.specs.declared.participants.Invite.{Invite}
use Rattle.mmtel_participants.specs.declared.participants.Invite.TheVariants.{Accepted, Outstanding}
use Rattle.mmtel_participants.specs.declared.participants.Party.{Party}
use Rattle.mmtel_participants.specs.declared.participants.Party.TheVariants.{DialedIn, DialedOut, Invited}
use Rattle.mmtel_participants.specs.declared.effects.Effects.{Effects}
use Rattle.mmtel_participants.specs.declared.participants.ParticipantState.{ParticipantState}
use Rattle.mmtel_focus.specs.declared.signals.RoomSignal.{RoomSignal}
use Rattle.mmtel_focus.specs.declared.signals.RoomSignal.TheVariants as signal
use Rattle.mmtel_leg.specs.Remotes.{remote_of}
use Rattle.mmtel_leg.specs.declared.dialogues.DialogueFault.{DialogueFault}
use Rattle.mmtel_leg.specs.declared.dialogues.DialogueFault.TheVariants.{OldCSeq, Pending, Unfinished}
use Rattle.mmtel_leg.specs.declared.legs.Released.{Released}
use Rattle.mmtel_lex.specs.declared.values.Uri.{Uri}
use Rattle.mmtel_message.specs.Faults.{is_method}
use Rattle.mmtel_sdp.specs.Offers.{offers_audio}
use Rattle.mmtel_transaction.specs.declared.words.RoomWord.{RoomWord}
use Rattle.mmtel_transaction.specs.declared.words.RoomWord.TheVariants as due
use Rattle.mmtel_transaction.specs.declared.words.TKey.{TKey}
use Rattle.mmtel_trust.specs.Peers.{route_of}
use Rattle.mmtel_types.specs.declared.addrs.Addr.{Addr}
use Rattle.mmtel_types.specs.declared.numbers.Account.{Account}
use Rattle.mmtel_types.specs.declared.numbers.Peer.{Peer}
use Rattle.mmtel_types.specs.declared.numbers.RoomNo.{RoomNo}
use Rattle.mmtel_types.specs.declared.sides.Side.TheVariants.{Callee}
use Rattle.mmtel_run_definitions.proofs.CallDraws.{On, abandoned-on, none, once, then_on, thrice, with_due_cancel-on}
use Rattle.mmtel_run_definitions.specs.ShortRuns.{ConferencesDrawOn, tokens_of_op}

-- from one step of a conference to another
abbrev output_of_step : StepResult → StepOutput
output_of_step s = s.effects.output

abbrev Draws : StepResult → StepResult → Type 0
Draws s t = On (output_of_step s) (output_of_step t)

stays : (s : StepResult) → Draws s s
stays s = none (output_of_step s)

then_draws : (s t u : StepResult) → Draws s t → Draws t u → Draws s u
then_draws s t u a b = then_on (output_of_step s) (output_of_step t) (output_of_step u) a b

draws_if : (b : Bool) (s t u : StepResult) → Draws s t → Draws s u → Draws s (if b then t else u)
draws_if true s t u a b = a
draws_if false s t u a b = b

-- ---- a transition, at the position of its participant

abbrev TransitionDraws : (row : (place : ℕ) → ParticipantState → StepResult → StepResult) → Type 0
TransitionDraws row = (place : ℕ) (seat : ParticipantState) (s : StepResult) → Draws s (row place seat s)

at_participant_draws : (row : (place : ℕ) → ParticipantState → StepResult → StepResult) → TransitionDraws row → (place : ℕ) (s : StepResult) → Draws s (at_participant row place s)
at_participant_draws row k place s = by (slice_get s.conference.participants place)
  where
    by : (o : Option ParticipantState) → Draws s (by_participant (row place) o s)
    by None = stays s
    by (Some seat) = k place seat s

at_place_draws : (row : (place : ℕ) → ParticipantState → StepResult → StepResult) → TransitionDraws row → (o : Option ℕ) (s : StepResult) → Draws s (at_place row o s)
at_place_draws row k None s = stays s
at_place_draws row k (Some place) s = at_participant_draws row k place s

-- ---- a participant is notified

party_notified : (config : ConferenceConfigView) (room : RoomNo) (goes_on : Bool) (line : List ℕ) (party : Party) (d : StepOutput) → On d (with_notify_to_party config room goes_on line party d)
party_notified config room goes_on line (Invited leg) d = none d
party_notified config room goes_on line (DialedIn leg) d = once d
party_notified config room goes_on line (DialedOut leg) d = once d

after_notify_draws : (config : ConferenceConfigView) (goes_on : Bool) (line : List ℕ) → TransitionDraws (after_notify config goes_on line)
after_notify_draws config goes_on line place seat s = party_notified config s.conference.number goes_on line seat.party (output_of_step s)

after_notify_to_draws : (config : ConferenceConfigView) (goes_on : Bool) (line : List ℕ) (number : ℕ) (s : StepResult) → Draws s (after_notify_to config goes_on line number s)
after_notify_to_draws config goes_on line number s = at_place_draws (after_notify config goes_on line) (after_notify_draws config goes_on line) (place_of number s.conference.participants) s

after_notify_referrer_draws : (config : ConferenceConfigView) (goes_on : Bool) (line : List ℕ) (by : Option ℕ) (s : StepResult) → Draws s (after_notify_referrer config goes_on line by s)
after_notify_referrer_draws config goes_on line None s = stays s
after_notify_referrer_draws config goes_on line (Some number) s = after_notify_to_draws config goes_on line number s

-- ---- a participant leaves

filed_on : (now : ℕ) (meter : Option MeterView) (d : StepOutput) → On d (with_row_of_meter now meter d)
filed_on now None d = none d
filed_on now (Some meter) d = none d

after_leave_on : (now : ℕ) (had_bye : Bool) (seat : ParticipantState) (e : Effects) → On e.output (effects_of_leave now had_bye seat e).output
after_leave_on now had_bye seat e = filed_on now (leg_of seat.party).meter e.output

after_leave_draws : (now : ℕ) (had_bye : Bool) → TransitionDraws (after_leave now had_bye)
after_leave_draws now had_bye place seat s = after_leave_on now had_bye seat s.effects

after_dismissal_on : (config : ConferenceConfigView) (now : ℕ) (seat : ParticipantState) (e : Effects) → On e.output (effects_of_dismissal config now seat e).output
after_dismissal_on config now seat e = by (is_connected seat)
  where
    by : (b : Bool) → On e.output (if b then effects_of_leave now true (participant_after_bye seat) (record e { output = with_bye config.sip (dialogue_of seat) e.output }) else effects_of_leave now false seat e).output
    by true = then_on e.output (with_bye config.sip (dialogue_of seat) e.output)
        (effects_of_leave now true (participant_after_bye seat) (record e { output = with_bye config.sip (dialogue_of seat) e.output })).output (once e.output)
        (after_leave_on now true (participant_after_bye seat) (record e { output = with_bye config.sip (dialogue_of seat) e.output }))
    by false = after_leave_on now false seat e

after_dismissal_draws : (config : ConferenceConfigView) (now : ℕ) → TransitionDraws (after_dismissal config now)
after_dismissal_draws config now place seat s = after_dismissal_on config now seat s.effects

after_close_draws : (config : ConferenceConfigView) (now : ℕ) (seats : List ParticipantState) (s : StepResult) → Draws s (after_close config now seats s)
unfolding after_close
after_close_draws config now [] s = stays s
after_close_draws config now (seat ∷ seats) s =
    then_draws s (after_dismissal config now 0 seat s) (after_close config now seats (after_dismissal config now 0 seat s)) (after_dismissal_draws config now 0 seat s)
    (after_close_draws config now seats (after_dismissal config now 0 seat s))

after_close_with_draws : (config : ConferenceConfigView) (now number : ℕ) (s : StepResult) → Draws s (after_close_with config now number s)
after_close_with_draws config now number s = draws_if (is_creator number) s (after_close config now s.conference.participants s) s (after_close_draws config now s.conference.participants s) (stays s)

-- ---- a participant joins

after_join_draws : (config : ConferenceConfigView) (now : ℕ) (leg : Released) (account : Option Account) (key : TKey) (m : MessageView) (s : StepResult) → Draws s (after_join config now leg account key m s)
unfolding after_join
after_join_draws config now leg account key m s = stays s

failure_draws : (config : ConferenceConfigView) (by code : ℕ) (s : StepResult) → Draws s (after_failure_notify config by code s)
failure_draws config by code s = after_notify_to_draws config false (own_status code) by s

after_invite_if_peer_draws : (config : ConferenceConfigView) (now by : ℕ) (o : Option Peer) (u : Uri) (s : StepResult) → Draws s (after_invite_if_peer config now by o u s)
after_invite_if_peer_draws config now by None u s = failure_draws config by 404 s
after_invite_if_peer_draws config now by (Some peer) u s =
    draws_if (is_full s.conference) s (after_failure_notify config by 503 s) (after_invite config now by peer u s) (failure_draws config by 503 s) (thrice (output_of_step s))

after_refer_draws : (config : ConferenceConfigView) (now by : ℕ) (o : Option Uri) (s : StepResult) → Draws s (after_refer config now by o s)
unfolding after_refer
after_refer_draws config now by None s = failure_draws config by 404 s
after_refer_draws config now by (Some u) s = after_invite_if_peer_draws config now by (route_of u config.peers.routes) u s

after_adoption_draws : (config : ConferenceConfigView) (now : ℕ) (leg : Released) (account : Option Account) (by : ℕ) (s : StepResult) → Draws s (after_adoption config now leg account by s)
unfolding after_adoption
after_adoption_draws config now leg account by s = once (output_of_step s)

-- ---- the requests of a participant

on_invite_draws : (config : ConferenceConfigView) (now : ℕ) (key : TKey) (m : MessageView) → TransitionDraws (on_invite config now key m)
on_invite_draws config now key m place seat s =
    draws_if (offers_audio m.parsed.body) s (after_reinvite config now key m place seat s) (after_refusal config key m 488 place seat s) (stays s) (stays s)

on_bye_draws : (config : ConferenceConfigView) (now : ℕ) (key : TKey) (m : MessageView) → TransitionDraws (on_bye config now key m)
on_bye_draws config now key m place seat s =
    let parted : StepResult = after_leave now false place seat (after_refusal config key m 200 place seat s) in
    then_draws s parted (after_close_with config now seat.number parted) (after_leave_draws now false place seat (after_refusal config key m 200 place seat s)) (after_close_with_draws config now seat.number parted)

on_referral_draws : (config : ConferenceConfigView) (now : ℕ) (key : TKey) (m : MessageView) (r : Referral) → TransitionDraws (on_referral config now key m r)
on_referral_draws config now key m referral.Missing place seat s = stays s
on_referral_draws config now key m referral.OtherMethod place seat s = stays s
on_referral_draws config now key m (referral.Invite u) place seat s =
    let tried : StepResult = after_trying config seat.number (after_accepted_refer config key m place seat s) in
    then_draws s tried (after_refer config now seat.number u tried) (after_notify_to_draws config true (own_status 100) seat.number (after_accepted_refer config key m place seat s))
    (after_refer_draws config now seat.number u tried)
on_referral_draws config now key m (referral.Replace r) place seat s = stays s

on_request_in_order_draws : (config : ConferenceConfigView) (now : ℕ) (key : TKey) (m : MessageView) → TransitionDraws (on_request_in_order config now key m)
on_request_in_order_draws config now key m place seat s =
    draws_if (is_method (codes "INVITE") m.parsed.start) s (on_invite config now key m place seat s) _ (on_invite_draws config now key m place seat s)
    (draws_if (is_method (codes "BYE") m.parsed.start) s (on_bye config now key m place seat s) _ (on_bye_draws config now key m place seat s)
    (draws_if (is_method (codes "REFER") m.parsed.start) s (on_referral config now key m (referral_in m.parsed.refer_to) place seat s) _ (on_referral_draws config now key m (referral_in m.parsed.refer_to) place seat s)
    (draws_if (is_method (codes "OPTIONS") m.parsed.start) s (after_response config key m 200 (allow_lines config.methods) place seat s) (after_refusal config key m 481 place seat s) (stays s) (stays s))))

after_out_of_order_draws : (config : ConferenceConfigView) (key : TKey) (m : MessageView) (fault : DialogueFault) → TransitionDraws (after_out_of_order config key m fault)
after_out_of_order_draws config key m (OldCSeq last) place seat s = stays s
after_out_of_order_draws config key m Pending place seat s = stays s
after_out_of_order_draws config key m Unfinished place seat s = stays s

on_checked_request_draws : (config : ConferenceConfigView) (now : ℕ) (key : TKey) (m : MessageView) (r : Result (Unit {0}) DialogueFault) → TransitionDraws (on_checked_request config now key m r)
on_checked_request_draws config now key m (Err fault) place seat s = after_out_of_order_draws config key m fault place seat s
on_checked_request_draws config now key m (Ok received) place seat s =
    at_participant_draws (on_request_in_order config now key m) (on_request_in_order_draws config now key m) place (with_participant place (participant_after_request m seat) s)

on_request_draws : (config : ConferenceConfigView) (now : ℕ) (key : TKey) (m : MessageView) → TransitionDraws (on_request config now key m)
unfolding on_request
on_request_draws config now key m place seat s =
    let r : Result (Unit {0}) DialogueFault = request_check (leg_of seat.party) m (invite_in_flight seat) in
    draws_if (is_connected seat) s (on_checked_request config now key m r place seat s) (after_refusal config key m 481 place seat s) (on_checked_request_draws config now key m r place seat s) (stays s)

on_ack_draws : (m : MessageView) → TransitionDraws (on_ack m)
unfolding on_ack
on_ack_draws m place seat s = draws_if (acknowledges m seat.pending_ack) s (with_participant place (record seat { pending_ack = None }) s) s (stays s) (stays s)

-- ---- the outcomes of the server's INVITE

after_end_draws : (config : ConferenceConfigView) (now : ℕ) (line : List ℕ) → TransitionDraws (after_end config now line)
after_end_draws config now line place seat s =
    let parted : StepResult = after_dismissal config now place seat s in
    then_draws s parted (after_notify_referrer config false line seat.by parted) (after_dismissal_draws config now place seat s) (after_notify_referrer_draws config false line seat.by parted)

after_invite_end_draws : (config : ConferenceConfigView) (now : ℕ) (line : List ℕ) → TransitionDraws (after_invite_end config now line)
after_invite_end_draws config now line place seat s = at_participant_draws (after_end config now line) (after_end_draws config now line) place (with_participant place (record seat { invite = None }) s)

after_own_ack_draws : (config : ConferenceConfigView) (tag : List ℕ) → TransitionDraws (after_own_ack config tag)
after_own_ack_draws config tag place seat s = once (output_of_step s)

on_success_draws : (config : ConferenceConfigView) (now : ℕ) (m : MessageView) → TransitionDraws (on_success config now m)
on_success_draws config now m place seat s =
    let stood : StepResult = after_connect now (remote_of Callee m.parsed.lines) place seat s in
    let agreed : StepResult = at_participant (after_own_ack config (to_tag_of m)) place stood in
    then_draws s agreed (after_notify_referrer config false (own_status 200) seat.by agreed) (at_participant_draws (after_own_ack config (to_tag_of m)) (after_own_ack_draws config (to_tag_of m)) place stood)
    (after_notify_referrer_draws config false (own_status 200) seat.by agreed)

with_failure_ack_on : (sip : Addr) (key : TKey) (m : MessageView) (o : Option Invite) (d : StepOutput) → On d (with_failure_ack sip key m o d)
with_failure_ack_on sip key m None d = none d
with_failure_ack_on sip key m (Some (Outstanding number i)) d = none d
with_failure_ack_on sip key m (Some (Accepted branch tag ack)) d = none d

on_failure_draws : (config : ConferenceConfigView) (now : ℕ) (key : TKey) (m : MessageView) → TransitionDraws (on_failure config now key m)
on_failure_draws config now key m place seat s =
    let acked : StepResult = with_output (with_failure_ack config.sip key m seat.invite s.effects.output) s in
    let line : List ℕ = status_line (status_of m.parsed.start) (phrase_in m.parsed.start) in
    then_draws s acked (after_invite_end config now line place seat acked) (with_failure_ack_on config.sip key m seat.invite s.effects.output) (after_invite_end_draws config now line place seat acked)

on_retransmission_draws : (m : MessageView) (tag ack : List ℕ) → TransitionDraws (on_retransmission m tag ack)
on_retransmission_draws m tag ack place seat s = draws_if (is_success (status_of m.parsed.start) && bytes_eq (to_tag_of m) tag) s (after_ack_retransmission ack seat s) s (stays s) (stays s)

on_outstanding_response_draws : (config : ConferenceConfigView) (now : ℕ) (key : TKey) (m : MessageView) → TransitionDraws (on_outstanding_response config now key m)
on_outstanding_response_draws config now key m place seat s =
    draws_if (nat_lt (status_of m.parsed.start) 200) s (on_provisional key place seat s) _ (stays s)
    (draws_if (nat_lt (status_of m.parsed.start) 300) s (on_success config now m place seat s) (on_failure config now key m place seat s) (on_success_draws config now m place seat s)
    (on_failure_draws config now key m place seat s))

on_response_to_draws : (o : Option Invite) (config : ConferenceConfigView) (now : ℕ) (key : TKey) (m : MessageView) → TransitionDraws (on_response_to o config now key m)
on_response_to_draws None config now key m place seat s = stays s
on_response_to_draws (Some (Outstanding number i)) config now key m place seat s = on_outstanding_response_draws config now key m place seat s
on_response_to_draws (Some (Accepted branch tag ack)) config now key m place seat s = on_retransmission_draws m tag ack place seat s

on_any_response_draws : (config : ConferenceConfigView) (now : ℕ) (key : TKey) (m : MessageView) → TransitionDraws (on_any_response config now key m)
unfolding on_any_response
on_any_response_draws config now key m place seat s = on_response_to_draws seat.invite config now key m place seat s

on_timeout_draws : (config : ConferenceConfigView) (now : ℕ) → TransitionDraws (on_timeout config now)
unfolding on_timeout
on_timeout_draws config now place seat s =
    draws_if (is_invite_outstanding seat.invite) s (after_invite_end config now (own_status 408) place seat s) s (after_invite_end_draws config now (own_status 408) place seat s) (stays s)

with_invite_cancel_on : (sip : Addr) (o : Option Invite) (d : StepOutput) → On d (with_invite_cancel sip o d)
with_invite_cancel_on sip None d = none d
with_invite_cancel_on sip (Some (Outstanding number i)) d = with_due_cancel-on sip i d
with_invite_cancel_on sip (Some (Accepted branch tag ack)) d = none d

after_ringing_limit_draws : (config : ConferenceConfigView) (now : ℕ) → TransitionDraws (after_ringing_limit config now)
after_ringing_limit_draws config now place seat s =
    let asked : StepResult = with_participant place (record seat { invite = invite_after_due_cancel seat.invite }) (with_output (with_invite_cancel config.sip seat.invite s.effects.output) s) in
    then_draws s asked (after_ringing_limit config now place seat s) (with_invite_cancel_on config.sip seat.invite s.effects.output)
    (at_participant_draws (after_end config now (own_status 408)) (after_end_draws config now (own_status 408)) place asked)

on_cap_draws : (config : ConferenceConfigView) (now number : ℕ) → TransitionDraws (on_cap config now number)
on_cap_draws config now number place seat s =
    draws_if (not (is_connected seat) && has_outstanding_number number seat.invite) s (after_ringing_limit config now place seat s) s (after_ringing_limit_draws config now place seat s) (stays s)

after_missing_ack_draws : (config : ConferenceConfigView) (now : ℕ) → TransitionDraws (after_missing_ack config now)
after_missing_ack_draws config now place seat s =
    let parted : StepResult = after_dismissal config now place seat s in
    then_draws s parted (after_close_with config now seat.number parted) (after_dismissal_draws config now place seat s) (after_close_with_draws config now seat.number parted)

on_no_ack_draws : (config : ConferenceConfigView) (now number : ℕ) → TransitionDraws (on_no_ack config now number)
on_no_ack_draws config now number place seat s = draws_if (is_ack_pending number seat.pending_ack) s (after_missing_ack config now place seat s) s (after_missing_ack_draws config now place seat s) (stays s)

on_due_draws : (config : ConferenceConfigView) (now : ℕ) (what : RoomWord) → TransitionDraws (on_due config now what)
unfolding on_due
on_due_draws config now (due.Cap number) place seat s = on_cap_draws config now number place seat s
on_due_draws config now (due.NoAck number) place seat s = on_no_ack_draws config now number place seat s

step_of_participant_draws : (config : ConferenceConfigView) (now : ℕ) (x : ParticipantSignal) → TransitionDraws (step_of_participant config now x)
unfolding step_of_participant
step_of_participant_draws config now (of_seat.Request key request) place seat s = on_request_draws config now key request place seat s
step_of_participant_draws config now (of_seat.Ack ack) place seat s = on_ack_draws ack place seat s
step_of_participant_draws config now (of_seat.Answer key response) place seat s = on_any_response_draws config now key response place seat s
step_of_participant_draws config now of_seat.Silent place seat s = on_timeout_draws config now place seat s
step_of_participant_draws config now (of_seat.Due what) place seat s = on_due_draws config now what place seat s

-- ---- a step of a conference

abbrev StepDraws : (row : StepResult → StepResult) → Type 0
StepDraws row = (s : StepResult) → Draws s (row s)

received_draws : (config : ConferenceConfigView) (now : ℕ) (whose : ParticipantState → Bool) (x : ParticipantSignal) → StepDraws (table.step_of_first config now whose x)
received_draws config now whose x s = at_place_draws (step_of_participant config now x) (step_of_participant_draws config now x) (position whose s.conference.participants) s

stepped_on : (row : StepResult → StepResult) → StepDraws row → (place : ℕ) (o : Option Conference) (rooms : List Conference) (e : Effects) → On e.output (step_result_at row place o rooms e).effects.output
stepped_on row k place None rooms e = none e.output
stepped_on row k place (Some room) rooms e = k (record { conference = room; effects = e })

step_result_in_on : (row : StepResult → StepResult) → StepDraws row → (o : Option ℕ) (rooms : List Conference) (e : Effects) → On e.output (step_result_in row o rooms e).effects.output
step_result_in_on row k None rooms e = none e.output
step_result_in_on row k (Some place) rooms e = stepped_on row k place (slice_get rooms place) rooms e

stays_on : (row : StepResult → StepResult) → StepDraws row → (place : ℕ) (o : Option Conference) (rooms : List Conference) (e : Effects) → On e.output (open_result_at row place o rooms e).effects.output
stays_on row k place None rooms e = none e.output
stays_on row k place (Some room) rooms e = k (record { conference = room; effects = e })

open_result_in_on : (row : StepResult → StepResult) → StepDraws row → (o : Option ℕ) (rooms : List Conference) (e : Effects) → On e.output (open_result_in row o rooms e).effects.output
open_result_in_on row k None rooms e = none e.output
open_result_in_on row k (Some place) rooms e = stays_on row k place (slice_get rooms place) rooms e

step_if_access_on : (row : StepResult → StepResult) → StepDraws row → (r : Result ℕ RoomFault) (rooms : List Conference) (e : Effects) → On e.output (step_if_access row r rooms e).effects.output
step_if_access_on row k (Ok place) rooms e = stays_on row k place (slice_get rooms place) rooms e
step_if_access_on row k (Err fault) rooms e = none e.output

-- ---- a signal

module _ (config : ConferenceConfigView) (now : ℕ) (rooms : List Conference) (abandoned : List AbandonedInvite) (e : Effects) where
  in_on : (room seat : ℕ) (x : ParticipantSignal) → On e.output (step_by_number config now room seat x rooms e).effects.output
  in_on room seat x = step_result_in_on (table.step_of_first config now (has_seat_number seat) x) (received_draws config now (has_seat_number seat) x) (table.place_of room rooms) rooms e

  of_on : (branch : List ℕ) (x : ParticipantSignal) → On e.output (step_by_branch config now branch x rooms e).effects.output
  of_on branch x = step_result_in_on (table.step_of_first config now (participant_has_branch branch) x) (received_draws config now (participant_has_branch branch) x)
      (position (conference_has_branch branch) rooms) rooms e

  abandoned_answered : (key : TKey) (m : MessageView) (place : ℕ) (o : Option AbandonedInvite) → On e.output (step_of_abandoned_response config.sip key m place o rooms abandoned e).effects.output
  abandoned_answered key m place None = none e.output
  abandoned_answered key m place (Some l) = abandoned-on config.sip key m.parsed l e.output

  step_of_response_at_on : (key : TKey) (m : MessageView) (branch : List ℕ) (o : Option ℕ) → On e.output (step_of_response_at config now key m branch o rooms abandoned e).effects.output
  step_of_response_at_on key m branch None = of_on branch (of_seat.Answer key m)
  step_of_response_at_on key m branch (Some place) = abandoned_answered key m place (slice_get abandoned place)

  step_of_response_on : (key : TKey) (m : MessageView) (o : Option (List ℕ)) → On e.output (step_of_response config now key m o rooms abandoned e).effects.output
  step_of_response_on key m None = none e.output
  step_of_response_on key m (Some branch) = step_of_response_at_on key m branch (position (is_of_branch branch) abandoned)

  step_of_timeout_at_on : (branch : List ℕ) (o : Option ℕ) → On e.output (step_of_timeout_at config now branch o rooms abandoned e).effects.output
  step_of_timeout_at_on branch None = of_on branch of_seat.Silent
  step_of_timeout_at_on branch (Some place) = none e.output

  step_of_timeout_on : (o : Option (List ℕ)) → On e.output (step_of_timeout config now o rooms abandoned e).effects.output
  step_of_timeout_on None = none e.output
  step_of_timeout_on (Some branch) = step_of_timeout_at_on branch (position (is_of_branch branch) abandoned)

  step_of_signal_on : (x : RoomSignal) → On e.output (step_of_signal config now x rooms abandoned e).effects.output
  unfolding step_of_signal
  step_of_signal_on (signal.Request room seat key request) = in_on room.0 seat (of_seat.Request key request)
  step_of_signal_on (signal.Ack room seat ack) = in_on room.0 seat (of_seat.Ack ack)
  step_of_signal_on (signal.Answer key response) = step_of_response_on key response (awaited_request_branch response)
  step_of_signal_on (signal.Silent branch method) = step_of_timeout_on (timed_out_branch branch method)
  step_of_signal_on (signal.Due room seat what) = in_on room.0 seat (of_seat.Due what)
  step_of_signal_on (signal.Over key) = none e.output

-- ---- an operation

step_of_join_on : (config : ConferenceConfigView) (now room : ℕ) (leg : Released) (account : Option Account) (key : TKey) (m : MessageView) (rooms : List Conference) (e : Effects) →
    On e.output (step_of_join config now room leg account key m rooms e).effects.output
unfolding step_of_join
step_of_join_on config now room leg account key m rooms e = step_if_access_on (after_join config now leg account key m) (after_join_draws config now leg account key m) (access room rooms) rooms e

step_of_adoption_on : (config : ConferenceConfigView) (now room : ℕ) (leg : Released) (account : Option Account) (by : ℕ) (rooms : List Conference) (e : Effects) →
    On e.output (step_of_adoption config now room leg account by rooms e).effects.output
unfolding step_of_adoption
step_of_adoption_on config now room leg account by rooms e = step_if_access_on (after_adoption config now leg account by) (after_adoption_draws config now leg account by) (access room rooms) rooms e

step_of_notify_on : (config : ConferenceConfigView) (room seat code : ℕ) (rooms : List Conference) (e : Effects) → On e.output (step_of_notify config room seat code rooms e).effects.output
unfolding step_of_notify
step_of_notify_on config room seat code rooms e =
    open_result_in_on (after_notify_to config (is_provisional code) (own_status code) seat) (after_notify_to_draws config (is_provisional code) (own_status code) seat) (table.place_of room rooms) rooms e

op_on : (config : ConferenceConfigView) (op : TableOp) (t : Table) → On (no_effects (tokens_of_op op)).output (effects_of config op t).output
op_on config (rooms.Opens c) t =
    let s : StepResult = record { conference = new_conference (next_room_number t); effects = no_effects c.tokens } in
    after_join_draws config c.at c.leg c.account c.key c.invite s
op_on config (rooms.Joins room c) t = step_of_join_on config c.at room c.leg c.account c.key c.invite t.live (no_effects c.tokens)
op_on config (rooms.Adopts room a) t = step_of_adoption_on config a.at room a.leg a.account a.by t.live (no_effects a.tokens)
op_on config (rooms.Notifies room seat code tokens) t = step_of_notify_on config room seat code t.live (no_effects tokens)
op_on config (rooms.Receives x) t = step_of_signal_on config x.at t.live t.abandoned (no_effects x.tokens) x.signal
op_on config (rooms.Leaves room seat) t = none (no_effects rooms.no_tokens).output
op_on config (rooms.Closes room) t = none (no_effects rooms.no_tokens).output
op_on config (rooms.Drops count) t = none (no_effects rooms.no_tokens).output

pub conferences_draw_on : ConferencesDrawOn
conferences_draw_on config ops op = op_on config op (table_after config ops)
