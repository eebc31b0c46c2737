-- Conferences respond in the server transaction of the request that is received, in the same step; what is no request gets no response.
use Rattle.std.proofs.Common.{Bool, true, false, ℕ, List, [], ◌∷◌, Option, Some, None, ◌&&◌, not, Result, Ok, Err, nat_lt, ◌≡◌}
use Rattle.std.specs.Prelude.{codes, if◌then◌else◌, slice_get, position}
use Rattle.mmtel_charging.specs.Meters.{MeterView}
use Rattle.mmtel_output.specs.Sending.{with_bye, with_ack, with_contact_response, with_own_request, with_cancel, with_due_cancel, with_final_ack}
use Rattle.mmtel_output.specs.declared.outputs.StepOutput.{StepOutput}
use Rattle.mmtel_output.specs.declared.sent_invites.SentInvite.{SentInvite}
use Rattle.mmtel_leg.specs.declared.dialogues.Dialogue.{Dialogue}
use Rattle.mmtel_types.specs.declared.numbers.RoomNo.{RoomNo}
use Rattle.mmtel_focus.specs.Conferences.{Conference, StepResult, with_output, no_effects}
use Rattle.mmtel_focus.specs.Participants.{at_place, at_participant, by_participant, after_close_with, dialogue_of, after_dismissal, with_row_of_meter, participant_after_bye, is_creator}
use Rattle.mmtel_focus.specs.Participants.{is_connected, effects_of_leave, leg_of, with_participant, after_notify, after_notify_referrer, after_notify_to, is_full, tag_of, has_seat_number}
use Rattle.mmtel_focus.specs.ConferenceConfig.{ConferenceConfigView}
use Rattle.mmtel_focus.specs.Texts.{answer_in, contact_and_sdp_lines, contact_value, own_status, sdp_lines, status_line}
use Rattle.mmtel_participants.specs.declared.effects.Effects.{Effects}
use Rattle.mmtel_participants.specs.declared.participants.Invite.{Invite}
use Rattle.mmtel_participants.specs.declared.participants.Invite.TheVariants.{Accepted, Outstanding}
use Rattle.mmtel_participants.specs.declared.participants.Party.{Party}
use Rattle.mmtel_participants.specs.declared.participants.Party.TheVariants.{DialedIn, DialedOut, Invited}
use Rattle.mmtel_participants.specs.declared.participants.ParticipantState.{ParticipantState}
use Rattle.std.specs.Str.{bytes_eq}
use Rattle.mmtel_base.specs.Numbers.{next_number}
use Rattle.mmtel_compose.specs.Responses.{allow_lines, retry_after_lines}
use Rattle.mmtel_compose.specs.ReceivedMessages.{MessageView, phrase_in, status_of}
use Rattle.mmtel_output.specs.Outputs.{after_draw, with_emit}
use Rattle.mmtel_output.specs.SentInvites.{is_cancellable, with_key}
use Rattle.mmtel_leg.specs.Releases.{released_leg}
use Rattle.mmtel_leg.specs.Remotes.{remote_of}
use Rattle.mmtel_leg.specs.declared.dialogues.DialogueFault.{DialogueFault}
use Rattle.mmtel_leg.specs.declared.dialogues.DialogueFault.TheVariants.{OldCSeq, Pending, Unfinished}
use Rattle.mmtel_leg.specs.declared.legs.Released.{Released}
use Rattle.mmtel_leg.specs.declared.remotes.Remote.{Remote}
use Rattle.mmtel_lex.specs.Grammar.{uri_text}
use Rattle.mmtel_lex.specs.declared.values.Uri.{Uri}
use Rattle.mmtel_message.specs.Faults.{is_method}
use Rattle.mmtel_message.specs.Message.{Line}
use Rattle.mmtel_message.specs.Responses.{response}
use Rattle.mmtel_sdp.specs.Mixer.{offer_text}
use Rattle.mmtel_sdp.specs.Offers.{offers_audio}
use Rattle.mmtel_transaction.specs.declared.words.RoomWord.{RoomWord}
use Rattle.mmtel_transaction.specs.declared.words.RoomWord.TheVariants as due
use Rattle.mmtel_transaction.specs.declared.words.TKey.{TKey}
use Rattle.mmtel_trust.specs.Peers.{route_of}
use Rattle.mmtel_types.specs.declared.addrs.Addr.{Addr}
use Rattle.mmtel_types.specs.declared.numbers.Account.{Account}
use Rattle.mmtel_types.specs.declared.numbers.Peer.{Peer}
use Rattle.mmtel_types.specs.declared.sides.Side.TheVariants.{Callee}
use Rattle.mmtel_focus.specs.Responses.{after_ack_retransmission, after_end, after_invite_end, after_missing_ack, after_own_ack, after_ringing_limit, connected_participant}
use Rattle.mmtel_focus.specs.Responses.{has_outstanding_number, invite_after_due_cancel, is_ack_pending, is_success, on_any_response, on_due, on_failure, on_outstanding_response}
use Rattle.mmtel_focus.specs.Responses.{on_provisional, on_response_to, on_retransmission, on_success, on_timeout, to_tag_of, with_failure_ack, with_invite_cancel}
use Rattle.mmtel_focus.specs.Joining.{after_adoption, with_accepted_invite, after_refer, after_join, invitation_dialog, after_invite, after_invite_if_peer, after_failure_notify, new_conference}
use Rattle.mmtel_focus.specs.Referrals.{referral_in, target_of}
use Rattle.mmtel_focus.specs.Requests as requests
use Rattle.mmtel_focus.specs.Requests.{acknowledges, after_accepted_refer, after_out_of_order, after_refusal, after_reinvite, after_response, after_trying, invite_in_flight}
use Rattle.mmtel_focus.specs.Requests.{is_invite_outstanding, on_ack, on_bye, on_checked_request, on_invite, on_referral, on_request, on_request_in_order, participant_after_request}
use Rattle.mmtel_focus.specs.declared.referrals.Referral.{Referral}
use Rattle.mmtel_focus.specs.declared.referrals.Referral.TheVariants as referral
use Rattle.mmtel_output.specs.AbandonedInvites.{AfterResponse, is_of_branch, ended_dialog, after_due_cancel, on_success_in, after_provisional, with_invite}
use Rattle.mmtel_output.specs.declared.sent_invites.AbandonedInvite.{AbandonedInvite}
use Rattle.mmtel_transaction.specs.Tokens.{TokensView}
use Rattle.mmtel_focus.specs.Operations.{Adoption, JoinRequest, TableOp, Opens, Joins, Adopts, Notifies, Receives, Leaves, Closes, Drops, step_on_adopt, effects_of, step_on_join}
use Rattle.mmtel_focus.specs.ParticipantSignals as of_seat
use Rattle.mmtel_focus.specs.ParticipantSignals.{ParticipantSignal}
use Rattle.mmtel_focus.specs.Participants as seats
use Rattle.mmtel_focus.specs.Table as table
use Rattle.mmtel_focus.specs.Table.{Table, access, conference_has_branch, is_provisional, next_room_number, open_result_at, open_result_in, participant_has_branch}
use Rattle.mmtel_focus.specs.Table.{place_of, step_by_branch, step_by_number, step_if_access, step_of_abandoned_response, step_of_adoption, step_of_join, step_of_notify}
use Rattle.mmtel_focus.specs.Table.{step_of_participant, step_of_response, step_of_signal, step_of_timeout, step_of_timeout_at, step_result_at, step_result_in}
use Rattle.mmtel_output.specs.ResponseMatching.{awaited_request_branch, timed_out_branch}
use Rattle.mmtel_focus.specs.declared.faults.RoomFault.{RoomFault}
use Rattle.mmtel_focus.specs.declared.signals.RoomSignal.{RoomSignal}
use Rattle.mmtel_focus.specs.declared.signals.RoomSignal.TheVariants as signal
use Rattle.mmtel_transaction.specs.declared.words.Emit.{Emit}
use Rattle.mmtel_focus.specs.Operations as histories
use Rattle.mmtel_output.specs.AbandonedInvites as left_ones
use Rattle.mmtel_trust.specs.ParsedMessage.{ParsedMessage}
use Rattle.mmtel_call_theorems.specs.NoInjection.Emits.{Each}
use Rattle.mmtel_call_theorems.specs.Replies.{IsRepliedIn}
use Rattle.mmtel_call_theorems.proofs.NoInjection.Sending.{each_append}
use Rattle.mmtel_focus_theorems.specs.Replies.{ConferencesReplyInTheirOwn, OpIsOf, SignalIsOf}

module _ (own : ℕ → Bool) where
  -- ---- the output

  abbrev Own : TKey → Type 0
  Own key = own key.0 ≡ true

  abbrev Sends : StepOutput → Type 0
  Sends output = Each (IsRepliedIn own) output.out

  emit_in : (e : Emit) (output : StepOutput) → IsRepliedIn own e → Sends output → Sends (with_emit e output)
  emit_in e output is had = each_append (IsRepliedIn own) output.out (e ∷ []) had (is, tt)

  if_output : (b : Bool) (one two : StepOutput) → Sends one → Sends two → Sends (if b then one else two)
  if_output true one two e f = e
  if_output false one two e f = f

  -- ---- a transition at the place of its participant

  abbrev Replied : StepResult → Type 0
  Replied s = Sends s.effects.output

  abbrev Keeps : (row : (place : ℕ) → ParticipantState → StepResult → StepResult) → Type 0
  Keeps row = (place : ℕ) (seat : ParticipantState) (s : StepResult) → Replied s → Replied (row place seat s)

  if_step : (b : Bool) (one two : StepResult) → Replied one → Replied two → Replied (if b then one else two)
  if_step true one two e f = e
  if_step false one two e f = f

  by_participant_in : (row : ParticipantState → StepResult → StepResult) (o : Option ParticipantState) (s : StepResult) → ((seat : ParticipantState) → Replied (row seat s)) → Replied s → Replied (by_participant row o s)
  by_participant_in row None s k is = is
  by_participant_in row (Some seat) s k is = k seat

  at_participant_in : (row : (place : ℕ) → ParticipantState → StepResult → StepResult) → Keeps row → (place : ℕ) (s : StepResult) → Replied s → Replied (at_participant row place s)
  at_participant_in row k place s is = by_participant_in (row place) (slice_get s.conference.participants place) s (λ seat. k place seat s is) is

  at_place_in : (row : (place : ℕ) → ParticipantState → StepResult → StepResult) → Keeps row → (o : Option ℕ) (s : StepResult) → Replied s → Replied (at_place row o s)
  at_place_in row k None s is = is
  at_place_in row k (Some place) s is = at_participant_in row k place s is

  -- ---- NOTIFY

  step_of_notify_in : (config : ConferenceConfigView) (room : RoomNo) (on : Bool) (line : List ℕ) (party : Party) (output : StepOutput) → Sends output → Sends (seats.with_notify_to_party config room on line party output)
  step_of_notify_in config room on line (Invited leg) output had = had
  step_of_notify_in config room on line (DialedIn leg) output had = emit_in _ (after_draw output) tt had
  step_of_notify_in config room on line (DialedOut leg) output had = emit_in _ (after_draw output) tt had

  after_notify_in : (config : ConferenceConfigView) (on : Bool) (line : List ℕ) → Keeps (after_notify config on line)
  after_notify_in config on line place seat s is = step_of_notify_in config s.conference.number on line seat.party s.effects.output is

  after_notify_to_in : (config : ConferenceConfigView) (on : Bool) (line : List ℕ) (number : ℕ) (s : StepResult) → Replied s → Replied (after_notify_to config on line number s)
  after_notify_to_in config on line number s is = at_place_in (after_notify config on line) (after_notify_in config on line) (seats.place_of number s.conference.participants) s is

  after_notify_referrer_in : (config : ConferenceConfigView) (on : Bool) (line : List ℕ) (by : Option ℕ) (s : StepResult) → Replied s → Replied (after_notify_referrer config on line by s)
  after_notify_referrer_in config on line None s is = is
  after_notify_referrer_in config on line (Some number) s is = after_notify_to_in config on line number s is

  -- ---- a participant leaves, and the conference closes

  filed_in : (at : ℕ) (meter : Option MeterView) (output : StepOutput) → Sends output → Sends (with_row_of_meter at meter output)
  filed_in at None output is = is
  filed_in at (Some meter) output is = is

  left_in_own : (at : ℕ) (had_bye : Bool) → Keeps (seats.after_leave at had_bye)
  left_in_own at had_bye place seat s is = filed_in at (leg_of seat.party).meter s.effects.output is

  after_dismissal_in : (config : ConferenceConfigView) (at : ℕ) → Keeps (after_dismissal config at)
  after_dismissal_in config at place seat s is = by (is_connected seat)
    where
      output : StepOutput
      output = with_bye config.sip (dialogue_of seat) s.effects.output

      by : (b : Bool) → Sends (if b then effects_of_leave at true (participant_after_bye seat) (record s.effects { output = output }) else effects_of_leave at false seat s.effects).output
      by true = filed_in at (leg_of (participant_after_bye seat).party).meter output (emit_in _ (after_draw s.effects.output) tt is)
      by false = filed_in at (leg_of seat.party).meter s.effects.output is

  closed_in : (config : ConferenceConfigView) (at : ℕ) (all : List ParticipantState) (s : StepResult) → Replied s → Replied (seats.after_close config at all s)
  unfolding seats.after_close
  closed_in config at [] s is = is
  closed_in config at (seat ∷ all) s is = closed_in config at all (after_dismissal config at 0 seat s) (after_dismissal_in config at 0 seat s is)

  after_close_with_in : (config : ConferenceConfigView) (at : ℕ) (number : ℕ) (s : StepResult) → Replied s → Replied (after_close_with config at number s)
  after_close_with_in config at number s is = if_step (is_creator number) (seats.after_close config at s.conference.participants s) s (closed_in config at s.conference.participants s is) is

  -- ---- a request gets its response in its own transaction

  after_refusal_in : (config : ConferenceConfigView) (key : TKey) (m : MessageView) (code : ℕ) → Own key → Keeps (after_refusal config key m code)
  after_refusal_in config key m code h place seat s is = emit_in _ s.effects.output h is

  with_lines_in : (config : ConferenceConfigView) (key : TKey) (m : MessageView) (code : ℕ) (named : List Line) → Own key → Keeps (after_response config key m code named)
  with_lines_in config key m code named h place seat s is = emit_in _ s.effects.output h is

  with_accepted_invite_in : (config : ConferenceConfigView) (at : ℕ) (room : RoomNo) (seat number : ℕ) (key : TKey) (m : MessageView) (tag : List ℕ) (output : StepOutput) → Own key → Sends output →
      Sends (with_accepted_invite config at room seat number key m tag output)
  with_accepted_invite_in config at room seat number key m tag output h had =
      emit_in _ (with_contact_response (contact_value config.sip room) key m tag 200 [] sdp_lines (answer_in config.mixer m.parsed.body) output) tt (emit_in _ output h had)

  invite_in : (config : ConferenceConfigView) (at : ℕ) (key : TKey) (m : MessageView) → Own key → Keeps (on_invite config at key m)
  invite_in config at key m h place seat s is =
      if_step (offers_audio m.parsed.body) (after_reinvite config at key m place seat s) (after_refusal config key m 488 place seat s)
      (with_accepted_invite_in config at s.conference.number seat.number (next_number s.conference.last_number) key m (tag_of seat) s.effects.output h is) (after_refusal_in config key m 488 h place seat s is)

  with_bye_row : (config : ConferenceConfigView) (at : ℕ) (key : TKey) (m : MessageView) → Own key → Keeps (on_bye config at key m)
  with_bye_row config at key m h place seat s is =
      let answered_it : StepResult = after_refusal config key m 200 place seat s in
      after_close_with_in config at seat.number (seats.after_leave at false place seat answered_it) (left_in_own at false place seat answered_it (after_refusal_in config key m 200 h place seat s is))

  -- ---- a party becomes a participant

  after_invite_in : (config : ConferenceConfigView) (at by : ℕ) (peer : Peer) (u : Uri) (s : StepResult) → Replied s → Replied (after_invite config at by peer u s)
  after_invite_in config at by peer u s is =
      let uri : List ℕ = uri_text (target_of u) in
      let d : Dialogue = invitation_dialog config s.conference.number peer uri s.effects.output in
      let third : StepOutput = after_draw (after_draw (after_draw s.effects.output)) in
      emit_in _ (with_own_request config.sip (codes "INVITE") d (contact_and_sdp_lines config.sip s.conference.number) (offer_text config.mixer) (after_draw (after_draw s.effects.output))) tt (emit_in _ third tt is)

  at_peer_in : (config : ConferenceConfigView) (at by : ℕ) (o : Option Peer) (u : Uri) (s : StepResult) → Replied s → Replied (after_invite_if_peer config at by o u s)
  at_peer_in config at by None u s is = after_notify_to_in config false (own_status 404) by s is
  at_peer_in config at by (Some peer) u s is = if_step (is_full s.conference) (after_failure_notify config by 503 s) (after_invite config at by peer u s)
      (after_notify_to_in config false (own_status 503) by s is) (after_invite_in config at by peer u s is)

  after_refer_in : (config : ConferenceConfigView) (at by : ℕ) (o : Option Uri) (s : StepResult) → Replied s → Replied (after_refer config at by o s)
  unfolding after_refer
  after_refer_in config at by None s is = after_notify_to_in config false (own_status 404) by s is
  after_refer_in config at by (Some u) s is = at_peer_in config at by (route_of u config.peers.routes) u s is

  after_join_in : (config : ConferenceConfigView) (at : ℕ) (leg : Released) (account : Option Account) (key : TKey) (m : MessageView) (s : StepResult) → Own key → Replied s →
      Replied (after_join config at leg account key m s)
  unfolding after_join
  after_join_in config at leg account key m s h is = with_accepted_invite_in config at s.conference.number (next_number s.conference.last_seat) (next_number s.conference.last_number) key m
      (released_leg leg).dialogue.local_tag s.effects.output h is

  after_adoption_in : (config : ConferenceConfigView) (at : ℕ) (leg : Released) (account : Option Account) (by : ℕ) (s : StepResult) → Replied s → Replied (after_adoption config at leg account by s)
  unfolding after_adoption
  after_adoption_in config at leg account by s is = emit_in _ (after_draw s.effects.output) tt is

  -- ---- REFER

  after_accepted_refer_in : (config : ConferenceConfigView) (key : TKey) (m : MessageView) → Own key → Keeps (after_accepted_refer config key m)
  after_accepted_refer_in config key m h place seat s is = emit_in _ s.effects.output h is

  referral_row : (config : ConferenceConfigView) (at : ℕ) (key : TKey) (m : MessageView) (r : Referral) → Own key → Keeps (on_referral config at key m r)
  referral_row config at key m referral.Missing h place seat s is = after_refusal_in config key m 400 h place seat s is
  referral_row config at key m referral.OtherMethod h place seat s is = after_refusal_in config key m 403 h place seat s is
  referral_row config at key m (referral.Replace r) h place seat s is = after_accepted_refer_in config key m h place seat s is
  referral_row config at key m (referral.Invite u) h place seat s is =
      let took : StepResult = after_accepted_refer config key m place seat s in
      after_refer_in config at seat.number u (after_trying config seat.number took) (after_notify_to_in config true (own_status 100) seat.number took (after_accepted_refer_in config key m h place seat s is))

  -- ---- a request

  received_row : (config : ConferenceConfigView) (at : ℕ) (key : TKey) (m : MessageView) → Own key → Keeps (on_request_in_order config at key m)
  received_row config at key m h place seat s is =
      if_step (is_method (codes "INVITE") m.parsed.start) (on_invite config at key m place seat s) other (invite_in config at key m h place seat s is)
      (if_step (is_method (codes "BYE") m.parsed.start) (on_bye config at key m place seat s) third (with_bye_row config at key m h place seat s is)
      (if_step (is_method (codes "REFER") m.parsed.start) referred_to fourth (referral_row config at key m (referral_in m.parsed.refer_to) h place seat s is)
      (if_step (is_method (codes "OPTIONS") m.parsed.start) (after_response config key m 200 (allow_lines config.methods) place seat s) (after_refusal config key m 481 place seat s)
      (with_lines_in config key m 200 (allow_lines config.methods) h place seat s is) (after_refusal_in config key m 481 h place seat s is))))
    where
      referred_to : StepResult
      referred_to = on_referral config at key m (referral_in m.parsed.refer_to) place seat s

      fourth : StepResult
      fourth = if is_method (codes "OPTIONS") m.parsed.start then after_response config key m 200 (allow_lines config.methods) place seat s else after_refusal config key m 481 place seat s

      third : StepResult
      third = if is_method (codes "REFER") m.parsed.start then referred_to else fourth

      other : StepResult
      other = if is_method (codes "BYE") m.parsed.start then on_bye config at key m place seat s else third

  fault_in : (config : ConferenceConfigView) (key : TKey) (m : MessageView) (fault : DialogueFault) → Own key → Keeps (after_out_of_order config key m fault)
  fault_in config key m (OldCSeq last) h place seat s is = after_refusal_in config key m 500 h place seat s is
  fault_in config key m Pending h place seat s is = after_refusal_in config key m 491 h place seat s is
  fault_in config key m Unfinished h place seat s is = with_lines_in config key m 500 retry_after_lines h place seat s is

  receiving_in : (config : ConferenceConfigView) (at : ℕ) (key : TKey) (m : MessageView) (r : Result (Unit {0}) DialogueFault) → Own key → Keeps (on_checked_request config at key m r)
  receiving_in config at key m (Err fault) h place seat s is = fault_in config key m fault h place seat s is
  receiving_in config at key m (Ok received) h place seat s is =
      at_participant_in (on_request_in_order config at key m) (received_row config at key m h) place (with_participant place (participant_after_request m seat) s) is

  request_row : (config : ConferenceConfigView) (at : ℕ) (key : TKey) (m : MessageView) → Own key → Keeps (on_request config at key m)
  unfolding on_request
  request_row config at key m h place seat s is =
      if_step (is_connected seat) (on_checked_request config at key m (requests.request_check (leg_of seat.party) m (invite_in_flight seat)) place seat s) (after_refusal config key m 481 place seat s)
      (receiving_in config at key m (requests.request_check (leg_of seat.party) m (invite_in_flight seat)) h place seat s is) (after_refusal_in config key m 481 h place seat s is)

  ack_row : (m : MessageView) → Keeps (on_ack m)
  unfolding on_ack
  ack_row m place seat s is = if_step (acknowledges m seat.pending_ack) (with_participant place (record seat { pending_ack = None }) s) s is is

  -- ---- what is no request gets no response

  after_own_ack_in : (config : ConferenceConfigView) (tag : List ℕ) → Keeps (after_own_ack config tag)
  after_own_ack_in config tag place seat s is = emit_in _ (after_draw s.effects.output) tt is

  success_in : (config : ConferenceConfigView) (at : ℕ) (m : MessageView) → Keeps (on_success config at m)
  success_in config at m place seat s is =
      let next : StepResult = with_participant place (connected_participant s.conference.number at (remote_of Callee m.parsed.lines) seat) s in
      after_notify_referrer_in config false (own_status 200) seat.by (at_participant (after_own_ack config (to_tag_of m)) place next)
      (at_participant_in (after_own_ack config (to_tag_of m)) (after_own_ack_in config (to_tag_of m)) place next is)

  without_in : (config : ConferenceConfigView) (at : ℕ) (line : List ℕ) → Keeps (after_end config at line)
  without_in config at line place seat s is = after_notify_referrer_in config false line seat.by (after_dismissal config at place seat s) (after_dismissal_in config at place seat s is)

  then_without : (config : ConferenceConfigView) (at : ℕ) (line : List ℕ) (place : ℕ) (seat : ParticipantState) (invite : Option Invite) (s : StepResult) → Replied s →
      Replied (at_participant (after_end config at line) place (with_participant place (record seat { invite = invite }) s))
  then_without config at line place seat invite s is = at_participant_in (after_end config at line) (without_in config at line) place (with_participant place (record seat { invite = invite }) s) is

  with_failure_ack_in : (sip : Addr) (key : TKey) (m : MessageView) (o : Option Invite) (output : StepOutput) → Sends output → Sends (with_failure_ack sip key m o output)
  with_failure_ack_in sip key m None output had = had
  with_failure_ack_in sip key m (Some (Outstanding number i)) output had = emit_in _ output tt had
  with_failure_ack_in sip key m (Some (Accepted branch tag ack)) output had = had

  failure_in : (config : ConferenceConfigView) (at : ℕ) (key : TKey) (m : MessageView) → Keeps (on_failure config at key m)
  failure_in config at key m place seat s is =
      let output : StepOutput = with_failure_ack config.sip key m seat.invite s.effects.output in
      then_without config at (status_line (status_of m.parsed.start) (phrase_in m.parsed.start)) place seat None (with_output output s) (with_failure_ack_in config.sip key m seat.invite s.effects.output is)

  response_row : (config : ConferenceConfigView) (at : ℕ) (key : TKey) (m : MessageView) → Keeps (on_outstanding_response config at key m)
  response_row config at key m place seat s is =
      if_step (nat_lt (status_of m.parsed.start) 200) (on_provisional key place seat s) (if nat_lt (status_of m.parsed.start) 300 then on_success config at m place seat s else on_failure config at key m place seat s)
      is
      (if_step (nat_lt (status_of m.parsed.start) 300) (on_success config at m place seat s) (on_failure config at key m place seat s) (success_in config at m place seat s is)
      (failure_in config at key m place seat s is))

  repeat_in : (m : MessageView) (tag ack : List ℕ) → Keeps (on_retransmission m tag ack)
  repeat_in m tag ack place seat s is = if_step (is_success (status_of m.parsed.start) && bytes_eq (to_tag_of m) tag) (after_ack_retransmission ack seat s) s (emit_in _ s.effects.output tt is) is

  answer_to_in : (o : Option Invite) (config : ConferenceConfigView) (at : ℕ) (key : TKey) (m : MessageView) → Keeps (on_response_to o config at key m)
  answer_to_in None config at key m place seat s is = is
  answer_to_in (Some (Outstanding number i)) config at key m place seat s is = response_row config at key m place seat s is
  answer_to_in (Some (Accepted branch tag ack)) config at key m place seat s is = repeat_in m tag ack place seat s is

  answer_row : (config : ConferenceConfigView) (at : ℕ) (key : TKey) (m : MessageView) → Keeps (on_any_response config at key m)
  unfolding on_any_response
  answer_row config at key m place seat s is = answer_to_in seat.invite config at key m place seat s is

  silence_row : (config : ConferenceConfigView) (at : ℕ) → Keeps (on_timeout config at)
  unfolding on_timeout
  silence_row config at place seat s is = if_step (is_invite_outstanding seat.invite) (after_invite_end config at (own_status 408) place seat s) s (then_without config at (own_status 408) place seat None s is) is

  with_due_cancel_output : (sip : Addr) (i : SentInvite) (output : StepOutput) → Sends output → Sends (with_due_cancel sip i output)
  with_due_cancel_output sip i output had = if_output (is_cancellable i) (with_cancel sip i output) output (emit_in _ output tt had) had

  with_invite_cancel_own : (sip : Addr) (o : Option Invite) (output : StepOutput) → Sends output → Sends (with_invite_cancel sip o output)
  with_invite_cancel_own sip None output had = had
  with_invite_cancel_own sip (Some (Outstanding number i)) output had = with_due_cancel_output sip i output had
  with_invite_cancel_own sip (Some (Accepted branch tag ack)) output had = had

  after_ringing_limit_in : (config : ConferenceConfigView) (at : ℕ) → Keeps (after_ringing_limit config at)
  after_ringing_limit_in config at place seat s is =
      let output : StepOutput = with_invite_cancel config.sip seat.invite s.effects.output in
      then_without config at (own_status 408) place seat (invite_after_due_cancel seat.invite) (with_output output s) (with_invite_cancel_own config.sip seat.invite s.effects.output is)

  due_row : (config : ConferenceConfigView) (at : ℕ) (what : RoomWord) → Keeps (on_due config at what)
  unfolding on_due
  due_row config at (due.Cap number) place seat s is =
      if_step (not (is_connected seat) && has_outstanding_number number seat.invite) (after_ringing_limit config at place seat s) s (after_ringing_limit_in config at place seat s is) is
  due_row config at (due.NoAck number) place seat s is =
      if_step (is_ack_pending number seat.pending_ack) (after_missing_ack config at place seat s) s
      (after_close_with_in config at seat.number (after_dismissal config at place seat s) (after_dismissal_in config at place seat s is)) is

  -- ---- what a participant receives

  abbrev SeatIsOf : ParticipantSignal → Type 0
  SeatIsOf (of_seat.Request key request) = Own key
  SeatIsOf (of_seat.Ack ack) = Unit {0}
  SeatIsOf (of_seat.Answer key response) = Unit {0}
  SeatIsOf of_seat.Silent = Unit {0}
  SeatIsOf (of_seat.Due what) = Unit {0}

  step_of_participant_in : (config : ConferenceConfigView) (at : ℕ) (received : ParticipantSignal) → SeatIsOf received → Keeps (step_of_participant config at received)
  unfolding step_of_participant
  step_of_participant_in config at (of_seat.Request key request) h place seat s is = request_row config at key request h place seat s is
  step_of_participant_in config at (of_seat.Ack ack) h place seat s is = ack_row ack place seat s is
  step_of_participant_in config at (of_seat.Answer key response) h place seat s is = answer_row config at key response place seat s is
  step_of_participant_in config at of_seat.Silent h place seat s is = silence_row config at place seat s is
  step_of_participant_in config at (of_seat.Due what) h place seat s is = due_row config at what place seat s is

  -- ---- a step of the conferences

  abbrev KeepsRooms : (row : StepResult → StepResult) → Type 0
  KeepsRooms row = (s : StepResult) → Replied s → Replied (row s)

  room_in : (row : StepResult → StepResult) (place : ℕ) (o : Option Conference) (live : List Conference) (effects : Effects) → KeepsRooms row → Sends effects.output →
      Sends (step_result_at row place o live effects).effects.output
  room_in row place None live effects k had = had
  room_in row place (Some room) live effects k had = k (record { conference = room; effects = effects }) had

  in_rooms : (row : StepResult → StepResult) (o : Option ℕ) (live : List Conference) (effects : Effects) → KeepsRooms row → Sends effects.output → Sends (step_result_in row o live effects).effects.output
  in_rooms row None live effects k had = had
  in_rooms row (Some place) live effects k had = room_in row place (slice_get live place) live effects k had

  stays_room : (row : StepResult → StepResult) (place : ℕ) (o : Option Conference) (live : List Conference) (effects : Effects) → KeepsRooms row → Sends effects.output →
      Sends (open_result_at row place o live effects).effects.output
  stays_room row place None live effects k had = had
  stays_room row place (Some room) live effects k had = k (record { conference = room; effects = effects }) had

  stays_rooms : (row : StepResult → StepResult) (o : Option ℕ) (live : List Conference) (effects : Effects) → KeepsRooms row → Sends effects.output → Sends (open_result_in row o live effects).effects.output
  stays_rooms row None live effects k had = had
  stays_rooms row (Some place) live effects k had = stays_room row place (slice_get live place) live effects k had

  received_by_in : (config : ConferenceConfigView) (at : ℕ) (whose : ParticipantState → Bool) (received : ParticipantSignal) → SeatIsOf received → KeepsRooms (table.step_of_first config at whose received)
  received_by_in config at whose received h s is = at_place_in (step_of_participant config at received) (step_of_participant_in config at received h) (position whose s.conference.participants) s is

  step_by_number_own : (config : ConferenceConfigView) (at : ℕ) (room seat : ℕ) (received : ParticipantSignal) (live : List Conference) (effects : Effects) → SeatIsOf received → Sends effects.output →
      Sends (step_by_number config at room seat received live effects).effects.output
  step_by_number_own config at room seat received live effects h had =
      in_rooms (table.step_of_first config at (has_seat_number seat) received) (place_of room live) live effects (received_by_in config at (has_seat_number seat) received h) had

  step_by_branch_in : (config : ConferenceConfigView) (at : ℕ) (branch : List ℕ) (received : ParticipantSignal) (live : List Conference) (effects : Effects) → SeatIsOf received →
      Sends effects.output → Sends (step_by_branch config at branch received live effects).effects.output
  step_by_branch_in config at branch received live effects h had = in_rooms (table.step_of_first config at (participant_has_branch branch) received)
      (position (conference_has_branch branch) live) live effects (received_by_in config at (participant_has_branch branch) received h) had

  -- ---- abandoned INVITEs

  if_rest : (b : Bool) (one two : AfterResponse) → Sends one.output → Sends two.output → Sends (if b then one else two).output
  if_rest true one two e f = e
  if_rest false one two e f = f

  success_rest : (sip : Addr) (l : AbandonedInvite) (remote : Remote) (o : Option Dialogue) (output : StepOutput) → Sends output → Sends (on_success_in sip l remote o output).output
  success_rest sip l remote (Some d) output had = emit_in _ (after_draw output) tt had
  success_rest sip l remote None output had =
      let d : Dialogue = left_ones.dialogue_of_success l.in_dialog l.invite.early l.invite.early_cseq l.invite.dialogue remote in
      emit_in _ (after_draw (with_ack sip d output)) tt (emit_in _ (after_draw output) tt had)

  late_response : (sip : Addr) (key : TKey) (m : ParsedMessage) (l : AbandonedInvite) (output : StepOutput) → Sends output → Sends (left_ones.on_response sip key m l output).output
  late_response sip key m l output had =
      let said : AbandonedInvite = after_provisional key m l in
      let known : AbandonedInvite = with_invite l (with_key key l.invite) in
      if_rest (nat_lt (status_of m.start) 200) (after_due_cancel sip said output)
      (if nat_lt (status_of m.start) 300 then left_ones.on_success sip known (remote_of Callee m.lines) output else record { remaining = None; output = with_final_ack sip key l.invite m output })
      (if_rest said.invite.cancelled (record { remaining = Some said; output = output })
      (record { remaining = Some (with_invite said (record said.invite { cancelled = true })); output = with_cancel sip said.invite output }) had (emit_in _ output tt had))
      (if_rest (nat_lt (status_of m.start) 300) (left_ones.on_success sip known (remote_of Callee m.lines) output) (record { remaining = None; output = with_final_ack sip key l.invite m output })
      (success_rest sip known (remote_of Callee m.lines) (ended_dialog known (remote_of Callee m.lines).tag) output had) (emit_in _ output tt had))

  abandoned_row : (sip : Addr) (key : TKey) (m : MessageView) (place : ℕ) (o : Option AbandonedInvite) (live : List Conference) (abandoned : List AbandonedInvite) (effects : Effects) →
      Sends effects.output → Sends (step_of_abandoned_response sip key m place o live abandoned effects).effects.output
  abandoned_row sip key m place None live abandoned effects had = had
  abandoned_row sip key m place (Some l) live abandoned effects had = late_response sip key m.parsed l effects.output had

  with_contact_response_in :
      (config : ConferenceConfigView) (at : ℕ) (key : TKey) (m : MessageView) (branch : List ℕ) (o : Option ℕ) (live : List Conference) (abandoned : List AbandonedInvite) (effects : Effects) →
      Sends effects.output →
      Sends (table.step_of_response_at config at key m branch o live abandoned effects).effects.output
  with_contact_response_in config at key m branch None live abandoned effects had = step_by_branch_in config at branch (of_seat.Answer key m) live effects tt had
  with_contact_response_in config at key m branch (Some place) live abandoned effects had = abandoned_row config.sip key m place (slice_get abandoned place) live abandoned effects had

  step_of_response_in : (config : ConferenceConfigView) (at : ℕ) (key : TKey) (m : MessageView) (o : Option (List ℕ)) (live : List Conference) (abandoned : List AbandonedInvite) (effects : Effects) →
      Sends effects.output →
      Sends (step_of_response config at key m o live abandoned effects).effects.output
  step_of_response_in config at key m None live abandoned effects had = had
  step_of_response_in config at key m (Some branch) live abandoned effects had = with_contact_response_in config at key m branch (position (is_of_branch branch) abandoned) live abandoned effects had

  step_of_timeout_at_in : (config : ConferenceConfigView) (at : ℕ) (branch : List ℕ) (o : Option ℕ) (live : List Conference) (abandoned : List AbandonedInvite) (effects : Effects) →
      Sends effects.output → Sends (step_of_timeout_at config at branch o live abandoned effects).effects.output
  step_of_timeout_at_in config at branch None live abandoned effects had = step_by_branch_in config at branch of_seat.Silent live effects tt had
  step_of_timeout_at_in config at branch (Some place) live abandoned effects had = had

  step_of_timeout_in : (config : ConferenceConfigView) (at : ℕ) (o : Option (List ℕ)) (live : List Conference) (abandoned : List AbandonedInvite) (effects : Effects) → Sends effects.output →
      Sends (step_of_timeout config at o live abandoned effects).effects.output
  step_of_timeout_in config at None live abandoned effects had = had
  step_of_timeout_in config at (Some branch) live abandoned effects had = step_of_timeout_at_in config at branch (position (is_of_branch branch) abandoned) live abandoned effects had

  -- ---- signals and operations

  signal_in : (config : ConferenceConfigView) (at : ℕ) (x : RoomSignal) (live : List Conference) (abandoned : List AbandonedInvite) (effects : Effects) → SignalIsOf own x → Sends effects.output →
      Sends (step_of_signal config at x live abandoned effects).effects.output
  unfolding step_of_signal
  signal_in config at (signal.Request room seat key request) live abandoned effects h had = step_by_number_own config at room.0 seat (of_seat.Request key request) live effects h had
  signal_in config at (signal.Ack room seat ack) live abandoned effects h had = step_by_number_own config at room.0 seat (of_seat.Ack ack) live effects tt had
  signal_in config at (signal.Answer key response) live abandoned effects h had = step_of_response_in config at key response (awaited_request_branch response) live abandoned effects had
  signal_in config at (signal.Silent branch method) live abandoned effects h had = step_of_timeout_in config at (timed_out_branch branch method) live abandoned effects had
  signal_in config at (signal.Due room seat what) live abandoned effects h had = step_by_number_own config at room.0 seat (of_seat.Due what) live effects tt had
  signal_in config at (signal.Over key) live abandoned effects h had = had

  step_if_access_in : (row : StepResult → StepResult) (r : Result ℕ RoomFault) (live : List Conference) (effects : Effects) → KeepsRooms row → Sends effects.output →
      Sends (step_if_access row r live effects).effects.output
  step_if_access_in row (Ok place) live effects k had = stays_room row place (slice_get live place) live effects k had
  step_if_access_in row (Err fault) live effects k had = had

  step_of_join_in : (config : ConferenceConfigView) (room : ℕ) (c : JoinRequest) (t : Table) → Own c.key → Sends (step_on_join config room c t).effects.output
  unfolding step_of_join
  step_of_join_in config room c t h = step_if_access_in (after_join config c.at c.leg c.account c.key c.invite) (access room t.live) t.live (no_effects c.tokens)
      (λ s e. after_join_in config c.at c.leg c.account c.key c.invite s h e) tt

  adoption_in : (config : ConferenceConfigView) (room : ℕ) (a : Adoption) (t : Table) → Sends (step_on_adopt config room a t).effects.output
  unfolding step_of_adoption
  adoption_in config room a t = step_if_access_in (after_adoption config a.at a.leg a.account a.by) (access room t.live) t.live (no_effects a.tokens) (λ s e. after_adoption_in config a.at a.leg a.account a.by s e) tt

  after_notify_of_in : (config : ConferenceConfigView) (room seat code : ℕ) (tokens : TokensView) (t : Table) → Sends (histories.step_on_notify config room seat code tokens t).effects.output
  unfolding step_of_notify
  after_notify_of_in config room seat code tokens t =
      stays_rooms (after_notify_to config (is_provisional code) (own_status code) seat) (place_of room t.live) t.live (no_effects tokens)
      (λ s e. after_notify_to_in config (is_provisional code) (own_status code) seat s e) tt

  op_in : (config : ConferenceConfigView) (op : TableOp) (t : Table) → OpIsOf own op → Sends (effects_of config op t).output
  op_in config (Opens c) t h = after_join_in config c.at c.leg c.account c.key c.invite (record { conference = new_conference (next_room_number t); effects = no_effects c.tokens }) h tt
  op_in config (Joins room c) t h = step_of_join_in config room c t h
  op_in config (Adopts room a) t h = adoption_in config room a t
  op_in config (Notifies room seat code tokens) t h = after_notify_of_in config room seat code tokens t
  op_in config (Receives x) t h = signal_in config x.at x.signal t.live t.abandoned (no_effects x.tokens) h tt
  op_in config (Leaves room seat) t h = tt
  op_in config (Closes room) t h = tt
  op_in config (Drops count) t h = tt

pub conferences_reply_in_their_own : ConferencesReplyInTheirOwn
conferences_reply_in_their_own own config op t h = op_in own config op t h
