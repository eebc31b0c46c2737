-- Each transition of the step table of conferences keeps the conference clean, and sends what is clean.
use Rattle.std.proofs.Common.{◌+◌, ◌&&◌, not, true, false, ℕ, List, [], ◌∷◌, Option, Some, None, Result, Ok, Err, refl, nat_lt}
use Rattle.std.specs.Prelude.{IfSome, codes, if◌then◌else◌}
use Rattle.std.specs.Str.{bytes_eq}
use Rattle.mmtel_base.specs.Numbers.{next_number}
use Rattle.mmtel_compose.specs.Responses.{allow_lines, own_reply, retry_after_lines}
use Rattle.mmtel_compose.specs.ReceivedMessages.{MessageView, phrase_in, status_of}
use Rattle.mmtel_output.specs.Outputs.{after_draw, token, with_emit}
use Rattle.mmtel_output.specs.SentInvites.{sent_invite}
use Rattle.mmtel_output.specs.Sending.{ack_text, with_ack, with_contact_response, with_own_request, with_response, with_status_response}
use Rattle.mmtel_output.specs.declared.outputs.StepOutput.{StepOutput}
use Rattle.mmtel_leg.specs.Releases.{released_leg}
use Rattle.mmtel_leg.specs.Remotes.{remote_of}
use Rattle.mmtel_leg.specs.declared.dialogues.Dialogue.{Dialogue}
use Rattle.mmtel_leg.specs.declared.dialogues.DialogueFault.{DialogueFault}
use Rattle.mmtel_leg.specs.declared.dialogues.DialogueFault.TheVariants.{OldCSeq, Pending, Unfinished}
use Rattle.mmtel_leg.specs.declared.legs.Released.{Released}
use Rattle.mmtel_leg.specs.declared.legs.Released.TheVariants as released
use Rattle.mmtel_leg.specs.declared.remotes.Remote.{Remote}
use Rattle.mmtel_lex.specs.Grammar.{uri_text}
use Rattle.mmtel_lex.specs.declared.values.Uri.{Uri}
use Rattle.mmtel_charging.specs.Meters.{MeterView}
use Rattle.mmtel_message.specs.Faults.{is_method}
use Rattle.mmtel_message.specs.Message.{Line}
use Rattle.mmtel_message.specs.Responses.{response}
use Rattle.mmtel_sdp.specs.Mixer.{offer_text}
use Rattle.mmtel_sdp.specs.Offers.{offers_audio}
use Rattle.mmtel_transaction.specs.declared.words.Emit.TheVariants as emit
use Rattle.mmtel_transaction.specs.declared.words.RoomWord.{RoomWord}
use Rattle.mmtel_transaction.specs.declared.words.RoomWord.TheVariants as due
use Rattle.mmtel_transaction.specs.declared.words.TKey.{TKey}
use Rattle.mmtel_trust.specs.Accounts.{account_of}
use Rattle.mmtel_trust.specs.Peers.{route_of}
use Rattle.mmtel_types.specs.declared.addrs.Addr.{Addr}
use Rattle.mmtel_types.specs.declared.numbers.Account.{Account}
use Rattle.mmtel_types.specs.declared.numbers.Peer.{Peer}
use Rattle.mmtel_types.specs.declared.numbers.RoomNo.{RoomNo}
use Rattle.mmtel_types.specs.declared.sides.Side.TheVariants.{Callee}
use Rattle.mmtel_focus.specs.Responses.{accepted_invite, after_ack_retransmission, after_end, after_invite_end, after_missing_ack, after_own_ack, after_ringing_limit, connected_participant}
use Rattle.mmtel_focus.specs.Responses.{connected_party, has_outstanding_number, invite_after_due_cancel, invite_with_provisional, is_ack_pending, is_success, on_any_response, on_due, on_failure}
use Rattle.mmtel_focus.specs.Responses.{on_outstanding_response, on_provisional, on_response_to, on_retransmission, on_success, on_timeout, to_tag_of, with_failure_ack, with_invite_cancel}
use Rattle.mmtel_focus.specs.Joining.{ack_time, adopted_participant, after_adoption, after_failure_notify, after_invite, after_invite_if_peer, after_join, after_refer, invitation_dialog}
use Rattle.mmtel_focus.specs.Joining.{invited_participant, leg_after_invite, new_participant, party_of, released_after_reinvite, ringing_limit, with_accepted_invite, with_new_participant}
use Rattle.mmtel_focus.specs.Referrals.{referral_in, target_of}
use Rattle.mmtel_focus.specs.Requests as requests
use Rattle.mmtel_focus.specs.Requests.{acknowledges, after_accepted_refer, after_out_of_order, after_refusal, after_reinvite, after_response, after_trying, invite_in_flight, is_invite_outstanding}
use Rattle.mmtel_focus.specs.Requests.{on_ack, on_bye, on_checked_request, on_invite, on_referral, on_request, on_request_in_order, participant_after_request, with_next_number, with_pending_ack}
use Rattle.mmtel_focus.specs.Conferences.{Conference, StepResult, with_output}
use Rattle.mmtel_focus.specs.Participants.{after_dismissal, after_leave, at_participant, dialogue_of, is_connected, is_full, leg_of, meter_of, tag_of, with_participant}
use Rattle.mmtel_focus.specs.ConferenceConfig.{ConferenceConfigView}
use Rattle.mmtel_focus.specs.Texts.{answer_in, contact_and_sdp_lines, contact_value, own_status, sdp_lines, status_line}
use Rattle.mmtel_focus.specs.declared.referrals.Referral.{Referral}
use Rattle.mmtel_focus.specs.declared.referrals.Referral.TheVariants as referral
use Rattle.mmtel_participants.specs.declared.participants.Invite.{Invite}
use Rattle.mmtel_participants.specs.declared.participants.Invite.TheVariants.{Accepted, Outstanding}
use Rattle.mmtel_participants.specs.declared.participants.Party.{Party}
use Rattle.mmtel_participants.specs.declared.participants.Party.TheVariants.{DialedIn, DialedOut, Invited}
use Rattle.mmtel_participants.specs.declared.participants.ParticipantState.{ParticipantState}
use Rattle.mmtel_call_theorems.specs.NoInjection.Messages.{HasNoInjection, LinesHaveNoInjection}
use Rattle.mmtel_call_theorems.specs.NoInjection.Emits.{IsTextOfAck, OutputHasNoInjection}
use Rattle.mmtel_call_theorems.specs.NoInjection.Inputs.{UriHasNoInjection}
use Rattle.mmtel_call_theorems.specs.NoInjection.CallState.{DialogueHasNoInjection}
use Rattle.mmtel_call_theorems.proofs.NoInjection.Building.{response_no_injection}
use Rattle.mmtel_call_theorems.proofs.NoInjection.Diversions.{called_no_injection}
use Rattle.mmtel_call_theorems.proofs.NoInjection.ReceivedMessages.{ParsedMessageHasNoInjection}
use Rattle.mmtel_call_theorems.proofs.NoInjection.CallState.{allowed_no_injection, once_no_injection}
use Rattle.mmtel_call_theorems.proofs.NoInjection.Reading.{name_text_no_injection}
use Rattle.mmtel_call_theorems.proofs.NoInjection.Sending.{InvitationHasNoInjection, RemoteHasNoInjection, ack_text_no_injection, acked_no_injection, answered_no_injection, asked_no_injection, cancelled_no_injection}
use Rattle.mmtel_call_theorems.proofs.NoInjection.Sending.{each_append, emit_no_injection, final_acked_no_injection, met_no_injection, phrase_no_injection, remote_no_injection, replied_no_injection, token_no_injection}
use Rattle.mmtel_focus_theorems.proofs.NoInjectionOfSteps.{ConferenceHasNoInjection, InviteHasNoInjection, IsFreeOfInjection, KeepsNoInjection, ParticipantHasNoInjection, PartyHasNoInjection}
use Rattle.mmtel_focus_theorems.proofs.NoInjectionOfSteps.{StepHasNoInjection, after_close_with_no_injection, after_dismissal_no_injection, after_leave_no_injection, after_notify_to_no_injection}
use Rattle.mmtel_focus_theorems.proofs.NoInjectionOfSteps.{at_participant_no_injection, if_step, notified_by_clean, with_leg_no_injection, with_output_no_injection, with_participant_no_injection}
use Rattle.mmtel_focus_theorems.proofs.NoInjectionOfTexts.{ReferralHasNoInjection, contact_no_injection, described_clean, from_no_injection, referral_no_injection, sdp_no_injection, target_no_injection}

-- ---- responses

abbrev pub ReceivedMessageNoInjection : MessageView → Type 0
ReceivedMessageNoInjection m = ParsedMessageHasNoInjection m.parsed

after_refusal_no_injection : (config : ConferenceConfigView) (key : TKey) (m : MessageView) (code : ℕ) → ReceivedMessageNoInjection m → KeepsNoInjection (after_refusal config key m code)
after_refusal_no_injection config key m code h place seat s e is = with_output_no_injection (with_status_response config.sip key m (tag_of seat) code s.effects.output) s
    (replied_no_injection [] config.sip key m (tag_of seat) code s.effects.output h e.party_in.1 is.output_in) is

with_lines_no_injection : (config : ConferenceConfigView) (key : TKey) (m : MessageView) (code : ℕ) (named : List Line) → ReceivedMessageNoInjection m → LinesHaveNoInjection named →
    KeepsNoInjection (after_response config key m code named)
with_lines_no_injection config key m code named h f place seat s e is =
    with_output_no_injection (with_response config.sip key m (tag_of seat) code [] named [] s.effects.output) s
    (answered_no_injection [] config.sip key m (tag_of seat) code [] named [] s.effects.output h e.party_in.1 refl f is.output_in) is

-- with the Contact of the conference
room_answer_no_injection : (config : ConferenceConfigView) (room : RoomNo) (key : TKey) (m : MessageView) (tag : List ℕ) (code : ℕ) (named : List Line) (body : List ℕ) (output : StepOutput) →
    ReceivedMessageNoInjection m → HasNoInjection tag → LinesHaveNoInjection named → OutputHasNoInjection [] output →
    OutputHasNoInjection [] (with_contact_response (contact_value config.sip room) key m tag code [] named body output)
room_answer_no_injection config room key m tag code named body output h e f had =
    emit_no_injection [] (emit.Reply key (response m.parsed.start m.parsed.lines (own_reply (contact_value config.sip room) m.source tag code [] named body))) output
    (response_no_injection m.parsed.start m.parsed.lines (own_reply (contact_value config.sip room) m.source tag code [] named body) h.lines_in
    (record { phrase_in = phrase_no_injection code; tag_in = e; contact_in = contact_no_injection config.sip room; passed_in = refl; named_in = f })) had

agreed_clean : (config : ConferenceConfigView) (at : ℕ) (room : RoomNo) (seat number : ℕ) (key : TKey) (m : MessageView) (tag : List ℕ) (output : StepOutput) → ReceivedMessageNoInjection m →
    HasNoInjection tag → OutputHasNoInjection [] output → OutputHasNoInjection [] (with_accepted_invite config at room seat number key m tag output)
agreed_clean config at room seat number key m tag output h e had =
    emit_no_injection [] (emit.ArmSeat room seat (due.NoAck number) (at + ack_time)) (with_contact_response (contact_value config.sip room) key m tag 200 [] sdp_lines (answer_in config.mixer m.parsed.body) output) tt
    (room_answer_no_injection config room key m tag 200 sdp_lines (answer_in config.mixer m.parsed.body) output h e sdp_no_injection had)

-- ---- INVITE

again_no_injection : (config : ConferenceConfigView) (at : ℕ) (key : TKey) (m : MessageView) → ReceivedMessageNoInjection m → KeepsNoInjection (after_reinvite config at key m)
again_no_injection config at key m h place seat s e is =
    let other : ParticipantState = with_pending_ack (next_number s.conference.last_number) seat in
    let next : StepResult = with_next_number (with_participant place other s) in
    let output : StepOutput = with_accepted_invite config at s.conference.number seat.number (next_number s.conference.last_number) key m (tag_of seat) s.effects.output in
    let one = with_participant_no_injection place other s (record { party_in = e.party_in; invite_in = e.invite_in }) is in
    with_output_no_injection output next (agreed_clean config at s.conference.number seat.number (next_number s.conference.last_number) key m (tag_of seat) s.effects.output h e.party_in.1 is.output_in)
    (record { conference_in = one.conference_in; abandoned_in = one.abandoned_in; output_in = one.output_in })

invite_no_injection : (config : ConferenceConfigView) (at : ℕ) (key : TKey) (m : MessageView) → ReceivedMessageNoInjection m → KeepsNoInjection (on_invite config at key m)
invite_no_injection config at key m h place seat s e is =
    if_step (offers_audio m.parsed.body) (after_reinvite config at key m place seat s) (after_refusal config key m 488 place seat s) (again_no_injection config at key m h place seat s e is)
    (after_refusal_no_injection config key m 488 h place seat s e is)

-- ---- BYE

bye_row : (config : ConferenceConfigView) (at : ℕ) (key : TKey) (m : MessageView) → ReceivedMessageNoInjection m → KeepsNoInjection (on_bye config at key m)
bye_row config at key m h place seat s e is =
    let told : StepResult = after_refusal config key m 200 place seat s in
    after_close_with_no_injection config at seat.number (after_leave at false place seat told) (after_leave_no_injection at false place seat told e (after_refusal_no_injection config key m 200 h place seat s e is))

-- ---- a party becomes a participant

new_no_injection : (seat : ParticipantState) (room : Conference) → ParticipantHasNoInjection seat → ConferenceHasNoInjection room → ConferenceHasNoInjection (with_new_participant seat room)
new_no_injection seat room e is = each_append ParticipantHasNoInjection room.participants (seat ∷ []) is (e, tt)

invitation_no_injection : (config : ConferenceConfigView) (room : RoomNo) (peer : Peer) (uri : List ℕ) (output : StepOutput) → HasNoInjection uri → OutputHasNoInjection [] output →
    DialogueHasNoInjection (invitation_dialog config room peer uri output)
invitation_no_injection config room peer uri output e had = record {
  call_id_in = token_no_injection [] output had;
  local_in = from_no_injection config.sip room (token (after_draw output)) (token_no_injection [] (after_draw output) had);
  remote_in = name_text_no_injection (record { display = []; uri = uri; params = [] }) refl e refl;
  tag_in = refl;
  target_in = e;
  routes_in = refl;
}

sent_invite_no_injection : (d : Dialogue) (number : ℕ) (branch : List ℕ) → DialogueHasNoInjection d → HasNoInjection branch → InvitationHasNoInjection [] (sent_invite d number branch)
sent_invite_no_injection d number branch e f = record { dialogue_in = e; branch_in = f; ack_in = tt; forks_in = tt; early_in = tt }

after_invite_no_injection : (config : ConferenceConfigView) (at by : ℕ) (peer : Peer) (u : Uri) (s : StepResult) → UriHasNoInjection u → StepHasNoInjection s → StepHasNoInjection (after_invite config at by peer u s)
after_invite_no_injection config at by peer u s e is =
    let uri : List ℕ = uri_text (target_of u) in
    let before : StepOutput = s.effects.output in
    let d : Dialogue = invitation_dialog config s.conference.number peer uri before in
    let is_d = invitation_no_injection config s.conference.number peer uri before (target_no_injection u e) is.output_in in
    let branch : List ℕ = token (after_draw (after_draw before)) in
    let seat : ParticipantState = invited_participant s.conference by (account_of config.accounts u) d branch in
    let asked : StepOutput = with_own_request config.sip (codes "INVITE") d (contact_and_sdp_lines config.sip s.conference.number) (offer_text config.mixer) (after_draw (after_draw before)) in
    record {
      conference_in = new_no_injection seat s.conference (record {
        party_in = (called_no_injection d is_d, token_no_injection [] (after_draw before) is.output_in);
        invite_in = sent_invite_no_injection d 1 branch is_d (token_no_injection [] (after_draw (after_draw before)) is.output_in);
      }) is.conference_in;
      abandoned_in = is.abandoned_in;
      output_in =
          emit_no_injection [] (emit.ArmSeat s.conference.number (next_number s.conference.last_seat) (due.Cap (next_number s.conference.last_number)) (at + ringing_limit)) asked tt
          (asked_no_injection [] config.sip (codes "INVITE") d (contact_and_sdp_lines config.sip s.conference.number) (offer_text config.mixer) (after_draw (after_draw before)) is_d refl
          (described_clean config.sip s.conference.number) is.output_in);
    }

at_peer_no_injection : (config : ConferenceConfigView) (at by : ℕ) (o : Option Peer) (u : Uri) (s : StepResult) → UriHasNoInjection u → StepHasNoInjection s → StepHasNoInjection (after_invite_if_peer config at by o u s)
at_peer_no_injection config at by None u s e is = after_notify_to_no_injection config false (own_status 404) by s is
at_peer_no_injection config at by (Some peer) u s e is =
    if_step (is_full s.conference) (after_failure_notify config by 503 s) (after_invite config at by peer u s) (after_notify_to_no_injection config false (own_status 503) by s is)
    (after_invite_no_injection config at by peer u s e is)

after_refer_no_injection : (config : ConferenceConfigView) (at by : ℕ) (o : Option Uri) (s : StepResult) → IfSome o UriHasNoInjection → StepHasNoInjection s → StepHasNoInjection (after_refer config at by o s)
unfolding after_refer
after_refer_no_injection config at by None s e is = after_notify_to_no_injection config false (own_status 404) by s is
after_refer_no_injection config at by (Some u) s e is = at_peer_no_injection config at by (route_of u config.peers.routes) u s e is

-- a leg that enters
party_no_injection : (meter : Option MeterView) (leg : Released) → IsFreeOfInjection (released_leg leg).dialogue → PartyHasNoInjection (party_of meter leg)
party_no_injection meter (released.Caller leg) e = e
party_no_injection meter (released.Callee leg) e = e

after_invite_leg_no_injection : (leg : Released) → IsFreeOfInjection (released_leg leg).dialogue → IsFreeOfInjection (released_leg (released_after_reinvite leg)).dialogue
after_invite_leg_no_injection (released.Caller leg) e = e
after_invite_leg_no_injection (released.Callee leg) e = e

pub after_join_no_injection : (config : ConferenceConfigView) (at : ℕ) (leg : Released) (account : Option Account) (key : TKey) (m : MessageView) (s : StepResult) →
    IsFreeOfInjection (released_leg leg).dialogue → ReceivedMessageNoInjection m → StepHasNoInjection s → StepHasNoInjection (after_join config at leg account key m s)
unfolding after_join
after_join_no_injection config at leg account key m s e h is = record {
  conference_in = new_no_injection (new_participant at s.conference leg account) s.conference (record { party_in = party_no_injection (meter_of s.conference.number at account) leg e; invite_in = tt }) is.conference_in;
  abandoned_in = is.abandoned_in;
  output_in = agreed_clean config at s.conference.number (next_number s.conference.last_seat) (next_number s.conference.last_number) key m (released_leg leg).dialogue.local_tag s.effects.output h e.1 is.output_in;
}

pub after_adoption_no_injection : (config : ConferenceConfigView) (at : ℕ) (leg : Released) (account : Option Account) (by : ℕ) (s : StepResult) → IsFreeOfInjection (released_leg leg).dialogue →
    StepHasNoInjection s → StepHasNoInjection (after_adoption config at leg account by s)
unfolding after_adoption
after_adoption_no_injection config at leg account by s e is = record {
  conference_in =
      new_no_injection (adopted_participant at s.conference leg account by (token s.effects.output)) s.conference
      (record {
        party_in = party_no_injection (meter_of s.conference.number at account) (released_after_reinvite leg) (after_invite_leg_no_injection leg e);
        invite_in = sent_invite_no_injection (leg_after_invite (released_leg leg)).dialogue (next_number (released_leg leg).dialogue.local_cseq) (token s.effects.output) e.0
            (token_no_injection [] s.effects.output is.output_in);
      }) is.conference_in;
  abandoned_in = is.abandoned_in;
  output_in = asked_no_injection [] config.sip (codes "INVITE") (released_leg leg).dialogue (contact_and_sdp_lines config.sip s.conference.number) (offer_text config.mixer) s.effects.output e.0 refl
      (described_clean config.sip s.conference.number) is.output_in;
}

-- ---- REFER

accepted_clean : (config : ConferenceConfigView) (key : TKey) (m : MessageView) → ReceivedMessageNoInjection m → KeepsNoInjection (after_accepted_refer config key m)
accepted_clean config key m h place seat s e is =
    with_output_no_injection (with_contact_response (contact_value config.sip s.conference.number) key m (tag_of seat) 202 [] [] [] s.effects.output) s
    (room_answer_no_injection config s.conference.number key m (tag_of seat) 202 [] [] s.effects.output h e.party_in.1 refl is.output_in) is

referral_row : (config : ConferenceConfigView) (at : ℕ) (key : TKey) (m : MessageView) (r : Referral) → ReceivedMessageNoInjection m → ReferralHasNoInjection r → KeepsNoInjection (on_referral config at key m r)
referral_row config at key m referral.Missing h f place seat s e is = after_refusal_no_injection config key m 400 h place seat s e is
referral_row config at key m referral.OtherMethod h f place seat s e is = after_refusal_no_injection config key m 403 h place seat s e is
referral_row config at key m (referral.Replace r) h f place seat s e is = accepted_clean config key m h place seat s e is
referral_row config at key m (referral.Invite u) h f place seat s e is =
    let told : StepResult = after_accepted_refer config key m place seat s in
    after_refer_no_injection config at seat.number u (after_trying config seat.number told) f (after_notify_to_no_injection config true (own_status 100) seat.number told (accepted_clean config key m h place seat s e is))

-- ---- a request

received_row : (config : ConferenceConfigView) (at : ℕ) (key : TKey) (m : MessageView) → ReceivedMessageNoInjection m → KeepsNoInjection (on_request_in_order config at key m)
received_row config at key m h place seat s e is =
    if_step (is_method (codes "INVITE") m.parsed.start) (on_invite config at key m place seat s) other (invite_no_injection config at key m h place seat s e is)
    (if_step (is_method (codes "BYE") m.parsed.start) (on_bye config at key m place seat s) third (bye_row config at key m h place seat s e is)
    (if_step (is_method (codes "REFER") m.parsed.start) referred fourth (referral_row config at key m (referral_in m.parsed.refer_to) h (referral_no_injection m.parsed.refer_to) place seat s e is)
    (if_step (is_method (codes "OPTIONS") m.parsed.start) (after_response config key m 200 (allow_lines config.methods) place seat s) (after_refusal config key m 481 place seat s)
    (with_lines_no_injection config key m 200 (allow_lines config.methods) h (allowed_no_injection config.methods) place seat s e is) (after_refusal_no_injection config key m 481 h place seat s e is))))
  where
    referred : StepResult
    referred = on_referral config at key m (referral_in m.parsed.refer_to) place seat s

    fourth : StepResult
    fourth = if is_method (codes "OPTIONS") m.parsed.start then after_response config key m 200 (allow_lines config.methods) place seat s else after_refusal config key m 481 place seat s

    third : StepResult
    third = if is_method (codes "REFER") m.parsed.start then referred else fourth

    other : StepResult
    other = if is_method (codes "BYE") m.parsed.start then on_bye config at key m place seat s else third

fault_no_injection : (config : ConferenceConfigView) (key : TKey) (m : MessageView) (fault : DialogueFault) → ReceivedMessageNoInjection m → KeepsNoInjection (after_out_of_order config key m fault)
fault_no_injection config key m (OldCSeq last) h place seat s e is = after_refusal_no_injection config key m 500 h place seat s e is
fault_no_injection config key m Pending h place seat s e is = after_refusal_no_injection config key m 491 h place seat s e is
fault_no_injection config key m Unfinished h place seat s e is = with_lines_no_injection config key m 500 retry_after_lines h refl place seat s e is

receiving_no_injection : (config : ConferenceConfigView) (at : ℕ) (key : TKey) (m : MessageView) (r : Result (Unit {0}) DialogueFault) → ReceivedMessageNoInjection m →
    KeepsNoInjection (on_checked_request config at key m r)
receiving_no_injection config at key m (Err fault) h place seat s e is = fault_no_injection config key m fault h place seat s e is
receiving_no_injection config at key m (Ok received) h place seat s e is =
    at_participant_no_injection (on_request_in_order config at key m) (received_row config at key m h) place (with_participant place (participant_after_request m seat) s)
    (with_participant_no_injection place (participant_after_request m seat) s
    (record { party_in = with_leg_no_injection seat.party (requests.leg_after_request m (leg_of seat.party)) e.party_in; invite_in = e.invite_in }) is)

pub request_row : (config : ConferenceConfigView) (at : ℕ) (key : TKey) (m : MessageView) → ReceivedMessageNoInjection m → KeepsNoInjection (on_request config at key m)
unfolding on_request
request_row config at key m h place seat s e is =
    if_step (is_connected seat) (on_checked_request config at key m (requests.request_check (leg_of seat.party) m (invite_in_flight seat)) place seat s) (after_refusal config key m 481 place seat s)
    (receiving_no_injection config at key m (requests.request_check (leg_of seat.party) m (invite_in_flight seat)) h place seat s e is) (after_refusal_no_injection config key m 481 h place seat s e is)

pub ack_row : (m : MessageView) → KeepsNoInjection (on_ack m)
unfolding on_ack
ack_row m place seat s e is =
    if_step (acknowledges m seat.pending_ack) (with_participant place (record seat { pending_ack = None }) s) s
    (with_participant_no_injection place (record seat { pending_ack = None }) s (record { party_in = e.party_in; invite_in = e.invite_in }) is) is

-- ---- a response

noted_clean : (key : TKey) (o : Option Invite) → IfSome o InviteHasNoInjection → IfSome (invite_with_provisional key o) InviteHasNoInjection
noted_clean key None e = tt
noted_clean key (Some (Outstanding number i)) e = record { dialogue_in = e.dialogue_in; branch_in = e.branch_in; ack_in = e.ack_in; forks_in = e.forks_in; early_in = e.early_in }
noted_clean key (Some (Accepted branch tag ack)) e = e

provisional_no_injection : (key : TKey) → KeepsNoInjection (on_provisional key)
provisional_no_injection key place seat s e is =
    with_participant_no_injection place (record seat { invite = invite_with_provisional key seat.invite }) s (record { party_in = e.party_in; invite_in = noted_clean key seat.invite e.invite_in }) is

connected_party_no_injection : (room : RoomNo) (at : ℕ) (account : Option Account) (remote : Remote) (party : Party) → RemoteHasNoInjection remote → PartyHasNoInjection party →
    PartyHasNoInjection (connected_party room at account remote party)
connected_party_no_injection room at account remote (Invited leg) f e = (met_no_injection leg.dialogue remote e.0 f, e.1)
connected_party_no_injection room at account remote (DialedIn leg) f e = e
connected_party_no_injection room at account remote (DialedOut leg) f e = e

accepted_invite_no_injection : (tag ack : List ℕ) (o : Option Invite) → IsTextOfAck [] ack → IfSome o InviteHasNoInjection → IfSome (accepted_invite tag ack o) InviteHasNoInjection
accepted_invite_no_injection tag ack None f e = tt
accepted_invite_no_injection tag ack (Some (Outstanding number i)) f e = f
accepted_invite_no_injection tag ack (Some (Accepted branch before sent)) f e = e

after_own_ack_no_injection : (config : ConferenceConfigView) (tag : List ℕ) → KeepsNoInjection (after_own_ack config tag)
after_own_ack_no_injection config tag place seat s e is =
    let ack : List ℕ = ack_text config.sip (dialogue_of seat) (token s.effects.output) in
    let other : ParticipantState = record seat { invite = accepted_invite tag ack seat.invite } in
    with_output_no_injection (with_ack config.sip (dialogue_of seat) s.effects.output) (with_participant place other s) (acked_no_injection [] config.sip (dialogue_of seat) s.effects.output e.party_in.0 is.output_in)
    (with_participant_no_injection place other s (record {
      party_in = e.party_in;
      invite_in = accepted_invite_no_injection tag ack seat.invite
          (ack_text_no_injection [] config.sip (dialogue_of seat) (token s.effects.output) e.party_in.0 (token_no_injection [] s.effects.output is.output_in)) e.invite_in;
    }) is)

success_no_injection : (config : ConferenceConfigView) (at : ℕ) (m : MessageView) → ReceivedMessageNoInjection m → KeepsNoInjection (on_success config at m)
success_no_injection config at m h place seat s e is =
    let remote : Remote = remote_of Callee m.parsed.lines in
    let other : ParticipantState = connected_participant s.conference.number at remote seat in
    let next : StepResult = with_participant place other s in
    notified_by_clean config false (own_status 200) seat.by (at_participant (after_own_ack config (to_tag_of m)) place next)
    (at_participant_no_injection (after_own_ack config (to_tag_of m)) (after_own_ack_no_injection config (to_tag_of m)) place next
    (with_participant_no_injection place other s
    (record { party_in = connected_party_no_injection s.conference.number at seat.account remote seat.party (remote_no_injection Callee m.parsed.lines h.lines_in) e.party_in; invite_in = e.invite_in }) is))

without_no_injection : (config : ConferenceConfigView) (at : ℕ) (line : List ℕ) → KeepsNoInjection (after_end config at line)
without_no_injection config at line place seat s e is = notified_by_clean config false line seat.by (after_dismissal config at place seat s) (after_dismissal_no_injection config at place seat s e is)

then_without : (config : ConferenceConfigView) (at : ℕ) (line : List ℕ) (place : ℕ) (seat : ParticipantState) (invite : Option Invite) (s : StepResult) → ParticipantHasNoInjection seat →
    IfSome invite InviteHasNoInjection → StepHasNoInjection s → StepHasNoInjection (at_participant (after_end config at line) place (with_participant place (record seat { invite = invite }) s))
then_without config at line place seat invite s e f is =
    at_participant_no_injection (after_end config at line) (without_no_injection config at line) place (with_participant place (record seat { invite = invite }) s)
    (with_participant_no_injection place (record seat { invite = invite }) s (record { party_in = e.party_in; invite_in = f }) is)

with_failure_ack_no_injection : (sip : Addr) (key : TKey) (m : MessageView) (o : Option Invite) (output : StepOutput) → ReceivedMessageNoInjection m → IfSome o InviteHasNoInjection →
    OutputHasNoInjection [] output → OutputHasNoInjection [] (with_failure_ack sip key m o output)
with_failure_ack_no_injection sip key m None output h e had = had
with_failure_ack_no_injection sip key m (Some (Outstanding number i)) output h e had = final_acked_no_injection [] sip key i m.parsed output e h had
with_failure_ack_no_injection sip key m (Some (Accepted branch tag ack)) output h e had = had

failure_no_injection : (config : ConferenceConfigView) (at : ℕ) (key : TKey) (m : MessageView) → ReceivedMessageNoInjection m → KeepsNoInjection (on_failure config at key m)
failure_no_injection config at key m h place seat s e is =
    let output : StepOutput = with_failure_ack config.sip key m seat.invite s.effects.output in
    then_without config at (status_line (status_of m.parsed.start) (phrase_in m.parsed.start)) place seat None (with_output output s) e tt
    (with_output_no_injection output s (with_failure_ack_no_injection config.sip key m seat.invite s.effects.output h e.invite_in is.output_in) is)

response_row : (config : ConferenceConfigView) (at : ℕ) (key : TKey) (m : MessageView) → ReceivedMessageNoInjection m → KeepsNoInjection (on_outstanding_response config at key m)
response_row config at key m h place seat s e is =
    if_step (nat_lt (status_of m.parsed.start) 200) (on_provisional key place seat s) (if nat_lt (status_of m.parsed.start) 300 then on_success config at m place seat s else on_failure config at key m place seat s)
    (provisional_no_injection key place seat s e is)
    (if_step (nat_lt (status_of m.parsed.start) 300) (on_success config at m place seat s) (on_failure config at key m place seat s) (success_no_injection config at m h place seat s e is)
    (failure_no_injection config at key m h place seat s e is))

repeat_no_injection : (m : MessageView) (tag ack : List ℕ) → IsTextOfAck [] ack → KeepsNoInjection (on_retransmission m tag ack)
repeat_no_injection m tag ack f place seat s e is =
    if_step (is_success (status_of m.parsed.start) && bytes_eq (to_tag_of m) tag) (after_ack_retransmission ack seat s) s
    (with_output_no_injection (with_emit (emit.Plain (dialogue_of seat).peer ack) s.effects.output) s (emit_no_injection [] (emit.Plain (dialogue_of seat).peer ack) s.effects.output f is.output_in) is) is

answer_to_no_injection : (o : Option Invite) (config : ConferenceConfigView) (at : ℕ) (key : TKey) (m : MessageView) → ReceivedMessageNoInjection m → IfSome o InviteHasNoInjection →
    KeepsNoInjection (on_response_to o config at key m)
answer_to_no_injection None config at key m h f place seat s e is = is
answer_to_no_injection (Some (Outstanding number i)) config at key m h f place seat s e is = response_row config at key m h place seat s e is
answer_to_no_injection (Some (Accepted branch tag ack)) config at key m h f place seat s e is = repeat_no_injection m tag ack f place seat s e is

pub answer_row : (config : ConferenceConfigView) (at : ℕ) (key : TKey) (m : MessageView) → ReceivedMessageNoInjection m → KeepsNoInjection (on_any_response config at key m)
unfolding on_any_response
answer_row config at key m h place seat s e is = answer_to_no_injection seat.invite config at key m h e.invite_in place seat s e is

pub silence_row : (config : ConferenceConfigView) (at : ℕ) → KeepsNoInjection (on_timeout config at)
unfolding on_timeout
silence_row config at place seat s e is = if_step (is_invite_outstanding seat.invite) (after_invite_end config at (own_status 408) place seat s) s (then_without config at (own_status 408) place seat None s e tt is) is

-- ---- timers

with_invite_cancel_no_injection : (sip : Addr) (o : Option Invite) (output : StepOutput) → IfSome o InviteHasNoInjection → OutputHasNoInjection [] output → OutputHasNoInjection [] (with_invite_cancel sip o output)
with_invite_cancel_no_injection sip None output e had = had
with_invite_cancel_no_injection sip (Some (Outstanding number i)) output e had = cancelled_no_injection [] sip i output e had
with_invite_cancel_no_injection sip (Some (Accepted branch tag ack)) output e had = had

once_in_no_injection : (o : Option Invite) → IfSome o InviteHasNoInjection → IfSome (invite_after_due_cancel o) InviteHasNoInjection
once_in_no_injection None e = tt
once_in_no_injection (Some (Outstanding number i)) e = once_no_injection [] i e
once_in_no_injection (Some (Accepted branch tag ack)) e = e

after_ringing_limit_no_injection : (config : ConferenceConfigView) (at : ℕ) → KeepsNoInjection (after_ringing_limit config at)
after_ringing_limit_no_injection config at place seat s e is =
    let output : StepOutput = with_invite_cancel config.sip seat.invite s.effects.output in
    then_without config at (own_status 408) place seat (invite_after_due_cancel seat.invite) (with_output output s) e (once_in_no_injection seat.invite e.invite_in)
    (with_output_no_injection output s (with_invite_cancel_no_injection config.sip seat.invite s.effects.output e.invite_in is.output_in) is)

pub due_row : (config : ConferenceConfigView) (at : ℕ) (what : RoomWord) → KeepsNoInjection (on_due config at what)
unfolding on_due
due_row config at (due.Cap number) place seat s e is =
    if_step (not (is_connected seat) && has_outstanding_number number seat.invite) (after_ringing_limit config at place seat s) s (after_ringing_limit_no_injection config at place seat s e is) is
due_row config at (due.NoAck number) place seat s e is =
    if_step (is_ack_pending number seat.pending_ack) (after_missing_ack config at place seat s) s
    (after_close_with_no_injection config at seat.number (after_dismissal config at place seat s) (after_dismissal_no_injection config at place seat s e is)) is
