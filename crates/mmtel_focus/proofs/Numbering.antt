-- A conference keeps its number in each transition of the step table of conferences.
use Rattle.std.proofs.Common.{◌≡◌, ℕ, Bool, true, false, List, [], ◌∷◌, Option, Some, None, Result, Ok, Err, refl, ◌∙◌}
use Rattle.std.specs.Prelude.{◌&&◌, codes, if◌then◌else◌, nat_lt, not, slice_get}
use Rattle.std.specs.Str.{bytes_eq}
use Rattle.mmtel_compose.specs.Responses.{allow_lines}
use Rattle.mmtel_compose.specs.ReceivedMessages.{MessageView, phrase_in, status_of}
use Rattle.mmtel_leg.specs.declared.dialogues.DialogueFault.{DialogueFault}
use Rattle.mmtel_leg.specs.declared.dialogues.DialogueFault.TheVariants.{OldCSeq, Pending, Unfinished}
use Rattle.mmtel_leg.specs.Remotes.{remote_of}
use Rattle.mmtel_leg.specs.declared.legs.Released.{Released}
use Rattle.mmtel_lex.specs.declared.values.Uri.{Uri}
use Rattle.mmtel_message.specs.Faults.{is_method}
use Rattle.mmtel_sdp.specs.Offers.{offers_audio}
use Rattle.mmtel_transaction.specs.declared.words.RoomWord.{RoomWord}
use Rattle.mmtel_transaction.specs.declared.words.RoomWord.TheVariants as due
use Rattle.mmtel_transaction.specs.declared.words.TKey.{TKey}
use Rattle.mmtel_trust.specs.Peers.{route_of}
use Rattle.mmtel_types.specs.declared.numbers.Account.{Account}
use Rattle.mmtel_types.specs.declared.numbers.Peer.{Peer}
use Rattle.mmtel_types.specs.declared.sides.Side.TheVariants.{Callee}
use Rattle.mmtel_focus.specs.Responses.{after_ack_retransmission, after_own_ack, with_invite_cancel, with_failure_ack, invite_after_due_cancel}
use Rattle.mmtel_focus.specs.Responses.{after_invite_end, after_end, is_ack_pending, is_success, on_any_response, on_response_to, on_due, on_failure}
use Rattle.mmtel_focus.specs.Responses.{after_connect, after_missing_ack, after_ringing_limit, has_outstanding_number, on_outstanding_response, on_provisional, on_success, on_timeout, to_tag_of}
use Rattle.mmtel_focus.specs.Joining.{after_adoption, after_failure_notify, after_invite, after_invite_if_peer, after_join, after_refer}
use Rattle.mmtel_focus.specs.Referrals.{referral_in}
use Rattle.mmtel_focus.specs.Requests.{after_accepted_refer, acknowledges, after_reinvite, invite_in_flight, participant_after_request, is_invite_outstanding}
use Rattle.mmtel_focus.specs.Requests.{on_ack, after_response, on_bye, on_checked_request, on_request_in_order, on_invite, on_referral, on_request, after_refusal}
use Rattle.mmtel_focus.specs.Requests.{after_trying, request_check}
use Rattle.mmtel_focus.specs.Conferences.{Accepted, Conference, Invite, Outstanding, ParticipantState, StepResult, with_output}
use Rattle.mmtel_focus.specs.ParticipantSignals as of_seat
use Rattle.mmtel_focus.specs.ParticipantSignals.{ParticipantSignal}
use Rattle.mmtel_focus.specs.Participants.{after_close, after_close_with, after_dismissal, after_leave, after_notify, after_notify_referrer, after_notify_to}
use Rattle.mmtel_focus.specs.Participants.{at_participant, at_place, by_participant, is_connected, is_creator, is_full, leg_of, place_of, with_participant}
use Rattle.mmtel_focus.specs.ConferenceConfig.{ConferenceConfigView}
use Rattle.mmtel_focus.specs.Table.{conference_without_at, conference_without_in, conference_without_seat, step_of_participant, without_participant}
use Rattle.mmtel_focus.specs.Texts.{own_status, status_line}
use Rattle.mmtel_focus.specs.declared.referrals.Referral.{Referral}
use Rattle.mmtel_focus.specs.declared.referrals.Referral.TheVariants as referral

abbrev pub Keeps : StepResult → StepResult → Type 0
Keeps s t = t.conference.number ≡ s.conference.number

-- ---- at a place

if_keeps : (b : Bool) (s x y : StepResult) → Keeps s x → Keeps s y → Keeps s (if b then x else y)
if_keeps true s x y e f = e
if_keeps false s x y e f = f

module _ (row : (place : ℕ) → ParticipantState → StepResult → StepResult) (law : (place : ℕ) (seat : ParticipantState) (s : StepResult) → Keeps s (row place seat s)) where
  at_participant_keeps : (place : ℕ) (s : StepResult) → Keeps s (at_participant row place s)
  at_participant_keeps place s = go (slice_get s.conference.participants place)
    where
      go : (o : Option ParticipantState) → Keeps s (by_participant (row place) o s)
      go None = refl
      go (Some seat) = law place seat s

  at_place_keeps : (place : Option ℕ) (s : StepResult) → Keeps s (at_place row place s)
  at_place_keeps None s = refl
  at_place_keeps (Some place) s = at_participant_keeps place s

module _ (config : ConferenceConfigView) (now : ℕ) where
  -- ---- a participant is notified, and leaves

  pub after_notify_to_keeps : (goes_on : Bool) (line : List ℕ) (number : ℕ) (s : StepResult) → Keeps s (after_notify_to config goes_on line number s)
  after_notify_to_keeps goes_on line number s = at_place_keeps (after_notify config goes_on line) (λ place seat t. refl) (place_of number s.conference.participants) s

  after_notify_referrer_keeps : (goes_on : Bool) (line : List ℕ) (by : Option ℕ) (s : StepResult) → Keeps s (after_notify_referrer config goes_on line by s)
  after_notify_referrer_keeps goes_on line None s = refl
  after_notify_referrer_keeps goes_on line (Some number) s = after_notify_to_keeps goes_on line number s

  after_close_keeps : (seats : List ParticipantState) (s : StepResult) → Keeps s (after_close config now seats s)
  unfolding after_close
  after_close_keeps [] s = refl
  after_close_keeps (seat ∷ seats) s = after_close_keeps seats (after_dismissal config now 0 seat s)

  after_close_with_keeps : (number : ℕ) (s : StepResult) → Keeps s (after_close_with config now number s)
  after_close_with_keeps number s = if_keeps (is_creator number) s (after_close config now s.conference.participants s) s (after_close_keeps s.conference.participants s) refl

  -- ---- a party becomes a participant

  pub after_join_keeps : (leg : Released) (account : Option Account) (key : TKey) (m : MessageView) (s : StepResult) → Keeps s (after_join config now leg account key m s)
  unfolding after_join
  after_join_keeps leg account key m s = refl

  pub after_adoption_keeps : (leg : Released) (account : Option Account) (by : ℕ) (s : StepResult) → Keeps s (after_adoption config now leg account by s)
  unfolding after_adoption
  after_adoption_keeps leg account by s = refl

  after_invite_if_peer_keeps : (by : ℕ) (route : Option Peer) (u : Uri) (s : StepResult) → Keeps s (after_invite_if_peer config now by route u s)
  after_invite_if_peer_keeps by None u s = after_notify_to_keeps false (own_status 404) by s
  after_invite_if_peer_keeps by (Some peer) u s = if_keeps (is_full s.conference) s (after_failure_notify config by 503 s) (after_invite config now by peer u s) (after_notify_to_keeps false (own_status 503) by s) refl

  after_refer_keeps : (by : ℕ) (u : Option Uri) (s : StepResult) → Keeps s (after_refer config now by u s)
  unfolding after_refer
  after_refer_keeps by None s = after_notify_to_keeps false (own_status 404) by s
  after_refer_keeps by (Some u) s = after_invite_if_peer_keeps by (route_of u config.peers.routes) u s

  -- ---- the requests of a participant

  invite_keeps : (key : TKey) (m : MessageView) (place : ℕ) (seat : ParticipantState) (s : StepResult) → Keeps s (on_invite config now key m place seat s)
  invite_keeps key m place seat s = if_keeps (offers_audio m.parsed.body) s (after_reinvite config now key m place seat s) (after_refusal config key m 488 place seat s) refl refl

  bye_keeps : (key : TKey) (m : MessageView) (place : ℕ) (seat : ParticipantState) (s : StepResult) → Keeps s (on_bye config now key m place seat s)
  bye_keeps key m place seat s = after_close_with_keeps seat.number (after_leave now false place seat (after_refusal config key m 200 place seat s))

  referral_keeps : (key : TKey) (m : MessageView) (r : Referral) (place : ℕ) (seat : ParticipantState) (s : StepResult) → Keeps s (on_referral config now key m r place seat s)
  referral_keeps key m referral.Missing place seat s = refl
  referral_keeps key m referral.OtherMethod place seat s = refl
  referral_keeps key m (referral.Invite u) place seat s =
      after_refer_keeps seat.number u (after_trying config seat.number (after_accepted_refer config key m place seat s))
      ∙ after_notify_to_keeps true (own_status 100) seat.number (after_accepted_refer config key m place seat s)
  referral_keeps key m (referral.Replace r) place seat s = refl

  received_keeps : (key : TKey) (m : MessageView) (place : ℕ) (seat : ParticipantState) (s : StepResult) → Keeps s (on_request_in_order config now key m place seat s)
  received_keeps key m place seat s =
      let none : StepResult = after_refusal config key m 481 place seat s in
      let options : StepResult = if is_method (codes "OPTIONS") m.parsed.start then after_response config key m 200 (allow_lines config.methods) place seat s else none in
      let refer : StepResult = if is_method (codes "REFER") m.parsed.start then on_referral config now key m (referral_in m.parsed.refer_to) place seat s else options in
      let bye : StepResult = if is_method (codes "BYE") m.parsed.start then on_bye config now key m place seat s else refer in
      if_keeps (is_method (codes "INVITE") m.parsed.start) s (on_invite config now key m place seat s) bye (invite_keeps key m place seat s)
      (if_keeps (is_method (codes "BYE") m.parsed.start) s (on_bye config now key m place seat s) refer (bye_keeps key m place seat s)
      (if_keeps (is_method (codes "REFER") m.parsed.start) s (on_referral config now key m (referral_in m.parsed.refer_to) place seat s) options (referral_keeps key m (referral_in m.parsed.refer_to) place seat s)
      (if_keeps (is_method (codes "OPTIONS") m.parsed.start) s (after_response config key m 200 (allow_lines config.methods) place seat s) none refl refl)))

  receiving_keeps : (key : TKey) (m : MessageView) (r : Result (Unit {0}) DialogueFault) (place : ℕ) (seat : ParticipantState) (s : StepResult) → Keeps s (on_checked_request config now key m r place seat s)
  receiving_keeps key m (Err (OldCSeq last)) place seat s = refl
  receiving_keeps key m (Err Pending) place seat s = refl
  receiving_keeps key m (Err Unfinished) place seat s = refl
  receiving_keeps key m (Ok received) place seat s = at_participant_keeps (on_request_in_order config now key m) (received_keeps key m) place (with_participant place (participant_after_request m seat) s)

  request_keeps : (key : TKey) (m : MessageView) (place : ℕ) (seat : ParticipantState) (s : StepResult) → Keeps s (on_request config now key m place seat s)
  unfolding on_request
  request_keeps key m place seat s =
      if_keeps (is_connected seat) s (on_checked_request config now key m (request_check (leg_of seat.party) m (invite_in_flight seat)) place seat s) (after_refusal config key m 481 place seat s)
      (receiving_keeps key m (request_check (leg_of seat.party) m (invite_in_flight seat)) place seat s) refl

  ack_keeps : (m : MessageView) (place : ℕ) (seat : ParticipantState) (s : StepResult) → Keeps s (on_ack m place seat s)
  unfolding on_ack
  ack_keeps m place seat s = if_keeps (acknowledges m seat.pending_ack) s (with_participant place (record seat { pending_ack = None }) s) s refl refl

  -- ---- the results of the server's INVITE to a participant

  ended_keeps : (line : List ℕ) (place : ℕ) (seat : ParticipantState) (s : StepResult) → Keeps s (after_end config now line place seat s)
  ended_keeps line place seat s = after_notify_referrer_keeps false line seat.by (after_dismissal config now place seat s)

  unasked_keeps : (line : List ℕ) (place : ℕ) (seat : ParticipantState) (s : StepResult) → Keeps s (after_invite_end config now line place seat s)
  unasked_keeps line place seat s = at_participant_keeps (after_end config now line) (ended_keeps line) place (with_participant place (record seat { invite = None }) s)

  success_keeps : (m : MessageView) (place : ℕ) (seat : ParticipantState) (s : StepResult) → Keeps s (on_success config now m place seat s)
  success_keeps m place seat s =
      let stood : StepResult = after_connect now (remote_of Callee m.parsed.lines) place seat s in
      after_notify_referrer_keeps false (own_status 200) seat.by (at_participant (after_own_ack config (to_tag_of m)) place stood)
      ∙ at_participant_keeps (after_own_ack config (to_tag_of m)) (λ place seat t. refl) place stood

  failure_keeps : (key : TKey) (m : MessageView) (place : ℕ) (seat : ParticipantState) (s : StepResult) → Keeps s (on_failure config now key m place seat s)
  failure_keeps key m place seat s =
      unasked_keeps (status_line (status_of m.parsed.start) (phrase_in m.parsed.start)) place seat (with_output (with_failure_ack config.sip key m seat.invite s.effects.output) s)

  response_keeps : (key : TKey) (m : MessageView) (place : ℕ) (seat : ParticipantState) (s : StepResult) → Keeps s (on_outstanding_response config now key m place seat s)
  response_keeps key m place seat s =
      let final : StepResult = if nat_lt (status_of m.parsed.start) 300 then on_success config now m place seat s else on_failure config now key m place seat s in
      if_keeps (nat_lt (status_of m.parsed.start) 200) s (on_provisional key place seat s) final refl
      (if_keeps (nat_lt (status_of m.parsed.start) 300) s (on_success config now m place seat s) (on_failure config now key m place seat s) (success_keeps m place seat s) (failure_keeps key m place seat s))

  answer_keeps : (invite : Option Invite) (key : TKey) (m : MessageView) (place : ℕ) (seat : ParticipantState) (s : StepResult) → Keeps s (on_response_to invite config now key m place seat s)
  answer_keeps None key m place seat s = refl
  answer_keeps (Some (Outstanding number i)) key m place seat s = response_keeps key m place seat s
  answer_keeps (Some (Accepted branch tag ack)) key m place seat s =
      if_keeps (is_success (status_of m.parsed.start) && bytes_eq (to_tag_of m) tag) s (after_ack_retransmission ack seat s) s refl refl

  silence_keeps : (place : ℕ) (seat : ParticipantState) (s : StepResult) → Keeps s (on_timeout config now place seat s)
  unfolding on_timeout
  silence_keeps place seat s = if_keeps (is_invite_outstanding seat.invite) s (after_invite_end config now (own_status 408) place seat s) s (unasked_keeps (own_status 408) place seat s) refl

  after_ringing_limit_keeps : (place : ℕ) (seat : ParticipantState) (s : StepResult) → Keeps s (after_ringing_limit config now place seat s)
  after_ringing_limit_keeps place seat s =
      at_participant_keeps (after_end config now (own_status 408)) (ended_keeps (own_status 408)) place
      (with_participant place (record seat { invite = invite_after_due_cancel seat.invite }) (with_output (with_invite_cancel config.sip seat.invite s.effects.output) s))

  due_keeps : (what : RoomWord) (place : ℕ) (seat : ParticipantState) (s : StepResult) → Keeps s (on_due config now what place seat s)
  unfolding on_due
  due_keeps (due.Cap number) place seat s =
      if_keeps (not (is_connected seat) && has_outstanding_number number seat.invite) s (after_ringing_limit config now place seat s) s (after_ringing_limit_keeps place seat s) refl
  due_keeps (due.NoAck number) place seat s =
      if_keeps (is_ack_pending number seat.pending_ack) s (after_missing_ack config now place seat s) s (after_close_with_keeps seat.number (after_dismissal config now place seat s)) refl

  -- ---- any signal

  step_of_participant_keeps : (received : ParticipantSignal) (place : ℕ) (seat : ParticipantState) (s : StepResult) → Keeps s (step_of_participant config now received place seat s)
  unfolding step_of_participant on_any_response
  step_of_participant_keeps (of_seat.Request key m) place seat s = request_keeps key m place seat s
  step_of_participant_keeps (of_seat.Ack m) place seat s = ack_keeps m place seat s
  step_of_participant_keeps (of_seat.Answer key m) place seat s = answer_keeps seat.invite key m place seat s
  step_of_participant_keeps of_seat.Silent place seat s = silence_keeps place seat s
  step_of_participant_keeps (of_seat.Due what) place seat s = due_keeps what place seat s

  pub signal_keeps : (received : ParticipantSignal) (place : Option ℕ) (s : StepResult) → Keeps s (at_place (step_of_participant config now received) place s)
  signal_keeps received place s = at_place_keeps (step_of_participant config now received) (step_of_participant_keeps received) place s

-- ---- a participant leaves without a signal

conference_without_at_keeps : (place : ℕ) (o : Option ParticipantState) (room : Conference) → (conference_without_at place o room).number ≡ room.number
conference_without_at_keeps place None room = refl
conference_without_at_keeps place (Some seat) room = go (is_connected seat)
  where
    go : (b : Bool) → (if b then without_participant place room else room).number ≡ room.number
    go true = refl
    go false = refl

pub after_leave_keeps : (seat : ℕ) (room : Conference) → (conference_without_seat seat room).number ≡ room.number
after_leave_keeps seat room = go (place_of seat room.participants)
  where
    go : (o : Option ℕ) → (conference_without_in o room).number ≡ room.number
    go None = refl
    go (Some place) = conference_without_at_keeps place (slice_get room.participants place) room
