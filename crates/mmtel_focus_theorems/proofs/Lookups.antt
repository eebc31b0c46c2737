-- Of the URIs of accounts, what is done on a table of conferences depends on the results of its lookups alone: under two configurations that are equal but for these URIs the result is the same where the lookups have
-- the same results.
use Rattle.std.proofs.Common.{◌≡◌, ◌&&◌, not, ℕ, Bool, true, false, List, [], ◌∷◌, Option, Some, None, Result, Ok, Err, refl, ap, ◌∙◌, subst, codes, nat_lt}
use Rattle.std.specs.Prelude.{if◌then◌else◌, position, slice_get}
use Rattle.mmtel_compose.specs.Responses.{allow_lines}
use Rattle.mmtel_compose.specs.ReceivedMessages.{MessageView, phrase_in, status_of}
use Rattle.mmtel_output.specs.AbandonedInvites.{is_of_branch}
use Rattle.mmtel_output.specs.declared.outputs.StepOutput.{StepOutput}
use Rattle.mmtel_output.specs.declared.sent_invites.AbandonedInvite.{AbandonedInvite}
use Rattle.mmtel_leg.specs.Remotes.{remote_of}
use Rattle.mmtel_leg.specs.declared.dialogues.DialogueFault.{DialogueFault}
use Rattle.mmtel_leg.specs.declared.dialogues.DialogueFault.TheVariants.{OldCSeq, Pending, Unfinished}
use Rattle.mmtel_leg.specs.declared.legs.Released.{Released}
use Rattle.mmtel_lex.specs.Grammar.{uri_text}
use Rattle.mmtel_lex.specs.declared.values.Uri.{Uri}
use Rattle.mmtel_message.specs.Faults.{is_method}
use Rattle.mmtel_transaction.specs.declared.words.RoomWord.{RoomWord}
use Rattle.mmtel_transaction.specs.declared.words.RoomWord.TheVariants as due
use Rattle.mmtel_transaction.specs.declared.words.TKey.{TKey}
use Rattle.mmtel_trust.specs.Peers.{route_of}
use Rattle.mmtel_trust.specs.declared.accounts.AccountIdentity.{AccountIdentity}
use Rattle.mmtel_types.specs.declared.numbers.Account.{Account}
use Rattle.mmtel_types.specs.declared.numbers.Peer.{Peer}
use Rattle.mmtel_types.specs.declared.numbers.RoomNo.{RoomNo}
use Rattle.mmtel_types.specs.declared.sides.Side.TheVariants.{Callee}
use Rattle.mmtel_focus.specs.Responses.{after_connect, after_end, after_invite_end, after_own_ack, has_outstanding_number, invite_after_due_cancel, is_ack_pending, on_any_response, on_cap}
use Rattle.mmtel_focus.specs.Responses.{on_due, on_failure, on_outstanding_response, on_provisional, on_response_to, on_success, on_timeout, to_tag_of, with_failure_ack, with_invite_cancel}
use Rattle.mmtel_focus.specs.Operations as histories
use Rattle.mmtel_focus.specs.Operations.{TableOp, effects_of, table_after_op, with_conference_step, with_opened_conference, with_step}
use Rattle.mmtel_focus.specs.Joining.{after_adoption, after_failure_notify, after_invite, after_invite_if_peer, after_invite_in, after_join, after_refer, invitation_dialog, new_conference}
use Rattle.mmtel_focus.specs.Referrals.{referral_in, target_of}
use Rattle.mmtel_focus.specs.Requests.{after_accepted_refer, after_refusal, after_response, after_trying, invite_in_flight, is_invite_outstanding, on_bye}
use Rattle.mmtel_focus.specs.Requests.{on_checked_request, on_invite, on_referral, on_request, on_request_in_order, participant_after_request, request_check}
use Rattle.mmtel_focus.specs.Conferences.{Conference, StepResult, no_effects, with_output}
use Rattle.mmtel_focus.specs.ParticipantSignals as of_seat
use Rattle.mmtel_focus.specs.ParticipantSignals.{ParticipantSignal}
use Rattle.mmtel_focus.specs.Participants as seats
use Rattle.mmtel_focus.specs.Participants.{after_close, after_close_with, after_dismissal, after_leave, after_notify, after_notify_referrer, after_notify_to, at_participant}
use Rattle.mmtel_focus.specs.Participants.{at_place, by_participant, has_seat_number, is_connected, is_creator, is_full, leg_of, participant_after_notify, with_participant}
use Rattle.mmtel_focus.specs.ConferenceConfig.{ConferenceConfigView}
use Rattle.mmtel_focus.specs.Table as tables
use Rattle.mmtel_focus.specs.Table.{ConferenceStep, Table, TableStep, access, conference_has_branch, is_provisional, next_room_number, open_result_at, open_result_by, open_result_in}
use Rattle.mmtel_focus.specs.Table.{participant_has_branch, place_of, step_by_branch, step_by_number, step_if_access, step_of_adoption, step_of_join, step_of_notify, step_of_participant}
use Rattle.mmtel_focus.specs.Table.{step_of_response, step_of_response_at, step_of_signal, step_of_timeout, step_of_timeout_at, step_result_at, step_result_by, step_result_in, with_abandoned}
use Rattle.mmtel_output.specs.ResponseMatching.{awaited_request_branch, timed_out_branch}
use Rattle.mmtel_focus.specs.Texts.{own_status, status_line}
use Rattle.mmtel_focus.specs.declared.faults.RoomFault.{RoomFault}
use Rattle.mmtel_focus.specs.declared.referrals.Referral.{Referral}
use Rattle.mmtel_focus.specs.declared.referrals.Referral.TheVariants as referral
use Rattle.mmtel_participants.specs.declared.effects.Effects.{Effects}
use Rattle.mmtel_participants.specs.declared.participants.Invite.{Invite}
use Rattle.mmtel_participants.specs.declared.participants.Invite.TheVariants.{Accepted, Outstanding}
use Rattle.mmtel_participants.specs.declared.participants.Party.{Party}
use Rattle.mmtel_participants.specs.declared.participants.Party.TheVariants.{DialedIn, DialedOut, Invited}
use Rattle.mmtel_participants.specs.declared.participants.ParticipantState.{ParticipantState}
use Rattle.mmtel_focus.specs.declared.signals.RoomSignal.{RoomSignal}
use Rattle.mmtel_focus.specs.declared.signals.RoomSignal.TheVariants as signal
use Rattle.mmtel_focus_theorems.specs.Configurations.{EqualButForAccounts, LooksUpEqually, OneIsEquivalent, OpLooksUpEqually, OperationsSeeLookupsAlone, RefersEqually, SignalLooksUpEqually}

-- ---- where the steps at each place are the same

if-same : (b : Bool) (p q v w : StepResult) → (b ≡ true → p ≡ v) → q ≡ w → (if b then p else q) ≡ (if b then v else w)
if-same true p q v w e f = e refl
if-same false p q v w e f = f

at-same : (f g : (place : ℕ) → ParticipantState → StepResult → StepResult) → ((place : ℕ) (v : ParticipantState) (s : StepResult) → f place v s ≡ g place v s) → (o : Option ℕ) (s : StepResult) →
    at_place f o s ≡ at_place g o s
at-same f g same None s = refl
at-same f g same (Some place) s = by (slice_get s.conference.participants place)
  where
    by : (o : Option ParticipantState) → by_participant (f place) o s ≡ by_participant (g place) o s
    by None = refl
    by (Some v) = same place v s

stepped-same : (f g : StepResult → StepResult) → ((s : StepResult) → f s ≡ g s) → (o : Option ℕ) (live : List Conference) (effects : Effects) → step_result_in f o live effects ≡ step_result_in g o live effects
stepped-same f g same None live effects = refl
stepped-same f g same (Some place) live effects = by (slice_get live place)
  where
    by : (o : Option Conference) → step_result_at f place o live effects ≡ step_result_at g place o live effects
    by None = refl
    by (Some room) = ap (λ (s : StepResult). step_result_by place s live) (same (record { conference = room; effects = effects }))

-- ---- the same configuration with these accounts

module _ (config : ConferenceConfigView) (accounts : List AccountIdentity) where
  abbrev far : ConferenceConfigView
  far = record config { accounts = accounts }

  after_close-same : (now : ℕ) (vs : List ParticipantState) (s : StepResult) → after_close config now vs s ≡ after_close far now vs s
  unfolding after_close
  after_close-same now [] s = refl
  after_close-same now (v ∷ vs) s = after_close-same now vs (after_dismissal config now 0 v s)

  after_close_with-same : (now number : ℕ) (s : StepResult) → after_close_with config now number s ≡ after_close_with far now number s
  after_close_with-same now number s = ap (λ (z : StepResult). if is_creator number then z else s) (after_close-same now s.conference.participants s)

  -- ---- NOTIFY

  noted-same : (n : RoomNo) (on : Bool) (line : List ℕ) (p : Party) (output : StepOutput) → seats.with_notify_to_party config n on line p output ≡ seats.with_notify_to_party far n on line p output
  noted-same n on line (Invited leg) output = refl
  noted-same n on line (DialedIn leg) output = refl
  noted-same n on line (DialedOut leg) output = refl

  after_notify-same : (on : Bool) (line : List ℕ) (place : ℕ) (v : ParticipantState) (s : StepResult) → after_notify config on line place v s ≡ after_notify far on line place v s
  after_notify-same on line place v s = ap (λ (d : StepOutput). with_output d (with_participant place (participant_after_notify v) s)) (noted-same s.conference.number on line v.party s.effects.output)

  after_notify_to-same : (on : Bool) (line : List ℕ) (n : ℕ) (s : StepResult) → after_notify_to config on line n s ≡ after_notify_to far on line n s
  after_notify_to-same on line n s = at-same (after_notify config on line) (after_notify far on line) (λ place v r. after_notify-same on line place v r) (seats.place_of n s.conference.participants) s

  after_notify_referrer-same : (on : Bool) (line : List ℕ) (o : Option ℕ) (s : StepResult) → after_notify_referrer config on line o s ≡ after_notify_referrer far on line o s
  after_notify_referrer-same on line None s = refl
  after_notify_referrer-same on line (Some n) s = after_notify_to-same on line n s

  -- ---- a party is invited: this alone looks an account up

  at-peer : (now n : ℕ) (o : Option Peer) (u : Uri) (s : StepResult) → LooksUpEqually config far u → after_invite_if_peer config now n o u s ≡ after_invite_if_peer far now n o u s
  at-peer now n None u s e = after_notify_to-same false (own_status 404) n s
  at-peer now n (Some peer) u s e =
      if-same (is_full s.conference) (after_failure_notify config n 503 s) (after_invite config now n peer u s) (after_failure_notify far n 503 s) (after_invite far now n peer u s)
      (λ is. after_notify_to-same false (own_status 503) n s)
      (ap (λ (z : Option Account). after_invite_in config now n z (invitation_dialog config s.conference.number peer (uri_text (target_of u)) s.effects.output) s) e)

  after_refer-same : (now n : ℕ) (o : Option Uri) (s : StepResult) → ((u : Uri) → o ≡ Some u → LooksUpEqually config far u) → after_refer config now n o s ≡ after_refer far now n o s
  unfolding after_refer
  after_refer-same now n None s e = after_notify_to-same false (own_status 404) n s
  after_refer-same now n (Some u) s e = at-peer now n (route_of u config.peers.routes) u s (e u refl)

  referral-same : (now : ℕ) (key : TKey) (m : MessageView) (x : Referral) (place : ℕ) (v : ParticipantState) (s : StepResult) → ((u : Uri) → x ≡ referral.Invite (Some u) → LooksUpEqually config far u) →
      on_referral config now key m x place v s ≡ on_referral far now key m x place v s
  referral-same now key m referral.Missing place v s e = refl
  referral-same now key m referral.OtherMethod place v s e = refl
  referral-same now key m (referral.Invite o) place v s e =
      after_refer-same now v.number o (after_trying config v.number (after_accepted_refer config key m place v s)) (λ u is. e u (ap (λ (z : Option Uri). referral.Invite z) is))
      ∙ ap (λ (z : StepResult). after_refer far now v.number o z) (after_notify_to-same true (own_status 100) v.number (after_accepted_refer config key m place v s))
  referral-same now key m (referral.Replace r) place v s e = refl

  -- ---- the requests of a participant

  bye-same : (now : ℕ) (key : TKey) (m : MessageView) (place : ℕ) (v : ParticipantState) (s : StepResult) → on_bye config now key m place v s ≡ on_bye far now key m place v s
  bye-same now key m place v s = after_close_with-same now v.number (after_leave now false place v (after_refusal config key m 200 place v s))

  received-same : (now : ℕ) (key : TKey) (m : MessageView) (place : ℕ) (v : ParticipantState) (s : StepResult) → RefersEqually config far m →
      on_request_in_order config now key m place v s ≡ on_request_in_order far now key m place v s
  received-same now key m place v s e =
      let last : StepResult = after_refusal config key m 481 place v s in
      let options : StepResult = if is_method (codes "OPTIONS") m.parsed.start then after_response config key m 200 (allow_lines config.methods) place v s else last in
      let refer : ConferenceConfigView → StepResult = λ z. on_referral z now key m (referral_in m.parsed.refer_to) place v s in
      let bye : ConferenceConfigView → StepResult = λ z. on_bye z now key m place v s in
      let invite : StepResult = on_invite config now key m place v s in
      if-same (is_method (codes "INVITE") m.parsed.start) invite (if is_method (codes "BYE") m.parsed.start then bye config else if is_method (codes "REFER") m.parsed.start then refer config else options)
      invite (if is_method (codes "BYE") m.parsed.start then bye far else if is_method (codes "REFER") m.parsed.start then refer far else options) (λ is. refl)
      (if-same (is_method (codes "BYE") m.parsed.start) (bye config) (if is_method (codes "REFER") m.parsed.start then refer config else options) (bye far)
      (if is_method (codes "REFER") m.parsed.start then refer far else options)
      (λ is. bye-same now key m place v s)
      (if-same (is_method (codes "REFER") m.parsed.start) (refer config) options (refer far) options (λ is. referral-same now key m (referral_in m.parsed.refer_to) place v s (λ u to. e u is to)) refl))

  receiving-same : (now : ℕ) (key : TKey) (m : MessageView) (x : Result (Unit {0}) DialogueFault) (place : ℕ) (v : ParticipantState) (s : StepResult) → RefersEqually config far m →
      on_checked_request config now key m x place v s ≡ on_checked_request far now key m x place v s
  receiving-same now key m (Err (OldCSeq last)) place v s e = refl
  receiving-same now key m (Err Pending) place v s e = refl
  receiving-same now key m (Err Unfinished) place v s e = refl
  receiving-same now key m (Ok received) place v s e =
      at-same (on_request_in_order config now key m) (on_request_in_order far now key m) (λ at w r. received-same now key m at w r e) (Some place) (with_participant place (participant_after_request m v) s)

  request-same : (now : ℕ) (key : TKey) (m : MessageView) (place : ℕ) (v : ParticipantState) (s : StepResult) → RefersEqually config far m → on_request config now key m place v s ≡ on_request far now key m place v s
  unfolding on_request
  request-same now key m place v s e =
      if-same (is_connected v) (on_checked_request config now key m (request_check (leg_of v.party) m (invite_in_flight v)) place v s) (after_refusal config key m 481 place v s)
      (on_checked_request far now key m (request_check (leg_of v.party) m (invite_in_flight v)) place v s) (after_refusal far key m 481 place v s)
      (λ is. receiving-same now key m (request_check (leg_of v.party) m (invite_in_flight v)) place v s e) refl

  -- ---- the results of the INVITE to a participant

  without-same : (now : ℕ) (line : List ℕ) (place : ℕ) (v : ParticipantState) (s : StepResult) → after_end config now line place v s ≡ after_end far now line place v s
  without-same now line place v s = after_notify_referrer-same false line v.by (after_dismissal config now place v s)

  unasked-same : (now : ℕ) (line : List ℕ) (place : ℕ) (v : ParticipantState) (s : StepResult) → after_invite_end config now line place v s ≡ after_invite_end far now line place v s
  unasked-same now line place v s =
      at-same (after_end config now line) (after_end far now line) (λ at w r. without-same now line at w r) (Some place) (with_participant place (record v { invite = None }) s)

  success-same : (now : ℕ) (m : MessageView) (place : ℕ) (v : ParticipantState) (s : StepResult) → on_success config now m place v s ≡ on_success far now m place v s
  success-same now m place v s =
      let x : StepResult = after_connect now (remote_of Callee m.parsed.lines) place v s in
      after_notify_referrer-same false (own_status 200) v.by (at_participant (after_own_ack config (to_tag_of m)) place x)
      ∙ ap (λ (z : StepResult). after_notify_referrer far false (own_status 200) v.by z) (at-same (after_own_ack config (to_tag_of m)) (after_own_ack far (to_tag_of m)) (λ at w r. refl) (Some place) x)

  response-same : (now : ℕ) (key : TKey) (m : MessageView) (place : ℕ) (v : ParticipantState) (s : StepResult) → on_outstanding_response config now key m place v s ≡ on_outstanding_response far now key m place v s
  response-same now key m place v s =
      let later : ConferenceConfigView → StepResult = λ z. if nat_lt (status_of m.parsed.start) 300 then on_success z now m place v s else on_failure z now key m place v s in
      if-same (nat_lt (status_of m.parsed.start) 200) (on_provisional key place v s) (later config) (on_provisional key place v s) (later far) (λ is. refl)
      (if-same (nat_lt (status_of m.parsed.start) 300) (on_success config now m place v s) (on_failure config now key m place v s) (on_success far now m place v s) (on_failure far now key m place v s)
      (λ is. success-same now m place v s)
      (unasked-same now (status_line (status_of m.parsed.start) (phrase_in m.parsed.start)) place v (with_output (with_failure_ack config.sip key m v.invite s.effects.output) s)))

  answer-same : (now : ℕ) (key : TKey) (m : MessageView) (place : ℕ) (v : ParticipantState) (s : StepResult) → on_any_response config now key m place v s ≡ on_any_response far now key m place v s
  unfolding on_any_response
  answer-same now key m place v s = by v.invite
    where
      by : (o : Option Invite) → on_response_to o config now key m place v s ≡ on_response_to o far now key m place v s
      by None = refl
      by (Some (Outstanding number i)) = response-same now key m place v s
      by (Some (Accepted branch tag ack)) = refl

  silence-same : (now place : ℕ) (v : ParticipantState) (s : StepResult) → on_timeout config now place v s ≡ on_timeout far now place v s
  unfolding on_timeout
  silence-same now place v s = ap (λ (z : StepResult). if is_invite_outstanding v.invite then z else s) (unasked-same now (own_status 408) place v s)

  cap-same : (now number place : ℕ) (v : ParticipantState) (s : StepResult) → on_cap config now number place v s ≡ on_cap far now number place v s
  cap-same now number place v s =
      ap (λ (z : StepResult). if not (is_connected v) && has_outstanding_number number v.invite then z else s)
      (at-same (after_end config now (own_status 408)) (after_end far now (own_status 408)) (λ at w r. without-same now (own_status 408) at w r) (Some place)
      (with_participant place (record v { invite = invite_after_due_cancel v.invite }) (with_output (with_invite_cancel config.sip v.invite s.effects.output) s)))

  due-same : (now : ℕ) (what : RoomWord) (place : ℕ) (v : ParticipantState) (s : StepResult) → on_due config now what place v s ≡ on_due far now what place v s
  unfolding on_due
  due-same now (due.Cap number) place v s = cap-same now number place v s
  due-same now (due.NoAck number) place v s = ap (λ (z : StepResult). if is_ack_pending number v.pending_ack then z else s) (after_close_with-same now v.number (after_dismissal config now place v s))

  -- ---- what a participant receives

  abbrev SeatLooksAlike : ParticipantSignal → Type 0
  SeatLooksAlike (of_seat.Request key request) = RefersEqually config far request
  SeatLooksAlike (of_seat.Ack ack) = Unit {0}
  SeatLooksAlike (of_seat.Answer key response) = Unit {0}
  SeatLooksAlike of_seat.Silent = Unit {0}
  SeatLooksAlike (of_seat.Due what) = Unit {0}

  step_of_participant-same : (now : ℕ) (x : ParticipantSignal) (place : ℕ) (v : ParticipantState) (s : StepResult) → SeatLooksAlike x → step_of_participant config now x place v s ≡ step_of_participant far now x place v s
  unfolding step_of_participant
  step_of_participant-same now (of_seat.Request key request) place v s e = request-same now key request place v s e
  step_of_participant-same now (of_seat.Ack ack) place v s e = refl
  step_of_participant-same now (of_seat.Answer key response) place v s e = answer-same now key response place v s
  step_of_participant-same now of_seat.Silent place v s e = silence-same now place v s
  step_of_participant-same now (of_seat.Due what) place v s e = due-same now what place v s

  room-same : (now : ℕ) (whose : ParticipantState → Bool) (x : ParticipantSignal) → SeatLooksAlike x → (s : StepResult) → tables.step_of_first config now whose x s ≡ tables.step_of_first far now whose x s
  room-same now whose x e s = at-same (step_of_participant config now x) (step_of_participant far now x) (λ place v r. step_of_participant-same now x place v r e) (position whose s.conference.participants) s

  in-same : (now room seat : ℕ) (x : ParticipantSignal) (live : List Conference) (effects : Effects) → SeatLooksAlike x →
      step_by_number config now room seat x live effects ≡ step_by_number far now room seat x live effects
  in-same now room seat x live effects e =
      stepped-same (tables.step_of_first config now (has_seat_number seat) x) (tables.step_of_first far now (has_seat_number seat) x) (room-same now (has_seat_number seat) x e) (place_of room live) live effects

  of-same : (now : ℕ) (branch : List ℕ) (x : ParticipantSignal) (live : List Conference) (effects : Effects) → SeatLooksAlike x →
      step_by_branch config now branch x live effects ≡ step_by_branch far now branch x live effects
  of-same now branch x live effects e =
      stepped-same (tables.step_of_first config now (participant_has_branch branch) x) (tables.step_of_first far now (participant_has_branch branch) x)
      (room-same now (participant_has_branch branch) x e) (position (conference_has_branch branch) live) live effects

  -- ---- any signal

  answered-same : (now : ℕ) (key : TKey) (m : MessageView) (o : Option (List ℕ)) (live : List Conference) (abandoned : List AbandonedInvite) (effects : Effects) →
      step_of_response config now key m o live abandoned effects ≡ step_of_response far now key m o live abandoned effects
  answered-same now key m None live abandoned effects = refl
  answered-same now key m (Some branch) live abandoned effects = by (position (is_of_branch branch) abandoned)
    where
      by : (o : Option ℕ) → step_of_response_at config now key m branch o live abandoned effects ≡ step_of_response_at far now key m branch o live abandoned effects
      by None = ap (with_abandoned abandoned) (of-same now branch (of_seat.Answer key m) live effects tt)
      by (Some place) = refl

  silenced-same : (now : ℕ) (o : Option (List ℕ)) (live : List Conference) (abandoned : List AbandonedInvite) (effects : Effects) →
      step_of_timeout config now o live abandoned effects ≡ step_of_timeout far now o live abandoned effects
  silenced-same now None live abandoned effects = refl
  silenced-same now (Some branch) live abandoned effects = by (position (is_of_branch branch) abandoned)
    where
      by : (o : Option ℕ) → step_of_timeout_at config now branch o live abandoned effects ≡ step_of_timeout_at far now branch o live abandoned effects
      by None = ap (with_abandoned abandoned) (of-same now branch of_seat.Silent live effects tt)
      by (Some place) = refl

  step_of_signal-same : (now : ℕ) (x : RoomSignal) (live : List Conference) (abandoned : List AbandonedInvite) (effects : Effects) → SignalLooksUpEqually config far x →
      step_of_signal config now x live abandoned effects ≡ step_of_signal far now x live abandoned effects
  unfolding step_of_signal
  step_of_signal-same now (signal.Request room seat key request) live abandoned effects e = ap (with_abandoned abandoned) (in-same now room.0 seat (of_seat.Request key request) live effects e)
  step_of_signal-same now (signal.Ack room seat ack) live abandoned effects e = ap (with_abandoned abandoned) (in-same now room.0 seat (of_seat.Ack ack) live effects tt)
  step_of_signal-same now (signal.Answer key response) live abandoned effects e = answered-same now key response (awaited_request_branch response) live abandoned effects
  step_of_signal-same now (signal.Silent branch method) live abandoned effects e = silenced-same now (timed_out_branch branch method) live abandoned effects
  step_of_signal-same now (signal.Due room seat what) live abandoned effects e = ap (with_abandoned abandoned) (in-same now room.0 seat (of_seat.Due what) live effects tt)
  step_of_signal-same now (signal.Over key) live abandoned effects e = refl

  -- ---- a leg enters a conference, and a participant is notified

  after_join-same : (now : ℕ) (leg : Released) (account : Option Account) (key : TKey) (m : MessageView) (s : StepResult) → after_join config now leg account key m s ≡ after_join far now leg account key m s
  unfolding after_join
  after_join-same now leg account key m s = refl

  after_adoption-same : (now : ℕ) (leg : Released) (account : Option Account) (by : ℕ) (s : StepResult) → after_adoption config now leg account by s ≡ after_adoption far now leg account by s
  unfolding after_adoption
  after_adoption-same now leg account by s = refl

  stays-same : (f g : StepResult → StepResult) → ((s : StepResult) → f s ≡ g s) → (o : Option ℕ) (live : List Conference) (effects : Effects) → open_result_in f o live effects ≡ open_result_in g o live effects
  stays-same f g same None live effects = refl
  stays-same f g same (Some place) live effects = by (slice_get live place)
    where
      by : (o : Option Conference) → open_result_at f place o live effects ≡ open_result_at g place o live effects
      by None = refl
      by (Some room) = ap (λ (s : StepResult). open_result_by place s live) (same (record { conference = room; effects = effects }))

  step_if_access-same : (f g : StepResult → StepResult) → ((s : StepResult) → f s ≡ g s) → (x : Result ℕ RoomFault) (live : List Conference) (effects : Effects) →
      step_if_access f x live effects ≡ step_if_access g x live effects
  step_if_access-same f g same (Ok place) live effects = stays-same f g same (Some place) live effects
  step_if_access-same f g same (Err fault) live effects = refl

  step_of_join-same : (now room : ℕ) (leg : Released) (account : Option Account) (key : TKey) (m : MessageView) (live : List Conference) (effects : Effects) →
      step_of_join config now room leg account key m live effects ≡ step_of_join far now room leg account key m live effects
  unfolding step_of_join
  step_of_join-same now room leg account key m live effects =
      step_if_access-same (after_join config now leg account key m) (after_join far now leg account key m) (λ s. after_join-same now leg account key m s) (access room live) live effects

  step_of_adoption-same : (now room : ℕ) (leg : Released) (account : Option Account) (by : ℕ) (live : List Conference) (effects : Effects) →
      step_of_adoption config now room leg account by live effects ≡ step_of_adoption far now room leg account by live effects
  unfolding step_of_adoption
  step_of_adoption-same now room leg account by live effects =
      step_if_access-same (after_adoption config now leg account by) (after_adoption far now leg account by) (λ s. after_adoption-same now leg account by s) (access room live) live effects

  step_of_notify-same : (room seat code : ℕ) (live : List Conference) (effects : Effects) → step_of_notify config room seat code live effects ≡ step_of_notify far room seat code live effects
  unfolding step_of_notify
  step_of_notify-same room seat code live effects =
      stays-same (after_notify_to config (is_provisional code) (own_status code) seat) (after_notify_to far (is_provisional code) (own_status code) seat)
      (λ s. after_notify_to-same (is_provisional code) (own_status code) seat s) (place_of room live) live effects

  -- ---- any operation

  effects-same : (op : TableOp) (table : Table) → OpLooksUpEqually config far op → effects_of config op table ≡ effects_of far op table
  effects-same (histories.Opens c) table e =
      ap (λ (s : StepResult). s.effects) (after_join-same c.at c.leg c.account c.key c.invite (record { conference = new_conference (next_room_number table); effects = no_effects c.tokens }))
  effects-same (histories.Joins room c) table e = ap (λ (s : ConferenceStep). s.effects) (step_of_join-same c.at room c.leg c.account c.key c.invite table.live (no_effects c.tokens))
  effects-same (histories.Adopts room a) table e = ap (λ (s : ConferenceStep). s.effects) (step_of_adoption-same a.at room a.leg a.account a.by table.live (no_effects a.tokens))
  effects-same (histories.Notifies room seat code tokens) table e = ap (λ (s : ConferenceStep). s.effects) (step_of_notify-same room seat code table.live (no_effects tokens))
  effects-same (histories.Receives x) table e = ap (λ (s : TableStep). s.effects) (step_of_signal-same x.at x.signal table.live table.abandoned (no_effects x.tokens) e)
  effects-same (histories.Leaves room seat) table e = refl
  effects-same (histories.Closes room) table e = refl
  effects-same (histories.Drops count) table e = refl

  table_after_op-same : (op : TableOp) (table : Table) → OpLooksUpEqually config far op → table_after_op config op table ≡ table_after_op far op table
  table_after_op-same (histories.Opens c) table e =
      ap (λ (s : StepResult). with_opened_conference s table) (after_join-same c.at c.leg c.account c.key c.invite (record { conference = new_conference (next_room_number table); effects = no_effects c.tokens }))
  table_after_op-same (histories.Joins room c) table e = ap (λ (s : ConferenceStep). with_conference_step s table) (step_of_join-same c.at room c.leg c.account c.key c.invite table.live (no_effects c.tokens))
  table_after_op-same (histories.Adopts room a) table e = ap (λ (s : ConferenceStep). with_conference_step s table) (step_of_adoption-same a.at room a.leg a.account a.by table.live (no_effects a.tokens))
  table_after_op-same (histories.Notifies room seat code tokens) table e = ap (λ (s : ConferenceStep). with_conference_step s table) (step_of_notify-same room seat code table.live (no_effects tokens))
  table_after_op-same (histories.Receives x) table e = ap (λ (s : TableStep). with_step s table) (step_of_signal-same x.at x.signal table.live table.abandoned (no_effects x.tokens) e)
  table_after_op-same (histories.Leaves room seat) table e = refl
  table_after_op-same (histories.Closes room) table e = refl
  table_after_op-same (histories.Drops count) table e = refl

-- ---- any two such configurations

whole : (one other : ConferenceConfigView) → EqualButForAccounts one other → record one { accounts = other.accounts } ≡ other
whole one other e = λ i. record { sip = e.sip i; mixer = e.mixer i; methods = e.methods i; peers = e.peers i; accounts = other.accounts }

signal-whole : (one other : ConferenceConfigView) (x : RoomSignal) → SignalLooksUpEqually one other x → SignalLooksUpEqually one (record one { accounts = other.accounts }) x
signal-whole one other (signal.Request room seat key request) a = a
signal-whole one other (signal.Ack room seat ack) a = tt
signal-whole one other (signal.Answer key response) a = tt
signal-whole one other (signal.Silent branch method) a = tt
signal-whole one other (signal.Due room seat what) a = tt
signal-whole one other (signal.Over key) a = tt

op-whole : (one other : ConferenceConfigView) (op : TableOp) → OpLooksUpEqually one other op → OpLooksUpEqually one (record one { accounts = other.accounts }) op
op-whole one other (histories.Opens coming) a = tt
op-whole one other (histories.Joins room coming) a = tt
op-whole one other (histories.Adopts room adoption) a = tt
op-whole one other (histories.Notifies room seat code tokens) a = tt
op-whole one other (histories.Receives received) a = signal-whole one other received.signal a
op-whole one other (histories.Leaves room seat) a = tt
op-whole one other (histories.Closes room) a = tt
op-whole one other (histories.Drops count) a = tt

pub ops_see_look_ups_alone : OperationsSeeLookupsAlone
ops_see_look_ups_alone = record {
  effects = λ one other op table equal looks. subst (λ (z : ConferenceConfigView). effects_of one op table ≡ effects_of z op table) (whole one other equal)
      (effects-same one other.accounts op table (op-whole one other op looks));
  tables = λ one other op table equal looks. subst (λ (z : ConferenceConfigView). table_after_op one op table ≡ table_after_op z op table) (whole one other equal)
      (table_after_op-same one other.accounts op table (op-whole one other op looks));
}

-- ---- one configuration

signal-looks : (config : ConferenceConfigView) (x : RoomSignal) → SignalLooksUpEqually config config x
signal-looks config (signal.Request room seat key request) = λ uri is to. refl
signal-looks config (signal.Ack room seat ack) = tt
signal-looks config (signal.Answer key response) = tt
signal-looks config (signal.Silent branch method) = tt
signal-looks config (signal.Due room seat what) = tt
signal-looks config (signal.Over key) = tt

op-looks : (config : ConferenceConfigView) (op : TableOp) → OpLooksUpEqually config config op
op-looks config (histories.Opens coming) = tt
op-looks config (histories.Joins room coming) = tt
op-looks config (histories.Adopts room adoption) = tt
op-looks config (histories.Notifies room seat code tokens) = tt
op-looks config (histories.Receives received) = signal-looks config received.signal
op-looks config (histories.Leaves room seat) = tt
op-looks config (histories.Closes room) = tt
op-looks config (histories.Drops count) = tt

pub one_is_equivalent : OneIsEquivalent
one_is_equivalent = record {
  equal = λ config. record { sip = refl; mixer = refl; methods = refl; peers = refl };
  lookups = λ config op. op-looks config op;
}
