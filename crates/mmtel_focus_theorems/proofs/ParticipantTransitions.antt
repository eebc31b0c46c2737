-- Of each transition of the step table of conferences: where the state of each participant before it follows from the operations, so does the state of each one after it; and each CDR that it files is that of such a
-- participant.
use Rattle.std.proofs.Common.{◌≡◌, ◌&&◌, not, Bool, true, false, ℕ, List, [], ◌∷◌, ◌++◌, Option, Some, None, Result, Ok, Err, inl, inr, ◌∙◌, refl, sym, ap, subst, nat_lt, nat_le, arith}
use Rattle.std.proofs.lemmas.Bool.Decides.{nat_tests}
use Rattle.std.specs.Prelude.{codes, if◌then◌else◌, slice_get, slice_set}
use Rattle.std.specs.List.{remove}
use Rattle.std.specs.Str.{bytes_eq}
use Rattle.mmtel_compose.specs.Responses.{allow_lines}
use Rattle.mmtel_compose.specs.ReceivedMessages.{MessageView, phrase_in, status_of}
use Rattle.mmtel_call_theorems.specs.NoInjection.Emits.{Each}
use Rattle.mmtel_charging.specs.Meters.{MeterView}
use Rattle.mmtel_charging.specs.declared.rows.Row.{Row}
use Rattle.mmtel_output.specs.Outputs.{token}
use Rattle.mmtel_output.specs.Sending.{with_bye}
use Rattle.mmtel_output.specs.declared.outputs.StepOutput.{StepOutput}
use Rattle.mmtel_leg.specs.Dialogues.{after_request}
use Rattle.mmtel_leg.specs.Legs.{Leg, with_dialogue}
use Rattle.mmtel_leg.specs.Remotes.{remote_of}
use Rattle.mmtel_leg.specs.declared.dialogues.DialogueFault.{DialogueFault}
use Rattle.mmtel_leg.specs.declared.dialogues.DialogueFault.TheVariants.{OldCSeq, Pending, Unfinished}
use Rattle.mmtel_leg.specs.declared.legs.Released.{Released}
use Rattle.mmtel_leg.specs.declared.legs.Released.TheVariants as released
use Rattle.mmtel_leg.specs.declared.remotes.Remote.{Remote}
use Rattle.mmtel_lex.specs.declared.values.Uri.{Uri}
use Rattle.mmtel_message.specs.Faults.{is_method}
use Rattle.mmtel_base.specs.Numbers.{next_number}
use Rattle.mmtel_sdp.specs.Offers.{offers_audio}
use Rattle.mmtel_transaction.specs.declared.words.RoomWord.{RoomWord}
use Rattle.mmtel_transaction.specs.declared.words.RoomWord.TheVariants as due
use Rattle.mmtel_transaction.specs.declared.words.TKey.{TKey}
use Rattle.mmtel_trust.specs.Accounts.{account_of}
use Rattle.mmtel_trust.specs.Peers.{route_of}
use Rattle.mmtel_types.specs.declared.numbers.Account.{Account}
use Rattle.mmtel_types.specs.declared.numbers.Peer.{Peer}
use Rattle.mmtel_types.specs.declared.numbers.RoomNo.{RoomNo}
use Rattle.mmtel_types.specs.declared.sides.Side.TheVariants.{Callee}
use Rattle.mmtel_focus.specs.Responses.{after_ack_retransmission, after_own_ack, after_invite_end, after_end, with_failure_ack, with_invite_cancel, is_ack_pending, is_success}
use Rattle.mmtel_focus.specs.Responses.{invite_with_provisional, on_any_response, on_response_to, on_cap, on_due, on_failure, on_no_ack, on_provisional, on_outstanding_response, on_timeout}
use Rattle.mmtel_focus.specs.Responses.{on_success, invite_after_due_cancel, connected_participant, connected_party, to_tag_of, after_ringing_limit, after_missing_ack, has_outstanding_number}
use Rattle.mmtel_focus.specs.Joining.{adopted_participant, after_adoption, after_failure_notify, after_invite_if_peer, after_join, after_refer, invited_participant, new_participant, party_of, released_after_reinvite}
use Rattle.mmtel_focus.specs.Referrals.{referral_in}
use Rattle.mmtel_focus.specs.Requests.{acknowledges, after_accepted_refer, after_response, invite_in_flight, is_invite_outstanding, on_ack, on_bye, on_request_in_order}
use Rattle.mmtel_focus.specs.Requests.{on_checked_request, on_invite, on_referral, on_request, after_refusal, request_check, after_trying, after_out_of_order}
use Rattle.mmtel_focus.specs.Requests as requests
use Rattle.mmtel_focus.specs.Conferences.{Conference, StepResult, with_output}
use Rattle.mmtel_focus.specs.Participants.{after_close, after_close_with, after_dismissal, after_leave, after_notify, after_notify_referrer, after_notify_to, at_participant}
use Rattle.mmtel_focus.specs.Participants.{at_place, by_participant, dialogue_of, effects_of_dismissal, effects_of_leave, is_connected, is_creator, is_full, leg_of, meter_of}
use Rattle.mmtel_focus.specs.Participants.{participant_after_bye, participant_after_notify, party_after_notify, place_of as seat_place, with_leg, with_participant, with_row_of_meter}
use Rattle.mmtel_focus.specs.ConferenceConfig.{ConferenceConfigView}
use Rattle.mmtel_focus.specs.Texts.{own_status, status_line}
use Rattle.mmtel_focus.specs.declared.referrals.Referral.{Referral}
use Rattle.mmtel_focus.specs.declared.referrals.Referral.TheVariants as referral
use Rattle.mmtel_participants.specs.declared.effects.Effects.{Effects}
use Rattle.mmtel_participants.specs.declared.participants.Invite.{Invite}
use Rattle.mmtel_participants.specs.declared.participants.Invite.TheVariants.{Accepted, Outstanding}
use Rattle.mmtel_participants.specs.declared.participants.Party.{Party}
use Rattle.mmtel_participants.specs.declared.participants.Party.TheVariants.{DialedIn, DialedOut, Invited}
use Rattle.mmtel_participants.specs.declared.participants.ParticipantState.{ParticipantState}
use Rattle.mmtel_focus_theorems.specs.Charging.{rows_of_closed}
use Rattle.mmtel_focus_theorems.specs.Participants.{ChargedParticipant, HasMeterOf, IsConnectedNow, IsConnectedSince, IsInvited, IsMetered, IsParticipantOf, IsRowOf, charged_participant_of}
use Rattle.mmtel_focus_theorems.proofs.Books.{stands}
use Rattle.mmtel_focus_theorems.proofs.ChargedTransitions.{cancelled_rows, with_ack_rows}
use Rattle.mmtel_focus_theorems.proofs.ChargedSteps.{filed_rows, notified_rows, same_leg_meter}

-- ---- lists of which each item has a property

pub each_joined : {A : Type 0} (P : A → Type 0) (xs ys : List A) → Each P xs → Each P ys → Each P (xs ++ ys)
each_joined P [] ys e f = f
each_joined P (x ∷ xs) ys e f = (e.0, each_joined P xs ys e.1 f)

pub each_parts : {A : Type 0} (P : A → Type 0) (xs ys : List A) → Each P (xs ++ ys) → Each P xs × Each P ys
each_parts P [] ys e = (tt, e)
each_parts P (x ∷ xs) ys e = let rest = each_parts P xs ys e.1 in ((e.0, rest.0), rest.1)

module _ {A : Type 0} (P : A → Type 0) (items : List A) (place : ℕ) (item : A) (is : slice_get items place ≡ Some item) (all : Each P items) where
  pub each_there : P item
  each_there = let x = stands items place item is in (each_parts P x.front (item ∷ x.back) (subst (Each P) x.whole all)).1.0

  pub each_put : (other : A) → P other → Each P (slice_set items place other)
  each_put other p =
      let x = stands items place item is in
      let parts = each_parts P x.front (item ∷ x.back) (subst (Each P) x.whole all) in
      subst (Each P) (sym (x.put other)) (each_joined P x.front (other ∷ x.back) parts.0 (p, parts.1.1))

  pub each_left : Each P (remove items place)
  each_left =
      let x = stands items place item is in
      let parts = each_parts P x.front (item ∷ x.back) (subst (Each P) x.whole all) in
      subst (Each P) (sym x.removed) (each_joined P x.front x.back parts.0 parts.1.1)

  pub each_put_left : (other : A) → Each P (remove (slice_set items place other) place)
  each_put_left other =
      let x = stands items place item is in
      let parts = each_parts P x.front (item ∷ x.back) (subst (Each P) x.whole all) in
      subst (Each P) (sym (x.put_removed other)) (each_joined P x.front x.back parts.0 parts.1.1)

-- ---- the meter that begins

pub meter_is : (room : RoomNo) (at : ℕ) (account : Option Account) → HasMeterOf room account at (meter_of room at account)
meter_is room at None = refl
meter_is room at (Some account) = record { started = record { kind = refl; began = refl; answered = refl }; on = refl; of_room = refl }

is_agreed : (n : ℕ) → nat_lt n 200 ≡ false → nat_lt n 300 ≡ true → nat_le 200 n && nat_lt n 300 ≡ true
is_agreed n e f = grind (arith, nat_tests)

-- ---- what was proved of participants, at a moment

module _ (P : ChargedParticipant → Type 0) (at : ℕ) where
  abbrev pub IsDueSeat : RoomNo → ParticipantState → Type 0
  IsDueSeat room seat = P (charged_participant_of room seat)

  abbrev pub RowOf : Row → Type 0
  RowOf row = IsRowOf P at row

  abbrev pub AreDue : Conference → Type 0
  AreDue room = Each (IsDueSeat room.number) room.participants

  abbrev pub Holds : StepResult → Type 0
  Holds s = AreDue s.conference × Each RowOf s.effects.output.rows

  -- messages alone are sent
  spoke : (s : StepResult) (output : StepOutput) → output.rows ≡ s.effects.output.rows → Holds s → Holds (with_output output s)
  spoke s output e h = (h.0, subst (Each RowOf) (sym e) h.1)

  if_holds : (b : Bool) (s t : StepResult) → Holds s → Holds t → Holds (if b then s else t)
  if_holds true s t h k = h
  if_holds false s t h k = k

  -- ---- a transition, at the place of its participant

  abbrev pub Keeps : (row : (place : ℕ) → ParticipantState → StepResult → StepResult) → Type 0
  Keeps row = (place : ℕ) (seat : ParticipantState) (s : StepResult) → slice_get s.conference.participants place ≡ Some seat → Holds s → Holds (row place seat s)

  at_participant_holds : (row : (place : ℕ) → ParticipantState → StepResult → StepResult) → Keeps row → (place : ℕ) (s : StepResult) → Holds s → Holds (at_participant row place s)
  at_participant_holds row k place s h = by (slice_get s.conference.participants place) refl
    where
      by : (o : Option ParticipantState) → slice_get s.conference.participants place ≡ o → Holds (by_participant (row place) o s)
      by None e = h
      by (Some seat) e = k place seat s e h

  pub at_place_holds : (row : (place : ℕ) → ParticipantState → StepResult → StepResult) → Keeps row → (o : Option ℕ) (s : StepResult) → Holds s → Holds (at_place row o s)
  at_place_holds row k None s h = h
  at_place_holds row k (Some place) s h = at_participant_holds row k place s h

  -- of one step
  pub at_place_once : (row : (place : ℕ) → ParticipantState → StepResult → StepResult) → (o : Option ℕ) (s : StepResult) →
      ((place : ℕ) (seat : ParticipantState) → slice_get s.conference.participants place ≡ Some seat → Holds (row place seat s)) → Holds s → Holds (at_place row o s)
  at_place_once row None s k h = h
  at_place_once row (Some place) s k h = by (slice_get s.conference.participants place) refl
    where
      by : (o : Option ParticipantState) → slice_get s.conference.participants place ≡ o → Holds (by_participant (row place) o s)
      by None e = h
      by (Some seat) e = k place seat e

  -- a participant is replaced at its place
  with_participant_holds : (place : ℕ) (seat other : ParticipantState) (s : StepResult) → slice_get s.conference.participants place ≡ Some seat →
      charged_participant_of s.conference.number other ≡ charged_participant_of s.conference.number seat → Holds s → Holds (with_participant place other s)
  with_participant_holds place seat other s is same h =
      (each_put (IsDueSeat s.conference.number) s.conference.participants place seat is h.0 other (subst P (sym same) (each_there (IsDueSeat s.conference.number) s.conference.participants place seat is h.0)), h.1)

  -- ---- a participant leaves

  option_row : (room : RoomNo) (seat : ParticipantState) (o : Option MeterView) → (leg_of seat.party).meter ≡ o → IsDueSeat room seat → Each RowOf (rows_of_closed at o)
  option_row room seat None e p = tt
  option_row room seat (Some meter) e p = (record { place = charged_participant_of room seat; such = p; meter = meter; runs = e; is = refl }, tt)

  gone_holds : (place : ℕ) (seat : ParticipantState) (s : StepResult) (e : Effects) → slice_get s.conference.participants place ≡ Some seat →
      e.output.rows ≡ s.effects.output.rows ++ rows_of_closed at (leg_of seat.party).meter → Holds s →
      Each (IsDueSeat s.conference.number) (remove s.conference.participants place) × Each RowOf e.output.rows
  gone_holds place seat s e is filed h = (
    each_left (IsDueSeat s.conference.number) s.conference.participants place seat is h.0,
    subst (Each RowOf) (sym filed)
        (each_joined RowOf s.effects.output.rows (rows_of_closed at (leg_of seat.party).meter) h.1
        (option_row s.conference.number seat (leg_of seat.party).meter refl (each_there (IsDueSeat s.conference.number) s.conference.participants place seat is h.0))),
  )

  after_leave_holds : (had_bye : Bool) → Keeps (after_leave at had_bye)
  after_leave_holds had_bye place seat s is h = gone_holds place seat s (effects_of_leave at had_bye seat s.effects) is (filed_rows at (leg_of seat.party).meter s.effects.output) h

  after_dismissal_holds : (config : ConferenceConfigView) → Keeps (after_dismissal config at)
  after_dismissal_holds config place seat s is h = gone_holds place seat s (effects_of_dismissal config at seat s.effects) is (by (is_connected seat)) h
    where
      leg : Leg
      leg = with_dialogue (leg_of seat.party) (after_request (dialogue_of seat) (codes "BYE"))

      output : StepOutput
      output = with_bye config.sip (dialogue_of seat) s.effects.output

      by : (b : Bool) → (if b then effects_of_leave at true (participant_after_bye seat) (record s.effects { output = output }) else effects_of_leave at false seat s.effects).output.rows
          ≡ s.effects.output.rows ++ rows_of_closed at (leg_of seat.party).meter
      by true = ap (λ m. (with_row_of_meter at m output).rows) (same_leg_meter seat.party leg refl) ∙ filed_rows at (leg_of seat.party).meter output
      by false = filed_rows at (leg_of seat.party).meter s.effects.output

  after_close_holds : (config : ConferenceConfigView) (seats : List ParticipantState) (s : StepResult) → s.conference.participants ≡ seats → Holds s → Holds (after_close config at seats s)
  unfolding after_close
  after_close_holds config [] s e h = h
  after_close_holds config (seat ∷ seats) s e h =
      let next : StepResult = after_dismissal config at 0 seat s in
      after_close_holds config seats next (ap (λ x. remove x 0) e) (after_dismissal_holds config 0 seat s (subst (λ x. slice_get x 0 ≡ Some seat) (sym e) refl) h)

  after_close_with_holds : (config : ConferenceConfigView) (number : ℕ) (s : StepResult) → Holds s → Holds (after_close_with config at number s)
  after_close_with_holds config number s h = if_holds (is_creator number) (after_close config at s.conference.participants s) s (after_close_holds config s.conference.participants s refl h) h

  -- ---- NOTIFY

  after_notify_place : (room : RoomNo) (number : ℕ) (by : Option ℕ) (seat : ParticipantState) (party : Party) →
      charged_participant_of room (record seat { party = party_after_notify party }) ≡ charged_participant_of room (record seat { party = party })
  after_notify_place room number by seat (Invited leg) = refl
  after_notify_place room number by seat (DialedIn leg) = refl
  after_notify_place room number by seat (DialedOut leg) = refl

  after_notify_holds : (config : ConferenceConfigView) (on : Bool) (line : List ℕ) → Keeps (after_notify config on line)
  after_notify_holds config on line place seat s is h =
      let next = with_participant_holds place seat (participant_after_notify seat) s is (after_notify_place s.conference.number 0 None seat seat.party) h in
      (next.0, subst (Each RowOf) (sym (notified_rows config s.conference.number on line seat.party s.effects.output)) next.1)

  pub after_notify_to_holds : (config : ConferenceConfigView) (on : Bool) (line : List ℕ) (number : ℕ) (s : StepResult) → Holds s → Holds (after_notify_to config on line number s)
  after_notify_to_holds config on line number s h = at_place_holds (after_notify config on line) (after_notify_holds config on line) (seat_place number s.conference.participants) s h

  after_notify_referrer_holds : (config : ConferenceConfigView) (on : Bool) (line : List ℕ) (by : Option ℕ) (s : StepResult) → Holds s → Holds (after_notify_referrer config on line by s)
  after_notify_referrer_holds config on line None s h = h
  after_notify_referrer_holds config on line (Some number) s h = after_notify_to_holds config on line number s h

  -- ---- a party becomes a participant

  new_holds : (s : StepResult) (seat : ParticipantState) (rows : List Row) → rows ≡ s.effects.output.rows → IsDueSeat s.conference.number seat → Holds s →
      Each (IsDueSeat s.conference.number) (s.conference.participants ++ seat ∷ []) × Each RowOf rows
  new_holds s seat rows e p h = (each_joined (IsDueSeat s.conference.number) s.conference.participants (seat ∷ []) h.0 (p, tt), subst (Each RowOf) (sym e) h.1)

  -- a party that joins is the next participant
  abbrev pub IsGivenNext : Conference → Option Account → Type 0
  IsGivenNext room account = (place : ChargedParticipant) → IsParticipantOf room.number.0 (next_number room.last_seat) account place → IsConnectedSince at place → P place

  pub after_join_holds : (config : ConferenceConfigView) (leg : Released) (account : Option Account) (key : TKey) (m : MessageView) (s : StepResult) → IsGivenNext s.conference account → Holds s →
      Holds (after_join config at leg account key m s)
  unfolding after_join
  after_join_holds config leg account key m s gives h = new_holds s (new_participant at s.conference leg account) s.effects.output.rows refl (by leg) h
    where
      by : (x : Released) → P (charged_participant_of s.conference.number (record (new_participant at s.conference leg account) { party = party_of (meter_of s.conference.number at account) x }))
      by (released.Caller x) = gives _ (record { of_room = refl; numbered = refl; account = refl }) (record { connected = refl; meter = meter_is s.conference.number at account })
      by (released.Callee x) = gives _ (record { of_room = refl; numbered = refl; account = refl }) (record { connected = refl; meter = meter_is s.conference.number at account })

  pub after_adoption_holds : (config : ConferenceConfigView) (leg : Released) (account : Option Account) (by : ℕ) (s : StepResult) → IsGivenNext s.conference account → Holds s →
      Holds (after_adoption config at leg account by s)
  unfolding after_adoption
  after_adoption_holds config leg account who s gives h = new_holds s (adopted_participant at s.conference leg account who (token s.effects.output)) s.effects.output.rows refl (by leg) h
    where
      by : (x : Released) → P (charged_participant_of s.conference.number
          (record (adopted_participant at s.conference leg account who (token s.effects.output)) { party = party_of (meter_of s.conference.number at account) (released_after_reinvite x) }))
      by (released.Caller x) = gives _ (record { of_room = refl; numbered = refl; account = refl }) (record { connected = refl; meter = meter_is s.conference.number at account })
      by (released.Callee x) = gives _ (record { of_room = refl; numbered = refl; account = refl }) (record { connected = refl; meter = meter_is s.conference.number at account })

  -- ---- a request

  after_refusal_holds : (config : ConferenceConfigView) (key : TKey) (m : MessageView) (code : ℕ) → Keeps (after_refusal config key m code)
  after_refusal_holds config key m code place seat s is h = h

  invite_holds : (config : ConferenceConfigView) (key : TKey) (m : MessageView) → Keeps (on_invite config at key m)
  invite_holds config key m place seat s is h =
      if_holds (offers_audio m.parsed.body) (requests.after_reinvite config at key m place seat s) (after_refusal config key m 488 place seat s)
      (with_participant_holds place seat (requests.with_pending_ack (next_number s.conference.last_number) seat) s is refl h) h

  with_bye_holds : (config : ConferenceConfigView) (key : TKey) (m : MessageView) → Keeps (on_bye config at key m)
  with_bye_holds config key m place seat s is h =
      let told : StepResult = after_refusal config key m 200 place seat s in
      after_close_with_holds config seat.number (after_leave at false place seat told) (after_leave_holds false place seat told is h)

  -- the conference of a step has this number, and its last participant this one
  pub record IsOf (number : RoomNo) (taken : ℕ) (s : StepResult) : Type 0 where
    pub named : s.conference.number ≡ number
    pub counts : s.conference.last_seat ≡ taken

  after_notify_is_of : (config : ConferenceConfigView) (on : Bool) (line : List ℕ) (number : RoomNo) (taken seat : ℕ) (s : StepResult) → IsOf number taken s → IsOf number taken (after_notify_to config on line seat s)
  after_notify_is_of config on line number taken seat s is = by (seat_place seat s.conference.participants)
    where
      of_seat : (place : ℕ) (o : Option ParticipantState) → IsOf number taken (by_participant (after_notify config on line place) o s)
      of_seat place None = is
      of_seat place (Some seat) = record { named = is.named; counts = is.counts }

      by : (o : Option ℕ) → IsOf number taken (at_place (after_notify config on line) o s)
      by None = is
      by (Some place) = of_seat place (slice_get s.conference.participants place)

  module _ (config : ConferenceConfigView) (number : RoomNo) (taken : ℕ) where
    -- the party that is invited by this URI is the next participant
    abbrev pub IsInvitedNext : Uri → Type 0
    IsInvitedNext uri = (place : ChargedParticipant) → IsParticipantOf number.0 (next_number taken) (account_of config.accounts uri) place → IsInvited place → P place

    at_peer_holds : (by : ℕ) (o : Option Peer) (uri : Uri) (s : StepResult) → IsInvitedNext uri → IsOf number taken s → Holds s → Holds (after_invite_if_peer config at by o uri s)
    at_peer_holds by None uri s gives is h = after_notify_to_holds config false (own_status 404) by s h
    at_peer_holds by (Some peer) uri s gives is h =
        if_holds (is_full s.conference) (after_failure_notify config by 503 s) _ (after_notify_to_holds config false (own_status 503) by s h)
        (new_holds s (invited_participant s.conference by (account_of config.accounts uri) _ _) s.effects.output.rows refl
        (gives _ (record { of_room = ap (λ (n : RoomNo). n.0) is.named; numbered = ap next_number is.counts; account = refl }) (record { waits = refl; unmetered = refl })) h)

    bidden_holds : (by : ℕ) (o : Option Uri) (s : StepResult) → ((uri : Uri) → o ≡ Some uri → IsInvitedNext uri) → IsOf number taken s → Holds s → Holds (after_refer config at by o s)
    unfolding after_refer
    bidden_holds by None s gives is h = after_notify_to_holds config false (own_status 404) by s h
    bidden_holds by (Some uri) s gives is h = at_peer_holds by (route_of uri config.peers.routes) uri s (gives uri refl) is h

    referral_holds : (key : TKey) (m : MessageView) (r : Referral) → ((uri : Uri) → r ≡ referral.Invite (Some uri) → IsInvitedNext uri) →
        (place : ℕ) (seat : ParticipantState) (s : StepResult) → slice_get s.conference.participants place ≡ Some seat → IsOf number taken s → Holds s → Holds (on_referral config at key m r place seat s)
    referral_holds key m referral.Missing gives place seat s e is h = h
    referral_holds key m referral.OtherMethod gives place seat s e is h = h
    referral_holds key m (referral.Replace r) gives place seat s e is h = h
    referral_holds key m (referral.Invite u) gives place seat s e is h =
        let told : StepResult = after_accepted_refer config key m place seat s in
        bidden_holds seat.number u (after_trying config seat.number told) (λ uri same. gives uri (ap referral.Invite same))
        (after_notify_is_of config true (own_status 100) number taken seat.number told (record { named = is.named; counts = is.counts })) (after_notify_to_holds config true (own_status 100) seat.number told h)

    abbrev pub IsReferred : MessageView → Type 0
    IsReferred m = (uri : Uri) → is_method (codes "REFER") m.parsed.start ≡ true → referral_in m.parsed.refer_to ≡ referral.Invite (Some uri) → IsInvitedNext uri

    received_holds : (key : TKey) (m : MessageView) → IsReferred m → (place : ℕ) (seat : ParticipantState) (s : StepResult) → slice_get s.conference.participants place ≡ Some seat →
        IsOf number taken s → Holds s → Holds (on_request_in_order config at key m place seat s)
    received_holds key m gives place seat s e is h =
        if_holds (is_method (codes "INVITE") m.parsed.start) _ _ (invite_holds config key m place seat s e h)
        (if_holds (is_method (codes "BYE") m.parsed.start) _ _ (with_bye_holds config key m place seat s e h)
        (by (is_method (codes "REFER") m.parsed.start) refl))
      where
        by : (b : Bool) → is_method (codes "REFER") m.parsed.start ≡ b →
            Holds (if b then on_referral config at key m (referral_in m.parsed.refer_to) place seat s
            else if is_method (codes "OPTIONS") m.parsed.start then after_response config key m 200 (allow_lines config.methods) place seat s
            else after_refusal config key m 481 place seat s)
        by true refer = referral_holds key m (referral_in m.parsed.refer_to) (λ uri same. gives uri refer same) place seat s e is h
        by false refer = if_holds (is_method (codes "OPTIONS") m.parsed.start) (after_response config key m 200 (allow_lines config.methods) place seat s) (after_refusal config key m 481 place seat s) h h

    fault_holds : (key : TKey) (m : MessageView) (fault : DialogueFault) → Keeps (after_out_of_order config key m fault)
    fault_holds key m (OldCSeq last) place seat s e h = h
    fault_holds key m Pending place seat s e h = h
    fault_holds key m Unfinished place seat s e h = h

    received_place : (m : MessageView) (seat : ParticipantState) (party : Party) →
        charged_participant_of number (record seat { party = with_leg (requests.leg_after_request m (leg_of party)) party }) ≡ charged_participant_of number (record seat { party = party })
    received_place m seat (Invited leg) = refl
    received_place m seat (DialedIn leg) = refl
    received_place m seat (DialedOut leg) = refl

    receiving_holds : (key : TKey) (m : MessageView) (r : Result (Unit {0}) DialogueFault) → IsReferred m → (place : ℕ) (seat : ParticipantState) (s : StepResult) →
        slice_get s.conference.participants place ≡ Some seat → IsOf number taken s → Holds s →
        Holds (on_checked_request config at key m r place seat s)
    receiving_holds key m (Err fault) gives place seat s e is h = fault_holds key m fault place seat s e h
    receiving_holds key m (Ok received) gives place seat s e is h = by (slice_get next.conference.participants place) refl
      where
        next : StepResult
        next = with_participant place (requests.participant_after_request m seat) s

        held : Holds next
        held = with_participant_holds place seat (requests.participant_after_request m seat) s e
            (subst (λ (n : RoomNo). charged_participant_of n (requests.participant_after_request m seat) ≡ charged_participant_of n seat) (sym is.named) (received_place m seat seat.party)) h

        by : (o : Option ParticipantState) → slice_get next.conference.participants place ≡ o → Holds (by_participant (on_request_in_order config at key m place) o next)
        by None f = held
        by (Some other) f = received_holds key m gives place other next f (record { named = is.named; counts = is.counts }) held

    pub request_holds : (key : TKey) (m : MessageView) → IsReferred m → (place : ℕ) (seat : ParticipantState) (s : StepResult) → slice_get s.conference.participants place ≡ Some seat →
        IsOf number taken s → Holds s → Holds (on_request config at key m place seat s)
    unfolding on_request
    request_holds key m gives place seat s e is h =
        if_holds (is_connected seat) _ (after_refusal config key m 481 place seat s) (receiving_holds key m (request_check (leg_of seat.party) m (invite_in_flight seat)) gives place seat s e is h) h

  pub ack_holds : (m : MessageView) → Keeps (on_ack m)
  unfolding on_ack
  ack_holds m place seat s e h =
      if_holds (acknowledges m seat.pending_ack) (with_participant place (record seat { pending_ack = None }) s) s (with_participant_holds place seat (record seat { pending_ack = None }) s e refl h) h

  -- ---- a response

  abbrev pub IsAnsweredNow : Type 0
  IsAnsweredNow = (before after : ChargedParticipant) → P before → IsConnectedNow at before after → P after

  -- a 2xx connects the invited party
  abbrev pub IsAgreedNow : MessageView → Type 0
  IsAgreedNow m = nat_le 200 (status_of m.parsed.start) && nat_lt (status_of m.parsed.start) 300 ≡ true → IsAnsweredNow

  after_own_ack_holds : (config : ConferenceConfigView) (tag : List ℕ) → Keeps (after_own_ack config tag)
  after_own_ack_holds config tag place seat s e h = with_participant_holds place seat (record seat { invite = _ }) s e refl h

  -- an invited party is connected, and any other one is unchanged
  module _ (metered : (place : ChargedParticipant) → P place → IsMetered place) where
    was_invited : (room : RoomNo) (seat : ParticipantState) (leg : Leg) → P (charged_participant_of room (record seat { party = Invited leg })) →
        IsInvited (charged_participant_of room (record seat { party = Invited leg }))
    was_invited room seat leg p = by (metered (charged_participant_of room (record seat { party = Invited leg })) p)
      where
        by : IsMetered (charged_participant_of room (record seat { party = Invited leg })) → IsInvited (charged_participant_of room (record seat { party = Invited leg }))
        by (inl invited) = invited
        by (inr sits) = absurd (let no : false ≡ true = sits.1.connected in cc)

    seated_due : IsAnsweredNow → (room : RoomNo) (remote : Remote) (seat : ParticipantState) (party : Party) → P (charged_participant_of room (record seat { party = party })) →
        P (charged_participant_of room (record seat { party = connected_party room at seat.account remote party }))
    seated_due answers room remote seat (Invited leg) p =
        answers (charged_participant_of room (record seat { party = Invited leg })) _ p
        (record { room = refl; seat = refl; account = refl; was = was_invited room seat leg p; is = record { connected = refl; meter = meter_is room at seat.account } })
    seated_due answers room remote seat (DialedIn leg) p = p
    seated_due answers room remote seat (DialedOut leg) p = p

    success_holds : IsAnsweredNow → (config : ConferenceConfigView) (m : MessageView) → Keeps (on_success config at m)
    success_holds answers config m place seat s e h =
        let remote : Remote = remote_of Callee m.parsed.lines in
        let other : ParticipantState = connected_participant s.conference.number at remote seat in
        let next : StepResult = with_participant place other s in
        let held : Holds next = (
          each_put (IsDueSeat s.conference.number) s.conference.participants place seat e h.0 other
              (seated_due answers s.conference.number remote seat seat.party (each_there (IsDueSeat s.conference.number) s.conference.participants place seat e h.0)),
          h.1,
        ) in
        after_notify_referrer_holds config false (own_status 200) seat.by (at_participant (after_own_ack config (to_tag_of m)) place next)
        (at_participant_holds (after_own_ack config (to_tag_of m)) (after_own_ack_holds config (to_tag_of m)) place next held)

    -- it ends without a 2xx
    without_holds : (config : ConferenceConfigView) (line : List ℕ) → Keeps (after_end config at line)
    without_holds config line place seat s e h = after_notify_referrer_holds config false line seat.by (after_dismissal config at place seat s) (after_dismissal_holds config place seat s e h)

    -- of a participant that is as before, except for its INVITE
    then_without : (config : ConferenceConfigView) (line : List ℕ) (invite : Option Invite) (place : ℕ) (seat : ParticipantState) (s : StepResult) → slice_get s.conference.participants place ≡ Some seat → Holds s →
        Holds (at_participant (after_end config at line) place (with_participant place (record seat { invite = invite }) s))
    then_without config line invite place seat s e h =
        at_participant_holds (after_end config at line) (without_holds config line) place (with_participant place (record seat { invite = invite }) s)
        (with_participant_holds place seat (record seat { invite = invite }) s e refl h)

    failure_holds : (config : ConferenceConfigView) (key : TKey) (m : MessageView) → Keeps (on_failure config at key m)
    failure_holds config key m place seat s e h =
        let next : StepResult = with_output (with_failure_ack config.sip key m seat.invite s.effects.output) s in
        then_without config (status_line (status_of m.parsed.start) (phrase_in m.parsed.start)) None place seat next e
        (spoke s (with_failure_ack config.sip key m seat.invite s.effects.output) (with_ack_rows config.sip key m seat.invite s.effects.output) h)

    response_holds : (config : ConferenceConfigView) (key : TKey) (m : MessageView) → IsAgreedNow m → Keeps (on_outstanding_response config at key m)
    response_holds config key m answers place seat s e h = by (nat_lt (status_of m.parsed.start) 200) refl
      where
        final : (c : Bool) → nat_lt (status_of m.parsed.start) 200 ≡ false → nat_lt (status_of m.parsed.start) 300 ≡ c → Holds (if c then on_success config at m place seat s else on_failure config at key m place seat s)
        final true f g = success_holds (answers (is_agreed (status_of m.parsed.start) f g)) config m place seat s e h
        final false f g = failure_holds config key m place seat s e h

        by : (b : Bool) → nat_lt (status_of m.parsed.start) 200 ≡ b →
            Holds (if b then on_provisional key place seat s else if nat_lt (status_of m.parsed.start) 300 then on_success config at m place seat s else on_failure config at key m place seat s)
        by true f = with_participant_holds place seat (record seat { invite = invite_with_provisional key seat.invite }) s e refl h
        by false f = final (nat_lt (status_of m.parsed.start) 300) f refl

    answer_to_holds : (o : Option Invite) (config : ConferenceConfigView) (key : TKey) (m : MessageView) → IsAgreedNow m → Keeps (on_response_to o config at key m)
    answer_to_holds None config key m answers place seat s e h = h
    answer_to_holds (Some (Outstanding number i)) config key m answers place seat s e h = response_holds config key m answers place seat s e h
    answer_to_holds (Some (Accepted branch tag ack)) config key m answers place seat s e h =
        if_holds (is_success (status_of m.parsed.start) && bytes_eq (to_tag_of m) tag) (after_ack_retransmission ack seat s) s h h

    pub answer_holds : (config : ConferenceConfigView) (key : TKey) (m : MessageView) → IsAgreedNow m → Keeps (on_any_response config at key m)
    unfolding on_any_response
    answer_holds config key m answers place seat s e h = answer_to_holds seat.invite config key m answers place seat s e h

    pub silence_holds : (config : ConferenceConfigView) → Keeps (on_timeout config at)
    unfolding on_timeout
    silence_holds config place seat s e h = if_holds (is_invite_outstanding seat.invite) (after_invite_end config at (own_status 408) place seat s) s (then_without config (own_status 408) None place seat s e h) h

    -- ---- timers

    cap_holds : (config : ConferenceConfigView) (number : ℕ) → Keeps (on_cap config at number)
    cap_holds config number place seat s e h =
        let next : StepResult = with_output (with_invite_cancel config.sip seat.invite s.effects.output) s in
        if_holds (not (is_connected seat) && has_outstanding_number number seat.invite) (after_ringing_limit config at place seat s) s
        (then_without config (own_status 408) (invite_after_due_cancel seat.invite) place seat next e
        (spoke s (with_invite_cancel config.sip seat.invite s.effects.output) (cancelled_rows config.sip seat.invite s.effects.output) h)) h

    no_ack_holds : (config : ConferenceConfigView) (number : ℕ) → Keeps (on_no_ack config at number)
    no_ack_holds config number place seat s e h =
        let next : StepResult = after_dismissal config at place seat s in
        if_holds (is_ack_pending number seat.pending_ack) (after_missing_ack config at place seat s) s (after_close_with_holds config seat.number next (after_dismissal_holds config place seat s e h)) h

    pub due_holds : (config : ConferenceConfigView) (what : RoomWord) → Keeps (on_due config at what)
    unfolding on_due
    due_holds config (due.Cap number) place seat s e h = cap_holds config number place seat s e h
    due_holds config (due.NoAck number) place seat s e h = no_ack_holds config number place seat s e h
