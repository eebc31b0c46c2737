-- Of a table of conferences, operation by operation: the state of each participant follows from the operations, and each CDR that is filed is that of such a participant.
use Rattle.std.proofs.Common.{◌≡◌, Bool, true, false, ℕ, zero, suc, List, [], ◌∷◌, map, Option, Some, None, Ok, Err, inl, inr, ◌∙◌, refl, sym, ap, subst, get_or, arith}
use Rattle.std.proofs.lemmas.Bool.Decides.{nat_tests}
use Rattle.std.proofs.lemmas.List.Quantifiers.{position-Some}
use Rattle.std.specs.Prelude.{◌==◌, if◌then◌else◌, position, slice_get}
use Rattle.std.specs.List.{remove}
use Rattle.mmtel_compose.specs.ReceivedMessages.{MessageView}
use Rattle.mmtel_call_theorems.specs.NoInjection.Emits.{Each}
use Rattle.mmtel_output.specs.ResponseMatching.{awaited_request_branch, timed_out_branch}
use Rattle.mmtel_output.specs.AbandonedInvites.{is_of_branch}
use Rattle.mmtel_output.specs.declared.sent_invites.AbandonedInvite.{AbandonedInvite}
use Rattle.mmtel_transaction.specs.declared.words.TKey.{TKey}
use Rattle.mmtel_base.specs.Numbers.{next_number}
use Rattle.mmtel_trust.specs.Accounts.{account_of}
use Rattle.mmtel_types.specs.declared.numbers.Account.{Account}
use Rattle.mmtel_types.specs.declared.numbers.RoomNo.{RoomNo}
use Rattle.mmtel_focus.specs.Operations.{Adoption, JoinRequest, TableOp, Opens, Joins, Adopts, Notifies, Receives, Leaves, Closes, Drops}
use Rattle.mmtel_focus.specs.Operations.{step_on_adopt, effects_after, table_after_op, step_on_join, step_on_notify, step_on_open, table_after}
use Rattle.mmtel_focus.specs.Operations as histories
use Rattle.mmtel_focus.specs.Joining.{after_adoption, after_join, new_conference}
use Rattle.mmtel_focus.specs.Conferences.{Conference, StepResult, no_effects}
use Rattle.mmtel_focus.specs.ParticipantSignals as of_seat
use Rattle.mmtel_focus.specs.ParticipantSignals.{ParticipantSignal}
use Rattle.mmtel_focus.specs.Participants as seats
use Rattle.mmtel_focus.specs.Participants.{after_notify_to, has_seat_number, is_connected, is_full}
use Rattle.mmtel_focus.specs.ConferenceConfig.{ConferenceConfigView}
use Rattle.mmtel_focus.specs.Table as table
use Rattle.mmtel_focus.specs.Table.{ConferenceStep, Table, TableStep, access, access_at, access_to, conference_at, conference_has_branch, conference_of, conference_without_at}
use Rattle.mmtel_focus.specs.Table.{conference_without_in, conference_without_seat, conferences_after_close, conferences_after_leave, conferences_with, conferences_without}
use Rattle.mmtel_focus.specs.Table.{conferences_without_seat, conferences_without_seat_at, has_room_number, is_provisional, next_room_number, open_result_at, open_result_in}
use Rattle.mmtel_focus.specs.Table.{participant_has_branch, place_of, step_by_branch, step_by_number, step_if_access, step_of_abandoned_response, step_of_adoption, step_of_join, step_of_notify}
use Rattle.mmtel_focus.specs.Table.{step_of_participant, step_of_response, step_of_response_at, step_of_signal, step_of_timeout, step_of_timeout_at, step_result_at, step_result_in}
use Rattle.mmtel_focus.specs.Texts.{own_status}
use Rattle.mmtel_focus.specs.declared.faults.RoomFault.TheVariants.{RoomFull}
use Rattle.mmtel_focus.specs.declared.signals.RoomSignal.{RoomSignal}
use Rattle.mmtel_focus.specs.declared.signals.RoomSignal.TheVariants as signal
use Rattle.mmtel_participants.specs.declared.effects.Effects.{Effects}
use Rattle.mmtel_participants.specs.declared.participants.ParticipantState.{ParticipantState}
use Rattle.mmtel_focus_theorems.specs.Participants.{AreRowsAccountedFor, ChargedParticipant, Invites, IsAccountedFor, IsInvited, IsMetered, IsParticipantOf, IsRowOf, ParticipantsAreAccountedFor, ParticipantsAreMetered}
use Rattle.mmtel_focus_theorems.specs.Participants.{RowsAreAccountedFor, charged_participant_of as seat_of, charged_participants, charged_participants_in, is_success_signal, last_seat_of, moment_of, next_seat_of}
use Rattle.mmtel_focus_theorems.proofs.ChargedTables.{always_plain, response_rows, step_of_notify_quiet}
use Rattle.mmtel_focus_theorems.proofs.ParticipantTransitions.{AreDue, Holds, IsAgreedNow, IsReferred, Keeps, ack_holds, after_adoption_holds, after_join_holds, after_notify_to_holds, answer_holds}
use Rattle.mmtel_focus_theorems.proofs.ParticipantTransitions.{at_place_holds, at_place_once, due_holds, each_joined, each_put, each_put_left, each_there, request_holds, silence_holds}

-- ---- lists

each_more : {A : Type 0} (P Q : A → Type 0) → ((x : A) → P x → Q x) → (xs : List A) → Each P xs → Each Q xs
each_more P Q k [] e = tt
each_more P Q k (x ∷ xs) e = (k x e.0, each_more P Q k xs e.1)

each_without : {A : Type 0} (P : A → Type 0) (xs : List A) (place : ℕ) → Each P xs → Each P (remove xs place)
each_without P [] zero e = tt
each_without P [] (suc place) e = tt
each_without P (x ∷ xs) zero e = e.1
each_without P (x ∷ xs) (suc place) e = (e.0, each_without P xs place e.1)

each_mapped : {A B : Type 0} (P : B → Type 0) (f : A → B) (xs : List A) → Each (λ x. P (f x)) xs → Each P (map f xs)
each_mapped P f [] e = tt
each_mapped P f (x ∷ xs) e = (e.0, each_mapped P f xs e.1)

got : {A : Type 0} (xs : List A) (place : ℕ) (x : A) → slice_get xs place ≡ Some x → get_or xs place x ≡ x
got [] place x e = absurd cc
got (y ∷ xs) zero x e = cc
got (y ∷ xs) (suc place) x e = got xs place x e

same_number : (n m : ℕ) → (n == m) ≡ true → n ≡ m
same_number n m e = grind (arith, nat_tests)

-- the conference that is found has the number
found : (number : ℕ) (live : List Conference) (place : ℕ) (room : Conference) → place_of number live ≡ Some place → slice_get live place ≡ Some room → room.number.0 ≡ number
found number live place room e f =
    same_number room.number.0 number (ap (has_room_number number) (sym (got live place room f)) ∙ (position-Some (has_room_number number) live place room e).1)

-- ---- what was proved of the participants of a table, at a moment

abbrev begin : Conference → Effects → StepResult
begin room effects = record { conference = room; effects = effects }

module _ (P : ChargedParticipant → Type 0) (at : ℕ) where
  abbrev AllDue : List Conference → Type 0
  AllDue live = Each (AreDue P at) live

  abbrev Stands : List Conference → Effects → Type 0
  Stands live effects = AllDue live × Each (IsRowOf P at) effects.output.rows

  abbrev Goes : ConferenceStep → Type 0
  Goes s = Stands s.live s.effects

  put_due : (place : ℕ) (room : Conference) (s : StepResult) (live : List Conference) → slice_get live place ≡ Some room → AllDue live → Holds P at s → (b : Bool) → AllDue (conferences_with place b s.conference live)
  put_due place room s live e all h true = each_put_left (AreDue P at) live place room e all s.conference
  put_due place room s live e all h false = each_put (AreDue P at) live place room e all s.conference h.0

  -- a transition of the conference at this place
  abbrev KeepsAt : (row : StepResult → StepResult) → List Conference → Effects → (place : ℕ) → Type 0
  KeepsAt row live effects place = (room : Conference) → slice_get live place ≡ Some room → Holds P at (begin room effects) → Holds P at (row (begin room effects))

  step_result_at_due : (row : StepResult → StepResult) (place : ℕ) (live : List Conference) (effects : Effects) → KeepsAt row live effects place → Stands live effects →
      Goes (step_result_at row place (slice_get live place) live effects)
  step_result_at_due row place live effects k h = by (slice_get live place) refl
    where
      by : (o : Option Conference) → slice_get live place ≡ o → Goes (step_result_at row place o live effects)
      by None e = h
      by (Some room) e =
          let next = k room e (each_there (AreDue P at) live place room e h.0, h.1) in
          (put_due place room (row (begin room effects)) live e h.0 next (row (begin room effects)).effects.closes, next.1)

  open_result_at_due : (row : StepResult → StepResult) (place : ℕ) (live : List Conference) (effects : Effects) → KeepsAt row live effects place → Stands live effects →
      Goes (open_result_at row place (slice_get live place) live effects)
  open_result_at_due row place live effects k h = by (slice_get live place) refl
    where
      by : (o : Option Conference) → slice_get live place ≡ o → Goes (open_result_at row place o live effects)
      by None e = h
      by (Some room) e =
          let next = k room e (each_there (AreDue P at) live place room e h.0, h.1) in
          (put_due place room (row (begin room effects)) live e h.0 next false, next.1)

  step_result_in_due : (row : StepResult → StepResult) (o : Option ℕ) (live : List Conference) (effects : Effects) → ((place : ℕ) → o ≡ Some place → KeepsAt row live effects place) →
      Stands live effects → Goes (step_result_in row o live effects)
  step_result_in_due row None live effects k h = h
  step_result_in_due row (Some place) live effects k h = step_result_at_due row place live effects (k place refl) h

  -- ---- signals

  -- a signal that any participant may receive
  received_by_due : (config : ConferenceConfigView) (whose : ParticipantState → Bool) (received : ParticipantSignal) → Keeps P at (step_of_participant config at received) → (s : StepResult) →
      Holds P at s → Holds P at (table.step_of_first config at whose received s)
  received_by_due config whose received k s h = at_place_holds P at (step_of_participant config at received) k (position whose s.conference.participants) s h

  step_by_branch_due : (config : ConferenceConfigView) (branch : List ℕ) (received : ParticipantSignal) (live : List Conference) (effects : Effects) →
      Keeps P at (step_of_participant config at received) → Stands live effects → Goes (step_by_branch config at branch received live effects)
  step_by_branch_due config branch received live effects k h =
      step_result_in_due (table.step_of_first config at (participant_has_branch branch) received) (position (conference_has_branch branch) live) live effects
      (λ place e room f held. received_by_due config (participant_has_branch branch) received k (begin room effects) held) h

  step_by_number_due : (config : ConferenceConfigView) (room seat : ℕ) (received : ParticipantSignal) (live : List Conference) (effects : Effects) →
      Keeps P at (step_of_participant config at received) → Stands live effects → Goes (step_by_number config at room seat received live effects)
  step_by_number_due config room seat received live effects k h =
      step_result_in_due (table.step_of_first config at (has_seat_number seat) received) (place_of room live) live effects
      (λ place e room f held. received_by_due config (has_seat_number seat) received k (begin room effects) held) h

  -- a request, by which a party may be invited
  requested_due : (config : ConferenceConfigView) (room : RoomNo) (seat : ℕ) (key : TKey) (m : MessageView) (live : List Conference) (effects : Effects) →
      ((r : Conference) → r.number.0 ≡ room.0 → conference_of room.0 live ≡ Some r → IsReferred P at config r.number r.last_seat m) → Stands live effects →
      Goes (step_by_number config at room.0 seat (of_seat.Request key m) live effects)
  unfolding step_of_participant
  requested_due config room seat key m live effects gives h =
      step_result_in_due (table.step_of_first config at (has_seat_number seat) (of_seat.Request key m)) (place_of room.0 live) live effects
      (λ place e r f held.
      let named = found room.0 live place r e f in
      at_place_once P at (step_of_participant config at (of_seat.Request key m)) (position (has_seat_number seat) r.participants) (begin r effects)
      (λ at_seat x is.
      request_holds P at config r.number r.last_seat key m (gives r named (ap (λ (o : Option ℕ). conference_at o live) e ∙ f)) at_seat x (begin r effects) is (record { named = refl; counts = refl }) held)
      held)
      h

  answer_due : (config : ConferenceConfigView) (key : TKey) (m : MessageView) → ((place : ChargedParticipant) → P place → IsMetered place) → IsAgreedNow P at m →
      Keeps P at (step_of_participant config at (of_seat.Answer key m))
  unfolding step_of_participant
  answer_due config key m metered answers place seat s e h = answer_holds P at metered config key m answers place seat s e h

  silent_due : (config : ConferenceConfigView) → ((place : ChargedParticipant) → P place → IsMetered place) → Keeps P at (step_of_participant config at of_seat.Silent)
  unfolding step_of_participant
  silent_due config metered place seat s e h = silence_holds P at metered config place seat s e h

  abandoned_due : (config : ConferenceConfigView) (key : TKey) (m : MessageView) (place : ℕ) (o : Option AbandonedInvite) (live : List Conference) (abandoned : List AbandonedInvite) (effects : Effects) →
      Stands live effects →
      Stands (step_of_abandoned_response config.sip key m place o live abandoned effects).live (step_of_abandoned_response config.sip key m place o live abandoned effects).effects
  abandoned_due config key m place None live abandoned effects h = h
  abandoned_due config key m place (Some l) live abandoned effects h = (h.0, subst (Each (IsRowOf P at)) (sym (response_rows config.sip key m.parsed l effects.output)) h.1)

  abbrev GoesOn : TableStep → Type 0
  GoesOn moved = Stands moved.live moved.effects

  module _ (config : ConferenceConfigView) (metered : (place : ChargedParticipant) → P place → IsMetered place) (live : List Conference) (abandoned : List AbandonedInvite) (effects : Effects)
      (h : Stands live effects) where
    answered_at_due : (key : TKey) (m : MessageView) (branch : List ℕ) → IsAgreedNow P at m → (o : Option ℕ) → GoesOn (step_of_response_at config at key m branch o live abandoned effects)
    answered_at_due key m branch answers None = step_by_branch_due config branch (of_seat.Answer key m) live effects (answer_due config key m metered answers) h
    answered_at_due key m branch answers (Some place) = abandoned_due config key m place (slice_get abandoned place) live abandoned effects h

    answered_by_due : (key : TKey) (m : MessageView) → IsAgreedNow P at m → (o : Option (List ℕ)) → GoesOn (step_of_response config at key m o live abandoned effects)
    answered_by_due key m answers None = h
    answered_by_due key m answers (Some branch) = answered_at_due key m branch answers (position (is_of_branch branch) abandoned)

    silenced_at_due : (branch : List ℕ) (o : Option ℕ) → GoesOn (step_of_timeout_at config at branch o live abandoned effects)
    silenced_at_due branch None = step_by_branch_due config branch of_seat.Silent live effects (silent_due config metered) h
    silenced_at_due branch (Some place) = h

    silenced_by_due : (o : Option (List ℕ)) → GoesOn (step_of_timeout config at o live abandoned effects)
    silenced_by_due None = h
    silenced_by_due (Some branch) = silenced_at_due branch (position (is_of_branch branch) abandoned)

  -- ---- a party becomes a participant

  -- a party that enters the conference of this number
  step_if_access_due : (row : StepResult → StepResult) (number : ℕ) (live : List Conference) (effects : Effects) →
      ((r : Conference) → r.number.0 ≡ number → conference_of number live ≡ Some r → Holds P at (begin r effects) → Holds P at (row (begin r effects))) → Stands live effects →
      Goes (step_if_access row (access number live) live effects)
  step_if_access_due row number live effects k h = by (place_of number live) refl
    where
      free : (place : ℕ) (r : Conference) → place_of number live ≡ Some place → slice_get live place ≡ Some r → (b : Bool) → Goes (step_if_access row (if b then Err RoomFull else Ok place) live effects)
      free place r e f true = h
      free place r e f false =
          open_result_at_due row place live effects (λ x g held. k x (found number live place x e g) (ap (λ (o : Option ℕ). conference_at o live) e ∙ g) held) h

      at_place : (place : ℕ) → place_of number live ≡ Some place → (o : Option Conference) → slice_get live place ≡ o → Goes (step_if_access row (access_to place o) live effects)
      at_place place e None f = h
      at_place place e (Some r) f = free place r e f (is_full r)

      by : (o : Option ℕ) → place_of number live ≡ o → Goes (step_if_access row (access_at o live) live effects)
      by None e = h
      by (Some place) e = at_place place e (slice_get live place) refl

  -- ---- a participant leaves, and a conference is closed, without a signal

  conference_without_in_due : (o : Option ℕ) (room : Conference) → AreDue P at room → AreDue P at (conference_without_in o room)
  conference_without_in_due None room h = h
  conference_without_in_due (Some place) room h = by (slice_get room.participants place)
    where
      sat : (b : Bool) → AreDue P at (if b then record room { participants = remove room.participants place } else room)
      sat true = each_without (λ seat. P (seat_of room.number seat)) room.participants place h
      sat false = h

      by : (o : Option ParticipantState) → AreDue P at (conference_without_at place o room)
      by None = h
      by (Some seat) = sat (is_connected seat)

  conferences_after_leave_due : (room seat : ℕ) (live : List Conference) → AllDue live → AllDue (conferences_after_leave room seat live)
  unfolding conferences_after_leave
  conferences_after_leave_due room seat live h = by (place_of room live)
    where
      at_place : (place : ℕ) (o : Option Conference) → slice_get live place ≡ o → AllDue (conferences_without_seat seat place o live)
      at_place place None e = h
      at_place place (Some r) e =
          each_put (AreDue P at) live place r e h (conference_without_seat seat r) (conference_without_in_due (seats.place_of seat r.participants) r (each_there (AreDue P at) live place r e h))

      by : (o : Option ℕ) → AllDue (conferences_without_seat_at seat o live)
      by None = h
      by (Some place) = at_place place (slice_get live place) refl

  conferences_after_close_due : (room : ℕ) (live : List Conference) → AllDue live → AllDue (conferences_after_close room live)
  unfolding conferences_after_close
  conferences_after_close_due room live h = by (place_of room live)
    where
      by : (o : Option ℕ) → AllDue (conferences_without o live)
      by None = h
      by (Some place) = each_without (AreDue P at) live place h

  step_of_notify_due : (config : ConferenceConfigView) (room seat code : ℕ) (live : List Conference) (effects : Effects) → Stands live effects → Goes (step_of_notify config room seat code live effects)
  unfolding step_of_notify
  step_of_notify_due config room seat code live effects h = by (place_of room live)
    where
      by : (o : Option ℕ) → Goes (open_result_in (after_notify_to config (is_provisional code) (own_status code) seat) o live effects)
      by None = h
      by (Some place) = open_result_at_due (after_notify_to config (is_provisional code) (own_status code) seat) place live effects
          (λ r e held. after_notify_to_holds P at config (is_provisional code) (own_status code) seat (begin r effects) held) h

  -- all of them, one after another
  pub all_places : (live : List Conference) → AllDue live → Each P (charged_participants live)
  all_places [] h = tt
  all_places (room ∷ live) h = each_joined P (charged_participants_in room) (charged_participants live) (each_mapped P (seat_of room.number) room.participants h.0) (all_places live h.1)

-- ---- a connected participant has the meter of its account

due_metered : (config : ConferenceConfigView) (ops : List TableOp) (place : ChargedParticipant) → IsAccountedFor config ops place → IsMetered place
due_metered config [] place due = absurd due
due_metered config (op ∷ older) place (inl before) = due_metered config older place before
due_metered config (Opens c ∷ older) place (inr (inl gives)) = inr (c.at, gives.1)
due_metered config (Joins room c ∷ older) place (inr (inl gives)) = inr (c.at, gives.1)
due_metered config (Adopts room a ∷ older) place (inr (inl gives)) = inr (a.at, gives.1)
due_metered config (Notifies room seat code tokens ∷ older) place (inr (inl gives)) = absurd gives
due_metered config (Receives x ∷ older) place (inr (inl gives)) = by x.signal gives
  where
    by : (s : RoomSignal) → Invites config s (table_after config older) place → IsMetered place
    by (signal.Request room seat key m) invites = inl invites.4
    by (signal.Ack room seat m) invites = absurd invites
    by (signal.Answer key m) invites = absurd invites
    by (signal.Silent branch method) invites = absurd invites
    by (signal.Due room seat what) invites = absurd invites
    by (signal.Over key) invites = absurd invites
due_metered config (Leaves room seat ∷ older) place (inr (inl gives)) = absurd gives
due_metered config (Closes room ∷ older) place (inr (inl gives)) = absurd gives
due_metered config (Drops count ∷ older) place (inr (inl gives)) = absurd gives
due_metered config (Opens c ∷ older) place (inr (inr answers)) = absurd answers
due_metered config (Joins room c ∷ older) place (inr (inr answers)) = absurd answers
due_metered config (Adopts room a ∷ older) place (inr (inr answers)) = absurd answers
due_metered config (Notifies room seat code tokens ∷ older) place (inr (inr answers)) = absurd answers
due_metered config (Receives x ∷ older) place (inr (inr answers)) = inr (x.at, answers.1.2.is)
due_metered config (Leaves room seat ∷ older) place (inr (inr answers)) = absurd answers
due_metered config (Closes room ∷ older) place (inr (inr answers)) = absurd answers
due_metered config (Drops count ∷ older) place (inr (inr answers)) = absurd answers

-- ---- each operation

-- a moment for those without one
abbrev moment : TableOp → ℕ
moment (Opens c) = c.at
moment (Joins room c) = c.at
moment (Adopts room a) = a.at
moment (Notifies room seat code tokens) = 0
moment (Receives x) = x.at
moment (Leaves room seat) = 0
moment (Closes room) = 0
moment (Drops count) = 0

module _ (config : ConferenceConfigView) (older : List TableOp) where
  abbrev before : Table
  before = table_after config older

  -- what followed from the older operations follows with one more
  still : (op : TableOp) (at : ℕ) (live : List Conference) → AllDue (IsAccountedFor config older) at live → AllDue (IsAccountedFor config (op ∷ older)) at live
  still op at live h =
      each_more (AreDue (IsAccountedFor config older) at) (AreDue (IsAccountedFor config (op ∷ older)) at)
      (λ room e. each_more (λ seat. IsAccountedFor config older (seat_of room.number seat)) (λ seat. IsAccountedFor config (op ∷ older) (seat_of room.number seat)) (λ seat d. inl d) room.participants e) live h

  abbrev Follows : (op : TableOp) → List Conference → Effects → Type 0
  Follows op live effects = Stands (IsAccountedFor config (op ∷ older)) (moment op) live effects

  -- the number of the next participant of the conference that is found
  next_is : (number : ℕ) (r : Conference) (account : Option Account) (place : ChargedParticipant) → r.number.0 ≡ number → conference_of number before.live ≡ Some r →
      IsParticipantOf r.number.0 (next_number r.last_seat) account place →
      IsParticipantOf number (next_seat_of number before.live) account place
  next_is number r account place named is of = record { of_room = of.of_room ∙ named; numbered = of.numbered ∙ ap (λ (o : Option Conference). next_number (last_seat_of o)) (sym is); account = of.account }

  -- a participant that is invited after the step of a response was so before it
  stood_before : (x : histories.ReceivedSignal) (key : TKey) (m : MessageView) → x.signal ≡ signal.Answer key m → (place : ChargedParticipant) → IsAccountedFor config (Receives x ∷ older) place →
      IsInvited place → IsAccountedFor config older place
  stood_before x key m e place (inl due) invited = due
  stood_before x key m e place (inr (inl gives)) invited = absurd (subst (λ (s : RoomSignal). Invites config s before place) e gives)
  stood_before x key m e place (inr (inr answers)) invited = absurd (let no : true ≡ false = sym answers.1.2.is.connected ∙ invited.waits in cc)

  step_of_participant_due : (x : histories.ReceivedSignal) → Follows (Receives x) before.live (no_effects x.tokens) →
      GoesOn (IsAccountedFor config (Receives x ∷ older)) x.at (step_of_signal config x.at x.signal before.live before.abandoned (no_effects x.tokens))
  unfolding step_of_signal step_of_participant
  step_of_participant_due x h = by x.signal refl
    where
      metered : (place : ChargedParticipant) → IsAccountedFor config (Receives x ∷ older) place → IsMetered place
      metered place due = due_metered config (Receives x ∷ older) place due

      by : (s : RoomSignal) → x.signal ≡ s → GoesOn (IsAccountedFor config (Receives x ∷ older)) x.at (step_of_signal config x.at s before.live before.abandoned (no_effects x.tokens))
      by (signal.Request room seat key m) e =
          requested_due (IsAccountedFor config (Receives x ∷ older)) x.at config room seat key m before.live (no_effects x.tokens)
          (λ r named is uri refer asks place of invited.
          inr (inl (subst (λ (s : RoomSignal). Invites config s before place) (sym e) (uri, refer, asks, next_is room.0 r (account_of config.accounts uri) place named is of, invited))))
          h
      by (signal.Ack room seat m) e =
          step_by_number_due (IsAccountedFor config (Receives x ∷ older)) x.at config room.0 seat (of_seat.Ack m) before.live (no_effects x.tokens)
          (λ place sits s f held. ack_holds (IsAccountedFor config (Receives x ∷ older)) x.at m place sits s f held) h
      by (signal.Answer key m) e =
          answered_by_due (IsAccountedFor config (Receives x ∷ older)) x.at config metered before.live before.abandoned (no_effects x.tokens) h key m
          (λ agrees was place due is. inr (inr (subst (λ (s : RoomSignal). is_success_signal s ≡ true) (sym e) agrees, (was, stood_before x key m e was due is.was, is)))) (awaited_request_branch m)
      by (signal.Silent branch method) e = silenced_by_due (IsAccountedFor config (Receives x ∷ older)) x.at config metered before.live before.abandoned (no_effects x.tokens) h (timed_out_branch branch method)
      by (signal.Due room seat what) e =
          step_by_number_due (IsAccountedFor config (Receives x ∷ older)) x.at config room.0 seat (of_seat.Due what) before.live (no_effects x.tokens)
          (λ place sits s f held. due_holds (IsAccountedFor config (Receives x ∷ older)) x.at metered config what place sits s f held) h
      by (signal.Over key) e = h

  opens_due : (c : JoinRequest) → Holds (IsAccountedFor config (Opens c ∷ older)) c.at (step_on_open config c before)
  opens_due c =
      after_join_holds (IsAccountedFor config (Opens c ∷ older)) c.at config c.leg c.account c.key c.invite (begin (new_conference (next_room_number before)) (no_effects c.tokens))
      (λ place of sits. inr (inl (record { of_room = of.of_room; numbered = of.numbered; account = of.account }, sits))) (tt, tt)

  joins_due : (room : ℕ) (c : JoinRequest) → Follows (Joins room c) before.live (no_effects c.tokens) → Goes (IsAccountedFor config (Joins room c ∷ older)) c.at (step_on_join config room c before)
  unfolding step_of_join
  joins_due room c h =
      step_if_access_due (IsAccountedFor config (Joins room c ∷ older)) c.at (after_join config c.at c.leg c.account c.key c.invite) room before.live (no_effects c.tokens)
      (λ r named is held.
      after_join_holds (IsAccountedFor config (Joins room c ∷ older)) c.at config c.leg c.account c.key c.invite (begin r (no_effects c.tokens))
      (λ place of sits. inr (inl (next_is room r c.account place named is of, sits))) held)
      h

  adopts_due : (room : ℕ) (a : Adoption) → Follows (Adopts room a) before.live (no_effects a.tokens) → Goes (IsAccountedFor config (Adopts room a ∷ older)) a.at (step_on_adopt config room a before)
  unfolding step_of_adoption
  adopts_due room a h =
      step_if_access_due (IsAccountedFor config (Adopts room a ∷ older)) a.at (after_adoption config a.at a.leg a.account a.by) room before.live (no_effects a.tokens)
      (λ r named is held.
      after_adoption_holds (IsAccountedFor config (Adopts room a ∷ older)) a.at config a.leg a.account a.by (begin r (no_effects a.tokens))
      (λ place of sits. inr (inl (next_is room r a.account place named is of, sits))) held)
      h

  -- the participants after it, and the CDRs that it files
  record Comes (op : TableOp) : Type 0 where
    pub participants : AllDue (IsAccountedFor config (op ∷ older)) 0 (table_after config (op ∷ older)).live
    pub rows : AreRowsAccountedFor config (op ∷ older) (moment_of op) (effects_after config older op).output.rows

  comes : (op : TableOp) → AllDue (IsAccountedFor config older) 0 before.live → Comes op
  comes (Opens c) h =
      let opened = opens_due c in
      record {
        participants = each_joined (AreDue (IsAccountedFor config (Opens c ∷ older)) 0) before.live ((step_on_open config c before).conference ∷ []) (still (Opens c) 0 before.live h) (opened.0, tt);
        rows = opened.1;
      }
  comes (Joins room c) h = let moved = joins_due room c (still (Joins room c) c.at before.live h, tt) in record { participants = moved.0; rows = moved.1 }
  comes (Adopts room a) h = let moved = adopts_due room a (still (Adopts room a) a.at before.live h, tt) in record { participants = moved.0; rows = moved.1 }
  comes (Notifies room seat code tokens) h =
      let moved = step_of_notify_due (IsAccountedFor config (Notifies room seat code tokens ∷ older)) 0 config room seat code before.live (no_effects tokens)
      (still (Notifies room seat code tokens) 0 before.live h, tt) in
      record { participants = moved.0; rows = (step_of_notify_quiet config room seat code before.live (no_effects tokens) (always_plain config older)).filed }
  comes (Receives x) h = let moved = step_of_participant_due x (still (Receives x) x.at before.live h, tt) in record { participants = moved.0; rows = moved.1 }
  comes (Leaves room seat) h = record { participants = conferences_after_leave_due (IsAccountedFor config (Leaves room seat ∷ older)) 0 room seat before.live (still (Leaves room seat) 0 before.live h); rows = refl }
  comes (Closes room) h = record { participants = conferences_after_close_due (IsAccountedFor config (Closes room ∷ older)) 0 room before.live (still (Closes room) 0 before.live h); rows = refl }
  comes (Drops count) h = record { participants = still (Drops count) 0 before.live h; rows = refl }

-- ---- whatever was done

all_due : (config : ConferenceConfigView) (ops : List TableOp) → AllDue (IsAccountedFor config ops) 0 (table_after config ops).live
all_due config [] = tt
all_due config (op ∷ older) = (comes config older op (all_due config older)).participants

pub seats_due : ParticipantsAreAccountedFor
seats_due config ops = all_places (IsAccountedFor config ops) 0 (table_after config ops).live (all_due config ops)

pub seats_metered : ParticipantsAreMetered
seats_metered config ops = each_more (IsAccountedFor config ops) IsMetered (due_metered config ops) (charged_participants (table_after config ops).live) (seats_due config ops)

pub rows_due : RowsAreAccountedFor
rows_due config ops op = (comes config ops op (all_due config ops)).rows
