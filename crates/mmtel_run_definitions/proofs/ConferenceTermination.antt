-- The effect of timers on conferences: where one outputs anything, there are fewer participants than before. So timers come to an end.
use Rattle.std.proofs.Common.{◌≡◌, ◌&&◌, not, ℕ, suc, ◌≤◌, ◌<◌, List, [], ◌∷◌, length, refl, sym, ap, ◌∙◌, Bool, true, false, Option, Some, None, inl, inr, arith, subst}
use Rattle.std.specs.Prelude.{◌⊎◌, if◌then◌else◌, position, remove, slice_get, slice_set, sum_by}
use Rattle.std.proofs.lemmas.List.{get_or-set_same, length-set}
use Rattle.std.proofs.lemmas.List.Edits.{length-remove}
use Rattle.std.proofs.lemmas.Option.{slice_get-get_or, slice_get_within}
use Rattle.mmtel_output.specs.AbandonedInvites.{is_of_branch}
use Rattle.mmtel_output.specs.declared.sent_invites.AbandonedInvite.{AbandonedInvite}
use Rattle.mmtel_focus.specs.Responses.{after_end, after_invite_end, after_missing_ack, after_ringing_limit, has_outstanding_number, invite_after_due_cancel, is_ack_pending, on_due, on_timeout, with_invite_cancel}
use Rattle.mmtel_focus.specs.Requests.{is_invite_outstanding}
use Rattle.mmtel_focus.specs.Conferences.{Conference, StepResult, with_output}
use Rattle.mmtel_focus.specs.ParticipantSignals as of_seat
use Rattle.mmtel_focus.specs.ParticipantSignals.{ParticipantSignal}
use Rattle.mmtel_focus.specs.Participants.{after_close, after_dismissal, after_notify, after_notify_referrer, at_participant, at_place, by_participant}
use Rattle.mmtel_focus.specs.Participants.{has_seat_number, is_connected, is_creator, participant_after_notify, place_of, with_participant}
use Rattle.mmtel_focus.specs.ConferenceConfig.{ConferenceConfigView}
use Rattle.mmtel_focus.specs.Table as table
use Rattle.mmtel_focus.specs.Table.{ConferenceStep, TableStep, conference_has_branch, participant_has_branch, step_by_branch, step_by_number}
use Rattle.mmtel_focus.specs.Table.{step_of_participant, step_of_signal, step_of_timeout, step_of_timeout_at, step_result_at, step_result_by, step_result_in}
use Rattle.mmtel_output.specs.ResponseMatching.{timed_out_branch}
use Rattle.mmtel_focus.specs.Texts.{own_status}
use Rattle.mmtel_participants.specs.declared.effects.Effects.{Effects}
use Rattle.mmtel_participants.specs.declared.participants.ParticipantState.{ParticipantState}
use Rattle.mmtel_focus.specs.declared.signals.RoomSignal.{RoomSignal}
use Rattle.mmtel_focus.specs.declared.signals.RoomSignal.TheVariants as signal
use Rattle.mmtel_transaction.specs.declared.words.RoomWord.{RoomWord}
use Rattle.mmtel_transaction.specs.declared.words.RoomWord.TheVariants as due
use Rattle.mmtel_run_definitions.proofs.CallTableTermination.{put_sum}

-- the number of participants of a conference, and of all conferences
abbrev pub seats_of : Conference → ℕ
seats_of room = length room.participants

abbrev pub all_seats : List Conference → ℕ
all_seats live = sum_by seats_of live

abbrev count : StepResult → ℕ
count s = seats_of s.conference

-- there are no more, or fewer, after a step
abbrev Keeps : StepResult → StepResult → Type 0
Keeps s t = count t ≤ count s

abbrev Fewer : StepResult → StepResult → Type 0
Fewer s t = suc (count t) ≤ count s

-- nothing is output, and there are no more; or there are fewer
abbrev Fades : StepResult → StepResult → Type 0
Fades s t = ((t.effects.output.out ≡ s.effects.output.out) × Keeps s t) ⊎ Fewer s t

stays : (s : StepResult) → Fades s s
stays s = inl (refl, omega arith)

fades_if : (b : Bool) (s t u : StepResult) → Fades s t → Fades s u → Fades s (if b then t else u)
fades_if true s t u x y = x
fades_if false s t u x y = y

-- ---- a participant in the place of another

with_participant_there : (place : ℕ) (old x : ParticipantState) (s : StepResult) → slice_get s.conference.participants place ≡ Some old → slice_get (with_participant place x s).conference.participants place ≡ Some x
with_participant_there place old x s there =
    let within : place < length s.conference.participants = slice_get_within s.conference.participants place old there in
    let inside : place < length (slice_set s.conference.participants place x) = subst (λ (n : ℕ). place < n) (sym (length-set s.conference.participants place x)) within in
    slice_get-get_or (slice_set s.conference.participants place x) place x inside ∙ ap (λ (y : ParticipantState). Some y) (get_or-set_same s.conference.participants place x x within)

with_participant_count : (place : ℕ) (x : ParticipantState) (s : StepResult) → count (with_participant place x s) ≡ count s
with_participant_count place x s = length-set s.conference.participants place x

-- ---- a participant is notified

after_notify_keeps : (config : ConferenceConfigView) (goes_on : Bool) (line : List ℕ) (place : ℕ) (o : Option ParticipantState) (s : StepResult) → Keeps s (by_participant (after_notify config goes_on line place) o s)
after_notify_keeps config goes_on line place None s = omega arith
after_notify_keeps config goes_on line place (Some seat) s = let same = length-set s.conference.participants place (participant_after_notify seat) in omega (arith, same)

after_notify_to_keeps : (config : ConferenceConfigView) (goes_on : Bool) (line : List ℕ) (o : Option ℕ) (s : StepResult) → Keeps s (at_place (after_notify config goes_on line) o s)
after_notify_to_keeps config goes_on line None s = omega arith
after_notify_to_keeps config goes_on line (Some place) s = after_notify_keeps config goes_on line place (slice_get s.conference.participants place) s

after_notify_referrer_keeps : (config : ConferenceConfigView) (goes_on : Bool) (line : List ℕ) (by : Option ℕ) (s : StepResult) → Keeps s (after_notify_referrer config goes_on line by s)
after_notify_referrer_keeps config goes_on line None s = omega arith
after_notify_referrer_keeps config goes_on line (Some number) s = after_notify_to_keeps config goes_on line (place_of number s.conference.participants) s

-- ---- a participant leaves

after_dismissal_fewer : (config : ConferenceConfigView) (now place : ℕ) (x : ParticipantState) (s : StepResult) → slice_get s.conference.participants place ≡ Some x → Fewer s (after_dismissal config now place x s)
after_dismissal_fewer config now place x s there =
    let one = length-remove s.conference.participants place (slice_get_within s.conference.participants place x there) in
    omega (arith, one)

first_gone : (seats : List ParticipantState) → length (remove seats 0) ≤ length seats
first_gone [] = omega arith
first_gone (x ∷ seats) =
    let one = length-remove (x ∷ seats) 0 (omega arith) in
    omega (arith, one)

after_close_keeps : (config : ConferenceConfigView) (now : ℕ) (seats : List ParticipantState) (s : StepResult) → Keeps s (after_close config now seats s)
unfolding after_close
after_close_keeps config now [] s = omega arith
after_close_keeps config now (seat ∷ seats) s =
    let rest : Keeps (after_dismissal config now 0 seat s) (after_close config now seats (after_dismissal config now 0 seat s)) = after_close_keeps config now seats (after_dismissal config now 0 seat s) in
    let less : length (remove s.conference.participants 0) ≤ length s.conference.participants = first_gone s.conference.participants in
    omega (arith, rest, less)

after_close_if_keeps : (b : Bool) (config : ConferenceConfigView) (now : ℕ) (s : StepResult) → Keeps s (if b then after_close config now s.conference.participants s else s)
after_close_if_keeps true config now s = after_close_keeps config now s.conference.participants s
after_close_if_keeps false config now s = omega arith

-- ---- the transitions of timers

ended_fewer : (config : ConferenceConfigView) (now : ℕ) (line : List ℕ) (place : ℕ) (x : ParticipantState) (s : StepResult) → slice_get s.conference.participants place ≡ Some x →
    Fewer s (after_end config now line place x s)
ended_fewer config now line place x s there =
    let gone : Fewer s (after_dismissal config now place x s) = after_dismissal_fewer config now place x s there in
    let told : Keeps (after_dismissal config now place x s) (after_end config now line place x s) = after_notify_referrer_keeps config false line x.by (after_dismissal config now place x s) in
    omega (arith, gone, told)

-- of the participant that is at this place now
ended_at_fewer : (config : ConferenceConfigView) (now : ℕ) (line : List ℕ) (place : ℕ) (old x : ParticipantState) (s : StepResult) → slice_get s.conference.participants place ≡ Some old →
    Fewer s (at_participant (after_end config now line) place (with_participant place x s))
ended_at_fewer config now line place old x s there =
    let v : StepResult = with_participant place x s in
    let is : slice_get v.conference.participants place ≡ Some x = with_participant_there place old x s there in
    let same : count v ≡ count s = with_participant_count place x s in
    let less : suc (count (by_participant (after_end config now line place) (slice_get v.conference.participants place) v)) ≤ count v =
    subst (λ (o : Option ParticipantState). suc (count (by_participant (after_end config now line place) o v)) ≤ count v) (sym is) (ended_fewer config now line place x v is) in
    omega (arith, less, same)

silence_fades : (config : ConferenceConfigView) (now place : ℕ) (x : ParticipantState) (s : StepResult) → slice_get s.conference.participants place ≡ Some x → Fades s (on_timeout config now place x s)
unfolding on_timeout
silence_fades config now place x s there =
    fades_if (is_invite_outstanding x.invite) s (after_invite_end config now (own_status 408) place x s) s (inr (ended_at_fewer config now (own_status 408) place x (record x { invite = None }) s there)) (stays s)

long_fewer : (config : ConferenceConfigView) (now place : ℕ) (x : ParticipantState) (s : StepResult) → slice_get s.conference.participants place ≡ Some x → Fewer s (after_ringing_limit config now place x s)
long_fewer config now place x s there =
    ended_at_fewer config now (own_status 408) place x (record x { invite = invite_after_due_cancel x.invite }) (with_output (with_invite_cancel config.sip x.invite s.effects.output) s) there

no_ack_fewer : (config : ConferenceConfigView) (now place : ℕ) (x : ParticipantState) (s : StepResult) → slice_get s.conference.participants place ≡ Some x → Fewer s (after_missing_ack config now place x s)
no_ack_fewer config now place x s there =
    let gone : Fewer s (after_dismissal config now place x s) = after_dismissal_fewer config now place x s there in
    let rest : Keeps (after_dismissal config now place x s) (after_missing_ack config now place x s) = after_close_if_keeps (is_creator x.number) config now (after_dismissal config now place x s) in
    omega (arith, gone, rest)

due_fades : (config : ConferenceConfigView) (now : ℕ) (what : RoomWord) (place : ℕ) (x : ParticipantState) (s : StepResult) → slice_get s.conference.participants place ≡ Some x →
    Fades s (on_due config now what place x s)
unfolding on_due
due_fades config now (due.Cap number) place x s there =
    fades_if (not (is_connected x) && has_outstanding_number number x.invite) s (after_ringing_limit config now place x s) s (inr (long_fewer config now place x s there)) (stays s)
due_fades config now (due.NoAck number) place x s there =
    fades_if (is_ack_pending number x.pending_ack) s (after_missing_ack config now place x s) s (inr (no_ack_fewer config now place x s there)) (stays s)

-- the signals of timers to a participant
abbrev is_of_branch_deadline : ParticipantSignal → Bool
is_of_branch_deadline (of_seat.Request key request) = false
is_of_branch_deadline (of_seat.Ack ack) = false
is_of_branch_deadline (of_seat.Answer key response) = false
is_of_branch_deadline of_seat.Silent = true
is_of_branch_deadline (of_seat.Due what) = true

step_of_participant_fades : (config : ConferenceConfigView) (now : ℕ) (x : ParticipantSignal) (place : ℕ) (seat : ParticipantState) (s : StepResult) → is_of_branch_deadline x ≡ true →
    slice_get s.conference.participants place ≡ Some seat → Fades s (step_of_participant config now x place seat s)
unfolding step_of_participant
step_of_participant_fades config now (of_seat.Request key request) place seat s is there = absurd cc
step_of_participant_fades config now (of_seat.Ack ack) place seat s is there = absurd cc
step_of_participant_fades config now (of_seat.Answer key response) place seat s is there = absurd cc
step_of_participant_fades config now of_seat.Silent place seat s is there = silence_fades config now place seat s there
step_of_participant_fades config now (of_seat.Due what) place seat s is there = due_fades config now what place seat s there

-- ---- in a conference, and in all

abbrev FadesIn : List Conference → Effects → ConferenceStep → Type 0
FadesIn live e t = ((t.effects.output.out ≡ e.output.out) × (all_seats t.live ≤ all_seats live)) ⊎ (suc (all_seats t.live) ≤ all_seats live)

module _ (config : ConferenceConfigView) (now : ℕ) (x : ParticipantSignal) (is : is_of_branch_deadline x ≡ true) (whose : ParticipantState → Bool) where
  at_fades : (place : ℕ) (o : Option ParticipantState) (s : StepResult) → slice_get s.conference.participants place ≡ o → Fades s (by_participant (step_of_participant config now x place) o s)
  at_fades place None s there = stays s
  at_fades place (Some seat) s there = step_of_participant_fades config now x place seat s is there

  room_fades : (o : Option ℕ) (s : StepResult) → Fades s (at_place (step_of_participant config now x) o s)
  room_fades None s = stays s
  room_fades (Some place) s = at_fades place (slice_get s.conference.participants place) s refl

  by_fades : (place : ℕ) (room : Conference) (s : StepResult) (live : List Conference) (e : Effects) → slice_get live place ≡ Some room → Fades (record { conference = room; effects = e }) s →
      FadesIn live e (step_result_by place s live)
  by_fades place room s live e there (inl quiet) =
      let put = put_sum seats_of s.effects.closes place room s.conference live there in
      let less : seats_of s.conference ≤ seats_of room = quiet.1 in
      inl (quiet.0, omega (arith, put, less))
  by_fades place room s live e there (inr less) =
      let put = put_sum seats_of s.effects.closes place room s.conference live there in
      let fewer : suc (seats_of s.conference) ≤ seats_of room = less in
      inr (omega (arith, put, fewer))

  stepped_fades : (place : ℕ) (o : Option Conference) (live : List Conference) (e : Effects) → slice_get live place ≡ o → FadesIn live e (step_result_at (table.step_of_first config now whose x) place o live e)
  stepped_fades place None live e there = inl (refl, omega arith)
  stepped_fades place (Some room) live e there =
      let s : StepResult = record { conference = room; effects = e } in
      by_fades place room (table.step_of_first config now whose x s) live e there (room_fades (position whose s.conference.participants) s)

  in_fades : (o : Option ℕ) (live : List Conference) (e : Effects) → FadesIn live e (step_result_in (table.step_of_first config now whose x) o live e)
  in_fades None live e = inl (refl, omega arith)
  in_fades (Some place) live e = stepped_fades place (slice_get live place) live e refl

-- ---- a signal of a timer

abbrev pub FadesConferences : List Conference → Effects → TableStep → Type 0
FadesConferences live e m = ((m.effects.output.out ≡ e.output.out) × (all_seats m.live ≤ all_seats live)) ⊎ (suc (all_seats m.live) ≤ all_seats live)

-- the signals of timers to conferences
abbrev pub is_rung : RoomSignal → Bool
is_rung (signal.Request room seat key request) = false
is_rung (signal.Ack room seat ack) = false
is_rung (signal.Answer key response) = false
is_rung (signal.Silent branch method) = true
is_rung (signal.Due room seat what) = true
is_rung (signal.Over key) = true

module _ (config : ConferenceConfigView) (now : ℕ) (live : List Conference) (abandoned : List AbandonedInvite) (e : Effects) where
  step_of_timeout_at_fades : (branch : List ℕ) (o : Option ℕ) → FadesConferences live e (step_of_timeout_at config now branch o live abandoned e)
  step_of_timeout_at_fades branch None = in_fades config now of_seat.Silent refl (participant_has_branch branch) (position (conference_has_branch branch) live) live e
  step_of_timeout_at_fades branch (Some place) = inl (refl, omega arith)

  step_of_timeout_fades : (o : Option (List ℕ)) → FadesConferences live e (step_of_timeout config now o live abandoned e)
  step_of_timeout_fades None = inl (refl, omega arith)
  step_of_timeout_fades (Some branch) = step_of_timeout_at_fades branch (position (is_of_branch branch) abandoned)

  pub rooms_fade : (x : RoomSignal) → is_rung x ≡ true → FadesConferences live e (step_of_signal config now x live abandoned e)
  unfolding step_of_signal
  rooms_fade (signal.Request room seat key request) is = absurd cc
  rooms_fade (signal.Ack room seat ack) is = absurd cc
  rooms_fade (signal.Answer key response) is = absurd cc
  rooms_fade (signal.Silent branch method) is = step_of_timeout_fades (timed_out_branch branch method)
  rooms_fade (signal.Due room seat what) is = in_fades config now (of_seat.Due what) refl (has_seat_number seat) (table.place_of room.0 live) live e
  rooms_fade (signal.Over key) is = inl (refl, omega arith)
