-- What is entered in the ledger over a table of conferences, operation by operation.
use Rattle.std.proofs.Common.{◌≡◌, Bool, true, false, ℕ, zero, suc, List, [], ◌∷◌, ◌++◌, map, Option, Some, None, Result, Ok, Err, ◌⊎◌, inl, inr, ◌∙◌, refl, sym, ap, subst, nat_lt, append_assoc}
use Rattle.std.specs.Prelude.{if◌then◌else◌, option_to_list, position, slice_get, slice_set}
use Rattle.std.specs.List.{remove}
use Rattle.std.specs.Option.{option_map}
use Rattle.std.proofs.lemmas.List.{append-nil}
use Rattle.mmtel_compose.specs.ReceivedMessages.{MessageView, status_of}
use Rattle.mmtel_charging.specs.Meters.{MeterView}
use Rattle.mmtel_charging.specs.declared.rows.Row.{Row}
use Rattle.mmtel_output.specs.Outputs.{token}
use Rattle.mmtel_output.specs.SentInvites.{with_key}
use Rattle.mmtel_output.specs.AbandonedInvites.{AfterResponse, after_due_cancel, after_provisional, ended_dialog, is_of_branch, on_response, on_success, on_success_in, with_invite}
use Rattle.mmtel_output.specs.Sending.{with_cancel, with_final_ack}
use Rattle.mmtel_output.specs.declared.outputs.StepOutput.{StepOutput}
use Rattle.mmtel_output.specs.declared.sent_invites.AbandonedInvite.{AbandonedInvite}
use Rattle.mmtel_leg.specs.Remotes.{remote_of}
use Rattle.mmtel_leg.specs.declared.dialogues.Dialogue.{Dialogue}
use Rattle.mmtel_leg.specs.declared.legs.Released.{Released}
use Rattle.mmtel_leg.specs.declared.legs.Released.TheVariants as released
use Rattle.mmtel_leg.specs.declared.remotes.Remote.{Remote}
use Rattle.mmtel_transaction.specs.Tokens.{TokensView}
use Rattle.mmtel_transaction.specs.declared.words.TKey.{TKey}
use Rattle.mmtel_trust.specs.ParsedMessage.{ParsedMessage}
use Rattle.mmtel_types.specs.declared.addrs.Addr.{Addr}
use Rattle.mmtel_types.specs.declared.numbers.Account.{Account}
use Rattle.mmtel_types.specs.declared.sides.Side.TheVariants.{Callee}
use Rattle.mmtel_focus.specs.Operations.{Adoption, JoinRequest, TableOp, Opens, Joins, Adopts, Notifies, Receives, Leaves, Closes, Drops, step_on_adopt}
use Rattle.mmtel_focus.specs.Operations.{table_after_op, step_on_receive, step_on_join, step_on_open, table_after, with_opened_conference}
use Rattle.mmtel_focus.specs.Joining.{adopted_participant, after_adoption, after_join, new_conference, new_participant, party_of, released_after_reinvite}
use Rattle.mmtel_focus.specs.Queries.{ended_leg, ended_legs, participants_in}
use Rattle.mmtel_focus.specs.Conferences.{Conference, StepResult, no_effects}
use Rattle.mmtel_focus.specs.ParticipantSignals as of_seat
use Rattle.mmtel_focus.specs.ParticipantSignals.{ParticipantSignal}
use Rattle.mmtel_participants.specs.declared.effects.Effects.{Effects}
use Rattle.mmtel_focus.specs.Participants as seats
use Rattle.mmtel_focus.specs.Participants.{after_notify_to, has_seat_number, is_connected, leg_of, meter_of}
use Rattle.mmtel_focus.specs.ConferenceConfig.{ConferenceConfigView}
use Rattle.mmtel_focus.specs.Table as table
use Rattle.mmtel_focus.specs.Table.{ConferenceStep, Table, TableStep, access, conference_at, conference_has_branch, conference_of, conference_without_at, conference_without_in, conference_without_seat}
use Rattle.mmtel_focus.specs.Table.{conferences_after_close, conferences_after_leave, conferences_with, conferences_without, conferences_without_seat, conferences_without_seat_at, is_abandoned_key, is_provisional}
use Rattle.mmtel_focus.specs.Table.{next_room_number, open_result_at, open_result_by, open_result_in, participant_has_branch, place_of, row_by, row_in, row_in_conference, row_of_leave, row_of_participant}
use Rattle.mmtel_focus.specs.Table.{step_by_branch, step_by_number, step_if_access, step_of_abandoned_response, step_of_adoption, step_of_join, step_of_notify, step_of_opening, step_of_participant, step_of_response}
use Rattle.mmtel_focus.specs.Table.{step_of_response_at, step_of_signal, step_of_timeout, step_of_timeout_at, step_result_at, step_result_by, step_result_in, unchanged_step, with_rest_of_abandoned, without, without_at}
use Rattle.mmtel_output.specs.ResponseMatching.{awaited_request_branch, timed_out_branch}
use Rattle.mmtel_focus.specs.Texts.{own_status}
use Rattle.mmtel_focus.specs.declared.faults.RoomFault.{RoomFault}
use Rattle.mmtel_participants.specs.declared.participants.ParticipantState.{ParticipantState}
use Rattle.mmtel_focus.specs.declared.signals.RoomSignal.{RoomSignal}
use Rattle.mmtel_focus.specs.declared.signals.RoomSignal.TheVariants as signal
use Rattle.mmtel_focus_theorems.specs.Charging.{IsBooked, IsBookedOp, IsCharged, OperationsAreCharged, among, meters_in, meters_of, row_of_closed, running_meters, running_meters_in, running_meters_of}
use Rattle.mmtel_focus_theorems.proofs.Books.{beside, booked_same, booked_within, flat_among, flat_without, stands}
use Rattle.mmtel_focus_theorems.proofs.ChargedTransitions.{ack_books, answer_books, due_books, request_books, silence_books}
use Rattle.mmtel_focus_theorems.proofs.ChargedSteps.{ArePlain, Books, Ends, EndsBooks, IsPlain, IsQuiet, after_notify_to_quiet, ends_at_place, goes_on, meter_begins, plain_removed, taken_books}

-- ---- no invited party has a meter, in any conference

abbrev pub AllPlain : List Conference → Type 0
AllPlain [] = Unit {0}
AllPlain (room ∷ live) = ArePlain room.participants × AllPlain live

all_joined : (xs ys : List Conference) → AllPlain xs → AllPlain ys → AllPlain (xs ++ ys)
all_joined [] ys e f = f
all_joined (x ∷ xs) ys e f = (e.0, all_joined xs ys e.1 f)

all_parts : (xs ys : List Conference) → AllPlain (xs ++ ys) → AllPlain xs × AllPlain ys
all_parts [] ys e = (tt, e)
all_parts (x ∷ xs) ys e = let rest = all_parts xs ys e.1 in ((e.0, rest.0), rest.1)

record Round (live : List Conference) (place : ℕ) (room : Conference) : Type 0 where
  pub front : List Conference
  pub back : List Conference
  pub runs_in : running_meters live ≡ running_meters front ++ (running_meters_of room ++ running_meters back)
  pub put_runs : (x : Conference) → running_meters (slice_set live place x) ≡ running_meters front ++ (running_meters_of x ++ running_meters back)
  pub out_runs : (x : Conference) → running_meters (remove (slice_set live place x) place) ≡ running_meters front ++ running_meters back
  pub gone_runs : running_meters (remove live place) ≡ running_meters front ++ running_meters back
  pub room_plain : ArePlain room.participants
  pub put_plain : (x : Conference) → ArePlain x.participants → AllPlain (slice_set live place x)
  pub out_plain : (x : Conference) → AllPlain (remove (slice_set live place x) place)
  pub gone_plain : AllPlain (remove live place)

round : (live : List Conference) (place : ℕ) (room : Conference) → slice_get live place ≡ Some room → AllPlain live → Round live place room
round live place room e p =
    let x = stands live place room e in
    let parts = all_parts x.front (room ∷ x.back) (subst AllPlain x.whole p) in
    record {
      front = x.front;
      back = x.back;
      runs_in = ap running_meters x.whole ∙ flat_among running_meters_of x.front room x.back;
      put_runs = λ y. ap running_meters (x.put y) ∙ flat_among running_meters_of x.front y x.back;
      out_runs = λ y. ap running_meters (x.put_removed y) ∙ flat_without running_meters_of x.front x.back;
      gone_runs = ap running_meters x.removed ∙ flat_without running_meters_of x.front x.back;
      room_plain = parts.1.0;
      put_plain = λ y q. subst AllPlain (sym (x.put y)) (all_joined x.front (y ∷ x.back) parts.0 (q, parts.1.1));
      out_plain = λ y. subst AllPlain (sym (x.put_removed y)) (all_joined x.front x.back parts.0 parts.1.1);
      gone_plain = subst AllPlain (sym x.removed) (all_joined x.front x.back parts.0 parts.1.1);
    }

-- ---- a step of the conferences

-- what it enters in the ledger, from these effects on
record Moves (at : ℕ) (live : List Conference) (before : Effects) (later : List Conference) (after : Effects) : Type 0 where
  pub rows : List Row
  pub filed : after.output.rows ≡ before.output.rows ++ rows
  pub booked : IsBooked at (running_meters live) (running_meters later) rows
  pub plain : AllPlain later

abbrev Goes : (at : ℕ) → List Conference → Effects → ConferenceStep → Type 0
Goes at live before s = Moves at live before s.live s.effects

unchanged_step_books : (at : ℕ) (live : List Conference) (before after : Effects) → after.output.rows ≡ before.output.rows → AllPlain live → Moves at live before live after
unchanged_step_books at live before after e p = record { rows = []; filed = e ∙ sym (append-nil before.output.rows); booked = booked_same at (running_meters live) (running_meters live) refl; plain = p }

abbrev begin : Conference → Effects → StepResult
begin room effects = record { conference = room; effects = effects }

step_result_by_books : (at : ℕ) (place : ℕ) (room : Conference) (s : StepResult) (live : List Conference) (effects : Effects) → slice_get live place ≡ Some room → effects.closes ≡ false →
    AllPlain live → Ends at (begin room effects) s → Goes at live effects (step_result_by place s live)
step_result_by_books at place room s live effects e open_still p f = record { rows = f.rows; filed = f.filed; booked = by s.effects.closes refl; plain = plain_by s.effects.closes }
  where
    x : Round live place room
    x = round live place room e p

    -- the conference stays at its place
    stays : IsBooked at (running_meters live) (running_meters (slice_set live place s.conference)) f.rows
    stays =
        subst (λ y. IsBooked at y (running_meters (slice_set live place s.conference)) f.rows) (sym x.runs_in)
        (subst (λ y. IsBooked at (running_meters x.front ++ (running_meters_of room ++ running_meters x.back)) y f.rows) (sym (x.put_runs s.conference))
        (booked_within at (running_meters x.front) (running_meters x.back) (running_meters_of room) (running_meters_of s.conference) f.rows f.booked))

    -- it closes without participants
    goes : s.conference.participants ≡ [] → IsBooked at (running_meters live) (running_meters (remove (slice_set live place s.conference) place)) f.rows
    goes g =
        subst (λ y. IsBooked at (running_meters live) y f.rows) (x.put_runs s.conference ∙ ap (λ y. running_meters x.front ++ (running_meters_in y ++ running_meters x.back)) g ∙ sym (x.out_runs s.conference)) stays

    differ : s.effects.closes ≡ true → s.effects.closes ≡ false → s.conference.participants ≡ []
    differ g h = absurd (let same : true ≡ false = sym g ∙ h in cc)

    seatless : s.effects.closes ≡ true → (s.effects.closes ≡ effects.closes) ⊎ (s.conference.participants ≡ []) → s.conference.participants ≡ []
    seatless g (inl h) = differ g (h ∙ open_still)
    seatless g (inr h) = h

    by : (b : Bool) → s.effects.closes ≡ b → IsBooked at (running_meters live) (running_meters (if b then remove (slice_set live place s.conference) place else slice_set live place s.conference)) f.rows
    by true g = goes (seatless g f.ends)
    by false g = stays

    plain_by : (b : Bool) → AllPlain (if b then remove (slice_set live place s.conference) place else slice_set live place s.conference)
    plain_by true = x.out_plain s.conference
    plain_by false = x.put_plain s.conference f.plain

-- a step in which no conference closes
open_result_by_books : (at : ℕ) (place : ℕ) (room : Conference) (s : StepResult) (live : List Conference) (effects : Effects) → slice_get live place ≡ Some room → AllPlain live →
    Books at (begin room effects) s → Goes at live effects (open_result_by place s live)
open_result_by_books at place room s live effects e p f =
    let x = round live place room e p in
    record {
      rows = f.rows;
      filed = f.filed;
      booked =
          subst (λ y. IsBooked at y (running_meters (slice_set live place s.conference)) f.rows) (sym x.runs_in)
          (subst (λ y. IsBooked at (running_meters x.front ++ (running_meters_of room ++ running_meters x.back)) y f.rows) (sym (x.put_runs s.conference))
          (booked_within at (running_meters x.front) (running_meters x.back) (running_meters_of room) (running_meters_of s.conference) f.rows f.booked));
      plain = x.put_plain s.conference f.plain;
    }

abbrev KeepsConferencesBooked : (at : ℕ) → (row : StepResult → StepResult) → Type 0
KeepsConferencesBooked at row = (s : StepResult) → ArePlain s.conference.participants → Books at s (row s)

open_result_at_books : (at : ℕ) (row : StepResult → StepResult) (place : ℕ) (live : List Conference) (effects : Effects) → KeepsConferencesBooked at row → AllPlain live →
    Goes at live effects (open_result_at row place (slice_get live place) live effects)
open_result_at_books at row place live effects k p = by (slice_get live place) refl
  where
    by : (o : Option Conference) → slice_get live place ≡ o → Goes at live effects (open_result_at row place o live effects)
    by None e = unchanged_step_books at live effects effects refl p
    by (Some room) e = open_result_by_books at place room (row (begin room effects)) live effects e p (k (begin room effects) (round live place room e p).room_plain)

-- a transition of conferences
abbrev EndsConferencesBooked : (at : ℕ) → (row : StepResult → StepResult) → Type 0
EndsConferencesBooked at row = (s : StepResult) → ArePlain s.conference.participants → Ends at s (row s)

step_result_at_books : (at : ℕ) (row : StepResult → StepResult) (place : ℕ) (live : List Conference) (effects : Effects) → effects.closes ≡ false → EndsConferencesBooked at row → AllPlain live →
    Goes at live effects (step_result_at row place (slice_get live place) live effects)
step_result_at_books at row place live effects f k p = by (slice_get live place) refl
  where
    by : (o : Option Conference) → slice_get live place ≡ o → Goes at live effects (step_result_at row place o live effects)
    by None e = unchanged_step_books at live effects effects refl p
    by (Some room) e = step_result_by_books at place room (row (begin room effects)) live effects e f p (k (begin room effects) (round live place room e p).room_plain)

step_result_in_books : (at : ℕ) (row : StepResult → StepResult) (o : Option ℕ) (live : List Conference) (effects : Effects) → effects.closes ≡ false → EndsConferencesBooked at row → AllPlain live →
    Goes at live effects (step_result_in row o live effects)
step_result_in_books at row None live effects f k p = unchanged_step_books at live effects effects refl p
step_result_in_books at row (Some place) live effects f k p = step_result_at_books at row place live effects f k p

-- ---- what a participant receives

step_of_participant_books : (at : ℕ) (config : ConferenceConfigView) (received : ParticipantSignal) → EndsBooks at (step_of_participant config at received)
unfolding step_of_participant
step_of_participant_books at config (of_seat.Request key request) place seat s e p = request_books at config key request place seat s e p
step_of_participant_books at config (of_seat.Ack ack) place seat s e p = goes_on at s (step_of_participant config at (of_seat.Ack ack) place seat s) (ack_books at ack place seat s e p)
step_of_participant_books at config (of_seat.Answer key response) place seat s e p =
    goes_on at s (step_of_participant config at (of_seat.Answer key response) place seat s) (answer_books at config key response place seat s e p)
step_of_participant_books at config of_seat.Silent place seat s e p = goes_on at s (step_of_participant config at of_seat.Silent place seat s) (silence_books at config place seat s e p)
step_of_participant_books at config (of_seat.Due what) place seat s e p = due_books at config what place seat s e p

step_books : (at : ℕ) (config : ConferenceConfigView) (whose : ParticipantState → Bool) (received : ParticipantSignal) → EndsConferencesBooked at (table.step_of_first config at whose received)
step_books at config whose received s p = ends_at_place at (step_of_participant config at received) (step_of_participant_books at config received) (position whose s.conference.participants) s p

-- ---- abandoned INVITEs file nothing

rest_if : (b : Bool) (one two : AfterResponse) (output : StepOutput) → one.output.rows ≡ output.rows → two.output.rows ≡ output.rows → (if b then one else two).output.rows ≡ output.rows
rest_if true one two output e f = e
rest_if false one two output e f = f

late_rows : (sip : Addr) (l : AbandonedInvite) (output : StepOutput) → (after_due_cancel sip l output).output.rows ≡ output.rows
late_rows sip l output = rest_if l.invite.cancelled (record { remaining = Some l; output = output })
    (record { remaining = Some (with_invite l (record l.invite { cancelled = true })); output = with_cancel sip l.invite output }) output refl refl

success_rows : (sip : Addr) (l : AbandonedInvite) (remote : Remote) (o : Option Dialogue) (output : StepOutput) → (on_success_in sip l remote o output).output.rows ≡ output.rows
success_rows sip l remote None output = refl
success_rows sip l remote (Some d) output = refl

pub response_rows : (sip : Addr) (key : TKey) (m : ParsedMessage) (l : AbandonedInvite) (output : StepOutput) → (on_response sip key m l output).output.rows ≡ output.rows
response_rows sip key m l output =
    let known : AbandonedInvite = with_invite l (with_key key l.invite) in
    let last : AfterResponse = record { remaining = None; output = with_final_ack sip key l.invite m output } in
    rest_if (nat_lt (status_of m.start) 200) (after_due_cancel sip (after_provisional key m l) output) (if nat_lt (status_of m.start) 300 then on_success sip known (remote_of Callee m.lines) output else last) output
    (late_rows sip (after_provisional key m l) output)
    (rest_if (nat_lt (status_of m.start) 300) (on_success sip known (remote_of Callee m.lines) output) last output
    (success_rows sip known (remote_of Callee m.lines) (ended_dialog known (remote_of Callee m.lines).tag) output) refl)

abbrev GoesBeside : (at : ℕ) → List Conference → Effects → TableStep → Type 0
GoesBeside at live before moved = Moves at live before moved.live moved.effects

abandoned_books : (at : ℕ) (sip : Addr) (key : TKey) (m : MessageView) (place : ℕ) (o : Option AbandonedInvite) (live : List Conference) (abandoned : List AbandonedInvite) (effects : Effects) →
    AllPlain live → GoesBeside at live effects (step_of_abandoned_response sip key m place o live abandoned effects)
abandoned_books at sip key m place None live abandoned effects p = unchanged_step_books at live effects effects refl p
abandoned_books at sip key m place (Some l) live abandoned effects p = record {
  rows = [];
  filed = response_rows sip key m.parsed l effects.output ∙ sym (append-nil effects.output.rows);
  booked = booked_same at (running_meters live) (running_meters live) refl;
  plain = p;
}

-- ---- signals

step_by_branch_books : (at : ℕ) (config : ConferenceConfigView) (branch : List ℕ) (received : ParticipantSignal) (live : List Conference) (effects : Effects) → effects.closes ≡ false → AllPlain live →
    Goes at live effects (step_by_branch config at branch received live effects)
step_by_branch_books at config branch received live effects f p =
    step_result_in_books at (table.step_of_first config at (participant_has_branch branch) received) (position (conference_has_branch branch) live) live effects f
    (step_books at config (participant_has_branch branch) received) p

step_by_number_books : (at : ℕ) (config : ConferenceConfigView) (room seat : ℕ) (received : ParticipantSignal) (live : List Conference) (effects : Effects) → effects.closes ≡ false → AllPlain live →
    Goes at live effects (step_by_number config at room seat received live effects)
step_by_number_books at config room seat received live effects f p =
    step_result_in_books at (table.step_of_first config at (has_seat_number seat) received) (place_of room live) live effects f (step_books at config (has_seat_number seat) received) p

step_of_response_at_books :
    (at : ℕ) (config : ConferenceConfigView) (key : TKey) (m : MessageView) (branch : List ℕ) (o : Option ℕ) (live : List Conference) (abandoned : List AbandonedInvite) (effects : Effects) →
    effects.closes ≡ false → AllPlain live →
    GoesBeside at live effects (step_of_response_at config at key m branch o live abandoned effects)
step_of_response_at_books at config key m branch None live abandoned effects f p = step_by_branch_books at config branch (of_seat.Answer key m) live effects f p
step_of_response_at_books at config key m branch (Some place) live abandoned effects f p = abandoned_books at config.sip key m place (slice_get abandoned place) live abandoned effects p

step_of_response_books : (at : ℕ) (config : ConferenceConfigView) (key : TKey) (m : MessageView) (o : Option (List ℕ)) (live : List Conference) (abandoned : List AbandonedInvite) (effects : Effects) →
    effects.closes ≡ false → AllPlain live →
    GoesBeside at live effects (step_of_response config at key m o live abandoned effects)
step_of_response_books at config key m None live abandoned effects f p = unchanged_step_books at live effects effects refl p
step_of_response_books at config key m (Some branch) live abandoned effects f p = step_of_response_at_books at config key m branch (position (is_of_branch branch) abandoned) live abandoned effects f p

step_of_timeout_at_books : (at : ℕ) (config : ConferenceConfigView) (branch : List ℕ) (o : Option ℕ) (live : List Conference) (abandoned : List AbandonedInvite) (effects : Effects) →
    effects.closes ≡ false → AllPlain live →
    GoesBeside at live effects (step_of_timeout_at config at branch o live abandoned effects)
step_of_timeout_at_books at config branch None live abandoned effects f p = step_by_branch_books at config branch of_seat.Silent live effects f p
step_of_timeout_at_books at config branch (Some place) live abandoned effects f p = unchanged_step_books at live effects effects refl p

step_of_timeout_books : (at : ℕ) (config : ConferenceConfigView) (o : Option (List ℕ)) (live : List Conference) (abandoned : List AbandonedInvite) (effects : Effects) → effects.closes ≡ false → AllPlain live →
    GoesBeside at live effects (step_of_timeout config at o live abandoned effects)
step_of_timeout_books at config None live abandoned effects f p = unchanged_step_books at live effects effects refl p
step_of_timeout_books at config (Some branch) live abandoned effects f p = step_of_timeout_at_books at config branch (position (is_of_branch branch) abandoned) live abandoned effects f p

signal_books : (at : ℕ) (config : ConferenceConfigView) (x : RoomSignal) (live : List Conference) (abandoned : List AbandonedInvite) (effects : Effects) → effects.closes ≡ false → AllPlain live →
    GoesBeside at live effects (step_of_signal config at x live abandoned effects)
unfolding step_of_signal
signal_books at config (signal.Request room seat key request) live abandoned effects f p = step_by_number_books at config room.0 seat (of_seat.Request key request) live effects f p
signal_books at config (signal.Ack room seat ack) live abandoned effects f p = step_by_number_books at config room.0 seat (of_seat.Ack ack) live effects f p
signal_books at config (signal.Answer key response) live abandoned effects f p = step_of_response_books at config key response (awaited_request_branch response) live abandoned effects f p
signal_books at config (signal.Silent branch method) live abandoned effects f p = step_of_timeout_books at config (timed_out_branch branch method) live abandoned effects f p
signal_books at config (signal.Due room seat what) live abandoned effects f p = step_by_number_books at config room.0 seat (of_seat.Due what) live effects f p
signal_books at config (signal.Over key) live abandoned effects f p = unchanged_step_books at live effects effects refl p

-- ---- participants are added

party_meters : (meter : Option MeterView) (leg : Released) → option_to_list (leg_of (party_of meter leg)).meter ≡ option_to_list meter
party_meters meter (released.Caller leg) = refl
party_meters meter (released.Callee leg) = refl

party_plain : (meter : Option MeterView) (leg : Released) → IsPlain (party_of meter leg)
party_plain meter (released.Caller leg) = tt
party_plain meter (released.Callee leg) = tt

after_join_books : (at : ℕ) (config : ConferenceConfigView) (leg : Released) (account : Option Account) (key : TKey) (m : MessageView) (s : StepResult) → ArePlain s.conference.participants →
    Books at s (after_join config at leg account key m s)
unfolding after_join
after_join_books at config leg account key m s p =
    taken_books at s (after_join config at leg account key m s) (new_participant at s.conference leg account) (meter_of s.conference.number at account) refl
    (party_meters (meter_of s.conference.number at account) leg) (meter_begins at s.conference.number account) refl refl (party_plain (meter_of s.conference.number at account) leg) p

after_adoption_books : (at : ℕ) (config : ConferenceConfigView) (leg : Released) (account : Option Account) (by : ℕ) (s : StepResult) → ArePlain s.conference.participants →
    Books at s (after_adoption config at leg account by s)
unfolding after_adoption
after_adoption_books at config leg account by s p =
    taken_books at s (after_adoption config at leg account by s) (adopted_participant at s.conference leg account by (token s.effects.output)) (meter_of s.conference.number at account) refl
    (party_meters (meter_of s.conference.number at account) (released_after_reinvite leg)) (meter_begins at s.conference.number account) refl refl
    (party_plain (meter_of s.conference.number at account) (released_after_reinvite leg)) p

step_if_access_books : (at : ℕ) (row : StepResult → StepResult) (r : Result ℕ RoomFault) (live : List Conference) (effects : Effects) → KeepsConferencesBooked at row → AllPlain live →
    Goes at live effects (step_if_access row r live effects)
step_if_access_books at row (Ok place) live effects k p = open_result_at_books at row place live effects k p
step_if_access_books at row (Err fault) live effects k p = unchanged_step_books at live effects effects refl p

step_of_join_books : (config : ConferenceConfigView) (room : ℕ) (c : JoinRequest) (table : Table) → AllPlain table.live → Goes c.at table.live (no_effects c.tokens) (step_on_join config room c table)
unfolding step_of_join
step_of_join_books config room c table p =
    step_if_access_books c.at (after_join config c.at c.leg c.account c.key c.invite) (access room table.live) table.live (no_effects c.tokens) (λ s q. after_join_books c.at config c.leg c.account c.key c.invite s q) p

adoption_books : (config : ConferenceConfigView) (room : ℕ) (a : Adoption) (table : Table) → AllPlain table.live → Goes a.at table.live (no_effects a.tokens) (step_on_adopt config room a table)
unfolding step_of_adoption
adoption_books config room a table p =
    step_if_access_books a.at (after_adoption config a.at a.leg a.account a.by) (access room table.live) table.live (no_effects a.tokens) (λ s q. after_adoption_books a.at config a.leg a.account a.by s q) p

-- a conference is opened
step_of_opening_books : (config : ConferenceConfigView) (c : JoinRequest) (table : Table) → Books c.at (begin (new_conference (next_room_number table)) (no_effects c.tokens)) (step_on_open config c table)
step_of_opening_books config c table = after_join_books c.at config c.leg c.account c.key c.invite (begin (new_conference (next_room_number table)) (no_effects c.tokens)) tt

no_effects_filed : (config : ConferenceConfigView) (c : JoinRequest) (table : Table) → (step_on_open config c table).effects.output.rows ≡ []
unfolding after_join
no_effects_filed config c table = refl

opens_charged : (config : ConferenceConfigView) (c : JoinRequest) (table : Table) → IsCharged c.at table (with_opened_conference (step_on_open config c table) table)
opens_charged config c table =
    let s : StepResult = step_on_open config c table in
    let e = step_of_opening_books config c table in
    let none : e.rows ≡ [] = sym e.filed ∙ no_effects_filed config c table in
    let within = booked_within c.at (running_meters table.live) [] [] (running_meters_of s.conference) e.rows e.booked in
    record {
      rows = [];
      filed = sym (append-nil table.rows);
      booked =
          subst (λ x. IsBooked c.at (running_meters table.live) (running_meters (table.live ++ s.conference ∷ [])) x) none
          (subst (λ x. IsBooked c.at (running_meters table.live) x e.rows) (sym (flat_among running_meters_of table.live s.conference []))
          (subst (λ x. IsBooked c.at x (running_meters table.live ++ (running_meters_of s.conference ++ [])) e.rows) (append-nil (running_meters table.live)) within));
    }

-- ---- NOTIFY

pub record IsSilentStep (live : List Conference) (before : Effects) (s : ConferenceStep) : Type 0 where
  pub filed : s.effects.output.rows ≡ before.output.rows
  pub runs_on : running_meters s.live ≡ running_meters live
  pub plain : AllPlain s.live

quiet_by : (place : ℕ) (room : Conference) (s : StepResult) (live : List Conference) (effects : Effects) → slice_get live place ≡ Some room → AllPlain live → IsQuiet (begin room effects) s →
    IsSilentStep live effects (open_result_by place s live)
quiet_by place room s live effects e p f =
    let x = round live place room e p in
    record { filed = f.filed; runs_on = x.put_runs s.conference ∙ ap (λ y. running_meters x.front ++ (y ++ running_meters x.back)) f.runs_on ∙ sym x.runs_in; plain = x.put_plain s.conference f.plain }

abbrev telling : ConferenceConfigView → (seat code : ℕ) → StepResult → StepResult
telling config seat code s = after_notify_to config (is_provisional code) (own_status code) seat s

telling_at : (config : ConferenceConfigView) (seat code : ℕ) (place : ℕ) (live : List Conference) (effects : Effects) → AllPlain live →
    IsSilentStep live effects (open_result_at (telling config seat code) place (slice_get live place) live effects)
telling_at config seat code place live effects p = by (slice_get live place) refl
  where
    by : (o : Option Conference) → slice_get live place ≡ o → IsSilentStep live effects (open_result_at (telling config seat code) place o live effects)
    by None e = record { filed = refl; runs_on = refl; plain = p }
    by (Some room) e =
        quiet_by place room (telling config seat code (begin room effects)) live effects e p
        (after_notify_to_quiet config (is_provisional code) (own_status code) seat (begin room effects) (round live place room e p).room_plain)

telling_in : (config : ConferenceConfigView) (seat code : ℕ) (o : Option ℕ) (live : List Conference) (effects : Effects) → AllPlain live →
    IsSilentStep live effects (open_result_in (telling config seat code) o live effects)
telling_in config seat code None live effects p = record { filed = refl; runs_on = refl; plain = p }
telling_in config seat code (Some place) live effects p = telling_at config seat code place live effects p

pub step_of_notify_quiet : (config : ConferenceConfigView) (room seat code : ℕ) (live : List Conference) (effects : Effects) → AllPlain live → IsSilentStep live effects (step_of_notify config room seat code live effects)
unfolding step_of_notify
step_of_notify_quiet config room seat code live effects p = telling_in config seat code (place_of room live) live effects p

-- ---- a participant leaves without a signal

record HandsBack (before after : List Conference) (answer : (at : ℕ) → Option Row) : Type 0 where
  pub front : List MeterView
  pub meter : Option MeterView
  pub back : List MeterView
  pub was : running_meters before ≡ among front meter back
  pub is : running_meters after ≡ front ++ back
  pub row : (at : ℕ) → answer at ≡ option_map (row_of_closed at) meter
  pub plain : AllPlain after

gives_none : (live : List Conference) → AllPlain live → HandsBack live live (λ at. None)
gives_none live p = record { front = running_meters live; meter = None; back = []; was = sym (append-nil (running_meters live)); is = sym (append-nil (running_meters live)); row = λ at. refl; plain = p }

row_is : (at : ℕ) (meter : Option MeterView) → row_by at meter ≡ option_map (row_of_closed at) meter
row_is at None = refl
row_is at (Some meter) = refl

-- in one conference
record HandsBackIn (room : Conference) (after : Conference) (answer : (at : ℕ) → Option Row) : Type 0 where
  pub front : List MeterView
  pub meter : Option MeterView
  pub back : List MeterView
  pub was : running_meters_of room ≡ among front meter back
  pub is : running_meters_of after ≡ front ++ back
  pub row : (at : ℕ) → answer at ≡ option_map (row_of_closed at) meter
  pub plain : ArePlain after.participants

in_none : (room : Conference) → ArePlain room.participants → HandsBackIn room room (λ at. None)
in_none room p = record { front = running_meters_of room; meter = None; back = []; was = sym (append-nil (running_meters_of room)); is = sym (append-nil (running_meters_of room)); row = λ at. refl; plain = p }

gives_seat : (place : ℕ) (seat : ParticipantState) (room : Conference) → slice_get room.participants place ≡ Some seat → ArePlain room.participants →
    HandsBackIn room (conference_without_at place (Some seat) room) (λ at. row_of_participant at (Some seat))
gives_seat place seat room e p = by (is_connected seat)
  where
    by : (b : Bool) → HandsBackIn room (if b then record room { participants = remove room.participants place } else room) (λ at. if b then row_by at (leg_of seat.party).meter else None)
    by true =
        let x = stands room.participants place seat e in
        record {
          front = running_meters_in x.front;
          meter = (leg_of seat.party).meter;
          back = running_meters_in x.back;
          was = ap running_meters_in x.whole ∙ flat_among meters_of x.front seat x.back;
          is = ap running_meters_in x.removed ∙ flat_without meters_of x.front x.back;
          row = λ at. row_is at (leg_of seat.party).meter;
          plain = plain_removed room.participants place seat e p;
        }
    by false = in_none room p

gives_at : (place : ℕ) (room : Conference) → ArePlain room.participants →
    HandsBackIn room (conference_without_at place (slice_get room.participants place) room) (λ at. row_of_participant at (slice_get room.participants place))
gives_at place room p = by (slice_get room.participants place) refl
  where
    by : (o : Option ParticipantState) → slice_get room.participants place ≡ o → HandsBackIn room (conference_without_at place o room) (λ at. row_of_participant at o)
    by None e = in_none room p
    by (Some seat) e = gives_seat place seat room e p

gives_in : (o : Option ℕ) (room : Conference) → ArePlain room.participants → HandsBackIn room (conference_without_in o room) (λ at. row_in at o room.participants)
gives_in None room p = in_none room p
gives_in (Some place) room p = gives_at place room p

-- among the other conferences
gives_room : (seat place : ℕ) (room : Conference) (live : List Conference) → slice_get live place ≡ Some room → AllPlain live →
    HandsBack live (slice_set live place (conference_without_seat seat room)) (λ at. row_in_conference at seat (Some room))
gives_room seat place room live e p =
    let x = round live place room e p in
    let g = gives_in (seats.place_of seat room.participants) room x.room_plain in
    record {
      front = running_meters x.front ++ g.front;
      meter = g.meter;
      back = g.back ++ running_meters x.back;
      was = x.runs_in ∙ ap (λ y. running_meters x.front ++ (y ++ running_meters x.back)) g.was ∙ beside (running_meters x.front) (running_meters x.back) g.front g.back g.meter;
      is = x.put_runs (conference_without_seat seat room) ∙ ap (λ y. running_meters x.front ++ (y ++ running_meters x.back)) g.is ∙ simp append_assoc refl;
      row = g.row;
      plain = x.put_plain (conference_without_seat seat room) g.plain;
    }

gives_place : (seat place : ℕ) (live : List Conference) → AllPlain live → HandsBack live (conferences_without_seat seat place (slice_get live place) live) (λ at. row_in_conference at seat (slice_get live place))
gives_place seat place live p = by (slice_get live place) refl
  where
    by : (o : Option Conference) → slice_get live place ≡ o → HandsBack live (conferences_without_seat seat place o live) (λ at. row_in_conference at seat o)
    by None e = gives_none live p
    by (Some room) e = gives_room seat place room live e p

gives_by : (seat : ℕ) (o : Option ℕ) (live : List Conference) → AllPlain live → HandsBack live (conferences_without_seat_at seat o live) (λ at. row_in_conference at seat (conference_at o live))
gives_by seat None live p = gives_none live p
gives_by seat (Some place) live p = gives_place seat place live p

gives : (room seat : ℕ) (live : List Conference) → AllPlain live → HandsBack live (conferences_after_leave room seat live) (λ at. row_of_leave at room seat live)
unfolding conferences_after_leave row_of_leave
gives room seat live p = gives_by seat (place_of room live) live p

-- ---- a conference is closed without a signal

record HandsBackAll (before after : List Conference) (meters : List MeterView) : Type 0 where
  pub front : List MeterView
  pub back : List MeterView
  pub was : running_meters before ≡ front ++ (meters ++ back)
  pub is : running_meters after ≡ front ++ back
  pub plain : AllPlain after

gives_all_none : (live : List Conference) → AllPlain live → HandsBackAll live live []
gives_all_none live p = record { front = running_meters live; back = []; was = sym (append-nil (running_meters live)); is = sym (append-nil (running_meters live)); plain = p }

meters_are : (all : List ParticipantState) → meters_in (map ended_leg all) ≡ running_meters_in all
meters_are [] = refl
meters_are (seat ∷ all) = ap (λ x. meters_of seat ++ x) (meters_are all)

no_effects_there : (xs : List Conference) (n : ℕ) → slice_get xs n ≡ None → remove xs n ≡ xs
no_effects_there [] zero e = refl
no_effects_there [] (suc n) e = refl
no_effects_there (x ∷ xs) zero e = absurd cc
no_effects_there (x ∷ xs) (suc n) e = ap (λ y. x ∷ y) (no_effects_there xs n e)

conferences_after_close_books_at : (place : ℕ) (live : List Conference) → AllPlain live → HandsBackAll live (remove live place) (meters_in (map ended_leg (participants_in (slice_get live place))))
conferences_after_close_books_at place live p = by (slice_get live place) refl
  where
    by : (o : Option Conference) → slice_get live place ≡ o → HandsBackAll live (remove live place) (meters_in (map ended_leg (participants_in o)))
    by (Some room) e =
        let x = round live place room e p in
        record {
          front = running_meters x.front;
          back = running_meters x.back;
          was = x.runs_in ∙ ap (λ y. running_meters x.front ++ (y ++ running_meters x.back)) (sym (meters_are room.participants));
          is = x.gone_runs;
          plain = x.gone_plain;
        }
    by None e = subst (λ x. HandsBackAll live x []) (sym (no_effects_there live place e)) (gives_all_none live p)

conferences_after_close_by : (o : Option ℕ) (live : List Conference) → AllPlain live → HandsBackAll live (conferences_without o live) (meters_in (map ended_leg (participants_in (conference_at o live))))
conferences_after_close_by None live p = gives_all_none live p
conferences_after_close_by (Some place) live p = conferences_after_close_books_at place live p

closes_all : (room : ℕ) (live : List Conference) → AllPlain live → HandsBackAll live (conferences_after_close room live) (meters_in (ended_legs room live))
unfolding conferences_after_close
closes_all room live p = conferences_after_close_by (place_of room live) live p

-- ---- each operation

moved_charged : (at : ℕ) (table later : Table) (tokens : TokensView) (after : Effects) → later.rows ≡ table.rows ++ after.output.rows → Moves at table.live (no_effects tokens) later.live after → IsCharged at table later
moved_charged at table later tokens after e f = record { rows = f.rows; filed = e ∙ ap (λ x. table.rows ++ x) f.filed; booked = f.booked }

booked_op : (config : ConferenceConfigView) (op : TableOp) (table : Table) → AllPlain table.live → IsBookedOp op table (table_after_op config op table) × AllPlain (table_after_op config op table).live
booked_op config (Opens c) table p = (opens_charged config c table, all_joined table.live ((step_on_open config c table).conference ∷ []) p ((step_of_opening_books config c table).plain, tt))
booked_op config (Joins room c) table p =
    let moves = step_of_join_books config room c table p in (moved_charged c.at table (table_after_op config (Joins room c) table) c.tokens (step_on_join config room c table).effects refl moves, moves.plain)
booked_op config (Adopts room a) table p =
    let moves = adoption_books config room a table p in (moved_charged a.at table (table_after_op config (Adopts room a) table) a.tokens (step_on_adopt config room a table).effects refl moves, moves.plain)
booked_op config (Notifies room seat code tokens) table p =
    let quiet = step_of_notify_quiet config room seat code table.live (no_effects tokens) p in
    (record { filed = ap (λ x. table.rows ++ x) quiet.filed ∙ append-nil table.rows; runs_on = quiet.runs_on }, quiet.plain)
booked_op config (Receives x) table p =
    let moves = signal_books x.at config x.signal table.live table.abandoned (no_effects x.tokens) refl p in
    (moved_charged x.at table (table_after_op config (Receives x) table) x.tokens (step_on_receive config x table).effects refl moves, moves.plain)
booked_op config (Leaves room seat) table p =
    let g = gives room seat table.live p in (record { front = g.front; meter = g.meter; back = g.back; filed = refl; old = g.was; new = g.is; row = g.row }, g.plain)
booked_op config (Closes room) table p =
    let g = closes_all room table.live p in (record { front = g.front; back = g.back; filed = refl; old = g.was; new = g.is }, g.plain)
booked_op config (Drops count) table p = (record { remaining = refl; runs_on = refl }, p)

-- ---- whatever was done before

pub always_plain : (config : ConferenceConfigView) (ops : List TableOp) → AllPlain (table_after config ops).live
always_plain config [] = tt
always_plain config (op ∷ ops) = (booked_op config op (table_after config ops) (always_plain config ops)).1

pub ops_charged : OperationsAreCharged
ops_charged config ops op = (booked_op config op (table_after config ops) (always_plain config ops)).0
