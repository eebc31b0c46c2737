-- What a step of a conference enters in the ledger: how a participant is changed, leaves, and is added.
use Rattle.std.proofs.Common.{◌≡◌, Bool, true, false, ℕ, List, [], ◌∷◌, ◌++◌, Option, Some, None, ◌⊎◌, inl, inr, ◌∙◌, refl, sym, ap, subst, append_assoc}
use Rattle.std.specs.Prelude.{IfSome, codes, if◌then◌else◌, option_to_list, slice_get, slice_set}
use Rattle.std.specs.List.{remove}
use Rattle.std.proofs.lemmas.List.{append-nil}
use Rattle.mmtel_charging.specs.Meters.{MeterView}
use Rattle.mmtel_charging.specs.declared.rows.Row.{Row}
use Rattle.mmtel_output.specs.Sending.{with_bye}
use Rattle.mmtel_output.specs.declared.outputs.StepOutput.{StepOutput}
use Rattle.mmtel_leg.specs.Dialogues.{after_request}
use Rattle.mmtel_leg.specs.Legs.{Leg, with_dialogue}
use Rattle.mmtel_types.specs.declared.numbers.RoomNo.{RoomNo}
use Rattle.mmtel_types.specs.declared.numbers.Account.{Account}
use Rattle.mmtel_focus.specs.Conferences.{StepResult, with_output}
use Rattle.mmtel_focus.specs.Participants.{after_close, after_close_with, after_dismissal, after_leave, after_notify, after_notify_referrer, after_notify_to, at_participant, at_place}
use Rattle.mmtel_focus.specs.Participants.{by_participant, dialogue_of, effects_of_dismissal, effects_of_leave, is_connected, is_creator, leg_of, meter_of, participant_after_bye}
use Rattle.mmtel_focus.specs.Participants.{participant_after_notify, party_after_notify, place_of, with_leg, with_notify_to_party, with_participant, with_row_of_meter, without_participant_at}
use Rattle.mmtel_focus.specs.ConferenceConfig.{ConferenceConfigView}
use Rattle.mmtel_participants.specs.declared.effects.Effects.{Effects}
use Rattle.mmtel_participants.specs.declared.participants.Party.{Party}
use Rattle.mmtel_participants.specs.declared.participants.Party.TheVariants.{DialedIn, DialedOut, Invited}
use Rattle.mmtel_participants.specs.declared.participants.ParticipantState.{ParticipantState}
use Rattle.mmtel_focus_theorems.specs.Charging.{IsBooked, IsStarted, among, meters_of, rows_of_closed, running_meters_in, running_meters_of}
use Rattle.mmtel_focus_theorems.proofs.Books.{booked_begun, booked_closed, booked_same, booked_then, flat_among, flat_without, stands}

-- ---- an invited party has no meter yet

abbrev pub IsPlain : Party → Type 0
IsPlain (Invited leg) = leg.meter ≡ None
IsPlain (DialedIn leg) = Unit {0}
IsPlain (DialedOut leg) = Unit {0}

abbrev pub ArePlain : List ParticipantState → Type 0
ArePlain [] = Unit {0}
ArePlain (seat ∷ seats) = IsPlain seat.party × ArePlain seats

plain_joined : (xs ys : List ParticipantState) → ArePlain xs → ArePlain ys → ArePlain (xs ++ ys)
plain_joined [] ys e f = f
plain_joined (x ∷ xs) ys e f = (e.0, plain_joined xs ys e.1 f)

plain_parts : (xs ys : List ParticipantState) → ArePlain (xs ++ ys) → ArePlain xs × ArePlain ys
plain_parts [] ys e = (tt, e)
plain_parts (x ∷ xs) ys e = let rest = plain_parts xs ys e.1 in ((e.0, rest.0), rest.1)

pub plain_there : (seats : List ParticipantState) (place : ℕ) (seat : ParticipantState) → slice_get seats place ≡ Some seat → ArePlain seats → IsPlain seat.party
plain_there seats place seat e p = let x = stands seats place seat e in (plain_parts x.front (seat ∷ x.back) (subst ArePlain x.whole p)).1.0

plain_put : (seats : List ParticipantState) (place : ℕ) (seat other : ParticipantState) → slice_get seats place ≡ Some seat → IsPlain other.party → ArePlain seats → ArePlain (slice_set seats place other)
plain_put seats place seat other e f p =
    let x = stands seats place seat e in
    let parts = plain_parts x.front (seat ∷ x.back) (subst ArePlain x.whole p) in
    subst ArePlain (sym (x.put other)) (plain_joined x.front (other ∷ x.back) parts.0 (f, parts.1.1))

pub plain_removed : (seats : List ParticipantState) (place : ℕ) (seat : ParticipantState) → slice_get seats place ≡ Some seat → ArePlain seats → ArePlain (remove seats place)
plain_removed seats place seat e p =
    let x = stands seats place seat e in
    let parts = plain_parts x.front (seat ∷ x.back) (subst ArePlain x.whole p) in
    subst ArePlain (sym x.removed) (plain_joined x.front x.back parts.0 parts.1.1)

-- ---- from one step to another, where the conference stays open

pub record Books (at : ℕ) (s t : StepResult) : Type 0 where
  pub rows : List Row
  pub filed : t.effects.output.rows ≡ s.effects.output.rows ++ rows
  pub booked : IsBooked at (running_meters_of s.conference) (running_meters_of t.conference) rows
  pub still : t.effects.closes ≡ s.effects.closes
  pub plain : ArePlain t.conference.participants

-- where it stays open, or closes without participants
pub record Ends (at : ℕ) (s t : StepResult) : Type 0 where
  pub rows : List Row
  pub filed : t.effects.output.rows ≡ s.effects.output.rows ++ rows
  pub booked : IsBooked at (running_meters_of s.conference) (running_meters_of t.conference) rows
  pub ends : (t.effects.closes ≡ s.effects.closes) ⊎ (t.conference.participants ≡ [])
  pub plain : ArePlain t.conference.participants

pub goes_on : (at : ℕ) (s t : StepResult) → Books at s t → Ends at s t
goes_on at s t e = record { rows = e.rows; filed = e.filed; booked = e.booked; ends = inl e.still; plain = e.plain }

-- ---- nothing is entered in the ledger

pub same : (at : ℕ) (s t : StepResult) → t.effects.output.rows ≡ s.effects.output.rows → running_meters_of t.conference ≡ running_meters_of s.conference → t.effects.closes ≡ s.effects.closes →
    ArePlain t.conference.participants → Books at s t
same at s t e f g p = record { rows = []; filed = e ∙ sym (append-nil s.effects.output.rows); booked = booked_same at (running_meters_of s.conference) (running_meters_of t.conference) f; still = g; plain = p }

pub stays : (at : ℕ) (s : StepResult) → ArePlain s.conference.participants → Books at s s
stays at s p = same at s s refl refl refl p

pub books_then : (at : ℕ) (s t u : StepResult) → Books at s t → Books at t u → Books at s u
books_then at s t u e f = record {
  rows = e.rows ++ f.rows;
  filed = f.filed ∙ ap (λ x. x ++ f.rows) e.filed ∙ append_assoc s.effects.output.rows e.rows f.rows;
  booked = booked_then at (running_meters_of s.conference) (running_meters_of t.conference) (running_meters_of u.conference) e.rows f.rows e.booked f.booked;
  still = f.still ∙ e.still;
  plain = f.plain;
}

pub ends_then : (at : ℕ) (s t u : StepResult) → Books at s t → Ends at t u → Ends at s u
ends_then at s t u e f = record {
  rows = e.rows ++ f.rows;
  filed = f.filed ∙ ap (λ x. x ++ f.rows) e.filed ∙ append_assoc s.effects.output.rows e.rows f.rows;
  booked = booked_then at (running_meters_of s.conference) (running_meters_of t.conference) (running_meters_of u.conference) e.rows f.rows e.booked f.booked;
  ends = by f.ends;
  plain = f.plain;
}
  where
    by : (u.effects.closes ≡ t.effects.closes) ⊎ (u.conference.participants ≡ []) → (u.effects.closes ≡ s.effects.closes) ⊎ (u.conference.participants ≡ [])
    by (inl g) = inl (g ∙ e.still)
    by (inr g) = inr g

-- messages alone are sent
pub says : (at : ℕ) (s : StepResult) (output : StepOutput) → output.rows ≡ s.effects.output.rows → ArePlain s.conference.participants → Books at s (with_output output s)
says at s output e p = same at s (with_output output s) e refl refl p

pub books_if : (at : ℕ) (b : Bool) (s t u : StepResult) → Books at s t → Books at s u → Books at s (if b then t else u)
books_if at true s t u e f = e
books_if at false s t u e f = f

pub ends_if : (at : ℕ) (b : Bool) (s t u : StepResult) → Ends at s t → Ends at s u → Ends at s (if b then t else u)
ends_if at true s t u e f = e
ends_if at false s t u e f = f

-- ---- a transition, at the place of its participant

abbrev pub KeepsBooks : (at : ℕ) → (row : (place : ℕ) → ParticipantState → StepResult → StepResult) → Type 0
KeepsBooks at row = (place : ℕ) (seat : ParticipantState) (s : StepResult) → slice_get s.conference.participants place ≡ Some seat → ArePlain s.conference.participants → Books at s (row place seat s)

pub books_at_seat : (at : ℕ) (row : (place : ℕ) → ParticipantState → StepResult → StepResult) → KeepsBooks at row → (place : ℕ) (s : StepResult) → ArePlain s.conference.participants →
    Books at s (at_participant row place s)
books_at_seat at row k place s p = by (slice_get s.conference.participants place) refl
  where
    by : (o : Option ParticipantState) → slice_get s.conference.participants place ≡ o → Books at s (by_participant (row place) o s)
    by None e = stays at s p
    by (Some seat) e = k place seat s e p

pub books_at_place : (at : ℕ) (row : (place : ℕ) → ParticipantState → StepResult → StepResult) → KeepsBooks at row → (o : Option ℕ) (s : StepResult) → ArePlain s.conference.participants → Books at s (at_place row o s)
books_at_place at row k None s p = stays at s p
books_at_place at row k (Some place) s p = books_at_seat at row k place s p

-- the same of a transition in which the conference may close
abbrev pub EndsBooks : (at : ℕ) → (row : (place : ℕ) → ParticipantState → StepResult → StepResult) → Type 0
EndsBooks at row = (place : ℕ) (seat : ParticipantState) (s : StepResult) → slice_get s.conference.participants place ≡ Some seat → ArePlain s.conference.participants → Ends at s (row place seat s)

pub ends_at_seat : (at : ℕ) (row : (place : ℕ) → ParticipantState → StepResult → StepResult) → EndsBooks at row → (place : ℕ) (s : StepResult) → ArePlain s.conference.participants → Ends at s (at_participant row place s)
ends_at_seat at row k place s p = by (slice_get s.conference.participants place) refl
  where
    by : (o : Option ParticipantState) → slice_get s.conference.participants place ≡ o → Ends at s (by_participant (row place) o s)
    by None e = goes_on at s s (stays at s p)
    by (Some seat) e = k place seat s e p

pub ends_at_place : (at : ℕ) (row : (place : ℕ) → ParticipantState → StepResult → StepResult) → EndsBooks at row → (o : Option ℕ) (s : StepResult) → ArePlain s.conference.participants → Ends at s (at_place row o s)
ends_at_place at row k None s p = goes_on at s s (stays at s p)
ends_at_place at row k (Some place) s p = ends_at_seat at row k place s p

-- ---- a participant is changed

pub with_participant_runs : (seats : List ParticipantState) (place : ℕ) (seat other : ParticipantState) → slice_get seats place ≡ Some seat → meters_of other ≡ meters_of seat →
    running_meters_in (slice_set seats place other) ≡ running_meters_in seats
with_participant_runs seats place seat other e f =
    let x = stands seats place seat e in
    ap running_meters_in (x.put other) ∙ flat_among meters_of x.front other x.back ∙ ap (λ m. running_meters_in x.front ++ (m ++ running_meters_in x.back)) f
    ∙ sym (flat_among meters_of x.front seat x.back) ∙ sym (ap running_meters_in x.whole)

pub with_participant_books : (at : ℕ) (place : ℕ) (seat other : ParticipantState) (s : StepResult) → slice_get s.conference.participants place ≡ Some seat → meters_of other ≡ meters_of seat →
    IsPlain other.party → ArePlain s.conference.participants → Books at s (with_participant place other s)
with_participant_books at place seat other s e f g p =
    same at s (with_participant place other s) refl (with_participant_runs s.conference.participants place seat other e f) refl (plain_put s.conference.participants place seat other e g p)

-- its meter begins
pub begun_books : (at : ℕ) (place : ℕ) (seat other : ParticipantState) (s : StepResult) (meter : Option MeterView) → slice_get s.conference.participants place ≡ Some seat → meters_of seat ≡ [] →
    meters_of other ≡ option_to_list meter → IfSome meter (IsStarted at) → IsPlain other.party → ArePlain s.conference.participants → Books at s (with_participant place other s)
begun_books at place seat other s meter e f g is h p =
    let x = stands s.conference.participants place seat e in
    let before : running_meters_of s.conference ≡ running_meters_in x.front ++ running_meters_in x.back =
    ap running_meters_in x.whole ∙ flat_among meters_of x.front seat x.back ∙ ap (λ m. running_meters_in x.front ++ (m ++ running_meters_in x.back)) f in
    let after : running_meters_of (with_participant place other s).conference ≡ among (running_meters_in x.front) meter (running_meters_in x.back) =
    ap running_meters_in (x.put other) ∙ flat_among meters_of x.front other x.back ∙ ap (λ m. running_meters_in x.front ++ (m ++ running_meters_in x.back)) g in
    record {
      rows = [];
      filed = sym (append-nil s.effects.output.rows);
      booked = subst (λ y. IsBooked at y (running_meters_of (with_participant place other s).conference) []) (sym before)
          (subst (λ y. IsBooked at (running_meters_in x.front ++ running_meters_in x.back) y []) (sym after) (booked_begun at (running_meters_in x.front) (running_meters_in x.back) meter is));
      still = refl;
      plain = plain_put s.conference.participants place seat other e h p;
    }

-- ---- a participant leaves

pub filed_rows : (at : ℕ) (meter : Option MeterView) (output : StepOutput) → (with_row_of_meter at meter output).rows ≡ output.rows ++ rows_of_closed at meter
filed_rows at None output = sym (append-nil output.rows)
filed_rows at (Some meter) output = refl

-- with these effects
gone_books : (at : ℕ) (place : ℕ) (seat : ParticipantState) (s : StepResult) (e : Effects) → slice_get s.conference.participants place ≡ Some seat →
    e.output.rows ≡ s.effects.output.rows ++ rows_of_closed at (leg_of seat.party).meter → e.closes ≡ s.effects.closes → ArePlain s.conference.participants →
    Books at s (record (without_participant_at place s) { effects = e })
gone_books at place seat s e is filed still p =
    let x = stands s.conference.participants place seat is in
    let meter : Option MeterView = (leg_of seat.party).meter in
    let before : running_meters_of s.conference ≡ among (running_meters_in x.front) meter (running_meters_in x.back) = ap running_meters_in x.whole ∙ flat_among meters_of x.front seat x.back in
    let after : running_meters_in (remove s.conference.participants place) ≡ running_meters_in x.front ++ running_meters_in x.back = ap running_meters_in x.removed ∙ flat_without meters_of x.front x.back in
    record {
      rows = rows_of_closed at meter;
      filed = filed;
      booked = subst (λ y. IsBooked at y (running_meters_in (remove s.conference.participants place)) (rows_of_closed at meter)) (sym before)
          (subst (λ y. IsBooked at (among (running_meters_in x.front) meter (running_meters_in x.back)) y (rows_of_closed at meter)) (sym after)
          (booked_closed at (running_meters_in x.front) (running_meters_in x.back) meter));
      still = still;
      plain = plain_removed s.conference.participants place seat is p;
    }

pub after_leave_books : (at : ℕ) (had_bye : Bool) → KeepsBooks at (after_leave at had_bye)
after_leave_books at had_bye place seat s is p = gone_books at place seat s (effects_of_leave at had_bye seat s.effects) is (filed_rows at (leg_of seat.party).meter s.effects.output) refl p

pub same_leg_meter : (party : Party) (leg : Leg) → leg.meter ≡ (leg_of party).meter → (leg_of (with_leg leg party)).meter ≡ (leg_of party).meter
same_leg_meter (Invited before) leg e = e
same_leg_meter (DialedIn before) leg e = e
same_leg_meter (DialedOut before) leg e = e

-- with the same dialog or another one, and the same meter
pub same_meter : (party : Party) (leg : Leg) → leg.meter ≡ (leg_of party).meter → option_to_list (leg_of (with_leg leg party)).meter ≡ option_to_list (leg_of party).meter
same_meter party leg e = ap option_to_list (same_leg_meter party leg e)

-- as another participant, with the same party
pub after_dismissal_as : (at : ℕ) (config : ConferenceConfigView) (place : ℕ) (seat other : ParticipantState) (s : StepResult) → slice_get s.conference.participants place ≡ Some seat →
    other.party ≡ seat.party → ArePlain s.conference.participants → Books at s (after_dismissal config at place other s)
after_dismissal_as at config place seat other s is e p = gone_books at place seat s (effects_of_dismissal config at other s.effects) is
    (rows_by (is_connected other) ∙ ap (λ x. s.effects.output.rows ++ rows_of_closed at (leg_of x).meter) e) (closes_by (is_connected other)) p
  where
    leg : Leg
    leg = with_dialogue (leg_of other.party) (after_request (dialogue_of other) (codes "BYE"))

    output : StepOutput
    output = with_bye config.sip (dialogue_of other) s.effects.output

    by : Bool → Effects
    by b = if b then effects_of_leave at true (participant_after_bye other) (record s.effects { output = output }) else effects_of_leave at false other s.effects

    rows_by : (b : Bool) → (by b).output.rows ≡ s.effects.output.rows ++ rows_of_closed at (leg_of other.party).meter
    rows_by true = ap (λ m. (with_row_of_meter at m output).rows) (same_leg_meter other.party leg refl) ∙ filed_rows at (leg_of other.party).meter output
    rows_by false = filed_rows at (leg_of other.party).meter s.effects.output

    closes_by : (b : Bool) → (by b).closes ≡ s.effects.closes
    closes_by true = refl
    closes_by false = refl

pub after_dismissal_books : (at : ℕ) (config : ConferenceConfigView) → KeepsBooks at (after_dismissal config at)
after_dismissal_books at config place seat s is p = after_dismissal_as at config place seat seat s is refl p

-- ---- a conference closes

pub after_close_books : (at : ℕ) (config : ConferenceConfigView) (seats : List ParticipantState) (s : StepResult) → s.conference.participants ≡ seats → ArePlain s.conference.participants →
    Ends at s (after_close config at seats s)
unfolding after_close
after_close_books at config [] s e p =
    record { rows = []; filed = sym (append-nil s.effects.output.rows); booked = booked_same at (running_meters_of s.conference) (running_meters_of s.conference) refl; ends = inr e; plain = p }
after_close_books at config (seat ∷ seats) s e p =
    let next : StepResult = after_dismissal config at 0 seat s in
    let first = after_dismissal_books at config 0 seat s (subst (λ x. slice_get x 0 ≡ Some seat) (sym e) refl) p in
    ends_then at s next (after_close config at seats next) first (after_close_books at config seats next (ap (λ x. remove x 0) e) first.plain)

pub after_close_with_books : (at : ℕ) (config : ConferenceConfigView) (number : ℕ) (s : StepResult) → ArePlain s.conference.participants → Ends at s (after_close_with config at number s)
after_close_with_books at config number s p =
    ends_if at (is_creator number) s (after_close config at s.conference.participants s) s (after_close_books at config s.conference.participants s refl p) (goes_on at s s (stays at s p))

-- ---- NOTIFY

pub notified_rows : (config : ConferenceConfigView) (room : RoomNo) (on : Bool) (line : List ℕ) (party : Party) (output : StepOutput) → (with_notify_to_party config room on line party output).rows ≡ output.rows
notified_rows config room on line (Invited leg) output = refl
notified_rows config room on line (DialedIn leg) output = refl
notified_rows config room on line (DialedOut leg) output = refl

after_notify_meters : (party : Party) → (leg_of (party_after_notify party)).meter ≡ (leg_of party).meter
after_notify_meters (Invited leg) = refl
after_notify_meters (DialedIn leg) = refl
after_notify_meters (DialedOut leg) = refl

after_notify_plain : (party : Party) → IsPlain party → IsPlain (party_after_notify party)
after_notify_plain (Invited leg) e = e
after_notify_plain (DialedIn leg) e = tt
after_notify_plain (DialedOut leg) e = tt

-- no meter begins and none ends
pub record IsQuiet (s t : StepResult) : Type 0 where
  pub filed : t.effects.output.rows ≡ s.effects.output.rows
  pub runs_on : running_meters_of t.conference ≡ running_meters_of s.conference
  pub still : t.effects.closes ≡ s.effects.closes
  pub plain : ArePlain t.conference.participants

after_notify_quiet : (config : ConferenceConfigView) (on : Bool) (line : List ℕ) (place : ℕ) (seat : ParticipantState) (s : StepResult) → slice_get s.conference.participants place ≡ Some seat →
    ArePlain s.conference.participants → IsQuiet s (after_notify config on line place seat s)
after_notify_quiet config on line place seat s e p = record {
  filed = notified_rows config s.conference.number on line seat.party s.effects.output;
  runs_on = with_participant_runs s.conference.participants place seat (participant_after_notify seat) e (ap option_to_list (after_notify_meters seat.party));
  still = refl;
  plain = plain_put s.conference.participants place seat (participant_after_notify seat) e (after_notify_plain seat.party (plain_there s.conference.participants place seat e p)) p;
}

participant_after_notify_quiet : (config : ConferenceConfigView) (on : Bool) (line : List ℕ) (place : ℕ) (s : StepResult) → ArePlain s.conference.participants →
    IsQuiet s (at_participant (after_notify config on line) place s)
participant_after_notify_quiet config on line place s p = by (slice_get s.conference.participants place) refl
  where
    by : (o : Option ParticipantState) → slice_get s.conference.participants place ≡ o → IsQuiet s (by_participant (after_notify config on line place) o s)
    by None e = record { filed = refl; runs_on = refl; still = refl; plain = p }
    by (Some seat) e = after_notify_quiet config on line place seat s e p

after_notify_place_quiet : (config : ConferenceConfigView) (on : Bool) (line : List ℕ) (o : Option ℕ) (s : StepResult) → ArePlain s.conference.participants → IsQuiet s (at_place (after_notify config on line) o s)
after_notify_place_quiet config on line None s p = record { filed = refl; runs_on = refl; still = refl; plain = p }
after_notify_place_quiet config on line (Some place) s p = participant_after_notify_quiet config on line place s p

pub after_notify_to_quiet : (config : ConferenceConfigView) (on : Bool) (line : List ℕ) (number : ℕ) (s : StepResult) → ArePlain s.conference.participants → IsQuiet s (after_notify_to config on line number s)
after_notify_to_quiet config on line number s p = after_notify_place_quiet config on line (place_of number s.conference.participants) s p

pub after_notify_to_books : (at : ℕ) (config : ConferenceConfigView) (on : Bool) (line : List ℕ) (number : ℕ) (s : StepResult) → ArePlain s.conference.participants → Books at s (after_notify_to config on line number s)
after_notify_to_books at config on line number s p =
    let quiet = after_notify_to_quiet config on line number s p in
    same at s (after_notify_to config on line number s) quiet.filed quiet.runs_on quiet.still quiet.plain

pub after_notify_referrer_books : (at : ℕ) (config : ConferenceConfigView) (on : Bool) (line : List ℕ) (by : Option ℕ) (s : StepResult) → ArePlain s.conference.participants →
    Books at s (after_notify_referrer config on line by s)
after_notify_referrer_books at config on line None s p = stays at s p
after_notify_referrer_books at config on line (Some number) s p = after_notify_to_books at config on line number s p

-- ---- a participant is added

pub meter_begins : (at : ℕ) (room : RoomNo) (account : Option Account) → IfSome (meter_of room at account) (IsStarted at)
meter_begins at room None = tt
meter_begins at room (Some account) = record { kind = refl; began = refl; answered = refl }

-- it is the last of the list; an invited party has no meter yet
pub taken_books : (at : ℕ) (s t : StepResult) (seat : ParticipantState) (meter : Option MeterView) → t.conference.participants ≡ s.conference.participants ++ seat ∷ [] →
    meters_of seat ≡ option_to_list meter → IfSome meter (IsStarted at) →
    t.effects.output.rows ≡ s.effects.output.rows → t.effects.closes ≡ s.effects.closes → IsPlain seat.party → ArePlain s.conference.participants → Books at s t
taken_books at s t seat meter e f is filed still g p = record {
  rows = [];
  filed = filed ∙ sym (append-nil s.effects.output.rows);
  booked =
      let after : running_meters_of t.conference ≡ among (running_meters_of s.conference) meter [] =
      ap running_meters_in e ∙ flat_among meters_of s.conference.participants seat [] ∙ ap (λ m. running_meters_of s.conference ++ (m ++ [])) f in
      subst (λ x. IsBooked at x (running_meters_of t.conference) []) (append-nil (running_meters_of s.conference))
      (subst (λ x. IsBooked at (running_meters_of s.conference ++ []) x []) (sym after) (booked_begun at (running_meters_of s.conference) [] meter is));
  still = still;
  plain = subst ArePlain (sym e) (plain_joined s.conference.participants (seat ∷ []) p (g, tt));
}
