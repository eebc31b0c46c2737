-- The charging of conferences, as a ledger (TS 32.260 §5): the meters that run; a meter that begins when a participant is connected; and a meter that is closed by one CDR when a
-- participant leaves.
use Rattle.std.specs.Prelude.{◌≡◌, ℕ, List, [], ◌∷◌, ◌++◌, Option, Some, IfSome, drop, option_to_list}
use Rattle.std.specs.List.{flat_map}
use Rattle.std.specs.Option.{option_map}
use Rattle.mmtel_charging.specs.Meters.{MeterView, row_of_meter}
use Rattle.mmtel_charging.specs.declared.rows.Kind.TheVariants.{Participant}
use Rattle.mmtel_charging.specs.declared.rows.Row.{Row}
use Rattle.mmtel_leg.specs.declared.legs.Ended.{Ended}
use Rattle.mmtel_types.specs.declared.causes.Cause.TheVariants as causes
use Rattle.mmtel_focus.specs.Operations.{TableOp, Opens, Joins, Adopts, Notifies, Receives, Leaves, Closes, Drops, table_after}
use Rattle.mmtel_focus.specs.Queries.{ended_legs}
use Rattle.mmtel_focus.specs.Conferences.{Conference}
use Rattle.mmtel_participants.specs.declared.participants.ParticipantState.{ParticipantState}
use Rattle.mmtel_focus.specs.Participants.{leg_of}
use Rattle.mmtel_focus.specs.ConferenceConfig.{ConferenceConfigView}
use Rattle.mmtel_focus.specs.Table.{Table, row_of_leave}

-- ---- the meters that run, in the order of conferences and of their participants

abbrev pub meters_of : ParticipantState → List MeterView
meters_of seat = option_to_list (leg_of seat.party).meter

abbrev pub running_meters_in : List ParticipantState → List MeterView
running_meters_in seats = flat_map meters_of seats

abbrev pub running_meters_of : Conference → List MeterView
running_meters_of room = running_meters_in room.participants

abbrev pub running_meters : List Conference → List MeterView
running_meters live = flat_map running_meters_of live

-- ---- an entry of the ledger: at most one meter is closed and at most one begins, and those before and after it run on

pub record BookEntry : Type 0 where
  pub front : List MeterView
  pub closed : Option MeterView
  pub started : Option MeterView
  pub back : List MeterView

abbrev pub among : (front : List MeterView) → Option MeterView → (back : List MeterView) → List MeterView
among front meter back = front ++ (option_to_list meter ++ back)

-- the CDR of a meter that is closed: it counts no holds, and its cause is the normal end
abbrev pub row_of_closed : (at : ℕ) → MeterView → Row
row_of_closed at meter = row_of_meter meter at 0 causes.Ended

abbrev pub rows_of_closed : (at : ℕ) → Option MeterView → List Row
rows_of_closed at meter = option_to_list (option_map (row_of_closed at) meter)

-- a participant's meter that begins at this moment, and is answered then
pub record IsStarted (at : ℕ) (meter : MeterView) : Type 0 where
  pub kind : meter.kind ≡ Participant
  pub began : meter.began ≡ at
  pub answered : meter.answered ≡ Some at

-- by these entries, one after another, the meters before become those after, and these CDRs are filed
abbrev pub Follows : (at : ℕ) → (before : List MeterView) → List BookEntry → (after : List MeterView) → (rows : List Row) → Type 0
Follows at before [] after rows = (after ≡ before) × (rows ≡ [])
Follows at before (e ∷ entries) after rows =
    (later : List Row) × (rows ≡ rows_of_closed at e.closed ++ later) × (before ≡ among e.front e.closed e.back) × IfSome e.started (IsStarted at)
    × Follows at (among e.front e.started e.back) entries after later

-- all that is filed at this moment is in the ledger
pub record IsBooked (at : ℕ) (before after : List MeterView) (rows : List Row) : Type 0 where
  pub entries : List BookEntry
  pub follows : Follows at before entries after rows

-- ---- operations

-- the CDRs that an operation files are appended to those that wait
pub record IsCharged (at : ℕ) (before after : Table) : Type 0 where
  pub rows : List Row
  pub filed : after.rows ≡ before.rows ++ rows
  pub booked : IsBooked at (running_meters before.live) (running_meters after.live) rows

-- no meter begins, and none ends
pub record IsUncharged (before after : Table) : Type 0 where
  pub filed : after.rows ≡ before.rows
  pub runs_on : running_meters after.live ≡ running_meters before.live

-- a participant leaves without a signal: its CDR is handed back
pub record IsHandedBack (before after : Table) (answer : (at : ℕ) → Option Row) : Type 0 where
  pub front : List MeterView
  pub meter : Option MeterView
  pub back : List MeterView
  pub filed : after.rows ≡ before.rows
  pub old : running_meters before.live ≡ among front meter back
  pub new : running_meters after.live ≡ front ++ back
  pub row : (at : ℕ) → answer at ≡ option_map (row_of_closed at) meter

abbrev pub meters_in : List Ended → List MeterView
meters_in all = flat_map (λ ended. option_to_list ended.meter) all

-- a conference is closed without a signal: the meters of its participants are handed back
pub record AreHandedBack (before after : Table) (answer : List Ended) : Type 0 where
  pub front : List MeterView
  pub back : List MeterView
  pub filed : after.rows ≡ before.rows
  pub old : running_meters before.live ≡ front ++ (meters_in answer ++ back)
  pub new : running_meters after.live ≡ front ++ back

-- CDRs that were handed over no longer wait
pub record IsDropped (count : ℕ) (before after : Table) : Type 0 where
  pub remaining : after.rows ≡ drop count before.rows
  pub runs_on : running_meters after.live ≡ running_meters before.live

abbrev pub IsBookedOp : TableOp → (before after : Table) → Type 0
IsBookedOp (Opens coming) before after = IsCharged coming.at before after
IsBookedOp (Joins room coming) before after = IsCharged coming.at before after
IsBookedOp (Adopts room adoption) before after = IsCharged adoption.at before after
IsBookedOp (Notifies room seat code tokens) before after = IsUncharged before after
IsBookedOp (Receives received) before after = IsCharged received.at before after
IsBookedOp (Leaves room seat) before after = IsHandedBack before after (λ at. row_of_leave at room seat before.live)
IsBookedOp (Closes room) before after = AreHandedBack before after (ended_legs room before.live)
IsBookedOp (Drops count) before after = IsDropped count before after

-- whatever was done before
abbrev pub OperationsAreCharged : Type 0
OperationsAreCharged = (config : ConferenceConfigView) (ops : List TableOp) (op : TableOp) → IsBookedOp op (table_after config ops) (table_after config (op ∷ ops))
