-- The CDRs of a run: those of its calls, and those of the participants of its conferences, each of which has one once it has left (TS 32.260 §5).
use Rattle.std.specs.Prelude.{◌≡◌, ℕ, ◌+◌, Bool, true, false, not, List, [], ◌∷◌, ◌++◌, IfSome, count_by, filter, map, Option, Some, None, option_to_list}
use Rattle.mmtel_call_theorems.specs.NoInjection.Emits.{Each}
use Rattle.mmtel_charging.specs.Meters.{MeterView}
use Rattle.mmtel_charging.specs.declared.rows.Kind.{Kind}
use Rattle.mmtel_charging.specs.declared.rows.Kind.TheVariants.{Origin, Terminating, Diversion, Participant}
use Rattle.mmtel_charging.specs.declared.rows.Row.{Row}
use Rattle.mmtel_directory.specs.declared.directories.Directory.{Directory}
use Rattle.mmtel_focus.specs.Operations.{TableOp, effects_after, table_after}
use Rattle.mmtel_focus.specs.ConferenceConfig.{ConferenceConfigView}
use Rattle.mmtel_focus_theorems.specs.Charging.{BookEntry, Follows, IsStarted, among, rows_of_closed, running_meters}
use Rattle.mmtel_focus_theorems.specs.Participants.{AreRowsAccountedFor, IsAccountedFor, IsMetered, charged_participants, moment_of}
use Rattle.mmtel_records_in_force.specs.Texts.{Texts}
use Rattle.mmtel_run_definitions.specs.Calls.{call_config}
use Rattle.mmtel_run_definitions.specs.Events.{EventRecord, timed_events}
use Rattle.mmtel_run_definitions.specs.ChargingRows.{AreInOrder, rows_closed, rows_of_departed}
use Rattle.mmtel_run_definitions.specs.Ownership.{conference_config}
use Rattle.mmtel_run_definitions.specs.Run.{IsEnough, state_after}
use Rattle.mmtel_run_definitions.specs.ShortRuns.{IsShortRun}
use Rattle.mmtel_run_definitions.specs.Transitions.{RunState, conferences_in, initial_state}
use Rattle.mmtel_run_theorems.specs.StepMoments.{AreTimed}

-- ---- whose a CDR is

abbrev pub is_participant : Kind → Bool
is_participant Origin = false
is_participant Terminating = false
is_participant Diversion = false
is_participant Participant = true

-- of a participant of a conference, or of a call
abbrev pub is_participant_row : Row → Bool
is_participant_row row = is_participant row.kind

abbrev pub is_call_row : Row → Bool
is_call_row row = not (is_participant row.kind)

-- those that the keeper accepted and those that wait
abbrev pub all_rows : RunState → List Row
all_rows state = state.filed ++ state.waiting

-- ---- the ledger of the participants

-- an entry, and its moment
pub record DatedEntry : Type 0 where
  pub at : ℕ
  pub entry : BookEntry

-- these entries, one after another, lead from the meters that run to others, and these CDRs are filed
abbrev pub RunsOn : (before : List MeterView) → List DatedEntry → (after : List MeterView) → (rows : List Row) → Type 0
RunsOn before [] after rows = (after ≡ before) × (rows ≡ [])
RunsOn before (x ∷ book) after rows =
    (later : List Row) × (rows ≡ rows_of_closed x.at x.entry.closed ++ later) × (before ≡ among x.entry.front x.entry.closed x.entry.back) × IfSome x.entry.started (IsStarted x.at)
    × RunsOn (among x.entry.front x.entry.started x.entry.back) book after later

-- the ledger of the operations on conferences, the newest first: the entries of each operation have its moment, and lead from the meters that ran before it to those that run after
-- it, with the CDRs that it filed; an operation without a moment has none
abbrev pub dated_entries : (at : ℕ) → List BookEntry → List DatedEntry
dated_entries at entries = map (λ entry. record { at = at; entry = entry }) entries

abbrev pub IsBookAt : Option ℕ → (before after : List MeterView) → List Row → List DatedEntry → Type 0
IsBookAt None before after rows book = (book ≡ []) × (after ≡ before) × (rows ≡ [])
IsBookAt (Some at) before after rows book = (entries : List BookEntry) × (book ≡ dated_entries at entries) × Follows at before entries after rows

abbrev pub IsBookOf : ConferenceConfigView → List TableOp → List DatedEntry → Type 0
IsBookOf config [] book = book ≡ []
IsBookOf config (op ∷ older) book =
    (front : List DatedEntry) × (last : List DatedEntry) × (book ≡ front ++ last) × IsBookOf config older front
    × IsBookAt (moment_of op) (running_meters (table_after config older).live) (running_meters (table_after config (op ∷ older)).live)
    (effects_after config older op).output.rows last

-- the meters that began, and those that were closed
abbrev pub started_in : List DatedEntry → List MeterView
started_in [] = []
started_in (x ∷ book) = option_to_list x.entry.started ++ started_in book

abbrev pub closed_in : List DatedEntry → List MeterView
closed_in [] = []
closed_in (x ∷ book) = option_to_list x.entry.closed ++ closed_in book

-- ---- of a run

pub record RowsAreCharged (directory : Directory) (state : RunState) : Type 0 where
  -- of all CDRs those of calls are those that the calls closed, in their order, and those of participants those of the participants that left, in theirs
  pub calls : filter is_call_row (all_rows state) ≡ rows_closed (call_config directory) state.call_ops
  pub participants : filter is_participant_row (all_rows state) ≡ rows_of_departed (conference_config directory) state.conference_ops
  -- one ledger of all operations on conferences, with the moments of these: a meter that begins runs until its participant leaves, and is closed by one CDR then
  pub book : List DatedEntry
  pub operations : IsBookOf (conference_config directory) state.conference_ops book
  pub booked : RunsOn [] book (running_meters (conferences_in directory state).live) (filter is_participant_row (all_rows state))
  -- for any choice of meters: each that began was closed once, or runs
  pub once : (is_counted : MeterView → Bool) →
      count_by is_counted (started_in book) ≡ count_by is_counted (closed_in book) + count_by is_counted (running_meters (conferences_in directory state).live)
  -- after each operation the state of each participant of a live conference follows from the operations: one of them added it, which determines its account, and a participant that
  -- has joined has the meter of this account since it joined;
  pub connected : (newer older : List TableOp) → state.conference_ops ≡ newer ++ older →
      Each (IsAccountedFor (conference_config directory) older) (charged_participants (table_after (conference_config directory) older).live)
  -- so a participant that has joined has a meter of its account, none exactly where it has no account, and an invited one has none;
  pub metered : Each IsMetered (charged_participants (conferences_in directory state).live)
  -- and each CDR that an operation files is that of the meter of such a participant, closed at its moment
  pub named : (newer older : List TableOp) (op : TableOp) → state.conference_ops ≡ newer ++ op ∷ older →
      AreRowsAccountedFor (conference_config directory) (op ∷ older) (moment_of op) (effects_after (conference_config directory) older op).output.rows

-- whose all CDRs are; in which order they are: that of the steps in which the call ended or the participant left; and at which moments: those of these steps
pub record AreCharged (directory : Directory) (token : List ℕ) (loaded : Texts) (fuel : ℕ) (recorded : List EventRecord) : Type 0 where
  pub rows : RowsAreCharged directory (state_after directory token loaded fuel recorded)
  pub order : AreInOrder directory token loaded fuel recorded
  pub timed : AreTimed directory token fuel (timed_events directory recorded) (initial_state loaded)

abbrev pub ParticipantsChargedOnce : Directory → (token : List ℕ) → (loaded : Texts) → List EventRecord → Type 0
ParticipantsChargedOnce directory token loaded recorded =
    (fuel : ℕ) → IsEnough directory token loaded fuel recorded → AreCharged directory token loaded fuel recorded

-- of every run within the range of the counters
abbrev pub RunParticipantsChargedOnce : Type 0
RunParticipantsChargedOnce = (directory : Directory) (token : List ℕ) (loaded : Texts) (recorded : List EventRecord) → IsShortRun directory token loaded recorded →
    ParticipantsChargedOnce directory token loaded recorded
