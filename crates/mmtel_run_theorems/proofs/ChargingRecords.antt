-- The CDRs of a run, of all that the keeper accepted and that wait: those of calls, those of each call, and those of participants.
use Rattle.std.proofs.Common.{◌≡◌, ℕ, Bool, true, false, not, List, [], ◌∷◌, ◌++◌, refl, sym, ap, ◌∙◌, subst, cond}
use Rattle.std.specs.Prelude.{◌&&◌, filter, if◌then◌else◌}
use Rattle.mmtel_b2bua.specs.Operations.{Drops, Finishes, Receives, Releases, Restores, TableOp, table_after}
use Rattle.mmtel_b2bua_theorems.specs.TracesOfTables.{ArePutBack, HasNumbers, all_charging_records, charging_records_of, op_charging_records}
use Rattle.mmtel_b2bua_theorems.specs.Theorems.{CallsOfTablesAreExact, CallsTakeTheirSteps, ChargingRecordsAreOfCalls, is_charging_record_of}
use Rattle.mmtel_call_services.specs.CallConfig.{CallConfigView}
use Rattle.mmtel_call_theorems.specs.NoInjection.Emits.{Each}
use Rattle.mmtel_charging.specs.declared.rows.Row.{Row}
use Rattle.mmtel_directory.specs.declared.directories.Directory.{Directory}
use Rattle.mmtel_focus_theorems.specs.Charging.{OperationsAreCharged, running_meters}
use Rattle.mmtel_focus_theorems.specs.Participants.{ParticipantsAreAccountedFor, ParticipantsAreMetered, RowsAreAccountedFor}
use Rattle.mmtel_run_definitions.specs.Calls.{call_config}
use Rattle.mmtel_run_definitions.specs.ChargingRows.{AreFiled, ClosedRow, rows_closed, rows_closed_by, rows_in, rows_of_calls, rows_of_conferences, rows_of_departed}
use Rattle.mmtel_run_definitions.specs.Ownership.{conference_config}
use Rattle.mmtel_run_definitions.specs.Transitions.{RunState, conferences_in}
use Rattle.mmtel_run_theorems.specs.Outcome.{rows_of_call}
use Rattle.mmtel_run_theorems.specs.ChargingRecords.{RowsAreCharged, RunsOn, all_rows, is_call_row, is_participant_row}
use Rattle.mmtel_run_theorems.proofs.Books.{AreOfParticipants, all_once, kept, of_seats}
use Rattle.mmtel_run_theorems.proofs.OperationsOfEvents.{IsOfRun}
use Rattle.mmtel_run_theorems.proofs.RowsByPart.{AreOfCalls, calls_are_of_calls}

-- ---- two ways to list the CDRs of calls

closed-same : (config : CallConfigView) (op : TableOp) (older : List TableOp) → rows_closed_by config op (table_after config older) ≡ op_charging_records config op (table_after config older)
closed-same config (Receives x) older = refl
closed-same config (Releases number side) older = refl
closed-same config (Restores number away) older = refl
closed-same config (Finishes number at tokens) older = refl
closed-same config (Drops count) older = refl

all-closed : (config : CallConfigView) (ops : List TableOp) → rows_closed config ops ≡ all_charging_records config ops
unfolding all_charging_records
all-closed config [] = refl
all-closed config (op ∷ older) = λ i. all-closed config older i ++ closed-same config op older i

-- ---- CDRs of calls among those of participants

-- a CDR of a call that also passes this test
abbrev and_so : (Row → Bool) → Row → Bool
and_so p row = is_call_row row && p row

seat-no-call : (row : Row) → is_participant_row row ≡ true → is_call_row row ≡ false
seat-no-call row h = ap not h

call-no-seat : (b : Bool) → not b ≡ true → b ≡ false
call-no-seat true h = absurd (let e : false ≡ true = h in cc)
call-no-seat false h = refl

calls-so : (p : Row → Bool) (closed : List ClosedRow) → AreOfCalls (rows_of_calls closed) → AreOfParticipants (rows_of_conferences closed) → filter (and_so p) (rows_in closed) ≡ filter p (rows_of_calls closed)
calls-so p [] c s = refl
calls-so p (one ∷ closed) c s = go one.of_calls c s (λ c s. calls-so p closed c s)
  where
    go : (b : Bool) → AreOfCalls (if b then one.row ∷ rows_of_calls closed else rows_of_calls closed) → AreOfParticipants (if b then rows_of_conferences closed else one.row ∷ rows_of_conferences closed) →
        (AreOfCalls (rows_of_calls closed) → AreOfParticipants (rows_of_conferences closed) → filter (and_so p) (rows_in closed) ≡ filter p (rows_of_calls closed)) →
        cond (is_call_row one.row && p one.row) (one.row ∷ filter (and_so p) (rows_in closed)) (filter (and_so p) (rows_in closed)) ≡ filter p (if b then one.row ∷ rows_of_calls closed else rows_of_calls closed)
    go true c s later =
        ap (λ (b : Bool). cond (b && p one.row) (one.row ∷ filter (and_so p) (rows_in closed)) (filter (and_so p) (rows_in closed))) c.0
        ∙ ap (λ (rows : List Row). cond (p one.row) (one.row ∷ rows) rows) (later c.1 s)
    go false c s later =
        ap (λ (b : Bool). cond (b && p one.row) (one.row ∷ filter (and_so p) (rows_in closed)) (filter (and_so p) (rows_in closed))) (seat-no-call one.row s.0) ∙ later c s.1

calls-alone : (closed : List ClosedRow) → AreOfCalls (rows_of_calls closed) → AreOfParticipants (rows_of_conferences closed) → filter is_call_row (rows_in closed) ≡ rows_of_calls closed
calls-alone [] c s = refl
calls-alone (one ∷ closed) c s = go one.of_calls c s (λ c s. calls-alone closed c s)
  where
    go : (b : Bool) → AreOfCalls (if b then one.row ∷ rows_of_calls closed else rows_of_calls closed) → AreOfParticipants (if b then rows_of_conferences closed else one.row ∷ rows_of_conferences closed) →
        (AreOfCalls (rows_of_calls closed) → AreOfParticipants (rows_of_conferences closed) → filter is_call_row (rows_in closed) ≡ rows_of_calls closed) →
        cond (is_call_row one.row) (one.row ∷ filter is_call_row (rows_in closed)) (filter is_call_row (rows_in closed)) ≡ (if b then one.row ∷ rows_of_calls closed else rows_of_calls closed)
    go true c s later =
        ap (λ (b : Bool). cond b (one.row ∷ filter is_call_row (rows_in closed)) (filter is_call_row (rows_in closed))) c.0 ∙ ap (λ (rows : List Row). one.row ∷ rows) (later c.1 s)
    go false c s later =
        ap (λ (b : Bool). cond b (one.row ∷ filter is_call_row (rows_in closed)) (filter is_call_row (rows_in closed))) (seat-no-call one.row s.0) ∙ later c s.1

seats-alone : (closed : List ClosedRow) → AreOfCalls (rows_of_calls closed) → AreOfParticipants (rows_of_conferences closed) → filter is_participant_row (rows_in closed) ≡ rows_of_conferences closed
seats-alone [] c s = refl
seats-alone (one ∷ closed) c s = go one.of_calls c s (λ c s. seats-alone closed c s)
  where
    go : (b : Bool) → AreOfCalls (if b then one.row ∷ rows_of_calls closed else rows_of_calls closed) → AreOfParticipants (if b then rows_of_conferences closed else one.row ∷ rows_of_conferences closed) →
        (AreOfCalls (rows_of_calls closed) → AreOfParticipants (rows_of_conferences closed) → filter is_participant_row (rows_in closed) ≡ rows_of_conferences closed) →
        cond (is_participant_row one.row) (one.row ∷ filter is_participant_row (rows_in closed)) (filter is_participant_row (rows_in closed))
        ≡ (if b then rows_of_conferences closed else one.row ∷ rows_of_conferences closed)
    go true c s later =
        ap (λ (b : Bool). cond b (one.row ∷ filter is_participant_row (rows_in closed)) (filter is_participant_row (rows_in closed))) (call-no-seat (is_participant_row one.row) c.0) ∙ later c.1 s
    go false c s later =
        ap (λ (b : Bool). cond b (one.row ∷ filter is_participant_row (rows_in closed)) (filter is_participant_row (rows_in closed))) s.0 ∙ ap (λ (rows : List Row). one.row ∷ rows) (later c s.1)

-- ---- of a state

module _ (steps : CallsTakeTheirSteps) (exact : CallsOfTablesAreExact) (own : ChargingRecordsAreOfCalls) (seats : OperationsAreCharged)
    (d : Directory) (w : RunState) (filed : AreFiled d w) (few : HasNumbers (call_config d) w.call_ops) (put : ArePutBack (call_config d) w.call_ops) (of_run : Each IsOfRun w.conference_ops) where
  of-calls : AreOfCalls (rows_of_calls filed.closed)
  of-calls = subst AreOfCalls (sym (filed.calls ∙ all-closed (call_config d) w.call_ops)) (calls_are_of_calls steps exact own (call_config d) w.call_ops few put)

  of-seats : AreOfParticipants (rows_of_conferences filed.closed)
  of-seats =
      let k = kept seats (conference_config d) w.conference_ops of_run in
      subst AreOfParticipants (sym filed.participants) (of_seats [] k.book (running_meters (conferences_in d w).live) (rows_of_departed (conference_config d) w.conference_ops) tt k.runs)

  -- those of one call are the CDRs of its operations
  pub of_call : (number : ℕ) → rows_of_call w number ≡ charging_records_of (call_config d) number w.call_ops
  of_call number =
      ap (filter (and_so (is_charging_record_of number))) (sym filed.all)
      ∙ (calls-so (is_charging_record_of number) filed.closed of-calls of-seats
      ∙ (ap (filter (is_charging_record_of number)) (filed.calls ∙ all-closed (call_config d) w.call_ops) ∙ own (call_config d) w.call_ops number few put))

  seat-rows : filter is_participant_row (all_rows w) ≡ rows_of_departed (conference_config d) w.conference_ops
  seat-rows = ap (filter is_participant_row) (sym filed.all) ∙ (seats-alone filed.closed of-calls of-seats ∙ filed.participants)

  pub rows_charged : ParticipantsAreAccountedFor → ParticipantsAreMetered → RowsAreAccountedFor → RowsAreCharged d w
  rows_charged due metered named =
      let k = kept seats (conference_config d) w.conference_ops of_run in
      record {
        calls = ap (filter is_call_row) (sym filed.all) ∙ (calls-alone filed.closed of-calls of-seats ∙ filed.calls);
        participants = seat-rows;
        book = k.book;
        operations = k.of_operations;
        booked = subst (RunsOn [] k.book (running_meters (conferences_in d w).live)) (sym seat-rows) k.runs;
        once = λ p. all_once p k.book (running_meters (conferences_in d w).live) (rows_of_departed (conference_config d) w.conference_ops) k.runs;
        connected = λ newer older is. due (conference_config d) older;
        metered = metered (conference_config d) w.conference_ops;
        named = λ newer older op is. named (conference_config d) older op;
      }
