-- The CDRs of a whole run: where the keeper accepted none of them in an event, and where none waits after one.
use Rattle.std.proofs.Common.{◌≡◌, ℕ, Bool, true, false, List, [], ◌∷◌, ◌++◌, sym, ap, ◌∙◌, subst}
use Rattle.std.proofs.lemmas.Bool.{false≢true}
use Rattle.mmtel_directory.specs.declared.directories.Directory.{Directory}
use Rattle.mmtel_run_definitions.specs.Events.{EventRecord, moment_of, parsed_record, timed_event_of, timed_events}
use Rattle.mmtel_run_definitions.specs.ChargingRows.{NoneWaits, RowsAreFiled}
use Rattle.mmtel_run_definitions.specs.Run.{after_due_deadlines, after_event_in_order, after_events, clock_at}
use Rattle.mmtel_run_definitions.specs.Transitions.{RunState, after_event, after_event_end, after_parsed_event, initial_state, with_next_step}
use Rattle.mmtel_server.specs.Follows.{state_after_event}
use Rattle.mmtel_server.specs.Charged.{ChargesRun, accepted_last}
use Rattle.mmtel_server.specs.declared.servers.Server.{Server}
use Rattle.mmtel_server.proofs.Filing.{met_none, settled_none}
use Rattle.mmtel_server.proofs.Handover.{hands_none}

module _ (d : Directory) (token : List ℕ) where
  -- an event in which the keeper accepted none files none
  pub untaken : (fuel : ℕ) (one : EventRecord) (w : RunState) → one.accepted ≡ false → (state_after_event fuel one d token w).filed ≡ w.filed
  untaken fuel one w none =
      let at : ℕ = clock_at w (moment_of one.event) in
      let v : RunState = after_due_deadlines d token fuel at w in
      let there : RunState = record (with_next_step v) { clock = at } in
      let done : RunState = after_parsed_event d token at (parsed_record d one) there in
      ap (λ (took : Bool). (after_event_end took done).filed) none
      ∙ (ap (λ (u : RunState). u.filed) (hands_none done.waiting done)
      ∙ (met_none d token at (parsed_record d one) there ∙ settled_none d token fuel at w))

  module _ (law : NoneWaits) where
    -- none waits after the last of these, where the keeper accepted what was handed to it
    none_behind : (fuel : ℕ) (recorded : List EventRecord) (w : RunState) → accepted_last recorded ≡ true → (after_events d token fuel (timed_events d recorded) w).waiting ≡ []
    none_behind fuel [] w took = absurd (false≢true took)
    none_behind fuel (one ∷ []) w took =
        let at : ℕ = clock_at w (moment_of one.event) in
        let v : RunState = after_due_deadlines d token fuel at w in
        subst (λ (b : Bool). (after_event d token at (parsed_record d one) b v).waiting ≡ []) (sym took) (law d token at (parsed_record d one) v)
    none_behind fuel (one ∷ other ∷ recorded) w took = none_behind fuel (other ∷ recorded) (after_event_in_order d token fuel (timed_event_of d one) w) took

    pub none_after : (fuel : ℕ) (earlier recorded : List EventRecord) (w : RunState) → accepted_last recorded ≡ true → (after_events d token fuel (timed_events d (earlier ++ recorded)) w).waiting ≡ []
    none_after fuel [] recorded w took = none_behind fuel recorded w took
    none_after fuel (one ∷ earlier) recorded w took = none_after fuel earlier recorded (after_event_in_order d token fuel (timed_event_of d one) w) took

-- all CDRs of a run are filed or wait
pub charged : RowsAreFiled → NoneWaits → (recorded : List EventRecord) (old : Server) → ChargesRun recorded old
charged all none recorded old d token loaded earlier fuel serves short enough = record {
  all = all d token loaded fuel (earlier ++ recorded);
  none = λ took. none_after d token none fuel earlier recorded (initial_state loaded) took;
}
