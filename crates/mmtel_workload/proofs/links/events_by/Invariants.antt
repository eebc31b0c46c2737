use Rattle.std.proofs.Common.{◌≡◌, ◌≤◌, ◌*◌}
use Rattle.mmtel_workload.specs.Events.{work_events}
use Rattle.mmtel_workload.specs.Kinds.{drawn_before, value_of}
use Rattle.mmtel_workload.proofs.links.events_by.Given as goal

-- the events of the calls so far, the value of the last of them, and what was drawn for them
abbrev pub invariant-loop-before : goal.invariant-loop-before
invariant-loop-before l = record {
  events : l.events ≡ work_events l.before l.salt;
  value : l.value ≡ value_of l.salt l.before;
  drawn : l.drawn ≡ drawn_before l.salt l.before;
  few : l.drawn ≤ 6 * l.before;
}
