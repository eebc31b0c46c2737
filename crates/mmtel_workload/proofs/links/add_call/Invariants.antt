use Rattle.std.proofs.Common.{◌≡◌, ◌++◌, map, take}
use Rattle.mmtel_workload.specs.Events.{event_of}
use Rattle.mmtel_workload.specs.Kinds.{messages_of}
use Rattle.mmtel_workload.proofs.links.add_call.Given as goal

abbrev pub invariant-loop-after : goal.invariant-loop-after
invariant-loop-after l = l.events ≡ l.fn.events ++ map (event_of l.call) (take l.after-index (messages_of l.call.kind))
