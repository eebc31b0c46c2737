use Rattle.std.proofs.Common.{◌≡◌, ◌*◌}
use Rattle.mmtel_server.specs.DriveEffects.{IsCalledWithin, StaysOrRises, most_calls_a_turn}
use Rattle.mmtel_server.specs.States.{serving_state}
use Rattle.mmtel_server.specs.Turns.{DriveEffectSoFar}
use Rattle.mmtel_server.proofs.driving.drive.Given as goal

abbrev pub invariant-turns : goal.invariant-turns
invariant-turns g l = record {
  drove : DriveEffectSoFar l._turn (serving_state g.N.Link l.fn.link g.K.Keeper l.fn.keeper l.fn.server)
      (serving_state g.N.Link l.link g.K.Keeper l.keeper l.server) l.fn.out l.out;
  calls : IsCalledWithin (g.N.Link.calls l.fn.link) (g.N.Link.calls l.link) (l._turn * most_calls_a_turn);
  output : g.N.Link.output l.link ≡ g.N.Link.output l.fn.link;
  delivery_faults : StaysOrRises (g.N.Link.delivery_faults l.fn.link) (g.N.Link.delivery_faults l.link);
  arrival_faults : g.N.Link.arrival_faults l.link ≡ g.N.Link.arrival_faults l.fn.link;
}
