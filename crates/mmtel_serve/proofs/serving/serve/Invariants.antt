use Rattle.std.proofs.Common.{◌≡◌}
use Rattle.std.specs.Prelude.{◌⊎◌}
use Rattle.mmtel_delivery.specs.Delivery.{IsBoundStill, LostNoMore}
use Rattle.mmtel_environment.specs.Counts.{Rose}
use Rattle.mmtel_server.specs.DriveEffects.{StaysOrRises}
use Rattle.mmtel_server.specs.States.{serving_state}
use Rattle.mmtel_serve.specs.Turns.{ServeEffectSoFar}
use Rattle.mmtel_serve.proofs.serving.serve.Given as goal

abbrev pub invariant-turns : goal.invariant-turns
invariant-turns g l = record {
  served : ServeEffectSoFar l._turn (serving_state g.N.Link l.fn.link g.K.Keeper l.fn.keeper l.fn.server) (serving_state g.N.Link l.link g.K.Keeper l.keeper l.server);
  lost : LostNoMore (g.N.Link.output l.fn.link) (g.N.Link.output l.link) ⊎ Rose (g.N.Link.delivery_faults l.fn.link) (g.N.Link.delivery_faults l.link);
  delivery_faults : StaysOrRises (g.N.Link.delivery_faults l.fn.link) (g.N.Link.delivery_faults l.link);
  bound : IsBoundStill (g.N.Link.calls l.fn.link) (g.N.Link.calls l.link);
  arrival_faults : g.N.Link.arrival_faults l.link ≡ g.N.Link.arrival_faults l.fn.link;
}
