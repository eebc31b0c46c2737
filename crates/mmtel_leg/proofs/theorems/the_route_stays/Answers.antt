use Rattle.mmtel_leg.proofs.OperationTheorems.{target_stays, routes_stay}
use Rattle.mmtel_leg.proofs.theorems.the_route_stays.Goals as goal

pub returns : goal.returns
returns c = record { target = target_stays; routes = routes_stay }
