use Rattle.std.proofs.Common.{◌≡◌, ◌++◌, map, take}
use Rattle.mmtel_leg.specs.Requests.{route_line}
use Rattle.mmtel_leg.proofs.requests.add_routes.Given as goal

abbrev pub invariant-loop-route : goal.invariant-loop-route
invariant-loop-route l = l.out ≡ l.fn.out ++ map route_line (take l.route-index l.routes)
