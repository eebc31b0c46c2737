use Rattle.std.proofs.Common.{refl, arith}
use Rattle.mmtel_http.proofs.Routing.{router_finds_route}
use Rattle.matchit.proofs.OnLiterals.{matchit_on_literals}
use Rattle.mmtel_http.proofs.routes.find_route.Goals as goal

pub returns : goal.returns
unfolding matchit_on_literals
returns c =
    let a = c.in_ok-insert.ensures in
    let b = c.in_ok-insert-2.ensures in
    let d = c.in_ok-insert-3.ensures in
    let found = rw (d.1, b.1, a.1, c.new-router.ensures) at c.matched_route.ensures in
    router_finds_route _ _ _ c.args.path.now c.matched_route.result (λ i. omega (arith, c.type_inv.path i)) refl refl refl found
