-- A leg that was detached from its call, on whichever side.
use Rattle.mmtel_leg.specs.Legs.{Leg}
use Rattle.mmtel_leg.specs.declared.legs.Released.{Released}
use Rattle.mmtel_leg.specs.declared.legs.Released.TheVariants.{Caller, Callee}

abbrev pub released_leg : Released → Leg
released_leg (Caller leg) = leg
released_leg (Callee leg) = leg
