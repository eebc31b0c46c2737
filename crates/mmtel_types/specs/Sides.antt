-- The two sides of a call through a back-to-back user agent (RFC 3261 §6).
use Rattle.mmtel_types.specs.declared.sides.Side.{Side}
use Rattle.mmtel_types.specs.declared.sides.Side.TheVariants.{Caller, Callee}

-- the other side
abbrev pub other_side : Side → Side
other_side Caller = Callee
other_side Callee = Caller
