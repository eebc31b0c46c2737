-- A leg that is detached from a call and put back (RFC 4579 §5.6, RFC 3891 §3).
use Rattle.std.specs.Prelude.{◌≡◌, ℕ, true, List, Some}
use Rattle.mmtel_leg.specs.declared.legs.Released.{Released}
use Rattle.mmtel_types.specs.declared.sides.Side.{Side}
use Rattle.mmtel_b2bua.specs.Detaching.{can_restore, entries_after_release, entries_after_restore, entry_of, released_leg_of}
use Rattle.mmtel_b2bua.specs.declared.entries.Entry.{Entry}

-- it is of the side that is detached, and the calls are as they were before it was detached: so if the call received nothing in between, both operations can be omitted from its
-- trace
abbrev pub LegsGoBack : Type 0
LegsGoBack = (number : ℕ) (side : Side) (es : List Entry) (leg : Released) → released_leg_of number side es ≡ Some leg →
    (can_restore leg (entry_of number (entries_after_release number side es)) ≡ true) × (entries_after_restore number leg (entries_after_release number side es) ≡ es)
