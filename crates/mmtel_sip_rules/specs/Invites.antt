-- Decisions about an INVITE that the server sent: when its CANCEL is due (RFC 3261 §9.1), and to which dialog a 2xx of it belongs (§13.2.2.4).
use Rattle.std.specs.Prelude.{ℕ, not, Bool, ◌&&◌, ◌||◌, List}
use Rattle.std.specs.Str.{bytes_eq}

-- a CANCEL is due where a provisional response was received and no CANCEL was sent (§9.1)
abbrev pub is_cancel_due : (provisional cancelled : Bool) → Bool
is_cancel_due provisional cancelled = provisional && not cancelled

-- a 2xx with this tag belongs to the dialog with that remote tag; for an INVITE within a dialog each 2xx belongs to that dialog (§13.2.2.4)
abbrev pub is_of_dialog : (within : Bool) → (own tag : List ℕ) → Bool
is_of_dialog within own tag = within || bytes_eq own tag
