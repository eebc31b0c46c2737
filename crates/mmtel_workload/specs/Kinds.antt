-- Which calls a workload makes: the kind of each by its number and a salt, the actions in it, and how many numbers the server draws for it.
use Rattle.std.specs.Prelude.{ℕ, zero, suc, ◌+◌, ◌*◌, ◌/◌, ◌%◌, ◌^◌, ◌==◌, if◌then◌else◌, List, [], ◌∷◌}
use Rattle.mmtel_workload.specs.declared.kinds.CallMessage.{CallMessage}
use Rattle.mmtel_workload.specs.declared.kinds.CallMessage.TheVariants as act
use Rattle.mmtel_workload.specs.declared.kinds.Kind.{Kind}
use Rattle.mmtel_workload.specs.declared.kinds.Kind.TheVariants.{Answered, Diverted, Busy, Cancelled}

-- the value of the rule after another
abbrev pub next_value : ℕ → ℕ
next_value value = (1103515245 * value + 12345) % 2 ^ 31

-- the value of the rule so many times after the salt: that of a call is the one of its number
abbrev pub value_of : (salt number : ℕ) → ℕ
value_of salt zero = salt
value_of salt (suc before) = next_value (value_of salt before)

-- the kind of a call by its value
abbrev pub kind_by : ℕ → Kind
kind_by value =
    if value / 65536 % 4 == 0 then Answered
    else if value / 65536 % 4 == 1 then Diverted
    else if value / 65536 % 4 == 2 then Busy
    else Cancelled

-- the actions in a call of this kind, in order, each so many milliseconds after its beginning
abbrev pub messages_of : Kind → List (ℕ × CallMessage)
messages_of Answered = (0, act.Invite) ∷ (100, act.Ringing) ∷ (200, act.OkToInvite) ∷ (300, act.AckOfOk) ∷ (400, act.Bye) ∷ (500, act.OkToBye) ∷ []
messages_of Diverted = (0, act.Invite) ∷ (100, act.Ringing) ∷ (200, act.OkToInvite) ∷ (300, act.AckOfOk) ∷ (400, act.Bye) ∷ (500, act.OkToBye) ∷ []
messages_of Busy = (0, act.Invite) ∷ (100, act.BusyHere) ∷ (200, act.AckOfRefusal) ∷ []
messages_of Cancelled = (0, act.Invite) ∷ (100, act.Ringing) ∷ (200, act.Cancel) ∷ (300, act.OkToCancel) ∷ (300, act.RequestTerminated) ∷ (300, act.AckOfRefusal) ∷ []

-- how many numbers for identifiers the server draws in it: for its own tag, and the Call-ID, tag and branch of its INVITE; and for the branches of an ACK and a BYE
abbrev pub drawn_in : Kind → ℕ
drawn_in Answered = 6
drawn_in Diverted = 6
drawn_in Busy = 4
drawn_in Cancelled = 4

-- and how many in the first so many calls
abbrev pub drawn_before : (salt calls : ℕ) → ℕ
drawn_before salt zero = 0
drawn_before salt (suc before) = drawn_before salt before + drawn_in (kind_by (value_of salt (suc before)))
