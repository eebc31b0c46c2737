-- The operations on a leg from its creation on, one after another, and their effects: the theorems about a dialog's numbers (RFC 3261 §12.2.1.1), about its target and routes,
-- and about the meters that a leg was given.
use Rattle.std.specs.Prelude.{ℕ, ◌+◌, ◌≤◌, None, ◌≡◌, Bool, true, false, not, List, [], ◌∷◌, ◌++◌, Option, Some, Result, Ok, Err, codes}
use Rattle.std.specs.Str.{bytes_eq}
use Rattle.mmtel_base.specs.Chain.{◌>>=◌}
use Rattle.mmtel_charging.specs.Meters.{MeterView}
use Rattle.mmtel_message.specs.Fields.{cseq_at}
use Rattle.mmtel_message.specs.Message.{Message, first_value}
use Rattle.mmtel_message.specs.declared.messages.Start.{Start}
use Rattle.mmtel_leg.specs.Dialogues.{after_receiving, after_request, receive_result, with_remote}
use Rattle.mmtel_leg.specs.Legs.{Leg, with_dialogue}
use Rattle.mmtel_leg.specs.Requests.{RequestPartsView, cseq_text, request_of}
use Rattle.mmtel_leg.specs.declared.dialogues.Dialogue.{Dialogue}
use Rattle.mmtel_leg.specs.declared.dialogues.DialogueFault.{DialogueFault}
use Rattle.mmtel_leg.specs.declared.dialogues.InFlight.{InFlight}
use Rattle.mmtel_leg.specs.declared.dialogues.InFlight.TheVariants as in_flight
use Rattle.mmtel_leg.specs.declared.remotes.Remote.{Remote}

-- the other side gives its tag, target and route set (`early`, `stand`); the server makes a request (`request`); a request is received (`heard`); a meter replaces another
-- (`swap_meter`)
pub data LegOperation : Type 0 where
  LearnsRemote : (remote : Remote) → LegOperation
  SendsRequest : (method : List ℕ) → (given : RequestPartsView) → LegOperation
  ReceivesRequest : (request : Message Start) → (busy : InFlight) → LegOperation
  SwapsMeter : (meter : Option MeterView) → LegOperation

-- a request that is refused changes nothing
abbrev pub after_result : Result (Unit {0}) DialogueFault → Dialogue → Message Start → Dialogue
after_result (Ok done) d request = after_receiving d request
after_result (Err fault) d request = d

abbrev pub after_operation : Leg → LegOperation → Leg
after_operation leg (LearnsRemote remote) = with_dialogue leg (with_remote leg.dialogue remote)
after_operation leg (SendsRequest method given) = with_dialogue leg (after_request leg.dialogue method)
after_operation leg (ReceivesRequest request busy) = with_dialogue leg (after_result (receive_result leg.dialogue request busy) leg.dialogue request)
after_operation leg (SwapsMeter meter) = record leg { meter = meter }

-- the leg after these operations
abbrev pub after_operations : Leg → List LegOperation → Leg
after_operations leg [] = leg
after_operations leg (op ∷ ops) = after_operations (after_operation leg op) ops

-- ---- numbers

-- the requests that the server made
abbrev pub request_by : Leg → LegOperation → List (Message Start)
request_by leg (LearnsRemote remote) = []
request_by leg (SendsRequest method given) = request_of leg.dialogue method given ∷ []
request_by leg (ReceivesRequest request busy) = []
request_by leg (SwapsMeter meter) = []

abbrev pub requests : Leg → List LegOperation → List (Message Start)
requests leg [] = []
requests leg (op ∷ ops) = request_by leg op ++ requests (after_operation leg op) ops

-- the message has this number in its CSeq
abbrev pub HasNumber : ℕ → Message Start → Type 0
HasNumber n m = (method : List ℕ) × (first_value (codes "CSeq") m.lines ≡ Some (cseq_text n method))

-- the first has one more than this, and each one more than the one before
abbrev pub IsCountedFrom : ℕ → List (Message Start) → Type 0
IsCountedFrom n [] = Unit {0}
IsCountedFrom n (m ∷ ms) = HasNumber (n + 1) m × IsCountedFrom (n + 1) ms

-- the two have the same number
abbrev pub HaveOneNumber : Message Start → Message Start → Type 0
HaveOneNumber one other = (n : ℕ) × (HasNumber n one × HasNumber n other)

-- no INVITE is made
abbrev pub is_not_invite : LegOperation → Bool
is_not_invite (LearnsRemote remote) = true
is_not_invite (SendsRequest method given) = not (bytes_eq method (codes "INVITE"))
is_not_invite (ReceivesRequest request busy) = true
is_not_invite (SwapsMeter meter) = true

-- CSeq of the message is read as this number and method (§20.16)
abbrev pub ReadsAs : ℕ → List ℕ → Message Start → Type 0
ReadsAs n method m = (first_value (codes "CSeq") m.lines >>= cseq_at) ≡ Some (record { number = n; method = method })

-- ---- numbers of received requests

-- where a number was accepted before, one is accepted later that is not lower
abbrev pub IsNotBelow : Option ℕ → Option ℕ → Type 0
IsNotBelow None later = Unit {0}
IsNotBelow (Some n) None = ⊥
IsNotBelow (Some n) (Some m) = n ≤ m

-- the dialog accepts each request, one after another, where no INVITE of either side is without a response (§12.2.2)
abbrev pub ReceivesEach : Dialogue → List (Message Start) → Type 0
ReceivesEach d [] = Unit {0}
ReceivesEach d (m ∷ ms) = (receive_result d m in_flight.None ≡ Ok tt) × ReceivesEach (after_receiving d m) ms

-- ---- the route to the other side

-- the operations on a leg once it is confirmed
abbrev pub is_of_confirmed : LegOperation → Bool
is_of_confirmed (LearnsRemote remote) = false
is_of_confirmed (SendsRequest method given) = true
is_of_confirmed (ReceivesRequest request busy) = true
is_of_confirmed (SwapsMeter meter) = true

-- ---- meters

-- the meters that are put into the leg
abbrev pub meters_put_in_by : LegOperation → List (Option MeterView)
meters_put_in_by (LearnsRemote remote) = []
meters_put_in_by (SendsRequest method given) = []
meters_put_in_by (ReceivesRequest request busy) = []
meters_put_in_by (SwapsMeter meter) = meter ∷ []

abbrev pub meters_put_in : List LegOperation → List (Option MeterView)
meters_put_in [] = []
meters_put_in (op ∷ ops) = meters_put_in_by op ++ meters_put_in ops

-- the meters that are handed back
abbrev pub meters_handed_back_by : Leg → LegOperation → List (Option MeterView)
meters_handed_back_by leg (LearnsRemote remote) = []
meters_handed_back_by leg (SendsRequest method given) = []
meters_handed_back_by leg (ReceivesRequest request busy) = []
meters_handed_back_by leg (SwapsMeter meter) = leg.meter ∷ []

abbrev pub meters_handed_back : Leg → List LegOperation → List (Option MeterView)
meters_handed_back leg [] = []
meters_handed_back leg (op ∷ ops) = meters_handed_back_by leg op ++ meters_handed_back (after_operation leg op) ops
