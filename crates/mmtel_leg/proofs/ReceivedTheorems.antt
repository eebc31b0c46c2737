-- Requests that are received, one after another: what is refused changes nothing, and the last number never falls.
use Rattle.std.proofs.Common.{Option, Some, None, Result, Ok, Err, ℕ, ◌≡◌, ◌≤◌, List, [], ◌∷◌, codes, refl, ap, arith}
use Rattle.std.proofs.lemmas.Bool.Decides.{nat_tests}
use Rattle.mmtel_message.specs.Faults.{is_method}
use Rattle.mmtel_message.specs.Message.{Message}
use Rattle.mmtel_message.specs.declared.messages.Start.{Start}
use Rattle.mmtel_leg.specs.Dialogues.{receive_result, last_after, unless_busy, unless_old, number_in}
use Rattle.mmtel_leg.specs.declared.dialogues.Dialogue.{Dialogue}
use Rattle.mmtel_leg.specs.declared.dialogues.DialogueFault.{DialogueFault}
use Rattle.mmtel_leg.specs.declared.dialogues.InFlight.{InFlight}
use Rattle.mmtel_leg.specs.Operations.{IsNotBelow, LegOperation, after_operation, after_operations, after_result}
use Rattle.mmtel_leg.specs.Operations.LegOperation.{LearnsRemote, SendsRequest, ReceivesRequest, SwapsMeter}
use Rattle.mmtel_leg.specs.Legs.{Leg, with_dialogue}

-- what is refused changes nothing
after_refusal : (answer : Result (Unit {0}) DialogueFault) (d : Dialogue) (request : Message Start) (fault : DialogueFault) → answer ≡ Err fault → after_result answer d request ≡ d
after_refusal (Ok done) d request fault refused = cc
after_refusal (Err other) d request fault refused = refl

pub refused : (leg : Leg) (request : Message Start) (busy : InFlight) (fault : DialogueFault) → receive_result leg.dialogue request busy ≡ Err fault → after_operation leg (ReceivesRequest request busy) ≡ leg
refused leg request busy fault e =
    ap (λ (d : Dialogue). with_dialogue leg d) (after_refusal (receive_result leg.dialogue request busy) leg.dialogue request fault e)

-- the order of numbers
not_below_itself : (n : Option ℕ) → IsNotBelow n n
not_below_itself None = tt
not_below_itself (Some n) = omega arith

not_below_either : (n m k : Option ℕ) → IsNotBelow n m → IsNotBelow m k → IsNotBelow n k
not_below_either None m k first second = tt
not_below_either (Some n) None k first second = absurd first
not_below_either (Some n) (Some m) None first second = absurd second
not_below_either (Some n) (Some m) (Some k) first second = omega arith

-- a number that is accepted is not lower than the last
in_turn : (n last : ℕ) (otherwise : Result (Unit {0}) DialogueFault) (done : Unit {0}) → unless_old (Some n) (Some last) otherwise ≡ Ok done → last ≤ n
in_turn n last otherwise done received = grind (arith, nat_tests)

not_below_received : (number last : Option ℕ) (otherwise : Result (Unit {0}) DialogueFault) (done : Unit {0}) → unless_old number last otherwise ≡ Ok done → IsNotBelow last (last_after number last)
not_below_received None last otherwise done received = not_below_itself last
not_below_received (Some n) None otherwise done received = tt
not_below_received (Some n) (Some last) otherwise done received = in_turn n last otherwise done received

not_below_answer : (answer otherwise : Result (Unit {0}) DialogueFault) (d : Dialogue) (request : Message Start) → unless_old (number_in request.lines) d.remote_cseq otherwise ≡ answer →
    IsNotBelow d.remote_cseq (after_result answer d request).remote_cseq
not_below_answer (Ok done) otherwise d request e = not_below_received (number_in request.lines) d.remote_cseq otherwise done e
not_below_answer (Err fault) otherwise d request e = not_below_itself d.remote_cseq

pub last : (leg : Leg) (ops : List LegOperation) → IsNotBelow leg.dialogue.remote_cseq (after_operations leg ops).dialogue.remote_cseq
last leg [] = not_below_itself leg.dialogue.remote_cseq
last leg (LearnsRemote remote ∷ ops) = last (after_operation leg (LearnsRemote remote)) ops
last leg (SendsRequest method given ∷ ops) = last (after_operation leg (SendsRequest method given)) ops
last leg (ReceivesRequest request busy ∷ ops) =
    not_below_either leg.dialogue.remote_cseq (after_operation leg (ReceivesRequest request busy)).dialogue.remote_cseq (after_operations (after_operation leg (ReceivesRequest request busy)) ops).dialogue.remote_cseq
    (not_below_answer (receive_result leg.dialogue request busy) (unless_busy (is_method (codes "INVITE") request.start) busy) leg.dialogue request refl)
    (last (after_operation leg (ReceivesRequest request busy)) ops)
last leg (SwapsMeter meter ∷ ops) = last (after_operation leg (SwapsMeter meter)) ops
