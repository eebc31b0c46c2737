-- Theorems about operations, each by induction on the list of them.
use Rattle.std.proofs.Common.{Option, Some, Result, Ok, Err, ◌∙◌, ℕ, ◌+◌, ◌≡◌, ◌<◌, ◌^◌, true, List, [], ◌∷◌, ◌++◌, length, refl, ap, arith}
use Rattle.std.specs.List.{list_all}
use Rattle.mmtel_message.specs.Message.{Message}
use Rattle.mmtel_message.specs.declared.messages.Start.{Start}
use Rattle.mmtel_base.specs.Numbers.{next_number}
use Rattle.mmtel_leg.specs.Dialogues.{receive_result}
use Rattle.mmtel_leg.specs.declared.dialogues.Dialogue.{Dialogue}
use Rattle.mmtel_leg.specs.declared.dialogues.DialogueFault.{DialogueFault}
use Rattle.mmtel_leg.specs.Operations.{IsCountedFrom, LegOperation, after_operation, after_operations, after_result, is_of_confirmed, meters_handed_back, meters_put_in, requests}
use Rattle.mmtel_leg.specs.Operations.LegOperation.{LearnsRemote, SendsRequest, ReceivesRequest, SwapsMeter}
use Rattle.mmtel_leg.specs.Legs.{Leg}
use Rattle.mmtel_leg.specs.Requests.{cseq_text}
use Rattle.mmtel_leg.proofs.LineTheorems.{cseq}
use Rattle.mmtel_charging.specs.Meters.{MeterView}

-- a received request does not change these, whatever the result
pub own_stays : (answer : Result (Unit {0}) DialogueFault) (d : Dialogue) (request : Message Start) → (after_result answer d request).local_cseq ≡ d.local_cseq
own_stays (Ok done) d request = refl
own_stays (Err fault) d request = refl

target_received : (answer : Result (Unit {0}) DialogueFault) (d : Dialogue) (request : Message Start) → (after_result answer d request).target ≡ d.target
target_received (Ok done) d request = refl
target_received (Err fault) d request = refl

routes_received : (answer : Result (Unit {0}) DialogueFault) (d : Dialogue) (request : Message Start) → (after_result answer d request).routes ≡ d.routes
routes_received (Ok done) d request = refl
routes_received (Err fault) d request = refl

-- the same theorems for a number that the leg has
counted_from : (leg : Leg) (ops : List LegOperation) (n : ℕ) → leg.dialogue.local_cseq ≡ n → n + length (requests leg ops) < 2 ^ 64 → IsCountedFrom n (requests leg ops)
counted_from leg [] n own few = tt
counted_from leg (LearnsRemote remote ∷ ops) n own few = counted_from (after_operation leg (LearnsRemote remote)) ops n own few
counted_from leg (SendsRequest method given ∷ ops) n own few =
    let next : next_number leg.dialogue.local_cseq ≡ n + 1 = omega arith in (
      (method, cseq leg.dialogue (next_number leg.dialogue.local_cseq) method given ∙ ap (λ (k : ℕ). Some (cseq_text k method)) next),
      counted_from (after_operation leg (SendsRequest method given)) ops (n + 1) next (omega arith),
    )
counted_from leg (ReceivesRequest request busy ∷ ops) n own few =
    counted_from (after_operation leg (ReceivesRequest request busy)) ops n (own_stays (receive_result leg.dialogue request busy) leg.dialogue request ∙ own) few
counted_from leg (SwapsMeter meter ∷ ops) n own few = counted_from (after_operation leg (SwapsMeter meter)) ops n own few

last_from : (leg : Leg) (ops : List LegOperation) (n : ℕ) → leg.dialogue.local_cseq ≡ n → n + length (requests leg ops) < 2 ^ 64 → (after_operations leg ops).dialogue.local_cseq ≡ n + length (requests leg ops)
last_from leg [] n own few = omega arith
last_from leg (LearnsRemote remote ∷ ops) n own few = last_from (after_operation leg (LearnsRemote remote)) ops n own few
last_from leg (SendsRequest method given ∷ ops) n own few =
    let next : next_number leg.dialogue.local_cseq ≡ n + 1 = omega arith in
    let rest = last_from (after_operation leg (SendsRequest method given)) ops (n + 1) next (omega arith) in
    omega (arith, rest)
last_from leg (ReceivesRequest request busy ∷ ops) n own few =
    last_from (after_operation leg (ReceivesRequest request busy)) ops n (own_stays (receive_result leg.dialogue request busy) leg.dialogue request ∙ own) few
last_from leg (SwapsMeter meter ∷ ops) n own few = last_from (after_operation leg (SwapsMeter meter)) ops n own few

pub counted : (leg : Leg) (ops : List LegOperation) → leg.dialogue.local_cseq + length (requests leg ops) < 2 ^ 64 → IsCountedFrom leg.dialogue.local_cseq (requests leg ops)
counted leg ops few = counted_from leg ops leg.dialogue.local_cseq refl few

pub last : (leg : Leg) (ops : List LegOperation) → leg.dialogue.local_cseq + length (requests leg ops) < 2 ^ 64 → (after_operations leg ops).dialogue.local_cseq ≡ leg.dialogue.local_cseq + length (requests leg ops)
last leg ops few = last_from leg ops leg.dialogue.local_cseq refl few

pub target_stays : (leg : Leg) (ops : List LegOperation) → list_all is_of_confirmed ops ≡ true → (after_operations leg ops).dialogue.target ≡ leg.dialogue.target
target_stays leg [] later = refl
target_stays leg (LearnsRemote remote ∷ ops) later = cc
target_stays leg (SendsRequest method given ∷ ops) later = target_stays (after_operation leg (SendsRequest method given)) ops later
target_stays leg (ReceivesRequest request busy ∷ ops) later =
    target_stays (after_operation leg (ReceivesRequest request busy)) ops later ∙ target_received (receive_result leg.dialogue request busy) leg.dialogue request
target_stays leg (SwapsMeter meter ∷ ops) later = target_stays (after_operation leg (SwapsMeter meter)) ops later

pub routes_stay : (leg : Leg) (ops : List LegOperation) → list_all is_of_confirmed ops ≡ true → (after_operations leg ops).dialogue.routes ≡ leg.dialogue.routes
routes_stay leg [] later = refl
routes_stay leg (LearnsRemote remote ∷ ops) later = cc
routes_stay leg (SendsRequest method given ∷ ops) later = routes_stay (after_operation leg (SendsRequest method given)) ops later
routes_stay leg (ReceivesRequest request busy ∷ ops) later =
    routes_stay (after_operation leg (ReceivesRequest request busy)) ops later ∙ routes_received (receive_result leg.dialogue request busy) leg.dialogue request
routes_stay leg (SwapsMeter meter ∷ ops) later = routes_stay (after_operation leg (SwapsMeter meter)) ops later

pub come_back : (leg : Leg) (ops : List LegOperation) → meters_handed_back leg ops ++ (after_operations leg ops).meter ∷ [] ≡ leg.meter ∷ meters_put_in ops
come_back leg [] = refl
come_back leg (LearnsRemote remote ∷ ops) = come_back (after_operation leg (LearnsRemote remote)) ops
come_back leg (SendsRequest method given ∷ ops) = come_back (after_operation leg (SendsRequest method given)) ops
come_back leg (ReceivesRequest request busy ∷ ops) = come_back (after_operation leg (ReceivesRequest request busy)) ops
come_back leg (SwapsMeter meter ∷ ops) = ap (λ (ms : List (Option MeterView)). leg.meter ∷ ms) (come_back (after_operation leg (SwapsMeter meter)) ops)
