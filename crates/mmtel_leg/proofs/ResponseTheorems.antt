-- The last response of a callee decides its tag, its target and the routes to it.
use Rattle.std.proofs.Common.{Option, Result, Ok, Err, ◌∙◌, ◌≡◌, ◌<◌, ℕ, true, List, [], ◌∷◌, ◌++◌, ap, arith, length, refl}
use Rattle.std.specs.List.{list_all}
use Rattle.mmtel_charging.specs.Meters.{MeterView}
use Rattle.mmtel_types.specs.declared.numbers.Peer.{Peer}
use Rattle.mmtel_types.specs.declared.sides.Side.TheVariants.{Callee}
use Rattle.mmtel_message.specs.Message.{Message}
use Rattle.mmtel_message.specs.declared.messages.Start.{Start}
use Rattle.mmtel_leg.specs.Operations.{LegOperation, after_operation, after_operations, after_result, is_of_confirmed}
use Rattle.mmtel_leg.specs.Operations.LegOperation.{LearnsRemote, SendsRequest, ReceivesRequest, SwapsMeter}
use Rattle.mmtel_leg.specs.Dialogues.{callee_dialogue, receive_result, target_or, with_remote}
use Rattle.mmtel_leg.specs.Legs.{Leg}
use Rattle.mmtel_leg.specs.declared.dialogues.Dialogue.{Dialogue}
use Rattle.mmtel_leg.specs.declared.dialogues.DialogueFault.{DialogueFault}
use Rattle.mmtel_leg.specs.declared.remotes.Remote.{Remote}
use Rattle.mmtel_leg.proofs.OperationTheorems.{routes_stay, target_stays}
use Rattle.mmtel_leg.proofs.TagTheorems.{side_stays}

tag_received : (answer : Result (Unit {0}) DialogueFault) (d : Dialogue) (request : Message Start) → (after_result answer d request).remote_tag ≡ d.remote_tag
tag_received (Ok done) d request = refl
tag_received (Err fault) d request = refl

tag_stays : (leg : Leg) (ops : List LegOperation) → list_all is_of_confirmed ops ≡ true → (after_operations leg ops).dialogue.remote_tag ≡ leg.dialogue.remote_tag
tag_stays leg [] later = refl
tag_stays leg (LearnsRemote remote ∷ ops) later = cc
tag_stays leg (SendsRequest method given ∷ ops) later = tag_stays (after_operation leg (SendsRequest method given)) ops later
tag_stays leg (ReceivesRequest request busy ∷ ops) later =
    tag_stays (after_operation leg (ReceivesRequest request busy)) ops later ∙ tag_received (receive_result leg.dialogue request busy) leg.dialogue request
tag_stays leg (SwapsMeter meter ∷ ops) later = tag_stays (after_operation leg (SwapsMeter meter)) ops later

after_both : (leg : Leg) (before later : List LegOperation) → after_operations leg (before ++ later) ≡ after_operations (after_operations leg before) later
after_both leg [] later = refl
after_both leg (op ∷ before) later = after_both (after_operation leg op) before later

tag_with_remote : (d : Dialogue) (answer : Remote) → d.side ≡ Callee → (with_remote d answer).remote_tag ≡ answer.tag
tag_with_remote d answer callee = rw callee refl

routes_with_remote : (d : Dialogue) (answer : Remote) → d.side ≡ Callee → (with_remote d answer).routes ≡ answer.routes
routes_with_remote d answer callee = rw callee refl

target_with_remote : (target before : List ℕ) → 0 < length target → target_or target before ≡ target
target_with_remote [] before filled = absurd (omega arith)
target_with_remote (b ∷ target) before filled = refl

pub tag : (peer : Peer) (invite : Message Start) (meter : Option MeterView) (before later : List LegOperation) (answer : Remote) → list_all is_of_confirmed later ≡ true →
    (after_operations (record { dialogue = callee_dialogue peer invite; meter = meter }) (before ++ LearnsRemote answer ∷ later)).dialogue.remote_tag ≡ answer.tag
tag peer invite meter before later answer is =
    let leg : Leg = record { dialogue = callee_dialogue peer invite; meter = meter } in
    let d : Dialogue = (after_operations leg before).dialogue in
    ap (λ (l : Leg). l.dialogue.remote_tag) (after_both leg before (LearnsRemote answer ∷ later))
    ∙ (tag_stays (after_operation (after_operations leg before) (LearnsRemote answer)) later is ∙ tag_with_remote d answer (side_stays leg before))

pub routes : (peer : Peer) (invite : Message Start) (meter : Option MeterView) (before later : List LegOperation) (answer : Remote) → list_all is_of_confirmed later ≡ true →
    (after_operations (record { dialogue = callee_dialogue peer invite; meter = meter }) (before ++ LearnsRemote answer ∷ later)).dialogue.routes ≡ answer.routes
routes peer invite meter before later answer is =
    let leg : Leg = record { dialogue = callee_dialogue peer invite; meter = meter } in
    let d : Dialogue = (after_operations leg before).dialogue in
    ap (λ (l : Leg). l.dialogue.routes) (after_both leg before (LearnsRemote answer ∷ later))
    ∙ (routes_stay (after_operation (after_operations leg before) (LearnsRemote answer)) later is ∙ routes_with_remote d answer (side_stays leg before))

pub target : (peer : Peer) (invite : Message Start) (meter : Option MeterView) (before later : List LegOperation) (answer : Remote) → list_all is_of_confirmed later ≡ true → 0 < length answer.target →
    (after_operations (record { dialogue = callee_dialogue peer invite; meter = meter }) (before ++ LearnsRemote answer ∷ later)).dialogue.target ≡ answer.target
target peer invite meter before later answer is filled =
    let leg : Leg = record { dialogue = callee_dialogue peer invite; meter = meter } in
    let d : Dialogue = (after_operations leg before).dialogue in
    ap (λ (l : Leg). l.dialogue.target) (after_both leg before (LearnsRemote answer ∷ later))
    ∙ (target_stays (after_operation (after_operations leg before) (LearnsRemote answer)) later is ∙ target_with_remote answer.target d.target filled)
