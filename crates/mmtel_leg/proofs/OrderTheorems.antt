-- The requests of a leg are received in order on the other side (RFC 3261 §12.2.2), and an ACK has the number of its INVITE (§13.2.2.4).
use Rattle.std.proofs.Common.{◌∙◌, ◌≡◌, ◌<◌, ◌≤◌, ◌+◌, ◌^◌, Bool, true, false, not, ℕ, nat_lt, List, [], ◌∷◌, Option, Some, None, Result, Ok, Err, ap, arith, codes, refl, sym}
use Rattle.std.specs.List.{list_all}
use Rattle.std.specs.Option.{unwrap_or}
use Rattle.std.specs.Str.{bytes_eq}
use Rattle.std.proofs.lemmas.Bool.Decides.{nat_tests}
use Rattle.mmtel_base.specs.Chain.{◌>>=◌}
use Rattle.mmtel_base.specs.Classes.{in_class}
use Rattle.mmtel_base.proofs.Runs.{and_true}
use Rattle.mmtel_lex.specs.Grammar.{IsToken}
use Rattle.mmtel_charging.specs.Meters.{MeterView}
use Rattle.mmtel_types.specs.declared.numbers.Peer.{Peer}
use Rattle.mmtel_message.specs.Faults.{is_method}
use Rattle.mmtel_message.specs.Fields.{cseq_at}
use Rattle.mmtel_message.specs.Message.{Message}
use Rattle.mmtel_message.specs.declared.messages.Start.{Start}
use Rattle.mmtel_base.specs.Numbers.{next_number}
use Rattle.mmtel_leg.specs.Dialogues.{after_receiving, after_request, callee_dialogue, last_after, number_at, number_in, receive_result, unless_busy, unless_old}
use Rattle.mmtel_leg.specs.declared.dialogues.Dialogue.{Dialogue}
use Rattle.mmtel_leg.specs.declared.dialogues.DialogueFault.{DialogueFault}
use Rattle.mmtel_leg.specs.declared.dialogues.InFlight.TheVariants as in_flight
use Rattle.mmtel_leg.specs.Operations.{HasNumber, HaveOneNumber, IsNotBelow, LegOperation, ReadsAs, ReceivesEach, after_operation, after_operations, after_result, is_not_invite, requests}
use Rattle.mmtel_leg.specs.Operations.LegOperation.{LearnsRemote, SendsRequest, ReceivesRequest, SwapsMeter}
use Rattle.mmtel_leg.specs.Legs.{Leg}
use Rattle.mmtel_leg.specs.Requests.{RequestPartsView, ack_of, cseq_text, request_of}
use Rattle.mmtel_leg.proofs.OperationTheorems.{own_stays}
use Rattle.mmtel_leg.proofs.LineTheorems.{cseq}
use Rattle.mmtel_leg.proofs.ReadTheorems.{cseq_again, number_is}

-- ---- what is read of a request

pub request_reads : (d : Dialogue) (method : List ℕ) (given : RequestPartsView) → d.local_cseq + 1 < 2 ^ 31 → IsToken method → ReadsAs (d.local_cseq + 1) method (request_of d method given)
request_reads d method given small token =
    let next : next_number d.local_cseq ≡ d.local_cseq + 1 = omega arith in
    ap (λ (o : Option (List ℕ)). o >>= cseq_at) (cseq d (next_number d.local_cseq) method given) ∙ (ap (λ (n : ℕ). cseq_at (cseq_text n method)) next ∙ cseq_again (d.local_cseq + 1) method small token)

ack_token : IsToken (codes "ACK")
unfolding in_class
ack_token = record { filled = omega arith; each = refl }

pub ack_reads : (d : Dialogue) (given : RequestPartsView) → unwrap_or d.invite_cseq 0 < 2 ^ 31 → ReadsAs (unwrap_or d.invite_cseq 0) (codes "ACK") (ack_of d given)
ack_reads d given small =
    ap (λ (o : Option (List ℕ)). o >>= cseq_at) (cseq d (unwrap_or d.invite_cseq 0) (codes "ACK") given) ∙ cseq_again (unwrap_or d.invite_cseq 0) (codes "ACK") small ack_token

-- ---- what is received of the requests

number_of_request : (d : Dialogue) (n : ℕ) (method : List ℕ) (given : RequestPartsView) → number_in (request_of d method given).lines ≡ number_at (cseq_text (next_number d.local_cseq) method)
unfolding number_in
number_of_request d n method given = ap (λ (o : Option (List ℕ)). o >>= number_at) (cseq d (next_number d.local_cseq) method given)

-- a number that is read is k, which is not less than the one that was received
in_turn : (o last : Option ℕ) (n k : ℕ) (invite : Bool) → ((j : ℕ) → o ≡ Some j → j ≡ k) → n ≤ k → IsNotBelow last (Some n) →
    (unless_old o last (unless_busy invite in_flight.None) ≡ Ok tt) × IsNotBelow (last_after o last) (Some k)
in_turn None None n k invite is le below = (refl, tt)
in_turn None (Some l) n k invite is le below = (refl, omega arith)
in_turn (Some j) None n k invite is le below =
    let same : j ≡ k = is j refl in
    (refl, omega arith)
in_turn (Some j) (Some l) n k invite is le below =
    let same : j ≡ k = is j refl in
    let later : nat_lt j l ≡ false = grind (arith, nat_tests) in
    (rw later refl, omega arith)

received_from : (leg : Leg) (ops : List LegOperation) (other : Dialogue) (n : ℕ) → leg.dialogue.local_cseq ≡ n → n < 2 ^ 64 → IsNotBelow other.remote_cseq (Some n) → ReceivesEach other (requests leg ops)
received_from leg [] other n own small below = tt
received_from leg (LearnsRemote remote ∷ ops) other n own small below = received_from (after_operation leg (LearnsRemote remote)) ops other n own small below
received_from leg (SendsRequest method given ∷ ops) other n own small below =
    let request : Message Start = request_of leg.dialogue method given in
    let k : ℕ = next_number leg.dialogue.local_cseq in
    let fits : k < 2 ^ 64 = omega arith in
    let le : n ≤ k = omega (arith, own, small) in
    let turn = in_turn (number_in request.lines) other.remote_cseq n k (is_method (codes "INVITE") request.start) (λ j e. number_is k j method fits (sym (number_of_request leg.dialogue n method given) ∙ e)) le below in
    (turn.0, received_from (after_operation leg (SendsRequest method given)) ops (after_receiving other request) k refl fits turn.1)
received_from leg (ReceivesRequest request busy ∷ ops) other n own small below =
    received_from (after_operation leg (ReceivesRequest request busy)) ops other n (own_stays (receive_result leg.dialogue request busy) leg.dialogue request ∙ own) small below
received_from leg (SwapsMeter meter ∷ ops) other n own small below = received_from (after_operation leg (SwapsMeter meter)) ops other n own small below

pub received : (leg : Leg) (ops : List LegOperation) (other : Dialogue) → leg.dialogue.local_cseq < 2 ^ 64 → IsNotBelow other.remote_cseq (Some leg.dialogue.local_cseq) → ReceivesEach other (requests leg ops)
received leg ops other small below = received_from leg ops other leg.dialogue.local_cseq refl small below

-- ---- the number of an ACK

not_so : (b : Bool) → not b ≡ true → b ≡ false
not_so true e = absurd cc
not_so false e = refl

invited_received : (answer : Result (Unit {0}) DialogueFault) (d : Dialogue) (request : Message Start) → (after_result answer d request).invite_cseq ≡ d.invite_cseq
invited_received (Ok done) d request = refl
invited_received (Err fault) d request = refl

invited_requested : (d : Dialogue) (method : List ℕ) → not (bytes_eq method (codes "INVITE")) ≡ true → (after_request d method).invite_cseq ≡ d.invite_cseq
invited_requested d method other = rw (not_so (bytes_eq method (codes "INVITE")) other) refl

invited_stays : (leg : Leg) (ops : List LegOperation) → list_all is_not_invite ops ≡ true → (after_operations leg ops).dialogue.invite_cseq ≡ leg.dialogue.invite_cseq
invited_stays leg [] others = refl
invited_stays leg (LearnsRemote remote ∷ ops) others = invited_stays (after_operation leg (LearnsRemote remote)) ops others
invited_stays leg (SendsRequest method given ∷ ops) others =
    let both = and_true (not (bytes_eq method (codes "INVITE"))) (list_all is_not_invite ops) others in
    invited_stays (after_operation leg (SendsRequest method given)) ops both.1 ∙ invited_requested leg.dialogue method both.0
invited_stays leg (ReceivesRequest request busy ∷ ops) others =
    invited_stays (after_operation leg (ReceivesRequest request busy)) ops others ∙ invited_received (receive_result leg.dialogue request busy) leg.dialogue request
invited_stays leg (SwapsMeter meter ∷ ops) others = invited_stays (after_operation leg (SwapsMeter meter)) ops others

ack_has : (d : Dialogue) (n : ℕ) (ack : RequestPartsView) → d.invite_cseq ≡ Some n → HasNumber n (ack_of d ack)
ack_has d n ack e = (codes "ACK", cseq d (unwrap_or d.invite_cseq 0) (codes "ACK") ack ∙ ap (λ (o : Option ℕ). Some (cseq_text (unwrap_or o 0) (codes "ACK"))) e)

pub made : (leg : Leg) (invite ack : RequestPartsView) (ops : List LegOperation) → list_all is_not_invite ops ≡ true →
    HaveOneNumber (request_of leg.dialogue (codes "INVITE") invite) (ack_of (after_operations (after_operation leg (SendsRequest (codes "INVITE") invite)) ops).dialogue ack)
made leg invite ack ops others =
    let n : ℕ = next_number leg.dialogue.local_cseq in
    let asked : Leg = after_operation leg (SendsRequest (codes "INVITE") invite) in
    (n, ((codes "INVITE", cseq leg.dialogue n (codes "INVITE") invite), ack_has (after_operations asked ops).dialogue n ack (invited_stays asked ops others)))

pub begun : (peer : Peer) (invite : Message Start) (n : ℕ) (meter : Option MeterView) (ack : RequestPartsView) (ops : List LegOperation) → number_in invite.lines ≡ Some n →
    list_all is_not_invite ops ≡ true → HasNumber n (ack_of (after_operations (record { dialogue = callee_dialogue peer invite; meter = meter }) ops).dialogue ack)
begun peer invite n meter ack ops number others =
    let leg : Leg = record { dialogue = callee_dialogue peer invite; meter = meter } in
    ack_has (after_operations leg ops).dialogue n ack (invited_stays leg ops others ∙ number)
