-- The state of the responses represents the list of operations after one more operation.
use Rattle.std.proofs.Common.{◌≡◌, ℕ, ◌+◌, List, [], ◌∷◌, ◌++◌, length, drop, Option, Some, None, is_some, if◌then◌else◌, refl, sym, ap, ◌∙◌}
use Rattle.mmtel_reliable.specs.Acks.{AcksView, after_ack, after_relay, next_attempt, no_responses, own_number, response_acknowledged_by, with_response}
use Rattle.mmtel_reliable.specs.Traces.{AcksOperation, Event, Represents, acks_after, events_of, events_with_ack, events_with_relay, last_number, relayed_responses, unacknowledged_responses}
use Rattle.mmtel_reliable.specs.Traces.{Relays, Acknowledges, LeavesAttempt}
use Rattle.mmtel_reliable.specs.Traces.{Relayed, Acknowledged}
use Rattle.mmtel_reliable.specs.declared.racks.Rack.{Rack}
use Rattle.mmtel_reliable.specs.declared.acks.ReliableResponse.{ReliableResponse}
use Rattle.mmtel_reliable.proofs.EventTheorems.{assigned_next, kept, named_first, one_more, unacknowledged_acknowledged, unacknowledged_relayed}

pub begins : (cseq : ℕ) → Represents (no_responses cseq) []
begins cseq = record { state = refl }

module _ (acks : AcksView) (ops : List AcksOperation) (stands : Represents acks ops) where
  abbrev before : List Event
  before = events_of acks.cseq ops

  abbrev view : (given : ℕ) (last : Option ℕ) (waiting : List ReliableResponse) → AcksView
  view given last waiting = record { cseq = acks.cseq; assigned = given; last_relayed = last; waiting = waiting }

  pub stands_relayed : (rseq : ℕ) → Represents (after_relay rseq acks) (Relays rseq ∷ ops)
  stands_relayed rseq = by_number (own_number rseq acks) (ap (own_number rseq) (sym stands.state))
    where
      by_number : (o : Option ℕ) → own_number rseq (acks_after acks.cseq before) ≡ o → Represents (with_response rseq o acks) (Relays rseq ∷ ops)
      by_number None e = record { state = stands.state ∙ ap (λ (o : Option ℕ). acks_after acks.cseq (events_with_relay rseq o before)) (sym e) }
      by_number (Some own) e =
          let next : own ≡ length (relayed_responses before) + 1 = assigned_next rseq own (acks_after acks.cseq before) e in
          let answer : ReliableResponse = record { own = own; callee = rseq } in
          let waiting : acks.waiting ++ answer ∷ [] ≡ unacknowledged_responses (Relayed answer ∷ before) =
          ap (λ (a : AcksView). a.waiting ++ answer ∷ []) stands.state ∙ sym (unacknowledged_relayed before answer (kept acks.cseq ops) next) in
          let given : own ≡ length (relayed_responses (Relayed answer ∷ before)) = next ∙ sym (one_more before answer) in
          record {
            state =
                ap (λ (w : List ReliableResponse). view own (Some rseq) w) waiting
                ∙ ap (λ (n : ℕ). view n (Some rseq) (unacknowledged_responses (Relayed answer ∷ before))) given
                ∙ ap (λ (o : Option ℕ). acks_after acks.cseq (events_with_relay rseq o before)) (sym e);
          }

  pub stands_acknowledged : (rack : Rack) → Represents (after_ack rack acks) (Acknowledges rack ∷ ops)
  stands_acknowledged rack = by_name (response_acknowledged_by rack acks.cseq acks.waiting) (ap (λ (a : AcksView). response_acknowledged_by rack acks.cseq a.waiting) (sym stands.state))
    where
      by_name : (o : Option ReliableResponse) → response_acknowledged_by rack acks.cseq (unacknowledged_responses before) ≡ o
          → Represents (if is_some o then record acks { waiting = drop 1 acks.waiting } else acks) (Acknowledges rack ∷ ops)
      by_name None e = record { state = stands.state ∙ ap (λ (o : Option ReliableResponse). acks_after acks.cseq (events_with_ack o before)) (sym e) }
      by_name (Some answer) e =
          let first = named_first rack acks.cseq (unacknowledged_responses before) answer e in
          let given : acks.assigned ≡ length (relayed_responses before) = ap (λ (a : AcksView). a.assigned) stands.state in
          let last : acks.last_relayed ≡ last_number before = ap (λ (a : AcksView). a.last_relayed) stands.state in
          let waiting : drop 1 acks.waiting ≡ unacknowledged_responses (Acknowledged answer ∷ before) =
          ap (λ (a : AcksView). drop 1 a.waiting) stands.state ∙ ap (drop 1) first.1 ∙ sym (unacknowledged_acknowledged before answer first.0 (kept acks.cseq ops) first.1) in
          record {
            state =
                ap (λ (w : List ReliableResponse). view acks.assigned acks.last_relayed w) waiting
                ∙ ap (λ (n : ℕ). view n acks.last_relayed (unacknowledged_responses (Acknowledged answer ∷ before))) given
                ∙ ap (λ (o : Option ℕ). view (length (relayed_responses before)) o (unacknowledged_responses (Acknowledged answer ∷ before))) last
                ∙ ap (λ (o : Option ReliableResponse). acks_after acks.cseq (events_with_ack o before)) (sym e);
          }

  pub stands_left : Represents (next_attempt acks) (LeavesAttempt ∷ ops)
  stands_left = record { state = ap (λ (n : ℕ). view n None []) (ap (λ (a : AcksView). a.assigned) stands.state) }
