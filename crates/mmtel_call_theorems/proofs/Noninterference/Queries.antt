-- The public part of a call determines the results of the queries of a table of calls on it.
use Rattle.std.proofs.Common.{◌≡◌, ℕ, ◌||◌, Bool, List, refl, ap, ◌∙◌, Option}
use Rattle.std.specs.Prelude.{is_some, position}
use Rattle.mmtel_output.specs.AbandonedInvites.{is_of_branch}
use Rattle.mmtel_rules.specs.declared.values.Identities2.{Identities2}
use Rattle.mmtel_transaction.specs.declared.words.TKey.{TKey}
use Rattle.mmtel_types.specs.declared.numbers.Peer.{Peer}
use Rattle.mmtel_call.specs.declared.calls.Call.{Call}
use Rattle.mmtel_call.specs.declared.calls.Phase.{Phase}
use Rattle.mmtel_call.specs.declared.calls.Phase.TheVariants.{Detached, Established, Offered, Over}
use Rattle.mmtel_call.specs.declared.calls.Stage.TheVariants.{Answered, Departing, Reinviting, Stable}
use Rattle.mmtel_call.specs.RelayedTransactions.{is_in_flight}
use Rattle.mmtel_call.specs.OtherRequests.{is_abandoned_key, is_answered_invite, is_answered_key}
use Rattle.mmtel_call.specs.Settled.{has_received, has_sent, is_over_in, is_settled}
use Rattle.mmtel_call.specs.Table.{current_invite, is_branch}
use Rattle.mmtel_call_theorems.specs.Noninterference.PublicParts.{PublicPartsDetermineQueries}
use Rattle.mmtel_call_theorems.specs.Noninterference.PublicCall.{public_abandoned, public_answered, public_call, public_phase, public_relayed}
use Rattle.mmtel_call_theorems.proofs.Noninterference.Places.{found, long}

module _ (known : Peer → Bool) where
  over_same : (p : Phase) → is_over_in (public_phase known p) ≡ is_over_in p
  over_same (Offered x) = refl
  over_same (Established x stage) = refl
  over_same (Detached detached) = refl
  over_same (Over cause) = refl

  branch_same : (branch : List ℕ) (p : Phase) → is_branch branch (current_invite (public_phase known p)) ≡ is_branch branch (current_invite p)
  branch_same branch (Offered x) = refl
  branch_same branch (Established x (Answered side success)) = refl
  branch_same branch (Established x (Departing side success)) = refl
  branch_same branch (Established x Stable) = refl
  branch_same branch (Established x (Reinviting side q)) = refl
  branch_same branch (Detached detached) = refl
  branch_same branch (Over cause) = refl

  settled_same : (who : Identities2) (c : Call) → is_settled (public_call known who c) ≡ is_settled c
  unfolding is_settled
  settled_same who c = rw (over_same c.phase, long (public_abandoned known) c.abandoned, long (public_answered known) c.answered_invites) refl

  sent_same : (who : Identities2) (branch : List ℕ) (c : Call) → has_sent branch (public_call known who c) ≡ has_sent branch c
  unfolding has_sent
  sent_same who branch c =
      rw (
        found (public_abandoned known) (is_of_branch branch) (λ l. refl) c.abandoned,
        found (public_answered known) (is_answered_invite branch) (λ t. refl) c.answered_invites,
        found (public_relayed known) (is_in_flight branch) (λ flight. refl) c.relayed,
      )
      (ap (λ (b : Bool). b || (is_some (position (is_of_branch branch) c.abandoned) || (is_some (position (is_answered_invite branch) c.answered_invites) || is_some (position (is_in_flight branch) c.relayed))))
      (branch_same branch c.phase))

  received_same : (who : Identities2) (key : TKey) (c : Call) → has_received key (public_call known who c) ≡ has_received key c
  unfolding has_received
  received_same who key c =
      ap (λ (o : Option ℕ). is_some o || is_some (position (is_answered_key key) (public_call known who c).answered_invites)) (found (public_abandoned known) (is_abandoned_key key) (λ l. refl) c.abandoned)
      ∙ ap (λ (o : Option ℕ). is_some (position (is_abandoned_key key) c.abandoned) || is_some o) (found (public_answered known) (is_answered_key key) (λ t. refl) c.answered_invites)

pub public_parts_determine_queries : PublicPartsDetermineQueries
public_parts_determine_queries = record {
  over = λ known who c. over_same known c.phase;
  settled = λ known who c. settled_same known who c;
  sent = λ known who branch c. sent_same known who branch c;
  received = λ known who key c. received_same known who key c;
}
