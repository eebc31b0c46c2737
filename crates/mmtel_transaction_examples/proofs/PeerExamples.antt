-- They compute, once the heads are substituted.
use Rattle.std.proofs.Common.{◌≡◌, [], ◌∷◌, refl, ap, List, ℕ}
use Rattle.std.specs.Prelude.{Some, None}
use Rattle.mmtel_message.specs.Texts.{message_text}
use Rattle.mmtel_transaction.specs.Equivalence.{Equivalent, blank_due}
use Rattle.mmtel_transaction.specs.Results.{due_result, hear_result, next_due, peer_of, upcoming_of}
use Rattle.mmtel_transaction.specs.Operations.{DidFire, DidHear, live}
use Rattle.mmtel_transaction.specs.declared.message_class.MessageClass.TheVariants as part
use Rattle.mmtel_transaction.specs.declared.words.Due.TheVariants as due
use Rattle.mmtel_transaction.specs.declared.words.Heard.TheVariants as heard
use Rattle.mmtel_transaction_examples.specs.CallMessages.{Messages, after_busy, peer, sent_invite}
use Rattle.mmtel_transaction.specs.declared.entries.Entry.{Entry}
use Rattle.mmtel_transaction_examples.proofs.CallPlain.{plain_busy}
use Rattle.mmtel_transaction_examples.specs.PeerExamples.{PeersExample, TextsExample, relayed_invite, trusts_none, trusts_two}

-- the request of the first transaction
abbrev request_in : List Entry → List ℕ
request_in [] = []
request_in (e ∷ es) = e.request

texts_alike : (c d : Messages) → Equivalent trusts_two (sent_invite c) (sent_invite d)
texts_alike c d = record { step = refl; send_count = refl; next = refl; live = rw (c.of_invite, d.of_invite) refl }

texts_deadline : (c : Messages) → upcoming_of (next_due 40000 (live (sent_invite c))) ≡ Some (500, 0)
texts_deadline c = rw c.of_invite refl

texts_says : (c : Messages) → due_result (next_due 500 (live (sent_invite c))) ≡ due.Again (peer 2) 500 (message_text c.invite)
texts_says c = rw c.of_invite refl

texts_without : (c : Messages) → blank_due trusts_two (due_result (next_due 500 (live (sent_invite c)))) ≡ due.Again (peer 2) 500 []
texts_without c = rw c.of_invite refl

texts_strangers : (c d : Messages) → Equivalent trusts_none (sent_invite c) (sent_invite d) → message_text c.invite ≡ message_text d.invite
texts_strangers c d a = ap request_in a.live

pub texts : TextsExample
texts = record { equivalent = texts_alike; deadline = texts_deadline; reports = texts_says; without = texts_without; strangers = texts_strangers }

peers_caller : (c : Messages) → peer_of 0 (live (relayed_invite c)) ≡ Some (peer 1)
peers_caller c = refl

peers_callee : (c : Messages) → peer_of 1 (live (relayed_invite c)) ≡ Some (peer 2)
peers_callee c = refl

peers_unopened : (c : Messages) → peer_of 2 (live (relayed_invite c)) ≡ None
peers_unopened c = refl

peers_kept : (c : Messages) → peer_of 0 (live (after_busy c)) ≡ Some (peer 1)
peers_kept c = rw (plain_busy c, c.of_busy) refl

peers_again : (c : Messages) → hear_result (after_busy c) (peer 1) c.invite ≡ Some (heard.Repeat (Some (peer 1, message_text c.busy)))
peers_again c = rw (plain_busy c, c.of_invite, c.of_busy) refl

peers_stranger : (c : Messages) → hear_result (after_busy c) (peer 3) c.invite ≡ Some (heard.Repeat None)
peers_stranger c = rw (plain_busy c, c.of_invite, c.of_busy) refl

peers_ended : (c : Messages) → peer_of 0 (live (DidFire 0 ∷ DidHear (peer 1) c.ack 400 (part.Acked 0) ∷ after_busy c)) ≡ None
peers_ended c = rw (plain_busy c, c.of_busy) refl

pub peers : PeersExample
peers = record { caller = peers_caller; callee = peers_callee; unopened = peers_unopened; kept = peers_kept; retransmission = peers_again; stranger = peers_stranger; ended = peers_ended }
