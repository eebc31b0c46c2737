-- They compute, once the heads are substituted.
use Rattle.std.proofs.Common.{◌≡◌, ℕ, zero, suc, List, [], ◌∷◌, drop, true, false, ◌&&◌, append-nil, codes, refl, ap, ◌∙◌}
use Rattle.std.specs.Prelude.{Some, None, nat_le, nat_lt}
use Rattle.mmtel_types.specs.declared.numbers.Peer.{Peer}
use Rattle.mmtel_message.specs.Message.{Message}
use Rattle.mmtel_message.specs.Texts.{message_text}
use Rattle.mmtel_message.specs.declared.messages.Start.{Start}
use Rattle.mmtel_transaction.specs.Results.{DueEntryView, due_result, hear_result, next_due, tkey}
use Rattle.mmtel_transaction.specs.Operations.{TransactionOp, DidAck, DidAsk, DidFire, DidHear, DidReply, entry_of, live, openings}
use Rattle.mmtel_transaction.specs.Changes.{after_failure_ack, after_reply, change_of_key, new_client_entry, new_server_entry}
use Rattle.mmtel_transaction.specs.Heads.{head_of, reliable_number}
use Rattle.mmtel_transaction.specs.Theorems.{results_in_turn, retransmission}
use Rattle.mmtel_transaction.specs.declared.entries.Entry.{Entry}
use Rattle.mmtel_transaction.specs.declared.heads.Head.{Head}
use Rattle.mmtel_transaction.specs.declared.message_class.MessageClass.TheVariants as part
use Rattle.mmtel_transaction.specs.declared.words.Due.TheVariants as due
use Rattle.mmtel_transaction.specs.declared.words.Heard.TheVariants as heard
use Rattle.mmtel_transaction_examples.specs.Sequences.{EndsAfterTheAck, RetransmittedInvite, SecondTimeout, Timeout, peer}
use Rattle.mmtel_transaction_examples.proofs.Stages.{fires_one, fresh, front, last_turn, next, not_numbered, replies, retransmission_gives, turn}
use Rattle.mmtel_transaction_examples.proofs.WorkedHeads.{Worked, known, worked}

-- ---- a timeout

-- an INVITE of this branch that is sent at t, and whose deadline fired so often
abbrev asked : Peer → Message Start → ℕ → ℕ → List TransactionOp
asked p m t zero = DidAsk p m t ∷ []
asked p m t (suc k) = DidFire 0 ∷ asked p m t k

abbrev shot : Peer → Message Start → ℕ → List ℕ → ℕ → Entry
shot p m t branch k = record (new_client_entry 0 0 0 p (known true 0 branch) (message_text m) t) { retransmissions = k }

abbrev shot_at : Peer → Message Start → ℕ → List ℕ → ℕ → ℕ → DueEntryView
shot_at p m t branch at k = record { at = at; entry = shot p m t branch k }

module _ (p : Peer) (m : Message Start) (t : ℕ) (branch : List ℕ) (is : head_of m ≡ known true 0 branch) where
  asked_opens : (k : ℕ) → openings (asked p m t k) ≡ shot p m t branch 0 ∷ []
  asked_opens zero = ap (λ (x : Head). new_client_entry 0 0 0 p x (message_text m) t ∷ []) is
  asked_opens (suc k) = append-nil (openings (asked p m t k)) ∙ asked_opens k

  abbrev IsAt : ℕ → Type 0
  IsAt k = entry_of (asked p m t k) (shot p m t branch 0) ≡ shot p m t branch k

  at_1 : IsAt 1
  at_1 = fires_one (asked p m t 0) (shot p m t branch 0) (shot p m t branch 0) refl refl

  at_2 : IsAt 2
  at_2 = fires_one (asked p m t 1) (shot p m t branch 0) (shot p m t branch 1) refl at_1

  at_3 : IsAt 3
  at_3 = fires_one (asked p m t 2) (shot p m t branch 0) (shot p m t branch 2) refl at_2

  at_4 : IsAt 4
  at_4 = fires_one (asked p m t 3) (shot p m t branch 0) (shot p m t branch 3) refl at_3

  at_5 : IsAt 5
  at_5 = fires_one (asked p m t 4) (shot p m t branch 0) (shot p m t branch 4) refl at_4

  at_6 : IsAt 6
  at_6 = fires_one (asked p m t 5) (shot p m t branch 0) (shot p m t branch 5) refl at_5

  stands : (k : ℕ) → IsAt k → live (asked p m t k) ≡ shot p m t branch k ∷ []
  stands k at = front (asked p m t k) (shot p m t branch 0) (shot p m t branch k) [] (asked_opens k) at

  given_up : live (asked p m t 7) ≡ []
  given_up = front (asked p m t 7) (shot p m t branch 0) (record (shot p m t branch 6) { is_terminated = true }) [] (asked_opens 7)
      (fires_one (asked p m t 6) (shot p m t branch 0) (shot p m t branch 6) refl at_6)

timeout_of : (c : Worked) → results_in_turn 8 40000 (DidAsk (peer 1) c.first 0 ∷ []) ≡ retransmission (peer 1) c.first 0 500 ∷ retransmission (peer 1) c.first 0 1500
    ∷ retransmission (peer 1) c.first 0 3500 ∷ retransmission (peer 1) c.first 0 7500 ∷ retransmission (peer 1) c.first 0 15500
    ∷ retransmission (peer 1) c.first 0 31500 ∷ due.Silent (tkey 0) (codes "a") (codes "INVITE") 32000 ∷ due.Nothing ∷ []
timeout_of c =
    let p : Peer = peer 1 in
    let m : Message Start = c.first in
    let a : List ℕ = codes "a" in
    let e = c.of_first in
    turn 7 40000 (asked p m 0 0) (shot p m 0 a 0) (shot_at p m 0 a 500 0) _ _ (stands p m 0 a e 0 refl) refl refl
    (turn 6 40000 (asked p m 0 1) (shot p m 0 a 1) (shot_at p m 0 a 1500 1) _ _ (stands p m 0 a e 1 (at_1 p m 0 a e)) refl refl
    (turn 5 40000 (asked p m 0 2) (shot p m 0 a 2) (shot_at p m 0 a 3500 2) _ _ (stands p m 0 a e 2 (at_2 p m 0 a e)) refl refl
    (turn 4 40000 (asked p m 0 3) (shot p m 0 a 3) (shot_at p m 0 a 7500 3) _ _ (stands p m 0 a e 3 (at_3 p m 0 a e)) refl refl
    (turn 3 40000 (asked p m 0 4) (shot p m 0 a 4) (shot_at p m 0 a 15500 4) _ _ (stands p m 0 a e 4 (at_4 p m 0 a e)) refl refl
    (turn 2 40000 (asked p m 0 5) (shot p m 0 a 5) (shot_at p m 0 a 31500 5) _ _ (stands p m 0 a e 5 (at_5 p m 0 a e)) refl refl
    (turn 1 40000 (asked p m 0 6) (shot p m 0 a 6) (shot_at p m 0 a 32000 6) _ _ (stands p m 0 a e 6 (at_6 p m 0 a e)) refl refl
    (last_turn 40000 (asked p m 0 7) [] due.Nothing (given_up p m 0 a e) refl)))))))

pub timeout : Timeout
timeout = timeout_of worked

second_of : (c : Worked) → results_in_turn 5 40000 (DidAsk (peer 2) c.second 32000 ∷ []) ≡ retransmission (peer 2) c.second 32000 500 ∷ retransmission (peer 2) c.second 32000 1500
    ∷ retransmission (peer 2) c.second 32000 3500 ∷ retransmission (peer 2) c.second 32000 7500 ∷ due.Nothing ∷ []
second_of c =
    let p : Peer = peer 2 in
    let m : Message Start = c.second in
    let b : List ℕ = codes "b" in
    let e = c.of_second in
    turn 4 40000 (asked p m 32000 0) (shot p m 32000 b 0) (shot_at p m 32000 b 32500 0) _ _ (stands p m 32000 b e 0 refl) refl refl
    (turn 3 40000 (asked p m 32000 1) (shot p m 32000 b 1) (shot_at p m 32000 b 33500 1) _ _ (stands p m 32000 b e 1 (at_1 p m 32000 b e)) refl refl
    (turn 2 40000 (asked p m 32000 2) (shot p m 32000 b 2) (shot_at p m 32000 b 35500 2) _ _ (stands p m 32000 b e 2 (at_2 p m 32000 b e)) refl refl
    (turn 1 40000 (asked p m 32000 3) (shot p m 32000 b 3) (shot_at p m 32000 b 39500 3) _ _ (stands p m 32000 b e 3 (at_3 p m 32000 b e)) refl refl
    (last_turn 40000 (asked p m 32000 4) (shot p m 32000 b 4 ∷ []) due.Nothing (stands p m 32000 b e 4 (at_4 p m 32000 b e)) refl))))

pub second_timeout : SecondTimeout
second_timeout = second_of worked

-- ---- the retransmitted INVITE

abbrev invite : Head
invite = known true 0 (codes "a")

-- the transaction when the INVITE opens it
abbrev opening : Entry
opening = new_server_entry 0 0 (peer 1) invite 0

module _ (c : Worked) where
  abbrev heard_1 : List TransactionOp
  heard_1 = DidHear (peer 1) c.first 0 part.Fresh ∷ []

  abbrev asked_2 : List TransactionOp
  asked_2 = DidAsk (peer 2) c.second 0 ∷ DidReply 0 c.trying 0 ∷ heard_1

  abbrev rings_2 : List TransactionOp
  rings_2 = DidHear (peer 2) c.peer_rings 100 (part.Answer 1) ∷ asked_2

  abbrev after_ringing : List TransactionOp
  after_ringing = DidReply 0 c.rings 100 ∷ rings_2

  abbrev again_1 : List TransactionOp
  again_1 = DidHear (peer 1) c.first 200 (part.Repeat 0) ∷ after_ringing

  abbrev busy_2 : List TransactionOp
  busy_2 = DidHear (peer 2) c.peer_busy 300 (part.Answer 1) ∷ again_1

  abbrev acked_2 : List TransactionOp
  acked_2 = DidAck 1 c.peer_ack ∷ busy_2

  abbrev refused : List TransactionOp
  refused = DidReply 0 c.busy 300 ∷ acked_2

  abbrev later_1 : List TransactionOp
  later_1 = DidHear (peer 1) c.first 350 (part.Repeat 0) ∷ refused

  abbrev after_acknowledging : List TransactionOp
  after_acknowledging = DidHear (peer 1) c.ack 400 (part.Acked 0) ∷ later_1

  -- the transaction with the 100, the 180, the 486 and the ACK
  abbrev tried : Entry
  tried = record opening { last = Some (message_text c.trying) }

  abbrev rung : Entry
  rung = record opening { last = Some (message_text c.rings) }

  abbrev with_busy : Entry
  with_busy = change_of_key 0 (after_reply 0 3 486 (message_text c.busy) (codes "b") 300) rung

  abbrev with_ack : Entry
  with_ack = change_of_key 0 (after_failure_ack 0 400) with_busy

  plain : (m : Message Start) (status : ℕ) → head_of m ≡ known false status (codes "a") → (nat_le 101 status && nat_lt status 200) ≡ false → reliable_number m ≡ None
  plain m status is out = not_numbered m (known false status (codes "a")) is out

  is_tried : entry_of rings_2 opening ≡ tried
  is_tried =
      next (DidHear (peer 2) c.peer_rings 100 (part.Answer 1)) asked_2 opening tried tried refl
      (next (DidAsk (peer 2) c.second 0) (DidReply 0 c.trying 0 ∷ heard_1) opening tried tried refl
      (next (DidReply 0 c.trying 0) heard_1 opening opening tried refl refl (replies 0 c.trying 0 0 0 opening (known false 100 (codes "a")) (plain c.trying 100 c.of_trying refl) c.of_trying)) refl) refl

  is_rung : entry_of after_ringing opening ≡ rung
  is_rung = next (DidReply 0 c.rings 100) rings_2 opening tried rung refl is_tried (replies 0 c.rings 100 0 2 tried (known false 180 (codes "a")) c.plain_rings c.of_rings)

  is_rung_still : entry_of acked_2 opening ≡ rung
  is_rung_still =
      next (DidAck 1 c.peer_ack) busy_2 opening rung rung refl
      (next (DidHear (peer 2) c.peer_busy 300 (part.Answer 1)) again_1 opening rung rung refl
      (next (DidHear (peer 1) c.first 200 (part.Repeat 0)) after_ringing opening rung rung refl is_rung refl) refl) refl

  is_busy : entry_of refused opening ≡ with_busy
  is_busy = next (DidReply 0 c.busy 300) acked_2 opening rung with_busy refl is_rung_still (replies 0 c.busy 300 0 3 rung (known false 486 (codes "a")) (plain c.busy 486 c.of_busy refl) c.of_busy)

  is_acked : entry_of after_acknowledging opening ≡ with_ack
  is_acked =
      next (DidHear (peer 1) c.ack 400 (part.Acked 0)) later_1 opening with_busy with_ack refl
      (next (DidHear (peer 1) c.first 350 (part.Repeat 0)) refused opening with_busy with_busy refl is_busy refl) refl

  opened_as : (more : List Entry) → new_server_entry 0 0 (peer 1) (head_of c.first) 0 ∷ more ≡ opening ∷ more
  opened_as more = ap (λ (x : Head). new_server_entry 0 0 (peer 1) x 0 ∷ more) c.of_first

  opens : hear_result [] (peer 1) c.first ≡ Some (heard.Fresh (tkey 0) c.first)
  opens = fresh [] (peer 1) c.first invite [] refl c.of_first refl

  ringing_retransmission : hear_result after_ringing (peer 1) c.first ≡ Some (heard.Repeat (Some (peer 1, message_text c.rings)))
  ringing_retransmission = retransmission_gives after_ringing (peer 1) c.first invite _ 0
      (front after_ringing opening rung (drop 1 (openings after_ringing)) (opened_as (drop 1 (openings after_ringing))) is_rung) c.of_first refl

  refused_again : hear_result refused (peer 1) c.first ≡ Some (heard.Repeat (Some (peer 1, message_text c.busy)))
  refused_again = retransmission_gives refused (peer 1) c.first invite _ 0 (front refused opening with_busy (drop 1 (openings refused)) (opened_as (drop 1 (openings refused))) is_busy) c.of_first refl

  nothing_again : hear_result after_acknowledging (peer 1) c.first ≡ Some (heard.Repeat None)
  nothing_again = retransmission_gives after_acknowledging (peer 1) c.first invite _ 0
      (front after_acknowledging opening with_ack (drop 1 (openings after_acknowledging)) (opened_as (drop 1 (openings after_acknowledging))) is_acked) c.of_first refl

  -- ---- the caller's side alone

  abbrev callers_busy : List TransactionOp
  callers_busy = DidReply 0 c.busy 300 ∷ heard_1

  abbrev callers_side : List TransactionOp
  callers_side = DidHear (peer 1) c.ack 400 (part.Acked 0) ∷ callers_busy

  abbrev first_busy : Entry
  first_busy = change_of_key 0 (after_reply 0 0 486 (message_text c.busy) (codes "b") 300) opening

  abbrev first_acked : Entry
  first_acked = change_of_key 0 (after_failure_ack 0 400) first_busy

  is_first_acked : entry_of callers_side opening ≡ first_acked
  is_first_acked =
      next (DidHear (peer 1) c.ack 400 (part.Acked 0)) callers_busy opening first_busy first_acked refl
      (next (DidReply 0 c.busy 300) heard_1 opening opening first_busy refl refl (replies 0 c.busy 300 0 0 opening (known false 486 (codes "a")) (plain c.busy 486 c.of_busy refl) c.of_busy)) refl

  callers_live : live callers_side ≡ first_acked ∷ []
  callers_live = front callers_side opening first_acked [] (opened_as []) is_first_acked

  waits_after : due_result (next_due 5399 (live callers_side)) ≡ due.Nothing
  waits_after = ap (λ (es : List Entry). due_result (next_due 5399 es)) callers_live

  ends_after : due_result (next_due 5400 (live callers_side)) ≡ due.Over (tkey 0) 5400
  ends_after = ap (λ (es : List Entry). due_result (next_due 5400 es)) callers_live

  none_live : live (DidFire 0 ∷ callers_side) ≡ []
  none_live = front (DidFire 0 ∷ callers_side) opening (record first_acked { is_terminated = true }) [] (opened_as []) (fires_one callers_side opening first_acked refl is_first_acked)

  opens_after : hear_result (DidFire 0 ∷ callers_side) (peer 1) c.first ≡ Some (heard.Fresh (tkey 1) c.first)
  opens_after = fresh (DidFire 0 ∷ callers_side) (peer 1) c.first invite [] none_live c.of_first refl

pub retransmitted_invite : RetransmittedInvite
retransmitted_invite = record { opens = opens worked; ringing_again = ringing_retransmission worked; refused_again = refused_again worked; nothing_again = nothing_again worked }

pub ends_after_the_ack : EndsAfterTheAck
ends_after_the_ack = record { waits = waits_after worked; ends = ends_after worked; opens = opens_after worked }
