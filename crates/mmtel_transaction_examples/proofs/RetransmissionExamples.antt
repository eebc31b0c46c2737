-- They compute, once the heads are substituted.
use Rattle.std.proofs.Common.{◌≡◌, ◌∙◌, ℕ, true, List, [], ◌∷◌, refl, ap, codes}
use Rattle.std.specs.Prelude.{None, Some, filter}
use Rattle.mmtel_message.specs.Texts.{message_text}
use Rattle.mmtel_transaction.specs.Results.{due_result, hear_result, next_due, tkey}
use Rattle.mmtel_transaction.specs.Operations.{TransactionOp, DidAck, DidFire, DidHear, DidReply, DidSettle, entry_of, is_live, live, openings}
use Rattle.mmtel_transaction.specs.Changes.{after_ack_2xx, after_failure_ack, after_reply, after_response, change_of_key, new_client_entry, new_server_entry}
use Rattle.mmtel_transaction.specs.Heads.{head_of, reliable_number}
use Rattle.mmtel_transaction.specs.declared.entries.Entry.{Entry}
use Rattle.mmtel_transaction.specs.declared.entries.ReliableResponse.{ReliableResponse}
use Rattle.mmtel_transaction.specs.declared.heads.Head.{Head}
use Rattle.mmtel_transaction.specs.declared.message_class.MessageClass.TheVariants as part
use Rattle.mmtel_transaction.specs.declared.words.Due.TheVariants as due
use Rattle.mmtel_transaction.specs.declared.words.Heard.TheVariants as heard
use Rattle.mmtel_transaction_examples.specs.CallMessages.{Messages, after_acceptance, after_busy, peer, received_invite, request, response, sent_invite}
use Rattle.mmtel_transaction_examples.specs.RetransmissionExamples.{AcksReceivedAndKept, FinalAwaitsAck, InviteAmongOthers, ReliableAwaitsPrack, after_firings_of_first, after_options_response}
use Rattle.mmtel_transaction_examples.specs.RetransmissionExamples.{after_reliable_ringing, busy_retransmission, first_due, invite_and_options, invite_retransmission, ringing_retransmission}
use Rattle.mmtel_transaction_examples.proofs.CallPlain.{plain_busy, plain_success}
use Rattle.mmtel_transaction_examples.proofs.Stages.{fires_one, front, next, pair, replies, response_gives}

said_of : (h : List TransactionOp) (es : List Entry) → live h ≡ es → first_due h ≡ due_result (next_due 40000 es)
said_of h es l = ap (λ (xs : List Entry). due_result (next_due 40000 xs)) l

module _ (c : Messages) where
  -- ---- an INVITE, and an OPTIONS beside it

  abbrev invite : Head
  invite = request (codes "INVITE") (codes "i") []

  abbrev shot : ℕ → Entry
  shot k = record (new_client_entry 0 0 0 (peer 2) invite (message_text c.invite) 0) { retransmissions = k }

  abbrev other : Entry
  other = new_client_entry 0 1 1 (peer 3) (request (codes "OPTIONS") (codes "o") []) (message_text c.options) 200

  abbrev other_over : Entry
  other_over = record other { is_terminated = true }

  asked_opens : openings (sent_invite c) ≡ shot 0 ∷ []
  asked_opens = ap (λ (x : Head). new_client_entry 0 0 0 (peer 2) x (message_text c.invite) 0 ∷ []) c.of_invite

  both_open : openings (invite_and_options c) ≡ shot 0 ∷ other ∷ []
  both_open =
      ap (λ (x : Head). new_client_entry 0 0 0 (peer 2) x (message_text c.invite) 0 ∷ new_client_entry 0 1 1 (peer 3) (head_of c.options) (message_text c.options) 200 ∷ []) c.of_invite
      ∙ ap (λ (x : Head). shot 0 ∷ new_client_entry 0 1 1 (peer 3) x (message_text c.options) 200 ∷ []) c.of_options

  fired_both : entry_of (DidFire 0 ∷ invite_and_options c) (shot 0) ≡ shot 1
  fired_both = fires_one (invite_and_options c) (shot 0) (shot 0) refl refl

  other_both : entry_of (DidFire 0 ∷ invite_and_options c) other ≡ other
  other_both = next (DidFire 0) (invite_and_options c) other other other refl refl refl

  shot_1 : entry_of (after_options_response c) (shot 0) ≡ shot 1
  shot_1 = next (DidHear (peer 3) c.options_success 600 (part.Answer 1)) (DidFire 0 ∷ invite_and_options c) (shot 0) (shot 1) (shot 1) refl fired_both refl

  other_0 : entry_of (after_options_response c) other ≡ other_over
  other_0 = next (DidHear (peer 3) c.options_success 600 (part.Answer 1)) (DidFire 0 ∷ invite_and_options c) other other other_over refl other_both
      (response_gives (peer 3) 1 c.options_success 600 0 2 other (response 200 (codes "OPTIONS") (codes "o")) c.of_options_success)

  shot_2 : entry_of (after_firings_of_first 1 (after_options_response c)) (shot 0) ≡ shot 2
  shot_2 = fires_one (after_firings_of_first 0 (after_options_response c)) (shot 0) (shot 1) refl shot_1

  shot_3 : entry_of (after_firings_of_first 2 (after_options_response c)) (shot 0) ≡ shot 3
  shot_3 = fires_one (after_firings_of_first 1 (after_options_response c)) (shot 0) (shot 2) refl shot_2

  shot_4 : entry_of (after_firings_of_first 3 (after_options_response c)) (shot 0) ≡ shot 4
  shot_4 = fires_one (after_firings_of_first 2 (after_options_response c)) (shot 0) (shot 3) refl shot_3

  shot_5 : entry_of (after_firings_of_first 4 (after_options_response c)) (shot 0) ≡ shot 5
  shot_5 = fires_one (after_firings_of_first 3 (after_options_response c)) (shot 0) (shot 4) refl shot_4

  shot_6 : entry_of (after_firings_of_first 5 (after_options_response c)) (shot 0) ≡ shot 6
  shot_6 = fires_one (after_firings_of_first 4 (after_options_response c)) (shot 0) (shot 5) refl shot_5

  given_up : entry_of (after_firings_of_first 6 (after_options_response c)) (shot 0) ≡ record (shot 6) { is_terminated = true }
  given_up = fires_one (after_firings_of_first 5 (after_options_response c)) (shot 0) (shot 6) refl shot_6

  other_1 : entry_of (after_firings_of_first 1 (after_options_response c)) other ≡ other_over
  other_1 = next (DidFire 0) (after_firings_of_first 0 (after_options_response c)) other other_over other_over refl other_0 refl

  other_2 : entry_of (after_firings_of_first 2 (after_options_response c)) other ≡ other_over
  other_2 = next (DidFire 0) (after_firings_of_first 1 (after_options_response c)) other other_over other_over refl other_1 refl

  other_3 : entry_of (after_firings_of_first 3 (after_options_response c)) other ≡ other_over
  other_3 = next (DidFire 0) (after_firings_of_first 2 (after_options_response c)) other other_over other_over refl other_2 refl

  other_4 : entry_of (after_firings_of_first 4 (after_options_response c)) other ≡ other_over
  other_4 = next (DidFire 0) (after_firings_of_first 3 (after_options_response c)) other other_over other_over refl other_3 refl

  other_5 : entry_of (after_firings_of_first 5 (after_options_response c)) other ≡ other_over
  other_5 = next (DidFire 0) (after_firings_of_first 4 (after_options_response c)) other other_over other_over refl other_4 refl

  other_6 : entry_of (after_firings_of_first 6 (after_options_response c)) other ≡ other_over
  other_6 = next (DidFire 0) (after_firings_of_first 5 (after_options_response c)) other other_over other_over refl other_5 refl

  -- the two transactions of these operations, which leave them so
  pair_said : (h : List TransactionOp) (e x : Entry) → openings h ≡ shot 0 ∷ other ∷ [] → entry_of h (shot 0) ≡ e → entry_of h other ≡ x → first_due h ≡ due_result (next_due 40000 (filter is_live (e ∷ x ∷ [])))
  pair_said h e x opens is also = said_of h (filter is_live (e ∷ x ∷ [])) (pair h (shot 0) other e x opens is also)

  requests_first : first_due (invite_and_options c) ≡ invite_retransmission c 500
  requests_first = pair_said (invite_and_options c) (shot 0) other both_open refl refl

  requests_other : first_due (DidFire 0 ∷ invite_and_options c) ≡ due.Again (peer 3) 700 (message_text c.options)
  requests_other = pair_said (DidFire 0 ∷ invite_and_options c) (shot 1) other both_open fired_both other_both

  requests_second : first_due (after_options_response c) ≡ invite_retransmission c 1500
  requests_second = pair_said (after_options_response c) (shot 1) other_over both_open shot_1 other_0

  requests_third : first_due (after_firings_of_first 1 (after_options_response c)) ≡ invite_retransmission c 3500
  requests_third = pair_said (after_firings_of_first 1 (after_options_response c)) (shot 2) other_over both_open shot_2 other_1

  requests_last : first_due (after_firings_of_first 4 (after_options_response c)) ≡ invite_retransmission c 31500
  requests_last = pair_said (after_firings_of_first 4 (after_options_response c)) (shot 5) other_over both_open shot_5 other_4

  requests_given_up : first_due (after_firings_of_first 5 (after_options_response c)) ≡ due.Silent (tkey 0) (codes "i") (codes "INVITE") 32000
  requests_given_up = pair_said (after_firings_of_first 5 (after_options_response c)) (shot 6) other_over both_open shot_6 other_5

  requests_nothing : first_due (after_firings_of_first 6 (after_options_response c)) ≡ due.Nothing
  requests_nothing = pair_said (after_firings_of_first 6 (after_options_response c)) (record (shot 6) { is_terminated = true }) other_over both_open given_up other_6

  abbrev rung : Entry
  rung = change_of_key 0 (after_response 0 180 300) (shot 0)

  is_rung : entry_of (DidHear (peer 2) c.ringing 300 (part.Answer 0) ∷ sent_invite c) (shot 0) ≡ rung
  is_rung = next (DidHear (peer 2) c.ringing 300 (part.Answer 0)) (sent_invite c) (shot 0) (shot 0) rung refl refl
      (response_gives (peer 2) 0 c.ringing 300 0 1 (shot 0) (response 180 (codes "INVITE") (codes "i")) c.of_ringing)

  requests_rings : first_due (DidHear (peer 2) c.ringing 300 (part.Answer 0) ∷ sent_invite c) ≡ due.Nothing
  requests_rings = said_of (DidHear (peer 2) c.ringing 300 (part.Answer 0) ∷ sent_invite c) (rung ∷ [])
      (front (DidHear (peer 2) c.ringing 300 (part.Answer 0) ∷ sent_invite c) (shot 0) rung [] asked_opens is_rung)

  -- ---- a final

  abbrev opening : Entry
  opening = new_server_entry 0 0 (peer 1) invite 0

  heard_opens_it : openings (received_invite c) ≡ opening ∷ []
  heard_opens_it = ap (λ (x : Head). new_server_entry 0 0 (peer 1) x 0 ∷ []) c.of_invite

  abbrev final : ℕ → Entry
  final k = record (change_of_key 0 (after_reply 0 0 486 (message_text c.busy) (codes "t") 300) opening) { retransmissions = k }

  -- the one transaction of these operations, which leave it so
  final_said : (h : List TransactionOp) (e : Entry) → openings h ≡ opening ∷ [] → entry_of h opening ≡ e → first_due h ≡ due_result (next_due 40000 (filter is_live (e ∷ [])))
  final_said h e opens is = said_of h (filter is_live (e ∷ [])) (front h opening e [] opens is)

  final_0 : entry_of (after_busy c) opening ≡ final 0
  final_0 = next (DidReply 0 c.busy 300) (received_invite c) opening opening (final 0) refl refl
      (replies 0 c.busy 300 0 0 opening (response 486 (codes "INVITE") (codes "i")) (plain_busy c) c.of_busy)

  final_1 : entry_of (after_firings_of_first 1 (after_busy c)) opening ≡ final 1
  final_1 = fires_one (after_firings_of_first 0 (after_busy c)) opening (final 0) refl final_0

  final_2 : entry_of (after_firings_of_first 2 (after_busy c)) opening ≡ final 2
  final_2 = fires_one (after_firings_of_first 1 (after_busy c)) opening (final 1) refl final_1

  final_3 : entry_of (after_firings_of_first 3 (after_busy c)) opening ≡ final 3
  final_3 = fires_one (after_firings_of_first 2 (after_busy c)) opening (final 2) refl final_2

  final_4 : entry_of (after_firings_of_first 4 (after_busy c)) opening ≡ final 4
  final_4 = fires_one (after_firings_of_first 3 (after_busy c)) opening (final 3) refl final_3

  final_5 : entry_of (after_firings_of_first 5 (after_busy c)) opening ≡ final 5
  final_5 = fires_one (after_firings_of_first 4 (after_busy c)) opening (final 4) refl final_4

  final_6 : entry_of (after_firings_of_first 6 (after_busy c)) opening ≡ final 6
  final_6 = fires_one (after_firings_of_first 5 (after_busy c)) opening (final 5) refl final_5

  final_7 : entry_of (after_firings_of_first 7 (after_busy c)) opening ≡ final 7
  final_7 = fires_one (after_firings_of_first 6 (after_busy c)) opening (final 6) refl final_6

  final_8 : entry_of (after_firings_of_first 8 (after_busy c)) opening ≡ final 8
  final_8 = fires_one (after_firings_of_first 7 (after_busy c)) opening (final 7) refl final_7

  final_9 : entry_of (after_firings_of_first 9 (after_busy c)) opening ≡ final 9
  final_9 = fires_one (after_firings_of_first 8 (after_busy c)) opening (final 8) refl final_8

  final_10 : entry_of (after_firings_of_first 10 (after_busy c)) opening ≡ final 10
  final_10 = fires_one (after_firings_of_first 9 (after_busy c)) opening (final 9) refl final_9

  finals_first : first_due (after_busy c) ≡ busy_retransmission c 800
  finals_first = final_said (after_busy c) (final 0) heard_opens_it final_0

  finals_second : first_due (after_firings_of_first 1 (after_busy c)) ≡ busy_retransmission c 1800
  finals_second = final_said (after_firings_of_first 1 (after_busy c)) (final 1) heard_opens_it final_1

  finals_last : first_due (after_firings_of_first 9 (after_busy c)) ≡ busy_retransmission c 31800
  finals_last = final_said (after_firings_of_first 9 (after_busy c)) (final 9) heard_opens_it final_9

  finals_over : first_due (after_firings_of_first 10 (after_busy c)) ≡ due.Over (tkey 0) 32300
  finals_over = final_said (after_firings_of_first 10 (after_busy c)) (final 10) heard_opens_it final_10

  abbrev ack_at : ℕ → TransactionOp
  ack_at now = DidHear (peer 1) c.ack now (part.Acked 0)

  finals_acked : first_due (ack_at 1000 ∷ after_firings_of_first 1 (after_busy c)) ≡ due.Over (tkey 0) 6000
  finals_acked = final_said (ack_at 1000 ∷ after_firings_of_first 1 (after_busy c)) (after_failure_ack 0 1000 (final 1)) heard_opens_it
      (next (ack_at 1000) (after_firings_of_first 1 (after_busy c)) opening (final 1) (after_failure_ack 0 1000 (final 1)) refl final_1 refl)

  first_ack : entry_of (ack_at 1000 ∷ after_busy c) opening ≡ after_failure_ack 0 1000 (final 0)
  first_ack = next (ack_at 1000) (after_busy c) opening (final 0) (after_failure_ack 0 1000 (final 0)) refl final_0 refl

  finals_second_ack : first_due (ack_at 2000 ∷ ack_at 1000 ∷ after_busy c) ≡ due.Over (tkey 0) 6000
  finals_second_ack = final_said (ack_at 2000 ∷ ack_at 1000 ∷ after_busy c) (after_failure_ack 0 1000 (final 0)) heard_opens_it
      (next (ack_at 2000) (ack_at 1000 ∷ after_busy c) opening (after_failure_ack 0 1000 (final 0)) (after_failure_ack 0 1000 (final 0)) refl first_ack refl)

  -- ---- ACKs

  abbrev success : Entry
  success = change_of_key 0 (after_reply 0 0 200 (message_text c.success) (codes "t") 300) opening

  is_success : entry_of (after_acceptance c) opening ≡ success
  is_success = next (DidReply 0 c.success 300) (received_invite c) opening opening success refl refl
      (replies 0 c.success 300 0 0 opening (response 200 (codes "INVITE") (codes "i")) (plain_success c) c.of_success)

  acks_success : first_due (after_acceptance c) ≡ due.Again (peer 1) 800 (message_text c.success)
  acks_success = final_said (after_acceptance c) success heard_opens_it is_success

  abbrev after_ack : Entry
  after_ack = after_ack_2xx 0 (request (codes "ACK") (codes "a") (codes "t")) success

  acks_acked : first_due (DidHear (peer 1) c.ack_2xx 1000 part.AckOf2xx ∷ after_acceptance c) ≡ due.Over (tkey 0) 32300
  acks_acked = final_said (DidHear (peer 1) c.ack_2xx 1000 part.AckOf2xx ∷ after_acceptance c) after_ack heard_opens_it
      (next (DidHear (peer 1) c.ack_2xx 1000 part.AckOf2xx) (after_acceptance c) opening success after_ack refl is_success (ap (λ (x : Head). after_ack_2xx 0 x success) c.of_ack_2xx))

  acks_kept : hear_result (DidAck 0 c.ack ∷ DidHear (peer 2) c.busy 300 (part.Answer 0) ∷ sent_invite c) (peer 2) c.busy ≡ Some (heard.Repeat (Some (peer 2, message_text c.ack)))
  acks_kept = rw (c.of_busy, c.of_invite) refl

  -- ---- a reliable response

  abbrev answer : ℕ → ReliableResponse
  answer k = record { rseq = 1; text = message_text c.ringing; start = 100; retransmissions = k; step = 0; order = 0 }

  abbrev numbered : List ReliableResponse → Entry
  numbered answers = record opening { last = Some (message_text c.ringing); reliable = answers }

  module _ (is_first : reliable_number c.ringing ≡ Some 1) where
    is_numbered : entry_of (after_reliable_ringing c) opening ≡ numbered (answer 0 ∷ [])
    is_numbered = next (DidReply 0 c.ringing 100) (received_invite c) opening opening (numbered (answer 0 ∷ [])) refl refl (rw (is_first, c.of_ringing) refl)

    answers_first : first_due (after_reliable_ringing c) ≡ ringing_retransmission c 600
    answers_first = final_said (after_reliable_ringing c) (numbered (answer 0 ∷ [])) heard_opens_it is_numbered

    answers_second : first_due (DidFire 0 ∷ after_reliable_ringing c) ≡ ringing_retransmission c 1600
    answers_second = final_said (DidFire 0 ∷ after_reliable_ringing c) (numbered (answer 1 ∷ [])) heard_opens_it (fires_one (after_reliable_ringing c) opening (numbered (answer 0 ∷ [])) refl is_numbered)

    answers_settled : first_due (DidSettle 0 (Some 1) ∷ after_reliable_ringing c) ≡ due.Nothing
    answers_settled = final_said (DidSettle 0 (Some 1) ∷ after_reliable_ringing c) (numbered []) heard_opens_it
        (next (DidSettle 0 (Some 1)) (after_reliable_ringing c) opening (numbered (answer 0 ∷ [])) (numbered []) refl is_numbered refl)

    answers_other : first_due (DidSettle 0 (Some 2) ∷ after_reliable_ringing c) ≡ ringing_retransmission c 600
    answers_other = final_said (DidSettle 0 (Some 2) ∷ after_reliable_ringing c) (numbered (answer 0 ∷ [])) heard_opens_it
        (next (DidSettle 0 (Some 2)) (after_reliable_ringing c) opening (numbered (answer 0 ∷ [])) (numbered (answer 0 ∷ [])) refl is_numbered refl)

    answers_all : first_due (DidSettle 0 None ∷ after_reliable_ringing c) ≡ due.Nothing
    answers_all = final_said (DidSettle 0 None ∷ after_reliable_ringing c) (numbered []) heard_opens_it
        (next (DidSettle 0 None) (after_reliable_ringing c) opening (numbered (answer 0 ∷ [])) (numbered []) refl is_numbered refl)

    abbrev busy_after : Entry
    busy_after = change_of_key 0 (after_reply 0 1 486 (message_text c.busy) (codes "t") 300) (numbered (answer 0 ∷ []))

    answers_final : first_due (DidReply 0 c.busy 300 ∷ after_reliable_ringing c) ≡ busy_retransmission c 800
    answers_final = final_said (DidReply 0 c.busy 300 ∷ after_reliable_ringing c) busy_after heard_opens_it
        (next (DidReply 0 c.busy 300) (after_reliable_ringing c) opening (numbered (answer 0 ∷ [])) busy_after refl is_numbered
        (replies 0 c.busy 300 0 1 (numbered (answer 0 ∷ [])) (response 486 (codes "INVITE") (codes "i")) (plain_busy c) c.of_busy))

  answers_plain : reliable_number c.ringing ≡ None → first_due (after_reliable_ringing c) ≡ due.Nothing
  answers_plain none = final_said (after_reliable_ringing c) (numbered []) heard_opens_it
      (next (DidReply 0 c.ringing 100) (received_invite c) opening opening (numbered []) refl refl
      (replies 0 c.ringing 100 0 0 opening (response 180 (codes "INVITE") (codes "i")) none c.of_ringing))

pub requests : InviteAmongOthers
requests =
    record { first = requests_first; other = requests_other; second = requests_second; third = requests_third; last = requests_last; timed_out = requests_given_up; nothing = requests_nothing; rings = requests_rings }

pub finals : FinalAwaitsAck
finals = record { first = finals_first; second = finals_second; last = finals_last; over = finals_over; acked = finals_acked; second_ack = finals_second_ack }

pub acks : AcksReceivedAndKept
acks = record { success = acks_success; acked = acks_acked; kept = acks_kept }

pub reliable : ReliableAwaitsPrack
reliable = record { first = answers_first; second = answers_second; settled = answers_settled; other = answers_other; all = answers_all; final = answers_final; plain = answers_plain }
