-- Texts that are due to trusted peers decide nothing.
use Rattle.std.proofs.Common.{◌≡◌, ℕ, zero, suc, ◌+◌, ◌-◌, ◌^◌, List, [], ◌∷◌, ◌++◌, length, refl, true, false, Bool, not, ◌&&◌, ◌||◌, sym, ap, ◌∙◌, arith, map, cond, length-append}
use Rattle.std.specs.Prelude.{Option, Some, None, option_map, filter, is_some, min, nat_le, slice_get, ◌==◌}
use Rattle.std.specs.List.{find, list_any}
use Rattle.std.specs.Option.{option_or, unwrap_or}
use Rattle.std.proofs.lemmas.List.{map-append}
use Rattle.std.proofs.lemmas.List.Recursion.{is_count_by}
use Rattle.mmtel_base.specs.Chain.{◌>>=◌}
use Rattle.mmtel_types.specs.declared.numbers.Peer.{Peer}
use Rattle.mmtel_message.specs.Message.{Message}
use Rattle.mmtel_message.specs.Texts.{message_text}
use Rattle.mmtel_message.specs.declared.messages.Start.{Start}
use Rattle.mmtel_transaction.specs.Heads.{head_of, is_success, is_ack, is_cancel, is_invite, is_provisional, reliable_number}
use Rattle.mmtel_transaction.specs.declared.heads.Head.{Head}
use Rattle.mmtel_transaction.specs.declared.entries.TransactionTimer.{TransactionTimer}
use Rattle.mmtel_transaction.specs.declared.entries.Entry.{Entry}
use Rattle.mmtel_transaction.specs.declared.entries.ReliableResponse.{ReliableResponse}
use Rattle.mmtel_transaction.specs.declared.message_class.MessageClass.{MessageClass}
use Rattle.mmtel_transaction.specs.declared.message_class.MessageClass.TheVariants as part
use Rattle.mmtel_transaction.specs.Deadlines.{at_place, deadline, foremost_from, foremost_in, is_ending, is_untimed, last_deadline, order_due, retransmission_at, sooner_of, state_retransmission_at, step_due, timer_of}
use Rattle.mmtel_transaction.specs.Changes.{reliable_response_of, after_timer, after_timer_by, after_any_reply, after_reply, after_retransmission, after_provisional, after_final}
use Rattle.mmtel_transaction.specs.Changes.{after_response, after_failure_ack, after_ack_2xx, with_kept_ack, change_of_key, is_ack_of, after_settling, with_reliable_if, without_rseq}
use Rattle.mmtel_transaction.specs.Operations.{TransactionOp, DidBegin, DidHear, DidAsk, DidReply, DidAck, DidFire, DidSettle, send_count}
use Rattle.mmtel_transaction.specs.Operations.{step_of, opens, opened_on_receipt, openings, live, is_live, change, change_on_receipt}
use Rattle.mmtel_transaction.specs.Results.{DueEntryView, by_key, is_of, due_one, sooner, is_before, retransmission_for, last_sent, is_full, is_invite_of, is_client_of}
use Rattle.mmtel_transaction.specs.Results.{is_server_of, merged_with, is_merged_entry, key_of, next_due, class_of, ack_class, request_class, response_class, peer_of}
use Rattle.mmtel_transaction.specs.Results.{class_result, due_result, fresh_result, servers, retransmitted_text, text_by, state_text, bind_entry, upcoming_of}
use Rattle.mmtel_transaction.specs.Table.{table_after_change}
use Rattle.mmtel_transaction.specs.Matching.{if_refused, matching_entry}
use Rattle.mmtel_transaction.specs.Equivalence.{AnswerEquivalently, Equivalent, GoOnEquivalently, TextsDecideNothing, blank, blank_due, blank_heard, blank_if, blank_maybe, blank_reliable, blank_sent, next_key}
use Rattle.mmtel_transaction.specs.declared.words.Due.TheVariants as due
use Rattle.mmtel_transaction.specs.declared.words.Heard.TheVariants as heard
use Rattle.mmtel_transaction.specs.declared.words.TKey.{TKey}
use Rattle.mmtel_transaction.proofs.Before.{before}
use Rattle.mmtel_transaction.proofs.Foremost.{resent_is, retransmitted as again_of, retransmitted_at}
use Rattle.mmtel_transaction.proofs.Lists.{keeps_with, live_more}
use Rattle.mmtel_transaction.proofs.Representation.{live_hit}

-- ---- a text that is blank

twice : (b : Bool) (t : List ℕ) → blank_if b (blank_if b t) ≡ blank_if b t
twice true t = refl
twice false t = refl

twice_maybe : (b : Bool) (o : Option (List ℕ)) → blank_maybe b (blank_maybe b o) ≡ blank_maybe b o
twice_maybe b None = refl
twice_maybe b (Some t) = ap (λ (x : List ℕ). Some x) (twice b t)

abbrev blanks : Bool → List ReliableResponse → List ReliableResponse
blanks b xs = map (blank_reliable b) xs

twice_answer : (b : Bool) (x : ReliableResponse) → blank_reliable b (blank_reliable b x) ≡ blank_reliable b x
twice_answer b x = ap (λ (t : List ℕ). (let r : ReliableResponse = record x { text = t } in r)) (twice b x.text)

twice_answers : (b : Bool) (xs : List ReliableResponse) → blanks b (blanks b xs) ≡ blanks b xs
twice_answers b [] = refl
twice_answers b (x ∷ xs) = ap (λ y. y ∷ blanks b (blanks b xs)) (twice_answer b x) ∙ ap (λ ys. blank_reliable b x ∷ ys) (twice_answers b xs)

-- a further response, one that was retransmitted, and one that is left out
twice_more : (b : Bool) (x : ReliableResponse) (xs : List ReliableResponse) → blanks b (blanks b xs ++ x ∷ []) ≡ blanks b (xs ++ x ∷ [])
twice_more b x [] = refl
twice_more b x (y ∷ xs) = ap (λ z. z ∷ blanks b (blanks b xs ++ x ∷ [])) (twice_answer b y) ∙ ap (λ ys. blank_reliable b y ∷ ys) (twice_more b x xs)

other_more : (b : Bool) (x y : ReliableResponse) (xs : List ReliableResponse) → blank_reliable b x ≡ blank_reliable b y → blanks b (xs ++ x ∷ []) ≡ blanks b (xs ++ y ∷ [])
other_more b x y [] q = ap (λ z. z ∷ []) q
other_more b x y (z ∷ xs) q = ap (λ ys. blank_reliable b z ∷ ys) (other_more b x y xs q)

twice_at : (b : Bool) (s place : ℕ) (xs : List ReliableResponse) → blanks b (retransmitted_at s place (blanks b xs)) ≡ blanks b (retransmitted_at s place xs)
twice_at b s place [] = refl
twice_at b s zero (x ∷ xs) = ap (λ z. z ∷ blanks b (blanks b xs)) (twice_answer b (again_of s x)) ∙ ap (λ ys. blank_reliable b (again_of s x) ∷ ys) (twice_answers b xs)
twice_at b s (suc place) (x ∷ xs) = ap (λ z. z ∷ blanks b (retransmitted_at s place (blanks b xs))) (twice_answer b x) ∙ ap (λ ys. blank_reliable b x ∷ ys) (twice_at b s place xs)

twice_resent : (b : Bool) (s place : ℕ) (xs : List ReliableResponse) →
    blanks b (after_retransmission s place (slice_get (blanks b xs) place) (blanks b xs)) ≡ blanks b (after_retransmission s place (slice_get xs place) xs)
twice_resent b s place xs = ap (blanks b) (resent_is s place (blanks b xs)) ∙ (twice_at b s place xs ∙ sym (ap (blanks b) (resent_is s place xs)))

twice_without : (b : Bool) (own : ℕ) (xs : List ReliableResponse) → blanks b (without_rseq own (blanks b xs)) ≡ blanks b (without_rseq own xs)
twice_without b own [] = refl
twice_without b own (x ∷ xs) = either (not (x.rseq == own)) (twice_without b own xs)
  where
    either : (t : Bool) → blanks b (without_rseq own (blanks b xs)) ≡ blanks b (without_rseq own xs) →
        blanks b (cond t (blank_reliable b x ∷ without_rseq own (blanks b xs)) (without_rseq own (blanks b xs))) ≡ blanks b (cond t (x ∷ without_rseq own xs) (without_rseq own xs))
    either true q = ap (λ z. z ∷ blanks b (without_rseq own (blanks b xs))) (twice_answer b x) ∙ ap (λ ys. blank_reliable b x ∷ ys) q
    either false q = q

-- which response comes first does not depend on texts
foremost_blank : (b : Bool) (k : ℕ) (xs : List ReliableResponse) → foremost_from k (blanks b xs) ≡ foremost_from k xs
foremost_blank b k [] = refl
foremost_blank b k (x ∷ xs) = ap (sooner_of (at_place k (timer_of x))) (foremost_blank b (suc k) xs)

get_blank : (b : Bool) (xs : List ReliableResponse) (i : ℕ) → slice_get (blanks b xs) i ≡ option_map (blank_reliable b) (slice_get xs i)
get_blank b [] i = refl
get_blank b (x ∷ xs) zero = refl
get_blank b (x ∷ xs) (suc i) = get_blank b xs i

blank_text : (b : Bool) (s t : List ℕ) → (b ≡ false → s ≡ t) → blank_if b s ≡ blank_if b t
blank_text true s t e = refl
blank_text false s t e = e refl

blank_both : (v : Peer → Bool) (b : Bool) (x y x' y' : Entry) → blank v x ≡ blank v x' → blank v y ≡ blank v y' → blank v (cond b x y) ≡ blank v (cond b x' y')
blank_both v true x y x' y' p q = p
blank_both v false x y x' y' p q = q

module _ (v : Peer → Bool) where
  -- a change that does not depend on the texts of a trusted peer
  abbrev pub Absorbs : (Entry → Entry) → Type 0
  Absorbs f = (e : Entry) → blank v (f (blank v e)) ≡ blank v (f e)

  again : Absorbs (λ e. e)
  again e = rw (twice (v e.peer) e.request, twice_maybe (v e.peer) e.last, twice_answers (v e.peer) e.reliable) refl

  -- so what is equal except for those texts stays so
  carried : (f : Entry → Entry) → Absorbs f → (e x : Entry) → blank v e ≡ blank v x → blank v (f e) ≡ blank v (f x)
  carried f a e x q = sym (a e) ∙ (ap (λ (y : Entry). blank v (f y)) q ∙ a x)

  foremost_like : (e : Entry) → foremost_in (blank v e) ≡ foremost_in e
  foremost_like e = ap (λ o. cond (is_untimed e.state) o None) (foremost_blank (v e.peer) 0 e.reliable)

  absorbs_fired : (s : ℕ) → Absorbs (after_timer s)
  absorbs_fired s e = ap (λ o. blank v (after_timer_by o s (blank v e))) (foremost_like e) ∙ either (foremost_in e)
    where
      either : (o : Option (ℕ × TransactionTimer)) → blank v (after_timer_by o s (blank v e)) ≡ blank v (after_timer_by o s e)
      either (Some f) = rw (twice (v e.peer) e.request, twice_maybe (v e.peer) e.last, twice_resent (v e.peer) s f.0 e.reliable) refl
      either None = blank_both v (is_some (state_retransmission_at e)) _ _ _ _ (rw (twice (v e.peer) e.request, twice_maybe (v e.peer) e.last, twice_answers (v e.peer) e.reliable) refl)
          (rw (twice (v e.peer) e.request, twice_maybe (v e.peer) e.last, twice_answers (v e.peer) e.reliable) refl)

  absorbs_settled : (own : Option ℕ) → Absorbs (after_settling own)
  absorbs_settled None e = rw (twice (v e.peer) e.request, twice_maybe (v e.peer) e.last) refl
  absorbs_settled (Some own) e = rw (twice (v e.peer) e.request, twice_maybe (v e.peer) e.last, twice_without (v e.peer) own e.reliable) refl

  absorbs_with : (o : Option ReliableResponse) → Absorbs (with_reliable_if o)
  absorbs_with None e = again e
  absorbs_with (Some answer) e =
      blank_both v (not e.is_server || not (e.final_status == 0)) _ _ _ _ (again e) (rw (twice (v e.peer) e.request, twice_maybe (v e.peer) e.last, twice_more (v e.peer) answer e.reliable) refl)

  absorbs_replied : (s i st : ℕ) (t g : List ℕ) (now : ℕ) → Absorbs (after_reply s i st t g now)
  absorbs_replied s i st t g now e =
      blank_both v (not e.is_server || not (e.final_status == 0)) _ _ _ _ (again e)
      (blank_both v (is_provisional st) _ _ _ _ (rw (twice (v e.peer) e.request, twice_answers (v e.peer) e.reliable) refl) (rw (twice (v e.peer) e.request) refl))

  absorbs_offered : (s i : ℕ) (m : Message Start) (now : ℕ) → Absorbs (after_any_reply s i m now)
  absorbs_offered s i m now e =
      let o = reliable_response_of s i m (message_text m) now in
      carried (after_reply s i (head_of m).status (message_text m) (head_of m).to_tag now) (absorbs_replied s i (head_of m).status (message_text m) (head_of m).to_tag now)
      (with_reliable_if o (blank v e)) (with_reliable_if o e) (absorbs_with o e)

  absorbs_rang : (s now : ℕ) → Absorbs (after_provisional s now)
  absorbs_rang s now e = blank_both v (e.is_early || not (e.final_status == 0)) _ _ _ _ (again e) (rw (twice (v e.peer) e.request, twice_maybe (v e.peer) e.last, twice_answers (v e.peer) e.reliable) refl)

  absorbs_finished : (s st now : ℕ) → Absorbs (after_final s st now)
  absorbs_finished s st now e =
      blank_both v (not (is_invite e.head)) _ _ _ _ (rw (twice (v e.peer) e.request, twice_maybe (v e.peer) e.last, twice_answers (v e.peer) e.reliable) refl)
      (blank_both v (not (e.final_status == 0)) _ _ _ _ (rw (twice (v e.peer) e.request, twice_maybe (v e.peer) e.last, twice_answers (v e.peer) e.reliable) refl)
      (rw (twice (v e.peer) e.request, twice_maybe (v e.peer) e.last, twice_answers (v e.peer) e.reliable) refl))

  absorbs_answered : (s st now : ℕ) → Absorbs (after_response s st now)
  absorbs_answered s st now e = blank_both v (is_provisional st) _ _ _ _ (absorbs_rang s now e) (absorbs_finished s st now e)

  absorbs_acked : (s now : ℕ) → Absorbs (after_failure_ack s now)
  absorbs_acked s now e = blank_both v e.is_acked _ _ _ _ (again e) (rw (twice (v e.peer) e.request, twice_maybe (v e.peer) e.last, twice_answers (v e.peer) e.reliable) refl)

  absorbs_acked_2xx : (s : ℕ) (m : Head) → Absorbs (after_ack_2xx s m)
  absorbs_acked_2xx s m e = blank_both v (is_ack_of m e) _ _ _ _ (rw (twice (v e.peer) e.request, twice_maybe (v e.peer) e.last, twice_answers (v e.peer) e.reliable) refl) (again e)

  absorbs_kept : (t : List ℕ) → Absorbs (with_kept_ack t)
  absorbs_kept t e = blank_both v (not e.is_server && e.is_refused) _ _ _ _ (rw (twice (v e.peer) e.request, twice_answers (v e.peer) e.reliable) refl) (again e)

  absorbs_hit : (k : ℕ) (f : Entry → Entry) → Absorbs f → Absorbs (change_of_key k f)
  absorbs_hit k f a e = blank_both v (e.key == k) _ _ _ _ (a e) (again e)

  absorbs_heard : (s : ℕ) (m : Message Start) (now : ℕ) (t : MessageClass) → Absorbs (change_on_receipt s m now t)
  absorbs_heard s m now part.Fresh = again
  absorbs_heard s m now part.Full = again
  absorbs_heard s m now (part.Repeat k) = again
  absorbs_heard s m now (part.RepeatedFinal k) = again
  absorbs_heard s m now (part.Answer k) = absorbs_hit k (after_response s (head_of m).status now) (absorbs_answered s (head_of m).status now)
  absorbs_heard s m now (part.Acked k) = absorbs_hit k (after_failure_ack s now) (absorbs_acked s now)
  absorbs_heard s m now part.AckOf2xx = absorbs_acked_2xx s (head_of m)
  absorbs_heard s m now part.Stray = again

  other_reply : (s i st : ℕ) (t u g : List ℕ) (now : ℕ) (e : Entry) → (v e.peer ≡ false → t ≡ u) → blank v (after_reply s i st t g now e) ≡ blank v (after_reply s i st u g now e)
  other_reply s i st t u g now e q =
      blank_both v (not e.is_server || not (e.final_status == 0)) _ _ _ _ refl
      (blank_both v (is_provisional st) _ _ _ _ (rw (blank_text (v e.peer) t u q) refl) (rw (blank_text (v e.peer) t u q) refl))

  -- a response with the same head that is reliable or not
  other_answer : (s i now : ℕ) (m n : Message Start) (e : Entry) → reliable_number m ≡ reliable_number n → (v e.peer ≡ false → message_text m ≡ message_text n)
      → blank v (with_reliable_if (reliable_response_of s i m (message_text m) now) e) ≡ blank v (with_reliable_if (reliable_response_of s i n (message_text n) now) e)
  other_answer s i now m n e r q =
      ap (λ o. blank v (with_reliable_if (option_map (λ own. record { rseq = own; text = message_text m; start = now; retransmissions = 0; step = s; order = i }) o) e)) r ∙ either (reliable_number n)
    where
      either : (o : Option ℕ) → blank v (with_reliable_if (option_map (λ own. record { rseq = own; text = message_text m; start = now; retransmissions = 0; step = s; order = i }) o) e)
          ≡ blank v (with_reliable_if (option_map (λ own. record { rseq = own; text = message_text n; start = now; retransmissions = 0; step = s; order = i }) o) e)
      either None = refl
      either (Some own) =
          let x : ReliableResponse = record { rseq = own; text = message_text m; start = now; retransmissions = 0; step = s; order = i } in
          let y : ReliableResponse = record { rseq = own; text = message_text n; start = now; retransmissions = 0; step = s; order = i } in
          let same : blank_reliable (v e.peer) x ≡ blank_reliable (v e.peer) y = ap (λ (t : List ℕ). (let r : ReliableResponse = record x { text = t } in r)) (blank_text (v e.peer) (message_text m) (message_text n) q) in
          blank_both v (not e.is_server || not (e.final_status == 0)) _ _ _ _ refl (ap (λ xs. (let r : Entry = record (blank v e) { reliable = xs } in r)) (other_more (v e.peer) x y e.reliable same))

  other_offer : (s i now : ℕ) (m n : Message Start) (e : Entry) → head_of m ≡ head_of n → reliable_number m ≡ reliable_number n → (v e.peer ≡ false → message_text m ≡ message_text n) →
      blank v (after_any_reply s i m now e) ≡ blank v (after_any_reply s i n now e)
  other_offer s i now m n e h r q =
      let x : Entry = with_reliable_if (reliable_response_of s i m (message_text m) now) e in
      let y : Entry = with_reliable_if (reliable_response_of s i n (message_text n) now) e in
      let peer : y.peer ≡ e.peer = (keeps_with (reliable_response_of s i n (message_text n) now) e).peer in
      carried (after_reply s i (head_of m).status (message_text m) (head_of m).to_tag now) (absorbs_replied s i (head_of m).status (message_text m) (head_of m).to_tag now) x y (other_answer s i now m n e r q)
      ∙ (ap (λ (z : Head). blank v (after_reply s i z.status (message_text m) z.to_tag now y)) h
      ∙ other_reply s i (head_of n).status (message_text m) (message_text n) (head_of n).to_tag now y (λ w. q (ap v (sym peer) ∙ w)))

  other_kept : (t u : List ℕ) (e : Entry) → (v e.peer ≡ false → t ≡ u) → blank v (with_kept_ack t e) ≡ blank v (with_kept_ack u e)
  other_kept t u e q = blank_both v (not e.is_server && e.is_refused) _ _ _ _ (rw (blank_text (v e.peer) t u q) refl) refl

  -- ---- look-ups

  find_blank : (p : Entry → Bool) → ((e : Entry) → p (blank v e) ≡ p e) → (es : List Entry) → find p (map (blank v) es) ≡ option_map (blank v) (find p es)
  find_blank p q [] = refl
  find_blank p q (e ∷ es) = rw (q e, find_blank p q es) (found (p e) e (find p es))
    where
      found : (b : Bool) (e : Entry) (o : Option Entry) → cond b (Some (blank v e)) (option_map (blank v) o) ≡ option_map (blank v) (cond b (Some e) o)
      found true e o = refl
      found false e o = refl

  any_blank : (p : Entry → Bool) → ((e : Entry) → p (blank v e) ≡ p e) → (es : List Entry) → list_any p (map (blank v) es) ≡ list_any p es
  any_blank p q [] = refl
  any_blank p q (e ∷ es) = rw (q e, any_blank p q es) refl

  abbrev counts : (Entry → Bool) → List Entry → ℕ
  counts p [] = 0
  counts p (e ∷ es) = cond (p e) (1 + counts p es) (counts p es)

  counts_blank : (p : Entry → Bool) → ((e : Entry) → p (blank v e) ≡ p e) → (es : List Entry) → counts p (map (blank v) es) ≡ counts p es
  counts_blank p q [] = refl
  counts_blank p q (e ∷ es) = rw (q e, counts_blank p q es) refl

  servers_blank : (es : List Entry) → servers (map (blank v) es) ≡ servers es
  servers_blank es =
      sym (is_count_by (counts (λ e. e.is_server)) (λ e. e.is_server) refl (λ x xs. refl) (map (blank v) es))
      ∙ (counts_blank (λ e. e.is_server) (λ e. refl) es ∙ is_count_by (counts (λ e. e.is_server)) (λ e. e.is_server) refl (λ x xs. refl) es)

  ack_blank : (o : Option Entry) → ack_class (option_map (blank v) o) ≡ ack_class o
  ack_blank None = refl
  ack_blank (Some e) = refl

  request_blank : (b : Bool) (o : Option Entry) → request_class b (option_map (blank v) o) ≡ request_class b o
  request_blank b None = refl
  request_blank b (Some e) = refl

  response_blank : (m : Head) (o : Option Entry) → response_class m (option_map (blank v) o) ≡ response_class m o
  response_blank m None = refl
  response_blank m (Some e) = refl

  part_blank : (m : Head) (es : List Entry) → class_of m (map (blank v) es) ≡ class_of m es
  part_blank m es = rw (
    find_blank (is_server_of m) (λ e. refl) es,
    find_blank (is_client_of m) (λ e. refl) es,
    servers_blank es,
    ack_blank (find (is_server_of m) es),
    request_blank (is_full es) (find (is_server_of m) es),
    response_blank m (find (is_client_of m) es),
  ) refl

  key_blank : (k : ℕ) (es : List Entry) → by_key k (map (blank v) es) ≡ option_map (blank v) (by_key k es)
  key_blank k es = find_blank (is_of k) (λ e. refl) es

  -- to which transaction a message belongs
  refused_blank : (o : Option Entry) → if_refused (option_map (blank v) o) ≡ option_map (blank v) (if_refused o)
  refused_blank None = refl
  refused_blank (Some e) = either e.is_refused
    where
      either : (b : Bool) → cond b (Some (blank v e)) None ≡ option_map (blank v) (cond b (Some e) None)
      either true = refl
      either false = refl

  picked : (r a c : Bool) (x o i : Option Entry) → cond r (option_map (blank v) x) (cond a (if_refused (option_map (blank v) o)) (cond c (option_map (blank v) i) (option_map (blank v) o)))
      ≡ option_map (blank v) (cond r x (cond a (if_refused o) (cond c i o)))
  picked true a c x o i = refl
  picked false true c x o i = refused_blank o
  picked false false true x o i = refl
  picked false false false x o i = refl

  owner_blank : (m : Head) (es : List Entry) → matching_entry m (map (blank v) es) ≡ option_map (blank v) (matching_entry m es)
  owner_blank m es =
      rw (find_blank (is_client_of m) (λ e. refl) es, find_blank (is_server_of m) (λ e. refl) es, find_blank (is_invite_of m) (λ e. refl) es)
      (picked (not m.is_request) (is_ack m) (is_cancel m) (find (is_client_of m) es) (find (is_server_of m) es) (find (is_invite_of m) es))

  -- ---- deadlines

  abbrev pub blank_next : DueEntryView → DueEntryView
  blank_next n = record { at = n.at; entry = blank v n.entry }

  deadline_like : (e : Entry) → deadline (blank v e) ≡ deadline e
  deadline_like e = ap (λ (o : Option (ℕ × TransactionTimer)). option_or (option_or (option_map (λ (f : ℕ × TransactionTimer). f.1.at) o) (state_retransmission_at e)) (last_deadline e)) (foremost_like e)

  resend_like : (e : Entry) → retransmission_at (blank v e) ≡ retransmission_at e
  resend_like e = ap (λ (o : Option (ℕ × TransactionTimer)). option_or (option_map (λ (f : ℕ × TransactionTimer). f.1.at) o) (state_retransmission_at e)) (foremost_like e)

  step_like : (e : Entry) → step_due (blank v e) ≡ step_due e
  step_like e = ap (λ (o : Option (ℕ × TransactionTimer)). unwrap_or (option_map (λ (f : ℕ × TransactionTimer). f.1.step) o) e.step) (foremost_like e)

  order_like : (e : Entry) → order_due (blank v e) ≡ order_due e
  order_like e = ap (λ (o : Option (ℕ × TransactionTimer)). unwrap_or (option_map (λ (f : ℕ × TransactionTimer). f.1.order) o) e.order) (foremost_like e)

  before_like : (a : ℕ) (x : Entry) (b : ℕ) (y : Entry) → is_before a (blank v x) b (blank v y) ≡ is_before a x b y
  before_like a x b y =
      ap (λ s. before a s (order_due (blank v x)) b (step_due (blank v y)) (order_due (blank v y))) (step_like x)
      ∙ (ap (λ o. before a (step_due x) o b (step_due (blank v y)) (order_due (blank v y))) (order_like x)
      ∙ (ap (λ t. before a (step_due x) (order_due x) b t (order_due (blank v y))) (step_like y)
      ∙ ap (λ u. before a (step_due x) (order_due x) b (step_due y) u) (order_like y)))

  one_blank : (now : ℕ) (e : Entry) (o : Option ℕ) → due_one now (blank v e) o ≡ option_map blank_next (due_one now e o)
  one_blank now e None = refl
  one_blank now e (Some at) = either (nat_le at now)
    where
      either : (b : Bool) → cond b (Some (record { at = at; entry = blank v e })) None ≡ option_map blank_next (cond b (Some (record { at = at; entry = e })) None)
      either true = refl
      either false = refl

  sooner_blank : (x y : Option DueEntryView) → sooner (option_map blank_next x) (option_map blank_next y) ≡ option_map blank_next (sooner x y)
  sooner_blank None y = refl
  sooner_blank (Some x) None = refl
  sooner_blank (Some x) (Some y) = ap (λ t. Some (cond t (blank_next y) (blank_next x))) (before_like y.at y.entry x.at x.entry) ∙ either (is_before y.at y.entry x.at x.entry)
    where
      either : (b : Bool) → Some (cond b (blank_next y) (blank_next x)) ≡ option_map blank_next (Some (cond b y x))
      either true = refl
      either false = refl

  next_blank : (now : ℕ) (es : List Entry) → next_due now (map (blank v) es) ≡ option_map blank_next (next_due now es)
  next_blank now [] = refl
  next_blank now (e ∷ es) = ap (λ d. sooner (due_one now (blank v e) d) (next_due now (map (blank v) es))) (deadline_like e)
      ∙ (ap (λ (o : Option DueEntryView). sooner (due_one now (blank v e) (deadline e)) o) (next_blank now es)
      ∙ (ap (λ (o : Option DueEntryView). sooner o (option_map blank_next (next_due now es))) (one_blank now e (deadline e)) ∙ sooner_blank (due_one now e (deadline e)) (next_due now es)))

  -- ---- what is decided

  given_blank : (p : Peer) (o : Option (List ℕ)) → option_map (blank_sent v) (option_map (λ t. (p, t)) (blank_maybe (v p) o)) ≡ option_map (blank_sent v) (option_map (λ t. (p, t)) o)
  given_blank p None = refl
  given_blank p (Some t) = ap (λ (x : List ℕ). Some (p, x)) (twice (v p) t)

  same_blank : (o : Option Entry) → option_map (blank_sent v) (bind_entry last_sent (option_map (blank v) o)) ≡ option_map (blank_sent v) (bind_entry last_sent o)
  same_blank None = refl
  same_blank (Some e) = given_blank e.peer e.last

  again_blank : (p : Peer) (o : Option Entry) → option_map (blank_sent v) (bind_entry (retransmission_for p) (option_map (blank v) o)) ≡ option_map (blank_sent v) (bind_entry (retransmission_for p) o)
  again_blank p None = refl
  again_blank p (Some e) = either ((p.0 == e.peer.0) && not e.is_acked && not (is_invite e.head && is_success e.final_status))
    where
      either : (b : Bool) → option_map (blank_sent v) (cond b (last_sent (blank v e)) None) ≡ option_map (blank_sent v) (cond b (last_sent e) None)
      either true = given_blank e.peer e.last
      either false = refl

  merged_blank : (o : Option Entry) (es : List Entry) → merged_with (option_map (blank v) o) (map (blank v) es) ≡ merged_with o es
  merged_blank None es = refl
  merged_blank (Some e) es = any_blank (is_merged_entry e) (λ x. refl) es

  invite_blank : (o : Option Entry) → option_map key_of (option_map (blank v) o) ≡ option_map key_of o
  invite_blank None = refl
  invite_blank (Some e) = refl

  peer_blank : (o : Option Entry) → option_map (λ (e : Entry). e.peer) (option_map (blank v) o) ≡ option_map (λ (e : Entry). e.peer) o
  peer_blank None = refl
  peer_blank (Some e) = refl

  step_blank : (o : Option DueEntryView) → upcoming_of (option_map blank_next o) ≡ upcoming_of o
  step_blank None = refl
  step_blank (Some n) = ap (λ s. Some (n.at, s)) (step_like n.entry)

  fires_blank : (o : Option DueEntryView) → next_key (option_map blank_next o) ≡ next_key o
  fires_blank None = refl
  fires_blank (Some n) = refl

  or_blank : (o : Option (List ℕ)) → unwrap_or (blank_maybe false o) [] ≡ unwrap_or o []
  or_blank None = refl
  or_blank (Some t) = refl

  text_blank : (b s : Bool) (o : Option (List ℕ)) (r : List ℕ) → blank_if b (cond s (unwrap_or (blank_maybe b o) []) (blank_if b r)) ≡ blank_if b (cond s (unwrap_or o []) r)
  text_blank true s o r = refl
  text_blank false true o r = or_blank o
  text_blank false false o r = refl

  -- what is retransmitted is equal, except for a text of a trusted peer
  again_text : (e : Entry) → blank_if (v e.peer) (retransmitted_text (blank v e)) ≡ blank_if (v e.peer) (retransmitted_text e)
  again_text e =
      ap (λ (o : Option (ℕ × TransactionTimer)). blank_if (v e.peer) (text_by (o >>= λ (f : ℕ × TransactionTimer). slice_get (blanks (v e.peer) e.reliable) f.0) (blank v e))) (foremost_like e)
      ∙ of_answer (foremost_in e)
    where
      planned_text : blank_if (v e.peer) (state_text (blank v e)) ≡ blank_if (v e.peer) (state_text e)
      planned_text = text_blank (v e.peer) e.is_server e.last e.request

      by_text : (o : Option ReliableResponse) → blank_if (v e.peer) (text_by (option_map (blank_reliable (v e.peer)) o) (blank v e)) ≡ blank_if (v e.peer) (text_by o e)
      by_text None = planned_text
      by_text (Some x) = twice (v e.peer) x.text

      of_answer : (o : Option (ℕ × TransactionTimer)) → blank_if (v e.peer) (text_by (o >>= λ (f : ℕ × TransactionTimer). slice_get (blanks (v e.peer) e.reliable) f.0) (blank v e))
          ≡ blank_if (v e.peer) (text_by (o >>= λ (f : ℕ × TransactionTimer). slice_get e.reliable f.0) e)
      of_answer None = planned_text
      of_answer (Some f) = ap (λ o. blank_if (v e.peer) (text_by o (blank v e))) (get_blank (v e.peer) e.reliable f.0) ∙ by_text (slice_get e.reliable f.0)

  says_if : (a b : Bool) (n : DueEntryView) (t u : List ℕ) → blank_if (v n.entry.peer) t ≡ blank_if (v n.entry.peer) u
      → blank_due v (cond a (due.Again n.entry.peer n.at t) (cond b (due.Over (record { 0 = n.entry.key }) n.at) (due.Silent (record { 0 = n.entry.key }) n.entry.head.branch n.entry.head.method n.at)))
      ≡ blank_due v (cond a (due.Again n.entry.peer n.at u) (cond b (due.Over (record { 0 = n.entry.key }) n.at) (due.Silent (record { 0 = n.entry.key }) n.entry.head.branch n.entry.head.method n.at)))
  says_if true b n t u q = ap (λ (x : List ℕ). due.Again n.entry.peer n.at x) q
  says_if false true n t u q = refl
  says_if false false n t u q = refl

  says_blank : (o : Option DueEntryView) → blank_due v (due_result (option_map blank_next o)) ≡ blank_due v (due_result o)
  says_blank None = refl
  says_blank (Some n) =
      ap (λ o. blank_due v (cond (is_some o) (due.Again n.entry.peer n.at (retransmitted_text (blank v n.entry)))
      (cond (is_ending n.entry.state) (due.Over (record { 0 = n.entry.key }) n.at) (due.Silent (record { 0 = n.entry.key }) n.entry.head.branch n.entry.head.method n.at)))) (resend_like n.entry)
      ∙ says_if (is_some (retransmission_at n.entry)) (is_ending n.entry.state) n (retransmitted_text (blank v n.entry)) (retransmitted_text n.entry) (again_text n.entry)

  module _ (g h : List TransactionOp) (a : Equivalent v g h) where
    abbrev same_key : (k : ℕ) → option_map (blank v) (by_key k (live g)) ≡ option_map (blank v) (by_key k (live h))
    same_key k = sym (key_blank k (live g)) ∙ (ap (by_key k) a.live ∙ key_blank k (live h))

    taken_like : (m : Head) → class_of m (live g) ≡ class_of m (live h)
    taken_like m = sym (part_blank m (live g)) ∙ (ap (class_of m) a.live ∙ part_blank m (live h))

    invite_like : (m : Head) → option_map key_of (find (is_invite_of m) (live g)) ≡ option_map key_of (find (is_invite_of m) (live h))
    invite_like m =
        let P : List Entry → Option Entry = λ es. find (is_invite_of m) es in
        sym (invite_blank (P (live g))) ∙ (ap (option_map key_of) (sym (find_blank (is_invite_of m) (λ e. refl) (live g)) ∙ (ap P a.live ∙ find_blank (is_invite_of m) (λ e. refl) (live h))) ∙ invite_blank (P (live h)))

    owner_like : (m : Head) → option_map key_of (matching_entry m (live g)) ≡ option_map key_of (matching_entry m (live h))
    owner_like m = sym (invite_blank (matching_entry m (live g)))
        ∙ (ap (option_map key_of) (sym (owner_blank m (live g)) ∙ (ap (matching_entry m) a.live ∙ owner_blank m (live h))) ∙ invite_blank (matching_entry m (live h)))

    again_like : (p : Peer) (k : ℕ) → option_map (blank_sent v) (bind_entry (retransmission_for p) (by_key k (live g))) ≡ option_map (blank_sent v) (bind_entry (retransmission_for p) (by_key k (live h)))
    again_like p k = sym (again_blank p (by_key k (live g))) ∙ (ap (λ (o : Option Entry). option_map (blank_sent v) (bind_entry (retransmission_for p) o)) (same_key k) ∙ again_blank p (by_key k (live h)))

    same_like : (k : ℕ) → option_map (blank_sent v) (bind_entry last_sent (by_key k (live g))) ≡ option_map (blank_sent v) (bind_entry last_sent (by_key k (live h)))
    same_like k = sym (same_blank (by_key k (live g))) ∙ (ap (λ (o : Option Entry). option_map (blank_sent v) (bind_entry last_sent o)) (same_key k) ∙ same_blank (by_key k (live h)))

    said_like : (p : Peer) (m : Message Start) (t : MessageClass) →
        option_map (blank_heard v) (class_result (length (openings g)) (live g) p m t) ≡ option_map (blank_heard v) (class_result (length (openings h)) (live h) p m t)
    said_like p m part.Fresh = ap (λ (n : ℕ). option_map (blank_heard v) (Some (fresh_result n (option_map key_of (find (is_invite_of (head_of m)) (live g))) m))) a.next
        ∙ ap (λ (o : Option TKey). option_map (blank_heard v) (Some (fresh_result (length (openings h)) o m))) (invite_like (head_of m))
    said_like p m part.Full = refl
    said_like p m (part.Repeat k) = ap (λ (o : Option (Peer × List ℕ)). Some (heard.Repeat o)) (again_like p k)
    said_like p m (part.RepeatedFinal k) = ap (λ (o : Option (Peer × List ℕ)). Some (heard.Repeat o)) (same_like k)
    said_like p m (part.Answer k) = refl
    said_like p m (part.Acked k) = refl
    said_like p m part.AckOf2xx = refl
    said_like p m part.Stray = refl

    decide : AnswerEquivalently v g h
    decide = record {
      hear = λ p m. said_like p m (class_of (head_of m) (live g)) ∙ ap (λ (t : MessageClass). option_map (blank_heard v) (class_result (length (openings h)) (live h) p m t)) (taken_like (head_of m));
      classes = taken_like;
      invite = invite_like;
      matching = owner_like;
      retransmission = again_like;
      same = same_like;
      peer = λ k.
          sym (peer_blank (by_key k (live g))) ∙ (ap (λ (o : Option Entry). option_map (λ (e : Entry). e.peer) o) (same_key k) ∙ peer_blank (by_key k (live h)));
      merged = λ k.
          sym (merged_blank (by_key k (live g)) (live g)) ∙ (ap (λ (o : Option Entry). merged_with o (map (blank v) (live g))) (sym (key_blank k (live g)))
          ∙ (ap (λ (es : List Entry). merged_with (by_key k es) es) a.live ∙ (ap (λ (o : Option Entry). merged_with o (map (blank v) (live h))) (key_blank k (live h)) ∙ merged_blank (by_key k (live h)) (live h))));
      due = λ now.
          sym (step_blank (next_due now (live g)))
          ∙ (ap (λ (o : Option DueEntryView). upcoming_of o) (sym (next_blank now (live g)) ∙ (ap (next_due now) a.live ∙ next_blank now (live h))) ∙ step_blank (next_due now (live h)));
      fires = λ now.
          sym (fires_blank (next_due now (live g)))
          ∙ (ap (λ (o : Option DueEntryView). next_key o) (sym (next_blank now (live g)) ∙ (ap (next_due now) a.live ∙ next_blank now (live h))) ∙ fires_blank (next_due now (live h)));
      due_results = λ now.
          sym (says_blank (next_due now (live g)))
          ∙ (ap (λ (o : Option DueEntryView). blank_due v (due_result o)) (sym (next_blank now (live g)) ∙ (ap (next_due now) a.live ∙ next_blank now (live h))) ∙ says_blank (next_due now (live h)));
    }

  -- ---- one more operation

  abbrev first_or : Entry → List Entry → Entry
  first_or d [] = d
  first_or d (e ∷ es) = e

  abbrev rest : List Entry → List Entry
  rest [] = []
  rest (e ∷ es) = es

  no_match : (e : Entry) (es : List Entry) → [] ≡ e ∷ es → ⊥
  no_match e es q = let n : 0 ≡ suc (length es) = ap (λ (l : List Entry). length l) q in omega (arith, n)

  kept_like : (b c : Bool) (e x : Entry) (es xs : List Entry) → b ≡ c → blank v e ≡ blank v x → map (blank v) es ≡ map (blank v) xs → map (blank v) (cond b (e ∷ es) es) ≡ map (blank v) (cond c (x ∷ xs) xs)
  kept_like true true e x es xs q p r = rw (p, r) refl
  kept_like true false e x es xs q p r = absurd cc
  kept_like false true e x es xs q p r = absurd cc
  kept_like false false e x es xs q p r = r

  live_like : (e x : Entry) → blank v e ≡ blank v x → is_live e ≡ is_live x
  live_like e x q = ap (λ (y : Entry). is_live y) q

  filter_like : (f k : Entry → Entry) (es xs : List Entry) → map (blank v) es ≡ map (blank v) xs → ((e x : Entry) → blank v e ≡ blank v x → blank v (f e) ≡ blank v (k x)) →
      map (blank v) (filter is_live (map f es)) ≡ map (blank v) (filter is_live (map k xs))
  filter_like f k [] [] q p = refl
  filter_like f k [] (x ∷ xs) q p = absurd (no_match (blank v x) (map (blank v) xs) q)
  filter_like f k (e ∷ es) [] q p = absurd (no_match (blank v e) (map (blank v) es) (sym q))
  filter_like f k (e ∷ es) (x ∷ xs) q p =
      let one : blank v (f e) ≡ blank v (k x) = p e x (ap (first_or (blank v e)) q) in
      kept_like (is_live (f e)) (is_live (k x)) (f e) (k x) (filter is_live (map f es)) (filter is_live (map k xs)) (live_like (f e) (k x) one) one (filter_like f k es xs (ap rest q) p)

  settle_like : (key : ℕ) (f k : Entry → Entry) (es xs : List Entry) → map (blank v) es ≡ map (blank v) xs →
      ((e x : Entry) → by_key key xs ≡ Some x → blank v e ≡ blank v x → blank v (f e) ≡ blank v (k x)) → map (blank v) (table_after_change key f es) ≡ map (blank v) (table_after_change key k xs)
  settle_like key f k [] [] q p = refl
  settle_like key f k [] (x ∷ xs) q p = absurd (no_match (blank v x) (map (blank v) xs) q)
  settle_like key f k (e ∷ es) [] q p = absurd (no_match (blank v e) (map (blank v) es) (sym q))
  settle_like key f k (e ∷ es) (x ∷ xs) q p = either (e.key == key) (x.key == key) refl (ap (λ (y : Entry). y.key == key) head)
      (λ b. settle_like key f k es xs (ap rest q) (λ d y r. p d y (rw b r)))
    where
      head : blank v e ≡ blank v x
      head = ap (first_or (blank v e)) q

      either : (b c : Bool) → (x.key == key) ≡ c → b ≡ c → ((x.key == key) ≡ false → map (blank v) (table_after_change key f es) ≡ map (blank v) (table_after_change key k xs))
          → map (blank v) (cond b (cond (is_live (f e)) (f e ∷ es) es) (e ∷ table_after_change key f es)) ≡ map (blank v) (cond c (cond (is_live (k x)) (k x ∷ xs) xs) (x ∷ table_after_change key k xs))
      either true true r s ih =
          let one : blank v (f e) ≡ blank v (k x) = p e x (rw r refl) head in
          kept_like (is_live (f e)) (is_live (k x)) (f e) (k x) es xs (live_like (f e) (k x) one) one (ap rest q)
      either true false r s ih = absurd cc
      either false true r s ih = absurd cc
      either false false r s ih = rw (head, ih r) refl

  -- what an operation leaves of the live transactions, and what it opens
  abbrev remaining_by : ℕ → ℕ → ℕ → TransactionOp → List Entry → List Entry
  remaining_by s i k c es = filter is_live (map (change s i c) es) ++ opens s i k c

  append_like : (ds bs xs ys : List Entry) → map (blank v) ds ≡ map (blank v) xs → map (blank v) bs ≡ map (blank v) ys → map (blank v) (ds ++ bs) ≡ map (blank v) (xs ++ ys)
  append_like ds bs xs ys p q = rw (map-append (blank v) ds bs, map-append (blank v) xs ys, p, q) refl

  length_like : (s i k : ℕ) (c d : TransactionOp) (g h : List TransactionOp) → length (opens s i k c) ≡ length (opens s i k d) → length (openings g) ≡ length (openings h) →
      length (openings g ++ opens s i k c) ≡ length (openings h ++ opens s i k d)
  length_like s i k c d g h q n =
      length-append (openings g) (opens s i k c) ∙ (ap (λ (x : ℕ). x + length (opens s i k c)) n ∙ (ap (λ (x : ℕ). length (openings h) + x) q ∙ sym (length-append (openings h) (opens s i k d))))

  module _ (g h : List TransactionOp) (a : Equivalent v g h) where
    opened_like : (c d : TransactionOp) → ((s i k : ℕ) → length (opens s i k c) ≡ length (opens s i k d)) → length (openings (c ∷ g)) ≡ length (openings (d ∷ h))
    opened_like c d q =
        length_like (step_of g) (send_count g) (length (openings g)) c d g h (q _ _ _) a.next
        ∙ ap (λ (n : ℕ). length (openings h ++ opens (step_of g) (send_count g) n d)) a.next
        ∙ ap (λ (n : ℕ). length (openings h ++ opens (step_of g) n (length (openings h)) d)) a.send_count
        ∙ ap (λ (n : ℕ). length (openings h ++ opens n (send_count h) (length (openings h)) d)) a.step

    live_after : (c d : TransactionOp) → ((s i : ℕ) (e x : Entry) → blank v e ≡ blank v x → blank v (change s i c e) ≡ blank v (change s i d x)) →
        ((s i k : ℕ) → map (blank v) (opens s i k c) ≡ map (blank v) (opens s i k d)) → map (blank v) (live (c ∷ g)) ≡ map (blank v) (live (d ∷ h))
    live_after c d p q =
        ap (map (blank v)) (live_more c g)
        ∙ (ap (λ (n : ℕ). map (blank v) (remaining_by n (send_count g) (length (openings g)) c (live g))) a.step
        ∙ (ap (λ (n : ℕ). map (blank v) (remaining_by (step_of h) n (length (openings g)) c (live g))) a.send_count
        ∙ (ap (λ (n : ℕ). map (blank v) (remaining_by (step_of h) (send_count h) n c (live g))) a.next
        ∙ (append_like _ _ _ _ (filter_like (change (step_of h) (send_count h) c) (change (step_of h) (send_count h) d) (live g) (live h) a.live (p (step_of h) (send_count h)))
        (q (step_of h) (send_count h) (length (openings h)))
        ∙ sym (ap (map (blank v)) (live_more d h))))))

    goes_on : (c d : TransactionOp) → step_of (c ∷ g) ≡ step_of (d ∷ h) → send_count (c ∷ g) ≡ send_count (d ∷ h) →
        ((s i : ℕ) (e x : Entry) → blank v e ≡ blank v x → blank v (change s i c e) ≡ blank v (change s i d x)) → ((s i k : ℕ) → map (blank v) (opens s i k c) ≡ map (blank v) (opens s i k d)) →
        ((s i k : ℕ) → length (opens s i k c) ≡ length (opens s i k d)) → Equivalent v (c ∷ g) (d ∷ h)
    goes_on c d s w p q l = record { step = s; send_count = w; next = opened_like c d l; live = live_after c d p q }

    -- an operation that changes one transaction, whose texts may differ
    hits : (c d : TransactionOp) (key : ℕ) (F G : ℕ → ℕ → Entry → Entry) → step_of (c ∷ g) ≡ step_of (d ∷ h) → send_count (c ∷ g) ≡ send_count (d ∷ h)
        → ((s i : ℕ) (e : Entry) → change s i c e ≡ change_of_key key (F s i) e) → ((s i : ℕ) (e : Entry) → change s i d e ≡ change_of_key key (G s i) e)
        → ((s i k : ℕ) → opens s i k c ≡ []) → ((s i k : ℕ) → opens s i k d ≡ [])
        → ((s i : ℕ) (e x : Entry) → by_key key (live h) ≡ Some x → blank v e ≡ blank v x → blank v (F s i e) ≡ blank v (G s i x)) → Equivalent v (c ∷ g) (d ∷ h)
    hits c d key F G s w cf dg oc od p = record {
      step = s;
      send_count = w;
      next = opened_like c d (λ s i k. ap (λ (l : List Entry). length l) (oc s i k ∙ sym (od s i k)));
      live =
          ap (map (blank v)) (live_hit c g key (F (step_of g) (send_count g)) (cf (step_of g) (send_count g)) (oc (step_of g) (send_count g) (length (openings g))))
          ∙ (ap (λ (n : ℕ). map (blank v) (table_after_change key (F n (send_count g)) (live g))) a.step
          ∙ (ap (λ (n : ℕ). map (blank v) (table_after_change key (F (step_of h) n) (live g))) a.send_count
          ∙ (settle_like key (F (step_of h) (send_count h)) (G (step_of h) (send_count h)) (live g) (live h) a.live (p (step_of h) (send_count h))
          ∙ sym (ap (map (blank v)) (live_hit d h key (G (step_of h) (send_count h)) (dg (step_of h) (send_count h)) (od (step_of h) (send_count h) (length (openings h))))))));
    }

    -- of a message only the head matters where it is received
    heard_as : (s now : ℕ) (m n : Message Start) (t : MessageClass) (e : Entry) → head_of m ≡ head_of n → change_on_receipt s m now t e ≡ change_on_receipt s n now t e
    heard_as s now m n part.Fresh e q = refl
    heard_as s now m n part.Full e q = refl
    heard_as s now m n (part.Repeat k) e q = refl
    heard_as s now m n (part.RepeatedFinal k) e q = refl
    heard_as s now m n (part.Answer k) e q = ap (λ (x : Head). change_of_key k (after_response s x.status now) e) q
    heard_as s now m n (part.Acked k) e q = refl
    heard_as s now m n part.AckOf2xx e q = ap (λ (x : Head). after_ack_2xx s x e) q
    heard_as s now m n part.Stray e q = refl

    opens_as : (s i k : ℕ) (p : Peer) (m n : Message Start) (now : ℕ) (t : MessageClass) → head_of m ≡ head_of n → opened_on_receipt s k p m now t ≡ opened_on_receipt s k p n now t
    opens_as s i k p m n now part.Fresh q = rw q refl
    opens_as s i k p m n now part.Full q = refl
    opens_as s i k p m n now (part.Repeat j) q = refl
    opens_as s i k p m n now (part.RepeatedFinal j) q = refl
    opens_as s i k p m n now (part.Answer j) q = refl
    opens_as s i k p m n now (part.Acked j) q = refl
    opens_as s i k p m n now part.AckOf2xx q = refl
    opens_as s i k p m n now part.Stray q = refl

    strange : (key : ℕ) (x : Entry) (s t : List ℕ) → by_key key (live h) ≡ Some x → ((p : Peer) → peer_of key (live h) ≡ Some p → v p ≡ false → s ≡ t) → v x.peer ≡ false → s ≡ t
    strange key x s t q f w = f x.peer (ap (λ (o : Option Entry). option_map (λ (e : Entry). e.peer) o) q) w

    go_on : GoOnEquivalently v g h
    go_on = record {
      begins = λ n. goes_on (DidBegin n) (DidBegin n) refl a.send_count (λ s i e x q. q) (λ s i k. refl) (λ s i k. refl);
      hears = λ p m n now t q.
          goes_on (DidHear p m now t) (DidHear p n now t) a.step a.send_count
          (λ s i e x r. carried (change_on_receipt s m now t) (absorbs_heard s m now t) e x r ∙ ap (blank v) (heard_as s now m n t x q))
          (λ s i k. ap (map (blank v)) (opens_as s i k p m n now t q))
          (λ s i k. ap (λ (l : List Entry). length l) (opens_as s i k p m n now t q));
      asks = λ p m n now q r.
          goes_on (DidAsk p m now) (DidAsk p n now) a.step (ap (λ (x : ℕ). min (x + 1) (2 ^ 128 - 1)) a.send_count) (λ s i e x w. w)
          (λ s i k. rw (q, blank_text (v p) (message_text m) (message_text n) r) refl)
          (λ s i k. refl);
      replies = λ key m n now q k r.
          hits (DidReply key m now) (DidReply key n now) key (λ s i. after_any_reply s i m now) (λ s i. after_any_reply s i n now)
          a.step (ap (λ (x : ℕ). min (x + 1) (2 ^ 128 - 1)) a.send_count) (λ s i e. refl) (λ s i e. refl) (λ s i k. refl) (λ s i k. refl)
          (λ s i e x w same.
          carried (after_any_reply s i m now) (absorbs_offered s i m now) e x same
          ∙ other_offer s i now m n x q k (strange key x (message_text m) (message_text n) w r));
      acks = λ key m n r.
          hits (DidAck key m) (DidAck key n) key (λ s i. with_kept_ack (message_text m)) (λ s i. with_kept_ack (message_text n))
          a.step a.send_count (λ s i e. refl) (λ s i e. refl) (λ s i k. refl) (λ s i k. refl)
          (λ s i e x w same.
          carried (with_kept_ack (message_text m)) (absorbs_kept (message_text m)) e x same
          ∙ other_kept (message_text m) (message_text n) x (strange key x (message_text m) (message_text n) w r));
      fires = λ key. goes_on (DidFire key) (DidFire key) a.step a.send_count (λ s i e x q. carried (change_of_key key (after_timer s)) (absorbs_hit key (after_timer s) (absorbs_fired s)) e x q)
          (λ s i k. refl) (λ s i k. refl);
      settles = λ key own. goes_on (DidSettle key own) (DidSettle key own) a.step a.send_count
          (λ s i e x q. carried (change_of_key key (after_settling own)) (absorbs_hit key (after_settling own) (absorbs_settled own)) e x q) (λ s i k. refl) (λ s i k. refl);
    }

pub texts_decide_nothing : TextsDecideNothing
texts_decide_nothing v g h a = (decide v g h a, go_on v g h a)
