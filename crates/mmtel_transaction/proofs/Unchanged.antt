-- What is sent or settled in a transaction that does not allow it changes nothing.
use Rattle.std.proofs.Common.{◌≡◌, ℕ, List, [], ◌∷◌, ◌++◌, refl, true, false, Bool, not, ◌||◌, sym, ap, ◌∙◌, cond}
use Rattle.std.specs.Prelude.{Option, Some, None, ◌==◌}
use Rattle.mmtel_message.specs.Message.{Message}
use Rattle.mmtel_message.specs.Texts.{message_text}
use Rattle.mmtel_message.specs.declared.messages.Start.{Start}
use Rattle.mmtel_transaction.specs.declared.entries.Entry.{Entry}
use Rattle.mmtel_transaction.specs.declared.entries.ReliableResponse.{ReliableResponse}
use Rattle.mmtel_transaction.specs.Heads.{head_of}
use Rattle.mmtel_transaction.specs.Changes.{after_any_reply, after_reply, after_settling, reliable_response_of, with_reliable_if, without_rseq}

first_if : (b : Bool) (x y : Entry) → b ≡ true → cond b x y ≡ x
first_if b x y q = ap (λ t. cond t x y) q

with_kept : (o : Option ReliableResponse) (e : Entry) → (not e.is_server || not (e.final_status == 0)) ≡ true → with_reliable_if o e ≡ e
with_kept None e q = refl
with_kept (Some answer) e q = first_if (not e.is_server || not (e.final_status == 0)) e _ q

-- a response is sent in a server transaction without a final one
offered_kept : (s i : ℕ) (m : Message Start) (now : ℕ) (e : Entry) → (not e.is_server || not (e.final_status == 0)) ≡ true → after_any_reply s i m now e ≡ e
offered_kept s i m now e q =
    ap (after_reply s i (head_of m).status (message_text m) (head_of m).to_tag now) (with_kept (reliable_response_of s i m (message_text m) now) e q)
    ∙ first_if (not e.is_server || not (e.final_status == 0)) e _ q

of_done : (b d : Bool) → d ≡ false → (not b || not d) ≡ true
of_done true d q = ap not q
of_done false d q = refl

pub any_reply_client : (s i : ℕ) (m : Message Start) (now : ℕ) (e : Entry) → e.is_server ≡ false → after_any_reply s i m now e ≡ e
any_reply_client s i m now e q = offered_kept s i m now e (ap (λ b. not b || not (e.final_status == 0)) q)

pub any_reply_done : (s i : ℕ) (m : Message Start) (now : ℕ) (e : Entry) → (e.final_status == 0) ≡ false → after_any_reply s i m now e ≡ e
any_reply_done s i m now e q = offered_kept s i m now e (of_done e.is_server (e.final_status == 0) q)

-- and nothing is settled where no response waits
pub settled_none : (own : Option ℕ) (e : Entry) → e.reliable ≡ [] → after_settling own e ≡ e
settled_none None e q = ap (λ xs. (let r : Entry = record e { reliable = xs } in r)) (sym q)
settled_none (Some own) e q = ap (λ xs. (let r : Entry = record e { reliable = without_rseq own xs } in r)) q ∙ ap (λ xs. (let r : Entry = record e { reliable = xs } in r)) (sym q)
