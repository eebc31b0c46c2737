-- What of the transactions does not depend on the texts that are due to trusted peers: those texts are only ever sent to those peers, and decide nothing.
use Rattle.std.specs.Prelude.{◌≡◌, ℕ, Bool, false, if◌then◌else◌, List, [], ◌∷◌, length, map, Option, Some, option_map}
use Rattle.mmtel_types.specs.declared.numbers.Peer.{Peer}
use Rattle.mmtel_message.specs.Message.{Message}
use Rattle.mmtel_message.specs.Texts.{message_text}
use Rattle.mmtel_message.specs.declared.messages.Start.{Start}
use Rattle.mmtel_transaction.specs.Heads.{head_of, reliable_number}
use Rattle.mmtel_transaction.specs.Operations.{TransactionOp, DidBegin, DidHear, DidAsk, DidReply, DidAck, DidFire, DidSettle, live, send_count, openings, step_of}
use Rattle.mmtel_transaction.specs.Results.{DueEntryView, by_key, class_of, due_result, hear_result, is_invite_of}
use Rattle.mmtel_transaction.specs.Results.{is_merged, key_of, last_sent, next_due, peer_of, retransmission_for}
use Rattle.mmtel_transaction.specs.Results.{bind_entry, upcoming_of}
use Rattle.std.specs.List.{find}
use Rattle.mmtel_transaction.specs.Matching.{matching_entry}
use Rattle.mmtel_transaction.specs.declared.heads.Head.{Head}
use Rattle.mmtel_transaction.specs.declared.entries.Entry.{Entry}
use Rattle.mmtel_transaction.specs.declared.entries.ReliableResponse.{ReliableResponse}
use Rattle.mmtel_transaction.specs.declared.message_class.MessageClass.{MessageClass}
use Rattle.mmtel_transaction.specs.declared.words.Due.{Due}
use Rattle.mmtel_transaction.specs.declared.words.Due.TheVariants as due
use Rattle.mmtel_transaction.specs.declared.words.Heard.{Heard}
use Rattle.mmtel_transaction.specs.declared.words.Heard.TheVariants as heard

-- a text, or nothing in its place
abbrev pub blank_if : Bool → List ℕ → List ℕ
blank_if b t = if b then [] else t

abbrev pub blank_maybe : Bool → Option (List ℕ) → Option (List ℕ)
blank_maybe b o = option_map (blank_if b) o

abbrev pub blank_reliable : Bool → ReliableResponse → ReliableResponse
blank_reliable b answer = record answer { text = blank_if b answer.text }

-- a transaction without its texts, where its peer is trusted
abbrev pub blank : (Peer → Bool) → Entry → Entry
blank trusts e = record e {
  request = blank_if (trusts e.peer) e.request;
  last = blank_maybe (trusts e.peer) e.last;
  reliable = map (blank_reliable (trusts e.peer)) e.reliable;
}

abbrev pub blank_sent : (Peer → Bool) → Peer × List ℕ → Peer × List ℕ
blank_sent trusts g = (g.0, blank_if (trusts g.0) g.1)

abbrev pub blank_due : (Peer → Bool) → Due → Due
blank_due trusts (due.Again peer at text) = due.Again peer at (blank_if (trusts peer) text)
blank_due trusts (due.Silent key branch method at) = due.Silent key branch method at
blank_due trusts (due.Over key at) = due.Over key at
blank_due trusts due.Nothing = due.Nothing

abbrev pub blank_heard : (Peer → Bool) → Heard → Heard
blank_heard trusts (heard.Fresh key m) = heard.Fresh key m
blank_heard trusts (heard.Answer key m) = heard.Answer key m
blank_heard trusts (heard.Repeat given) = heard.Repeat (option_map (blank_sent trusts) given)
blank_heard trusts (heard.Acked key) = heard.Acked key
blank_heard trusts (heard.Cancel key invite m) = heard.Cancel key invite m
blank_heard trusts (heard.AckOf2xx m) = heard.AckOf2xx m
blank_heard trusts heard.Stray = heard.Stray

-- the number of the transaction with the next deadline
abbrev pub next_key : Option DueEntryView → Option ℕ
next_key o = option_map (λ n. n.entry.key) o

-- two lists of operations that leave the same transactions except for those texts
pub record Equivalent (trusts : Peer → Bool) (g h : List TransactionOp) : Type 0 where
  pub step : step_of g ≡ step_of h
  pub send_count : send_count g ≡ send_count h
  pub next : length (openings g) ≡ length (openings h)
  pub live : map (blank trusts) (live g) ≡ map (blank trusts) (live h)

-- each operation has equivalent results: equal, or equal except for those texts
pub record AnswerEquivalently (trusts : Peer → Bool) (g h : List TransactionOp) : Type 0 where
  pub hear : (p : Peer) (m : Message Start) → option_map (blank_heard trusts) (hear_result g p m) ≡ option_map (blank_heard trusts) (hear_result h p m)
  pub classes : (m : Head) → class_of m (live g) ≡ class_of m (live h)
  pub invite : (m : Head) → option_map key_of (find (is_invite_of m) (live g)) ≡ option_map key_of (find (is_invite_of m) (live h))
  pub matching : (m : Head) → option_map key_of (matching_entry m (live g)) ≡ option_map key_of (matching_entry m (live h))
  pub retransmission : (p : Peer) (key : ℕ) →
      option_map (blank_sent trusts) (bind_entry (retransmission_for p) (by_key key (live g)))
      ≡ option_map (blank_sent trusts) (bind_entry (retransmission_for p) (by_key key (live h)))
  pub same : (key : ℕ) → option_map (blank_sent trusts) (bind_entry last_sent (by_key key (live g)))
      ≡ option_map (blank_sent trusts) (bind_entry last_sent (by_key key (live h)))
  pub peer : (key : ℕ) → peer_of key (live g) ≡ peer_of key (live h)
  pub merged : (key : ℕ) → is_merged key (live g) ≡ is_merged key (live h)
  pub due : (now : ℕ) → upcoming_of (next_due now (live g)) ≡ upcoming_of (next_due now (live h))
  pub fires : (now : ℕ) → next_key (next_due now (live g)) ≡ next_key (next_due now (live h))
  pub due_results : (now : ℕ) → blank_due trusts (due_result (next_due now (live g))) ≡ blank_due trusts (due_result (next_due now (live h)))

-- in this transaction the same text is sent, unless its peer is trusted
abbrev pub SentEquivalently : (Peer → Bool) → ℕ → List TransactionOp → Message Start → Message Start → Type 0
SentEquivalently trusts key h m n = (p : Peer) → peer_of key (live h) ≡ Some p → trusts p ≡ false → message_text m ≡ message_text n

-- and they remain equivalent: one more operation on both leaves them equivalent, where its messages have the same head, are the same reliable response or none, and differ only
-- in what trusted peers are sent
pub record GoOnEquivalently (trusts : Peer → Bool) (g h : List TransactionOp) : Type 0 where
  pub begins : (n : ℕ) → Equivalent trusts (DidBegin n ∷ g) (DidBegin n ∷ h)
  pub hears : (p : Peer) (m n : Message Start) (now : ℕ) (taken : MessageClass) → head_of m ≡ head_of n → Equivalent trusts (DidHear p m now taken ∷ g) (DidHear p n now taken ∷ h)
  pub asks : (p : Peer) (m n : Message Start) (now : ℕ) → head_of m ≡ head_of n → (trusts p ≡ false → message_text m ≡ message_text n) →
      Equivalent trusts (DidAsk p m now ∷ g) (DidAsk p n now ∷ h)
  pub replies : (key : ℕ) (m n : Message Start) (now : ℕ) → head_of m ≡ head_of n → reliable_number m ≡ reliable_number n → SentEquivalently trusts key h m n →
      Equivalent trusts (DidReply key m now ∷ g) (DidReply key n now ∷ h)
  pub acks : (key : ℕ) (m n : Message Start) → SentEquivalently trusts key h m n → Equivalent trusts (DidAck key m ∷ g) (DidAck key n ∷ h)
  pub fires : (key : ℕ) → Equivalent trusts (DidFire key ∷ g) (DidFire key ∷ h)
  pub settles : (key : ℕ) (own : Option ℕ) → Equivalent trusts (DidSettle key own ∷ g) (DidSettle key own ∷ h)

-- the texts that are due to trusted peers decide nothing
abbrev pub TextsDecideNothing : Type 0
TextsDecideNothing = (trusts : Peer → Bool) (g h : List TransactionOp) → Equivalent trusts g h → AnswerEquivalently trusts g h × GoOnEquivalently trusts g h
