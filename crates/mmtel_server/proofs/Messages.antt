-- A message that is received, by how the transactions classified it.
use Rattle.std.proofs.Common.{◌≡◌, ℕ, ◌++◌, Bool, List, true, false, refl, ap, ◌∙◌, sym, subst, length, Option, Some, None}
use Rattle.std.proofs.lemmas.Option.{none-some, same_Some}
use Rattle.std.specs.List.{find}
use Rattle.std.specs.Prelude.{option_map}
use Rattle.mmtel_compose.specs.ReceivedMessages.{message_view}
use Rattle.mmtel_directory.specs.declared.directories.Directory.{Directory}
use Rattle.mmtel_message.specs.Message.{Message}
use Rattle.mmtel_message.specs.declared.messages.Start.{Start}
use Rattle.mmtel_environment.specs.declared.events.Offer.{Offer}
use Rattle.mmtel_run_definitions.specs.ShortRuns.{IsShort}
use Rattle.mmtel_run_definitions.specs.Transitions.{RunState, after_classified_message, after_message, after_message_as}
use Rattle.mmtel_transaction.specs.Results.{after_hear, bind_entry, by_key, class_of, class_result, hear_result, is_invite_of, key_of, last_sent, opening_result, retransmission_for, tkey}
use Rattle.mmtel_transaction.specs.Operations.{TransactionOp, live, openings}
use Rattle.mmtel_transaction.specs.Heads.{head_of, is_cancel}
use Rattle.mmtel_transaction.specs.Theorems.{FewAreOpened}
use Rattle.mmtel_transaction.specs.Represents.{IsRefusal, MayOpen, Represents, Stays}
use Rattle.mmtel_transaction.specs.declared.entries.Entry.{Entry}
use Rattle.mmtel_transaction.specs.declared.message_class.MessageClass.{MessageClass}
use Rattle.mmtel_transaction.specs.declared.message_class.MessageClass.TheVariants as part
use Rattle.mmtel_transaction.specs.declared.transactions.Transactions.{Transactions}
use Rattle.mmtel_transaction.specs.declared.words.HearFault.{HearFault}
use Rattle.mmtel_transaction.specs.declared.words.HearFault.TheVariants as fault
use Rattle.mmtel_transaction.specs.declared.words.Heard.{Heard}
use Rattle.mmtel_transaction.specs.declared.words.Heard.TheVariants as heard
use Rattle.mmtel_transaction.specs.declared.words.TKey.{TKey}
use Rattle.mmtel_types.specs.declared.addrs.Addr.{Addr}
use Rattle.mmtel_types.specs.declared.numbers.Peer.{Peer}
use Rattle.mmtel_server.proofs.Counts.{has_capacity}
use Rattle.mmtel_server.proofs.Grows.{message_grows, short_of}
use Rattle.mmtel_server.specs.Follows.{AddsOfferPrefix, Follows, IsMessageOf, NumbersNeverFall}
use Rattle.mmtel_server.specs.Representation.{IsPrefixBetween, RepresentsWithOffers}
use Rattle.mmtel_server.specs.declared.servers.Server.{Server}

-- ---- the message that the transactions return is the one that was passed to them

module _ (peer : Peer) (m : Message Start) (taken : Heard) where
  by : (x : Heard) → Some taken ≡ Some x → IsMessageOf m x → IsMessageOf m taken
  by x e so = subst (λ (y : Heard). IsMessageOf m y) (sym (same_Some taken x e)) so

  taken_open : (c : Bool) (k : ℕ) (i : Option TKey) → Some taken ≡ Some (opening_result c k i m) → IsMessageOf m taken
  taken_open true k i e = by (heard.Cancel (tkey k) i m) e refl
  taken_open false k i e = by (heard.Fresh (tkey k) m) e refl

  pub taken_so : (k : ℕ) (es : List Entry) (t : MessageClass) → Some taken ≡ class_result k es peer m t → IsMessageOf m taken
  taken_so k es part.Fresh e = taken_open (is_cancel (head_of m)) k (option_map key_of (find (is_invite_of (head_of m)) es)) e
  taken_so k es part.Full e = absurd (none-some taken (sym e))
  taken_so k es (part.Repeat j) e = by (heard.Repeat (bind_entry (retransmission_for peer) (by_key j es))) e tt
  taken_so k es (part.RepeatedFinal j) e = by (heard.Repeat (bind_entry last_sent (by_key j es))) e tt
  taken_so k es (part.Answer j) e = by (heard.Answer (tkey j) m) e refl
  taken_so k es (part.Acked j) e = by (heard.Acked (tkey j)) e tt
  taken_so k es part.AckOf2xx e = by (heard.AckOf2xx m) e refl
  taken_so k es part.Stray e = by heard.Stray e tt

-- ---- the server receives it

-- the transactions represent one more operation
goes_on : (d : Directory) (token : List ℕ) (before : List Offer) (s : Server) (t : Transactions) (out : List Offer) (w : RunState) (h : List TransactionOp) → RepresentsWithOffers d token before s out w → Represents t h
    → RepresentsWithOffers d token before (record s { transactions = t }) out (record w { actions = h })
goes_on d token before s t out w h did stands = record {
  represents = record {
    same_directory = did.represents.same_directory;
    tokens = did.represents.tokens;
    transactions = stands;
    clock = did.represents.clock;
    steps = did.represents.steps;
    texts = did.represents.texts;
    registered = did.represents.registered;
    calls = did.represents.calls;
    rooms = did.represents.rooms;
    boxes = did.represents.boxes;
    pending_timers = did.represents.pending_timers;
    waiting = did.represents.waiting;
    no_call_rows = did.represents.no_call_rows;
    no_conference_rows = did.represents.no_conference_rows;
    unfailed = did.represents.unfailed;
  };
  offers = did.offers;
}

module _ (law : NumbersNeverFall) (few : FewAreOpened) (s : Server) (t : Transactions) (out : List Offer) (at : ℕ) (peer : Peer) (source : Addr) (trusted : Bool) (m : Message Start) (taken : Heard)
    (hears_it : MayOpen s.transactions t (λ h. after_hear h peer m at) (λ h. Some taken ≡ hear_result h peer m)) (d : Directory) (token : List ℕ) (before : List Offer) (w : RunState)
    (did : RepresentsWithOffers d token before s out w) (short : IsShort (after_message d token at (message_view peer source trusted m) w)) where
  received_so : Represents t (after_hear w.actions peer m at) × (Some taken ≡ hear_result w.actions peer m)
  received_so = hears_it w.actions did.represents.transactions
      (has_capacity few w.actions (short_of w (after_message d token at (message_view peer source trusted m) w) (message_grows law d token at (message_view peer source trusted m) w) short).actions)

  back : IsMessageOf m taken
  back = taken_so peer m taken (length (openings w.actions)) (live w.actions) (class_of (head_of m) (live w.actions)) received_so.1

  same : after_classified_message d token at (message_view peer source trusted m) (Some taken) (record w { actions = after_hear w.actions peer m at }) ≡ after_message d token at (message_view peer source trusted m) w
  same = ap (λ (o : Option Heard). after_message_as d token at (message_view peer source trusted m) o w) received_so.1

  went : RepresentsWithOffers d token before (record s { transactions = t }) out (record w { actions = after_hear w.actions peer m at })
  went = goes_on d token before s t out w (after_hear w.actions peer m at) did received_so.0

  pub received_done : (s2 : Server) (out2 : List Offer)
      → ((x : Message Start) → IsMessageOf x taken → Follows (record s { transactions = t }) out s2 out2 (λ d token. after_classified_message d token at (message_view peer source trusted x) (Some taken)))
      → RepresentsWithOffers d token before s2 out2 (after_message d token at (message_view peer source trusted m) w)
  received_done s2 out2 follows = subst (λ (x : RunState). RepresentsWithOffers d token before s2 out2 x) same
      (follows m back d token before (record w { actions = after_hear w.actions peer m at }) went (subst IsShort (sym same) short))

  pub received_cut : (out2 : List Offer)
      → ((x : Message Start) → IsMessageOf x taken → AddsOfferPrefix (record s { transactions = t }) out out2 (λ d token. after_classified_message d token at (message_view peer source trusted x) (Some taken)))
      → IsPrefixBetween out out2 (before ++ (after_message d token at (message_view peer source trusted m) w).offers)
  received_cut out2 breaks = subst (λ (x : RunState). IsPrefixBetween out out2 (before ++ x.offers)) same
      (breaks m back d token before (record w { actions = after_hear w.actions peer m at }) went (subst IsShort (sym same) short))

-- a message beyond the capacity
pub full_done : (s : Server) (t : Transactions) (s2 : Server) (out out2 : List Offer) (at : ℕ) (peer : Peer) (source : Addr) (trusted : Bool) (m x : Message Start) (f : HearFault)
    → Stays s.transactions t (λ h. IsRefusal (class_of (head_of m) (live h)) m f) → f ≡ fault.Full x
    → Follows (record s { transactions = t }) out s2 out2 (λ d token. after_classified_message d token at (message_view peer source trusted x) None)
    → Follows s out s2 out2 (λ d token. after_message d token at (message_view peer source trusted m))
full_done s t s2 out out2 at peer source trusted m x f stays is follows d token before w did short =
    let h = stays w.actions did.represents.transactions in
    let why : (x ≡ m) × (class_of (head_of m) (live w.actions) ≡ part.Full) = subst (λ (g : HearFault). IsRefusal (class_of (head_of m) (live w.actions)) m g) is h.1 in
    let none : None ≡ hear_result w.actions peer m = sym (ap (λ (p : MessageClass). class_result (length (openings w.actions)) (live w.actions) peer m p) why.1) in
    let same : after_classified_message d token at (message_view peer source trusted x) None w ≡ after_message d token at (message_view peer source trusted m) w =
    ap (λ (y : Message Start). after_classified_message d token at (message_view peer source trusted y) None w) why.0
    ∙ ap (λ (o : Option Heard). after_message_as d token at (message_view peer source trusted m) o w) none in
    subst (λ (y : RunState). RepresentsWithOffers d token before s2 out2 y) same (follows d token before w (goes_on d token before s t out w w.actions did h.0) (subst IsShort (sym same) short))
