-- Through two runs that are the same without private places states stay indistinguishable, each under its configuration, so an untrusted peer observes the same of them.
use Rattle.std.proofs.Common.{◌≡◌, ◌≢◌, ◌<◌, ◌^◌, Ok, Err, ℕ, max, Bool, true, false, List, [], ◌∷◌, ◌++◌, map, refl, sym, ap, ◌∙◌, Option, Some, None, subst, inl, inr, arith, drop}
use Rattle.std.specs.Prelude.{◌==◌, option_to_list}
use Rattle.std.proofs.lemmas.Bool.{cases_Bool}
use Rattle.std.proofs.lemmas.Bool.Decides.{nat_tests}
use Rattle.mmtel_compose.specs.ReceivedMessages.{MessageView}
use Rattle.mmtel_call_theorems.specs.Noninterference.Premises.{IsAmong}
use Rattle.mmtel_call_theorems.specs.Noninterference.Roles.{without_private}
use Rattle.mmtel_charging.specs.declared.rows.Row.{Row}
use Rattle.mmtel_directory.specs.declared.directories.Directory.{Directory}
use Rattle.mmtel_http.specs.Requests.{ParsedRequestView, request_of}
use Rattle.mmtel_records_in_force.specs.Texts.{Texts, put_each, put_stored}
use Rattle.mmtel_message.specs.Message.{Message}
use Rattle.mmtel_message.specs.Reads.{Read, read_result}
use Rattle.mmtel_message.specs.Texts.{message_text}
use Rattle.mmtel_message.specs.Vias.{IsSource}
use Rattle.mmtel_message.specs.declared.messages.Start.{Start}
use Rattle.mmtel_message.specs.declared.reading.ReadFault.TheVariants as fault
use Rattle.mmtel_environment.specs.declared.events.Event.{Event}
use Rattle.mmtel_environment.specs.declared.events.Event.TheVariants as event
use Rattle.mmtel_environment.specs.declared.events.Offer.TheVariants as offer
use Rattle.mmtel_mwi.specs.declared.counts.Counts.{Counts}
use Rattle.mmtel_sheet_grammar.specs.Texts.{stored_sheet}
use Rattle.mmtel_sheet_texts.specs.Texts.{put, text_at}
use Rattle.mmtel_sheet_values.specs.declared.values.Sheet.{Sheet}
use Rattle.mmtel_sheet_values.specs.declared.values.Who.{Who}
use Rattle.mmtel_transaction.specs.Operations.{TransactionOp}
use Rattle.mmtel_transaction.specs.OnePeer.{KeepsPeers}
use Rattle.mmtel_transaction.specs.declared.words.TKey.{TKey}
use Rattle.mmtel_trust.specs.Members.{IsIn}
use Rattle.mmtel_trust.specs.Peers.{peer_at}
use Rattle.mmtel_types.specs.declared.addrs.Addr.{Addr}
use Rattle.mmtel_types.specs.declared.numbers.Account.{Account}
use Rattle.mmtel_types.specs.declared.numbers.Peer.{Peer}
use Rattle.mmtel_web.specs.Handling.{KeeperOutcomeView, web_reply}
use Rattle.mmtel_web.specs.Uploads.{counts_put_in, stored_upload, upload_in}
use Rattle.mmtel_run_definitions.specs.Equivalence.{trusts}
use Rattle.mmtel_run_definitions.specs.OwnResponses.{completed_reply, tag_for, tags_due, to_tag_in}
use Rattle.mmtel_run_definitions.specs.Events as Events
use Rattle.mmtel_run_definitions.specs.Events.{EventRecord, ParsedEvent, TimedEvent, parsed_datagram, parsed_from, parsed_record, parsed_refusal, parsed_result, timed_events}
use Rattle.mmtel_run_definitions.specs.InForce.{upload_at, uploads_of}
use Rattle.mmtel_run_definitions.specs.Run.{after_due_deadlines, after_event_in_order, after_events, clock_at, state_after}
use Rattle.mmtel_run_definitions.specs.Transitions.{RunState, after_event, after_event_end, after_handover, after_parsed_event, after_web_reply}
use Rattle.mmtel_run_definitions.specs.Transitions.{after_web_request, initial_state, with_filed_rows, with_next_step, with_refusal_of_bytes, with_upload}
use Rattle.mmtel_run_definitions.specs.Subscriptions.{after_mailbox_upload}
use Rattle.mmtel_run_theorems.specs.EquivalentStates.{AllEarly, AllLookUpEqually, AllTied, AreAmong, EquivalentConfigs, EventIsTied, EventLooksUpEqually, IsEarly}
use Rattle.mmtel_run_theorems.specs.Roles.{role_of}
use Rattle.mmtel_run_theorems.specs.Noninterference.{Noninterference, NoninterferenceInBoth, RenamedAreLookedUpEqually, RunsAreTied}
use Rattle.mmtel_run_theorems.specs.Mask.{Mask, MaskedEvent, Nothing, Received, Refused, Tests, WebRequested, identities_tested_by, mask, mask_all, mask_event, records_in, state_at_event, tests_beside}
use Rattle.mmtel_run_theorems.specs.RenamedAccounts.{NobodyIsRenamed}
use Rattle.mmtel_run_theorems.proofs.EquivalentMailboxes.{putting-alike}
use Rattle.mmtel_run_theorems.proofs.EquivalentOperations.{after_due_deadlines-equivalent, with_next_step-equivalent}
use Rattle.mmtel_run_theorems.proofs.EquivalentEmits.{Knows, Pair, plain-equivalent, with_draws-equivalent, with_offers-equivalent}
use Rattle.mmtel_run_theorems.proofs.ActionPrefixes.{after_before, after_handover_before, met_before, with_next_step_before}
use Rattle.mmtel_run_theorems.proofs.TrustedTransactions.{IsLast, keys_in, knows, older}
use Rattle.mmtel_run_theorems.proofs.EquivalentTransitions.{Below, message-alike, trusts_same}

-- ---- masked events

abbrev pub left_of : MessageView → MaskedEvent → MessageView
left_of other Nothing = other
left_of other (Refused peer source reply) = other
left_of other (Received left tests) = left
left_of other (WebRequested put waits) = other

abbrev tests_in : Option Tests → MaskedEvent → Option Tests
tests_in other Nothing = other
tests_in other (Refused peer source reply) = other
tests_in other (Received left tests) = tests
tests_in other (WebRequested put waits) = other

abbrev peer_in : Peer → MaskedEvent → Peer
peer_in other Nothing = other
peer_in other (Refused peer source reply) = peer
peer_in other (Received left tests) = other
peer_in other (WebRequested put waits) = other

abbrev source_in : Addr → MaskedEvent → Addr
source_in other Nothing = other
source_in other (Refused peer source reply) = source
source_in other (Received left tests) = other
source_in other (WebRequested put waits) = other

abbrev reply_in : Message Start → MaskedEvent → Message Start
reply_in other Nothing = other
reply_in other (Refused peer source reply) = reply
reply_in other (Received left tests) = other
reply_in other (WebRequested put waits) = other

abbrev text_in : Option (Account × List ℕ) → MaskedEvent → Option (Account × List ℕ)
text_in other Nothing = other
text_in other (Refused peer source reply) = other
text_in other (Received left tests) = other
text_in other (WebRequested put waits) = put

abbrev waits_in : Option (Account × Counts) → MaskedEvent → Option (Account × Counts)
waits_in other Nothing = other
waits_in other (Refused peer source reply) = other
waits_in other (Received left tests) = other
waits_in other (WebRequested put waits) = waits

-- the kinds are distinct
abbrev kind_of : MaskedEvent → ℕ
kind_of Nothing = 0
kind_of (Refused peer source reply) = 1
kind_of (Received left tests) = 2
kind_of (WebRequested put waits) = 3

abbrev first_of : ℕ × MaskedEvent → List (ℕ × MaskedEvent) → ℕ × MaskedEvent
first_of other [] = other
first_of other (x ∷ xs) = x

-- ---- what is read of a datagram is marked as trusted exactly where its peer is

abbrev TrustedAs : Directory → ParsedEvent → Type 0
TrustedAs d Events.Nothing = Unit {0}
TrustedAs d (Events.Refused peer source reply) = Unit {0}
TrustedAs d (Events.Received said) = said.parsed.trusted ≡ trusts d said.peer
TrustedAs d (Events.WebRequested request kept rows) = Unit {0}

trusted_refused : (d : Directory) (peer : Peer) (source : Addr) (o : Option (Message Start)) → TrustedAs d (parsed_refusal peer source o)
trusted_refused d peer source None = tt
trusted_refused d peer source (Some reply) = tt

trusted_read : (d : Directory) (peer : Peer) (source : Addr) (r : Read) → TrustedAs d (parsed_result d.peers peer source r)
trusted_read d peer source (Ok message) = refl
trusted_read d peer source (Err (fault.TooLarge reply)) = trusted_refused d peer source reply
trusted_read d peer source (Err fault.NotSip) = tt
trusted_read d peer source (Err (fault.TooMany reply)) = trusted_refused d peer source reply
trusted_read d peer source (Err (fault.Bad at reply)) = trusted_refused d peer source reply
trusted_read d peer source (Err fault.NoMemory) = tt

trusted_from : (d : Directory) (source : Addr) (bytes : List ℕ) (o : Option Peer) → TrustedAs d (parsed_from d.peers source bytes o)
trusted_from d source bytes None = tt
trusted_from d source bytes (Some peer) = trusted_read d peer source (read_result bytes)

trusted_event : (d : Directory) (x : EventRecord) (e : Event) → x.event ≡ e → TrustedAs d (Events.parsed_event d e x.outcome x.rows)
unfolding parsed_datagram
trusted_event d x (event.Datagram from at bytes) is = trusted_from d from bytes (peer_at from d.peers.known)
trusted_event d x (event.Web at bytes) is = tt
trusted_event d x (event.Quiet at) is = tt

abbrev AllTrusted : Directory → List TimedEvent → Type 0
AllTrusted d [] = Unit {0}
AllTrusted d (x ∷ xs) = TrustedAs d x.parsed × AllTrusted d xs

all_trusted : (d : Directory) (xs : List EventRecord) → AllTrusted d (timed_events d xs)
all_trusted d [] = tt
all_trusted d (x ∷ xs) = (trusted_event d x x.event refl, all_trusted d xs)

-- ---- the records in force are those of the run

abbrev sheets_of : Texts → List Sheet
sheets_of texts = map (λ (text : Account × List ℕ). stored_sheet text.1) texts

abbrev PutIsAmong : (records : List Sheet) → Option (Account × List ℕ) → Type 0
PutIsAmong records put = (account : Account) (text : List ℕ) → put ≡ Some (account, text) → IsAmong records (stored_sheet text)

abbrev EventIsAmong : (records : List Sheet) → Directory → ParsedEvent → Type 0
EventIsAmong records d Events.Nothing = Unit {0}
EventIsAmong records d (Events.Refused peer source reply) = Unit {0}
EventIsAmong records d (Events.Received said) = Unit {0}
EventIsAmong records d (Events.WebRequested request kept rows) = PutIsAmong records (stored_upload kept (upload_in d.names request))

abbrev AllAmong : (records : List Sheet) → Directory → List TimedEvent → Type 0
AllAmong records d [] = Unit {0}
AllAmong records d (x ∷ xs) = EventIsAmong records d x.parsed × AllAmong records d xs

in_right : (xs ys : Texts) (s : Sheet) → IsIn s (sheets_of ys) → IsIn s (sheets_of (xs ++ ys))
in_right [] ys s is = is
in_right (x ∷ xs) ys s is = inr (in_right xs ys s is)

in_left : (xs ys : Texts) (s : Sheet) → IsIn s (sheets_of xs) → IsIn s (sheets_of (xs ++ ys))
in_left [] ys s is = absurd is
in_left (x ∷ xs) ys s (inl is) = inl is
in_left (x ∷ xs) ys s (inr is) = inr (in_left xs ys s is)

put_among : (records : List Sheet) (o : Option (Account × List ℕ)) (ys : Texts) → ((s : Sheet) → IsIn s (sheets_of (option_to_list o ++ ys)) → IsAmong records s) → PutIsAmong records o
put_among records o ys sub account text is =
    sub (stored_sheet text) (subst (λ (z : Option (Account × List ℕ)). IsIn (stored_sheet text) (sheets_of (option_to_list z ++ ys))) (sym is) (inl refl))

among_event : (records : List Sheet) (d : Directory) (x : EventRecord) (e : Event) (ys : Texts) →
    ((s : Sheet) → IsIn s (sheets_of (option_to_list (upload_at d.names e x.outcome) ++ ys)) → IsAmong records s) → EventIsAmong records d (Events.parsed_event d e x.outcome x.rows)
unfolding parsed_datagram
among_event records d x (event.Datagram from at bytes) ys sub = among_from (peer_at from d.peers.known)
  where
    among_refused : (peer : Peer) (o : Option (Message Start)) → EventIsAmong records d (parsed_refusal peer from o)
    among_refused peer None = tt
    among_refused peer (Some reply) = tt

    among_read : (peer : Peer) (r : Read) → EventIsAmong records d (parsed_result d.peers peer from r)
    among_read peer (Ok message) = tt
    among_read peer (Err (fault.TooLarge reply)) = among_refused peer reply
    among_read peer (Err fault.NotSip) = tt
    among_read peer (Err (fault.TooMany reply)) = among_refused peer reply
    among_read peer (Err (fault.Bad at2 reply)) = among_refused peer reply
    among_read peer (Err fault.NoMemory) = tt

    among_from : (o : Option Peer) → EventIsAmong records d (parsed_from d.peers from bytes o)
    among_from None = tt
    among_from (Some peer) = among_read peer (read_result bytes)
among_event records d x (event.Web at bytes) ys sub = put_among records (stored_upload x.outcome (upload_in d.names (request_of bytes))) ys sub
among_event records d x (event.Quiet at) ys sub = tt

all_among : (records : List Sheet) (d : Directory) (xs : List EventRecord) → ((s : Sheet) → IsIn s (sheets_of (uploads_of d.names xs)) → IsAmong records s) → AllAmong records d (timed_events d xs)
all_among records d [] sub = tt
all_among records d (x ∷ xs) sub =
    (among_event records d x x.event (uploads_of d.names xs) sub, all_among records d xs (λ s is. sub s (in_right (option_to_list (upload_at d.names x.event x.outcome)) (uploads_of d.names xs) s is)))

-- the text that is put is the account's, and no other account's
abbrev pub PutIts : Type 0
PutIts = (a : Account) (text : List ℕ) (s : List (Account × List ℕ)) → text_at (put a text s) a ≡ Some text

abbrev pub PutOthers : Type 0
PutOthers = (a b : Account) (text : List ℕ) (s : List (Account × List ℕ)) → a.0 ≢ b.0 → text_at (put a text s) b ≡ text_at s b

module _ (its : PutIts) (others : PutOthers) (records : List Sheet) where
  put_one : (a : Account) (new : List ℕ) (texts : Texts) → IsAmong records (stored_sheet new) → AreAmong records texts → AreAmong records (put a new texts)
  put_one a new texts among all = record { each = λ account text is. by_account account text is; none = all.none }
    where
      some_text : (x y : List ℕ) → Some x ≡ Some y → x ≡ y
      some_text x y e = cc

      by_account : (account : Account) (text : List ℕ) → text_at (put a new texts) account ≡ Some text → IsAmong records (stored_sheet text)
      by_account account text is = elim (cases_Bool (a.0 == account.0)) [
        | inl y ↦
            let same : a.0 ≡ account.0 = grind (arith, nat_tests, y) in
            let there : text_at (put a new texts) a ≡ Some text = ap (λ (n : ℕ). text_at (put a new texts) (record { 0 = n })) same ∙ is in
            subst (λ (t : List ℕ). IsAmong records (stored_sheet t)) (some_text new text (sym (its a new texts) ∙ there)) among
        | inr n ↦
            let apart : a.0 ≢ account.0 = λ same. apart_by same n in
            all.each account text (sym (others a account new texts apart) ∙ is)
      ]
        where
          apart_by : a.0 ≡ account.0 → (a.0 == account.0) ≡ false → ⊥
          apart_by same n = grind (arith, nat_tests, same, n)

  put_all : (o : Option (Account × List ℕ)) (texts : Texts) → PutIsAmong records o → AreAmong records texts → AreAmong records (put_stored o texts)
  put_all None texts among all = all
  put_all (Some new) texts among all = put_one new.0 new.1 texts (among new.0 new.1 refl) all

  loaded_all : (loaded texts : Texts) → ((s : Sheet) → IsIn s (sheets_of loaded) → IsAmong records s) → AreAmong records texts → AreAmong records (put_each loaded texts)
  loaded_all [] texts sub all = all
  loaded_all (x ∷ xs) texts sub all = loaded_all xs (put x.0 x.1 texts) (λ s is. sub s (inr is)) (put_one x.0 x.1 texts (sub (stored_sheet x.1) (inl refl)) all)

module _ (below : Below) (its : PutIts) (others : PutOthers) (records : List Sheet) (d e : Directory) (token : List ℕ) (keys : TKey → Bool) (sites : EquivalentConfigs records d e)
    (K : List TransactionOp → Type 0) (before : (x : TransactionOp) (h : List TransactionOp) → K (x ∷ h) → K h) (kn : (h : List TransactionOp) → K h → Knows d keys h) where
  abbrev Two : RunState → RunState → Type 0
  Two v w = Pair records d e keys v w

  abbrev whos : List Who
  whos = identities_tested_by records

  -- ---- bytes that are refused, and the web

  with_refusal_of_bytes-equivalent : (at : ℕ) (peer : Peer) (source : Addr) (reply : Message Start) (v w : RunState) → Two v w →
      Two (with_refusal_of_bytes token at peer source reply v) (with_refusal_of_bytes token at peer source reply w)
  with_refusal_of_bytes-equivalent at peer source reply v w a =
      plain-equivalent below.texts records d e keys K before kn at peer (message_text (completed_reply (tag_for token v.drawn (to_tag_in reply.lines)) source reply))
      (message_text (completed_reply (tag_for token w.drawn (to_tag_in reply.lines)) source reply)) _ _
      (λ s. ap (λ (k : ℕ). message_text (completed_reply (tag_for token k (to_tag_in reply.lines)) source reply)) a.equivalent.drawn)
      (with_draws-equivalent below.texts records d e keys K before kn (tags_due (to_tag_in reply.lines)) (tags_due (to_tag_in reply.lines)) v w refl a)

  with_upload-equivalent : (u t : Option (Account × List ℕ)) (v w : RunState) → u ≡ t → PutIsAmong records t → Two v w → Two (with_upload u v) (with_upload t w)
  with_upload-equivalent u t v w same among a = record {
    equivalent = record {
      clock = a.equivalent.clock;
      steps = a.equivalent.steps;
      actions = a.equivalent.actions;
      drawn = a.equivalent.drawn;
      calls = a.equivalent.calls;
      opened = a.equivalent.opened;
      conferences = a.equivalent.conferences;
      subscriptions = a.equivalent.subscriptions;
      pending_timers = a.equivalent.pending_timers;
      texts = ap (λ (x : Option (Account × List ℕ)). put_stored x v.texts) same ∙ ap (put_stored t) a.equivalent.texts;
      registrations = a.equivalent.registrations;
      seen = a.equivalent.seen;
    };
    one = a.one;
    other = a.other;
    among = put_all its others records t w.texts among a.among;
  }

  after_web_reply-equivalent : (at : ℕ) (r s : ParsedRequestView) (k l : KeeperOutcomeView) (rows more : List Row) (v w : RunState) →
      stored_upload k (upload_in d.names r) ≡ stored_upload l (upload_in e.names s) → PutIsAmong records (stored_upload k (upload_in d.names r)) → Two v w
      → Two (after_web_reply d at r k rows v) (after_web_reply e at s l more w)
  after_web_reply-equivalent at r s k l rows more v w same among a =
      with_offers-equivalent below.texts records d e keys K before kn (offer.Web at (web_reply d.names v.texts r k rows) ∷ []) (offer.Web at (web_reply e.names w.texts s l more) ∷ []) _ _ (λ p strange. refl)
      (with_upload-equivalent (stored_upload k (upload_in d.names r)) (stored_upload l (upload_in e.names s)) v w same (subst (PutIsAmong records) same among) a)

  -- and after it the effect of an upload to a mailbox
  after_web_request-equivalent : (at : ℕ) (r s : ParsedRequestView) (k l : KeeperOutcomeView) (rows more : List Row) (v w : RunState) →
      stored_upload k (upload_in d.names r) ≡ stored_upload l (upload_in e.names s) → counts_put_in d.names r k ≡ counts_put_in e.names s l
      → PutIsAmong records (stored_upload k (upload_in d.names r)) → Two v w → Two (after_web_request d token at r k rows v) (after_web_request e token at s l more w)
  after_web_request-equivalent at r s k l rows more v w same waits among a =
      let vs : RunState = after_web_reply d at r k rows v in
      let ws : RunState = after_web_reply e at s l more w in
      subst (λ (o : Option (Account × Counts)). Two (after_mailbox_upload d token at o vs) (after_web_request e token at s l more w)) (sym waits)
      (putting-alike below.texts records d e token keys sites K before kn at (counts_put_in e.names s l) vs ws (after_web_reply-equivalent at r s k l rows more v w same among a))

  refused_same : (at : ℕ) (p q : Peer) (x y : Addr) (r s : Message Start) (v w : RunState) → Refused p x r ≡ Refused q y s → Two v w → Two (with_refusal_of_bytes token at p x r v) (with_refusal_of_bytes token at q y s w)
  refused_same at p q x y r s v w same a =
      subst (λ (k : Peer). Two (with_refusal_of_bytes token at p x r v) (with_refusal_of_bytes token at k y s w)) (ap (peer_in p) same)
      (subst (λ (k : Addr). Two (with_refusal_of_bytes token at p x r v) (with_refusal_of_bytes token at p k s w)) (ap (source_in x) same)
      (subst (λ (k : Message Start). Two (with_refusal_of_bytes token at p x r v) (with_refusal_of_bytes token at p x k w)) (ap (reply_in r) same) (with_refusal_of_bytes-equivalent at p x r v w a)))

  -- ---- an event

  apart : (x y : MaskedEvent) → x ≡ y → kind_of x ≡ kind_of y
  apart x y same = ap kind_of same

  after_parsed_event-equivalent : (at : ℕ) (x y : ParsedEvent) (v w : RunState) → mask_event d whos v x ≡ mask_event e whos w y → TrustedAs d x → TrustedAs e y → EventIsAmong records d x →
      EventLooksUpEqually d e (mask_event e whos w y) → EventIsTied d v x → EventIsTied e w y
      → K w.actions → K (after_parsed_event e token at y w).actions → Two v w → Two (after_parsed_event d token at x v) (after_parsed_event e token at y w)
  after_parsed_event-equivalent at Events.Nothing Events.Nothing v w same trusted too among looks tied tied_too kw km z = z
  after_parsed_event-equivalent at Events.Nothing (Events.Refused q y s) v w same trusted too among looks tied tied_too kw km z = let o = apart _ _ same in absurd (omega (arith, o))
  after_parsed_event-equivalent at Events.Nothing (Events.Received n) v w same trusted too among looks tied tied_too kw km z = let o = apart _ _ same in absurd (omega (arith, o))
  after_parsed_event-equivalent at Events.Nothing (Events.WebRequested s l more) v w same trusted too among looks tied tied_too kw km z = let o = apart _ _ same in absurd (omega (arith, o))
  after_parsed_event-equivalent at (Events.Refused p x r) Events.Nothing v w same trusted too among looks tied tied_too kw km z = let o = apart _ _ same in absurd (omega (arith, o))
  after_parsed_event-equivalent at (Events.Refused p x r) (Events.Refused q y s) v w same trusted too among looks tied tied_too kw km z = refused_same at p q x y r s v w same z
  after_parsed_event-equivalent at (Events.Refused p x r) (Events.Received n) v w same trusted too among looks tied tied_too kw km z = let o = apart _ _ same in absurd (omega (arith, o))
  after_parsed_event-equivalent at (Events.Refused p x r) (Events.WebRequested s l more) v w same trusted too among looks tied tied_too kw km z = let o = apart _ _ same in absurd (omega (arith, o))
  after_parsed_event-equivalent at (Events.Received m) Events.Nothing v w same trusted too among looks tied tied_too kw km z = let o = apart _ _ same in absurd (omega (arith, o))
  after_parsed_event-equivalent at (Events.Received m) (Events.Refused q y s) v w same trusted too among looks tied tied_too kw km z = let o = apart _ _ same in absurd (omega (arith, o))
  after_parsed_event-equivalent at (Events.Received m) (Events.Received n) v w same trusted too among looks tied tied_too kw km z =
      message-alike below records d e token keys sites K before kn at m n v w z
      (ap (left_of (without_private (role_of d v m) m)) same)
      (ap (tests_in (tests_beside d.names.accounts whos (role_of d v m) m.parsed)) same)
      trusted (too ∙ sym (trusts_same below records d e token keys sites K before kn n.peer)) looks.0 looks.1 tied tied_too kw km
  after_parsed_event-equivalent at (Events.Received m) (Events.WebRequested s l more) v w same trusted too among looks tied tied_too kw km z = let o = apart _ _ same in absurd (omega (arith, o))
  after_parsed_event-equivalent at (Events.WebRequested r k rows) Events.Nothing v w same trusted too among looks tied tied_too kw km z = let o = apart _ _ same in absurd (omega (arith, o))
  after_parsed_event-equivalent at (Events.WebRequested r k rows) (Events.Refused q y s) v w same trusted too among looks tied tied_too kw km z = let o = apart _ _ same in absurd (omega (arith, o))
  after_parsed_event-equivalent at (Events.WebRequested r k rows) (Events.Received n) v w same trusted too among looks tied tied_too kw km z = let o = apart _ _ same in absurd (omega (arith, o))
  after_parsed_event-equivalent at (Events.WebRequested r k rows) (Events.WebRequested s l more) v w same trusted too among looks tied tied_too kw km z =
      after_web_request-equivalent at r s k l rows more v w (ap (text_in (stored_upload k (upload_in d.names r))) same) (ap (waits_in (counts_put_in d.names r k)) same) among z

  -- ---- CDRs are handed over, or not

  with_filed_rows_one : (rows : List Row) (v w : RunState) → Two v w → Two (with_filed_rows rows v) w
  with_filed_rows_one rows v w a = record {
    equivalent = record {
      clock = a.equivalent.clock;
      steps = a.equivalent.steps;
      actions = a.equivalent.actions;
      drawn = a.equivalent.drawn;
      calls = a.equivalent.calls;
      opened = a.equivalent.opened;
      conferences = a.equivalent.conferences;
      subscriptions = a.equivalent.subscriptions;
      pending_timers = a.equivalent.pending_timers;
      texts = a.equivalent.texts;
      registrations = a.equivalent.registrations;
      seen = a.equivalent.seen;
    };
    one = a.one;
    other = a.other;
    among = a.among;
  }

  with_filed_rows_other : (rows : List Row) (v w : RunState) → Two v w → Two v (with_filed_rows rows w)
  with_filed_rows_other rows v w a = record {
    equivalent = record {
      clock = a.equivalent.clock;
      steps = a.equivalent.steps;
      actions = a.equivalent.actions;
      drawn = a.equivalent.drawn;
      calls = a.equivalent.calls;
      opened = a.equivalent.opened;
      conferences = a.equivalent.conferences;
      subscriptions = a.equivalent.subscriptions;
      pending_timers = a.equivalent.pending_timers;
      texts = a.equivalent.texts;
      registrations = a.equivalent.registrations;
      seen = a.equivalent.seen;
    };
    one = a.one;
    other = a.other;
    among = a.among;
  }

  after_handover_one : (took : Bool) (rows : List Row) (v w : RunState) → Two v w → Two (after_handover took rows v) w
  after_handover_one took [] v w a = a
  after_handover_one false (row ∷ rows) v w a = a
  after_handover_one true (row ∷ rows) v w a = with_filed_rows_one (row ∷ rows) v w a

  after_handover_other : (took : Bool) (rows : List Row) (v w : RunState) → Two v w → Two v (after_handover took rows w)
  after_handover_other took [] v w a = a
  after_handover_other false (row ∷ rows) v w a = a
  after_handover_other true (row ∷ rows) v w a = with_filed_rows_other (row ∷ rows) v w a

  after_event_end-equivalent : (took other : Bool) (v w : RunState) → Two v w → Two (after_event_end took v) (after_event_end other w)
  after_event_end-equivalent took other v w a = after_handover_other other w.waiting (after_event_end took v) w (after_handover_one took v.waiting v w a)

  -- ---- one more event

  at_clock : (at : ℕ) (v w : RunState) → Two v w → Two (record v { clock = at }) (record w { clock = at })
  at_clock at v w a = record {
    equivalent = record {
      clock = refl;
      steps = a.equivalent.steps;
      actions = a.equivalent.actions;
      drawn = a.equivalent.drawn;
      calls = a.equivalent.calls;
      opened = a.equivalent.opened;
      conferences = a.equivalent.conferences;
      subscriptions = a.equivalent.subscriptions;
      pending_timers = a.equivalent.pending_timers;
      texts = a.equivalent.texts;
      registrations = a.equivalent.registrations;
      seen = a.equivalent.seen;
    };
    one = a.one;
    other = a.other;
    among = a.among;
  }

  -- the state in which an event comes at a moment of the clock
  abbrev state_at_event_at : Directory → (fuel at : ℕ) → RunState → RunState
  state_at_event_at x fuel at u = record (with_next_step (after_due_deadlines x token fuel at u)) { clock = at }

  abbrev Comes : (fuel i j : ℕ) → TimedEvent → TimedEvent → RunState → RunState → Type 0
  Comes fuel i j x y v w =
      mask_event d whos (state_at_event_at d fuel i v) x.parsed ≡ mask_event e whos (state_at_event_at e fuel j w) y.parsed →
      EventLooksUpEqually d e (mask_event e whos (state_at_event_at e fuel j w) y.parsed) → (IsEarly (state_at_event_at d fuel i v) → EventIsTied d (state_at_event_at d fuel i v) x.parsed) →
      (IsEarly (state_at_event_at e fuel j w) → EventIsTied e (state_at_event_at e fuel j w) y.parsed) →
      IsEarly (state_at_event_at d fuel i v) → K (after_event e token j y.parsed y.accepted (after_due_deadlines e token fuel j w)).actions →
      Two (after_event d token i x.parsed x.accepted (after_due_deadlines d token fuel i v)) (after_event e token j y.parsed y.accepted (after_due_deadlines e token fuel j w))

  after_event-equivalent : (fuel at : ℕ) (x y : TimedEvent) (v w : RunState) → TrustedAs d x.parsed → TrustedAs e y.parsed → EventIsAmong records d x.parsed → Two v w → Comes fuel at at x y v w
  after_event-equivalent fuel at x y v w trusted too among a same looks tied tied_too early k =
      let left : RunState = after_parsed_event e token at y.parsed (state_at_event_at e fuel at w) in
      let km : K left.actions = after_handover_before K before y.accepted left.waiting left k in
      let kc : K (state_at_event_at e fuel at w).actions = met_before K before e token at y.parsed (state_at_event_at e fuel at w) km in
      let ks : K (after_due_deadlines e token fuel at w).actions = with_next_step_before K before (after_due_deadlines e token fuel at w) kc in
      let z : Two (state_at_event_at d fuel at v) (state_at_event_at e fuel at w) =
      at_clock at (with_next_step (after_due_deadlines d token fuel at v)) (with_next_step (after_due_deadlines e token fuel at w))
      (with_next_step-equivalent below.texts below.tables below.records below.laws records d e token keys sites K before kn (after_due_deadlines d token fuel at v) (after_due_deadlines e token fuel at w)
      (after_due_deadlines-equivalent below.texts below.tables below.records below.laws records d e token keys sites K before kn fuel at v w ks a)) in
      after_event_end-equivalent x.accepted y.accepted (after_parsed_event d token at x.parsed (state_at_event_at d fuel at v)) left
      (after_parsed_event-equivalent at x.parsed y.parsed (state_at_event_at d fuel at v) (state_at_event_at e fuel at w) same trusted too among looks (tied early)
      (tied_too (subst (λ (n : ℕ). n < 2 ^ 60) z.equivalent.drawn early)) kc km z)

  after_event_in_order-equivalent : (fuel : ℕ) (x y : TimedEvent) (v w : RunState) → x.at ≡ y.at →
      mask_event d whos (state_at_event d token fuel x v) x.parsed ≡ mask_event e whos (state_at_event e token fuel y w) y.parsed
      → TrustedAs d x.parsed → TrustedAs e y.parsed → EventIsAmong records d x.parsed → EventLooksUpEqually d e (mask_event e whos (state_at_event e token fuel y w) y.parsed)
      → (IsEarly (state_at_event d token fuel x v) → EventIsTied d (state_at_event d token fuel x v) x.parsed) → (IsEarly (state_at_event e token fuel y w) → EventIsTied e (state_at_event e token fuel y w) y.parsed)
      → IsEarly (state_at_event d token fuel x v) → K (after_event_in_order e token fuel y w).actions → Two v w → Two (after_event_in_order d token fuel x v) (after_event_in_order e token fuel y w)
  after_event_in_order-equivalent fuel x y v w moment same trusted too among looks tied tied_too early k a =
      let clock : clock_at v x.at ≡ clock_at w y.at = ap (λ (n : ℕ). max n x.at) a.equivalent.clock ∙ ap (λ (n : ℕ). max w.clock n) moment in
      subst (λ (n : ℕ). Comes fuel n (clock_at w y.at) x y v w) (sym clock) (after_event-equivalent fuel (clock_at w y.at) x y v w trusted too among a) same looks tied tied_too early k

  after_events-equivalent : (fuel : ℕ) (xs ys : List TimedEvent) (v w : RunState) → mask_all d token fuel whos xs v ≡ mask_all e token fuel whos ys w → AllTrusted d xs → AllTrusted e ys →
      AllAmong records d xs → AllLookUpEqually d e (mask_all e token fuel whos ys w)
      → AllTied d token fuel xs v → AllTied e token fuel ys w → AllEarly d token fuel xs v → K (after_events e token fuel ys w).actions → Two v w → Two (after_events d token fuel xs v) (after_events e token fuel ys w)
  after_events-equivalent fuel [] [] v w same t u m l i j early k a = a
  after_events-equivalent fuel [] (y ∷ ys) v w same t u m l i j early k a = absurd cc
  after_events-equivalent fuel (x ∷ xs) [] v w same t u m l i j early k a = absurd cc
  after_events-equivalent fuel (x ∷ xs) (y ∷ ys) v w same t u m l i j early k a =
      let here : ℕ × MaskedEvent = (x.at, mask_event d whos (state_at_event d token fuel x v) x.parsed) in
      let first : here ≡ (y.at, mask_event e whos (state_at_event e token fuel y w) y.parsed) = ap (first_of here) same in
      after_events-equivalent fuel xs ys (after_event_in_order d token fuel x v) (after_event_in_order e token fuel y w) (ap (λ (z : List (ℕ × MaskedEvent)). drop 1 z) same) t.1 u.1 m.1 l.1 i.1 j.1 early.1 k
      (after_event_in_order-equivalent fuel x y v w (ap (λ (z : ℕ × MaskedEvent). z.0) first) (ap (λ (z : ℕ × MaskedEvent). z.1) first) t.0 u.0 m.0 l.0 i.0 j.0 early.0
      (after_before K before e token fuel ys (after_event_in_order e token fuel y w) k) a)

  initial_state-equivalent : (loaded : Texts) → AreAmong records (initial_state loaded).texts → Two (initial_state loaded) (initial_state loaded)
  initial_state-equivalent loaded among = record {
    equivalent = record {
      clock = refl;
      steps = refl;
      actions = record { step = refl; send_count = refl; next = refl; live = refl };
      drawn = refl;
      calls = tt;
      opened = refl;
      conferences = refl;
      subscriptions = refl;
      pending_timers = refl;
      texts = refl;
      registrations = refl;
      seen = λ p s. refl;
    };
    one = tt;
    other = tt;
    among = among;
  }

-- ---- two runs

-- where each client transaction and each INVITE that is acknowledged is with the peer that was sent the request
module _ (below : Below) (keeps : KeepsPeers) (its : PutIts) (others : PutOthers) (tied : RunsAreTied) where
  pub both : NoninterferenceInBoth
  both d e token loaded fuel recorded run seer read sites looks early strange same =
      let records : List Sheet = records_in d loaded recorded in
      let final : List TransactionOp = (state_after e token loaded fuel run).actions in
      let keys : TKey → Bool = keys_in d final in
      let asked : identities_tested_by records ≡ identities_tested_by (records_in e loaded run) = ap (λ (x : Mask). x.tested) same in
      let among : AreAmong records (initial_state loaded).texts =
      loaded_all its others records loaded [] (λ s is. inr (in_left loaded (uploads_of d.names recorded) s is)) (record { each = λ account text is. absurd (no_text text is); none = inl refl }) in
      (after_events-equivalent below its others records d e token keys sites (IsLast final) (older final) (knows keeps d final) fuel (timed_events d recorded) (timed_events e run)
      (initial_state loaded) (initial_state loaded)
      (ap (λ (x : Mask). x.events) same ∙ ap (λ (z : List Who). mask_all e token fuel z (timed_events e run) (initial_state loaded)) (sym asked))
      (all_trusted d recorded) (all_trusted e run) (all_among records d recorded (λ s is. inr (in_right loaded (uploads_of d.names recorded) s is)))
      (subst (λ (z : List Who). AllLookUpEqually d e (mask_all e token fuel z (timed_events e run) (initial_state loaded))) (sym asked) looks)
      (tied d token loaded fuel recorded read)
      (tied e token loaded fuel run (record { text = read.text; source = subst IsSource sites.equal.sip read.source; port = subst (λ (a : Addr). 0 < a.port) sites.equal.sip read.port })) early ([], refl)
      (initial_state-equivalent below its others records d e token keys sites (IsLast final) (older final) (knows keeps d final) loaded among)).equivalent.seen seer strange
    where
      no_text : (text : List ℕ) → None ≡ Some text → ⊥
      no_text text x = cc

  -- under one configuration
  pub one : RenamedAreLookedUpEqually → NobodyIsRenamed → Noninterference
  one looks nobody d token loaded fuel recorded run seer read early strange same =
      let none = nobody d (records_in d loaded recorded) (mask d token loaded fuel run) in
      let alike = looks d d [] (records_in d loaded recorded) (mask d token loaded fuel run) none.0 none.1 in
      both d d token loaded fuel recorded run seer read alike.0 alike.1 early strange same
