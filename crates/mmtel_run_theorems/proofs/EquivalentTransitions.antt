-- What is received from a peer keeps two states indistinguishable, where two messages are the same but for private places and their tests have the same results.
use Rattle.std.proofs.Common.{◌≡◌, ℕ, ◌+◌, ◌==◌, Bool, true, false, ◌&&◌, List, [], ◌∷◌, ◌++◌, length, refl, sym, ap, ◌∙◌, Option, Some, None, Result, Ok, Err, subst, append-nil, codes}
use Rattle.std.specs.Prelude.{if◌then◌else◌}
use Rattle.std.specs.List.{find}
use Rattle.std.specs.Option.{option_map}
use Rattle.mmtel_compose.specs.ReceivedMessages.{MessageView, status_of}
use Rattle.mmtel_b2bua.specs.declared.signals.Signal.TheVariants as signal
use Rattle.mmtel_b2bua_theorems.specs.EquivalentTables.{EquivalentTables}
use Rattle.mmtel_b2bua_theorems.specs.Noninterference.{TablesStayEquivalent}
use Rattle.mmtel_b2bua_theorems.specs.Signals.{public_signal}
use Rattle.mmtel_output.specs.ResponseMatching.{awaited_request_branch, branch_in, is_awaited_response}
use Rattle.mmtel_call_theorems.specs.Noninterference.PublicParts.{MessagesHaveNothingPrivate}
use Rattle.mmtel_call_theorems.specs.Noninterference.PublicCall.{nobody}
use Rattle.mmtel_call_theorems.specs.Noninterference.Premises.{AreDecidedEqually, IsFromOwnPeer, goes_across}
use Rattle.mmtel_call_theorems.specs.Noninterference.Roles.{Plain, Role, without_private}
use Rattle.mmtel_call_theorems.specs.Noninterference.Observations.{AckSent, Armed, Observation, RequestSent, ResponseSent, Settled, TextSent, Trust, observation, observations, trust_of}
use Rattle.mmtel_directory.specs.declared.directories.Directory.{Directory}
use Rattle.mmtel_focus.specs.Operations as rooms
use Rattle.mmtel_focus.specs.Operations.{join_request}
use Rattle.mmtel_focus.specs.Referrals.{referral_in}
use Rattle.mmtel_focus.specs.Table.{access, is_table_full}
use Rattle.mmtel_focus.specs.declared.faults.RoomFault.{RoomFault}
use Rattle.mmtel_focus.specs.declared.referrals.Replaces.{Replaces}
use Rattle.mmtel_focus.specs.declared.signals.RoomSignal.TheVariants as of_room
use Rattle.mmtel_focus_theorems.specs.Inputs as both
use Rattle.mmtel_leg.specs.Legs.{Leg}
use Rattle.mmtel_leg.specs.declared.legs.Released.TheVariants as released
use Rattle.mmtel_masked_messages.specs.Heads.{EquivalentParsedHaveOneHead}
use Rattle.mmtel_masked_messages.specs.Responses.{EquivalentResponsesHaveOneHead}
use Rattle.mmtel_message.specs.Faults.{is_method, is_request}
use Rattle.mmtel_message.specs.Fields.{five_at}
use Rattle.mmtel_message.specs.Message.{Message}
use Rattle.mmtel_message.specs.Texts.{message_text}
use Rattle.mmtel_message.specs.declared.fields.Five.{Five}
use Rattle.mmtel_message.specs.declared.messages.Start.{Start}
use Rattle.mmtel_message.specs.declared.messages.Start.TheVariants.{Request, Status}
use Rattle.mmtel_environment.specs.declared.events.Offer.{Offer}
use Rattle.mmtel_environment.specs.declared.events.Offer.TheVariants as offer
use Rattle.mmtel_call_parties.specs.Parties.{parties_of, served_accounts}
use Rattle.mmtel_call_parties.specs.declared.parties.Parties.{Parties}
use Rattle.mmtel_rules.specs.declared.values.Identities2.{Identities2}
use Rattle.mmtel_base.specs.Numbers.{token_text}
use Rattle.mmtel_sheet_values.specs.declared.values.Sheet.{Sheet}
use Rattle.mmtel_transaction.specs.Equivalence.{Equivalent, TextsDecideNothing, blank_if, blank_sent}
use Rattle.mmtel_transaction.specs.Results.{bind_entry, by_key, class_of, class_result, is_invite_of, is_merged, key_of, opening_result, peer_of, retransmission_for, tkey}
use Rattle.mmtel_transaction.specs.Operations.{DidHear, TransactionOp, live, openings}
use Rattle.mmtel_transaction.specs.Heads.{head_of, head_with, is_cancel, reliable_number}
use Rattle.mmtel_transaction.specs.OnePeer.{NewPeers}
use Rattle.mmtel_transaction.specs.Tokens.{TokensView}
use Rattle.mmtel_transaction.specs.declared.heads.Head.{Head}
use Rattle.mmtel_transaction.specs.declared.message_class.MessageClass.{MessageClass}
use Rattle.mmtel_transaction.specs.declared.message_class.MessageClass.TheVariants as part
use Rattle.mmtel_transaction.specs.declared.words.Emit.{Emit}
use Rattle.mmtel_transaction.specs.declared.words.Emit.TheVariants as emit
use Rattle.mmtel_transaction.specs.declared.words.Heard as transaction
use Rattle.mmtel_transaction.specs.declared.words.TKey.{TKey}
use Rattle.mmtel_trust.specs.ParsedMessage.{caller_account}
use Rattle.mmtel_trust.specs.Peers.{Peers, is_trusted}
use Rattle.mmtel_types.specs.declared.numbers.Account.{Account}
use Rattle.mmtel_types.specs.declared.numbers.CallNo.{CallNo}
use Rattle.mmtel_types.specs.declared.numbers.Peer.{Peer}
use Rattle.mmtel_types.specs.declared.numbers.RoomNo.{RoomNo}
use Rattle.mmtel_types.specs.declared.numbers.SubNo.{SubNo}
use Rattle.mmtel_types.specs.declared.sides.Side.{Side}
use Rattle.mmtel_run_definitions.specs.Equivalence.{EqualMasksAreEquivalent, trusts}
use Rattle.mmtel_run_definitions.specs.OwnResponses.{StatusResponse, plain_response, response_to, tag_for, tags_due}
use Rattle.mmtel_run_definitions.specs.Calls.{DialogName, are_full, arrival_signal, call_config, call_of_invite, caller_of, dialog_name, named_by}
use Rattle.mmtel_run_definitions.specs.Events.{message_in}
use Rattle.mmtel_run_definitions.specs.InForce.{CallsSeeWhatIsInForce}
use Rattle.mmtel_run_definitions.specs.Records.{until_of}
use Rattle.mmtel_run_definitions.specs.Refusals.{Disposition, Enter, EnterConference, EnterSubscription, JoinConference, OpenCall, OpenConference, Register, Respond, Subscribe, disposition, is_subscribe, registrant}
use Rattle.mmtel_run_definitions.specs.Ownership.{DialogOwner, InSubscription, InCall, InConference, OfSubscriptions, OfCalls, OfConferences, Owner, is_accepting, subscription_named_by, find_participant}
use Rattle.mmtel_run_definitions.specs.Ownership.{in_subscription, in_call_or, in_conference_or, is_accepted, owner_of_branch, leg_by, replacement_in, replaces_by, participant_named_by, status_of_fault}
use Rattle.mmtel_run_definitions.specs.Subscriptions.{after_notify_response}
use Rattle.mmtel_run_definitions.specs.View.{view}
use Rattle.mmtel_run_definitions.specs.Transitions.{RunState, after_ack, after_ack_by, after_classified_message, calls_in, after_cancel, after_cancel_of, output_of_conference_op, with_draws}
use Rattle.mmtel_run_definitions.specs.Transitions.{with_emit, after_participant_request, conference_signal_op, with_received_action, dialog_owner_in, after_conference_op}
use Rattle.mmtel_run_definitions.specs.Transitions.{after_conference_invite, with_conference_output, next_tag, with_offers, after_factory_invite, with_registration, with_retransmission}
use Rattle.mmtel_run_definitions.specs.Transitions.{after_replaces, with_response, with_stateless_response, after_response, after_response_to, after_join_if, after_opening_if, conferences_in}
use Rattle.mmtel_run_definitions.specs.Transitions.{after_conference_signal, after_disposition, after_new_request, after_message, tokens_now, after_newcomer_refusal, subscriptions_in}
use Rattle.mmtel_run_theorems.specs.EquivalentStates.{CallerLooksUpEqually, EquivalentConfigs, MessageIsTied, MessageLooksUpEqually}
use Rattle.mmtel_run_theorems.specs.Roles.{is_opening, may_subscribe, role_of}
use Rattle.mmtel_run_theorems.specs.Mask.{Tests, identities_tested_by as asked_in, tests_beside, tests_of}
use Rattle.mmtel_run_theorems.proofs.EquivalentAdoptions.{access_same, find_same, replacing-alike}
use Rattle.mmtel_run_theorems.proofs.EquivalentMailboxes.{ReadEquallyInDialog, SubscribeEqually, after_notify_response-equivalent, entering_box-alike, subscribing-alike}
use Rattle.mmtel_run_theorems.proofs.EquivalentCallers.{decide-equivalent}
use Rattle.mmtel_run_theorems.proofs.DispositionKinds.{enters_named, fresh_request, known_across, of_box, of_call, of_nobody, opens, opens_opening, refuses, subscribe_waits, subscribes_alone}
use Rattle.mmtel_run_theorems.proofs.EquivalentOperations.{Says, TableTheorems, after_conference_op-equivalent, bare, branches_equivalent, lodging-alike}
use Rattle.mmtel_run_theorems.proofs.EquivalentOperations.{seated-alike, seen-equivalent, signalled-alike, tables_equivalent, tokens_same}
use Rattle.mmtel_run_theorems.proofs.EquivalentEmits.{Knows, Pair, acting-equivalent, one_offer, plain-equivalent, reply-equivalent, with_draws-equivalent, with_offers-equivalent}
use Rattle.mmtel_run_theorems.proofs.RoleBounds.{true_false}
use Rattle.mmtel_run_theorems.proofs.ActionPrefixes.{answering_before, replacing_before}
use Rattle.mmtel_run_theorems.proofs.RoleBoundsInBoth.{ack_receives, answer_receives, opening_is, request_receives, seat_receives, subscriber_is}
use Rattle.mmtel_run_theorems.proofs.EquivalentMessages.{asked_same, boxed_same, decided_same, head_same, leg_same, named_same, parties_same, peer_same, refer_same}
use Rattle.mmtel_run_theorems.proofs.EquivalentMessages.{registered_same, reply_head, reply_number, reply_whole, seated_same, start_same, subscribed_same, tag_same}
use Rattle.mmtel_run_theorems.proofs.CallerTests.{tests_same}

-- what is proved below
pub record Below : Type 0 where
  pub texts : TextsDecideNothing
  pub new : NewPeers
  pub heads : EquivalentParsedHaveOneHead
  pub responses : EquivalentResponsesHaveOneHead
  pub masks : EqualMasksAreEquivalent
  pub wholes : MessagesHaveNothingPrivate
  pub tables : TablesStayEquivalent
  pub laws : TableTheorems
  pub records : CallsSeeWhatIsInForce

some_same : (A : Type 0) (x y : A) → Some x ≡ Some y → x ≡ y
some_same A x y e = cc

-- ---- that a request was accepted is observed from its response

status_in : (start : Start) (o : Option Five) → status_of start ≡ (head_with start o).status
status_in (Request method uri) None = refl
status_in (Request method uri) (Some five) = refl
status_in (Status code phrase) None = refl
status_in (Status code phrase) (Some five) = refl

head_status : (m : Message Start) → status_of m.start ≡ (head_of m).status
unfolding head_of
head_status m = status_in m.start (five_at m.lines)

abbrev is_accepting_seen : Observation → Bool
is_accepting_seen (RequestSent p h x) = false
is_accepting_seen (ResponseSent key h number x) = h.status == 202
is_accepting_seen (TextSent p x) = false
is_accepting_seen (AckSent key x) = false
is_accepting_seen (Settled key own) = false
is_accepting_seen (Armed x) = false

abbrev first_accepts : List Observation → Bool
first_accepts [] = false
first_accepts (x ∷ xs) = is_accepting_seen x

is_accepting_is : (t : Trust) (x : Emit) → is_accepting x ≡ is_accepting_seen (observation t x)
is_accepting_is t (emit.Ask p m) = refl
is_accepting_is t (emit.Reply key m) = ap (λ (n : ℕ). n == 202) (head_status m)
is_accepting_is t (emit.Plain p x) = refl
is_accepting_is t (emit.Ack key m) = refl
is_accepting_is t (emit.Settled key own) = refl
is_accepting_is t (emit.Arm call what when) = refl
is_accepting_is t (emit.ArmSeat room seat what when) = refl

accepted_is : (t : Trust) (xs : List Emit) → is_accepted xs ≡ first_accepts (observations t xs)
accepted_is t [] = refl
accepted_is t (x ∷ xs) = is_accepting_is t x

accepted_same : (t : Trust) (xs ys : List Emit) → observations t xs ≡ observations t ys → is_accepted xs ≡ is_accepted ys
accepted_same t xs ys e = accepted_is t xs ∙ (ap first_accepts e ∙ sym (accepted_is t ys))

module _ (below : Below) (records : List Sheet) (d e : Directory) (token : List ℕ) (keys : TKey → Bool) (sites : EquivalentConfigs records d e)
    (K : List TransactionOp → Type 0) (older : (x : TransactionOp) (h : List TransactionOp) → K (x ∷ h) → K h) (knows : (h : List TransactionOp) → K h → Knows d keys h) where
  abbrev S : Trust
  S = trust_of (call_config d) keys

  abbrev Two : RunState → RunState → Type 0
  Two v w = Pair records d e keys v w

  pub trusts_same : (p : Peer) → trusts d p ≡ trusts e p
  trusts_same p = ap (λ (t : Peers). is_trusted p t.known) sites.equal.peers

  tables_both : (v w : RunState) → Two v w → EquivalentTables records (trusts d) (bare (calls_in d v)) (bare (calls_in e w))
  tables_both v w a = tables_equivalent below.texts below.tables below.records below.laws records d e token keys sites K older knows v w a

  with_registration-equivalent : (account : Account) (until : ℕ) (v w : RunState) → Two v w → Two (with_registration account until v) (with_registration account until w)
  with_registration-equivalent account until v w a = record {
    equivalent = record {
      clock = a.equivalent.clock;
      steps = a.equivalent.steps;
      actions = a.equivalent.actions;
      drawn = a.equivalent.drawn;
      calls = a.equivalent.calls;
      opened = a.equivalent.opened;
      conferences = a.equivalent.conferences;
      subscriptions = a.equivalent.subscriptions;
      pending_timers = a.equivalent.pending_timers;
      texts = a.equivalent.texts;
      registrations = ap (λ (l : List (Account × ℕ)). (account, until) ∷ l) a.equivalent.registrations;
      seen = a.equivalent.seen;
    };
    one = a.one;
    other = a.other;
    among = a.among;
  }

  tag_equivalent : (i j : ℕ) (s t : Option (List ℕ)) → i ≡ j → s ≡ t → tag_for token i s ≡ tag_for token j t
  tag_equivalent i j s t x y = ap (λ (k : ℕ). tag_for token k s) x ∙ ap (tag_for token j) y

  -- ---- retransmissions

  abbrev offers_given : ℕ → Option (Peer × List ℕ) → List Offer
  offers_given at None = []
  offers_given at (Some g) = offer.To g.0 at g.1 ∷ []

  given_seen : (p : Peer) (at : ℕ) (o : Option (Peer × List ℕ)) → trusts d p ≡ false → view p (offers_given at (option_map (blank_sent (trusts d)) o)) ≡ view p (offers_given at o)
  given_seen p at None strange = refl
  given_seen p at (Some g) strange = one_offer d p g.0 at (blank_if (trusts d g.0) g.1) g.1 strange (λ s. ap (λ (b : Bool). blank_if b g.1) s)

  with_retransmission_same : (at : ℕ) (o : Option (Peer × List ℕ)) (w : RunState) → with_retransmission at o w ≡ record w { offers = w.offers ++ offers_given at o }
  with_retransmission_same at None w = ap (λ (os : List Offer). record w { offers = os }) (sym (append-nil w.offers))
  with_retransmission_same at (Some g) w = refl

  with_retransmission-equivalent : (at : ℕ) (x y : Option (Peer × List ℕ)) (v w : RunState) → option_map (blank_sent (trusts d)) x ≡ option_map (blank_sent (trusts d)) y → Two v w →
      Two (with_retransmission at x v) (with_retransmission at y w)
  with_retransmission-equivalent at x y v w s a =
      subst (λ (u : RunState). Two u (with_retransmission at y w)) (sym (with_retransmission_same at x v))
      (subst (λ (u : RunState). Two (with_offers (offers_given at x) v) u) (sym (with_retransmission_same at y w))
      (with_offers-equivalent below.texts records d e keys K older knows (offers_given at x) (offers_given at y) v w
      (λ p strange. sym (given_seen p at x strange) ∙ (ap (λ (z : Option (Peer × List ℕ)). view p (offers_given at z)) s ∙ given_seen p at y strange)) a))

  -- ---- two messages

  module _ (at : ℕ) (m n : MessageView) (v w : RunState) (a : Two v w) (same : without_private (role_of d v m) m ≡ without_private (role_of e w n) n)
      (tests : tests_beside d.names.accounts (asked_in records) (role_of d v m) m.parsed ≡ tests_beside e.names.accounts (asked_in records) (role_of e w n) n.parsed)
      (trusted_one : m.parsed.trusted ≡ trusts d m.peer) (trusted_two : n.parsed.trusted ≡ trusts d n.peer) (looks : MessageLooksUpEqually d e (without_private (role_of e w n) n))
      (caller_looks : CallerLooksUpEqually d e (without_private (role_of e w n) n) (tests_beside e.names.accounts (asked_in records) (role_of e w n) n.parsed))
      (tied : MessageIsTied d v m) (tied_too : MessageIsTied e w n) (kw : K w.actions) where
    abbrev r : Role
    r = role_of d v m

    abbrev s : Role
    s = role_of e w n

    abbrev M : Message Start
    M = message_in m.parsed

    abbrev N : Message Start
    N = message_in n.parsed

    peers : m.peer ≡ n.peer
    peers = peer_same below.heads below.responses below.masks d e sites.equal m n r s same

    one_head : head_of M ≡ head_of N
    one_head = head_same below.heads below.responses below.masks d e sites.equal m n r s same

    tags : m.parsed.to_tag ≡ n.parsed.to_tag
    tags = tag_same below.heads below.responses below.masks d e sites.equal m n r s same

    knows_one : Knows d keys v.actions
    knows_one key q is = knows w.actions kw key q (sym (((below.texts (trusts d) v.actions w.actions a.equivalent.actions).0).peer key) ∙ is)

    -- ---- what was received

    received_alike : (t : MessageClass) → Two (record v { actions = DidHear m.peer M at t ∷ v.actions }) (record w { actions = DidHear n.peer N at t ∷ w.actions })
    received_alike t =
        acting-equivalent below.texts records d e keys K older knows _ _ v w
        (subst (λ (p : Peer). Equivalent (trusts d) (DidHear m.peer M at t ∷ v.actions) (DidHear p N at t ∷ w.actions)) peers
        (((below.texts (trusts d) v.actions w.actions a.equivalent.actions).1).hears m.peer M N at t one_head)) a

    -- ---- responses

    strange_one : (q : Peer) → q ≡ n.peer → trusts d q ≡ false → m.parsed.trusted ≡ false
    strange_one q is strange = trusted_one ∙ (ap (trusts d) (peers ∙ sym is) ∙ strange)

    replying-alike : (key : TKey) (answer : StatusResponse) (x y : RunState) → is_request m.parsed.start ≡ true → ((q : Peer) → peer_of key.0 (live y.actions) ≡ Some q → q ≡ n.peer) → Two x y
        → Two (with_response d token at key m answer x) (with_response e token at key n answer y)
    replying-alike key answer x y request of_peer b =
        let tag = tag_equivalent x.drawn y.drawn m.parsed.to_tag n.parsed.to_tag b.equivalent.drawn tags in
        let t : List ℕ = tag_for token x.drawn m.parsed.to_tag in
        reply-equivalent below.texts records d e keys K older knows at key (response_to d.sip t m answer) (response_to e.sip (tag_for token y.drawn n.parsed.to_tag) n answer) _ _
        (reply_head below.heads below.responses below.masks d e sites.equal m n r s same t answer request ∙ ap (λ (z : List ℕ). head_of (response_to e.sip z n answer)) tag)
        (reply_number below.heads below.responses below.masks d e sites.equal m n r s same t answer ∙ ap (λ (z : List ℕ). reliable_number (response_to e.sip z n answer)) tag)
        (λ q is strange. ap message_text
        (reply_whole below.heads below.responses below.masks d e sites.equal m n r s same t answer (strange_one q (of_peer q is) strange) ∙ ap (λ (z : List ℕ). response_to e.sip z n answer) tag))
        (with_draws-equivalent below.texts records d e keys K older knows (tags_due m.parsed.to_tag) (tags_due n.parsed.to_tag) x y (ap tags_due tags) b)

    replying_plainly-alike : (answer : StatusResponse) (x y : RunState) → Two x y → Two (with_stateless_response d token at m answer x) (with_stateless_response e token at n answer y)
    replying_plainly-alike answer x y b =
        let tag = tag_equivalent x.drawn y.drawn m.parsed.to_tag n.parsed.to_tag b.equivalent.drawn tags in
        let t : List ℕ = tag_for token x.drawn m.parsed.to_tag in
        subst (λ (p : Peer). Two (with_emit at (emit.Plain p (message_text (response_to d.sip t m answer))) (with_draws (tags_due m.parsed.to_tag) x)) (with_stateless_response e token at n answer y)) (sym peers)
        (plain-equivalent below.texts records d e keys K older knows at n.peer (message_text (response_to d.sip t m answer)) (message_text (response_to e.sip (tag_for token y.drawn n.parsed.to_tag) n answer)) _ _
        (λ strange. ap message_text (reply_whole below.heads below.responses below.masks d e sites.equal m n r s same t answer (strange_one n.peer refl strange) ∙ ap (λ (z : List ℕ). response_to e.sip z n answer) tag))
        (with_draws-equivalent below.texts records d e keys K older knows (tags_due m.parsed.to_tag) (tags_due n.parsed.to_tag) x y (ap tags_due tags) b))

    -- ---- tables

    full_same : are_full (calls_in d v).entries ≡ are_full (calls_in e w).entries
    full_same = below.laws.answers.full records (trusts d) Plain Plain (arrival_signal d.names.accounts (tkey 0) m) (arrival_signal d.names.accounts (tkey 0) m) (bare (calls_in d v))
        (bare (calls_in e w)) (tables_both v w a) refl

    names_same : named_by m.parsed (calls_in d v).entries ≡ named_by n.parsed (calls_in e w).entries
    names_same = find_same below.texts below.tables below.records below.laws records d e token keys sites K older knows (dialog_name m.parsed) v w a
        ∙ named_same below.heads below.responses below.masks d e sites.equal m n r s same (calls_in e w).entries

    seat_same : (o : Option DialogName) → find_participant o (conferences_in d v).live ≡ find_participant o (conferences_in e w).live
    seat_same None = refl
    seat_same (Some name) = below.laws.participants.named (trusts d) name.call_id name.local name.remote (conferences_in d v) (conferences_in e w) a.equivalent.conferences

    seats_same : participant_named_by m.parsed (conferences_in d v).live ≡ participant_named_by n.parsed (conferences_in e w).live
    seats_same = seat_same (dialog_name m.parsed) ∙ seated_same below.heads below.responses below.masks d e sites.equal m n r s same (conferences_in e w).live

    boxes_same : subscription_named_by m.parsed (subscriptions_in v) ≡ subscription_named_by n.parsed (subscriptions_in w)
    boxes_same = ap (subscription_named_by m.parsed) a.equivalent.subscriptions ∙ boxed_same below.heads below.responses below.masks d e sites.equal m n r s same (subscriptions_in w)

    owners_same : dialog_owner_in d m.parsed v ≡ dialog_owner_in e n.parsed w
    owners_same =
        ap (in_call_or (in_conference_or (in_subscription (subscription_named_by m.parsed (subscriptions_in v))) (participant_named_by m.parsed (conferences_in d v).live))) names_same
        ∙ (ap (λ (o : Option (RoomNo × ℕ)). in_call_or (in_conference_or (in_subscription (subscription_named_by m.parsed (subscriptions_in v))) o) (named_by n.parsed (calls_in e w).entries)) seats_same
        ∙ ap (λ (o : Option SubNo). in_call_or (in_conference_or (in_subscription o) (participant_named_by n.parsed (conferences_in e w).live)) (named_by n.parsed (calls_in e w).entries)) boxes_same)

    -- ---- signals of a request

    none_said : (who : Identities2) → None ≡ Some who → ⊥
    none_said who is = cc

    request_says : (c : CallNo × Side) (key : TKey) (x y : RunState) → IsFromOwnPeer S key m → IsFromOwnPeer S key n → class_of (head_of M) (live v.actions) ≡ part.Fresh →
        class_of (head_of N) (live w.actions) ≡ part.Fresh
        → is_cancel (head_of M) ≡ false → is_cancel (head_of N) ≡ false → named_by m.parsed (calls_in d v).entries ≡ Some c → named_by n.parsed (calls_in e w).entries ≡ Some c
        → (d.reliable ≡ false → goes_across c.1 m ≡ false) → (e.reliable ≡ false → goes_across c.1 n ≡ false)
        → Says below.texts below.tables below.records below.laws records d e token keys sites K older knows at (signal.Request c.0 c.1 key m) (signal.Request c.0 c.1 key n) r s
        (record v { actions = x.actions }) (record w { actions = y.actions })
    request_says c key x y asked asked_too p q i j one two off off_too = record {
      public = ap (λ (z : MessageView). signal.Request c.0 c.1 key z) same;
      callers = λ who second f g. absurd (none_said who f);
      looks = tt;
      first = request_receives below.wholes d keys d (λ peer. refl) v knows_one m trusted_one tied c key p i one off asked;
      second = request_receives below.wholes d keys e trusts_same w (knows w.actions kw) n trusted_two tied_too c key q j two off_too asked_too;
      asks = asked;
      asks_too = asked_too;
    }

    -- an INVITE that opens a call: its parties, and what is decided about the caller
    openings_same : is_opening m.parsed ≡ true → is_opening n.parsed ≡ true → tests_of d.names.accounts (asked_in records) m.parsed ≡ tests_of e.names.accounts (asked_in records) n.parsed
    openings_same i j = tests_same d e (asked_in records) m n r s same tests caller_looks i j

    registered : registrant d.names.accounts m.parsed ≡ registrant e.names.accounts n.parsed
    registered = registered_same below.heads below.responses below.masks d e sites.equal m n r s same looks.registrant

    arrived_said : (key : TKey) → parties_of d.names.accounts m.parsed ≡ parties_of e.names.accounts n.parsed →
        public_signal r (arrival_signal d.names.accounts key m) ≡ public_signal s (arrival_signal e.names.accounts key n)
    arrived_said key parties =
        ap (λ (z : MessageView). signal.Arrived key z (served_accounts (parties_of d.names.accounts m.parsed)) (parties_of d.names.accounts m.parsed).registration nobody) same
        ∙ ap (λ (z : Parties). signal.Arrived key (without_private s n) (served_accounts z) z.registration nobody) parties

    arrived_says : (key : TKey) (x y : RunState) → IsFromOwnPeer S key m → IsFromOwnPeer S key n → class_of (head_of M) (live v.actions) ≡ part.Fresh →
        class_of (head_of N) (live w.actions) ≡ part.Fresh → is_opening m.parsed ≡ true → is_opening n.parsed ≡ true
        → Says below.texts below.tables below.records below.laws records d e token keys sites K older knows at (arrival_signal d.names.accounts key m) (arrival_signal e.names.accounts key n) r s
        (record v { actions = x.actions }) (record w { actions = y.actions })
    arrived_says key x y asked asked_too p q i j =
        let t = openings_same i j in
        let decided : AreDecidedEqually records (caller_of m.parsed) (caller_of n.parsed) =
        decide-equivalent records (caller_of m.parsed) (caller_of n.parsed) (ap (λ (z : Tests). z.somebody) t) (ap (λ (z : Tests). z.matches) t) in
        record {
          public = arrived_said key (parties_same below.heads below.responses below.masks d e sites.equal m n r s same (ap (λ (z : Tests). z.caller) t) (looks.target j));
          callers = λ who second f g.
              subst (λ (z : Identities2). AreDecidedEqually records z second) (some_same Identities2 (caller_of m.parsed) who f)
              (subst (λ (z : Identities2). AreDecidedEqually records (caller_of m.parsed) z) (some_same Identities2 (caller_of n.parsed) second g) decided);
          looks = looks.requested j;
          first = opening_is below.wholes d keys d (λ peer. refl) v knows_one m trusted_one tied p i;
          second = opening_is below.wholes d keys e trusts_same w (knows w.actions kw) n trusted_two tied_too q j;
          asks = asked;
          asks_too = asked_too;
        }

    cancel_says : (call : CallNo) (key invite : TKey) (x y : RunState) → IsFromOwnPeer S key m → IsFromOwnPeer S key n
        → Says below.texts below.tables below.records below.laws records d e token keys sites K older knows at (signal.Cancel call key m invite) (signal.Cancel call key n invite) r s
        (record v { actions = x.actions }) (record w { actions = y.actions })
    cancel_says call key invite x y asked asked_too = record {
      public = ap (λ (z : MessageView). signal.Cancel call key z invite) same;
      callers = λ who second f g. absurd (none_said who f);
      looks = tt;
      first = λ place i o p. asked;
      second = λ place i o p. asked_too;
      asks = tt;
      asks_too = tt;
    }

    ack_says : (c : CallNo × Side) (x y : RunState) → class_of (head_of M) (live v.actions) ≡ part.AckOf2xx → class_of (head_of N) (live w.actions) ≡ part.AckOf2xx
        → named_by m.parsed (calls_in d v).entries ≡ Some c → named_by n.parsed (calls_in e w).entries ≡ Some c
        → Says below.texts below.tables below.records below.laws records d e token keys sites K older knows at (signal.Ack c.0 c.1 m) (signal.Ack c.0 c.1 n) r s (record v { actions = x.actions })
        (record w { actions = y.actions })
    ack_says c x y p q one two = record {
      public = ap (λ (z : MessageView). signal.Ack c.0 c.1 z) same;
      callers = λ who second f g. absurd (none_said who f);
      looks = tt;
      first = ack_receives below.wholes d keys d (λ peer. refl) v knows_one m trusted_one tied c p one;
      second = ack_receives below.wholes d keys e trusts_same w (knows w.actions kw) n trusted_two tied_too c q two;
      asks = tt;
      asks_too = tt;
    }

    answer_says : (key : ℕ) (x y : RunState) → class_of (head_of M) (live v.actions) ≡ part.Answer key → class_of (head_of N) (live w.actions) ≡ part.Answer key
        → Says below.texts below.tables below.records below.laws records d e token keys sites K older knows at (signal.Answer (tkey key) m) (signal.Answer (tkey key) n) r s
        (record v { actions = x.actions }) (record w { actions = y.actions })
    answer_says key x y p q = record {
      public = ap (λ (z : MessageView). signal.Answer (tkey key) z) same;
      callers = λ who second f g. absurd (none_said who f);
      looks = looks.redirect;
      first = answer_receives below.wholes d keys d (λ peer. refl) v knows_one m trusted_one tied key p;
      second = answer_receives below.wholes d keys e trusts_same w (knows w.actions kw) n trusted_two tied_too key q;
      asks = tt;
      asks_too = tt;
    }

    -- ---- what conferences receive

    abbrev pair : both.MessagePair
    pair = record { one = record { message = m; role = r }; other = record { message = n; role = s } }

    -- what a request asks of a mailbox
    asked_alike : ReadEquallyInDialog m n
    asked_alike = asked_same below.heads below.responses below.masks d e sites.equal m n r s same

    -- what follows from a request that was accepted
    start_is : m.parsed.start ≡ n.parsed.start
    start_is = start_same below.heads below.responses below.masks d e sites.equal m n r s same

    replaces_same : (xs ys : List Emit) → observations S xs ≡ observations S ys → replacement_in m.parsed xs ≡ replacement_in n.parsed ys
    replaces_same xs ys seen =
        ap (λ (x : Start). if is_method (codes "REFER") x && is_accepted xs then replaces_by (referral_in m.parsed.refer_to) else None) start_is
        ∙ (ap (λ (c : Bool). if is_method (codes "REFER") n.parsed.start && c then replaces_by (referral_in m.parsed.refer_to) else None) (accepted_same S xs ys seen)
        ∙ ap (λ (vs : List (List ℕ)). if is_method (codes "REFER") n.parsed.start && is_accepted ys then replaces_by (referral_in vs) else None)
        (refer_same below.heads below.responses below.masks d e sites.equal m n r s same))

    -- ---- a request that opened a transaction

    module _ (key : TKey) (request : is_request m.parsed.start ≡ true) (request_too : is_request n.parsed.start ≡ true) (known : keys key ≡ trusts d n.peer)
        (p : class_of (head_of M) (live v.actions) ≡ part.Fresh) (q : class_of (head_of N) (live w.actions) ≡ part.Fresh)
        (x y : RunState) (b : Two (record v { actions = x.actions }) (record w { actions = y.actions })) (of_peer : (z : Peer) → peer_of key.0 (live y.actions) ≡ Some z → z ≡ n.peer) where
      abbrev v1 : RunState
      v1 = record v { actions = x.actions }

      abbrev w1 : RunState
      w1 = record w { actions = y.actions }

      asked : IsFromOwnPeer S key m
      asked = record { request = request; trusted = trusted_one; known = known ∙ ap (trusts d) (sym peers) }

      asked_too : IsFromOwnPeer S key n
      asked_too = record { request = request_too; trusted = trusted_two; known = known }

      -- ---- who joins a conference

      tag_next : (u z : RunState) → u.drawn ≡ z.drawn → next_tag token u ≡ next_tag token z
      tag_next u z i = ap (λ (k : ℕ). token_text token (k + 1)) i

      -- a response with this tag
      tagged-alike : (tag : List ℕ) (answer : StatusResponse) (u z : RunState) → ((q : Peer) → peer_of key.0 (live z.actions) ≡ Some q → q ≡ n.peer) → Two u z →
          Two (with_emit at (emit.Reply key (response_to d.sip tag m answer)) u) (with_emit at (emit.Reply key (response_to e.sip tag n answer)) z)
      tagged-alike tag answer u z its c =
          reply-equivalent below.texts records d e keys K older knows at key (response_to d.sip tag m answer) (response_to e.sip tag n answer) u z
          (reply_head below.heads below.responses below.masks d e sites.equal m n r s same tag answer request)
          (reply_number below.heads below.responses below.masks d e sites.equal m n r s same tag answer)
          (λ q is strange. ap message_text (reply_whole below.heads below.responses below.masks d e sites.equal m n r s same tag answer (strange_one q (its q is) strange))) c

      turned_away-alike : (tag : List ℕ) (code : ℕ) (u z : RunState) → ((q : Peer) → peer_of key.0 (live z.actions) ≡ Some q → q ≡ n.peer) → Two u z →
          Two (after_newcomer_refusal d at key m tag code u) (after_newcomer_refusal e at key n tag code z)
      turned_away-alike tag code u z its c = tagged-alike tag (plain_response code) u z its c

      abbrev comings : (tag : List ℕ) → Option Account → TokensView → both.JoinRequestPair
      comings tag account tokens = record {
        at = at;
        tokens = tokens;
        legs = record { one = released.Caller (leg_by tag m); other = released.Caller (leg_by tag n) };
        account = account;
        key = key;
        invites = pair;
      }

      come : (tag : List ℕ) (account : Option Account) (tokens : TokensView) → both.AreEquivalentJoins S (comings tag account tokens)
      come tag account tokens = record {
        legs = ap (λ (l : Leg). released.Caller l) (leg_same below.heads below.responses below.masks d e sites.equal m n r s same tag trusted_one trusted_two request request_too);
        invites = record { equivalent = same; one = asked; other = asked_too };
      }

      caller_same : is_opening m.parsed ≡ true → is_opening n.parsed ≡ true → caller_account d.names.accounts m.parsed ≡ caller_account e.names.accounts n.parsed
      caller_same i j = ap (λ (z : Tests). z.caller) (openings_same i j)

      -- a conference of its own
      abbrev opened_by : (tag : List ℕ) → Option Account → RunState → RunState
      opened_by tag account u = with_conference_output at (rooms.Opens (join_request at (leg_by tag m) account key m)) (output_of_conference_op d (rooms.Opens (join_request at (leg_by tag m) account key m)) u) u

      room_opened-alike : (tag : List ℕ) (is_full : Bool) (u z : RunState) → caller_account d.names.accounts m.parsed ≡ caller_account e.names.accounts n.parsed
          → ((q : Peer) → peer_of key.0 (live z.actions) ≡ Some q → q ≡ n.peer) → Two u z → K (after_opening_if e at key n tag is_full z).actions →
          Two (after_opening_if d at key m tag is_full u) (after_opening_if e at key n tag is_full z)
      room_opened-alike tag true u z caller its c k = turned_away-alike tag 503 u z its c
      room_opened-alike tag false u z caller its c k =
          let account : Option Account = caller_account e.names.accounts n.parsed in
          subst (λ (o : Option Account). Two (opened_by tag o u) (after_opening_if e at key n tag false z)) (sym caller)
          (lodging-alike below.texts below.tables below.records below.laws records d e token keys sites K older knows at (both.Opens (comings tag account rooms.no_tokens)) u z c
          (record { done = come tag account rooms.no_tokens; lookups = tt }) k)

      opening_room-alike : is_opening m.parsed ≡ true → is_opening n.parsed ≡ true → K (after_factory_invite e token at key n w1).actions →
          Two (after_factory_invite d token at key m v1) (after_factory_invite e token at key n w1)
      opening_room-alike i j k =
          subst (λ (tag : List ℕ). Two (after_opening_if d at key m tag (is_table_full (conferences_in d v1).live) (with_draws 1 v1)) (after_factory_invite e token at key n w1)) (sym (tag_next v1 w1 b.equivalent.drawn))
          (subst (λ (c : Bool). Two (after_opening_if d at key m (next_tag token w1) c (with_draws 1 v1)) (after_factory_invite e token at key n w1))
          (sym (below.laws.participants.full (trusts d) (conferences_in d v1) (conferences_in e w1) b.equivalent.conferences))
          (room_opened-alike (next_tag token w1) (is_table_full (conferences_in e w1).live) (with_draws 1 v1) (with_draws 1 w1) (caller_same i j) of_peer
          (with_draws-equivalent below.texts records d e keys K older knows 1 1 v1 w1 refl b) k))

      -- a participant
      abbrev joined_by : RoomNo → (tag : List ℕ) → Option Account → TokensView → RunState → RunState
      joined_by room tag account tokens u =
          after_conference_op d at (rooms.Joins room.0 (record { at = at; tokens = tokens; leg = released.Caller (leg_by tag m); account = account; key = key; invite = m })) u

      room_joined-alike : (room : RoomNo) (tag : List ℕ) (o : Result ℕ RoomFault) (u z : RunState) → caller_account d.names.accounts m.parsed ≡ caller_account e.names.accounts n.parsed
          → ((q : Peer) → peer_of key.0 (live z.actions) ≡ Some q → q ≡ n.peer) → Two u z → K (after_join_if e token at key n room tag o z).actions →
          Two (after_join_if d token at key m room tag o u) (after_join_if e token at key n room tag o z)
      room_joined-alike room tag (Err fault) u z caller its c k = turned_away-alike tag (status_of_fault fault) u z its c
      room_joined-alike room tag (Ok place) u z caller its c k =
          let account : Option Account = caller_account e.names.accounts n.parsed in
          let tokens : TokensView = tokens_now token z in
          subst (λ (t : TokensView). Two (joined_by room tag (caller_account d.names.accounts m.parsed) t u) (after_join_if e token at key n room tag (Ok place) z))
          (sym (tokens_same below.texts below.tables below.records below.laws records d e token keys sites K older knows u z c))
          (subst (λ (o : Option Account). Two (joined_by room tag o tokens u) (after_join_if e token at key n room tag (Ok place) z)) (sym caller)
          (after_conference_op-equivalent below.texts below.tables below.records below.laws records d e token keys sites K older knows at (both.Joins room.0 (comings tag account tokens)) u z c
          (record { done = come tag account tokens; lookups = tt }) k))

      joining_room-alike : (room : RoomNo) → is_opening m.parsed ≡ true → is_opening n.parsed ≡ true → K (after_conference_invite e token at key n room w1).actions →
          Two (after_conference_invite d token at key m room v1) (after_conference_invite e token at key n room w1)
      joining_room-alike room i j k =
          subst (λ (tag : List ℕ). Two (after_join_if d token at key m room tag (access room.0 (conferences_in d v1).live) (with_draws 1 v1)) (after_conference_invite e token at key n room w1))
          (sym (tag_next v1 w1 b.equivalent.drawn))
          (subst (λ (o : Result ℕ RoomFault). Two (after_join_if d token at key m room (next_tag token w1) o (with_draws 1 v1)) (after_conference_invite e token at key n room w1))
          (sym (access_same below.texts below.tables below.records below.laws records d e token keys sites K older knows room v1 w1 b))
          (room_joined-alike room (next_tag token w1) (access room.0 (conferences_in e w1).live) (with_draws 1 v1) (with_draws 1 w1) (caller_same i j) of_peer
          (with_draws-equivalent below.texts records d e keys K older knows 1 1 v1 w1 refl b) k))

      -- a request of a participant
      entering_room-alike : (room : RoomNo) (seat : ℕ) → K (after_participant_request e token at key n room seat w1).actions →
          Two (after_participant_request d token at key m room seat v1) (after_participant_request e token at key n room seat w1)
      entering_room-alike room seat k =
          let x : both.SignalPair = both.Request room seat key pair in
          let received : both.AreReceived S x (conferences_in d v1) (conferences_in e w1) = record { equivalent = same; one = asked; other = asked_too } in
          let vs : RunState = after_conference_signal d token at (of_room.Request room seat key m) v1 in
          let ws : RunState = after_conference_signal e token at (of_room.Request room seat key n) w1 in
          let xs : List Emit = (output_of_conference_op d (conference_signal_op token at (of_room.Request room seat key m) v1) v1).out in
          let ys : List Emit = (output_of_conference_op e (conference_signal_op token at (of_room.Request room seat key n) w1) w1).out in
          let kw2 : K ws.actions = replacing_before K older e token at n.peer room seat (replacement_in n.parsed ys) ws k in
          let c : Two vs ws = seated-alike below.texts below.tables below.records below.laws records d e token keys sites K older knows at x v1 w1 b received looks.refer kw2 in
          subst (λ (p : Peer). Two (after_replaces d token at p room seat (replacement_in m.parsed xs) vs) (after_participant_request e token at key n room seat w1)) (sym peers)
          (subst (λ (o : Option Replaces). Two (after_replaces d token at n.peer room seat o vs) (after_participant_request e token at key n room seat w1))
          (sym (replaces_same xs ys (seen-equivalent below.texts below.tables below.records below.laws records d e token keys sites K older knows at x v1 w1 b received looks.refer)))
          (replacing-alike below.texts below.tables below.records below.laws records d e token keys sites K older knows at room seat n.peer (replacement_in n.parsed ys) vs ws c k))

      -- ---- by what is decided of it

      abbrev hold_one : Option DialogOwner
      hold_one = dialog_owner_in d m.parsed v

      abbrev hold_two : Option DialogOwner
      hold_two = dialog_owner_in e n.parsed w

      -- a SUBSCRIBE that is not refused, and that names no dialog of a call
      subscribed : (merged other full some : Bool) → is_cancel (head_of M) ≡ false → is_cancel (head_of N) ≡ false → refuses (disposition d merged full hold_one m.parsed) ≡ false
          → refuses (disposition e other some hold_two n.parsed) ≡ false → named_by m.parsed (calls_in d v).entries ≡ None → named_by n.parsed (calls_in e w).entries ≡ None → is_subscribe n.parsed ≡ true
          → SubscribeEqually d e m n
      subscribed merged other full some i j f g none none_too is =
          let is_too : is_subscribe m.parsed ≡ true = ap (λ (x : Start). is_method (codes "SUBSCRIBE") x) start_is ∙ is in
          let may : may_subscribe d m.parsed ≡ true = subscribe_waits d merged full hold_one m.parsed f is_too in
          let may_too : may_subscribe e n.parsed ≡ true = subscribe_waits e other some hold_two n.parsed g is in
          let here : may_subscribe d n.parsed ≡ true = sym (ap (λ (x : Start). is_method (codes "SUBSCRIBE") x && d.names.mwi) start_is) ∙ may in
          subscribed_same below.heads below.responses below.masks d e sites.equal m n r s same
          (subscriber_is below.wholes d keys d (λ peer. refl) v knows_one m trusted_one tied p i may none)
          (subscriber_is below.wholes d keys e trusts_same w (knows w.actions kw) n trusted_two tied_too q j may_too none_too)
          (looks.subscriber here) (looks.mailbox here)

      taking-alike : (c : Disposition) (merged other full some : Bool) → is_cancel (head_of M) ≡ false → is_cancel (head_of N) ≡ false
          → disposition d merged full hold_one m.parsed ≡ c → disposition e other some hold_two n.parsed ≡ c
          → K (after_disposition e token at key n c w1).actions → Two (after_disposition d token at key m c v1) (after_disposition e token at key n c w1)
      taking-alike (Respond answer) merged other full some i j f g k = replying-alike key answer v1 w1 request of_peer b
      taking-alike (Enter call side) merged other full some i j f g k =
          signalled-alike below.texts below.tables below.records below.laws records d e token keys sites K older knows at (signal.Request call side key m) (signal.Request call side key n) r s v1 w1 b
          (request_says (call, side) key x y asked asked_too p q i j
          (of_call (subscription_named_by m.parsed (subscriptions_in v)) (participant_named_by m.parsed (conferences_in d v).live) (named_by m.parsed (calls_in d v).entries) (call, side)
          (enters_named d merged full hold_one m.parsed (InCall call side) f))
          (of_call (subscription_named_by n.parsed (subscriptions_in w)) (participant_named_by n.parsed (conferences_in e w).live) (named_by n.parsed (calls_in e w).entries) (call, side)
          (enters_named e other some hold_two n.parsed (InCall call side) g))
          (known_across d merged full hold_one side m (InCall call side) f) (known_across e other some hold_two side n (InCall call side) g)) k
      taking-alike (EnterConference room seat) merged other full some i j f g k = entering_room-alike room seat k
      taking-alike OpenCall merged other full some i j f g k =
          signalled-alike below.texts below.tables below.records below.laws records d e token keys sites K older knows at (arrival_signal d.names.accounts key m) (arrival_signal e.names.accounts key n) r s v1 w1 b
          (arrived_says key x y asked asked_too p q (opens_opening d merged full hold_one m.parsed (ap opens f)) (opens_opening e other some hold_two n.parsed (ap opens g))) k
      taking-alike OpenConference merged other full some i j f g k =
          opening_room-alike (opens_opening d merged full hold_one m.parsed (ap opens f)) (opens_opening e other some hold_two n.parsed (ap opens g)) k
      taking-alike (JoinConference room) merged other full some i j f g k =
          joining_room-alike room (opens_opening d merged full hold_one m.parsed (ap opens f)) (opens_opening e other some hold_two n.parsed (ap opens g)) k
      taking-alike (Register account seconds) merged other full some i j f g k =
          replying-alike key (plain_response 200) (with_registration account (until_of at seconds) v1) (with_registration account (until_of at seconds) w1) request of_peer
          (with_registration-equivalent account (until_of at seconds) v1 w1 b)
      taking-alike Subscribe merged other full some i j f g k =
          let one = subscribes_alone d merged full hold_one m.parsed f in
          let two = subscribes_alone e other some hold_two n.parsed g in
          subscribing-alike below.texts records d e token keys sites K older knows at key m n asked_alike (λ answer u z its c. replying-alike key answer u z request its c) tagged-alike
          (subscribed merged other full some i j (ap refuses f) (ap refuses g)
          (of_nobody (subscription_named_by m.parsed (subscriptions_in v)) (participant_named_by m.parsed (conferences_in d v).live) (named_by m.parsed (calls_in d v).entries) one.0)
          (of_nobody (subscription_named_by n.parsed (subscriptions_in w)) (participant_named_by n.parsed (conferences_in e w).live) (named_by n.parsed (calls_in e w).entries) two.0) two.1) v1 w1 of_peer b
      taking-alike (EnterSubscription sub) merged other full some i j f g k =
          entering_box-alike below.texts records d e token keys sites K older knows at key m n asked_alike (λ answer u z its c. replying-alike key answer u z request its c) tagged-alike
          (subscribed merged other full some i j (ap refuses f) (ap refuses g)
          (of_box (subscription_named_by m.parsed (subscriptions_in v)) (participant_named_by m.parsed (conferences_in d v).live) (named_by m.parsed (calls_in d v).entries) sub
          (enters_named d merged full hold_one m.parsed (InSubscription sub) f))
          (of_box (subscription_named_by n.parsed (subscriptions_in w)) (participant_named_by n.parsed (conferences_in e w).live) (named_by n.parsed (calls_in e w).entries) sub
          (enters_named e other some hold_two n.parsed (InSubscription sub) g))) sub v1 w1 of_peer b

      disposition_alike : disposition d (is_merged key.0 (live x.actions)) (are_full (calls_in d v).entries) hold_one m.parsed
          ≡ disposition e (is_merged key.0 (live y.actions)) (are_full (calls_in e w).entries) hold_two n.parsed
      disposition_alike =
          ap (λ (c : Bool). disposition d c (are_full (calls_in d v).entries) hold_one m.parsed) (((below.texts (trusts d) x.actions y.actions b.equivalent.actions).0).merged key.0)
          ∙ (ap (λ (c : Bool). disposition d (is_merged key.0 (live y.actions)) c hold_one m.parsed) full_same
          ∙ (ap (λ (o : Option DialogOwner). disposition d (is_merged key.0 (live y.actions)) (are_full (calls_in e w).entries) o m.parsed) owners_same
          ∙ decided_same below.heads below.responses below.masks d e sites.equal m n r s same registered (is_merged key.0 (live y.actions)) (are_full (calls_in e w).entries) hold_two))

      taking_fresh-alike : is_cancel (head_of M) ≡ false → is_cancel (head_of N) ≡ false → K (after_new_request e token at key n w1).actions →
          Two (after_new_request d token at key m v1) (after_new_request e token at key n w1)
      taking_fresh-alike i j k =
          let c : Disposition = disposition e (is_merged key.0 (live y.actions)) (are_full (calls_in e w).entries) hold_two n.parsed in
          subst (λ (z : Disposition). Two (after_disposition d token at key m z v1) (after_new_request e token at key n w1)) (sym disposition_alike)
          (taking-alike c (is_merged key.0 (live x.actions)) (is_merged key.0 (live y.actions)) (are_full (calls_in d v).entries) (are_full (calls_in e w).entries) i j disposition_alike refl k)

      cancelling_call-alike : (invite : TKey) (o : Option (CallNo × Side)) → K (after_cancel_of e token at key n invite o w1).actions →
          Two (after_cancel_of d token at key m invite o v1) (after_cancel_of e token at key n invite o w1)
      cancelling_call-alike invite None k = replying-alike key (plain_response 200) v1 w1 request of_peer b
      cancelling_call-alike invite (Some c) k =
          signalled-alike below.texts below.tables below.records below.laws records d e token keys sites K older knows at (signal.Cancel c.0 key m invite) (signal.Cancel c.0 key n invite) r s v1 w1 b
          (cancel_says c.0 key invite x y asked asked_too) k

      cancelling-alike : (invite : Option TKey) → K (after_cancel e token at key n invite w1).actions → Two (after_cancel d token at key m invite v1) (after_cancel e token at key n invite w1)
      cancelling-alike None k = replying-alike key (plain_response 481) v1 w1 request of_peer b
      cancelling-alike (Some invite) k =
          subst (λ (o : Option (CallNo × Side)). Two (after_cancel_of d token at key m invite o v1) (after_cancel e token at key n (Some invite) w1))
          (sym (below.laws.answers.inviting records (trusts d) invite (bare (calls_in d v)) (bare (calls_in e w)) (tables_both v w a)))
          (cancelling_call-alike invite (call_of_invite invite (calls_in e w).entries) k)

    -- ---- an ACK of a 2xx

    acknowledging_by-alike : (o : Option DialogOwner) (x y : RunState) → Two (record v { actions = x.actions }) (record w { actions = y.actions }) →
        class_of (head_of M) (live v.actions) ≡ part.AckOf2xx → class_of (head_of N) (live w.actions) ≡ part.AckOf2xx
        → dialog_owner_in d m.parsed v ≡ o → dialog_owner_in e n.parsed w ≡ o → K (after_ack_by e token at n o (record w { actions = y.actions })).actions
        → Two (after_ack_by d token at m o (record v { actions = x.actions })) (after_ack_by e token at n o (record w { actions = y.actions }))
    acknowledging_by-alike None x y b p q one two k = b
    acknowledging_by-alike (Some (InCall call side)) x y b p q one two k =
        signalled-alike below.texts below.tables below.records below.laws records d e token keys sites K older knows at (signal.Ack call side m) (signal.Ack call side n) r s
        (record v { actions = x.actions }) (record w { actions = y.actions }) b
        (ack_says (call, side) x y p q
        (of_call (subscription_named_by m.parsed (subscriptions_in v)) (participant_named_by m.parsed (conferences_in d v).live) (named_by m.parsed (calls_in d v).entries) (call, side) one)
        (of_call (subscription_named_by n.parsed (subscriptions_in w)) (participant_named_by n.parsed (conferences_in e w).live) (named_by n.parsed (calls_in e w).entries) (call, side) two)) k
    acknowledging_by-alike (Some (InConference room seat)) x y b p q one two k =
        seated-alike below.texts below.tables below.records below.laws records d e token keys sites K older knows at (both.Ack room seat pair) (record v { actions = x.actions })
        (record w { actions = y.actions }) b same tt k
    acknowledging_by-alike (Some (InSubscription sub)) x y b p q one two k = b

    acknowledging-alike : (x y : RunState) → Two (record v { actions = x.actions }) (record w { actions = y.actions }) → class_of (head_of M) (live v.actions) ≡ part.AckOf2xx →
        class_of (head_of N) (live w.actions) ≡ part.AckOf2xx
        → K (after_ack e token at n (record w { actions = y.actions })).actions → Two (after_ack d token at m (record v { actions = x.actions })) (after_ack e token at n (record w { actions = y.actions }))
    acknowledging-alike x y b p q k =
        subst (λ (o : Option DialogOwner). Two (after_ack_by d token at m o (record v { actions = x.actions })) (after_ack e token at n (record w { actions = y.actions }))) (sym owners_same)
        (acknowledging_by-alike (dialog_owner_in e n.parsed w) x y b p q owners_same refl k)

    -- ---- a response: it belongs to the calls where one of their INVITEs has its branch, to the subscriptions where one of their NOTIFYs has it, and else to the conferences

    branch_same : awaited_request_branch m ≡ awaited_request_branch n
    unfolding awaited_request_branch
    branch_same = ap (λ (x : MessageView). if is_awaited_response x.parsed.cseq then branch_in x.parsed.vias else None) same

    vias_same : branch_in m.parsed.vias ≡ branch_in n.parsed.vias
    vias_same = ap (λ (x : MessageView). branch_in x.parsed.vias) same

    code_same : status_of m.parsed.start ≡ status_of n.parsed.start
    code_same = ap (λ (x : MessageView). status_of x.parsed.start) same

    responded : (x y : RunState) → Two (record v { actions = x.actions }) (record w { actions = y.actions }) →
        Two (after_notify_response (branch_in m.parsed.vias) (status_of m.parsed.start) (record v { actions = x.actions }))
        (after_notify_response (branch_in n.parsed.vias) (status_of n.parsed.start) (record w { actions = y.actions }))
    responded x y b =
        subst (λ (o : Option (List ℕ)). Two (after_notify_response o (status_of m.parsed.start) (record v { actions = x.actions }))
        (after_notify_response (branch_in n.parsed.vias) (status_of n.parsed.start) (record w { actions = y.actions })))
        (sym vias_same)
        (subst (λ (code : ℕ). Two (after_notify_response (branch_in n.parsed.vias) code (record v { actions = x.actions }))
        (after_notify_response (branch_in n.parsed.vias) (status_of n.parsed.start) (record w { actions = y.actions }))) (sym code_same)
        (after_notify_response-equivalent below.texts records d e token keys sites K older knows (branch_in n.parsed.vias) (status_of n.parsed.start) (record v { actions = x.actions })
        (record w { actions = y.actions }) b))

    responding_to-alike : (key : ℕ) (whose : Owner) (x y : RunState) → Two (record v { actions = x.actions }) (record w { actions = y.actions }) →
        class_of (head_of M) (live v.actions) ≡ part.Answer key → class_of (head_of N) (live w.actions) ≡ part.Answer key
        → owner_of_branch (awaited_request_branch m) (branch_in m.parsed.vias) (calls_in d v).entries (subscriptions_in v) ≡ whose
        → owner_of_branch (awaited_request_branch n) (branch_in n.parsed.vias) (calls_in e w).entries (subscriptions_in w) ≡ whose →
        K (after_response_to e token at (tkey key) n whose (record w { actions = y.actions })).actions
        → Two (after_response_to d token at (tkey key) m whose (record v { actions = x.actions })) (after_response_to e token at (tkey key) n whose (record w { actions = y.actions }))
    responding_to-alike key OfCalls x y b p q one two k =
        signalled-alike below.texts below.tables below.records below.laws records d e token keys sites K older knows at (signal.Answer (tkey key) m) (signal.Answer (tkey key) n) r s
        (record v { actions = x.actions }) (record w { actions = y.actions }) b (answer_says key x y p q) k
    responding_to-alike key OfSubscriptions x y b p q one two k = responded x y b
    responding_to-alike key OfConferences x y b p q one two k =
        seated-alike below.texts below.tables below.records below.laws records d e token keys sites K older knows at (both.Answer (tkey key) pair) (record v { actions = x.actions }) (record w { actions = y.actions }) b
        (same, seat_receives below.wholes d keys d (λ peer. refl) v knows_one m trusted_one tied key p one, seat_receives below.wholes d keys e trusts_same w (knows w.actions kw) n trusted_two tied_too key q two) tt k

    responding-alike : (key : ℕ) (x y : RunState) → Two (record v { actions = x.actions }) (record w { actions = y.actions }) → class_of (head_of M) (live v.actions) ≡ part.Answer key →
        class_of (head_of N) (live w.actions) ≡ part.Answer key
        → K (after_response e token at (tkey key) n (record w { actions = y.actions })).actions →
        Two (after_response d token at (tkey key) m (record v { actions = x.actions })) (after_response e token at (tkey key) n (record w { actions = y.actions }))
    responding-alike key x y b p q k =
        let of_two : Owner = owner_of_branch (awaited_request_branch n) (branch_in n.parsed.vias) (calls_in e w).entries (subscriptions_in w) in
        let whose_same : owner_of_branch (awaited_request_branch m) (branch_in m.parsed.vias) (calls_in d v).entries (subscriptions_in v) ≡ of_two =
        branches_equivalent below.texts below.tables below.records below.laws records d e token keys sites K older knows (awaited_request_branch m) (branch_in m.parsed.vias) v w a
        ∙ (λ i. owner_of_branch (branch_same i) (vias_same i) (calls_in e w).entries (subscriptions_in w)) in
        subst (λ (whose : Owner). Two (after_response_to d token at (tkey key) m whose (record v { actions = x.actions })) (after_response e token at (tkey key) n (record w { actions = y.actions }))) (sym whose_same)
        (responding_to-alike key of_two x y b p q whose_same refl k)

    -- ---- by how the transactions classify it

    abbrev receiving_by : Peer → Message Start → MessageClass → Option transaction.Heard → RunState → RunState
    receiving_by peer z t None u = u
    receiving_by peer z t (Some taken) u = record u { actions = DidHear peer z at t ∷ u.actions }

    receiving_same : (z : MessageView) (o : Option transaction.Heard) (u : RunState) →
        with_received_action at z o u ≡ receiving_by z.peer (message_in z.parsed) (class_of (head_of (message_in z.parsed)) (live u.actions)) o u
    receiving_same z None u = refl
    receiving_same z (Some taken) u = refl

    abbrev said_for : MessageView → MessageClass → RunState → Option transaction.Heard
    said_for z t u = class_result (length (openings u.actions)) (live u.actions) z.peer (message_in z.parsed) t

    abbrev after_message_by : Directory → MessageView → MessageClass → RunState → RunState
    after_message_by x z t u = after_classified_message x token at z (said_for z t u) (receiving_by z.peer (message_in z.parsed) t (said_for z t u) u)

    message_same_by : (x : Directory) (z : MessageView) (u : RunState) → after_message x token at z u ≡ after_message_by x z (class_of (head_of (message_in z.parsed)) (live u.actions)) u
    message_same_by x z u =
        let said = said_for z (class_of (head_of (message_in z.parsed)) (live u.actions)) u in
        ap (after_classified_message x token at z said) (receiving_same z said u)

    invite_same : option_map key_of (find (is_invite_of (head_of M)) (live v.actions)) ≡ option_map key_of (find (is_invite_of (head_of N)) (live w.actions))
    invite_same =
        ap (λ (x : Head). option_map key_of (find (is_invite_of x) (live v.actions))) one_head
        ∙ ((below.texts (trusts d) v.actions w.actions a.equivalent.actions).0).invite (head_of N)

    abbrev v_received : MessageClass → RunState
    v_received t = record v { actions = DidHear m.peer M at t ∷ v.actions }

    abbrev w_received : MessageClass → RunState
    w_received t = record w { actions = DidHear n.peer N at t ∷ w.actions }

    of_new : (j : ℕ) → j ≡ length (openings w.actions) → (z : Peer) → peer_of j (live (w_received part.Fresh).actions) ≡ Some z → z ≡ n.peer
    of_new j is z o = sym (some_same Peer n.peer z (sym (below.new w.actions n.peer N at) ∙ (ap (λ (i : ℕ). peer_of i (live (w_received part.Fresh).actions)) (sym is) ∙ o)))

    known_new : (j : ℕ) → j ≡ length (openings w.actions) → K (w_received part.Fresh).actions → keys (tkey j) ≡ trusts d n.peer
    known_new j is k = ap (λ (i : ℕ). keys (tkey i)) is ∙ knows (w_received part.Fresh).actions k (length (openings w.actions)) n.peer (below.new w.actions n.peer N at)

    fresh_by : (c f : Bool) (i j : ℕ) (o u : Option TKey) → is_cancel (head_of M) ≡ c → is_cancel (head_of N) ≡ f → c ≡ f → i ≡ j → j ≡ length (openings w.actions) → o ≡ u
        → class_of (head_of M) (live v.actions) ≡ part.Fresh → class_of (head_of N) (live w.actions) ≡ part.Fresh → K (w_received part.Fresh).actions
        → K (after_classified_message e token at n (Some (opening_result f j u N)) (w_received part.Fresh)).actions
        → Two (after_classified_message d token at m (Some (opening_result c i o M)) (v_received part.Fresh)) (after_classified_message e token at n (Some (opening_result f j u N)) (w_received part.Fresh))
    fresh_by true true i j o u cm cn cf ij is ou p q kh k =
        subst (λ (z : Option TKey). Two (after_cancel d token at (tkey i) m z (v_received part.Fresh)) (after_cancel e token at (tkey j) n u (w_received part.Fresh))) (sym ou)
        (subst (λ (z : ℕ). Two (after_cancel d token at (tkey z) m u (v_received part.Fresh)) (after_cancel e token at (tkey j) n u (w_received part.Fresh))) (sym ij)
        (cancelling-alike (tkey j) (fresh_request M (live v.actions) p) (fresh_request N (live w.actions) q) (known_new j is kh) p q (v_received part.Fresh) (w_received part.Fresh)
        (received_alike part.Fresh) (of_new j is) u k))
    fresh_by false false i j o u cm cn cf ij is ou p q kh k =
        subst (λ (z : ℕ). Two (after_new_request d token at (tkey z) m (v_received part.Fresh)) (after_new_request e token at (tkey j) n (w_received part.Fresh))) (sym ij)
        (taking_fresh-alike (tkey j) (fresh_request M (live v.actions) p) (fresh_request N (live w.actions) q) (known_new j is kh) p q (v_received part.Fresh) (w_received part.Fresh)
        (received_alike part.Fresh) (of_new j is) cm cn k)
    fresh_by true false i j o u cm cn cf ij is ou p q kh k = absurd (true_false cf)
    fresh_by false true i j o u cm cn cf ij is ou p q kh k = absurd (true_false (sym cf))

    abbrev again_of : Peer → ℕ → RunState → Option (Peer × List ℕ)
    again_of peer key u = bind_entry (retransmission_for peer) (by_key key (live u.actions))

    message_by-alike : (t : MessageClass) → class_of (head_of M) (live v.actions) ≡ t → class_of (head_of N) (live w.actions) ≡ t → K (after_message_by e n t w).actions →
        Two (after_message_by d m t v) (after_message_by e n t w)
    message_by-alike part.Fresh p q k =
        fresh_by (is_cancel (head_of M)) (is_cancel (head_of N)) (length (openings v.actions)) (length (openings w.actions)) _ _ refl refl (ap is_cancel one_head) a.equivalent.actions.next refl invite_same p q
        (answering_before K older e token at n (said_for n part.Fresh w) (w_received part.Fresh) k) k
    message_by-alike part.Full p q k = replying_plainly-alike (plain_response 503) v w a
    message_by-alike (part.Repeat i) p q k =
        with_retransmission-equivalent at _ _ (v_received (part.Repeat i)) (w_received (part.Repeat i))
        (subst (λ (z : Peer). option_map (blank_sent (trusts d)) (again_of m.peer i v) ≡ option_map (blank_sent (trusts d)) (again_of z i w)) peers
        (((below.texts (trusts d) v.actions w.actions a.equivalent.actions).0).retransmission m.peer i)) (received_alike (part.Repeat i))
    message_by-alike (part.RepeatedFinal i) p q k = with_retransmission-equivalent at _ _ (v_received (part.RepeatedFinal i)) (w_received (part.RepeatedFinal i))
        (((below.texts (trusts d) v.actions w.actions a.equivalent.actions).0).same i) (received_alike (part.RepeatedFinal i))
    message_by-alike (part.Answer i) p q k = responding-alike i (v_received (part.Answer i)) (w_received (part.Answer i)) (received_alike (part.Answer i)) p q k
    message_by-alike (part.Acked i) p q k = received_alike (part.Acked i)
    message_by-alike part.AckOf2xx p q k = acknowledging-alike (v_received part.AckOf2xx) (w_received part.AckOf2xx) (received_alike part.AckOf2xx) p q k
    message_by-alike part.Stray p q k = received_alike part.Stray

    pub message-alike : K (after_message e token at n w).actions → Two (after_message d token at m v) (after_message e token at n w)
    message-alike k =
        let taken : class_of (head_of M) (live v.actions) ≡ class_of (head_of N) (live w.actions) =
        ap (λ (x : Head). class_of x (live v.actions)) one_head ∙ ((below.texts (trusts d) v.actions w.actions a.equivalent.actions).0).classes (head_of N) in
        subst (λ (u : RunState). Two u (after_message e token at n w)) (sym (message_same_by d m v ∙ ap (λ (t : MessageClass). after_message_by d m t v) taken))
        (subst (λ (u : RunState). Two (after_message_by d m (class_of (head_of N) (live w.actions)) v) u) (sym (message_same_by e n w))
        (message_by-alike (class_of (head_of N) (live w.actions)) taken refl (subst (λ (u : RunState). K u.actions) (message_same_by e n w) k)))
