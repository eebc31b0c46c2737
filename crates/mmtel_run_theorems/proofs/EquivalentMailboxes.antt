-- What message waiting does keeps two states indistinguishable: where the mailboxes are equal the same NOTIFYs are sent, and two requests that ask the same of them have the same effect.
use Rattle.std.proofs.Common.{◌≡◌, ℕ, ◌+◌, Bool, true, false, List, [], ◌∷◌, refl, sym, ap, ◌∙◌, Option, Some, None, subst, codes}
use Rattle.std.specs.Prelude.{◌==◌, if◌then◌else◌, Ok, Err}
use Rattle.std.specs.declared.result.Result.{Result}
use Rattle.mmtel_compose.specs.Responses.{allow_lines}
use Rattle.mmtel_compose.specs.ReceivedMessages.{MessageView}
use Rattle.mmtel_directory.specs.declared.directories.Directory.{Directory}
use Rattle.mmtel_leg.specs.Dialogues.{last_after, number_in, unless_busy, unless_old}
use Rattle.mmtel_leg.specs.Legs.{with_dialogue}
use Rattle.mmtel_leg.specs.declared.dialogues.DialogueFault.{DialogueFault}
use Rattle.mmtel_leg.specs.declared.dialogues.InFlight.TheVariants as in_flight
use Rattle.mmtel_message.specs.Faults.{is_method}
use Rattle.mmtel_message.specs.Message.{Message}
use Rattle.mmtel_message.specs.declared.messages.Start.{Start}
use Rattle.mmtel_mwi.specs.Boxes.{Table, changed, is_full, is_numbered, next_sub, notify_request, peer_of, request_check, request_check_of, set_by, subscribers_of, subscription_numbered}
use Rattle.mmtel_mwi.specs.Operations as boxes
use Rattle.mmtel_mwi.specs.Subscribing.{granted_seconds, refusal}
use Rattle.mmtel_mwi.specs.declared.counts.Counts.{Counts}
use Rattle.mmtel_mwi.specs.declared.subscriptions.Subscription.{Subscription}
use Rattle.mmtel_sheet_values.specs.declared.values.Sheet.{Sheet}
use Rattle.mmtel_base.specs.Numbers.{token_text}
use Rattle.mmtel_transaction.specs.Equivalence.{TextsDecideNothing}
use Rattle.mmtel_transaction.specs.Results.{peer_of as peer_by}
use Rattle.mmtel_transaction.specs.Operations.{TransactionOp, live}
use Rattle.mmtel_transaction.specs.declared.words.Emit.TheVariants as emit
use Rattle.mmtel_transaction.specs.declared.words.TKey.{TKey}
use Rattle.mmtel_types.specs.declared.numbers.Account.{Account}
use Rattle.mmtel_types.specs.declared.numbers.Peer.{Peer}
use Rattle.mmtel_types.specs.declared.numbers.SubNo.{SubNo}
use Rattle.mmtel_run_definitions.specs.OwnResponses.{StatusResponse, plain_response, response_to, response_with_allow}
use Rattle.mmtel_run_definitions.specs.Deadlines.{OfSubscription}
use Rattle.mmtel_run_definitions.specs.Events.{message_in}
use Rattle.mmtel_run_definitions.specs.Records.{until_of}
use Rattle.mmtel_run_definitions.specs.Ownership.{leg_by}
use Rattle.mmtel_run_definitions.specs.Subscriptions.{after_checked_request, after_expiry, after_notify_response, after_request_in_order, after_subscription, after_subscription_for}
use Rattle.mmtel_run_definitions.specs.Subscriptions.{after_subscription_request, grant_response, is_last_set, named_mailbox, notify_emits, subscribe_request_of, with_expiry_timer, with_mailbox_op}
use Rattle.mmtel_run_definitions.specs.Subscriptions.{after_activation, after_last_notify, after_mailbox_upload, after_notify, after_notify_to_each}
use Rattle.mmtel_run_definitions.specs.Subscriptions.{after_notify_to_peer, after_refresh_by, after_subscribe, after_subscribe_by, other_response, refusal_response}
use Rattle.mmtel_run_definitions.specs.Transitions.{RunState, next_tag, subscriptions_in, with_draws, with_emit, with_emits, with_response}
use Rattle.mmtel_run_theorems.specs.EquivalentStates.{EquivalentConfigs}
use Rattle.mmtel_run_theorems.proofs.EquivalentEmits.{Knows, Pair, arm-equivalent, ask-equivalent, with_draws-equivalent}

-- ---- what two requests ask of a mailbox

-- the dialog in which they are sent is read equally
pub record ReadEquallyInDialog (m n : MessageView) : Type 0 where
  pub start : m.parsed.start ≡ n.parsed.start
  pub expires : m.parsed.expires ≡ n.parsed.expires
  pub number : number_in m.parsed.lines ≡ number_in n.parsed.lines

-- as SUBSCRIBEs they are of the same subscriber, and for the same mailbox
pub record SubscribeEqually (one other : Directory) (m n : MessageView) : Type 0 where
  pub asking : (within : Bool) → subscribe_request_of one within m.parsed ≡ subscribe_request_of other within n.parsed
  pub mailbox : named_mailbox one m.parsed ≡ named_mailbox other n.parsed
  pub leg : (tag : List ℕ) → leg_by tag m ≡ leg_by tag n

-- the transaction is with this peer, if with any
abbrev pub IsOf : TKey → Peer → RunState → Type 0
IsOf key peer w = (z : Peer) → peer_by key.0 (live w.actions) ≡ Some z → z ≡ peer

-- of a request only its CSeq number matters
abbrev having_numbered : Option ℕ → Subscription → Subscription
having_numbered number s = record s { leg = with_dialogue s.leg (record s.leg.dialogue { remote_cseq = last_after number s.leg.dialogue.remote_cseq }) }

abbrev received_at : SubNo → Option ℕ → Table → Table
received_at sub number table = record table { live = changed (is_numbered sub) (having_numbered number) table.live }

received_same : (m n : MessageView) (sub : SubNo) (s t : Table) → ReadEquallyInDialog m n → s ≡ t →
    boxes.table_after_op (boxes.Receives sub (message_in m.parsed)) s ≡ boxes.table_after_op (boxes.Receives sub (message_in n.parsed)) t
received_same m n sub s t asks same = λ i. received_at sub (asks.number i) (same i)

request_check_same : (m n : MessageView) (o : Option Subscription) → ReadEquallyInDialog m n → request_check_of (message_in m.parsed) o ≡ request_check_of (message_in n.parsed) o
request_check_same m n None asks = refl
request_check_same m n (Some s) asks = λ i. unless_old (asks.number i) s.leg.dialogue.remote_cseq (unless_busy (is_method (codes "INVITE") (asks.start i)) in_flight.None)

module _ (law : TextsDecideNothing) (records : List Sheet) (d e : Directory) (token : List ℕ) (keys : TKey → Bool) (sites : EquivalentConfigs records d e)
    (K : List TransactionOp → Type 0) (older : (x : TransactionOp) (h : List TransactionOp) → K (x ∷ h) → K h) (knows : (h : List TransactionOp) → K h → Knows d keys h) where
  abbrev Two : RunState → RunState → Type 0
  Two v w = Pair records d e keys v w

  -- ---- elementary operations

  with_mailbox_op-equivalent : (op other : boxes.TableOp) (v w : RunState) → boxes.table_after_op op (subscriptions_in v) ≡ boxes.table_after_op other (subscriptions_in w) → Two v w →
      Two (with_mailbox_op op v) (with_mailbox_op other w)
  with_mailbox_op-equivalent op other v w after a = record {
    equivalent = record {
      clock = a.equivalent.clock;
      steps = a.equivalent.steps;
      actions = a.equivalent.actions;
      drawn = a.equivalent.drawn;
      calls = a.equivalent.calls;
      opened = a.equivalent.opened;
      conferences = a.equivalent.conferences;
      subscriptions = after;
      pending_timers = a.equivalent.pending_timers;
      texts = a.equivalent.texts;
      registrations = a.equivalent.registrations;
      seen = a.equivalent.seen;
    };
    one = a.one;
    other = a.other;
    among = a.among;
  }

  -- the same operation
  same_noted : (op : boxes.TableOp) (v w : RunState) → Two v w → Two (with_mailbox_op op v) (with_mailbox_op op w)
  same_noted op v w a = with_mailbox_op-equivalent op op v w (ap (boxes.table_after_op op) a.equivalent.subscriptions) a

  either-equivalent : (b : Bool) (t u v w : RunState) → Two t v → Two u w → Two (if b then t else u) (if b then v else w)
  either-equivalent true t u v w x y = x
  either-equivalent false t u v w x y = y

  tag_same : (v w : RunState) → Two v w → next_tag token v ≡ next_tag token w
  tag_same v w a = ap (λ (n : ℕ). token_text token (n + 1)) a.equivalent.drawn

  pub after_notify_response-equivalent : (branch : Option (List ℕ)) (code : ℕ) (v w : RunState) → Two v w → Two (after_notify_response branch code v) (after_notify_response branch code w)
  after_notify_response-equivalent None code v w a = a
  after_notify_response-equivalent (Some branch) code v w a = same_noted (boxes.Responds branch code) v w a

  -- ---- at a moment

  module _ (at : ℕ) where
    -- a NOTIFY
    notice_out : (peer : Peer) (o p : Option (Message Start)) (v w : RunState) → o ≡ p → Two v w → Two (with_emits at (notify_emits peer o) v) (with_emits at (notify_emits peer p) w)
    notice_out peer o p v w same a = subst (λ (x : Option (Message Start)). Two (with_emits at (notify_emits peer x) v) (with_emits at (notify_emits peer p) w)) (sym same) (by p)
      where
        by : (q : Option (Message Start)) → Two (with_emits at (notify_emits peer q) v) (with_emits at (notify_emits peer q) w)
        by None = a
        by (Some message) = ask-equivalent law records d e keys K older knows at peer message message v w refl (λ strange. refl) a

    telling_peer-alike : (sub : SubNo) (last : Bool) (o : Option Peer) (v w : RunState) → Two v w → Two (after_notify_to_peer d token at sub last o v) (after_notify_to_peer e token at sub last o w)
    telling_peer-alike sub last None v w a = a
    telling_peer-alike sub last (Some peer) v w a =
        let tag : next_tag token v ≡ next_tag token w = tag_same v w a in
        notice_out peer (notify_request d.sip sub last (next_tag token v) at (subscriptions_in v)) (notify_request e.sip sub last (next_tag token w) at (subscriptions_in w))
        (with_mailbox_op (boxes.Notifies sub (next_tag token v)) (with_draws 1 v)) (with_mailbox_op (boxes.Notifies sub (next_tag token w)) (with_draws 1 w))
        (λ i. notify_request (sites.equal.sip i) sub last (tag i) at (a.equivalent.subscriptions i))
        (with_mailbox_op-equivalent (boxes.Notifies sub (next_tag token v)) (boxes.Notifies sub (next_tag token w)) (with_draws 1 v) (with_draws 1 w)
        (λ i. boxes.table_after_op (boxes.Notifies sub (tag i)) (a.equivalent.subscriptions i))
        (with_draws-equivalent law records d e keys K older knows 1 1 v w refl a))

    telling-alike : (sub : SubNo) (last : Bool) (v w : RunState) → Two v w → Two (after_notify d token at sub last v) (after_notify e token at sub last w)
    telling-alike sub last v w a =
        subst (λ (o : Option Peer). Two (after_notify_to_peer d token at sub last o v) (after_notify e token at sub last w)) (ap (peer_of sub) (sym a.equivalent.subscriptions))
        (telling_peer-alike sub last (peer_of sub (subscriptions_in w)) v w a)

    telling_last-alike : (sub : SubNo) (v w : RunState) → Two v w → Two (after_last_notify d token at sub v) (after_last_notify e token at sub w)
    telling_last-alike sub v w a = same_noted (boxes.Ends sub) (after_notify d token at sub true v) (after_notify e token at sub true w) (telling-alike sub true v w a)

    telling_each-alike : (subs : List SubNo) (v w : RunState) → Two v w → Two (after_notify_to_each d token at subs v) (after_notify_to_each e token at subs w)
    telling_each-alike [] v w a = a
    telling_each-alike (sub ∷ subs) v w a = telling_each-alike subs (after_notify d token at sub false v) (after_notify e token at sub false w) (telling-alike sub false v w a)

    -- an upload
    pub putting-alike : (o : Option (Account × Counts)) (v w : RunState) → Two v w → Two (after_mailbox_upload d token at o v) (after_mailbox_upload e token at o w)
    putting-alike None v w a = a
    putting-alike (Some put) v w a =
        subst (λ (subs : List SubNo). Two (after_notify_to_each d token at subs (with_mailbox_op (boxes.Puts put.0 put.1) v)) (after_mailbox_upload e token at (Some put) w))
        (ap (subscribers_of put.0) (sym a.equivalent.subscriptions))
        (telling_each-alike (subscribers_of put.0 (subscriptions_in w)) (with_mailbox_op (boxes.Puts put.0 put.1) v) (with_mailbox_op (boxes.Puts put.0 put.1) w) (same_noted (boxes.Puts put.0 put.1) v w a))

    -- a subscription expires
    pub box_due-alike : (sub : SubNo) (set : ℕ) (v w : RunState) → Two v w → Two (after_expiry d token at sub set v) (after_expiry e token at sub set w)
    box_due-alike sub set v w a =
        subst (λ (o : Option ℕ). Two (if is_last_set set o then after_last_notify d token at sub v else v) (after_expiry e token at sub set w)) (ap (set_by sub) (sym a.equivalent.subscriptions))
        (either-equivalent (is_last_set set (set_by sub (subscriptions_in w))) (after_last_notify d token at sub v) v (after_last_notify e token at sub w) w (telling_last-alike sub v w a) a)

    -- the expiration of a subscription is set
    arming_until-alike : (sub : SubNo) (set : Option ℕ) (until : ℕ) (v w : RunState) → Two v w → Two (with_expiry_timer sub set until v) (with_expiry_timer sub set until w)
    arming_until-alike sub None until v w a = a
    arming_until-alike sub (Some set) until v w a = arm-equivalent law records d e keys K older knows (OfSubscription sub set) until v w a

    standing-alike : (sub : SubNo) (seconds : ℕ) (v w : RunState) → Two v w → Two (after_activation d token at sub seconds v) (after_activation e token at sub seconds w)
    standing-alike sub seconds v w a =
        let vs : RunState = after_notify d token at sub false v in
        let ws : RunState = after_notify e token at sub false w in
        either-equivalent (seconds == 0) (after_last_notify d token at sub v) (with_expiry_timer sub (set_by sub (subscriptions_in v)) (until_of at seconds) vs)
        (after_last_notify e token at sub w) (with_expiry_timer sub (set_by sub (subscriptions_in w)) (until_of at seconds) ws) (telling_last-alike sub v w a)
        (subst (λ (o : Option ℕ). Two (with_expiry_timer sub o (until_of at seconds) vs) (with_expiry_timer sub (set_by sub (subscriptions_in w)) (until_of at seconds) ws))
        (ap (set_by sub) (sym a.equivalent.subscriptions))
        (arming_until-alike sub (set_by sub (subscriptions_in w)) (until_of at seconds) vs ws (telling-alike sub false v w a)))

    -- ---- for two requests, the responses to which leave states indistinguishable

    module _ (key : TKey) (m n : MessageView) (asks : ReadEquallyInDialog m n)
        (answers : (answer : StatusResponse) (v w : RunState) → IsOf key n.peer w → Two v w → Two (with_response d token at key m answer v) (with_response e token at key n answer w))
        (replies : (tag : List ℕ) (answer : StatusResponse) (v w : RunState) → IsOf key n.peer w → Two v w →
        Two (with_emit at (emit.Reply key (response_to d.sip tag m answer)) v) (with_emit at (emit.Reply key (response_to e.sip tag n answer)) w)) where
      -- a SUBSCRIBE
      abbrev diversions_made_by : (tag : List ℕ) → SubNo → Account → (seconds : ℕ) → RunState → RunState
      diversions_made_by tag sub account seconds u =
          after_activation d token at sub seconds
          (with_emit at (emit.Reply key (response_to d.sip tag m (grant_response seconds))) (with_mailbox_op (boxes.Subscribes account (leg_by tag m) (until_of at seconds)) (with_draws 1 u)))

      made-alike : SubscribeEqually d e m n → (account : Account) (seconds : ℕ) (v w : RunState) → IsOf key n.peer w → Two v w →
          Two (after_subscription d token at key m account seconds v) (after_subscription e token at key n account seconds w)
      made-alike subscribes account seconds v w its a =
          let tag : List ℕ = next_tag token w in
          let sub : SubNo = next_sub (subscriptions_in w) in
          let vs : RunState = with_mailbox_op (boxes.Subscribes account (leg_by tag m) (until_of at seconds)) (with_draws 1 v) in
          let ws : RunState = with_mailbox_op (boxes.Subscribes account (leg_by tag n) (until_of at seconds)) (with_draws 1 w) in
          let noted : Two vs ws =
          with_mailbox_op-equivalent (boxes.Subscribes account (leg_by tag m) (until_of at seconds)) (boxes.Subscribes account (leg_by tag n) (until_of at seconds)) (with_draws 1 v) (with_draws 1 w)
          (λ i. boxes.table_after_op (boxes.Subscribes account (subscribes.leg tag i) (until_of at seconds)) (a.equivalent.subscriptions i)) (with_draws-equivalent law records d e keys K older knows 1 1 v w refl a) in
          subst (λ (t : List ℕ). Two (diversions_made_by t (next_sub (subscriptions_in v)) account seconds v) (after_subscription e token at key n account seconds w)) (sym (tag_same v w a))
          (subst (λ (x : SubNo). Two (diversions_made_by tag x account seconds v) (after_subscription e token at key n account seconds w)) (ap (λ (t : Table). next_sub t) (sym a.equivalent.subscriptions))
          (standing-alike sub seconds (with_emit at (emit.Reply key (response_to d.sip tag m (grant_response seconds))) vs) (with_emit at (emit.Reply key (response_to e.sip tag n (grant_response seconds))) ws)
          (replies tag (grant_response seconds) vs ws its noted)))

      abbrev made_if : (full : Bool) → Account → Option ℕ → RunState → RunState
      made_if full account expires u = if full then with_response d token at key m (plain_response 503) u else after_subscription d token at key m account (granted_seconds expires) u

      made_for-alike : SubscribeEqually d e m n → (o : Option Account) (v w : RunState) → IsOf key n.peer w → Two v w → Two (after_subscription_for d token at key m o v) (after_subscription_for e token at key n o w)
      made_for-alike subscribes None v w its a = answers (plain_response 403) v w its a
      made_for-alike subscribes (Some account) v w its a =
          subst (λ (b : Bool). Two (made_if b account m.parsed.expires v) (after_subscription_for e token at key n (Some account) w)) (ap (λ (t : Table). is_full t) (sym a.equivalent.subscriptions))
          (subst (λ (o : Option ℕ). Two (made_if (is_full (subscriptions_in w)) account o v) (after_subscription_for e token at key n (Some account) w)) (sym asks.expires)
          (either-equivalent (is_full (subscriptions_in w)) (with_response d token at key m (plain_response 503) v) (after_subscription d token at key m account (granted_seconds n.parsed.expires) v)
          (with_response e token at key n (plain_response 503) w) (after_subscription e token at key n account (granted_seconds n.parsed.expires) w)
          (answers (plain_response 503) v w its a) (made-alike subscribes account (granted_seconds n.parsed.expires) v w its a)))

      subscribing_by-alike : SubscribeEqually d e m n → (o : Option ℕ) (v w : RunState) → IsOf key n.peer w → Two v w → Two (after_subscribe_by d token at key m o v) (after_subscribe_by e token at key n o w)
      subscribing_by-alike subscribes None v w its a =
          subst (λ (o : Option Account). Two (after_subscription_for d token at key m o v) (after_subscribe_by e token at key n None w)) (sym subscribes.mailbox)
          (made_for-alike subscribes (named_mailbox e n.parsed) v w its a)
      subscribing_by-alike subscribes (Some code) v w its a = answers (refusal_response code) v w its a

      pub subscribing-alike : SubscribeEqually d e m n → (v w : RunState) → IsOf key n.peer w → Two v w → Two (after_subscribe d token at key m v) (after_subscribe e token at key n w)
      subscribing-alike subscribes v w its a =
          subst (λ (o : Option ℕ). Two (after_subscribe_by d token at key m o v) (after_subscribe e token at key n w)) (ap refusal (sym (subscribes.asking false)))
          (subscribing_by-alike subscribes (refusal (subscribe_request_of e false n.parsed)) v w its a)

      -- a request in the dialog of a subscription
      abbrev refreshed_by : SubNo → Option ℕ → RunState → RunState
      refreshed_by sub expires u =
          after_activation d token at sub (granted_seconds expires)
          (with_response d token at key m (grant_response (granted_seconds expires)) (with_mailbox_op (boxes.Refreshes sub (until_of at (granted_seconds expires))) u))

      refreshing-alike : (sub : SubNo) (o : Option ℕ) (v w : RunState) → IsOf key n.peer w → Two v w → Two (after_refresh_by d token at key m sub o v) (after_refresh_by e token at key n sub o w)
      refreshing-alike sub (Some code) v w its a = answers (refusal_response code) v w its a
      refreshing-alike sub None v w its a =
          let seconds : ℕ = granted_seconds n.parsed.expires in
          let op : boxes.TableOp = boxes.Refreshes sub (until_of at seconds) in
          subst (λ (o : Option ℕ). Two (refreshed_by sub o v) (after_refresh_by e token at key n sub None w)) (sym asks.expires)
          (standing-alike sub seconds (with_response d token at key m (grant_response seconds) (with_mailbox_op op v)) (with_response e token at key n (grant_response seconds) (with_mailbox_op op w))
          (answers (grant_response seconds) (with_mailbox_op op v) (with_mailbox_op op w) its (same_noted op v w a)))

      allowing_same : response_with_allow d 200 ≡ response_with_allow e 200
      allowing_same = λ i. record { code = 200; lines = allow_lines (record { reliable = sites.equal.reliable i; mwi = sites.equal.mwi i }) }

      abbrev other_by : StatusResponse → Start → StatusResponse
      other_by allows start = if is_method (codes "OPTIONS") start then allows else if is_method (codes "REFER") start then plain_response 403 else plain_response 481

      other_same : other_response d m.parsed ≡ other_response e n.parsed
      other_same = ap (λ (x : StatusResponse). other_by x m.parsed.start) allowing_same ∙ ap (other_by (response_with_allow e 200)) asks.start

      -- the subscriber and the mailbox are compared where it is a SUBSCRIBE
      module _ (subscribes : is_method (codes "SUBSCRIBE") n.parsed.start ≡ true → SubscribeEqually d e m n) where
        abbrev entered_if : SubNo → (is_subscribe : Bool) → StatusResponse → RunState → RunState
        entered_if sub is_subscribe other u = if is_subscribe then after_refresh_by d token at key m sub (refusal (subscribe_request_of d true m.parsed)) u else with_response d token at key m other u

        entered-alike : (sub : SubNo) (v w : RunState) → IsOf key n.peer w → Two v w → Two (after_request_in_order d token at key m sub v) (after_request_in_order e token at key n sub w)
        entered-alike sub v w its a =
            subst (λ (x : Start). Two (entered_if sub (is_method (codes "SUBSCRIBE") x) (other_response d m.parsed) v) (after_request_in_order e token at key n sub w)) (sym asks.start)
            (subst (λ (x : StatusResponse). Two (entered_if sub (is_method (codes "SUBSCRIBE") n.parsed.start) x v) (after_request_in_order e token at key n sub w)) (sym other_same)
            (by (is_method (codes "SUBSCRIBE") n.parsed.start) refl))
          where
            by : (b : Bool) → is_method (codes "SUBSCRIBE") n.parsed.start ≡ b → Two (entered_if sub b (other_response e n.parsed) v)
                (if b then after_refresh_by e token at key n sub (refusal (subscribe_request_of e true n.parsed)) w else with_response e token at key n (other_response e n.parsed) w)
            by true is =
                subst (λ (o : Option ℕ). Two (after_refresh_by d token at key m sub o v) (after_refresh_by e token at key n sub (refusal (subscribe_request_of e true n.parsed)) w))
                (ap refusal (sym ((subscribes is).asking true))) (refreshing-alike sub (refusal (subscribe_request_of e true n.parsed)) v w its a)
            by false is = answers (other_response e n.parsed) v w its a

        entering_by-alike : (sub : SubNo) (r : Result (Unit {0}) DialogueFault) (v w : RunState) → IsOf key n.peer w → Two v w →
            Two (after_checked_request d token at key m sub r v) (after_checked_request e token at key n sub r w)
        entering_by-alike sub (Err fault) v w its a = answers (plain_response 500) v w its a
        entering_by-alike sub (Ok done) v w its a =
            entered-alike sub (with_mailbox_op (boxes.Receives sub (message_in m.parsed)) v) (with_mailbox_op (boxes.Receives sub (message_in n.parsed)) w) its
            (with_mailbox_op-equivalent (boxes.Receives sub (message_in m.parsed)) (boxes.Receives sub (message_in n.parsed)) v w
            (received_same m n sub (subscriptions_in v) (subscriptions_in w) asks a.equivalent.subscriptions) a)

        pub entering_box-alike : (sub : SubNo) (v w : RunState) → IsOf key n.peer w → Two v w → Two (after_subscription_request d token at key m sub v) (after_subscription_request e token at key n sub w)
        entering_box-alike sub v w its a =
            let same : request_check sub (message_in m.parsed) (subscriptions_in v) ≡ request_check sub (message_in n.parsed) (subscriptions_in w) =
            ap (λ (t : Table). request_check sub (message_in m.parsed) t) a.equivalent.subscriptions ∙ request_check_same m n (subscription_numbered sub (subscriptions_in w)) asks in
            subst (λ (r : Result (Unit {0}) DialogueFault). Two (after_checked_request d token at key m sub r v) (after_subscription_request e token at key n sub w)) (sym same)
            (entering_by-alike sub (request_check sub (message_in n.parsed) (subscriptions_in w)) v w its a)
