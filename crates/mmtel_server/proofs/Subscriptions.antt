-- Operations on mailboxes and on the subscriptions to them: what the code reads and does, one after another, is what the definitions require.
use Rattle.std.proofs.Common.{◌≡◌, ◌+◌, ◌<◌, ◌≤◌, ◌^◌, ℕ, List, [], ◌∷◌, length, drop, get_or, eq-eqb, refl, sym, ap, ◌∙◌, subst, Bool, true, false, Option, Some, None, Result, Ok, Err, inl, inr, add-one, drop-cons}
use Rattle.std.specs.Prelude.{◌==◌, if◌then◌else◌, codes, find, is_some}
use Rattle.std.specs.Option.{option_map}
use Rattle.std.proofs.lemmas.Bool.{cases_Bool, ne_eqb}
use Rattle.std.proofs.lemmas.List.{drop_all}
use Rattle.std.proofs.lemmas.Option.{none-some}
use Rattle.mmtel_compose.specs.ReceivedMessages.{MessageView}
use Rattle.mmtel_charging.specs.declared.rows.Row.{Row}
use Rattle.mmtel_directory.specs.declared.directories.Directory.{Directory}
use Rattle.mmtel_http.specs.Requests.{ParsedRequestView}
use Rattle.mmtel_leg.specs.declared.dialogues.DialogueFault.{DialogueFault}
use Rattle.mmtel_message.specs.Faults.{is_method}
use Rattle.mmtel_message.specs.Message.{Message}
use Rattle.mmtel_message.specs.declared.messages.Start.{Start}
use Rattle.mmtel_mwi.specs.Boxes.{BoxesView, changed, is_full, is_live, is_numbered, next_sub, notify_request, peer_of, request_check, request_check_of, set_by, subscribers_of}
use Rattle.mmtel_mwi.specs.Boxes.{subscription_after_request, subscription_numbered, table_after_end, table_after_notify, table_after_refresh, with_counts, with_table}
use Rattle.mmtel_mwi.specs.Operations.{Ends, Notifies, Puts, Receives, Refreshes, Subscribes}
use Rattle.mmtel_mwi.specs.Subscribing.{granted_seconds, refusal}
use Rattle.mmtel_mwi.specs.declared.counts.Counts.{Counts}
use Rattle.mmtel_mwi.specs.declared.subscriptions.Subscription.{Subscription}
use Rattle.mmtel_environment.specs.declared.events.Offer.{Offer}
use Rattle.mmtel_run_definitions.proofs.MailboxTransitions as words
use Rattle.mmtel_run_definitions.specs.OwnResponses.{StatusResponse, plain_response, response_to}
use Rattle.mmtel_run_definitions.specs.Events.{message_in}
use Rattle.mmtel_run_definitions.specs.Records.{until_of}
use Rattle.mmtel_run_definitions.specs.Ownership.{leg_by}
use Rattle.mmtel_run_definitions.specs.Subscriptions.{after_checked_request, after_expiry, after_request_in_order, after_subscription, after_subscription_for, after_subscription_request}
use Rattle.mmtel_run_definitions.specs.Subscriptions.{grant_response, is_last_set, named_mailbox, notify_emits, subscribe_request_of, with_expiry_timer, with_mailbox_op}
use Rattle.mmtel_run_definitions.specs.Subscriptions.{after_activation, after_last_notify, after_mailbox_upload, after_notify, after_notify_to_each}
use Rattle.mmtel_run_definitions.specs.Subscriptions.{after_notify_to_peer, after_refresh_by, after_subscribe, after_subscribe_by, other_response}
use Rattle.mmtel_run_definitions.specs.Transitions.{RunState, after_web_reply, after_web_request, subscriptions_in, with_emits, with_response}
use Rattle.mmtel_base.specs.Numbers.{token_text}
use Rattle.mmtel_transaction.specs.Tokens.{TokensView}
use Rattle.mmtel_transaction.specs.declared.words.Emit.TheVariants as emit
use Rattle.mmtel_transaction.specs.declared.words.TKey.{TKey}
use Rattle.mmtel_types.specs.declared.numbers.Account.{Account}
use Rattle.mmtel_types.specs.declared.numbers.Peer.{Peer}
use Rattle.mmtel_types.specs.declared.numbers.SubNo.{SubNo}
use Rattle.mmtel_web.specs.Handling.{KeeperOutcomeView}
use Rattle.mmtel_web.specs.Uploads.{counts_put_in}
use Rattle.mmtel_server.proofs.Owners.{breaks_so, follows_so}
use Rattle.mmtel_server.proofs.Operations.{notes_action}
use Rattle.mmtel_server.proofs.Grows.{Grows, draws, followed, grows_on, grows_with_emits, grows_with_mailbox_op, grows_with_response, grows_with_timer, offer_prefix_added, same, serves, stops}
use Rattle.mmtel_server.proofs.Participants.{Reads, breaks_reads, breaks_tagged, follows_reads, follows_tagged}
use Rattle.mmtel_server.specs.Follows.{AddsOfferPrefix, Follows, NumbersNeverFall}
use Rattle.mmtel_server.specs.Representation.{Represents}
use Rattle.mmtel_server.specs.declared.servers.Server.{Server}

-- ---- more is done with each of them

module _ (d : Directory) (token : List ℕ) (at : ℕ) where
  pub tells_grows : (sub : SubNo) (last : Bool) (w : RunState) → Grows w (after_notify d token at sub last w)
  tells_grows = words.tells Grows grows_on same grows_with_mailbox_op d token at (draws 1) (grows_with_emits at) grows_with_timer (grows_with_response d token at)

  pub tells_last_grows : (sub : SubNo) (w : RunState) → Grows w (after_last_notify d token at sub w)
  tells_last_grows = words.tells_last Grows grows_on same grows_with_mailbox_op d token at (draws 1) (grows_with_emits at) grows_with_timer (grows_with_response d token at)

  pub tells_each_grows : (subs : List SubNo) (w : RunState) → Grows w (after_notify_to_each d token at subs w)
  tells_each_grows = words.tells_each Grows grows_on same grows_with_mailbox_op d token at (draws 1) (grows_with_emits at) grows_with_timer (grows_with_response d token at)

  pub arms_until_grows : (sub : SubNo) (set : Option ℕ) (until : ℕ) (w : RunState) → Grows w (with_expiry_timer sub set until w)
  arms_until_grows = words.arms_until Grows grows_on same grows_with_mailbox_op d token at (draws 1) (grows_with_emits at) grows_with_timer (grows_with_response d token at)

  pub stands_grows : (sub : SubNo) (seconds : ℕ) (w : RunState) → Grows w (after_activation d token at sub seconds w)
  stands_grows = words.stands Grows grows_on same grows_with_mailbox_op d token at (draws 1) (grows_with_emits at) grows_with_timer (grows_with_response d token at)

  pub makes_grows : (key : TKey) (s : MessageView) (account : Account) (seconds : ℕ) (w : RunState) → Grows w (after_subscription d token at key s account seconds w)
  makes_grows = words.makes Grows grows_on same grows_with_mailbox_op d token at (draws 1) (grows_with_emits at) grows_with_timer (grows_with_response d token at)

  pub makes_for_grows : (key : TKey) (s : MessageView) (o : Option Account) (w : RunState) → Grows w (after_subscription_for d token at key s o w)
  makes_for_grows = words.makes_for Grows grows_on same grows_with_mailbox_op d token at (draws 1) (grows_with_emits at) grows_with_timer (grows_with_response d token at)

  pub subscribes_grows : (key : TKey) (s : MessageView) (w : RunState) → Grows w (after_subscribe d token at key s w)
  subscribes_grows = words.subscribes Grows grows_on same grows_with_mailbox_op d token at (draws 1) (grows_with_emits at) grows_with_timer (grows_with_response d token at)

  pub refreshes_grows : (key : TKey) (s : MessageView) (sub : SubNo) (o : Option ℕ) (w : RunState) → Grows w (after_refresh_by d token at key s sub o w)
  refreshes_grows = words.refreshes Grows grows_on same grows_with_mailbox_op d token at (draws 1) (grows_with_emits at) grows_with_timer (grows_with_response d token at)

  pub enters_by_grows : (key : TKey) (s : MessageView) (sub : SubNo) (w : RunState) → Grows w (after_request_in_order d token at key s sub w)
  enters_by_grows = words.enters_by Grows grows_on same grows_with_mailbox_op d token at (draws 1) (grows_with_emits at) grows_with_timer (grows_with_response d token at)

  pub enters_box_grows : (key : TKey) (s : MessageView) (sub : SubNo) (w : RunState) → Grows w (after_subscription_request d token at key s sub w)
  enters_box_grows = words.enters Grows grows_on same grows_with_mailbox_op d token at (draws 1) (grows_with_emits at) grows_with_timer (grows_with_response d token at)

  pub puts_grows : (o : Option (Account × Counts)) (w : RunState) → Grows w (after_mailbox_upload d token at o w)
  puts_grows = words.puts Grows grows_on same grows_with_mailbox_op d token at (draws 1) (grows_with_emits at) grows_with_timer (grows_with_response d token at)

  pub ends_box_grows : (sub : SubNo) (set : ℕ) (w : RunState) → Grows w (after_expiry d token at sub set w)
  ends_box_grows = words.ends Grows grows_on same grows_with_mailbox_op d token at (draws 1) (grows_with_emits at) grows_with_timer (grows_with_response d token at)

-- ---- what was read decides

module _ (s : Server) (P : (Directory → List ℕ → RunState → RunState) → Type 0) (reads : Reads s P) (at : ℕ) where
  -- the peer of a subscription
  is_peer : (sub : SubNo) (d : Directory) (token : List ℕ) (w : RunState) → Represents d token s w → peer_of sub s.boxes.table ≡ peer_of sub (subscriptions_in w)
  is_peer sub d token w have = ap (λ (b : BoxesView). peer_of sub b.table) have.boxes

  pub telling_so : (sub : SubNo) (last : Bool) (o : Option Peer) → peer_of sub s.boxes.table ≡ o → P (λ d token. after_notify_to_peer d token at sub last o) → P (λ d token. after_notify d token at sub last)
  telling_so sub last o is p =
      reads (Option Peer) (peer_of sub s.boxes.table) (λ d w. peer_of sub (subscriptions_in w)) (λ x d token w. after_notify_to_peer d token at sub last x w) (is_peer sub)
      (subst (λ (x : Option Peer). P (λ d token. after_notify_to_peer d token at sub last x)) (sym is) p)

  -- the subscribers to a mailbox
  are_due : (account : Account) (d : Directory) (token : List ℕ) (w : RunState) → Represents d token s w → subscribers_of account s.boxes.table ≡ subscribers_of account (subscriptions_in w)
  are_due account d token w have = ap (λ (b : BoxesView). subscribers_of account b.table) have.boxes

  pub putting_so : (account : Account) (counts : Counts) (subs : List SubNo) → subs ≡ subscribers_of account s.boxes.table
      → P (λ d token w. after_notify_to_each d token at subs (with_mailbox_op (Puts account counts) w)) → P (λ d token. after_mailbox_upload d token at (Some (account, counts)))
  putting_so account counts subs are p =
      reads (List SubNo) (subscribers_of account s.boxes.table) (λ d w. subscribers_of account (subscriptions_in w))
      (λ x d token w. after_notify_to_each d token at x (with_mailbox_op (Puts account counts) w)) (are_due account)
      (subst (λ (x : List SubNo). P (λ d token w. after_notify_to_each d token at x (with_mailbox_op (Puts account counts) w))) are p)

  -- which SUBSCRIBE set its expiration
  is_set : (sub : SubNo) (d : Directory) (token : List ℕ) (w : RunState) → Represents d token s w → set_by sub s.boxes.table ≡ set_by sub (subscriptions_in w)
  is_set sub d token w have = ap (λ (b : BoxesView). set_by sub b.table) have.boxes

  pub standing_so : (sub : SubNo) (seconds : ℕ) (set : Option ℕ) → (seconds == 0) ≡ false → set_by sub s.boxes.table ≡ set
      → P (λ d token w. with_expiry_timer sub set (until_of at seconds) (after_notify d token at sub false w)) → P (λ d token. after_activation d token at sub seconds)
  standing_so sub seconds set some is p =
      subst (λ (b : Bool). P (λ d token w. if b then after_last_notify d token at sub w else with_expiry_timer sub (set_by sub (subscriptions_in w)) (until_of at seconds) (after_notify d token at sub false w)))
      (sym some)
      (reads (Option ℕ) (set_by sub s.boxes.table) (λ d w. set_by sub (subscriptions_in w)) (λ x d token w. with_expiry_timer sub x (until_of at seconds) (after_notify d token at sub false w)) (is_set sub)
      (subst (λ (x : Option ℕ). P (λ d token w. with_expiry_timer sub x (until_of at seconds) (after_notify d token at sub false w))) (sym is) p))

  pub due_so : (sub : SubNo) (set : ℕ) (o : Option ℕ) → set_by sub s.boxes.table ≡ o → P (λ d token w. if is_last_set set o then after_last_notify d token at sub w else w)
      → P (λ d token. after_expiry d token at sub set)
  due_so sub set o is p =
      reads (Option ℕ) (set_by sub s.boxes.table) (λ d w. set_by sub (subscriptions_in w)) (λ x d token w. if is_last_set set x then after_last_notify d token at sub w else w) (is_set sub)
      (subst (λ (x : Option ℕ). P (λ d token w. if is_last_set set x then after_last_notify d token at sub w else w)) (sym is) p)

  -- whether as many live as may
  has_filled : (d : Directory) (token : List ℕ) (w : RunState) → Represents d token s w → is_full s.boxes.table ≡ is_full (subscriptions_in w)
  has_filled d token w have = ap (λ (b : BoxesView). is_full b.table) have.boxes

  module _ (key : TKey) (said : MessageView) where
    pub made_for_so : (account : Account) (full : Bool) → is_full s.boxes.table ≡ full
        → P (λ d token w. if full then with_response d token at key said (plain_response 503) w else after_subscription d token at key said account (granted_seconds said.parsed.expires) w)
        → P (λ d token. after_subscription_for d token at key said (Some account))
    made_for_so account full is p =
        reads Bool (is_full s.boxes.table) (λ d w. is_full (subscriptions_in w))
        (λ b d token w. if b then with_response d token at key said (plain_response 503) w else after_subscription d token at key said account (granted_seconds said.parsed.expires) w)
        has_filled
        (subst (λ (b : Bool). P (λ d token w. if b then with_response d token at key said (plain_response 503) w else after_subscription d token at key said account (granted_seconds said.parsed.expires) w)) (sym is) p)

    -- the first refusal that applies
    is_refused : (within : Bool) (d : Directory) (token : List ℕ) (w : RunState) → Represents d token s w
        → refusal (subscribe_request_of s.directory within said.parsed) ≡ refusal (subscribe_request_of d within said.parsed)
    is_refused within d token w have = ap (λ (x : Directory). refusal (subscribe_request_of x within said.parsed)) have.same_directory

    pub subscribing_so : (o : Option ℕ) → o ≡ refusal (subscribe_request_of s.directory false said.parsed) → P (λ d token. after_subscribe_by d token at key said o) → P (λ d token. after_subscribe d token at key said)
    subscribing_so o is p =
        reads (Option ℕ) (refusal (subscribe_request_of s.directory false said.parsed)) (λ d w. refusal (subscribe_request_of d false said.parsed))
        (λ x d token w. after_subscribe_by d token at key said x w) (is_refused false)
        (subst (λ (x : Option ℕ). P (λ d token. after_subscribe_by d token at key said x)) is p)

    pub made_for_named : (o : Option Account) → o ≡ named_mailbox s.directory said.parsed → P (λ d token. after_subscription_for d token at key said o)
        → P (λ d token. after_subscribe_by d token at key said None)
    made_for_named o is p =
        reads (Option Account) (named_mailbox s.directory said.parsed) (λ d w. named_mailbox d said.parsed) (λ x d token w. after_subscription_for d token at key said x w)
        (λ d token w have. ap (λ (x : Directory). named_mailbox x said.parsed) have.same_directory)
        (subst (λ (x : Option Account). P (λ d token. after_subscription_for d token at key said x)) is p)

    module _ (sub : SubNo) where
      pub refreshing_so : (o : Option ℕ) → o ≡ refusal (subscribe_request_of s.directory true said.parsed) → P (λ d token. after_refresh_by d token at key said sub o)
          → P (λ d token. after_refresh_by d token at key said sub (refusal (subscribe_request_of d true said.parsed)))
      refreshing_so o is p =
          reads (Option ℕ) (refusal (subscribe_request_of s.directory true said.parsed)) (λ d w. refusal (subscribe_request_of d true said.parsed))
          (λ x d token w. after_refresh_by d token at key said sub x w) (is_refused true)
          (subst (λ (x : Option ℕ). P (λ d token. after_refresh_by d token at key said sub x)) is p)

      -- the result of the subscription for it
      pub entering_so : (r : Result (Unit {0}) DialogueFault) → ((d : Directory) (token : List ℕ) (w : RunState) → Represents d token s w → r ≡ request_check sub (message_in said.parsed) (subscriptions_in w))
          → P (λ d token. after_checked_request d token at key said sub r) → P (λ d token. after_subscription_request d token at key said sub)
      entering_so r says_so p =
          reads (Result (Unit {0}) DialogueFault) r (λ d w. request_check sub (message_in said.parsed) (subscriptions_in w)) (λ x d token w. after_checked_request d token at key said sub x w) says_so p

-- it expires, if no later SUBSCRIBE set another moment
module _ (P : (Directory → List ℕ → RunState → RunState) → Type 0) (at : ℕ) (sub : SubNo) (set last : ℕ) where
  pub due_now : last ≡ set → P (λ d token. after_last_notify d token at sub) → P (λ d token w. if is_last_set set (Some last) then after_last_notify d token at sub w else w)
  due_now is p = subst (λ (b : Bool). P (λ d token w. if b then after_last_notify d token at sub w else w)) (sym (eq-eqb set last (sym is))) p

  pub due_later : (last ≡ set → ⊥) → P (λ d token w. w) → P (λ d token w. if is_last_set set (Some last) then after_last_notify d token at sub w else w)
  due_later other p = subst (λ (b : Bool). P (λ d token w. if b then after_last_notify d token at sub w else w)) (sym (ne_eqb set last (λ e. other (sym e)))) p

-- ---- a subscriber is notified

module _ (at : ℕ) (sub : SubNo) (last : Bool) (peer : Peer) (s : Server) (out : List Offer) (is_peer_of : peer_of sub s.boxes.table ≡ Some peer) (t : TokensView) (branch : List ℕ)
    (drawn : s.tokens.drawn < 2 ^ 60 → t ≡ record { token = s.tokens.token; drawn = s.tokens.drawn + 1 })
    (tags : s.tokens.drawn < 2 ^ 60 → branch ≡ token_text s.tokens.token (s.tokens.drawn + 1))
    (m : Option (Message Start)) (is_notice : m ≡ notify_request s.boxes.sip sub last branch at s.boxes.table)
    (boxes : BoxesView) (is_told : boxes ≡ with_table s.boxes (table_after_notify sub branch s.boxes.table)) where
  abbrev telling_with : List ℕ → Directory → List ℕ → RunState → RunState
  telling_with b d token w = with_emits at (notify_emits peer (notify_request d.sip sub last b at (subscriptions_in w))) (with_mailbox_op (Notifies sub b) w)

  telling_with_grows : (b : List ℕ) (d : Directory) (token : List ℕ) (w : RunState) → Grows w (telling_with b d token w)
  telling_with_grows b d token w =
      grows_on w (with_mailbox_op (Notifies sub b) w) (telling_with b d token w) (grows_with_mailbox_op (Notifies sub b) w)
      (grows_with_emits at (notify_emits peer (notify_request d.sip sub last b at (subscriptions_in w))) (with_mailbox_op (Notifies sub b) w))

  is_due : (d : Directory) (token : List ℕ) (w : RunState) → Represents d token (record s { tokens = t }) w → m ≡ notify_request d.sip sub last branch at (subscriptions_in w)
  is_due d token w have = is_notice ∙ ap (λ (b : BoxesView). notify_request b.sip sub last branch at b.table) have.boxes

  pub tells_peer : (new : Server) (now : List Offer) → Follows (record s { tokens = t; boxes = boxes }) out new now (λ d token. with_emits at (notify_emits peer m))
      → Follows s out new now (λ d token. after_notify d token at sub last)
  tells_peer new now follows =
      telling_so s (Follows s out new now) (follows_reads s out new now) at sub last (Some peer) is_peer_of
      (follows_tagged s t branch out drawn tags telling_with telling_with_grows new now
      (follows_so m (λ d w. notify_request d.sip sub last branch at (subscriptions_in w)) (λ x d token w. with_emits at (notify_emits peer x) (with_mailbox_op (Notifies sub branch) w))
      (record s { tokens = t }) out is_due new now
      (followed (λ d token. with_mailbox_op (Notifies sub branch)) (λ d token. with_emits at (notify_emits peer m)) (record s { tokens = t }) (record s { tokens = t; boxes = boxes }) new out out now
      (λ d token w. grows_with_emits at (notify_emits peer m) w) (notes_action (Notifies sub branch) (record s { tokens = t }) boxes out is_told) follows)))

-- for the last time
pub notifies_then_ends : (at : ℕ) (sub : SubNo) (s mid : Server) (out now : List Offer) (boxes : BoxesView) → Follows s out mid now (λ d token. after_notify d token at sub true)
    → boxes ≡ with_table mid.boxes (table_after_end sub mid.boxes.table) → Follows s out (record mid { boxes = boxes }) now (λ d token. after_last_notify d token at sub)
notifies_then_ends at sub s mid out now boxes tells is =
    followed (λ d token. after_notify d token at sub true) (λ d token. with_mailbox_op (Ends sub)) s mid (record mid { boxes = boxes }) out now now
    (λ d token w. grows_with_mailbox_op (Ends sub) w) tells (notes_action (Ends sub) mid boxes now is)

-- ---- one subscriber after another

pub next_notified : (d : Directory) (token : List ℕ) (at i : ℕ) (subs : List SubNo) (past : SubNo) (w : RunState) → i < length subs
    → after_notify_to_each d token at (drop i subs) w ≡ after_notify_to_each d token at (drop (i + 1) subs) (after_notify d token at (get_or subs i past) false w)
next_notified d token at i subs past w less =
    let here : drop i subs ≡ get_or subs i past ∷ drop (i + 1) subs = rw (add-one, drop-cons subs i past) refl in
    ap (λ (l : List SubNo). after_notify_to_each d token at l w) here

pub none_notified : (d : Directory) (token : List ℕ) (at i : ℕ) (subs : List SubNo) (w : RunState) → length subs ≤ i → after_notify_to_each d token at (drop i subs) w ≡ w
none_notified d token at i subs w less = ap (λ (l : List SubNo). after_notify_to_each d token at l w) (drop_all i subs less)

-- ---- an upload that was accepted

module _ (at : ℕ) (account : Account) (counts : Counts) (s : Server) (out : List Offer) (boxes : BoxesView) (is_put : boxes ≡ with_table s.boxes (with_counts account counts s.boxes.table))
    (subs : List SubNo) (are : subs ≡ subscribers_of account boxes.table) where
  are_those : subs ≡ subscribers_of account s.boxes.table
  are_those = are ∙ ap (λ (b : BoxesView). subscribers_of account b.table) is_put

  first_put : Follows s out (record s { boxes = boxes }) out (λ d token. with_mailbox_op (Puts account counts))
  first_put = notes_action (Puts account counts) s boxes out is_put

  pub puts_follows : (new : Server) (now : List Offer) → Follows (record s { boxes = boxes }) out new now (λ d token. after_notify_to_each d token at subs)
      → Follows s out new now (λ d token. after_mailbox_upload d token at (Some (account, counts)))
  puts_follows new now follows =
      putting_so s (Follows s out new now) (follows_reads s out new now) at account counts subs are_those
      (followed (λ d token. with_mailbox_op (Puts account counts)) (λ d token. after_notify_to_each d token at subs) s (record s { boxes = boxes }) new out out now
      (λ d token w. tells_each_grows d token at subs w) first_put follows)

  pub puts_breaks : (now : List Offer) → AddsOfferPrefix (record s { boxes = boxes }) out now (λ d token. after_notify_to_each d token at subs)
      → AddsOfferPrefix s out now (λ d token. after_mailbox_upload d token at (Some (account, counts)))
  puts_breaks now breaks =
      putting_so s (AddsOfferPrefix s out now) (breaks_reads s out now) at account counts subs are_those
      (offer_prefix_added (λ d token. with_mailbox_op (Puts account counts)) (λ d token. after_notify_to_each d token at subs) s (record s { boxes = boxes }) out out now
      (λ d token w. grows_with_mailbox_op (Puts account counts) w) (λ d token w. tells_each_grows d token at subs w) first_put breaks)

-- ---- a subscription is active: its expiration is armed after the NOTIFY

module _ (at : ℕ) (sub : SubNo) (seconds : ℕ) (some : (seconds == 0) ≡ false) (s mid : Server) (out between : List Offer) (tells : Follows s out mid between (λ d token. after_notify d token at sub false))
    (set : Option ℕ) (is_set_so : set_by sub s.boxes.table ≡ set) where
  pub stands_follows : (new : Server) → Follows mid between new between (λ d token. with_expiry_timer sub set (until_of at seconds)) → Follows s out new between (λ d token. after_activation d token at sub seconds)
  stands_follows new arms_it =
      standing_so s (Follows s out new between) (follows_reads s out new between) at sub seconds set some is_set_so
      (followed (λ d token. after_notify d token at sub false) (λ d token. with_expiry_timer sub set (until_of at seconds)) s mid new out between between
      (λ d token w. arms_until_grows d token at sub set (until_of at seconds) w) tells arms_it)

  -- memory ran out in arming
  pub stands_breaks : AddsOfferPrefix s out between (λ d token. after_activation d token at sub seconds)
  stands_breaks =
      standing_so s (AddsOfferPrefix s out between) (breaks_reads s out between) at sub seconds set some is_set_so
      (offer_prefix_added (λ d token. after_notify d token at sub false) (λ d token. with_expiry_timer sub set (until_of at seconds)) s mid out between between
      (λ d token w. tells_grows d token at sub false w) (λ d token w. arms_until_grows d token at sub set (until_of at seconds) w) tells
      (stops (λ d token. with_expiry_timer sub set (until_of at seconds)) mid between between (λ d token w. arms_until_grows d token at sub set (until_of at seconds) w) refl))

-- ---- a subscription is created

module _ (at : ℕ) (key : TKey) (said : MessageView) (account : Account) (seconds : ℕ) (s : Server) (t : TokensView) (tag : List ℕ) (out : List Offer)
    (drawn : s.tokens.drawn < 2 ^ 60 → t ≡ record { token = s.tokens.token; drawn = s.tokens.drawn + 1 })
    (tags : s.tokens.drawn < 2 ^ 60 → tag ≡ token_text s.tokens.token (s.tokens.drawn + 1)) where
  abbrev subscribed_with : List ℕ → RunState → RunState
  subscribed_with x w = with_mailbox_op (Subscribes account (leg_by x said) (until_of at seconds)) w

  abbrev granted_with : List ℕ → Directory → RunState → RunState
  granted_with x d w = with_emits at (emit.Reply key (response_to d.sip x said (grant_response seconds)) ∷ []) w

  abbrev made_with : List ℕ → Directory → List ℕ → RunState → RunState
  made_with x d token w = after_activation d token at (next_sub (subscriptions_in w)) seconds (granted_with x d (subscribed_with x w))

  made_with_grows : (x : List ℕ) (d : Directory) (token : List ℕ) (w : RunState) → Grows w (made_with x d token w)
  made_with_grows x d token w =
      let there : RunState = granted_with x d (subscribed_with x w) in
      grows_on w there (made_with x d token w)
      (grows_on w (subscribed_with x w) there (grows_with_mailbox_op (Subscribes account (leg_by x said) (until_of at seconds)) w)
      (grows_with_emits at (emit.Reply key (response_to d.sip x said (grant_response seconds)) ∷ []) (subscribed_with x w)))
      (stands_grows d token at (next_sub (subscriptions_in w)) seconds there)

  module _ (sub : SubNo) (is_sub : sub ≡ next_sub s.boxes.table) (mid there : Server) (between : List Offer)
      (adds : Follows (record s { tokens = t }) out mid out (λ d token. subscribed_with tag)) (grants : Follows mid out there between (λ d token. granted_with tag d)) where
    first_both : Follows (record s { tokens = t }) out there between (λ d token w. granted_with tag d (subscribed_with tag w))
    first_both =
        followed (λ d token. subscribed_with tag) (λ d token. granted_with tag d) (record s { tokens = t }) mid there out out between
        (λ d token w. grows_with_emits at (emit.Reply key (response_to d.sip tag said (grant_response seconds)) ∷ []) w) adds grants

    both_grow : (d : Directory) (token : List ℕ) (w : RunState) → Grows w (granted_with tag d (subscribed_with tag w))
    both_grow d token w =
        grows_on w (subscribed_with tag w) (granted_with tag d (subscribed_with tag w)) (grows_with_mailbox_op (Subscribes account (leg_by tag said) (until_of at seconds)) w)
        (grows_with_emits at (emit.Reply key (response_to d.sip tag said (grant_response seconds)) ∷ []) (subscribed_with tag w))

    is_next_sub : (d : Directory) (token : List ℕ) (w : RunState) → Represents d token (record s { tokens = t }) w → sub ≡ next_sub (subscriptions_in w)
    is_next_sub d token w have = is_sub ∙ ap (λ (b : BoxesView). next_sub b.table) have.boxes

    pub makes_follows : (new : Server) (now : List Offer) → Follows there between new now (λ d token. after_activation d token at sub seconds)
        → Follows s out new now (λ d token. after_subscription d token at key said account seconds)
    makes_follows new now stands =
        follows_tagged s t tag out drawn tags made_with made_with_grows new now
        (follows_so sub (λ d w. next_sub (subscriptions_in w)) (λ x d token w. after_activation d token at x seconds (granted_with tag d (subscribed_with tag w))) (record s { tokens = t }) out is_next_sub new now
        (followed (λ d token w. granted_with tag d (subscribed_with tag w)) (λ d token. after_activation d token at sub seconds) (record s { tokens = t }) there new out between now
        (λ d token w. stands_grows d token at sub seconds w) first_both stands))

    pub makes_breaks : (now : List Offer) → AddsOfferPrefix there between now (λ d token. after_activation d token at sub seconds)
        → AddsOfferPrefix s out now (λ d token. after_subscription d token at key said account seconds)
    makes_breaks now breaks =
        breaks_tagged s t tag out drawn tags made_with made_with_grows now
        (breaks_so sub (λ d w. next_sub (subscriptions_in w)) (λ x d token w. after_activation d token at x seconds (granted_with tag d (subscribed_with tag w))) (record s { tokens = t }) out is_next_sub now
        (offer_prefix_added (λ d token w. granted_with tag d (subscribed_with tag w)) (λ d token. after_activation d token at sub seconds) (record s { tokens = t }) there out between now
        both_grow (λ d token w. stands_grows d token at sub seconds w) first_both breaks))

-- ---- the expiration of a subscription is set anew

module _ (at : ℕ) (key : TKey) (said : MessageView) (sub : SubNo) (s mid : Server) (out between : List Offer) (boxes : BoxesView)
    (is_refreshed : boxes ≡ with_table s.boxes (table_after_refresh sub (until_of at (granted_seconds said.parsed.expires)) s.boxes.table))
    (answers : Follows (record s { boxes = boxes }) out mid between (λ d token. with_response d token at key said (grant_response (granted_seconds said.parsed.expires)))) where
  abbrev refreshed_first : Directory → List ℕ → RunState → RunState
  refreshed_first d token w = with_response d token at key said (grant_response (granted_seconds said.parsed.expires)) (with_mailbox_op (Refreshes sub (until_of at (granted_seconds said.parsed.expires))) w)

  refreshed_first_follows : Follows s out mid between refreshed_first
  refreshed_first_follows =
      followed (λ d token. with_mailbox_op (Refreshes sub (until_of at (granted_seconds said.parsed.expires)))) (λ d token. with_response d token at key said (grant_response (granted_seconds said.parsed.expires))) s
      (record s { boxes = boxes }) mid out out between
      (λ d token w. grows_with_response d token at key said (grant_response (granted_seconds said.parsed.expires)) w)
      (notes_action (Refreshes sub (until_of at (granted_seconds said.parsed.expires))) s boxes out is_refreshed) answers

  refreshed_first_grows : (d : Directory) (token : List ℕ) (w : RunState) → Grows w (refreshed_first d token w)
  refreshed_first_grows d token w =
      let v : RunState = with_mailbox_op (Refreshes sub (until_of at (granted_seconds said.parsed.expires))) w in
      grows_on w v (refreshed_first d token w) (grows_with_mailbox_op (Refreshes sub (until_of at (granted_seconds said.parsed.expires))) w)
      (grows_with_response d token at key said (grant_response (granted_seconds said.parsed.expires)) v)

  pub refreshes_follows : (new : Server) (now : List Offer) → Follows mid between new now (λ d token. after_activation d token at sub (granted_seconds said.parsed.expires))
      → Follows s out new now (λ d token. after_refresh_by d token at key said sub None)
  refreshes_follows new now stands =
      followed refreshed_first (λ d token. after_activation d token at sub (granted_seconds said.parsed.expires)) s mid new out between now
      (λ d token w. stands_grows d token at sub (granted_seconds said.parsed.expires) w) refreshed_first_follows stands

  pub refreshes_breaks : (now : List Offer) → AddsOfferPrefix mid between now (λ d token. after_activation d token at sub (granted_seconds said.parsed.expires))
      → AddsOfferPrefix s out now (λ d token. after_refresh_by d token at key said sub None)
  refreshes_breaks now breaks =
      offer_prefix_added refreshed_first (λ d token. after_activation d token at sub (granted_seconds said.parsed.expires)) s mid out between now refreshed_first_grows
      (λ d token w. stands_grows d token at sub (granted_seconds said.parsed.expires) w) refreshed_first_follows breaks

-- ---- a request in the dialog of a subscription

-- where it is not live, nothing changes by what is received
changed_none : {A : Type 0} (is : A → Bool) (change : A → A) (xs : List A) → find is xs ≡ None → changed is change xs ≡ xs
changed_none is change [] none = refl
changed_none is change (x ∷ xs) none =
    elim (cases_Bool (is x)) [
      | inl same ↦ let some : Some x ≡ None = rw same at none in absurd (none-some x (sym some))
      | inr other ↦ rw other (ap (λ l. x ∷ l) (changed_none is change xs (rw other at none)))
    ]

receives_none : (o : Option Subscription) → option_map (λ (s : Subscription). s.leg.dialogue.peer) o ≡ None → o ≡ None
receives_none None none = refl
receives_none (Some s) none = absurd (none-some s.leg.dialogue.peer (sym none))

receives_some : (o : Option Subscription) (peer : Peer) → option_map (λ (s : Subscription). s.leg.dialogue.peer) o ≡ Some peer → is_some o ≡ true
receives_some None peer some = absurd (none-some peer some)
receives_some (Some s) peer some = refl

module _ (sub : SubNo) (m : Message Start) (s : Server) where
  pub is_live_so : (peer : Peer) → peer_of sub s.boxes.table ≡ Some peer → is_live sub s.boxes.table ≡ true
  is_live_so peer some = receives_some (subscription_numbered sub s.boxes.table) peer some

  pub receives_nothing : peer_of sub s.boxes.table ≡ None → (out : List Offer) → Follows s out s out (λ d token. with_mailbox_op (Receives sub m))
  receives_nothing none out =
      notes_action (Receives sub m) s s.boxes out
      (sym (ap (λ (l : List Subscription). with_table s.boxes (record s.boxes.table { live = l }))
      (changed_none (is_numbered sub) (subscription_after_request m) s.boxes.table.live (receives_none (subscription_numbered sub s.boxes.table) none))))

  pub says_there : (d : Directory) (token : List ℕ) (w : RunState) → Represents d token s w → request_check sub m s.boxes.table ≡ request_check sub m (subscriptions_in w)
  says_there d token w have = ap (λ (b : BoxesView). request_check sub m b.table) have.boxes

  pub says_none : peer_of sub s.boxes.table ≡ None → (d : Directory) (token : List ℕ) (w : RunState) → Represents d token s w → Ok tt ≡ request_check sub m (subscriptions_in w)
  says_none none d token w have = sym (ap (request_check_of m) (receives_none (subscription_numbered sub s.boxes.table) none)) ∙ says_there d token w have

module _ (at : ℕ) (key : TKey) (said : MessageView) (sub : SubNo) (s : Server) (r : Result (Unit {0}) DialogueFault)
    (says_so : (d : Directory) (token : List ℕ) (w : RunState) → Represents d token s w → r ≡ request_check sub (message_in said.parsed) (subscriptions_in w)) (out : List Offer) where
  -- it is out of order
  pub unordered_follows : (fault : DialogueFault) → r ≡ Err fault → (new : Server) (now : List Offer) → Follows s out new now (λ d token. with_response d token at key said (plain_response 500))
      → Follows s out new now (λ d token. after_subscription_request d token at key said sub)
  unordered_follows fault is new now follows =
      entering_so s (Follows s out new now) (follows_reads s out new now) at key said sub r says_so
      (subst (λ (x : Result (Unit {0}) DialogueFault). Follows s out new now (λ d token. after_checked_request d token at key said sub x)) (sym is) follows)

  -- it is accepted
  module _ (is : r ≡ Ok tt) (mid : Server) (hears : Follows s out mid out (λ d token. with_mailbox_op (Receives sub (message_in said.parsed)))) where
    pub enters_follows : (new : Server) (now : List Offer) → Follows mid out new now (λ d token. after_request_in_order d token at key said sub) →
        Follows s out new now (λ d token. after_subscription_request d token at key said sub)
    enters_follows new now follows =
        entering_so s (Follows s out new now) (follows_reads s out new now) at key said sub r says_so
        (subst (λ (x : Result (Unit {0}) DialogueFault). Follows s out new now (λ d token. after_checked_request d token at key said sub x)) (sym is)
        (followed (λ d token. with_mailbox_op (Receives sub (message_in said.parsed))) (λ d token. after_request_in_order d token at key said sub) s mid new out out now
        (λ d token w. enters_by_grows d token at key said sub w) hears follows))

    pub enters_breaks : (now : List Offer) → AddsOfferPrefix mid out now (λ d token. after_request_in_order d token at key said sub) →
        AddsOfferPrefix s out now (λ d token. after_subscription_request d token at key said sub)
    enters_breaks now breaks =
        entering_so s (AddsOfferPrefix s out now) (breaks_reads s out now) at key said sub r says_so
        (subst (λ (x : Result (Unit {0}) DialogueFault). AddsOfferPrefix s out now (λ d token. after_checked_request d token at key said sub x)) (sym is)
        (offer_prefix_added (λ d token. with_mailbox_op (Receives sub (message_in said.parsed))) (λ d token. after_request_in_order d token at key said sub) s mid out out now
        (λ d token w. grows_with_mailbox_op (Receives sub (message_in said.parsed)) w)
        (λ d token w. enters_by_grows d token at key said sub w) hears breaks))

-- by its method
module _ (P : (Directory → List ℕ → RunState → RunState) → Type 0) (at : ℕ) (key : TKey) (said : MessageView) (sub : SubNo) where
  pub resubscribes_so : is_method (codes "SUBSCRIBE") said.parsed.start ≡ true → P (λ d token. after_refresh_by d token at key said sub (refusal (subscribe_request_of d true said.parsed)))
      → P (λ d token. after_request_in_order d token at key said sub)
  resubscribes_so is p =
      subst (λ (b : Bool). P (λ d token w. if b then after_refresh_by d token at key said sub (refusal (subscribe_request_of d true said.parsed)) w
      else with_response d token at key said (other_response d said.parsed) w)) (sym is) p

  pub other_so : is_method (codes "SUBSCRIBE") said.parsed.start ≡ false → P (λ d token. with_response d token at key said (other_response d said.parsed)) → P (λ d token. after_request_in_order d token at key said sub)
  other_so is p =
      subst (λ (b : Bool). P (λ d token w. if b then after_refresh_by d token at key said sub (refusal (subscribe_request_of d true said.parsed)) w
      else with_response d token at key said (other_response d said.parsed) w)) (sym is) p

pub responds_to_other : (s : Server) (at : ℕ) (key : TKey) (said : MessageView) (a : StatusResponse) → a ≡ other_response s.directory said.parsed → (out : List Offer) (new : Server) (now : List Offer)
    → Follows s out new now (λ d token. with_response d token at key said a) → Follows s out new now (λ d token. with_response d token at key said (other_response d said.parsed))
responds_to_other s at key said a is out new now follows =
    follows_so a (λ d w. other_response d said.parsed) (λ x d token. with_response d token at key said x) s out
    (λ d token w have. is ∙ ap (λ (x : Directory). other_response x said.parsed) have.same_directory) new now follows

-- ---- a web request, and after its reply the NOTIFYs that it causes

module _ (law : NumbersNeverFall) (s mid : Server) (out between : List Offer) (at : ℕ) (request : ParsedRequestView) (kept : KeeperOutcomeView) (rows : List Row) (put : Option (Account × Counts))
    (replies_first : Follows s out mid between (λ d token. after_web_reply d at request kept rows)) (is_put : put ≡ counts_put_in s.directory.names request kept) where
  is_put_in : (d : Directory) (token : List ℕ) (w : RunState) → Represents d token s w → put ≡ counts_put_in d.names request kept
  is_put_in d token w have = is_put ∙ ap (λ (x : Directory). counts_put_in x.names request kept) have.same_directory

  abbrev served_with : Option (Account × Counts) → Directory → List ℕ → RunState → RunState
  served_with x d token w = after_mailbox_upload d token at x (after_web_reply d at request kept rows w)

  pub serves_follows : (new : Server) (now : List Offer) → Follows mid between new now (λ d token. after_mailbox_upload d token at put) → Follows s out new now (λ d token. after_web_request d token at request kept rows)
  serves_follows new now follows =
      follows_so put (λ d w. counts_put_in d.names request kept) served_with s out is_put_in new now
      (followed (λ d token. after_web_reply d at request kept rows) (λ d token. after_mailbox_upload d token at put) s mid new out between now (λ d token w. puts_grows d token at put w) replies_first follows)

  pub serves_breaks : (now : List Offer) → AddsOfferPrefix mid between now (λ d token. after_mailbox_upload d token at put) → AddsOfferPrefix s out now (λ d token. after_web_request d token at request kept rows)
  serves_breaks now breaks =
      breaks_so put (λ d w. counts_put_in d.names request kept) served_with s out is_put_in now
      (offer_prefix_added (λ d token. after_web_reply d at request kept rows) (λ d token. after_mailbox_upload d token at put) s mid out between now (λ d token w. serves law d token at request kept rows w)
      (λ d token w. puts_grows d token at put w) replies_first breaks)
