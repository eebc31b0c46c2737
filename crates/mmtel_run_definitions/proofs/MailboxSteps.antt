-- What holds for each elementary operation of message waiting, where it is done, and for one after another, holds for all that message waiting does in a run.
use Rattle.std.proofs.Common.{◌≡◌, ℕ, List, [], ◌∷◌, Bool, true, false, Option, Some, None, codes, refl}
use Rattle.std.specs.Prelude.{◌-◌, ◌==◌, nat_le, Ok, Err, if◌then◌else◌}
use Rattle.std.specs.declared.result.Result.{Result}
use Rattle.mmtel_compose.specs.ReceivedMessages.{MessageView}
use Rattle.mmtel_directory.specs.declared.directories.Directory.{Directory}
use Rattle.mmtel_leg.specs.declared.dialogues.DialogueFault.{DialogueFault}
use Rattle.mmtel_message.specs.Faults.{is_method}
use Rattle.mmtel_message.specs.Message.{Message}
use Rattle.mmtel_message.specs.declared.messages.Start.{Start}
use Rattle.mmtel_mwi.specs.Boxes.{is_full, next_sub, notify_request, peer_of, request_check, set_by, subscribers_of}
use Rattle.mmtel_mwi.specs.Operations.{TableOp, Responds, Ends, Receives, Puts, Refreshes, Subscribes, Notifies}
use Rattle.mmtel_mwi.specs.Subscribing.{granted_seconds, refusal}
use Rattle.mmtel_mwi.specs.declared.counts.Counts.{Counts}
use Rattle.mmtel_transaction.specs.declared.words.Emit.TheVariants as emit
use Rattle.mmtel_transaction.specs.declared.words.TKey.{TKey}
use Rattle.mmtel_types.specs.declared.numbers.Account.{Account}
use Rattle.mmtel_types.specs.declared.numbers.Peer.{Peer}
use Rattle.mmtel_types.specs.declared.numbers.SubNo.{SubNo}
use Rattle.mmtel_run_definitions.specs.OwnResponses.{plain_response, response_to}
use Rattle.mmtel_run_definitions.specs.Deadlines.{OfSubscription, PendingTimer}
use Rattle.mmtel_run_definitions.specs.Events.{message_in}
use Rattle.mmtel_run_definitions.specs.RunState.{RunState, next_tag, subscriptions_in, with_draws, with_emits, with_response, with_timer}
use Rattle.mmtel_run_definitions.specs.Records.{until_of}
use Rattle.mmtel_run_definitions.specs.Ownership.{leg_by}
use Rattle.mmtel_run_definitions.specs.Subscriptions.{after_checked_request, after_expiry, after_notify_response, after_request_in_order, after_subscription, after_subscription_for}
use Rattle.mmtel_run_definitions.specs.Subscriptions.{after_subscription_request, grant_response, is_last_set, named_mailbox, notify_emits, subscribe_request_of, with_expiry_timer, with_mailbox_op}
use Rattle.mmtel_run_definitions.specs.Subscriptions.{after_activation, after_last_notify, after_mailbox_upload, after_notify, after_notify_to_each}
use Rattle.mmtel_run_definitions.specs.Subscriptions.{after_notify_to_peer, after_refresh_by, after_subscribe, after_subscribe_by, other_response, refusal_response}

-- it sets no counts of a mailbox, and creates no subscription
abbrev pub MakesNone : TableOp → Type 0
MakesNone (Puts account counts) = ⊥
MakesNone (Subscribes account leg until) = ⊥
MakesNone (Refreshes sub until) = Unit {0}
MakesNone (Receives sub request) = Unit {0}
MakesNone (Notifies sub branch) = Unit {0}
MakesNone (Ends sub) = Unit {0}
MakesNone (Responds branch code) = Unit {0}

-- a subscriber is notified by a NOTIFY with a branch that is drawn, which is not sent yet
abbrev pub tells_in : (token : List ℕ) → SubNo → RunState → RunState
tells_in token sub w = with_mailbox_op (Notifies sub (next_tag token w)) (with_draws 1 w)

-- what is required of a relation between the states before and after, for whatever causes a NOTIFY
pub record AreSteps (d : Directory) (token : List ℕ) (at : ℕ) (R : RunState → RunState → Type 0) : Type 0 where
  pub same : (w : RunState) → R w w
  -- one after another
  pub next : (u v w : RunState) → R u v → R v w → R u w
  pub notes : (op : TableOp) (w : RunState) → MakesNone op → R w (with_mailbox_op op w)
  pub draws : (w : RunState) → R w (with_draws 1 w)
  pub arms : (armed : PendingTimer) (w : RunState) → R w (with_timer armed w)
  -- the NOTIFY of a live subscription is sent, to its peer
  pub asks : (sub : SubNo) (last : Bool) (peer : Peer) (message : Message Start) (w : RunState) → peer_of sub (subscriptions_in w) ≡ Some peer →
      notify_request d.sip sub last (next_tag token w) at (subscriptions_in w) ≡ Some message → R (tells_in token sub w) (with_emits at (emit.Ask peer message ∷ []) (tells_in token sub w))

-- for what a request causes: where this says what its refusal is, within the dialog of a subscription or outside
pub record AreResponses (d : Directory) (token : List ℕ) (at : ℕ) (R : RunState → RunState → Type 0) (key : TKey) (s : MessageView) (Of : (within : Bool) → Option ℕ → Type 0) : Type 0 where
  pub reads : (within : Bool) → Of within (refusal (subscribe_request_of d within s.parsed))
  -- a subscription is created, or its expiration is set anew, where nothing refuses the request
  pub subscribes : (account : Account) (until : ℕ) (w : RunState) → Of false None → R (with_draws 1 w) (with_mailbox_op (Subscribes account (leg_by (next_tag token w) s) until) (with_draws 1 w))
  pub grants : (op : TableOp) (seconds : ℕ) (w : RunState) → Of false None →
      R (with_mailbox_op op (with_draws 1 w)) (with_emits at (emit.Reply key (response_to d.sip (next_tag token w) s (grant_response seconds)) ∷ []) (with_mailbox_op op (with_draws 1 w)))
  pub renews : (seconds : ℕ) (w : RunState) → Of true None → R w (with_response d token at key s (grant_response seconds) w)
  -- it is refused, for what it requests or for what does not exist
  pub refuses : (within : Bool) (code : ℕ) (w : RunState) → Of within (Some code) → R w (with_response d token at key s (refusal_response code) w)
  pub denies : (code : ℕ) (w : RunState) → nat_le 300 code ≡ true → R w (with_response d token at key s (plain_response code) w)
  -- a request in the dialog of a subscription that is no SUBSCRIBE
  pub others : (w : RunState) → is_method (codes "SUBSCRIBE") s.parsed.start ≡ false → R w (with_response d token at key s (other_response d s.parsed) w)

-- what its refusal is
abbrev pub IsRefusal : Directory → MessageView → (within : Bool) → Option ℕ → Type 0
IsRefusal d s within o = refusal (subscribe_request_of d within s.parsed) ≡ o

-- a NOTIFY has a response, or none
pub answered : (R : RunState → RunState → Type 0) (same : (w : RunState) → R w w) (notes : (op : TableOp) (w : RunState) → MakesNone op → R w (with_mailbox_op op w)) (branch : Option (List ℕ)) (code : ℕ) (w : RunState) →
    R w (after_notify_response branch code w)
answered R same notes None code w = same w
answered R same notes (Some branch) code w = notes (Responds branch code) w tt

module _ (d : Directory) (token : List ℕ) (at : ℕ) (R : RunState → RunState → Type 0) (k : AreSteps d token at R) where
  -- one of two
  either : (b : Bool) (u v w : RunState) → (b ≡ true → R w u) → (b ≡ false → R w v) → R w (if b then u else v)
  either true u v w one other = one refl
  either false u v w one other = other refl

  -- ---- a NOTIFY

  asks_if : (sub : SubNo) (last : Bool) (peer : Peer) (w : RunState) → peer_of sub (subscriptions_in w) ≡ Some peer → (o : Option (Message Start)) →
      notify_request d.sip sub last (next_tag token w) at (subscriptions_in w) ≡ o → R (tells_in token sub w) (with_emits at (notify_emits peer o) (tells_in token sub w))
  asks_if sub last peer w lives None is = k.same (tells_in token sub w)
  asks_if sub last peer w lives (Some message) is = k.asks sub last peer message w lives is

  tells_peer : (sub : SubNo) (last : Bool) (o : Option Peer) (w : RunState) → peer_of sub (subscriptions_in w) ≡ o → R w (after_notify_to_peer d token at sub last o w)
  tells_peer sub last None w lives = k.same w
  tells_peer sub last (Some peer) w lives =
      let drawn : RunState = with_draws 1 w in
      let noted : RunState = tells_in token sub w in
      k.next w noted (after_notify_to_peer d token at sub last (Some peer) w) (k.next w drawn noted (k.draws w) (k.notes (Notifies sub (next_tag token w)) drawn tt))
      (asks_if sub last peer w lives (notify_request d.sip sub last (next_tag token w) at (subscriptions_in w)) refl)

  pub tells : (sub : SubNo) (last : Bool) (w : RunState) → R w (after_notify d token at sub last w)
  tells sub last w = tells_peer sub last (peer_of sub (subscriptions_in w)) w refl

  pub tells_last : (sub : SubNo) (w : RunState) → R w (after_last_notify d token at sub w)
  tells_last sub w = let told : RunState = after_notify d token at sub true w in k.next w told (after_last_notify d token at sub w) (tells sub true w) (k.notes (Ends sub) told tt)

  -- ---- an upload, and the expiration of a subscription

  pub tells_each : (subs : List SubNo) (w : RunState) → R w (after_notify_to_each d token at subs w)
  tells_each [] w = k.same w
  tells_each (sub ∷ subs) w =
      let told : RunState = after_notify d token at sub false w in k.next w told (after_notify_to_each d token at subs told) (tells sub false w) (tells_each subs told)

  pub puts : ((account : Account) (counts : Counts) (w : RunState) → R w (with_mailbox_op (Puts account counts) w)) → (o : Option (Account × Counts)) (w : RunState) → R w (after_mailbox_upload d token at o w)
  puts says None w = k.same w
  puts says (Some put) w =
      let noted : RunState = with_mailbox_op (Puts put.0 put.1) w in
      k.next w noted (after_mailbox_upload d token at (Some put) w) (says put.0 put.1 w) (tells_each (subscribers_of put.0 (subscriptions_in w)) noted)

  pub ends : (sub : SubNo) (set : ℕ) (w : RunState) → R w (after_expiry d token at sub set w)
  ends sub set w = either (is_last_set set (set_by sub (subscriptions_in w))) (after_last_notify d token at sub w) w w (λ is. tells_last sub w) (λ is. k.same w)

  -- ---- a SUBSCRIBE

  pub arms_until : (sub : SubNo) (set : Option ℕ) (until : ℕ) (w : RunState) → R w (with_expiry_timer sub set until w)
  arms_until sub None until w = k.same w
  arms_until sub (Some set) until w = k.arms (record { timer = OfSubscription sub set; at = until; step = w.steps - 1 }) w

  pub stands : (sub : SubNo) (seconds : ℕ) (w : RunState) → R w (after_activation d token at sub seconds w)
  stands sub seconds w =
      let told : RunState = after_notify d token at sub false w in
      let armed : RunState = with_expiry_timer sub (set_by sub (subscriptions_in w)) (until_of at seconds) told in
      either (seconds == 0) (after_last_notify d token at sub w) armed w (λ is. tells_last sub w)
      (λ is. k.next w told armed (tells sub false w) (arms_until sub (set_by sub (subscriptions_in w)) (until_of at seconds) told))

  module _ (key : TKey) (s : MessageView) (Of : (within : Bool) → Option ℕ → Type 0) (a : AreResponses d token at R key s Of) where
    pub makes : (account : Account) (seconds : ℕ) (w : RunState) → Of false None → R w (after_subscription d token at key s account seconds w)
    makes account seconds w may =
        let drawn : RunState = with_draws 1 w in
        let op : TableOp = Subscribes account (leg_by (next_tag token w) s) (until_of at seconds) in
        let noted : RunState = with_mailbox_op op drawn in
        let granted : RunState = with_emits at (emit.Reply key (response_to d.sip (next_tag token w) s (grant_response seconds)) ∷ []) noted in
        k.next w granted (after_subscription d token at key s account seconds w)
        (k.next w noted granted (k.next w drawn noted (k.draws w) (a.subscribes account (until_of at seconds) w may)) (a.grants op seconds w may))
        (stands (next_sub (subscriptions_in w)) seconds granted)

    pub makes_for : (o : Option Account) (w : RunState) → Of false None → R w (after_subscription_for d token at key s o w)
    makes_for None w may = a.denies 403 w refl
    makes_for (Some account) w may =
        either (is_full (subscriptions_in w)) (with_response d token at key s (plain_response 503) w) (after_subscription d token at key s account (granted_seconds s.parsed.expires) w) w
        (λ is. a.denies 503 w refl) (λ is. makes account (granted_seconds s.parsed.expires) w may)

    pub subscribes_by : (o : Option ℕ) (w : RunState) → Of false o → R w (after_subscribe_by d token at key s o w)
    subscribes_by None w may = makes_for (named_mailbox d s.parsed) w may
    subscribes_by (Some code) w may = a.refuses false code w may

    pub subscribes : (w : RunState) → R w (after_subscribe d token at key s w)
    subscribes w = subscribes_by (refusal (subscribe_request_of d false s.parsed)) w (a.reads false)

    -- ---- a request in the dialog of a subscription

    pub refreshes : (sub : SubNo) (o : Option ℕ) (w : RunState) → Of true o → R w (after_refresh_by d token at key s sub o w)
    refreshes sub (Some code) w may = a.refuses true code w may
    refreshes sub None w may =
        let seconds : ℕ = granted_seconds s.parsed.expires in
        let noted : RunState = with_mailbox_op (Refreshes sub (until_of at seconds)) w in
        let replied : RunState = with_response d token at key s (grant_response seconds) noted in
        k.next w replied (after_refresh_by d token at key s sub None w)
        (k.next w noted replied (k.notes (Refreshes sub (until_of at seconds)) w tt) (a.renews seconds noted may)) (stands sub seconds replied)

    pub enters_by : (sub : SubNo) (w : RunState) → R w (after_request_in_order d token at key s sub w)
    enters_by sub w =
        either (is_method (codes "SUBSCRIBE") s.parsed.start) (after_refresh_by d token at key s sub (refusal (subscribe_request_of d true s.parsed)) w)
        (with_response d token at key s (other_response d s.parsed) w) w (λ is. refreshes sub (refusal (subscribe_request_of d true s.parsed)) w (a.reads true)) (λ is. a.others w is)

    pub enters_if : (sub : SubNo) (r : Result (Unit {0}) DialogueFault) (w : RunState) → R w (after_checked_request d token at key s sub r w)
    enters_if sub (Err fault) w = a.denies 500 w refl
    enters_if sub (Ok done) w =
        let noted : RunState = with_mailbox_op (Receives sub (message_in s.parsed)) w in
        k.next w noted (after_request_in_order d token at key s sub noted) (k.notes (Receives sub (message_in s.parsed)) w tt) (enters_by sub noted)

    pub enters : (sub : SubNo) (w : RunState) → R w (after_subscription_request d token at key s sub w)
    enters sub w = enters_if sub (request_check sub (message_in s.parsed) (subscriptions_in w)) w
