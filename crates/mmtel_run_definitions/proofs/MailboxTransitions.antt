-- What holds for each elementary operation, wherever it is done, and for one after another, holds for all that message waiting does in a run.
use Rattle.std.proofs.Common.{ℕ, List, [], ◌∷◌, Bool, Option, Some, None}
use Rattle.std.specs.declared.result.Result.{Result}
use Rattle.mmtel_compose.specs.ReceivedMessages.{MessageView}
use Rattle.mmtel_directory.specs.declared.directories.Directory.{Directory}
use Rattle.mmtel_leg.specs.declared.dialogues.DialogueFault.{DialogueFault}
use Rattle.mmtel_mwi.specs.Boxes.{notify_request}
use Rattle.mmtel_mwi.specs.Operations.{Notifies, Puts, Subscribes, TableOp}
use Rattle.mmtel_mwi.specs.declared.counts.Counts.{Counts}
use Rattle.mmtel_transaction.specs.declared.words.Emit.{Emit}
use Rattle.mmtel_transaction.specs.declared.words.Emit.TheVariants as emit
use Rattle.mmtel_transaction.specs.declared.words.TKey.{TKey}
use Rattle.mmtel_types.specs.declared.numbers.Account.{Account}
use Rattle.mmtel_types.specs.declared.numbers.Peer.{Peer}
use Rattle.mmtel_types.specs.declared.numbers.SubNo.{SubNo}
use Rattle.mmtel_run_definitions.specs.OwnResponses.{StatusResponse, plain_response, response_to}
use Rattle.mmtel_run_definitions.specs.Deadlines.{PendingTimer}
use Rattle.mmtel_run_definitions.specs.RunState.{RunState, next_tag, subscriptions_in, with_draws, with_emits, with_response, with_timer}
use Rattle.mmtel_run_definitions.specs.Ownership.{leg_by}
use Rattle.mmtel_run_definitions.specs.Subscriptions.{after_checked_request, after_expiry, after_notify_response, after_request_in_order, after_subscription, after_subscription_for}
use Rattle.mmtel_run_definitions.specs.Subscriptions.{after_subscription_request, grant_response, notify_emits, other_response, with_expiry_timer, with_mailbox_op}
use Rattle.mmtel_run_definitions.specs.Subscriptions.{after_activation, after_last_notify, after_mailbox_upload, after_notify, after_notify_to_each}
use Rattle.mmtel_run_definitions.specs.Subscriptions.{after_notify_to_peer, after_refresh_by, after_subscribe, after_subscribe_by, refusal_response}
use Rattle.mmtel_run_definitions.proofs.MailboxSteps as steps
use Rattle.mmtel_run_definitions.proofs.MailboxSteps.{AreResponses, AreSteps, tells_in}

module _ (R : RunState → RunState → Type 0) (then : (u v w : RunState) → R u v → R v w → R u w) (same : (w : RunState) → R w w)
    (notes : (op : TableOp) (w : RunState) → R w (with_mailbox_op op w)) where
  pub answered : (branch : Option (List ℕ)) (code : ℕ) (w : RunState) → R w (after_notify_response branch code w)
  answered = steps.answered R same (λ op w none. notes op w)

  module _ (d : Directory) (token : List ℕ) (at : ℕ) (draws : (w : RunState) → R w (with_draws 1 w)) (emits : (xs : List Emit) (w : RunState) → R w (with_emits at xs w))
      (arms : (armed : PendingTimer) (w : RunState) → R w (with_timer armed w)) (replies : (key : TKey) (s : MessageView) (answer : StatusResponse) (w : RunState) → R w (with_response d token at key s answer w)) where
    are_steps : AreSteps d token at R
    are_steps = record {
      same = same;
      next = then;
      notes = λ op w none. notes op w;
      draws = draws;
      arms = arms;
      asks = λ sub last peer message w lives is. emits (emit.Ask peer message ∷ []) (tells_in token sub w);
    }

    are_answers : (key : TKey) (s : MessageView) → AreResponses d token at R key s (λ within o. Unit {0})
    are_answers key s = record {
      reads = λ within. tt;
      subscribes = λ account until w may. notes (Subscribes account (leg_by (next_tag token w) s) until) (with_draws 1 w);
      grants = λ op seconds w may. emits (emit.Reply key (response_to d.sip (next_tag token w) s (grant_response seconds)) ∷ []) (with_mailbox_op op (with_draws 1 w));
      renews = λ seconds w may. replies key s (grant_response seconds) w;
      refuses = λ within code w may. replies key s (refusal_response code) w;
      denies = λ code w above. replies key s (plain_response code) w;
      others = λ w no. replies key s (other_response d s.parsed) w;
    }

    -- ---- a NOTIFY

    pub tells_peer : (sub : SubNo) (last : Bool) (o : Option Peer) (w : RunState) → R w (after_notify_to_peer d token at sub last o w)
    tells_peer sub last None w = same w
    tells_peer sub last (Some peer) w =
        let drawn : RunState = with_draws 1 w in
        let noted : RunState = tells_in token sub w in
        then w noted (after_notify_to_peer d token at sub last (Some peer) w) (then w drawn noted (draws w) (notes (Notifies sub (next_tag token w)) drawn))
        (emits (notify_emits peer (notify_request d.sip sub last (next_tag token w) at (subscriptions_in w))) noted)

    pub tells : (sub : SubNo) (last : Bool) (w : RunState) → R w (after_notify d token at sub last w)
    tells = steps.tells d token at R are_steps

    pub tells_last : (sub : SubNo) (w : RunState) → R w (after_last_notify d token at sub w)
    tells_last = steps.tells_last d token at R are_steps

    pub tells_each : (subs : List SubNo) (w : RunState) → R w (after_notify_to_each d token at subs w)
    tells_each = steps.tells_each d token at R are_steps

    -- ---- a SUBSCRIBE

    pub arms_until : (sub : SubNo) (set : Option ℕ) (until : ℕ) (w : RunState) → R w (with_expiry_timer sub set until w)
    arms_until = steps.arms_until d token at R are_steps

    pub stands : (sub : SubNo) (seconds : ℕ) (w : RunState) → R w (after_activation d token at sub seconds w)
    stands = steps.stands d token at R are_steps

    pub makes : (key : TKey) (s : MessageView) (account : Account) (seconds : ℕ) (w : RunState) → R w (after_subscription d token at key s account seconds w)
    makes key s account seconds w = steps.makes d token at R are_steps key s (λ within o. Unit {0}) (are_answers key s) account seconds w tt

    pub makes_for : (key : TKey) (s : MessageView) (o : Option Account) (w : RunState) → R w (after_subscription_for d token at key s o w)
    makes_for key s o w = steps.makes_for d token at R are_steps key s (λ within o. Unit {0}) (are_answers key s) o w tt

    pub subscribes_by : (key : TKey) (s : MessageView) (o : Option ℕ) (w : RunState) → R w (after_subscribe_by d token at key s o w)
    subscribes_by key s o w = steps.subscribes_by d token at R are_steps key s (λ within o. Unit {0}) (are_answers key s) o w tt

    pub subscribes : (key : TKey) (s : MessageView) (w : RunState) → R w (after_subscribe d token at key s w)
    subscribes key s = steps.subscribes d token at R are_steps key s (λ within o. Unit {0}) (are_answers key s)

    -- ---- a request in the dialog of a subscription

    pub refreshes : (key : TKey) (s : MessageView) (sub : SubNo) (o : Option ℕ) (w : RunState) → R w (after_refresh_by d token at key s sub o w)
    refreshes key s sub o w = steps.refreshes d token at R are_steps key s (λ within o. Unit {0}) (are_answers key s) sub o w tt

    pub enters_by : (key : TKey) (s : MessageView) (sub : SubNo) (w : RunState) → R w (after_request_in_order d token at key s sub w)
    enters_by key s = steps.enters_by d token at R are_steps key s (λ within o. Unit {0}) (are_answers key s)

    pub enters_if : (key : TKey) (s : MessageView) (sub : SubNo) (r : Result (Unit {0}) DialogueFault) (w : RunState) → R w (after_checked_request d token at key s sub r w)
    enters_if key s = steps.enters_if d token at R are_steps key s (λ within o. Unit {0}) (are_answers key s)

    pub enters : (key : TKey) (s : MessageView) (sub : SubNo) (w : RunState) → R w (after_subscription_request d token at key s sub w)
    enters key s = steps.enters d token at R are_steps key s (λ within o. Unit {0}) (are_answers key s)

    -- ---- an upload, and the expiration of a subscription

    pub puts : (o : Option (Account × Counts)) (w : RunState) → R w (after_mailbox_upload d token at o w)
    puts = steps.puts d token at R are_steps (λ account counts w. notes (Puts account counts) w)

    pub ends : (sub : SubNo) (set : ℕ) (w : RunState) → R w (after_expiry d token at sub set w)
    ends = steps.ends d token at R are_steps
