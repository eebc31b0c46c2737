-- What message waiting leaves unchanged in a state: all but mailboxes, transactions, timers, the numbers drawn and the outputs.
use Rattle.std.proofs.Common.{◌≡◌, ℕ, List, [], ◌∷◌, refl, ◌∙◌, Option}
use Rattle.mmtel_compose.specs.ReceivedMessages.{MessageView}
use Rattle.mmtel_directory.specs.declared.directories.Directory.{Directory}
use Rattle.mmtel_mwi.specs.Operations.{TableOp}
use Rattle.mmtel_mwi.specs.declared.counts.Counts.{Counts}
use Rattle.mmtel_transaction.specs.declared.words.Emit.{Emit}
use Rattle.mmtel_transaction.specs.declared.words.Emit.TheVariants as emit
use Rattle.mmtel_transaction.specs.declared.words.TKey.{TKey}
use Rattle.mmtel_types.specs.declared.numbers.Account.{Account}
use Rattle.mmtel_types.specs.declared.numbers.SubNo.{SubNo}
use Rattle.mmtel_run_definitions.specs.OwnResponses.{StatusResponse}
use Rattle.mmtel_run_definitions.specs.Deadlines.{PendingTimer}
use Rattle.mmtel_run_definitions.specs.RunState.{RunState, with_draws, with_emit, with_emits, with_response, with_timer}
use Rattle.mmtel_run_definitions.specs.Subscriptions.{after_expiry, after_mailbox_upload, after_notify_response, after_subscribe, after_subscription_request, with_mailbox_op}
use Rattle.mmtel_run_definitions.proofs.MailboxTransitions as words

pub record Stays (v w : RunState) : Type 0 where
  pub clock : v.clock ≡ w.clock
  pub steps : v.steps ≡ w.steps
  pub call_ops : v.call_ops ≡ w.call_ops
  pub conference_ops : v.conference_ops ≡ w.conference_ops
  pub texts : v.texts ≡ w.texts
  pub registrations : v.registrations ≡ w.registrations
  pub waiting : v.waiting ≡ w.waiting
  pub filed : v.filed ≡ w.filed

-- the later state is the second argument
abbrev Leaves : RunState → RunState → Type 0
Leaves w v = Stays v w

here : (w : RunState) → Leaves w w
here w = record { clock = refl; steps = refl; call_ops = refl; conference_ops = refl; texts = refl; registrations = refl; waiting = refl; filed = refl }

both : (u v w : RunState) → Leaves u v → Leaves v w → Leaves u w
both u v w one other = record {
  clock = other.clock ∙ one.clock;
  steps = other.steps ∙ one.steps;
  call_ops = other.call_ops ∙ one.call_ops;
  conference_ops = other.conference_ops ∙ one.conference_ops;
  texts = other.texts ∙ one.texts;
  registrations = other.registrations ∙ one.registrations;
  waiting = other.waiting ∙ one.waiting;
  filed = other.filed ∙ one.filed;
}

emit_stays : (at : ℕ) (x : Emit) (w : RunState) → Leaves w (with_emit at x w)
emit_stays at (emit.Ask peer message) w = record { clock = refl; steps = refl; call_ops = refl; conference_ops = refl; texts = refl; registrations = refl; waiting = refl; filed = refl }
emit_stays at (emit.Reply key message) w = record { clock = refl; steps = refl; call_ops = refl; conference_ops = refl; texts = refl; registrations = refl; waiting = refl; filed = refl }
emit_stays at (emit.Plain peer text) w = record { clock = refl; steps = refl; call_ops = refl; conference_ops = refl; texts = refl; registrations = refl; waiting = refl; filed = refl }
emit_stays at (emit.Ack key message) w = record { clock = refl; steps = refl; call_ops = refl; conference_ops = refl; texts = refl; registrations = refl; waiting = refl; filed = refl }
emit_stays at (emit.Settled key own) w = record { clock = refl; steps = refl; call_ops = refl; conference_ops = refl; texts = refl; registrations = refl; waiting = refl; filed = refl }
emit_stays at (emit.Arm call what when) w = record { clock = refl; steps = refl; call_ops = refl; conference_ops = refl; texts = refl; registrations = refl; waiting = refl; filed = refl }
emit_stays at (emit.ArmSeat room seat what when) w = record { clock = refl; steps = refl; call_ops = refl; conference_ops = refl; texts = refl; registrations = refl; waiting = refl; filed = refl }

with_emits_stays : (at : ℕ) (xs : List Emit) (w : RunState) → Leaves w (with_emits at xs w)
with_emits_stays at [] w = here w
with_emits_stays at (x ∷ xs) w = both w (with_emit at x w) (with_emits at xs (with_emit at x w)) (emit_stays at x w) (with_emits_stays at xs (with_emit at x w))

with_mailbox_op_stays : (op : TableOp) (w : RunState) → Leaves w (with_mailbox_op op w)
with_mailbox_op_stays op w = record { clock = refl; steps = refl; call_ops = refl; conference_ops = refl; texts = refl; registrations = refl; waiting = refl; filed = refl }

with_draws_stays : (w : RunState) → Leaves w (with_draws 1 w)
with_draws_stays w = record { clock = refl; steps = refl; call_ops = refl; conference_ops = refl; texts = refl; registrations = refl; waiting = refl; filed = refl }

with_timer_stays : (armed : PendingTimer) (w : RunState) → Leaves w (with_timer armed w)
with_timer_stays armed w = record { clock = refl; steps = refl; call_ops = refl; conference_ops = refl; texts = refl; registrations = refl; waiting = refl; filed = refl }

with_response_stays : (d : Directory) (token : List ℕ) (at : ℕ) (key : TKey) (s : MessageView) (answer : StatusResponse) (w : RunState) → Leaves w (with_response d token at key s answer w)
with_response_stays d token at key s answer w =
    record { clock = refl; steps = refl; call_ops = refl; conference_ops = refl; texts = refl; registrations = refl; waiting = refl; filed = refl }

pub answered_stays : (branch : Option (List ℕ)) (code : ℕ) (w : RunState) → Stays (after_notify_response branch code w) w
answered_stays = words.answered Leaves both here with_mailbox_op_stays

module _ (d : Directory) (token : List ℕ) (at : ℕ) where
  pub after_subscribe_stays : (key : TKey) (s : MessageView) (w : RunState) → Stays (after_subscribe d token at key s w) w
  after_subscribe_stays = words.subscribes Leaves both here with_mailbox_op_stays d token at with_draws_stays (with_emits_stays at) with_timer_stays (with_response_stays d token at)

  pub entering_stays : (key : TKey) (s : MessageView) (sub : SubNo) (w : RunState) → Stays (after_subscription_request d token at key s sub w) w
  entering_stays = words.enters Leaves both here with_mailbox_op_stays d token at with_draws_stays (with_emits_stays at) with_timer_stays (with_response_stays d token at)

  pub after_mailbox_upload_stays : (o : Option (Account × Counts)) (w : RunState) → Stays (after_mailbox_upload d token at o w) w
  after_mailbox_upload_stays = words.puts Leaves both here with_mailbox_op_stays d token at with_draws_stays (with_emits_stays at) with_timer_stays (with_response_stays d token at)

  pub due_stays : (sub : SubNo) (set : ℕ) (w : RunState) → Stays (after_expiry d token at sub set w) w
  due_stays = words.ends Leaves both here with_mailbox_op_stays d token at with_draws_stays (with_emits_stays at) with_timer_stays (with_response_stays d token at)
