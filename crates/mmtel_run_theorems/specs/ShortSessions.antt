-- Which requests the server itself refuses with 422, since the session that they ask for is too short: an INVITE or UPDATE that opens a transaction, where no earlier refusal
-- applies, and no other; and that it has no effect but its response (RFC 4028 §5, §6; RFC 3261 §8.2).
use Rattle.std.specs.Prelude.{◌≡◌, ◌&&◌, ◌||◌, not, ℕ, Bool, true, false, List, [], Option, codes, is_none, is_some, Err}
use Rattle.mmtel_compose.specs.ReceivedMessages.{MessageView}
use Rattle.mmtel_directory.specs.declared.directories.Directory.{Directory}
use Rattle.mmtel_message.specs.Faults.{is_method}
use Rattle.mmtel_session.specs.Intervals.{check}
use Rattle.mmtel_session.specs.declared.intervals.SessionFault.TheVariants.{Small}
use Rattle.mmtel_transaction.specs.Operations.{live}
use Rattle.mmtel_transaction.specs.Results.{is_merged}
use Rattle.mmtel_transaction.specs.declared.words.TKey.{TKey}
use Rattle.mmtel_trust.specs.ParsedMessage.{ParsedMessage}
use Rattle.mmtel_run_definitions.specs.OwnResponses.{StatusResponse, interval_too_small, unsupported_options}
use Rattle.mmtel_run_definitions.specs.Refusals.{Respond, disposition, is_foreign, is_known_method, is_last_hop}
use Rattle.mmtel_run_definitions.specs.Ownership.{DialogOwner, dialog_owner_of}
use Rattle.mmtel_run_definitions.specs.Transitions.{RunState, after_new_request, calls_in, conferences_in, subscriptions_in, with_response}

-- session timers are switched on, it is an INVITE or UPDATE, and it asks for a session of less than the minimum interval
pub record RequestsShortSession (directory : Directory) (message : ParsedMessage) : Type 0 where
  pub timer : directory.timer ≡ true
  pub method : (is_method (codes "INVITE") message.start || is_method (codes "UPDATE") message.start) ≡ true
  pub interval : ℕ
  pub small : check message.session ≡ Err (Small interval)

-- no refusal applies that comes before: its method is known, its Request-URI is of no foreign scheme, it has hops left, its dialog exists where it names one, it was not
-- merged, and what it requires is supported. `merged`: another live transaction has its From tag, Call-ID and CSeq; `named`: its dialog is that of a call or participant
pub record IsElseAccepted (directory : Directory) (merged named : Bool) (message : ParsedMessage) : Type 0 where
  pub known : is_known_method directory message.start ≡ true
  pub scheme : is_foreign message.start ≡ false
  pub hops : is_last_hop message.hops ≡ false
  pub dialog : (is_some message.to_tag && not named) ≡ false
  pub once : (is_none message.to_tag && merged) ≡ false
  pub options : unsupported_options directory message ≡ []

-- all but the outputs, the operations on transactions and the numbers drawn is unchanged: the calls, the conferences and the mailboxes, so also the last CSeq numbers of their
-- dialogs, the timers, records, registrations and CDRs
pub record LeavesAll (before after : RunState) : Type 0 where
  pub calls : after.call_ops ≡ before.call_ops
  pub conferences : after.conference_ops ≡ before.conference_ops
  pub mailboxes : after.mailbox_ops ≡ before.mailbox_ops
  pub pending_timers : after.pending_timers ≡ before.pending_timers
  pub texts : after.texts ≡ before.texts
  pub registrations : after.registrations ≡ before.registrations
  pub waiting : after.waiting ≡ before.waiting
  pub filed : after.filed ≡ before.filed

-- in this state a request that opened this transaction has no other ground of refusal than the session that it asks for
abbrev pub IsElseAcceptedIn : Directory → RunState → TKey → MessageView → Type 0
IsElseAcceptedIn directory state key message =
    IsElseAccepted directory (is_merged key.0 (live state.actions))
    (is_some (dialog_owner_of message.parsed (calls_in directory state).entries (conferences_in directory state).live (subscriptions_in state))) message.parsed

pub record ShortSessionsAreRefused : Type 0 where
  -- such a request gets 422, with the minimum interval,
  pub refused : (directory : Directory) (merged full : Bool) (named : Option DialogOwner) (message : ParsedMessage) → RequestsShortSession directory message →
      IsElseAccepted directory merged (is_some named) message → disposition directory merged full named message ≡ Respond interval_too_small
  -- and no other is refused so
  pub alone : (directory : Directory) (merged full : Bool) (named : Option DialogOwner) (message : ParsedMessage) (answer : StatusResponse) →
      disposition directory merged full named message ≡ Respond answer → answer.code ≡ 422 →
      RequestsShortSession directory message × IsElseAccepted directory merged (is_some named) message × (answer ≡ interval_too_small)
  -- in every state it gets that response, which is its only effect,
  pub answered : (directory : Directory) (token : List ℕ) (at : ℕ) (key : TKey) (received : MessageView) (state : RunState) → RequestsShortSession directory received.parsed →
      IsElseAcceptedIn directory state key received →
      after_new_request directory token at key received state ≡ with_response directory token at key received interval_too_small state
  -- and leaves all else unchanged
  pub leaves : (directory : Directory) (token : List ℕ) (at : ℕ) (key : TKey) (received : MessageView) (answer : StatusResponse) (state : RunState) →
      LeavesAll state (with_response directory token at key received answer state)
