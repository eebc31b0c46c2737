-- The state of a run, layer by layer, and the elementary operations of which all others are made. For each layer it has the list of operations on it, never a table: what was
-- opened, is live, is due or waits is a function of that list. For the records it has the text of each account, the last one that was stored (`specs/InForce`).
use Rattle.std.specs.Prelude.{ℕ, ◌+◌, ◌-◌, Bool, List, [], ◌∷◌, ◌++◌, Option, Some, None}
use Rattle.mmtel_compose.specs.ReceivedMessages.{MessageView}
use Rattle.mmtel_b2bua.specs.Operations.{TableOp}
use Rattle.mmtel_b2bua.specs.Tables.{Table}
use Rattle.mmtel_charging.specs.declared.rows.Row.{Row}
use Rattle.mmtel_directory.specs.declared.directories.Directory.{Directory}
use Rattle.mmtel_focus.specs.Operations as rooms
use Rattle.mmtel_focus.specs.Table as tables
use Rattle.mmtel_message.specs.Message.{Message}
use Rattle.mmtel_message.specs.Texts.{message_text}
use Rattle.mmtel_message.specs.declared.messages.Start.{Start}
use Rattle.mmtel_environment.specs.declared.events.Offer.{Offer}
use Rattle.mmtel_environment.specs.declared.events.Offer.TheVariants as offer
use Rattle.mmtel_base.specs.Numbers.{token_text}
use Rattle.mmtel_sheet_values.specs.View.{is_registered}
use Rattle.mmtel_sheet_values.specs.declared.values.Sheet.{Sheet}
use Rattle.mmtel_transaction.specs.Results.{peer_of}
use Rattle.mmtel_transaction.specs.Operations.{TransactionOp, DidAsk, DidReply, DidAck, DidSettle, live}
use Rattle.mmtel_transaction.specs.Tokens.{TokensView}
use Rattle.mmtel_transaction.specs.declared.words.Emit.{Emit}
use Rattle.mmtel_transaction.specs.declared.words.Emit.TheVariants as emit
use Rattle.mmtel_transaction.specs.declared.words.TKey.{TKey}
use Rattle.mmtel_trust.specs.ParsedMessage.{ParsedMessage}
use Rattle.mmtel_types.specs.declared.addrs.Addr.{Addr}
use Rattle.mmtel_types.specs.declared.numbers.Account.{Account}
use Rattle.mmtel_types.specs.declared.numbers.Peer.{Peer}
use Rattle.mmtel_records_in_force.specs.Texts.{Texts, put_each, record_of, registration_end_at}
use Rattle.mmtel_run_definitions.specs.OwnResponses.{StatusResponse, completed_reply, response_to, tag_for, tags_due, to_tag_in}
use Rattle.mmtel_run_definitions.specs.Calls.{calls_after}
use Rattle.mmtel_run_definitions.specs.Deadlines.{OfCall, OfParticipant, PendingTimer}
use Rattle.mmtel_run_definitions.specs.Ownership.{DialogOwner, conferences_after, dialog_owner_of}
use Rattle.mmtel_mwi.specs.Boxes as mailboxes
use Rattle.mmtel_mwi.specs.Operations as boxes

-- a list for each layer
pub record RunState : Type 0 where
  -- the greatest moment so far
  pub clock : ℕ
  -- how many events came and timers fired
  pub steps : ℕ
  -- the operations on the transactions, the newest first
  pub actions : List TransactionOp
  -- how many numbers were drawn
  pub drawn : ℕ
  -- the operations on the calls, and on the conferences, the newest first
  pub call_ops : List TableOp
  pub conference_ops : List rooms.TableOp
  -- the operations on mailboxes and on the subscriptions to them, the newest first
  pub mailbox_ops : List boxes.TableOp
  -- the timers of calls, of participants and of subscriptions that did not fire, in the order in which they were armed
  pub pending_timers : List PendingTimer
  -- the text that was loaded or stored last for each account that has one
  pub texts : Texts
  -- the accounts that were registered, each until a moment, the newest registration first
  pub registrations : List (Account × ℕ)
  -- the CDRs that were closed and that the keeper did not accept, in order, and those that it accepted
  pub waiting : List Row
  pub filed : List Row
  -- all outputs, in order
  pub offers : List Offer

-- the initial state: no operation yet; these texts were loaded
abbrev pub initial_state : (loaded : Texts) → RunState
initial_state loaded = record {
  clock = 0;
  steps = 0;
  actions = [];
  drawn = 0;
  call_ops = [];
  conference_ops = [];
  mailbox_ops = [];
  pending_timers = [];
  texts = put_each loaded [];
  registrations = [];
  waiting = [];
  filed = [];
  offers = [];
}

-- ---- what is in force

-- the record of an account
abbrev pub record_in_force : RunState → Account → Sheet
record_in_force state account = record_of state.texts account

-- whether an account is registered at a moment
abbrev pub is_registered_in : RunState → Account → ℕ → Bool
is_registered_in state account now = is_registered (registration_end_at state.registrations account) now

-- ---- calls, conferences and mailboxes

-- in their current state
abbrev pub calls_in : Directory → RunState → Table
calls_in directory state = calls_after directory state.call_ops

abbrev pub conferences_in : Directory → RunState → tables.Table
conferences_in directory state = conferences_after directory state.conference_ops

abbrev pub subscriptions_in : RunState → mailboxes.Table
subscriptions_in state = boxes.table_after state.mailbox_ops

-- the owner of the dialog that a message names
abbrev pub dialog_owner_in : Directory → ParsedMessage → RunState → Option DialogOwner
dialog_owner_in directory message state = dialog_owner_of message (calls_in directory state).entries (conferences_in directory state).live (subscriptions_in state)

-- ---- elementary operations

abbrev pub with_offers : List Offer → RunState → RunState
with_offers offers state = record state { offers = state.offers ++ offers }

abbrev pub with_action : TransactionOp → RunState → RunState
with_action act state = record state { actions = act ∷ state.actions }

abbrev pub with_draws : ℕ → RunState → RunState
with_draws count state = record state { drawn = state.drawn + count }

abbrev pub with_timer : PendingTimer → RunState → RunState
with_timer armed state = record state { pending_timers = state.pending_timers ++ armed ∷ [] }

-- to the peer of a live transaction
abbrev pub to_peer : ℕ → List ℕ → Option Peer → List Offer
to_peer at text None = []
to_peer at text (Some peer) = offer.To peer at text ∷ []

-- a command of a layer, at a moment: whatever is output for one goes through here
abbrev pub with_emit : ℕ → Emit → RunState → RunState
with_emit at (emit.Ask peer message) state = with_offers (offer.To peer at (message_text message) ∷ []) (with_action (DidAsk peer message at) state)
with_emit at (emit.Reply key message) state = with_offers (to_peer at (message_text message) (peer_of key.0 (live state.actions))) (with_action (DidReply key.0 message at) state)
with_emit at (emit.Plain peer text) state = with_offers (offer.To peer at text ∷ []) state
with_emit at (emit.Ack key message) state = with_offers (to_peer at (message_text message) (peer_of key.0 (live state.actions))) (with_action (DidAck key.0 message) state)
with_emit at (emit.Settled key own) state = with_action (DidSettle key.0 own) state
with_emit at (emit.Arm call what when) state = with_timer (record { timer = OfCall call what; at = when; step = state.steps - 1 }) state
with_emit at (emit.ArmSeat room seat what when) state = with_timer (record { timer = OfParticipant room seat what; at = when; step = state.steps - 1 }) state

abbrev pub with_emits : ℕ → List Emit → RunState → RunState
with_emits at [] state = state
with_emits at (emit ∷ emits) state = with_emits at emits (with_emit at emit state)

-- the tokens, of which so many numbers were drawn
abbrev pub tokens_now : (token : List ℕ) → RunState → TokensView
tokens_now token state = record { token = token; drawn = state.drawn }

-- the tag or branch that is drawn next
abbrev pub next_tag : (token : List ℕ) → RunState → List ℕ
next_tag token state = token_text token (state.drawn + 1)

-- ---- responses

-- a response in a transaction, with a tag of the server where To has none
abbrev pub with_response : Directory → (token : List ℕ) → ℕ → TKey → MessageView → StatusResponse → RunState → RunState
with_response directory token at key message answer state =
    with_emits at (emit.Reply key (response_to directory.sip (tag_for token state.drawn message.parsed.to_tag) message answer) ∷ [])
    (with_draws (tags_due message.parsed.to_tag) state)

-- a response without one
abbrev pub with_stateless_response : Directory → (token : List ℕ) → ℕ → MessageView → StatusResponse → RunState → RunState
with_stateless_response directory token at message answer state =
    with_emits at (emit.Plain message.peer (message_text (response_to directory.sip (tag_for token state.drawn message.parsed.to_tag) message answer)) ∷ [])
    (with_draws (tags_due message.parsed.to_tag) state)

-- the reply to bytes of a peer that were refused as they were read
abbrev pub with_refusal_of_bytes : (token : List ℕ) → ℕ → Peer → Addr → Message Start → RunState → RunState
with_refusal_of_bytes token at peer source reply state =
    with_emits at (emit.Plain peer (message_text (completed_reply (tag_for token state.drawn (to_tag_in reply.lines)) source reply)) ∷ [])
    (with_draws (tags_due (to_tag_in reply.lines)) state)
