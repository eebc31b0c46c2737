-- The effect of an operation of the server, whichever state it represents.
use Rattle.std.specs.Prelude.{◌≡◌, ◌≤◌, ℕ, List, ◌∷◌, ◌++◌, ⊤, length}
use Rattle.mmtel_b2bua.specs.Operations.{Drops, Finishes, Receives, TableOp, step_on_finish, step_on_receive_after}
use Rattle.mmtel_b2bua.specs.declared.signals.Signal.{Signal}
use Rattle.mmtel_output.specs.declared.outputs.StepOutput.{StepOutput}
use Rattle.mmtel_directory.specs.declared.directories.Directory.{Directory}
use Rattle.mmtel_focus.specs.Operations as rooms
use Rattle.mmtel_message.specs.Message.{Message}
use Rattle.mmtel_message.specs.declared.messages.Start.{Start}
use Rattle.mmtel_environment.specs.declared.events.Offer.{Offer}
use Rattle.mmtel_run_definitions.specs.Calls.{call_config}
use Rattle.mmtel_run_definitions.specs.Events.{EventRecord, moment_of, timed_event_of}
use Rattle.mmtel_run_definitions.specs.Run.{IsSettled, after_event_in_order, clock_at}
use Rattle.mmtel_run_definitions.specs.ShortRuns.{CallsDrawOn, CallsEndOn, ConferencesDrawOn, IsShort}
use Rattle.mmtel_run_definitions.specs.Transitions.{RunState, calls_in, output_of_conference_op, received_now, tokens_now}
use Rattle.mmtel_transaction.specs.declared.words.Due.{Due}
use Rattle.mmtel_transaction.specs.declared.words.Emit.{Emit}
use Rattle.mmtel_transaction.specs.declared.words.Due.TheVariants as due
use Rattle.mmtel_transaction.specs.declared.words.Heard.{Heard}
use Rattle.mmtel_transaction.specs.declared.words.Heard.TheVariants as heard
use Rattle.mmtel_types.specs.declared.numbers.CallNo.{CallNo}
use Rattle.mmtel_server.specs.Representation.{IsPrefixBetween, RepresentsWithOffers}
use Rattle.mmtel_server.specs.declared.servers.Server.{Server}

-- ---- calls and conferences

-- whatever is done on them, the count of drawn numbers never decreases
pub record NumbersNeverFall : Type 0 where
  pub calls : CallsDrawOn
  pub ends : CallsEndOn
  pub conferences : ConferencesDrawOn

-- the state after this operation on the calls, with its CDRs removed from them; none of its commands is executed yet
abbrev pub after_call_operation : TableOp → StepOutput → RunState → RunState
after_call_operation op output state =
    record state { call_ops = Drops (length output.rows) ∷ op ∷ state.call_ops; drawn = output.tokens.drawn; waiting = state.waiting ++ output.rows }

-- the same for the conferences, for an operation that draws no number, and for one that draws some
abbrev pub after_conference_operation : rooms.TableOp → StepOutput → RunState → RunState
after_conference_operation op output state = record state { conference_ops = rooms.Drops (length output.rows) ∷ op ∷ state.conference_ops; waiting = state.waiting ++ output.rows }

abbrev pub after_conference_draw : rooms.TableOp → StepOutput → RunState → RunState
after_conference_draw op output state = after_conference_operation op output (record state { drawn = output.tokens.drawn })

-- whichever state it represented, it represents the state after, and these commands are to be executed
abbrev pub Performs : Server → Server → (output : Directory → List ℕ → RunState → StepOutput) → (there : Directory → List ℕ → RunState → RunState) → List Emit → Type 0
Performs old new output there emits =
    (directory : Directory) (token : List ℕ) (before out : List Offer) (state : RunState) → RepresentsWithOffers directory token before old out state →
    (emits ≡ (output directory token state).out) × RepresentsWithOffers directory token before new out (there directory token state)

-- the output for a signal that the calls receive, and for the end of a call whose leg is detached
abbrev pub output_of_signal : Directory → (token : List ℕ) → ℕ → Signal → RunState → StepOutput
output_of_signal directory token at signal state = (step_on_receive_after (call_config directory) state.call_ops (received_now token at signal state)).output

abbrev pub output_at_end : Directory → (token : List ℕ) → ℕ → CallNo → RunState → StepOutput
output_at_end directory token at call state = (step_on_finish (call_config directory) call.0 at (tokens_now token state) (calls_in directory state)).output

abbrev pub CallsReceive : Server → Server → ℕ → Signal → List Emit → Type 0
CallsReceive old new at signal emits =
    Performs old new (λ d token. output_of_signal d token at signal)
    (λ d token state. after_call_operation (Receives (received_now token at signal state)) (output_of_signal d token at signal state) state) emits

abbrev pub CallEnds : Server → Server → ℕ → CallNo → List Emit → Type 0
CallEnds old new at call emits =
    Performs old new (λ d token. output_at_end d token at call)
    (λ d token state. after_call_operation (Finishes call.0 at (tokens_now token state)) (output_at_end d token at call state) state) emits

-- an operation on the conferences that draws no number, or one that may draw some
abbrev pub ConferencesOpen : Server → Server → (Directory → List ℕ → RunState → rooms.TableOp) → List Emit → Type 0
ConferencesOpen old new op emits =
    Performs old new (λ d token state. output_of_conference_op d (op d token state) state)
    (λ d token state. after_conference_operation (op d token state) (output_of_conference_op d (op d token state) state) state) emits

abbrev pub ConferencesPerform : Server → Server → (Directory → List ℕ → RunState → rooms.TableOp) → List Emit → Type 0
ConferencesPerform old new op emits =
    Performs old new (λ d token state. output_of_conference_op d (op d token state) state)
    (λ d token state. after_conference_draw (op d token state) (output_of_conference_op d (op d token state) state) state) emits

-- ---- operations

-- it represents the state after this operation
abbrev pub Follows : Server → List Offer → Server → List Offer → (Directory → List ℕ → RunState → RunState) → Type 0
Follows old out new now op =
    (directory : Directory) (token : List ℕ) (before : List Offer) (state : RunState) →
    RepresentsWithOffers directory token before old out state → IsShort (op directory token state) → RepresentsWithOffers directory token before new now (op directory token state)

-- a prefix of the outputs of the operation was added
abbrev pub AddsOfferPrefix : Server → List Offer → List Offer → (Directory → List ℕ → RunState → RunState) → Type 0
AddsOfferPrefix old out now op =
    (directory : Directory) (token : List ℕ) (before : List Offer) (state : RunState) →
    RepresentsWithOffers directory token before old out state → IsShort (op directory token state) → IsPrefixBetween out now (before ++ (op directory token state).offers)

-- the same, for states of which this is true
abbrev pub FollowsWhere : Server → List Offer → Server → List Offer → (Directory → List ℕ → RunState → Type 0) → (Directory → List ℕ → RunState → RunState) → Type 0
FollowsWhere old out new now P op =
    (directory : Directory) (token : List ℕ) (before : List Offer) (state : RunState) →
    RepresentsWithOffers directory token before old out state → P directory token state → IsShort (op directory token state) →
    RepresentsWithOffers directory token before new now (op directory token state)

abbrev pub AddsOfferPrefixWhere : Server → List Offer → List Offer → (Directory → List ℕ → RunState → Type 0) → (Directory → List ℕ → RunState → RunState) → Type 0
AddsOfferPrefixWhere old out now P op =
    (directory : Directory) (token : List ℕ) (before : List Offer) (state : RunState) →
    RepresentsWithOffers directory token before old out state → P directory token state → IsShort (op directory token state) →
    IsPrefixBetween out now (before ++ (op directory token state).offers)

-- so many firings of timers are enough until a moment
abbrev pub IsSettledBy : ℕ → ℕ → Directory → List ℕ → RunState → Type 0
IsSettledBy fuel now directory token state = IsSettled directory token fuel now state

-- and before this event
abbrev pub IsSettledBefore : ℕ → EventRecord → Directory → List ℕ → RunState → Type 0
IsSettledBefore fuel one directory token state = IsSettled directory token fuel (clock_at state (moment_of one.event)) state

-- the timers that are due by it, and then the event
abbrev pub state_after_event : ℕ → EventRecord → Directory → List ℕ → RunState → RunState
state_after_event fuel one directory token state = after_event_in_order directory token fuel (timed_event_of directory one) state

-- the moment of what a timer of a transaction causes is not after this one
abbrev pub IsDueBy : ℕ → Due → Type 0
IsDueBy now (due.Again peer at text) = ⊤
IsDueBy now (due.Silent key branch method at) = at ≤ now
IsDueBy now (due.Over key at) = at ≤ now
IsDueBy now due.Nothing = ⊤

-- how the transactions classify a message: the message is returned where more is done with it
abbrev pub IsMessageOf : Message Start → Heard → Type 0
IsMessageOf message (heard.Fresh key given) = given ≡ message
IsMessageOf message (heard.Answer key given) = given ≡ message
IsMessageOf message (heard.Repeat sent) = ⊤
IsMessageOf message (heard.Acked key) = ⊤
IsMessageOf message (heard.Cancel key invite given) = given ≡ message
IsMessageOf message (heard.AckOf2xx given) = given ≡ message
IsMessageOf message heard.Stray = ⊤
