-- Runs within the range of the counters: fewer than 2^60 steps, operations on a layer and numbers drawn. At one per nanosecond such a run takes 36 years.
use Rattle.std.specs.Prelude.{◌≡◌, ◌<◌, ◌≤◌, ◌^◌, ℕ, List, length}
use Rattle.mmtel_b2bua.specs.Operations.{ReceivedSignal, TableOp, step_on_finish, step_on_receive_after, table_after}
use Rattle.mmtel_call_services.specs.CallConfig.{CallConfigView}
use Rattle.mmtel_directory.specs.declared.directories.Directory.{Directory}
use Rattle.mmtel_focus.specs.Operations as rooms
use Rattle.mmtel_focus.specs.ConferenceConfig as focus
use Rattle.mmtel_records_in_force.specs.Texts.{Texts}
use Rattle.mmtel_transaction.specs.Tokens.{TokensView}
use Rattle.mmtel_run_definitions.specs.Events.{EventRecord}
use Rattle.mmtel_run_definitions.specs.Run.{IsEnough, state_after}
use Rattle.mmtel_run_definitions.specs.Transitions.{RunState}

pub record IsShort (state : RunState) : Type 0 where
  pub actions : length state.actions < 2 ^ 60
  pub steps : state.steps < 2 ^ 60
  pub drawn : state.drawn < 2 ^ 60

-- of the whole run with these events, after which every timer that was due has fired
abbrev pub IsShortRun : Directory → (token : List ℕ) → (loaded : Texts) → List EventRecord → Type 0
IsShortRun directory token loaded recorded =
    (fuel : ℕ) → IsEnough directory token loaded fuel recorded → IsShort (state_after directory token loaded fuel recorded)

-- ---- the count of drawn numbers never decreases

-- tokens of the same text, whose count of drawn numbers did not decrease, as long as it is not too great
pub record DrawsOn (before after : TokensView) : Type 0 where
  pub same : after.token ≡ before.token
  pub on : after.drawn < 2 ^ 60 → before.drawn ≤ after.drawn

-- this holds for whatever calls receive, and where a call ends without its leg
abbrev pub CallsDrawOn : Type 0
CallsDrawOn = (config : CallConfigView) (ops : List TableOp) (received : ReceivedSignal) → DrawsOn received.tokens (step_on_receive_after config ops received).output.tokens

abbrev pub CallsEndOn : Type 0
CallsEndOn = (config : CallConfigView) (ops : List TableOp) (number at : ℕ) (tokens : TokensView) →
    DrawsOn tokens (step_on_finish config number at tokens (table_after config ops)).output.tokens

-- the tokens that an operation on the conferences gets
abbrev pub tokens_of_op : rooms.TableOp → TokensView
tokens_of_op (rooms.Opens coming) = coming.tokens
tokens_of_op (rooms.Joins room coming) = coming.tokens
tokens_of_op (rooms.Adopts room adoption) = adoption.tokens
tokens_of_op (rooms.Notifies room seat code tokens) = tokens
tokens_of_op (rooms.Receives received) = received.tokens
tokens_of_op (rooms.Leaves room seat) = rooms.no_tokens
tokens_of_op (rooms.Closes room) = rooms.no_tokens
tokens_of_op (rooms.Drops count) = rooms.no_tokens

-- and for whatever is done on conferences
abbrev pub ConferencesDrawOn : Type 0
ConferencesDrawOn = (config : focus.ConferenceConfigView) (ops : List rooms.TableOp) (op : rooms.TableOp) →
    DrawsOn (tokens_of_op op) (rooms.effects_after config ops op).output.tokens
