-- The observable part of what is sent: untrusted peers see it whole, and of what is sent to a trusted one the transactions read its head, and the number of a reliable response
-- (RFC 3261 §17.1.3, §17.2.3, RFC 3262 §3).
use Rattle.std.specs.Prelude.{◌≡◌, ℕ, Bool, Option, List, map}
use Rattle.mmtel_output.specs.declared.outputs.StepOutput.{StepOutput}
use Rattle.mmtel_message.specs.Texts.{message_text}
use Rattle.mmtel_transaction.specs.Heads.{head_of, reliable_number}
use Rattle.mmtel_transaction.specs.Equivalence.{blank_if}
use Rattle.mmtel_transaction.specs.declared.heads.Head.{Head}
use Rattle.mmtel_transaction.specs.declared.words.Emit.{Emit}
use Rattle.mmtel_transaction.specs.declared.words.Emit.TheVariants as emit
use Rattle.mmtel_transaction.specs.declared.words.TKey.{TKey}
use Rattle.mmtel_types.specs.declared.numbers.Peer.{Peer}
use Rattle.mmtel_call_services.specs.CallConfig.{CallConfigView, trusts}
use Rattle.mmtel_call.specs.Closing.{StepResult}
use Rattle.mmtel_call_theorems.specs.Noninterference.PublicCall.{public_part}

-- what the server trusts: the peers, and the transactions, each by its peer
pub record Trust : Type 0 where
  pub peer : Peer → Bool
  pub key : TKey → Bool

pub data Observation : Type 0 where
  RequestSent : (peer : Peer) → Head → (text : List ℕ) → Observation
  ResponseSent : (key : TKey) → Head → (number : Option ℕ) → (text : List ℕ) → Observation
  TextSent : (peer : Peer) → (text : List ℕ) → Observation
  AckSent : (key : TKey) → (text : List ℕ) → Observation
  -- which reliable responses are not retransmitted, and deadlines, are wholly observable
  Settled : (key : TKey) → (own : Option ℕ) → Observation
  Armed : Emit → Observation

abbrev pub observation : Trust → Emit → Observation
observation t (emit.Ask peer m) = RequestSent peer (head_of m) (blank_if (t.peer peer) (message_text m))
observation t (emit.Reply key m) = ResponseSent key (head_of m) (reliable_number m) (blank_if (t.key key) (message_text m))
observation t (emit.Plain peer text) = TextSent peer (blank_if (t.peer peer) text)
observation t (emit.Ack key m) = AckSent key (blank_if (t.key key) (message_text m))
observation t (emit.Settled key own) = Settled key own
observation t (emit.Arm call what at) = Armed (emit.Arm call what at)
observation t (emit.ArmSeat room seat what at) = Armed (emit.ArmSeat room seat what at)

abbrev pub observations : Trust → List Emit → List Observation
observations t out = map (observation t) out

-- the output in which this is in the place of what was sent
abbrev pub with_out : List Emit → StepOutput → StepOutput
with_out out output = record output { out = out }

-- two outputs with the same observable part: as many tokens were drawn, and the same CDRs filed
pub record EquivalentOutputs (t : Trust) (one other : StepOutput) : Type 0 where
  pub tokens : one.tokens ≡ other.tokens
  pub rows : one.rows ≡ other.rows
  pub out : observations t one.out ≡ observations t other.out

-- two steps after which the calls have the same public part, and with the same observable output
pub record EquivalentSteps (t : Trust) (one other : StepResult) : Type 0 where
  pub call : public_part t.peer one.call ≡ public_part t.peer other.call
  pub output : EquivalentOutputs t one.output other.output

-- by the configuration: its peers, and these transactions
abbrev pub trust_of : CallConfigView → (TKey → Bool) → Trust
trust_of config key = record { peer = trusts config; key = key }
