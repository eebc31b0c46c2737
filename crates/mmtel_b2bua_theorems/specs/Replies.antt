-- In which server transactions the calls of a table reply: each in those of its own requests, which are the INVITE that opened it and those that it receives (RFC 3261 §8.2.6,
-- §17.2). The set of these transactions is a parameter.
use Rattle.std.specs.Prelude.{◌≡◌, true, ℕ, Bool, Some, List}
use Rattle.mmtel_call_theorems.specs.NoInjection.Emits.{Each}
use Rattle.mmtel_call_theorems.specs.Replies.{IsRepliedIn, SignalIsOf}
use Rattle.mmtel_call_theorems.specs.CallTrace.{TraceStart}
use Rattle.mmtel_call_services.specs.CallConfig.{CallConfigView}
use Rattle.mmtel_b2bua.specs.Operations.{TableOp}
use Rattle.mmtel_b2bua_theorems.specs.TracesOfTables.{HasNumbers, emits_of, trace_of}
use Rattle.mmtel_b2bua_theorems.specs.TracesWithTransfers.{CallEvent, CallTraceWithTransfers, Finishes, Receives, Releases, Restores, emits_after}

-- a request that it receives is of these, and so is each reply that was in the output before
abbrev pub EventIsOf : (own : ℕ → Bool) → CallEvent → Type 0
EventIsOf own (Receives x) = SignalIsOf own x.signal × Each (IsRepliedIn own) x.output.out
EventIsOf own (Releases side) = Unit {0}
EventIsOf own (Restores away) = Unit {0}
EventIsOf own (Finishes at output) = Each (IsRepliedIn own) output.out

-- and the INVITE that opened it
pub record TraceIsOf (own : ℕ → Bool) (s : TraceStart) (events : List CallEvent) : Type 0 where
  pub opening : own s.arrival.key.0 ≡ true
  pub output : Each (IsRepliedIn own) s.output.out
  pub events_in : Each (EventIsOf own) events

-- so each reply in its whole trace is in them
abbrev pub TracesReplyInTheirOwn : Type 0
TracesReplyInTheirOwn = (own : ℕ → Bool) (s : TraceStart) (events : List CallEvent) → TraceIsOf own s events → Each (IsRepliedIn own) (emits_after s events)

-- and each reply that is sent in the operations of the call of a number
abbrev pub CallsReplyInTheirOwn : Type 0
CallsReplyInTheirOwn = (own : ℕ → Bool) (config : CallConfigView) (ops : List TableOp) (number : ℕ) (trace : CallTraceWithTransfers) →
    HasNumbers config ops → trace_of config number ops ≡ Some trace →
    TraceIsOf own trace.start trace.events → Each (IsRepliedIn own) (emits_of config number ops)
