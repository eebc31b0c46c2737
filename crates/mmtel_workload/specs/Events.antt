-- The inputs of the server in a workload: the events of so many calls by a salt.
use Rattle.std.specs.Prelude.{ℕ, zero, suc, ◌+◌, ◌*◌, List, [], ◌∷◌, ◌++◌, map}
use Rattle.mmtel_environment.specs.declared.events.Event.{Event}
use Rattle.mmtel_environment.specs.declared.events.Event.TheVariants.{Datagram}
use Rattle.mmtel_types.specs.declared.addrs.Addr.{Addr}
use Rattle.mmtel_workload.specs.declared.calls.Call.{Call}
use Rattle.mmtel_workload.specs.declared.kinds.CallMessage.{CallMessage}
use Rattle.mmtel_workload.specs.declared.kinds.CallMessage.TheVariants as act
use Rattle.mmtel_workload.specs.declared.kinds.Kind.{Kind}
use Rattle.mmtel_workload.specs.declared.kinds.Kind.TheVariants.{Answered, Diverted, Busy, Cancelled}
use Rattle.mmtel_workload.specs.Kinds.{drawn_before, kind_by, messages_of, value_of}
use Rattle.mmtel_workload.specs.Messages.{message_text}

-- the addresses of the two peers: the core, from which alice's requests come, and the other network
abbrev pub core_addr : Addr
core_addr = record { ip = 127 ∷ 0 ∷ 0 ∷ 1 ∷ []; port = 5071 }

abbrev pub far_addr : Addr
far_addr = record { ip = 127 ∷ 0 ∷ 0 ∷ 1 ∷ []; port = 5072 }

-- where the responses come from: where she reaches the other network, from there
abbrev pub responses_from : Kind → Addr
responses_from Answered = core_addr
responses_from Diverted = far_addr
responses_from Busy = core_addr
responses_from Cancelled = core_addr

abbrev pub source_of : Kind → CallMessage → Addr
source_of kind act.Invite = core_addr
source_of kind act.Ringing = responses_from kind
source_of kind act.OkToInvite = responses_from kind
source_of kind act.AckOfOk = core_addr
source_of kind act.Bye = core_addr
source_of kind act.OkToBye = responses_from kind
source_of kind act.BusyHere = responses_from kind
source_of kind act.AckOfRefusal = core_addr
source_of kind act.Cancel = core_addr
source_of kind act.OkToCancel = responses_from kind
source_of kind act.RequestTerminated = responses_from kind

-- the input of an action: call `k` begins at 10,000 `k` milliseconds
abbrev pub event_of : Call → (ℕ × CallMessage) → Event
event_of call step = Datagram (source_of call.kind step.1) (call.number * 10000 + step.0) (message_text call step.1)

-- the inputs of a call
abbrev pub events_of : Call → List Event
events_of call = map (event_of call) (messages_of call.kind)

-- the call after so many, by the salt
abbrev pub call_after : (salt before : ℕ) → Call
call_after salt before = record { number = before + 1; kind = kind_by (value_of salt (suc before)); drawn = drawn_before salt before }

-- the inputs of so many calls, by the salt
abbrev pub work_events : (calls salt : ℕ) → List Event
work_events zero salt = []
work_events (suc before) salt = work_events before salt ++ events_of (call_after salt before)
