-- The ACKs of a 2xx that the calls of a table relay: each that was received in a call, with the dialog of its other side as it was then (RFC 3261 §13.2.2.4).
use Rattle.std.specs.Prelude.{Option, Some, None, List, [], ◌∷◌, ◌++◌}
use Rattle.mmtel_compose.specs.ReceivedMessages.{MessageView}
use Rattle.mmtel_b2bua.specs.Operations.{Drops, Finishes, Receives, Releases, Restores, TableOp, table_after}
use Rattle.mmtel_b2bua.specs.Detaching.{entry_of}
use Rattle.mmtel_b2bua.specs.declared.entries.Entry.{Entry}
use Rattle.mmtel_b2bua.specs.declared.signals.Signal.{Signal}
use Rattle.mmtel_b2bua.specs.declared.signals.Signal.TheVariants as signal
use Rattle.mmtel_call_services.specs.CallConfig.{CallConfigView}
use Rattle.mmtel_call_theorems.specs.NoInjection.Acks.{ReceivedAck, received_acks_in}
use Rattle.mmtel_types.specs.declared.sides.Side.{Side}

-- in the call of a number, if it is in the table
abbrev pub acked_at : CallConfigView → Side → MessageView → Option Entry → List ReceivedAck
acked_at config side ack None = []
acked_at config side ack (Some e) = received_acks_in config e.call.phase e.call side ack

abbrev pub acked_of : CallConfigView → Signal → List Entry → List ReceivedAck
acked_of config (signal.Arrived key invite served registration identities) es = []
acked_of config (signal.Request call side key request) es = []
acked_of config (signal.Ack call side ack) es = acked_at config side ack (entry_of call.0 es)
acked_of config (signal.Cancel call key cancel invite) es = []
acked_of config (signal.Answer key response) es = []
acked_of config (signal.Silent branch method) es = []
acked_of config (signal.Due call what) es = []
acked_of config (signal.Over key) es = []

abbrev pub acked_by : CallConfigView → TableOp → List Entry → List ReceivedAck
acked_by config (Receives x) es = acked_of config x.signal es
acked_by config (Releases number side) es = []
acked_by config (Restores number away) es = []
acked_by config (Finishes number at tokens) es = []
acked_by config (Drops count) es = []

-- in all operations, the newest first
abbrev pub acked_after : CallConfigView → List TableOp → List ReceivedAck
acked_after config [] = []
acked_after config (op ∷ earlier) = acked_by config op (table_after config earlier).entries ++ acked_after config earlier
