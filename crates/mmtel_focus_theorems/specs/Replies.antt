-- The server transactions in which conferences respond: that of the request that is received, or of the INVITE by which a party joins, at once (RFC 3261 §8.2.6, §17.2).
use Rattle.std.specs.Prelude.{◌≡◌, true, ℕ, Bool}
use Rattle.mmtel_call_theorems.specs.NoInjection.Emits.{Each}
use Rattle.mmtel_call_theorems.specs.Replies.{IsRepliedIn}
use Rattle.mmtel_focus.specs.Operations.{TableOp, Opens, Joins, Adopts, Notifies, Receives, Leaves, Closes, Drops, effects_of}
use Rattle.mmtel_focus.specs.ConferenceConfig.{ConferenceConfigView}
use Rattle.mmtel_focus.specs.Table.{Table}
use Rattle.mmtel_focus.specs.declared.signals.RoomSignal.{RoomSignal}
use Rattle.mmtel_focus.specs.declared.signals.RoomSignal.TheVariants as signal

-- a request that is received is of these transactions
abbrev pub SignalIsOf : (own : ℕ → Bool) → RoomSignal → Type 0
SignalIsOf own (signal.Request room seat key request) = own key.0 ≡ true
SignalIsOf own (signal.Ack room seat ack) = Unit {0}
SignalIsOf own (signal.Answer key response) = Unit {0}
SignalIsOf own (signal.Silent branch method) = Unit {0}
SignalIsOf own (signal.Due room seat what) = Unit {0}
SignalIsOf own (signal.Over key) = Unit {0}

abbrev pub OpIsOf : (own : ℕ → Bool) → TableOp → Type 0
OpIsOf own (Opens coming) = own coming.key.0 ≡ true
OpIsOf own (Joins room coming) = own coming.key.0 ≡ true
OpIsOf own (Adopts room adoption) = Unit {0}
OpIsOf own (Notifies room seat code tokens) = Unit {0}
OpIsOf own (Receives received) = SignalIsOf own received.signal
OpIsOf own (Leaves room seat) = Unit {0}
OpIsOf own (Closes room) = Unit {0}
OpIsOf own (Drops count) = Unit {0}

-- so each response of the operation is in them, in any state of the conferences; they keep no request to respond to it later
abbrev pub ConferencesReplyInTheirOwn : Type 0
ConferencesReplyInTheirOwn = (own : ℕ → Bool) (config : ConferenceConfigView) (op : TableOp) (table : Table) → OpIsOf own op →
    Each (IsRepliedIn own) (effects_of config op table).output.out
