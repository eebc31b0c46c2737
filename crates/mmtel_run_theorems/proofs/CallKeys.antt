-- Calls are opened and receive requests by server transactions of their own, of a greater number than those before, so fewer are opened than there are transactions.
use Rattle.std.proofs.Common.{◌≡◌, ℕ, ◌+◌, ◌≤◌, ◌<◌, List, [], ◌∷◌, length, refl, sym, subst, arith, length-append, le_trans}
use Rattle.std.proofs.lemmas.Bool.{ne_eqb}
use Rattle.mmtel_b2bua.specs.Operations.{Drops, Finishes, ReceivedSignal, Receives, Releases, Restores, TableOp, table_after}
use Rattle.mmtel_b2bua.specs.Tables.{opened_after}
use Rattle.mmtel_b2bua.specs.declared.signals.Signal.{Signal}
use Rattle.mmtel_b2bua.specs.declared.signals.Signal.TheVariants as signal
use Rattle.mmtel_b2bua_theorems.specs.TracesOfTables.{HasOwnKey, HaveOwnKeys, IsOtherOp, OpensOther}
use Rattle.mmtel_call_services.specs.CallConfig.{CallConfigView}
use Rattle.mmtel_call_theorems.specs.NoInjection.Emits.{Each}
use Rattle.mmtel_leg.specs.declared.legs.Released.{Released}
use Rattle.mmtel_message.specs.Message.{Message}
use Rattle.mmtel_message.specs.declared.messages.Start.{Start}
use Rattle.mmtel_transaction.specs.Operations.{TransactionOp, DidAck, DidAsk, DidBegin, DidFire, DidSettle, DidHear, DidReply, opened_on_receipt, send_count, openings, opens, step_of}
use Rattle.mmtel_transaction.specs.declared.message_class.MessageClass.{MessageClass}
use Rattle.mmtel_transaction.specs.declared.message_class.MessageClass.TheVariants as part
use Rattle.mmtel_transaction.specs.declared.words.TKey.{TKey}
use Rattle.mmtel_transaction.specs.Tokens.{TokensView}
use Rattle.mmtel_types.specs.declared.numbers.Peer.{Peer}
use Rattle.mmtel_types.specs.declared.sides.Side.{Side}

-- ---- how many transactions were opened

abbrev pub keys : List TransactionOp → ℕ
keys h = length (openings h)

-- at most one by one operation
one-received : (step key : ℕ) (p : Peer) (m : Message Start) (now : ℕ) (taken : MessageClass) → length (opened_on_receipt step key p m now taken) ≤ 1
one-received step key p m now part.Fresh = omega arith
one-received step key p m now part.Full = omega arith
one-received step key p m now (part.Repeat k) = omega arith
one-received step key p m now (part.RepeatedFinal k) = omega arith
one-received step key p m now (part.Answer k) = omega arith
one-received step key p m now (part.Acked k) = omega arith
one-received step key p m now part.AckOf2xx = omega arith
one-received step key p m now part.Stray = omega arith

one-more : (step order key : ℕ) (x : TransactionOp) → length (opens step order key x) ≤ 1
one-more step order key (DidBegin n) = omega arith
one-more step order key (DidHear p m now taken) = one-received step key p m now taken
one-more step order key (DidAsk p m now) = omega arith
one-more step order key (DidReply k m now) = omega arith
one-more step order key (DidAck k m) = omega arith
one-more step order key (DidFire k) = omega arith
one-more step order key (DidSettle k own) = omega arith

pub keys_grow : (x : TransactionOp) (h : List TransactionOp) → keys h ≤ keys (x ∷ h)
keys_grow x h = omega (arith, length-append (openings h) (opens (step_of h) (send_count h) (length (openings h)) x))

pub keys_few : (h : List TransactionOp) → keys h ≤ length h
keys_few [] = omega arith
keys_few (x ∷ h) =
    omega (arith, keys_few h, length-append (openings h) (opens (step_of h) (send_count h) (length (openings h)) x), one-more (step_of h) (send_count h) (length (openings h)) x)

-- a request that is new opens one
pub keys_fresh : (p : Peer) (m : Message Start) (now : ℕ) (h : List TransactionOp) → keys (DidHear p m now part.Fresh ∷ h) ≡ keys h + 1
keys_fresh p m now h = length-append (openings h) (opens (step_of h) (send_count h) (length (openings h)) (DidHear p m now part.Fresh))

-- ---- operations of which each opens or requests by a server transaction of its own, of so many

abbrev pub OpensBelow : ℕ → Signal → Type 0
OpensBelow n (signal.Arrived key invite served registration identities) = key.0 < n
OpensBelow n (signal.Request call side key request) = key.0 < n
OpensBelow n (signal.Ack call side ack) = Unit {0}
OpensBelow n (signal.Cancel call key cancel invite) = key.0 < n
OpensBelow n (signal.Answer key response) = Unit {0}
OpensBelow n (signal.Silent branch method) = Unit {0}
OpensBelow n (signal.Due call what) = Unit {0}
OpensBelow n (signal.Over key) = Unit {0}

abbrev pub IsBelow : ℕ → TableOp → Type 0
IsBelow n (Receives x) = OpensBelow n x.signal
IsBelow n (Releases number side) = Unit {0}
IsBelow n (Restores number away) = Unit {0}
IsBelow n (Finishes number at tokens) = Unit {0}
IsBelow n (Drops count) = Unit {0}

-- and its number is greater than those before
abbrev pub IsAbove : Signal → List TableOp → Type 0
IsAbove (signal.Arrived key invite served registration identities) older = Each (IsBelow key.0) older
IsAbove (signal.Request call side key request) older = Each (IsBelow key.0) older
IsAbove (signal.Ack call side ack) older = Unit {0}
IsAbove (signal.Cancel call key cancel invite) older = Each (IsBelow key.0) older
IsAbove (signal.Answer key response) older = Unit {0}
IsAbove (signal.Silent branch method) older = Unit {0}
IsAbove (signal.Due call what) older = Unit {0}
IsAbove (signal.Over key) older = Unit {0}

abbrev pub IsAboveOlder : TableOp → List TableOp → Type 0
IsAboveOlder (Receives x) older = IsAbove x.signal older
IsAboveOlder (Releases number side) older = Unit {0}
IsAboveOlder (Restores number away) older = Unit {0}
IsAboveOlder (Finishes number at tokens) older = Unit {0}
IsAboveOlder (Drops count) older = Unit {0}

abbrev pub Rises : List TableOp → Type 0
Rises [] = Unit {0}
Rises (op ∷ older) = IsAboveOlder op older × Rises older

pub record Keyed (config : CallConfigView) (n : ℕ) (ops : List TableOp) : Type 0 where
  pub opened : (table_after config ops).opened ≤ n
  pub below : Each (IsBelow n) ops
  pub rises : Rises ops
  pub own : HaveOwnKeys ops

-- ---- of more transactions

signal-below : (n m : ℕ) (s : Signal) → n ≤ m → OpensBelow n s → OpensBelow m s
signal-below n m (signal.Arrived key invite served registration identities) le h = omega (arith, le, h)
signal-below n m (signal.Request call side key request) le h = omega (arith, le, h)
signal-below n m (signal.Ack call side ack) le h = tt
signal-below n m (signal.Cancel call key cancel invite) le h = omega (arith, le, h)
signal-below n m (signal.Answer key response) le h = tt
signal-below n m (signal.Silent branch method) le h = tt
signal-below n m (signal.Due call what) le h = tt
signal-below n m (signal.Over key) le h = tt

op-below : (n m : ℕ) (op : TableOp) → n ≤ m → IsBelow n op → IsBelow m op
op-below n m (Receives x) le h = signal-below n m x.signal le h
op-below n m (Releases number side) le h = tt
op-below n m (Restores number away) le h = tt
op-below n m (Finishes number at tokens) le h = tt
op-below n m (Drops count) le h = tt

pub all_below : (n m : ℕ) (ops : List TableOp) → n ≤ m → Each (IsBelow n) ops → Each (IsBelow m) ops
all_below n m [] le h = tt
all_below n m (op ∷ ops) le h = (op-below n m op le h.0, all_below n m ops le h.1)

pub more_keyed : (config : CallConfigView) (n m : ℕ) (ops : List TableOp) → n ≤ m → Keyed config n ops → Keyed config m ops
more_keyed config n m ops le k = record { opened = le_trans k.opened le; below = all_below n m ops le k.below; rises = k.rises; own = k.own }

-- ---- another transaction than those

signal-other : (n : ℕ) (key : TKey) (s : Signal) → key.0 ≡ n → OpensBelow n s → OpensOther key s
signal-other n key (signal.Arrived other invite served registration identities) is h = ne_eqb key.0 other.0 (λ e. omega (arith, e, is, h))
signal-other n key (signal.Request call side other request) is h = tt
signal-other n key (signal.Ack call side ack) is h = tt
signal-other n key (signal.Cancel call other cancel invite) is h = tt
signal-other n key (signal.Answer other response) is h = tt
signal-other n key (signal.Silent branch method) is h = tt
signal-other n key (signal.Due call what) is h = tt
signal-other n key (signal.Over other) is h = tt

op-other : (n : ℕ) (key : TKey) (op : TableOp) → key.0 ≡ n → IsBelow n op → IsOtherOp key op
op-other n key (Receives x) is h = signal-other n key x.signal is h
op-other n key (Releases number side) is h = tt
op-other n key (Restores number away) is h = tt
op-other n key (Finishes number at tokens) is h = tt
op-other n key (Drops count) is h = tt

pub all_other : (n : ℕ) (key : TKey) (ops : List TableOp) → key.0 ≡ n → Each (IsBelow n) ops → Each (IsOtherOp key) ops
all_other n key [] is h = tt
all_other n key (op ∷ ops) is h = (op-other n key op is h.0, all_other n key ops is h.1)

-- ---- one more operation

-- a signal of a request has this transaction
abbrev pub HasKey : ℕ → Signal → Type 0
HasKey n (signal.Arrived key invite served registration identities) = key.0 ≡ n
HasKey n (signal.Request call side key request) = key.0 ≡ n
HasKey n (signal.Ack call side ack) = Unit {0}
HasKey n (signal.Cancel call key cancel invite) = key.0 ≡ n
HasKey n (signal.Answer key response) = Unit {0}
HasKey n (signal.Silent branch method) = Unit {0}
HasKey n (signal.Due call what) = Unit {0}
HasKey n (signal.Over key) = Unit {0}

-- a signal of no request
abbrev pub HasNoKey : Signal → Type 0
HasNoKey (signal.Arrived key invite served registration identities) = ⊥
HasNoKey (signal.Request call side key request) = ⊥
HasNoKey (signal.Ack call side ack) = Unit {0}
HasNoKey (signal.Cancel call key cancel invite) = ⊥
HasNoKey (signal.Answer key response) = Unit {0}
HasNoKey (signal.Silent branch method) = Unit {0}
HasNoKey (signal.Due call what) = Unit {0}
HasNoKey (signal.Over key) = Unit {0}

-- at most one more is opened
next-opened : (s : Signal) (n : ℕ) → opened_after s n ≤ n + 1
next-opened (signal.Arrived key invite served registration identities) n = omega arith
next-opened (signal.Request call side key request) n = omega arith
next-opened (signal.Ack call side ack) n = omega arith
next-opened (signal.Cancel call key cancel invite) n = omega arith
next-opened (signal.Answer key response) n = omega arith
next-opened (signal.Silent branch method) n = omega arith
next-opened (signal.Due call what) n = omega arith
next-opened (signal.Over key) n = omega arith

same-opened : (s : Signal) (n : ℕ) → HasNoKey s → opened_after s n ≡ n
same-opened (signal.Arrived key invite served registration identities) n h = absurd h
same-opened (signal.Request call side key request) n h = absurd h
same-opened (signal.Ack call side ack) n h = refl
same-opened (signal.Cancel call key cancel invite) n h = absurd h
same-opened (signal.Answer key response) n h = refl
same-opened (signal.Silent branch method) n h = refl
same-opened (signal.Due call what) n h = refl
same-opened (signal.Over key) n h = refl

key-below : (n : ℕ) (s : Signal) → HasKey n s → OpensBelow (n + 1) s
key-below n (signal.Arrived key invite served registration identities) h = omega (arith, h)
key-below n (signal.Request call side key request) h = omega (arith, h)
key-below n (signal.Ack call side ack) h = tt
key-below n (signal.Cancel call key cancel invite) h = omega (arith, h)
key-below n (signal.Answer key response) h = tt
key-below n (signal.Silent branch method) h = tt
key-below n (signal.Due call what) h = tt
key-below n (signal.Over key) h = tt

no-below : (n : ℕ) (s : Signal) → HasNoKey s → OpensBelow n s
no-below n (signal.Arrived key invite served registration identities) h = absurd h
no-below n (signal.Request call side key request) h = absurd h
no-below n (signal.Ack call side ack) h = tt
no-below n (signal.Cancel call key cancel invite) h = absurd h
no-below n (signal.Answer key response) h = tt
no-below n (signal.Silent branch method) h = tt
no-below n (signal.Due call what) h = tt
no-below n (signal.Over key) h = tt

key-above : (n : ℕ) (s : Signal) (ops : List TableOp) → HasKey n s → Each (IsBelow n) ops → IsAbove s ops
key-above n (signal.Arrived key invite served registration identities) ops h below = subst (λ n. Each (IsBelow n) ops) (sym h) below
key-above n (signal.Request call side key request) ops h below = subst (λ n. Each (IsBelow n) ops) (sym h) below
key-above n (signal.Ack call side ack) ops h below = tt
key-above n (signal.Cancel call key cancel invite) ops h below = subst (λ n. Each (IsBelow n) ops) (sym h) below
key-above n (signal.Answer key response) ops h below = tt
key-above n (signal.Silent branch method) ops h below = tt
key-above n (signal.Due call what) ops h below = tt
key-above n (signal.Over key) ops h below = tt

no-above : (s : Signal) (ops : List TableOp) → HasNoKey s → IsAbove s ops
no-above (signal.Arrived key invite served registration identities) ops h = absurd h
no-above (signal.Request call side key request) ops h = absurd h
no-above (signal.Ack call side ack) ops h = tt
no-above (signal.Cancel call key cancel invite) ops h = absurd h
no-above (signal.Answer key response) ops h = tt
no-above (signal.Silent branch method) ops h = tt
no-above (signal.Due call what) ops h = tt
no-above (signal.Over key) ops h = tt

key-own : (n : ℕ) (s : Signal) (ops : List TableOp) → HasKey n s → Each (IsBelow n) ops → HasOwnKey s ops
key-own n (signal.Arrived key invite served registration identities) ops h below = tt
key-own n (signal.Request call side key request) ops h below = all_other n key ops h below
key-own n (signal.Ack call side ack) ops h below = tt
key-own n (signal.Cancel call key cancel invite) ops h below = all_other n key ops h below
key-own n (signal.Answer key response) ops h below = tt
key-own n (signal.Silent branch method) ops h below = tt
key-own n (signal.Due call what) ops h below = tt
key-own n (signal.Over key) ops h below = tt

no-own : (s : Signal) (ops : List TableOp) → HasNoKey s → HasOwnKey s ops
no-own (signal.Arrived key invite served registration identities) ops h = absurd h
no-own (signal.Request call side key request) ops h = absurd h
no-own (signal.Ack call side ack) ops h = tt
no-own (signal.Cancel call key cancel invite) ops h = absurd h
no-own (signal.Answer key response) ops h = tt
no-own (signal.Silent branch method) ops h = tt
no-own (signal.Due call what) ops h = tt
no-own (signal.Over key) ops h = tt

-- a request of a new transaction is received
pub fresh_keyed : (config : CallConfigView) (n : ℕ) (ops : List TableOp) (x : ReceivedSignal) → HasKey n x.signal → Keyed config n ops → Keyed config (n + 1) (Receives x ∷ ops)
fresh_keyed config n ops x h k = record {
  opened = omega (arith, next-opened x.signal (table_after config ops).opened, k.opened);
  below = (key-below n x.signal h, all_below n (n + 1) ops (omega arith) k.below);
  rises = (key-above n x.signal ops h k.below, k.rises);
  own = (key-own n x.signal ops h k.below, k.own);
}

-- a signal that is no request is received
pub quiet_keyed : (config : CallConfigView) (n : ℕ) (ops : List TableOp) (x : ReceivedSignal) → HasNoKey x.signal → Keyed config n ops → Keyed config n (Receives x ∷ ops)
quiet_keyed config n ops x h k = record {
  opened = omega (arith, same-opened x.signal (table_after config ops).opened h, k.opened);
  below = (no-below n x.signal h, k.below);
  rises = (no-above x.signal ops h, k.rises);
  own = (no-own x.signal ops h, k.own);
}

-- CDRs are handed over
pub dropped_keyed : (config : CallConfigView) (n count : ℕ) (ops : List TableOp) → Keyed config n ops → Keyed config n (Drops count ∷ ops)
dropped_keyed config n count ops k = record { opened = k.opened; below = (tt, k.below); rises = (tt, k.rises); own = (tt, k.own) }

-- a leg is taken out or put back, or a call ends without it
pub released_keyed : (config : CallConfigView) (n number : ℕ) (side : Side) (ops : List TableOp) → Keyed config n ops → Keyed config n (Releases number side ∷ ops)
released_keyed config n number side ops k = record { opened = k.opened; below = (tt, k.below); rises = (tt, k.rises); own = (tt, k.own) }

pub restored_keyed : (config : CallConfigView) (n number : ℕ) (away : Released) (ops : List TableOp) → Keyed config n ops → Keyed config n (Restores number away ∷ ops)
restored_keyed config n number away ops k = record { opened = k.opened; below = (tt, k.below); rises = (tt, k.rises); own = (tt, k.own) }

pub ended_keyed : (config : CallConfigView) (n number at : ℕ) (tokens : TokensView) (ops : List TableOp) → Keyed config n ops → Keyed config n (Finishes number at tokens ∷ ops)
ended_keyed config n number at tokens ops k = record { opened = k.opened; below = (tt, k.below); rises = (tt, k.rises); own = (tt, k.own) }
