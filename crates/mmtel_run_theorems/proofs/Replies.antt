-- In which server transactions responses were sent in a run: each is one that the calls output, or is in a transaction by which no call was opened.
use Rattle.std.proofs.Common.{◌≡◌, ◌<◌, ◌≤◌, ℕ, Bool, true, List, [], ◌∷◌, ◌++◌, refl, ap, arith, inl, inr, le_trans}
use Rattle.std.specs.Prelude.{◌⊎◌}
use Rattle.std.proofs.lemmas.Bool.{ne_eqb}
use Rattle.mmtel_b2bua.specs.Operations.{Drops, Finishes, Receives, Releases, Restores, TableOp, table_after}
use Rattle.mmtel_b2bua.specs.declared.signals.Signal.{Signal}
use Rattle.mmtel_b2bua.specs.declared.signals.Signal.TheVariants as signal
use Rattle.mmtel_b2bua_theorems.specs.TracesOfTables.{IsOtherOp, OpensOther, out_by}
use Rattle.mmtel_call_services.specs.CallConfig.{CallConfigView}
use Rattle.mmtel_call_theorems.specs.NoInjection.Emits.{Each}
use Rattle.mmtel_call_theorems.specs.Replies.{IsRepliedIn}
use Rattle.mmtel_message.specs.Message.{Message}
use Rattle.mmtel_message.specs.declared.messages.Start.{Start}
use Rattle.mmtel_transaction.specs.Results.{tkey}
use Rattle.mmtel_transaction.specs.Operations.{TransactionOp, DidAck, DidAsk, DidBegin, DidFire, DidHear, DidReply, DidSettle}
use Rattle.mmtel_transaction.specs.declared.words.Emit.{Emit}
use Rattle.mmtel_transaction.specs.declared.words.Emit.TheVariants as emit
use Rattle.mmtel_run_theorems.proofs.CallKeys.{HasKey, HasNoKey, IsBelow, all_below, keys, keys_grow}

-- ---- a response, among the output

abbrev pub IsReply : ℕ → Message Start → Emit → Type 0
IsReply k m (emit.Ask peer message) = ⊥
IsReply k m (emit.Reply key message) = (key.0 ≡ k) × (message ≡ m)
IsReply k m (emit.Plain peer text) = ⊥
IsReply k m (emit.Ack key message) = ⊥
IsReply k m (emit.Settled key own) = ⊥
IsReply k m (emit.Arm call what at) = ⊥
IsReply k m (emit.ArmSeat room seat what at) = ⊥

abbrev pub HasReply : ℕ → Message Start → List Emit → Type 0
HasReply k m [] = ⊥
HasReply k m (x ∷ xs) = IsReply k m x ⊎ HasReply k m xs

-- the calls output it, in one of these operations
abbrev pub IsCallReply : CallConfigView → ℕ → Message Start → List TableOp → Type 0
IsCallReply config k m [] = ⊥
IsCallReply config k m (op ∷ older) = HasReply k m (out_by config op (table_after config older)) ⊎ IsCallReply config k m older

-- in one of these operations, each of a request of one of so many transactions
pub record IsCallReplyBy (config : CallConfigView) (n k : ℕ) (m : Message Start) (ops : List TableOp) : Type 0 where
  pub newer : List TableOp
  pub older : List TableOp
  pub all : ops ≡ newer ++ older
  pub brought : IsCallReply config k m older
  pub below : Each (IsBelow n) older

-- a transaction, of so many, by which no call was opened
pub record IsElsewhere (n k : ℕ) (ops : List TableOp) : Type 0 where
  pub below : k < n
  pub other : Each (IsOtherOp (tkey k)) ops

-- such a response may be sent, after these operations
abbrev pub MayReply : CallConfigView → ℕ → List TableOp → ℕ → Message Start → Type 0
MayReply config n ops k m = IsCallReplyBy config n k m ops ⊎ IsElsewhere n k ops

abbrev pub IsReplyAllowed : CallConfigView → ℕ → List TableOp → TransactionOp → Type 0
IsReplyAllowed config n ops (DidBegin step) = Unit {0}
IsReplyAllowed config n ops (DidHear p m now taken) = Unit {0}
IsReplyAllowed config n ops (DidAsk p m now) = Unit {0}
IsReplyAllowed config n ops (DidReply k m now) = MayReply config n ops k m
IsReplyAllowed config n ops (DidAck k m) = Unit {0}
IsReplyAllowed config n ops (DidFire k) = Unit {0}
IsReplyAllowed config n ops (DidSettle k own) = Unit {0}

-- each response, in the transactions that were opened before it
abbrev pub AllRepliesAllowed : CallConfigView → List TableOp → List TransactionOp → Type 0
AllRepliesAllowed config ops [] = Unit {0}
AllRepliesAllowed config ops (act ∷ older) = IsReplyAllowed config (keys older) ops act × AllRepliesAllowed config ops older

-- the output has responses of this kind
abbrev pub RepliesSo : (ℕ → Message Start → Type 0) → Emit → Type 0
RepliesSo P (emit.Ask peer message) = Unit {0}
RepliesSo P (emit.Reply key message) = P key.0 message
RepliesSo P (emit.Plain peer text) = Unit {0}
RepliesSo P (emit.Ack key message) = Unit {0}
RepliesSo P (emit.Settled key own) = Unit {0}
RepliesSo P (emit.Arm call what at) = Unit {0}
RepliesSo P (emit.ArmSeat room seat what at) = Unit {0}

-- ---- of more transactions

may-more : (config : CallConfigView) (n m : ℕ) (ops : List TableOp) (k : ℕ) (message : Message Start) → n ≤ m → MayReply config n ops k message → MayReply config m ops k message
may-more config n m ops k message le (inl by) =
    inl (record { newer = by.newer; older = by.older; all = by.all; brought = by.brought; below = all_below n m by.older le by.below })
may-more config n m ops k message le (inr away) = inr (record { below = omega (arith, le, away.below); other = away.other })

pub replies_more : (config : CallConfigView) (n m : ℕ) (ops : List TableOp) (x : Emit) → n ≤ m → RepliesSo (MayReply config n ops) x → RepliesSo (MayReply config m ops) x
replies_more config n m ops (emit.Ask peer message) le a = tt
replies_more config n m ops (emit.Reply key message) le a = may-more config n m ops key.0 message le a
replies_more config n m ops (emit.Plain peer text) le a = tt
replies_more config n m ops (emit.Ack key message) le a = tt
replies_more config n m ops (emit.Settled key own) le a = tt
replies_more config n m ops (emit.Arm call what at) le a = tt
replies_more config n m ops (emit.ArmSeat room seat what at) le a = tt

-- ---- after one more operation

-- which opens no call by one of so many transactions
abbrev pub OpensFrom : ℕ → Signal → Type 0
OpensFrom n (signal.Arrived key invite served registration identities) = n ≤ key.0
OpensFrom n (signal.Request call side key request) = Unit {0}
OpensFrom n (signal.Ack call side ack) = Unit {0}
OpensFrom n (signal.Cancel call key cancel invite) = Unit {0}
OpensFrom n (signal.Answer key response) = Unit {0}
OpensFrom n (signal.Silent branch method) = Unit {0}
OpensFrom n (signal.Due call what) = Unit {0}
OpensFrom n (signal.Over key) = Unit {0}

abbrev pub IsFrom : ℕ → TableOp → Type 0
IsFrom n (Receives x) = OpensFrom n x.signal
IsFrom n (Releases number side) = Unit {0}
IsFrom n (Restores number away) = Unit {0}
IsFrom n (Finishes number at tokens) = Unit {0}
IsFrom n (Drops count) = Unit {0}

pub key_from : (n : ℕ) (s : Signal) → HasKey n s → OpensFrom n s
key_from n (signal.Arrived key invite served registration identities) h = omega (arith, h)
key_from n (signal.Request call side key request) h = tt
key_from n (signal.Ack call side ack) h = tt
key_from n (signal.Cancel call key cancel invite) h = tt
key_from n (signal.Answer key response) h = tt
key_from n (signal.Silent branch method) h = tt
key_from n (signal.Due call what) h = tt
key_from n (signal.Over key) h = tt

pub no_from : (n : ℕ) (s : Signal) → HasNoKey s → OpensFrom n s
no_from n (signal.Arrived key invite served registration identities) h = absurd h
no_from n (signal.Request call side key request) h = tt
no_from n (signal.Ack call side ack) h = tt
no_from n (signal.Cancel call key cancel invite) h = tt
no_from n (signal.Answer key response) h = tt
no_from n (signal.Silent branch method) h = tt
no_from n (signal.Due call what) h = tt
no_from n (signal.Over key) h = tt

signal-other : (n k : ℕ) (s : Signal) → k < n → OpensFrom n s → OpensOther (tkey k) s
signal-other n k (signal.Arrived key invite served registration identities) less h = ne_eqb k key.0 (λ e. omega (arith, e, less, h))
signal-other n k (signal.Request call side key request) less h = tt
signal-other n k (signal.Ack call side ack) less h = tt
signal-other n k (signal.Cancel call key cancel invite) less h = tt
signal-other n k (signal.Answer key response) less h = tt
signal-other n k (signal.Silent branch method) less h = tt
signal-other n k (signal.Due call what) less h = tt
signal-other n k (signal.Over key) less h = tt

op-other : (n k : ℕ) (op : TableOp) → k < n → IsFrom n op → IsOtherOp (tkey k) op
op-other n k (Receives x) less h = signal-other n k x.signal less h
op-other n k (Releases number side) less h = tt
op-other n k (Restores number away) less h = tt
op-other n k (Finishes number at tokens) less h = tt
op-other n k (Drops count) less h = tt

signal-less : (n m : ℕ) (s : Signal) → m ≤ n → OpensFrom n s → OpensFrom m s
signal-less n m (signal.Arrived key invite served registration identities) le h = omega (arith, le, h)
signal-less n m (signal.Request call side key request) le h = tt
signal-less n m (signal.Ack call side ack) le h = tt
signal-less n m (signal.Cancel call key cancel invite) le h = tt
signal-less n m (signal.Answer key response) le h = tt
signal-less n m (signal.Silent branch method) le h = tt
signal-less n m (signal.Due call what) le h = tt
signal-less n m (signal.Over key) le h = tt

from-less : (n m : ℕ) (op : TableOp) → m ≤ n → IsFrom n op → IsFrom m op
from-less n m (Receives x) le h = signal-less n m x.signal le h
from-less n m (Releases number side) le h = tt
from-less n m (Restores number away) le h = tt
from-less n m (Finishes number at tokens) le h = tt
from-less n m (Drops count) le h = tt

may-later : (config : CallConfigView) (n : ℕ) (op : TableOp) (ops : List TableOp) (k : ℕ) (message : Message Start) → IsFrom n op → MayReply config n ops k message → MayReply config n (op ∷ ops) k message
may-later config n op ops k message from (inl by) =
    inl (record { newer = op ∷ by.newer; older = by.older; all = ap (λ (ops : List TableOp). op ∷ ops) by.all; brought = by.brought; below = by.below })
may-later config n op ops k message from (inr away) = inr (record { below = away.below; other = (op-other n k op away.below from, away.other) })

act-later : (config : CallConfigView) (n : ℕ) (op : TableOp) (ops : List TableOp) (act : TransactionOp) → IsFrom n op → IsReplyAllowed config n ops act → IsReplyAllowed config n (op ∷ ops) act
act-later config n op ops (DidBegin step) from a = tt
act-later config n op ops (DidHear p message now taken) from a = tt
act-later config n op ops (DidAsk p message now) from a = tt
act-later config n op ops (DidReply k message now) from a = may-later config n op ops k message from a
act-later config n op ops (DidAck k message) from a = tt
act-later config n op ops (DidFire k) from a = tt
act-later config n op ops (DidSettle k own) from a = tt

pub acts_later : (config : CallConfigView) (n : ℕ) (op : TableOp) (ops : List TableOp) (acts : List TransactionOp) → keys acts ≤ n → IsFrom n op → AllRepliesAllowed config ops acts →
    AllRepliesAllowed config (op ∷ ops) acts
acts_later config n op ops [] le from a = tt
acts_later config n op ops (act ∷ acts) le from a =
    let less : keys acts ≤ n = le_trans (keys_grow act acts) le in
    (act-later config (keys acts) op ops act (from-less n (keys acts) op less from) a.0, acts_later config n op ops acts less from a.1)

-- ---- the output

reply-so : (x : Emit) (P : ℕ → Message Start → Type 0) → ((k : ℕ) (m : Message Start) → IsReply k m x → P k m) → RepliesSo P x
reply-so (emit.Ask peer message) P each = tt
reply-so (emit.Reply key message) P each = each key.0 message (refl, refl)
reply-so (emit.Plain peer text) P each = tt
reply-so (emit.Ack key message) P each = tt
reply-so (emit.Settled key own) P each = tt
reply-so (emit.Arm call what at) P each = tt
reply-so (emit.ArmSeat room seat what at) P each = tt

pub replies_so : (xs : List Emit) (P : ℕ → Message Start → Type 0) → ((k : ℕ) (m : Message Start) → HasReply k m xs → P k m) → Each (RepliesSo P) xs
replies_so [] P each = tt
replies_so (x ∷ xs) P each = (reply-so x P (λ k m is. each k m (inl is)), replies_so xs P (λ k m has. each k m (inr has)))

-- in transactions by which no call was opened
elsewhere-so : (own : ℕ → Bool) (config : CallConfigView) (n : ℕ) (ops : List TableOp) (x : Emit) → ((k : ℕ) → own k ≡ true → IsElsewhere n k ops) → IsRepliedIn own x →
    RepliesSo (MayReply config n ops) x
elsewhere-so own config n ops (emit.Ask peer message) each is = tt
elsewhere-so own config n ops (emit.Reply key message) each is = inr (each key.0 is)
elsewhere-so own config n ops (emit.Plain peer text) each is = tt
elsewhere-so own config n ops (emit.Ack key message) each is = tt
elsewhere-so own config n ops (emit.Settled key settled) each is = tt
elsewhere-so own config n ops (emit.Arm call what at) each is = tt
elsewhere-so own config n ops (emit.ArmSeat room seat what at) each is = tt

pub replies_elsewhere : (own : ℕ → Bool) (config : CallConfigView) (n : ℕ) (ops : List TableOp) (xs : List Emit) → ((k : ℕ) → own k ≡ true → IsElsewhere n k ops) → Each (IsRepliedIn own) xs →
    Each (RepliesSo (MayReply config n ops)) xs
replies_elsewhere own config n ops [] each is = tt
replies_elsewhere own config n ops (x ∷ xs) each is = (elsewhere-so own config n ops x each is.0, replies_elsewhere own config n ops xs each is.1)
