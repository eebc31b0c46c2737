-- While a call is offered no final response was sent in the server transaction of the INVITE that opened it: neither by that call nor by any other, nor by a conference or the server itself.
use Rattle.std.proofs.Common.{◌≡◌, ◌<◌, ℕ, ◌==◌, ◌&&◌, ◌||◌, not, Bool, true, false, cond, List, [], ◌∷◌, ◌++◌, Option, Some, None, refl, sym, ap, ◌∙◌, subst, IfSome, inl, inr, append_assoc, arith}
use Rattle.std.specs.Prelude.{◌⊎◌, ◌^◌, ◌-◌, ◌+◌, if◌then◌else◌, find, min, nat_lt}
use Rattle.std.specs.List.{list_any}
use Rattle.std.specs.Option.{option_map}
use Rattle.std.proofs.lemmas.Bool.Decides.{nat_tests}
use Rattle.std.proofs.lemmas.Bool.{eq-eqb, eqb-true, ne_eqb}
use Rattle.std.proofs.lemmas.Option.{none-some, same_Some}
use Rattle.mmtel_compose.specs.ReceivedMessages.{status_of as status_in}
use Rattle.mmtel_b2bua.specs.Entries.{is_numbered}
use Rattle.mmtel_b2bua.specs.Operations.{Drops, Finishes, ReceivedSignal, Receives, Releases, Restores, TableOp, table_after}
use Rattle.mmtel_b2bua.specs.Tables.{opened_after}
use Rattle.mmtel_b2bua.specs.declared.entries.Entry.{Entry}
use Rattle.mmtel_b2bua.specs.declared.signals.Signal.{Signal}
use Rattle.mmtel_b2bua.specs.declared.signals.Signal.TheVariants as signal
use Rattle.mmtel_b2bua_theorems.specs.TracesOfTables.{HasNumbers, IsOtherOp, OpensOther, arrival_of, call_of, continued_trace, emits_of, entry_by, entry_in, event_by}
use Rattle.mmtel_b2bua_theorems.specs.TracesOfTables.{is_number, number_by, number_of, opening_by, out_by, received_event, signal_of_call, start_by, trace_of, with_event}
use Rattle.mmtel_b2bua_theorems.specs.Theorems.{CallsTakeTheirSteps, OtherOperationsOutputNothing}
use Rattle.mmtel_b2bua_theorems.specs.TracesWithTransfers as transfers
use Rattle.mmtel_b2bua_theorems.specs.TracesWithTransfers.{CallEvent, CallTraceWithTransfers, call_after, emits_after, emits_by}
use Rattle.mmtel_b2bua_theorems.specs.Replies.{CallsReplyInTheirOwn, EventIsOf, TraceIsOf}
use Rattle.mmtel_b2bua_theorems.specs.Observed.{labels_after, labels_in}
use Rattle.mmtel_call_services.specs.CallConfig.{CallConfigView}
use Rattle.mmtel_call_services.specs.declared.openings.Opening.{Opening}
use Rattle.mmtel_call_theorems.specs.NoInjection.Emits.{Each}
use Rattle.mmtel_call_theorems.specs.Replies.{IsRepliedIn}
use Rattle.mmtel_call_theorems.specs.Labels.{Accepted, Invited, Refused, Label, without_relayed_invite, final_label, is_reinvite, label_if, label_of, labels_of, labels_of_targets, request_uri_at}
use Rattle.mmtel_call_theorems.specs.CallTrace.{TraceStart, first_step, items_added}
use Rattle.mmtel_message.specs.Fields.{five_at}
use Rattle.mmtel_message.specs.Message.{Message}
use Rattle.mmtel_message.specs.declared.fields.Five.{Five}
use Rattle.mmtel_message.specs.declared.messages.Start.{Start as StartLine}
use Rattle.mmtel_message.specs.declared.messages.Start.TheVariants.{Request, Status}
use Rattle.mmtel_precedence.specs.Calls.{NotOffered, OfferState, Offered, OutcomeTarget}
use Rattle.mmtel_transaction.specs.Results.{tkey}
use Rattle.mmtel_transaction.specs.Operations.{TransactionOp, DidAck, DidAsk, DidBegin, DidFire, DidSettle, DidHear, DidReply}
use Rattle.mmtel_transaction.specs.Heads.{code_of, head_of, head_with, is_provisional}
use Rattle.mmtel_transaction.specs.declared.words.Emit.{Emit}
use Rattle.mmtel_transaction.specs.declared.words.Emit.TheVariants as emit
use Rattle.mmtel_transaction.specs.declared.words.TKey.{TKey}
use Rattle.mmtel_run_theorems.specs.PendingFinals.{is_final_in}
use Rattle.mmtel_run_theorems.proofs.CallKeys.{IsAbove, IsAboveOlder, IsBelow, OpensBelow, Rises, keys}
use Rattle.mmtel_run_theorems.proofs.TraceInduction.{AllHold, HoldsBy, trace_holds}
use Rattle.mmtel_run_theorems.proofs.OpeningTransactions.{AllStart, trace_starts}
use Rattle.mmtel_run_theorems.proofs.Replies.{AllRepliesAllowed, HasReply, IsCallReply, IsElsewhere, IsReply, IsReplyAllowed, MayReply}

both-ways : {A : Type 0} (b : Bool) → b ≡ true → b ≡ false → A
both-ways b is other = absurd (let f : true ≡ false = sym is ∙ other in cc)

-- ---- a final response among the replies is one that is observed of the call

abbrev IsFinalSign : Label → Type 0
IsFinalSign (Invited uri) = ⊥
IsFinalSign Accepted = Unit {0}
IsFinalSign (Refused code) = Unit {0}

abbrev HasFinal : List Label → Type 0
HasFinal [] = ⊥
HasFinal (x ∷ xs) = IsFinalSign x ⊎ HasFinal xs

final-left : (xs ys : List Label) → HasFinal xs → HasFinal (xs ++ ys)
final-left [] ys h = absurd h
final-left (x ∷ xs) ys (inl h) = inl h
final-left (x ∷ xs) ys (inr h) = inr (final-left xs ys h)

final-right : (xs ys : List Label) → HasFinal ys → HasFinal (xs ++ ys)
final-right [] ys h = h
final-right (x ∷ xs) ys h = inr (final-right xs ys h)

final-code : (code : ℕ) → nat_lt code 200 ≡ false → HasFinal (final_label code)
final-code code final = subst (λ b. HasFinal (if b then [] else if nat_lt code 300 then Accepted ∷ [] else Refused code ∷ [])) (sym final) (go (nat_lt code 300))
  where
    go : (b : Bool) → HasFinal (if b then Accepted ∷ [] else Refused code ∷ [])
    go true = inl tt
    go false = inl tt

-- the status that the transactions read
status-same : (start : StartLine) → code_of start ≡ status_in start
status-same (Request method uri) = refl
status-same (Status code phrase) = refl

status-with : (start : StartLine) (five : Option Five) → (head_with start five).status ≡ code_of start
status-with start None = refl
status-with start (Some five) = refl

pub status_read : (m : Message StartLine) → (head_of m).status ≡ status_in m.start
unfolding head_of
status_read m = status-with m.start (five_at m.lines) ∙ status-same m.start

module _ (key : TKey) (m : Message StartLine) (final : is_provisional (status_in m.start) ≡ false) where
  sign-final : (x : Emit) → IsReply key.0 m x → HasFinal (label_of key x)
  sign-final (emit.Ask peer message) is = absurd is
  sign-final (emit.Reply asked message) is =
      let same : HasFinal (final_label (status_in message.start)) =
      subst (λ (m : Message StartLine). HasFinal (final_label (status_in m.start))) (sym is.1) (final-code (status_in m.start) final) in
      subst (λ b. HasFinal (if b then final_label (status_in message.start) else [])) (sym (eq-eqb asked.0 key.0 is.0)) same
  sign-final (emit.Plain peer text) is = absurd is
  sign-final (emit.Ack asked message) is = absurd is
  sign-final (emit.Settled key own) is = absurd is
  sign-final (emit.Arm call what at) is = absurd is
  sign-final (emit.ArmSeat room seat what at) is = absurd is

  signs-final : (xs : List Emit) → HasReply key.0 m xs → HasFinal (labels_of key xs)
  signs-final [] has = absurd has
  signs-final (x ∷ xs) (inl is) = final-left (label_of key x) (labels_of key xs) (sign-final x is)
  signs-final (x ∷ xs) (inr has) = final-right (label_of key x) (labels_of key xs) (signs-final xs has)

  but-final : (xs : List Label) → HasFinal xs → HasFinal (without_relayed_invite xs)
  but-final [] h = absurd h
  but-final (Invited uri ∷ xs) (inl h) = absurd h
  but-final (Invited uri ∷ xs) (inr h) = h
  but-final (Accepted ∷ xs) h = inl tt
  but-final (Refused code ∷ xs) h = inl tt

  shown-final : (x : CallEvent) (out : List Emit) → HasFinal (labels_of key out) → HasFinal (labels_in key x out)
  shown-final (transfers.Receives x) out h = go (is_reinvite x.signal)
    where
      go : (b : Bool) → HasFinal (if b then without_relayed_invite (labels_of key out) else labels_of key out)
      go true = but-final (labels_of key out) h
      go false = h
  shown-final (transfers.Releases side) out h = h
  shown-final (transfers.Restores away) out h = h
  shown-final (transfers.Finishes at output) out h = h

has-apart : (k : ℕ) (m : Message StartLine) (xs ys : List Emit) → HasReply k m (xs ++ ys) → HasReply k m xs ⊎ HasReply k m ys
has-apart k m [] ys has = inr has
has-apart k m (x ∷ xs) ys (inl is) = inl (inl is)
has-apart k m (x ∷ xs) ys (inr has) = go (has-apart k m xs ys has)
  where
    go : HasReply k m xs ⊎ HasReply k m ys → HasReply k m (x ∷ xs) ⊎ HasReply k m ys
    go (inl h) = inl (inr h)
    go (inr h) = inr h

trace-final : (s : TraceStart) (events : List CallEvent) (m : Message StartLine) → is_provisional (status_in m.start) ≡ false → HasReply s.arrival.key.0 m (emits_after s events) → HasFinal (labels_after s events)
unfolding emits_after labels_after
trace-final s [] m final has = signs-final s.arrival.key m final (items_added s.output.out (first_step s).output.out) has
trace-final s (x ∷ earlier) m final has =
    let out = emits_by s.config x (call_after s earlier) in
    go (has-apart s.arrival.key.0 m (emits_after s earlier) out has) (trace-final s earlier m final)
  where
    go : HasReply s.arrival.key.0 m (emits_after s earlier) ⊎ HasReply s.arrival.key.0 m (emits_by s.config x (call_after s earlier)) →
        (HasReply s.arrival.key.0 m (emits_after s earlier) → HasFinal (labels_after s earlier)) →
        HasFinal (labels_after s earlier ++ labels_in s.arrival.key x (emits_by s.config x (call_after s earlier)))
    go (inl has) before = final-left (labels_after s earlier) _ (before has)
    go (inr has) before =
        final-right (labels_after s earlier) _
        (shown-final s.arrival.key m final x (emits_by s.config x (call_after s earlier)) (signs-final s.arrival.key m final (emits_by s.config x (call_after s earlier)) has))

-- there is none among the INVITEs to targets
none-if : (offer : OfferState) (uri : List ℕ) (later : List Label) → HasFinal (label_if offer uri ++ later) → HasFinal later
none-if NotOffered uri later h = h
none-if (Offered waiting) uri later (inl h) = absurd h
none-if (Offered waiting) uri later (inr h) = h

none-invited : (o : Opening) (targets : List OutcomeTarget) → HasFinal (labels_of_targets o targets ++ []) → ⊥
none-invited o [] h = h
none-invited o (target ∷ later) h =
    let parted : HasFinal (label_if target.offer (request_uri_at o target.diversion target.uri) ++ (labels_of_targets o later ++ [])) =
    subst HasFinal (append_assoc (label_if target.offer (request_uri_at o target.diversion target.uri)) (labels_of_targets o later) []) h in
    none-invited o later (none-if target.offer (request_uri_at o target.diversion target.uri) (labels_of_targets o later ++ []) parted)

-- ---- the requests of other calls have other transactions

-- a request has a transaction other than this one
abbrev HasOther : ℕ → Signal → Type 0
HasOther k (signal.Arrived key invite served registration identities) = (key.0 == k) ≡ false
HasOther k (signal.Request call side key request) = (key.0 == k) ≡ false
HasOther k (signal.Ack call side ack) = Unit {0}
HasOther k (signal.Cancel call key cancel invite) = (key.0 == k) ≡ false
HasOther k (signal.Answer key response) = Unit {0}
HasOther k (signal.Silent branch method) = Unit {0}
HasOther k (signal.Due call what) = Unit {0}
HasOther k (signal.Over key) = Unit {0}

abbrev IsOther : ℕ → TableOp → Type 0
IsOther k (Receives x) = HasOther k x.signal
IsOther k (Releases number side) = Unit {0}
IsOther k (Restores number away) = Unit {0}
IsOther k (Finishes number at tokens) = Unit {0}
IsOther k (Drops count) = Unit {0}

signal-below : (k : ℕ) (s : Signal) → OpensBelow k s → HasOther k s
signal-below k (signal.Arrived key invite served registration identities) h = ne_eqb key.0 k (λ e. omega (arith, e, h))
signal-below k (signal.Request call side key request) h = ne_eqb key.0 k (λ e. omega (arith, e, h))
signal-below k (signal.Ack call side ack) h = tt
signal-below k (signal.Cancel call key cancel invite) h = ne_eqb key.0 k (λ e. omega (arith, e, h))
signal-below k (signal.Answer key response) h = tt
signal-below k (signal.Silent branch method) h = tt
signal-below k (signal.Due call what) h = tt
signal-below k (signal.Over key) h = tt

op-below : (k : ℕ) (op : TableOp) → IsBelow k op → IsOther k op
op-below k (Receives x) h = signal-below k x.signal h
op-below k (Releases number side) h = tt
op-below k (Restores number away) h = tt
op-below k (Finishes number at tokens) h = tt
op-below k (Drops count) h = tt

-- where this one is less than all numbers that those before are less than
signal-above : (k : ℕ) (s : Signal) (older : List TableOp) → ((n : ℕ) → Each (IsBelow n) older → k < n) → IsAbove s older → HasOther k s
signal-above k (signal.Arrived key invite served registration identities) older low h = ne_eqb key.0 k (λ e. omega (arith, e, low key.0 h))
signal-above k (signal.Request call side key request) older low h = ne_eqb key.0 k (λ e. omega (arith, e, low key.0 h))
signal-above k (signal.Ack call side ack) older low h = tt
signal-above k (signal.Cancel call key cancel invite) older low h = ne_eqb key.0 k (λ e. omega (arith, e, low key.0 h))
signal-above k (signal.Answer key response) older low h = tt
signal-above k (signal.Silent branch method) older low h = tt
signal-above k (signal.Due call what) older low h = tt
signal-above k (signal.Over key) older low h = tt

op-above : (k : ℕ) (op : TableOp) (older : List TableOp) → ((n : ℕ) → Each (IsBelow n) older → k < n) → IsAboveOlder op older → IsOther k op
op-above k (Receives x) older low h = signal-above k x.signal older low h
op-above k (Releases number side) older low h = tt
op-above k (Restores number away) older low h = tt
op-above k (Finishes number at tokens) older low h = tt
op-above k (Drops count) older low h = tt

module _ (config : CallConfigView) where
  -- ---- the INVITE that opened a call

  starts-below : (n : ℕ) (x : ReceivedSignal) (es : List Entry) (number : ℕ) (s : Signal) → OpensBelow n s →
      IfSome (option_map (start_by config x es) (arrival_of number s)) (λ s. s.arrival.key.0 < n)
  starts-below n x es number (signal.Arrived key invite served registration identities) h = h
  starts-below n x es number (signal.Request call side key request) h = tt
  starts-below n x es number (signal.Ack call side ack) h = tt
  starts-below n x es number (signal.Cancel call key cancel invite) h = tt
  starts-below n x es number (signal.Answer key response) h = tt
  starts-below n x es number (signal.Silent branch method) h = tt
  starts-below n x es number (signal.Due call what) h = tt
  starts-below n x es number (signal.Over key) h = tt

  op-starts-below : (n : ℕ) (op : TableOp) (older : List TableOp) → IsBelow n op → IfSome (opening_by config op (table_after config older)) (λ s. s.arrival.key.0 < n)
  op-starts-below n (Receives x) older h = starts-below n x (table_after config older).entries _ x.signal h
  op-starts-below n (Releases number side) older h = tt
  op-starts-below n (Restores number away) older h = tt
  op-starts-below n (Finishes number at tokens) older h = tt
  op-starts-below n (Drops count) older h = tt

  all-start-below : (n number : ℕ) (ops : List TableOp) → Each (IsBelow n) ops → AllStart config number (λ s. s.arrival.key.0 < n) ops
  all-start-below n number [] h = tt
  all-start-below n number (op ∷ older) h = (op-starts-below n op older h.0, all-start-below n number older h.1)

  trace-below : (n number : ℕ) (ops : List TableOp) (trace : CallTraceWithTransfers) → Each (IsBelow n) ops → trace_of config number ops ≡ Some trace → trace.start.arrival.key.0 < n
  trace-below n number ops trace h is = trace_starts config number (λ s. s.arrival.key.0 < n) ops trace (all-start-below n number ops h) is

  starts-other : (k : ℕ) (x : ReceivedSignal) (es : List Entry) (number : ℕ) (s : Signal) → OpensOther (tkey k) s →
      IfSome (option_map (start_by config x es) (arrival_of number s)) (λ s. (k == s.arrival.key.0) ≡ false)
  starts-other k x es number (signal.Arrived key invite served registration identities) h = h
  starts-other k x es number (signal.Request call side key request) h = tt
  starts-other k x es number (signal.Ack call side ack) h = tt
  starts-other k x es number (signal.Cancel call key cancel invite) h = tt
  starts-other k x es number (signal.Answer key response) h = tt
  starts-other k x es number (signal.Silent branch method) h = tt
  starts-other k x es number (signal.Due call what) h = tt
  starts-other k x es number (signal.Over key) h = tt

  op-starts-other : (k : ℕ) (op : TableOp) (older : List TableOp) → IsOtherOp (tkey k) op → IfSome (opening_by config op (table_after config older)) (λ s. (k == s.arrival.key.0) ≡ false)
  op-starts-other k (Receives x) older h = starts-other k x (table_after config older).entries _ x.signal h
  op-starts-other k (Releases number side) older h = tt
  op-starts-other k (Restores number away) older h = tt
  op-starts-other k (Finishes number at tokens) older h = tt
  op-starts-other k (Drops count) older h = tt

  all-start-other : (k number : ℕ) (ops : List TableOp) → Each (IsOtherOp (tkey k)) ops → AllStart config number (λ s. (k == s.arrival.key.0) ≡ false) ops
  all-start-other k number [] h = tt
  all-start-other k number (op ∷ older) h = (op-starts-other k op older h.0, all-start-other k number older h.1)

  -- ---- each operation in the transaction by which a call was opened is of that call

  abbrev AllApart : (number k : ℕ) → List TableOp → Type 0
  AllApart number k [] = Unit {0}
  AllApart number k (op ∷ older) = (is_number number (call_of config op (table_after config older)) ≡ false → IsOther k op) × AllApart number k older

  below-apart : (number k : ℕ) (ops : List TableOp) → Each (IsBelow k) ops → AllApart number k ops
  below-apart number k [] h = tt
  below-apart number k (op ∷ older) h = ((λ other. op-below k op h.0), below-apart number k older h.1)

  opens-above : (x : ReceivedSignal) (es : List Entry) (number : ℕ) (older : List TableOp) (s : Signal) → IsAbove s older →
      IfSome (option_map (start_by config x es) (arrival_of number s)) (λ s. Each (IsBelow s.arrival.key.0) older)
  opens-above x es number older (signal.Arrived key invite served registration identities) h = h
  opens-above x es number older (signal.Request call side key request) h = tt
  opens-above x es number older (signal.Ack call side ack) h = tt
  opens-above x es number older (signal.Cancel call key cancel invite) h = tt
  opens-above x es number older (signal.Answer key response) h = tt
  opens-above x es number older (signal.Silent branch method) h = tt
  opens-above x es number older (signal.Due call what) h = tt
  opens-above x es number older (signal.Over key) h = tt

  op-opens-above : (op : TableOp) (older : List TableOp) → IsAboveOlder op older → IfSome (opening_by config op (table_after config older)) (λ s. Each (IsBelow s.arrival.key.0) older)
  op-opens-above (Receives x) older h = opens-above x (table_after config older).entries _ older x.signal h
  op-opens-above (Releases number side) older h = tt
  op-opens-above (Restores number away) older h = tt
  op-opens-above (Finishes number at tokens) older h = tt
  op-opens-above (Drops count) older h = tt

  abbrev IsApart : ℕ → TableOp → List TableOp → CallTraceWithTransfers → Type 0
  IsApart number op older trace = AllApart number trace.start.arrival.key.0 (op ∷ older)

  goes-apart : (number : ℕ) (op : TableOp) (older : List TableOp) (opens : Option TraceStart) (came : Option CallEvent) (was : Option CallTraceWithTransfers) (trace : CallTraceWithTransfers) →
      is_number number (call_of config op (table_after config older)) ≡ true → IfSome opens (λ s. Each (IsBelow s.arrival.key.0) older) →
      ((earlier : CallTraceWithTransfers) → was ≡ Some earlier → AllApart number earlier.start.arrival.key.0 older) → continued_trace opens came was ≡ Some trace → IsApart number op older trace
  goes-apart number op older (Some s) came was trace mine o before is =
      subst (IsApart number op older) (same_Some (record { start = s; events = [] }) trace is)
      ((λ other. both-ways (is_number number (call_of config op (table_after config older))) mine other), below-apart number s.arrival.key.0 older o)
  goes-apart number op older None came None trace mine o before is = absurd (none-some trace is)
  goes-apart number op older None None (Some earlier) trace mine o before is =
      subst (IsApart number op older) (same_Some earlier trace is)
      ((λ other. both-ways (is_number number (call_of config op (table_after config older))) mine other), before earlier refl)
  goes-apart number op older None (Some x) (Some earlier) trace mine o before is =
      subst (IsApart number op older) (same_Some (record earlier { events = x ∷ earlier.events }) trace is)
      ((λ other. both-ways (is_number number (call_of config op (table_after config older))) mine other), before earlier refl)

  apart : (number : ℕ) (ops : List TableOp) (trace : CallTraceWithTransfers) → Rises ops → trace_of config number ops ≡ Some trace → AllApart number trace.start.arrival.key.0 ops
  unfolding trace_of
  apart number [] trace r is = absurd (none-some trace is)
  apart number (op ∷ older) trace r is =
      go (is_number number (call_of config op (table_after config older))) refl is (λ trace. apart number older trace r.1) (λ n trace. trace-below n number older trace)
    where
      go : (b : Bool) → is_number number (call_of config op (table_after config older)) ≡ b →
          (if b then continued_trace (opening_by config op (table_after config older)) (event_by op number (table_after config older).entries) (trace_of config number older) else trace_of config number older)
          ≡ Some trace →
          ((trace : CallTraceWithTransfers) → trace_of config number older ≡ Some trace → AllApart number trace.start.arrival.key.0 older) →
          ((n : ℕ) (trace : CallTraceWithTransfers) → Each (IsBelow n) older → trace_of config number older ≡ Some trace → trace.start.arrival.key.0 < n) → IsApart number op older trace
      go true mine now before low =
          goes-apart number op older (opening_by config op (table_after config older)) (event_by op number (table_after config older).entries) (trace_of config number older) trace mine
          (op-opens-above op older r.0) before now
      go false mine now before low = ((λ other. op-above trace.start.arrival.key.0 op older (λ n below. low n trace below now) r.0), before trace now)

  -- ---- in which transactions a call replies

  module _ (own : ℕ → Bool) where
    -- a request is of these
    abbrev HasIn : Signal → Type 0
    HasIn (signal.Arrived key invite served registration identities) = own key.0 ≡ true
    HasIn (signal.Request call side key request) = own key.0 ≡ true
    HasIn (signal.Ack call side ack) = Unit {0}
    HasIn (signal.Cancel call key cancel invite) = own key.0 ≡ true
    HasIn (signal.Answer key response) = Unit {0}
    HasIn (signal.Silent branch method) = Unit {0}
    HasIn (signal.Due call what) = Unit {0}
    HasIn (signal.Over key) = Unit {0}

    abbrev OpIsIn : TableOp → Type 0
    OpIsIn (Receives x) = HasIn x.signal
    OpIsIn (Releases number side) = Unit {0}
    OpIsIn (Restores number away) = Unit {0}
    OpIsIn (Finishes number at tokens) = Unit {0}
    OpIsIn (Drops count) = Unit {0}

    signal-opens : (x : ReceivedSignal) (es : List Entry) (number : ℕ) (s : Signal) → HasIn s → IfSome (option_map (start_by config x es) (arrival_of number s)) (λ s. TraceIsOf own s [])
    signal-opens x es number (signal.Arrived key invite served registration identities) h = record { opening = h; output = tt; events_in = tt }
    signal-opens x es number (signal.Request call side key request) h = tt
    signal-opens x es number (signal.Ack call side ack) h = tt
    signal-opens x es number (signal.Cancel call key cancel invite) h = tt
    signal-opens x es number (signal.Answer key response) h = tt
    signal-opens x es number (signal.Silent branch method) h = tt
    signal-opens x es number (signal.Due call what) h = tt
    signal-opens x es number (signal.Over key) h = tt

    op-opens : (op : TableOp) (older : List TableOp) → OpIsIn op → IfSome (opening_by config op (table_after config older)) (λ s. TraceIsOf own s [])
    op-opens (Receives x) older h = signal-opens x (table_after config older).entries _ x.signal h
    op-opens (Releases number side) older h = tt
    op-opens (Restores number away) older h = tt
    op-opens (Finishes number at tokens) older h = tt
    op-opens (Drops count) older h = tt

    abbrev GoesOnSo : CallEvent → Type 0
    GoesOnSo x = (s : TraceStart) (earlier : List CallEvent) → TraceIsOf own s earlier → TraceIsOf own s (x ∷ earlier)

    goes-so : (x : CallEvent) → EventIsOf own x → GoesOnSo x
    goes-so x is s earlier l = record { opening = l.opening; output = l.output; events_in = (is, l.events_in) }

    signal-comes : (x : ReceivedSignal) (es : List Entry) (number : ℕ) (s : Signal) → HasIn s → IfSome (option_map (received_event x number es) (signal_of_call s)) GoesOnSo
    signal-comes x es number (signal.Arrived key invite served registration identities) h = tt
    signal-comes x es number (signal.Request call side key request) h = goes-so _ (h, tt)
    signal-comes x es number (signal.Ack call side ack) h = goes-so _ (tt, tt)
    signal-comes x es number (signal.Cancel call key cancel invite) h = goes-so _ (h, tt)
    signal-comes x es number (signal.Answer key response) h = goes-so _ (tt, tt)
    signal-comes x es number (signal.Silent branch method) h = goes-so _ (tt, tt)
    signal-comes x es number (signal.Due call what) h = goes-so _ (tt, tt)
    signal-comes x es number (signal.Over key) h = goes-so _ (tt, tt)

    op-comes : (op : TableOp) (number : ℕ) (es : List Entry) → OpIsIn op → IfSome (event_by op number es) GoesOnSo
    op-comes (Receives x) number es h = signal-comes x es number x.signal h
    op-comes (Releases call side) number es h = goes-so (transfers.Releases side) tt
    op-comes (Restores call away) number es h = goes-so (transfers.Restores away) tt
    op-comes (Finishes call at tokens) number es h = goes-so _ tt
    op-comes (Drops count) number es h = tt

    op-holds : (number : ℕ) (op : TableOp) (older : List TableOp) → OpIsIn op → HoldsBy config number (TraceIsOf own) op older
    op-holds number op older h = record { opens = op-opens op older h; comes = op-comes op number (table_after config older).entries h }

  -- another call than that which was opened by this one
  module _ (k : ℕ) where
    abbrev own_but : ℕ → Bool
    own_but j = not (j == k)

    signal-but : (s : Signal) → HasOther k s → HasIn own_but s
    signal-but (signal.Arrived key invite served registration identities) h = ap not h
    signal-but (signal.Request call side key request) h = ap not h
    signal-but (signal.Ack call side ack) h = tt
    signal-but (signal.Cancel call key cancel invite) h = ap not h
    signal-but (signal.Answer key response) h = tt
    signal-but (signal.Silent branch method) h = tt
    signal-but (signal.Due call what) h = tt
    signal-but (signal.Over key) h = tt

    op-but : (op : TableOp) → IsOther k op → OpIsIn own_but op
    op-but (Receives x) h = signal-but x.signal h
    op-but (Releases number side) h = tt
    op-but (Restores number away) h = tt
    op-but (Finishes number at tokens) h = tt
    op-but (Drops count) h = tt

    other-number : (number n : ℕ) (o : Option ℕ) → (n == number) ≡ false → is_number n o ≡ true → is_number number o ≡ false
    other-number number n None other is = refl
    other-number number n (Some c) other is = ap (λ c. c == number) (eqb-true c n is) ∙ other

    all-but : (number n : ℕ) (ops : List TableOp) → (n == number) ≡ false → AllApart number k ops → AllHold config n (TraceIsOf own_but) ops
    all-but number n [] other a = tt
    all-but number n (op ∷ older) other a = (
      (λ mine. op-holds own_but n op older (op-but op (a.0 (other-number number n (call_of config op (table_after config older)) other mine)))),
      all-but number n older other a.1,
    )

    other-of : (number n : ℕ) (ops : List TableOp) (trace : CallTraceWithTransfers) → (n == number) ≡ false → AllApart number k ops → trace_of config n ops ≡ Some trace → TraceIsOf own_but trace.start trace.events
    other-of number n ops trace other a is = trace_holds config n (TraceIsOf own_but) ops trace (all-but number n ops other a) is

  -- any call whose requests are of so many transactions
  module _ (n : ℕ) where
    abbrev own_below : ℕ → Bool
    own_below j = nat_lt j n

    below-in : (k : ℕ) → k < n → own_below k ≡ true
    below-in k less = grind (arith, nat_tests, less)

    signal-in : (s : Signal) → OpensBelow n s → HasIn own_below s
    signal-in (signal.Arrived key invite served registration identities) h = below-in key.0 h
    signal-in (signal.Request call side key request) h = below-in key.0 h
    signal-in (signal.Ack call side ack) h = tt
    signal-in (signal.Cancel call key cancel invite) h = below-in key.0 h
    signal-in (signal.Answer key response) h = tt
    signal-in (signal.Silent branch method) h = tt
    signal-in (signal.Due call what) h = tt
    signal-in (signal.Over key) h = tt

    op-in : (op : TableOp) → IsBelow n op → OpIsIn own_below op
    op-in (Receives x) h = signal-in x.signal h
    op-in (Releases number side) h = tt
    op-in (Restores number away) h = tt
    op-in (Finishes number at tokens) h = tt
    op-in (Drops count) h = tt

    all-in : (number : ℕ) (ops : List TableOp) → Each (IsBelow n) ops → AllHold config number (TraceIsOf own_below) ops
    all-in number [] h = tt
    all-in number (op ∷ older) h = ((λ mine. op-holds own_below number op older (op-in op h.0)), all-in number older h.1)

    below-of : (number : ℕ) (ops : List TableOp) (trace : CallTraceWithTransfers) → Each (IsBelow n) ops → trace_of config number ops ≡ Some trace → TraceIsOf own_below trace.start trace.events
    below-of number ops trace h is = trace_holds config number (TraceIsOf own_below) ops trace (all-in number ops h) is

  replied-in : (own : ℕ → Bool) (k : ℕ) (m : Message StartLine) (x : Emit) → IsReply k m x → IsRepliedIn own x → own k ≡ true
  replied-in own k m (emit.Ask peer message) is in_own = absurd is
  replied-in own k m (emit.Reply key message) is in_own = subst (λ j. own j ≡ true) is.0 in_own
  replied-in own k m (emit.Plain peer text) is in_own = absurd is
  replied-in own k m (emit.Ack key message) is in_own = absurd is
  replied-in own k m (emit.Settled key settled) is in_own = absurd is
  replied-in own k m (emit.Arm call what at) is in_own = absurd is
  replied-in own k m (emit.ArmSeat room seat what at) is in_own = absurd is

  has-own : (own : ℕ → Bool) (k : ℕ) (m : Message StartLine) (xs : List Emit) → HasReply k m xs → Each (IsRepliedIn own) xs → own k ≡ true
  has-own own k m [] has each = absurd has
  has-own own k m (x ∷ xs) (inl is) each = replied-in own k m x is each.0
  has-own own k m (x ∷ xs) (inr has) each = has-own own k m xs has each.1

  -- ---- of which call a reply is that the calls output

  has-left : (k : ℕ) (m : Message StartLine) (xs ys : List Emit) → HasReply k m xs → HasReply k m (xs ++ ys)
  has-left k m [] ys has = absurd has
  has-left k m (x ∷ xs) ys (inl is) = inl is
  has-left k m (x ∷ xs) ys (inr has) = inr (has-left k m xs ys has)

  has-right : (k : ℕ) (m : Message StartLine) (xs ys : List Emit) → HasReply k m ys → HasReply k m (xs ++ ys)
  has-right k m [] ys has = has
  has-right k m (x ∷ xs) ys has = inr (has-right k m xs ys has)

  -- an entry is found by its number
  found-numbered : (p : Entry → Bool) (es : List Entry) (e : Entry) → find p es ≡ Some e → (z : Entry) × (find (is_numbered (number_of e)) es ≡ Some z)
  unfolding is_numbered
  found-numbered p [] e is = absurd (none-some e is)
  found-numbered p (x ∷ es) e is = go (p x) is (found-numbered p es e)
    where
      later-so : (b : Bool) → (z : Entry) × (find (is_numbered (number_of e)) es ≡ Some z) → (z : Entry) × (cond b (Some x) (find (is_numbered (number_of e)) es) ≡ Some z)
      later-so true found = (x, refl)
      later-so false found = found

      go : (b : Bool) → cond b (Some x) (find p es) ≡ Some e → (find p es ≡ Some e → (z : Entry) × (find (is_numbered (number_of e)) es ≡ Some z)) →
          (z : Entry) × (cond (is_numbered (number_of e) x) (Some x) (find (is_numbered (number_of e)) es) ≡ Some z)
      go true is later =
          let its : is_numbered (number_of e) x ≡ true = eq-eqb (number_of x) (number_of e) (ap number_of (same_Some x e is)) in
          (x, ap (λ b. cond b (Some x) (find (is_numbered (number_of e)) es)) its)
      go false is later = later-so (is_numbered (number_of e) x) (later is)

  met-numbered : (op : TableOp) (es : List Entry) (e : Entry) → entry_by op es ≡ Some e → (z : Entry) × (find (is_numbered (number_of e)) es ≡ Some z)
  met-numbered (Receives x) es e is = found-numbered _ es e is
  met-numbered (Releases number side) es e is = found-numbered _ es e is
  met-numbered (Restores number away) es e is = found-numbered _ es e is
  met-numbered (Finishes number at tokens) es e is = found-numbered _ es e is
  met-numbered (Drops count) es e is = absurd (none-some e is)

  lived-in : (l : Option CallTraceWithTransfers) (z : Entry) → entry_in l ≡ Some z → (trace : CallTraceWithTransfers) × (l ≡ Some trace)
  lived-in None z is = absurd (none-some z is)
  lived-in (Some trace) z is = (trace, refl)

  -- numbers only increase
  fewer-before : (m n : ℕ) → min (n + 1) m < m → n < m
  fewer-before m n h = omega (arith, h)

  signal-before : (s : Signal) (n : ℕ) → opened_after s n < 2 ^ 64 - 1 → n < 2 ^ 64 - 1
  signal-before (signal.Arrived key invite served registration identities) n h = fewer-before (2 ^ 64 - 1) n h
  signal-before (signal.Request call side key request) n h = h
  signal-before (signal.Ack call side ack) n h = h
  signal-before (signal.Cancel call key cancel invite) n h = h
  signal-before (signal.Answer key response) n h = h
  signal-before (signal.Silent branch method) n h = h
  signal-before (signal.Due call what) n h = h
  signal-before (signal.Over key) n h = h

  few-before : (op : TableOp) (older : List TableOp) → HasNumbers config (op ∷ older) → HasNumbers config older
  few-before (Receives x) older few = signal-before x.signal (table_after config older).opened few
  few-before (Releases number side) older few = few
  few-before (Restores number away) older few = few
  few-before (Finishes number at tokens) older few = few
  few-before (Drops count) older few = few

  module _ (steps : CallsTakeTheirSteps) (nobodys : OtherOperationsOutputNothing) where
    abbrev HasTrace : ℕ → List TableOp → Type 0
    HasTrace n ops = (trace : CallTraceWithTransfers) × (trace_of config n ops ≡ Some trace)

    -- the call to which an operation belongs has a trace
    traces-by : (op : TableOp) (older : List TableOp) (n : ℕ) → HasNumbers config older → call_of config op (table_after config older) ≡ Some n → HasTrace n (op ∷ older)
    unfolding trace_of
    traces-by op older n few is = go (opening_by config op (table_after config older)) (entry_by op (table_after config older).entries) refl refl is
      where
        came : Option CallEvent
        came = event_by op n (table_after config older).entries

        its : is_number n (call_of config op (table_after config older)) ≡ true
        its = ap (is_number n) is ∙ eq-eqb n n refl

        -- by what opens it, and its trace before
        so : (opens : Option TraceStart) (was : Option CallTraceWithTransfers) → opening_by config op (table_after config older) ≡ opens → trace_of config n older ≡ was →
            trace_of config n (op ∷ older) ≡ continued_trace opens came was
        so opens was o l =
            ap (λ b. if b then continued_trace (opening_by config op (table_after config older)) came (trace_of config n older) else trace_of config n older) its
            ∙ ap (λ opens. continued_trace opens came (trace_of config n older)) o ∙ ap (continued_trace opens came) l

        go : (opens : Option TraceStart) (met : Option Entry) → opening_by config op (table_after config older) ≡ opens → entry_by op (table_after config older).entries ≡ met →
            number_by opens met ≡ Some n → HasTrace n (op ∷ older)
        go (Some s) met o m is = (record { start = s; events = [] }, so (Some s) (trace_of config n older) o refl)
        go None None o m is = absurd (none-some n is)
        go None (Some e) o m is =
            let (z, found) = met-numbered op (table_after config older).entries e m in
            let same : number_of e ≡ n = same_Some (number_of e) n is in
            let entry : entry_in (trace_of config n older) ≡ Some z =
            sym (steps config older n few) ∙ subst (λ n. find (is_numbered n) (table_after config older).entries ≡ Some z) same found in
            let (trace, l) = lived-in (trace_of config n older) z entry in
            (with_event came trace, so None (Some trace) o l)

    -- and still has one
    traces-continue : (op : TableOp) (older : List TableOp) (n : ℕ) → HasTrace n older → HasTrace n (op ∷ older)
    unfolding trace_of
    traces-continue op older n (trace, is) = go (is_number n (call_of config op (table_after config older))) (opening_by config op (table_after config older))
      where
        came : Option CallEvent
        came = event_by op n (table_after config older).entries

        go : (b : Bool) (opens : Option TraceStart) → (trace : CallTraceWithTransfers) × ((if b then continued_trace opens came (trace_of config n older) else trace_of config n older) ≡ Some trace)
        go true (Some s) = (record { start = s; events = [] }, refl)
        go true None = (with_event came trace, ap (continued_trace None came) is)
        go false opens = (trace, is)

    record IsFound (k : ℕ) (m : Message StartLine) (ops : List TableOp) : Type 0 where
      n : ℕ
      trace : HasTrace n ops
      has : HasReply k m (emits_of config n ops)

    found : (k : ℕ) (m : Message StartLine) (ops : List TableOp) → HasNumbers config ops → IsCallReply config k m ops → IsFound k m ops
    unfolding emits_of
    found k m [] few brought = absurd brought
    found k m (op ∷ older) few (inl has) = go (call_of config op (table_after config older)) refl
      where
        go : (o : Option ℕ) → call_of config op (table_after config older) ≡ o → IsFound k m (op ∷ older)
        go None is = absurd (subst (HasReply k m) (nobodys config op older is).0 has)
        go (Some n) is =
            let its : is_number n (call_of config op (table_after config older)) ≡ true = ap (is_number n) is ∙ eq-eqb n n refl in
            record {
              n = n;
              trace = traces-by op older n (few-before op older few) is;
              has =
                  has-right k m (emits_of config n older) _
                  (subst (λ b. HasReply k m (if b then out_by config op (table_after config older) else [])) (sym its) has);
            }
    found k m (op ∷ older) few (inr brought) =
        let f : IsFound k m older = found k m older (few-before op older few) brought in
        record { n = f.n; trace = traces-continue op older f.n f.trace; has = has-left k m (emits_of config f.n older) _ f.has }

    -- ---- each reply is in a transaction that was opened before it

    few-of : (newer older : List TableOp) → HasNumbers config (newer ++ older) → HasNumbers config older
    few-of [] older few = few
    few-of (op ∷ newer) older few = few-of newer older (few-before op (newer ++ older) few)

    brought-more : (k : ℕ) (m : Message StartLine) (newer older : List TableOp) → IsCallReply config k m older → IsCallReply config k m (newer ++ older)
    brought-more k m [] older brought = brought
    brought-more k m (op ∷ newer) older brought = inr (brought-more k m newer older brought)

    brought-below : CallsReplyInTheirOwn → (n k : ℕ) (m : Message StartLine) (ops : List TableOp) → HasNumbers config ops → Each (IsBelow n) ops → IsCallReply config k m ops → k < n
    brought-below own_law n k m ops few below brought =
        let f : IsFound k m ops = found k m ops few brought in
        let of : TraceIsOf (own_below n) f.trace.0.start f.trace.0.events = below-of n f.n ops f.trace.0 below f.trace.1 in
        let in_own : own_below n k ≡ true = has-own (own_below n) k m (emits_of config f.n ops) f.has (own_law (own_below n) config ops f.n f.trace.0 few f.trace.1 of) in
        grind (arith, nat_tests, in_own)

    may-below : CallsReplyInTheirOwn → (n k : ℕ) (m : Message StartLine) (ops : List TableOp) → HasNumbers config ops → MayReply config n ops k m → k < n
    may-below own_law n k m ops few (inl by) =
        brought-below own_law n k m by.older (few-of by.newer by.older (subst (HasNumbers config) by.all few)) by.below by.brought
    may-below own_law n k m ops few (inr away) = away.below

    pub answered_below : CallsReplyInTheirOwn → (ops : List TableOp) → HasNumbers config ops → (newer older : List TransactionOp) (k : ℕ) (m : Message StartLine) (at : ℕ) →
        AllRepliesAllowed config ops (newer ++ DidReply k m at ∷ older) → k < keys older
    answered_below own_law ops few [] older k m at a = may-below own_law (keys older) k m ops few a.0
    answered_below own_law ops few (act ∷ newer) older k m at a = answered_below own_law ops few newer older k m at a.1

    -- ---- no final response in the transaction of a call that is offered

    module _ (own_law : CallsReplyInTheirOwn) (ops : List TableOp) (few : HasNumbers config ops) (rises : Rises ops) (number : ℕ) (trace : CallTraceWithTransfers) (is : trace_of config number ops ≡ Some trace) where
      abbrev key_in : ℕ
      key_in = trace.start.arrival.key.0

      -- a reply in it that the calls output is of this call,
      its-own : (m : Message StartLine) → IsCallReply config key_in m ops → HasReply key_in m (emits_of config number ops)
      its-own m brought =
          let f : IsFound key_in m ops = found key_in m ops few brought in
          go f (f.n == number) refl
        where
          go : (f : IsFound key_in m ops) (b : Bool) → (f.n == number) ≡ b → HasReply key_in m (emits_of config number ops)
          go f true same = subst (λ n. HasReply key_in m (emits_of config n ops)) (eqb-true f.n number same) f.has
          go f false other =
              let of : TraceIsOf (own_but key_in) f.trace.0.start f.trace.0.events =
              other-of key_in number f.n ops f.trace.0 other (apart number ops trace rises is) f.trace.1 in
              let in_own : own_but key_in key_in ≡ true =
              has-own (own_but key_in) key_in m (emits_of config f.n ops) f.has (own_law (own_but key_in) config ops f.n f.trace.0 few f.trace.1 of) in
              both-ways (own_but key_in key_in) in_own (ap not (eq-eqb key_in key_in refl))

      -- and none is elsewhere
      none-elsewhere : (n k : ℕ) → (k == key_in) ≡ true → IsElsewhere n k ops → ⊥
      none-elsewhere n k same away =
          both-ways (k == key_in) same (trace_starts config number (λ s. (k == s.arrival.key.0) ≡ false) ops trace (all-start-other k number ops away.other) is)

      may-own : (n k : ℕ) (m : Message StartLine) → (k == key_in) ≡ true → MayReply config n ops k m → HasReply key_in m (emits_of config number ops)
      may-own n k m same (inl by) =
          let whole : IsCallReply config k m ops = subst (IsCallReply config k m) (sym by.all) (brought-more k m by.newer by.older by.brought) in
          its-own m (subst (λ k. IsCallReply config k m ops) (eqb-true k key_in same) whole)
      may-own n k m same (inr away) = absurd (none-elsewhere n k same away)

      -- of each operation on the transactions
      pub answered_own : (newer older : List TransactionOp) (m : Message StartLine) (at : ℕ) → AllRepliesAllowed config ops (newer ++ DidReply key_in m at ∷ older) → HasReply key_in m (emits_of config number ops)
      answered_own [] older m at a = may-own (keys older) key_in m (eq-eqb key_in key_in refl) a.0
      answered_own (act ∷ newer) older m at a = answered_own newer older m at a.1

      module _ (emits : emits_of config number ops ≡ emits_after trace.start trace.events) (o : Opening) (targets : List OutcomeTarget)
          (shown : labels_after trace.start trace.events ≡ labels_of_targets o targets ++ []) where
        may-none : (n k : ℕ) (m : Message StartLine) → (k == key_in) ≡ true → is_provisional (head_of m).status ≡ false → MayReply config n ops k m → ⊥
        may-none n k m same final may =
            none-invited o targets
            (subst HasFinal shown (trace-final trace.start trace.events m (ap is_provisional (sym (status_read m)) ∙ final) (subst (HasReply key_in m) emits (may-own n k m same may))))

        act-none : (n : ℕ) (act : TransactionOp) → IsReplyAllowed config n ops act → is_final_in key_in act ≡ false
        act-none n (DidBegin step) a = refl
        act-none n (DidHear p m now taken) a = refl
        act-none n (DidAsk p m now) a = refl
        act-none n (DidReply k m now) a = go (k == key_in) (is_provisional (head_of m).status) refl refl
          where
            go : (b c : Bool) → (k == key_in) ≡ b → is_provisional (head_of m).status ≡ c → (b && not c) ≡ false
            go false c same final = refl
            go true true same final = refl
            go true false same final = absurd (may-none n k m same final a)
        act-none n (DidAck k m) a = refl
        act-none n (DidFire k) a = refl
        act-none n (DidSettle k own) a = refl

        pub none_final : (acts : List TransactionOp) → AllRepliesAllowed config ops acts → list_any (is_final_in key_in) acts ≡ false
        none_final [] a = refl
        none_final (act ∷ acts) a = ap (λ b. b || list_any (is_final_in key_in) acts) (act-none (keys acts) act a.0) ∙ none_final acts a.1
