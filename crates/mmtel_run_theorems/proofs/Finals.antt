-- The final response of a call to its caller is sent to the peer that sent the INVITE: it is the first final response in the server transaction of that, which is live until then.
use Rattle.std.proofs.Common.{◌≡◌, ◌≤◌, ◌<◌, ℕ, ◌+◌, ◌==◌, ◌&&◌, ◌||◌, not, Bool, true, false, List, [], ◌∷◌, ◌++◌, refl, sym, ap, ◌∙◌, subst, inl, inr, append_assoc, arith}
use Rattle.std.specs.Prelude.{if◌then◌else◌, nat_lt, slice_get, Some}
use Rattle.std.specs.List.{list_any}
use Rattle.std.proofs.lemmas.Bool.{eq-eqb, eqb-true}
use Rattle.mmtel_compose.specs.ReceivedMessages.{status_of as status_in}
use Rattle.mmtel_b2bua_theorems.specs.TracesWithTransfers as transfers
use Rattle.mmtel_b2bua_theorems.specs.TracesWithTransfers.{CallEvent, call_after, emits_after, emits_by}
use Rattle.mmtel_b2bua_theorems.specs.Observed.{labels_after, labels_in}
use Rattle.mmtel_call_services.specs.declared.openings.Opening.{Opening}
use Rattle.mmtel_call_theorems.specs.NoInjection.Emits.{Each}
use Rattle.mmtel_call_theorems.specs.Labels.{Accepted, Invited, Label, Refused, final_label, is_reinvite, label_if, label_of, label_of_result, labels_of, labels_of_targets, request_uri_at, without_relayed_invite}
use Rattle.mmtel_call_theorems.specs.CallTrace.{TraceStart}
use Rattle.mmtel_message.specs.Message.{Message}
use Rattle.mmtel_message.specs.Texts.{message_text}
use Rattle.mmtel_message.specs.declared.messages.Start.{Start as StartLine}
use Rattle.mmtel_precedence.specs.Calls.{Answered, CallResult, Final, NotOffered, OfferState, Offered, OutcomeTarget, Pending}
use Rattle.mmtel_transaction.specs.Results.{peer_of}
use Rattle.mmtel_transaction.specs.Operations.{TransactionOp, DidAck, DidAsk, DidBegin, DidFire, DidHear, DidReply, DidSettle, live, openings}
use Rattle.mmtel_transaction.specs.Heads.{head_of, is_provisional}
use Rattle.mmtel_transaction.specs.Runs.{IsRun}
use Rattle.mmtel_transaction.specs.declared.entries.Entry.{Entry}
use Rattle.mmtel_transaction.specs.declared.words.Emit.{Emit}
use Rattle.mmtel_transaction.specs.declared.words.Emit.TheVariants as emit
use Rattle.mmtel_transaction.specs.declared.words.TKey.{TKey}
use Rattle.mmtel_types.specs.Causes.{status_of}
use Rattle.mmtel_run_definitions.specs.Transitions.{RunState}
use Rattle.mmtel_run_theorems.specs.PendingFinals.{is_final_in}
use Rattle.mmtel_run_theorems.specs.CallOutputs.{FinalIsSent, GoesOut, IsHandedOver, IsOfferedTo}
use Rattle.mmtel_run_theorems.proofs.PendingFinals.{IsWaiting, awaited_before}
use Rattle.mmtel_run_theorems.proofs.CallOutputs.{AreHandedOver, said_at}
use Rattle.mmtel_run_theorems.proofs.CallKeys.{keys}
use Rattle.mmtel_run_theorems.proofs.Replies.{HasReply, IsReply}
use Rattle.mmtel_run_theorems.proofs.NoFinalWhileOffered.{status_read}

-- ---- the number of final responses that are observed

abbrev finals : List Label → ℕ
finals [] = 0
finals (Invited uri ∷ xs) = finals xs
finals (Accepted ∷ xs) = finals xs + 1
finals (Refused code ∷ xs) = finals xs + 1

finals-append : (xs ys : List Label) → finals (xs ++ ys) ≡ finals xs + finals ys
finals-append [] ys = omega arith
finals-append (Invited uri ∷ xs) ys = finals-append xs ys
finals-append (Accepted ∷ xs) ys = omega (arith, finals-append xs ys)
finals-append (Refused code ∷ xs) ys = omega (arith, finals-append xs ys)

finals-but : (xs : List Label) → finals (without_relayed_invite xs) ≡ finals xs
finals-but [] = refl
finals-but (Invited uri ∷ xs) = refl
finals-but (Accepted ∷ xs) = omega (arith, finals-but xs)
finals-but (Refused code ∷ xs) = omega (arith, finals-but xs)

finals-shown : (key : TKey) (x : CallEvent) (out : List Emit) → finals (labels_in key x out) ≡ finals (labels_of key out)
finals-shown key (transfers.Receives x) out = go (is_reinvite x.signal)
  where
    go : (b : Bool) → finals (if b then without_relayed_invite (labels_of key out) else labels_of key out) ≡ finals (labels_of key out)
    go true = finals-but (labels_of key out)
    go false = refl
finals-shown key (transfers.Releases side) out = refl
finals-shown key (transfers.Restores away) out = refl
finals-shown key (transfers.Finishes at output) out = refl

signs-append : (key : TKey) (xs ys : List Emit) → labels_of key (xs ++ ys) ≡ labels_of key xs ++ labels_of key ys
signs-append key [] ys = refl
signs-append key (x ∷ xs) ys =
    ap (λ (signs : List Label). label_of key x ++ signs) (signs-append key xs ys) ∙ sym (append_assoc (label_of key x) (labels_of key xs) (labels_of key ys))

trace-finals : (s : TraceStart) (events : List CallEvent) → finals (labels_of s.arrival.key (emits_after s events)) ≡ finals (labels_after s events)
unfolding emits_after labels_after
trace-finals s [] = refl
trace-finals s (x ∷ earlier) =
    let key = s.arrival.key in
    let out = emits_by s.config x (call_after s earlier) in
    ap finals (signs-append key (emits_after s earlier) out)
    ∙ (finals-append (labels_of key (emits_after s earlier)) (labels_of key out)
    ∙ (ap (λ n. n + finals (labels_of key out)) (trace-finals s earlier)
    ∙ (ap (λ n. finals (labels_after s earlier) + n) (sym (finals-shown key x out)) ∙ sym (finals-append (labels_after s earlier) (labels_in key x out)))))

finals-if : (offer : OfferState) (uri : List ℕ) → finals (label_if offer uri) ≡ 0
finals-if NotOffered uri = refl
finals-if (Offered waiting) uri = refl

finals-targets : (o : Opening) (targets : List OutcomeTarget) → finals (labels_of_targets o targets) ≡ 0
finals-targets o [] = refl
finals-targets o (target ∷ later) =
    let uri = request_uri_at o target.diversion target.uri in
    omega (arith, finals-append (label_if target.offer uri) (labels_of_targets o later), finals-if target.offer uri, finals-targets o later)

finals-code : (code : ℕ) → finals (final_label code) ≤ 1
finals-code code = go (nat_lt code 200) (nat_lt code 300)
  where
    go : (b c : Bool) → finals (if b then [] else if c then Accepted ∷ [] else Refused code ∷ []) ≤ 1
    go true c = omega arith
    go false true = omega arith
    go false false = omega arith

finals-result : (result : CallResult) → finals (label_of_result result) ≤ 1
finals-result Pending = omega arith
finals-result Answered = omega arith
finals-result (Final cause) = finals-code (status_of cause)

-- ---- of one call all final responses in its transaction are one

code-final : (code : ℕ) → is_provisional code ≡ false → 1 ≤ finals (final_label code)
code-final code final = subst (λ b. 1 ≤ finals (if b then [] else if nat_lt code 300 then Accepted ∷ [] else Refused code ∷ [])) (sym final) (go (nat_lt code 300))
  where
    go : (b : Bool) → 1 ≤ finals (if b then Accepted ∷ [] else Refused code ∷ [])
    go true = omega arith
    go false = omega arith

module _ (key : TKey) where
  reply-final : (m : Message StartLine) (x : Emit) → is_provisional (head_of m).status ≡ false → IsReply key.0 m x → 1 ≤ finals (label_of key x)
  reply-final m (emit.Ask peer message) final is = absurd is
  reply-final m (emit.Reply asked message) final is =
      let status : is_provisional (status_in message.start) ≡ false =
      ap (λ (m : Message StartLine). is_provisional (status_in m.start)) is.1 ∙ (ap is_provisional (sym (status_read m)) ∙ final) in
      subst (λ b. 1 ≤ finals (if b then final_label (status_in message.start) else [])) (sym (eq-eqb asked.0 key.0 is.0)) (code-final (status_in message.start) status)
  reply-final m (emit.Plain peer text) final is = absurd is
  reply-final m (emit.Ack asked message) final is = absurd is
  reply-final m (emit.Settled key own) final is = absurd is
  reply-final m (emit.Arm call what at) final is = absurd is
  reply-final m (emit.ArmSeat room seat what at) final is = absurd is

  has-final : (m : Message StartLine) (xs : List Emit) → is_provisional (head_of m).status ≡ false → HasReply key.0 m xs → 1 ≤ finals (labels_of key xs)
  has-final m [] final has = absurd has
  has-final m (x ∷ xs) final (inl is) = omega (arith, finals-append (label_of key x) (labels_of key xs), reply-final m x final is)
  has-final m (x ∷ xs) final (inr has) = omega (arith, finals-append (label_of key x) (labels_of key xs), has-final m xs final has)

  same-reply : (m n : Message StartLine) (x : Emit) → IsReply key.0 m x → IsReply key.0 n x → m ≡ n
  same-reply m n (emit.Ask peer message) is so = absurd is
  same-reply m n (emit.Reply asked message) is so = sym is.1 ∙ so.1
  same-reply m n (emit.Plain peer text) is so = absurd is
  same-reply m n (emit.Ack asked message) is so = absurd is
  same-reply m n (emit.Settled key own) is so = absurd is
  same-reply m n (emit.Arm call what at) is so = absurd is
  same-reply m n (emit.ArmSeat room seat what at) is so = absurd is

  module _ (m n : Message StartLine) (first : is_provisional (head_of m).status ≡ false) (second : is_provisional (head_of n).status ≡ false) where
    two : (a : Message StartLine) (b : Message StartLine) (x : Emit) (xs : List Emit) → is_provisional (head_of a).status ≡ false → is_provisional (head_of b).status ≡ false →
        finals (labels_of key (x ∷ xs)) ≤ 1 → IsReply key.0 a x → HasReply key.0 b xs → ⊥
    two a b x xs fa fb few is has = omega (arith, few, finals-append (label_of key x) (labels_of key xs), reply-final a x fa is, has-final b xs fb has)

    same-final : (xs : List Emit) → finals (labels_of key xs) ≤ 1 → HasReply key.0 m xs → HasReply key.0 n xs → m ≡ n
    same-final [] few has so = absurd has
    same-final (x ∷ xs) few (inl is) (inl so) = same-reply m n x is so
    same-final (x ∷ xs) few (inl is) (inr so) = absurd (two m n x xs first second few is so)
    same-final (x ∷ xs) few (inr has) (inl so) = absurd (two n m x xs second first few so has)
    same-final (x ∷ xs) few (inr has) (inr so) = same-final xs (omega (arith, few, finals-append (label_of key x) (labels_of key xs))) has so

-- ---- the first final response in a transaction

record FirstFinal (k : ℕ) (acts : List TransactionOp) : Type 0 where
  newer : List TransactionOp
  older : List TransactionOp
  m : Message StartLine
  at : ℕ
  all : acts ≡ newer ++ DidReply k m at ∷ older
  final : is_provisional (head_of m).status ≡ false
  none : list_any (is_final_in k) older ≡ false

not-so : {A : Type 0} → false ≡ true → A
not-so h = absurd (let f : false ≡ true = h in cc)

here : (k : ℕ) (c : TransactionOp) (older : List TransactionOp) → list_any (is_final_in k) older ≡ false → (is_final_in k c || false) ≡ true → FirstFinal k (c ∷ older)
here k (DidBegin step) older none h = not-so h
here k (DidHear p m now taken) older none h = not-so h
here k (DidAsk p m now) older none h = not-so h
here k (DidReply j m now) older none h = go (j == k) (is_provisional (head_of m).status) refl refl h
  where
    go : (b c : Bool) → (j == k) ≡ b → is_provisional (head_of m).status ≡ c → ((b && not c) || false) ≡ true → FirstFinal k (DidReply j m now ∷ older)
    go false c same final h = not-so h
    go true true same final h = not-so h
    go true false same final h = record {
      newer = [];
      older = older;
      m = m;
      at = now;
      all = ap (λ j. DidReply j m now ∷ older) (eqb-true j k same);
      final = final;
      none = none;
    }
here k (DidAck j m) older none h = not-so h
here k (DidFire j) older none h = not-so h
here k (DidSettle j own) older none h = not-so h

first-final : (k : ℕ) (acts : List TransactionOp) → list_any (is_final_in k) acts ≡ true → FirstFinal k acts
first-final k [] h = not-so h
first-final k (c ∷ older) h = go (list_any (is_final_in k) older) refl h (λ is. first-final k older is)
  where
    go : (b : Bool) → list_any (is_final_in k) older ≡ b → (is_final_in k c || b) ≡ true → (list_any (is_final_in k) older ≡ true → FirstFinal k older) → FirstFinal k (c ∷ older)
    go true is h before =
        let f : FirstFinal k older = before is in
        record { newer = c ∷ f.newer; older = f.older; m = f.m; at = f.at; all = ap (λ (acts : List TransactionOp). c ∷ acts) f.all; final = f.final; none = f.none }
    go false none h before = here k c older none h

or-true : (b : Bool) → (b || true) ≡ true
or-true true = refl
or-true false = refl

some-final : (k : ℕ) (m : Message StartLine) (at : ℕ) (newer older : List TransactionOp) → is_provisional (head_of m).status ≡ false → list_any (is_final_in k) (newer ++ DidReply k m at ∷ older) ≡ true
some-final k m at [] older final =
    let its : is_final_in k (DidReply k m at) ≡ true = ap (λ b. b && not (is_provisional (head_of m).status)) (eq-eqb k k refl) ∙ ap not final in
    ap (λ b. b || list_any (is_final_in k) older) its
some-final k m at (c ∷ newer) older final = ap (λ b. is_final_in k c || b) (some-final k m at newer older final) ∙ or-true (is_final_in k c)

-- ---- a response that is output was handed to its transaction

handed-so : (w : RunState) (k : ℕ) (m : Message StartLine) (x : Emit) → IsReply k m x → GoesOut w x → (at : ℕ) × IsHandedOver w k m (DidReply k m at)
handed-so w k m (emit.Ask peer message) is g = absurd is
handed-so w k m (emit.Reply key message) is (at, h) =
    (at, subst (λ k. IsHandedOver w k m (DidReply k m at)) is.0 (subst (λ (m : Message StartLine). IsHandedOver w key.0 m (DidReply key.0 m at)) is.1 h))
handed-so w k m (emit.Plain peer text) is g = absurd is
handed-so w k m (emit.Ack key message) is g = absurd is
handed-so w k m (emit.Settled key own) is g = absurd is
handed-so w k m (emit.Arm call what at) is g = absurd is
handed-so w k m (emit.ArmSeat room seat what at) is g = absurd is

handed-in : (w : RunState) (k : ℕ) (m : Message StartLine) (xs : List Emit) → HasReply k m xs → Each (GoesOut w) xs → (at : ℕ) × IsHandedOver w k m (DidReply k m at)
handed-in w k m [] has g = absurd has
handed-in w k m (x ∷ xs) (inl is) g = handed-so w k m x is g.0
handed-in w k m (x ∷ xs) (inr has) g = handed-in w k m xs has g.1

-- ---- for a call

module _ (w : RunState) (s : TraceStart) (events : List CallEvent) (emits : List Emit) (is : emits ≡ emits_after s events) (o : Opening) (targets : List OutcomeTarget) (result : CallResult)
    (shown : labels_after s events ≡ labels_of_targets o targets ++ label_of_result result) (gone : Each (GoesOut w) emits) (said : AreHandedOver w w.actions) (run : IsRun w.actions)
    (e : Entry) (opens : slice_get (openings w.actions) s.arrival.key.0 ≡ Some e) (waits : IsWaiting s.arrival.invite.peer e)
    (own : (newer older : List TransactionOp) (m : Message StartLine) (at : ℕ) → w.actions ≡ newer ++ DidReply s.arrival.key.0 m at ∷ older → HasReply s.arrival.key.0 m emits)
    (below : (newer older : List TransactionOp) (m : Message StartLine) (at : ℕ) → w.actions ≡ newer ++ DidReply s.arrival.key.0 m at ∷ older → s.arrival.key.0 < keys older) where
  abbrev key_in : ℕ
  key_in = s.arrival.key.0

  one-final : finals (labels_of s.arrival.key emits) ≤ 1
  one-final =
      let all : finals (labels_of s.arrival.key emits) ≡ finals (labels_of_targets o targets ++ label_of_result result) =
      ap (λ (emits : List Emit). finals (labels_of s.arrival.key emits)) is ∙ (trace-finals s events ∙ ap finals shown) in
      omega (arith, all, finals-append (labels_of_targets o targets) (label_of_result result), finals-targets o targets, finals-result result)

  -- the first one is sent
  first-offered : (f : FirstFinal key_in w.actions) → IsOfferedTo w s.arrival.invite.peer (message_text f.m)
  first-offered f =
      let parted : w.actions ≡ (f.newer ++ DidReply key_in f.m f.at ∷ []) ++ f.older = f.all ∙ sym (append_assoc f.newer (DidReply key_in f.m f.at ∷ []) f.older) in
      let newer : List TransactionOp = f.newer ++ DidReply key_in f.m f.at ∷ [] in
      let alive : peer_of key_in (live f.older) ≡ Some s.arrival.invite.peer =
      awaited_before s.arrival.invite.peer newer f.older key_in e (subst IsRun parted run) (subst (λ (acts : List TransactionOp). slice_get (openings acts) key_in ≡ Some e) parted opens) waits
      (below f.newer f.older f.m f.at f.all) f.none in
      said_at w f.newer f.older (DidReply key_in f.m f.at) (subst (AreHandedOver w) f.all said) s.arrival.invite.peer alive

  final_offered : (m : Message StartLine) → is_provisional (head_of m).status ≡ false → HasReply key_in m emits → IsOfferedTo w s.arrival.invite.peer (message_text m)
  final_offered m final has =
      let (at, h) = handed-in w key_in m emits has gone in
      let some : list_any (is_final_in key_in) w.actions ≡ true =
      ap (list_any (is_final_in key_in)) h.done ∙ some-final key_in m at h.newer h.older final in
      let f : FirstFinal key_in w.actions = first-final key_in w.actions some in
      let same : f.m ≡ m = same-final s.arrival.key f.m m f.final final emits one-final (own f.newer f.older f.m f.at f.all) has in
      subst (λ (m : Message StartLine). IsOfferedTo w s.arrival.invite.peer (message_text m)) same (first-offered f)

  -- this holds for each response of it
  comes-so : (x : Emit) → ((k : ℕ) (m : Message StartLine) → IsReply k m x → (k == key_in) ≡ true → is_provisional (head_of m).status ≡ false →
      IsOfferedTo w s.arrival.invite.peer (message_text m)) → FinalIsSent w s x
  comes-so (emit.Ask peer message) each = tt
  comes-so (emit.Reply key message) each = each key.0 message (refl, refl)
  comes-so (emit.Plain peer text) each = tt
  comes-so (emit.Ack key message) each = tt
  comes-so (emit.Settled key own) each = tt
  comes-so (emit.Arm call what at) each = tt
  comes-so (emit.ArmSeat room seat what at) each = tt

  all-come : (xs : List Emit) → ((k : ℕ) (m : Message StartLine) → HasReply k m xs → (k == key_in) ≡ true → is_provisional (head_of m).status ≡ false →
      IsOfferedTo w s.arrival.invite.peer (message_text m)) → Each (FinalIsSent w s) xs
  all-come [] each = tt
  all-come (x ∷ xs) each = (comes-so x (λ k m is. each k m (inl is)), all-come xs (λ k m has. each k m (inr has)))

  pub finals_come : Each (FinalIsSent w s) emits
  finals_come = all-come emits (λ k m has same final. final_offered m final (subst (λ k. HasReply k m emits) (eqb-true k key_in same) has))
