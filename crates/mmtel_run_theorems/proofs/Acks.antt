-- From which ACK the header fields of an ACK of a 2xx are: from one that was received, and from no other message.
use Rattle.std.proofs.Common.{◌≡◌, ℕ, List, [], ◌∷◌, ◌++◌, refl, sym, subst, ap, Bool, true, false, Option, Some, None, ◌⊎◌, inl, inr, ◌∙◌, codes}
use Rattle.std.specs.Prelude.{if◌then◌else◌, ◌&&◌}
use Rattle.std.specs.List.{find}
use Rattle.std.specs.Str.{bytes_eq}
use Rattle.mmtel_compose.specs.Requests.{bare_parts, relayed_parts}
use Rattle.mmtel_compose.specs.ReceivedMessages.{MessageView}
use Rattle.mmtel_b2bua.specs.Operations.{TableOp, table_after}
use Rattle.mmtel_b2bua.specs.declared.entries.Entry as calls
use Rattle.mmtel_b2bua_theorems.specs.Acks.{acked_after, acked_at, acked_by}
use Rattle.mmtel_call.specs.declared.calls.Call.{Call}
use Rattle.mmtel_call.specs.declared.calls.Phase.{Phase}
use Rattle.mmtel_call.specs.declared.calls.Phase.TheVariants.{Detached, Established, Offered, Over}
use Rattle.mmtel_call_services.specs.CallConfig.{CallConfigView}
use Rattle.mmtel_call_theorems.specs.NoInjection.Acks.{IsPassedTo, ReceivedAck, received_acks_in}
use Rattle.mmtel_call_theorems.specs.NoInjection.Messages.{HasOwnFields, MessageHasNoInjection}
use Rattle.mmtel_call_theorems.specs.NoInjection.Emits.{Each, EmitHasNoInjection, IsTextOfAck}
use Rattle.mmtel_directory.specs.declared.directories.Directory.{Directory}
use Rattle.mmtel_history.specs.declared.entries.Entry as history
use Rattle.mmtel_leg.specs.Requests.{RequestPartsView, ack_of}
use Rattle.mmtel_leg.specs.declared.dialogues.Dialogue.{Dialogue}
use Rattle.mmtel_message.specs.Faults.{is_method}
use Rattle.mmtel_message.specs.Message.{Line, Message}
use Rattle.mmtel_message.specs.declared.fields.Five.{Five}
use Rattle.mmtel_message.specs.declared.messages.Start.{Start}
use Rattle.mmtel_message.specs.declared.messages.Start.TheVariants.{Request, Status}
use Rattle.mmtel_run_definitions.specs.Calls.{call_config}
use Rattle.mmtel_run_definitions.specs.Events.{EventRecord}
use Rattle.mmtel_transaction.specs.Results.{ack_class, class_of, is_client_of, is_full, is_server_of, request_class, response_class}
use Rattle.mmtel_transaction.specs.Heads.{head_of, head_with, is_invite, is_refusal}
use Rattle.mmtel_transaction.specs.declared.entries.Entry.{Entry}
use Rattle.mmtel_transaction.specs.declared.heads.Head.{Head}
use Rattle.mmtel_transaction.specs.declared.message_class.MessageClass.TheVariants as part
use Rattle.mmtel_transaction.specs.declared.words.Emit.{Emit}
use Rattle.mmtel_transaction.specs.declared.words.Emit.TheVariants as emit
use Rattle.mmtel_trust.specs.Members.{IsIn}
use Rattle.mmtel_trust.specs.HeaderTable.{carried_history, passed_lines, shown_lines}
use Rattle.mmtel_trust.specs.declared.header_table.Facing.{Facing}
use Rattle.mmtel_types.specs.declared.sides.Side.{Side}
use Rattle.mmtel_run_theorems.specs.NoInjection.{IsOwnAck, IsReceivedIn, IsRelayedInCall}
use Rattle.mmtel_run_theorems.proofs.Branches.{text_same}

-- ---- what is classified as the ACK of a 2xx is an ACK

no_response : (m : Head) (o : Option Entry) → part.AckOf2xx ≡ response_class m o → ⊥
no_response m None is = cc
no_response m (Some e) is = by (is_invite e.head && e.is_refused && is_refusal m.status) is
  where
    by : (b : Bool) → part.AckOf2xx ≡ (if b then part.RepeatedFinal e.key else part.Answer e.key) → ⊥
    by true is = cc
    by false is = cc

no_request : (full : Bool) (o : Option Entry) → part.AckOf2xx ≡ request_class full o → ⊥
no_request full (Some e) is = cc
no_request true None is = cc
no_request false None is = cc

only_ack : (b full : Bool) (o : Option Entry) → part.AckOf2xx ≡ (if b then ack_class o else request_class full o) → b ≡ true
only_ack true full o is = refl
only_ack false full o is = absurd (no_request full o is)

taken_by : (start : Start) (five : Option Five) (es : List Entry) → part.AckOf2xx ≡ class_of (head_with start five) es → is_method (codes "ACK") start ≡ true
taken_by (Request method uri) None es is =
    only_ack (bytes_eq method (codes "ACK")) (is_full es) (find (is_server_of (head_with (Request method uri) None)) es) is
taken_by (Request method uri) (Some five) es is =
    only_ack (bytes_eq method (codes "ACK")) (is_full es) (find (is_server_of (head_with (Request method uri) (Some five))) es) is
taken_by (Status code phrase) None es is =
    absurd (no_response (head_with (Status code phrase) None) (find (is_client_of (head_with (Status code phrase) None)) es) is)
taken_by (Status code phrase) (Some five) es is =
    absurd (no_response (head_with (Status code phrase) (Some five)) (find (is_client_of (head_with (Status code phrase) (Some five))) es) is)

pub is_ack_received : (m : Message Start) (es : List Entry) → part.AckOf2xx ≡ class_of (head_of m) es → is_method (codes "ACK") m.start ≡ true
unfolding head_of
is_ack_received m es is = taken_by m.start _ es is

-- ---- and it has no History-Info

no_entries : (f : Facing) (to_trusted : Bool) (h : List history.Entry) (start : Start) → is_method (codes "ACK") start ≡ true → carried_history f to_trusted h start ≡ []
no_entries f to_trusted h (Request method uri) is =
    subst (λ (m : List ℕ). carried_history f to_trusted h (Request m uri) ≡ []) (sym (text_same method (codes "ACK") is)) refl
no_entries f to_trusted h (Status code phrase) is = absurd cc

shown_of : (f : Facing) (to_trusted : Bool) (h : List history.Entry) (start : Start) (ls : List Line) → is_method (codes "ACK") start ≡ true →
    shown_lines f to_trusted h start ls ≡ passed_lines f to_trusted [] ls
shown_of f to_trusted h start ls is = ap (λ (row : List Line). passed_lines f to_trusted row ls) (no_entries f to_trusted h start is)

-- ---- those that were received

each_in : {A : Type 0} (P : A → Type 0) (xs : List A) (x : A) → IsIn x xs → Each P xs → P x
each_in P [] x is each = absurd is
each_in P (y ∷ xs) x (inl same) each = subst P same each.0
each_in P (y ∷ xs) x (inr is) each = each_in P xs x is each.1

in_back : {A : Type 0} (xs ys : List A) (x : A) → IsIn x ys → IsIn x (xs ++ ys)
in_back [] ys x is = is
in_back (y ∷ xs) ys x is = inr (in_back xs ys x is)

module _ (d : Directory) (whole : List EventRecord) where
  -- an ACK of an event
  pub record IsAckOfEvent (said : MessageView) : Type 0 where
    pub received : IsReceivedIn d whole said
    pub is_ack : is_method (codes "ACK") said.parsed.start ≡ true

  abbrev pub AreAcksOfEvents : List ReceivedAck → Type 0
  AreAcksOfEvents acks = Each (λ (acked : ReceivedAck). IsAckOfEvent acked.ack) acks

  in_phase : (config : CallConfigView) (phase : Phase) (c : Call) (side : Side) (said : MessageView) → IsAckOfEvent said → AreAcksOfEvents (received_acks_in config phase c side said)
  in_phase config (Offered x) c side said is = tt
  in_phase config (Established x stage) c side said is = (is, tt)
  in_phase config (Detached detached) c side said is = tt
  in_phase config (Over cause) c side said is = tt

  -- each call that receives it received the ACK of an event
  pub acks_received : (config : CallConfigView) (side : Side) (said : MessageView) (o : Option calls.Entry) → IsAckOfEvent said → AreAcksOfEvents (acked_at config side said o)
  acks_received config side said None is = tt
  acks_received config side said (Some e) is = in_phase config e.call.phase e.call side said is

  -- what was relayed before one more operation
  passed_lines_still : (now : List ReceivedAck) (ops : List TableOp) (op : TableOp) (dialogue : Dialogue) (given : RequestPartsView) →
      acked_after (call_config d) (op ∷ ops) ≡ now ++ acked_after (call_config d) ops → IsRelayedInCall d whole ops dialogue given →
      IsRelayedInCall d whole (op ∷ ops) dialogue given
  passed_lines_still now ops op dialogue given after p = record {
    acked = p.acked;
    in_call = subst (IsIn p.acked) (sym after) (in_back now (acked_after (call_config d) ops) p.acked p.in_call);
    received = p.received;
    is_ack = p.is_ack;
    dialog = p.dialog;
    is = p.is;
  }

  abbrev Passes : List TableOp → Dialogue → RequestPartsView → Type 0
  Passes ops dialogue given = (given ≡ bare_parts given.sip given.branch) ⊎ IsRelayedInCall d whole ops dialogue given

  passes_still : (now : List ReceivedAck) (ops : List TableOp) (op : TableOp) (dialogue : Dialogue) (given : RequestPartsView) →
      acked_after (call_config d) (op ∷ ops) ≡ now ++ acked_after (call_config d) ops → Passes ops dialogue given → Passes (op ∷ ops) dialogue given
  passes_still now ops op dialogue given after (inl none) = inl none
  passes_still now ops op dialogue given after (inr p) = inr (passed_lines_still now ops op dialogue given after p)

  pub ack_still : (ops : List TableOp) (op : TableOp) (text : List ℕ) → IsOwnAck d whole ops text → IsOwnAck d whole (op ∷ ops) text
  ack_still ops op text own = record {
    dialogue = own.dialogue;
    parts = own.parts;
    passes = passes_still (acked_by (call_config d) op (table_after (call_config d) ops).entries) ops op own.dialogue own.parts refl own.passes;
    lines = own.lines;
    is = own.is;
  }

  -- ---- an ACK that is output by an operation on calls

  gives : (ops : List TableOp) (dialogue : Dialogue) (given : RequestPartsView) → AreAcksOfEvents (acked_after (call_config d) ops) → IsPassedTo (acked_after (call_config d) ops) dialogue given →
      Passes ops dialogue given
  gives ops dialogue given incoming (inl none) = inl none
  gives ops dialogue given incoming (inr p) =
      let one : IsAckOfEvent p.received.ack = each_in (λ (acked : ReceivedAck). IsAckOfEvent acked.ack) (acked_after (call_config d) ops) p.received p.among incoming in
      inr (record {
        acked = p.received;
        in_call = p.among;
        received = one.received;
        is_ack = one.is_ack;
        dialog = p.dialog;
        is =
            p.is
            ∙ ap (λ (ls : List Line). relayed_parts given.sip given.branch ls p.received.ack.parsed)
            (shown_of p.received.facing p.received.to_trusted p.history p.received.ack.parsed.start p.received.ack.parsed.lines one.is_ack);
      })

  pub own_ack : ((m : Message Start) → MessageHasNoInjection m → HasOwnFields m) → (ops : List TableOp) (text : List ℕ) → AreAcksOfEvents (acked_after (call_config d) ops) →
      IsTextOfAck (acked_after (call_config d) ops) text → IsOwnAck d whole ops text
  own_ack own_lines ops text incoming is = record {
    dialogue = is.dialogue;
    parts = is.parts;
    passes = gives ops is.dialogue is.parts incoming is.passes;
    lines = own_lines (ack_of is.dialogue is.parts) is.no_injection;
    is = is.is;
  }

-- ---- conferences relay none

given_more : (acks : List ReceivedAck) (dialogue : Dialogue) (given : RequestPartsView) → IsPassedTo [] dialogue given → IsPassedTo acks dialogue given
given_more acks dialogue given (inl none) = inl none
given_more acks dialogue given (inr p) = absurd p.among

emit_more : (acks : List ReceivedAck) (x : Emit) → EmitHasNoInjection [] x → EmitHasNoInjection acks x
emit_more acks (emit.Ask peer m) is = is
emit_more acks (emit.Reply key m) is = is
emit_more acks (emit.Plain peer text) is =
    record { dialogue = is.dialogue; parts = is.parts; passes = given_more acks is.dialogue is.parts is.passes; no_injection = is.no_injection; is = is.is }
emit_more acks (emit.Ack key m) is = is
emit_more acks (emit.Settled key own) is = is
emit_more acks (emit.Arm call what at) is = is
emit_more acks (emit.ArmSeat room seat what at) is = is

pub emits_more : (acks : List ReceivedAck) (xs : List Emit) → Each (EmitHasNoInjection []) xs → Each (EmitHasNoInjection acks) xs
emits_more acks [] each = tt
emits_more acks (x ∷ xs) each = (emit_more acks x each.0, emits_more acks xs each.1)
