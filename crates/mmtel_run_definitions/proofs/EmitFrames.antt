-- Commands do not change what was done on calls, conferences and mailboxes.
use Rattle.std.proofs.Common.{◌≡◌, ℕ, List, [], ◌∷◌, refl, ◌∙◌}
use Rattle.mmtel_transaction.specs.declared.words.Emit.{Emit}
use Rattle.mmtel_transaction.specs.declared.words.Emit.TheVariants as emit
use Rattle.mmtel_run_definitions.specs.Transitions.{RunState, with_emit, with_emits}

emit_ops : (at : ℕ) (x : Emit) (w : RunState) → (with_emit at x w).call_ops ≡ w.call_ops
emit_ops at (emit.Ask peer message) w = refl
emit_ops at (emit.Reply key message) w = refl
emit_ops at (emit.Plain peer text) w = refl
emit_ops at (emit.Ack key message) w = refl
emit_ops at (emit.Settled key own) w = refl
emit_ops at (emit.Arm call what when) w = refl
emit_ops at (emit.ArmSeat room seat what when) w = refl

pub with_emits_ops : (at : ℕ) (xs : List Emit) (w : RunState) → (with_emits at xs w).call_ops ≡ w.call_ops
with_emits_ops at [] w = refl
with_emits_ops at (x ∷ xs) w = with_emits_ops at xs (with_emit at x w) ∙ emit_ops at x w

emit_boxes : (at : ℕ) (x : Emit) (w : RunState) → (with_emit at x w).mailbox_ops ≡ w.mailbox_ops
emit_boxes at (emit.Ask peer message) w = refl
emit_boxes at (emit.Reply key message) w = refl
emit_boxes at (emit.Plain peer text) w = refl
emit_boxes at (emit.Ack key message) w = refl
emit_boxes at (emit.Settled key own) w = refl
emit_boxes at (emit.Arm call what when) w = refl
emit_boxes at (emit.ArmSeat room seat what when) w = refl

pub with_emits_boxes : (at : ℕ) (xs : List Emit) (w : RunState) → (with_emits at xs w).mailbox_ops ≡ w.mailbox_ops
with_emits_boxes at [] w = refl
with_emits_boxes at (x ∷ xs) w = with_emits_boxes at xs (with_emit at x w) ∙ emit_boxes at x w

emit_rooms : (at : ℕ) (x : Emit) (w : RunState) → (with_emit at x w).conference_ops ≡ w.conference_ops
emit_rooms at (emit.Ask peer message) w = refl
emit_rooms at (emit.Reply key message) w = refl
emit_rooms at (emit.Plain peer text) w = refl
emit_rooms at (emit.Ack key message) w = refl
emit_rooms at (emit.Settled key own) w = refl
emit_rooms at (emit.Arm call what when) w = refl
emit_rooms at (emit.ArmSeat room seat what when) w = refl

pub with_emits_rooms : (at : ℕ) (xs : List Emit) (w : RunState) → (with_emits at xs w).conference_ops ≡ w.conference_ops
with_emits_rooms at [] w = refl
with_emits_rooms at (x ∷ xs) w = with_emits_rooms at xs (with_emit at x w) ∙ emit_rooms at x w
