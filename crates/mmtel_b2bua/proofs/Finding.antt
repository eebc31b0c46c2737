-- A call to which a signal, a request or a transaction belongs has the mark by which it is looked up.
use Rattle.std.proofs.Common.{◌≡◌, ℕ, ◌+◌, Bool, true, false, List, [], ◌∷◌, ◌++◌, Option, Some, None, refl, sym, ap, arith, inl, inr, ◌⊎◌}
use Rattle.std.proofs.lemmas.Bool.{and_parts, or_cases}
use Rattle.std.proofs.lemmas.Bool.Decides.{nat_tests}
use Rattle.std.proofs.lemmas.Slice.Eq.{bytes_eq-Decides}
use Rattle.std.specs.Prelude.{◌&&◌, ◌==◌, flat_map, if◌then◌else◌, is_some, position}
use Rattle.std.specs.List.{AllByRecursion}
use Rattle.std.specs.Str.{bytes_eq}
use Rattle.mmtel_call.specs.RelayedTransactions.{is_in_flight}
use Rattle.mmtel_call.specs.OtherRequests.{is_abandoned_key, is_answered_invite, is_answered_key, is_key}
use Rattle.mmtel_call.specs.Settled.{has_received, has_sent}
use Rattle.mmtel_call.specs.Table.{current_invite, is_branch}
use Rattle.mmtel_call.specs.declared.calls.Phase.TheVariants.{Detached, Established, Offered, Over}
use Rattle.mmtel_call.specs.declared.calls.Phase.{Phase}
use Rattle.mmtel_output.proofs.Marking.{has_left, has_right, none_found, passes}
use Rattle.mmtel_output.specs.AbandonedInvites.{is_of_branch}
use Rattle.mmtel_output.specs.Marks.{Has}
use Rattle.mmtel_transaction.specs.Hashes.{hash_of}
use Rattle.mmtel_output.specs.declared.sent_invites.SentInvite.{SentInvite}
use Rattle.mmtel_output.specs.declared.marks.Mark.TheVariants.{Branch, ClientTransaction, LocalTag, ServerTransaction}
use Rattle.mmtel_leg.specs.declared.dialogues.Dialogue.{Dialogue}
use Rattle.mmtel_leg.specs.declared.legs.Released.{Released}
use Rattle.mmtel_leg.specs.declared.legs.Released.TheVariants as released
use Rattle.mmtel_leg.specs.Releases.{released_leg}
use Rattle.mmtel_transaction.specs.declared.words.TKey.{TKey}
use Rattle.mmtel_types.specs.declared.sides.Side.{Side}
use Rattle.mmtel_types.specs.declared.sides.Side.TheVariants.{Caller, Callee}
use Rattle.mmtel_b2bua.specs.Entries.{has_received_key, has_sent_branch, is_live}
use Rattle.mmtel_b2bua.specs.Queries.{has_name, has_side, inviting_side, is_key as is_asked, matching_side, side_at, side_by_dialog, side_by_invite_key, side_in_phase, side_in_remaining}
use Rattle.mmtel_b2bua.specs.Marks.{abandoned_marks, answered_marks, client_key_marks, dialog_mark, dialog_marks, invite_marks, live_invite_marks, marks_of, relayed_marks, waiting_marks}
use Rattle.mmtel_b2bua.specs.declared.entries.Entry.{Entry}
use Rattle.mmtel_b2bua.specs.declared.entries.InviteKey.{InviteKey}

-- ---- an INVITE of this branch

equal_hashes : (a b : List ℕ) → bytes_eq a b ≡ true → Branch (hash_of b) ≡ Branch (hash_of a)
equal_hashes a b e = ap (λ (l : List ℕ). Branch (hash_of l)) (sym ((bytes_eq-Decides a b).0 e))

module _ (branch : List ℕ) where
  sent_current : (o : Option SentInvite) → is_branch branch o ≡ true → Has (Branch (hash_of branch)) (waiting_marks o)
  sent_current None e = absurd (let f : false ≡ true = e in cc)
  sent_current (Some i) e = inl (equal_hashes i.branch branch e)

  pub sent_marked : (e : Entry) → has_sent_branch (Some branch) e ≡ true → Has (Branch (hash_of branch)) (marks_of e)
  unfolding has_sent_branch has_sent marks_of
  sent_marked e h =
      let m = Branch (hash_of branch) in
      let c = e.call in
      let w = waiting_marks (current_invite c.phase) in
      let l = flat_map abandoned_marks c.abandoned in
      let t = flat_map answered_marks c.answered_invites in
      let k = flat_map relayed_marks c.relayed in
      let others = live_invite_marks (is_live e) e.invites ++ dialog_marks c.phase in
      let rest = k ++ others in
      elim (or_cases (is_branch branch (current_invite c.phase)) _ h) [
        | inl a ↦ has_left m w (l ++ (t ++ rest)) (sent_current (current_invite c.phase) a)
        | inr b ↦ has_right m w (l ++ (t ++ rest)) (elim (or_cases (is_some (position (is_of_branch branch) c.abandoned)) _ b) [
          | inl f ↦ has_left m l (t ++ rest) (passes abandoned_marks (is_of_branch branch) m (λ x s. inl (equal_hashes x.invite.branch branch s)) c.abandoned f)
          | inr f ↦ has_right m l (t ++ rest) (elim (or_cases (is_some (position (is_answered_invite branch) c.answered_invites)) _ f) [
            | inl g ↦ has_left m t rest (passes answered_marks (is_answered_invite branch) m (λ x s. inl (equal_hashes x.invite.branch branch s)) c.answered_invites g)
            | inr g ↦ has_right m t rest (has_left m k others
                (passes relayed_marks (is_in_flight branch) m (λ x s. inl (equal_hashes x.exchange.invite.branch branch s)) c.relayed g))
          ])
        ])
      ]

-- a response to no INVITE belongs to no call
none_of_all : (es : List Entry) → AllByRecursion (λ e. has_sent_branch None e ≡ false) es
unfolding has_sent_branch
none_of_all [] = tt
none_of_all (e ∷ es) = (refl, none_of_all es)

pub none_sent : (es : List Entry) → None ≡ position (has_sent_branch None) es
none_sent es = none_found marks_of (has_sent_branch None) es (none_of_all es)

-- ---- one that received its response in this transaction

same_number : (a b : ℕ) → (a == b) ≡ true → b ≡ a
same_number a b e = grind (arith, nat_tests)

module _ (key : TKey) where
  received_key : (o : Option TKey) → is_key key o ≡ true → Has (ClientTransaction key.0) (client_key_marks o)
  received_key None e = absurd (let f : false ≡ true = e in cc)
  received_key (Some other) e = inl (ap (λ (n : ℕ). ClientTransaction n) (same_number other.0 key.0 e))

  pub received_marked : (e : Entry) → has_received_key key e ≡ true → Has (ClientTransaction key.0) (marks_of e)
  unfolding has_received_key has_received marks_of
  received_marked e h =
      let m = ClientTransaction key.0 in
      let c = e.call in
      let w = waiting_marks (current_invite c.phase) in
      let l = flat_map abandoned_marks c.abandoned in
      let t = flat_map answered_marks c.answered_invites in
      let rest = flat_map relayed_marks c.relayed ++ (live_invite_marks (is_live e) e.invites ++ dialog_marks c.phase) in
      has_right m w (l ++ (t ++ rest)) (elim (or_cases (is_some (position (is_abandoned_key key) c.abandoned)) _ h) [
        | inl f ↦ has_left m l (t ++ rest) (passes abandoned_marks (is_abandoned_key key) m (λ x s. inr (received_key x.invite.key s)) c.abandoned f)
        | inr f ↦ has_right m l (t ++ rest) (has_left m t rest (passes answered_marks (is_answered_key key) m (λ x s. inr (received_key x.invite.key s)) c.answered_invites f))
      ])

  -- ---- one that a side sent

  asked_one : (x : InviteKey) → is_asked key x ≡ true → Has (ServerTransaction key.0) (invite_marks x)
  unfolding is_asked
  asked_one x e = inl (ap (λ (n : ℕ). ServerTransaction n) (same_number x.key.0 key.0 e))

  asked_at : (o : Option ℕ) (invites : List InviteKey) → is_some (side_at o invites) ≡ true → is_some o ≡ true
  asked_at None invites e = e
  asked_at (Some place) invites e = refl

  asked_among : (b : Bool) (invites : List InviteKey) → is_some (if b then inviting_side key invites else None) ≡ true → Has (ServerTransaction key.0) (live_invite_marks b invites)
  asked_among true invites e = passes invite_marks (is_asked key) (ServerTransaction key.0) asked_one invites (asked_at (position (is_asked key) invites) invites e)
  asked_among false invites e = absurd (let f : false ≡ true = e in cc)

  pub asked_marked : (e : Entry) → has_side (side_by_invite_key key) e ≡ true → Has (ServerTransaction key.0) (marks_of e)
  unfolding side_by_invite_key marks_of
  asked_marked e h =
      let m = ServerTransaction key.0 in
      let c = e.call in
      let w = waiting_marks (current_invite c.phase) in
      let l = flat_map abandoned_marks c.abandoned in
      let t = flat_map answered_marks c.answered_invites in
      let a = live_invite_marks (is_live e) e.invites in
      let d = dialog_marks c.phase in
      let k = flat_map relayed_marks c.relayed in
      has_right m w (l ++ (t ++ (k ++ (a ++ d)))) (has_right m l (t ++ (k ++ (a ++ d)))
      (has_right m t (k ++ (a ++ d)) (has_right m k (a ++ d) (has_left m a d (asked_among (is_live e) e.invites h)))))

-- ---- a dialog of this name

module _ (call_id local remote : List ℕ) where
  named_one : (d : Dialogue) → has_name call_id local remote d ≡ true → LocalTag (hash_of local) ≡ dialog_mark d
  named_one d e =
      let a = (and_parts (bytes_eq d.call_id call_id) (bytes_eq d.local_tag local && bytes_eq d.remote_tag remote) e).1 in
      let b = (and_parts (bytes_eq d.local_tag local) (bytes_eq d.remote_tag remote) a).0 in
      ap (λ (l : List ℕ). LocalTag (hash_of l)) (sym ((bytes_eq-Decides d.local_tag local).0 b))

  by_either : (a b : Bool) → is_some (matching_side a b) ≡ true → (a ≡ true) ⊎ (b ≡ true)
  by_either true b e = inl refl
  by_either false true e = inr refl
  by_either false false e = absurd (let f : false ≡ true = e in cc)

  by_one : (side : Side) (b : Bool) → is_some (if b then Some side else None) ≡ true → b ≡ true
  by_one side true e = refl
  by_one side false e = absurd (let f : false ≡ true = e in cc)

  left_one : (left : Released) → is_some (side_in_remaining call_id local remote left) ≡ true → Has (LocalTag (hash_of local)) (dialog_mark (released_leg left).dialogue ∷ [])
  left_one (released.Caller leg) e = inl (named_one leg.dialogue (by_one Caller (has_name call_id local remote leg.dialogue) e))
  left_one (released.Callee leg) e = inl (named_one leg.dialogue (by_one Callee (has_name call_id local remote leg.dialogue) e))

  named_at : (phase : Phase) → is_some (side_in_phase call_id local remote phase) ≡ true → Has (LocalTag (hash_of local)) (dialog_marks phase)
  named_at (Offered x) e = elim (by_either (has_name call_id local remote x.caller.dialogue) (x.callee.is_early && has_name call_id local remote x.callee.leg.dialogue) e) [
    | inl a ↦ inl (named_one x.caller.dialogue a)
    | inr b ↦ inr (inl (named_one x.callee.leg.dialogue (and_parts x.callee.is_early (has_name call_id local remote x.callee.leg.dialogue) b).1))
  ]
  named_at (Established x stage) e = elim (by_either (has_name call_id local remote x.caller.dialogue) (has_name call_id local remote x.callee.dialogue) e) [
    | inl a ↦ inl (named_one x.caller.dialogue a)
    | inr b ↦ inr (inl (named_one x.callee.dialogue b))
  ]
  named_at (Detached detached) e = left_one detached.remaining e
  named_at (Over cause) e = absurd (let f : false ≡ true = e in cc)

  pub named_marked : (e : Entry) → has_side (side_by_dialog call_id local remote) e ≡ true → Has (LocalTag (hash_of local)) (marks_of e)
  unfolding side_by_dialog marks_of
  named_marked e h =
      let m = LocalTag (hash_of local) in
      let c = e.call in
      let w = waiting_marks (current_invite c.phase) in
      let l = flat_map abandoned_marks c.abandoned in
      let t = flat_map answered_marks c.answered_invites in
      let a = live_invite_marks (is_live e) e.invites in
      let d = dialog_marks c.phase in
      let k = flat_map relayed_marks c.relayed in
      has_right m w (l ++ (t ++ (k ++ (a ++ d)))) (has_right m l (t ++ (k ++ (a ++ d))) (has_right m t (k ++ (a ++ d)) (has_right m k (a ++ d) (has_right m a d (named_at c.phase h)))))
