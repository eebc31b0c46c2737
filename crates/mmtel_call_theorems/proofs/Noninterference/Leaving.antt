-- Transitions on requests for which the call does not wait use public parts alone.
use Rattle.std.proofs.Common.{◌≡◌, ℕ, ◌==◌, ◌||◌, Bool, true, false, not, List, [], ◌∷◌, ◌++◌, refl, ap, sym, ◌∙◌, map, cond, codes, length, subst, Option, Some, None}
use Rattle.std.proofs.lemmas.List.{map-append}
use Rattle.std.specs.Option.{option_map}
use Rattle.std.specs.Str.{bytes_eq}
use Rattle.std.specs.Prelude.{nat_lt, option_to_list, position, slice_get}
use Rattle.mmtel_compose.specs.Attempts.{as_callee}
use Rattle.mmtel_compose.specs.ReceivedMessages.{MessageView, status_of}
use Rattle.mmtel_output.specs.SentInvites.{early_remote, with_key}
use Rattle.mmtel_output.specs.AbandonedInvites as abandoned_invites
use Rattle.mmtel_output.specs.AbandonedInvites.{AfterResponse, after_due_cancel, after_provisional, dialogue_of_success, ended_dialog}
use Rattle.mmtel_output.specs.AbandonedInvites.{fork_at, is_dialog_of_tag, is_of_branch, on_response, on_success, on_success_in, with_invite}
use Rattle.mmtel_output.specs.Sending.{with_ack, with_bye, with_cancel, with_final_ack}
use Rattle.mmtel_output.specs.declared.outputs.StepOutput.{StepOutput}
use Rattle.mmtel_output.specs.declared.sent_invites.SentInvite.{SentInvite}
use Rattle.mmtel_output.specs.declared.sent_invites.AbandonedInvite.{AbandonedInvite}
use Rattle.mmtel_leg.specs.Dialogues.{after_request, with_remote}
use Rattle.mmtel_leg.specs.Remotes.{remote_of}
use Rattle.mmtel_leg.specs.declared.dialogues.Dialogue.{Dialogue}
use Rattle.mmtel_leg.specs.declared.remotes.Remote.{Remote}
use Rattle.mmtel_rules.specs.declared.values.Identities2.{Identities2}
use Rattle.mmtel_transaction.specs.Equivalence.{blank_if, blank_maybe}
use Rattle.mmtel_transaction.specs.declared.words.Emit.TheVariants as emit
use Rattle.mmtel_transaction.specs.declared.words.TKey.{TKey}
use Rattle.mmtel_trust.specs.PrivateFields.{private_fields_in}
use Rattle.mmtel_types.specs.Sides.{other_side}
use Rattle.mmtel_types.specs.declared.numbers.Peer.{Peer}
use Rattle.mmtel_types.specs.declared.sides.Side.TheVariants.{Callee}
use Rattle.mmtel_call_services.specs.CallConfig.{CallConfigView, trusts}
use Rattle.mmtel_call.specs.declared.calls.Call.{Call}
use Rattle.mmtel_call.specs.declared.calls.RelayedTransaction.{RelayedTransaction}
use Rattle.mmtel_call.specs.declared.calls.Phase.{Phase}
use Rattle.mmtel_call.specs.declared.calls.AnsweredInvite.{AnsweredInvite}
use Rattle.mmtel_call.specs.declared.calls.Phase.TheVariants.{Detached, Established, Offered, Over}
use Rattle.mmtel_call.specs.declared.calls.Stage.TheVariants.{Answered, Departing, Reinviting, Stable}
use Rattle.mmtel_call.specs.Closing.{StepResult, step_result}
use Rattle.mmtel_call.specs.RelayedTransactions.{is_in_flight, on_response_in_flight, on_timeout_in_flight, service_in}
use Rattle.mmtel_call.specs.OtherRequests.{answered_after, as_abandoned, is_answered_invite, is_fork, is_stable, is_success, on_forked_response, on_other_response}
use Rattle.mmtel_call.specs.OtherRequests.{on_other_response_at, on_other_timeout, on_other_timeout_at, on_response_abandoned, on_response_answered, on_response_answered_at}
use Rattle.mmtel_call.specs.OtherRequests.{on_retransmitted_success, with_abandoned_rest, with_answered_rest, with_retransmitted_ack, without, without_at, without_timed_out}
use Rattle.mmtel_call_theorems.specs.Noninterference.PublicCall.{nobody, public_abandoned, public_answered, public_call, public_dialog, public_part, public_phase, public_relayed, public_remote_side, public_sent_invite}
use Rattle.mmtel_call_theorems.specs.Noninterference.Premises.{Fits, HasNothingPrivate, IsResponseOf, MayReceiveOther, in_flight_is_from_own_peers}
use Rattle.mmtel_call_theorems.specs.Noninterference.Roles.{Role, private_fields, without_private}
use Rattle.mmtel_call_theorems.specs.Noninterference.Transitions.{ResponsesToOthers, TimeoutsOfOthers}
use Rattle.mmtel_call_theorems.specs.Noninterference.Observations.{EquivalentOutputs, EquivalentSteps, TextSent, Trust, trust_of}
use Rattle.mmtel_call_theorems.proofs.Noninterference.Across.{acked-final}
use Rattle.mmtel_call_theorems.proofs.Noninterference.Dismissals.{landed-equivalent, timed-out-equivalent}
use Rattle.mmtel_call_theorems.proofs.Noninterference.Idempotence as once
use Rattle.mmtel_call_theorems.proofs.Noninterference.Idempotence.{abandoned_again, call_once, dialog_again, invite_again, map_again}
pub use Rattle.mmtel_call_theorems.proofs.Noninterference.Places.{found, got, listed, long, rest_of}
use Rattle.mmtel_call_theorems.proofs.Noninterference.Ringing.{met_equivalent, said_if}
use Rattle.mmtel_call_theorems.proofs.Noninterference.Transitions.{on-equivalent, on-equivalent-by, step-if}
use Rattle.mmtel_call_theorems.proofs.Noninterference.Sent.{Heads, acked-equivalent, asked-equivalent, cancel-equivalent, emitted-equivalent, same_output}
use Rattle.mmtel_call_theorems.proofs.Noninterference.CopiedLines.{met_public, tag_by}

-- ---- a list from which one item is removed

without_map : {A : Type 0} (f : A → A) (o : Option ℕ) (xs : List A) → without o (map f xs) ≡ map f (without o xs)
without_map f None xs = refl
without_map f (Some at) xs = rest_of f at xs

pub without_found : {A : Type 0} (f : A → A) (p : A → Bool) → ((x : A) → p (f x) ≡ p x) → (xs : List A) → without (position p (map f xs)) (map f xs) ≡ map f (without (position p xs) xs)
without_found f p same xs = ap (λ o. without o (map f xs)) (found f p same xs) ∙ without_map f (position p xs) xs

-- and perhaps another one is placed last
pub left_over : {A : Type 0} (f : A → A) → ((x : A) → f (f x) ≡ f x) → (at : ℕ) (xs : List A) (o p : Option A) → option_map f o ≡ option_map f p →
    map f (without_at at (map f xs) ++ option_to_list o) ≡ map f (without_at at xs ++ option_to_list p)
left_over f again at xs o p e =
    map-append f (without_at at (map f xs)) (option_to_list o)
    ∙ (ap (λ l. map f l ++ map f (option_to_list o)) (rest_of f at xs)
    ∙ (ap (λ l. l ++ map f (option_to_list o)) (map_again f again (without_at at xs))
    ∙ (ap (λ l. map f (without_at at xs) ++ l) (listed f o ∙ (ap (λ q. option_to_list q) e ∙ sym (listed f p)))
    ∙ sym (map-append f (without_at at xs) (option_to_list p)))))

-- ---- outputs one after another

pub outputs-back : (t : Trust) (x y : StepOutput) → EquivalentOutputs t x y → EquivalentOutputs t y x
outputs-back t x y a = record { tokens = sym a.tokens; rows = sym a.rows; out = sym a.out }

pub outputs-then : (t : Trust) (x y z : StepOutput) → EquivalentOutputs t x y → EquivalentOutputs t y z → EquivalentOutputs t x z
outputs-then t x y z a b = record { tokens = a.tokens ∙ b.tokens; rows = a.rows ∙ b.rows; out = a.out ∙ b.out }

-- what remains of an INVITE, and the output
pub record RestsEquivalent (t : Trust) (one other : AfterResponse) : Type 0 where
  pub remaining : option_map (public_abandoned t.peer) one.remaining ≡ option_map (public_abandoned t.peer) other.remaining
  pub output : EquivalentOutputs t one.output other.output

module _ (heads : Heads) (config : CallConfigView) (keys : TKey → Bool) where
  abbrev T : Trust
  T = trust_of config keys

  abbrev known : Peer → Bool
  known = λ peer. trusts config peer

  rest-if : (b : Bool) (p q v w : AfterResponse) → RestsEquivalent T p v → RestsEquivalent T q w → RestsEquivalent T (cond b p q) (cond b v w)
  rest-if true p q v w e f = e
  rest-if false p q v w e f = f

  -- ---- ACK and BYE in dialogs of one public part

  acked-like : (d e : Dialogue) (x y : StepOutput) → public_dialog known d ≡ public_dialog known e → EquivalentOutputs T x y → EquivalentOutputs T (with_ack config.sip d x) (with_ack config.sip e y)
  acked-like d e x y same a =
      outputs-then T (with_ack config.sip d x) (with_ack config.sip (public_dialog known d) x) (with_ack config.sip e y)
      (outputs-back T (with_ack config.sip (public_dialog known d) x) (with_ack config.sip d x) (acked-equivalent heads T config.sip d x x (same_output T x)))
      (subst (λ (z : Dialogue). EquivalentOutputs T (with_ack config.sip z x) (with_ack config.sip e y)) (sym same) (acked-equivalent heads T config.sip e x y a))

  bye-like : (d e : Dialogue) (x y : StepOutput) → public_dialog known d ≡ public_dialog known e → EquivalentOutputs T x y → EquivalentOutputs T (with_bye config.sip d x) (with_bye config.sip e y)
  bye-like d e x y same a =
      outputs-then T (with_bye config.sip d x) (with_bye config.sip (public_dialog known d) x) (with_bye config.sip e y)
      (outputs-back T (with_bye config.sip (public_dialog known d) x) (with_bye config.sip d x) (asked-equivalent heads T config.sip (codes "BYE") d [] [] x x (same_output T x)))
      (subst (λ (z : Dialogue). EquivalentOutputs T (with_bye config.sip z x) (with_bye config.sip e y)) (sym same) (asked-equivalent heads T config.sip (codes "BYE") e [] [] x y a))

  -- ---- a 2xx

  tag_same : (role : Role) (m : MessageView) → (remote_of Callee (without_private role m).parsed.lines).tag ≡ (remote_of Callee m.parsed.lines).tag
  tag_same role m = tag_by m.parsed.trusted (private_fields_in m.parsed.start (private_fields role m.parsed)) m.parsed.lines

  -- the early dialog, or the one that the INVITE began
  begun_if : (b : Bool) (asked : ℕ) (said : Remote) (d : Dialogue) (role : Role) (m : MessageView) → (known d.peer ≡ false → HasNothingPrivate role m) →
      public_dialog known (with_remote (cond b (with_remote (record (as_callee (public_dialog known d)) { local_cseq = asked }) (public_remote_side (known d.peer) said)) (as_callee (public_dialog known d)))
      (remote_of Callee (without_private role m).parsed.lines))
      ≡ public_dialog known (with_remote (cond b (with_remote (record (as_callee d) { local_cseq = asked }) said) (as_callee d)) (remote_of Callee m.parsed.lines))
  begun_if true asked said d role m told =
      ap (λ (z : Dialogue). public_dialog known (with_remote z (remote_of Callee (without_private role m).parsed.lines))) (met_public (known d.peer) (record (as_callee d) { local_cseq = asked }) said)
      ∙ met_equivalent heads config keys (with_remote (record (as_callee d) { local_cseq = asked }) said) role m told
  begun_if false asked said d role m told = met_equivalent heads config keys (as_callee d) role m told

  made_same : (within : Bool) (early : Option Remote) (asked : ℕ) (d : Dialogue) (role : Role) (m : MessageView) → (known d.peer ≡ false → HasNothingPrivate role m) →
      public_dialog known (dialogue_of_success within (option_map (public_remote_side (known d.peer)) early) asked (public_dialog known d) (remote_of Callee (without_private role m).parsed.lines))
      ≡ public_dialog known (dialogue_of_success within early asked d (remote_of Callee m.parsed.lines))
  made_same true early asked d role m told = dialog_again known d
  made_same false None asked d role m told = met_equivalent heads config keys (as_callee d) role m told
  made_same false (Some said) asked d role m told =
      ap (λ (tag : List ℕ). public_dialog known (with_remote (cond (bytes_eq said.tag tag) (with_remote (record (as_callee (public_dialog known d)) { local_cseq = asked }) (public_remote_side (known d.peer) said))
      (as_callee (public_dialog known d))) (remote_of Callee (without_private role m).parsed.lines)))
      (tag_same role m)
      ∙ begun_if (bytes_eq said.tag (remote_of Callee m.parsed.lines).tag) asked said d role m told

  ends-equivalent : (l : AbandonedInvite) (d e : Dialogue) (one other : StepOutput) → public_dialog known d ≡ public_dialog known e → EquivalentOutputs T one other →
      RestsEquivalent T (abandoned_invites.after_ack_and_bye config.sip (public_abandoned known l) d one) (abandoned_invites.after_ack_and_bye config.sip l e other)
  ends-equivalent l d e one other same a =
      let i : SentInvite = l.invite in
      record {
        remaining =
            ap (λ (ds : List Dialogue). Some (with_invite l (record (public_sent_invite known (public_sent_invite known i)) { forks = ds })))
            (map-append (public_dialog known) (map (public_dialog known) i.forks) (after_request d (codes "BYE") ∷ [])
            ∙ (ap (λ (x : List Dialogue). x ++ public_dialog known (after_request d (codes "BYE")) ∷ []) (map_again (public_dialog known) (dialog_again known) i.forks)
            ∙ (ap (λ (z : Dialogue). map (public_dialog known) i.forks ++ after_request z (codes "BYE") ∷ []) same
            ∙ sym (map-append (public_dialog known) i.forks (after_request e (codes "BYE") ∷ [])))))
            ∙ ap (λ (j : SentInvite). Some (with_invite l (record j { forks = map (public_dialog known) (i.forks ++ after_request e (codes "BYE") ∷ []) }))) (once.invitation_again known i);
        output = bye-like d e (with_ack config.sip d one) (with_ack config.sip e other) same (acked-like d e one other same a);
      }

  success-by : (o : Option Dialogue) (l : AbandonedInvite) (role : Role) (m : MessageView) (one other : StepOutput) → (known l.invite.dialogue.peer ≡ false → HasNothingPrivate role m) → EquivalentOutputs T one other →
      RestsEquivalent T (on_success_in config.sip (public_abandoned known l) (remote_of Callee (without_private role m).parsed.lines) (option_map (public_dialog known) o) one)
      (on_success_in config.sip l (remote_of Callee m.parsed.lines) o other)
  success-by None l role m one other told a =
      let i : SentInvite = l.invite in
      ends-equivalent l (dialogue_of_success l.in_dialog (public_sent_invite known i).early i.early_cseq (public_dialog known i.dialogue) (remote_of Callee (without_private role m).parsed.lines))
      (dialogue_of_success l.in_dialog i.early i.early_cseq i.dialogue (remote_of Callee m.parsed.lines)) one other
      (made_same l.in_dialog i.early i.early_cseq i.dialogue role m told) a
  success-by (Some d) l role m one other told a = record {
    remaining = ap (λ (x : AbandonedInvite). Some x) (abandoned_again known l);
    output = acked-equivalent heads T config.sip d one other a;
  }

  ended_same : (l : AbandonedInvite) (tag : List ℕ) → ended_dialog (public_abandoned known l) tag ≡ option_map (public_dialog known) (ended_dialog l tag)
  ended_same l tag =
      ap (λ (o : Option ℕ). fork_at (map (public_dialog known) l.invite.forks) o) (found (public_dialog known) (is_dialog_of_tag l.in_dialog tag) (λ d. refl) l.invite.forks)
      ∙ forked_at (position (is_dialog_of_tag l.in_dialog tag) l.invite.forks)
    where
      forked_at : (o : Option ℕ) → fork_at (map (public_dialog known) l.invite.forks) o ≡ option_map (public_dialog known) (fork_at l.invite.forks o)
      forked_at None = refl
      forked_at (Some at) = got (public_dialog known) l.invite.forks at

  success-equivalent : (l : AbandonedInvite) (role : Role) (m : MessageView) (one other : StepOutput) → (known l.invite.dialogue.peer ≡ false → HasNothingPrivate role m) → EquivalentOutputs T one other →
      RestsEquivalent T (on_success config.sip (public_abandoned known l) (remote_of Callee (without_private role m).parsed.lines) one) (on_success config.sip l (remote_of Callee m.parsed.lines) other)
  success-equivalent l role m one other told a =
      let r : Remote = remote_of Callee (without_private role m).parsed.lines in
      let s : Remote = remote_of Callee m.parsed.lines in
      subst (λ (o : Option Dialogue). RestsEquivalent T (on_success_in config.sip (public_abandoned known l) r o one) (on_success config.sip l s other))
      (sym (ap (λ (tag : List ℕ). ended_dialog (public_abandoned known l) tag) (tag_same role m) ∙ ended_same l s.tag))
      (success-by (ended_dialog l s.tag) l role m one other told a)

  -- ---- any response to an abandoned INVITE

  late-equivalent : (l : AbandonedInvite) (one other : StepOutput) → EquivalentOutputs T one other → RestsEquivalent T (after_due_cancel config.sip (public_abandoned known l) one) (after_due_cancel config.sip l other)
  late-equivalent l one other a =
      let i : SentInvite = l.invite in
      let m : AbandonedInvite = with_invite l (record i { cancelled = true }) in
      rest-if i.cancelled (record { remaining = Some (public_abandoned known l); output = one }) (record { remaining = Some (public_abandoned known m); output = with_cancel config.sip (public_sent_invite known i) one })
      (record { remaining = Some l; output = other }) (record { remaining = Some m; output = with_cancel config.sip i other })
      (record { remaining = ap (λ (x : AbandonedInvite). Some x) (abandoned_again known l); output = a })
      (record { remaining = ap (λ (x : AbandonedInvite). Some x) (abandoned_again known m); output = cancel-equivalent heads T config.sip i one other a })

  rests-back : (x y : AfterResponse) → RestsEquivalent T x y → RestsEquivalent T y x
  rests-back x y a = record { remaining = sym a.remaining; output = outputs-back T x.output y.output a.output }

  rests-then : (x y z : AfterResponse) → RestsEquivalent T x y → RestsEquivalent T y z → RestsEquivalent T x z
  rests-then x y z a b = record { remaining = a.remaining ∙ b.remaining; output = outputs-then T x.output y.output z.output a.output b.output }

  late-like : (l m : AbandonedInvite) (one other : StepOutput) → public_abandoned known l ≡ public_abandoned known m → EquivalentOutputs T one other →
      RestsEquivalent T (after_due_cancel config.sip l one) (after_due_cancel config.sip m other)
  late-like l m one other same a =
      rests-then (after_due_cancel config.sip l one) (after_due_cancel config.sip (public_abandoned known l) one) (after_due_cancel config.sip m other)
      (rests-back (after_due_cancel config.sip (public_abandoned known l) one) (after_due_cancel config.sip l one) (late-equivalent l one one (same_output T one)))
      (subst (λ (z : AbandonedInvite). RestsEquivalent T (after_due_cancel config.sip z one) (after_due_cancel config.sip m other)) (sym same) (late-equivalent m one other a))

  -- the remote side in a late provisional response
  early_same : (code : ℕ) (trusted : Bool) (role : Role) (m : MessageView) → (trusted ≡ false → HasNothingPrivate role m) →
      option_map (public_remote_side trusted) (early_remote code (remote_of Callee (without_private role m).parsed.lines)) ≡ option_map (public_remote_side trusted) (early_remote code (remote_of Callee m.parsed.lines))
  early_same code trusted role m told =
      ap (λ (tag : List ℕ). option_map (public_remote_side trusted) (cond (nat_lt code 101 || length tag == 0) None (Some (remote_of Callee (without_private role m).parsed.lines)))) (tag_same role m)
      ∙ said_if heads config keys (nat_lt code 101 || length (remote_of Callee m.parsed.lines).tag == 0) trusted role m told

  provisional_same : (key : TKey) (l : AbandonedInvite) (role : Role) (m : MessageView) → (known l.invite.dialogue.peer ≡ false → HasNothingPrivate role m) →
      public_abandoned known (after_provisional key (without_private role m).parsed (public_abandoned known l)) ≡ public_abandoned known (after_provisional key m.parsed l)
  provisional_same key l role m told =
      ap (λ (i : SentInvite). with_invite l i)
      (invite_again known key l.invite (early_remote (status_of m.parsed.start) (remote_of Callee (without_private role m).parsed.lines)) (early_remote (status_of m.parsed.start) (remote_of Callee m.parsed.lines))
      (early_same (status_of m.parsed.start) (known l.invite.dialogue.peer) role m told))

  pub response-equivalent : (key : TKey) (l : AbandonedInvite) (role : Role) (m : MessageView) (one other : StepOutput) → IsResponseOf T key l.invite.dialogue.peer role m → EquivalentOutputs T one other →
      RestsEquivalent T (on_response config.sip key (without_private role m).parsed (public_abandoned known l) one) (on_response config.sip key m.parsed l other)
  response-equivalent key l role m one other answer a =
      let n : MessageView = without_private role m in
      let one_after : AbandonedInvite = after_provisional key n.parsed (public_abandoned known l) in
      let other_after : AbandonedInvite = after_provisional key m.parsed l in
      let told : AbandonedInvite = with_invite l (with_key key l.invite) in
      let gone : AfterResponse = record { remaining = None; output = with_final_ack config.sip key (public_sent_invite known l.invite) n.parsed one } in
      let over : AfterResponse = record { remaining = None; output = with_final_ack config.sip key l.invite m.parsed other } in
      let p : AfterResponse = on_success config.sip (public_abandoned known told) (remote_of Callee n.parsed.lines) one in
      let q : AfterResponse = on_success config.sip told (remote_of Callee m.parsed.lines) other in
      rest-if (nat_lt (status_of m.parsed.start) 200) (after_due_cancel config.sip one_after one) (cond (nat_lt (status_of m.parsed.start) 300) p gone) (after_due_cancel config.sip other_after other)
      (cond (nat_lt (status_of m.parsed.start) 300) q over)
      (late-like one_after other_after one other (provisional_same key l role m answer.nothing_private) a)
      (rest-if (nat_lt (status_of m.parsed.start) 300) p gone q over
      (success-equivalent told role m one other answer.nothing_private a)
      (record { remaining = refl; output = acked-final heads config keys key l.invite role m one other answer a }))

  abandoned-equivalent : (at : ℕ) (o : Option AbandonedInvite) (who : Identities2) (key : TKey) (role : Role) (m : MessageView) (c : Call) (one other : StepOutput) →
      ((l : AbandonedInvite) → o ≡ Some l → IsResponseOf T key l.invite.dialogue.peer role m) → EquivalentOutputs T one other →
      EquivalentSteps T (on_response_abandoned config key (without_private role m) at (option_map (public_abandoned known) o) (public_call known who c) one) (on_response_abandoned config key m at o c other)
  abandoned-equivalent at None who key role m c one other answer a = on-equivalent heads config keys who c one other a
  abandoned-equivalent at (Some l) who key role m c one other answer a =
      let rests : RestsEquivalent T (on_response config.sip key (without_private role m).parsed (public_abandoned known l) one) (on_response config.sip key m.parsed l other) =
      response-equivalent key l role m one other (answer l refl) a in
      record {
        call =
            ap (λ (ls : List AbandonedInvite). record (public_part known (public_call known who c)) { abandoned = ls })
            (left_over (public_abandoned known) (abandoned_again known) at c.abandoned (on_response config.sip key (without_private role m).parsed (public_abandoned known l) one).remaining
            (on_response config.sip key m.parsed l other).remaining rests.remaining)
            ∙ ap (λ (z : Call). record z { abandoned = map (public_abandoned known) (with_abandoned_rest at (on_response config.sip key m.parsed l other) c).call.abandoned }) (call_once known nobody who c);
        output = rests.output;
      }

  -- ---- an INVITE that had a 2xx

  answered_left : (t : AnsweredInvite) (o p : Option AbandonedInvite) → option_map (public_abandoned known) o ≡ option_map (public_abandoned known) p →
      option_map (public_answered known) (answered_after (public_answered known t) o) ≡ option_map (public_answered known) (answered_after t p)
  answered_left t None None e = refl
  answered_left t None (Some l) e = absurd cc
  answered_left t (Some l) None e = absurd cc
  answered_left t (Some l) (Some m) e =
      let same : public_abandoned known l ≡ public_abandoned known m = cc in
      ap (λ (x : AbandonedInvite). Some (record t { invite = x.invite })) same

  stable_same : (p : Phase) → is_stable (public_phase known p) ≡ is_stable p
  stable_same (Offered x) = refl
  stable_same (Established x (Answered side success)) = refl
  stable_same (Established x (Departing side success)) = refl
  stable_same (Established x Stable) = refl
  stable_same (Established x (Reinviting side q)) = refl
  stable_same (Detached detached) = refl
  stable_same (Over cause) = refl

  again-equivalent : (t : AnsweredInvite) (o : Option (List ℕ)) (one other : StepOutput) → EquivalentOutputs T one other →
      EquivalentOutputs T (with_retransmitted_ack (public_answered known t) (blank_maybe (known t.invite.dialogue.peer) o) one) (with_retransmitted_ack t o other)
  again-equivalent t None one other a = a
  again-equivalent t (Some text) one other a =
      emitted-equivalent T (emit.Plain t.invite.dialogue.peer (blank_if (known t.invite.dialogue.peer) text)) (emit.Plain t.invite.dialogue.peer text) one other
      (ap (λ (v : List ℕ). TextSent t.invite.dialogue.peer v) (once.text_again (known t.invite.dialogue.peer) text)) a

  again-if : (b : Bool) (t : AnsweredInvite) (one other : StepOutput) → EquivalentOutputs T one other →
      EquivalentOutputs T (cond b (with_retransmitted_ack (public_answered known t) (public_answered known t).invite.ack one) one) (cond b (with_retransmitted_ack t t.invite.ack other) other)
  again-if true t one other a = again-equivalent t t.invite.ack one other a
  again-if false t one other a = a

  repeats-equivalent : (t : AnsweredInvite) (who : Identities2) (c : Call) (one other : StepOutput) → EquivalentOutputs T one other →
      EquivalentSteps T (on_retransmitted_success (public_answered known t) (public_call known who c) one) (on_retransmitted_success t c other)
  repeats-equivalent t who c one other a =
      subst (λ (b : Bool). EquivalentSteps T (step_result (public_call known who c) (cond b (with_retransmitted_ack (public_answered known t) (public_answered known t).invite.ack one) one))
      (on_retransmitted_success t c other)) (sym (stable_same c.phase))
      (on-equivalent heads config keys who c (cond (is_stable c.phase) (with_retransmitted_ack (public_answered known t) (public_answered known t).invite.ack one) one)
      (cond (is_stable c.phase) (with_retransmitted_ack t t.invite.ack other) other) (again-if (is_stable c.phase) t one other a))

  forks-equivalent : (at : ℕ) (t : AnsweredInvite) (who : Identities2) (key : TKey) (role : Role) (m : MessageView) (c : Call) (one other : StepOutput) →
      IsResponseOf T key t.invite.dialogue.peer role m → EquivalentOutputs T one other →
      EquivalentSteps T (on_forked_response config key (without_private role m) at (public_answered known t) (public_call known who c) one) (on_forked_response config key m at t c other)
  forks-equivalent at t who key role m c one other answer a =
      let rests : RestsEquivalent T (on_response config.sip key (without_private role m).parsed (public_abandoned known (as_abandoned t)) one) (on_response config.sip key m.parsed (as_abandoned t) other) =
      response-equivalent key (as_abandoned t) role m one other answer a in
      record {
        call =
            ap (λ (ts : List AnsweredInvite). record (public_part known (public_call known who c)) { answered_invites = ts })
            (left_over (public_answered known) (once.answered_again known) at c.answered_invites
            (answered_after (public_answered known t) (on_response config.sip key (without_private role m).parsed (public_abandoned known (as_abandoned t)) one).remaining)
            (answered_after t (on_response config.sip key m.parsed (as_abandoned t) other).remaining)
            (answered_left t (on_response config.sip key (without_private role m).parsed (public_abandoned known (as_abandoned t)) one).remaining
            (on_response config.sip key m.parsed (as_abandoned t) other).remaining rests.remaining))
            ∙ ap (λ (z : Call). record z { answered_invites = map (public_answered known) (with_answered_rest at t (on_response config.sip key m.parsed (as_abandoned t) other) c).call.answered_invites })
            (call_once known nobody who c);
        output = rests.output;
      }

  answered-equivalent : (at : ℕ) (o : Option AnsweredInvite) (who : Identities2) (key : TKey) (role : Role) (m : MessageView) (c : Call) (one other : StepOutput) →
      ((t : AnsweredInvite) → o ≡ Some t → IsResponseOf T key t.invite.dialogue.peer role m) → EquivalentOutputs T one other →
      EquivalentSteps T (on_response_answered config key (without_private role m) at (option_map (public_answered known) o) (public_call known who c) one) (on_response_answered config key m at o c other)
  answered-equivalent at None who key role m c one other answer a = on-equivalent heads config keys who c one other a
  answered-equivalent at (Some t) who key role m c one other answer a =
      let d : Call = public_call known who c in
      let n : MessageView = without_private role m in
      let p : StepResult = on_forked_response config key n at (public_answered known t) d one in
      let q : StepResult = on_retransmitted_success (public_answered known t) d one in
      let v : StepResult = on_forked_response config key m at t c other in
      let w : StepResult = on_retransmitted_success t c other in
      step-if T (not (is_success (status_of m.parsed.start))) (step_result d one) (cond (is_fork t m) p q) (step_result c other) (cond (is_fork t m) v w)
      (on-equivalent heads config keys who c one other a)
      (step-if T (is_fork t m) p q v w (forks-equivalent at t who key role m c one other (answer t refl) a) (repeats-equivalent t who c one other a))

  -- ---- by the branch

  -- the request in flight with this branch gets its response from the side other than the one that sent it
  abbrev FitsInFlight : (branch : List ℕ) → Role → MessageView → Call → Type 0
  FitsInFlight branch role m c =
      (place : ℕ) (flight : RelayedTransaction) → position (is_in_flight branch) c.relayed ≡ Some place → slice_get c.relayed place ≡ Some flight → Fits c.opening (service_in c.phase) (other_side flight.side) m role

  answered_at-equivalent : (o : Option ℕ) (who : Identities2) (at : ℕ) (key : TKey) (role : Role) (m : MessageView) (branch : List ℕ) (c : Call) (one other : StepOutput) → in_flight_is_from_own_peers T c.relayed →
      ((place : ℕ) (t : AnsweredInvite) → o ≡ Some place → slice_get c.answered_invites place ≡ Some t → IsResponseOf T key t.invite.dialogue.peer role m) → (o ≡ None → FitsInFlight branch role m c) →
      EquivalentOutputs T one other →
      EquivalentSteps T (on_response_answered_at config at key (without_private role m) branch o (public_call known who c) one) (on_response_answered_at config at key m branch o c other)
  answered_at-equivalent None who at key role m branch c one other asked answer fits a =
      subst (λ (o : Option ℕ). EquivalentSteps T (on_response_in_flight config at (without_private role m) o (public_call known who c) one)
      (on_response_in_flight config at m (position (is_in_flight branch) c.relayed) c other))
      (sym (found (public_relayed known) (is_in_flight branch) (λ flight. refl) c.relayed))
      (landed-equivalent heads config keys (position (is_in_flight branch) c.relayed) who at role m c one other asked (fits refl) a)
  answered_at-equivalent (Some place) who at key role m branch c one other asked answer fits a =
      subst (λ (o : Option AnsweredInvite). EquivalentSteps T (on_response_answered config key (without_private role m) place o (public_call known who c) one)
      (on_response_answered config key m place (slice_get c.answered_invites place) c other)) (sym (got (public_answered known) c.answered_invites place))
      (answered-equivalent place (slice_get c.answered_invites place) who key role m c one other (λ t e. answer place t refl e) a)

  at-equivalent : (o : Option ℕ) (who : Identities2) (at : ℕ) (key : TKey) (role : Role) (m : MessageView) (branch : List ℕ) (c : Call) (one other : StepOutput) → in_flight_is_from_own_peers T c.relayed →
      ((place : ℕ) (l : AbandonedInvite) → o ≡ Some place → slice_get c.abandoned place ≡ Some l → IsResponseOf T key l.invite.dialogue.peer role m) →
      ((place : ℕ) (t : AnsweredInvite) → position (is_answered_invite branch) c.answered_invites ≡ Some place → slice_get c.answered_invites place ≡ Some t → IsResponseOf T key t.invite.dialogue.peer role m) →
      (o ≡ None → position (is_answered_invite branch) c.answered_invites ≡ None → FitsInFlight branch role m c) → EquivalentOutputs T one other →
      EquivalentSteps T (on_other_response_at config at key (without_private role m) branch o (public_call known who c) one) (on_other_response_at config at key m branch o c other)
  at-equivalent None who at key role m branch c one other asked abandoned taken fits a =
      subst (λ (o : Option ℕ). EquivalentSteps T (on_response_answered_at config at key (without_private role m) branch o (public_call known who c) one)
      (on_response_answered_at config at key m branch (position (is_answered_invite branch) c.answered_invites) c other))
      (sym (found (public_answered known) (is_answered_invite branch) (λ t. refl) c.answered_invites))
      (answered_at-equivalent (position (is_answered_invite branch) c.answered_invites) who at key role m branch c one other asked taken (fits refl) a)
  at-equivalent (Some place) who at key role m branch c one other asked abandoned taken fits a =
      subst (λ (o : Option AbandonedInvite). EquivalentSteps T (on_response_abandoned config key (without_private role m) place o (public_call known who c) one)
      (on_response_abandoned config key m place (slice_get c.abandoned place) c other)) (sym (got (public_abandoned known) c.abandoned place))
      (abandoned-equivalent place (slice_get c.abandoned place) who key role m c one other (λ l e. abandoned place l refl e) a)

  other-equivalent : (who : Identities2) (at : ℕ) (key : TKey) (role : Role) (m : MessageView) (branch : List ℕ) (c : Call) (one other : StepOutput) → in_flight_is_from_own_peers T c.relayed →
      MayReceiveOther T key branch role m c →
      EquivalentOutputs T one other →
      EquivalentSteps T (on_other_response config at key (without_private role m) branch (public_call known who c) one) (on_other_response config at key m branch c other)
  unfolding on_other_response
  other-equivalent who at key role m branch c one other asked receives a =
      subst (λ (o : Option ℕ). EquivalentSteps T (on_other_response_at config at key (without_private role m) branch o (public_call known who c) one)
      (on_other_response_at config at key m branch (position (is_of_branch branch) c.abandoned) c other))
      (sym (found (public_abandoned known) (is_of_branch branch) (λ l. refl) c.abandoned))
      (at-equivalent (position (is_of_branch branch) c.abandoned) who at key role m branch c one other asked receives.abandoned receives.answered receives.in_flight a)

  -- ---- timeouts

  timed_out_public : (branch : List ℕ) (who : Identities2) (c : Call) → without_timed_out branch (public_call known who c) ≡ public_call known who (without_timed_out branch c)
  timed_out_public branch who c = ap (λ (ls : List AbandonedInvite). record (public_call known who c) { abandoned = ls }) (without_found (public_abandoned known) (is_of_branch branch) (λ l. refl) c.abandoned)

  timed-out_at-equivalent : (o : Option ℕ) (who : Identities2) (branch : List ℕ) (c : Call) (one other : StepOutput) → in_flight_is_from_own_peers T c.relayed → EquivalentOutputs T one other →
      EquivalentSteps T (on_other_timeout_at config branch o (public_call known who c) one) (on_other_timeout_at config branch o c other)
  timed-out_at-equivalent None who branch c one other asked a =
      subst (λ (o : Option ℕ). EquivalentSteps T (on_timeout_in_flight config o (public_call known who c) one) (on_timeout_in_flight config (position (is_in_flight branch) c.relayed) c other))
      (sym (found (public_relayed known) (is_in_flight branch) (λ flight. refl) c.relayed))
      (timed-out-equivalent heads config keys (position (is_in_flight branch) c.relayed) who c one other asked a)
  timed-out_at-equivalent (Some place) who branch c one other asked a =
      on-equivalent-by heads config keys who (without_timed_out branch (public_call known who c)) (without_timed_out branch c) one other (timed_out_public branch who c) a

  silences-equivalent : (who : Identities2) (branch : List ℕ) (c : Call) (one other : StepOutput) → in_flight_is_from_own_peers T c.relayed → EquivalentOutputs T one other →
      EquivalentSteps T (on_other_timeout config branch (public_call known who c) one) (on_other_timeout config branch c other)
  silences-equivalent who branch c one other asked a =
      subst (λ (o : Option ℕ). EquivalentSteps T (on_other_timeout_at config branch o (public_call known who c) one) (on_other_timeout_at config branch (position (is_of_branch branch) c.abandoned) c other))
      (sym (found (public_abandoned known) (is_of_branch branch) (λ l. refl) c.abandoned))
      (timed-out_at-equivalent (position (is_of_branch branch) c.abandoned) who branch c one other asked a)

pub responses_to_others : Heads → ResponsesToOthers
responses_to_others heads config keys who at key role m branch c one other asked receives a = other-equivalent heads config keys who at key role m branch c one other asked receives a

pub timeouts_of_others : Heads → TimeoutsOfOthers
timeouts_of_others heads config keys who branch c one other asked a = silences-equivalent heads config keys who branch c one other asked a
