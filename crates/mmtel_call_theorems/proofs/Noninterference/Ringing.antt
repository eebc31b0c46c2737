-- Transitions of an offered call use public parts alone: on what the target sends before it refuses.
use Rattle.std.proofs.Common.{◌≡◌, ℕ, Bool, true, false, ◌==◌, ◌&&◌, ◌||◌, not, List, [], ◌∷◌, ◌++◌, refl, ap, sym, ◌∙◌, codes, cond, decimal, length, Option, Some, None}
use Rattle.std.specs.Option.{option_map}
use Rattle.std.specs.Prelude.{◌+◌, nat_lt}
use Rattle.mmtel_compose.specs.ReceivedMessages.{MessageView}
use Rattle.mmtel_output.specs.declared.outputs.StepOutput.{StepOutput}
use Rattle.mmtel_output.specs.declared.sent_invites.SentInvite.{SentInvite}
use Rattle.mmtel_leg.specs.Dialogues.{with_remote}
use Rattle.mmtel_leg.specs.Legs.{Leg, with_dialogue}
use Rattle.mmtel_leg.specs.Remotes.{remote_of}
use Rattle.mmtel_leg.specs.declared.dialogues.Dialogue.{Dialogue}
use Rattle.mmtel_leg.specs.declared.remotes.Remote.{Remote}
use Rattle.mmtel_masked_messages.specs.Responses.{AreNoOwnFields}
use Rattle.mmtel_message.specs.Message.{Line}
use Rattle.mmtel_precedence.specs.Attempts.{rings}
use Rattle.mmtel_reliable.specs.Acks.{after_relay}
use Rattle.mmtel_rules.specs.declared.values.Identities2.{Identities2}
use Rattle.mmtel_transaction.specs.declared.words.DueWord.TheVariants as due
use Rattle.mmtel_transaction.specs.declared.words.Emit.TheVariants as emit
use Rattle.mmtel_transaction.specs.declared.words.TKey.{TKey}
use Rattle.mmtel_trust.specs.ParsedMessage.{ParsedMessage}
use Rattle.mmtel_types.specs.declared.numbers.Peer.{Peer}
use Rattle.mmtel_types.specs.declared.sides.Side.TheVariants.{Caller, Callee}
use Rattle.mmtel_call_services.specs.Decisions.{no_reply_time_of, service_sheet}
use Rattle.mmtel_call_services.specs.Reliable.{reliable_lines, reliable_number}
use Rattle.mmtel_call_services.specs.CopiedHeaders.{copied_lines, masks_all}
use Rattle.mmtel_call_services.specs.CallConfig.{CallConfigView, trusts}
use Rattle.mmtel_call_services.specs.declared.openings.Opening.{Opening}
use Rattle.mmtel_call_services.specs.declared.openings.Service.{Service}
use Rattle.mmtel_call.specs.AttemptLeg.{AttemptLegView}
use Rattle.mmtel_call.specs.declared.calls.Attempt.{Attempt}
use Rattle.mmtel_call.specs.declared.calls.Call.{Call}
use Rattle.mmtel_call.specs.declared.calls.AnsweredInvite.{AnsweredInvite}
use Rattle.mmtel_call.specs.declared.calls.OfferedAttempt.{OfferedAttempt}
use Rattle.mmtel_call.specs.declared.calls.Phase.TheVariants.{Established, Offered}
use Rattle.mmtel_call.specs.declared.calls.Stage.TheVariants.{Answered}
use Rattle.mmtel_call.specs.Ringing.{with_no_reply_timer_in, early_remote_of, attempt_with_early, leg_with_remote, next_success, attempt_with_provisional, established_legs_of, on_provisional}
use Rattle.mmtel_call.specs.Ringing.{on_provisional_by, on_numbered_provisional, on_plain_provisional, attempt_after_ringing, success_of, to_tag_of, new_answered_invite, on_trying, on_answer, callee_after}
use Rattle.mmtel_call.specs.Reliable.{own_rseq_for, prack_time, with_reliable_response}
use Rattle.mmtel_call.specs.Sending.{with_relay_to_caller}
use Rattle.mmtel_call_theorems.specs.Noninterference.PublicCall.{nobody, public_attempt, public_call, public_dialog, public_diverted, public_leg, public_opening}
use Rattle.mmtel_call_theorems.specs.Noninterference.PublicCall.{public_established, public_part, public_remote_side, public_callee, public_offered}
use Rattle.mmtel_call_theorems.specs.Noninterference.Premises.{Fits, HasNothingPrivate, IsFromOwnPeer}
use Rattle.mmtel_call_theorems.specs.Noninterference.Roles.{Role, opening_role, private_fields, without_private}
use Rattle.mmtel_call_theorems.specs.Noninterference.Transitions.{ProvisionalToAttempt, SuccessToAttempt}
use Rattle.mmtel_call_theorems.specs.Noninterference.Observations.{EquivalentOutputs, EquivalentSteps, Trust, trust_of}
use Rattle.mmtel_call_theorems.proofs.Noninterference.Across.{awaits-equivalent, answered_more, expiry-equivalent}
use Rattle.mmtel_call_theorems.proofs.Noninterference.Numbers.{behind_none, both_foreign, line_foreign}
use Rattle.mmtel_call_theorems.proofs.Noninterference.Idempotence.{call_once, invite_again, leg_again, tried_again}
use Rattle.mmtel_call_theorems.proofs.Noninterference.Transitions.{on-equivalent, step-if}
use Rattle.mmtel_call_theorems.proofs.Noninterference.Sent.{Heads, emitted-equivalent, relayed-equivalent}
use Rattle.mmtel_call_theorems.proofs.Noninterference.CopiedLines.{copied-foreign, copied-none, copied-number, copied-same, met-same, said-same}

-- the header fields of a reliable response are none that the server writes in each message
own_foreign : (own : ℕ) → AreNoOwnFields (reliable_lines own)
own_foreign own = both_foreign ((codes "Require", codes "100rel") ∷ []) ((codes "RSeq", decimal own) ∷ []) (line_foreign (codes "Require") _ refl) (line_foreign (codes "RSeq") _ refl)

module _ (heads : Heads) (config : CallConfigView) (keys : TKey → Bool) where
  abbrev T : Trust
  T = trust_of config keys

  abbrev known : Peer → Bool
  known = λ peer. trusts config peer

  -- ---- a response of the target is relayed to the caller

  pub to_caller-equivalent : (who : Identities2) (service : Option Service) (role : Role) (m : MessageView) (c : Call) (one other : StepOutput) → IsFromOwnPeer T c.opening.key c.opening.invite →
      Fits c.opening service Callee m role → EquivalentOutputs T one other →
      EquivalentOutputs T (with_relay_to_caller config (public_call known who c) service (without_private role m) one) (with_relay_to_caller config c service m other)
  to_caller-equivalent who service role m c one other asked fits a =
      let i : MessageView = c.opening.invite in
      relayed-equivalent heads T config.sip c.opening.key i.parsed.trusted (private_fields (opening_role c.opening.restricted) i.parsed) i c.opening.tag
      (copied_lines config (public_opening who c.opening) (public_diverted (masks_all c.opening) c.diversions) service Callee i.peer (without_private role m))
      (copied_lines config c.opening c.diversions service Callee i.peer m) m one other
      asked.request (asked.trusted ∙ sym asked.known)
      (copied-foreign config (public_opening who c.opening) (public_diverted (masks_all c.opening) c.diversions) service Callee i.peer (without_private role m))
      (copied-foreign config c.opening c.diversions service Callee i.peer m)
      (copied-number config (public_opening who c.opening) c.opening (public_diverted (masks_all c.opening) c.diversions) c.diversions service Callee i.peer (without_private role m) m)
      (λ strange. copied-same config who c.opening c.diversions service Callee i.peer role m fits (sym asked.known ∙ strange)) a

  -- the same under a number of the server's own
  reliably-equivalent : (who : Identities2) (service : Option Service) (own : ℕ) (role : Role) (m : MessageView) (c : Call) (one other : StepOutput) → IsFromOwnPeer T c.opening.key c.opening.invite →
      Fits c.opening service Callee m role →
      EquivalentOutputs T one other →
      EquivalentOutputs T (with_reliable_response config (public_call known who c) service own (without_private role m) one) (with_reliable_response config c service own m other)
  reliably-equivalent who service own role m c one other asked fits a =
      let i : MessageView = c.opening.invite in
      let o : Opening = public_opening who c.opening in
      let v = public_diverted (masks_all c.opening) c.diversions in
      let n : MessageView = without_private role m in
      let lines : List Line = reliable_lines own in
      let hidden : List Line = copied_lines config o v service Callee i.peer n in
      let whole : List Line = copied_lines config c.opening c.diversions service Callee i.peer m in
      relayed-equivalent heads T config.sip c.opening.key i.parsed.trusted (private_fields (opening_role c.opening.restricted) i.parsed) i c.opening.tag (hidden ++ lines) (whole ++ lines) m one other
      asked.request (asked.trusted ∙ sym asked.known)
      (both_foreign hidden lines (copied-foreign config o v service Callee i.peer n) (own_foreign own)) (both_foreign whole lines (copied-foreign config c.opening c.diversions service Callee i.peer m) (own_foreign own))
      (behind_none hidden whole lines (copied-none config o v service Callee i.peer n) (copied-none config c.opening c.diversions service Callee i.peer m))
      (λ strange. ap (λ (l : List Line). l ++ lines) (copied-same config who c.opening c.diversions service Callee i.peer role m fits (sym asked.known ∙ strange))) a

  -- ---- the target's dialog

  pub met_equivalent : (d : Dialogue) (role : Role) (m : MessageView) → (known d.peer ≡ false → HasNothingPrivate role m) →
      public_dialog known (with_remote (public_dialog known d) (remote_of Callee (without_private role m).parsed.lines)) ≡ public_dialog known (with_remote d (remote_of Callee m.parsed.lines))
  met_equivalent d role m told = met-same (known d.peer) m.parsed.trusted d (private_fields role m.parsed) m.parsed (λ e. ap (λ (z : MessageView). z.parsed) (told e))

  abbrev early_if : Bool → AttemptLegView → ParsedMessage → AttemptLegView
  early_if b callee h = leg_with_remote (cond b None (Some (remote_of Callee h.lines))) callee

  tried_if : (b : Bool) (callee : AttemptLegView) (role : Role) (m : MessageView) → (known callee.leg.dialogue.peer ≡ false → HasNothingPrivate role m) →
      public_callee known (early_if b (public_callee known callee) (without_private role m).parsed) ≡ public_callee known (early_if b callee m.parsed)
  tried_if true callee role m told = tried_again known callee
  tried_if false callee role m told = ap (λ (d : Dialogue). record { leg = with_dialogue callee.leg d; is_early = true }) (met_equivalent callee.leg.dialogue role m told)

  -- ---- 100, and 101 to 199

  pub tries-equivalent : (who : Identities2) (x : OfferedAttempt) (key : TKey) (c : Call) (one other : StepOutput) → EquivalentOutputs T one other →
      EquivalentSteps T (on_trying key (public_offered known x) (public_call known who c) one) (on_trying key x c other)
  tries-equivalent who x key c one other a = on-equivalent heads config keys who (on_trying key x c other).call one other a

  arms-if : (b : Bool) (time : Option ℕ) (at : ℕ) (attempt : Attempt) (who : Identities2) (c : Call) (one other : StepOutput) → EquivalentOutputs T one other →
      EquivalentOutputs T (cond b (with_no_reply_timer_in time at (public_attempt known attempt) (public_call known who c) one) one) (cond b (with_no_reply_timer_in time at attempt c other) other)
  arms-if false time at attempt who c one other a = a
  arms-if true None at attempt who c one other a = a
  arms-if true (Some time) at attempt who c one other a =
      emitted-equivalent T (emit.Arm c.opening.number (due.NoReply attempt.number) (at + time)) (emit.Arm c.opening.number (due.NoReply attempt.number) (at + time)) one other refl a

  offered_call : (who : Identities2) (c : Call) (caller : Leg) (callee tried : AttemptLegView) (rung attempt : Attempt) → public_callee known callee ≡ public_callee known tried →
      public_attempt known rung ≡ public_attempt known attempt →
      public_part known (record (public_call known who c) { phase = Offered (record { caller = public_leg known caller; callee = callee; attempt = rung }) })
      ≡ public_part known (record c { phase = Offered (record { caller = caller; callee = tried; attempt = attempt }) })
  offered_call who c caller callee tried rung attempt e f =
      ap (λ (z : Call). record z { phase = Offered (record { caller = public_leg known (public_leg known caller); callee = public_callee known callee; attempt = public_attempt known rung }) })
      (call_once known nobody who c)
      ∙ (ap (λ (l : Leg). record (public_part known c) { phase = Offered (record { caller = l; callee = public_callee known callee; attempt = public_attempt known rung }) }) (leg_again known caller)
      ∙ (ap (λ (v : AttemptLegView). record (public_part known c) { phase = Offered (record { caller = public_leg known caller; callee = v; attempt = public_attempt known rung }) }) e
      ∙ ap (λ (y : Attempt). record (public_part known c) { phase = Offered (record { caller = public_leg known caller; callee = public_callee known tried; attempt = y }) }) f))

  -- the attempt, with the remote side in that response
  pub said_if : (b trusted : Bool) (role : Role) (m : MessageView) → (trusted ≡ false → HasNothingPrivate role m) →
      option_map (public_remote_side trusted) (cond b None (Some (remote_of Callee (without_private role m).parsed.lines))) ≡ option_map (public_remote_side trusted) (cond b None (Some (remote_of Callee m.parsed.lines)))
  said_if true trusted role m told = refl
  said_if false trusted role m told = ap (λ (r : Remote). Some r) (said-same trusted m.parsed.trusted (private_fields role m.parsed) m.parsed (λ e. ap (λ (z : MessageView). z.parsed) (told e)))

  rung_if : (b : Bool) (code : ℕ) (key : TKey) (attempt : Attempt) (role : Role) (m : MessageView) → (known attempt.invite.dialogue.peer ≡ false → HasNothingPrivate role m) →
      public_attempt known (attempt_after_ringing code (attempt_with_early (cond b None (Some (remote_of Callee (without_private role m).parsed.lines))) (attempt_with_provisional key (public_attempt known attempt))))
      ≡ public_attempt known (attempt_after_ringing code (attempt_with_early (cond b None (Some (remote_of Callee m.parsed.lines))) (attempt_with_provisional key attempt)))
  rung_if b code key attempt role m told =
      ap (λ (i : SentInvite). attempt_after_ringing code (record attempt { invite = i }))
      (invite_again known key attempt.invite (cond b None (Some (remote_of Callee (without_private role m).parsed.lines))) (cond b None (Some (remote_of Callee m.parsed.lines)))
      (said_if b (known attempt.invite.dialogue.peer) role m told))

  plainly-equivalent : (who : Identities2) (at : ℕ) (x : OfferedAttempt) (key : TKey) (role : Role) (m : MessageView) (code : ℕ) (c : Call) (one other : StepOutput) → IsFromOwnPeer T c.opening.key c.opening.invite →
      Fits c.opening x.attempt.service Callee m role → (known x.callee.leg.dialogue.peer ≡ false → HasNothingPrivate role m) →
      (known x.attempt.invite.dialogue.peer ≡ false → HasNothingPrivate role m) → EquivalentOutputs T one other →
      EquivalentSteps T (on_plain_provisional config at (public_offered known x) key (without_private role m) code (public_call known who c) one) (on_plain_provisional config at x key m code c other)
  plainly-equivalent who at x key role m code c one other asked fits told own a = record {
    call = offered_call who c x.caller (callee_after (public_callee known x.callee) (without_private role m)) (callee_after x.callee m)
        (attempt_after_ringing code (attempt_with_early (early_remote_of (public_callee known x.callee) (without_private role m)) (attempt_with_provisional key (public_attempt known x.attempt))))
        (attempt_after_ringing code (attempt_with_early (early_remote_of x.callee m) (attempt_with_provisional key x.attempt)))
        (tried_if (x.callee.is_early || length (to_tag_of m) == 0) x.callee role m told)
        (rung_if (x.callee.is_early || length (to_tag_of m) == 0) code key x.attempt role m own);
    output = arms-if (rings code && not x.attempt.rang) (no_reply_time_of (service_sheet x.attempt.service)) at x.attempt who c
        (with_relay_to_caller config (public_call known who c) x.attempt.service (without_private role m) one) (with_relay_to_caller config c x.attempt.service m other)
        (to_caller-equivalent who x.attempt.service role m c one other asked fits a);
  }

  -- a reliable response, if it gets this number
  numbered-equivalent : (number : Option ℕ) (rseq : ℕ) (who : Identities2) (at : ℕ) (x : OfferedAttempt) (key : TKey) (role : Role) (m : MessageView) (code : ℕ) (c : Call) (one other : StepOutput) →
      IsFromOwnPeer T c.opening.key c.opening.invite →
      Fits c.opening x.attempt.service Callee m role → (known x.callee.leg.dialogue.peer ≡ false → HasNothingPrivate role m) →
      (known x.attempt.invite.dialogue.peer ≡ false → HasNothingPrivate role m) → EquivalentOutputs T one other →
      EquivalentSteps T (on_numbered_provisional number rseq config at (public_offered known x) key (without_private role m) code (public_call known who c) one)
      (on_numbered_provisional number rseq config at x key m code c other)
  numbered-equivalent None rseq who at x key role m code c one other asked fits told own a = tries-equivalent who x key c one other a
  numbered-equivalent (Some number) rseq who at x key role m code c one other asked fits told own a =
      let d : Call = public_call known who c in
      let n : MessageView = without_private role m in
      record {
        call = offered_call who (record c { acks = after_relay rseq c.acks }) x.caller (callee_after (public_callee known x.callee) n) (callee_after x.callee m)
            (attempt_after_ringing code (attempt_with_early (early_remote_of (public_callee known x.callee) n) (attempt_with_provisional key (public_attempt known x.attempt))))
            (attempt_after_ringing code (attempt_with_early (early_remote_of x.callee m) (attempt_with_provisional key x.attempt)))
            (tried_if (x.callee.is_early || length (to_tag_of m) == 0) x.callee role m told)
            (rung_if (x.callee.is_early || length (to_tag_of m) == 0) code key x.attempt role m own);
        output = emitted-equivalent T (emit.Arm c.opening.number (due.NoPrack number) (at + prack_time)) (emit.Arm c.opening.number (due.NoPrack number) (at + prack_time)) _ _ refl
            (arms-if (rings code && not x.attempt.rang) (no_reply_time_of (service_sheet x.attempt.service)) at x.attempt who c
            (with_reliable_response config d x.attempt.service number n one) (with_reliable_response config c x.attempt.service number m other)
            (reliably-equivalent who x.attempt.service number role m c one other asked fits a));
      }

  by-equivalent : (rseq : Option ℕ) (who : Identities2) (at : ℕ) (x : OfferedAttempt) (key : TKey) (role : Role) (m : MessageView) (code : ℕ) (c : Call) (one other : StepOutput) →
      IsFromOwnPeer T c.opening.key c.opening.invite →
      Fits c.opening x.attempt.service Callee m role → (known x.callee.leg.dialogue.peer ≡ false → HasNothingPrivate role m) →
      (known x.attempt.invite.dialogue.peer ≡ false → HasNothingPrivate role m) → EquivalentOutputs T one other →
      EquivalentSteps T (on_provisional_by rseq config at (public_offered known x) key (without_private role m) code (public_call known who c) one) (on_provisional_by rseq config at x key m code c other)
  by-equivalent None who at x key role m code c one other asked fits told own a = plainly-equivalent who at x key role m code c one other asked fits told own a
  by-equivalent (Some rseq) who at x key role m code c one other asked fits told own a = numbered-equivalent (own_rseq_for rseq x m c) rseq who at x key role m code c one other asked fits told own a

  pub proceeds-equivalent : (who : Identities2) (at : ℕ) (x : OfferedAttempt) (key : TKey) (role : Role) (m : MessageView) (code : ℕ) (c : Call) (one other : StepOutput) →
      IsFromOwnPeer T c.opening.key c.opening.invite → Fits c.opening x.attempt.service Callee m role → (known x.callee.leg.dialogue.peer ≡ false → HasNothingPrivate role m) →
      (known x.attempt.invite.dialogue.peer ≡ false → HasNothingPrivate role m) → EquivalentOutputs T one other →
      EquivalentSteps T (on_provisional config at (public_offered known x) key (without_private role m) code (public_call known who c) one) (on_provisional config at x key m code c other)
  proceeds-equivalent who at x key role m code c one other asked fits told own a = by-equivalent (reliable_number config c.opening m) who at x key role m code c one other asked fits told own a

  -- ---- 2xx

  answers-equivalent : (who : Identities2) (at : ℕ) (x : OfferedAttempt) (key : TKey) (role : Role) (m : MessageView) (c : Call) (one other : StepOutput) →
      IsFromOwnPeer T c.opening.key c.opening.invite → Fits c.opening x.attempt.service Callee m role → (known x.callee.leg.dialogue.peer ≡ false → HasNothingPrivate role m) →
      EquivalentOutputs T one other →
      EquivalentSteps T (on_answer config at (public_offered known x) key (without_private role m) (public_call known who c) one) (on_answer config at x key m c other)
  answers-equivalent who at x key role m c one other asked fits told a =
      let t : AnsweredInvite = new_answered_invite key m false x.attempt.invite in
      let base : Call = record c { answered = Some at; successes = next_success c; answered_invites = c.answered_invites ++ t ∷ [] } in
      record {
        call =
            ap (λ (ts : List AnsweredInvite). public_part known (record (public_call known who c) {
              answered = Some at;
              successes = next_success c;
              answered_invites = ts;
              phase = Established (established_legs_of (public_offered known x) (without_private role m)) (Answered Caller (success_of c c.opening.invite x.attempt.invite));
            })) (answered_more heads config keys c t)
            ∙ (ap (λ (z : Call).
            record z { phase = Established (public_established known (established_legs_of (public_offered known x) (without_private role m))) (Answered Caller (success_of c c.opening.invite x.attempt.invite)) })
            (call_once known nobody who base)
            ∙ (ap (λ (l : Leg). record (public_part known base) {
              phase = Established (record { caller = l; callee = public_leg known (established_legs_of (public_offered known x) (without_private role m)).callee; service = x.attempt.service })
                  (Answered Caller (success_of c c.opening.invite x.attempt.invite));
            }) (leg_again known x.caller)
            ∙ ap (λ (d : Dialogue). record (public_part known base) {
              phase = Established (record { caller = public_leg known x.caller; callee = with_dialogue x.callee.leg d; service = x.attempt.service }) (Answered Caller (success_of c c.opening.invite x.attempt.invite));
            }) (met_equivalent x.callee.leg.dialogue role m told)));
        output = expiry-equivalent heads config keys who at m c _ _
            (awaits-equivalent heads config keys who at c (with_relay_to_caller config (public_call known who c) x.attempt.service (without_private role m) one)
            (with_relay_to_caller config c x.attempt.service m other) (to_caller-equivalent who x.attempt.service role m c one other asked fits a));
      }

  provisional-equivalent : (who : Identities2) (at : ℕ) (x : OfferedAttempt) (key : TKey) (role : Role) (m : MessageView) (code : ℕ) (c : Call) (one other : StepOutput) →
      IsFromOwnPeer T c.opening.key c.opening.invite → Fits c.opening x.attempt.service Callee m role → (known x.callee.leg.dialogue.peer ≡ false → HasNothingPrivate role m) →
      (known x.attempt.invite.dialogue.peer ≡ false → HasNothingPrivate role m) → EquivalentOutputs T one other →
      EquivalentSteps T (cond (nat_lt code 101) (on_trying key (public_offered known x) (public_call known who c) one)
      (on_provisional config at (public_offered known x) key (without_private role m) code (public_call known who c) one))
      (cond (nat_lt code 101) (on_trying key x c other) (on_provisional config at x key m code c other))
  provisional-equivalent who at x key role m code c one other asked fits told own a =
      step-if T (nat_lt code 101) (on_trying key (public_offered known x) (public_call known who c) one) (on_provisional config at (public_offered known x) key (without_private role m) code (public_call known who c) one)
      (on_trying key x c other) (on_provisional config at x key m code c other)
      (tries-equivalent who x key c one other a) (proceeds-equivalent who at x key role m code c one other asked fits told own a)

pub provisional_to_attempt : Heads → ProvisionalToAttempt
provisional_to_attempt heads config keys who at x key role m code c one other asked fits told own a = provisional-equivalent heads config keys who at x key role m code c one other asked fits told own a

pub success_to_attempt : Heads → SuccessToAttempt
success_to_attempt heads config keys who at x key role m c one other asked fits told a = answers-equivalent heads config keys who at x key role m c one other asked fits told a
