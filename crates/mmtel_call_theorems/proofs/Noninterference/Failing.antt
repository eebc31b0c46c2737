-- Transitions of an offered call use public parts alone: on all responses of the target, on its timeout, and on the deadlines of an attempt.
use Rattle.std.proofs.Common.{◌≡◌, ℕ, Bool, true, false, ◌==◌, ◌&&◌, refl, ap, sym, cond, subst, Option, Some, None, List}
use Rattle.std.specs.Prelude.{nat_lt}
use Rattle.mmtel_base.specs.Chain.{◌>>=◌}
use Rattle.mmtel_compose.specs.ReceivedMessages.{MessageView}
use Rattle.mmtel_output.specs.Sending.{with_final_ack}
use Rattle.mmtel_output.specs.declared.outputs.StepOutput.{StepOutput}
use Rattle.mmtel_lex.specs.Reading.{uri_of}
use Rattle.mmtel_lex.specs.declared.values.Uri.{Uri}
use Rattle.mmtel_precedence.specs.Attempts.{end_by_final, end_by_time}
use Rattle.mmtel_precedence.specs.Calls.{AttemptEndView, NoReply, NotReachable, SnapshotView}
use Rattle.mmtel_precedence.specs.Theorems.{VerdictsDependOnMatches}
use Rattle.mmtel_reliable.specs.Acks.{has_own}
use Rattle.mmtel_rules.specs.declared.values.Identities2.{Identities2}
use Rattle.mmtel_sheet_values.specs.declared.values.Sheet.{Sheet}
use Rattle.mmtel_transaction.specs.declared.words.DueWord.{DueWord}
use Rattle.mmtel_transaction.specs.declared.words.DueWord.TheVariants as due
use Rattle.mmtel_transaction.specs.declared.words.TKey.{TKey}
use Rattle.mmtel_trust.specs.Asserted.{or_no_uri}
use Rattle.mmtel_trust.specs.PrivateFields.{hidden_uri}
use Rattle.mmtel_types.specs.declared.causes.Cause.TheVariants as causes
use Rattle.mmtel_types.specs.declared.numbers.Peer.{Peer}
use Rattle.mmtel_types.specs.declared.sides.Side.TheVariants.{Callee}
use Rattle.mmtel_call_services.specs.Decisions.{redirect_of}
use Rattle.mmtel_call_services.specs.CallConfig.{CallConfigView, trusts}
use Rattle.mmtel_call.specs.declared.calls.Call.{Call}
use Rattle.mmtel_call.specs.declared.calls.OfferedAttempt.{OfferedAttempt}
use Rattle.mmtel_call.specs.Closing.{step_result}
use Rattle.mmtel_call.specs.Diverting.{after_attempt}
use Rattle.mmtel_call.specs.Ringing.{call_without_attempt, end_before_answer, on_answer, on_attempt_timeout, on_due, on_failure, on_provisional, on_response, on_timeout, on_trying, with_attempt_cancel}
use Rattle.mmtel_call_theorems.specs.Noninterference.PublicCall.{public_call, public_offered, public_sent_invite}
use Rattle.mmtel_call_theorems.specs.Noninterference.Premises.{CanContinue, Fits, IsTargets, RecordsCoverService}
use Rattle.mmtel_call_theorems.specs.Noninterference.Roles.{Plain, Role, private_fields, without_private}
use Rattle.mmtel_call_theorems.specs.Noninterference.Transitions.{DeadlinesWhileOffered, ResponsesWhileOffered, TimeoutsWhileOffered}
use Rattle.mmtel_call_theorems.specs.Noninterference.Observations.{EquivalentOutputs, EquivalentSteps, Trust, trust_of}
use Rattle.mmtel_call_theorems.proofs.Noninterference.Across.{acked-final}
use Rattle.mmtel_call_theorems.proofs.Noninterference.Diverting.{ends_of_attempts}
use Rattle.mmtel_call_theorems.proofs.Noninterference.Offered.{gives-up}
use Rattle.mmtel_call_theorems.proofs.Noninterference.Ringing.{proceeds-equivalent, success_to_attempt, tries-equivalent}
use Rattle.mmtel_call_theorems.proofs.Noninterference.Transitions.{cancelled-equivalent, left_public, on-equivalent, step-if}
use Rattle.mmtel_call_theorems.proofs.Noninterference.Sent.{Heads}

-- ---- the URI to which a response redirects is not private to the target

uri_kept : (b c : Bool) (u : Option (List ℕ)) → c ≡ false → hidden_uri (b && c) u ≡ u
uri_kept true true u e = absurd cc
uri_kept true false u e = refl
uri_kept false c u e = refl

redirect_same : (role : Role) (m : MessageView) → (private_fields role m.parsed).redirect ≡ false → redirect_of (without_private role m) ≡ redirect_of m
redirect_same role m e = ap (λ (u : Option (List ℕ)). u >>= λ uri. or_no_uri (uri_of uri)) (uri_kept m.parsed.trusted (private_fields role m.parsed).redirect m.parsed.redirect e)

same_said : (m n : MessageView) → Some m ≡ Some n → m ≡ n
same_said m n e = cc

module _ (heads : Heads) (law : VerdictsDependOnMatches) (records : List Sheet) (config : CallConfigView) (keys : TKey → Bool) (now : SnapshotView) where
  abbrev T : Trust
  T = trust_of config keys

  abbrev known : Peer → Bool
  known = λ peer. trusts config peer

  fails-equivalent : (who : Identities2) (x : OfferedAttempt) (key : TKey) (role : Role) (m : MessageView) (code : ℕ) (c : Call) (one other : StepOutput) → CanContinue records T now who c →
      RecordsCoverService records x.attempt.service → IsTargets T key x role m c.opening → EquivalentOutputs T one other →
      EquivalentSteps T (on_failure config now (public_offered known x) key (without_private role m) code (public_call known who c) one) (on_failure config now x key m code c other)
  fails-equivalent who x key role m code c one other can its is a =
      let n : MessageView = without_private role m in
      let acked : StepOutput = with_final_ack config.sip key (public_sent_invite known x.attempt.invite) n.parsed one in
      subst (λ (u : Option Uri). EquivalentSteps T (after_attempt config now (public_offered known x) (end_by_final code u x.attempt.rang) (Some n) (public_call known who c) acked)
      (on_failure config now x key m code c other))
      (sym (redirect_same role m is.redirect))
      (ends_of_attempts heads law records config keys now who x (end_by_final code (redirect_of m) x.attempt.rang) role (Some m) c acked (with_final_ack config.sip key x.attempt.invite m.parsed other)
      can.opening can.caller can.covered its (λ n e. subst (λ (z : MessageView). Fits c.opening x.attempt.service Callee z role) (same_said m n e) is.fits)
      (acked-final heads config keys key x.attempt.invite role m one other is.response a))

  answers-equivalent : (who : Identities2) (x : OfferedAttempt) (key : TKey) (role : Role) (m : MessageView) (code : ℕ) (c : Call) (one other : StepOutput) → CanContinue records T now who c →
      RecordsCoverService records x.attempt.service → IsTargets T key x role m c.opening → EquivalentOutputs T one other →
      EquivalentSteps T (on_response config now (public_offered known x) key (without_private role m) code (public_call known who c) one) (on_response config now x key m code c other)
  answers-equivalent who x key role m code c one other can its is a =
      let z : OfferedAttempt = public_offered known x in
      let d : Call = public_call known who c in
      let n : MessageView = without_private role m in
      step-if T (nat_lt code 101) (on_trying key z d one)
      (cond (nat_lt code 200) (on_provisional config now.at z key n code d one) (cond (nat_lt code 300) (on_answer config now.at z key n d one) (on_failure config now z key n code d one)))
      (on_trying key x c other) (cond (nat_lt code 200) (on_provisional config now.at x key m code c other) (cond (nat_lt code 300) (on_answer config now.at x key m c other) (on_failure config now x key m code c other)))
      (tries-equivalent heads config keys who x key c one other a)
      (step-if T (nat_lt code 200) (on_provisional config now.at z key n code d one) (cond (nat_lt code 300) (on_answer config now.at z key n d one) (on_failure config now z key n code d one))
      (on_provisional config now.at x key m code c other) (cond (nat_lt code 300) (on_answer config now.at x key m c other) (on_failure config now x key m code c other))
      (proceeds-equivalent heads config keys who now.at x key role m code c one other can.opening is.fits is.leg is.response.nothing_private a)
      (step-if T (nat_lt code 300) (on_answer config now.at z key n d one) (on_failure config now z key n code d one) (on_answer config now.at x key m c other) (on_failure config now x key m code c other)
      (success_to_attempt heads config keys who now.at x key role m c one other can.opening is.fits is.leg a)
      (fails-equivalent who x key role m code c one other can its is a)))

  -- ---- timeouts and deadlines, which have no message

  ends-equivalent : (who : Identities2) (x : OfferedAttempt) (how : AttemptEndView) (c : Call) (one other : StepOutput) → CanContinue records T now who c →
      RecordsCoverService records x.attempt.service → EquivalentOutputs T one other →
      EquivalentSteps T (after_attempt config now (public_offered known x) how None (public_call known who c) one) (after_attempt config now x how None c other)
  ends-equivalent who x how c one other can its a = ends_of_attempts heads law records config keys now who x how Plain None c one other can.opening can.caller can.covered its (λ n e. absurd cc) a

  silences-equivalent : (who : Identities2) (x : OfferedAttempt) (c : Call) (one other : StepOutput) → CanContinue records T now who c → RecordsCoverService records x.attempt.service → EquivalentOutputs T one other →
      EquivalentSteps T (on_timeout config now (public_offered known x) (public_call known who c) one) (on_timeout config now x c other)
  silences-equivalent who x c one other can its a =
      step-if T x.attempt.rang (step_result (public_call known who c) one) (after_attempt config now (public_offered known x) (NotReachable 408) None (public_call known who c) one)
      (step_result c other) (after_attempt config now x (NotReachable 408) None c other)
      (on-equivalent heads config keys who c one other a) (ends-equivalent who x (NotReachable 408) c one other can its a)

  times-equivalent : (who : Identities2) (x : OfferedAttempt) (how : AttemptEndView) (c : Call) (one other : StepOutput) → CanContinue records T now who c →
      RecordsCoverService records x.attempt.service → EquivalentOutputs T one other →
      EquivalentSteps T (on_attempt_timeout config now (public_offered known x) how (public_call known who c) one) (on_attempt_timeout config now x how c other)
  times-equivalent who x how c one other can its a =
      subst (λ (z : Call). EquivalentSteps T (after_attempt config now (public_offered known x) how None z (with_attempt_cancel config (public_offered known x) one)) (on_attempt_timeout config now x how c other))
      (sym (left_public heads config keys who x c))
      (ends-equivalent who x how (call_without_attempt x c) (with_attempt_cancel config (public_offered known x) one) (with_attempt_cancel config x other)
      (record { opening = can.opening; caller = can.caller; covered = can.covered }) its (cancelled-equivalent heads config keys x.attempt.invite one other a))

  dues-equivalent : (who : Identities2) (x : OfferedAttempt) (what : DueWord) (c : Call) (one other : StepOutput) → CanContinue records T now who c → RecordsCoverService records x.attempt.service →
      EquivalentOutputs T one other →
      EquivalentSteps T (on_due config now (public_offered known x) what (public_call known who c) one) (on_due config now x what c other)
  dues-equivalent who x (due.NoReply number) c one other can its a =
      step-if T (number == x.attempt.number) (on_attempt_timeout config now (public_offered known x) NoReply (public_call known who c) one) (step_result (public_call known who c) one)
      (on_attempt_timeout config now x NoReply c other) (step_result c other)
      (times-equivalent who x NoReply c one other can its a) (on-equivalent heads config keys who c one other a)
  dues-equivalent who x (due.NoPrack own) c one other can its a =
      step-if T (has_own own c.acks.waiting) (end_before_answer causes.Unacknowledged config now.at (public_offered known x) (public_call known who c) one) (step_result (public_call known who c) one)
      (end_before_answer causes.Unacknowledged config now.at x c other) (step_result c other)
      (gives-up heads config keys causes.Unacknowledged who now.at x c one other can.opening a) (on-equivalent heads config keys who c one other a)
  dues-equivalent who x (due.Cap number) c one other can its a =
      step-if T (number == x.attempt.number) (on_attempt_timeout config now (public_offered known x) (end_by_time x.attempt.rang) (public_call known who c) one)
      (step_result (public_call known who c) one) (on_attempt_timeout config now x (end_by_time x.attempt.rang) c other) (step_result c other)
      (times-equivalent who x (end_by_time x.attempt.rang) c one other can its a) (on-equivalent heads config keys who c one other a)
  dues-equivalent who x (due.NoAck number) c one other can its a = on-equivalent heads config keys who c one other a
  dues-equivalent who x (due.Expired number) c one other can its a = on-equivalent heads config keys who c one other a

pub responses_while_offered : Heads → VerdictsDependOnMatches → ResponsesWhileOffered
responses_while_offered heads law records config keys now who x key role m code c one other can its is a = answers-equivalent heads law records config keys now who x key role m code c one other can its is a

pub timeouts_while_offered : Heads → VerdictsDependOnMatches → TimeoutsWhileOffered
timeouts_while_offered heads law records config keys now who x c one other can its a = silences-equivalent heads law records config keys now who x c one other can its a

pub deadlines_while_offered : Heads → VerdictsDependOnMatches → DeadlinesWhileOffered
deadlines_while_offered heads law records config keys now who x what c one other can its a = dues-equivalent heads law records config keys now who x what c one other can its a
