-- The outcome of a call: which targets it reaches, why, to which of them it is offered, and how it ends, by the records in force when it reached their accounts (TS 24.604
-- §4.5.2.6, TS 24.611 §4.5.2, TS 24.615 §4.5.5).
--
-- It is a function of how its attempts ended, one after the other. The server never has that list: it decides one move at a time.
use Rattle.std.specs.Prelude.{ℕ, zero, suc, ◌+◌, ◌-◌, if◌then◌else◌, List, Option, Some, None}
use Rattle.std.specs.Option.{option_map_or}
use Rattle.mmtel_lex.specs.declared.values.Uri.{Uri}
use Rattle.mmtel_precedence.specs.Services.{DueDiversionView, is_reached}
use Rattle.mmtel_precedence.specs.Verdicts.{too_many}
use Rattle.mmtel_precedence.specs.Calls.{CallInputs, EndedAttempt, Final, Outcome, refused_outcome, outcome_at_last_target, outcome_after_target}
use Rattle.mmtel_precedence.specs.Opening.{refusal_at_opening}
use Rattle.mmtel_served_user.specs.Targets.{new_target}
use Rattle.mmtel_precedence.specs.Targets.{Rests, IsDue, target_outcome_after, target_at}

-- From the target that the call reaches after k diversions, where so many more are left below the configured bound: it stops there, or a diversion is due. Where none is left, or
-- as many were made and received as the account that diverts allows, that diversion refuses the call, as busy where it is for a busy user (RFC 4458 §2); else it leads to the next
-- target, in the same step.
unfoldable pub outcome_from : CallInputs → (left : ℕ) → (k : ℕ) → Uri → Option DueDiversionView → List EndedAttempt → Outcome
outcome_from call zero k uri by endings =
    elim (target_outcome_after call k uri by endings) [
      | Rests result ↦ outcome_at_last_target (target_at call k uri by) result
      | IsDue due later ↦ outcome_at_last_target (target_at call k uri by) (Final (too_many due.cause))
    ]
outcome_from call (suc left) k uri by endings =
    elim (target_outcome_after call k uri by endings) [
      | Rests result ↦ outcome_at_last_target (target_at call k uri by) result
      | IsDue due later ↦
          if is_reached due.bound (call.received + k) then outcome_at_last_target (target_at call k uri by) (Final (too_many due.cause))
          else outcome_after_target (target_at call k uri by) (outcome_from call left (k + 1) (new_target call.home due.forward.target) (Some due) later)
    ]

-- The whole call, whose attempts ended so: why it is refused at its opening, or else its outcome from its first target on.
abbrev pub outcome : CallInputs → List EndedAttempt → Outcome
outcome call endings = option_map_or refused_outcome (refusal_at_opening call) (outcome_from call (call.bound - call.received) 0 call.first_target None endings)
