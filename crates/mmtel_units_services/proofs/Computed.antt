-- Each row computes.
use Rattle.std.proofs.Common.{refl}
use Rattle.mmtel_base.specs.Classes.{in_class}
use Rattle.mmtel_rules.specs.Conditions.{condition_holds}
use Rattle.mmtel_rules.specs.Identities.{identity_holds}
use Rattle.mmtel_lex.specs.SameIdentity.{is_same_identity}
use Rattle.mmtel_precedence.specs.Outcome.{outcome_from}
use Rattle.mmtel_units_services.specs.Rows.{AreEnds, AreOutcomes}

pub are_outcomes : AreOutcomes
unfolding outcome_from condition_holds identity_holds is_same_identity in_class
are_outcomes = record {
  anonymous_rejection = refl;
  no_identity = refl;
  hidden_by_record = refl;
  two_diversions = refl;
  hidden_forward = refl;
  received_busy = refl;
  received_free = refl;
  received_four = refl;
  bound_zero = refl;
  loop = refl;
  own_bound_received = refl;
  own_bound_below = refl;
  own_bound_made = refl;
  own_bound_of_another = refl;
  own_bound_above = refl;
  not_diverted_before = refl;
  received_diverted = refl;
  diverted_here = refl;
  diverted_abroad = refl;
  diverted_at_home = refl;
  country_not_known = refl;
  barred_at_the_bound = refl;
  deflected = refl;
  deflected_ringing = refl;
  deflection_not_allowed = refl;
  not_registered = refl;
  not_registered_diverted = refl;
  told_registered = refl;
  told_not_registered = refl;
  told_of_the_first = refl;
  no_account = refl;
  no_route = refl;
  to_a_number = refl;
  number_of_nobody = refl;
  waits = refl;
  network_busy = refl;
  critical = refl;
  not_critical = refl;
  user_of_no_account = refl;
  barred_at_opening = refl;
  not_barred_at_opening = refl;
  caller_alone = refl;
  target_alone = refl;
  record_of_the_attempt = refl;
}

pub are_ends : AreEnds
are_ends = record {
  trying = refl;
  ringing = refl;
  progress = refl;
  provisional = refl;
  success = refl;
  last_success = refl;
  gave_up_ringing = refl;
  gave_up = refl;
  after_gave_up = λ c. refl;
  unacknowledged_ringing = refl;
  unacknowledged = refl;
  after_unacknowledged = λ c. refl;
  after_answer = λ c. refl;
}
