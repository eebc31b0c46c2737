use Rattle.mmtel_cli.proofs.StatusTheorems.{checks_are_written, four_rose, no_fault_no_failure, replays_are_listed, replays_need_a_keeper, replays_succeed, serves_are_served}
use Rattle.mmtel_cli.proofs.StatusTheorems.{charges_keep, eight_is_out_of_memory, one_is_usage}
use Rattle.mmtel_cli.proofs.StatusTheorems.{rows_are_listed, rows_need_a_keeper, serving_needs_a_keeper, serving_needs_a_link, seven_rose, six_rose, statuses_are_these, three_is_refused}
use Rattle.mmtel_cli.proofs.StatusTheorems.{zero_is_listed, zero_kept}
use Rattle.mmtel_cli.proofs.theorems.statuses_mean.Goals as goal

pub returns-clause-good : goal.returns-clause-good
returns-clause-good c = replays_are_listed

pub returns-clause-succeed : goal.returns-clause-succeed
returns-clause-succeed c = replays_succeed

pub returns-clause-unkept : goal.returns-clause-unkept
returns-clause-unkept c = replays_need_a_keeper

pub returns-clause-served : goal.returns-clause-served
returns-clause-served c = serves_are_served

pub returns-clause-unserved : goal.returns-clause-unserved
returns-clause-unserved c = serving_needs_a_keeper

pub returns-clause-unlinked : goal.returns-clause-unlinked
returns-clause-unlinked c = serving_needs_a_link

pub returns-clause-checked : goal.returns-clause-checked
returns-clause-checked c = checks_are_written

pub returns-clause-charged : goal.returns-clause-charged
returns-clause-charged c = rows_are_listed

pub returns-clause-uncharged : goal.returns-clause-uncharged
returns-clause-uncharged c = rows_need_a_keeper

pub returns-clause-zero : goal.returns-clause-zero
returns-clause-zero c = zero_is_listed

pub returns-clause-kept : goal.returns-clause-kept
returns-clause-kept c = zero_kept

pub returns-clause-usage : goal.returns-clause-usage
returns-clause-usage c = one_is_usage

pub returns-clause-refused : goal.returns-clause-refused
returns-clause-refused c = three_is_refused

pub returns-clause-link : goal.returns-clause-link
returns-clause-link c = four_rose

pub returns-clause-keeper : goal.returns-clause-keeper
returns-clause-keeper c = six_rose

pub returns-clause-sink : goal.returns-clause-sink
returns-clause-sink c = seven_rose

pub returns-clause-memory : goal.returns-clause-memory
returns-clause-memory c = eight_is_out_of_memory

pub returns-clause-keeps : goal.returns-clause-keeps
returns-clause-keeps c = charges_keep

pub returns-clause-known : goal.returns-clause-known
returns-clause-known c = statuses_are_these

pub returns-clause-no_fault : goal.returns-clause-no_fault
returns-clause-no_fault c = no_fault_no_failure
