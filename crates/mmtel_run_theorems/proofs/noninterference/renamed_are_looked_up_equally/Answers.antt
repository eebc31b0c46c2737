use Rattle.mmtel_run_theorems.proofs.Lookups.{nobody_is_renamed, renamed_are_looked_up_equally}
use Rattle.mmtel_run_theorems.proofs.noninterference.renamed_are_looked_up_equally.Goals as goal

pub returns : goal.returns
returns c =
    let passed = c.lookups_skip_other_accounts.ensures in
    record { lookups = renamed_are_looked_up_equally passed.agree; nobody = nobody_is_renamed passed.none }
