use Rattle.mmtel_run_theorems.proofs.RunTheorems.{sends_no_injection}
use Rattle.mmtel_run_theorems.proofs.theorems.runs_send_no_injection.Goals as goal

pub returns : goal.returns
returns c =
    let lines = c.no_injection_keeps_own_fields.ensures in
    let sends = c.tables_send_no_injection.ensures in
    record {
      law =
          sends_no_injection sends.operations sends.legs c.conferences_send_no_injection.ensures.no_injection c.records_are_those_kept.ensures.reported c.reading_leaves_no_injection.ensures.law
          (λ m clean. record { parted = lines.split m clean; no_injection = lines.no_injection m clean });
    }
