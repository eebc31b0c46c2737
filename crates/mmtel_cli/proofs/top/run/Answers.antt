use Rattle.mmtel_cli.proofs.Linking.{counts_at_four, is_unbound}
use Rattle.mmtel_cli.proofs.Running.{ran, calls_exposed, is_unchanged_keeper}
use Rattle.mmtel_cli.proofs.top.run.Goals as goal

pub returns-clause-ran : goal.returns-clause-ran
returns-clause-ran g c =
    ran c.calls_of_runs_reach_outcome.ensures.law c.run_participants_charged_once.ensures.law c.runs_send_no_injection.ensures.law
    c.homes_have_no_injection.ensures.law c.configurations_are_read.ensures.read c.bytes_are_seen.ensures.apart _ _ _ _ _ _ _
    c.prepare-due.ensures.prepares c.write_report-status.ensures.ends

pub returns-clause-sessions : goal.returns-clause-sessions
returns-clause-sessions g c = c.short_sessions_are_refused.ensures.law

pub returns-clause-mailboxes : goal.returns-clause-mailboxes
returns-clause-mailboxes g c = c.subscribers_are_notified.ensures.law

pub returns-clause-calls : goal.returns-clause-calls
returns-clause-calls g c = calls_exposed _ _ _ _ _ _ _ c.prepare-due.ensures.prepares c.write_report-status.ensures.ends

pub returns-clause-keeper : goal.returns-clause-keeper
returns-clause-keeper g c = is_unchanged_keeper _ _ _ _ _ _ _ c.prepare-due.ensures.prepares c.prepare-due.ensures.spares c.write_report-status.ensures.ends

pub returns-clause-link : goal.returns-clause-link
returns-clause-link g c = is_unbound _ _ _ _ _ _ _ c.prepare-due.ensures.prepares c.write_report-status.ensures.ends

pub returns-clause-arrival_faults : goal.returns-clause-arrival_faults
returns-clause-arrival_faults g c =
    counts_at_four _ _ _ _ _ _ _ c.prepare-due.ensures.prepares c.write_report-status.ensures.ends
    (ran c.calls_of_runs_reach_outcome.ensures.law c.run_participants_charged_once.ensures.law c.runs_send_no_injection.ensures.law
    c.homes_have_no_injection.ensures.law c.configurations_are_read.ensures.read c.bytes_are_seen.ensures.apart _ _ _ _ _ _ _
    c.prepare-due.ensures.prepares c.write_report-status.ensures.ends)
