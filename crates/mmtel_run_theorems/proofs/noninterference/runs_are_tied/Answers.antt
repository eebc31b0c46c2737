use Rattle.mmtel_run_theorems.proofs.SentOnce.{Once}
use Rattle.mmtel_run_theorems.proofs.Tied.{runs_are_tied}
use Rattle.mmtel_run_theorems.proofs.noninterference.runs_are_tied.Goals as goal

pub returns : goal.returns
returns c =
    let calls = c.calls_send_once.ensures in
    let once : Once = record { steps = calls.step; openings = calls.opening; ends = calls.end; detached = calls.detached; restored = calls.restored; conferences = c.conferences_send_once.ensures.once } in
    record {
      tied = runs_are_tied c.tokens_differ.ensures.differ c.messages_belong_to_one_transaction.ensures.live c.fields_are_read.ensures.five c.fields_are_read.ensures.via c.fields_are_on_lines.ensures.cseq once;
    }
