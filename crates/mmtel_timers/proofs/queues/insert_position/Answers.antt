use Rattle.std.proofs.Common.{ap, ◌∙◌}
use Rattle.std.specs.BTreeMap.{is_at}
use Rattle.std.specs.Map.{remove_entry}
use Rattle.mmtel_timers.specs.Queues.{queue_position_cmp}
use Rattle.mmtel_timers.proofs.QueuePositions.{put_back}
use Rattle.mmtel_timers.proofs.queues.insert_position.Goals as goal

pub returns-in-Err-insert-clause-err_queue : goal.returns-in-Err-insert-clause-err_queue
returns-in-Err-insert-clause-err_queue c =
    c.remove.ensures.entries
    ∙ (ap (remove_entry (is_at (queue_position_cmp c.args.position))) c.in-Ok.ensures.entries
    ∙ put_back c.args.position c.args.key c.args.queue.now.entries c.requires)
