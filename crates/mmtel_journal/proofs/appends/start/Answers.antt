use Rattle.mmtel_journal.proofs.Torn.{started_empty}
use Rattle.mmtel_journal.proofs.appends.start.Goals as goal

pub returns-clause-made : goal.returns-clause-made
returns-clause-made g c = λ honest none.
    started_empty (g.D.Disk.contents c.args.disk.now) (g.D.Disk.contents c.write_at.new.self) _ none (c.in_ok-write_at.ensures.written honest)
    (c.in_ok-sync.ensures.durable (c.write_at.ensures.honest.0 honest))
