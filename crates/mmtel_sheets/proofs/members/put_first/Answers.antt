use Rattle.mmtel_sheets.proofs.Inserting.{put_named}
use Rattle.mmtel_sheets.proofs.members.put_first.Goals as goal

pub returns : goal.returns
returns c = put_named c.in_ok-name.name c.args.key.now c.args.value c.args.rest.entries c.insert.new.self.entries c.in_ok-name.ensures.ok c.in_ok-insert.ensures.entries c.requires
