use Rattle.std.specs.Option.{option_map}
use Rattle.mmtel_admission.specs.Dispositions.{dialog_owner_in as owner_of}
use Rattle.mmtel_server.proofs.Owners.{named_nobody, named_owner}
use Rattle.mmtel_server.proofs.servers.Server.owner_of_message.Goals as goal

pub returns-in-None : goal.returns-in-None
returns-in-None c = named_nobody c.args.self.now c.args.message.now.parsed c.in_ok-name.name c.in_ok-name.ensures.name c.in-None.is

pub returns-in-Some : goal.returns-in-Some
returns-in-Some c =
    named_owner c.args.self.now c.args.message.now.parsed c.in_ok-name.name c.in-Some.name (option_map owner_of c.owner_of_dialog-owner.result) c.in_ok-name.ensures.name c.in-Some.is c.owner_of_dialog-owner.ensures
