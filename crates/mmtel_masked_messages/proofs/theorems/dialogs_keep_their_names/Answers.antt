use Rattle.mmtel_masked_messages.proofs.DialogTheorems.{dialogs, dialogs_equal, equal_dialogs, nobody, numbers, remotes, routes, tags, target}
use Rattle.mmtel_masked_messages.proofs.theorems.dialogs_keep_their_names.Goals as goal

pub returns : goal.returns
returns c = record { tags = tags; routes = routes; numbers = numbers; remotes = remotes; target = target; nobody = nobody; dialogs = dialogs; equivalent = equal_dialogs; taken_alike = dialogs_equal }
