use Rattle.std.proofs.Common.{Option, Some, ℕ, ap, sym, ◌∙◌}
use Rattle.mmtel_admission.specs.Dialogs.{name_in}
use Rattle.mmtel_run_definitions.specs.Ownership.{DialogOwner, find_participant, find_subscription, in_call_or, in_conference_or, in_subscription}
use Rattle.mmtel_run_definitions.specs.Transitions.{RunState, conferences_in, subscriptions_in}
use Rattle.mmtel_directory.specs.declared.directories.Directory.{Directory}
use Rattle.mmtel_admission.specs.declared.dialogs.DialogName.{DialogName}
use Rattle.mmtel_types.specs.declared.numbers.RoomNo.{RoomNo}
use Rattle.mmtel_server.proofs.Owners.{found_call, found_participant, found_subscription}
use Rattle.mmtel_server.proofs.servers.Server.owner_of_dialog.Goals as goal

-- the owner where no call has the dialog
abbrev of_boxes : DialogName → RunState → Option DialogOwner
of_boxes name w = in_subscription (find_subscription (Some (name_in name)) (subscriptions_in w))

abbrev elsewhere : DialogName → Directory → RunState → Option DialogOwner
elsewhere name d w = in_conference_or (of_boxes name w) (find_participant (Some (name_in name)) (conferences_in d w).live)

pub returns-in-Some : goal.returns-in-Some
returns-in-Some c d token w have =
    let name = c.args.name.now in
    let call = found_call c.args.self.now name c.bytes-call_id.result.now c.bytes-local.result.now c.bytes-remote.result.now c.find.result c.bytes-call_id.ensures c.bytes-local.ensures
    c.bytes-remote.ensures c.find.ensures d token w have in
    ap (in_call_or (elsewhere name d w)) (sym c.in-Some.is ∙ call)

pub returns-in-Some-find : goal.returns-in-Some-find
returns-in-Some-find c d token w have =
    let name = c.args.name.now in
    let call = found_call c.args.self.now name c.bytes-call_id.result.now c.bytes-local.result.now c.bytes-remote.result.now c.find.result c.bytes-call_id.ensures c.bytes-local.ensures
    c.bytes-remote.ensures c.find.ensures d token w have in
    let seat = found_participant c.args.self.now name c.bytes-call_id.result.now c.bytes-local.result.now c.bytes-remote.result.now c.find-in-None.result c.bytes-call_id.ensures c.bytes-local.ensures
    c.bytes-remote.ensures c.find-in-None.ensures d token w have in
    ap (λ (o : Option (RoomNo × ℕ)). in_conference_or (of_boxes name w) o) (sym c.in-Some-find.is ∙ seat) ∙ ap (in_call_or (elsewhere name d w)) (sym c.in-None.is ∙ call)

pub returns-in-None-find : goal.returns-in-None-find
returns-in-None-find c d token w have =
    let name = c.args.name.now in
    let call = found_call c.args.self.now name c.bytes-call_id.result.now c.bytes-local.result.now c.bytes-remote.result.now c.find.result c.bytes-call_id.ensures c.bytes-local.ensures
    c.bytes-remote.ensures c.find.ensures d token w have in
    let seat = found_participant c.args.self.now name c.bytes-call_id.result.now c.bytes-local.result.now c.bytes-remote.result.now c.find-in-None.result c.bytes-call_id.ensures c.bytes-local.ensures
    c.bytes-remote.ensures c.find-in-None.ensures d token w have in
    let box = found_subscription c.args.self.now name c.bytes-call_id.result.now c.bytes-local.result.now c.bytes-remote.result.now c.find-in-None-find.result c.bytes-call_id.ensures c.bytes-local.ensures
    c.bytes-remote.ensures c.find-in-None-find.ensures.found d token w have in
    c.in_subscription.ensures
    ∙ (ap in_subscription box ∙ (ap (λ (o : Option (RoomNo × ℕ)). in_conference_or (of_boxes name w) o) (sym c.in-None-find.is ∙ seat) ∙ ap (in_call_or (elsewhere name d w)) (sym c.in-None.is ∙ call)))
