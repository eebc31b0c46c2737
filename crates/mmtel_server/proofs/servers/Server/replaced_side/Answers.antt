use Rattle.std.proofs.Common.{List, ℕ, Option, Some, ◌∙◌, ap, sym}
use Rattle.mmtel_b2bua.specs.Queries.{first_side, side_by_dialog}
use Rattle.mmtel_run_definitions.specs.Calls.{find_dialog, name_by}
use Rattle.mmtel_run_definitions.specs.Transitions.{calls_in}
use Rattle.mmtel_server.proofs.Owners.{of_calls}
use Rattle.mmtel_server.proofs.servers.Server.replaced_side.Goals as goal

pub returns-in-Some-from_tag : goal.returns-in-Some-from_tag
returns-in-Some-from_tag c d token w have =
    let es = (calls_in d w).entries in
    let x = c.args.replaces.now in
    of_calls c.args.self.now c.find.result (first_side (side_by_dialog c.bytes.result.now c.bytes-in-Some-from_tag.result.now c.bytes-in-Some-from_tag-2.result.now)) c.find.ensures d token w have
    ∙ (ap (λ (l : List ℕ). first_side (side_by_dialog l c.bytes-in-Some-from_tag.result.now c.bytes-in-Some-from_tag-2.result.now) es) c.bytes.ensures
    ∙ (ap (λ (l : List ℕ). first_side (side_by_dialog x.call_id l c.bytes-in-Some-from_tag-2.result.now) es) c.bytes-in-Some-from_tag.ensures
    ∙ (ap (λ (l : List ℕ). first_side (side_by_dialog x.call_id c.in-Some.local l) es) c.bytes-in-Some-from_tag-2.ensures
    ∙ (ap (λ (o : Option (List ℕ)). find_dialog (name_by (Some x.call_id) o (Some c.in-Some-from_tag.remote)) es) (sym c.in-Some.is)
    ∙ ap (λ (o : Option (List ℕ)). find_dialog (name_by (Some x.call_id) x.to_tag o) es) (sym c.in-Some-from_tag.is)))))
