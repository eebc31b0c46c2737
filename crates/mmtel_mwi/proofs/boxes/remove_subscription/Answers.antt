use Rattle.std.proofs.Common.{Some, ap, sym, ◌∙◌}
use Rattle.std.specs.Option.{option_map}
use Rattle.mmtel_mwi.specs.Boxes.{ended_leg, is_numbered}
use Rattle.mmtel_mwi.proofs.Places.{found_nowhere, found_there, without_nowhere, without_there}
use Rattle.mmtel_mwi.proofs.boxes.remove_subscription.Goals as goal

pub returns-in-None : goal.returns-in-None
returns-in-None c =
    let live = c.args.live.now.items in
    let gone = rw c.as_slice.ensures.value at (sym c.place_of.ensures.place ∙ c.in-None.is) in
    record {
      rest = without_nowhere (is_numbered c.args.sub) live gone;
      leg = sym (ap (option_map ended_leg) (found_nowhere (is_numbered c.args.sub) live gone));
    }

pub returns-in-Some : goal.returns-in-Some
returns-in-Some c =
    let live = c.args.live.now.items in
    let stands = rw c.as_slice.ensures.value at (sym c.place_of.ensures.place ∙ c.in-Some.is) in
    record {
      rest = c.remove.ensures.items ∙ without_there (is_numbered c.args.sub) live c.in-Some.place stands;
      leg = ap (λ e. Some e) c.leave.ensures ∙ sym (ap (option_map ended_leg) (found_there (is_numbered c.args.sub) live c.in-Some.place c.remove.result stands c.remove.ensures.value));
    }
