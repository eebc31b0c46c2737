use Rattle.std.proofs.Common.{false, refl}
use Rattle.mmtel_trust.specs.HeaderTable.{shown_lines}
use Rattle.mmtel_compose.proofs.HiddenCallers.{one_destination, one_invite, one_showing}
use Rattle.mmtel_compose.proofs.theorems.attempts_hide_their_caller.Goals as goal

pub returns : goal.returns
returns c = record {
  destination = λ restricts accounts others m n peer routes e. one_destination peer routes m n (c.equal_masks_decide_the_same.ensures.equivalent restricts accounts others m n e).public;
  dialog = λ aim call_id tag m n. refl;
  invite = λ restricts accounts others m n f h k d sip branch waiting e hidden lists.
      let alike = c.equal_masks_decide_the_same.ensures.equivalent restricts accounts others m n e in
      one_invite d sip branch waiting m n (shown_lines f false h m.start m.lines) (shown_lines f false k n.start n.lines) alike.public
      (one_showing f h k m n alike.public (λ history. alike.shown f history hidden) (c.masked_histories_show_the_same.ensures.entries f.mask_all h k lists));
}
