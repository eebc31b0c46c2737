use Rattle.std.proofs.Common.{◌≡◌, ◌∙◌, List, ap, codes, false, refl, sym}
use Rattle.mmtel_message.specs.Message.{Line}
use Rattle.mmtel_message.specs.Responses.{Reply, response}
use Rattle.mmtel_message.specs.declared.messages.Start.{Start}
use Rattle.mmtel_trust.specs.ParsedMessage.{ParsedMessage}
use Rattle.mmtel_trust.specs.PrivateFields.{PrivateFields, masked_lines}
use Rattle.mmtel_trust.specs.MaskedMessages.{MaskedMessage}
use Rattle.mmtel_compose.proofs.ResponseTheorems.{from_kept, nowhere, rests, to_kept, to_nowhere, untouched}
use Rattle.mmtel_compose.proofs.theorems.masked_requests_get_one_response.Goals as goal

pub returns : goal.returns
returns c =
    let kept : (p : PrivateFields) (start : Start) (ls : List Line) (r : Reply) → p.from ≡ false → p.to ≡ false → response start (masked_lines p ls) r ≡ response start ls r = λ p start ls r from to.
    rests start (masked_lines p ls) ls r
    (c.masks_leave_the_route.ensures.via p ls)
    (c.masking_keeps_the_rest.ensures.lines p (codes "From") ls (from_kept p from))
    (c.masking_keeps_the_rest.ensures.lines p (codes "To") ls (to_kept p to))
    (c.masks_leave_the_route.ensures.call_id p ls)
    (c.masks_leave_the_route.ensures.cseq p ls)
    (c.masks_leave_the_route.ensures.record_route p ls) in
    record {
      kept = kept;
      strangers = λ restricts accounts others m n r e strange.
          let public = (c.equal_masks_decide_the_same.ensures.equivalent restricts accounts others m n e).public in
          let start : m.start ≡ n.start = ap (λ (x : ParsedMessage). x.start) public in
          let also : n.trusted ≡ false = sym (ap (λ (x : ParsedMessage). x.trusted) public) ∙ strange in
          let lines : masked_lines (nowhere m.start) m.lines ≡ masked_lines (nowhere n.start) n.lines =
          sym (untouched restricts accounts m strange) ∙ (ap (λ (x : MaskedMessage). x.message.lines) e ∙ untouched restricts others n also) in
          sym (kept (nowhere m.start) m.start m.lines r refl (to_nowhere m.start))
          ∙ (ap (λ (ls : List Line). response m.start ls r) lines
          ∙ (ap (λ (s : Start). response s (masked_lines (nowhere n.start) n.lines) r) start
          ∙ kept (nowhere n.start) n.start n.lines r refl (to_nowhere n.start)));
    }
