use Rattle.std.proofs.Common.{◌∙◌, List, ap, codes, map, refl, sym}
use Rattle.mmtel_message.specs.Message.{Line, Message}
use Rattle.mmtel_message.specs.Responses.{completed_lines, response, tag_of_response, to_line}
use Rattle.mmtel_message.specs.declared.messages.Start.{Start}
use Rattle.mmtel_trust.specs.PrivateFields.{hide_if, masked_lines, with_value}
use Rattle.mmtel_compose.proofs.ResponseTheorems.{to_kept}
use Rattle.mmtel_output.proofs.MaskedHeads.{same_call, same_tag, same_via, tag_stays}
use Rattle.mmtel_output.proofs.theorems.masked_requests_have_one_head.Goals as goal

pub returns : goal.returns
unfolding response
returns c = record {
  head = λ p start ls r public none.
      let m : Message Start = response start (masked_lines p ls) r in
      let n : Message Start = response start ls r in
      c.heads_rest_on_five_names.ensures.fields m n (record {
        start = refl;
        via = same_via m.lines n.lines (c.responses_copy_request_fields.ensures.via start (masked_lines p ls) r none
            ∙ (ap (λ (xs : List Line). completed_lines r.source xs) (c.masks_leave_the_route.ensures.via p ls) ∙ sym (c.responses_copy_request_fields.ensures.via start ls r none)));
        from = tag_stays p.from (c.masks_leave_the_route.ensures.params p.from) (codes "From") m.lines n.lines (c.responses_copy_request_fields.ensures.from start (masked_lines p ls) r none
            ∙ (c.masks_leave_the_route.ensures.from p ls ∙ ap (λ (xs : List Line). map (with_value (hide_if p.from)) xs) (sym (c.responses_copy_request_fields.ensures.from start ls r none))));
        to = same_tag (codes "To") m.lines n.lines (c.responses_copy_request_fields.ensures.to start (masked_lines p ls) r none ∙ (ap (λ (xs : List Line). map (to_line (tag_of_response r.code r.tag)) xs)
            (c.masking_keeps_the_rest.ensures.lines p (codes "To") ls (to_kept p public)) ∙ sym (c.responses_copy_request_fields.ensures.to start ls r none)));
        call = same_call m.lines n.lines
            (c.responses_copy_request_fields.ensures.call_id start (masked_lines p ls) r none ∙ (c.masks_leave_the_route.ensures.call_id p ls ∙ sym (c.responses_copy_request_fields.ensures.call_id start ls r none)))
            (c.responses_copy_request_fields.ensures.cseq start (masked_lines p ls) r none ∙ (c.masks_leave_the_route.ensures.cseq p ls ∙ sym (c.responses_copy_request_fields.ensures.cseq start ls r none)));
      });
}
