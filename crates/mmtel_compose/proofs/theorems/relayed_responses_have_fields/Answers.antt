use Rattle.std.proofs.Common.{◌≡◌, List, ℕ, codes, false, refl, true}
use Rattle.mmtel_message.specs.Message.{has_line}
use Rattle.mmtel_trust.specs.Kinds.{is_own_field}
use Rattle.mmtel_trust.specs.HeaderTable.{shown_lines}
use Rattle.mmtel_compose.specs.Responses.{relayed_reply}
use Rattle.mmtel_compose.proofs.ResponseTheorems.{none_has}
use Rattle.mmtel_compose.proofs.theorems.relayed_responses_have_fields.Goals as goal

pub returns : goal.returns
returns c = record {
  five = λ contact tag m r f to_trusted h five source fit lines.
      let passed = shown_lines f to_trusted h r.parsed.start r.parsed.lines in
      let none : (name : List ℕ) → is_own_field name ≡ true → has_line name passed ≡ false =
      λ name own. none_has name passed (c.own_fields_are_not_passed.ensures.shown f to_trusted name h r.parsed.start r.parsed.lines own) in
      c.responses_have_the_fields.ensures.five m.parsed.start m.parsed.lines (relayed_reply contact m.source tag passed r.parsed) five
      (record {
        none = record {
          via = (none (codes "Via") refl, refl);
          passed = record { from = none (codes "From") refl; to = none (codes "To") refl; call_id = none (codes "Call-ID") refl; cseq = none (codes "CSeq") refl };
          named = record { from = refl; to = refl; call_id = refl; cseq = refl };
        };
        source = source;
        tag = fit;
      })
      lines;
}
