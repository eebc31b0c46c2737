use Rattle.std.proofs.Common.{◌∙◌, ap, codes, sym}
use Rattle.mmtel_transaction.specs.declared.heads.Head.{Head}
use Rattle.mmtel_compose.specs.Requests.{bare_parts}
use Rattle.mmtel_output.proofs.HeadTheorems.{bare_too, cancel_token, invite_token}
use Rattle.mmtel_output.proofs.theorems.cancels_have_heads.Goals as goal

pub returns : goal.returns
returns c = record {
  cancel = λ d number given from to can.
      c.requests_have_heads.ensures.head d number (codes "CANCEL") (bare_parts given.sip given.branch) from to cancel_token (bare_too d number given from to can)
      ∙ ap (λ (h : Head). record h { method = codes "CANCEL" }) (sym (c.requests_have_heads.ensures.head d number (codes "INVITE") given from to invite_token can));
}
