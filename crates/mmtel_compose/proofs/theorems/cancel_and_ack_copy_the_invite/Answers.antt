use Rattle.std.proofs.Common.{◌∙◌, codes, refl, sym}
use Rattle.mmtel_compose.specs.Requests.{bare_parts, with_to}
use Rattle.mmtel_compose.proofs.InviteCopyTheorems.{one_route, via}
use Rattle.mmtel_compose.proofs.theorems.cancel_and_ack_copy_the_invite.Goals as goal

pub returns : goal.returns
returns c = record {
  cancel = λ d number given none. record {
    uri = refl;
    via = via d number (codes "CANCEL") (bare_parts given.sip given.branch) ∙ sym (via d number (codes "INVITE") given);
    routes = one_route d d number (codes "CANCEL") (codes "INVITE") (bare_parts given.sip given.branch) given refl refl none;
    from = c.requests_name_their_dialog.ensures.from d number (codes "CANCEL") (bare_parts given.sip given.branch) ∙ sym (c.requests_name_their_dialog.ensures.from d number (codes "INVITE") given);
    call_id = c.requests_name_their_dialog.ensures.call_id d number (codes "CANCEL") (bare_parts given.sip given.branch) ∙ sym (c.requests_name_their_dialog.ensures.call_id d number (codes "INVITE") given);
    number = (
      number,
      (
        (codes "INVITE", c.requests_name_their_dialog.ensures.cseq d number (codes "INVITE") given),
        (codes "CANCEL", c.requests_name_their_dialog.ensures.cseq d number (codes "CANCEL") (bare_parts given.sip given.branch)),
      ),
    );
  };
  cancel_to = λ d number given. c.requests_name_their_dialog.ensures.to d number (codes "CANCEL") (bare_parts given.sip given.branch) ∙ sym (c.requests_name_their_dialog.ensures.to d number (codes "INVITE") given);
  ack = λ d number given to none. record {
    uri = refl;
    via = via (with_to d to) number (codes "ACK") (bare_parts given.sip given.branch) ∙ sym (via d number (codes "INVITE") given);
    routes = one_route (with_to d to) d number (codes "ACK") (codes "INVITE") (bare_parts given.sip given.branch) given refl refl none;
    from = c.requests_name_their_dialog.ensures.from (with_to d to) number (codes "ACK") (bare_parts given.sip given.branch) ∙ sym (c.requests_name_their_dialog.ensures.from d number (codes "INVITE") given);
    call_id = c.requests_name_their_dialog.ensures.call_id (with_to d to) number (codes "ACK") (bare_parts given.sip given.branch) ∙ sym (c.requests_name_their_dialog.ensures.call_id d number (codes "INVITE") given);
    number = (
      number,
      (
        (codes "INVITE", c.requests_name_their_dialog.ensures.cseq d number (codes "INVITE") given),
        (codes "ACK", c.requests_name_their_dialog.ensures.cseq (with_to d to) number (codes "ACK") (bare_parts given.sip given.branch)),
      ),
    );
  };
  ack_to = λ d number sip branch to. c.requests_name_their_dialog.ensures.to (with_to d to) number (codes "ACK") (bare_parts sip branch);
}
