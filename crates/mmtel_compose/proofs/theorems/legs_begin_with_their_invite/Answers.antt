use Rattle.std.proofs.Common.{◌≡◌, Some, arith, codes, refl}
use Rattle.mmtel_leg.specs.Dialogues.{number_in}
use Rattle.mmtel_leg.specs.Remotes.{field, tag_in}
use Rattle.mmtel_leg.specs.Requests.{request_numbered}
use Rattle.mmtel_compose.specs.Attempts.{dialogue_to}
use Rattle.mmtel_compose.proofs.InviteCopyTheorems.{invite_token, number_read}
use Rattle.mmtel_compose.proofs.theorems.legs_begin_with_their_invite.Goals as goal

pub returns : goal.returns
unfolding field tag_in
returns c = record {
  leg = λ aim call_id tag from given tagged.
      let d = dialogue_to aim call_id tag from in
      let one : number_in (request_numbered d 1 (codes "INVITE") given).lines ≡ Some 1 = number_read (request_numbered d 1 (codes "INVITE") given).lines
      (record { number = 1; method = codes "INVITE" }) (c.numbers_read_back.ensures.request d (codes "INVITE") given (omega arith) invite_token) in
      rw (
        one,
        c.requests_name_their_dialog.ensures.call_id d 1 (codes "INVITE") given,
        c.requests_name_their_dialog.ensures.from d 1 (codes "INVITE") given,
        c.requests_name_their_dialog.ensures.to d 1 (codes "INVITE") given,
        tagged,
      ) refl;
}
