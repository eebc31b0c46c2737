use Rattle.std.proofs.Common.{Bool, sym, subst}
use Rattle.std.proofs.lemmas.Result.{on_err_weaker, on_ok_weaker}
use Rattle.mmtel_b2bua.specs.Detaching.{released_leg_of}
use Rattle.mmtel_b2bua.specs.Queries.{party}
use Rattle.mmtel_run_definitions.specs.Ownership.{account_of_side}
use Rattle.mmtel_run_definitions.specs.Transitions.{after_detach, after_replacing_side, calls_in}
use Rattle.mmtel_types.specs.declared.sides.Side.{Side}
use Rattle.mmtel_server.proofs.Owners.{of_calls}
use Rattle.mmtel_server.proofs.Participants.{breaks_reads, follows_reads, side_so}
use Rattle.mmtel_server.proofs.servers.Server.replace_side.Goals as goal
use Rattle.mmtel_server.specs.Follows.{AddsOfferPrefix, Follows}

pub returns-then-is_of_peer-clause-done : goal.returns-then-is_of_peer-clause-done
returns-then-is_of_peer-clause-done g c = on_ok_weaker c.detach_and_adopt.result (λ holds.
    let P = Follows c.args.self.now c.args.out.now c.detach_and_adopt.new.self c.detach_and_adopt.new.out in
    side_so c.args.self.now P (follows_reads c.args.self.now c.args.out.now c.detach_and_adopt.new.self c.detach_and_adopt.new.out) c.args.context.now.at c.args.participant.room
    c.args.participant.number c.args.peer c.args.named_side.0 c.args.named_side.1 c.party.result c.is_of_peer.result
    c.is_of_peer.ensures (of_calls c.args.self.now c.party.result (party c.args.named_side.0.0 c.args.named_side.1) c.party.ensures)
    (subst (λ (b : Bool). P (λ d token w. after_replacing_side d token c.args.context.now.at c.args.participant.room c.args.participant.number c.args.named_side.0 c.args.named_side.1 b w)) (sym c.if-is_of_peer.true)
    (subst (λ (s : Side). P (λ d token w. after_detach d token c.args.context.now.at c.args.participant.room c.args.participant.number c.args.named_side.0 s
    (account_of_side c.args.named_side.0 s (calls_in d w).entries) (released_leg_of c.args.named_side.0.0 s (calls_in d w).entries) w)) c.other.ensures.across holds)))
    c.detach_and_adopt.ensures.done

pub returns-then-is_of_peer-clause-err : goal.returns-then-is_of_peer-clause-err
returns-then-is_of_peer-clause-err g c = on_err_weaker c.detach_and_adopt.result (λ holds.
    let P = AddsOfferPrefix c.args.self.now c.args.out.now c.detach_and_adopt.new.out in
    side_so c.args.self.now P (breaks_reads c.args.self.now c.args.out.now c.detach_and_adopt.new.out) c.args.context.now.at c.args.participant.room c.args.participant.number c.args.peer
    c.args.named_side.0 c.args.named_side.1 c.party.result c.is_of_peer.result
    c.is_of_peer.ensures (of_calls c.args.self.now c.party.result (party c.args.named_side.0.0 c.args.named_side.1) c.party.ensures)
    (subst (λ (b : Bool). P (λ d token w. after_replacing_side d token c.args.context.now.at c.args.participant.room c.args.participant.number c.args.named_side.0 c.args.named_side.1 b w)) (sym c.if-is_of_peer.true)
    (subst (λ (s : Side). P (λ d token w. after_detach d token c.args.context.now.at c.args.participant.room c.args.participant.number c.args.named_side.0 s
    (account_of_side c.args.named_side.0 s (calls_in d w).entries) (released_leg_of c.args.named_side.0.0 s (calls_in d w).entries) w)) c.other.ensures.across holds)))
    c.detach_and_adopt.ensures.err

pub returns-else-is_of_peer-clause-done : goal.returns-else-is_of_peer-clause-done
returns-else-is_of_peer-clause-done g c = on_ok_weaker c.send_refer_notify.result (λ holds.
    let P = Follows c.args.self.now c.args.out.now c.send_refer_notify.new.self c.send_refer_notify.new.out in
    side_so c.args.self.now P (follows_reads c.args.self.now c.args.out.now c.send_refer_notify.new.self c.send_refer_notify.new.out) c.args.context.now.at c.args.participant.room
    c.args.participant.number c.args.peer c.args.named_side.0 c.args.named_side.1 c.party.result c.is_of_peer.result
    c.is_of_peer.ensures (of_calls c.args.self.now c.party.result (party c.args.named_side.0.0 c.args.named_side.1) c.party.ensures)
    (subst (λ (b : Bool). P (λ d token w. after_replacing_side d token c.args.context.now.at c.args.participant.room c.args.participant.number c.args.named_side.0 c.args.named_side.1 b w)) (sym c.if-is_of_peer.false)
    holds))
    c.send_refer_notify.ensures.done

pub returns-else-is_of_peer-clause-err : goal.returns-else-is_of_peer-clause-err
returns-else-is_of_peer-clause-err g c = on_err_weaker c.send_refer_notify.result (λ holds.
    let P = AddsOfferPrefix c.args.self.now c.args.out.now c.send_refer_notify.new.out in
    side_so c.args.self.now P (breaks_reads c.args.self.now c.args.out.now c.send_refer_notify.new.out) c.args.context.now.at c.args.participant.room c.args.participant.number c.args.peer
    c.args.named_side.0 c.args.named_side.1 c.party.result c.is_of_peer.result
    c.is_of_peer.ensures (of_calls c.args.self.now c.party.result (party c.args.named_side.0.0 c.args.named_side.1) c.party.ensures)
    (subst (λ (b : Bool). P (λ d token w. after_replacing_side d token c.args.context.now.at c.args.participant.room c.args.participant.number c.args.named_side.0 c.args.named_side.1 b w)) (sym c.if-is_of_peer.false)
    holds))
    c.send_refer_notify.ensures.err
