use Rattle.std.proofs.Common.{Option, refl, sym, subst}
use Rattle.std.proofs.lemmas.Result.{on_err_weaker, on_ok_weaker}
use Rattle.std.specs.Option.{option_map}
use Rattle.mmtel_admission.specs.Dispositions.{dialog_owner_in as owner_of}
use Rattle.mmtel_admission.specs.declared.status_responses.DialogOwner.{DialogOwner}
use Rattle.mmtel_run_definitions.specs.Transitions.{after_ack, after_ack_by, dialog_owner_in}
use Rattle.mmtel_server.proofs.Owners.{breaks_so, follows_so, rests}
use Rattle.mmtel_server.proofs.Grows.{acknowledges, stops}
use Rattle.mmtel_server.proofs.servers.Server.receive_ack.Goals as goal
use Rattle.mmtel_server.specs.Follows.{AddsOfferPrefix, Follows}

pub returns-in-Err-clause-err : goal.returns-in-Err-clause-err
returns-in-Err-clause-err g c =
    stops (λ d token. after_ack d token c.args.context.now.at c.args.ack) c.args.self.now c.args.out.now c.args.out.now
    (λ d token w. acknowledges c.numbers_never_fall.ensures d token c.args.context.now.at c.args.ack w) refl

pub returns-in-Ok-None-clause-done : goal.returns-in-Ok-None-clause-done
returns-in-Ok-None-clause-done g c =
    let s = c.args.self.now in
    let out = c.args.out.now in
    follows_so (option_map owner_of c.in-Ok-None.field-0) (λ d w. dialog_owner_in d c.args.ack.parsed w) (λ o d token. after_ack_by d token c.args.context.now.at c.args.ack o) s out
    c.in-Ok-None.ensures s out
    (subst (λ (o : Option DialogOwner). Follows s out s out (λ d token. after_ack_by d token c.args.context.now.at c.args.ack (option_map owner_of o))) (sym c.in-Ok-None.field-0-is) (rests s out))

pub returns-in-Ok-Some-clause-done : goal.returns-in-Ok-Some-clause-done
returns-in-Ok-Some-clause-done g c = on_ok_weaker c.receive_ack_in.result (λ holds.
    let s = c.args.self.now in
    let out = c.args.out.now in
    follows_so (option_map owner_of c.in-Ok-Some.field-0) (λ d w. dialog_owner_in d c.args.ack.parsed w) (λ o d token. after_ack_by d token c.args.context.now.at c.args.ack o) s out
    c.in-Ok-Some.ensures c.receive_ack_in.new.self c.receive_ack_in.new.out
    (subst (λ (o : Option DialogOwner). Follows s out c.receive_ack_in.new.self c.receive_ack_in.new.out (λ d token. after_ack_by d token c.args.context.now.at c.args.ack (option_map owner_of o)))
    (sym c.in-Ok-Some.field-0-is) holds))
    c.receive_ack_in.ensures.done

pub returns-in-Ok-Some-clause-err : goal.returns-in-Ok-Some-clause-err
returns-in-Ok-Some-clause-err g c = on_err_weaker c.receive_ack_in.result (λ holds.
    let s = c.args.self.now in
    let out = c.args.out.now in
    breaks_so (option_map owner_of c.in-Ok-Some.field-0) (λ d w. dialog_owner_in d c.args.ack.parsed w) (λ o d token. after_ack_by d token c.args.context.now.at c.args.ack o) s out
    c.in-Ok-Some.ensures c.receive_ack_in.new.out
    (subst (λ (o : Option DialogOwner). AddsOfferPrefix s out c.receive_ack_in.new.out (λ d token. after_ack_by d token c.args.context.now.at c.args.ack (option_map owner_of o))) (sym c.in-Ok-Some.field-0-is) holds))
    c.receive_ack_in.ensures.err
