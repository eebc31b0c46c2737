use Rattle.std.proofs.Common.{Some, sym, subst}
use Rattle.std.specs.Prelude.{OnErr, OnOk}
use Rattle.mmtel_admission.specs.Dispositions.{dialog_owner_in}
use Rattle.mmtel_admission.specs.declared.status_responses.DialogOwner.{DialogOwner}
use Rattle.mmtel_run_definitions.specs.Transitions.{after_ack_by}
use Rattle.mmtel_server.proofs.Owners.{rests}
use Rattle.mmtel_server.proofs.servers.Server.receive_ack_in.Goals as goal
use Rattle.mmtel_server.specs.Follows.{AddsOfferPrefix, Follows}

pub returns-in-InCall-clause-done : goal.returns-in-InCall-clause-done
returns-in-InCall-clause-done g c = subst (λ (x : DialogOwner). OnOk c.signal_calls.result
    (Follows c.args.self.now c.args.out.now c.signal_calls.new.self c.signal_calls.new.out (λ d token. after_ack_by d token c.args.context.now.at c.args.ack (Some (dialog_owner_in x)))))
    (sym c.in-InCall.is) c.signal_calls.ensures.done

pub returns-in-InCall-clause-err : goal.returns-in-InCall-clause-err
returns-in-InCall-clause-err g c = subst (λ (x : DialogOwner). OnErr c.signal_calls.result
    (AddsOfferPrefix c.args.self.now c.args.out.now c.signal_calls.new.out (λ d token. after_ack_by d token c.args.context.now.at c.args.ack (Some (dialog_owner_in x)))))
    (sym c.in-InCall.is) c.signal_calls.ensures.err

pub returns-in-InConference-clause-done : goal.returns-in-InConference-clause-done
returns-in-InConference-clause-done g c = subst (λ (x : DialogOwner). OnOk c.signal_conferences.result
    (Follows c.args.self.now c.args.out.now c.signal_conferences.new.self c.signal_conferences.new.out (λ d token. after_ack_by d token c.args.context.now.at c.args.ack (Some (dialog_owner_in x)))))
    (sym c.in-InConference.is) c.signal_conferences.ensures.done

pub returns-in-InConference-clause-err : goal.returns-in-InConference-clause-err
returns-in-InConference-clause-err g c = subst (λ (x : DialogOwner). OnErr c.signal_conferences.result
    (AddsOfferPrefix c.args.self.now c.args.out.now c.signal_conferences.new.out (λ d token. after_ack_by d token c.args.context.now.at c.args.ack (Some (dialog_owner_in x)))))
    (sym c.in-InConference.is) c.signal_conferences.ensures.err

pub returns-in-InSubscription-clause-done : goal.returns-in-InSubscription-clause-done
returns-in-InSubscription-clause-done g c =
    subst (λ (x : DialogOwner). Follows c.args.self.now c.args.out.now c.args.self.now c.args.out.now (λ d token. after_ack_by d token c.args.context.now.at c.args.ack (Some (dialog_owner_in x))))
    (sym c.in-InSubscription.is)
    (rests c.args.self.now c.args.out.now)
