use Rattle.std.proofs.Common.{ap, sym, subst}
use Rattle.std.specs.Prelude.{OnErr, OnOk}
use Rattle.mmtel_admission.specs.Dispositions.{disposition_in}
use Rattle.mmtel_admission.specs.declared.status_responses.Disposition.{Disposition}
use Rattle.mmtel_run_definitions.specs.Audio.{is_for_conference}
use Rattle.mmtel_run_definitions.specs.Transitions.{after_disposition}
use Rattle.mmtel_server.proofs.Grows.{stops_on, takes}
use Rattle.mmtel_server.proofs.servers.Server.perform_disposition.Goals as goal
use Rattle.mmtel_server.specs.Follows.{AddsOfferPrefix, Follows}

pub returns-in-Respond-clause-done : goal.returns-in-Respond-clause-done
returns-in-Respond-clause-done g c = subst (λ (x : Disposition). OnOk c.respond-done.result
    (Follows c.args.self.now c.args.out.now c.respond-done.new.self c.respond-done.new.out (λ d token. after_disposition d token c.args.context.now.at c.args.key c.args.request (disposition_in x))))
    (sym c.in-Respond.is) c.respond-done.ensures.done

pub returns-in-Respond-clause-err : goal.returns-in-Respond-clause-err
returns-in-Respond-clause-err g c = stops_on c.respond-done.result
    (λ d token. after_disposition d token c.args.context.now.at c.args.key c.args.request (disposition_in c.args.disposition)) c.args.self.now c.args.out.now c.respond-done.new.out
    (λ d token w. takes c.numbers_never_fall.ensures d token c.args.context.now.at c.args.key c.args.request (disposition_in c.args.disposition) w) c.respond-done.ensures.err

pub returns-in-Enter-clause-done : goal.returns-in-Enter-clause-done
returns-in-Enter-clause-done g c = subst (λ (x : Disposition). OnOk c.signal_calls.result
    (Follows c.args.self.now c.args.out.now c.signal_calls.new.self c.signal_calls.new.out (λ d token. after_disposition d token c.args.context.now.at c.args.key c.args.request (disposition_in x))))
    (sym c.in-Enter.is) c.signal_calls.ensures.done

pub returns-in-Enter-clause-err : goal.returns-in-Enter-clause-err
returns-in-Enter-clause-err g c = subst (λ (x : Disposition). OnErr c.signal_calls.result
    (AddsOfferPrefix c.args.self.now c.args.out.now c.signal_calls.new.out (λ d token. after_disposition d token c.args.context.now.at c.args.key c.args.request (disposition_in x))))
    (sym c.in-Enter.is) c.signal_calls.ensures.err

pub open_call-requires : goal.open_call-requires
open_call-requires g c = c.requires.below (ap disposition_in c.in-OpenCall.is)

pub returns-in-OpenCall-clause-done : goal.returns-in-OpenCall-clause-done
returns-in-OpenCall-clause-done g c = subst (λ (x : Disposition). OnOk c.open_call.result
    (Follows c.args.self.now c.args.out.now c.open_call.new.self c.open_call.new.out (λ d token. after_disposition d token c.args.context.now.at c.args.key c.args.request (disposition_in x))))
    (sym c.in-OpenCall.is) c.open_call.ensures.done

pub returns-in-OpenCall-clause-err : goal.returns-in-OpenCall-clause-err
returns-in-OpenCall-clause-err g c = subst (λ (x : Disposition). OnErr c.open_call.result
    (AddsOfferPrefix c.args.self.now c.args.out.now c.open_call.new.out (λ d token. after_disposition d token c.args.context.now.at c.args.key c.args.request (disposition_in x))))
    (sym c.in-OpenCall.is) c.open_call.ensures.err

pub returns-in-Register-clause-done : goal.returns-in-Register-clause-done
returns-in-Register-clause-done g c = subst (λ (x : Disposition). OnOk c.register-done.result
    (Follows c.args.self.now c.args.out.now c.register-done.new.self c.register-done.new.out (λ d token. after_disposition d token c.args.context.now.at c.args.key c.args.request (disposition_in x))))
    (sym c.in-Register.is) c.register-done.ensures.done

pub returns-in-Register-clause-err : goal.returns-in-Register-clause-err
returns-in-Register-clause-err g c = stops_on c.register-done.result
    (λ d token. after_disposition d token c.args.context.now.at c.args.key c.args.request (disposition_in c.args.disposition)) c.args.self.now c.args.out.now c.register-done.new.out
    (λ d token w. takes c.numbers_never_fall.ensures d token c.args.context.now.at c.args.key c.args.request (disposition_in c.args.disposition) w) c.register-done.ensures.err

pub returns-in-EnterConference-clause-done : goal.returns-in-EnterConference-clause-done
returns-in-EnterConference-clause-done g c = subst (λ (x : Disposition). OnOk c.enter_conference.result
    (Follows c.args.self.now c.args.out.now c.enter_conference.new.self c.enter_conference.new.out (λ d token. after_disposition d token c.args.context.now.at c.args.key c.args.request (disposition_in x))))
    (sym c.in-EnterConference.is) c.enter_conference.ensures.done

pub returns-in-EnterConference-clause-err : goal.returns-in-EnterConference-clause-err
returns-in-EnterConference-clause-err g c = subst (λ (x : Disposition). OnErr c.enter_conference.result
    (AddsOfferPrefix c.args.self.now c.args.out.now c.enter_conference.new.out (λ d token. after_disposition d token c.args.context.now.at c.args.key c.args.request (disposition_in x))))
    (sym c.in-EnterConference.is) c.enter_conference.ensures.err

pub open_conference-done-requires : goal.open_conference-done-requires
open_conference-done-requires g c = c.requires.audio (ap (λ (x : Disposition). is_for_conference (disposition_in x)) c.in-OpenConference.is)

pub returns-in-OpenConference-clause-done : goal.returns-in-OpenConference-clause-done
returns-in-OpenConference-clause-done g c = subst (λ (x : Disposition). OnOk c.open_conference-done.result
    (Follows c.args.self.now c.args.out.now c.open_conference-done.new.self c.open_conference-done.new.out (λ d token. after_disposition d token c.args.context.now.at c.args.key c.args.request (disposition_in x))))
    (sym c.in-OpenConference.is) c.open_conference-done.ensures.done

pub returns-in-OpenConference-clause-err : goal.returns-in-OpenConference-clause-err
returns-in-OpenConference-clause-err g c = subst (λ (x : Disposition). OnErr c.open_conference-done.result
    (AddsOfferPrefix c.args.self.now c.args.out.now c.open_conference-done.new.out (λ d token. after_disposition d token c.args.context.now.at c.args.key c.args.request (disposition_in x))))
    (sym c.in-OpenConference.is) c.open_conference-done.ensures.err

pub join_conference-done-requires : goal.join_conference-done-requires
join_conference-done-requires g c = c.requires.audio (ap (λ (x : Disposition). is_for_conference (disposition_in x)) c.in-JoinConference.is)

pub returns-in-JoinConference-clause-done : goal.returns-in-JoinConference-clause-done
returns-in-JoinConference-clause-done g c = subst (λ (x : Disposition). OnOk c.join_conference-done.result
    (Follows c.args.self.now c.args.out.now c.join_conference-done.new.self c.join_conference-done.new.out (λ d token. after_disposition d token c.args.context.now.at c.args.key c.args.request (disposition_in x))))
    (sym c.in-JoinConference.is) c.join_conference-done.ensures.done

pub returns-in-JoinConference-clause-err : goal.returns-in-JoinConference-clause-err
returns-in-JoinConference-clause-err g c = subst (λ (x : Disposition). OnErr c.join_conference-done.result
    (AddsOfferPrefix c.args.self.now c.args.out.now c.join_conference-done.new.out (λ d token. after_disposition d token c.args.context.now.at c.args.key c.args.request (disposition_in x))))
    (sym c.in-JoinConference.is) c.join_conference-done.ensures.err

pub returns-in-Subscribe-clause-done : goal.returns-in-Subscribe-clause-done
returns-in-Subscribe-clause-done g c = subst (λ (x : Disposition). OnOk c.subscribe-done.result
    (Follows c.args.self.now c.args.out.now c.subscribe-done.new.self c.subscribe-done.new.out (λ d token. after_disposition d token c.args.context.now.at c.args.key c.args.request (disposition_in x))))
    (sym c.in-Subscribe.is) c.subscribe-done.ensures.done

pub returns-in-Subscribe-clause-err : goal.returns-in-Subscribe-clause-err
returns-in-Subscribe-clause-err g c = subst (λ (x : Disposition). OnErr c.subscribe-done.result
    (AddsOfferPrefix c.args.self.now c.args.out.now c.subscribe-done.new.out (λ d token. after_disposition d token c.args.context.now.at c.args.key c.args.request (disposition_in x))))
    (sym c.in-Subscribe.is) c.subscribe-done.ensures.err

pub returns-in-EnterSubscription-clause-done : goal.returns-in-EnterSubscription-clause-done
returns-in-EnterSubscription-clause-done g c = subst (λ (x : Disposition). OnOk c.enter_subscription-done.result
    (Follows c.args.self.now c.args.out.now c.enter_subscription-done.new.self c.enter_subscription-done.new.out (λ d token. after_disposition d token c.args.context.now.at c.args.key c.args.request (disposition_in x))))
    (sym c.in-EnterSubscription.is) c.enter_subscription-done.ensures.done

pub returns-in-EnterSubscription-clause-err : goal.returns-in-EnterSubscription-clause-err
returns-in-EnterSubscription-clause-err g c = subst (λ (x : Disposition). OnErr c.enter_subscription-done.result
    (AddsOfferPrefix c.args.self.now c.args.out.now c.enter_subscription-done.new.out (λ d token. after_disposition d token c.args.context.now.at c.args.key c.args.request (disposition_in x))))
    (sym c.in-EnterSubscription.is) c.enter_subscription-done.ensures.err
