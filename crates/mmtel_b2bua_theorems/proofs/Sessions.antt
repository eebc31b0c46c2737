-- A trace with detached legs keeps its session as a trace of signals does, and ends by it.
use Rattle.std.proofs.Common.{◌≡◌, List, [], ◌∷◌, None, sym, ap, subst}
use Rattle.mmtel_call_services.specs.declared.openings.Opening.{Opening}
use Rattle.mmtel_call.specs.Detaching.{call_finish}
use Rattle.mmtel_call.specs.Table.{step}
use Rattle.mmtel_call.specs.declared.calls.Call.{Call}
use Rattle.mmtel_call_theorems.specs.Continuation.{CallsContinue}
use Rattle.mmtel_call_theorems.specs.Theorems.{ChargingIsExact}
use Rattle.mmtel_call_theorems.specs.Session.Theorems.{ExpiresAsObserved, IsSessionObserved, SessionsAreObserved, SessionsExpireAsObserved}
use Rattle.mmtel_call_theorems.specs.Session.Observed.{expiries_of, session_after_step, session_after_success}
use Rattle.mmtel_call_theorems.specs.CallTrace.{TraceStart, items_added}
use Rattle.mmtel_b2bua_theorems.specs.Theorems.{TracesExpireAsObserved, TracesKeepTheirSession}
use Rattle.mmtel_b2bua_theorems.specs.TracesWithTransfers.{CallEvent, Finishes, Receives, Releases, Restores, call_after}
use Rattle.mmtel_b2bua_theorems.specs.Observed.{session_after}
use Rattle.mmtel_b2bua_theorems.proofs.Outcomes.{traces_stay}

-- its number is that of the call
its_number : CallsContinue → ChargingIsExact → (s : TraceStart) (events : List CallEvent) → (call_after s events).opening.number ≡ s.arrival.number
its_number law charged s events = ap (λ (o : Opening). o.number) (traces_stay law charged s events)

pub traces_keep : CallsContinue → ChargingIsExact → SessionsAreObserved → TracesKeepTheirSession
unfolding call_after session_after
traces_keep law charged sessions s [] = sessions.opens s
traces_keep law charged sessions s (Receives x ∷ earlier) =
    let c : Call = call_after s earlier in
    subst (λ own. IsSessionObserved s.config.timer (step s.config x.now x.signal c x.output).call
    (session_after_step x.now.at own c x.signal (items_added x.output.out (step s.config x.now x.signal c x.output).output.out) (session_after s earlier))) (its_number law charged s earlier)
    (sessions.steps s.config x.now x.signal c x.output (session_after s earlier) (traces_keep law charged sessions s earlier))
traces_keep law charged sessions s (Releases side ∷ earlier) = sessions.releases s.config.timer side (call_after s earlier) (session_after s earlier) (traces_keep law charged sessions s earlier)
traces_keep law charged sessions s (Restores away ∷ earlier) = sessions.restores s.config.timer away (call_after s earlier) (session_after s earlier) (traces_keep law charged sessions s earlier)
traces_keep law charged sessions s (Finishes at output ∷ earlier) =
    let c : Call = call_after s earlier in
    subst (λ own. IsSessionObserved s.config.timer (call_finish s.config at c output).call
    (session_after_success at (session_after s earlier) None (expiries_of own (items_added output.out (call_finish s.config at c output).output.out)))) (its_number law charged s earlier)
    (sessions.ends s.config at c output (session_after s earlier) (traces_keep law charged sessions s earlier))

pub traces_expire : CallsContinue → ChargingIsExact → SessionsAreObserved → SessionsExpireAsObserved → TracesExpireAsObserved
traces_expire law charged sessions expire s earlier x number is =
    let c : Call = call_after s earlier in
    subst (λ received. ExpiresAsObserved c (session_after s earlier) number x.output (step s.config x.now received c x.output)) (sym is)
    (expire s.config x.now number c (session_after s earlier) x.output (traces_keep law charged sessions s earlier))
