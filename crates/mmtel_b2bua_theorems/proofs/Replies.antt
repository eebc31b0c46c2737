-- Calls reply in the server transactions of their own requests, whatever happens to them.
use Rattle.std.proofs.Common.{◌≡◌, true, ℕ, Bool, List, [], ◌∷◌, length, subst, sym}
use Rattle.mmtel_call_services.specs.CallConfig.{CallConfigView}
use Rattle.mmtel_call.specs.declared.calls.Call.{Call}
use Rattle.mmtel_call_theorems.specs.Continuation.{CallsContinue}
use Rattle.mmtel_call_theorems.specs.NoInjection.Emits.{Each}
use Rattle.mmtel_call_theorems.specs.Theorems.{ChargingIsExact}
use Rattle.mmtel_call_theorems.specs.Replies.{CallIsOf, DetachedCallsKeepTheirOwn, EndsReplyInTheirOwn, IsRepliedIn, OpeningsReplyInTheirOwn, RestoredCallsKeepTheirOwn, StepsReplyInTheirOwn}
use Rattle.mmtel_call_theorems.specs.CallTrace.{TraceStart}
use Rattle.mmtel_call_theorems.proofs.NoInjection.Sending.{each_append, each_drop}
use Rattle.mmtel_b2bua_theorems.specs.TracesWithTransfers.{CallEvent, Finishes, Receives, Releases, Restores, call_after, call_by, emits_after, emits_by}
use Rattle.mmtel_b2bua_theorems.specs.Replies.{CallsReplyInTheirOwn, EventIsOf, TracesReplyInTheirOwn}
use Rattle.mmtel_b2bua_theorems.proofs.Tabling.{output_own}

module _ (steps : StepsReplyInTheirOwn) (openings : OpeningsReplyInTheirOwn) (ends : EndsReplyInTheirOwn) (detached : DetachedCallsKeepTheirOwn) (returned : RestoredCallsKeepTheirOwn) where
  module _ (own : ℕ → Bool) where
    -- one event more
    call_by_own : (config : CallConfigView) (x : CallEvent) (c : Call) → EventIsOf own x → CallIsOf own c → CallIsOf own (call_by config x c)
    call_by_own config (Receives x) c e is = (steps own config x.now x.signal c x.output is e.0 e.1).call_in
    call_by_own config (Releases side) c e is = detached own side c is
    call_by_own config (Restores away) c e is = returned own away c is
    call_by_own config (Finishes at output) c e is = (ends own config at c output is e).call_in

    emits_by_own : (config : CallConfigView) (x : CallEvent) (c : Call) → EventIsOf own x → CallIsOf own c → Each (IsRepliedIn own) (emits_by config x c)
    emits_by_own config (Receives x) c e is = each_drop (IsRepliedIn own) (length x.output.out) _ (steps own config x.now x.signal c x.output is e.0 e.1).out_in
    emits_by_own config (Releases side) c e is = tt
    emits_by_own config (Restores away) c e is = tt
    emits_by_own config (Finishes at output) c e is = each_drop (IsRepliedIn own) (length output.out) _ (ends own config at c output is e).out_in

    module _ (s : TraceStart) (key : own s.arrival.key.0 ≡ true) (had : Each (IsRepliedIn own) s.output.out) where
      call_own : (events : List CallEvent) → Each (EventIsOf own) events → CallIsOf own (call_after s events)
      unfolding call_after
      call_own [] e = (openings own s.config s.now s.arrival s.output key had).call_in
      call_own (x ∷ earlier) e = call_by_own s.config x (call_after s earlier) e.0 (call_own earlier e.1)

      emits_own : (events : List CallEvent) → Each (EventIsOf own) events → Each (IsRepliedIn own) (emits_after s events)
      unfolding emits_after
      emits_own [] e = each_drop (IsRepliedIn own) (length s.output.out) _ (openings own s.config s.now s.arrival s.output key had).out_in
      emits_own (x ∷ earlier) e =
          each_append (IsRepliedIn own) (emits_after s earlier) (emits_by s.config x (call_after s earlier)) (emits_own earlier e.1)
          (emits_by_own s.config x (call_after s earlier) e.0 (call_own earlier e.1))

  pub traces_reply : TracesReplyInTheirOwn
  traces_reply own s events is = emits_own own s is.opening is.output events is.events_in

  pub calls_reply : CallsContinue → ChargingIsExact → CallsReplyInTheirOwn
  calls_reply goes charging own config ops number trace few is of =
      subst (Each (IsRepliedIn own)) (sym (output_own goes charging config ops number trace few is).emits) (traces_reply own trace.start trace.events of)
