use Rattle.mmtel_b2bua_theorems.proofs.Outcomes.{traces_charged, traces_counted, traces_reach, traces_show}
use Rattle.mmtel_b2bua_theorems.proofs.Sessions.{traces_expire, traces_keep}
use Rattle.mmtel_b2bua_theorems.proofs.Observed.{attempts_observed, endings_observed_so, traces_show_throughout}
use Rattle.mmtel_b2bua_theorems.proofs.theorems.traces_reach_their_outcome.Goals as goal

pub returns : goal.returns
returns c =
    let law = c.calls_continue.ensures.law in
    let charged = c.charging_is_exact.ensures.law in
    record {
      result = traces_reach law charged c.calls_reach_their_outcome.ensures.law;
      shown = traces_show law charged c.calls_show_their_outcome.ensures.law;
      throughout = traces_show_throughout law charged c.calls_show_their_outcome.ensures.law c.calls_show_their_outcome.ensures.nothing_later;
      seen = endings_observed_so law charged c.attempts_are_observed.ensures.attempts c.attempts_are_observed.ensures.endings;
      watched = attempts_observed law charged c.attempts_are_observed.ensures.attempts;
      session = traces_keep law charged c.sessions_are_observed.ensures.law;
      expires = traces_expire law charged c.sessions_are_observed.ensures.law c.sessions_expire.ensures.seen;
      counted = traces_counted law charged c.diversions_are_counted.ensures.law;
      charged = traces_charged law charged;
    }
