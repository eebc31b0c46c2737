use Rattle.mmtel_b2bua_theorems.proofs.Tabling.{calls_exact}
use Rattle.mmtel_b2bua_theorems.proofs.theorems.calls_of_tables_are_exact.Goals as goal

pub returns : goal.returns
returns c =
    record {
      law =
          calls_exact c.calls_continue.ensures.law c.charging_is_exact.ensures.law c.calls_reach_their_outcome.ensures.law c.calls_show_their_outcome.ensures.law
          c.calls_show_their_outcome.ensures.nothing_later c.attempts_are_observed.ensures.attempts c.attempts_are_observed.ensures.endings
          c.diversions_are_counted.ensures.law c.sessions_are_observed.ensures.law c.sessions_expire.ensures.seen;
    }
