use Rattle.mmtel_b2bua_theorems.proofs.Replies.{calls_reply, traces_reply}
use Rattle.mmtel_b2bua_theorems.proofs.theorems.table_calls_reply_in_their_own.Goals as goal

pub returns : goal.returns
returns c =
    let own = c.calls_reply_in_their_own.ensures in
    record {
      traces = traces_reply own.step own.opening own.end own.detached own.restored;
      law = calls_reply own.step own.opening own.end own.detached own.restored c.calls_continue.ensures.law c.charging_is_exact.ensures.law;
    }
