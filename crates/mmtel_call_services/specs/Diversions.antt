-- How a call was diverted so far (RFC 7044 §7, TS 24.604 §4.5.2.6).
use Rattle.std.specs.Prelude.{ℕ, ◌+◌, not, Bool, List}
use Rattle.mmtel_history.specs.HistoryInfo.{list_after_diversion}
use Rattle.mmtel_history.specs.declared.entries.Entry.{Entry}
use Rattle.mmtel_precedence.specs.Services.{DueDiversionView}

pub record DiversionsView : Type 0 where
  -- how many more diversions the bound allows
  pub remaining : ℕ
  -- the diversions with which the call came, and those that were made
  pub count : ℕ
  -- its History-Info
  pub history : List Entry
  -- what the caller is not notified of in the last diversion: the account that diverted, and the new target
  pub hides_diverting : Bool
  pub hides_target : Bool

-- after one more diversion from this URI to this one, after which this many are left
abbrev pub after_diversion : (from uri : List ℕ) → (left : ℕ) → DueDiversionView → DiversionsView → DiversionsView
after_diversion from uri left due d = record {
  remaining = left;
  count = d.count + 1;
  history = list_after_diversion d.history from uri due.cause (not due.forward.reveal_to_target);
  hides_diverting = not due.forward.reveal_served_to_caller;
  hides_target = not due.forward.reveal_to_caller;
}
