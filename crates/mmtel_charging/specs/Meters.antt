-- What a meter has recorded, and the row that it gives: one account's part in one call, as charging data of a call has it (TS 32.260 §5: who is charged, from when to when, and
-- why it ended).
use Rattle.std.specs.Prelude.{ℕ, Option}
use Rattle.mmtel_types.specs.declared.numbers.Account.{Account}
use Rattle.mmtel_types.specs.declared.numbers.CallNo.{CallNo}
use Rattle.mmtel_types.specs.declared.causes.Cause.{Cause}
use Rattle.mmtel_charging.specs.declared.rows.Kind.{Kind}
use Rattle.mmtel_charging.specs.declared.rows.Row.{Row}

-- for which part, of whom, in which call, since when, and when it was answered; moments in milliseconds since 1970-01-01T00:00:00Z
pub record MeterView : Type 0 where
  pub kind : Kind
  pub account : Account
  pub call : CallNo
  pub began : ℕ
  pub answered : Option ℕ

-- the row of a meter that is closed
abbrev pub row_of_meter : MeterView → ℕ → ℕ → Cause → Row
row_of_meter meter now holds cause =
    record { kind = meter.kind; account = meter.account; call = meter.call; began = meter.began; answered = meter.answered; ended = now; holds = holds; cause = cause }
