use Rattle.mmtel_charging.proofs.Injectivity.{row-again}
use Rattle.mmtel_charging.proofs.printing.rows_are_distinguished.Goals as goal

pub returns : goal.returns
returns c = record { distinguished = row-again c.causes_are_distinguished.ensures.distinguished c.args.one c.args.other c.numbers_fit.ensures.in_range c.numbers_fit-2.ensures.in_range }
