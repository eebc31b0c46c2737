use Rattle.mmtel_sheets.proofs.MomentTexts.{hour_utf8}
use Rattle.mmtel_sheets.proofs.values.hour_value.Goals as goal

pub text_value-requires : goal.text_value-requires
text_value-requires c = hour_utf8 c.args.minutes c.requires
