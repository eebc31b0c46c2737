use Rattle.mmtel_sheet_reader.proofs.Ascii.{token_text}
use Rattle.mmtel_sheets.proofs.values.token_value.Goals as goal

pub text_value-requires : goal.text_value-requires
text_value-requires c = rw c.bytes.ensures (token_text c.args.token.now c.requires)
