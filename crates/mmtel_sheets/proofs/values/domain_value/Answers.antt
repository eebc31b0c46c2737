use Rattle.mmtel_sheet_reader.proofs.Ascii.{domain_text}
use Rattle.mmtel_sheets.proofs.values.domain_value.Goals as goal

pub text_value-requires : goal.text_value-requires
text_value-requires c = rw c.bytes.ensures (domain_text c.args.domain.now c.requires)
