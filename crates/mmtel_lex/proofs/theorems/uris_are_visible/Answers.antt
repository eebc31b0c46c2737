use Rattle.mmtel_lex.proofs.Visible.{uri_visible, printed_visible}
use Rattle.mmtel_lex.proofs.theorems.uris_are_visible.Goals as goal

pub returns : goal.returns
returns c = record { text = uri_visible; printed = printed_visible }
