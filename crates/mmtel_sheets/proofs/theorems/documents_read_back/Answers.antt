use Rattle.mmtel_sheets.proofs.RuleBack.{rule_back}
use Rattle.mmtel_sheets.proofs.TablesBack.{sheet_back}
use Rattle.mmtel_sheets.proofs.theorems.documents_read_back.Goals as goal

pub returns : goal.returns
returns c = record { sheet = sheet_back; rule = rule_back }
