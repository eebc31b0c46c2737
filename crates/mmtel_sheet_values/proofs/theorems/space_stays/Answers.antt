use Rattle.mmtel_sheet_values.proofs.OtherAccounts.{inserted, stays}
use Rattle.mmtel_sheet_values.proofs.theorems.space_stays.Goals as goal

pub returns-clause-made : goal.returns-clause-made
returns-clause-made c = λ v a. inserted v.space a

pub returns-clause-put : goal.returns-clause-put
returns-clause-put c = λ v a s. inserted v.space a

pub returns-clause-after_more_room : goal.returns-clause-after_more_room
returns-clause-after_more_room c = λ v a b there. stays v.space a b there

pub returns-clause-after_a_sheet : goal.returns-clause-after_a_sheet
returns-clause-after_a_sheet c = λ v a b s there. stays v.space a b there
