use Rattle.std.proofs.Common.{◌∙◌, sym}
use Rattle.mmtel_sheet_texts.proofs.Puts.{put_there, put_behind}
use Rattle.mmtel_sheet_texts.proofs.texts.put_reserved.Goals as goal

pub returns-in-Some : goal.returns-in-Some
returns-in-Some c =
    record { put = put_there c.args.account c.args.text c.args.texts.now.items c.in-Some.at (rw c.as_slice.ensures.value at (sym c.index_of_account.ensures.place ∙ c.in-Some.is)) }

pub returns-in-None : goal.returns-in-None
returns-in-None c =
    record { put = c.push_reserved.ensures.items ∙ put_behind c.args.account c.args.text c.args.texts.now.items (rw c.as_slice.ensures.value at (sym c.index_of_account.ensures.place ∙ c.in-None.is)) }
