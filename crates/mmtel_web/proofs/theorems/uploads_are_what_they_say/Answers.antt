use Rattle.mmtel_web.proofs.Uploads.{mailboxes_see_no_text, only_replies_see_texts, uploads_say_their_text, uploads_see_no_text}
use Rattle.mmtel_web.proofs.theorems.uploads_are_what_they_say.Goals as goal

pub returns-clause-replies : goal.returns-clause-replies
returns-clause-replies c = only_replies_see_texts

pub returns-clause-any : goal.returns-clause-any
returns-clause-any c = uploads_see_no_text

pub returns-clause-put : goal.returns-clause-put
returns-clause-put c = mailboxes_see_no_text

pub returns-clause-text : goal.returns-clause-text
returns-clause-text c = uploads_say_their_text
