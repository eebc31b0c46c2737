-- What a request is to store: an upload, or the empty text of a DELETE (3GPP TS 24.623 §5).
use Rattle.std.specs.Prelude.{◌≡◌, ℕ, List, [], Option, Some, None}
use Rattle.mmtel_directory.specs.declared.directories.WebDirectory.{WebDirectory}
use Rattle.mmtel_http.specs.Requests.{ParsedRequestView}
use Rattle.mmtel_sheet_grammar.specs.Texts.{stored_sheet}
use Rattle.mmtel_sheet_values.specs.declared.values.Sheet.{Sheet}
use Rattle.mmtel_types.specs.declared.numbers.Account.{Account}
use Rattle.mmtel_web.specs.Handling.{KeeperOutcomeView, made, failed, no_memory, web_of}
use Rattle.mmtel_mwi.specs.declared.counts.Counts.{Counts}
use Rattle.mmtel_web.specs.Mailboxes.{counts_put_by}
use Rattle.mmtel_web.specs.declared.handling.Web.{Web}
use Rattle.mmtel_web.specs.declared.handling.Web.TheVariants as web

-- the account and the text, by what the server does for the request
abbrev pub upload_by : Web → Option (Account × List ℕ)
upload_by (web.Read text) = None
upload_by (web.Store account sheet text reply) = Some (account, text)
upload_by web.Charges = None
upload_by (web.Mailbox account body) = None

-- what is stored does not depend on the texts in force, so it is defined without any
abbrev pub upload_in : WebDirectory → ParsedRequestView → Option (Account × List ℕ)
upload_in d request = upload_by (web_of d [] request)

-- nor do the counts that are set in a mailbox
abbrev pub counts_put_in : WebDirectory → ParsedRequestView → KeeperOutcomeView → Option (Account × Counts)
counts_put_in d request kept = counts_put_by kept (web_of d [] request)

-- and it is stored exactly where the keeper's call was made
abbrev pub stored_upload : KeeperOutcomeView → Option (Account × List ℕ) → Option (Account × List ℕ)
stored_upload made upload = upload
stored_upload failed upload = None
stored_upload no_memory upload = None

-- what is done, except for the texts that a reply reads
abbrev pub without_reply_text : Web → Web
without_reply_text (web.Read text) = web.Read []
without_reply_text (web.Store account sheet text reply) = web.Store account sheet text reply
without_reply_text web.Charges = web.Charges
without_reply_text (web.Mailbox account body) = web.Mailbox account body

-- what is done depends on the texts in force only in what a reply reads,
abbrev pub OnlyRepliesSeeTexts : Type 0
OnlyRepliesSeeTexts = (d : WebDirectory) (texts : List (Account × List ℕ)) (request : ParsedRequestView) →
    without_reply_text (web_of d texts request) ≡ without_reply_text (web_of d [] request)

-- and so what is stored does not
abbrev pub UploadsSeeNoText : Type 0
UploadsSeeNoText = (d : WebDirectory) (texts : List (Account × List ℕ)) (request : ParsedRequestView) → upload_by (web_of d texts request) ≡ upload_in d request

-- nor do the counts that are set
abbrev pub MailboxesSeeNoText : Type 0
MailboxesSeeNoText = (d : WebDirectory) (texts : List (Account × List ℕ)) (request : ParsedRequestView) (kept : KeeperOutcomeView) →
    counts_put_by kept (web_of d texts request) ≡ counts_put_in d request kept

-- the sheet that is to be put in force is that of the text
abbrev pub UploadsSayTheirText : Type 0
UploadsSayTheirText = (d : WebDirectory) (texts : List (Account × List ℕ)) (request : ParsedRequestView) (account : Account) (sheet : Sheet) (text reply : List ℕ)
    → web_of d texts request ≡ web.Store account sheet text reply → sheet ≡ stored_sheet text
