-- What the server does for a request (RFC 9110 §9.3 and §15; 3GPP TS 24.623 §5): a reply, or a record to be stored and a reply, or the charging rows, or the counts of a mailbox.
-- The first case that applies decides.
use Rattle.std.specs.Prelude.{ℕ, List, [], Some, None, if◌then◌else◌, codes, unwrap_or}
use Rattle.std.specs.declared.option.Option.{Option}
use Rattle.mmtel_types.specs.declared.numbers.Account.{Account}
use Rattle.mmtel_charging.specs.declared.rows.Row.{Row}
use Rattle.mmtel_charging.specs.Rows.{text_of}
use Rattle.mmtel_http.specs.Replies.{reply_text}
use Rattle.mmtel_http.specs.Requests.{HttpRequestView, ParsedRequestView, unfinished, bad, large, parsed}
use Rattle.mmtel_sheet_texts.specs.Texts.{text_at}
use Rattle.mmtel_http.specs.Resources.{resource_of, method_of}
use Rattle.mmtel_http.specs.declared.resources.Resource.{Resource}
use Rattle.mmtel_http.specs.declared.resources.Resource.TheVariants as place
use Rattle.mmtel_http.specs.declared.resources.Method.{Method}
use Rattle.mmtel_http.specs.declared.resources.Method.TheVariants as method
use Rattle.mmtel_sheet_reader.specs.Uploads.{upload_of}
use Rattle.mmtel_sheet_reader.specs.declared.uploads.Upload.{Upload}
use Rattle.mmtel_sheet_reader.specs.declared.uploads.Upload.TheVariants.{Accepted, Refused}
use Rattle.mmtel_web.specs.Mailboxes.{counts_reply, mailbox_action}
use Rattle.mmtel_web.specs.Parties.{identity_of, may_access, is_operator}
pub use Rattle.mmtel_web.specs.Replies.{KeeperOutcomeView, empty_reply, failed, is_toml, made, no_memory, not_allowed, toml_type}
use Rattle.mmtel_directory.specs.Directory.{is_account}
use Rattle.mmtel_directory.specs.declared.directories.WebDirectory.{WebDirectory}
use Rattle.mmtel_mwi.specs.Counting.{counts_read}
use Rattle.mmtel_web.specs.declared.handling.Web.{Web}
use Rattle.mmtel_web.specs.declared.handling.Web.TheVariants as web

-- an upload for the account
abbrev pub upload_action : Account → List ℕ → Upload → Web
upload_action account text (Accepted sheet) = web.Store account sheet text (reply_text 200 None [] [])
upload_action account text (Refused fault) = web.Read (reply_text 409 None (codes "text/plain") fault)

-- a request of an account for its record
abbrev pub record_action : List (Account × List ℕ) → HttpRequestView → Account → Method → Web
record_action texts a account method.Get = web.Read (reply_text 200 None toml_type (unwrap_or (text_at texts account) []))
record_action texts a account method.Put = if is_toml a.kind then upload_action account a.body (upload_of a.body) else empty_reply 415
record_action texts a account method.Delete = upload_action account [] (upload_of [])
record_action texts a account method.Other = not_allowed (codes "GET, PUT, DELETE")

-- a request of somebody for the record of an account, if it is one
abbrev pub account_record_action : WebDirectory → List (Account × List ℕ) → HttpRequestView → Method → Option Account → Web
account_record_action d texts a m None = empty_reply 404
account_record_action d texts a m (Some account) =
    if is_account d.accounts account
    then (if may_access d.accounts account (identity_of a.identity) then record_action texts a account m else empty_reply 403)
    else empty_reply 404

-- a request of somebody for a record
abbrev pub sheet_action : WebDirectory → List (Account × List ℕ) → HttpRequestView → Option Account → Method → Web
sheet_action d texts a account method.Get = account_record_action d texts a method.Get account
sheet_action d texts a account method.Put = account_record_action d texts a method.Put account
sheet_action d texts a account method.Delete = account_record_action d texts a method.Delete account
sheet_action d texts a account method.Other = not_allowed (codes "GET, PUT, DELETE")

-- a request of somebody for the charging rows
abbrev pub charges_action : WebDirectory → HttpRequestView → Method → Web
charges_action d a method.Get = if is_operator d.operator (identity_of a.identity) then web.Charges else empty_reply 403
charges_action d a method.Put = not_allowed (codes "GET")
charges_action d a method.Delete = not_allowed (codes "GET")
charges_action d a method.Other = not_allowed (codes "GET")

abbrev pub resource_action : WebDirectory → List (Account × List ℕ) → HttpRequestView → Resource → Web
resource_action d texts a place.Charges = charges_action d a (method_of a.method)
resource_action d texts a (place.Sheet account) = sheet_action d texts a account (method_of a.method)
resource_action d texts a (place.Mailbox account) = mailbox_action d a account (method_of a.method)
resource_action d texts a place.Unknown = empty_reply 404

-- what the server does for a request; a connection that ended before there was a whole request is a malformed one
abbrev pub web_of : WebDirectory → List (Account × List ℕ) → ParsedRequestView → Web
web_of d texts unfinished = empty_reply 400
web_of d texts bad = empty_reply 400
web_of d texts large = empty_reply 413
web_of d texts (parsed a) = resource_action d texts a (resource_of a.target)

-- ---- the reply

-- a reply of the server itself: 200 with rows, or 503, or 507
abbrev pub reply_of : ℕ → List ℕ → List ℕ
reply_of code body = reply_text code None (codes "text/csv") body

abbrev pub after_call : KeeperOutcomeView → List ℕ → List ℕ
after_call made text = text
after_call failed text = reply_of 503 []
after_call no_memory text = reply_of 507 []

-- without a call of the keeper only out of memory changes a reply
abbrev pub without_call : KeeperOutcomeView → List ℕ → List ℕ
without_call made text = text
without_call failed text = text
without_call no_memory text = reply_of 507 []

abbrev pub reply_to : KeeperOutcomeView → List Row → Web → List ℕ
reply_to kept rows (web.Read text) = without_call kept text
reply_to kept rows (web.Store account sheet text reply) = after_call kept reply
reply_to kept rows web.Charges = after_call kept (reply_of 200 (text_of rows))
reply_to kept rows (web.Mailbox account body) = without_call kept (counts_reply (counts_read body))

-- the reply to a request
abbrev pub web_reply : WebDirectory → List (Account × List ℕ) → ParsedRequestView → KeeperOutcomeView → List Row → List ℕ
web_reply d texts request kept rows = reply_to kept rows (web_of d texts request)
