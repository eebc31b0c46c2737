-- What the server does for a request to the mailbox of an account, in a run with message waiting (RFC 9110 §9.3, §15; 3GPP TS 24.606): the first case that applies decides.
use Rattle.std.specs.Prelude.{ℕ, List, [], Option, Some, None, Ok, Err, if◌then◌else◌, codes}
use Rattle.mmtel_directory.specs.Directory.{is_account}
use Rattle.mmtel_directory.specs.declared.directories.WebDirectory.{WebDirectory}
use Rattle.mmtel_http.specs.Replies.{reply_text}
use Rattle.mmtel_http.specs.Requests.{HttpRequestView}
use Rattle.mmtel_http.specs.declared.resources.Method.{Method}
use Rattle.mmtel_http.specs.declared.resources.Method.TheVariants as method
use Rattle.mmtel_mwi.specs.Counting.{counts_read}
use Rattle.mmtel_mwi.specs.declared.counts.Counts.{Counts}
use Rattle.mmtel_sheet_grammar.specs.ReadResults.{Read}
use Rattle.mmtel_sheet_grammar.specs.declared.faults.SheetFault.{SheetFault}
use Rattle.mmtel_sheet_reader.specs.Uploads.{fault_text}
use Rattle.mmtel_types.specs.declared.numbers.Account.{Account}
use Rattle.mmtel_web.specs.Parties.{identity_of, is_operator}
use Rattle.mmtel_web.specs.Replies.{KeeperOutcomeView, empty_reply, failed, is_toml, made, no_memory, not_allowed}
use Rattle.mmtel_web.specs.declared.handling.Web.{Web}
use Rattle.mmtel_web.specs.declared.handling.Web.TheVariants as web

-- ---- what is done

-- the body is a TOML document, whatever its content
abbrev pub mailbox_document_action : HttpRequestView → Account → Web
mailbox_document_action a account = if is_toml a.kind then web.Mailbox account a.body else empty_reply 415

-- only the operator may set what waits
abbrev pub operator_mailbox_action : WebDirectory → HttpRequestView → Account → Web
operator_mailbox_action d a account = if is_operator d.operator (identity_of a.identity) then mailbox_document_action a account else empty_reply 403

abbrev pub account_mailbox_action : WebDirectory → HttpRequestView → Option Account → Web
account_mailbox_action d a None = empty_reply 404
account_mailbox_action d a (Some account) = if is_account d.accounts account then operator_mailbox_action d a account else empty_reply 404

abbrev pub mailbox_put_action : WebDirectory → HttpRequestView → Option Account → Method → Web
mailbox_put_action d a account method.Put = account_mailbox_action d a account
mailbox_put_action d a account method.Get = not_allowed (codes "PUT")
mailbox_put_action d a account method.Delete = not_allowed (codes "PUT")
mailbox_put_action d a account method.Other = not_allowed (codes "PUT")

-- without message waiting there is no such resource
abbrev pub mailbox_action : WebDirectory → HttpRequestView → Option Account → Method → Web
mailbox_action d a account m = if d.mwi then mailbox_put_action d a account m else empty_reply 404

-- ---- the reply, without a call of the keeper

-- the line with the first fault
abbrev pub fault_reply : SheetFault → List ℕ
fault_reply fault = reply_text 409 None (codes "text/plain") (fault_text fault)

abbrev pub counts_reply : Read Counts → List ℕ
counts_reply (Ok counts) = reply_text 200 None [] []
counts_reply (Err fault) = fault_reply fault

-- ---- the counts that are set, exactly where the reply is 200

abbrev pub accepted_counts : KeeperOutcomeView → Account → Read Counts → Option (Account × Counts)
accepted_counts made account (Ok counts) = Some (account, counts)
accepted_counts failed account (Ok counts) = Some (account, counts)
accepted_counts no_memory account (Ok counts) = None
accepted_counts kept account (Err fault) = None

-- the mailbox and its counts, by what the server does for the request
abbrev pub counts_put_by : KeeperOutcomeView → Web → Option (Account × Counts)
counts_put_by kept (web.Read text) = None
counts_put_by kept (web.Store account sheet text reply) = None
counts_put_by kept web.Charges = None
counts_put_by kept (web.Mailbox account body) = accepted_counts kept account (counts_read body)
