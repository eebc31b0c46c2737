-- The call of the keeper that a request requires does not depend on the texts in force, and the result where memory runs out is the same for every call.
use Rattle.std.proofs.Common.{◌≡◌, ◌∙◌, ℕ, List, [], Option, None, Result, Ok, Err, refl, sym, ap, inl}
use Rattle.std.specs.Prelude.{OnErr}
use Rattle.mmtel_charging.specs.declared.rows.Row.{Row}
use Rattle.mmtel_directory.specs.declared.directories.WebDirectory.{WebDirectory}
use Rattle.mmtel_http.specs.Requests.{ParsedRequestView}
use Rattle.mmtel_keeper.specs.Contents.{KeeperCalls, KeeperContents}
use Rattle.mmtel_mwi.specs.Counting.{counts_read}
use Rattle.mmtel_mwi.specs.declared.counts.Counts.{Counts}
use Rattle.mmtel_web_service.specs.KeeperCalls.{IsKeeperResult, KeeperCall, SheetMatchesText, keeper_call_by, keeper_call_in, loads, none, stores}
use Rattle.mmtel_sheet_grammar.specs.ReadResults.{Read}
use Rattle.mmtel_types.specs.declared.numbers.Account.{Account}
use Rattle.mmtel_web.specs.Handling.{failed, no_memory, reply_of, reply_to, web_of}
use Rattle.mmtel_web.specs.Mailboxes.{accepted_counts, counts_put_by}
use Rattle.mmtel_web.specs.Uploads.{OnlyRepliesSeeTexts, UploadsSayTheirText, without_reply_text}
use Rattle.mmtel_web.specs.declared.handling.Web.{Web}
use Rattle.mmtel_web.specs.declared.handling.Web.TheVariants as web

-- out of memory
pub memory_reply : (rows : List Row) (w : Web) → reply_to no_memory rows w ≡ reply_of 507 []
memory_reply rows (web.Read text) = refl
memory_reply rows (web.Store account sheet text reply) = refl
memory_reply rows web.Charges = refl
memory_reply rows (web.Mailbox account body) = refl

put_nowhere : (account : Account) (read : Read Counts) → None ≡ accepted_counts no_memory account read
put_nowhere account (Ok counts) = refl
put_nowhere account (Err fault) = refl

pub memory_put : (w : Web) → None ≡ counts_put_by no_memory w
memory_put (web.Read text) = refl
memory_put (web.Store account sheet text reply) = refl
memory_put web.Charges = refl
memory_put (web.Mailbox account body) = put_nowhere account (counts_read body)

apart : no_memory ≡ failed → ⊥
apart e = cc

pub no_memory_result : (call : KeeperCall) (rows : List Row) (held : Option KeeperContents) (calls : Option KeeperCalls) → IsKeeperResult call no_memory rows held held calls calls
no_memory_result none rows held calls = (λ e. absurd (apart e), (refl, refl))
no_memory_result (stores account text) rows held calls = (refl, inl refl)
no_memory_result loads rows held calls = (refl, inl refl)

-- the sheet that is to be put in force is that of its text
pub sheet_matches_text : (d : WebDirectory) (texts : List (Account × List ℕ)) (request : ParsedRequestView) (w : Web) → UploadsSayTheirText → w ≡ web_of d texts request → SheetMatchesText w
sheet_matches_text d texts request (web.Read text) law is = tt
sheet_matches_text d texts request (web.Store account sheet text reply) law is = law d texts request account sheet text reply (sym is)
sheet_matches_text d texts request web.Charges law is = tt
sheet_matches_text d texts request (web.Mailbox account body) law is = tt

-- the call of the keeper
call_unsaid : (w : Web) → keeper_call_by w ≡ keeper_call_by (without_reply_text w)
call_unsaid (web.Read text) = refl
call_unsaid (web.Store account sheet text reply) = refl
call_unsaid web.Charges = refl
call_unsaid (web.Mailbox account body) = refl

pub call_same : (d : WebDirectory) (texts : List (Account × List ℕ)) (request : ParsedRequestView) → OnlyRepliesSeeTexts → keeper_call_by (web_of d texts request) ≡ keeper_call_in d request
call_same d texts request law = call_unsaid (web_of d texts request) ∙ (ap keeper_call_by (law d texts request) ∙ sym (call_unsaid (web_of d [] request)))

pub on_err : {T E : Type 0} (r : Result T E) (P : Type 0) → P → OnErr r P
on_err (Ok x) P p = tt
on_err (Err e) P p = p
