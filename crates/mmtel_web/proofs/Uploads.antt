-- What a request is to store does not depend on the texts in force, and the sheet that is put in force is that of its text.
use Rattle.std.proofs.Common.{◌≡◌, ◌∙◌, Bool, true, false, ℕ, List, [], Option, Some, None, Ok, Err, cond, refl, sym, ap}
use Rattle.mmtel_directory.specs.Directory.{is_account}
use Rattle.mmtel_directory.specs.declared.directories.WebDirectory.{WebDirectory}
use Rattle.mmtel_http.specs.Resources.{method_of, resource_of}
use Rattle.mmtel_http.specs.Requests.{HttpRequestView, bad, large, parsed, unfinished}
use Rattle.mmtel_http.specs.declared.resources.Method.{Method}
use Rattle.mmtel_http.specs.declared.resources.Method.TheVariants as method
use Rattle.mmtel_http.specs.declared.resources.Resource.{Resource}
use Rattle.mmtel_http.specs.declared.resources.Resource.TheVariants as place
use Rattle.mmtel_sheet_grammar.specs.ReadResults.{Read}
use Rattle.mmtel_sheet_grammar.specs.Texts.{sheet_or_empty, sheet_read, stored_sheet}
use Rattle.mmtel_sheet_reader.specs.Uploads.{upload_of, upload_of_read}
use Rattle.mmtel_sheet_reader.specs.declared.uploads.Upload.{Upload}
use Rattle.mmtel_sheet_reader.specs.declared.uploads.Upload.TheVariants.{Accepted, Refused}
use Rattle.mmtel_sheet_values.specs.declared.values.Sheet.{Sheet}
use Rattle.mmtel_types.specs.declared.numbers.Account.{Account}
use Rattle.mmtel_web.specs.Handling.{KeeperOutcomeView, account_record_action, charges_action, empty_reply, is_toml, record_action, resource_action, sheet_action, upload_action, web_of}
use Rattle.mmtel_web.specs.Mailboxes.{account_mailbox_action, counts_put_by, mailbox_put_action}
use Rattle.mmtel_web.specs.Parties.{identity_of, is_operator, may_access}
use Rattle.mmtel_web.specs.Uploads.{MailboxesSeeNoText, OnlyRepliesSeeTexts, UploadsSayTheirText, UploadsSeeNoText, upload_by, without_reply_text}
use Rattle.mmtel_web.specs.declared.handling.Web.{Web}
use Rattle.mmtel_web.specs.declared.handling.Web.TheVariants as web

-- ---- no text has an effect

module _ (d : WebDirectory) (texts : List (Account × List ℕ)) (a : HttpRequestView) where
  method_same : (account : Account) (m : Method) → without_reply_text (record_action texts a account m) ≡ without_reply_text (record_action [] a account m)
  method_same account method.Get = refl
  method_same account method.Put = refl
  method_same account method.Delete = refl
  method_same account method.Other = refl

  request_same : (b c : Bool) (account : Account) (m : Method)
      → without_reply_text (cond b (cond c (record_action texts a account m) (empty_reply 403)) (empty_reply 404)) ≡ without_reply_text (cond b (cond c (record_action [] a account m) (empty_reply 403)) (empty_reply 404))
  request_same true true account m = method_same account m
  request_same true false account m = refl
  request_same false c account m = refl

  account_same : (m : Method) (o : Option Account) → without_reply_text (account_record_action d texts a m o) ≡ without_reply_text (account_record_action d [] a m o)
  account_same m None = refl
  account_same m (Some account) = request_same (is_account d.accounts account) (may_access d.accounts account (identity_of a.identity)) account m

  sheet_same : (o : Option Account) (m : Method) → without_reply_text (sheet_action d texts a o m) ≡ without_reply_text (sheet_action d [] a o m)
  sheet_same o method.Get = account_same method.Get o
  sheet_same o method.Put = account_same method.Put o
  sheet_same o method.Delete = account_same method.Delete o
  sheet_same o method.Other = refl

  resource_same : (p : Resource) → without_reply_text (resource_action d texts a p) ≡ without_reply_text (resource_action d [] a p)
  resource_same place.Charges = refl
  resource_same (place.Sheet account) = sheet_same account (method_of a.method)
  resource_same (place.Mailbox account) = refl
  resource_same place.Unknown = refl

pub only_replies_see_texts : OnlyRepliesSeeTexts
only_replies_see_texts d texts unfinished = refl
only_replies_see_texts d texts bad = refl
only_replies_see_texts d texts large = refl
only_replies_see_texts d texts (parsed a) = resource_same d texts a (resource_of a.target)

upload_unsaid : (w : Web) → upload_by w ≡ upload_by (without_reply_text w)
upload_unsaid (web.Read text) = refl
upload_unsaid (web.Store account sheet text reply) = refl
upload_unsaid web.Charges = refl
upload_unsaid (web.Mailbox account body) = refl

pub uploads_see_no_text : UploadsSeeNoText
uploads_see_no_text d texts request =
    upload_unsaid (web_of d texts request) ∙ (ap upload_by (only_replies_see_texts d texts request) ∙ sym (upload_unsaid (web_of d [] request)))

put_unsaid : (kept : KeeperOutcomeView) (w : Web) → counts_put_by kept w ≡ counts_put_by kept (without_reply_text w)
put_unsaid kept (web.Read text) = refl
put_unsaid kept (web.Store account sheet text reply) = refl
put_unsaid kept web.Charges = refl
put_unsaid kept (web.Mailbox account body) = refl

pub mailboxes_see_no_text : MailboxesSeeNoText
mailboxes_see_no_text d texts request kept =
    put_unsaid kept (web_of d texts request) ∙ (ap (counts_put_by kept) (only_replies_see_texts d texts request) ∙ sym (put_unsaid kept (web_of d [] request)))

-- ---- what is put in force

-- of a text that is a record
accepted_sheet : (text : List ℕ) (sheet : Sheet) (r : Read Sheet) → upload_of_read r ≡ Accepted sheet → sheet ≡ sheet_or_empty r
accepted_sheet text sheet (Ok other) e = cc
accepted_sheet text sheet (Err fault) e = absurd cc

accepted : (text : List ℕ) (sheet : Sheet) → upload_of text ≡ Accepted sheet → sheet ≡ stored_sheet text
unfolding upload_of
accepted text sheet e = accepted_sheet text sheet (sheet_read text) e

module _ (b : Account) (sheet : Sheet) (text reply : List ℕ) where
  upload_says : (account : Account) (body : List ℕ) (u : Upload) → upload_of body ≡ u → upload_action account body u ≡ web.Store b sheet text reply → sheet ≡ stored_sheet text
  upload_says account body (Accepted other) is e =
      let same : other ≡ sheet = cc in
      let whole : body ≡ text = cc in
      sym same ∙ (accepted body other is ∙ ap stored_sheet whole)
  upload_says account body (Refused fault) is e = absurd cc

  put_says : (account : Account) (body : List ℕ) (c : Bool) → cond c (upload_action account body (upload_of body)) (empty_reply 415) ≡ web.Store b sheet text reply → sheet ≡ stored_sheet text
  put_says account body true e = upload_says account body (upload_of body) refl e
  put_says account body false e = absurd cc

  module _ (d : WebDirectory) (texts : List (Account × List ℕ)) (a : HttpRequestView) where
    method_says : (account : Account) (m : Method) → record_action texts a account m ≡ web.Store b sheet text reply → sheet ≡ stored_sheet text
    method_says account method.Get e = absurd cc
    method_says account method.Put e = put_says account a.body (is_toml a.kind) e
    method_says account method.Delete e = upload_says account [] (upload_of []) refl e
    method_says account method.Other e = absurd cc

    asked_says : (c f : Bool) (account : Account) (m : Method) → cond c (cond f (record_action texts a account m) (empty_reply 403)) (empty_reply 404) ≡ web.Store b sheet text reply → sheet ≡ stored_sheet text
    asked_says true true account m e = method_says account m e
    asked_says true false account m e = absurd cc
    asked_says false f account m e = absurd cc

    account_says : (m : Method) (o : Option Account) → account_record_action d texts a m o ≡ web.Store b sheet text reply → sheet ≡ stored_sheet text
    account_says m None e = absurd cc
    account_says m (Some account) e = asked_says (is_account d.accounts account) (may_access d.accounts account (identity_of a.identity)) account m e

    sheet_says : (o : Option Account) (m : Method) → sheet_action d texts a o m ≡ web.Store b sheet text reply → sheet ≡ stored_sheet text
    sheet_says o method.Get e = account_says method.Get o e
    sheet_says o method.Put e = account_says method.Put o e
    sheet_says o method.Delete e = account_says method.Delete o e
    sheet_says o method.Other e = absurd cc

    operator_says : (c : Bool) → cond c web.Charges (empty_reply 403) ≡ web.Store b sheet text reply → sheet ≡ stored_sheet text
    operator_says true e = absurd cc
    operator_says false e = absurd cc

    charges_says : (m : Method) → charges_action d a m ≡ web.Store b sheet text reply → sheet ≡ stored_sheet text
    charges_says method.Get e = operator_says (is_operator d.operator (identity_of a.identity)) e
    charges_says method.Put e = absurd cc
    charges_says method.Delete e = absurd cc
    charges_says method.Other e = absurd cc

    -- a mailbox is no record
    owner_says : (known own toml : Bool) (account : Account)
        → cond known (cond own (cond toml (web.Mailbox account a.body) (empty_reply 415)) (empty_reply 403)) (empty_reply 404) ≡ web.Store b sheet text reply → sheet ≡ stored_sheet text
    owner_says true true true account e = absurd cc
    owner_says true true false account e = absurd cc
    owner_says true false toml account e = absurd cc
    owner_says false own toml account e = absurd cc

    of_account_says : (o : Option Account) → account_mailbox_action d a o ≡ web.Store b sheet text reply → sheet ≡ stored_sheet text
    of_account_says None e = absurd cc
    of_account_says (Some account) e = owner_says (is_account d.accounts account) (is_operator d.operator (identity_of a.identity)) (is_toml a.kind) account e

    put_only_says : (o : Option Account) (m : Method) → mailbox_put_action d a o m ≡ web.Store b sheet text reply → sheet ≡ stored_sheet text
    put_only_says o method.Get e = absurd cc
    put_only_says o method.Put e = of_account_says o e
    put_only_says o method.Delete e = absurd cc
    put_only_says o method.Other e = absurd cc

    mailbox_says : (on : Bool) (o : Option Account) (m : Method) → cond on (mailbox_put_action d a o m) (empty_reply 404) ≡ web.Store b sheet text reply → sheet ≡ stored_sheet text
    mailbox_says true o m e = put_only_says o m e
    mailbox_says false o m e = absurd cc

    place_says : (p : Resource) → resource_action d texts a p ≡ web.Store b sheet text reply → sheet ≡ stored_sheet text
    place_says place.Charges e = charges_says (method_of a.method) e
    place_says (place.Sheet account) e = sheet_says account (method_of a.method) e
    place_says (place.Mailbox account) e = mailbox_says d.mwi account (method_of a.method) e
    place_says place.Unknown e = absurd cc

pub uploads_say_their_text : UploadsSayTheirText
uploads_say_their_text d texts unfinished account sheet text reply e = absurd cc
uploads_say_their_text d texts bad account sheet text reply e = absurd cc
uploads_say_their_text d texts large account sheet text reply e = absurd cc
uploads_say_their_text d texts (parsed a) account sheet text reply e = place_says account sheet text reply d texts a (resource_of a.target) e
