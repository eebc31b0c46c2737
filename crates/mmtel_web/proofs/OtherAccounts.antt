-- The reply to a request for a record depends on one account, and an upload is of that account.
use Rattle.std.proofs.Common.{◌≡◌, Bool, true, false, ℕ, List, [], Option, Some, None, cond, refl, ap}
use Rattle.mmtel_types.specs.declared.numbers.Account.{Account}
use Rattle.mmtel_charging.specs.declared.rows.Row.{Row}
use Rattle.mmtel_lex.specs.declared.values.Uri.{Uri}
use Rattle.mmtel_sheet_values.specs.declared.values.Sheet.{Sheet}
use Rattle.mmtel_trust.specs.declared.accounts.AccountIdentity.{AccountIdentity}
use Rattle.mmtel_http.specs.Resources.{method_of}
use Rattle.mmtel_http.specs.Requests.{HttpRequestView, parsed}
use Rattle.mmtel_http.specs.declared.resources.Method.{Method}
use Rattle.mmtel_http.specs.declared.resources.Method.TheVariants as method
use Rattle.mmtel_sheet_reader.specs.Uploads.{upload_of}
use Rattle.mmtel_sheet_reader.specs.declared.uploads.Upload.{Upload}
use Rattle.mmtel_sheet_reader.specs.declared.uploads.Upload.TheVariants.{Accepted, Refused}
use Rattle.mmtel_sheet_texts.specs.Texts.{text_at}
use Rattle.mmtel_web.specs.Agreement.{AgreeOnIdentities, IsRequestForRecordOf}
use Rattle.mmtel_web.specs.Handling.{KeeperOutcomeView, account_record_action, empty_reply, is_toml, record_action, reply_to, sheet_action, upload_action, web_of, web_reply}
use Rattle.mmtel_web.specs.Parties.{identity_of, is_own, may_access}
use Rattle.mmtel_directory.specs.Directory.{is_account}
use Rattle.mmtel_web.specs.declared.handling.Web.{Web}
use Rattle.mmtel_web.specs.declared.handling.Web.TheVariants as web
use Rattle.mmtel_directory.specs.declared.directories.WebDirectory.{WebDirectory}

-- ---- the replies for one account

may_access_agrees : (account : Account) (d e : List AccountIdentity) (o : Option Uri) → ((u : Uri) → is_own d account u ≡ is_own e account u) → may_access d account o ≡ may_access e account o
may_access_agrees account d e None own = refl
may_access_agrees account d e (Some u) own = own u

texts_agree : (s t : List (Account × List ℕ)) (a : HttpRequestView) (account : Account) (m : Method) → text_at s account ≡ text_at t account → record_action s a account m ≡ record_action t a account m
texts_agree s t a account method.Get e = rw e refl
texts_agree s t a account method.Put e = refl
texts_agree s t a account method.Delete e = refl
texts_agree s t a account method.Other e = refl

account_agrees : (account : Account) (d e : WebDirectory) (s t : List (Account × List ℕ)) (a : HttpRequestView) (m : Method)
    → AgreeOnIdentities account d.accounts e.accounts → text_at s account ≡ text_at t account
    → account_record_action d s a m (Some account) ≡ account_record_action e t a m (Some account)
account_agrees account d e s t a m agree same =
    rw (agree.known, may_access_agrees account d.accounts e.accounts (identity_of a.identity) agree.own, texts_agree s t a account m same) refl

sheet_agrees : (account : Account) (d e : WebDirectory) (s t : List (Account × List ℕ)) (a : HttpRequestView) (m : Method)
    → AgreeOnIdentities account d.accounts e.accounts → text_at s account ≡ text_at t account
    → sheet_action d s a (Some account) m ≡ sheet_action e t a (Some account) m
sheet_agrees account d e s t a method.Get agree same = account_agrees account d e s t a method.Get agree same
sheet_agrees account d e s t a method.Put agree same = account_agrees account d e s t a method.Put agree same
sheet_agrees account d e s t a method.Delete agree same = account_agrees account d e s t a method.Delete agree same
sheet_agrees account d e s t a method.Other agree same = refl

pub action_agrees : (account : Account) (d e : WebDirectory) (s t : List (Account × List ℕ)) (a : HttpRequestView)
    → IsRequestForRecordOf account a → AgreeOnIdentities account d.accounts e.accounts → text_at s account ≡ text_at t account
    → web_of d s (parsed a) ≡ web_of e t (parsed a)
action_agrees account d e s t a asks agree same = rw asks (sheet_agrees account d e s t a (method_of a.method) agree same)

pub reply_agrees : (account : Account) (d e : WebDirectory) (s t : List (Account × List ℕ)) (a : HttpRequestView) (kept : KeeperOutcomeView) (rows : List Row)
    → IsRequestForRecordOf account a → AgreeOnIdentities account d.accounts e.accounts → text_at s account ≡ text_at t account
    → web_reply d s (parsed a) kept rows ≡ web_reply e t (parsed a) kept rows
reply_agrees account d e s t a kept rows asks agree same = ap (λ (w : Web). reply_to kept rows w) (action_agrees account d e s t a asks agree same)

-- ---- the account of an upload

module _ (b : Account) (sheet : Sheet) (text reply : List ℕ) where
  upload_for : (account : Account) (body : List ℕ) (u : Upload) → upload_action account body u ≡ web.Store b sheet text reply → account ≡ b
  upload_for account body (Accepted x) e = cc
  upload_for account body (Refused f) e = absurd cc

  put_for : (account : Account) (body : List ℕ) (u : Upload) (c : Bool) → cond c (upload_action account body u) (empty_reply 415) ≡ web.Store b sheet text reply → account ≡ b
  put_for account body u true e = upload_for account body u e
  put_for account body u false e = absurd cc

  method_for : (s : List (Account × List ℕ)) (a : HttpRequestView) (account : Account) (m : Method) → record_action s a account m ≡ web.Store b sheet text reply → account ≡ b
  method_for s a account method.Get e = absurd cc
  method_for s a account method.Put e = put_for account a.body (upload_of a.body) (is_toml a.kind) e
  method_for s a account method.Delete e = upload_for account [] (upload_of []) e
  method_for s a account method.Other e = absurd cc

  -- it was allowed where it was done
  allowed : (known may : Bool) (w : Web) → cond known (cond may w (empty_reply 403)) (empty_reply 404) ≡ web.Store b sheet text reply → (w ≡ web.Store b sheet text reply) × (may ≡ true)
  allowed true true w e = (e, refl)
  allowed true false w e = absurd cc
  allowed false may w e = absurd cc

  account_for : (account : Account) (d : WebDirectory) (s : List (Account × List ℕ)) (a : HttpRequestView) (m : Method)
      → account_record_action d s a m (Some account) ≡ web.Store b sheet text reply → (account ≡ b) × (may_access d.accounts account (identity_of a.identity) ≡ true)
  account_for account d s a m e =
      let x = allowed (is_account d.accounts account) (may_access d.accounts account (identity_of a.identity)) (record_action s a account m) e in
      (method_for s a account m x.0, x.1)

  sheet_for : (account : Account) (d : WebDirectory) (s : List (Account × List ℕ)) (a : HttpRequestView) (m : Method)
      → sheet_action d s a (Some account) m ≡ web.Store b sheet text reply → (account ≡ b) × (may_access d.accounts account (identity_of a.identity) ≡ true)
  sheet_for account d s a method.Get e = account_for account d s a method.Get e
  sheet_for account d s a method.Put e = account_for account d s a method.Put e
  sheet_for account d s a method.Delete e = account_for account d s a method.Delete e
  sheet_for account d s a method.Other e = absurd cc

pub store_for : (account b : Account) (d : WebDirectory) (s : List (Account × List ℕ)) (a : HttpRequestView) (sheet : Sheet) (text reply : List ℕ)
    → IsRequestForRecordOf account a → web_of d s (parsed a) ≡ web.Store b sheet text reply → (account ≡ b) × (may_access d.accounts account (identity_of a.identity) ≡ true)
store_for account b d s a sheet text reply asks e = sheet_for b sheet text reply account d s a (method_of a.method) (rw asks at e)
