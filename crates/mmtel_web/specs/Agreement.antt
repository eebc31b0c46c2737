-- The reply to a request for the record of an account depends on that account alone: directories and tables of texts that agree on it.
use Rattle.std.specs.Prelude.{◌≡◌, List, Some}
use Rattle.mmtel_types.specs.declared.numbers.Account.{Account}
use Rattle.mmtel_lex.specs.declared.values.Uri.{Uri}
use Rattle.mmtel_trust.specs.declared.accounts.AccountIdentity.{AccountIdentity}
use Rattle.mmtel_http.specs.Resources.{resource_of}
use Rattle.mmtel_http.specs.Requests.{HttpRequestView}
use Rattle.mmtel_http.specs.declared.resources.Resource.TheVariants.{Sheet}
use Rattle.mmtel_web.specs.Parties.{is_own}
use Rattle.mmtel_directory.specs.Directory.{is_account}

-- the tables agree on whether it is an account, and on which URIs are identities of its own
pub record AgreeOnIdentities (account : Account) (d e : List AccountIdentity) : Type 0 where
  pub known : is_account d account ≡ is_account e account
  pub own : (u : Uri) → is_own d account u ≡ is_own e account u

-- the request is for the account's record
abbrev pub IsRequestForRecordOf : Account → HttpRequestView → Type 0
IsRequestForRecordOf account a = resource_of a.target ≡ Sheet (Some account)
