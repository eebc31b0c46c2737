-- Replies without a body; and the result of the keeper's call, where one was due (RFC 9110 §15).
use Rattle.std.specs.Prelude.{ℕ, Bool, List, [], false, Some, None, codes}
use Rattle.std.specs.declared.option.Option.{Option}
use Rattle.std.specs.Str.{bytes_eq}
use Rattle.mmtel_http.specs.Replies.{reply_text}
use Rattle.mmtel_web.specs.declared.handling.Web.{Web}
use Rattle.mmtel_web.specs.declared.handling.Web.TheVariants as web

abbrev pub toml_type : List ℕ
toml_type = codes "application/toml"

-- a reply without a body
abbrev pub empty_reply : ℕ → Web
empty_reply code = web.Read (reply_text code None [] [])

-- the method is none of those that are allowed
abbrev pub not_allowed : List ℕ → Web
not_allowed methods = web.Read (reply_text 405 (Some methods) [] [])

-- the type of the body is the record's
abbrev pub is_toml : Option (List ℕ) → Bool
is_toml None = false
is_toml (Some kind) = bytes_eq kind toml_type

-- the result of the keeper's call, where one was due
pub data KeeperOutcomeView : Type 0 where
  made : KeeperOutcomeView
  failed : KeeperOutcomeView
  no_memory : KeeperOutcomeView
