-- Tokens: the values of tags, branches and Call-IDs that the server makes (RFC 3261 §19.3, §8.1.1.7, §8.1.1.4), each of one text and a number of its own.
use Rattle.std.specs.Prelude.{ℕ, List}

-- a text, and the number of the last token drawn from it
pub record TokensView : Type 0 where
  pub token : List ℕ
  pub drawn : ℕ
