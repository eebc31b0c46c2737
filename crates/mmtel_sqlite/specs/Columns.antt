-- Records and charging rows in the database: the values of their columns, in order.
use Rattle.std.specs.Prelude.{◌≡◌, ◌==◌, ◌<◌, ◌≤◌, ◌^◌, ◌&&◌, ℕ, Bool, pos, List, [], ◌∷◌, IfSome, decimal}
use Rattle.std.specs.Str.{bytes_eq}
use Rattle.sqlite.specs.declared.error.Error.{Error}
use Rattle.sqlite.specs.declared.error.Error.TheVariants.{SqliteFailure}
use Rattle.sqlite.specs.declared.error.ErrorCode.TheVariants.{OutOfMemory}
use Rattle.sqlite.specs.Values.{or_null}
use Rattle.sqlite_value.specs.Order.{column}
use Rattle.sqlite_value.specs.declared.value.Value.{Value}
use Rattle.sqlite_value.specs.declared.value.Value.TheVariants.{Int, Text, Blob}
use Rattle.mmtel_charging.specs.declared.rows.Kind.{Kind}
use Rattle.mmtel_charging.specs.declared.rows.Kind.TheVariants.{Origin, Terminating, Diversion, Participant}
use Rattle.mmtel_charging.specs.declared.rows.Row.{Row}
use Rattle.mmtel_types.specs.Causes.{status_of, word_of}
use Rattle.mmtel_types.specs.Moments.{last_moment}
use Rattle.mmtel_types.specs.declared.causes.Cause.{Cause}
use Rattle.mmtel_types.specs.declared.numbers.Account.{Account}

abbrev pub kind_number : Kind → ℕ
kind_number Origin = 0
kind_number Terminating = 1
kind_number Diversion = 2
kind_number Participant = 3

-- a cause has the word and the status
unfoldable pub has_word_and_status : List ℕ → ℕ → Cause → Bool
has_word_and_status word status cause = bytes_eq (word_of cause) word && status_of cause == status

abbrev pub number : ℕ → Value
number n = Int (pos n)

-- account, body
abbrev pub sheet_columns : Account → (text : List ℕ) → List Value
sheet_columns account text = number account.0 ∷ Blob text ∷ []

-- kind, account, callno, began, answered, ended, holds, cause, code; a call's number is decimal text, and a moment that is absent is NULL
abbrev pub row_columns : Row → List Value
row_columns row =
    number (kind_number row.kind) ∷ number row.account.0 ∷ Text (decimal row.call.0) ∷ number row.began ∷ or_null number row.answered ∷ number row.ended ∷ number row.holds
    ∷ Text (word_of row.cause) ∷ number (status_of row.cause) ∷ []

-- the first two of the values that a statement returned, and the first nine
abbrev pub two_of : List Value → List Value
two_of values = column values 0 ∷ column values 1 ∷ []

abbrev pub nine_of : List Value → List Value
nine_of values =
    column values 0 ∷ column values 1 ∷ column values 2 ∷ column values 3 ∷ column values 4 ∷ column values 5 ∷ column values 6 ∷ column values 7 ∷ column values 8 ∷ []

-- the possible contents of a record's columns
abbrev pub IsSheet : List Value → Type 0
IsSheet values = (account : Account) × (text : List ℕ) × (account.0 < 2 ^ 32) × (values ≡ sheet_columns account text)

-- a row whose fields are in their ranges
pub record IsInRange (row : Row) : Type 0 where
  pub account : row.account.0 < 2 ^ 32
  pub call : row.call.0 < 2 ^ 64
  pub began : row.began ≤ last_moment
  pub answered : IfSome row.answered (λ moment. moment ≤ last_moment)
  pub ended : row.ended ≤ last_moment
  pub holds : row.holds < 2 ^ 32
  pub status : status_of row.cause < 2 ^ 16

-- the possible contents of a charging row's columns
abbrev pub IsRow : List Value → Type 0
IsRow values = (row : Row) × IsInRange row × (values ≡ row_columns row)

-- the one fault with which such columns are not read back
abbrev pub IsOutOfMemory : Error → Type 0
IsOutOfMemory e = e ≡ SqliteFailure OutOfMemory
