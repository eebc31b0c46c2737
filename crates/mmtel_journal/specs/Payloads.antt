-- The payloads of a journal's records: sheets, each with its account, or charging rows; and the contents that the records of a journal give.
use Rattle.std.specs.Prelude.{◌≡◌, ◌≢◌, ◌⊎◌, ◌<◌, ◌≤◌, ◌^◌, ℕ, List, [], ◌∷◌, ◌++◌, length, if◌then◌else◌, Option, Some, None, All, IfSome}
use Rattle.std.specs.Int.{w16, w32, w64, to_be_bytes}
use Rattle.mmtel_types.specs.Moments.{last_moment}
use Rattle.mmtel_types.specs.declared.numbers.Account.{Account}
use Rattle.mmtel_types.specs.declared.causes.Cause.{Cause}
use Rattle.mmtel_types.specs.declared.causes.Cause.TheVariants.{OutgoingBarred, IncomingBarred, AnonymousRejected, NotRegistered, NetworkBusy, NoReply, TooManyDiversions}
use Rattle.mmtel_types.specs.declared.causes.Cause.TheVariants.{Unreachable, Relayed, Cancelled, NoAccount, NoRoute, BadScheme, Hops, Extension, Critical, Merged, Full}
use Rattle.mmtel_types.specs.declared.causes.Cause.TheVariants.{Ended, Unacknowledged}
use Rattle.mmtel_charging.specs.declared.rows.Kind.{Kind}
use Rattle.mmtel_charging.specs.declared.rows.Kind.TheVariants.{Origin, Terminating, Diversion, Participant}
use Rattle.mmtel_charging.specs.declared.rows.Row.{Row}
use Rattle.mmtel_sheet_texts.specs.Texts.{put}
use Rattle.mmtel_keeper.specs.Contents.{KeeperContents, with_rows}

-- the account, the length of its text, and the text
abbrev pub sheet_bytes : Account × List ℕ → List ℕ
sheet_bytes sheet = to_be_bytes w32 sheet.0.0 ++ to_be_bytes w64 (length sheet.1) ++ sheet.1

abbrev pub sheets_bytes : List (Account × List ℕ) → List ℕ
sheets_bytes [] = []
sheets_bytes (sheet ∷ sheets) = sheet_bytes sheet ++ sheets_bytes sheets

abbrev pub kind_number : Kind → ℕ
kind_number Origin = 0
kind_number Terminating = 1
kind_number Diversion = 2
kind_number Participant = 3

-- a flag, and the moment, which is 0 where there is none
abbrev pub answered_bytes : Option ℕ → List ℕ
answered_bytes None = 0 ∷ to_be_bytes w64 0
answered_bytes (Some moment) = 1 ∷ to_be_bytes w64 moment

-- the position of a cause in the table of causes, from 1, and its code
abbrev pub cause_numbers : Cause → ℕ × ℕ
cause_numbers OutgoingBarred = (1, 0)
cause_numbers IncomingBarred = (2, 0)
cause_numbers AnonymousRejected = (3, 0)
cause_numbers NotRegistered = (4, 0)
cause_numbers NetworkBusy = (5, 0)
cause_numbers NoReply = (6, 0)
cause_numbers (TooManyDiversions busy) = (7, if busy then 1 else 0)
cause_numbers (Unreachable code) = (8, code)
cause_numbers (Relayed code) = (9, code)
cause_numbers Cancelled = (10, 0)
cause_numbers NoAccount = (11, 0)
cause_numbers NoRoute = (12, 0)
cause_numbers BadScheme = (13, 0)
cause_numbers Hops = (14, 0)
cause_numbers Extension = (15, 0)
cause_numbers Critical = (16, 0)
cause_numbers Merged = (17, 0)
cause_numbers Full = (18, 0)
cause_numbers Ended = (19, 0)
cause_numbers Unacknowledged = (20, 0)

abbrev pub cause_bytes : Cause → List ℕ
cause_bytes cause = (cause_numbers cause).0 ∷ to_be_bytes w16 (cause_numbers cause).1

-- whose part of which call it is, and when it began
abbrev pub begin_bytes : Row → List ℕ
begin_bytes row = kind_number row.kind ∷ (to_be_bytes w32 row.account.0 ++ to_be_bytes w64 row.call.0 ++ to_be_bytes w64 row.began)

-- forty-five bytes
abbrev pub row_bytes : Row → List ℕ
row_bytes row = begin_bytes row ++ answered_bytes row.answered ++ to_be_bytes w64 row.ended ++ to_be_bytes w32 row.holds ++ cause_bytes row.cause

abbrev pub rows_bytes : List Row → List ℕ
rows_bytes [] = []
rows_bytes (row ∷ rows) = row_bytes row ++ rows_bytes rows

-- the payload of sheets, and that of rows
abbrev pub payload_of_sheets : List (Account × List ℕ) → List ℕ
payload_of_sheets sheets = 1 ∷ (to_be_bytes w64 (length sheets) ++ sheets_bytes sheets)

abbrev pub payload_of_rows : List Row → List ℕ
payload_of_rows rows = 2 ∷ (to_be_bytes w64 (length rows) ++ rows_bytes rows)

-- sheets put over those of their accounts, in order
abbrev pub put_sheets : List (Account × List ℕ) → List (Account × List ℕ) → List (Account × List ℕ)
put_sheets [] held = held
put_sheets (sheet ∷ sheets) held = put_sheets sheets (put sheet.0 sheet.1 held)

abbrev pub with_sheets : List (Account × List ℕ) → KeeperContents → KeeperContents
with_sheets sheets held = record held { sheets = put_sheets sheets held.sheets }

-- none of these is a sheet of the account
abbrev pub NoneOf : ℕ → List (Account × List ℕ) → Type 0
NoneOf account [] = Unit {0}
NoneOf account (sheet ∷ sheets) = (sheet.0.0 ≢ account) × NoneOf account sheets

-- no account has two sheets
abbrev pub EachOnce : List (Account × List ℕ) → Type 0
EachOnce [] = Unit {0}
EachOnce (sheet ∷ sheets) = NoneOf sheet.0.0 sheets × EachOnce sheets

-- the numbers of a sheet and of a row fit into their bytes
abbrev pub IsSheet : Account × List ℕ → Type 0
IsSheet sheet = (sheet.0.0 < 2 ^ 32) × (length sheet.1 < 2 ^ 64)

pub record IsRow (row : Row) : Type 0 where
  pub account : row.account.0 < 2 ^ 32
  pub call : row.call.0 < 2 ^ 64
  pub began : row.began ≤ last_moment
  pub answered : IfSome row.answered (λ moment. moment ≤ last_moment)
  pub ended : row.ended ≤ last_moment
  pub holds : row.holds < 2 ^ 32
  pub cause : (cause_numbers row.cause).1 < 2 ^ 16

-- the payload is that of sheets, or of rows
pub record AreSheets (payload : List ℕ) (sheets : List (Account × List ℕ)) : Type 0 where
  pub many : length sheets < 2 ^ 64
  pub each : All IsSheet sheets
  pub encoded : payload ≡ payload_of_sheets sheets

pub record AreRows (payload : List ℕ) (rows : List Row) : Type 0 where
  pub many : length rows < 2 ^ 64
  pub each : All IsRow rows
  pub encoded : payload ≡ payload_of_rows rows

abbrev pub IsPayload : List ℕ → Type 0
IsPayload payload = ((sheets : List (Account × List ℕ)) × AreSheets payload sheets) ⊎ ((rows : List Row) × AreRows payload rows)

-- the contents after a payload
abbrev pub Adds : List ℕ → KeeperContents → KeeperContents → Type 0
Adds payload before after =
    ((sheets : List (Account × List ℕ)) × AreSheets payload sheets × (after ≡ with_sheets sheets before))
    ⊎ ((rows : List Row) × AreRows payload rows × (after ≡ with_rows rows before))

-- the contents after payloads, in order
abbrev pub AddsAll : List (List ℕ) → KeeperContents → KeeperContents → Type 0
AddsAll [] before after = after ≡ before
AddsAll (payload ∷ payloads) before after = (mid : KeeperContents) × Adds payload before mid × AddsAll payloads mid after
