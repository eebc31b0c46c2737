-- The records in force, as the server stores them: each with its text and its sheet, and the registrations.
use Rattle.std.specs.Prelude.{◌≡◌, ◌&&◌, Bool, [], nat_lt, unwrap_or}
use Rattle.mmtel_sheet_grammar.specs.Texts.{stored_sheet}
use Rattle.mmtel_sheet_texts.specs.Texts.{SheetTextsView, text_at}
use Rattle.std.specs.Option.{option_map}
use Rattle.mmtel_sheet_values.specs.Sheets.{empty_sheet}
use Rattle.mmtel_sheet_values.specs.View.{SheetsInForce, has_space, no_sheets, registration_end_in, sheet_in}
use Rattle.mmtel_sheet_values.specs.declared.values.Sheet.{Sheet}
use Rattle.mmtel_types.specs.declared.numbers.Account.{Account}
use Rattle.mmtel_records_in_force.specs.Texts.{Registrations, registration_end_at}

pub record RecordsView : Type 0 where
  pub texts : SheetTextsView
  pub view : SheetsInForce

-- no record was uploaded, and no registration has an end
abbrev pub no_records : RecordsView
no_records = record { texts = record { texts = []; space = 0 }; view = no_sheets }

-- the record of an account
abbrev pub record_in : SheetsInForce → Account → Sheet
record_in view account = unwrap_or (sheet_in view account.0) empty_sheet

-- each account that has a text has the sheet of that text, and no other account has one
abbrev pub SheetsMatchTexts : RecordsView → Type 0
SheetsMatchTexts held = (account : Account) → sheet_in held.view account.0 ≡ option_map stored_sheet (text_at held.texts.texts account)

-- there is space for a text and a sheet of the account, so that both are put without allocation
abbrev pub may_put : RecordsView → Account → Bool
may_put held account = nat_lt 0 held.texts.space && has_space held.view account.0

-- the registrations are these
abbrev pub IsRegisteredBy : RecordsView → Registrations → Type 0
IsRegisteredBy held registrations = (account : Account) → registration_end_in held.view account.0 ≡ registration_end_at registrations account

-- all is as before but the reserved space
abbrev pub HasSameRecords : RecordsView → RecordsView → Type 0
HasSameRecords one other = (one.texts.texts ≡ other.texts.texts) ×
    ((account : Account) → (record_in one.view account ≡ record_in other.view account) × (registration_end_in one.view account.0 ≡ registration_end_in other.view account.0))
