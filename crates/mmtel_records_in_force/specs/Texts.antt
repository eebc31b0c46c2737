-- The texts of the records by account, the record that is in force for an account, and until when it is registered (3GPP TS 24.623 §5, TS 24.229 §5.7.1.1; RFC 3261 §10.3).
use Rattle.std.specs.Prelude.{ℕ, ◌==◌, List, [], ◌∷◌, Option, Some, None, if◌then◌else◌, unwrap_or}
use Rattle.mmtel_sheet_grammar.specs.Texts.{stored_sheet}
use Rattle.mmtel_sheet_texts.specs.Texts.{put, text_at}
use Rattle.mmtel_sheet_values.specs.declared.values.Sheet.{Sheet}
use Rattle.mmtel_types.specs.declared.numbers.Account.{Account}

-- accounts, each with a text
abbrev pub Texts : Type 0
Texts = List (Account × List ℕ)

-- these put over the texts, in their order: the last one of an account counts
abbrev pub put_each : Texts → Texts → Texts
put_each [] texts = texts
put_each (text ∷ others) texts = put_each others (put text.0 text.1 texts)

-- the record that is in force for an account: of a text that is no record, and without one, that of an account without a record
abbrev pub record_of : Texts → Account → Sheet
record_of texts account = stored_sheet (unwrap_or (text_at texts account) [])

-- what was stored, if anything, is put over what was there
abbrev pub put_stored : Option (Account × List ℕ) → Texts → Texts
put_stored None texts = texts
put_stored (Some upload) texts = put upload.0 upload.1 texts

-- accounts that were registered, each until a moment, the newest registration first
abbrev pub Registrations : Type 0
Registrations = List (Account × ℕ)

-- until when the account is registered, by its last registration; without one there is no end
abbrev pub registration_end_at : Registrations → Account → Option ℕ
registration_end_at [] account = None
registration_end_at (one ∷ registrations) account = if one.0.0 == account.0 then Some one.1 else registration_end_at registrations account
