-- Which record is in force, as its rule states it: at each step that of the account's last upload that was stored before it, else the one that was loaded last, else the
-- empty record (3GPP TS 24.623 §5).
use Rattle.std.specs.Prelude.{◌≡◌, ℕ, ◌==◌, List, [], ◌∷◌, ◌++◌, Option, Some, None, if◌then◌else◌}
use Rattle.std.specs.Option.{option_map, option_to_list}
use Rattle.mmtel_b2bua.specs.Tables.{step_of_signal}
use Rattle.mmtel_b2bua.specs.declared.entries.Entry.{Entry}
use Rattle.mmtel_b2bua.specs.declared.signals.Signal.{Signal}
use Rattle.mmtel_call_services.specs.CallConfig.{CallConfigView}
use Rattle.mmtel_output.specs.declared.outputs.StepOutput.{StepOutput}
use Rattle.mmtel_directory.specs.declared.directories.Directory.{Directory}
use Rattle.mmtel_directory.specs.declared.directories.WebDirectory.{WebDirectory}
use Rattle.mmtel_http.specs.Requests.{request_of}
use Rattle.mmtel_environment.specs.declared.events.Event.{Event}
use Rattle.mmtel_environment.specs.declared.events.Event.TheVariants as event
use Rattle.mmtel_sheet_texts.specs.Texts.{text_at}
use Rattle.mmtel_types.specs.declared.numbers.Account.{Account}
use Rattle.mmtel_web.specs.Handling.{KeeperOutcomeView}
use Rattle.mmtel_records_in_force.specs.Texts.{Registrations, Texts, put_each, registration_end_at}
use Rattle.mmtel_sheet_grammar.specs.Texts.{stored_sheet}
use Rattle.mmtel_sheet_values.specs.View.{SheetsInForce, registration_end_in, sheet_in}
use Rattle.mmtel_web.specs.Uploads.{stored_upload, upload_in}
use Rattle.mmtel_run_definitions.specs.Events.{EventRecord}
use Rattle.mmtel_run_definitions.specs.Records.{in_force}
use Rattle.mmtel_run_definitions.specs.Run.{state_after}

-- ---- what was stored

-- the upload that was stored in an event: of a web request alone
abbrev pub upload_at : WebDirectory → Event → KeeperOutcomeView → Option (Account × List ℕ)
upload_at names (event.Datagram from at bytes) kept = None
upload_at names (event.Web at bytes) kept = stored_upload kept (upload_in names (request_of bytes))
upload_at names (event.Quiet at) kept = None

-- the uploads that were stored in all events, in their order
abbrev pub uploads_of : WebDirectory → List EventRecord → Texts
uploads_of names [] = []
uploads_of names (one ∷ recorded) = option_to_list (upload_at names one.event one.outcome) ++ uploads_of names recorded

-- ---- the last one of an account

abbrev pub last_or : Option (List ℕ) → Option (List ℕ) → Option (List ℕ)
last_or (Some text) other = Some text
last_or None other = other

abbrev pub text_for : Account → (Account × List ℕ) → Option (List ℕ)
text_for account text = if text.0.0 == account.0 then Some text.1 else None

-- the account's last text among these
abbrev pub last_of : Texts → Account → Option (List ℕ)
last_of [] account = None
last_of (text ∷ others) account = last_or (last_of others account) (text_for account text)

-- the texts of a run are those that were loaded, overridden by those that were stored,
abbrev pub TextsAreThoseKept : Type 0
TextsAreThoseKept = (directory : Directory) (token : List ℕ) (loaded : Texts) (fuel : ℕ) (recorded : List EventRecord) →
    (state_after directory token loaded fuel recorded).texts ≡ put_each (loaded ++ uploads_of directory.names recorded) []

-- and among these the account's last one is its text
abbrev pub LastIsInForce : Type 0
LastIsInForce = (texts : Texts) (account : Account) → text_at (put_each texts []) account ≡ last_of texts account

-- what calls get of an account: the record that its text is, if it has one, and until when it is registered
pub record SnapshotOfAccount (texts : Texts) (registrations : Registrations) (account : Account) : Type 0 where
  pub sheet : sheet_in (in_force texts registrations) account.0 ≡ option_map stored_sheet (text_at texts account)
  pub ends : registration_end_in (in_force texts registrations) account.0 ≡ registration_end_at registrations account

abbrev pub CallsSeeWhatIsInForce : Type 0
CallsSeeWhatIsInForce = (texts : Texts) (registrations : Registrations) (account : Account) → SnapshotOfAccount texts registrations account

-- ---- and calls depend on no more of that

-- two values in which each account has the same record and the same end of its registration
pub record HaveSameRecords (one other : SheetsInForce) : Type 0 where
  pub sheets : (account : ℕ) → sheet_in one account ≡ sheet_in other account
  pub ends : (account : ℕ) → registration_end_in one account ≡ registration_end_in other account

-- what a signal causes is the same with both
abbrev pub CallsSeeRecordsAlone : Type 0
CallsSeeRecordsAlone =
    (config : CallConfigView) (at number : ℕ) (one other : SheetsInForce) (signal : Signal) (entries : List Entry) (output : StepOutput) →
    HaveSameRecords one other →
    step_of_signal config at one number signal entries output ≡ step_of_signal config at other number signal entries output
