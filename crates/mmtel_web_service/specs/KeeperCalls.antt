-- Which call of the keeper a web request requires, and the result of the call.
use Rattle.std.specs.Prelude.{◌≡◌, ◌≢◌, ◌⊎◌, ℕ, Bool, true, false, List, [], IfSome, Option, Some, None}
use Rattle.std.specs.Option.{option_map}
use Rattle.mmtel_charging.specs.declared.rows.Row.{Row}
use Rattle.mmtel_directory.specs.declared.directories.WebDirectory.{WebDirectory}
use Rattle.mmtel_http.specs.Requests.{ParsedRequestView}
use Rattle.mmtel_keeper.specs.Contents.{KeeperCalls, KeeperContents, fails_next, with_next_call, with_sheet}
use Rattle.mmtel_environment.specs.Counts.{Rose}
use Rattle.mmtel_sheet_grammar.specs.Texts.{stored_sheet}
use Rattle.mmtel_types.specs.declared.numbers.Account.{Account}
use Rattle.mmtel_web.specs.Handling.{KeeperOutcomeView, made, failed, no_memory, web_of}
use Rattle.mmtel_web.specs.declared.handling.Web.{Web}
use Rattle.mmtel_web.specs.declared.handling.Web.TheVariants as web

-- ---- which call

pub data KeeperCall : Type 0 where
  -- none
  none : KeeperCall
  -- to store this text as the account's record
  stores : (account : Account) → (text : List ℕ) → KeeperCall
  -- to return the charging rows
  loads : KeeperCall

abbrev pub keeper_call_by : Web → KeeperCall
keeper_call_by (web.Read text) = none
keeper_call_by (web.Store account sheet text reply) = stores account text
keeper_call_by web.Charges = loads
keeper_call_by (web.Mailbox account body) = none

-- it does not depend on the texts in force, so it is defined without any
abbrev pub keeper_call_in : WebDirectory → ParsedRequestView → KeeperCall
keeper_call_in d request = keeper_call_by (web_of d [] request)

-- the sheet that is to be put in force is that of its text
abbrev pub SheetMatchesText : Web → Type 0
SheetMatchesText (web.Read text) = Unit {0}
SheetMatchesText (web.Store account sheet text reply) = sheet ≡ stored_sheet text
SheetMatchesText web.Charges = Unit {0}
SheetMatchesText (web.Mailbox account body) = Unit {0}

-- ---- the result of the call, where the keeper's contents and calls are known

-- it was called, and failed or not by the number of the call
abbrev pub WasCalled : (fails : Bool) → Option KeeperCalls → Option KeeperCalls → Type 0
WasCalled fails None after = after ≡ None
WasCalled fails (Some calls) after = (after ≡ Some (with_next_call calls)) × (fails_next calls ≡ fails)

-- memory ran out before the call, in it, or after it
abbrev pub MayBeCalled : Option KeeperCalls → Option KeeperCalls → Type 0
MayBeCalled calls after = (after ≡ calls) ⊎ WasCalled false calls after

-- a text is stored exactly where the call was made, and nothing else ever changes
abbrev pub IsStoreResult : Account → List ℕ → KeeperOutcomeView → Option KeeperContents → Option KeeperContents → Option KeeperCalls → Option KeeperCalls → Type 0
IsStoreResult account text made held later calls after = (later ≡ option_map (with_sheet account text) held) × WasCalled false calls after
IsStoreResult account text failed held later calls after = (later ≡ held) × WasCalled true calls after
IsStoreResult account text no_memory held later calls after = (later ≡ held) × MayBeCalled calls after

-- the rows that the keeper holds are returned exactly where the call was made
abbrev pub IsRowsResult : KeeperOutcomeView → List Row → Option KeeperContents → Option KeeperContents → Option KeeperCalls → Option KeeperCalls → Type 0
IsRowsResult made rows held later calls after = (later ≡ held) × (IfSome held (λ h. rows ≡ h.rows) × WasCalled false calls after)
IsRowsResult failed rows held later calls after = (later ≡ held) × WasCalled true calls after
IsRowsResult no_memory rows held later calls after = (later ≡ held) × MayBeCalled calls after

-- by the call that a request requires, its result, and the rows that it returned
abbrev pub IsKeeperResult : KeeperCall → KeeperOutcomeView → List Row → Option KeeperContents → Option KeeperContents → Option KeeperCalls → Option KeeperCalls → Type 0
IsKeeperResult none kept rows held later calls after = (kept ≢ failed) × ((later ≡ held) × (after ≡ calls))
IsKeeperResult (stores account text) kept rows held later calls after = IsStoreResult account text kept held later calls after
IsKeeperResult loads kept rows held later calls after = IsRowsResult kept rows held later calls after

-- the keeper's count of faults rose where its call failed, and is as before otherwise
abbrev pub CountsFaults : KeeperOutcomeView → ℕ → ℕ → Type 0
CountsFaults made before now = now ≡ before
CountsFaults failed before now = Rose before now
CountsFaults no_memory before now = now ≡ before

-- where memory runs out during a request: its call was made, with such a result, or not made at all
pub record HasKeeperResult (call : KeeperCall) (held later : Option KeeperContents) (calls after : Option KeeperCalls) (faults count : ℕ) : Type 0 where
  pub outcome : KeeperOutcomeView
  pub rows : List Row
  pub keeper_result : IsKeeperResult call outcome rows held later calls after
  pub counted : CountsFaults outcome faults count
