-- The effect of a workload: a server processes the calls of a rule, which are determined by their number and a salt, over a keeper in memory, and its outputs and its CDRs are
-- counted.
use Rattle.std.specs.Prelude.{◌≡◌, ℕ, ◌+◌, true, List, [], ◌∷◌, ◌++◌, length, map, Some, None, codes, decimal}
use Rattle.mmtel_charging.specs.declared.rows.Kind.{Kind}
use Rattle.mmtel_charging.specs.declared.rows.Kind.TheVariants.{Origin, Terminating, Diversion, Participant}
use Rattle.mmtel_charging.specs.declared.rows.Row.{Row}
use Rattle.mmtel_directory.specs.declared.directories.Directory.{Directory}
use Rattle.mmtel_records_in_force.specs.Texts.{Texts}
use Rattle.mmtel_keeper.specs.Contents.{KeeperContents}
use Rattle.mmtel_environment.specs.declared.events.Event.{Event}
use Rattle.mmtel_environment.specs.declared.events.Offer.{Offer}
use Rattle.mmtel_run_definitions.specs.Events.{EventRecord}
use Rattle.mmtel_run_definitions.specs.TopTheorem.{Gives}
use Rattle.mmtel_run_definitions.specs.Run.{IsEnough, state_after}
use Rattle.mmtel_run_definitions.specs.ShortRuns.{IsShortRun}
use Rattle.mmtel_web.specs.Handling.{made}
use Rattle.mmtel_workload.specs.Events.{work_events}
use Rattle.mmtel_server.specs.States.{KeeperState}
use Rattle.mmtel_cli.specs.Listings.{OffersOfRun}

-- its configuration
abbrev pub work_config : List ℕ
work_config =
    codes "sip 127.0.0.1:5060\nweb 127.0.0.1:8080\nhome home.example\n"
    ++ codes "peer 1 127.0.0.1:5071 trusted\npeer 2 127.0.0.1:5072 untrusted\nroute home.example 1\nroute far.example 2\n"
    ++ codes "account 1 sip:alice@home.example tel:+4930111\naccount 2 sip:bob@home.example\naccount 3 sip:carol@home.example\n"
    ++ codes "operator sip:op@home.example\nmixer 127.0.0.1 40000\nfactory sip:conf@home.example\n"

-- its token
abbrev pub work_token : List ℕ
work_token = codes "0123456789abcdef"

-- the record that is in force: carol diverts each call
abbrev pub work_records : Texts
work_records = (record { 0 = 3 }, codes "[communication-diversion]\nactive = true\n\n[[communication-diversion.rule]]\ntarget = \"sip:vm@far.example\"\n") ∷ []

-- what its keeper holds before
abbrev pub empty_held : KeeperContents
empty_held = record { sheets = []; rows = [] }

-- how many CDRs are of a diversion
abbrev pub diversions_in : List Row → ℕ
diversions_in [] = 0
diversions_in (row ∷ rows) = of_kind row.kind (diversions_in rows)
  where
    of_kind : Kind → ℕ → ℕ
    of_kind Origin count = count
    of_kind Terminating count = count
    of_kind Diversion count = 1 + count
    of_kind Participant count = count

-- a line with a name and a number, after a text
abbrev pub with_line : (text name : List ℕ) → ℕ → List ℕ
with_line text name number = ((text ++ name) ++ decimal number) ++ codes "\n"

-- the four lines
abbrev pub work_text : (calls offers rows diverted : ℕ) → List ℕ
work_text calls offers rows diverted =
    with_line (with_line (with_line (with_line [] (codes "calls ") calls) (codes "offers ") offers) (codes "rows ") rows) (codes "diverted ") diverted

-- its keeper: it holds this, and none of its calls failed
abbrev pub keeper_of : KeeperContents → KeeperState
keeper_of held = record { contents = Some held; calls = None; faults = 0 }

-- the record of an event in which the keeper was not called, and at whose end it accepted the CDRs that waited
abbrev pub accepted_record : Event → EventRecord
accepted_record event = record { event = event; outcome = made; rows = []; accepted = true }

-- the events of the run of so many calls by the salt
abbrev pub work_event_records : (calls salt : ℕ) → List EventRecord
work_event_records calls salt = map accepted_record (work_events calls salt)

-- the text has the numbers of the outputs of a server in that run, and of the CDRs that the keeper holds then. Where the run is short these are those of the definitions of
-- the run, so the numbers are determined by the configuration, the number of calls and the salt
pub record Counts (directory : Directory) (calls salt : ℕ) (text : List ℕ) : Type 0 where
  pub held : KeeperContents
  pub offers : List Offer
  -- the outputs are exactly those of the run,
  pub exact : IsShortRun directory work_token work_records (work_event_records calls salt) → Gives directory work_token work_records (work_event_records calls salt) offers
  -- the CDRs are exactly those that it files,
  pub rows : IsShortRun directory work_token work_records (work_event_records calls salt) → (fuel : ℕ) →
      IsEnough directory work_token work_records fuel (work_event_records calls salt) →
      held.rows ≡ (state_after directory work_token work_records fuel (work_event_records calls salt)).filed
  -- what holds for each run holds for this one: noninterference for restricted callers, the keeper and the CDRs,
  pub run : OffersOfRun directory work_token work_records (work_events calls salt) (keeper_of empty_held) (keeper_of held) offers
  -- and they are counted
  pub counts : text ≡ work_text calls (length offers) (length held.rows) (diversions_in held.rows)
