-- A workload: its outputs, and what was counted.
use Rattle.std.proofs.Common.{◌≡◌, ℕ, List, length, subst, Result, Ok, Err}
use Rattle.std.specs.Prelude.{IfOk}
use Rattle.mmtel_charging.specs.declared.rows.Row.{Row}
use Rattle.mmtel_directory.specs.declared.directories.Directory.{Directory}
use Rattle.mmtel_records_in_force.specs.Texts.{Texts}
use Rattle.mmtel_keeper.specs.Contents.{KeeperContents}
use Rattle.mmtel_environment.specs.declared.events.Event.{Event}
use Rattle.mmtel_environment.specs.declared.events.Offer.{Offer}
use Rattle.mmtel_workload.specs.Events.{work_events}
use Rattle.mmtel_cli.specs.Listings.{OffersOfRun}
use Rattle.mmtel_cli.proofs.WorkRuns.{offers_known, rows_known}
use Rattle.mmtel_cli.specs.Workloads.{Counts, diversions_in, empty_held, keeper_of, work_records, work_text, work_token}

-- the outputs over this token and these texts are those over the token and the texts of a workload
pub offers_work : {E : Type 0} (directory : Directory) (result : Result (List Offer) E) (token : List ℕ) (loaded : Texts) (events : List Event) (opening held : KeeperContents)
    → token ≡ work_token → loaded ≡ work_records → IfOk result (OffersOfRun directory token loaded events (keeper_of opening) (keeper_of held))
    → IfOk result (OffersOfRun directory work_token work_records events (keeper_of opening) (keeper_of held))
offers_work directory result token loaded events opening held token_is loaded_is run = rw (token_is, loaded_is) at run

-- the run is that of the calls, over a keeper that held nothing
run_of_calls : (directory : Directory) (calls salt : ℕ) (events : List Event) (opening held : KeeperContents) (offers : List Offer) → events ≡ work_events calls salt
    → opening ≡ empty_held → OffersOfRun directory work_token work_records events (keeper_of opening) (keeper_of held) offers
    → OffersOfRun directory work_token work_records (work_events calls salt) (keeper_of empty_held) (keeper_of held) offers
run_of_calls directory calls salt events opening held offers received empty run =
    let by_events = subst (λ (l : List Event). OffersOfRun directory work_token work_records l (keeper_of opening) (keeper_of held) offers) received run in
    subst (λ (h : KeeperContents). OffersOfRun directory work_token work_records (work_events calls salt) (keeper_of h) (keeper_of held) offers) empty by_events

-- the text has the numbers of the outputs of the run and of the CDRs of its keeper
pub counts_written : {E : Type 0} (directory : Directory) (calls salt : ℕ) (result : Result (List ℕ) E) (events : List Event) (opening held : KeeperContents) (offers : List Offer)
    (rows : List Row)
    → events ≡ work_events calls salt → opening ≡ empty_held → rows ≡ held.rows
    → OffersOfRun directory work_token work_records events (keeper_of opening) (keeper_of held) offers
    → IfOk result (λ text. text ≡ work_text calls (length offers) (length rows) (diversions_in rows))
    → IfOk result (λ text. Counts directory calls salt text)
counts_written directory calls salt (Ok text) events opening held offers rows received empty same run exposed =
    let this = run_of_calls directory calls salt events opening held offers received empty run in
    record {
      held = held;
      offers = offers;
      exact = offers_known directory calls salt held offers this;
      rows = rows_known directory calls salt held offers this;
      run = this;
      counts = let P : List Row → Type 0 = λ r. text ≡ work_text calls (length offers) (length r) (diversions_in r) in subst P same exposed;
    }
counts_written directory calls salt (Err e) events opening held offers rows received empty same run exposed = tt
