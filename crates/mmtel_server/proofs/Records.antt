-- Operations on records and registrations.
use Rattle.std.proofs.Common.{◌≡◌, ◌++◌, ◌∷◌, [], ℕ, true, List, Option, refl, sym, inl, ap, ◌∙◌, append_assoc}
use Rattle.std.proofs.lemmas.Bool.{false≢true}
use Rattle.mmtel_charging.specs.declared.rows.Row.{Row}
use Rattle.mmtel_directory.specs.declared.directories.Directory.{Directory}
use Rattle.mmtel_http.specs.Requests.{ParsedRequestView}
use Rattle.mmtel_records_in_force.specs.Records.{IsRegisteredBy, RecordsView}
use Rattle.mmtel_records_in_force.specs.Texts.{Registrations, Texts, put_stored}
use Rattle.mmtel_keeper.specs.Contents as Keeper
use Rattle.mmtel_keeper.specs.Contents.{KeeperCalls}
use Rattle.mmtel_environment.specs.declared.events.Event.{Event}
use Rattle.mmtel_environment.specs.declared.events.Offer.{Offer}
use Rattle.mmtel_environment.specs.declared.events.Offer.TheVariants as offer
use Rattle.mmtel_run_definitions.specs.Transitions.{RunState, after_web_reply, with_registration}
use Rattle.mmtel_web_service.specs.KeeperCalls.{IsKeeperResult, KeeperCall, loads, none, stores}
use Rattle.mmtel_sheet_texts.specs.Texts.{SheetTextsView}
use Rattle.mmtel_types.specs.declared.numbers.Account.{Account}
use Rattle.mmtel_web.specs.Handling.{KeeperOutcomeView, failed, no_memory, web_reply}
use Rattle.mmtel_web.specs.Uploads.{stored_upload, upload_in}
use Rattle.mmtel_server.specs.Follows.{Follows}
use Rattle.mmtel_server.specs.States.{StepState}
use Rattle.mmtel_server.specs.Representation.{RepresentsWithOffers}
use Rattle.mmtel_server.specs.StepEffects.{StepAborted, call_of}
use Rattle.mmtel_server.specs.declared.servers.Server.{Server}

module _ (s : Server) (r : RecordsView) where
  -- an account is registered
  registered_did : (account : Account) (until : ℕ) (d : Directory) (token : List ℕ) (before out : List Offer) (w : RunState)
      → r.texts ≡ s.records.texts → ((rs : Registrations) → IsRegisteredBy s.records rs → IsRegisteredBy r ((account, until) ∷ rs))
      → RepresentsWithOffers d token before s out w → RepresentsWithOffers d token before (record s { records = r }) out (with_registration account until w)
  registered_did account until d token before out w texts registers did = record {
    represents = record {
      same_directory = did.represents.same_directory;
      tokens = did.represents.tokens;
      transactions = did.represents.transactions;
      clock = did.represents.clock;
      steps = did.represents.steps;
      texts = ap (λ (t : SheetTextsView). t.texts) texts ∙ did.represents.texts;
      registered = registers w.registrations did.represents.registered;
      calls = did.represents.calls;
      rooms = did.represents.rooms;
      boxes = did.represents.boxes;
      pending_timers = did.represents.pending_timers;
      waiting = did.represents.waiting;
      no_call_rows = did.represents.no_call_rows;
      no_conference_rows = did.represents.no_conference_rows;
      unfailed = did.represents.unfailed;
    };
    offers = did.offers;
  }

  -- and then something is done
  pub registers_first : (account : Account) (until : ℕ) (f : Directory → List ℕ → RunState → RunState) (new : Server) (out now : List Offer)
      → r.texts ≡ s.records.texts → ((rs : Registrations) → IsRegisteredBy s.records rs → IsRegisteredBy r ((account, until) ∷ rs))
      → Follows (record s { records = r }) out new now f → Follows s out new now (λ d token w. f d token (with_registration account until w))
  registers_first account until f new out now texts registers follows d token before w did short =
      follows d token before (with_registration account until w) (registered_did account until d token before out w texts registers did) short

  -- a web request is served
  pub serves_web : (request : ParsedRequestView) (kept : KeeperOutcomeView) (rows : List Row) (at : ℕ) (reply : List ℕ) (out now : List Offer)
      → r.texts.texts ≡ put_stored (stored_upload kept (upload_in s.directory.names request)) s.records.texts.texts
      → ((rs : Registrations) → IsRegisteredBy s.records rs → IsRegisteredBy r rs)
      → reply ≡ web_reply s.directory.names s.records.texts.texts request kept rows → now ≡ out ++ offer.Web at reply ∷ []
      → Follows s out (record s { records = r }) now (λ d token. after_web_reply d at request kept rows)
  serves_web request kept rows at reply out now texts registers said offered d token before w did short =
      let same = did.represents.same_directory in
      let reply_is : reply ≡ web_reply d.names w.texts request kept rows =
      said ∙ (ap (λ (x : Directory). web_reply x.names s.records.texts.texts request kept rows) same
      ∙ ap (λ (t : Texts). web_reply d.names t request kept rows) did.represents.texts) in
      record {
        represents = record {
          same_directory = same;
          tokens = did.represents.tokens;
          transactions = did.represents.transactions;
          clock = did.represents.clock;
          steps = did.represents.steps;
          texts = texts ∙ (ap (λ (x : Directory). put_stored (stored_upload kept (upload_in x.names request)) s.records.texts.texts) same
              ∙ ap (put_stored (stored_upload kept (upload_in d.names request))) did.represents.texts);
          registered = registers w.registrations did.represents.registered;
          calls = did.represents.calls;
          rooms = did.represents.rooms;
          boxes = did.represents.boxes;
          pending_timers = did.represents.pending_timers;
          waiting = did.represents.waiting;
          no_call_rows = did.represents.no_call_rows;
          no_conference_rows = did.represents.no_conference_rows;
          unfailed = did.represents.unfailed;
        };
        offers = offered ∙ (ap (λ (os : List Offer). os ++ offer.Web at reply ∷ []) did.offers
            ∙ (append_assoc before w.offers (offer.Web at reply ∷ []) ∙ ap (λ (x : List ℕ). before ++ (w.offers ++ offer.Web at x ∷ [])) reply_is));
      }

-- ---- the keeper

apart : no_memory ≡ failed → ⊥
apart e = cc

-- where memory runs out before it is called
pub result_if_not_called : (call : KeeperCall) (held : Option Keeper.KeeperContents) (calls : Option KeeperCalls) → IsKeeperResult call no_memory [] held held calls calls
result_if_not_called none held calls = (λ e. absurd (apart e), (refl, refl))
result_if_not_called (stores account text) held calls = (refl, inl refl)
result_if_not_called loads held calls = (refl, inl refl)

pub aborted_if_not_called : (old : StepState) (event : Event) → old.server.failed ≡ true → StepAborted event old old.offers old.keeper
aborted_if_not_called old event is = record {
  outcome = no_memory;
  rows = [];
  broke = λ took. (
    λ d token loaded recorded before fuel went short enough. absurd (false≢true (sym went.represents.represents.unfailed ∙ is)),
    λ d token loaded recorded fuel serves short enough. absurd (false≢true (sym serves.represents.unfailed ∙ is)),
  );
  between = old.keeper;
  asks = λ took d token loaded recorded serves short. result_if_not_called (call_of d.names event) old.keeper.contents old.keeper.calls;
  counts = refl;
  handover_aborted = (refl, (inl refl, refl));
}
