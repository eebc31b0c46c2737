-- The CDRs that wait at the end of an event, handed to the keeper.
use Rattle.std.proofs.Common.{◌≡◌, ◌∷◌, ◌++◌, [], ℕ, Bool, true, false, List, refl, sym, subst}
use Rattle.mmtel_charging.specs.declared.rows.Row.{Row}
use Rattle.mmtel_directory.specs.declared.directories.Directory.{Directory}
use Rattle.mmtel_environment.specs.declared.events.Offer.{Offer}
use Rattle.mmtel_run_definitions.specs.Transitions.{RunState, after_event_end, after_handover}
use Rattle.mmtel_server.specs.Follows.{Follows}
use Rattle.mmtel_server.specs.Representation.{RepresentsWithOffers}
use Rattle.mmtel_server.specs.declared.servers.Server.{Server}
use Rattle.mmtel_server_timers.specs.Handover.{remaining_rows}

pub hands_none : (rows : List Row) (w : RunState) → after_handover false rows w ≡ w
hands_none [] w = refl
hands_none (row ∷ rows) w = refl

-- the server with other CDRs that wait represents the state with other ones, where these are the same
module _ (s : Server) (d : Directory) (token : List ℕ) (before out : List Offer) (w : RunState) (did : RepresentsWithOffers d token before s out w) where
  waiting_so : (here there filed : List Row) → here ≡ there → RepresentsWithOffers d token before (record s { waiting = here }) out (record w { waiting = there; filed = filed })
  waiting_so here there filed same = record {
    represents = record {
      same_directory = did.represents.same_directory;
      tokens = did.represents.tokens;
      transactions = did.represents.transactions;
      clock = did.represents.clock;
      steps = did.represents.steps;
      texts = did.represents.texts;
      registered = did.represents.registered;
      calls = did.represents.calls;
      rooms = did.represents.rooms;
      boxes = did.represents.boxes;
      pending_timers = did.represents.pending_timers;
      waiting = same;
      no_call_rows = did.represents.no_call_rows;
      no_conference_rows = did.represents.no_conference_rows;
      unfailed = did.represents.unfailed;
    };
    offers = did.offers;
  }

  -- where none waited, none does; else the keeper accepted all of them or none
  handed : (took : Bool) (rows : List Row) → rows ≡ w.waiting → RepresentsWithOffers d token before (record s { waiting = remaining_rows took s.waiting }) out (after_handover took rows w)
  handed false [] none = waiting_so s.waiting w.waiting w.filed did.represents.waiting
  handed true [] none = waiting_so [] w.waiting w.filed none
  handed false (row ∷ rows) some = waiting_so s.waiting w.waiting w.filed did.represents.waiting
  handed true (row ∷ rows) some = waiting_so [] [] (w.filed ++ row ∷ rows) refl

pub rows_handed_over : (s : Server) (took : Bool) (waiting : List Row) → waiting ≡ remaining_rows took s.waiting → (out : List Offer) → Follows s out (record s { waiting = waiting }) out (λ d token. after_event_end took)
rows_handed_over s took waiting is out d token before w did short =
    subst (λ (rows : List Row). RepresentsWithOffers d token before (record s { waiting = rows }) out (after_handover took w.waiting w)) (sym is) (handed s d token before out w did took w.waiting refl)
