-- A leg of a call of the server is taken out, or put back.
use Rattle.std.proofs.Common.{◌≡◌, ℕ, zero, suc, List, [], ◌∷◌, false, refl, sym, ap, ◌∙◌, subst, Option, Some, None, slice_get, slice_set}
use Rattle.std.proofs.lemmas.Option.{none-some}
use Rattle.mmtel_b2bua.specs.Operations as histories
use Rattle.mmtel_b2bua.specs.Operations.{CallsView, Releases, TableOp, config_of as site_in, table_after, table_after_op}
use Rattle.mmtel_b2bua.specs.Detaching.{entries_after_release, entry_after_release, entry_at, leg_in_entry, place_of, released_at, released_leg_of, released_where}
use Rattle.mmtel_b2bua.specs.Tables.{Table}
use Rattle.mmtel_b2bua.specs.declared.entries.Entry.{Entry}
use Rattle.mmtel_call_services.specs.CallConfig.{CallConfigView}
use Rattle.mmtel_call.specs.Detaching.{detached_in, removed_leg_in}
use Rattle.mmtel_call.specs.declared.calls.Call.{Call}
use Rattle.mmtel_call.specs.declared.calls.Phase.{Phase}
use Rattle.mmtel_call.specs.declared.calls.Phase.TheVariants.{Detached, Established, Offered, Over}
use Rattle.mmtel_call.specs.declared.calls.Stage.TheVariants.{Answered, Departing, Reinviting, Stable}
use Rattle.mmtel_directory.specs.declared.directories.Directory.{Directory}
use Rattle.mmtel_environment.specs.declared.events.Offer.{Offer}
use Rattle.mmtel_run_definitions.specs.Calls.{call_config, calls_after}
use Rattle.mmtel_run_definitions.specs.Transitions.{RunState, calls_in, with_call_op}
use Rattle.mmtel_trust.specs.Peers.{Peers}
use Rattle.mmtel_trust.specs.declared.accounts.AccountIdentity.{AccountIdentity}
use Rattle.mmtel_types.specs.declared.sides.Side.{Side}
use Rattle.mmtel_server.specs.Follows.{AddsOfferPrefix, Follows}
use Rattle.mmtel_server.specs.Representation.{RepresentsWithOffers}
use Rattle.mmtel_server.specs.declared.servers.Server.{Server}

-- ---- where no leg is taken out, nothing has changed

same_if_not_detached : (phase : Phase) (side : Side) (c : Call) → removed_leg_in phase side ≡ None → detached_in phase side c ≡ c
same_if_not_detached (Offered x) side c h = refl
same_if_not_detached (Established x (Answered waiting success)) side c h = refl
same_if_not_detached (Established x (Departing waiting success)) side c h = refl
same_if_not_detached (Established x Stable) side c h = absurd (none-some _ (sym h))
same_if_not_detached (Established x (Reinviting asking q)) side c h = refl
same_if_not_detached (Detached detached) side c h = refl
same_if_not_detached (Over cause) side c h = refl

-- the item at a position is put there again
set_back : {A : Type 0} → (l : List A) (i : ℕ) (b : A) → slice_get l i ≡ Some b → slice_set l i b ≡ l
set_back [] i b there = cc
set_back (x ∷ l) zero b there = cc
set_back (x ∷ l) (suc i) b there = ap (λ r. x ∷ r) (set_back l i b there)

same_entry_if_not_detached : (side : Side) (e : Entry) → removed_leg_in e.call.phase side ≡ None → entry_after_release side e ≡ e
same_entry_if_not_detached side e h = ap (λ (c : Call). let r : Entry = record e { call = c } in r) (same_if_not_detached e.call.phase side e.call h)

same_at_if_not_detached : (side : Side) (place : ℕ) (o : Option Entry) (es : List Entry) → slice_get es place ≡ o → leg_in_entry side o ≡ None → released_at side place o es ≡ es
same_at_if_not_detached side place None es is h = refl
same_at_if_not_detached side place (Some e) es is h = ap (λ (x : Entry). slice_set es place x) (same_entry_if_not_detached side e h) ∙ set_back es place e is

same_by_if_not_detached : (side : Side) (o : Option ℕ) (es : List Entry) → leg_in_entry side (entry_at o es) ≡ None → released_where side o es ≡ es
same_by_if_not_detached side None es h = refl
same_by_if_not_detached side (Some place) es h = same_at_if_not_detached side place (slice_get es place) es refl h

unreleased : (number : ℕ) (side : Side) (es : List Entry) → released_leg_of number side es ≡ None → entries_after_release number side es ≡ es
unfolding entries_after_release
unreleased number side es h = same_by_if_not_detached side (place_of number es) es h

-- ---- the calls after such an operation

-- an operation that files no CDR
module _ (op : TableOp) (files : (config : CallConfigView) (table : Table) → (table_after_op config op table).rows ≡ table.rows) (s : Server) (calls : CallsView)
    (done : (peers : Peers) (accounts : List AccountIdentity) (ops : List TableOp) → histories.Represents peers accounts s.calls ops → histories.Represents peers accounts calls (op ∷ ops))
    (stays : (peers : Peers) (accounts : List AccountIdentity) → site_in calls peers accounts ≡ site_in s.calls peers accounts) where
  module _ (d : Directory) (token : List ℕ) (before out : List Offer) (w : RunState) (did_it : RepresentsWithOffers d token before s out w) where
    stand : histories.Represents d.peers d.names.accounts s.calls w.call_ops
    stand = subst (λ (c : CallsView). histories.Represents d.peers d.names.accounts c w.call_ops) (sym did_it.represents.calls) (record { table = refl; works = refl })

    now : histories.Represents d.peers d.names.accounts calls (op ∷ w.call_ops)
    now = done d.peers d.names.accounts w.call_ops stand

    site_is : site_in calls d.peers d.names.accounts ≡ call_config d
    site_is = stays d.peers d.names.accounts ∙ ap (λ (c : CallsView). site_in c d.peers d.names.accounts) did_it.represents.calls

    table_is : calls.table ≡ calls_after d (op ∷ w.call_ops)
    table_is = now.table ∙ ap (λ (t : CallConfigView). table_after t (op ∷ w.call_ops)) site_is

    calls_are : (table : Table) → calls.table ≡ table →
        calls
        ≡ record { sip = d.sip; home = d.home; bound = d.bound; country = d.country; reliable = d.reliable; timer = d.timer; mwi = d.names.mwi; table = table; has_failed = false }
    calls_are table is = λ i. record {
      sip = ap (λ (t : CallConfigView). t.sip) site_is i;
      home = ap (λ (t : CallConfigView). t.home) site_is i;
      bound = ap (λ (t : CallConfigView). t.bound) site_is i;
      country = ap (λ (t : CallConfigView). t.country) site_is i;
      reliable = ap (λ (t : CallConfigView). t.reliable) site_is i;
      timer = ap (λ (t : CallConfigView). t.timer) site_is i;
      mwi = ap (λ (t : CallConfigView). t.mwi) site_is i;
      table = is i;
      has_failed = now.works i;
    }

    pub detached_once : RepresentsWithOffers d token before (record s { calls = calls }) out (with_call_op op w)
    detached_once = record {
      represents = record {
        same_directory = did_it.represents.same_directory;
        tokens = did_it.represents.tokens;
        transactions = did_it.represents.transactions;
        clock = did_it.represents.clock;
        steps = did_it.represents.steps;
        texts = did_it.represents.texts;
        registered = did_it.represents.registered;
        calls = calls_are (calls_after d (op ∷ w.call_ops)) table_is;
        rooms = did_it.represents.rooms;
        boxes = did_it.represents.boxes;
        pending_timers = did_it.represents.pending_timers;
        waiting = did_it.represents.waiting;
        no_call_rows = files (call_config d) (calls_in d w) ∙ did_it.represents.no_call_rows;
        no_conference_rows = did_it.represents.no_conference_rows;
        unfailed = did_it.represents.unfailed;
      };
      offers = did_it.offers;
    }

    -- where it changed nothing
    pub as_before : table_after_op (call_config d) op (calls_in d w) ≡ calls_in d w → RepresentsWithOffers d token before (record s { calls = calls }) out w
    as_before same = record {
      represents = record {
        same_directory = did_it.represents.same_directory;
        tokens = did_it.represents.tokens;
        transactions = did_it.represents.transactions;
        clock = did_it.represents.clock;
        steps = did_it.represents.steps;
        texts = did_it.represents.texts;
        registered = did_it.represents.registered;
        calls = calls_are (calls_in d w) (table_is ∙ same);
        rooms = did_it.represents.rooms;
        boxes = did_it.represents.boxes;
        pending_timers = did_it.represents.pending_timers;
        waiting = did_it.represents.waiting;
        no_call_rows = did_it.represents.no_call_rows;
        no_conference_rows = did_it.represents.no_conference_rows;
        unfailed = did_it.represents.unfailed;
      };
      offers = did_it.offers;
    }

  -- what is done from there on is done after it
  pub follows_detached : (g : Directory → List ℕ → RunState → RunState) (new : Server) (out out2 : List Offer) → Follows (record s { calls = calls }) out new out2 g
      → Follows s out new out2 (λ d token w. g d token (with_call_op op w))
  follows_detached g new out out2 follows d token before w did_it short = follows d token before (with_call_op op w) (detached_once d token before out w did_it) short

  pub breaks_detached : (g : Directory → List ℕ → RunState → RunState) (out out2 : List Offer) → AddsOfferPrefix (record s { calls = calls }) out out2 g
      → AddsOfferPrefix s out out2 (λ d token w. g d token (with_call_op op w))
  breaks_detached g out out2 breaks d token before w did_it short = breaks d token before (with_call_op op w) (detached_once d token before out w did_it) short

-- no leg is taken out: what is done from there on is done in the unchanged state
module _ (number : ℕ) (side : Side) (s : Server) (calls : CallsView) (none : released_leg_of number side s.calls.table.entries ≡ None)
    (done : (peers : Peers) (accounts : List AccountIdentity) (ops : List TableOp) → histories.Represents peers accounts s.calls ops → histories.Represents peers accounts calls (Releases number side ∷ ops))
    (stays : (peers : Peers) (accounts : List AccountIdentity) → site_in calls peers accounts ≡ site_in s.calls peers accounts) where
  as_it_stood : (d : Directory) (token : List ℕ) (before out : List Offer) (w : RunState) → RepresentsWithOffers d token before s out w → RepresentsWithOffers d token before (record s { calls = calls }) out w
  as_it_stood d token before out w did_it =
      let there : released_leg_of number side (calls_in d w).entries ≡ None = sym (ap (λ (c : CallsView). released_leg_of number side c.table.entries) did_it.represents.calls) ∙ none in
      as_before (Releases number side) (λ config table. refl) s calls done stays d token before out w did_it
      (ap (λ (es : List Entry). let t : Table = record (calls_in d w) { entries = es } in t) (unreleased number side (calls_in d w).entries there))

  pub follows_unlent : (g : Directory → List ℕ → RunState → RunState) (new : Server) (out out2 : List Offer) → Follows (record s { calls = calls }) out new out2 g → Follows s out new out2 g
  follows_unlent g new out out2 follows d token before w did_it short = follows d token before w (as_it_stood d token before out w did_it) short

  pub breaks_unlent : (g : Directory → List ℕ → RunState → RunState) (out out2 : List Offer) → AddsOfferPrefix (record s { calls = calls }) out out2 g → AddsOfferPrefix s out out2 g
  breaks_unlent g out out2 breaks d token before w did_it short = breaks d token before w (as_it_stood d token before out w did_it) short
