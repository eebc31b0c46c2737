-- Operations on the conferences of a server, with the CDRs that they closed removed.
use Rattle.std.proofs.Common.{◌≡◌, ℕ, List, [], ◌∷◌, ◌++◌, length, drop, refl, sym, ap, ◌∙◌, subst, arith}
use Rattle.std.proofs.lemmas.List.{drop_all}
use Rattle.mmtel_charging.specs.declared.rows.Row.{Row}
use Rattle.mmtel_output.specs.declared.outputs.StepOutput.{StepOutput}
use Rattle.mmtel_directory.specs.declared.directories.Directory.{Directory}
use Rattle.mmtel_focus.specs.Operations as histories
use Rattle.mmtel_focus.specs.Operations.{Drops, RoomsView, TableOp, config_of, effects_after, effects_of, table_after, table_after_op}
use Rattle.mmtel_participants.specs.declared.effects.Effects.{Effects}
use Rattle.mmtel_focus.specs.ConferenceConfig.{ConferenceConfigView}
use Rattle.mmtel_focus.specs.Table.{Table}
use Rattle.mmtel_environment.specs.declared.events.Offer.{Offer}
use Rattle.mmtel_run_definitions.specs.Ownership.{conference_config, conferences_after}
use Rattle.mmtel_run_definitions.specs.ShortRuns.{ConferencesDrawOn, tokens_of_op}
use Rattle.mmtel_run_definitions.specs.Transitions.{RunState, conferences_in, output_of_conference_op, tokens_now}
use Rattle.mmtel_transaction.specs.Tokens.{TokensView}
use Rattle.mmtel_transaction.specs.declared.words.Emit.{Emit}
use Rattle.mmtel_trust.specs.Peers.{Peers}
use Rattle.mmtel_trust.specs.declared.accounts.AccountIdentity.{AccountIdentity}
use Rattle.mmtel_server.specs.Follows.{ConferencesOpen, ConferencesPerform, after_conference_draw, after_conference_operation}
use Rattle.mmtel_server.specs.Representation.{RepresentsWithOffers, conferences_of}
use Rattle.mmtel_server.specs.declared.servers.Server.{Server}

-- the conferences of the server represent the operations on them
abbrev RepresentsOps : Server → RoomsView → List TableOp → Type 0
RepresentsOps s view ops = histories.Represents s.directory.peers s.directory.names.accounts view ops

abbrev config_in : Server → RoomsView → ConferenceConfigView
config_in s view = config_of view s.directory.peers s.directory.names.accounts

-- the CDRs that an operation closes come after those that were there
abbrev pub Closes : TableOp → Type 0
Closes op = (site : ConferenceConfigView) (table : Table) → (table_after_op site op table).rows ≡ table.rows ++ (effects_of site op table).output.rows

-- the CDRs were removed from the conferences
pub record RowsCollected (mid new : RoomsView) (before after : List Row) : Type 0 where
  pub waiting : after ≡ before ++ mid.table.rows
  pub done : (peers : Peers) (accounts : List AccountIdentity) (ops : List TableOp) → histories.Represents peers accounts mid ops → histories.Represents peers accounts new (Drops (length mid.table.rows) ∷ ops)
  pub site : (peers : Peers) (accounts : List AccountIdentity) → config_of new peers accounts ≡ config_of mid peers accounts

-- an operation was done with these tokens, and its CDRs were removed
module _ (f : TokensView → TableOp) (s : Server) (mid new : RoomsView) (waiting : List Row)
    (done : (ops : List TableOp) → RepresentsOps s s.rooms ops → RepresentsOps s mid (f s.tokens ∷ ops))
    (stays : (peers : Peers) (accounts : List AccountIdentity) → config_of mid peers accounts ≡ config_of s.rooms peers accounts)
    (taken : RowsCollected mid new s.waiting waiting) where
  module _ (d : Directory) (token : List ℕ) (before out : List Offer) (w : RunState) (have : RepresentsWithOffers d token before s out w) (closes : Closes (f (tokens_now token w))) where
    abbrev op : TableOp
    op = f (tokens_now token w)

    abbrev output : StepOutput
    output = output_of_conference_op d op w

    stand : RepresentsOps s s.rooms w.conference_ops
    stand =
        subst (λ (e : Directory). histories.Represents e.peers e.names.accounts s.rooms w.conference_ops) (sym have.represents.same_directory)
        (subst (λ (r : RoomsView). histories.Represents d.peers d.names.accounts r w.conference_ops) (sym have.represents.rooms) (record { table = refl; works = refl }))

    site_is : config_in s s.rooms ≡ conference_config d
    site_is =
        ap (λ (e : Directory). config_of s.rooms e.peers e.names.accounts) have.represents.same_directory
        ∙ ap (λ (r : RoomsView). config_of r d.peers d.names.accounts) have.represents.rooms

    brought : effects_after (config_in s s.rooms) w.conference_ops (f s.tokens) ≡ effects_after (conference_config d) w.conference_ops op
    brought =
        ap (λ (t : ConferenceConfigView). effects_after t w.conference_ops (f s.tokens)) site_is
        ∙ ap (λ (t : TokensView). effects_after (conference_config d) w.conference_ops (f t)) have.represents.tokens

    mid_site : config_in s mid ≡ conference_config d
    mid_site = stays s.directory.peers s.directory.names.accounts ∙ site_is

    mid_table : mid.table ≡ conferences_after d (op ∷ w.conference_ops)
    mid_table =
        (done w.conference_ops stand).table
        ∙ (ap (λ (t : ConferenceConfigView). table_after t (f s.tokens ∷ w.conference_ops)) mid_site
        ∙ ap (λ (t : TokensView). table_after (conference_config d) (f t ∷ w.conference_ops)) have.represents.tokens)

    -- the CDRs that it closed are all that are there
    these : (table_after_op (conference_config d) op (conferences_in d w)).rows ≡ output.rows
    these = closes (conference_config d) (conferences_in d w) ∙ ap (λ (rows : List Row). rows ++ output.rows) have.represents.no_conference_rows

    closed : mid.table.rows ≡ output.rows
    closed = ap (λ (t : Table). t.rows) mid_table ∙ these

    new_site : config_in s new ≡ conference_config d
    new_site = taken.site s.directory.peers s.directory.names.accounts ∙ mid_site

    dropped : RepresentsOps s new (Drops (length mid.table.rows) ∷ f s.tokens ∷ w.conference_ops)
    dropped = taken.done s.directory.peers s.directory.names.accounts (f s.tokens ∷ w.conference_ops) (done w.conference_ops stand)

    new_table : new.table ≡ conferences_after d (Drops (length output.rows) ∷ op ∷ w.conference_ops)
    new_table =
        dropped.table
        ∙ (ap (λ (t : ConferenceConfigView). table_after t (Drops (length mid.table.rows) ∷ f s.tokens ∷ w.conference_ops)) new_site
        ∙ (ap (λ (t : TokensView). table_after (conference_config d) (Drops (length mid.table.rows) ∷ f t ∷ w.conference_ops)) have.represents.tokens
        ∙ ap (λ (rows : List Row). table_after (conference_config d) (Drops (length rows) ∷ op ∷ w.conference_ops)) closed))

    new_rooms : new ≡ conferences_of d (after_conference_operation op output w)
    new_rooms = λ i. record {
      sip = ap (λ (t : ConferenceConfigView). t.sip) new_site i;
      mixer = ap (λ (t : ConferenceConfigView). t.mixer) new_site i;
      methods = ap (λ (t : ConferenceConfigView). t.methods) new_site i;
      table = new_table i;
      has_failed = dropped.works i;
    }

    all_wait : waiting ≡ w.waiting ++ output.rows
    all_wait = taken.waiting ∙ (ap (λ (rows : List Row). rows ++ mid.table.rows) have.represents.waiting ∙ ap (λ (rows : List Row). w.waiting ++ rows) closed)

    none_left : (conferences_in d (after_conference_operation op output w)).rows ≡ []
    none_left = ap (λ (rows : List Row). drop (length output.rows) rows) these ∙ drop_all (length output.rows) output.rows (omega arith)

    lodged : RepresentsWithOffers d token before (record s { rooms = new; waiting = waiting }) out (after_conference_operation op output w)
    lodged = record {
      represents = record {
        same_directory = have.represents.same_directory;
        tokens = have.represents.tokens;
        transactions = have.represents.transactions;
        clock = have.represents.clock;
        steps = have.represents.steps;
        texts = have.represents.texts;
        registered = have.represents.registered;
        calls = have.represents.calls;
        rooms = new_rooms;
        boxes = have.represents.boxes;
        pending_timers = have.represents.pending_timers;
        waiting = all_wait;
        no_call_rows = have.represents.no_call_rows;
        no_conference_rows = none_left;
        unfailed = have.represents.unfailed;
      };
      offers = have.offers;
    }

    -- numbers may have been drawn by it
    module _ (law : ConferencesDrawOn) (own : tokens_of_op op ≡ tokens_now token w) (tokens : TokensView)
        (drew : (ops : List TableOp) → RepresentsOps s s.rooms ops → tokens ≡ (effects_after (config_in s s.rooms) ops (f s.tokens)).output.tokens) where
      new_tokens : tokens ≡ record { token = token; drawn = output.tokens.drawn }
      new_tokens =
          drew w.conference_ops stand
          ∙ (ap (λ (e : Effects). e.output.tokens) brought
          ∙ ap (λ (t : List ℕ). let r : TokensView = record { token = t; drawn = output.tokens.drawn } in r) ((law (conference_config d) w.conference_ops op).same ∙ ap (λ (t : TokensView). t.token) own))

      housed : RepresentsWithOffers d token before (record s { rooms = new; waiting = waiting; tokens = tokens }) out (after_conference_draw op output w)
      housed = record {
        represents = record {
          same_directory = have.represents.same_directory;
          tokens = new_tokens;
          transactions = have.represents.transactions;
          clock = have.represents.clock;
          steps = have.represents.steps;
          texts = have.represents.texts;
          registered = have.represents.registered;
          calls = have.represents.calls;
          rooms = new_rooms;
          boxes = have.represents.boxes;
          pending_timers = have.represents.pending_timers;
          waiting = all_wait;
          no_call_rows = have.represents.no_call_rows;
          no_conference_rows = none_left;
          unfailed = have.represents.unfailed;
        };
        offers = have.offers;
      }

  -- these are its commands
  module _ (emits : List Emit) (sent : (ops : List TableOp) → RepresentsOps s s.rooms ops → emits ≡ (effects_after (config_in s s.rooms) ops (f s.tokens)).output.out) where
    pub opens : (op : TableOp) → ((t : TokensView) → f t ≡ op) → Closes op → ConferencesOpen s (record s { rooms = new; waiting = waiting }) (λ d token w. op) emits
    opens op is closes d token before out w have =
        let mine : f (tokens_now token w) ≡ op = is (tokens_now token w) in
        let those : Closes (f (tokens_now token w)) = subst Closes (sym mine) closes in
        subst (λ (x : TableOp). (emits ≡ (output_of_conference_op d x w).out)
        × RepresentsWithOffers d token before (record s { rooms = new; waiting = waiting }) out (after_conference_operation x (output_of_conference_op d x w) w)) mine
        (sent w.conference_ops (stand d token before out w have those) ∙ ap (λ (e : Effects). e.output.out) (brought d token before out w have those), lodged d token before out w have those)

    pub does : ConferencesDrawOn → (closes : (t : TokensView) → Closes (f t)) → (own : (t : TokensView) → tokens_of_op (f t) ≡ t) → (tokens : TokensView)
        → ((ops : List TableOp) → RepresentsOps s s.rooms ops → tokens ≡ (effects_after (config_in s s.rooms) ops (f s.tokens)).output.tokens)
        → ConferencesPerform s (record s { rooms = new; waiting = waiting; tokens = tokens }) (λ d token w. f (tokens_now token w)) emits
    does law closes own tokens drew d token before out w have =
        let those : Closes (f (tokens_now token w)) = closes (tokens_now token w) in (
          sent w.conference_ops (stand d token before out w have those) ∙ ap (λ (e : Effects). e.output.out) (brought d token before out w have those),
          housed d token before out w have those law (own (tokens_now token w)) tokens drew,
        )
