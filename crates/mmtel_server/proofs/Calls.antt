-- The output of calls in a server, where the CDRs that they closed are removed from them.
use Rattle.std.proofs.Common.{◌≡◌, ℕ, List, [], ◌∷◌, ◌++◌, drop, length, refl, sym, ap, ◌∙◌, subst, arith}
use Rattle.std.specs.Option.{option_map}
use Rattle.std.proofs.lemmas.List.{drop_all}
use Rattle.mmtel_b2bua.specs.Operations as histories
use Rattle.mmtel_b2bua.specs.Operations.{CallsView, Drops, Finishes, Receives, TableOp, config_of as site_in, step_on_finish, step_on_receive_after, table_after}
use Rattle.mmtel_b2bua.specs.Tables.{Table, TableStep, opened_after, step_of_signal, with_step}
use Rattle.mmtel_b2bua.specs.declared.signals.Signal.{Signal}
use Rattle.mmtel_call_services.specs.CallConfig.{CallConfigView}
use Rattle.mmtel_charging.specs.declared.rows.Row.{Row}
use Rattle.mmtel_output.specs.Outputs.{empty_output}
use Rattle.mmtel_output.specs.declared.outputs.StepOutput.{StepOutput}
use Rattle.mmtel_directory.specs.declared.directories.Directory.{Directory}
use Rattle.mmtel_records_in_force.specs.Records.{SheetsMatchTexts}
use Rattle.mmtel_records_in_force.specs.Texts.{Texts}
use Rattle.mmtel_environment.specs.declared.events.Offer.{Offer}
use Rattle.mmtel_base.specs.Numbers.{next_number}
use Rattle.mmtel_sheet_grammar.specs.Texts.{stored_sheet}
use Rattle.mmtel_sheet_texts.specs.Texts.{text_at}
use Rattle.mmtel_transaction.specs.Tokens.{TokensView}
use Rattle.mmtel_transaction.specs.declared.words.Emit.{Emit}
use Rattle.mmtel_trust.specs.Peers.{Peers}
use Rattle.mmtel_trust.specs.declared.accounts.AccountIdentity.{AccountIdentity}
use Rattle.mmtel_types.specs.declared.numbers.Account.{Account}
use Rattle.mmtel_types.specs.declared.numbers.CallNo.{CallNo}
use Rattle.mmtel_run_definitions.specs.Calls.{call_config, calls_after}
use Rattle.mmtel_run_definitions.specs.InForce.{CallsSeeRecordsAlone, CallsSeeWhatIsInForce, HaveSameRecords}
use Rattle.mmtel_run_definitions.specs.Records.{in_force}
use Rattle.mmtel_run_definitions.specs.Transitions.{RunState, calls_in, received_now, tokens_now}
use Rattle.mmtel_server.specs.Follows.{NumbersNeverFall, after_call_operation, output_at_end, output_of_signal}
use Rattle.mmtel_server.specs.Representation.{RepresentsWithOffers, calls_of}
use Rattle.mmtel_server.specs.declared.servers.Server.{Server}

-- a signal, as the server passes it on
abbrev pub received_signal : ℕ → Server → Signal → histories.ReceivedSignal
received_signal at s x = record { at = at; view = s.records.view; tokens = s.tokens; signal = x }

module _ (d : Directory) (token : List ℕ) (before out : List Offer) (s : Server) (w : RunState) (have : RepresentsWithOffers d token before s out w) where
  -- the calls of the server represent the operations on them
  stand : histories.Represents s.directory.peers s.directory.names.accounts s.calls w.call_ops
  stand =
      subst (λ (e : Directory). histories.Represents e.peers e.names.accounts s.calls w.call_ops) (sym have.represents.same_directory)
      (subst (λ (c : CallsView). histories.Represents d.peers d.names.accounts c w.call_ops) (sym have.represents.calls) (record { table = refl; works = refl }))

  site_is : site_in s.calls s.directory.peers s.directory.names.accounts ≡ call_config d
  site_is =
      ap (λ (e : Directory). site_in s.calls e.peers e.names.accounts) have.represents.same_directory
      ∙ ap (λ (c : CallsView). site_in c d.peers d.names.accounts) have.represents.calls

  -- an operation was done on them, in the server's terms and in those of the state; then their CDRs were removed
  module _ (said op : TableOp) (output : StepOutput) (same : table_after (call_config d) (said ∷ w.call_ops) ≡ table_after (call_config d) (op ∷ w.call_ops))
      (closes : (table_after (call_config d) (op ∷ w.call_ops)).rows ≡ (calls_in d w).rows ++ output.rows) (calls : CallsView)
      (done : (ops : List TableOp) → histories.Represents s.directory.peers s.directory.names.accounts s.calls ops → histories.Represents s.directory.peers s.directory.names.accounts calls (said ∷ ops))
      (stays : (peers : Peers) (accounts : List AccountIdentity) → site_in calls peers accounts ≡ site_in s.calls peers accounts) where
    table_is : calls.table ≡ table_after (call_config d) (op ∷ w.call_ops)
    table_is =
        (done w.call_ops stand).table
        ∙ (ap (λ (t : CallConfigView). table_after t (said ∷ w.call_ops)) (stays s.directory.peers s.directory.names.accounts ∙ site_is) ∙ same)

    site_then : site_in calls d.peers d.names.accounts ≡ call_config d
    site_then = stays d.peers d.names.accounts ∙ ap (λ (c : CallsView). site_in c d.peers d.names.accounts) have.represents.calls

    stand_then : histories.Represents d.peers d.names.accounts calls (op ∷ w.call_ops)
    stand_then = record { table = table_is ∙ sym (ap (λ (t : CallConfigView). table_after t (op ∷ w.call_ops)) site_then); works = (done w.call_ops stand).works }

    rows_are : calls.table.rows ≡ output.rows
    rows_are = ap (λ (t : Table). t.rows) table_is ∙ (closes ∙ ap (λ (rows : List Row). rows ++ output.rows) have.represents.no_call_rows)

    module _ (left : CallsView) (tokens : TokensView) (waiting : List Row) (drawn : tokens ≡ record { token = token; drawn = output.tokens.drawn })
        (taken_over : waiting ≡ s.waiting ++ calls.table.rows)
        (dropped : (peers : Peers) (accounts : List AccountIdentity) (ops : List TableOp) → histories.Represents peers accounts calls ops →
        histories.Represents peers accounts left (Drops (length calls.table.rows) ∷ ops))
        (stays_then : (peers : Peers) (accounts : List AccountIdentity) → site_in left peers accounts ≡ site_in calls peers accounts) where
      site_left : site_in left d.peers d.names.accounts ≡ call_config d
      site_left = stays_then d.peers d.names.accounts ∙ site_then

      stand_left : histories.Represents d.peers d.names.accounts left (Drops (length calls.table.rows) ∷ op ∷ w.call_ops)
      stand_left = dropped d.peers d.names.accounts (op ∷ w.call_ops) stand_then

      table_left : left.table ≡ calls_after d (Drops (length output.rows) ∷ op ∷ w.call_ops)
      table_left =
          stand_left.table
          ∙ (ap (λ (t : CallConfigView). table_after t (Drops (length calls.table.rows) ∷ op ∷ w.call_ops)) site_left
          ∙ ap (λ (rows : List Row). calls_after d (Drops (length rows) ∷ op ∷ w.call_ops)) rows_are)

      calls_left : left ≡ calls_of d (after_call_operation op output w)
      calls_left = λ i. record {
        sip = ap (λ (t : CallConfigView). t.sip) site_left i;
        home = ap (λ (t : CallConfigView). t.home) site_left i;
        bound = ap (λ (t : CallConfigView). t.bound) site_left i;
        country = ap (λ (t : CallConfigView). t.country) site_left i;
        reliable = ap (λ (t : CallConfigView). t.reliable) site_left i;
        timer = ap (λ (t : CallConfigView). t.timer) site_left i;
        mwi = ap (λ (t : CallConfigView). t.mwi) site_left i;
        table = table_left i;
        has_failed = stand_left.works i;
      }

      none_left : drop (length output.rows) (table_after (call_config d) (op ∷ w.call_ops)).rows ≡ []
      none_left =
          ap (λ (rows : List Row). drop (length output.rows) rows) (closes ∙ ap (λ (rows : List Row). rows ++ output.rows) have.represents.no_call_rows)
          ∙ drop_all (length output.rows) output.rows (omega arith)

      pub brought : RepresentsWithOffers d token before (record s { calls = left; tokens = tokens; waiting = waiting }) out (after_call_operation op output w)
      brought = record {
        represents = record {
          same_directory = have.represents.same_directory;
          tokens = drawn;
          transactions = have.represents.transactions;
          clock = have.represents.clock;
          steps = have.represents.steps;
          texts = have.represents.texts;
          registered = have.represents.registered;
          calls = calls_left;
          rooms = have.represents.rooms;
          boxes = have.represents.boxes;
          pending_timers = have.represents.pending_timers;
          waiting = taken_over ∙ (ap (λ (rows : List Row). rows ++ calls.table.rows) have.represents.waiting ∙ ap (λ (rows : List Row). w.waiting ++ rows) rows_are);
          no_call_rows = none_left;
          no_conference_rows = have.represents.no_conference_rows;
          unfailed = have.represents.unfailed;
        };
        offers = have.offers;
      }

-- ---- a signal

module _ (told : CallsSeeWhatIsInForce) (seen : CallsSeeRecordsAlone) (draws : NumbersNeverFall)
    (d : Directory) (token : List ℕ) (before out : List Offer) (s : Server) (w : RunState) (have : RepresentsWithOffers d token before s out w) (agrees : SheetsMatchTexts s.records) (at : ℕ) (x : Signal) where
  abbrev peers : Peers
  peers = s.directory.peers

  abbrev accounts : List AccountIdentity
  accounts = s.directory.names.accounts

  -- the records of the server are what is in force in the state
  say_same : HaveSameRecords s.records.view (in_force w.texts w.registrations)
  say_same = record {
    sheets = λ n.
        let account : Account = record { 0 = n } in
        agrees account ∙ (ap (λ (t : Texts). option_map stored_sheet (text_at t account)) have.represents.texts ∙ sym (told w.texts w.registrations account).sheet);
    ends = λ n. let account : Account = record { 0 = n } in have.represents.registered account ∙ sym (told w.texts w.registrations account).ends;
  }

  -- so a signal has the same effect
  moved_same : step_on_receive_after (call_config d) w.call_ops (received_signal at s x) ≡ step_on_receive_after (call_config d) w.call_ops (received_now token at x w)
  moved_same =
      let calls : Table = calls_after d w.call_ops in
      seen (call_config d) at (next_number calls.opened) s.records.view (in_force w.texts w.registrations) x calls.entries (empty_output s.tokens) say_same
      ∙ ap (λ (t : TokensView). step_of_signal (call_config d) at (in_force w.texts w.registrations) (next_number calls.opened) x calls.entries (empty_output t)) have.represents.tokens

  brings : step_on_receive_after (site_in s.calls peers accounts) w.call_ops (received_signal at s x) ≡ step_on_receive_after (call_config d) w.call_ops (received_now token at x w)
  brings = ap (λ (t : CallConfigView). step_on_receive_after t w.call_ops (received_signal at s x)) (site_is d token before out s w have) ∙ moved_same

  module _ (calls left : CallsView) (tokens : TokensView) (emits : List Emit) (waiting : List Row)
      (done : (ops : List TableOp) → histories.Represents peers accounts s.calls ops → histories.Represents peers accounts calls (Receives (received_signal at s x) ∷ ops))
      (sent : (ops : List TableOp) → histories.Represents peers accounts s.calls ops → emits ≡ (step_on_receive_after (site_in s.calls peers accounts) ops (received_signal at s x)).output.out)
      (drew : (ops : List TableOp) → histories.Represents peers accounts s.calls ops → tokens ≡ (step_on_receive_after (site_in s.calls peers accounts) ops (received_signal at s x)).output.tokens)
      (stays : (peers : Peers) (accounts : List AccountIdentity) → site_in calls peers accounts ≡ site_in s.calls peers accounts)
      (taken_over : waiting ≡ s.waiting ++ calls.table.rows)
      (dropped : (peers : Peers) (accounts : List AccountIdentity) (ops : List TableOp) → histories.Represents peers accounts calls ops → histories.Represents peers accounts left (Drops (length calls.table.rows) ∷ ops))
      (stays_then : (peers : Peers) (accounts : List AccountIdentity) → site_in left peers accounts ≡ site_in calls peers accounts) where
    table_same : table_after (call_config d) (Receives (received_signal at s x) ∷ w.call_ops) ≡ table_after (call_config d) (Receives (received_now token at x w) ∷ w.call_ops)
    table_same = ap (λ (m : TableStep). with_step m (opened_after x (calls_after d w.call_ops).opened) (calls_after d w.call_ops)) moved_same

    tokens_are : tokens ≡ record { token = token; drawn = (output_of_signal d token at x w).tokens.drawn }
    tokens_are =
        drew w.call_ops (stand d token before out s w have)
        ∙ (ap (λ (m : TableStep). m.output.tokens) brings
        ∙ ap (λ (t : List ℕ). let r : TokensView = record { token = t; drawn = (output_of_signal d token at x w).tokens.drawn } in r) (draws.calls (call_config d) w.call_ops (received_now token at x w)).same)

    pub hear : (emits ≡ (output_of_signal d token at x w).out) × RepresentsWithOffers d token before (record s { calls = left; tokens = tokens; waiting = waiting }) out
        (after_call_operation (Receives (received_now token at x w)) (output_of_signal d token at x w) w)
    hear = (
      sent w.call_ops (stand d token before out s w have) ∙ ap (λ (m : TableStep). m.output.out) brings,
      brought d token before out s w have (Receives (received_signal at s x)) (Receives (received_now token at x w)) (output_of_signal d token at x w) table_same refl calls done stays left tokens waiting tokens_are
          taken_over dropped stays_then,
    )

-- ---- the end of a call whose leg is detached

module _ (draws : NumbersNeverFall) (d : Directory) (token : List ℕ) (before out : List Offer) (s : Server) (w : RunState) (have : RepresentsWithOffers d token before s out w) (at : ℕ) (call : CallNo) where
  abbrev those : Peers
  those = s.directory.peers

  abbrev known : List AccountIdentity
  known = s.directory.names.accounts

  ends : step_on_finish (site_in s.calls those known) call.0 at s.tokens (table_after (site_in s.calls those known) w.call_ops) ≡ step_on_finish (call_config d) call.0 at (tokens_now token w) (calls_in d w)
  ends =
      ap (λ (t : CallConfigView). step_on_finish t call.0 at s.tokens (table_after t w.call_ops)) (site_is d token before out s w have)
      ∙ ap (λ (t : TokensView). step_on_finish (call_config d) call.0 at t (calls_in d w)) have.represents.tokens

  module _ (calls left : CallsView) (tokens : TokensView) (emits : List Emit) (waiting : List Row)
      (done : (ops : List TableOp) → histories.Represents those known s.calls ops → histories.Represents those known calls (Finishes call.0 at s.tokens ∷ ops))
      (sent : (ops : List TableOp) → histories.Represents those known s.calls ops → emits ≡ (step_on_finish (site_in s.calls those known) call.0 at s.tokens (table_after (site_in s.calls those known) ops)).output.out)
      (drew : (ops : List TableOp) → histories.Represents those known s.calls ops →
      tokens ≡ (step_on_finish (site_in s.calls those known) call.0 at s.tokens (table_after (site_in s.calls those known) ops)).output.tokens)
      (stays : (peers : Peers) (accounts : List AccountIdentity) → site_in calls peers accounts ≡ site_in s.calls peers accounts)
      (taken_over : waiting ≡ s.waiting ++ calls.table.rows)
      (dropped : (peers : Peers) (accounts : List AccountIdentity) (ops : List TableOp) → histories.Represents peers accounts calls ops → histories.Represents peers accounts left (Drops (length calls.table.rows) ∷ ops))
      (stays_then : (peers : Peers) (accounts : List AccountIdentity) → site_in left peers accounts ≡ site_in calls peers accounts) where
    abbrev output : StepOutput
    output = output_at_end d token at call w

    tokens_left : tokens ≡ record { token = token; drawn = output.tokens.drawn }
    tokens_left =
        drew w.call_ops (stand d token before out s w have)
        ∙ (ap (λ (m : TableStep). m.output.tokens) ends
        ∙ ap (λ (t : List ℕ). let r : TokensView = record { token = t; drawn = output.tokens.drawn } in r) (draws.ends (call_config d) w.call_ops call.0 at (tokens_now token w)).same)

    pub end : (emits ≡ output.out) × RepresentsWithOffers d token before (record s { calls = left; tokens = tokens; waiting = waiting }) out (after_call_operation (Finishes call.0 at (tokens_now token w)) output w)
    end = (
      sent w.call_ops (stand d token before out s w have) ∙ ap (λ (m : TableStep). m.output.out) ends,
      brought d token before out s w have (Finishes call.0 at s.tokens) (Finishes call.0 at (tokens_now token w)) output
          (ap (λ (t : TokensView). table_after (call_config d) (Finishes call.0 at t ∷ w.call_ops)) have.represents.tokens) refl calls done stays left tokens waiting tokens_left taken_over dropped stays_then,
    )
