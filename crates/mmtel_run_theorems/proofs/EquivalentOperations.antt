-- Signals to calls and to conferences that are the same but for private places, the other operations on them, and timers, keep two states indistinguishable.
use Rattle.std.proofs.Common.{◌≡◌, ℕ, zero, suc, ◌+◌, Bool, false, ◌&&◌, List, [], ◌∷◌, ◌++◌, length, refl, sym, ap, ◌∙◌, Option, Some, None, subst}
use Rattle.std.specs.Prelude.{if◌then◌else◌, ◌==◌, ◌||◌, is_some, nat_le, nat_lt}
use Rattle.std.specs.Option.{option_map, unwrap_or}
use Rattle.mmtel_b2bua.specs.Operations.{Drops, Finishes, Receives, Releases, Restores, TableOp, step_on_finish, step_on_receive_after, table_after}
use Rattle.mmtel_b2bua.specs.Tables.{Table, snapshot_at}
use Rattle.mmtel_b2bua.specs.declared.signals.Signal.{Signal}
use Rattle.mmtel_b2bua.specs.declared.signals.Signal.TheVariants as signal
use Rattle.mmtel_b2bua_theorems.specs.EquivalentTables.{CallsInvariant, EquivalentEntries, EquivalentTables}
use Rattle.mmtel_b2bua_theorems.specs.Queries.{EquivalentTablesAnswerEqually}
use Rattle.mmtel_b2bua_theorems.specs.Noninterference.{BothFinish, BothReceive, BothRelease, BothRestore, ReceiveEquivalent, TablesCorrespond, TablesStayEquivalent}
use Rattle.mmtel_b2bua_theorems.specs.Signals.{CallersDecidedEqually, SignalIsFromOwnPeer, SignalLooksUpEqually, TableMayReceive, public_signal}
use Rattle.mmtel_output.specs.ResponseMatching.{behind_cookie, timed_out_branch}
use Rattle.mmtel_call_theorems.specs.Noninterference.PublicCall.{public_released}
use Rattle.mmtel_call_theorems.specs.Noninterference.Premises.{IsAmong, RecordsCoverSnapshot}
use Rattle.mmtel_call_theorems.specs.Noninterference.Roles.{Plain, Role}
use Rattle.mmtel_call_theorems.specs.Noninterference.Observations.{EquivalentOutputs, Trust, observations, trust_of}
use Rattle.mmtel_charging.specs.declared.rows.Row.{Row}
use Rattle.mmtel_output.specs.declared.outputs.StepOutput.{StepOutput}
use Rattle.mmtel_directory.specs.declared.directories.Directory.{Directory}
use Rattle.mmtel_focus.specs.Operations as rooms
use Rattle.mmtel_focus.specs.declared.signals.RoomSignal.{RoomSignal}
use Rattle.mmtel_focus_theorems.specs.Queries.{EquivalentRoomsAnswerEqually}
use Rattle.mmtel_focus_theorems.specs.Configurations as directories
use Rattle.mmtel_focus_theorems.specs.Inputs as both
use Rattle.mmtel_focus_theorems.specs.Noninterference as alike
use Rattle.mmtel_leg.specs.declared.legs.Released.{Released}
use Rattle.mmtel_records_in_force.specs.Texts.{Registrations, Texts}
use Rattle.mmtel_environment.specs.declared.events.Offer.{Offer}
use Rattle.mmtel_environment.specs.declared.events.Offer.TheVariants as offer
use Rattle.mmtel_rules.specs.declared.values.Identities2.{Identities2}
use Rattle.mmtel_sheet_grammar.specs.Texts.{stored_sheet}
use Rattle.mmtel_sheet_texts.specs.Texts.{text_at}
use Rattle.mmtel_sheet_values.specs.Sheets.{empty_sheet}
use Rattle.mmtel_sheet_values.specs.View.{SheetsInForce}
use Rattle.mmtel_sheet_values.specs.declared.values.Sheet.{Sheet}
use Rattle.mmtel_transaction.specs.Equivalence.{Equivalent, TextsDecideNothing, blank_due, blank_if, next_key}
use Rattle.mmtel_transaction.specs.Results.{DueEntryView, after_firing, due_result, next_due, upcoming_of}
use Rattle.mmtel_transaction.specs.Operations.{TransactionOp, DidBegin, DidFire, live}
use Rattle.mmtel_transaction.specs.Tokens.{TokensView}
use Rattle.mmtel_transaction.specs.declared.words.Due.{Due}
use Rattle.mmtel_transaction.specs.declared.words.DueWord.{DueWord}
use Rattle.mmtel_transaction.specs.declared.words.Due.TheVariants as due
use Rattle.mmtel_transaction.specs.declared.words.TKey.{TKey}
use Rattle.mmtel_types.specs.declared.numbers.Account.{Account}
use Rattle.mmtel_types.specs.declared.numbers.CallNo.{CallNo}
use Rattle.mmtel_types.specs.declared.numbers.Peer.{Peer}
use Rattle.mmtel_types.specs.declared.numbers.RoomNo.{RoomNo}
use Rattle.mmtel_types.specs.declared.sides.Side.{Side}
use Rattle.mmtel_mwi.specs.Boxes as mailboxes
use Rattle.mmtel_run_definitions.specs.Equivalence.{trusts}
use Rattle.mmtel_run_definitions.specs.Calls.{call_config}
use Rattle.mmtel_run_definitions.specs.Deadlines.{Deadline, FirstTimer, OfCall, OfParticipant, OfServiceTimer, OfSubscription, OfTransaction, PendingTimer, ServiceTimer, first_deadline, first_due_timer}
use Rattle.mmtel_run_definitions.specs.InForce.{CallsSeeWhatIsInForce}
use Rattle.mmtel_run_definitions.specs.Records.{in_force}
use Rattle.mmtel_run_definitions.specs.Ownership.{OfCalls, OfConferences, OfSubscriptions, Owner, calls_or_conferences, conference_config, is_of_calls, is_of_subscriptions, owner_of, owner_of_branch, owner_of_key}
use Rattle.mmtel_run_definitions.specs.Run.{after_deadline_if, after_due_deadlines, after_one_deadline, first_due_deadline}
use Rattle.mmtel_run_definitions.specs.View.{view}
use Rattle.mmtel_run_definitions.specs.Transitions.{RunState, after_service_timer, with_next_step, with_call_output, calls_in, output_of_conference_op, after_transaction_end, after_deadline}
use Rattle.mmtel_run_definitions.specs.Transitions.{after_transaction_timer, after_call_end, conference_signal_op, received_now, after_conference_op, with_call_op, with_conference_output, after_refer_notify}
use Rattle.mmtel_run_definitions.specs.Transitions.{with_offers, conferences_in, after_due, after_conference_signal, after_call_signal, after_request_timeout, tokens_now, subscriptions_in}
use Rattle.mmtel_run_theorems.specs.EquivalentStates.{AreAmong, EquivalentConfigs}
use Rattle.mmtel_run_theorems.proofs.EquivalentMailboxes.{after_notify_response-equivalent, box_due-alike}
use Rattle.mmtel_run_theorems.proofs.EquivalentEmits.{Knows, Pair, acting-equivalent, one_offer, with_emits-equivalent, with_offers-equivalent}
use Rattle.mmtel_run_theorems.proofs.ActionPrefixes.{settled_before}

-- a table without the CDRs that wait
abbrev pub bare : Table → Table
bare table = record table { rows = [] }

-- what is proved of the tables, besides what they preserve
pub record TableTheorems : Type 0 where
  pub answers : EquivalentTablesAnswerEqually
  pub conferences : alike.TablesStayEquivalent
  pub seen : alike.OperationsAreSeenEqually
  pub participants : EquivalentRoomsAnswerEqually

-- ---- the records in force are among those of the run

module _ (told : CallsSeeWhatIsInForce) (records : List Sheet) where
  sheet_by : (texts : Texts) (account : Account) (o : Option (List ℕ)) → AreAmong records texts → text_at texts account ≡ o →
      IsAmong records (unwrap_or (option_map stored_sheet o) empty_sheet)
  sheet_by texts account None a e = a.none
  sheet_by texts account (Some text) a e = a.each account text e

  pub all_stand : (texts : Texts) (registrations : Registrations) (at : ℕ) (busy : List Account) → AreAmong records texts →
      RecordsCoverSnapshot records (snapshot_at at (in_force texts registrations) busy)
  all_stand texts registrations at busy a = record {
    each = λ account. subst (λ (o : Option Sheet). IsAmong records (unwrap_or o empty_sheet)) (sym (told texts registrations account).sheet) (sheet_by texts account (text_at texts account) a refl);
    none = a.none;
  }

module _ (law : TextsDecideNothing) (tables : TablesStayEquivalent) (told : CallsSeeWhatIsInForce) (laws : TableTheorems) (records : List Sheet) (d e : Directory) (token : List ℕ) (keys : TKey → Bool)
    (sites : EquivalentConfigs records d e)
    (K : List TransactionOp → Type 0) (older : (x : TransactionOp) (h : List TransactionOp) → K (x ∷ h) → K h) (knows : (h : List TransactionOp) → K h → Knows d keys h) where
  abbrev pub S : Trust
  S = trust_of (call_config d) keys

  abbrev pub Two : RunState → RunState → Type 0
  Two v w = Pair records d e keys v w

  abbrev pub view_in : RunState → SheetsInForce
  view_in w = in_force w.texts w.registrations

  -- ---- tables

  pub tables_equivalent : (v w : RunState) → Two v w → EquivalentTables records (trusts d) (bare (calls_in d v)) (bare (calls_in e w))
  tables_equivalent v w a = record { entries = a.equivalent.calls; opened = a.equivalent.opened; rows = refl }

  stands_equivalent : (v w : RunState) → Two v w → TablesCorrespond records (call_config d) keys (bare (calls_in d v)) (bare (calls_in e w))
  stands_equivalent v w a = record { equivalent = tables_equivalent v w a; one = a.one; other = a.other }

  pub tokens_same : (v w : RunState) → Two v w → tokens_now token v ≡ tokens_now token w
  tokens_same v w a = ap (λ (n : ℕ). record { token = token; drawn = n }) a.equivalent.drawn

  pub branches_equivalent : (invite branch : Option (List ℕ)) (v w : RunState) → Two v w →
      owner_of_branch invite branch (calls_in d v).entries (subscriptions_in v) ≡ owner_of_branch invite branch (calls_in e w).entries (subscriptions_in w)
  branches_equivalent invite branch v w a =
      ap (λ (o : Option ℕ). owner_of (is_some o) (is_of_subscriptions branch (subscriptions_in v))) (laws.answers.sent records (trusts d) invite (bare (calls_in d v)) (bare (calls_in e w)) (tables_equivalent v w a))
      ∙ ap (λ (table : mailboxes.Table). owner_of (is_of_calls invite (calls_in e w).entries) (is_of_subscriptions branch table)) a.equivalent.subscriptions

  key_same : (key : TKey) (v w : RunState) → Two v w → owner_of_key key (calls_in d v).entries ≡ owner_of_key key (calls_in e w).entries
  key_same key v w a = ap (λ (o : Option ℕ). calls_or_conferences (is_some o)) (laws.answers.answered records (trusts d) key (bare (calls_in d v)) (bare (calls_in e w)) (tables_equivalent v w a))

  -- ---- operations on the calls

  -- the calls after these operations
  abbrev after : Directory → TableOp → RunState → Table
  after x op u = table_after (call_config x) (op ∷ u.call_ops)

  with_call_output-equivalent : (at : ℕ) (x y : TableOp) (output other : StepOutput) (v w : RunState) → Two v w → EquivalentEntries records (trusts d) (after d x v).entries (after e y w).entries →
      (after d x v).opened ≡ (after e y w).opened →
      CallsInvariant records S (after d x v).entries → CallsInvariant records S (after e y w).entries → EquivalentOutputs S output other → K (with_call_output at y other w).actions →
      Two (with_call_output at x output v) (with_call_output at y other w)
  with_call_output-equivalent at x y output other v w a entries opened one two step_outputs_equivalent k =
      with_emits-equivalent law records d e keys K older knows at output.out other.out
      (record v { call_ops = Drops (length output.rows) ∷ x ∷ v.call_ops; drawn = output.tokens.drawn; waiting = v.waiting ++ output.rows })
      (record w { call_ops = Drops (length other.rows) ∷ y ∷ w.call_ops; drawn = other.tokens.drawn; waiting = w.waiting ++ other.rows }) k step_outputs_equivalent.out
      (record {
        equivalent = record {
          clock = a.equivalent.clock;
          steps = a.equivalent.steps;
          actions = a.equivalent.actions;
          drawn = ap (λ (t : TokensView). t.drawn) step_outputs_equivalent.tokens;
          calls = entries;
          opened = opened;
          conferences = a.equivalent.conferences;
          subscriptions = a.equivalent.subscriptions;
          pending_timers = a.equivalent.pending_timers;
          texts = a.equivalent.texts;
          registrations = a.equivalent.registrations;
          seen = a.equivalent.seen;
        };
        one = one;
        other = two;
        among = a.among;
      })

  -- a leg is taken out, or put back
  with_call_op-equivalent : (x y : TableOp) (v w : RunState) → Two v w → EquivalentEntries records (trusts d) (after d x v).entries (after e y w).entries → (after d x v).opened ≡ (after e y w).opened →
      CallsInvariant records S (after d x v).entries → CallsInvariant records S (after e y w).entries → Two (with_call_op x v) (with_call_op y w)
  with_call_op-equivalent x y v w a entries opened one two = record {
    equivalent = record {
      clock = a.equivalent.clock;
      steps = a.equivalent.steps;
      actions = a.equivalent.actions;
      drawn = a.equivalent.drawn;
      calls = entries;
      opened = opened;
      conferences = a.equivalent.conferences;
      subscriptions = a.equivalent.subscriptions;
      pending_timers = a.equivalent.pending_timers;
      texts = a.equivalent.texts;
      registrations = a.equivalent.registrations;
      seen = a.equivalent.seen;
    };
    one = one;
    other = two;
    among = a.among;
  }

  pub releasing-equivalent : (number : ℕ) (side : Side) (v w : RunState) → Two v w → Two (with_call_op (Releases number side) v) (with_call_op (Releases number side) w)
  releasing-equivalent number side v w a =
      let s = tables.operations records (call_config d) (call_config e) keys (BothRelease number side) (bare (calls_in d v)) (bare (calls_in e w)) sites.configured (stands_equivalent v w a) tt in
      with_call_op-equivalent (Releases number side) (Releases number side) v w a s.equivalent.entries s.equivalent.opened s.one s.other

  pub restoring-equivalent : (number : ℕ) (one other : Released) (v w : RunState) → public_released (trusts d) one ≡ public_released (trusts d) other → Two v w →
      Two (with_call_op (Restores number one) v) (with_call_op (Restores number other) w)
  restoring-equivalent number one other v w same a =
      let s = tables.operations records (call_config d) (call_config e) keys (BothRestore number one other) (bare (calls_in d v)) (bare (calls_in e w)) sites.configured (stands_equivalent v w a) same in
      with_call_op-equivalent (Restores number one) (Restores number other) v w a s.equivalent.entries s.equivalent.opened s.one s.other

  -- a call ends without its detached leg
  abbrev after_call_end_by : Directory → (at : ℕ) → CallNo → TokensView → RunState → RunState
  after_call_end_by x at call tokens u = with_call_output at (Finishes call.0 at tokens) (step_on_finish (call_config x) call.0 at tokens (calls_in x u)).output u

  pub after_call_end-equivalent : (at : ℕ) (call : CallNo) (v w : RunState) → Two v w → K (after_call_end e token at call w).actions → Two (after_call_end d token at call v) (after_call_end e token at call w)
  after_call_end-equivalent at call v w a k =
      let tokens : TokensView = tokens_now token w in
      let s = tables.operations records (call_config d) (call_config e) keys (BothFinish call.0 at tokens) (bare (calls_in d v)) (bare (calls_in e w)) sites.configured (stands_equivalent v w a) tt in
      let step_outputs_equivalent = tables.ends records (call_config d) (call_config e) keys call.0 at tokens (bare (calls_in d v)) (bare (calls_in e w)) sites.configured (stands_equivalent v w a) in
      subst (λ (t : TokensView). Two (after_call_end_by d at call t v) (after_call_end e token at call w)) (sym (tokens_same v w a))
      (with_call_output-equivalent at (Finishes call.0 at tokens) (Finishes call.0 at tokens) (step_on_finish (call_config d) call.0 at tokens (calls_in d v)).output
      (step_on_finish (call_config e) call.0 at tokens (calls_in e w)).output v w a
      s.equivalent.entries s.equivalent.opened s.one s.other step_outputs_equivalent k)

  -- ---- operations on the conferences

  rooms_equal : directories.EqualButForAccounts (conference_config d) (conference_config e)
  rooms_equal = record {
    sip = sites.equal.sip;
    mixer = sites.equal.mixer;
    methods = λ i. record { reliable = sites.equal.reliable i; mwi = sites.equal.mwi i };
    peers = sites.equal.peers;
  }

  with_drawn : (i j : ℕ) (v w : RunState) → i ≡ j → Two v w → Two (record v { drawn = i }) (record w { drawn = j })
  with_drawn i j v w same a = record {
    equivalent = record {
      clock = a.equivalent.clock;
      steps = a.equivalent.steps;
      actions = a.equivalent.actions;
      drawn = same;
      calls = a.equivalent.calls;
      opened = a.equivalent.opened;
      conferences = a.equivalent.conferences;
      subscriptions = a.equivalent.subscriptions;
      pending_timers = a.equivalent.pending_timers;
      texts = a.equivalent.texts;
      registrations = a.equivalent.registrations;
      seen = a.equivalent.seen;
    };
    one = a.one;
    other = a.other;
    among = a.among;
  }

  -- they leave the conferences indistinguishable, and the same is observed of their output
  abbrev pub Houses : both.OpPair → RunState → RunState → Type 0
  Houses x v w = alike.AreEquivalentIn (conference_config d) (conference_config e) keys x (conferences_in d v) (conferences_in e w)

  outputs_equivalent : (x : both.OpPair) (v w : RunState) → Two v w → Houses x v w → EquivalentOutputs S (output_of_conference_op d (both.one_op x) v) (output_of_conference_op e (both.other_op x) w)
  outputs_equivalent x v w a does = (laws.seen.operations (conference_config d) (conference_config e) keys x (conferences_in d v) (conferences_in e w) rooms_equal a.equivalent.conferences does).output

  -- the CDRs are removed
  dropped_equivalent : (x : both.OpPair) (n m : ℕ) (v w : RunState) → Two v w → Houses x v w → n ≡ m →
      alike.EquivalentConferences (trusts d) (rooms.table_after (conference_config d) (rooms.Drops n ∷ both.one_op x ∷ v.conference_ops))
      (rooms.table_after (conference_config e) (rooms.Drops m ∷ both.other_op x ∷ w.conference_ops))
  dropped_equivalent x n m v w a does same =
      subst (λ (i : ℕ). alike.EquivalentConferences (trusts d) (rooms.table_after (conference_config d) (rooms.Drops n ∷ both.one_op x ∷ v.conference_ops))
      (rooms.table_after (conference_config e) (rooms.Drops i ∷ both.other_op x ∷ w.conference_ops))) same
      (laws.conferences.operations (conference_config d) (conference_config e) keys (both.Drops n) (rooms.table_after (conference_config d) (both.one_op x ∷ v.conference_ops))
      (rooms.table_after (conference_config e) (both.other_op x ∷ w.conference_ops)) rooms_equal
      (laws.conferences.operations (conference_config d) (conference_config e) keys x (conferences_in d v) (conferences_in e w) rooms_equal a.equivalent.conferences does) (record { done = tt; lookups = tt }))

  lodged : (at : ℕ) (x : both.OpPair) (output other : StepOutput) (v w : RunState) → Two v w → Houses x v w → EquivalentOutputs S output other → K (with_conference_output at (both.other_op x) other w).actions →
      Two (with_conference_output at (both.one_op x) output v) (with_conference_output at (both.other_op x) other w)
  lodged at x output other v w a does step_outputs_equivalent k =
      with_emits-equivalent law records d e keys K older knows at output.out other.out
      (record v { conference_ops = rooms.Drops (length output.rows) ∷ both.one_op x ∷ v.conference_ops; waiting = v.waiting ++ output.rows })
      (record w { conference_ops = rooms.Drops (length other.rows) ∷ both.other_op x ∷ w.conference_ops; waiting = w.waiting ++ other.rows }) k step_outputs_equivalent.out
      (record {
        equivalent = record {
          clock = a.equivalent.clock;
          steps = a.equivalent.steps;
          actions = a.equivalent.actions;
          drawn = a.equivalent.drawn;
          calls = a.equivalent.calls;
          opened = a.equivalent.opened;
          conferences = dropped_equivalent x (length output.rows) (length other.rows) v w a does (ap (λ (rows : List Row). length rows) step_outputs_equivalent.rows);
          subscriptions = a.equivalent.subscriptions;
          pending_timers = a.equivalent.pending_timers;
          texts = a.equivalent.texts;
          registrations = a.equivalent.registrations;
          seen = a.equivalent.seen;
        };
        one = a.one;
        other = a.other;
        among = a.among;
      })

  pub lodging-alike : (at : ℕ) (x : both.OpPair) (v w : RunState) → Two v w → Houses x v w → K (with_conference_output at (both.other_op x) (output_of_conference_op e (both.other_op x) w) w).actions
      → Two (with_conference_output at (both.one_op x) (output_of_conference_op d (both.one_op x) v) v) (with_conference_output at (both.other_op x) (output_of_conference_op e (both.other_op x) w) w)
  lodging-alike at x v w a does k = lodged at x (output_of_conference_op d (both.one_op x) v) (output_of_conference_op e (both.other_op x) w) v w a does (outputs_equivalent x v w a does) k

  pub after_conference_op-equivalent : (at : ℕ) (x : both.OpPair) (v w : RunState) → Two v w → Houses x v w → K (after_conference_op e at (both.other_op x) w).actions →
      Two (after_conference_op d at (both.one_op x) v) (after_conference_op e at (both.other_op x) w)
  after_conference_op-equivalent at x v w a does k =
      let one : StepOutput = output_of_conference_op d (both.one_op x) v in
      let other : StepOutput = output_of_conference_op e (both.other_op x) w in
      let step_outputs_equivalent : EquivalentOutputs S one other = outputs_equivalent x v w a does in
      lodged at x one other (record v { drawn = one.tokens.drawn }) (record w { drawn = other.tokens.drawn })
      (with_drawn one.tokens.drawn other.tokens.drawn v w (ap (λ (t : TokensView). t.drawn) step_outputs_equivalent.tokens) a) does step_outputs_equivalent k

  -- the conferences receive two signals
  abbrev after_conference_signal_by : Directory → (at : ℕ) → RoomSignal → TokensView → RunState → RunState
  after_conference_signal_by x at s tokens u = after_conference_op x at (rooms.Receives (record { at = at; tokens = tokens; signal = s })) u

  pub seated-alike : (at : ℕ) (x : both.SignalPair) (v w : RunState) → Two v w → both.AreReceived S x (conferences_in d v) (conferences_in e w) →
      directories.SignalLooksUpEqually (conference_config d) (conference_config e) (both.other_signal x)
      → K (after_conference_signal e token at (both.other_signal x) w).actions → Two (after_conference_signal d token at (both.one_signal x) v) (after_conference_signal e token at (both.other_signal x) w)
  seated-alike at x v w a received looks k =
      subst (λ (t : TokensView). Two (after_conference_signal_by d at (both.one_signal x) t v) (after_conference_signal e token at (both.other_signal x) w)) (sym (tokens_same v w a))
      (after_conference_op-equivalent at (both.Receives at (tokens_now token w) x) v w a (record { done = received; lookups = looks }) k)

  -- the same is observed of the output
  pub seen-equivalent : (at : ℕ) (x : both.SignalPair) (v w : RunState) → Two v w → both.AreReceived S x (conferences_in d v) (conferences_in e w) →
      directories.SignalLooksUpEqually (conference_config d) (conference_config e) (both.other_signal x)
      → observations S (output_of_conference_op d (conference_signal_op token at (both.one_signal x) v) v).out ≡ observations S (output_of_conference_op e (conference_signal_op token at (both.other_signal x) w) w).out
  seen-equivalent at x v w a received looks =
      subst (λ (t : TokensView). observations S (output_of_conference_op d (rooms.Receives (record { at = at; tokens = t; signal = both.one_signal x })) v).out
      ≡ observations S (output_of_conference_op e (conference_signal_op token at (both.other_signal x) w) w).out)
      (sym (tokens_same v w a)) (outputs_equivalent (both.Receives at (tokens_now token w) x) v w a (record { done = received; lookups = looks })).out

  -- a participant is notified of a status
  abbrev after_refer_notify_by : Directory → (at : ℕ) → RoomNo → (seat code : ℕ) → TokensView → RunState → RunState
  after_refer_notify_by x at room seat code tokens u = after_conference_op x at (rooms.Notifies room.0 seat code tokens) u

  pub after_refer_notify-equivalent : (at : ℕ) (room : RoomNo) (seat code : ℕ) (v w : RunState) → Two v w → K (after_refer_notify e token at room seat code w).actions →
      Two (after_refer_notify d token at room seat code v) (after_refer_notify e token at room seat code w)
  after_refer_notify-equivalent at room seat code v w a k =
      subst (λ (t : TokensView). Two (after_refer_notify_by d at room seat code t v) (after_refer_notify e token at room seat code w)) (sym (tokens_same v w a))
      (after_conference_op-equivalent at (both.Notifies room.0 seat code (tokens_now token w)) v w a (record { done = tt; lookups = tt }) k)

  -- ---- signals

  -- two signals that are the same but for private places, each with the role that it should have
  pub record Says (at : ℕ) (x y : Signal) (r s : Role) (v w : RunState) : Type 0 where
    pub public : public_signal r x ≡ public_signal s y
    pub callers : CallersDecidedEqually records x y
    pub looks : SignalLooksUpEqually (call_config d) (call_config e) s y
    pub first : TableMayReceive S (snapshot_at at (view_in v) []) r x (calls_in d v).entries
    pub second : TableMayReceive S (snapshot_at at (view_in w) []) s y (calls_in e w).entries
    pub asks : SignalIsFromOwnPeer S x
    pub asks_too : SignalIsFromOwnPeer S y

  module _ (at : ℕ) (x y : Signal) (r s : Role) (v w : RunState) (a : Two v w) (says : Says at x y r s v w) where
    among_first : AreAmong records v.texts
    among_first = subst (AreAmong records) (sym a.equivalent.texts) a.among

    receive : ReceiveEquivalent records (call_config d) (call_config e) keys (record { received = received_now token at x v; role = r }) (record { received = received_now token at y w; role = s })
        (bare (calls_in d v)) (bare (calls_in e w))
    receive = record {
      at = refl;
      view = ap (λ (t : Texts). in_force t v.registrations) a.equivalent.texts ∙ ap (in_force w.texts) a.equivalent.registrations;
      tokens = ap (λ (n : ℕ). record { token = token; drawn = n }) a.equivalent.drawn;
      signals = says.public;
      callers = says.callers;
      lookups = says.looks;
      covered = λ busy. all_stand told records v.texts v.registrations at busy among_first;
      first = says.first;
      second = says.second;
      first_peer = says.asks;
      second_peer = says.asks_too;
    }

    stands : TablesCorrespond records (call_config d) keys (bare (calls_in d v)) (bare (calls_in e w))
    stands = stands_equivalent v w a

    step_outputs_equivalent : EquivalentOutputs S (step_on_receive_after (call_config d) v.call_ops (received_now token at x v)).output
        (step_on_receive_after (call_config e) w.call_ops (received_now token at y w)).output
    step_outputs_equivalent = tables.signals records (call_config d) (call_config e) keys (record { received = received_now token at x v; role = r })
        (record { received = received_now token at y w; role = s }) (bare (calls_in d v)) (bare (calls_in e w)) sites.configured stands receive

    pub signalled-alike : K (after_call_signal e token at y w).actions → Two (after_call_signal d token at x v) (after_call_signal e token at y w)
    signalled-alike k =
        let stood = tables.operations records (call_config d) (call_config e) keys
        (BothReceive (record { received = received_now token at x v; role = r }) (record { received = received_now token at y w; role = s })) (bare (calls_in d v))
        (bare (calls_in e w)) sites.configured stands receive in
        with_call_output-equivalent at (Receives (received_now token at x v)) (Receives (received_now token at y w))
        (step_on_receive_after (call_config d) v.call_ops (received_now token at x v)).output (step_on_receive_after (call_config e) w.call_ops (received_now token at y w)).output v w a
        stood.equivalent.entries stood.equivalent.opened stood.one stood.other step_outputs_equivalent k

  -- ---- signals without a message

  none_said : (who : Identities2) → None ≡ Some who → ⊥
  none_said who same = cc

  silent_says : (at : ℕ) (branch method : List ℕ) (v w : RunState) → Says at (signal.Silent branch method) (signal.Silent branch method) Plain Plain v w
  silent_says at branch method v w = record {
    public = refl;
    callers = λ who second x y. absurd (none_said who x);
    looks = tt;
    first = λ place i p g. tt;
    second = λ place i p g. tt;
    asks = tt;
    asks_too = tt;
  }

  over_says : (at : ℕ) (key : TKey) (v w : RunState) → Says at (signal.Over key) (signal.Over key) Plain Plain v w
  over_says at key v w = record {
    public = refl;
    callers = λ who second x y. absurd (none_said who x);
    looks = tt;
    first = λ place i p g. tt;
    second = λ place i p g. tt;
    asks = tt;
    asks_too = tt;
  }

  due_says : (at : ℕ) (call : CallNo) (what : DueWord) (v w : RunState) → Says at (signal.Due call what) (signal.Due call what) Plain Plain v w
  due_says at call what v w = record {
    public = refl;
    callers = λ who second x y. absurd (none_said who x);
    looks = tt;
    first = λ place i p g. tt;
    second = λ place i p g. tt;
    asks = tt;
    asks_too = tt;
  }

  -- ---- the owner of a request receives that it has no response, or that a transaction ended

  -- the calls, the subscriptions, or else the conferences
  after_request_timeout-equivalent : (at : ℕ) (branch method : List ℕ) (whose : Owner) (v w : RunState) → K (after_request_timeout e token at branch method whose w).actions → Two v w →
      Two (after_request_timeout d token at branch method whose v) (after_request_timeout e token at branch method whose w)
  after_request_timeout-equivalent at branch method OfCalls v w k a = signalled-alike at (signal.Silent branch method) (signal.Silent branch method) Plain Plain v w a (silent_says at branch method v w) k
  after_request_timeout-equivalent at branch method OfSubscriptions v w k a = after_notify_response-equivalent law records d e token keys sites K older knows (behind_cookie branch) 408 v w a
  after_request_timeout-equivalent at branch method OfConferences v w k a = seated-alike at (both.Silent branch method) v w a tt tt k

  after_transaction_end-equivalent : (at : ℕ) (key : TKey) (whose : Owner) (v w : RunState) → K (after_transaction_end e token at key whose w).actions → Two v w →
      Two (after_transaction_end d token at key whose v) (after_transaction_end e token at key whose w)
  after_transaction_end-equivalent at key OfCalls v w k a = signalled-alike at (signal.Over key) (signal.Over key) Plain Plain v w a (over_says at key v w) k
  after_transaction_end-equivalent at key OfSubscriptions v w k a = a
  after_transaction_end-equivalent at key OfConferences v w k a = seated-alike at (both.Over key) v w a tt tt k

  -- ---- timers

  abbrev offers_due : Due → List Offer
  offers_due (due.Again peer at text) = offer.To peer at text ∷ []
  offers_due (due.Silent key branch method at) = []
  offers_due (due.Over key at) = []
  offers_due due.Nothing = []

  -- what an untrusted peer observes of it is what it observes without those texts
  due_seen : (p : Peer) (x : Due) → trusts d p ≡ false → view p (offers_due (blank_due (trusts d) x)) ≡ view p (offers_due x)
  due_seen p (due.Again peer at text) strange = one_offer d p peer at (blank_if (trusts d peer) text) text strange (λ s. ap (λ (b : Bool). blank_if b text) s)
  due_seen p (due.Silent key branch method at) strange = refl
  due_seen p (due.Over key at) strange = refl
  due_seen p due.Nothing strange = refl

  again-equivalent : (x y : Due) (v w : RunState) → blank_due (trusts d) x ≡ blank_due (trusts d) y → Two v w → Two (with_offers (offers_due x) v) (with_offers (offers_due y) w)
  again-equivalent x y v w s a =
      with_offers-equivalent law records d e keys K older knows (offers_due x) (offers_due y) v w (λ p strange. sym (due_seen p x strange) ∙ (ap (λ (z : Due). view p (offers_due z)) s ∙ due_seen p y strange)) a

  abbrev key_due : Due → TKey
  key_due (due.Again peer at text) = record { 0 = 0 }
  key_due (due.Silent key branch method at) = key
  key_due (due.Over key at) = key
  key_due due.Nothing = record { 0 = 0 }

  abbrev branch_due : Due → List ℕ
  branch_due (due.Again peer at text) = []
  branch_due (due.Silent key branch method at) = branch
  branch_due (due.Over key at) = []
  branch_due due.Nothing = []

  abbrev method_due : Due → List ℕ
  method_due (due.Again peer at text) = []
  method_due (due.Silent key branch method at) = method
  method_due (due.Over key at) = []
  method_due due.Nothing = []

  abbrev moment_due : Due → ℕ
  moment_due (due.Again peer at text) = 0
  moment_due (due.Silent key branch method at) = at
  moment_due (due.Over key at) = at
  moment_due due.Nothing = 0

  abbrev silent_in : Directory → (at : ℕ) → (branch method : List ℕ) → RunState → RunState
  silent_in x at branch method u = after_request_timeout x token at branch method (owner_of_branch (timed_out_branch branch method) (behind_cookie branch) (calls_in x u).entries (subscriptions_in u)) u

  after_due_silent : (i j : ℕ) (branch other method way : List ℕ) (v w : RunState) → i ≡ j → branch ≡ other → method ≡ way → K (silent_in e j other way w).actions → Two v w →
      Two (silent_in d i branch method v) (silent_in e j other way w)
  after_due_silent i j branch other method way v w moment one two k a =
      subst (λ (n : ℕ). Two (silent_in d n branch method v) (silent_in e j other way w)) (sym moment)
      (subst (λ (b : List ℕ). Two (silent_in d j b method v) (silent_in e j other way w)) (sym one)
      (subst (λ (m : List ℕ). Two (silent_in d j other m v) (silent_in e j other way w)) (sym two)
      (subst (λ (whose : Owner). Two (after_request_timeout d token j other way whose v) (silent_in e j other way w)) (sym (branches_equivalent (timed_out_branch other way) (behind_cookie other) v w a))
      (after_request_timeout-equivalent j other way (owner_of_branch (timed_out_branch other way) (behind_cookie other) (calls_in e w).entries (subscriptions_in w)) v w k a))))

  abbrev over_in : Directory → (at : ℕ) → TKey → RunState → RunState
  over_in x at key u = after_transaction_end x token at key (owner_of_key key (calls_in x u).entries) u

  after_due_over : (i j : ℕ) (key other : TKey) (v w : RunState) → i ≡ j → key ≡ other → K (over_in e j other w).actions → Two v w → Two (over_in d i key v) (over_in e j other w)
  after_due_over i j key other v w moment one k a =
      subst (λ (n : ℕ). Two (over_in d n key v) (over_in e j other w)) (sym moment)
      (subst (λ (x : TKey). Two (over_in d j x v) (over_in e j other w)) (sym one)
      (subst (λ (whose : Owner). Two (after_transaction_end d token j other whose v) (over_in e j other w)) (sym (key_same other v w a))
      (after_transaction_end-equivalent j other (owner_of_key other (calls_in e w).entries) v w k a)))

  after_due-equivalent : (x y : Due) (v w : RunState) → blank_due (trusts d) x ≡ blank_due (trusts d) y → K (after_due e token y w).actions → Two v w → Two (after_due d token x v) (after_due e token y w)
  after_due-equivalent (due.Again p i t) (due.Again q j u) v w s k a = again-equivalent (due.Again p i t) (due.Again q j u) v w s a
  after_due-equivalent (due.Again p i t) (due.Silent l other way j) v w s k a = absurd cc
  after_due-equivalent (due.Again p i t) (due.Over l j) v w s k a = absurd cc
  after_due-equivalent (due.Again p i t) due.Nothing v w s k a = absurd cc
  after_due-equivalent (due.Silent x branch method i) (due.Again q j u) v w s k a = absurd cc
  after_due-equivalent (due.Silent x branch method i) (due.Silent l other way j) v w s k a = after_due_silent i j branch other method way v w (ap moment_due s) (ap branch_due s) (ap method_due s) k a
  after_due-equivalent (due.Silent x branch method i) (due.Over l j) v w s k a = absurd cc
  after_due-equivalent (due.Silent x branch method i) due.Nothing v w s k a = absurd cc
  after_due-equivalent (due.Over x i) (due.Again q j u) v w s k a = absurd cc
  after_due-equivalent (due.Over x i) (due.Silent l other way j) v w s k a = absurd cc
  after_due-equivalent (due.Over x i) (due.Over l j) v w s k a = after_due_over i j x l v w (ap moment_due s) (ap key_due s) k a
  after_due-equivalent (due.Over x i) due.Nothing v w s k a = absurd cc
  after_due-equivalent due.Nothing (due.Again q j u) v w s k a = absurd cc
  after_due-equivalent due.Nothing (due.Silent l other way j) v w s k a = absurd cc
  after_due-equivalent due.Nothing (due.Over l j) v w s k a = absurd cc
  after_due-equivalent due.Nothing due.Nothing v w s k a = a

  -- the same timer fires
  abbrev after_firing_key : List TransactionOp → Option ℕ → List TransactionOp
  after_firing_key h None = h
  after_firing_key h (Some k) = DidFire k ∷ h

  after_firing_as : (o : Option DueEntryView) (h : List TransactionOp) → after_firing h o ≡ after_firing_key h (next_key o)
  after_firing_as None h = refl
  after_firing_as (Some n) h = refl

  after_firing_equivalent : (k : Option ℕ) (g h : List TransactionOp) → Equivalent (trusts d) g h → Equivalent (trusts d) (after_firing_key g k) (after_firing_key h k)
  after_firing_equivalent None g h a = a
  after_firing_equivalent (Some k) g h a = ((law (trusts d) g h a).1).fires k

  pub with_next_step-equivalent : (v w : RunState) → Two v w → Two (with_next_step v) (with_next_step w)
  with_next_step-equivalent v w a = record {
    equivalent = record {
      clock = a.equivalent.clock;
      steps = ap (λ (n : ℕ). n + 1) a.equivalent.steps;
      actions = subst (λ (n : ℕ). Equivalent (trusts d) (DidBegin v.steps ∷ v.actions) (DidBegin n ∷ w.actions)) a.equivalent.steps (((law (trusts d) v.actions w.actions a.equivalent.actions).1).begins v.steps);
      drawn = a.equivalent.drawn;
      calls = a.equivalent.calls;
      opened = a.equivalent.opened;
      conferences = a.equivalent.conferences;
      subscriptions = a.equivalent.subscriptions;
      pending_timers = a.equivalent.pending_timers;
      texts = a.equivalent.texts;
      registrations = a.equivalent.registrations;
      seen = a.equivalent.seen;
    };
    one = a.one;
    other = a.other;
    among = a.among;
  }

  fired_in-alike : (now : ℕ) (v w : RunState) → K (after_transaction_timer e token now w).actions → Two v w → Two (after_transaction_timer d token now v) (after_transaction_timer e token now w)
  fired_in-alike now v w k a =
      let decide = (law (trusts d) v.actions w.actions a.equivalent.actions).0 in
      after_due-equivalent (due_result (next_due now (live v.actions))) (due_result (next_due now (live w.actions)))
      (record v { actions = after_firing v.actions (next_due now (live v.actions)) }) (record w { actions = after_firing w.actions (next_due now (live w.actions)) }) (decide.due_results now) k
      (acting-equivalent law records d e keys K older knows (after_firing v.actions (next_due now (live v.actions))) (after_firing w.actions (next_due now (live w.actions))) v w
      (subst (λ (x : List TransactionOp). Equivalent (trusts d) x (after_firing w.actions (next_due now (live w.actions)))) (sym (after_firing_as (next_due now (live v.actions)) v.actions))
      (subst (λ (x : List TransactionOp). Equivalent (trusts d) (after_firing_key v.actions (next_key (next_due now (live v.actions)))) x) (sym (after_firing_as (next_due now (live w.actions)) w.actions))
      (subst (λ (n : Option ℕ). Equivalent (trusts d) (after_firing_key v.actions (next_key (next_due now (live v.actions)))) (after_firing_key w.actions n)) (decide.fires now)
      (after_firing_equivalent (next_key (next_due now (live v.actions))) v.actions w.actions a.equivalent.actions)))) a)

  with_armed : (armed : List PendingTimer) (v w : RunState) → Two v w → Two (record v { pending_timers = armed }) (record w { pending_timers = armed })
  with_armed armed v w a = record {
    equivalent = record {
      clock = a.equivalent.clock;
      steps = a.equivalent.steps;
      actions = a.equivalent.actions;
      drawn = a.equivalent.drawn;
      calls = a.equivalent.calls;
      opened = a.equivalent.opened;
      conferences = a.equivalent.conferences;
      subscriptions = a.equivalent.subscriptions;
      pending_timers = refl;
      texts = a.equivalent.texts;
      registrations = a.equivalent.registrations;
      seen = a.equivalent.seen;
    };
    one = a.one;
    other = a.other;
    among = a.among;
  }

  after_service_timer-equivalent : (at : ℕ) (x : ServiceTimer) (v w : RunState) → K (after_service_timer e token at x w).actions → Two v w → Two (after_service_timer d token at x v) (after_service_timer e token at x w)
  after_service_timer-equivalent at (OfCall call what) v w k a = signalled-alike at (signal.Due call what) (signal.Due call what) Plain Plain v w a (due_says at call what v w) k
  after_service_timer-equivalent at (OfParticipant room seat what) v w k a = seated-alike at (both.Due room seat what) v w a tt tt k
  after_service_timer-equivalent at (OfSubscription sub set) v w k a = box_due-alike law records d e token keys sites K older knows at sub set v w a

  after_deadline-equivalent : (now : ℕ) (x : Deadline) (v w : RunState) → K (after_deadline e token now x w).actions → Two v w → Two (after_deadline d token now x v) (after_deadline e token now x w)
  after_deadline-equivalent now OfTransaction v w k a = fired_in-alike now (with_next_step v) (with_next_step w) k (with_next_step-equivalent v w a)
  after_deadline-equivalent now (OfServiceTimer armed others) v w k a =
      after_service_timer-equivalent armed.at armed.timer (record (with_next_step v) { pending_timers = others }) (record (with_next_step w) { pending_timers = others }) k
      (with_armed others (with_next_step v) (with_next_step w) (with_next_step-equivalent v w a))

  -- moment and step alone determine which one is first
  abbrev comes_by : ℕ × ℕ → PendingTimer → Bool
  comes_by next armed = nat_lt next.0 armed.at || (next.0 == armed.at && nat_le next.1 armed.step)

  abbrev first_by : Option (ℕ × ℕ) → Option FirstTimer → Option Deadline
  first_by None None = None
  first_by (Some next) None = Some OfTransaction
  first_by None (Some call) = Some (OfServiceTimer call.first call.others)
  first_by (Some next) (Some call) = if comes_by next call.first then Some OfTransaction else Some (OfServiceTimer call.first call.others)

  first_as : (o : Option DueEntryView) (c : Option FirstTimer) → first_deadline o c ≡ first_by (upcoming_of o) c
  first_as None None = refl
  first_as (Some next) None = refl
  first_as None (Some call) = refl
  first_as (Some next) (Some call) = refl

  due_same : (now : ℕ) (v w : RunState) → Two v w → first_due_deadline now v ≡ first_due_deadline now w
  due_same now v w a =
      first_as (next_due now (live v.actions)) (first_due_timer now v.pending_timers)
      ∙ (ap (λ (u : Option (ℕ × ℕ)). first_by u (first_due_timer now v.pending_timers)) (((law (trusts d) v.actions w.actions a.equivalent.actions).0).due now)
      ∙ (ap (λ (l : List PendingTimer). first_by (upcoming_of (next_due now (live w.actions))) (first_due_timer now l)) a.equivalent.pending_timers
      ∙ sym (first_as (next_due now (live w.actions)) (first_due_timer now w.pending_timers))))

  if_fired : (now : ℕ) (o : Option Deadline) (v w : RunState) → K (after_deadline_if e token now o w).actions → Two v w → Two (after_deadline_if d token now o v) (after_deadline_if e token now o w)
  if_fired now None v w k a = a
  if_fired now (Some x) v w k a = after_deadline-equivalent now x v w k a

  pub after_due_deadlines-equivalent : (fuel now : ℕ) (v w : RunState) → K (after_due_deadlines e token fuel now w).actions → Two v w →
      Two (after_due_deadlines d token fuel now v) (after_due_deadlines e token fuel now w)
  after_due_deadlines-equivalent zero now v w k a = a
  after_due_deadlines-equivalent (suc fuel) now v w k a =
      after_due_deadlines-equivalent fuel now (after_one_deadline d token now v) (after_one_deadline e token now w) k
      (subst (λ (o : Option Deadline). Two (after_deadline_if d token now o v) (after_one_deadline e token now w)) (sym (due_same now v w a))
      (if_fired now (first_due_deadline now w) v w (settled_before K older e token fuel now (after_one_deadline e token now w) k) a))
