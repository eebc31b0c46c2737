-- A table keeps the invariant of each of its calls, whatever the operation.
use Rattle.std.proofs.Common.{◌≡◌, ℕ, Bool, true, false, List, [], ◌∷◌, refl, cond, Option, Some, None}
use Rattle.std.specs.Prelude.{position, remove, slice_get, slice_set}
use Rattle.mmtel_output.specs.Outputs.{empty_output}
use Rattle.mmtel_output.specs.declared.outputs.StepOutput.{StepOutput}
use Rattle.mmtel_leg.specs.declared.legs.Released.{Released}
use Rattle.mmtel_base.specs.Numbers.{next_number}
use Rattle.mmtel_sheet_values.specs.View.{SheetsInForce}
use Rattle.mmtel_sheet_values.specs.declared.values.Sheet.{Sheet}
use Rattle.mmtel_types.specs.declared.numbers.Account.{Account}
use Rattle.mmtel_types.specs.declared.sides.Side.{Side}
use Rattle.mmtel_output.specs.ResponseMatching.{awaited_request_branch, timed_out_branch}
use Rattle.mmtel_call_services.specs.CallConfig.{CallConfigView}
use Rattle.mmtel_call_services.specs.declared.openings.Arrival.{Arrival}
use Rattle.mmtel_call.specs.Closing.{StepResult}
use Rattle.mmtel_call.specs.Settled.{is_settled}
use Rattle.mmtel_call.specs.declared.signals.Signal as calls
use Rattle.mmtel_call.specs.declared.signals.Signal.TheVariants as of_call
use Rattle.mmtel_call_theorems.specs.Noninterference.Invariant.{CallInvariant, CallsKeepTheirInvariant, SignalIsFromOwnPeer as CallAsksWell}
use Rattle.mmtel_call_theorems.specs.Noninterference.Premises.{IsFromOwnPeer, RecordsCoverSnapshot}
use Rattle.mmtel_call_theorems.specs.Noninterference.Observations.{Trust}
use Rattle.mmtel_b2bua.specs.Entries.{busy_beside, has_received_key as has_received_it, has_sent_branch, is_numbered, kept_entry}
use Rattle.mmtel_b2bua.specs.Operations.{Drops, TableOp, Finishes, Receives, Releases, Restores, table_after_op}
use Rattle.mmtel_b2bua.specs.Detaching.{entries_after_release, entries_after_restore, finish_step, place_of, released_at, released_where, restored_at, restored_where, step_of_finish, step_of_finish_at, step_of_finish_in}
use Rattle.mmtel_b2bua.specs.Tables.{Table, busy_with, call_step, entry_for, invites_by, opening_step, put_at, snapshot_at, step_in, step_of_arrival, step_of_entry_at, step_of_receiver, step_of_signal}
use Rattle.mmtel_b2bua.specs.declared.entries.Entry.{Entry}
use Rattle.mmtel_b2bua.specs.declared.entries.InviteKey.{InviteKey}
use Rattle.mmtel_b2bua.specs.declared.signals.Signal.{Signal}
use Rattle.mmtel_b2bua.specs.declared.signals.Signal.TheVariants as signal
use Rattle.mmtel_b2bua_theorems.specs.EquivalentTables.{CallsInvariant}
use Rattle.mmtel_b2bua_theorems.specs.Noninterference.{OpIsFromOwnPeer, TablesKeepTheirInvariant}
use Rattle.mmtel_b2bua_theorems.specs.Signals.{SignalIsFromOwnPeer}
use Rattle.mmtel_b2bua_theorems.proofs.Places.{append-kept, get-kept, remove-kept, set-kept}

module _ (keep : CallsKeepTheirInvariant) (records : List Sheet) (t : Trust) where
  put_if : (b : Bool) (at : ℕ) (es : List Entry) → CallsInvariant records t es → CallsInvariant records t (cond b (remove es at) es)
  put_if true at es k = remove-kept records t es k at
  put_if false at es k = k

  put-kept : (at : ℕ) (e : Entry) (es : List Entry) → CallInvariant records t e.call → CallsInvariant records t es → CallsInvariant records t (put_at at e es)
  put-kept at e es h k = put_if (is_settled e.call) at (slice_set es at e) (set-kept records t es k at e h)

  kept_if : (b : Bool) (e : Entry) → CallInvariant records t e.call → CallsInvariant records t (cond b [] (e ∷ []))
  kept_if true e h = tt
  kept_if false e h = (h, tt)

  module _ (config : CallConfigView) (at : ℕ) (view : SheetsInForce) (stand : (busy : List Account) → RecordsCoverSnapshot records (snapshot_at at view busy)) where
    step-kept : (busy : List Account) (x : calls.Signal) (e : Entry) (output : StepOutput) → CallAsksWell t x → CallInvariant records t e.call → CallInvariant records t (call_step config at view busy x output e).call
    unfolding call_step
    step-kept busy x e output asks k = keep.steps records t config (snapshot_at at view busy) x e.call output (stand busy) asks k

    at-kept : (x : calls.Signal) (invites : List InviteKey) (place : ℕ) (g : Option Entry) (es : List Entry) (output : StepOutput) → slice_get es place ≡ g → CallAsksWell t x →
        CallsInvariant records t es → CallsInvariant records t (step_of_entry_at config at view x invites place g es output).entries
    at-kept x invites place None es output is asks k = k
    at-kept x invites place (Some e) es output is asks k =
        put-kept place _ es (step-kept (busy_beside e.call.opening.number.0 es) x e output asks (get-kept records t es k place e is)) k

    in-kept : (x : calls.Signal) (invites : List InviteKey) (o : Option ℕ) (es : List Entry) (output : StepOutput) → CallAsksWell t x → CallsInvariant records t es →
        CallsInvariant records t (step_in config at view x invites o es output).entries
    in-kept x invites None es output asks k = k
    in-kept x invites (Some place) es output asks k = at-kept x invites place (slice_get es place) es output refl asks k

    received-kept : (whose : Entry → Bool) (x : calls.Signal) (invites : List InviteKey) (es : List Entry) (output : StepOutput) → CallAsksWell t x → CallsInvariant records t es →
        CallsInvariant records t (step_of_receiver config at view whose x invites es output).entries
    received-kept whose x invites es output asks k = in-kept x invites (position whose es) es output asks k

    open-kept : (busy : List Account) (a : Arrival) (output : StepOutput) → IsFromOwnPeer t a.key a.invite → CallInvariant records t (opening_step config at view busy a output).call
    unfolding opening_step
    open-kept busy a output asked = keep.openings records t config (snapshot_at at view busy) a output (stand busy) asked

    arrived-kept : (a : Arrival) (es : List Entry) (output : StepOutput) → IsFromOwnPeer t a.key a.invite → CallsInvariant records t es → CallsInvariant records t (step_of_arrival config at view a es output).entries
    arrived-kept a es output asked k =
        let s : StepResult = opening_step config at view (busy_with a es) a output in
        append-kept records t es (kept_entry (entry_for a.key s)) k (kept_if (is_settled s.call) (entry_for a.key s) (open-kept (busy_with a es) a output asked))

    signal-kept : (x : Signal) (number : ℕ) (es : List Entry) (output : StepOutput) → SignalIsFromOwnPeer t x → CallsInvariant records t es →
        CallsInvariant records t (step_of_signal config at view number x es output).entries
    unfolding step_of_signal
    signal-kept (signal.Arrived key invite served registration identities) number es output asks k =
        arrived-kept (record { number = record { 0 = number }; key = key; invite = invite; served = served; registration = registration; identities = identities }) es output asks k
    signal-kept (signal.Request call side key request) number es output asks k = received-kept (is_numbered call.0) (of_call.Request side key request) (invites_by side key request) es output asks k
    signal-kept (signal.Ack call side ack) number es output asks k = received-kept (is_numbered call.0) (of_call.Ack side ack) [] es output tt k
    signal-kept (signal.Cancel call key cancel invite) number es output asks k = received-kept (is_numbered call.0) (of_call.Cancel key cancel invite) [] es output tt k
    signal-kept (signal.Answer key response) number es output asks k = received-kept (has_sent_branch (awaited_request_branch response)) (of_call.Answer key response) [] es output tt k
    signal-kept (signal.Silent branch method) number es output asks k = received-kept (has_sent_branch (timed_out_branch branch method)) (of_call.Silent branch method) [] es output tt k
    signal-kept (signal.Due call what) number es output asks k = received-kept (is_numbered call.0) (of_call.Due what) [] es output tt k
    signal-kept (signal.Over key) number es output asks k = received-kept (has_received_it key) (of_call.Ended key) [] es output tt k

  -- ---- legs

  released_at-kept : (side : Side) (place : ℕ) (g : Option Entry) (es : List Entry) → slice_get es place ≡ g → CallsInvariant records t es → CallsInvariant records t (released_at side place g es)
  released_at-kept side place None es is k = k
  released_at-kept side place (Some e) es is k = set-kept records t es k place _ (keep.out records t side e.call (get-kept records t es k place e is))

  released_where-kept : (side : Side) (place : Option ℕ) (es : List Entry) → CallsInvariant records t es → CallsInvariant records t (released_where side place es)
  released_where-kept side None es k = k
  released_where-kept side (Some place) es k = released_at-kept side place (slice_get es place) es refl k

  released-kept : (number : ℕ) (side : Side) (es : List Entry) → CallsInvariant records t es → CallsInvariant records t (entries_after_release number side es)
  unfolding entries_after_release
  released-kept number side es k = released_where-kept side (place_of number es) es k

  back_at-kept : (leg : Released) (place : ℕ) (g : Option Entry) (es : List Entry) → slice_get es place ≡ g → CallsInvariant records t es → CallsInvariant records t (restored_at leg place g es)
  back_at-kept leg place None es is k = k
  back_at-kept leg place (Some e) es is k = set-kept records t es k place _ (keep.back records t leg e.call (get-kept records t es k place e is))

  back-kept : (leg : Released) (place : Option ℕ) (es : List Entry) → CallsInvariant records t es → CallsInvariant records t (restored_where leg place es)
  back-kept leg None es k = k
  back-kept leg (Some place) es k = back_at-kept leg place (slice_get es place) es refl k

  restored-kept : (number : ℕ) (leg : Released) (es : List Entry) → CallsInvariant records t es → CallsInvariant records t (entries_after_restore number leg es)
  unfolding entries_after_restore
  restored-kept number leg es k = back-kept leg (place_of number es) es k

  end-kept : (config : CallConfigView) (at : ℕ) (e : Entry) (output : StepOutput) → CallInvariant records t e.call → CallInvariant records t (finish_step config at output e).call
  unfolding finish_step
  end-kept config at e output k = keep.ended records t config at e.call output k

  ended_at-kept : (config : CallConfigView) (at place : ℕ) (g : Option Entry) (es : List Entry) (output : StepOutput) → slice_get es place ≡ g → CallsInvariant records t es →
      CallsInvariant records t (step_of_finish_at config at place g es output).entries
  ended_at-kept config at place None es output is k = k
  ended_at-kept config at place (Some e) es output is k = put-kept place _ es (end-kept config at e output (get-kept records t es k place e is)) k

  ended_by-kept : (config : CallConfigView) (at : ℕ) (place : Option ℕ) (es : List Entry) (output : StepOutput) → CallsInvariant records t es →
      CallsInvariant records t (step_of_finish_in config at place es output).entries
  ended_by-kept config at None es output k = k
  ended_by-kept config at (Some place) es output k = ended_at-kept config at place (slice_get es place) es output refl k

  ended-kept : (config : CallConfigView) (at number : ℕ) (es : List Entry) (output : StepOutput) → CallsInvariant records t es → CallsInvariant records t (step_of_finish config at number es output).entries
  unfolding step_of_finish
  ended-kept config at number es output k = ended_by-kept config at (place_of number es) es output k

  -- ---- any operation

  pub did-kept : (config : CallConfigView) (op : TableOp) (table : Table) → OpIsFromOwnPeer records t op → CallsInvariant records t table.entries → CallsInvariant records t (table_after_op config op table).entries
  did-kept config (Receives x) table well k = signal-kept config x.at x.view well.0 x.signal (next_number table.opened) table.entries (empty_output x.tokens) well.1 k
  did-kept config (Releases number side) table well k = released-kept number side table.entries k
  did-kept config (Restores number leg) table well k = restored-kept number leg table.entries k
  did-kept config (Finishes number at tokens) table well k = ended-kept config at number table.entries (empty_output tokens) k
  did-kept config (Drops count) table well k = k

pub tables_keep_their_invariant : CallsKeepTheirInvariant → TablesKeepTheirInvariant
tables_keep_their_invariant keep records t config op table well k = did-kept keep records t config op table well k
