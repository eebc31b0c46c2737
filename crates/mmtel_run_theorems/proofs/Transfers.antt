-- A leg that is taken out of a call of a run is put back by the next operation, and is of the side that is detached, or the call ends by the next operation: so it is in the trace of each call.
use Rattle.std.proofs.Common.{◌≡◌, ℕ, Bool, true, false, List, [], ◌∷◌, Option, Some, None, refl, sym, ap, ◌∙◌, subst, cond}
use Rattle.std.specs.Prelude.{if◌then◌else◌, find, length, nat_lt}
use Rattle.std.specs.List.{position_or_len}
use Rattle.std.specs.Option.{option_map}
use Rattle.std.proofs.lemmas.Bool.{eqb-true}
use Rattle.std.proofs.lemmas.List.Folds.{find_at}
use Rattle.std.proofs.lemmas.Option.{none-some, same_Some}
use Rattle.mmtel_b2bua.specs.Entries.{is_numbered}
use Rattle.mmtel_b2bua.specs.Operations.{Drops, Finishes, ReceivedSignal, Receives, Releases, Restores, TableOp, table_after}
use Rattle.mmtel_b2bua.specs.Detaching.{can_restore, entries_after_release, entry_at, entry_of, leg_in_entry, released_leg_of}
use Rattle.mmtel_b2bua.specs.declared.entries.Entry.{Entry}
use Rattle.mmtel_b2bua_theorems.specs.TracesOfTables.{ArePutBack, arrival_of, call_of, continued_trace, event_by, is_number, number_of, opening_by, received_event, signal_of_call, start_by, trace_of}
use Rattle.mmtel_b2bua_theorems.specs.Legs.{LegsGoBack}
use Rattle.mmtel_b2bua_theorems.specs.TracesWithTransfers as transfers
use Rattle.mmtel_b2bua_theorems.specs.TracesWithTransfers.{CallEvent, CallTraceWithTransfers}
use Rattle.mmtel_call_services.specs.CallConfig.{CallConfigView}
use Rattle.mmtel_call_services.specs.declared.openings.Arrival.{Arrival}
use Rattle.mmtel_call.specs.declared.signals.Signal as calls
use Rattle.mmtel_output.specs.Outputs.{empty_output}
use Rattle.mmtel_leg.specs.declared.legs.Released.{Released}
use Rattle.mmtel_base.specs.Numbers.{next_number}
use Rattle.mmtel_transaction.specs.Tokens.{TokensView}
use Rattle.mmtel_types.specs.declared.sides.Side.{Side}
use Rattle.mmtel_run_theorems.specs.Outcome.{AreRestoredAtOnce}
use Rattle.mmtel_run_theorems.proofs.OperationsOfEvents.{IsWhole}

-- ---- legs that are put back

pub put_back : (config : CallConfigView) (away : Option ℕ) (ops : List TableOp) → IsWhole config away ops → ArePutBack config ops
put_back config None [] w = tt
put_back config None (Receives x ∷ older) w = (tt, put_back config None older w)
put_back config None (Releases number side ∷ older) w = absurd w
put_back config None (Restores number leg ∷ older) w = (w.0, put_back config (Some number) older w.1)
put_back config None (Finishes number at tokens ∷ older) w = (tt, put_back config (Some number) older w)
put_back config None (Drops count ∷ older) w = (tt, put_back config None older w)
put_back config (Some number) [] w = absurd w
put_back config (Some number) (Receives x ∷ older) w = absurd w
put_back config (Some number) (Releases other side ∷ older) w = (tt, put_back config None older w.2)
put_back config (Some number) (Restores other leg ∷ older) w = absurd w
put_back config (Some number) (Finishes other at tokens ∷ older) w = absurd w
put_back config (Some number) (Drops count ∷ older) w = absurd w

-- ---- the call of a number is in the table

passes : (p : Entry → Bool) (es : List Entry) (e : Entry) → find p es ≡ Some e → p e ≡ true
passes p [] e h = absurd (none-some e h)
passes p (x ∷ es) e h = go (p x) refl h (λ h. passes p es e h)
  where
    go : (b : Bool) → p x ≡ b → cond b (Some x) (find p es) ≡ Some e → (find p es ≡ Some e → p e ≡ true) → p e ≡ true
    go true is h later = let same : x ≡ e = same_Some x e h in ap p (sym same) ∙ is
    go false is h later = later h

found : (n : ℕ) (es : List Entry) (e : Entry) → entry_of n es ≡ Some e → find (is_numbered n) es ≡ Some e
found n es e h = go (nat_lt (position_or_len (is_numbered n) es) (length es)) h
  where
    go : (b : Bool) → entry_at (cond b (Some (position_or_len (is_numbered n) es)) None) es ≡ Some e → find (is_numbered n) es ≡ Some e
    go true h = find_at (is_numbered n) es ∙ h
    go false h = absurd (none-some e h)

numbered : (n : ℕ) (e : Entry) → is_numbered n e ≡ true → number_of e ≡ n
unfolding is_numbered
numbered n e h = eqb-true (number_of e) n h

-- an operation that names it is of it
named : (n : ℕ) (es : List Entry) (e : Entry) → entry_of n es ≡ Some e → option_map number_of (find (is_numbered n) es) ≡ Some n
named n es e h = let is = found n es e h in ap (option_map number_of) is ∙ ap Some (numbered n e (passes (is_numbered n) es e is))

-- one whose leg is taken out, and one whose leg is put back
goes-out : (n : ℕ) (side : Side) (es : List Entry) (leg : Released) → released_leg_of n side es ≡ Some leg → option_map number_of (find (is_numbered n) es) ≡ Some n
goes-out n side es leg h = go (entry_of n es) refl h
  where
    go : (o : Option Entry) → entry_of n es ≡ o → leg_in_entry side o ≡ Some leg → option_map number_of (find (is_numbered n) es) ≡ Some n
    go None is h = absurd (none-some leg h)
    go (Some e) is h = named n es e is

is-away : (n : ℕ) (es : List Entry) (leg : Released) → can_restore leg (entry_of n es) ≡ true → option_map number_of (find (is_numbered n) es) ≡ Some n
is-away n es leg h = go (entry_of n es) refl h
  where
    go : (o : Option Entry) → entry_of n es ≡ o → can_restore leg o ≡ true → option_map number_of (find (is_numbered n) es) ≡ Some n
    go None is h = absurd (let e : false ≡ true = h in cc)
    go (Some e) is h = named n es e is

-- ---- a trace

abbrev RestoresAtOnce : CallTraceWithTransfers → Type 0
RestoresAtOnce trace = AreRestoredAtOnce false trace.events

module _ (back : LegsGoBack) (config : CallConfigView) (number : ℕ) where
  receives : (x : ReceivedSignal) (es : List Entry) (opens : Option Arrival) (came : Option calls.Signal) (was : Option CallTraceWithTransfers) (trace : CallTraceWithTransfers) →
      ((earlier : CallTraceWithTransfers) → was ≡ Some earlier → RestoresAtOnce earlier) →
      continued_trace (option_map (start_by config x es) opens) (option_map (received_event x number es) came) was ≡ Some trace → RestoresAtOnce trace
  receives x es (Some a) came was trace before h = subst RestoresAtOnce (same_Some _ trace h) tt
  receives x es None came None trace before h = absurd (none-some trace h)
  receives x es None None (Some earlier) trace before h = subst RestoresAtOnce (same_Some earlier trace h) (before earlier refl)
  receives x es None (Some s) (Some earlier) trace before h = subst RestoresAtOnce (same_Some _ trace h) (before earlier refl)

  -- two operations on one call
  both : (x y : CallEvent) → ((events : List CallEvent) → AreRestoredAtOnce false events → AreRestoredAtOnce false (y ∷ x ∷ events)) → (one two : Option ℕ) → one ≡ two →
      (was : Option CallTraceWithTransfers) (trace : CallTraceWithTransfers) →
      ((earlier : CallTraceWithTransfers) → was ≡ Some earlier → RestoresAtOnce earlier) →
      (if is_number number two then continued_trace None (Some y) (if is_number number one then continued_trace None (Some x) was else was) else (if is_number number one then continued_trace None (Some x) was else was))
      ≡ Some trace →
      RestoresAtOnce trace
  both x y lends one two same was trace before h =
      go (is_number number one) was before (subst (λ (two : Option ℕ).
      (if is_number number two then continued_trace None (Some y) (if is_number number one then continued_trace None (Some x) was else was) else (if is_number number one then continued_trace None (Some x) was else was))
      ≡ Some trace)
      (sym same) h)
    where
      go : (b : Bool) (was : Option CallTraceWithTransfers) → ((earlier : CallTraceWithTransfers) → was ≡ Some earlier → RestoresAtOnce earlier) →
          (if b then continued_trace None (Some y) (if b then continued_trace None (Some x) was else was) else (if b then continued_trace None (Some x) was else was)) ≡ Some trace → RestoresAtOnce trace
      go true None before h = absurd (none-some trace h)
      go true (Some earlier) before h =
          subst RestoresAtOnce (same_Some (record earlier { events = y ∷ x ∷ earlier.events }) trace h) (lends earlier.events (before earlier refl))
      go false was before h = before trace h

  -- the leg of this call was taken out, so both operations are of it
  abbrev Went : (n m : ℕ) (side : Side) (older : List TableOp) → Type 0
  Went n m side older = (n ≡ m) × ((leg : Released) × (released_leg_of m side (table_after config older).entries ≡ Some leg)) × IsWhole config None older

  one-call : (n m : ℕ) (side : Side) (older : List TableOp) → Went n m side older →
      option_map number_of (find (is_numbered m) (table_after config older).entries) ≡ option_map number_of (find (is_numbered n) (entries_after_release m side (table_after config older).entries))
  one-call n m side older w =
      let es : List Entry = (table_after config older).entries in
      let (leg, is) = w.1 in
      let after : option_map number_of (find (is_numbered m) (entries_after_release m side es)) ≡ Some m = is-away m (entries_after_release m side es) leg (back m side es leg is).0 in
      goes-out m side es leg is ∙ (sym after ∙ ap (λ (n : ℕ). option_map number_of (find (is_numbered n) (entries_after_release m side es))) (sym w.0))

  restored : (n : ℕ) (leg : Released) (m : ℕ) (side : Side) (older : List TableOp) (trace : CallTraceWithTransfers) → Went n m side older →
      trace_of config number (Restores n leg ∷ Releases m side ∷ older) ≡ Some trace → ((trace : CallTraceWithTransfers) → trace_of config number older ≡ Some trace → RestoresAtOnce trace) → RestoresAtOnce trace
  unfolding trace_of
  restored n leg m side older trace w h before =
      both (transfers.Releases side) (transfers.Restores leg) (λ events detached. detached) (call_of config (Releases m side) (table_after config older))
      (call_of config (Restores n leg) (table_after config (Releases m side ∷ older)))
      (one-call n m side older w) (trace_of config number older) trace before h

  finished : (n at : ℕ) (tokens : TokensView) (m : ℕ) (side : Side) (older : List TableOp) (trace : CallTraceWithTransfers) → Went n m side older →
      trace_of config number (Finishes n at tokens ∷ Releases m side ∷ older) ≡ Some trace → ((trace : CallTraceWithTransfers) → trace_of config number older ≡ Some trace → RestoresAtOnce trace) → RestoresAtOnce trace
  unfolding trace_of
  finished n at tokens m side older trace w h before =
      both (transfers.Releases side) (transfers.Finishes at (empty_output tokens)) (λ events detached. detached) (call_of config (Releases m side) (table_after config older))
      (call_of config (Finishes n at tokens) (table_after config (Releases m side ∷ older))) (one-call n m side older w) (trace_of config number older) trace before h

  pub detached_at_once : (ops : List TableOp) (trace : CallTraceWithTransfers) → IsWhole config None ops → trace_of config number ops ≡ Some trace → RestoresAtOnce trace
  unfolding trace_of
  detached_at_once [] trace w h = absurd (none-some trace h)
  detached_at_once (Receives x ∷ older) trace w h = go (is_number number (call_of config (Receives x) (table_after config older))) h (λ trace. detached_at_once older trace w)
    where
      go : (b : Bool) →
          (if b then continued_trace (opening_by config (Receives x) (table_after config older)) (event_by (Receives x) number (table_after config older).entries) (trace_of config number older)
          else trace_of config number older) ≡ Some trace →
          ((trace : CallTraceWithTransfers) → trace_of config number older ≡ Some trace → RestoresAtOnce trace) → RestoresAtOnce trace
      go true h before = receives x (table_after config older).entries (arrival_of (next_number (table_after config older).opened) x.signal) (signal_of_call x.signal) (trace_of config number older) trace before h
      go false h before = before trace h
  detached_at_once (Releases n side ∷ older) trace w h = absurd w
  detached_at_once (Restores n leg ∷ []) trace w h = absurd w.1
  detached_at_once (Restores n leg ∷ Receives x ∷ older) trace w h = absurd w.1
  detached_at_once (Restores n leg ∷ Releases m side ∷ older) trace w h = restored n leg m side older trace w.1 h (λ trace. detached_at_once older trace w.1.2)
  detached_at_once (Restores n leg ∷ Restores m other ∷ older) trace w h = absurd w.1
  detached_at_once (Restores n leg ∷ Finishes m at tokens ∷ older) trace w h = absurd w.1
  detached_at_once (Restores n leg ∷ Drops count ∷ older) trace w h = absurd w.1
  detached_at_once (Finishes n at tokens ∷ []) trace w h = absurd w
  detached_at_once (Finishes n at tokens ∷ Receives x ∷ older) trace w h = absurd w
  detached_at_once (Finishes n at tokens ∷ Releases m side ∷ older) trace w h = finished n at tokens m side older trace w h (λ trace. detached_at_once older trace w.2)
  detached_at_once (Finishes n at tokens ∷ Restores m other ∷ older) trace w h = absurd w
  detached_at_once (Finishes n at tokens ∷ Finishes m later others ∷ older) trace w h = absurd w
  detached_at_once (Finishes n at tokens ∷ Drops count ∷ older) trace w h = absurd w
  detached_at_once (Drops count ∷ older) trace w h = detached_at_once older trace w h
