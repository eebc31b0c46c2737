-- What holds for the trace of a call: for how it opened, and for each event of it.
use Rattle.std.proofs.Common.{◌≡◌, ℕ, Bool, true, false, List, [], ◌∷◌, Option, Some, None, refl, subst, IfSome}
use Rattle.std.specs.Prelude.{if◌then◌else◌}
use Rattle.std.proofs.lemmas.Option.{none-some, same_Some}
use Rattle.mmtel_b2bua.specs.Operations.{TableOp, table_after}
use Rattle.mmtel_b2bua_theorems.specs.TracesOfTables.{call_of, continued_trace, event_by, is_number, opening_by, trace_of}
use Rattle.mmtel_b2bua_theorems.specs.TracesWithTransfers.{CallEvent, CallTraceWithTransfers}
use Rattle.mmtel_call_services.specs.CallConfig.{CallConfigView}
use Rattle.mmtel_call_theorems.specs.CallTrace.{TraceStart}

module _ (config : CallConfigView) (number : ℕ) (P : TraceStart → List CallEvent → Type 0) where
  -- for an operation on this call: it holds as the call opens by it, and still holds where it did before
  pub record HoldsBy (op : TableOp) (older : List TableOp) : Type 0 where
    pub opens : IfSome (opening_by config op (table_after config older)) (λ s. P s [])
    pub comes : IfSome (event_by op number (table_after config older).entries) (λ x. (s : TraceStart) (earlier : List CallEvent) → P s earlier → P s (x ∷ earlier))

  abbrev pub AllHold : List TableOp → Type 0
  AllHold [] = Unit {0}
  AllHold (op ∷ older) = (is_number number (call_of config op (table_after config older)) ≡ true → HoldsBy op older) × AllHold older

  abbrev Before : Option CallTraceWithTransfers → Type 0
  Before was = (earlier : CallTraceWithTransfers) → was ≡ Some earlier → P earlier.start earlier.events

  goes : (opens : Option TraceStart) (came : Option CallEvent) (was : Option CallTraceWithTransfers) (trace : CallTraceWithTransfers) → IfSome opens (λ s. P s []) →
      IfSome came (λ x. (s : TraceStart) (earlier : List CallEvent) → P s earlier → P s (x ∷ earlier)) → Before was → continued_trace opens came was ≡ Some trace → P trace.start trace.events
  goes (Some s) came was trace o e before is = subst (λ (trace : CallTraceWithTransfers). P trace.start trace.events) (same_Some (record { start = s; events = [] }) trace is) o
  goes None came None trace o e before is = absurd (none-some trace is)
  goes None None (Some earlier) trace o e before is = subst (λ (trace : CallTraceWithTransfers). P trace.start trace.events) (same_Some earlier trace is) (before earlier refl)
  goes None (Some x) (Some earlier) trace o e before is =
      subst (λ (trace : CallTraceWithTransfers). P trace.start trace.events) (same_Some (record earlier { events = x ∷ earlier.events }) trace is) (e earlier.start earlier.events (before earlier refl))

  pub trace_holds : (ops : List TableOp) (trace : CallTraceWithTransfers) → AllHold ops → trace_of config number ops ≡ Some trace → P trace.start trace.events
  unfolding trace_of
  trace_holds [] trace a is = absurd (none-some trace is)
  trace_holds (op ∷ older) trace a is =
      go (is_number number (call_of config op (table_after config older))) refl is (λ trace. trace_holds older trace a.1)
    where
      go : (b : Bool) → is_number number (call_of config op (table_after config older)) ≡ b →
          (if b then continued_trace (opening_by config op (table_after config older)) (event_by op number (table_after config older).entries) (trace_of config number older) else trace_of config number older)
          ≡ Some trace →
          ((trace : CallTraceWithTransfers) → trace_of config number older ≡ Some trace → P trace.start trace.events) → P trace.start trace.events
      go true mine now before =
          let h : HoldsBy op older = a.0 mine in
          goes (opening_by config op (table_after config older)) (event_by op number (table_after config older).entries) (trace_of config number older) trace h.opens h.comes before now
      go false mine now before = before trace now
