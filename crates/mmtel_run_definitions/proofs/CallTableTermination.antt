-- The effect of timers on all calls together: where one outputs anything, they have fewer ways to proceed than before.
use Rattle.std.proofs.Common.{◌≡◌, ℕ, suc, ◌+◌, ◌≤◌, ◌<◌, List, [], length, refl, ap, sym, ◌∙◌, Bool, true, false, Option, Some, None, inl, inr, arith, subst}
use Rattle.std.specs.Prelude.{◌⊎◌, position, remove, slice_get, slice_set, sum_by, if◌then◌else◌}
use Rattle.std.proofs.lemmas.List.Sums.{sum_by-remove, sum_by-set}
use Rattle.std.proofs.lemmas.Option.{get_or_from_slice_get, slice_get_within}
use Rattle.std.proofs.lemmas.List.{length-set}
use Rattle.mmtel_b2bua.specs.Entries.{busy_beside, has_received_key, has_sent_branch, is_numbered}
use Rattle.mmtel_b2bua.specs.Tables.{TableStep, call_step, entry_after, snapshot_at, step_in, step_of_entry, step_of_entry_at, step_of_receiver, step_of_signal}
use Rattle.mmtel_b2bua.specs.declared.entries.Entry.{Entry}
use Rattle.mmtel_b2bua.specs.declared.signals.Signal as table
use Rattle.mmtel_b2bua.specs.declared.signals.Signal.TheVariants as signal
use Rattle.mmtel_output.specs.ResponseMatching.{timed_out_branch}
use Rattle.mmtel_call_services.specs.CallConfig.{CallConfigView}
use Rattle.mmtel_call.specs.Closing.{StepResult}
use Rattle.mmtel_call.specs.Settled.{is_settled}
use Rattle.mmtel_call.specs.declared.signals.Signal.{Signal}
use Rattle.mmtel_call.specs.declared.signals.Signal.TheVariants as of_call
use Rattle.mmtel_output.specs.declared.outputs.StepOutput.{StepOutput}
use Rattle.mmtel_sheet_values.specs.View.{SheetsInForce}
use Rattle.mmtel_types.specs.declared.numbers.Account.{Account}
use Rattle.mmtel_run_definitions.proofs.CallTermination.{Wanes, is_of_branch_deadline, wanes, ways}

-- the number of ways to proceed that all calls have
abbrev pub ways_of : Entry → ℕ
ways_of e = ways e.call

abbrev pub all_ways : List Entry → ℕ
all_ways es = sum_by ways_of es

-- nothing is output, and there are no more ways than before; or there are fewer
abbrev pub Fades : List Entry → StepOutput → TableStep → Type 0
Fades es output m = ((m.output.out ≡ output.out) × (all_ways m.entries ≤ all_ways es)) ⊎ (suc (all_ways m.entries) ≤ all_ways es)

-- one in the place of another, or none
pub put_sum : {X : Type 0} (f : X → ℕ) (b : Bool) (place : ℕ) (e x : X) (es : List X) → slice_get es place ≡ Some e →
    sum_by f (if b then remove (slice_set es place x) place else slice_set es place x) + f e ≤ sum_by f es + f x
put_sum {X} f false place e x es there =
    let set : sum_by f (slice_set es place x) + f e ≡ sum_by f es + f x =
    ap (λ (y : X). sum_by f (slice_set es place x) + f y) (sym (get_or_from_slice_get es place e x there)) ∙ sum_by-set f es place x x (slice_get_within es place e there) in
    omega (arith, set)
put_sum {X} f true place e x es there =
    let set : sum_by f (slice_set es place x) + f e ≡ sum_by f es + f x =
    ap (λ (y : X). sum_by f (slice_set es place x) + f y) (sym (get_or_from_slice_get es place e x there)) ∙ sum_by-set f es place x x (slice_get_within es place e there) in
    let inside : place < length (slice_set es place x) = subst (λ (n : ℕ). place < n) (sym (length-set es place x)) (slice_get_within es place e there) in
    let removed = sum_by-remove f (slice_set es place x) place x inside in
    omega (arith, set, removed)

by-fades : (place : ℕ) (e : Entry) (s : StepResult) (es : List Entry) (output : StepOutput) → slice_get es place ≡ Some e → Wanes e.call output s → Fades es output (step_of_entry place [] e s es)
by-fades place e s es output there (inl quiet) =
    let put = put_sum ways_of (is_settled (entry_after [] s e).call) place e (entry_after [] s e) es there in
    let less : ways s.call ≤ ways e.call = quiet.1 in
    inl (quiet.0, omega (arith, put, less))
by-fades place e s es output there (inr less) =
    let put = put_sum ways_of (is_settled (entry_after [] s e).call) place e (entry_after [] s e) es there in
    let fewer : suc (ways s.call) ≤ ways e.call = less in
    inr (omega (arith, put, fewer))

module _ (config : CallConfigView) (at : ℕ) (view : SheetsInForce) (x : Signal) (is : is_of_branch_deadline x ≡ true) where
  step-wanes : (busy : List Account) (output : StepOutput) (e : Entry) → Wanes e.call output (call_step config at view busy x output e)
  unfolding call_step
  step-wanes busy output e = wanes x config (snapshot_at at view busy) e.call output is

  at-fades : (place : ℕ) (o : Option Entry) (es : List Entry) (output : StepOutput) → slice_get es place ≡ o → Fades es output (step_of_entry_at config at view x [] place o es output)
  at-fades place None es output there = inl (refl, omega arith)
  at-fades place (Some e) es output there =
      by-fades place e (call_step config at view (busy_beside e.call.opening.number.0 es) x output e) es output there (step-wanes (busy_beside e.call.opening.number.0 es) output e)

  in-fades : (o : Option ℕ) (es : List Entry) (output : StepOutput) → Fades es output (step_in config at view x [] o es output)
  in-fades None es output = inl (refl, omega arith)
  in-fades (Some place) es output = at-fades place (slice_get es place) es output refl

  step_of_receiver-fades : (whose : Entry → Bool) (es : List Entry) (output : StepOutput) → Fades es output (step_of_receiver config at view whose x [] es output)
  step_of_receiver-fades whose es output = in-fades (position whose es) es output

-- the signals of timers to calls
abbrev pub is_rung : table.Signal → Bool
is_rung (signal.Arrived key invite served registration identities) = false
is_rung (signal.Request call side key request) = false
is_rung (signal.Ack call side ack) = false
is_rung (signal.Cancel call key cancel invite) = false
is_rung (signal.Answer key response) = false
is_rung (signal.Silent branch method) = true
is_rung (signal.Due call what) = true
is_rung (signal.Over key) = true

pub fades : (config : CallConfigView) (at : ℕ) (view : SheetsInForce) (number : ℕ) (x : table.Signal) (es : List Entry) (output : StepOutput) → is_rung x ≡ true →
    Fades es output (step_of_signal config at view number x es output)
unfolding step_of_signal
fades config at view number (signal.Arrived key invite served registration identities) es output is = absurd cc
fades config at view number (signal.Request call side key request) es output is = absurd cc
fades config at view number (signal.Ack call side ack) es output is = absurd cc
fades config at view number (signal.Cancel call key cancel invite) es output is = absurd cc
fades config at view number (signal.Answer key response) es output is = absurd cc
fades config at view number (signal.Silent branch method) es output is = step_of_receiver-fades config at view (of_call.Silent branch method) refl (has_sent_branch (timed_out_branch branch method)) es output
fades config at view number (signal.Due call what) es output is = step_of_receiver-fades config at view (of_call.Due what) refl (is_numbered call.0) es output
fades config at view number (signal.Over key) es output is = step_of_receiver-fades config at view (of_call.Ended key) refl (has_received_key key) es output
