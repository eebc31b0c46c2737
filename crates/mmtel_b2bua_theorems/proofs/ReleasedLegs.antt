-- A leg that is detached from a call of two indistinguishable tables, that is put back, and the end of a call without it.
use Rattle.std.proofs.Common.{◌≡◌, ℕ, Bool, List, [], refl, subst, Option, Some, None}
use Rattle.std.specs.Prelude.{slice_get}
use Rattle.std.specs.Option.{option_map}
use Rattle.mmtel_output.specs.Outputs.{empty_output}
use Rattle.mmtel_output.specs.declared.outputs.StepOutput.{StepOutput}
use Rattle.mmtel_leg.specs.declared.legs.Released.{Released}
use Rattle.mmtel_sheet_values.specs.declared.values.Sheet.{Sheet}
use Rattle.mmtel_transaction.specs.Tokens.{TokensView}
use Rattle.mmtel_transaction.specs.declared.words.TKey.{TKey}
use Rattle.mmtel_types.specs.declared.numbers.Peer.{Peer}
use Rattle.mmtel_types.specs.declared.sides.Side.{Side}
use Rattle.mmtel_call_services.specs.CallConfig.{CallConfigView, trusts}
use Rattle.mmtel_call.specs.Detaching.{call_finish}
use Rattle.mmtel_call.specs.Closing.{StepResult}
use Rattle.mmtel_call_theorems.specs.Noninterference.EquivalentCalls.{EquivalentCalls}
use Rattle.mmtel_call_theorems.specs.Noninterference.Invariant.{CallInvariant}
use Rattle.mmtel_call_theorems.specs.Noninterference.PublicCall.{public_released}
use Rattle.mmtel_call_theorems.specs.Noninterference.Observations.{EquivalentOutputs, EquivalentSteps, Trust, trust_of}
use Rattle.mmtel_b2bua.specs.Entries.{is_numbered}
use Rattle.mmtel_b2bua.specs.Operations.{step_on_finish}
use Rattle.mmtel_b2bua.specs.Detaching.{entries_after_release, entries_after_restore, entry_at, entry_of, finish_step, leg_in_entry, place_of, released_at}
use Rattle.mmtel_b2bua.specs.Detaching.{released_leg_of, released_where, restored_at, restored_where, step_of_finish, step_of_finish_at, step_of_finish_in}
use Rattle.mmtel_b2bua.specs.Tables.{Table}
use Rattle.mmtel_b2bua.specs.declared.entries.Entry.{Entry}
use Rattle.mmtel_b2bua_theorems.specs.EquivalentTables.{CallsInvariant, EquivalentEntries, EquivalentEntry, EquivalentTables}
use Rattle.mmtel_b2bua_theorems.specs.Noninterference.{ConfigsAgree, TablesCorrespond}
use Rattle.mmtel_b2bua_theorems.proofs.EquivalentSignals.{EquivalentMoves, OfCalls, same_output, step-equivalent}
use Rattle.mmtel_b2bua_theorems.proofs.Places.{EquivalentAt, get-equivalent, get-kept, position-same, set-equivalent}
use Rattle.mmtel_b2bua_theorems.proofs.EquivalentEntries.{numbered-same}

module _ (laws : OfCalls) (records : List Sheet) (known : Peer → Bool) where
  pub place-same : (number : ℕ) (es fs : List Entry) → EquivalentEntries records known es fs → place_of number es ≡ place_of number fs
  place-same number es fs a = position-same records known (is_numbered number) (is_numbered number) (λ e f b. numbered-same laws.determine records known number e f b) es fs a

  -- both tables have a call of this number or neither has, and the calls are indistinguishable
  pub entry-at : (place : Option ℕ) (es fs : List Entry) → EquivalentEntries records known es fs → EquivalentAt records known (entry_at place es) (entry_at place fs)
  entry-at None es fs a = tt
  entry-at (Some place) es fs a = get-equivalent records known es fs a place

  pub entry-equivalent : (number : ℕ) (es fs : List Entry) → EquivalentEntries records known es fs → EquivalentAt records known (entry_of number es) (entry_of number fs)
  entry-equivalent number es fs a =
      subst (λ (o : Option ℕ). EquivalentAt records known (entry_of number es) (entry_at o fs)) (place-same number es fs a) (entry-at (place_of number es) es fs a)

  leg_of : (side : Side) (g h : Option Entry) → EquivalentAt records known g h → option_map (public_released known) (leg_in_entry side g) ≡ option_map (public_released known) (leg_in_entry side h)
  leg_of side None None a = refl
  leg_of side None (Some f) a = absurd a
  leg_of side (Some e) None a = absurd a
  leg_of side (Some e) (Some f) a = laws.lending.legs records known side e.call f.call a.calls

  pub legs-equivalent : (number : ℕ) (side : Side) (t u : Table) → EquivalentTables records known t u →
      option_map (public_released known) (released_leg_of number side t.entries) ≡ option_map (public_released known) (released_leg_of number side u.entries)
  legs-equivalent number side t u a = leg_of side (entry_of number t.entries) (entry_of number u.entries) (entry-equivalent number t.entries u.entries a.entries)

  -- ---- detached

  detached_at-equivalent : (side : Side) (place : ℕ) (g h : Option Entry) (es fs : List Entry) → EquivalentAt records known g h → EquivalentEntries records known es fs →
      EquivalentEntries records known (released_at side place g es) (released_at side place h fs)
  detached_at-equivalent side place None None es fs b a = a
  detached_at-equivalent side place None (Some f) es fs b a = absurd b
  detached_at-equivalent side place (Some e) None es fs b a = absurd b
  detached_at-equivalent side place (Some e) (Some f) es fs b a = set-equivalent records known es fs a place _ _ (record { calls = laws.lending.out records known side e.call f.call b.calls; invites = b.invites })

  detached-equivalent : (side : Side) (place : Option ℕ) (es fs : List Entry) → EquivalentEntries records known es fs → EquivalentEntries records known (released_where side place es) (released_where side place fs)
  detached-equivalent side None es fs a = a
  detached-equivalent side (Some place) es fs a = detached_at-equivalent side place (slice_get es place) (slice_get fs place) es fs (get-equivalent records known es fs a place) a

  pub released-equivalent : (number : ℕ) (side : Side) (es fs : List Entry) → EquivalentEntries records known es fs →
      EquivalentEntries records known (entries_after_release number side es) (entries_after_release number side fs)
  unfolding entries_after_release
  released-equivalent number side es fs a =
      subst (λ (o : Option ℕ). EquivalentEntries records known (released_where side (place_of number es) es) (released_where side o fs)) (place-same number es fs a) (detached-equivalent side (place_of number es) es fs a)

  -- ---- put back

  back_at-equivalent : (one other : Released) → public_released known one ≡ public_released known other → (place : ℕ) (g h : Option Entry) (es fs : List Entry) → EquivalentAt records known g h →
      EquivalentEntries records known es fs →
      EquivalentEntries records known (restored_at one place g es) (restored_at other place h fs)
  back_at-equivalent one other same place None None es fs b a = a
  back_at-equivalent one other same place None (Some f) es fs b a = absurd b
  back_at-equivalent one other same place (Some e) None es fs b a = absurd b
  back_at-equivalent one other same place (Some e) (Some f) es fs b a =
      set-equivalent records known es fs a place _ _ (record { calls = laws.lending.back records known one other e.call f.call same b.calls; invites = b.invites })

  back-equivalent : (one other : Released) → public_released known one ≡ public_released known other → (place : Option ℕ) (es fs : List Entry) → EquivalentEntries records known es fs →
      EquivalentEntries records known (restored_where one place es) (restored_where other place fs)
  back-equivalent one other same None es fs a = a
  back-equivalent one other same (Some place) es fs a = back_at-equivalent one other same place (slice_get es place) (slice_get fs place) es fs (get-equivalent records known es fs a place) a

  pub restored-equivalent : (number : ℕ) (one other : Released) → public_released known one ≡ public_released known other → (es fs : List Entry) → EquivalentEntries records known es fs →
      EquivalentEntries records known (entries_after_restore number one es) (entries_after_restore number other fs)
  unfolding entries_after_restore
  restored-equivalent number one other same es fs a =
      subst (λ (o : Option ℕ). EquivalentEntries records known (restored_where one (place_of number es) es) (restored_where other o fs)) (place-same number es fs a)
      (back-equivalent one other same (place_of number es) es fs a)

-- ---- the end of a call

module _ (laws : OfCalls) (records : List Sheet) (config far : CallConfigView) (keys : TKey → Bool) (configured : ConfigsAgree records config far) where
  abbrev T : Trust
  T = trust_of config keys

  abbrev known2 : Peer → Bool
  known2 = λ peer. trusts config peer

  end-equivalent : (at : ℕ) (e f : Entry) (one other : StepOutput) → EquivalentEntry records known2 e f → CallInvariant records T e.call → CallInvariant records T f.call → EquivalentOutputs T one other →
      EquivalentSteps T (finish_step config at one e) (finish_step far at other f)
  unfolding finish_step
  end-equivalent at e f one other b k l d =
      subst (λ (s : StepResult). EquivalentSteps T (call_finish config at e.call one) s) (laws.ends config far at f.call other configured.equal)
      (laws.lending.ends records config keys at e.call f.call one other b.calls k.kept.1 l.kept.1 d)

  end-stays : (at : ℕ) (e f : Entry) (one other : StepOutput) → EquivalentEntry records known2 e f → EquivalentOutputs T one other →
      EquivalentCalls records known2 (finish_step config at one e).call (finish_step far at other f).call
  unfolding finish_step
  end-stays at e f one other b d =
      subst (λ (s : StepResult). EquivalentCalls records known2 (call_finish config at e.call one).call s.call) (laws.ends config far at f.call other configured.equal)
      (laws.lending.ended records config keys at e.call f.call one other b.calls d)

  -- if there is one, the premises on a call of a table hold of it
  abbrev KeptAt : Option Entry → Type 0
  KeptAt g = (e : Entry) → g ≡ Some e → CallInvariant records T e.call

  ended_at-equivalent : (at place : ℕ) (g h : Option Entry) (es fs : List Entry) (one other : StepOutput) → EquivalentAt records known2 g h → EquivalentEntries records known2 es fs → KeptAt g → KeptAt h →
      EquivalentOutputs T one other →
      EquivalentMoves laws records config far keys configured (step_of_finish_at config at place g es one) (step_of_finish_at far at place h fs other)
  ended_at-equivalent at place None None es fs one other b a k l d = record { entries = a; output = d }
  ended_at-equivalent at place None (Some f) es fs one other b a k l d = absurd b
  ended_at-equivalent at place (Some e) None es fs one other b a k l d = absurd b
  ended_at-equivalent at place (Some e) (Some f) es fs one other b a k l d =
      step-equivalent laws records config far keys configured place [] e f (finish_step config at one e) (finish_step far at other f) es fs b a (end-equivalent at e f one other b (k e refl) (l f refl) d)
      (end-stays at e f one other b d)

  ended_by-equivalent : (at : ℕ) (place : Option ℕ) (es fs : List Entry) (one other : StepOutput) → EquivalentEntries records known2 es fs → CallsInvariant records T es → CallsInvariant records T fs →
      EquivalentOutputs T one other →
      EquivalentMoves laws records config far keys configured (step_of_finish_in config at place es one) (step_of_finish_in far at place fs other)
  ended_by-equivalent at None es fs one other a k l d = record { entries = a; output = d }
  ended_by-equivalent at (Some place) es fs one other a k l d =
      ended_at-equivalent at place (slice_get es place) (slice_get fs place) es fs one other (get-equivalent records known2 es fs a place) a
      (λ e is. get-kept records T es k place e is) (λ f is. get-kept records T fs l place f is) d

  ended-equivalent : (at number : ℕ) (es fs : List Entry) (one other : StepOutput) → EquivalentEntries records known2 es fs → CallsInvariant records T es → CallsInvariant records T fs → EquivalentOutputs T one other →
      EquivalentMoves laws records config far keys configured (step_of_finish config at number es one) (step_of_finish far at number fs other)
  unfolding step_of_finish
  ended-equivalent at number es fs one other a k l d =
      subst (λ (o : Option ℕ). EquivalentMoves laws records config far keys configured (step_of_finish_in config at (place_of number es) es one) (step_of_finish_in far at o fs other))
      (place-same laws records known2 number es fs a)
      (ended_by-equivalent at (place_of number es) es fs one other a k l d)

  pub finishing-equivalent : (number at : ℕ) (tokens : TokensView) (t u : Table) → TablesCorrespond records config keys t u →
      EquivalentMoves laws records config far keys configured (step_on_finish config number at tokens t) (step_on_finish far number at tokens u)
  finishing-equivalent number at tokens t u a = ended-equivalent at number t.entries u.entries (empty_output tokens) (empty_output tokens) a.equivalent.entries a.one a.other
      (same_output laws records config far keys configured (empty_output tokens))
