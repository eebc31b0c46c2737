-- A leg of a stable call of the table is detached, put back, or the call ends without it.
use Rattle.std.specs.Prelude.{ℕ, Bool, false, Option, Some, None, List, [], position, slice_get, slice_set}
use Rattle.mmtel_call_services.specs.CallConfig.{CallConfigView}
use Rattle.mmtel_call.specs.Closing.{StepResult}
use Rattle.mmtel_call.specs.Detaching.{call_finish, detached_in, fits_in, is_detached, removed_leg_in, with_leg_restored}
use Rattle.mmtel_output.specs.declared.outputs.StepOutput.{StepOutput}
use Rattle.mmtel_leg.specs.declared.legs.Released.{Released}
use Rattle.mmtel_types.specs.declared.sides.Side.{Side}
use Rattle.mmtel_b2bua.specs.Entries.{is_numbered}
use Rattle.mmtel_b2bua.specs.Tables.{TableStep, step_of_entry, unchanged_step}
use Rattle.mmtel_b2bua.specs.declared.entries.Entry.{Entry}

-- the index of the call of a number, and the call
abbrev pub place_of : ℕ → List Entry → Option ℕ
place_of number es = position (is_numbered number) es

abbrev pub entry_at : Option ℕ → List Entry → Option Entry
entry_at None es = None
entry_at (Some place) es = slice_get es place

abbrev pub entry_of : ℕ → List Entry → Option Entry
entry_of number es = entry_at (place_of number es) es

-- ---- detached

abbrev pub leg_in_entry : Side → Option Entry → Option Released
leg_in_entry side None = None
leg_in_entry side (Some e) = removed_leg_in e.call.phase side

-- the leg, if the call of this number is stable
abbrev pub released_leg_of : ℕ → Side → List Entry → Option Released
released_leg_of number side es = leg_in_entry side (entry_of number es)

abbrev pub entry_after_release : Side → Entry → Entry
entry_after_release side e = record e { call = detached_in e.call.phase side e.call }

abbrev pub released_at : Side → (place : ℕ) → Option Entry → List Entry → List Entry
released_at side place None es = es
released_at side place (Some e) es = slice_set es place (entry_after_release side e)

abbrev pub released_where : Side → Option ℕ → List Entry → List Entry
released_where side None es = es
released_where side (Some place) es = released_at side place (slice_get es place) es

unfoldable pub entries_after_release : ℕ → Side → List Entry → List Entry
entries_after_release number side es = released_where side (place_of number es) es

-- ---- put back

abbrev pub entry_after_restore : Released → Entry → Entry
entry_after_restore away e = record e { call = with_leg_restored e.call.phase away e.call }

abbrev pub restored_at : Released → (place : ℕ) → Option Entry → List Entry → List Entry
restored_at away place None es = es
restored_at away place (Some e) es = slice_set es place (entry_after_restore away e)

abbrev pub restored_where : Released → Option ℕ → List Entry → List Entry
restored_where away None es = es
restored_where away (Some place) es = restored_at away place (slice_get es place) es

unfoldable pub entries_after_restore : ℕ → Released → List Entry → List Entry
entries_after_restore number away es = restored_where away (place_of number es) es

-- ---- the call ends

unfoldable pub finish_step : CallConfigView → (at : ℕ) → StepOutput → Entry → StepResult
finish_step config at output e = call_finish config at e.call output

abbrev pub step_of_finish_at : CallConfigView → (at : ℕ) → (place : ℕ) → Option Entry → List Entry → StepOutput → TableStep
step_of_finish_at config at place None es output = unchanged_step es output
step_of_finish_at config at place (Some e) es output = step_of_entry place [] e (finish_step config at output e) es

abbrev pub step_of_finish_in : CallConfigView → (at : ℕ) → Option ℕ → List Entry → StepOutput → TableStep
step_of_finish_in config at None es output = unchanged_step es output
step_of_finish_in config at (Some place) es output = step_of_finish_at config at place (slice_get es place) es output

unfoldable pub step_of_finish : CallConfigView → (at number : ℕ) → List Entry → StepOutput → TableStep
step_of_finish config at number es output = step_of_finish_in config at (place_of number es) es output

-- ---- when that may be done

-- whether the leg is of the side that is detached
abbrev pub can_restore : Released → Option Entry → Bool
can_restore away None = false
can_restore away (Some e) = fits_in e.call.phase away

abbrev pub has_detached_leg : Option Entry → Bool
has_detached_leg None = false
has_detached_leg (Some e) = is_detached e.call.phase
