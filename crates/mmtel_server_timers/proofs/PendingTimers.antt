-- Which timer comes first: that of a call or a participant is the one that was chosen, and is due.
use Rattle.std.proofs.Common.{◌≡◌, ℕ, ◌≤◌, List, [], ◌∷◌, refl, sym, Option, Some, None, IfSome}
use Rattle.std.specs.Prelude.{Bool, true, false, nat_le, if◌then◌else◌}
use Rattle.std.specs.Option.{option_map}
use Rattle.std.proofs.lemmas.Bool.{leb-true}
use Rattle.std.proofs.lemmas.Option.{none-some, same_Some}
use Rattle.mmtel_transaction.specs.Results.{DueEntryView}
use Rattle.mmtel_server_timers.specs.PendingTimers.{IsFirstTimer, kind_of}
use Rattle.mmtel_run_definitions.specs.Deadlines.{Deadline, FirstTimer, OfServiceTimer, OfTransaction, PendingTimer, comes_before, first_deadline, first_due_timer, first_timer, first_timer_if, is_sooner, sooner_timer}
use Rattle.mmtel_server_timers.specs.declared.deadlines.Deadline as deadlines
use Rattle.mmtel_server_timers.specs.declared.deadlines.Deadline.TheVariants as deadline

-- the code's timer is one
pub kind_is : (o : Option Deadline) (x : deadlines.Deadline) → Some x ≡ option_map kind_of o → (first : Deadline) × (o ≡ Some first) × (kind_of first ≡ x)
kind_is None x e = absurd (none-some x (sym e))
kind_is (Some first) x e = (first, refl, same_Some (kind_of first) x (sym e))

pub unkind : (o : Option Deadline) → None ≡ option_map kind_of o → o ≡ None
unkind None e = refl
unkind (Some first) e = absurd (none-some (kind_of first) e)

-- of a transaction
pub of_transaction : (first : Deadline) → kind_of first ≡ deadline.OfTransaction → OfTransaction ≡ first
of_transaction OfTransaction e = refl
of_transaction (OfServiceTimer armed others) e = absurd (let f : deadline.OfServiceTimer ≡ deadline.OfTransaction = e in cc)

-- of a call or a participant
pub of_service_timer : (first : Deadline) (chosen : Option FirstTimer) → kind_of first ≡ deadline.OfServiceTimer → IsFirstTimer chosen first →
    (call : FirstTimer) × (chosen ≡ Some call) × (OfServiceTimer call.first call.others ≡ first)
of_service_timer OfTransaction chosen e is = absurd (let f : deadline.OfTransaction ≡ deadline.OfServiceTimer = e in cc)
of_service_timer (OfServiceTimer armed others) chosen e is = (first_timer armed others, is, refl)

-- that of a call or a participant is the one that was chosen
pub is_chosen : (o : Option DueEntryView) (call : Option FirstTimer) → IfSome (first_deadline o call) (IsFirstTimer call)
is_chosen None None = tt
is_chosen (Some next) None = tt
is_chosen None (Some call) = refl
is_chosen (Some next) (Some call) = test (comes_before next call.first)
  where
    test : (b : Bool) → IfSome (if b then Some OfTransaction else Some (OfServiceTimer call.first call.others)) (IsFirstTimer (Some call))
    test true = tt
    test false = refl

-- of those that are due
abbrev pub IsDueIn : ℕ → Option FirstTimer → Type 0
IsDueIn now o = IfSome o (λ chosen. chosen.first.at ≤ now)

sooner_due : (now : ℕ) (x : PendingTimer) (others : List PendingTimer) (behind : FirstTimer) → x.at ≤ now → behind.first.at ≤ now → (sooner_timer x others behind).first.at ≤ now
sooner_due now x others behind here there = test (is_sooner behind.first x)
  where
    test : (b : Bool) → (if b then first_timer behind.first (x ∷ behind.others) else first_timer x others).first.at ≤ now
    test true = there
    test false = here

chosen_due : (now : ℕ) (b : Bool) (x : PendingTimer) (others : List PendingTimer) (o : Option FirstTimer) → nat_le x.at now ≡ b → IsDueIn now o → IsDueIn now (first_timer_if b x others o)
chosen_due now false x others None test due = tt
chosen_due now false x others (Some behind) test due = due
chosen_due now true x others None test due = leb-true x.at now test
chosen_due now true x others (Some behind) test due = sooner_due now x others behind (leb-true x.at now test) due

pub first_due : (now : ℕ) (queue : List PendingTimer) → IsDueIn now (first_due_timer now queue)
first_due now [] = tt
first_due now (x ∷ others) = chosen_due now (nat_le x.at now) x others (first_due_timer now others) refl (first_due now others)
