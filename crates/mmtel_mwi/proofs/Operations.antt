-- What each operation does to the counts of mailboxes, and to the numbers of subscriptions.
use Rattle.std.proofs.Common.{◌≡◌, ◌+◌, ◌≤◌, ℕ, Bool, true, false, cond, List, [], ◌∷◌, ◌++◌, Option, Some, None, refl, ap, arith, inl, inr, map, ◌∙◌}
use Rattle.std.proofs.lemmas.Bool.{cases_Bool}
use Rattle.std.specs.Prelude.{◌==◌}
use Rattle.std.specs.Cmp.{nat_cmp_total, unsigned_tied}
use Rattle.std.specs.FinMap.{get, get-empty, get-insert}
use Rattle.std.specs.Ordering.{nat_cmp}
use Rattle.mmtel_types.specs.declared.numbers.Account.{Account}
use Rattle.mmtel_mwi.specs.Boxes.{Table, changed, counts_in, is_final, is_numbered, or_zero, renewed_subscription, subscription_after_notify}
use Rattle.mmtel_mwi.specs.Boxes.{subscription_after_request, subscription_refused_by, table_after_end_if, table_after_refresh, without, without_pending}
use Rattle.mmtel_mwi.specs.Operations.{AreNumberedTo, Responds, TableOp, Ends, Receives, Puts, Refreshes, Subscribes, Notifies, last_counts, uploaded_or, table_after, live_numbers_and_accounts, number_and_account}
use Rattle.mmtel_mwi.specs.declared.counts.Counts.{Counts}
use Rattle.mmtel_types.specs.declared.numbers.SubNo.{SubNo}
use Rattle.mmtel_mwi.specs.declared.subscriptions.Subscription.{Subscription}

-- ---- the counts uploaded last

chosen : (b : Bool) (counts : Counts) (before : Option Counts) (last : Counts) → or_zero before ≡ last → or_zero (cond b (Some counts) before) ≡ uploaded_or (cond b (Some counts) None) last
chosen true counts before last is = refl
chosen false counts before last is = is

-- a response changes no counts
kept_by : (o : Option SubNo) (table : Table) → (table_after_end_if o table).mailboxes ≡ table.mailboxes
kept_by None table = refl
kept_by (Some sub) table = refl

kept_if : (b : Bool) (branch : List ℕ) (o : Option SubNo) (table : Table) (account : Account)
    → counts_in account (cond b (without_pending branch (table_after_end_if o table)) table) ≡ counts_in account table
kept_if true branch o table account = ap (λ m. or_zero (get m account.0)) (kept_by o table)
kept_if false branch o table account = refl

pub counted : (ops : List TableOp) (account : Account) → counts_in account (table_after ops) ≡ last_counts ops account
counted [] account = ap or_zero (get-empty nat_cmp account.0)
counted (Puts a counts ∷ ops) account =
    ap or_zero (get-insert nat_cmp_total (table_after ops).mailboxes a.0 counts account.0)
    ∙ ap (λ (b : Bool). or_zero (cond b (Some counts) (get (table_after ops).mailboxes account.0))) (unsigned_tied account.0 a.0)
    ∙ chosen (account.0 == a.0) counts (get (table_after ops).mailboxes account.0) (last_counts ops account) (counted ops account)
counted (Subscribes a leg until ∷ ops) account = counted ops account
counted (Refreshes sub until ∷ ops) account = counted ops account
counted (Receives sub request ∷ ops) account = counted ops account
counted (Notifies sub branch ∷ ops) account = counted ops account
counted (Ends sub ∷ ops) account = counted ops account
counted (Responds branch code ∷ ops) account =
    kept_if (is_final code) branch (subscription_refused_by branch code (table_after ops)) (table_after ops) account ∙ counted ops account

-- ---- who subscribes

who_changed : (sub : SubNo) (f : Subscription → Subscription) → ((s : Subscription) → (f s).number ≡ s.number) → ((s : Subscription) → (f s).account ≡ s.account) → (live : List Subscription)
    → map number_and_account (changed (is_numbered sub) f live) ≡ map number_and_account live
who_changed sub f number account [] = refl
who_changed sub f number account (s ∷ live) =
    elim (cases_Bool (is_numbered sub s)) [
      | inl y ↦ rw (y, number s, account s) refl
      | inr n ↦ rw n (ap (λ (l : List (ℕ × ℕ)). number_and_account s ∷ l) (who_changed sub f number account live))
    ]

pub same_who : (sub : SubNo) (until : ℕ) (table : Table) → live_numbers_and_accounts (table_after_refresh sub until table) ≡ live_numbers_and_accounts table
same_who sub until table = who_changed sub (renewed_subscription until) (λ s. refl) (λ s. refl) table.live

-- ---- numbers

from_lower : (high low lower : ℕ) (live : List Subscription) → lower ≤ low → AreNumberedTo high low live → AreNumberedTo high lower live
from_lower high low lower [] less are = omega (arith, less, are)
from_lower high low lower (s ∷ live) less are = let first = are.0 in (omega (arith, less, first), are.1)

numbered_changed : (sub : SubNo) (f : Subscription → Subscription) → ((s : Subscription) → (f s).number ≡ s.number) → (high low : ℕ) (live : List Subscription)
    → AreNumberedTo high low live → AreNumberedTo high low (changed (is_numbered sub) f live)
numbered_changed sub f same high low [] are = are
numbered_changed sub f same high low (s ∷ live) are =
    elim (cases_Bool (is_numbered sub s)) [
      | inl y ↦ rw (y, same s) are
      | inr n ↦ rw n (are.0, numbered_changed sub f same high s.number.0 live are.1)
    ]

numbered_without : (sub : SubNo) (high low : ℕ) (live : List Subscription) → AreNumberedTo high low live → AreNumberedTo high low (without (is_numbered sub) live)
numbered_without sub high low [] are = are
numbered_without sub high low (s ∷ live) are =
    elim (cases_Bool (is_numbered sub s)) [
      | inl y ↦ let first = are.0 in rw y (from_lower high s.number.0 low live (omega (arith, first)) are.1)
      | inr n ↦ rw n (are.0, numbered_without sub high s.number.0 live are.1)
    ]

numbered_behind : (s : Subscription) (high low : ℕ) (live : List Subscription) → s.number.0 ≡ high + 1 → AreNumberedTo high low live → AreNumberedTo (high + 1) low (live ++ s ∷ [])
numbered_behind s high low [] is are = (omega (arith, is, are), omega (arith, is))
numbered_behind s high low (x ∷ live) is are = (are.0, numbered_behind s high x.number.0 live is are.1)

numbered_by : (o : Option SubNo) (table : Table) → AreNumberedTo table.made 0 table.live → AreNumberedTo (table_after_end_if o table).made 0 (table_after_end_if o table).live
numbered_by None table are = are
numbered_by (Some sub) table are = numbered_without sub table.made 0 table.live are

numbered_if : (b : Bool) (branch : List ℕ) (o : Option SubNo) (table : Table) → AreNumberedTo table.made 0 table.live
    → AreNumberedTo (cond b (without_pending branch (table_after_end_if o table)) table).made 0 (cond b (without_pending branch (table_after_end_if o table)) table).live
numbered_if true branch o table are = numbered_by o table are
numbered_if false branch o table are = are

pub numbered : (ops : List TableOp) → AreNumberedTo (table_after ops).made 0 (table_after ops).live
numbered [] = omega arith
numbered (Puts a counts ∷ ops) = numbered ops
numbered (Subscribes a leg until ∷ ops) = numbered_behind _ (table_after ops).made 0 (table_after ops).live refl (numbered ops)
numbered (Refreshes sub until ∷ ops) = numbered_changed sub (renewed_subscription until) (λ s. refl) (table_after ops).made 0 (table_after ops).live (numbered ops)
numbered (Receives sub request ∷ ops) = numbered_changed sub (subscription_after_request request) (λ s. refl) (table_after ops).made 0 (table_after ops).live (numbered ops)
numbered (Notifies sub branch ∷ ops) = numbered_changed sub subscription_after_notify (λ s. refl) (table_after ops).made 0 (table_after ops).live (numbered ops)
numbered (Ends sub ∷ ops) = numbered_without sub (table_after ops).made 0 (table_after ops).live (numbered ops)
numbered (Responds branch code ∷ ops) = numbered_if (is_final code) branch (subscription_refused_by branch code (table_after ops)) (table_after ops) (numbered ops)
