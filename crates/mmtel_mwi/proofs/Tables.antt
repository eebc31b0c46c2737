-- What is done to the subscription at an index, as what is done to the table; and where none has the number.
use Rattle.std.proofs.Common.{◌≡◌, ◌++◌, ◌∷◌, [], ℕ, zero, suc, refl, List, Bool, true, false, Some, None, append-nil, ap, sym, slice_set, get_or, ◌∙◌}
use Rattle.std.specs.Prelude.{is_some, position}
use Rattle.std.specs.Option.{option_map}
use Rattle.mmtel_leg.specs.Dialogues.{receive_result}
use Rattle.mmtel_leg.specs.declared.dialogues.InFlight.TheVariants as in_flight
use Rattle.mmtel_message.specs.Message.{Message}
use Rattle.mmtel_message.specs.declared.messages.Start.{Start}
use Rattle.mmtel_types.specs.declared.addrs.Addr.{Addr}
use Rattle.mmtel_mwi.specs.Boxes.{Table, changed, is_live, is_numbered, notify_request, notify_request_of, pending_of, request_check, request_check_of, subscription_after_notify, table_after_notify}
use Rattle.mmtel_types.specs.declared.numbers.SubNo.{SubNo}
use Rattle.mmtel_mwi.specs.declared.subscriptions.Subscription.{Subscription}
use Rattle.mmtel_mwi.proofs.Places.{changed_nowhere, changed_there, found_nowhere, found_there}

-- the subscription of the number is at this index
abbrev pub StandsAt : SubNo → List Subscription → ℕ → Subscription → Type 0
StandsAt sub live at x = (position (is_numbered sub) live ≡ Some at) × (x ≡ get_or live at x)

-- or at none
abbrev pub IsGone : SubNo → List Subscription → Type 0
IsGone sub live = position (is_numbered sub) live ≡ None

pub lives_there : (sub : SubNo) (t : Table) (at : ℕ) (x : Subscription) → StandsAt sub t.live at x → is_live sub t ≡ true
lives_there sub t at x there = ap is_some (found_there (is_numbered sub) t.live at x there.0 there.1)

pub lives_nowhere : (sub : SubNo) (t : Table) → IsGone sub t.live → is_live sub t ≡ false
lives_nowhere sub t gone = ap is_some (found_nowhere (is_numbered sub) t.live gone)

pub request_check_there : (sub : SubNo) (m : Message Start) (t : Table) (at : ℕ) (x : Subscription) → StandsAt sub t.live at x → receive_result x.leg.dialogue m in_flight.None ≡ request_check sub m t
request_check_there sub m t at x there = ap (request_check_of m) (sym (found_there (is_numbered sub) t.live at x there.0 there.1))

-- it is replaced by another
pub changed_to : (sub : SubNo) (f : Subscription → Subscription) (live : List Subscription) (at : ℕ) (x y : Subscription) → StandsAt sub live at x → y ≡ f x
    → slice_set live at y ≡ changed (is_numbered sub) f live
changed_to sub f live at x y there is = ap (λ (z : Subscription). slice_set live at z) is ∙ changed_there (is_numbered sub) f live at x there.0 there.1

pub notify_request_there : (sip : Addr) (sub : SubNo) (last : Bool) (branch : List ℕ) (now : ℕ) (t : Table) (at : ℕ) (x : Subscription) → StandsAt sub t.live at x
    → Some (notify_request_of sip last branch now t x) ≡ notify_request sip sub last branch now t
notify_request_there sip sub last branch now t at x there =
    ap (option_map (notify_request_of sip last branch now t)) (sym (found_there (is_numbered sub) t.live at x there.0 there.1))

pub notify_request_nowhere : (sip : Addr) (sub : SubNo) (last : Bool) (branch : List ℕ) (now : ℕ) (t : Table) → IsGone sub t.live → None ≡ notify_request sip sub last branch now t
notify_request_nowhere sip sub last branch now t gone = ap (option_map (notify_request_of sip last branch now t)) (sym (found_nowhere (is_numbered sub) t.live gone))

asked_there : (sub : SubNo) (branch : List ℕ) (t : Table) → is_live sub t ≡ true → t.pending ++ record { branch = branch; sub = sub } ∷ [] ≡ t.pending ++ pending_of sub branch (is_live sub t)
asked_there sub branch t lives = ap (λ (b : Bool). t.pending ++ pending_of sub branch b) (sym lives)

asked_nowhere : (sub : SubNo) (branch : List ℕ) (t : Table) → is_live sub t ≡ false → t.pending ≡ t.pending ++ pending_of sub branch (is_live sub t)
asked_nowhere sub branch t gone = sym (append-nil t.pending) ∙ ap (λ (b : Bool). t.pending ++ pending_of sub branch b) (sym gone)

pub table_after_notify_there : (sub : SubNo) (branch : List ℕ) (t : Table) (at : ℕ) (x y : Subscription) → StandsAt sub t.live at x → y ≡ subscription_after_notify x
    → record t { live = slice_set t.live at y; pending = t.pending ++ record { branch = branch; sub = sub } ∷ [] } ≡ table_after_notify sub branch t
table_after_notify_there sub branch t at x y there is =
    let live = changed_to sub subscription_after_notify t.live at x y there is in
    let asked = asked_there sub branch t (lives_there sub t at x there) in
    λ i. record { mailboxes = t.mailboxes; made = t.made; live = live i; pending = asked i }

pub table_after_notify_nowhere : (sub : SubNo) (branch : List ℕ) (t : Table) → IsGone sub t.live → t ≡ table_after_notify sub branch t
table_after_notify_nowhere sub branch t gone =
    let live = changed_nowhere (is_numbered sub) subscription_after_notify t.live gone in
    let asked = asked_nowhere sub branch t (lives_nowhere sub t gone) in
    λ i. record { mailboxes = t.mailboxes; made = t.made; live = live i; pending = asked i }

-- ---- what changes nothing

-- writing a subscription back unchanged changes nothing
pub put_back : (live : List Subscription) (at : ℕ) (x y : Subscription) → x ≡ get_or live at x → y ≡ x → slice_set live at y ≡ live
put_back [] at x y is same = refl
put_back (z ∷ live) zero x y is same = ap (λ (s : Subscription). s ∷ live) (same ∙ is)
put_back (z ∷ live) (suc at) x y is same = ap (λ (l : List Subscription). z ∷ l) (put_back live at x y is same)

pub gone_same : (sub : SubNo) (f : Subscription → Subscription) (t : Table) → IsGone sub t.live → t ≡ record t { live = changed (is_numbered sub) f t.live }
gone_same sub f t gone = ap (λ (l : List Subscription). record t { live = l }) (changed_nowhere (is_numbered sub) f t.live gone)
