-- Queries on indistinguishable tables have the same results.
use Rattle.std.proofs.Common.{◌≡◌, ℕ, Bool, false, List, refl, ap, sym, ◌∙◌, cond, Option, Some, None}
use Rattle.std.specs.Prelude.{count_by, is_some, nat_le, position}
use Rattle.std.specs.Option.{option_map}
use Rattle.mmtel_leg.specs.declared.legs.Released.{Released}
use Rattle.mmtel_leg.specs.declared.legs.Released.TheVariants as released
use Rattle.mmtel_sheet_values.specs.declared.values.Sheet.{Sheet}
use Rattle.mmtel_transaction.specs.declared.words.TKey.{TKey}
use Rattle.mmtel_types.specs.declared.numbers.Account.{Account}
use Rattle.mmtel_types.specs.declared.numbers.CallNo.{CallNo}
use Rattle.mmtel_types.specs.declared.numbers.Peer.{Peer}
use Rattle.mmtel_types.specs.declared.sides.Side.{Side}
use Rattle.mmtel_types.specs.declared.sides.Side.TheVariants.{Caller, Callee}
use Rattle.mmtel_call_services.specs.CallConfig.{calls_among}
use Rattle.mmtel_call.specs.Detaching.{fits, fits_in, is_detached}
use Rattle.mmtel_call.specs.declared.calls.Call.{Call}
use Rattle.mmtel_call.specs.declared.calls.Phase.{Phase}
use Rattle.mmtel_call.specs.declared.calls.Phase.TheVariants.{Detached, Established, Offered, Over}
use Rattle.mmtel_call_theorems.specs.Noninterference.PublicCall.{public_phase, public_released}
use Rattle.mmtel_call_theorems.specs.Noninterference.Roles.{Role}
use Rattle.mmtel_b2bua.specs.Entries.{accounts_of, has_received_key, has_sent_branch, is_live}
use Rattle.mmtel_b2bua.specs.Detaching.{can_restore, entry_at, entry_of, has_detached_leg}
use Rattle.mmtel_b2bua.specs.Queries.{call_and_side, first_side, has_side, inviting_side, live, party_in_phase, party_in_remaining, party_of, side_by_dialog, side_by_invite_key, side_in_phase, side_in_remaining, side_of}
use Rattle.mmtel_b2bua.specs.Tables.{is_full, is_opening, most_calls}
use Rattle.mmtel_b2bua.specs.declared.entries.Entry.{Entry}
use Rattle.mmtel_b2bua.specs.declared.entries.InviteKey.{InviteKey}
use Rattle.mmtel_b2bua.specs.declared.signals.Signal.{Signal}
use Rattle.mmtel_b2bua_theorems.specs.EquivalentTables.{EquivalentEntries, EquivalentEntry}
use Rattle.mmtel_b2bua_theorems.specs.Queries.{EquivalentTablesAnswerEqually}
use Rattle.mmtel_b2bua_theorems.specs.Signals.{public_signal}
use Rattle.mmtel_b2bua_theorems.proofs.ReleasedLegs.{entry-at, entry-equivalent}
use Rattle.mmtel_b2bua_theorems.proofs.EquivalentSignals.{OfCalls, opening-same}
use Rattle.mmtel_b2bua_theorems.proofs.Places.{EquivalentAt, count-same, gathered-same, position-same}
use Rattle.mmtel_b2bua_theorems.proofs.EquivalentEntries.{accounts-same, live-same, received-same, sent-same, through}

module _ (laws : OfCalls) (records : List Sheet) (known : Peer → Bool) where
  -- ---- sides

  side-same : (p : Entry → Option Side) → ((e f : Entry) → EquivalentEntry records known e f → p e ≡ p f) → (g h : Option Entry) → EquivalentAt records known g h → side_of p g ≡ side_of p h
  side-same p same None None a = refl
  side-same p same None (Some f) a = absurd a
  side-same p same (Some e) None a = absurd a
  side-same p same (Some e) (Some f) a =
      ap (λ (n : CallNo). option_map (λ (side : Side). (n, side)) (p e)) (ap (λ (c : Call). c.opening.number) a.calls.same)
      ∙ ap (λ (o : Option Side). option_map (call_and_side f) o) (same e f a)

  first-same : (p : Entry → Option Side) → ((e f : Entry) → EquivalentEntry records known e f → p e ≡ p f) → (es fs : List Entry) → EquivalentEntries records known es fs → first_side p es ≡ first_side p fs
  first-same p same es fs a =
      let at : position (has_side p) es ≡ position (has_side p) fs = position-same records known (has_side p) (has_side p) (λ e f b. ap (λ (o : Option Side). is_some o) (same e f b)) es fs a in
      side-same p same (entry_at (position (has_side p) es) es) (entry_at (position (has_side p) es) fs) (entry-at laws records known (position (has_side p) es) es fs a)
      ∙ ap (λ (o : Option ℕ). side_of p (entry_at o fs)) at

  left_determined : (call_id local remote : List ℕ) (left : Released) → side_in_remaining call_id local remote (public_released known left) ≡ side_in_remaining call_id local remote left
  left_determined call_id local remote (released.Caller leg) = refl
  left_determined call_id local remote (released.Callee leg) = refl

  named_determined : (call_id local remote : List ℕ) (p : Phase) → side_in_phase call_id local remote (public_phase known p) ≡ side_in_phase call_id local remote p
  named_determined call_id local remote (Offered x) = refl
  named_determined call_id local remote (Established x stage) = refl
  named_determined call_id local remote (Detached detached) = left_determined call_id local remote detached.remaining
  named_determined call_id local remote (Over cause) = refl

  named-same : (call_id local remote : List ℕ) (e f : Entry) → EquivalentEntry records known e f → side_by_dialog call_id local remote e ≡ side_by_dialog call_id local remote f
  unfolding side_by_dialog
  named-same call_id local remote e f a = through laws.determine records known (λ (c : Call). side_in_phase call_id local remote c.phase) (λ c. named_determined call_id local remote c.phase) e f a

  invite-key-same : (key : TKey) (e f : Entry) → EquivalentEntry records known e f → side_by_invite_key key e ≡ side_by_invite_key key f
  unfolding side_by_invite_key
  invite-key-same key e f a =
      ap (λ (b : Bool). cond b (inviting_side key e.invites) None) (live-same laws.determine records known e f a)
      ∙ ap (λ (l : List InviteKey). cond (is_live f) (inviting_side key l) None) a.invites

  -- ---- the peer and the account of a side

  party_left_determined : (origin served : Option Account) (side : Side) (left : Released) → party_in_remaining origin served side (public_released known left) ≡ party_in_remaining origin served side left
  party_left_determined origin served Caller (released.Caller leg) = refl
  party_left_determined origin served Caller (released.Callee leg) = refl
  party_left_determined origin served Callee (released.Caller leg) = refl
  party_left_determined origin served Callee (released.Callee leg) = refl

  party_determined : (origin : Option Account) (side : Side) (p : Phase) → party_in_phase origin side (public_phase known p) ≡ party_in_phase origin side p
  party_determined origin Caller (Offered x) = refl
  party_determined origin Callee (Offered x) = refl
  party_determined origin Caller (Established x stage) = refl
  party_determined origin Callee (Established x stage) = refl
  party_determined origin side (Detached detached) = party_left_determined origin _ side detached.remaining
  party_determined origin side (Over cause) = refl

  party-at : (side : Side) (g h : Option Entry) → EquivalentAt records known g h → party_of side g ≡ party_of side h
  party-at side None None a = refl
  party-at side None (Some f) a = absurd a
  party-at side (Some e) None a = absurd a
  party-at side (Some e) (Some f) a = through laws.determine records known (λ (c : Call). party_in_phase c.opening.served.origin side c.phase) (λ c. party_determined c.opening.served.origin side c.phase) e f a

  -- ---- a leg that is detached

  detached_determined : (p : Phase) → is_detached (public_phase known p) ≡ is_detached p
  detached_determined (Offered x) = refl
  detached_determined (Established x stage) = refl
  detached_determined (Detached detached) = refl
  detached_determined (Over cause) = refl

  away-at : (g h : Option Entry) → EquivalentAt records known g h → has_detached_leg g ≡ has_detached_leg h
  away-at None None a = refl
  away-at None (Some f) a = absurd a
  away-at (Some e) None a = absurd a
  away-at (Some e) (Some f) a = through laws.determine records known (λ (c : Call). is_detached c.phase) (λ c. detached_determined c.phase) e f a

  fits_determined : (leg left : Released) → fits (public_released known leg) (public_released known left) ≡ fits leg left
  fits_determined (released.Caller leg) (released.Caller other) = refl
  fits_determined (released.Caller leg) (released.Callee other) = refl
  fits_determined (released.Callee leg) (released.Caller other) = refl
  fits_determined (released.Callee leg) (released.Callee other) = refl

  fits_in_determined : (p : Phase) (leg : Released) → fits_in (public_phase known p) (public_released known leg) ≡ fits_in p leg
  fits_in_determined (Offered x) leg = refl
  fits_in_determined (Established x stage) leg = refl
  fits_in_determined (Detached detached) leg = fits_determined leg detached.remaining
  fits_in_determined (Over cause) leg = refl

  fits-at : (one other : Released) → public_released known one ≡ public_released known other → (g h : Option Entry) → EquivalentAt records known g h → can_restore one g ≡ can_restore other h
  fits-at one other same None None a = refl
  fits-at one other same None (Some f) a = absurd a
  fits-at one other same (Some e) None a = absurd a
  fits-at one other same (Some e) (Some f) a =
      sym (fits_in_determined e.call.phase one)
      ∙ (ap (λ (c : Call). fits_in c.phase (public_released known one)) a.calls.same
      ∙ (ap (λ (l : Released). fits_in (public_phase known f.call.phase) l) same
      ∙ fits_in_determined f.call.phase other))

  -- ---- how many

  counts-same : (account : ℕ) (es fs : List Entry) → EquivalentEntries records known es fs → live account es ≡ live account fs
  counts-same account es fs a =
      ap (λ (l : List Account). calls_among l account) (gathered-same records known accounts_of accounts_of (λ e f b. accounts-same laws.determine records known e f b) es fs a)

  full-same : (role second : Role) (x y : Signal) (es fs : List Entry) → EquivalentEntries records known es fs → public_signal role x ≡ public_signal second y → is_full x es ≡ is_full y fs
  full-same role second x y es fs a said =
      ap (λ (b : Bool). cond b (nat_le most_calls (count_by is_live es)) false) (opening-same role second x y said)
      ∙ ap (λ (n : ℕ). cond (is_opening y) (nat_le most_calls n) false) (count-same records known is_live is_live (λ e f b. live-same laws.determine records known e f b) es fs a)

pub equivalent_tables_answer_equally : OfCalls → EquivalentTablesAnswerEqually
equivalent_tables_answer_equally laws = record {
  named = λ records known call_id local remote t u a. first-same laws records known (side_by_dialog call_id local remote) (λ e f b. named-same laws records known call_id local remote e f b) t.entries u.entries a.entries;
  inviting = λ records known key t u a. first-same laws records known (side_by_invite_key key) (λ e f b. invite-key-same laws records known key e f b) t.entries u.entries a.entries;
  sent = λ records known branch t u a. position-same records known (has_sent_branch branch) (has_sent_branch branch) (λ e f b. sent-same laws.determine records known branch e f b) t.entries u.entries a.entries;
  answered = λ records known key t u a. position-same records known (has_received_key key) (has_received_key key) (λ e f b. received-same laws.determine records known key e f b) t.entries u.entries a.entries;
  sides = λ records known number side t u a. party-at laws records known side (entry_of number t.entries) (entry_of number u.entries) (entry-equivalent laws records known number t.entries u.entries a.entries);
  live = λ records known account t u a. counts-same laws records known account t.entries u.entries a.entries;
  full = λ records known role second x y t u a said. full-same laws records known role second x y t.entries u.entries a.entries said;
  detached = λ records known number t u a. away-at laws records known (entry_of number t.entries) (entry_of number u.entries) (entry-equivalent laws records known number t.entries u.entries a.entries);
  fits = λ records known number one other t u a same. fits-at laws records known one other same (entry_of number t.entries) (entry_of number u.entries)
      (entry-equivalent laws records known number t.entries u.entries a.entries);
}
