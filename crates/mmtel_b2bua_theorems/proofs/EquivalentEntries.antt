-- The results of the table's queries on a call are determined by its public part.
use Rattle.std.proofs.Common.{◌≡◌, ℕ, ◌==◌, Bool, true, false, not, List, [], ◌∷◌, ◌++◌, refl, ap, sym, ◌∙◌, cond, Option, Some, None}
use Rattle.std.specs.Prelude.{option_to_list}
use Rattle.mmtel_sheet_values.specs.declared.values.Sheet.{Sheet}
use Rattle.mmtel_transaction.specs.declared.words.TKey.{TKey}
use Rattle.mmtel_types.specs.declared.numbers.Account.{Account}
use Rattle.mmtel_types.specs.declared.numbers.Peer.{Peer}
use Rattle.mmtel_call.specs.Settled.{has_received, has_sent, is_over_in, is_settled}
use Rattle.mmtel_call.specs.declared.calls.Call.{Call}
use Rattle.mmtel_call.specs.declared.calls.Phase.{Phase}
use Rattle.mmtel_call.specs.declared.calls.Phase.TheVariants.{Detached, Established, Offered, Over}
use Rattle.mmtel_call_theorems.specs.Noninterference.PublicParts.{PublicPartsDetermineQueries}
use Rattle.mmtel_call_theorems.specs.Noninterference.PublicCall.{nobody, public_part, public_phase}
use Rattle.mmtel_b2bua.specs.Entries.{accounts_of, beside, busy_beside, has_received_key, has_sent_branch, is_live, is_numbered, kept_entry, origin_in, origin_of, served_in, served_of}
use Rattle.mmtel_b2bua.specs.declared.entries.Entry.{Entry}
use Rattle.mmtel_b2bua_theorems.specs.EquivalentTables.{EquivalentEntries, EquivalentEntry}
use Rattle.mmtel_b2bua_theorems.proofs.Places.{gathered-same}

module _ (tell : PublicPartsDetermineQueries) (records : List Sheet) (known : Peer → Bool) where
  -- queries on indistinguishable calls have the results that their public parts determine
  pub through : {A : Type 0} (ask : Call → A) → ((c : Call) → ask (public_part known c) ≡ ask c) → (e f : Entry) → EquivalentEntry records known e f → ask e.call ≡ ask f.call
  through ask told e f a = sym (told e.call) ∙ (ap ask a.calls.same ∙ told f.call)

  pub number-same : (e f : Entry) → EquivalentEntry records known e f → e.call.opening.number.0 ≡ f.call.opening.number.0
  number-same e f a = ap (λ (c : Call). c.opening.number.0) a.calls.same

  pub over-same : (e f : Entry) → EquivalentEntry records known e f → is_over_in e.call.phase ≡ is_over_in f.call.phase
  over-same e f a = through (λ (c : Call). is_over_in c.phase) (λ c. tell.over known nobody c) e f a

  pub settled-same : (e f : Entry) → EquivalentEntry records known e f → is_settled e.call ≡ is_settled f.call
  settled-same e f a = through is_settled (λ c. tell.settled known nobody c) e f a

  pub live-same : (e f : Entry) → EquivalentEntry records known e f → is_live e ≡ is_live f
  unfolding is_live
  live-same e f a = ap not (over-same e f a)

  pub numbered-same : (number : ℕ) (e f : Entry) → EquivalentEntry records known e f → is_numbered number e ≡ is_numbered number f
  unfolding is_numbered
  numbered-same number e f a = ap (λ (n : ℕ). n == number) (number-same e f a)

  pub sent-same : (branch : Option (List ℕ)) (e f : Entry) → EquivalentEntry records known e f → has_sent_branch branch e ≡ has_sent_branch branch f
  unfolding has_sent_branch
  sent-same None e f a = refl
  sent-same (Some branch) e f a = through (has_sent branch) (λ c. tell.sent known nobody branch c) e f a

  pub received-same : (key : TKey) (e f : Entry) → EquivalentEntry records known e f → has_received_key key e ≡ has_received_key key f
  unfolding has_received_key
  received-same key e f a = through (has_received key) (λ c. tell.received known nobody key c) e f a

  -- ---- the accounts that they keep busy

  origin_determined : (p : Phase) (origin : Option Account) → origin_in (public_phase known p) origin ≡ origin_in p origin
  origin_determined (Offered x) origin = refl
  origin_determined (Established x stage) origin = refl
  origin_determined (Detached detached) origin = refl
  origin_determined (Over cause) origin = refl

  served_determined : (p : Phase) → served_in (public_phase known p) ≡ served_in p
  served_determined (Offered x) = refl
  served_determined (Established x stage) = refl
  served_determined (Detached detached) = refl
  served_determined (Over cause) = refl

  origin-same : (e f : Entry) → EquivalentEntry records known e f → origin_of e ≡ origin_of f
  unfolding origin_of
  origin-same e f a = through (λ (c : Call). origin_in c.phase c.opening.served.origin) (λ c. origin_determined c.phase c.opening.served.origin) e f a

  served-same : (e f : Entry) → EquivalentEntry records known e f → served_of e ≡ served_of f
  unfolding served_of
  served-same e f a = through (λ (c : Call). served_in c.phase) (λ c. served_determined c.phase) e f a

  pub accounts-same : (e f : Entry) → EquivalentEntry records known e f → accounts_of e ≡ accounts_of f
  unfolding accounts_of
  accounts-same e f a =
      ap (λ (o : Option Account). option_to_list o ++ option_to_list (served_of e)) (origin-same e f a)
      ∙ ap (λ (o : Option Account). option_to_list (origin_of f) ++ option_to_list o) (served-same e f a)

  beside-same : (number : ℕ) (e f : Entry) → EquivalentEntry records known e f → beside number e ≡ beside number f
  unfolding beside
  beside-same number e f a =
      ap (λ (b : Bool). cond b (option_to_list (origin_of e)) (accounts_of e)) (numbered-same number e f a)
      ∙ (ap (λ (o : Option Account). cond (is_numbered number f) (option_to_list o) (accounts_of e)) (origin-same e f a)
      ∙ ap (λ (l : List Account). cond (is_numbered number f) (option_to_list (origin_of f)) l) (accounts-same e f a))

  pub busy-same : (number : ℕ) (es fs : List Entry) → EquivalentEntries records known es fs → busy_beside number es ≡ busy_beside number fs
  busy-same number es fs a = gathered-same records known (beside number) (beside number) (λ e f b. beside-same number e f b) es fs a

  -- ---- what remains of one

  kept_if : (b c : Bool) (e f : Entry) → b ≡ c → EquivalentEntry records known e f → EquivalentEntries records known (cond b [] (e ∷ [])) (cond c [] (f ∷ []))
  kept_if true true e f same a = tt
  kept_if true false e f same a = absurd cc
  kept_if false true e f same a = absurd cc
  kept_if false false e f same a = (a, tt)

  pub kept-equivalent : (e f : Entry) → EquivalentEntry records known e f → EquivalentEntries records known (kept_entry e) (kept_entry f)
  kept-equivalent e f a = kept_if (is_settled e.call) (is_settled f.call) e f (settled-same e f a) a
