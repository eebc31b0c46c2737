-- The parts of a list between the bytes at which it is split.
use Rattle.std.proofs.Common.{◌≡◌, ◌==◌, true, false, not, nat_lt, ℕ, ◌<◌, List, [], ◌∷◌, length, Option, Some, None, MatchOption, Bor, refl, sym, subst, inl, inr, arith}
use Rattle.std.specs.Prelude.{IfSome}
use Rattle.std.specs.List.{slice_split, list_all, prefix_len}
use Rattle.std.specs.Option.{option_map}
use Rattle.std.proofs.lemmas.List.{length-append}
use Rattle.std.proofs.lemmas.List.Splits.{slice_split_first}
use Rattle.std.proofs.lemmas.Bool.{cases_Bool, ltb-true}
use Rattle.mmtel_base.specs.Scanning.{split_once_at, IsFree}
use Rattle.mmtel_base.proofs.ChainTheorems.{some_is, some_none}
use Rattle.mmtel_base.proofs.Runs.{and_true, split_takes, split_none}
use Rattle.mmtel_sdp.specs.Sdp.{words, is_filled, first_word, media_line, MediaLine}

abbrev pub cut : ℕ → List ℕ → List (List ℕ)
cut b s = slice_split (λ x. x == b) s

pub cut_more : (b : ℕ) (s : List ℕ) (x : List ℕ × List ℕ) → split_once_at b s ≡ Some x → cut b s ≡ x.0 ∷ cut b x.1
unfolding split_once_at
cut_more b s x e =
    elim (cases_Bool (nat_lt (prefix_len (λ x. not (x == b)) s) (length s))) [
      | inl y ↦
          subst (λ (z : List ℕ × List ℕ). cut b s ≡ z.0 ∷ cut b z.1) (some_is _ x (rw y at e)) (slice_split_first (λ x. x == b) s 0 (ltb-true _ _ y))
      | inr n ↦ absurd (some_none x None refl (rw n at e))
    ]

pub cut_free : (b : ℕ) (s : List ℕ) → IsFree b s → cut b s ≡ s ∷ []
cut_free b [] free = refl
cut_free b (c ∷ s) free =
    let both = and_true (not (c == b)) (list_all (λ x. not (x == b)) s) free in
    let here : (c == b) ≡ false = grind (arith, both.0) in
    rw (here, cut_free b s both.1) refl

pub cut_one : (b : ℕ) (s : List ℕ) → split_once_at b s ≡ None → cut b s ≡ s ∷ []
cut_one b s e = cut_free b s (split_none b s e)

pub part_shorter : (b : ℕ) (s : List ℕ) (x : List ℕ × List ℕ) → split_once_at b s ≡ Some x → length x.1 < length s
part_shorter b s x e =
    let whole = split_takes b s x e in
    rw (whole, length-append x.0 (b ∷ x.1)) (omega arith)

abbrev Front : Type 0
Front = Option (Bor (List ℕ) × Bor (List ℕ))

pub words_by : (r : Front) (s : List ℕ) → option_map (λ x. (x.0.now, x.1.now)) r ≡ split_once_at 32 s → MatchOption r (words s ≡ s ∷ []) (λ x. words s ≡ x.0.now ∷ words x.1.now)
unfolding words
words_by None s e = cut_one 32 s (sym e)
words_by (Some x) s e = cut_more 32 s (x.0.now, x.1.now) (sym e)

pub shorter_by : (b : ℕ) (r : Front) (s : List ℕ) → option_map (λ x. (x.0.now, x.1.now)) r ≡ split_once_at b s → IfSome r (λ x. length x.1.now < length s)
shorter_by b None s e = tt
shorter_by b (Some x) s e = part_shorter b s (x.0.now, x.1.now) (sym e)

-- there is at least one part
pub has_first : (b : ℕ) (s : List ℕ) → (x : List ℕ × List (List ℕ)) × (cut b s ≡ x.0 ∷ x.1)
has_first b [] = (([], []), refl)
has_first b (c ∷ s) =
    let more = has_first b s in
    elim (cases_Bool (c == b)) [
      | inl y ↦ (([], cut b s), rw y refl)
      | inr n ↦ ((c ∷ more.0.0, more.0.1), rw (n, more.1) refl)
    ]

abbrev pub stated : List ℕ → List ℕ → List ℕ → List ℕ → Option MediaLine
stated kind port proto format = Some (record { kind = kind; port = port; proto = proto; format = format })

pub media_line_by : (head kind r port q proto p : List ℕ) → list_all is_filled (words head) ≡ true → words head ≡ kind ∷ words r → words r ≡ port ∷ words q → words q ≡ proto ∷ words p →
    media_line head ≡ stated kind port proto (first_word (words p))
unfolding media_line words
media_line_by head kind r port q proto p filled one two three =
    let last = has_first 32 p in
    let whole : words head ≡ kind ∷ (port ∷ (proto ∷ (last.0.0 ∷ last.0.1))) = rw (one, two, three, last.1) refl in
    rw (filled, whole, last.1) refl
