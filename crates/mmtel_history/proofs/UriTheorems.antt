-- What a mark and a cause do to what a URI says.
use Rattle.std.proofs.Common.{◌≡◌, Bool, true, false, ◌||◌, ℕ, List, [], ◌∷◌, ◌++◌, drop, Option, Some, None, refl, ap, ◌∙◌, inl, inr, append_assoc}
use Rattle.std.specs.Prelude.{codes, is_some}
use Rattle.std.specs.List.{list_any, find}
use Rattle.std.proofs.Math.Bool.{or-true}
use Rattle.std.proofs.lemmas.Bool.{cases_Bool}
use Rattle.std.proofs.lemmas.List.Folds.{list_any-append}
use Rattle.mmtel_base.specs.Scanning.{split_once_at, IsFree}
use Rattle.mmtel_base.proofs.Runs.{split_again, split_front, split_none, split_takes}
use Rattle.mmtel_lex.proofs.UriPartTheorems.{host_more, parts_more}
use Rattle.mmtel_lex.specs.UriParts.{parts, text_before, text_after, user_part, host_part}
use Rattle.mmtel_history.specs.EntryUri.{is_cause, cause_in, cause_of, hides, is_marked, has_headers, mark_text, marked_uri}

-- ---- a mark

mark_free : (b : Bool) → IsFree 64 (mark_text b)
mark_free true = refl
mark_free false = refl

mark_hides : list_any hides (parts 38 (codes "Privacy=history")) ≡ true
unfolding hides split_once_at
mark_hides = refl

record Marked (h t : List ℕ) : Type 0 where
  front : text_before 63 (h ++ t) ≡ text_before 63 h
  hidden : list_any hides (parts 38 (text_after 63 (h ++ t))) ≡ true

mark_by : (h : List ℕ) (o : Option (List ℕ × List ℕ)) → split_once_at 63 h ≡ o → Marked h (mark_text (is_some o))
mark_by h None e =
    let at : split_once_at 63 (h ++ codes "?Privacy=history") ≡ Some (h, codes "Privacy=history") = split_again 63 h (codes "Privacy=history") (split_none 63 h e) in
    record { front = rw (at, e) refl; hidden = rw at mark_hides }
mark_by h (Some x) e =
    let t : List ℕ = codes "&Privacy=history" in
    let whole : h ++ codes "&Privacy=history" ≡ x.0 ++ 63 ∷ (x.1 ++ codes "&Privacy=history") =
    ap (λ (l : List ℕ). l ++ codes "&Privacy=history") (split_takes 63 h x e) ∙ append_assoc x.0 (63 ∷ x.1) (codes "&Privacy=history") in
    let at : split_once_at 63 (h ++ codes "&Privacy=history") ≡ Some (x.0, x.1 ++ codes "&Privacy=history") =
    ap (λ (l : List ℕ). split_once_at 63 l) whole ∙ split_again 63 x.0 (x.1 ++ codes "&Privacy=history") (split_front 63 h x e) in
    let cut : parts 38 (x.1 ++ codes "&Privacy=history") ≡ parts 38 x.1 ++ parts 38 (codes "Privacy=history") = parts_more 38 x.1 (codes "Privacy=history") in
    let last : list_any hides (parts 38 x.1 ++ parts 38 (codes "Privacy=history")) ≡ true =
    list_any-append hides (parts 38 x.1) (parts 38 (codes "Privacy=history")) ∙ ap (λ (b : Bool). list_any hides (parts 38 x.1) || b) mark_hides ∙ or-true (list_any hides (parts 38 x.1)) in
    record { front = rw (at, e) refl; hidden = rw at (ap (λ (l : List (List ℕ)). list_any hides l) cut ∙ last) }

pub same_cause : (u v : List ℕ) → text_before 63 (host_part u) ≡ text_before 63 (host_part v) → cause_of u ≡ cause_of v
unfolding cause_of
same_cause u v e = ap (λ (f : List ℕ). cause_in (find is_cause (drop 1 (parts 59 f)))) e

pub same_mark : (u v : List ℕ) → text_after 63 (host_part u) ≡ text_after 63 (host_part v) → is_marked u ≡ is_marked v
unfolding is_marked
same_mark u v e = ap (λ (f : List ℕ). list_any hides (parts 38 f)) e

is_marked_by : (u h : List ℕ) → host_part u ≡ h → list_any hides (parts 38 (text_after 63 h)) ≡ true → is_marked u ≡ true
unfolding is_marked
is_marked_by u h e is = rw e is

-- a marked URI is marked, and its cause is as it was
pub record MarkTheorem (u : List ℕ) : Type 0 where
  pub marked : is_marked (marked_uri u) ≡ true
  pub cause : cause_of (marked_uri u) ≡ cause_of u

pub mark_theorem : (u : List ℕ) → MarkTheorem u
unfolding marked_uri
mark_theorem u =
    elim (cases_Bool (is_marked u)) [
      | inl y ↦ record { marked = rw (y, y) refl; cause = rw y refl }
      | inr n ↦
          let t : List ℕ = mark_text (has_headers u) in
          let host : host_part (u ++ mark_text (has_headers u)) ≡ host_part u ++ mark_text (has_headers u) = host_more u (mark_text (has_headers u)) (mark_free (has_headers u)) in
          let is = mark_by (host_part u) (split_once_at 63 (host_part u)) refl in
          record {
            marked = rw n (is_marked_by (u ++ mark_text (has_headers u)) _ host is.hidden);
            cause = rw n (same_cause (u ++ mark_text (has_headers u)) u (ap (λ (l : List ℕ). text_before 63 l) host ∙ is.front));
          }
    ]
