-- Numbers separated by dots: they are tokens, and a number more makes such numbers again; and the first index of parameters.
use Rattle.std.proofs.Common.{◌≡◌, ◌==◌, Bool, true, false, ◌&&◌, ℕ, ◌+◌, ◌<◌, List, [], ◌∷◌, ◌++◌, length, take, drop, get_or, Option, Some}
use Rattle.std.proofs.Common.{None, refl, sym, ap, ◌∙◌, arith, inl, inr, append_assoc, take-suc, drop-cons, add-one, take_all, append-nil}
use Rattle.std.specs.Prelude.{codes}
use Rattle.std.specs.Option.{unwrap_or}
use Rattle.std.proofs.lemmas.Bool.{cases_Bool}
use Rattle.std.proofs.lemmas.Bool.Decides.{nat_tests}
use Rattle.std.proofs.lemmas.List.{drop_all}
use Rattle.mmtel_base.specs.Classes.{in_class, is_digit, IsAll}
use Rattle.mmtel_base.specs.declared.classes.Class.TheVariants.{Token}
use Rattle.mmtel_base.proofs.Runs.{and_true}
use Rattle.mmtel_lex.specs.Grammar.{IsToken, AreParams}
use Rattle.mmtel_lex.specs.declared.values.Param.{Param}
use Rattle.mmtel_message.specs.Entries.{dotted_step, goes_on, is_dotted, is_index_value}
use Rattle.mmtel_history.specs.HistoryInfo.{is_index, without_index}

digit_token : (b : ℕ) → is_digit b ≡ true → in_class Token b ≡ true
unfolding in_class
digit_token b e = grind (arith, nat_tests)

dot_token : (b : ℕ) → (b == 46) ≡ true → in_class Token b ≡ true
unfolding in_class
dot_token b e = grind (arith, nat_tests)

step_token : (d : Bool) (b : ℕ) (n : Bool) → dotted_step d b ≡ Some n → in_class Token b ≡ true
step_token d b n e =
    elim (cases_Bool (is_digit b)) [
      | inl y ↦ digit_token b y
      | inr m ↦ elim (cases_Bool (d && b == 46)) [
        | inl y ↦ dot_token b (and_true d (b == 46) y).1
        | inr k ↦ absurd (let f = rw (m, k) at e in cc)
      ]
    ]

dots_by : (d : Bool) (b : ℕ) (s : List ℕ) (o : Option Bool) → dotted_step d b ≡ o → goes_on (λ n. is_dotted n s) o ≡ true → ((n : Bool) → is_dotted n s ≡ true → IsAll Token s) → IsAll Token (b ∷ s)
dots_by d b s None e h more = absurd cc
dots_by d b s (Some n) e h more = rw (step_token d b n e, more n h) refl

dotted_tokens : (d : Bool) (s : List ℕ) → is_dotted d s ≡ true → IsAll Token s
unfolding is_dotted
dotted_tokens d [] e = refl
dotted_tokens d (b ∷ s) e = dots_by d b s (dotted_step d b) refl e (λ n h. dotted_tokens n s h)

pub dotted_token : (s : List ℕ) → is_dotted false s ≡ true → IsToken s
unfolding is_dotted
dotted_token [] e = absurd cc
dotted_token (b ∷ s) e = record { filled = omega arith; each = dotted_tokens false (b ∷ s) e }

more_by : (s : List ℕ) (o : Option Bool) → ((n : Bool) → is_dotted n s ≡ true → is_dotted n (s ++ codes ".1") ≡ true) → goes_on (λ n. is_dotted n s) o ≡ true → goes_on (λ n. is_dotted n (s ++ codes ".1")) o ≡ true
more_by s None more e = e
more_by s (Some n) more e = more n e

dots_more : (d : Bool) (s : List ℕ) → is_dotted d s ≡ true → is_dotted d (s ++ codes ".1") ≡ true
unfolding is_dotted
dots_more true [] e = refl
dots_more false [] e = absurd cc
dots_more d (b ∷ s) e = more_by s (dotted_step d b) (λ n h. dots_more n s h) e

pub dotted_more : (s : List ℕ) → is_dotted false s ≡ true → is_dotted false (s ++ codes ".1") ≡ true
dotted_more s e = dots_more false s e

-- ---- the first index

pub index_dotted : (o : Option (List ℕ)) → is_index_value o ≡ true → is_dotted false (unwrap_or o []) ≡ true
index_dotted None e = absurd cc
index_dotted (Some v) e = e

pub others_readable : (ps : List Param) → AreParams ps → AreParams (without_index ps)
others_readable [] are = tt
others_readable (p ∷ ps) are =
    elim (cases_Bool (is_index p)) [
      | inl y ↦ rw y are.1
      | inr n ↦ rw n (are.0, others_readable ps are.1)
    ]

-- the parameters up to here, of which none is an index, and the others
abbrev pub PassedBy : List Param → ℕ → Type 0
PassedBy ps i = without_index ps ≡ take i ps ++ without_index (drop i ps)

pub passes : (ps : List Param) (i : ℕ) (x : Param) → i < length ps → x ≡ get_or ps i x → is_index x ≡ false → PassedBy ps i → PassedBy ps (i + 1)
passes ps i x lt is none so_far =
    let one : drop i ps ≡ x ∷ drop (i + 1) ps = rw (add-one, drop-cons ps i x lt, sym is) refl in
    let step : without_index (x ∷ drop (i + 1) ps) ≡ x ∷ without_index (drop (i + 1) ps) = rw none refl in
    let front : take (i + 1) ps ≡ take i ps ++ x ∷ [] = rw (add-one, take-suc ps i x lt, sym is) refl in
    so_far ∙ ap (λ (l : List Param). take i ps ++ without_index l) one ∙ ap (λ (l : List Param). take i ps ++ l) step ∙ sym (append_assoc (take i ps) (x ∷ []) (without_index (drop (i + 1) ps)))
    ∙ ap (λ (l : List Param). l ++ without_index (drop (i + 1) ps)) (sym front)

pub stops_here : (ps : List Param) (i : ℕ) (x : Param) → i < length ps → x ≡ get_or ps i x → is_index x ≡ true → PassedBy ps i → without_index ps ≡ take i ps ++ drop (i + 1) ps
stops_here ps i x lt is here so_far =
    let one : drop i ps ≡ x ∷ drop (i + 1) ps = rw (add-one, drop-cons ps i x lt, sym is) refl in
    let step : without_index (x ∷ drop (i + 1) ps) ≡ drop (i + 1) ps = rw here refl in
    so_far ∙ ap (λ (l : List Param). take i ps ++ without_index l) one ∙ ap (λ (l : List Param). take i ps ++ l) step

pub none_there : (ps : List Param) (i : ℕ) → i ≡ length ps → PassedBy ps i → without_index ps ≡ ps
none_there ps i e so_far =
    let none : drop i ps ≡ [] = drop_all i ps (omega arith) in
    let all : take i ps ≡ ps = take_all i ps (omega arith) in
    so_far ∙ ap (λ (l : List Param). take i ps ++ without_index l) none ∙ append-nil (take i ps) ∙ all
