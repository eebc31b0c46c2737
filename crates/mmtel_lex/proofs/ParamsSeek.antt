-- Searching for a parameter in the bytes, one parameter after the other, as a loop does.
use Rattle.std.proofs.Common.{◌≡◌, true, false, ℕ, zero, suc, ◌≤◌, List, [], ◌∷◌, ◌++◌, length, Option, Some, None, refl, ap, ◌∙◌, arith, inl, inr}
use Rattle.std.specs.Prelude.{is_some}
use Rattle.std.proofs.lemmas.Bool.{cases_Bool}
use Rattle.std.specs.Option.{option_map}
use Rattle.std.specs.Str.{str_eq_ignore_ascii_case}
use Rattle.mmtel_base.specs.Chain.{◌>>=◌}
use Rattle.mmtel_base.specs.Scanning.{after_byte}
use Rattle.mmtel_base.proofs.ChainTheorems.{some_is, tail_of}
use Rattle.mmtel_lex.specs.Borrowed.{params_in, params_of_reading}
use Rattle.mmtel_lex.specs.Params.{first_param, param_value}
use Rattle.mmtel_lex.specs.Reading.{param_at, params_at, all_params_at, next_params}
use Rattle.mmtel_lex.specs.declared.values.Param.{Param}
use Rattle.mmtel_lex.specs.declared.faults.LexFault.TheVariants as lex
use Rattle.mmtel_lex.proofs.ParamsLoop.{ReadsOn, begins, ends, goes_on, is_done}

-- ---- what follows the parameters

-- with some parameters read before, the whole reads as these and the rest
pub record PassesOn (rest whole : List ℕ) : Type 0 where
  pub front : List Param
  pub reads : ReadsOn front rest whole

abbrev pub rest_of : Option (List Param × List ℕ) → Option (List ℕ)
rest_of read = option_map (λ x. x.1) read

pub pass_begins : (whole : List ℕ) → PassesOn whole whole
pass_begins whole = record { front = []; reads = begins whole }

pub pass_on : (rest tail after whole : List ℕ) (p : Param) → PassesOn rest whole → after_byte 59 rest ≡ Some tail → param_at tail ≡ Some (p, after) → length after ≤ length tail → PassesOn after whole
pass_on rest tail after whole p so_far e h shorter = record { front = so_far.front ++ p ∷ []; reads = goes_on so_far.front rest tail after whole p so_far.reads e h shorter }

pub pass_fails : (rest tail whole : List ℕ) → PassesOn rest whole → after_byte 59 rest ≡ Some tail → param_at tail ≡ None → None ≡ rest_of (all_params_at whole)
pass_fails rest tail whole so_far e h = rw (ends lex.Malformed so_far.front rest tail whole so_far.reads e h) refl

pub pass_ends : (rest whole : List ℕ) → PassesOn rest whole → after_byte 59 rest ≡ None → Some rest ≡ rest_of (all_params_at whole)
pass_ends rest whole so_far e = rw (is_done so_far.front rest whole so_far.reads e) refl

-- ---- what they are

pub read_both : (read : Option (List Param × List ℕ)) (rest : List ℕ) → Some rest ≡ rest_of read → (is_some read ≡ true) × (Some (params_of_reading read, rest) ≡ read)
read_both (Some x) rest e = (refl, ap (λ (r : List ℕ). Some (x.0, r)) (some_is rest x.1 e))
read_both None rest e = absurd cc

pub read_none : (read : Option (List Param × List ℕ)) → None ≡ rest_of read → None ≡ read
read_none (Some x) e = absurd cc
read_none None e = refl

-- ---- the first of a name

-- with some count that is large enough for the rest, the rest is readable, and its first of the name is that of the whole
pub record SeeksOn (name rest whole : List ℕ) : Type 0 where
  pub count : ℕ
  pub enough : length rest ≤ count
  pub readable : is_some (params_at count rest) ≡ true
  pub same : first_param name (params_in whole) ≡ first_param name (params_of_reading (params_at count rest))

pub seek_begins : (name whole : List ℕ) → is_some (all_params_at whole) ≡ true → SeeksOn name whole whole
unfolding all_params_at
seek_begins name whole e = record { count = length whole; enough = omega arith; readable = e; same = refl }

-- a parameter before what is read
abbrev with_first : Param → Option (List Param × List ℕ) → Option (List Param × List ℕ)
with_first p read = read >>= λ x. Some (p ∷ x.0, x.1)

over : (name : List ℕ) (p : Param) (read : Option (List Param × List ℕ)) (found : Option Param) → str_eq_ignore_ascii_case p.name name ≡ false → is_some (with_first p read) ≡ true →
    found ≡ first_param name (params_of_reading (with_first p read)) → (is_some read ≡ true) × (found ≡ first_param name (params_of_reading read))
over name p (Some x) found e readable same = (refl, rw e at same)
over name p None found e readable same = absurd cc

here : (name : List ℕ) (p : Param) (read : Option (List Param × List ℕ)) (found : Option Param) → str_eq_ignore_ascii_case p.name name ≡ true → is_some (with_first p read) ≡ true →
    found ≡ first_param name (params_of_reading (with_first p read)) → found ≡ Some p
here name p (Some x) found e readable same = rw e at same
here name p None found e readable same = absurd cc

at_first : (n : ℕ) (rest tail after : List ℕ) (p : Param) → after_byte 59 rest ≡ Some tail → param_at tail ≡ Some (p, after) → params_at (suc n) rest ≡ with_first p (params_at n after)
unfolding params_at
at_first n rest tail after p e h = rw (e, h) refl

over_at : (name : List ℕ) (n : ℕ) (rest tail after whole : List ℕ) (p : Param) → length rest ≤ n → is_some (params_at n rest) ≡ true →
    first_param name (params_in whole) ≡ first_param name (params_of_reading (params_at n rest)) → after_byte 59 rest ≡ Some tail → param_at tail ≡ Some (p, after) → length after ≤ length tail →
    str_eq_ignore_ascii_case p.name name ≡ false → SeeksOn name after whole
over_at name zero rest tail after whole p le readable same e h shorter other = absurd (omega (arith, tail_of 59 rest tail e))
over_at name (suc n) rest tail after whole p le readable same e h shorter other =
    let first = at_first n rest tail after p e h in
    let next = over name p (params_at n after) (first_param name (params_in whole)) other (rw first at readable) (rw first at same) in
    record { count = n; enough = omega (arith, tail_of 59 rest tail e); readable = next.0; same = next.1 }

pub seek_over : (name rest tail after whole : List ℕ) (p : Param) → SeeksOn name rest whole → after_byte 59 rest ≡ Some tail → param_at tail ≡ Some (p, after) → length after ≤ length tail →
    str_eq_ignore_ascii_case p.name name ≡ false → SeeksOn name after whole
seek_over name rest tail after whole p so_far e h shorter other = over_at name so_far.count rest tail after whole p so_far.enough so_far.readable so_far.same e h shorter other

here_at : (name : List ℕ) (n : ℕ) (rest tail after whole : List ℕ) (p : Param) → length rest ≤ n → is_some (params_at n rest) ≡ true →
    first_param name (params_in whole) ≡ first_param name (params_of_reading (params_at n rest)) → after_byte 59 rest ≡ Some tail → param_at tail ≡ Some (p, after) →
    str_eq_ignore_ascii_case p.name name ≡ true → first_param name (params_in whole) ≡ Some p
here_at name zero rest tail after whole p le readable same e h it = absurd (omega (arith, tail_of 59 rest tail e))
here_at name (suc n) rest tail after whole p le readable same e h it =
    let first = at_first n rest tail after p e h in
    here name p (params_at n after) (first_param name (params_in whole)) it (rw first at readable) (rw first at same)

pub seek_here : (name rest tail after whole : List ℕ) (p : Param) → SeeksOn name rest whole → after_byte 59 rest ≡ Some tail → param_at tail ≡ Some (p, after) →
    str_eq_ignore_ascii_case p.name name ≡ true → first_param name (params_in whole) ≡ Some p
seek_here name rest tail after whole p so_far e h it = here_at name so_far.count rest tail after whole p so_far.enough so_far.readable so_far.same e h it

fails_at : (n : ℕ) (rest tail : List ℕ) → length rest ≤ n → is_some (params_at n rest) ≡ true → after_byte 59 rest ≡ Some tail → param_at tail ≡ None → ⊥
unfolding params_at
fails_at zero rest tail le readable e h = omega (arith, tail_of 59 rest tail e)
fails_at (suc n) rest tail le readable e h = let t = rw (e, h) at readable in cc

pub seek_fails : (name rest tail whole : List ℕ) → SeeksOn name rest whole → after_byte 59 rest ≡ Some tail → param_at tail ≡ None → ⊥
seek_fails name rest tail whole so_far e h = fails_at so_far.count rest tail so_far.enough so_far.readable e h

ended_at : (name : List ℕ) (n : ℕ) (rest : List ℕ) → after_byte 59 rest ≡ None → first_param name (params_of_reading (params_at n rest)) ≡ None
unfolding params_at
ended_at name zero rest e = refl
ended_at name (suc n) rest e = rw e refl

pub seek_ends : (name rest whole : List ℕ) → SeeksOn name rest whole → after_byte 59 rest ≡ None → first_param name (params_in whole) ≡ None
seek_ends name rest whole so_far e = so_far.same ∙ ended_at name so_far.count rest e

-- its value is that of the name
pub none_valued : (name : List ℕ) (ps : List Param) → first_param name ps ≡ None → param_value name ps ≡ None
none_valued name [] e = refl
none_valued name (p ∷ ps) e =
    elim (cases_Bool (str_eq_ignore_ascii_case p.name name)) [
      | inl y ↦ let t = rw y at e in absurd cc
      | inr n ↦ rw n (none_valued name ps (rw n at e))
    ]

pub one_valued : (name : List ℕ) (ps : List Param) (found : Param) → first_param name ps ≡ Some found → param_value name ps ≡ found.value
one_valued name [] found e = absurd cc
one_valued name (p ∷ ps) found e =
    elim (cases_Bool (str_eq_ignore_ascii_case p.name name)) [
      | inl y ↦ rw y (ap (λ (x : Param). x.value) (some_is p found (rw y at e)))
      | inr n ↦ rw n (one_valued name ps found (rw n at e))
    ]
