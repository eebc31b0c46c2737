-- Reading parameters one after the other, as a loop does.
use Rattle.std.proofs.Common.{◌≡◌, ℕ, zero, suc, ◌≤◌, List, [], ◌∷◌, ◌++◌, length, Option, Some, None, refl, sym, ap, ◌∙◌, append_assoc, arith}
use Rattle.std.proofs.lemmas.List.{append-nil}
use Rattle.mmtel_lex.specs.declared.faults.LexFault.{LexFault}
use Rattle.mmtel_lex.specs.declared.faults.LexFault.TheVariants as lex
use Rattle.mmtel_lex.specs.declared.values.Param.{Param}
use Rattle.mmtel_base.specs.Scanning.{after_byte}
use Rattle.mmtel_base.proofs.ChainTheorems.{tail_of}
use Rattle.mmtel_base.specs.Chain.{◌>>=◌}
use Rattle.mmtel_lex.specs.Reading.{Fails, param_at, params_at, all_params_at, next_params}

-- what was read before, and what remains to be read
abbrev pub with_front : List Param → Option (List Param × List ℕ) → Option (List Param × List ℕ)
with_front front read = read >>= λ x. Some (front ++ x.0, x.1)

-- with some count that is large enough for the rest, the whole reads as what was read and the rest
pub record ReadsOn (front : List Param) (rest whole : List ℕ) : Type 0 where
  pub count : ℕ
  pub enough : length rest ≤ count
  pub same : with_front front (params_at count rest) ≡ all_params_at whole

regroup : (front : List Param) (p : Param) (read : Option (List Param × List ℕ)) → with_front front (read >>= λ x. Some (p ∷ x.0, x.1)) ≡ with_front (front ++ p ∷ []) read
regroup front p (Some x) = ap (λ (ps : List Param). Some (ps, x.1)) (simp append_assoc)
regroup front p None = refl

with_none : (read : Option (List Param × List ℕ)) → with_front [] read ≡ read
with_none (Some x) = refl
with_none None = refl

pub begins : (whole : List ℕ) → ReadsOn [] whole whole
unfolding all_params_at
begins whole = record { count = length whole; enough = omega arith; same = with_none _ }

at_suc : (front : List Param) (n : ℕ) (rest tail : List ℕ) → after_byte 59 rest ≡ Some tail → with_front front (params_at (suc n) rest) ≡ with_front front (next_params (λ r. params_at n r) (Some tail) rest)
unfolding params_at
at_suc front n rest tail e = rw e refl

step : (front : List Param) (n : ℕ) (rest tail after whole : List ℕ) (p : Param) → length rest ≤ n → with_front front (params_at n rest) ≡ all_params_at whole → after_byte 59 rest ≡ Some tail →
    param_at tail ≡ Some (p, after) → length after ≤ length tail → ReadsOn (front ++ p ∷ []) after whole
step front zero rest tail after whole p le so_far e h shorter = absurd (omega (arith, tail_of 59 rest tail e))
step front (suc n) rest tail after whole p le so_far e h shorter = record {
  count = n;
  enough = omega (arith, tail_of 59 rest tail e);
  same = sym (at_suc front n rest tail e ∙ rw h (regroup front p (params_at n after))) ∙ so_far;
}

pub goes_on : (front : List Param) (rest tail after whole : List ℕ) (p : Param) → ReadsOn front rest whole → after_byte 59 rest ≡ Some tail → param_at tail ≡ Some (p, after) →
    length after ≤ length tail → ReadsOn (front ++ p ∷ []) after whole
goes_on front rest tail after whole p so_far e h shorter = step front so_far.count rest tail after whole p so_far.enough so_far.same e h shorter

fails_at : (front : List Param) (n : ℕ) (rest tail whole : List ℕ) → length rest ≤ n → with_front front (params_at n rest) ≡ all_params_at whole → after_byte 59 rest ≡ Some tail →
    param_at tail ≡ None → all_params_at whole ≡ None
fails_at front zero rest tail whole le so_far e h = absurd (omega (arith, tail_of 59 rest tail e))
fails_at front (suc n) rest tail whole le so_far e h = sym so_far ∙ (at_suc front n rest tail e ∙ rw h refl)

pub ends : (f : LexFault) (front : List Param) (rest tail whole : List ℕ) → ReadsOn front rest whole → after_byte 59 rest ≡ Some tail → Fails f (param_at tail) → Fails f (all_params_at whole)
ends lex.Malformed front rest tail whole so_far e h = fails_at front so_far.count rest tail whole so_far.enough so_far.same e h
ends lex.NoMemory front rest tail whole so_far e h = tt

done_at : (front : List Param) (n : ℕ) (rest whole : List ℕ) → with_front front (params_at n rest) ≡ all_params_at whole → after_byte 59 rest ≡ None → all_params_at whole ≡ Some (front, rest)
unfolding params_at
done_at front zero rest whole so_far e = sym so_far ∙ ap (λ (ps : List Param). Some (ps, rest)) (append-nil front)
done_at front (suc n) rest whole so_far e = sym so_far ∙ rw e (ap (λ (ps : List Param). Some (ps, rest)) (append-nil front))

pub is_done : (front : List Param) (rest whole : List ℕ) → ReadsOn front rest whole → after_byte 59 rest ≡ None → all_params_at whole ≡ Some (front, rest)
is_done front rest whole so_far e = done_at front so_far.count rest whole so_far.same e
