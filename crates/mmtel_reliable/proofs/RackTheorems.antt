-- What is read of a RAck value is what its bytes spell, and what they spell is read.
use Rattle.std.proofs.Common.{◌≡◌, ◌==◌, ◌&&◌, Bool, true, not, ℕ, ◌<◌, List, ◌∷◌, ◌++◌, length, Option, Some, refl, sym, ap, ◌∙◌, arith}
use Rattle.std.specs.List.{list_all}
use Rattle.std.proofs.lemmas.Bool.Decides.{nat_tests}
use Rattle.mmtel_base.specs.Classes.{in_class}
use Rattle.mmtel_base.specs.Numbers.{number_of, Writes}
use Rattle.mmtel_base.specs.Scanning.{IsFree, split_once_at}
use Rattle.mmtel_base.specs.declared.classes.Class.TheVariants.{Digit, Token}
use Rattle.mmtel_base.proofs.ChainTheorems.{bind_some, guard_some}
use Rattle.mmtel_base.proofs.NumberTheorems.{number_again, number_takes}
use Rattle.mmtel_base.proofs.Runs.{and_true, class_free, split_again, split_takes}
use Rattle.mmtel_reliable.specs.Racks.{greatest_number, IsRack, rack_of}
use Rattle.mmtel_reliable.specs.declared.racks.Rack.{Rack}

filled : (n : ℕ) → not (n == 0) ≡ true → 0 < n
filled n e = grind (arith, nat_tests)

not_empty : (n : ℕ) → 0 < n → not (n == 0) ≡ true
not_empty n lt = grind (arith, nat_tests)

pub rack_found : (s : List ℕ) (rack : Rack) → rack_of s ≡ Some rack → IsRack s rack
rack_found s rack e =
    let first = bind_some (split_once_at 32 s) _ rack e in
    let second = bind_some (split_once_at 32 first.0.1) _ rack first.2 in
    let answer = bind_some (number_of greatest_number first.0.0) _ rack second.2 in
    let cseq = bind_some (number_of greatest_number second.0.0) _ rack answer.2 in
    let method : List ℕ = second.0.1 in
    let made = guard_some (not (length method == 0) && list_all (in_class Token) method) _ rack cseq.2 in
    let token = and_true (not (length method == 0)) (list_all (in_class Token) method) made.0 in
    let answered : answer.0 ≡ rack.answer = ap (λ (r : Rack). r.answer) made.1 in
    let numbered : cseq.0 ≡ rack.cseq = ap (λ (r : Rack). r.cseq) made.1 in
    record {
      rseq = first.0.0;
      cseq = second.0.0;
      method = method;
      whole = split_takes 32 s first.0 first.1 ∙ ap (λ (l : List ℕ). first.0.0 ++ 32 ∷ l) (split_takes 32 first.0.1 second.0 second.1);
      of_rseq = rw answered at (number_takes greatest_number first.0.0 answer.0 answer.1);
      of_cseq = rw numbered at (number_takes greatest_number second.0.0 cseq.0 cseq.1);
      token = record { filled = filled (length method) token.0; each = token.1 };
      invite = sym (ap (λ (r : Rack). r.invite) made.1);
    }

digits_free : (s : List ℕ) (n : ℕ) → Writes s n → IsFree 32 s
unfolding in_class
digits_free s n is = class_free Digit 32 refl s is.digits.each

pub rack_only : (s : List ℕ) (rack : Rack) → IsRack s rack → rack_of s ≡ Some rack
rack_only s rack is =
    let first : split_once_at 32 s ≡ Some (is.rseq, is.cseq ++ 32 ∷ is.method) =
    ap (λ (l : List ℕ). split_once_at 32 l) is.whole ∙ split_again 32 is.rseq (is.cseq ++ 32 ∷ is.method) (digits_free is.rseq rack.answer is.of_rseq.0) in
    let second : split_once_at 32 (is.cseq ++ 32 ∷ is.method) ≡ Some (is.cseq, is.method) = split_again 32 is.cseq is.method (digits_free is.cseq rack.cseq is.of_cseq.0) in
    let answer : number_of greatest_number is.rseq ≡ Some rack.answer = number_again greatest_number is.rseq rack.answer is.of_rseq.0 is.of_rseq.1 in
    let cseq : number_of greatest_number is.cseq ≡ Some rack.cseq = number_again greatest_number is.cseq rack.cseq is.of_cseq.0 is.of_cseq.1 in
    let token : not (length is.method == 0) ≡ true = not_empty (length is.method) is.token.filled in
    rw (first, second, answer, cseq, token, is.token.each) (ap (λ (b : Bool). made b) (sym is.invite))
  where
    made : Bool → Option Rack
    made b = Some (record { answer = rack.answer; cseq = rack.cseq; invite = b })
