use Rattle.std.proofs.Common.{◌≡◌, length, get_or, false, sym, arith}
use Rattle.std.proofs.lemmas.List.Sums.{prefix_len_is}
use Rattle.std.proofs.lemmas.Grind.{common_steps}
use Rattle.mmtel_base.specs.Classes.{in_class}
use Rattle.mmtel_base.proofs.scanning.run_len.Goals as goal

pub returns-then-not-has-clause-place : goal.returns-then-not-has-clause-place
returns-then-not-has-clause-place c =
    let fails : in_class c.args.class (get_or c.args.bytes.now c.loop-i.i 0) ≡ false = grind (arith, common_steps) in
    sym (prefix_len_is (in_class c.args.class) c.args.bytes.now c.loop-i.i 0 (omega arith) c.loop-i.invariant (λ _. fails))

pub returns-clause-place : goal.returns-clause-place
returns-clause-place c =
    let all : length c.args.bytes.now ≡ c.loop-i.i = omega arith in
    rw all (sym (prefix_len_is (in_class c.args.class) c.args.bytes.now c.loop-i.i 0 (omega arith) c.loop-i.invariant (λ h. absurd (omega arith))))
