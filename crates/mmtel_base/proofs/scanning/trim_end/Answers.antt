use Rattle.std.proofs.Common.{◌≡◌, ◌-◌, get_or, false, arith}
use Rattle.std.proofs.lemmas.Grind.{common_steps}
use Rattle.mmtel_base.specs.Classes.{in_class}
use Rattle.mmtel_base.proofs.Trims.{cut, cut_here}
use Rattle.mmtel_base.proofs.scanning.trim_end.Goals as goal
use Rattle.mmtel_base.proofs.scanning.trim_end.Goals.{else-back-test, then-back-test+then-not-has}

pub returns : goal.returns
returns c =
    elim c.back-test.branch [
      | else-back-test w ↦
          let none : c.back.len ≡ 0 = omega arith in
          rw none (cut c.args.class c.args.bytes.now 0 (rw none at c.back.invariant.0) tt)
      | then-back-test+then-not-has w ↦
          let fails : in_class c.args.class (get_or c.args.bytes.now (c.back.len - 1) 0) ≡ false = grind (arith, common_steps) in
          cut_here c.args.class c.args.bytes.now c.back.len (omega arith) c.back.invariant.1 c.back.invariant.0 fails
    ]
