use Rattle.std.proofs.Common.{◌≡◌, Some, None, sym}
use Rattle.std.specs.Prelude.{position}
use Rattle.std.specs.Str.{str_eq_ignore_ascii_case}
use Rattle.mmtel_message.proofs.HeldTheorems.{set_behind, set_received}
use Rattle.mmtel_message.proofs.messages.set_line.Goals as goal

pub returns-in_ok-spelled-in-Some-clause-ok : goal.returns-in_ok-spelled-in-Some-clause-ok
returns-in_ok-spelled-in-Some-clause-ok c s =
    let e : position (λ l. str_eq_ignore_ascii_case l.0 c.args.name.now) c.args.held.now ≡ Some c.in-Some.at = (let there_is = rw c.items.ensures at c.in-Some.ensures in sym there_is) in
    rw (c.drop_named.ensures, c.drop_named-in-Some.ensures, c.replace.ensures.items, c.of-in-Some.ensures, c.in_ok-spelled-in-Some.ensures)
    (set_received s c.args.name.now c.args.value c.args.held.now c.args.added.now c.in-Some.at e)

pub returns-in_ok-set_added-in-None-clause-ok : goal.returns-in_ok-set_added-in-None-clause-ok
returns-in_ok-set_added-in-None-clause-ok c s =
    let e : position (λ l. str_eq_ignore_ascii_case l.0 c.args.name.now) c.args.held.now ≡ None = (let there_is = rw c.items.ensures at c.in-None.ensures in sym there_is) in
    rw (c.in_ok-set_added-in-None.ensures.ok) (set_behind s c.args.name.now c.args.value c.args.held.now c.args.added.now e)
