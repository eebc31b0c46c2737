use Rattle.std.proofs.Common.{◌≡◌, Some, None, sym}
use Rattle.std.specs.Prelude.{position}
use Rattle.mmtel_message.specs.Message.{is_line}
use Rattle.mmtel_message.proofs.EditTheorems.{set_none, set_there, there}
use Rattle.mmtel_message.proofs.messages.set_added.Goals as goal

pub returns-in_ok-push-in-None-clause-ok : goal.returns-in_ok-push-in-None-clause-ok
returns-in_ok-push-in-None-clause-ok c =
    let e : position (λ l. is_line c.args.name.now l) c.args.added.now ≡ None = (let there_is = rw c.items.ensures at c.in-None.ensures in sym there_is) in
    rw (c.in_ok-push-in-None.ensures.ok, c.in_ok-spelled.ensures) (sym (set_none c.args.name.now c.args.value c.args.added.now e))

pub returns-in-Some-clause-ok : goal.returns-in-Some-clause-ok
returns-in-Some-clause-ok c =
    let e : position (λ l. is_line c.args.name.now l) c.args.added.now ≡ Some c.in-Some.at = (let there_is = rw c.items.ensures at c.in-Some.ensures in sym there_is) in
    rw (c.drop_named.ensures, c.replace.ensures.items, c.in_ok-spelled.ensures) (set_there c.args.name.now c.args.value c.args.added.now c.in-Some.at (there c.args.name.now c.args.added.now c.in-Some.at e) e)
