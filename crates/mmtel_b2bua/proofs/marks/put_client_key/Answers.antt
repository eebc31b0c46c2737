use Rattle.std.proofs.Common.{Option, subst, sym}
use Rattle.mmtel_transaction.specs.declared.words.TKey.{TKey}
use Rattle.mmtel_b2bua.specs.Marks.{client_key_marks}
use Rattle.mmtel_output.specs.Marks.{MarkUpdate}
use Rattle.mmtel_output.proofs.Marking.{none_written}
use Rattle.mmtel_b2bua.proofs.marks.put_client_key.Goals as goal

pub returns-in-None : goal.returns-in-None
returns-in-None c =
    subst (λ (o : Option TKey). MarkUpdate c.args.stays c.args.call.0 (client_key_marks o) c.args.index.now c.args.index.now) (sym c.in-None.is) (none_written c.args.stays c.args.call.0 c.args.index.now)

pub returns-in-Some : goal.returns-in-Some
returns-in-Some c = subst (λ (o : Option TKey). MarkUpdate c.args.stays c.args.call.0 (client_key_marks o) c.args.index.now c.put.new.self) (sym c.in-Some.is) c.put.ensures
