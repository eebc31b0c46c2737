use Rattle.std.proofs.Common.{List, subst}
use Rattle.std.specs.Prelude.{flat_map}
use Rattle.mmtel_call.specs.declared.calls.RelayedTransaction.{RelayedTransaction}
use Rattle.mmtel_call.specs.declared.calls.AnsweredInvite.{AnsweredInvite}
use Rattle.mmtel_output.specs.declared.sent_invites.AbandonedInvite.{AbandonedInvite}
use Rattle.mmtel_b2bua.specs.Marks.{abandoned_marks, answered_marks, relayed_marks}
use Rattle.mmtel_output.specs.Marks.{MarkUpdate}
use Rattle.mmtel_b2bua.proofs.MarkWrites.{all_written}
use Rattle.mmtel_b2bua.proofs.marks.put_call.Goals as goal

pub returns : goal.returns
returns c =
    let s = c.args.stays in
    let n = c.args.call.0 in
    let abandoned = subst (λ (l : List AbandonedInvite). MarkUpdate s n (flat_map abandoned_marks l) c.put_waiting.new.index c.put_abandoned.new.index) c.items.ensures c.put_abandoned.ensures in
    let taken = subst (λ (l : List AnsweredInvite). MarkUpdate s n (flat_map answered_marks l) c.put_abandoned.new.index c.put_answered.new.index) c.items-2.ensures c.put_answered.ensures in
    let flights = subst (λ (l : List RelayedTransaction). MarkUpdate s n (flat_map relayed_marks l) c.put_answered.new.index c.put_in_flight.new.index) c.items-3.ensures c.put_in_flight.ensures in
    all_written s n c.args.entry.now c.args.index.now c.put_waiting.new.index c.put_abandoned.new.index c.put_answered.new.index c.put_in_flight.new.index c.put_live_invites.new.index
    c.put_dialogs.new.index c.put_waiting.ensures abandoned taken flights c.put_live_invites.ensures c.put_dialogs.ensures
