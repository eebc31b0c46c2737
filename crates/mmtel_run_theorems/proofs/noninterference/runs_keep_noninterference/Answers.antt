use Rattle.mmtel_run_theorems.proofs.Lookups.{nobody_is_renamed, renamed_are_looked_up_equally}
use Rattle.mmtel_run_theorems.proofs.OfferTheorems.{masks_once, offers_keep, offers_keep_in_one, seen_by_notices}
use Rattle.mmtel_run_theorems.proofs.NoninterferenceTheorems.{both, one}
use Rattle.mmtel_run_theorems.proofs.SentOnce.{Once}
use Rattle.mmtel_run_theorems.proofs.EquivalentTransitions.{Below}
use Rattle.mmtel_run_theorems.proofs.noninterference.runs_keep_noninterference.Goals as goal

pub returns : goal.returns
returns c =
    let below : Below = record {
      texts = c.texts_decide_nothing.ensures.equivalent;
      new = c.transactions_are_of_one_peer.ensures.received;
      heads = c.heads_see_no_private_field.ensures.received;
      responses = c.responses_are_masked.ensures.one_head;
      masks = c.equal_masks_are_equivalent.ensures.equivalent;
      wholes = c.messages_have_nothing_private.ensures.law;
      tables = c.tables_stay_equivalent.ensures.law;
      laws = record {
        answers = c.equivalent_tables_answer_equally.ensures.law;
        conferences = c.conferences_stay_equivalent.ensures.tables;
        seen = c.conferences_stay_equivalent.ensures.steps;
        participants = c.equivalent_rooms_answer_equally.ensures.law;
      };
      records = c.records_are_those_kept.ensures.reported;
    } in
    let keeps = c.transactions_are_of_one_peer.ensures.kept in
    let its = c.puts_change_one_account.ensures.its in
    let others = c.puts_change_one_account.ensures.others in
    let tied = c.runs_are_tied.ensures.tied in
    let secret = both below keeps its others tied in
    let looks = renamed_are_looked_up_equally c.lookups_skip_other_accounts.ensures.agree in
    let nobody = nobody_is_renamed c.lookups_skip_other_accounts.ensures.none in
    let calls = c.calls_send_once.ensures in
    let once : Once = record { steps = calls.step; openings = calls.opening; ends = calls.end; detached = calls.detached; restored = calls.restored; conferences = c.conferences_send_once.ensures.once } in
    record {
      both = secret;
      one = one below keeps its others tied looks nobody;
      masked = masks_once;
      offers = offers_keep once secret looks;
      offers_in_one = offers_keep_in_one once secret looks nobody;
      seen = seen_by_notices;
    }
