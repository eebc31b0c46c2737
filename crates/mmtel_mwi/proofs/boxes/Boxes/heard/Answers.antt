use Rattle.std.proofs.Common.{◌≡◌, List, false, true, sym, ap, ◌∙◌}
use Rattle.std.proofs.lemmas.Result.{on_err_weaker, on_ok_weaker}
use Rattle.mmtel_mwi.specs.Boxes.{BoxesView, Table, is_live, request_check, subscription_after_request, table_after_request, with_table}
use Rattle.mmtel_mwi.specs.declared.subscriptions.Subscription.{Subscription}
use Rattle.mmtel_mwi.proofs.Tables.{IsGone, StandsAt, changed_to, lives_nowhere, put_back, request_check_there}
use Rattle.mmtel_mwi.proofs.boxes.Boxes.heard.Goals as goal

pub unreachable-requires : goal.unreachable-requires
unreachable-requires c =
    let i = c.self.inside in
    let t : Table = record { mailboxes = i.mailboxes; made = i.made; live = i.live.items; pending = i.pending.items } in
    let gone : IsGone c.args.sub t.live = rw c.deref.ensures.value at (sym c.place_of.ensures.place ∙ c.in-None.is) in
    let lives : false ≡ true = sym (lives_nowhere c.args.sub t gone) ∙ ap (λ (b : BoxesView). is_live c.args.sub b.table) c.self.view_is ∙ c.requires in
    cc

pub returns : goal.returns
returns c =
    let i = c.self.inside in
    let t : Table = record { mailboxes = i.mailboxes; made = i.made; live = i.live.items; pending = i.pending.items } in
    let at = c.in-Some.place in
    let x = c.index_mut.result.now in
    let m = c.args.request.now in
    let there : StandsAt c.args.sub t.live at x = (rw c.deref.ensures.value at (sym c.place_of.ensures.place ∙ c.in-Some.is), c.index_mut.ensures.value) in
    record {
      check = c.receive.ensures.check ∙ request_check_there c.args.sub m t at x there ∙ ap (λ (b : BoxesView). request_check c.args.sub m b.table) c.self.view_is;
      received = on_ok_weaker c.receive.result (λ is.
          ap (λ (l : List Subscription). record { sip = i.sip; table = record t { live = l } }) (changed_to c.args.sub (subscription_after_request m) t.live at x c.receive.new.self there is)
          ∙ ap (λ (b : BoxesView). with_table b (table_after_request c.args.sub m b.table)) c.self.view_is) c.receive.ensures.received;
      refused = on_err_weaker c.receive.result (λ is.
          ap (λ (l : List Subscription). record { sip = i.sip; table = record t { live = l } }) (put_back t.live at x c.receive.new.self there.1 is)
          ∙ c.self.view_is) c.receive.ensures.refused;
    }
