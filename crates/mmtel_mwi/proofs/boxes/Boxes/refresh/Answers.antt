use Rattle.std.proofs.Common.{List, sym, ap, ◌∙◌}
use Rattle.mmtel_mwi.specs.Boxes.{BoxesView, Table, is_live, renewed_subscription, table_after_refresh, with_table}
use Rattle.mmtel_mwi.specs.declared.subscriptions.Subscription.{Subscription}
use Rattle.mmtel_mwi.proofs.Tables.{IsGone, StandsAt, changed_to, gone_same, lives_nowhere, lives_there}
use Rattle.mmtel_mwi.proofs.boxes.Boxes.refresh.Goals as goal

pub returns-in-None : goal.returns-in-None
returns-in-None c =
    let i = c.self.inside in
    let t : Table = record { mailboxes = i.mailboxes; made = i.made; live = i.live.items; pending = i.pending.items } in
    let gone : IsGone c.args.sub t.live = rw c.deref.ensures.value at (sym c.place_of.ensures.place ∙ c.in-None.is) in
    record {
      live = sym (lives_nowhere c.args.sub t gone) ∙ ap (λ (b : BoxesView). is_live c.args.sub b.table) c.self.view_is;
      refreshed =
          sym c.self.view_is
          ∙ ap (λ (u : Table). record { sip = i.sip; table = u }) (gone_same c.args.sub (renewed_subscription c.args.until) t gone)
          ∙ ap (λ (b : BoxesView). with_table b (table_after_refresh c.args.sub c.args.until b.table)) c.self.view_is;
    }

pub returns-in-Some : goal.returns-in-Some
returns-in-Some c =
    let i = c.self.inside in
    let t : Table = record { mailboxes = i.mailboxes; made = i.made; live = i.live.items; pending = i.pending.items } in
    let x = c.index_mut.result.now in
    let there : StandsAt c.args.sub t.live c.in-Some.place x = (rw c.deref.ensures.value at (sym c.place_of.ensures.place ∙ c.in-Some.is), c.index_mut.ensures.value) in
    record {
      live = sym (lives_there c.args.sub t c.in-Some.place x there) ∙ ap (λ (b : BoxesView). is_live c.args.sub b.table) c.self.view_is;
      refreshed =
          ap (λ (l : List Subscription). record { sip = i.sip; table = record t { live = l } })
          (changed_to c.args.sub (renewed_subscription c.args.until) t.live c.in-Some.place x c.renew_until.new.self there c.renew_until.ensures)
          ∙ ap (λ (b : BoxesView). with_table b (table_after_refresh c.args.sub c.args.until b.table)) c.self.view_is;
    }
