use Rattle.std.proofs.Common.{◌≡◌, ◌++◌, ℕ, List, Some, true, sym, ap, slice_set, ◌∙◌}
use Rattle.mmtel_message.specs.Message.{Message}
use Rattle.mmtel_message.specs.declared.messages.Start.{Start}
use Rattle.mmtel_mwi.specs.Boxes.{BoxesView, Table, counts_in, is_numbered, notify_request, pending_of, table_after_notify, with_table}
use Rattle.mmtel_mwi.specs.Notifies.{notify_request_in, remaining_seconds}
use Rattle.mmtel_mwi.specs.declared.counts.Counts.{Counts}
use Rattle.mmtel_mwi.specs.declared.subscriptions.PendingNotify.{PendingNotify}
use Rattle.mmtel_mwi.specs.declared.subscriptions.Subscription.{Subscription}
use Rattle.mmtel_mwi.proofs.Places.{same_there}
use Rattle.mmtel_mwi.proofs.Tables.{IsGone, StandsAt, notify_request_nowhere, notify_request_there, table_after_notify_nowhere, table_after_notify_there}
use Rattle.mmtel_mwi.proofs.boxes.Boxes.tell.Goals as goal

pub returns-in_default-clause-notice : goal.returns-in_default-clause-notice
returns-in_default-clause-notice c =
    let i = c.self.inside in
    let t : Table = record { mailboxes = i.mailboxes; made = i.made; live = i.live.items; pending = i.pending.items } in
    let gone : IsGone c.args.sub t.live = rw c.deref.ensures.value at (sym c.place_of.ensures.place ∙ c.in_default.is) in
    notify_request_nowhere i.sip c.args.sub c.args.last c.args.branch.now c.args.now t gone
    ∙ ap (λ (b : BoxesView). notify_request b.sip c.args.sub c.args.last c.args.branch.now c.args.now b.table) c.self.view_is

pub returns-in_default-clause-reported : goal.returns-in_default-clause-reported
returns-in_default-clause-reported c =
    let i = c.self.inside in
    let t : Table = record { mailboxes = i.mailboxes; made = i.made; live = i.live.items; pending = i.pending.items } in
    let gone : IsGone c.args.sub t.live = rw c.deref.ensures.value at (sym c.place_of.ensures.place ∙ c.in_default.is) in
    sym c.self.view_is
    ∙ ap (λ (u : Table). record { sip = i.sip; table = u }) (table_after_notify_nowhere c.args.sub c.args.branch.now t gone)
    ∙ ap (λ (b : BoxesView). with_table b (table_after_notify c.args.sub c.args.branch.now b.table)) c.self.view_is

pub returns-in-Ok-clause-notice : goal.returns-in-Ok-clause-notice
returns-in-Ok-clause-notice c =
    let i = c.self.inside in
    let t : Table = record { mailboxes = i.mailboxes; made = i.made; live = i.live.items; pending = i.pending.items } in
    let x = c.index_mut.result.now in
    let at = c.in-Some.place in
    let branch = c.args.branch.now in
    let there : StandsAt c.args.sub t.live at x = (rw c.deref.ensures.value at (sym c.place_of.ensures.place ∙ c.in-Some.is), c.index_mut.ensures.value) in
    let same : c.index.result.now ≡ x = same_there (is_numbered c.args.sub) t.live at c.index.result.now x there.0 c.index.ensures there.1 in
    let counts : c.counts-counts.result ≡ counts_in x.account t = c.counts-counts.ensures ∙ ap (λ (s : Subscription). counts_in s.account t) same in
    ap (λ (m : Message Start). Some m)
    (c.in-Ok.ensures.message ∙ ap (λ (k : Counts). notify_request_in i.sip x.leg.dialogue branch c.args.last (remaining_seconds x.until c.args.now) k) counts)
    ∙ notify_request_there i.sip c.args.sub c.args.last branch c.args.now t at x there
    ∙ ap (λ (b : BoxesView). notify_request b.sip c.args.sub c.args.last branch c.args.now b.table) c.self.view_is

pub returns-in-Ok-clause-reported : goal.returns-in-Ok-clause-reported
returns-in-Ok-clause-reported c =
    let i = c.self.inside in
    let t : Table = record { mailboxes = i.mailboxes; made = i.made; live = i.live.items; pending = i.pending.items } in
    let x = c.index_mut.result.now in
    let y = c.notify.new.self in
    let at = c.in-Some.place in
    let branch = c.args.branch.now in
    let there : StandsAt c.args.sub t.live at x = (rw c.deref.ensures.value at (sym c.place_of.ensures.place ∙ c.in-Some.is), c.index_mut.ensures.value) in
    let asked : c.push_reserved.new.self.items ≡ t.pending ++ pending_of c.args.sub branch true =
    c.push_reserved.ensures.items
    ∙ ap (λ (l : List PendingNotify). l ++ pending_of c.args.sub c.in_ok-kept.kept true) c.reserve.ensures.items
    ∙ ap (λ (b : List ℕ). t.pending ++ pending_of c.args.sub b true) c.in_ok-kept.ensures.copy in
    ap (λ (l : List PendingNotify). record { sip = i.sip; table = record t { live = slice_set t.live at y; pending = l } }) asked
    ∙ ap (λ (u : Table). record { sip = i.sip; table = u }) (table_after_notify_there c.args.sub branch t at x y there c.in-Ok.ensures.reported)
    ∙ ap (λ (b : BoxesView). with_table b (table_after_notify c.args.sub branch b.table)) c.self.view_is
