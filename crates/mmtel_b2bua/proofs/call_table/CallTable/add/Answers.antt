use Rattle.std.proofs.Common.{◌≡◌, ◌+◌, ◌-◌, ◌++◌, ◌∷◌, [], Box, Global, List, ℕ, arith, refl, subst, sym, ap, ◌∙◌}
use Rattle.std.proofs.lemmas.List.{map-append}
use Rattle.mmtel_base.specs.Numbers.{next_number}
use Rattle.mmtel_call_services.specs.Busy.{calls_of}
use Rattle.mmtel_b2bua.specs.Entries.{is_live}
use Rattle.mmtel_b2bua.specs.Invariant.{TableInvariant, box_values, busy_count, number_of, one_if}
use Rattle.mmtel_b2bua.specs.Tables.{Table}
use Rattle.mmtel_b2bua.specs.declared.entries.Entry.{Entry}
use Rattle.mmtel_b2bua.proofs.Keeping.{added_none, added_one, noted_kept}
use Rattle.mmtel_b2bua.proofs.call_table.CallTable.add.Goals as goal

pub invariant_of-self : goal.invariant_of-self
invariant_of-self c =
    let e = c.args.entry in
    let number : number_of e ≡ next_number c.self.inside.opened = c.requires ∙ ap (λ (t : Table). next_number t.opened) (sym c.self.view_is) in
    subst (λ (n : ℕ). TableInvariant (box_values c.self.inside.entries.items) n c.self.inside.live_count c.self.inside.index c.self.inside.busy) (sym number)
    (added_none (box_values c.self.inside.entries.items) c.self.inside.opened c.self.inside.live_count c.self.inside.index c.self.inside.busy e c.self.invariant number (omega (arith, c.self.ranges.1.0.1)))

pub invariant_of-self-in-Ok-push : goal.invariant_of-self-in-Ok-push
invariant_of-self-in-Ok-push c =
    let e = c.args.entry in
    let bs = c.self.inside.entries.items in
    let number : number_of e ≡ next_number c.self.inside.opened = c.requires ∙ ap (λ (t : Table). next_number t.opened) (sym c.self.view_is) in
    let now : box_values c.push.new.self.items ≡ box_values bs ++ e ∷ [] =
    ap box_values c.in-Ok-push.ensures.items ∙ (map-append (λ b. b.value) bs (c.in_ok-boxed.boxed ∷ []) ∙ ap (λ (x : Entry). box_values bs ++ x ∷ []) c.in_ok-boxed.ensures) in
    let alive : c.new_live_count-self-inside.result ≡ c.self.inside.live_count + one_if (is_live e) =
    (let h = c.new_live_count-self-inside.ensures in let z : c.new_live_count-self-inside.result ≡ c.self.inside.live_count + one_if c.is_live-is_live.result = omega (arith, h) in z)
    ∙ ap (λ b. c.self.inside.live_count + one_if b) c.is_live-is_live.ensures in
    let more = λ (n : ℕ). c.in-Ok.ensures.more n ∙ ap (λ (x : Entry). calls_of c.self.inside.busy n + busy_count n x) (c.deref.ensures ∙ c.in_ok-boxed.ensures) in
    subst (λ (l : List Entry). TableInvariant l (number_of e) c.new_live_count-self-inside.result c.put_call.new.index c.add_to.new.busy) (sym now)
    (subst (λ (n : ℕ). TableInvariant (box_values bs ++ e ∷ []) n c.new_live_count-self-inside.result c.put_call.new.index c.add_to.new.busy) (sym number)
    (added_one (box_values bs) c.self.inside.opened c.self.inside.live_count c.self.inside.index c.self.inside.busy e c.self.invariant number
    (omega (arith, c.self.ranges.1.0.1)) c.new_live_count-self-inside.result c.put_call.new.index c.add_to.new.busy c.put_call.ensures
    (let f = c.if-self.false in omega (arith, c.self.ranges.1.0.1, f)) alive more))

pub invariant_of-self-in_err-boxed : goal.invariant_of-self-in_err-boxed
invariant_of-self-in_err-boxed c =
    noted_kept (box_values c.self.inside.entries.items) c.self.inside.opened c.self.inside.live_count c.self.inside.index c.put_call.new.index c.self.inside.busy c.self.inside.busy c.args.entry
    c.self.invariant c.put_call.ensures (λ n. refl)

pub invariant_of-self-in-Err : goal.invariant_of-self-in-Err
invariant_of-self-in-Err c =
    noted_kept (box_values c.self.inside.entries.items) c.self.inside.opened c.self.inside.live_count c.self.inside.index c.put_call.new.index c.self.inside.busy c.add_to.new.busy c.args.entry
    c.self.invariant c.put_call.ensures c.in-Err.ensures.same

pub invariant_of-self-in-Err-push : goal.invariant_of-self-in-Err-push
invariant_of-self-in-Err-push c =
    let back : c.deref-in-Err-push.result.now ≡ c.deref.result.now =
    c.deref-in-Err-push.ensures ∙ (ap (λ (b : Box Entry Global). b.value) c.in-Err-push.ensures.value_returned ∙ sym c.deref.ensures) in
    let same : (n : ℕ) → calls_of c.remove_from.new.busy n ≡ calls_of c.self.inside.busy n = λ n.
    let a = c.in-Ok.ensures.more n in
    let b = c.remove_from.ensures n ∙ ap (λ (x : Entry). calls_of c.add_to.new.busy n - busy_count n x) back in
    omega (arith, a, b) in
    subst (λ (l : List Entry). TableInvariant l c.self.inside.opened c.self.inside.live_count c.put_call.new.index c.remove_from.new.busy) (sym (ap box_values c.in-Err-push.ensures.items))
    (noted_kept (box_values c.self.inside.entries.items) c.self.inside.opened c.self.inside.live_count c.self.inside.index c.put_call.new.index c.self.inside.busy c.remove_from.new.busy c.args.entry
    c.self.invariant c.put_call.ensures same)
