use Rattle.std.proofs.Common.{◌≡◌, ◌+◌, ◌++◌, ◌∷◌, [], List, arith, subst, sym, ap, ◌∙◌, ℕ}
use Rattle.mmtel_focus.specs.Joining.{new_conference}
use Rattle.mmtel_focus.specs.Marks.{TableInvariant, number_of}
use Rattle.mmtel_focus.specs.Conferences.{Conference}
use Rattle.mmtel_types.specs.declared.numbers.RoomNo.{RoomNo}
use Rattle.mmtel_focus.proofs.TableInvariant.{opened_kept}
use Rattle.mmtel_focus.proofs.Numbering.{after_join_keeps}
use Rattle.mmtel_focus.proofs.live.LiveConferences.open.Goals as goal

pub invariant_of-self-in-Ok : goal.invariant_of-self-in-Ok
invariant_of-self-in-Ok c =
    let x = c.in-Ok.room in
    let opened = c.self.inside.opened in
    let n = c.saturating_add.result in
    let numbered : number_of x ≡ n =
    ap number_of c.in-Ok.ensures.conference
    ∙ ap (λ (r : RoomNo). r.0) (after_join_keeps c.args.step.now.config c.args.step.now.at c.args.entrant.leg c.args.entrant.account c.args.key c.args.invite.now
    (record { conference = new_conference (record { 0 = n }); effects = c.args.effects.now })) in
    let more : n ≡ opened + 1 = let f = c.if-self.false in let g = c.saturating_add.ensures in omega (arith, c.self.ranges.1.0.1, f, g) in
    subst (λ (m : ℕ). TableInvariant c.push_reserved.new.self.items m c.put_conference.new.index) numbered
    (subst (λ (l : List Conference). TableInvariant l (number_of x) c.put_conference.new.index) (sym c.push_reserved.ensures.items)
    (subst (λ (l : List Conference). TableInvariant (l ++ x ∷ []) (number_of x) c.put_conference.new.index) (sym c.reserve.ensures.items)
    (opened_kept c.self.inside.conferences.items opened c.self.inside.index c.put_conference.new.index x c.self.invariant (numbered ∙ more) c.put_conference.ensures)))
