use Rattle.std.proofs.Common.{◌≤◌, ℕ, Option, ap, subst, sym, ◌∙◌}
use Rattle.std.specs.Prelude.{IsSomeAnd}
use Rattle.std.specs.BTreeSet.{IsKeyRangeOf}
use Rattle.std.specs.declared.ops.Bound.TheVariants.{Included, Unbounded}
use Rattle.mmtel_output.specs.Marks.{key_cmp, key_of}
use Rattle.mmtel_output.specs.declared.marks.Key.{Key}
use Rattle.mmtel_output.proofs.Marking.{first_at, no_first}
use Rattle.mmtel_output.proofs.index.Index.first_complete.Goals as goal

pub returns-in-None : goal.returns-in-None
returns-in-None c number there =
    let range : IsKeyRangeOf key_cmp (Included (key_of c.args.mark 0)) Unbounded c.args.self.now.keys c.range-others.result =
    subst (λ (k : Key). IsKeyRangeOf key_cmp (Included k) Unbounded c.args.self.now.keys c.range-others.result) c.of-from.ensures (c.range-others.ensures.in_range tt) in
    no_first c.args.self.now c.args.mark c.requires number there (range.5 c.in-None.ensures.steps.0)

pub returns-in-Some : goal.returns-in-Some
returns-in-Some c number there =
    let range : IsKeyRangeOf key_cmp (Included (key_of c.args.mark 0)) Unbounded c.args.self.now.keys c.range-others.result =
    subst (λ (k : Key). IsKeyRangeOf key_cmp (Included k) Unbounded c.args.self.now.keys c.range-others.result) c.of-from.ensures (c.range-others.ensures.in_range tt) in
    let is = first_at c.args.self.now c.args.mark c.requires number there c.range-others.result c.in-Some.key.now _ c.in-Some.ensures.steps range.1 range.2 in
    let kind = is.0 ∙ ap (λ (k : Key). k.kind) (sym c.of-from.ensures) in
    let told = is.1 ∙ ap (λ (k : Key). k.hash) (sym c.of-from.ensures) in
    subst (λ (o : Option ℕ). IsSomeAnd o (λ first. first ≤ number)) (sym (c.owner_of.ensures kind told)) is.2
