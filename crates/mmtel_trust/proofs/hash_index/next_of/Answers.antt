use Rattle.std.proofs.Common.{ℕ, List, subst}
use Rattle.mmtel_trust.proofs.Pairs.{Range, of_hash, of_another, of_none}
use Rattle.mmtel_trust.proofs.hash_index.next_of.Goals as goal

pub returns-in-None : goal.returns-in-None
returns-in-None c =
    of_none c.args.kept.now c.args.hash c.args.from
    (subst (λ (r : List (ℕ × ℕ)). Range c.args.kept.now r c.args.hash c.args.from) c.in-None.ensures.steps.0 (c.range.ensures.in_range tt))

pub returns-then-place-hash : goal.returns-then-place-hash
returns-then-place-hash c =
    of_hash c.args.kept.now c.in-Some.place.now c.next.new.self c.args.hash c.args.from
    (subst (λ (r : List (ℕ × ℕ)). Range c.args.kept.now r c.args.hash c.args.from) c.in-Some.ensures.steps (c.range.ensures.in_range tt))
    c.if-place-hash.true

pub returns-else-place-hash : goal.returns-else-place-hash
returns-else-place-hash c =
    of_another c.args.kept.now c.in-Some.place.now c.next.new.self c.args.hash c.args.from
    (subst (λ (r : List (ℕ × ℕ)). Range c.args.kept.now r c.args.hash c.args.from) c.in-Some.ensures.steps (c.range.ensures.in_range tt))
    c.if-place-hash.false
