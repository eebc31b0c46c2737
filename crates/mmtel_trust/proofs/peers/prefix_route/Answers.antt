use Rattle.std.proofs.Common.{◌≡◌, ◌+◌, ℕ, List, ◌∷◌, get_or, drop, suc, add-one, sym, ap, subst, ◌∙◌}
use Rattle.std.specs.Option.{option_copied}
use Rattle.std.proofs.Math.ListN.{drop_of_length-le}
use Rattle.std.proofs.Math.Seq.{drop-cons}
use Rattle.mmtel_trust.specs.Hashes.{mixed_hash}
use Rattle.mmtel_trust.specs.Peers.{or_route}
use Rattle.mmtel_trust.proofs.PrefixWalk.{IsWalked, at_bound, at_end, begins, byte_covers, copied_or, moved, past_byte, past_mark}
use Rattle.mmtel_trust.proofs.peers.prefix_route.Goals.{then-not-is_visual_separator+else-length-bound, else-not-is_visual_separator}
use Rattle.mmtel_trust.proofs.peers.prefix_route.Goals as goal

pub loop-byte-init : goal.loop-byte-init
loop-byte-init c = begins c.args.number.now c.args.routes.now

pub returns-then-length-bound : goal.returns-then-length-bound
returns-then-length-bound c =
    at_bound c.args.number.now (drop c.loop-byte.byte-index c.args.number.now) c.loop-byte.length c.loop-byte.hash c.args.bound (option_copied c.loop-byte.best) c.args.routes.now
    c.loop-byte.invariant c.requires.within c.if-length-bound.true

pub returns : goal.returns
returns c =
    at_end c.args.number.now c.loop-byte.length c.loop-byte.hash (option_copied c.loop-byte.best) c.args.routes.now
    (subst (λ (s : List ℕ). IsWalked c.args.number.now s c.loop-byte.length c.loop-byte.hash (option_copied c.loop-byte.best) c.args.routes.now)
    (drop_of_length-le c.args.number.now c.loop-byte-test.false) c.loop-byte.invariant)

pub first_item-requires : goal.first_item-requires
first_item-requires c =
    let i = c.loop-byte.byte-index in
    let byte = get_or c.args.number.now i 0 in
    let rest = drop (suc i) c.args.number.now in
    let walked : IsWalked c.args.number.now (byte ∷ rest) c.loop-byte.length c.loop-byte.hash (option_copied c.loop-byte.best) c.args.routes.now =
    subst (λ (s : List ℕ). IsWalked c.args.number.now s c.loop-byte.length c.loop-byte.hash (option_copied c.loop-byte.best) c.args.routes.now)
    (drop-cons c.args.number.now i 0 c.loop-byte-test.true) c.loop-byte.invariant in
    byte_covers c.args.number.now byte rest c.loop-byte.length c.loop-byte.hash (c.loop-byte.length + 1) c.mixed_hash-hash.result (option_copied c.loop-byte.best) c.args.routes.now c.args.by_name.now
    walked (sym c.is_visual_separator.ensures ∙ c.if-not-is_visual_separator.true) (add-one c.loop-byte.length) (c.mixed_hash-hash.ensures ∙ ap (mixed_hash c.loop-byte.hash) c.from.ensures) c.requires.index

pub loop-byte-preserved : goal.loop-byte-preserved
loop-byte-preserved c =
    let number = c.args.number.now in
    let i = c.loop-byte.byte-index in
    let byte = get_or c.args.number.now i 0 in
    let rest = drop (suc i) c.args.number.now in
    let found = option_copied c.loop-byte.best in
    let walked : IsWalked c.args.number.now (byte ∷ rest) c.loop-byte.length c.loop-byte.hash (option_copied c.loop-byte.best) c.args.routes.now =
    subst (λ (s : List ℕ). IsWalked c.args.number.now s c.loop-byte.length c.loop-byte.hash (option_copied c.loop-byte.best) c.args.routes.now)
    (drop-cons c.args.number.now i 0 c.loop-byte-test.true) c.loop-byte.invariant in
    let further : rest ≡ drop (i + 1) number = ap (λ k. drop k number) (sym (add-one i)) in
    elim c.if-not-is_visual_separator.branch [
      | then-not-is_visual_separator+else-length-bound w ↦
          moved number rest (drop (i + 1) number) (c.loop-byte.length + 1) c.if-not-is_visual_separator.length w.mixed_hash-hash.result c.if-not-is_visual_separator.hash
          (or_route (option_copied w.first_item.result) found) (option_copied c.if-not-is_visual_separator.best) c.args.routes.now
          (past_byte number byte rest c.loop-byte.length c.loop-byte.hash (c.loop-byte.length + 1) w.mixed_hash-hash.result found (option_copied w.first_item.result) c.args.routes.now
          walked (sym c.is_visual_separator.ensures ∙ w.if-not-is_visual_separator.true) (add-one c.loop-byte.length) (w.mixed_hash-hash.ensures ∙ ap (mixed_hash c.loop-byte.hash) w.from.ensures) w.first_item.ensures)
          further (sym w.length-is) (sym w.hash-is) (sym (ap option_copied (w.best-is ∙ w.or-best.ensures) ∙ copied_or w.first_item.result c.loop-byte.best))
      | else-not-is_visual_separator w ↦
          moved number rest (drop (i + 1) number) c.loop-byte.length c.if-not-is_visual_separator.length c.loop-byte.hash c.if-not-is_visual_separator.hash found
          (option_copied c.if-not-is_visual_separator.best) c.args.routes.now
          (past_mark number byte rest c.loop-byte.length c.loop-byte.hash found c.args.routes.now walked (sym c.is_visual_separator.ensures ∙ w.if-not-is_visual_separator.false))
          further (sym w.length-is) (sym w.hash-is) (ap option_copied (sym w.best-is))
    ]
