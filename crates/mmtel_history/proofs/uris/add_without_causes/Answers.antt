use Rattle.std.proofs.Common.{◌∙◌, sym, ap, ◌∷◌, ◌++◌, List, ℕ, append_assoc}
use Rattle.std.specs.List.{flat_map}
use Rattle.mmtel_lex.specs.UriParts.{parts}
use Rattle.mmtel_history.proofs.HostPartTheorems.{others, plain_joined}
use Rattle.mmtel_history.proofs.Marks.{on_ok_by}
use Rattle.mmtel_history.proofs.uris.add_without_causes.Goals as goal

pub returns-in_ok-push-in-Some : goal.returns-in_ok-push-in-Some
returns-in_ok-push-in-Some c =
    on_ok_by c.add_other_params.result c.add_other_params.ensures
    (λ is.
    is ∙ ap (λ (l : List ℕ). l ++ flat_map (λ p. 59 ∷ p) (others (parts 59 c.in-Some.params.now))) c.in_ok-push-in-Some.ensures.ok
    ∙ append_assoc c.args.out.now c.in-Some.host.now (flat_map (λ p. 59 ∷ p) (others (parts 59 c.in-Some.params.now)))
    ∙ ap (λ (l : List ℕ). c.args.out.now ++ l) (sym (plain_joined c.args.host_part.now c.in-Some.host.now c.in-Some.params.now c.in-Some.ensures.parts)))
