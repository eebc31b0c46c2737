use Rattle.std.proofs.Common.{◌≡◌, ◌∙◌, ap, Some, List, ℕ}
use Rattle.mmtel_history.specs.EntryUri.{cause_of, causes_in, is_marked, with_cause}
use Rattle.mmtel_history.proofs.CauseTheorems.{cause_theorem, cause_alone, cause_keeps_mark}
use Rattle.mmtel_history.proofs.ReadableTheorems.{if_ok_by}
use Rattle.mmtel_history.proofs.uris.with_cause.Goals as goal

pub returns-clause-text : goal.returns-clause-text
unfolding with_cause
returns-clause-text c = c.uri_with_cause.ensures

pub returns-clause-cause : goal.returns-clause-cause
returns-clause-cause c =
    λ low high. if_ok_by {P = λ t. t ≡ with_cause c.args.cause c.args.uri.now} {Q = λ t. cause_of t ≡ Some c.args.cause} c.uri_with_cause.result (returns-clause-text c)
    (λ t same. ap (λ (v : List ℕ). cause_of v) same ∙ cause_theorem c.args.cause c.args.uri.now low high)

pub returns-clause-one : goal.returns-clause-one
returns-clause-one c =
    if_ok_by {P = λ t. t ≡ with_cause c.args.cause c.args.uri.now} {Q = λ t. causes_in t ≡ 1} c.uri_with_cause.result (returns-clause-text c)
    (λ t same. ap (λ (v : List ℕ). causes_in v) same ∙ cause_alone c.args.cause c.args.uri.now c.ranges.cause.fits)

pub returns-clause-mark : goal.returns-clause-mark
returns-clause-mark c =
    if_ok_by {P = λ t. t ≡ with_cause c.args.cause c.args.uri.now} {Q = λ t. is_marked t ≡ is_marked c.args.uri.now} c.uri_with_cause.result (returns-clause-text c)
    (λ t same. ap (λ (v : List ℕ). is_marked v) same ∙ cause_keeps_mark c.args.cause c.args.uri.now c.ranges.cause.fits)
