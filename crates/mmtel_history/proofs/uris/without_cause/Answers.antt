use Rattle.std.proofs.Common.{◌≡◌, ◌∙◌, ap, List, [], ℕ, ◌++◌, false, append-nil}
use Rattle.mmtel_lex.specs.UriParts.{host_and_params}
use Rattle.mmtel_history.specs.EntryUri.{has_cause, host_part_without_causes, is_marked, with_host_part, without_cause}
use Rattle.mmtel_history.proofs.CauseTheorems.{without_none, without_mark}
use Rattle.mmtel_history.proofs.ReadableTheorems.{if_ok_by}
use Rattle.mmtel_history.proofs.uris.without_cause.Goals as goal
use Rattle.mmtel_history.proofs.uris.without_cause.Goals.{After-uri_with_cause}

nothing_added : (u : List ℕ) → with_host_part (host_part_without_causes (host_and_params u) ++ []) u ≡ without_cause u
unfolding without_cause
nothing_added u = ap (λ (f : List ℕ). with_host_part f u) (append-nil (host_part_without_causes (host_and_params u)))

pub returns-clause-text : goal.returns-clause-text
returns-clause-text c = if_ok_by {P = λ t. t ≡ with_host_part (host_part_without_causes (host_and_params c.args.uri.now) ++ []) c.args.uri.now}
    {Q = λ t. t ≡ without_cause c.args.uri.now} c.uri_with_cause.result c.uri_with_cause.ensures (λ t same. same ∙ nothing_added c.args.uri.now)

pub returns-clause-none : goal.returns-clause-none
returns-clause-none c =
    if_ok_by {P = λ t. t ≡ without_cause c.args.uri.now} {Q = λ t. has_cause t ≡ false} c.uri_with_cause.result (returns-clause-text c)
    (λ t same. ap (λ (v : List ℕ). has_cause v) same ∙ without_none c.args.uri.now)

pub returns-clause-mark : goal.returns-clause-mark
returns-clause-mark c =
    if_ok_by {P = λ t. t ≡ without_cause c.args.uri.now} {Q = λ t. is_marked t ≡ is_marked c.args.uri.now} c.uri_with_cause.result (returns-clause-text c)
    (λ t same. ap (λ (v : List ℕ). is_marked v) same ∙ without_mark c.args.uri.now)
