-- A request does not change once it is whole: what follows it on its connection has no effect.
use Rattle.std.specs.Prelude.{◌≡◌, ◌<◌, ◌+◌, ℕ, List, ◌++◌, length}
use Rattle.mmtel_http.specs.Requests.{head_window, max_body, request_of, unfinished}

abbrev pub CompleteRequestsAreFinal : Type 0
CompleteRequestsAreFinal = (front more : List ℕ) → (request_of front ≡ unfinished → ⊥) → request_of (front ++ more) ≡ request_of front

-- one that is not yet whole has fewer bytes than the largest head and the largest body together
abbrev pub UnfinishedIsShort : Type 0
UnfinishedIsShort = (bytes : List ℕ) → request_of bytes ≡ unfinished → length bytes < head_window + max_body + 1
