-- Which web connections were read to the end of their request, and the bytes that are not read of one that was.
use Rattle.std.proofs.Common.{◌≡◌, ℕ, List, [], ◌∷◌, drop, take, refl, sym, ap, ◌∙◌, subst, arith, inl, inr}
use Rattle.std.proofs.lemmas.List.{take-append-drop}
use Rattle.mmtel_http.specs.Requests.{ParsedRequestView, request_of, unfinished, whole_of}
use Rattle.mmtel_http.specs.Completeness.{CompleteRequestsAreFinal}
use Rattle.mmtel_environment.specs.Counts.{Rose}
use Rattle.mmtel_environment.specs.declared.events.Event.{Event}
use Rattle.mmtel_environment.specs.declared.events.Event.TheVariants as event
use Rattle.mmtel_run_definitions.specs.Events.{WebRequested}
use Rattle.mmtel_server.specs.DriveEffects.{EachRead, IsRead, IsReadOut}
use Rattle.mmtel_server.specs.Theorems.{IsEventReadOut, ReadOutHasAllBytes, UnfailedAreReadOut}

-- ---- where the count did not rise

rose_on : (a b c n : ℕ) (e : Event) → Rose a b → IsRead b c n e → Rose a c
rose_on a b c n (event.Datagram from at bytes) rose read = subst (λ (k : ℕ). Rose a k) (sym read) rose
rose_on a b c n (event.Web at bytes) rose (needed, inl read) = subst (λ (k : ℕ). Rose a k) (sym read.1) rose
rose_on a b c n (event.Web at bytes) rose (needed, inr more) = omega (arith, rose, more)
rose_on a b c n (event.Quiet at) rose read = subst (λ (k : ℕ). Rose a k) (sym read) rose

-- a count that rose has still risen after more
still_rose : (a b c : ℕ) (events : List Event) (reads : List ℕ) → Rose a b → EachRead b c events reads → Rose a c
still_rose a b c [] [] rose each = subst (λ (n : ℕ). Rose a n) (sym each) rose
still_rose a b c (e ∷ events) [] rose each = subst (λ (n : ℕ). Rose a n) (sym each) rose
still_rose a b c [] (n ∷ reads) rose each = absurd each
still_rose a b c (e ∷ events) (n ∷ reads) rose each = still_rose a each.0 c events reads (rose_on a b each.0 n e rose each.1) each.2

-- an event in whose reading the count did not rise
stayed : (a b n : ℕ) (e : Event) → IsRead a b n e → (Rose a b → ⊥) → (b ≡ a) × IsEventReadOut n e
stayed a b n (event.Datagram from at bytes) read unrisen = (read, tt)
stayed a b n (event.Web at bytes) (needed, inl read) unrisen = (read.1, read.0)
stayed a b n (event.Web at bytes) (needed, inr rose) unrisen = absurd (unrisen rose)
stayed a b n (event.Quiet at) read unrisen = (read, tt)

pub unfailed : UnfailedAreReadOut
unfailed giving gave [] [] each unrisen = tt
unfailed giving gave (e ∷ events) [] each unrisen = tt
unfailed giving gave [] (n ∷ reads) each unrisen = absurd each
unfailed giving gave (e ∷ events) (n ∷ reads) each unrisen =
    let here = stayed giving each.0 n e each.1 (λ rose. unrisen (still_rose giving each.0 gave events reads rose each.2)) in
    (here.1, unfailed giving gave events reads (subst (λ (k : ℕ). EachRead k gave events reads) here.0 each.2) unrisen)

-- ---- what is not read

whole_same : CompleteRequestsAreFinal → (n : ℕ) (bytes : List ℕ) → IsReadOut n bytes → request_of (take n bytes) ≡ request_of bytes
whole_same stand n bytes (inl whole) =
    let more : request_of (take n bytes) ≡ unfinished → ⊥ = λ is. whole (ap whole_of is) in
    sym (ap request_of (sym (take-append-drop n bytes)) ∙ stand (take n bytes) (drop n bytes) more)
whole_same stand n bytes (inr all) = ap request_of all

pub has_all_bytes : CompleteRequestsAreFinal → ReadOutHasAllBytes
has_all_bytes stand directory n (event.Datagram from at bytes) kept rows out = refl
has_all_bytes stand directory n (event.Web at bytes) kept rows out = ap (λ (r : ParsedRequestView). WebRequested r kept rows) (whole_same stand n bytes out)
has_all_bytes stand directory n (event.Quiet at) kept rows out = refl
