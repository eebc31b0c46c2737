-- The head by the total function; and the window within which a head ends.
use Rattle.std.proofs.Common.{◌≡◌, ◌<◌, ◌≤◌, ◌∙◌, ◌==◌, ◌&&◌, false, ℕ, List, [], length, take, drop, Option, Result, Some, None, Ok, Err, refl, sym, ap, subst, arith, append-nil}
use Rattle.std.proofs.lemmas.Bool.{eq-eqb, le-ltb, lt-ltb, ne_eqb}
use Rattle.std.proofs.lemmas.List.{drop_all, length-map, length-take, length-take-le}
use Rattle.httparse.specs.Grammar.{RequestHead, ReadsRequest, print_request}
use Rattle.httparse.specs.Outcome.{IsCompleteAnd}
use Rattle.httparse.specs.Spans.{FindsRequest, IsRequestAt, IsRequestOf, header_bytes, name_and_value}
use Rattle.httparse.specs.declared.Error.{Error}
use Rattle.httparse.specs.declared.Status.{Status}
use Rattle.httparse.specs.declared.Status.TheVariants.{Complete, Partial}
use Rattle.httparse.specs.declared.spans.HeaderSpan.{HeaderSpan}
use Rattle.httparse.specs.declared.spans.RequestSpans.{RequestSpans}
use Rattle.mmtel_http.specs.Expectations.{expects_continue, expects_continue_at, waits_for_continue}
use Rattle.mmtel_http.specs.Heads.{head_of}
use Rattle.mmtel_http.specs.Requests.{ParsedRequestView, bad, unfinished, request_by_head, head_window, head_end, request_of}
use Rattle.mmtel_http.specs.Views.{IsHeadAt}
use Rattle.mmtel_http.proofs.HeadTheorems.{head_sound, head_complete}

-- a head of the grammar that the parser found, where it ends with the bytes and has no more fields than there is space for
pub head_found : (head : List ℕ) (spans : List HeaderSpan) (parts : RequestSpans) → length spans ≡ 64 → parts.len ≡ length head → IsRequestOf head spans parts
    → IsHeadAt head spans parts
head_found head spans parts room whole (h, at) = (h, head_complete head h reads few, at)
  where
    reads : ReadsRequest head h []
    reads = subst (λ (rest : List ℕ). ReadsRequest head h rest) (drop_all parts.len head (omega (arith, whole))) at.reads

    few : length h.fields ≤ 64
    few =
        let taken = ap length at.fields in
        omega (
          arith,
          taken,
          room,
          length-map h.fields name_and_value,
          length-map (take parts.headers spans) (header_bytes head),
          length-take parts.headers spans,
        )

-- the result of the parser for a head
found_of : (head : List ℕ) (h : RequestHead) (spans : List HeaderSpan) (answer : Result (Status RequestSpans) Error) → ReadsRequest head h []
    → IsCompleteAnd answer (λ parts. IsRequestAt head spans parts h) → IsCompleteAnd answer (λ parts. parts.len ≡ length head)
found_of head h spans (Ok (Complete parts)) reads at = at.len ∙ ap length (sym (append-nil (print_request h)) ∙ sym reads.1)
found_of head h spans (Ok Partial) reads at = at
found_of head h spans (Err error) reads at = at

-- the bytes are no head, where the parser found none, or one that they do not end with
pub no_head : (head : List ℕ) (room : ℕ) (spans : List HeaderSpan) (answer : Result (Status RequestSpans) Error) → room ≡ 64 → FindsRequest head room spans answer
    → (IsCompleteAnd answer (λ parts. parts.len ≡ length head) → ⊥) → head_of head ≡ None
no_head head room spans answer wide found none = by (head_of head) refl
  where
    by : (o : Option RequestHead) → head_of head ≡ o → head_of head ≡ None
    by None e = e
    by (Some h) e =
        let s = head_sound head h e in
        absurd (none (found_of head h spans answer s.0 (found h [] s.0 (omega (arith, wide, s.1)))))

pub too_long : (bytes : List ℕ) → head_end (take head_window bytes) ≡ None → head_window < length bytes → bad ≡ request_of bytes
unfolding request_of
too_long bytes e h = rw (e, lt-ltb head_window (length bytes) h) refl

pub not_long : (bytes : List ℕ) → head_end (take head_window bytes) ≡ None → length bytes ≤ head_window → unfinished ≡ request_of bytes
unfolding request_of
not_long bytes e h = rw (e, le-ltb head_window (length bytes) h) refl

pub ended : (bytes : List ℕ) (n : ℕ) (r : ParsedRequestView) → head_end (take head_window bytes) ≡ Some n → n ≤ length bytes
    → r ≡ request_by_head (head_of (take n bytes)) (length (take n bytes)) (drop n bytes) → r ≡ request_of bytes
unfolding request_of
ended bytes n r e h f =
    let len : length (take n bytes) ≡ n = length-take-le n bytes h in
    rw (f, e, len) refl

-- ---- whether the client waits, by where the head ends

waits : (bytes : List ℕ) (n : ℕ) → Some n ≡ head_end (take head_window bytes) → (n == length bytes && expects_continue (head_of bytes)) ≡ waits_for_continue bytes
unfolding waits_for_continue
waits bytes n ends = ap (expects_continue_at bytes) ends

pub waits_at_end : (bytes : List ℕ) (n : ℕ) → Some n ≡ head_end (take head_window bytes) → n ≡ length bytes → expects_continue (head_of bytes) ≡ waits_for_continue bytes
waits_at_end bytes n ends last = rw (eq-eqb n (length bytes) last) at (waits bytes n ends)

pub waits_not_behind : (bytes : List ℕ) (n : ℕ) → Some n ≡ head_end (take head_window bytes) → (n ≡ length bytes → ⊥) → (n == length bytes) ≡ waits_for_continue bytes
waits_not_behind bytes n ends more = let other = ne_eqb n (length bytes) more in other ∙ (rw other at (waits bytes n ends))

pub waits_not : (bytes : List ℕ) → None ≡ head_end (take head_window bytes) → false ≡ waits_for_continue bytes
unfolding waits_for_continue
waits_not bytes ends = ap (expects_continue_at bytes) ends
