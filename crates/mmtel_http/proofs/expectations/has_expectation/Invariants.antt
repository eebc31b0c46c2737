use Rattle.std.proofs.Common.{◌≡◌, drop, map}
use Rattle.std.specs.List.{list_any}
use Rattle.mmtel_http.specs.Expectations.{is_expectation}
use Rattle.httparse.specs.Spans.{header_bytes}
use Rattle.mmtel_http.proofs.expectations.has_expectation.Given as goal

abbrev pub invariant-loop-span : goal.invariant-loop-span
invariant-loop-span l =
    list_any is_expectation (map (header_bytes l.head) l.spans) ≡ list_any is_expectation (map (header_bytes l.head) (drop l.span-index l.spans))
