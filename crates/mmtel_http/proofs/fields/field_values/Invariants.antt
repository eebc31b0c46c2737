use Rattle.std.proofs.Common.{drop, map}
use Rattle.mmtel_http.specs.Requests.{values_named}
use Rattle.mmtel_http.specs.Views.{HaveValues}
use Rattle.httparse.specs.Spans.{header_bytes}
use Rattle.mmtel_http.proofs.fields.field_values.Given as goal

abbrev pub invariant-loop-span : goal.invariant-loop-span
invariant-loop-span l =
    HaveValues (values_named l.name (map (header_bytes l.head) l.spans)) (values_named l.name (map (header_bytes l.head) (drop l.span-index l.spans))) l.found
