-- A request of the program as a value of the definitions.
use Rattle.std.specs.Prelude.{◌≡◌, List, ℕ, [], ◌∷◌, Some}
use Rattle.std.specs.Option.{option_copied}
use Rattle.httparse.specs.Grammar.{RequestHead}
use Rattle.httparse.specs.Spans.{IsRequestAt}
use Rattle.httparse.specs.declared.spans.HeaderSpan.{HeaderSpan}
use Rattle.httparse.specs.declared.spans.RequestSpans.{RequestSpans}
use Rattle.mmtel_http.specs.Heads.{head_of}
use Rattle.mmtel_http.specs.Requests as spec
use Rattle.mmtel_http.specs.declared.requests.HttpRequest.{HttpRequest}
use Rattle.mmtel_http.specs.declared.requests.ParsedRequest.{ParsedRequest}
use Rattle.mmtel_http.specs.declared.requests.ParsedRequest.TheVariants as request
use Rattle.mmtel_http.specs.declared.fields.FieldValues.{FieldValues}
use Rattle.mmtel_http.specs.declared.fields.FieldValues.TheVariants.{Absent, One, Many}

abbrev pub http_request_view : HttpRequest → spec.HttpRequestView
http_request_view a = record {
  method = a.method.now;
  target = a.target.now;
  identity = option_copied a.identity;
  kind = option_copied a.kind;
  body = a.body.now;
  len = a.len;
}

abbrev pub parsed_request_view : ParsedRequest → spec.ParsedRequestView
parsed_request_view request.Unfinished = spec.unfinished
parsed_request_view request.Bad = spec.bad
parsed_request_view request.Large = spec.large
parsed_request_view (request.Parsed a) = spec.parsed (http_request_view a)

-- what a search has found of all values, where the rest is still to be searched
abbrev pub HaveValues : List (List ℕ) → List (List ℕ) → FieldValues → Type 0
HaveValues all rest Absent = all ≡ rest
HaveValues all rest (One v) = all ≡ v.now ∷ rest
HaveValues all rest Many = (v : List ℕ) × (w : List ℕ) × (more : List (List ℕ)) × (all ≡ v ∷ w ∷ more)

abbrev pub AreFieldValues : List (List ℕ) → FieldValues → Type 0
AreFieldValues all found = HaveValues all [] found

-- the bytes are a head, and its parts are at these spans
abbrev pub IsHeadAt : List ℕ → List HeaderSpan → RequestSpans → Type 0
IsHeadAt head spans parts = (h : RequestHead) × (head_of head ≡ Some h) × IsRequestAt head spans parts h
