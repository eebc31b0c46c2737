-- Whether a client waits for 100 (Continue) before it sends its body (RFC 9110 §10.1.1).
use Rattle.std.specs.Prelude.{ℕ, ◌==◌, ◌&&◌, Bool, false, List, length, take, map, Some, None, codes}
use Rattle.std.specs.declared.option.Option.{Option}
use Rattle.std.specs.List.{list_any}
use Rattle.std.specs.Str.{str_eq_ignore_ascii_case}
use Rattle.httparse.specs.Grammar.{RequestHead}
use Rattle.httparse.specs.Spans.{name_and_value}
use Rattle.mmtel_http.specs.Heads.{head_of}
use Rattle.mmtel_http.specs.Requests.{head_end, head_window}

-- a field that says so, case-insensitive
abbrev pub is_expectation : List ℕ × List ℕ → Bool
is_expectation field = str_eq_ignore_ascii_case field.0 (codes "expect") && str_eq_ignore_ascii_case field.1 (codes "100-continue")

-- a head of HTTP/1.1 that has such a field
abbrev pub expects_continue : Option RequestHead → Bool
expects_continue None = false
expects_continue (Some h) = h.minor == 1 && list_any is_expectation (map name_and_value h.fields)

-- the head ends with the last of the bytes
abbrev pub expects_continue_at : List ℕ → Option ℕ → Bool
expects_continue_at bytes None = false
expects_continue_at bytes (Some n) = n == length bytes && expects_continue (head_of bytes)

-- the bytes are such a head, and nothing of the body has been received
unfoldable pub waits_for_continue : List ℕ → Bool
waits_for_continue bytes = expects_continue_at bytes (head_end (take head_window bytes))
