-- A received value of History-Info as it is shown to somebody from whom its URI is withheld (RFC 3323 §4.2, RFC 7044 §10.1).
use Rattle.std.specs.Prelude.{ℕ, Bool, true, false, ◌||◌, if◌then◌else◌, List, Option, Some, None}
use Rattle.mmtel_history.specs.HistoryInfo.{entry_of, entry_text, masked_entry}
use Rattle.mmtel_history.specs.declared.entries.Entry.{Entry}

abbrev pub masked_from : List ℕ → Option Entry → List ℕ
masked_from value None = value
masked_from value (Some e) = entry_text (masked_entry true e)

-- the value with the anonymous URI and its cause in place of display name and URI, and with its index and its other parameters; one that is no entry stays
unfoldable pub masked_value_text : List ℕ → List ℕ
masked_value_text value = masked_from value (entry_of value)

abbrev pub is_hidden : Option Entry → Bool
is_hidden None = false
is_hidden (Some e) = e.hidden

-- an entry that requests to be hidden
unfoldable pub is_marked_value : List ℕ → Bool
is_marked_value value = is_hidden (entry_of value)

-- the value as it may be shown: masked where it requests to be hidden, or where all are
abbrev pub seen_value : Bool → List ℕ → List ℕ
seen_value all value = if all || is_marked_value value then masked_value_text value else value
