-- What the clauses of public functions cite, including the words of the theorems.
pub mod HistoryInfo
pub mod MaskedValues
-- What a URI says and what is put into it. Public clauses cite without_cause, with_cause, cause_of, causes_in, has_cause and is_marked, and of what they depend on the
-- places of a URI; the words of private functions are parts to behind, cause_number, hides, begins_escape to escaped_parts, mark_text, marked_uri and cause_text.
pub mod EntryUri
