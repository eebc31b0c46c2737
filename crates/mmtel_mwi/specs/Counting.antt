-- How many messages wait in a mailbox, as the operator uploads it: a TOML document of four keys, what is read of it, and which fault is the first. Keys come in byte order, so
-- that an urgent count comes after the one that it is a part of (RFC 3842 §5.2).
use Rattle.std.specs.Prelude.{◌≡◌, ℕ, List, Option, Some, None, Ok, Err, if◌then◌else◌, codes}
use Rattle.std.specs.Str.{bytes_eq, is_utf8}
use Rattle.toml.specs.Data.{Data, Members, no_members, member}
use Rattle.toml.specs.Parse.{parse_document}
use Rattle.mmtel_sheet_grammar.specs.ReadResults.{Read, then_read}
use Rattle.mmtel_sheet_grammar.specs.Elements.{number_at}
use Rattle.mmtel_sheet_grammar.specs.declared.faults.SheetFault.{SheetFault}
use Rattle.mmtel_sheet_grammar.specs.declared.faults.SheetFault.TheVariants.{NotToml, Unknown, Wrong, Many, NoMemory}
use Rattle.mmtel_mwi.specs.declared.counts.Counts.{Counts}

-- no message waits: in a mailbox for which nothing was uploaded, and where a document has no key
abbrev pub no_messages : Counts
no_messages = record { fresh = 0; old = 0; urgent_fresh = 0; urgent_old = 0 }

-- a key: an urgent count is at most the one that it is a part of
abbrev pub counts_after_key : List ℕ → Counts → Data → Read Counts
counts_after_key k c d =
    if bytes_eq k (codes "new") then then_read (number_at 0 999_999_999 k d) (λ n. Ok (record c { fresh = n }))
    else if bytes_eq k (codes "old") then then_read (number_at 0 999_999_999 k d) (λ n. Ok (record c { old = n }))
    else if bytes_eq k (codes "urgent-new") then then_read (number_at 0 c.fresh k d) (λ n. Ok (record c { urgent_fresh = n }))
    else if bytes_eq k (codes "urgent-old") then then_read (number_at 0 c.old k d) (λ n. Ok (record c { urgent_old = n }))
    else Err (Unknown k)

-- the keys, one after another
abbrev pub counts_from : Counts → Members → Read Counts
counts_from c no_members = Ok c
counts_from c (member k d ms) = then_read (counts_after_key k c d) (λ e. counts_from e ms)

-- the counts of a document, or its first fault
abbrev pub counts_of : Members → Read Counts
counts_of ms = counts_from no_messages ms

abbrev pub document_counts : Option Members → Read Counts
document_counts None = Err NotToml
document_counts (Some ms) = counts_of ms

-- the counts of the document that the bytes are, or the first fault
unfoldable pub counts_read : List ℕ → Read Counts
counts_read bytes = if is_utf8 bytes then document_counts (parse_document bytes) else Err NotToml

abbrev pub ReportsFault : Read Counts → SheetFault → Type 0
ReportsFault wanted NotToml = wanted ≡ Err NotToml
ReportsFault wanted (Unknown key) = wanted ≡ Err (Unknown key)
ReportsFault wanted (Wrong key) = wanted ≡ Err (Wrong key)
ReportsFault wanted (Many key limit) = wanted ≡ Err (Many key limit)
ReportsFault wanted NoMemory = Unit {0}

-- this is returned, unless memory runs out
abbrev pub ReportsCounts : Read Counts → Read Counts → Type 0
ReportsCounts wanted (Ok c) = wanted ≡ Ok c
ReportsCounts wanted (Err e) = ReportsFault wanted e
