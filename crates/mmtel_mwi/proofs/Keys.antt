-- The keys of a document, read one after another.
use Rattle.std.proofs.Common.{◌≡◌, List, ◌∷◌, Ok, Err, sym, ap, subst, string_bytes, ◌∙◌}
use Rattle.toml.specs.View.{view, members_view}
use Rattle.toml.proofs.Views.{Entry}
use Rattle.mmtel_sheet_grammar.specs.ReadResults.{Read, then_read, IsReadResult}
use Rattle.mmtel_sheet_grammar.specs.declared.faults.SheetFault.{SheetFault}
use Rattle.mmtel_sheet_grammar.specs.declared.faults.SheetFault.TheVariants.{NotToml, Unknown, Wrong, Many, NoMemory}
use Rattle.mmtel_mwi.specs.Counting.{counts_after_key, counts_from, no_messages}
use Rattle.mmtel_mwi.specs.declared.counts.Counts.{Counts}

-- where reading the first key fails, reading both fails with the same fault
refuses_both : (first : Read Counts) (next : Counts → Read Counts) (x : SheetFault) → IsReadResult first (Err x) → IsReadResult (then_read first next) (Err x)
refuses_both first next NotToml a = elim a [ ]
refuses_both first next (Unknown k) a = ap (λ (r : Read Counts). then_read r next) a
refuses_both first next (Wrong k) a = ap (λ (r : Read Counts). then_read r next) a
refuses_both first next (Many k n) a = ap (λ (r : Read Counts). then_read r next) a
refuses_both first next NoMemory a = tt

one_key : (from rest all : List Entry) (e : Entry) (c : Counts) → from ≡ e ∷ rest → counts_from c (members_view from) ≡ counts_from no_messages (members_view all)
    → then_read (counts_after_key (string_bytes e.0) c (view e.1)) (λ d. counts_from d (members_view rest)) ≡ counts_from no_messages (members_view all)
one_key from rest all e c first same = sym (ap (λ (es : List Entry). counts_from c (members_view es)) first) ∙ same

pub key_read : (from rest all : List Entry) (e : Entry) (c d : Counts) → from ≡ e ∷ rest → counts_after_key (string_bytes e.0) c (view e.1) ≡ Ok d
    → counts_from c (members_view from) ≡ counts_from no_messages (members_view all) → counts_from d (members_view rest) ≡ counts_from no_messages (members_view all)
key_read from rest all e c d first was same =
    sym (ap (λ (r : Read Counts). then_read r (λ d. counts_from d (members_view rest))) was) ∙ one_key from rest all e c first same

pub key_refused : (from rest all : List Entry) (e : Entry) (c : Counts) (x : SheetFault) → from ≡ e ∷ rest → IsReadResult (counts_after_key (string_bytes e.0) c (view e.1)) (Err x)
    → counts_from c (members_view from) ≡ counts_from no_messages (members_view all) → IsReadResult (counts_from no_messages (members_view all)) (Err x)
key_refused from rest all e c x first was same =
    subst (λ (w : Read Counts). IsReadResult w (Err x)) (one_key from rest all e c first same)
    (refuses_both (counts_after_key (string_bytes e.0) c (view e.1)) (λ d. counts_from d (members_view rest)) x was)
