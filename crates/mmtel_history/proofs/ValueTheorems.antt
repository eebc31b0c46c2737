-- What is a value of History-Info for the reader of messages is one here, and is read.
use Rattle.std.proofs.Common.{◌≡◌, true, false, ℕ, zero, suc, ◌≤◌, ◌<◌, List, [], ◌∷◌, length, take, get_or, Option, Some, None, Ok, refl, ◌∙◌, arith, nat_lt, inl, inr}
use Rattle.std.specs.Prelude.{is_some, is_none, position}
use Rattle.std.proofs.lemmas.Bool.{cases_Bool}
use Rattle.std.proofs.lemmas.Bool.Decides.{nat_tests}
use Rattle.std.proofs.lemmas.List.{take_all}
use Rattle.mmtel_base.specs.Chain.{◌>>=◌}
use Rattle.mmtel_base.proofs.Runs.{and_true}
use Rattle.mmtel_lex.specs.Reading.{name_addr_of}
use Rattle.mmtel_lex.specs.declared.values.NameAddr.{NameAddr}
use Rattle.mmtel_message.specs.Entries.{is_indexed, is_entry, are_entries}
use Rattle.mmtel_history.specs.HistoryInfo.{entry_in, entry_of, entries_of, is_unreadable, entries_result}
use Rattle.mmtel_history.specs.declared.entries.Entry.{Entry}
use Rattle.mmtel_history.proofs.Finding.{position_none}

entry_by : (o : Option NameAddr) → is_some (o >>= entry_in) ≡ is_indexed o
entry_by None = refl
entry_by (Some n) =
    elim (cases_Bool (is_indexed (Some n))) [
      | inl y ↦ rw y refl
      | inr m ↦ rw m refl
    ]

pub same_entry : (v : List ℕ) → is_some (entry_of v) ≡ is_entry v
unfolding entry_of
same_entry v = entry_by (name_addr_of v)

not_none : (o : Option Entry) → is_some o ≡ true → is_none o ≡ false
not_none None e = absurd cc
not_none (Some x) e = refl

each_read : (vs : List (List ℕ)) (k : ℕ) → are_entries vs ≡ true → k < length vs → is_unreadable (get_or vs k []) ≡ false
each_read [] k are lt = absurd (omega arith)
each_read (v ∷ vs) zero are lt = not_none (entry_of v) (same_entry v ∙ (and_true (is_entry v) (are_entries vs) are).0)
each_read (v ∷ vs) (suc k) are lt = each_read vs k (and_true (is_entry v) (are_entries vs) are).1 (omega arith)

pub entries_read : (vs : List (List ℕ)) → are_entries vs ≡ true → length vs ≤ 32 → entries_result vs ≡ Ok (entries_of vs)
unfolding entries_result
entries_read vs are few =
    let all : take 32 vs ≡ vs = take_all 32 vs few in
    let none : position is_unreadable vs ≡ None = position_none is_unreadable vs [] (λ k lt. each_read vs k are lt) in
    let fits : nat_lt 32 (length vs) ≡ false = grind (arith, nat_tests) in
    rw (all, none, fits) refl
