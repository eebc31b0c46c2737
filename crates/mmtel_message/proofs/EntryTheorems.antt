-- The History-Info of a message that was read: each value is an entry, and there are at most 32.
use Rattle.std.proofs.Common.{◌≡◌, ◌&&◌, not, true, false, ℕ, ◌+◌, ◌≤◌, List, [], ◌∷◌, ◌++◌, length, Some, Ok, refl, subst, ◌∙◌, inl, inr, arith, append-nil, append_assoc, codes, nat_lt}
use Rattle.std.proofs.lemmas.Bool.{cases_Bool}
use Rattle.std.proofs.lemmas.Bool.Decides.{nat_tests}
use Rattle.std.proofs.lemmas.List.{length-append}
use Rattle.std.proofs.lemmas.List.Folds.{list_all-append}
use Rattle.std.specs.Str.{str_to_ascii_lowercase}
use Rattle.mmtel_message.specs.Message.{Message, is_line, has_line, values_named}
use Rattle.mmtel_message.specs.Values.{values_of}
use Rattle.mmtel_message.specs.Entries.{is_entry, are_entries}
use Rattle.mmtel_message.specs.Faults.{is_method, start_fault, line_fault, fault_from}
use Rattle.mmtel_message.specs.Fields.{five_at}
use Rattle.mmtel_message.specs.Reads.{read_result}
use Rattle.mmtel_message.specs.declared.values.Mode.TheVariants.{Plain}
use Rattle.mmtel_message.specs.declared.fields.Five.{Five}
use Rattle.mmtel_message.specs.declared.messages.Start.{Start}
use Rattle.mmtel_message.proofs.ExpansionTheorems.{Line, Clean, clean_from, line_named, named_by, history_parts, hist_more, hist_none}
use Rattle.mmtel_message.proofs.ReadTheorems.{canonical, fault_parts, absent_parts}

abbrev histories : List Line → List (List ℕ)
histories ls = values_named Plain (codes "History-Info") ls

-- a line of History-Info in which nothing is wrong
history_of : (start : Start) (five : Five) (room : ℕ) (B : List Line) (h : Line) → line_fault start five room B h ≡ false → is_line (codes "History-Info") h ≡ true →
    (are_entries (values_of h.1) ≡ true) × (nat_lt 32 (length (histories B) + length (values_of h.1)) ≡ false)
history_of start five room B h e y =
    let q : str_to_ascii_lowercase h.0 ≡ codes "history-info" = line_named (codes "History-Info") h y in
    history_parts (are_entries (values_of h.1)) (nat_lt 32 (length (histories B) + length (values_of h.1))) (rw (named_by start five room B h e, q) at e)

entries_from : (start : Start) (five : Five) (room : ℕ) (B hs : List Line) → Clean start five room B hs → are_entries (histories hs) ≡ true
entries_from start five room B [] e = refl
entries_from start five room B (h ∷ hs) e =
    let more = entries_from start five room (B ++ h ∷ []) hs e.1 in
    elim (cases_Bool (is_line (codes "History-Info") h)) [
      | inl y ↦ rw (y, list_all-append is_entry (values_of h.1) (histories hs), (history_of start five room B h e.0 y).0, more) refl
      | inr n ↦ rw n more
    ]

few_more : (start : Start) (five : Five) (room : ℕ) (B : List Line) (h : Line) → length (histories B) ≤ 32 → line_fault start five room B h ≡ false → length (histories (B ++ h ∷ [])) ≤ 32
few_more start five room B h le e =
    elim (cases_Bool (is_line (codes "History-Info") h)) [
      | inl y ↦
          let few = (history_of start five room B h e y).1 in
          let mine : histories (h ∷ []) ≡ values_of h.1 = rw y (append-nil (values_of h.1)) in
          let all : histories (B ++ h ∷ []) ≡ histories B ++ values_of h.1 = hist_more B (h ∷ []) ∙ rw mine refl in
          rw all (grind (arith, nat_tests, few, length-append (histories B) (values_of h.1)))
      | inr n ↦ rw (hist_none B h n) le
    ]

few_from : (start : Start) (five : Five) (room : ℕ) (B hs : List Line) → length (histories B) ≤ 32 → Clean start five room B hs → length (histories (B ++ hs)) ≤ 32
few_from start five room B [] le e = rw (append-nil B) le
few_from start five room B (h ∷ hs) le e =
    let same : (B ++ h ∷ []) ++ hs ≡ B ++ h ∷ hs = append_assoc B (h ∷ []) hs in
    subst (λ (x : List Line). length (histories x) ≤ 32) same (few_from start five room (B ++ h ∷ []) hs (few_more start five room B h le e.0) e.1)

-- what is known of a message that was read: its five fields, and that nothing is wrong with its lines and its start line
pub record IsClean (m : Message Start) : Type 0 where
  pub five : Five
  pub found : five_at m.lines ≡ Some five
  pub clean : Clean m.start five (length m.body) [] m.lines
  pub target : start_fault m.start ≡ false
  pub contact : (is_method (codes "INVITE") m.start && not (has_line (codes "Contact") m.lines)) ≡ false

pub clean_read : (s : List ℕ) (m : Message Start) → read_result s ≡ Ok m → IsClean m
clean_read s m e =
    let is = (canonical s m e).sound in
    let f = fault_parts m.start is.five (length m.body) m.lines is.faultless in
    let o = absent_parts m.start m.lines (fault_from m.start is.five (length m.body) [] m.lines) f.1 in
    record { five = is.five; found = is.five_in; clean = clean_from m.start is.five (length m.body) [] m.lines o.0; target = f.0; contact = o.1 }

pub read_entries : (s : List ℕ) (m : Message Start) → read_result s ≡ Ok m → are_entries (values_named Plain (codes "History-Info") m.lines) ≡ true
read_entries s m e = let c = clean_read s m e in entries_from m.start c.five (length m.body) [] m.lines c.clean

pub read_few : (s : List ℕ) (m : Message Start) → read_result s ≡ Ok m → length (values_named Plain (codes "History-Info") m.lines) ≤ 32
read_few s m e = let c = clean_read s m e in few_from m.start c.five (length m.body) [] m.lines (omega arith) c.clean
