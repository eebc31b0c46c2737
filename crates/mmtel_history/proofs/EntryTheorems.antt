-- What is written of an entry is read again.
use Rattle.std.proofs.Common.{◌≡◌, Bool, true, false, ℕ, List, [], ◌∷◌, ◌++◌, Option, Some, refl, sym, ap, ◌∙◌, arith, inl, inr}
use Rattle.std.specs.Prelude.{codes}
use Rattle.std.proofs.lemmas.Bool.{cases_Bool}
use Rattle.std.proofs.lemmas.List.{length-append}
use Rattle.std.proofs.lemmas.List.Folds.{list_all-append}
use Rattle.mmtel_base.specs.Classes.{in_class, IsAll, Stops}
use Rattle.mmtel_base.specs.declared.classes.Class.TheVariants.{Blank, UriByte}
use Rattle.mmtel_lex.specs.Grammar.{params_text, IsToken, IsAngled}
use Rattle.mmtel_lex.specs.Reading.{name_addr_of}
use Rattle.mmtel_lex.specs.declared.values.Param.{Param}
use Rattle.mmtel_lex.specs.declared.values.NameAddr.{NameAddr}
use Rattle.mmtel_lex.proofs.NameAddrTheorems.{name_addr_again}
use Rattle.mmtel_history.specs.EntryUri.{cause_of, has_headers, is_marked, mark_text, marked_uri}
use Rattle.mmtel_history.specs.HistoryInfo.{entry_with, entry_of, written_uri, entry_text, IsReadable, IsUriText, written_entry}
use Rattle.mmtel_history.specs.declared.entries.Entry.{Entry}
use Rattle.mmtel_history.proofs.IndexTheorems.{dotted_token}
use Rattle.mmtel_history.proofs.UriTheorems.{mark_theorem}

-- ---- what is shown of a URI

mark_bytes : (b : Bool) → IsAll UriByte (mark_text b)
unfolding in_class
mark_bytes true = refl
mark_bytes false = refl

pub marked_text : (u : List ℕ) → IsUriText u → IsUriText (marked_uri u)
unfolding marked_uri
marked_text u is =
    elim (cases_Bool (is_marked u)) [
      | inl y ↦ rw y is
      | inr n ↦ rw n (record { filled = omega (arith, length-append u (mark_text (has_headers u)), is.filled); each = rw (list_all-append, is.each, mark_bytes (has_headers u)) refl })
    ]

pub record Shown (e : Entry) : Type 0 where
  pub uri : IsUriText (written_uri e)
  pub cause : cause_of (written_uri e) ≡ e.cause
  pub hidden : is_marked (written_uri e) ≡ e.hidden

not_marked : (b : Bool) (h : Bool) → (b ≡ true → h ≡ true) → h ≡ false → b ≡ false
not_marked true h f e = absurd (let t = f refl in cc)
not_marked false h f e = refl

pub shown_theorem : (e : Entry) → IsReadable e → Shown e
unfolding written_uri
shown_theorem e is =
    elim (cases_Bool e.hidden) [
      | inl y ↦
          let law = mark_theorem e.uri in
          record { uri = rw y (marked_text e.uri is.uri); cause = rw y (law.cause ∙ sym is.cause); hidden = rw y law.marked }
      | inr n ↦ record { uri = rw n is.uri; cause = rw n (sym is.cause); hidden = rw n (not_marked (is_marked e.uri) e.hidden is.mark n) }
    ]

-- ---- an entry read again

index_name : IsToken (codes "index")
unfolding in_class
index_name = record { filled = omega arith; each = refl }

angle_first : (t : List ℕ) → Stops Blank (60 ∷ t)
unfolding in_class
angle_first t = refl

abbrev index_param : List ℕ → Param
index_param index = record { name = codes "index"; value = Some index }

abbrev read_as : Entry → List Param → NameAddr
read_as e ps = record { display = []; uri = written_uri e; params = index_param e.index ∷ ps }

angled : (e : Entry) (is : IsReadable e) → IsAngled (entry_text e) (read_as e is.rest.0)
unfolding entry_text
angled e is = record {
  gap = [];
  whole = ap (λ (l : List ℕ). 60 ∷ (written_uri e ++ (codes ">;index=" ++ (e.index ++ l)))) is.rest.1;
  starts = angle_first (written_uri e ++ (codes ">;index=" ++ (e.index ++ e.rest)));
  display_in = inl (record { each = refl; ends = tt });
  gap_in = refl;
  uri_in = (shown_theorem e is).uri;
  params_in = (record { name = index_name; value = inl (dotted_token e.index is.index) }, is.rest.2);
}

entry_by : (u index : List ℕ) (c : Option ℕ) (h : Bool) (r s : List ℕ) → cause_of u ≡ c → is_marked u ≡ h → s ≡ r → entry_with u index r ≡ record { uri = u; index = index; cause = c; hidden = h; rest = s }
entry_by u index c h r s cause mark rest = rw (cause, mark, rest) refl

pub entry_again : (e : Entry) → IsReadable e → entry_of (entry_text e) ≡ Some (written_entry e)
unfolding entry_of
entry_again e is =
    let law = shown_theorem e is in
    let read : name_addr_of (entry_text e) ≡ Some (read_as e is.rest.0) = name_addr_again (entry_text e) (read_as e is.rest.0) (inl (angled e is)) in
    let made : entry_with (written_uri e) e.index (params_text is.rest.0) ≡ written_entry e = entry_by (written_uri e) e.index e.cause e.hidden (params_text is.rest.0) e.rest law.cause law.hidden is.rest.1 in
    rw (read, is.index) (ap (λ (x : Entry). Some x) made)
