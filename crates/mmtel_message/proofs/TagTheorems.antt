-- A From or To value with a tag after it is read as the original value, with that tag.
use Rattle.std.proofs.Common.{false, ◌≡◌, ◌⊎◌, ℕ, List, [], ◌∷◌, ◌++◌, Some, refl, sym, ap, ◌∙◌, inl, inr, arith, append-nil, append_assoc, codes, None}
use Rattle.std.proofs.lemmas.Bool.{cases_Bool}
use Rattle.std.specs.List.{list_any}
use Rattle.mmtel_base.specs.Classes.{Stops, in_class}
use Rattle.mmtel_base.specs.declared.classes.Class.TheVariants.{Blank}
use Rattle.mmtel_lex.specs.Grammar.{AreParams, IsNameAddr, IsToken, IsValue, param_text, params_text}
use Rattle.mmtel_lex.specs.Params.{param_value}
use Rattle.mmtel_lex.specs.Reading.{name_addr_of}
use Rattle.mmtel_lex.specs.declared.values.NameAddr.{NameAddr}
use Rattle.mmtel_lex.specs.declared.values.Param.{Param}
use Rattle.mmtel_lex.proofs.NameAddrTheorems.{name_addr_again, name_addr_takes}
use Rattle.mmtel_message.specs.Responses.{IsUntagged, has_tag, is_tag, tagged_value, to_of_response, to_value}
use Rattle.mmtel_message.proofs.ExpansionTheorems.{or_left}

abbrev tag_param : List ℕ → Param
tag_param tag = record { name = codes "tag"; value = Some tag }

abbrev more : NameAddr → List ℕ → NameAddr
more n tag = record n { params = n.params ++ tag_param tag ∷ [] }

tag_token : IsToken (codes "tag")
unfolding in_class
tag_token = record { filled = omega arith; each = refl }

are_more : (ps : List Param) (tag : List ℕ) → AreParams ps → IsValue tag → AreParams (ps ++ tag_param tag ∷ [])
are_more [] tag are is = (record { name = tag_token; value = is }, tt)
are_more (p ∷ ps) tag are is = (are.0, are_more ps tag are.1 is)

more_text : (ps : List Param) (tag : List ℕ) → params_text (ps ++ tag_param tag ∷ []) ≡ params_text ps ++ (codes ";tag=" ++ tag)
more_text [] tag = append-nil (codes ";tag=" ++ tag)
more_text (p ∷ ps) tag = ap (λ (l : List ℕ). param_text p ++ l) (more_text ps tag) ∙ sym (append_assoc (param_text p) (params_text ps) (codes ";tag=" ++ tag))

stops_more : (s tag : List ℕ) → Stops Blank s → Stops Blank (tagged_value s tag)
unfolding in_class
stops_more [] tag stops = refl
stops_more (b ∷ s) tag stops = stops

bare_more : (uri : List ℕ) (ps : List Param) (tag : List ℕ) → tagged_value (uri ++ params_text ps) tag ≡ uri ++ params_text (ps ++ tag_param tag ∷ [])
bare_more uri ps tag = append_assoc uri (params_text ps) (codes ";tag=" ++ tag) ∙ ap (λ (l : List ℕ). uri ++ l) (sym (more_text ps tag))

angled_more : (display gap uri : List ℕ) (ps : List Param) (tag : List ℕ) →
    tagged_value (display ++ (gap ++ (60 ∷ (uri ++ 62 ∷ params_text ps)))) tag ≡ display ++ (gap ++ (60 ∷ (uri ++ 62 ∷ params_text (ps ++ tag_param tag ∷ []))))
angled_more display gap uri ps tag =
    let new : List ℕ = codes ";tag=" ++ tag in
    let inner : (uri ++ 62 ∷ params_text ps) ++ new ≡ uri ++ 62 ∷ params_text (ps ++ tag_param tag ∷ []) = append_assoc uri (62 ∷ params_text ps) new ∙ ap (λ (l : List ℕ). uri ++ 62 ∷ l) (sym (more_text ps tag)) in
    append_assoc display (gap ++ (60 ∷ (uri ++ 62 ∷ params_text ps))) new
    ∙ ap (λ (l : List ℕ). display ++ l) (append_assoc gap (60 ∷ (uri ++ 62 ∷ params_text ps)) new ∙ ap (λ (l : List ℕ). gap ++ 60 ∷ l) inner)

name_more : (s : List ℕ) (n : NameAddr) (tag : List ℕ) → IsNameAddr s n → IsValue tag → IsNameAddr (tagged_value s tag) (more n tag)
name_more s n tag (inl is) value = inl (record {
  gap = is.gap;
  whole = ap (λ (l : List ℕ). tagged_value l tag) is.whole ∙ angled_more n.display is.gap n.uri n.params tag;
  starts = stops_more s tag is.starts;
  display_in = is.display_in;
  gap_in = is.gap_in;
  uri_in = is.uri_in;
  params_in = are_more n.params tag is.params_in value;
})
name_more s n tag (inr is) value = inr (record {
  whole = ap (λ (l : List ℕ). tagged_value l tag) is.whole ∙ bare_more n.uri n.params tag;
  no_display = is.no_display;
  uri_in = is.uri_in;
  params_in = are_more n.params tag is.params_in value;
})

pub tagged_reads : (value : List ℕ) (n : NameAddr) (tag : List ℕ) → name_addr_of value ≡ Some n → IsValue tag →
    name_addr_of (tagged_value value tag) ≡ Some (record n { params = n.params ++ record { name = codes "tag"; value = Some tag } ∷ [] })
tagged_reads value n tag e is = name_addr_again (tagged_value value tag) (more n tag) (name_more value n tag (name_addr_takes value n e) is)

-- To of a response
pub to_reads : (tag value : List ℕ) (n : NameAddr) → name_addr_of value ≡ Some n → (tag ≡ []) ⊎ IsToken tag → name_addr_of (to_value tag value) ≡ Some (to_of_response tag n)
to_reads [] value n e is = e
to_reads (b ∷ tag) value n e (inl empty) = absurd cc
to_reads (b ∷ tag) value n e (inr is) =
    elim (cases_Bool (has_tag (Some n))) [
      | inl y ↦ rw (e, y) e
      | inr none ↦ rw (e, none) (tagged_reads value n (b ∷ tag) e (inl is))
    ]

-- where no parameter is a tag, none is found, and one that is put after them is the one that is found
pub none_found : (ps : List Param) → list_any is_tag ps ≡ false → param_value (codes "tag") ps ≡ None
none_found [] none = refl
none_found (p ∷ ps) none =
    let both = or_left (is_tag p) (list_any is_tag ps) none in
    rw both.0 (none_found ps both.1)

pub found_behind : (ps : List Param) (tag : List ℕ) → list_any is_tag ps ≡ false → param_value (codes "tag") (ps ++ tag_param tag ∷ []) ≡ Some tag
found_behind [] tag none = refl
found_behind (p ∷ ps) tag none =
    let both = or_left (is_tag p) (list_any is_tag ps) none in
    rw both.0 (found_behind ps tag both.1)

-- the tag of a To that had none
pub tag_found : (b : ℕ) (tag : List ℕ) (n : NameAddr) → IsUntagged n → param_value (codes "tag") (to_of_response (b ∷ tag) n).params ≡ Some (b ∷ tag)
tag_found b tag n none = rw (none_found n.params none) (found_behind n.params (b ∷ tag) none)

-- the tag of a To that had one
pub tag_stays : (tag : List ℕ) (n : NameAddr) (given : List ℕ) → param_value (codes "tag") n.params ≡ Some given → to_of_response tag n ≡ n
tag_stays [] n given e = refl
tag_stays (b ∷ tag) n given e = rw e refl
