-- A document is sound: its texts by their type, its tables by the order of their maps, and the rest by the walks that read it.
use Rattle.std.proofs.Common.{◌≡◌, List, [], ◌∷◌, String, Global, subst}
use Rattle.std.proofs.lemmas.Str.{IsUtf8-string_bytes}
use Rattle.std.specs.List.Sorted.{IsStrictlySortedBy}
use Rattle.std.specs.Map.{keys_of}
use Rattle.std.specs.String.{string_cmp}
use Rattle.toml.specs.declared.value.Value.{Value, String as StringValue}
use Rattle.toml.specs.View.{view, members_view}
use Rattle.toml.proofs.Views.{Entry, view-String, is_before-sorted}
use Rattle.mmtel_sheet_grammar.specs.Sound.{IsSound, IsSoundTable}

pub text_sound : (v : Value) (s : String Global) → v ≡ StringValue s → IsSound (view v)
text_sound v s e = rw (e, view-String s) (IsUtf8-string_bytes s)

-- ---- over the members of a table: their keys ascend, and the table is sound where the remaining members are

pub record IsLeft (all rest : List Entry) : Type 0 where
  pub ascend : IsStrictlySortedBy string_cmp (keys_of rest)
  pub whole : IsSoundTable (members_view rest) → IsSoundTable (members_view all)

pub members_begin : (all : List Entry) → IsStrictlySortedBy string_cmp (keys_of all) → IsLeft all all
members_begin all ascend = record { ascend = ascend; whole = λ h. h }

one_less : (all : List Entry) (e : Entry) (rest : List Entry) → IsLeft all (e ∷ rest) → IsSound (view e.1) → IsLeft all rest
unfolding IsStrictlySortedBy
one_less all e rest left here = record { ascend = left.ascend.1; whole = λ h. left.whole (is_before-sorted e.0 rest left.ascend.0, here, h) }

pub members_step : (all from : List Entry) (e : Entry) (rest : List Entry) → from ≡ e ∷ rest → IsLeft all from → IsSound (view e.1) → IsLeft all rest
members_step all from e rest first left here = one_less all e rest (subst (λ (es : List Entry). IsLeft all es) first left) here

pub members_end : (all : List Entry) → IsLeft all [] → IsSoundTable (members_view all)
members_end all left = left.whole tt
