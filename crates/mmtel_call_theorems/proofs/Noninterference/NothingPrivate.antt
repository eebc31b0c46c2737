-- Messages of which nothing is private.
use Rattle.std.proofs.Common.{◌≡◌, ℕ, Bool, true, false, ◌&&◌, List, [], ◌∷◌, ◌++◌, refl, ap, ◌∙◌, cond, Option, Some}
use Rattle.mmtel_message.specs.Faults.{is_request}
use Rattle.mmtel_message.specs.Message.{Line}
use Rattle.mmtel_trust.specs.ParsedMessage.{ParsedMessage}
use Rattle.mmtel_trust.specs.Kinds.{kind_of}
use Rattle.mmtel_trust.specs.PrivateFields.{Entries, NoEntries, PrivateFields, entries_of, masked_line, masked_lines, masked_value, only_entries, with_name}
use Rattle.mmtel_trust.specs.declared.kinds.HeaderKind.{HeaderKind}
use Rattle.mmtel_trust.specs.declared.kinds.HeaderKind.TheVariants as kind
use Rattle.mmtel_call_theorems.specs.Noninterference.PublicParts.{MessagesHaveNothingPrivate}
use Rattle.mmtel_call_theorems.specs.Noninterference.Roles.{hidden_by, private_fields}
use Rattle.mmtel_call_theorems.proofs.Noninterference.Sent.{whole}
use Rattle.mmtel_call_theorems.proofs.Noninterference.CopiedLines.{entries_placed}

value_kept : (k : HeaderKind) (v : List ℕ) → masked_value (only_entries NoEntries) k v ≡ Some v
value_kept kind.From v = refl
value_kept kind.To v = refl
value_kept kind.Contact v = refl
value_kept kind.Asserted v = refl
value_kept kind.Served v = refl
value_kept kind.Privacy v = refl
value_kept kind.History v = refl
value_kept kind.Options v = refl
value_kept kind.Session v = refl
value_kept kind.Passed v = refl
value_kept kind.Personal v = refl
value_kept kind.Trusted v = refl
value_kept kind.Other v = refl

line_kept : (l : Line) → masked_line (only_entries NoEntries) l ≡ l ∷ []
unfolding masked_line
line_kept l = ap (λ (o : Option (List ℕ)). with_name l.0 o) (value_kept (kind_of l.0) l.1)

lines_kept : (ls : List Line) → masked_lines (only_entries NoEntries) ls ≡ ls
lines_kept [] = refl
lines_kept (l ∷ ls) = ap (λ (front : List Line). front ++ masked_lines (only_entries NoEntries) ls) (line_kept l) ∙ ap (λ (rest : List Line). l ∷ rest) (lines_kept ls)

none_hidden : (b : Bool) (h : ParsedMessage) → hidden_by b (only_entries NoEntries) h ≡ h
none_hidden true h = ap (λ (ls : List Line). record h { lines = ls }) (ap (λ (p : PrivateFields). masked_lines p h.lines) (entries_placed h.start NoEntries) ∙ lines_kept h.lines)
none_hidden false h = refl

no_entries : (trusted asks : Bool) (es : Entries) → asks ≡ false → cond (trusted && asks) es NoEntries ≡ NoEntries
no_entries true true es e = absurd cc
no_entries true false es e = refl
no_entries false asks es e = refl

pub messages_have_nothing_private : MessagesHaveNothingPrivate
messages_have_nothing_private = record {
  untrusted = λ role m e. ap (λ (h : ParsedMessage). record m { parsed = h }) (whole m.parsed.trusted (private_fields role m.parsed) m.parsed e);
  responses = λ m e.
      ap (λ (es : Entries). record m { parsed = hidden_by m.parsed.trusted (only_entries es) m.parsed }) (no_entries m.parsed.trusted (is_request m.parsed.start) (entries_of m.parsed.wants) e)
      ∙ ap (λ (h : ParsedMessage). record m { parsed = h }) (none_hidden m.parsed.trusted m.parsed);
}
