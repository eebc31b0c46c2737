-- On what of its request a response depends.
use Rattle.std.proofs.Common.{◌≡◌, Bool, true, false, List, [], ◌∷◌, ℕ, codes, cond, inl, inr, refl}
use Rattle.std.proofs.lemmas.Bool.{cases_Bool}
use Rattle.mmtel_message.specs.Faults.{is_request}
use Rattle.mmtel_message.specs.Message.{Line, has_line, is_line, lines_named}
use Rattle.mmtel_message.specs.Responses.{Reply, added_lines, call_lines, copied_lines, party_lines, response, route_lines, via_lines}
use Rattle.mmtel_message.specs.declared.messages.Start.{Start}
use Rattle.mmtel_trust.specs.ParsedMessage.{ParsedMessage}
use Rattle.mmtel_trust.specs.Kinds.{kind_of}
use Rattle.mmtel_trust.specs.PrivateFields.{NoEntries, PrivateFields, keeps_values, masked_lines, only_entries, private_fields_in}
use Rattle.mmtel_trust.specs.MaskedMessages.{Restriction, mask}
use Rattle.mmtel_trust.specs.declared.accounts.AccountIdentity.{AccountIdentity}

-- no line of the name means that none has the name
pub none_has : (name : List ℕ) (ls : List Line) → lines_named name ls ≡ [] → has_line name ls ≡ false
none_has name [] e = refl
none_has name (l ∷ ls) e =
    elim (cases_Bool (is_line name l)) [
      | inl y ↦ let f = rw y at e in absurd cc
      | inr n ↦ rw n (none_has name ls (rw n at e))
    ]

pub rests : (start : Start) (ls ms : List Line) (r : Reply) → lines_named (codes "Via") ls ≡ lines_named (codes "Via") ms → lines_named (codes "From") ls ≡ lines_named (codes "From") ms →
    lines_named (codes "To") ls ≡ lines_named (codes "To") ms → lines_named (codes "Call-ID") ls ≡ lines_named (codes "Call-ID") ms → lines_named (codes "CSeq") ls ≡ lines_named (codes "CSeq") ms →
    lines_named (codes "Record-Route") ls ≡ lines_named (codes "Record-Route") ms → response start ls r ≡ response start ms r
unfolding response copied_lines via_lines party_lines call_lines added_lines route_lines
rests start ls ms r via from to call_id cseq ways = rw (via, from, to, call_id, cseq, ways) refl

-- ---- the private places of From and To

pub from_kept : (p : PrivateFields) → p.from ≡ false → keeps_values p (kind_of (codes "From")) ≡ true
unfolding kind_of
from_kept p e = rw e refl

pub to_kept : (p : PrivateFields) → p.to ≡ false → keeps_values p (kind_of (codes "To")) ≡ true
unfolding kind_of
to_kept p e = rw e refl

same_if : (b : Bool) → cond b false false ≡ false
same_if true = refl
same_if false = refl

-- where nothing is private
abbrev pub nowhere : Start → PrivateFields
nowhere start = private_fields_in start (only_entries NoEntries)

pub to_nowhere : (start : Start) → (nowhere start).to ≡ false
to_nowhere start = same_if (is_request start)

-- a message from an untrusted peer has no private place
pub untouched : (restricts : Restriction) (accounts : List AccountIdentity) (m : ParsedMessage) → m.trusted ≡ false → (mask restricts accounts m).message.lines ≡ masked_lines (nowhere m.start) m.lines
untouched restricts accounts m e = rw e refl
