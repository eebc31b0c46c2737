-- What the five fields of a message say does not change when its lines are expanded, where nothing is wrong with it; and what is read then.
use Rattle.std.proofs.Common.{◌≡◌, false, ℕ, List, [], length, Some, None, Ok, refl, sym, ap, nat_lt, ◌∙◌}
use Rattle.std.specs.Option.{option_map}
use Rattle.mmtel_message.specs.Message.{Line}
use Rattle.mmtel_message.specs.Fields.{five_at}
use Rattle.mmtel_message.specs.Faults.{fault_from, first_fault}
use Rattle.mmtel_message.specs.Expansion.{allow_text, expanded_lines, privacy_text}
use Rattle.mmtel_message.specs.Identifiers.{Identifiers, identifiers_in, identifiers_of}
use Rattle.mmtel_message.specs.Reads.{after_head, message_head, message_of, most_lines}
use Rattle.mmtel_message.specs.declared.fields.Five.{Five}
use Rattle.mmtel_message.specs.declared.messages.Start.{Start}
use Rattle.mmtel_message.proofs.CanonicalTheorems.{five_kept}
use Rattle.mmtel_message.proofs.ExpansionTheorems.{clean_from}
use Rattle.mmtel_message.proofs.ReadTheorems.{absent_parts, fault_parts}

still_said : (start : Start) (five : Five) (room : ℕ) (hs : List Line) → five_at hs ≡ Some five → first_fault start five room hs ≡ None → identifiers_in (expanded_lines hs) ≡ Some (identifiers_of five)
still_said start five room hs is faultless =
    let f = fault_parts start five room hs faultless in
    let o = absent_parts start hs (fault_from start five room [] hs) f.1 in
    ap (λ o. option_map identifiers_of o) (five_kept (privacy_text hs) (allow_text hs) start five room hs (clean_from start five room [] hs o.0) ∙ is)

-- the same for the lines as they were read
pub said_of_read : (start : Start) (five : Five) (room : ℕ) (ls hs : List Line) (ids : Identifiers) → ls ≡ hs → Some five ≡ five_at ls → None ≡ first_fault start five room ls →
    ids ≡ identifiers_of five → identifiers_in (expanded_lines hs) ≡ Some ids
said_of_read start five room ls hs ids same is faultless e =
    let five_is : five_at hs ≡ Some five = ap five_at (sym same) ∙ sym is in
    let none : first_fault start five room hs ≡ None = ap (λ (ks : List Line). first_fault start five room ks) (sym same) ∙ sym faultless in
    still_said start five room hs five_is none ∙ ap (λ (i : Identifiers). Some i) (sym e)

pub read_whole : (start : Start) (five : Five) (hs : List Line) (rest : List ℕ) → five_at hs ≡ Some five → nat_lt most_lines (length hs) ≡ false → first_fault start five (length rest) hs ≡ None →
    after_head (message_head (Some start) hs) rest ≡ Ok (message_of start hs rest)
read_whole start five hs rest is few faultless = rw (is, few, faultless) refl
