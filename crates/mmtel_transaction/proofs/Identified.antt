-- What is read of a message by what its five fields say of its transaction and its dialog.
use Rattle.std.proofs.Common.{◌≡◌, ℕ, Bool, true, false, not, ◌||◌, cond, List, [], Option, Some, None, refl}
use Rattle.std.specs.Prelude.{◌==◌, if◌then◌else◌}
use Rattle.std.specs.Option.{option_map}
use Rattle.mmtel_message.specs.Fields.{five_at}
use Rattle.mmtel_message.specs.Identifiers.{Identifiers, identifiers_of}
use Rattle.mmtel_message.specs.Message.{Message}
use Rattle.mmtel_message.specs.declared.fields.Five.{Five}
use Rattle.mmtel_message.specs.declared.messages.Start.{Start}
use Rattle.mmtel_transaction.specs.Heads.{code_of, head_by, head_of, head_with, is_invite, is_provisional, is_refusal}
use Rattle.mmtel_transaction.specs.Changes.{after_reply}
use Rattle.mmtel_transaction.specs.declared.entries.Entry.{Entry}
use Rattle.mmtel_transaction.specs.declared.entries.State.TheVariants.{Completed, Absorbing}

pub head_known : (start : Start) (five : Option Five) (ids : Identifiers) → Some ids ≡ option_map identifiers_of five → head_by start ids ≡ head_with start five
head_known start None ids e = absurd cc
head_known start (Some five) ids e =
    let same : ids ≡ identifiers_of five = cc in
    rw same refl

pub head_unknown : (start : Start) (five : Option Five) → None ≡ option_map identifiers_of five → head_with start None ≡ head_with start five
head_unknown start None e = refl
head_unknown start (Some five) e = absurd cc

-- the status of a message is that of its start line, whatever its fields are
pub status_is : (m : Message Start) → (head_of m).status ≡ code_of m.start
unfolding head_of
status_is m = either (five_at m.lines)
  where
    either : (o : Option Five) → (head_with m.start o).status ≡ code_of m.start
    either None = refl
    either (Some five) = refl

-- a provisional response changes its transaction in the same way whatever its To tag is
pub tag_of_finals : (step order status : ℕ) (text to_tag : List ℕ) (now : ℕ) →
    after_reply step order status text (cond (is_provisional status) [] to_tag) now ≡ after_reply step order status text to_tag now
tag_of_finals step order status text to_tag now = either (is_provisional status)
  where
    replied : Bool → List ℕ → Entry → Entry
    replied early tag e =
        if not e.is_server || not (e.final_status == 0) then e
        else if early then record e { last = Some text }
        else record e {
          last = Some text;
          state = if is_invite e.head then Completed else Absorbing;
          start = now;
          retransmissions = 0;
          step = step;
          order = order;
          final_status = status;
          to_tag = tag;
          is_refused = is_refusal status;
          reliable = [];
        }

    either : (early : Bool) → replied early (cond early [] to_tag) ≡ replied early to_tag
    either true = refl
    either false = refl
