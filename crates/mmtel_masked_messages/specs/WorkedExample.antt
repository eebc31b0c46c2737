-- A worked INVITE (RFC 3261 §8.1.1), with a request for privacy (RFC 3323 §4.2) and without: what transactions and legs read of it, masked and not.
use Rattle.std.specs.Prelude.{◌≡◌, true, ℕ, List, [], ◌∷◌, ◌++◌, Some, codes}
use Rattle.mmtel_leg.specs.Dialogues.{number_in}
use Rattle.mmtel_leg.specs.Remotes.{remote_of}
use Rattle.mmtel_leg.specs.declared.remotes.Remote.{Remote}
use Rattle.mmtel_message.specs.Message.{Line, Message}
use Rattle.mmtel_message.specs.declared.messages.Start.{Start}
use Rattle.mmtel_message.specs.declared.messages.Start.TheVariants.{Request}
use Rattle.mmtel_transaction.specs.Heads.{head_of}
use Rattle.mmtel_transaction.specs.declared.heads.Head.{Head}
use Rattle.mmtel_trust.specs.PrivateFields.{MarkedEntries, masked_message, only_entries, private_in_opening}
use Rattle.mmtel_types.specs.declared.sides.Side.TheVariants.{Caller}

-- the INVITE with this From and Contact, and with further lines
abbrev pub invite_of : List ℕ → List ℕ → List Line → Message Start
invite_of from contact further = record {
  start = Request (codes "INVITE") (codes "sip:bob@far.example");
  lines =
      (codes "Via", codes "SIP/2.0/UDP 127.0.0.1:5071;branch=z9hG4bKa1") ∷
      (codes "Max-Forwards", codes "68") ∷
      (codes "From", from) ∷
      (codes "To", codes "<sip:bob@far.example>") ∷
      (codes "Call-ID", codes "c1") ∷
      (codes "CSeq", codes "7 INVITE") ∷
      (codes "Contact", contact) ∷ further;
  body = [];
}

-- the request for privacy of the identity, and no body
abbrev pub private_lines : List Line
private_lines = (codes "Privacy", codes "id") ∷ (codes "Content-Length", codes "0") ∷ []

abbrev pub identity_of_erin : Line
identity_of_erin = (codes "P-Asserted-Identity", codes "<sip:erin@other.example>")

-- Erin's INVITE, where she requests privacy, and where not
abbrev pub restricted_invite : Message Start
restricted_invite = invite_of (codes "\"Erin\" <sip:erin@other.example>;tag=a") (codes "<sip:erin@127.0.0.1:5071>") (identity_of_erin ∷ private_lines)

abbrev pub unrestricted_invite : Message Start
unrestricted_invite = invite_of (codes "\"Erin\" <sip:erin@other.example>;tag=a") (codes "<sip:erin@127.0.0.1:5071>") (identity_of_erin ∷ (codes "Content-Length", codes "0") ∷ [])

-- the anonymous INVITE, with this tag
abbrev pub anonymous_invite : List ℕ → Message Start
anonymous_invite tag = invite_of (codes "<sip:anonymous@anonymous.invalid>;tag=" ++ tag) (codes "<sip:anonymous@anonymous.invalid>") private_lines

-- Frank's INVITE, with this tag, where he requests privacy
abbrev pub invite_of_frank : List ℕ → Message Start
invite_of_frank tag = invite_of (codes "\"Frank\" <sip:frank@other.example>;tag=" ++ tag) (codes "<sip:frank@127.0.0.1:5071>")
    ((codes "P-Asserted-Identity", codes "<sip:frank@other.example>") ∷ private_lines)

abbrev pub head_with_tag : List ℕ → Head
head_with_tag tag = record {
  is_request = true;
  status = 0;
  method = codes "INVITE";
  branch = codes "z9hG4bKa1";
  sent_by = codes "127.0.0.1:5071";
  from_tag = tag;
  to_tag = [];
  call_id = codes "c1";
  number = 7;
}

-- what remains of them: of the restricted ones the anonymous INVITE, and of the unrestricted one everything
pub record MaskedInvites : Type 0 where
  pub of_erin : masked_message private_in_opening restricted_invite ≡ anonymous_invite (codes "a")
  pub of_another : masked_message private_in_opening (invite_of_frank (codes "a")) ≡ anonymous_invite (codes "a")
  pub of_another_tag : masked_message private_in_opening (invite_of_frank (codes "b")) ≡ anonymous_invite (codes "b")
  pub of_unrestricted : masked_message (only_entries MarkedEntries) unrestricted_invite ≡ unrestricted_invite

-- the INVITE and the masked one have the same head; another tag is seen
pub record HeadsOfInvites : Type 0 where
  pub received : head_of restricted_invite ≡ head_with_tag (codes "a")
  pub hidden : head_of (masked_message private_in_opening restricted_invite) ≡ head_with_tag (codes "a")
  pub another : head_of (masked_message private_in_opening (invite_of_frank (codes "b"))) ≡ head_with_tag (codes "b")
  pub shown : head_of (masked_message (only_entries MarkedEntries) unrestricted_invite) ≡ head_with_tag (codes "a")

abbrev pub erin_at : List ℕ → Remote
erin_at target = record { tag = codes "a"; target = target; routes = [] }

-- a leg reads tag and number of the masked INVITE, and the anonymous URI as the target; nothing is hidden of the unrestricted one
pub record RemotesOfInvites : Type 0 where
  pub of_restricted : remote_of Caller (masked_message private_in_opening restricted_invite).lines ≡ erin_at (codes "sip:anonymous@anonymous.invalid")
  pub number : number_in (masked_message private_in_opening restricted_invite).lines ≡ Some 7
  pub of_unrestricted : remote_of Caller (masked_message (only_entries MarkedEntries) unrestricted_invite).lines ≡ erin_at (codes "sip:erin@127.0.0.1:5071")
