-- What is read of three INVITEs (RFC 3261 §7.1, §8.1.1): another Request-URI, and another name and URI in From, do not change the head; another From tag does.
use Rattle.std.specs.Prelude.{◌≡◌, ℕ, List, [], ◌∷◌, codes}
use Rattle.mmtel_message.specs.Message.{Message}
use Rattle.mmtel_message.specs.declared.messages.Start.{Start}
use Rattle.mmtel_message.specs.declared.messages.Start.TheVariants.{Request}
use Rattle.mmtel_transaction.specs.Heads.{head_of}
use Rattle.mmtel_transaction_examples.specs.CallMessages.{request}

-- an INVITE to this URI with this From
abbrev pub invite_from : List ℕ → List ℕ → Message Start
invite_from uri from = record {
  start = Request (codes "INVITE") uri;
  lines = (codes "Via", codes "SIP/2.0/UDP h;branch=i") ∷ (codes "From", from)
      ∷ (codes "To", codes "<a:b>") ∷ (codes "Call-ID", codes "c") ∷ (codes "CSeq", codes "1 INVITE") ∷ [];
  body = [];
}

pub record HeadsOfInvites : Type 0 where
  pub plain : head_of (invite_from (codes "a:b") (codes "<a:b>;tag=f")) ≡ request (codes "INVITE") (codes "i") []
  pub named : head_of (invite_from (codes "c:d") (codes "\"A\" <c:d>;tag=f")) ≡ request (codes "INVITE") (codes "i") []
  pub other : head_of (invite_from (codes "a:b") (codes "<a:b>;tag=g")) ≡ record (request (codes "INVITE") (codes "i") []) { from_tag = codes "g" }
