-- How a conference names itself (RFC 4579 §4.4, §5.1), and the texts of its requests: its Contact, the header fields of a session description, and the NOTIFY that reports the
-- progress of a REFER (RFC 3515 §2.4.4, RFC 3420).
use Rattle.std.specs.Prelude.{ℕ, Bool, true, false, List, [], ◌∷◌, ◌++◌, codes, decimal}
use Rattle.mmtel_message.specs.Addresses.{addr_text}
use Rattle.mmtel_message.specs.Message.{Line}
use Rattle.mmtel_types.specs.declared.addrs.Addr.{Addr}
use Rattle.mmtel_types.specs.declared.numbers.RoomNo.{RoomNo}

-- ---- the conference's URI

unfoldable pub conference_uri : Addr → RoomNo → List ℕ
conference_uri sip room = codes "sip:room-" ++ (decimal room.0 ++ 64 ∷ addr_text sip)

-- as From of the INVITE to an invited party, with this tag
unfoldable pub conference_from : Addr → RoomNo → (tag : List ℕ) → List ℕ
conference_from sip room tag = 60 ∷ (conference_uri sip room ++ (codes ">;tag=" ++ tag))

-- as Contact, with the feature of a focus (RFC 3840 §9, RFC 4579 §5.1)
unfoldable pub contact_value : Addr → RoomNo → List ℕ
contact_value sip room = 60 ∷ (conference_uri sip room ++ codes ">;isfocus")

abbrev pub contact_line : Addr → RoomNo → Line
contact_line sip room = (codes "Contact", contact_value sip room)

-- ---- session descriptions

-- the header field that gives the media type of a session description
abbrev pub sdp_lines : List Line
sdp_lines = (codes "Content-Type", codes "application/sdp") ∷ []

-- the header fields of a request of a conference with a session description
abbrev pub contact_and_sdp_lines : Addr → RoomNo → List Line
contact_and_sdp_lines sip room = contact_line sip room ∷ sdp_lines

-- ---- the content of a NOTIFY

-- the subscription that a REFER creates is active while the request that it asks for has no final response, and ends with it (RFC 3515 §2.4.7)
abbrev pub subscription_state : (goes_on : Bool) → List ℕ
subscription_state true = codes "active;expires=180"
subscription_state false = codes "terminated;reason=noresource"

unfoldable pub notify_lines : Addr → RoomNo → (goes_on : Bool) → List Line
notify_lines sip room goes_on =
    contact_line sip room
    ∷ (codes "Event", codes "refer")
    ∷ (codes "Subscription-State", subscription_state goes_on)
    ∷ (codes "Content-Type", codes "message/sipfrag;version=2.0")
    ∷ []

-- a status line as a message fragment (RFC 3420 §2)
abbrev pub sipfrag : (line : List ℕ) → List ℕ
sipfrag line = line ++ codes "\r\n"
