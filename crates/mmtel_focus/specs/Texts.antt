-- Which conference a URI names (RFC 4579 §4.4), and the texts that a conference sends: how it names itself and the content of a NOTIFY are with its participants; the mixer's
-- answer (RFC 3264), and status lines.
use Rattle.std.specs.Prelude.{ℕ, ◌==◌, ◌&&◌, Bool, true, false, if◌then◌else◌, Option, Some, None, List, [], ◌∷◌, ◌++◌, ◌^◌, ◌-◌, codes, decimal}
use Rattle.std.specs.Str.{bytes_eq}
use Rattle.mmtel_base.specs.Chain.{◌>>=◌}
use Rattle.mmtel_base.specs.Numbers.{plain_number}
use Rattle.mmtel_base.specs.Scanning.{after_text}
use Rattle.mmtel_lex.specs.declared.values.Uri.{Uri}
use Rattle.mmtel_lex.specs.declared.values.Uri.TheVariants.{Sip, Tel}
use Rattle.mmtel_message.specs.Addresses.{ip_text}
use Rattle.mmtel_message.specs.Phrases.{phrase_of}
use Rattle.mmtel_message.specs.Texts.{start_text}
use Rattle.mmtel_message.specs.declared.messages.Start.TheVariants.{Status}
use Rattle.mmtel_sdp.specs.Mixer.{answer_text}
use Rattle.mmtel_sdp.specs.Sdp.{sdp_of}
use Rattle.mmtel_sdp.specs.declared.values.Mixer.{Mixer}
use Rattle.mmtel_sdp.specs.declared.values.SdpView.{SdpView}
use Rattle.mmtel_types.specs.declared.addrs.Addr.{Addr}
pub use Rattle.mmtel_participants.specs.Texts.{conference_from, conference_uri, contact_and_sdp_lines, contact_line}
pub use Rattle.mmtel_participants.specs.Texts.{contact_value, notify_lines, sdp_lines, sipfrag, subscription_state}

-- ---- the conference that a URI names

-- the server's port is 5060 where none is written (RFC 3261 §19.1.2)
abbrev pub is_port : (port : ℕ) → Option ℕ → Bool
is_port port None = port == 5060
is_port port (Some n) = n == port

-- `room-` and a number
abbrev pub conference_number : List ℕ → Option ℕ
conference_number user = after_text (codes "room-") user >>= plain_number (2 ^ 64 - 1)

-- the conference of this server, whether it is live or not
abbrev pub conference_in : Addr → Uri → Option ℕ
conference_in sip (Sip user host port params headers) = user >>= λ name. if bytes_eq host (ip_text sip.ip) && is_port sip.port port then conference_number name else None
conference_in sip (Tel number params) = None

-- ---- the mixer's session descriptions

abbrev pub answer_to : Mixer → Option SdpView → List ℕ
answer_to mixer None = []
answer_to mixer (Some view) = answer_text view mixer

-- the mixer's answer to an offer (RFC 3264 §6)
unfoldable pub answer_in : Mixer → (body : List ℕ) → List ℕ
answer_in mixer body = answer_to mixer (sdp_of body)

-- ---- the content of a NOTIFY

-- a status line (RFC 3261 §7.2), and that of a status of the server's own
abbrev pub status_line : (code : ℕ) → (phrase : List ℕ) → List ℕ
status_line code phrase = start_text (Status code phrase)

abbrev pub own_status : (code : ℕ) → List ℕ
own_status code = status_line code (phrase_of code)
