-- Premises and conclusions of the theorems about parties and targets.
use Rattle.std.specs.Prelude.{◌≡◌, ℕ, ◌∷◌, Bool, true, not, ◌&&◌, ◌||◌, Option, Some, None, List, codes}
use Rattle.std.specs.List.{list_all}
use Rattle.std.specs.Str.{str_eq_ignore_ascii_case}
use Rattle.mmtel_base.specs.Classes.{in_class}
use Rattle.mmtel_base.specs.declared.classes.Class.TheVariants.{Digit}
use Rattle.mmtel_lex.specs.Identity.{without_separators, has_user_phone}
use Rattle.mmtel_lex.specs.Reading.{name_addr_of}
use Rattle.mmtel_lex.specs.SameIdentity.{is_same_user}
use Rattle.mmtel_lex.specs.declared.values.NameAddr.{NameAddr}
use Rattle.mmtel_lex.specs.declared.values.Uri.{Uri}
use Rattle.mmtel_lex.specs.declared.values.Uri.TheVariants.{Sip, Tel}
use Rattle.mmtel_message.specs.Message.{Line, Message, first_value}
use Rattle.mmtel_message.specs.declared.messages.Start.{Start}
use Rattle.mmtel_trust.specs.declared.accounts.AccountIdentity.{AccountIdentity}
use Rattle.mmtel_call_parties.specs.Parties.{requested_account}
use Rattle.mmtel_call_parties.specs.declared.parties.Parties.{Parties}
use Rattle.mmtel_call_parties.specs.declared.served.ServedSides.TheVariants.{Both}

-- the first P-Served-User line
abbrev pub served_line : List Line → Option (List ℕ)
served_line ls = first_value (codes "P-Served-User") ls

-- the first P-Served-User names this user
abbrev pub NamesUser : Message Start → NameAddr → Type 0
NamesUser m user = (value : List ℕ) × (served_line m.lines ≡ Some value) × (name_addr_of value ≡ Some user)

-- the parties of a request of which nothing that its sender asserts is believed
abbrev pub untrusted_parties : List AccountIdentity → Start → Parties
untrusted_parties accounts start = record { origin = None; target = requested_account accounts start; served = Both; registration = None }

-- digits and visual separators
abbrev pub AreDigits : List ℕ → Type 0
AreDigits digits = list_all (in_class Digit) (without_separators digits) ≡ true

-- an identity that names the number and its sip URI in the home domain, or neither: of a sip URI whose user is the number, the host is that domain and the first parameter user
-- is phone
abbrev pub names_number_and_sip_uri : (home number : List ℕ) → Uri → Bool
names_number_and_sip_uri home number (Sip user host port params headers) = not (is_same_user user (Some number)) || (str_eq_ignore_ascii_case host home && has_user_phone params)
names_number_and_sip_uri home number (Tel other params) = true

-- each identity names '+' and these digits and their sip URI in the home domain, or neither
abbrev pub AllNameNumberAndSipUri : List AccountIdentity → (home digits : List ℕ) → Type 0
AllNameNumberAndSipUri identities home digits = list_all (λ e. names_number_and_sip_uri home (without_separators (43 ∷ digits)) e.uri) identities ≡ true
