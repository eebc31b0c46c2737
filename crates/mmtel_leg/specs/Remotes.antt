-- The other side of a dialog as its message describes it where the dialog begins: its tag, the URI of its Contact, and the route to it (RFC 3261 §12.1.1 for a caller, who sent
-- the INVITE, and §12.1.2 for a callee, who responded to it).
use Rattle.std.specs.Prelude.{ℕ, List, [], ◌∷◌, Option, Some, None, codes, reverse}
use Rattle.std.specs.Option.{unwrap_or}
use Rattle.mmtel_lex.specs.Reading.{name_addr_of}
use Rattle.mmtel_lex.specs.declared.values.NameAddr.{NameAddr}
use Rattle.mmtel_message.specs.Message.{Line, first_value, values_named}
use Rattle.mmtel_message.specs.declared.values.Mode.TheVariants.{Plain}
use Rattle.mmtel_trust.specs.ParsedMessage.{tag_of}
use Rattle.mmtel_types.specs.declared.sides.Side.{Side}
use Rattle.mmtel_types.specs.declared.sides.Side.TheVariants.{Caller, Callee}
use Rattle.mmtel_leg.specs.declared.remotes.Remote.{Remote}

-- the value of the first line of the name, or no bytes
unfoldable pub field : List ℕ → List Line → List ℕ
field name ls = unwrap_or (first_value name ls) []

-- the tag of the first line of the name, or no bytes
unfoldable pub tag_in : List ℕ → List Line → List ℕ
tag_in name ls = unwrap_or (tag_of (first_value name ls)) []

-- the field that identifies a side: From for the sender of the INVITE, To for the one who responded
abbrev pub field_of : Side → List ℕ
field_of Caller = codes "From"
field_of Callee = codes "To"

abbrev pub uri_named : Option NameAddr → List ℕ
uri_named None = []
uri_named (Some name) = name.uri

abbrev pub first_uri : List (List ℕ) → List ℕ
first_uri [] = []
first_uri (value ∷ values) = uri_named (name_addr_of value)

-- the URI of the first Contact value, or no bytes where none can be read
unfoldable pub contact_uri : List Line → List ℕ
contact_uri ls = first_uri (values_named Plain (codes "Contact") ls)

-- the route set: the Record-Route values, in the order in which a request to that side goes through them
abbrev pub in_order : Side → List (List ℕ) → List (List ℕ)
in_order Caller values = values
in_order Callee values = reverse values

unfoldable pub route_set : Side → List Line → List (List ℕ)
route_set side ls = in_order side (values_named Plain (codes "Record-Route") ls)

-- the tag, target and route set of the side that sent a message with these lines
abbrev pub remote_of : Side → List Line → Remote
remote_of side ls = record { tag = tag_in (field_of side) ls; target = contact_uri ls; routes = route_set side ls }
