-- The resource of a request target, and the methods that the server knows there (RFC 9110 §7.1 and §9.3): the charging rows, or the service record or the mailbox of an account by
-- its number.
use Rattle.std.specs.Prelude.{ℕ, ◌==◌, ◌&&◌, ◌-◌, ◌^◌, Bool, true, false, not, List, [], ◌∷◌, length, Some, None, if◌then◌else◌, nat_lt, codes}
use Rattle.std.specs.declared.option.Option.{Option}
use Rattle.std.specs.List.{list_all}
use Rattle.std.specs.Option.{option_map}
use Rattle.std.specs.Str.{bytes_eq, is_utf8}
use Rattle.mmtel_base.specs.Classes.{in_class}
use Rattle.mmtel_base.specs.declared.classes.Class.TheVariants.{Digit}
use Rattle.mmtel_base.specs.Numbers.{has_leading_zero, number_of}
use Rattle.mmtel_base.specs.Scanning.{after_text}
use Rattle.mmtel_types.specs.declared.numbers.Account.{Account}
use Rattle.mmtel_http.specs.declared.resources.Resource.{Resource}
use Rattle.mmtel_http.specs.declared.resources.Resource.TheVariants as place
use Rattle.mmtel_http.specs.declared.resources.Method.{Method}
use Rattle.mmtel_http.specs.declared.resources.Method.TheVariants as method
use Rattle.mmtel_http.specs.declared.routes.Route.{Route}
use Rattle.mmtel_http.specs.declared.routes.Route.TheVariants as route

-- a number in decimal, without leading zeros
abbrev pub is_decimal : List ℕ → Bool
is_decimal s = not (has_leading_zero s) && (nat_lt 0 (length s) && list_all (in_class Digit) s)

abbrev pub account : ℕ → Account
account number = record { 0 = number }

-- the account of this number, where it is one that an account can have
abbrev pub account_of : List ℕ → Option Account
account_of digits = option_map account (number_of (2 ^ 32 - 1) digits)

-- a resource by what follows `/simservs/`: the record of the account of this number
abbrev pub sheet_resource : Option (List ℕ) → Resource
sheet_resource None = place.Unknown
sheet_resource (Some digits) = if is_decimal digits then place.Sheet (account_of digits) else place.Unknown

-- a resource by what follows `/mailbox/`: the mailbox of the account of this number
abbrev pub mailbox_resource : Option (List ℕ) → Resource
mailbox_resource None = place.Unknown
mailbox_resource (Some digits) = if is_decimal digits then place.Mailbox (account_of digits) else place.Unknown

-- by what follows `/simservs/`, or else what follows `/mailbox/`
abbrev pub sheet_or_mailbox : (sheet mailbox : Option (List ℕ)) → Resource
sheet_or_mailbox None mailbox = mailbox_resource mailbox
sheet_or_mailbox (Some digits) mailbox = sheet_resource (Some digits)

-- the resource of a path, byte for byte
abbrev pub path_resource : List ℕ → Resource
path_resource path =
    if bytes_eq path (codes "/charges") then place.Charges
    else sheet_or_mailbox (after_text (codes "/simservs/") path) (after_text (codes "/mailbox/") path)

-- the resource of a target: one that is not UTF-8, which no head has, names none
abbrev pub resource_of : List ℕ → Resource
resource_of target = if is_utf8 target then path_resource target else place.Unknown

-- the method of a name, byte for byte
abbrev pub method_of : List ℕ → Method
method_of name =
    if bytes_eq name (codes "GET") then method.Get
    else if bytes_eq name (codes "PUT") then method.Put
    else if bytes_eq name (codes "DELETE") then method.Delete
    else method.Other

-- ---- used between the functions of this crate only

abbrev pub has_slash : List ℕ → Bool
has_slash [] = false
has_slash (b ∷ s) = if b == 47 then true else has_slash s

-- a route whose path begins so, where one segment follows
abbrev pub segment_route : Route → Option (List ℕ) → Option Route
segment_route which None = None
segment_route which (Some []) = None
segment_route which (Some (b ∷ s)) = if has_slash (b ∷ s) then None else Some which

-- that of a record, after `/simservs/`, or else that of a mailbox, after `/mailbox/`
abbrev pub numbered_route : (sheet mailbox : Option (List ℕ)) → Option Route
numbered_route None mailbox = segment_route route.Mailbox mailbox
numbered_route (Some digits) mailbox = segment_route route.Sheet (Some digits)

-- the route of a path
abbrev pub route_of : List ℕ → Option Route
route_of path =
    if bytes_eq path (codes "/charges") then Some route.Charges
    else numbered_route (after_text (codes "/simservs/") path) (after_text (codes "/mailbox/") path)
