-- What a server writes into the first Via of a request to which it responds: where the request came from (RFC 3261 §18.2.1 `received`, RFC 3581 §4 `rport`).
use Rattle.std.specs.Prelude.{◌&&◌, ◌<◌, ◌^◌, not, Bool, ℕ, get_or, Option, Some, None, is_none, if◌then◌else◌, List, [], ◌∷◌, ◌++◌, codes, decimal}
use Rattle.std.specs.List.{flat_map, list_any}
use Rattle.std.specs.Str.{bytes_eq, str_eq_ignore_ascii_case}
use Rattle.mmtel_lex.specs.Grammar.{param_text, params_text}
use Rattle.mmtel_lex.specs.declared.values.Param.{Param}
use Rattle.mmtel_types.specs.declared.addrs.Addr.{Addr}
use Rattle.mmtel_message.specs.Addresses.{ip_text}
use Rattle.mmtel_message.specs.Fields.{via_at}
use Rattle.mmtel_message.specs.declared.fields.Via.{Via}

-- a parameter `rport` without a value asks for the port
abbrev pub asks_port : Param → Bool
asks_port p = str_eq_ignore_ascii_case p.name (codes "rport") && is_none p.value

abbrev pub is_received : Param → Bool
is_received p = str_eq_ignore_ascii_case p.name (codes "received")

abbrev pub with_port : ℕ → Param → Param
with_port port p = if asks_port p then record p { value = Some (decimal port) } else p

-- a parameter with the port where it asks for it; a `received` is removed
abbrev pub sourced_param : ℕ → Param → List Param
sourced_param port p = if is_received p then [] else with_port port p ∷ []

-- the address that the request came from
abbrev pub received_param : Addr → Param
received_param source = record { name = codes "received"; value = Some (ip_text source.ip) }

abbrev pub sourced_params : Addr → List Param → List Param
sourced_params source ps = flat_map (sourced_param source.port) ps ++ received_param source ∷ []

-- the Via has the source address of the request, and asks for no port
abbrev pub is_from : Addr → Via → Bool
is_from source via = bytes_eq via.host (ip_text source.ip) && not (list_any asks_port via.params)

-- the Via with the port in each empty `rport`, and last the address
abbrev pub sourced_via : Addr → Via → Via
sourced_via source via = record via { params = sourced_params source via.params }

-- the Via, completed with the source of the request
abbrev pub completed_via : Addr → Via → Via
completed_via source via = if is_from source via then via else sourced_via source via

-- a Via value (§20.42)
abbrev pub via_value : Via → List ℕ
via_value via = codes "SIP/2.0/" ++ (via.transport ++ (32 ∷ (via.sent_by ++ params_text via.params)))

abbrev pub completed_by : Addr → List ℕ → Option Via → List ℕ
completed_by source value None = value
completed_by source value (Some via) = if is_from source via then value else via_value (sourced_via source via)

-- a Via value, completed with the source of the request
unfoldable pub completed_value : Addr → List ℕ → List ℕ
completed_value source value = completed_by source value (via_at value)

-- the numbers of an address as they are sent: bytes, and a port of 16 bits
pub record IsSource (source : Addr) : Type 0 where
  pub bytes : (i : ℕ) → get_or source.ip i 0 < 2 ^ 8
  pub port : source.port < 2 ^ 16

-- ---- what private functions alone cite

-- the text of a parameter, with the port where it asks for it
abbrev pub sourced_param_text : ℕ → Param → List ℕ
sourced_param_text port p = if is_received p then [] else param_text (with_port port p)

abbrev pub sourced_text : Addr → Via → List ℕ
sourced_text source via =
    codes "SIP/2.0/" ++ (via.transport ++ (32 ∷ (via.sent_by ++ (flat_map (sourced_param_text source.port) via.params ++ (codes ";received=" ++ ip_text source.ip)))))
