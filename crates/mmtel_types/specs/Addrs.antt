-- Addresses over UDP (RFC 3261 §18, RFC 768): an IPv4 address and a port.
use Rattle.std.specs.Prelude.{Bool, ◌==◌, ◌&&◌}
use Rattle.std.specs.Str.{bytes_eq}
use Rattle.mmtel_types.specs.declared.addrs.Addr.{Addr}

-- the same IPv4 address and the same port
abbrev pub is_same_addr : Addr → Addr → Bool
is_same_addr a b = bytes_eq a.ip b.ip && a.port == b.port
