-- The classes of statuses (RFC 3261 §7.2).
use Rattle.std.specs.Prelude.{ℕ, ◌&&◌, nat_le, nat_lt, Bool}

-- 1xx: a provisional response, which ends nothing
abbrev pub is_provisional : (status : ℕ) → Bool
is_provisional status = nat_lt status 200

-- 2xx
abbrev pub is_success : (status : ℕ) → Bool
is_success status = nat_le 200 status && nat_lt status 300

-- 3xx
abbrev pub is_redirection : (status : ℕ) → Bool
is_redirection status = nat_le 300 status && nat_lt status 400

-- refusals and redirections: 3xx to 6xx
abbrev pub is_refusal : (status : ℕ) → Bool
is_refusal status = nat_le 300 status
