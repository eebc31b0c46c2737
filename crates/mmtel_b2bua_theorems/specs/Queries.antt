-- Queries on indistinguishable tables of calls have the same results: to which call a dialog, an INVITE or a signal belongs, the peer and the account of a side, how many calls an
-- account has, and whether one more call may be opened (RFC 3261 §9.2, §12.2.2).
use Rattle.std.specs.Prelude.{◌≡◌, ℕ, Bool, Option, List, position}
use Rattle.mmtel_sheet_values.specs.declared.values.Sheet.{Sheet}
use Rattle.mmtel_transaction.specs.declared.words.TKey.{TKey}
use Rattle.mmtel_types.specs.declared.numbers.Peer.{Peer}
use Rattle.mmtel_types.specs.declared.sides.Side.{Side}
use Rattle.mmtel_leg.specs.declared.legs.Released.{Released}
use Rattle.mmtel_b2bua.specs.Entries.{has_received_key, has_sent_branch}
use Rattle.mmtel_b2bua.specs.Detaching.{can_restore, entry_of, has_detached_leg}
use Rattle.mmtel_b2bua.specs.Queries.{first_side, live, party, side_by_dialog, side_by_invite_key}
use Rattle.mmtel_b2bua.specs.Tables.{Table, is_full}
use Rattle.mmtel_b2bua.specs.declared.signals.Signal.{Signal}
use Rattle.mmtel_call_theorems.specs.Noninterference.PublicCall.{public_released}
use Rattle.mmtel_call_theorems.specs.Noninterference.Roles.{Role}
use Rattle.mmtel_b2bua_theorems.specs.EquivalentTables.{EquivalentTables}
use Rattle.mmtel_b2bua_theorems.specs.Signals.{public_signal}

pub record EquivalentTablesAnswerEqually : Type 0 where
  -- to which call and side this dialog belongs, and the INVITE that opened this server transaction
  pub named : (records : List Sheet) (known : Peer → Bool) (call_id local remote : List ℕ) (t u : Table) → EquivalentTables records known t u →
      first_side (side_by_dialog call_id local remote) t.entries ≡ first_side (side_by_dialog call_id local remote) u.entries
  pub inviting : (records : List Sheet) (known : Peer → Bool) (key : TKey) (t u : Table) → EquivalentTables records known t u →
      first_side (side_by_invite_key key) t.entries ≡ first_side (side_by_invite_key key) u.entries
  -- the index of the call that sent this INVITE, and of the one that received a response in this client transaction
  pub sent : (records : List Sheet) (known : Peer → Bool) (branch : Option (List ℕ)) (t u : Table) → EquivalentTables records known t u →
      position (has_sent_branch branch) t.entries ≡ position (has_sent_branch branch) u.entries
  pub answered : (records : List Sheet) (known : Peer → Bool) (key : TKey) (t u : Table) → EquivalentTables records known t u →
      position (has_received_key key) t.entries ≡ position (has_received_key key) u.entries
  -- the peer of a side, and the account that is served there; how many calls an account has
  pub sides : (records : List Sheet) (known : Peer → Bool) (number : ℕ) (side : Side) (t u : Table) → EquivalentTables records known t u →
      party number side t.entries ≡ party number side u.entries
  pub live : (records : List Sheet) (known : Peer → Bool) (account : ℕ) (t u : Table) → EquivalentTables records known t u → live account t.entries ≡ live account u.entries
  -- whether as many calls are live as may be, so that one more is refused
  pub full : (records : List Sheet) (known : Peer → Bool) (role second : Role) (x y : Signal) (t u : Table) → EquivalentTables records known t u →
      public_signal role x ≡ public_signal second y → is_full x t.entries ≡ is_full y u.entries
  -- whether a leg of the call of this number is detached, and whether this one is of the side that is
  pub detached : (records : List Sheet) (known : Peer → Bool) (number : ℕ) (t u : Table) → EquivalentTables records known t u →
      has_detached_leg (entry_of number t.entries) ≡ has_detached_leg (entry_of number u.entries)
  pub fits : (records : List Sheet) (known : Peer → Bool) (number : ℕ) (one other : Released) (t u : Table) → EquivalentTables records known t u →
      public_released known one ≡ public_released known other →
      can_restore one (entry_of number t.entries) ≡ can_restore other (entry_of number u.entries)
