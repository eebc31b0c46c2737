-- The listing of bytes, read again as the lines of a script.
use Rattle.std.specs.Prelude.{ℕ, true, nat_lt, List, map, Some, ◌≡◌}
use Rattle.std.specs.List.{list_all, flat_map}
use Rattle.mmtel_trust.specs.declared.known_peers.KnownPeer.{KnownPeer}
use Rattle.mmtel_directory.specs.Lines.{lines_of}
use Rattle.mmtel_script.specs.Listing.{data_lines}
use Rattle.mmtel_script.specs.Script.{line_of}
use Rattle.mmtel_script.specs.declared.script_lines.ScriptLine.TheVariants.{Data}

-- each number is one of a byte
abbrev pub AreBytes : List ℕ → Type 0
AreBytes s = list_all (λ b. nat_lt b 256) s ≡ true

-- the lines that list the bytes are data lines of a script, and give these bytes
pub record ReadsBack (known : List KnownPeer) (bytes : List ℕ) : Type 0 where
  pub pieces : List (List ℕ)
  pub lines : map (λ line. line_of known line) (lines_of (data_lines bytes)) ≡ map (λ p. Some (Data p)) pieces
  pub same : flat_map (λ p. p) pieces ≡ bytes
