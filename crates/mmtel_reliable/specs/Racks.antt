-- RAck values (RFC 3262 §7.2): the RSeq number of a response, the CSeq number and the method of the request to which it responds, each separated from the next by one blank.
use Rattle.std.specs.Prelude.{◌≡◌, ◌≤◌, ◌==◌, ◌&&◌, Bool, not, if◌then◌else◌, ℕ, List, ◌∷◌, ◌++◌, length, Option, Some, None, codes}
use Rattle.std.specs.List.{list_all}
use Rattle.std.specs.Str.{bytes_eq}
use Rattle.mmtel_base.specs.Chain.{◌>>=◌}
use Rattle.mmtel_base.specs.Classes.{in_class, IsOneOrMore}
use Rattle.mmtel_base.specs.Numbers.{number_of, Writes}
use Rattle.mmtel_base.specs.Scanning.{split_once_at}
use Rattle.mmtel_base.specs.declared.classes.Class.TheVariants.{Token}
use Rattle.mmtel_reliable.specs.declared.racks.Rack.{Rack}

-- the greatest number of an RSeq and of a CSeq (RFC 3262 §7.1, RFC 3261 §8.1.1.5): 2^31 - 1
abbrev pub greatest_number : ℕ
greatest_number = 2147483647

-- methods are compared byte for byte (RFC 3261 §7.1)
abbrev pub is_invite : List ℕ → Bool
is_invite method = bytes_eq method (codes "INVITE")

-- the bytes spell this value
pub record IsRack (s : List ℕ) (rack : Rack) : Type 0 where
  pub rseq : List ℕ
  pub cseq : List ℕ
  pub method : List ℕ
  pub whole : s ≡ rseq ++ 32 ∷ (cseq ++ 32 ∷ method)
  pub of_rseq : Writes rseq rack.answer × (rack.answer ≤ greatest_number)
  pub of_cseq : Writes cseq rack.cseq × (rack.cseq ≤ greatest_number)
  pub token : IsOneOrMore Token method
  pub invite : rack.invite ≡ is_invite method

-- the value, where the method is a token
abbrev pub with_method : ℕ → ℕ → List ℕ → Option Rack
with_method answer cseq method =
    if not (length method == 0) && list_all (in_class Token) method then Some (record { answer = answer; cseq = cseq; invite = is_invite method }) else None

-- the value that the bytes spell, where they spell one
abbrev pub rack_of : List ℕ → Option Rack
rack_of s = do
  first ← split_once_at 32 s
  second ← split_once_at 32 first.1
  answer ← number_of greatest_number first.0
  cseq ← number_of greatest_number second.0
  with_method answer cseq second.1
