-- What holds of each message that was read, in words for the crates above: where its five fields are (RFC 3261 §8.1.1), and which values are read one by one.
use Rattle.std.specs.Prelude.{◌≡◌, Bool, Some, ℕ, List, ◌++◌, length, is_some, codes}
use Rattle.std.specs.List.{list_all}
use Rattle.mmtel_base.specs.Numbers.{number_of}
use Rattle.mmtel_lex.specs.Params.{param_value}
use Rattle.mmtel_lex.specs.Reading.{name_addr_of}
use Rattle.mmtel_lex.specs.declared.values.NameAddr.{NameAddr}
use Rattle.mmtel_message.specs.Faults.{has_case}
use Rattle.mmtel_message.specs.Message.{lines_named, first_value, values_named, line_texts}
use Rattle.mmtel_message.specs.declared.fields.Via.{Via}
use Rattle.mmtel_message.specs.declared.values.Mode.TheVariants.{Plain}

-- the value of the first line of the name, which is the only one
pub record IsOnly (name : List ℕ) (ls : List (List ℕ × List ℕ)) (v : List ℕ) : Type 0 where
  pub first : first_value name ls ≡ Some v
  pub alone : length (lines_named name ls) ≡ 1

-- the values of the name are one per line
abbrev pub IsOnePerLine : List ℕ → List (List ℕ × List ℕ) → Type 0
IsOnePerLine name ls = values_named Plain name ls ≡ line_texts name ls

-- From or To has a tag (RFC 3261 §19.3)
abbrev pub HasTag : NameAddr → Type 0
HasTag n = (tag : List ℕ) × (param_value (codes "tag") n.params ≡ Some tag)

-- the branch begins with the magic cookie (RFC 3261 §8.1.1.7)
abbrev pub HasCookie : Via → Type 0
HasCookie via = (rest : List ℕ) × (param_value (codes "branch") via.params ≡ Some (codes "z9hG4bK" ++ rest))

-- a value of Max-Forwards (RFC 3261 §20.22)
abbrev pub is_hops : List ℕ → Bool
is_hops v = is_some (number_of 255 v)

-- each is a name-addr with a session case that is originating or terminating (RFC 5502 §6)
abbrev pub are_cases : List (List ℕ) → Bool
are_cases vs = list_all (λ v. has_case (name_addr_of v)) vs

-- the first Contact line is a name-addr
abbrev pub HasContact : List (List ℕ × List ℕ) → Type 0
HasContact ls = (v : List ℕ) × (name : NameAddr) × (first_value (codes "Contact") ls ≡ Some v) × (name_addr_of v ≡ Some name)
