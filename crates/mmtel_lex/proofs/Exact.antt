-- A reader whose result is that of a function on lists reads a grammar, where that function does.
use Rattle.std.proofs.Common.{◌≡◌, ◌⊎◌, inl, inr, Option, Some, Result, Ok, Err, refl}
use Rattle.std.specs.Prelude.{IfOk}
use Rattle.mmtel_lex.specs.Outcome.{IsReadUnlessOutOfMemory, IsMalformed}
use Rattle.mmtel_lex.specs.Reading.{IsResult}
use Rattle.mmtel_base.proofs.ChainTheorems.{some_none}
use Rattle.mmtel_lex.specs.declared.faults.LexFault.{LexFault}
use Rattle.mmtel_lex.specs.declared.faults.LexFault.TheVariants as lex

pub found_of : {V : Type 0} (P : V → Type 0) (read : Option V) (takes : (v : V) → read ≡ Some v → P v) (r : Result V LexFault) → IsResult (λ x. x) r read → IfOk r P
found_of P read takes (Ok v) h = takes v h
found_of P read takes (Err e) h = tt

pub only_of : {V : Type 0} (read : Option V) (v : V) → read ≡ Some v → (r : Result V LexFault) → IsResult (λ x. x) r read → IsReadUnlessOutOfMemory r v
only_of read v again (Ok w) h = inl cc
only_of read v again (Err lex.Malformed) h = absurd cc
only_of read v again (Err lex.NoMemory) h = inr refl

pub malformed_of : {V : Type 0} (P : V → Type 0) (read : Option V) (again : (v : V) → P v → read ≡ Some v) (r : Result V LexFault) → IsResult (λ x. x) r read → IsMalformed r → (v : V) → P v → ⊥
malformed_of P read again (Ok w) h e v p = absurd (cc)
malformed_of P read again (Err lex.Malformed) h e v p = some_none v read h (again v p)
malformed_of P read again (Err lex.NoMemory) h e v p = absurd (cc)

pub refused_of : {V : Type 0} (P : V → Type 0) (read : Option V) (takes : (v : V) → read ≡ Some v → P v) (r : Result V LexFault) → IsResult (λ x. x) r read → ((v : V) → P v → ⊥) → IsMalformed r ⊎ (r ≡ Err lex.NoMemory)
refused_of P read takes (Ok v) h none = absurd (none v (takes v h))
refused_of P read takes (Err lex.Malformed) h none = inl refl
refused_of P read takes (Err lex.NoMemory) h none = inr refl

-- two values that one list of bytes spells are equal
pub one_of : {V : Type 0} (read : Option V) (a b : V) → read ≡ Some a → read ≡ Some b → a ≡ b
one_of read a b e f = cc
