-- What the result of a reader says beside its value.
use Rattle.std.specs.Prelude.{Ok, ◌≡◌, ◌⊎◌, Result, Err}
use Rattle.mmtel_lex.specs.declared.faults.LexFault.{LexFault}
use Rattle.mmtel_lex.specs.declared.faults.LexFault.TheVariants as lex
use Rattle.mmtel_lex.specs.declared.values.Uri.{Uri}
use Rattle.mmtel_lex.specs.declared.faults.UriFault.{UriFault}
use Rattle.mmtel_lex.specs.declared.faults.UriFault.TheVariants.{Malformed, Scheme, NoMemory}

-- this result, unless memory ran out
abbrev pub IsUnlessOutOfMemory : Result Uri UriFault → Result Uri UriFault → Type 0
IsUnlessOutOfMemory r wanted = (r ≡ wanted) ⊎ (r ≡ Err NoMemory)

-- the value, unless memory ran out
abbrev pub IsReadUnlessOutOfMemory : {V : Type 0} → Result V LexFault → V → Type 0
IsReadUnlessOutOfMemory r v = (r ≡ Ok v) ⊎ (r ≡ Err lex.NoMemory)

-- the URI is refused as malformed
abbrev pub IsMalformedUri : Result Uri UriFault → Type 0
IsMalformedUri r = r ≡ Err Malformed

-- the bytes are refused as malformed
abbrev pub IsMalformed : {V : Type 0} → Result V LexFault → Type 0
IsMalformed r = r ≡ Err lex.Malformed

-- the fault is of the bytes, not out of memory
abbrev pub IsOfBytes : LexFault → Type 0
IsOfBytes lex.Malformed = Unit {0}
IsOfBytes lex.NoMemory = ⊥

-- the fault is of the bytes, not out of memory
abbrev pub IsUriOfBytes : UriFault → Type 0
IsUriOfBytes Malformed = Unit {0}
IsUriOfBytes Scheme = Unit {0}
IsUriOfBytes NoMemory = ⊥
