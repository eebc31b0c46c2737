-- What a reader whose result is that of uri_of claims about the grammar.
use Rattle.std.proofs.Common.{◌≡◌, ◌⊎◌, inl, inr, ℕ, List, Result, Ok, Err, refl}
use Rattle.std.specs.Prelude.{IfOk}
use Rattle.mmtel_lex.specs.Grammar.{IsUri, IsForeign, IsNoUri}
use Rattle.mmtel_lex.specs.Outcome.{IsUnlessOutOfMemory, IsMalformedUri}
use Rattle.mmtel_lex.specs.Reading.{IsUriResult, Refusal, uri_of}
use Rattle.mmtel_lex.specs.declared.values.Uri.{Uri}
use Rattle.mmtel_lex.specs.declared.faults.UriFault.{UriFault}
use Rattle.mmtel_lex.specs.declared.faults.UriFault.TheVariants.{Malformed, Scheme, NoMemory}
use Rattle.mmtel_lex.proofs.UriTheorems.{uri_takes, uri_again, foreign_takes, foreign_again}

pub found_by : (s : List ℕ) (r : Result Uri UriFault) → IsUriResult r (uri_of s) → IfOk r (λ u. IsUri s u)
found_by s (Ok u) h = uri_takes s u h
found_by s (Err e) h = tt

pub only_by : (s : List ℕ) (r : Result Uri UriFault) (u : Uri) → IsUriResult r (uri_of s) → IsUri s u → IsUnlessOutOfMemory r (Ok u)
only_by s (Ok v) u h is = inl (let again = uri_again s u is in cc)
only_by s (Err Malformed) u h is = absurd (let again = uri_again s u is in cc)
only_by s (Err Scheme) u h is = absurd (let again = uri_again s u is in cc)
only_by s (Err NoMemory) u h is = inr refl

pub scheme_by : (s : List ℕ) (r : Result Uri UriFault) → IsUriResult r (uri_of s) → r ≡ Err Scheme → IsForeign s
scheme_by s (Ok v) h e = absurd cc
scheme_by s (Err Malformed) h e = absurd cc
scheme_by s (Err Scheme) h e = foreign_takes s h
scheme_by s (Err NoMemory) h e = absurd cc

pub foreign_by : (s : List ℕ) (r : Result Uri UriFault) → IsUriResult r (uri_of s) → IsForeign s → IsUnlessOutOfMemory r (Err Scheme)
foreign_by s (Ok v) h is = absurd (let again = foreign_again s is in cc)
foreign_by s (Err Malformed) h is = absurd (let again = foreign_again s is in cc)
foreign_by s (Err Scheme) h is = inl refl
foreign_by s (Err NoMemory) h is = inr refl

pub malformed_by : (s : List ℕ) (r : Result Uri UriFault) → IsUriResult r (uri_of s) → IsMalformedUri r → IsNoUri s
malformed_by s (Ok v) h e = absurd (cc)
malformed_by s (Err Malformed) h e = record {
  of_none = λ u is. absurd (let again = uri_again s u is in cc);
  not_foreign = λ is. absurd (let again = foreign_again s is in cc);
}
malformed_by s (Err Scheme) h e = absurd (cc)
malformed_by s (Err NoMemory) h e = absurd (cc)

pub refused_by : (s : List ℕ) (r : Result Uri UriFault) → IsUriResult r (uri_of s) → IsNoUri s → IsMalformedUri r ⊎ (r ≡ Err NoMemory)
refused_by s (Ok v) h none = absurd (none.of_none v (uri_takes s v h))
refused_by s (Err Malformed) h none = inl refl
refused_by s (Err Scheme) h none = absurd (none.not_foreign (foreign_takes s h))
refused_by s (Err NoMemory) h none = inr refl

one_ok : (r : Result Uri Refusal) (u v : Uri) → r ≡ Ok u → r ≡ Ok v → u ≡ v
one_ok r u v e f = cc

pub one_uri : (s : List ℕ) (u v : Uri) → IsUri s u → IsUri s v → u ≡ v
one_uri s u v is also = one_ok (uri_of s) u v (uri_again s u is) (uri_again s v also)

ok_or_err : (r : Result Uri Refusal) (u : Uri) (f : Refusal) → r ≡ Ok u → r ≡ Err f → ⊥
ok_or_err r u f e g = cc

pub uri_or_foreign : (s : List ℕ) (u : Uri) → IsUri s u → IsForeign s → ⊥
uri_or_foreign s u is other = ok_or_err (uri_of s) u _ (uri_again s u is) (foreign_again s other)
