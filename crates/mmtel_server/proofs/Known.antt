-- What holds for a value, where it is known.
use Rattle.std.proofs.Common.{◌≡◌, subst, Option, Some, Result, Ok, Err}
use Rattle.std.specs.Prelude.{IfErr, IfOk, IfSome, OnErr}

pub some_of : {A : Type 0} → (P : A → Type 0) (o : Option A) (x : A) → o ≡ Some x → IfSome o P → P x
some_of P o x is p = subst (λ q. IfSome q P) is p

pub ok_of : {A E : Type 0} → (P : A → Type 0) (r : Result A E) (x : A) → r ≡ Ok x → IfOk r P → P x
ok_of P r x is p = subst (λ q. IfOk q P) is p

pub err_of : {A E : Type 0} → (P : E → Type 0) (r : Result A E) (e : E) → r ≡ Err e → IfErr r P → P e
err_of P r e is p = subst (λ q. IfErr q P) is p

pub on_err_of : {A E : Type 0} → (P : Type 0) (r : Result A E) (e : E) → r ≡ Err e → OnErr r P → P
on_err_of P r e is p = subst (λ q. OnErr q P) is p
