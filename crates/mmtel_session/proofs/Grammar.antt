-- What is read of a value is what the grammar says of it, and what the grammar says is read.
use Rattle.std.proofs.Common.{◌≡◌, ℕ, ◌<◌, ◌≤◌, ◌^◌, ◌++◌, Bool, List, [], ◌∷◌, Option, Some, None, Result, Ok, Err, refl, sym, subst, ap, ◌∙◌, arith}
use Rattle.std.specs.Prelude.{◌↔◌, IfOk}
use Rattle.std.specs.Option.{ok_or}
use Rattle.mmtel_base.specs.Chain.{◌>>=◌}
use Rattle.mmtel_base.specs.Classes.{in_class, Stops}
use Rattle.mmtel_base.specs.Numbers.{Writes, number_of}
use Rattle.mmtel_base.specs.Scanning.{leading_run, after_run}
use Rattle.mmtel_base.specs.declared.classes.Class.TheVariants.{Digit}
use Rattle.mmtel_base.proofs.ChainTheorems.{bind_some, some_is, some_none}
use Rattle.mmtel_base.proofs.NumberTheorems.{number_takes, number_again}
use Rattle.mmtel_base.proofs.Runs.{run_again, after_run_again, run_whole}
use Rattle.mmtel_lex.specs.Grammar.{AreParams, IsParams, params_text}
use Rattle.mmtel_lex.specs.Reading.{params_of}
use Rattle.mmtel_lex.specs.declared.faults.LexFault.{LexFault}
use Rattle.mmtel_lex.specs.declared.faults.LexFault.TheVariants as lex
use Rattle.mmtel_lex.specs.declared.values.Param.{Param}
use Rattle.mmtel_lex.proofs.ParamTheorems.{whole_params_takes, whole_params_again}
use Rattle.mmtel_session.specs.SessionExpires.{IsSession, refresher_in, session_of}
use Rattle.mmtel_session.specs.declared.values.SessionExpires.{SessionExpires}

-- no digit begins parameters
params_stop : (ps : List Param) → Stops Digit (params_text ps)
unfolding in_class
params_stop [] = tt
params_stop (p ∷ ps) = refl

takes : (s : List ℕ) (session : SessionExpires) → session_of s ≡ Some session → IsSession s session
unfolding session_of
takes s session e =
    let n = bind_some (number_of 2147483647 (leading_run Digit s)) (λ n. params_of (after_run Digit s) >>= λ ps. refresher_in ps >>= λ r. Some (record { interval = n; caller_refreshes = r })) session e in
    let ps = bind_some (params_of (after_run Digit s)) (λ ps. refresher_in ps >>= λ r. Some (record { interval = n.0; caller_refreshes = r })) session n.2 in
    let r = bind_some (refresher_in ps.0) (λ r. Some (record { interval = n.0; caller_refreshes = r })) session ps.2 in
    let number = number_takes 2147483647 (leading_run Digit s) n.0 n.1 in
    let params = whole_params_takes (after_run Digit s) ps.0 ps.1 in
    let below : n.0 < 2 ^ 31 = omega (arith, number.1) in
    subst (λ (x : SessionExpires). IsSession s x) (some_is (record { interval = n.0; caller_refreshes = r.0 }) session r.2) (record {
      digits = leading_run Digit s;
      params = ps.0;
      whole = run_whole Digit s ∙ ap (λ (l : List ℕ). leading_run Digit s ++ l) params.whole;
      interval = number.0;
      below = below;
      params_in = params.params_in;
      refresher = r.1;
    })

again : (s : List ℕ) (session : SessionExpires) → IsSession s session → session_of s ≡ Some session
unfolding session_of
again s session is =
    let stop = params_stop is.params in
    let front : leading_run Digit s ≡ is.digits = ap (λ (l : List ℕ). leading_run Digit l) is.whole ∙ run_again Digit is.digits (params_text is.params) is.interval.digits.each stop in
    let back : after_run Digit s ≡ params_text is.params = ap (λ (l : List ℕ). after_run Digit l) is.whole ∙ after_run_again Digit is.digits (params_text is.params) is.interval.digits.each stop in
    let least : session.interval ≤ 2147483647 = omega (arith, is.below) in
    let number : number_of 2147483647 is.digits ≡ Some session.interval = number_again 2147483647 is.digits session.interval is.interval least in
    let params : params_of (params_text is.params) ≡ Some is.params = whole_params_again (params_text is.params) is.params (record { whole = refl; params_in = is.params_in }) in
    rw (front, back, number, params, is.refresher) refl

-- ---- the result of the reader

found_by : (s : List ℕ) (read : Option SessionExpires) → session_of s ≡ read → IfOk (ok_or read lex.Malformed) (λ session. IsSession s session)
found_by s None e = tt
found_by s (Some session) e = takes s session e

pub found : (s : List ℕ) (answer : Result SessionExpires LexFault) → answer ≡ ok_or (session_of s) lex.Malformed → IfOk answer (λ session. IsSession s session)
found s answer e = subst (λ (r : Result SessionExpires LexFault). IfOk r (λ session. IsSession s session)) (sym e) (found_by s (session_of s) refl)

pub only : (s : List ℕ) (answer : Result SessionExpires LexFault) → answer ≡ ok_or (session_of s) lex.Malformed → (session : SessionExpires) → IsSession s session → answer ≡ Ok session
only s answer e session is = e ∙ ap (λ (o : Option SessionExpires). ok_or o lex.Malformed) (again s session is)

none_by : (s : List ℕ) (read : Option SessionExpires) → session_of s ≡ read → ok_or read lex.Malformed ≡ Err lex.Malformed ↔ ((session : SessionExpires) → IsSession s session → ⊥)
none_by s None e = (λ _. λ session is. some_none session (session_of s) e (again s session is), λ _. refl)
none_by s (Some session) e = (λ h. absurd cc, λ none. absurd (none session (takes s session e)))

pub malformed : (s : List ℕ) (answer : Result SessionExpires LexFault) → answer ≡ ok_or (session_of s) lex.Malformed → answer ≡ Err lex.Malformed ↔ ((session : SessionExpires) → IsSession s session → ⊥)
malformed s answer e = subst (λ (r : Result SessionExpires LexFault). r ≡ Err lex.Malformed ↔ ((session : SessionExpires) → IsSession s session → ⊥)) (sym e) (none_by s (session_of s) refl)
