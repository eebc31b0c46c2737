-- CSeq that is written is parsed again (RFC 3261 §20.16).
use Rattle.std.proofs.Common.{◌∙◌, ◌≡◌, ◌^◌, ◌<◌, ℕ, List, [], ◌∷◌, Option, Some, None, append-nil, ap, arith, decimal, refl, sym}
use Rattle.std.specs.List.{list_all}
use Rattle.std.specs.Option.{option_map}
use Rattle.std.specs.Str.Parse.{digits_value}
use Rattle.mmtel_base.specs.Chain.{◌>>=◌}
use Rattle.mmtel_base.specs.Classes.{IsAll, Stops, in_class}
use Rattle.mmtel_base.specs.Numbers.{number_of}
use Rattle.mmtel_base.specs.Scanning.{after_run, leading_run}
use Rattle.mmtel_base.specs.declared.classes.Class.TheVariants.{Blank, Digit, Token}
use Rattle.mmtel_base.proofs.ChainTheorems.{bind_some, some_is}
use Rattle.mmtel_base.proofs.NumberTheorems.{number_again, number_takes}
use Rattle.mmtel_base.proofs.Numerals.{decimal_writes}
use Rattle.mmtel_base.proofs.Runs.{after_run_again, and_true, run_again}
use Rattle.mmtel_lex.specs.Grammar.{IsToken}
use Rattle.mmtel_lex.specs.Reading.{token_at}
use Rattle.mmtel_lex.proofs.ParamTheorems.{token_again}
use Rattle.mmtel_message.specs.Fields.{after_blanks, cseq_at, if_end}
use Rattle.mmtel_message.specs.declared.fields.CSeq.{CSeq}
use Rattle.mmtel_message.proofs.ViaTheorems.{behind_blank, token_dark}
use Rattle.mmtel_leg.specs.Dialogues.{number_at}
use Rattle.mmtel_leg.specs.Requests.{cseq_text}

-- ---- digits

blank_stops : (method : List ℕ) → Stops Digit (32 ∷ method)
unfolding in_class
blank_stops method = refl

digits_run : (n : ℕ) (method : List ℕ) → n < 2 ^ 64 → leading_run Digit (cseq_text n method) ≡ decimal n
digits_run n method small = run_again Digit (decimal n) (32 ∷ method) (decimal_writes n small).digits.each (blank_stops method)

digits_after : (n : ℕ) (method : List ℕ) → n < 2 ^ 64 → after_run Digit (cseq_text n method) ≡ 32 ∷ method
digits_after n method small = after_run_again Digit (decimal n) (32 ∷ method) (decimal_writes n small).digits.each (blank_stops method)

-- ---- the method after a blank

token_stops : (method : List ℕ) → IsAll Token method → Stops Blank method
token_stops [] each = tt
token_stops (b ∷ s) each = token_dark b (and_true (in_class Token b) (list_all (in_class Token) s) each).0

whole_token : (method : List ℕ) → IsToken method → token_at method ≡ Some (method, [])
whole_token method token = ap token_at (sym (append-nil method)) ∙ token_again method [] token tt

-- ---- the whole value

pub cseq_again : (n : ℕ) (method : List ℕ) → n < 2 ^ 31 → IsToken method → cseq_at (cseq_text n method) ≡ Some (record { number = n; method = method })
unfolding cseq_at
cseq_again n method small token =
    let fits : n < 2 ^ 64 = omega arith in
    rw (
      digits_run n method fits,
      digits_after n method fits,
      number_again 2147483647 (decimal n) n (decimal_writes n fits) (omega arith),
      behind_blank method (token_stops method token.each),
      whole_token method token,
    ) refl

-- a number that is read is the one that was written

ended : (x : CSeq) (s : List ℕ) (c : CSeq) → if_end x s ≡ Some c → x ≡ c
ended x [] c e = some_is x c e
ended x (b ∷ s) c e = absurd cc

number_read : (s : List ℕ) (c : CSeq) → cseq_at s ≡ Some c → number_of 2147483647 (leading_run Digit s) ≡ Some c.number
unfolding cseq_at
number_read s c e =
    let n = bind_some (number_of 2147483647 (leading_run Digit s)) (λ n. after_blanks (after_run Digit s) >>= λ b. token_at b >>= λ m. if_end (record { number = n; method = m.0 }) m.1) c e in
    let b = bind_some (after_blanks (after_run Digit s)) (λ b. token_at b >>= λ m. if_end (record { number = n.0; method = m.0 }) m.1) c n.2 in
    let m = bind_some (token_at b.0) (λ m. if_end (record { number = n.0; method = m.0 }) m.1) c b.2 in
    let is : record { number = n.0; method = m.0.0 } ≡ c = ended (record { number = n.0; method = m.0.0 }) m.0.1 c m.2 in
    n.1 ∙ ap (λ (x : CSeq). Some x.number) is

of_cseq : (o : Option CSeq) (k : ℕ) → option_map (λ (c : CSeq). c.number) o ≡ Some k → (c : CSeq) × (o ≡ Some c) × (c.number ≡ k)
of_cseq None k e = absurd cc
of_cseq (Some c) k e = (c, refl, some_is c.number k e)

pub number_is : (n k : ℕ) (method : List ℕ) → n < 2 ^ 64 → number_at (cseq_text n method) ≡ Some k → k ≡ n
unfolding number_at
number_is n k method small e =
    let c = of_cseq (cseq_at (cseq_text n method)) k e in
    let read : number_of 2147483647 (decimal n) ≡ Some c.0.number = ap (λ (s : List ℕ). number_of 2147483647 s) (sym (digits_run n method small)) ∙ number_read (cseq_text n method) c.0 c.1 in
    let worth : digits_value 10 (decimal n) ≡ c.0.number = (number_takes 2147483647 (decimal n) c.0.number read).0.value in
    sym c.2 ∙ (sym worth ∙ (decimal_writes n small).value)
