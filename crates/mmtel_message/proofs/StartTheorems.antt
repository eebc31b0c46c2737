-- A start line that was read is written as it was.
use Rattle.std.proofs.Common.{◌≡◌, ◌==◌, nat_lt, true, false, cond, ℕ, ◌+◌, ◌*◌, ◌-◌, ◌/◌, ◌%◌, ◌≤◌, List, [], ◌∷◌, ◌++◌, length, take, drop, Option, Some, None, refl, sym, ap, subst, ◌∙◌, arith, codes}
use Rattle.std.proofs.lemmas.List.{take-append-drop}
use Rattle.std.proofs.lemmas.Fmt.{decimal_digit, decimal_step}
use Rattle.std.proofs.lemmas.Slice.Eq.{bytes_eq-Decides}
use Rattle.std.proofs.lemmas.Bool.Decides.{nat_tests}
use Rattle.std.specs.List.{list_all}
use Rattle.std.specs.Fmt.{decimal}
use Rattle.std.specs.Str.{bytes_eq}
use Rattle.std.specs.Str.Parse.{digits_value}
use Rattle.std.specs.Char.{digit_value}
use Rattle.mmtel_base.specs.Chain.{◌>>=◌}
use Rattle.mmtel_base.specs.Classes.{IsAll}
use Rattle.mmtel_base.specs.Scanning.{split_once_at, after_byte, after_text}
use Rattle.mmtel_base.specs.Numbers.{number_of}
use Rattle.mmtel_base.specs.declared.classes.Class.TheVariants.{Digit}
use Rattle.mmtel_base.proofs.ChainTheorems.{bind_some, where_some, unless_some, some_is, after_byte_whole}
use Rattle.mmtel_base.proofs.Digits.{digit_at, IsDigit}
use Rattle.mmtel_base.proofs.NumberTheorems.{number_takes}
use Rattle.mmtel_base.proofs.Runs.{split_takes}
use Rattle.mmtel_lex.specs.Reading.{token_at}
use Rattle.mmtel_lex.proofs.ParamTheorems.{token_takes}
use Rattle.mmtel_message.specs.Headers.{is_value_byte}
use Rattle.mmtel_message.specs.Starts.{status_of, status_at, request_of, request_at, start_from, start_at}
use Rattle.mmtel_message.specs.Texts.{start_text}
use Rattle.mmtel_message.specs.declared.messages.Start.{Start}
use Rattle.mmtel_message.specs.declared.messages.Start.TheVariants.{Request, Status}

abbrev value_by : ℕ → ℕ → ℕ → ℕ
value_by a b c = ((a - 48) * 10 + (b - 48)) * 10 + (c - 48)

-- a number of three digits that is not below 100 is written by those digits
three_digits : (a b c : ℕ) → IsDigit a → IsDigit b → IsDigit c → 100 ≤ value_by a b c → decimal (value_by a b c) ≡ a ∷ b ∷ c ∷ []
three_digits a b c x y z le =
    let n : ℕ = value_by a b c in
    let la = x.low in let ha = x.high in let lb = y.low in let hb = y.high in let lc = z.low in let hc = z.high in
    let tens : n / 10 ≡ (a - 48) * 10 + (b - 48) = omega arith in
    let ones : 48 + n % 10 ≡ c = omega arith in
    let first : ((a - 48) * 10 + (b - 48)) / 10 ≡ a - 48 = omega arith in
    let second : 48 + ((a - 48) * 10 + (b - 48)) % 10 ≡ b = omega arith in
    let one : 48 + (a - 48) ≡ a = omega arith in
    let d1 : decimal n ≡ decimal (n / 10) ++ (48 + n % 10) ∷ [] = decimal_step n (omega arith) (omega arith) in
    let d2 : decimal ((a - 48) * 10 + (b - 48)) ≡ decimal (((a - 48) * 10 + (b - 48)) / 10) ++ (48 + ((a - 48) * 10 + (b - 48)) % 10) ∷ [] = decimal_step ((a - 48) * 10 + (b - 48)) (omega arith) (omega arith) in
    let d3 : decimal (a - 48) ≡ (48 + (a - 48)) ∷ [] = decimal_digit (a - 48) (omega arith) in
    d1 ∙ rw (tens, ones, d2, first, second, d3, one) refl

digits_again : (s : List ℕ) (n : ℕ) → length s ≡ 3 → IsAll Digit s → digits_value 10 s ≡ n → 100 ≤ n → decimal n ≡ s
digits_again [] n len each e le = absurd (omega arith)
digits_again (a ∷ []) n len each e le = absurd (omega arith)
digits_again (a ∷ b ∷ []) n len each e le = absurd (omega arith)
digits_again (a ∷ b ∷ c ∷ []) n len each e le =
    let x = digit_at (a ∷ b ∷ c ∷ []) 0 each (omega arith) in
    let y = digit_at (a ∷ b ∷ c ∷ []) 1 each (omega arith) in
    let z = digit_at (a ∷ b ∷ c ∷ []) 2 each (omega arith) in
    let wx : digit_value a ≡ a - 48 = x.worth in
    let wy : digit_value b ≡ b - 48 = y.worth in
    let wz : digit_value c ≡ c - 48 = z.worth in
    let whole : value_by a b c ≡ n = omega (arith, e, wx, wy, wz) in
    subst (λ (m : ℕ). decimal m ≡ a ∷ b ∷ c ∷ []) whole (three_digits a b c x y z (omega arith))
digits_again (a ∷ b ∷ c ∷ d ∷ s) n len each e le = absurd (omega arith)

pub not_below : (n : ℕ) → nat_lt n 100 ≡ false → 100 ≤ n
not_below n e = grind (arith, nat_tests)

len_three : (n : ℕ) → (n == 3) ≡ true → n ≡ 3
len_three n e = grind (arith, nat_tests)

status_text : (t : List ℕ) (s : Start) → status_at t ≡ Some s → start_text s ≡ codes "SIP/2.0 " ++ t
unfolding status_at
status_text t s e =
    let p = bind_some (split_once_at 32 t) (λ p. (cond (length p.0 == 3) (number_of 699 p.0) None) >>= λ n. status_of p.1 n) s e in
    let n = bind_some (cond (length p.0.0 == 3) (number_of 699 p.0.0) None) (λ n. status_of p.0.1 n) s p.2 in
    let w = where_some (length p.0.0 == 3) (number_of 699 p.0.0) n.0 n.1 in
    let g = unless_some (nat_lt n.0 100) (cond (list_all is_value_byte p.0.1) (Some (Status n.0 p.0.1)) None) s n.2 in
    let v = where_some (list_all is_value_byte p.0.1) (Some (Status n.0 p.0.1)) s g.1 in
    let is : Status n.0 p.0.1 ≡ s = some_is (Status n.0 p.0.1) s v.1 in
    let wrote = number_takes 699 p.0.0 n.0 w.1 in
    let digits : decimal n.0 ≡ p.0.0 = digits_again p.0.0 n.0 (len_three (length p.0.0) w.0) wrote.0.digits.each wrote.0.value (not_below n.0 g.0) in
    let whole : t ≡ p.0.0 ++ 32 ∷ p.0.1 = split_takes 32 t p.0 p.1 in
    subst (λ (x : Start). start_text x ≡ codes "SIP/2.0 " ++ t) is (rw digits (ap (λ (x : List ℕ). codes "SIP/2.0 " ++ x) (sym whole)))

request_text : (line : List ℕ) (s : Start) → request_at line ≡ Some s → start_text s ≡ line
unfolding request_at
request_text line s e =
    let m = bind_some (token_at line) (λ m. after_byte 32 m.1 >>= λ u. split_once_at 32 u >>= λ p. request_of m.0 p.0 p.1) s e in
    let u = bind_some (after_byte 32 m.0.1) (λ u. split_once_at 32 u >>= λ p. request_of m.0.0 p.0 p.1) s m.2 in
    let p = bind_some (split_once_at 32 u.0) (λ p. request_of m.0.0 p.0 p.1) s u.2 in
    let g = unless_some (length p.0.0 == 0) (cond (bytes_eq p.0.1 (codes "SIP/2.0")) (Some (Request m.0.0 p.0.0)) None) s p.2 in
    let v = where_some (bytes_eq p.0.1 (codes "SIP/2.0")) (Some (Request m.0.0 p.0.0)) s g.1 in
    let is : Request m.0.0 p.0.0 ≡ s = some_is (Request m.0.0 p.0.0) s v.1 in
    let version : p.0.1 ≡ codes "SIP/2.0" = (bytes_eq-Decides p.0.1 (codes "SIP/2.0")).0 v.0 in
    let one : line ≡ m.0.0 ++ m.0.1 = (token_takes line m.0 m.1).0 in
    let two : m.0.1 ≡ 32 ∷ u.0 = after_byte_whole 32 m.0.1 u.0 u.1 in
    let three : u.0 ≡ p.0.0 ++ 32 ∷ p.0.1 = split_takes 32 u.0 p.0 p.1 in
    let whole : line ≡ m.0.0 ++ (32 ∷ (p.0.0 ++ 32 ∷ codes "SIP/2.0")) =
    one ∙ ap (λ (x : List ℕ). m.0.0 ++ x) (two ∙ ap (λ (x : List ℕ). 32 ∷ x) (three ∙ ap (λ (x : List ℕ). p.0.0 ++ 32 ∷ x) version)) in
    subst (λ (x : Start). start_text x ≡ line) is (sym whole)

pub after_text_whole : (front s t : List ℕ) → after_text front s ≡ Some t → s ≡ front ++ t
after_text_whole front s t e =
    let g = unless_some (nat_lt (length s) (length front)) (cond (bytes_eq (take (length front) s) front) (Some (drop (length front) s)) None) t e in
    let v = where_some (bytes_eq (take (length front) s) front) (Some (drop (length front) s)) t g.1 in
    let same : take (length front) s ≡ front = (bytes_eq-Decides (take (length front) s) front).0 v.0 in
    let rest : drop (length front) s ≡ t = some_is (drop (length front) s) t v.1 in
    sym (take-append-drop (length front) s) ∙ (ap (λ (x : List ℕ). x ++ drop (length front) s) same ∙ ap (λ (x : List ℕ). front ++ x) rest)

text_from : (o : Option (List ℕ)) (line : List ℕ) (s : Start) → after_text (codes "SIP/2.0 ") line ≡ o → start_from o line ≡ Some s → start_text s ≡ line
text_from None line s is e = request_text line s e
text_from (Some t) line s is e = status_text t s e ∙ sym (after_text_whole (codes "SIP/2.0 ") line t is)

-- the text of a start line is the line that it was read from
pub text_again : (line : List ℕ) (s : Start) → start_at line ≡ Some s → start_text s ≡ line
unfolding start_at
text_again line s e = text_from (after_text (codes "SIP/2.0 ") line) line s refl e
