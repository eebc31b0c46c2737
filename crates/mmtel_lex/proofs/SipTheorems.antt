-- What is read is spelled so, and what is spelled so is read: sip URIs.
use Rattle.std.proofs.Common.{◌≡◌, ◌==◌, nat_lt, not, ◌&&◌, true, false, cond, ℕ, suc, ◌<◌, List, [], ◌∷◌, ◌++◌, length, Option, Some, None, refl, sym, ap, subst, ◌∙◌, append_assoc, arith}
use Rattle.std.specs.Prelude.{IfSome, codes, is_none}
use Rattle.std.specs.Str.{str_to_ascii_lowercase}
use Rattle.std.specs.List.{list_all}
use Rattle.std.proofs.lemmas.List.{append-nil}
use Rattle.std.proofs.lemmas.Bool.Decides.{nat_tests}
use Rattle.mmtel_base.specs.Classes.{in_class}
use Rattle.mmtel_base.specs.Scanning.{leading_run, after_run, after_byte, split_once_at, IsFree}
use Rattle.mmtel_base.specs.Classes.{IsAll, IsOneOrMore, Stops}
use Rattle.mmtel_lex.specs.Grammar.{params_text, user_text, headers_text, IsPort, IsPortOf, IsSip, IsRest, IsNamed}
use Rattle.mmtel_base.specs.Chain.{◌>>=◌}
use Rattle.mmtel_lex.specs.Reading.{user_at, user_from, host_at, port_of, port_number, port_from, port_at, headers_of, headers_from, headers_at, all_params_at, sip_parts, sip_of}
use Rattle.mmtel_base.specs.declared.classes.Class.TheVariants.{Digit, Token, Host, User, UriByte}
use Rattle.mmtel_base.specs.declared.classes.Class.{Class}
use Rattle.mmtel_lex.specs.declared.values.Param.{Param}
use Rattle.mmtel_lex.specs.declared.values.Uri.{Uri}
use Rattle.mmtel_lex.specs.declared.values.Uri.TheVariants.{Sip}
use Rattle.mmtel_base.proofs.Runs.{split_none, split_takes, split_free, split_again, and_true, run_again, after_run_again, run_whole, run_each}
use Rattle.mmtel_base.specs.Numbers.{number_of}
use Rattle.mmtel_base.proofs.NumberTheorems.{number_takes, number_again}
use Rattle.mmtel_base.proofs.ChainTheorems.{guard_some, where_some, bind_some, unless_some, some_is, after_byte_whole, filled_by, filled_test, zero_by}
use Rattle.mmtel_lex.proofs.ParamTheorems.{EndsParam, all_params_takes, all_params_again}

-- ---- the user

abbrev TakesUser : List ℕ → Option (List ℕ) × List ℕ → Type 0
TakesUser s x = (s ≡ user_text x.0 ++ x.1) × IfSome x.0 (IsOneOrMore User) × IsFree 64 x.1

is_none_by : {A : Type 0} (o : Option A) → is_none o ≡ true → o ≡ None
is_none_by None e = refl
is_none_by (Some x) e = absurd cc

none_free : (s : List ℕ) → is_none (split_once_at 64 s) ≡ true → IsFree 64 s
none_free s e = split_none 64 s (is_none_by (split_once_at 64 s) e)

user_by : (s : List ℕ) (o : Option (List ℕ × List ℕ)) (x : Option (List ℕ) × List ℕ) → split_once_at 64 s ≡ o → user_from s o ≡ Some x → TakesUser s x
user_by s None x e h = subst (λ (y : Option (List ℕ) × List ℕ). TakesUser s y) (some_is (None, s) x h) (refl, tt, split_none 64 s e)
user_by s (Some p) x e h =
    let f = unless_some (length p.0 == 0) (cond (list_all (in_class User) p.0 && is_none (split_once_at 64 p.1)) (Some (Some p.0, p.1)) None) x h in
    let g = guard_some (list_all (in_class User) p.0 && is_none (split_once_at 64 p.1)) (Some p.0, p.1) x f.1 in
    let both = and_true (list_all (in_class User) p.0) (is_none (split_once_at 64 p.1)) g.0 in
    let whole : s ≡ (p.0 ++ 64 ∷ []) ++ p.1 = split_takes 64 s p e ∙ sym (append_assoc p.0 (64 ∷ []) p.1) in
    subst (λ (y : Option (List ℕ) × List ℕ). TakesUser s y) g.1 (whole, record { filled = filled_by _ f.0; each = both.0 }, none_free p.1 both.1)

user_takes : (s : List ℕ) (x : Option (List ℕ) × List ℕ) → user_at s ≡ Some x → TakesUser s x
unfolding user_at
user_takes s x e = user_by s (split_once_at 64 s) x refl e

user_not_at : (b : ℕ) → in_class User b ≡ true → not (b == 64) ≡ true
unfolding in_class
user_not_at b e = grind (arith, nat_tests)

user_free : (u : List ℕ) → IsAll User u → IsFree 64 u
user_free [] each = refl
user_free (b ∷ u) each =
    let both = and_true (in_class User b) (list_all (in_class User) u) each in
    rw (user_not_at b both.0, user_free u both.1) refl

pub user_again : (user : Option (List ℕ)) (r : List ℕ) → IfSome user (IsOneOrMore User) → IsFree 64 r → user_at (user_text user ++ r) ≡ Some (user, r)
unfolding user_at
user_again None r is free = rw (split_free 64 r free) refl
user_again (Some u) r is free =
    rw (append_assoc u (64 ∷ []) r, split_again 64 u r (user_free u is.each), split_free 64 r free, filled_test (length u) is.filled, is.each) refl

-- ---- the host

abbrev TakesHost : List ℕ → List ℕ × List ℕ → Type 0
TakesHost s x = (s ≡ x.0 ++ x.1) × IsOneOrMore Host x.0 × (length x.0 < 256)

pub host_takes : (s : List ℕ) (x : List ℕ × List ℕ) → host_at s ≡ Some x → (s ≡ x.0 ++ x.1) × IsOneOrMore Host x.0 × (length x.0 < 256)
unfolding host_at
host_takes s x e =
    let g = unless_some (length (leading_run Host s) == 0) (cond (nat_lt 255 (length (leading_run Host s))) None (Some (leading_run Host s, after_run Host s))) x e in
    let h = unless_some (nat_lt 255 (length (leading_run Host s))) (Some (leading_run Host s, after_run Host s)) x g.1 in
    let fits : length (leading_run Host s) < 256 = grind (arith, nat_tests, h.0) in
    subst (λ (y : List ℕ × List ℕ). TakesHost s y) (some_is (leading_run Host s, after_run Host s) x h.1)
    (run_whole Host s, record { filled = filled_by _ g.0; each = run_each Host s }, fits)

not_over : (n m : ℕ) → m < suc n → nat_lt n m ≡ false
not_over n m lt = grind (arith, nat_tests)

pub host_again : (h r : List ℕ) → IsOneOrMore Host h → length h < 256 → Stops Host r → host_at (h ++ r) ≡ Some (h, r)
unfolding host_at
host_again h r is fits stops =
    let under : nat_lt 255 (length h) ≡ false = not_over 255 (length h) fits in
    rw (run_again Host h r is.each stops, after_run_again Host h r is.each stops, filled_test (length h) is.filled, under) refl

-- ---- the port

port_within : (o : Option ℕ) (n : ℕ) → port_of o ≡ Some n → (o ≡ Some n) × (0 < n)
port_within None n e = absurd cc
port_within (Some m) n e =
    let g = unless_some (m == 0) (Some m) n e in
    let same : m ≡ n = some_is m n g.1 in
    let low : 0 < m = filled_by m g.0 in
    (g.1, omega arith)

port_number_takes : (ds : List ℕ) (n : ℕ) → port_number ds ≡ Some n → IsPortOf ds n
unfolding port_number
port_number_takes ds n e =
    let p = port_within (number_of 65535 ds) n e in
    let w = number_takes 65535 ds n p.0 in
    record { writes = w.0; low = p.1; high = omega (arith, w.1) }

port_number_again : (ds : List ℕ) (n : ℕ) → IsPortOf ds n → port_number ds ≡ Some n
unfolding port_number
port_number_again ds n is = rw (number_again 65535 ds n is.writes (omega (arith, is.high)), filled_test n is.low) refl

abbrev TakesPort : List ℕ → Option ℕ × List ℕ → Type 0
TakesPort s x = (text : List ℕ) × (s ≡ text ++ x.1) × IsPort text x.0

port_by : (s : List ℕ) (o : Option (List ℕ)) (x : Option ℕ × List ℕ) → after_byte 58 s ≡ o → port_from o s ≡ Some x → TakesPort s x
port_by s None x e h = subst (λ (y : Option ℕ × List ℕ). TakesPort s y) (some_is (None, s) x h) ([], refl, refl)
port_by s (Some t) x e h =
    let b = bind_some (port_number (leading_run Digit t)) (λ n. Some (Some n, after_run Digit t)) x h in
    let n : ℕ = b.0 in
    let whole : s ≡ (58 ∷ leading_run Digit t) ++ after_run Digit t = after_byte_whole 58 s t e ∙ ap (λ (l : List ℕ). 58 ∷ l) (run_whole Digit t) in
    subst (λ (y : Option ℕ × List ℕ). TakesPort s y) (some_is (Some n, after_run Digit t) x b.2) (58 ∷ leading_run Digit t, whole, (leading_run Digit t, refl, port_number_takes (leading_run Digit t) n b.1))

port_takes : (s : List ℕ) (x : Option ℕ × List ℕ) → port_at s ≡ Some x → TakesPort s x
unfolding port_at
port_takes s x e = port_by s (after_byte 58 s) x refl e

port_again : (text : List ℕ) (p : Option ℕ) (r : List ℕ) → IsPort text p → Stops Digit r → after_byte 58 r ≡ None → port_at (text ++ r) ≡ Some (p, r)
unfolding port_at
port_again text None r is stops colon = rw (is, colon) refl
port_again text (Some n) r is stops colon =
    rw (is.1, run_again Digit is.0 r is.2.writes.digits.each stops, after_run_again Digit is.0 r is.2.writes.digits.each stops, port_number_again is.0 n is.2) refl

-- ---- the headers

abbrev TakesHeaders : List ℕ → List ℕ → Type 0
TakesHeaders s h = (s ≡ headers_text h) × IsAll User h

nothing_left : (s : List ℕ) → (length s == 0) ≡ true → s ≡ []
nothing_left [] e = refl
nothing_left (b ∷ s) e = absurd (omega (arith, zero_by (suc (length s)) e))

filled_headers : (h : List ℕ) → 0 < length h → headers_text h ≡ 63 ∷ h
filled_headers [] lt = absurd (omega arith)
filled_headers (b ∷ h) lt = refl

headers_by : (s : List ℕ) (o : Option (List ℕ)) (h : List ℕ) → after_byte 63 s ≡ o → headers_from o s ≡ Some h → TakesHeaders s h
unfolding headers_of
headers_by s None h e f =
    let g = guard_some (length s == 0) [] h f in
    subst (λ (l : List ℕ). TakesHeaders s l) g.1 (nothing_left s g.0, refl)
headers_by s (Some t) h e f =
    let g = unless_some (length (leading_run User t) == 0) (cond (length (after_run User t) == 0) (Some (leading_run User t)) None) h f in
    let k = guard_some (length (after_run User t) == 0) (leading_run User t) h g.1 in
    let all : t ≡ leading_run User t = run_whole User t ∙ ap (λ (l : List ℕ). leading_run User t ++ l) (nothing_left (after_run User t) k.0) ∙ append-nil (leading_run User t) in
    let whole : s ≡ headers_text (leading_run User t) = after_byte_whole 63 s t e ∙ ap (λ (l : List ℕ). 63 ∷ l) all ∙ sym (filled_headers (leading_run User t) (filled_by _ g.0)) in
    subst (λ (l : List ℕ). TakesHeaders s l) k.1 (whole, run_each User t)

headers_takes : (s : List ℕ) (h : List ℕ) → headers_at s ≡ Some h → TakesHeaders s h
unfolding headers_at
headers_takes s h e = headers_by s (after_byte 63 s) h refl e

run_all : (k : Class) (a : List ℕ) → IsAll k a → leading_run k a ≡ a
run_all k a each = subst (λ (l : List ℕ). leading_run k l ≡ a) (append-nil a) (run_again k a [] each tt)

after_run_all : (k : Class) (a : List ℕ) → IsAll k a → after_run k a ≡ []
after_run_all k a each = subst (λ (l : List ℕ). after_run k l ≡ []) (append-nil a) (after_run_again k a [] each tt)

headers_again : (h : List ℕ) → IsAll User h → headers_at (headers_text h) ≡ Some h
unfolding headers_at headers_of
headers_again [] each = refl
headers_again (b ∷ h) each = rw (run_all User (b ∷ h) each, after_run_all User (b ∷ h) each, filled_test (suc (length h)) (omega arith)) refl

-- ---- the whole

-- five parts, each found before what the next is found in
chained : (s a ar b br c cr d dr e : List ℕ) → s ≡ a ++ ar → ar ≡ b ++ br → br ≡ c ++ cr → cr ≡ d ++ dr → dr ≡ e → (s ≡ a ++ (b ++ (c ++ (d ++ e)))) × (ar ≡ b ++ (c ++ (d ++ e)))
chained s a ar b br c cr d dr e one two three four five = (cc, cc)

abbrev TakesSip : List ℕ → Uri → Type 0
TakesSip s u = IsRest s u × ((name : List ℕ) → str_to_ascii_lowercase name ≡ codes "sip" → IsNamed name u)

pub sip_takes : (s : List ℕ) (u : Uri) → sip_of s ≡ Some u → IsRest s u × ((name : List ℕ) → str_to_ascii_lowercase name ≡ codes "sip" → IsNamed name u)
unfolding sip_of
sip_takes s u e =
    let within = where_some (list_all (in_class UriByte) s) (sip_parts s) u e in
    let a = bind_some (user_at s) (λ u. host_at u.1 >>= λ h. port_at h.1 >>= λ p. all_params_at p.1 >>= λ ps. headers_at ps.1 >>= λ hs. Some (Sip u.0 h.0 p.0 ps.0 hs)) u within.1 in
    let user : Option (List ℕ) × List ℕ = a.0 in
    let b = bind_some (host_at user.1) (λ h. port_at h.1 >>= λ p. all_params_at p.1 >>= λ ps. headers_at ps.1 >>= λ hs. Some (Sip user.0 h.0 p.0 ps.0 hs)) u a.2 in
    let h : List ℕ × List ℕ = b.0 in
    let d = bind_some (port_at h.1) (λ p. all_params_at p.1 >>= λ ps. headers_at ps.1 >>= λ hs. Some (Sip user.0 h.0 p.0 ps.0 hs)) u b.2 in
    let p : Option ℕ × List ℕ = d.0 in
    let f = bind_some (all_params_at p.1) (λ ps. headers_at ps.1 >>= λ hs. Some (Sip user.0 h.0 p.0 ps.0 hs)) u d.2 in
    let ps : List Param × List ℕ = f.0 in
    let g = bind_some (headers_at ps.1) (λ hs. Some (Sip user.0 h.0 p.0 ps.0 hs)) u f.2 in
    let hs : List ℕ = g.0 in
    let has_user = user_takes s user a.1 in
    let has_host = host_takes user.1 h b.1 in
    let has_port = port_takes h.1 p d.1 in
    let has_params = all_params_takes p.1 ps f.1 in
    let has_headers = headers_takes ps.1 hs g.1 in
    let whole = chained s (user_text user.0) user.1 h.0 h.1 has_port.0 p.1 (params_text ps.0) ps.1 (headers_text hs) has_user.0 has_host.0 has_port.1 has_params.0 has_headers.0 in
    let is : IsSip s user.0 h.0 p.0 ps.0 hs = record {
      bytes_in = within.0;
      port_text = has_port.0;
      whole = whole.0;
      user_in = has_user.1;
      lone = subst (λ (l : List ℕ). IsFree 64 l) whole.1 has_user.2;
      host_in = has_host.1;
      host_fits = has_host.2;
      port_in = has_port.2;
      params_in = has_params.1;
      headers_in = has_headers.1;
    } in
    subst (λ (v : Uri). TakesSip s v) (some_is (Sip user.0 h.0 p.0 ps.0 hs) u g.2) (is, λ name n. n)

-- ---- what is spelled so is read

-- what may begin what follows a host
pub record StopsAt (k : Class) : Type 0 where
  pub colon : in_class k 58 ≡ false
  pub semicolon : in_class k 59 ≡ false
  pub question : in_class k 63 ≡ false

stops_headers : (k : Class) (h : List ℕ) → StopsAt k → Stops k (headers_text h)
stops_headers k [] at = tt
stops_headers k (b ∷ h) at = at.question

stops_params : (k : Class) (ps : List Param) (h : List ℕ) → StopsAt k → Stops k (params_text ps ++ headers_text h)
stops_params k [] h at = stops_headers k h at
stops_params k (p ∷ ps) h at = at.semicolon

stops_port : (k : Class) (text : List ℕ) (p : Option ℕ) (r : List ℕ) → StopsAt k → IsPort text p → Stops k r → Stops k (text ++ r)
stops_port k text None r at is stops = rw is stops
stops_port k text (Some n) r at is stops = rw is.1 at.colon

host_stops : StopsAt Host
unfolding in_class
host_stops = record { colon = refl; semicolon = refl; question = refl }

digit_stops : StopsAt Digit
unfolding in_class
digit_stops = record { colon = refl; semicolon = refl; question = refl }

token_stops : StopsAt Token
unfolding in_class
token_stops = record { colon = refl; semicolon = refl; question = refl }

no_colon : (ps : List Param) (h : List ℕ) → after_byte 58 (params_text ps ++ headers_text h) ≡ None
no_colon [] [] = refl
no_colon [] (b ∷ h) = refl
no_colon (p ∷ ps) h = refl

headers_end : (h : List ℕ) → EndsParam (headers_text h)
headers_end [] = record { token = tt; equals = refl }
headers_end (b ∷ h) = record { token = token_stops.question; equals = refl }

no_semicolon : (h : List ℕ) → after_byte 59 (headers_text h) ≡ None
no_semicolon [] = refl
no_semicolon (b ∷ h) = refl

pub sip_again : (s : List ℕ) (user : Option (List ℕ)) (host : List ℕ) (port : Option ℕ) (params : List Param) (headers : List ℕ) → IsSip s user host port params headers →
    sip_of s ≡ Some (Sip user host port params headers)
unfolding sip_of
sip_again s user host port params headers is =
    let tail : List ℕ = params_text params ++ headers_text headers in
    let one : user_at s ≡ Some (user, host ++ (is.port_text ++ (params_text params ++ headers_text headers))) = ap user_at is.whole ∙ user_again user (host ++ (is.port_text ++ tail)) is.user_in is.lone in
    let two : host_at (host ++ (is.port_text ++ (params_text params ++ headers_text headers))) ≡ Some (host, is.port_text ++ (params_text params ++ headers_text headers)) =
    host_again host (is.port_text ++ tail) is.host_in is.host_fits (stops_port Host is.port_text port tail host_stops is.port_in (stops_params Host params headers host_stops)) in
    let three : port_at (is.port_text ++ (params_text params ++ headers_text headers)) ≡ Some (port, params_text params ++ headers_text headers) =
    port_again is.port_text port tail is.port_in (stops_params Digit params headers digit_stops) (no_colon params headers) in
    let four : all_params_at (params_text params ++ headers_text headers) ≡ Some (params, headers_text headers) =
    all_params_again params (headers_text headers) is.params_in (headers_end headers) (no_semicolon headers) in
    let five : headers_at (headers_text headers) ≡ Some headers = headers_again headers is.headers_in in
    rw (is.bytes_in, one, two, three, four, five) refl
