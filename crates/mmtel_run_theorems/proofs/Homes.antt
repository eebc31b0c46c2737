-- The home domain of each configuration that was read is a host, whose bytes are letters, digits, `-` and `.`.
use Rattle.std.proofs.Common.{◌≡◌, ◌++◌, ◌+◌, ◌&&◌, Bool, true, false, ℕ, List, [], ◌∷◌, length, Option, Some, None, refl, subst, arith, IfOk, IfSome, Result, Ok, Err}
use Rattle.std.specs.Prelude.{codes, flat_map, if◌then◌else◌, nat_le}
use Rattle.std.specs.List.{list_all}
use Rattle.std.specs.Str.{bytes_eq}
use Rattle.std.proofs.lemmas.Bool.Decides.{nat_tests}
use Rattle.mmtel_call_theorems.specs.NoInjection.Messages.{HasNoInjection, HaveNoInjection}
use Rattle.mmtel_call_theorems.specs.NoInjection.Emits.{Each}
use Rattle.mmtel_call_theorems.proofs.NoInjection.Bytes.{all_append, all_cons, both}
use Rattle.mmtel_call_theorems.proofs.NoInjection.Sending.{each_append}
use Rattle.mmtel_directory.specs.Directory.{account_words, addr_of, directory_by, directory_from, directory_of, extension_of, first_of, first_value, home_in, identities_of, is_country, is_host}
use Rattle.mmtel_directory.specs.Directory.{is_store_name, kind_and_rest, kind_of, line_of, line_of_kind, line_of_words, next_config_line, peer_of, readable, route_words, sip_in, may_follow, trust_of, ip_of}
use Rattle.mmtel_directory.specs.Lines.{and_then, is_comment, lines_by, lines_of, number_from}
use Rattle.mmtel_directory.specs.declared.directories.Directory.{Directory}
use Rattle.mmtel_lex.specs.Reading.{uri_of}
use Rattle.mmtel_message.specs.Headers.{is_value_byte}
use Rattle.mmtel_base.specs.Chain.{◌>>=◌}
use Rattle.mmtel_base.specs.Classes.{in_class}
use Rattle.mmtel_base.specs.Numbers.{plain_number}
use Rattle.mmtel_base.specs.Scanning.{split_once_at}
use Rattle.mmtel_base.specs.declared.classes.Class.TheVariants.{Host}
use Rattle.mmtel_base.proofs.Runs.{and_true}
use Rattle.mmtel_types.specs.declared.addrs.Addr.{Addr}
use Rattle.mmtel_run_theorems.specs.NoInjection.{HomesHaveNoInjection}

-- ---- hosts

host_byte : (b : ℕ) → in_class Host b ≡ true → is_value_byte b ≡ true
unfolding in_class
host_byte b e = grind (arith, nat_tests, e)

hosts : (s : List ℕ) → list_all (in_class Host) s ≡ true → HasNoInjection s
hosts [] e = refl
hosts (b ∷ s) e =
    let halves = and_true (in_class Host b) (list_all (in_class Host) s) e in
    both (is_value_byte b) (list_all is_value_byte s) (host_byte b halves.0) (hosts s halves.1)

host_no_injection : (s : List ℕ) → is_host s ≡ true → HasNoInjection s
host_no_injection s e = hosts s (and_true (nat_le 1 (length s) && nat_le (length s) 255) (list_all (in_class Host) s) e).1

-- ---- what is read, if it is

bind_any : {A B : Type 0} (P : B → Type 0) (o : Option A) (f : A → Option B) → ((x : A) → IfSome (f x) P) → IfSome (o >>= f) P
bind_any P None f each = tt
bind_any P (Some x) f each = each x

bind_from : {A B : Type 0} (P : B → Type 0) (o : Option A) (f : A → Option B) → IfSome o (λ x. IfSome (f x) P) → IfSome (o >>= f) P
bind_from P None f h = tt
bind_from P (Some x) f h = h

with_rest : {K M : Type 0} (R : K × M → Type 0) (o : Option K) (m : M) → IfSome o (λ k. R (k, m)) → IfSome (o >>= λ k. Some (k, m)) R
with_rest R None m h = tt
with_rest R (Some k) m h = h

if_some : {A : Type 0} (P : A → Type 0) (b : Bool) (x : A) → (b ≡ true → P x) → IfSome (if b then Some x else None) P
if_some P true x each = each refl
if_some P false x each = tt

either : {A : Type 0} (P : A → Type 0) (b : Bool) (x y : Option A) → IfSome x P → IfSome y P → IfSome (if b then x else y) P
either P true x y h g = h
either P false x y h g = g

keeps : {L : Type 0} (P : L → Type 0) (o : Option L) (f : L → Bool) → IfSome o P → IfSome (o >>= λ l. if f l then Some l else None) P
keeps P None f h = tt
keeps P (Some l) f h = if_some P (f l) l (λ e. h)

-- ---- lines: none but one of a home domain sets one

-- by its first word, where this comes after it
kind_no_injection : (word s : List ℕ) → IfSome (kind_of word) (λ k. IfSome (line_of_kind k s) (λ l. HaveNoInjection (home_in l)))
kind_no_injection word s =
    either _ (bytes_eq word (codes "sip")) _ _ (bind_any _ (addr_of s) _ (λ addr. refl))
    (either _ (bytes_eq word (codes "web")) _ _ (bind_any _ (addr_of s) _ (λ addr. refl))
    (either _ (bytes_eq word (codes "home")) _ _ (if_some _ (is_host s) _ (λ e. all_cons (list_all is_value_byte) s [] (host_no_injection s e) refl))
    (either _ (bytes_eq word (codes "peer")) _ _
    (bind_any _ (split_once_at 32 s) _ (λ n. bind_any _ (split_once_at 32 n.1) _ (λ a. bind_any _ (peer_of n.0) _ (λ peer. bind_any _ (addr_of a.0) _ (λ addr. bind_any _ (trust_of a.1) _ (λ trusted. refl))))))
    (either _ (bytes_eq word (codes "route")) _ _ (bind_any _ (route_words s) _ (λ words. refl))
    (either _ (bytes_eq word (codes "account")) _ _ (bind_any _ (account_words s) _ (λ words. bind_any _ (identities_of words.1) _ (λ uris. refl)))
    (either _ (bytes_eq word (codes "operator")) _ _ (bind_any _ (readable (uri_of s)) _ (λ uri. refl))
    (either _ (bytes_eq word (codes "factory")) _ _ (bind_any _ (readable (uri_of s)) _ (λ uri. refl))
    (either _ (bytes_eq word (codes "bound")) _ _ (bind_any _ (plain_number 16 s) _ (λ n. refl))
    (either _ (bytes_eq word (codes "country")) _ _ (if_some _ (is_country s) _ (λ e. refl))
    (either _ (bytes_eq word (codes "extension")) _ _ (bind_any _ (extension_of s) _ (λ which. refl))
    (either _ (bytes_eq word (codes "mixer")) _ _ (bind_any _ (split_once_at 32 s) _ (λ x. bind_any _ (ip_of x.0) _ (λ ip. bind_any _ (number_from 1 65535 x.1) _ (λ port. refl))))
    (either _ (bytes_eq word (codes "store")) _ _ (if_some _ (is_store_name s) _ (λ e. refl)) tt))))))))))))

words_no_injection : (s : List ℕ) → IfSome (line_of_words s) (λ l. HaveNoInjection (home_in l))
words_no_injection s =
    bind_from (λ l. HaveNoInjection (home_in l)) (kind_and_rest s) (λ x. line_of_kind x.0 x.1)
    (bind_any (λ x. IfSome (line_of_kind x.0 x.1) (λ l. HaveNoInjection (home_in l))) (split_once_at 32 s) _
    (λ words. with_rest (λ x. IfSome (line_of_kind x.0 x.1) (λ l. HaveNoInjection (home_in l))) (kind_of words.0) words.1 (kind_no_injection words.0 words.1)))

line_no_injection : (s : List ℕ) → IfSome (line_of s) (λ l. HaveNoInjection (home_in l))
unfolding line_of
line_no_injection s = either (λ l. HaveNoInjection (home_in l)) (is_comment s) _ (line_of_words s) refl (words_no_injection s)

-- ---- lists of lines

module _ {L : Type 0} (P : L → Type 0) (read : List L → List ℕ → Option L) (each : (said : List L) (text : List ℕ) → IfSome (read said text) P) where
  then_said : (number : ℕ) (o : Option L) (more : L → Result (List L) ℕ) → IfSome o P → ((l : L) → P l → IfOk (more l) (Each P)) → IfOk (and_then number o more) (Each P)
  then_said number None more h each = tt
  then_said number (Some l) more h each = each l h

  said_no_injection : (number : ℕ) (said : List L) (texts : List (List ℕ)) → Each P said → IfOk (lines_by read number said texts) (Each P)
  said_no_injection number said [] h = h
  said_no_injection number said (text ∷ texts) h =
      then_said number (read said text) (λ l. lines_by read (number + 1) (said ++ l ∷ []) texts) (each said text)
      (λ l clean. said_no_injection (number + 1) (said ++ l ∷ []) texts (each_append P said (l ∷ []) h (clean, tt)))

homes_no_injection : {L : Type 0} (part : L → List (List ℕ)) (said : List L) → Each (λ l. HaveNoInjection (part l)) said → HaveNoInjection (flat_map part said)
homes_no_injection part [] h = refl
homes_no_injection part (l ∷ said) h = all_append (list_all is_value_byte) (part l) (flat_map part said) h.0 (homes_no_injection part said h.1)

first_no_injection : (xs : List (List ℕ)) → HaveNoInjection xs → IfSome (first_of xs) HasNoInjection
first_no_injection [] h = tt
first_no_injection (x ∷ xs) h = (and_true (list_all is_value_byte x) (list_all (list_all is_value_byte) xs) h).0

-- ---- configurations

abbrev HomeHasNoInjection : Directory → Type 0
HomeHasNoInjection d = HasNoInjection d.home

by_no_injection : (last : ℕ) (sip : Option Addr) (home : Option (List ℕ)) (said : List _) → IfSome home HasNoInjection → IfOk (directory_by last sip home said) HomeHasNoInjection
by_no_injection last None home said h = tt
by_no_injection last (Some sip) None said h = tt
by_no_injection last (Some sip) (Some home) said h = h

from_no_injection : (last : ℕ) (r : Result (List _) ℕ) → IfOk r (λ said. Each (λ l. HaveNoInjection (home_in l)) said) → IfOk (directory_from last r) HomeHasNoInjection
from_no_injection last (Ok said) h = by_no_injection last (first_value sip_in said) (first_value home_in said) said (first_no_injection (flat_map home_in said) (homes_no_injection home_in said h))
from_no_injection last (Err number) h = tt

of_no_injection : (text : List ℕ) → IfOk (directory_of text) HomeHasNoInjection
unfolding directory_of
of_no_injection text =
    from_no_injection (length (lines_of text) + 1) (lines_by next_config_line 1 [] (lines_of text))
    (said_no_injection (λ l. HaveNoInjection (home_in l)) next_config_line (λ said text. keeps (λ l. HaveNoInjection (home_in l)) (line_of text) (may_follow said) (line_no_injection text)) 1 [] (lines_of text) tt)

pub homes_are_no_injection : HomesHaveNoInjection
homes_are_no_injection text d is = subst (λ (r : Result Directory ℕ). IfOk r HomeHasNoInjection) is (of_no_injection text)
