-- What was read is clean.
use Rattle.std.proofs.Common.{◌≡◌, ◌==◌, true, ℕ, List, [], ◌∷◌, length, Option, Some, None, refl, subst, arith, nat_lt}
use Rattle.std.specs.Prelude.{codes, cond}
use Rattle.std.specs.List.{list_all}
use Rattle.std.specs.Str.{bytes_eq}
use Rattle.std.proofs.lemmas.Bool.Decides.{nat_tests}
use Rattle.mmtel_base.specs.Chain.{◌>>=◌}
use Rattle.mmtel_base.specs.Classes.{IsAll, in_class}
use Rattle.mmtel_base.specs.Numbers.{number_of}
use Rattle.mmtel_base.specs.Scanning.{after_byte, after_text, split_once_at}
use Rattle.mmtel_base.specs.declared.classes.Class.TheVariants.{Token}
use Rattle.mmtel_base.proofs.ChainTheorems.{bind_some, some_is, unless_some, where_some}
use Rattle.mmtel_base.proofs.Runs.{and_true}
use Rattle.mmtel_compose.specs.ReceivedMessages.{phrase_in}
use Rattle.mmtel_lex.specs.Grammar.{uri_text}
use Rattle.mmtel_lex.specs.Reading.{token_at}
use Rattle.mmtel_lex.proofs.UriTheorems.{uri_takes}
use Rattle.mmtel_lex.proofs.Visible.{printed_visible, uri_visible}
use Rattle.mmtel_message.specs.Canonical.{AreCanonicalLines}
use Rattle.mmtel_message.specs.Headers.{is_value_byte}
use Rattle.mmtel_message.specs.Message.{Line}
use Rattle.mmtel_message.specs.Starts.{request_at, request_of, start_at, start_from, status_at, status_of}
use Rattle.mmtel_message.specs.Texts.{start_text}
use Rattle.mmtel_message.specs.declared.messages.Start.{Start}
use Rattle.mmtel_message.specs.declared.messages.Start.TheVariants.{Request, Status}
use Rattle.mmtel_call_theorems.specs.NoInjection.Messages.{HasNoInjection, LinesHaveNoInjection, line_has_no_injection}
use Rattle.mmtel_call_theorems.specs.NoInjection.ReadMessages.{ReadingHasNoInjection}
use Rattle.mmtel_call_theorems.proofs.NoInjection.Bytes.{both, line_no_injection}
use Rattle.mmtel_call_theorems.proofs.NoInjection.ReceivedMessages.{visible_no_injection}

token_byte : (b : ℕ) → in_class Token b ≡ true → is_value_byte b ≡ true
unfolding in_class
token_byte b e = grind (arith, nat_tests, e)

token_no_injection : (s : List ℕ) → IsAll Token s → HasNoInjection s
token_no_injection [] e = refl
token_no_injection (b ∷ s) e =
    let halves = and_true (in_class Token b) (list_all (in_class Token) s) e in
    both (is_value_byte b) (list_all is_value_byte s) (token_byte b halves.0) (token_no_injection s halves.1)

lines_read : (ls : List Line) → AreCanonicalLines ls → LinesHaveNoInjection ls
lines_read [] e = refl
lines_read (l ∷ ls) e = both (line_has_no_injection l) (list_all line_has_no_injection ls) (line_no_injection l.0 l.1 (token_no_injection l.0 e.0.name_in.each) e.0.value_in) (lines_read ls e.1)

-- ---- phrases

abbrev PhraseHasNoInjection : Start → Type 0
PhraseHasNoInjection s = HasNoInjection (phrase_in s)

status_phrase : (t : List ℕ) (s : Start) → status_at t ≡ Some s → PhraseHasNoInjection s
unfolding status_at
status_phrase t s e =
    let p = bind_some (split_once_at 32 t) (λ p. (cond (length p.0 == 3) (number_of 699 p.0) None) >>= λ n. status_of p.1 n) s e in
    let n = bind_some (cond (length p.0.0 == 3) (number_of 699 p.0.0) None) (λ n. status_of p.0.1 n) s p.2 in
    let g = unless_some (nat_lt n.0 100) (cond (list_all is_value_byte p.0.1) (Some (Status n.0 p.0.1)) None) s n.2 in
    let v = where_some (list_all is_value_byte p.0.1) (Some (Status n.0 p.0.1)) s g.1 in
    subst PhraseHasNoInjection (some_is (Status n.0 p.0.1) s v.1) v.0

request_phrase : (line : List ℕ) (s : Start) → request_at line ≡ Some s → PhraseHasNoInjection s
unfolding request_at
request_phrase line s e =
    let m = bind_some (token_at line) (λ m. after_byte 32 m.1 >>= λ u. split_once_at 32 u >>= λ p. request_of m.0 p.0 p.1) s e in
    let u = bind_some (after_byte 32 m.0.1) (λ u. split_once_at 32 u >>= λ p. request_of m.0.0 p.0 p.1) s m.2 in
    let p = bind_some (split_once_at 32 u.0) (λ p. request_of m.0.0 p.0 p.1) s u.2 in
    let g = unless_some (length p.0.0 == 0) (cond (bytes_eq p.0.1 (codes "SIP/2.0")) (Some (Request m.0.0 p.0.0)) None) s p.2 in
    let v = where_some (bytes_eq p.0.1 (codes "SIP/2.0")) (Some (Request m.0.0 p.0.0)) s g.1 in
    subst PhraseHasNoInjection (some_is (Request m.0.0 p.0.0) s v.1) refl

start_phrase : (line : List ℕ) (s : Start) → start_at line ≡ Some s → PhraseHasNoInjection s
unfolding start_at
start_phrase line s e = by (after_text (codes "SIP/2.0 ") line) e
  where
    by : (o : Option (List ℕ)) → start_from o line ≡ Some s → PhraseHasNoInjection s
    by None f = request_phrase line s f
    by (Some t) f = status_phrase t s f

pub read_no_injection : ReadingHasNoInjection
read_no_injection = record {
  lines = λ m is. lines_read m.lines is.lines_in;
  phrase = λ m is. start_phrase (start_text m.start) m.start is.start_in.reads_back;
  uri = λ text u e. visible_no_injection text (uri_visible text u (uri_takes text u e));
  printed = λ text u e. visible_no_injection (uri_text u) (printed_visible text u (uri_takes text u e));
}
