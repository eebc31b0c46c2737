-- No field of a row needs quotes, so the record that the writer writes is the row's line.
use Rattle.std.proofs.Common.{◌≡◌, ℕ, ◌<◌, ◌≤◌, ◌^◌, ◌+◌, ◌++◌, List, [], ◌∷◌, length, false, refl, ap, sym, ◌∙◌, arith, append_assoc, append-nil, decimal, codes, take, get_or, Option, Some, None, IfSome}
use Rattle.std.proofs.lemmas.Fmt.{decimal_is_IsNumeral}
use Rattle.std.proofs.lemmas.Bool.Decides.{nat_tests}
use Rattle.std.proofs.lemmas.List.{take_more}
use Rattle.std.specs.List.{list_any, flat_map, join_with_byte}
use Rattle.std.specs.Char.{digit_value}
use Rattle.std.specs.Str.Parse.{AllDigits}
use Rattle.csv.specs.Writing.{default_writer, row_text, needs_byte, field_text, fields_text, is_blank}
use Rattle.mmtel_types.specs.Causes as causes
use Rattle.mmtel_types.specs.declared.causes.Cause.{Cause}
use Rattle.mmtel_types.specs.declared.causes.Cause.TheVariants.{OutgoingBarred, IncomingBarred, AnonymousRejected, NotRegistered, NetworkBusy, NoReply, TooManyDiversions, Unreachable}
use Rattle.mmtel_types.specs.declared.causes.Cause.TheVariants.{Relayed, Cancelled, NoAccount, NoRoute, BadScheme, Hops, Extension, Critical, Merged, Full, Ended, Unacknowledged}
use Rattle.mmtel_charging.specs.declared.rows.Kind.{Kind}
use Rattle.mmtel_charging.specs.declared.rows.Kind.TheVariants.{Origin, Terminating, Diversion, Participant}
use Rattle.mmtel_charging.specs.declared.rows.Row.{Row}
use Rattle.mmtel_charging.specs.Writing.{InRange}
use Rattle.mmtel_charging.specs.Rows.{columns, fields_of, line_of, moment_field, word_of}

-- no byte of the field needs quotes
abbrev pub IsPlain : List ℕ → Type 0
IsPlain field = list_any (needs_byte default_writer) field ≡ false

abbrev pub ArePlain : List (List ℕ) → Type 0
ArePlain [] = Unit {0}
ArePlain (field ∷ rest) = IsPlain field × ArePlain rest

digit-byte : (c : ℕ) → digit_value c < 10 → (48 ≤ c) × (c ≤ 57)
digit-byte c h = (grind (arith, nat_tests), grind (arith, nat_tests))

byte-plain : (c : ℕ) → 48 ≤ c → c ≤ 57 → needs_byte default_writer c ≡ false
byte-plain c a b = grind (arith, nat_tests)

digits-plain : (ds : List ℕ) → AllDigits 10 ds → IsPlain ds
digits-plain [] h = refl
digits-plain (c ∷ ds) h =
    let b = digit-byte c h.0 in
    rw (byte-plain c b.0 b.1) (digits-plain ds h.1)

pub decimal-plain : (n : ℕ) → n < 2 ^ 64 → IsPlain (decimal n)
decimal-plain n h = let d = decimal_is_IsNumeral n h in digits-plain (decimal n) d.0.1

moment-plain : (m : Option ℕ) → IfSome m (λ moment. moment < 2 ^ 64) → IsPlain (moment_field m)
moment-plain None h = refl
moment-plain (Some moment) h = decimal-plain moment h

kind-plain : (k : Kind) → IsPlain (word_of k)
kind-plain Origin = refl
kind-plain Terminating = refl
kind-plain Diversion = refl
kind-plain Participant = refl

cause-plain : (c : Cause) → IsPlain (causes.word_of c)
cause-plain OutgoingBarred = refl
cause-plain IncomingBarred = refl
cause-plain AnonymousRejected = refl
cause-plain NotRegistered = refl
cause-plain NetworkBusy = refl
cause-plain NoReply = refl
cause-plain (TooManyDiversions busy) = refl
cause-plain (Unreachable code) = refl
cause-plain (Relayed code) = refl
cause-plain Cancelled = refl
cause-plain NoAccount = refl
cause-plain NoRoute = refl
cause-plain BadScheme = refl
cause-plain Hops = refl
cause-plain Extension = refl
cause-plain Critical = refl
cause-plain Merged = refl
cause-plain Full = refl
cause-plain Ended = refl
cause-plain Unacknowledged = refl

-- plain fields are written unchanged, with a comma between each two
fields-line : (x : List ℕ) (rest : List (List ℕ)) → ArePlain (x ∷ rest)
    → field_text default_writer x ++ fields_text default_writer rest ≡ join_with_byte 44 (x ∷ rest)
unfolding fields_text
fields-line x [] h = rw h.0 (append-nil x)
fields-line x (y ∷ ys) h = rw (h.0, fields-line y ys h.1) refl

record-line : (x y : List ℕ) (ys : List (List ℕ)) → ArePlain (x ∷ y ∷ ys) → row_text default_writer (x ∷ y ∷ ys) ≡ line_of (x ∷ y ∷ ys)
unfolding is_blank
record-line x y ys h = ap (λ t. t ++ codes "\n") (fields-line x (y ∷ ys) h)

pub row-line : (row : Row) → InRange row → row_text default_writer (fields_of row) ≡ line_of (fields_of row)
row-line row h = record-line _ _ _ (
  kind-plain row.kind,
  (
    decimal-plain _ h.account,
    (
      decimal-plain _ h.call,
      (
        decimal-plain _ h.began,
        (
          moment-plain _ h.answered,
          (decimal-plain _ h.ended, (decimal-plain _ h.holds, (cause-plain row.cause, (decimal-plain _ h.status, tt)))),
        ),
      ),
    ),
  ),
)

pub header-line : row_text default_writer columns ≡ codes "kind,account,call,began,answered,ended,holds,cause,status\n"
unfolding is_blank fields_text
header-line = refl

flat-last : (f : Row → List ℕ) (xs : List Row) (x : Row) → flat_map f (xs ++ x ∷ []) ≡ flat_map f xs ++ f x
flat-last f [] x = append-nil (f x)
flat-last f (y ∷ xs) x = rw (flat-last f xs x) (sym (append_assoc (f y) (flat_map f xs) (f x)))

-- one more row
pub rows-step : (f : Row → List ℕ) (xs : List Row) (i : ℕ) (x : Row) (head before after : List ℕ) → i < length xs → x ≡ get_or xs i x
    → before ≡ head ++ flat_map f (take i xs) → after ≡ before ++ f x → after ≡ head ++ flat_map f (take (i + 1) xs)
rows-step f xs i x head before after h item e g =
    let more : take (i + 1) xs ≡ take i xs ++ x ∷ [] = take_more xs i x h ∙ ap (λ y. take i xs ++ y ∷ []) (sym item) in
    rw (g, e, more, flat-last f (take i xs) x) (append_assoc head (flat_map f (take i xs)) (f x))
