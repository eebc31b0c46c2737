-- The fields of rows and sheets are read exactly.
use Rattle.std.proofs.Common.{◌≡◌, ℕ, ◌<◌, ◌≤◌, ◌^◌, ◌==◌, ◌&&◌, Bool, true, false, cond, ltb, List, [], ◌∷◌, ◌++◌, length, take, drop, Option, Some, None, inl, inr, refl, sym}
use Rattle.std.proofs.Common.{ap, subst, ◌∙◌, append_assoc, length-append, arith}
use Rattle.std.specs.Prelude.{IfSome}
use Rattle.std.specs.Int.{Width, w16, w32, w64, from_be_bytes, to_be_bytes}
use Rattle.std.proofs.lemmas.Bool.{cases_Bool, ltb-false, le-ltb, eqb-true, eq-eqb}
use Rattle.std.proofs.lemmas.List.{take_at, drop_at, take-append-drop, length-take}
use Rattle.std.proofs.lemmas.Nat.{be_bytes_2, be_bytes_4, be_bytes_8, from_be_bytes-to_be_bytes_2, from_be_bytes-to_be_bytes_4, from_be_bytes-to_be_bytes_8}
use Rattle.mmtel_base.proofs.Runs.{and_true}
use Rattle.mmtel_types.specs.Moments.{last_moment}
use Rattle.mmtel_types.specs.declared.numbers.Account.{Account}
use Rattle.mmtel_types.specs.declared.numbers.CallNo.{CallNo}
use Rattle.mmtel_types.specs.declared.causes.Cause.{Cause}
use Rattle.mmtel_types.specs.declared.causes.Cause.TheVariants.{OutgoingBarred, IncomingBarred, AnonymousRejected, NotRegistered, NetworkBusy, NoReply, TooManyDiversions}
use Rattle.mmtel_types.specs.declared.causes.Cause.TheVariants.{Unreachable, Relayed, Cancelled, NoAccount, NoRoute, BadScheme, Hops, Extension, Critical, Merged, Full}
use Rattle.mmtel_types.specs.declared.causes.Cause.TheVariants.{Ended, Unacknowledged}
use Rattle.mmtel_charging.specs.declared.rows.Kind.{Kind}
use Rattle.mmtel_charging.specs.declared.rows.Kind.TheVariants.{Origin, Terminating, Diversion, Participant}
use Rattle.mmtel_charging.specs.declared.rows.Row.{Row}
use Rattle.mmtel_journal.specs.Payloads.{IsSheet, IsRow, kind_number, cause_numbers, cause_bytes, answered_bytes, begin_bytes, row_bytes, rows_bytes, sheet_bytes, sheets_bytes}
use Rattle.mmtel_journal.specs.Fields.{byte_at, sized_at, moment_of, moment_at, kind_by, known_kind, kind_at, cause_by, known_cause, cause_at, known_answer_time, answered_at, account_at}
use Rattle.mmtel_journal.specs.Fields.{call_at, pair_at, head_at, tail_at, row_from, row_at, text_at, sheet_at, then_read}
use Rattle.mmtel_journal.proofs.ReadRecords.{IsBytes, IsBytes-take, guard_some}
use Rattle.mmtel_journal.proofs.Readers.{Reads, then_is, some_same, rest_bytes, pair_reads, made_reads, turned_reads, other_reads, text_reads, spelled_all}

-- a test that a value passes
let_through : {A : Type 0} (b : Bool) (x y : A) → cond b (Some x) None ≡ Some y → (b ≡ true) × (x ≡ y)
let_through true x y e = (refl, cc)
let_through false x y e = absurd cc

byte_takes : (bytes : List ℕ) (found : ℕ × List ℕ) → IsBytes bytes → byte_at bytes ≡ Some found → (found.0 < 256) × (bytes ≡ (found.0 ∷ []) ++ found.1)
byte_takes [] found small e = absurd cc
byte_takes (b ∷ bs) found small e =
    let same = some_same (b, bs) found e in
    subst (λ (f : ℕ × List ℕ). (f.0 < 256) × (b ∷ bs ≡ (f.0 ∷ []) ++ f.1)) same (small 0, refl)

pub byte_reads : Reads (λ n. n < 256) (λ n. n ∷ []) byte_at
byte_reads = record { takes = byte_takes; again = λ n rest lt. refl }

sized_reads : (w : Width) (size : ℕ) (P : ℕ → Type 0) → ((n : ℕ) → length (to_be_bytes w n) ≡ size)
    → ((bs : List ℕ) → length bs ≡ size → IsBytes bs → P (from_be_bytes w bs))
    → ((bs : List ℕ) → length bs ≡ size → IsBytes bs → to_be_bytes w (from_be_bytes w bs) ≡ bs)
    → ((n : ℕ) → P n → from_be_bytes w (to_be_bytes w n) ≡ n) → Reads P (to_be_bytes w) (sized_at w size)
sized_reads w size P len fits back same = record {
  takes = λ bytes found small e.
      let g = guard_some (ltb (length bytes) size) (from_be_bytes w (take size bytes), drop size bytes) found e in
      let long : size ≤ length bytes = ltb-false _ _ g.0 in
      let its : length (take size bytes) ≡ size = omega (arith, length-take size bytes, long) in
      let front = IsBytes-take size bytes small in
      let whole : bytes ≡ to_be_bytes w (from_be_bytes w (take size bytes)) ++ drop size bytes =
      sym (take-append-drop size bytes) ∙ ap (λ (l : List ℕ). l ++ drop size bytes) (sym (back (take size bytes) its front)) in
      subst (λ (f : ℕ × List ℕ). P f.0 × (bytes ≡ to_be_bytes w f.0 ++ f.1)) g.1 (fits (take size bytes) its front, whole);
  again = λ n rest p.
      let long : ltb (length (to_be_bytes w n ++ rest)) size ≡ false = le-ltb _ _ (omega (arith, len n, length-append (to_be_bytes w n) rest)) in
      rw (long, take_at (to_be_bytes w n) rest size (len n), drop_at (to_be_bytes w n) rest size (len n), same n p) refl;
}

pub reads_16 : Reads (λ n. n < 2 ^ 16) (to_be_bytes w16) (sized_at w16 2)
reads_16 =
    sized_reads w16 2 (λ n. n < 2 ^ 16) (λ n. refl) (λ bs len small. omega (arith, small 0, small 1)) (λ bs len small. be_bytes_2 bs _ len small refl) from_be_bytes-to_be_bytes_2

pub reads_32 : Reads (λ n. n < 2 ^ 32) (to_be_bytes w32) (sized_at w32 4)
reads_32 =
    sized_reads w32 4 (λ n. n < 2 ^ 32) (λ n. refl) (λ bs len small. omega (arith, small 0, small 1, small 2, small 3))
    (λ bs len small. be_bytes_4 bs _ len small refl) from_be_bytes-to_be_bytes_4

pub reads_64 : Reads (λ n. n < 2 ^ 64) (to_be_bytes w64) (sized_at w64 8)
reads_64 =
    sized_reads w64 8 (λ n. n < 2 ^ 64) (λ n. refl) (λ bs len small. omega (arith, small 0, small 1, small 2, small 3, small 4, small 5, small 6, small 7))
    (λ bs len small. be_bytes_8 bs _ len small refl)
    from_be_bytes-to_be_bytes_8

moment_made : (x y : ℕ) → x < 2 ^ 64 → moment_of x ≡ Some y → (y ≤ last_moment) × (x ≡ y)
moment_made x y lt e =
    let g = guard_some (ltb last_moment x) x y e in
    (omega (arith, ltb-false last_moment x g.0, g.1), g.1)

moment_given : (y : ℕ) → y ≤ last_moment → (y < 2 ^ 64) × (moment_of y ≡ Some y)
moment_given y le = (omega (arith, le), rw (le-ltb last_moment y le) refl)

pub moment_reads : Reads (λ n. n ≤ last_moment) (to_be_bytes w64) moment_at
moment_reads = made_reads (λ n. n < 2 ^ 64) (λ n. n ≤ last_moment) (to_be_bytes w64) (sized_at w64 8) moment_of (λ n. n) moment_made moment_given reads_64

kind_made : (x : ℕ) (y : Kind) → x < 256 → known_kind x ≡ Some y → Unit {0} × (x ≡ kind_number y)
kind_made x y lt e =
    let g = let_through (kind_number (kind_by x) == x) (kind_by x) y e in
    (tt, sym (eqb-true _ _ g.0) ∙ ap kind_number g.1)

kind_given : (y : Kind) → Unit {0} → (kind_number y < 256) × (known_kind (kind_number y) ≡ Some y)
kind_given Origin q = (omega arith, refl)
kind_given Terminating q = (omega arith, refl)
kind_given Diversion q = (omega arith, refl)
kind_given Participant q = (omega arith, refl)

pub kind_reads : Reads (λ (k : Kind). Unit {0}) (λ k. kind_number k ∷ []) kind_at
kind_reads = made_reads (λ n. n < 256) (λ (k : Kind). Unit {0}) (λ n. n ∷ []) byte_at known_kind kind_number kind_made kind_given byte_reads

same_code : (n : ℕ) → (n == n) ≡ true
same_code n = eq-eqb n n refl

cause_made : (x : ℕ × ℕ) (y : Cause) → (x.0 < 256) × (x.1 < 2 ^ 16) → known_cause x.0 x.1 ≡ Some y → ((cause_numbers y).1 < 2 ^ 16) × (x ≡ cause_numbers y)
cause_made x y lt e =
    let cause = cause_by x.0 x.1 in
    let g = let_through (((cause_numbers cause).0 == x.0) && ((cause_numbers cause).1 == x.1)) cause y e in
    let both = and_true ((cause_numbers cause).0 == x.0) ((cause_numbers cause).1 == x.1) g.0 in
    let place : (cause_numbers cause).0 ≡ x.0 = eqb-true _ _ both.0 in
    let code : (cause_numbers cause).1 ≡ x.1 = eqb-true _ _ both.1 in
    let whole : x ≡ cause_numbers cause = λ i. (sym place i, sym code i) in
    let its : x ≡ cause_numbers y = whole ∙ ap cause_numbers g.1 in
    (subst (λ (n : ℕ × ℕ). n.1 < 2 ^ 16) its lt.1, its)

cause_given : (y : Cause) → (cause_numbers y).1 < 2 ^ 16 → (((cause_numbers y).0 < 256) × ((cause_numbers y).1 < 2 ^ 16)) × (known_cause (cause_numbers y).0 (cause_numbers y).1 ≡ Some y)
cause_given OutgoingBarred q = ((omega arith, q), refl)
cause_given IncomingBarred q = ((omega arith, q), refl)
cause_given AnonymousRejected q = ((omega arith, q), refl)
cause_given NotRegistered q = ((omega arith, q), refl)
cause_given NetworkBusy q = ((omega arith, q), refl)
cause_given NoReply q = ((omega arith, q), refl)
cause_given (TooManyDiversions true) q = ((omega arith, q), refl)
cause_given (TooManyDiversions false) q = ((omega arith, q), refl)
cause_given (Unreachable code) q = ((omega arith, q), rw (same_code code) refl)
cause_given (Relayed code) q = ((omega arith, q), rw (same_code code) refl)
cause_given Cancelled q = ((omega arith, q), refl)
cause_given NoAccount q = ((omega arith, q), refl)
cause_given NoRoute q = ((omega arith, q), refl)
cause_given BadScheme q = ((omega arith, q), refl)
cause_given Hops q = ((omega arith, q), refl)
cause_given Extension q = ((omega arith, q), refl)
cause_given Critical q = ((omega arith, q), refl)
cause_given Merged q = ((omega arith, q), refl)
cause_given Full q = ((omega arith, q), refl)
cause_given Ended q = ((omega arith, q), refl)
cause_given Unacknowledged q = ((omega arith, q), refl)

pub cause_reads : Reads (λ c. (cause_numbers c).1 < 2 ^ 16) cause_bytes cause_at
cause_reads =
    made_reads (λ (n : ℕ × ℕ). (n.0 < 256) × (n.1 < 2 ^ 16)) (λ c. (cause_numbers c).1 < 2 ^ 16) (λ n. (n.0 ∷ []) ++ to_be_bytes w16 n.1) (pair_at byte_at (sized_at w16 2))
    (λ n. known_cause n.0 n.1) cause_numbers
    cause_made cause_given (pair_reads (λ n. n < 256) (λ n. n < 2 ^ 16) (λ n. n ∷ []) (to_be_bytes w16) byte_at (sized_at w16 2) byte_reads reads_16)

-- the flag and the moment of the answer time
abbrev flags : Option ℕ → ℕ × ℕ
flags None = (0, 0)
flags (Some moment) = (1, moment)

abbrev IsAnswerTime : Option ℕ → Type 0
IsAnswerTime answer = IfSome answer (λ moment. moment ≤ last_moment)

pair_same : (x : ℕ × ℕ) (a b : ℕ) → x.0 ≡ a → x.1 ≡ b → x ≡ (a, b)
pair_same x a b first second = λ i. (first i, second i)

answer_time_made : (x : ℕ × ℕ) (y : Option ℕ) → (x.0 < 256) × (x.1 ≤ last_moment) → known_answer_time x.0 x.1 ≡ Some y → IsAnswerTime y × (x ≡ flags y)
answer_time_made x y p e =
    elim (cases_Bool (x.0 == 1)) [
      | inl one ↦
          let same : Some x.1 ≡ y = some_same (Some x.1) y (rw one at e) in
          subst (λ (o : Option ℕ). IsAnswerTime o × (x ≡ flags o)) same (p.1, pair_same x 1 x.1 (eqb-true x.0 1 one) refl)
      | inr other ↦
          let g = let_through ((x.0 == 0) && (x.1 == 0)) None y (rw other at e) in
          let both = and_true (x.0 == 0) (x.1 == 0) g.0 in
          subst (λ (o : Option ℕ). IsAnswerTime o × (x ≡ flags o)) g.1 (tt, pair_same x 0 0 (eqb-true x.0 0 both.0) (eqb-true x.1 0 both.1))
    ]

answer_time_given : (y : Option ℕ) → IsAnswerTime y → (((flags y).0 < 256) × ((flags y).1 ≤ last_moment)) × (known_answer_time (flags y).0 (flags y).1 ≡ Some y)
answer_time_given None q = ((omega arith, omega arith), refl)
answer_time_given (Some moment) q = ((omega arith, q), refl)

answer_time_encoded : (y : Option ℕ) → ((flags y).0 ∷ []) ++ to_be_bytes w64 (flags y).1 ≡ answered_bytes y
answer_time_encoded None = refl
answer_time_encoded (Some moment) = refl

pub answered_reads : Reads IsAnswerTime answered_bytes answered_at
answered_reads =
    other_reads IsAnswerTime IsAnswerTime (λ y. ((flags y).0 ∷ []) ++ to_be_bytes w64 (flags y).1) answered_bytes answered_at (λ y q. q) (λ y q. q) answer_time_encoded
    (made_reads (λ (n : ℕ × ℕ). (n.0 < 256) × (n.1 ≤ last_moment)) IsAnswerTime (λ n. (n.0 ∷ []) ++ to_be_bytes w64 n.1) (pair_at byte_at moment_at) (λ n. known_answer_time n.0 n.1) flags
    answer_time_made answer_time_given (pair_reads (λ n. n < 256) (λ n. n ≤ last_moment) (λ n. n ∷ []) (to_be_bytes w64) byte_at moment_at byte_reads moment_reads))

pub account_reads : Reads (λ (a : Account). a.0 < 2 ^ 32) (λ a. to_be_bytes w32 a.0) account_at
account_reads =
    turned_reads (λ n. n < 2 ^ 32) (λ (a : Account). a.0 < 2 ^ 32) (to_be_bytes w32) (sized_at w32 4) (λ n. record { 0 = n }) (λ a. a.0) (λ n lt. (lt, refl))
    (λ a lt. (lt, refl)) reads_32

pub call_reads : Reads (λ (c : CallNo). c.0 < 2 ^ 64) (λ c. to_be_bytes w64 c.0) call_at
call_reads =
    turned_reads (λ n. n < 2 ^ 64) (λ (c : CallNo). c.0 < 2 ^ 64) (to_be_bytes w64) (sized_at w64 8) (λ n. record { 0 = n }) (λ c. c.0) (λ n lt. (lt, refl))
    (λ c lt. (lt, refl)) reads_64

abbrev Part : Type 0
Part = Kind × Account

abbrev Begin : Type 0
Begin = CallNo × ℕ

abbrev Head : Type 0
Head = (Kind × Account) × (CallNo × ℕ)

abbrev End : Type 0
End = ℕ × ℕ

abbrev Tail : Type 0
Tail = (ℕ × ℕ) × Cause

abbrev Parts : Type 0
Parts = ((Kind × Account) × (CallNo × ℕ)) × (Option ℕ × ((ℕ × ℕ) × Cause))

abbrev IsPart : Part → Type 0
IsPart p = Unit {0} × (p.1.0 < 2 ^ 32)

abbrev IsBegin : Begin → Type 0
IsBegin b = (b.0.0 < 2 ^ 64) × (b.1 ≤ last_moment)

abbrev IsEnd : End → Type 0
IsEnd e = (e.0 ≤ last_moment) × (e.1 < 2 ^ 32)

abbrev IsTail : Tail → Type 0
IsTail t = IsEnd t.0 × ((cause_numbers t.1).1 < 2 ^ 16)

abbrev IsParts : Parts → Type 0
IsParts p = (IsPart p.0.0 × IsBegin p.0.1) × (IsAnswerTime p.1.0 × IsTail p.1.1)

abbrev part_spelled : Part → List ℕ
part_spelled p = (kind_number p.0 ∷ []) ++ to_be_bytes w32 p.1.0

abbrev begin_spelled : Begin → List ℕ
begin_spelled b = to_be_bytes w64 b.0.0 ++ to_be_bytes w64 b.1

abbrev end_spelled : End → List ℕ
end_spelled e = to_be_bytes w64 e.0 ++ to_be_bytes w32 e.1

abbrev head_spelled : Head → List ℕ
head_spelled h = part_spelled h.0 ++ begin_spelled h.1

abbrev tail_spelled : Tail → List ℕ
tail_spelled t = end_spelled t.0 ++ cause_bytes t.1

abbrev middle_spelled : Option ℕ × Tail → List ℕ
middle_spelled m = answered_bytes m.0 ++ tail_spelled m.1

abbrev parts_spelled : Parts → List ℕ
parts_spelled p = head_spelled p.0 ++ middle_spelled p.1

part_reads : Reads IsPart part_spelled (pair_at kind_at account_at)
part_reads = pair_reads (λ k. Unit {0}) (λ a. a.0 < 2 ^ 32) (λ k. kind_number k ∷ []) (λ a. to_be_bytes w32 a.0) kind_at account_at kind_reads account_reads

begin_reads : Reads IsBegin begin_spelled (pair_at call_at moment_at)
begin_reads = pair_reads (λ c. c.0 < 2 ^ 64) (λ n. n ≤ last_moment) (λ c. to_be_bytes w64 c.0) (to_be_bytes w64) call_at moment_at call_reads moment_reads

end_reads : Reads IsEnd end_spelled (pair_at moment_at (sized_at w32 4))
end_reads = pair_reads (λ n. n ≤ last_moment) (λ n. n < 2 ^ 32) (to_be_bytes w64) (to_be_bytes w32) moment_at (sized_at w32 4) moment_reads reads_32

tail_reads : Reads IsTail tail_spelled tail_at
tail_reads = pair_reads IsEnd (λ c. (cause_numbers c).1 < 2 ^ 16) end_spelled cause_bytes (pair_at moment_at (sized_at w32 4)) cause_at end_reads cause_reads

parts_reads : Reads IsParts parts_spelled (pair_at head_at (pair_at answered_at tail_at))
parts_reads =
    pair_reads (λ (h : Head). IsPart h.0 × IsBegin h.1) (λ (m : Option ℕ × Tail). IsAnswerTime m.0 × IsTail m.1) head_spelled middle_spelled head_at (pair_at answered_at tail_at)
    (pair_reads IsPart IsBegin part_spelled begin_spelled (pair_at kind_at account_at) (pair_at call_at moment_at) part_reads begin_reads)
    (pair_reads IsAnswerTime IsTail answered_bytes tail_spelled answered_at tail_at answered_reads tail_reads)

abbrev parts_of : Row → Parts
parts_of row = (((row.kind, row.account), (row.call, row.began)), (row.answered, ((row.ended, row.holds), row.cause)))

row_made : (p : Parts) → IsParts p → IsRow (row_from p) × (p ≡ parts_of (row_from p))
row_made p is = (
  record {
    account = is.0.0.1;
    call = is.0.1.0;
    began = is.0.1.1;
    answered = is.1.0;
    ended = is.1.1.0.0;
    holds = is.1.1.0.1;
    cause = is.1.1.1;
  },
  refl,
)

row_given : (row : Row) → IsRow row → IsParts (parts_of row) × (row_from (parts_of row) ≡ row)
row_given row is = ((((tt, is.account), (is.call, is.began)), (is.answered, ((is.ended, is.holds), is.cause))), refl)

joined : (a b c d e : List ℕ) → a ++ (b ++ ((c ++ d) ++ e)) ≡ a ++ b ++ c ++ d ++ e
joined a b c d e =
    ap (λ (l : List ℕ). a ++ l) (ap (λ (l : List ℕ). b ++ l) (append_assoc c d e) ∙ sym (append_assoc b c (d ++ e)) ∙ sym (append_assoc (b ++ c) d e))
    ∙ sym (append_assoc a (b ++ c ++ d) e) ∙ ap (λ (l : List ℕ). l ++ e) (sym (append_assoc a (b ++ c) d) ∙ ap (λ (l : List ℕ). l ++ d) (sym (append_assoc a b c)))

row_spelled : (row : Row) → parts_spelled (parts_of row) ≡ row_bytes row
row_spelled row = joined (begin_bytes row) (answered_bytes row.answered) (to_be_bytes w64 row.ended) (to_be_bytes w32 row.holds) (cause_bytes row.cause)

pub row_reads : Reads IsRow row_bytes row_at
row_reads =
    other_reads IsRow IsRow (λ row. parts_spelled (parts_of row)) row_bytes row_at (λ row is. is) (λ row is. is) row_spelled
    (turned_reads IsParts IsRow parts_spelled (pair_at head_at (pair_at answered_at tail_at)) row_from parts_of row_made row_given parts_reads)

-- a text after its length
abbrev pub long_spelled : List ℕ → List ℕ
long_spelled text = to_be_bytes w64 (length text) ++ text

pub long_reads : Reads (λ (text : List ℕ). length text < 2 ^ 64) long_spelled (λ bytes. then_read (sized_at w64 8 bytes) text_at)
long_reads = record {
  takes = λ bytes found small e.
      let a = then_is (sized_at w64 8 bytes) text_at found e in
      let n = a.read in
      let front = reads_64.takes bytes n small a.is in
      let back = (text_reads n.0).takes n.1 found (rest_bytes bytes (to_be_bytes w64 n.0) n.1 front.1 small) a.then in
      let named : bytes ≡ to_be_bytes w64 (length found.0) ++ (found.0 ++ found.1) =
      front.1 ∙ ap (λ (l : List ℕ). to_be_bytes w64 n.0 ++ l) back.1 ∙ ap (λ (k : ℕ). to_be_bytes w64 k ++ (found.0 ++ found.1)) (sym back.0) in
      (omega (arith, front.0, back.0), named ∙ sym (append_assoc (to_be_bytes w64 (length found.0)) found.0 found.1));
  again = λ text rest lt.
      ap (λ (l : List ℕ). then_read (sized_at w64 8 l) text_at) (append_assoc (to_be_bytes w64 (length text)) text rest)
      ∙ ap (λ r. then_read r text_at) (reads_64.again (length text) (text ++ rest) lt)
      ∙ (text_reads (length text)).again text rest refl;
}

sheet_spelled : (sheet : Account × List ℕ) → to_be_bytes w32 sheet.0.0 ++ long_spelled sheet.1 ≡ sheet_bytes sheet
sheet_spelled sheet = sym (append_assoc (to_be_bytes w32 sheet.0.0) (to_be_bytes w64 (length sheet.1)) sheet.1)

pub sheet_reads : Reads IsSheet sheet_bytes sheet_at
sheet_reads =
    other_reads IsSheet IsSheet (λ sheet. to_be_bytes w32 sheet.0.0 ++ long_spelled sheet.1) sheet_bytes sheet_at (λ s is. is) (λ s is. is) sheet_spelled
    (pair_reads (λ a. a.0 < 2 ^ 32) (λ text. length text < 2 ^ 64) (λ a. to_be_bytes w32 a.0) long_spelled account_at
    (λ bytes. then_read (sized_at w64 8 bytes) text_at) account_reads long_reads)

pub all_rows : (rows : List Row) → spelled_all row_bytes rows ≡ rows_bytes rows
all_rows [] = refl
all_rows (row ∷ rows) = ap (λ (l : List ℕ). row_bytes row ++ l) (all_rows rows)

pub all_sheets : (sheets : List (Account × List ℕ)) → spelled_all sheet_bytes sheets ≡ sheets_bytes sheets
all_sheets [] = refl
all_sheets (sheet ∷ sheets) = ap (λ (l : List ℕ). sheet_bytes sheet ++ l) (all_sheets sheets)
