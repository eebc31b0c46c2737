-- One reading of each of the web connections that wait: those that were read come after the others, and none of them is late.
use Rattle.std.proofs.Common.{◌≡◌, ◌∙◌, ◌+◌, ◌<◌, ◌++◌, ℕ, suc, zero, List, [], ◌∷◌, Option, Some, false, length, take, drop, ap, sym, refl, subst}
use Rattle.std.proofs.Common.{add-one, append-nil, append_assoc, arith}
use Rattle.std.specs.Prelude.{All, slice_get}
use Rattle.std.proofs.Math.Seq.{take-length, drop-length}
use Rattle.std.proofs.lemmas.List.{drop-map, length-map, map-append, map_push}
use Rattle.std.proofs.lemmas.List.Elements.{All-nil, All-push}
use Rattle.std.specs.declared.net.TcpStream.{TcpStream}
use Rattle.std.specs.declared.time.Instant.{Instant}
use Rattle.mmtel_sockets.specs.Reading.{IsRemovedFrom, is_timed_out, streams}
use Rattle.mmtel_sockets.specs.declared.connections.Connection.{Connection}

abbrev IsOnTime : Option Instant → Connection → Type 0
IsOnTime now connection = is_timed_out now connection ≡ false

-- so many of them were read
pub record Round (now : Option Instant) (before : List Connection) (turn : ℕ) (waiting : List Connection) : Type 0 where
  pub seen : List Connection
  pub parts : waiting ≡ drop turn before ++ seen
  pub same : streams seen ≡ take turn (streams before)
  pub on_time : All (IsOnTime now) seen

pub round_start : (now : Option Instant) (before : List Connection) → Round now before 0 before
round_start now before = record { seen = []; parts = sym (append-nil before); same = refl; on_time = All-nil (IsOnTime now) }

-- ---- the first one

record IsNext (before : List Connection) (turn : ℕ) (next : Connection) : Type 0 where
  rest : drop turn before ≡ next ∷ drop (suc turn) before
  stream : slice_get (streams before) turn ≡ Some next.stream
  front : take (suc turn) (streams before) ≡ take turn (streams before) ++ next.stream ∷ []

next_of : (before : List Connection) (turn : ℕ) → turn < length before → (next : Connection) × IsNext before turn next
next_of [] turn h = absurd (omega (arith, h))
next_of (c ∷ before) zero h = (c, record { rest = refl; stream = refl; front = refl })
next_of (c ∷ before) (suc turn) h =
    let n : (next : Connection) × IsNext before turn next = next_of before turn (omega arith) in
    (n.0, record { rest = n.1.rest; stream = n.1.stream; front = ap (λ (l : List TcpStream). c.stream ∷ l) n.1.front })

-- what remains where the first one is removed
record Remaining (before : List Connection) (turn : ℕ) (waiting seen : List Connection) (taken : Connection) : Type 0 where
  next : IsNext before turn taken
  rest : drop 1 waiting ≡ drop (suc turn) before ++ seen

same_connection : (a b : Connection) → Some a ≡ Some b → a ≡ b
same_connection a b e = cc

remaining_of : {now : Option Instant} (before : List Connection) (turn : ℕ) (waiting : List Connection) (taken : Connection)
    → (r : Round now before turn waiting) → turn < length before → slice_get waiting 0 ≡ Some taken → Remaining before turn waiting r.seen taken
remaining_of before turn waiting taken r h is =
    let n = next_of before turn h in
    let whole : waiting ≡ n.0 ∷ (drop (suc turn) before ++ r.seen) = r.parts ∙ ap (λ (l : List Connection). l ++ r.seen) n.1.rest in
    let same : n.0 ≡ taken = same_connection n.0 taken (sym (ap (λ (l : List Connection). slice_get l 0) whole) ∙ is) in
    record { next = subst (IsNext before turn) same n.1; rest = ap (λ (l : List Connection). drop 1 l) whole }

-- it continues to wait
pub kept_waiting : (now : Option Instant) (before : List Connection) (turn : ℕ) (waiting : List Connection) (taken after : Connection)
    → Round now before turn waiting → turn < length before → slice_get waiting 0 ≡ Some taken → after.stream ≡ taken.stream → is_timed_out now after ≡ false
    → Round now before (turn + 1) (drop 1 waiting ++ after ∷ [])
kept_waiting now before turn waiting taken after r h is stream late =
    let l = remaining_of before turn waiting taken r h is in
    record {
      seen = r.seen ++ after ∷ [];
      parts = rw add-one (ap (λ (c : List Connection). c ++ after ∷ []) l.rest ∙ append_assoc (drop (suc turn) before) r.seen (after ∷ []));
      same = rw add-one (map_push (λ (c : Connection). c.stream) r.seen after
          ∙ (ap (λ (s : List TcpStream). s ++ after.stream ∷ []) r.same ∙ (ap (λ (s : TcpStream). take turn (streams before) ++ s ∷ []) stream ∙ sym l.next.front)));
      on_time = All-push (IsOnTime now) r.seen after r.on_time late;
    }

-- it is due
pub removed_due : (now : Option Instant) (before : List Connection) (turn : ℕ) (waiting : List Connection) (taken after : Connection)
    → Round now before turn waiting → turn < length before → slice_get waiting 0 ≡ Some taken → after.stream ≡ taken.stream
    → IsRemovedFrom (streams before) (streams (drop 1 waiting)) after.stream
removed_due now before turn waiting taken after r h is stream =
    let l = remaining_of before turn waiting taken r h is in
    let f : Connection → TcpStream = λ c. c.stream in (
      turn,
      (
        l.next.stream ∙ ap (λ (s : TcpStream). Some s) (sym stream),
        rw add-one (ap streams l.rest ∙ (map-append f (drop (suc turn) before) r.seen
            ∙ (ap (λ (s : List TcpStream). s ++ streams r.seen) (sym (drop-map f (suc turn) before)) ∙ ap (λ (s : List TcpStream). drop (suc turn) (streams before) ++ s) r.same))),
      ),
    )

-- ---- all of them

pub waiting_is_not_empty : (now : Option Instant) (before : List Connection) (turn : ℕ) (waiting : List Connection)
    → Round now before turn waiting → turn < length before → 0 < length waiting
waiting_is_not_empty now before turn waiting r h =
    let n = next_of before turn h in
    rw (r.parts, n.1.rest) (omega arith)

pub ended : (now : Option Instant) (before waiting : List Connection) → Round now before (length before) waiting
    → (streams waiting ≡ streams before) × All (IsOnTime now) waiting
ended now before waiting r =
    let whole : waiting ≡ r.seen = r.parts ∙ ap (λ (l : List Connection). l ++ r.seen) (drop-length before) in
    let f : Connection → TcpStream = λ c. c.stream in (
      ap streams whole ∙ (r.same ∙ (ap (λ (n : ℕ). take n (streams before)) (sym (length-map before f)) ∙ take-length (streams before))),
      subst (All (IsOnTime now)) (sym whole) r.on_time,
    )
