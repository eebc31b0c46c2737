-- Reading the fields of a payload from left to right: each gives a value and the bytes after it, or nothing.
use Rattle.std.specs.Prelude.{◌==◌, ◌&&◌, ℕ, zero, suc, ◌∷◌, [], List, length, take, drop, Option, Some, None, nat_lt, if◌then◌else◌}
use Rattle.std.specs.Int.{Width, w16, w32, w64, from_be_bytes}
use Rattle.mmtel_types.specs.Moments.{last_moment}
use Rattle.mmtel_types.specs.declared.numbers.Account.{Account}
use Rattle.mmtel_types.specs.declared.numbers.CallNo.{CallNo}
use Rattle.mmtel_types.specs.declared.causes.Cause.{Cause}
use Rattle.mmtel_types.specs.declared.causes.Cause.TheVariants.{OutgoingBarred, IncomingBarred, AnonymousRejected, NotRegistered, NetworkBusy, NoReply, TooManyDiversions}
use Rattle.mmtel_types.specs.declared.causes.Cause.TheVariants.{Unreachable, Relayed, Cancelled, NoAccount, NoRoute, BadScheme, Hops, Extension, Critical, Merged, Full}
use Rattle.mmtel_types.specs.declared.causes.Cause.TheVariants.{Ended, Unacknowledged}
use Rattle.mmtel_charging.specs.declared.rows.Kind.{Kind}
use Rattle.mmtel_charging.specs.declared.rows.Kind.TheVariants.{Origin, Terminating, Diversion, Participant}
use Rattle.mmtel_charging.specs.declared.rows.Row.{Row}
use Rattle.mmtel_journal.specs.Payloads.{kind_number, cause_numbers}

-- what is read after what was read before it
abbrev pub then_read : {X Y : Type 0} → Option (X × List ℕ) → (X → List ℕ → Option (Y × List ℕ)) → Option (Y × List ℕ)
then_read None next = None
then_read (Some read) next = next read.0 read.1

-- one after the other
abbrev pub pair_at : {X Y : Type 0} → (List ℕ → Option (X × List ℕ)) → (List ℕ → Option (Y × List ℕ)) → List ℕ → Option ((X × Y) × List ℕ)
pair_at first second bytes = then_read (first bytes) (λ x behind. then_read (second behind) (λ y rest. Some ((x, y), rest)))

-- a value that is built of what was read, where there is one
abbrev pub parsed_value : {Y : Type 0} → Option Y → List ℕ → Option (Y × List ℕ)
parsed_value None rest = None
parsed_value (Some value) rest = Some (value, rest)

abbrev pub byte_at : List ℕ → Option (ℕ × List ℕ)
byte_at [] = None
byte_at (byte ∷ rest) = Some (byte, rest)

-- a number of so many bytes
abbrev pub sized_at : Width → ℕ → List ℕ → Option (ℕ × List ℕ)
sized_at w size bytes = if nat_lt (length bytes) size then None else Some (from_be_bytes w (take size bytes), drop size bytes)

abbrev pub moment_of : ℕ → Option ℕ
moment_of number = if nat_lt last_moment number then None else Some number

abbrev pub moment_at : List ℕ → Option (ℕ × List ℕ)
moment_at bytes = then_read (sized_at w64 8 bytes) (λ number rest. parsed_value (moment_of number) rest)

-- the kind of this number, if any has it
abbrev pub kind_by : ℕ → Kind
kind_by number =
    if number == 0 then Origin
    else if number == 1 then Terminating
    else if number == 2 then Diversion
    else Participant

abbrev pub known_kind : ℕ → Option Kind
known_kind number = if kind_number (kind_by number) == number then Some (kind_by number) else None

abbrev pub kind_at : List ℕ → Option (Kind × List ℕ)
kind_at bytes = then_read (byte_at bytes) (λ number rest. parsed_value (known_kind number) rest)

-- the cause of this position in the table and this code, if any has them
abbrev pub cause_by : ℕ → ℕ → Cause
cause_by place code =
    if place == 1 then OutgoingBarred
    else if place == 2 then IncomingBarred
    else if place == 3 then AnonymousRejected
    else if place == 4 then NotRegistered
    else if place == 5 then NetworkBusy
    else if place == 6 then NoReply
    else if place == 7 then TooManyDiversions (code == 1)
    else if place == 8 then Unreachable code
    else if place == 9 then Relayed code
    else if place == 10 then Cancelled
    else if place == 11 then NoAccount
    else if place == 12 then NoRoute
    else if place == 13 then BadScheme
    else if place == 14 then Hops
    else if place == 15 then Extension
    else if place == 16 then Critical
    else if place == 17 then Merged
    else if place == 18 then Full
    else if place == 19 then Ended
    else Unacknowledged

abbrev pub known_cause : ℕ → ℕ → Option Cause
known_cause place code =
    if ((cause_numbers (cause_by place code)).0 == place) && ((cause_numbers (cause_by place code)).1 == code) then Some (cause_by place code) else None

abbrev pub cause_at : List ℕ → Option (Cause × List ℕ)
cause_at bytes = then_read (pair_at byte_at (sized_at w16 2) bytes) (λ numbers rest. parsed_value (known_cause numbers.0 numbers.1) rest)

-- a flag, and a moment that is 0 after the flag 0
abbrev pub known_answer_time : ℕ → ℕ → Option (Option ℕ)
known_answer_time flag moment = if flag == 1 then Some (Some moment) else if (flag == 0) && (moment == 0) then Some None else None

abbrev pub answered_at : List ℕ → Option (Option ℕ × List ℕ)
answered_at bytes = then_read (pair_at byte_at moment_at bytes) (λ told rest. parsed_value (known_answer_time told.0 told.1) rest)

abbrev pub account_at : List ℕ → Option (Account × List ℕ)
account_at bytes = then_read (sized_at w32 4 bytes) (λ number rest. Some (record { 0 = number }, rest))

abbrev pub call_at : List ℕ → Option (CallNo × List ℕ)
call_at bytes = then_read (sized_at w64 8 bytes) (λ number rest. Some (record { 0 = number }, rest))

-- what precedes the answer time, and what follows it
abbrev pub head_at : List ℕ → Option (((Kind × Account) × (CallNo × ℕ)) × List ℕ)
head_at bytes = pair_at (pair_at kind_at account_at) (pair_at call_at moment_at) bytes

abbrev pub tail_at : List ℕ → Option (((ℕ × ℕ) × Cause) × List ℕ)
tail_at bytes = pair_at (pair_at moment_at (sized_at w32 4)) cause_at bytes

abbrev pub row_from : ((Kind × Account) × (CallNo × ℕ)) × (Option ℕ × ((ℕ × ℕ) × Cause)) → Row
row_from parts = record {
  kind = parts.0.0.0;
  account = parts.0.0.1;
  call = parts.0.1.0;
  began = parts.0.1.1;
  answered = parts.1.0;
  ended = parts.1.1.0.0;
  holds = parts.1.1.0.1;
  cause = parts.1.1.1;
}

abbrev pub row_at : List ℕ → Option (Row × List ℕ)
row_at bytes = then_read (pair_at head_at (pair_at answered_at tail_at) bytes) (λ parts rest. Some (row_from parts, rest))

-- so many bytes
abbrev pub text_at : ℕ → List ℕ → Option (List ℕ × List ℕ)
text_at size bytes = if nat_lt (length bytes) size then None else Some (take size bytes, drop size bytes)

-- the account, the length of its text, and the text
abbrev pub sheet_at : List ℕ → Option ((Account × List ℕ) × List ℕ)
sheet_at bytes = pair_at account_at (λ behind. then_read (sized_at w64 8 behind) text_at) bytes

-- so many, one after the other
abbrev pub many_at : {X : Type 0} → (List ℕ → Option (X × List ℕ)) → ℕ → List ℕ → Option (List X × List ℕ)
many_at read zero bytes = Some ([], bytes)
many_at read (suc count) bytes = then_read (read bytes) (λ x behind. then_read (many_at read count behind) (λ xs rest. Some (x ∷ xs, rest)))

-- a count, and so many
abbrev pub counted_at : {X : Type 0} → (List ℕ → Option (X × List ℕ)) → List ℕ → Option (List X × List ℕ)
counted_at read bytes = then_read (sized_at w64 8 bytes) (many_at read)
