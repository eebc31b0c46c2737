-- Reading a message (RFC 3261 §7, §18.3 and §25.1): the whole list of bytes is split at the end of its head, at its line ends and at its folds, and each piece is read.
-- The refusals come in the order TooLarge, NotSip, TooMany, Bad.
use Rattle.std.specs.Prelude.{◌≡◌, Option, Some, None, if◌then◌else◌, ℕ, nat_lt, ◌+◌, List, [], ◌∷◌, length, codes, take, drop, map, Result, Ok, Err}
use Rattle.mmtel_base.specs.Chain.{◌>>=◌}
use Rattle.mmtel_base.specs.Numbers.{number_of}
use Rattle.mmtel_message.specs.Lines.{first_break, logical_lines, split, whole_end}
use Rattle.mmtel_message.specs.Headers.{header_line}
use Rattle.mmtel_message.specs.Message.{Message, first_value}
use Rattle.mmtel_message.specs.Starts.{start_at}
use Rattle.mmtel_message.specs.Fields.{five_at}
use Rattle.mmtel_message.specs.Faults.{first_fault}
use Rattle.mmtel_message.specs.Expansion.{expanded_lines}
use Rattle.mmtel_message.specs.Replies.{reply_to}
use Rattle.mmtel_message.specs.declared.lines.Break.TheVariants.{Head}
use Rattle.mmtel_message.specs.declared.fields.Five.{Five}
use Rattle.mmtel_message.specs.declared.messages.Start.{Start}
use Rattle.mmtel_message.specs.declared.reading.ReadFault.{ReadFault}
use Rattle.mmtel_message.specs.declared.reading.ReadFault.TheVariants as fault

-- the limits of a datagram: bytes, and header lines after folds are joined
abbrev pub limit : ℕ
limit = 16384

abbrev pub most_lines : ℕ
most_lines = 128

-- the body, where this was read of Content-Length
abbrev pub cut_body : List ℕ → Option ℕ → List ℕ
cut_body rest None = rest
cut_body rest (Some n) = take n rest

abbrev pub body_of : List (List ℕ × List ℕ) → List ℕ → List ℕ
body_of hs rest = cut_body rest (first_value (codes "Content-Length") hs >>= λ v. number_of (length rest) v)

abbrev pub message_of : Start → List (List ℕ × List ℕ) → List ℕ → Message Start
message_of start hs rest = record { start = start; lines = expanded_lines hs; body = body_of hs rest }

abbrev pub Read : Type 0
Read = Result (Message Start) ReadFault

-- ---- a head; None where the start line or one of the five fields cannot be read

pub record MessageHead : Type 0 where
  pub start : Start
  pub lines : List (List ℕ × List ℕ)
  pub five : Five

abbrev pub message_head : Option Start → List (List ℕ × List ℕ) → Option MessageHead
message_head start hs = do
  s ← start
  five ← five_at hs
  Some (record { start = s; lines = hs; five = five })

abbrev pub head_in_lines : List (List ℕ) → Option MessageHead
head_in_lines [] = None
head_in_lines (l ∷ ls) = message_head (start_at l) (map header_line ls)

abbrev pub head_in : List ℕ → Option MessageHead
head_in s = head_in_lines (logical_lines (split s))

-- the reply to a request that has this head and is too large
abbrev pub large_of : Option MessageHead → Option (Message Start)
large_of None = None
large_of (Some head) = reply_to head.start 513 (codes "Message Too Large") head.lines

-- the same for a message that begins with these bytes: its head is made of the complete lines among them
abbrev pub large_reply : List ℕ → Option (Message Start)
large_reply s = whole_end s >>= λ n. large_of (head_in (take n s))

-- ---- the faults in their order

-- Bad, at the place of the first fault
abbrev pub after_faults : Start → List (List ℕ × List ℕ) → List ℕ → Option ℕ → Read
after_faults start hs rest (Some at) = Err (fault.Bad at (reply_to start 400 (codes "Bad Request") hs))
after_faults start hs rest None = Ok (message_of start hs rest)

-- NotSip, then TooMany
abbrev pub after_head : Option MessageHead → List ℕ → Read
after_head None rest = Err fault.NotSip
after_head (Some head) rest =
    if nat_lt most_lines (length head.lines) then Err (fault.TooMany (reply_to head.start 513 (codes "Message Too Large") head.lines))
    else after_faults head.start head.lines rest (first_fault head.start head.five (length rest) head.lines)

-- the same from the start line on
abbrev pub after_start : List (List ℕ × List ℕ) → List ℕ → Option Start → Read
after_start hs rest start = after_head (message_head start hs) rest

-- split at the end of the head, where it ends
abbrev pub read_split_at : List ℕ → Option ℕ → Read
read_split_at s None = Err fault.NotSip
read_split_at s (Some n) = after_head (head_in (take n s)) (drop (n + 4) s)

-- what reading the bytes gives: TooLarge comes first
abbrev pub read_result : List ℕ → Read
read_result s = if nat_lt limit (length s) then Err (fault.TooLarge (large_reply (take limit s))) else read_split_at s (first_break Head s)

-- reading returns this, unless memory ran out
abbrev pub IsReadFault : ReadFault → Read → Type 0
IsReadFault (fault.TooLarge reply) read = read ≡ Err (fault.TooLarge reply)
IsReadFault fault.NotSip read = read ≡ Err fault.NotSip
IsReadFault (fault.TooMany reply) read = read ≡ Err (fault.TooMany reply)
IsReadFault (fault.Bad at reply) read = read ≡ Err (fault.Bad at reply)
IsReadFault fault.NoMemory read = Unit {0}

abbrev pub IsReadResult : Read → Read → Type 0
IsReadResult (Ok m) read = read ≡ Ok m
IsReadResult (Err e) read = IsReadFault e read
