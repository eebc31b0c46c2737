-- The five fields that each message has (RFC 3261 §8.1.1): the first Via, From, To, Call-ID and CSeq.
use Rattle.std.specs.Prelude.{Option, Some, None, ◌==◌, if◌then◌else◌, ℕ, ◌-◌, List, [], ◌∷◌, length, take, codes, count_by}
use Rattle.mmtel_base.specs.Scanning.{leading_run, after_run, after_text}
use Rattle.mmtel_base.specs.Chain.{◌>>=◌}
use Rattle.mmtel_base.specs.Numbers.{number_of}
use Rattle.mmtel_lex.specs.Reading.{token_at, host_at, port_at, all_params_at, name_addr_of}
use Rattle.mmtel_base.specs.declared.classes.Class.TheVariants.{Blank, Digit}
use Rattle.mmtel_lex.specs.declared.values.NameAddr.{NameAddr}
use Rattle.mmtel_message.specs.Headers.{trim}
use Rattle.mmtel_message.specs.Values.{parts}
use Rattle.mmtel_message.specs.Message.{is_line, first_value}
use Rattle.mmtel_message.specs.declared.values.Mode.TheVariants.{Plain}
use Rattle.mmtel_message.specs.declared.fields.Five.{Five}
use Rattle.mmtel_message.specs.declared.fields.Via.{Via}
use Rattle.mmtel_message.specs.declared.fields.CSeq.{CSeq}

-- the value of the only line of the name
abbrev pub only_value : List ℕ → List (List ℕ × List ℕ) → Option (List ℕ)
only_value name ls = if count_by (λ l. is_line name l) ls == 1 then first_value name ls else None

abbrev pub first_in : List (List ℕ) → List ℕ
first_in [] = []
first_in (l ∷ ls) = l

-- the first of a listed name's values
abbrev pub first_part : List ℕ → List ℕ
first_part s = trim (first_in (parts Plain s))

abbrev pub if_end : {A : Type 0} → A → List ℕ → Option A
if_end x [] = Some x
if_end x (b ∷ s) = None

-- what follows one blank or more
abbrev pub after_blanks : List ℕ → Option (List ℕ)
after_blanks s = if length (leading_run Blank s) == 0 then None else Some (after_run Blank s)

-- what comes before this rest
abbrev pub before_rest : List ℕ → List ℕ → List ℕ
before_rest s rest = take (length s - length rest) s

-- the rest of a Via value, after its transport: sent-by and parameters
abbrev pub via_by : List ℕ → List ℕ → Option Via
via_by transport b = do
  h ← host_at b
  n ← port_at h.1
  ps ← all_params_at n.1
  if_end (record { transport = transport; sent_by = before_rest b n.1; host = h.0; port = n.0; params = ps.0 }) ps.1

-- a Via value (§20.42): `SIP/2.0/transport`, blanks, sent-by, parameters
unfoldable pub via_at : List ℕ → Option Via
via_at s = do
  t ← after_text (codes "SIP/2.0/") s
  p ← token_at t
  b ← after_blanks p.1
  via_by p.0 b

-- a CSeq value (§20.16): a number below 2^31, blanks, a method
unfoldable pub cseq_at : List ℕ → Option CSeq
cseq_at s = do
  n ← number_of 2147483647 (leading_run Digit s)
  b ← after_blanks (after_run Digit s)
  m ← token_at b
  if_end (record { number = n; method = m.0 }) m.1

abbrev pub if_not_empty : List ℕ → Option (List ℕ)
if_not_empty s = if length s == 0 then None else Some s

-- the first Via value
abbrev pub via_in : List (List ℕ × List ℕ) → Option Via
via_in ls = first_value (codes "Via") ls >>= λ v. via_at (first_part v)

-- the only line of the name, as a name-addr
abbrev pub party_in : List ℕ → List (List ℕ × List ℕ) → Option NameAddr
party_in name ls = only_value name ls >>= λ v. name_addr_of v

-- From and To
unfoldable pub parties_in : List (List ℕ × List ℕ) → Option (NameAddr × NameAddr)
parties_in ls = do
  from ← party_in (codes "From") ls
  to ← party_in (codes "To") ls
  Some (from, to)

-- Call-ID, which is not empty, and CSeq
unfoldable pub call_in : List (List ℕ × List ℕ) → Option (List ℕ × CSeq)
call_in ls = do
  i ← only_value (codes "Call-ID") ls
  id ← if_not_empty i
  c ← only_value (codes "CSeq") ls
  cseq ← cseq_at c
  Some (id, cseq)

-- the five fields, where each can be read
unfoldable pub five_at : List (List ℕ × List ℕ) → Option Five
five_at ls = do
  via ← via_in ls
  p ← parties_in ls
  c ← call_in ls
  Some (record { via = via; from = p.0; to = p.1; call_id = c.0; cseq = c.1 })
