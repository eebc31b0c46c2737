-- On what the head of a message depends: on method or status, and on its lines of five names (RFC 3261 §7.1, §7.2, §8.1.1).
use Rattle.std.specs.Prelude.{◌≡◌, ℕ, List, [], codes, Option, option_map}
use Rattle.mmtel_lex.specs.declared.values.NameAddr.{NameAddr}
use Rattle.mmtel_message.specs.Fields.{call_in, party_in, via_in}
use Rattle.mmtel_message.specs.Message.{Message, lines_named}
use Rattle.mmtel_message.specs.declared.fields.Via.{Via}
use Rattle.mmtel_message.specs.declared.messages.Start.{Start}
use Rattle.mmtel_message.specs.declared.messages.Start.TheVariants.{Request, Status}
use Rattle.mmtel_transaction.specs.Heads.{head_of, param_text}

-- what is read of the start line: the method of a request, or the status; neither Request-URI nor reason phrase
abbrev pub start_read : Start → Start
start_read (Request method uri) = Request method []
start_read (Status code phrase) = Status code []

-- what is read of the first Via: its branch and its sent-by; None where it cannot be read
abbrev pub via_read : List (List ℕ × List ℕ) → Option (List ℕ × List ℕ)
via_read ls = option_map (λ (via : Via). (param_text (codes "branch") via.params, via.sent_by)) (via_in ls)

-- what is read of From, or of To: the tag, which is empty where there is none; None where there is not one line of the name, which is a name-addr
abbrev pub tag_read : List ℕ → List (List ℕ × List ℕ) → Option (List ℕ)
tag_read name ls = option_map (λ (party : NameAddr). param_text (codes "tag") party.params) (party_in name ls)

-- two messages of which the same is read; Call-ID and CSeq are read entirely
pub record ReadEquivalent (m n : Message Start) : Type 0 where
  pub start : start_read m.start ≡ start_read n.start
  pub via : via_read m.lines ≡ via_read n.lines
  pub from : tag_read (codes "From") m.lines ≡ tag_read (codes "From") n.lines
  pub to : tag_read (codes "To") m.lines ≡ tag_read (codes "To") n.lines
  pub call : call_in m.lines ≡ call_in n.lines

-- they have the same head, whatever else their lines and bodies are
abbrev pub HeadsRestOnFields : Type 0
HeadsRestOnFields = (m n : Message Start) → ReadEquivalent m n → head_of m ≡ head_of n

-- two messages whose start lines are read with the same result, and which have the same lines of the five names
pub record LinesEquivalent (m n : Message Start) : Type 0 where
  pub start : start_read m.start ≡ start_read n.start
  pub via : lines_named (codes "Via") m.lines ≡ lines_named (codes "Via") n.lines
  pub from : lines_named (codes "From") m.lines ≡ lines_named (codes "From") n.lines
  pub to : lines_named (codes "To") m.lines ≡ lines_named (codes "To") n.lines
  pub call_id : lines_named (codes "Call-ID") m.lines ≡ lines_named (codes "Call-ID") n.lines
  pub cseq : lines_named (codes "CSeq") m.lines ≡ lines_named (codes "CSeq") n.lines

-- the same is read of them, so they have the same head
abbrev pub HeadsRestOnFiveNames : Type 0
HeadsRestOnFiveNames = (m n : Message Start) → LinesEquivalent m n → ReadEquivalent m n × (head_of m ≡ head_of n)
