-- The head of a message by what is read of its lines of five names.
use Rattle.std.proofs.Common.{◌≡◌, ℕ, ◌+◌, List, [], ◌∷◌, length, refl, sym, ap, ◌∙◌, Bool, true, false, Option, Some, None, codes, cond, arith}
use Rattle.std.specs.Prelude.{count_by, ◌==◌}
use Rattle.std.specs.Option.{option_map}
use Rattle.std.proofs.lemmas.List.Recursion.{is_count_by}
use Rattle.mmtel_base.specs.Chain.{◌>>=◌}
use Rattle.mmtel_lex.specs.Reading.{name_addr_of}
use Rattle.mmtel_lex.specs.declared.values.NameAddr.{NameAddr}
use Rattle.mmtel_message.specs.Fields.{call_in, cseq_at, if_not_empty, five_at, first_part, only_value, parties_in, party_in, via_at, via_in}
use Rattle.mmtel_message.specs.Message.{Message, first_value, is_line, lines_named}
use Rattle.mmtel_message.specs.declared.fields.CSeq.{CSeq}
use Rattle.mmtel_message.specs.declared.fields.Via.{Via}
use Rattle.mmtel_message.specs.declared.messages.Start.{Start}
use Rattle.mmtel_message.specs.declared.messages.Start.TheVariants.{Request, Status}
use Rattle.mmtel_transaction.specs.Heads.{code_of, head_of, head_with, is_request, method_of, param_text}
use Rattle.mmtel_transaction.specs.HeadsRead.{HeadsRestOnFields, HeadsRestOnFiveNames, LinesEquivalent, ReadEquivalent, start_read, tag_read, via_read}
use Rattle.mmtel_transaction.specs.declared.heads.Head.{Head}

abbrev Lines : Type 0
Lines = List (List ℕ × List ℕ)

-- the head, by what is read
abbrev head_by : Start → Option (List ℕ × List ℕ) → Option (List ℕ) → Option (List ℕ) → Option (List ℕ × CSeq) → Head
head_by start None f t c = head_with start None
head_by start (Some via) None t c = head_with start None
head_by start (Some via) (Some f) None c = head_with start None
head_by start (Some via) (Some f) (Some t) None = head_with start None
head_by start (Some via) (Some f) (Some t) (Some c) =
    record { is_request = is_request start; status = code_of start; method = method_of start c.1.method; branch = via.0; sent_by = via.1; from_tag = f; to_tag = t; call_id = c.0; number = c.1.number }

abbrev both : Option NameAddr → Option NameAddr → Option (NameAddr × NameAddr)
both f t = f >>= λ a. t >>= λ b. Some (a, b)

abbrev tag_of : Option NameAddr → Option (List ℕ)
tag_of o = option_map (λ (party : NameAddr). param_text (codes "tag") party.params) o

abbrev place_of : Option Via → Option (List ℕ × List ℕ)
place_of o = option_map (λ (via : Via). (param_text (codes "branch") via.params, via.sent_by)) o

five_by : (start : Start) (v : Option Via) (f t : Option NameAddr) (c : Option (List ℕ × CSeq)) →
    head_with start (v >>= λ via. both f t >>= λ p. c >>= λ x. Some (record { via = via; from = p.0; to = p.1; call_id = x.0; cseq = x.1 })) ≡ head_by start (place_of v) (tag_of f) (tag_of t) c
five_by start None f t c = refl
five_by start (Some via) None t c = refl
five_by start (Some via) (Some f) None c = refl
five_by start (Some via) (Some f) (Some t) None = refl
five_by start (Some via) (Some f) (Some t) (Some c) = refl

parties : (ls : Lines) → parties_in ls ≡ both (party_in (codes "From") ls) (party_in (codes "To") ls)
unfolding parties_in
parties ls = refl

head_is : (m : Message Start) → head_of m ≡ head_by m.start (via_read m.lines) (tag_read (codes "From") m.lines) (tag_read (codes "To") m.lines) (call_in m.lines)
unfolding head_of five_at
head_is m = rw (parties m.lines) (five_by m.start (via_in m.lines) (party_in (codes "From") m.lines) (party_in (codes "To") m.lines) (call_in m.lines))

-- the method or the status alone is read of the start line
none_start : (s : Start) → head_with s None ≡ head_with (start_read s) None
none_start (Request method uri) = refl
none_start (Status code phrase) = refl

some_start : (s : Start) (via : List ℕ × List ℕ) (f t : List ℕ) (c : List ℕ × CSeq) → head_by s (Some via) (Some f) (Some t) (Some c) ≡ head_by (start_read s) (Some via) (Some f) (Some t) (Some c)
some_start (Request method uri) via f t c = refl
some_start (Status code phrase) via f t c = refl

by_start : (s : Start) (v : Option (List ℕ × List ℕ)) (f t : Option (List ℕ)) (c : Option (List ℕ × CSeq)) → head_by s v f t c ≡ head_by (start_read s) v f t c
by_start s None f t c = none_start s
by_start s (Some via) None t c = none_start s
by_start s (Some via) (Some f) None c = none_start s
by_start s (Some via) (Some f) (Some t) None = none_start s
by_start s (Some via) (Some f) (Some t) (Some c) = some_start s via f t c

abbrev head_read : Message Start → Head
head_read m = head_by (start_read m.start) (via_read m.lines) (tag_read (codes "From") m.lines) (tag_read (codes "To") m.lines) (call_in m.lines)

reads : (m : Message Start) → head_of m ≡ head_read m
reads m = head_is m ∙ by_start m.start (via_read m.lines) (tag_read (codes "From") m.lines) (tag_read (codes "To") m.lines) (call_in m.lines)

pub on_fields : HeadsRestOnFields
on_fields m n r = reads m ∙ (rw (r.start, r.via, r.from, r.to, r.call) refl ∙ sym (reads n))

-- the first line of a name, and the only one, by the lines of the name
abbrev first_in : Lines → Option (List ℕ)
first_in [] = None
first_in (l ∷ ls) = Some l.1

first_if : (b : Bool) (name : List ℕ) (l : List ℕ × List ℕ) (ls xs : Lines) → first_value name ls ≡ first_in xs → cond b (Some l.1) (first_value name ls) ≡ first_in (cond b (l ∷ xs) xs)
first_if true name l ls xs q = refl
first_if false name l ls xs q = q

first_named : (name : List ℕ) (ls : Lines) → first_value name ls ≡ first_in (lines_named name ls)
first_named name [] = refl
first_named name (l ∷ ls) = first_if (is_line name l) name l ls (lines_named name ls) (first_named name ls)

tally : (b : Bool) (l : List ℕ × List ℕ) (xs : Lines) → length (cond b (l ∷ xs) xs) ≡ cond b (1 + length xs) (length xs)
tally true l xs = omega arith
tally false l xs = refl

abbrev only_in : Lines → Option (List ℕ)
only_in ls = cond (length ls == 1) (first_in ls) None

one_of : (name : List ℕ) (ls : Lines) → only_value name ls ≡ only_in (lines_named name ls)
one_of name ls =
    let n : length (lines_named name ls) ≡ count_by (λ l. is_line name l) ls = is_count_by (λ xs. length (lines_named name xs)) (λ l. is_line name l) refl (λ x xs. tally (is_line name x) x (lines_named name xs)) ls in
    rw (sym n, first_named name ls) refl

one_alike : (name : List ℕ) (ls ks : Lines) → lines_named name ls ≡ lines_named name ks → only_value name ls ≡ only_value name ks
one_alike name ls ks q = one_of name ls ∙ (ap only_in q ∙ sym (one_of name ks))

first_alike : (name : List ℕ) (ls ks : Lines) → lines_named name ls ≡ lines_named name ks → first_value name ls ≡ first_value name ks
first_alike name ls ks q = first_named name ls ∙ (ap first_in q ∙ sym (first_named name ks))

tag_alike : (name : List ℕ) (ls ks : Lines) → lines_named name ls ≡ lines_named name ks → tag_read name ls ≡ tag_read name ks
tag_alike name ls ks q = ap (λ (o : Option (List ℕ)). tag_of (o >>= λ v. name_addr_of v)) (one_alike name ls ks q)

abbrev call_by : Option (List ℕ) → Option (List ℕ) → Option (List ℕ × CSeq)
call_by i c = i >>= λ s. if_not_empty s >>= λ id. c >>= λ t. cseq_at t >>= λ x. Some (id, x)

call_is : (ls : Lines) → call_in ls ≡ call_by (only_value (codes "Call-ID") ls) (only_value (codes "CSeq") ls)
unfolding call_in
call_is ls = refl

call_alike : (ls ks : Lines) → lines_named (codes "Call-ID") ls ≡ lines_named (codes "Call-ID") ks → lines_named (codes "CSeq") ls ≡ lines_named (codes "CSeq") ks → call_in ls ≡ call_in ks
call_alike ls ks i c = call_is ls
    ∙ (ap (λ o. call_by o (only_value (codes "CSeq") ls)) (one_alike (codes "Call-ID") ls ks i) ∙ (ap (call_by (only_value (codes "Call-ID") ks)) (one_alike (codes "CSeq") ls ks c) ∙ sym (call_is ks)))

read_alike : (m n : Message Start) → LinesEquivalent m n → ReadEquivalent m n
read_alike m n l = record {
  start = l.start;
  via = ap (λ (o : Option (List ℕ)). place_of (o >>= λ v. via_at (first_part v))) (first_alike (codes "Via") m.lines n.lines l.via);
  from = tag_alike (codes "From") m.lines n.lines l.from;
  to = tag_alike (codes "To") m.lines n.lines l.to;
  call = call_alike m.lines n.lines l.call_id l.cseq;
}

pub on_five_names : HeadsRestOnFiveNames
on_five_names m n l = (read_alike m n l, on_fields m n (read_alike m n l))
