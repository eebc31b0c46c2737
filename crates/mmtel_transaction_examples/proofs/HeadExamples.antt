-- They compute, each of the five fields by itself; the value of Via is not split.
use Rattle.std.proofs.Common.{◌≡◌, ◌+◌, ◌∷◌, [], List, ℕ, Option, Some, None, codes, refl, ap, ◌∙◌, inl, inr}
use Rattle.std.specs.Option.{option_map}
use Rattle.std.proofs.lemmas.Bool.{cases_Bool}
use Rattle.mmtel_base.specs.Chain.{◌>>=◌}
use Rattle.mmtel_base.specs.Classes as Classes
use Rattle.mmtel_base.specs.Numbers as Numbers
use Rattle.mmtel_base.specs.Scanning as Scanning
use Rattle.mmtel_lex.specs.Reading as Reading
use Rattle.mmtel_lex.specs.declared.values.NameAddr.{NameAddr}
use Rattle.mmtel_message.specs.Fields as Fields
use Rattle.mmtel_message.specs.Fields.{call_in, first_in, five_at, parties_in, via_at}
use Rattle.mmtel_message.specs.Headers.{trim}
use Rattle.mmtel_message.specs.Message.{Message}
use Rattle.mmtel_message.specs.Values.{next_separator, parts, is_separator, mode_after}
use Rattle.mmtel_message.specs.declared.fields.CSeq.{CSeq}
use Rattle.mmtel_message.specs.declared.fields.Five.{Five}
use Rattle.mmtel_message.specs.declared.fields.Via.{Via}
use Rattle.mmtel_message.specs.declared.messages.Start.{Start}
use Rattle.mmtel_message.specs.declared.values.Mode.{Mode}
use Rattle.mmtel_message.specs.declared.values.Mode.TheVariants.{Plain}
use Rattle.mmtel_transaction.specs.Heads.{head_of, head_with}
use Rattle.mmtel_transaction_examples.specs.CallMessages.{request}
use Rattle.mmtel_transaction_examples.specs.HeadExamples.{HeadsOfInvites, invite_from}

unmapped : (o : Option ℕ) → option_map (λ n. n + 1) o ≡ None → o ≡ None
unmapped None e = refl
unmapped (Some n) e = absurd cc

-- where a value is not split it is its only part
pub one_part : (m : Mode) (s : List ℕ) → next_separator m s ≡ None → parts m s ≡ s ∷ []
unfolding next_separator parts
one_part m [] e = refl
one_part m (b ∷ s) e =
    elim (cases_Bool (is_separator m b)) [
      | inl y ↦ let f = rw y at e in absurd cc
      | inr other ↦ rw (other, one_part (mode_after m b) s (unmapped (next_separator (mode_after m b) s) (rw other at e))) refl
    ]

abbrev via_value : List ℕ
via_value = codes "SIP/2.0/UDP h;branch=i"

abbrev via : Via
via = record { transport = codes "UDP"; sent_by = codes "h"; host = codes "h"; port = None; params = record { name = codes "branch"; value = Some (codes "i") } ∷ [] }

abbrev party : (display uri tag : List ℕ) → NameAddr
party display uri tag = record { display = display; uri = uri; params = record { name = codes "tag"; value = Some tag } ∷ [] }

abbrev to : NameAddr
to = record { display = []; uri = codes "a:b"; params = [] }

abbrev cseq : CSeq
cseq = record { number = 1; method = codes "INVITE" }

abbrev five_by : Option Via → Option (NameAddr × NameAddr) → Option (List ℕ × CSeq) → Option Five
five_by v p c = do
  via ← v
  q ← p
  d ← c
  Some (record { via = via; from = q.0; to = q.1; call_id = d.0; cseq = d.1 })

one_via : trim (first_in (parts Plain via_value)) ≡ trim via_value
unfolding next_separator
one_via = ap (λ (ps : List (List ℕ)). trim (first_in ps)) (one_part Plain via_value refl)

at_via : via_at (trim via_value) ≡ Some via
unfolding Classes.in_class Numbers.value_up_to Numbers.number_of Scanning.leading_run Scanning.after_run Scanning.split_once_at Scanning.closing_quote_from Scanning.without_trailing Reading.token_at
    Reading.text_at Reading.value_at Reading.param_at Reading.params_at Reading.all_params_at Reading.host_at Reading.port_number Reading.port_at Fields.via_at
at_via = refl

call : (uri from : List ℕ) → call_in (invite_from uri from).lines ≡ Some (codes "c", cseq)
unfolding Classes.in_class Numbers.value_up_to Numbers.number_of Scanning.leading_run Scanning.after_run Scanning.split_once_at Scanning.closing_quote_from Scanning.without_trailing Reading.token_at
    Fields.call_in Fields.cseq_at
call uri from = refl

-- the head of an INVITE by what is read of From and To
by_fields : (uri from : List ℕ) (f : NameAddr) → parties_in (invite_from uri from).lines ≡ Some (f, to) →
    head_of (invite_from uri from) ≡ head_with (invite_from uri from).start (Some (record { via = via; from = f; to = to; call_id = codes "c"; cseq = cseq }))
unfolding head_of five_at
by_fields uri from f p =
    let m : Message Start = invite_from uri from in
    ap (λ (v : Option Via). head_with m.start (five_by v (parties_in m.lines) (call_in m.lines))) (ap (λ (v : List ℕ). via_at v) one_via ∙ at_via)
    ∙ (ap (λ (q : Option (NameAddr × NameAddr)). head_with m.start (five_by (Some via) q (call_in m.lines))) p
    ∙ ap (λ (d : Option (List ℕ × CSeq)). head_with m.start (five_by (Some via) (Some (f, to)) d)) (call uri from))

parties_plain : parties_in (invite_from (codes "a:b") (codes "<a:b>;tag=f")).lines ≡ Some (party ([]) (codes "a:b") (codes "f"), to)
unfolding Classes.in_class Numbers.value_up_to Numbers.number_of Scanning.leading_run Scanning.after_run Scanning.split_once_at Scanning.closing_quote_from Scanning.without_trailing Reading.token_at
    Reading.text_at Reading.value_at Reading.param_at Reading.params_at Reading.all_params_at Reading.angle_of Reading.bare_of Reading.words_of Reading.quoted_of Reading.name_addr_of Fields.parties_in
parties_plain = refl

head_plain : head_of (invite_from (codes "a:b") (codes "<a:b>;tag=f")) ≡ request (codes "INVITE") (codes "i") []
unfolding Classes.in_class Scanning.closing_quote_from
head_plain = by_fields (codes "a:b") (codes "<a:b>;tag=f") (party ([]) (codes "a:b") (codes "f")) parties_plain

parties_named : parties_in (invite_from (codes "c:d") (codes "\"A\" <c:d>;tag=f")).lines ≡ Some (party (codes "\"A\"") (codes "c:d") (codes "f"), to)
unfolding Classes.in_class Numbers.value_up_to Numbers.number_of Scanning.leading_run Scanning.after_run Scanning.split_once_at Scanning.closing_quote_from Scanning.without_trailing Reading.token_at
    Reading.text_at Reading.value_at Reading.param_at Reading.params_at Reading.all_params_at Reading.angle_of Reading.bare_of Reading.words_of Reading.quoted_of Reading.name_addr_of Fields.parties_in
parties_named = refl

head_named : head_of (invite_from (codes "c:d") (codes "\"A\" <c:d>;tag=f")) ≡ request (codes "INVITE") (codes "i") []
unfolding Classes.in_class Scanning.closing_quote_from
head_named = by_fields (codes "c:d") (codes "\"A\" <c:d>;tag=f") (party (codes "\"A\"") (codes "c:d") (codes "f")) parties_named

parties_other : parties_in (invite_from (codes "a:b") (codes "<a:b>;tag=g")).lines ≡ Some (party ([]) (codes "a:b") (codes "g"), to)
unfolding Classes.in_class Numbers.value_up_to Numbers.number_of Scanning.leading_run Scanning.after_run Scanning.split_once_at Scanning.closing_quote_from Scanning.without_trailing Reading.token_at
    Reading.text_at Reading.value_at Reading.param_at Reading.params_at Reading.all_params_at Reading.angle_of Reading.bare_of Reading.words_of Reading.quoted_of Reading.name_addr_of Fields.parties_in
parties_other = refl

head_other : head_of (invite_from (codes "a:b") (codes "<a:b>;tag=g")) ≡ record (request (codes "INVITE") (codes "i") []) { from_tag = codes "g" }
unfolding Classes.in_class Scanning.closing_quote_from
head_other = by_fields (codes "a:b") (codes "<a:b>;tag=g") (party ([]) (codes "a:b") (codes "g")) parties_other

pub heads : HeadsOfInvites
heads = record { plain = head_plain; named = head_named; other = head_other }
