-- They compute: first what remains of a message, and then what is read of it, field by field; where a value stands alone, it is not split.
use Rattle.std.proofs.Common.{◌≡◌, ◌+◌, ◌++◌, ◌∙◌, ap, ℕ, List, [], ◌∷◌, refl, codes, map, Option, Some, None, inl, inr}
use Rattle.std.specs.Option.{option_map}
use Rattle.std.proofs.lemmas.Bool.{cases_Bool}
use Rattle.mmtel_base.specs.Classes as Classes
use Rattle.mmtel_base.specs.Numbers as Numbers
use Rattle.mmtel_base.specs.Scanning as Scanning
use Rattle.mmtel_lex.specs.Reading as Reading
use Rattle.mmtel_lex.specs.declared.values.NameAddr.{NameAddr}
use Rattle.mmtel_history.specs.HistoryInfo.{anonymous}
use Rattle.mmtel_history.specs.MaskedValues.{is_marked_value, masked_value_text}
use Rattle.mmtel_leg.specs.Dialogues.{number_at, number_in}
use Rattle.mmtel_leg.specs.Remotes.{contact_uri, first_uri, remote_of, route_set, tag_in}
use Rattle.mmtel_leg.specs.declared.remotes.Remote.{Remote}
use Rattle.mmtel_message.specs.Fields.{call_in, cseq_at, first_in, first_part, five_at, parties_in, via_at, via_in}
use Rattle.mmtel_message.specs.Headers.{trim}
use Rattle.mmtel_message.specs.Message.{Line, Message}
use Rattle.mmtel_message.specs.Values.{is_separator, mode_after, next_separator, parts, values_of}
use Rattle.mmtel_message.specs.declared.fields.CSeq.{CSeq}
use Rattle.mmtel_message.specs.declared.fields.Via.{Via}
use Rattle.mmtel_message.specs.declared.messages.Start.{Start}
use Rattle.mmtel_message.specs.declared.values.Mode.{Mode}
use Rattle.mmtel_message.specs.declared.values.Mode.TheVariants.{Plain}
use Rattle.mmtel_transaction.specs.Heads.{head_of, head_with}
use Rattle.mmtel_trust.specs.Kinds.{kind_of}
use Rattle.mmtel_trust.specs.PrivateFields.{MarkedEntries, hidden_name_addr, hidden_value, masked_line, masked_message, only_entries, private_in_opening, served_value}
use Rattle.mmtel_types.specs.declared.sides.Side.TheVariants.{Caller}
use Rattle.mmtel_masked_messages.specs.WorkedExample.{HeadsOfInvites, MaskedInvites, RemotesOfInvites, anonymous_invite, erin_at, head_with_tag, invite_of_frank, restricted_invite, unrestricted_invite}

-- ---- what remains

erin_masked : masked_message private_in_opening restricted_invite ≡ anonymous_invite (codes "a")
unfolding Scanning.closing_quote_from masked_line kind_of hidden_name_addr hidden_value served_value is_marked_value masked_value_text Reading.name_addr_of Reading.words_of Reading.quoted_of
    Reading.angle_of Reading.bare_of Reading.all_params_at Reading.params_at Reading.param_at Reading.token_at Reading.value_at Reading.text_at Classes.in_class Scanning.leading_run Scanning.after_run
    Scanning.without_trailing Scanning.split_once_at
erin_masked = refl

frank_masked : masked_message private_in_opening (invite_of_frank (codes "a")) ≡ anonymous_invite (codes "a")
unfolding Scanning.closing_quote_from masked_line kind_of hidden_name_addr hidden_value served_value is_marked_value masked_value_text Reading.name_addr_of Reading.words_of Reading.quoted_of
    Reading.angle_of Reading.bare_of Reading.all_params_at Reading.params_at Reading.param_at Reading.token_at Reading.value_at Reading.text_at Classes.in_class Scanning.leading_run Scanning.after_run
    Scanning.without_trailing Scanning.split_once_at
frank_masked = refl

other_masked : masked_message private_in_opening (invite_of_frank (codes "b")) ≡ anonymous_invite (codes "b")
unfolding Scanning.closing_quote_from masked_line kind_of hidden_name_addr hidden_value served_value is_marked_value masked_value_text Reading.name_addr_of Reading.words_of Reading.quoted_of
    Reading.angle_of Reading.bare_of Reading.all_params_at Reading.params_at Reading.param_at Reading.token_at Reading.value_at Reading.text_at Classes.in_class Scanning.leading_run Scanning.after_run
    Scanning.without_trailing Scanning.split_once_at
other_masked = refl

shown_masked : masked_message (only_entries MarkedEntries) unrestricted_invite ≡ unrestricted_invite
unfolding Scanning.closing_quote_from masked_line kind_of hidden_name_addr hidden_value served_value is_marked_value masked_value_text Reading.name_addr_of Reading.words_of Reading.quoted_of
    Reading.angle_of Reading.bare_of Reading.all_params_at Reading.params_at Reading.param_at Reading.token_at Reading.value_at Reading.text_at Classes.in_class Scanning.leading_run Scanning.after_run
    Scanning.without_trailing Scanning.split_once_at
shown_masked = refl

pub invites : MaskedInvites
invites = record { of_erin = erin_masked; of_another = frank_masked; of_another_tag = other_masked; of_unrestricted = shown_masked }

-- ---- a value that stands alone

unmapped : (o : Option ℕ) → option_map (λ n. n + 1) o ≡ None → o ≡ None
unmapped None e = refl
unmapped (Some n) e = absurd cc

one_part : (m : Mode) (s : List ℕ) → next_separator m s ≡ None → parts m s ≡ s ∷ []
unfolding parts next_separator
one_part m [] e = refl
one_part m (b ∷ s) e =
    elim (cases_Bool (is_separator m b)) [
      | inl y ↦ let f = rw y at e in absurd cc
      | inr n ↦ rw (n, one_part (mode_after m b) s (unmapped (next_separator (mode_after m b) s) (rw n at e))) refl
    ]

one_value : (s : List ℕ) → next_separator Plain s ≡ None → trim s ≡ s → values_of s ≡ s ∷ []
one_value s none bare = ap (λ (ps : List (List ℕ)). map trim ps) (one_part Plain s none) ∙ ap (λ (t : List ℕ). t ∷ []) bare

-- ---- heads

abbrev via_text : List ℕ
via_text = codes "SIP/2.0/UDP 127.0.0.1:5071;branch=z9hG4bKa1"

abbrev via : Via
via = record {
  transport = codes "UDP";
  sent_by = codes "127.0.0.1:5071";
  host = codes "127.0.0.1";
  port = Some 5071;
  params = record { name = codes "branch"; value = Some (codes "z9hG4bKa1") } ∷ [];
}

abbrev from : List ℕ → List ℕ → List ℕ → NameAddr
from display uri tag = record { display = display; uri = uri; params = record { name = codes "tag"; value = Some tag } ∷ [] }

abbrev erin : NameAddr
erin = from (codes "\"Erin\"") (codes "sip:erin@other.example") (codes "a")

abbrev bob : NameAddr
bob = record { display = []; uri = codes "sip:bob@far.example"; params = [] }

abbrev seven : CSeq
seven = record { number = 7; method = codes "INVITE" }

head_by : (m : Message Start) (v : Via) (f t : NameAddr) (i : List ℕ) (c : CSeq) → via_in m.lines ≡ Some v → parties_in m.lines ≡ Some (f, t) → call_in m.lines ≡ Some (i, c)
    → head_of m ≡ head_with m.start (Some (record { via = v; from = f; to = t; call_id = i; cseq = c }))
unfolding head_of five_at
head_by m v f t i c one two three = rw (one, two, three) refl

one_via : first_part via_text ≡ trim via_text
unfolding next_separator
one_via = ap (λ (ps : List (List ℕ)). trim (first_in ps)) (one_part Plain via_text refl)

at_via : via_at (trim via_text) ≡ Some via
unfolding Classes.in_class Numbers.value_up_to Numbers.number_of Scanning.leading_run Scanning.after_run Scanning.split_once_at Scanning.closing_quote_from Scanning.without_trailing Reading.token_at
    Reading.text_at Reading.value_at Reading.param_at Reading.params_at Reading.all_params_at Reading.angle_of Reading.bare_of Reading.words_of Reading.quoted_of Reading.name_addr_of Reading.host_at
    Reading.port_number Reading.port_at via_at
at_via = refl

via_of : via_at (first_part via_text) ≡ Some via
via_of = ap via_at one_via ∙ at_via

erin_parties : parties_in restricted_invite.lines ≡ Some (erin, bob)
unfolding Classes.in_class Numbers.value_up_to Numbers.number_of Scanning.leading_run Scanning.after_run Scanning.split_once_at Scanning.closing_quote_from Scanning.without_trailing Reading.token_at
    Reading.text_at Reading.value_at Reading.param_at Reading.params_at Reading.all_params_at Reading.angle_of Reading.bare_of Reading.words_of Reading.quoted_of Reading.name_addr_of Reading.host_at
    Reading.port_number Reading.port_at parties_in
erin_parties = refl

erin_call : call_in restricted_invite.lines ≡ Some (codes "c1", seven)
unfolding Classes.in_class Numbers.value_up_to Numbers.number_of Scanning.leading_run Scanning.after_run Scanning.split_once_at Scanning.closing_quote_from Scanning.without_trailing Reading.token_at
    Reading.text_at Reading.value_at Reading.param_at Reading.params_at Reading.all_params_at Reading.angle_of Reading.bare_of Reading.words_of Reading.quoted_of Reading.name_addr_of Reading.host_at
    Reading.port_number Reading.port_at call_in cseq_at
erin_call = refl

erin_head : head_of restricted_invite ≡ head_with_tag (codes "a")
erin_head = head_by restricted_invite via (erin) bob (codes "c1") seven via_of erin_parties erin_call

shown_parties : parties_in unrestricted_invite.lines ≡ Some (erin, bob)
unfolding Classes.in_class Numbers.value_up_to Numbers.number_of Scanning.leading_run Scanning.after_run Scanning.split_once_at Scanning.closing_quote_from Scanning.without_trailing Reading.token_at
    Reading.text_at Reading.value_at Reading.param_at Reading.params_at Reading.all_params_at Reading.angle_of Reading.bare_of Reading.words_of Reading.quoted_of Reading.name_addr_of Reading.host_at
    Reading.port_number Reading.port_at parties_in
shown_parties = refl

shown_call : call_in unrestricted_invite.lines ≡ Some (codes "c1", seven)
unfolding Classes.in_class Numbers.value_up_to Numbers.number_of Scanning.leading_run Scanning.after_run Scanning.split_once_at Scanning.closing_quote_from Scanning.without_trailing Reading.token_at
    Reading.text_at Reading.value_at Reading.param_at Reading.params_at Reading.all_params_at Reading.angle_of Reading.bare_of Reading.words_of Reading.quoted_of Reading.name_addr_of Reading.host_at
    Reading.port_number Reading.port_at call_in cseq_at
shown_call = refl

shown_head : head_of unrestricted_invite ≡ head_with_tag (codes "a")
shown_head = head_by unrestricted_invite via (erin) bob (codes "c1") seven via_of shown_parties shown_call

nobody_parties : parties_in (anonymous_invite (codes "a")).lines ≡ Some (from [] anonymous (codes "a"), bob)
unfolding Classes.in_class Numbers.value_up_to Numbers.number_of Scanning.leading_run Scanning.after_run Scanning.split_once_at Scanning.closing_quote_from Scanning.without_trailing Reading.token_at
    Reading.text_at Reading.value_at Reading.param_at Reading.params_at Reading.all_params_at Reading.angle_of Reading.bare_of Reading.words_of Reading.quoted_of Reading.name_addr_of Reading.host_at
    Reading.port_number Reading.port_at parties_in
nobody_parties = refl

nobody_call : call_in (anonymous_invite (codes "a")).lines ≡ Some (codes "c1", seven)
unfolding Classes.in_class Numbers.value_up_to Numbers.number_of Scanning.leading_run Scanning.after_run Scanning.split_once_at Scanning.closing_quote_from Scanning.without_trailing Reading.token_at
    Reading.text_at Reading.value_at Reading.param_at Reading.params_at Reading.all_params_at Reading.angle_of Reading.bare_of Reading.words_of Reading.quoted_of Reading.name_addr_of Reading.host_at
    Reading.port_number Reading.port_at call_in cseq_at
nobody_call = refl

nobody_head : head_of (anonymous_invite (codes "a")) ≡ head_with_tag (codes "a")
nobody_head = head_by (anonymous_invite (codes "a")) via (from [] anonymous (codes "a")) bob (codes "c1") seven via_of nobody_parties nobody_call

other_parties : parties_in (anonymous_invite (codes "b")).lines ≡ Some (from [] anonymous (codes "b"), bob)
unfolding Classes.in_class Numbers.value_up_to Numbers.number_of Scanning.leading_run Scanning.after_run Scanning.split_once_at Scanning.closing_quote_from Scanning.without_trailing Reading.token_at
    Reading.text_at Reading.value_at Reading.param_at Reading.params_at Reading.all_params_at Reading.angle_of Reading.bare_of Reading.words_of Reading.quoted_of Reading.name_addr_of Reading.host_at
    Reading.port_number Reading.port_at parties_in
other_parties = refl

other_call : call_in (anonymous_invite (codes "b")).lines ≡ Some (codes "c1", seven)
unfolding Classes.in_class Numbers.value_up_to Numbers.number_of Scanning.leading_run Scanning.after_run Scanning.split_once_at Scanning.closing_quote_from Scanning.without_trailing Reading.token_at
    Reading.text_at Reading.value_at Reading.param_at Reading.params_at Reading.all_params_at Reading.angle_of Reading.bare_of Reading.words_of Reading.quoted_of Reading.name_addr_of Reading.host_at
    Reading.port_number Reading.port_at call_in cseq_at
other_call = refl

other_head : head_of (anonymous_invite (codes "b")) ≡ head_with_tag (codes "b")
other_head = head_by (anonymous_invite (codes "b")) via (from [] anonymous (codes "b")) bob (codes "c1") seven via_of other_parties other_call

pub heads : HeadsOfInvites
heads = record {
  received = erin_head;
  hidden = ap (λ (m : Message Start). head_of m) erin_masked ∙ nobody_head;
  another = ap (λ (m : Message Start). head_of m) other_masked ∙ other_head;
  shown = ap (λ (m : Message Start). head_of m) shown_masked ∙ shown_head;
}

-- ---- the sender

remote_by : (ls : List Line) (r : Remote) → tag_in (codes "From") ls ≡ r.tag → contact_uri ls ≡ r.target → route_set Caller ls ≡ r.routes → remote_of Caller ls ≡ r
remote_by ls r one two three = rw (one, two, three) refl

nobody_contact : values_of (codes "<sip:anonymous@anonymous.invalid>") ≡ (codes "<sip:anonymous@anonymous.invalid>") ∷ []
unfolding Classes.in_class Scanning.leading_run Scanning.after_run Scanning.split_once_at Scanning.without_trailing next_separator
nobody_contact = one_value (codes "<sip:anonymous@anonymous.invalid>") refl refl

nobody_uri : first_uri (((codes "<sip:anonymous@anonymous.invalid>") ∷ []) ++ []) ≡ codes "sip:anonymous@anonymous.invalid"
unfolding Classes.in_class Numbers.value_up_to Numbers.number_of Scanning.leading_run Scanning.after_run Scanning.split_once_at Scanning.closing_quote_from Scanning.without_trailing Reading.token_at
    Reading.text_at Reading.value_at Reading.param_at Reading.params_at Reading.all_params_at Reading.angle_of Reading.bare_of Reading.words_of Reading.quoted_of Reading.name_addr_of Reading.host_at
    Reading.port_number Reading.port_at
nobody_uri = refl

nobody_target : contact_uri (anonymous_invite (codes "a")).lines ≡ codes "sip:anonymous@anonymous.invalid"
unfolding contact_uri
nobody_target = ap (λ (vs : List (List ℕ)). first_uri (vs ++ [])) nobody_contact ∙ nobody_uri

nobody_tag : tag_in (codes "From") (anonymous_invite (codes "a")).lines ≡ codes "a"
unfolding Classes.in_class Numbers.value_up_to Numbers.number_of Scanning.leading_run Scanning.after_run Scanning.split_once_at Scanning.closing_quote_from Scanning.without_trailing Reading.token_at
    Reading.text_at Reading.value_at Reading.param_at Reading.params_at Reading.all_params_at Reading.angle_of Reading.bare_of Reading.words_of Reading.quoted_of Reading.name_addr_of Reading.host_at
    Reading.port_number Reading.port_at tag_in
nobody_tag = refl

nobody_routes : route_set Caller (anonymous_invite (codes "a")).lines ≡ []
unfolding route_set
nobody_routes = refl

nobody_remote : remote_of Caller (anonymous_invite (codes "a")).lines ≡ erin_at (codes "sip:anonymous@anonymous.invalid")
nobody_remote = remote_by (anonymous_invite (codes "a")).lines (erin_at (codes "sip:anonymous@anonymous.invalid")) nobody_tag nobody_target nobody_routes

shown_contact : values_of (codes "<sip:erin@127.0.0.1:5071>") ≡ (codes "<sip:erin@127.0.0.1:5071>") ∷ []
unfolding Classes.in_class Scanning.leading_run Scanning.after_run Scanning.split_once_at Scanning.without_trailing next_separator
shown_contact = one_value (codes "<sip:erin@127.0.0.1:5071>") refl refl

shown_uri : first_uri (((codes "<sip:erin@127.0.0.1:5071>") ∷ []) ++ []) ≡ codes "sip:erin@127.0.0.1:5071"
unfolding Classes.in_class Numbers.value_up_to Numbers.number_of Scanning.leading_run Scanning.after_run Scanning.split_once_at Scanning.closing_quote_from Scanning.without_trailing Reading.token_at
    Reading.text_at Reading.value_at Reading.param_at Reading.params_at Reading.all_params_at Reading.angle_of Reading.bare_of Reading.words_of Reading.quoted_of Reading.name_addr_of Reading.host_at
    Reading.port_number Reading.port_at
shown_uri = refl

shown_target : contact_uri unrestricted_invite.lines ≡ codes "sip:erin@127.0.0.1:5071"
unfolding contact_uri
shown_target = ap (λ (vs : List (List ℕ)). first_uri (vs ++ [])) shown_contact ∙ shown_uri

shown_tag : tag_in (codes "From") unrestricted_invite.lines ≡ codes "a"
unfolding Classes.in_class Numbers.value_up_to Numbers.number_of Scanning.leading_run Scanning.after_run Scanning.split_once_at Scanning.closing_quote_from Scanning.without_trailing Reading.token_at
    Reading.text_at Reading.value_at Reading.param_at Reading.params_at Reading.all_params_at Reading.angle_of Reading.bare_of Reading.words_of Reading.quoted_of Reading.name_addr_of Reading.host_at
    Reading.port_number Reading.port_at tag_in
shown_tag = refl

shown_routes : route_set Caller unrestricted_invite.lines ≡ []
unfolding route_set
shown_routes = refl

shown_remote : remote_of Caller unrestricted_invite.lines ≡ erin_at (codes "sip:erin@127.0.0.1:5071")
shown_remote = remote_by unrestricted_invite.lines (erin_at (codes "sip:erin@127.0.0.1:5071")) shown_tag shown_target shown_routes

nobody_number : number_in (anonymous_invite (codes "a")).lines ≡ Some 7
unfolding Classes.in_class Numbers.value_up_to Numbers.number_of Scanning.leading_run Scanning.after_run Scanning.split_once_at Scanning.closing_quote_from Scanning.without_trailing Reading.token_at
    Reading.text_at Reading.value_at Reading.param_at Reading.params_at Reading.all_params_at Reading.angle_of Reading.bare_of Reading.words_of Reading.quoted_of Reading.name_addr_of Reading.host_at
    Reading.port_number Reading.port_at number_at number_in cseq_at
nobody_number = refl

pub remotes : RemotesOfInvites
remotes = record {
  of_restricted = ap (λ (m : Message Start). remote_of Caller m.lines) erin_masked ∙ nobody_remote;
  number = ap (λ (m : Message Start). number_in m.lines) erin_masked ∙ nobody_number;
  of_unrestricted = ap (λ (m : Message Start). remote_of Caller m.lines) shown_masked ∙ shown_remote;
}
