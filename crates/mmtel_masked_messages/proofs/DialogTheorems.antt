-- What a leg reads of masked lines.
use Rattle.std.proofs.Common.{◌≡◌, ℕ, List, [], ◌∷◌, refl, sym, ap, ◌∙◌, Bool, true, false, Option, Some, None, codes, map}
use Rattle.std.specs.Option.{option_map, unwrap_or}
use Rattle.mmtel_base.specs.Chain.{◌>>=◌}
use Rattle.mmtel_lex.specs.Reading as Reading
use Rattle.mmtel_lex.specs.Reading.{name_addr_of}
use Rattle.mmtel_lex.specs.declared.values.NameAddr.{NameAddr}
use Rattle.mmtel_history.specs.HistoryInfo.{anonymous}
use Rattle.mmtel_leg.specs.Dialogues.{caller_dialogue, number_at, number_in}
use Rattle.mmtel_leg.specs.Remotes.{contact_uri, field, field_of, first_uri, in_order, route_set, tag_in, uri_named}
use Rattle.mmtel_leg.specs.declared.dialogues.Dialogue.{Dialogue}
use Rattle.mmtel_message.specs.Faults.{is_request}
use Rattle.mmtel_message.specs.Message.{Line, Message, first_value, lines_named}
use Rattle.mmtel_message.specs.declared.messages.Start.{Start}
use Rattle.mmtel_message.specs.declared.values.Mode.TheVariants.{Plain}
use Rattle.mmtel_base.specs.Classes as Classes
use Rattle.mmtel_base.specs.Scanning as Scanning
use Rattle.mmtel_trust.specs.Kinds.{kind_of}
use Rattle.mmtel_trust.specs.PrivateFields.{PrivateFields, hidden_value, hide_if, keeps_values, masked_lines, masked_message, masked_value, private_fields_in}
use Rattle.mmtel_trust.proofs.ByName.{texts-changed}
use Rattle.mmtel_trust.proofs.ParsedTheorems.{call_id_kept, cseq_kept, way_kept}
use Rattle.mmtel_trust.proofs.IndexKeeping.{changed, first-masked, first_named, from_tag-masked, from_value, head_value, to_tag-masked, values-masked}
use Rattle.mmtel_trust.proofs.Masked.{hidden_uris}
use Rattle.mmtel_types.specs.declared.sides.Side.TheVariants.{Caller, Callee}
use Rattle.mmtel_masked_messages.specs.Dialogs.{ContactDecides, DialogsDifferInRemote, EquivalentDialogsDifferInRemote, EquivalentSendersHaveOneName}
use Rattle.mmtel_masked_messages.specs.Dialogs.{NumbersStay, RemotesDifferInTarget, RoutesStay, TagsStay, TargetsAreAnonymous, with_remote_value}
use Rattle.mmtel_masked_messages.proofs.ResponseTheorems.{request_to, to_kept}

-- ---- tags, routes and numbers

pub tags : TagsStay
unfolding tag_in
tags p Caller ls = ap (λ (t : Option (List ℕ)). unwrap_or t []) (from_tag-masked p ls)
tags p Callee ls = ap (λ (t : Option (List ℕ)). unwrap_or t []) (to_tag-masked p ls)

pub routes : RoutesStay
unfolding route_set
routes p side ls = ap (in_order side) (values-masked p Plain (codes "Record-Route") ls (way_kept p))

pub numbers : NumbersStay
unfolding number_in
numbers p ls = ap (λ (v : Option (List ℕ)). v >>= number_at) (first-masked p (codes "CSeq") ls (cseq_kept p))

pub remotes : RemotesDifferInTarget
remotes p side ls = rw (tags p side ls, routes p side ls) refl

-- ---- the target

contact_kept : (p : PrivateFields) → p.contact ≡ false → keeps_values p (kind_of (codes "Contact")) ≡ true
unfolding kind_of
contact_kept p e = rw e refl

pub target : ContactDecides
unfolding contact_uri
target p ls e = ap first_uri (values-masked p Plain (codes "Contact") ls (contact_kept p e))

contact_value : (p : PrivateFields) (v : List ℕ) → masked_value p (kind_of (codes "Contact")) v ≡ Some (hide_if p.contact v)
unfolding kind_of
contact_value p v = refl

first_text : (f : List ℕ → List ℕ) (ls : List Line) (v : List ℕ) → head_value ls ≡ Some v → first_uri (map f (map (λ l. l.1) ls)) ≡ uri_named (name_addr_of (f v))
first_text f [] v e = absurd cc
first_text f (l ∷ ls) v e = let is : l.1 ≡ v = cc in ap (λ (w : List ℕ). uri_named (name_addr_of (f w))) is

abbrev uri_or_none : Option (List ℕ) → List ℕ
uri_or_none o = unwrap_or o []

named_uri : (o : Option NameAddr) → uri_named o ≡ uri_or_none (option_map (λ n. n.uri) o)
named_uri None = refl
named_uri (Some n) = refl

-- a value that parses is anonymous once it is hidden
hidden_named : (b : Bool) (v : List ℕ) (n : NameAddr) → b ≡ true → name_addr_of v ≡ Some n → uri_named (name_addr_of (hide_if b v)) ≡ anonymous
hidden_named true v n e read = named_uri (name_addr_of (hidden_value v)) ∙ (ap uri_or_none (hidden_uris v) ∙ ap (λ (o : Option NameAddr). uri_or_none (option_map (λ u. anonymous) (option_map (λ n. n.uri) o))) read)
hidden_named false v n e read = absurd cc

pub nobody : TargetsAreAnonymous
unfolding contact_uri
nobody p ls v n e alone first read =
    ap first_uri (alone ∙ texts-changed p (codes "Contact") (hide_if p.contact) (contact_value p) ls)
    ∙ (first_text (hide_if p.contact) (lines_named (codes "Contact") ls) v (sym (first_named (codes "Contact") ls) ∙ first)
    ∙ hidden_named p.contact v n e read)

-- ---- a caller's dialog

none_hidden : (b : Bool) → [] ≡ hide_if b []
unfolding hidden_value Scanning.closing_quote_from Reading.name_addr_of Reading.words_of Reading.quoted_of Reading.angle_of Reading.bare_of Reading.all_params_at Reading.params_at Reading.param_at
    Reading.token_at Reading.value_at Reading.text_at Classes.in_class Scanning.leading_run Scanning.after_run Scanning.without_trailing Scanning.split_once_at
none_hidden true = refl
none_hidden false = refl

field_hidden : (b : Bool) (o : Option (List ℕ)) → unwrap_or (option_map (hide_if b) o) [] ≡ hide_if b (unwrap_or o [])
field_hidden b None = none_hidden b
field_hidden b (Some v) = refl

from_field : (p : PrivateFields) (ls : List Line) → field (codes "From") (masked_lines p ls) ≡ hide_if p.from (field (codes "From") ls)
unfolding field
from_field p ls = ap (λ (o : Option (List ℕ)). unwrap_or o []) (changed p (codes "From") (hide_if p.from) ls (from_value p)) ∙ field_hidden p.from (first_value (codes "From") ls)

kept_field : (p : PrivateFields) (name : List ℕ) (ls : List Line) → keeps_values p (kind_of name) ≡ true → field name (masked_lines p ls) ≡ field name ls
unfolding field
kept_field p name ls kept = ap (λ (o : Option (List ℕ)). unwrap_or o []) (first-masked p name ls kept)

pub dialogs : DialogsDifferInRemote
dialogs p peer ls tag e =
    rw (kept_field p (codes "Call-ID") ls (call_id_kept p), kept_field p (codes "To") ls (to_kept p e), from_field p ls, numbers p ls) refl

-- ---- two messages

-- what does not depend on what is private is the same of both
seen_equal : {B : Type 0} (f : List Line → B) → ((p : PrivateFields) (ls : List Line) → f (masked_lines p ls) ≡ f ls) → (p q : PrivateFields) (m n : Message Start) →
    masked_message p m ≡ masked_message q n → f m.lines ≡ f n.lines
seen_equal f law p q m n e = sym (law (private_fields_in m.start p) m.lines) ∙ (ap (λ (x : Message Start). f x.lines) e ∙ law (private_fields_in n.start q) n.lines)

target_equal : (p q : PrivateFields) (m n : Message Start) → masked_message p m ≡ masked_message q n → (private_fields_in m.start p).contact ≡ false → (private_fields_in n.start q).contact ≡ false →
    contact_uri m.lines ≡ contact_uri n.lines
target_equal p q m n e a b = sym (target (private_fields_in m.start p) m.lines a) ∙ (ap (λ (x : Message Start). contact_uri x.lines) e ∙ target (private_fields_in n.start q) n.lines b)

pub equal_dialogs : EquivalentSendersHaveOneName
equal_dialogs p q side m n e =
    let tag = seen_equal (λ ls. tag_in (field_of side) ls) (λ p ls. tags p side ls) p q m n e in
    let way = seen_equal (route_set side) (λ p ls. routes p side ls) p q m n e in
    record {
      tag = tag;
      routes = way;
      number = seen_equal number_in numbers p q m n e;
      remote = λ public. rw (tag, way, target_equal p q m n e public.0 (ap (λ (x : Message Start). (private_fields_in x.start q).contact) (sym e) ∙ public.1)) refl;
    }

pub dialogs_equal : EquivalentDialogsDifferInRemote
dialogs_equal p q m n peer tag request e =
    let P : PrivateFields = private_fields_in m.start p in
    let Q : PrivateFields = private_fields_in n.start q in
    let facing : Dialogue → Dialogue = with_remote_value (field (codes "From") n.lines) in
    ap facing (sym (ap (with_remote_value []) (dialogs P peer m.lines tag (request_to p m.start request))))
    ∙ (ap (λ (x : Message Start). facing (caller_dialogue peer x.lines tag)) e
    ∙ ap facing (dialogs Q peer n.lines tag (request_to q n.start (ap (λ (x : Message Start). is_request x.start) (sym e) ∙ request))))
