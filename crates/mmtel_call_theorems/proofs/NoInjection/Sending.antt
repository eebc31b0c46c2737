-- What the server sends in a step is clean, if it is built from what is clean.
use Rattle.std.proofs.Common.{◌≡◌, inl, ◌==◌, Bool, true, false, ℕ, List, [], ◌∷◌, ◌++◌, map, Option, Some, None, refl}
use Rattle.std.specs.Prelude.{IfSome, codes, decimal, if◌then◌else◌, option_to_list}
use Rattle.std.specs.Option.{unwrap_or}
use Rattle.std.specs.List.{list_all}
use Rattle.mmtel_base.specs.Numbers.{next_number}
use Rattle.mmtel_base.proofs.Runs.{and_true}
use Rattle.mmtel_compose.specs.Responses.{own_reply, relayed_reply}
use Rattle.mmtel_compose.specs.Attempts.{alert_lines, diverted_destination, first_destination, uri_in_brackets, without_params}
use Rattle.mmtel_compose.specs.Requests.{bare_parts, own_parts, relayed_parts, with_to}
use Rattle.mmtel_compose.specs.ReceivedMessages.{MessageView}
use Rattle.mmtel_compose.specs.declared.attempts.Destination.{Destination}
use Rattle.mmtel_output.specs.Outputs.{after_draw, token, with_emit}
use Rattle.mmtel_output.specs.SentInvites.{is_cancellable}
use Rattle.mmtel_output.specs.Sending.{ack_text, attempt_dialog, relayed_ack_text, with_ack, with_attempt_invite, with_bye, with_cancel, with_due_cancel, with_final_ack}
use Rattle.mmtel_output.specs.Sending.{with_own_request, with_relayed_ack, with_relayed_request, with_relayed_response, with_response, with_status_response}
use Rattle.mmtel_output.specs.declared.outputs.StepOutput.{StepOutput}
use Rattle.mmtel_output.specs.declared.sent_invites.SentInvite.{SentInvite}
use Rattle.mmtel_history.specs.EntryUri.{without_cause}
use Rattle.mmtel_leg.specs.Dialogues.{caller_dialogue, caller_dialogue_with_remote as opened_dialog, names_itself, request_uri, target_or, with_remote}
use Rattle.mmtel_leg.specs.Remotes.{contact_uri, field, field_of, first_uri, in_order, remote_of, route_set, tag_in, uri_named}
use Rattle.mmtel_leg.specs.Requests.{RequestPartsView, ack_of, request_numbered, request_of}
use Rattle.mmtel_leg.specs.declared.dialogues.Dialogue.{Dialogue}
use Rattle.mmtel_leg.specs.declared.remotes.Remote.{Remote}
use Rattle.mmtel_lex.specs.Grammar.{uri_text}
use Rattle.mmtel_lex.specs.Reading.{name_addr_of}
use Rattle.mmtel_lex.specs.declared.values.NameAddr.{NameAddr}
use Rattle.mmtel_lex.specs.declared.values.Uri.{Uri}
use Rattle.mmtel_message.specs.Addresses.{contact_text}
use Rattle.mmtel_message.specs.Headers.{is_value_byte}
use Rattle.mmtel_message.specs.Message.{Line, first_value, values_named}
use Rattle.mmtel_message.specs.Phrases.{Phrases, first_phrases, further_phrases, phrase_in, phrase_of}
use Rattle.mmtel_message.specs.Responses.{response}
use Rattle.mmtel_message.specs.Texts.{message_text}
use Rattle.mmtel_message.specs.declared.values.Mode.TheVariants.{Plain}
use Rattle.mmtel_transaction.specs.declared.words.Emit.{Emit}
use Rattle.mmtel_transaction.specs.declared.words.Emit.TheVariants as emit
use Rattle.mmtel_transaction.specs.declared.words.TKey.{TKey}
use Rattle.mmtel_trust.specs.ParsedMessage.{ParsedMessage, tag_of}
use Rattle.mmtel_trust.specs.HeaderTable.{name_addr_in}
use Rattle.mmtel_types.specs.declared.addrs.Addr.{Addr}
use Rattle.mmtel_types.specs.declared.numbers.Peer.{Peer}
use Rattle.mmtel_types.specs.declared.sides.Side.{Side}
use Rattle.mmtel_types.specs.declared.sides.Side.TheVariants.{Caller, Callee}
use Rattle.mmtel_call_theorems.specs.NoInjection.Acks.{IsPassedTo, ReceivedAck}
use Rattle.mmtel_call_theorems.specs.NoInjection.Messages.{HasNoInjection, HaveNoInjection, LinesHaveNoInjection}
use Rattle.mmtel_call_theorems.specs.NoInjection.Emits.{Each, EmitHasNoInjection, IsTextOfAck, OutputHasNoInjection}
use Rattle.mmtel_call_theorems.specs.NoInjection.Inputs.{UriHasNoInjection}
use Rattle.mmtel_call_theorems.specs.NoInjection.CallState.{DialogueHasNoInjection, RequestPartsHaveNoInjection}
use Rattle.mmtel_call_theorems.proofs.NoInjection.Bytes.{all_cons, decimal_no_injection, joined}
use Rattle.mmtel_call_theorems.proofs.NoInjection.Building.{contact_no_injection, lines_joined, request_no_injection, response_no_injection, tagged_no_injection}
use Rattle.mmtel_call_theorems.proofs.NoInjection.ReceivedMessages.{ParsedMessageHasNoInjection, caused_no_injection, from_no_injection, uncaused_no_injection}
use Rattle.mmtel_call_theorems.proofs.NoInjection.Reading.{first_no_injection, name_no_injection, name_text_no_injection, or_no_injection, reverse_all, tag_no_injection, values_named_no_injection}
pub use Rattle.mmtel_call_theorems.proofs.Each.{each_append, each_drop, each_filter, each_get, each_take, each_without}

-- ---- each of a list

pub each_front : {A : Type 0} (P : A → Type 0) (xs ys : List A) → Each P (xs ++ ys) → Each P xs
each_front P [] ys e = tt
each_front P (x ∷ xs) ys e = (e.0, each_front P xs ys e.1)

pub each_back : {A : Type 0} (P : A → Type 0) (xs ys : List A) → Each P (xs ++ ys) → Each P ys
each_back P [] ys e = e
each_back P (x ∷ xs) ys e = each_back P xs ys e.1

pub each_map : {A B : Type 0} (P : A → Type 0) (Q : B → Type 0) (f : A → B) → ((x : A) → P x → Q (f x)) → (xs : List A) → Each P xs → Each Q (map f xs)
each_map P Q f go [] e = tt
each_map P Q f go (x ∷ xs) e = (go x e.0, each_map P Q f go xs e.1)

pub each_option : {A : Type 0} (P : A → Type 0) (o : Option A) → IfSome o P → Each P (option_to_list o)
each_option P None e = tt
each_option P (Some x) e = (e, tt)

-- ---- tokens and what is sent

pub token_no_injection : (acks : List ReceivedAck) (output : StepOutput) → OutputHasNoInjection acks output → HasNoInjection (token output)
token_no_injection acks output is =
    let n : ℕ = next_number output.tokens.drawn in
    joined output.tokens.token (45 ∷ decimal n) is.token_in (all_cons is_value_byte 45 (decimal n) refl (decimal_no_injection n))

pub emit_no_injection : (acks : List ReceivedAck) (e : Emit) (output : StepOutput) → EmitHasNoInjection acks e → OutputHasNoInjection acks output → OutputHasNoInjection acks (with_emit e output)
emit_no_injection acks e output f is = record { token_in = is.token_in; out_in = each_append (EmitHasNoInjection acks) output.out (e ∷ []) is.out_in (f, tt) }

pub if_output : (acks : List ReceivedAck) (b : Bool) (one two : StepOutput) → OutputHasNoInjection acks one → OutputHasNoInjection acks two → OutputHasNoInjection acks (if b then one else two)
if_output acks true one two e f = e
if_output acks false one two e f = f

-- ---- phrases

abbrev is_no_injection_transition : ℕ × List ℕ → Bool
is_no_injection_transition row = list_all is_value_byte row.1

phrase_in_no_injection : (rows : Phrases) (code : ℕ) → list_all is_no_injection_transition rows ≡ true → HasNoInjection (phrase_in rows code)
phrase_in_no_injection [] code e = refl
phrase_in_no_injection (row ∷ rows) code e =
    let halves = and_true (is_no_injection_transition row) (list_all is_no_injection_transition rows) e in
    by (code == row.0) halves.0 (phrase_in_no_injection rows code halves.1)
  where
    by : (t : Bool) → HasNoInjection row.1 → HasNoInjection (phrase_in rows code) → HasNoInjection (if t then row.1 else phrase_in rows code)
    by true f g = f
    by false f g = g

pub phrase_no_injection : (code : ℕ) → HasNoInjection (phrase_of code)
phrase_no_injection code = phrase_in_no_injection (first_phrases ++ further_phrases) code refl

-- ---- responses

pub answered_no_injection : (acks : List ReceivedAck) (sip : Addr) (key : TKey) (m : MessageView) (tag : List ℕ) (code : ℕ) (passed named : List Line) (body : List ℕ) (output : StepOutput) →
    ParsedMessageHasNoInjection m.parsed → HasNoInjection tag → LinesHaveNoInjection passed → LinesHaveNoInjection named → OutputHasNoInjection acks output →
    OutputHasNoInjection acks (with_response sip key m tag code passed named body output)
answered_no_injection acks sip key m tag code passed named body output is e f g had =
    let r = own_reply (contact_text sip) m.source tag code passed named body in
    emit_no_injection acks (emit.Reply key (response m.parsed.start m.parsed.lines r)) output
    (response_no_injection m.parsed.start m.parsed.lines r is.lines_in (record { phrase_in = phrase_no_injection code; tag_in = e; contact_in = contact_no_injection sip; passed_in = f; named_in = g })) had

pub replied_no_injection : (acks : List ReceivedAck) (sip : Addr) (key : TKey) (m : MessageView) (tag : List ℕ) (code : ℕ) (output : StepOutput) → ParsedMessageHasNoInjection m.parsed →
    HasNoInjection tag → OutputHasNoInjection acks output → OutputHasNoInjection acks (with_status_response sip key m tag code output)
replied_no_injection acks sip key m tag code output is e had = answered_no_injection acks sip key m tag code [] [] [] output is e refl refl had

pub relayed_no_injection : (acks : List ReceivedAck) (sip : Addr) (key : TKey) (m : MessageView) (tag : List ℕ) (passed : List Line) (r : MessageView) (output : StepOutput) →
    ParsedMessageHasNoInjection m.parsed → HasNoInjection tag → LinesHaveNoInjection passed → ParsedMessageHasNoInjection r.parsed → OutputHasNoInjection acks output →
    OutputHasNoInjection acks (with_relayed_response sip key m tag passed r output)
relayed_no_injection acks sip key m tag passed r output is e f received had =
    let reply = relayed_reply (contact_text sip) m.source tag passed r.parsed in
    emit_no_injection acks (emit.Reply key (response m.parsed.start m.parsed.lines reply)) output
    (response_no_injection m.parsed.start m.parsed.lines reply is.lines_in (record { phrase_in = received.phrase_no_injection; tag_in = e; contact_in = contact_no_injection sip; passed_in = f; named_in = refl })) had

-- ---- requests in a dialog

given_no_injection : (given : RequestPartsView) → HasNoInjection given.branch → LinesHaveNoInjection given.shown → RequestPartsHaveNoInjection given
given_no_injection given e f = record { branch_in = e; shown_in = f }

pub asked_no_injection : (acks : List ReceivedAck) (sip : Addr) (method : List ℕ) (d : Dialogue) (named : List Line) (body : List ℕ) (output : StepOutput) →
    DialogueHasNoInjection d → HasNoInjection method → LinesHaveNoInjection named → OutputHasNoInjection acks output → OutputHasNoInjection acks (with_own_request sip method d named body output)
asked_no_injection acks sip method d named body output is e f had =
    let given = own_parts sip (token output) named body in
    emit_no_injection acks (emit.Ask d.peer (request_of d method given)) (after_draw output)
    (request_no_injection d (next_number d.local_cseq) method given is e (given_no_injection given (token_no_injection acks output had) f)) had

pub bye_no_injection : (acks : List ReceivedAck) (sip : Addr) (d : Dialogue) (output : StepOutput) → DialogueHasNoInjection d → OutputHasNoInjection acks output → OutputHasNoInjection acks (with_bye sip d output)
bye_no_injection acks sip d output is had = asked_no_injection acks sip (codes "BYE") d [] [] output is refl refl had

pub asked_for_no_injection : (acks : List ReceivedAck) (sip : Addr) (method : List ℕ) (d : Dialogue) (passed : List Line) (m : ParsedMessage) (output : StepOutput) →
    DialogueHasNoInjection d → HasNoInjection method → LinesHaveNoInjection passed → OutputHasNoInjection acks output → OutputHasNoInjection acks (with_relayed_request sip method d passed m output)
asked_for_no_injection acks sip method d passed m output is e f had =
    let given = relayed_parts sip (token output) passed m in
    emit_no_injection acks (emit.Ask d.peer (request_of d method given)) (after_draw output)
    (request_no_injection d (next_number d.local_cseq) method given is e (given_no_injection given (token_no_injection acks output had) f)) had

-- ---- ACKs of a 2xx

ack_no_injection : (acks : List ReceivedAck) (d : Dialogue) (given : RequestPartsView) → IsPassedTo acks d given → DialogueHasNoInjection d → RequestPartsHaveNoInjection given →
    IsTextOfAck acks (message_text (ack_of d given))
ack_no_injection acks d given passes is had = record { dialogue = d; parts = given; passes = passes; no_injection = request_no_injection d (unwrap_or d.invite_cseq 0) (codes "ACK") given is refl had; is = refl }

pub ack_text_no_injection : (acks : List ReceivedAck) (sip : Addr) (d : Dialogue) (branch : List ℕ) → DialogueHasNoInjection d → HasNoInjection branch → IsTextOfAck acks (ack_text sip d branch)
unfolding ack_text
ack_text_no_injection acks sip d branch is e = ack_no_injection acks d (bare_parts sip branch) (inl refl) is (given_no_injection (bare_parts sip branch) e refl)

pub relayed_ack_no_injection : (acks : List ReceivedAck) (sip : Addr) (d : Dialogue) (branch : List ℕ) (passed : List Line) (m : ParsedMessage) →
    IsPassedTo acks d (relayed_parts sip branch passed m) → DialogueHasNoInjection d → HasNoInjection branch → LinesHaveNoInjection passed → IsTextOfAck acks (relayed_ack_text sip d branch passed m)
unfolding relayed_ack_text
relayed_ack_no_injection acks sip d branch passed m passes is e f = ack_no_injection acks d (relayed_parts sip branch passed m) passes is (given_no_injection (relayed_parts sip branch passed m) e f)

pub acked_no_injection : (acks : List ReceivedAck) (sip : Addr) (d : Dialogue) (output : StepOutput) → DialogueHasNoInjection d → OutputHasNoInjection acks output → OutputHasNoInjection acks (with_ack sip d output)
acked_no_injection acks sip d output is had =
    emit_no_injection acks (emit.Plain d.peer (ack_text sip d (token output))) (after_draw output) (ack_text_no_injection acks sip d (token output) is (token_no_injection acks output had)) had

pub acked_for_no_injection : (acks : List ReceivedAck) (sip : Addr) (d : Dialogue) (passed : List Line) (m : ParsedMessage) (output : StepOutput) →
    IsPassedTo acks d (relayed_parts sip (token output) passed m) → DialogueHasNoInjection d → LinesHaveNoInjection passed → OutputHasNoInjection acks output →
    OutputHasNoInjection acks (with_relayed_ack sip d passed m output)
acked_for_no_injection acks sip d passed m output passes is f had =
    emit_no_injection acks (emit.Plain d.peer (relayed_ack_text sip d (token output) passed m)) (after_draw output)
    (relayed_ack_no_injection acks sip d (token output) passed m passes is (token_no_injection acks output had) f) had

-- ---- messages that copy parts of an INVITE

-- the remote side (tag, target and routes) in a message
pub record RemoteHasNoInjection (r : Remote) : Type 0 where
  pub tag_in : HasNoInjection r.tag
  pub target_in : HasNoInjection r.target
  pub routes_in : HaveNoInjection r.routes

-- the parts of it that are copied
pub record SentHaveNoInjection (acks : List ReceivedAck) (d : Dialogue) (branch : List ℕ) (ack : Option (List ℕ)) (forks : List Dialogue) (early : Option Remote) : Type 0 where
  pub dialogue_in : DialogueHasNoInjection d
  pub branch_in : HasNoInjection branch
  pub ack_in : IfSome ack (IsTextOfAck acks)
  pub forks_in : Each DialogueHasNoInjection forks
  pub early_in : IfSome early RemoteHasNoInjection

abbrev pub InvitationHasNoInjection : (acks : List ReceivedAck) → SentInvite → Type 0
InvitationHasNoInjection acks i = SentHaveNoInjection acks i.dialogue i.branch i.ack i.forks i.early

pub cancel_no_injection : (acks : List ReceivedAck) (sip : Addr) (i : SentInvite) (output : StepOutput) → InvitationHasNoInjection acks i → OutputHasNoInjection acks output →
    OutputHasNoInjection acks (with_cancel sip i output)
cancel_no_injection acks sip i output is had =
    emit_no_injection acks (emit.Ask i.dialogue.peer (request_numbered i.dialogue i.number (codes "CANCEL") (bare_parts sip i.branch))) output
    (request_no_injection i.dialogue i.number (codes "CANCEL") (bare_parts sip i.branch) is.dialogue_in refl (given_no_injection (bare_parts sip i.branch) is.branch_in refl)) had

pub cancelled_no_injection : (acks : List ReceivedAck) (sip : Addr) (i : SentInvite) (output : StepOutput) → InvitationHasNoInjection acks i → OutputHasNoInjection acks output →
    OutputHasNoInjection acks (with_due_cancel sip i output)
cancelled_no_injection acks sip i output is had = if_output acks (is_cancellable i) (with_cancel sip i output) output (cancel_no_injection acks sip i output is had) had

pub field_no_injection : (name : List ℕ) (ls : List Line) → LinesHaveNoInjection ls → HasNoInjection (field name ls)
unfolding field
field_no_injection name ls e = or_no_injection (first_value name ls) (first_no_injection name ls e)

pub final_acked_no_injection : (acks : List ReceivedAck) (sip : Addr) (key : TKey) (i : SentInvite) (m : ParsedMessage) (output : StepOutput) → InvitationHasNoInjection acks i →
    ParsedMessageHasNoInjection m → OutputHasNoInjection acks output → OutputHasNoInjection acks (with_final_ack sip key i m output)
final_acked_no_injection acks sip key i m output is received had =
    let to : List ℕ = field (codes "To") m.lines in
    let d : Dialogue = with_to i.dialogue to in
    let had_parts = is.dialogue_in in
    emit_no_injection acks (emit.Ack key (request_numbered d i.number (codes "ACK") (bare_parts sip i.branch))) output
    (request_no_injection d i.number (codes "ACK") (bare_parts sip i.branch)
    (record {
      call_id_in = had_parts.call_id_in;
      local_in = had_parts.local_in;
      remote_in = field_no_injection (codes "To") m.lines received.lines_in;
      tag_in = refl;
      target_in = had_parts.target_in;
      routes_in = had_parts.routes_in;
    })
    refl (given_no_injection (bare_parts sip i.branch) is.branch_in refl)) had

-- ---- the remote side in a message

tag_in_no_injection : (name : List ℕ) (ls : List Line) → LinesHaveNoInjection ls → HasNoInjection (tag_in name ls)
unfolding tag_in
tag_in_no_injection name ls e = or_no_injection (tag_of (first_value name ls)) (tag_no_injection (first_value name ls) (first_no_injection name ls e))

first_uri_no_injection : (values : List (List ℕ)) → HaveNoInjection values → HasNoInjection (first_uri values)
first_uri_no_injection [] e = refl
first_uri_no_injection (value ∷ values) e = by (name_addr_of value) refl
  where
    by : (o : Option NameAddr) → name_addr_of value ≡ o → HasNoInjection (uri_named o)
    by None f = refl
    by (Some n) f = (name_no_injection value n f (and_true (list_all is_value_byte value) (list_all (list_all is_value_byte) values) e).0).uri

contact_uri_no_injection : (ls : List Line) → LinesHaveNoInjection ls → HasNoInjection (contact_uri ls)
unfolding contact_uri
contact_uri_no_injection ls e = first_uri_no_injection (values_named Plain (codes "Contact") ls) (values_named_no_injection Plain (codes "Contact") ls e)

in_order_no_injection : (side : Side) (values : List (List ℕ)) → HaveNoInjection values → HaveNoInjection (in_order side values)
in_order_no_injection Caller values e = e
in_order_no_injection Callee values e = reverse_all (list_all is_value_byte) values e

route_set_no_injection : (side : Side) (ls : List Line) → LinesHaveNoInjection ls → HaveNoInjection (route_set side ls)
unfolding route_set
route_set_no_injection side ls e = in_order_no_injection side (values_named Plain (codes "Record-Route") ls) (values_named_no_injection Plain (codes "Record-Route") ls e)

pub remote_no_injection : (side : Side) (ls : List Line) → LinesHaveNoInjection ls → RemoteHasNoInjection (remote_of side ls)
remote_no_injection side ls e = record { tag_in = tag_in_no_injection (field_of side) ls e; target_in = contact_uri_no_injection ls e; routes_in = route_set_no_injection side ls e }

pub if_text : (b : Bool) (one two : List ℕ) → HasNoInjection one → HasNoInjection two → HasNoInjection (if b then one else two)
if_text true one two e f = e
if_text false one two e f = f

if_texts : (b : Bool) (one two : List (List ℕ)) → HaveNoInjection one → HaveNoInjection two → HaveNoInjection (if b then one else two)
if_texts true one two e f = e
if_texts false one two e f = f

remote_or_no_injection : (target before : List ℕ) → HasNoInjection target → HasNoInjection before → HasNoInjection (target_or target before)
remote_or_no_injection [] before e f = f
remote_or_no_injection (b ∷ target) before e f = e

pub met_no_injection : (d : Dialogue) (r : Remote) → DialogueHasNoInjection d → RemoteHasNoInjection r → DialogueHasNoInjection (with_remote d r)
met_no_injection d r is had = record {
  call_id_in = is.call_id_in;
  local_in = is.local_in;
  remote_in = is.remote_in;
  tag_in = if_text (names_itself d.side r.tag) r.tag d.remote_tag had.tag_in is.tag_in;
  target_in = remote_or_no_injection r.target d.target had.target_in is.target_in;
  routes_in = if_texts (names_itself d.side r.tag) r.routes d.routes had.routes_in is.routes_in;
}

pub opened_no_injection : (peer : Peer) (ls : List Line) (tag : List ℕ) → LinesHaveNoInjection ls → HasNoInjection tag → DialogueHasNoInjection (opened_dialog peer ls tag)
opened_no_injection peer ls tag e f =
    met_no_injection (caller_dialogue peer ls tag) (remote_of Caller ls)
    (record {
      call_id_in = field_no_injection (codes "Call-ID") ls e;
      local_in = tagged_no_injection (field (codes "To") ls) tag (field_no_injection (codes "To") ls e) f;
      remote_in = field_no_injection (codes "From") ls e;
      tag_in = refl;
      target_in = refl;
      routes_in = refl;
    })
    (remote_no_injection Caller ls e)

-- ---- an attempt

pub record DestinationHasNoInjection (destination : Destination) : Type 0 where
  pub uri_in : HasNoInjection destination.uri
  pub to_in : HasNoInjection destination.to
  pub routes_in : HaveNoInjection destination.routes

without_params_no_injection : (v : Option (List ℕ)) → IfSome v HasNoInjection → HasNoInjection (without_params (name_addr_in v))
without_params_no_injection None e = refl
without_params_no_injection (Some v) e = by (name_addr_of v) refl
  where
    by : (o : Option NameAddr) → name_addr_of v ≡ o → HasNoInjection (without_params o)
    by None f = refl
    by (Some n) f = let is = name_no_injection v n f e in name_text_no_injection (record n { params = [] }) is.display is.uri refl

pub first_destination_no_injection : (peer : Peer) (routes : List (List ℕ)) (m : ParsedMessage) → HaveNoInjection routes → HasNoInjection (request_uri m.start) → ParsedMessageHasNoInjection m →
    DestinationHasNoInjection (first_destination peer routes m)
first_destination_no_injection peer routes m e uri is = record { uri_in = uri; to_in = without_params_no_injection m.to is.to_in; routes_in = e }

bracketed_no_injection : (uri : List ℕ) → HasNoInjection uri → HasNoInjection (uri_in_brackets uri)
bracketed_no_injection uri e = name_text_no_injection (record { display = []; uri = uri; params = [] }) refl e refl

pub diverted_dest_no_injection : (peer : Peer) (routes : List (List ℕ)) (target : Uri) (cause : ℕ) → HaveNoInjection routes → UriHasNoInjection target →
    DestinationHasNoInjection (diverted_destination peer routes target cause)
diverted_dest_no_injection peer routes target cause e f = record {
  uri_in = caused_no_injection cause (uri_text target) f;
  to_in = bracketed_no_injection (without_cause (uri_text target)) (uncaused_no_injection (uri_text target) f);
  routes_in = e;
}

pub attempt_no_injection : (acks : List ReceivedAck) (destination : Destination) (m : ParsedMessage) (restricted : Bool) (output : StepOutput) → DestinationHasNoInjection destination →
    ParsedMessageHasNoInjection m → OutputHasNoInjection acks output → DialogueHasNoInjection (attempt_dialog destination m restricted output)
attempt_no_injection acks destination m restricted output is received had = record {
  call_id_in = token_no_injection acks output had;
  local_in = from_no_injection restricted (token (after_draw output)) m.lines (token_no_injection acks (after_draw output) had) received.lines_in;
  remote_in = is.to_in;
  tag_in = refl;
  target_in = is.uri_in;
  routes_in = is.routes_in;
}

alert_no_injection : (waiting : Bool) → LinesHaveNoInjection (alert_lines waiting)
alert_no_injection true = refl
alert_no_injection false = refl

pub offered_no_injection : (acks : List ReceivedAck) (sip : Addr) (destination : Destination) (m : ParsedMessage) (restricted : Bool) (passed : List Line) (waiting : Bool) (output : StepOutput) →
    DestinationHasNoInjection destination → ParsedMessageHasNoInjection m → LinesHaveNoInjection passed → OutputHasNoInjection acks output →
    OutputHasNoInjection acks (with_attempt_invite sip destination m restricted passed waiting output)
offered_no_injection acks sip destination m restricted passed waiting output is received e had =
    let d : Dialogue = attempt_dialog destination m restricted output in
    let given = relayed_parts sip (token (after_draw (after_draw output))) (passed ++ alert_lines waiting) m in
    emit_no_injection acks (emit.Ask destination.peer (request_numbered d 1 (codes "INVITE") given)) (after_draw (after_draw (after_draw output)))
    (request_no_injection d 1 (codes "INVITE") given (attempt_no_injection acks destination m restricted output is received had) refl
    (given_no_injection given (token_no_injection acks (after_draw (after_draw output)) had) (lines_joined passed (alert_lines waiting) e (alert_no_injection waiting)))) had
