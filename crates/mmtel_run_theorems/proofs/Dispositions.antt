-- The decisions on a request that was read: the response has no injected header fields, and a call is opened for a Request-URI of one line alone.
use Rattle.std.proofs.Common.{◌≡◌, Bool, true, false, not, ℕ, List, [], ◌∷◌, Option, Some, None, refl, sym, IfSome, Result, Ok, Err}
use Rattle.std.specs.Prelude.{◌+◌, ◌&&◌, codes, decimal, if◌then◌else◌, is_some}
use Rattle.std.specs.List.{list_all}
use Rattle.std.proofs.lemmas.Option.{none-some}
use Rattle.mmtel_compose.specs.ReceivedMessages.{MessageView, message_view, phrase_in}
use Rattle.mmtel_call_theorems.specs.NoInjection.Messages.{HasNoInjection, HaveNoInjection, LinesHaveNoInjection, MessageHasNoInjection, StartHasNoInjection, line_has_no_injection}
use Rattle.mmtel_call_theorems.specs.NoInjection.Emits.{Each}
use Rattle.mmtel_call_theorems.specs.NoInjection.Inputs.{ParsedHasNoInjection}
use Rattle.mmtel_call_theorems.specs.NoInjection.ReadMessages.{ReadingHasNoInjection}
use Rattle.mmtel_call_theorems.proofs.NoInjection.Building.{contact_no_injection, response_no_injection}
use Rattle.mmtel_call_theorems.proofs.NoInjection.Bytes.{all_cons, all_filter, all_map, decimal_no_injection, joined, line_no_injection}
use Rattle.mmtel_call_theorems.proofs.NoInjection.CallState.{allowed_no_injection}
use Rattle.mmtel_call_theorems.proofs.NoInjection.Reading.{texts_no_injection}
use Rattle.mmtel_call_theorems.proofs.NoInjection.Sending.{phrase_no_injection}
use Rattle.mmtel_directory.specs.declared.directories.Directory.{Directory}
use Rattle.mmtel_leg.specs.Dialogues.{request_uri}
use Rattle.mmtel_lex.specs.Reading.{Refusal, foreign, malformed, uri_of}
use Rattle.mmtel_lex.specs.declared.values.Uri.{Uri}
use Rattle.mmtel_message.specs.Faults.{is_malformed, is_method, start_fault}
use Rattle.mmtel_message.specs.Headers.{is_value_byte}
use Rattle.mmtel_message.specs.Message.{Message}
use Rattle.mmtel_message.specs.declared.messages.Start.{Start}
use Rattle.mmtel_message.specs.declared.messages.Start.TheVariants.{Request, Status}
use Rattle.mmtel_sdp.specs.Offers.{offers_audio}
use Rattle.mmtel_trust.specs.ParsedMessage.{ParsedMessage}
use Rattle.mmtel_trust.specs.MaskedMessages.{public_part}
use Rattle.mmtel_types.specs.declared.addrs.Addr.{Addr}
use Rattle.mmtel_types.specs.declared.numbers.Account.{Account}
use Rattle.mmtel_types.specs.declared.numbers.Peer.{Peer}
use Rattle.mmtel_run_definitions.specs.OwnResponses.{StatusResponse, bad_extension, completed_reply, further_methods, is_unsupported, plain_response, response_to, tag_for, unsupported_line, unsupported_options}
use Rattle.mmtel_run_definitions.specs.Refusals.{Disposition, Enter, EnterSubscription, EnterConference, JoinConference, OpenCall, OpenConference, Respond, Register, Subscribe, is_of_no_subscription}
use Rattle.mmtel_run_definitions.specs.Refusals.{is_subscribe, disposition_by_method, disposition, disposition_by, disposition_in, first_that_applies, entry_into, invite_disposition_at, is_factory, is_foreign}
use Rattle.mmtel_run_definitions.specs.Refusals.{is_foreign_uri, is_known_method, is_register, is_conference, call_opening, refusals, registration_disposition_of, conference_number, to_account, audio_or_refusal}
use Rattle.mmtel_run_definitions.specs.Ownership.{DialogOwner, InCall, InConference, InSubscription}
use Rattle.mmtel_run_theorems.proofs.Received.{IsReadWell}

-- ---- what was received

-- a message that was read, with what is read of it
pub record IsReadWithFields (m : ParsedMessage) : Type 0 where
  pub of : ParsedHasNoInjection m
  pub lines_in : LinesHaveNoInjection m.lines
  pub required : HaveNoInjection m.required
  pub uri : start_fault m.start ≡ false

pub message_view_well : (peer : Peer) (source : Addr) (trusted : Bool) (m : Message Start) → IsReadWell m → IsReadWithFields (message_view peer source trusted m).parsed
message_view_well peer source trusted m r = record {
  of = record { trusted = trusted; message = m; is = refl; lines_in = r.lines_in; phrase_no_injection = r.phrase_in };
  lines_in = r.lines_in;
  required = texts_no_injection (codes "Require") m.lines r.lines_in;
  uri = r.uri_in;
}

-- ---- tags and responses

pub tag_no_injection : (token : List ℕ) (drawn : ℕ) (o : Option (List ℕ)) → HasNoInjection token → HasNoInjection (tag_for token drawn o)
tag_no_injection token drawn None h = joined token (45 ∷ decimal (drawn + 1)) h (all_cons is_value_byte 45 (decimal (drawn + 1)) refl (decimal_no_injection (drawn + 1)))
tag_no_injection token drawn (Some tag) h = refl

abbrev pub ResponseHasNoInjection : StatusResponse → Type 0
ResponseHasNoInjection answer = LinesHaveNoInjection answer.lines

pub answer_no_injection : (sip : Addr) (tag : List ℕ) (s : MessageView) (answer : StatusResponse) → HasNoInjection tag → LinesHaveNoInjection s.parsed.lines → ResponseHasNoInjection answer →
    MessageHasNoInjection (response_to sip tag s answer)
answer_no_injection sip tag s answer t l a =
    response_no_injection s.parsed.start s.parsed.lines _ l (record { phrase_in = phrase_no_injection answer.code; tag_in = t; contact_in = contact_no_injection sip; passed_in = refl; named_in = a })

phrase_of_start : (s : Start) → StartHasNoInjection s → HasNoInjection (phrase_in s)
phrase_of_start (Request method uri) h = refl
phrase_of_start (Status code phrase) h = h

pub reply_no_injection : (tag : List ℕ) (source : Addr) (reply : Message Start) → HasNoInjection tag → MessageHasNoInjection reply → MessageHasNoInjection (completed_reply tag source reply)
reply_no_injection tag source reply t h =
    response_no_injection reply.start reply.lines _ h.lines_in
    (record { phrase_in = phrase_of_start reply.start h.start_in; tag_in = t; contact_in = refl; passed_in = refl; named_in = refl })

-- ---- refusals

without_no_injection : (d : Directory) (m : ParsedMessage) → HaveNoInjection m.required → ResponseHasNoInjection (bad_extension d m)
without_no_injection d m h =
    all_map (list_all is_value_byte) line_has_no_injection unsupported_line (λ option e. line_no_injection (codes "Unsupported") option refl e) (unsupported_options d m)
    (all_filter (list_all is_value_byte) (λ option. is_unsupported d option) m.required h)

first-no_injection : (rs : List (Bool × StatusResponse)) → Each (λ r. ResponseHasNoInjection r.1) rs → IfSome (first_that_applies rs) ResponseHasNoInjection
first-no_injection [] h = tt
first-no_injection (r ∷ rs) h = go r.0 (first-no_injection rs h.1)
  where
    go : (b : Bool) → IfSome (first_that_applies rs) ResponseHasNoInjection → IfSome (if b then Some r.1 else first_that_applies rs) ResponseHasNoInjection
    go true f = h.0
    go false f = f

second-none : (a b : Bool) (x y : StatusResponse) (o : Option StatusResponse) → (if a then Some x else if b then Some y else o) ≡ None → b ≡ false
second-none true b x y o h = absurd (none-some x (sym h))
second-none false true x y o h = absurd (none-some y (sym h))
second-none false false x y o h = refl

-- ---- dispositions

abbrev pub DispositionHasNoInjection : Start → Disposition → Type 0
DispositionHasNoInjection start (Respond answer) = ResponseHasNoInjection answer
DispositionHasNoInjection start (Enter call side) = Unit {0}
DispositionHasNoInjection start (EnterConference room seat) = Unit {0}
DispositionHasNoInjection start OpenCall = HasNoInjection (request_uri start)
DispositionHasNoInjection start OpenConference = Unit {0}
DispositionHasNoInjection start (JoinConference room) = Unit {0}
DispositionHasNoInjection start (Register account seconds) = Unit {0}
DispositionHasNoInjection start Subscribe = Unit {0}
DispositionHasNoInjection start (EnterSubscription sub) = Unit {0}

either : (start : Start) (b : Bool) (x y : Disposition) → DispositionHasNoInjection start x → DispositionHasNoInjection start y → DispositionHasNoInjection start (if b then x else y)
either start true x y h g = h
either start false x y h g = g

-- a Request-URI that is neither malformed nor of another scheme
uri-by : ReadingHasNoInjection → (text : List ℕ) (o : Result Uri Refusal) → uri_of text ≡ o → is_malformed o ≡ false → is_foreign_uri o ≡ false → HasNoInjection text
uri-by read text (Ok u) is m f = read.uri text u is
uri-by read text (Err malformed) is m f = absurd (let e : true ≡ false = m in cc)
uri-by read text (Err foreign) is m f = absurd (let e : true ≡ false = f in cc)

uri-no_injection : ReadingHasNoInjection → (start : Start) → start_fault start ≡ false → is_foreign start ≡ false → HasNoInjection (request_uri start)
unfolding is_foreign
uri-no_injection read (Request method uri) m f = uri-by read uri (uri_of uri) refl m f
uri-no_injection read (Status code phrase) m f = refl

module _ (d : Directory) (full : Bool) (m : ParsedMessage) where
  registers : (o : Option Account) → DispositionHasNoInjection m.start (registration_disposition_of o m)
  registers None = refl
  registers (Some account) = tt

  opens : HasNoInjection (request_uri m.start) → DispositionHasNoInjection m.start (call_opening full)
  opens uri = either m.start full _ _ refl uri

  -- an INVITE to the factory, to a conference, or to anybody else
  target-no_injection : (o : Result Uri Refusal) → HasNoInjection (request_uri m.start) → DispositionHasNoInjection m.start (invite_disposition_at d full m o)
  target-no_injection (Ok target) uri =
      either m.start (is_factory d.factory target) (audio_or_refusal m OpenConference) _ (either m.start (offers_audio m.body) OpenConference _ tt refl)
      (either m.start (is_conference d.sip target) (audio_or_refusal m (JoinConference (conference_number d.sip target))) (call_opening full)
      (either m.start (offers_audio m.body) (JoinConference (conference_number d.sip target)) _ tt refl) (opens uri))
  target-no_injection (Err refusal) uri = opens uri

  method-no_injection : HasNoInjection (request_uri m.start) → DispositionHasNoInjection m.start (disposition_by_method d full m)
  method-no_injection uri =
      either m.start (is_method (codes "OPTIONS") m.start) _ _ (allowed_no_injection (further_methods d))
      (either m.start (is_method (codes "REFER") m.start) _ _ refl
      (either m.start (is_method (codes "INVITE") m.start) _ _ (target-no_injection (uri_of (request_uri m.start)) uri)
      (either m.start (is_register m) _ _ (either m.start m.trusted _ _ (registers (to_account d.names.accounts m)) refl)
      (either m.start (is_subscribe m) Subscribe (Respond (plain_response 481)) tt refl))))

  dialog-no_injection : (owner : DialogOwner) → DispositionHasNoInjection m.start (entry_into owner)
  dialog-no_injection (InCall call side) = tt
  dialog-no_injection (InConference room seat) = tt
  dialog-no_injection (InSubscription sub) = tt

  in-no_injection : (named : Option DialogOwner) → HasNoInjection (request_uri m.start) → DispositionHasNoInjection m.start (disposition_in d full named m)
  in-no_injection None uri = method-no_injection uri
  in-no_injection (Some owner) uri = either m.start (is_subscribe m && is_of_no_subscription owner) (Respond (plain_response 481)) (entry_into owner) refl (dialog-no_injection owner)

  by-no_injection : (named : Option DialogOwner) (o : Option StatusResponse) → IfSome o ResponseHasNoInjection → (o ≡ None → HasNoInjection (request_uri m.start)) →
      DispositionHasNoInjection m.start (disposition_by d full named m o)
  by-no_injection named None h uri = in-no_injection named (uri refl)
  by-no_injection named (Some answer) h uri = h

pub disposition_no_injection : ReadingHasNoInjection → (d : Directory) (merged full : Bool) (named : Option DialogOwner) (m : ParsedMessage) → IsReadWithFields m →
    DispositionHasNoInjection m.start (disposition d merged full named m)
unfolding disposition
disposition_no_injection read d merged full named m h =
    by-no_injection d full (public_part m) named (first_that_applies (refusals d merged (is_some named) (public_part m)))
    (first-no_injection (refusals d merged (is_some named) (public_part m))
    (allowed_no_injection (further_methods d), (refl, (refl, (refl, (refl, (without_no_injection d (public_part m) h.required, (refl, (refl, tt)))))))))
    (λ none. uri-no_injection read m.start h.uri (second-none (not (is_known_method d m.start)) (is_foreign m.start) _ _ _ none))
