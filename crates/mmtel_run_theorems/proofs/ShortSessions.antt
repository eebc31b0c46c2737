-- The server itself sends a 422 for a session that is too short, and for nothing else.
use Rattle.std.proofs.Common.{◌≡◌, ◌∙◌, ◌==◌, ◌&&◌, ◌||◌, ℕ, Bool, true, false, not, List, [], ◌∷◌, length, Option, Some, None, Result, Ok, Err, refl, ap, sym, codes, arith}
use Rattle.std.specs.Prelude.{if◌then◌else◌, is_none, is_some}
use Rattle.std.proofs.lemmas.Bool.{and_parts, eqb-true}
use Rattle.mmtel_compose.specs.ReceivedMessages.{MessageView}
use Rattle.mmtel_directory.specs.declared.directories.Directory.{Directory}
use Rattle.mmtel_leg.specs.Dialogues.{request_uri}
use Rattle.mmtel_lex.specs.Reading.{Refusal, uri_of}
use Rattle.mmtel_lex.specs.declared.values.Uri.{Uri}
use Rattle.mmtel_message.specs.Faults.{is_method}
use Rattle.mmtel_sdp.specs.Offers.{offers_audio}
use Rattle.mmtel_session.specs.Intervals.{check}
use Rattle.mmtel_session.specs.declared.intervals.SessionFault.{SessionFault}
use Rattle.mmtel_session.specs.declared.intervals.SessionFault.TheVariants as session
use Rattle.mmtel_transaction.specs.Results.{is_merged}
use Rattle.mmtel_transaction.specs.Operations.{live}
use Rattle.mmtel_transaction.specs.declared.words.TKey.{TKey}
use Rattle.mmtel_trust.specs.ParsedMessage.{ParsedMessage}
use Rattle.mmtel_trust.specs.MaskedMessages.{public_part}
use Rattle.mmtel_types.specs.declared.numbers.Account.{Account}
use Rattle.mmtel_b2bua.specs.declared.entries.Entry.{Entry}
use Rattle.mmtel_focus.specs.Conferences.{Conference}
use Rattle.mmtel_run_definitions.specs.OwnResponses.{StatusResponse, bad_extension, interval_too_small, plain_response, response_with_allow, unsupported_options}
use Rattle.mmtel_run_definitions.specs.Calls.{are_full}
use Rattle.mmtel_run_definitions.specs.Refusals.{Disposition, Enter, EnterConference, EnterSubscription, JoinConference, OpenCall, OpenConference, Register, Respond, Subscribe, disposition}
use Rattle.mmtel_run_definitions.specs.Refusals.{disposition_by, disposition_by_method, disposition_in, entry_into, first_that_applies, in_dialog_disposition, invite_disposition}
use Rattle.mmtel_run_definitions.specs.Refusals.{call_opening, invite_disposition_at, is_conference, is_factory, is_foreign, is_known_method, is_last_hop}
use Rattle.mmtel_run_definitions.specs.Refusals.{is_of_no_subscription, is_register, is_short_session, is_subscribe, is_timed, is_unreadable_session}
use Rattle.mmtel_run_definitions.specs.Refusals.{audio_or_refusal, conference_number, registration_disposition, registration_disposition_of, to_account}
use Rattle.mmtel_run_definitions.specs.Ownership.{DialogOwner, InCall, InConference, InSubscription, dialog_owner_of}
use Rattle.mmtel_run_definitions.specs.Transitions.{RunState, after_disposition, after_new_request, calls_in, conferences_in, subscriptions_in, with_response}
use Rattle.mmtel_run_theorems.specs.ShortSessions.{IsElseAccepted, IsElseAcceptedIn, RequestsShortSession, ShortSessionsAreRefused}

-- ---- such a request is refused

-- the response, by the conditions in their order
abbrev decided : Directory → ParsedMessage → (known scheme hops dialog once : Bool) → (options : List (List ℕ)) → (timed : Bool) → Result (Option ℕ) SessionFault → Option StatusResponse
decided directory message known scheme hops dialog once options timed asked = first_that_applies (
    (not known, response_with_allow directory 405) ∷ (scheme, plain_response 416) ∷ (hops, plain_response 483) ∷ (dialog, plain_response 481) ∷ (once, plain_response 482) ∷
    (not (length options == 0), bad_extension directory message) ∷
    (timed && is_unreadable_session asked, plain_response 400) ∷ (timed && is_short_session asked, interval_too_small) ∷ [])

refused : (directory : Directory) (merged full : Bool) (named : Option DialogOwner) (message : ParsedMessage) → RequestsShortSession directory message → IsElseAccepted directory merged (is_some named) message →
    disposition directory merged full named message ≡ Respond interval_too_small
unfolding disposition
refused directory merged full named message asks taken =
    λ i. disposition_by directory full named (public_part message)
    (decided directory (public_part message) (taken.known i) (taken.scheme i) (taken.hops i) (taken.dialog i) (taken.once i) (taken.options i) (asks.timer i && asks.method i) (asks.small i))

-- ---- and no other

-- a disposition that is no 422
abbrev IsOther : Disposition → Type 0
IsOther (Respond answer) = answer.code ≡ 422 → ⊥
IsOther (Enter call side) = Unit {0}
IsOther (EnterConference room seat) = Unit {0}
IsOther OpenCall = Unit {0}
IsOther OpenConference = Unit {0}
IsOther (JoinConference room) = Unit {0}
IsOther (Register account seconds) = Unit {0}
IsOther Subscribe = Unit {0}
IsOther (EnterSubscription sub) = Unit {0}

other_if : (b : Bool) (one two : Disposition) → IsOther one → IsOther two → IsOther (if b then one else two)
other_if true one two f g = f
other_if false one two f g = g

call_opening_other : (full : Bool) → IsOther (call_opening full)
call_opening_other true = λ e. omega (arith, e)
call_opening_other false = tt

audio_other : (message : ParsedMessage) (chosen : Disposition) → IsOther chosen → IsOther (audio_or_refusal message chosen)
audio_other message chosen f = other_if (offers_audio message.body) chosen (Respond (plain_response 488)) f (λ e. omega (arith, e))

invite_disposition_other : (directory : Directory) (full : Bool) (message : ParsedMessage) (target : Result Uri Refusal) → IsOther (invite_disposition_at directory full message target)
invite_disposition_other directory full message (Ok target) =
    other_if (is_factory directory.factory target) (audio_or_refusal message OpenConference) _ (audio_other message OpenConference tt)
    (other_if (is_conference directory.sip target) (audio_or_refusal message (JoinConference (conference_number directory.sip target))) (call_opening full)
    (audio_other message (JoinConference (conference_number directory.sip target)) tt) (call_opening_other full))
invite_disposition_other directory full message (Err refusal) = call_opening_other full

account_other : (account : Option Account) (message : ParsedMessage) → IsOther (registration_disposition_of account message)
account_other None message = λ e. omega (arith, e)
account_other (Some account) message = tt

registration_disposition_other : (directory : Directory) (message : ParsedMessage) → IsOther (registration_disposition directory.names.accounts message)
registration_disposition_other directory message =
    other_if message.trusted (registration_disposition_of (to_account directory.names.accounts message) message) (Respond (plain_response 403)) (account_other (to_account directory.names.accounts message) message)
    (λ e. omega (arith, e))

method_other : (directory : Directory) (full : Bool) (message : ParsedMessage) → IsOther (disposition_by_method directory full message)
method_other directory full message =
    other_if (is_method (codes "OPTIONS") message.start) (Respond (response_with_allow directory 200)) _ (λ e. omega (arith, e))
    (other_if (is_method (codes "REFER") message.start) (Respond (plain_response 403)) _ (λ e. omega (arith, e))
    (other_if (is_method (codes "INVITE") message.start) (invite_disposition directory full message) _ (invite_disposition_other directory full message (uri_of (request_uri message.start)))
    (other_if (is_register message) (registration_disposition directory.names.accounts message) _ (registration_disposition_other directory message)
    (other_if (is_subscribe message) Subscribe (Respond (plain_response 481)) tt (λ e. omega (arith, e))))))

dialog_other : (owner : DialogOwner) → IsOther (entry_into owner)
dialog_other (InCall call side) = tt
dialog_other (InConference room seat) = tt
dialog_other (InSubscription sub) = tt

in_dialog_disposition_other : (owner : DialogOwner) (message : ParsedMessage) → IsOther (in_dialog_disposition owner message)
in_dialog_disposition_other owner message = other_if (is_subscribe message && is_of_no_subscription owner) (Respond (plain_response 481)) (entry_into owner) (λ e. omega (arith, e)) (dialog_other owner)

in_other : (directory : Directory) (full : Bool) (named : Option DialogOwner) (message : ParsedMessage) → IsOther (disposition_in directory full named message)
in_other directory full None message = method_other directory full message
in_other directory full (Some owner) message = in_dialog_disposition_other owner message

-- it is a disposition that is no 422
not_so : (one : Disposition) (answer : StatusResponse) → IsOther one → one ≡ Respond answer → answer.code ≡ 422 → ⊥
not_so (Respond other) answer f is code = let same : other ≡ answer = cc in f (ap (λ (a : StatusResponse). a.code) same ∙ code)
not_so (Enter call side) answer f is code = cc
not_so (EnterConference room seat) answer f is code = cc
not_so OpenCall answer f is code = cc
not_so OpenConference answer f is code = cc
not_so (JoinConference room) answer f is code = cc
not_so (Register account seconds) answer f is code = cc
not_so Subscribe answer f is code = cc
not_so (EnterSubscription sub) answer f is code = cc

-- one of these conditions holds, and its response is no 422
refused_other : (A : Type 0) (code : ℕ) (answer given : StatusResponse) → Respond given ≡ Respond answer → answer.code ≡ 422 → given.code ≡ code → (code ≡ 422 → ⊥) → A
refused_other A code answer given is so number other = let same : given ≡ answer = cc in absurd (other (sym number ∙ ap (λ (a : StatusResponse). a.code) same ∙ so))

not_false : (b : Bool) → not b ≡ false → b ≡ true
not_false true e = refl
not_false false e = absurd (let f : true ≡ false = e in cc)

none_left : (options : List (List ℕ)) → not (length options == 0) ≡ false → options ≡ []
none_left [] e = refl
none_left (option ∷ options) e =
    let none : length (option ∷ options) ≡ 0 = eqb-true (length (option ∷ options)) 0 (not_false (length (option ∷ options) == 0) e) in
    absurd (omega (arith, none))

-- the interval that is requested is too small
small_of : (asked : Result (Option ℕ) SessionFault) → is_short_session asked ≡ true → (interval : ℕ) × (asked ≡ Err (session.Small interval))
small_of (Ok interval) e = absurd (let f : false ≡ true = e in cc)
small_of (Err session.Malformed) e = absurd (let f : false ≡ true = e in cc)
small_of (Err (session.Small interval)) e = (interval, refl)

module _ (directory : Directory) (merged full : Bool) (named : Option DialogOwner) (message : ParsedMessage) (answer : StatusResponse) (so : answer.code ≡ 422) where
  abbrev IsIntervalTooSmall : Type 0
  IsIntervalTooSmall = RequestsShortSession directory message × IsElseAccepted directory merged (is_some named) message × (answer ≡ interval_too_small)

  -- the disposition where this is the first condition that applies
  abbrev by_first : List (Bool × StatusResponse) → Disposition
  by_first others = disposition_by directory full named (public_part message) (first_that_applies others)

  abbrev short : List (Bool × StatusResponse)
  short = (is_timed directory message.start && is_short_session (check message.session), interval_too_small) ∷ []

  abbrev unreadable : List (Bool × StatusResponse)
  unreadable = (is_timed directory message.start && is_unreadable_session (check message.session), plain_response 400) ∷ short

  abbrev unsupporting : List (Bool × StatusResponse)
  unsupporting = (not (length (unsupported_options directory message) == 0), bad_extension directory (public_part message)) ∷ unreadable

  abbrev merging : List (Bool × StatusResponse)
  merging = (is_none message.to_tag && merged, plain_response 482) ∷ unsupporting

  abbrev undialogued : List (Bool × StatusResponse)
  undialogued = (is_some message.to_tag && not (is_some named), plain_response 481) ∷ merging

  abbrev hopless : List (Bool × StatusResponse)
  hopless = (is_last_hop message.hops, plain_response 483) ∷ undialogued

  abbrev foreign : List (Bool × StatusResponse)
  foreign = (is_foreign message.start, plain_response 416) ∷ hopless

  -- one more condition: it holds, and its response is another; or it does not
  on_next : (condition : Bool) (given : StatusResponse) (others : List (Bool × StatusResponse)) (code : ℕ) → given.code ≡ code → (code ≡ 422 → ⊥) →
      (condition ≡ false → by_first others ≡ Respond answer → IsIntervalTooSmall) → by_first ((condition, given) ∷ others) ≡ Respond answer → IsIntervalTooSmall
  on_next true given others code number other goes is = refused_other IsIntervalTooSmall code answer given is so number other
  on_next false given others code number other goes is = goes refl is

  on_short : (b : Bool) → (is_timed directory message.start && is_short_session (check message.session)) ≡ b → IsElseAccepted directory merged (is_some named) message →
      by_first ((b, interval_too_small) ∷ []) ≡ Respond answer → IsIntervalTooSmall
  on_short true holds taken is =
      let (timed, small) = and_parts (is_timed directory message.start) (is_short_session (check message.session)) holds in
      let (timer, method) = and_parts directory.timer (is_method (codes "INVITE") message.start || is_method (codes "UPDATE") message.start) timed in
      let (interval, asked) = small_of (check message.session) small in
      let same : interval_too_small ≡ answer = cc in
      (record { timer = timer; method = method; interval = interval; small = asked }, taken, sym same)
  on_short false holds taken is = absurd (not_so (disposition_in directory full named (public_part message)) answer (in_other directory full named (public_part message)) is so)

  alone_at : disposition directory merged full named message ≡ Respond answer → IsIntervalTooSmall
  unfolding disposition
  alone_at is =
      on_next (not (is_known_method directory message.start)) (response_with_allow directory 405) foreign 405 refl (λ e. omega (arith, e))
      (λ known. on_next (is_foreign message.start) (plain_response 416) hopless 416 refl (λ e. omega (arith, e))
      (λ scheme. on_next (is_last_hop message.hops) (plain_response 483) undialogued 483 refl (λ e. omega (arith, e))
      (λ hops. on_next (is_some message.to_tag && not (is_some named)) (plain_response 481) merging 481 refl (λ e. omega (arith, e))
      (λ dialog. on_next (is_none message.to_tag && merged) (plain_response 482) unsupporting 482 refl (λ e. omega (arith, e))
      (λ once. on_next (not (length (unsupported_options directory message) == 0)) (bad_extension directory (public_part message)) unreadable 420 refl (λ e. omega (arith, e))
      (λ options. on_next (is_timed directory message.start && is_unreadable_session (check message.session)) (plain_response 400) short 400 refl (λ e. omega (arith, e))
      (λ readable. on_short (is_timed directory message.start && is_short_session (check message.session)) refl (record {
        known = not_false (is_known_method directory message.start) known;
        scheme = scheme;
        hops = hops;
        dialog = dialog;
        once = once;
        options = none_left (unsupported_options directory message) options;
      }))))))))
      is

alone : (directory : Directory) (merged full : Bool) (named : Option DialogOwner) (message : ParsedMessage) (answer : StatusResponse) →
    disposition directory merged full named message ≡ Respond answer → answer.code ≡ 422 →
    RequestsShortSession directory message × IsElseAccepted directory merged (is_some named) message × (answer ≡ interval_too_small)
alone directory merged full named message answer is so = alone_at directory merged full named message answer so is

-- ---- in every state

answered : (directory : Directory) (token : List ℕ) (at : ℕ) (key : TKey) (said : MessageView) (state : RunState) → RequestsShortSession directory said.parsed → IsElseAcceptedIn directory state key said →
    after_new_request directory token at key said state ≡ with_response directory token at key said interval_too_small state
answered directory token at key said state asks taken =
    let entries : List Entry = (calls_in directory state).entries in
    let live_rooms : List Conference = (conferences_in directory state).live in
    ap (λ c. after_disposition directory token at key said c state)
    (refused directory (is_merged key.0 (live state.actions)) (are_full entries) (dialog_owner_of said.parsed entries live_rooms (subscriptions_in state)) said.parsed asks taken)

pub short_sessions_are_refused : ShortSessionsAreRefused
short_sessions_are_refused = record {
  refused = refused;
  alone = alone;
  answered = answered;
  leaves = λ directory token at key said answer state. record { calls = refl; conferences = refl; mailboxes = refl; pending_timers = refl; texts = refl; registrations = refl; waiting = refl; filed = refl };
}
