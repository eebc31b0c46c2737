-- What each transition of the step table of conferences enters in the ledger.
use Rattle.std.proofs.Common.{◌≡◌, ◌&&◌, not, Bool, true, false, ℕ, List, [], Option, Some, None, Result, Ok, Err, ◌∙◌, refl, sym, ap, subst, nat_lt}
use Rattle.std.specs.Prelude.{codes, if◌then◌else◌, option_to_list, slice_get}
use Rattle.std.specs.Str.{bytes_eq}
use Rattle.mmtel_compose.specs.Responses.{allow_lines, retry_after_lines}
use Rattle.mmtel_compose.specs.ReceivedMessages.{MessageView, phrase_in, status_of}
use Rattle.mmtel_output.specs.Outputs.{after_draw, token}
use Rattle.mmtel_output.specs.SentInvites.{is_cancellable}
use Rattle.mmtel_output.specs.Sending.{ack_text, with_ack, with_cancel, with_contact_response, with_status_response}
use Rattle.mmtel_output.specs.declared.outputs.StepOutput.{StepOutput}
use Rattle.mmtel_output.specs.declared.sent_invites.SentInvite.{SentInvite}
use Rattle.mmtel_leg.specs.Legs.{Leg}
use Rattle.mmtel_leg.specs.Remotes.{remote_of}
use Rattle.mmtel_leg.specs.declared.dialogues.Dialogue.{Dialogue}
use Rattle.mmtel_leg.specs.declared.dialogues.DialogueFault.{DialogueFault}
use Rattle.mmtel_leg.specs.declared.dialogues.DialogueFault.TheVariants.{OldCSeq, Pending, Unfinished}
use Rattle.mmtel_leg.specs.declared.remotes.Remote.{Remote}
use Rattle.mmtel_lex.specs.Grammar.{uri_text}
use Rattle.mmtel_lex.specs.declared.values.Uri.{Uri}
use Rattle.mmtel_message.specs.Faults.{is_method}
use Rattle.mmtel_message.specs.Message.{Line}
use Rattle.mmtel_base.specs.Numbers.{next_number}
use Rattle.mmtel_sdp.specs.Offers.{offers_audio}
use Rattle.mmtel_transaction.specs.declared.words.RoomWord.{RoomWord}
use Rattle.mmtel_transaction.specs.declared.words.RoomWord.TheVariants as due
use Rattle.mmtel_transaction.specs.declared.words.TKey.{TKey}
use Rattle.mmtel_trust.specs.Accounts.{account_of}
use Rattle.mmtel_trust.specs.Peers.{route_of}
use Rattle.mmtel_types.specs.declared.addrs.Addr.{Addr}
use Rattle.mmtel_types.specs.declared.numbers.Account.{Account}
use Rattle.mmtel_types.specs.declared.numbers.Peer.{Peer}
use Rattle.mmtel_types.specs.declared.numbers.RoomNo.{RoomNo}
use Rattle.mmtel_types.specs.declared.sides.Side.TheVariants.{Callee}
use Rattle.mmtel_focus.specs.Responses.{accepted_invite, after_ack_retransmission, after_end, after_invite_end, after_missing_ack, after_own_ack, after_ringing_limit, connected_participant}
use Rattle.mmtel_focus.specs.Responses.{connected_party, has_outstanding_number, invite_after_due_cancel, invite_with_provisional, is_ack_pending, is_success, on_any_response, on_cap, on_due, on_failure}
use Rattle.mmtel_focus.specs.Responses.{on_no_ack, on_outstanding_response, on_provisional, on_response_to, on_retransmission, on_success, on_timeout, to_tag_of, with_failure_ack, with_invite_cancel}
use Rattle.mmtel_focus.specs.Joining.{after_failure_notify, after_invite, after_invite_if_peer, after_invite_in, after_refer, invitation_dialog, invited_participant}
use Rattle.mmtel_focus.specs.Referrals.{referral_in, target_of}
use Rattle.mmtel_focus.specs.Requests.{acknowledges, after_accepted_refer, after_out_of_order, after_refusal, after_reinvite, after_response, after_trying, invite_in_flight, is_invite_outstanding}
use Rattle.mmtel_focus.specs.Requests.{on_ack, on_bye, on_checked_request, on_invite, on_referral, on_request, on_request_in_order, participant_after_request, with_next_number, with_pending_ack}
use Rattle.mmtel_focus.specs.Requests as requests
use Rattle.mmtel_focus.specs.Conferences.{StepResult, with_output}
use Rattle.mmtel_focus.specs.Participants.{after_dismissal, after_leave, at_participant, dialogue_of, is_connected, is_full, leg_of, meter_of, tag_of, with_leg, with_participant}
use Rattle.mmtel_focus.specs.ConferenceConfig.{ConferenceConfigView}
use Rattle.mmtel_focus.specs.Texts.{contact_value, own_status, status_line}
use Rattle.mmtel_focus.specs.declared.referrals.Referral.{Referral}
use Rattle.mmtel_focus.specs.declared.referrals.Referral.TheVariants as referral
use Rattle.mmtel_participants.specs.declared.participants.Invite.{Invite}
use Rattle.mmtel_participants.specs.declared.participants.Invite.TheVariants.{Accepted, Outstanding}
use Rattle.mmtel_participants.specs.declared.participants.Party.{Party}
use Rattle.mmtel_participants.specs.declared.participants.Party.TheVariants.{DialedIn, DialedOut, Invited}
use Rattle.mmtel_participants.specs.declared.participants.ParticipantState.{ParticipantState}
use Rattle.mmtel_focus_theorems.proofs.ChargedSteps.{ArePlain, Books, EndsBooks, IsPlain, KeepsBooks, after_close_with_books, after_dismissal_books, after_leave_books}
use Rattle.mmtel_focus_theorems.proofs.ChargedSteps.{after_notify_referrer_books, after_notify_to_books, begun_books, books_at_seat, books_if, books_then, ends_at_seat}
use Rattle.mmtel_focus_theorems.proofs.ChargedSteps.{ends_if, ends_then, goes_on, meter_begins, plain_there, same, same_meter, says, stays, taken_books, with_participant_books}

-- ---- responses

after_refusal_books : (at : ℕ) (config : ConferenceConfigView) (key : TKey) (m : MessageView) (code : ℕ) → KeepsBooks at (after_refusal config key m code)
after_refusal_books at config key m code place seat s e p = says at s (with_status_response config.sip key m (tag_of seat) code s.effects.output) refl p

ends_refused : (at : ℕ) (config : ConferenceConfigView) (key : TKey) (m : MessageView) (code : ℕ) → EndsBooks at (after_refusal config key m code)
ends_refused at config key m code place seat s e p = goes_on at s (after_refusal config key m code place seat s) (after_refusal_books at config key m code place seat s e p)

answered_books : (at : ℕ) (config : ConferenceConfigView) (key : TKey) (m : MessageView) (code : ℕ) (named : List Line) → KeepsBooks at (after_response config key m code named)
answered_books at config key m code named place seat s e p = same at s (after_response config key m code named place seat s) refl refl refl p

-- ---- INVITE

agreed_books : (at : ℕ) (config : ConferenceConfigView) (key : TKey) (m : MessageView) → KeepsBooks at (after_reinvite config at key m)
agreed_books at config key m place seat s e p =
    let next : StepResult = with_participant place (with_pending_ack (next_number s.conference.last_number) seat) s in
    let first = with_participant_books at place seat (with_pending_ack (next_number s.conference.last_number) seat) s e refl (plain_there s.conference.participants place seat e p) p in
    books_then at s next (after_reinvite config at key m place seat s) first (same at next (after_reinvite config at key m place seat s) refl refl refl first.plain)

invite_books : (at : ℕ) (config : ConferenceConfigView) (key : TKey) (m : MessageView) → KeepsBooks at (on_invite config at key m)
invite_books at config key m place seat s e p =
    books_if at (offers_audio m.parsed.body) s (after_reinvite config at key m place seat s) (after_refusal config key m 488 place seat s) (agreed_books at config key m place seat s e p)
    (after_refusal_books at config key m 488 place seat s e p)

-- ---- BYE

bye_books : (at : ℕ) (config : ConferenceConfigView) (key : TKey) (m : MessageView) → EndsBooks at (on_bye config at key m)
bye_books at config key m place seat s e p =
    let told : StepResult = after_refusal config key m 200 place seat s in
    let gone : StepResult = after_leave at false place seat told in
    let first = after_refusal_books at config key m 200 place seat s e p in
    let second = after_leave_books at false place seat told e p in
    ends_then at s told (on_bye config at key m place seat s) first (ends_then at told gone (on_bye config at key m place seat s) second (after_close_with_books at config seat.number gone second.plain))

-- ---- REFER

after_accepted_refer_books : (at : ℕ) (config : ConferenceConfigView) (key : TKey) (m : MessageView) → KeepsBooks at (after_accepted_refer config key m)
after_accepted_refer_books at config key m place seat s e p = says at s (with_contact_response (contact_value config.sip s.conference.number) key m (tag_of seat) 202 [] [] [] s.effects.output) refl p

after_invite_books : (at : ℕ) (config : ConferenceConfigView) (by : ℕ) (account : Option Account) (d : Dialogue) (s : StepResult) → ArePlain s.conference.participants →
    Books at s (after_invite_in config at by account d s)
after_invite_books at config by account d s p =
    taken_books at s (after_invite_in config at by account d s) (invited_participant s.conference by account d (token (after_draw (after_draw s.effects.output)))) None refl refl tt refl refl refl p

at_peer_books : (at : ℕ) (config : ConferenceConfigView) (by : ℕ) (o : Option Peer) (u : Uri) (s : StepResult) → ArePlain s.conference.participants → Books at s (after_invite_if_peer config at by o u s)
at_peer_books at config by None u s p = after_notify_to_books at config false (own_status 404) by s p
at_peer_books at config by (Some peer) u s p =
    books_if at (is_full s.conference) s (after_failure_notify config by 503 s) (after_invite config at by peer u s)
    (after_notify_to_books at config false (own_status 503) by s p)
    (after_invite_books at config by (account_of config.accounts u) (invitation_dialog config s.conference.number peer (uri_text (target_of u)) s.effects.output) s p)

after_refer_books : (at : ℕ) (config : ConferenceConfigView) (by : ℕ) (o : Option Uri) (s : StepResult) → ArePlain s.conference.participants → Books at s (after_refer config at by o s)
unfolding after_refer
after_refer_books at config by None s p = after_notify_to_books at config false (own_status 404) by s p
after_refer_books at config by (Some u) s p = at_peer_books at config by (route_of u config.peers.routes) u s p

referral_books : (at : ℕ) (config : ConferenceConfigView) (key : TKey) (m : MessageView) (r : Referral) → KeepsBooks at (on_referral config at key m r)
referral_books at config key m referral.Missing place seat s e p = after_refusal_books at config key m 400 place seat s e p
referral_books at config key m referral.OtherMethod place seat s e p = after_refusal_books at config key m 403 place seat s e p
referral_books at config key m (referral.Replace r) place seat s e p = after_accepted_refer_books at config key m place seat s e p
referral_books at config key m (referral.Invite u) place seat s e p =
    let told : StepResult = after_accepted_refer config key m place seat s in
    let tried : StepResult = after_trying config seat.number told in
    let first = after_accepted_refer_books at config key m place seat s e p in
    let second = after_notify_to_books at config true (own_status 100) seat.number told first.plain in
    books_then at s told (after_refer config at seat.number u tried) first (books_then at told tried (after_refer config at seat.number u tried) second (after_refer_books at config seat.number u tried second.plain))

-- ---- a request

received_books : (at : ℕ) (config : ConferenceConfigView) (key : TKey) (m : MessageView) → EndsBooks at (on_request_in_order config at key m)
received_books at config key m place seat s e p =
    ends_if at (is_method (codes "INVITE") m.parsed.start) s (on_invite config at key m place seat s) other
    (goes_on at s (on_invite config at key m place seat s) (invite_books at config key m place seat s e p))
    (ends_if at (is_method (codes "BYE") m.parsed.start) s (on_bye config at key m place seat s) third (bye_books at config key m place seat s e p)
    (ends_if at (is_method (codes "REFER") m.parsed.start) s referred fourth (goes_on at s referred (referral_books at config key m (referral_in m.parsed.refer_to) place seat s e p))
    (ends_if at (is_method (codes "OPTIONS") m.parsed.start) s (after_response config key m 200 (allow_lines config.methods) place seat s) (after_refusal config key m 481 place seat s)
    (goes_on at s (after_response config key m 200 (allow_lines config.methods) place seat s) (answered_books at config key m 200 (allow_lines config.methods) place seat s e p))
    (ends_refused at config key m 481 place seat s e p))))
  where
    referred : StepResult
    referred = on_referral config at key m (referral_in m.parsed.refer_to) place seat s

    fourth : StepResult
    fourth = if is_method (codes "OPTIONS") m.parsed.start then after_response config key m 200 (allow_lines config.methods) place seat s else after_refusal config key m 481 place seat s

    third : StepResult
    third = if is_method (codes "REFER") m.parsed.start then referred else fourth

    other : StepResult
    other = if is_method (codes "BYE") m.parsed.start then on_bye config at key m place seat s else third

fault_books : (at : ℕ) (config : ConferenceConfigView) (key : TKey) (m : MessageView) (fault : DialogueFault) → EndsBooks at (after_out_of_order config key m fault)
fault_books at config key m (OldCSeq last) place seat s e p = ends_refused at config key m 500 place seat s e p
fault_books at config key m Pending place seat s e p = ends_refused at config key m 491 place seat s e p
fault_books at config key m Unfinished place seat s e p = goes_on at s (after_response config key m 500 retry_after_lines place seat s) (answered_books at config key m 500 retry_after_lines place seat s e p)

with_leg_plain : (party : Party) (leg : Leg) → leg.meter ≡ (leg_of party).meter → IsPlain party → IsPlain (with_leg leg party)
with_leg_plain (Invited before) leg e p = e ∙ p
with_leg_plain (DialedIn before) leg e p = tt
with_leg_plain (DialedOut before) leg e p = tt

receiving_books : (at : ℕ) (config : ConferenceConfigView) (key : TKey) (m : MessageView) (r : Result (Unit {0}) DialogueFault) → EndsBooks at (on_checked_request config at key m r)
receiving_books at config key m (Err fault) place seat s e p = fault_books at config key m fault place seat s e p
receiving_books at config key m (Ok received) place seat s e p =
    let leg : Leg = requests.leg_after_request m (leg_of seat.party) in
    let next : StepResult = with_participant place (participant_after_request m seat) s in
    let first = with_participant_books at place seat (participant_after_request m seat) s e (same_meter seat.party leg refl)
    (with_leg_plain seat.party leg refl (plain_there s.conference.participants place seat e p)) p in
    ends_then at s next (on_checked_request config at key m (Ok received) place seat s) first (ends_at_seat at (on_request_in_order config at key m) (received_books at config key m) place next first.plain)

pub request_books : (at : ℕ) (config : ConferenceConfigView) (key : TKey) (m : MessageView) → EndsBooks at (on_request config at key m)
unfolding on_request
request_books at config key m place seat s e p =
    ends_if at (is_connected seat) s (on_checked_request config at key m (requests.request_check (leg_of seat.party) m (invite_in_flight seat)) place seat s) (after_refusal config key m 481 place seat s)
    (receiving_books at config key m (requests.request_check (leg_of seat.party) m (invite_in_flight seat)) place seat s e p) (ends_refused at config key m 481 place seat s e p)

pub ack_books : (at : ℕ) (m : MessageView) → KeepsBooks at (on_ack m)
unfolding on_ack
ack_books at m place seat s e p =
    books_if at (acknowledges m seat.pending_ack) s (with_participant place (record seat { pending_ack = None }) s) s
    (with_participant_books at place seat (record seat { pending_ack = None }) s e refl (plain_there s.conference.participants place seat e p) p) (stays at s p)

-- ---- a response

-- an invited party is connected, and any other one is unchanged
connected_participant_books : (at : ℕ) (room : RoomNo) (remote : Remote) (place : ℕ) (seat other : ParticipantState) (s : StepResult) (party : Party) →
    slice_get s.conference.participants place ≡ Some seat → seat.party ≡ party → other.party ≡ connected_party room at seat.account remote party → IsPlain party →
    ArePlain s.conference.participants → Books at s (with_participant place other s)
connected_participant_books at room remote place seat other s (Invited leg) e f g q p =
    begun_books at place seat other s (meter_of room at seat.account) e
    (ap (λ x. option_to_list (leg_of x).meter) f ∙ ap option_to_list q) (ap (λ x. option_to_list (leg_of x).meter) g) (meter_begins at room seat.account) (subst IsPlain (sym g) tt) p
connected_participant_books at room remote place seat other s (DialedIn leg) e f g q p = with_participant_books at place seat other s e (ap (λ x. option_to_list (leg_of x).meter) (g ∙ sym f)) (subst IsPlain (sym g) tt) p
connected_participant_books at room remote place seat other s (DialedOut leg) e f g q p =
    with_participant_books at place seat other s e (ap (λ x. option_to_list (leg_of x).meter) (g ∙ sym f)) (subst IsPlain (sym g) tt) p

after_own_ack_books : (at : ℕ) (config : ConferenceConfigView) (tag : List ℕ) → KeepsBooks at (after_own_ack config tag)
after_own_ack_books at config tag place seat s e p =
    let other : ParticipantState = record seat { invite = accepted_invite tag (ack_text config.sip (dialogue_of seat) (token s.effects.output)) seat.invite } in
    let next : StepResult = with_participant place other s in
    let first = with_participant_books at place seat other s e refl (plain_there s.conference.participants place seat e p) p in
    books_then at s next (after_own_ack config tag place seat s) first (says at next (with_ack config.sip (dialogue_of seat) s.effects.output) refl first.plain)

success_books : (at : ℕ) (config : ConferenceConfigView) (m : MessageView) → KeepsBooks at (on_success config at m)
success_books at config m place seat s e p =
    let remote : Remote = remote_of Callee m.parsed.lines in
    let other : ParticipantState = connected_participant s.conference.number at remote seat in
    let next : StepResult = with_participant place other s in
    let told : StepResult = at_participant (after_own_ack config (to_tag_of m)) place next in
    let first = connected_participant_books at s.conference.number remote place seat other s seat.party e refl refl (plain_there s.conference.participants place seat e p) p in
    let second = books_at_seat at (after_own_ack config (to_tag_of m)) (after_own_ack_books at config (to_tag_of m)) place next first.plain in
    books_then at s next (on_success config at m place seat s) first
    (books_then at next told (on_success config at m place seat s) second (after_notify_referrer_books at config false (own_status 200) seat.by told second.plain))

-- it ends without a 2xx
without_books : (at : ℕ) (config : ConferenceConfigView) (line : List ℕ) → KeepsBooks at (after_end config at line)
without_books at config line place seat s e p =
    let next : StepResult = after_dismissal config at place seat s in
    let first = after_dismissal_books at config place seat s e p in
    books_then at s next (after_end config at line place seat s) first (after_notify_referrer_books at config false line seat.by next first.plain)

-- of a participant that is as before, except for its INVITE
then_without : (at : ℕ) (config : ConferenceConfigView) (line : List ℕ) (place : ℕ) (seat : ParticipantState) (invite : Option Invite) (s : StepResult) →
    slice_get s.conference.participants place ≡ Some seat → ArePlain s.conference.participants →
    Books at s (at_participant (after_end config at line) place (with_participant place (record seat { invite = invite }) s))
then_without at config line place seat invite s e p =
    let next : StepResult = with_participant place (record seat { invite = invite }) s in
    let first = with_participant_books at place seat (record seat { invite = invite }) s e refl (plain_there s.conference.participants place seat e p) p in
    books_then at s next (at_participant (after_end config at line) place next) first (books_at_seat at (after_end config at line) (without_books at config line) place next first.plain)

pub with_ack_rows : (sip : Addr) (key : TKey) (m : MessageView) (o : Option Invite) (output : StepOutput) → (with_failure_ack sip key m o output).rows ≡ output.rows
with_ack_rows sip key m None output = refl
with_ack_rows sip key m (Some (Outstanding number i)) output = refl
with_ack_rows sip key m (Some (Accepted branch tag ack)) output = refl

failure_books : (at : ℕ) (config : ConferenceConfigView) (key : TKey) (m : MessageView) → KeepsBooks at (on_failure config at key m)
failure_books at config key m place seat s e p =
    let next : StepResult = with_output (with_failure_ack config.sip key m seat.invite s.effects.output) s in
    books_then at s next (on_failure config at key m place seat s) (says at s (with_failure_ack config.sip key m seat.invite s.effects.output) (with_ack_rows config.sip key m seat.invite s.effects.output) p)
    (then_without at config (status_line (status_of m.parsed.start) (phrase_in m.parsed.start)) place seat None next e p)

provisional_books : (at : ℕ) (key : TKey) → KeepsBooks at (on_provisional key)
provisional_books at key place seat s e p = with_participant_books at place seat (record seat { invite = invite_with_provisional key seat.invite }) s e refl (plain_there s.conference.participants place seat e p) p

response_books : (at : ℕ) (config : ConferenceConfigView) (key : TKey) (m : MessageView) → KeepsBooks at (on_outstanding_response config at key m)
response_books at config key m place seat s e p =
    books_if at (nat_lt (status_of m.parsed.start) 200) s (on_provisional key place seat s) (if nat_lt (status_of m.parsed.start) 300 then on_success config at m place seat s else on_failure config at key m place seat s)
    (provisional_books at key place seat s e p)
    (books_if at (nat_lt (status_of m.parsed.start) 300) s (on_success config at m place seat s) (on_failure config at key m place seat s) (success_books at config m place seat s e p)
    (failure_books at config key m place seat s e p))

repeat_books : (at : ℕ) (m : MessageView) (tag ack : List ℕ) → KeepsBooks at (on_retransmission m tag ack)
repeat_books at m tag ack place seat s e p =
    books_if at (is_success (status_of m.parsed.start) && bytes_eq (to_tag_of m) tag) s (after_ack_retransmission ack seat s) s (same at s (after_ack_retransmission ack seat s) refl refl refl p) (stays at s p)

answer_to_books : (at : ℕ) (o : Option Invite) (config : ConferenceConfigView) (key : TKey) (m : MessageView) → KeepsBooks at (on_response_to o config at key m)
answer_to_books at None config key m place seat s e p = stays at s p
answer_to_books at (Some (Outstanding number i)) config key m place seat s e p = response_books at config key m place seat s e p
answer_to_books at (Some (Accepted branch tag ack)) config key m place seat s e p = repeat_books at m tag ack place seat s e p

pub answer_books : (at : ℕ) (config : ConferenceConfigView) (key : TKey) (m : MessageView) → KeepsBooks at (on_any_response config at key m)
unfolding on_any_response
answer_books at config key m place seat s e p = answer_to_books at seat.invite config key m place seat s e p

-- ---- a timeout

pub silence_books : (at : ℕ) (config : ConferenceConfigView) → KeepsBooks at (on_timeout config at)
unfolding on_timeout
silence_books at config place seat s e p =
    books_if at (is_invite_outstanding seat.invite) s (after_invite_end config at (own_status 408) place seat s) s (then_without at config (own_status 408) place seat None s e p) (stays at s p)

-- ---- timers

cancel_rows : (b : Bool) (sip : Addr) (i : SentInvite) (output : StepOutput) → (if b then with_cancel sip i output else output).rows ≡ output.rows
cancel_rows true sip i output = refl
cancel_rows false sip i output = refl

pub cancelled_rows : (sip : Addr) (o : Option Invite) (output : StepOutput) → (with_invite_cancel sip o output).rows ≡ output.rows
cancelled_rows sip None output = refl
cancelled_rows sip (Some (Outstanding number i)) output = cancel_rows (is_cancellable i) sip i output
cancelled_rows sip (Some (Accepted branch tag ack)) output = refl

after_ringing_limit_books : (at : ℕ) (config : ConferenceConfigView) → KeepsBooks at (after_ringing_limit config at)
after_ringing_limit_books at config place seat s e p =
    let next : StepResult = with_output (with_invite_cancel config.sip seat.invite s.effects.output) s in
    books_then at s next (after_ringing_limit config at place seat s) (says at s (with_invite_cancel config.sip seat.invite s.effects.output) (cancelled_rows config.sip seat.invite s.effects.output) p)
    (then_without at config (own_status 408) place seat (invite_after_due_cancel seat.invite) next e p)

cap_books : (at : ℕ) (config : ConferenceConfigView) (number : ℕ) → KeepsBooks at (on_cap config at number)
cap_books at config number place seat s e p =
    books_if at (not (is_connected seat) && has_outstanding_number number seat.invite) s (after_ringing_limit config at place seat s) s (after_ringing_limit_books at config place seat s e p) (stays at s p)

no_ack_books : (at : ℕ) (config : ConferenceConfigView) (number : ℕ) → EndsBooks at (on_no_ack config at number)
no_ack_books at config number place seat s e p =
    let next : StepResult = after_dismissal config at place seat s in
    let first = after_dismissal_books at config place seat s e p in
    ends_if at (is_ack_pending number seat.pending_ack) s (after_missing_ack config at place seat s) s
    (ends_then at s next (after_missing_ack config at place seat s) first (after_close_with_books at config seat.number next first.plain)) (goes_on at s s (stays at s p))

pub due_books : (at : ℕ) (config : ConferenceConfigView) (what : RoomWord) → EndsBooks at (on_due config at what)
unfolding on_due
due_books at config (due.Cap number) place seat s e p = goes_on at s (on_cap config at number place seat s) (cap_books at config number place seat s e p)
due_books at config (due.NoAck number) place seat s e p = no_ack_books at config number place seat s e p
