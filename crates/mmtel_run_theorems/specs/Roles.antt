-- Which role a message has in a run, by what was done before it. What a trusted peer discloses of itself can become visible to others only in an INVITE that opens a call, in the
-- dialog of an established call, in a PRACK or an UPDATE, or in a response that is awaited to such a request of the server: there it is private where its side of the call is
-- restricted. All else is not relayed, and all of it that may be private is (RFC 3261 §9.2, §12.2.2, §17.1.3, §17.2.3; RFC 3262 §4; RFC 3311 §5; RFC 4579 §5; TS 24.607 §4.5.2,
-- TS 24.608 §4.5.2).
use Rattle.std.specs.Prelude.{ℕ, ◌==◌, ◌&&◌, Bool, true, if◌then◌else◌, Option, Some, None, List, [], codes, is_none, position, slice_get}
use Rattle.std.specs.Option.{unwrap_or}
use Rattle.mmtel_compose.specs.ReceivedMessages.{MessageView}
use Rattle.mmtel_b2bua.specs.Entries.{has_sent_branch}
use Rattle.mmtel_b2bua.specs.Detaching.{entry_at, entry_of}
use Rattle.mmtel_b2bua.specs.Tables.{Table, snapshot_at}
use Rattle.mmtel_b2bua.specs.declared.entries.Entry.{Entry}
use Rattle.mmtel_output.specs.ResponseMatching.{awaited_request_branch}
use Rattle.mmtel_call_services.specs.Opening.{origin_sheet}
use Rattle.mmtel_call_services.specs.CopiedHeaders.{facing}
use Rattle.mmtel_call_services.specs.declared.openings.Opening.{Opening}
use Rattle.mmtel_call_services.specs.declared.openings.Service.{Service}
use Rattle.mmtel_call.specs.Answered.{leg_of}
use Rattle.mmtel_call.specs.RelayedTransactions.{is_in_flight, service_in}
use Rattle.mmtel_call.specs.OtherRequests.{is_answered_invite}
use Rattle.mmtel_call.specs.Table.{is_current}
use Rattle.mmtel_call.specs.declared.calls.Call.{Call}
use Rattle.mmtel_call.specs.declared.calls.RelayedTransaction.{RelayedTransaction}
use Rattle.mmtel_call.specs.declared.calls.Phase.{Phase}
use Rattle.mmtel_call.specs.declared.calls.Phase.TheVariants.{Detached, Established, Offered, Over}
use Rattle.mmtel_call.specs.declared.calls.Stage.TheVariants.{Answered, Departing, Reinviting, Stable}
use Rattle.mmtel_call.specs.declared.calls.AnsweredInvite.{AnsweredInvite}
use Rattle.mmtel_call.specs.declared.calls.OfferedAttempt.{OfferedAttempt}
use Rattle.mmtel_call_theorems.specs.Noninterference.Roles.{Opens, Plain, Role, Sends, goes_across, opening_role}
use Rattle.mmtel_output.specs.AbandonedInvites.{is_of_branch}
use Rattle.mmtel_output.specs.declared.sent_invites.AbandonedInvite.{AbandonedInvite}
use Rattle.mmtel_directory.specs.declared.directories.Directory.{Directory}
use Rattle.mmtel_focus.specs.Conferences.{Conference}
use Rattle.mmtel_participants.specs.declared.participants.Invite.{Invite}
use Rattle.mmtel_participants.specs.declared.participants.Invite.TheVariants.{Accepted, Outstanding}
use Rattle.mmtel_participants.specs.declared.participants.ParticipantState.{ParticipantState}
use Rattle.mmtel_focus.specs.Participants.{dialogue_of}
use Rattle.mmtel_focus.specs.Table as table
use Rattle.mmtel_focus.specs.Table.{conference_at, conference_has_branch, participant_has_branch}
use Rattle.mmtel_identity.specs.Restriction.{is_caller_restricted}
use Rattle.mmtel_message.specs.Faults.{is_method}
use Rattle.mmtel_call_parties.specs.Parties.{parties_of, served_accounts}
use Rattle.mmtel_transaction.specs.Results.{class_of}
use Rattle.mmtel_transaction.specs.Operations.{live}
use Rattle.mmtel_transaction.specs.Heads.{head_of, is_cancel}
use Rattle.mmtel_transaction.specs.declared.message_class.MessageClass.{MessageClass}
use Rattle.mmtel_transaction.specs.declared.message_class.MessageClass.TheVariants as part
use Rattle.mmtel_trust.specs.ParsedMessage.{ParsedMessage}
use Rattle.mmtel_types.specs.Sides.{other_side}
use Rattle.mmtel_types.specs.declared.numbers.CallNo.{CallNo}
use Rattle.mmtel_types.specs.declared.numbers.Peer.{Peer}
use Rattle.mmtel_types.specs.declared.sides.Side.{Side}
use Rattle.mmtel_types.specs.declared.sides.Side.TheVariants.{Callee, Caller}
use Rattle.mmtel_run_definitions.specs.Calls.{named_by}
use Rattle.mmtel_run_definitions.specs.Events.{message_in}
use Rattle.mmtel_run_definitions.specs.Records.{in_force}
use Rattle.mmtel_run_definitions.specs.Refusals.{is_subscribe}
use Rattle.mmtel_run_definitions.specs.Transitions.{RunState, calls_in, conferences_in}

-- ---- what is not relayed

-- of a request all that may be private of one, whoever sends it and whether or not anybody is restricted: the INVITE of a restricted caller hides the most
abbrev pub unshown_request : Role
unshown_request = Opens

-- of a response too: a response of a restricted caller hides the most
abbrev pub unshown_response : Role
unshown_response = Sends Caller

-- ---- a side sends it

-- it comes from this peer
abbrev pub comes_from : Peer → MessageView → Bool
comes_from own m = m.peer.0 == own.0

-- the side sends it, where it is restricted and this is its own peer
abbrev pub role_of_sender : (restricted : Bool) → (own : Peer) → Side → MessageView → Role
role_of_sender restricted own side m = if restricted && comes_from own m then Sends side else Plain

-- of a call: its caller is restricted for the whole call, its callee by the message and the record of the served account
abbrev pub side_role : Opening → Option Service → (own : Peer) → Side → MessageView → Role
side_role o service own side m = role_of_sender (facing o service side m).restricted own side m

-- ---- a request in the dialog of a side (§12.2.2): it is relayed to the other side where the call is established, and a PRACK or UPDATE where it is offered, if switched on (RFC
-- 3262 §4, RFC 3311 §5.2)

-- the peer of a side of an offered call
abbrev pub peer_in_offered : Side → OfferedAttempt → Peer
peer_in_offered Caller x = x.caller.dialogue.peer
peer_in_offered Callee x = x.callee.leg.dialogue.peer

abbrev pub offered_role : (reliable : Bool) → OfferedAttempt → Opening → Side → MessageView → Role
offered_role reliable x o side m = if reliable && goes_across side m then side_role o x.attempt.service (peer_in_offered side x) side m else unshown_request

abbrev pub request_role_in : (reliable : Bool) → Phase → Opening → Side → MessageView → Role
request_role_in reliable (Offered x) o side m = offered_role reliable x o side m
request_role_in reliable (Established x stage) o side m = side_role o x.service (leg_of side x).dialogue.peer side m
request_role_in reliable (Detached detached) o side m = unshown_request
request_role_in reliable (Over cause) o side m = unshown_request

abbrev pub request_role_of : (reliable : Bool) → Side → MessageView → Option Entry → Role
request_role_of reliable side m None = unshown_request
request_role_of reliable side m (Some e) = request_role_in reliable e.call.phase e.call.opening side m

-- of the call and the side that it names. A request that names none is of a participant, whose conference relays nobody's data (RFC 4579 §5), or is answered by the server
abbrev pub named_role : (reliable : Bool) → MessageView → List Entry → Option (CallNo × Side) → Role
named_role reliable m es None = unshown_request
named_role reliable m es (Some x) = request_role_of reliable x.1 m (entry_of x.0.0 es)

abbrev pub dialog_role : Directory → RunState → MessageView → Role
dialog_role directory state m = named_role directory.reliable m (calls_in directory state).entries (named_by m.parsed (calls_in directory state).entries)

-- ---- a response to a request of a call (§17.1.3)

-- to the INVITE whose response the call awaits: it comes from the side that was sent it
abbrev pub awaited_role : Phase → Opening → MessageView → Role
awaited_role (Offered x) o m = if comes_from x.callee.leg.dialogue.peer m then side_role o x.attempt.service x.attempt.invite.dialogue.peer Callee m else Plain
awaited_role (Established x (Answered side success)) o m = unshown_response
awaited_role (Established x (Departing side success)) o m = unshown_response
awaited_role (Established x Stable) o m = unshown_response
awaited_role (Established x (Reinviting side q)) o m = side_role o x.service q.invite.dialogue.peer (other_side side) m
awaited_role (Detached detached) o m = unshown_response
awaited_role (Over cause) o m = unshown_response

-- an INVITE whose response it does not await, which was abandoned or had a 2xx
abbrev pub abandoned_invite_at : Option ℕ → List AbandonedInvite → Option AbandonedInvite
abandoned_invite_at None ls = None
abandoned_invite_at (Some at) ls = slice_get ls at

abbrev pub answered_invite_at : Option ℕ → List AnsweredInvite → Option AnsweredInvite
answered_invite_at None ts = None
answered_invite_at (Some at) ts = slice_get ts at

abbrev pub is_of_abandoned : MessageView → Option AbandonedInvite → Bool
is_of_abandoned m None = true
is_of_abandoned m (Some l) = comes_from l.invite.dialogue.peer m

abbrev pub is_of_answered : MessageView → Option AnsweredInvite → Bool
is_of_answered m None = true
is_of_answered m (Some t) = comes_from t.invite.dialogue.peer m

-- a response to such an INVITE from its own peer is not relayed
abbrev pub role_of_remaining : MessageView → Option AbandonedInvite → Option AnsweredInvite → Role
role_of_remaining m abandoned taken = if is_of_abandoned m abandoned && is_of_answered m taken then unshown_response else Plain

-- what is in flight: the response comes from the side opposite to the sender's (RFC 3262 §4, RFC 3311 §5.1)
abbrev pub relayed_at : Option ℕ → List RelayedTransaction → Option RelayedTransaction
relayed_at None flights = None
relayed_at (Some at) flights = slice_get flights at

abbrev pub relayed_role : Call → MessageView → RelayedTransaction → Role
relayed_role c m flight = side_role c.opening (service_in c.phase) flight.exchange.invite.dialogue.peer (other_side flight.side) m

abbrev pub other_role : Call → MessageView → Option AbandonedInvite → Option AnsweredInvite → Option RelayedTransaction → Role
other_role c m (Some abandoned) taken flight = role_of_remaining m (Some abandoned) taken
other_role c m None (Some taken) flight = role_of_remaining m None (Some taken)
other_role c m None None (Some flight) = relayed_role c m flight
other_role c m None None None = unshown_response

abbrev pub response_role_of : (branch : List ℕ) → MessageView → Call → Role
response_role_of branch m c =
    if is_current branch c then awaited_role c.phase c.opening m
    else other_role c m (abandoned_invite_at (position (is_of_branch branch) c.abandoned) c.abandoned)
    (answered_invite_at (position (is_answered_invite branch) c.answered_invites) c.answered_invites)
    (relayed_at (position (is_in_flight branch) c.relayed) c.relayed)

abbrev pub role_in_entry : (branch : List ℕ) → MessageView → Option Entry → Option Role
role_in_entry branch m None = None
role_in_entry branch m (Some e) = Some (response_role_of branch m e.call)

-- for the call that sent the request of this branch
abbrev pub role_in_response : (branch : List ℕ) → MessageView → Table → Option Role
role_in_response branch m table = role_in_entry branch m (entry_at (position (has_sent_branch (Some branch)) table.entries) table.entries)

-- ---- a response to an INVITE of a participant, pending, accepted or abandoned: a conference relays nobody's data, so nothing from the participant's own peer is relayed

abbrev pub invited_at : (place : Option ℕ) → List ParticipantState → Option ParticipantState
invited_at None seats = None
invited_at (Some place) seats = slice_get seats place

abbrev pub invited_in : (branch : List ℕ) → Option Conference → Option ParticipantState
invited_in branch None = None
invited_in branch (Some room) = invited_at (position (participant_has_branch branch) room.participants) room.participants

-- the participant whose INVITE has this branch
abbrev pub participant_invited : (branch : List ℕ) → List Conference → Option ParticipantState
participant_invited branch live = invited_in branch (conference_at (position (conference_has_branch branch) live) live)

abbrev pub is_of_invite : MessageView → Option Invite → Bool
is_of_invite m None = true
is_of_invite m (Some (Outstanding number i)) = comes_from i.dialogue.peer m
is_of_invite m (Some (Accepted branch tag ack)) = true

abbrev pub is_of_participant : MessageView → Option ParticipantState → Bool
is_of_participant m None = true
is_of_participant m (Some seat) = comes_from (dialogue_of seat).peer m && is_of_invite m seat.invite

-- where no INVITE was sent it is not relayed either
abbrev pub participant_response_role : MessageView → Option AbandonedInvite → Option ParticipantState → Role
participant_response_role m abandoned seat = if is_of_abandoned m abandoned && is_of_participant m seat then unshown_response else Plain

abbrev pub role_in_conference_response : (branch : List ℕ) → MessageView → table.Table → Role
role_in_conference_response branch m rooms = participant_response_role m
    (abandoned_invite_at (position (is_of_branch branch) rooms.abandoned) rooms.abandoned) (participant_invited branch rooms.live)

-- ---- a response: to an INVITE, PRACK or UPDATE of a call, or else to an INVITE of a conference. A response to a BYE, CANCEL or NOTIFY of the server is not relayed

abbrev pub response_role_by : Directory → RunState → MessageView → (branch : Option (List ℕ)) → Role
response_role_by directory state m None = unshown_response
response_role_by directory state m (Some branch) =
    unwrap_or (role_in_response branch m (calls_in directory state)) (role_in_conference_response branch m (conferences_in directory state))

abbrev pub response_role : Directory → RunState → MessageView → Role
response_role directory state m = response_role_by directory state m (awaited_request_branch m)

-- ---- the role

-- an INVITE without To tag opens a call or a conference, or asks to join one
abbrev pub is_opening : ParsedMessage → Bool
is_opening message = is_method (codes "INVITE") message.start && is_none message.to_tag

-- its caller is restricted: by the values of Privacy, and by the record in force of the account that is served as the caller
abbrev pub hides_caller : Directory → RunState → ParsedMessage → Bool
hides_caller directory state message =
    is_caller_restricted message.wants
    (origin_sheet (snapshot_at state.clock (in_force state.texts state.registrations) []) (served_accounts (parties_of directory.names.accounts message)))

-- with message waiting, a SUBSCRIBE
abbrev pub may_subscribe : Directory → ParsedMessage → Bool
may_subscribe directory message = is_subscribe message && directory.names.mwi

-- and one that names no dialog of a call: its sender and the mailbox decide the response (RFC 6665 §4.2.1)
abbrev pub is_subscribing : Directory → RunState → ParsedMessage → Bool
is_subscribing directory state message = may_subscribe directory message && is_none (named_by message (calls_in directory state).entries)

-- of a request that is new to the transactions. Nothing of a CANCEL is relayed (§9.2)
abbrev pub new_request_role : Directory → RunState → MessageView → Role
new_request_role directory state m =
    if is_opening m.parsed then opening_role (hides_caller directory state m.parsed)
    else if is_cancel (head_of (message_in m.parsed)) then unshown_request
    else if is_subscribing directory state m.parsed then Plain
    else dialog_role directory state m

-- by how the transactions classify it: of a retransmission, a message beyond the capacity, an unmatched one, and the ACK of a refusal, nothing is relayed (§17.1.3, §17.2.1)
abbrev pub role_as : Directory → RunState → MessageView → MessageClass → Role
role_as directory state m part.Fresh = new_request_role directory state m
role_as directory state m part.Full = unshown_request
role_as directory state m (part.Repeat key) = unshown_request
role_as directory state m (part.Acked key) = unshown_request
role_as directory state m part.AckOf2xx = dialog_role directory state m
role_as directory state m (part.Answer key) = response_role directory state m
role_as directory state m (part.RepeatedFinal key) = unshown_response
role_as directory state m part.Stray = unshown_response

unfoldable pub role_of : Directory → RunState → MessageView → Role
role_of directory state m = role_as directory state m (class_of (head_of (message_in m.parsed)) (live state.actions))
