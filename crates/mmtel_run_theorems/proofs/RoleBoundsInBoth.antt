-- In each of two runs a message hides no more than the call that receives it determines.
use Rattle.std.proofs.Common.{◌≡◌, ℕ, Bool, true, false, ◌&&◌, List, refl, ap, sym, ◌∙◌, Option, Some, None, subst}
use Rattle.std.specs.Prelude.{if◌then◌else◌, is_none, is_some, position, slice_get}
use Rattle.std.specs.Option.{option_map, unwrap_or}
use Rattle.mmtel_compose.specs.ReceivedMessages.{MessageView}
use Rattle.mmtel_b2bua.specs.Entries.{has_sent_branch, is_numbered}
use Rattle.mmtel_b2bua.specs.Detaching.{entry_at, entry_of}
use Rattle.mmtel_b2bua.specs.declared.entries.Entry.{Entry}
use Rattle.mmtel_b2bua_theorems.specs.Signals.{CallMayReceive}
use Rattle.mmtel_output.specs.ResponseMatching.{awaited_request_branch, branch_in}
use Rattle.mmtel_call.specs.declared.calls.Call.{Call}
use Rattle.mmtel_call.specs.declared.calls.Phase.{Phase}
use Rattle.mmtel_call.specs.declared.calls.Phase.TheVariants.{Detached, Established, Offered, Over}
use Rattle.mmtel_call.specs.declared.calls.Stage.TheVariants.{Answered, Departing, Reinviting, Stable}
use Rattle.mmtel_call.specs.Answered.{leg_of}
use Rattle.mmtel_call.specs.declared.signals.Signal.TheVariants as of_call
use Rattle.mmtel_call_theorems.specs.Noninterference.PublicParts.{MessagesHaveNothingPrivate}
use Rattle.mmtel_call_theorems.specs.Noninterference.Premises.{IsFromOwnPeer, IsResponseOf, goes_across}
use Rattle.mmtel_call_theorems.specs.Noninterference.Roles.{Plain, Role, hides, opening_role}
use Rattle.mmtel_call_theorems.specs.Noninterference.Observations.{Trust, trust_of}
use Rattle.mmtel_call_theorems.specs.Noninterference.StepTable.{FitsIn, SentIn}
use Rattle.mmtel_output.specs.AbandonedInvites.{is_of_branch}
use Rattle.mmtel_output.specs.declared.sent_invites.AbandonedInvite.{AbandonedInvite}
use Rattle.mmtel_directory.specs.declared.directories.Directory.{Directory}
use Rattle.mmtel_focus.specs.Conferences.{Conference}
use Rattle.mmtel_participants.specs.declared.participants.Invite.{Invite}
use Rattle.mmtel_participants.specs.declared.participants.Invite.TheVariants.{Accepted, Outstanding}
use Rattle.mmtel_participants.specs.declared.participants.ParticipantState.{ParticipantState}
use Rattle.mmtel_focus.specs.Participants.{dialogue_of}
use Rattle.mmtel_focus.specs.Table.{Table, conference_at, conference_has_branch, participant_has_branch}
use Rattle.mmtel_focus_theorems.specs.Inputs.{IsOfInvite, IsOfParticipant, IsResponseBy, IsResponseTo, RoleMessage}
use Rattle.mmtel_message.specs.Faults.{is_request}
use Rattle.mmtel_base.proofs.Runs.{and_true}
use Rattle.mmtel_transaction.specs.Results.{class_of, peer_of, tkey}
use Rattle.mmtel_transaction.specs.Operations.{live}
use Rattle.mmtel_transaction.specs.Heads.{head_of, is_cancel}
use Rattle.mmtel_transaction.specs.declared.message_class.MessageClass.{MessageClass}
use Rattle.mmtel_transaction.specs.declared.message_class.MessageClass.TheVariants as part
use Rattle.mmtel_transaction.specs.declared.words.TKey.{TKey}
use Rattle.mmtel_types.specs.Sides.{other_side}
use Rattle.mmtel_types.specs.declared.numbers.CallNo.{CallNo}
use Rattle.mmtel_types.specs.declared.numbers.Peer.{Peer}
use Rattle.mmtel_types.specs.declared.sides.Side.{Side}
use Rattle.mmtel_run_definitions.specs.Equivalence.{trusts}
use Rattle.mmtel_run_definitions.specs.Calls.{call_config, named_by}
use Rattle.mmtel_run_definitions.specs.Events.{message_in}
use Rattle.mmtel_run_definitions.specs.Refusals.{is_subscribe}
use Rattle.mmtel_run_definitions.specs.Ownership.{OfCalls, OfConferences, OfSubscriptions, Owner, is_of_calls, is_of_subscriptions, owner_of, owner_of_branch}
use Rattle.mmtel_run_definitions.specs.Transitions.{RunState, calls_in, conferences_in, subscriptions_in}
use Rattle.mmtel_run_theorems.specs.EquivalentStates.{HasSameTrust, InviteIsTied, MessageIsTied, ResponseIsTiedToTable}
use Rattle.mmtel_run_theorems.specs.Roles.{abandoned_invite_at, comes_from, dialog_role, hides_caller, invited_at, invited_in, is_of_abandoned, is_of_invite, is_of_participant}
use Rattle.mmtel_run_theorems.specs.Roles.{is_opening, is_subscribing, may_subscribe, named_role, participant_invited, participant_response_role, request_role_of, response_role}
use Rattle.mmtel_run_theorems.specs.Roles.{response_role_by, response_role_of, role_as, role_in_conference_response, role_in_entry, role_in_response, role_of, unshown_request}
use Rattle.mmtel_run_theorems.proofs.DispositionKinds.{ack_taken, answer_response, named_tagged, no_ack_across, subscribe_opens_nothing, subscribes_elsewhere}
use Rattle.mmtel_run_theorems.proofs.EquivalentEmits.{Knows}
use Rattle.mmtel_run_theorems.proofs.RoleBounds.{answer_by, both_own, entry_found, is_answer, request_fits, true_false}

-- where the same peers are trusted
sent_any : (t u : Trust) → ((p : Peer) → t.peer p ≡ u.peer p) → (p : Phase) (c : Call) (side : Side) (m : MessageView) → SentIn p t c side m → SentIn p u c side m
sent_any t u same (Offered x) c side m s = tt
sent_any t u same (Established x (Answered waiting success)) c side m s =
    λ is taken among of. sym (same taken.invite.dialogue.peer) ∙ (s is taken among of ∙ same (leg_of (other_side side) x).dialogue.peer)
sent_any t u same (Established x (Departing waiting success)) c side m s = tt
sent_any t u same (Established x Stable) c side m s = tt
sent_any t u same (Established x (Reinviting asking q)) c side m s = tt
sent_any t u same (Detached detached) c side m s = tt
sent_any t u same (Over cause) c side m s = tt

module _ (wholes : MessagesHaveNothingPrivate) (d : Directory) (keys : TKey → Bool) (x : Directory) (same : (p : Peer) → trusts d p ≡ trusts x p)
    (u : RunState) (knows : Knows d keys u.actions) (m : MessageView) (told : m.parsed.trusted ≡ trusts d m.peer) (tied : MessageIsTied x u m) where
  abbrev S : Trust
  S = trust_of (call_config d) keys

  abbrev entries : List Entry
  entries = (calls_in x u).entries

  role_is : (t : MessageClass) → class_of (head_of (message_in m.parsed)) (live u.actions) ≡ t → role_of x u m ≡ role_as x u m t
  unfolding role_of
  role_is t p = ap (role_as x u m) p

  dialog_is : (c : CallNo × Side) → named_by m.parsed entries ≡ Some c → dialog_role x u m ≡ request_role_of x.reliable c.1 m (entry_of c.0.0 entries)
  dialog_is c named = ap (λ (o : Option (CallNo × Side)). named_role x.reliable m entries o) named

  abbrev fresh_by : (opens cancels subscribes : Bool) → Role
  fresh_by opens cancels subscribes =
      if opens then opening_role (hides_caller x u m.parsed) else if cancels then unshown_request else if subscribes then Plain else dialog_role x u m

  -- a request that is new, and no CANCEL
  fresh_is : (c : CallNo × Side) → class_of (head_of (message_in m.parsed)) (live u.actions) ≡ part.Fresh → is_cancel (head_of (message_in m.parsed)) ≡ false →
      named_by m.parsed entries ≡ Some c
      → role_of x u m ≡ request_role_of x.reliable c.1 m (entry_of c.0.0 entries)
  fresh_is c p other named =
      role_is part.Fresh p
      ∙ (ap (λ (b : Bool). fresh_by b (is_cancel (head_of (message_in m.parsed))) (is_subscribing x u m.parsed)) (named_tagged m.parsed entries c named)
      ∙ (ap (λ (b : Bool). fresh_by false b (is_subscribing x u m.parsed)) other ∙ (ap (fresh_by false false) (subscribes_elsewhere x u m.parsed c named) ∙ dialog_is c named)))

  -- a SUBSCRIBE that names none hides but private entries
  pub subscriber_is : class_of (head_of (message_in m.parsed)) (live u.actions) ≡ part.Fresh → is_cancel (head_of (message_in m.parsed)) ≡ false → may_subscribe x m.parsed ≡ true →
      named_by m.parsed entries ≡ None → role_of x u m ≡ Plain
  subscriber_is p other may named =
      let is : is_subscribe m.parsed ≡ true = (and_true (is_subscribe m.parsed) x.names.mwi may).0 in
      let subscribes : is_subscribing x u m.parsed ≡ true = ap (λ (b : Bool). b && is_none (named_by m.parsed entries)) may ∙ ap (λ (o : Option (CallNo × Side)). is_none o) named in
      role_is part.Fresh p
      ∙ (ap (λ (b : Bool). fresh_by b (is_cancel (head_of (message_in m.parsed))) (is_subscribing x u m.parsed)) (subscribe_opens_nothing m.parsed is)
      ∙ (ap (λ (b : Bool). fresh_by false b (is_subscribing x u m.parsed)) other ∙ ap (fresh_by false false) subscribes))

  pub request_receives : (c : CallNo × Side) (key : TKey) → class_of (head_of (message_in m.parsed)) (live u.actions) ≡ part.Fresh → is_cancel (head_of (message_in m.parsed)) ≡ false →
      named_by m.parsed entries ≡ Some c → (x.reliable ≡ false → goes_across c.1 m ≡ false) → IsFromOwnPeer S key m
      → CallMayReceive S (is_numbered c.0.0) (of_call.Request c.1 key m) (role_of x u m) entries
  request_receives c key p other named off asked place i q g =
      (asked, subst (λ (r : Role). FitsIn i.call.phase i.call c.1 m r) (sym (fresh_is c p other named)) (request_fits x.reliable c.0.0 place c.1 m i entries off q g))

  pub opening_is : class_of (head_of (message_in m.parsed)) (live u.actions) ≡ part.Fresh → is_opening m.parsed ≡ true → role_of x u m ≡ opening_role (hides_caller x u m.parsed)
  opening_is p opens =
      role_is part.Fresh p
      ∙ ap (λ (b : Bool). fresh_by b (is_cancel (head_of (message_in m.parsed))) (is_subscribing x u m.parsed)) opens

  pub ack_receives : (c : CallNo × Side) → class_of (head_of (message_in m.parsed)) (live u.actions) ≡ part.AckOf2xx → named_by m.parsed entries ≡ Some c →
      CallMayReceive S (is_numbered c.0.0) (of_call.Ack c.1 m) (role_of x u m) entries
  ack_receives c p named place i q g = (
    subst (λ (r : Role). FitsIn i.call.phase i.call c.1 m r) (sym (role_is part.AckOf2xx p ∙ dialog_is c named))
        (request_fits x.reliable c.0.0 place c.1 m i entries (λ off. no_ack_across c.1 m (ack_taken (message_in m.parsed) (live u.actions) p)) q g),
    sent_any (trust_of (call_config x) (λ key. false)) S (λ peer. sym (same peer)) i.call.phase i.call c.1 m (tied.ack c.0.0 c.1 i named (entry_found c.0.0 place i entries q g)),
  )

  -- whether the server trusts the peer of a transaction that is with such a peer
  known_by : (key : ℕ) (peer : Peer) (o : Option Peer) → ((q : Peer) → o ≡ Some q → keys (tkey key) ≡ trusts d q) → option_map (trusts x) o ≡ Some (trusts x peer) →
      keys (tkey key) ≡ trusts d peer
  known_by key peer None known is = let n : None ≡ Some (trusts x peer) = is in absurd cc
  known_by key peer (Some q) known is = known q refl ∙ (same q ∙ (some_bool (trusts x q) (trusts x peer) is ∙ sym (same peer)))
    where
      some_bool : (b c : Bool) → Some b ≡ Some c → b ≡ c
      some_bool b c e = cc

  known : (key : ℕ) (peer : Peer) → HasSameTrust x u (tkey key) peer → keys (tkey key) ≡ trusts d peer
  known key peer is = known_by key peer (peer_of key (live u.actions)) (λ q e. knows key q e) is

  -- the INVITEs of calls with this branch
  sent_with : (branch : List ℕ) → awaited_request_branch m ≡ Some branch → position (has_sent_branch (Some branch)) entries ≡ position (has_sent_branch (awaited_request_branch m)) entries
  sent_with branch is = sym (ap (λ (o : Option (List ℕ)). position (has_sent_branch o) entries) is)

  answer_is : (branch : List ℕ) (place : ℕ) (i : Entry) → position (has_sent_branch (awaited_request_branch m)) entries ≡ Some place → slice_get entries place ≡ Some i →
      awaited_request_branch m ≡ Some branch → response_role x u m ≡ response_role_of branch m i.call
  answer_is branch place i q g is =
      ap (response_role_by x u m) is
      ∙ ap (λ (e : Option Entry). unwrap_or (role_in_entry branch m e) (role_in_conference_response branch m (conferences_in x u)))
      (ap (λ (o : Option ℕ). entry_at o entries) (sent_with branch is ∙ q) ∙ g)

  pub answer_receives : (key : ℕ) → class_of (head_of (message_in m.parsed)) (live u.actions) ≡ part.Answer key →
      CallMayReceive S (has_sent_branch (awaited_request_branch m)) (of_call.Answer (tkey key) m) (role_of x u m) entries
  answer_receives key p place i q g =
      answer_by wholes (call_config d) keys m told (answer_response (message_in m.parsed) (live u.actions) key p) (awaited_request_branch m) (tkey key) (role_of x u m) i
      (λ branch is. role_is (part.Answer key) p ∙ answer_is branch place i q g is)
      (λ branch is.
      let t = tied.response key branch place i p is (sent_with branch is ∙ q) g in
      record {
        awaited = λ j c e. known key j.dialogue.peer (t.awaited j c e);
        abandoned = λ at l a b. known key l.invite.dialogue.peer (t.abandoned at l a b);
        answered = λ at l a b. known key l.invite.dialogue.peer (t.answered at l a b);
      })

  -- ---- a response for a participant: no INVITE of a call has its branch

  abbrev table : Table
  table = conferences_in x u

  -- what is of the conferences is of no call
  abbrev calls_have : Owner → Bool
  calls_have OfCalls = true
  calls_have OfSubscriptions = false
  calls_have OfConferences = false

  of_no_call : (b c : Bool) → owner_of b c ≡ OfConferences → b ≡ false
  of_no_call true c e = ap calls_have e
  of_no_call false c e = refl

  none_of : (o : Option ℕ) → is_some o ≡ false → o ≡ None
  none_of None e = refl
  none_of (Some place) e = absurd (true_false e)

  module _ (key : ℕ) (p : class_of (head_of (message_in m.parsed)) (live u.actions) ≡ part.Answer key) (none : is_of_calls (awaited_request_branch m) entries ≡ false) (branch : List ℕ)
      (is : awaited_request_branch m ≡ Some branch) where
    abbrev asked : Option ParticipantState
    asked = participant_invited branch table.live

    abbrev left : Option AbandonedInvite
    left = abandoned_invite_at (position (is_of_branch branch) table.abandoned) table.abandoned

    no_call : role_in_response branch m (calls_in x u) ≡ None
    no_call =
        ap (λ (o : Option ℕ). role_in_entry branch m (entry_at o entries))
        (none_of (position (has_sent_branch (Some branch)) entries) (ap (λ (o : Option ℕ). is_some o) (sent_with branch is) ∙ none))

    -- it hides something only where it comes from the peers of both
    seat_role : role_of x u m ≡ participant_response_role m left asked
    seat_role =
        role_is (part.Answer key) p
        ∙ (ap (response_role_by x u m) is
        ∙ ap (λ (o : Option Role). unwrap_or o (role_in_conference_response branch m table)) no_call)

    response : is_request m.parsed.start ≡ false
    response = answer_response (message_in m.parsed) (live u.actions) key p

    comes : (l : Option AbandonedInvite) (s : Option ParticipantState) → left ≡ l → asked ≡ s → hides (role_of x u m) ≡ true → (is_of_abandoned m l ≡ true) × (is_of_participant m s ≡ true)
    comes l s one other hidden =
        both_own wholes (call_config d) keys m told response (is_of_abandoned m l) (is_of_participant m s)
        (sym (ap hides (seat_role ∙ (ap (λ (o : Option AbandonedInvite). participant_response_role m o asked) one ∙ ap (participant_response_role m l) other))) ∙ hidden)

    answer_of : (peer : Peer) → (hides (role_of x u m) ≡ true → comes_from peer m ≡ true) → HasSameTrust x u (tkey key) peer → IsResponseOf S (tkey key) peer (role_of x u m) m
    answer_of peer its tie = is_answer wholes (call_config d) keys m told response (tkey key) (role_of x u m) peer its (known key peer tie)

    abbrev message : RoleMessage
    message = record { message = m; role = role_of x u m }

    invite_by : (o : Option Invite) → (hides (role_of x u m) ≡ true → is_of_invite m o ≡ true) → InviteIsTied x u (tkey key) o → IsOfInvite S (tkey key) message o
    invite_by None its tie = tt
    invite_by (Some (Outstanding number i)) its tie = answer_of i.dialogue.peer its tie
    invite_by (Some (Accepted other tag ack)) its tie = tt

    abbrev tie : ResponseIsTiedToTable x u (tkey key) branch table
    tie = tied.conference key branch p is

    of_left : (at : ℕ) (l : AbandonedInvite) → position (is_of_branch branch) table.abandoned ≡ Some at → slice_get table.abandoned at ≡ Some l →
        IsResponseOf S (tkey key) l.invite.dialogue.peer (role_of x u m) m
    of_left at l found got =
        let there : left ≡ Some l = ap (λ (o : Option ℕ). abandoned_invite_at o table.abandoned) found ∙ got in
        answer_of l.invite.dialogue.peer (λ hidden. (comes (Some l) asked there refl hidden).0) (tie.abandoned at l found got)

    of_asked : (at place : ℕ) (room : Conference) (seat : ParticipantState) → position (conference_has_branch branch) table.live ≡ Some at → slice_get table.live at ≡ Some room →
        position (participant_has_branch branch) room.participants ≡ Some place → slice_get room.participants place ≡ Some seat
        → IsOfParticipant S (tkey key) message seat
    of_asked at place room seat found got asked_there got_too =
        let there : asked ≡ Some seat =
        ap (λ (o : Option ℕ). invited_in branch (conference_at o table.live)) found ∙ (ap (invited_in branch) got ∙ (ap (λ (o : Option ℕ). invited_at o room.participants) asked_there ∙ got_too)) in
        let its : hides (role_of x u m) ≡ true → (comes_from (dialogue_of seat).peer m ≡ true) × (is_of_invite m seat.invite ≡ true) =
        λ hidden. and_true (comes_from (dialogue_of seat).peer m) (is_of_invite m seat.invite) (comes left (Some seat) refl there hidden).1 in
        let t = tie.participant at place room seat found got asked_there got_too in
        record { invite = invite_by seat.invite (λ hidden. (its hidden).1) t.invite; leg = answer_of (dialogue_of seat).peer (λ hidden. (its hidden).0) t.leg }

  pub seat_receives : (key : ℕ) → class_of (head_of (message_in m.parsed)) (live u.actions) ≡ part.Answer key →
      owner_of_branch (awaited_request_branch m) (branch_in m.parsed.vias) entries (subscriptions_in u) ≡ OfConferences → IsResponseTo S (tkey key) (record { message = m; role = role_of x u m }) table
  seat_receives key p rooms = by (awaited_request_branch m) refl
    where
      none : is_of_calls (awaited_request_branch m) entries ≡ false
      none = of_no_call (is_of_calls (awaited_request_branch m) entries) (is_of_subscriptions (branch_in m.parsed.vias) (subscriptions_in u)) rooms

      by : (o : Option (List ℕ)) → awaited_request_branch m ≡ o → IsResponseBy S (tkey key) (record { message = m; role = role_of x u m }) o table
      by None is = tt
      by (Some branch) is = record { abandoned = of_left key p none branch is; seat = of_asked key p none branch is }
