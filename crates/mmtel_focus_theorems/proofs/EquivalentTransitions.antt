-- Each transition of the step table of conferences keeps two steps equal but for private places.
use Rattle.std.proofs.Common.{◌≡◌, ◌+◌, ◌&&◌, not, ℕ, Bool, true, false, List, [], ◌∷◌, ◌++◌, Option, Some, None, Result, Ok, Err, refl, ap, sym, ◌∙◌, map, subst, codes, nat_lt}
use Rattle.std.specs.Prelude.{if◌then◌else◌, slice_set}
use Rattle.std.specs.Str.{bytes_eq}
use Rattle.mmtel_base.specs.Numbers.{next_number}
use Rattle.mmtel_compose.specs.Responses.{allow_lines, retry_after_lines}
use Rattle.mmtel_compose.specs.ReceivedMessages.{MessageView, phrase_in, status_of}
use Rattle.mmtel_call_theorems.proofs.Noninterference.Sent.{Heads, drew-equivalent, emitted-equivalent}
use Rattle.mmtel_call_theorems.specs.Noninterference.PublicCall.{public_dialog, public_released}
use Rattle.mmtel_call_theorems.specs.Noninterference.Premises.{IsResponseOf}
use Rattle.mmtel_call_theorems.specs.Noninterference.Observations.{EquivalentOutputs, TextSent, Trust}
use Rattle.mmtel_output.specs.Outputs.{after_draw, token, with_emit}
use Rattle.mmtel_output.specs.Sending.{ack_text, with_ack, with_contact_response, with_own_request}
use Rattle.mmtel_output.specs.declared.outputs.StepOutput.{StepOutput}
use Rattle.mmtel_leg.specs.Legs.{Leg}
use Rattle.mmtel_leg.specs.Releases.{released_leg}
use Rattle.mmtel_leg.specs.Remotes.{remote_of}
use Rattle.mmtel_leg.specs.declared.dialogues.Dialogue.{Dialogue}
use Rattle.mmtel_leg.specs.declared.dialogues.DialogueFault.{DialogueFault}
use Rattle.mmtel_leg.specs.declared.dialogues.DialogueFault.TheVariants.{OldCSeq, Pending, Unfinished}
use Rattle.mmtel_leg.specs.declared.legs.Released.{Released}
use Rattle.mmtel_leg.specs.declared.legs.Released.TheVariants as released
use Rattle.mmtel_leg.specs.declared.remotes.Remote.{Remote}
use Rattle.mmtel_lex.specs.Grammar.{uri_text}
use Rattle.mmtel_lex.specs.declared.values.Uri.{Uri}
use Rattle.mmtel_message.specs.Addresses.{contact_text}
use Rattle.mmtel_message.specs.Faults.{is_method}
use Rattle.mmtel_message.specs.Message.{Line}
use Rattle.mmtel_sdp.specs.Mixer.{offer_text}
use Rattle.mmtel_sdp.specs.Offers.{offers_audio}
use Rattle.mmtel_transaction.specs.Equivalence.{blank_if}
use Rattle.mmtel_transaction.specs.Tokens.{TokensView}
use Rattle.mmtel_transaction.specs.declared.words.Emit.TheVariants as emit
use Rattle.mmtel_transaction.specs.declared.words.RoomWord.{RoomWord}
use Rattle.mmtel_transaction.specs.declared.words.RoomWord.TheVariants as due
use Rattle.mmtel_transaction.specs.declared.words.TKey.{TKey}
use Rattle.mmtel_trust.specs.Accounts.{account_of}
use Rattle.mmtel_trust.specs.Peers.{route_of}
use Rattle.mmtel_types.specs.declared.numbers.Account.{Account}
use Rattle.mmtel_types.specs.declared.numbers.Peer.{Peer}
use Rattle.mmtel_types.specs.declared.numbers.RoomNo.{RoomNo}
use Rattle.mmtel_types.specs.declared.sides.Side.TheVariants.{Callee}
use Rattle.mmtel_focus.specs.Responses.{after_ack_retransmission, after_own_ack, accepted_invite, with_invite_cancel, after_invite_end, after_end, with_failure_ack, is_ack_pending, is_success}
use Rattle.mmtel_focus.specs.Responses.{invite_with_provisional, on_any_response, on_response_to, on_cap, on_due, on_failure, on_no_ack, on_provisional, on_retransmission, on_outstanding_response, on_timeout}
use Rattle.mmtel_focus.specs.Responses.{on_success, invite_after_due_cancel, connected_participant, connected_party, after_connect, to_tag_of, after_ringing_limit, after_missing_ack, has_outstanding_number}
use Rattle.mmtel_focus.specs.Joining.{ack_time, adopted_participant, after_adoption, after_failure_notify, after_invite, after_invite_if_peer, after_invite_in, after_join, after_refer}
use Rattle.mmtel_focus.specs.Joining.{invitation_dialog, invited_participant, new_participant, ringing_limit, with_accepted_invite, with_invite_sent, with_new_participant}
use Rattle.mmtel_focus.specs.Referrals.{referral_in, target_of}
use Rattle.mmtel_focus.specs.Requests.{acknowledges, after_accepted_refer, after_out_of_order, after_refusal, after_reinvite, after_response, after_trying, invite_in_flight, invite_in_flight_by, is_invite_outstanding}
use Rattle.mmtel_focus.specs.Requests.{on_ack, on_bye, on_checked_request, on_invite, on_referral, on_request, on_request_in_order, participant_after_request, request_check, with_next_number, with_pending_ack}
use Rattle.mmtel_focus.specs.Conferences.{Conference, StepResult, with_output}
use Rattle.mmtel_focus.specs.declared.referrals.Referral.{Referral}
use Rattle.mmtel_focus.specs.declared.referrals.Referral.TheVariants as referral
use Rattle.mmtel_participants.specs.declared.participants.Invite.{Invite}
use Rattle.mmtel_participants.specs.declared.participants.Party.{Party}
use Rattle.mmtel_participants.specs.declared.participants.Party.TheVariants.{DialedIn, DialedOut, Invited}
use Rattle.mmtel_participants.specs.declared.participants.ParticipantState.{ParticipantState}
use Rattle.mmtel_focus.specs.Participants.{after_dismissal, after_leave, at_participant, dialogue_of, is_connected, is_full, leg_of, meter_of, tag_of, with_participant}
use Rattle.mmtel_focus.specs.ConferenceConfig.{ConferenceConfigView}
use Rattle.mmtel_focus.specs.Texts.{answer_in, contact_and_sdp_lines, contact_value, own_status, sdp_lines, status_line}
use Rattle.mmtel_focus_theorems.specs.Inputs.{AreEquivalent, AreRequests, IsOfInvite, IsOfParticipant, MessagePair}
use Rattle.mmtel_focus_theorems.specs.PublicParts.{public_conference, public_invite, public_participant, public_party, trust_of, trusts}
use Rattle.mmtel_focus_theorems.proofs.EquivalentParticipants.{acknowledged-seats, agreed-invites, as_left, by_invite, by_party, bys, cancelled-invites, dialogs, full_rooms}
use Rattle.mmtel_focus_theorems.proofs.EquivalentParticipants.{has_outstanding_number_same, invite_with_provisional-invites, invites, legs, numbers, parties, peers}
use Rattle.mmtel_focus_theorems.proofs.EquivalentParticipants.{received-seats, seateds, seats-set, tags, waitings, with_invites, with_parties, with_pending_ack-seats}
use Rattle.mmtel_focus_theorems.proofs.EquivalentOutputs.{answered-like, asked-like, final-like, same-like, with_ack-like, with_due_cancel-like, with_remote-like}
use Rattle.mmtel_focus_theorems.proofs.Lists.{commuting, same_append, same_set}
use Rattle.mmtel_focus_theorems.proofs.EquivalentSteps.{EquivalentStepResults, answered-rows, at-seat, after_close_with-rows, output-rows, after_dismissal-rows, if-rows}
use Rattle.mmtel_focus_theorems.proofs.EquivalentSteps.{after_leave-rows, with_participant-rows, room-of, seats-in, after_notify_referrer-rows, after_notify_to-rows, tokens_same}

module _ (heads : Heads) (config : ConferenceConfigView) (keys : TKey → Bool) where
  abbrev T : Trust
  T = trust_of config keys

  abbrev known : Peer → Bool
  known = λ peer. trusts config peer

  -- two participants, in two steps
  abbrev pub Row : (f g : (place : ℕ) → ParticipantState → StepResult → StepResult) → Type 0
  Row = λ f g. (place : ℕ) (v w : ParticipantState) (s r : StepResult) → public_participant known v ≡ public_participant known w → EquivalentStepResults T s r → EquivalentStepResults T (f place v s) (g place w r)

  -- ---- an INVITE gets the mixer's answer

  abbrev Numbers : Type 0
  Numbers = RoomNo × ℕ × ℕ × List ℕ

  with_accepted_invite-like : (now : ℕ) (k l : Numbers) (key : TKey) (p : MessagePair) (x y : StepOutput) → k ≡ l → AreRequests T key p → EquivalentOutputs T x y →
      EquivalentOutputs T (with_accepted_invite config now k.0 k.1 k.2 key p.one.message k.3 x) (with_accepted_invite config now l.0 l.1 l.2 key p.other.message l.3 y)
  with_accepted_invite-like now k l key p x y e asked a =
      subst (λ (n : Numbers). EquivalentOutputs T (with_accepted_invite config now k.0 k.1 k.2 key p.one.message k.3 x) (with_accepted_invite config now n.0 n.1 n.2 key p.other.message n.3 y)) e
      (subst (λ (b : List ℕ). EquivalentOutputs T (with_accepted_invite config now k.0 k.1 k.2 key p.one.message k.3 x) (with_emit (emit.ArmSeat k.0 k.1 (due.NoAck k.2) (now + ack_time))
      (with_contact_response (contact_value config.sip k.0) key p.other.message k.3 200 [] sdp_lines (answer_in config.mixer b) y))) (ap (λ (m : MessageView). m.parsed.body) asked.equivalent)
      (same-like heads config keys (emit.ArmSeat k.0 k.1 (due.NoAck k.2) (now + ack_time)) (with_contact_response (contact_value config.sip k.0) key p.one.message k.3 200 [] sdp_lines
      (answer_in config.mixer p.one.message.parsed.body) x) (with_contact_response (contact_value config.sip k.0) key p.other.message k.3 200 [] sdp_lines (answer_in config.mixer p.one.message.parsed.body) y)
      (answered-like heads config keys (contact_value config.sip k.0) key p k.3 200 sdp_lines (answer_in config.mixer p.one.message.parsed.body) x y asked a)))

  -- ---- a party becomes a participant

  new-room : (v w : ParticipantState) (s r : StepResult) → public_participant known v ≡ public_participant known w → EquivalentStepResults T s r →
      public_conference known (with_new_participant v s.conference) ≡ public_conference known (with_new_participant w r.conference)
  new-room v w s r e a =
      ap (λ (z : Conference). record z { last_seat = next_number z.last_seat; last_number = next_number z.last_number; participants = map (public_participant known) (s.conference.participants ++ v ∷ []) }) a.conference
      ∙ ap (λ (l : List ParticipantState). record r.conference { last_seat = next_number r.conference.last_seat; last_number = next_number r.conference.last_number; participants = l })
      (same_append (public_participant known) s.conference.participants r.conference.participants (v ∷ []) (w ∷ []) (seats-in heads config keys s r a) (ap (λ (z : ParticipantState). z ∷ []) e))

  new-rows : (d e : StepOutput) (v w : ParticipantState) (s r : StepResult) → EquivalentOutputs T d e → public_participant known v ≡ public_participant known w → EquivalentStepResults T s r →
      EquivalentStepResults T (with_output d (record s { conference = with_new_participant v s.conference })) (with_output e (record r { conference = with_new_participant w r.conference }))
  new-rows d e v w s r b same a = record { conference = new-room v w s r same a; effects = record { closes = a.effects.closes; abandoned = a.effects.abandoned; output = b } }

  after_join_public : (now : ℕ) (room : Conference) (account : Option Account) (leg : Released) →
      public_participant known (new_participant now room leg account) ≡ new_participant now room (public_released known leg) account
  after_join_public now room account (released.Caller leg) = refl
  after_join_public now room account (released.Callee leg) = refl

  tag_public : (leg : Released) → (released_leg (public_released known leg)).dialogue.local_tag ≡ (released_leg leg).dialogue.local_tag
  tag_public (released.Caller leg) = refl
  tag_public (released.Callee leg) = refl

  pub after_join-rows : (now : ℕ) (leg other : Released) (account : Option Account) (key : TKey) (p : MessagePair) (s r : StepResult) → public_released known leg ≡ public_released known other →
      AreRequests T key p → EquivalentStepResults T s r →
      EquivalentStepResults T (after_join config now leg account key p.one.message s) (after_join config now other account key p.other.message r)
  unfolding after_join
  after_join-rows now leg other account key p s r same asked a =
      let tag : (released_leg leg).dialogue.local_tag ≡ (released_leg other).dialogue.local_tag = sym (tag_public leg) ∙ (ap (λ (z : Released). (released_leg z).dialogue.local_tag) same ∙ tag_public other) in
      new-rows (with_accepted_invite config now s.conference.number (next_number s.conference.last_seat) (next_number s.conference.last_number) key p.one.message (released_leg leg).dialogue.local_tag s.effects.output)
      (with_accepted_invite config now r.conference.number (next_number r.conference.last_seat) (next_number r.conference.last_number) key p.other.message (released_leg other).dialogue.local_tag r.effects.output)
      (new_participant now s.conference leg account) (new_participant now r.conference other account) s r
      (with_accepted_invite-like now (s.conference.number, next_number s.conference.last_seat, next_number s.conference.last_number, (released_leg leg).dialogue.local_tag)
      (r.conference.number, next_number r.conference.last_seat, next_number r.conference.last_number, (released_leg other).dialogue.local_tag) key p s.effects.output r.effects.output
      (ap (λ (z : Conference). (z.number, next_number z.last_seat, next_number z.last_number, (released_leg leg).dialogue.local_tag)) a.conference
      ∙ ap (λ (t : List ℕ). (r.conference.number, next_number r.conference.last_seat, next_number r.conference.last_number, t)) tag) asked a.effects.output)
      (after_join_public now s.conference account leg ∙ (ap (λ (z : Conference). new_participant now z (public_released known leg) account) a.conference
      ∙ (ap (λ (z : Released). new_participant now r.conference z account) same ∙ sym (after_join_public now r.conference account other)))) a

  -- ---- a leg out of a call

  after_adoption_public : (now : ℕ) (room : Conference) (account : Option Account) (by : ℕ) (branch : List ℕ) (leg : Released) →
      public_participant known (adopted_participant now room leg account by branch) ≡ adopted_participant now room (public_released known leg) account by branch
  after_adoption_public now room account by branch (released.Caller leg) = refl
  after_adoption_public now room account by branch (released.Callee leg) = refl

  dialog_public : (leg : Released) → public_dialog known (released_leg leg).dialogue ≡ (released_leg (public_released known leg)).dialogue
  dialog_public (released.Caller leg) = refl
  dialog_public (released.Callee leg) = refl

  pub after_adoption-rows : (now : ℕ) (leg other : Released) (account : Option Account) (by : ℕ) (s r : StepResult) → public_released known leg ≡ public_released known other →
      EquivalentStepResults T s r → EquivalentStepResults T (after_adoption config now leg account by s) (after_adoption config now other account by r)
  unfolding after_adoption
  after_adoption-rows now leg other account by s r same a =
      new-rows (with_own_request config.sip (codes "INVITE") (released_leg leg).dialogue (contact_and_sdp_lines config.sip s.conference.number) (offer_text config.mixer) s.effects.output)
      (with_own_request config.sip (codes "INVITE") (released_leg other).dialogue (contact_and_sdp_lines config.sip r.conference.number) (offer_text config.mixer) r.effects.output)
      (adopted_participant now s.conference leg account by (token s.effects.output)) (adopted_participant now r.conference other account by (token r.effects.output)) s r
      (subst (λ (n : RoomNo). EquivalentOutputs T (with_own_request config.sip (codes "INVITE") (released_leg leg).dialogue (contact_and_sdp_lines config.sip s.conference.number) (offer_text config.mixer)
      s.effects.output) (with_own_request config.sip (codes "INVITE") (released_leg other).dialogue (contact_and_sdp_lines config.sip n) (offer_text config.mixer) r.effects.output)) (room-of heads config keys s r a)
      (asked-like heads config keys (codes "INVITE") (contact_and_sdp_lines config.sip s.conference.number) (offer_text config.mixer) (released_leg leg).dialogue
      (released_leg other).dialogue s.effects.output r.effects.output
      (commuting (λ (z : Released). (released_leg z).dialogue) (public_released known) (public_dialog known) dialog_public leg other same) a.effects.output))
      (after_adoption_public now s.conference account by (token s.effects.output) leg
      ∙ (ap (λ (z : Conference). adopted_participant now z (public_released known leg) account by (token s.effects.output)) a.conference
      ∙ (ap (λ (z : Released). adopted_participant now r.conference z account by (token s.effects.output)) same
      ∙ (ap (λ (b : List ℕ). adopted_participant now r.conference (public_released known other) account by b) (tokens_same T s.effects.output r.effects.output a.effects.output)
      ∙ sym (after_adoption_public now r.conference account by (token r.effects.output) other))))) a

  -- ---- a party is invited

  dialog_same : (n m : RoomNo) (peer : Peer) (uri : List ℕ) (x y : StepOutput) → n ≡ m → EquivalentOutputs T x y → invitation_dialog config n peer uri x ≡ invitation_dialog config m peer uri y
  dialog_same n m peer uri x y e a =
      ap (λ (d : TokensView). invitation_dialog config n peer uri (record x { tokens = d })) a.tokens ∙ ap (λ (k : RoomNo). invitation_dialog config k peer uri y) e

  -- ---- one dialog in both
  sent-like : (now : ℕ) (n m : RoomNo × ℕ × ℕ) (d : Dialogue) (x y : StepOutput) → n ≡ m → EquivalentOutputs T x y →
      EquivalentOutputs T (with_invite_sent config now n.0 n.1 n.2 d x) (with_invite_sent config now m.0 m.1 m.2 d y)
  sent-like now n m d x y e a =
      subst (λ (k : RoomNo × ℕ × ℕ). EquivalentOutputs T (with_invite_sent config now n.0 n.1 n.2 d x) (with_invite_sent config now k.0 k.1 k.2 d y)) e
      (same-like heads config keys (emit.ArmSeat n.0 n.1 (due.Cap n.2) (now + ringing_limit)) (with_own_request config.sip (codes "INVITE") d (contact_and_sdp_lines config.sip n.0) (offer_text config.mixer) x)
      (with_own_request config.sip (codes "INVITE") d (contact_and_sdp_lines config.sip n.0) (offer_text config.mixer) y)
      (asked-like heads config keys (codes "INVITE") (contact_and_sdp_lines config.sip n.0) (offer_text config.mixer) d d x y refl a))

  after_invite_in-rows : (now n : ℕ) (account : Option Account) (d : Dialogue) (s r : StepResult) → EquivalentStepResults T s r →
      EquivalentStepResults T (after_invite_in config now n account d s) (after_invite_in config now n account d r)
  after_invite_in-rows now n account d s r a =
      let twice : EquivalentOutputs T (after_draw (after_draw s.effects.output)) (after_draw (after_draw r.effects.output)) =
      drew-equivalent T (after_draw s.effects.output) (after_draw r.effects.output) (drew-equivalent T s.effects.output r.effects.output a.effects.output) in
      new-rows (with_invite_sent config now s.conference.number (next_number s.conference.last_seat) (next_number s.conference.last_number) d (after_draw (after_draw s.effects.output)))
      (with_invite_sent config now r.conference.number (next_number r.conference.last_seat) (next_number r.conference.last_number) d (after_draw (after_draw r.effects.output)))
      (invited_participant s.conference n account d (token (after_draw (after_draw s.effects.output)))) (invited_participant r.conference n account d (token (after_draw (after_draw r.effects.output)))) s r
      (sent-like now (s.conference.number, next_number s.conference.last_seat, next_number s.conference.last_number)
      (r.conference.number, next_number r.conference.last_seat, next_number r.conference.last_number) d (after_draw (after_draw s.effects.output)) (after_draw (after_draw r.effects.output))
      (ap (λ (z : Conference). (z.number, next_number z.last_seat, next_number z.last_number)) a.conference) twice)
      (ap (λ (z : Conference). public_participant known (invited_participant z n account d (token (after_draw (after_draw s.effects.output))))) a.conference
      ∙ ap (λ (b : List ℕ). public_participant known (invited_participant r.conference n account d b)) (tokens_same T (after_draw (after_draw s.effects.output)) (after_draw (after_draw r.effects.output)) twice)) a

  failure-rows : (n m code : ℕ) (s r : StepResult) → n ≡ m → EquivalentStepResults T s r → EquivalentStepResults T (after_failure_notify config n code s) (after_failure_notify config m code r)
  failure-rows n m code s r e a = after_notify_to-rows heads config keys false (own_status code) n m s r e a

  after_invite-rows : (now n : ℕ) (peer : Peer) (u : Uri) (s r : StepResult) → EquivalentStepResults T s r → EquivalentStepResults T (after_invite config now n peer u s) (after_invite config now n peer u r)
  after_invite-rows now n peer u s r a =
      subst (λ (d : Dialogue). EquivalentStepResults T (after_invite config now n peer u s) (after_invite_in config now n (account_of config.accounts u) d r))
      (dialog_same s.conference.number r.conference.number peer (uri_text (target_of u)) s.effects.output r.effects.output (room-of heads config keys s r a) a.effects.output)
      (after_invite_in-rows now n (account_of config.accounts u) (invitation_dialog config s.conference.number peer (uri_text (target_of u)) s.effects.output) s r a)

  after_invite_if_peer-rows : (now n : ℕ) (o : Option Peer) (u : Uri) (s r : StepResult) → EquivalentStepResults T s r →
      EquivalentStepResults T (after_invite_if_peer config now n o u s) (after_invite_if_peer config now n o u r)
  after_invite_if_peer-rows now n None u s r a = failure-rows n n 404 s r refl a
  after_invite_if_peer-rows now n (Some peer) u s r a =
      if-rows heads config keys (is_full s.conference) (is_full r.conference) (after_failure_notify config n 503 s) (after_invite config now n peer u s) (after_failure_notify config n 503 r)
      (after_invite config now n peer u r) (full_rooms known s.conference r.conference a.conference)
      (failure-rows n n 503 s r refl a) (after_invite-rows now n peer u s r a)

  after_refer-rows : (now n : ℕ) (u : Option Uri) (s r : StepResult) → EquivalentStepResults T s r → EquivalentStepResults T (after_refer config now n u s) (after_refer config now n u r)
  unfolding after_refer
  after_refer-rows now n None s r a = failure-rows n n 404 s r refl a
  after_refer-rows now n (Some u) s r a = after_invite_if_peer-rows now n (route_of u config.peers.routes) u s r a

  -- ---- the requests of a participant

  module _ (now : ℕ) (key : TKey) (p : MessagePair) (asked : AreRequests T key p) where
    refused-rows : (code : ℕ) → Row (after_refusal config key p.one.message code) (after_refusal config key p.other.message code)
    refused-rows code place v w s r e a = answered-rows heads config keys (contact_text config.sip) (contact_text config.sip) key p code [] v w s r refl asked e a

    answered_with-rows : (code : ℕ) (named : List Line) → Row (after_response config key p.one.message code named) (after_response config key p.other.message code named)
    answered_with-rows code named place v w s r e a = answered-rows heads config keys (contact_text config.sip) (contact_text config.sip) key p code named v w s r refl asked e a

    accepted-rows : Row (after_accepted_refer config key p.one.message) (after_accepted_refer config key p.other.message)
    accepted-rows place v w s r e a =
        answered-rows heads config keys (contact_value config.sip s.conference.number) (contact_value config.sip r.conference.number) key p 202 [] v w s r
        (ap (λ (n : RoomNo). contact_value config.sip n) (room-of heads config keys s r a)) asked e a

    counting-rows : (s r : StepResult) → EquivalentStepResults T s r → EquivalentStepResults T (with_next_number s) (with_next_number r)
    counting-rows s r a = record { conference = ap (λ (z : Conference). record z { last_number = next_number z.last_number }) a.conference; effects = a.effects }

    again-rows : Row (after_reinvite config now key p.one.message) (after_reinvite config now key p.other.message)
    again-rows place v w s r e a =
        let counted : next_number s.conference.last_number ≡ next_number r.conference.last_number = ap (λ (z : Conference). next_number z.last_number) a.conference in
        output-rows heads config keys (with_accepted_invite config now s.conference.number v.number (next_number s.conference.last_number) key p.one.message (tag_of v) s.effects.output)
        (with_accepted_invite config now r.conference.number w.number (next_number r.conference.last_number) key p.other.message (tag_of w) r.effects.output)
        (with_next_number (with_participant place (with_pending_ack (next_number s.conference.last_number) v) s)) (with_next_number (with_participant place (with_pending_ack (next_number r.conference.last_number) w) r))
        (with_accepted_invite-like now (s.conference.number, v.number, next_number s.conference.last_number, tag_of v)
        (r.conference.number, w.number, next_number r.conference.last_number, tag_of w) key p s.effects.output r.effects.output
        (ap (λ (z : Conference). (z.number, v.number, next_number z.last_number, tag_of v)) a.conference ∙ (ap (λ (n : ℕ). (r.conference.number, n, next_number r.conference.last_number, tag_of v))
        (numbers known v w e) ∙ ap (λ (t : List ℕ). (r.conference.number, w.number, next_number r.conference.last_number, t)) (tags known v w e)))
        asked a.effects.output)
        (counting-rows (with_participant place (with_pending_ack (next_number s.conference.last_number) v) s) (with_participant place (with_pending_ack (next_number r.conference.last_number) w) r)
        (with_participant-rows heads config keys place (with_pending_ack (next_number s.conference.last_number) v) (with_pending_ack (next_number r.conference.last_number) w) s r
        (with_pending_ack-seats known (next_number s.conference.last_number) v w e ∙ ap (λ (n : ℕ). public_participant known (with_pending_ack n w)) counted) a))

    invite-rows : Row (on_invite config now key p.one.message) (on_invite config now key p.other.message)
    invite-rows place v w s r e a =
        if-rows heads config keys (offers_audio p.one.message.parsed.body) (offers_audio p.other.message.parsed.body) (after_reinvite config now key p.one.message place v s)
        (after_refusal config key p.one.message 488 place v s) (after_reinvite config now key p.other.message place w r) (after_refusal config key p.other.message 488 place w r)
        (ap (λ (m : MessageView). offers_audio m.parsed.body) asked.equivalent) (again-rows place v w s r e a) (refused-rows 488 place v w s r e a)

    bye-rows : Row (on_bye config now key p.one.message) (on_bye config now key p.other.message)
    bye-rows place v w s r e a =
        after_close_with-rows heads config keys now v.number w.number (after_leave now false place v (after_refusal config key p.one.message 200 place v s))
        (after_leave now false place w (after_refusal config key p.other.message 200 place w r)) (numbers known v w e)
        (after_leave-rows heads config keys now false place v w (after_refusal config key p.one.message 200 place v s) (after_refusal config key p.other.message 200 place w r) e (refused-rows 200 place v w s r e a))

    bid : (u : Option Uri) (n m : ℕ) (s r : StepResult) → n ≡ m → EquivalentStepResults T s r →
        EquivalentStepResults T (after_refer config now n u (after_trying config n s)) (after_refer config now m u (after_trying config m r))
    bid u n m s r e a =
        subst (λ (k : ℕ). EquivalentStepResults T (after_refer config now n u (after_trying config n s)) (after_refer config now k u (after_trying config k r))) e
        (after_refer-rows now n u (after_trying config n s) (after_trying config n r) (after_notify_to-rows heads config keys true (own_status 100) n n s r refl a))

    referral-rows : (x : Referral) → Row (on_referral config now key p.one.message x) (on_referral config now key p.other.message x)
    referral-rows referral.Missing place v w s r e a = refused-rows 400 place v w s r e a
    referral-rows referral.OtherMethod place v w s r e a = refused-rows 403 place v w s r e a
    referral-rows (referral.Invite u) place v w s r e a = bid u v.number w.number (after_accepted_refer config key p.one.message place v s) (after_accepted_refer config key p.other.message place w r)
        (numbers known v w e) (accepted-rows place v w s r e a)
    referral-rows (referral.Replace x) place v w s r e a = accepted-rows place v w s r e a

    refer-rows : Row (on_referral config now key p.one.message (referral_in p.one.message.parsed.refer_to)) (on_referral config now key p.other.message (referral_in p.other.message.parsed.refer_to))
    refer-rows place v w s r e a =
        subst (λ (x : Referral). EquivalentStepResults T (on_referral config now key p.one.message (referral_in p.one.message.parsed.refer_to) place v s) (on_referral config now key p.other.message x place w r))
        (ap (λ (m : MessageView). referral_in m.parsed.refer_to) asked.equivalent)
        (referral-rows (referral_in p.one.message.parsed.refer_to) place v w s r e a)

    abbrev method_same : (name : List ℕ) → is_method name p.one.message.parsed.start ≡ is_method name p.other.message.parsed.start
    method_same name = ap (λ (m : MessageView). is_method name m.parsed.start) asked.equivalent

    received-rows : Row (on_request_in_order config now key p.one.message) (on_request_in_order config now key p.other.message)
    received-rows place v w s r e a =
        let m : MessageView = p.one.message in
        let n : MessageView = p.other.message in
        let last : StepResult = after_refusal config key m 481 place v s in
        let last' : StepResult = after_refusal config key n 481 place w r in
        let options : StepResult = if is_method (codes "OPTIONS") m.parsed.start then after_response config key m 200 (allow_lines config.methods) place v s else last in
        let options' : StepResult = if is_method (codes "OPTIONS") n.parsed.start then after_response config key n 200 (allow_lines config.methods) place w r else last' in
        let refer : StepResult = on_referral config now key m (referral_in m.parsed.refer_to) place v s in
        let refer' : StepResult = on_referral config now key n (referral_in n.parsed.refer_to) place w r in
        let byes : StepResult = if is_method (codes "REFER") m.parsed.start then refer else options in
        let byes' : StepResult = if is_method (codes "REFER") n.parsed.start then refer' else options' in
        if-rows heads config keys (is_method (codes "INVITE") m.parsed.start) (is_method (codes "INVITE") n.parsed.start) (on_invite config now key m place v s)
        (if is_method (codes "BYE") m.parsed.start then on_bye config now key m place v s else byes)
        (on_invite config now key n place w r) (if is_method (codes "BYE") n.parsed.start then on_bye config now key n place w r else byes') (method_same (codes "INVITE")) (invite-rows place v w s r e a)
        (if-rows heads config keys (is_method (codes "BYE") m.parsed.start) (is_method (codes "BYE") n.parsed.start) (on_bye config now key m place v s) byes (on_bye config now key n place w r) byes'
        (method_same (codes "BYE")) (bye-rows place v w s r e a)
        (if-rows heads config keys (is_method (codes "REFER") m.parsed.start) (is_method (codes "REFER") n.parsed.start) refer options refer' options' (method_same (codes "REFER")) (refer-rows place v w s r e a)
        (if-rows heads config keys (is_method (codes "OPTIONS") m.parsed.start) (is_method (codes "OPTIONS") n.parsed.start)
        (after_response config key m 200 (allow_lines config.methods) place v s) last (after_response config key n 200 (allow_lines config.methods) place w r) last' (method_same (codes "OPTIONS"))
        (answered_with-rows 200 (allow_lines config.methods) place v w s r e a) (refused-rows 481 place v w s r e a))))

    refused_request-rows : (fault : DialogueFault) → Row (after_out_of_order config key p.one.message fault) (after_out_of_order config key p.other.message fault)
    refused_request-rows (OldCSeq last) place v w s r e a = refused-rows 500 place v w s r e a
    refused_request-rows Pending place v w s r e a = refused-rows 491 place v w s r e a
    refused_request-rows Unfinished place v w s r e a = answered_with-rows 500 retry_after_lines place v w s r e a

    receiving-rows : (x : Result (Unit {0}) DialogueFault) → Row (on_checked_request config now key p.one.message x) (on_checked_request config now key p.other.message x)
    receiving-rows (Err fault) place v w s r e a = refused_request-rows fault place v w s r e a
    receiving-rows (Ok received) place v w s r e a =
        at-seat heads config keys (on_request_in_order config now key p.one.message) (on_request_in_order config now key p.other.message) place
        (with_participant place (participant_after_request p.one.message v) s) (with_participant place (participant_after_request p.other.message w) r)
        (λ x y h k same. received-rows place x y (with_participant place (participant_after_request p.one.message v) s) (with_participant place (participant_after_request p.other.message w) r) same put_alike) put_alike
      where
        put_alike : EquivalentStepResults T (with_participant place (participant_after_request p.one.message v) s) (with_participant place (participant_after_request p.other.message w) r)
        put_alike =
            with_participant-rows heads config keys place (participant_after_request p.one.message v) (participant_after_request p.other.message w) s r
            (received-seats known p.one.message v w e ∙ ap (λ (m : MessageView). public_participant known (participant_after_request m w)) asked.equivalent) a

    busy_same : (v w : ParticipantState) → public_participant known v ≡ public_participant known w → invite_in_flight v ≡ invite_in_flight w
    busy_same v w e =
        ap (λ (z : ParticipantState). invite_in_flight_by z.pending_ack (is_invite_outstanding v.invite)) e
        ∙ ap (λ (b : Bool). invite_in_flight_by w.pending_ack b) (waitings known (known (dialogue_of v).peer) (known (dialogue_of w).peer) v.invite w.invite (invites known v w e))

    says_same : (v w : ParticipantState) → public_participant known v ≡ public_participant known w →
        request_check (leg_of v.party) p.one.message (invite_in_flight v) ≡ request_check (leg_of w.party) p.other.message (invite_in_flight w)
    says_same v w e =
        ap (λ (l : Leg). request_check l p.one.message (invite_in_flight v)) (legs known v.party w.party (parties known v w e))
        ∙ (ap (λ (m : MessageView). request_check (leg_of w.party) m (invite_in_flight v)) asked.equivalent ∙ ap (λ b. request_check (leg_of w.party) p.other.message b) (busy_same v w e))

    pub request-rows : Row (on_request config now key p.one.message) (on_request config now key p.other.message)
    unfolding on_request
    request-rows place v w s r e a =
        if-rows heads config keys (is_connected v) (is_connected w) (on_checked_request config now key p.one.message (request_check (leg_of v.party) p.one.message (invite_in_flight v)) place v s)
        (after_refusal config key p.one.message 481 place v s)
        (on_checked_request config now key p.other.message (request_check (leg_of w.party) p.other.message (invite_in_flight w)) place w r) (after_refusal config key p.other.message 481 place w r) (seateds known v w e)
        (subst (λ x. EquivalentStepResults T (on_checked_request config now key p.one.message (request_check (leg_of v.party) p.one.message (invite_in_flight v)) place v s)
        (on_checked_request config now key p.other.message x place w r)) (says_same v w e)
        (receiving-rows (request_check (leg_of v.party) p.one.message (invite_in_flight v)) place v w s r e a))
        (refused-rows 481 place v w s r e a)

  -- ---- ACK

  pub ack-rows : (p : MessagePair) → AreEquivalent p → Row (on_ack p.one.message) (on_ack p.other.message)
  unfolding on_ack
  ack-rows p said place v w s r e a =
      if-rows heads config keys (acknowledges p.one.message v.pending_ack) (acknowledges p.other.message w.pending_ack) (with_participant place (record v { pending_ack = None }) s) s
      (with_participant place (record w { pending_ack = None }) r) r
      (ap (λ (m : MessageView). acknowledges m v.pending_ack) said ∙ ap (λ (z : ParticipantState). acknowledges p.other.message z.pending_ack) e)
      (with_participant-rows heads config keys place (record v { pending_ack = None }) (record w { pending_ack = None }) s r (acknowledged-seats known v w e) a) a

  -- ---- the INVITE to a participant ends without a 2xx

  without-rows : (now : ℕ) (line : List ℕ) → Row (after_end config now line) (after_end config now line)
  without-rows now line place v w s r e a = after_notify_referrer-rows heads config keys false line v.by w.by (after_dismissal config now place v s) (after_dismissal config now place w r)
      (bys known v w e) (after_dismissal-rows heads config keys now place v w s r e a)

  asking-rows : (o q : Option Invite) (place : ℕ) (v w : ParticipantState) (s r : StepResult) → public_participant known v ≡ public_participant known w →
      public_invite known (known (dialogue_of v).peer) o ≡ public_invite known (known (dialogue_of w).peer) q → EquivalentStepResults T s r →
      EquivalentStepResults T (with_participant place (record v { invite = o }) s) (with_participant place (record w { invite = q }) r)
  asking-rows o q place v w s r e same a = with_participant-rows heads config keys place (record v { invite = o }) (record w { invite = q }) s r (with_invites known v w e o q same) a

  unasked-rows : (now : ℕ) (line : List ℕ) → Row (after_invite_end config now line) (after_invite_end config now line)
  unasked-rows now line place v w s r e a =
      let put_alike : EquivalentStepResults T (with_participant place (record v { invite = None }) s) (with_participant place (record w { invite = None }) r) = asking-rows None None place v w s r e refl a in
      at-seat heads config keys (after_end config now line) (after_end config now line) place (with_participant place (record v { invite = None }) s) (with_participant place (record w { invite = None }) r)
      (λ x y h k same. without-rows now line place x y (with_participant place (record v { invite = None }) s) (with_participant place (record w { invite = None }) r) same put_alike) put_alike

  pub silence-rows : (now : ℕ) → Row (on_timeout config now) (on_timeout config now)
  unfolding on_timeout
  silence-rows now place v w s r e a =
      if-rows heads config keys (is_invite_outstanding v.invite) (is_invite_outstanding w.invite) (after_invite_end config now (own_status 408) place v s) s (after_invite_end config now (own_status 408) place w r) r
      (waitings known (known (dialogue_of v).peer) (known (dialogue_of w).peer) v.invite w.invite (invites known v w e)) (unasked-rows now (own_status 408) place v w s r e a) a

  -- ---- timers

  cancelled-by : (b c : Bool) (o q : Option Invite) (x y : StepOutput) → public_invite known b o ≡ public_invite known c q → EquivalentOutputs T x y →
      EquivalentOutputs T (with_invite_cancel config.sip o x) (with_invite_cancel config.sip q y)
  cancelled-by b c o q x y e a =
      by_invite known b c (λ i j. EquivalentOutputs T (with_invite_cancel config.sip i x) (with_invite_cancel config.sip j y)) a
      (λ n m i j number same. with_due_cancel-like heads config keys i j x y (as_left known i j same) a) (λ u i t k d f branch tag ack. a) o q e

  after_ringing_limit-rows : (now : ℕ) → Row (after_ringing_limit config now) (after_ringing_limit config now)
  after_ringing_limit-rows now place v w s r e a =
      let x : StepResult = with_output (with_invite_cancel config.sip v.invite s.effects.output) s in
      let y : StepResult = with_output (with_invite_cancel config.sip w.invite r.effects.output) r in
      let put_alike : EquivalentStepResults T (with_participant place (record v { invite = invite_after_due_cancel v.invite }) x) (with_participant place (record w { invite = invite_after_due_cancel w.invite }) y) =
      asking-rows (invite_after_due_cancel v.invite) (invite_after_due_cancel w.invite) place v w x y e
      (cancelled-invites known (known (dialogue_of v).peer) (known (dialogue_of w).peer) v.invite w.invite (invites known v w e))
      (output-rows heads config keys (with_invite_cancel config.sip v.invite s.effects.output) (with_invite_cancel config.sip w.invite r.effects.output) s r
      (cancelled-by (known (dialogue_of v).peer) (known (dialogue_of w).peer) v.invite w.invite s.effects.output r.effects.output (invites known v w e) a.effects.output) a) in
      at-seat heads config keys (after_end config now (own_status 408)) (after_end config now (own_status 408)) place
      (with_participant place (record v { invite = invite_after_due_cancel v.invite }) x) (with_participant place (record w { invite = invite_after_due_cancel w.invite }) y)
      (λ i j h k same. without-rows now (own_status 408) place i j (with_participant place (record v { invite = invite_after_due_cancel v.invite }) x)
      (with_participant place (record w { invite = invite_after_due_cancel w.invite }) y) same put_alike) put_alike

  cap-rows : (now number : ℕ) → Row (on_cap config now number) (on_cap config now number)
  cap-rows now number place v w s r e a =
      if-rows heads config keys (not (is_connected v) && has_outstanding_number number v.invite) (not (is_connected w) && has_outstanding_number number w.invite)
      (after_ringing_limit config now place v s) s (after_ringing_limit config now place w r) r
      (ap (λ (b : Bool). not b && has_outstanding_number number v.invite) (seateds known v w e)
      ∙ ap (λ (b : Bool). not (is_connected w) && b) (has_outstanding_number_same known number (known (dialogue_of v).peer) (known (dialogue_of w).peer) v.invite w.invite (invites known v w e)))
      (after_ringing_limit-rows now place v w s r e a) a

  no_ack-rows : (now number : ℕ) → Row (on_no_ack config now number) (on_no_ack config now number)
  no_ack-rows now number place v w s r e a =
      if-rows heads config keys (is_ack_pending number v.pending_ack) (is_ack_pending number w.pending_ack) (after_missing_ack config now place v s) s (after_missing_ack config now place w r) r
      (ap (λ (z : ParticipantState). is_ack_pending number z.pending_ack) e)
      (after_close_with-rows heads config keys now v.number w.number (after_dismissal config now place v s) (after_dismissal config now place w r) (numbers known v w e)
      (after_dismissal-rows heads config keys now place v w s r e a)) a

  pub due-rows : (now : ℕ) (what : RoomWord) → Row (on_due config now what) (on_due config now what)
  unfolding on_due
  due-rows now (due.Cap number) place v w s r e a = cap-rows now number place v w s r e a
  due-rows now (due.NoAck number) place v w s r e a = no_ack-rows now number place v w s r e a

  -- ---- responses to the INVITE to a participant

  module _ (now : ℕ) (key : TKey) (p : MessagePair) (said : AreEquivalent p) where
    provisional-rows : Row (on_provisional key) (on_provisional key)
    provisional-rows place v w s r e a =
        asking-rows (invite_with_provisional key v.invite) (invite_with_provisional key w.invite) place v w s r e
        (invite_with_provisional-invites known key (known (dialogue_of v).peer) (known (dialogue_of w).peer) v.invite w.invite (invites known v w e)) a

    -- ---- a 2xx
    module _ (v w : ParticipantState) (f : IsOfParticipant T key p.one v) (g : IsOfParticipant T key p.other w) (e : public_participant known v ≡ public_participant known w) where
      abbrev here : Remote
      here = remote_of Callee p.one.message.parsed.lines

      abbrev there : Remote
      there = remote_of Callee p.other.message.parsed.lines

      stood-same : (n : RoomNo) (account : Option Account) (i j : Party) → IsResponseOf T key (leg_of i).dialogue.peer p.one.role p.one.message →
          IsResponseOf T key (leg_of j).dialogue.peer p.other.role p.other.message → public_party known i ≡ public_party known j →
          public_party known (connected_party n now account here i) ≡ public_party known (connected_party n now account there j)
      stood-same n account i j h k same =
          by_party known (λ x y. IsResponseOf T key (leg_of x).dialogue.peer p.one.role p.one.message → IsResponseOf T key (leg_of y).dialogue.peer p.other.role p.other.message →
          public_party known (connected_party n now account here x) ≡ public_party known (connected_party n now account there y))
          (λ l m q one two. ap (λ (d : Dialogue). DialedOut (record { dialogue = d; meter = meter_of n now account }))
          (with_remote-like heads config keys p key l.dialogue m.dialogue one two said (ap (λ (z : Leg). z.dialogue) q)))
          (λ l m q one two. ap (λ (z : Leg). DialedIn z) q) (λ l m q one two. ap (λ (z : Leg). DialedOut z) q) i j same h k

      stood_peer : (n : RoomNo) (account : Option Account) (remote : Remote) (i : Party) → (leg_of (connected_party n now account remote i)).dialogue.peer ≡ (leg_of i).dialogue.peer
      stood_peer n account remote (Invited leg) = refl
      stood_peer n account remote (DialedIn leg) = refl
      stood_peer n account remote (DialedOut leg) = refl

      seated-same : (n : RoomNo) → public_participant known (connected_participant n now here v) ≡ public_participant known (connected_participant n now there w)
      seated-same n =
          with_parties known v w e (connected_party n now v.account here v.party) (connected_party n now w.account there w.party)
          (stood-same n v.account v.party w.party f.leg g.leg (parties known v w e) ∙ ap (λ (z : ParticipantState). public_party known (connected_party n now z.account there w.party)) e)
          (ap known (stood_peer n v.account here v.party)) (ap known (stood_peer n w.account there w.party))

      stood-rows : (place : ℕ) (s r : StepResult) → EquivalentStepResults T s r → EquivalentStepResults T (after_connect now here place v s) (after_connect now there place w r)
      stood-rows place s r a = record {
        conference = seats-set known s.conference r.conference (slice_set s.conference.participants place (connected_participant s.conference.number now here v))
            (slice_set r.conference.participants place (connected_participant r.conference.number now there w)) a.conference
            (same_set (public_participant known) s.conference.participants r.conference.participants place (connected_participant s.conference.number now here v)
            (connected_participant r.conference.number now there w) (seats-in heads config keys s r a)
            (seated-same s.conference.number ∙ ap (λ (n : RoomNo). public_participant known (connected_participant n now there w)) (room-of heads config keys s r a)));
        effects = a.effects;
      }

    tag_same : to_tag_of p.one.message ≡ to_tag_of p.other.message
    tag_same = ap (λ (m : MessageView). to_tag_of m) said

    acknowledged-rows : Row (after_own_ack config (to_tag_of p.one.message)) (after_own_ack config (to_tag_of p.other.message))
    acknowledged-rows place v w s r e a =
        let b : List ℕ = token s.effects.output in
        let o : Option Invite = accepted_invite (to_tag_of p.one.message) (ack_text config.sip (dialogue_of v) b) v.invite in
        let q : Option Invite = accepted_invite (to_tag_of p.other.message) (ack_text config.sip (dialogue_of w) (token r.effects.output)) w.invite in
        output-rows heads config keys (with_ack config.sip (dialogue_of v) s.effects.output) (with_ack config.sip (dialogue_of w) r.effects.output) (with_participant place (record v { invite = o }) s)
        (with_participant place (record w { invite = q }) r)
        (with_ack-like heads config keys (dialogue_of v) (dialogue_of w) s.effects.output r.effects.output (dialogs known v w e) a.effects.output)
        (asking-rows o q place v w s r e
        (agreed-invites known config.sip (dialogue_of v) (dialogue_of w) (to_tag_of p.one.message) b v.invite w.invite (dialogs known v w e) (invites known v w e)
        ∙ (ap (λ (t : List ℕ). public_invite known (known (dialogue_of w).peer) (accepted_invite t (ack_text config.sip (dialogue_of w) b) w.invite)) tag_same
        ∙ ap (λ (t : List ℕ). public_invite known (known (dialogue_of w).peer) (accepted_invite (to_tag_of p.other.message) (ack_text config.sip (dialogue_of w) t) w.invite))
        (tokens_same T s.effects.output r.effects.output a.effects.output))) a)

    success-rows : (place : ℕ) (v w : ParticipantState) (s r : StepResult) → IsOfParticipant T key p.one v → IsOfParticipant T key p.other w → public_participant known v ≡ public_participant known w →
        EquivalentStepResults T s r → EquivalentStepResults T (on_success config now p.one.message place v s) (on_success config now p.other.message place w r)
    success-rows place v w s r f g e a =
        let x : StepResult = after_connect now (remote_of Callee p.one.message.parsed.lines) place v s in
        let y : StepResult = after_connect now (remote_of Callee p.other.message.parsed.lines) place w r in
        let stand : EquivalentStepResults T x y = stood-rows v w f g e place s r a in
        after_notify_referrer-rows heads config keys false (own_status 200) v.by w.by (at_participant (after_own_ack config (to_tag_of p.one.message)) place x)
        (at_participant (after_own_ack config (to_tag_of p.other.message)) place y) (bys known v w e)
        (at-seat heads config keys (after_own_ack config (to_tag_of p.one.message)) (after_own_ack config (to_tag_of p.other.message)) place x y (λ i j h k same. acknowledged-rows place i j x y same stand) stand)

    -- ---- a final response from 300
    final-by : (b c : Bool) (o q : Option Invite) (x y : StepOutput) → IsOfInvite T key p.one o → IsOfInvite T key p.other q → public_invite known b o ≡ public_invite known c q → EquivalentOutputs T x y →
        EquivalentOutputs T (with_failure_ack config.sip key p.one.message o x) (with_failure_ack config.sip key p.other.message q y)
    final-by b c o q x y f g e a =
        by_invite known b c
        (λ i j. IsOfInvite T key p.one i → IsOfInvite T key p.other j → EquivalentOutputs T (with_failure_ack config.sip key p.one.message i x) (with_failure_ack config.sip key p.other.message j y)) (λ h k. a)
        (λ n m i j number same h k. final-like heads config keys key p i j x y h k said (as_left known i j same) a) (λ u i t k d l branch tag ack h m. a) o q e f g

    abbrev line_of : MessageView → List ℕ
    line_of m = status_line (status_of m.parsed.start) (phrase_in m.parsed.start)

    failure-answers : (place : ℕ) (v w : ParticipantState) (s r : StepResult) → IsOfParticipant T key p.one v →
        IsOfParticipant T key p.other w → public_participant known v ≡ public_participant known w → EquivalentStepResults T s r →
        EquivalentStepResults T (on_failure config now key p.one.message place v s) (on_failure config now key p.other.message place w r)
    failure-answers place v w s r f g e a =
        let x : StepResult = with_output (with_failure_ack config.sip key p.one.message v.invite s.effects.output) s in
        let y : StepResult = with_output (with_failure_ack config.sip key p.other.message w.invite r.effects.output) r in
        subst (λ (l : List ℕ). EquivalentStepResults T (after_invite_end config now (line_of p.one.message) place v x) (after_invite_end config now l place w y)) (ap line_of said)
        (unasked-rows now (line_of p.one.message) place v w x y e
        (output-rows heads config keys (with_failure_ack config.sip key p.one.message v.invite s.effects.output) (with_failure_ack config.sip key p.other.message w.invite r.effects.output) s r
        (final-by (known (dialogue_of v).peer) (known (dialogue_of w).peer) v.invite w.invite s.effects.output r.effects.output f.invite g.invite (invites known v w e) a.effects.output) a))

    -- ---- a retransmitted 2xx
    again-like : (i j : Peer) (t k : List ℕ) (x y : StepOutput) → i ≡ j → blank_if (known i) t ≡ blank_if (known j) k → EquivalentOutputs T x y →
        EquivalentOutputs T (with_emit (emit.Plain i t) x) (with_emit (emit.Plain j k) y)
    again-like i j t k x y e same a = emitted-equivalent T (emit.Plain i t) (emit.Plain j k) x y (ap (λ (z : Peer). TextSent z (blank_if (known i) t)) e ∙ ap (λ (u : List ℕ). TextSent j u) same) a

    repeat-rows : (u i t k : List ℕ) (place : ℕ) (v w : ParticipantState) (s r : StepResult) → u ≡ i → blank_if (known (dialogue_of v).peer) t ≡ blank_if (known (dialogue_of w).peer) k →
        public_participant known v ≡ public_participant known w → EquivalentStepResults T s r →
        EquivalentStepResults T (on_retransmission p.one.message u t place v s) (on_retransmission p.other.message i k place w r)
    repeat-rows u i t k place v w s r tag ack e a =
        if-rows heads config keys (is_success (status_of p.one.message.parsed.start) && bytes_eq (to_tag_of p.one.message) u)
        (is_success (status_of p.other.message.parsed.start) && bytes_eq (to_tag_of p.other.message) i) (after_ack_retransmission t v s) s (after_ack_retransmission k w r) r
        (ap (λ (m : MessageView). is_success (status_of m.parsed.start) && bytes_eq (to_tag_of m) u) said
        ∙ ap (λ (z : List ℕ). is_success (status_of p.other.message.parsed.start) && bytes_eq (to_tag_of p.other.message) z) tag)
        (output-rows heads config keys (with_emit (emit.Plain (dialogue_of v).peer t) s.effects.output) (with_emit (emit.Plain (dialogue_of w).peer k) r.effects.output) s r
        (again-like (dialogue_of v).peer (dialogue_of w).peer t k s.effects.output r.effects.output (peers known v w e) ack a.effects.output) a) a

    -- ---- any response
    response-rows : (place : ℕ) (v w : ParticipantState) (s r : StepResult) → IsOfParticipant T key p.one v →
        IsOfParticipant T key p.other w → public_participant known v ≡ public_participant known w → EquivalentStepResults T s r →
        EquivalentStepResults T (on_outstanding_response config now key p.one.message place v s) (on_outstanding_response config now key p.other.message place w r)
    response-rows place v w s r f g e a =
        let x : StepResult = if nat_lt (status_of p.one.message.parsed.start) 300 then on_success config now p.one.message place v s else on_failure config now key p.one.message place v s in
        let y : StepResult = if nat_lt (status_of p.other.message.parsed.start) 300 then on_success config now p.other.message place w r else on_failure config now key p.other.message place w r in
        if-rows heads config keys (nat_lt (status_of p.one.message.parsed.start) 200) (nat_lt (status_of p.other.message.parsed.start) 200) (on_provisional key place v s) x
        (on_provisional key place w r) y (ap (λ (m : MessageView). nat_lt (status_of m.parsed.start) 200) said)
        (provisional-rows place v w s r e a)
        (if-rows heads config keys (nat_lt (status_of p.one.message.parsed.start) 300) (nat_lt (status_of p.other.message.parsed.start) 300) (on_success config now p.one.message place v s)
        (on_failure config now key p.one.message place v s)
        (on_success config now p.other.message place w r) (on_failure config now key p.other.message place w r) (ap (λ (m : MessageView). nat_lt (status_of m.parsed.start) 300) said)
        (success-rows place v w s r f g e a) (failure-answers place v w s r f g e a))

    pub answer-rows : (place : ℕ) (v w : ParticipantState) (s r : StepResult) → IsOfParticipant T key p.one v →
        IsOfParticipant T key p.other w → public_participant known v ≡ public_participant known w → EquivalentStepResults T s r →
        EquivalentStepResults T (on_any_response config now key p.one.message place v s) (on_any_response config now key p.other.message place w r)
    unfolding on_any_response
    answer-rows place v w s r f g e a =
        by_invite known (known (dialogue_of v).peer) (known (dialogue_of w).peer)
        (λ i j. EquivalentStepResults T (on_response_to i config now key p.one.message place v s) (on_response_to j config now key p.other.message place w r)) a
        (λ n m i j number same. response-rows place v w s r f g e a) (λ u i t k d l branch tag ack. repeat-rows t k d l place v w s r tag ack e a) v.invite w.invite (invites known v w e)
