-- Two tables of conferences with the same public part keep it so in each operation that is done on both, under one configuration.
use Rattle.std.proofs.Common.{◌≡◌, ℕ, Bool, true, false, List, [], ◌∷◌, ◌++◌, Option, Some, None, Result, Ok, Err, refl, ap, sym, ◌∙◌, map, subst, drop}
use Rattle.std.specs.Option.{option_map}
use Rattle.std.specs.Prelude.{if◌then◌else◌, option_to_list, position, remove, slice_get, slice_set}
use Rattle.mmtel_compose.specs.ReceivedMessages.{MessageView}
use Rattle.mmtel_base.specs.Numbers.{next_number}
use Rattle.mmtel_call_theorems.proofs.Noninterference.Leaving.{RestsEquivalent, rest_of}
use Rattle.mmtel_call_theorems.proofs.Noninterference.Sent.{Heads}
use Rattle.mmtel_call_theorems.specs.Noninterference.PublicCall.{public_abandoned}
use Rattle.mmtel_call_theorems.specs.Noninterference.Premises.{IsResponseOf}
use Rattle.mmtel_call_theorems.specs.Noninterference.Observations.{Trust}
use Rattle.mmtel_charging.specs.declared.rows.Row.{Row}
use Rattle.mmtel_output.specs.AbandonedInvites.{is_of_branch, on_response}
use Rattle.mmtel_output.specs.declared.sent_invites.AbandonedInvite.{AbandonedInvite}
use Rattle.mmtel_transaction.specs.Tokens.{TokensView}
use Rattle.mmtel_transaction.specs.declared.words.RoomWord.{RoomWord}
use Rattle.mmtel_transaction.specs.declared.words.TKey.{TKey}
use Rattle.mmtel_types.specs.declared.numbers.Peer.{Peer}
use Rattle.mmtel_focus.specs.Operations.{effects_of, no_tokens, table_after_op, with_opened_conference, with_step}
use Rattle.mmtel_focus.specs.Joining.{after_adoption, after_join, new_conference}
use Rattle.mmtel_focus.specs.Conferences.{Conference, StepResult, no_effects}
use Rattle.mmtel_focus.specs.ParticipantSignals as of_seat
use Rattle.mmtel_focus.specs.ParticipantSignals.{ParticipantSignal}
use Rattle.mmtel_focus.specs.Participants.{after_notify_to, has_seat_number, is_connected}
use Rattle.mmtel_focus.specs.Participants as seats
use Rattle.mmtel_focus.specs.ConferenceConfig.{ConferenceConfigView}
use Rattle.mmtel_focus.specs.Table.{ConferenceStep, Table, TableStep, access, conference_has_branch, conference_without_at, conference_without_in, conference_without_seat, conferences_after_close}
use Rattle.mmtel_focus.specs.Table.{conferences_after_leave, conferences_with, conferences_without, conferences_without_seat, conferences_without_seat_at, has_room_number, is_abandoned_key}
use Rattle.mmtel_focus.specs.Table.{is_provisional, next_room_number, open_result_at, open_result_in, participant_has_branch, place_of, step_by_branch, step_by_number, step_if_access}
use Rattle.mmtel_focus.specs.Table.{step_of_abandoned_response, step_of_adoption, step_of_first, step_of_join, step_of_notify, step_of_participant, step_of_response, step_of_response_at}
use Rattle.mmtel_focus.specs.Table.{step_of_signal, step_of_timeout, step_of_timeout_at, step_result_at, step_result_in, unchanged_step, with_abandoned, without, without_at, without_participant}
use Rattle.mmtel_output.specs.ResponseMatching.{awaited_request_branch, branch_in, is_awaited_response, timed_out_branch}
use Rattle.mmtel_focus.specs.Texts.{own_status}
use Rattle.mmtel_focus.specs.declared.faults.RoomFault.{RoomFault}
use Rattle.mmtel_participants.specs.declared.effects.Effects.{Effects}
use Rattle.mmtel_participants.specs.declared.participants.ParticipantState.{ParticipantState}
use Rattle.mmtel_focus_theorems.specs.Inputs as inputs
use Rattle.mmtel_focus_theorems.specs.Inputs.{AdoptionPair, AreEquivalent, AreEquivalentLegs, AreEquivalentOps, AreReceived, AreRequests, IsResponseTo, JoinRequestPair, AreEquivalentJoins, OpPair}
use Rattle.mmtel_focus_theorems.specs.Inputs.{IsResponseBy, IsResponseIn, IsOfParticipant, RoleMessage, MessagePair, SignalPair, join_request_of, one_op, one_signal, other_op, other_signal}
use Rattle.mmtel_focus_theorems.specs.PublicParts.{EquivalentEffects, public_conference, public_participant, public_table, trust_of, trusts}
use Rattle.mmtel_focus_theorems.proofs.EquivalentParticipants.{asked_public, seateds, seats-set}
use Rattle.mmtel_focus_theorems.proofs.Queries.{access_same}
use Rattle.mmtel_focus_theorems.proofs.EquivalentOutputs.{left-like}
use Rattle.mmtel_focus_theorems.proofs.Lists.{same_any, same_append, same_get, same_place, same_remove, same_set}
use Rattle.mmtel_focus_theorems.proofs.EquivalentTransitions.{ack-rows, after_adoption-rows, after_join-rows, answer-rows, due-rows, request-rows, silence-rows}
use Rattle.mmtel_focus_theorems.proofs.EquivalentSteps.{EquivalentStepResults, after_notify_to-rows, at-place}

-- the conferences after a step of two tables, and its effects
pub record EquivalentConferenceSteps (t : Trust) (one other : ConferenceStep) : Type 0 where
  pub live : map (public_conference t.peer) one.live ≡ map (public_conference t.peer) other.live
  pub effects : EquivalentEffects t one.effects other.effects

pub record EquivalentTableSteps (t : Trust) (one other : TableStep) : Type 0 where
  pub live : map (public_conference t.peer) one.live ≡ map (public_conference t.peer) other.live
  pub abandoned : map (public_abandoned t.peer) one.abandoned ≡ map (public_abandoned t.peer) other.abandoned
  pub effects : EquivalentEffects t one.effects other.effects

module _ (heads : Heads) (config : ConferenceConfigView) (keys : TKey → Bool) where
  abbrev T : Trust
  T = trust_of config keys

  abbrev known : Peer → Bool
  known = λ peer. trusts config peer

  abbrev AreRooms : (one other : List Conference) → Type 0
  AreRooms = λ one other. map (public_conference known) one ≡ map (public_conference known) other

  abbrev AreAbandonedEquivalent : (one other : List AbandonedInvite) → Type 0
  AreAbandonedEquivalent = λ one other. map (public_abandoned known) one ≡ map (public_abandoned known) other

  unchanged_step-equivalent : (us vs : List Conference) (e f : Effects) → AreRooms us vs → EquivalentEffects T e f → EquivalentConferenceSteps T (unchanged_step us e) (unchanged_step vs f)
  unchanged_step-equivalent us vs e f a b = record { live = a; effects = b }

  with_abandoned-equivalent : (ls ms : List AbandonedInvite) (s r : ConferenceStep) → AreAbandonedEquivalent ls ms → EquivalentConferenceSteps T s r → EquivalentTableSteps T (with_abandoned ls s) (with_abandoned ms r)
  with_abandoned-equivalent ls ms s r a b = record { live = b.live; abandoned = a; effects = b.effects }

  -- ---- a step of a conference at a place

  conferences_with-equivalent : (place : ℕ) (b c : Bool) (u v : Conference) (us vs : List Conference) → b ≡ c → public_conference known u ≡ public_conference known v → AreRooms us vs →
      AreRooms (conferences_with place b u us) (conferences_with place c v vs)
  conferences_with-equivalent place b c u v us vs e same a = subst (λ (d : Bool). AreRooms (conferences_with place b u us) (conferences_with place d v vs)) e (by b)
    where
      by : (d : Bool) → AreRooms (conferences_with place d u us) (conferences_with place d v vs)
      by true = same_remove (public_conference known) (slice_set us place u) (slice_set vs place v) place (same_set (public_conference known) us vs place u v a same)
      by false = same_set (public_conference known) us vs place u v a same

  -- two transitions that keep the public parts of the conferences at this place equal
  abbrev Keeps : (f g : StepResult → StepResult) (u v : Conference) (e k : Effects) → Type 0
  Keeps = λ f g u v e k. EquivalentStepResults T (record { conference = u; effects = e }) (record { conference = v; effects = k }) →
      EquivalentStepResults T (f (record { conference = u; effects = e })) (g (record { conference = v; effects = k }))

  stepped-equivalent : (f g : StepResult → StepResult) (o p : Option ℕ) (us vs : List Conference) (e k : Effects) → o ≡ p →
      ((place : ℕ) (u v : Conference) → o ≡ Some place → p ≡ Some place → slice_get us place ≡ Some u → slice_get vs place ≡ Some v → Keeps f g u v e k) →
      AreRooms us vs → EquivalentEffects T e k → EquivalentConferenceSteps T (step_result_in f o us e) (step_result_in g p vs k)
  stepped-equivalent f g o p us vs e k same keeps a b = subst (λ (q : Option ℕ). EquivalentConferenceSteps T (step_result_in f o us e) (step_result_in g q vs k)) same (by o refl)
    where
      at : (place : ℕ) → o ≡ Some place → (x y : Option Conference) → slice_get us place ≡ x → slice_get vs place ≡ y →
          option_map (public_conference known) x ≡ option_map (public_conference known) y → EquivalentConferenceSteps T (step_result_at f place x us e) (step_result_at g place y vs k)
      at place is None None h i q = record { live = a; effects = b }
      at place is None (Some v) h i q = absurd cc
      at place is (Some u) None h i q = absurd cc
      at place is (Some u) (Some v) h i q =
          let here : public_conference known u ≡ public_conference known v = cc in
          let rows : EquivalentStepResults T (f (record { conference = u; effects = e })) (g (record { conference = v; effects = k })) =
          keeps place u v is (sym same ∙ is) h i (record { conference = here; effects = b }) in
          record {
            live = conferences_with-equivalent place (f (record { conference = u; effects = e })).effects.closes (g (record { conference = v; effects = k })).effects.closes
                (f (record { conference = u; effects = e })).conference (g (record { conference = v; effects = k })).conference us vs rows.effects.closes rows.conference a;
            effects = rows.effects;
          }

      by : (q : Option ℕ) → o ≡ q → EquivalentConferenceSteps T (step_result_in f q us e) (step_result_in g q vs k)
      by None is = record { live = a; effects = b }
      by (Some place) is = at place is (slice_get us place) (slice_get vs place) refl refl (same_get (public_conference known) us vs a place)

  open_result_at-equivalent : (f g : StepResult → StepResult) (place : ℕ) (x y : Option Conference) (us vs : List Conference) (e k : Effects) → ((u v : Conference) → Keeps f g u v e k) →
      option_map (public_conference known) x ≡ option_map (public_conference known) y →
      AreRooms us vs → EquivalentEffects T e k → EquivalentConferenceSteps T (open_result_at f place x us e) (open_result_at g place y vs k)
  open_result_at-equivalent f g place None None us vs e k keeps q a b = record { live = a; effects = b }
  open_result_at-equivalent f g place None (Some v) us vs e k keeps q a b = absurd cc
  open_result_at-equivalent f g place (Some u) None us vs e k keeps q a b = absurd cc
  open_result_at-equivalent f g place (Some u) (Some v) us vs e k keeps q a b =
      let here : public_conference known u ≡ public_conference known v = cc in
      let rows : EquivalentStepResults T (f (record { conference = u; effects = e })) (g (record { conference = v; effects = k })) = keeps u v (record { conference = here; effects = b }) in
      record {
        live = same_set (public_conference known) us vs place (f (record { conference = u; effects = e })).conference (g (record { conference = v; effects = k })).conference a rows.conference;
        effects = rows.effects;
      }

  room_place : (number : ℕ) (us vs : List Conference) → AreRooms us vs → place_of number us ≡ place_of number vs
  room_place number us vs a = same_place (public_conference known) (has_room_number number) (λ x. refl) us vs a

  -- ---- a participant receives a signal

  conference_has_branch_public : (branch : List ℕ) (room : Conference) → conference_has_branch branch (public_conference known room) ≡ conference_has_branch branch room
  conference_has_branch_public branch room = same_any (public_participant known) (participant_has_branch branch) (asked_public known branch) room.participants

  abbrev ReceiveEquivalent : (now : ℕ) (x y : ParticipantSignal) (whose : ParticipantState → Bool) (u v : Conference) → Type 0
  ReceiveEquivalent = λ now x y whose u v. (place : ℕ) (i j : ParticipantState) (s r : StepResult) → position whose u.participants ≡ Some place → slice_get u.participants place ≡ Some i →
      position whose v.participants ≡ Some place → slice_get v.participants place ≡ Some j →
      public_participant known i ≡ public_participant known j → EquivalentStepResults T s r → EquivalentStepResults T (step_of_participant config now x place i s) (step_of_participant config now y place j r)

  step_of_first-equivalent : (now : ℕ) (x y : ParticipantSignal) (whose : ParticipantState → Bool) (u v : Conference) (e k : Effects) →
      ((seat : ParticipantState) → whose (public_participant known seat) ≡ whose seat) → ReceiveEquivalent now x y whose u v →
      Keeps (step_of_first config now whose x) (step_of_first config now whose y) u v e k
  step_of_first-equivalent now x y whose u v e k same receive a =
      at-place heads config keys (step_of_participant config now x) (step_of_participant config now y) (position whose u.participants) (position whose v.participants)
      (record { conference = u; effects = e }) (record { conference = v; effects = k })
      (same_place (public_participant known) whose same u.participants v.participants (ap (λ (z : Conference). z.participants) a.conference))
      (λ place i j f g h l q. receive place i j (record { conference = u; effects = e }) (record { conference = v; effects = k }) f h g l q a) a

  step_by_number-equivalent : (now room seat : ℕ) (x y : ParticipantSignal) (us vs : List Conference) (e k : Effects) → ((u v : Conference) → ReceiveEquivalent now x y (has_seat_number seat) u v) →
      AreRooms us vs → EquivalentEffects T e k → EquivalentConferenceSteps T (step_by_number config now room seat x us e) (step_by_number config now room seat y vs k)
  step_by_number-equivalent now room seat x y us vs e k receive a b =
      stepped-equivalent (step_of_first config now (has_seat_number seat) x) (step_of_first config now (has_seat_number seat) y) (place_of room us) (place_of room vs) us vs e k (room_place room us vs a)
      (λ place u v f g h i. step_of_first-equivalent now x y (has_seat_number seat) u v e k (λ z. refl) (receive u v)) a b

  step_by_branch-equivalent : (now : ℕ) (branch : List ℕ) (x y : ParticipantSignal) (us vs : List Conference) (e k : Effects) →
      ((at : ℕ) (u v : Conference) → position (conference_has_branch branch) us ≡ Some at → slice_get us at ≡ Some u → position (conference_has_branch branch) vs ≡ Some at → slice_get vs at ≡ Some v →
      ReceiveEquivalent now x y (participant_has_branch branch) u v) →
      AreRooms us vs → EquivalentEffects T e k → EquivalentConferenceSteps T (step_by_branch config now branch x us e) (step_by_branch config now branch y vs k)
  step_by_branch-equivalent now branch x y us vs e k receive a b =
      stepped-equivalent (step_of_first config now (participant_has_branch branch) x) (step_of_first config now (participant_has_branch branch) y) (position (conference_has_branch branch) us)
      (position (conference_has_branch branch) vs) us vs e k (same_place (public_conference known) (conference_has_branch branch) (conference_has_branch_public branch) us vs a)
      (λ at u v f g h i. step_of_first-equivalent now x y (participant_has_branch branch) u v e k (asked_public known branch) (receive at u v f h g i)) a b

  -- ---- what each participant receives

  request-receives : (now : ℕ) (key : TKey) (p : MessagePair) (whose : ParticipantState → Bool) (u v : Conference) → AreRequests T key p →
      ReceiveEquivalent now (of_seat.Request key p.one.message) (of_seat.Request key p.other.message) whose u v
  unfolding step_of_participant
  request-receives now key p whose u v asked place i j s r f g h k e a = request-rows heads config keys now key p asked place i j s r e a

  ack-receives : (now : ℕ) (p : MessagePair) (whose : ParticipantState → Bool) (u v : Conference) → AreEquivalent p → ReceiveEquivalent now (of_seat.Ack p.one.message) (of_seat.Ack p.other.message) whose u v
  unfolding step_of_participant
  ack-receives now p whose u v said place i j s r f g h k e a = ack-rows heads config keys p said place i j s r e a

  due-receives : (now : ℕ) (what : RoomWord) (whose : ParticipantState → Bool) (u v : Conference) → ReceiveEquivalent now (of_seat.Due what) (of_seat.Due what) whose u v
  unfolding step_of_participant
  due-receives now what whose u v place i j s r f g h k e a = due-rows heads config keys now what place i j s r e a

  silent-receives : (now : ℕ) (whose : ParticipantState → Bool) (u v : Conference) → ReceiveEquivalent now of_seat.Silent of_seat.Silent whose u v
  unfolding step_of_participant
  silent-receives now whose u v place i j s r f g h k e a = silence-rows heads config keys now place i j s r e a

  answer-receives : (now : ℕ) (key : TKey) (p : MessagePair) (whose : ParticipantState → Bool) (u v : Conference) → AreEquivalent p →
      ((place : ℕ) (i : ParticipantState) → position whose u.participants ≡ Some place → slice_get u.participants place ≡ Some i → IsOfParticipant T key p.one i) →
      ((place : ℕ) (i : ParticipantState) → position whose v.participants ≡ Some place → slice_get v.participants place ≡ Some i → IsOfParticipant T key p.other i) →
      ReceiveEquivalent now (of_seat.Answer key p.one.message) (of_seat.Answer key p.other.message) whose u v
  unfolding step_of_participant
  answer-receives now key p whose u v said one other place i j s r f g h k e a = answer-rows heads config keys now key p said place i j s r (one place i f g) (other place j h k) e a

  -- ---- abandoned INVITEs

  abandoned_place : (branch : List ℕ) (ls ms : List AbandonedInvite) → AreAbandonedEquivalent ls ms → position (is_of_branch branch) ls ≡ position (is_of_branch branch) ms
  abandoned_place branch ls ms a = same_place (public_abandoned known) (is_of_branch branch) (λ l. refl) ls ms a

  without-abandoned : (o p : Option ℕ) (ls ms : List AbandonedInvite) → o ≡ p → AreAbandonedEquivalent ls ms → AreAbandonedEquivalent (without o ls) (without p ms)
  without-abandoned o p ls ms e a = subst (λ (q : Option ℕ). AreAbandonedEquivalent (without o ls) (without q ms)) e (by o)
    where
      by : (q : Option ℕ) → AreAbandonedEquivalent (without q ls) (without q ms)
      by None = a
      by (Some place) = sym (rest_of (public_abandoned known) place ls) ∙ (ap (λ (l : List AbandonedInvite). without_at place l) a ∙ rest_of (public_abandoned known) place ms)

  listed : (o p : Option AbandonedInvite) → option_map (public_abandoned known) o ≡ option_map (public_abandoned known) p → AreAbandonedEquivalent (option_to_list o) (option_to_list p)
  listed None None e = refl
  listed None (Some m) e = absurd cc
  listed (Some l) None e = absurd cc
  listed (Some l) (Some m) e =
      let same : public_abandoned known l ≡ public_abandoned known m = cc in
      ap (λ (z : AbandonedInvite). z ∷ []) same

  module _ (now : ℕ) (key : TKey) (p : MessagePair) (said : AreEquivalent p) where
    abandoned-alike : (place : ℕ) (o q : Option AbandonedInvite) (us vs : List Conference) (ls ms : List AbandonedInvite) (e k : Effects) → option_map (public_abandoned known) o ≡ option_map (public_abandoned known) q →
        ((l : AbandonedInvite) → o ≡ Some l → IsResponseOf T key l.invite.dialogue.peer p.one.role p.one.message) →
        ((l : AbandonedInvite) → q ≡ Some l → IsResponseOf T key l.invite.dialogue.peer p.other.role p.other.message) →
        AreRooms us vs → AreAbandonedEquivalent ls ms → EquivalentEffects T e k →
        EquivalentTableSteps T (step_of_abandoned_response config.sip key p.one.message place o us ls e) (step_of_abandoned_response config.sip key p.other.message place q vs ms k)
    abandoned-alike place None None us vs ls ms e k same f g a b c = record { live = a; abandoned = b; effects = c }
    abandoned-alike place None (Some m) us vs ls ms e k same f g a b c = absurd cc
    abandoned-alike place (Some l) None us vs ls ms e k same f g a b c = absurd cc
    abandoned-alike place (Some l) (Some m) us vs ls ms e k same f g a b c =
        let here : public_abandoned known l ≡ public_abandoned known m = cc in
        let rests : RestsEquivalent T (on_response config.sip key p.one.message.parsed l e.output) (on_response config.sip key p.other.message.parsed m k.output) =
        left-like heads config keys key p l m e.output k.output (f l refl) (g m refl) said here c.output in
        record {
          live = a;
          abandoned = same_append (public_abandoned known) (without_at place ls) (without_at place ms) (option_to_list (on_response config.sip key p.one.message.parsed l e.output).remaining)
              (option_to_list (on_response config.sip key p.other.message.parsed m k.output).remaining)
              (without-abandoned (Some place) (Some place) ls ms refl b)
              (listed (on_response config.sip key p.one.message.parsed l e.output).remaining (on_response config.sip key p.other.message.parsed m k.output).remaining rests.remaining);
          effects = record { closes = c.closes; abandoned = c.abandoned; output = rests.output };
        }

    answered_at-alike : (branch : List ℕ) (x y : Table) (o : Option ℕ) (e k : Effects) → position (is_of_branch branch) x.abandoned ≡ o → position (is_of_branch branch) y.abandoned ≡ o →
        IsResponseIn T key p.one branch x → IsResponseIn T key p.other branch y →
        AreRooms x.live y.live → AreAbandonedEquivalent x.abandoned y.abandoned → EquivalentEffects T e k →
        EquivalentTableSteps T (step_of_response_at config now key p.one.message branch o x.live x.abandoned e) (step_of_response_at config now key p.other.message branch o y.live y.abandoned k)
    answered_at-alike branch x y None e k i j f g a b c =
        with_abandoned-equivalent x.abandoned y.abandoned (step_by_branch config now branch (of_seat.Answer key p.one.message) x.live e) (step_by_branch config now branch (of_seat.Answer key p.other.message) y.live k) b
        (step_by_branch-equivalent now branch (of_seat.Answer key p.one.message) (of_seat.Answer key p.other.message) x.live y.live e k
        (λ at u v l m n q. answer-receives now key p (participant_has_branch branch) u v said (λ place seat h z. f.seat at place u seat l m h z) (λ place seat h z. g.seat at place v seat n q h z)) a c)
    answered_at-alike branch x y (Some place) e k i j f g a b c =
        abandoned-alike place (slice_get x.abandoned place) (slice_get y.abandoned place) x.live y.live x.abandoned y.abandoned e k (same_get (public_abandoned known) x.abandoned y.abandoned b place)
        (λ l is. f.abandoned place l i is) (λ l is. g.abandoned place l j is) a b c

    answered_by-alike : (o : Option (List ℕ)) (x y : Table) (e k : Effects) → IsResponseBy T key p.one o x → IsResponseBy T key p.other o y → AreRooms x.live y.live →
        AreAbandonedEquivalent x.abandoned y.abandoned → EquivalentEffects T e k →
        EquivalentTableSteps T (step_of_response config now key p.one.message o x.live x.abandoned e) (step_of_response config now key p.other.message o y.live y.abandoned k)
    answered_by-alike None x y e k f g a b c = record { live = a; abandoned = b; effects = c }
    answered_by-alike (Some branch) x y e k f g a b c =
        let same : position (is_of_branch branch) x.abandoned ≡ position (is_of_branch branch) y.abandoned = abandoned_place branch x.abandoned y.abandoned b in
        subst (λ (o : Option ℕ). EquivalentTableSteps T (step_of_response_at config now key p.one.message branch (position (is_of_branch branch) x.abandoned) x.live x.abandoned e)
        (step_of_response_at config now key p.other.message branch o y.live y.abandoned k)) same
        (answered_at-alike branch x y (position (is_of_branch branch) x.abandoned) e k refl (sym same) f g a b c)

  step_of_timeout_at-equivalent : (now : ℕ) (branch : List ℕ) (o : Option ℕ) (x y : Table) (e k : Effects) → AreRooms x.live y.live → AreAbandonedEquivalent x.abandoned y.abandoned → EquivalentEffects T e k →
      EquivalentTableSteps T (step_of_timeout_at config now branch o x.live x.abandoned e) (step_of_timeout_at config now branch o y.live y.abandoned k)
  step_of_timeout_at-equivalent now branch None x y e k a b c =
      with_abandoned-equivalent x.abandoned y.abandoned (step_by_branch config now branch of_seat.Silent x.live e) (step_by_branch config now branch of_seat.Silent y.live k) b
      (step_by_branch-equivalent now branch of_seat.Silent of_seat.Silent x.live y.live e k (λ at u v l m n q. silent-receives now (participant_has_branch branch) u v) a c)
  step_of_timeout_at-equivalent now branch (Some place) x y e k a b c = record { live = a; abandoned = without-abandoned (Some place) (Some place) x.abandoned y.abandoned refl b; effects = c }

  step_of_timeout-equivalent : (now : ℕ) (o : Option (List ℕ)) (x y : Table) (e k : Effects) → AreRooms x.live y.live → AreAbandonedEquivalent x.abandoned y.abandoned → EquivalentEffects T e k →
      EquivalentTableSteps T (step_of_timeout config now o x.live x.abandoned e) (step_of_timeout config now o y.live y.abandoned k)
  step_of_timeout-equivalent now None x y e k a b c = record { live = a; abandoned = b; effects = c }
  step_of_timeout-equivalent now (Some branch) x y e k a b c =
      subst (λ (o : Option ℕ). EquivalentTableSteps T (step_of_timeout_at config now branch (position (is_of_branch branch) x.abandoned) x.live x.abandoned e)
      (step_of_timeout_at config now branch o y.live y.abandoned k)) (abandoned_place branch x.abandoned y.abandoned b)
      (step_of_timeout_at-equivalent now branch (position (is_of_branch branch) x.abandoned) x y e k a b c)

  -- ---- any signal

  branch_same : (p : MessagePair) → AreEquivalent p → awaited_request_branch p.one.message ≡ awaited_request_branch p.other.message
  unfolding awaited_request_branch
  branch_same p said = ap (λ (m : MessageView). if is_awaited_response m.parsed.cseq then branch_in m.parsed.vias else None) said

  step_of_signal-equivalent : (now : ℕ) (z : SignalPair) (x y : Table) (e k : Effects) → AreReceived T z x y → AreRooms x.live y.live → AreAbandonedEquivalent x.abandoned y.abandoned → EquivalentEffects T e k →
      EquivalentTableSteps T (step_of_signal config now (one_signal z) x.live x.abandoned e) (step_of_signal config now (other_signal z) y.live y.abandoned k)
  unfolding step_of_signal
  step_of_signal-equivalent now (inputs.Request room seat key said) x y e k h a b c =
      with_abandoned-equivalent x.abandoned y.abandoned (step_by_number config now room.0 seat (of_seat.Request key said.one.message) x.live e)
      (step_by_number config now room.0 seat (of_seat.Request key said.other.message) y.live k) b
      (step_by_number-equivalent now room.0 seat (of_seat.Request key said.one.message) (of_seat.Request key said.other.message) x.live y.live e k (λ u v. request-receives now key said (has_seat_number seat) u v h) a c)
  step_of_signal-equivalent now (inputs.Ack room seat said) x y e k h a b c =
      with_abandoned-equivalent x.abandoned y.abandoned (step_by_number config now room.0 seat (of_seat.Ack said.one.message) x.live e) (step_by_number config now room.0 seat (of_seat.Ack said.other.message) y.live k) b
      (step_by_number-equivalent now room.0 seat (of_seat.Ack said.one.message) (of_seat.Ack said.other.message) x.live y.live e k (λ u v. ack-receives now said (has_seat_number seat) u v h) a c)
  step_of_signal-equivalent now (inputs.Answer key said) x y e k h a b c =
      let same : awaited_request_branch said.one.message ≡ awaited_request_branch said.other.message = branch_same said h.0 in
      subst (λ (o : Option (List ℕ)). EquivalentTableSteps T (step_of_response config now key said.one.message (awaited_request_branch said.one.message) x.live x.abandoned e)
      (step_of_response config now key said.other.message o y.live y.abandoned k)) same
      (answered_by-alike now key said h.0 (awaited_request_branch said.one.message) x y e k h.1 (subst (λ (o : Option (List ℕ)). IsResponseBy T key said.other o y) (sym same) h.2) a b c)
  step_of_signal-equivalent now (inputs.Silent branch method) x y e k h a b c = step_of_timeout-equivalent now (timed_out_branch branch method) x y e k a b c
  step_of_signal-equivalent now (inputs.Due room seat what) x y e k h a b c =
      with_abandoned-equivalent x.abandoned y.abandoned (step_by_number config now room.0 seat (of_seat.Due what) x.live e) (step_by_number config now room.0 seat (of_seat.Due what) y.live k) b
      (step_by_number-equivalent now room.0 seat (of_seat.Due what) (of_seat.Due what) x.live y.live e k (λ u v. due-receives now what (has_seat_number seat) u v) a c)
  step_of_signal-equivalent now (inputs.Over key) x y e k h a b c =
      record {
        live = a;
        abandoned = without-abandoned (position (is_abandoned_key key) x.abandoned) (position (is_abandoned_key key) y.abandoned) x.abandoned y.abandoned
            (same_place (public_abandoned known) (is_abandoned_key key) (λ l. refl) x.abandoned y.abandoned b) b;
        effects = c;
      }

  -- ---- a leg enters a conference

  step_if_access-equivalent : (f g : StepResult → StepResult) (x y : Result ℕ RoomFault) (us vs : List Conference) (e k : Effects) → x ≡ y → ((u v : Conference) → Keeps f g u v e k) → AreRooms us vs →
      EquivalentEffects T e k → EquivalentConferenceSteps T (step_if_access f x us e) (step_if_access g y vs k)
  step_if_access-equivalent f g x y us vs e k same keeps a b = subst (λ (z : Result ℕ RoomFault). EquivalentConferenceSteps T (step_if_access f x us e) (step_if_access g z vs k)) same (by x)
    where
      by : (z : Result ℕ RoomFault) → EquivalentConferenceSteps T (step_if_access f z us e) (step_if_access g z vs k)
      by (Ok place) = open_result_at-equivalent f g place (slice_get us place) (slice_get vs place) us vs e k keeps (same_get (public_conference known) us vs a place) a b
      by (Err fault) = record { live = a; effects = b }

  -- ---- participants that leave without a signal

  conference_without_at-equivalent : (place : ℕ) (x y : Option ParticipantState) (u v : Conference) → option_map (public_participant known) x ≡ option_map (public_participant known) y →
      public_conference known u ≡ public_conference known v → public_conference known (conference_without_at place x u) ≡ public_conference known (conference_without_at place y v)
  conference_without_at-equivalent place None None u v e a = a
  conference_without_at-equivalent place None (Some j) u v e a = absurd cc
  conference_without_at-equivalent place (Some i) None u v e a = absurd cc
  conference_without_at-equivalent place (Some i) (Some j) u v e a =
      let here : public_participant known i ≡ public_participant known j = cc in
      subst (λ (b : Bool). public_conference known (conference_without_at place (Some i) u) ≡ public_conference known (if b then without_participant place v else v)) (seateds known i j here) (by (is_connected i))
    where
      by : (b : Bool) → public_conference known (if b then without_participant place u else u) ≡ public_conference known (if b then without_participant place v else v)
      by true = seats-set known u v (remove u.participants place) (remove v.participants place) a (same_remove (public_participant known) u.participants v.participants place (ap (λ (z : Conference). z.participants) a))
      by false = a

  seat_left-alike : (seat : ℕ) (u v : Conference) → public_conference known u ≡ public_conference known v →
      public_conference known (conference_without_seat seat u) ≡ public_conference known (conference_without_seat seat v)
  seat_left-alike seat u v a =
      let all : map (public_participant known) u.participants ≡ map (public_participant known) v.participants = ap (λ (z : Conference). z.participants) a in
      subst (λ (o : Option ℕ). public_conference known (conference_without_seat seat u) ≡ public_conference known (conference_without_in o v))
      (same_place (public_participant known) (has_seat_number seat) (λ z. refl) u.participants v.participants all) (by all (seats.place_of seat u.participants))
    where
      by : map (public_participant known) u.participants ≡ map (public_participant known) v.participants → (o : Option ℕ) →
          public_conference known (conference_without_in o u) ≡ public_conference known (conference_without_in o v)
      by all None = a
      by all (Some place) = conference_without_at-equivalent place (slice_get u.participants place) (slice_get v.participants place) u v (same_get (public_participant known) u.participants v.participants all place) a

  left-alike : (room seat : ℕ) (us vs : List Conference) → AreRooms us vs → AreRooms (conferences_after_leave room seat us) (conferences_after_leave room seat vs)
  unfolding conferences_after_leave
  left-alike room seat us vs a =
      subst (λ (o : Option ℕ). AreRooms (conferences_without_seat_at seat (place_of room us) us) (conferences_without_seat_at seat o vs)) (room_place room us vs a) (by (place_of room us))
    where
      at : (place : ℕ) (x y : Option Conference) → option_map (public_conference known) x ≡ option_map (public_conference known) y →
          AreRooms (conferences_without_seat seat place x us) (conferences_without_seat seat place y vs)
      at place None None e = a
      at place None (Some v) e = absurd cc
      at place (Some u) None e = absurd cc
      at place (Some u) (Some v) e =
          let here : public_conference known u ≡ public_conference known v = cc in
          same_set (public_conference known) us vs place (conference_without_seat seat u) (conference_without_seat seat v) a (seat_left-alike seat u v here)

      by : (o : Option ℕ) → AreRooms (conferences_without_seat_at seat o us) (conferences_without_seat_at seat o vs)
      by None = a
      by (Some place) = at place (slice_get us place) (slice_get vs place) (same_get (public_conference known) us vs a place)

  closed-alike : (room : ℕ) (us vs : List Conference) → AreRooms us vs → AreRooms (conferences_after_close room us) (conferences_after_close room vs)
  unfolding conferences_after_close
  closed-alike room us vs a = subst (λ (o : Option ℕ). AreRooms (conferences_without (place_of room us) us) (conferences_without o vs)) (room_place room us vs a) (by (place_of room us))
    where
      by : (o : Option ℕ) → AreRooms (conferences_without o us) (conferences_without o vs)
      by None = a
      by (Some place) = same_remove (public_conference known) us vs place a

  -- ---- operations

  abbrev pub Tables : (one other : Table) → Type 0
  Tables = λ one other. public_table known one ≡ public_table known other

  lives : (x y : Table) → Tables x y → AreRooms x.live y.live
  lives x y a = ap (λ (z : Table). z.live) a

  abandons : (x y : Table) → Tables x y → AreAbandonedEquivalent x.abandoned y.abandoned
  abandons x y a = ap (λ (z : Table). z.abandoned) a

  no_effects-equivalent : (tokens : TokensView) → EquivalentEffects T (no_effects tokens) (no_effects tokens)
  no_effects-equivalent tokens = record { closes = refl; abandoned = refl; output = record { tokens = refl; rows = refl; out = refl } }

  moved-equivalent : (s r : TableStep) (x y : Table) → EquivalentTableSteps T s r → Tables x y → Tables (with_step s x) (with_step r y)
  moved-equivalent s r x y a b =
      ap (λ (z : Table). record z { live = map (public_conference known) s.live; abandoned = map (public_abandoned known) (s.abandoned ++ s.effects.abandoned); rows = z.rows ++ s.effects.output.rows }) b
      ∙ (ap (λ (l : List Conference). record y { live = l; abandoned = map (public_abandoned known) (s.abandoned ++ s.effects.abandoned); rows = y.rows ++ s.effects.output.rows }) a.live
      ∙ (ap (λ (l : List AbandonedInvite). record y { live = map (public_conference known) r.live; abandoned = l; rows = y.rows ++ s.effects.output.rows })
      (same_append (public_abandoned known) s.abandoned r.abandoned s.effects.abandoned r.effects.abandoned a.abandoned a.effects.abandoned)
      ∙ ap (λ (l : List Row). record y { live = map (public_conference known) r.live; abandoned = map (public_abandoned known) (r.abandoned ++ r.effects.abandoned); rows = y.rows ++ l }) a.effects.output.rows))

  stepped-tables : (s r : ConferenceStep) (x y : Table) → EquivalentConferenceSteps T s r → Tables x y → Tables (with_step (with_abandoned x.abandoned s) x) (with_step (with_abandoned y.abandoned r) y)
  stepped-tables s r x y a b = moved-equivalent (with_abandoned x.abandoned s) (with_abandoned y.abandoned r) x y (with_abandoned-equivalent x.abandoned y.abandoned s r (abandons x y b) a) b

  -- the effects of an operation, and the table after it
  abbrev pub Done : OpPair → (x y : Table) → Type 0
  Done = λ d x y. EquivalentEffects T (effects_of config (one_op d) x) (effects_of config (other_op d) y) × Tables (table_after_op config (one_op d) x) (table_after_op config (other_op d) y)

  opened-equivalent : (c : JoinRequestPair) (x y : Table) → AreEquivalentJoins T c → Tables x y → Done (inputs.Opens c) x y
  opened-equivalent c x y h a =
      let s : StepResult = record { conference = new_conference (next_room_number x); effects = no_effects c.tokens } in
      let r : StepResult = record { conference = new_conference (next_room_number y); effects = no_effects c.tokens } in
      let rows : EquivalentStepResults T (after_join config c.at c.legs.one c.account c.key c.invites.one.message s) (after_join config c.at c.legs.other c.account c.key c.invites.other.message r) =
      after_join-rows heads config keys c.at c.legs.one c.legs.other c.account c.key c.invites s r h.legs h.invites
      (record { conference = ap (λ (z : Table). public_conference known (new_conference (next_room_number z))) a; effects = no_effects-equivalent c.tokens }) in
      (rows.effects, after (after_join config c.at c.legs.one c.account c.key c.invites.one.message s) (after_join config c.at c.legs.other c.account c.key c.invites.other.message r) rows)
    where
      after : (s r : StepResult) → EquivalentStepResults T s r → Tables (with_opened_conference s x) (with_opened_conference r y)
      after s r rows =
          ap (λ (z : Table). record z { live = map (public_conference known) (x.live ++ s.conference ∷ []); opened = next_number z.opened }) a
          ∙ ap (λ (l : List Conference). record (public_table known y) { live = l; opened = next_number y.opened })
          (same_append (public_conference known) x.live y.live (s.conference ∷ []) (r.conference ∷ []) (lives x y a) (ap (λ (z : Conference). z ∷ []) rows.conference))

  stepped-done : (s r : ConferenceStep) (x y : Table) → EquivalentConferenceSteps T s r → Tables x y →
      EquivalentEffects T s.effects r.effects × Tables (with_step (with_abandoned x.abandoned s) x) (with_step (with_abandoned y.abandoned r) y)
  stepped-done s r x y a b = (a.effects, stepped-tables s r x y a b)

  step_of_join-equivalent : (room : ℕ) (c : JoinRequestPair) (x y : Table) → AreEquivalentJoins T c → Tables x y → Done (inputs.Joins room c) x y
  unfolding step_of_join
  step_of_join-equivalent room c x y h a =
      stepped-done (step_of_join config c.at room c.legs.one c.account c.key c.invites.one.message x.live (no_effects c.tokens))
      (step_of_join config c.at room c.legs.other c.account c.key c.invites.other.message y.live (no_effects c.tokens)) x y
      (step_if_access-equivalent (after_join config c.at c.legs.one c.account c.key c.invites.one.message) (after_join config c.at c.legs.other c.account c.key c.invites.other.message)
      (access room x.live) (access room y.live) x.live y.live (no_effects c.tokens) (no_effects c.tokens) (access_same known room x.live y.live (lives x y a))
      (λ u v k. after_join-rows heads config keys c.at c.legs.one c.legs.other c.account c.key c.invites (record { conference = u; effects = no_effects c.tokens })
      (record { conference = v; effects = no_effects c.tokens }) h.legs h.invites k) (lives x y a) (no_effects-equivalent c.tokens)) a

  after_adoption-equivalent : (room : ℕ) (d : AdoptionPair) (x y : Table) → AreEquivalentLegs T d.legs → Tables x y → Done (inputs.Adopts room d) x y
  unfolding step_of_adoption
  after_adoption-equivalent room d x y h a =
      stepped-done (step_of_adoption config d.at room d.legs.one d.account d.by x.live (no_effects d.tokens)) (step_of_adoption config d.at room d.legs.other d.account d.by y.live (no_effects d.tokens)) x y
      (step_if_access-equivalent (after_adoption config d.at d.legs.one d.account d.by) (after_adoption config d.at d.legs.other d.account d.by) (access room x.live) (access room y.live) x.live y.live
      (no_effects d.tokens) (no_effects d.tokens) (access_same known room x.live y.live (lives x y a))
      (λ u v k. after_adoption-rows heads config keys d.at d.legs.one d.legs.other d.account d.by (record { conference = u; effects = no_effects d.tokens }) (record { conference = v; effects = no_effects d.tokens }) h k)
      (lives x y a) (no_effects-equivalent d.tokens)) a

  step_of_notify-equivalent : (room seat code : ℕ) (tokens : TokensView) (x y : Table) → Tables x y → Done (inputs.Notifies room seat code tokens) x y
  unfolding step_of_notify
  step_of_notify-equivalent room seat code tokens x y a =
      stepped-done (step_of_notify config room seat code x.live (no_effects tokens)) (step_of_notify config room seat code y.live (no_effects tokens)) x y
      (at (place_of room x.live) (place_of room y.live) (room_place room x.live y.live (lives x y a))) a
    where
      by : (o : Option ℕ) → EquivalentConferenceSteps T (open_result_in (after_notify_to config (is_provisional code) (own_status code) seat) o x.live (no_effects tokens))
          (open_result_in (after_notify_to config (is_provisional code) (own_status code) seat) o y.live (no_effects tokens))
      by None = record { live = lives x y a; effects = no_effects-equivalent tokens }
      by (Some place) =
          open_result_at-equivalent (after_notify_to config (is_provisional code) (own_status code) seat) (after_notify_to config (is_provisional code) (own_status code) seat) place
          (slice_get x.live place) (slice_get y.live place) x.live y.live (no_effects tokens) (no_effects tokens)
          (λ u v k. after_notify_to-rows heads config keys (is_provisional code) (own_status code) seat seat (record { conference = u; effects = no_effects tokens })
          (record { conference = v; effects = no_effects tokens }) refl k)
          (same_get (public_conference known) x.live y.live (lives x y a) place) (lives x y a) (no_effects-equivalent tokens)

      at : (o p : Option ℕ) → o ≡ p → EquivalentConferenceSteps T (open_result_in (after_notify_to config (is_provisional code) (own_status code) seat) o x.live (no_effects tokens))
          (open_result_in (after_notify_to config (is_provisional code) (own_status code) seat) p y.live (no_effects tokens))
      at o p e = subst (λ (q : Option ℕ). EquivalentConferenceSteps T (open_result_in (after_notify_to config (is_provisional code) (own_status code) seat) o x.live (no_effects tokens))
          (open_result_in (after_notify_to config (is_provisional code) (own_status code) seat) q y.live (no_effects tokens))) e (by o)

  received-equivalent : (at : ℕ) (tokens : TokensView) (z : SignalPair) (x y : Table) → AreReceived T z x y → Tables x y → Done (inputs.Receives at tokens z) x y
  received-equivalent at tokens z x y h a =
      let moved : EquivalentTableSteps T (step_of_signal config at (one_signal z) x.live x.abandoned (no_effects tokens)) (step_of_signal config at (other_signal z) y.live y.abandoned (no_effects tokens)) =
      step_of_signal-equivalent at z x y (no_effects tokens) (no_effects tokens) h (lives x y a) (abandons x y a) (no_effects-equivalent tokens) in
      (moved.effects, moved-equivalent (step_of_signal config at (one_signal z) x.live x.abandoned (no_effects tokens)) (step_of_signal config at (other_signal z) y.live y.abandoned (no_effects tokens)) x y moved a)

  with_lives : (us vs : List Conference) (x y : Table) → AreRooms us vs → Tables x y → Tables (record x { live = us }) (record y { live = vs })
  with_lives us vs x y a b = ap (λ (z : Table). record z { live = map (public_conference known) us }) b ∙ ap (λ (l : List Conference). record (public_table known y) { live = l }) a

  pub op-equivalent : (d : OpPair) (x y : Table) → AreEquivalentOps T d x y → Tables x y → Done d x y
  op-equivalent (inputs.Opens c) x y h a = opened-equivalent c x y h a
  op-equivalent (inputs.Joins room c) x y h a = step_of_join-equivalent room c x y h a
  op-equivalent (inputs.Adopts room d) x y h a = after_adoption-equivalent room d x y h a
  op-equivalent (inputs.Notifies room seat code tokens) x y h a = step_of_notify-equivalent room seat code tokens x y a
  op-equivalent (inputs.Receives at tokens z) x y h a = received-equivalent at tokens z x y h a
  op-equivalent (inputs.Leaves room seat) x y h a =
      (no_effects-equivalent no_tokens, with_lives (conferences_after_leave room seat x.live) (conferences_after_leave room seat y.live) x y (left-alike room seat x.live y.live (lives x y a)) a)
  op-equivalent (inputs.Closes room) x y h a =
      (no_effects-equivalent no_tokens, with_lives (conferences_after_close room x.live) (conferences_after_close room y.live) x y (closed-alike room x.live y.live (lives x y a)) a)
  op-equivalent (inputs.Drops count) x y h a = (no_effects-equivalent no_tokens, ap (λ (z : Table). record z { rows = drop count z.rows }) a)
