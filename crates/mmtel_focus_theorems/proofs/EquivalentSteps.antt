-- Two steps of a conference that are equal but for private places, and the parts of the step table of conferences, each of which keeps them so: participants at a place, NOTIFY, participants that leave, a conference
-- that closes, and responses.
use Rattle.std.proofs.Common.{◌≡◌, ℕ, Bool, true, false, List, [], ◌∷◌, Option, Some, None, refl, ap, sym, ◌∙◌, map, subst, codes}
use Rattle.std.specs.Option.{option_map}
use Rattle.std.specs.Prelude.{if◌then◌else◌, remove, slice_get, slice_set}
use Rattle.mmtel_charging.specs.Meters.{MeterView, row_of_meter}
use Rattle.mmtel_call_theorems.proofs.Noninterference.Sent.{Heads}
use Rattle.mmtel_call_theorems.specs.Noninterference.PublicCall.{public_abandoned}
use Rattle.mmtel_call_theorems.specs.Noninterference.Observations.{EquivalentOutputs, Trust}
use Rattle.mmtel_output.specs.Outputs.{token}
use Rattle.mmtel_output.specs.Sending.{with_bye, with_contact_response}
use Rattle.mmtel_output.specs.declared.outputs.StepOutput.{StepOutput}
use Rattle.mmtel_leg.specs.Legs.{Leg}
use Rattle.mmtel_message.specs.Message.{Line}
use Rattle.mmtel_transaction.specs.Tokens.{TokensView}
use Rattle.mmtel_transaction.specs.declared.words.TKey.{TKey}
use Rattle.mmtel_types.specs.declared.causes.Cause.TheVariants.{Ended}
use Rattle.mmtel_types.specs.declared.numbers.Peer.{Peer}
use Rattle.mmtel_types.specs.declared.numbers.RoomNo.{RoomNo}
use Rattle.mmtel_focus.specs.Conferences.{Conference, StepResult, with_output}
use Rattle.mmtel_participants.specs.declared.effects.Effects.{Effects}
use Rattle.mmtel_participants.specs.declared.participants.Party.{Party}
use Rattle.mmtel_participants.specs.declared.participants.ParticipantState.{ParticipantState}
use Rattle.mmtel_focus.specs.Participants.{abandoned_of_invite, after_close, after_close_with, after_dismissal, after_leave, after_notify, after_notify_referrer, after_notify_to}
use Rattle.mmtel_focus.specs.Participants.{at_participant, at_place, by_participant, dialogue_of, effects_of_dismissal, effects_of_leave, has_seat_number, is_connected, is_creator, leg_of}
use Rattle.mmtel_focus.specs.Participants.{participant_after_bye, participant_after_notify, place_of, tag_of, with_notify_to_party, with_participant, with_row_of_meter, without_participant_at}
use Rattle.mmtel_focus.specs.ConferenceConfig.{ConferenceConfigView}
use Rattle.mmtel_focus.specs.Texts.{notify_lines, sipfrag}
use Rattle.mmtel_focus_theorems.specs.Inputs.{AreRequests, MessagePair}
use Rattle.mmtel_focus_theorems.specs.PublicParts.{EquivalentEffects, public_conference, public_participant, public_party, trust_of, trusts}
use Rattle.mmtel_focus_theorems.proofs.EquivalentParticipants.{bye-seats, by_party, dialogs, invites, left-all, meters, parties, seateds, seats-set, tags, notified-seats}
use Rattle.mmtel_focus_theorems.proofs.EquivalentOutputs.{answered-like, asked-like, with_row-like}
use Rattle.mmtel_focus_theorems.proofs.Lists.{same_append, same_get, same_place, same_remove, same_set}

pub record EquivalentStepResults (t : Trust) (one other : StepResult) : Type 0 where
  pub conference : public_conference t.peer one.conference ≡ public_conference t.peer other.conference
  pub effects : EquivalentEffects t one.effects other.effects

pub tokens_same : (t : Trust) (x y : StepOutput) → EquivalentOutputs t x y → token x ≡ token y
tokens_same t x y a = ap (λ (d : TokensView). token (record x { tokens = d })) a.tokens

module _ (heads : Heads) (config : ConferenceConfigView) (keys : TKey → Bool) where
  abbrev T : Trust
  T = trust_of config keys

  abbrev known : Peer → Bool
  known = λ peer. trusts config peer

  abbrev pub Rows : (one other : StepResult) → Type 0
  Rows = λ one other. EquivalentStepResults T one other

  pub seats-in : (s r : StepResult) → EquivalentStepResults T s r → map (public_participant known) s.conference.participants ≡ map (public_participant known) r.conference.participants
  seats-in s r a = ap (λ (z : Conference). z.participants) a.conference

  pub room-of : (s r : StepResult) → EquivalentStepResults T s r → s.conference.number ≡ r.conference.number
  room-of s r a = ap (λ (z : Conference). z.number) a.conference

  pub output-rows : (d e : StepOutput) (s r : StepResult) → EquivalentOutputs T d e → EquivalentStepResults T s r → EquivalentStepResults T (with_output d s) (with_output e r)
  output-rows d e s r b a = record { conference = a.conference; effects = record { closes = a.effects.closes; abandoned = a.effects.abandoned; output = b } }

  pub if-rows : (b c : Bool) (one two three four : StepResult) → b ≡ c → EquivalentStepResults T one three → EquivalentStepResults T two four → EquivalentStepResults T (if b then one else two) (if c then three else four)
  if-rows b c one two three four e f g = subst (λ (d : Bool). EquivalentStepResults T (if b then one else two) (if d then three else four)) e (by b)
    where
      by : (b : Bool) → EquivalentStepResults T (if b then one else two) (if b then three else four)
      by true = f
      by false = g

  pub with_participant-rows : (place : ℕ) (v w : ParticipantState) (s r : StepResult) → public_participant known v ≡ public_participant known w → EquivalentStepResults T s r →
      EquivalentStepResults T (with_participant place v s) (with_participant place w r)
  with_participant-rows place v w s r e a = record {
    conference = seats-set known s.conference r.conference (slice_set s.conference.participants place v) (slice_set r.conference.participants place w) a.conference
        (same_set (public_participant known) s.conference.participants r.conference.participants place v w (seats-in s r a) e);
    effects = a.effects;
  }

  without_participant_at-room : (place : ℕ) (s r : StepResult) → EquivalentStepResults T s r →
      public_conference known (without_participant_at place s).conference ≡ public_conference known (without_participant_at place r).conference
  without_participant_at-room place s r a = seats-set known s.conference r.conference (remove s.conference.participants place) (remove r.conference.participants place) a.conference
      (same_remove (public_participant known) s.conference.participants r.conference.participants place (seats-in s r a))

  -- ---- the participant at a place

  abbrev pub IsAt : (place : ℕ) → StepResult → ParticipantState → Type 0
  IsAt = λ place s v. slice_get s.conference.participants place ≡ Some v

  pub at-seat : (f g : (place : ℕ) → ParticipantState → StepResult → StepResult) (place : ℕ) (s r : StepResult) → ((v w : ParticipantState) → slice_get s.conference.participants place ≡ Some v →
      slice_get r.conference.participants place ≡ Some w → public_participant known v ≡ public_participant known w → EquivalentStepResults T (f place v s) (g place w r)) →
      EquivalentStepResults T s r → EquivalentStepResults T (at_participant f place s) (at_participant g place r)
  at-seat f g place s r rows a = by (slice_get s.conference.participants place) (slice_get r.conference.participants place) refl refl
      (same_get (public_participant known) s.conference.participants r.conference.participants (seats-in s r a) place)
    where
      by : (o p : Option ParticipantState) → slice_get s.conference.participants place ≡ o → slice_get r.conference.participants place ≡ p →
          option_map (public_participant known) o ≡ option_map (public_participant known) p → EquivalentStepResults T (by_participant (f place) o s) (by_participant (g place) p r)
      by None None h k e = a
      by None (Some w) h k e = absurd cc
      by (Some v) None h k e = absurd cc
      by (Some v) (Some w) h k e = rows v w h k cc

  pub at-place : (f g : (place : ℕ) → ParticipantState → StepResult → StepResult) (o p : Option ℕ) (s r : StepResult) → o ≡ p →
      ((place : ℕ) (v w : ParticipantState) → o ≡ Some place → p ≡ Some place → slice_get s.conference.participants place ≡ Some v → slice_get r.conference.participants place ≡ Some w →
      public_participant known v ≡ public_participant known w → EquivalentStepResults T (f place v s) (g place w r)) →
      EquivalentStepResults T s r → EquivalentStepResults T (at_place f o s) (at_place g p r)
  at-place f g o p s r e rows a = subst (λ (q : Option ℕ). EquivalentStepResults T (at_place f o s) (at_place g q r)) e (by o refl)
    where
      by : (q : Option ℕ) → o ≡ q → EquivalentStepResults T (at_place f q s) (at_place g q r)
      by None h = a
      by (Some place) h = at-seat f g place s r (λ v w k l x. rows place v w h (sym e ∙ h) k l x) a

  pub same-seat : (number : ℕ) (s r : StepResult) → EquivalentStepResults T s r → place_of number s.conference.participants ≡ place_of number r.conference.participants
  same-seat number s r a = same_place (public_participant known) (has_seat_number number) (λ v. refl) s.conference.participants r.conference.participants (seats-in s r a)

  -- ---- NOTIFY

  notified-like : (n m : RoomNo) (on : Bool) (line : List ℕ) (p q : Party) (x y : StepOutput) → n ≡ m → public_party known p ≡ public_party known q → EquivalentOutputs T x y →
      EquivalentOutputs T (with_notify_to_party config n on line p x) (with_notify_to_party config m on line q y)
  notified-like n m on line p q x y e same a =
      subst (λ (k : RoomNo). EquivalentOutputs T (with_notify_to_party config n on line p x) (with_notify_to_party config k on line q y)) e
      (by_party known (λ u v. EquivalentOutputs T (with_notify_to_party config n on line u x) (with_notify_to_party config n on line v y)) (λ l k i. a)
      (λ l k i. asked-like heads config keys (codes "NOTIFY") (notify_lines config.sip n on) (sipfrag line) l.dialogue k.dialogue x y (ap (λ (z : Leg). z.dialogue) i) a)
      (λ l k i. asked-like heads config keys (codes "NOTIFY") (notify_lines config.sip n on) (sipfrag line) l.dialogue k.dialogue x y (ap (λ (z : Leg). z.dialogue) i) a) p q same)

  after_notify-rows : (on : Bool) (line : List ℕ) (place : ℕ) (v w : ParticipantState) (s r : StepResult) → public_participant known v ≡ public_participant known w → EquivalentStepResults T s r →
      EquivalentStepResults T (after_notify config on line place v s) (after_notify config on line place w r)
  after_notify-rows on line place v w s r e a =
      output-rows (with_notify_to_party config s.conference.number on line v.party s.effects.output) (with_notify_to_party config r.conference.number on line w.party r.effects.output)
      (with_participant place (participant_after_notify v) s) (with_participant place (participant_after_notify w) r)
      (notified-like s.conference.number r.conference.number on line v.party w.party s.effects.output r.effects.output (room-of s r a) (parties known v w e) a.effects.output)
      (with_participant-rows place (participant_after_notify v) (participant_after_notify w) s r (notified-seats known v w e) a)

  pub after_notify_to-rows : (on : Bool) (line : List ℕ) (n m : ℕ) (s r : StepResult) → n ≡ m → EquivalentStepResults T s r →
      EquivalentStepResults T (after_notify_to config on line n s) (after_notify_to config on line m r)
  after_notify_to-rows on line n m s r e a =
      at-place (after_notify config on line) (after_notify config on line) (place_of n s.conference.participants) (place_of m r.conference.participants) s r
      (same-seat n s r a ∙ ap (λ (k : ℕ). place_of k r.conference.participants) e)
      (λ place v w h k i l x. after_notify-rows on line place v w s r x a) a

  pub after_notify_referrer-rows : (on : Bool) (line : List ℕ) (o p : Option ℕ) (s r : StepResult) → o ≡ p → EquivalentStepResults T s r →
      EquivalentStepResults T (after_notify_referrer config on line o s) (after_notify_referrer config on line p r)
  after_notify_referrer-rows on line o p s r e a = subst (λ (q : Option ℕ). EquivalentStepResults T (after_notify_referrer config on line o s) (after_notify_referrer config on line q r)) e (by o)
    where
      by : (q : Option ℕ) → EquivalentStepResults T (after_notify_referrer config on line q s) (after_notify_referrer config on line q r)
      by None = a
      by (Some number) = after_notify_to-rows on line number number s r refl a

  -- ---- a participant leaves

  filed-by : (now : ℕ) (m n : Option MeterView) (x y : StepOutput) → m ≡ n → EquivalentOutputs T x y → EquivalentOutputs T (with_row_of_meter now m x) (with_row_of_meter now n y)
  filed-by now m n x y e a = subst (λ (k : Option MeterView). EquivalentOutputs T (with_row_of_meter now m x) (with_row_of_meter now k y)) e (by m)
    where
      by : (k : Option MeterView) → EquivalentOutputs T (with_row_of_meter now k x) (with_row_of_meter now k y)
      by None = a
      by (Some meter) = with_row-like heads config keys (row_of_meter meter now 0 Ended) x y a

  after_leave-with : (now : ℕ) (had_bye : Bool) (v w : ParticipantState) (e f : Effects) → public_participant known v ≡ public_participant known w → EquivalentEffects T e f →
      EquivalentEffects T (effects_of_leave now had_bye v e) (effects_of_leave now had_bye w f)
  after_leave-with now had_bye v w e f same a = record {
    closes = a.closes;
    abandoned = same_append (public_abandoned known) e.abandoned f.abandoned (abandoned_of_invite had_bye v.party v.invite) (abandoned_of_invite had_bye w.party w.invite) a.abandoned
        (left-all known had_bye (known (dialogue_of v).peer) (known (dialogue_of w).peer) v.party w.party v.invite w.invite (parties known v w same) (invites known v w same));
    output = filed-by now (leg_of v.party).meter (leg_of w.party).meter e.output f.output (meters known v w same) a.output;
  }

  pub after_leave-rows : (now : ℕ) (had_bye : Bool) (place : ℕ) (v w : ParticipantState) (s r : StepResult) → public_participant known v ≡ public_participant known w → EquivalentStepResults T s r →
      EquivalentStepResults T (after_leave now had_bye place v s) (after_leave now had_bye place w r)
  after_leave-rows now had_bye place v w s r e a = record { conference = without_participant_at-room place s r a; effects = after_leave-with now had_bye v w s.effects r.effects e a.effects }

  after_dismissal-with : (now : ℕ) (v w : ParticipantState) (e f : Effects) → public_participant known v ≡ public_participant known w → EquivalentEffects T e f →
      EquivalentEffects T (effects_of_dismissal config now v e) (effects_of_dismissal config now w f)
  after_dismissal-with now v w e f same a =
      subst (λ (b : Bool). EquivalentEffects T (effects_of_dismissal config now v e)
      (if b then effects_of_leave now true (participant_after_bye w) (record f { output = with_bye config.sip (dialogue_of w) f.output }) else effects_of_leave now false w f)) (seateds known v w same)
      (by (is_connected v))
    where
      by : (b : Bool) →
          EquivalentEffects T (if b then effects_of_leave now true (participant_after_bye v) (record e { output = with_bye config.sip (dialogue_of v) e.output }) else effects_of_leave now false v e)
          (if b then effects_of_leave now true (participant_after_bye w) (record f { output = with_bye config.sip (dialogue_of w) f.output }) else effects_of_leave now false w f)
      by true =
          after_leave-with now true (participant_after_bye v) (participant_after_bye w) (record e { output = with_bye config.sip (dialogue_of v) e.output })
          (record f { output = with_bye config.sip (dialogue_of w) f.output }) (bye-seats known v w same)
          (record { closes = a.closes; abandoned = a.abandoned; output = asked-like heads config keys (codes "BYE") [] [] (dialogue_of v) (dialogue_of w) e.output f.output (dialogs known v w same) a.output })
      by false = after_leave-with now false v w e f same a

  pub after_dismissal-rows : (now place : ℕ) (v w : ParticipantState) (s r : StepResult) → public_participant known v ≡ public_participant known w → EquivalentStepResults T s r →
      EquivalentStepResults T (after_dismissal config now place v s) (after_dismissal config now place w r)
  after_dismissal-rows now place v w s r e a = record { conference = without_participant_at-room place s r a; effects = after_dismissal-with now v w s.effects r.effects e a.effects }

  -- ---- the conference closes

  after_close-rows : (now : ℕ) (vs ws : List ParticipantState) (s r : StepResult) → map (public_participant known) vs ≡ map (public_participant known) ws → EquivalentStepResults T s r →
      EquivalentStepResults T (after_close config now vs s) (after_close config now ws r)
  unfolding after_close
  after_close-rows now [] [] s r e a = record { conference = a.conference; effects = record { closes = refl; abandoned = a.effects.abandoned; output = a.effects.output } }
  after_close-rows now [] (w ∷ ws) s r e a = absurd cc
  after_close-rows now (v ∷ vs) [] s r e a = absurd cc
  after_close-rows now (v ∷ vs) (w ∷ ws) s r e a =
      let one : public_participant known v ≡ public_participant known w = cc in
      let more : map (public_participant known) vs ≡ map (public_participant known) ws = cc in
      after_close-rows now vs ws (after_dismissal config now 0 v s) (after_dismissal config now 0 w r) more (after_dismissal-rows now 0 v w s r one a)

  pub after_close_with-rows : (now n m : ℕ) (s r : StepResult) → n ≡ m → EquivalentStepResults T s r → EquivalentStepResults T (after_close_with config now n s) (after_close_with config now m r)
  after_close_with-rows now n m s r e a = if-rows (is_creator n) (is_creator m) (after_close config now s.conference.participants s) s (after_close config now r.conference.participants r) r
      (ap is_creator e) (after_close-rows now s.conference.participants r.conference.participants s r (seats-in s r a) a) a

  -- ---- responses, with the tag of the participant's dialog

  pub answered-rows : (c d : List ℕ) (key : TKey) (p : MessagePair) (code : ℕ) (named : List Line) (v w : ParticipantState) (s r : StepResult) → c ≡ d → AreRequests T key p →
      public_participant known v ≡ public_participant known w → EquivalentStepResults T s r →
      EquivalentStepResults T (with_output (with_contact_response c key p.one.message (tag_of v) code [] named [] s.effects.output) s)
      (with_output (with_contact_response d key p.other.message (tag_of w) code [] named [] r.effects.output) r)
  answered-rows c d key p code named v w s r same asked e a =
      output-rows (with_contact_response c key p.one.message (tag_of v) code [] named [] s.effects.output) (with_contact_response d key p.other.message (tag_of w) code [] named [] r.effects.output) s r
      (subst (λ (x : List ℕ). EquivalentOutputs T (with_contact_response c key p.one.message (tag_of v) code [] named [] s.effects.output)
      (with_contact_response x key p.other.message (tag_of w) code [] named [] r.effects.output)) same
      (subst (λ (x : List ℕ). EquivalentOutputs T (with_contact_response c key p.one.message (tag_of v) code [] named [] s.effects.output)
      (with_contact_response c key p.other.message x code [] named [] r.effects.output)) (tags known v w e)
      (answered-like heads config keys c key p (tag_of v) code named [] s.effects.output r.effects.output asked a.effects.output))) a
