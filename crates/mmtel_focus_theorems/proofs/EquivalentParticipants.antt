-- Two participants with the same public part, and two conferences: what is equal of both, and what they are after one change of each.
use Rattle.std.proofs.Common.{◌≡◌, ℕ, Bool, true, false, List, [], ◌∷◌, Option, Some, None, refl, ap, sym, ◌∙◌, map}
use Rattle.std.specs.Option.{option_map}
use Rattle.std.specs.Prelude.{nat_le}
use Rattle.mmtel_compose.specs.ReceivedMessages.{MessageView}
use Rattle.mmtel_call_theorems.proofs.Noninterference.Leaving.{long}
use Rattle.mmtel_call_theorems.proofs.Noninterference.Sent.{bytes_if, untouched}
use Rattle.mmtel_call_theorems.specs.Noninterference.PublicCall.{public_abandoned, public_dialog, public_leg, public_remote_side, public_sent_invite}
use Rattle.mmtel_output.specs.SentInvites.{invite_after_cancel, with_provisional}
use Rattle.mmtel_output.specs.Sending.{ack_text}
use Rattle.mmtel_output.specs.declared.sent_invites.SentInvite.{SentInvite}
use Rattle.mmtel_output.specs.declared.sent_invites.AbandonedInvite.{AbandonedInvite}
use Rattle.mmtel_leg.specs.Legs.{Leg}
use Rattle.mmtel_leg.specs.declared.dialogues.Dialogue.{Dialogue}
use Rattle.mmtel_transaction.specs.Equivalence.{blank_if, blank_maybe}
use Rattle.mmtel_transaction.specs.declared.words.TKey.{TKey}
use Rattle.mmtel_types.specs.declared.addrs.Addr.{Addr}
use Rattle.mmtel_types.specs.declared.numbers.Peer.{Peer}
use Rattle.mmtel_focus.specs.Responses.{accepted_invite, has_outstanding_number, invite_after_due_cancel, invite_with_provisional}
use Rattle.mmtel_focus.specs.Requests.{is_invite_outstanding, participant_after_request, with_pending_ack}
use Rattle.mmtel_focus.specs.Conferences.{Conference, max_participants}
use Rattle.mmtel_participants.specs.declared.participants.Invite.{Invite}
use Rattle.mmtel_participants.specs.declared.participants.Invite.TheVariants.{Accepted, Outstanding}
use Rattle.mmtel_participants.specs.declared.participants.Party.{Party}
use Rattle.mmtel_participants.specs.declared.participants.Party.TheVariants.{DialedIn, DialedOut, Invited}
use Rattle.mmtel_participants.specs.declared.participants.ParticipantState.{ParticipantState}
use Rattle.mmtel_focus.specs.Participants.{abandoned_in_dialog, abandoned_of_invite, abandoned_of_party, dialogue_of, ended_dialogs, is_connected, is_full}
use Rattle.mmtel_focus.specs.Participants.{is_party_connected, leg_of, participant_after_bye, participant_after_notify, party_after_notify, tag_of}
use Rattle.mmtel_focus.specs.Table.{invite_has_branch, participant_has_branch}
use Rattle.mmtel_focus_theorems.specs.PublicParts.{public_conference, public_invite, public_outstanding, public_participant, public_party}
use Rattle.mmtel_focus_theorems.proofs.Lists.{commuting, telling}

module _ (known : Peer → Bool) where
  -- ---- parties

  -- two with the same public part are of one kind
  pub by_party : (P : Party → Party → Type 0) → ((l m : Leg) → public_leg known l ≡ public_leg known m → P (Invited l) (Invited m)) →
      ((l m : Leg) → public_leg known l ≡ public_leg known m → P (DialedIn l) (DialedIn m)) →
      ((l m : Leg) → public_leg known l ≡ public_leg known m → P (DialedOut l) (DialedOut m)) → (p q : Party) → public_party known p ≡ public_party known q → P p q
  by_party P invited came brought (Invited l) (Invited m) e =
      let same : public_leg known l ≡ public_leg known m = cc in
      invited l m same
  by_party P invited came brought (Invited l) (DialedIn m) e = absurd cc
  by_party P invited came brought (Invited l) (DialedOut m) e = absurd cc
  by_party P invited came brought (DialedIn l) (Invited m) e = absurd cc
  by_party P invited came brought (DialedIn l) (DialedIn m) e =
      let same : public_leg known l ≡ public_leg known m = cc in
      came l m same
  by_party P invited came brought (DialedIn l) (DialedOut m) e = absurd cc
  by_party P invited came brought (DialedOut l) (Invited m) e = absurd cc
  by_party P invited came brought (DialedOut l) (DialedIn m) e = absurd cc
  by_party P invited came brought (DialedOut l) (DialedOut m) e =
      let same : public_leg known l ≡ public_leg known m = cc in
      brought l m same

  leg_public : (p : Party) → public_leg known (leg_of p) ≡ leg_of (public_party known p)
  leg_public (Invited leg) = refl
  leg_public (DialedIn leg) = refl
  leg_public (DialedOut leg) = refl

  pub legs : (p q : Party) → public_party known p ≡ public_party known q → public_leg known (leg_of p) ≡ public_leg known (leg_of q)
  legs p q e = commuting leg_of (public_party known) (public_leg known) leg_public p q e

  seated_public : (p : Party) → is_party_connected (public_party known p) ≡ is_party_connected p
  seated_public (Invited leg) = refl
  seated_public (DialedIn leg) = refl
  seated_public (DialedOut leg) = refl

  -- ---- INVITEs to participants

  pub by_invite : (b c : Bool) (P : Option Invite → Option Invite → Type 0) → P None None →
      ((n m : ℕ) (i j : SentInvite) → n ≡ m → public_outstanding known i ≡ public_outstanding known j → P (Some (Outstanding n i)) (Some (Outstanding m j))) →
      ((u v t s a d : List ℕ) → u ≡ v → t ≡ s → blank_if b a ≡ blank_if c d → P (Some (Accepted u t a)) (Some (Accepted v s d))) → (o p : Option Invite) → public_invite known b o ≡ public_invite known c p → P o p
  by_invite b c P none waiting agreed None None e = none
  by_invite b c P none waiting agreed None (Some (Outstanding m j)) e = absurd cc
  by_invite b c P none waiting agreed None (Some (Accepted v s d)) e = absurd cc
  by_invite b c P none waiting agreed (Some (Outstanding n i)) None e = absurd cc
  by_invite b c P none waiting agreed (Some (Outstanding n i)) (Some (Outstanding m j)) e =
      let number : n ≡ m = cc in
      let same : public_outstanding known i ≡ public_outstanding known j = cc in
      waiting n m i j number same
  by_invite b c P none waiting agreed (Some (Outstanding n i)) (Some (Accepted v s d)) e = absurd cc
  by_invite b c P none waiting agreed (Some (Accepted u t a)) None e = absurd cc
  by_invite b c P none waiting agreed (Some (Accepted u t a)) (Some (Outstanding m j)) e = absurd cc
  by_invite b c P none waiting agreed (Some (Accepted u t a)) (Some (Accepted v s d)) e =
      let branch : u ≡ v = cc in
      let tag : t ≡ s = cc in
      let ack : blank_if b a ≡ blank_if c d = cc in
      agreed u v t s a d branch tag ack

  -- as an abandoned INVITE
  pub as_left : (i j : SentInvite) → public_outstanding known i ≡ public_outstanding known j → public_sent_invite known i ≡ public_sent_invite known j
  as_left i j e = ap (λ (z : SentInvite). record z { ack = blank_maybe (known z.dialogue.peer) z.ack; early = option_map (public_remote_side (known z.dialogue.peer)) z.early }) e

  -- ---- what is equal of two participants

  module _ (v w : ParticipantState) (e : public_participant known v ≡ public_participant known w) where
    pub parties : public_party known v.party ≡ public_party known w.party
    parties = ap (λ (z : ParticipantState). z.party) e

    pub dialogs : public_dialog known (dialogue_of v) ≡ public_dialog known (dialogue_of w)
    dialogs = ap (λ (l : Leg). l.dialogue) (legs v.party w.party parties)

    pub peers : (dialogue_of v).peer ≡ (dialogue_of w).peer
    peers = ap (λ (d : Dialogue). d.peer) dialogs

    pub tags : tag_of v ≡ tag_of w
    tags = ap (λ (d : Dialogue). d.local_tag) dialogs

    pub meters : (leg_of v.party).meter ≡ (leg_of w.party).meter
    meters = ap (λ (l : Leg). l.meter) (legs v.party w.party parties)

    pub numbers : v.number ≡ w.number
    numbers = ap (λ (z : ParticipantState). z.number) e

    pub bys : v.by ≡ w.by
    bys = ap (λ (z : ParticipantState). z.by) e

    pub invites : public_invite known (known (dialogue_of v).peer) v.invite ≡ public_invite known (known (dialogue_of w).peer) w.invite
    invites = ap (λ (z : ParticipantState). z.invite) e

    pub seateds : is_connected v ≡ is_connected w
    seateds = telling is_party_connected (public_party known) seated_public v.party w.party parties

    -- with other parties, whose peers are trusted as before
    pub with_parties : (p q : Party) → public_party known p ≡ public_party known q → known (leg_of p).dialogue.peer ≡ known (dialogue_of v).peer → known (leg_of q).dialogue.peer ≡ known (dialogue_of w).peer →
        public_participant known (record v { party = p }) ≡ public_participant known (record w { party = q })
    with_parties p q same f g =
        ap (λ (b : Bool). record v { party = public_party known p; invite = public_invite known b v.invite }) f
        ∙ (ap (λ (z : ParticipantState). record z { party = public_party known p }) e
        ∙ (ap (λ (z : Party). record (public_participant known w) { party = z }) same
        ∙ ap (λ (b : Bool). record w { party = public_party known q; invite = public_invite known b w.invite }) (sym g)))

    -- and with other INVITEs
    pub with_invites : (o p : Option Invite) → public_invite known (known (dialogue_of v).peer) o ≡ public_invite known (known (dialogue_of w).peer) p →
        public_participant known (record v { invite = o }) ≡ public_participant known (record w { invite = p })
    with_invites o p same =
        ap (λ (z : ParticipantState). record z { invite = public_invite known (known (dialogue_of v).peer) o }) e
        ∙ ap (λ (z : Option Invite). record (public_participant known w) { invite = z }) same

  -- the number of a participant and the branch of its INVITE are public
  pub asked_public : (branch : List ℕ) (v : ParticipantState) → participant_has_branch branch (public_participant known v) ≡ participant_has_branch branch v
  asked_public branch v = by v.invite
    where
      by : (o : Option Invite) → invite_has_branch branch (public_invite known (known (dialogue_of v).peer) o) ≡ invite_has_branch branch o
      by None = refl
      by (Some (Outstanding number i)) = refl
      by (Some (Accepted other tag ack)) = refl

  pub waitings : (b c : Bool) (o p : Option Invite) → public_invite known b o ≡ public_invite known c p → is_invite_outstanding o ≡ is_invite_outstanding p
  waitings b c o p e = by_invite b c (λ x y. is_invite_outstanding x ≡ is_invite_outstanding y) refl (λ n m i j number same. refl) (λ u v t s a d branch tag ack. refl) o p e

  pub has_outstanding_number_same : (due : ℕ) (b c : Bool) (o p : Option Invite) → public_invite known b o ≡ public_invite known c p → has_outstanding_number due o ≡ has_outstanding_number due p
  has_outstanding_number_same due b c o p e = by_invite b c (λ x y. has_outstanding_number due x ≡ has_outstanding_number due y) refl
      (λ n m i j number same. ap (λ (k : ℕ). has_outstanding_number due (Some (Outstanding k i))) number) (λ u v t s a d branch tag ack. refl) o p e

  -- ---- participants after a change

  notified_public : (p : Party) → public_party known (party_after_notify p) ≡ party_after_notify (public_party known p)
  notified_public (Invited leg) = refl
  notified_public (DialedIn leg) = refl
  notified_public (DialedOut leg) = refl

  notified_peer : (p : Party) → (leg_of (party_after_notify p)).dialogue.peer ≡ (leg_of p).dialogue.peer
  notified_peer (Invited leg) = refl
  notified_peer (DialedIn leg) = refl
  notified_peer (DialedOut leg) = refl

  pub notified-seats : (v w : ParticipantState) → public_participant known v ≡ public_participant known w → public_participant known (participant_after_notify v) ≡ public_participant known (participant_after_notify w)
  notified-seats v w e =
      with_parties v w e (party_after_notify v.party) (party_after_notify w.party) (commuting party_after_notify (public_party known) (public_party known) notified_public v.party w.party (parties v w e))
      (ap known (notified_peer v.party)) (ap known (notified_peer w.party))

  bye_public : (v : ParticipantState) → public_party known (participant_after_bye v).party ≡ (participant_after_bye (public_participant known v)).party
  bye_public v = by v.party
    where
      by : (p : Party) → public_party known (participant_after_bye (record v { party = p })).party ≡ (participant_after_bye (public_participant known (record v { party = p }))).party
      by (Invited leg) = refl
      by (DialedIn leg) = refl
      by (DialedOut leg) = refl

  bye_peer : (v : ParticipantState) → (leg_of (participant_after_bye v).party).dialogue.peer ≡ (dialogue_of v).peer
  bye_peer v = by v.party
    where
      by : (p : Party) → (leg_of (participant_after_bye (record v { party = p })).party).dialogue.peer ≡ (leg_of p).dialogue.peer
      by (Invited leg) = refl
      by (DialedIn leg) = refl
      by (DialedOut leg) = refl

  pub bye-seats : (v w : ParticipantState) → public_participant known v ≡ public_participant known w → public_participant known (participant_after_bye v) ≡ public_participant known (participant_after_bye w)
  bye-seats v w e =
      with_parties v w e (participant_after_bye v).party (participant_after_bye w).party (bye_public v ∙ (ap (λ (z : ParticipantState). (participant_after_bye z).party) e ∙ sym (bye_public w)))
      (ap known (bye_peer v)) (ap known (bye_peer w))

  received_public : (m : MessageView) (v : ParticipantState) → public_party known (participant_after_request m v).party ≡ (participant_after_request m (public_participant known v)).party
  received_public m v = by v.party
    where
      by : (p : Party) → public_party known (participant_after_request m (record v { party = p })).party ≡ (participant_after_request m (public_participant known (record v { party = p }))).party
      by (Invited leg) = refl
      by (DialedIn leg) = refl
      by (DialedOut leg) = refl

  received_peer : (m : MessageView) (v : ParticipantState) → (leg_of (participant_after_request m v).party).dialogue.peer ≡ (dialogue_of v).peer
  received_peer m v = by v.party
    where
      by : (p : Party) → (leg_of (participant_after_request m (record v { party = p })).party).dialogue.peer ≡ (leg_of p).dialogue.peer
      by (Invited leg) = refl
      by (DialedIn leg) = refl
      by (DialedOut leg) = refl

  pub received-seats : (m : MessageView) (v w : ParticipantState) → public_participant known v ≡ public_participant known w →
      public_participant known (participant_after_request m v) ≡ public_participant known (participant_after_request m w)
  received-seats m v w e =
      with_parties v w e (participant_after_request m v).party (participant_after_request m w).party
      (received_public m v ∙ (ap (λ (z : ParticipantState). (participant_after_request m z).party) e ∙ sym (received_public m w))) (ap known (received_peer m v)) (ap known (received_peer m w))

  -- the last CSeq number is public
  last_same : (p q : Party) → public_party known p ≡ public_party known q → (leg_of p).dialogue.remote_cseq ≡ (leg_of q).dialogue.remote_cseq
  last_same p q e = ap (λ (l : Leg). l.dialogue.remote_cseq) (legs p q e)

  pub with_pending_ack-seats : (n : ℕ) (v w : ParticipantState) → public_participant known v ≡ public_participant known w →
      public_participant known (with_pending_ack n v) ≡ public_participant known (with_pending_ack n w)
  with_pending_ack-seats n v w e =
      ap (λ (z : ParticipantState). record z { pending_ack = Some (record { number = n; cseq = (leg_of v.party).dialogue.remote_cseq }) }) e
      ∙ ap (λ (c : Option ℕ). record (public_participant known w) { pending_ack = Some (record { number = n; cseq = c }) }) (last_same v.party w.party (parties v w e))

  pub acknowledged-seats : (v w : ParticipantState) → public_participant known v ≡ public_participant known w →
      public_participant known (record v { pending_ack = None }) ≡ public_participant known (record w { pending_ack = None })
  acknowledged-seats v w e = ap (λ (z : ParticipantState). record z { pending_ack = None }) e

  agreed_same : (u v t s a d : List ℕ) → u ≡ v → t ≡ s → a ≡ d → Some (Accepted u t a) ≡ Some (Accepted v s d)
  agreed_same u v t s a d branch tag ack = rw (branch, tag, ack) refl

  pub invite_with_provisional-invites : (key : TKey) (b c : Bool) (o p : Option Invite) → public_invite known b o ≡ public_invite known c p →
      public_invite known b (invite_with_provisional key o) ≡ public_invite known c (invite_with_provisional key p)
  invite_with_provisional-invites key b c o p e =
      by_invite b c (λ x y. public_invite known b (invite_with_provisional key x) ≡ public_invite known c (invite_with_provisional key y)) refl
      (λ n m i j number same. ap (λ (k : ℕ). Some (Outstanding k (public_outstanding known (with_provisional key i)))) number ∙ ap (λ (z : SentInvite). Some (Outstanding m (with_provisional key z))) same)
      (λ u v t s a d branch tag ack. agreed_same u v t s (blank_if b a) (blank_if c d) branch tag ack) o p e

  cancelled_public : (i : SentInvite) → public_outstanding known (invite_after_cancel i) ≡ invite_after_cancel (public_outstanding known i)
  cancelled_public i = by i.provisional i.cancelled
    where
      by : (b c : Bool) → public_outstanding known (invite_after_cancel (record i { provisional = b; cancelled = c })) ≡ invite_after_cancel (public_outstanding known (record i { provisional = b; cancelled = c }))
      by true true = refl
      by true false = refl
      by false true = refl
      by false false = refl

  pub cancelled-invites : (b c : Bool) (o p : Option Invite) → public_invite known b o ≡ public_invite known c p → public_invite known b (invite_after_due_cancel o) ≡ public_invite known c (invite_after_due_cancel p)
  cancelled-invites b c o p e =
      by_invite b c (λ x y. public_invite known b (invite_after_due_cancel x) ≡ public_invite known c (invite_after_due_cancel y)) refl
      (λ n m i j number same. ap (λ (k : ℕ). Some (Outstanding k (public_outstanding known (invite_after_cancel i)))) number
      ∙ ap (λ (z : SentInvite). Some (Outstanding m z)) (commuting invite_after_cancel (public_outstanding known) (public_outstanding known) cancelled_public i j same))
      (λ u v t s a d branch tag ack. agreed_same u v t s (blank_if b a) (blank_if c d) branch tag ack) o p e

  -- ---- the ACK that is kept

  acks : (sip : Addr) (d e : Dialogue) (branch : List ℕ) → public_dialog known d ≡ public_dialog known e → blank_if (known d.peer) (ack_text sip d branch) ≡ blank_if (known e.peer) (ack_text sip e branch)
  acks sip d e branch same =
      public_ack d ∙ (ap (λ (z : Dialogue). blank_if (known z.peer) (ack_text sip z branch)) same ∙ sym (public_ack e))
    where
      public_ack : (d : Dialogue) → blank_if (known d.peer) (ack_text sip d branch) ≡ blank_if (known d.peer) (ack_text sip (public_dialog known d) branch)
      public_ack d = bytes_if (known d.peer) (ack_text sip d branch) (ack_text sip (public_dialog known d) branch) (λ is. ap (λ (z : Dialogue). ack_text sip z branch) (sym (untouched (known d.peer) d is)))

  pub agreed-invites : (sip : Addr) (d e : Dialogue) (tag branch : List ℕ) (o p : Option Invite) → public_dialog known d ≡ public_dialog known e →
      public_invite known (known d.peer) o ≡ public_invite known (known e.peer) p →
      public_invite known (known d.peer) (accepted_invite tag (ack_text sip d branch) o) ≡ public_invite known (known e.peer) (accepted_invite tag (ack_text sip e branch) p)
  agreed-invites sip d e tag branch o p same eq =
      by_invite (known d.peer) (known e.peer)
      (λ x y. public_invite known (known d.peer) (accepted_invite tag (ack_text sip d branch) x) ≡ public_invite known (known e.peer) (accepted_invite tag (ack_text sip e branch) y)) refl
      (λ n m i j number w. agreed_same i.branch j.branch tag tag (blank_if (known d.peer) (ack_text sip d branch)) (blank_if (known e.peer) (ack_text sip e branch))
      (ap (λ (z : SentInvite). z.branch) w) refl (acks sip d e branch same))
      (λ u v t s a c one two ack. agreed_same u v t s (blank_if (known d.peer) a) (blank_if (known e.peer) c) one two ack) o p eq

  -- ---- abandoned INVITEs

  abbrev within_of : (had_bye : Bool) → Leg → SentInvite → AbandonedInvite
  within_of had_bye l i = record {
    invite = record i { dialogue = l.dialogue; ack = blank_maybe (known l.dialogue.peer) i.ack; forks = ended_dialogs had_bye l.dialogue; early = option_map (public_remote_side (known l.dialogue.peer)) i.early };
    in_dialog = true;
  }

  left_within : (had_bye : Bool) (l m : Leg) (i j : SentInvite) → public_leg known l ≡ public_leg known m → public_outstanding known i ≡ public_outstanding known j →
      public_abandoned known (abandoned_in_dialog had_bye l i) ≡ public_abandoned known (abandoned_in_dialog had_bye m j)
  left_within had_bye l m i j same w =
      public_within l i ∙ (ap (λ (z : Leg). within_of had_bye z (public_outstanding known i)) same ∙ (ap (λ (z : SentInvite). within_of had_bye (public_leg known m) z) w ∙ sym (public_within m j)))
    where
      ended : (b : Bool) (d : Dialogue) → map (public_dialog known) (ended_dialogs b d) ≡ ended_dialogs b (public_dialog known d)
      ended true d = refl
      ended false d = refl

      public_within : (l : Leg) (i : SentInvite) → public_abandoned known (abandoned_in_dialog had_bye l i) ≡ within_of had_bye (public_leg known l) (public_outstanding known i)
      public_within l i = ap (λ (f : List Dialogue). record {
        invite = record i { dialogue = public_dialog known l.dialogue; ack = blank_maybe (known l.dialogue.peer) i.ack; forks = f; early = option_map (public_remote_side (known l.dialogue.peer)) i.early };
        in_dialog = true;
      }) (ended had_bye l.dialogue)

  pub left-one : (had_bye : Bool) (p q : Party) (i j : SentInvite) → public_party known p ≡ public_party known q → public_outstanding known i ≡ public_outstanding known j →
      public_abandoned known (abandoned_of_party had_bye p i) ≡ public_abandoned known (abandoned_of_party had_bye q j)
  left-one had_bye p q i j e w =
      by_party (λ x y. public_abandoned known (abandoned_of_party had_bye x i) ≡ public_abandoned known (abandoned_of_party had_bye y j))
      (λ l m same. ap (λ (z : SentInvite). record { invite = z; in_dialog = false }) (as_left i j w))
      (λ l m same. left_within had_bye l m i j same w) (λ l m same. left_within had_bye l m i j same w) p q e

  pub left-all : (had_bye : Bool) (b c : Bool) (p q : Party) (o r : Option Invite) → public_party known p ≡ public_party known q → public_invite known b o ≡ public_invite known c r →
      map (public_abandoned known) (abandoned_of_invite had_bye p o) ≡ map (public_abandoned known) (abandoned_of_invite had_bye q r)
  left-all had_bye b c p q o r e same =
      by_invite b c (λ x y. map (public_abandoned known) (abandoned_of_invite had_bye p x) ≡ map (public_abandoned known) (abandoned_of_invite had_bye q y)) refl
      (λ n m i j number w. ap (λ (z : AbandonedInvite). z ∷ []) (left-one had_bye p q i j e w)) (λ u v t s a d branch tag ack. refl) o r same

  -- ---- conferences

  pub seats-set : (r s : Conference) (xs ys : List ParticipantState) → public_conference known r ≡ public_conference known s → map (public_participant known) xs ≡ map (public_participant known) ys →
      public_conference known (record r { participants = xs }) ≡ public_conference known (record s { participants = ys })
  seats-set r s xs ys e same =
      ap (λ (z : Conference). record z { participants = map (public_participant known) xs }) e ∙ ap (λ (l : List ParticipantState). record (public_conference known s) { participants = l }) same

  pub full_public : (room : Conference) → is_full room ≡ is_full (public_conference known room)
  full_public room = ap (nat_le max_participants) (sym (long (public_participant known) room.participants))

  pub full_rooms : (u v : Conference) → public_conference known u ≡ public_conference known v → is_full u ≡ is_full v
  full_rooms u v e = full_public u ∙ (ap is_full e ∙ sym (full_public v))
