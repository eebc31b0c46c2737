-- The public part of a public part is that part.
use Rattle.std.proofs.Common.{◌≡◌, ℕ, Bool, true, false, ◌&&◌, List, [], ◌∷◌, Option, Some, None, refl, ap, ◌∙◌, map, cond}
use Rattle.std.specs.Option.{option_map, option_or}
use Rattle.mmtel_compose.specs.ReceivedMessages.{MessageView}
use Rattle.mmtel_output.specs.SentInvites.{with_early, with_provisional}
use Rattle.mmtel_output.specs.declared.sent_invites.SentInvite.{SentInvite}
use Rattle.mmtel_output.specs.declared.sent_invites.AbandonedInvite.{AbandonedInvite}
use Rattle.mmtel_history.proofs.ListTheorems.{masked_once}
use Rattle.mmtel_history.specs.HistoryInfo.{masked_list}
use Rattle.mmtel_history.specs.declared.entries.Entry.{Entry}
use Rattle.mmtel_leg.specs.Legs.{Leg, with_dialogue}
use Rattle.mmtel_leg.specs.declared.dialogues.Dialogue.{Dialogue}
use Rattle.mmtel_leg.specs.declared.legs.Released.{Released}
use Rattle.mmtel_leg.specs.declared.legs.Released.TheVariants as released
use Rattle.mmtel_leg.specs.declared.remotes.Remote.{Remote}
use Rattle.mmtel_transaction.specs.declared.words.TKey.{TKey}
use Rattle.mmtel_message.specs.Message.{Line}
use Rattle.mmtel_rules.specs.declared.values.Identities2.{Identities2}
use Rattle.mmtel_transaction.specs.Equivalence.{blank_if, blank_maybe}
use Rattle.mmtel_trust.proofs.Masked.{hidden_once, lines_again}
use Rattle.mmtel_trust.specs.ParsedMessage.{ParsedMessage}
use Rattle.mmtel_trust.specs.PrivateFields.{AllEntries, Entries, MarkedEntries, NoEntries, PrivateFields, hidden_entries, hidden_uri, masked_lines, private_fields_in}
use Rattle.mmtel_types.specs.declared.numbers.Peer.{Peer}
use Rattle.mmtel_types.specs.declared.sides.Side.{Side}
use Rattle.mmtel_types.specs.declared.sides.Side.TheVariants.{Caller, Callee}
use Rattle.mmtel_call_services.specs.CopiedHeaders.{masks_all}
use Rattle.mmtel_call_services.specs.declared.openings.Opening.{Opening}
use Rattle.mmtel_call.specs.AttemptLeg.{AttemptLegView}
use Rattle.mmtel_call.specs.declared.calls.Attempt.{Attempt}
use Rattle.mmtel_call.specs.declared.calls.Call.{Call}
use Rattle.mmtel_call.specs.declared.calls.RelayedTransaction.{RelayedTransaction}
use Rattle.mmtel_call.specs.declared.calls.EstablishedLegs.{EstablishedLegs}
use Rattle.mmtel_call.specs.declared.calls.Phase.{Phase}
use Rattle.mmtel_call.specs.declared.calls.Reinvite.{Reinvite}
use Rattle.mmtel_call.specs.declared.calls.Stage.{Stage}
use Rattle.mmtel_call.specs.declared.calls.AnsweredInvite.{AnsweredInvite}
use Rattle.mmtel_call.specs.declared.calls.OfferedAttempt.{OfferedAttempt}
use Rattle.mmtel_call.specs.declared.calls.Phase.TheVariants.{Detached, Established, Offered, Over}
use Rattle.mmtel_call.specs.declared.calls.Stage.TheVariants.{Answered, Departing, Reinviting, Stable}
use Rattle.mmtel_call_theorems.specs.Noninterference.PublicParts.{PublicPartsAreIdempotent}
use Rattle.mmtel_call_theorems.specs.Noninterference.PublicCall.{all_fields, public_abandoned, public_answered, public_attempt, public_call, public_callee, public_dialog}
use Rattle.mmtel_call_theorems.specs.Noninterference.PublicCall.{public_dialog_by, public_established, public_leg, public_offered, public_opening, public_phase, public_reinvite}
use Rattle.mmtel_call_theorems.specs.Noninterference.PublicCall.{public_relayed, public_released, public_remote, public_remote_side, public_request, public_sent_invite, public_stage}
use Rattle.mmtel_call_theorems.specs.Noninterference.Roles.{Role, hidden_by, opening_role, private_fields, without_private}

-- ---- messages

entries_again : (b : Bool) (es : Entries) (h : List Entry) → cond b (hidden_entries es (cond b (hidden_entries es h) h)) (cond b (hidden_entries es h) h) ≡ cond b (hidden_entries es h) h
entries_again false es h = refl
entries_again true NoEntries h = refl
entries_again true MarkedEntries h = masked_once false h
entries_again true AllEntries h = masked_once true h

uri_again : (b : Bool) (u : Option (List ℕ)) → hidden_uri b (hidden_uri b u) ≡ hidden_uri b u
uri_again false u = refl
uri_again true None = refl
uri_again true (Some v) = refl

private_fields_again : (b : Bool) (p : PrivateFields) (ls : List Line) → cond b (masked_lines p (cond b (masked_lines p ls) ls)) (cond b (masked_lines p ls) ls) ≡ cond b (masked_lines p ls) ls
private_fields_again false p ls = refl
private_fields_again true p ls = lines_again p ls

with_private_fields : ParsedMessage → List Entry → Option (List ℕ) → List Line → ParsedMessage
with_private_fields m h u ls = record m { history = h; redirect = u; lines = ls }

-- whatever the places are, if they are the same the second time
pub hidden_again : (b : Bool) (p : PrivateFields) (m : ParsedMessage) → hidden_by b p (hidden_by b p m) ≡ hidden_by b p m
unfolding with_private_fields
hidden_again b p m =
    let h : List Entry = cond b (hidden_entries p.history m.history) m.history in
    let u : Option (List ℕ) = hidden_uri (b && p.redirect) m.redirect in
    let ls : List Line = cond b (masked_lines (private_fields_in m.start p) m.lines) m.lines in
    let again : List Line = cond b (masked_lines (private_fields_in m.start p) ls) ls in
    ap (λ (x : List Entry). with_private_fields m x (hidden_uri (b && p.redirect) u) again) (entries_again b p.history m.history)
    ∙ (ap (λ (x : Option (List ℕ)). with_private_fields m h x again) (uri_again (b && p.redirect) m.redirect)
    ∙ ap (λ (x : List Line). with_private_fields m h u x) (private_fields_again b (private_fields_in m.start p) m.lines))

pub remote_side_again : (role : Role) (m : MessageView) → without_private role (without_private role m) ≡ without_private role m
remote_side_again role m = ap (λ (x : ParsedMessage). record m { parsed = x }) (hidden_again m.parsed.trusted (private_fields role m.parsed) m.parsed)

pub request_again : (m : MessageView) → public_request (public_request m) ≡ public_request m
request_again m = ap (λ (x : ParsedMessage). record m { parsed = x }) (hidden_again m.parsed.trusted all_fields m.parsed)

-- ---- dialogs

pub remote_again : (b : Bool) (s : Side) (v : List ℕ) → public_remote b s (public_remote b s v) ≡ public_remote b s v
remote_again true Caller v = hidden_once v
remote_again false Caller v = refl
remote_again b Callee v = refl

pub text_again : (b : Bool) (v : List ℕ) → blank_if b (blank_if b v) ≡ blank_if b v
text_again true v = refl
text_again false v = refl

maybe_again : (b : Bool) (o : Option (List ℕ)) → blank_maybe b (blank_maybe b o) ≡ blank_maybe b o
maybe_again b None = refl
maybe_again b (Some v) = ap (λ (x : List ℕ). Some x) (text_again b v)

-- ---- the remote side of an early dialog

pub early_again : (b : Bool) (o : Option Remote) → option_map (public_remote_side b) (option_map (public_remote_side b) o) ≡ option_map (public_remote_side b) o
early_again b None = refl
early_again b (Some r) = ap (λ (v : List ℕ). Some (record r { target = v })) (text_again b r.target)

-- of two the first one is kept
early_first : (b : Bool) (o p q : Option Remote) → option_map (public_remote_side b) p ≡ option_map (public_remote_side b) q →
    option_map (public_remote_side b) (option_or (option_map (public_remote_side b) o) p) ≡ option_map (public_remote_side b) (option_or o q)
early_first b None p q e = e
early_first b (Some r) p q e = early_again b (Some r)

pub map_again : {A : Type 0} (f : A → A) → ((x : A) → f (f x) ≡ f x) → (xs : List A) → map f (map f xs) ≡ map f xs
map_again f once [] = refl
map_again f once (x ∷ xs) = rw (once x, map_again f once xs) refl

pub dialog_by_again : (b : Bool) (d : Dialogue) → public_dialog_by b (public_dialog_by b d) ≡ public_dialog_by b d
dialog_by_again b d = rw (remote_again b d.side d.remote, text_again b d.target) refl

module _ (t : Peer → Bool) where
  pub dialog_again : (d : Dialogue) → public_dialog t (public_dialog t d) ≡ public_dialog t d
  dialog_again d = dialog_by_again (t d.peer) d

  pub leg_again : (l : Leg) → public_leg t (public_leg t l) ≡ public_leg t l
  leg_again l = ap (with_dialogue l) (dialog_again l.dialogue)

  pub released_again : (r : Released) → public_released t (public_released t r) ≡ public_released t r
  released_again (released.Caller leg) = ap (λ (l : Leg). released.Caller l) (leg_again leg)
  released_again (released.Callee leg) = ap (λ (l : Leg). released.Callee l) (leg_again leg)

  pub invitation_again : (i : SentInvite) → public_sent_invite t (public_sent_invite t i) ≡ public_sent_invite t i
  invitation_again i =
      let b : Bool = t i.dialogue.peer in
      let twice : Option Remote = option_map (public_remote_side b) (option_map (public_remote_side b) i.early) in
      ap (λ (d : Dialogue). record i { dialogue = d; ack = blank_maybe b (blank_maybe b i.ack); forks = map (public_dialog t) (map (public_dialog t) i.forks); early = twice }) (dialog_again i.dialogue)
      ∙ (ap (λ (o : Option (List ℕ)). record (public_sent_invite t i) { ack = o; forks = map (public_dialog t) (map (public_dialog t) i.forks); early = twice }) (maybe_again b i.ack)
      ∙ (ap (λ (ds : List Dialogue). record (public_sent_invite t i) { forks = ds; early = twice }) (map_again (public_dialog t) dialog_again i.forks)
      ∙ ap (λ (o : Option Remote). record (public_sent_invite t i) { early = o }) (early_again b i.early)))

  -- an INVITE after a response in this client transaction, with this early dialog
  pub invite_again : (key : TKey) (i : SentInvite) (p q : Option Remote) → option_map (public_remote_side (t i.dialogue.peer)) p ≡ option_map (public_remote_side (t i.dialogue.peer)) q →
      public_sent_invite t (with_early p (with_provisional key (public_sent_invite t i))) ≡ public_sent_invite t (with_early q (with_provisional key i))
  invite_again key i p q e =
      let b : Bool = t i.dialogue.peer in
      ap (λ (o : Option Remote). record (public_sent_invite t (public_sent_invite t (with_provisional key i))) { early = o }) (early_first b i.early p q e)
      ∙ ap (λ (j : SentInvite). record j { early = option_map (public_remote_side b) (option_or i.early q) }) (invitation_again (with_provisional key i))

  pub abandoned_again : (l : AbandonedInvite) → public_abandoned t (public_abandoned t l) ≡ public_abandoned t l
  abandoned_again l = ap (λ (i : SentInvite). record l { invite = i }) (invitation_again l.invite)

  pub answered_again : (x : AnsweredInvite) → public_answered t (public_answered t x) ≡ public_answered t x
  answered_again x = ap (λ (i : SentInvite). record x { invite = i }) (invitation_again x.invite)

  pub reinvite_again : (q : Reinvite) → public_reinvite t (public_reinvite t q) ≡ public_reinvite t q
  reinvite_again q =
      ap (λ (m : MessageView). record q { request = m; invite = public_sent_invite t (public_sent_invite t q.invite) }) (request_again q.request)
      ∙ ap (λ (i : SentInvite). record (public_reinvite t q) { invite = i }) (invitation_again q.invite)

  pub relayed_again : (flight : RelayedTransaction) → public_relayed t (public_relayed t flight) ≡ public_relayed t flight
  relayed_again flight = ap (λ (q : Reinvite). record flight { exchange = q }) (reinvite_again flight.exchange)

  -- ---- phases

  pub tried_again : (x : AttemptLegView) → public_callee t (public_callee t x) ≡ public_callee t x
  tried_again x = ap (λ (l : Leg). record x { leg = l }) (leg_again x.leg)

  pub attempt_again : (x : Attempt) → public_attempt t (public_attempt t x) ≡ public_attempt t x
  attempt_again x = ap (λ (i : SentInvite). record x { invite = i }) (invitation_again x.invite)

  abbrev offered_of : Leg → AttemptLegView → Attempt → OfferedAttempt
  offered_of caller callee attempt = record { caller = caller; callee = callee; attempt = attempt }

  pub offered_again : (x : OfferedAttempt) → public_offered t (public_offered t x) ≡ public_offered t x
  offered_again x =
      ap (λ (l : Leg). offered_of l (public_callee t (public_callee t x.callee)) (public_attempt t (public_attempt t x.attempt))) (leg_again x.caller)
      ∙ (ap (λ (y : AttemptLegView). offered_of (public_leg t x.caller) y (public_attempt t (public_attempt t x.attempt))) (tried_again x.callee)
      ∙ ap (λ (y : Attempt). offered_of (public_leg t x.caller) (public_callee t x.callee) y) (attempt_again x.attempt))

  pub established_again : (x : EstablishedLegs) → public_established t (public_established t x) ≡ public_established t x
  established_again x =
      ap (λ (l : Leg). record x { caller = l; callee = public_leg t (public_leg t x.callee) }) (leg_again x.caller)
      ∙ ap (λ (l : Leg). record x { caller = public_leg t x.caller; callee = l }) (leg_again x.callee)

  pub stage_again : (s : Stage) → public_stage t (public_stage t s) ≡ public_stage t s
  stage_again (Answered side success) = refl
  stage_again (Departing side success) = refl
  stage_again Stable = refl
  stage_again (Reinviting side q) = ap (λ (x : Reinvite). Reinviting side x) (reinvite_again q)

  pub phase_again : (p : Phase) → public_phase t (public_phase t p) ≡ public_phase t p
  phase_again (Offered x) = ap (λ (y : OfferedAttempt). Offered y) (offered_again x)
  phase_again (Established x stage) =
      ap (λ (y : EstablishedLegs). Established y (public_stage t (public_stage t stage))) (established_again x) ∙ ap (λ (s : Stage). Established (public_established t x) s) (stage_again stage)
  phase_again (Detached detached) = ap (λ (r : Released). Detached (record detached { remaining = r })) (released_again detached.remaining)
  phase_again (Over cause) = refl

  -- ---- calls

  abbrev pub call_with : Call → Opening → List Entry → List RelayedTransaction → List AbandonedInvite → List AnsweredInvite → Phase → Call
  call_with c o h flights abandoned taken phase =
      record c { opening = o; diversions = record c.diversions { history = h }; relayed = flights; abandoned = abandoned; answered_invites = taken; phase = phase }

  pub call_once : (one other : Identities2) (c : Call) → public_call t one (public_call t other c) ≡ public_call t one c
  call_once one other c =
      let o : Opening = public_opening one c.opening in
      let all : Bool = masks_all c.opening in
      let h : List Entry = masked_list all c.diversions.history in
      let fs : List RelayedTransaction = map (public_relayed t) c.relayed in
      let ls : List AbandonedInvite = map (public_abandoned t) c.abandoned in
      let ts : List AnsweredInvite = map (public_answered t) c.answered_invites in
      let p : Phase = public_phase t c.phase in
      ap (λ (m : MessageView). call_with c (record o { invite = m }) (masked_list all h) (map (public_relayed t) fs) (map (public_abandoned t) ls) (map (public_answered t) ts) (public_phase t p))
      (remote_side_again (opening_role c.opening.restricted) c.opening.invite)
      ∙ (ap (λ (x : List Entry). call_with c o x (map (public_relayed t) fs) (map (public_abandoned t) ls) (map (public_answered t) ts) (public_phase t p)) (masked_once all c.diversions.history)
      ∙ (ap (λ (x : List RelayedTransaction). call_with c o h x (map (public_abandoned t) ls) (map (public_answered t) ts) (public_phase t p)) (map_again (public_relayed t) relayed_again c.relayed)
      ∙ (ap (λ (x : List AbandonedInvite). call_with c o h fs x (map (public_answered t) ts) (public_phase t p)) (map_again (public_abandoned t) abandoned_again c.abandoned)
      ∙ (ap (λ (x : List AnsweredInvite). call_with c o h fs ls x (public_phase t p)) (map_again (public_answered t) answered_again c.answered_invites)
      ∙ ap (λ (x : Phase). call_with c o h fs ls ts x) (phase_again c.phase)))))

pub call_again : PublicPartsAreIdempotent
call_again t one other c = call_once t one other c
