-- PRACK and UPDATE are relayed by public parts alone.
use Rattle.std.proofs.Common.{◌≡◌, ℕ, Bool, false, List, [], ◌∷◌, ◌++◌, refl, ap, sym, ◌∙◌, map, codes, subst, Option, Some, None}
use Rattle.std.proofs.lemmas.List.{map-append}
use Rattle.std.specs.List.{find}
use Rattle.std.specs.Option.{option_map}
use Rattle.mmtel_compose.specs.Responses.{retry_after_lines}
use Rattle.mmtel_compose.specs.ReceivedMessages.{MessageView}
use Rattle.mmtel_output.specs.Outputs.{token, with_emit}
use Rattle.mmtel_output.specs.declared.outputs.StepOutput.{StepOutput}
use Rattle.mmtel_leg.specs.Legs.{Leg}
use Rattle.mmtel_leg.specs.declared.dialogues.Dialogue.{Dialogue}
use Rattle.mmtel_message.specs.Message.{Line}
use Rattle.mmtel_reliable.specs.Acks.{after_ack}
use Rattle.mmtel_reliable.specs.declared.racks.Rack.{Rack}
use Rattle.mmtel_rules.specs.declared.values.Identities2.{Identities2}
use Rattle.mmtel_transaction.specs.declared.words.Emit.TheVariants as emit
use Rattle.mmtel_transaction.specs.declared.words.TKey.{TKey}
use Rattle.mmtel_types.specs.declared.numbers.Peer.{Peer}
use Rattle.mmtel_types.specs.declared.sides.Side.{Side}
use Rattle.mmtel_types.specs.declared.sides.Side.TheVariants.{Caller, Callee}
use Rattle.mmtel_call_services.specs.Reliable.{rack_line}
use Rattle.mmtel_call_services.specs.Requests.{is_same_side}
use Rattle.mmtel_call_services.specs.CopiedHeaders.{copied_lines, masks_all}
use Rattle.mmtel_call_services.specs.CallConfig.{CallConfigView, trusts}
use Rattle.mmtel_call_services.specs.declared.openings.Opening.{Opening}
use Rattle.mmtel_call_services.specs.declared.openings.Service.{Service}
use Rattle.mmtel_call.specs.Answered.{at_stage, with_leg}
use Rattle.mmtel_call.specs.Closing.{StepResult}
use Rattle.mmtel_call.specs.RelayedTransactions.{invite_sent_in, is_updating, leg_after_request, relayed_transaction_of, updating_side, with_settled, with_transaction}
use Rattle.mmtel_call.specs.Reliable.{after_prack_across, attempt_after_early_request, named_rseq, on_named_prack, on_prack, on_rack, on_refused_prack, rack_in, status_of_refusal}
use Rattle.mmtel_call.specs.Requests.{with_response_to}
use Rattle.mmtel_call.specs.Sending.{with_status_to}
use Rattle.mmtel_call.specs.Updates.{accepts_updates, after_update_relay, attempt_after_update, on_early_retry, on_early_update, on_glare, on_stable_update, on_update, on_update_at, unless_updating}
use Rattle.mmtel_call.specs.declared.calls.Call.{Call}
use Rattle.mmtel_call.specs.declared.calls.RelayedTransaction.{RelayedTransaction}
use Rattle.mmtel_call.specs.declared.calls.RelayedKind.{RelayedKind}
use Rattle.mmtel_call.specs.declared.calls.RelayedKind.TheVariants.{Prack, Update}
use Rattle.mmtel_call.specs.declared.calls.EstablishedLegs.{EstablishedLegs}
use Rattle.mmtel_call.specs.declared.calls.Phase.TheVariants.{Offered}
use Rattle.mmtel_call.specs.declared.calls.Stage.{Stage}
use Rattle.mmtel_call.specs.declared.calls.Stage.TheVariants.{Answered, Departing, Reinviting, Stable}
use Rattle.mmtel_call.specs.declared.calls.OfferedAttempt.{OfferedAttempt}
use Rattle.mmtel_call_theorems.specs.Noninterference.PublicCall.{nobody, public_call, public_dialog, public_diverted, public_established, public_leg}
use Rattle.mmtel_call_theorems.specs.Noninterference.PublicCall.{public_offered, public_opening, public_part, public_relayed, public_request, public_stage}
use Rattle.mmtel_call_theorems.specs.Noninterference.Premises.{Fits, IsFromOwnPeer}
use Rattle.mmtel_call_theorems.specs.Noninterference.Roles.{Role, private_fields, without_private}
use Rattle.mmtel_call_theorems.specs.Noninterference.Observations.{EquivalentOutputs, EquivalentSteps, Trust, trust_of}
use Rattle.mmtel_call_theorems.proofs.Noninterference.Masks.{request_absorbs}
use Rattle.mmtel_call_theorems.proofs.Noninterference.Numbers.{both_foreign, line_foreign}
use Rattle.mmtel_call_theorems.proofs.Noninterference.Idempotence.{call_once, dialog_again, map_again, relayed_again}
use Rattle.mmtel_call_theorems.proofs.Noninterference.Places.{first_found}
use Rattle.mmtel_call_theorems.proofs.Noninterference.Transitions.{on-equivalent, own-answer, own-reply, step-if}
use Rattle.mmtel_call_theorems.proofs.Noninterference.Sent.{Heads, asked_for-equivalent, emitted-equivalent, if-equivalent}
use Rattle.mmtel_call_theorems.proofs.Noninterference.CopiedLines.{copied-foreign, copied-same}

module _ (heads : Heads) (config : CallConfigView) (keys : TKey → Bool) where
  abbrev T : Trust
  T = trust_of config keys

  abbrev known : Peer → Bool
  known = λ peer. trusts config peer

  -- ---- a request that was relayed

  pub token_same : (one other : StepOutput) → EquivalentOutputs T one other → token one ≡ token other
  token_same one other a = rw a.tokens refl

  abbrev relayed_with : RelayedKind → Side → TKey → (request : MessageView) → Dialogue → (branch : List ℕ) → RelayedTransaction
  relayed_with kind side key request d branch = record { kind = kind; side = side; exchange = record { key = key; request = request; invite = invite_sent_in d branch; cancel_due = false } }

  relayed_same : (kind : RelayedKind) (side : Side) (key : TKey) (role : Role) (m : MessageView) (leg : Leg) (one other : StepOutput) → EquivalentOutputs T one other →
      public_relayed known (relayed_transaction_of kind side key (without_private role m) (public_leg known leg) one) ≡ public_relayed known (relayed_transaction_of kind side key m leg other)
  relayed_same kind side key role m leg one other a =
      let d : Dialogue = leg.dialogue in
      ap (λ (r : MessageView). relayed_with kind side key r (public_dialog known (public_dialog known d)) (token one)) (request_absorbs role m)
      ∙ (ap (λ (e : Dialogue). relayed_with kind side key (public_request m) e (token one)) (dialog_again known d)
      ∙ ap (λ (b : List ℕ). relayed_with kind side key (public_request m) (public_dialog known d) b) (token_same one other a))

  more : (fs : List RelayedTransaction) (one other : RelayedTransaction) → public_relayed known one ≡ public_relayed known other →
      map (public_relayed known) (map (public_relayed known) fs ++ one ∷ []) ≡ map (public_relayed known) (fs ++ other ∷ [])
  more fs one other e =
      map-append (public_relayed known) (map (public_relayed known) fs) (one ∷ [])
      ∙ (ap (λ (l : List RelayedTransaction). l ++ public_relayed known one ∷ []) (map_again (public_relayed known) (relayed_again known) fs)
      ∙ (ap (λ (x : RelayedTransaction). map (public_relayed known) fs ++ x ∷ []) e
      ∙ sym (map-append (public_relayed known) fs (other ∷ []))))

  -- a call in which it is in flight
  flown : (who : Identities2) (c : Call) (one other : RelayedTransaction) → public_relayed known one ≡ public_relayed known other →
      public_part known (with_transaction one (public_call known who c)) ≡ public_part known (with_transaction other c)
  flown who c one other e =
      ap (λ (fs : List RelayedTransaction). record (public_part known (public_call known who c)) { relayed = fs }) (more c.relayed one other e)
      ∙ ap (λ (z : Call). record z { relayed = map (public_relayed known) (c.relayed ++ other ∷ []) }) (call_once known nobody who c)

  -- ---- PRACK

  pub settled-equivalent : (who : Identities2) (own : Option ℕ) (c : Call) (one other : StepOutput) → EquivalentOutputs T one other →
      EquivalentOutputs T (with_settled config own (public_call known who c) one) (with_settled config own c other)
  settled-equivalent who own c one other a =
      if-equivalent T config.reliable (with_emit (emit.Settled c.opening.key own) one) one (with_emit (emit.Settled c.opening.key own) other) other
      (emitted-equivalent T (emit.Settled c.opening.key own) (emit.Settled c.opening.key own) one other refl a) a

  pub prack_refused-equivalent : (who : Identities2) (key : TKey) (role : Role) (m : MessageView) (c : Call) (one other : StepOutput) → IsFromOwnPeer T key m → EquivalentOutputs T one other →
      EquivalentSteps T (on_refused_prack config key (without_private role m) (public_call known who c) one) (on_refused_prack config key m c other)
  prack_refused-equivalent who key role m c one other asked a =
      on-equivalent heads config keys who c (with_status_to config (public_call known who c) key (without_private role m) (status_of_refusal (rack_in m)) one)
      (with_status_to config c key m (status_of_refusal (rack_in m)) other)
      (own-reply heads config keys c key (private_fields role m.parsed) m (status_of_refusal (rack_in m)) one other asked a)

  across-equivalent : (who : Identities2) (x : OfferedAttempt) (key : TKey) (role : Role) (m : MessageView) (rack : Rack) (answer : ℕ) (c : Call) (one other : StepOutput) →
      Fits c.opening x.attempt.service Caller m role → EquivalentOutputs T one other →
      EquivalentSteps T (after_prack_across config (public_offered known x) key (without_private role m) rack answer (public_call known who c) one) (after_prack_across config x key m rack answer c other)
  across-equivalent who x key role m rack answer c one other fits a =
      let leg : Leg = x.callee.leg in
      let peer : Peer = leg.dialogue.peer in
      let service : Option Service = x.attempt.service in
      let n : MessageView = without_private role m in
      let o : Opening = public_opening who c.opening in
      let v = public_diverted (masks_all c.opening) c.diversions in
      let acks : List Line = rack_line answer x.attempt.invite.number in
      let hidden : List Line = copied_lines config o v service Caller peer n in
      let whole : List Line = copied_lines config c.opening c.diversions service Caller peer m in
      record {
        call = flown who (record c { acks = after_ack rack c.acks; phase = Offered (attempt_after_early_request (codes "PRACK") x) })
            (relayed_transaction_of Prack Caller key n (leg_after_request (codes "PRACK") (public_leg known leg)) one) (relayed_transaction_of Prack Caller key m (leg_after_request (codes "PRACK") leg) other)
            (relayed_same Prack Caller key role m (leg_after_request (codes "PRACK") leg) one other a);
        output = asked_for-equivalent heads T config.sip (codes "PRACK") leg.dialogue (hidden ++ acks) (whole ++ acks) m.parsed (with_settled config (Some rack.answer) (public_call known who c) one)
            (with_settled config (Some rack.answer) c other)
            (both_foreign hidden acks (copied-foreign config o v service Caller peer n) (line_foreign (codes "RAck") _ refl))
            (both_foreign whole acks (copied-foreign config c.opening c.diversions service Caller peer m) (line_foreign (codes "RAck") _ refl))
            (λ strange. ap (λ (l : List Line). l ++ acks) (copied-same config who c.opening c.diversions service Caller peer role m fits strange))
            (settled-equivalent who (Some rack.answer) c one other a);
      }

  named-equivalent : (answer : Option ℕ) (who : Identities2) (x : OfferedAttempt) (key : TKey) (role : Role) (m : MessageView) (rack : Rack) (c : Call) (one other : StepOutput) → IsFromOwnPeer T key m →
      Fits c.opening x.attempt.service Caller m role → EquivalentOutputs T one other →
      EquivalentSteps T (on_named_prack config (public_offered known x) key (without_private role m) rack answer (public_call known who c) one) (on_named_prack config x key m rack answer c other)
  named-equivalent None who x key role m rack c one other asked fits a = prack_refused-equivalent who key role m c one other asked a
  named-equivalent (Some answer) who x key role m rack c one other asked fits a = across-equivalent who x key role m rack answer c one other fits a

  rack-equivalent : (o : Option Rack) (who : Identities2) (x : OfferedAttempt) (key : TKey) (role : Role) (m : MessageView) (c : Call) (one other : StepOutput) → IsFromOwnPeer T key m →
      Fits c.opening x.attempt.service Caller m role →
      EquivalentOutputs T one other →
      EquivalentSteps T (on_rack config (public_offered known x) key (without_private role m) o (public_call known who c) one) (on_rack config x key m o c other)
  rack-equivalent None who x key role m c one other asked fits a = prack_refused-equivalent who key role m c one other asked a
  rack-equivalent (Some rack) who x key role m c one other asked fits a = named-equivalent (named_rseq x c rack) who x key role m rack c one other asked fits a

  pub prack-equivalent : (who : Identities2) (x : OfferedAttempt) (key : TKey) (role : Role) (m : MessageView) (c : Call) (one other : StepOutput) → IsFromOwnPeer T key m →
      Fits c.opening x.attempt.service Caller m role → EquivalentOutputs T one other →
      EquivalentSteps T (on_prack config (public_offered known x) key (without_private role m) (public_call known who c) one) (on_prack config x key m c other)
  prack-equivalent who x key role m c one other asked fits a = rack-equivalent (rack_in m) who x key role m c one other asked fits a

  -- ---- UPDATE

  -- it is relayed to the other side
  flies-equivalent : (who : Identities2) (service : Option Service) (side : Side) (leg : Leg) (key : TKey) (role : Role) (m : MessageView) (c : Call) (one other : StepOutput) →
      Fits c.opening service side m role → EquivalentOutputs T one other →
      EquivalentSteps T (after_update_relay config service side (public_leg known leg) key (without_private role m) (public_call known who c) one) (after_update_relay config service side leg key m c other)
  flies-equivalent who service side leg key role m c one other fits a =
      let peer : Peer = leg.dialogue.peer in
      let n : MessageView = without_private role m in
      let o : Opening = public_opening who c.opening in
      let v = public_diverted (masks_all c.opening) c.diversions in
      record {
        call = flown who c (relayed_transaction_of Update side key n (leg_after_request (codes "UPDATE") (public_leg known leg)) one)
            (relayed_transaction_of Update side key m (leg_after_request (codes "UPDATE") leg) other)
            (relayed_same Update side key role m (leg_after_request (codes "UPDATE") leg) one other a);
        output = asked_for-equivalent heads T config.sip (codes "UPDATE") leg.dialogue (copied_lines config o v service side peer n) (copied_lines config c.opening c.diversions service side peer m) m.parsed one other
            (copied-foreign config o v service side peer n) (copied-foreign config c.opening c.diversions service side peer m)
            (λ strange. copied-same config who c.opening c.diversions service side peer role m fits strange) a;
      }

  later-equivalent : (who : Identities2) (key : TKey) (role : Role) (m : MessageView) (c : Call) (one other : StepOutput) → IsFromOwnPeer T key m → EquivalentOutputs T one other →
      EquivalentSteps T (on_early_retry config key (without_private role m) (public_call known who c) one) (on_early_retry config key m c other)
  later-equivalent who key role m c one other asked a =
      on-equivalent heads config keys who c (with_response_to config (public_call known who c) key (without_private role m) 500 retry_after_lines one) (with_response_to config c key m 500 retry_after_lines other)
      (own-answer heads config keys c key (private_fields role m.parsed) m 500 retry_after_lines one other asked a)

  crosses-equivalent : (who : Identities2) (key : TKey) (role : Role) (m : MessageView) (c : Call) (one other : StepOutput) → IsFromOwnPeer T key m → EquivalentOutputs T one other →
      EquivalentSteps T (on_glare config key (without_private role m) (public_call known who c) one) (on_glare config key m c other)
  crosses-equivalent who key role m c one other asked a =
      on-equivalent heads config keys who c (with_status_to config (public_call known who c) key (without_private role m) 491 one) (with_status_to config c key m 491 other)
      (own-reply heads config keys c key (private_fields role m.parsed) m 491 one other asked a)

  -- unless one is in flight
  unless-equivalent : (o : Option Side) (f g : Call → StepOutput → StepResult) (who : Identities2) (side : Side) (key : TKey) (role : Role) (m : MessageView) (c : Call) (one other : StepOutput) →
      IsFromOwnPeer T key m → EquivalentOutputs T one other →
      EquivalentSteps T (f (public_call known who c) one) (g c other) →
      EquivalentSteps T (unless_updating o f config side key (without_private role m) (public_call known who c) one) (unless_updating o g config side key m c other)
  unless-equivalent None f g who side key role m c one other asked a goes = goes
  unless-equivalent (Some flies) f g who side key role m c one other asked a goes =
      let d : Call = public_call known who c in
      let n : MessageView = without_private role m in
      step-if T (is_same_side flies side) (on_early_retry config key n d one) (on_glare config key n d one) (on_early_retry config key m c other) (on_glare config key m c other)
      (later-equivalent who key role m c one other asked a) (crosses-equivalent who key role m c one other asked a)

  side_same : (o : Option RelayedTransaction) → option_map (λ (flight : RelayedTransaction). flight.side) (option_map (public_relayed known) o) ≡ option_map (λ (flight : RelayedTransaction). flight.side) o
  side_same None = refl
  side_same (Some flight) = refl

  updating_same : (fs : List RelayedTransaction) → updating_side (map (public_relayed known) fs) ≡ updating_side fs
  updating_same fs = ap (λ (o : Option RelayedTransaction). option_map (λ (flight : RelayedTransaction). flight.side) o) (first_found (public_relayed known) is_updating (λ flight. refl) fs)
      ∙ side_same (find is_updating fs)

  unless_in-flight-equivalent : (f g : Call → StepOutput → StepResult) (who : Identities2) (side : Side) (key : TKey) (role : Role) (m : MessageView) (c : Call) (one other : StepOutput) →
      IsFromOwnPeer T key m → EquivalentOutputs T one other →
      EquivalentSteps T (f (public_call known who c) one) (g c other) →
      EquivalentSteps T (unless_updating (updating_side (public_call known who c).relayed) f config side key (without_private role m) (public_call known who c) one)
      (unless_updating (updating_side c.relayed) g config side key m c other)
  unless_in-flight-equivalent f g who side key role m c one other asked a goes =
      subst (λ (o : Option Side). EquivalentSteps T (unless_updating o f config side key (without_private role m) (public_call known who c) one) (unless_updating (updating_side c.relayed) g config side key m c other))
      (sym (updating_same c.relayed))
      (unless-equivalent (updating_side c.relayed) f g who side key role m c one other asked a goes)

  -- of an offered call
  early-equivalent : (who : Identities2) (x : OfferedAttempt) (side : Side) (key : TKey) (role : Role) (m : MessageView) (c : Call) (one other : StepOutput) →
      Fits c.opening x.attempt.service side m role → EquivalentOutputs T one other →
      EquivalentSteps T (on_early_update config (public_offered known x) side key (without_private role m) (public_call known who c) one) (on_early_update config x side key m c other)
  early-equivalent who x Caller key role m c one other fits a = flies-equivalent who x.attempt.service Caller x.callee.leg key role m (record c { phase = Offered (attempt_after_update Caller x) }) one other fits a
  early-equivalent who x Callee key role m c one other fits a = flies-equivalent who x.attempt.service Callee x.caller key role m (record c { phase = Offered (attempt_after_update Callee x) }) one other fits a

  pub update-equivalent : (who : Identities2) (x : OfferedAttempt) (side : Side) (key : TKey) (role : Role) (m : MessageView) (c : Call) (one other : StepOutput) → IsFromOwnPeer T key m →
      Fits c.opening x.attempt.service side m role →
      EquivalentOutputs T one other →
      EquivalentSteps T (on_update config (public_offered known x) side key (without_private role m) (public_call known who c) one) (on_update config x side key m c other)
  update-equivalent who x side key role m c one other asked fits a =
      let d : Call = public_call known who c in
      let n : MessageView = without_private role m in
      let z : OfferedAttempt = public_offered known x in
      step-if T (accepts_updates x) (unless_updating (updating_side d.relayed) (on_early_update config z side key n) config side key n d one) (on_early_retry config key n d one)
      (unless_updating (updating_side c.relayed) (on_early_update config x side key m) config side key m c other) (on_early_retry config key m c other)
      (unless_in-flight-equivalent (on_early_update config z side key n) (on_early_update config x side key m) who side key role m c one other asked a (early-equivalent who x side key role m c one other fits a))
      (later-equivalent who key role m c one other asked a)

  -- of one that was answered
  stable-equivalent : (who : Identities2) (x : EstablishedLegs) (side : Side) (key : TKey) (role : Role) (m : MessageView) (c : Call) (one other : StepOutput) → Fits c.opening x.service side m role →
      EquivalentOutputs T one other →
      EquivalentSteps T (on_stable_update config (public_established known x) side key (without_private role m) (public_call known who c) one) (on_stable_update config x side key m c other)
  stable-equivalent who x Caller key role m c one other fits a =
      flies-equivalent who x.service Caller x.callee key role m (at_stage (with_leg Callee (leg_after_request (codes "UPDATE") x.callee) x) Stable c) one other fits a
  stable-equivalent who x Callee key role m c one other fits a =
      flies-equivalent who x.service Callee x.caller key role m (at_stage (with_leg Caller (leg_after_request (codes "UPDATE") x.caller) x) Stable c) one other fits a

  pub update_at-equivalent : (stage : Stage) (who : Identities2) (x : EstablishedLegs) (side : Side) (key : TKey) (role : Role) (m : MessageView) (c : Call) (one other : StepOutput) →
      IsFromOwnPeer T key m → Fits c.opening x.service side m role →
      EquivalentOutputs T one other →
      EquivalentSteps T (on_update_at (public_stage known stage) config (public_established known x) side key (without_private role m) (public_call known who c) one) (on_update_at stage config x side key m c other)
  update_at-equivalent (Answered waiting success) who x side key role m c one other asked fits a = crosses-equivalent who key role m c one other asked a
  update_at-equivalent (Departing waiting success) who x side key role m c one other asked fits a = crosses-equivalent who key role m c one other asked a
  update_at-equivalent Stable who x side key role m c one other asked fits a =
      unless_in-flight-equivalent (on_stable_update config (public_established known x) side key (without_private role m)) (on_stable_update config x side key m) who side key role m c one other asked a
      (stable-equivalent who x side key role m c one other fits a)
  update_at-equivalent (Reinviting asking q) who x side key role m c one other asked fits a = crosses-equivalent who key role m c one other asked a
