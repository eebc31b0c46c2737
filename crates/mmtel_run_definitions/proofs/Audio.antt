-- An INVITE that asks for a conference or to join one offers audio.
use Rattle.std.proofs.Common.{◌≡◌, Bool, true, false, refl, Option, Some, None, codes}
use Rattle.std.specs.Prelude.{◌&&◌, if◌then◌else◌, is_some, Ok, Err}
use Rattle.std.specs.declared.result.Result.{Result}
use Rattle.mmtel_directory.specs.declared.directories.Directory.{Directory}
use Rattle.mmtel_leg.specs.Dialogues.{request_uri}
use Rattle.mmtel_lex.specs.Reading.{uri_of, Refusal}
use Rattle.mmtel_lex.specs.declared.values.Uri.{Uri}
use Rattle.mmtel_message.specs.Faults.{is_method}
use Rattle.mmtel_sdp.specs.Offers.{offers_audio}
use Rattle.mmtel_trust.specs.ParsedMessage.{ParsedMessage}
use Rattle.mmtel_trust.specs.MaskedMessages.{public_part}
use Rattle.mmtel_types.specs.declared.numbers.Account.{Account}
use Rattle.mmtel_run_definitions.specs.OwnResponses.{StatusResponse, plain_response, response_with_allow}
use Rattle.mmtel_run_definitions.specs.Audio.{ConferencesAreForAudio, is_for_conference}
use Rattle.mmtel_run_definitions.specs.Refusals.{Disposition, JoinConference, OpenConference, Respond, Subscribe, disposition_by_method, disposition, disposition_by, in_dialog_disposition}
use Rattle.mmtel_run_definitions.specs.Refusals.{first_that_applies, entry_into, is_of_no_subscription, is_subscribe, invite_disposition, invite_disposition_at, invite_disposition_to, is_factory}
use Rattle.mmtel_run_definitions.specs.Refusals.{is_register, is_conference, call_opening, refusals, registration_disposition, registration_disposition_of, conference_number, to_account, audio_or_refusal}
use Rattle.mmtel_run_definitions.specs.Ownership.{DialogOwner, InCall, InConference, InSubscription}

false_true : false ≡ true → ⊥
false_true e = cc

-- one of two
pick : (A : Type 0) (b : Bool) (x y : Disposition) → (is_for_conference x ≡ true → A) → (is_for_conference y ≡ true → A) → is_for_conference (if b then x else y) ≡ true → A
pick A true x y f g e = f e
pick A false x y f g e = g e

with_it : (b : Bool) (c : Disposition) → is_for_conference (if b then c else Respond (plain_response 488)) ≡ true → b ≡ true
with_it true c e = refl
with_it false c e = absurd (false_true e)

module _ (d : Directory) (full : Bool) (m : ParsedMessage) where
  abbrev Offers : Type 0
  Offers = offers_audio m.body ≡ true

  opens : is_for_conference (call_opening full) ≡ true → Offers
  opens = pick Offers full _ _ (λ e. absurd (false_true e)) (λ e. absurd (false_true e))

  to_target : (target : Uri) → is_for_conference (invite_disposition_to d full m target) ≡ true → Offers
  to_target target =
      pick Offers (is_factory d.factory target) (audio_or_refusal m OpenConference) _ (with_it (offers_audio m.body) OpenConference)
      (pick Offers (is_conference d.sip target) (audio_or_refusal m (JoinConference (conference_number d.sip target))) (call_opening full)
      (with_it (offers_audio m.body) (JoinConference (conference_number d.sip target))) opens)

  at_target : (target : Result Uri Refusal) → is_for_conference (invite_disposition_at d full m target) ≡ true → Offers
  at_target (Ok target) = to_target target
  at_target (Err refusal) = opens

  registered_by : (o : Option Account) → is_for_conference (registration_disposition_of o m) ≡ true → Offers
  registered_by None e = absurd (false_true e)
  registered_by (Some account) e = absurd (false_true e)

  registers : is_for_conference (registration_disposition d.names.accounts m) ≡ true → Offers
  registers = pick Offers m.trusted (registration_disposition_of (to_account d.names.accounts m) m) _ (registered_by (to_account d.names.accounts m)) (λ e. absurd (false_true e))

  by_its_method : is_for_conference (disposition_by_method d full m) ≡ true → Offers
  by_its_method =
      pick Offers (is_method (codes "OPTIONS") m.start) (Respond (response_with_allow d 200)) _ (λ e. absurd (false_true e))
      (pick Offers (is_method (codes "REFER") m.start) (Respond (plain_response 403)) _ (λ e. absurd (false_true e))
      (pick Offers (is_method (codes "INVITE") m.start) (invite_disposition d full m) _ (at_target (uri_of (request_uri m.start)))
      (pick Offers (is_register m) (registration_disposition d.names.accounts m) _ registers
      (pick Offers (is_subscribe m) Subscribe (Respond (plain_response 481)) (λ e. absurd (false_true e)) (λ e. absurd (false_true e))))))

  dialog : (owner : DialogOwner) → is_for_conference (entry_into owner) ≡ true → Offers
  dialog (InCall call side) e = absurd (false_true e)
  dialog (InConference room seat) e = absurd (false_true e)
  dialog (InSubscription sub) e = absurd (false_true e)

  enters : (owner : DialogOwner) → is_for_conference (in_dialog_disposition owner m) ≡ true → Offers
  enters owner = pick Offers (is_subscribe m && is_of_no_subscription owner) (Respond (plain_response 481)) (entry_into owner) (λ e. absurd (false_true e)) (dialog owner)

  by_refusal : (named : Option DialogOwner) (o : Option StatusResponse) → is_for_conference (disposition_by d full named m o) ≡ true → Offers
  by_refusal named (Some answer) e = absurd (false_true e)
  by_refusal None None e = by_its_method e
  by_refusal (Some owner) None e = enters owner e

pub for_audio : ConferencesAreForAudio
unfolding disposition
for_audio d merged full named m e = by_refusal d full (public_part m) named (first_that_applies (refusals d merged (is_some named) (public_part m))) e
