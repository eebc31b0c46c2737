-- A request opens no call where as many live as may.
use Rattle.std.proofs.Common.{◌≡◌, Bool, true, false, refl, sym, ap, ◌∙◌, Option, Some, None, Result, Ok, Err}
use Rattle.std.specs.Prelude.{◌&&◌, codes, if◌then◌else◌, is_some}
use Rattle.mmtel_directory.specs.declared.directories.Directory.{Directory}
use Rattle.mmtel_leg.specs.Dialogues.{request_uri}
use Rattle.mmtel_lex.specs.Reading.{Refusal, uri_of}
use Rattle.mmtel_lex.specs.declared.values.Uri.{Uri}
use Rattle.mmtel_message.specs.Faults.{is_method}
use Rattle.mmtel_run_definitions.specs.OwnResponses.{StatusResponse, plain_response}
use Rattle.mmtel_run_definitions.specs.Refusals.{Disposition, Respond, Enter, EnterConference, OpenCall, OpenConference, JoinConference, Register, Subscribe, EnterSubscription, disposition_by_method}
use Rattle.mmtel_run_definitions.specs.Refusals.{disposition, disposition_by, in_dialog_disposition, first_that_applies, entry_into, invite_disposition_at, is_of_no_subscription, is_factory, is_register}
use Rattle.mmtel_run_definitions.specs.Refusals.{is_conference, is_subscribe, refusals, registration_disposition, registration_disposition_of, conference_number, to_account, audio_or_refusal}
use Rattle.mmtel_run_definitions.specs.Ownership.{DialogOwner, InCall, InConference, InSubscription}
use Rattle.mmtel_sdp.specs.Offers.{offers_audio}
use Rattle.mmtel_trust.specs.ParsedMessage.{ParsedMessage}
use Rattle.mmtel_trust.specs.MaskedMessages.{public_part}
use Rattle.mmtel_types.specs.declared.numbers.Account.{Account}

-- it opens a call
abbrev opens : Disposition → Bool
opens (Respond answer) = false
opens (Enter call side) = false
opens (EnterConference room seat) = false
opens OpenCall = true
opens OpenConference = false
opens (JoinConference room) = false
opens (Register account seconds) = false
opens Subscribe = false
opens (EnterSubscription sub) = false

either : (b : Bool) (x y : Disposition) → opens x ≡ false → opens y ≡ false → opens (if b then x else y) ≡ false
either true x y e f = e
either false x y e f = f

registers : (o : Option Account) (m : ParsedMessage) → opens (registration_disposition_of o m) ≡ false
registers None m = refl
registers (Some account) m = refl

module _ (d : Directory) (m : ParsedMessage) where
  registered : opens (registration_disposition d.names.accounts m) ≡ false
  registered = either m.trusted (registration_disposition_of (to_account d.names.accounts m) m) (Respond (plain_response 403)) (registers (to_account d.names.accounts m) m) refl

  to_conference : (c : Disposition) → opens c ≡ false → opens (audio_or_refusal m c) ≡ false
  to_conference c e = either (offers_audio m.body) c (Respond (plain_response 488)) e refl

  in_full : (target : Result Uri Refusal) → opens (invite_disposition_at d true m target) ≡ false
  in_full (Ok target) =
      either (is_factory d.factory target) _ _ (to_conference OpenConference refl)
      (either (is_conference d.sip target) _ _ (to_conference (JoinConference (conference_number d.sip target)) refl) refl)
  in_full (Err refusal) = refl

  by_its_method : opens (disposition_by_method d true m) ≡ false
  by_its_method =
      either (is_method (codes "OPTIONS") m.start) _ _ refl
      (either (is_method (codes "REFER") m.start) _ _ refl
      (either (is_method (codes "INVITE") m.start) _ _ (in_full (uri_of (request_uri m.start)))
      (either (is_register m) _ _ registered (either (is_subscribe m) Subscribe (Respond (plain_response 481)) refl refl))))

  by_owner : (owner : DialogOwner) → opens (entry_into owner) ≡ false
  by_owner (InCall call side) = refl
  by_owner (InConference room seat) = refl
  by_owner (InSubscription sub) = refl

  enters : (owner : DialogOwner) → opens (in_dialog_disposition owner m) ≡ false
  enters owner = either (is_subscribe m && is_of_no_subscription owner) (Respond (plain_response 481)) (entry_into owner) refl (by_owner owner)

  by_refusal : (named : Option DialogOwner) (o : Option StatusResponse) → opens (disposition_by d true named m o) ≡ false
  by_refusal named (Some answer) = refl
  by_refusal None None = by_its_method
  by_refusal (Some owner) None = enters owner

opens_none : (d : Directory) (merged : Bool) (named : Option DialogOwner) (m : ParsedMessage) → opens (disposition d merged true named m) ≡ false
unfolding disposition
opens_none d merged named m = by_refusal d (public_part m) named (first_that_applies (refusals d merged (is_some named) (public_part m)))

pub opened_below : (d : Directory) (merged full : Bool) (named : Option DialogOwner) (m : ParsedMessage) → disposition d merged full named m ≡ OpenCall → full ≡ false
opened_below d merged true named m e = sym (ap opens e) ∙ opens_none d merged named m
opened_below d merged false named m e = refl
