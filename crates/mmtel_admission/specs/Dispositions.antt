-- What the code decides of a request, as the response and the disposition of the definitions; and the owner of a dialog.
use Rattle.mmtel_run_definitions.specs.OwnResponses.{StatusResponse}
use Rattle.mmtel_run_definitions.specs.Refusals.{Disposition, Respond, Enter, EnterConference, OpenCall, OpenConference, JoinConference, Register, Subscribe, EnterSubscription}
use Rattle.mmtel_run_definitions.specs.Ownership.{DialogOwner, InCall, InConference, InSubscription}
use Rattle.mmtel_admission.specs.declared.status_responses.StatusResponse as declared
use Rattle.mmtel_admission.specs.declared.status_responses.Disposition as dispositions
use Rattle.mmtel_admission.specs.declared.status_responses.Disposition.TheVariants as disposition
use Rattle.mmtel_admission.specs.declared.status_responses.DialogOwner as owners
use Rattle.mmtel_admission.specs.declared.status_responses.DialogOwner.TheVariants as owner

abbrev pub response_in : declared.StatusResponse → StatusResponse
response_in answer = record { code = answer.code; lines = answer.lines }

abbrev pub dialog_owner_in : owners.DialogOwner → DialogOwner
dialog_owner_in (owner.InCall call side) = InCall call side
dialog_owner_in (owner.InConference room seat) = InConference room seat
dialog_owner_in (owner.InSubscription sub) = InSubscription sub

abbrev pub disposition_in : dispositions.Disposition → Disposition
disposition_in (disposition.Respond answer) = Respond (response_in answer)
disposition_in (disposition.Enter call side) = Enter call side
disposition_in (disposition.EnterConference room seat) = EnterConference room seat
disposition_in disposition.OpenCall = OpenCall
disposition_in disposition.OpenConference = OpenConference
disposition_in (disposition.JoinConference room) = JoinConference room
disposition_in (disposition.Register account seconds) = Register account seconds
disposition_in disposition.Subscribe = Subscribe
disposition_in (disposition.EnterSubscription sub) = EnterSubscription sub
