-- What is kept of a call: the structs of the program, in which everything that may be private has fields of its own.
pub use Rattle.mmtel_call_services.specs.Diversions.{DiversionsView}
pub use Rattle.mmtel_call.specs.AttemptLeg.{AttemptLegView}
pub use Rattle.mmtel_call.specs.declared.calls.Attempt.{Attempt}
pub use Rattle.mmtel_call.specs.declared.calls.Call.{Call}
pub use Rattle.mmtel_call.specs.declared.calls.RelayedTransaction.{RelayedTransaction}
pub use Rattle.mmtel_call.specs.declared.calls.RelayedKind.{RelayedKind}
pub use Rattle.mmtel_call.specs.declared.calls.RelayedKind.TheVariants.{Prack, Update}
pub use Rattle.mmtel_call.specs.declared.calls.DetachedLeg.{DetachedLeg}
pub use Rattle.mmtel_call_services.specs.declared.openings.Opening.{Opening}
pub use Rattle.mmtel_call.specs.declared.calls.EstablishedLegs.{EstablishedLegs}
pub use Rattle.mmtel_call.specs.declared.calls.Phase.{Phase}
pub use Rattle.mmtel_call.specs.declared.calls.Phase.TheVariants.{Offered, Established, Detached, Over}
pub use Rattle.mmtel_call.specs.declared.calls.Reinvite.{Reinvite}
pub use Rattle.mmtel_call_services.specs.declared.openings.Service.{Service}
pub use Rattle.mmtel_call.specs.declared.calls.Stage.{Stage}
pub use Rattle.mmtel_call.specs.declared.calls.Stage.TheVariants.{Answered, Departing, Stable, Reinviting}
pub use Rattle.mmtel_call.specs.declared.calls.Success.{Success}
pub use Rattle.mmtel_call.specs.declared.calls.AnsweredInvite.{AnsweredInvite}
pub use Rattle.mmtel_call.specs.declared.calls.OfferedAttempt.{OfferedAttempt}
