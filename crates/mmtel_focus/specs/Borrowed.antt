-- What a participant receives, where its messages are borrowed: what private functions alone cite.
use Rattle.mmtel_focus.specs.ParticipantSignals as of_seat
use Rattle.mmtel_focus.specs.ParticipantSignals.{ParticipantSignal}
use Rattle.mmtel_focus.specs.declared.signals.BorrowedSignal.{BorrowedSignal}
use Rattle.mmtel_focus.specs.declared.signals.BorrowedSignal.TheVariants as borrowed_signal

abbrev pub signal_of_borrowed : BorrowedSignal → ParticipantSignal
signal_of_borrowed (borrowed_signal.Request key request) = of_seat.Request key request.now
signal_of_borrowed (borrowed_signal.Ack ack) = of_seat.Ack ack.now
signal_of_borrowed (borrowed_signal.Answer key response) = of_seat.Answer key response.now
signal_of_borrowed borrowed_signal.Silent = of_seat.Silent
signal_of_borrowed (borrowed_signal.Due what) = of_seat.Due what
