use Rattle.mmtel_server.proofs.Received.{came_datagram, came_quiet, came_web, lost_receives, lost_web, none_failed}
use Rattle.mmtel_server.proofs.driving.event_of.Goals as goal

pub returns-in-Datagram-clause-received : goal.returns-in-Datagram-clause-received
returns-in-Datagram-clause-received g c = λ input told. came_datagram input _ _ _ _ _ (rw c.in-Datagram.is at told)

pub returns-in-Quiet-clause-received : goal.returns-in-Quiet-clause-received
returns-in-Quiet-clause-received g c = λ input told. came_quiet input _ _ _ (rw c.in-Quiet.is at told)

pub returns-in_ok-bytes-in-Web-clause-received : goal.returns-in_ok-bytes-in-Web-clause-received
returns-in_ok-bytes-in-Web-clause-received g c = λ input told. came_web input _ _ _ _ _ _ (rw c.in-Web.is at told) (c.in_ok-bytes-in-Web.ensures.read input) c.in_ok-bytes-in-Web.ensures.needed

pub returns-in_err-bytes-in-Web-clause-received : goal.returns-in_err-bytes-in-Web-clause-received
returns-in_err-bytes-in-Web-clause-received g c = λ input told.
    lost_receives input _ _ _ _ c.from_residual.ensures.1 (lost_web input _ _ _ _ _ _ (rw c.in-Web.is at told) (c.in_err-bytes-in-Web.ensures.read input))

pub returns-in_err-bytes-in-Web-clause-number : goal.returns-in_err-bytes-in-Web-clause-number
returns-in_err-bytes-in-Web-clause-number g c = none_failed _ _ c.from_residual.ensures.1
