use Rattle.mmtel_focus_theorems.proofs.ParticipantTables.{rows_due, seats_due, seats_metered}
use Rattle.mmtel_focus_theorems.proofs.charging_theorems.participants_have_their_meters.Goals as goal

pub returns : goal.returns
returns c = record { participants = seats_due; metered = seats_metered; rows = rows_due }
