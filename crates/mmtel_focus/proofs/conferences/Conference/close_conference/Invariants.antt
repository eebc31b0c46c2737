use Rattle.std.proofs.Common.{◌≡◌, vec_len}
use Rattle.mmtel_focus.specs.Participants.{after_close}
use Rattle.mmtel_focus.proofs.conferences.Conference.close_conference.Given as goal

-- closing with the remaining participants gives what closing with all of them gives
abbrev pub invariant-participants : goal.invariant-participants
invariant-participants l = after_close l.step.config l.step.at l.self-inside.participants.items
    (record { conference = record { number = l.self-inside.number; last_seat = l.self-inside.last_seat; last_number = l.self-inside.last_number; participants = l.self-inside.participants.items }; effects = l.effects })
    ≡ after_close l.step.config l.step.at l.fn.self.participants (record { conference = l.fn.self; effects = l.fn.effects })

abbrev pub decreases-participants : goal.decreases-participants
decreases-participants l = vec_len l.self-inside.participants
