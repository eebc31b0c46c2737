use Rattle.mmtel_rows.proofs.timers.wrong_order.Given as goal

abbrev pub ghosts-wrong_counted : goal.ghosts-wrong_counted
ghosts-wrong_counted a = record { name = a.blank.name; parts = a.blank.parts }
