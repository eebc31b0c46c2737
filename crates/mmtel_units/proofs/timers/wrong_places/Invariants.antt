use Rattle.mmtel_units.proofs.timers.wrong_places.Given as goal

abbrev pub ghosts-wrong_sought : goal.ghosts-wrong_sought
ghosts-wrong_sought a = record { name = a.blank.name; parts = a.blank.parts }
