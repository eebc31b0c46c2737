use Rattle.mmtel_units.proofs.transactions.searches.look_ups_walk_nothing.Given as goal

abbrev pub ghosts-wrong_look_ups : goal.ghosts-wrong_look_ups
ghosts-wrong_look_ups g a = record { name = a.blank.name; parts = a.blank.parts }
