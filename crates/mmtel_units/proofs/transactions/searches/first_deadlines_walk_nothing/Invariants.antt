use Rattle.mmtel_units.proofs.transactions.searches.first_deadlines_walk_nothing.Given as goal

abbrev pub ghosts-wrong_deadlines : goal.ghosts-wrong_deadlines
ghosts-wrong_deadlines g a = record { name = a.blank.name; parts = a.blank.parts }
