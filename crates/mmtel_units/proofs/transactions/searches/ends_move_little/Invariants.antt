use Rattle.mmtel_units.proofs.transactions.searches.ends_move_little.Given as goal

abbrev pub ghosts-wrong_ends : goal.ghosts-wrong_ends
ghosts-wrong_ends g a = record { name = a.blank.name; parts = a.blank.parts }
