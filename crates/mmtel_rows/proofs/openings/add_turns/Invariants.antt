use Rattle.mmtel_rows.proofs.openings.add_turns.Given as goal

abbrev pub ghosts-add_driven : goal.ghosts-add_driven
ghosts-add_driven a = record { name = a.blank.name; parts = a.blank.parts }
