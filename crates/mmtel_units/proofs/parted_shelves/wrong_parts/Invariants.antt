use Rattle.mmtel_units.proofs.parted_shelves.wrong_parts.Given as goal

abbrev pub ghosts-wrong_hashes : goal.ghosts-wrong_hashes
ghosts-wrong_hashes a = record { name = a.blank.name; parts = a.blank.parts }
