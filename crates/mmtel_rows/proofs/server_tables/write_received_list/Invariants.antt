use Rattle.mmtel_rows.proofs.server_tables.write_received_list.Given as goal

abbrev pub ghosts-hear : goal.ghosts-hear
ghosts-hear a = record { name = a.blank.name; parts = a.blank.parts }
