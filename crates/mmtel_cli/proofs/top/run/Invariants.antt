use Rattle.mmtel_cli.proofs.top.run.Given as goal

abbrev pub ghosts-prepare : goal.ghosts-prepare
ghosts-prepare g a = record { name = a.blank.name; parts = a.blank.parts }
