use Rattle.far_tests.proofs.engine.command_on.Given as goal

abbrev pub ghosts-command_counted : goal.ghosts-command_counted
ghosts-command_counted a = record { name = a.blank.name; parts = a.blank.parts }
