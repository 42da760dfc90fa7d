use Rattle.far_tests.proofs.engine.program_on.Given as goal

abbrev pub ghosts-program_counted : goal.ghosts-program_counted
ghosts-program_counted a = record { name = a.blank.name; parts = a.blank.parts }
