use Rattle.level_tests.proofs.steps.takes_one_step_of_the_cube.Given as goal

-- the ledger of this one counter
abbrev pub ghosts-expect_cube : goal.ghosts-expect_cube
ghosts-expect_cube g a = record { name = a.blank.name; parts = a.blank.parts }
