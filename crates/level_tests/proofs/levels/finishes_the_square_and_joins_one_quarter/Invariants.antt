use Rattle.level_tests.proofs.levels.finishes_the_square_and_joins_one_quarter.Given as goal

-- the ledger of this one counter
abbrev pub ghosts-expect_square : goal.ghosts-expect_square
ghosts-expect_square g a = record { name = a.blank.name; parts = a.blank.parts }
