use Rattle.level_tests.proofs.parts_walked.walks_a_quarter_of_the_square.Given as goal

-- the ledger of this one counter
abbrev pub ghosts-expect_walks : goal.ghosts-expect_walks
ghosts-expect_walks g a = record { name = a.blank.name; parts = a.blank.parts }
