use Rattle.channel_tests.proofs.sparse.refines_the_cube_in_sparse_levels.Given as goal

-- the ledger of this one counter
abbrev pub ghosts-expect_cube : goal.ghosts-expect_cube
ghosts-expect_cube g a = record { name = a.blank.name; parts = a.blank.parts }
