use Rattle.channel_tests.proofs.channels.refines_triangles_up_to_the_bounds.Given as goal

-- the ledger of this one counter
abbrev pub ghosts-expect_cases : goal.ghosts-expect_cases
ghosts-expect_cases g a = record { name = a.blank.name; parts = a.blank.parts }
