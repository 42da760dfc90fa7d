use Rattle.channel_tests.proofs.sparse_texture.selects_the_faces_of_the_cube_in_a_texture.Given as goal

-- the ledger of this one counter
abbrev pub ghosts-expect_cube : goal.ghosts-expect_cube
ghosts-expect_cube g a = record { name = a.blank.name; parts = a.blank.parts }
