use Rattle.level_tests.proofs.builder.lists_faces_and_edges_in_order_at_unmarked_points.Given as goal

-- the ledger of this one counter
abbrev pub ghosts-expect_built : goal.ghosts-expect_built
ghosts-expect_built g a = record { name = a.blank.name; parts = a.blank.parts }
