use Rattle.level_tests.proofs.mask_tables.masks_vertices.Given as goal

-- the ledger of this one counter
abbrev pub ghosts-expect_masks : goal.ghosts-expect_masks
ghosts-expect_masks g a = record { name = a.blank.name; parts = a.blank.parts }
