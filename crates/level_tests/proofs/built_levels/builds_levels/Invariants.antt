use Rattle.level_tests.proofs.built_levels.builds_levels.Given as goal

-- the ledger of this one counter
abbrev pub ghosts-expect_built : goal.ghosts-expect_built
ghosts-expect_built g a = record { name = a.blank.name; parts = a.blank.parts }
