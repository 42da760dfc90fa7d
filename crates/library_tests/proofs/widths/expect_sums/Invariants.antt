use Rattle.library_tests.proofs.widths.expect_sums.Given as goal

-- the ledger of this one counter
abbrev pub ghosts-expect_sums_by : goal.ghosts-expect_sums_by
ghosts-expect_sums_by g a = record { name = a.blank.name; parts = a.blank.parts }
