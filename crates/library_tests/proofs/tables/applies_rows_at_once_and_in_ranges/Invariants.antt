use Rattle.library_tests.proofs.tables.applies_rows_at_once_and_in_ranges.Given as goal

-- the ledger of this one counter
abbrev pub ghosts-expect_sums : goal.ghosts-expect_sums
ghosts-expect_sums g a = record { name = a.blank.name; parts = a.blank.parts }
