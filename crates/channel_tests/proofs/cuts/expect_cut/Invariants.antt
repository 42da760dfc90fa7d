use Rattle.channel_tests.proofs.cuts.expect_cut.Given as goal

-- the ledger of this one counter
abbrev pub ghosts-cut_by : goal.ghosts-cut_by
ghosts-cut_by g a = record { name = a.blank.name; parts = a.blank.parts }
