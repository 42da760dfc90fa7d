use Rattle.library_tests.proofs.sessions.follows_moves_of_controls.Given as goal

-- the ledger of this one counter
abbrev pub ghosts-expect_session : goal.ghosts-expect_session
ghosts-expect_session g a = record { name = a.blank.name; parts = a.blank.parts }
