use Rattle.array_answers.proofs.origins.origins_of_arrays.Given as goal

-- the names of the counter are those of the blank one
abbrev pub ghosts-origins_counted : goal.ghosts-origins_counted
ghosts-origins_counted a = record { name = a.blank.name; parts = a.blank.parts }
