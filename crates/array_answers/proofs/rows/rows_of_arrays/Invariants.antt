use Rattle.array_answers.proofs.rows.rows_of_arrays.Given as goal

-- the names of the counter are those of the blank one
abbrev pub ghosts-rows_counted : goal.ghosts-rows_counted
ghosts-rows_counted a = record { name = a.blank.name; parts = a.blank.parts }
