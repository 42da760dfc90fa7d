use Rattle.array_answers.proofs.sparse.sparse_of_arrays.Given as goal

-- the names of the counter are those of the blank one
abbrev pub ghosts-sparse_counted : goal.ghosts-sparse_counted
ghosts-sparse_counted a = record { name = a.blank.name; parts = a.blank.parts }
