use Rattle.array_answers.proofs.compose.refine_arrays.Given as goal

-- the names of the counter are those of the blank one
abbrev pub ghosts-refine_counted : goal.ghosts-refine_counted
ghosts-refine_counted a = record { name = a.blank.name; parts = a.blank.parts }
