use Rattle.array_answers.proofs.points.refine_points.Given as goal

-- the names of the counter are those of the blank one
abbrev pub ghosts-points_counted : goal.ghosts-points_counted
ghosts-points_counted a = record { name = a.blank.name; parts = a.blank.parts }
