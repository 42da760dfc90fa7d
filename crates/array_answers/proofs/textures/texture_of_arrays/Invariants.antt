use Rattle.array_answers.proofs.textures.texture_of_arrays.Given as goal

-- the names of the counter are those of the blank one
abbrev pub ghosts-texture_counted : goal.ghosts-texture_counted
ghosts-texture_counted a = record { name = a.blank.name; parts = a.blank.parts }
