-- A square and its moved points, for the examples.
use Rattle.std.specs.Prelude.{ℕ, List, [], ◌∷◌, ◌++◌, Option, codes}
use Rattle.subdiv_model.specs.Fault.{Fault}
use Rattle.subdiv_model.specs.NumberText.{number_text}
use Rattle.far_model.specs.Refusal.{Answer}
use Rattle.far_model.specs.Answer.{answer}

-- the answer to bytes at depth 1, with a scale
abbrev pub framed : ℕ → List ℕ → Answer
framed scale bytes = answer (codes "frames" ∷ codes "depth=1" ∷ (codes "scale=" ++ number_text scale) ∷ []) bytes

-- the lines of a square
abbrev pub square_lines : List ℕ
square_lines = codes "v 0 0 0\nv 4 0 0\nv 4 4 0\nv 0 4 0\nf 1 2 3 4\n"

-- frame lines with three moves and three lines `go`
abbrev pub moves_of_the_square : List ℕ
moves_of_the_square = codes "frames\nmove 2 8 8 0\ngo\ngo\nmove 0 1 1 0\nmove 0 0 0 1\ngo\n"

-- the first `go` writes six points, the second none, and the third six again
abbrev pub answers_of_the_square : List ℕ
answers_of_the_square =
    codes "frame 6\np 1 4 1 0\np 2 13/2 13/2 0\np 3 1 4 0\np 4 3 3 0\np 6 6 4 0\np 7 4 6 0\nframe 0\n"
    ++ codes "frame 6\np 0 1/2 1/2 3/4\np 1 4 1 1/8\np 3 1 4 1/8\np 4 3 3 1/4\np 5 2 0 1/2\np 8 0 2 1/2\n"

-- a line `move` that no LF closes
abbrev pub last_move : List ℕ
last_move = codes "move 1 0.5 0 0"

-- the refusal of a line after the square and the line `frames`
abbrev pub refused_frame_line : List ℕ → Option Fault
refused_frame_line line = (framed 0 (square_lines ++ (codes "frames\n" ++ line))).refusal
