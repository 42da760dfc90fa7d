-- A text with tags, and what `refine` writes for it.
use Rattle.std.specs.Prelude.{◌≡◌, ℕ, List, codes}
use Rattle.theorems.specs.Continued.{TaggedText, FurtherSteps, tagged_text}

-- two quads that share an edge: this edge has sharpness 5/2, vertex 0 is a corner, and the second face is a hole
abbrev pub quads_text : List ℕ
quads_text = codes "v 0 0 0\nv 1 0 0\nv 1 1 0\nv 0 1 0\nv 2 0 0\nv 2 1 0\nf 1 2 3 4\nf 2 5 6 3\nt crease 2/1/0 1 2 2.5\nt corner 1/1/0 0 10\nt hole 1/0/0 1\n"

-- the two quads after a step, with their tags
abbrev pub quads_refined_text : List ℕ
quads_refined_text = codes "v 0 0 0\nv 1 0 0\nv 1 1 0\nv 1/8 7/8 0\nv 15/8 1/8 0\nv 15/8 7/8 0\nv 1/2 1/2 0\nv 3/2 1/2 0\nv 1/2 0 0\nv 1 1/2 0\nv 1/2 1 0\nv 0 1/2 0\nv 3/2 0 0\nv 2 1/2 0\nv 3/2 1 0\nf 1 9 7 12\nf 2 10 7 9\nf 3 11 7 10\nf 4 12 7 11\nf 2 13 8 10\nf 5 14 8 13\nf 6 15 8 14\nf 3 10 8 15\nt interpolateboundary 1/0/0 2\nt crease 2/1/0 1 9 3/2\nt crease 2/1/0 9 2 3/2\nt corner 1/1/0 0 10\nt hole 1/0/0 4\nt hole 1/0/0 5\nt hole 1/0/0 6\nt hole 1/0/0 7\n"

-- the bytes are the two quads, their text is that after a step, and one step follows
pub record AreStepsOfQuads (given : TaggedText) (steps : FurtherSteps given) : Type 0 where
  pub bytes : given.bytes ≡ quads_text
  pub text : tagged_text given ≡ quads_refined_text
  pub depth : steps.after.depth ≡ 1
