use Rattle.std.proofs.Common.{sym}
use Rattle.std.specs.Int.{w64}
use Rattle.std.proofs.lemmas.Int.{to_z-of_z}
use Rattle.obj_tags.proofs.CornerLemmas.{no-normal, index_fits, three-without-texture, three-with-texture}
use Rattle.obj_tags.proofs.corner.corner_with_normal.Goals as goal

pub returns-in_err-read_index : goal.returns-in_err-read_index
returns-in_err-read_index c = λ a index.
    rw c.from_residual.ensures (no-normal a c.args.texture.now c.args.normal.now c.in_err-read_index.ensures)

pub returns-then-is_empty : goal.returns-then-is_empty
returns-then-is_empty c = λ a index.
    simp (to_z-of_z w64 _ c.ranges.vertex) (three-without-texture c.args.vertex a c.args.texture.now c.args.normal.now index.is index.says c.in_ok-read_index.ensures.0 (sym c.if-is_empty.ensures))

pub returns-in_ok-read_index-2 : goal.returns-in_ok-read_index-2
returns-in_ok-read_index-2 c = λ a vertex.
    let index = c.in_ok-read_index-2.ensures in
    simp (to_z-of_z w64 _ c.ranges.vertex, to_z-of_z w64 _ (index_fits c.args.texture.now c.in_ok-read_index-2.field-0 index.1)) (three-with-texture c.args.vertex c.in_ok-read_index-2.field-0 a c.args.texture.now c.args.normal.now vertex.is vertex.says c.in_ok-read_index.ensures.0 (sym c.if-is_empty.ensures) index.0 index.1)
