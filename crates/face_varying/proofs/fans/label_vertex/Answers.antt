use Rattle.std.proofs.Common.{ℕ, List, ◌<◌, ◌∙◌, length, arith, ap}
use Rattle.std.proofs.lemmas.List.{length-set}
use Rattle.face_varying.specs.Fans.{corner_in, face_count, is_cut, last_run}
use Rattle.face_varying.proofs.FanPlaceLemmas.{corner-below}
use Rattle.face_varying.proofs.LabelLemmas.{start-within, runs-more, others-more}
use Rattle.face_varying.proofs.RunLemmas.{last-more}
use Rattle.face_varying.proofs.fans.label_vertex.Goals as goal

pub corner_in-requires-clause-place : goal.corner_in-requires-clause-place
corner_in-requires-clause-place c =
    let t = c.args.level.now in
    let inside : c.loop-i.i < face_count t c.args.v = omega (arith, c.loop-i-test.true, ap (λ (xs : List ℕ). length xs) c.vertex_faces-i-end.ensures) in
    start-within t c.facts.ensures c.args.v c.requires.vertex c.args.apart.now c.loop-i.i c.run_start-start.result inside (last-more (is_cut t c.args.apart.now c.args.v) (last_run t c.args.apart.now c.args.v) c.loop-i.i c.loop-i.start c.run_start-start.result c.loop-i.invariant.start c.run_start-start.ensures)

pub index_mut-requires : goal.index_mut-requires
index_mut-requires c =
    let t = c.args.level.now in
    let inside : c.loop-i.i < face_count t c.args.v = omega (arith, c.loop-i-test.true, ap (λ (xs : List ℕ). length xs) c.vertex_faces-i-end.ensures) in
    omega (arith, c.corner_in-in-loop-i.ensures, corner-below t c.facts.ensures c.args.v c.requires.vertex c.loop-i.i inside, c.loop-i.invariant.corners, c.requires.corners)

pub loop-i-preserved : goal.loop-i-preserved
loop-i-preserved c =
    let t = c.args.level.now in
    let apart = c.args.apart.now in
    let v = c.args.v in
    let i = c.loop-i.i in
    let old = c.args.labels.now.items in
    let labels = c.loop-i.labels.items in
    let place = c.corner_in-in-loop-i.result in
    let label = c.corner_in.result in
    let inside : i < face_count t v = omega (arith, c.loop-i-test.true, ap (λ (xs : List ℕ). length xs) c.vertex_faces-i-end.ensures) in
    let start = last-more (is_cut t apart v) (last_run t apart v) i c.loop-i.start c.run_start-start.result c.loop-i.invariant.start c.run_start-start.ensures in
    record {
      start = start;
      corners = length-set labels place label ∙ c.loop-i.invariant.corners;
      runs = runs-more t c.facts.ensures v c.requires.vertex apart labels i place label (c.loop-i.invariant.corners ∙ c.requires.corners) inside c.corner_in-in-loop-i.ensures (c.corner_in.ensures ∙ ap (corner_in t v) start) c.loop-i.invariant.runs;
      others = others-more t c.facts.ensures v c.requires.vertex apart old labels i place label inside c.corner_in-in-loop-i.ensures c.loop-i.invariant.others;
    }
