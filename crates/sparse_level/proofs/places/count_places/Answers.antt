use Rattle.std.proofs.Common.{◌<◌, ◌≤◌, ◌∙◌, ap, sym, arith, length, false, get_or, ℕ}
use Rattle.std.specs.List.{count_by}
use Rattle.sparse_level.proofs.PlaceLemmas.{places-marked, count-more, more-few, marked-all}
use Rattle.sparse_level.proofs.places.count_places.Goals as goal

pub overflow_add-count : goal.overflow_add-count
overflow_add-count c =
    let t = c.args.level.now in
    let inside : c.loop-f.f < length t.level.polygons = omega (arith, c.loop-f-test.true, c.faces-f-end.ensures) in
    let is_marked = λ (v : ℕ). get_or c.args.on.now v false in
    let few = more-few t c.facts.ensures c.args.on.now c.loop-f.f c.count_corners-count.result inside (c.count_corners-count.ensures ∙ ap (count_by is_marked) c.face_vertices.ensures) in
    record { fits = omega (arith, few, c.loop-f.invariant.few, inside, c.facts.ensures.small.faces) }

pub loop-f-preserved : goal.loop-f-preserved
loop-f-preserved c =
    let t = c.args.level.now in
    let inside : c.loop-f.f < length t.level.polygons = omega (arith, c.loop-f-test.true, c.faces-f-end.ensures) in
    let is_marked = λ (v : ℕ). get_or c.args.on.now v false in
    let more = c.count_corners-count.ensures ∙ ap (count_by is_marked) c.face_vertices.ensures in
    record {
      count = count-more c.args.on.now t.level.polygons c.loop-f.f c.loop-f.count c.count_corners-count.result inside c.loop-f.invariant.count more;
      few = omega (arith, more-few t c.facts.ensures c.args.on.now c.loop-f.f c.count_corners-count.result inside more, c.loop-f.invariant.few);
    }

pub returns : goal.returns
returns c =
    let past : length c.args.level.now.level.polygons ≤ c.loop-f.f = omega (arith, c.loop-f-test.false, c.faces-f-end.ensures) in
    λ selected on. c.loop-f.invariant.count ∙ ap length (marked-all c.args.on.now c.args.level.now.level.polygons c.loop-f.f past ∙ sym (places-marked c.args.level.now c.facts.ensures selected c.args.on.now on))
