use Rattle.std.proofs.Common.{◌<◌, ◌∙◌, ap, sym, length, map, arith}
use Rattle.std.proofs.lemmas.List.{get_or-map, length-map}
use Rattle.level_topology.specs.ChildTables.{place_of}
use Rattle.sparse_refiner.specs.Tables.{hole_at}
use Rattle.sparse_refiner.proofs.PutLemmas.{items-more}
use Rattle.sparse_refiner.proofs.faces.hole_marks.Goals as goal

pub loop-i-preserved : goal.loop-i-preserved
loop-i-preserved c =
    let level = c.args.level.now.level in
    let places = map place_of c.args.places.now in
    let h : c.loop-i.i < length places = omega (arith, c.loop-i-test.true, length-map c.args.places.now place_of) in
    let at = get_or-map place_of c.args.places.now c.loop-i.i (record { face = 0; corner = 0 }) (0, 0) c.loop-i-test.true in
    items-more (hole_at level) places c.loop-i.holes.items c.push.new.self.items c.is_child_hole.result c.loop-i.i (0, 0) h c.loop-i.invariant c.in_ok-push.ensures.items (c.is_child_hole.ensures ∙ ap (hole_at level) (sym at))
