use Rattle.std.proofs.Common.{◌<◌, ◌≤◌, ◌∙◌, sym, length, arith}
use Rattle.sparse_level.proofs.PlaceLemmas.{places-marked, places-more, marked-all}
use Rattle.sparse_level.proofs.places.put_places.Goals as goal

pub loop-f-preserved : goal.loop-f-preserved
loop-f-preserved c =
    let inside : c.loop-f.f < length c.args.level.now.level.polygons = omega (arith, c.loop-f-test.true, c.faces-f-end.ensures) in
    places-more c.args.on.now c.args.level.now.level.polygons c.loop-f.f c.loop-f.places.items c.put_corners.new.places.items inside c.loop-f.invariant c.in_ok-put_corners.ensures

pub returns : goal.returns
returns c =
    let past : length c.args.level.now.level.polygons ≤ c.loop-f.f = omega (arith, c.loop-f-test.false, c.faces-f-end.ensures) in
    λ selected on. c.loop-f.invariant ∙ marked-all c.args.on.now c.args.level.now.level.polygons c.loop-f.f past ∙ sym (places-marked c.args.level.now c.facts.ensures selected c.args.on.now on)
