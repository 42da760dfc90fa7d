use Rattle.std.proofs.Common.{◌<◌, ◌≤◌, ◌∙◌, ◌++◌, ap, sym, refl, length, get_or, arith, map, ℕ, List}
use Rattle.std.proofs.lemmas.List.{take_all, append-nil}
use Rattle.subdiv_model.specs.Polygons.{polygon_at}
use Rattle.level_topology.specs.ChildTables.{place_of}
use Rattle.level_topology.proofs.FactLemmas.{corners-exist, corners-few}
use Rattle.sparse_level.specs.Places.{marked_corners}
use Rattle.sparse_level.proofs.PlaceLemmas.{corners-more}
use Rattle.sparse_level.proofs.places.put_corners.Goals as goal

pub loop-c-init : goal.loop-c-init
loop-c-init c = sym (append-nil (map place_of c.args.places.now.items))

pub bounds-on-corners : goal.bounds-on-corners
bounds-on-corners c =
    let inside : c.loop-c.c < length (polygon_at c.args.level.now.level.polygons c.args.f) = omega (arith, c.loop-c-test.true, ap length c.face_vertices-corners.ensures) in
    omega (arith, corners-exist c.args.level.now c.facts.ensures c.args.f c.requires.known c.loop-c.c 0 inside, ap (λ l. get_or l c.loop-c.c 0) c.face_vertices-corners.ensures, c.requires.marks)

pub overflow_cast-corner : goal.overflow_cast-corner
overflow_cast-corner c = record { fits = omega (arith, c.loop-c-test.true, ap length c.face_vertices-corners.ensures, corners-few c.args.level.now c.facts.ensures c.args.f c.requires.known) }

pub loop-c-preserved : goal.loop-c-preserved
loop-c-preserved c =
    corners-more c.args.on.now c.args.f (polygon_at c.args.level.now.level.polygons c.args.f) c.face_vertices-corners.result.now c.args.places.now.items c.loop-c.places.items c.put_place.new.places.items c.loop-c.c c.loop-c.c _ c.face_vertices-corners.ensures c.loop-c-test.true refl refl
    c.loop-c.invariant c.in_ok-put_place.ensures

pub returns : goal.returns
returns c =
    let past : length (polygon_at c.args.level.now.level.polygons c.args.f) ≤ c.loop-c.c = omega (arith, c.loop-c-test.false, ap length c.face_vertices-corners.ensures) in
    c.loop-c.invariant ∙ ap (λ (xs : List ℕ). map place_of c.args.places.now.items ++ marked_corners c.args.on.now c.args.f xs) (take_all c.loop-c.c (polygon_at c.args.level.now.level.polygons c.args.f) past)
