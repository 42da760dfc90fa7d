use Rattle.std.proofs.Common.{◌<◌, ◌≤◌, ◌∙◌, ap, sym, refl, length, map, arith, ℕ}
use Rattle.std.proofs.lemmas.List.{take_all, get_or-map, length-map}
use Rattle.child_slots.specs.Slots.{quad_at}
use Rattle.level_topology.specs.ChildTables.{place_of}
use Rattle.sparse_level.specs.Places.{points_at}
use Rattle.sparse_level.proofs.PlaceLemmas.{within-at}
use Rattle.sparse_level.proofs.PointLemmas.{points-few, quad-below, points-more}
use Rattle.sparse_level.proofs.points.put_points.Goals as goal

pub loop-i-init : goal.loop-i-init
loop-i-init c = record { points = c.requires.none; is = c.requires.is; count = refl }

pub child_corners-quad-requires : goal.child_corners-quad-requires
child_corners-quad-requires c = within-at c.args.level.now.level c.args.places.now c.loop-i.i c.requires.within c.loop-i-test.true

pub add_points-requires : goal.add_points-requires
add_points-requires c = record {
  is = c.loop-i.invariant.is;
  inside = quad-below c.args.level.now c.facts.ensures _ _ (length c.loop-i.table.items) c.child_corners-quad.result c.child_corners-quad.ensures (within-at c.args.level.now.level c.args.places.now c.loop-i.i c.requires.within c.loop-i-test.true) (c.loop-i.invariant.count ∙ c.requires.count);
  few = omega (arith, points-few c.args.level.now c.facts.ensures _ c.loop-i.points.items c.loop-i.table.items c.loop-i.invariant.points c.loop-i.invariant.is (c.loop-i.invariant.count ∙ c.requires.count), ap length c.child_corners-quad.ensures);
}

pub loop-i-preserved : goal.loop-i-preserved
loop-i-preserved c =
    let places = map place_of c.args.places.now in
    let inside : c.loop-i.i < length places = omega (arith, c.loop-i-test.true, length-map c.args.places.now place_of) in
    let level = c.args.level.now.level in
    record {
      points = points-more level places c.loop-i.i c.loop-i.points.items c.add_points.new.points.items c.child_corners-quad.result inside c.loop-i.invariant.points
          (c.child_corners-quad.ensures ∙ ap (λ (place : ℕ × ℕ). quad_at level.point_count level.polygons place.0 place.1) (sym (get_or-map place_of c.args.places.now c.loop-i.i (record { face = 0; corner = 0 }) (0, 0) c.loop-i-test.true)))
          c.in_ok-add_points.ensures.points;
      is = c.in_ok-add_points.ensures.is;
      count = c.in_ok-add_points.ensures.count ∙ c.loop-i.invariant.count;
    }

pub returns : goal.returns
returns c =
    let places = map place_of c.args.places.now in
    let past : length places ≤ c.loop-i.i = omega (arith, c.loop-i-test.false, length-map c.args.places.now place_of) in
    record { points = c.loop-i.invariant.points ∙ ap (points_at c.args.level.now.level) (take_all c.loop-i.i places past); is = c.loop-i.invariant.is }
