use Rattle.std.proofs.Common.{rules, ◌≡◌, ℕ, List, [], ◌+◌, ◌-◌, ◌<◌, ◌^◌, length, take, map, get_or, replicate, arith, ap, sym, ◌∙◌, subst, set, vec_len}
use Rattle.std.proofs.lemmas.List.{length-map, length-replicate, length-set, get_or-map}
use Rattle.level_topology.specs.declared.child_origin.FacePlace.{FacePlace}
use Rattle.level_topology.specs.ChildTables.{place_of, corner_number, IsInverse}
use Rattle.level_topology.proofs.ChildTableLemmas.{inverse-none, inverse-step, inverse-end, twice-at}
use Rattle.level_topology.proofs.child_tables.place_faces.Goals as goal

pub loop-f-init : goal.loop-f-init
loop-f-init c =
    let made : c.in_ok-child_faces.child_faces.items ≡ replicate c.args.corners (2 ^ 32 - 1) = search rules in
    record {
      inverse = subst (λ (table : List ℕ). IsInverse [] table) (sym made) (inverse-none c.args.corners);
      count = ap length made ∙ length-replicate _ _;
    }

pub bounds-starts-place : goal.bounds-starts-place
bounds-starts-place c =
    let d : FacePlace = record { face = 0; corner = 0 } in
    let at = get_or-map place_of c.args.places.now c.loop-f.f d (0, 0) c.loop-f-test.true in
    omega (arith, ap (λ (p : ℕ × ℕ). p.0) at, c.requires.faces c.loop-f.f (0, 0) (omega (arith, length-map c.args.places.now place_of, c.loop-f-test.true)))

pub index_mut-requires : goal.index_mut-requires
index_mut-requires c =
    let d : FacePlace = record { face = 0; corner = 0 } in
    let n : vec_len c.loop-f.child_faces ≡ length c.loop-f.child_faces.items = search rules in
    let at = get_or-map place_of c.args.places.now c.loop-f.f d (0, 0) c.loop-f-test.true in
    omega (arith, n, ap (corner_number c.args.starts.now) at, c.loop-f.invariant.count, c.requires.within c.loop-f.f (0, 0) (omega (arith, length-map c.args.places.now place_of, c.loop-f-test.true)))

pub loop-f-preserved : goal.loop-f-preserved
loop-f-preserved c =
    let d : FacePlace = record { face = 0; corner = 0 } in
    let f = corner_number c.args.starts.now in
    let all = map f (map place_of c.args.places.now) in
    let count : length all ≡ length c.args.places.now = length-map (map place_of c.args.places.now) f ∙ length-map c.args.places.now place_of in
    let inside : c.loop-f.f < length all = omega (arith, count, c.loop-f-test.true) in
    let within : c.loop-f.f < length (map place_of c.args.places.now) = omega (arith, length-map c.args.places.now place_of, c.loop-f-test.true) in
    let number : f (place_of (get_or c.args.places.now c.loop-f.f d)) ≡ get_or all c.loop-f.f 0 = twice-at place_of f c.args.places.now c.loop-f.f d c.loop-f-test.true in
    let below : get_or all c.loop-f.f 0 < length c.loop-f.child_faces.items =
    omega (arith, get_or-map f (map place_of c.args.places.now) c.loop-f.f (0, 0) 0 within, c.loop-f.invariant.count, c.requires.within c.loop-f.f (0, 0) within) in
    let step = inverse-step all c.loop-f.child_faces.items c.loop-f.f c.requires.once inside c.loop-f.invariant.inverse below in
    record {
      inverse = subst (λ (n : ℕ). IsInverse (take (c.loop-f.f + 1) all) (set c.loop-f.child_faces.items n c.loop-f.f)) (sym number) step;
      count = length-set c.loop-f.child_faces.items _ c.loop-f.f ∙ c.loop-f.invariant.count;
    }

pub returns-clause-inverse : goal.returns-clause-inverse
returns-clause-inverse c =
    let f = corner_number c.args.starts.now in
    let all = map f (map place_of c.args.places.now) in
    let count : length all ≡ length c.args.places.now = length-map (map place_of c.args.places.now) f ∙ length-map c.args.places.now place_of in
    inverse-end all c.loop-f.child_faces.items c.loop-f.f (omega (arith, count, c.loop-f-test.false)) c.loop-f.invariant.inverse

pub returns-clause-count : goal.returns-clause-count
returns-clause-count c = c.loop-f.invariant.count
