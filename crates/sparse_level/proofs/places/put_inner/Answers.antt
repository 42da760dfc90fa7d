use Rattle.std.proofs.Common.{ap, refl, false, get_or, arith, ℕ}
use Rattle.std.proofs.lemmas.List.{get_or-map}
use Rattle.level_topology.specs.ChildTables.{place_of}
use Rattle.level_topology.specs.declared.child_origin.FacePlace.{FacePlace}
use Rattle.sparse_level.proofs.ListLemmas.{made-more, made-through}
use Rattle.sparse_level.proofs.places.put_inner.Goals as goal

pub bounds-selected-place : goal.bounds-selected-place
bounds-selected-place c =
    omega (arith, c.requires c.loop-place.place-index c.loop-place-test.true, ap (λ (p : ℕ × ℕ). p.0) (get_or-map place_of c.args.places.now c.loop-place.place-index (record { face = 0; corner = 0 }) (0, 0) c.loop-place-test.true))

pub loop-place-preserved : goal.loop-place-preserved
loop-place-preserved c =
    made-more (λ (place : FacePlace). get_or c.args.selected.now place.face false) c.args.places.now c.loop-place.inner.items c.push.new.self.items c.loop-place.place-index (record { face = 0; corner = 0 }) _ c.loop-place-test.true c.loop-place.invariant c.in_ok-push.ensures.items refl

pub returns : goal.returns
returns c =
    made-through place_of (λ (place : ℕ × ℕ). get_or c.args.selected.now place.0 false) c.args.places.now c.loop-place.inner.items c.loop-place.place-index c.loop-place-test.false c.loop-place.invariant
