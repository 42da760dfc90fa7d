use Rattle.level_topology.specs.ChildTables.{place_of}
use Rattle.level_topology.specs.declared.child_origin.FacePlace.{FacePlace}
use Rattle.sparse_laws.specs.NextSparse.{uniform_child}
use Rattle.sparse_level.specs.View.{level_of}
use Rattle.sparse_level.proofs.ListLemmas.{made-more, made-through}
use Rattle.sparse_level.proofs.PlaceLemmas.{within-at}
use Rattle.sparse_level.proofs.places.put_numbers.Goals as goal

pub child_number-requires : goal.child_number-requires
child_number-requires c = within-at c.args.sparse.now.topology.level c.args.places.now c.loop-place.place-index c.requires c.loop-place-test.true

pub loop-place-preserved : goal.loop-place-preserved
loop-place-preserved c =
    made-more (λ (place : FacePlace). uniform_child (level_of c.args.sparse.now) (place_of place)) c.args.places.now c.loop-place.numbers.items c.push.new.self.items c.loop-place.place-index (record { face = 0; corner = 0 }) c.child_number.result c.loop-place-test.true c.loop-place.invariant c.in_ok-push.ensures.items c.child_number.ensures

pub returns : goal.returns
returns c =
    made-through place_of (uniform_child (level_of c.args.sparse.now)) c.args.places.now c.loop-place.numbers.items c.loop-place.place-index c.loop-place-test.false c.loop-place.invariant
