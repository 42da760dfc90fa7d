use Rattle.std.proofs.Common.{◌≡◌, ◌<◌, ◌∙◌, ◌++◌, ◌∷◌, [], ap, sym, List, ℕ, map, length, arith}
use Rattle.std.specs.List.{range_with_len}
use Rattle.std.proofs.lemmas.List.FromFn.{map-range_with_len_more}
use Rattle.subdiv_model.specs.Polygons.{polygon_at, is_among}
use Rattle.child_slots.specs.Slots.{inner_slot, turn_at}
use Rattle.child_slots.specs.Slotted.{number_at}
use Rattle.child_slots.proofs.SlotLemmas.{first-below}
use Rattle.uniform_refiner.proofs.FacePointLemmas.{inner-there, turn-low}
use Rattle.uniform_refiner.proofs.face_points.put_inner_edges.Goals as goal

pub number-requires-clause-there : goal.number-requires-clause-there
number-requires-clause-there c =
    let size = length (polygon_at c.args.level.now.level.polygons c.args.f) in
    let turn : c.turn.result ≡ turn_at size c.loop-i.i = c.turn.ensures ∙ ap (λ (l : List ℕ). turn_at (length l) c.loop-i.i) c.face_vertices-size.ensures in
    let slot : c.inner_slot_of.result ≡ inner_slot c.args.level.now.level.polygons c.args.f (turn_at size c.loop-i.i) = c.inner_slot_of.ensures ∙ ap (inner_slot c.args.level.now.level.polygons c.args.f) turn in
    ap (is_among c.args.edges.now.slots) slot ∙ inner-there c.args.level.now c.facts.ensures c.args.edges.now c.requires.edges c.args.f c.requires.face c.loop-i.i (omega (arith, c.loop-i-test.true, ap length c.face_vertices-size.ensures))

pub loop-i-preserved : goal.loop-i-preserved
loop-i-preserved c =
    let size = length (polygon_at c.args.level.now.level.polygons c.args.f) in
    let edge : ℕ → ℕ = λ i. number_at c.args.edges.now.slots (inner_slot c.args.level.now.level.polygons c.args.f (turn_at size i)) in
    let turn : c.turn.result ≡ turn_at size c.loop-i.i = c.turn.ensures ∙ ap (λ (l : List ℕ). turn_at (length l) c.loop-i.i) c.face_vertices-size.ensures in
    let slot : c.inner_slot_of.result ≡ inner_slot c.args.level.now.level.polygons c.args.f (turn_at size c.loop-i.i) = c.inner_slot_of.ensures ∙ ap (inner_slot c.args.level.now.level.polygons c.args.f) turn in
    let value : c.number.result ≡ edge c.loop-i.i = c.number.ensures ∙ ap (number_at c.args.edges.now.slots) slot in
    c.in_ok-push.ensures.items ∙ ap (λ (xs : List ℕ). xs ++ c.number.result ∷ []) c.loop-i.invariant ∙ ap (λ (y : ℕ). map edge (range_with_len 0 c.loop-i.i) ++ y ∷ []) value ∙ sym (map-range_with_len_more edge 0 c.loop-i.i c.loop-i.i (omega arith))

pub number-requires-clause-slot : goal.number-requires-clause-slot
number-requires-clause-slot c =
    let size = length (polygon_at c.args.level.now.level.polygons c.args.f) in
    let inside : c.loop-i.i < size = omega (arith, c.loop-i-test.true, ap length c.face_vertices-size.ensures) in
    let turn : c.turn.result ≡ turn_at size c.loop-i.i = c.turn.ensures ∙ ap (λ (l : List ℕ). turn_at (length l) c.loop-i.i) c.face_vertices-size.ensures in
    omega (arith, c.inner_slot_of.ensures, turn, first-below c.args.level.now.level.polygons c.args.f c.turn.result (omega (arith, turn, turn-low size c.loop-i.i inside)), c.requires.edges.count_is)
