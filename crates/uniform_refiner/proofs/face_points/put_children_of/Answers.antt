use Rattle.std.proofs.Common.{◌≡◌, ◌<◌, ◌∙◌, ◌+◌, ◌++◌, ◌∷◌, [], ap, sym, List, ℕ, map, length, arith}
use Rattle.std.specs.List.{range_with_len}
use Rattle.std.proofs.lemmas.List.FromFn.{map-range_with_len_more}
use Rattle.subdiv_model.specs.Polygons.{polygon_at}
use Rattle.child_slots.specs.Slots.{first_child, turn_at}
use Rattle.child_slots.proofs.ChildNumberLemmas.{child-few}
use Rattle.uniform_refiner.proofs.FacePointLemmas.{turn-low}
use Rattle.uniform_refiner.proofs.face_points.put_children_of.Goals as goal

pub loop-i-preserved : goal.loop-i-preserved
loop-i-preserved c =
    let size = length (polygon_at c.args.level.now.level.polygons c.args.f) in
    let kid : ℕ → ℕ = λ i. first_child c.args.level.now.level.polygons c.args.f + turn_at size i in
    let turn : c.turn.result ≡ turn_at size c.loop-i.i = c.turn.ensures ∙ ap (λ (l : List ℕ). turn_at (length l) c.loop-i.i) c.face_vertices-size.ensures in
    let value : c.first_child_of.result + c.turn.result ≡ kid c.loop-i.i = ap (λ k. k + c.turn.result) c.first_child_of.ensures ∙ ap (λ k. first_child c.args.level.now.level.polygons c.args.f + k) turn in
    c.in_ok-push.ensures.items ∙ ap (λ (xs : List ℕ). xs ++ (c.first_child_of.result + c.turn.result) ∷ []) c.loop-i.invariant ∙ ap (λ (y : ℕ). map kid (range_with_len 0 c.loop-i.i) ++ y ∷ []) value ∙ sym (map-range_with_len_more kid 0 c.loop-i.i c.loop-i.i (omega arith))

pub overflow_add-first_child_of : goal.overflow_add-first_child_of
overflow_add-first_child_of c =
    let size = length (polygon_at c.args.level.now.level.polygons c.args.f) in
    let inside : c.loop-i.i < size = omega (arith, c.loop-i-test.true, ap length c.face_vertices-size.ensures) in
    let turn : c.turn.result ≡ turn_at size c.loop-i.i = c.turn.ensures ∙ ap (λ (l : List ℕ). turn_at (length l) c.loop-i.i) c.face_vertices-size.ensures in
    omega (arith, c.first_child_of.ensures, child-few c.args.level.now c.facts.ensures c.args.f c.turn.result (omega (arith, turn, turn-low size c.loop-i.i inside)))
