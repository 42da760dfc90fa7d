use Rattle.std.proofs.Common.{◌≡◌, ◌+◌, ◌<◌, ◌∙◌, ◌++◌, ap, sym, arith, map, take, length, List, ℕ}
use Rattle.std.specs.List.{range_with_len}
use Rattle.std.proofs.lemmas.List.{take_all}
use Rattle.subdiv_model.specs.Polygons.{polygon_at}
use Rattle.uniform_refiner.specs.Uniform.{all_places}
use Rattle.uniform_refiner.proofs.PlaceLemmas.{places-more}
use Rattle.uniform_refiner.proofs.origins.put_places.Goals as goal

pub loop-f-preserved : goal.loop-f-preserved
loop-f-preserved c =
    let polygons = c.args.level.now.level.polygons in
    let inside : c.loop-f.f < length polygons = omega (arith, c.loop-f-test.true, c.faces-f-end.ensures) in
    let last : ℕ → List (ℕ × ℕ) = λ k. map (λ i. (k, i)) (range_with_len 0 (length (polygon_at polygons c.loop-f.f))) in
    let same : c.loop-f.f ≡ 0 + c.loop-f.f = omega arith in
    c.in_ok-put_corners.ensures ∙ ap (λ (xs : List (ℕ × ℕ)). xs ++ last c.loop-f.f) c.loop-f.invariant
    ∙ ap (λ (k : ℕ). all_places 0 (take c.loop-f.f polygons) ++ last k) same
    ∙ sym (places-more 0 polygons c.loop-f.f inside)

pub returns : goal.returns
returns c = c.loop-f.invariant ∙ ap (all_places 0) (take_all c.loop-f.f c.args.level.now.level.polygons (omega (arith, c.loop-f-test.false, c.faces-f-end.ensures)))
