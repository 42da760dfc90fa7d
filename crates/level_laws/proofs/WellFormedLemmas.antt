-- Each level after a well-formed one is well formed.
use Rattle.std.proofs.Common.{◌≡◌, ℕ, zero, suc, ◌+◌, Bool, true, ◌&&◌, length, map, replicate, arith, refl, sym, ◌∙◌, IsTrue}
use Rattle.std.specs.List.{range_with_len}
use Rattle.std.proofs.lemmas.Bool.Decides.{nat_tests}
use Rattle.std.proofs.lemmas.Bool.{eq-eqb}
use Rattle.std.proofs.lemmas.List.{length-append, length-map, length-replicate}
use Rattle.std.proofs.lemmas.List.FromFn.{length-map-range_with_len}
use Rattle.subdiv_model.specs.Polygons.{is_over}
use Rattle.subdiv_model.specs.Edges.{edges_of}
use Rattle.subdiv_model.specs.Sharpness.{Smooth, uniform_child}
use Rattle.subdiv_model.specs.Level.{Level, vertex_sharpness_of, is_well_formed}
use Rattle.subdiv_model.specs.Child.{child_polygons, child_points, child_holes, halves_of, sharpness_among, child_edge_sharpness, child_vertex_sharpness, child_level, refined_level}
use Rattle.mesh_laws.proofs.ChildOverLemmas.{child-over-points}
use Rattle.sharpness_laws.proofs.ProperLemmas.{proper-well_formed, proper-child}
use Rattle.level_laws.proofs.FaceLemmas.{child_polygons-length, child_holes-length}

pub all-six : (a b c d e f : Bool) → a ≡ true → b ≡ true → c ≡ true → d ≡ true → e ≡ true → f ≡ true → (a && b && c && d && e && f) ≡ true
all-six a b c d e f one two three four five six = rw (one, two, three, four, five, six) refl

pub first-of-six : (a b c d e f : Bool) → (a && b && c && d && e && f) ≡ true → a ≡ true
first-of-six a b c d e f h = grind (arith, nat_tests)

child-well-formed : (level : Level) → is_well_formed level ≡ true → is_well_formed (child_level level) ≡ true
child-well-formed level h =
    let points = level.point_count in
    let polygons = level.polygons in
    let quads = child_polygons points polygons in
    let over : is_over points polygons ≡ true = first-of-six _ _ _ _ _ _ h in
    let proper = proper-child level (proper-well_formed level h) in
    let kept = map (λ v. uniform_child (vertex_sharpness_of level v)) (range_with_len 0 points) in
    let added = length polygons + length (edges_of polygons) in
    let count = length-map-range_with_len (λ v. uniform_child (vertex_sharpness_of level v)) 0 points in
    let vertices : length (child_vertex_sharpness level) ≡ child_points points polygons =
    length-append kept (replicate added Smooth) ∙ omega (arith, count, length-replicate added Smooth) in
    all-six _ _ _ _ _ _ (child-over-points points polygons over)
    (eq-eqb (length (child_holes level)) (length quads) (child_holes-length level ∙ sym (child_polygons-length points polygons)))
    (eq-eqb (length (child_edge_sharpness level)) (length (edges_of quads)) (length-map (edges_of quads) (sharpness_among (halves_of level))))
    (eq-eqb (length (child_vertex_sharpness level)) (child_points points polygons) vertices)
    proper.0 proper.1

pub levels-well-formed : (level : Level) (k : ℕ) → IsTrue (is_well_formed level) → IsTrue (is_well_formed (refined_level level k))
levels-well-formed level zero h = h
levels-well-formed level (suc k) h = child-well-formed (refined_level level k) (levels-well-formed level k h)
