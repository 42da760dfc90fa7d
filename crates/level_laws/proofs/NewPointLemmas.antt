-- The sharpness of the points of the child level.
use Rattle.std.proofs.Common.{◌≡◌, ℕ, zero, suc, ◌+◌, ◌<◌, ◌≤◌, ◌-◌, length, get_or, map, replicate, arith, refl, ◌∙◌}
use Rattle.std.specs.List.{range_with_len}
use Rattle.std.proofs.lemmas.List.{get_or_append_left, get_or-append_right}
use Rattle.std.proofs.lemmas.List.FromFn.{get_or-map-range_with_len, length-map-range_with_len}
use Rattle.subdiv_model.specs.Edges.{edges_of}
use Rattle.subdiv_model.specs.Sharpness.{Sharpness, Smooth, uniform_child}
use Rattle.subdiv_model.specs.Level.{Level, vertex_sharpness_of}
use Rattle.subdiv_model.specs.Child.{child_level}

-- a repeated item is read at each place, if it is also the default
replicated : {X : Type 0} (x : X) (n i : ℕ) → get_or (replicate n x) i x ≡ x
replicated x zero i = refl
replicated x (suc n) zero = refl
replicated x (suc n) (suc i) = replicated x n i

-- the child sharpness of a point of the level, and how many points the next level adds
abbrev kept : Level → ℕ → Sharpness
kept level v = uniform_child (vertex_sharpness_of level v)

abbrev added : Level → ℕ
added level = length level.polygons + length (edges_of level.polygons)

pub new-smooth : (level : Level) (p : ℕ) → level.point_count ≤ p → vertex_sharpness_of (child_level level) p ≡ Smooth
new-smooth level p above =
    let old = map (kept level) (range_with_len 0 level.point_count) in
    let count = length-map-range_with_len (kept level) 0 level.point_count in
    get_or-append_right old (replicate (added level) Smooth) level.point_count p Smooth count above
    ∙ replicated Smooth (added level) (p - level.point_count)

pub old-uniform : (level : Level) (v : ℕ) → v < level.point_count
    → vertex_sharpness_of (child_level level) v ≡ uniform_child (vertex_sharpness_of level v)
old-uniform level v below =
    let old = map (kept level) (range_with_len 0 level.point_count) in
    let count = length-map-range_with_len (kept level) 0 level.point_count in
    get_or_append_left old (replicate (added level) Smooth) Smooth v (omega (arith, below, count))
    ∙ get_or-map-range_with_len (kept level) 0 level.point_count v v Smooth below (omega arith)
