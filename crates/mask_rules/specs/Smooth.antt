-- Vertices at which nothing is sharp.
use Rattle.std.specs.Prelude.{ℕ, ◌≡◌, ◌<◌, ◌*◌, ◌-◌, false, length}
use Rattle.std.specs.List.{list_any}
use Rattle.subdiv_model.specs.Sharpness.{Smooth, is_sharp}
use Rattle.subdiv_model.specs.Level.{vertex_sharpness_of}
use Rattle.level_topology.specs.Topology.{Topology}
use Rattle.subdiv_model.specs.Mask.{Mask, Scheme, CatmullClark}
use Rattle.mask_rules.specs.Around.{ends_in, faces_in, ring_in, HasFewTerms}
use Rattle.mask_rules.specs.Spread.{positive, terms_around}

-- the vertex has edges, and neither it nor any of them is sharp
pub record IsSmoothAt (t : Topology) (v : ℕ) : Type 0 where
  pub vertex : vertex_sharpness_of t.level v ≡ Smooth
  pub some : 0 < length (ring_in t v)
  pub ring : list_any is_sharp (ring_in t v) ≡ false

-- the mask of the smooth rule, its edges and faces in the order of the level's lists
abbrev pub smooth_mask_in : Topology → ℕ → Mask
smooth_mask_in t v =
    let ends = ends_in t v in
    record {
      terms = positive (terms_around (length ends * (length ends - 2)) (λ i. 1) 1 v ends (faces_in t v));
      denominator = length ends * length ends;
    }

-- under Catmull and Clark's scheme nothing is sharp at the vertex, and its mask has at most 16 terms
abbrev pub IsPlainAt : Topology → Scheme → ℕ → Type 0
IsPlainAt t scheme v = scheme ≡ CatmullClark → IsSmoothAt t v × HasFewTerms t v
