-- The relation between a mask of the code and the mask of a child point.
use Rattle.std.specs.Prelude.{ℕ, ◌≡◌, ◌≢◌, ◌+◌, ◌<◌, ◌≤◌, false, IsTrue, Option, Some, None, List, length, get_or}
use Rattle.subdiv_model.specs.Level.{Level}
use Rattle.subdiv_model.specs.Mask.{Mask, Scheme, vertex_mask}
use Rattle.level_topology.specs.Topology.{Topology}
use Rattle.level_topology.specs.Child.{PointOrigin, FromVertex, FromFace, FromEdge}
use Rattle.mask_rules.specs.Masks.{IsMask}
use Rattle.mask_rules.specs.Smooth.{IsPlainAt}
use Rattle.child_masks.specs.Masks.{mask_from, has_origin, is_from_face}
use Rattle.child_masks.specs.Kept.{KeptList}
use Rattle.child_masks.specs.View.{seen_terms}
use Rattle.child_masks.specs.declared.masks.PointMask.{PointMask}
use Rattle.child_masks.specs.declared.masks.PointMask.TheVariants.{Corners, Terms}

-- the mean of the corners of the face that the point comes from, or the mask of a vertex or an edge, new or kept
abbrev pub IsMaskOf : Level → Scheme → PointOrigin → Mask → PointMask → Type 0
IsMaskOf level scheme origin made (Corners f) = (origin ≡ FromFace f) × (f < length level.polygons)
IsMaskOf level scheme origin made (Terms mask) = (is_from_face origin ≡ false) × IsMask (seen_terms made mask) (mask_from level scheme origin)

-- a vertex whose mask is not kept is plain
abbrev pub IsKeptFor : Topology → Scheme → ℕ → Option Mask → Type 0
IsKeptFor parent scheme v None = IsPlainAt parent scheme v
IsKeptFor parent scheme v (Some mask) = IsMask mask (vertex_mask parent.level scheme v)

-- each vertex that a point comes from has a kept mask or is plain
pub record AreKeptFor (parent : Topology) (scheme : Scheme) (origins : List PointOrigin) (kept : KeptList) : Type 0 where
  pub counted : length kept.masks ≡ parent.level.point_count
  pub few : kept.count ≤ length origins
  pub each : (v : ℕ) → IsTrue (has_origin origins (FromVertex v)) → IsKeptFor parent scheme v (get_or kept.masks v None)

-- the mask of this vertex is kept, or the vertex is plain; all other masks are unchanged
pub record IsKeptNext (parent : Topology) (scheme : Scheme) (v : ℕ) (old new : KeptList) : Type 0 where
  pub counted : length new.masks ≡ length old.masks
  pub few : new.count ≤ old.count + 1
  pub own : IsKeptFor parent scheme v (get_or new.masks v None)
  pub others : (u : ℕ) → u ≢ v → get_or new.masks u None ≡ get_or old.masks u None

-- a child point of an edge or a face changes no kept mask
abbrev pub AreKeptWith : Topology → Scheme → PointOrigin → KeptList → KeptList → Type 0
AreKeptWith parent scheme (FromVertex v) old new = IsKeptNext parent scheme v old new
AreKeptWith parent scheme (FromFace f) old new = new ≡ old
AreKeptWith parent scheme (FromEdge e) old new = new ≡ old
