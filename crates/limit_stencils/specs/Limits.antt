-- The table of the limit points of a level, and its faults.
-- Source: this profile.
use Rattle.std.specs.Prelude.{ℕ, ℤ, ◌≡◌, ◌≢◌, ◌<◌, ◌≤◌, Bool, true, IsTrue, Some, List, [], length, Result, MatchResult}
use Rattle.std.specs.List.{All}
use Rattle.subdiv_model.specs.Lists.{first_of}
use Rattle.subdiv_model.specs.Polygons.{Polygon, polygon_at}
use Rattle.subdiv_model.specs.Level.{Level}
use Rattle.subdiv_model.specs.Fault as model
use Rattle.subdiv_model.specs.Limit.{has_quads, limit_causes, limit_masks}
use Rattle.subdiv_model.specs.Channel.{number_bound, entry_bound}
use Rattle.mask_laws.specs.SharpBoundary.{has_sharp_boundary}
use Rattle.level_topology.specs.Topology.{Topology}
use Rattle.child_masks.specs.Masks.{IsFirstDenominator}
use Rattle.stencil_apply.specs.Table.{Table}
use Rattle.stencil_apply.specs.Means.{word_bound}
use Rattle.stencil_factory.specs.MaskRows.{AreMaskRows, mask_dens, mask_entries}
use Rattle.stencil_factory.specs.MaskValues.{AreMaskValues}
use Rattle.limit_stencils.specs.Smooth.{IsSmooth}
use Rattle.limit_stencils.specs.declared.fault.LimitFault.{LimitFault}
use Rattle.limit_stencils.specs.declared.fault.LimitFault.TheVariants as limit
use Rattle.limit_stencils.specs.declared.fault.QuadFault.{QuadFault}
use Rattle.limit_stencils.specs.declared.fault.QuadFault.TheVariants as quad

-- each polygon has four corners, each point a limit mask, and each edge of one face is infinitely sharp
pub record HasLimits (level : Level) : Type 0 where
  pub quads : has_quads level ≡ true
  pub fine : limit_causes level ≡ []
  pub boundary : IsTrue (has_sharp_boundary level)

-- the level has limit masks, and each of its points is smooth if that is known
pub record HasLimitMasks (t : Topology) (smooth : Bool) : Type 0 where
  pub limits : HasLimits t.level
  pub smooth_points : smooth ≡ true → IsSmooth t

-- each polygon has four corners, each point has a limit mask, and each limit point has its row
pub record IsLimitTable (level : Level) (table limits : Table) : Type 0 where
  pub quads : has_quads level ≡ true
  pub fine : limit_causes level ≡ []
  pub rows : AreMaskRows level (limit_masks level) table limits

-- a number from 1 to 2^63 - 1 that the common denominator of no limit point passes
pub record IsDenominatorBound (level : Level) (table : Table) (bound : ℕ) : Type 0 where
  pub some : 0 < bound
  pub short : bound ≤ word_bound
  pub dens : All (λ den. den ≤ bound) (mask_dens level table (limit_masks level))

-- each point has a limit mask, and these are the limit points over the controls
pub record AreLimitPoints (level : Level) (table : Table) (controls : List (List ℤ)) (points : List (List ℤ × ℕ)) : Type 0 where
  pub fine : limit_causes level ≡ []
  pub values : AreMaskValues level (limit_masks level) table controls points

-- the least polygon that does not have four corners
pub record IsFirstOther (polygons : List Polygon) (face : ℕ) : Type 0 where
  pub exists : face < length polygons
  pub other : length (polygon_at polygons face) ≢ 4
  pub first : (f : ℕ) → f < face → length (polygon_at polygons f) ≡ 4

-- The first fault of a level of quads: the least point without a limit mask, the least row whose denominator passes its bound, or too
-- many entries. Memory may run out at any step.
abbrev pub IsQuadFault : Level → Table → QuadFault → Type 0
IsQuadFault level table (quad.Dart v) = (has_quads level ≡ true) × (first_of (limit_causes level) ≡ Some (model.Dart v))
IsQuadFault level table (quad.SemiSharp v) = (has_quads level ≡ true) × (first_of (limit_causes level) ≡ Some (model.SemiSharp v))
IsQuadFault level table (quad.Denominator v) =
    (has_quads level ≡ true) × (limit_causes level ≡ []) × IsFirstDenominator (mask_dens level table (limit_masks level)) v
IsQuadFault level table quad.TooManyEntries =
    (has_quads level ≡ true) × (limit_causes level ≡ []) × All (λ den. den ≤ number_bound) (mask_dens level table (limit_masks level))
    × (entry_bound < mask_entries level table (limit_masks level))
IsQuadFault level table quad.Memory = Unit {0}

-- the limit table of a level of quads, or the first fault
abbrev pub IsQuadComposition : Level → Table → Result Table QuadFault → Type 0
IsQuadComposition level table result = MatchResult result (IsLimitTable level table) (IsQuadFault level table)

-- the first fault of a level
abbrev pub IsLimitFault : Level → Table → LimitFault → Type 0
IsLimitFault level table (limit.NotQuads f) = IsFirstOther level.polygons f
IsLimitFault level table (limit.Dart v) = IsQuadFault level table (quad.Dart v)
IsLimitFault level table (limit.SemiSharp v) = IsQuadFault level table (quad.SemiSharp v)
IsLimitFault level table (limit.Denominator v) = IsQuadFault level table (quad.Denominator v)
IsLimitFault level table limit.TooManyEntries = IsQuadFault level table quad.TooManyEntries
IsLimitFault level table limit.Memory = Unit {0}

-- the limit table of a level, or the first fault
abbrev pub IsLimitComposition : Level → Table → Result Table LimitFault → Type 0
IsLimitComposition level table result = MatchResult result (IsLimitTable level table) (IsLimitFault level table)
