-- The types of this crate, and points, as those of the definitions.
use Rattle.std.specs.Prelude.{ℕ, ℤ}
use Rattle.subdiv_model.specs.Boundary as base
use Rattle.subdiv_model.specs.Sharpness as sharp
use Rattle.ratio128.specs.declared.point.Point3.{Point3}
use Rattle.ratio128.specs.declared.point.Point2.{Point2}
use Rattle.sharpness_rules.specs.View.{sharpness_of}
use Rattle.raw_mesh.specs.declared.tags.Crease.{Crease}
use Rattle.raw_mesh.specs.declared.tags.CornerTag.{CornerTag}
use Rattle.raw_mesh.specs.declared.tags.Boundary.{Boundary}
use Rattle.raw_mesh.specs.declared.tags.Boundary.TheVariants.{Hidden, EdgeAndCorner, EdgeOnly}

-- A boundary mode as in the definitions.
abbrev pub boundary_of : Boundary → base.Boundary
boundary_of Hidden = base.Hidden
boundary_of EdgeAndCorner = base.EdgeAndCorner
boundary_of EdgeOnly = base.EdgeOnly

-- A crease as in the definitions: the pair of points and the sharpness.
abbrev pub crease_of : Crease → (ℕ × ℕ) × sharp.Sharpness
crease_of c = ((c.a, c.b), sharpness_of c.sharpness)

-- A corner tag as in the definitions: the point and the sharpness.
abbrev pub corner_tag_of : CornerTag → ℕ × sharp.Sharpness
corner_tag_of c = (c.vertex, sharpness_of c.sharpness)

-- The three numerators of a point.
abbrev pub point_of : Point3 → ℤ × ℤ × ℤ
point_of p = (p.x, p.y, p.z)

-- The two numerators of a texture value.
abbrev pub texture_of : Point2 → ℤ × ℤ
texture_of p = (p.u, p.v)
