-- The channel of a mesh and its levels around the features.
use Rattle.std.specs.Prelude.{ℕ, ◌≡◌, ◌+◌, ℤ, List, [], ◌∷◌, length}
use Rattle.ratio128.specs.declared.point.Point3.{Point3}
use Rattle.subdiv_model.specs.Level.{Level}
use Rattle.subdiv_model.specs.ObjMesh.{ObjMesh}
use Rattle.subdiv_model.specs.Base.{base_level}
use Rattle.subdiv_model.specs.Mask.{CatmullClark}
use Rattle.subdiv_model.specs.Feature.{is_feature}
use Rattle.subdiv_model.specs.Channel.{Channel}
use Rattle.subdiv_model.specs.Sparse.{predicate_to}
use Rattle.channel_refine.specs.Base.{channel_of}
use Rattle.sparse_level.specs.declared.values.SparseValues.{SparseValues}
use Rattle.sparse_face_varying.specs.Chosen.{AreWritten}

-- the coordinates of a point
abbrev pub numbers_of : Point3 → List ℤ
numbers_of p = p.x ∷ p.y ∷ p.z ∷ []

-- the channel of a mesh, for controls of at most 3 in amount over the denominator 1
abbrev pub channel_by : ObjMesh → Channel
channel_by mesh = channel_of (base_level mesh) CatmullClark 3 1

-- the levels up to a depth, with the features selected
pub record AreFeatureLevels (base : Level) (depth : ℕ) (levels : List (SparseValues Point3)) : Type 0 where
  pub count : length levels ≡ depth + 1
  pub written : AreWritten levels base (predicate_to is_feature base depth) depth
