-- The texture values of corners and of channel points.
use Rattle.std.specs.Prelude.{ℕ, ℤ, pos, List, map, get_or}
use Rattle.ratio128.specs.declared.point.Point2.{Point2}
use Rattle.raw_mesh.specs.View.{texture_of}
use Rattle.face_varying.specs.declared.points.ChannelPoints.{ChannelPoints}
use Rattle.subdiv_model.specs.ObjMesh.{ObjMesh}
use Rattle.subdiv_model.specs.Cut.{texture_number}

-- the texture value with a number
abbrev pub value_at : List (ℤ × ℤ) → ℕ → ℤ × ℤ
value_at texture t = get_or texture t (pos 0, pos 0)

-- the texture value of a channel point
abbrev pub value_of : ObjMesh → ℕ × ℕ → ℤ × ℤ
value_of mesh point = value_at mesh.texture (texture_number mesh point.1 point.0)

-- the texture values of all points so far
abbrev pub texture_values : ChannelPoints → List (ℤ × ℤ)
texture_values points = map texture_of points.values.items

-- the texture values with these numbers
abbrev pub values_at : List Point2 → List ℕ → List (ℤ × ℤ)
values_at texture numbers = map (value_at (map texture_of texture)) numbers
