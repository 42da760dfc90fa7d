-- The arrays of a caller for a mesh: their lengths, and their contents after the write.
use Rattle.std.specs.Prelude.{ℕ, ◌≡◌, ◌≤◌, ◌&&◌, Bool, true, false, nat_le, List, length, map, take, drop, if◌then◌else◌}
use Rattle.std.specs.List.{All, flat_map, sum_by}
use Rattle.subdiv_model.specs.ObjMesh.{ObjMesh}
use Rattle.flat_arrays.specs.Places.{IsSameArray}
use Rattle.flat_arrays.specs.Words.{natural_of}
use Rattle.mesh_arrays.specs.Arrays.{point_of, value_of, crease_of, corner_tag_of, boundary_of_code, method_of_code, is_bad_denominator}
use Rattle.mesh_arrays.specs.declared.places.MeshCounts.{MeshCounts}
use Rattle.mesh_arrays.specs.declared.places.MeshOptions.{MeshOptions}
use Rattle.mesh_arrays.specs.declared.places.MeshPlaces.{MeshPlaces}

-- How many items each array of a mesh has.
abbrev pub counts_of : ObjMesh → MeshCounts
counts_of mesh = record {
  points = length mesh.points;
  texture = length mesh.texture;
  faces = length mesh.faces;
  corners = sum_by length mesh.faces;
  texture_corners = if mesh.has_texture then (sum_by length mesh.faces) else 0;
  creases = length mesh.creases;
  corner_tags = length mesh.corner_tags;
  holes = length mesh.holes;
}

-- Whether each array has a place for each item.
abbrev pub are_long_enough : MeshCounts → MeshPlaces → Bool
are_long_enough counts places =
    nat_le counts.points (length places.points.now)
    && (nat_le counts.texture (length places.texture.now)
    && (nat_le counts.faces (length places.face_sizes.now)
    && (nat_le counts.corners (length places.corners.now)
    && (nat_le counts.texture_corners (length places.texture_corners.now)
    && (nat_le counts.creases (length places.creases.now)
    && (nat_le counts.corner_tags (length places.corner_tags.now)
    && nat_le counts.holes (length places.holes.now)))))))

-- The common denominators, the boundary mode and the method are those of the mesh.
pub record AreOptionsOf (mesh : ObjMesh) (options : MeshOptions) : Type 0 where
  pub scale : natural_of options.scale ≡ mesh.common
  pub texture_scale : natural_of options.texture_scale ≡ mesh.texture_common
  pub boundary : boundary_of_code options.boundary ≡ mesh.boundary
  pub boundary_known : options.boundary ≤ 2
  pub method : method_of_code options.method ≡ mesh.method
  pub method_known : options.method ≤ 1

-- The array begins with the texture corners of the faces.
abbrev pub IsTextureWritten : ObjMesh → List ℕ → Type 0
IsTextureWritten mesh out = take (sum_by length mesh.faces) out ≡ flat_map (λ face. face) mesh.texture_corners

-- Each array begins with the list of the mesh that it receives, faces one after another. Each denominator of a sharpness is from 1 to 2^60.
pub record IsWritten (mesh : ObjMesh) (places : MeshPlaces) : Type 0 where
  pub points : map point_of (take (length mesh.points) places.points.now) ≡ mesh.points
  pub texture : map value_of (take (length mesh.texture) places.texture.now) ≡ mesh.texture
  pub sizes : take (length mesh.faces) places.face_sizes.now ≡ map length mesh.faces
  pub corners : take (sum_by length mesh.faces) places.corners.now ≡ flat_map (λ face. face) mesh.faces
  pub texture_corners : mesh.has_texture ≡ true → IsTextureWritten mesh places.texture_corners.now
  pub creases : map crease_of (take (length mesh.creases) places.creases.now) ≡ mesh.creases
  pub crease_denominators : All (λ edge. is_bad_denominator edge.sharpness_den ≡ false) (take (length mesh.creases) places.creases.now)
  pub corner_tags : map corner_tag_of (take (length mesh.corner_tags) places.corner_tags.now) ≡ mesh.corner_tags
  pub corner_denominators : All (λ point. is_bad_denominator point.sharpness_den ≡ false) (take (length mesh.corner_tags) places.corner_tags.now)
  pub holes : take (length mesh.holes) places.holes.now ≡ mesh.holes

-- The arrays have the addresses and the lengths they had.
pub record AreSamePlaces (old new : MeshPlaces) : Type 0 where
  pub points : IsSameArray old.points new.points
  pub texture : IsSameArray old.texture new.texture
  pub sizes : IsSameArray old.face_sizes new.face_sizes
  pub corners : IsSameArray old.corners new.corners
  pub texture_corners : IsSameArray old.texture_corners new.texture_corners
  pub creases : IsSameArray old.creases new.creases
  pub corner_tags : IsSameArray old.corner_tags new.corner_tags
  pub holes : IsSameArray old.holes new.holes

-- Behind the places of these items the arrays keep their contents.
pub record IsRestKept (counts : MeshCounts) (old new : MeshPlaces) : Type 0 where
  pub points : drop counts.points new.points.now ≡ drop counts.points old.points.now
  pub texture : drop counts.texture new.texture.now ≡ drop counts.texture old.texture.now
  pub sizes : drop counts.faces new.face_sizes.now ≡ drop counts.faces old.face_sizes.now
  pub corners : drop counts.corners new.corners.now ≡ drop counts.corners old.corners.now
  pub texture_corners : drop counts.texture_corners new.texture_corners.now ≡ drop counts.texture_corners old.texture_corners.now
  pub creases : drop counts.creases new.creases.now ≡ drop counts.creases old.creases.now
  pub corner_tags : drop counts.corner_tags new.corner_tags.now ≡ drop counts.corner_tags old.corner_tags.now
  pub holes : drop counts.holes new.holes.now ≡ drop counts.holes old.holes.now
