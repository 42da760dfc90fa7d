-- Arrays with good options, and parts that have their numbers.
use Rattle.std.proofs.Common.{◌≡◌, false, None, ◌∙◌}
use Rattle.std.specs.List.{All, position}
use Rattle.subdiv_model.specs.ObjMesh.{ObjMesh}
use Rattle.raw_mesh.specs.Parts.{mesh_of_parts, bad_part, IsPartsFault}
use Rattle.raw_mesh.specs.declared.parts.MeshParts.{MeshParts}
use Rattle.raw_mesh.proofs.PartLemmas.{or-none, map-none, none-first}
use Rattle.mesh_arrays.specs.Arrays.{mesh_of_arrays, is_bad_denominator}
use Rattle.mesh_arrays.specs.Faults.{bad_option, ArePartsOf, IsMeshOf, IsArraysFault, fault_of_parts}
use Rattle.raw_mesh.specs.declared.fault.PartsFault.{PartsFault}
use Rattle.raw_mesh.specs.declared.fault.PartsFault.TheVariants.{Bad, Memory}
use Rattle.mesh_arrays.specs.declared.arrays.MeshArrays.{MeshArrays}

-- no crease and no corner tag has a bad denominator
pub good-tags : (arrays : MeshArrays) → bad_option arrays ≡ None
    → (position (λ edge. is_bad_denominator edge.sharpness_den) arrays.creases.now ≡ None) × (position (λ point. is_bad_denominator point.sharpness_den) arrays.corner_tags.now ≡ None)
good-tags arrays none =
    let rest = (or-none _ _ (or-none _ _ none).1).1 in
    (map-none _ _ (or-none _ _ rest).0, map-none _ _ (or-none _ _ rest).1)

pub good-creases : (arrays : MeshArrays) → bad_option arrays ≡ None → All (λ edge. is_bad_denominator edge.sharpness_den ≡ false) arrays.creases.now
good-creases arrays none = none-first (λ edge. is_bad_denominator edge.sharpness_den) (λ edge. is_bad_denominator edge.sharpness_den ≡ false) arrays.creases.now (λ x e. e) (good-tags arrays none).0

pub good-corner-tags : (arrays : MeshArrays) → bad_option arrays ≡ None → All (λ point. is_bad_denominator point.sharpness_den ≡ false) arrays.corner_tags.now
good-corner-tags arrays none = none-first (λ point. is_bad_denominator point.sharpness_den) (λ point. is_bad_denominator point.sharpness_den ≡ false) arrays.corner_tags.now (λ x e. e) (good-tags arrays none).1

-- the parts make the mesh of the arrays
pub same-mesh : (arrays : MeshArrays) (parts : MeshParts) → ArePartsOf arrays parts → mesh_of_parts parts ≡ mesh_of_arrays arrays
same-mesh arrays parts of =
    let a = of.coordinates in let t = of.tags in let sizes = of.sizes in let corners = of.corners in let texture = of.texture_corners in
    let points = a.points in let scale = a.scale in let values = a.texture in let value_scale = a.texture_scale in
    let creases = t.creases in let tags = t.corner_tags in let holes = t.holes in let boundary = t.boundary in let method = t.method in
    cc

-- a mesh was made
pub made : (arrays : MeshArrays) (parts : MeshParts) (mesh : ObjMesh) → bad_option arrays ≡ None → ArePartsOf arrays parts → (bad_part parts ≡ None) × (mesh ≡ mesh_of_parts parts) → IsMeshOf arrays mesh
made arrays parts mesh options of is = record {
  good = record { options = options; parts = parts; numbers = of; found = is.0 };
  same = is.1 ∙ same-mesh arrays parts of;
}

-- a part is refused
pub refused : (arrays : MeshArrays) (parts : MeshParts) (fault : PartsFault) → bad_option arrays ≡ None → ArePartsOf arrays parts → IsPartsFault fault (bad_part parts) → IsArraysFault arrays (fault_of_parts fault)
refused arrays parts (Bad bad) options of is = record { options = options; parts = parts; numbers = of; found = is }
refused arrays parts Memory options of is = tt
