-- The results of calls for the texture of a mesh: a level of its cut mesh, and the values of the points of the cut mesh.
use Rattle.std.specs.Prelude.{ℕ, ◌≡◌, ◌<◌, ◌*◌, false, List, length, map, take}
use Rattle.flat_arrays.specs.Words.{integer_of}
use Rattle.flat_arrays.specs.declared.wide.Wide.{Wide}
use Rattle.mesh_arrays.specs.declared.arrays.MeshArrays.{MeshArrays}
use Rattle.array_answers.specs.declared.record.FaultRecord.{FaultRecord}
use Rattle.mesh_arrays.specs.Places as level
use Rattle.mesh_arrays.specs.declared.level_counts.LevelCounts.{LevelCounts}
use Rattle.mesh_arrays.specs.declared.level_places.LevelPlaces.{LevelPlaces}
use Rattle.mesh_arrays.specs.Values.{all_value_numerators}
use Rattle.array_answers.specs.Asked.{texture_asked}
use Rattle.array_answers.specs.Rows.{IsRequestRefused, IsTextureAsked}
use Rattle.array_answers.specs.declared.textures.TextureArrays.{TextureArrays}
use Rattle.far_c.specs.Status.{IsStatus}

-- the mesh has the requested texture, and `Holds` is true of it
pub record HasTexture (mesh : MeshArrays) (seams depth : ℕ) (Holds : TextureArrays → Type 0) : Type 0 where
  pub found : TextureArrays
  pub is : IsTextureAsked seams depth mesh found
  pub holds : Holds found

-- the faces and the edges of the cut mesh's level are written, or only its counts if an array is too short
abbrev pub AnswersTextureLevel : MeshArrays → ℕ → ℕ → ℕ → LevelCounts → LevelPlaces → LevelPlaces → FaultRecord → Type 0
AnswersTextureLevel mesh seams depth status counts old new fault =
    IsStatus status
    (HasTexture mesh seams depth (λ t. (counts ≡ level.counts_of t.texture.level) × level.IsWritten t.texture.level.level new))
    (HasTexture mesh seams depth (λ t. (counts ≡ level.counts_of t.texture.level) × (level.are_long_enough (level.counts_of t.texture.level) old ≡ false) × (new ≡ old)))
    (λ found. IsRequestRefused (texture_asked seams depth) mesh found × (new ≡ old)) fault

-- two numerators of each point of the cut mesh are written, or only the number of points if the array is too short
abbrev pub AnswersTextureValues : MeshArrays → ℕ → ℕ → ℕ → List Wide → List Wide → FaultRecord → Type 0
AnswersTextureValues mesh seams status count old new fault =
    IsStatus status
    (HasTexture mesh seams 0 (λ t. (count ≡ length t.texture.values.items) × (map integer_of (take (2 * count) new) ≡ all_value_numerators t.texture.values.items)))
    (HasTexture mesh seams 0 (λ t. (count ≡ length t.texture.values.items) × (length old < 2 * count) × (new ≡ old)))
    (λ found. IsRequestRefused (texture_asked seams 0) mesh found × (new ≡ old)) fault
