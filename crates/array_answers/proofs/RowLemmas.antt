-- The rows of a mesh, and the rows and the texture of arrays.
use Rattle.std.proofs.Common.{◌≡◌, ℕ, Some, Result, Ok, Err, IsOkAnd, MatchResult, inl, inr, ap, sym, subst}
use Rattle.subdiv_model.specs.Fault.{Fault}
use Rattle.subdiv_model.specs.ObjMesh.{ObjMesh}
use Rattle.subdiv_model.specs.Table.{Table}
use Rattle.far_model.specs.Command.{Uv}
use Rattle.channel_refine.specs.declared.compose.ComposedChannel.{ComposedChannel}
use Rattle.mesh_answers.specs.Limits.{AreLimitRows}
use Rattle.mesh_answers.specs.Refusals.{IsFound, refusal_by}
use Rattle.mesh_answers.specs.Tables.{IsComposedOf}
use Rattle.mesh_answers.specs.Textures.{IsTextureWith}
use Rattle.mesh_answers.specs.declared.texture_table.ComposedTexture.{ComposedTexture}
use Rattle.mesh_answers.proofs.TableLemmas.{table-own}
use Rattle.mesh_answers.proofs.TextureTableLemmas.{texture-own}
use Rattle.mesh_arrays.specs.Arrays.{mesh_of_arrays}
use Rattle.mesh_arrays.specs.Faults.{IsMeshOf}
use Rattle.mesh_arrays.specs.declared.arrays.MeshArrays.{MeshArrays}
use Rattle.array_answers.specs.RecordBack.{IsRecordOf}
use Rattle.array_answers.specs.declared.record.FaultRecord.{FaultRecord}
use Rattle.array_answers.specs.Asked.{Rows, TextureRows, rows_asked, texture_asked}
use Rattle.array_answers.specs.Rows.{AreArrayRows, AreLimitPointRows, ArePointRows, AreRowsComposed, AreRowsFound, AreRowsRefused, AreTextureRows, IsArrayTexture, IsRequestRefused, IsTextureFound, row_faults}
use Rattle.array_answers.specs.declared.request.RowRequest.{RowRequest}
use Rattle.array_answers.specs.declared.textures.TextureArrays.{TextureArrays}

-- the table of a level is that of its rows
pub point-rows : (mesh : ObjMesh) (depth : ℕ) (composed : ComposedChannel) (table : Table) → IsComposedOf mesh depth composed → table ≡ composed.table → ArePointRows mesh depth table
point-rows mesh depth composed table is same =
    subst (ArePointRows mesh depth) (sym same) (record { level = composed.level; composed = is; defined = table-own mesh depth composed is })

pub limit-rows : (mesh : ObjMesh) (depth : ℕ) (limits : ComposedChannel) (table : Table) → AreLimitRows mesh depth limits → table ≡ limits.table → AreLimitPointRows mesh depth table
limit-rows mesh depth limits table are same = subst (AreLimitPointRows mesh depth) (sym same) (record { level = limits.level; limits = are })

pub texture-rows : (uv : Uv) (mesh : ObjMesh) (depth : ℕ) (texture : ComposedTexture) (table : Table) → IsTextureWith uv depth mesh texture → table ≡ texture.table
    → AreTextureRows uv mesh depth table
texture-rows uv mesh depth texture table is same =
    subst (AreTextureRows uv mesh depth) (sym same) (record { level = texture.level; composed = is.table_is; defined = texture-own uv depth mesh _ is.table_is })

-- a mesh is refused for the first of its faults
pub rows-refused : (rows : Rows) (mesh : ObjMesh) (fault : Fault) (found : FaultRecord) → IsFound fault (refusal_by (row_faults rows mesh) mesh) → IsRecordOf found fault → AreRowsRefused rows mesh found
rows-refused rows mesh fault found is recorded = inl (record { fault = fault; is = is; recorded = recorded })

-- The result for the mesh of arrays is the result for the arrays.
module _ (arrays : MeshArrays) (mesh : ObjMesh) (good : IsMeshOf arrays mesh) where
  is-mesh : IsMeshOf arrays (mesh_of_arrays arrays)
  is-mesh = subst (IsMeshOf arrays) good.same good

  pub array-rows : (rows : Rows) (r : Result Table FaultRecord) → AreRowsComposed rows mesh r → MatchResult r (AreArrayRows rows arrays) (IsRequestRefused (Some rows) arrays)
  array-rows rows r are = go r (subst (λ m. AreRowsComposed rows m r) good.same are)
    where
      go : (r : Result Table FaultRecord) → AreRowsComposed rows (mesh_of_arrays arrays) r → MatchResult r (AreArrayRows rows arrays) (IsRequestRefused (Some rows) arrays)
      go (Ok table) are = record { good = is-mesh; are = are }
      go (Err found) refused = inr (is-mesh, refused)

  pub array-texture : (uv : Uv) (depth : ℕ) (found : Result ComposedTexture FaultRecord) (r : Result TextureArrays FaultRecord)
      → MatchResult found (λ texture. IsOkAnd r (λ arrays. arrays ≡ record { texture = texture; common = mesh.texture_common })) (λ fault. r ≡ Err fault)
      → MatchResult found (IsTextureWith uv depth mesh) (AreRowsRefused (TextureRows uv depth) mesh)
      → MatchResult r (IsArrayTexture uv depth arrays) (IsRequestRefused (Some (TextureRows uv depth)) arrays)
  array-texture uv depth (Ok texture) (Ok with_common) made is =
      subst (IsArrayTexture uv depth arrays) (sym made) (record {
        good = is-mesh;
        texture_is = subst (λ m. IsTextureWith uv depth m texture) good.same is;
        common_is = ap (λ (m : ObjMesh). m.texture_common) good.same;
      })
  array-texture uv depth (Ok texture) (Err fault) made is = absurd made
  array-texture uv depth (Err fault) r same refused =
      subst (λ r. MatchResult r (IsArrayTexture uv depth arrays) (IsRequestRefused (Some (TextureRows uv depth)) arrays)) (sym same)
      (inr (is-mesh, subst (λ m. AreRowsRefused (TextureRows uv depth) m fault) good.same refused))

-- The rows are the requested ones.
pub asked-rows : (request : RowRequest) (arrays : MeshArrays) (rows : Rows) (r : Result Table FaultRecord) → Some rows ≡ rows_asked request
    → MatchResult r (AreArrayRows rows arrays) (IsRequestRefused (Some rows) arrays) → AreRowsFound request arrays r
asked-rows request arrays rows (Ok table) asked are = record { rows = rows; asked = sym asked; found = are }
asked-rows request arrays rows (Err found) asked refused = subst (λ rows. IsRequestRefused rows arrays found) asked refused

pub asked-texture : (seams depth : ℕ) (arrays : MeshArrays) (uv : Uv) (r : Result TextureArrays FaultRecord) → Some (TextureRows uv depth) ≡ texture_asked seams depth
    → MatchResult r (IsArrayTexture uv depth arrays) (IsRequestRefused (Some (TextureRows uv depth)) arrays) → IsTextureFound seams depth arrays r
asked-texture seams depth arrays uv (Ok texture) asked is = record { uv = uv; asked = sym asked; found_is = is }
asked-texture seams depth arrays uv (Err found) asked refused = subst (λ rows. IsRequestRefused rows arrays found) asked refused
