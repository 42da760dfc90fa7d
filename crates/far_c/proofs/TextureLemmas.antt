-- The result of the calls for texture: they wrote, or they were refused.
use Rattle.std.proofs.Common.{◌≡◌, ℕ, ◌*◌, Bool, true, false, nat_le, List, length, map, take, inl, inr, refl, sym, subst, if◌then◌else◌}
use Rattle.std.proofs.lemmas.Bool.{leb-false}
use Rattle.flat_arrays.specs.Words.{integer_of}
use Rattle.flat_arrays.specs.declared.wide.Wide.{Wide}
use Rattle.mesh_arrays.specs.declared.arrays.MeshArrays.{MeshArrays}
use Rattle.array_answers.specs.declared.record.FaultRecord.{FaultRecord}
use Rattle.mesh_arrays.specs.Places as level
use Rattle.mesh_arrays.specs.declared.level_counts.LevelCounts.{LevelCounts}
use Rattle.mesh_arrays.specs.declared.level_places.LevelPlaces.{LevelPlaces}
use Rattle.mesh_arrays.specs.Values.{all_value_numerators}
use Rattle.array_answers.specs.Asked.{texture_asked}
use Rattle.array_answers.specs.Rows.{IsRequestRefused, IsTextureAsked}
use Rattle.array_answers.specs.declared.textures.TextureArrays.{TextureArrays}
use Rattle.far_c.specs.Textures.{AnswersTextureLevel, AnswersTextureValues}
use Rattle.far_c.proofs.RefusalLemmas.{request-status}

module _ (mesh : MeshArrays) (seams depth : ℕ) (fault : FaultRecord) where
  -- a level is written, or an array is too short
  pub texture-level-answered : (old new : LevelPlaces) (found : TextureArrays) (counts : LevelCounts) (ok : Bool) (status : ℕ)
      → IsTextureAsked seams depth mesh found → counts ≡ level.counts_of found.texture.level → ok ≡ level.are_long_enough (level.counts_of found.texture.level) old
      → (ok ≡ true → level.IsWritten found.texture.level.level new) → (ok ≡ false → new ≡ old) → status ≡ (if ok then 0 else 1)
      → AnswersTextureLevel mesh seams depth status counts old new fault
  texture-level-answered old new found counts true status is counted enough written kept done =
      inl (done, record { found = found; is = is; holds = (counted, written refl) })
  texture-level-answered old new found counts false status is counted enough written kept done =
      inr (inl (done, record { found = found; is = is; holds = (counted, sym enough, kept refl) }))

  pub texture-level-refused : (old : LevelPlaces) (counts : LevelCounts) → IsRequestRefused (texture_asked seams depth) mesh fault
      → AnswersTextureLevel mesh seams depth fault.status counts old old fault
  texture-level-refused old counts is = inr (inr (request-status (texture_asked seams depth) mesh fault is, refl, (is, refl)))

module _ (mesh : MeshArrays) (seams : ℕ) (fault : FaultRecord) where
  -- values are written, or the array is too short
  values-written : (old new : List Wide) (found : TextureArrays) (ok : Bool) (status : ℕ)
      → IsTextureAsked seams 0 mesh found → ok ≡ nat_le (2 * length found.texture.values.items) (length old)
      → (ok ≡ true → map integer_of (take (2 * length found.texture.values.items) new) ≡ all_value_numerators found.texture.values.items)
      → (ok ≡ false → new ≡ old) → status ≡ (if ok then 0 else 1)
      → AnswersTextureValues mesh seams status (length found.texture.values.items) old new fault
  values-written old new found true status is enough written kept done =
      inl (done, record { found = found; is = is; holds = (refl, written refl) })
  values-written old new found false status is enough written kept done =
      inr (inl (done, record { found = found; is = is; holds = (refl, leb-false (2 * length found.texture.values.items) (length old) (sym enough), kept refl) }))

  pub values-answered : (old new : List Wide) (found : TextureArrays) (count : ℕ) (ok : Bool) (status : ℕ)
      → IsTextureAsked seams 0 mesh found → count ≡ length found.texture.values.items → ok ≡ nat_le (2 * length found.texture.values.items) (length old)
      → (ok ≡ true → map integer_of (take (2 * length found.texture.values.items) new) ≡ all_value_numerators found.texture.values.items)
      → (ok ≡ false → new ≡ old) → status ≡ (if ok then 0 else 1)
      → AnswersTextureValues mesh seams status count old new fault
  values-answered old new found count ok status is counted enough written kept done =
      subst (λ (n : ℕ). AnswersTextureValues mesh seams status n old new fault) (sym counted) (values-written old new found ok status is enough written kept done)

  pub values-refused : (count : ℕ) (old : List Wide) → IsRequestRefused (texture_asked seams 0) mesh fault → AnswersTextureValues mesh seams fault.status count old old fault
  values-refused count old is = inr (inr (request-status (texture_asked seams 0) mesh fault is, refl, (is, refl)))
