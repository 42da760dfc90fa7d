-- The text of a mesh with texture is read without fault.
use Rattle.std.proofs.Common.{◌≡◌, ℕ, ◌<◌, true, nat_lt, List, [], ◌∷◌, length, map, zip, drop, get_or, None, refl, ap, sym, subst, ◌∙◌}
use Rattle.std.specs.Prelude.{codes}
use Rattle.std.specs.List.{AllByRecursion, list_all}
use Rattle.std.proofs.lemmas.Bool.{and_parts, and_from, ltb-true}
use Rattle.std.proofs.lemmas.List.{length-map}
use Rattle.std.proofs.lemmas.Slice.Zip.{firsts-zip}
use Rattle.subdiv_model.specs.Polygons.{Polygon, is_over}
use Rattle.subdiv_model.specs.ObjWord.{Counts}
use Rattle.subdiv_model.specs.ReadObj.{obj_lines, counts_of, line_fault, lines_fault, mesh_of_lines, read_obj_fault}
use Rattle.text_laws.specs.ReadMesh.{has_corners, TexturedMesh, textured_text, textured_read}
use Rattle.text_laws.specs.Readable.{IsReadable, IsTextureReadable}
use Rattle.text_laws.proofs.KeptLemmas.{vertices-kept, texture-kept}
use Rattle.text_laws.proofs.ReadMeshLemmas.{well-parts}
use Rattle.text_laws.proofs.TexturedLemmas.{paired_words, faces, paired_lines, same-count, texture-counted, paired-lines}
use Rattle.text_laws.proofs.GoodLineLemmas.{is_pair_below, paired-good}
use Rattle.text_laws.proofs.NoFaultLemmas.{point-count, no-bad-line, points-in-range, texture-in-range, no-lines-fault}

both-below : (counts : Counts) (p q : Polygon) → list_all (λ v. nat_lt v counts.point_count) p ≡ true → list_all (λ v. nat_lt v counts.texture_count) q ≡ true
    → list_all (is_pair_below counts) (zip p q) ≡ true
both-below counts [] q first second = refl
both-below counts (v ∷ p) [] first second = refl
both-below counts (v ∷ p) (w ∷ q) first second =
    let one = and_parts (nat_lt v counts.point_count) (list_all (λ x. nat_lt x counts.point_count) p) first in
    let other = and_parts (nat_lt w counts.texture_count) (list_all (λ x. nat_lt x counts.texture_count) q) second in
    and_from _ _ (and_from _ _ one.0 other.0) (both-below counts p q one.1 other.1)

-- faces that have corners, each with as many texture values
pairs-good : (counts : Counts) (ps qs : List Polygon) → map length ps ≡ map length qs → list_all has_corners ps ≡ true
    → is_over counts.point_count ps ≡ true → is_over counts.texture_count qs ≡ true
    → AllByRecursion (λ words. (before : Counts) → line_fault before counts words ≡ None) (map (λ face. codes "f" ∷ paired_words face) (zip ps qs))
pairs-good counts [] qs same corners first second = tt
pairs-good counts (p ∷ ps) [] same corners first second = tt
pairs-good counts (p ∷ ps) (q ∷ qs) same corners first second =
    let one = and_parts (list_all (λ x. nat_lt x counts.point_count) p) (is_over counts.point_count ps) first in
    let other = and_parts (list_all (λ x. nat_lt x counts.texture_count) q) (is_over counts.texture_count qs) second in
    let some = and_parts (has_corners p) (list_all has_corners ps) corners in
    let as_long : length q ≡ length p = sym (ap (λ l. get_or l 0 0) same) in
    let zipped : length (zip p q) ≡ length p = sym (length-map (zip p q) (λ c. c.0)) ∙ ap length (firsts-zip p q as_long) in
    let above : 0 < length (zip p q) = subst (λ n. 0 < n) (sym zipped) (ltb-true 0 (length p) some.0) in
    ((λ before. paired-good before counts (zip p q) above (both-below counts p q one.0 other.0)), pairs-good counts ps qs (ap (drop 1) same) some.1 one.1 other.1)

module _ (given : TexturedMesh) (least : ℕ) where
  abbrev given_lines : List (List (List ℕ))
  given_lines = paired_lines given

  paired-without-fault : IsReadable given.mesh.level given.mesh.points (mesh_of_lines given_lines least)
      → IsTextureReadable given.texture (mesh_of_lines given_lines least) → lines_fault given_lines least ≡ None
  paired-without-fault is texture =
      let mesh = given.mesh in
      let level = mesh.level in
      let many : length (faces given) ≡ length level.polygons =
      sym (length-map (faces given) (λ face. face.0)) ∙ ap length (firsts-zip level.polygons given.cut.polygons (sym (same-count given))) in
      let over = ap (λ n. is_over n level.polygons) (point-count mesh.points given.texture paired_words (faces given) level mesh.well_formed mesh.counted many) ∙ (well-parts level mesh.well_formed).over in
      let within = ap (λ n. is_over n given.cut.polygons) (texture-counted given) ∙ given.within in
      no-lines-fault given_lines least
      (no-bad-line mesh.points given.texture paired_words (faces given) level mesh.well_formed mesh.counted many is.edges is.vertices mesh.positive is.values
      given.positive texture.values (pairs-good (counts_of given_lines) level.polygons given.cut.polygons given.same_corners is.corners over within))
      (points-in-range given_lines mesh.points least (vertices-kept mesh.points given.texture paired_words (faces given) level) is.common is.numbers)
      (texture-in-range given_lines given.texture (texture-kept mesh.points given.texture paired_words (faces given) level) texture.common texture.numbers)

  pub textured-without-fault : IsReadable given.mesh.level given.mesh.points (textured_read given least)
      → IsTextureReadable given.texture (textured_read given least) → read_obj_fault (textured_text given) least ≡ None
  textured-without-fault is texture =
      let same : obj_lines (textured_text given) ≡ given_lines = paired-lines given in
      ap (λ lines. lines_fault lines least) same
      ∙ paired-without-fault (subst (λ lines. IsReadable given.mesh.level given.mesh.points (mesh_of_lines lines least)) same is)
      (subst (λ lines. IsTextureReadable given.texture (mesh_of_lines lines least)) same texture)
