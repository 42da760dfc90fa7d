-- The text of the points that the rows of a patch give.
use Rattle.std.proofs.Common.{◌≡◌, ℕ, ◌<◌, List, [], ◌∷◌, ◌++◌, length, map, zip, None, codes, refl, ap, sym, subst, ◌∙◌}
use Rattle.std.specs.List.{All, AllZip, AllByRecursion, flat_map}
use Rattle.std.proofs.lemmas.List.{length-map}
use Rattle.std.proofs.lemmas.List.Elements.{recursion_from_All}
use Rattle.subdiv_model.specs.Base.{base_level}
use Rattle.subdiv_model.specs.Child.{refined_level}
use Rattle.subdiv_model.specs.Mask.{Mask}
use Rattle.subdiv_model.specs.ObjMesh.{ObjMesh}
use Rattle.subdiv_model.specs.Refined.{Point}
use Rattle.subdiv_model.specs.NumberText.{number_text, value_text}
use Rattle.subdiv_model.specs.Text.{line_text}
use Rattle.subdiv_model.specs.Patch.{patch_mask, patch_places, patch_points_after, place_line}
use Rattle.far_model.specs.Command.{Patch, PatchOptions}
use Rattle.raw_mesh.specs.View as reader
use Rattle.ratio128.specs.declared.point.Point3.{Point3}
use Rattle.ratio128.specs.declared.valued.Valued.{Valued}
use Rattle.primvar_refine.specs.View.{rows_of}
use Rattle.stencil_apply.specs.Table.{Table}
use Rattle.channel_refine.specs.Evaluated.{evaluated}
use Rattle.far_text.specs.Points.{points_of, CanBeWritten, IsSamePoint, HasDenominators}
use Rattle.far_text.specs.PatchLines.{face_line, patch_lines}
use Rattle.far_text.specs.declared.patch.PatchPoints.{PatchPoints}
use Rattle.far_text.specs.declared.reply.Reply.TheVariants as variant
use Rattle.far_text.proofs.SameTextLemmas.{value-same, written-denominators}
use Rattle.mesh_answers.specs.Patches.{ArePatchRows, masks_of_patch}
use Rattle.mesh_answers.specs.Replies.{IsReplyTo, written_text}
use Rattle.mesh_answers.proofs.MaskPointLemmas.{masks-denominators, masks-each, masks-same, masks-written}
use Rattle.mesh_answers.proofs.PointLemmas.{numbers}

-- the line of a place, with both denominators at least 1
place-same : (place : ℕ × ℕ) (p q : Point) → HasDenominators p → HasDenominators q → IsSamePoint p q → place_line (place, p) ≡ place_line (place, q)
place-same place p q above below same =
    let words : List ℕ → List ℕ → List ℕ → List ℕ = λ x y z. line_text (codes "s") (number_text place.0 ∷ number_text place.1 ∷ x ∷ y ∷ z ∷ []) in
    ap (λ t. words t (value_text p.1) (value_text p.2)) (value-same None p.0 q.0 above.x below.x same.x)
    ∙ ap (λ t. words (value_text q.0) t (value_text p.2)) (value-same None p.1 q.1 above.y below.y same.y)
    ∙ ap (λ t. words (value_text q.0) (value_text q.1) t) (value-same None p.2 q.2 above.z below.z same.z)

-- place by place
places-same : (places : List (ℕ × ℕ)) (ps qs : List Point) → AllByRecursion HasDenominators ps → AllByRecursion HasDenominators qs → AllZip IsSamePoint ps qs
    → flat_map place_line (zip places ps) ≡ flat_map place_line (zip places qs)
places-same [] ps qs above below same = refl
places-same (place ∷ places) [] [] above below same = refl
places-same (place ∷ places) [] (q ∷ qs) above below same = absurd same
places-same (place ∷ places) (p ∷ ps) [] above below same = absurd same
places-same (place ∷ places) (p ∷ ps) (q ∷ qs) above below same =
    ap (λ t. t ++ flat_map place_line (zip places ps)) (place-same place p q above.0 below.0 same.0)
    ∙ ap (λ t. place_line (place, q) ++ t) (places-same places ps qs above.1 below.1 same.1)

-- The rows of a patch, and the points that they give from those of the mesh.
module _ (options : PatchOptions) (mesh : ObjMesh) (table : Table) (is : ArePatchRows options mesh table)
    (points : List Point3) (said : map reader.point_of points ≡ mesh.points) (some : 0 < mesh.common) where
  abbrev masks : List Mask
  masks = masks_of_patch options mesh

  module _ (values : List (Valued Point3)) (made : rows_of numbers values ≡ evaluated table (map numbers points)) where
    patch-written : All (CanBeWritten mesh.common) values
    patch-written = masks-written mesh options.depth masks table is.rows points said values made some

    patch-same : flat_map place_line (zip (patch_places options.grid) (points_of mesh.common values))
        ≡ flat_map place_line (zip (patch_places options.grid) (patch_points_after (base_level mesh) options.face options.grid mesh.common mesh.points options.depth))
    patch-same =
        sym (places-same (patch_places options.grid) _ (points_of mesh.common values)
        (recursion_from_All HasDenominators _ (masks-denominators mesh options.depth masks table is.rows points said values made some))
        (recursion_from_All HasDenominators _ (written-denominators mesh.common values patch-written))
        (masks-same mesh options.depth masks table is.rows points said values made))

    place-each : length values ≡ length (patch_places options.grid)
    place-each =
        masks-each mesh options.depth masks table is.rows points said values made
        ∙ length-map (patch_places options.grid) (patch_mask (refined_level (base_level mesh) options.depth) options.face options.grid)

  -- The points are the reply.
  module _ (patch : PatchPoints) (face : patch.face ≡ options.face) (grid : patch.grid ≡ options.grid) (over : patch.common ≡ mesh.common)
      (made : rows_of numbers patch.values.items ≡ evaluated table (map numbers points)) where
    text-is : patch_lines patch ≡ written_text (Patch options) mesh
    unfolding written_text
    text-is =
        ap (λ face. face_line face patch.grid ++ flat_map place_line (zip (patch_places patch.grid) (points_of patch.common patch.values.items))) face
        ∙ ap (λ grid. face_line options.face grid ++ flat_map place_line (zip (patch_places grid) (points_of patch.common patch.values.items))) grid
        ∙ ap (λ common. face_line options.face options.grid ++ flat_map place_line (zip (patch_places options.grid) (points_of common patch.values.items))) over
        ∙ ap (λ lines. face_line options.face options.grid ++ lines) (patch-same patch.values.items made)

    pub patch-reply : IsReplyTo (Patch options) mesh (variant.Patch patch)
    patch-reply = record {
      good = is.good;
      says = text-is;
      put = record {
        each = place-each patch.values.items made ∙ ap (λ grid. length (patch_places grid)) (sym grid);
        written = subst (λ common. All (CanBeWritten common) patch.values.items) (sym over) (patch-written patch.values.items made);
      };
    }
