-- A mesh that is accepted is written, at each depth, as a mesh that is read back.
use Rattle.std.proofs.Common.{◌≡◌, ℕ, ◌<◌, ◌++◌, Bool, true, false, nat_le, nat_lt, List, length, None, arith, refl, ap, sym, subst, ◌∙◌}
use Rattle.std.specs.List.{list_all}
use Rattle.std.proofs.lemmas.Bool.{and_parts, cond-true, cond-false}
use Rattle.std.proofs.lemmas.Bool.Decides.{nat_tests}
use Rattle.std.proofs.lemmas.List.{length-map}
use Rattle.subdiv_model.specs.Polygons.{Polygon, is_over, is_distinct}
use Rattle.subdiv_model.specs.Manifold.{is_simple}
use Rattle.subdiv_model.specs.MeshFault.{first_mesh_fault}
use Rattle.subdiv_model.specs.ObjMesh.{ObjMesh}
use Rattle.subdiv_model.specs.ReadObj.{read_obj_fault, read_obj_mesh}
use Rattle.subdiv_model.specs.Level.{Level}
use Rattle.subdiv_model.specs.Base.{base_level}
use Rattle.subdiv_model.specs.Child.{refined_level}
use Rattle.subdiv_model.specs.Mask.{CatmullClark}
use Rattle.subdiv_model.specs.Cut.{cut_level, channel_points, channel_values}
use Rattle.subdiv_model.specs.Text.{mesh_text, textured_mesh_text, tags_text}
use Rattle.number_laws.proofs.CountLemmas.{all-weaker}
use Rattle.mesh_laws.proofs.FaultLemmas.{fault-decides}
use Rattle.mesh_laws.proofs.WalkLemmas.{manifold-decides}
use Rattle.mesh_laws.proofs.Laws.{all-simple}
use Rattle.level_laws.specs.Tags.{HasProperTags}
use Rattle.mask_laws.specs.Laws.{IsManifoldMesh, IsManifoldWithSharpBoundary, mesh_level}
use Rattle.obj_laws.proofs.ObjMeshLemmas.{faces-over}
use Rattle.continued_laws.specs.Laws.{IsContinuation}
use Rattle.continued_laws.proofs.StepLemmas.{sharp-mesh}
use Rattle.text_laws.specs.ReadMesh.{WrittenMesh, TexturedMesh, IsReadBack, HasNoTexture, has_corners}
use Rattle.text_laws.specs.Readable.{IsReadable, IsTextureReadable}
use Rattle.text_laws.proofs.NoFaultLemmas.{read-without-fault}
use Rattle.text_laws.proofs.TexturedFaultLemmas.{textured-without-fault}
use Rattle.text_laws.proofs.ReadMeshLemmas.{mesh_read-back}
use Rattle.text_laws.proofs.TexturedLemmas.{mesh_read-untextured, textured-back}
use Rattle.far_model.specs.Command.{Refine, RefineOptions, Uv}
use Rattle.far_model.specs.Answer.{seams_of, scheme_of, points_after, texture_after, written_tags, command_text}
use Rattle.theorems.proofs.ReadTagLemmas.{read-proper, read-common, read-texture-common}
use Rattle.theorems.proofs.RefinedPointLemmas.{points-count, texture-count, points-positive, texture-positive, points-over}
use Rattle.theorems.proofs.CutCornerLemmas.{over-points, cut-levels-sharp, cut-corners-same}

-- facts of a mesh that is read and accepted
pub record IsSound (mesh : ObjMesh) : Type 0 where
  pub is_mesh : IsManifoldMesh mesh
  pub proper : HasProperTags mesh
  pub above_zero : 0 < mesh.common
  pub texture_above_zero : 0 < mesh.texture_common

pub sound : (text : List ℕ) → read_obj_fault text 0 ≡ None
    → first_mesh_fault (length (read_obj_mesh text 0).points) (read_obj_mesh text 0).faces ≡ None → IsSound (read_obj_mesh text 0)
sound text read checked =
    let mesh = read_obj_mesh text 0 in
    record {
      is_mesh = record {
        manifold = (manifold-decides (length mesh.points) mesh.faces).0 ((fault-decides (length mesh.points) mesh.faces).0 checked);
        over_points = faces-over text 0 read;
      };
      proper = read-proper text 0;
      above_zero = read-common text 0;
      texture_above_zero = read-texture-common text 0;
    }

-- a face of three corners or more has a corner
some-corners : (polygon : Polygon) → is_simple polygon ≡ true → has_corners polygon ≡ true
some-corners polygon h = more (length polygon) (and_parts (nat_le 3 (length polygon)) (is_distinct polygon) h).0
  where
    more : (n : ℕ) → nat_le 3 n ≡ true → nat_lt 0 n ≡ true
    more n h = grind (arith, nat_tests)

module _ (mesh : ObjMesh) (is : IsSound mesh) (k : ℕ) where
  abbrev level : Level
  level = mesh_level mesh k

  pub level-sharp : IsManifoldWithSharpBoundary level
  level-sharp = sharp-mesh mesh k is.is_mesh is.proper

  abbrev pub written : WrittenMesh
  written = record {
    level = level;
    points = points_after mesh k;
    well_formed = level-sharp.formed;
    counted = points-count (base_level mesh) CatmullClark mesh.common mesh.points k refl;
    positive = points-positive (base_level mesh) CatmullClark mesh.common (sharp-mesh mesh 0 is.is_mesh is.proper) is.above_zero mesh.points k;
  }

  abbrev pub textured : Uv → TexturedMesh
  textured uv =
      let cut = cut_level (seams_of uv) mesh in
      let count : length (texture_after mesh uv k) ≡ (refined_level cut k).point_count =
      texture-count cut (scheme_of uv) mesh.texture_common (channel_values mesh) k (length-map (channel_points mesh) _) in
      record {
        mesh = written;
        cut = refined_level cut k;
        texture = texture_after mesh uv k;
        same_corners = cut-corners-same mesh is.is_mesh is.proper (seams_of uv) k;
        within =
            ap (λ n. is_over n (refined_level cut k).polygons) count
            ∙ over-points (refined_level cut k) (cut-levels-sharp mesh is.is_mesh is.proper (seams_of uv) k);
        positive =
            texture-positive cut (scheme_of uv) mesh.texture_common (cut-levels-sharp mesh is.is_mesh is.proper (seams_of uv) 0)
            is.texture_above_zero (channel_values mesh) k;
      }

  -- each face has a corner
  pub level-corners : list_all has_corners level.polygons ≡ true
  level-corners = all-weaker is_simple has_corners some-corners level.polygons (all-simple level.point_count level.polygons level-sharp.manifold)

  -- a mesh that is read back continues from the level
  pub is-continuation : (second : ObjMesh) → IsReadBack level (points_after mesh k) second → IsContinuation CatmullClark k mesh second
  is-continuation second back = record {
    manifold = is.is_mesh;
    proper = is.proper;
    first_common = is.above_zero;
    second_common = back.above_zero;
    tags = record {
      points = back.count;
      faces = back.faces;
      creases = back.creases;
      corner_tags = back.corner_tags;
      holes = back.holes;
      boundary = back.boundary;
      method = back.method;
    };
    points = points-over second.common (points_after mesh k) second.points back.coordinates;
  }

-- What `refine` writes, without decimals.

module _ (options : RefineOptions) (mesh : ObjMesh) (exact : options.decimals ≡ None) where
  abbrev k : ℕ
  k = options.depth

  abbrev cut : Level
  cut = refined_level (cut_level (seams_of options.uv) mesh) k

  pub plain-text : mesh.has_texture ≡ false → command_text (Refine options) mesh
      ≡ mesh_text None options.tags (mesh_level mesh k) (points_after mesh k) ++ written_tags options.tags (mesh_level mesh k)
  plain-text none =
      ap (λ text. text ++ written_tags options.tags (mesh_level mesh k))
      (cond-false mesh.has_texture _ _ none ∙ ap (λ decimals. mesh_text decimals options.tags (mesh_level mesh k) (points_after mesh k)) exact)

  pub textured-text : mesh.has_texture ≡ true → command_text (Refine options) mesh
      ≡ textured_mesh_text None options.tags (mesh_level mesh k) (points_after mesh k) cut (texture_after mesh options.uv k)
      ++ written_tags options.tags (mesh_level mesh k)
  textured-text some =
      ap (λ text. text ++ written_tags options.tags (mesh_level mesh k))
      (cond-true mesh.has_texture _ _ some
      ∙ ap (λ decimals. textured_mesh_text decimals options.tags (mesh_level mesh k) (points_after mesh k) cut (texture_after mesh options.uv k)) exact)

module _ (options : RefineOptions) (mesh : ObjMesh) (exact : options.decimals ≡ None) (tagged : options.tags ≡ true) (is : IsSound mesh) where
  abbrev depth : ℕ
  depth = options.depth

  abbrev text : List ℕ
  text = command_text (Refine options) mesh

  plain-tagged : mesh.has_texture ≡ false → text ≡ mesh_text None true (mesh_level mesh depth) (points_after mesh depth) ++ tags_text (mesh_level mesh depth)
  plain-tagged none =
      plain-text options mesh exact none
      ∙ ap (λ tags. mesh_text None tags (mesh_level mesh depth) (points_after mesh depth) ++ written_tags tags (mesh_level mesh depth)) tagged

  textured-tagged : mesh.has_texture ≡ true → text
      ≡ textured_mesh_text None true (mesh_level mesh depth) (points_after mesh depth) (refined_level (cut_level (seams_of options.uv) mesh) depth) (texture_after mesh options.uv depth)
      ++ tags_text (mesh_level mesh depth)
  textured-tagged some =
      textured-text options mesh exact some
      ∙ ap
      (λ tags. textured_mesh_text None tags (mesh_level mesh depth) (points_after mesh depth) (refined_level (cut_level (seams_of options.uv) mesh) depth)
      (texture_after mesh options.uv depth)
      ++ written_tags tags (mesh_level mesh depth))
      tagged

  -- the text is read back
  pub text-back : IsReadBack (mesh_level mesh depth) (points_after mesh depth) (read_obj_mesh text 0)
  text-back = go mesh.has_texture refl
    where
      go : (b : Bool) → mesh.has_texture ≡ b → IsReadBack (mesh_level mesh depth) (points_after mesh depth) (read_obj_mesh text 0)
      go true some =
          subst (λ t. IsReadBack (mesh_level mesh depth) (points_after mesh depth) (read_obj_mesh t 0)) (sym (textured-tagged some))
          (textured-back (textured mesh is depth options.uv) 0)
      go false none =
          subst (λ t. IsReadBack (mesh_level mesh depth) (points_after mesh depth) (read_obj_mesh t 0)) (sym (plain-tagged none))
          (mesh_read-back (written mesh is depth) 0)

  -- the text has no texture if the mesh has none
  pub text-untextured : mesh.has_texture ≡ false → HasNoTexture (read_obj_mesh text 0)
  text-untextured none =
      subst (λ t. HasNoTexture (read_obj_mesh t 0)) (sym (plain-tagged none))
      (mesh_read-untextured (written mesh is depth) 0 (level-corners mesh is depth))

  -- where no number is too long the text is read without a fault
  pub text-read : IsReadable (mesh_level mesh depth) (points_after mesh depth) (read_obj_mesh text 0)
      → (mesh.has_texture ≡ true → IsTextureReadable (texture_after mesh options.uv depth) (read_obj_mesh text 0)) → read_obj_fault text 0 ≡ None
  text-read readable values = go mesh.has_texture refl
    where
      go : (b : Bool) → mesh.has_texture ≡ b → read_obj_fault text 0 ≡ None
      go true some =
          let same = textured-tagged some in
          ap (λ t. read_obj_fault t 0) same
          ∙ textured-without-fault (textured mesh is depth options.uv) 0
          (subst (λ t. IsReadable (mesh_level mesh depth) (points_after mesh depth) (read_obj_mesh t 0)) same readable)
          (subst (λ t. IsTextureReadable (texture_after mesh options.uv depth) (read_obj_mesh t 0)) same (values some))
      go false none =
          let same = plain-tagged none in
          ap (λ t. read_obj_fault t 0) same
          ∙ read-without-fault (written mesh is depth) 0
          (subst (λ t. IsReadable (mesh_level mesh depth) (points_after mesh depth) (read_obj_mesh t 0)) same readable)
