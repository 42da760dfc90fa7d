-- The refusals of a mesh by `refine`, and the text of the reply.
use Rattle.std.proofs.Common.{◌≡◌, ℕ, ◌≤◌, Bool, true, false, cond, List, [], ◌++◌, length, map, Option, Some, None, IfSome, refl, ap, sym, subst, ◌∙◌}
use Rattle.std.specs.List.{All}
use Rattle.subdiv_model.specs.Lists.{first_of}
use Rattle.subdiv_model.specs.Level.{Level}
use Rattle.subdiv_model.specs.Base.{base_level}
use Rattle.subdiv_model.specs.Child.{refined_level}
use Rattle.subdiv_model.specs.Cut.{cut_level}
use Rattle.subdiv_model.specs.ObjMesh.{ObjMesh}
use Rattle.far_model.specs.Command.{Refine, RefineOptions}
use Rattle.subdiv_model.specs.Fault.{Fault}
use Rattle.subdiv_model.specs.Refined.{Point}
use Rattle.subdiv_model.specs.Text.{mesh_text, textured_mesh_text}
use Rattle.far_model.specs.Answer.{asked_of, refine_faults, points_after, texture_after, seams_of, written_tags}
use Rattle.ratio128.specs.declared.valued.Valued.{Valued}
use Rattle.ratio128.specs.declared.point.Point3.{Point3}
use Rattle.far_text.specs.Points.{points_of, CanBeWritten}
use Rattle.far_text.specs.Texture.{texture_points_of, CanTextureBeWritten}
use Rattle.far_text.specs.Mesh.{CanTextureBePut, lines_of, refined_text, tag_lines}
use Rattle.far_text.specs.declared.mesh.MeshForm.{MeshForm}
use Rattle.far_text.specs.declared.mesh.RefinedMesh.{RefinedMesh}
use Rattle.far_text.specs.declared.mesh.RefinedTexture.{RefinedTexture}
use Rattle.far_text.specs.declared.reply.Reply.TheVariants.{Refined}
use Rattle.far_text.proofs.SameTextLemmas.{mesh_text-same, written-denominators}
use Rattle.far_text.proofs.SameTextureLemmas.{textured_mesh_text-same, written-texture-denominators}
use Rattle.level_topology.specs.Topology.{Topology}
use Rattle.mesh_answers.specs.Levels.{IsSmallManifold}
use Rattle.mesh_answers.specs.Refusals.{IsFound, refusal_of_mesh}
use Rattle.mesh_answers.specs.Replies.{IsReplyTo, written_text}
use Rattle.mesh_answers.specs.Tracks.{AreRefined, IsPositionFault, IsTextureFault, IsTextureOf, position_faults, texture_faults}
use Rattle.mesh_answers.proofs.RefusalLemmas.{found-here, refusal-of-others}
use Rattle.mesh_answers.proofs.CutLemmas.{cut-alike}

module _ (mesh : ObjMesh) (options : RefineOptions) (fine : IsSmallManifold options.depth mesh) where
  -- the mesh is refused for the first fault of its positions and its texture
  refusal-is : refusal_of_mesh (Refine options) mesh ≡ first_of (refine_faults options mesh)
  refusal-is = refusal-of-others options.depth mesh fine (refine_faults options mesh)

  -- the fault of the positions is the refusal of the mesh
  pub positions-found : (fault : Fault) → IsPositionFault options mesh fault → IsFound fault (refusal_of_mesh (Refine options) mesh)
  positions-found fault found =
      subst (IsFound fault) (sym refusal-is) (found-here fault (position_faults options mesh) (cond mesh.has_texture (texture_faults options mesh) []) found)

  -- if the positions have no fault, the mesh is refused for the first fault of its texture
  module _ (none : position_faults options mesh ≡ []) where
    texture-refusal : (textured : Bool) → mesh.has_texture ≡ textured → refusal_of_mesh (Refine options) mesh ≡ first_of (cond textured (texture_faults options mesh) [])
    texture-refusal textured is =
        refusal-is ∙ ap (λ xs. first_of (xs ++ cond mesh.has_texture (texture_faults options mesh) [])) none ∙ ap (λ b. first_of (cond b (texture_faults options mesh) [])) is

    pub texture-found : (fault : Fault) → IsTextureFault options mesh fault → IsFound fault (refusal_of_mesh (Refine options) mesh)
    texture-found fault found = subst (IsFound fault) (sym (texture-refusal true found.0)) found.1

    pub none-found : (texture : Option RefinedTexture) → IsTextureOf options mesh texture → refusal_of_mesh (Refine options) mesh ≡ None
    none-found None is = texture-refusal false is
    none-found (Some texture) is = texture-refusal true is.0 ∙ ap first_of is.2.fine

-- The lines that are written are those of the definitions.

textured-is : (textured : Bool) (with without : List ℕ) → textured ≡ true → cond textured with without ≡ with
textured-is true with without h = refl
textured-is false with without h = absurd (cc)

plain-is : (textured : Bool) (with without : List ℕ) → textured ≡ false → cond textured with without ≡ without
plain-is true with without h = absurd (cc)
plain-is false with without h = refl

-- the lines of the tags, if the options ask for them
tags-are : (tags : Bool) (level : Level) → tag_lines tags level ≡ written_tags tags level
tags-are true level = refl
tags-are false level = refl

module _ (mesh : ObjMesh) (options : RefineOptions) (refined : RefinedMesh) (form : MeshForm) (over : refined.common ≡ mesh.common) (rounded : form.decimals ≡ options.decimals)
    (tagged : form.tags ≡ options.tags)
    (are : AreRefined (asked_of options.by) mesh options.depth refined.level refined.values.items) where
  abbrev points : List Point
  points = points_of mesh.common refined.values.items

  abbrev last : Level
  last = refined_level (base_level mesh) options.depth

  abbrev cut_last : Level
  cut_last = refined_level (cut_level (seams_of options.uv) mesh) options.depth

  lines-are : (texture : Option RefinedTexture) → IsTextureOf options mesh texture →
      lines_of texture refined form
      ≡ cond mesh.has_texture (textured_mesh_text options.decimals options.tags last (points_after mesh options.depth) cut_last (texture_after mesh options.uv options.depth))
      (mesh_text options.decimals options.tags last (points_after mesh options.depth))
  lines-are None is =
      ap (λ common. mesh_text form.decimals form.tags refined.level.level (points_of common refined.values.items)) over
      ∙ ap (λ digits. mesh_text digits form.tags refined.level.level points) rounded
      ∙ ap (λ holes. mesh_text options.decimals holes refined.level.level points) tagged
      ∙ ap (λ level. mesh_text options.decimals options.tags level points) are.level_is
      ∙ sym (mesh_text-same options.decimals options.tags last (points_after mesh options.depth) points are.positive (written-denominators mesh.common refined.values.items are.written) are.same)
      ∙ sym (plain-is mesh.has_texture _ (mesh_text options.decimals options.tags last (points_after mesh options.depth)) is)
  lines-are (Some texture) is =
      let values = texture_points_of mesh.texture_common texture.values.items in
      ap (λ common. textured_mesh_text form.decimals form.tags refined.level.level (points_of common refined.values.items) texture.level.level (texture_points_of texture.common texture.values.items)) over
      ∙ ap (λ common. textured_mesh_text form.decimals form.tags refined.level.level points texture.level.level (texture_points_of common texture.values.items)) is.1
      ∙ ap (λ digits. textured_mesh_text digits form.tags refined.level.level points texture.level.level values) rounded
      ∙ ap (λ holes. textured_mesh_text options.decimals holes refined.level.level points texture.level.level values) tagged
      ∙ ap (λ level. textured_mesh_text options.decimals options.tags level points texture.level.level values) are.level_is
      ∙ ap (λ level. textured_mesh_text options.decimals options.tags last points level values) is.2.level_is
      ∙ sym (textured_mesh_text-same options.decimals options.tags last (points_after mesh options.depth) points cut_last (texture_after mesh options.uv options.depth) values
      are.positive (written-denominators mesh.common refined.values.items are.written) are.same
      is.2.positive (written-texture-denominators mesh.texture_common texture.values.items is.2.written) is.2.same)
      ∙ sym (textured-is mesh.has_texture (textured_mesh_text options.decimals options.tags last (points_after mesh options.depth) cut_last (texture_after mesh options.uv options.depth)) _ is.0)

  text-is : IsTextureOf options mesh refined.texture → refined_text refined form ≡ written_text (Refine options) mesh
  unfolding written_text
  text-is is =
      ap (λ level. lines_of refined.texture refined form ++ tag_lines form.tags level) are.level_is
      ∙ ap (λ tags. lines_of refined.texture refined form ++ tag_lines tags last) tagged
      ∙ ap (λ text. lines_of refined.texture refined form ++ text) (tags-are options.tags last)
      ∙ ap (λ text. text ++ written_tags options.tags last) (lines-are refined.texture is)

-- all of these lines can be written
texture-can : (mesh : ObjMesh) (options : RefineOptions) (level : Topology) (values : List (Valued Point3)) (texture : Option RefinedTexture) →
    AreRefined (asked_of options.by) mesh options.depth level values → IsTextureOf options mesh texture → IfSome texture (CanTextureBePut level.level)
texture-can mesh options level values None are is = tt
texture-can mesh options level values (Some texture) are is = record {
  written = subst (λ common. All (CanTextureBeWritten common) texture.values.items) (sym is.1) is.2.written;
  alike = ap (λ l. map length l.polygons) is.2.level_is ∙ cut-alike (seams_of options.uv) mesh options.depth ∙ ap (λ l. map length l.polygons) (sym are.level_is);
}

-- the refined mesh is the reply
pub refined-reply : (mesh : ObjMesh) (options : RefineOptions) (refined : RefinedMesh) (form : MeshForm) → IsSmallManifold options.depth mesh → IfSome options.decimals (λ digits. digits ≤ 18) →
    refined.common ≡ mesh.common → form.decimals ≡ options.decimals → form.tags ≡ options.tags →
    AreRefined (asked_of options.by) mesh options.depth refined.level refined.values.items → IsTextureOf options mesh refined.texture →
    IsReplyTo (Refine options) mesh (Refined refined form)
refined-reply mesh options refined form fine short over rounded tagged are is = record {
  good = none-found mesh options fine are.fine refined.texture is;
  says = text-is mesh options refined form over rounded tagged are is;
  put = record {
    written = subst (λ common. All (CanBeWritten common) refined.values.items) (sym over) are.written;
    texture = texture-can mesh options refined.level refined.values.items refined.texture are is;
    decimals = subst (λ decimals. IfSome decimals (λ digits. digits ≤ 18)) (sym rounded) short;
  };
}
