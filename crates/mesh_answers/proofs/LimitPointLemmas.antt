-- The text of the points that the table of limit points gives.
use Rattle.std.proofs.Common.{◌≡◌, ◌<◌, ◌≤◌, false, List, ◌++◌, map, None, IfSome, ap, sym, subst, ◌∙◌}
use Rattle.std.specs.List.{All}
use Rattle.std.proofs.lemmas.List.{append-nil}
use Rattle.subdiv_model.specs.Level.{Level}
use Rattle.subdiv_model.specs.Base.{base_level}
use Rattle.subdiv_model.specs.Child.{refined_level}
use Rattle.subdiv_model.specs.Mask.{Mask}
use Rattle.subdiv_model.specs.ObjMesh.{ObjMesh}
use Rattle.subdiv_model.specs.Limit.{limit_masks}
use Rattle.subdiv_model.specs.Text.{mesh_text}
use Rattle.far_model.specs.Command.{Limit, LimitOptions}
use Rattle.far_model.specs.Answer.{limit_points_after}
use Rattle.raw_mesh.specs.View as reader
use Rattle.level_topology.specs.Topology.{Topology}
use Rattle.ratio128.specs.declared.point.Point3.{Point3}
use Rattle.ratio128.specs.declared.valued.Valued.{Valued}
use Rattle.primvar_refine.specs.View.{rows_of}
use Rattle.channel_refine.specs.Evaluated.{evaluated}
use Rattle.channel_refine.specs.declared.compose.ComposedChannel.{ComposedChannel}
use Rattle.far_text.specs.Points.{points_of, CanBeWritten}
use Rattle.far_text.specs.Mesh.{CanTextureBePut, lines_of, refined_text, tag_lines}
use Rattle.far_text.specs.declared.mesh.MeshForm.{MeshForm}
use Rattle.far_text.specs.declared.mesh.RefinedMesh.{RefinedMesh}
use Rattle.far_text.specs.declared.reply.Reply.TheVariants.{Refined}
use Rattle.far_text.proofs.SameTextLemmas.{mesh_text-same, written-denominators}
use Rattle.mesh_answers.specs.Limits.{AreLimitRows}
use Rattle.mesh_answers.specs.Replies.{IsReplyTo, written_text}
use Rattle.mesh_answers.proofs.MaskPointLemmas.{masks-denominators, masks-same, masks-written}
use Rattle.mesh_answers.proofs.PointLemmas.{numbers}

-- The level of a mesh with the table of its limit points, and the points that the table gives from those of the mesh.
module _ (mesh : ObjMesh) (options : LimitOptions) (limits : ComposedChannel) (is : AreLimitRows mesh options.depth limits)
    (points : List Point3) (said : map reader.point_of points ≡ mesh.points) (some : 0 < mesh.common) where
  abbrev last : Level
  last = refined_level (base_level mesh) options.depth

  abbrev masks : List Mask
  masks = limit_masks last

  module _ (values : List (Valued Point3)) (made : rows_of numbers values ≡ evaluated limits.table (map numbers points)) where
    limits-written : All (CanBeWritten mesh.common) values
    limits-written = masks-written mesh options.depth masks limits.table is.rows points said values made some

    limits-text : mesh_text options.decimals false limits.level.level (points_of mesh.common values) ≡ mesh_text options.decimals false last (limit_points_after mesh options.depth)
    limits-text =
        ap (λ level. mesh_text options.decimals false level (points_of mesh.common values)) is.level_is
        ∙ sym (mesh_text-same options.decimals false last (limit_points_after mesh options.depth) (points_of mesh.common values)
        (masks-denominators mesh options.depth masks limits.table is.rows points said values made some)
        (written-denominators mesh.common values limits-written)
        (masks-same mesh options.depth masks limits.table is.rows points said values made))

  -- The points are the reply.
  module _ (refined : RefinedMesh) (form : MeshForm) (level : refined.level ≡ limits.level) (over : refined.common ≡ mesh.common) (plain : refined.texture ≡ None)
      (rounded : form.decimals ≡ options.decimals) (untagged : form.tags ≡ false)
      (made : rows_of numbers refined.values.items ≡ evaluated limits.table (map numbers points)) where
    text-is : refined_text refined form ≡ written_text (Limit options) mesh
    unfolding written_text
    text-is =
        let values = refined.values.items in
        ap (λ texture. lines_of texture refined form ++ tag_lines form.tags refined.level.level) plain
        ∙ ap (λ tags. mesh_text form.decimals tags refined.level.level (points_of refined.common values) ++ tag_lines tags refined.level.level) untagged
        ∙ append-nil (mesh_text form.decimals false refined.level.level (points_of refined.common values))
        ∙ ap (λ digits. mesh_text digits false refined.level.level (points_of refined.common values)) rounded
        ∙ ap (λ common. mesh_text options.decimals false refined.level.level (points_of common values)) over
        ∙ ap (λ (t : Topology). mesh_text options.decimals false t.level (points_of mesh.common values)) level
        ∙ limits-text values made

    pub limit-reply : IfSome options.decimals (λ digits. digits ≤ 18) → IsReplyTo (Limit options) mesh (Refined refined form)
    limit-reply short = record {
      good = is.good;
      says = text-is;
      put = record {
        written = subst (λ common. All (CanBeWritten common) refined.values.items) (sym over) (limits-written refined.values.items made);
        texture = subst (λ texture. IfSome texture (CanTextureBePut refined.level.level)) (sym plain) tt;
        decimals = subst (λ decimals. IfSome decimals (λ digits. digits ≤ 18)) (sym rounded) short;
      };
    }
