-- What `refine` writes with tags is refined further as the mesh that it came from.
use Rattle.std.proofs.Common.{◌≡◌, ℕ, ◌+◌, ◌++◌, Bool, false, List, None, refl, ap, sym, subst, ◌∙◌}
use Rattle.subdiv_model.specs.ObjMesh.{ObjMesh}
use Rattle.subdiv_model.specs.ReadObj.{obj_lines, read_obj_fault, read_obj_mesh}
use Rattle.subdiv_model.specs.Mask.{CatmullClark}
use Rattle.subdiv_model.specs.Text.{mesh_text}
use Rattle.mask_laws.specs.Laws.{mesh_level}
use Rattle.continued_laws.specs.Laws.{IsContinuation, point_lines}
use Rattle.continued_laws.proofs.MeshLemmas.{second-base, second-fault, levels-on, lines-on, texts-on}
use Rattle.text_laws.specs.ReadMesh.{IsReadBack, HasNoTexture}
use Rattle.text_laws.specs.Readable.{IsReadable, IsTextureReadable}
use Rattle.far_model.specs.Command.{ReadCommand, Reads, Refine}
use Rattle.far_model.specs.Answer.{IsAcceptedMesh, points_after, written_tags}
use Rattle.theorems.specs.Continued.{TaggedText, tagged_text, first_mesh, second_mesh, written_level, written_points, written_texture, HasShortNumbers, FurtherSteps, text_after, text_at_once, vertex_lines}
use Rattle.theorems.proofs.AnswerLemmas.{IsWrittenOf, bytes-written}
use Rattle.theorems.proofs.WrittenMeshLemmas.{IsSound, sound, level-corners, is-continuation, plain-text, text-back, text-untextured, text-read}
use Rattle.theorems.proofs.VertexLineLemmas.{written-vertices}

module _ (given : TaggedText) where
  written : IsWrittenOf (Refine given.options) given.bytes
  written = bytes-written (Refine given.options) given.bytes given.accepted

  first-sound : IsSound (first_mesh given)
  first-sound = sound given.bytes written.read_well written.is_mesh

  pub continuation : IsContinuation CatmullClark given.options.depth (first_mesh given) (second_mesh given)
  continuation =
      is-continuation (first_mesh given) first-sound given.options.depth (second_mesh given)
      (subst (λ text. IsReadBack (mesh_level (first_mesh given) given.options.depth) (points_after (first_mesh given) given.options.depth) (read_obj_mesh text 0))
      (sym written.text) (text-back given.options (first_mesh given) given.exact given.tagged first-sound))

  second-untextured : (first_mesh given).has_texture ≡ false → (second_mesh given).has_texture ≡ false
  second-untextured none =
      (subst (λ text. HasNoTexture (read_obj_mesh text 0)) (sym written.text)
      (text-untextured given.options (first_mesh given) given.exact given.tagged first-sound none)).none

  pub text-without-fault : HasShortNumbers given → read_obj_fault (tagged_text given) 0 ≡ None
  text-without-fault short =
      let first = first_mesh given in
      let depth = given.options.depth in
      let readable : IsReadable (written_level given) (written_points given) (second_mesh given) =
      record {
        corners = level-corners first first-sound depth;
        values = short.points;
        edges = short.edges;
        vertices = short.vertices;
        common = short.common;
        numbers = short.numbers;
      } in
      ap (λ text. read_obj_fault text 0) written.text
      ∙ text-read given.options first given.exact given.tagged first-sound
      (subst (λ text. IsReadable (written_level given) (written_points given) (read_obj_mesh text 0)) written.text readable)
      (λ some. subst (λ text. IsTextureReadable (written_texture given) (read_obj_mesh text 0)) written.text (short.texture some))

  pub accepted : (command : ReadCommand) → read_obj_fault (tagged_text given) 0 ≡ None
      → IsAcceptedMesh (Reads command) (tagged_text given) (second_mesh given)
  accepted command fine = (fine, refl, second-fault CatmullClark given.options.depth (first_mesh given) (second_mesh given) continuation)

  pub level-again : mesh_level (second_mesh given) 0 ≡ mesh_level (first_mesh given) given.options.depth
  level-again = second-base CatmullClark given.options.depth (first_mesh given) (second_mesh given) continuation

  pub levels-again : (j : ℕ) → mesh_level (second_mesh given) j ≡ mesh_level (first_mesh given) (given.options.depth + j)
  levels-again = levels-on CatmullClark given.options.depth (first_mesh given) (second_mesh given) continuation

  pub points-again : (j : ℕ) → point_lines (points_after (second_mesh given) j) ≡ point_lines (points_after (first_mesh given) (given.options.depth + j))
  points-again = lines-on CatmullClark given.options.depth (first_mesh given) (second_mesh given) continuation

module _ (given : TaggedText) (steps : FurtherSteps given) where
  after : IsWrittenOf (Refine steps.after) (tagged_text given)
  after = bytes-written (Refine steps.after) (tagged_text given) steps.accepted_after

  at-once : IsWrittenOf (Refine steps.at_once) given.bytes
  at-once = bytes-written (Refine steps.at_once) given.bytes steps.accepted_at_once

  pub lines-again : vertex_lines (text_after steps) ≡ vertex_lines (text_at_once steps)
  lines-again =
      ap vertex_lines after.text
      ∙ written-vertices steps.after (second_mesh given) steps.exact_after
      ∙ ap obj_lines (points-again given steps.after.depth)
      ∙ ap (λ n. obj_lines (point_lines (points_after (first_mesh given) n))) (sym steps.depths)
      ∙ sym (written-vertices steps.at_once (first_mesh given) steps.exact_at_once)
      ∙ ap vertex_lines (sym at-once.text)

  -- the text of a mesh without texture at a depth, with or without tags
  abbrev plain : ObjMesh → Bool → ℕ → List ℕ
  plain mesh tags n = mesh_text None tags (mesh_level mesh n) (points_after mesh n) ++ written_tags tags (mesh_level mesh n)

  plain-again : (tags : Bool) → plain (second_mesh given) tags steps.after.depth ≡ plain (first_mesh given) tags steps.at_once.depth
  plain-again tags =
      ap (λ text. text ++ written_tags tags (mesh_level (second_mesh given) steps.after.depth))
      (texts-on CatmullClark given.options.depth (first_mesh given) (second_mesh given) (continuation given) tags steps.after.depth)
      ∙ ap (λ level. mesh_text None tags (mesh_level (first_mesh given) (given.options.depth + steps.after.depth))
      (points_after (first_mesh given) (given.options.depth + steps.after.depth)) ++ written_tags tags level)
      (levels-again given steps.after.depth)
      ∙ ap (plain (first_mesh given) tags) (sym steps.depths)

  pub texts-again : (first_mesh given).has_texture ≡ false → steps.after.tags ≡ steps.at_once.tags → text_after steps ≡ text_at_once steps
  texts-again none alike =
      after.text
      ∙ plain-text steps.after (second_mesh given) steps.exact_after (second-untextured given none)
      ∙ plain-again steps.after.tags
      ∙ ap (λ tags. plain (first_mesh given) tags steps.at_once.depth) alike
      ∙ sym (plain-text steps.at_once (first_mesh given) steps.exact_at_once none)
      ∙ sym at-once.text
