-- The text of a reply, and the conditions for putting it.
use Rattle.std.specs.Prelude.{ℕ, List, map}
use Rattle.level_walk.specs.CountsView.{seen_counts}
use Rattle.far_text.specs.Levels.{levels_lines}
use Rattle.far_text.specs.Mesh.{CanBePut, refined_text}
use Rattle.far_text.specs.PatchLines.{CanPatchBePut, patch_lines}
use Rattle.far_text.specs.MapLines.{CanMapBePut, map_lines}
use Rattle.far_text.specs.Stored.{CanPointsBePut, agreement_line, point_lines}
use Rattle.far_text.specs.SparseLines.{CanSparseBePut, sparse_mesh_text}
use Rattle.far_text.specs.TexturedLines.{CanTexturedBePut, textured_text}
use Rattle.far_text.specs.Summary.{CanSummaryBeWritten, summary_text}
use Rattle.subdiv_model.specs.TableText.{text_of_table}
use Rattle.far_text.specs.declared.reply.Reply.{Reply}
use Rattle.far_text.specs.declared.reply.Reply.TheVariants.{Refined, Table, Counts, Sheet, Sparse, TexturedSparse, Patch, Map, Agreement, Points}

-- the text of a reply
abbrev pub reply_text : Reply → List ℕ
reply_text (Refined mesh form) = refined_text mesh form
reply_text (Table table) = text_of_table table
reply_text (Counts counts) = levels_lines 0 (map seen_counts counts.items)
reply_text (Sheet summary) = summary_text summary
reply_text (Sparse mesh) = sparse_mesh_text mesh
reply_text (TexturedSparse sparse) = textured_text sparse
reply_text (Patch patch) = patch_lines patch
reply_text (Map leaves) = map_lines leaves
reply_text (Agreement rows) = agreement_line rows
reply_text (Points points) = point_lines points

-- all numbers of the reply can be written
abbrev pub CanPut : Reply → Type 0
CanPut (Refined mesh form) = CanBePut mesh form
CanPut (Table table) = Unit {0}
CanPut (Counts counts) = Unit {0}
CanPut (Sheet summary) = CanSummaryBeWritten summary
CanPut (Sparse mesh) = CanSparseBePut mesh
CanPut (TexturedSparse sparse) = CanTexturedBePut sparse
CanPut (Patch patch) = CanPatchBePut patch
CanPut (Map leaves) = CanMapBePut leaves
CanPut (Agreement rows) = Unit {0}
CanPut (Points points) = CanPointsBePut points
