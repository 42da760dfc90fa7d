-- The types of this crate as those of the definitions.
use Rattle.std.specs.Prelude.{ℕ, List, map, Option, Some, None, Result}
use Rattle.std.specs.Result.{result_map_both}
use Rattle.far_model.specs.Words as words
use Rattle.far_model.specs.Command as model
use Rattle.far_words.specs.declared.table.ValueKind.{ValueKind}
use Rattle.far_words.specs.declared.table.ValueKind.TheVariants.{Number, OneOf}
use Rattle.far_words.specs.declared.table.OptionRule.{OptionRule}
use Rattle.far_words.specs.declared.table.CommandRule.{CommandRule}
use Rattle.far_words.specs.declared.command.Uv.{Uv}
use Rattle.far_words.specs.declared.command.Uv.TheVariants.{Smooth, Corners, Boundaries, Linear}
use Rattle.far_words.specs.declared.command.By.{By}
use Rattle.far_words.specs.declared.command.By.TheVariants.{Table, Level}
use Rattle.far_words.specs.declared.command.RefineOptions.{RefineOptions}
use Rattle.far_words.specs.declared.command.Select.{Select}
use Rattle.far_words.specs.declared.command.Select.TheVariants.{Feature, All}
use Rattle.far_words.specs.declared.command.SparseUv.{SparseUv}
use Rattle.far_words.specs.declared.command.SparseUv.TheVariants as texture
use Rattle.far_words.specs.declared.command.SparseOptions.{SparseOptions}
use Rattle.far_words.specs.declared.command.LimitOptions.{LimitOptions}
use Rattle.far_words.specs.declared.command.PatchOptions.{PatchOptions}
use Rattle.far_words.specs.declared.command.MapOptions.{MapOptions}
use Rattle.far_words.specs.declared.command.GenOptions.{GenOptions}
use Rattle.far_words.specs.declared.command.FramesOptions.{FramesOptions}
use Rattle.far_words.specs.declared.command.ReadCommand.{ReadCommand}
use Rattle.far_words.specs.declared.command.ReadCommand.TheVariants.{Refine, Sparse, Stencils, Limit, Levels, Patch, Map}
use Rattle.far_words.specs.declared.command.StoredCommand.{StoredCommand}
use Rattle.far_words.specs.declared.command.StoredCommand.TheVariants.{Verify, Apply}
use Rattle.far_words.specs.declared.command.MakeCommand.{MakeCommand}
use Rattle.far_words.specs.declared.command.MakeCommand.TheVariants.{Gen}
use Rattle.far_words.specs.declared.command.StreamCommand.{StreamCommand}
use Rattle.far_words.specs.declared.command.StreamCommand.TheVariants.{Frames}
use Rattle.far_words.specs.declared.command.Command.{Command}
use Rattle.far_words.specs.declared.command.Command.TheVariants.{Read, Stored, Make, Stream}

-- A kind of values as in the definitions.
abbrev pub kind_of_code : ValueKind → words.ValueKind
kind_of_code (Number least greatest) = words.Number least greatest
kind_of_code (OneOf names) = words.OneOf (map (λ name. name.now) names.now)

-- An option of the table as in the definitions.
abbrev pub option_of_code : OptionRule → words.OptionRule
option_of_code rule = record { name = rule.name.now; kind = kind_of_code rule.kind; required = rule.required }

-- A command of the table as in the definitions.
abbrev pub rule_of_code : CommandRule → words.CommandRule
rule_of_code rule = record { name = rule.name.now; options = map option_of_code rule.options.now }

-- A table as in the definitions.
abbrev pub table_of_code : List CommandRule → List words.CommandRule
table_of_code table = map rule_of_code table

-- A refinement of the texture as in the definitions.
abbrev pub uv_of_code : Uv → model.Uv
uv_of_code Smooth = model.SmoothUv
uv_of_code Corners = model.CornersUv
uv_of_code Boundaries = model.BoundariesUv
uv_of_code Linear = model.LinearUv

-- A way to compute as in the definitions.
abbrev pub by_of_code : By → model.By
by_of_code Table = model.ByTable
by_of_code Level = model.ByLevel

-- The options of `refine` as in the definitions.
abbrev pub refine_of_code : RefineOptions → model.RefineOptions
refine_of_code options = record {
  depth = options.depth;
  decimals = options.decimals;
  uv = uv_of_code options.uv;
  by = by_of_code options.by;
  tags = options.tags;
}

-- A selection of faces as in the definitions.
abbrev pub select_of_code : Select → model.Select
select_of_code Feature = model.FeatureFaces
select_of_code All = model.AllFaces

-- How the texture of sparse levels is refined, if it is written.
abbrev pub sparse_uv_of_code : SparseUv → Option model.Uv
sparse_uv_of_code texture.NoTexture = None
sparse_uv_of_code texture.Smooth = Some model.SmoothUv
sparse_uv_of_code texture.Corners = Some model.CornersUv
sparse_uv_of_code texture.Boundaries = Some model.BoundariesUv
sparse_uv_of_code texture.Linear = Some model.LinearUv

-- The options of `sparse` as in the definitions.
abbrev pub sparse_of_code : SparseOptions → model.SparseOptions
sparse_of_code options =
    record { depth = options.depth; select = select_of_code options.select; decimals = options.decimals; uv = sparse_uv_of_code options.uv }

-- The options of `limit` as in the definitions.
abbrev pub limit_of_code : LimitOptions → model.LimitOptions
limit_of_code options = record { depth = options.depth; decimals = options.decimals }

-- The options of `patch` as in the definitions.
abbrev pub patch_of_code : PatchOptions → model.PatchOptions
patch_of_code options = record { depth = options.depth; face = options.face; grid = options.grid }

-- The options of `map` as in the definitions.
abbrev pub map_of_code : MapOptions → model.MapOptions
map_of_code options =
    record { depth = options.depth; face = options.face; grid = options.grid; corner = options.corner; select = select_of_code options.select }

-- The options of `gen` as in the definitions.
abbrev pub gen_of_code : GenOptions → model.GenOptions
gen_of_code options = record { seed = options.seed; size = options.size; depth = options.depth }

-- The options of `frames` as in the definitions.
abbrev pub frames_of_code : FramesOptions → model.FramesOptions
frames_of_code options = record { depth = options.depth; scale = options.scale }

-- A command that reads a mesh, as in the definitions.
abbrev pub read_of_code : ReadCommand → model.ReadCommand
read_of_code (Refine options) = model.Refine (refine_of_code options)
read_of_code (Sparse options) = model.Sparse (sparse_of_code options)
read_of_code (Stencils depth) = model.Stencils depth
read_of_code (Limit options) = model.Limit (limit_of_code options)
read_of_code (Levels depth) = model.Levels depth
read_of_code (Patch options) = model.Patch (patch_of_code options)
read_of_code (Map options) = model.Map (map_of_code options)

-- A command that takes a stored table, as in the definitions.
abbrev pub stored_of_code : StoredCommand → model.StoredCommand
stored_of_code (Verify depth) = model.Verify depth
stored_of_code Apply = model.Apply

-- A command that makes its mesh, as in the definitions.
abbrev pub make_of_code : MakeCommand → model.MakeCommand
make_of_code (Gen options) = model.Gen (gen_of_code options)

-- A command that writes while it reads, as in the definitions.
abbrev pub stream_of_code : StreamCommand → model.StreamCommand
stream_of_code (Frames options) = model.Frames (frames_of_code options)

-- A command as in the definitions.
abbrev pub command_of_code : Command → model.Command
command_of_code (Read command) = model.Reads (read_of_code command)
command_of_code (Stored command) = model.Stored (stored_of_code command)
command_of_code (Make command) = model.Makes (make_of_code command)
command_of_code (Stream command) = model.Streams (stream_of_code command)

-- The result of reading: a command, or the place of the first bad word.
abbrev pub result_of_code : Result Command ℕ → Result model.Command ℕ
result_of_code result = result_map_both command_of_code (λ word. word) result
