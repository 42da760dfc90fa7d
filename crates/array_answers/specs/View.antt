-- Requested rows as those of the definitions.
use Rattle.far_words.specs.View.{patch_of_code, uv_of_code}
use Rattle.array_answers.specs.Asked.{Rows, PointRows, LimitPointRows, PatchRows, TextureRows}
use Rattle.array_answers.specs.declared.request.AskedRows.{AskedRows}
use Rattle.array_answers.specs.declared.request.AskedRows.TheVariants.{Points, Limits, Patch, Texture}

-- requested rows as those of the definitions
abbrev pub rows_of_code : AskedRows → Rows
rows_of_code (Points depth) = PointRows depth
rows_of_code (Limits depth) = LimitPointRows depth
rows_of_code (Patch options) = PatchRows (patch_of_code options)
rows_of_code (Texture uv depth) = TextureRows (uv_of_code uv) depth
