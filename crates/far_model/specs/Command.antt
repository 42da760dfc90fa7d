-- Commands as values: the words of a command line with its options filled in.
-- Source: Drillolive.
use Rattle.std.specs.Prelude.{ℕ, ◌<◌, ◌≤◌, ◌^◌, Bool, List, [], ◌∷◌, Option, Some, None, Result, Ok, Err, bytes_eq, codes, unwrap_or, IfSome, if◌then◌else◌}
use Rattle.far_model.specs.Words.{CommandRule, command_table, usage_of, value_of, number_of, required_number}

-- how the texture is cut and refined
pub data Uv : Type 0 where
  SmoothUv : Uv
  CornersUv : Uv
  BoundariesUv : Uv
  LinearUv : Uv

-- refinement by stencil tables, or level by level
pub data By : Type 0 where
  ByTable : By
  ByLevel : By

-- the options of `refine`
pub record RefineOptions : Type 0 where
  pub depth : ℕ
  -- the number of decimals to round to, or none for lowest terms
  pub decimals : Option ℕ
  pub uv : Uv
  pub by : By
  -- with the tags of the last level
  pub tags : Bool

-- the faces that are refined further: features, or all faces but holes
pub data Select : Type 0 where
  FeatureFaces : Select
  AllFaces : Select

-- the options of `sparse`
pub record SparseOptions : Type 0 where
  pub depth : ℕ
  pub select : Select
  -- the number of decimals to round to, or none for lowest terms
  pub decimals : Option ℕ
  -- how the texture is cut and refined, or none for no texture
  pub uv : Option Uv

-- the options of `limit`
pub record LimitOptions : Type 0 where
  pub depth : ℕ
  -- the number of decimals to round to, or none for lowest terms
  pub decimals : Option ℕ

-- the options of `patch`: the depth, a face of that level, and the number of steps of the grid along a side
pub record PatchOptions : Type 0 where
  pub depth : ℕ
  pub face : ℕ
  pub grid : ℕ

-- The options of `map`: the depth, a face of the mesh, the number of steps of the grid along a side, and the selected faces. On a
-- face that is no quad, the places lie on the child of a corner.
pub record MapOptions : Type 0 where
  pub depth : ℕ
  pub face : ℕ
  pub grid : ℕ
  pub corner : ℕ
  pub select : Select

-- the options of `gen`: the sheet, and the depth
pub record GenOptions : Type 0 where
  pub seed : ℕ
  pub size : ℕ
  pub depth : ℕ

-- the options of `frames`: the depth, and a power of ten that divides the common denominator
pub record FramesOptions : Type 0 where
  pub depth : ℕ
  pub scale : ℕ

-- the commands that read a mesh, then answer
pub data ReadCommand : Type 0 where
  Refine : RefineOptions → ReadCommand
  Sparse : SparseOptions → ReadCommand
  -- the depth
  Stencils : ℕ → ReadCommand
  Limit : LimitOptions → ReadCommand
  -- the depth
  Levels : ℕ → ReadCommand
  Patch : PatchOptions → ReadCommand
  Map : MapOptions → ReadCommand

-- the commands that make their mesh and read nothing
pub data MakeCommand : Type 0 where
  Gen : GenOptions → MakeCommand

-- the commands that answer while they read
pub data StreamCommand : Type 0 where
  Frames : FramesOptions → StreamCommand

-- The commands that read a stored table, then answer. `verify` compares it with the table of a mesh, and `apply` evaluates it
-- over the points of a mesh.
pub data StoredCommand : Type 0 where
  -- the depth
  Verify : ℕ → StoredCommand
  Apply : StoredCommand

-- every command, by how it uses its input
pub data Command : Type 0 where
  Reads : ReadCommand → Command
  Stored : StoredCommand → Command
  Makes : MakeCommand → Command
  Streams : StreamCommand → Command

-- the texture option of a name; other names mean the first one
abbrev pub uv_of : List ℕ → Uv
uv_of value =
    if bytes_eq value (codes "corners") then CornersUv
    else if bytes_eq value (codes "boundaries") then BoundariesUv
    else if bytes_eq value (codes "linear") then LinearUv
    else SmoothUv

-- the path of a name; other names mean the first one
abbrev pub by_of : List ℕ → By
by_of value = if bytes_eq value (codes "level") then ByLevel else ByTable

-- the name asks for tags
abbrev pub tags_of : List ℕ → Bool
tags_of value = bytes_eq value (codes "yes")

-- the options of `refine` from their words
abbrev pub refine_of : List (List ℕ) → RefineOptions
refine_of options = record {
  depth = required_number options (codes "depth");
  decimals = number_of options (codes "decimals");
  uv = uv_of (unwrap_or (value_of options (codes "uv")) (codes "smooth"));
  by = by_of (unwrap_or (value_of options (codes "by")) (codes "table"));
  tags = tags_of (unwrap_or (value_of options (codes "tags")) (codes "no"));
}

-- the selection of a name; other names mean the first one
abbrev pub select_of : List ℕ → Select
select_of value = if bytes_eq value (codes "all") then AllFaces else FeatureFaces

-- the texture option of a name, or none for `none`
abbrev pub sparse_uv_of : List ℕ → Option Uv
sparse_uv_of value = if bytes_eq value (codes "none") then None else Some (uv_of value)

-- the options of `sparse` from their words
abbrev pub sparse_of : List (List ℕ) → SparseOptions
sparse_of options = record {
  depth = required_number options (codes "depth");
  select = select_of (unwrap_or (value_of options (codes "select")) (codes "feature"));
  decimals = number_of options (codes "decimals");
  uv = sparse_uv_of (unwrap_or (value_of options (codes "uv")) (codes "none"));
}

-- the options of `limit` from their words
abbrev pub limit_of : List (List ℕ) → LimitOptions
limit_of options = record { depth = required_number options (codes "depth"); decimals = number_of options (codes "decimals") }

-- the options of `patch` from their words
abbrev pub patch_of : List (List ℕ) → PatchOptions
patch_of options = record {
  depth = required_number options (codes "depth");
  face = required_number options (codes "face");
  grid = required_number options (codes "grid");
}

-- the options of `map` from their words
abbrev pub map_of : List (List ℕ) → MapOptions
map_of options = record {
  depth = required_number options (codes "depth");
  face = required_number options (codes "face");
  grid = required_number options (codes "grid");
  corner = required_number options (codes "corner");
  select = select_of (unwrap_or (value_of options (codes "select")) (codes "feature"));
}

-- the options of `gen` from their words
abbrev pub gen_of : List (List ℕ) → GenOptions
gen_of options = record {
  seed = required_number options (codes "seed");
  size = required_number options (codes "size");
  depth = required_number options (codes "depth");
}

-- the options of `frames` from their words
abbrev pub frames_of : List (List ℕ) → FramesOptions
frames_of options = record { depth = required_number options (codes "depth"); scale = required_number options (codes "scale") }

-- the command of this name with these options, from a valid command line
abbrev pub command_named : List ℕ → List (List ℕ) → Command
command_named name options =
    if bytes_eq name (codes "refine") then Reads (Refine (refine_of options))
    else if bytes_eq name (codes "sparse") then Reads (Sparse (sparse_of options))
    else if bytes_eq name (codes "stencils") then Reads (Stencils (required_number options (codes "depth")))
    else if bytes_eq name (codes "limit") then Reads (Limit (limit_of options))
    else if bytes_eq name (codes "frames") then Streams (Frames (frames_of options))
    else if bytes_eq name (codes "levels") then Reads (Levels (required_number options (codes "depth")))
    else if bytes_eq name (codes "patch") then Reads (Patch (patch_of options))
    else if bytes_eq name (codes "map") then Reads (Map (map_of options))
    else if bytes_eq name (codes "verify") then Stored (Verify (required_number options (codes "depth")))
    else if bytes_eq name (codes "apply") then Stored Apply
    else Makes (Gen (gen_of options))

-- the command of a valid command line
abbrev pub command_of : List (List ℕ) → Command
command_of [] = Reads (Levels 0)
command_of (name ∷ options) = command_named name options

-- the place of the first bad word, or else the command
abbrev pub read_or : Option ℕ → List (List ℕ) → Result Command ℕ
read_or (Some word) words = Err word
read_or None words = Ok (command_of words)

-- the command that the words give by a table of commands, or the place of the first bad word
abbrev pub read_words_by : List CommandRule → List (List ℕ) → Result Command ℕ
read_words_by table words = read_or (usage_of table words) words

-- the command of a command line, or the place of the first bad word
abbrev pub read_words : List (List ℕ) → Result Command ℕ
read_words words = read_words_by command_table words

-- The numbers of a command are those that the table of words allows. The depth is at most 10, and at least 1 for limit points.
-- Decimals and the scale are at most 18. A face is below 2^22, or below 2^20 of a mesh, and a corner is below 2^16. A grid is
-- from 1 to 64, or to 256 for `map`, and a size is from 1 to 256.
abbrev pub IsReadInRange : ReadCommand → Type 0
IsReadInRange (Refine options) = (options.depth ≤ 10) × IfSome options.decimals (λ digits. digits ≤ 18)
IsReadInRange (Sparse options) = (options.depth ≤ 10) × IfSome options.decimals (λ digits. digits ≤ 18)
IsReadInRange (Stencils depth) = depth ≤ 10
IsReadInRange (Limit options) = (1 ≤ options.depth) × (options.depth ≤ 10) × IfSome options.decimals (λ digits. digits ≤ 18)
IsReadInRange (Levels depth) = depth ≤ 10
IsReadInRange (Patch options) = (options.depth ≤ 10) × (options.face < 2 ^ 22) × (1 ≤ options.grid) × (options.grid ≤ 64)
IsReadInRange (Map options) =
    (options.depth ≤ 10) × (options.face < 2 ^ 20) × (1 ≤ options.grid) × (options.grid ≤ 256) × (options.corner < 2 ^ 16)

-- the depth of `verify` is at most 10
abbrev pub IsStoredInRange : StoredCommand → Type 0
IsStoredInRange (Verify depth) = depth ≤ 10
IsStoredInRange Apply = Unit {0}

-- the size of `gen` is from 1 to 256, and its depth is at most 10
abbrev pub IsMakeInRange : MakeCommand → Type 0
IsMakeInRange (Gen options) = (1 ≤ options.size) × (options.size ≤ 256) × (options.depth ≤ 10)

-- the depth of `frames` is at most 10, and its scale is at most 18
abbrev pub IsStreamInRange : StreamCommand → Type 0
IsStreamInRange (Frames options) = (options.depth ≤ 10) × (options.scale ≤ 18)

-- the numbers of a command are in their ranges
abbrev pub IsInRange : Command → Type 0
IsInRange (Reads command) = IsReadInRange command
IsInRange (Stored command) = IsStoredInRange command
IsInRange (Makes command) = IsMakeInRange command
IsInRange (Streams command) = IsStreamInRange command
