-- The tags of each text have well formed sharpnesses, and the common denominators of each text are above 0.
use Rattle.std.proofs.Common.{ℕ, ◌^◌, ◌<◌, List, lit<}
use Rattle.std.specs.List.{filter, flat_map}
use Rattle.subdiv_model.specs.ObjLine.{is_vertex_line}
use Rattle.subdiv_model.specs.ReadObj.{is_texture_line, kept_coordinates, obj_lines, read_obj_mesh}
use Rattle.obj_laws.proofs.NumeralValueLemmas.{tens}
use Rattle.text_laws.proofs.PointLemmas.{common-positive}
use Rattle.sharpness_laws.proofs.TagLemmas.{creases-proper, corners-proper}
use Rattle.level_laws.specs.Tags.{HasProperTags}

pub read-proper : (text : List ℕ) (least : ℕ) → HasProperTags (read_obj_mesh text least)
read-proper text least = record { creases = creases-proper (obj_lines text); corner_tags = corners-proper (obj_lines text) }

pub read-common : (text : List ℕ) (least : ℕ) → 0 < (read_obj_mesh text least).common
read-common text least = common-positive (10 ^ least) (flat_map kept_coordinates (filter is_vertex_line (obj_lines text))) (tens least)

pub read-texture-common : (text : List ℕ) (least : ℕ) → 0 < (read_obj_mesh text least).texture_common
read-texture-common text least = common-positive 1 (flat_map kept_coordinates (filter is_texture_line (obj_lines text))) (lit< tt)
