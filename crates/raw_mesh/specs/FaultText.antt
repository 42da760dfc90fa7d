-- The texts of the faults of parts, with places counted from 0.
use Rattle.std.specs.Prelude.{ℕ, List, ◌++◌, codes}
use Rattle.subdiv_model.specs.NumberText.{number_text}
use Rattle.raw_mesh.specs.declared.fault.BadPart.{BadPart}
use Rattle.raw_mesh.specs.declared.fault.BadPart.TheVariants.{PointScale, TextureScale, Point, TextureValue, FaceCount, CornerCount, FaceSizes, TextureCornerCount, Corner, TextureCorner, Crease, CornerTag, Hole}
use Rattle.raw_mesh.specs.declared.fault.PartsFault.{PartsFault}
use Rattle.raw_mesh.specs.declared.fault.PartsFault.TheVariants.{Bad, Memory}

-- the first part at fault
abbrev pub bad_part_text : BadPart → List ℕ
bad_part_text PointScale = codes "the scale of the points is not from 1 to 10^37"
bad_part_text TextureScale = codes "the scale of the texture values is not from 1 to 10^37"
bad_part_text (Point place) = codes "point " ++ (number_text place ++ codes " has more than 37 digits")
bad_part_text (TextureValue place) = codes "texture value " ++ (number_text place ++ codes " has more than 37 digits")
bad_part_text FaceCount = codes "more than 2^28 faces"
bad_part_text CornerCount = codes "2^27 corners or more"
bad_part_text FaceSizes = codes "the face sizes do not add up to the number of corners"
bad_part_text TextureCornerCount = codes "not as many texture corners as corners"
bad_part_text (Corner place) = codes "corner " ++ (number_text place ++ codes " names no point")
bad_part_text (TextureCorner place) = codes "texture corner " ++ (number_text place ++ codes " names no texture value")
bad_part_text (Crease place) = codes "crease " ++ (number_text place ++ codes " names no point")
bad_part_text (CornerTag place) = codes "corner tag " ++ (number_text place ++ codes " names no point")
bad_part_text (Hole place) = codes "hole " ++ (number_text place ++ codes " names no face")

-- the fault that kept parts from becoming a mesh
abbrev pub parts_fault_text : PartsFault → List ℕ
parts_fault_text (Bad part) = bad_part_text part
parts_fault_text Memory = codes "out of memory"
