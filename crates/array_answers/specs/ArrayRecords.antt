-- The records of refused arrays and floats, which no run of the program has.
use Rattle.std.specs.Prelude.{ℕ}
use Rattle.raw_mesh.specs.declared.fault.BadPart.{BadPart}
use Rattle.raw_mesh.specs.declared.fault.BadPart.TheVariants.{PointScale, TextureScale, Point, TextureValue, FaceCount, CornerCount, FaceSizes, TextureCornerCount, Corner, TextureCorner, Crease, CornerTag, Hole}
use Rattle.nearest_float.specs.declared.fault.FloatFault.{FloatFault}
use Rattle.nearest_float.specs.declared.fault.FloatFault.TheVariants.{NotFinite, TooWide}
use Rattle.array_answers.specs.declared.record.FaultRecord.{FaultRecord}

-- the record with this status, kind, first number and second number
abbrev pub row : ℕ → ℕ → ℕ → ℕ → FaultRecord
row status kind first second = record { status = status; kind = kind; first = first; second = second }

-- a refused part of a mesh, with its place in its array
abbrev pub record_of_bad_part : BadPart → FaultRecord
record_of_bad_part PointScale = row 17 0 0 0
record_of_bad_part TextureScale = row 17 1 0 0
record_of_bad_part (Point place) = row 17 2 place 0
record_of_bad_part (TextureValue place) = row 17 3 place 0
record_of_bad_part FaceCount = row 17 4 0 0
record_of_bad_part CornerCount = row 17 5 0 0
record_of_bad_part FaceSizes = row 17 6 0 0
record_of_bad_part TextureCornerCount = row 17 7 0 0
record_of_bad_part (Corner place) = row 17 8 place 0
record_of_bad_part (TextureCorner place) = row 17 9 place 0
record_of_bad_part (Crease place) = row 17 10 place 0
record_of_bad_part (CornerTag place) = row 17 11 place 0
record_of_bad_part (Hole place) = row 17 12 place 0

-- a float at a place of a list whose exact fraction does not exist or does not fit
abbrev pub record_of_bad_number : ℕ → FloatFault → FaultRecord
record_of_bad_number place NotFinite = row 18 0 place 0
record_of_bad_number place TooWide = row 18 1 place 0
