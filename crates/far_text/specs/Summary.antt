-- The summary of a sheet of the command `gen`: the sheet, its table at a depth, and the last point of that level.
-- Source: this profile.
use Rattle.std.specs.Prelude.{ℕ, List, [], ◌∷◌, ◌++◌, codes}
use Rattle.subdiv_model.specs.NumberText.{number_text}
use Rattle.subdiv_model.specs.Text.{line_text}
use Rattle.subdiv_model.specs.Text.{point_words}
use Rattle.far_text.specs.Points.{CanBeWritten, point_of}
use Rattle.ratio128.specs.declared.valued.Valued.{Valued}
use Rattle.ratio128.specs.declared.point.Point3.{Point3}
use Rattle.far_text.specs.declared.summary.Summary.{Summary}

-- the line with the numbers of points and faces of the sheet
abbrev pub sheet_line : ℕ → ℕ → List ℕ
sheet_line points faces = line_text (codes "gen") (codes "points" ∷ number_text points ∷ codes "faces" ∷ number_text faces ∷ [])

-- the line with the depth, the counts of the level and of the table, and the greatest denominator
abbrev pub depth_line : Summary → List ℕ
depth_line summary =
    line_text (codes "level")
    (number_text summary.depth
    ∷ codes "points" ∷ number_text summary.level_points
    ∷ codes "faces" ∷ number_text summary.level_faces
    ∷ codes "entries" ∷ number_text summary.entries
    ∷ codes "den" ∷ number_text summary.greatest
    ∷ [])

-- the line of a point whose numerators are over its own denominator
abbrev pub last_point_line : Valued Point3 → List ℕ
last_point_line last = line_text (codes "last") (point_words (point_of 1 last))

-- the three lines of a summary
abbrev pub summary_text : Summary → List ℕ
summary_text summary = sheet_line summary.points summary.faces ++ (depth_line summary ++ last_point_line summary.last)

-- the numbers of the last point can be written
abbrev pub CanSummaryBeWritten : Summary → Type 0
CanSummaryBeWritten summary = CanBeWritten 1 summary.last
