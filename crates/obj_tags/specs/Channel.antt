-- What the reader keeps of the lines of positions and of texture values, over the common denominators of their channels.
use Rattle.std.specs.Prelude.{ℕ, suc, ◌/◌, ◌^◌, ◌<◌, ◌≤◌, ◌≡◌, ℤ, pos, ◌*ℤ◌, unsigned_abs, Bool, true, false, min, List, [], ◌∷◌, ◌++◌, map, take, drop, get_or, length, Option, Some, None, option_map, MatchOption, codes}
use Rattle.std.specs.List.{list_any, filter, count_by}
use Rattle.subdiv_model.specs.ObjLine.{is_vertex_line}
use Rattle.subdiv_model.specs.ObjWord.{number_over}
use Rattle.subdiv_model.specs.ReadObj.{is_texture_line, is_long_over, long_fault, first_fault, point_over, texture_over}
use Rattle.obj_text.specs.declared.numeral.Numeral.{Numeral}
use Rattle.obj_tags.specs.declared.channel.Positions.{Positions}
use Rattle.obj_tags.specs.declared.channel.TextureValues.{TextureValues}
use Rattle.ratio128.specs.declared.point.Point3.{Point3}
use Rattle.ratio128.specs.declared.point.Point2.{Point2}
use Rattle.obj_tags.specs.Line.{Line}
use Rattle.obj_tags.specs.Survey.{long_fault_at}
use Rattle.raw_mesh.specs.View.{point_of, texture_of}

-- A numeral as an integer over a common denominator.
abbrev pub over_common : ℕ → Numeral → ℤ
over_common common n = n.num *ℤ pos (common / n.den)

-- The number, if it has at most 37 digits.
abbrev pub IsShortNumber : Option ℤ → ℤ → Type 0
IsShortNumber read z = MatchOption read (10 ^ 37 ≤ unsigned_abs z) (λ x. (x ≡ z) × (unsigned_abs z < 10 ^ 37))

-- Some word gives a number that is too long over a common denominator.
abbrev pub are_long : ℕ → List (List ℕ) → Bool
are_long common words = list_any (is_long_over common) words

-- The point of a line with these words after its keyword, if its numbers are short enough.
abbrev pub IsPointOver : ℕ → Option Point3 → List (List ℕ) → Type 0
IsPointOver common read words =
    MatchOption read (are_long common (take 3 words) ≡ true)
    (λ p. (are_long common (take 3 words) ≡ false)
    × (point_of p ≡ (number_over common (get_or words 0 []), number_over common (get_or words 1 []), number_over common (get_or words 2 []))))

-- The texture value of a line with these words after its keyword, if its numbers are short enough. A missing second coordinate counts as 0.
abbrev pub IsTextureOver : ℕ → Option Point2 → List (List ℕ) → Type 0
IsTextureOver common read words =
    MatchOption read (are_long common (take 2 words) ≡ true)
    (λ p. (are_long common (take 2 words) ≡ false)
    × (texture_of p ≡ (number_over common (get_or words 0 []), number_over common (get_or words 1 (codes "0")))))

-- The point of three numbers, if all of them exist.
abbrev pub point_from : Option ℤ → Option ℤ → Option ℤ → Option Point3
point_from None y z = None
point_from (Some x) None z = None
point_from (Some x) (Some y) None = None
point_from (Some x) (Some y) (Some z) = Some (record { x = x; y = y; z = z })

-- The texture value of two numbers, if both exist.
abbrev pub texture_from : Option ℤ → Option ℤ → Option Point2
texture_from None v = None
texture_from (Some u) None = None
texture_from (Some u) (Some v) = Some (record { u = u; v = v })

-- The point, or zeros without a point.
abbrev pub point_or_origin : Option Point3 → Point3
point_or_origin None = record { x = pos 0; y = pos 0; z = pos 0 }
point_or_origin (Some p) = p

-- The texture value, or zeros without a value.
abbrev pub texture_or_origin : Option Point2 → Point2
texture_or_origin None = record { u = pos 0; v = pos 0 }
texture_or_origin (Some p) = p

-- The numbers of the lines of a channel over its common denominator, until one is too long, and the first line with one that is.
pub record IsChannelOf (Q : Type 0) (kind : Line → Bool) (over : ℕ → Line → Q) (common : ℕ) (numbers : List Q) (long : Option ℕ) (lines : List Line) : Type 0 where
  pub count : length numbers ≡ count_by kind lines
  pub kept : long ≡ None → numbers ≡ map (over common) (filter kind lines)
  pub first : option_map long_fault_at long ≡ first_fault (long_fault kind common lines) (length lines)

-- The kept positions are those of the lines.
abbrev pub ArePositions : ℕ → Positions → List Line → Type 0
ArePositions common kept lines = IsChannelOf (ℤ × ℤ × ℤ) is_vertex_line point_over common (map point_of kept.points.items) kept.long lines

-- The kept texture values are those of the lines.
abbrev pub AreTextureValues : ℕ → TextureValues → List Line → Type 0
AreTextureValues common kept lines = IsChannelOf (ℤ × ℤ) is_texture_line texture_over common (map texture_of kept.points.items) kept.long lines

-- The positions after line `number`, which has these words after its keyword.
abbrev pub AddsPosition : ℕ → ℕ → List (List ℕ) → Positions → Positions → Type 0
AddsPosition common number words old new =
    (before : List Line) (line : Line) → ArePositions common old before → is_vertex_line line ≡ true → drop 1 line ≡ words → number ≡ suc (length before)
    → ArePositions common new (before ++ line ∷ [])

-- The texture values after line `number`, which has these words after its keyword.
abbrev pub AddsTextureValue : ℕ → ℕ → List (List ℕ) → TextureValues → TextureValues → Type 0
AddsTextureValue common number words old new =
    (before : List Line) (line : Line) → AreTextureValues common old before → is_texture_line line ≡ true → drop 1 line ≡ words → number ≡ suc (length before)
    → AreTextureValues common new (before ++ line ∷ [])

-- The first line with a number that is too long, after one more line.
abbrev pub first_long : Option ℕ → ℕ → Bool → Option ℕ
first_long (Some line) number long = Some line
first_long None number true = Some number
first_long None number false = None

-- The lesser of two lines, or the only one.
abbrev pub lesser_line : Option ℕ → Option ℕ → Option ℕ
lesser_line None b = b
lesser_line (Some a) None = Some a
lesser_line (Some a) (Some b) = Some (min a b)
