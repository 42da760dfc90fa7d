-- The common denominator of each channel, found line by line.
use Rattle.std.specs.Prelude.{ℕ, suc, ◌≡◌, ◌^◌, ◌<◌, ◌≤◌, nat_le, Bool, List, [], ◌∷◌, length, Some, None, is_none, is_some, option_map, if◌then◌else◌}
use Rattle.std.specs.List.{fold, filter}
use Rattle.subdiv_model.specs.Multiples.{lcm_of}
use Rattle.subdiv_model.specs.ObjFault.{ObjFault, NumberRange}
use Rattle.subdiv_model.specs.ObjLine.{is_vertex_line}
use Rattle.subdiv_model.specs.ObjWord.{numeral_fault}
use Rattle.subdiv_model.specs.ReadObj.{is_texture_line, kept_coordinates, denominator_of, common_over, passes_bound, wide_fault, first_fault}
use Rattle.obj_tags.specs.Line.{Line}
use Rattle.obj_tags.specs.declared.survey.Common.{Common}
use Rattle.obj_tags.specs.declared.survey.Survey.{Survey}

-- The common denominator is from 1 to 10^37.
pub record IsBounded (common : Common) : Type 0 where
  pub positive : 0 < common.value
  pub short : common.value ≤ 10 ^ 37

-- The common denominator becomes this multiple if it is at most 10^37. Otherwise the channel is too wide from this line on.
abbrev pub raised : ℕ → Common → ℕ → Common
raised number common multiple =
    if nat_le multiple (10 ^ 37) then record { value = multiple; wide = common.wide } else record { value = common.value; wide = Some number }

-- The common denominator after a denominator of the line with this number, unless the channel is already too wide.
abbrev pub with_denominator : ℕ → Common → ℕ → Common
with_denominator number common den = if is_some common.wide then common else raised number common (lcm_of common.value den)

-- The common denominator after the denominator of a word, unless the word is faulty.
abbrev pub with_word : ℕ → Common → List ℕ → Common
with_word number common word = if is_none (numeral_fault word) then with_denominator number common (denominator_of word) else common

-- The common denominator after the denominators of a line, if the line belongs to the channel.
abbrev pub with_line : (Line → Bool) → ℕ → Common → Line → Common
with_line kind number common line = if kind line then fold (with_word number) common (kept_coordinates line) else common

-- The common denominator after the denominators of lines, the first of which has this number.
abbrev pub surveyed : (Line → Bool) → ℕ → Common → List Line → Common
surveyed kind number common [] = common
surveyed kind number common (line ∷ lines) = surveyed kind (suc number) (with_line kind number common line) lines

-- The common denominators of lines, good or bad. Those of the positions start with a power of ten.
pub record IsSurveyOf (all : Survey) (least : ℕ) (lines : List Line) : Type 0 where
  pub positions : all.positions ≡ surveyed is_vertex_line 1 (record { value = 10 ^ least; wide = None }) lines
  pub texture : all.texture ≡ surveyed is_texture_line 1 (record { value = 1; wide = None }) lines

-- The fault of a line with a number that is too long.
abbrev pub long_fault_at : ℕ → ObjFault
long_fault_at line = record { line = line; cause = NumberRange }

-- The common denominator of a channel of good lines, or the first line at which it exceeds 10^37.
pub record IsCommonOf (kind : Line → Bool) (start : ℕ) (common : Common) (lines : List Line) : Type 0 where
  pub passes : is_some common.wide ≡ passes_bound kind start lines
  pub value : common.wide ≡ None → common.value ≡ common_over start (filter kind lines)
  pub first : option_map long_fault_at common.wide ≡ first_fault (wide_fault kind start lines) (length lines)

-- The common denominators of both channels.
pub record AreCommon (all : Survey) (least : ℕ) (lines : List Line) : Type 0 where
  pub positions : IsCommonOf is_vertex_line (10 ^ least) all.positions lines
  pub texture : IsCommonOf is_texture_line 1 all.texture lines
