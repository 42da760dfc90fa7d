-- What the values of a tag say, given its counts.
use Rattle.std.specs.Option.{option_or}
use Rattle.std.specs.Prelude.{ℕ, ◌≡◌, true, List, ◌++◌, map, take, drop, zip, length, Option, Some, unsigned_abs}
use Rattle.subdiv_model.specs.ObjFault as fault
use Rattle.subdiv_model.specs.ObjWord.{Counts}
use Rattle.subdiv_model.specs.Sharpness as model
use Rattle.subdiv_model.specs.Index.{index_of}
use Rattle.subdiv_model.specs.Numeral.{numeral_amount}
use Rattle.subdiv_model.specs.ObjTag.{tag_name, tag_counts, tag_values, kind_of_name, fits_counts, tag_fault, tag_index_fault, tag_numeral_fault, chain_pairs, for_each}
use Rattle.raw_mesh.specs.View.{crease_of, corner_tag_of}
use Rattle.raw_mesh.specs.declared.tags.CornerTag.{CornerTag}
use Rattle.raw_mesh.specs.declared.tags.Crease.{Crease}
use Rattle.sharpness_rules.specs.View.{sharpness_of}
use Rattle.sharpness_rules.specs.declared.sharpness.Sharpness.{Sharpness}
use Rattle.obj_tags.specs.Counts.{AreCountsOf}
use Rattle.obj_tags.specs.Line.{Line}
use Rattle.obj_tags.specs.View.{kind_of}
use Rattle.obj_tags.specs.declared.tag_counts.TagCounts.{TagCounts}
use Rattle.obj_tags.specs.declared.tag_counts.TagKind.{TagKind}

-- The first fault among the values of a tag: its indices, then its sharpnesses.
abbrev pub value_fault : ℕ → TagCounts → List (List ℕ) → Option fault.ObjCause
value_fault points counts words =
    option_or (fault.first_cause (tag_index_fault points) (take counts.integers words))
    (fault.first_cause tag_numeral_fault (take counts.numerals (drop counts.integers words)))

-- The index that a word spells.
abbrev pub index_said : List ℕ → ℕ
index_said word = unsigned_abs (index_of word)

-- The sharpness that a word spells.
abbrev pub sharpness_said : List ℕ → model.Sharpness
sharpness_said word = model.sharpness_of_fraction (numeral_amount word)

-- The indices of a tag with these counts.
abbrev pub indices_said : TagCounts → List (List ℕ) → List ℕ
indices_said counts words = map index_said (take counts.integers words)

-- The sharpnesses of a tag with these counts.
abbrev pub sharpnesses_said : TagCounts → List (List ℕ) → List model.Sharpness
sharpnesses_said counts words = map sharpness_said (take counts.numerals (drop counts.integers words))

-- The indices and the sharpnesses read from the words of a tag.
pub record AreSaid (indices : List ℕ) (sharpnesses : List Sharpness) (counts : TagCounts) (words : List (List ℕ)) : Type 0 where
  pub vertices : indices ≡ indices_said counts words
  pub values : map sharpness_of sharpnesses ≡ sharpnesses_said counts words

-- The pairs of a chain, with one sharpness for all or one for each.
abbrev pub chain_creases : List ℕ → List model.Sharpness → List ((ℕ × ℕ) × model.Sharpness)
chain_creases vertices values = zip (chain_pairs vertices) (for_each (length (chain_pairs vertices)) values)

-- The points of a corner tag, with one sharpness for all or one for each.
abbrev pub vertex_tags : List ℕ → List model.Sharpness → List (ℕ × model.Sharpness)
vertex_tags vertices values = zip vertices (for_each (length vertices) values)

-- A tag line with an unknown name, or with counts that do not fit, is bad in every text.
abbrev pub IsBadTag : Line → Type 0
IsBadTag line = (whole : Counts) → tag_fault whole line ≡ Some fault.BadTag

-- The kind and the counts of a tag line, and the words after them.
pub record IsHeadOf (kind : TagKind) (counts : TagCounts) (left : List (List ℕ)) (line : Line) : Type 0 where
  pub name : kind_of_name (tag_name line) ≡ Some (kind_of kind)
  pub fits : fits_counts (kind_of kind) line ≡ true
  pub numbers : AreCountsOf counts (tag_counts line)
  pub rest : left ≡ tag_values line

-- A crease for each edge of a chain follows the creases before it.
abbrev pub AddsChain : TagCounts → List (List ℕ) → List Crease → List Crease → Type 0
AddsChain counts words before after =
    map crease_of after ≡ map crease_of before ++ chain_creases (indices_said counts words) (sharpnesses_said counts words)

-- The points of a corner tag follow the points before them.
abbrev pub AddsCorners : TagCounts → List (List ℕ) → List CornerTag → List CornerTag → Type 0
AddsCorners counts words before after =
    map corner_tag_of after ≡ map corner_tag_of before ++ vertex_tags (indices_said counts words) (sharpnesses_said counts words)

-- The first fault among the indices of a tag.
abbrev pub index_fault : ℕ → TagCounts → List (List ℕ) → Option fault.ObjCause
index_fault faces counts words = fault.first_cause (tag_index_fault faces) (take counts.integers words)
