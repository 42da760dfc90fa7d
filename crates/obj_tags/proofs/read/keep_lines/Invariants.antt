use Rattle.std.proofs.Common.{◌≡◌, ℕ, ◌+◌, ◌<◌, ◌≤◌, None, length, map, drop}
use Rattle.subdiv_model.specs.ObjLine.{lines_of, line_words}
use Rattle.subdiv_model.specs.ReadObj.{fault_at}
use Rattle.obj_tags.specs.Draft.{IsDraftOf}
use Rattle.obj_tags.proofs.read.keep_lines.Given as goal

-- the lines so far have no fault, and what was kept is theirs
abbrev pub invariant-loop-line : goal.invariant-loop-line
invariant-loop-line l = record {
  left : map line_words (lines_of l.rest) ≡ drop l.number (map line_words (lines_of l.text));
  within : l.number ≤ length (map line_words (lines_of l.text));
  good : (i : ℕ) → i < l.number → fault_at (map line_words (lines_of l.text)) i ≡ None;
  kept : IsDraftOf l.all l.draft (map line_words (lines_of l.text)) l.number;
  corners : length l.draft.faces.corners.items + length l.rest ≤ length l.text;
  bound : l.number + length l.rest ≤ length l.text;
}

abbrev pub decreases-loop-line : goal.decreases-loop-line
decreases-loop-line l = length l.rest
