-- The lines of levels, from the counts of each.
use Rattle.std.proofs.Common.{◌≡◌, ℕ, zero, suc, ◌+◌, ◌<◌, ◌≤◌, List, ◌++◌, length, map, take, take_all, get_or, pos, arith, refl, ap, sym, ◌∙◌}
use Rattle.std.specs.List.{flat_map, range_with_len, enumerate_from}
use Rattle.std.proofs.lemmas.List.{length-map, get_or-map}
use Rattle.std.proofs.lemmas.List.FromFn.{get_or-enumerate_from, length-enumerate_from}
use Rattle.subdiv_model.specs.Level.{Level}
use Rattle.subdiv_model.specs.Child.{refined_level}
use Rattle.subdiv_model.specs.LevelText.{level_line, levels_text}
use Rattle.level_walk.specs.declared.counts.LevelCounts.{LevelCounts}
use Rattle.level_walk.specs.Counts.{Counts, counts_of}
use Rattle.far_text.specs.Levels.{counts_line, numbered_line, levels_lines}
use Rattle.level_walk.specs.CountsView.{seen_counts}

-- counts of no level
pub none : ℕ × Counts
none = (0, record { points = 0; edges = 0; faces = 0; euler = pos 0; boundary = 0; holes = 0; sharp = 0; extraordinary = 0 })

abbrev pub numbered : List LevelCounts → List (ℕ × Counts)
numbered counts = enumerate_from 0 (map seen_counts counts)

count-numbered : (counts : List LevelCounts) → length (numbered counts) ≡ length counts
count-numbered counts = length-enumerate_from 0 (map seen_counts counts) ∙ length-map counts seen_counts

pub within-numbered : (counts : List LevelCounts) (k : ℕ) → k < length counts → k < length (numbered counts)
within-numbered counts k h = omega (arith, h, count-numbered counts)

-- the line of the level at a place
pub line-at : (counts : List LevelCounts) (k number : ℕ) (d : LevelCounts) → k < length counts → number ≡ k → counts_line number (seen_counts (get_or counts k d)) ≡ numbered_line (get_or (numbered counts) k none)
line-at counts k number d h same =
    let place : number ≡ 0 + k = omega (arith, same) in
    ap (λ n. counts_line n (seen_counts (get_or counts k d))) place
    ∙ ap (counts_line (0 + k)) (sym (get_or-map seen_counts counts k d none.1 h))
    ∙ ap numbered_line (sym (get_or-enumerate_from 0 (map seen_counts counts) k none (omega (arith, h, length-map counts seen_counts))))

pub all-lines : (counts : List LevelCounts) (k : ℕ) → length counts ≤ k → flat_map numbered_line (take k (numbered counts)) ≡ levels_lines 0 (map seen_counts counts)
all-lines counts k past = ap (flat_map numbered_line) (take_all k (numbered counts) (omega (arith, past, count-numbered counts)))

-- the text of the levels is that of their counts
lines-over : (level : ℕ → Level) (first count : ℕ) → flat_map (λ k. level_line k (level k)) (range_with_len first count) ≡ levels_lines first (map (λ k. counts_of (level k)) (range_with_len first count))
lines-over level first zero = refl
lines-over level first (suc count) = ap (λ rest. level_line first (level first) ++ rest) (lines-over level (first + 1) count)

pub lines-of-levels : (base : Level) (depth : ℕ) → levels_text base depth ≡ levels_lines 0 (map (λ k. counts_of (refined_level base k)) (range_with_len 0 (depth + 1)))
lines-of-levels base depth = lines-over (refined_level base) 0 (depth + 1)
