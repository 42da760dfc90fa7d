use Rattle.std.proofs.Common.{◌≡◌, length, map, take, drop}
use Rattle.level_walk.specs.Origins.{number_of}
use Rattle.level_walk.specs.OriginsView.{seen_origin}
use Rattle.level_walk.proofs.origin_places.put_numbers.Given as goal

-- the numbers so far
abbrev pub invariant-loop-i : goal.invariant-loop-i
invariant-loop-i l = record {
  written : take l.i l.out ≡ map number_of (map seen_origin (take l.i l.origins));
  rest : drop (length l.origins) l.out ≡ drop (length l.origins) l.fn.out;
  len : length l.out ≡ length l.fn.out;
}
