use Rattle.std.proofs.Common.{◌≡◌, ◌+◌, ◌≤◌, length, map, min, replicate, take}
use Rattle.std.specs.Vec.{vec_capacity}
use Rattle.subdiv_model.specs.Channel.{entry_bound}
use Rattle.stencil_factory.specs.MaskRows.{mask_entries}
use Rattle.stencil_factory.proofs.MaskValueLemmas.{AreRowValues}
use Rattle.stencil_factory.proofs.evaluate.push_values.Given as goal

-- The values are those of the first masks. The steps are the entries of these rows, at most 2^27.
abbrev pub invariant-loop-row : goal.invariant-loop-row
invariant-loop-row g l = record {
  clear : l.buffers.sums ≡ replicate l.table.controls 0;
  values : AreRowValues (g.M.PointMasks.level l.masks) (take l.row (g.M.PointMasks.masks l.masks)) l.table (map g.P.Primvar.numbers l.controls) (map (λ v. (g.P.Primvar.numbers v.value, v.den)) l.values.items);
  fits : min (length (g.M.PointMasks.masks l.masks)) entry_bound ≤ vec_capacity l.values;
  entries : l.entries ≡ mask_entries (g.M.PointMasks.level l.masks) l.table (take l.row (g.M.PointMasks.masks l.masks));
  few : l.entries ≤ entry_bound;
  taken : l.steps ≡ l.fn.steps + l.entries;
}
