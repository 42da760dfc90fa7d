use Rattle.std.proofs.Common.{take}
use Rattle.stencil_factory.specs.MaskRows.{AreRowDenominators}
use Rattle.stencil_factory.proofs.mask_table.denominators_of_rows.Given as goal

-- `dens` has the denominators of the first rows.
abbrev pub invariant-loop-row : goal.invariant-loop-row
invariant-loop-row g l = AreRowDenominators (g.M.PointMasks.level l.masks) l.table (take l.row (g.M.PointMasks.masks l.masks)) l.dens.items
