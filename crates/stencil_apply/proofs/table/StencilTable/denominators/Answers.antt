use Rattle.std.proofs.Common.{map, ap, rules, ◌∙◌}
use Rattle.stencil_apply.specs.Table.{Row, Table}
use Rattle.stencil_apply.proofs.TableLemmas.{dens_are}
use Rattle.stencil_apply.proofs.table.StencilTable.denominators.Goals as goal

pub returns : goal.returns
returns c =
    let d = dens_are c.self.inside.arrays c.self.invariant ∙ ap (λ (t : Table). map (λ (r : Row). r.den) t.rows) c.self.view_is in
    search (rules, d)
