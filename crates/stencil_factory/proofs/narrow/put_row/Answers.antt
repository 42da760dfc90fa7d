use Rattle.std.proofs.Common.{◌+◌, ◌^◌, ◌≤◌, arith, ap, sym, subst, take, length}
use Rattle.std.proofs.lemmas.List.{length-map}
use Rattle.stencil_apply.specs.Table.{Share, Table, IsRow, entries_of}
use Rattle.stencil_factory.specs.Composing.{AreComposedRows}
use Rattle.stencil_factory.proofs.ComposedLemmas.{next-rows, few-rows, entries-next}
use Rattle.stencil_factory.proofs.narrow.put_row.Goals as goal

pub put_entries-requires-clause-row : goal.put_entries-requires-clause-row
put_entries-requires-clause-row g c =
    subst (λ n. IsRow n (record { den = c.in_ok-den.den; shares = c.compose_row.new.buffers.entries })) (sym c.requires.same)
    (c.in_ok-den.ensures.row (omega (arith, c.if-den-eq0.false))).is

pub put_entries-requires-clause-rows : goal.put_entries-requires-clause-rows
put_entries-requires-clause-rows g c =
    few-rows (g.M.PointMasks.level c.args.masks.now) c.args.table.now (g.M.PointMasks.masks c.args.masks.now) c.args.row c.args.builder.now.table.rows
    (record { den = c.in_ok-den.den; shares = c.compose_row.new.buffers.entries }) c.requires.known c.requires.done (c.in_ok-den.ensures.row (omega (arith, c.if-den-eq0.false)))
    (omega (
      arith,
      c.requires.few,
      c.if-indices-left.false,
      c.room-left.ensures.entries,
      ap length c.indices.ensures,
      length-map c.compose_row.new.buffers.entries (λ (share : Share). share.0),
    ))

pub returns-clause-few : goal.returns-clause-few
returns-clause-few g c =
    subst (λ (t : Table). entries_of t.rows + c.put_entries.new.builder.room_entries ≤ 2 ^ 27) (sym c.in_ok-put_entries.ensures.added)
    (omega (
      arith,
      c.requires.few,
      c.if-indices-left.false,
      c.room-left.ensures.entries,
      c.in_ok-put_entries.ensures.capacity,
      ap length c.indices.ensures,
      length-map c.compose_row.new.buffers.entries (λ (share : Share). share.0),
      entries-next c.args.builder.now.table.rows (record { den = c.in_ok-den.den; shares = c.compose_row.new.buffers.entries }),
    ))

pub returns-clause-done : goal.returns-clause-done
returns-clause-done g c put =
    subst (λ (t : Table). AreComposedRows (g.M.PointMasks.level c.args.masks.now) c.args.table.now (take (c.args.row + 1) (g.M.PointMasks.masks c.args.masks.now)) t.rows)
    (sym c.in_ok-put_entries.ensures.added)
    (next-rows (g.M.PointMasks.level c.args.masks.now) c.args.table.now (g.M.PointMasks.masks c.args.masks.now) c.args.row c.args.builder.now.table.rows
    (record { den = c.in_ok-den.den; shares = c.compose_row.new.buffers.entries }) c.requires.known c.requires.done (c.in_ok-den.ensures.row (omega (arith, c.if-den-eq0.false))))
