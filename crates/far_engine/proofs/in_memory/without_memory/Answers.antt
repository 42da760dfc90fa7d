use Rattle.std.proofs.Common.{rules, refl, ◌∙◌}
use Rattle.far_engine.proofs.MemorySliceLemmas.{from-nothing, without-memory}
use Rattle.far_engine.proofs.in_memory.without_memory.Goals as goal

pub returns : goal.returns
returns c = λ words input.
    let line = from-nothing _ _ _ c.put_memory_line.ensures.added c.new-reports.ensures.empty in
    let before = c.put_memory_line.ensures.kept.same_before ∙ c.new-reports.ensures.before in
    let found =
    without-memory words input c.args.out.now c.args.errors.now _ c.put_memory_line.new.errors (record { status = c.status.result; written = 0; reported = c.finish.result })
    line c.status.ensures refl before c.finish.ensures.stored c.finish.ensures.total in
    search (rules, found)
