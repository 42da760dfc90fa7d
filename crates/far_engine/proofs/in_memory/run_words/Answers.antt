use Rattle.std.proofs.Common.{rules, map, string_bytes, ◌∙◌}
use Rattle.far_engine.proofs.MemorySliceLemmas.{in-memory}
use Rattle.far_engine.proofs.in_memory.run_words.Goals as goal

pub returns : goal.returns
returns c =
    let before = c.run_streams-status.ensures.kept_out.same_before ∙ c.new-sink.ensures.before in
    let line_before = c.run_streams-status.ensures.kept_errors.same_before ∙ c.new-reports.ensures.before in
    let found =
    in-memory (map string_bytes c.args.words.now.items) c.args.input.now _ c.new-sink.result c.run_streams-status.new.sink c.new-sink.ensures.empty
    c.new.result c.new-reports.result c.run_streams-status.new.errors c.args.out.now _ c.args.errors.now _
    (record { status = c.run_streams-status.result; written = c.finish-written.result; reported = c.finish-reported.result })
    c.run_streams-status.ensures.runs c.new.ensures c.new-reports.ensures.empty before c.finish-written.ensures.stored c.finish-written.ensures.total
    line_before c.finish-reported.ensures.stored c.finish-reported.ensures.total in
    search (rules, found)
