use Rattle.std.proofs.Common.{ℕ, ◌^◌, ◌≤◌, List, length, None, subst, sym}
use Rattle.far_words.specs.View.{frames_of_code}
use Rattle.far_engine.proofs.PartLemmas.{part-before, part-made, part-ended}
use Rattle.far_engine.proofs.mesh_part.part_of_text.Goals as goal

pub part_before-requires-clause-short : goal.part_before-requires-clause-short
part_before-requires-clause-short g c = ((rw c.in-Ok-Closed.field-0-is at c.in-Ok-Closed.ensures.found) (frames_of_code c.args.options.now)).read.short

pub part_of-requires-clause-short : goal.part_of-requires-clause-short
part_of-requires-clause-short g c =
    let short = ((rw c.in-Ok-Last.field-0-is at c.in-Ok-Last.ensures.found) (frames_of_code c.args.options.now)).read.short in
    subst (λ (bytes : List ℕ). length bytes ≤ 2 ^ 28) (sym c.before-in-Ok-Last.ensures) short

pub part_of-requires-in-Ok-Input-clause-short : goal.part_of-requires-in-Ok-Input-clause-short
part_of-requires-in-Ok-Input-clause-short g c =
    let short = ((rw c.in-Ok-Input.field-0-is at c.in-Ok-Input.ensures.found) (frames_of_code c.args.options.now)).read.short in
    subst (λ (bytes : List ℕ). length bytes ≤ 2 ^ 28) (sym c.passed.ensures) short

pub returns-in-Ok-Closed : goal.returns-in-Ok-Closed
returns-in-Ok-Closed g c =
    let options = frames_of_code c.args.options.now in
    part-before g.S.Source options _ _ c.seek_frames.new.text _ ((rw c.in-Ok-Closed.field-0-is at c.in-Ok-Closed.ensures.found) options) _ c.part_before.ensures.mesh c.part_before.ensures.lines

pub returns-in-Ok-Last : goal.returns-in-Ok-Last
returns-in-Ok-Last g c =
    let options = frames_of_code c.args.options.now in
    part-made g.S.Source options _ _ _ None ((rw c.in-Ok-Last.field-0-is at c.in-Ok-Last.ensures.found) options) _ (rw c.before-in-Ok-Last.ensures at c.part_of.ensures.mesh) c.part_of.ensures.lines

pub returns-in-Ok-Input : goal.returns-in-Ok-Input
returns-in-Ok-Input g c =
    let options = frames_of_code c.args.options.now in
    part-made g.S.Source options _ _ _ None ((rw c.in-Ok-Input.field-0-is at c.in-Ok-Input.ensures.found) options) _ (rw c.passed.ensures at c.part_of-in-Ok-Input.ensures.mesh)
    c.part_of-in-Ok-Input.ensures.lines

pub returns-in-Err : goal.returns-in-Err
returns-in-Err g c =
    part-ended g.S.Source (frames_of_code c.args.options.now) _ _ _ _ c.fault_of_input.ensures (c.in-Err.ensures.found (frames_of_code c.args.options.now))
