use Rattle.std.proofs.Common.{length, arith, ◌∙◌}
use Rattle.std.proofs.lemmas.List.{get_or_default}
use Rattle.stencil_apply.proofs.ArrayLemmas.{ascend-at}
use Rattle.stencil_session.proofs.parts.Parts.part.Goals as goal

pub returns-clause-forward : goal.returns-clause-forward
returns-clause-forward c =
    let parts = c.args.self.now in
    let h = ascend-at 0 parts.ends.items (length parts.rows.items) c.args.control c.requires.packed.ascend c.requires.inside in
    let to = c.index.ensures ∙ get_or_default parts.ends.items c.args.control c.index.result.now 0 c.requires.inside in
    omega (arith, h.0, to, c.start.ensures)

pub returns-clause-within : goal.returns-clause-within
returns-clause-within c =
    let parts = c.args.self.now in
    let h = ascend-at 0 parts.ends.items (length parts.rows.items) c.args.control c.requires.packed.ascend c.requires.inside in
    let to = c.index.ensures ∙ get_or_default parts.ends.items c.args.control c.index.result.now 0 c.requires.inside in
    omega (arith, h.1, to)
