use Rattle.std.proofs.Common.{ap, sym, ◌∙◌, length}
use Rattle.level_topology.proofs.FactLemmas.{faces-listed, regular-side, regular-corner, regular-neither}
use Rattle.level_topology.proofs.level.Level.is_regular_on_boundary.Goals as goal

pub returns-then-faces-eq2 : goal.returns-then-faces-eq2
returns-then-faces-eq2 c =
    let count = ap length c.vertex_faces-faces.ensures ∙ faces-listed c.args.self.now c.facts.ensures c.args.v c.requires.known in
    c.is_smooth_at.ensures ∙ sym (regular-side c.args.self.now.level c.args.v _ c.requires.boundary count c.if-faces-eq2.true)

pub returns-then-faces-eq1 : goal.returns-then-faces-eq1
returns-then-faces-eq1 c =
    let count = ap length c.vertex_faces-faces.ensures ∙ faces-listed c.args.self.now c.facts.ensures c.args.v c.requires.known in
    c.is_infinite_at.ensures ∙ sym (regular-corner c.args.self.now.level c.args.v _ c.requires.boundary count c.if-faces-eq1.true)

pub returns-else-faces-eq1 : goal.returns-else-faces-eq1
returns-else-faces-eq1 c =
    let count = ap length c.vertex_faces-faces.ensures ∙ faces-listed c.args.self.now c.facts.ensures c.args.v c.requires.known in
    sym (regular-neither c.args.self.now.level c.args.v _ c.requires.boundary count c.if-faces-eq2.false c.if-faces-eq1.false)
