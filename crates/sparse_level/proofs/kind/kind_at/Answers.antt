use Rattle.std.proofs.Common.{◌≡◌, ◌∙◌, false, get_or, ap, sym}
use Rattle.level_topology.specs.Topology.{Topology}
use Rattle.sparse_level.specs.View.{level_of}
use Rattle.sparse_level.specs.Places.{marked}
use Rattle.sparse_level.proofs.FaceLemmas.{marked-among, inner-kind}
use Rattle.sparse_level.proofs.kind.kind_at.Goals as goal

pub returns-then-is_marked : goal.returns-then-is_marked
returns-then-is_marked c =
    let f = c.args.f in
    let hole : get_or c.args.sparse.now.topology.level.holes f false ≡ false = sym (ap (λ (t : Topology). get_or t.level.holes f false) c.level.ensures) ∙ sym c.is_hole.ensures ∙ c.if-is_hole.false in
    inner-kind (level_of c.args.sparse.now) (marked c.args.selected.now) f _ hole (sym c.is_inner.ensures ∙ c.if-not-is_inner.false) (marked-among c.args.selected.now f ∙ sym c.is_marked.ensures ∙ c.if-is_marked.true)

pub returns : goal.returns
returns c =
    let f = c.args.f in
    let hole : get_or c.args.sparse.now.topology.level.holes f false ≡ false = sym (ap (λ (t : Topology). get_or t.level.holes f false) c.level.ensures) ∙ sym c.is_hole.ensures ∙ c.if-is_hole.false in
    inner-kind (level_of c.args.sparse.now) (marked c.args.selected.now) f _ hole (sym c.is_inner.ensures ∙ c.if-not-is_inner.false) (marked-among c.args.selected.now f ∙ sym c.is_marked.ensures ∙ c.if-is_marked.false)
