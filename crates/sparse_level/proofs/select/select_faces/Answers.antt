use Rattle.std.proofs.Common.{◌≡◌, ◌∙◌, ap, map, length, arith, ℕ}
use Rattle.std.specs.List.{range_with_len}
use Rattle.level_topology.specs.Topology.{Topology}
use Rattle.sparse_laws.specs.Selected.{is_selected_in}
use Rattle.sparse_level.specs.View.{level_of}
use Rattle.sparse_level.proofs.SelectLemmas.{selected-more}
use Rattle.sparse_level.proofs.select.select_faces.Goals as goal

pub is_selected-requires-clause-known : goal.is_selected-requires-clause-known
is_selected-requires-clause-known g c = omega (arith, c.loop-f-test.true, c.faces-faces.ensures, ap (λ (k : Topology). length k.level.polygons) c.level.ensures)

pub loop-f-preserved : goal.loop-f-preserved
loop-f-preserved g c =
    selected-more (is_selected_in (g.T.FaceTest.meets c.args.chosen.now.1) (level_of c.args.sparse.now)) c.loop-f.f c.loop-f.marks.items c.push.new.self.items c.is_selected.result c.loop-f.invariant c.in_ok-push.ensures.items c.is_selected.ensures

pub returns : goal.returns
returns g c =
    let test : ℕ → _ = is_selected_in (g.T.FaceTest.meets c.args.chosen.now.1) (level_of c.args.sparse.now) in
    let all : c.loop-f.f ≡ length c.args.sparse.now.topology.level.polygons = omega (arith, c.loop-f-test.false, c.loop-f.auto.f-end, c.faces-faces.ensures, ap (λ (k : Topology). length k.level.polygons) c.level.ensures) in
    c.loop-f.invariant ∙ ap (λ (n : ℕ). map test (range_with_len 0 n)) all
