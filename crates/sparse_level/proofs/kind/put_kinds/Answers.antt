use Rattle.std.proofs.Common.{◌≡◌, ◌∙◌, ap, arith, length, map}
use Rattle.std.specs.List.{range_with_len}
use Rattle.level_topology.specs.Topology.{Topology}
use Rattle.sparse_laws.specs.Written.{kind_in}
use Rattle.sparse_level.specs.View.{level_of}
use Rattle.sparse_level.specs.Places.{marked}
use Rattle.sparse_level.specs.Faces.{kind_of}
use Rattle.sparse_level.proofs.FaceLemmas.{kind-more}
use Rattle.sparse_level.proofs.kind.put_kinds.Goals as goal

pub loop-f-preserved : goal.loop-f-preserved
loop-f-preserved c =
    let at = kind_in (level_of c.args.sparse.now) (marked c.args.selected.now) in
    record {
      kinds = ap (map kind_of) c.push_reserved.ensures.items ∙ kind-more at c.loop-f.kinds.items c.kind_at.result c.loop-f.f c.loop-f.invariant.kinds c.kind_at.ensures;
      put = omega (arith, c.push_reserved.ensures.len, c.loop-f.invariant.put);
      room = omega (arith, c.push_reserved.ensures.capacity, c.loop-f.invariant.room);
    }

pub returns : goal.returns
returns c =
    let at = kind_in (level_of c.args.sparse.now) (marked c.args.selected.now) in
    let count = c.faces-faces.ensures ∙ ap (λ (t : Topology). length t.level.polygons) c.level.ensures in
    let all : c.loop-f.f ≡ length c.args.sparse.now.topology.level.polygons = omega (arith, count, c.loop-f-test.false, c.loop-f.auto.f-end) in
    c.loop-f.invariant.kinds ∙ ap (λ n. map at (range_with_len 0 n)) all
