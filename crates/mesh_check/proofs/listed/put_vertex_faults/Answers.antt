use Rattle.std.proofs.Common.{◌≡◌, ◌<◌, length, ap, arith}
use Rattle.std.proofs.lemmas.Bool.Decides.{nat_tests}
use Rattle.std.proofs.lemmas.Result.{on_ok_weaker}
use Rattle.mesh_check.proofs.ListedLemmas.{simple-listed, some-listed, none-listed}
use Rattle.mesh_check.proofs.listed.put_vertex_faults.Goals as goal

pub returns-then-not-are_vertices_judged : goal.returns-then-not-are_vertices_judged
returns-then-not-are_vertices_judged c =
    let some : 0 < length c.args.faults.now.items = grind (arith, nat_tests, ap length c.deref.ensures.value, c.are_vertices_judged.ensures, c.if-not-are_vertices_judged.true) in
    some-listed c.args.raw.now.faces c.args.faults.now.items c.requires.found (length c.args.raw.now.points) some

pub put_split_vertices-requires-clause-simple : goal.put_split_vertices-requires-clause-simple
put_split_vertices-requires-clause-simple c =
    let none : length c.args.faults.now.items ≡ 0 = grind (arith, nat_tests, ap length c.deref.ensures.value, c.are_vertices_judged.ensures, c.if-not-are_vertices_judged.false) in
    (simple-listed c.args.raw.now.faces c.args.faults.now.items c.requires.found none).0

pub put_split_vertices-requires-clause-once : goal.put_split_vertices-requires-clause-once
put_split_vertices-requires-clause-once c =
    let none : length c.args.faults.now.items ≡ 0 = grind (arith, nat_tests, ap length c.deref.ensures.value, c.are_vertices_judged.ensures, c.if-not-are_vertices_judged.false) in
    (simple-listed c.args.raw.now.faces c.args.faults.now.items c.requires.found none).1

pub returns : goal.returns
returns c =
    let none : length c.args.faults.now.items ≡ 0 = grind (arith, nat_tests, ap length c.deref.ensures.value, c.are_vertices_judged.ensures, c.if-not-are_vertices_judged.false) in
    on_ok_weaker c.put_split_vertices.result (none-listed c.args.raw.now.faces c.args.faults.now.items c.requires.found (length c.args.raw.now.points) _ none) c.put_split_vertices.ensures
