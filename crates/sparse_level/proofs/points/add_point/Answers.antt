use Rattle.std.proofs.Common.{refl, arith}
use Rattle.std.proofs.lemmas.List.{length-set}
use Rattle.sparse_level.proofs.PointLemmas.{point-kept, point-new, table-new}
use Rattle.sparse_level.proofs.points.add_point.Goals as goal

pub overflow_cast-number : goal.overflow_cast-number
overflow_cast-number c = record { fits = omega (arith, c.len-number.ensures, c.requires.few, c.args.points.now.ok.0) }

pub returns-then-is_there : goal.returns-then-is_there
returns-then-is_there c = record {
  points = point-kept c.args.points.now.items c.args.table.now.items c.args.n c.index.result.now c.requires.is c.requires.inside c.index.ensures c.is_there.result c.is_there.ensures c.if-is_there.true;
  is = c.requires.is;
  count = refl;
}

pub returns : goal.returns
returns c = record {
  points = point-new c.args.points.now.items c.args.table.now.items c.args.n c.index.result.now c.requires.is c.requires.inside c.index.ensures c.is_there.result c.is_there.ensures c.if-is_there.false c.push.new.self.items c.in_ok-push.ensures.items;
  is = table-new c.args.points.now.items c.args.table.now.items c.args.n c.index.result.now c.requires.is c.requires.inside c.index.ensures c.is_there.result c.is_there.ensures c.if-is_there.false c.push.new.self.items c.in_ok-push.ensures.items c.len-number.result
      (omega (arith, c.len-number.ensures, c.args.points.now.ok.0)) c.requires.few;
  count = length-set c.args.table.now.items c.args.n c.len-number.result;
}
