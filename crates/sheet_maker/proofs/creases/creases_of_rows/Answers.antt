use Rattle.std.proofs.Common.{◌<◌, arith, ap, drop, length, map}
use Rattle.std.proofs.lemmas.List.{length-drop}
use Rattle.std.proofs.lemmas.List.Elements.{All-nil, All-same}
use Rattle.raw_mesh.specs.View.{crease_of}
use Rattle.sheet_maker.specs.Rows.{point_count, HasEnds}
use Rattle.sheet_maker.proofs.SheetLemmas.{creases-more, creases-all}
use Rattle.sheet_maker.proofs.creases.creases_of_rows.Goals as goal

pub loop-k-init : goal.loop-k-init
loop-k-init c = record {
  creases = ap (map crease_of) c.in_ok-creases.ensures.items;
  ends = All-same (HasEnds c.args.size) _ _ c.in_ok-creases.ensures.items (All-nil (HasEnds c.args.size));
}

pub put_row-requires-clause-ends : goal.put_row-requires-clause-ends
put_row-requires-clause-ends c = c.loop-k.invariant.ends

pub loop-k-preserved : goal.loop-k-preserved
loop-k-preserved c =
    let draws = drop (point_count c.args.size) c.args.draws.now in
    let inside : c.loop-k.k < length draws = omega (arith, c.loop-k-test.true, c.requires.drawn, length-drop (point_count c.args.size) c.args.draws.now) in
    record {
      creases = creases-more c.args.size c.loop-k.k _ draws (map crease_of c.loop-k.creases.items) _ inside c.row_sharpness-sharpness.ensures c.in_ok-put_row.ensures.creases c.loop-k.invariant.creases;
      ends = c.in_ok-put_row.ensures.ends;
    }

pub returns-clause-creases : goal.returns-clause-creases
returns-clause-creases c =
    creases-all c.args.size c.loop-k.k (drop (point_count c.args.size) c.args.draws.now) _ (omega (arith, c.loop-k-test.false, c.loop-k.auto.k-end)) c.loop-k.invariant.creases

pub returns-clause-ends : goal.returns-clause-ends
returns-clause-ends c = c.loop-k.invariant.ends
