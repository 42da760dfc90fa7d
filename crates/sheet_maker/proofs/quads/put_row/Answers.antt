use Rattle.std.proofs.Common.{◌≡◌, ◌++◌, arith, ap, sym, ◌∙◌}
use Rattle.std.specs.List.{flat_map, range_with_len}
use Rattle.std.proofs.lemmas.List.{append-nil}
use Rattle.subdiv_model.specs.Generator.{sheet_quad}
use Rattle.sheet_maker.proofs.SheetLemmas.{flat-row-more}
use Rattle.sheet_maker.proofs.quads.put_row.Goals as goal

pub loop-j-init : goal.loop-j-init
loop-j-init c = sym (append-nil c.args.corners.now.items)

pub loop-j-preserved : goal.loop-j-preserved
loop-j-preserved c =
    flat-row-more (sheet_quad c.args.size c.args.i) c.args.corners.now.items c.loop-j.corners.items _ c.loop-j.j c.in_ok-put_quad.ensures c.loop-j.invariant

pub returns : goal.returns
returns c =
    let all : c.loop-j.j ≡ c.args.size = omega (arith, c.loop-j-test.false, c.loop-j.auto.j-end) in
    c.loop-j.invariant ∙ ap (λ n. c.args.corners.now.items ++ flat_map (sheet_quad c.args.size c.args.i) (range_with_len 0 n)) all
