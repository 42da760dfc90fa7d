use Rattle.std.proofs.Common.{◌<◌, ◌≤◌, ◌+◌, ◌∙◌, sym, ap, subst, not, length, get_or, drop, arith}
use Rattle.mesh_check.specs.Marks.{is_new}
use Rattle.std.proofs.lemmas.List.{length-set}
use Rattle.mesh_check.proofs.MarkLemmas.{new-seen, new-passed, new-end, new-distinct, low-with, inside-at}
use Rattle.mesh_check.proofs.corners.has_twice.Goals as goal

pub mark_at-requires : goal.mark_at-requires
mark_at-requires c = inside-at c.args.face.now (length c.args.marks.now.items) _ c.loop-i.i c.requires.inside c.loop-i.invariant.size (omega arith)

pub returns-then-mark_at-clause-twice : goal.returns-then-mark_at-clause-twice
returns-then-mark_at-clause-twice c =
    let seen = new-seen c.args.mark c.args.marks.now.items c.loop-i.marks.items c.args.face.now c.loop-i.i (omega arith) c.loop-i.invariant.decides (sym c.mark_at.ensures.was ∙ c.if-mark_at.true) in
    sym (ap not (sym (new-distinct c.args.mark c.args.marks.now.items c.args.face.now c.requires.inside c.requires.fresh) ∙ seen))

pub loop-i-preserved : goal.loop-i-preserved
loop-i-preserved c =
    let there : get_or c.args.face.now c.loop-i.i 0 < length c.loop-i.marks.items = inside-at c.args.face.now (length c.args.marks.now.items) _ c.loop-i.i c.requires.inside c.loop-i.invariant.size (omega arith) in
    record {
      decides = ap (λ ms. is_new c.args.mark ms (drop (c.loop-i.i + 1) c.args.face.now)) c.mark_at.ensures.marks ∙ new-passed c.args.mark c.args.marks.now.items c.loop-i.marks.items c.args.face.now c.loop-i.i (omega arith) c.loop-i.invariant.decides (sym c.mark_at.ensures.was ∙ c.if-mark_at.false);
      low = λ v. subst (λ ms. get_or ms v 0 ≤ c.args.mark) (sym c.mark_at.ensures.marks) (low-with c.loop-i.marks.items (get_or c.args.face.now c.loop-i.i 0) c.args.mark c.loop-i.invariant.low there v);
      size = ap length c.mark_at.ensures.marks ∙ length-set c.loop-i.marks.items (get_or c.args.face.now c.loop-i.i 0) c.args.mark ∙ c.loop-i.invariant.size;
    }

pub returns-clause-twice : goal.returns-clause-twice
returns-clause-twice c =
    let new = new-end c.args.mark c.args.marks.now.items c.loop-i.marks.items c.args.face.now c.loop-i.i c.loop-i-test.false c.loop-i.invariant.decides in
    sym (ap not (sym (new-distinct c.args.mark c.args.marks.now.items c.args.face.now c.requires.inside c.requires.fresh) ∙ new))
