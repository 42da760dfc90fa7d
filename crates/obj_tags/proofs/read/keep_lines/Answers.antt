use Rattle.std.proofs.Common.{rules, arith, ◌≡◌, ◌+◌, ◌<◌, ◌^◌, None, Some, length, map, ap, sym, subst, refl, ◌∙◌, below_more, add-one}
use Rattle.subdiv_model.specs.ObjLine.{lines_of, line_words}
use Rattle.subdiv_model.specs.ReadObj.{fault_at}
use Rattle.obj_laws.proofs.FirstFaultLemmas.{least-fault, no-fault}
use Rattle.obj_laws.proofs.ObjSizeLemmas.{line-words-half}
use Rattle.obj_tags.specs.Draft.{IsDraftOf, IsLineAt}
use Rattle.obj_tags.specs.Kept.{IsLineFault}
use Rattle.obj_tags.specs.View.{cause_of}
use Rattle.obj_tags.proofs.DraftLemmas.{corners-step}
use Rattle.obj_tags.proofs.KeepLemmas.{kept-capacity}
use Rattle.obj_tags.proofs.ReadLemmas.{next-line, at-end}
use Rattle.obj_tags.proofs.read.keep_lines.Goals as goal

pub loop-line-init : goal.loop-line-init
loop-line-init c =
    let lines = map line_words (lines_of c.args.text.now) in
    let kept = c.in_ok-draft.ensures lines in
    let none : length c.in_ok-draft.draft.faces.corners.items ≡ 0 = ap length kept.faces.corners in
    record {
      left = refl;
      within = omega arith;
      good = λ i h. absurd (omega arith);
      kept = kept;
      corners = omega (arith, none);
      bound = omega arith;
    }

pub keep_line-requires-clause-short : goal.keep_line-requires-clause-short
keep_line-requires-clause-short c = omega (arith, c.in-Some.ensures.parts, c.loop-line.invariant.bound, c.requires.short)

pub keep_line-requires-clause-capacity : goal.keep_line-requires-clause-capacity
keep_line-requires-clause-capacity c =
    let few : c.args.all.counts.face_count < 2 ^ 32 = search rules in
    kept-capacity c.args.all c.loop-line.draft (map line_words (lines_of c.args.text.now)) c.loop-line.number (length c.in-Some.line.now) c.requires.counted few c.loop-line.invariant.kept (omega (arith, c.in-Some.ensures.parts, c.loop-line.invariant.corners, c.requires.short))

pub returns-in-Err-Cause : goal.returns-in-Err-Cause
returns-in-Err-Cause c =
    let n = c.loop-line.number in
    let lines = map line_words (lines_of c.args.text.now) in
    let next = next-line c.loop-line.rest.now c.in-Some.line.now c.in-Some.others.now lines n c.in-Some.ensures.lines c.loop-line.invariant.left in
    let at : IsLineAt c.args.all.counts (n + 1) lines n (line_words c.in-Some.line.now) = record { inside = next.inside; here = next.here; place = add-one n; counted = c.requires.counted } in
    let bad : fault_at lines n ≡ Some (cause_of c.in-Err-Cause.cause) = subst (λ f. IsLineFault f (fault_at lines n)) c.in-Err-Cause.field-0-is (c.in-Err-Cause.ensures lines n at c.loop-line.invariant.kept) in
    rw c.in-Err-Cause.field-0-is
    (least-fault (fault_at lines) (length lines) n _ next.inside c.loop-line.invariant.good bad
    ∙ ap (λ k. Some (record { line = k; cause = cause_of c.in-Err-Cause.cause })) (sym (add-one n)))

pub loop-line-preserved : goal.loop-line-preserved
loop-line-preserved c =
    let n = c.loop-line.number in
    let lines = map line_words (lines_of c.args.text.now) in
    let next = next-line c.loop-line.rest.now c.in-Some.line.now c.in-Some.others.now lines n c.in-Some.ensures.lines c.loop-line.invariant.left in
    let at : IsLineAt c.args.all.counts (n + 1) lines n (line_words c.in-Some.line.now) = record { inside = next.inside; here = next.here; place = add-one n; counted = c.requires.counted } in
    let kept = c.in-Ok.ensures lines n at c.loop-line.invariant.kept in
    let inside = next.inside in
    let step = corners-step c.loop-line.draft.faces c.keep_line.new.draft.faces lines n next.inside c.loop-line.invariant.kept.faces kept.1.faces in
    let same = ap length next.here in
    let half = line-words-half c.in-Some.line.now in
    record {
      left = next.left;
      within = omega (arith, inside);
      good = below_more (λ i. fault_at lines i ≡ None) n c.loop-line.invariant.good kept.0;
      kept = kept.1;
      corners = omega (arith, step, same, half, c.in-Some.ensures.parts, c.loop-line.invariant.corners);
      bound = omega (arith, c.in-Some.ensures.shorter, c.loop-line.invariant.bound);
    }

pub returns : goal.returns
returns c =
    let n = c.loop-line.number in
    let lines = map line_words (lines_of c.args.text.now) in
    let over = at-end c.loop-line.rest.now lines n c.in_default.ensures.lines c.loop-line.invariant.left in
    let all : n ≡ length lines = omega (arith, over, c.loop-line.invariant.within) in (
      no-fault (fault_at lines) (length lines) (λ i h. c.loop-line.invariant.good i (omega (arith, h, all))),
      subst (λ k. IsDraftOf c.args.all c.loop-line.draft lines k) all c.loop-line.invariant.kept,
    )
