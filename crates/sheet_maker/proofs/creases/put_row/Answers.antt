use Rattle.std.proofs.Common.{◌≡◌, ◌++◌, arith, ap, sym, ◌∙◌, refl, map}
use Rattle.std.specs.List.{range_with_len}
use Rattle.std.proofs.lemmas.List.{append-nil}
use Rattle.std.proofs.lemmas.List.Elements.{All-same, All-push}
use Rattle.sharpness_rules.specs.View.{sharpness_of}
use Rattle.raw_mesh.specs.View.{crease_of}
use Rattle.sheet_maker.specs.Rows.{crease_at, HasEnds}
use Rattle.sheet_maker.proofs.SheetLemmas.{row-more}
use Rattle.sheet_maker.proofs.creases.put_row.Goals as goal

pub loop-j-init : goal.loop-j-init
loop-j-init c = record { creases = sym (append-nil (map crease_of c.args.creases.now.items)); ends = c.requires.ends }

pub loop-j-preserved : goal.loop-j-preserved
loop-j-preserved c = record {
  creases = row-more crease_of (crease_at c.args.size c.args.i (sharpness_of c.args.sharpness)) (map crease_of c.args.creases.now.items) c.loop-j.creases.items _ _ c.loop-j.j c.in_ok-push.ensures.items (rw (c.point_number-a.ensures.is, c.point_number-b.ensures.is) refl) c.loop-j.invariant.creases;
  ends = All-same (HasEnds c.args.size) _ _ c.in_ok-push.ensures.items (All-push (HasEnds c.args.size) c.loop-j.creases.items _ c.loop-j.invariant.ends (c.point_number-a.ensures.inside, c.point_number-b.ensures.inside));
}

pub returns-clause-creases : goal.returns-clause-creases
returns-clause-creases c =
    let all : c.loop-j.j ≡ c.args.size = omega (arith, c.loop-j-test.false, c.loop-j.auto.j-end) in
    c.loop-j.invariant.creases ∙ ap (λ n. map crease_of c.args.creases.now.items ++ map (crease_at c.args.size c.args.i (sharpness_of c.args.sharpness)) (range_with_len 0 n)) all

pub returns-clause-ends : goal.returns-clause-ends
returns-clause-ends c = c.loop-j.invariant.ends
