use Rattle.std.proofs.Common.{◌≡◌, ◌∙◌, ℕ, true, arith, List, subst, sym, ap, length, get_or}
use Rattle.std.proofs.lemmas.List.{length-set, take_all}
use Rattle.subdiv_model.specs.Polygons.{is_among}
use Rattle.point_fans.proofs.AcrossLemmas.{noted-more}
use Rattle.point_fans.proofs.fan.note_corners.Goals as goal

pub note_corner-requires : goal.note_corner-requires
note_corner-requires c = omega (arith, c.loop-i.invariant.size, c.requires.inside c.loop-i.i 0 c.loop-i-test.true)

pub loop-i-preserved : goal.loop-i-preserved
loop-i-preserved c = record {
  corners = λ value e f there.
      ap (λ (cs : List ℕ). get_or cs f 0) c.note_corner.ensures
      ∙ noted-more c.args.faces.now c.args.at.now c.loop-i.corners.items c.loop-i.i value c.loop-i-test.true (omega (arith, c.loop-i.invariant.size, c.requires.inside c.loop-i.i 0 c.loop-i-test.true)) e (c.loop-i.invariant.corners value e) f there;
  size = ap length c.note_corner.ensures ∙ length-set _ _ _ ∙ c.loop-i.invariant.size;
}

pub returns-clause-corners : goal.returns-clause-corners
returns-clause-corners c = λ value e f there.
    c.loop-i.invariant.corners value e f (subst (λ xs. is_among xs f ≡ true) (sym (take_all c.loop-i.i c.args.faces.now c.loop-i-test.false)) there)
