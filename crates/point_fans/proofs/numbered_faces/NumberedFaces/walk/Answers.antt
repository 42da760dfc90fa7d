use Rattle.std.proofs.Common.{subst, ◌≡◌, ◌∙◌, ◌++◌, ◌∷◌, [], true, ap, sym, arith, take, ℕ}
use Rattle.std.proofs.lemmas.List.{take_more, take_all}
use Rattle.subdiv_model.specs.Polygons.{has_corner, polygon_at}
use Rattle.mesh_laws.proofs.ChildCornerLemmas.{corner-place}
use Rattle.point_fans.proofs.AcrossLemmas.{walk-there, walk-next}
use Rattle.point_fans.proofs.numbered_faces.NumberedFaces.walk.Goals as goal

pub loop-i-preserved : goal.loop-i-preserved
loop-i-preserved c =
    let polygons = c.args.self.now.level.polygons in
    record {
      there = subst (λ (k : ℕ). has_corner c.args.v (polygon_at polygons k) ≡ true) (sym c.unwrap_or-f.ensures)
          (walk-there polygons c.facts.ensures.simple c.facts.ensures.sides_once c.args.v c.loop-i.f c.face_after.result c.loop-i.invariant.there c.face_after.ensures);
      follows = λ fan is count.
          c.in_ok-push.ensures.items ∙ ap (λ xs. xs ++ c.loop-i.f ∷ []) (c.loop-i.invariant.follows fan is count)
          ∙ ap (λ k. take c.loop-i.i fan ++ k ∷ []) (c.loop-i.invariant.next fan is count c.loop-i-test.true)
          ∙ sym (take_more fan c.loop-i.i 0 (omega (arith, count, c.loop-i-test.true)));
      next = λ fan is count more.
          c.unwrap_or-f.ensures
          ∙ walk-next polygons c.facts.ensures.simple c.facts.ensures.sides_once c.args.v c.loop-i.f c.face_after.result c.args.start fan c.loop-i.i is (omega (arith, count, more)) (c.loop-i.invariant.next fan is count c.loop-i-test.true) c.face_after.ensures;
    }

pub loop-i-init : goal.loop-i-init
loop-i-init c = record { there = c.requires.there; follows = λ fan is count. c.requires.none; next = λ fan is count some. sym is.first }

pub bounds-corners-f : goal.bounds-corners-f
bounds-corners-f c = omega (arith, c.requires.size, corner-place c.args.self.now.level.polygons c.loop-i.f c.args.v c.loop-i.invariant.there)

pub face_after-requires-clause-corner : goal.face_after-requires-clause-corner
face_after-requires-clause-corner c = c.requires.corners c.loop-i.f c.loop-i.invariant.there

pub returns : goal.returns
returns c = λ fan is count. c.loop-i.invariant.follows fan is count ∙ take_all c.loop-i.i fan (omega (arith, count, c.loop-i-test.false))
