use Rattle.std.proofs.Common.{arith, ◌≡◌, ◌+◌, ◌<◌, ◌≤◌, ℕ, [], length, false, refl, ap, sym, ◌∙◌, subst, ◌⊎◌, inl, inr}
use Rattle.subdiv_model.specs.Level.{Level}
use Rattle.level_topology.specs.Child.{PointOrigin, FromVertex, FromFace, FromEdge}
use Rattle.level_topology.specs.ChildTables.{origin_of}
use Rattle.level_topology.specs.declared.child_origin.Origin.{Origin}
use Rattle.level_topology.specs.declared.child_origin.Origin.TheVariants.{Vertex, Edge}
use Rattle.primvar_refine.specs.View.{rows_of}
use Rattle.subdiv_model.specs.Mask.{face_mask}
use Rattle.primvar_refine.specs.Made.{CanMake, KeepDens, AreFacesMade, terms_of_face}
use Rattle.child_masks.specs.Masks.{is_from_face, origin_at}
use Rattle.primvar_refine.proofs.PutLemmas.{dens-put, faces-put, faces-pass, faces-all, none-faces, none-put, still-inside, terms-all, terms-more}
use Rattle.child_masks.proofs.OriginLemmas.{face-within}
use Rattle.primvar_refine.proofs.face_puts.put_faces.Goals as goal
use Rattle.primvar_refine.proofs.face_puts.put_faces.Goals.{in-Face, in-Vertex}

no-face : (o : Origin) → ((x : ℕ) × (o ≡ Vertex x)) ⊎ ((x : ℕ) × (o ≡ Edge x)) → is_from_face (origin_of o) ≡ false
no-face o (inl e) = ap (λ x. is_from_face (origin_of x)) e.1
no-face o (inr e) = ap (λ x. is_from_face (origin_of x)) e.1

no-terms : (level : Level) (o : PointOrigin) → is_from_face o ≡ false → terms_of_face level o ≡ 0
no-terms level (FromVertex v) e = refl
no-terms level (FromFace f) e = absurd (cc)
no-terms level (FromEdge d) e = refl

pub loop-p-init : goal.loop-p-init
loop-p-init g c = record {
  dens = none-put (rows_of g.P.Primvar.numbers c.args.made.now);
  faces = none-faces c.args.parent.now.level (rows_of g.P.Primvar.numbers c.args.values.now) c.args.child.now.origins (rows_of g.P.Primvar.numbers c.args.made.now);
  taken = omega arith;
}

pub put_face-requires-clause-known : goal.put_face-requires-clause-known
put_face-requires-clause-known g c =
    let inside : c.loop-p.p < length c.args.child.now.origins =
    omega (arith, c.loop-p-test.true, c.points-p-end.ensures, c.facts.ensures.is.each_point, ap (λ t. t.level.point_count) c.level.ensures) in
    face-within c.args.child.now (length c.args.parent.now.level.polygons) c.loop-p.p c.in-Face.f c.facts.ensures c.requires.faces inside (sym c.in-Face.ensures)

pub put_face-requires-clause-inside : goal.put_face-requires-clause-inside
put_face-requires-clause-inside g c =
    let inside : c.loop-p.p < length c.args.child.now.origins =
    omega (arith, c.loop-p-test.true, c.points-p-end.ensures, c.facts.ensures.is.each_point, ap (λ t. t.level.point_count) c.level.ensures) in
    still-inside g.P.Primvar.numbers c.args.made.now c.loop-p.made c.loop-p.p c.loop-p.invariant.dens (omega (arith, c.requires.fits, inside))

pub put_face-requires-clause-can : goal.put_face-requires-clause-can
put_face-requires-clause-can g c =
    let inside : c.loop-p.p < length c.args.child.now.origins =
    omega (arith, c.loop-p-test.true, c.points-p-end.ensures, c.facts.ensures.is.each_point, ap (λ t. t.level.point_count) c.level.ensures) in
    subst (CanMake c.args.start.now.width c.args.parent.now.level (rows_of g.P.Primvar.numbers c.args.values.now) [] [] (face_mask c.args.parent.now.level c.in-Face.f)) (sym (c.loop-p.invariant.dens.dens c.loop-p.p))
    (c.requires.can c.loop-p.p c.in-Face.f inside (sym c.in-Face.ensures))

pub put_face-requires-clause-alike : goal.put_face-requires-clause-alike
put_face-requires-clause-alike g c = c.requires.alike

pub loop-p-preserved : goal.loop-p-preserved
loop-p-preserved g c =
    let inside : c.loop-p.p < length c.args.child.now.origins =
    omega (arith, c.loop-p-test.true, c.points-p-end.ensures, c.facts.ensures.is.each_point, ap (λ t. t.level.point_count) c.level.ensures) in
    let start = rows_of g.P.Primvar.numbers c.args.made.now in
    let before = rows_of g.P.Primvar.numbers c.loop-p.made in
    let rows = rows_of g.P.Primvar.numbers c.args.values.now in
    let level = c.args.parent.now.level in
    let origins = c.args.child.now.origins in
    elim c.match-origin.branch [
      | in-Face w ↦
          let after = rows_of g.P.Primvar.numbers w.put_face.new.made in
          let is : origin_at origins c.loop-p.p ≡ FromFace w.in-Face.f = sym w.in-Face.ensures in
          record {
            dens = subst (λ l. KeepDens start (rows_of g.P.Primvar.numbers l)) (sym w.made-is) (dens-put start before after c.loop-p.p c.loop-p.invariant.dens w.put_face.ensures.put);
            faces = subst (λ l. AreFacesMade level rows origins (c.loop-p.p + 1) (rows_of g.P.Primvar.numbers l)) (sym w.made-is)
                (faces-put level rows origins c.loop-p.p w.in-Face.f before after is c.loop-p.invariant.faces w.put_face.ensures.put w.put_face.ensures.made);
            taken = omega (arith, w.steps-is, w.put_face.ensures.steps, c.loop-p.invariant.taken, terms-more (terms_of_face level) origins c.loop-p.p (FromFace w.in-Face.f) inside is);
          }
      | in-Vertex w ↦
          let other : is_from_face (origin_at origins c.loop-p.p) ≡ false = ap is_from_face (sym c.origin.ensures) ∙ no-face c.origin.result w.in-Vertex.is in
          record {
            dens = subst (λ l. KeepDens start (rows_of g.P.Primvar.numbers l)) (sym w.made-is) c.loop-p.invariant.dens;
            faces = subst (λ l. AreFacesMade level rows origins (c.loop-p.p + 1) (rows_of g.P.Primvar.numbers l)) (sym w.made-is)
                (faces-pass level rows origins c.loop-p.p before other c.loop-p.invariant.faces);
            taken = omega (arith, w.steps-is, c.loop-p.invariant.taken, terms-more (terms_of_face level) origins c.loop-p.p (origin_at origins c.loop-p.p) inside refl, no-terms level (origin_at origins c.loop-p.p) other);
          }
    ]

pub returns-clause-dens : goal.returns-clause-dens
returns-clause-dens g c = c.loop-p.invariant.dens

pub returns-clause-made : goal.returns-clause-made
returns-clause-made g c =
    let past : length c.args.child.now.origins ≤ c.loop-p.p =
    omega (arith, c.loop-p-test.false, c.points-p-end.ensures, c.facts.ensures.is.each_point, ap (λ t. t.level.point_count) c.level.ensures) in
    faces-all c.args.parent.now.level (rows_of g.P.Primvar.numbers c.args.values.now) c.args.child.now.origins c.loop-p.p (rows_of g.P.Primvar.numbers c.loop-p.made) past c.loop-p.invariant.faces

pub returns-clause-steps : goal.returns-clause-steps
returns-clause-steps g c =
    let past : length c.args.child.now.origins ≤ c.loop-p.p =
    omega (arith, c.loop-p-test.false, c.points-p-end.ensures, c.facts.ensures.is.each_point, ap (λ t. t.level.point_count) c.level.ensures) in
    let all = terms-all (terms_of_face c.args.parent.now.level) c.args.child.now.origins c.loop-p.p past in
    omega (arith, c.loop-p.invariant.taken, all)
