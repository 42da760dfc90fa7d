use Rattle.std.proofs.Common.{◌≡◌, nat_lt, length, true, false, sym, ◌∙◌, arith}
use Rattle.std.proofs.lemmas.Bool.Decides.{nat_tests}
use Rattle.subdiv_model.specs.Polygons.{Polygon}
use Rattle.mesh_check.proofs.PlaceLemmas.{place-found, place-passed}
use Rattle.mesh_check.proofs.corners.small_face.Goals as goal

pub returns-then-face-lt3 : goal.returns-then-face-lt3
returns-then-face-lt3 c =
    let small : nat_lt (length c.face.result.now) 3 ≡ true = grind (arith, nat_tests, c.if-face-lt3.true) in
    sym (place-found (λ (polygon : Polygon). nat_lt (length polygon) 3) c.args.raw.now.faces c.loop-f.f c.face.result.now c.face.ensures small) ∙ c.loop-f.invariant

pub loop-f-preserved : goal.loop-f-preserved
loop-f-preserved c =
    let large : nat_lt (length c.face.result.now) 3 ≡ false = grind (arith, nat_tests, c.if-face-lt3.false) in
    sym (place-passed (λ (polygon : Polygon). nat_lt (length polygon) 3) c.args.raw.now.faces c.loop-f.f c.face.result.now c.face.ensures large) ∙ c.loop-f.invariant
