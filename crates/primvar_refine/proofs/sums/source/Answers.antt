use Rattle.std.proofs.Common.{ℕ, ℤ, List, length, arith, ◌≡◌, ◌<◌, get_or, ap, sym, ◌∙◌, subst}
use Rattle.std.proofs.lemmas.List.{length-map}
use Rattle.mask_rules.specs.View.{source_of}
use Rattle.mask_rules.specs.declared.mask.At.{At}
use Rattle.mask_rules.specs.declared.mask.At.TheVariants.{Point, FacePoint}
use Rattle.ratio128.specs.declared.valued.Valued.{Valued}
use Rattle.primvar_refine.specs.View.{row_of, rows_of}
use Rattle.primvar_refine.specs.Sums.{HasRow, source_row}
use Rattle.primvar_refine.proofs.PutLemmas.{row-there}
use Rattle.primvar_refine.proofs.sums.source.Goals as goal

-- a source that has a row is inside
point-there : {P : Type 0} (numbers : P → List ℤ) (values made : List (Valued P)) (places : List ℕ) (at : At) (v : ℕ) → HasRow (rows_of numbers values) (rows_of numbers made) places (source_of at)
    → at ≡ Point v → v < length values
point-there numbers values made places at v has is =
    subst (λ n. v < n) (length-map values (row_of numbers)) (subst (λ a. HasRow (rows_of numbers values) (rows_of numbers made) places (source_of a)) is has)

face-there : {P : Type 0} (numbers : P → List ℤ) (values made : List (Valued P)) (places : List ℕ) (at : At) (f : ℕ) → HasRow (rows_of numbers values) (rows_of numbers made) places (source_of at)
    → at ≡ FacePoint f → get_or places f 0 < length made
face-there numbers values made places at f has is =
    subst (λ n. get_or places f 0 < n) (length-map made (row_of numbers)) (subst (λ a. HasRow (rows_of numbers values) (rows_of numbers made) places (source_of a)) is has).1

pub offset_bounds-values-v : goal.offset_bounds-values-v
offset_bounds-values-v g c = omega (arith, point-there g.P.Primvar.numbers c.args.values.now c.args.made.now c.args.places.now c.args.at c.in-Point.v c.requires c.in-Point.is)

pub bounds-values-v : goal.bounds-values-v
bounds-values-v g c = point-there g.P.Primvar.numbers c.args.values.now c.args.made.now c.args.places.now c.args.at c.in-Point.v c.requires c.in-Point.is

pub offset_bounds-made-places : goal.offset_bounds-made-places
offset_bounds-made-places g c = omega (arith, face-there g.P.Primvar.numbers c.args.values.now c.args.made.now c.args.places.now c.args.at c.in-FacePoint.f c.requires c.in-FacePoint.is)

pub bounds-made-places : goal.bounds-made-places
bounds-made-places g c = face-there g.P.Primvar.numbers c.args.values.now c.args.made.now c.args.places.now c.args.at c.in-FacePoint.f c.requires c.in-FacePoint.is

pub returns-in-Point : goal.returns-in-Point
returns-in-Point g c =
    let rows = rows_of g.P.Primvar.numbers c.args.values.now in
    let made = rows_of g.P.Primvar.numbers c.args.made.now in
    let inside = subst (λ at. HasRow rows made c.args.places.now (source_of at)) c.in-Point.is c.requires in
    row-there g.P.Primvar.numbers c.args.values.now c.in-Point.v c.index-values-v.result
    (subst (λ n. c.in-Point.v < n) (length-map c.args.values.now (row_of g.P.Primvar.numbers)) inside) c.index-values-v.is
    ∙ sym (ap (λ at. source_row rows made c.args.places.now (source_of at)) c.in-Point.is)

pub returns-in-FacePoint : goal.returns-in-FacePoint
returns-in-FacePoint g c =
    let rows = rows_of g.P.Primvar.numbers c.args.values.now in
    let made = rows_of g.P.Primvar.numbers c.args.made.now in
    let inside = subst (λ at. HasRow rows made c.args.places.now (source_of at)) c.in-FacePoint.is c.requires in
    row-there g.P.Primvar.numbers c.args.made.now (get_or c.args.places.now c.in-FacePoint.f 0) c.index-made-places.result
    (subst (λ n. get_or c.args.places.now c.in-FacePoint.f 0 < n) (length-map c.args.made.now (row_of g.P.Primvar.numbers)) inside.1) c.index-made-places.is
    ∙ sym (ap (λ at. source_row rows made c.args.places.now (source_of at)) c.in-FacePoint.is)
