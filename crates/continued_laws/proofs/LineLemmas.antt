-- Points that have the same values have the same lines.
use Rattle.std.proofs.Common.{◌≡◌, ℕ, List, [], ◌∷◌, ◌++◌, codes, refl, ap, ◌∙◌}
use Rattle.std.specs.List.{All, AllZip, AllByRecursion}
use Rattle.std.proofs.lemmas.List.Elements.{recursion_from_All}
use Rattle.subdiv_model.specs.Value.{Value}
use Rattle.subdiv_model.specs.Refined.{points_of_coordinates}
use Rattle.subdiv_model.specs.NumberText.{value_text}
use Rattle.subdiv_model.specs.Text.{line_text}
use Rattle.number_laws.proofs.TextLemmas.{fraction_text-same}
use Rattle.continued_laws.specs.Laws.{AreSameValues, HasDenominator, Columns, AreSameColumns, point_lines, points_of}

-- the values have one text, one by one
abbrev HaveSameTexts : List Value → List Value → Type 0
HaveSameTexts xs ys = AllZip (λ x y. value_text x ≡ value_text y) xs ys

texts-same : (xs ys : List Value) → AllByRecursion HasDenominator xs → AllByRecursion HasDenominator ys → AreSameValues xs ys
    → HaveSameTexts xs ys
texts-same [] [] above below same = tt
texts-same [] (y ∷ ys) above below same = absurd same
texts-same (x ∷ xs) [] above below same = absurd same
texts-same (x ∷ xs) (y ∷ ys) above below same =
    (fraction_text-same x.num y.num x.den y.den above.0 below.0 same.0, texts-same xs ys above.1 below.1 same.1)

-- the line of three texts
abbrev line_of : List ℕ → List ℕ → List ℕ → List ℕ
line_of x y z = line_text (codes "v") (x ∷ y ∷ z ∷ [])

lines-same : (xs us ys vs zs ws : List Value) → HaveSameTexts xs us → HaveSameTexts ys vs → HaveSameTexts zs ws
    → point_lines (points_of_coordinates xs ys zs) ≡ point_lines (points_of_coordinates us vs ws)
lines-same [] [] ys vs zs ws hx hy hz = refl
lines-same [] (u ∷ us) ys vs zs ws hx hy hz = absurd hx
lines-same (x ∷ xs) [] ys vs zs ws hx hy hz = absurd hx
lines-same (x ∷ xs) (u ∷ us) [] [] zs ws hx hy hz = refl
lines-same (x ∷ xs) (u ∷ us) [] (v ∷ vs) zs ws hx hy hz = absurd hy
lines-same (x ∷ xs) (u ∷ us) (y ∷ ys) [] zs ws hx hy hz = absurd hy
lines-same (x ∷ xs) (u ∷ us) (y ∷ ys) (v ∷ vs) [] [] hx hy hz = refl
lines-same (x ∷ xs) (u ∷ us) (y ∷ ys) (v ∷ vs) [] (w ∷ ws) hx hy hz = absurd hz
lines-same (x ∷ xs) (u ∷ us) (y ∷ ys) (v ∷ vs) (z ∷ zs) [] hx hy hz = absurd hz
lines-same (x ∷ xs) (u ∷ us) (y ∷ ys) (v ∷ vs) (z ∷ zs) (w ∷ ws) hx hy hz =
    let rest = point_lines (points_of_coordinates xs ys zs) in
    ap (λ t. line_of t (value_text y) (value_text z) ++ rest) hx.0
    ∙ ap (λ t. line_of (value_text u) t (value_text z) ++ rest) hy.0
    ∙ ap (λ t. line_of (value_text u) (value_text v) t ++ rest) hz.0
    ∙ ap (λ t. line_of (value_text u) (value_text v) (value_text w) ++ t) (lines-same xs us ys vs zs ws hx.1 hy.1 hz.1)

pub columns-same : (first second : Columns) → AreSameColumns first second → point_lines (points_of first) ≡ point_lines (points_of second)
columns-same first second same =
    let above : (xs : List Value) → All HasDenominator xs → AllByRecursion HasDenominator xs = λ xs. recursion_from_All HasDenominator xs in
    lines-same first.xs second.xs first.ys second.ys first.zs second.zs
    (texts-same first.xs second.xs (above first.xs first.above_x) (above second.xs second.above_x) same.x)
    (texts-same first.ys second.ys (above first.ys first.above_y) (above second.ys second.above_y) same.y)
    (texts-same first.zs second.zs (above first.zs first.above_z) (above second.zs second.above_z) same.z)
