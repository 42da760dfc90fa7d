-- A table with the denominators, the controls and the shares of a level's points is the level's table.
use Rattle.std.proofs.Common.{◌≡◌, ℕ, suc, ◌+◌, ◌<◌, nat_eq, List, [], ◌∷◌, ◌++◌, length, map, get_or, if◌then◌else◌, arith, refl, ap, sym, ◌∙◌, subst}
use Rattle.std.specs.List.{All, AllByRecursion, AllPairs, enumerate_from}
use Rattle.std.proofs.lemmas.Bool.Decides.{nat_tests}
use Rattle.std.proofs.lemmas.List.{length-map, get_or-map}
use Rattle.std.proofs.lemmas.List.Elements.{recursion_from_All}
use Rattle.std.proofs.lemmas.List.Kept.{AllPairs-from_increasing}
use Rattle.subdiv_model.specs.Level.{Level}
use Rattle.subdiv_model.specs.Mask.{Scheme}
use Rattle.subdiv_model.specs.Refined.{refined_denominators}
use Rattle.subdiv_model.specs.Support.{refined_supports, stencil_numerator}
use Rattle.subdiv_model.specs.Table.{level_table}
use Rattle.stencil_apply.specs.Table.{Share, Row, Table, IsRow, IsTable, row_at}
use Rattle.stencil_apply.specs.Means.{numerator_of}

-- the first of ascending controls is below each later one
first-below : (share : Share) (shares : List Share) → AllPairs (λ x y. x < y) (map (λ (s : Share). s.0) (share ∷ shares)) → All (λ s. share.0 < s.0) shares
first-below share shares up k d h =
    subst (λ (n : ℕ). share.0 < n) (get_or-map (λ (s : Share). s.0) shares k d d.0 h)
    (up 0 (suc k) d.0 (omega arith) (omega (arith, h, length-map shares (λ (s : Share). s.0))))

rest-up : (share : Share) (shares : List Share) → AllPairs (λ x y. x < y) (map (λ (s : Share). s.0) (share ∷ shares)) → AllPairs (λ x y. x < y) (map (λ (s : Share). s.0) shares)
rest-up share shares up i j d less h = up (suc i) (suc j) d (omega (arith, less)) (omega (arith, h))

-- a share before them does not change the numerators of later controls
later : (share : Share) (all rest : List Share) → AllByRecursion (λ s. share.0 < s.0) rest → AllByRecursion (λ s. numerator_of all s.0 ≡ s.1) rest →
    AllByRecursion (λ s. numerator_of (share ∷ all) s.0 ≡ s.1) rest
later share all [] below own = tt
later share all (next ∷ rest) below own =
    let less = below.0 in
    let same = own.0 in
    let here : (if nat_eq share.0 next.0 then share.1 else numerator_of all next.0) ≡ next.1 = grind (arith, nat_tests) in
    (here, later share all rest below.1 own.1)

-- the numerator of a share's own control is the share's
own-numerators : (shares : List Share) → AllPairs (λ x y. x < y) (map (λ (s : Share). s.0) shares) → AllByRecursion (λ s. numerator_of shares s.0 ≡ s.1) shares
own-numerators [] up = tt
own-numerators (share ∷ shares) up =
    let here : (if nat_eq share.0 share.0 then share.1 else numerator_of shares share.0) ≡ share.1 = grind (arith, nat_tests) in
    (here, later share shares shares (recursion_from_All (λ (s : Share). share.0 < s.0) shares (first-below share shares up)) (own-numerators shares (rest-up share shares up)))

-- a control with its numerator
abbrev share_by : (ℕ → ℕ) → ℕ → Share
share_by numerator control = (control, numerator control)

shares-same : (numerator : ℕ → ℕ) (controls : ℕ) (all rest : List Share) → ((control : ℕ) → control < controls → numerator_of all control ≡ numerator control) →
    AllByRecursion (λ s. s.0 < controls) rest → AllByRecursion (λ s. numerator_of all s.0 ≡ s.1) rest → rest ≡ map (share_by numerator) (map (λ (s : Share). s.0) rest)
shares-same numerator controls all [] same inside own = refl
shares-same numerator controls all (share ∷ rest) same inside own =
    ap (λ n. (share.0, n) ∷ rest) (sym own.0 ∙ same share.0 inside.0)
    ∙ ap (λ shares. share_by numerator share.0 ∷ shares) (shares-same numerator controls all rest same inside.1 own.1)

-- the row of a point, from a denominator, numerators and its controls
abbrev row_by : (ℕ → ℕ) → (ℕ → ℕ → ℕ) → ℕ × List ℕ → Row
row_by den numerator point = record { den = den point.0; shares = map (share_by (numerator point.0)) point.1 }

row-same : (den : ℕ) (numerator : ℕ → ℕ) (controls : ℕ) (row : Row) → IsRow controls row → den ≡ row.den → ((control : ℕ) → control < controls → numerator_of row.shares control ≡ numerator control) →
    row ≡ record { den = den; shares = map (share_by numerator) (map (λ (s : Share). s.0) row.shares) }
row-same den numerator controls row is over same =
    ap (λ d. record { den = d; shares = row.shares }) (sym over)
    ∙ ap (λ shares. record { den = den; shares = shares })
    (shares-same numerator controls row.shares row.shares same (recursion_from_All (λ (s : Share). s.0 < controls) row.shares is.inside)
    (own-numerators row.shares (AllPairs-from_increasing (map (λ (s : Share). s.0) row.shares) is.ascending)))

-- a read past the end gives the default
abbrev none : Row
none = record { den = 1; shares = [] }

rows-same : (den : ℕ → ℕ) (numerator : ℕ → ℕ → ℕ) (controls from : ℕ) (rows : List Row) → AllByRecursion (IsRow controls) rows →
    ((i : ℕ) → i < length rows → den (from + i) ≡ (get_or rows i none).den) →
    ((i control : ℕ) → i < length rows → control < controls → numerator_of (get_or rows i none).shares control ≡ numerator (from + i) control) →
    rows ≡ map (row_by den numerator) (enumerate_from from (map (λ (row : Row). map (λ (s : Share). s.0) row.shares) rows))
rows-same den numerator controls from [] are over same = refl
rows-same den numerator controls from (row ∷ rows) are over same =
    let here : from ≡ from + 0 = omega arith in
    let further : (i : ℕ) → (from + 1) + i ≡ from + suc i = λ i. omega arith in
    let first : row ≡ row_by den numerator (from, map (λ (s : Share). s.0) row.shares) =
    row-same (den from) (numerator from) controls row are.0 (ap den here ∙ over 0 (omega arith))
    (λ control h. same 0 control (omega arith) h ∙ ap (λ p. numerator p control) (sym here)) in
    ap (λ r. r ∷ rows) first
    ∙ ap (λ rs. row_by den numerator (from, map (λ (s : Share). s.0) row.shares) ∷ rs)
    (rows-same den numerator controls (from + 1) rows are.1
    (λ i h. ap den (further i) ∙ over (suc i) (omega (arith, h)))
    (λ i control h inside. same (suc i) control (omega (arith, h)) inside ∙ ap (λ p. numerator p control) (sym (further i))))

-- the table of the level after k steps
pub level-table : (table : Table) (level : Level) (scheme : Scheme) (k : ℕ) → table.controls ≡ level.point_count →
    map (λ row. row.den) table.rows ≡ refined_denominators level scheme k →
    map (λ row. map (λ share. share.0) row.shares) table.rows ≡ refined_supports level scheme k →
    ((p control : ℕ) → p < length table.rows → control < level.point_count → numerator_of (row_at table p).shares control ≡ stencil_numerator level scheme k p control) →
    IsTable table → table ≡ level_table level scheme k
level-table table level scheme k controls dens supports numerators is =
    let den : ℕ → ℕ = λ p. get_or (refined_denominators level scheme k) p 1 in
    let from_zero : (i : ℕ) → 0 + i ≡ i = λ i. omega arith in
    let over : (i : ℕ) → i < length table.rows → den (0 + i) ≡ (get_or table.rows i none).den =
    λ i h. ap den (from_zero i) ∙ ap (λ ds. get_or ds i 1) (sym dens) ∙ get_or-map (λ (row : Row). row.den) table.rows i none 1 h in
    let same : (i control : ℕ) → i < length table.rows → control < level.point_count → numerator_of (get_or table.rows i none).shares control ≡ stencil_numerator level scheme k (0 + i) control =
    λ i control h inside. numerators i control h inside ∙ ap (λ p. stencil_numerator level scheme k p control) (sym (from_zero i)) in
    let rows : AllByRecursion (IsRow level.point_count) table.rows = recursion_from_All (IsRow level.point_count) table.rows (subst (λ (n : ℕ). All (IsRow n) table.rows) controls is.rows) in
    ap (λ n. record { controls = n; rows = table.rows }) controls
    ∙ ap (λ rs. record { controls = level.point_count; rows = rs })
    (rows-same den (stencil_numerator level scheme k) level.point_count 0 table.rows rows over same
    ∙ ap (λ list. map (row_by den (stencil_numerator level scheme k)) (enumerate_from 0 list)) supports)
