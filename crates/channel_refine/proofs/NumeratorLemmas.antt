-- The numerators of the rows of the table of a channel are those of its definition.
use Rattle.std.proofs.Common.{◌≡◌, ℕ, suc, ◌*◌, ◌/◌, ◌<◌, Bool, true, false, nat_eq, if◌then◌else◌, unsigned_abs, ℤ, pos, ◌+ℤ◌, ◌*ℤ◌, List, [], ◌∷◌, length, map, get_or, arith, refl, ap, sym, ◌∙◌, subst, zero-add}
use Rattle.std.specs.List.{AllByRecursion, AllPairs}
use Rattle.std.proofs.Math.IntN.{*ℤ_comm}
use Rattle.std.proofs.Math.ListN.{get_or-map}
use Rattle.std.proofs.Math.Nat.{mul-div_cancel_left}
use Rattle.std.proofs.lemmas.Bool.Decides.{nat_tests}
use Rattle.std.proofs.lemmas.Int.{ints, unsigned_abs-mul}
use Rattle.std.proofs.lemmas.List.{length-map}
use Rattle.std.proofs.lemmas.List.Elements.{recursion_from_All}
use Rattle.std.proofs.lemmas.List.FromFn.{length-map-range_with_len, get_or-map-range_with_len}
use Rattle.std.proofs.lemmas.List.Kept.{AllPairs-from_increasing}
use Rattle.subdiv_model.specs.Value.{Value, IsSameValue}
use Rattle.subdiv_model.specs.Refined.{point_value, refined_values, refined_denominators, control_values}
use Rattle.subdiv_model.specs.Support.{unit_controls, stencil_numerator}
use Rattle.subdiv_model.specs.Channel.{Channel}
use Rattle.mask_laws.proofs.SumLemmas.{IsOver}
use Rattle.stencil_laws.proofs.ShareLemmas.{value-positive}
use Rattle.stencil_apply.specs.Table.{Share, Row, Table, IsRow, IsTable, row_at}
use Rattle.stencil_apply.specs.Means.{numerator_of}
use Rattle.stencil_factory.specs.Rows.{share_sum}
use Rattle.channel_refine.specs.Composed.{ComposedTable, IsComposedTo}
use Rattle.channel_refine.proofs.IdentityLemmas.{value-row}

-- a share of a control that is 1 or 0, and the shares after it
one-share : (own : Bool) (share rest : ℕ) (unit sum : ℤ) → unit ≡ (if own then pos 1 else pos 0) → (own ≡ true → sum ≡ pos 0) → (own ≡ false → sum ≡ pos rest)
    → pos share *ℤ unit +ℤ sum ≡ pos (if own then share else rest)
one-share true share rest unit sum is none some = let zero_sum = none refl in rw (is, zero_sum) (omega (arith, ints))
one-share false share rest unit sum is none some = let rest_sum = some refl in rw (is, rest_sum) (omega (arith, ints))

module _ (n v : ℕ) where
  unit-at : (w : ℕ) → w < n → get_or (unit_controls n v) w (pos 0) ≡ (if nat_eq w v then pos 1 else pos 0)
  unit-at w h = get_or-map-range_with_len (λ k. if nat_eq k v then pos 1 else pos 0) 0 n w w (pos 0) h (zero-add w)

  -- no share of the control is among those of later ones
  none-sum : (shares : List Share) → AllByRecursion (λ share. share.0 < n) shares → AllByRecursion (λ w. v < w) (map (λ (share : Share). share.0) shares)
      → share_sum (unit_controls n v) shares ≡ pos 0
  none-sum [] inside after = refl
  none-sum (share ∷ shares) inside after =
      let other : nat_eq share.0 v ≡ false = apart share.0 v after.0 in
      let rest = none-sum shares inside.1 after.1 in
      one-share (nat_eq share.0 v) share.1 0 _ _ (unit-at share.0 inside.0) (λ own. rest) (λ own. rest) ∙ ap (λ b. pos (if b then share.1 else 0)) other
    where
      apart : (w u : ℕ) → u < w → nat_eq w u ≡ false
      apart w u h = grind (arith, nat_tests)

  -- if it is 1 and the others are 0, the sum is its numerator
  numerator-sum : (shares : List Share) → AllByRecursion (λ share. share.0 < n) shares → AllPairs (λ x y. x < y) (map (λ (share : Share). share.0) shares)
      → share_sum (unit_controls n v) shares ≡ pos (numerator_of shares v)
  numerator-sum [] inside pairs = refl
  numerator-sum (share ∷ shares) inside pairs =
      one-share (nat_eq share.0 v) share.1 (numerator_of shares v) _ _ (unit-at share.0 inside.0) none
      (λ other. numerator-sum shares inside.1 (λ i j d below within. pairs (suc i) (suc j) d (omega (arith, below)) (omega (arith, within))))
    where
      none : nat_eq share.0 v ≡ true → share_sum (unit_controls n v) shares ≡ pos 0
      none own =
          let same : share.0 ≡ v = grind (arith, nat_tests) in
          none-sum shares inside.1
          (subst (λ w. AllByRecursion (λ u. w < u) (map (λ (s : Share). s.0) shares)) same
          (recursion_from_All (λ u. share.0 < u) (map (λ (s : Share). s.0) shares) (λ k d h. pairs 0 (suc k) d (omega arith) (omega (arith, h)))))

-- a whole number over a denominator, from any value that it is
numerator-is : (den r : ℕ) (x : Value) → 0 < x.den → IsOver den x (pos r) → unsigned_abs x.num * den / x.den ≡ r
numerator-is den r x positive h =
    let crossed : den * unsigned_abs x.num ≡ x.den * r = sym (unsigned_abs-mul (pos den) x.num) ∙ ap unsigned_abs h ∙ unsigned_abs-mul (pos x.den) (pos r) in
    let turned : unsigned_abs x.num * den ≡ x.den * r = omega (arith, crossed) in
    ap (λ n. n / x.den) turned ∙ mul-div_cancel_left r positive

crossed-over : (x : Value) (den : ℕ) (z : ℤ) → IsSameValue x (record { num = z; den = den }) → IsOver den x z
crossed-over x den z same = *ℤ_comm (pos den) x.num ∙ same ∙ *ℤ_comm z (pos x.den)

module _ (channel : Channel) (depth : ℕ) (composed : ComposedTable) (is : IsComposedTo channel depth composed) (made : IsTable composed.table) (p control : ℕ) (inside : p < length composed.table.rows) where
  abbrev table : Table
  table = composed.table

  abbrev row : Row
  row = row_at table p

  abbrev numbers : List ℤ
  numbers = unit_controls channel.base.point_count control

  abbrev x : Value
  x = point_value (refined_values channel.base channel.scheme (control_values numbers) depth) p

  one : IsRow table.controls row
  one = made.rows p (record { den = 1; shares = [] }) inside

  den-is : get_or (refined_denominators channel.base channel.scheme depth) p 1 ≡ row.den
  den-is = ap (λ dens. get_or dens p 1) (sym is.dens) ∙ get_or-map (λ (r : Row). r.den) table.rows p (record { den = 1; shares = [] })

  positive : 0 < x.den
  positive = value-positive channel.base channel.scheme numbers depth p (omega (arith, den-is, one.positive))

  sum-is : share_sum numbers row.shares ≡ pos (numerator_of row.shares control)
  sum-is =
      numerator-sum channel.base.point_count control row.shares
      (subst (λ m. AllByRecursion (λ share. share.0 < m) row.shares) is.controls (recursion_from_All (λ share. share.0 < table.controls) row.shares one.inside))
      (AllPairs-from_increasing (map (λ (share : Share). share.0) row.shares) one.ascending)

  count : length numbers ≡ channel.base.point_count
  count = length-map-range_with_len (λ v. if nat_eq v control then pos 1 else pos 0) 0 channel.base.point_count

  over : IsOver row.den x (pos (numerator_of row.shares control))
  over =
      let rows = length-map {B = Value} table.rows (λ (r : Row). record { num = share_sum numbers r.shares; den = r.den }) in
      let same = (is.values numbers count).same p (omega (arith, inside, rows)) in
      subst (IsOver row.den x) sum-is (crossed-over x row.den (share_sum numbers row.shares) (subst (IsSameValue x) (value-row table numbers p inside) same))

-- the numerator of a control in a row is that of its point after all steps
pub stencil-numerators : (channel : Channel) (depth : ℕ) (composed : ComposedTable) → IsComposedTo channel depth composed → IsTable composed.table → (p control : ℕ)
    → p < length composed.table.rows → control < channel.base.point_count → numerator_of (row_at composed.table p).shares control ≡ stencil_numerator channel.base channel.scheme depth p control
stencil-numerators channel depth composed is made p control inside known =
    let value = x channel depth composed is made p control inside in
    sym (ap (λ n. unsigned_abs value.num * n / value.den) (den-is channel depth composed is made p control inside)
    ∙ numerator-is (row_at composed.table p).den (numerator_of (row_at composed.table p).shares control) value (positive channel depth composed is made p control inside) (over channel depth composed is made p control inside))
