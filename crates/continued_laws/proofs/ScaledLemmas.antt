-- Values over one denominator, refined as the same values over another.
use Rattle.std.proofs.Common.{◌≡◌, ℕ, zero, suc, ◌+◌, ◌*◌, ℤ, pos, ◌+ℤ◌, ◌*ℤ◌, List, [], ◌∷◌, map, arith, refl, ap, sym, ◌∙◌, subst}
use Rattle.std.specs.List.{AllZip}
use Rattle.std.proofs.Math.IntN.{*ℤ_comm, *ℤ-zero}
use Rattle.subdiv_model.specs.Level.{Level}
use Rattle.subdiv_model.specs.Child.{refined_level}
use Rattle.subdiv_model.specs.Mask.{SourcePoint, OfPoint, OfFace, Term, Mask, Scheme, face_mask, child_masks}
use Rattle.subdiv_model.specs.Value.{Value, whole_value, plus_value, weighted}
use Rattle.subdiv_model.specs.Refined.{mask_value, point_value, corner_value, source_value, child_values, refined_values, control_values, over_common, refined_coordinates}
use Rattle.number_laws.proofs.WholeNumberLemmas.{pos-distrib, pos-assoc}
use Rattle.mask_laws.specs.Laws.{value_of_terms}
use Rattle.continued_laws.specs.Laws.{AreSameValues, values_over}
use Rattle.continued_laws.proofs.StepLemmas.{steps-on}

-- x over c has the value of y over e
abbrev pub IsSameOver : ℕ → ℕ → Value → Value → Type 0
IsSameOver c e x y = pos (y.den * e) *ℤ x.num ≡ pos (x.den * c) *ℤ y.num

-- a factor goes from one side to the other with what it multiplies
crossed : (n m u v w : ℕ) (a b : ℤ) → n ≡ m * u → m * v ≡ w → pos u *ℤ a ≡ pos v *ℤ b → pos n *ℤ a ≡ pos w *ℤ b
crossed n m u v w a b from to h =
    ap (λ k. pos k *ℤ a) from
    ∙ sym (pos-assoc m u a)
    ∙ ap (λ z. pos m *ℤ z) h
    ∙ pos-assoc m v b
    ∙ ap (λ k. pos k *ℤ b) to

-- What a mask is made of.

module _ (c e : ℕ) where
  none-over : IsSameOver c e (whole_value (pos 0)) (whole_value (pos 0))
  none-over = *ℤ-zero (pos (1 * e)) ∙ sym (*ℤ-zero (pos (1 * c)))

  weighted-over : (w q : ℕ) (x y : Value) → IsSameOver c e x y → IsSameOver c e (weighted w q x) (weighted w q y)
  weighted-over w q x y h =
      pos-assoc (q * y.den * e) w x.num
      ∙ crossed (q * y.den * e * w) (q * w) (y.den * e) (x.den * c) (q * x.den * c * w) x.num y.num (omega arith) (omega arith) h
      ∙ sym (pos-assoc (q * x.den * c) w y.num)

  -- the sum of x and r is (x.num r.den + r.num x.den) over x.den r.den
  sum-out : (n p a : ℕ) (x r : ℤ) → pos n *ℤ (x *ℤ pos p +ℤ r *ℤ pos a) ≡ pos (n * p) *ℤ x +ℤ pos (n * a) *ℤ r
  sum-out n p a x r =
      pos-distrib n (x *ℤ pos p) (r *ℤ pos a)
      ∙ ap (λ z. pos n *ℤ z +ℤ pos n *ℤ (r *ℤ pos a)) (*ℤ_comm x (pos p))
      ∙ ap (λ z. z +ℤ pos n *ℤ (r *ℤ pos a)) (pos-assoc n p x)
      ∙ ap (λ z. pos (n * p) *ℤ x +ℤ pos n *ℤ z) (*ℤ_comm r (pos a))
      ∙ ap (λ z. pos (n * p) *ℤ x +ℤ z) (pos-assoc n a r)

  plus-over : (x y r s : Value) → IsSameOver c e x y → IsSameOver c e r s → IsSameOver c e (plus_value x r) (plus_value y s)
  plus-over x y r s h k =
      sum-out (y.den * s.den * e) r.den x.den x.num r.num
      ∙ ap (λ z. z +ℤ pos (y.den * s.den * e * x.den) *ℤ r.num)
      (crossed (y.den * s.den * e * r.den) (r.den * s.den) (y.den * e) (x.den * c) (x.den * r.den * c * s.den) x.num y.num (omega arith) (omega arith) h)
      ∙ ap (λ z. pos (x.den * r.den * c * s.den) *ℤ y.num +ℤ z)
      (crossed (y.den * s.den * e * x.den) (x.den * y.den) (s.den * e) (r.den * c) (x.den * r.den * c * y.den) r.num s.num (omega arith) (omega arith) k)
      ∙ sym (sum-out (x.den * r.den * c) s.den y.den y.num s.num)

  module _ (value other : SourcePoint → Value) (each : (source : SourcePoint) → IsSameOver c e (value source) (other source)) where
    terms-over : (q : ℕ) (terms : List Term) → IsSameOver c e (value_of_terms value terms q) (value_of_terms other terms q)
    terms-over q [] = none-over
    terms-over q (term ∷ terms) =
        plus-over (weighted term.weight q (value term.source)) (weighted term.weight q (other term.source))
        (value_of_terms value terms q) (value_of_terms other terms q)
        (weighted-over term.weight q (value term.source) (other term.source) (each term.source)) (terms-over q terms)

    masks-over : (masks : List Mask) → AllZip (IsSameOver c e) (map (mask_value value) masks) (map (mask_value other) masks)
    masks-over [] = tt
    masks-over (mask ∷ masks) = (terms-over mask.denominator mask.terms, masks-over masks)

  point-over : (xs ys : List Value) (v : ℕ) → AllZip (IsSameOver c e) xs ys → IsSameOver c e (point_value xs v) (point_value ys v)
  point-over [] [] v h = none-over
  point-over [] (y ∷ ys) v h = absurd h
  point-over (x ∷ xs) [] v h = absurd h
  point-over (x ∷ xs) (y ∷ ys) zero h = h.0
  point-over (x ∷ xs) (y ∷ ys) (suc v) h = point-over xs ys v h.1

  module _ (level : Level) (xs ys : List Value) (h : AllZip (IsSameOver c e) xs ys) where
    corner-over : (source : SourcePoint) → IsSameOver c e (corner_value xs source) (corner_value ys source)
    corner-over (OfPoint v) = point-over xs ys v h
    corner-over (OfFace f) = none-over

    source-over : (source : SourcePoint) → IsSameOver c e (source_value level xs source) (source_value level ys source)
    source-over (OfPoint v) = point-over xs ys v h
    source-over (OfFace f) =
        let mask = face_mask level f in terms-over (corner_value xs) (corner_value ys) corner-over mask.denominator mask.terms

    pub child-over : (scheme : Scheme) → AllZip (IsSameOver c e) (child_values level scheme xs) (child_values level scheme ys)
    child-over scheme = masks-over (source_value level xs) (source_value level ys) source-over (child_masks level scheme)

  -- from the level after k steps on
  pub refined-over : (base : Level) (scheme : Scheme) (xs ys : List Value) (k j : ℕ)
      → AllZip (IsSameOver c e) (refined_values base scheme xs k) ys
      → AllZip (IsSameOver c e) (refined_values base scheme xs (k + j)) (refined_values (refined_level base k) scheme ys j)
  refined-over base scheme xs ys k zero h =
      let same : k ≡ k + 0 = omega arith in subst (λ n. AllZip (IsSameOver c e) (refined_values base scheme xs n) ys) same h
  refined-over base scheme xs ys k (suc j) h =
      let next : suc (k + j) ≡ k + suc j = omega arith in
      let before = refined_values base scheme xs (k + j) in
      let behind = refined_values (refined_level base k) scheme ys j in
      subst (λ n. AllZip (IsSameOver c e) (refined_values base scheme xs n) (refined_values (refined_level base k) scheme ys (suc j))) next
      (subst (λ level. AllZip (IsSameOver c e) (child_values (refined_level base (k + j)) scheme before) (child_values level scheme behind))
      (sym (steps-on base k j)) (child-over (refined_level base (k + j)) before behind (refined-over base scheme xs ys k j h) scheme))

  -- from values over their own denominators to values over both common ones
  pub to-same : (xs ys : List Value) → AllZip (IsSameOver c e) xs ys → AreSameValues (map (over_common c) xs) (map (over_common e) ys)
  to-same [] [] h = tt
  to-same [] (y ∷ ys) h = absurd h
  to-same (x ∷ xs) [] h = absurd h
  to-same (x ∷ xs) (y ∷ ys) h = (*ℤ_comm x.num (pos (y.den * e)) ∙ h.0 ∙ *ℤ_comm (pos (x.den * c)) y.num, to-same xs ys h.1)

  pub from-same : (xs ys : List Value) → AreSameValues (map (over_common c) xs) (map (over_common e) ys) → AllZip (IsSameOver c e) xs ys
  from-same [] [] h = tt
  from-same [] (y ∷ ys) h = absurd h
  from-same (x ∷ xs) [] h = absurd h
  from-same (x ∷ xs) (y ∷ ys) h = (*ℤ_comm (pos (y.den * e)) x.num ∙ h.0 ∙ *ℤ_comm y.num (pos (x.den * c)), from-same xs ys h.1)

-- numbers over a common denominator are control numbers over it
abbrev over_den : ℤ → ℕ → Value
over_den n d = record { num = n; den = d }

over-controls : (e : ℕ) (numbers : List ℤ) → values_over e numbers ≡ map (over_common e) (control_values numbers)
over-controls e [] = refl
over-controls e (n ∷ numbers) =
    let own : e ≡ 1 * e = omega arith in
    ap (λ d. over_den n d ∷ values_over e numbers) own ∙ ap (λ values. over_den n (1 * e) ∷ values) (over-controls e numbers)

-- control numbers that have the values of the points after k steps are refined to the values of the points after k + j
pub values-on : (base : Level) (scheme : Scheme) (c e : ℕ) (controls numbers : List ℤ) (k j : ℕ)
    → AreSameValues (refined_coordinates base scheme c controls k) (values_over e numbers)
    → AreSameValues (refined_coordinates base scheme c controls (k + j)) (refined_coordinates (refined_level base k) scheme e numbers j)
values-on base scheme c e controls numbers k j h =
    let own = control_values controls in
    let given = control_values numbers in
    let start = from-same c e (refined_values base scheme own k) given
    (subst (λ values. AreSameValues (refined_coordinates base scheme c controls k) values) (over-controls e numbers) h) in
    to-same c e (refined_values base scheme own (k + j)) (refined_values (refined_level base k) scheme given j)
    (refined-over c e base scheme own given k j start)

-- Values in any terms.

whole-den : (n : ℕ) (z : ℤ) → pos (n * 1) *ℤ z ≡ z *ℤ pos n
whole-den n z = let same : n * 1 ≡ n = omega arith in ap (λ k. pos k *ℤ z) same ∙ *ℤ_comm (pos n) z

over-one : (xs ys : List Value) → AreSameValues xs ys → AllZip (IsSameOver 1 1) xs ys
over-one [] [] h = tt
over-one [] (y ∷ ys) h = absurd h
over-one (x ∷ xs) [] h = absurd h
over-one (x ∷ xs) (y ∷ ys) h = (whole-den y.den x.num ∙ h.0 ∙ sym (whole-den x.den y.num), over-one xs ys h.1)

from-one : (xs ys : List Value) → AllZip (IsSameOver 1 1) xs ys → AreSameValues xs ys
from-one [] [] h = tt
from-one [] (y ∷ ys) h = absurd h
from-one (x ∷ xs) [] h = absurd h
from-one (x ∷ xs) (y ∷ ys) h = (sym (whole-den y.den x.num) ∙ h.0 ∙ whole-den x.den y.num, from-one xs ys h.1)

-- values that are the same have children that are the same
pub child-same : (level : Level) (scheme : Scheme) (xs ys : List Value) → AreSameValues xs ys
    → AreSameValues (child_values level scheme xs) (child_values level scheme ys)
child-same level scheme xs ys h =
    from-one (child_values level scheme xs) (child_values level scheme ys) (child-over 1 1 level xs ys (over-one xs ys h) scheme)
