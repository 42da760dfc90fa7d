-- Sums of rows over points, coordinate by coordinate.
use Rattle.std.proofs.Common.{◌≡◌, ℕ, zero, suc, ℤ, pos, ◌+ℤ◌, ◌*ℤ◌, List, [], ◌∷◌, map, get_or, refl, ap, sym, ◌∙◌}
use Rattle.std.proofs.Math.IntN.{*ℤ-zero, +ℤ_idl, +ℤ_idr, +ℤ_assoc}
use Rattle.far_model.specs.Frames.{numbers_of}
use Rattle.ratio128.specs.Numbers.{plus_times}
use Rattle.stencil_apply.specs.Table.{Share, sum_of_shares}
use Rattle.stencil_factory.specs.Rows.{share_sum}

abbrev Place : Type 0
Place = ℤ × ℤ × ℤ

-- three numbers are the same if each is
pub three : {x y z u v w : ℤ} → x ≡ u → y ≡ v → z ≡ w → x ∷ y ∷ z ∷ [] ≡ u ∷ v ∷ w ∷ []
three {x} {y} {z} {u} {v} {w} f g h = ap (λ t. t ∷ y ∷ z ∷ []) f ∙ ap (λ t. u ∷ t ∷ z ∷ []) g ∙ ap (λ t. u ∷ v ∷ t ∷ []) h

-- one more point, or none
no-more : (w x : ℤ) → x ≡ x +ℤ w *ℤ pos 0
no-more w x = sym (ap (λ t. x +ℤ t) (*ℤ-zero w) ∙ +ℤ_idr x)

plus-at : (w x y z : ℤ) (controls : List Place) (i : ℕ) → plus_times w (x ∷ y ∷ z ∷ []) (get_or (map numbers_of controls) i [])
    ≡ (x +ℤ w *ℤ get_or (map (λ p. p.0) controls) i (pos 0)) ∷ (y +ℤ w *ℤ get_or (map (λ p. p.1) controls) i (pos 0)) ∷ (z +ℤ w *ℤ get_or (map (λ p. p.2) controls) i (pos 0)) ∷ []
plus-at w x y z [] i = three (no-more w x) (no-more w y) (no-more w z)
plus-at w x y z (control ∷ controls) zero = refl
plus-at w x y z (control ∷ controls) (suc i) = plus-at w x y z controls i

-- the sum of shares in each coordinate
sum-from : (controls : List Place) (x y z : ℤ) (shares : List Share) → sum_of_shares (x ∷ y ∷ z ∷ []) (map numbers_of controls) shares
    ≡ (x +ℤ share_sum (map (λ p. p.0) controls) shares) ∷ (y +ℤ share_sum (map (λ p. p.1) controls) shares) ∷ (z +ℤ share_sum (map (λ p. p.2) controls) shares) ∷ []
sum-from controls x y z [] = three (sym (+ℤ_idr x)) (sym (+ℤ_idr y)) (sym (+ℤ_idr z))
sum-from controls x y z (share ∷ shares) =
    let w = pos share.1 in
    let a = w *ℤ get_or (map (λ (p : Place). p.0) controls) share.0 (pos 0) in
    let b = w *ℤ get_or (map (λ (p : Place). p.1) controls) share.0 (pos 0) in
    let c = w *ℤ get_or (map (λ (p : Place). p.2) controls) share.0 (pos 0) in
    ap (λ start. sum_of_shares start (map numbers_of controls) shares) (plus-at w x y z controls share.0)
    ∙ sum-from controls (x +ℤ a) (y +ℤ b) (z +ℤ c) shares
    ∙ three (+ℤ_assoc x a (share_sum (map (λ p. p.0) controls) shares)) (+ℤ_assoc y b (share_sum (map (λ p. p.1) controls) shares)) (+ℤ_assoc z c (share_sum (map (λ p. p.2) controls) shares))

pub sum-columns : (controls : List Place) (shares : List Share) → sum_of_shares (pos 0 ∷ pos 0 ∷ pos 0 ∷ []) (map numbers_of controls) shares
    ≡ share_sum (map (λ p. p.0) controls) shares ∷ share_sum (map (λ p. p.1) controls) shares ∷ share_sum (map (λ p. p.2) controls) shares ∷ []
sum-columns controls shares =
    sum-from controls (pos 0) (pos 0) (pos 0) shares
    ∙ three (+ℤ_idl (share_sum (map (λ p. p.0) controls) shares)) (+ℤ_idl (share_sum (map (λ p. p.1) controls) shares)) (+ℤ_idl (share_sum (map (λ p. p.2) controls) shares))
