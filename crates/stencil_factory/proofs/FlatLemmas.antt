-- The amounts of a term: their points, their sum, and the value they give.
use Rattle.std.proofs.Common.{◌≡◌, ℕ, suc, ◌+◌, ◌*◌, ◌/◌, ◌<◌, ◌≤◌, nat_eq, false, ◌||◌, ℤ, pos, ◌+ℤ◌, ◌*ℤ◌, List, [], ◌∷◌, length, map, get_or, arith, refl, ap, sym, ◌∙◌, subst}
use Rattle.std.specs.List.{AllByRecursion, sum_by}
use Rattle.std.specs.Int.{◌∣◌}
use Rattle.std.proofs.lemmas.Bool.Decides.{nat_tests}
use Rattle.std.proofs.lemmas.List.Sums.{sum_by-cons}
use Rattle.std.proofs.Math.IntN.{*ℤ_comm, *ℤ-zero, +ℤ_idr}
use Rattle.std.proofs.Math.Nat.{div-mul_cancel, mul-div_cancel_left, mul_assoc, mul-le-mul_left, div-le_self, le_trans}
use Rattle.subdiv_model.specs.Polygons.{is_among, polygon_at}
use Rattle.subdiv_model.specs.Level.{Level}
use Rattle.subdiv_model.specs.Multiples.{lcm_of_all}
use Rattle.subdiv_model.specs.Value.{Value}
use Rattle.subdiv_model.specs.Mask.{SourcePoint, OfPoint, OfFace, weigh_points, face_mask}
use Rattle.subdiv_model.specs.Refined.{point_value, corner_value, source_value}
use Rattle.subdiv_model.specs.Channel.{number_bound}
use Rattle.number_laws.proofs.MultipleLemmas.{product-positive, all-divide_lcm}
use Rattle.number_laws.proofs.WholeNumberLemmas.{pos-distrib, pos-assoc, times-one}
use Rattle.sharpness_laws.proofs.MaskValueLemmas.{joined-corners, same-value}
use Rattle.mask_laws.proofs.SumLemmas.{weighted_sum, IsOver, over-multiple, terms-over}
use Rattle.mask_rules.specs.Masks.{IsMask, corners_over}
use Rattle.stencil_laws.proofs.ShareLemmas.{factors-positive}
use Rattle.stencil_apply.specs.Table.{Share}
use Rattle.stencil_factory.specs.Rows.{support_of, share_sum}
use Rattle.stencil_factory.specs.Weights.{names_point}
use Rattle.stencil_factory.specs.Flat.{corner_shares, source_shares, CanWeigh}

-- the amounts times the denominators of their points
abbrev pub weigh_by : List ℕ → List Share → ℕ
weigh_by dens shares = sum_by (λ share. share.1 * get_or dens share.0 1) shares

-- the number of a corner over a multiple of its denominator
abbrev pub corner_number : List ℕ → List ℤ → ℕ → SourcePoint → ℤ
corner_number dens numbers multiple (OfPoint v) = pos (multiple / get_or dens v 1) *ℤ get_or numbers v (pos 0)
corner_number dens numbers multiple (OfFace f) = pos 0

-- the number of a source over m
abbrev pub source_number : Level → List ℕ → List ℕ → List ℤ → ℕ → SourcePoint → ℤ
source_number level dens faces numbers m (OfPoint v) = pos (m / get_or dens v 1) *ℤ get_or numbers v (pos 0)
source_number level dens faces numbers m (OfFace f) =
    pos (m / get_or faces f 1)
    *ℤ weighted_sum (corner_number dens numbers (get_or faces f 1 / length (polygon_at level.polygons f))) (weigh_points 1 (polygon_at level.polygons f))

-- what the denominators of corners have in common
abbrev pub common_of : List ℕ → List ℕ → ℕ
common_of dens corners = lcm_of_all (map (λ v. get_or dens v 1) corners)

-- a face with the denominator of its new point
pub record IsFace (level : Level) (dens faces : List ℕ) (f : ℕ) : Type 0 where
  pub known : f < length level.polygons
  pub listed : f < length faces
  pub some : 0 < length (polygon_at level.polygons f)
  pub inside : AllByRecursion (λ v. v < length dens) (polygon_at level.polygons f)
  pub den : get_or faces f 1 ≡ length (polygon_at level.polygons f) * common_of dens (polygon_at level.polygons f)
  pub mask : IsMask (corners_over (polygon_at level.polygons f) (length (polygon_at level.polygons f))) (face_mask level f)

-- a point or a face whose denominator divides m
abbrev pub IsPart : Level → List ℕ → List ℕ → ℕ → SourcePoint → Type 0
IsPart level dens faces m (OfPoint v) = (v < length dens) × (get_or dens v 1 ∣ m)
IsPart level dens faces m (OfFace f) = IsFace level dens faces f × (get_or faces f 1 ∣ m)

-- a number above 0 over a divisor is above 0
over-positive : (d m : ℕ) → 0 < m → d ∣ m → 0 < m / d
over-positive d m some divides = (factors-positive (m / d) d (subst (λ n. 0 < n) (sym (div-mul_cancel d divides)) some)).0

-- an amount over a divisor, times the divisor
over-times : (w m d : ℕ) → d ∣ m → w * (m / d) * d ≡ w * m
over-times w m d divides = mul_assoc w (m / d) d ∙ ap (λ n. w * n) (div-mul_cancel d divides)

-- The amount over a divisor is at most the amount.
below : (w m d : ℕ) → w * m ≤ number_bound → w * (m / d) ≤ number_bound
below w m d short = le_trans (mul-le-mul_left w (div-le_self m d)) short

one-times : (x : ℤ) → pos 1 *ℤ x ≡ x
one-times x = *ℤ_comm (pos 1) x ∙ times-one x

module _ (dens : List ℕ) (multiple : ℕ) where
  -- each corner is a point whose denominator divides the multiple
  abbrev AreCorners : List ℕ → Type 0
  AreCorners corners = AllByRecursion (λ v. (v < length dens) × (get_or dens v 1 ∣ multiple)) corners

  corners-inside : (factor : ℕ) (corners : List ℕ) → AreCorners corners → AllByRecursion (λ share. share.0 < length dens) (corner_shares dens factor multiple corners)
  corners-inside factor [] h = tt
  corners-inside factor (v ∷ corners) h = (h.0.0, corners-inside factor corners h.1)

  corners-each : (factor : ℕ) (corners : List ℕ) → 0 < factor → 0 < multiple → AreCorners corners → AllByRecursion (λ share. 0 < share.1) (corner_shares dens factor multiple corners)
  corners-each factor [] some above h = tt
  corners-each factor (v ∷ corners) some above h =
      (product-positive factor _ some (over-positive (get_or dens v 1) multiple above h.0.1), corners-each factor corners some above h.1)

  corners-weight : (factor : ℕ) (corners : List ℕ) → AreCorners corners → weigh_by dens (corner_shares dens factor multiple corners) ≡ length corners * (factor * multiple)
  corners-weight factor [] h = omega arith
  corners-weight factor (v ∷ corners) h =
      sum_by-cons (λ (share : Share). share.1 * get_or dens share.0 1) (v, factor * (multiple / get_or dens v 1)) (corner_shares dens factor multiple corners)
      ∙ once-more (factor * (multiple / get_or dens v 1) * get_or dens v 1) _ (length corners) (factor * multiple) (over-times factor multiple (get_or dens v 1) h.0.1) (corners-weight factor corners h.1)
    where
      once-more : (a r k p : ℕ) → a ≡ p → r ≡ k * p → a + r ≡ suc k * p
      once-more a r k p e h = omega (arith, e, h)

  corners-value : (numbers : List ℤ) (factor : ℕ) (corners : List ℕ)
      → share_sum numbers (corner_shares dens factor multiple corners) ≡ pos factor *ℤ weighted_sum (corner_number dens numbers multiple) (weigh_points 1 corners)
  corners-value numbers factor [] = sym (*ℤ-zero (pos factor))
  corners-value numbers factor (v ∷ corners) =
      let own = pos (multiple / get_or dens v 1) *ℤ get_or numbers v (pos 0) in
      let rest = weighted_sum (corner_number dens numbers multiple) (weigh_points 1 corners) in
      ap (λ z. z +ℤ share_sum numbers (corner_shares dens factor multiple corners)) (sym (pos-assoc factor (multiple / get_or dens v 1) (get_or numbers v (pos 0))))
      ∙ ap (λ z. pos factor *ℤ own +ℤ z) (corners-value numbers factor corners)
      ∙ ap (λ z. pos factor *ℤ z +ℤ pos factor *ℤ rest) (sym (one-times own))
      ∙ sym (pos-distrib factor (pos 1 *ℤ own) rest)

  corners-over : (numbers : List ℤ) (values : List Value) → ((v : ℕ) → v < length dens → IsOver (get_or dens v 1) (point_value values v) (get_or numbers v (pos 0)))
      → (corners : List ℕ) → AreCorners corners
      → AllByRecursion (λ t. IsOver multiple (corner_value values t.source) (corner_number dens numbers multiple t.source)) (weigh_points 1 corners)
  corners-over numbers values over [] h = tt
  corners-over numbers values over (v ∷ corners) h =
      (over-multiple (get_or dens v 1) multiple (point_value values v) (get_or numbers v (pos 0)) h.0.1 (over v h.0.0), corners-over numbers values over corners h.1)

corners-support : (dens : List ℕ) (factor multiple : ℕ) (corners : List ℕ) → support_of (corner_shares dens factor multiple corners) ≡ corners
corners-support dens factor multiple [] = refl
corners-support dens factor multiple (v ∷ corners) = ap (λ l. v ∷ l) (corners-support dens factor multiple corners)

-- the corners of a face over its denominator
module _ (level : Level) (dens faces : List ℕ) (f : ℕ) (is : IsFace level dens faces f) where
  abbrev polygon : List ℕ
  polygon = polygon_at level.polygons f

  abbrev over : ℕ
  over = get_or faces f 1 / length polygon

  -- the number by which the denominator is more than that of its corners
  over-is : over ≡ common_of dens polygon
  over-is = ap (λ n. n / length polygon) is.den ∙ mul-div_cancel_left (common_of dens polygon) is.some

  face-whole : get_or faces f 1 ≡ length polygon * over
  face-whole = is.den ∙ ap (λ n. length polygon * n) (sym over-is)

  face-corners : AreCorners dens over polygon
  face-corners =
      subst (λ n. AreCorners dens n polygon) (sym over-is)
      (both (common_of dens polygon) polygon is.inside (all-divide_lcm (map (λ v. get_or dens v 1) polygon)))
    where
      both : (m : ℕ) (corners : List ℕ) → AllByRecursion (λ v. v < length dens) corners → AllByRecursion (λ a. a ∣ m) (map (λ v. get_or dens v 1) corners) → AreCorners dens m corners
      both m [] h d = tt
      both m (v ∷ corners) h d = ((h.0, d.0), both m corners h.1 d.1)

  -- the value of the face
  face-over : (numbers : List ℤ) (values : List Value) → ((v : ℕ) → v < length dens → IsOver (get_or dens v 1) (point_value values v) (get_or numbers v (pos 0)))
      → IsOver (get_or faces f 1) (source_value level values (OfFace f)) (weighted_sum (corner_number dens numbers over) (weigh_points 1 polygon))
  face-over numbers values each =
      let number = weighted_sum (corner_number dens numbers over) (weigh_points 1 polygon) in
      subst (λ n. IsOver n (source_value level values (OfFace f)) number) (sym face-whole)
      (subst (λ x. IsOver (length polygon * over) x number)
      (same-value (corners_over polygon (length polygon)) (face_mask level f) is.mask.joined (joined-corners polygon) is.mask.same (corner_value values))
      (terms-over (length polygon) over (corner_value values) (corner_number dens numbers over) (weigh_points 1 polygon) (corners-over dens over numbers values each polygon face-corners)))

  face-weight : (w m : ℕ) → get_or faces f 1 ∣ m → weigh_by dens (source_shares level dens faces m w (OfFace f)) ≡ w * m
  face-weight w m divides =
      corners-weight dens over (w * (m / get_or faces f 1)) polygon face-corners
      ∙ reorder (length polygon) w (m / get_or faces f 1) over
      ∙ ap (λ n. w * (m / get_or faces f 1 * n)) (sym face-whole)
      ∙ ap (λ n. w * n) (div-mul_cancel (get_or faces f 1) divides)
    where
      reorder : (s w k l : ℕ) → s * (w * k * l) ≡ w * (k * (s * l))
      reorder s w k l = omega arith

module _ (level : Level) (dens faces : List ℕ) (m : ℕ) (above : 0 < m) where
  -- each amount is at a point
  pub source-inside : (w : ℕ) (s : SourcePoint) → IsPart level dens faces m s → AllByRecursion (λ share. share.0 < length dens) (source_shares level dens faces m w s)
  source-inside w (OfPoint v) is = (is.0, tt)
  source-inside w (OfFace f) is =
      corners-inside dens (over level dens faces f is.0) (w * (m / get_or faces f 1)) (polygon_at level.polygons f) (face-corners level dens faces f is.0)

  -- Each amount is above 0.
  pub source-each : (w : ℕ) (s : SourcePoint) → 0 < w → IsPart level dens faces m s → AllByRecursion (λ share. 0 < share.1) (source_shares level dens faces m w s)
  source-each w (OfPoint v) some is = (product-positive w _ some (over-positive (get_or dens v 1) m above is.1), tt)
  source-each w (OfFace f) some is =
      let whole : 0 < get_or faces f 1 = (factors-positive (m / get_or faces f 1) (get_or faces f 1) (subst (λ n. 0 < n) (sym (div-mul_cancel (get_or faces f 1) is.1)) above)).1 in
      let positive : 0 < over level dens faces f is.0 =
      (factors-positive (length (polygon_at level.polygons f)) (over level dens faces f is.0) (subst (λ n. 0 < n) (face-whole level dens faces f is.0) whole)).1 in
      corners-each dens (over level dens faces f is.0) (w * (m / get_or faces f 1)) (polygon_at level.polygons f)
      (product-positive w _ some (over-positive (get_or faces f 1) m above is.1)) positive (face-corners level dens faces f is.0)

  -- times the denominators they are the weight times m
  pub source-weight : (w : ℕ) (s : SourcePoint) → IsPart level dens faces m s → weigh_by dens (source_shares level dens faces m w s) ≡ w * m
  source-weight w (OfPoint v) is =
      sum_by-cons (λ (share : Share). share.1 * get_or dens share.0 1) (v, w * (m / get_or dens v 1)) []
      ∙ none (w * (m / get_or dens v 1) * get_or dens v 1) (w * m) (over-times w m (get_or dens v 1) is.1)
    where
      none : (a b : ℕ) → a ≡ b → a + 0 ≡ b
      none a b e = omega (arith, e)
  source-weight w (OfFace f) is = face-weight level dens faces f is.0 w m is.1

  -- times numbers they are the weight times the number of the source
  pub source-value : (numbers : List ℤ) (w : ℕ) (s : SourcePoint)
      → share_sum numbers (source_shares level dens faces m w s) ≡ pos w *ℤ source_number level dens faces numbers m s
  source-value numbers w (OfPoint v) = +ℤ_idr _ ∙ sym (pos-assoc w (m / get_or dens v 1) (get_or numbers v (pos 0)))
  source-value numbers w (OfFace f) =
      corners-value dens (get_or faces f 1 / length (polygon_at level.polygons f)) numbers (w * (m / get_or faces f 1)) (polygon_at level.polygons f)
      ∙ sym (pos-assoc w (m / get_or faces f 1) _)

  -- The number of the source over `m` is the value of the source.
  pub source-over : (numbers : List ℤ) (values : List Value) → ((v : ℕ) → v < length dens → IsOver (get_or dens v 1) (point_value values v) (get_or numbers v (pos 0)))
      → (s : SourcePoint) → IsPart level dens faces m s → IsOver m (source_value level values s) (source_number level dens faces numbers m s)
  source-over numbers values each (OfPoint v) is = over-multiple (get_or dens v 1) m (point_value values v) (get_or numbers v (pos 0)) is.1 (each v is.0)
  source-over numbers values each (OfFace f) is =
      over-multiple (get_or faces f 1) m (source_value level values (OfFace f)) _ is.1 (face-over level dens faces f is.0 numbers values each)

  -- The amounts name the points that the source names.
  pub source-named : (v w : ℕ) (s : SourcePoint) → is_among (support_of (source_shares level dens faces m w s)) v ≡ names_point level v s
  source-named v w (OfPoint u) = turned v u
    where
      turned : (v u : ℕ) → (nat_eq v u || false) ≡ nat_eq u v
      turned v u = grind (arith, nat_tests)
  source-named v w (OfFace f) =
      ap (λ l. is_among l v) (corners-support dens (w * (m / get_or faces f 1)) (get_or faces f 1 / length (polygon_at level.polygons f)) (polygon_at level.polygons f))

  -- The weight over `m` is within the bound.
  pub source-can : (w : ℕ) (s : SourcePoint) → w * m ≤ number_bound → IsPart level dens faces m s → CanWeigh level dens faces m w s
  source-can w (OfPoint v) short is = (is.0, below w m (get_or dens v 1) short)
  source-can w (OfFace f) short is =
      (is.0.known, is.0.listed, (factors-positive (m / get_or faces f 1) (get_or faces f 1) (subst (λ n. 0 < n) (sym (div-mul_cancel (get_or faces f 1) is.1)) above)).1, below w m (get_or faces f 1) short)
