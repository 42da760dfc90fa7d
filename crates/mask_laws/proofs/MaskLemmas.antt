-- Masks are means: weights above 0 that sum to the denominator.
use Rattle.std.proofs.Common.{◌≡◌, ℕ, zero, suc, ◌+◌, ◌-◌, ◌*◌, ◌<◌, ◌≤◌, true, nat_lt, nat_le, if◌then◌else◌, List, [], ◌∷◌, ◌++◌, length, arith, refl, ap, sym, ◌∙◌}
use Rattle.std.specs.List.{list_all}
use Rattle.std.proofs.lemmas.Bool.{and_from, and_parts, eq-eqb, lt-ltb, le-leb, leb-false, cond_both}
use Rattle.std.proofs.lemmas.List.Sums.{sum_by-cons, sum_by-append}
use Rattle.subdiv_model.specs.Edges.{faces_of_edge}
use Rattle.subdiv_model.specs.Sharpness.{Sharpness, Smooth, Semi, Infinite}
use Rattle.subdiv_model.specs.Level.{Level, edge_sharpness_of}
use Rattle.subdiv_model.specs.Mask.{Scheme, CatmullClark, Linear, edge_mask, mask_of_edge, sharp_edge_mask, OfPoint, OfFace, Term, mask_of, has_distinct_sources, is_mean, total_weight, weigh, weigh_points, weigh_faces, mask_of_corners, smooth_edge_mask, blended_edge_mask, smooth_vertex_mask, crease_mask, corner_mask}
use Rattle.sharpness_laws.proofs.MaskValueLemmas.{joined-mask_of}
use Rattle.mask_laws.proofs.JoinedLemmas.{joined-total}

pub total-cons : (t : Term) (terms : List Term) → total_weight (t ∷ terms) ≡ t.weight + total_weight terms
total-cons t terms = sum_by-cons (λ (u : Term). u.weight) t terms

pub mean-of : (terms : List Term) (q : ℕ) → total_weight terms ≡ q → 0 < q → is_mean (mask_of terms q) ≡ true
mean-of terms q total positive =
    and_from _ _
    (and_parts (has_distinct_sources (mask_of terms q).terms) (list_all (λ t. nat_lt 0 t.weight) (mask_of terms q).terms) (joined-mask_of terms q)).1
    (and_from _ _ (eq-eqb _ _ (joined-total terms q ∙ total)) (lt-ltb _ _ positive))

total-points : (w : ℕ) (points : List ℕ) → total_weight (weigh_points w points) ≡ w * length points
total-points w [] = omega arith
total-points w (v ∷ points) = total-cons (weigh w (OfPoint v)) (weigh_points w points) ∙ omega (arith, total-points w points)

total-faces : (w : ℕ) (faces : List ℕ) → total_weight (weigh_faces w faces) ≡ w * length faces
total-faces w [] = omega arith
total-faces w (f ∷ faces) = total-cons (weigh w (OfFace f)) (weigh_faces w faces) ∙ omega (arith, total-faces w faces)

pub total-append : (xs ys : List Term) → total_weight (xs ++ ys) ≡ total_weight xs + total_weight ys
total-append xs ys = sum_by-append (λ (u : Term). u.weight) xs ys

pub mean-corners : (corners : List ℕ) → 0 < length corners → is_mean (mask_of_corners corners) ≡ true
mean-corners corners h = mean-of (weigh_points 1 corners) (length corners) (omega (arith, total-points 1 corners)) h

pub mean-smooth_edge : (edge : ℕ × ℕ) (faces : List ℕ) → length faces ≡ 2 → is_mean (smooth_edge_mask edge faces) ≡ true
mean-smooth_edge edge faces h =
    mean-of (weigh_points 1 (edge.0 ∷ edge.1 ∷ []) ++ weigh_faces 1 faces) 4 (omega (
      arith,
      total-append (weigh_points 1 (edge.0 ∷ edge.1 ∷ [])) (weigh_faces 1 faces),
      total-points 1 (edge.0 ∷ edge.1 ∷ []),
      total-faces 1 faces,
    )) (omega arith)

pub mean-blended_edge : (x y : ℕ) (edge : ℕ × ℕ) (faces : List ℕ) → x < y → length faces ≡ 2
    → is_mean (blended_edge_mask x y edge faces) ≡ true
mean-blended_edge x y edge faces below h =
    let two : (y - x) * length faces ≡ (y - x) * 2 = ap (λ n. (y - x) * n) h in
    mean-of (weigh_points (y + x) (edge.0 ∷ edge.1 ∷ []) ++ weigh_faces (y - x) faces) (4 * y)
    (omega (
      arith,
      two,
      total-append (weigh_points (y + x) (edge.0 ∷ edge.1 ∷ [])) (weigh_faces (y - x) faces),
      total-points (y + x) (edge.0 ∷ edge.1 ∷ []),
      total-faces (y - x) faces,
    )) (omega arith)

square : (n k : ℕ) → n ≡ k + 2 → n * k + (n + n) ≡ n * n
square n k e =
    let more : n * k + (n + n) ≡ n * (k + 2) = omega arith in more ∙ ap (λ m. n * m) (sym e)

square-positive : (n : ℕ) → 0 < n → 0 < n * n
square-positive zero h = absurd (omega arith)
square-positive (suc n) h = omega arith

pub mean-smooth_vertex : (v : ℕ) (ends faces : List ℕ) → 2 ≤ length ends → length faces ≡ length ends
    → is_mean (smooth_vertex_mask v ends faces) ≡ true
mean-smooth_vertex v ends faces many same =
    let n = length ends in
    let own = weigh (n * (n - 2)) (OfPoint v) in
    let ring = weigh_points 1 ends ++ weigh_faces 1 faces in
    let whole : n * (n - 2) + (n + n) ≡ n * n = square n (n - 2) (omega arith) in
    let around : total_weight ring ≡ n + n =
    total-append (weigh_points 1 ends) (weigh_faces 1 faces) ∙ omega (arith, total-points 1 ends, total-faces 1 faces) in
    mean-of (own ∷ ring) (n * n) (total-cons own ring ∙ ap (λ m. n * (n - 2) + m) around ∙ whole) (square-positive n (omega arith))

pub mean-sharp_edge : (edge : ℕ × ℕ) → is_mean (sharp_edge_mask edge) ≡ true
mean-sharp_edge edge = mean-of (weigh_points 1 (edge.0 ∷ edge.1 ∷ [])) 2 refl (omega arith)

pub mean-crease : (v first second : ℕ) → is_mean (crease_mask v first second) ≡ true
mean-crease v first second = mean-of (weigh 6 (OfPoint v) ∷ weigh_points 1 (first ∷ second ∷ [])) 8 refl (omega arith)

pub mean-corner : (v : ℕ) → is_mean (corner_mask v) ≡ true
mean-corner v = mean-of (weigh 1 (OfPoint v) ∷ []) 1 refl (omega arith)

-- a sharpness of at least 1
pub mean-at_least_one : (x y : ℕ) (edge : ℕ × ℕ) (faces : List ℕ) → y ≤ x → is_mean (mask_of_edge (Semi x y) edge faces) ≡ true
mean-at_least_one x y edge faces h =
    ap (λ b. is_mean (if b then sharp_edge_mask edge else blended_edge_mask x y edge faces)) (le-leb y x h) ∙ mean-sharp_edge edge

mean-edge : (s : Sharpness) (edge : ℕ × ℕ) (faces : List ℕ) → length faces ≡ 2 → is_mean (mask_of_edge s edge faces) ≡ true
mean-edge Smooth edge faces h = mean-smooth_edge edge faces h
mean-edge (Semi x y) edge faces h =
    cond_both (nat_le y x) (sharp_edge_mask edge) (blended_edge_mask x y edge faces) (λ mask. is_mean mask ≡ true)
    (λ _. mean-sharp_edge edge)
    (λ below. mean-blended_edge x y edge faces (leb-false _ _ below) h)
mean-edge Infinite edge faces h = mean-sharp_edge edge

pub mean-edge_mask : (level : Level) (scheme : Scheme) (edge : ℕ × ℕ) → length (faces_of_edge level.polygons edge) ≡ 2
    → is_mean (edge_mask level scheme edge) ≡ true
mean-edge_mask level CatmullClark edge h =
    mean-edge (edge_sharpness_of level edge) edge (faces_of_edge level.polygons edge) h
mean-edge_mask level Linear edge h = mean-sharp_edge edge
