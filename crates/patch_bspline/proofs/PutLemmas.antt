-- Terms that are put one after another, and rows of them.
use Rattle.std.proofs.Common.{◌≡◌, ℕ, zero, suc, ◌+◌, ◌*◌, ◌^◌, ◌<◌, ◌≤◌, List, [], ◌∷◌, ◌++◌, length, take, zip, get_or, arith, refl, ap, sym, ◌∙◌, append_assoc}
use Rattle.std.specs.List.{flat_map}
use Rattle.std.proofs.lemmas.List.{take_all, take_more, flat_map_more, get_or-map, length-map}
use Rattle.subdiv_model.specs.Mask.{Mask, Term, OfPoint, weigh}
use Rattle.subdiv_model.specs.Patch.{row_terms, spline_weights}
use Rattle.patch_bspline.specs.Around.{with_terms}

zip-length : {X Y : Type 0} (xs : List X) (ys : List Y) → length xs ≡ length ys → length (zip xs ys) ≡ length xs
zip-length [] [] e = refl
zip-length [] (y ∷ ys) e = absurd (omega (arith, e))
zip-length (x ∷ xs) [] e = absurd (omega (arith, e))
zip-length (x ∷ xs) (y ∷ ys) e = let behind = zip-length xs ys (omega (arith, e)) in omega (arith, behind)

zip-at : {X Y : Type 0} (xs : List X) (ys : List Y) (i : ℕ) (d : X) (e : Y) → i < length xs → length xs ≡ length ys
    → get_or (zip xs ys) i (d, e) ≡ (get_or xs i d, get_or ys i e)
zip-at [] ys i d e h k = absurd (omega (arith, h))
zip-at (x ∷ xs) [] i d e h k = absurd (omega (arith, k))
zip-at (x ∷ xs) (y ∷ ys) zero d e h k = refl
zip-at (x ∷ xs) (y ∷ ys) (suc i) d e h k = zip-at xs ys i d e (omega (arith, h)) (omega (arith, k))

abbrev over : Mask → List Term → Mask
over before terms = record { terms = terms; denominator = before.denominator }

-- the points of rows, with weights along the rows and across them
abbrev pub grid_weights : List (List ℕ) → List ℕ → List ℕ → ℕ → Mask
grid_weights points along across denominator = record { terms = flat_map (row_terms along) (zip across points); denominator = denominator }

-- one more point of a row
module _ (along row : List ℕ) (across : ℕ) (four : length along ≡ 4) (also : length row ≡ 4) where
  abbrev terms : List Term
  terms = row_terms along (across, row)

  abbrev term : ℕ → Term
  term i = weigh (get_or along i 0 * across) (OfPoint (get_or row i 0))

  terms-four : length terms ≡ 4
  terms-four = length-map (zip along row) (λ point. weigh (point.0 * across) (OfPoint point.1)) ∙ zip-length along row (four ∙ sym also) ∙ four

  term-at : (i : ℕ) → i < 4 → get_or terms i (term i) ≡ term i
  term-at i h =
      get_or-map (λ point. weigh (point.0 * across) (OfPoint point.1)) (zip along row) i (0, 0) (term i) (omega (arith, h, zip-length along row (four ∙ sym also), four))
      ∙ ap (λ point. weigh (point.0 * across) (OfPoint point.1)) (zip-at along row i 0 0 (omega (arith, h, four)) (four ∙ sym also))

  pub put-more : (i weight point : ℕ) (before now next : Mask) → i < 4 → now ≡ with_terms before (take i terms) → weight ≡ get_or along i 0 * across
      → point ≡ get_or row i 0 → next ≡ with_terms now (weigh weight (OfPoint point) ∷ []) → next ≡ with_terms before (take (i + 1) terms)
  put-more i weight point before now next h so_far w p made =
      made
      ∙ ap (λ n. with_terms now (weigh n (OfPoint point) ∷ [])) w
      ∙ ap (λ n. with_terms now (weigh (get_or along i 0 * across) (OfPoint n) ∷ [])) p
      ∙ ap (λ (m : Mask). with_terms m (term i ∷ [])) so_far
      ∙ ap (over before) (append_assoc before.terms (take i terms) (term i ∷ []))
      ∙ ap (λ t. with_terms before (take i terms ++ t ∷ [])) (sym (term-at i h))
      ∙ ap (λ ts. with_terms before ts) (sym (take_more terms i (term i) (omega (arith, h, terms-four))))

  pub put-all : (i : ℕ) (before now : Mask) → 4 ≤ i → now ≡ with_terms before (take i terms) → now ≡ with_terms before terms
  put-all i before now h so_far = so_far ∙ ap (λ ts. with_terms before ts) (take_all i terms (omega (arith, h, terms-four)))

-- one more row
module _ (along across : List ℕ) (points : List (List ℕ)) (four : length across ≡ 4) (also : length points ≡ 4) where
  abbrev rows : List (ℕ × List ℕ)
  rows = zip across points

  abbrev all : ℕ → List Term
  all k = flat_map (row_terms along) (take k rows)

  rows-four : length rows ≡ 4
  rows-four = zip-length across points (four ∙ sym also) ∙ four

  pub row-more : (k weight : ℕ) (row : List ℕ) (before now next : Mask) → k < 4 → now ≡ with_terms before (all k) → weight ≡ get_or across k 0
      → row ≡ get_or points k [] → next ≡ with_terms now (row_terms along (weight, row)) → next ≡ with_terms before (all (k + 1))
  row-more k weight row before now next h so_far w r made =
      let here : (weight, row) ≡ get_or rows k (0, []) =
      ap (λ n. (n, row)) w ∙ ap (λ n. (get_or across k 0, n)) r ∙ sym (zip-at across points k 0 [] (omega (arith, h, four)) (four ∙ sym also)) in
      made
      ∙ ap (λ (m : Mask). with_terms m (row_terms along (weight, row))) so_far
      ∙ ap (over before) (flat_map_more (row_terms along) before.terms (take k rows) (weight, row))
      ∙ ap (λ pair. with_terms before (flat_map (row_terms along) (take k rows ++ pair ∷ []))) here
      ∙ ap (λ ps. with_terms before (flat_map (row_terms along) ps)) (sym (take_more rows k (0, []) (omega (arith, h, rows-four))))

  pub rows-all : (k m i j den : ℕ) (start now : Mask) → 4 ≤ k → now ≡ with_terms start (all k) → start ≡ record { terms = []; denominator = den }
      → den ≡ 36 * m ^ 6 → along ≡ spline_weights m i → across ≡ spline_weights m j
      → now ≡ grid_weights points (spline_weights m i) (spline_weights m j) (36 * m ^ 6)
  rows-all k m i j den start now h so_far begun is a b =
      so_far
      ∙ ap (λ ps. with_terms start (flat_map (row_terms along) ps)) (take_all k rows (omega (arith, h, rows-four)))
      ∙ ap (λ (n : Mask). with_terms n (flat_map (row_terms along) rows)) begun
      ∙ ap (λ n. grid_weights points along across n) is ∙ ap (λ l. grid_weights points l across (36 * m ^ 6)) a ∙ ap (λ l. grid_weights points (spline_weights m i) l (36 * m ^ 6)) b
