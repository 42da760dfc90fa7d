-- The lists of points one after another, and the room that they take.
use Rattle.std.proofs.Common.{subst, ◌≡◌, ◌≢◌, ℕ, ◌+◌, ◌<◌, ◌≤◌, Bool, true, false, nat_eq, nat_lt, List, [], ◌∷◌, ◌++◌, length, length-append, get_or, arith, refl, ap, sym, ◌∙◌}
use Rattle.std.specs.List.{count_by, sum_by}
use Rattle.std.proofs.lemmas.Bool.Decides.{nat_tests}
use Rattle.std.proofs.lemmas.Bool.{eqb-true, eq-eqb}
use Rattle.std.proofs.lemmas.List.{get_or_append_left}
use Rattle.std.proofs.Math.Seq.{get_or-append_seam}
use Rattle.std.proofs.lemmas.List.Sums.{sum_by-append}
use Rattle.subdiv_model.specs.Polygons.{Polygon}
use Rattle.number_laws.proofs.CountLemmas.{count-cons, one_if}
use Rattle.level_topology.specs.PointRows.{IsRow, AreRows}

-- numbers below the next one
pub below-more : (items : List ℕ) (v : ℕ) → count_by (λ x. nat_lt x (v + 1)) items ≡ count_by (λ x. nat_lt x v) items + count_by (nat_eq v) items
below-more [] v = refl
below-more (x ∷ items) v =
    let here : one_if (nat_lt x (v + 1)) ≡ one_if (nat_lt x v) + one_if (nat_eq v x) = grind (arith, nat_tests) in
    omega (arith, below-more items v, here, count-cons (λ y. nat_lt y (v + 1)) x items, count-cons (λ y. nat_lt y v) x items, count-cons (nat_eq v) x items)

pub count-le : (test : ℕ → Bool) (items : List ℕ) → count_by test items ≤ length items
count-le test [] = omega arith
count-le test (x ∷ items) =
    let here : one_if (test x) ≤ 1 = small (test x) in
    omega (arith, count-le test items, count-cons test x items, here)
  where
    small : (b : Bool) → one_if b ≤ 1
    small true = omega arith
    small false = omega arith

pub below-none : (items : List ℕ) → count_by (λ x. nat_lt x 0) items ≡ 0
below-none [] = refl
below-none (x ∷ items) =
    let here : one_if (nat_lt x 0) ≡ 0 = grind (arith, nat_tests) in
    omega (arith, below-none items, here, count-cons (λ y. nat_lt y 0) x items)

pub sum-push : (lists lists' : List (List ℕ)) (row : List ℕ) → lists' ≡ lists ++ row ∷ [] → sum_by length lists' ≡ sum_by length lists + length row
sum-push lists lists' row e = omega (arith, ap (sum_by length) e, sum_by-append length lists (row ∷ []))

module _ (polygons : List Polygon) (complete : List Bool) where
  pub rows-none : (faces at edges ends : List (List ℕ)) → faces ≡ [] → at ≡ [] → edges ≡ [] → ends ≡ [] → AreRows polygons complete 0 faces at edges ends
  rows-none faces at edges ends f a e n = record {
    face_count = ap length f;
    at_count = ap length a;
    edge_count = ap length e;
    end_count = ap length n;
    rows = λ v h. absurd (omega arith);
  }

  item-at : (lists : List (List ℕ)) (row : List ℕ) (v w : ℕ) → length lists ≡ v → (w < v → get_or (lists ++ row ∷ []) w [] ≡ get_or lists w []) × (w ≡ v → get_or (lists ++ row ∷ []) w [] ≡ row)
  item-at lists row v w count = (
    λ h. get_or_append_left lists (row ∷ []) [] w (omega (arith, h, count)),
    λ e. ap (λ k. get_or (lists ++ row ∷ []) k []) (e ∙ sym count) ∙ get_or-append_seam lists row [] [],
  )

  pub rows-push : (v : ℕ) (faces at edges ends : List (List ℕ)) {faces' at' edges' ends' : List (List ℕ)} {f a e n : List ℕ} → AreRows polygons complete v faces at edges ends → IsRow polygons v (get_or complete v false) f a e n → faces' ≡ faces ++ f ∷ [] → at' ≡ at ++ a ∷ [] → edges' ≡ edges ++ e ∷ [] → ends' ≡ ends ++ n ∷ [] → AreRows polygons complete (v + 1) faces' at' edges' ends'
  rows-push v faces at edges ends {faces'} {at'} {edges'} {ends'} {f} {a} {e} {n} are is p q r s = record {
    face_count = omega (arith, ap length p, length-append faces (f ∷ []), are.face_count);
    at_count = omega (arith, ap length q, length-append at (a ∷ []), are.at_count);
    edge_count = omega (arith, ap length r, length-append edges (e ∷ []), are.edge_count);
    end_count = omega (arith, ap length s, length-append ends (n ∷ []), are.end_count);
    rows = λ w h. go w h (nat_eq w v) refl;
  }
    where
      moved : (w : ℕ) (b : Bool) {f1 f2 a1 a2 e1 e2 n1 n2 : List ℕ} → f1 ≡ f2 → a1 ≡ a2 → e1 ≡ e2 → n1 ≡ n2 → IsRow polygons w b f1 a1 e1 n1 → IsRow polygons w b f2 a2 e2 n2
      moved w b {f1} {f2} {a1} {a2} {e1} {e2} {n1} {n2} fe ae ee ne row =
          subst (λ x. IsRow polygons w b f2 a2 e2 x) ne (subst (λ x. IsRow polygons w b f2 a2 x n1) ee (subst (λ x. IsRow polygons w b f2 x e1 n1) ae (subst (λ x. IsRow polygons w b x a1 e1 n1) fe row)))

      at-old : (w : ℕ) (lists lists' : List (List ℕ)) (row : List ℕ) → lists' ≡ lists ++ row ∷ [] → length lists ≡ v → w < v → get_or lists w [] ≡ get_or lists' w []
      at-old w lists lists' row same count h = sym (ap (λ ls. get_or ls w []) same ∙ (item-at lists row v w count).0 h)

      at-new : (w : ℕ) (lists lists' : List (List ℕ)) (row : List ℕ) → lists' ≡ lists ++ row ∷ [] → length lists ≡ v → w ≡ v → row ≡ get_or lists' w []
      at-new w lists lists' row same count h = sym (ap (λ ls. get_or ls w []) same ∙ (item-at lists row v w count).1 h)

      go : (w : ℕ) → w < v + 1 → (b : Bool) → nat_eq w v ≡ b → IsRow polygons w (get_or complete w false) (get_or faces' w []) (get_or at' w []) (get_or edges' w []) (get_or ends' w [])
      go w h true same =
          let here : w ≡ v = eqb-true _ _ same in
          moved w (get_or complete w false) (at-new w faces faces' f p are.face_count here) (at-new w at at' a q are.at_count here) (at-new w edges edges' e r are.edge_count here) (at-new w ends ends' n s are.end_count here)
          (subst (λ k. IsRow polygons k (get_or complete k false) f a e n) (sym here) is)
      go w h false apart =
          let earlier : w < v = (let other : w ≢ v = λ same. absurd (let yes = eq-eqb w v same in cc) in omega (arith, h, other)) in
          moved w (get_or complete w false) (at-old w faces faces' f p are.face_count earlier) (at-old w at at' a q are.at_count earlier) (at-old w edges edges' e r are.edge_count earlier) (at-old w ends ends' n s are.end_count earlier) (are.rows w earlier)
