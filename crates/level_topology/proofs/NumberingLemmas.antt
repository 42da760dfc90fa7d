-- Edges numbered by first appearance, and their faces, as the sides of each face follow those of the faces before it.
use Rattle.std.proofs.Common.{◌≡◌, ℕ, ◌+◌, ◌≤◌, Bool, true, false, not, List, [], ◌∷◌, ◌++◌, length, arith, refl, ap, sym, ◌∙◌, append-nil, append_assoc, length-append, subst, ◌≢◌, ◌<◌, ◌||◌, nat_eq, get_or, if◌then◌else◌}
use Rattle.std.specs.List.{list_any, list_all, count_by}
use Rattle.std.proofs.lemmas.Grind.{common_steps, flat_map-append}
use Rattle.std.proofs.lemmas.Bool.Decides.{nat_tests}
use Rattle.std.proofs.lemmas.Bool.{and_parts, eqb-true, eq-eqb, not-true, false_from_ne_true}
use Rattle.std.proofs.lemmas.List.Elements.{filter-append}
use Rattle.std.proofs.lemmas.List.Folds.{list_any-append, list_any_at}
use Rattle.subdiv_model.specs.Polygons.{Polygon, same_side, same_edge, sides_of, has_edge, has_distinct_sides}
use Rattle.subdiv_model.specs.Edges.{first_named, all_sides, faces_of_edge, edges_of}
use Rattle.mesh_laws.proofs.EdgeLemmas.{any-filter, any-first_named, first_named-once, position-within, faces-count}
use Rattle.mesh_laws.proofs.SideLemmas.{same_edge-sym, same_edge-refl, same_edge-alike, edge-count-le, distinct-count}
use Rattle.level_topology.specs.Numbering.{number_in, named_with, Numbered, IsNumbering, with_side, with_sides, with_last_face, faces_so_far}
use Rattle.std.proofs.lemmas.List.{get_or_append_left, get_or-set_same, get_or-set_other, length-set}
use Rattle.std.proofs.lemmas.List.Sums.{passes_at_first, position_or_len_is}
use Rattle.std.proofs.Math.Seq.{get_or-append_seam}
use Rattle.subdiv_model.specs.Lists.{places_from}
use Rattle.subdiv_model.specs.Manifold.{is_simple}
use Rattle.subdiv_model.specs.Sharpness.{Smooth}
use Rattle.number_laws.proofs.CountLemmas.{count-cons, count-append, count-none, count-some, one_if}
use Rattle.level_topology.specs.View.{faces_of_pair}
use Rattle.level_topology.proofs.PlaceLemmas.{two-count}
use Rattle.level_topology.specs.Topology.{edge_at}

-- A side names a new edge if it equals no earlier edge.
pub first_named-push : (sides : List (ℕ × ℕ)) (s : ℕ × ℕ) → first_named (sides ++ s ∷ []) ≡ named_with (first_named sides) s
first_named-push [] s = refl
first_named-push (t ∷ sides) s =
    grind (arith, nat_tests, common_steps, first_named-push sides s, any-filter s t (first_named sides), same_edge-sym s t, filter-append (λ x. not (same_edge t x)) (first_named sides) (s ∷ []))

-- the faces of an edge are one or none before a side of it comes that no face has in its direction
faces-few : (polygons : List Polygon) (s : ℕ × ℕ) → list_all is_simple polygons ≡ true → has_distinct_sides (all_sides polygons) ≡ true → list_any (same_side s) (all_sides polygons) ≡ false → length (faces_of_edge polygons s) ≤ 1
faces-few polygons s simple distinct none =
    omega (arith, faces-count s 0 polygons simple, edge-count-le s (all_sides polygons), count-none (same_side s) (all_sides polygons) none, distinct-count (s.1, s.0) (all_sides polygons) distinct)

-- Equal edges have equal faces.
pub faces-alike : (s t : ℕ × ℕ) (place : ℕ) (polygons : List Polygon) → same_edge s t ≡ true → places_from place (has_edge s) polygons ≡ places_from place (has_edge t) polygons
faces-alike s t place [] h = refl
faces-alike s t place (polygon ∷ polygons) h = rw (has-alike (sides_of polygon), faces-alike s t (place + 1) polygons h) refl
  where
    has-alike : (sides : List (ℕ × ℕ)) → list_any (same_edge s) sides ≡ list_any (same_edge t) sides
    has-alike [] = refl
    has-alike (u ∷ sides) = rw (same_edge-alike s t u h, has-alike sides) refl

pub any-same : (s t : ℕ × ℕ) (sides : List (ℕ × ℕ)) → same_edge s t ≡ true → list_any (same_edge s) sides ≡ list_any (same_edge t) sides
any-same s t [] h = refl
any-same s t (u ∷ sides) h = rw (same_edge-alike s t u h, any-same s t sides h) refl

-- a face more
pub places-push : {X : Type 0} (place : ℕ) (test : X → Bool) (xs : List X) (x : X) → places_from place test (xs ++ x ∷ []) ≡ places_from place test xs ++ (if test x then (place + length xs) ∷ [] else [])
places-push place test [] x = grind (arith, nat_tests)
places-push place test (y ∷ ys) x = grind (arith, nat_tests, places-push (place + 1) test ys x)

-- places are of the list
places-below : {X : Type 0} (test : X → Bool) (place : ℕ) (xs : List X) (f : ℕ) (rest : List ℕ) → places_from place test xs ≡ f ∷ rest → f < place + length xs
places-below test place [] f rest h = absurd (cc)
places-below test place (x ∷ xs) f rest h = go (test x) refl (places-below test (place + 1) xs f rest)
  where
    go : (b : Bool) → test x ≡ b → (places_from (place + 1) test xs ≡ f ∷ rest → f < place + 1 + length xs) → f < place + length (x ∷ xs)
    go true e behind =
        let same : place ∷ places_from (place + 1) test xs ≡ f ∷ rest = rw e at h in
        let first : place ≡ f = cc in omega (arith, first)
    go false e behind =
        let same : places_from (place + 1) test xs ≡ f ∷ rest = rw e at h in
        omega (arith, behind same)

-- a pair with a face more
pair-second : (pair : ℕ × ℕ) (f face : ℕ) → faces_of_pair pair ≡ f ∷ [] → f < face → faces_of_pair (pair.0, face) ≡ f ∷ (face ∷ [])
pair-second pair f face h below = go (nat_eq pair.0 pair.1) refl
  where
    go : (b : Bool) → nat_eq pair.0 pair.1 ≡ b → faces_of_pair (pair.0, face) ≡ f ∷ (face ∷ [])
    go true e =
        let one : pair.0 ∷ [] ≡ f ∷ [] = rw e at h in
        let first : pair.0 ≡ f = cc in
        let apart : nat_eq pair.0 face ≡ false = false_from_ne_true _ (λ same. absurd (omega (arith, first, below, eqb-true _ _ same))) in
        rw apart (cc)
    go false e =
        let two : pair.0 ∷ (pair.1 ∷ []) ≡ f ∷ [] = rw e at h in
        absurd (cc)

-- an edge that is there has a face, so before one comes that has it in another direction it has one
one-face : (faces : List ℕ) → length faces ≤ 1 → faces ≢ [] → (f : ℕ) × (faces ≡ f ∷ [])
one-face [] few some = absurd (some refl)
one-face (f ∷ []) few some = (f, refl)
one-face (f ∷ (g ∷ faces)) few some = absurd (omega arith)

pair-some : (pair : ℕ × ℕ) → faces_of_pair pair ≢ []
pair-some pair h = go (nat_eq pair.0 pair.1) refl
  where
    go : (b : Bool) → nat_eq pair.0 pair.1 ≡ b → ⊥
    go true e = let none : pair.0 ∷ [] ≡ [] = rw e at h in cc
    go false e = let none : pair.0 ∷ (pair.1 ∷ []) ≡ [] = rw e at h in cc

-- no face, where no side is the edge
pub faces-none : (polygons : List Polygon) (s : ℕ × ℕ) → list_all is_simple polygons ≡ true → list_any (same_edge s) (all_sides polygons) ≡ false → faces_of_edge polygons s ≡ []
faces-none polygons s simple none = empty (faces_of_edge polygons s) (omega (arith, faces-count s 0 polygons simple, count-none (same_edge s) (all_sides polygons) none))
  where
    empty : (xs : List ℕ) → length xs ≤ 0 → xs ≡ []
    empty [] h = refl
    empty (x ∷ xs) h = absurd (omega arith)

-- No two of the edges are equal.
pub number-at : (s : ℕ × ℕ) (sides : List (ℕ × ℕ)) (k : ℕ) → k < length (first_named sides) → same_edge s (get_or (first_named sides) k (0, 0)) ≡ true → number_in (first_named sides) s ≡ k
number-at s sides k inside same = position_or_len_is (same_edge s) (first_named sides) k (0, 0) (omega arith) earlier (λ h. same)
  where
    earlier : (j : ℕ) → j < k → same_edge s (get_or (first_named sides) j (0, 0)) ≡ false
    earlier j before = false_from_ne_true _ (λ also.
        let two = two-count (same_edge s) (0, 0) (first_named sides) j k before inside also same in
        absurd (omega (arith, first_named-once s sides)))

none-at : (s : ℕ × ℕ) (edges : List (ℕ × ℕ)) (k : ℕ) → k < length edges → list_any (same_edge s) edges ≡ false → same_edge s (get_or edges k (0, 0)) ≡ false
none-at s edges k inside none = false_from_ne_true _ (λ same.
    let some = list_any_at (same_edge s) edges k (0, 0) inside same in cc)

module _ (polygons : List Polygon) (simple : list_all is_simple polygons ≡ true) (distinct : has_distinct_sides (all_sides polygons) ≡ true) where
  -- an edge that is not the side's has the faces that it had
  other-faces : (taken : List (ℕ × ℕ)) (s u : ℕ × ℕ) → same_edge s u ≡ false → faces_so_far polygons taken u ≡ faces_so_far polygons (taken ++ s ∷ []) u
  other-faces taken s u other =
      let apart : same_edge u s ≡ false = same_edge-sym u s ∙ other in
      let same : list_any (same_edge u) (taken ++ s ∷ []) ≡ list_any (same_edge u) taken = list_any-append (same_edge u) taken (s ∷ []) ∙ grind (arith, nat_tests) in
      rw same refl

  ends-step : (taken : List (ℕ × ℕ)) (s : ℕ × ℕ) (ends : List (ℕ × ℕ)) → ends ≡ first_named (all_sides polygons ++ taken) → named_with ends s ≡ first_named (all_sides polygons ++ (taken ++ s ∷ []))
  ends-step taken s ends e =
      ap (λ edges. named_with edges s) e ∙ sym (first_named-push (all_sides polygons ++ taken) s) ∙ ap first_named (append_assoc (all_sides polygons) taken (s ∷ []))

  -- a side whose edge is there gives it a second face
  known-faces : (taken : List (ℕ × ℕ)) (s t pair : ℕ × ℕ) → list_any (same_side s) (all_sides polygons) ≡ false → list_any (same_edge s) taken ≡ false → same_edge s t ≡ true → faces_of_pair pair ≡ faces_so_far polygons taken t → faces_of_pair (pair.0, length polygons) ≡ faces_so_far polygons (taken ++ s ∷ []) t
  known-faces taken s t pair fresh own same was =
      let before : list_any (same_edge t) taken ≡ false = sym (any-same s t taken same) ∙ own in
      let after : list_any (same_edge t) (taken ++ s ∷ []) ≡ true = list_any-append (same_edge t) taken (s ∷ []) ∙ (let back = same_edge-sym t s in grind (arith, nat_tests)) in
      let as-before : faces_of_pair pair ≡ faces_of_edge polygons t = was ∙ rw before (append-nil (faces_of_edge polygons t)) in
      let few : length (faces_of_edge polygons t) ≤ 1 = omega (arith, faces-few polygons s simple distinct fresh, ap length (faces-alike s t 0 polygons same)) in
      let one = one-face (faces_of_edge polygons t) few (λ none. pair-some pair (as-before ∙ none)) in
      let below : one.0 < length polygons = omega (arith, places-below (has_edge t) 0 polygons one.0 [] one.1) in
      pair-second pair one.0 (length polygons) (as-before ∙ one.1) below ∙ sym (rw after (ap (λ fs. fs ++ length polygons ∷ []) one.1))

  new-faces : (taken : List (ℕ × ℕ)) (s : ℕ × ℕ) → list_any (same_edge s) (first_named (all_sides polygons ++ taken)) ≡ false → faces_of_pair (length polygons, length polygons) ≡ faces_so_far polygons (taken ++ s ∷ []) s
  new-faces taken s none =
      let nowhere : (list_any (same_edge s) (all_sides polygons) || list_any (same_edge s) taken) ≡ false = sym (list_any-append (same_edge s) (all_sides polygons) taken) ∙ sym (any-first_named s (all_sides polygons ++ taken)) ∙ none in
      let gone : list_any (same_edge s) (all_sides polygons) ≡ false = grind (arith, nat_tests) in
      let after : list_any (same_edge s) (taken ++ s ∷ []) ≡ true = list_any-append (same_edge s) taken (s ∷ []) ∙ (let self = same_edge-refl s in grind (arith, nat_tests)) in
      let self : nat_eq (length polygons) (length polygons) ≡ true = eq-eqb _ _ refl in
      rw (after, faces-none polygons s simple gone, self) refl

  -- a side of the next face more
  pub numbering-step : (taken : List (ℕ × ℕ)) (s : ℕ × ℕ) (n : Numbered) → IsNumbering polygons taken n → list_any (same_side s) (all_sides polygons) ≡ false → list_any (same_edge s) taken ≡ false → IsNumbering polygons (taken ++ s ∷ []) (with_side (length polygons) n s)
  numbering-step taken s n is fresh own = go (list_any (same_edge s) n.ends) refl
    where
      known : list_any (same_edge s) n.ends ≡ true → (k : ℕ) → k < length n.ends → faces_of_pair (get_or (with_last_face (number_in n.ends s) (length polygons) n.faces) k (0, 0)) ≡ faces_so_far polygons (taken ++ s ∷ []) (get_or n.ends k (0, 0))
      known there k inside = at (nat_eq k (number_in n.ends s)) refl
        where
          here : number_in n.ends s < length n.ends
          here = position-within s n.ends there

          at : (b : Bool) → nat_eq k (number_in n.ends s) ≡ b → faces_of_pair (get_or (with_last_face (number_in n.ends s) (length polygons) n.faces) k (0, 0)) ≡ faces_so_far polygons (taken ++ s ∷ []) (get_or n.ends k (0, 0))
          at true e =
              let place : k ≡ number_in n.ends s = eqb-true _ _ e in
              let within : number_in n.ends s < length n.faces = omega (arith, here, is.faces_listed) in
              rw (place, get_or-set_same n.faces (number_in n.ends s) ((get_or n.faces (number_in n.ends s) (0, 0)).0, length polygons) (0, 0) within)
              (known-faces taken s (get_or n.ends (number_in n.ends s) (0, 0)) (get_or n.faces (number_in n.ends s) (0, 0)) fresh own (passes_at_first (same_edge s) n.ends (0, 0) here) (is.faces (number_in n.ends s) here))
          at false e =
              let apart : k ≢ number_in n.ends s = λ same. absurd (let yes = eq-eqb _ _ same in cc) in
              let other : same_edge s (get_or n.ends k (0, 0)) ≡ false = false_from_ne_true _ (λ same.
              let number : number_in (first_named (all_sides polygons ++ taken)) s ≡ k = number-at s (all_sides polygons ++ taken) k (rw (← is.ends) inside) (rw (← is.ends) same) in
              absurd (apart (sym number ∙ ap (λ edges. number_in edges s) (sym is.ends)))) in
              rw (get_or-set_other n.faces (number_in n.ends s) k ((get_or n.faces (number_in n.ends s) (0, 0)).0, length polygons) (0, 0) apart)
              (is.faces k inside ∙ other-faces taken s (get_or n.ends k (0, 0)) other)

      fresh-faces : list_any (same_edge s) n.ends ≡ false → (k : ℕ) → k < length (n.ends ++ s ∷ []) → faces_of_pair (get_or (n.faces ++ (length polygons, length polygons) ∷ []) k (0, 0)) ≡ faces_so_far polygons (taken ++ s ∷ []) (get_or (n.ends ++ s ∷ []) k (0, 0))
      fresh-faces none k inside = at (nat_eq k (length n.ends)) refl
        where
          at : (b : Bool) → nat_eq k (length n.ends) ≡ b → faces_of_pair (get_or (n.faces ++ (length polygons, length polygons) ∷ []) k (0, 0)) ≡ faces_so_far polygons (taken ++ s ∷ []) (get_or (n.ends ++ s ∷ []) k (0, 0))
          at true e =
              let place : k ≡ length n.ends = eqb-true _ _ e in
              let place' : k ≡ length n.faces = place ∙ sym is.faces_listed in
              let face : get_or (n.faces ++ (length polygons, length polygons) ∷ []) k (0, 0) ≡ (length polygons, length polygons) = ap (λ i. get_or (n.faces ++ (length polygons, length polygons) ∷ []) i (0, 0)) place' ∙ get_or-append_seam n.faces (length polygons, length polygons) [] (0, 0) in
              let end : get_or (n.ends ++ s ∷ []) k (0, 0) ≡ s = ap (λ i. get_or (n.ends ++ s ∷ []) i (0, 0)) place ∙ get_or-append_seam n.ends s [] (0, 0) in
              rw (face, end) (new-faces taken s (ap (list_any (same_edge s)) (sym is.ends) ∙ none))
          at false e =
              let apart : k ≢ length n.ends = λ same. absurd (let yes = eq-eqb _ _ same in cc) in
              let within : k < length n.ends = omega (arith, inside, length-append n.ends (s ∷ [])) in
              let within' : k < length n.faces = omega (arith, within, is.faces_listed) in
              rw (get_or_append_left n.ends (s ∷ []) (0, 0) k within, get_or_append_left n.faces ((length polygons, length polygons) ∷ []) (0, 0) k within')
              (is.faces k within ∙ other-faces taken s (get_or n.ends k (0, 0)) (none-at s n.ends k within none))

      go : (b : Bool) → list_any (same_edge s) n.ends ≡ b → IsNumbering polygons (taken ++ s ∷ []) (with_side (length polygons) n s)
      go true e = rw e (record {
        ends = sym (rw e refl) ∙ ends-step taken s n.ends is.ends;
        faces_listed = length-set n.faces (number_in n.ends s) _ ∙ is.faces_listed;
        sharp_listed = is.sharp_listed;
        faces = known e;
      })
      go false e = rw e (record {
        ends = sym (rw e refl) ∙ ends-step taken s n.ends is.ends;
        faces_listed = omega (arith, length-append n.ends (s ∷ []), length-append n.faces ((length polygons, length polygons) ∷ []), is.faces_listed);
        sharp_listed = omega (arith, length-append n.ends (s ∷ []), length-append n.sharpness (Smooth ∷ []), is.sharp_listed);
        faces = fresh-faces e;
      })

  -- all sides of the next face
  pub numbering-sides : (taken rest : List (ℕ × ℕ)) (n : Numbered) → IsNumbering polygons taken n → list_all (λ s. not (list_any (same_side s) (all_sides polygons))) rest ≡ true → ((s : ℕ × ℕ) → count_by (same_edge s) (taken ++ rest) ≤ 1) → IsNumbering polygons (taken ++ rest) (with_sides (length polygons) n rest)
  numbering-sides taken [] n is fresh once = rw (append-nil taken) is
  numbering-sides taken (s ∷ rest) n is fresh once =
      let parts = and_parts (not (list_any (same_side s) (all_sides polygons))) (list_all (λ t. not (list_any (same_side t) (all_sides polygons))) rest) fresh in
      let self : one_if (same_edge s s) ≡ 1 = ap one_if (same_edge-refl s) in
      let own : count_by (same_edge s) taken ≡ 0 = omega (arith, once s, count-append (same_edge s) taken (s ∷ rest), count-cons (same_edge s) s rest, self) in
      let joined : (taken ++ s ∷ []) ++ rest ≡ taken ++ (s ∷ rest) = append_assoc taken (s ∷ []) rest in
      let step = numbering-step taken s n is (not-true _ parts.0) (false_from_ne_true _ (λ some. absurd (omega (arith, own, count-some (same_edge s) taken some)))) in
      subst (λ sides. IsNumbering polygons sides (with_sides (length polygons) (with_side (length polygons) n s) rest)) joined
      (numbering-sides (taken ++ s ∷ []) rest (with_side (length polygons) n s) step parts.1 (λ t. rw joined (once t)))

-- the face is there
pub numbering-face : (polygons : List Polygon) (corners : Polygon) (n : Numbered) → IsNumbering polygons (sides_of corners) n → IsNumbering (polygons ++ corners ∷ []) [] n
numbering-face polygons corners n is = record {
  ends = is.ends ∙ ap first_named (sym (append-nil (all_sides (polygons ++ corners ∷ [])) ∙ flat_map-append sides_of polygons (corners ∷ []) ∙ ap (λ ss. all_sides polygons ++ ss) (append-nil (sides_of corners))));
  faces_listed = is.faces_listed;
  sharp_listed = is.sharp_listed;
  faces = λ e inside. is.faces e inside ∙ same (get_or n.ends e (0, 0));
}
  where
    same : (u : ℕ × ℕ) → faces_so_far polygons (sides_of corners) u ≡ faces_so_far (polygons ++ corners ∷ []) [] u
    same u =
        let place : 0 + length polygons ≡ length polygons = omega arith in
        sym (append-nil (faces_of_edge (polygons ++ corners ∷ []) u) ∙ places-push 0 (has_edge u) polygons corners ∙ ap (λ n. faces_of_edge polygons u ++ (if has_edge u corners then n ∷ [] else [])) place)

pub numbered-ends : (polygons : List Polygon) (n : Numbered) → IsNumbering polygons [] n → n.ends ≡ edges_of polygons
numbered-ends polygons n is = is.ends ∙ ap first_named (append-nil (all_sides polygons))

-- an edge's pair of faces
pub edge-faces-are : (polygons : List Polygon) (n : Numbered) (e : ℕ) → IsNumbering polygons [] n → e < length n.ends → faces_of_pair (get_or n.faces e (0, 0)) ≡ faces_of_edge polygons (edge_at polygons e)
edge-faces-are polygons n e is inside =
    is.faces e inside ∙ append-nil (faces_of_edge polygons (get_or n.ends e (0, 0)))
    ∙ ap (λ es. faces_of_edge polygons (get_or es e (0, 0))) (numbered-ends polygons n is)
