-- Faces that are joined at a vertex, through edges there that are no seams.
use Rattle.std.proofs.Common.{◌≡◌, ℕ, zero, suc, ◌+◌, ◌≤◌, Bool, true, false, not, ◌&&◌, ◌||◌, nat_eq, List, [], ◌∷◌, length, get_or, arith, refl, ap, sym, ◌∙◌, subst, ◌⊎◌, inl, inr, if◌then◌else◌, IsTrue, ◌↔◌}
use Rattle.std.specs.List.{filter, list_any}
use Rattle.std.proofs.lemmas.Bool.Decides.{nat_tests}
use Rattle.std.proofs.lemmas.Bool.{and_parts, and_from, or_cases, or_left, or_right, eqb-true, eq-eqb, not-true, not_from_false}
use Rattle.subdiv_model.specs.Lists.{places_from}
use Rattle.subdiv_model.specs.Polygons.{Polygon, same_side, same_edge, sides_of, has_edge, has_corner, is_among, polygon_at}
use Rattle.subdiv_model.specs.Edges.{all_sides, edges_of, edges_of_point, faces_of_edge, faces_of_point, has_end}
use Rattle.subdiv_model.specs.ObjMesh.{ObjMesh}
use Rattle.subdiv_model.specs.Cut.{differ_at, is_seam_of, is_seam, joining_edges, share_edge, reached_after, joined_faces, channel_point, channel_points}
use Rattle.number_laws.proofs.CountLemmas.{any-weaker}
use Rattle.mesh_laws.proofs.SideLemmas.{same_edge-alike}
use Rattle.mesh_laws.proofs.EdgeLemmas.{any-first_named}
use Rattle.mesh_laws.proofs.ClosedLemmas.{any-here}
use Rattle.mesh_laws.proofs.FanLemmas.{faces-among, any-side, side-start, side-end}
use Rattle.mesh_laws.proofs.ChildClosedLemmas.{same-pair}
use Rattle.texture_laws.specs.CutMesh.{point_of}
use Rattle.texture_laws.proofs.ChannelLemmas.{channel-within, channel-at, channel-once}
use Rattle.texture_laws.proofs.ReachLemmas.{next_reached, reached_in, joined_with, joined-itself, joined-within, joined-closed, joined-least, joined-stable, joined-same, same-tests, among-filter}

pub places-agree : {X : Type 0} (p q : X → Bool) → ((x : X) → p x ≡ q x) → (n : ℕ) (xs : List X) → places_from n p xs ≡ places_from n q xs
places-agree p q alike n [] = refl
places-agree p q alike n (x ∷ xs) = rw (alike x, places-agree p q alike (n + 1) xs) refl

-- an item that passes and is kept passes among the kept ones
any-kept : {X : Type 0} (p q keep : X → Bool) → ((x : X) → q x ≡ true → (keep x ≡ true) × (p x ≡ true)) → (xs : List X) → list_any q xs ≡ true → list_any p (filter keep xs) ≡ true
any-kept p q keep both [] h = absurd (cc)
any-kept {X} p q keep both (x ∷ xs) h = here (or_cases (q x) (list_any q xs) h) (keep x) refl (λ k. any-kept p q keep both xs k)
  where
    here : (q x ≡ true) ⊎ (list_any q xs ≡ true) → (b : Bool) → keep x ≡ b → (list_any q xs ≡ true → list_any p (filter keep xs) ≡ true) → list_any p (filter keep (x ∷ xs)) ≡ true
    here (inl passes) true e behind = rw e (or_left _ _ (both x passes).1)
    here (inl passes) false e behind = let k = (both x passes).0 in absurd (cc)
    here (inr further) true e behind = rw e (or_right _ _ (behind further))
    here (inr further) false e behind = rw e (behind further)

kept-any : {X : Type 0} (p keep : X → Bool) (xs : List X) → list_any p (filter keep xs) ≡ true → list_any (λ x. keep x && p x) xs ≡ true
kept-any p keep [] h = absurd (cc)
kept-any {X} p keep (x ∷ xs) h = here (keep x) refl (λ k. kept-any p keep xs k)
  where
    here : (b : Bool) → keep x ≡ b → (list_any p (filter keep xs) ≡ true → list_any (λ y. keep y && p y) xs ≡ true) → list_any (λ y. keep y && p y) (x ∷ xs) ≡ true
    here true e behind = further (or_cases (p x) (list_any p (filter keep xs)) (ap (λ (b : Bool). list_any p (if b then x ∷ filter keep xs else filter keep xs)) (sym e) ∙ h)) behind
      where
        further : (p x ≡ true) ⊎ (list_any p (filter keep xs) ≡ true) → (list_any p (filter keep xs) ≡ true → list_any (λ y. keep y && p y) xs ≡ true) → list_any (λ y. keep y && p y) (x ∷ xs) ≡ true
        further (inl passes) behind = or_left _ _ (and_from _ _ e passes)
        further (inr more) behind = or_right _ _ (behind more)
    here false e behind = or_right _ _ (behind (ap (λ (b : Bool). list_any p (if b then x ∷ filter keep xs else filter keep xs)) (sym e) ∙ h))

some-here : {X : Type 0} (p : X → Bool) (xs : List X) → list_any p xs ≡ true → (x : X) × (p x ≡ true)
some-here p [] h = absurd (cc)
some-here {X} p (x ∷ xs) h = here (or_cases (p x) (list_any p xs) h) (λ k. some-here p xs k)
  where
    here : (p x ≡ true) ⊎ (list_any p xs ≡ true) → (list_any p xs ≡ true → (y : X) × (p y ≡ true)) → (y : X) × (p y ≡ true)
    here (inl passes) behind = (x, passes)
    here (inr further) behind = behind further

or-swap : (a b : Bool) → (a || b) ≡ (b || a)
or-swap a b = grind (arith, nat_tests)

pub turned-edge : (a b : ℕ) → same_edge (a, b) (b, a) ≡ true
turned-edge a b = or_right _ _ (and_from _ _ (eq-eqb a a refl) (eq-eqb b b refl))

-- equal edges are the same pair, in one direction or the other
pub edge-cases : (s t : ℕ × ℕ) → same_edge s t ≡ true → (s ≡ t) ⊎ (s ≡ (t.1, t.0))
edge-cases s t h = here (or_cases (same_side s t) (nat_eq s.0 t.1 && nat_eq s.1 t.0) h)
  where
    here : (same_side s t ≡ true) ⊎ ((nat_eq s.0 t.1 && nat_eq s.1 t.0) ≡ true) → (s ≡ t) ⊎ (s ≡ (t.1, t.0))
    here (inl same) = inl (same-pair s t same)
    here (inr turned) = inr (same-pair s (t.1, t.0) turned)

pub edge-same : (s t : ℕ × ℕ) → same_edge s t ≡ true → (sides : List (ℕ × ℕ)) → list_any (same_edge s) sides ≡ list_any (same_edge t) sides
edge-same s t h [] = refl
edge-same s t h (side ∷ sides) = rw (same_edge-alike s t side h, edge-same s t h sides) refl

-- an edge that a polygon has, ends at corners of it
pub edge-end : (polygon : Polygon) (v : ℕ) (edge : ℕ × ℕ) → has_end v edge ≡ true → has_edge edge polygon ≡ true → has_corner v polygon ≡ true
edge-end polygon v edge ends h =
    let found = any-side (same_edge edge) (sides_of polygon) h in
    let s : ℕ × ℕ = found.0 in
    here s (edge-cases edge s found.1) (side-start polygon s found.2) (side-end polygon s found.2)
  where
    at : (w : ℕ) → nat_eq v w ≡ true → has_corner w polygon ≡ true → has_corner v polygon ≡ true
    at w same k = ap (λ (n : ℕ). has_corner n polygon) (eqb-true v w same) ∙ k

    here : (s : ℕ × ℕ) → (edge ≡ s) ⊎ (edge ≡ (s.1, s.0)) → has_corner s.0 polygon ≡ true → has_corner s.1 polygon ≡ true → has_corner v polygon ≡ true
    here s (inl same) start finish = go (or_cases (nat_eq v s.0) (nat_eq v s.1) (ap (has_end v) (sym same) ∙ ends))
      where
        go : (nat_eq v s.0 ≡ true) ⊎ (nat_eq v s.1 ≡ true) → has_corner v polygon ≡ true
        go (inl one) = at s.0 one start
        go (inr one) = at s.1 one finish
    here s (inr same) start finish = go (or_cases (nat_eq v s.1) (nat_eq v s.0) (ap (has_end v) (sym same) ∙ ends))
      where
        go : (nat_eq v s.1 ≡ true) ⊎ (nat_eq v s.0 ≡ true) → has_corner v polygon ≡ true
        go (inl one) = at s.1 one finish
        go (inr one) = at s.0 one start

pub edge-listed : (polygons : List Polygon) (face : ℕ) (edge : ℕ × ℕ) → has_edge edge (polygon_at polygons face) ≡ true → list_any (same_edge edge) (edges_of polygons) ≡ true
edge-listed polygons face edge h = any-first_named edge (all_sides polygons) ∙ any-here (same_edge edge) polygons face h

places-from : {X : Type 0} (test : X → Bool) (place n : ℕ) (xs : List X) → is_among (places_from place test xs) n ≡ true → place ≤ n
places-from test place n [] h = absurd (cc)
places-from test place n (x ∷ xs) h = let behind = places-from test (place + 1) n xs in grind (arith, nat_tests)

-- the first of the places that are kept is the least
first-least : {X : Type 0} (test : X → Bool) (keep : ℕ → Bool) (d n place : ℕ) (xs : List X) → is_among (filter keep (places_from place test xs)) n ≡ true → get_or (filter keep (places_from place test xs)) 0 d ≤ n
first-least test keep d n place [] h = absurd (cc)
first-least {X} test keep d n place (x ∷ xs) h = here (test x) refl (keep place) refl (λ k. first-least test keep d n (place + 1) xs k)
  where
    here : (b : Bool) → test x ≡ b → (k : Bool) → keep place ≡ k → (is_among (filter keep (places_from (place + 1) test xs)) n ≡ true → get_or (filter keep (places_from (place + 1) test xs)) 0 d ≤ n) → get_or (filter keep (places_from place test (x ∷ xs))) 0 d ≤ n
    here true e true k behind = rw (e, k) (further (or_cases (nat_eq n place) (is_among (filter keep (places_from (place + 1) test xs)) n) (rw (e, k) at h)))
      where
        further : (nat_eq n place ≡ true) ⊎ (is_among (filter keep (places_from (place + 1) test xs)) n ≡ true) → place ≤ n
        further (inl same) = let one = eqb-true n place same in omega arith
        further (inr more) =
            let there = (and_parts (keep n) (is_among (places_from (place + 1) test xs) n) (sym (among-filter keep n (places_from (place + 1) test xs)) ∙ more)).1 in
            let after = places-from test (place + 1) n xs there in
            omega arith
    here true e false k behind = rw (e, k) (behind (rw (e, k) at h))
    here false e kept k behind = rw e (behind (rw e at h))

module _ (mesh : ObjMesh) where
  differ-swap : (s t : ℕ × ℕ) → same_edge s t ≡ true → (faces : List ℕ) → is_seam_of mesh s faces ≡ is_seam_of mesh t faces
  differ-swap s t h [] = refl
  differ-swap s t h (f ∷ []) = refl
  differ-swap s t h (f ∷ (g ∷ faces)) = here (edge-cases s t h)
    where
      here : (s ≡ t) ⊎ (s ≡ (t.1, t.0)) → (differ_at mesh f g s.0 || differ_at mesh f g s.1) ≡ (differ_at mesh f g t.0 || differ_at mesh f g t.1)
      here (inl same) = ap (λ (e : ℕ × ℕ). differ_at mesh f g e.0 || differ_at mesh f g e.1) same
      here (inr turned) = ap (λ (e : ℕ × ℕ). differ_at mesh f g e.0 || differ_at mesh f g e.1) turned ∙ or-swap (differ_at mesh f g t.1) (differ_at mesh f g t.0)

  -- a seam is one in both directions
  pub seam-alike : (s t : ℕ × ℕ) → same_edge s t ≡ true → is_seam mesh s ≡ is_seam mesh t
  seam-alike s t h =
      differ-swap s t h (faces_of_edge mesh.faces s)
      ∙ ap (is_seam_of mesh t) (places-agree (has_edge s) (has_edge t) (λ polygon. edge-same s t h (sides_of polygon)) 0 mesh.faces)

  module _ (v : ℕ) where
    -- two faces are the same, or have an edge at v in common that is no seam
    abbrev pub are_near : ℕ → ℕ → Bool
    are_near f g = nat_eq f g || share_edge mesh.faces (joining_edges mesh v) f g

    near-itself : (f : ℕ) → are_near f f ≡ true
    near-itself f = or_left _ _ (eq-eqb f f refl)

    reached-is : (steps : ℕ) (reached : List ℕ) → reached_after steps mesh.faces (joining_edges mesh v) (faces_of_point mesh.faces v) reached ≡ reached_in are_near (faces_of_point mesh.faces v) steps reached
    reached-is zero reached = refl
    reached-is (suc steps) reached = reached-is steps (next_reached are_near (faces_of_point mesh.faces v) reached)

    joined-is : (face : ℕ) → joined_faces mesh v face ≡ joined_with are_near (faces_of_point mesh.faces v) face
    joined-is face = reached-is (length (faces_of_point mesh.faces v)) (face ∷ [])

    pub near-back : (f g : ℕ) → are_near f g ≡ true → are_near g f ≡ true
    near-back f g h = here (or_cases (nat_eq f g) (share_edge mesh.faces (joining_edges mesh v) f g) h)
      where
        here : (nat_eq f g ≡ true) ⊎ (share_edge mesh.faces (joining_edges mesh v) f g ≡ true) → are_near g f ≡ true
        here (inl same) = or_left _ _ (eq-eqb g f (sym (eqb-true f g same)))
        here (inr shared) =
            or_right _ _ (any-weaker (λ (edge : ℕ × ℕ). has_edge edge (polygon_at mesh.faces f) && has_edge edge (polygon_at mesh.faces g)) (λ (edge : ℕ × ℕ). has_edge edge (polygon_at mesh.faces g) && has_edge edge (polygon_at mesh.faces f)) (λ edge k.
            let parts = and_parts (has_edge edge (polygon_at mesh.faces f)) (has_edge edge (polygon_at mesh.faces g)) k in
            and_from _ _ parts.1 parts.0) (joining_edges mesh v) shared)

    -- an edge at v that is no seam makes its faces near
    pub near-from : (f g : ℕ) (edge : ℕ × ℕ) → has_end v edge ≡ true → is_seam mesh edge ≡ false → has_edge edge (polygon_at mesh.faces f) ≡ true → has_edge edge (polygon_at mesh.faces g) ≡ true → are_near f g ≡ true
    near-from f g edge ends joins at_f at_g =
        or_right _ _ (any-kept (λ (e : ℕ × ℕ). has_edge e (polygon_at mesh.faces f) && has_edge e (polygon_at mesh.faces g)) (λ (e : ℕ × ℕ). has_end v e && same_edge edge e) (λ (e : ℕ × ℕ). not (is_seam mesh e)) (λ e h.
        let parts = and_parts (has_end v e) (same_edge edge e) h in
        (not_from_false _ (sym (seam-alike edge e parts.1) ∙ joins), and_from _ _ (sym (edge-same edge e parts.1 (sides_of (polygon_at mesh.faces f))) ∙ at_f) (sym (edge-same edge e parts.1 (sides_of (polygon_at mesh.faces g))) ∙ at_g))) (edges_of_point mesh.faces v)
        (any-kept (λ (e : ℕ × ℕ). has_end v e && same_edge edge e) (same_edge edge) (has_end v) (λ e h.
        let there : has_end v e ≡ true = sym (end-same edge e h) ∙ ends in
        (there, and_from _ _ there h)) (edges_of mesh.faces) (edge-listed mesh.faces f edge at_f)))
      where
        end-same : (s t : ℕ × ℕ) → same_edge s t ≡ true → has_end v s ≡ has_end v t
        end-same s t h = here (edge-cases s t h)
          where
            here : (s ≡ t) ⊎ (s ≡ (t.1, t.0)) → has_end v s ≡ has_end v t
            here (inl same) = ap (has_end v) same
            here (inr turned) = ap (has_end v) turned ∙ or-swap (nat_eq v t.1) (nat_eq v t.0)

    -- near faces are equal or share an edge at v that is no seam
    pub near-parts : (f g : ℕ) → are_near f g ≡ true → (f ≡ g) ⊎ ((edge : ℕ × ℕ) × (has_end v edge ≡ true) × (is_seam mesh edge ≡ false) × (has_edge edge (polygon_at mesh.faces f) ≡ true) × (has_edge edge (polygon_at mesh.faces g) ≡ true))
    near-parts f g h = here (or_cases (nat_eq f g) (share_edge mesh.faces (joining_edges mesh v) f g) h)
      where
        here : (nat_eq f g ≡ true) ⊎ (share_edge mesh.faces (joining_edges mesh v) f g ≡ true) → (f ≡ g) ⊎ ((edge : ℕ × ℕ) × (has_end v edge ≡ true) × (is_seam mesh edge ≡ false) × (has_edge edge (polygon_at mesh.faces f) ≡ true) × (has_edge edge (polygon_at mesh.faces g) ≡ true))
        here (inl same) = inl (eqb-true f g same)
        here (inr shared) =
            let both = λ (e : ℕ × ℕ). has_edge e (polygon_at mesh.faces f) && has_edge e (polygon_at mesh.faces g) in
            let joins = λ (e : ℕ × ℕ). not (is_seam mesh e) in
            let found = some-here (λ (e : ℕ × ℕ). has_end v e && (joins e && both e)) (edges_of mesh.faces) (kept-any (λ e. joins e && both e) (has_end v) (edges_of mesh.faces) (kept-any both joins (edges_of_point mesh.faces v) shared)) in
            let e : ℕ × ℕ = found.0 in
            let outer = and_parts (has_end v e) (joins e && both e) found.1 in
            let inner = and_parts (joins e) (both e) outer.1 in
            let faces = and_parts (has_edge e (polygon_at mesh.faces f)) (has_edge e (polygon_at mesh.faces g)) inner.1 in
            inr (e, outer.0, not-true _ inner.0, faces.0, faces.1)

    here-among : (face : ℕ) → has_corner v (polygon_at mesh.faces face) ≡ true → is_among (faces_of_point mesh.faces v) face ≡ true
    here-among face h = faces-among mesh.faces v face ∙ h

    among-here : (face : ℕ) → is_among (faces_of_point mesh.faces v) face ≡ true → has_corner v (polygon_at mesh.faces face) ≡ true
    among-here face h = sym (faces-among mesh.faces v face) ∙ h

    pub joins-itself : (face : ℕ) → has_corner v (polygon_at mesh.faces face) ≡ true → is_among (joined_faces mesh v face) face ≡ true
    joins-itself face h = ap (λ (xs : List ℕ). is_among xs face) (joined-is face) ∙ joined-itself are_near (faces_of_point mesh.faces v) near-itself face (here-among face h)

    pub joins-within : (face f : ℕ) → has_corner v (polygon_at mesh.faces face) ≡ true → is_among (joined_faces mesh v face) f ≡ true → has_corner v (polygon_at mesh.faces f) ≡ true
    joins-within face f h k = among-here f (joined-within are_near (faces_of_point mesh.faces v) near-itself face f (here-among face h) (ap (λ (xs : List ℕ). is_among xs f) (sym (joined-is face)) ∙ k))

    pub joins-near : (face f g : ℕ) → has_corner v (polygon_at mesh.faces face) ≡ true → are_near f g ≡ true → has_corner v (polygon_at mesh.faces g) ≡ true → is_among (joined_faces mesh v face) f ≡ true → is_among (joined_faces mesh v face) g ≡ true
    joins-near face f g h close there k =
        ap (λ (xs : List ℕ). is_among xs g) (joined-is face) ∙ joined-closed are_near (faces_of_point mesh.faces v) near-itself face f g (here-among face h) close (here-among g there) (ap (λ (xs : List ℕ). is_among xs f) (sym (joined-is face)) ∙ k)

    pub joins-least : (S : ℕ → Type 0) → ((f g : ℕ) → are_near f g ≡ true → has_corner v (polygon_at mesh.faces g) ≡ true → S f → S g) → (face : ℕ) → S face → (f : ℕ) → is_among (joined_faces mesh v face) f ≡ true → S f
    joins-least S closed face first f h =
        joined-least are_near (faces_of_point mesh.faces v) near-itself S (λ k m close there has. closed k m close (among-here m there) has) face first f (ap (λ (xs : List ℕ). is_among xs f) (sym (joined-is face)) ∙ h)

    pub joins-same : (f g : ℕ) → has_corner v (polygon_at mesh.faces f) ≡ true → is_among (joined_faces mesh v f) g ≡ true → joined_faces mesh v g ≡ joined_faces mesh v f
    joins-same f g h k =
        joined-is g ∙ joined-same are_near (faces_of_point mesh.faces v) near-itself near-back f g (here-among f h) (ap (λ (xs : List ℕ). is_among xs g) (sym (joined-is f)) ∙ k) ∙ sym (joined-is f)

    -- faces have one channel point at v exactly where they are joined there
    pub same-point : (f g : ℕ) → has_corner v (polygon_at mesh.faces f) ≡ true → is_among (joined_faces mesh v f) g ≡ true → channel_point mesh f v ≡ channel_point mesh g v
    same-point f g h k =
        let there = joins-within f g h k in
        let same = joins-same f g h k in
        ap (λ (n : ℕ). (v, n)) (first-same (joined_faces mesh v f) (joined_faces mesh v g) f g g same k)
      where
        first-same : (xs ys : List ℕ) (d e n : ℕ) → ys ≡ xs → is_among xs n ≡ true → get_or xs 0 d ≡ get_or ys 0 e
        first-same [] ys d e n same there = absurd (cc)
        first-same (x ∷ xs) ys d e n same there = sym (ap (λ (zs : List ℕ). get_or zs 0 e) same)

    pub point-same : (f g : ℕ) → has_corner v (polygon_at mesh.faces f) ≡ true → has_corner v (polygon_at mesh.faces g) ≡ true → channel_point mesh f v ≡ channel_point mesh g v → is_among (joined_faces mesh v f) g ≡ true
    point-same f g at_f at_g e =
        let first : ℕ = get_or (joined_faces mesh v f) 0 f in
        let first_g : ℕ = get_or (joined_faces mesh v g) 0 g in
        let same : first ≡ first_g = ap (λ (s : ℕ × ℕ). s.1) e in
        let one = joins-same f first at_f (first-there (joined_faces mesh v f) f f (joins-itself f at_f)) in
        let two = joins-same g first_g at_g (first-there (joined_faces mesh v g) g g (joins-itself g at_g)) in
        ap (λ (xs : List ℕ). is_among xs g) (sym one ∙ ap (joined_faces mesh v) same ∙ two) ∙ joins-itself g at_g
      where
        first-there : (xs : List ℕ) (d n : ℕ) → is_among xs n ≡ true → is_among xs (get_or xs 0 d) ≡ true
        first-there [] d n there = absurd (cc)
        first-there (x ∷ xs) d n there = or_left _ _ (eq-eqb x x refl)

    -- the first of the joined faces is the least
    pub joins-first : (face f : ℕ) → has_corner v (polygon_at mesh.faces face) ≡ true → is_among (joined_faces mesh v face) f ≡ true → get_or (joined_faces mesh v face) 0 face ≤ f
    joins-first face f h k =
        let filtered = joined-is face ∙ sym (joined-stable are_near (faces_of_point mesh.faces v) near-itself face (here-among face h)) in
        let least = first-least (has_corner v) (λ g. list_any (λ k. are_near k g) (joined_with are_near (faces_of_point mesh.faces v) face)) face f 0 mesh.faces (ap (λ (xs : List ℕ). is_among xs f) (sym filtered) ∙ k) in
        subst (λ (xs : List ℕ). get_or xs 0 face ≤ f) (sym filtered) least

    -- a property that edges at v that are no seams pass on holds of all joined faces
    pub joins-only : (kept : ℕ → Bool) → ((f g : ℕ) (edge : ℕ × ℕ) → IsTrue (has_end v edge) → is_seam mesh edge ≡ false → IsTrue (has_edge edge (polygon_at mesh.faces f)) → IsTrue (has_edge edge (polygon_at mesh.faces g)) → IsTrue (kept f) → IsTrue (kept g)) → (face : ℕ) → IsTrue (kept face) → (f : ℕ) → IsTrue (is_among (joined_faces mesh v face) f) → IsTrue (kept f)
    joins-only kept closed face first f h = joins-least (λ n. kept n ≡ true) (λ k m close there has. here k m has (near-parts k m close)) face first f h
      where
        here : (k m : ℕ) → kept k ≡ true → (k ≡ m) ⊎ ((edge : ℕ × ℕ) × (has_end v edge ≡ true) × (is_seam mesh edge ≡ false) × (has_edge edge (polygon_at mesh.faces k) ≡ true) × (has_edge edge (polygon_at mesh.faces m) ≡ true)) → kept m ≡ true
        here k m has (inl same) = ap kept (sym same) ∙ has
        here k m has (inr e) = closed k m e.0 e.1 e.2 e.3 e.4 has

    pub joins-edge : (face f g : ℕ) (edge : ℕ × ℕ) → IsTrue (has_corner v (polygon_at mesh.faces face)) → IsTrue (has_end v edge) → is_seam mesh edge ≡ false → IsTrue (has_edge edge (polygon_at mesh.faces f)) → IsTrue (has_edge edge (polygon_at mesh.faces g)) → is_among (joined_faces mesh v face) f ≡ is_among (joined_faces mesh v face) g
    joins-edge face f g edge h ends joins at_f at_g =
        same-tests _ _ (joins-near face f g h (near-from f g edge ends joins at_f at_g) (edge-end (polygon_at mesh.faces g) v edge ends at_g))
        (joins-near face g f h (near-from g f edge ends joins at_g at_f) (edge-end (polygon_at mesh.faces f) v edge ends at_f))

    pub joins-alike : (f g : ℕ) → IsTrue (has_corner v (polygon_at mesh.faces f)) → IsTrue (has_corner v (polygon_at mesh.faces g)) → is_among (joined_faces mesh v f) g ≡ is_among (joined_faces mesh v g) f
    joins-alike f g at_f at_g =
        same-tests _ _ (λ h. ap (λ (xs : List ℕ). is_among xs f) (joins-same f g at_f h) ∙ joins-itself f at_f) (λ h. ap (λ (xs : List ℕ). is_among xs g) (joins-same g f at_g h) ∙ joins-itself g at_g)

  -- channel points have one number exactly where they are the same
  pub number-point : (f g v w : ℕ) → has_corner v (polygon_at mesh.faces f) ≡ true → has_corner w (polygon_at mesh.faces g) ≡ true → point_of mesh f v ≡ point_of mesh g w → channel_point mesh f v ≡ channel_point mesh g w
  number-point f g v w at_f at_g e = sym (channel-at mesh f v at_f) ∙ ap (λ (p : ℕ). get_or (channel_points mesh) p (0, 0)) e ∙ channel-at mesh g w at_g

  pub point-number : (f g v w : ℕ) → has_corner v (polygon_at mesh.faces f) ≡ true → has_corner w (polygon_at mesh.faces g) ≡ true → channel_point mesh f v ≡ channel_point mesh g w → point_of mesh f v ≡ point_of mesh g w
  point-number f g v w at_f at_g e = channel-once mesh _ _ (channel-within mesh f v at_f) (channel-within mesh g w at_g) (channel-at mesh f v at_f ∙ e ∙ sym (channel-at mesh g w at_g))

  pub joins-number : (v f g : ℕ) → IsTrue (has_corner v (polygon_at mesh.faces f)) → IsTrue (has_corner v (polygon_at mesh.faces g)) → (point_of mesh f v ≡ point_of mesh g v) ↔ IsTrue (is_among (joined_faces mesh v f) g)
  joins-number v f g at_f at_g = (λ e. point-same v f g at_f at_g (number-point f g v v at_f at_g e), λ h. point-number f g v v at_f at_g (same-point v f g at_f h))
