-- Marks of faces, and of the vertices on them.
use Rattle.std.proofs.Common.{◌≡◌, ℕ, ◌+◌, ◌<◌, ◌≤◌, Bool, true, false, ◌||◌, ◌&&◌, nat_eq, List, [], ◌∷◌, length, take, get_or, set, replicate, arith, refl, ap, sym, ◌∙◌, if◌then◌else◌}
use Rattle.std.specs.List.{list_any}
use Rattle.std.proofs.lemmas.Bool.{eqb-true, eqb-false}
use Rattle.std.proofs.lemmas.List.{take_more, take_all, length-take-le, length-replicate, get_or-set_same, get_or-set_other, get_or-replicate}
use Rattle.std.proofs.lemmas.List.Folds.{list_any-append}
use Rattle.std.proofs.lemmas.List.FromFn.{fill_by_all}
use Rattle.subdiv_model.specs.Polygons.{Polygon, polygon_at, is_among, has_corner}
use Rattle.subdiv_model.specs.Lists.{places_from}
use Rattle.subdiv_model.specs.Sparse.{is_on}
use Rattle.subdiv_model.specs.Level.{Level}
use Rattle.level_topology.proofs.NumberingLemmas.{places-push}
use Rattle.sparse_level.specs.Places.{marked, marks_on}

pub or-false : (b : Bool) → b ≡ (b || false)
or-false true = refl
or-false false = refl

pub or-true : (b : Bool) → (b || true) ≡ true
or-true true = refl
or-true false = refl

-- one vertex more of some
pub mark-more : (old on : List Bool) (corners : List ℕ) (i u : ℕ) → i < length corners → u < length on → get_or corners i 0 < length on → get_or on u false ≡ (get_or old u false || is_among (take i corners) u)
    → get_or (set on (get_or corners i 0) true) u false ≡ (get_or old u false || is_among (take (i + 1) corners) u)
mark-more old on corners i u h inside below so = go (nat_eq u (get_or corners i 0)) refl
  where
    v : ℕ
    v = get_or corners i 0

    more : is_among (take (i + 1) corners) u ≡ (is_among (take i corners) u || (nat_eq u v || false))
    more = ap (λ xs. is_among xs u) (take_more corners i 0 h) ∙ list_any-append (nat_eq u) (take i corners) (v ∷ [])

    go : (b : Bool) → nat_eq u v ≡ b → get_or (set on v true) u false ≡ (get_or old u false || is_among (take (i + 1) corners) u)
    go true e =
        let same = eqb-true u v e in
        ap (λ (k : ℕ). get_or (set on v true) k false) same ∙ get_or-set_same on v true false below
        ∙ sym (ap (λ b. get_or old u false || b) (more ∙ ap (λ b. is_among (take i corners) u || (b || false)) e ∙ or-true (is_among (take i corners) u)) ∙ or-true (get_or old u false))
    go false e =
        get_or-set_other on v u true false (λ same. absurd (eqb-false u v e same)) ∙ so
        ∙ sym (ap (λ b. get_or old u false || b) (more ∙ ap (λ b. is_among (take i corners) u || (b || false)) e ∙ sym (or-false (is_among (take i corners) u))))

-- a face more, which is selected or not
on-more : (polygons : List Polygon) (selected : List Bool) (f u : ℕ) → f < length selected → is_on polygons (marked (take (f + 1) selected)) u ≡ (is_on polygons (marked (take f selected)) u || (get_or selected f false && has_corner u (polygon_at polygons f)))
on-more polygons selected f u h =
    let test : ℕ → Bool = λ face. has_corner u (polygon_at polygons face) in
    let here : 0 + length (take f selected) ≡ f = omega (arith, length-take-le f selected (omega (arith, h))) in
    ap (λ l. list_any test (places_from 0 (λ mark. mark) l)) (take_more selected f false h)
    ∙ ap (list_any test) (places-push 0 (λ mark. mark) (take f selected) (get_or selected f false))
    ∙ list_any-append test (marked (take f selected)) _
    ∙ ap (λ b. list_any test (marked (take f selected)) || b) (last test (get_or selected f false) (0 + length (take f selected)) ∙ ap (λ k. get_or selected f false && test k) here)
  where
    last : (test : ℕ → Bool) (b : Bool) (k : ℕ) → list_any test (if b then k ∷ [] else []) ≡ (b && test k)
    last test true k = sym (or-false (test k))
    last test false k = refl

-- the marks of all vertices
pub marks-all : (level : Level) (selected on : List Bool) (f : ℕ) → length selected ≤ f → length on ≡ level.point_count → ((u : ℕ) → u < level.point_count → get_or on u false ≡ is_on level.polygons (marked (take f selected)) u) → on ≡ marks_on level (marked selected)
marks-all level selected on f past long so =
    fill_by_all (is_on level.polygons (marked selected)) on level.point_count false long (λ u h. so u h ∙ ap (λ l. is_on level.polygons (marked l) u) (take_all f selected past))

-- no mark yet
pub marks-none : (level : Level) (on : List Bool) (count : ℕ) → on ≡ replicate count false → count ≡ level.point_count → (length on ≡ level.point_count) × ((u : ℕ) → u < level.point_count → get_or on u false ≡ false)
marks-none level on count e h = (ap length e ∙ length-replicate count false ∙ h, λ u k. ap (λ l. get_or l u false) e ∙ get_or-replicate count u false false (omega (arith, k, h)))

-- the marks after a face more
pub marks-more : (level : Level) (selected old new : List Bool) (f : ℕ) → f < length selected → ((u : ℕ) → u < level.point_count → get_or old u false ≡ is_on level.polygons (marked (take f selected)) u)
    → ((u : ℕ) → u < level.point_count → get_or new u false ≡ (get_or old u false || (get_or selected f false && has_corner u (polygon_at level.polygons f))))
    → (u : ℕ) → u < level.point_count → get_or new u false ≡ is_on level.polygons (marked (take (f + 1) selected)) u
marks-more level selected old new f h so more u k =
    more u k ∙ ap (λ b. b || (get_or selected f false && has_corner u (polygon_at level.polygons f))) (so u k) ∙ sym (on-more level.polygons selected f u h)
