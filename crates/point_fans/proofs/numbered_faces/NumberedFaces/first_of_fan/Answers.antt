use Rattle.std.proofs.Common.{◌∙◌, ap, get_or, arith, length, subst, sym, ◌≡◌, ◌<◌, ◌+◌, ℕ, List, [], ◌∷◌, take, true, false, nat_eq, ◌⊎◌, inl, inr, Option, None, Some, is_some, MatchOption}
use Rattle.std.proofs.lemmas.List.{get_or-map, length-map, take_all, take_more}
use Rattle.level_topology.specs.Topology.{corner_of}
use Rattle.point_fans.proofs.AcrossLemmas.{none-of}
use Rattle.subdiv_model.specs.Polygons.{is_among}
use Rattle.std.proofs.lemmas.List.Folds.{list_any-append}
use Rattle.std.proofs.lemmas.Bool.{or_cases, eqb-true}
use Rattle.subdiv_model.specs.Manifold.{IsSuccessor}
use Rattle.point_fans.proofs.numbered_faces.NumberedFaces.first_of_fan.Goals as goal

pub returns-then-is_none-clause-no_predecessor : goal.returns-then-is_none-clause-no_predecessor
returns-then-is_none-clause-no_predecessor c = λ none. none-of _ c.face_before.result c.if-is_none.ensures c.face_before.ensures

pub face_before-requires-clause-there : goal.face_before-requires-clause-there
face_before-requires-clause-there c = c.requires.there c.loop-i.i 0 c.loop-i-test.true

pub face_before-requires-clause-corner : goal.face_before-requires-clause-corner
face_before-requires-clause-corner c =
    ap (λ xs. get_or xs c.loop-i.i 0) c.requires.corners ∙ get_or-map (corner_of c.args.self.now.level.polygons c.args.v) c.args.faces.now c.loop-i.i 0 0 c.loop-i-test.true

pub returns-then-is_none-clause-there : goal.returns-then-is_none-clause-there
returns-then-is_none-clause-there c = c.requires.there c.loop-i.i 0 c.loop-i-test.true

pub returns-clause-there : goal.returns-clause-there
returns-clause-there c = c.requires.there 0 0 c.requires.some

pub bounds-at-i : goal.bounds-at-i
bounds-at-i c = omega (arith, c.loop-i-test.true, ap length c.requires.corners, length-map c.args.faces.now (corner_of c.args.self.now.level.polygons c.args.v))

-- what holds of each face so far and of one more holds of all of them
one-more : (P : ℕ → Type 0) (xs : List ℕ) (i : ℕ) → i < length xs → ((f : ℕ) → is_among (take i xs) f ≡ true → P f) → P (get_or xs i 0) → (f : ℕ) → is_among (take (i + 1) xs) f ≡ true → P f
one-more P xs i inside before here f there =
    which (or_cases (is_among (take i xs) f) (is_among (get_or xs i 0 ∷ []) f) (sym (list_any-append (nat_eq f) (take i xs) (get_or xs i 0 ∷ [])) ∙ ap (λ ys. is_among ys f) (sym (take_more xs i 0 inside)) ∙ there))
  where
    last : (nat_eq f (get_or xs i 0) ≡ true) ⊎ (false ≡ true) → P f
    last (inl e) = subst P (sym (eqb-true _ _ e)) here
    last (inr e) = absurd (cc)

    which : (is_among (take i xs) f ≡ true) ⊎ (is_among (get_or xs i 0 ∷ []) f ≡ true) → P f
    which (inl e) = before f e
    which (inr e) = last (or_cases (nat_eq f (get_or xs i 0)) false e)

some-of : (A : Type 0) (B : ℕ → Type 0) (r : Option ℕ) → is_some r ≡ true → MatchOption r A B → (g : ℕ) × B g
some-of A B None e h = absurd (cc)
some-of A B (Some g) e h = (g, h)

pub loop-i-preserved : goal.loop-i-preserved
loop-i-preserved c =
    one-more (λ f. (g : ℕ) × IsSuccessor c.args.self.now.level.polygons c.args.v g f) c.args.faces.now c.loop-i.i c.loop-i-test.true c.loop-i.invariant
    (some-of _ _ c.face_before.result c.if-is_none.ensures c.face_before.ensures)

pub returns-clause-led : goal.returns-clause-led
returns-clause-led c = λ no f there. c.loop-i.invariant f (ap (λ xs. is_among xs f) (take_all c.loop-i.i c.args.faces.now (omega (arith, c.loop-i-test.false))) ∙ there)
