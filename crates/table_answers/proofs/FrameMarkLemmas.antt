-- The marks of rows: before any move, after one more, and after the last is gone.
use Rattle.std.proofs.Common.{◌≡◌, ℕ, ◌+◌, Bool, true, false, cond, nat_eq, ◌||◌, List, [], ◌∷◌, ◌++◌, length, map, replicate, arith, refl, ap, sym, ◌∙◌, if◌then◌else◌}
use Rattle.std.specs.List.{list_any, count_by}
use Rattle.std.proofs.lemmas.Bool.Decides.{nat_tests}
use Rattle.std.proofs.lemmas.List.Folds.{list_any-append}
use Rattle.std.proofs.lemmas.List.Sums.{sum_by-cons}
use Rattle.subdiv_model.specs.Lists.{places_from}
use Rattle.subdiv_model.specs.Polygons.{is_among}
use Rattle.stencil_apply.specs.Table.{Share, Row}
use Rattle.stencil_factory.specs.Rows.{support_of}
use Rattle.stencil_session.specs.Session.{has_control, mark_rows}

-- a support has one of these control points
abbrev pub is_moved : List ℕ → List ℕ → Bool
is_moved moved support = list_any (is_among support) moved

-- the supports of rows
abbrev pub supports : List Row → List (List ℕ)
supports rows = map (λ row. support_of row.shares) rows

same-test : (a b : ℕ) → nat_eq a b ≡ nat_eq b a
same-test a b = grind (arith, nat_tests)

-- a row has a control if its support has it
has-control : (control : ℕ) (shares : List Share) → list_any (λ share. nat_eq share.0 control) shares ≡ is_among (support_of shares) control
has-control control [] = refl
has-control control (share ∷ shares) =
    ap (λ b. b || list_any (λ s. nat_eq s.0 control) shares) (same-test share.0 control)
    ∙ ap (λ b. nat_eq control share.0 || b) (has-control control shares)

either : (a b : Bool) → (a || b) ≡ (b || (a || false))
either true true = refl
either true false = refl
either false true = refl
either false false = refl

-- one more control
moved-more : (control : ℕ) (moved : List ℕ) (shares : List Share) →
    (list_any (λ share. nat_eq share.0 control) shares || is_moved moved (support_of shares)) ≡ is_moved (moved ++ control ∷ []) (support_of shares)
moved-more control moved shares =
    ap (λ b. b || is_moved moved (support_of shares)) (has-control control shares)
    ∙ either (is_among (support_of shares) control) (is_moved moved (support_of shares))
    ∙ sym (list_any-append (is_among (support_of shares)) moved (control ∷ []))

pub marks-more : (control : ℕ) (moved : List ℕ) (rows : List Row) → mark_rows control rows (map (is_moved moved) (supports rows)) ≡ map (is_moved (moved ++ control ∷ [])) (supports rows)
marks-more control moved [] = refl
marks-more control moved (row ∷ rows) =
    ap (λ mark. mark ∷ mark_rows control rows (map (is_moved moved) (supports rows))) (moved-more control moved row.shares)
    ∙ ap (λ marks. is_moved (moved ++ control ∷ []) (support_of row.shares) ∷ marks) (marks-more control moved rows)

-- before any move
pub marks-none : (rows : List Row) → replicate (length rows) false ≡ map (is_moved []) (supports rows)
marks-none [] = refl
marks-none (row ∷ rows) = ap (λ marks. false ∷ marks) (marks-none rows)

-- all marks are gone
pub marks-gone : (moved : List ℕ) (xs : List (List ℕ)) → map (λ is_marked. false) (map (is_moved moved) xs) ≡ map (is_moved []) xs
marks-gone moved [] = refl
marks-gone moved (x ∷ xs) = ap (λ marks. false ∷ marks) (marks-gone moved xs)

-- the number of rows that have a control
one-more : (control : ℕ) (shares : List Share) → list_any (λ share. nat_eq share.0 control) shares ≡ is_moved (control ∷ []) (support_of shares)
one-more control shares = has-control control shares ∙ or-false (is_among (support_of shares) control)
  where
    or-false : (b : Bool) → b ≡ (b || false)
    or-false true = refl
    or-false false = refl

pub rows-count : (control first : ℕ) (rows : List Row) → count_by (has_control control) rows ≡ length (places_from first (is_moved (control ∷ [])) (supports rows))
rows-count control first [] = refl
rows-count control first (row ∷ rows) =
    sum_by-cons (λ (r : Row). cond (has_control control r) 1 0) row rows
    ∙ one (has_control control row) (is_moved (control ∷ []) (support_of row.shares)) (one-more control row.shares) (rows-count control (first + 1) rows)
  where
    one : (a b : Bool) → a ≡ b → count_by (has_control control) rows ≡ length (places_from (first + 1) (is_moved (control ∷ [])) (supports rows)) →
        cond a 1 0 + count_by (has_control control) rows
        ≡ length (if b then first ∷ places_from (first + 1) (is_moved (control ∷ [])) (supports rows) else places_from (first + 1) (is_moved (control ∷ [])) (supports rows))
    one true true same behind = omega (arith, behind)
    one true false same behind = absurd (cc)
    one false true same behind = absurd (cc)
    one false false same behind = omega (arith, behind)
