-- The values of levels, one level after another.
use Rattle.std.proofs.Common.{◌≡◌, ℕ, suc, ◌+◌, ◌<◌, ◌≤◌, ℤ, List, [], ◌∷◌, ◌++◌, length, get_or, take, drop, arith, ap, sym, ◌∙◌, subst}
use Rattle.std.proofs.lemmas.List.{length-take-le, take-append-drop, take_more}
use Rattle.sparse_walk.specs.declared.kept.KeptLevel.{KeptLevel}
use Rattle.stencil_apply.specs.Table.{Table}
use Rattle.channel_refine.specs.SparseRefined.{SparseRows}
use Rattle.channel_refine.specs.SparseComposed.{CanValue, CanValueAll, kept_order, valued, valued_entries, valued_from, entries_in}

zero-right : (n : ℕ) → n ≡ n + 0
zero-right n = omega arith

shift : (n m : ℕ) → suc n + m ≡ n + suc m
shift n m = omega arith

-- one more level
valued-push : (controls : List (List ℤ)) (first : List ℕ) (j : ℕ) (levels : List (KeptLevel Table)) (level : KeptLevel Table)
    → valued_from controls first j (levels ++ level ∷ []) ≡ valued_from controls first j levels ++ valued controls (kept_order first (j + length levels) level) level ∷ []
valued-push controls first j [] level = ap (λ n. valued controls (kept_order first n level) level ∷ []) (zero-right j)
valued-push controls first j (one ∷ levels) level =
    ap (λ rest. valued controls (kept_order first j one) one ∷ rest)
    (valued-push controls first (suc j) levels level ∙ ap (λ n. valued_from controls first (suc j) levels ++ valued controls (kept_order first n level) level ∷ []) (shift j (length levels)))

entries-push : (first : List ℕ) (j : ℕ) (levels : List (KeptLevel Table)) (level : KeptLevel Table)
    → entries_in first j (levels ++ level ∷ []) ≡ entries_in first j levels + valued_entries (kept_order first (j + length levels) level) level
entries-push first j [] level = omega (arith, ap (λ n. valued_entries (kept_order first n level) level) (zero-right j))
entries-push first j (one ∷ levels) level =
    omega (arith, entries-push first (suc j) levels level, ap (λ n. valued_entries (kept_order first n level) level) (shift j (length levels)))

-- fewer levels have no more entries
entries-before : (first : List ℕ) (j : ℕ) (levels more : List (KeptLevel Table)) → entries_in first j levels ≤ entries_in first j (levels ++ more)
entries-before first j [] more = omega arith
entries-before first j (one ∷ levels) more = omega (arith, entries-before first (suc j) levels more)

pub entries-taken : (first : List ℕ) (all : List (KeptLevel Table)) (n : ℕ) → entries_in first 0 (take n all) ≤ entries_in first 0 all
entries-taken first all n = omega (arith, entries-before first 0 (take n all) (drop n all), ap (entries_in first 0) (take-append-drop n all))

-- the next level of all, in its place behind those before it
module _ (first : List ℕ) (all : List (KeptLevel Table)) (n m : ℕ) (level : KeptLevel Table) (inside : n < length all) (is : level ≡ get_or all n level) (count : m ≡ n) where
  taken : take (n + 1) all ≡ take n all ++ level ∷ []
  taken = take_more all n level inside ∙ ap (λ one. take n all ++ one ∷ []) (sym is)

  many : 0 + length (take n all) ≡ m
  many = omega (arith, length-take-le n all (omega (arith, inside)), count)

  pub values-more : (controls : List (List ℤ)) (made new : List SparseRows) → made ≡ valued_from controls first 0 (take n all) → new ≡ made ++ valued controls (kept_order first m level) level ∷ []
      → new ≡ valued_from controls first 0 (take (n + 1) all)
  values-more controls made new are pushed =
      pushed ∙ ap (λ (rows : List SparseRows). rows ++ valued controls (kept_order first m level) level ∷ []) are
      ∙ ap (λ k. valued_from controls first 0 (take n all) ++ valued controls (kept_order first k level) level ∷ []) (sym many)
      ∙ sym (ap (valued_from controls first 0) taken ∙ valued-push controls first 0 (take n all) level)

  pub entries-more : entries_in first 0 (take (n + 1) all) ≡ entries_in first 0 (take n all) + valued_entries (kept_order first m level) level
  entries-more =
      ap (entries_in first 0) taken ∙ entries-push first 0 (take n all) level
      ∙ ap (λ k. entries_in first 0 (take n all) + valued_entries (kept_order first k level) level) many

  pub next-can : (controls : List (List ℤ)) → CanValueAll controls first all → CanValue controls (kept_order first m level) level
  next-can controls can = subst (λ k. CanValue controls (kept_order first k level) level) (sym count) (subst (λ one. CanValue controls (kept_order first n one) one) (sym is) (can n level inside))
