-- A row that is tested entry by entry.
use Rattle.std.proofs.Common.{◌≡◌, ℕ, zero, suc, ◌+◌, ◌-◌, ◌<◌, ◌≤◌, List, [], ◌∷◌, length, map, arith}
use native.Mathlib.Numerals.{unary_clauses}
use Rattle.std.specs.List.{All}
use Rattle.std.specs.List.Sorted.{IsStrictlyIncreasing}
use Rattle.std.proofs.lemmas.List.Elements.{All-nil, All-cons}
use Rattle.std.proofs.lemmas.List.Sums.{sum_by-cons}
use Rattle.subdiv_model.specs.Channel.{number_bound}
use Rattle.stencil_apply.specs.Table.{Share, IsRow, total_of}
use Rattle.stencil_apply.specs.Arrays.{shares_of, row_of}
use Rattle.stencil_apply.specs.declared.entry.Entry.{Entry}

-- the entries from here on ascend from a control point, and have the rest of the denominator
abbrev pub AreLeft : ℕ → ℕ → ℕ → List Entry → Type 0
AreLeft controls next left [] = left ≡ 0
AreLeft controls next left (entry ∷ entries) =
    (next ≤ entry.index) × (entry.index < controls) × (0 < entry.numerator) × (entry.numerator ≤ left)
    × AreLeft controls (entry.index + 1) (left - entry.numerator) entries

ascend : (controls next left : ℕ) (entries : List Entry) → AreLeft controls next left entries → IsStrictlyIncreasing (map (λ share. share.0) (shares_of entries))
ascend controls next left [] h k lt = absurd (omega (arith, lt))
ascend controls next left (entry ∷ []) h k lt = absurd (omega (arith, lt))
ascend controls next left (entry ∷ other ∷ entries) h zero lt = omega (arith, h.4.0)
ascend controls next left (entry ∷ other ∷ entries) h (suc k) lt =
    let later = ascend controls (entry.index + 1) (left - entry.numerator) (other ∷ entries) h.4 k (omega (arith, lt)) in
    simp unary_clauses (simp unary_clauses at later)

inside : (controls next left : ℕ) (entries : List Entry) → AreLeft controls next left entries → All (λ (share : Share). share.0 < controls) (shares_of entries)
inside controls next left [] h = All-nil _
inside controls next left (entry ∷ entries) h = All-cons (λ (share : Share). share.0 < controls) _ _ h.1 (inside controls (entry.index + 1) (left - entry.numerator) entries h.4)

each : (controls next left : ℕ) (entries : List Entry) → AreLeft controls next left entries → All (λ (share : Share). 0 < share.1) (shares_of entries)
each controls next left [] h = All-nil _
each controls next left (entry ∷ entries) h = All-cons (λ (share : Share). 0 < share.1) _ _ h.2 (each controls (entry.index + 1) (left - entry.numerator) entries h.4)

whole : (controls next left : ℕ) (entries : List Entry) → AreLeft controls next left entries → total_of (shares_of entries) ≡ left
whole controls next left [] h = omega (arith, h)
whole controls next left (entry ∷ entries) h =
    omega (arith, h.3, whole controls (entry.index + 1) (left - entry.numerator) entries h.4, sum_by-cons (λ (share : Share). share.1) (entry.index, entry.numerator) (shares_of entries))

-- an empty rest of entries has nothing of the denominator
none-left : (controls next left : ℕ) (entries : List Entry) → length entries < 1 → left ≡ 0 → AreLeft controls next left entries
none-left controls next left [] short e = e
none-left controls next left (entry ∷ entries) short e = absurd (omega (arith, short))

are-row : (controls den : ℕ) (entries : List Entry) → 0 < den → den ≤ number_bound → AreLeft controls 0 den entries → IsRow controls (row_of den entries)
are-row controls den entries positive short h = record {
  positive = positive;
  short = short;
  ascending = ascend controls 0 den entries h;
  inside = inside controls 0 den entries h;
  each = each controls 0 den entries h;
  whole = whole controls 0 den entries h;
}

-- entries are a row if all pass once the rest passes, and the rest is empty
pub is-row : (controls den : ℕ) (entries : List Entry) → 0 < den → den ≤ number_bound → (next left : ℕ) (rest : List Entry)
    → (AreLeft controls next left rest → AreLeft controls 0 den entries) → length rest < 1 → left ≡ 0 → IsRow controls (row_of den entries)
is-row controls den entries positive short next left rest all none e = are-row controls den entries positive short (all (none-left controls next left rest none e))
