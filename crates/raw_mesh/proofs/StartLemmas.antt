-- The places where faces of given numbers of corners begin.
use Rattle.std.proofs.Common.{◌≡◌, ℕ, ◌+◌, ◌-◌, List, [], ◌∷◌, ◌++◌, length, sum, drop, take, arith, refl, ap, sym, ◌∙◌}
use Rattle.std.proofs.lemmas.List.{append_assoc, drop-drop}
use Rattle.std.proofs.lemmas.List.Sums.{sum_by-cons}
use Rattle.raw_mesh.specs.Mesh.{pieces, Ascend}
use Rattle.raw_mesh.specs.Parts.{runs_of}
use Rattle.raw_mesh.specs.Starts.{starts_from}
use Rattle.raw_mesh.proofs.PiecesLemmas.{join-cons}

pub sum-cons : (x : ℕ) (xs : List ℕ) → sum (x ∷ xs) ≡ x + sum xs
sum-cons x xs = sum_by-cons (λ n. n) x xs

-- the places where faces begin ascend to the end of the last face
pub ascend-starts : (place : ℕ) (sizes : List ℕ) (end : ℕ) → end ≡ place + sum sizes → Ascend (starts_from place sizes) end
ascend-starts place [] end e = omega (arith, e)
ascend-starts place (size ∷ []) end e = (omega arith, ascend-starts (place + size) [] end (omega (arith, e, sum-cons size [])))
ascend-starts place (size ∷ (next ∷ sizes)) end e =
    (omega arith, ascend-starts (place + size) (next ∷ sizes) end (omega (arith, e, sum-cons size (next ∷ sizes))))

pub length-starts : (place : ℕ) (sizes : List ℕ) → length (starts_from place sizes) ≡ length sizes + 1
length-starts place [] = refl
length-starts place (size ∷ sizes) = omega (arith, length-starts (place + size) sizes)

-- the pieces between them are the runs of these sizes
pub pieces-starts : (place : ℕ) (sizes xs : List ℕ) → pieces (starts_from place sizes) xs ≡ runs_of sizes (drop place xs)
pieces-starts place [] xs = refl
pieces-starts place (size ∷ sizes) xs = by sizes (pieces-starts (place + size) sizes xs)
  where
    run : (place + size) - place ≡ size
    run = omega arith

    rest : drop (place + size) xs ≡ drop size (drop place xs)
    rest = sym (drop-drop size place xs)

    by : (left : List ℕ) → pieces (starts_from (place + size) left) xs ≡ runs_of left (drop (place + size) xs)
        → pieces (starts_from place (size ∷ left)) xs ≡ runs_of (size ∷ left) (drop place xs)
    by [] e = join-cons (ap (λ n. take n (drop place xs)) run) (e ∙ ap (runs_of []) rest)
    by (next ∷ left) e = join-cons (ap (λ n. take n (drop place xs)) run) (e ∙ ap (runs_of (next ∷ left)) rest)

-- One more place precedes those of the rest.
pub starts-more : (starts : List ℕ) (place size : ℕ) (sizes all : List ℕ) → starts ++ starts_from place (size ∷ sizes) ≡ all
    → (starts ++ place ∷ []) ++ starts_from (place + size) sizes ≡ all
starts-more starts place size sizes all e = append_assoc starts (place ∷ []) (starts_from (place + size) sizes) ∙ e
