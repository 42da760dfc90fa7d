-- The edges so far with the sides of one face more.
use Rattle.std.proofs.Common.{◌≡◌, ℕ, ◌+◌, ◌<◌, ◌≤◌, Bool, true, false, List, [], ◌∷◌, ◌++◌, length, take, get_or, slice_set, arith, refl, ap, sym, ◌∙◌, append_assoc}
use Rattle.std.specs.List.{list_any}
use Rattle.std.proofs.lemmas.List.{take_more}
use Rattle.subdiv_model.specs.Polygons.{Polygon, same_edge, sides_of}
use Rattle.subdiv_model.specs.Sharpness.{Sharpness, Smooth}
use Rattle.level_topology.specs.Numbering.{Numbered, numbered, number_in, named_with, with_side, with_sides}
use Rattle.level_builder.specs.NumberedEdges.{numbers_in, named_with_all}
use Rattle.level_topology.proofs.PlaceLemmas.{side-there}
use Rattle.level_topology.specs.Topology.{side_at}
use Rattle.level_laws.proofs.FaceLemmas.{sides_of-length}
use Rattle.level_builder.proofs.EdgeNumberLemmas.{named-length, numbers-push}

-- The effect of a side, for an edge that exists and for a new one.
pub known-side : (face : ℕ) (n : Numbered) (s : ℕ × ℕ) (e : ℕ) (pair : ℕ × ℕ) → list_any (same_edge s) n.ends ≡ true → e ≡ number_in n.ends s → pair ≡ get_or n.faces e (0, 0) → numbered n.ends (slice_set n.faces e (pair.0, face)) n.sharpness n.limit ≡ with_side face n s
known-side face n s e pair there number is = rw (there, is, number) refl

pub new-side : (face : ℕ) (n : Numbered) (s : ℕ × ℕ) → list_any (same_edge s) n.ends ≡ false → numbered (n.ends ++ s ∷ []) (n.faces ++ (face, face) ∷ []) (n.sharpness ++ Smooth ∷ []) n.limit ≡ with_side face n s
new-side face n s none = rw none refl

pub numbered-same : {ends ends' faces faces' : List (ℕ × ℕ)} {sharpness sharpness' : List Sharpness} {limit : ℕ} → ends ≡ ends' → faces ≡ faces' → sharpness ≡ sharpness' → numbered ends faces sharpness limit ≡ numbered ends' faces' sharpness' limit
numbered-same e f g = cc

-- the edges, and how many there may be, do not depend on the faces
pub sides-ends : (face : ℕ) (n : Numbered) (sides : List (ℕ × ℕ)) → (with_sides face n sides).ends ≡ named_with_all n.ends sides
sides-ends face n [] = refl
sides-ends face n (s ∷ sides) = sides-ends face (with_side face n s) sides ∙ ap (λ edges. named_with_all edges sides) (one (list_any (same_edge s) n.ends) refl)
  where
    one : (b : Bool) → list_any (same_edge s) n.ends ≡ b → (with_side face n s).ends ≡ named_with n.ends s
    one true e = rw e refl
    one false e = rw e refl

pub sides-limit : (face : ℕ) (n : Numbered) (sides : List (ℕ × ℕ)) → (with_sides face n sides).limit ≡ n.limit
sides-limit face n [] = refl
sides-limit face n (s ∷ sides) = sides-limit face (with_side face n s) sides ∙ one (list_any (same_edge s) n.ends) refl
  where
    one : (b : Bool) → list_any (same_edge s) n.ends ≡ b → (with_side face n s).limit ≡ n.limit
    one true e = rw e refl
    one false e = rw e refl

pub sides-push : (face : ℕ) (n : Numbered) (sides : List (ℕ × ℕ)) (s : ℕ × ℕ) → with_sides face n (sides ++ s ∷ []) ≡ with_side face (with_sides face n sides) s
sides-push face n [] s = refl
sides-push face n (t ∷ sides) s = sides-push face (with_side face n t) sides s

pub sides-length : (face : ℕ) (n : Numbered) (sides : List (ℕ × ℕ)) → length (with_sides face n sides).ends ≤ length n.ends + length sides
sides-length face n sides = rw (sides-ends face n sides) (named-length n.ends sides)

-- the sides of one corner more
pub sides-more : (face : ℕ) (n now next : Numbered) (polygon : Polygon) (c : ℕ) → c < length polygon → now ≡ with_sides face n (take c (sides_of polygon)) → next ≡ with_side face now (side_at polygon c) → next ≡ with_sides face n (take (c + 1) (sides_of polygon))
sides-more face n now next polygon c inside e f =
    let within : c < length (sides_of polygon) = omega (arith, inside, sides_of-length polygon) in
    f ∙ ap (λ m. with_side face m (side_at polygon c)) e ∙ sym (sides-push face n (take c (sides_of polygon)) (side_at polygon c))
    ∙ ap (λ s. with_sides face n (take c (sides_of polygon) ++ s ∷ [])) (sym (side-there polygon c inside))
    ∙ ap (with_sides face n) (sym (take_more (sides_of polygon) c (0, 0) within))

pub numbers-more : (face : ℕ) (n now : Numbered) (before old next : List ℕ) (polygon : Polygon) (c number : ℕ) → c < length polygon → now ≡ with_sides face n (take c (sides_of polygon)) → old ≡ before ++ numbers_in n.ends (take c (sides_of polygon)) → number ≡ number_in now.ends (side_at polygon c) → next ≡ old ++ number ∷ [] → next ≡ before ++ numbers_in n.ends (take (c + 1) (sides_of polygon))
numbers-more face n now before old next polygon c number inside e o h f =
    let sides = take c (sides_of polygon) in
    let within : c < length (sides_of polygon) = omega (arith, inside, sides_of-length polygon) in
    let ends : now.ends ≡ named_with_all n.ends sides = ap (λ (m : Numbered). m.ends) e ∙ sides-ends face n sides in
    let more : take (c + 1) (sides_of polygon) ≡ sides ++ side_at polygon c ∷ [] = take_more (sides_of polygon) c (0, 0) within ∙ ap (λ s. sides ++ s ∷ []) (side-there polygon c inside) in
    f ∙ ap (λ ns. ns ++ number ∷ []) o ∙ append_assoc before (numbers_in n.ends sides) (number ∷ [])
    ∙ ap (λ k. before ++ (numbers_in n.ends sides ++ k ∷ [])) (h ∙ ap (λ edges. number_in edges (side_at polygon c)) ends)
    ∙ sym (ap (λ ns. before ++ ns) (ap (numbers_in n.ends) more ∙ numbers-push n.ends sides (side_at polygon c)))
