-- The terms of a vertex: by one rule, and by two rules that each have a share. They are the vertex, the other end of each
-- edge, and each face.
use Rattle.std.specs.Prelude.{ℕ, ◌<◌, ◌+◌, ◌-◌, ◌*◌, ◌||◌, nat_eq, nat_lt, if◌then◌else◌, List, [], ◌∷◌, ◌++◌, length}
use Rattle.std.specs.List.{filter}
use Rattle.subdiv_model.specs.Rule.{Rule, SmoothRule, DartRule, CreaseRule, CornerRule}
use Rattle.subdiv_model.specs.Mask.{Term, Mask, OfPoint, weigh, weigh_faces}

-- the weight of a vertex with this many edges
abbrev pub vertex_weight : Rule → ℕ → ℕ
vertex_weight SmoothRule n = n * (n - 2)
vertex_weight DartRule n = n * (n - 2)
vertex_weight (CreaseRule first second) n = 6
vertex_weight CornerRule n = 1

-- the weight of the other end of the edge at a place of the ring
abbrev pub end_weight : Rule → ℕ → ℕ
end_weight SmoothRule place = 1
end_weight DartRule place = 1
end_weight (CreaseRule first second) place = if nat_eq place first || nat_eq place second then 1 else 0
end_weight CornerRule place = 0

abbrev pub face_weight : Rule → ℕ
face_weight SmoothRule = 1
face_weight DartRule = 1
face_weight (CreaseRule first second) = 0
face_weight CornerRule = 0

abbrev pub rule_denominator : Rule → ℕ → ℕ
rule_denominator SmoothRule n = n * n
rule_denominator DartRule n = n * n
rule_denominator (CreaseRule first second) n = 8
rule_denominator CornerRule n = 1

-- the ends from a place on, each with the weight of its place
abbrev pub end_terms : (ℕ → ℕ) → ℕ → List ℕ → List Term
end_terms weight place [] = []
end_terms weight place (v ∷ ends) = weigh (weight place) (OfPoint v) ∷ end_terms weight (place + 1) ends

-- the terms without those of weight 0
abbrev pub positive : List Term → List Term
positive terms = filter (λ t. nat_lt 0 t.weight) terms

abbrev pub terms_around : ℕ → (ℕ → ℕ) → ℕ → ℕ → List ℕ → List ℕ → List Term
terms_around own weight face v ends faces = weigh own (OfPoint v) ∷ (end_terms weight 0 ends ++ weigh_faces face faces)

-- `by` times the weight of an end by one rule, and `rest` times that by another
abbrev pub end_share : Rule → Rule → ℕ → ℕ → ℕ → ℕ
end_share parent child by rest place = by * end_weight parent place + rest * end_weight child place

-- `by` times the weights by one rule, and `rest` times those by another
abbrev pub spread_terms : Rule → Rule → ℕ → ℕ → ℕ → List ℕ → List ℕ → List Term
spread_terms parent child by rest v ends faces =
    terms_around (by * vertex_weight parent (length ends) + rest * vertex_weight child (length ends))
    (end_share parent child by rest)
    (by * face_weight parent + rest * face_weight child) v ends faces

abbrev pub spread_mask : Rule → Rule → ℕ → ℕ → ℕ → ℕ → List ℕ → List ℕ → Mask
spread_mask parent child by rest denominator v ends faces = record {
  terms = positive (spread_terms parent child by rest v ends faces);
  denominator = denominator;
}

-- a rule fits a vertex with this many edges: all rules but a corner need an edge, and a crease names two
abbrev pub IsRuleAmong : Rule → ℕ → Type 0
IsRuleAmong SmoothRule n = 0 < n
IsRuleAmong DartRule n = 0 < n
IsRuleAmong (CreaseRule first second) n = (first < second) × (second < n)
IsRuleAmong CornerRule n = Unit {0}
