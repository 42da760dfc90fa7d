-- The limit mask of a point of a level of quads, from its edges and quads in the order of the level's lists.
use Rattle.std.specs.Prelude.{◌≡◌, ℕ, ◌+◌, ◌*◌, ◌%◌, Bool, ◌||◌, nat_eq, if◌then◌else◌, List, [], ◌∷◌, ◌++◌, length, map, get_or, Some, Result, Ok, Err, MatchResult}
use Rattle.std.specs.List.{filter, flat_map}
use Rattle.subdiv_model.specs.Lists.{first_of}
use Rattle.subdiv_model.specs.Polygons.{Polygon, polygon_at}
use Rattle.subdiv_model.specs.Sharpness.{Smooth}
use Rattle.subdiv_model.specs.Level.{Level, vertex_sharpness_of}
use Rattle.subdiv_model.specs.Feature.{is_infinite}
use Rattle.subdiv_model.specs.Mask.{Term, Mask, OfPoint, weigh, weigh_points, corner_mask}
use Rattle.subdiv_model.specs.Fault as model
use Rattle.subdiv_model.specs.Fault.{LimitCause}
use Rattle.subdiv_model.specs.Limit.{opposite_corner, has_semi_sharp, smooth_limit_mask, crease_limit_mask, unless_semi_sharp}
use Rattle.sharpness_laws.specs.SameWeights.{HaveSameWeights}
use Rattle.level_topology.specs.Topology.{Topology, corner_of}
use Rattle.mask_rules.specs.Around.{end_of_edge, ends_in, faces_in, ring_in}
use Rattle.limit_stencils.specs.declared.lasting.LastingRule.{LastingRule}
use Rattle.limit_stencils.specs.declared.lasting.LastingRule.TheVariants.{Smooth as SmoothRule, Dart, Crease, Corner}
use Rattle.limit_stencils.specs.declared.fault.QuadFault.{QuadFault}
use Rattle.limit_stencils.specs.declared.fault.QuadFault.TheVariants as fault

-- the opposite corners of the quads at a vertex
abbrev pub opposites_in : Topology → ℕ → List ℕ
opposites_in t v = map (λ face. opposite_corner v (polygon_at t.level.polygons face)) (faces_in t v)

-- the other ends of those edges of a list that are infinitely sharp
abbrev pub lasting_ends : Level → ℕ → List ℕ → List ℕ
lasting_ends level v edges = map (end_of_edge level.polygons v) (filter (λ e. is_infinite (get_or level.edge_sharpness e Smooth)) edges)

-- the rule of a vertex that has edges, from the other ends of its infinitely sharp edges
abbrev pub rule_of_ends : List ℕ → LastingRule
rule_of_ends [] = SmoothRule
rule_of_ends (first ∷ []) = Dart first
rule_of_ends (first ∷ (second ∷ [])) = Crease first second
rule_of_ends (first ∷ (second ∷ (third ∷ more))) = Corner

-- the rule after one more infinitely sharp edge
abbrev pub with_end : ℕ → LastingRule → LastingRule
with_end end SmoothRule = Dart end
with_end end (Dart first) = Crease first end
with_end end (Crease first second) = Corner
with_end end Corner = Corner

-- the rule of a vertex by its edges
abbrev pub rule_of_edges : Topology → ℕ → LastingRule
rule_of_edges t v = rule_of_ends (lasting_ends t.level v (get_or t.edges_at v []))

-- the rule of a vertex
abbrev pub rule_in : Topology → ℕ → LastingRule
rule_in t v =
    if is_infinite (vertex_sharpness_of t.level v) || nat_eq (length (get_or t.edges_at v [])) 0 then Corner else rule_of_edges t v

-- whether the vertex or one of its edges is semi-sharp
abbrev pub is_semi_in : Topology → ℕ → Bool
is_semi_in t v = has_semi_sharp (vertex_sharpness_of t.level v) (ring_in t v)

-- the limit mask of a vertex by its rule, or the cause that keeps the vertex from one
abbrev pub limit_by_rule : ℕ → List ℕ → List ℕ → Bool → LastingRule → Result Mask LimitCause
limit_by_rule v ends opposites semi SmoothRule = unless_semi_sharp v semi (Ok (smooth_limit_mask v ends opposites))
limit_by_rule v ends opposites semi (Dart end) = unless_semi_sharp v semi (Err (model.Dart v))
limit_by_rule v ends opposites semi (Crease first second) = unless_semi_sharp v semi (Ok (crease_limit_mask v first second))
limit_by_rule v ends opposites semi Corner = Ok (corner_mask v)

-- the limit mask, or the cause that keeps the vertex from one
abbrev pub limit_in : Topology → ℕ → Result Mask LimitCause
limit_in t v = limit_by_rule v (ends_in t v) (opposites_in t v) (is_semi_in t v) (rule_in t v)

-- the same cause, or masks with the same weights
abbrev pub IsSameLimit : Result Mask LimitCause → Result Mask LimitCause → Type 0
IsSameLimit (Ok mask) (Ok other) = HaveSameWeights mask other
IsSameLimit (Ok mask) (Err cause) = ⊥
IsSameLimit (Err cause) (Ok mask) = ⊥
IsSameLimit (Err cause) (Err other) = cause ≡ other

-- the terms of one quad at a vertex: the next corner and the opposite corner, from the place of the vertex among the corners
abbrev pub quad_terms : Polygon → ℕ → List Term
quad_terms quad place = weigh 4 (OfPoint (get_or quad ((place + 1) % 4) 0)) ∷ (weigh 1 (OfPoint (get_or quad ((place + 2) % 4) 0)) ∷ [])

-- the terms of one face at a vertex
abbrev pub face_terms : List Polygon → ℕ → ℕ → List Term
face_terms polygons v face = quad_terms (polygon_at polygons face) (corner_of polygons v face)

-- the terms of a smooth vertex, one quad after another
abbrev pub smooth_weights : Topology → ℕ → Mask
smooth_weights t v =
    let n = length (ends_in t v) in
    record { terms = weigh (n * n) (OfPoint v) ∷ flat_map (face_terms t.level.polygons v) (faces_in t v); denominator = n * (n + 5) }

-- the terms of a vertex by its rule, over the denominator of that rule
abbrev pub weights_by_rule : Topology → ℕ → LastingRule → Mask
weights_by_rule t v SmoothRule = smooth_weights t v
weights_by_rule t v (Dart end) = smooth_weights t v
weights_by_rule t v (Crease first second) =
    record { terms = weigh 4 (OfPoint v) ∷ weigh_points 1 (first ∷ second ∷ []); denominator = 6 }
weights_by_rule t v Corner = record { terms = weigh 1 (OfPoint v) ∷ []; denominator = 1 }

-- the mask with these terms added
abbrev pub with_terms : Mask → List Term → Mask
with_terms weights terms = record { terms = weights.terms ++ terms; denominator = weights.denominator }

-- the fault is the first of the causes
abbrev pub IsFirstCause : List LimitCause → QuadFault → Type 0
IsFirstCause causes (fault.Dart v) = first_of causes ≡ Some (model.Dart v)
IsFirstCause causes (fault.SemiSharp v) = first_of causes ≡ Some (model.SemiSharp v)
IsFirstCause causes (fault.Denominator v) = ⊥
IsFirstCause causes fault.TooManyEntries = ⊥
IsFirstCause causes fault.Memory = ⊥

-- there is no cause, or the fault is the first of them
abbrev pub IsTested : List LimitCause → Result (Unit {0}) QuadFault → Type 0
IsTested causes result = MatchResult result (λ _. causes ≡ []) (IsFirstCause causes)
