-- The lasting rule and the semi-sharp elements, after one more edge.
use Rattle.std.proofs.Common.{◌≡◌, ℕ, ◌+◌, ◌<◌, Bool, true, false, cond, ◌||◌, if◌then◌else◌, List, [], ◌∷◌, ◌++◌, length, map, take, get_or, refl, ap, sym, ◌∙◌}
use Rattle.std.specs.List.{filter, list_any}
use Rattle.std.proofs.lemmas.List.{append-nil, map-append, take_more}
use Rattle.std.proofs.lemmas.List.Elements.{filter-append}
use Rattle.std.proofs.lemmas.List.Folds.{list_any-append}
use Rattle.subdiv_model.specs.Sharpness.{Sharpness, Smooth, is_semi_sharp}
use Rattle.subdiv_model.specs.Level.{Level}
use Rattle.subdiv_model.specs.Feature.{is_infinite}
use Rattle.mask_rules.specs.Around.{end_of_edge}
use Rattle.limit_stencils.specs.declared.lasting.LastingRule.{LastingRule}
use Rattle.limit_stencils.specs.AtVertex.{lasting_ends, rule_of_ends, with_end}

rule-more : (ends : List ℕ) (end : ℕ) → with_end end (rule_of_ends ends) ≡ rule_of_ends (ends ++ end ∷ [])
rule-more [] end = refl
rule-more (a ∷ []) end = refl
rule-more (a ∷ (b ∷ [])) end = refl
rule-more (a ∷ (b ∷ (c ∷ ends))) end = refl

module _ (level : Level) (v : ℕ) where
  is-sharp : ℕ → Bool
  is-sharp e = is_infinite (get_or level.edge_sharpness e Smooth)

  edge-more : (edges : List ℕ) (e : ℕ)
      → (if is-sharp e then with_end (end_of_edge level.polygons v e) (rule_of_ends (lasting_ends level v edges)) else rule_of_ends (lasting_ends level v edges))
      ≡ rule_of_ends (lasting_ends level v (edges ++ e ∷ []))
  unfolding is-sharp
  edge-more edges e =
      let test : ℕ → Bool = λ d. is_infinite (get_or level.edge_sharpness d Smooth) in
      let end = end_of_edge level.polygons v in
      let split : lasting_ends level v (edges ++ e ∷ []) ≡ lasting_ends level v edges ++ map end (filter test (e ∷ [])) =
      ap (map end) (filter-append test edges (e ∷ [])) ∙ map-append end (filter test edges) (filter test (e ∷ [])) in
      either (test e) ∙ ap rule_of_ends (sym split)
    where
      before : List ℕ
      before = lasting_ends level v edges

      either : (b : Bool) → (if b then with_end (end_of_edge level.polygons v e) (rule_of_ends before) else rule_of_ends before)
          ≡ rule_of_ends (before ++ map (end_of_edge level.polygons v) (cond b (e ∷ []) []))
      either true = rule-more before (end_of_edge level.polygons v e)
      either false = ap rule_of_ends (sym (append-nil before))

  pub edge-step : (edges : List ℕ) (i : ℕ) (now next : LastingRule) → i < length edges
      → now ≡ rule_of_ends (lasting_ends level v (take i edges))
      → next ≡ (if is_infinite (get_or level.edge_sharpness (get_or edges i 0) Smooth) then with_end (end_of_edge level.polygons v (get_or edges i 0)) now else now)
      → next ≡ rule_of_ends (lasting_ends level v (take (i + 1) edges))
  unfolding is-sharp
  edge-step edges i now next inside so_far made =
      let e = get_or edges i 0 in
      made
      ∙ ap (λ rule. if is_infinite (get_or level.edge_sharpness e Smooth) then with_end (end_of_edge level.polygons v e) rule else rule) so_far
      ∙ edge-more (take i edges) e
      ∙ ap (λ some. rule_of_ends (lasting_ends level v some)) (sym (take_more edges i 0 inside))

-- one more edge, by its sharpness
pub semi-step : (ring : List Sharpness) (i : ℕ) (s : Sharpness) (now next : Bool) → i < length ring → now ≡ list_any is_semi_sharp (take i ring)
    → s ≡ get_or ring i Smooth → next ≡ (now || is_semi_sharp s) → next ≡ list_any is_semi_sharp (take (i + 1) ring)
semi-step ring i s now next inside so_far here made =
    made ∙ ap (λ b. b || is_semi_sharp s) so_far ∙ ap (λ t. list_any is_semi_sharp (take i ring) || is_semi_sharp t) here
    ∙ ap (λ b. list_any is_semi_sharp (take i ring) || b) (sym (or-false (is_semi_sharp (get_or ring i Smooth))))
    ∙ sym (list_any-append is_semi_sharp (take i ring) (get_or ring i Smooth ∷ []))
    ∙ ap (list_any is_semi_sharp) (sym (take_more ring i Smooth inside))
  where
    or-false : (b : Bool) → (b || false) ≡ b
    or-false true = refl
    or-false false = refl
