-- The points of a level on which nothing is sharp.
use Rattle.std.proofs.Common.{◌≡◌, ℕ, suc, ◌<◌, true, false, cond, ◌||◌, nat_eq, if◌then◌else◌, List, [], ◌∷◌, length, map, get_or, Result, OnOk, IsTrue, arith, refl, ap, sym, subst, ◌∙◌}
use Rattle.std.specs.List.{filter, list_any}
use Rattle.std.proofs.lemmas.Bool.Decides.{nat_tests}
use Rattle.subdiv_model.specs.Sharpness.{Sharpness, Smooth, is_semi_sharp}
use Rattle.subdiv_model.specs.Level.{Level}
use Rattle.subdiv_model.specs.Feature.{is_infinite}
use Rattle.subdiv_model.specs.Mask.{Mask}
use Rattle.subdiv_model.specs.Limit.{has_quads, limit_of, cause_of_limit}
use Rattle.mask_laws.specs.SharpBoundary.{has_sharp_boundary}
use Rattle.ratio128.specs.declared.memory.Memory.{Memory}
use Rattle.level_topology.specs.Topology.{Topology, IsTopology}
use Rattle.level_topology.proofs.LawLemmas.{edges-each}
use Rattle.mask_rules.specs.Around.{end_of_edge, ends_in, ring_in}
use Rattle.limit_stencils.specs.declared.lasting.LastingRule.TheVariants.{Smooth as SmoothRule, Corner}
use Rattle.limit_stencils.specs.AtVertex.{opposites_in, lasting_ends, rule_of_ends, rule_in, is_semi_in, limit_by_rule, limit_in, smooth_weights, weights_by_rule}
use Rattle.limit_stencils.specs.Limits.{HasLimits}
use Rattle.limit_stencils.specs.Smooth.{IsSmooth}
use Rattle.limit_stencils.proofs.OrderLemmas.{same-limit}
use Rattle.limit_stencils.proofs.CauseLemmas.{none-found, same-causes}

-- The items of a list are smooth.
module _ (sharpness : ℕ → Sharpness) where
  AreSmooth : List ℕ → Type 0
  AreSmooth [] = Unit {0}
  AreSmooth (e ∷ items) = (sharpness e ≡ Smooth) × AreSmooth items

  are-smooth : (items : List ℕ) → ((k : ℕ) → k < length items → sharpness (get_or items k 0) ≡ Smooth) → AreSmooth items
  unfolding AreSmooth
  are-smooth [] each = tt
  are-smooth (e ∷ items) each = (each 0 (omega arith), are-smooth items (λ k inside. each (suc k) (omega arith)))

  none-semi : (items : List ℕ) → AreSmooth items → list_any is_semi_sharp (map sharpness items) ≡ false
  unfolding AreSmooth
  none-semi [] smooth = refl
  none-semi (e ∷ items) smooth =
      ap (λ s. is_semi_sharp s || list_any is_semi_sharp (map sharpness items)) smooth.0 ∙ none-semi items smooth.1

  none-infinite : (items : List ℕ) → AreSmooth items → filter (λ e. is_infinite (sharpness e)) items ≡ []
  unfolding AreSmooth
  none-infinite [] smooth = refl
  none-infinite (e ∷ items) smooth =
      let rest = filter (λ e. is_infinite (sharpness e)) items in
      ap (λ s. cond (is_infinite s) (e ∷ rest) rest) smooth.0 ∙ none-infinite items smooth.1

module _ (t : Topology) (is : IsTopology t) (smooth : IsSmooth t) (v : ℕ) (inside : v < t.level.point_count) where
  abbrev level : Level
  level = t.level

  abbrev items : List ℕ
  items = get_or t.edges_at v []

  abbrev sharpness : ℕ → Sharpness
  sharpness e = get_or level.edge_sharpness e Smooth

  smooth-items : AreSmooth sharpness items
  smooth-items = are-smooth sharpness items (λ k there. smooth.edges (get_or items k 0) (edges-each t v k is inside there).exists)

  smooth-rule : rule_in t v ≡ SmoothRule
  smooth-rule =
      let at = smooth.points v inside in
      let count : nat_eq (length items) 0 ≡ false = some (length items) at.edge in
      ap (λ s. if is_infinite s || nat_eq (length items) 0 then Corner else rule_of_ends (lasting_ends level v items)) at.point
      ∙ ap (λ b. if b then Corner else rule_of_ends (lasting_ends level v items)) count
      ∙ ap (λ es. rule_of_ends (map (end_of_edge level.polygons v) es)) (none-infinite sharpness items smooth-items)
    where
      some : (n : ℕ) → 0 < n → nat_eq n 0 ≡ false
      some n h = grind (arith, nat_tests)

  not-semi : is_semi_in t v ≡ false
  not-semi =
      ap (λ s. is_semi_sharp s || list_any is_semi_sharp (ring_in t v)) (smooth.points v inside).point
      ∙ none-semi sharpness items smooth-items

  no-cause : cause_of_limit (limit_of level v) ≡ []
  no-cause =
      same-causes (limit_of level v) (limit_in t v) (same-limit t v is inside)
      ∙ ap (λ semi. cause_of_limit (limit_by_rule v (ends_in t v) (opposites_in t v) semi (rule_in t v))) not-semi
      ∙ ap (λ rule. cause_of_limit (limit_by_rule v (ends_in t v) (opposites_in t v) false rule)) smooth-rule

-- the weights of a smooth vertex are those by its rule
pub smooth-put : (t : Topology) (v : ℕ) (put : Mask) (result : Result (Unit {0}) Memory) → IsTopology t → IsSmooth t → v < t.level.point_count
    → OnOk result (put ≡ smooth_weights t v)
    → OnOk result (put ≡ weights_by_rule t v (rule_in t v))
smooth-put t v put result is smooth inside made =
    subst (λ rule. OnOk result (put ≡ weights_by_rule t v rule)) (sym (smooth-rule t is smooth v inside)) made

-- each point of a smooth level has a limit mask
pub smooth-limits : (t : Topology) → IsTopology t → has_quads t.level ≡ true → IsTrue (has_sharp_boundary t.level) → IsSmooth t → HasLimits t.level
smooth-limits t is quads boundary smooth = record {
  quads = quads;
  fine = none-found t.level t.level.point_count (omega arith) (λ v inside. no-cause t is smooth v inside);
  boundary = boundary;
}
