use Rattle.std.proofs.Common.{◌∙◌, ◌++◌, ◌∷◌, [], append_assoc, ap, sym, arith, map, List, ℕ}
use Rattle.std.specs.List.{range_with_len}
use Rattle.std.proofs.lemmas.List.{map_push}
use Rattle.std.proofs.lemmas.List.FromFn.{map-range_with_len_more}
use Rattle.level_topology.specs.ChildTables.{place_of}
use Rattle.uniform_refiner.proofs.origins.put_corners.Goals as goal

pub loop-c-preserved : goal.loop-c-preserved
loop-c-preserved c =
    let pair : ℕ → ℕ × ℕ = λ i. (c.args.f, i) in
    let old = map place_of c.args.places.now.items in
    ap (map place_of) c.in_ok-push.ensures.items ∙ map_push place_of c.loop-c.places.items (record { face = c.args.f; corner = c.loop-c.c })
    ∙ ap (λ (xs : List (ℕ × ℕ)). xs ++ pair c.loop-c.c ∷ []) c.loop-c.invariant
    ∙ append_assoc old (map pair (range_with_len 0 c.loop-c.c)) (pair c.loop-c.c ∷ [])
    ∙ ap (λ (ys : List (ℕ × ℕ)). old ++ ys) (sym (map-range_with_len_more pair 0 c.loop-c.c c.loop-c.c (omega arith)))
