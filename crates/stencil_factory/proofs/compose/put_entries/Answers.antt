use Rattle.std.proofs.Common.{◌≡◌, ◌-◌, List, ap, arith, subst, sym, ◌∙◌, map, length}
use Rattle.std.specs.List.{zip}
use Rattle.std.proofs.lemmas.Result.{on_ok_weaker}
use Rattle.std.proofs.lemmas.List.{length-map}
use Rattle.stencil_apply.specs.Table.{Share, IsRow}
use Rattle.stencil_apply.specs.Built.{with_row}
use Rattle.place_sums.proofs.PairLemmas.{zip-parts, parts-count}
use Rattle.stencil_factory.proofs.compose.put_entries.Given as given
use Rattle.stencil_factory.proofs.compose.put_entries.Goals as goal

-- The places and numbers that the body reads are the entries.
read : (g : given.Over) (c : goal.After-numerators g) → zip c.indices.result.now (map g.T.Natural.value c.numerators.result.now) ≡ c.args.entries.now
read g c = zip-parts c.args.entries.now c.indices.result.now (map g.T.Natural.value c.numerators.result.now) c.indices.ensures c.numerators.ensures

pub add_parts-requires-clause-row : goal.add_parts-requires-clause-row
add_parts-requires-clause-row g c =
    subst (λ (shares : List Share). IsRow c.args.builder.now.table.controls (record { den = c.args.den; shares = shares })) (sym (read g c)) c.requires.row

pub add_parts-requires-clause-entries : goal.add_parts-requires-clause-entries
add_parts-requires-clause-entries g c =
    omega (arith, c.requires.entries, parts-count c.args.entries.now c.indices.result.now (map g.T.Natural.value c.numerators.result.now) c.indices.ensures c.numerators.ensures, ap length (read g c))

pub returns-clause-added : goal.returns-clause-added
returns-clause-added g c =
    on_ok_weaker c.add_parts.result
    (λ added. added ∙ ap (λ (shares : List Share). with_row (record { den = c.args.den; shares = shares }) c.args.builder.now.table)
    (zip-parts c.args.entries.now c.indices.result.now (map g.T.Natural.value c.numerators.result.now) c.indices.ensures c.numerators.ensures))
    c.add_parts.ensures.added

pub returns-clause-capacity : goal.returns-clause-capacity
returns-clause-capacity g c =
    on_ok_weaker c.add_parts.result
    (λ left. left ∙ ap (λ n. c.args.builder.now.room_entries - n) (ap length c.indices.ensures ∙ length-map c.args.entries.now (λ (share : Share). share.0)))
    c.add_parts.ensures.room_entries
