use Rattle.std.proofs.Common.{◌≡◌, Err, rules, subst, sym}
use Rattle.far_io.specs.declared.source.InputFault.TheVariants.{Memory}
use Rattle.far_io.specs.Reads.{HasRead}
use Rattle.far_io.proofs.BytesLemmas.{Took-more}
use Rattle.far_io.proofs.source.read_into.Goals as goal

pub loop-preserved : goal.loop-preserved
loop-preserved g c =
    let taken = Took-more _ _ _ _ _ c.loop.invariant.taken c.in_ok-n.ensures.taken in
    record { taken = search (rules, taken); within = search rules; turns = search rules; later = search rules }

pub returns-then-is_long-clause-read : goal.returns-then-is_long-clause-read
returns-then-is_long-clause-read g c =
    let taken = Took-more _ _ _ _ _ c.loop.invariant.taken c.in_ok-n.ensures.taken in
    (search (rules, taken), search rules)

-- what was kept, and the piece that memory was wanting for
pub returns-in_err-extend_from_slice-clause-read : goal.returns-in_err-extend_from_slice-clause-read
returns-in_err-extend_from_slice-clause-read g c =
    let memory : c.from_residual-in_err-extend_from_slice.result ≡ Err Memory = search rules in
    subst (λ r. HasRead r c.args.bound (g.S.Source.left c.args.source.now) (g.S.Source.left c.read_piece.new.source) c.extend_from_slice.new.self.items) (sym memory)
    (_, Took-more _ _ _ _ _ c.loop.invariant.taken c.in_ok-n.ensures.taken)
