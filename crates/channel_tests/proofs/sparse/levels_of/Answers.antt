use Rattle.channel_tests.proofs.sparse.levels_of.Goals as goal

pub sparse_levels-requires-clause-base : goal.sparse_levels-requires-clause-base
sparse_levels-requires-clause-base g c =
    let base = c.in_ok-level.ensures.base in
    record { complete = base.complete; boundary = base.boundary }
