use Rattle.channel_tests.proofs.sparse.map_of.Goals as goal

pub map_sparse-requires-clause-base : goal.map_sparse-requires-clause-base
map_sparse-requires-clause-base g c =
    let base = c.in_ok-level.ensures.base in
    record { complete = base.complete; boundary = base.boundary }
