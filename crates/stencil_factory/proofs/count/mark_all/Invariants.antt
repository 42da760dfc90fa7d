use Rattle.std.proofs.Common.{◌≡◌, ◌+◌, ◌<◌, length, nat_eq}
use Rattle.std.specs.List.{All, count_by}
use Rattle.stencil_factory.specs.Marks.{marked_all}
use Rattle.stencil_factory.proofs.count.mark_all.Given as goal

-- Writing the remaining marks gives the same as writing all of them. `fresh` counts the marks that changed.
abbrev pub invariant-loop-rest : goal.invariant-loop-rest
invariant-loop-rest l = record {
  all : marked_all l.mark l.rest l.marks.items ≡ marked_all l.mark l.places l.fn.marks.items;
  inside : All (λ place. place < length l.marks.items) l.rest;
  fresh : l.fresh + count_by (nat_eq l.mark) l.fn.marks.items ≡ count_by (nat_eq l.mark) l.marks.items;
}

abbrev pub decreases-loop-rest : goal.decreases-loop-rest
decreases-loop-rest l = length l.rest
