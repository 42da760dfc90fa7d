use Rattle.std.proofs.Common.{◌≡◌, ℕ, ◌+◌, ◌-◌, ◌<◌, length, map, take, drop, arith, refl, sym, ◌∙◌, subst}
use Rattle.std.proofs.lemmas.List.{length-set}
use Rattle.ratio128.specs.Numbers.{zeros}
use Rattle.std.specs.List.{All}
use Rattle.stencil_apply.specs.Table.{entries_of, row_at, sum_of_row}
use Rattle.stencil_apply.proofs.RangeLemmas.{row-more, done-next, rest-next}
use Rattle.stencil_apply.proofs.apply.apply_range.Goals as goal

pub loop-k-init : goal.loop-k-init
loop-k-init g c = record {
  done = λ k d below. absurd (omega (arith, below));
  rest = λ k d h. refl;
  len = refl;
  taken = omega arith;
}

pub sum_at-requires-clause-inside : goal.sum_at-requires-clause-inside
sum_at-requires-clause-inside g c = omega (arith, c.loop-k-test.true, c.requires.forward, c.requires.inside, c.requires.places)

pub sum_at-requires-clause-controls : goal.sum_at-requires-clause-controls
sum_at-requires-clause-controls g c = c.requires.controls

pub sum_at-requires-clause-same_length : goal.sum_at-requires-clause-same_length
sum_at-requires-clause-same_length g c =
    let here = c.loop-k.invariant.rest c.loop-k.k c.index-out-k.result (omega arith) in
    subst (λ place. All (λ control. length (g.P.Primvar.numbers control) ≡ length (g.P.Primvar.numbers place)) c.args.controls.now) (sym here)
    (c.requires.same_length c.loop-k.k c.index-out-k.result c.loop-k-test.true)

pub sum_at-requires-clause-fits : goal.sum_at-requires-clause-fits
sum_at-requires-clause-fits g c = c.requires.fits

pub loop-k-preserved : goal.loop-k-preserved
loop-k-preserved g c =
    let numbers = g.P.Primvar.numbers in
    let table = c.args.table.now in
    let inside : c.loop-k.k < length c.loop-k.out = omega (arith, c.loop-k-test.true, c.loop-k.invariant.len) in
    let there : c.args.from + c.loop-k.k < length table.rows = omega (arith, c.loop-k-test.true, c.requires.forward, c.requires.inside, c.requires.places) in
    let sums = λ (k : ℕ) (place : g.row.P.Denot). sum_of_row (zeros (numbers place)) (map numbers c.args.controls.now) (row_at table (c.args.from + k)) in
    record {
      done = done-next numbers sums c.args.out.now c.loop-k.out c.loop-k.k c.sum_at.result inside c.loop-k.invariant.rest c.loop-k.invariant.done c.index-out-k.result c.sum_at.ensures.sum;
      rest = rest-next numbers sums c.args.out.now c.loop-k.out c.loop-k.k c.sum_at.result inside c.loop-k.invariant.rest;
      len = length-set c.loop-k.out c.loop-k.k c.sum_at.result ∙ c.loop-k.invariant.len;
      taken = omega (arith, c.sum_at.ensures.steps, c.loop-k.invariant.taken, row-more table c.args.from c.loop-k.k there);
    }

pub returns-clause-sums : goal.returns-clause-sums
returns-clause-sums g c k d below = c.loop-k.invariant.done k d (omega (arith, below, c.loop-k-test.false))

pub returns-clause-len : goal.returns-clause-len
returns-clause-len g c = c.loop-k.invariant.len

pub returns-clause-steps : goal.returns-clause-steps
returns-clause-steps g c =
    let end : c.loop-k.k ≡ c.args.to - c.args.from = omega (arith, c.loop-k-test.false, c.loop-k.auto.k-end, c.requires.places) in
    subst (λ n. c.loop-k.steps ≡ c.args.steps.now + entries_of (take n (drop c.args.from c.args.table.now.rows))) end c.loop-k.invariant.taken
