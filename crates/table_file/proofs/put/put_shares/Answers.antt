use Rattle.std.specs.List.{zip}
use Rattle.obj_out.proofs.PutsLemmas.{puts-next, puts-stop, puts-same}
use Rattle.number_width.specs.Numbers.{numbers_in}
use Rattle.table_file.specs.Shares.{share_text}
use Rattle.table_file.proofs.LineLemmas.{within-shares, share-at, all-shares}
use Rattle.table_file.proofs.put.put_shares.Goals as goal

pub returns-in_err-put_share : goal.returns-in_err-put_share
returns-in_err-put_share g c =
    puts-stop share_text (zip c.args.indices.now (numbers_in c.args.numerators.now))
    c.loop-at.at _ (within-shares _ _ _ c.requires.equal c.loop-at-test.true) c.from_residual.ensures.0 c.loop-at.invariant
    (puts-same (share-at c.args.indices.now (numbers_in c.args.numerators.now) c.loop-at.at _ _ _ c.requires.equal
    c.loop-at-test.true c.get.ensures) c.in_err-put_share.ensures)

pub loop-at-preserved : goal.loop-at-preserved
loop-at-preserved g c =
    puts-next share_text (zip c.args.indices.now (numbers_in c.args.numerators.now))
    c.loop-at.at _ (within-shares _ _ _ c.requires.equal c.loop-at-test.true) c.loop-at.invariant
    (puts-same (share-at c.args.indices.now (numbers_in c.args.numerators.now) c.loop-at.at _ _ _ c.requires.equal
    c.loop-at-test.true c.get.ensures) c.in_ok-put_share.ensures)

pub returns : goal.returns
returns g c =
    puts-same (all-shares c.args.indices.now (numbers_in c.args.numerators.now) c.loop-at.at c.loop-at-test.false) c.loop-at.invariant
