use Rattle.stencil_session.proofs.LeastLemmas.{row-next, row-end}
use Rattle.stencil_session.proofs.tree.least_leaf.Goals as goal

pub loop-node-preserved : goal.loop-node-preserved
loop-node-preserved c =
    row-next c.args.leaves c.loop-node.node c.args.tree.now.items c.requires.tree c.loop-node-test.true c.loop-node.invariant c.least_child-node.result c.least_child-node.ensures

pub returns : goal.returns
returns c = row-end c.args.leaves c.loop-node.node c.args.tree.now.items c.requires.tree c.loop-node-test.false c.loop-node.invariant
