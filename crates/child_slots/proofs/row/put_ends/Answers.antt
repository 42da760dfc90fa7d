use Rattle.child_slots.specs.Slotted.{end_in}
use Rattle.child_slots.proofs.ChildNumberLemmas.{mapped-all}
use Rattle.child_slots.proofs.row.put_ends.Goals as goal
use Rattle.level_topology.proofs.ListPlaceLemmas.{mapped-more}

pub end_at-requires : goal.end_at-requires
end_at-requires c = c.requires.inside c.loop-i.i 0 c.loop-i-test.true

pub loop-i-preserved : goal.loop-i-preserved
loop-i-preserved c = mapped-more (end_in c.args.edges.now.ends c.args.point) c.args.list.now c.loop-i.ends.items c.push.new.self.items c.loop-i.i c.end_at.result c.loop-i-test.true c.loop-i.invariant c.in_ok-push.ensures.items c.end_at.ensures

pub returns : goal.returns
returns c = mapped-all (end_in c.args.edges.now.ends c.args.point) c.args.list.now c.loop-i.ends.items c.loop-i.i c.loop-i-test.false c.loop-i.invariant
