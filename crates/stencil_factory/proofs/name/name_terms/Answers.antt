use Rattle.std.proofs.Common.{◌∙◌}
use Rattle.stencil_factory.proofs.NameLemmas.{name-first, name-can, name-same}
use Rattle.stencil_factory.proofs.name.name_terms.Goals as goal

pub name_term-requires : goal.name_term-requires
name_term-requires c = name-first c.args.parent.now.level c.loop-rest.rest.now c.in-len1-up.len_at_least c.loop-rest.members c.loop-rest.invariant.can

pub loop-rest-preserved : goal.loop-rest-preserved
loop-rest-preserved c = record {
  can = name-can c.args.parent.now.level c.loop-rest.rest.now c.in-len1-up.len_at_least c.loop-rest.members c.loop-rest.invariant.can c.name_term.new.members c.in_ok-name_term.ensures;
  all =
      name-same c.args.parent.now.level c.loop-rest.rest.now c.in-len1-up.len_at_least c.loop-rest.members c.loop-rest.invariant.can c.name_term.new.members c.in_ok-name_term.ensures
      ∙ c.loop-rest.invariant.all;
}
