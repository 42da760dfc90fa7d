use Rattle.std.proofs.Common.{◌∙◌, ap, length, nat_eq, slice_set}
use Rattle.std.specs.List.{position_or_len}
use Rattle.std.proofs.lemmas.List.{length-set}
use Rattle.level_builder.specs.Keys.{is_unmarked}
use Rattle.mesh_check.proofs.NamedLemmas.{named-put, named-end, words-behind}
use Rattle.mesh_check.proofs.once.new_sides.Goals as goal

pub loop-rest-preserved : goal.loop-rest-preserved
loop-rest-preserved c =
    let keys = c.args.keys.now in
    let marks = c.loop-rest.marks.items in
    record {
      found = named-put keys marks c.loop-rest.rest.now _ _ _ _ _ _ c.requires.once c.loop-rest.invariant.size c.loop-rest.invariant.words c.in-len1-up.len_at_least
          (c.is_new-new.ensures.new ∙ ap (is_unmarked keys marks) c.edge_key.ensures.key)
          (c.is_new-new.ensures.marks ∙ ap (λ k. slice_set marks (position_or_len (nat_eq k) keys) 1) c.edge_key.ensures.key)
          c.in_ok-put_if.ensures c.loop-rest.invariant.found;
      size = ap length c.is_new-new.ensures.marks ∙ length-set _ _ _ ∙ c.loop-rest.invariant.size;
      words = words-behind c.loop-rest.rest.now (0, 0) c.in-len1-up.len_at_least c.loop-rest.invariant.words;
    }

pub returns : goal.returns
returns c = named-end c.args.keys.now c.loop-rest.marks.items c.loop-rest.rest.now _ _ c.in_default.len_below c.loop-rest.invariant.found
