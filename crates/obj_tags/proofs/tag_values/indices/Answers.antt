use Rattle.std.proofs.Common.{◌<◌, ◌-◌, ◌++◌, length, map, take, rules, arith, ap, sym, ◌∙◌}
use Rattle.obj_tags.specs.View.{cause_of}
use Rattle.std.proofs.lemmas.List.{length_push}
use Rattle.obj_tags.specs.TagView.{index_said}
use Rattle.obj_tags.specs.Walk.{words_left}
use Rattle.obj_tags.proofs.WalkLemmas.{taken-cause, taken-some, taken-found, taken-rest, taken-inside}
use Rattle.subdiv_model.specs.ObjTag.{tag_index_fault}
use Rattle.obj_tags.proofs.tag_values.indices.Goals as goal

pub loop-left-preserved : goal.loop-left-preserved
loop-left-preserved c =
    let some : 0 < c.loop-left.left = omega (arith, c.loop-left-test.true) in
    let left = words_left c.loop-left.words in
    let next = words_left c.next_word.new.words in
    let word = c.in-Some.word.now in
    let read = c.in_ok-tag_index.ensures.index in
    record {
      fault = taken-cause (tag_index_fault c.args.all) c.loop-left.left word left next some c.in-Some.ensures read.0 ∙ c.loop-left.invariant.fault;
      found =
          ap (λ xs. xs ++ map index_said (take (c.loop-left.left - 1) next)) c.in_ok-push.ensures.items
          ∙ taken-found index_said c.loop-left.left word left next c.loop-left.found.items c.in_ok-tag_index.field-0 some c.in-Some.ensures read.1
          ∙ c.loop-left.invariant.found;
      rest = taken-rest c.loop-left.left word left next some c.in-Some.ensures ∙ c.loop-left.invariant.rest;
      count = omega (arith, some, c.loop-left.invariant.count, ap length c.in_ok-push.ensures.items, length_push c.loop-left.found.items c.in_ok-tag_index.field-0);
      inside = taken-inside c.loop-left.left word left next c.loop-left.invariant.inside c.in-Some.ensures;
    }

pub returns-in_err-tag_index-clause-found : goal.returns-in_err-tag_index-clause-found
returns-in_err-tag_index-clause-found c =
    let some : 0 < c.loop-left.left = omega (arith, c.loop-left-test.true) in
    let total = sym c.loop-left.invariant.fault ∙ taken-some (tag_index_fault c.args.all) c.loop-left.left c.in-Some.word.now (words_left c.loop-left.words) (words_left c.next_word.new.words) (cause_of c.in_err-tag_index.field-0.0) some c.in-Some.ensures c.in_err-tag_index.ensures.index in
    rw total (search rules)
