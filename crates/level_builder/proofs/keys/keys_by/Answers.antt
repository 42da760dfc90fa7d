use Rattle.std.proofs.Common.{refl, map}
use Rattle.level_builder.specs.Keys.{key_by}
use Rattle.level_builder.proofs.RestLemmas.{map-put, all-put, words-put, words-end}
use Rattle.level_builder.proofs.keys.keys_by.Goals as goal

pub loop-rest-preserved : goal.loop-rest-preserved
loop-rest-preserved c = record {
  keys = map-put (key_by c.args.directed) c.loop-rest.rest.now _ _ _ _ _ c.in-len1-up.len_at_least c.key_by.ensures.key c.in_ok-push.ensures.items c.loop-rest.invariant.keys;
  words = λ words. c.loop-rest.invariant.words (words-put c.loop-rest.rest.now _ c.in-len1-up.len_at_least c.key_by.ensures.word words);
}

pub returns-clause-keys : goal.returns-clause-keys
returns-clause-keys c = all-put (map (key_by c.args.directed)) c.loop-rest.rest.now _ _ c.in_default.len_below refl c.loop-rest.invariant.keys

pub returns-clause-words : goal.returns-clause-words
returns-clause-words c = c.loop-rest.invariant.words (words-end c.loop-rest.rest.now c.in_default.len_below)
