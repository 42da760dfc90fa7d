use Rattle.std.proofs.Common.{◌≡◌, [], rules}
use Rattle.obj_tags.specs.Walk.{words_left}
use Rattle.obj_tags.proofs.PointLemmas.{missing-zero}
use Rattle.obj_tags.proofs.channel.second_number.Goals as goal

pub returns-in-None-clause-read : goal.returns-in-None-clause-read
returns-in-None-clause-read c =
    let none : words_left c.args.words.now ≡ [] = search rules in
    missing-zero c.args.common (words_left c.args.words.now) none
