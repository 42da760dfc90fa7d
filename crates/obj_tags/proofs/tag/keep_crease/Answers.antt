use Rattle.std.proofs.Common.{◌≡◌, length}
use Rattle.sharpness_rules.specs.View.{sharpness_of}
use Rattle.obj_tags.specs.TagView.{index_said, sharpness_said}
use Rattle.obj_tags.specs.Walk.{words_left}
use Rattle.obj_tags.proofs.TagLemmas.{sizes-said}
use Rattle.obj_tags.proofs.tag.keep_crease.Goals as goal

pub add_chain-requires : goal.add_chain-requires
add_chain-requires c =
    let vertices = c.in_ok-vertices.vertices.items in
    let values = c.in_ok-vertices.values.items in
    let sizes : (length vertices ≡ c.args.counts.integers) × (length values ≡ c.args.counts.numerals) =
    sizes-said sharpness_of sharpness_said index_said c.args.counts.integers c.args.counts.numerals (words_left c.args.words.now) vertices values c.requires.enough c.in_ok-vertices.ensures.1.vertices c.in_ok-vertices.ensures.1.values in
    record {
      some = rw (c.as_slice.ensures.value, sizes.0) c.requires.some;
      values = rw (c.as_slice-2.ensures.value, c.as_slice.ensures.value, sizes.1, sizes.0) c.requires.fit;
    }
