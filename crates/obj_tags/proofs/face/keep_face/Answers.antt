use Rattle.std.proofs.Common.{◌≡◌, ◌+◌, ◌++◌, ◌∷◌, [], Err, rules, arith, subst, ap, sym, ◌∙◌, append-nil, length, length-append, map, get_or}
use Rattle.std.specs.List.{flat_map}
use Rattle.std.proofs.lemmas.List.{length-map}
use Rattle.subdiv_model.specs.ObjFault.{first_cause}
use Rattle.subdiv_model.specs.ObjWord.{corner_fault}
use Rattle.obj_tags.specs.Face.{IsFirst, named_point, named_textures}
use Rattle.obj_tags.specs.View.{counts_of}
use Rattle.obj_tags.specs.Walk.{words_left}
use Rattle.obj_tags.specs.declared.fault.LineFault.TheVariants.{Cause}
use Rattle.obj_tags.proofs.FaceLemmas.{bad-corner, bad-places, good-corner, point-kept, textures-kept, corner-of, first-kept, refused-for}
use Rattle.obj_tags.proofs.face.keep_face.Goals as goal

pub returns-in_err-next : goal.returns-in_err-next
returns-in_err-next c =
    let start = get_or (words_left c.args.words.now) 0 [] in
    let left : words_left c.loop-word.words ≡ c.in-Some.word.now ∷ words_left c.next_word.new.words = search rules in
    let first : IsFirst c.loop-word.first start c.in-Some.word.now = subst (λ word. IsFirst c.loop-word.first start word) (ap (λ words. get_or words 0 []) left) c.loop-word.invariant.first in
    let is : c.from_residual.result ≡ Err (Cause c.in_err-next.field-0.0) = search rules in
    refused-for c.from_residual.result _ c.in_err-next.field-0.0 _ is
    (bad-corner (counts_of c.args.before) (counts_of c.args.all) start c.in-Some.word.now (words_left c.loop-word.words) (words_left c.next_word.new.words) (words_left c.args.words.now) c.in_err-next.field-0.0 left c.loop-word.invariant.fault (c.in_err-next.ensures start first))

pub returns-in_err-places : goal.returns-in_err-places
returns-in_err-places c =
    let start = get_or (words_left c.args.words.now) 0 [] in
    let left : words_left c.loop-word.words ≡ c.in-Some.word.now ∷ words_left c.next_word.new.words = search rules in
    let first : IsFirst c.loop-word.first start c.in-Some.word.now = subst (λ word. IsFirst c.loop-word.first start word) (ap (λ words. get_or words 0 []) left) c.loop-word.invariant.first in
    let good = c.in_ok-next.ensures start first in
    let is : c.from_residual-in_err-places.result ≡ Err (Cause c.in_err-places.field-0.0) = search rules in
    refused-for c.from_residual-in_err-places.result _ c.in_err-places.field-0.0 _ is
    (bad-places (counts_of c.args.before) (counts_of c.args.all) start c.in-Some.word.now (words_left c.loop-word.words) (words_left c.next_word.new.words) (words_left c.args.words.now) c.in_ok-next.next c.in_err-places.field-0.0 left c.loop-word.invariant.fault good (c.in_err-places.ensures c.in-Some.word.now good.1))

pub loop-word-preserved : goal.loop-word-preserved
loop-word-preserved c =
    let before = counts_of c.args.before in
    let all = counts_of c.args.all in
    let start = get_or (words_left c.args.words.now) 0 [] in
    let now = words_left c.loop-word.words in
    let next = words_left c.next_word.new.words in
    let left : words_left c.loop-word.words ≡ c.in-Some.word.now ∷ words_left c.next_word.new.words = search rules in
    let first : IsFirst c.loop-word.first start c.in-Some.word.now = subst (λ word. IsFirst c.loop-word.first start word) (ap (λ words. get_or words 0 []) left) c.loop-word.invariant.first in
    let good = c.in_ok-next.ensures start first in
    let named = c.in_ok-places.ensures c.in-Some.word.now good.1 in
    record {
      fault = good-corner before all start c.in-Some.word.now now next (words_left c.args.words.now) c.in_ok-next.next c.in_ok-places.places left c.loop-word.invariant.fault good named;
      points = point-kept before all c.in-Some.word.now now next c.in_ok-places.places c.loop-word.faces.corners.items c.keep_corner.new.faces.corners.items _ left c.loop-word.invariant.points named.1 c.in_ok-keep_corner.ensures.kept.corners;
      textures = textures-kept before all c.in-Some.word.now now next c.in_ok-places.places c.loop-word.faces.texture_corners.items c.keep_corner.new.faces.texture_corners.items _ left c.loop-word.invariant.textures named.1 c.in_ok-keep_corner.ensures.kept.textures;
      starts = c.keep_corner.ensures.starts ∙ c.loop-word.invariant.starts;
      first = subst (λ corner. IsFirst corner start (get_or next 0 [])) (sym c.or-first.ensures)
          (first-kept c.loop-word.first c.in_ok-next.next start c.in-Some.word.now (get_or next 0 []) first (corner-of start c.in-Some.word.now c.in_ok-next.next good));
    }

pub returns : goal.returns
returns c =
    let before = counts_of c.args.before in
    let all = counts_of c.args.all in
    let words = words_left c.args.words.now in
    let none : words_left c.loop-word.words ≡ [] = search rules in
    let corners : c.loop-word.faces.corners.items ≡ c.args.faces.now.corners.items ++ map (named_point before all) words =
    sym (append-nil c.loop-word.faces.corners.items) ∙ ap (λ ws. c.loop-word.faces.corners.items ++ map (named_point before all) ws) (sym none) ∙ c.loop-word.invariant.points in
    let size : length c.loop-word.faces.corners.items ≡ length c.args.faces.now.corners.items + length words =
    ap length corners ∙ length-append c.args.faces.now.corners.items (map (named_point before all) words) ∙ ap (λ n. length c.args.faces.now.corners.items + n) (length-map words (named_point before all)) in (
      sym c.loop-word.invariant.fault ∙ ap (first_cause (corner_fault before all (get_or words 0 []))) none,
      record {
        corners = corners;
        textures = sym (append-nil c.loop-word.faces.texture_corners.items) ∙ ap (λ ws. c.loop-word.faces.texture_corners.items ++ flat_map (named_textures before all) ws) (sym none) ∙ c.loop-word.invariant.textures;
        starts = search (rules, size);
      },
    )

pub overflow_cast-len : goal.overflow_cast-len
overflow_cast-len c =
    let named = named_point (counts_of c.args.before) (counts_of c.args.all) in
    let n : c.len.result ≡ length c.loop-word.faces.corners.items = search rules in
    let now = length-append c.loop-word.faces.corners.items (map named (words_left c.loop-word.words)) in
    let all = length-append c.args.faces.now.corners.items (map named (words_left c.args.words.now)) in
    record { fits = omega (arith, n, now, all, ap length c.loop-word.invariant.points, length-map (words_left c.args.words.now) named, c.requires.few) }
