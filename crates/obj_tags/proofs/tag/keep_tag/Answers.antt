use Rattle.std.proofs.Common.{◌∷◌, rules, refl, codes}
use Rattle.obj_tags.specs.View.{counts_of}
use Rattle.obj_tags.specs.Walk.{words_left}
use Rattle.obj_tags.specs.TagView.{IsHeadOf}
use Rattle.obj_tags.specs.declared.tag_counts.TagKind.TheVariants as kind
use Rattle.obj_tags.proofs.TagKeptLemmas.{boundary-some, method-some, kept-crease, kept-corners, kept-holes, kept-boundary, kept-method, kept-dropped}
use Rattle.obj_tags.proofs.tag.keep_tag.Goals as goal

pub returns-in-Crease : goal.returns-in-Crease
returns-in-Crease c =
    let head : IsHeadOf kind.Crease c.in_ok-kind.counts (words_left c.tag_head.new.words) (codes "t" ∷ words_left c.args.words.now) = search rules in
    kept-crease c.keep_crease.result (counts_of c.args.all) (words_left c.args.words.now) _ _ c.args.tags.now (record c.args.tags.now { creases = c.keep_crease.new.creases }) head refl refl refl refl c.keep_crease.ensures

pub returns-in-Corner : goal.returns-in-Corner
returns-in-Corner c =
    let head : IsHeadOf kind.Corner c.in_ok-kind.counts (words_left c.tag_head.new.words) (codes "t" ∷ words_left c.args.words.now) = search rules in
    kept-corners c.keep_corners.result (counts_of c.args.all) (words_left c.args.words.now) _ _ c.args.tags.now (record c.args.tags.now { corners = c.keep_corners.new.corners }) head refl refl refl refl c.keep_corners.ensures

pub returns-in-Hole : goal.returns-in-Hole
returns-in-Hole c =
    let head : IsHeadOf kind.Hole c.in_ok-kind.counts (words_left c.tag_head.new.words) (codes "t" ∷ words_left c.args.words.now) = search rules in
    kept-holes c.keep_holes.result (counts_of c.args.all) (words_left c.args.words.now) _ _ c.args.tags.now (record c.args.tags.now { holes = c.keep_holes.new.holes }) head refl refl refl refl c.keep_holes.ensures

pub returns-in-Boundary : goal.returns-in-Boundary
returns-in-Boundary c =
    let head : IsHeadOf kind.Boundary c.in_ok-kind.counts (words_left c.tag_head.new.words) (codes "t" ∷ words_left c.args.words.now) = search rules in
    kept-boundary c.keep_boundary.result (counts_of c.args.all) (words_left c.args.words.now) _ _ c.args.tags.now c.keep_boundary.new.boundary head (rw head.rest (boundary-some (codes "t" ∷ words_left c.args.words.now) head.fits)) c.keep_boundary.ensures

pub returns-in-Method : goal.returns-in-Method
returns-in-Method c =
    let head : IsHeadOf kind.Method c.in_ok-kind.counts (words_left c.tag_head.new.words) (codes "t" ∷ words_left c.args.words.now) = search rules in
    kept-method c.keep_method.result (counts_of c.args.all) (words_left c.args.words.now) _ _ c.args.tags.now c.keep_method.new.method head (rw head.rest (method-some (codes "t" ∷ words_left c.args.words.now) head.fits)) c.keep_method.ensures

pub returns-in-Dropped : goal.returns-in-Dropped
returns-in-Dropped c =
    let head : IsHeadOf kind.Dropped c.in_ok-kind.counts (words_left c.tag_head.new.words) (codes "t" ∷ words_left c.args.words.now) = search rules in
    kept-dropped (counts_of c.args.all) (words_left c.args.words.now) _ _ c.args.tags.now head
