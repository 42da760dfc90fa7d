use Rattle.std.proofs.Common.{refl, subst}
use Rattle.obj_tags.specs.Keyword.{IsKeywordOf}
use Rattle.obj_tags.specs.Walk.{words_left}
use Rattle.obj_tags.specs.View as view
use Rattle.obj_tags.proofs.KeepLemmas.{kept-position, kept-texture, kept-tag, kept-face, kept-nothing, counts-kept}
use Rattle.obj_tags.proofs.line.keep_values.Goals as goal

pub returns-in-Position : goal.returns-in-Position
returns-in-Position c = λ lines n line at keyword values is.
    let k = subst (λ key. IsKeywordOf key line) c.in-Position.is keyword in
    kept-position c.keep_position.result c.args.draft.now c.keep_position.new.positions _ c.args.all c.args.number lines n line (words_left c.args.words.now) refl refl refl refl at k values is c.keep_position.ensures

pub returns-in-Texture : goal.returns-in-Texture
returns-in-Texture c = λ lines n line at keyword values is.
    let k = subst (λ key. IsKeywordOf key line) c.in-Texture.is keyword in
    kept-texture c.keep_texture_value.result c.args.draft.now c.keep_texture_value.new.values _ c.args.all c.args.number lines n line (words_left c.args.words.now) refl refl refl refl at k.0 k.1 values is c.keep_texture_value.ensures

pub returns-in-Face : goal.returns-in-Face
returns-in-Face c = λ lines n line at keyword values is.
    let k = subst (λ key. IsKeywordOf key line) c.in-Face.is keyword in
    let counted = counts-kept c.args.all c.args.draft.now c.counts-before.result lines n c.counts-before.ensures.points c.counts-before.ensures.textures c.counts-before.ensures.faces is in
    kept-face c.keep_face.result c.args.draft.now _ c.args.all (view.counts_of c.counts-before.result) (view.counts_of c.args.all.counts) c.args.number lines n line (words_left c.args.words.now) refl refl refl at counted at.counted k.0 k.1 k.2 values is c.keep_face.ensures

pub returns-in-Tag : goal.returns-in-Tag
returns-in-Tag c = λ lines n line at keyword values is.
    let k = subst (λ key. IsKeywordOf key line) c.in-Tag.is keyword in
    kept-tag c.keep_tag.result c.args.draft.now _ c.args.all (view.counts_of c.args.all.counts) c.args.number lines n line (words_left c.args.words.now) refl refl refl at at.counted k.0 k.1 k.2 k.3 values is c.keep_tag.ensures

pub returns-in-Ignored : goal.returns-in-Ignored
returns-in-Ignored c = λ lines n line at keyword values is.
    let k = subst (λ key. IsKeywordOf key line) c.in-Ignored.is keyword in
    kept-nothing c.args.draft.now c.args.all c.args.number lines n line at k.0 k.1 k.2 k.3 is
