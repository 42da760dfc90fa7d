use Rattle.std.proofs.Common.{ap, refl, sym, ◌∙◌, option_map}
use Rattle.obj_tags.specs.Channel.{lesser_line}
use Rattle.obj_tags.specs.Survey.{long_fault_at}
use Rattle.obj_tags.proofs.LateLemmas.{lesser-none}
use Rattle.obj_tags.proofs.MeshLemmas.{late-draft, mesh-draft}
use Rattle.obj_tags.proofs.read.finish.Goals as goal

pub of-requires-clause-short : goal.of-requires-clause-short
of-requires-clause-short c =
    let none = lesser-none _ _ (sym c.in_default.ensures) in
    c.requires.short (sym c.or-late_position.ensures ∙ none.0) (sym c.or-late_texture.ensures ∙ none.1)

pub returns-in-Some : goal.returns-in-Some
returns-in-Some c lines least are is =
    sym (late-draft c.args.all c.args.draft lines least are is)
    ∙ ap (option_map long_fault_at) (sym (ap (λ a. lesser_line a c.or-late_texture.result) c.or-late_position.ensures ∙ ap (lesser_line _) c.or-late_texture.ensures))
    ∙ ap (option_map long_fault_at) (sym c.in-Some.ensures)

pub returns : goal.returns
returns c lines least are is =
    let none = lesser-none _ _ (sym c.in_default.ensures) in (
      sym (late-draft c.args.all c.args.draft lines least are is)
          ∙ ap (option_map long_fault_at) (sym (ap (λ a. lesser_line a c.or-late_texture.result) c.or-late_position.ensures ∙ ap (lesser_line _) c.or-late_texture.ensures))
          ∙ ap (option_map long_fault_at) (sym c.in_default.ensures),
      c.of.ensures ∙ mesh-draft c.args.all c.args.draft lines least _ are is refl
          (sym c.or-late_position.ensures ∙ none.0) (sym c.or-late_texture.ensures ∙ none.1),
    )
