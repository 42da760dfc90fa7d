use Rattle.std.proofs.Common.{ℕ, ◌∷◌, [], ◌++◌, refl, ap, map, ◌∙◌}
use Rattle.std.proofs.lemmas.List.{with_items_is}
use Rattle.number_laws.proofs.MultipleLemmas.{product-positive}
use Rattle.subdiv_model.specs.Multiples.{lcm_of_all}
use Rattle.mask_rules.specs.View.{terms_of}
use Rattle.child_masks.proofs.TermLemmas.{multiple-positive}
use Rattle.child_masks.proofs.survey.Survey.add_mask.Goals as goal

pub returns-clause-added : goal.returns-clause-added
returns-clause-added c value dens_are positive =
    let multiple = lcm_of_all (map (λ t. value t.source) (terms_of c.args.terms.now)) in
    let some = multiple-positive value c.args.dens.now c.args.self.now.faces.items dens_are c.args.terms.now c.requires.among in
    let here = c.multiple_of_terms-multiple.ensures value (rw c.deref.ensures.value dens_are) in
    record {
      positive = product-positive c.args.denominator multiple positive some;
      faces = refl;
      dens = c.in_ok-push.ensures.items ∙ ap (λ (n : ℕ). c.args.self.now.dens.items ++ n ∷ []) (c.scaled.ensures multiple positive some here);
      named = rw (with_items_is c.args.self.now.named c.mark_faces.new.named (c.mark_faces.auto.named ∙ c.deref_mut.ensures.len)) (rw c.deref_mut.ensures.value at c.mark_faces.ensures);
    }
