use Rattle.std.proofs.Common.{rules, ◌≡◌, ℕ, Bool, true, List, length, take, drop, arith, sym, subst, if◌then◌else◌}
use Rattle.std.specs.List.{flat_map, sum_by}
use Rattle.mesh_arrays.proofs.FaceLemmas.{same-count}
use Rattle.mesh_arrays.proofs.write.put_texture.Goals as goal

pub put_texture_corners-requires-clause-fits : goal.put_texture_corners-requires-clause-fits
put_texture_corners-requires-clause-fits c =
    let yes : c.args.mesh.now.has_texture ≡ true = search rules in
    omega (arith, c.requires yes, same-count c.args.mesh.now.texture_corners c.args.mesh.now.faces (c.facts.ensures.textured yes))

pub returns-then-has_texture-clause-written : goal.returns-then-has_texture-clause-written
returns-then-has_texture-clause-written c textured =
    subst (λ (n : ℕ). take n c.put_texture_corners.new.out ≡ flat_map (λ (face : List ℕ). face) c.args.mesh.now.texture_corners)
    (same-count c.args.mesh.now.texture_corners c.args.mesh.now.faces (c.facts.ensures.textured textured)) c.put_texture_corners.ensures.written

pub returns-then-has_texture-clause-rest : goal.returns-then-has_texture-clause-rest
returns-then-has_texture-clause-rest c =
    let yes : c.args.mesh.now.has_texture ≡ true = search rules in
    subst (λ (some : Bool). drop (if some then (sum_by length c.args.mesh.now.faces) else 0) c.put_texture_corners.new.out ≡ drop (if some then (sum_by length c.args.mesh.now.faces) else 0) c.args.out.now) (sym yes)
    (subst (λ (n : ℕ). drop n c.put_texture_corners.new.out ≡ drop n c.args.out.now)
    (same-count c.args.mesh.now.texture_corners c.args.mesh.now.faces (c.facts.ensures.textured yes)) c.put_texture_corners.ensures.rest)
