-- The steps of a refinement, by those of its parts.
use Rattle.std.proofs.Common.{◌≡◌, ℕ, ◌+◌, ◌≤◌, Bool, true, false, cond, length, arith, refl, ap}
use Rattle.subdiv_model.specs.ObjMesh.{ObjMesh}
use Rattle.far_model.specs.Command.{RefineOptions}
use Rattle.mesh_answers.specs.StepCounts.{later_faces, position_steps, refine_least, refine_limit, texture_steps, where_textured}

-- the steps of the texture, if there is one, in parts and together
where-both : (mesh : ObjMesh) (m n : ℕ) → where_textured mesh m + where_textured mesh n ≡ where_textured mesh (m + n)
where-both mesh m n = go mesh.has_texture
  where
    go : (b : Bool) → cond b m 0 + cond b n 0 ≡ cond b (m + n) 0
    go true = refl
    go false = refl

-- level 0 of the mesh and of the cut mesh, then the positions, then the texture
module _ (mesh : ObjMesh) (options : RefineOptions) where
  abbrev pub base_limit : ℕ
  base_limit = length mesh.faces + where_textured mesh (length mesh.faces)

  abbrev pub position_limit : ℕ
  position_limit = later_faces options.depth mesh + position_steps options.by options.depth mesh

  abbrev pub texture_limit : ℕ
  texture_limit = where_textured mesh (later_faces options.depth mesh + texture_steps options mesh)

  sum-is : (f l t : ℕ) → where_textured mesh (f + (l + t)) ≡ where_textured mesh (f + l + t)
  sum-is f l t = ap (where_textured mesh) (sum f l t)
    where
      sum : (f l t : ℕ) → f + (l + t) ≡ f + l + t
      sum f l t = omega arith

  limit-is : base_limit + position_limit + texture_limit ≡ refine_limit options mesh
  limit-is =
      let faces = length mesh.faces in
      let later = later_faces options.depth mesh in
      omega (arith, where-both mesh faces (later + texture_steps options mesh), sum-is faces later (texture_steps options mesh))

  pub positions-fit : (old middle new : ℕ) → middle ≤ old + base_limit → new ≤ middle + position_limit → new ≤ old + refine_limit options mesh
  positions-fit old middle new g h = omega (arith, g, h, limit-is)

  pub all-fit : (old first second new : ℕ) → first ≤ old + base_limit → second ≤ first + position_limit → new ≤ second + texture_limit → new ≤ old + refine_limit options mesh
  all-fit old first second new f g h = omega (arith, f, g, h, limit-is)

  -- the steps are at least those of the values of both
  pub all-taken : (old first second new : ℕ) → old ≤ first → first + position_steps options.by options.depth mesh ≤ second → second + where_textured mesh (texture_steps options mesh) ≤ new →
      old + refine_least options mesh ≤ new
  all-taken old first second new f g h = omega (arith, f, g, h)
