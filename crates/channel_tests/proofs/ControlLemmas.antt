-- The conditions on level 0 and on the controls of a channel.
use Rattle.std.proofs.Common.{◌≡◌, ℕ, ◌*◌, ◌^◌, ◌≤◌, true, ℤ, unsigned_abs, List, [], ◌∷◌, length, replicate, arith, refl, ap, sym, ◌∙◌}
use Rattle.std.specs.List.{All}
use Rattle.std.proofs.lemmas.List.{length-map}
use Rattle.std.proofs.lemmas.List.Elements.{All-map, All-weaker}
use Rattle.ratio128.specs.Numbers.{greatest_amount}
use Rattle.ratio128.specs.declared.point.Point3.{Point3}
use Rattle.subdiv_model.specs.Channel.{Channel}
use Rattle.subdiv_model.specs.ObjMesh.{ObjMesh}
use Rattle.mesh_laws.proofs.FaultLemmas.{fault-decides}
use Rattle.mesh_laws.proofs.WalkLemmas.{manifold-decides}
use Rattle.mask_laws.proofs.BoundaryLemmas.{boundary-base}
use Rattle.level_topology.specs.Topology.{Topology}
use Rattle.mesh_check.specs.Checked.{IsAccepted}
use Rattle.ratio128.specs.declared.valued.Valued.{Valued}
use Rattle.primvar_refine.specs.Rows.{Row, row_at}
use Rattle.primvar_refine.specs.View.{row_of, rows_of}
use Rattle.channel_refine.specs.Base.{IsBase}
use Rattle.channel_refine.specs.Refined.{AreControls}
use Rattle.channel_tests.specs.Controls.{IsControl}

-- level 0 of an accepted mesh with few points
pub base-of : (mesh : ObjMesh) (level : Topology) → IsAccepted mesh level → level.level.point_count ≤ 2 ^ 20 → IsBase level
base-of mesh level accepted few =
    let manifold = (manifold-decides (length mesh.points) mesh.faces).0 ((fault-decides (length mesh.points) mesh.faces).0 accepted.manifold) in
    record {
      points = omega (arith, few);
      complete = accepted.complete ∙ ap (λ n. replicate n true) (sym (ap (λ l. l.point_count) accepted.level_is));
      manifold = rw accepted.level_is manifold;
      boundary = rw accepted.level_is (boundary-base mesh manifold);
    }

-- points that are controls are controls as rows
module _ (greatest : ℕ) where
  each : (P : Row → Type 0) → ((p : Valued Point3) → IsControl greatest p → P (row_of (λ (q : Point3). q.x ∷ q.y ∷ q.z ∷ []) p))
      → (points : List (Valued Point3)) → All (IsControl greatest) points → All P (rows_of (λ (q : Point3). q.x ∷ q.y ∷ q.z ∷ []) points)
  each P f points all =
      All-map P (row_of (λ (q : Point3). q.x ∷ q.y ∷ q.z ∷ [])) points
      (All-weaker (IsControl greatest) (λ p. P (row_of (λ (q : Point3). q.x ∷ q.y ∷ q.z ∷ []) p)) f points all)

  alike : (points : List (Valued Point3)) → All (IsControl greatest) points
      → All (λ (row : Row). length row.numbers ≡ length (row_at (rows_of (λ (q : Point3). q.x ∷ q.y ∷ q.z ∷ []) points) 0).numbers) (rows_of (λ (q : Point3). q.x ∷ q.y ∷ q.z ∷ []) points)
  alike [] all = λ k d lt. absurd (omega (arith, lt))
  alike (p ∷ points) all = each (λ (row : Row). length row.numbers ≡ 3) (λ q h. refl) (p ∷ points) all

  below : (den : ℕ) (x y z : ℤ) → den ≡ 1 → unsigned_abs x ≤ greatest → unsigned_abs y ≤ greatest → unsigned_abs z ≤ greatest
      → greatest_amount (x ∷ y ∷ z ∷ []) ≤ den * greatest
  below den x y z e a b c = rw e (omega (arith, a, b, c))

-- the points are the controls of a channel
pub are-controls : (channel : Channel) (points : List (Valued Point3)) → length points ≡ channel.base.point_count → All (IsControl channel.greatest) points
    → AreControls channel (rows_of (λ (q : Point3). q.x ∷ q.y ∷ q.z ∷ []) points)
are-controls channel points count all =
    let greatest = channel.greatest in
    record {
      each = length-map points (row_of (λ (q : Point3). q.x ∷ q.y ∷ q.z ∷ [])) ∙ count;
      whole = each greatest (λ (row : Row). row.den ≡ 1) (λ p h. h.whole) points all;
      within = each greatest (λ (row : Row). greatest_amount row.numbers ≤ row.den * greatest) (λ p h. below greatest p.den p.value.x p.value.y p.value.z h.whole h.x h.y h.z) points all;
      alike = alike greatest points all;
    }
