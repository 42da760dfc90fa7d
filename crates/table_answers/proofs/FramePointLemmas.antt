-- A row of the table of a mesh gives the definition's point, in other terms.
use Rattle.std.proofs.Common.{◌≡◌, ℕ, zero, suc, ◌+◌, ◌*◌, ◌<◌, ℤ, pos, List, [], ◌∷◌, ◌++◌, length, map, get_or, arith, refl, ap, sym, ◌∙◌, subst}
use Rattle.std.specs.List.{flat_map}
use Rattle.std.proofs.lemmas.List.{length-map, get_or-map}
use Rattle.subdiv_model.specs.Base.{base_level}
use Rattle.subdiv_model.specs.Mask.{CatmullClark}
use Rattle.subdiv_model.specs.ObjMesh.{ObjMesh}
use Rattle.subdiv_model.specs.Value.{Value, IsSameValue, whole_value}
use Rattle.subdiv_model.specs.Refined.{Point, point_value, over_common, points_of_coordinates, refined_values, refined_points, control_values}
use Rattle.subdiv_model.specs.Support.{refined_supports}
use Rattle.number_laws.proofs.MultipleLemmas.{product-positive}
use Rattle.stencil_laws.proofs.ShareLemmas.{value-positive}
use Rattle.far_model.specs.Frames.{Frame, numbers_of, no_point, changed_points, changed_text, frame_text}
use Rattle.far_model.specs.Frames as model
use Rattle.stencil_apply.specs.Table.{Row, Table, IsTable, row_at, sum_of_shares}
use Rattle.stencil_factory.specs.Rows.{share_sum}
use Rattle.stencil_session.specs.Session.{State, row_value}
use Rattle.far_text.specs.Frames.{frame_line, changed_line}
use Rattle.stencil_session.specs.Tree.{mark_count}
use Rattle.far_text.proofs.SameTextLemmas.{changed-same}
use Rattle.mesh_answers.proofs.ColumnLemmas.{scaled}
use Rattle.table_answers.specs.FrameLines.{row_point, row_line, marked, marked_lines, marked_text}
use Rattle.table_answers.specs.Posed.{IsTableOf, Posed, IsPosed}
use Rattle.table_answers.proofs.FramePlaceLemmas.{places-map, places-count, places-texts}
use Rattle.table_answers.proofs.FrameMarkLemmas.{is_moved}
use Rattle.table_answers.proofs.FrameSumLemmas.{sum-columns}

-- the point at a place, by its three coordinates
point-at : (common : ℕ) (xs ys zs : List Value) (p : ℕ) → p < length xs → p < length ys → p < length zs →
    get_or (points_of_coordinates (map (over_common common) xs) (map (over_common common) ys) (map (over_common common) zs)) p no_point
    ≡ (over_common common (point_value xs p), over_common common (point_value ys p), over_common common (point_value zs p))
point-at common [] ys zs p f g h = absurd (omega (arith, f))
point-at common (x ∷ xs) [] zs p f g h = absurd (omega (arith, g))
point-at common (x ∷ xs) (y ∷ ys) [] p f g h = absurd (omega (arith, h))
point-at common (x ∷ xs) (y ∷ ys) (z ∷ zs) zero f g h = refl
point-at common (x ∷ xs) (y ∷ ys) (z ∷ zs) (suc p) f g h = point-at common xs ys zs p (omega (arith, f)) (omega (arith, g)) (omega (arith, h))

abbrev none : Row
none = record { den = 1; shares = [] }

abbrev value_of : List ℤ → Row → Value
value_of numbers row = record { num = share_sum numbers row.shares; den = row.den }

module _ (mesh : ObjMesh) (depth : ℕ) (table : Table) (is : IsTableOf mesh depth table) where
  -- one coordinate of all points
  abbrev values : List ℤ → List Value
  values numbers = refined_values (base_level mesh) CatmullClark (control_values numbers) depth

  values-count : (numbers : List ℤ) → length numbers ≡ length mesh.points → length (values numbers) ≡ length table.rows
  values-count numbers each = (is.values numbers each).count ∙ length-map table.rows (value_of numbers)

  -- a row gives the point's value
  value-same : (numbers : List ℤ) → length numbers ≡ length mesh.points → (p : ℕ) → p < length table.rows →
      IsSameValue (point_value (values numbers) p) (value_of numbers (row_at table p))
  value-same numbers each p inside =
      subst (IsSameValue (point_value (values numbers) p)) (get_or-map (value_of numbers) table.rows p none (whole_value (pos 0)) inside)
      ((is.values numbers each).same p (omega (arith, inside, length-map table.rows (value_of numbers))))

  module _ (made : IsTable table) where
    row-positive : (p : ℕ) → p < length table.rows → 0 < (row_at table p).den
    row-positive p inside = (made.rows p none inside).positive

    -- its denominator is at least 1
    values-positive : (numbers : List ℤ) (p : ℕ) → p < length table.rows → 0 < (point_value (values numbers) p).den
    values-positive numbers p inside =
        value-positive (base_level mesh) CatmullClark numbers depth p
        (subst (λ dens. 0 < get_or dens p 1) is.dens
        (subst (λ n. 0 < n) (sym (get_or-map (λ (row : Row). row.den) table.rows p none 1 inside)) (row-positive p inside)))

-- The line of a row is that of the definition's point.
module _ (mesh : ObjMesh) (depth common : ℕ) (some : 0 < common) (controls : List (ℤ × ℤ × ℤ)) (each : length controls ≡ length mesh.points) (state : State)
    (are : state.controls ≡ map numbers_of controls) (is : IsTableOf mesh depth state.table) (made : IsTable state.table) where
  abbrev points : List Point
  points = refined_points (base_level mesh) CatmullClark common controls depth

  abbrev coordinate : (ℤ × ℤ × ℤ → ℤ) → List ℤ
  coordinate of = map of controls

  coordinate-each : (of : ℤ × ℤ × ℤ → ℤ) → length (coordinate of) ≡ length mesh.points
  coordinate-each of = length-map controls of ∙ each

  -- the value that the row gives from the controls
  row-columns : (p : ℕ) → row_value state p
      ≡ share_sum (coordinate (λ c. c.0)) (row_at state.table p).shares ∷ share_sum (coordinate (λ c. c.1)) (row_at state.table p).shares ∷ share_sum (coordinate (λ c. c.2)) (row_at state.table p).shares ∷ []
  row-columns p =
      ap (λ cs. sum_of_shares (pos 0 ∷ pos 0 ∷ pos 0 ∷ []) cs (row_at state.table p).shares) are
      ∙ sum-columns controls (row_at state.table p).shares

  abbrev made_value : (ℤ × ℤ × ℤ → ℤ) → ℕ → Value
  made_value of p = over_common common (value_of (coordinate of) (row_at state.table p))

  row-is : (p : ℕ) → row_point common state p ≡ (made_value (λ c. c.0) p, made_value (λ c. c.1) p, made_value (λ c. c.2) p)
  row-is p = ap (three-of ((row_at state.table p).den * common)) (row-columns p)
    where
      three-of : ℕ → List ℤ → Point
      three-of den numbers = (
        record { num = get_or numbers 0 (pos 0); den = den },
        record { num = get_or numbers 1 (pos 0); den = den },
        record { num = get_or numbers 2 (pos 0); den = den },
      )

  -- the definition's value
  abbrev own_value : (ℤ × ℤ × ℤ → ℤ) → ℕ → Value
  own_value of p = over_common common (point_value (values mesh depth state.table is (coordinate of)) p)

  inside-values : (of : ℤ × ℤ × ℤ → ℤ) (p : ℕ) → p < length state.table.rows → p < length (values mesh depth state.table is (coordinate of))
  inside-values of p inside = omega (arith, inside, values-count mesh depth state.table is (coordinate of) (coordinate-each of))

  point-is : (p : ℕ) → p < length state.table.rows → get_or points p no_point ≡ (own_value (λ c. c.0) p, own_value (λ c. c.1) p, own_value (λ c. c.2) p)
  point-is p inside = point-at common _ _ _ p (inside-values (λ c. c.0) p inside) (inside-values (λ c. c.1) p inside) (inside-values (λ c. c.2) p inside)

  made-positive : (of : ℤ × ℤ × ℤ → ℤ) (p : ℕ) → p < length state.table.rows → 0 < (made_value of p).den
  made-positive of p inside = product-positive (row_at state.table p).den common (row-positive mesh depth state.table is made p inside) some

  own-positive : (of : ℤ × ℤ × ℤ → ℤ) (p : ℕ) → p < length state.table.rows → 0 < (own_value of p).den
  own-positive of p inside =
      product-positive (point_value (values mesh depth state.table is (coordinate of)) p).den common (values-positive mesh depth state.table is made (coordinate of) p inside) some

  both-same : (of : ℤ × ℤ × ℤ → ℤ) (p : ℕ) → p < length state.table.rows → IsSameValue (own_value of p) (made_value of p)
  both-same of p inside =
      scaled common (point_value (values mesh depth state.table is (coordinate of)) p) (value_of (coordinate of) (row_at state.table p))
      (value-same mesh depth state.table is (coordinate of) (coordinate-each of) p inside)

  line-same : (p : ℕ) → p < length state.table.rows → row_line common state p ≡ model.changed_line points p
  line-same p inside =
      ap (changed_line p) (row-is p)
      ∙ sym (changed-same p (own_value (λ c. c.0) p, own_value (λ c. c.1) p, own_value (λ c. c.2) p) (made_value (λ c. c.0) p, made_value (λ c. c.1) p, made_value (λ c. c.2) p)
      (record { x = own-positive (λ c. c.0) p inside; y = own-positive (λ c. c.1) p inside; z = own-positive (λ c. c.2) p inside })
      (record { x = made-positive (λ c. c.0) p inside; y = made-positive (λ c. c.1) p inside; z = made-positive (λ c. c.2) p inside })
      (record { x = both-same (λ c. c.0) p inside; y = both-same (λ c. c.1) p inside; z = both-same (λ c. c.2) p inside }))
      ∙ sym (ap (changed_line p) (point-is p inside))

  -- the text of the marked rows is that of the points that depend on the moved ones
  module _ (moved : List ℕ) (marks : state.marks ≡ map (is_moved moved) (refined_supports (base_level mesh) CatmullClark depth)) (long : length state.marks ≡ length state.table.rows) where
    changed-is : marked state.marks ≡ changed_points depth mesh moved
    changed-is = ap marked marks ∙ places-map (is_moved moved) 0 (refined_supports (base_level mesh) CatmullClark depth)

    count-is : mark_count state.marks ≡ length (changed_points depth mesh moved)
    count-is = places-count 0 state.marks ∙ ap length changed-is

    lines-same : marked_lines common state ≡ flat_map (model.changed_line points) (changed_points depth mesh moved)
    lines-same =
        places-texts (row_line common state) (model.changed_line points) 0 state.marks (λ number h. at number (subst (λ n. number < n) long h))
        ∙ ap (flat_map (model.changed_line points)) changed-is
      where
        at : (number : ℕ) → number < length state.table.rows → row_line common state (0 + number) ≡ model.changed_line points (0 + number)
        at number inside = line-same (0 + number) (omega (arith, inside))

    pub text-same : marked_text common state ≡ changed_text points (changed_points depth mesh moved)
    text-same = ap (λ n. frame_line n ++ marked_lines common state) count-is ∙ ap (λ t. frame_line (length (changed_points depth mesh moved)) ++ t) lines-same

-- The answer of a posed mesh is that of the definitions.
pub posed-text : (mesh : ObjMesh) (frame : Frame) (posed : Posed) → IsPosed mesh frame posed → marked_text posed.common posed.session ≡ frame_text posed.depth mesh frame
posed-text mesh frame posed is =
    let each : length frame.controls ≡ length mesh.points =
    sym (length-map frame.controls numbers_of) ∙ sym (ap length is.controls) ∙ is.state.each ∙ is.table.controls in
    text-same mesh posed.depth posed.common is.some frame.controls each posed.session is.controls is.table is.state.table frame.moved is.marks is.state.marks
    ∙ ap (λ common. changed_text (refined_points (base_level mesh) CatmullClark common frame.controls posed.depth) (changed_points posed.depth mesh frame.moved)) is.common
