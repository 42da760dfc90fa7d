-- The points that the answers of `go` name.
use Rattle.std.proofs.Common.{◌≡◌, ℕ, ◌+◌, Bool, true, false, ◌||◌, nat_eq, List, [], ◌∷◌, ◌++◌, map, codes, refl, ap, sym, ◌∙◌, bytes_eq, if◌then◌else◌}
use Rattle.std.specs.List.{filter, fold}
use Rattle.std.proofs.lemmas.List.Folds.{list_any-append}
use Rattle.std.proofs.lemmas.List.Sums.{fold-append}
use Rattle.std.proofs.lemmas.Slice.Eq.{bytes_eq-Decides}
use Rattle.subdiv_model.specs.Lists.{places_from}
use Rattle.subdiv_model.specs.Base.{base_level}
use Rattle.subdiv_model.specs.Mask.{CatmullClark}
use Rattle.subdiv_model.specs.ObjMesh.{ObjMesh}
use Rattle.subdiv_model.specs.Polygons.{is_among}
use Rattle.subdiv_model.specs.Support.{refined_supports}
use Rattle.far_model.specs.Frames.{Frame, frame_after, frame_at, moved_frame, moved_index, changed_points, is_move_line, is_go_line}
use Rattle.table_answers.specs.FrameLaws.{Lines, support_at, moved_by, named_from, named_points, waiting_points}
use Rattle.table_answers.proofs.FrameAnswerLemmas.{not-go}
use Rattle.table_answers.proofs.FrameMarkLemmas.{is_moved}
use Rattle.table_answers.proofs.FramePlaceLemmas.{places-has}

-- no moved point is in a support that is empty
none-moved : (moved : List ℕ) → is_moved moved [] ≡ false
none-moved [] = refl
none-moved (control ∷ moved) = none-moved moved

pub changed-has : (depth : ℕ) (mesh : ObjMesh) (moved : List ℕ) (point : ℕ) → is_among (changed_points depth mesh moved) point ≡ is_moved moved (support_at depth mesh point)
changed-has depth mesh moved point = places-has (is_moved moved) [] (none-moved moved) point (refined_supports (base_level mesh) CatmullClark depth)

or-false : (a : Bool) → a ≡ (a || false)
or-false true = refl
or-false false = refl

or-assoc : (a b c : Bool) → ((a || b) || c) ≡ (a || (b || c))
or-assoc true b c = refl
or-assoc false b c = refl

module _ (depth : ℕ) (mesh : ObjMesh) (point : ℕ) where
  -- the point depends on one of these control points
  abbrev depends : List ℕ → Bool
  depends moved = is_moved moved (support_at depth mesh point)

  abbrev next : Bool → Bool → Frame → List (List ℕ) → Frame
  next move go frame words =
      if move then moved_frame mesh.common frame words else if go then record { controls = frame.controls; moved = [] } else frame

  -- the points that are named among lines or wait after them
  abbrev IsNamed : Frame → Lines → Type 0
  IsNamed frame lines =
      (is_among (named_from depth mesh frame lines) point || is_among (changed_points depth mesh (fold (frame_after mesh.common) frame lines).moved) point)
      ≡ (depends frame.moved || depends (moved_by lines))

  abbrev IsNamedWith : Bool → Bool → Frame → List (List ℕ) → Lines → Type 0
  IsNamedWith move go frame words lines =
      (is_among ((if go then changed_points depth mesh frame.moved else []) ++ named_from depth mesh (next move go frame words) lines) point
      || is_among (changed_points depth mesh (fold (frame_after mesh.common) (next move go frame words) lines).moved) point)
      ≡ (depends frame.moved || depends (map moved_index (if move then words ∷ filter is_move_line lines else filter is_move_line lines)))

  named-next : (move go : Bool) (frame : Frame) (words : List (List ℕ)) (lines : Lines) → (move ≡ true → go ≡ false) → ((f : Frame) → IsNamed f lines) → IsNamedWith move go frame words lines
  named-next true true frame words lines apart named = absurd (wrong (apart refl))
    where
      wrong : true ≡ false → ⊥
      wrong e = cc
  named-next true false frame words lines apart named =
      named (moved_frame mesh.common frame words)
      ∙ ap (λ b. b || depends (moved_by lines)) (list_any-append (is_among (support_at depth mesh point)) frame.moved (moved_index words ∷ []) ∙ ap (λ b. depends frame.moved || b) (sym (or-false (is_among (support_at depth mesh point) (moved_index words)))))
      ∙ or-assoc (depends frame.moved) (is_among (support_at depth mesh point) (moved_index words)) (depends (moved_by lines))
  named-next false true frame words lines apart named =
      let answers = named_from depth mesh (record { controls = frame.controls; moved = [] }) lines in
      let waits = is_among (changed_points depth mesh (fold (frame_after mesh.common) (record { controls = frame.controls; moved = [] }) lines).moved) point in
      ap (λ b. b || waits) (list_any-append (λ n. nat_eq point n) (changed_points depth mesh frame.moved) answers ∙ ap (λ b. b || is_among answers point) (changed-has depth mesh frame.moved point))
      ∙ or-assoc (depends frame.moved) (is_among answers point) waits
      ∙ ap (λ b. depends frame.moved || b) (named (record { controls = frame.controls; moved = [] }))
  named-next false false frame words lines apart named = named frame

  named-from : (frame : Frame) (lines : Lines) → IsNamed frame lines
  named-from frame [] = changed-has depth mesh frame.moved point ∙ or-false (depends frame.moved)
  named-from frame (words ∷ lines) =
      named-next (is_move_line words) (is_go_line words) frame words lines (not-go words) (λ f. named-from f lines)

  pub named-all : (lines : Lines) → is_among (named_points depth mesh lines ++ waiting_points depth mesh lines) point ≡ is_among (changed_points depth mesh (moved_by lines)) point
  named-all lines =
      list_any-append (λ n. nat_eq point n) (named_points depth mesh lines) (waiting_points depth mesh lines)
      ∙ named-from (frame_at mesh []) lines
      ∙ sym (changed-has depth mesh (moved_by lines) point)

-- no point is changed if none is moved
no-change : (first : ℕ) (supports : List (List ℕ)) → places_from first (is_moved []) supports ≡ []
no-change first [] = refl
no-change first (support ∷ supports) = no-change (first + 1) supports

not-move : (words : List (List ℕ)) → is_go_line words ≡ true → is_move_line words ≡ false
not-move [] go = refl
not-move (word ∷ words) go = ap (λ w. bytes_eq w (codes "move")) ((bytes_eq-Decides word (codes "go")).0 go)

pub none-waits : (depth : ℕ) (mesh : ObjMesh) (lines : Lines) (words : List (List ℕ)) → is_go_line words ≡ true → waiting_points depth mesh (lines ++ words ∷ []) ≡ []
none-waits depth mesh lines words go =
    ap (λ f. changed_points depth mesh f.moved)
    (fold-append (frame_after mesh.common) (frame_at mesh []) lines (words ∷ [])
    ∙ ap (λ b. if b then moved_frame mesh.common (frame_at mesh lines) words else if is_go_line words then record { controls = (frame_at mesh lines).controls; moved = [] } else frame_at mesh lines) (not-move words go)
    ∙ ap (λ b. if b then record { controls = (frame_at mesh lines).controls; moved = [] } else frame_at mesh lines) go)
    ∙ no-change 0 (refined_supports (base_level mesh) CatmullClark depth)
