-- The corners of faces, one face after another.
use Rattle.std.proofs.Common.{◌≡◌, ℕ, ◌+◌, ◌-◌, ◌*◌, ◌^◌, ◌%◌, ◌<◌, ◌≤◌, Bool, true, false, ◌&&◌, ◌||◌, List, [], ◌∷◌, ◌++◌, length, map, get_or, drop, arith, refl, ap, sym, ◌∙◌, Some, append-nil, append_assoc}
use Rattle.std.specs.List.{slice_get, list_all, list_any}
use Rattle.std.specs.List.Sorted.{IsNonDecreasingBy}
use Rattle.std.proofs.lemmas.Bool.{and_from}
use Rattle.subdiv_model.specs.Polygons.{Polygon, same_side, has_side, sides_back_to}
use Rattle.subdiv_model.specs.Lists.{last_of}
use Rattle.mesh_laws.proofs.SideLemmas.{same_side-refl}
use Rattle.level_topology.proofs.FanOrderLemmas.{last-at}
use Rattle.mesh_check.specs.declared.turns.Turn.{Turn}
use Rattle.mesh_check.specs.Turns.{turns_from, turns_of, turns_after, turn_key}
use Rattle.mesh_check.proofs.PlaceLemmas.{drop-here, drop-all}

-- the corners of one face more
pub turns-next : (polygons : List Polygon) (f : ℕ) (polygon : Polygon) (before after whole : List Turn) → slice_get polygons f ≡ Some polygon → after ≡ before ++ turns_of f polygon → before ++ turns_after f (drop f polygons) ≡ whole → after ++ turns_after (f + 1) (drop (f + 1) polygons) ≡ whole
turns-next polygons f polygon before after whole at is e =
    ap (λ ts. ts ++ turns_after (f + 1) (drop (f + 1) polygons)) is
    ∙ append_assoc before (turns_of f polygon) (turns_after (f + 1) (drop (f + 1) polygons))
    ∙ sym (ap (λ ps. before ++ turns_after f ps) (drop-here polygons f polygon at)) ∙ e

-- at the end they are all
pub turns-end : (polygons : List Polygon) (f : ℕ) (turns whole : List Turn) → length polygons ≤ f → turns ++ turns_after f (drop f polygons) ≡ whole → turns ≡ whole
turns-end polygons f turns whole h e = sym (append-nil turns) ∙ ap (λ ps. turns ++ turns_after f ps) (sym (drop-all polygons f h)) ∙ e

-- both sides of a corner are sides of the face
abbrev pub is_turn : Polygon → Turn → Bool
is_turn polygon t = has_side (t.before, t.vertex) polygon && has_side (t.vertex, t.after) polygon

path-turns : (face first before : ℕ) (polygon rest : Polygon) → ((s : ℕ × ℕ) → list_any (same_side s) (sides_back_to first rest) ≡ true → has_side s polygon ≡ true) → (0 < length rest → has_side (before, get_or rest 0 first) polygon ≡ true) → list_all (is_turn polygon) (turns_from face first before rest) ≡ true
path-turns face first before polygon [] within lead = refl
path-turns face first before polygon (v ∷ rest) within lead =
    let out : has_side (v, get_or rest 0 first) polygon ≡ true = within (v, get_or rest 0 first) (own (v, get_or rest 0 first) (sides_back_to first rest)) in
    and_from _ _ (and_from _ _ (lead (omega arith)) out) (path-turns face first v polygon rest (λ s h. within s (later s (same_side s (v, get_or rest 0 first)) h)) (λ some. out))
  where
    own : (s : ℕ × ℕ) (sides : List (ℕ × ℕ)) → (same_side s s || list_any (same_side s) sides) ≡ true
    own s sides = ap (λ b. b || list_any (same_side s) sides) (same_side-refl s)

    later : (s : ℕ × ℕ) (b : Bool) → list_any (same_side s) (sides_back_to first rest) ≡ true → (b || list_any (same_side s) (sides_back_to first rest)) ≡ true
    later s true h = refl
    later s false h = h

last-side : (first v : ℕ) (rest : Polygon) → list_any (same_side (last_of v rest, first)) (sides_back_to first (v ∷ rest)) ≡ true
last-side first v [] = ap (λ b. b || false) (same_side-refl (v, first))
last-side first v (w ∷ rest) = later (same_side (last_of w rest, first) (v, w)) (last-side first w rest)
  where
    later : (b : Bool) → list_any (same_side (last_of w rest, first)) (sides_back_to first (w ∷ rest)) ≡ true → (b || list_any (same_side (last_of w rest, first)) (sides_back_to first (w ∷ rest))) ≡ true
    later true h = refl
    later false h = h

-- each corner of a face has the sides that come and go there
pub face-turns : (face : ℕ) (polygon : Polygon) → list_all (is_turn polygon) (turns_of face polygon) ≡ true
face-turns face [] = refl
face-turns face (v ∷ rest) =
    path-turns face v (get_or (v ∷ rest) (length (v ∷ rest) - 1) 0) (v ∷ rest) (v ∷ rest) (λ s h. h) (λ some. ap (λ l. has_side (l, v) (v ∷ rest)) last ∙ last-side v v rest)
  where
    last : get_or (v ∷ rest) (length (v ∷ rest) - 1) 0 ≡ last_of v rest
    last = let one : length (v ∷ rest) - 1 ≡ length rest = omega arith in ap (λ n. get_or (v ∷ rest) n 0) one ∙ sym (last-at v rest)

path-vertices : (face first before : ℕ) (rest : Polygon) → map (λ (t : Turn). t.vertex) (turns_from face first before rest) ≡ rest
path-vertices face first before [] = refl
path-vertices face first before (v ∷ rest) = ap (λ xs. v ∷ xs) (path-vertices face first v rest)

-- the corners of a face, one for each
pub face-vertices : (face : ℕ) (polygon : Polygon) → map (λ (t : Turn). t.vertex) (turns_of face polygon) ≡ polygon
face-vertices face polygon = path-vertices face (get_or polygon 0 0) (get_or polygon (length polygon - 1) 0) polygon

-- the key of a corner, where the corner before it is cut to 32 bits, so that the key gives the vertex in any case
abbrev pub cut_key : Turn → ℕ
cut_key t = t.vertex * 2 ^ 32 + t.before % 2 ^ 32

-- a corner before that fits 32 bits is not cut
pub cut-same : (t : Turn) (key : ℕ) → key ≡ turn_key t → t.before < 2 ^ 32 → key ≡ cut_key t
cut-same t key is short = omega arith

-- corners that ascend by key ascend by vertex
pub cut-vertices : (turns : List Turn) → IsNonDecreasingBy cut_key turns → IsNonDecreasingBy (λ t. t.vertex) turns
cut-vertices turns sorted i j d h k = order (get_or turns i d) (get_or turns j d) (sorted i j d h k)
  where
    order : (s t : Turn) → cut_key s ≤ cut_key t → s.vertex ≤ t.vertex
    order s t up = omega arith
