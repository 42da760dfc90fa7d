-- One more corner of a face line.
use Rattle.std.proofs.Common.{◌≡◌, ℕ, Bool, true, false, ◌&&◌, List, [], ◌∷◌, ◌++◌, map, Option, Some, None, Result, Ok, Err, refl, ap, sym, subst, ◌∙◌, append_assoc}
use Rattle.std.specs.List.{flat_map}
use Rattle.std.specs.Option.{option_or}
use Rattle.subdiv_model.specs.ObjFault as fault
use Rattle.subdiv_model.specs.ObjWord.{Counts, is_face_corner, same_form, corner_fault}
use Rattle.obj_tags.specs.Face.{IsFirst, IsNextCorner, NamesPlaces, ArePlacesOf, named_point, named_textures, list_of}
use Rattle.obj_tags.specs.Corner.{IsCornerOf}
use Rattle.obj_tags.specs.Kept.{KeptUnless}
use Rattle.obj_tags.specs.View.{cause_of}
use Rattle.obj_tags.specs.declared.corner.Corner.{Corner}
use Rattle.obj_tags.specs.declared.face.Places.{Places}
use Rattle.obj_tags.specs.declared.fault.LineFault.{LineFault}
use Rattle.obj_tags.specs.declared.fault.LineFault.TheVariants.{Cause}
use Rattle.obj_tags.specs.declared.fault.ObjCause.{ObjCause}
use Rattle.obj_tags.proofs.WalkLemmas.{cause-none, cause-some}

-- the next word is no corner of the form of the first
pub bad-corner : (b w : Counts) (first word : List ℕ) (left next all : List (List ℕ)) (cause : ObjCause) → left ≡ word ∷ next
    → fault.first_cause (corner_fault b w first) left ≡ fault.first_cause (corner_fault b w first) all
    → IsNextCorner (Err cause) first word → fault.first_cause (corner_fault b w first) all ≡ Some (cause_of cause)
bad-corner b w first word left next all cause e so_far bad =
    let here : corner_fault b w first word ≡ Some fault.BadCorner = rw bad.0 refl in
    sym so_far ∙ ap (fault.first_cause (corner_fault b w first)) e ∙ cause-some (corner_fault b w first) word next fault.BadCorner here ∙ ap (λ c. Some c) (sym bad.1)

-- the corner names a place that is not there
pub bad-places : (b w : Counts) (first word : List ℕ) (left next all : List (List ℕ)) (corner : Corner) (cause : ObjCause) → left ≡ word ∷ next
    → fault.first_cause (corner_fault b w first) left ≡ fault.first_cause (corner_fault b w first) all
    → IsNextCorner (Ok corner) first word → NamesPlaces (Err cause) b w word
    → fault.first_cause (corner_fault b w first) all ≡ Some (cause_of cause)
bad-places b w first word left next all corner cause e so_far good bad =
    let here : corner_fault b w first word ≡ Some fault.IndexRange = rw (good.0, bad.0) refl in
    sym so_far ∙ ap (fault.first_cause (corner_fault b w first)) e ∙ cause-some (corner_fault b w first) word next fault.IndexRange here ∙ ap (λ c. Some c) (sym bad.1)

-- the word is a corner, and its places are kept
pub good-corner : (b w : Counts) (first word : List ℕ) (left next all : List (List ℕ)) (corner : Corner) (places : Places) → left ≡ word ∷ next
    → fault.first_cause (corner_fault b w first) left ≡ fault.first_cause (corner_fault b w first) all
    → IsNextCorner (Ok corner) first word → NamesPlaces (Ok places) b w word
    → fault.first_cause (corner_fault b w first) next ≡ fault.first_cause (corner_fault b w first) all
good-corner b w first word left next all corner places e so_far good named =
    let here : corner_fault b w first word ≡ None = rw (good.0, named.0) refl in
    sym (cause-none (corner_fault b w first) word next here) ∙ ap (fault.first_cause (corner_fault b w first)) (sym e) ∙ so_far

pub point-kept : (b w : Counts) (word : List ℕ) (left next : List (List ℕ)) (places : Places) (now new all : List ℕ) → left ≡ word ∷ next
    → now ++ map (named_point b w) left ≡ all → ArePlacesOf places b w word → new ≡ now ++ places.point ∷ []
    → new ++ map (named_point b w) next ≡ all
point-kept b w word left next places now new all e so_far are kept =
    ap (λ xs. xs ++ map (named_point b w) next) (kept ∙ ap (λ p. now ++ p ∷ []) are.point)
    ∙ append_assoc now (named_point b w word ∷ []) (map (named_point b w) next)
    ∙ ap (λ ws. now ++ map (named_point b w) ws) (sym e) ∙ so_far

pub textures-kept : (b w : Counts) (word : List ℕ) (left next : List (List ℕ)) (places : Places) (now new all : List ℕ) → left ≡ word ∷ next
    → now ++ flat_map (named_textures b w) left ≡ all → ArePlacesOf places b w word → new ≡ now ++ list_of places.texture
    → new ++ flat_map (named_textures b w) next ≡ all
textures-kept b w word left next places now new all e so_far are kept =
    ap (λ xs. xs ++ flat_map (named_textures b w) next) (kept ∙ ap (λ ts. now ++ ts) are.texture)
    ∙ append_assoc now (named_textures b w word) (flat_map (named_textures b w) next)
    ∙ ap (λ ws. now ++ flat_map (named_textures b w) ws) (sym e) ∙ so_far

and-first : (p q : Bool) → p && q ≡ true → p ≡ true
and-first true q h = refl
and-first false q h = cc

pub corner-of : (first word : List ℕ) (corner : Corner) → IsNextCorner (Ok corner) first word → IsCornerOf corner word
corner-of first word corner good = record { is = and-first (is_face_corner word) (same_form first word) good.0; parts = good.1 }

-- the first corner of a line remains, and the next one is the first where none was before
pub first-kept : (first : Option Corner) (next : Corner) (start word later : List ℕ) → IsFirst first start word → IsCornerOf next word
    → IsFirst (option_or first (Some next)) start later
first-kept (Some corner) next start word later is here = is
first-kept None next start word later same here = subst (IsCornerOf next) (sym same) here

-- a line is refused for this cause
pub refused-for : {X : Type 0} (r : Result X LineFault) (found : Option fault.ObjCause) (cause : ObjCause) (Says : X → Type 0)
    → r ≡ Err (Cause cause) → found ≡ Some (cause_of cause) → KeptUnless r found Says
refused-for r found cause Says is e = subst (λ s. KeptUnless s found Says) (sym is) e
