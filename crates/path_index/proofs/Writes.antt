-- A path that is written from the end of a buffer to its front, over the names of an index.
use Rattle.std.specs.Prelude.{◌≡◌, ℕ, ◌+◌, ◌≤◌, true, List, [], ◌∷◌, ◌++◌, length, take, drop, Option, None, Some, IsTrue, is_some, slice_get}
use Rattle.std.proofs.Common.{refl, sym, ap, ap₂, subst, ◌∙◌, arith, append_assoc, append-nil, length-append}
use Rattle.std.proofs.Math.Seq.{drop-append_seam, drop-length}
use Rattle.std.proofs.lemmas.List.{length-take, length-drop}
use Rattle.send_model.specs.Path.{slash}
use Rattle.send_model.specs.Map.{Map}
use Rattle.send_model.specs.Subvolume.{Subvolume, IsLawful, root, named}
use Rattle.sx_base.specs.Bytes.{put_at}
use Rattle.path_index.specs.Places.{places_of, links_at, IsIndexed}
use Rattle.path_index.specs.Ways.{EndsAt, IsOnlyPath}
use Rattle.path_index.proofs.Indexing.{first_gives, nothing_first}
use Rattle.path_index.proofs.Upward.{Up, name_fits, at_place, one_up, at_root, no_way, too_long}

-- ---- bytes put into a buffer

put_there : (at end : ℕ) (piece bytes : List ℕ) → at + length piece ≡ end → end ≤ length bytes → drop at (put_at at piece bytes) ≡ piece ++ drop end bytes
put_there at end piece bytes e fits =
    let front : length (take at bytes) ≡ at = let l = length-take at bytes in omega (arith, l, e, fits) in
    ap (drop at) (append_assoc (take at bytes) piece (drop (at + length piece) bytes))
    ∙ ap (λ (n : ℕ). drop n (take at bytes ++ (piece ++ drop (at + length piece) bytes))) (sym front)
    ∙ drop-append_seam (take at bytes) (piece ++ drop (at + length piece) bytes)
    ∙ ap (λ (n : ℕ). piece ++ drop n bytes) e

put_long : (at end : ℕ) (piece bytes : List ℕ) → at + length piece ≡ end → end ≤ length bytes → length (put_at at piece bytes) ≡ length bytes
put_long at end piece bytes e fits =
    let t = length-take at bytes in
    let d = length-drop (at + length piece) bytes in
    let a = length-append (take at bytes ++ piece) (drop (at + length piece) bytes) in
    let b = length-append (take at bytes) piece in
    omega (arith, t, d, a, b, e, fits)

there_is : (o : Option ℕ) → is_some o ≡ true → (x : ℕ) × (o ≡ Some x)
there_is None e = cc
there_is (Some x) e = (x, refl)

module _ {C : Type 0} (s S : Subvolume C) (index : Map ℕ (List (ℕ × List ℕ))) (view : s ≡ S) (indexed : IsIndexed s index) where
  lawful : IsLawful S
  lawful = subst (λ (t : Subvolume C). IsLawful t) view indexed.lawful

  links : (ino : ℕ) → links_at index ino ≡ places_of S.names ino
  links ino = indexed.indexed ino ∙ ap (λ (t : Subvolume C). places_of t.names ino) view

  first_place : (ino : ℕ) (first : ℕ × List ℕ) → Some first ≡ slice_get (links_at index ino) 0 → (rest : List (ℕ × List ℕ)) × (places_of S.names ino ≡ first ∷ rest)
  first_place ino first e = first_gives (places_of S.names ino) first (ap (λ (ps : List (ℕ × List ℕ)). slice_get ps 0) (sym (links ino)) ∙ sym e)

  no_place : (ino : ℕ) → None ≡ slice_get (links_at index ino) 0 → places_of S.names ino ≡ []
  no_place ino e = nothing_first (places_of S.names ino) (ap (λ (ps : List (ℕ × List ℕ)). slice_get ps 0) (sym (links ino)) ∙ sym e)

  module _ (place : ℕ × List ℕ) where
    pub name_short : (name : List ℕ) → name ≡ place.1 → IsTrue (is_some (named S place.0 place.1)) → (1 ≤ length name) × (length name ≤ 255)
    name_short name e there = let t = there_is (named S place.0 place.1) there in let l = name_fits S lawful place t.0 t.1 in (omega (arith, l.0, ap length e), omega (arith, l.1, ap length e))

    pub begins : (name buffer new : List ℕ) (start directory : ℕ) → name ≡ place.1 → directory ≡ place.0 → IsTrue (is_some (named S place.0 place.1)) → length buffer ≡ 4095 → start + length name ≡ 4095 → new ≡ put_at start name buffer
        → Up S place directory (drop start new)
    begins name buffer new start directory e d there long at put =
        let t = there_is (named S place.0 place.1) there in
        let empty : drop 4095 buffer ≡ [] = ap (λ (n : ℕ). drop n buffer) (sym long) ∙ drop-length buffer in
        let bytes : drop start new ≡ place.1 = ap (drop start) put ∙ put_there start 4095 name buffer at (omega (arith, long)) ∙ ap (λ (r : List ℕ). name ++ r) empty ∙ append-nil name ∙ e in
        subst (λ (x : List ℕ). Up S place directory x) (sym bytes) (subst (λ (n : ℕ). Up S place n place.1) (sym d) (at_place S lawful place t.0 t.1))

    -- One name and a slash more.
    pub goes_on : (directory start first middle : ℕ) (buffer half new : List ℕ) (up : ℕ × List ℕ) (name other : List ℕ) (next : ℕ) → Up S place directory (drop start buffer) → (directory ≡ root → ⊥) → length buffer ≡ 4095 → start ≤ 4095
        → Some up ≡ slice_get (links_at index directory) 0 → name ≡ up.1 → next ≡ up.0 → middle + 1 ≡ start → half ≡ put_at middle (slash ∷ []) buffer → first + length name ≡ middle → new ≡ put_at first name half
        → Up S place next (drop first new)
    goes_on directory start first middle buffer half new up name other next h n long within found e d at put at' put' =
        let p = first_place directory up found in
        let half_long : length half ≡ 4095 = ap length put ∙ put_long middle start (slash ∷ []) buffer at (omega (arith, long, within)) ∙ long in
        let one : drop middle half ≡ slash ∷ drop start buffer = ap (drop middle) put ∙ put_there middle start (slash ∷ []) buffer at (omega (arith, long, within)) in
        let two : drop first new ≡ up.1 ++ slash ∷ drop start buffer =
        ap (drop first) put' ∙ put_there first middle name half at' (omega (arith, half_long, at, within)) ∙ ap₂ (λ (x y : List ℕ). x ++ y) e one in
        subst (λ (x : List ℕ). Up S place next x) (sym two) (subst (λ (m : ℕ). Up S place m (up.1 ++ slash ∷ drop start buffer)) (sym d) (one_up S lawful place directory (drop start buffer) h n up p.0 p.1))

    left_long : (start : ℕ) (buffer : List ℕ) → length buffer ≡ 4095 → start ≤ 4095 → start + length (drop start buffer) ≡ 4095
    left_long start buffer long within = let d = length-drop start buffer in omega (arith, d, long, within)

    pub written : (directory start : ℕ) (buffer : List ℕ) → Up S place directory (drop start buffer) → directory ≡ root → length buffer ≡ 4095 → start ≤ 4095 → IsOnlyPath S place (drop start buffer)
    written directory start buffer h e long within = at_root S lawful place directory (drop start buffer) h e (let l = left_long start buffer long within in omega (arith, l))

    pub ends_nowhere : (directory start : ℕ) (buffer : List ℕ) → Up S place directory (drop start buffer) → (directory ≡ root → ⊥) → None ≡ slice_get (links_at index directory) 0 → (other : List ℕ) → EndsAt S place other → ⊥
    ends_nowhere directory start buffer h n none = no_way S lawful place directory (drop start buffer) h n (no_place directory none)

    pub no_room : (directory start : ℕ) (buffer : List ℕ) (up : ℕ × List ℕ) (name : List ℕ) → Up S place directory (drop start buffer) → (directory ≡ root → ⊥) → length buffer ≡ 4095 → start ≤ 4095 → Some up ≡ slice_get (links_at index directory) 0
        → name ≡ up.1 → start ≤ length name → (other : List ℕ) → EndsAt S place other → ⊥
    no_room directory start buffer up name h n long within found e low =
        let p = first_place directory up found in
        let l = left_long start buffer long within in
        too_long S lawful place directory (drop start buffer) h n up p.0 p.1 (omega (arith, low, l, ap length e))

    -- ---- the same where nothing is written

    pub way_begins : (name : List ℕ) (directory : ℕ) → name ≡ place.1 → directory ≡ place.0 → IsTrue (is_some (named S place.0 place.1)) → Up S place directory name
    way_begins name directory e d there =
        let t = there_is (named S place.0 place.1) there in
        subst (λ (x : List ℕ). Up S place directory x) (sym e) (subst (λ (n : ℕ). Up S place n place.1) (sym d) (at_place S lawful place t.0 t.1))

    pub way_goes_on : (directory : ℕ) (path : List ℕ) (up : ℕ × List ℕ) (name : List ℕ) (next : ℕ) → Up S place directory path → (directory ≡ root → ⊥) → Some up ≡ slice_get (links_at index directory) 0 → name ≡ up.1 → next ≡ up.0
        → Up S place next (name ++ slash ∷ path)
    way_goes_on directory path up name next h n found e d =
        let p = first_place directory up found in
        subst (λ (x : List ℕ). Up S place next (x ++ slash ∷ path)) (sym e) (subst (λ (m : ℕ). Up S place m (up.1 ++ slash ∷ path)) (sym d) (one_up S lawful place directory path h n up p.0 p.1))

    pub way_longer : (room : ℕ) (path name : List ℕ) → room + length path ≡ 4095 → (left : ℕ) → left + (length name + 1) ≡ room → left + length (name ++ slash ∷ path) ≡ 4095
    way_longer room path name e left f = let a = length-append name (slash ∷ path) in omega (arith, a, e, f)

    pub way_ends : (directory : ℕ) (path : List ℕ) → Up S place directory path → directory ≡ root → (room : ℕ) → room + length path ≡ 4095 → IsOnlyPath S place path
    way_ends directory path h e room long = at_root S lawful place directory path h e (omega (arith, long))

    pub way_nowhere : (directory : ℕ) (path : List ℕ) → Up S place directory path → (directory ≡ root → ⊥) → None ≡ slice_get (links_at index directory) 0 → (other : List ℕ) → EndsAt S place other → ⊥
    way_nowhere directory path h n none = no_way S lawful place directory path h n (no_place directory none)

    pub way_too_long : (directory : ℕ) (path : List ℕ) (up : ℕ × List ℕ) (name : List ℕ) (room : ℕ) → Up S place directory path → (directory ≡ root → ⊥) → room + length path ≡ 4095 → Some up ≡ slice_get (links_at index directory) 0
        → name ≡ up.1 → room ≤ length name → (other : List ℕ) → EndsAt S place other → ⊥
    way_too_long directory path up name room h n long found e low =
        let p = first_place directory up found in
        too_long S lawful place directory path h n up p.0 p.1 (omega (arith, low, long, ap length e))
