-- The commands that stand for a WRITE make of its file what the WRITE makes, with what was there in
-- place of the bytes that do not stand.
use Rattle.std.specs.Prelude.{◌≡◌, ℕ, ◌+◌, ◌-◌, ◌<◌, ◌≤◌, ◌==◌, Bool, true, false, not, ◌&&◌, List, [], ◌∷◌, ◌++◌, map, length, Some, Ok, nat_le, nat_lt, if◌then◌else◌}
use Rattle.std.specs.List.{AllByRecursion}
use Rattle.std.specs.Ordering.{nat_cmp}
use Rattle.std.proofs.Common.{refl, sym, ap, subst, ◌∙◌, arith, eqb-true}
use Rattle.std.proofs.lemmas.Bool.{leb-true, le-leb, ltb-true, ltb-false, and_parts}
use Rattle.send_model.specs.Command.{Command, Write, Truncate}
use Rattle.send_model.specs.Map.{IsMap}
use Rattle.send_model.specs.Subvolume.{Inode, Subvolume, inode_at, is_file, walk}
use Rattle.send_model.specs.Edit.{greatest_end, resized, overwritten, written_at, set_inode, change_inode, set_cells, change_contents, edit}
use Rattle.send_model.proofs.Overwriting.{written_at-append}
use Rattle.send_model.proofs.Rewriting.{changed, cells_walk, cells_file, cells_twice}
use Rattle.send_model.proofs.Separators.{unchanged, EditsTo}
use Rattle.squash_model.specs.Squashed.{Stretch, in_front, stretches, write_of, lengthened}
use Rattle.squash_model.proofs.Laid.{filled_long, resized_fills, laid, mixed, laid_len, laid_filled, laid_reaches}

-- ---- stretches

-- Cells after stretches are written one after the other.
abbrev pub after_stretches : List Stretch → List ℕ → List ℕ
after_stretches [] c = c
after_stretches (s ∷ ss) c = after_stretches ss (written_at 0 s.at s.bytes c)

written_one : (at b : ℕ) (c : List ℕ) → written_at 0 at (b ∷ []) c ≡ overwritten 0 at (b ∷ []) c
unfolding written_at
written_one at b c = refl

front_first : (at b : ℕ) (ss : List Stretch) (c : List ℕ) → after_stretches (in_front at b ss) c ≡ after_stretches ss (written_at 0 at (b ∷ []) c)
front_first at b [] c = refl
front_first at b (first ∷ rest) c = one (first.at == at + 1) refl
  where
    one : (t : Bool) → (first.at == at + 1) ≡ t
        → after_stretches (if t then record { at = at; bytes = b ∷ first.bytes } ∷ rest else record { at = at; bytes = b ∷ [] } ∷ first ∷ rest) c
        ≡ after_stretches (first ∷ rest) (written_at 0 at (b ∷ []) c)
    one true e =
        let next : first.at ≡ at + 1 = eqb-true first.at (at + 1) e in
        ap (after_stretches rest) (sym (written_at-append 0 at (b ∷ []) first.bytes c) ∙ ap (λ (k : ℕ). written_at 0 k first.bytes (written_at 0 at (b ∷ []) c)) (sym next))
    one false e = refl

-- Stretches are the bytes that stand, one at a time.
pub stretches_laid : (standing : ℕ → Bool) (count at : ℕ) (bytes c : List ℕ) → after_stretches (stretches standing count at bytes) c ≡ laid 0 standing count at bytes c
stretches_laid standing count at [] c = refl
stretches_laid standing count at (b ∷ bytes) c = one (standing count) (stretches_laid standing (count + 1) (at + 1) bytes)
  where
    rest : List Stretch
    rest = stretches standing (count + 1) (at + 1) bytes

    one : (t : Bool) → ((d : List ℕ) → after_stretches rest d ≡ laid 0 standing (count + 1) (at + 1) bytes d)
        → after_stretches (if t then in_front at b rest else rest) c ≡ laid 0 standing (count + 1) (at + 1) bytes (if t then overwritten 0 at (b ∷ []) c else c)
    one true more = front_first at b rest c ∙ more (written_at 0 at (b ∷ []) c) ∙ ap (laid 0 standing (count + 1) (at + 1) bytes) (written_one at b c)
    one false more = more c

-- They end where the bytes do.
abbrev EndBy : ℕ → List Stretch → Type 0
EndBy top ss = AllByRecursion (λ s. s.at + length s.bytes ≤ top) ss

front_ends : (top at b : ℕ) (ss : List Stretch) → at + 1 ≤ top → EndBy top ss → EndBy top (in_front at b ss)
front_ends top at b [] h all = (h, tt)
front_ends top at b (first ∷ rest) h all = one (first.at == at + 1) refl
  where
    one : (t : Bool) → (first.at == at + 1) ≡ t → EndBy top (if t then record { at = at; bytes = b ∷ first.bytes } ∷ rest else record { at = at; bytes = b ∷ [] } ∷ first ∷ rest)
    one true e = let next : first.at ≡ at + 1 = eqb-true first.at (at + 1) e in let here = all.0 in (omega (arith, next, here), all.1)
    one false e = (h, all)

stretches_end : (standing : ℕ → Bool) (top count at : ℕ) (bytes : List ℕ) → at + length bytes ≤ top → EndBy top (stretches standing count at bytes)
stretches_end standing top count at [] h = tt
stretches_end standing top count at (b ∷ bytes) h = one (standing count) (stretches_end standing top (count + 1) (at + 1) bytes (omega (arith, h)))
  where
    rest : List Stretch
    rest = stretches standing (count + 1) (at + 1) bytes

    one : (t : Bool) → EndBy top rest → EndBy top (if t then in_front at b rest else rest)
    one true more = front_ends top at b rest (omega (arith, h)) more
    one false more = more

-- ---- the edits

module _ (path : List ℕ) (ino : ℕ) (s : Subvolume ℕ) (old : Inode ℕ) (walked : walk s path ≡ Ok ino) (file : is_file s ino ≡ true) (there : inode_at s ino ≡ Some old)
    (ordered : IsMap nat_cmp s.inodes) where
  -- The subvolume with other cells in the file.
  abbrev pub with_those : (List ℕ → List ℕ) → Subvolume ℕ
  with_those g = change_inode ino (set_cells g) s

  as_it_was : with_those (λ c. c) ≡ s
  as_it_was = unchanged ino (set_cells (λ c. c)) s ordered (λ i e. refl)

  same_those : (g h : List ℕ → List ℕ) → g old.cells ≡ h old.cells → with_those g ≡ with_those h
  same_those g h e =
      changed ino (set_cells g) s old there
      ∙ ap (λ (cells : List ℕ). set_inode ino (record old { cells = cells }) s) e
      ∙ sym (changed ino (set_cells h) s old there)

  contents_edit : (g change : List ℕ → List ℕ) (end : ℕ) → nat_le end greatest_end ≡ true → change_contents path end change (with_those g) ≡ Ok (with_those (λ c. change (g c)))
  unfolding change_contents
  contents_edit g change end fits =
      let w : walk (with_those g) path ≡ Ok ino = cells_walk ino g s old there path ∙ walked in
      let f : is_file (with_those g) ino ≡ true = cells_file ino g s old there ino ∙ file in
      rw (w, f, fits) (ap (λ (x : Subvolume ℕ). Ok x) (cells_twice ino g change s old there))

  write_edit : (g : List ℕ → List ℕ) (at : ℕ) (bytes : List ℕ) → nat_le (at + length bytes) greatest_end ≡ true
      → edit 0 bytes (Write path at bytes) (with_those g) ≡ Ok (with_those (λ c. written_at 0 at bytes (g c)))
  unfolding edit
  write_edit g at bytes fits = contents_edit g (written_at 0 at bytes) (at + length bytes) fits

  truncate_edit : (g : List ℕ → List ℕ) (size : ℕ) → nat_le size greatest_end ≡ true
      → edit 0 [] (Truncate size path) (with_those g) ≡ Ok (with_those (λ c. resized 0 size (g c)))
  unfolding edit
  truncate_edit g size fits = contents_edit g (resized 0 size) size fits

  stretch_edits : (top : ℕ) (ss : List Stretch) (g : List ℕ → List ℕ) (rest : List Command) (t : Subvolume ℕ) → nat_le top greatest_end ≡ true → EndBy top ss
      → EditsTo (with_those (λ c. after_stretches ss (g c))) rest t → EditsTo (with_those g) (map (write_of path) ss ++ rest) t
  stretch_edits top [] g rest t fits ends e = e
  stretch_edits top (x ∷ ss) g rest t fits ends e =
      let within : x.at + length x.bytes ≤ top = ends.0 in
      (refl, (with_those (λ c. written_at 0 x.at x.bytes (g c)), write_edit g x.at x.bytes (below (x.at + length x.bytes) top greatest_end within fits), stretch_edits top ss (λ c. written_at 0 x.at x.bytes (g c)) rest t fits ends.1 e))
    where
      below : (a b greatest : ℕ) → a ≤ b → nat_le b greatest ≡ true → nat_le a greatest ≡ true
      below a b greatest h e = let q : b ≤ greatest = leb-true b greatest e in le-leb a greatest (omega (arith, h, q))

  module _ (standing : ℕ → Bool) (count offset b : ℕ) (bytes : List ℕ) (fits : nat_le (offset + length (b ∷ bytes)) greatest_end ≡ true) where
    abbrev all : List ℕ
    all = b ∷ bytes

    abbrev end : ℕ
    end = offset + length all

    abbrev put : List ℕ
    put = mixed 0 standing count offset all old.cells

    laid_there : List ℕ
    laid_there = laid 0 standing count offset all old.cells

    -- the end is there, or a TRUNCATE puts it there
    end_edits : (t : Bool) → (nat_lt (length old.cells) end && not (standing (count + length all - 1))) ≡ t
        → EditsTo (with_those (λ c. after_stretches (stretches standing count offset all) c)) (if t then Truncate end path ∷ [] else []) (with_those (overwritten 0 offset put))
    end_edits true e =
        let short : length old.cells < end = ltb-true (length old.cells) end (and_parts (nat_lt (length old.cells) end) _ e).0 in
        let g : List ℕ → List ℕ = λ c. after_stretches (stretches standing count offset all) c in
        let sizes = laid_len 0 standing count offset all old.cells in
        let is : resized 0 end (g old.cells) ≡ overwritten 0 offset put old.cells =
        ap (resized 0 end) (stretches_laid standing count offset all old.cells)
        ∙ resized_fills 0 end (laid 0 standing count offset all old.cells) (omega (arith, short, sizes.1))
        ∙ laid_filled 0 standing count offset b bytes old.cells in
        (refl, (with_those (λ c. resized 0 end (g c)), truncate_edit g end fits, same_those (λ c. resized 0 end (g c)) (overwritten 0 offset put) is))
    end_edits false e =
        let long : end ≤ length (laid 0 standing count offset all old.cells) = reached (standing (count + length all - 1)) refl e in
        same_those (λ c. after_stretches (stretches standing count offset all) c) (overwritten 0 offset put)
        (stretches_laid standing count offset all old.cells
        ∙ sym (filled_long 0 end (laid 0 standing count offset all old.cells) long)
        ∙ laid_filled 0 standing count offset b bytes old.cells)
      where
        reached : (last : Bool) → standing (count + length all - 1) ≡ last → (nat_lt (length old.cells) end && not last) ≡ false → end ≤ length (laid 0 standing count offset all old.cells)
        reached true l q = laid_reaches 0 standing count offset b bytes old.cells l
        reached false l q = let sizes = laid_len 0 standing count offset all old.cells in let size : end ≤ length old.cells = ltb-false (length old.cells) end (and_true (nat_lt (length old.cells) end) q) in omega (arith, size, sizes.0)
          where
            and_true : (x : Bool) → x && true ≡ false → x ≡ false
            and_true true y = y
            and_true false y = refl

    pub anew_edits : EditsTo s (map (write_of path) (stretches standing count offset all) ++ lengthened (standing (count + length all - 1)) (length old.cells) end path) (with_those (overwritten 0 offset put))
    anew_edits =
        subst (λ (x : Subvolume ℕ). EditsTo x (map (write_of path) (stretches standing count offset all) ++ lengthened (standing (count + length all - 1)) (length old.cells) end path) (with_those (overwritten 0 offset put))) as_it_was
        (stretch_edits end (stretches standing count offset all) (λ c. c) (lengthened (standing (count + length all - 1)) (length old.cells) end path) (with_those (overwritten 0 offset put)) fits
        (stretches_end standing end count offset all (omega arith)) (end_edits (nat_lt (length old.cells) end && not (standing (count + length all - 1))) refl))
