-- Subvolumes of eight files of three blocks each: what the commands of a generated chain do to
-- them.
use Rattle.std.specs.Prelude.{◌≡◌, ℕ, zero, suc, ◌+◌, ◌<◌, ◌≤◌, ◌==◌, Bool, true, false, List, [], ◌∷◌, length, take, drop, Some, Result, Ok, Err, is_some, nat_le, nat_lt, codes, if◌then◌else◌}
use Rattle.std.specs.Fmt.{digits}
use Rattle.std.proofs.Common.{refl, ap, ◌∙◌, arith, length-append}
use Rattle.std.proofs.lemmas.List.{length-take, length-drop, length-replicate}
use Rattle.send_model.specs.Refusal.{Refusal, NotFile, FileTooBig}
use Rattle.send_model.specs.Chain.{◌>>=◌, ◌>>◌, require}
use Rattle.send_model.specs.Path.{path_names}
use Rattle.send_model.specs.Subvolume.{Subvolume, is_file, walk}
use Rattle.send_model.specs.Edit.{greatest_end, overwritten, written_at, change_inode, set_cells, change_contents, rename, edit}
use Rattle.send_model.specs.Clone.{cells_of, is_aligned, cloned, clone, clone_values}
use Rattle.send_model.specs.Command.{Write}
use Rattle.send_model.specs.Generated.{file_name}
use Rattle.send_model.proofs.ExampleWords.{directory, file, edit_words}

-- A proof for each of the numbers below eight.
pub by_eight : (P : ℕ → Type 0) → P 0 → P 1 → P 2 → P 3 → P 4 → P 5 → P 6 → P 7 → (i : ℕ) → i < 8 → P i
by_eight P a b c d e f g h zero low = a
by_eight P a b c d e f g h (suc zero) low = b
by_eight P a b c d e f g h (suc (suc zero)) low = c
by_eight P a b c d e f g h (suc (suc (suc zero))) low = d
by_eight P a b c d e f g h (suc (suc (suc (suc zero)))) low = e
by_eight P a b c d e f g h (suc (suc (suc (suc (suc zero))))) low = f
by_eight P a b c d e f g h (suc (suc (suc (suc (suc (suc zero)))))) low = g
by_eight P a b c d e f g h (suc (suc (suc (suc (suc (suc (suc zero))))))) low = h
by_eight P a b c d e f g h (suc (suc (suc (suc (suc (suc (suc (suc n)))))))) low = absurd (omega (arith, low))

-- The subvolume of eight files with these contents, as the first part of a chain makes it.
abbrev pub eight : (ℕ → List ℕ) → Subvolume ℕ
eight f = record {
  inodes = (256, directory) ∷ (257, file (f 0)) ∷ (258, file (f 1)) ∷ (259, file (f 2)) ∷ (260, file (f 3)) ∷ (261, file (f 4)) ∷ (262, file (f 5)) ∷ (263, file (f 6)) ∷ (264, file (f 7)) ∷ [];
  names = ((256, codes "f0"), 257) ∷ ((256, codes "f1"), 258) ∷ ((256, codes "f2"), 259) ∷ ((256, codes "f3"), 260) ∷ ((256, codes "f4"), 261) ∷ ((256, codes "f5"), 262) ∷ ((256, codes "f6"), 263) ∷ ((256, codes "f7"), 264) ∷ [];
  next = 265;
}

-- The contents with one of them changed.
abbrev pub changed : ℕ → (List ℕ → List ℕ) → (ℕ → List ℕ) → ℕ → List ℕ
changed i change f j = if j == i then change (f j) else f j

abbrev KnowsFile : (ℕ → List ℕ) → ℕ → Type 0
KnowsFile f i = (walk (eight f) (file_name i) ≡ Ok (257 + i)) × (is_file (eight f) (257 + i) ≡ true) × (cells_of (eight f) (257 + i) ≡ f i) × (is_some (path_names (file_name i)) ≡ true)

knows_file : (f : ℕ → List ℕ) (i : ℕ) → i < 8 → KnowsFile f i
unfolding edit_words digits
knows_file f = by_eight (KnowsFile f) (refl, refl, refl, refl) (refl, refl, refl, refl) (refl, refl, refl, refl) (refl, refl, refl, refl) (refl, refl, refl, refl) (refl, refl, refl, refl) (refl, refl, refl, refl) (refl, refl, refl, refl)

changes_file : (change : List ℕ → List ℕ) (f : ℕ → List ℕ) (i : ℕ) → i < 8 → change_inode (257 + i) (set_cells change) (eight f) ≡ eight (changed i change f)
unfolding edit_words
changes_file change f = by_eight (λ i. change_inode (257 + i) (set_cells change) (eight f) ≡ eight (changed i change f)) refl refl refl refl refl refl refl refl

-- ---- renames

abbrev IsMoved : (ℕ → List ℕ) → ℕ → Subvolume ℕ → Type 0
IsMoved f i s = (rename (file_name i) (codes "t") (eight f) ≡ Ok s) × (rename (codes "t") (file_name i) s ≡ Ok (eight f))

subvolume_in : Subvolume ℕ → Result (Subvolume ℕ) Refusal → Subvolume ℕ
subvolume_in other (Ok s) = s
subvolume_in other (Err refusal) = other

pub moves_back : (f : ℕ → List ℕ) (i : ℕ) → i < 8 → (s : Subvolume ℕ) × IsMoved f i s
unfolding edit_words digits subvolume_in
moves_back f = by_eight (λ i. (s : Subvolume ℕ) × IsMoved f i s) (one 0, (refl, refl)) (one 1, (refl, refl)) (one 2, (refl, refl)) (one 3, (refl, refl)) (one 4, (refl, refl)) (one 5, (refl, refl)) (one 6, (refl, refl)) (one 7, (refl, refl))
  where
    one : ℕ → Subvolume ℕ
    one i = subvolume_in (eight f) (rename (file_name i) (codes "t") (eight f))

-- ---- writes

changed_contents : (path : List ℕ) (end : ℕ) (change : List ℕ → List ℕ) (s after : Subvolume ℕ) (ino : ℕ) → walk s path ≡ Ok ino → is_file s ino ≡ true → nat_le end greatest_end ≡ true → change_inode ino (set_cells change) s ≡ after
    → change_contents path end change s ≡ Ok after
unfolding change_contents
changed_contents path end change s after ino w f e is =
    ap (λ (r : Result ℕ Refusal). r >>= (λ at. require (is_file s at) NotFile >> (require (nat_le end greatest_end) FileTooBig >> Ok (change_inode at (set_cells change) s)))) w
    ∙ ap (λ (b : Bool). require b NotFile >> (require (nat_le end greatest_end) FileTooBig >> Ok (change_inode ino (set_cells change) s))) f
    ∙ ap (λ (b : Bool). require b FileTooBig >> Ok (change_inode ino (set_cells change) s)) e
    ∙ ap Ok is

pub writes_file : (f : ℕ → List ℕ) (i offset : ℕ) (put : List ℕ) → i < 8 → nat_le (offset + length put) greatest_end ≡ true
    → edit 0 put (Write (file_name i) offset put) (eight f) ≡ Ok (eight (changed i (written_at 0 offset put) f))
unfolding edit
writes_file f i offset put low end =
    let k = knows_file f i low in
    changed_contents (file_name i) (offset + length put) (written_at 0 offset put) (eight f) (eight (changed i (written_at 0 offset put) f)) (257 + i) k.0 k.1 end (changes_file (written_at 0 offset put) f i low)

-- ---- clones

pub clones_file : (f g : ℕ → List ℕ) (i j offset from : ℕ) → i < 8 → j < 8 → length (g j) ≡ 12_288 → is_aligned offset from 4_096 12_288 ≡ true → nat_lt 12_288 (from + 4_096) ≡ false → nat_le (offset + 4_096) greatest_end ≡ true
    → clone 0 (eight f) (Some (eight g)) false (clone_values (file_name i) offset (file_name j) from 4_096) ≡ Ok (eight (changed i (overwritten 0 offset (take 4_096 (drop from (g j)))) f))
unfolding clone cloned
clones_file f g i j offset from low low' size aligned inside end =
    let here = knows_file f i low in
    let there = knows_file g j low' in
    let len : length (cells_of (eight g) (257 + j)) ≡ 12_288 = ap length there.2 ∙ size in
    rw (here.3, there.3, here.0, here.1, there.0, there.1, len, inside, aligned, end) (ap (λ (cells : List ℕ). Ok (change_inode (257 + i) (set_cells (overwritten 0 offset (take 4_096 (drop from cells)))) (eight f))) there.2
    ∙ ap Ok (changes_file (overwritten 0 offset (take 4_096 (drop from (g j)))) f i low))

-- ---- lengths

pub overwritten_len : (offset : ℕ) (put cells : List ℕ) → offset + length put ≤ length cells → length (overwritten 0 offset put cells) ≡ length cells
unfolding overwritten
overwritten_len offset put cells inside = rw (length-append, length-append, length-take, length-append, length-replicate, length-drop) (omega (arith, inside))

pub written_len : (offset : ℕ) (put cells : List ℕ) → offset + length put ≤ length cells → length (written_at 0 offset put cells) ≡ length cells
unfolding written_at
written_len offset [] cells inside = refl
written_len offset (b ∷ put) cells inside = overwritten_len offset (b ∷ put) cells inside

pub filled_len : (put : List ℕ) → length (written_at 0 0 put []) ≡ length put
unfolding written_at overwritten
filled_len [] = refl
filled_len (b ∷ put) = rw (length-append, length-drop) (omega arith)

-- All eight contents have three blocks.
abbrev pub AreFull : (ℕ → List ℕ) → Type 0
AreFull f = (i : ℕ) → i < 8 → length (f i) ≡ 12_288

pub changed_full : (i : ℕ) (change : List ℕ → List ℕ) (f : ℕ → List ℕ) → ((cells : List ℕ) → length cells ≡ 12_288 → length (change cells) ≡ 12_288) → AreFull f → AreFull (changed i change f)
changed_full i change f keeps full j low = one (j == i)
  where
    one : (b : Bool) → length (if b then change (f j) else f j) ≡ 12_288
    one true = keeps (f j) (full j low)
    one false = full j low
