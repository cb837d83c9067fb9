-- Paths as the names in front of their last one, and that one. Of the definitions alone.
use Rattle.std.specs.Prelude.{◌≡◌, ℕ, ◌+◌, ◌≤◌, ◌-◌, ◌==◌, Bool, true, false, ◌&&◌, List, [], ◌∷◌, ◌++◌, length, take, Some}
use Rattle.std.specs.List.{list_all, list_any, join_with_byte}
use Rattle.std.proofs.Common.{refl, sym, ap, ◌∙◌, arith, length-append}
use Rattle.std.proofs.lemmas.List.{append_assoc}
use Rattle.std.proofs.lemmas.Bool.{and_parts}
use Rattle.std.proofs.lemmas.List.Folds.{list_all-append}
use Rattle.std.proofs.Math.Seq.{take-append_seam}
use Rattle.std.proofs.lemmas.List.Splits.{join_with_byte-slice_split}
use Rattle.send_model.specs.Path.{slash, is_name, between_slashes, path_names}
use Rattle.send_model.specs.Subvolume.{all_but_last}
use Rattle.send_model.proofs.LeastPaths.{name_has_no_slash}
use Rattle.send_model.proofs.PathLaws.{between_slashes-split, path_by_pieces, none_left, path_names_pieces, path_names_all, is_name_length}
use Rattle.send_model.proofs.Stores.{or_parts}
use Rattle.inode_tree.specs.Places.{last_of}
use Rattle.inode_tree.specs.Walked.{front_of, GoesOn}

-- ---- pieces of names with slashes

-- A name in front of a slash is the first piece.
pub cut_off : (name rest : List ℕ) → list_any (λ b. b == slash) name ≡ false → between_slashes (name ++ slash ∷ rest) ≡ name ∷ between_slashes rest
unfolding between_slashes
cut_off [] rest none = refl
cut_off (b ∷ name) rest none = let p = or_parts (b == slash) (list_any (λ c. c == slash) name) none in rw (p.0, cut_off name rest p.1) refl

pieces_behind : (names : List (List ℕ)) (rest : List ℕ) → list_all is_name names ≡ true → between_slashes (front_of names ++ rest) ≡ names ++ between_slashes rest
pieces_behind [] rest good = refl
pieces_behind (name ∷ names) rest good =
    let p = and_parts (is_name name) (list_all is_name names) good in
    ap between_slashes (append_assoc name (slash ∷ front_of names) rest)
    ∙ cut_off name (front_of names ++ rest) (name_has_no_slash name p.0)
    ∙ ap (λ (pieces : List (List ℕ)). name ∷ pieces) (pieces_behind names rest p.1)

-- The names of what goes on behind a front follow those of the front.
pub names_behind : (names : List (List ℕ)) (path rest : List ℕ) (more : List (List ℕ)) → list_all is_name names ≡ true → GoesOn (front_of names) path rest → path_names rest ≡ Some more → path_names path ≡ Some (names ++ more)
names_behind names path rest more good goes found =
    let p = path_names_pieces rest more goes.some found in
    let pieces : between_slashes path ≡ names ++ more = ap between_slashes goes.is ∙ pieces_behind names rest good ∙ ap (λ (x : List (List ℕ)). names ++ x) (sym p.0) in
    let all : list_all is_name (between_slashes path) ≡ true = ap (list_all is_name) pieces ∙ list_all-append is_name names more ∙ ap (λ (b : Bool). b && list_all is_name more) good ∙ path_names_all rest more found in
    let long : length path ≡ length (front_of names) + length rest = ap length goes.is ∙ length-append (front_of names) rest in
    path_by_pieces path true (omega (arith, goes.some)) goes.short all ∙ ap (λ (x : List (List ℕ)). Some x) pieces

-- Bytes without a slash are one piece.
pub whole_piece : (name : List ℕ) → list_any (λ b. b == slash) name ≡ false → between_slashes name ≡ name ∷ []
unfolding between_slashes
whole_piece [] none = refl
whole_piece (b ∷ name) none = let p = or_parts (b == slash) (list_any (λ c. c == slash) name) none in rw (p.0, whole_piece name p.1) refl

-- A name is a path of that one name.
pub one_name : (name : List ℕ) → is_name name ≡ true → path_names name ≡ Some (name ∷ [])
one_name name good =
    let pieces = whole_piece name (name_has_no_slash name good) in
    let size = is_name_length name good in
    let all : list_all is_name (between_slashes name) ≡ true = ap (list_all is_name) pieces ∙ ap (λ (b : Bool). b && true) good in
    path_by_pieces name true (omega (arith, size.0)) (omega (arith, size.1)) all ∙ ap (λ (x : List (List ℕ)). Some x) pieces

-- ---- a path is its front and its last name

-- Bytes are their pieces, joined.
pub join_pieces : (bytes : List ℕ) → join_with_byte slash (between_slashes bytes) ≡ bytes
join_pieces bytes = ap (join_with_byte slash) (between_slashes-split bytes) ∙ join_with_byte-slice_split slash bytes

-- And a path is its names, joined.
pub path_is : (path : List ℕ) (names : List (List ℕ)) → path_names path ≡ Some names → join_with_byte slash names ≡ path
path_is [] names found = ap (join_with_byte slash) (none_left names found)
path_is (b ∷ path) names found = ap (join_with_byte slash) (path_names_pieces (b ∷ path) names (omega arith) found).0 ∙ join_pieces (b ∷ path)

joined : (name : List ℕ) (rest : List (List ℕ)) → join_with_byte slash (name ∷ rest) ≡ front_of (all_but_last (name ∷ rest)) ++ last_of name rest
joined name [] = refl
joined name (further ∷ rest) =
    ap (λ (x : List ℕ). name ++ slash ∷ x) (joined further rest) ∙ sym (append_assoc name (slash ∷ front_of (all_but_last (further ∷ rest))) (last_of further rest))

pub front_and_name : (path name : List ℕ) (rest : List (List ℕ)) → path_names path ≡ Some (name ∷ rest) → path ≡ front_of (all_but_last (name ∷ rest)) ++ last_of name rest
front_and_name path name rest found = sym (path_is path (name ∷ rest) found) ∙ joined name rest

pub front_lawful : (name : List ℕ) (rest : List (List ℕ)) → list_all is_name (name ∷ rest) ≡ true → list_all is_name (all_but_last (name ∷ rest)) ≡ true
front_lawful name [] good = refl
front_lawful name (further ∷ rest) good =
    let p = and_parts (is_name name) (list_all is_name (further ∷ rest)) good in
    ap (λ (b : Bool). b && list_all is_name (all_but_last (further ∷ rest))) p.0 ∙ front_lawful further rest p.1

-- What stands before the last name is cut off by its length.
pub front_cut : (path front name : List ℕ) → path ≡ front ++ name → (length name ≤ length path) × (take (length path - length name) path ≡ front)
front_cut path front name is =
    let long : length path ≡ length front + length name = ap length is ∙ length-append front name in
    let cut : length path - length name ≡ length front = omega (arith, long) in
    (omega (arith, long), ap (λ (n : ℕ). take n path) cut ∙ ap (take (length front)) is ∙ take-append_seam front name)

-- A path that is not empty has a name.
pub some_name : (b : ℕ) (path : List ℕ) → path_names (b ∷ path) ≡ Some [] → ⊥
some_name b path found = let none : [] ≡ b ∷ path = path_is (b ∷ path) [] found in cc
