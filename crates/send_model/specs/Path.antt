-- Names and paths. Source: PATH_MAX and NAME_MAX of Linux, which btrfs-receive is bound by.
use Rattle.std.specs.Prelude.{ℕ, ◌==◌, Bool, ◌&&◌, not, List, [], ◌∷◌, length, Option, None, Some, nat_le, if◌then◌else◌, codes}
use Rattle.std.specs.List.{list_any, list_all}
use Rattle.std.specs.Str.{bytes_eq}

abbrev pub slash : ℕ
slash = 0x2f

-- A name: 1 to 255 bytes, no slash and no zero byte among them, and neither "." nor "..".
unfoldable pub is_name : List ℕ → Bool
is_name name =
    nat_le 1 (length name) && nat_le (length name) 255
    && not (list_any (λ b. b == slash) name)
    && not (list_any (λ b. b == 0) name)
    && not (bytes_eq name (codes "."))
    && not (bytes_eq name (codes ".."))

-- The byte in front of the first of the pieces.
abbrev pub onto_first : ℕ → List (List ℕ) → List (List ℕ)
onto_first b [] = (b ∷ []) ∷ []
onto_first b (piece ∷ pieces) = (b ∷ piece) ∷ pieces

-- The pieces between the slashes.
unfoldable pub between_slashes : List ℕ → List (List ℕ)
between_slashes [] = [] ∷ []
between_slashes (b ∷ bytes) =
    if b == slash then [] ∷ between_slashes bytes else onto_first b (between_slashes bytes)

abbrev pub longest_path : ℕ
longest_path = 4_095

-- The names of a path, from the root on: none for the empty path, which is the root itself. Nothing
-- where the path is too long, or is not empty and one of its pieces is no name.
unfoldable pub path_names : List ℕ → Option (List (List ℕ))
path_names [] = Some []
path_names (b ∷ bytes) =
    if nat_le (length (b ∷ bytes)) longest_path && list_all is_name (between_slashes (b ∷ bytes))
    then Some (between_slashes (b ∷ bytes)) else None
