-- The stretches of a file's contents, piece by piece.
use Rattle.std.specs.Prelude.{◌≡◌, ⊤, ◌<◌, ℕ, zero, suc, ◌+◌, ◌==◌, Bool, true, false, List, [], ◌∷◌, ◌++◌, length, Option, None, Some, if◌then◌else◌}
use Rattle.std.specs.List.{flat_map}
use Rattle.std.proofs.Common.{refl, sym, ap, subst, ◌∙◌, arith, append_assoc, append-nil, eqb-true}
use Rattle.std.proofs.lemmas.Bool.{eqb-false}
use Rattle.send_model.specs.Command.{Command}
use Rattle.extent_map.specs.Pieces.{zero_cells}
use Rattle.snapshot_model.specs.Listing.{held}
use Rattle.snapshot_model.specs.Sent.{Stretch, onto_stretches, stretches, ends_in_hole, stretch_commands}

abbrev Cell : Type 0
Cell = Option ℕ

-- Bytes as one stretch, if there are any.
abbrev one : ℕ → List ℕ → List Stretch
one at [] = []
one at (b ∷ bytes) = record { at = at; bytes = b ∷ bytes } ∷ []

differs : (a b : ℕ) (t : Bool) → (a == b) ≡ t → (a ≡ b → ⊥) → t ≡ false
differs a b true e n = absurd (n (eqb-true a b e))
differs a b false e n = refl

pub itself : (a : ℕ) (t : Bool) → (a == a) ≡ t → t ≡ true
itself a true e = refl
itself a false e = absurd (eqb-false a a e refl)

-- None of them begins at a place or before it.
abbrev IsBehind : ℕ → List Stretch → Type 0
IsBehind at [] = ⊤
IsBehind at (s ∷ rest) = at < s.at

onto_later : (at byte : ℕ) (rest : List Stretch) → IsBehind (at + 1) rest → onto_stretches at byte rest ≡ record { at = at; bytes = byte ∷ [] } ∷ rest
onto_later at byte [] behind = refl
onto_later at byte (s ∷ rest) behind =
    let other : (s.at == at + 1) ≡ false = differs s.at (at + 1) (s.at == at + 1) refl (λ e. omega (arith, behind, e)) in
    ap (λ (b : Bool). if b then record { at = at; bytes = byte ∷ s.bytes } ∷ rest else record { at = at; bytes = byte ∷ [] } ∷ s ∷ rest) other

-- All stretches of cells from a place on begin there or later.
begin_from : (at low : ℕ) (cells : List Cell) → low < at → IsBehind low (stretches at cells)
begin_from at low [] less = tt
begin_from at low (None ∷ cells) less = begin_from (at + 1) low cells (omega (arith, less))
begin_from at low (Some byte ∷ cells) less = by (stretches (at + 1) cells)
  where
    by : (rest : List Stretch) → IsBehind low (onto_stretches at byte rest)
    by [] = less
    by (s ∷ rest) = joined (s.at == at + 1)
      where
        joined : (b : Bool) → IsBehind low (if b then record { at = at; bytes = byte ∷ s.bytes } ∷ rest else record { at = at; bytes = byte ∷ [] } ∷ s ∷ rest)
        joined true = less
        joined false = less

-- Bytes in front of what is not joined to them.
front_stretch : (at : ℕ) (bytes : List ℕ) (cells : List Cell) → IsBehind (at + length bytes) (stretches (at + length bytes) cells) → stretches at (held bytes ++ cells) ≡ one at bytes ++ stretches (at + length bytes) cells
front_stretch at [] cells behind = ap (λ (n : ℕ). stretches n cells) (omega arith)
front_stretch at (b ∷ []) cells behind =
    onto_later at b (stretches (at + 1) cells) behind
front_stretch at (b ∷ more ∷ bytes) cells behind =
    let next : (at + 1) + length (more ∷ bytes) ≡ at + length (b ∷ more ∷ bytes) = omega arith in
    let rest : stretches (at + 1) (held (more ∷ bytes) ++ cells) ≡ record { at = at + 1; bytes = more ∷ bytes } ∷ stretches (at + length (b ∷ more ∷ bytes)) cells =
    front_stretch (at + 1) (more ∷ bytes) cells (subst (λ (n : ℕ). IsBehind n (stretches n cells)) (sym next) behind)
    ∙ ap (λ (n : ℕ). record { at = at + 1; bytes = more ∷ bytes } ∷ stretches n cells) next in
    let same : ((at + 1) == (at + 1)) ≡ true = itself (at + 1) ((at + 1) == (at + 1)) refl in
    ap (onto_stretches at b) rest
    ∙ ap (λ (t : Bool). if t then record { at = at; bytes = b ∷ more ∷ bytes } ∷ stretches (at + length (b ∷ more ∷ bytes)) cells
    else record { at = at; bytes = b ∷ [] } ∷ record { at = at + 1; bytes = more ∷ bytes } ∷ stretches (at + length (b ∷ more ∷ bytes)) cells) same

-- ---- what is added for one piece

abbrev pub written : List ℕ → ℕ → List Cell → List Command
written path at cells = flat_map (stretch_commands path) (stretches at cells)

flat_both : (path : List ℕ) (s t : List Stretch) → flat_map (stretch_commands path) (s ++ t) ≡ flat_map (stretch_commands path) s ++ flat_map (stretch_commands path) t
flat_both path [] t = refl
flat_both path (x ∷ s) t = ap (λ (l : List Command). stretch_commands path x ++ l) (flat_both path s t) ∙ sym (append_assoc (stretch_commands path x) (flat_map (stretch_commands path) s) (flat_map (stretch_commands path) t))

one_written : (path : List ℕ) (at : ℕ) (bytes : List ℕ) → flat_map (stretch_commands path) (one at bytes) ≡ stretch_commands path (record { at = at; bytes = bytes })
one_written path at [] = refl
one_written path at (b ∷ bytes) = append-nil (stretch_commands path (record { at = at; bytes = b ∷ bytes }))

zeros_passed : (at len : ℕ) (cells : List Cell) → stretches at (zero_cells len ++ cells) ≡ stretches (at + len) cells
unfolding zero_cells
zeros_passed at zero cells = ap (λ (n : ℕ). stretches n cells) (omega arith)
zeros_passed at (suc len) cells = zeros_passed (at + 1) len cells ∙ ap (λ (n : ℕ). stretches n cells) (omega arith)

-- Bytes and a hole.
pub hole_next : (path : List ℕ) (at len : ℕ) (bytes : List ℕ) (cells : List Cell) → 0 < len
    → written path at (held bytes ++ (zero_cells len ++ cells)) ≡ stretch_commands path (record { at = at; bytes = bytes }) ++ written path ((at + length bytes) + len) cells
unfolding zero_cells
hole_next path at zero bytes cells some = absurd (omega (arith, some))
hole_next path at (suc len) bytes cells some =
    let place : ℕ = at + length bytes in
    ap (flat_map (stretch_commands path)) (front_stretch at bytes (None ∷ (zero_cells len ++ cells)) (begin_from (place + 1) place (zero_cells len ++ cells) (omega arith)))
    ∙ flat_both path (one at bytes) (stretches place (None ∷ (zero_cells len ++ cells)))
    ∙ ap (λ (l : List Command). l ++ written path place (None ∷ (zero_cells len ++ cells))) (one_written path at bytes)
    ∙ ap (λ (l : List Stretch). stretch_commands path (record { at = at; bytes = bytes }) ++ flat_map (stretch_commands path) l) (zeros_passed place (suc len) cells)

-- Bytes at the end.
pub end_next : (path : List ℕ) (at : ℕ) (bytes : List ℕ) → written path at (held bytes) ≡ stretch_commands path (record { at = at; bytes = bytes })
end_next path at bytes =
    ap (written path at) (sym (append-nil (held bytes)))
    ∙ ap (flat_map (stretch_commands path)) (front_stretch at bytes [] tt ∙ append-nil (one at bytes))
    ∙ one_written path at bytes

-- ---- the last cell

pub ends_zero : (cells : List Cell) (len : ℕ) → 0 < len → ends_in_hole (cells ++ zero_cells len) ≡ true
unfolding zero_cells
ends_zero cells zero some = absurd (omega (arith, some))
ends_zero [] (suc zero) some = refl
ends_zero [] (suc (suc len)) some = ends_zero [] (suc len) (omega arith)
ends_zero (None ∷ []) (suc len) some = ends_zero [] (suc len) some
ends_zero (Some byte ∷ []) (suc len) some = ends_zero [] (suc len) some
ends_zero (cell ∷ more ∷ cells) (suc len) some = ends_zero (more ∷ cells) (suc len) some

pub ends_held : (cells : List Cell) (bytes : List ℕ) → 0 < length bytes → ends_in_hole (cells ++ held bytes) ≡ false
ends_held cells [] some = absurd (omega (arith, some))
ends_held [] (b ∷ []) some = refl
ends_held [] (b ∷ more ∷ bytes) some = ends_held [] (more ∷ bytes) (omega arith)
ends_held (None ∷ []) (b ∷ bytes) some = ends_held [] (b ∷ bytes) some
ends_held (Some byte ∷ []) (b ∷ bytes) some = ends_held [] (b ∷ bytes) some
ends_held (cell ∷ more ∷ cells) (b ∷ bytes) some = ends_held (more ∷ cells) (b ∷ bytes) some
