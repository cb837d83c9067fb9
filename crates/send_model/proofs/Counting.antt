-- The literal bytes and the clones of composed commands, as sums over the commands.
use Rattle.std.specs.Prelude.{◌≡◌, ℕ, zero, suc, ◌+◌, ◌≤◌, Bool, cond, List, [], ◌∷◌, length, take, drop}
use Rattle.std.specs.List.{sum_by, count_by}
use Rattle.std.proofs.Common.{refl, ap, ◌∙◌, arith}
use Rattle.std.proofs.lemmas.List.{length-drop, length-take}
use Rattle.std.proofs.lemmas.List.Sums.{sum_by-cons}
use Rattle.send_model.specs.Command.{Command, Write}
use Rattle.send_model.specs.Store.{Store}
use Rattle.send_model.specs.Receive.{bytes_of}
use Rattle.send_model.specs.Provenance.{Piece, Carried, Literal, literal_len, is_run}
use Rattle.send_model.specs.Counts.{is_clone}
use Rattle.send_model.specs.Composed.{write_len, writes_from, piece_commands}

abbrev pub len_of : Command → ℕ
len_of c = length (bytes_of c)

abbrev pub written : List Command → ℕ
written cs = sum_by len_of cs

-- What the pieces of a clone write.
writes_len : (w n at : ℕ) (path bytes : List ℕ) → write_len ≡ suc w → length bytes ≤ n → written (writes_from n path at bytes) ≡ length bytes
writes_len w zero at path [] e l = refl
writes_len w zero at path (b ∷ bytes) e l = absurd (omega (arith, l))
writes_len w (suc n) at path [] e l = refl
writes_len w (suc n) at path (b ∷ bytes) e l =
    let d = length-drop w bytes in
    let rest : ℕ → List Command = λ m. Write path at (take m (b ∷ bytes)) ∷ writes_from n path (at + m) (drop m (b ∷ bytes)) in
    let more = writes_len w n (at + suc w) path (drop w bytes) e (omega (arith, l, d)) in
    ap (λ (m : ℕ). written (rest m)) e ∙ sum_by-cons len_of (Write path at (b ∷ take w bytes)) (writes_from n path (at + suc w) (drop w bytes)) ∙ (omega (arith, more, d, length-take w bytes))

writes_clones : (n at : ℕ) (path bytes : List ℕ) → count_by is_clone (writes_from n path at bytes) ≡ 0
writes_clones zero at path bytes = refl
writes_clones (suc n) at path [] = refl
writes_clones (suc n) at path (b ∷ bytes) = writes_clones n (at + write_len) path (drop write_len (b ∷ bytes))

abbrev pub one_if : Bool → ℕ
one_if b = cond b 1 0

pub piece_written : (store : Store ℕ) (path : List ℕ) (offset : ℕ) (p : Piece) → written (piece_commands store path offset p) ≡ literal_len p
piece_written store path offset (Literal at bytes) = writes_len 49151 (length bytes) (offset + at) path bytes refl (omega arith)
piece_written store path offset (Carried at place len) = refl

pub piece_clones : (store : Store ℕ) (path : List ℕ) (offset : ℕ) (p : Piece) → count_by is_clone (piece_commands store path offset p) ≡ one_if (is_run p)
piece_clones store path offset (Literal at bytes) = writes_clones (length bytes) (offset + at) path bytes
piece_clones store path offset (Carried at place len) = refl
