-- Cells that are had of files are had of others that are as long.
use Rattle.std.specs.Prelude.{ℕ, ◌+◌, ◌<◌, ◌≤◌, List, [], ◌∷◌, Option, Some, None}
use Rattle.std.specs.List.{AllByRecursion}
use Rattle.std.proofs.Common.{sym, subst, ◌∙◌}
use Rattle.send_model.specs.Store as meant
use Rattle.subvol_catalog.specs.Entries.{key_of}
use Rattle.provenance.specs.declared.trace.Trace.{Trace}
use Rattle.provenance.specs.declared.trace.Trace.TheVariants.{Fresh, Outside}
use Rattle.clone_pieces.specs.Origins.{AreAsLong}
use Rattle.clone_pieces.specs.Filling.{IsHadIn, PieceHad}

module _ (count : ℕ) (held others : meant.Key → ℕ → List ℕ) (long : AreAsLong held others) where
  cell_as_long : (cell : Option Trace) → IsHadIn count others cell → IsHadIn count held cell
  cell_as_long None had = tt
  cell_as_long (Some (Fresh file at)) had = had
  cell_as_long (Some (Outside key ino at)) had = subst (λ (n : ℕ). at < n) (sym (long (key_of key) ino)) had

  pub cells_as_long : (cells : List (Option Trace)) → AllByRecursion (IsHadIn count others) cells → AllByRecursion (IsHadIn count held) cells
  cells_as_long [] all = tt
  cells_as_long (c ∷ cells) all = (cell_as_long c all.0, cells_as_long cells all.1)

  pub piece_as_long : (origin : Option Trace) (len : ℕ) → PieceHad count others origin len → PieceHad count held origin len
  piece_as_long None len had = tt
  piece_as_long (Some (Fresh file at)) len had = had
  piece_as_long (Some (Outside key ino at)) len had = subst (λ (n : ℕ). at + len ≤ n) (sym (long (key_of key) ino)) had

-- Of the same files, and of files that are as long as some that are as long.
pub long_then : (held mid others : meant.Key → ℕ → List ℕ) → AreAsLong held mid → AreAsLong mid others → AreAsLong held others
long_then held mid others first second key ino = first key ino ∙ second key ino
