-- The cells of runs and of pieces, one by one.
use Rattle.std.proofs.Common.{◌≡◌, ℕ, ◌<◌, Option, Some, None, [], length, get_or, refl, arith}
use Rattle.std.proofs.lemmas.List.{length-replicate, get_or-replicate}
use Rattle.std.proofs.lemmas.List.FromFn.{length-map-range_with_len, get_or-map-range_with_len}
use lib.ListN.{replicate}
use Rattle.extent_map.specs.Pieces.{run_cells, zero_cells, piece_cells}

pub length-zero_cells : (O : Type 0) (len : ℕ) → length (zero_cells {O = O} len) ≡ len
unfolding zero_cells
length-zero_cells O len = length-replicate len None

module _ {O : Type 0} (advanced : O → ℕ → O) where
  pub length-run_cells : (origin : O) (len : ℕ) → length (run_cells advanced origin len) ≡ len
  unfolding run_cells
  length-run_cells origin len = length-map-range_with_len (λ k. Some (advanced origin k)) 0 len

  pub get_or-run_cells : (origin : O) (len k : ℕ) → k < len → get_or (run_cells advanced origin len) k None ≡ Some (advanced origin k)
  unfolding run_cells
  get_or-run_cells origin len k h = get_or-map-range_with_len (λ n. Some (advanced origin n)) 0 len k k None h (omega arith)

  pub piece_run : (origin : O) (len : ℕ) → run_cells advanced origin len ≡ piece_cells advanced (Some origin) len
  unfolding piece_cells
  piece_run origin len = refl

  pub piece_zeros : (len : ℕ) → zero_cells len ≡ piece_cells advanced None len
  unfolding piece_cells
  piece_zeros len = refl

  pub piece_none : [] ≡ piece_cells advanced None 0
  unfolding piece_cells zero_cells
  piece_none = refl

  pub piece_replicate : (len : ℕ) → piece_cells advanced None len ≡ replicate len None
  unfolding piece_cells zero_cells
  piece_replicate len = refl

  pub length-piece : (origin : Option O) (len : ℕ) → length (piece_cells advanced origin len) ≡ len
  unfolding piece_cells
  length-piece None len = length-zero_cells O len
  length-piece (Some origin) len = length-run_cells origin len

  pub get_or-hole : (len k : ℕ) → k < len → get_or (piece_cells advanced None len) k None ≡ None
  unfolding piece_cells zero_cells
  get_or-hole len k h = get_or-replicate len k None None h

  pub get_or-run : (origin : O) (len k : ℕ) → k < len → get_or (piece_cells advanced (Some origin) len) k None ≡ Some (advanced origin k)
  unfolding piece_cells
  get_or-run origin len k h = get_or-run_cells origin len k h
