-- How far the lines of a text were read, and what of them was written.
use Rattle.std.specs.Prelude.{◌≡◌, ◌≢◌, ◌⊎◌, ℕ, ◌≤◌, List, [], ◌++◌, length, take, Option, None}
use Rattle.text_model.specs.Texts.{Line, text_of_lines, bytes_of_lines}
use Rattle.text_model.specs.LineOrder.{Runs, due_after}

-- The lines before a place of a file are such as may stand one after the other, so many, and this
-- is due behind them. Of the bytes that they stand for some are written, and the last are kept: one
-- at least, unless there is no line.
pub record IsPackedTo (at number : ℕ) (due : Option ℕ)
    (pending written file : List ℕ) : Type 0 where
  pub lines : List Line
  pub runs : Runs None lines
  pub text : take at file ≡ text_of_lines lines
  pub within : at ≤ length file
  pub count : number ≡ length lines
  pub due_is : due ≡ due_after None lines
  pub bytes : written ++ pending ≡ bytes_of_lines lines
  pub some : (lines ≡ []) ⊎ (pending ≢ [])
