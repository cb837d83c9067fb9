-- The words of contracts unpacked: what they speak of part by part, as the lemmas name it.
use Rattle.std.specs.Prelude.{ℕ, Bool, List, Option, Result}
use Rattle.send_model.specs.Reading.{Item}
use Rattle.send_model.specs.Exported.{Exporting}
use Rattle.send_model.specs.Due.{Limited}
use Rattle.send_model.specs.Overridden.{Override, Overrides}
use Rattle.sx_base.specs.declared.outcome.Outcome.{Outcome}
use Rattle.sx_base.specs.declared.stop.Stop.{Stop}
use Rattle.stream_export.specs.Exporting.{Blank, Point}
use Rattle.stream_export.specs.Steps as steps

abbrev spot : Point → List ℕ → Option (List ℕ) → steps.Spot
spot point bytes taken = record { point = point; bytes = bytes; taken = taken }

-- ---- one command

abbrev pub Takes : (old new : Exporting Blank) (begins : Bool) (item : Item) (bytes_old bytes_new : List ℕ) → Result (Unit {0}) Stop → Type 0
Takes old new begins item bytes_old bytes_new result = steps.Takes (record { now = old; begins = begins }) new item bytes_old bytes_new result

abbrev pub ItemStops : (old new : Point) (bytes_old bytes_new : List ℕ) (item : Item) (taken_old taken_now : Option (List ℕ)) (before now : ℕ) → Outcome → Type 0
ItemStops old new bytes_old bytes_new item taken_old taken_now before now outcome = steps.ItemStops (spot old bytes_old taken_old) (spot new bytes_new taken_now) item before now outcome

abbrev pub ItemEnds : (old new : Point) (bytes_old bytes_new : List ℕ) (item : Item) (taken_old taken_now : Option (List ℕ)) (before now : ℕ) → Result (Unit {0}) Outcome → Type 0
ItemEnds old new bytes_old bytes_new item taken_old taken_now before now result = steps.ItemEnds (spot old bytes_old taken_old) (spot new bytes_new taken_now) item before now result

-- ---- what is read from a point on

abbrev pub Stops : (old : Point) (read : Limited) (bytes_old bytes_new : List ℕ) (taken_old taken_now : Option (List ℕ)) → Outcome → Type 0
Stops old read bytes_old bytes_new taken_old taken_now outcome = steps.Stops (spot old bytes_old taken_old) read bytes_new taken_now outcome

abbrev pub FileTaken : (name : Override) (file : ℕ) (old new : Point) (bytes_old bytes_new : List ℕ) (taken_old taken_now : Option (List ℕ)) (bytes : List ℕ) → Type 0
FileTaken name file old new bytes_old bytes_new taken_old taken_now bytes = steps.FileTaken name file (spot old bytes_old taken_old) (spot new bytes_new taken_now) bytes

abbrev pub FileEnds : (name : Override) (file : ℕ) (old new : Point) (bytes_old bytes_new : List ℕ) (taken_old taken_now : Option (List ℕ)) → Result (Unit {0}) Outcome → (bytes : List ℕ) → Type 0
FileEnds name file old new bytes_old bytes_new taken_old taken_now result bytes = steps.FileEnds name file (spot old bytes_old taken_old) (spot new bytes_new taken_now) result bytes

-- ---- all files

abbrev pub AllTaken : (names : Overrides) (old : Point) (bytes_old bytes_new : List ℕ) (taken_old taken_now : Option (List ℕ)) (files : List (List ℕ)) → Type 0
AllTaken names old bytes_old bytes_new taken_old taken_now files = steps.AllTaken names (spot old bytes_old taken_old) bytes_new taken_now files

abbrev pub AllEnd : (names : Overrides) (old : Point) (bytes_old bytes_new : List ℕ) (taken_old taken_now : Option (List ℕ)) → Result (Unit {0}) Outcome → (files : List (List ℕ)) → Type 0
AllEnd names old bytes_old bytes_new taken_old taken_now result files = steps.AllEnd names (spot old bytes_old taken_old) bytes_new taken_now result files
