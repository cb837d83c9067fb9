-- Files with what is said in front of them, and what is read of them. This program's own.
use Rattle.std.specs.Prelude.{ℕ, List, []}
use Rattle.std.specs.List.{AllByRecursion}
use Rattle.send_model.specs.Attribute.{IsBytes}
use Rattle.send_model.specs.Overridden.{Overrides, AreLawfulOverrides}
use Rattle.send_model.specs.Sources.{Sources, sources, overridden_sources}

-- Files, and what is said in front of them.
pub record NamedFiles : Type 0 where
  pub bytes : List (List ℕ)
  pub overrides : Overrides

-- What is read of them.
abbrev pub read_of : NamedFiles → Sources
read_of files = overridden_sources files.overrides (sources files.bytes)

-- Files in front of which nothing is said.
abbrev pub unnamed : List (List ℕ) → NamedFiles
unnamed files = record { bytes = files; overrides = [] }

-- Files of bytes, with overrides that can be said in commands.
pub record AreGiven (files : NamedFiles) : Type 0 where
  pub bytes : AllByRecursion IsBytes files.bytes
  pub overrides : AreLawfulOverrides files.overrides
