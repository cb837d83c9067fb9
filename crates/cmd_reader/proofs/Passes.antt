-- What a pass says, by the parts of a pass.
use Rattle.std.proofs.Common.{ℕ, List, Option, Result}
use Rattle.tlv_frame.specs.Feeding.{Fed}
use Rattle.tlv_frame.specs.declared.feed.Passed.{Passed}
use Rattle.cmd_reader.specs.declared.fault.Fault.{Fault}
use Rattle.cmd_reader.specs.Sources as sources

abbrev pub PassSays : (told : Option (List (List ℕ × List ℕ))) (name : List ℕ) (at : ℕ) (feed : Fed) (next : ℕ) (new : Fed) (before now : ℕ) → Result (Option Passed) Fault → Type 0
PassSays told name at feed next new before now result =
    sources.PassSays (record { told = told; name = name; at = at; feed = feed; next = next; new = new }) before now result
