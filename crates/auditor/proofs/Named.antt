-- A command that was read, with what is said in front of its file, has as many data.
use Rattle.std.specs.Prelude.{◌≡◌, ℕ, ◌≤◌, List, length, Option, None, Some}
use Rattle.std.proofs.Common.{refl, sym, ap, subst, ◌∙◌}
use Rattle.send_model.specs.Command.{Command, Subvol, Snapshot}
use Rattle.send_model.specs.Reading.{Item}
use Rattle.send_model.specs.Receive.{bytes_of}
use Rattle.send_model.proofs.Overriding.{same_bytes}
use Rattle.send_model.specs.Overridden.{Override, overridden_as}
use Rattle.send_commands.specs.Meaning.{meaning_of}
use Rattle.clone_resolve.specs.Steps.{data_len}
use Rattle.cmd_reader.specs.declared.item.Item as read
use Rattle.cmd_reader.specs.Next.{item_of}

pub still_short : (file most : ℕ) (override : Override) (item new : read.Item) → item_of file new ≡ overridden_as override (item_of file item) → data_len (meaning_of item.command) ≤ most → data_len (meaning_of new.command) ≤ most
still_short file most override item new named short =
    subst (λ (bytes : List ℕ). length bytes ≤ most) (sym (same_bytes override (meaning_of item.command)) ∙ sym (ap (λ (i : Item). bytes_of i.command) named)) short
