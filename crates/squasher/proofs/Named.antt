-- An item with what is said in front of its file, as it is written in place of the one that was read.
use Rattle.std.specs.Prelude.{◌≡◌, ℕ, true, List, Result, OnOk}
use Rattle.std.proofs.Common.{sym, ap, subst, ◌∙◌}
use Rattle.send_model.specs.Command.{Command}
use Rattle.send_model.specs.Spelling.{canonical}
use Rattle.send_model.specs.Reading.{Item}
use Rattle.send_model.specs.Overridden.{Override, command_as}
use Rattle.send_commands.specs.Meaning.{meaning_of}
use Rattle.cmd_reader.specs.declared.item.Item as read
use Rattle.clone_pieces.specs.Sending.{Output}
use Rattle.part_names.specs.Overriding.{IsOverridden}
use Rattle.squash_log.specs.Fates.{Fate}
use Rattle.squasher.specs.declared.writing.WriteStop.{WriteStop}
use Rattle.squasher.specs.Writing.{Puts, written_for, fates_behind}

module _ (said : Override) (item new : read.Item) (e : IsOverridden said item new) where
  pub same_version : new.version ≡ item.version
  same_version = ap (λ (x : Item). x.version) (e.meant 1)

  pub same_command : meaning_of new.command ≡ command_as said (meaning_of item.command)
  same_command = ap (λ (x : Item). x.command) (e.meant 1)

  -- Where it counts as spelled in the canonical way, it is the command that was read.
  pub still_spelled : (frame : List ℕ) → (item.canonical ≡ true → frame ≡ canonical item.version (meaning_of item.command)) → new.canonical ≡ true → frame ≡ canonical new.version (meaning_of new.command)
  still_spelled frame spelled is =
      let k = e.frame is in
      spelled k.0 ∙ ap (canonical item.version) (sym k.1) ∙ ap (λ (v : ℕ). canonical v (meaning_of new.command)) (sym same_version)

  -- What is left of the fates behind it.
  pub passes : (old now : List Fate) (r : Result (Unit {0}) WriteStop) → OnOk r (now ≡ fates_behind old (meaning_of new.command)) → OnOk r (now ≡ fates_behind old (command_as said (meaning_of item.command)))
  passes old now r p = subst (λ (c : Command). OnOk r (now ≡ fates_behind old c)) same_command p

  -- And what was put for it.
  pub puts_as : (fates : List Fate) (old now : Output) (r : Result (Unit {0}) WriteStop) → Puts new.version old now (written_for fates (meaning_of new.command)) r → Puts item.version old now (written_for fates (command_as said (meaning_of item.command))) r
  puts_as fates old now r p =
      subst (λ (c : Command). Puts item.version old now (written_for fates c) r) same_command
      (subst (λ (v : ℕ). Puts v old now (written_for fates (meaning_of new.command)) r) same_version p)
