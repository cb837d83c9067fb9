-- The text of a CLONE, value by value.
use Rattle.std.specs.Prelude.{◌≡◌, ℕ, List, [], ◌∷◌, ◌++◌}
use Rattle.std.proofs.Common.{Bor, sym, ap, ◌∙◌, append_assoc}
use Rattle.send_model.specs.Attribute.{Identifier, Number, Bytes}
use Rattle.send_model.specs.Command.{CLONE, row}
use Rattle.send_model.specs.Lines.{values_with}
use Rattle.send_commands.specs.Meaning.{meaning_of}
use Rattle.send_commands.specs.declared.command.Command.{Command}
use Rattle.send_commands.specs.declared.command.Command.TheVariants as made
use Rattle.stream_dump.specs.Values.{command_text}

pub clone_printed : (contents : List ℕ → List ℕ) (to : List ℕ) (command : Command) (path : Bor (List ℕ)) (offset : ℕ) (clone_uuid : List ℕ) (clone_ctransid : ℕ) (clone_path : Bor (List ℕ)) (clone_offset clone_len : ℕ)
    → command ≡ made.Clone path offset clone_uuid clone_ctransid clone_path clone_offset clone_len
    → (to ++ (row CLONE).name) ++ values_with contents (row CLONE).wanted (Bytes path.now ∷ Number offset ∷ Identifier clone_uuid ∷ Number clone_ctransid ∷ Bytes clone_path.now ∷ Number clone_offset ∷ Number clone_len ∷ [])
    ≡ to ++ command_text contents (meaning_of command)
unfolding command_text
clone_printed contents to command path offset clone_uuid clone_ctransid clone_path clone_offset clone_len is =
    append_assoc to (row CLONE).name (values_with contents (row CLONE).wanted (Bytes path.now ∷ Number offset ∷ Identifier clone_uuid ∷ Number clone_ctransid ∷ Bytes clone_path.now ∷ Number clone_offset ∷ Number clone_len ∷ []))
    ∙ sym (ap (λ (c : Command). to ++ command_text contents (meaning_of c)) is)
