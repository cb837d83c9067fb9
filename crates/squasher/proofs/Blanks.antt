-- What commands do to contents, and which files are there, over cells that carry nothing.
use Rattle.std.specs.Prelude.{◌≡◌, ℕ, [], Option, None, Some, IfSome, List, is_some}
use Rattle.std.specs.Option.{option_map, option_to_list}
use Rattle.std.proofs.Common.{refl, sym, ap, ◌∙◌}
use Rattle.send_model.specs.Command.{Command}
use Rattle.send_model.specs.Subvolume.{Subvolume, inode_at}
use Rattle.send_model.specs.Store.{Part}
use Rattle.send_model.specs.Cells.{recelled_part}
use Rattle.send_commands.specs.declared.command.Command as code
use Rattle.send_commands.specs.declared.command.Command.TheVariants as coded
use Rattle.send_commands.specs.Meaning.{meaning_of}
use Rattle.squash_model.specs.Liveness.{Living}
use Rattle.squash_log.specs.declared.change.Change.{Change}
use Rattle.squash_log.specs.Fates.{Fate, fates_of}
use Rattle.squash_log.specs.Resolved.{changes_for, changes_at}
use Rattle.squash_log.proofs.Resolving.{changes_same_at, there_same}
use Rattle.squasher.specs.Judging.{IsSized, fates_by}
use Rattle.squasher.proofs.Sizing.{sized_same}

module _ {C D : Type 0} (f : C → D) where
  -- A command does the same.
  pub change_blank : (part : Part C) (c : Command) (result : Option Change) → option_to_list result ≡ changes_for part c → option_to_list result ≡ changes_at (option_map (recelled_part f) (Some part)) c
  change_blank part c result e = e ∙ sym (changes_same_at f (Some part) c)

  -- Sizes are the same.
  pub sized_at : (part : Part C) (result : Option Change) → IfSome result (IsSized part.subvolume) → IfSome result (λ change. IsSized (recelled_part f part).subvolume change)
  sized_at part None z = tt
  sized_at part (Some change) z = sized_same f part.subvolume change z

-- The fates that are found where a part is complete.
pub fates_blank : {C : Type 0} (part : Part C) (end : Subvolume C) (given log : List Change) (known : Option (List Fate)) (found : List Fate) → end ≡ part.subvolume → given ≡ log
    → found ≡ fates_of given (λ i place. is_some (inode_at end i)) → Some found ≡ fates_by (option_map (recelled_part {D = Unit {0}} (λ c. tt)) (Some part)) log known
fates_blank {C} part end given log known found ends same e =
    ap (λ (fs : List Fate). Some fs)
    (e ∙ ap (λ (s : Subvolume C). fates_of given (λ i place. is_some (inode_at s i))) ends ∙ ap (λ (l : List Change). fates_of l (λ i place. is_some (inode_at part.subvolume i))) same
    ∙ ap (λ (l : Living). fates_of log l) (sym (there_same {D = Unit {0}} (λ c. tt) (Some part))))

-- ---- commands that do nothing to contents

pub nothing_changed : {C : Type 0} (part : Part C) (c : code.Command)
    → ((path : _) (offset : ℕ) (bytes : _) → c ≡ coded.Write path offset bytes → ⊥)
    → ((size : ℕ) (path : _) → c ≡ coded.Truncate size path → ⊥)
    → ((size : ℕ) (path : _) (offset mode : ℕ) → c ≡ coded.Fallocate size path offset mode → ⊥)
    → ((path : _) (offset : ℕ) (clone_uuid : List ℕ) (clone_ctransid : ℕ) (clone_path : _) (clone_offset clone_len : ℕ) → c ≡ coded.Clone path offset clone_uuid clone_ctransid clone_path clone_offset clone_len → ⊥)
    → changes_for part (meaning_of c) ≡ []
unfolding changes_for
nothing_changed part (coded.Write path offset bytes) w t f l = absurd (w path offset bytes refl)
nothing_changed part (coded.Truncate size path) w t f l = absurd (t size path refl)
nothing_changed part (coded.Fallocate size path offset mode) w t f l = absurd (f size path offset mode refl)
nothing_changed part (coded.Clone path offset clone_uuid clone_ctransid clone_path clone_offset clone_len) w t f l = absurd (l path offset clone_uuid clone_ctransid clone_path clone_offset clone_len refl)
nothing_changed part c w t f l = refl
