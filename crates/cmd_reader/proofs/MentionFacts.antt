-- Which commands begin a part or name a key, by their kinds.
use Rattle.std.specs.Prelude.{◌≡◌, ℕ, true, false, List, None, Some}
use Rattle.std.proofs.Common.{refl, subst}
use Rattle.send_model.specs.Command.{Kind, SUBVOL, SNAPSHOT, CLONE, Command, command_with}
use Rattle.cmd_reader.specs.Mentions.{as_mention, is_mention}

-- A command of another kind does neither.
pub no_mention : (kind : Kind) (values : ℕ → List ℕ) → is_mention kind ≡ false → as_mention (command_with kind values) ≡ None
no_mention SUBVOL values e = cc
no_mention SNAPSHOT values e = cc
no_mention CLONE values e = cc
no_mention _ values e = refl

-- A command of such a kind does.
pub mention_made : (kind : Kind) (values : ℕ → List ℕ) (made : Command) → command_with kind values ≡ made → is_mention kind ≡ true → as_mention made ≡ Some made
mention_made kind values made is mention = subst (λ (c : Command). as_mention c ≡ Some c) is (by_kind kind mention)
  where
    by_kind : (k : Kind) → is_mention k ≡ true → as_mention (command_with k values) ≡ Some (command_with k values)
    by_kind SUBVOL e = refl
    by_kind SNAPSHOT e = refl
    by_kind CLONE e = refl
    by_kind _ e = cc
