-- An item with what is said in front of its file, as it is taken in place of the one that was read:
-- it is as long, and its data stand where they stood.
use Rattle.std.specs.Prelude.{◌≡◌, ℕ, ◌+◌, ◌-◌, ◌<◌, ◌≤◌, true, List, [], ◌∷◌, ◌++◌, length, take, drop, get_or, Option, None, Some}
use Rattle.std.proofs.Common.{refl, sym, ap, ap₂, subst, ◌∙◌}
use Rattle.send_model.specs.Command.{Command, Subvol, Snapshot, End}
use Rattle.send_model.specs.Spelling.{canonical}
use Rattle.send_model.specs.Reading.{Item, is_version}
use Rattle.send_model.specs.Receive.{bytes_of}
use Rattle.send_model.specs.Laws.{CanWrite}
use Rattle.send_model.specs.Lengths.{limit}
use Rattle.send_model.specs.Overridden.{Override, command_as, overridden_as}
use Rattle.send_model.proofs.Overriding.{same_bytes}
use Rattle.send_commands.specs.Meaning.{meaning_of}
use Rattle.cmd_reader.specs.declared.item.Item as read
use Rattle.cmd_reader.specs.Next.{item_of}
use Rattle.composer.specs.Taking.{DataStand}

-- The data stand at the same place.
pub data_stay : (files : List (List ℕ)) (given : Override) (item : Item) → DataStand files item → DataStand files (overridden_as given item)
data_stay files given item d =
    let same : bytes_of (command_as given item.command) ≡ bytes_of item.command = same_bytes given item.command in
    record {
      there = subst (λ (b : List ℕ). take (length b) (drop item.data_at (get_or files (item.file - 1) [])) ≡ b) (sym same) d.there;
      within = subst (λ (b : List ℕ). item.data_at + length b ≤ length (get_or files (item.file - 1) [])) (sym same) d.within;
      are_data = λ k less. d.are_data k (subst (λ (b : List ℕ). k < length b) same less);
    }

-- The one that is taken is the one that was read, with what is said in front of its file.
abbrev pub IsOverridden : Override → read.Item → read.Item → Type 0
IsOverridden given item taken = (file : ℕ) → item_of file taken ≡ overridden_as given (item_of file item)

-- What is said is what is said in front of the file.
pub named_for : (given said : Override) (file : ℕ) (item taken : read.Item) → given ≡ said → IsOverridden given item taken → item_of file taken ≡ overridden_as said (item_of file item)
named_for given said file item taken same named = subst (λ (o : Override). item_of file taken ≡ overridden_as o (item_of file item)) same (named file)

module _ (given : Override) (item taken : read.Item) (named : IsOverridden given item taken) where
  pub same_version : taken.version ≡ item.version
  same_version = ap (λ (x : Item). x.version) (named 1)

  pub still_within : item.data_at + length (bytes_of (meaning_of item.command)) ≤ limit → taken.data_at + length (bytes_of (meaning_of taken.command)) ≤ limit
  still_within less =
      let same : taken.data_at + length (bytes_of (meaning_of taken.command)) ≡ item.data_at + length (bytes_of (meaning_of item.command)) =
      ap (λ (x : Item). x.data_at + length (bytes_of x.command)) (named 1) ∙ ap (λ (b : List ℕ). item.data_at + length b) (same_bytes given (meaning_of item.command)) in
      subst (λ (n : ℕ). n ≤ limit) (sym same) less

  pub still_said : is_version item.version ≡ true → CanWrite item.version (meaning_of item.command)
      → ((version : ℕ) → is_version version ≡ true → CanWrite version (meaning_of item.command) → CanWrite version (meaning_of taken.command)) → CanWrite taken.version (meaning_of taken.command)
  still_said is can kept = subst (λ (v : ℕ). CanWrite v (meaning_of taken.command)) (sym same_version) (kept item.version is can)

  -- Where it counts as spelled in the canonical way, it is the command that was read.
  pub still_spelled : (frame last : List ℕ) → frame ≡ last → (taken.canonical ≡ true → (item.canonical ≡ true) × (meaning_of taken.command ≡ meaning_of item.command))
      → (item.canonical ≡ true → last ≡ canonical item.version (meaning_of item.command)) → taken.canonical ≡ true → frame ≡ canonical taken.version (meaning_of taken.command)
  still_spelled frame last same kept spelled is =
      let k = kept is in
      same ∙ spelled k.0 ∙ ap (canonical item.version) (sym k.1) ∙ ap (λ (v : ℕ). canonical v (meaning_of taken.command)) (sym same_version)
