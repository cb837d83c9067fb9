-- Files of bytes that take turns.
use Rattle.std.specs.Prelude.{◌≡◌, ℕ, suc, ◌+◌, List, [], ◌∷◌, ◌++◌, length, None, drop}
use Rattle.std.specs.List.{AllByRecursion}
use Rattle.std.proofs.Common.{refl}
use Rattle.send_model.specs.Attribute.{IsBytes}
use Rattle.send_model.specs.Spelling.{IsSpellable}
use Rattle.send_model.specs.Reading.{Item, HeaderDue, reads}
use Rattle.send_model.specs.Receive.{byte_cells}
use Rattle.send_model.specs.Guards.{Guard}
use Rattle.send_model.proofs.ReadCommands.{AreWritable, reads_writable, write_second}
use Rattle.store_model.specs.Turns.{Session, to_the_end, interleaved, sessions_from, turns_of}
use Rattle.store_model.specs.TurnLaws.{FilesAreInTurn}
use Rattle.store_model.proofs.Origins.{parts_are_read}
use Rattle.store_model.proofs.PartFiles.{files_are_one_by_one}
use Rattle.store_model.proofs.AllOver.{all_are_over}

spelled : (items : List Item) → AreWritable items → AllByRecursion (λ item. IsSpellable 2 item.command) items
spelled [] a = tt
spelled (item ∷ items) a = ((write_second item.version item.command a.0.0).spellable, spelled items a.1)

read_spelled : (file : ℕ) (bytes : List ℕ) → IsBytes bytes → AllByRecursion (λ item. IsSpellable 2 item.command) (reads file bytes).items
unfolding reads
read_spelled file bytes are = spelled (reads file bytes).items (reads_writable (suc (length bytes)) file HeaderDue 1 0 bytes tt are)

all_spelled : (n : ℕ) (files : List (List ℕ)) (guards : List Guard) (shares : List ℕ) → AllByRecursion IsBytes files
    → AllByRecursion (λ s. AllByRecursion (λ item. IsSpellable 2 item.command) s.items) (sessions_from n files guards shares)
unfolding sessions_from
all_spelled n [] guards shares are = tt
all_spelled n (file ∷ files) guards [] are = (read_spelled n file are.0, all_spelled (n + 1) files guards [] are.1)
all_spelled n (file ∷ files) guards (share ∷ shares) are = (read_spelled n file are.0, all_spelled (n + 1) files (drop share guards) shares are.1)

pub all_new : (n : ℕ) (files : List (List ℕ)) (guards : List Guard) (shares : List ℕ) → AllByRecursion (λ s. s.part ≡ None) (sessions_from n files guards shares)
unfolding sessions_from
all_new n [] guards shares = tt
all_new n (file ∷ files) guards [] = (refl, all_new (n + 1) files guards [])
all_new n (file ∷ files) guards (share ∷ shares) = (refl, all_new (n + 1) files (drop share guards) shares)

pub files_are_in_turn : FilesAreInTurn
unfolding turns_of interleaved
files_are_in_turn store schedule files guards shares d are =
    let sessions : List (Session ℕ) = sessions_from 1 files guards shares in
    let turns : List ℕ = schedule ++ to_the_end 0 sessions in
    let new = all_new 1 files guards shares in
    let is = files_are_one_by_one store sessions turns d new (all_spelled 1 files guards shares are) in
    record {
      order = is.0;
      received = is.1;
      read = (parts_are_read 0 byte_cells store sessions turns new).0;
      begun = (parts_are_read 0 byte_cells store sessions turns new).1;
      over = all_are_over 0 byte_cells store schedule sessions;
      groups = λ gate. is.0.groups (λ place bytes. bytes) (λ place item. refl) gate;
    }
