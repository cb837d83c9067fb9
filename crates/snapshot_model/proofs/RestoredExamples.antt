-- Worked examples of whole subvolumes in the kernel's order.
use Rattle.std.specs.Prelude.{◌≡◌, ℕ, List, [], ◌∷◌, Option, Result, Ok, codes, refl}
use Rattle.std.specs.Fmt.{digits}
use Rattle.send_model.specs.Refusal.{Refusal}
use Rattle.send_model.specs.Chain.{◌>>=◌}
use Rattle.send_model.specs.Map.{Map}
use Rattle.send_model.specs.Command.{Command, MkFile, MkDir, Symlink, Rename, Link, SetXattr, Write, Chmod, Chown, Utimes}
use Rattle.send_model.specs.Subvolume.{root_alone, epoch}
use Rattle.snapshot_model.specs.Listing.{Listed, listing, listed, paths_of}
use Rattle.snapshot_model.specs.Sent.{edit_all}
use Rattle.snapshot_model.specs.Restored.{capability, restored_edits}
use Rattle.send_model.proofs.ExampleWords.{composing_words}

unfoldable restored_words : Unit {0}
unfolding composing_words edit_all listing listed paths_of restored_edits digits
restored_words = tt

abbrev restored_of : List Command → Result (List Command) Refusal
restored_of commands = edit_all commands root_alone >>= λ s. Ok (restored_edits s)

-- The listing of what commands make, and of what is made again of it.
abbrev listing_of : List Command → Result (Map (List ℕ) (Listed (Option ℕ))) Refusal
listing_of commands = edit_all commands root_alone >>= λ s. Ok (listing s)

abbrev again : List Command → Result (Map (List ℕ) (Listed (Option ℕ))) Refusal
again commands = restored_of commands >>= listing_of

-- A directory that has attributes of its own, an entry in it with two names, and a link.
abbrev tree : List Command
tree =
    MkDir (codes "d") ∷ SetXattr (codes "u") (codes "v") (codes "d") ∷ MkFile (codes "d/f") ∷ Write (codes "d/f") 2 (codes "x") ∷ Link (codes "d-") (codes "d/f")
    ∷ Symlink (codes "l") (codes "d") ∷ []

kernels_order : restored_of tree ≡ Ok (
    MkDir (codes "o257-0-0") ∷ Rename (codes "o257-0-0") (codes "d")
    ∷ MkFile (codes "o258-0-0") ∷ Rename (codes "o258-0-0") (codes "d-") ∷ Write (codes "d-") 2 (codes "x") ∷ Chown 0 0 (codes "d-") ∷ Chmod 0o600 (codes "d-") ∷ Utimes epoch epoch (codes "d-")
    ∷ Link (codes "d/f") (codes "d-")
    ∷ Symlink (codes "o259-0-0") (codes "d") ∷ Rename (codes "o259-0-0") (codes "l") ∷ Chown 0 0 (codes "l") ∷ Utimes epoch epoch (codes "l")
    ∷ Chown 0 0 (codes "d") ∷ Chmod 0o700 (codes "d") ∷ SetXattr (codes "u") (codes "v") (codes "d") ∷ Utimes epoch epoch (codes "d")
    ∷ Chown 0 0 [] ∷ Chmod 0o700 [] ∷ Utimes epoch epoch [] ∷ [])
unfolding restored_words
kernels_order = refl

tree_again : again tree ≡ listing_of tree
unfolding restored_words
tree_again = refl

-- A file that has the name of another inode's way: that one is made where it goes. Made under its
-- own one, it would be refused, since the lesser path stands there already.
abbrev clash : List Command
clash = MkFile (codes "o258-0-0") ∷ MkFile (codes "z") ∷ []

clash_avoided : restored_of clash ≡ Ok (
    MkFile (codes "o257-0-0") ∷ Rename (codes "o257-0-0") (codes "o258-0-0") ∷ Chown 0 0 (codes "o258-0-0") ∷ Chmod 0o600 (codes "o258-0-0") ∷ Utimes epoch epoch (codes "o258-0-0")
    ∷ MkFile (codes "z") ∷ Chown 0 0 (codes "z") ∷ Chmod 0o600 (codes "z") ∷ Utimes epoch epoch (codes "z")
    ∷ Chown 0 0 [] ∷ Chmod 0o700 [] ∷ Utimes epoch epoch [] ∷ [])
unfolding restored_words
clash_avoided = refl

clash_again : again clash ≡ listing_of clash
unfolding restored_words
clash_again = refl

-- A file with capabilities and one more attribute, and a file without: the capabilities come when
-- no owner comes any more, so that no receiver gives them to the second file.
abbrev capable : List Command
capable = MkFile (codes "a") ∷ SetXattr capability (codes "c") (codes "a") ∷ SetXattr (codes "u") (codes "v") (codes "a") ∷ MkFile (codes "b") ∷ []

capabilities_last : restored_of capable ≡ Ok (
    MkFile (codes "o257-0-0") ∷ Rename (codes "o257-0-0") (codes "a") ∷ Chown 0 0 (codes "a") ∷ Chmod 0o600 (codes "a") ∷ SetXattr (codes "u") (codes "v") (codes "a") ∷ Utimes epoch epoch (codes "a")
    ∷ MkFile (codes "o258-0-0") ∷ Rename (codes "o258-0-0") (codes "b") ∷ Chown 0 0 (codes "b") ∷ Chmod 0o600 (codes "b") ∷ Utimes epoch epoch (codes "b")
    ∷ Chown 0 0 [] ∷ Chmod 0o700 [] ∷ Utimes epoch epoch []
    ∷ SetXattr (codes "security.capability") (codes "c") (codes "a") ∷ [])
unfolding restored_words
capabilities_last = refl

capable_again : again capable ≡ listing_of capable
unfolding restored_words
capable_again = refl
