-- Worked examples of whole subvolumes each of whose fields differs from that of a new one: all of
-- them are sent, and restored.
use Rattle.std.specs.Prelude.{◌≡◌, ℕ, List, [], ◌∷◌, Ok, codes, refl, length}
use Rattle.std.specs.Fmt.{digits}
use Rattle.send_model.specs.Chain.{◌>>=◌}
use Rattle.send_model.specs.Attribute.{Time}
use Rattle.send_model.specs.Command.{Command, MkFile, MkNod, SetXattr, Rename, Write, Chmod, Chown, FileAttr, Utimes}
use Rattle.send_model.specs.Subvolume.{Subvolume, root_alone, new_directory, epoch}
use Rattle.snapshot_model.specs.Listing.{listing, listed, paths_of}
use Rattle.snapshot_model.specs.Sent.{edit_all, sent, sent_edits, sent_version, sent_stream}
use Rattle.snapshot_model.specs.Restored.{restored, restored_edits, restored_stream}
use Rattle.snapshot_model.specs.SentLaws.{IsNew}
use Rattle.send_model.specs.Receivable.{receivable, receivable_attributes}
use Rattle.send_model.proofs.ExampleWords.{key, reading_words, composing_words, store_of}

unfoldable field_words : Unit {0}
unfolding receivable receivable_attributes composing_words reading_words edit_all sent sent_edits sent_version sent_stream listing listed paths_of restored restored_edits restored_stream digits
field_words = tt

abbrev at_one : Time
at_one = record { secs = 1; nanos = 5 }

abbrev at_two : Time
at_two = record { secs = 2; nanos = 6 }

abbrev all_fields : List Command
all_fields = MkFile (codes "f") ∷ Write (codes "f") 0 (codes "x") ∷ SetXattr (codes "u") (codes "v") (codes "f") ∷ Chown 1000 100 (codes "f") ∷ Chmod 0o644 (codes "f")
    ∷ FileAttr (codes "f") 16 ∷ Utimes at_two at_one (codes "f") ∷ MkNod 0o020660 7 (codes "n") ∷ []

-- a file each of whose fields is another than that of a new one, and a device, whose MKNOD has its
-- type alone
all_sent : edit_all all_fields root_alone >>= (λ s. Ok (sent_edits s))
    ≡ Ok (Chown 0 0 [] ∷ Chmod 0o700 [] ∷ Utimes epoch epoch []
    ∷ MkFile (codes "f") ∷ SetXattr (codes "u") (codes "v") (codes "f") ∷ Write (codes "f") 0 (codes "x") ∷ Chown 1000 100 (codes "f") ∷ Chmod 0o644 (codes "f")
    ∷ FileAttr (codes "f") 16 ∷ Utimes at_two at_one (codes "f")
    ∷ MkNod 0o020000 7 (codes "n") ∷ Chown 0 0 (codes "n") ∷ Chmod 0o600 (codes "n") ∷ Utimes epoch epoch (codes "n") ∷ [])
unfolding field_words
all_sent = refl

-- and restored
all_restored : edit_all all_fields root_alone >>= (λ s. Ok (restored_edits s))
    ≡ Ok (MkFile (codes "o257-0-0") ∷ Rename (codes "o257-0-0") (codes "f") ∷ Write (codes "f") 0 (codes "x") ∷ Chown 1000 100 (codes "f") ∷ Chmod 0o644 (codes "f")
    ∷ SetXattr (codes "u") (codes "v") (codes "f") ∷ FileAttr (codes "f") 16 ∷ Utimes at_two at_one (codes "f")
    ∷ MkNod 0o020000 7 (codes "o258-0-0") ∷ Rename (codes "o258-0-0") (codes "n") ∷ Chown 0 0 (codes "n") ∷ Chmod 0o600 (codes "n") ∷ Utimes epoch epoch (codes "n")
    ∷ Chown 0 0 [] ∷ Chmod 0o700 [] ∷ Utimes epoch epoch [] ∷ [])
unfolding field_words
all_restored = refl

-- the version looks at what is sent alone: an inode without a name has flags
version_of_sent : sent_version (record { inodes = (256, new_directory) ∷ (257, record new_directory { flags = 1 }) ∷ []; names = []; next = 258 }) ≡ 1
unfolding field_words
version_of_sent = refl

-- the receivable spelling is longer than the canonical one
restored_length : length (restored_stream (codes "a") (key 0x11 1) root_alone) ≡ 200
unfolding field_words
restored_length = refl

-- a store that has a subvolume can receive another one
full_store_is_new : (s : Subvolume ℕ) → IsNew {C = ℕ} (codes "b") (key 0x22 2) (store_of s)
full_store_is_new s = (refl, refl)
