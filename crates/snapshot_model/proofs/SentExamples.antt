-- Worked examples of whole subvolumes that are sent: two of another program, and what else a
-- subvolume may have.
use Rattle.std.specs.Prelude.{◌≡◌, ℕ, List, [], ◌∷◌, ◌++◌, Option, Some, Result, Ok, Err, codes, refl, length}
use Rattle.send_model.specs.Refusal.{Refusal, NotFile, BadXattr}
use Rattle.send_model.specs.Chain.{◌>>=◌}
use Rattle.send_model.specs.Command.{Command, MkFile, MkDir, Link, Write, Fallocate, Truncate, Chmod, Chown, Utimes}
use Rattle.send_model.specs.Subvolume.{Inode, Subvolume, root_alone, new_directory, epoch}
use Rattle.snapshot_model.specs.Listing.{listing, listed, paths_of}
use Rattle.snapshot_model.specs.Sent.{edit_all, sent, sent_edits, sent_version, sent_stream}
use Rattle.send_model.proofs.ExampleWords.{key, reading_words, composing_words}

-- What is sent of the subvolume that commands make.
abbrev sent_of : List Command → Result (List Command) Refusal
sent_of commands = edit_all commands root_alone >>= λ s. Ok (sent_edits s)

unfoldable sent_words : Unit {0}
unfolding composing_words edit_all sent sent_edits sent_version sent_stream listing listed paths_of
sent_words = tt

abbrev settings : ℕ → List ℕ → List Command
settings mode path = Chown 0 0 path ∷ Chmod mode path ∷ Utimes epoch epoch path ∷ []

-- A file with a hole in front and one at its end.
abbrev with_holes : List Command
with_holes = MkFile (codes "h") ∷ Write (codes "h") 8_192 (codes "x") ∷ Truncate 20_000 (codes "h") ∷ []

first_row : sent_of with_holes ≡ Ok (settings 0o700 [] ++ MkFile (codes "h") ∷ Write (codes "h") 8_192 (codes "x") ∷ Truncate 20_000 (codes "h") ∷ settings 0o600 (codes "h"))
unfolding sent_words
first_row = refl

-- Its stream has 371 bytes.
first_row_length : (edit_all with_holes root_alone >>= λ s. Ok (length (sent_stream (codes "a") (key 0x11 1) s))) ≡ Ok 371
unfolding sent_words reading_words
first_row_length = refl

-- One more name is a LINK to the first one by bytes.
second_row : sent_of (MkFile (codes "y") ∷ Link (codes "x") (codes "y") ∷ []) ≡ Ok (settings 0o700 [] ++ MkFile (codes "x") ∷ (settings 0o600 (codes "x") ++ Link (codes "y") (codes "x") ∷ []))
unfolding sent_words
second_row = refl

-- A directory comes before its entries, and other names may stand between them.
between : sent_of (MkDir (codes "a") ∷ MkFile (codes "a/b") ∷ MkFile (codes "a-") ∷ [])
    ≡ Ok (settings 0o700 [] ++ MkDir (codes "a") ∷ (settings 0o700 (codes "a") ++ MkFile (codes "a-") ∷ (settings 0o600 (codes "a-") ++ MkFile (codes "a/b") ∷ settings 0o600 (codes "a/b"))))
unfolding sent_words
between = refl

-- Written zero bytes are sent, punched holes are not, and what follows one begins a stretch of its
-- own.
punched : sent_of (MkFile (codes "f") ∷ Write (codes "f") 0 (1 ∷ 0 ∷ 3 ∷ 4 ∷ []) ∷ Fallocate 1 (codes "f") 2 3 ∷ [])
    ≡ Ok (settings 0o700 [] ++ MkFile (codes "f") ∷ Write (codes "f") 0 (1 ∷ 0 ∷ []) ∷ Write (codes "f") 3 (4 ∷ []) ∷ settings 0o600 (codes "f"))
unfolding sent_words
punched = refl

-- ---- what lawfulness leaves open

-- A root whose inode is changed. Each of these is lawful, since lawfulness looks at kinds and at
-- the order of attributes alone.
abbrev rooted : Inode (Option ℕ) → Subvolume (Option ℕ)
rooted inode = record { inodes = (256, inode) ∷ []; names = []; next = 257 }

-- A directory with cells: its WRITE is refused.
directory_with_cells : edit_all (sent_edits (rooted (record new_directory { cells = Some 1 ∷ [] }))) root_alone ≡ Err NotFile
unfolding sent_words
directory_with_cells = refl

-- An attribute without a name is refused.
attribute_without_name : edit_all (sent_edits (rooted (record new_directory { xattrs = ([], []) ∷ [] }))) root_alone ≡ Err BadXattr
unfolding sent_words
attribute_without_name = refl

-- A mode of more than twelve bits, and a target of what is no link, are accepted and lost.
lost : (edit_all (sent_edits (rooted (record new_directory { mode = 0o10_700; target = 1 ∷ []; rdev = 2 }))) root_alone >>= λ s. Ok (listing s)) ≡ Ok (listing root_alone)
unfolding sent_words
lost = refl
