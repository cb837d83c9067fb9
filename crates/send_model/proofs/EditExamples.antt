-- Worked examples of edits: renames of hard links and of directories, and clones with a short last
-- block.
use Rattle.std.specs.Prelude.{◌≡◌, ℕ, List, [], ◌∷◌, ◌++◌, Result, Ok, Err, replicate, codes, refl}
use Rattle.send_model.specs.Refusal.{Refusal, EntryThere, NotEmpty, IntoItself, NoSource, BadRange, Unaligned, Overlap}
use Rattle.send_model.specs.Chain.{◌>>=◌}
use Rattle.send_model.specs.Command.{Command, MkFile, MkDir, Rename, Link, Clone}
use Rattle.send_model.specs.Subvolume.{Subvolume, root_alone}
use Rattle.send_model.specs.Edit.{edit}
use Rattle.send_model.specs.Store.{Key, find, edit_part}
use Rattle.send_model.specs.Receive.{bytes_of}
use Rattle.send_model.proofs.ExampleWords.{key, directory, file, one_file, edit_words}

-- Edits one after the other.
abbrev edits : List Command → Subvolume ℕ → Result (Subvolume ℕ) Refusal
edits [] s = Ok s
edits (command ∷ commands) s = edit 0 (bytes_of command) command s >>= edits commands

-- ---- renames

-- A root with one empty file that has two names.
abbrev linked : Subvolume ℕ
linked = one_file [] (codes "x" ∷ codes "y" ∷ [])

-- A file that is made and linked has two names.
two_names : edits (MkFile (codes "x") ∷ Link (codes "y") (codes "x") ∷ []) root_alone ≡ Ok linked
unfolding edit_words
two_names = refl

-- A rename of one of its names onto the other changes nothing.
onto_same_file : edits (Rename (codes "x") (codes "y") ∷ []) linked ≡ Ok linked
unfolding edit_words
onto_same_file = refl

-- So the first name is still taken.
first_name_stays : edits (Rename (codes "x") (codes "y") ∷ MkFile (codes "x") ∷ []) linked ≡ Err EntryThere
unfolding edit_words
first_name_stays = refl

-- So is the second.
second_name_stays : edits (Rename (codes "x") (codes "y") ∷ MkFile (codes "y") ∷ []) linked ≡ Err EntryThere
unfolding edit_words
second_name_stays = refl

-- Two directories, and a file in the second.
abbrev two_directories : List Command
two_directories = MkDir (codes "d") ∷ MkDir (codes "e") ∷ MkFile (codes "e/f") ∷ []

-- A directory does not take the place of one that is not empty.
onto_full_directory : edits (two_directories ++ Rename (codes "d") (codes "e") ∷ []) linked ≡ Err NotEmpty
unfolding edit_words
onto_full_directory = refl

-- A directory does not go into itself.
into_itself : edits (two_directories ++ Rename (codes "d") (codes "d/g") ∷ []) linked ≡ Err IntoItself
unfolding edit_words
into_itself = refl

-- ---- clones

-- A file of 5000 bytes, which is a block and 904 bytes more, and a file that clones of it go to.
abbrev before : List ℕ → Subvolume ℕ
before cells = record {
  inodes = (256, directory) ∷ (257, file (replicate 5_000 0x61)) ∷ (258, file cells) ∷ [];
  names = ((256, codes "x"), 257) ∷ ((256, codes "y"), 258) ∷ [];
  next = 259;
}

abbrev own : Key
own = key 0x11 1

-- What becomes of the part with a clone of so many bytes, from the start of the first file of the
-- source to that of the second.
abbrev after_clone : Key → ℕ → List ℕ → Result (Subvolume ℕ) Refusal
after_clone source len cells =
    edit_part 0 [] [] (record { key = own; subvolume = before cells })
    (Clone (codes "y") 0 source.uuid source.ctransid (codes "x") 0 len)

-- A clone may end with a short block where its source ends.
short_at_end : after_clone own 5_000 [] ≡ Ok (before (replicate 5_000 0x61))
unfolding edit_part edit_words
short_at_end = refl

-- It may do so in the midst of the file that it goes to.
short_inside : after_clone own 5_000 (replicate 6_000 0x62) ≡ Ok (before (replicate 5_000 0x61 ++ replicate 1_000 0x62))
unfolding edit_part edit_words
short_inside = refl

-- A whole block may be cloned though its source goes on behind it.
whole_block : after_clone own 4_096 [] ≡ Ok (before (replicate 4_096 0x61))
unfolding edit_part edit_words
whole_block = refl

-- A short block is refused where its source goes on behind it.
short_before_end : after_clone own 904 [] ≡ Err Unaligned
unfolding edit_part edit_words
short_before_end = refl

-- A clone of no bytes is refused.
no_bytes : after_clone own 0 [] ≡ Err BadRange
unfolding edit_part edit_words
no_bytes = refl

-- So is one that goes past the source's end.
too_many_bytes : after_clone own 5_001 [] ≡ Err BadRange
unfolding edit_part edit_words
too_many_bytes = refl

-- So is a source that is neither the part itself nor in the store.
no_source : after_clone (key 0x99 9) 5_000 [] ≡ Err NoSource
unfolding edit_part edit_words find
no_source = refl

-- Two names of one file are one file: a clone from one to the other overlaps as one on a single
-- name does.
overlap_by_names : edit_part 0 [] [] (record { key = own; subvolume = one_file (replicate 12_288 0x61) (codes "x" ∷ codes "y" ∷ []) })
    (Clone (codes "x") 4_096 own.uuid own.ctransid (codes "y") 0 8_192) ≡ Err Overlap
unfolding edit_part edit_words
overlap_by_names = refl
