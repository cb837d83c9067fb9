-- Worked examples of lines whose fields all differ, and of names that have a blank: which field
-- stands where, and what is escaped.
use Rattle.std.specs.Prelude.{◌≡◌, ℕ, [], ◌∷◌, ◌++◌, None, Some, codes, refl}
use Rattle.std.specs.Fmt.{digits}
use Rattle.send_model.specs.Printed.{is_plain, hex_digit, escaped_byte, escaped, uuid_text, time_text}
use Rattle.send_model.specs.Subvolume.{Subvolume, root_alone}
use Rattle.store_model.specs.States.{complete_line}
use Rattle.store_model.specs.StoreLines.{entry_line, inode_line, xattr_line, name_line, shown}
use Rattle.send_model.proofs.ExampleWords.{key, composing_words, directory, file}

unfoldable line_words : Unit {0}
unfolding digits composing_words escaped escaped_byte is_plain hex_digit uuid_text time_text complete_line entry_line inode_line xattr_line name_line shown
line_words = tt

-- a name with a blank, in `list`
odd_name : entry_line {S = Subvolume ℕ} (record { name = codes "x y"; key = key 0x11 1; parent = None; contents = None })
    ≡ codes "x" ++ 0x5c ∷ codes "x20y 11111111-1111-1111-1111-111111111111 1 unfinished -" ++ 10 ∷ []
unfolding line_words
odd_name = refl

-- in the line of a part that is complete
odd_complete : complete_line {S = Subvolume ℕ} (record { name = codes "x y"; key = key 0x11 1; parent = None; contents = None })
    ≡ codes "complete x" ++ 0x5c ∷ codes "x20y 11111111-1111-1111-1111-111111111111 1" ++ 10 ∷ []
unfolding line_words
odd_complete = refl

-- and in the first line of `show`
odd_shown : shown {C = ℕ} (codes "x y") (key 0x11 1) root_alone
    ≡ codes "subvol x" ++ 0x5c ∷ codes "x20y 11111111-1111-1111-1111-111111111111 1 257" ++ 10 ∷ []
    ++ codes "inode 256 dir 700 0 0 0.000000000 0.000000000 0 -" ++ 10 ∷ []
unfolding line_words
odd_shown = refl

-- a key, the key of the parent, and a subvolume that is complete: their numbers differ
entry_fields : entry_line {S = Subvolume ℕ} (record { name = codes "b"; key = key 0x22 7; parent = Some (key 0x11 5); contents = Some root_alone })
    ≡ codes "b 22222222-2222-2222-2222-222222222222 7 complete 11111111-1111-1111-1111-111111111111:5" ++ 10 ∷ []
unfolding line_words
entry_fields = refl

-- owners that differ, and flags
owners_and_flags : inode_line 257 (record directory { uid = 1000; gid = 100; flags = 16 }) ≡ codes "inode 257 dir 700 1000 100 0.000000000 0.000000000 16 -" ++ 10 ∷ []
unfolding line_words
owners_and_flags = refl

-- a file each of whose fields differs from the others
all_fields : inode_line 258 (record (file (codes "abc")) { mode = 0o6754; uid = 1000; gid = 100; flags = 8; atime = record { secs = 1; nanos = 5 }; mtime = record { secs = 2; nanos = 6 } })
    ≡ codes "inode 258 file 6754 1000 100 1.000000005 2.000000006 8 3" ++ 10 ∷ []
unfolding line_words
all_fields = refl

-- a name of a directory that is not the root, and an attribute
name_fields : (name_line ((258, codes "n"), 261) ≡ codes "name 258 n 261" ++ 10 ∷ [])
    × (xattr_line 258 (codes "user.k", 1 ∷ 0xfe ∷ []) ≡ codes "xattr 258 user.k 01fe" ++ 10 ∷ [])
unfolding line_words
name_fields = (refl, refl)
