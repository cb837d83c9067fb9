-- Worked examples of each command: what it changes, and its refusals in their order. What is
-- expected is written down from the manual pages of the system calls, and for orders and limits
-- from the profile of this program in words.
use Rattle.std.specs.Prelude.{◌≡◌, ℕ, List, [], ◌∷◌, ◌++◌, Option, None, Some, Result, Ok, Err, replicate, codes, refl, map}
use Rattle.send_model.specs.Refusal.{Refusal, BadPath, NoEntry, NotDirectory, EntryThere, IsDirectory, NotEmpty, IntoItself, NotFile, BadXattr, NoXattr, BadDevice, IsRoot, FileTooBig, NoSource, BadRange, Unaligned, Overlap, BadFallocate, NoNumber, NoSubvolume, BadName, NameThere, UuidThere, NoParent}
use Rattle.send_model.specs.Command.{Command, Subvol, Snapshot, MkFile, MkDir, MkNod, MkFifo, MkSock, Symlink, Rename, Link, Unlink, Rmdir, SetXattr, RemoveXattr, Write, Clone, Truncate, Chmod, Chown, Utimes, UpdateExtent, Fallocate, FileAttr}
use Rattle.send_model.specs.Map.{Map}
use Rattle.send_model.specs.Subvolume.{File, Directory, SymbolicLink, CharacterDevice, BlockDevice, Fifo, Socket, Inode, Subvolume, new_inode, inode_at}
use Rattle.send_model.specs.Edit.{edit, allocation_of}
use Rattle.send_model.specs.Store.{State, edit_part, step}
use Rattle.send_model.specs.Receive.{bytes_of, start_of}
use Rattle.send_model.proofs.ExampleWords.{uuid, key, directory, file, composing_words, one_file}

-- A directory with a file in it, a file of two names, a link, a fifo, and an empty directory.
abbrev before : Subvolume ℕ
before = record {
  inodes =
      (256, directory) ∷ (257, directory) ∷ (258, file (codes "abc")) ∷ (259, file []) ∷ (260, new_inode SymbolicLink 0o777 0 (codes "d"))
      ∷ (261, new_inode Fifo 0o600 0 []) ∷ (262, directory) ∷ [];
  names =
      ((256, codes "d"), 257) ∷ ((256, codes "f"), 259) ∷ ((256, codes "g"), 259) ∷ ((256, codes "m"), 262) ∷ ((256, codes "n"), 261)
      ∷ ((256, codes "s"), 260) ∷ ((257, codes "e"), 258) ∷ [];
  next = 263;
}

-- What a command makes of it.
abbrev made : Command → Result (Subvolume ℕ) Refusal
made command = edit 0 (bytes_of command) command before

-- What is looked at of what it makes: its refusal, an inode, its names, the next number.
abbrev refused : Result (Subvolume ℕ) Refusal → Option Refusal
refused (Ok s) = None
refused (Err refusal) = Some refusal

abbrev inode : ℕ → Result (Subvolume ℕ) Refusal → Option (Inode ℕ)
inode ino (Ok s) = inode_at s ino
inode ino (Err refusal) = None

abbrev names : Result (Subvolume ℕ) Refusal → Map (ℕ × List ℕ) ℕ
names (Ok s) = s.names
names (Err refusal) = []

abbrev next : Result (Subvolume ℕ) Refusal → ℕ
next (Ok s) = s.next
next (Err refusal) = 0

-- One after the other, and from the greatest number on.
abbrev then_made : Result (Subvolume ℕ) Refusal → Command → Result (Subvolume ℕ) Refusal
then_made (Ok s) command = edit 0 (bytes_of command) command s
then_made (Err refusal) command = Err refusal

abbrev at_greatest : Command → Result (Subvolume ℕ) Refusal
at_greatest command = edit 0 (bytes_of command) command (record { inodes = before.inodes; names = before.names; next = 18_446_744_073_709_551_615 })

-- ---- making

file_made : inode 263 (made (MkFile (codes "d/x"))) ≡ Some (new_inode File 0o600 0 [])
unfolding composing_words
file_made = refl

file_named : names (made (MkFile (codes "d/x"))) ≡ before.names ++ ((257, codes "x"), 263) ∷ []
unfolding composing_words
file_named = refl

file_counted : next (made (MkFile (codes "d/x"))) ≡ 264
unfolding composing_words
file_counted = refl

directory_made : inode 263 (made (MkDir (codes "x"))) ≡ Some (new_inode Directory 0o700 0 [])
unfolding composing_words
directory_made = refl

fifo_made : inode 263 (made (MkFifo (codes "x"))) ≡ Some (new_inode Fifo 0o600 0 [])
unfolding composing_words
fifo_made = refl

socket_made : inode 263 (made (MkSock (codes "x"))) ≡ Some (new_inode Socket 0o600 0 [])
unfolding composing_words
socket_made = refl

link_made : inode 263 (made (Symlink (codes "x") (codes "../any//where"))) ≡ Some (new_inode SymbolicLink 0o777 0 (codes "../any//where"))
unfolding composing_words
link_made = refl

character_made : inode 263 (made (MkNod 0o20755 7 (codes "x"))) ≡ Some (new_inode CharacterDevice 0o600 7 [])
unfolding composing_words
character_made = refl

block_made : inode 263 (made (MkNod 0o60000 8 (codes "x"))) ≡ Some (new_inode BlockDevice 0o600 8 [])
unfolding composing_words
block_made = refl

-- The type of a symbolic link shares bits with that of a character device.
no_link_device : refused (made (MkNod 0o120644 0 (codes "x"))) ≡ Some BadDevice
unfolding composing_words
no_link_device = refl

no_device : refused (made (MkNod 0o100644 0 (codes "d//x"))) ≡ Some BadDevice
unfolding composing_words
no_device = refl

bad_path : refused (made (MkFile (codes "q//x"))) ≡ Some BadPath
unfolding composing_words
bad_path = refl

root_made : refused (made (MkFile [])) ≡ Some IsRoot
unfolding composing_words
root_made = refl

no_way : refused (made (MkFile (codes "q/x"))) ≡ Some NoEntry
unfolding composing_words
no_way = refl

way_through_file : refused (made (MkFile (codes "d/e/x/y"))) ≡ Some NotDirectory
unfolding composing_words
way_through_file = refl

in_file : refused (made (MkFile (codes "d/e/x"))) ≡ Some NotDirectory
unfolding composing_words
in_file = refl

in_link : refused (made (MkFile (codes "s/x"))) ≡ Some NotDirectory
unfolding composing_words
in_link = refl

there_already : refused (made (MkDir (codes "d/e"))) ≡ Some EntryThere
unfolding composing_words
there_already = refl

there_at_greatest : refused (at_greatest (MkFile (codes "f"))) ≡ Some EntryThere
unfolding composing_words
there_at_greatest = refl

no_number : refused (at_greatest (MkFile (codes "x"))) ≡ Some NoNumber
unfolding composing_words
no_number = refl

-- ---- links and names that go

linked : names (made (Link (codes "d/x") (codes "f"))) ≡ before.names ++ ((257, codes "x"), 259) ∷ []
unfolding composing_words
linked = refl

link_bad_path : refused (made (Link (codes "d//x") (codes "q"))) ≡ Some BadPath
unfolding composing_words
link_bad_path = refl

link_nothing : refused (made (Link [] (codes "q"))) ≡ Some NoEntry
unfolding composing_words
link_nothing = refl

link_directory : refused (made (Link [] (codes "d"))) ≡ Some IsDirectory
unfolding composing_words
link_directory = refl

link_root : refused (made (Link [] (codes "f"))) ≡ Some IsRoot
unfolding composing_words
link_root = refl

link_there : refused (made (Link (codes "g") (codes "f"))) ≡ Some EntryThere
unfolding composing_words
link_there = refl

one_name_gone : inode 259 (made (Unlink (codes "f"))) ≡ Some (file [])
unfolding composing_words
one_name_gone = refl

both_names_gone : inode 259 (then_made (made (Unlink (codes "f"))) (Unlink (codes "g"))) ≡ None
unfolding composing_words
both_names_gone = refl

unlink_nothing : refused (made (Unlink (codes "q"))) ≡ Some NoEntry
unfolding composing_words
unlink_nothing = refl

unlink_directory : refused (made (Unlink (codes "m"))) ≡ Some IsDirectory
unfolding composing_words
unlink_directory = refl

directory_gone : inode 262 (made (Rmdir (codes "m"))) ≡ None
unfolding composing_words
directory_gone = refl

rmdir_nothing : refused (made (Rmdir (codes "q"))) ≡ Some NoEntry
unfolding composing_words
rmdir_nothing = refl

rmdir_file : refused (made (Rmdir (codes "f"))) ≡ Some NotDirectory
unfolding composing_words
rmdir_file = refl

rmdir_full : refused (made (Rmdir (codes "d"))) ≡ Some NotEmpty
unfolding composing_words
rmdir_full = refl

-- ---- renames

rename_nothing : refused (made (Rename (codes "q") (codes "d//x"))) ≡ Some NoEntry
unfolding composing_words
rename_nothing = refl

rename_bad_path : refused (made (Rename (codes "f") (codes "d//x"))) ≡ Some BadPath
unfolding composing_words
rename_bad_path = refl

rename_to_root : refused (made (Rename (codes "f") [])) ≡ Some IsRoot
unfolding composing_words
rename_to_root = refl

into_itself_first : refused (made (Rename (codes "d") (codes "d/e"))) ≡ Some IntoItself
unfolding composing_words
into_itself_first = refl

directory_onto_file : refused (made (Rename (codes "m") (codes "f"))) ≡ Some NotDirectory
unfolding composing_words
directory_onto_file = refl

file_onto_directory : refused (made (Rename (codes "f") (codes "m"))) ≡ Some IsDirectory
unfolding composing_words
file_onto_directory = refl

-- That a file does not replace a directory is told before that the directory is not empty.
file_onto_full : refused (made (Rename (codes "f") (codes "d"))) ≡ Some IsDirectory
unfolding composing_words
file_onto_full = refl

onto_full : refused (made (Rename (codes "m") (codes "d"))) ≡ Some NotEmpty
unfolding composing_words
onto_full = refl

moved_below : names (made (Rename (codes "f") (codes "d/x"))) ≡ ((256, codes "d"), 257) ∷ ((256, codes "g"), 259) ∷ ((256, codes "m"), 262) ∷ ((256, codes "n"), 261) ∷ ((256, codes "s"), 260) ∷ ((257, codes "e"), 258) ∷ ((257, codes "x"), 259) ∷ []
unfolding composing_words
moved_below = refl

onto_empty : names (made (Rename (codes "d") (codes "m"))) ≡ ((256, codes "f"), 259) ∷ ((256, codes "g"), 259) ∷ ((256, codes "m"), 257) ∷ ((256, codes "n"), 261) ∷ ((256, codes "s"), 260) ∷ ((257, codes "e"), 258) ∷ []
unfolding composing_words
onto_empty = refl

empty_gone : inode 262 (made (Rename (codes "d") (codes "m"))) ≡ None
unfolding composing_words
empty_gone = refl

other_name_stays : inode 259 (made (Rename (codes "d/e") (codes "f"))) ≡ Some (file [])
unfolding composing_words
other_name_stays = refl

-- ---- metadata

twelve_bits : inode 258 (made (Chmod 0o107777 (codes "d/e"))) ≡ Some (record { kind = File; mode = 0o7777; uid = 0; gid = 0; atime = record { secs = 0; nanos = 0 }; mtime = record { secs = 0; nanos = 0 }; rdev = 0; flags = 0; target = []; xattrs = []; cells = codes "abc" })
unfolding composing_words
twelve_bits = refl

chmod_nothing : refused (made (Chmod 0 (codes "q"))) ≡ Some NoEntry
unfolding composing_words
chmod_nothing = refl

owner_set : inode 258 (made (Chown 1000 100 (codes "d/e"))) ≡ Some (record { kind = File; mode = 0o600; uid = 1000; gid = 100; atime = record { secs = 0; nanos = 0 }; mtime = record { secs = 0; nanos = 0 }; rdev = 0; flags = 0; target = []; xattrs = []; cells = codes "abc" })
unfolding composing_words
owner_set = refl

chown_nothing : refused (made (Chown 1 2 (codes "q"))) ≡ Some NoEntry
unfolding composing_words
chown_nothing = refl

times_set : inode 258 (made (Utimes (record { secs = 1; nanos = 2 }) (record { secs = 3; nanos = 4 }) (codes "d/e"))) ≡ Some (record { kind = File; mode = 0o600; uid = 0; gid = 0; atime = record { secs = 3; nanos = 4 }; mtime = record { secs = 1; nanos = 2 }; rdev = 0; flags = 0; target = []; xattrs = []; cells = codes "abc" })
unfolding composing_words
times_set = refl

utimes_nothing : refused (made (Utimes (record { secs = 1; nanos = 2 }) (record { secs = 3; nanos = 4 }) (codes "q"))) ≡ Some NoEntry
unfolding composing_words
utimes_nothing = refl

flags_set : inode 258 (made (FileAttr (codes "d/e") 16)) ≡ Some (record { kind = File; mode = 0o600; uid = 0; gid = 0; atime = record { secs = 0; nanos = 0 }; mtime = record { secs = 0; nanos = 0 }; rdev = 0; flags = 16; target = []; xattrs = []; cells = codes "abc" })
unfolding composing_words
flags_set = refl

flags_nothing : refused (made (FileAttr (codes "q") 16)) ≡ Some NoEntry
unfolding composing_words
flags_nothing = refl

extent_nothing : made (UpdateExtent 5 (codes "q//") 0) ≡ Ok before
unfolding composing_words
extent_nothing = refl

attribute_set : inode 258 (made (SetXattr (codes "user.a") (codes "v") (codes "d/e"))) ≡ Some (record { kind = File; mode = 0o600; uid = 0; gid = 0; atime = record { secs = 0; nanos = 0 }; mtime = record { secs = 0; nanos = 0 }; rdev = 0; flags = 0; target = []; xattrs = (codes "user.a", codes "v") ∷ []; cells = codes "abc" })
unfolding composing_words
attribute_set = refl

attribute_replaced : inode 258 (then_made (made (SetXattr (codes "user.a") (codes "v") (codes "d/e"))) (SetXattr (codes "user.a") [] (codes "d/e"))) ≡ Some (record { kind = File; mode = 0o600; uid = 0; gid = 0; atime = record { secs = 0; nanos = 0 }; mtime = record { secs = 0; nanos = 0 }; rdev = 0; flags = 0; target = []; xattrs = (codes "user.a", []) ∷ []; cells = codes "abc" })
unfolding composing_words
attribute_replaced = refl

attribute_removed : inode 258 (then_made (made (SetXattr (codes "user.a") (codes "v") (codes "d/e"))) (RemoveXattr (codes "user.a") (codes "d/e"))) ≡ Some (record { kind = File; mode = 0o600; uid = 0; gid = 0; atime = record { secs = 0; nanos = 0 }; mtime = record { secs = 0; nanos = 0 }; rdev = 0; flags = 0; target = []; xattrs = []; cells = codes "abc" })
unfolding composing_words
attribute_removed = refl

longest_attribute : refused (made (SetXattr (replicate 255 97) [] (codes "f"))) ≡ None
unfolding composing_words
longest_attribute = refl

attribute_too_long : refused (made (SetXattr (replicate 256 97) [] (codes "f"))) ≡ Some BadXattr
unfolding composing_words
attribute_too_long = refl

attribute_unnamed : refused (made (SetXattr [] [] (codes "f"))) ≡ Some BadXattr
unfolding composing_words
attribute_unnamed = refl

attribute_of_nothing : refused (made (SetXattr [] [] (codes "q"))) ≡ Some NoEntry
unfolding composing_words
attribute_of_nothing = refl

attribute_not_there : refused (made (RemoveXattr (codes "user.a") (codes "f"))) ≡ Some NoXattr
unfolding composing_words
attribute_not_there = refl

removed_unnamed : refused (made (RemoveXattr [] (codes "f"))) ≡ Some BadXattr
unfolding composing_words
removed_unnamed = refl

removed_of_nothing : refused (made (RemoveXattr [] (codes "q"))) ≡ Some NoEntry
unfolding composing_words
removed_of_nothing = refl

-- ---- contents

written_over : inode 258 (made (Write (codes "d/e") 1 (codes "X"))) ≡ Some (record { kind = File; mode = 0o600; uid = 0; gid = 0; atime = record { secs = 0; nanos = 0 }; mtime = record { secs = 0; nanos = 0 }; rdev = 0; flags = 0; target = []; xattrs = []; cells = codes "aXc" })
unfolding composing_words
written_over = refl

gap_filled : inode 258 (made (Write (codes "d/e") 5 (codes "X"))) ≡ Some (record { kind = File; mode = 0o600; uid = 0; gid = 0; atime = record { secs = 0; nanos = 0 }; mtime = record { secs = 0; nanos = 0 }; rdev = 0; flags = 0; target = []; xattrs = []; cells = codes "abc" ++ 0 ∷ 0 ∷ codes "X" })
unfolding composing_words
gap_filled = refl

no_bytes : inode 258 (made (Write (codes "d/e") 5 [])) ≡ Some (record { kind = File; mode = 0o600; uid = 0; gid = 0; atime = record { secs = 0; nanos = 0 }; mtime = record { secs = 0; nanos = 0 }; rdev = 0; flags = 0; target = []; xattrs = []; cells = codes "abc" })
unfolding composing_words
no_bytes = refl

write_nothing : refused (made (Write (codes "q") 0 [])) ≡ Some NoEntry
unfolding composing_words
write_nothing = refl

write_directory : refused (made (Write [] 9_223_372_036_854_775_807 (codes "X"))) ≡ Some NotFile
unfolding composing_words
write_directory = refl

write_link : refused (made (Write (codes "s") 0 [])) ≡ Some NotFile
unfolding composing_words
write_link = refl

write_too_far : refused (made (Write (codes "f") 9_223_372_036_854_775_807 (codes "X"))) ≡ Some FileTooBig
unfolding composing_words
write_too_far = refl

no_bytes_too_far : refused (made (Write (codes "f") 9_223_372_036_854_775_808 [])) ≡ Some FileTooBig
unfolding composing_words
no_bytes_too_far = refl

no_bytes_at_end : refused (made (Write (codes "f") 9_223_372_036_854_775_807 [])) ≡ None
unfolding composing_words
no_bytes_at_end = refl

cut : inode 258 (made (Truncate 1 (codes "d/e"))) ≡ Some (record { kind = File; mode = 0o600; uid = 0; gid = 0; atime = record { secs = 0; nanos = 0 }; mtime = record { secs = 0; nanos = 0 }; rdev = 0; flags = 0; target = []; xattrs = []; cells = codes "a" })
unfolding composing_words
cut = refl

lengthened : inode 258 (made (Truncate 5 (codes "d/e"))) ≡ Some (record { kind = File; mode = 0o600; uid = 0; gid = 0; atime = record { secs = 0; nanos = 0 }; mtime = record { secs = 0; nanos = 0 }; rdev = 0; flags = 0; target = []; xattrs = []; cells = codes "abc" ++ 0 ∷ 0 ∷ [] })
unfolding composing_words
lengthened = refl

cut_fifo : refused (made (Truncate 9_223_372_036_854_775_808 (codes "n"))) ≡ Some NotFile
unfolding composing_words
cut_fifo = refl

cut_too_far : refused (made (Truncate 9_223_372_036_854_775_808 (codes "f"))) ≡ Some FileTooBig
unfolding composing_words
cut_too_far = refl

allocated_past : inode 258 (made (Fallocate 2 (codes "d/e") 3 0)) ≡ Some (record { kind = File; mode = 0o600; uid = 0; gid = 0; atime = record { secs = 0; nanos = 0 }; mtime = record { secs = 0; nanos = 0 }; rdev = 0; flags = 0; target = []; xattrs = []; cells = codes "abc" ++ 0 ∷ 0 ∷ [] })
unfolding composing_words
allocated_past = refl

allocated_within : inode 258 (made (Fallocate 1 (codes "d/e") 0 0)) ≡ Some (record { kind = File; mode = 0o600; uid = 0; gid = 0; atime = record { secs = 0; nanos = 0 }; mtime = record { secs = 0; nanos = 0 }; rdev = 0; flags = 0; target = []; xattrs = []; cells = codes "abc" })
unfolding composing_words
allocated_within = refl

size_kept : inode 258 (made (Fallocate 9 (codes "d/e") 0 1)) ≡ Some (record { kind = File; mode = 0o600; uid = 0; gid = 0; atime = record { secs = 0; nanos = 0 }; mtime = record { secs = 0; nanos = 0 }; rdev = 0; flags = 0; target = []; xattrs = []; cells = codes "abc" })
unfolding composing_words
size_kept = refl

hole_punched : inode 258 (made (Fallocate 9 (codes "d/e") 1 3)) ≡ Some (record { kind = File; mode = 0o600; uid = 0; gid = 0; atime = record { secs = 0; nanos = 0 }; mtime = record { secs = 0; nanos = 0 }; rdev = 0; flags = 0; target = []; xattrs = []; cells = codes "a" ++ 0 ∷ 0 ∷ [] })
unfolding composing_words
hole_punched = refl

hole_within : inode 258 (made (Fallocate 1 (codes "d/e") 1 3)) ≡ Some (record { kind = File; mode = 0o600; uid = 0; gid = 0; atime = record { secs = 0; nanos = 0 }; mtime = record { secs = 0; nanos = 0 }; rdev = 0; flags = 0; target = []; xattrs = []; cells = codes "a" ++ 0 ∷ codes "c" })
unfolding composing_words
hole_within = refl

hole_past : inode 258 (made (Fallocate 9 (codes "d/e") 5 3)) ≡ Some (record { kind = File; mode = 0o600; uid = 0; gid = 0; atime = record { secs = 0; nanos = 0 }; mtime = record { secs = 0; nanos = 0 }; rdev = 0; flags = 0; target = []; xattrs = []; cells = codes "abc" })
unfolding composing_words
hole_past = refl

range_zeroed : inode 258 (made (Fallocate 2 (codes "d/e") 2 16)) ≡ Some (record { kind = File; mode = 0o600; uid = 0; gid = 0; atime = record { secs = 0; nanos = 0 }; mtime = record { secs = 0; nanos = 0 }; rdev = 0; flags = 0; target = []; xattrs = []; cells = codes "ab" ++ 0 ∷ 0 ∷ [] })
unfolding composing_words
range_zeroed = refl

range_past_zeroed : inode 258 (made (Fallocate 1 (codes "d/e") 4 16)) ≡ Some (record { kind = File; mode = 0o600; uid = 0; gid = 0; atime = record { secs = 0; nanos = 0 }; mtime = record { secs = 0; nanos = 0 }; rdev = 0; flags = 0; target = []; xattrs = []; cells = codes "abc" ++ 0 ∷ 0 ∷ [] })
unfolding composing_words
range_past_zeroed = refl

zeroed_within : inode 258 (made (Fallocate 2 (codes "d/e") 2 17)) ≡ Some (record { kind = File; mode = 0o600; uid = 0; gid = 0; atime = record { secs = 0; nanos = 0 }; mtime = record { secs = 0; nanos = 0 }; rdev = 0; flags = 0; target = []; xattrs = []; cells = codes "ab" ++ 0 ∷ [] })
unfolding composing_words
zeroed_within = refl

no_range : inode 258 (made (Fallocate 0 (codes "d/e") 9 0)) ≡ Some (record { kind = File; mode = 0o600; uid = 0; gid = 0; atime = record { secs = 0; nanos = 0 }; mtime = record { secs = 0; nanos = 0 }; rdev = 0; flags = 0; target = []; xattrs = []; cells = codes "abc" })
unfolding composing_words
no_range = refl

allocate_nothing : refused (made (Fallocate 1 (codes "q") 0 2)) ≡ Some NoEntry
unfolding composing_words
allocate_nothing = refl

allocate_directory : refused (made (Fallocate 1 (codes "d") 0 2)) ≡ Some NotFile
unfolding composing_words
allocate_directory = refl

no_mode : refused (made (Fallocate 1 (codes "f") 9_223_372_036_854_775_807 2)) ≡ Some (BadFallocate 2)
unfolding composing_words
no_mode = refl

no_mode_no_range : refused (made (Fallocate 0 (codes "f") 0 19)) ≡ Some (BadFallocate 19)
unfolding composing_words
no_mode_no_range = refl

-- No other bits make a mode, alone or beside the five: not those of the kernel's other modes.
no_other_mode : map allocation_of (2 ∷ 4 ∷ 5 ∷ 7 ∷ 8 ∷ 18 ∷ 19 ∷ 32 ∷ 64 ∷ 65 ∷ []) ≡ replicate 10 None
no_other_mode = refl

allocate_too_far : refused (made (Fallocate 1 (codes "f") 9_223_372_036_854_775_807 1)) ≡ Some FileTooBig
unfolding composing_words
allocate_too_far = refl

no_range_too_far : refused (made (Fallocate 0 (codes "f") 9_223_372_036_854_775_808 3)) ≡ Some FileTooBig
unfolding composing_words
no_range_too_far = refl

-- ---- heads, and commands without a part

-- A store with one unfinished and one complete subvolume, and no part.
abbrev store_before : State ℕ
store_before = record {
  store =
      record { name = codes "p"; key = key 0x11 1; parent = None; contents = Some before }
      ∷ record { name = codes "u"; key = key 0x22 2; parent = None; contents = None } ∷ [];
  part = None;
}

abbrev step_refused : Command → Option Refusal
step_refused command = (step 0 (bytes_of command) store_before command).refusal

-- ---- in order

no_part : step_refused (MkFile (codes "d//x")) ≡ Some NoSubvolume
unfolding composing_words
no_part = refl

no_part_clone : step_refused (Clone (codes "d//x") 0 (uuid 0x99) 1 (codes "f") 0 0) ≡ Some NoSubvolume
unfolding composing_words
no_part_clone = refl

no_part_extent : step_refused (UpdateExtent 1 (codes "x") 0) ≡ Some NoSubvolume
unfolding composing_words
no_part_extent = refl

name_of_two : step_refused (Subvol (uuid 0x11) 1 (codes "p/q")) ≡ Some BadName
unfolding composing_words
name_of_two = refl

name_dots : step_refused (Subvol (uuid 0x11) 1 (codes "..")) ≡ Some BadName
unfolding composing_words
name_dots = refl

name_there : step_refused (Subvol (uuid 0x11) 1 (codes "u")) ≡ Some NameThere
unfolding composing_words
name_there = refl

uuid_there : step_refused (Snapshot (uuid 0x22) 3 (codes "x") (uuid 0x99) 1) ≡ Some UuidThere
unfolding composing_words
uuid_there = refl

no_parent : step_refused (Snapshot (uuid 0x33) 3 (codes "x") (uuid 0x99) 1) ≡ Some NoParent
unfolding composing_words
no_parent = refl

other_time : step_refused (Snapshot (uuid 0x33) 3 (codes "x") (uuid 0x11) 2) ≡ Some NoParent
unfolding composing_words
other_time = refl

unfinished_parent : step_refused (Snapshot (uuid 0x33) 3 (codes "x") (uuid 0x22) 2) ≡ Some NoParent
unfolding composing_words
unfinished_parent = refl

parent_there : step_refused (Snapshot (uuid 0x33) 3 (codes "x") (uuid 0x11) 1) ≡ None
unfolding composing_words
parent_there = refl

-- A part and a file in it; then a head of the same name, which is refused: it has completed the
-- part before it, and there is none.
abbrev first_begun : State ℕ
first_begun = (step 0 [] (start_of []) (Subvol (uuid 0x11) 1 (codes "a"))).state

abbrev head_refused : State ℕ
head_refused = (step 0 [] (step 0 [] first_begun (MkFile (codes "x"))).state (Subvol (uuid 0x22) 2 (codes "a"))).state

completed_though_refused : head_refused ≡
    record { store = record { name = codes "a"; key = key 0x11 1; parent = None; contents = Some (one_file [] (codes "x" ∷ [])) } ∷ []; part = None }
unfolding composing_words
completed_though_refused = refl

-- A refused edit changes nothing, and the part goes on.
part_goes_on : (step 0 [] first_begun (Unlink (codes "q"))).state ≡ first_begun
unfolding composing_words
part_goes_on = refl

-- ---- clones

-- A part with a file of two blocks and a bit, and one of a block; and the same as a complete
-- subvolume.
abbrev blocks : Subvolume ℕ
blocks = record {
  inodes = (256, directory) ∷ (257, file (replicate 4_096 0x61 ++ replicate 4_096 0x62 ++ replicate 10 0x63)) ∷ (258, file (replicate 4_096 0x64)) ∷ [];
  names = ((256, codes "x"), 257) ∷ ((256, codes "y"), 258) ∷ [];
  next = 259;
}

abbrev clone_refused : Command → Option Refusal
clone_refused command = refused (edit_part 0 [] (record { name = codes "p"; key = key 0x11 1; parent = None; contents = Some blocks } ∷ []) (record { key = key 0x22 2; subvolume = blocks }) command)

-- ---- in order

to_bad_path : clone_refused (Clone (codes "x//") 0 (uuid 0x99) 1 (codes "y") 0 0) ≡ Some BadPath
unfolding composing_words
to_bad_path = refl

from_bad_path : clone_refused (Clone (codes "q") 0 (uuid 0x99) 1 (codes "y//") 0 0) ≡ Some BadPath
unfolding composing_words
from_bad_path = refl

no_source : clone_refused (Clone (codes "q") 0 (uuid 0x99) 1 (codes "q") 0 0) ≡ Some NoSource
unfolding composing_words
no_source = refl

other_source : clone_refused (Clone (codes "q") 0 (uuid 0x11) 2 (codes "q") 0 0) ≡ Some NoSource
unfolding composing_words
other_source = refl

to_nothing : clone_refused (Clone (codes "q") 0 (uuid 0x11) 1 (codes "r") 0 0) ≡ Some NoEntry
unfolding composing_words
to_nothing = refl

to_directory : clone_refused (Clone [] 0 (uuid 0x11) 1 (codes "r") 0 0) ≡ Some NotFile
unfolding composing_words
to_directory = refl

from_nothing : clone_refused (Clone (codes "x") 0 (uuid 0x11) 1 (codes "r") 0 0) ≡ Some NoEntry
unfolding composing_words
from_nothing = refl

from_directory : clone_refused (Clone (codes "x") 0 (uuid 0x11) 1 [] 0 0) ≡ Some NotFile
unfolding composing_words
from_directory = refl

no_range_cloned : clone_refused (Clone (codes "x") 1 (uuid 0x11) 1 (codes "y") 0 0) ≡ Some BadRange
unfolding composing_words
no_range_cloned = refl

past_its_end : clone_refused (Clone (codes "x") 1 (uuid 0x11) 1 (codes "y") 0 4_097) ≡ Some BadRange
unfolding composing_words
past_its_end = refl

to_inside_block : clone_refused (Clone (codes "x") 1 (uuid 0x11) 1 (codes "y") 0 4_096) ≡ Some Unaligned
unfolding composing_words
to_inside_block = refl

from_inside_block : clone_refused (Clone (codes "y") 0 (uuid 0x11) 1 (codes "x") 1 4_096) ≡ Some Unaligned
unfolding composing_words
from_inside_block = refl

short_before_end : clone_refused (Clone (codes "y") 0 (uuid 0x11) 1 (codes "x") 4_096 4_000) ≡ Some Unaligned
unfolding composing_words
short_before_end = refl

short_at_its_end : clone_refused (Clone (codes "y") 0 (uuid 0x11) 1 (codes "x") 4_096 4_106) ≡ None
unfolding composing_words
short_at_its_end = refl

-- What is not aligned is told before what ends too far.
unaligned_first : clone_refused (Clone (codes "y") 9_223_372_036_854_775_807 (uuid 0x11) 1 (codes "y") 0 4_096) ≡ Some Unaligned
unfolding composing_words
unaligned_first = refl

clone_too_far : clone_refused (Clone (codes "y") 9_223_372_036_854_771_712 (uuid 0x11) 1 (codes "y") 0 4_096) ≡ Some FileTooBig
unfolding composing_words
clone_too_far = refl

onto_itself : clone_refused (Clone (codes "x") 4_096 (uuid 0x22) 77 (codes "x") 0 8_192) ≡ Some Overlap
unfolding composing_words
onto_itself = refl

beside_itself : clone_refused (Clone (codes "x") 4_096 (uuid 0x22) 77 (codes "x") 0 4_096) ≡ None
unfolding composing_words
beside_itself = refl

onto_another : clone_refused (Clone (codes "x") 4_096 (uuid 0x11) 1 (codes "x") 0 8_192) ≡ None
unfolding composing_words
onto_another = refl
