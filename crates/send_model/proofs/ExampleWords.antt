-- Words for worked examples: bytes from hexadecimal digits, keys whose uuid is one byte repeated,
-- files and directories as they are made, a store of one subvolume, and items that are made of
-- commands alone.
use Rattle.std.specs.Prelude.{ℕ, ◌+◌, ◌-◌, ◌*◌, List, [], ◌∷◌, map, replicate, None, Some, codes, nat_lt, if◌then◌else◌}
use Rattle.send_model.specs.Checksum.{crc_of, crc_byte, shift, shifts}
use Rattle.send_model.specs.Path.{is_name, between_slashes, path_names}
use Rattle.send_model.specs.Attribute.{form_of}
use Rattle.send_model.specs.Command.{Command, row, kind_of_number}
use Rattle.send_model.specs.Spelling.{stream_header, canonical, canonical_all, frame_of, frame_checksum, attributes_of, attribute_bytes, body_of}
use Rattle.send_model.specs.Reading.{Item, reads, reads_from, front_of, frame_at, frame_with, number16, number32, stream_version, attributes_at, attributes_from, command_of, wanted_there, input, input_from}
use Rattle.send_model.specs.Subvolume.{File, Directory, Inode, Subvolume, root_alone, is_directory, is_file, walk_names, walk, spot, inodes_on_way, name_count, is_empty_directory, paths_from, all_paths, first_path, is_nameable}
use Rattle.send_model.specs.Edit.{resized, overwritten, written_at, fallocated, change_inode, add_inode, take_name, make, make_device, link, unlink, rmdir, change_at, set_xattr, remove_xattr, fallocate, lies_below, move_name, rename_onto, rename, change_contents, edit}
use Rattle.send_model.specs.Clone.{cells_of, cloned, clone}
use Rattle.send_model.specs.Store.{Key, Store, find, with_contents, completed, begun, step_head, edit_part, step_edit, step}
use Rattle.send_model.specs.Order.{heads_of}
use Rattle.send_model.specs.Provenance.{traced_subvolume, traced_store, clone_range, ranges_from, blocks, carried_from, pieces_of}
use Rattle.send_model.specs.Composed.{composed_from, composed_edits, composed_with}

-- The number of a hexadecimal digit, 0 to 9 or a to f.
abbrev pub digit : ℕ → ℕ
digit letter = if nat_lt letter 97 then letter - 48 else letter - 87

-- The bytes that pairs of hexadecimal digits say.
abbrev pub hexadecimal : List ℕ → List ℕ
hexadecimal (high ∷ low ∷ letters) = (digit high * 16 + digit low) ∷ hexadecimal letters
hexadecimal _ = []

abbrev pub uuid : ℕ → List ℕ
uuid byte = replicate 16 byte

abbrev pub key : ℕ → ℕ → Key
key byte ctransid = record { uuid = uuid byte; ctransid = ctransid }

abbrev pub directory : Inode ℕ
directory = record { kind = Directory; mode = 0o700; uid = 0; gid = 0; atime = record { secs = 0; nanos = 0 }; mtime = record { secs = 0; nanos = 0 }; rdev = 0; flags = 0; target = []; xattrs = []; cells = [] }

abbrev pub file : List ℕ → Inode ℕ
file cells = record { kind = File; mode = 0o600; uid = 0; gid = 0; atime = record { secs = 0; nanos = 0 }; mtime = record { secs = 0; nanos = 0 }; rdev = 0; flags = 0; target = []; xattrs = []; cells = cells }

-- A subvolume with one file, of number 257, under each of some names in its root.
abbrev pub one_file : List ℕ → List (List ℕ) → Subvolume ℕ
one_file cells names = record {
  inodes = (256, directory) ∷ (257, file cells) ∷ [];
  names = map (λ name. ((256, name), 257)) names;
  next = 258;
}

-- The store whose one subvolume is this one.
abbrev pub store_of : Subvolume ℕ → Store ℕ
store_of s = record { name = codes "p"; key = key 0x11 1; parent = None; contents = Some s } ∷ []

-- Items of commands. Composing looks at nothing else of an item.
abbrev pub items : List Command → List Item
items commands = map (λ command. record { file = 1; number = 1; offset = 0; version = 1; data_at = 0; command = command }) commands

-- ---- what an example computes with

-- Reading and spelling.
unfoldable pub reading_words : Unit {0}
unfolding reads reads_from front_of number16 number32 frame_with frame_at stream_version attributes_at attributes_from command_of wanted_there input input_from canonical canonical_all stream_header frame_of attributes_of attribute_bytes body_of kind_of_number row form_of frame_checksum crc_of crc_byte shifts shift
reading_words = tt

-- Edits and clones.
unfoldable pub edit_words : Unit {0}
unfolding edit make make_device rmdir set_xattr remove_xattr change_at fallocate fallocated link unlink rename rename_onto move_name take_name lies_below change_contents resized overwritten written_at change_inode add_inode clone cloned cells_of root_alone spot walk walk_names inodes_on_way name_count is_empty_directory path_names between_slashes is_name is_directory is_file
edit_words = tt

-- Steps, traces and composing.
unfoldable pub composing_words : Unit {0}
unfolding edit_words step step_head step_edit edit_part begun completed with_contents find heads_of traced_store traced_subvolume clone_range ranges_from blocks carried_from pieces_of is_nameable first_path all_paths paths_from composed_with composed_edits composed_from
composing_words = tt
