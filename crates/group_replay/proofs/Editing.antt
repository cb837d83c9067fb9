-- Edits of the open part: that they are edits, where their data stand, and that they are short.
use Rattle.std.specs.Prelude.{◌≡◌, ℕ, ◌+◌, ◌^◌, ◌≤◌, ◌==◌, Bool, true, false, List, [], ◌++◌, length, Option, None, Some, Result, if◌then◌else◌}
use Rattle.std.specs.Int.{w16, w32, to_le_bytes}
use Rattle.std.specs.Option.{unwrap_or}
use Rattle.std.proofs.Common.{refl, sym, ◌∙◌, ap, arith, length-append, zero-le}
use Rattle.send_model.specs.Attribute.{PATH, FILE_OFFSET, DATA, field_bytes, Number, takes_rest}
use Rattle.send_model.specs.Command.{Command, Subvol, Snapshot, Write, End, row, kind_of}
use Rattle.send_model.specs.Spelling.{Attribute, length_bytes, attribute_bytes, body_of, attributes_of, frame_of, frame_checksum, canonical, IsSpellable}
use Rattle.send_model.specs.Reading.{data_place, attribute_head}
use Rattle.send_model.specs.Receive.{bytes_of}
use Rattle.send_model.specs.Refusal.{Refusal}
use Rattle.send_model.specs.Subvolume.{Subvolume}
use Rattle.send_model.specs.Store.{Store, Part, edit_part}
use Rattle.extent_map.specs.Pieces.{run_cells}
use Rattle.send_commands.specs.Writing.{data_at, IsShortEnough, IfSecond}
use Rattle.clone_resolve.specs.Steps.{data_len, done_by}
use Rattle.clone_resolve.specs.declared.done.Done.TheVariants as done
use Rattle.group_replay.specs.declared.place.Place.{Place}
use Rattle.group_replay.specs.Placing.{further}
use Rattle.store_model.specs.Stored.{is_edit}
use Rattle.group_replay.specs.Taking.{as_runs}

pub is_edited : (c : Command) → is_edit c ≡ true → done_by c ≡ done.Edited
is_edited (Subvol uuid ctransid path) e = cc
is_edited (Snapshot uuid ctransid path clone_uuid clone_ctransid) e = cc
is_edited End e = cc
is_edited c e = refl

in_attribute : (version : ℕ) (a : Attribute) → length a.bytes ≤ length (attribute_bytes version a)
unfolding attribute_bytes
in_attribute version a =
    let kind : List ℕ = to_le_bytes w16 a.kind in
    let len : List ℕ = length_bytes version a in
    omega (arith, length-append kind (len ++ a.bytes), length-append len a.bytes)

three_parts : (xs ys zs : List ℕ) → length (xs ++ (ys ++ (zs ++ []))) ≡ length xs + length ys + length zs
three_parts xs ys zs = omega (arith, length-append xs (ys ++ (zs ++ [])), length-append ys (zs ++ []), length-append zs [])

-- A path and data lie in the body.
parts_in_body : (version : ℕ) (path : List ℕ) (offset : ℕ) (bytes : List ℕ) → length path + length bytes ≤ length (body_of version (attributes_of (Write path offset bytes)))
unfolding body_of attributes_of row
parts_in_body version path offset bytes =
    let at : ℕ → List ℕ → List ℕ = λ kind value. attribute_bytes version (record { kind = kind; bytes = value }) in
    omega (arith, in_attribute version (record { kind = PATH; bytes = path }), in_attribute version (record { kind = DATA; bytes = bytes }), three_parts (at PATH path) (at FILE_OFFSET (field_bytes (Number offset))) (at DATA bytes))

pub short_data : (version : ℕ) (c : Command) → IsSpellable version c → data_len c ≤ 2 ^ 18
short_data version (Write path offset bytes) s = let short = s.short in omega (arith, short, parts_in_body version path offset bytes)
short_data version c s = zero-le

head_few : (version kind : ℕ) → attribute_head version kind ≤ 4
head_few version kind = by_test (takes_rest version kind)
  where
    by_test : (b : Bool) → (if b then 2 else 4) ≤ 4
    by_test true = omega arith
    by_test false = omega arith

write_at : (version : ℕ) (path : List ℕ) (offset : ℕ) (bytes : List ℕ)
    → data_at version (Write path offset bytes) ≡ Some (10 + (attribute_head version PATH + length path + (attribute_head version FILE_OFFSET + 8 + attribute_head version DATA)))
unfolding data_at attributes_of row
write_at version path offset bytes = refl

pub near_data : (version : ℕ) (c : Command) → IsSpellable version c → unwrap_or (data_at version c) 0 ≤ 2 ^ 19
unfolding data_at attributes_of row
near_data version (Write path offset bytes) s =
    let short = s.short in
    omega (arith, short, parts_in_body version path offset bytes, ap (λ (o : Option ℕ). unwrap_or o 0) (write_at version path offset bytes), head_few version PATH, head_few version FILE_OFFSET, head_few version DATA)
near_data version c s = zero-le

-- The cells that an edit puts are the places of its data.
pub places_put : (version at : ℕ) (c : Command) → as_runs (data_place version at (attributes_of c)) (bytes_of c) ≡ run_cells further (record { at = at + unwrap_or (data_at version c) 0 }) (data_len c)
unfolding data_at attributes_of row run_cells
places_put version at (Write path offset bytes) = ap (λ (n : ℕ). run_cells further (record { at = n }) (length bytes)) (omega arith)
places_put version at c = refl

second_short : (b : Bool) (P : Type 0) → P → IfSecond b P
second_short true P p = p
second_short false P p = tt

pub short_enough : (version : ℕ) (c : Command) → IsSpellable version c → IsShortEnough version c
short_enough version c s = second_short (version == 2) _ s.short

-- The same of an edit, at a place that is worked out in parts.
pub edit_same : (version : ℕ) (c : Command) (store other : Store (Option Place)) (part : Part (Option Place)) (sum end size far : ℕ) (said : Result (Subvolume (Option Place)) Refusal) → store ≡ other → end ≡ size → far ≡ unwrap_or (data_at version c) 0 → sum ≡ end + far
    → edit_part None (run_cells further (record { at = sum }) (data_len c)) store part c ≡ said → edit_part None (as_runs (data_place version size (attributes_of c)) (bytes_of c)) other part c ≡ said
edit_same version c store other part sum end size far said same_store same_end same_far is e =
    let place : size + unwrap_or (data_at version c) 0 ≡ sum = omega (arith, same_end, same_far, is) in
    ap (λ (l : List (Option Place)). edit_part None l other part c) (places_put version size c ∙ ap (λ (n : ℕ). run_cells further (record { at = n }) (data_len c)) place)
    ∙ ap (λ (s : Store (Option Place)). edit_part None (run_cells further (record { at = sum }) (data_len c)) s part c) (sym same_store) ∙ e

-- The data of a command end within its frame.
frame_len : (number : ℕ) (body : List ℕ) → length (frame_of number body) ≡ 10 + length body
unfolding frame_of
frame_len number body = omega (arith, length-append (to_le_bytes w32 (length body)) (to_le_bytes w16 number ++ to_le_bytes w32 (frame_checksum (length body) number body) ++ body))

attribute_size : (version : ℕ) (a : Attribute) → attribute_head version a.kind + length a.bytes ≤ length (attribute_bytes version a)
unfolding attribute_bytes
attribute_size version a = by_test (takes_rest version a.kind)
  where
    by_test : (b : Bool) → (if b then 2 else 4) + length a.bytes ≤ length (to_le_bytes w16 a.kind ++ (if b then [] else to_le_bytes w16 (length a.bytes)) ++ a.bytes)
    by_test true = omega arith
    by_test false = omega (arith, length-append (to_le_bytes w16 (length a.bytes)) a.bytes)

pub data_in_frame : (version : ℕ) (c : Command) → unwrap_or (data_at version c) 0 + data_len c ≤ length (canonical version c)
unfolding data_at attributes_of row canonical body_of
data_in_frame version (Write path offset bytes) =
    let at : ℕ → List ℕ → List ℕ = λ kind value. attribute_bytes version (record { kind = kind; bytes = value }) in
    let body : List ℕ = body_of version (attributes_of (Write path offset bytes)) in
    omega (
      arith,
      ap (λ (o : Option ℕ). unwrap_or o 0) (write_at version path offset bytes),
      frame_len (row (kind_of (Write path offset bytes))).number body,
      three_parts (at PATH path) (at FILE_OFFSET (field_bytes (Number offset))) (at DATA bytes),
      attribute_size version (record { kind = PATH; bytes = path }),
      attribute_size version (record { kind = FILE_OFFSET; bytes = field_bytes (Number offset) }),
      attribute_size version (record { kind = DATA; bytes = bytes }),
    )
data_in_frame version c = zero-le
