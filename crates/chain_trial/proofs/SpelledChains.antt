-- Each command of a chain can be spelled in version 1, and the parts of a chain end with END.
use Rattle.std.specs.Prelude.{◌≡◌, ℕ, zero, suc, ◌+◌, ◌-◌, ◌*◌, ◌%◌, ◌<◌, ◌≤◌, ◌^◌, false, List, [], ◌∷◌, ◌++◌, map, length, replicate, codes}
use Rattle.std.specs.List.{AllByRecursion}
use Rattle.std.specs.Int.{w64, to_le_bytes}
use Rattle.std.specs.Fmt.{decimal}
use Rattle.std.proofs.Common.{refl, arith}
use Rattle.std.proofs.lemmas.Fmt.{decimal_by_steps, length-decimal-le}
use Rattle.std.proofs.lemmas.List.{length-replicate}
use Rattle.std.proofs.Math.Nat.{mod-lt}
use Rattle.send_model.specs.Attribute.{IsBytes}
use Rattle.send_model.specs.Command.{Command, Subvol, Snapshot, MkFile, Rename, Write, Clone, End, row, kind_of_number}
use Rattle.send_model.specs.Counts.{is_end}
use Rattle.send_model.specs.Generated.{number_after, drawn, draw, part_name, part_uuid, file_name, files, first_part, later_part, parts_of}
use Rattle.send_model.specs.Laws.{CanWrite, AreInner}
use Rattle.send_model.proofs.Canonical.{bytes_append, le8_bytes, spellable_first}
use Rattle.send_model.proofs.ElementLaws.{all_both}

-- ---- names, identifiers and contents

decimal_bytes : (n : ℕ) → n < 2 ^ 64 → IsBytes (decimal n)
decimal_bytes n small =
    decimal_by_steps (λ m ds. IsBytes ds) (λ m h. (omega (arith, h), tt))
    (λ m ds h more. bytes_append ds ((48 + m % 10) ∷ []) more (omega arith, tt)) n small

uuid_bytes : (seed part : ℕ) → IsBytes (part_uuid seed part)
uuid_bytes seed part = bytes_append (to_le_bytes w64 seed) (to_le_bytes w64 part) (le8_bytes seed) (le8_bytes part)

same_bytes : (count byte : ℕ) → byte < 256 → IsBytes (replicate count byte)
same_bytes zero byte small = tt
same_bytes (suc count) byte small = (small, same_bytes count byte small)

-- A name of a letter and a number.
record IsShortName (name : List ℕ) : Type 0 where
  short : length name < 2 ^ 16
  bytes : IsBytes name

lettered : (letter n : ℕ) → letter < 256 → n ≤ 4_096 → IsShortName (letter ∷ decimal n)
lettered letter n small low =
    let len : length (decimal n) ≤ 4 = length-decimal-le 4 n (omega arith) (omega (arith, low)) (omega (arith, low)) in
    record { short = omega (arith, len); bytes = (small, decimal_bytes n (omega (arith, low))) }

named_part : (part : ℕ) → part ≤ 4_096 → IsShortName (part_name part)
named_part part low = lettered 103 part (omega arith) low

named_file : (file : ℕ) → file < 8 → IsShortName (file_name file)
named_file file low = lettered 102 file (omega arith) (omega (arith, low))

-- ---- commands

subvol_said : (uuid : List ℕ) (name : List ℕ) → length uuid ≡ 16 → IsBytes uuid → IsShortName name → CanWrite 1 (Subvol uuid 1 name)
unfolding kind_of_number row
subvol_said uuid name len bytes n =
    record { spellable = spellable_first 1 (Subvol uuid 1 name) refl ((len, bytes), (omega arith, (((λ e. n.short), n.bytes), tt))) }

snapshot_said : (uuid name before : List ℕ) (part : ℕ) → length uuid ≡ 16 → IsBytes uuid → IsShortName name → length before ≡ 16 → IsBytes before → part ≤ 4_096
    → CanWrite 1 (Snapshot uuid part name before (part - 1))
unfolding kind_of_number row
snapshot_said uuid name before part len bytes n before_len before_bytes low =
    record {
      spellable = spellable_first 1 (Snapshot uuid part name before (part - 1)) refl
          ((len, bytes), (omega (arith, low), (((λ e. n.short), n.bytes), ((before_len, before_bytes), (omega (arith, low), tt)))));
    }

mkfile_said : (name : List ℕ) → IsShortName name → CanWrite 1 (MkFile name)
unfolding kind_of_number row
mkfile_said name n = record { spellable = spellable_first 1 (MkFile name) refl (((λ e. n.short), n.bytes), tt) }

write_said : (name : List ℕ) (offset count byte : ℕ) → IsShortName name → offset < 2 ^ 64 → count < 2 ^ 16 → byte < 256 → CanWrite 1 (Write name offset (replicate count byte))
unfolding kind_of_number row
write_said name offset count byte n low few small =
    record {
      spellable = spellable_first 1 (Write name offset (replicate count byte)) refl
          (((λ e. n.short), n.bytes), (low, (((λ e. omega (arith, few, length-replicate count byte)), same_bytes count byte small), tt)));
    }

clone_said : (to : List ℕ) (offset : ℕ) (before : List ℕ) (number : ℕ) (source : List ℕ) (from len : ℕ) → IsShortName to → offset < 2 ^ 64 → length before ≡ 16 → IsBytes before → number < 2 ^ 64
    → IsShortName source → from < 2 ^ 64 → len < 2 ^ 64 → CanWrite 1 (Clone to offset before number source from len)
unfolding kind_of_number row
clone_said to offset before number source from len n low before_len before_bytes few s from_low len_low =
    record {
      spellable = spellable_first 1 (Clone to offset before number source from len) refl
          (((λ e. n.short), n.bytes), (low, ((before_len, before_bytes), (few, (((λ e. s.short), s.bytes), (from_low, (len_low, tt)))))));
    }

rename_said : (name to : List ℕ) → IsShortName name → IsShortName to → CanWrite 1 (Rename name to)
unfolding kind_of_number row
rename_said name to n t = record { spellable = spellable_first 1 (Rename name to) refl (((λ e. n.short), n.bytes), (((λ e. t.short), t.bytes), tt)) }

uuid_len : (seed part : ℕ) → length (part_uuid seed part) ≡ 16
uuid_len seed part = omega arith

-- ---- parts

-- The commands of a part before its END.
abbrev pub IsPart : List Command → Type 0
IsPart part = (inner : List Command) × (part ≡ inner ++ End ∷ []) × AreInner 1 inner

files_made : (fs : List ℕ) → AllByRecursion (λ f. f < 8) fs → AreInner 1 (map (λ file. MkFile (file_name file)) fs)
files_made [] low = tt
files_made (f ∷ fs) low = ((mkfile_said (file_name f) (named_file f low.0), refl), files_made fs low.1)

files_filled : (fs : List ℕ) → AllByRecursion (λ f. f < 8) fs → AreInner 1 (map (λ file. Write (file_name file) 0 (replicate 12_288 file)) fs)
files_filled [] low = tt
files_filled (f ∷ fs) low = ((write_said (file_name f) 0 12_288 f (named_file f low.0) (omega arith) (omega arith) (omega (arith, low.0)), refl), files_filled fs low.1)

all_low : AllByRecursion (λ f. f < 8) files
all_low = (omega arith, (omega arith, (omega arith, (omega arith, (omega arith, (omega arith, (omega arith, (omega arith, tt))))))))

first_is_part : (seed : ℕ) → IsPart (first_part seed)
unfolding first_part
first_is_part seed = (
  Subvol (part_uuid seed 1) 1 (part_name 1) ∷ (map (λ file. MkFile (file_name file)) files ++ map (λ file. Write (file_name file) 0 (replicate 12_288 file)) files),
  refl,
  (
    (subvol_said (part_uuid seed 1) (part_name 1) (uuid_len seed 1) (uuid_bytes seed 1) (named_part 1 (omega arith)), refl),
    all_both (λ c. CanWrite 1 c × (is_end c ≡ false)) (map (λ file. MkFile (file_name file)) files) (map (λ file. Write (file_name file) 0 (replicate 12_288 file)) files) (files_made files all_low) (files_filled files all_low),
  ),
)

below : (seed turn n : ℕ) → 0 < n → draw seed turn n < n
below seed turn n some = mod-lt (drawn (number_after turn seed)) some

later_is_part : (seed part : ℕ) → part ≤ 4_096 → IsPart (later_part seed part)
unfolding later_part
later_is_part seed part low =
    let before : ℕ = 7 * (part - 2) in
    let written : List ℕ = file_name (draw seed (before + 1) 8) in
    let named = named_file (draw seed (before + 1) 8) (below seed (before + 1) 8 (omega arith)) in
    let t : IsShortName (codes "t") = record { short = omega arith; bytes = (omega arith, tt) } in
    let block = below seed (before + 2) 3 (omega arith) in
    let from = below seed (before + 5) 3 (omega arith) in
    let goal = below seed (before + 7) 3 (omega arith) in (
      Snapshot (part_uuid seed part) part (part_name part) (part_uuid seed (part - 1)) (part - 1)
          ∷ Write written (4_096 * draw seed (before + 2) 3) (replicate 4_096 (draw seed (before + 3) 256))
          ∷ Clone (file_name (draw seed (before + 6) 8)) (4_096 * draw seed (before + 7) 3) (part_uuid seed (part - 1)) (part - 1)
          (file_name (draw seed (before + 4) 8)) (4_096 * draw seed (before + 5) 3) 4_096
          ∷ Rename written (codes "t") ∷ Rename (codes "t") written ∷ [],
      refl,
      (
        (snapshot_said (part_uuid seed part) (part_name part) (part_uuid seed (part - 1)) part (uuid_len seed part) (uuid_bytes seed part) (named_part part low) (uuid_len seed (part - 1)) (uuid_bytes seed (part - 1)) low, refl),
        (
          (write_said written (4_096 * draw seed (before + 2) 3) 4_096 (draw seed (before + 3) 256) named (omega (arith, block)) (omega arith) (below seed (before + 3) 256 (omega arith)), refl),
          (
            (
              clone_said (file_name (draw seed (before + 6) 8)) (4_096 * draw seed (before + 7) 3) (part_uuid seed (part - 1)) (part - 1) (file_name (draw seed (before + 4) 8)) (4_096 * draw seed (before + 5) 3) 4_096
                  (named_file (draw seed (before + 6) 8) (below seed (before + 6) 8 (omega arith))) (omega (arith, goal)) (uuid_len seed (part - 1)) (uuid_bytes seed (part - 1)) (omega (arith, low))
                  (named_file (draw seed (before + 4) 8) (below seed (before + 4) 8 (omega arith))) (omega (arith, from)) (omega arith),
              refl,
            ),
            ((rename_said written (codes "t") named t, refl), ((rename_said (codes "t") written t named, refl), tt)),
          ),
        ),
      ),
    )

pub all_are_parts : (seed count : ℕ) → count ≤ 4_096 → AllByRecursion IsPart (parts_of seed count)
unfolding parts_of
all_are_parts seed zero low = tt
all_are_parts seed (suc zero) low = (first_is_part seed, tt)
all_are_parts seed (suc (suc count)) low =
    all_both IsPart (parts_of seed (suc count)) (later_part seed (suc (suc count)) ∷ []) (all_are_parts seed (suc count) (omega (arith, low))) (later_is_part seed (suc (suc count)) low, tt)
