-- What is read of files stands there: the data of each item at its place in its file.
use Rattle.std.specs.Prelude.{◌≡◌, ℕ, zero, suc, ◌+◌, ◌-◌, Bool, true, false, List, [], ◌∷◌, length, take, drop, Option, None, Some, Result, Ok, Err, if◌then◌else◌}
use Rattle.std.specs.List.{AllByRecursion}
use Rattle.std.proofs.Common.{refl, sym, ap, subst, ◌∙◌, arith, length-append, drop-drop}
use Rattle.std.proofs.Math.Seq.{drop-append_seam}
use Rattle.send_model.specs.Refusal.{Refusal}
use Rattle.send_model.specs.Attribute.{IsBytes}
use Rattle.send_model.specs.Command.{Command, Subvol, Snapshot, Write, Clone}
use Rattle.send_model.specs.Reading.{Item, Ending, Whole, Faulty, Reading, Front, Due, HeaderDue, CommandDue, due_after, may_end, with_item, go_on, ended, faulty, joined, header_len, stream_version, front_of, reads_from, reads, input_from, input}
use Rattle.send_model.specs.Receive.{bytes_of}
use Rattle.send_model.proofs.ElementLaws.{all_both}
use Rattle.send_model.proofs.Sound.{bytes_drop}
use Rattle.send_model.proofs.ReadSpelled.{read_was_spelled}
use Rattle.send_model.proofs.DataPlaces.{data_is_there}
use Rattle.send_model.specs.Store.{Key}
use Rattle.send_model.specs.Overridden.{Override, override_for, command_named, with_parents, command_as, overridden_as}
use Rattle.standing_model.specs.Promises.{file_bytes, IsThere, AreThere, OverriddenAreThere}

-- In a file of a number: an item's data stand there, and the item has its number.
record InFile (file : ℕ) (whole : List ℕ) (item : Item) : Type 0 where
  own : item.file ≡ file
  there : take (length (bytes_of item.command)) (drop item.data_at whole) ≡ bytes_of item.command

abbrev AllIn : ℕ → List ℕ → List Item → Type 0
AllIn file whole items = AllByRecursion (InFile file whole) items

by_result : {A : Type 0} (P : Reading → Type 0) (more : A → Reading) (stop : Refusal → Reading) (r : Result A Refusal) → ((x : A) → r ≡ Ok x → P (more x)) → ((refusal : Refusal) → P (stop refusal)) → P (go_on more stop r)
by_result P more stop (Ok x) f g = f x refl
by_result P more stop (Err refusal) f g = g refusal

module _ (file : ℕ) (whole : List ℕ) where
  -- The data of the item in front.
  front_there : (version number offset : ℕ) (bytes : List ℕ) (front : Front) → IsBytes bytes → drop offset whole ≡ bytes → front_of file version number offset bytes ≡ Ok front
      → take (length (bytes_of front.item.command)) (drop front.item.data_at whole) ≡ bytes_of front.item.command
  front_there version number offset bytes front is at e = one front.item.command refl
    where
      one : (c : Command) → front.item.command ≡ c → take (length (bytes_of c)) (drop front.item.data_at whole) ≡ bytes_of c
      one (Write path place written) said =
          let d = data_is_there file version number offset bytes front path place written is e said in
          let less = d.0 in
          let from : offset + (front.item.data_at - offset) ≡ front.item.data_at = omega (arith, less) in
          ap (λ (k : ℕ). take (length written) (drop k whole)) (sym from)
          ∙ ap (take (length written)) (sym (drop-drop (front.item.data_at - offset) offset whole) ∙ ap (drop (front.item.data_at - offset)) at) ∙ d.1
      one c said = refl

  front_in : (version number offset : ℕ) (bytes : List ℕ) (front : Front) → IsBytes bytes → drop offset whole ≡ bytes → front_of file version number offset bytes ≡ Ok front → InFile file whole front.item
  front_in version number offset bytes front is at e =
      let w = read_was_spelled file version number offset bytes front is e in
      record { own = ap (λ (i : Item). i.file) w.item_is; there = front_there version number offset bytes front is at e }

  -- What is left behind it.
  rest_at : (version number offset : ℕ) (bytes : List ℕ) (front : Front) → IsBytes bytes → drop offset whole ≡ bytes → front_of file version number offset bytes ≡ Ok front
      → drop (offset + (length bytes - length front.rest)) whole ≡ front.rest
  rest_at version number offset bytes front is at e =
      let w = read_was_spelled file version number offset bytes front is e in
      let size = ap length w.whole ∙ length-append w.frame front.rest in
      let gap : length bytes - length front.rest ≡ length w.frame = omega (arith, size) in
      sym (drop-drop (length bytes - length front.rest) offset whole) ∙ ap (drop (length bytes - length front.rest)) at
      ∙ ap (λ (k : ℕ). drop k bytes) gap ∙ ap (drop (length w.frame)) w.whole ∙ drop-append_seam w.frame front.rest

  all_in : (n : ℕ) (due : Due) (number offset : ℕ) (bytes : List ℕ) → IsBytes bytes → drop offset whole ≡ bytes → AllIn file whole (reads_from n file due number offset bytes).items
  unfolding reads_from
  all_in zero due number offset bytes is at = tt
  all_in (suc n) HeaderDue number offset bytes is at =
      by_result (λ r. AllIn file whole r.items) (λ version. reads_from n file (CommandDue version) number (offset + header_len) (drop header_len bytes)) (faulty file number offset) (stream_version bytes)
      (λ version e. all_in n (CommandDue version) number (offset + header_len) (drop header_len bytes) (bytes_drop header_len bytes is) (sym (drop-drop header_len offset whole) ∙ ap (drop header_len) at)) (λ refusal. tt)
  all_in (suc n) (CommandDue version) number offset bytes is at =
      by_result (λ r. AllIn file whole r.items)
      (λ front. with_item front.item (
      if may_end (due_after version front.item.command) front.rest then ended
      else reads_from n file (due_after version front.item.command) (number + 1) (offset + (length bytes - length front.rest)) front.rest))
      (faulty file number offset) (front_of file version number offset bytes)
      (λ front e.
      let rest = rest_at version number offset bytes front is at e in (
        front_in version number offset bytes front is at e,
        two (may_end (due_after version front.item.command) front.rest) (reads_from n file (due_after version front.item.command) (number + 1) (offset + (length bytes - length front.rest)) front.rest)
            (all_in n (due_after version front.item.command) (number + 1) (offset + (length bytes - length front.rest)) front.rest
            (subst IsBytes (sym (ap (λ (k : ℕ). drop k bytes) refl) ∙ left version number offset bytes front is e) (bytes_drop (length bytes - length front.rest) bytes is)) rest),
      ))
      (λ refusal. tt)
    where
      two : (b : Bool) (r : Reading) → AllIn file whole r.items → AllIn file whole (if b then ended else r).items
      two true r a = tt
      two false r a = a

      left : (version number offset : ℕ) (bytes : List ℕ) (front : Front) → IsBytes bytes → front_of file version number offset bytes ≡ Ok front → drop (length bytes - length front.rest) bytes ≡ front.rest
      left version number offset bytes front is e =
          let w = read_was_spelled file version number offset bytes front is e in
          let size = ap length w.whole ∙ length-append w.frame front.rest in
          let gap : length bytes - length front.rest ≡ length w.frame = omega (arith, size) in
          ap (λ (k : ℕ). drop k bytes) gap ∙ ap (drop (length w.frame)) w.whole ∙ drop-append_seam w.frame front.rest

-- ---- files, one after the other

joined_all : (P : Item → Type 0) (items : List Item) (ending : Ending) (others : Reading) → AllByRecursion P items → AllByRecursion P others.items → AllByRecursion P (joined (record { items = items; end = ending }) others).items
joined_all P items (Faulty verdict) others a b = a
joined_all P items Whole others a b = all_both P items others.items a b

module _ (files : List (List ℕ)) where
  -- The files from a number on, of all of them.
  abbrev From : ℕ → List (List ℕ) → Type 0
  From file left = (drop file ([] ∷ files)) ≡ left

  in_there : (file : ℕ) (whole : List ℕ) → file_bytes files file ≡ whole → (items : List Item) → AllIn file whole items → AllByRecursion (IsThere files) items
  in_there file whole e [] a = tt
  in_there file whole e (item ∷ items) a =
      let at : file_bytes files item.file ≡ whole = ap (file_bytes files) a.0.own ∙ e in
      (ap (λ (b : List ℕ). take (length (bytes_of item.command)) (drop item.data_at b)) at ∙ a.0.there, in_there file whole e items a.1)

  from_there : (file : ℕ) (left : List (List ℕ)) → From file left → AllByRecursion IsBytes left → AllByRecursion (IsThere files) (input_from file left).items
  unfolding input_from reads
  from_there file [] at is = tt
  from_there file (bytes ∷ left) at is =
      let first = reads file bytes in
      let here : file_bytes files file ≡ bytes = ap (λ (fs : List (List ℕ)). elim fs as (λ x. List ℕ) [ [] ↦ [] | b ∷ others ↦ b ]) at in
      joined_all (IsThere files) first.items first.end (input_from (file + 1) left) (in_there file bytes here first.items (all_in file bytes (suc (length bytes)) HeaderDue 1 0 bytes is.0 refl))
      (from_there (file + 1) left (sym (drop-drop 1 file ([] ∷ files)) ∙ ap (drop 1) at) is.1)

  pub files_there : AllByRecursion IsBytes files → AreThere files (input files).items
  unfolding input
  files_there is = from_there 1 files refl is

-- ---- what is said in front of files

same_named : (name : Option (List ℕ)) (c : Command) → bytes_of (command_named name c) ≡ bytes_of c
same_named None c = refl
same_named (Some name) (Subvol uuid ctransid path) = refl
same_named (Some name) (Snapshot uuid ctransid path clone_uuid clone_ctransid) = refl
same_named (Some name) c = refl

same_parents : (keys : List Key) (c : Command) → bytes_of (with_parents keys c) ≡ bytes_of c
same_parents keys (Snapshot uuid ctransid path clone_uuid clone_ctransid) = refl
same_parents keys (Clone path offset clone_uuid clone_ctransid clone_path clone_offset clone_len) = refl
same_parents keys c = refl

same_bytes : (override : Override) (c : Command) → bytes_of (command_as override c) ≡ bytes_of c
same_bytes override c = same_parents override.parents (command_named override.name c) ∙ same_named override.name c

one_there : (files : List (List ℕ)) (override : Override) (item : Item) → IsThere files item
    → IsThere files (overridden_as override item)
one_there files override item there = subst
    (λ (bytes : List ℕ). take (length bytes) (drop item.data_at (file_bytes files item.file)) ≡ bytes)
    (sym (same_bytes override item.command)) there

pub overridden_there : OverriddenAreThere
overridden_there files overrides [] there = tt
overridden_there files overrides (item ∷ items) there =
    (one_there files (override_for overrides item.file) item there.0, overridden_there files overrides items there.1)
