-- The bytes of what is read of a file stand one behind the other.
use Rattle.std.specs.Prelude.{◌≡◌, ℕ, zero, suc, ◌+◌, ◌-◌, ◌<◌, ◌≤◌, Bool, true, false, List, [], ◌∷◌, ◌++◌, length, drop, Result, Ok, Err, if◌then◌else◌}
use Rattle.std.proofs.Common.{refl, sym, ap, subst, arith, append-nil, length-append}
use Rattle.std.proofs.lemmas.List.{length-take, length-drop}
use Rattle.send_model.specs.Refusal.{Refusal}
use Rattle.send_model.specs.Attribute.{IsBytes}
use Rattle.send_model.specs.Command.{Command, Write}
use Rattle.send_model.specs.Reading.{Item, Reading, Ending, Whole, Faulty, Due, HeaderDue, CommandDue, Front, due_after, may_end, with_item, go_on, ended, joined, front_of, data_place, stream_version, header_len, reads_from, reads, input_from, input}
use Rattle.send_model.specs.Receive.{bytes_of}
use Rattle.send_model.proofs.Canonical.{spelled_front}
use Rattle.send_model.proofs.ReadSpelled.{read_was_spelled}
use Rattle.send_model.proofs.DataPlaces.{data_is_there}
use Rattle.send_model.proofs.Sound.{bytes_drop}
use Rattle.send_model.proofs.ElementLaws.{all_rest}
use Rattle.squash_model.specs.PlacedSquash.{IsBehind, end_behind, ArePlaced, FilesArePlaced}

placed_lower : (from lower : ℕ) (items : List Item) → lower ≤ from → ArePlaced from items → ArePlaced lower items
placed_lower from lower [] h p = tt
placed_lower from lower (item ∷ items) h p = one (bytes_of item.command) p (placed_lower from lower items h)
  where
    one : (bytes : List ℕ) → IsBehind from item.data_at bytes × ArePlaced (end_behind from item.data_at bytes) items → (ArePlaced from items → ArePlaced lower items)
        → IsBehind lower item.data_at bytes × ArePlaced (end_behind lower item.data_at bytes) items
    one [] q more = (tt, more q.1)
    one (b ∷ bytes) q more = let low = q.0 in (omega (arith, h, low), q.1)

-- The data of a command in front stand in its frame.
module _ (file version number offset : ℕ) (bytes : List ℕ) (front : Front) (are : IsBytes bytes) (read : front_of file version number offset bytes ≡ Ok front) where
  abbrev InFrame : Command → Type 0
  InFrame c = IsBehind offset front.item.data_at (bytes_of c) × (end_behind offset front.item.data_at (bytes_of c) ≤ offset + (length bytes - length front.rest))

  rest_are : IsBytes front.rest
  rest_are = let w = read_was_spelled file version number offset bytes front are read in
      all_rest (λ (b : ℕ). b < 256) w.frame front.rest (subst (λ (bs : List ℕ). IsBytes bs) w.whole are)

  data_in_frame : (c : Command) → front.item.command ≡ c → InFrame c
  data_in_frame (Write path at []) e = (tt, omega arith)
  data_in_frame (Write path at (b ∷ written)) e =
      let w = read_was_spelled file version number offset bytes front are read in
      let s = w.spells in
      let frame : List ℕ = w.frame ++ [] in
      let frame_are : IsBytes frame = subst (λ (bs : List ℕ). IsBytes bs) (sym (append-nil w.frame)) (all_first w.frame front.rest (subst (λ (bs : List ℕ). IsBytes bs) w.whole are)) in
      let alone : Front = record { item = record { file = file; number = number; offset = offset; version = version; data_at = data_place version offset s.attributes; command = front.item.command }; rest = [] } in
      let d = data_is_there file version number offset frame alone path at (b ∷ written) frame_are (spelled_front file version number offset w.frame [] front.item.command s) e in
      let place : front.item.data_at ≡ alone.item.data_at = ap (λ (i : Item). i.data_at) w.item_is in
      let low = d.0 in
      let size = ap length d.1 in
      let whole = ap length w.whole in
      let none : length frame ≡ length w.frame = ap length (append-nil w.frame) in (
        omega (arith, place, low),
        omega (arith, place, low, size, whole, none, length-append w.frame front.rest, length-take (length (b ∷ written)) (drop (alone.item.data_at - offset) frame), length-drop (alone.item.data_at - offset) frame),
      )
    where
      all_first : (xs ys : List ℕ) → IsBytes (xs ++ ys) → IsBytes xs
      all_first [] ys h = tt
      all_first (x ∷ xs) ys h = (h.0, all_first xs ys h.1)
  data_in_frame c e = (tt, omega arith)

by_result : {A : Type 0} (from : ℕ) (more : A → Reading) (stop : Refusal → Reading) (r : Result A Refusal) → ((x : A) → r ≡ Ok x → ArePlaced from (more x).items) → ((refusal : Refusal) → ArePlaced from (stop refusal).items) → ArePlaced from (go_on more stop r).items
by_result from more stop (Ok x) m s = m x refl
by_result from more stop (Err refusal) m s = s refusal

item_then : (from to : ℕ) (item : Item) (r : Reading) (b : Bool) → IsBehind from item.data_at (bytes_of item.command) × (end_behind from item.data_at (bytes_of item.command) ≤ to) → ArePlaced to r.items → ArePlaced from (with_item item (if b then ended else r)).items
item_then from to item r true h more = (h.0, tt)
item_then from to item r false h more = (h.0, placed_lower to (end_behind from item.data_at (bytes_of item.command)) r.items h.1 more)

reads_placed : (n file : ℕ) (due : Due) (number offset : ℕ) (bytes : List ℕ) → IsBytes bytes → ArePlaced offset (reads_from n file due number offset bytes).items
unfolding reads_from
reads_placed zero file due number offset bytes are = tt
reads_placed (suc n) file HeaderDue number offset bytes are =
    by_result offset _ _ (stream_version bytes)
    (λ version e. placed_lower (offset + header_len) offset (reads_from n file (CommandDue version) number (offset + header_len) (drop header_len bytes)).items (omega arith)
    (reads_placed n file (CommandDue version) number (offset + header_len) (drop header_len bytes) (bytes_drop header_len bytes are))) (λ refusal. tt)
reads_placed (suc n) file (CommandDue version) number offset bytes are =
    by_result offset _ _ (front_of file version number offset bytes)
    (λ front e.
    let next : ℕ = offset + (length bytes - length front.rest) in
    item_then offset next front.item (reads_from n file (due_after version front.item.command) (number + 1) next front.rest) (may_end (due_after version front.item.command) front.rest)
    (data_in_frame file version number offset bytes front are e front.item.command refl)
    (reads_placed n file (due_after version front.item.command) (number + 1) next front.rest (rest_are file version number offset bytes front are e))) (λ refusal. tt)

pub files_are_placed : FilesArePlaced
unfolding input input_from reads
files_are_placed file are = one (reads 1 file).items (reads 1 file).end (reads_placed (suc (length file)) 1 HeaderDue 1 0 file are)
  where
    one : (items : List Item) (ending : Ending) → ArePlaced 0 items → ArePlaced 0 (joined (record { items = items; end = ending }) ended).items
    one items (Faulty verdict) p = p
    one items Whole p = subst (λ (is : List Item). ArePlaced 0 is) (sym (append-nil items)) p
