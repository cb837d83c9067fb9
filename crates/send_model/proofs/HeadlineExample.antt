-- The headline with clones holds of a worked example, so its premises can be met with a redirected
-- clone and a carried run.
use Rattle.std.specs.Prelude.{◌≡◌, ℕ, List, [], ◌∷◌, ◌++◌, replicate, Bool, true, false, if◌then◌else◌, None, Some, Ok, codes}
use Rattle.std.proofs.Common.{refl, sym, ap, subst}
use Rattle.send_model.specs.Command.{Snapshot, MkFile, Link, Write, Clone, End, Subvol}
use Rattle.send_model.specs.Reading.{Item, Reading}
use Rattle.send_model.specs.Subvolume.{Subvolume, root_alone, IsSound, IsLawful}
use Rattle.send_model.specs.Edit.{edit}
use Rattle.send_model.specs.Store.{Key, Head, Store, same_key, find}
use Rattle.send_model.specs.Receive.{run_by, run_items, byte_cells, start_of, IsAccepted}
use Rattle.send_model.specs.Order.{heads, IsConsecutive}
use Rattle.send_model.specs.Outside.{base_of, keys_outside, FindsLawful}
use Rattle.send_model.specs.Composed.{composed_of}
use Rattle.send_model.specs.Headline.{AreComposed, CanReceiveOf, IsStoppedOf}
use Rattle.send_model.proofs.ExampleWords.{uuid, key, one_file, store_of, items, reading_words, composing_words}
use Rattle.send_model.proofs.ReadingExamples.{merged_stream}
use Rattle.send_model.proofs.Sorts.{same_inside}
use Rattle.send_model.proofs.SoundChanges.{root_alone_is_sound}
use Rattle.send_model.proofs.SoundRenames.{edit_keeps_sound}
use Rattle.send_model.proofs.HeadlineLaw.{items_hold}

-- A file of two blocks under two names, as edits make it.
abbrev outside_bytes : List ℕ
outside_bytes = replicate 4_096 0x61 ++ replicate 4_096 0x62

abbrev linked : Subvolume ℕ
linked = one_file outside_bytes (codes "x" ∷ codes "y" ∷ [])

first_made : edit 0 [] (MkFile (codes "x")) root_alone ≡ Ok (one_file [] (codes "x" ∷ []))
unfolding composing_words
first_made = refl

then_linked : edit 0 [] (Link (codes "y") (codes "x")) (one_file [] (codes "x" ∷ [])) ≡ Ok (one_file [] (codes "x" ∷ codes "y" ∷ []))
unfolding composing_words
then_linked = refl

then_written : edit 0 outside_bytes (Write (codes "x") 0 outside_bytes) (one_file [] (codes "x" ∷ codes "y" ∷ [])) ≡ Ok linked
unfolding composing_words
then_written = refl

linked_sound : IsSound linked
linked_sound =
    edit_keeps_sound 0 outside_bytes (Write (codes "x") 0 outside_bytes) (one_file [] (codes "x" ∷ codes "y" ∷ [])) linked
    (edit_keeps_sound 0 [] (Link (codes "y") (codes "x")) (one_file [] (codes "x" ∷ [])) (one_file [] (codes "x" ∷ codes "y" ∷ []))
    (edit_keeps_sound 0 [] (MkFile (codes "x")) root_alone (one_file [] (codes "x" ∷ [])) root_alone_is_sound first_made) then_linked) then_written

linked_lawful : IsLawful linked
unfolding composing_words
linked_lawful = record { sound = linked_sound; lawful_names = (refl, (refl, tt)); ordered_attributes = (tt, (tt, tt)) }

-- Its first block is overwritten by one name, and then both are cloned by the other.
abbrev cloned_items : List Item
cloned_items = items (
    Snapshot (uuid 0x22) 2 (codes "q") (uuid 0x11) 1
    ∷ Write (codes "x") 0 (replicate 4_096 0x63)
    ∷ End
    ∷ Snapshot (uuid 0x33) 3 (codes "r") (uuid 0x22) 2
    ∷ MkFile (codes "z")
    ∷ Clone (codes "z") 0 (uuid 0x22) 2 (codes "y") 0 8_192
    ∷ End
    ∷ [])

the_base : base_of (store_of linked) cloned_items ≡ store_of linked
unfolding composing_words
the_base = refl

finds_lawful : (k : Key) (s : Subvolume ℕ) → find (store_of linked) k ≡ Some s → IsLawful s
unfolding find
finds_lawful k s f = one (same_key (key 0x11 1) k) f
  where
    one : (b : Bool) → (if b then Some linked else None) ≡ Some s → IsLawful s
    one true f = subst (λ (x : Subvolume ℕ). IsLawful x) (same_inside f) linked_lawful
    one false f = cc

accepted : IsAccepted (run_items 0 byte_cells (start_of (store_of linked)) cloned_items)
unfolding composing_words run_items run_by
accepted = refl

consecutive : IsConsecutive cloned_items
unfolding composing_words
consecutive = (some, (refl, tt))
  where
    first : List Head → List ℕ
    first [] = []
    first (h ∷ hs) = h.name

    some : heads cloned_items ≡ [] → ⊥
    some e = let at : codes "q" ≡ [] = ap first e in cc

-- What is composed from them is what the headline promises.
holds : AreComposed (base_of (store_of linked) cloned_items) cloned_items (composed_of (base_of (store_of linked) cloned_items) cloned_items)
holds = items_hold (store_of linked) cloned_items consecutive (subst (λ (b : Store ℕ). IsAccepted (run_items 0 byte_cells (start_of b) cloned_items)) (sym the_base) accepted)
    (subst (λ (b : Store ℕ). FindsLawful b (keys_outside cloned_items)) (sym the_base) (λ k s among f. finds_lawful k s f))

-- A store that has a subvolume can receive: it need not be empty.
full_store_can : (s : Subvolume ℕ)
    → CanReceiveOf [] (items (Subvol (uuid 0x22) 2 (codes "b") ∷ End ∷ [])) (record { name = codes "b"; key = key 0x22 2; parent = None }) (store_of s)
unfolding composing_words
full_store_can s = record { lawful = (refl, refl, tt); same = tt; no_name = refl; no_uuid = refl }

-- Nor does it need to lack the parts but the last: of what is named, only what stands outside has
-- to be the same.
earlier_part_can : (s : Subvolume ℕ)
    → CanReceiveOf [] (items (Subvol (uuid 0x11) 1 (codes "a") ∷ End ∷ Snapshot (uuid 0x22) 2 (codes "b") (uuid 0x11) 1 ∷ End ∷ []))
    (record { name = codes "b"; key = key 0x22 2; parent = Some (key 0x11 1) }) (store_of s)
unfolding composing_words
earlier_part_can s = record { lawful = (refl, refl, tt); same = tt; no_name = refl; no_uuid = refl }

-- What stands where compose stopped is no whole stream, not even the one that was to be written.
whole_is_not_stopped : (base : Store ℕ) (reading : Reading) → IsStoppedOf base reading merged_stream → ⊥
unfolding merged_stream reading_words
whole_is_not_stopped base reading stopped = stopped.unfinished refl
