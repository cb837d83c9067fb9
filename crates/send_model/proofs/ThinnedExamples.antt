-- Worked examples of a base of which only the named entries have their contents.
use Rattle.std.specs.Prelude.{◌≡◌, ℕ, List, [], ◌∷◌, Option, None, Some, codes, refl}
use Rattle.send_model.specs.Refusal.{NameThere, NoSource}
use Rattle.send_model.specs.Command.{Command, Snapshot, MkFile, Clone, End}
use Rattle.send_model.specs.Reading.{Whole}
use Rattle.send_model.specs.Subvolume.{Subvolume}
use Rattle.send_model.specs.Store.{Entry, Store}
use Rattle.send_model.specs.Receive.{run_by}
use Rattle.send_model.specs.Order.{judge_items, judge_reading, judge_of}
use Rattle.send_model.specs.Outside.{keys_outside}
use Rattle.send_model.specs.Thinned.{is_key_of, thinned}
use Rattle.send_model.proofs.ExampleWords.{uuid, key, items, one_file, composing_words}

-- Three subvolumes, of which the commands name the first and the second.
abbrev entry : List ℕ → ℕ → Option (Subvolume ℕ) → Entry (Subvolume ℕ)
entry name byte contents = record { name = name; key = key byte 1; parent = Some (key 0x99 9); contents = contents }

abbrev base : Store ℕ
base = entry (codes "p") 0x11 (Some (one_file (1 ∷ 2 ∷ []) (codes "f" ∷ []))) ∷ entry (codes "q") 0x22 (Some (one_file (3 ∷ []) (codes "g" ∷ []))) ∷ entry (codes "r") 0x33 (Some (one_file (4 ∷ []) (codes "h" ∷ []))) ∷ []

abbrev snapshot : List ℕ → List Command
snapshot name = Snapshot (uuid 0x44) 1 name (uuid 0x11) 1 ∷ MkFile (codes "x") ∷ Clone (codes "x") 0 (uuid 0x22) 1 (codes "g") 0 1 ∷ End ∷ []

abbrev thin : Store ℕ
thin = thinned (is_key_of (keys_outside (items (snapshot (codes "s"))))) base

third_left_out : thin ≡ entry (codes "p") 0x11 (Some (one_file (1 ∷ 2 ∷ []) (codes "f" ∷ []))) ∷ entry (codes "q") 0x22 (Some (one_file (3 ∷ []) (codes "g" ∷ []))) ∷ entry (codes "r") 0x33 None ∷ []
unfolding composing_words judge_items judge_reading run_by
third_left_out = refl

still_taken : judge_of thin (record { items = items (snapshot (codes "s")); end = Whole }) ≡ None
unfolding composing_words judge_items judge_reading run_by
still_taken = refl

-- The name of an entry without contents is still there.
name_of_third : judge_of thin (record { items = items (snapshot (codes "r")); end = Whole }) ≡ Some (record { file = 1; command = 1; offset = 0; refusal = NameThere })
unfolding composing_words judge_items judge_reading run_by
name_of_third = refl

-- Without the contents of the second, which a clone names, the verdict is another: a test has to
-- keep what clones name too.
clone_not_kept : judge_of (thinned (is_key_of (key 0x11 1 ∷ [])) base) (record { items = items (snapshot (codes "s")); end = Whole }) ≡ Some (record { file = 1; command = 1; offset = 0; refusal = NoSource })
unfolding composing_words judge_items judge_reading run_by
clone_not_kept = refl
