-- What exporting over a store answers, from how an export over its subvolumes ends; and what is
-- promised of what it writes.
use Rattle.std.specs.Prelude.{◌≡◌, ◌≢◌, ℕ, Bool, true, false, List, [], ◌∷◌, map, Option, None, Some, Err, IfSome, if◌then◌else◌}
use Rattle.std.specs.List.{AllByRecursion}
use Rattle.std.specs.Option.{option_map}
use Rattle.std.proofs.Common.{refl, sym, ap, subst, ◌∙◌}
use Rattle.std.proofs.KnownBytes.{Appends-nil}
use Rattle.send_model.specs.Attribute.{IsBytes}
use Rattle.send_model.specs.Map.{Map}
use Rattle.send_model.specs.Reading.{input}
use Rattle.send_model.specs.Subvolume.{Inode, Subvolume}
use Rattle.send_model.specs.Store.{Key, Store, same_key, find}
use Rattle.send_model.specs.Receive.{start_of}
use Rattle.send_model.specs.Provenance.{inode_with}
use Rattle.send_model.specs.Cells.{recelled, recelled_store}
use Rattle.send_model.specs.Exported.{IsMoment, HasTimes, AreSmallBy, byte_step, CanExportOver}
use Rattle.send_model.specs.Overridden.{Overrides, overridden, AreLawfulOverrides}
use Rattle.send_model.specs.Sources.{StandsBeforeOf}
use Rattle.send_model.specs.Words.{Export}
use Rattle.send_model.proofs.Sorts.{same_inside}
use Rattle.send_model.proofs.CellSteps.{find-cells}
use Rattle.send_model.specs.ExportPromises.{IsExportedOf}
use Rattle.send_model.proofs.ExportedReadings.{named_export_holds}
use Rattle.sx_base.specs.Outside.{file_at}
use Rattle.sx_base.specs.Calls.{IfAllTold, Wrote}
use Rattle.sx_base.specs.declared.outcome.Outcome.{Outcome}
use Rattle.sx_base.specs.declared.outcome.Outcome.TheVariants as ended
use Rattle.store_model.specs.Stored.{as_bytes, byte_of, StandsFor}
use Rattle.store_model.specs.NamedFiles.{NamedFiles, read_of}
use Rattle.store_model.specs.Requests.{OfStreams, reads_store, at_entry}
use Rattle.store_model.specs.Answers.{Answers}
use Rattle.store_model.proofs.LawfulGroups.{stands_lawful}
use Rattle.store_model.proofs.OneStore.{one_store}
use Rattle.part_names.specs.Overriding.{sources_with, EndsOf}
use Rattle.group_replay.specs.declared.place.Place.{Place}
use Rattle.group_replay.specs.declared.stops.StoreStop.{StoreStop}
use Rattle.group_replay.specs.Stopping.{IfLog, IsNoRefusal}
use Rattle.group_replay.specs.Said.{AllSaid, IsSaid}
use Rattle.group_replay.specs.Kept.{IsKept, AreKept}
use Rattle.store_journal.specs.Shown.{StoreState}
use Rattle.store_journal.specs.Opening.{OpenSays, IsOpenStop}
use Rattle.store_journal.specs.Standing.{with_bytes}
use Rattle.store_commands.specs.declared.ends.StoreEnd.{StoreEnd}
use Rattle.store_commands.specs.declared.ends.StoreEnd.TheVariants as made
use Rattle.store_commands.specs.Ending.{answer_of, end_by}
use Rattle.store_commands.proofs.Opened.{nothing_in_front, no_end}
use Rattle.store_commands.proofs.StreamAnswers.{export_ends, stopped_answers, ends_answer, always_told, then_told}

-- ---- a store over which files can be exported

-- What is kept is found.
find_kept : (end : ℕ) (core : Store (Option Place)) (key : Key) (s : Subvolume (Option Place)) → AreKept end core → find core key ≡ Some s → IsKept end s
unfolding find
find_kept end [] key s all f = cc
find_kept end (e ∷ core) key s all f = one (same_key e.key key) (λ q. find_kept end core key s all.1 q) f
  where
    two : (o : Option (Subvolume (Option Place))) → IfSome o (IsKept end) → (find core key ≡ Some s → IsKept end s) → (elim o as (λ x. Option (Subvolume (Option Place))) [ None ↦ find core key | Some t ↦ Some t ]) ≡ Some s → IsKept end s
    two None h more q = more q
    two (Some t) h more q = subst (λ (u : Subvolume (Option Place)). IsKept end u) (same_inside q) h

    one : (b : Bool) → (find core key ≡ Some s → IsKept end s) → (if b then elim e.contents as (λ x. Option (Subvolume (Option Place))) [ None ↦ find core key | Some t ↦ Some t ] else find core key) ≡ Some s → IsKept end s
    one true more q = two e.contents all.0 more q
    one false more q = more q

-- Cells may become others.
module _ {C D : Type 0} (f : C → D) where
  times_said : (m : Map ℕ (Inode C)) → AllByRecursion (λ (e : ℕ × Inode C). IsSaid e.1) m → AllByRecursion (λ (e : ℕ × Inode D). IsSaid e.1) (map (λ (e : ℕ × Inode C). (e.0, inode_with e.1 (map f e.1.cells))) m)
  times_said [] all = tt
  times_said (e ∷ m) all = (record { mtime = all.0.mtime; atime = all.0.atime; target = all.0.target; xattrs = all.0.xattrs }, times_said m all.1)

  pub said_still : (s : Subvolume C) → AllSaid s → AllSaid (recelled f s)
  said_still s all = times_said s.inodes all

times_of : (m : Map ℕ (Inode ℕ)) → AllByRecursion (λ (e : ℕ × Inode ℕ). IsSaid e.1) m → AllByRecursion (λ (e : ℕ × Inode ℕ). IsMoment e.1.mtime × IsMoment e.1.atime) m
times_of [] all = tt
times_of (e ∷ m) all = ((all.0.mtime, all.0.atime), times_of m all.1)

has_times : (end : ℕ) (image : List ℕ) (core : Store (Option Place)) → AreKept end core → (key : Key) (s : Subvolume ℕ) → find (with_bytes image core) key ≡ Some s → HasTimes s
has_times end image core kept key s f = by_found (find core key) refl (sym found ∙ f)
  where
    found : find (with_bytes image core) key ≡ option_map (recelled (byte_of image)) (option_map (recelled (option_map (λ (place : Place). place.at))) (find core key))
    found = find-cells (byte_of image) (recelled_store (option_map (λ (place : Place). place.at)) core) key ∙ ap (option_map (recelled (byte_of image))) (find-cells (option_map (λ (place : Place). place.at)) core key)

    by_found : (o : Option (Subvolume (Option Place))) → find core key ≡ o → option_map (recelled (byte_of image)) (option_map (recelled (option_map (λ (place : Place). place.at))) o) ≡ Some s → HasTimes s
    by_found None is q = cc
    by_found (Some t) is q =
        let there : IsKept end t = find_kept end core key t kept is in
        subst (λ (u : Subvolume ℕ). HasTimes u) (same_inside q)
        (times_of (recelled (byte_of image) (recelled (option_map (λ (place : Place). place.at)) t)).inodes
        (said_still (byte_of image) (recelled (option_map (λ (place : Place). place.at)) t) (said_still (option_map (λ (place : Place). place.at)) t there.said)))

pub can_export : (end : ℕ) (image : List ℕ) (core : Store (Option Place)) → AreKept end core → StandsFor image (with_bytes image core) → CanExportOver (with_bytes image core)
can_export end image core kept stands = record { lawful = stands_lawful image (with_bytes image core) stands; times = has_times end image core kept }

-- ---- what is promised

some_files : (table : List (List ℕ × List ℕ)) (names : List (List ℕ)) → names ≢ [] → map (file_at table) names ≢ []
some_files table [] some = λ e. some refl
some_files table (name ∷ names) some = λ e. cc

pub map_some : {S : Type 0} (text : S → List ℕ) (words : List S) → words ≢ [] → map text words ≢ []
map_some text [] some = λ e. some refl
map_some text (word ∷ words) some = λ e. cc

-- What was exported keeps what is promised of it.
exported_of : (base : Store ℕ) → CanExportOver base → (new_names : Overrides) → AreLawfulOverrides new_names → (files : List (List ℕ)) (written : List ℕ) (outcome : Outcome) → files ≢ [] → outcome ≡ ended.Done
    → EndsOf (Export 0 0) base (sources_with new_names files) outcome written
    → (outcome ≡ ended.Done → AreSmallBy byte_step (start_of base) (overridden new_names (input files)).items) → AllByRecursion IsBytes files → IsExportedOf base (overridden new_names (input files)) written
exported_of base can new_names new files written ended.Done some e (is, all) small bytes =
    subst (λ (w : List ℕ). IsExportedOf base (overridden new_names (input files)) w) (sym all) (named_export_holds base new_names files some can bytes new is (small refl))
exported_of base can new_names new files written (ended.Refused verdict) some e ends small bytes = cc
exported_of base can new_names new files written (ended.InputTooLong file) some e ends small bytes = cc
exported_of base can new_names new files written (ended.TooMuch sum) some e ends small bytes = cc
exported_of base can new_names new files written (ended.InputChanged file place) some e ends small bytes = cc
exported_of base can new_names new files written ended.InputFault some e ends small bytes = cc
exported_of base can new_names new files written ended.OutputFault some e ends small bytes = cc
exported_of base can new_names new files written ended.NoMemory some e ends small bytes = cc

-- Where all was done, and the parts were small.
abbrev AllDone : Store ℕ → Overrides → (old new : Option (List ℕ)) → Outcome → List (List ℕ) → Type 0
AllDone base new_names old new outcome files = Wrote old new (λ written. EndsOf (Export 0 0) base (sources_with new_names files) outcome written)

abbrev AllSmall : Store ℕ → Overrides → Outcome → List (List ℕ) → Type 0
AllSmall base new_names outcome files = outcome ≡ ended.Done → AreSmallBy byte_step (start_of base) (overridden new_names (input files)).items

-- What is promised then.
abbrev pub IsExportedWith : Store ℕ → Overrides → (old new : Option (List ℕ)) → List (List ℕ) → Type 0
IsExportedWith base new_names old new files = Wrote old new (λ written. AllByRecursion IsBytes files → IsExportedOf base (overridden new_names (input files)) written)

pub promised : (base : Store ℕ) → CanExportOver base → (new_names : Overrides) → AreLawfulOverrides new_names → (told : Option (List (List ℕ × List ℕ))) (names : List (List ℕ)) (old new : Option (List ℕ)) (outcome : Outcome) → names ≢ []
    → outcome ≡ ended.Done → IfAllTold told names (AllDone base new_names old new outcome) → IfAllTold told names (AllSmall base new_names outcome)
    → IfAllTold told names (IsExportedWith base new_names old new)
promised base can new_names fit None names old new outcome some done ends small = tt
promised base can new_names fit (Some table) names old new outcome some done ends small =
    (ends.0, ends.1, λ bytes. exported_of base can new_names fit (map (file_at table) names) ends.0 outcome (some_files table names some) done ends.2 small bytes)

-- ---- the answers

-- Files with what is said in front of them.
abbrev given : Overrides → List (List ℕ) → NamedFiles
given new_names files = record { bytes = files; overrides = new_names }

-- Nothing is a front part of what is to be exported.
nothing_exported : (s : Store ℕ) (files : NamedFiles) (store at : ℕ) → StandsBeforeOf (Export store at) s (read_of files) []
nothing_exported s files store at = nothing_in_front _

-- What was written is what an answer says, of all words that ask for it.
abbrev ExportSays : (seen left : List ℕ) → Overrides → StoreEnd → List (List ℕ) → List ℕ → Type 0
ExportSays seen left new_names end files written = (words : List (List ℕ)) (store at : ℕ) → reads_store words (Some store) ≡ true
    → Answers (OfStreams (Export store at)) (at_entry words seen (given new_names files)) (answer_of [] [] end) written left

-- Where all was done it is what is promised, over each store that the image stands for.
abbrev IsPromised : (seen : List ℕ) → Overrides → StoreEnd → List (List ℕ) → List ℕ → Type 0
IsPromised seen new_names end files written = end ≡ made.Ends ended.Done → (store : Store ℕ) → StandsFor seen store → AllByRecursion IsBytes files → IsExportedOf store (overridden new_names (input files)) written

module _ (told : Option (List (List ℕ × List ℕ))) (names : List (List ℕ)) (seen left : List ℕ) (new_names : Overrides) (same : left ≡ seen) where
  -- The store does not open.
  pub not_exported : (taken : Option (List ℕ)) (cause : Type 0) (why : StoreStop) (end : StoreEnd) → end ≡ end_by why → IsNoRefusal why → IfLog {T = StoreState} (Err why) (IsOpenStop cause) → OpenSays seen (Err why)
      → IfAllTold told names (λ files. Wrote taken taken (ExportSays seen left new_names end files))
  not_exported taken cause why end is kind stops opened =
      always_told told names (λ files. Wrote taken taken (ExportSays seen left new_names end files)) (λ files. (
        [],
        Appends-nil taken,
        (λ words store at reads.
            subst (λ (l : List ℕ). Answers (OfStreams (Export store at)) (at_entry words seen (given new_names files)) (answer_of [] [] end) [] l) (sym same)
            (stopped_answers (Export store at) words seen (given new_names files) reads (λ s. nothing_exported s (given new_names files) store at) cause why end is kind stops opened)),
      ))

  -- It opens, and is exported over.
  pub is_exported : (old new : Option (List ℕ)) (s : Store ℕ) (outcome : Outcome) → StandsFor seen s → IfAllTold told names (AllDone s new_names old new outcome)
      → IfAllTold told names (λ files. Wrote old new (ExportSays seen left new_names (made.Ends outcome) files))
  is_exported old new s outcome stands exported =
      then_told told names (AllDone s new_names old new outcome) (λ files. Wrote old new (ExportSays seen left new_names (made.Ends outcome) files)) (λ files wrote. (
        wrote.0,
        wrote.1,
        (λ words store at reads.
            subst (λ (l : List ℕ). Answers (OfStreams (Export store at)) (at_entry words seen (given new_names files)) (answer_of [] [] (made.Ends outcome)) wrote.0 l) (sym same)
            (ends_answer (Export store at) words seen (given new_names files) reads s stands wrote.0 outcome (export_ends s wrote.0 store at (sources_with new_names files) outcome wrote.2))),
      )) exported

-- The promise, where the store did not open and where it did.
module _ (told : Option (List (List ℕ × List ℕ))) (names : List (List ℕ)) (seen : List ℕ) (new_names : Overrides) where
  pub no_promise : (taken : Option (List ℕ)) (why : StoreStop) (end : StoreEnd) → end ≡ end_by why → IsNoRefusal why → IfAllTold told names (λ files. Wrote taken taken (IsPromised seen new_names end files))
  no_promise taken why end is kind =
      always_told told names (λ files. Wrote taken taken (IsPromised seen new_names end files)) (λ files. ([], Appends-nil taken, λ done store stands bytes. absurd (no_end why kind (sym is ∙ done))))

  pub is_promised : (old new : Option (List ℕ)) (end : ℕ) (core : Store (Option Place)) (outcome : Outcome) → AreLawfulOverrides new_names → names ≢ [] → AreKept end core → StandsFor seen (with_bytes seen core)
      → IfAllTold told names (AllDone (with_bytes seen core) new_names old new outcome)
      → IfAllTold told names (AllSmall (with_bytes seen core) new_names outcome)
      → IfAllTold told names (λ files. Wrote old new (IsPromised seen new_names (made.Ends outcome) files))
  is_promised old new end core outcome fit some kept stands ends small = by_outcome outcome ends small
    where
      s : Store ℕ
      s = with_bytes seen core

      at_each : (files : List (List ℕ)) → IsExportedWith s new_names old new files → Wrote old new (IsPromised seen new_names (made.Ends ended.Done) files)
      at_each files wrote = (wrote.0, wrote.1, λ done store other bytes. subst (λ (t : Store ℕ). IsExportedOf t (overridden new_names (input files)) wrote.0) (one_store 0 as_bytes seen s store stands other) (wrote.2 bytes))

      other_end : (o : Outcome) → (o ≡ ended.Done → ⊥) → IfAllTold told names (AllDone s new_names old new o)
          → IfAllTold told names (λ files. Wrote old new (IsPromised seen new_names (made.Ends o) files))
      other_end o not ends = then_told told names (AllDone s new_names old new o) (λ files. Wrote old new (IsPromised seen new_names (made.Ends o) files))
          (λ files wrote. (wrote.0, wrote.1, λ done store stands bytes. absurd (not (same_end done)))) ends
        where
          same_end : {a b : Outcome} → made.Ends a ≡ made.Ends b → a ≡ b
          same_end q = cc

      by_outcome : (o : Outcome) → IfAllTold told names (AllDone s new_names old new o) → IfAllTold told names (AllSmall s new_names o)
          → IfAllTold told names (λ files. Wrote old new (IsPromised seen new_names (made.Ends o) files))
      by_outcome ended.Done ends small =
          then_told told names (IsExportedWith s new_names old new) (λ files. Wrote old new (IsPromised seen new_names (made.Ends ended.Done) files)) at_each
          (promised s (can_export end seen core kept stands) new_names fit told names old new ended.Done some refl ends small)
      by_outcome (ended.Refused verdict) ends small = other_end (ended.Refused verdict) (λ e. cc) ends
      by_outcome (ended.InputTooLong file) ends small = other_end (ended.InputTooLong file) (λ e. cc) ends
      by_outcome (ended.TooMuch sum) ends small = other_end (ended.TooMuch sum) (λ e. cc) ends
      by_outcome (ended.InputChanged file place) ends small = other_end (ended.InputChanged file place) (λ e. cc) ends
      by_outcome ended.InputFault ends small = other_end ended.InputFault (λ e. cc) ends
      by_outcome ended.OutputFault ends small = other_end ended.OutputFault (λ e. cc) ends
      by_outcome ended.NoMemory ends small = other_end ended.NoMemory (λ e. cc) ends
