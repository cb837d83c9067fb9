-- What stands beside the files meets what composing over a base asks, and what composing then ends
-- as over the whole store.
use Rattle.std.specs.Prelude.{◌≡◌, ◌⊎◌, ℕ, true, not, List, [], ◌∷◌, map, Option, None, Some, Ok}
use Rattle.std.specs.Option.{option_map}
use Rattle.std.proofs.Common.{inl, inr, refl, sym, ap, ap₂, subst, ◌∙◌}
use Rattle.send_model.specs.Map.{Map}
use Rattle.send_model.specs.Reading.{Item, input}
use Rattle.send_model.specs.Subvolume.{Inode, Subvolume}
use Rattle.send_model.specs.Clone.{cells_of}
use Rattle.send_model.specs.Store.{Store, IsStore, find}
use Rattle.send_model.specs.Receive.{start_of}
use Rattle.send_model.specs.Provenance.{inode_with, traced_store}
use Rattle.send_model.specs.Cells.{recelled, recelled_entry, recelled_store, AllCells}
use Rattle.send_model.specs.Order.{commands_of}
use Rattle.send_model.specs.Outside.{part_uuids, is_among, all_keys_named, store_without, AllSayable}
use Rattle.send_model.specs.Lawful.{IsLawfulStore}
use Rattle.send_model.specs.Thinned.{thinned, KeepsNamed, KeepsOutside}
use Rattle.send_model.specs.Due.{DoneWhole, RefusedAt, TooLong, TooMuch}
use Rattle.send_model.specs.Words.{Compose}
use Rattle.send_model.specs.Overridden.{Overrides, overridden}
use Rattle.send_model.specs.Sources.{due_of, EndsAlike}
use Rattle.send_model.proofs.Keeping.{all_filtered}
use Rattle.send_model.proofs.SourceLaws.{thinned_ends}
use Rattle.store_model.specs.Stored.{byte_of}
use Rattle.sx_base.specs.Calls.{contents, IfAllTold, Wrote}
use Rattle.sx_base.specs.Refusals.{verdict_meant}
use Rattle.sx_base.specs.declared.outcome.Outcome.{Outcome}
use Rattle.sx_base.specs.declared.outcome.Outcome.TheVariants as ended
use Rattle.provenance.specs.declared.trace.Trace.{Trace}
use Rattle.provenance.specs.Traces.{place_of}
use Rattle.part_names.specs.Overriding.{sources_with, EndsOf}
use Rattle.file_survey.specs.Findings.{Surveyed, AllRead, SurveyStop, SurveyEnd}
use Rattle.file_survey.proofs.Named.{named_keeps}
use Rattle.clone_pieces.specs.Origins.{outside_cells, IsHad, byte_of_trace}
use Rattle.clone_pieces.specs.Seen.{seen}
use Rattle.clone_pieces.proofs.Told.{all_always, all_two}
use Rattle.composer.specs.Files.{ComposeEnds}
use Rattle.composer.proofs.FilesWriting.{survey_stopped}
use Rattle.group_replay.specs.declared.place.Place.{Place}
use Rattle.store_journal.specs.Reading.{file_cells}
use Rattle.store_journal.specs.Standing.{place_byte, with_bytes}
use Rattle.store_commands.specs.declared.ends.StoreEnd.{StoreEnd}
use Rattle.store_commands.specs.declared.ends.StoreEnd.TheVariants as made
use Rattle.store_compose.specs.Standing.{keeps, standing, bytes_in, AreLawful, traced_to_itself, IsPartOf}
use Rattle.store_compose.specs.Ending.{beside, EndsOver}
use Rattle.store_compose.proofs.StandingEntries.{distinct_standing, lawful_standing, cells_standing, apart_still, apart_once, finds_standing, sayable_standing}
use Rattle.store_compose.proofs.TracedEntries.{store_traced, store_had}

-- ---- cells that become others twice

module _ {C D E : Type 0} (g : D → E) (f : C → D) where
  cells_twice : (cells : List C) → map g (map f cells) ≡ map (λ (x : C). g (f x)) cells
  cells_twice [] = refl
  cells_twice (x ∷ cells) = ap (λ (l : List E). g (f x) ∷ l) (cells_twice cells)

  abbrev first : ℕ × Inode C → ℕ × Inode D
  first e = (e.0, inode_with e.1 (map f e.1.cells))

  abbrev second : ℕ × Inode D → ℕ × Inode E
  second e = (e.0, inode_with e.1 (map g e.1.cells))

  abbrev both : ℕ × Inode C → ℕ × Inode E
  both e = (e.0, inode_with e.1 (map (λ (x : C). g (f x)) e.1.cells))

  inodes_twice : (m : Map ℕ (Inode C)) → map second (map first m) ≡ map both m
  inodes_twice [] = refl
  inodes_twice (e ∷ m) =
      let one : List E → ℕ × Inode E = λ cells. (e.0, inode_with e.1 cells) in
      ap (λ (cells : List E). one cells ∷ map second (map first m)) (cells_twice e.1.cells) ∙ ap (λ (l : Map ℕ (Inode E)). both e ∷ l) (inodes_twice m)

  contents_twice : (o : Option (Subvolume C)) → option_map (recelled g) (option_map (recelled f) o) ≡ option_map (recelled (λ (x : C). g (f x))) o
  contents_twice None = refl
  contents_twice (Some s) = ap (λ (m : Map ℕ (Inode E)). Some (record { inodes = m; names = s.names; next = s.next })) (inodes_twice s.inodes)

  store_twice : (store : Store C) → recelled_store g (recelled_store f store) ≡ recelled_store (λ (x : C). g (f x)) store
  store_twice [] = refl
  store_twice (e ∷ store) =
      ap (λ (o : Option (Subvolume E)). record { name = e.name; key = e.key; parent = e.parent; contents = o } ∷ recelled_store g (recelled_store f store)) (contents_twice e.contents)
      ∙ ap (λ (l : Store E). recelled_entry (λ (x : C). g (f x)) e ∷ l) (store_twice store)

abbrev number : Option Place → Option ℕ
number cell = option_map (λ place. place.at) cell

same_bytes : (image : List ℕ) (core : Store (Option Place)) → with_bytes image core ≡ bytes_in image core
same_bytes image core = store_twice (byte_of image) number core

-- ---- two bases over which composing is the same

module _ (thin whole : Store ℕ) (given : Overrides) (files : List (List ℕ)) (alike : EndsAlike whole thin (sources_with given files)) where
  same_due : due_of (Compose 1 2) whole (sources_with given files) ≡ due_of (Compose 1 2) thin (sources_with given files)
  same_due = sym (alike.due 1 2)

  same_ends : (outcome : Outcome) (written : List ℕ) → EndsOf (Compose 1 2) thin (sources_with given files) outcome written → EndsOf (Compose 1 2) whole (sources_with given files) outcome written
  same_ends ended.Done written e = (same_due ∙ e.0, (alike.says 1 2 DoneWhole written).0 e.1)
  same_ends (ended.Refused verdict) written e = (same_due ∙ e.0, (alike.says 1 2 (RefusedAt (verdict_meant verdict)) written).0 e.1)
  same_ends (ended.InputTooLong file) written e = (same_due ∙ e.0, (alike.says 1 2 (TooLong file) written).0 e.1)
  same_ends (ended.TooMuch sum) written e = (same_due ∙ e.0, (alike.says 1 2 (TooMuch sum) written).0 e.1)
  same_ends ended.InputFault written e = (alike.before 1 2 written).0 e
  same_ends (ended.InputChanged file place) written e = (alike.before 1 2 written).0 e
  same_ends ended.OutputFault written e = (alike.cut 1 2 written).0 e
  same_ends ended.NoMemory written e = (alike.before 1 2 written).0 e

  same_composing : (outcome : Outcome) (written : List ℕ) → ComposeEnds thin given files outcome written → ComposeEnds whole given files outcome written
  same_composing outcome written e = record {
    ends = same_ends outcome written e.ends;
    composed = λ done. (alike.composed written).0 (e.composed done);
    refused = λ verdict is. (alike.says 1 2 DoneWhole written).0 (e.refused verdict is);
  }

  ends_over : (end : StoreEnd) (written : List ℕ) → EndsOver thin given files end written → EndsOver whole given files end written
  ends_over (made.Ends outcome) written e = same_composing outcome written e
  ends_over made.StoreFault written e = same_composing ended.InputFault written e
  ends_over (made.NotStore group) written e = e
  ends_over made.NoName written e = e
  ends_over made.NoFile written e = e
  ends_over (made.LogFull end wanted limit) written e = e
  ends_over (made.StoreThere size) written e = e
  ends_over (made.Damaged group stored computed) written e = e

-- ---- what stands beside the files

-- Each entry whose key the files name keeps its contents.
each_kept : (survey : Surveyed) (given : Overrides) (files : List (List ℕ)) → AllRead given survey files → KeepsOutside (keeps survey) (overridden given (input files)).items
each_kept survey given files read =
    let items : List Item = (overridden given (input files)).items in
    all_filtered (λ key. keeps survey key ≡ true) (λ key. not (is_among (part_uuids items) key.uuid)) (all_keys_named (commands_of items))
    (subst (λ (named : List (List ℕ)). KeepsNamed (λ key. is_among named key.uuid) items) (sym read.named) (named_keeps items))

module _ (image : List ℕ) (catalog indexes : Store (Option Place)) (survey : Surveyed) (distinct : IsStore catalog) (lawful : AreLawful catalog) (is : indexes ≡ standing survey catalog) where
  distinct_there : IsStore indexes
  distinct_there = subst (λ (s : Store (Option Place)). IsStore s) (sym is) (distinct_standing (keeps survey) survey.parts catalog distinct)

  lawful_there : AreLawful indexes
  lawful_there = subst (λ (s : Store (Option Place)). AreLawful s) (sym is) (lawful_standing (keeps survey) survey.parts catalog lawful)

  pub traced : (core : Store (Option Trace)) → core ≡ map traced_to_itself indexes → (told : List (List ℕ)) → recelled_store (seen (byte_of_trace told (bytes_in image indexes)) place_of) core ≡ traced_store (bytes_in image indexes)
  traced core e told = ap (recelled_store (seen (byte_of_trace told (bytes_in image indexes)) place_of)) e ∙ store_traced (place_byte image) indexes distinct_there lawful_there told

  pub had : (core : Store (Option Trace)) → core ≡ map traced_to_itself indexes → AllCells (IsHad 0 (bytes_in image indexes)) (start_of core)
  had core e = subst (λ (s : Store (Option Trace)). AllCells (IsHad 0 (bytes_in image indexes)) (start_of s)) (sym e) (store_had (place_byte image) indexes distinct_there lawful_there)

  base_is : bytes_in image indexes ≡ thinned (keeps survey) (store_without survey.parts (bytes_in image catalog))
  base_is = ap (bytes_in image) is ∙ cells_standing (keeps survey) survey.parts (place_byte image) catalog

  pub apart : store_without survey.parts (bytes_in image indexes) ≡ bytes_in image indexes
  apart = ap (store_without survey.parts) base_is ∙ apart_still (keeps survey) survey.parts (bytes_in image catalog) ∙ sym base_is

  pub part : IsPartOf (bytes_in image indexes) (file_cells (with_bytes image catalog))
  part key ino = one
      (subst (λ (s : Store ℕ). (find s key ≡ None) ⊎ (find s key ≡ find (with_bytes image catalog) key)) (sym base_is)
      (subst (λ (s : Store ℕ). (find (thinned (keeps survey) (store_without survey.parts (bytes_in image catalog))) key ≡ None) ⊎ (find (thinned (keeps survey) (store_without survey.parts (bytes_in image catalog))) key ≡ find s key)) (sym (same_bytes image catalog))
      (finds_standing (keeps survey) survey.parts (bytes_in image catalog) key)))
    where
      one : (find (bytes_in image indexes) key ≡ None) ⊎ (find (bytes_in image indexes) key ≡ find (with_bytes image catalog) key)
          → (outside_cells (bytes_in image indexes) key ino ≡ []) ⊎ (outside_cells (bytes_in image indexes) key ino ≡ file_cells (with_bytes image catalog) key ino)
      one (inl none) = inl (ap (λ (o : Option (Subvolume ℕ)). elim o as (λ x. List ℕ) [ None ↦ [] | Some s ↦ cells_of s ino ]) none)
      one (inr same) = inr (ap (λ (o : Option (Subvolume ℕ)). elim o as (λ x. List ℕ) [ None ↦ [] | Some s ↦ cells_of s ino ]) same)

  pub sayable : IsLawfulStore (with_bytes image catalog) → AllSayable (bytes_in image indexes)
  sayable h =
      subst (λ (s : Store ℕ). AllSayable s) (sym base_is)
      (sayable_standing (keeps survey) survey.parts (bytes_in image catalog) (subst (λ (s : Store ℕ). IsLawfulStore s) (same_bytes image catalog) h))

  ends_of_files : (given : Overrides) (files : List (List ℕ)) (old new : Option (List ℕ)) (end : StoreEnd) → AllRead given survey files → Wrote old new (EndsOver (bytes_in image indexes) given files end)
      → Wrote old new (EndsOver (beside (with_bytes image catalog) given files) given files end)
  ends_of_files given files old new end read wrote =
      let rest : Store ℕ = store_without survey.parts (bytes_in image catalog) in
      let here : rest ≡ beside (with_bytes image catalog) given files = ap₂ (λ (uuids : List (List ℕ)) (s : Store ℕ). store_without uuids s) read.parts (sym (same_bytes image catalog)) in
      let alone : store_without (part_uuids (overridden given (input files)).items) rest ≡ rest = subst (λ (uuids : List (List ℕ)). store_without uuids rest ≡ rest) read.parts (apart_once (keeps survey) survey.parts (bytes_in image catalog)) in
      let alike : EndsAlike rest (thinned (keeps survey) rest) (sources_with given files) = thinned_ends (keeps survey) rest (sources_with given files) alone (each_kept survey given files read) in (
        wrote.0,
        wrote.1,
        subst (λ (s : Store ℕ). EndsOver s given files end wrote.0) here (ends_over (thinned (keeps survey) rest) rest given files alike end wrote.0 (subst (λ (s : Store ℕ). EndsOver s given files end wrote.0) base_is wrote.2)),
      )

  pub ends : (given : Overrides) (told : Option (List (List ℕ × List ℕ))) (names : List (List ℕ)) (old new : Option (List ℕ)) (end : StoreEnd) → IfAllTold told names (SurveyEnd given (Ok survey))
      → IfAllTold told names (λ files. Wrote old new (EndsOver (bytes_in image indexes) given files end)) → IfAllTold told names (λ files. Wrote old new (EndsOver (beside (with_bytes image catalog) given files) given files end))
  ends given told names old new end read done =
      all_two told names (SurveyEnd given (Ok survey)) (λ files. Wrote old new (EndsOver (bytes_in image indexes) given files end)) (λ files. Wrote old new (EndsOver (beside (with_bytes image catalog) given files) given files end))
      (λ files r d. ends_of_files given files old new end r d) read done

-- Where the files can not be surveyed, or there is no memory.
pub stopped : (given : Overrides) (told : Option (List (List ℕ × List ℕ))) (names : List (List ℕ)) (store : Store ℕ) (out : Option (List ℕ)) (outcome : Outcome) → IfAllTold told names (SurveyStop outcome)
    → IfAllTold told names (λ files. Wrote out out (EndsOver (beside store given files) given files (made.Ends outcome)))
stopped given None names store out outcome h = tt
stopped given (Some table) names store out outcome h = survey_stopped (Some table) names (beside store given (contents table names)) given out outcome h

pub no_memory : (given : Overrides) (told : Option (List (List ℕ × List ℕ))) (names : List (List ℕ)) (store : Store ℕ) (out : Option (List ℕ)) → IfAllTold told names (λ files. Wrote out out (EndsOver (beside store given files) given files (made.Ends ended.NoMemory)))
no_memory given told names store out = stopped given told names store out ended.NoMemory (all_always told names (SurveyStop ended.NoMemory) (λ files. tt))
