-- What answers of `send` and `restore` mean, and what a store has that received what they wrote.
use Rattle.std.specs.Prelude.{◌≡◌, ℕ, Bool, true, false, ◌||◌, List, [], ◌∷◌, ◌++◌, length, Option, None, Some, Result, Ok, Err, IsTrue, is_some, if◌then◌else◌}
use Rattle.std.specs.List.{AllByRecursion, flat_map}
use Rattle.std.specs.Option.{option_map, unwrap_or}
use Rattle.std.specs.Str.{bytes_eq}
use Rattle.std.proofs.Common.{refl, sym, ap, subst, ◌∙◌, arith, append-nil}
use Rattle.std.proofs.Math.Seq.{take-length}
use Rattle.std.proofs.lemmas.List.Concat.{flat_map-append}
use Rattle.std.proofs.lemmas.Bool.{false≢true}
use Rattle.send_model.specs.Refusal.{Refusal}
use Rattle.send_model.specs.Answer.{Done, Refused, Usage, InputFault, OutputFault, NoMemory, InputTooLong, TooMuch, InputChanged}
use Rattle.send_model.specs.Headline.{IsFrontOf, IsProperFrontOf}
use Rattle.send_model.specs.Map.{bytes_cmp, value_at}
use Rattle.send_model.specs.Subvolume.{Inode, Subvolume, IsLawful, is_file, is_file_kind, passes_inode, inode_at, walk, new_directory}
use Rattle.send_model.specs.Store.{Key, Entry, Store, has_name}
use Rattle.send_model.specs.Receive.{Run, start_of, receive}
use Rattle.send_model.specs.Lawful.{IsLawfulEntry, HasSayable, IsLawfulStore}
use Rattle.send_model.specs.Cells.{recelled, recelled_entry, recelled_store}
use Rattle.store_model.specs.Stored.{StandsFor, StandsForNone}
use Rattle.store_model.specs.StoreLines.{entry_line, shown, listed as lines_of}
use Rattle.store_model.specs.Dues as dues
use Rattle.store_model.specs.Dues.{Due, Ends, unless_missing, complete_named, file_of, file_at, show_output, cat_due, cat_output}
use Rattle.store_model.specs.Answers.{OfAnyWord, StoreFault, NotStore, Missing, LogFull, StoreThere, Damaged}
use Rattle.snapshot_model.specs.Listing.{byte_of, Listed, listing, listed, paths_of}
use Rattle.snapshot_model.specs.HeldStores.{StandsHeld, Form, formed, send_output}
use Rattle.snapshot_model.specs.SentLaws.{IsNew, FileIsReceivedAs}
use Rattle.snapshot_model.specs.Promises.{IsReceivedAnew}
use Rattle.snapshot_model.specs.SendMeanings.{SendIsDone, SendMisses, SendIsInFront, SendIsCut, NothingIsSentOverNone, UnfinishedLacksSome, ReceivedAnewIsThere, FilesAreThereAnew}
use Rattle.send_model.proofs.Sorts.{same_inside}
use Rattle.send_model.proofs.Stores.{bytes_eq_same}
use Rattle.send_model.proofs.Fronts.{nothing_front}
use Rattle.send_model.proofs.OutputMeanings.{proper_front_lacks_some}
use Rattle.send_model.proofs.CellMaps.{value_at-map}
use Rattle.send_model.proofs.LawfulStores.{files_leave_lawful}
use Rattle.store_model.proofs.OneStore.{never_both}
use Rattle.store_model.proofs.LawfulGroups.{stands_lawful}
use Rattle.snapshot_model.proofs.Holes.{held_are_bytes, bytes_are_held, image_is_one_held}
use Rattle.snapshot_model.proofs.SentPaths.{walked_there, path_found_walks, walked_path_found}

abbrev Cell : Type 0
Cell = Option ℕ

abbrev Found : Type 0
Found = Entry (Subvolume Cell) × Subvolume Cell

abbrev BytesFound : Type 0
BytesFound = Entry (Subvolume ℕ) × Subvolume ℕ

-- ---- answers

none_stands : (image : List ℕ) (store : Store Cell) (group : ℕ) → StandsHeld image store → StandsForNone image group → ⊥
none_stands image store group stands none = never_both image (recelled_store byte_of store) group (held_are_bytes image store stands) none

-- over the one store that the image stands for
moved : (image name : List ℕ) (s t : Store Cell) (o : Option Found) → StandsHeld image s → StandsHeld image t → complete_named name s ≡ o → complete_named name t ≡ o
moved image name s t o a b is = subst (λ (x : Store Cell). complete_named name x ≡ o) (image_is_one_held image s t a b) is

module _ (form : Form) where
  pub send_is_done : SendIsDone form
  send_is_done image name store written left stands h =
      let d = h.1.1 in ((d.2.0, moved image name d.0 store (Some d.2.0) d.1 stands d.2.1, d.2.2), h.0)

  pub send_misses : SendMisses form
  send_misses image name store what written left stands h =
      let d = h.1 in (d.0, moved image name d.2.0 store None d.2.1 stands d.2.2, d.1, h.0)

  own_front : (all written : List ℕ) → written ≡ all → IsFrontOf all written
  own_front all written e = record { count = length all; within = omega arith; written_is = e ∙ sym (take-length all) }

  some_front : (all written : List ℕ) → IsProperFrontOf all written → IsFrontOf all written
  some_front all written h = record { count = h.count; within = omega (arith, h.within); written_is = h.written_is }

  no_front : (all written : List ℕ) → written ≡ [] → IsFrontOf all written
  no_front all written e = subst (λ (w : List ℕ). IsFrontOf all w) (sym e) (nothing_front all 0)

  pub send_is_in_front : SendIsInFront form
  send_is_in_front image name store (OfAnyWord Done) written left stands h =
      let d = send_is_done image name store written left stands h in
      (own_front (send_output form name store) written (d.0.2 ∙ ap (λ (o : Option Found). formed form o) (sym d.0.1)), h.0)
  send_is_in_front image name store (Missing what) written left stands h = (no_front (send_output form name store) written h.1.1, h.0)
  send_is_in_front image name store (NotStore group) written left stands h = absurd (none_stands image store group stands h.1.1)
  send_is_in_front image name store (OfAnyWord OutputFault) written left stands h = (some_front (send_output form name store) written (h.1.0 store stands), h.0)
  send_is_in_front image name store (OfAnyWord NoMemory) written left stands h = (h.1.0 store stands, h.0)
  send_is_in_front image name store StoreFault written left stands h = (h.1.0 store stands, h.0)
  send_is_in_front image name store (OfAnyWord (Refused verdict)) written left stands h = absurd h.1
  send_is_in_front image name store (OfAnyWord InputFault) written left stands h = absurd h.1
  send_is_in_front image name store (OfAnyWord (InputTooLong file)) written left stands h = absurd h.1
  send_is_in_front image name store (OfAnyWord (TooMuch sum)) written left stands h = absurd h.1
  send_is_in_front image name store (OfAnyWord (InputChanged file place)) written left stands h = absurd h.1
  send_is_in_front image name store (OfAnyWord Usage) written left stands h = absurd h.1
  send_is_in_front image name store (LogFull end wanted limit) written left stands h = absurd h.1
  send_is_in_front image name store (StoreThere size) written left stands h = absurd h.1
  send_is_in_front image name store (Damaged group stored computed) written left stands h = absurd h.1

  pub send_is_cut : SendIsCut form
  send_is_cut image name store written left stands h = h.1.0 store stands

  pub nothing_is_sent_over_none : NothingIsSentOverNone form
  nothing_is_sent_over_none image name group (OfAnyWord Done) written left none h = absurd (none_stands image h.1.1.0 group h.1.1.1 none)
  nothing_is_sent_over_none image name group (Missing what) written left none h = (h.1.1, h.0, λ e. cc)
  nothing_is_sent_over_none image name group (NotStore at) written left none h = (h.1.0, h.0, λ e. cc)
  nothing_is_sent_over_none image name group (OfAnyWord OutputFault) written left none h = absurd (h.1.1 group none)
  nothing_is_sent_over_none image name group (OfAnyWord NoMemory) written left none h = (h.1.1 group none, h.0, λ e. cc)
  nothing_is_sent_over_none image name group StoreFault written left none h = (h.1.1 group none, h.0, λ e. cc)
  nothing_is_sent_over_none image name group (OfAnyWord (Refused verdict)) written left none h = absurd h.1
  nothing_is_sent_over_none image name group (OfAnyWord InputFault) written left none h = absurd h.1
  nothing_is_sent_over_none image name group (OfAnyWord (InputTooLong file)) written left none h = absurd h.1
  nothing_is_sent_over_none image name group (OfAnyWord (TooMuch sum)) written left none h = absurd h.1
  nothing_is_sent_over_none image name group (OfAnyWord (InputChanged file place)) written left none h = absurd h.1
  nothing_is_sent_over_none image name group (OfAnyWord Usage) written left none h = absurd h.1
  nothing_is_sent_over_none image name group (LogFull end wanted limit) written left none h = absurd h.1
  nothing_is_sent_over_none image name group (StoreThere size) written left none h = absurd h.1
  nothing_is_sent_over_none image name group (Damaged at stored computed) written left none h = absurd h.1

  pub unfinished_lacks_some : UnfinishedLacksSome form
  unfinished_lacks_some image name store found written stands is h = proper_front_lacks_some (form found.0.name found.0.key found.1) written (h store stands found is)

-- ---- the subvolume with its holes

-- The complete subvolume of a name is that of the store with its holes, as bytes.
record IsHeldAs (name : List ℕ) (holes : Store Cell) (found : BytesFound) : Type 0 where
  held : Found
  is : complete_named name holes ≡ Some held
  entry : found.0 ≡ recelled_entry byte_of held.0
  contents : found.1 ≡ recelled byte_of held.1

held_as : (name : List ℕ) (holes : Store Cell) (found : BytesFound) → complete_named name (recelled_store byte_of holes) ≡ Some found → IsHeldAs name holes found
unfolding complete_named
held_as name [] found e = cc
held_as name (h ∷ holes) found e = one (bytes_eq h.name name) refl e (λ q. held_as name holes found q)
  where
    After : Type 0
    After = IsHeldAs name (h ∷ holes) found

    two : (o : Option (Subvolume Cell)) → h.contents ≡ o → bytes_eq h.name name ≡ true
        → (elim (option_map (recelled byte_of) o) as (λ x. Option BytesFound) [ None ↦ None | Some s ↦ Some (recelled_entry byte_of h, s) ]) ≡ Some found → After
    two None is own q = cc
    two (Some s) is own q = record {
      held = (h, s);
      is = ap (λ (b : Bool). if b then elim h.contents as (λ x. Option Found) [ None ↦ None | Some t ↦ Some (h, t) ] else complete_named name holes) own
          ∙ ap (λ (o : Option (Subvolume Cell)). elim o as (λ x. Option Found) [ None ↦ None | Some t ↦ Some (h, t) ]) is;
      entry = ap (λ (f : BytesFound). f.0) (sym (same_inside q));
      contents = ap (λ (f : BytesFound). f.1) (sym (same_inside q));
    }

    further : (b : Bool) → bytes_eq h.name name ≡ b → b ≡ false → IsHeldAs name holes found → After
    further b own no_name more = record {
      held = more.held;
      is = ap (λ (b : Bool). if b then elim h.contents as (λ x. Option Found) [ None ↦ None | Some t ↦ Some (h, t) ] else complete_named name holes) (own ∙ no_name) ∙ more.is;
      entry = more.entry;
      contents = more.contents;
    }

    one : (b : Bool) → bytes_eq h.name name ≡ b
        → (if b then elim (option_map (recelled byte_of) h.contents) as (λ x. Option BytesFound) [ None ↦ None | Some s ↦ Some (recelled_entry byte_of h, s) ] else complete_named name (recelled_store byte_of holes)) ≡ Some found
        → (complete_named name (recelled_store byte_of holes) ≡ Some found → IsHeldAs name holes found) → After
    one true own q more = two h.contents refl own q
    one false own q more = further false own refl (more q)

-- So what is received anew has its name, its key and its listing.
abbrev Anew : BytesFound → Store ℕ → List ℕ → Type 0
Anew found other written = (after : Subvolume ℕ)
    × (receive other (written ∷ []) ≡ record { state = start_of (other ++ record { name = found.0.name; key = found.0.key; parent = None; contents = Some after } ∷ []); refused = None })
    × (listing after ≡ listing found.1)

anew : (image name : List ℕ) (store : Store ℕ) (found : BytesFound) (other : Store ℕ) (written : List ℕ)
    → StandsFor image store → complete_named name store ≡ Some found → IsReceivedAnew image name written → IsNew found.0.name found.0.key other → Anew found other written
anew image name store found other written stands is h new =
    let holes = bytes_are_held image store stands in
    let own = held_as name holes.0 found (ap (λ (s : Store ℕ). complete_named name s) (sym holes.2) ∙ is) in
    let named : found.0.name ≡ own.held.0.name = ap (λ (e : Entry (Subvolume ℕ)). e.name) own.entry in
    let keyed : found.0.key ≡ own.held.0.key = ap (λ (e : Entry (Subvolume ℕ)). e.key) own.entry in
    let got : FileIsReceivedAs own.held.0.name own.held.0.key own.held.1 other written =
    h holes.0 holes.1 own.held own.is other (new_as own.held.0.name own.held.0.key named keyed) in
    (got.0, got.1 ∙ (λ i. record { state = start_of (other ++ record { name = sym named i; key = sym keyed i; parent = None; contents = Some got.0 } ∷ []); refused = None }), got.2 ∙ ap listing (sym own.contents))
  where
    new_as : (n : List ℕ) (k : Key) → found.0.name ≡ n → found.0.key ≡ k → IsNew n k other
    new_as n k a b = subst (λ (m : Key). IsNew n m other) b (subst (λ (m : List ℕ). IsNew m found.0.key other) a new)

-- ---- the store that received it

-- Behind entries without the name stands that of the name.
named_last : (name : List ℕ) (other : Store ℕ) (key : Key) (after : Subvolume ℕ) → has_name name other ≡ false
    → let entry : Entry (Subvolume ℕ) = record { name = name; key = key; parent = None; contents = Some after } in
    complete_named name (other ++ entry ∷ []) ≡ Some (entry, after)
unfolding complete_named
named_last name [] key after none = ap (λ (b : Bool). if b then Some entry_of else None) (bytes_eq_same name)
  where
    entry_of : BytesFound
    entry_of = (record { name = name; key = key; parent = None; contents = Some after }, after)
named_last name (e ∷ other) key after none = one (bytes_eq e.name name) none (λ q. named_last name other key after q)
  where
    entry_of : BytesFound
    entry_of = (record { name = name; key = key; parent = None; contents = Some after }, after)

    one : (b : Bool) → b || has_name name other ≡ false → (has_name name other ≡ false → complete_named name (other ++ entry_of.0 ∷ []) ≡ Some entry_of)
        → (if b then elim e.contents as (λ x. Option BytesFound) [ None ↦ None | Some s ↦ Some (e, s) ] else complete_named name (other ++ entry_of.0 ∷ [])) ≡ Some entry_of
    one true q more = cc
    one false q more = more q

pub received_anew_is_there : ReceivedAnewIsThere
unfolding lines_of
received_anew_is_there image name store found other written stands is h new =
    let got = anew image name store found other written stands is h new in
    let entry : Entry (Subvolume ℕ) = record { name = found.0.name; key = found.0.key; parent = None; contents = Some got.0 } in
    let named = named_last found.0.name other found.0.key got.0 new.0 in (
      other ++ entry ∷ [],
      got.1,
      record {
        after = got.0;
        entry = entry;
        entry_is = refl;
        list = flat_map-append entry_line other (entry ∷ []) ∙ ap (λ (l : List ℕ). flat_map entry_line other ++ l) (append-nil (entry_line entry));
        named = named;
        show = ap (λ (o : Option BytesFound). elim o as (λ x. List ℕ) [ None ↦ [] | Some f ↦ shown f.0.name f.0.key f.1 ]) named;
        same = got.2;
      },
    )

-- ---- the bytes of files, by the listing

-- The bytes of what a path leads to, by what stands in the listing.
abbrev file_listed : Option (Listed ℕ) → Option (List ℕ)
file_listed None = None
file_listed (Some l) = if is_file_kind l.inode.kind then Some l.inode.cells else None

by_listing : (s : Subvolume ℕ) (path : List ℕ) → IsLawful s → file_at path s ≡ file_listed (value_at bytes_cmp path (listing s))
unfolding file_at listing listed is_file
by_listing s path lawful = one (walk s path) refl ∙ ap file_listed (sym (value_at-map bytes_cmp (listed s) path (paths_of s)))
  where
    there : (ino : ℕ) (o : Option (Inode ℕ)) → inode_at s ino ≡ o → IsTrue (is_some o)
        → (if passes_inode (λ inode. is_file_kind inode.kind) o then file_of s o else None) ≡ file_listed (Some (record { first = (listed s ino).first; inode = unwrap_or o new_directory }))
    there ino None at is = absurd (false≢true is)
    there ino (Some inode) at is = refl

    at_ino : (ino : ℕ) → walk s path ≡ Ok ino → (if is_file s ino then file_of s (inode_at s ino) else None) ≡ file_listed (option_map (listed s) (value_at bytes_cmp path (paths_of s)))
    at_ino ino w =
        there ino (inode_at s ino) refl (walked_there s lawful.sound path ino w)
        ∙ ap (λ (o : Option ℕ). file_listed (option_map (listed s) o)) (sym (walked_path_found s lawful path ino w))

    nowhere : (refusal : Refusal) → walk s path ≡ Err refusal → (o : Option ℕ) → value_at bytes_cmp path (paths_of s) ≡ o → ◌≡◌ {A = Option (List ℕ)} None (file_listed (option_map (listed s) o))
    nowhere refusal w None e = refl
    nowhere refusal w (Some ino) e = let q : Err refusal ≡ Ok ino = sym w ∙ path_found_walks s lawful path ino e in cc

    one : (r : Result ℕ Refusal) → walk s path ≡ r
        → (elim r as (λ x. Option (List ℕ)) [ Err refusal ↦ None | Ok ino ↦ if is_file s ino then file_of s (inode_at s ino) else None ])
        ≡ file_listed (option_map (listed s) (value_at bytes_cmp path (paths_of s)))
    one (Err refusal) w = nowhere refusal w (value_at bytes_cmp path (paths_of s)) refl
    one (Ok ino) w = at_ino ino w

-- Equal listings have the same files.
same_files : (s t : Subvolume ℕ) (path : List ℕ) → IsLawful s → IsLawful t → listing s ≡ listing t → file_at path s ≡ file_at path t
same_files s t path a b same = by_listing s path a ∙ ap (λ l. file_listed (value_at bytes_cmp path l)) same ∙ sym (by_listing t path b)

-- The complete subvolume of a name in a lawful store is lawful.
lawful_named : (name : List ℕ) (store : Store ℕ) (found : BytesFound) → AllByRecursion IsLawfulEntry store → complete_named name store ≡ Some found → IsLawful found.1
unfolding complete_named
lawful_named name [] found all e = cc
lawful_named name (x ∷ store) found all e = one (bytes_eq x.name name) e (λ q. lawful_named name store found all.1 q)
  where
    two : (o : Option (Subvolume ℕ)) → HasSayable o → (elim o as (λ x. Option BytesFound) [ None ↦ None | Some s ↦ Some (x, s) ]) ≡ Some found → IsLawful found.1
    two None h q = cc
    two (Some s) h q = subst (λ (f : BytesFound). IsLawful f.1) (same_inside q) h.lawful

    one : (b : Bool) → (if b then elim x.contents as (λ y. Option BytesFound) [ None ↦ None | Some s ↦ Some (x, s) ] else complete_named name store) ≡ Some found
        → (complete_named name store ≡ Some found → IsLawful found.1) → IsLawful found.1
    one true q more = two x.contents all.0.contents q
    one false q more = more q

-- What `cat` answers, by the complete subvolume of the name.
cat_by : (name path : List ℕ) (store : Store ℕ) (found : BytesFound) → complete_named name store ≡ Some found
    → (cat_due name path store ≡ unless_missing path (file_at path found.1)) × (cat_output name path store ≡ elim (file_at path found.1) as (λ x. List ℕ) [ None ↦ [] | Some cells ↦ cells ])
cat_by name path store found is = (
  ap (λ (o : Option BytesFound). elim o as (λ x. Due) [ None ↦ dues.Missing name | Some f ↦ unless_missing path (file_at path f.1) ]) is,
  ap (λ (o : Option BytesFound). elim o as (λ x. List ℕ) [ None ↦ [] | Some f ↦ elim (file_at path f.1) as (λ x. List ℕ) [ None ↦ [] | Some cells ↦ cells ] ]) is,
)

pub files_are_there_anew : FilesAreThereAnew
files_are_there_anew image name store found other end written path stands is h new lawful bytes ends =
    let got = received_anew_is_there image name store found other written stands is h new in
    let end_is : got.0 ≡ end = ap (λ (r : Run ℕ). r.state.store) (sym got.1 ∙ ends) in
    let named : complete_named found.0.name end ≡ Some (got.2.entry, got.2.after) = ap (λ (s : Store ℕ). complete_named found.0.name s) (sym end_is) ∙ got.2.named in
    let left : IsLawfulStore end = subst (λ (r : Run ℕ). IsLawfulStore r.state.store) ends (files_leave_lawful other (written ∷ []) lawful (bytes, tt)).1 in
    let same : file_at path got.2.after ≡ file_at path found.1 =
    same_files got.2.after found.1 path (lawful_named found.0.name end (got.2.entry, got.2.after) left.entries named)
    (lawful_named name store found (stands_lawful image store stands).entries is) got.2.same in
    let now = cat_by found.0.name path end (got.2.entry, got.2.after) named in
    let was = cat_by name path store found is in (
      now.0 ∙ ap (λ (o : Option (List ℕ)). unless_missing path o) same ∙ sym was.0,
      now.1 ∙ ap (λ (o : Option (List ℕ)). elim o as (λ x. List ℕ) [ None ↦ [] | Some cells ↦ cells ]) same ∙ sym was.1,
    )
