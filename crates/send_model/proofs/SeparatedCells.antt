-- Separators do not look at cells: over other cells the same items are separated alike.
use Rattle.std.specs.Prelude.{◌≡◌, ℕ, zero, suc, ◌+◌, ◌==◌, Bool, false, not, ◌&&◌, List, [], ◌∷◌, ◌++◌, map, Option, None, Some, Result, Ok, Err, is_some, length, if◌then◌else◌}
use Rattle.std.specs.Option.{option_map}
use Rattle.std.specs.Str.{bytes_eq}
use Rattle.std.proofs.Common.{refl, ap, ap₂, subst, ◌∙◌}
use Rattle.send_model.specs.Refusal.{Refusal}
use Rattle.send_model.specs.Attribute.{Time}
use Rattle.send_model.specs.Command.{Command, Link, Unlink, Utimes, End}
use Rattle.send_model.specs.Subvolume.{Inode, Subvolume, root, epoch, inode_at, named}
use Rattle.send_model.specs.Store.{Store, Part, State, After, head_of, step}
use Rattle.send_model.specs.Receive.{byte_cells, start_of}
use Rattle.send_model.specs.Reading.{Item}
use Rattle.send_model.specs.Cells.{recelled, recelled_store, recelled_part, recelled_state, recelled_step}
use Rattle.send_model.specs.Opened.{Opened, written_path, kept_at, opened_at, open_after, opened_after, leads_elsewhere, is_astray_at, is_astray}
use Rattle.send_model.specs.Separated.{free_from, free_name, own_name, mtime_of_root, atime_of_root, touch, detour, names_file, separator_in, separator_for, separator, open_anew, other_path, IsSmall}
use Rattle.send_model.specs.Exported.{Exporting, exporting, exporting_after, items_before, then_separated, separated_by, byte_step, separated_items, AreSmallBy}
use Rattle.send_model.proofs.CellMaps.{reinode, inode_at-cells, is_file-cells, walk-cells}
use Rattle.send_model.proofs.CellClones.{all_steps-cells}

module _ {C D : Type 0} (f : C → D) where
  -- ---- separators

  names_file-cells : (s : Subvolume C) (path : List ℕ) → names_file (recelled f s) path ≡ names_file s path
  names_file-cells s path =
      ap₂ (λ (walked : Result ℕ Refusal) (file : ℕ → Bool). elim walked as (λ x. Bool) [ Err refusal ↦ false | Ok ino ↦ file ino ]) (walk-cells f s path) (λ i ino. is_file-cells f s ino i)

  mtime-cells : (s : Subvolume C) → mtime_of_root (recelled f s) ≡ mtime_of_root s
  mtime-cells s = ap (λ (o : Option (Inode D)). elim o as (λ x. Time) [ None ↦ epoch | Some inode ↦ inode.mtime ]) (inode_at-cells f s root) ∙ one (inode_at s root)
    where
      one : (o : Option (Inode C))
          → (elim (option_map (reinode f) o) as (λ x. Time) [ None ↦ epoch | Some inode ↦ inode.mtime ]) ≡ (elim o as (λ x. Time) [ None ↦ epoch | Some inode ↦ inode.mtime ])
      one None = refl
      one (Some inode) = refl

  atime-cells : (s : Subvolume C) → atime_of_root (recelled f s) ≡ atime_of_root s
  atime-cells s = ap (λ (o : Option (Inode D)). elim o as (λ x. Time) [ None ↦ epoch | Some inode ↦ inode.atime ]) (inode_at-cells f s root) ∙ one (inode_at s root)
    where
      one : (o : Option (Inode C))
          → (elim (option_map (reinode f) o) as (λ x. Time) [ None ↦ epoch | Some inode ↦ inode.atime ]) ≡ (elim o as (λ x. Time) [ None ↦ epoch | Some inode ↦ inode.atime ])
      one None = refl
      one (Some inode) = refl

  free_from-cells : (k n : ℕ) (s : Subvolume C) → free_from k n (recelled f s) ≡ free_from k n s
  unfolding free_from
  free_from-cells zero n s = refl
  free_from-cells (suc k) n s = ap (λ (name : List ℕ). if is_some (named s root (own_name n)) then name else own_name n) (free_from-cells k (n + 1) s)

  free_name-cells : (s : Subvolume C) → free_name (recelled f s) ≡ free_name s
  unfolding free_name
  free_name-cells s = free_from-cells (length s.names) 0 s

  detour-cells : (s : Subvolume C) (name path : List ℕ) → detour (recelled f s) name path ≡ detour s name path
  unfolding detour
  detour-cells s name path = ap₂ (λ (m a : Time). Link name path ∷ touch name ∷ Unlink name ∷ Utimes m a [] ∷ []) (mtime-cells s) (atime-cells s)

  separator_in-cells : (s : Subvolume C) (other path : List ℕ) → separator_in (recelled f s) other path ≡ separator_in s other path
  unfolding separator_in
  separator_in-cells s other path =
      ap₂ (λ (b : Bool) (round : List Command). if b && not (bytes_eq other path) then touch other ∷ [] else round) (names_file-cells s other)
      (detour-cells s (free_name (recelled f s)) path ∙ ap (λ (name : List ℕ). detour s name path) (free_name-cells s))

  elsewhere-cells : (part : Option (Part C)) (ino : ℕ) (path : List ℕ)
      → leads_elsewhere (option_map (recelled_part f) part) ino path ≡ leads_elsewhere part ino path
  elsewhere-cells None ino path = refl
  elsewhere-cells (Some part) ino path = ap (λ (walked : Result ℕ Refusal). elim walked as (λ x. Bool) [ Err refusal ↦ false | Ok now ↦ not (now == ino) ]) (walk-cells f part.subvolume path)

  astray_at-cells : (opened : Option Opened) (part : Option (Part C)) (path : Option (List ℕ))
      → is_astray_at opened (option_map (recelled_part f) part) path ≡ is_astray_at opened part path
  astray_at-cells opened part None = refl
  astray_at-cells opened part (Some path) = one (kept_at opened (Some path))
    where
      one : (o : Option ℕ)
          → (elim o as (λ x. Bool) [ None ↦ false | Some ino ↦ leads_elsewhere (option_map (recelled_part f) part) ino path ]) ≡ (elim o as (λ x. Bool) [ None ↦ false | Some ino ↦ leads_elsewhere part ino path ])
      one None = refl
      one (Some ino) = elsewhere-cells part ino path

  astray-cells : (opened : Option Opened) (state : State C) (c : Command) → is_astray opened (recelled_state f state) c ≡ is_astray opened state c
  unfolding is_astray
  astray-cells opened state c = astray_at-cells opened state.part (written_path c)

  separator_for-cells : (other : List ℕ) (part : Option (Part C)) (path : Option (List ℕ))
      → separator_for other (option_map (recelled_part f) part) path ≡ separator_for other part path
  separator_for-cells other None path = refl
  separator_for-cells other (Some part) None = refl
  separator_for-cells other (Some part) (Some path) = separator_in-cells part.subvolume other path

  -- What goes before a command.
  pub separator-cells : (opened : Option Opened) (other : List ℕ) (state : State C) (c : Command)
      → separator opened other (recelled_state f state) c ≡ separator opened other state c
  unfolding separator
  separator-cells opened other state c =
      ap₂ (λ (b : Bool) (cs : List Command). if b then cs else []) (astray-cells opened state c) (separator_for-cells other state.part (written_path c))

  opened_at-cells : (part : Option (Part C)) (path : List ℕ) → opened_at (option_map (recelled_part f) part) path ≡ opened_at part path
  opened_at-cells None path = refl
  opened_at-cells (Some part) path =
      ap (λ (walked : Result ℕ Refusal). elim walked as (λ x. Option Opened) [ Err refusal ↦ None | Ok ino ↦ Some (record { path = path; ino = ino }) ]) (walk-cells f part.subvolume path)

  open_after-cells : (opened : Option Opened) (part : Option (Part C)) (path : Option (List ℕ))
      → open_after opened (option_map (recelled_part f) part) path ≡ open_after opened part path
  open_after-cells opened part None = refl
  open_after-cells opened part (Some path) = ap (λ (o : Option Opened). elim (kept_at opened (Some path)) as (λ x. Option Opened) [ Some ino ↦ opened | None ↦ o ]) (opened_at-cells part path)

  opened_after-cells : (opened : Option Opened) (part : Option (Part C)) (c : Command)
      → opened_after opened (option_map (recelled_part f) part) c ≡ opened_after opened part c
  opened_after-cells opened part End = refl
  opened_after-cells opened part c = ap (λ (o : Option Opened). elim (head_of c) as (λ x. Option Opened) [ Some head ↦ None | None ↦ o ]) (open_after-cells opened part (written_path c))

  -- The file that is open after it.
  pub open_anew-cells : (opened : Option Opened) (state : State C) (c : Command) → open_anew opened (recelled_state f state) c ≡ open_anew opened state c
  open_anew-cells opened state c =
      ap (λ (b : Bool). opened_after (if b then None else opened) (option_map (recelled_part f) state.part) c) (astray-cells opened state c)
      ∙ opened_after-cells (if is_astray opened state c then None else opened) state.part c

  -- ---- items

  -- What is known between two commands, over other cells.
  abbrev pub recelled_exporting : Exporting C → Exporting D
  recelled_exporting now = record { state = recelled_state f now.state; opened = now.opened; other = now.other }

  pub items_before-cells : (now : Exporting C) (item : Item) → items_before (recelled_exporting now) item ≡ items_before now item
  items_before-cells now item = ap (map (λ command. record item { command = command })) (separator-cells now.opened now.other now.state item.command)

  exporting_after-cells : (now : Exporting C) (c : Command) (state : State C)
      → exporting_after (recelled_exporting now) c (recelled_state f state) ≡ recelled_exporting (exporting_after now c state)
  exporting_after-cells now c state =
      let at : Option Opened → Exporting D = λ opened. record { state = recelled_state f state; opened = opened; other = other_path now.other now.opened (written_path c) } in
      ap at (open_anew-cells now.opened now.state c)

  module _ (zero_cell : C) (put : Item → List C) where
    -- What an item does over cells, and over others.
    abbrev pub steps : State C → Item → After (State C)
    steps state item = step zero_cell (put item) state item.command

    abbrev pub recelled_steps : State D → Item → After (State D)
    recelled_steps state item = step (f zero_cell) (map f (put item)) state item.command

    one_separated : (stepped : After (State C)) (before : List Item) (item : Item) (now : Exporting C) (rest : Exporting D → List Item) (rest' : Exporting C → List Item)
        → ((next : Exporting C) → rest (recelled_exporting next) ≡ rest' next)
        → then_separated (recelled_step f stepped).refusal (before ++ item ∷ rest (exporting_after (recelled_exporting now) item.command (recelled_step f stepped).state))
        ≡ then_separated stepped.refusal (before ++ item ∷ rest' (exporting_after now item.command stepped.state))
    one_separated stepped before item now rest rest' more =
        ap (λ (items : List Item). then_separated stepped.refusal (before ++ item ∷ items))
        (ap rest (exporting_after-cells now item.command stepped.state) ∙ more (exporting_after now item.command stepped.state))

    pub separated_by-cells : (items : List Item) (now : Exporting C) → separated_by recelled_steps (recelled_exporting now) items ≡ separated_by steps now items
    unfolding separated_by
    separated_by-cells [] now = refl
    separated_by-cells (item ∷ items) now =
        let rest : Exporting D → List Item = λ next. separated_by recelled_steps next items in
        ap₂ (λ (before : List Item) (stepped : After (State D)). then_separated stepped.refusal (before ++ item ∷ rest (exporting_after (recelled_exporting now) item.command stepped.state)))
        (items_before-cells now item) (all_steps-cells f item.command zero_cell (put item) now.state)
        ∙ one_separated (steps now.state item) (items_before now item) item now rest (λ next. separated_by steps next items) (separated_by-cells items)

    small-cells : (part : Option (Part C)) → IsSmall (option_map (recelled_part f) part) → IsSmall part
    small-cells None s = s
    small-cells (Some part) s = s

    pub small_by-cells : (items : List Item) (state : State C) → AreSmallBy recelled_steps (recelled_state f state) items → AreSmallBy steps state items
    unfolding AreSmallBy
    small_by-cells [] state s = s
    small_by-cells (item ∷ items) state (s, more) = (
      small-cells state.part s,
      small_by-cells items (steps state item).state (subst (λ (stepped : After (State D)). AreSmallBy recelled_steps stepped.state items) (all_steps-cells f item.command zero_cell (put item) state) more),
    )

-- A cell that carries nothing.
abbrev pub blank_cell : ℕ → Unit {0}
blank_cell cell = tt

-- Over cells that carry nothing, the items that are written of items over a store of bytes.
pub blank_separated : (store : Store ℕ) (items : List Item)
    → separated_by (λ s item. step {C = Unit {0}} tt (map blank_cell (byte_cells item)) s item.command) (exporting (recelled_store blank_cell store)) items ≡ separated_items store items
blank_separated store items = separated_by-cells blank_cell 0 byte_cells items (exporting store)

pub blank_small : (store : Store ℕ) (items : List Item)
    → AreSmallBy (λ s item. step {C = Unit {0}} tt (map blank_cell (byte_cells item)) s item.command) (start_of (recelled_store blank_cell store)) items
    → AreSmallBy byte_step (start_of store) items
blank_small store items = small_by-cells blank_cell 0 byte_cells items (start_of store)
