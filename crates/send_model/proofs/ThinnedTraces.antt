-- Where the cells of a store come from whose entries have their contents only where a test keeps
-- them, and what is composed of them.
use Rattle.std.specs.Prelude.{◌≡◌, ℕ, zero, suc, ◌+◌, Bool, true, false, ◌&&◌, List, [], ◌∷◌, ◌++◌, map, drop, length, Option, None, Some, Result, Ok, Err, if◌then◌else◌}
use Rattle.std.specs.List.{AllByRecursion, flat_map, sum_by, count_by}
use Rattle.std.specs.Option.{option_map, unwrap_or}
use Rattle.std.specs.Str.{bytes_eq}
use Rattle.std.proofs.Common.{refl, sym, ap, ap₂, subst, ◌∙◌}
use Rattle.std.proofs.lemmas.Bool.{false≢true}
use Rattle.send_model.specs.Refusal.{Refusal}
use Rattle.send_model.specs.Command.{Command, Clone}
use Rattle.send_model.specs.Map.{Map}
use Rattle.send_model.specs.Reading.{Item}
use Rattle.send_model.specs.Subvolume.{Inode, Subvolume, first_path}
use Rattle.send_model.specs.Clone.{block_len, Cloned, cloned, clone_values}
use Rattle.send_model.specs.Store.{Key, head_of, Entry, Store, Part, State, Stepped, step, find, clone_source}
use Rattle.send_model.specs.Receive.{bytes_of, start_of}
use Rattle.send_model.specs.Order.{breaks_order, part_after}
use Rattle.send_model.specs.Provenance.{Place, Traced, fresh, traced_from, inode_with, traced_subvolume, traced_store, fresh_cells, uuid_after, is_own, is_redirected, clone_range, traced_step, ranges_from, blocks_from, blocks, come_from, can_serve, carried_from, Piece, Carried, Literal, piece_of, join_piece, same_place, place_after, pieces_from, pieces_of, literal_len, is_run, uncarried_in, runs_in}
use Rattle.send_model.specs.Composed.{piece_commands, commands_for, composed_from}
use Rattle.send_model.specs.Due.{uncarried_of, then_due, come_to, due_from}
use Rattle.send_model.specs.Counts.{is_clone}
use Rattle.send_model.specs.Cells.{recelled, recelled_entry, recelled_store, recelled_part, recelled_state, Good, cell_of, Holds}
use Rattle.send_model.proofs.ElementLaws.{all_take, all_drop}
use Rattle.send_model.proofs.Sorts.{by_sort}
use Rattle.send_model.proofs.CellSteps.{find-cells}
use Rattle.send_model.proofs.CellClones.{all_steps-cells}
use Rattle.send_model.proofs.Held.{goods, cloned_holds}
use Rattle.send_model.proofs.Tracing.{holds_from}
use Rattle.send_model.proofs.MergingClones.{head_commands, plain_commands}
use Rattle.send_model.specs.Thinned.{thinned, KeepsNamed}
use Rattle.send_model.proofs.Thinning.{thinned_state, thinned_step, thinned_twice, find-kept, source-thinned, Keeps, steps_alike}
use Rattle.send_model.proofs.ThinnedRuns.{keeps_first, keeps_later}

-- ---- a property of all cells of a state

module _ {C : Type 0} (P : C → Type 0) where
  -- A state is one over cells that carry the property.
  abbrev pub HoldsAll : State C → Type 0
  HoldsAll state = (good : State ((c : C) × P c)) × (recelled_state (cell_of P) good ≡ state)

  -- What holds of all cells, of the zero cell and of those that are put holds of all cells after a
  -- step, taken or not.
  pub step_holds : (x : C) (put : List C) (state : State C) (c : Command) → P x → AllByRecursion P put → HoldsAll state → HoldsAll (step x put state c).state
  step_holds x put state c px pp (good, e) =
      let ys = goods P put pp in
      let next = step (x, px) ys.0 good c in (
        next.state,
        sym (ap (λ (s : Stepped C). s.state) (ap₂ (λ (p : List C) (s : State C). step x p s c) (sym ys.1) (sym e) ∙ all_steps-cells (cell_of P) c (x, px) ys.0 good)),
      )

  -- What a key finds holds, and so does the part.
  pub found_holds_all : (state : State C) → HoldsAll state → (key : Key) (s : Subvolume C) → find state.store key ≡ Some s → Holds P s
  found_holds_all state (good, e) key s f =
      one (find good.store key) (sym (find-cells (cell_of P) good.store key) ∙ ap (λ (t : State C). find t.store key) e ∙ f)
    where
      some_same : {A : Type 0} {a b : A} → Some a ≡ Some b → a ≡ b
      some_same {a = a} q = ap (λ o. unwrap_or o a) q

      one : (o : Option (Subvolume (Good P))) → option_map (recelled (cell_of P)) o ≡ Some s → Holds P s
      one None q = cc
      one (Some t) q = (t, some_same q)

  pub part_holds : (state : State C) → HoldsAll state → (part : Part C) → state.part ≡ Some part → Holds P part.subvolume
  part_holds state (good, e) part is =
      one good.part (ap (λ (t : State C). t.part) e ∙ is)
    where
      some_same : {A : Type 0} {a b : A} → Some a ≡ Some b → a ≡ b
      some_same {a = a} q = ap (λ o. unwrap_or o a) q

      one : (o : Option (Part (Good P))) → option_map (recelled_part (cell_of P)) o ≡ Some part → Holds P part.subvolume
      one None q = cc
      one (Some p) q = (p.subvolume, ap (λ (x : Part C). x.subvolume) (some_same q))

-- ---- cells that come from kept places

module _ (keep : Key → Bool) where
  abbrev pub FromKept : Option Place → Type 0
  FromKept None = Unit {0}
  FromKept (Some place) = keep place.key ≡ true

  abbrev pub InKept : Traced → Type 0
  InKept c = FromKept c.place

  from_kept : (key : Key) (ino offset : ℕ) (bytes : List ℕ) → keep key ≡ true → AllByRecursion InKept (traced_from key ino offset bytes)
  from_kept key ino offset [] kept = tt
  from_kept key ino offset (b ∷ bytes) kept = (kept, from_kept key ino (offset + 1) bytes kept)

  inodes_kept : (key : Key) (m : Map ℕ (Inode ℕ)) → keep key ≡ true
      → AllByRecursion (λ (e : ℕ × Inode Traced). AllByRecursion InKept e.1.cells) (map (λ (e : ℕ × Inode ℕ). (e.0, inode_with e.1 (traced_from key e.0 0 e.1.cells))) m)
  inodes_kept key [] kept = tt
  inodes_kept key (e ∷ m) kept = (from_kept key e.0 0 e.1.cells kept, inodes_kept key m kept)

  subvolume_kept : (key : Key) (s : Subvolume ℕ) → keep key ≡ true → Holds InKept (traced_subvolume key s)
  unfolding traced_subvolume
  subvolume_kept key s kept = holds_from InKept (traced_subvolume key s) (inodes_kept key s.inodes kept)

  store_kept : (base : Store ℕ) → (good : Store (Good InKept)) × (recelled_store (cell_of InKept) good ≡ traced_store (thinned keep base))
  unfolding traced_store
  store_kept [] = ([], refl)
  store_kept (e ∷ base) =
      let more = store_kept base in
      let here = one (keep e.key) refl e.contents in
      (here.0 ∷ more.0, ap₂ (λ (a : Entry (Subvolume Traced)) (r : Store Traced). a ∷ r) here.1 more.1)
    where
      with_those : {S : Type 0} → Option S → Entry S
      with_those o = record { name = e.name; key = e.key; parent = e.parent; contents = o }

      one : (k : Bool) → keep e.key ≡ k → (o : Option (Subvolume ℕ)) → (good : Entry (Subvolume (Good InKept)))
          × (recelled_entry (cell_of InKept) good ≡ with_those (elim (if k then o else None) as (λ x. Option (Subvolume Traced)) [ None ↦ None | Some s ↦ Some (traced_subvolume e.key s) ]))
      one true kept None = (with_those None, refl)
      one true kept (Some s) = let h = subvolume_kept e.key s kept in
          let at : Subvolume Traced → Entry (Subvolume Traced) = λ t. with_those (Some t) in (with_those (Some h.0), ap at h.1)
      one false kept o = (with_those None, refl)

  pub start_holds : (base : Store ℕ) → HoldsAll InKept (start_of (traced_store (thinned keep base)))
  start_holds base = let g = store_kept base in (start_of g.0, ap (λ (s : Store Traced). start_of s) g.1)

  pub traced-thinned : (base : Store ℕ) → traced_store (thinned keep base) ≡ thinned keep (traced_store base)
  unfolding traced_store
  traced-thinned [] = refl
  traced-thinned (e ∷ base) = ap₂ (λ (a : Entry (Subvolume Traced)) (r : Store Traced). a ∷ r) (ap at (one (keep e.key) e.contents)) (traced-thinned base)
    where
      at : Option (Subvolume Traced) → Entry (Subvolume Traced)
      at o = record { name = e.name; key = e.key; parent = e.parent; contents = o }

      one : (k : Bool) (o : Option (Subvolume ℕ)) → (elim (if k then o else None) as (λ x. Option (Subvolume Traced)) [ None ↦ None | Some s ↦ Some (traced_subvolume e.key s) ])
          ≡ (if k then (elim o as (λ x. Option (Subvolume Traced)) [ None ↦ None | Some s ↦ Some (traced_subvolume e.key s) ]) else None)
      one true o = refl
      one false o = refl

  pub start_alike : (base : Store ℕ) → thinned_state keep (start_of (traced_store (thinned keep base))) ≡ thinned_state keep (start_of (traced_store base))
  start_alike base = ap (λ (s : Store Traced). start_of s) (ap (thinned keep) (traced-thinned base) ∙ thinned_twice keep (traced_store base))

  -- ---- the range of a clone

  fresh_kept : (bytes : List ℕ) → AllByRecursion InKept (map fresh bytes)
  fresh_kept [] = tt
  fresh_kept (b ∷ bytes) = (tt, fresh_kept bytes)

  pub traced_holds : (state : State Traced) (item : Item) → HoldsAll InKept state → HoldsAll InKept (traced_step state item).state
  traced_holds state item h = step_holds InKept (fresh 0) (fresh_cells item) state item.command tt (fresh_kept (bytes_of item.command)) h

  range_alike : (a b : State Traced) (c : Command) → Keeps keep c → thinned_state keep a ≡ thinned_state keep b → clone_range a c ≡ clone_range b c
  unfolding clone_range
  range_alike a b (Clone path offset uuid ctransid clone_path from len) kept same =
      sym (over a) ∙ ap (λ (s : State Traced). clone_range s (Clone path offset uuid ctransid clone_path from len)) same ∙ over b
    where
      cells_in : Result (Cloned Traced) Refusal → List Traced
      cells_in r = elim r as (λ x. List Traced) [ Err refusal ↦ [] | Ok range ↦ range.cells ]

      over : (s : State Traced) → clone_range (thinned_state keep s) (Clone path offset uuid ctransid clone_path from len) ≡ clone_range s (Clone path offset uuid ctransid clone_path from len)
      over s = one s.part
        where
          one : (o : Option (Part Traced)) → (elim o as (λ x. List Traced) [ None ↦ [] | Some part ↦ cells_in (cloned part.subvolume (clone_source (thinned keep s.store) part (record { uuid = uuid; ctransid = ctransid })) (bytes_eq uuid part.key.uuid) (clone_values path offset clone_path from len)) ])
              ≡ (elim o as (λ x. List Traced) [ None ↦ [] | Some part ↦ cells_in (cloned part.subvolume (clone_source s.store part (record { uuid = uuid; ctransid = ctransid })) (bytes_eq uuid part.key.uuid) (clone_values path offset clone_path from len)) ])
          one None = refl
          one (Some part) = ap (λ (x : Option (Subvolume Traced)). cells_in (cloned part.subvolume x (bytes_eq uuid part.key.uuid) (clone_values path offset clone_path from len))) (source-thinned keep s.store part (record { uuid = uuid; ctransid = ctransid }) kept.0)
  range_alike a b c kept same = refl

  range_kept : (state : State Traced) (c : Command) → HoldsAll InKept state → AllByRecursion InKept (clone_range state c)
  unfolding clone_range
  range_kept state (Clone path offset uuid ctransid clone_path from len) h = one state.part refl
    where
      key : Key
      key = record { uuid = uuid; ctransid = ctransid }

      cells_in : Result (Cloned Traced) Refusal → List Traced
      cells_in r = elim r as (λ x. List Traced) [ Err refusal ↦ [] | Ok range ↦ range.cells ]

      source_kept : (part : Part Traced) → Holds InKept part.subvolume → (b : Bool) → (u : Subvolume Traced) → (if b then Some part.subvolume else find state.store key) ≡ Some u → Holds InKept u
      source_kept part held true u e = subst (Holds InKept) (ap (λ (o : Option (Subvolume Traced)). unwrap_or o part.subvolume) e) held
      source_kept part held false u e = found_holds_all InKept state h key u e

      of_part : (part : Part Traced) → Holds InKept part.subvolume → (r : Result (Cloned Traced) Refusal)
          → cloned part.subvolume (clone_source state.store part key) (bytes_eq uuid part.key.uuid) (clone_values path offset clone_path from len) ≡ r → AllByRecursion InKept (cells_in r)
      of_part part held (Err refusal) e = tt
      of_part part held (Ok range) e = cloned_holds InKept part.subvolume (clone_source state.store part key) (bytes_eq uuid part.key.uuid) path offset clone_path from len range held (source_kept part held (bytes_eq key.uuid part.key.uuid)) e

      one : (o : Option (Part Traced)) → state.part ≡ o
          → AllByRecursion InKept (elim o as (λ x. List Traced) [ None ↦ [] | Some part ↦ cells_in (cloned part.subvolume (clone_source state.store part key) (bytes_eq uuid part.key.uuid) (clone_values path offset clone_path from len)) ])
      one None e = tt
      one (Some part) e = of_part part (part_holds InKept state h part e) (cloned part.subvolume (clone_source state.store part key) (bytes_eq uuid part.key.uuid) (clone_values path offset clone_path from len)) refl
  range_kept state c h = tt

  -- ---- pieces

  blocks_kept : (n : ℕ) (cells : List Traced) → AllByRecursion InKept cells → AllByRecursion (AllByRecursion InKept) (blocks_from n cells)
  blocks_kept zero cells a = tt
  blocks_kept (suc n) [] a = tt
  blocks_kept (suc n) (c ∷ cells) a = (all_take InKept block_len (c ∷ cells) a, blocks_kept n (drop block_len (c ∷ cells)) (all_drop InKept block_len (c ∷ cells) a))

  abbrev PieceKept : Piece → Type 0
  PieceKept (Carried at place len) = keep place.key ≡ true
  PieceKept (Literal at bytes) = Unit {0}

  module _ (base : Store ℕ) where
    carried_alike : (block : List Traced) → AllByRecursion InKept block → carried_from (thinned keep base) block ≡ carried_from base block
    unfolding carried_from
    carried_alike [] a = refl
    carried_alike (c ∷ cells) a = one c.place a.0
      where
        one : (o : Option Place) → FromKept o
            → (elim o as (λ x. Option Place) [ None ↦ None | Some place ↦ if come_from place (c ∷ cells) && can_serve (find (thinned keep base) place.key) place (length (c ∷ cells)) then Some place else None ])
            ≡ (elim o as (λ x. Option Place) [ None ↦ None | Some place ↦ if come_from place (c ∷ cells) && can_serve (find base place.key) place (length (c ∷ cells)) then Some place else None ])
        one None kept = refl
        one (Some place) kept = ap (λ (s : Option (Subvolume ℕ)). if come_from place (c ∷ cells) && can_serve s place (length (c ∷ cells)) then Some place else None) (find-kept keep base place.key kept)

    carried_kept : (block : List Traced) → AllByRecursion InKept block → FromKept (carried_from base block)
    unfolding carried_from
    carried_kept [] a = tt
    carried_kept (c ∷ cells) a = one c.place a.0
      where
        one : (o : Option Place) → FromKept o
            → FromKept (elim o as (λ x. Option Place) [ None ↦ None | Some place ↦ if come_from place (c ∷ cells) && can_serve (find base place.key) place (length (c ∷ cells)) then Some place else None ])
        one None kept = tt
        one (Some place) kept = two (come_from place (c ∷ cells) && can_serve (find base place.key) place (length (c ∷ cells)))
          where
            two : (b : Bool) → FromKept (if b then Some place else None)
            two true = kept
            two false = tt

    piece_alike : (at : ℕ) (block : List Traced) → AllByRecursion InKept block → piece_of (thinned keep base) at block ≡ piece_of base at block
    piece_alike at block a = ap (λ (o : Option Place). elim o as (λ x. Piece) [ None ↦ Literal at (map (λ c. c.byte) block) | Some place ↦ Carried at place (length block) ]) (carried_alike block a)

    piece_kept : (at : ℕ) (block : List Traced) → AllByRecursion InKept block → PieceKept (piece_of base at block)
    piece_kept at block a = one (carried_from base block) (carried_kept block a)
      where
        one : (o : Option Place) → FromKept o → PieceKept (elim o as (λ x. Piece) [ None ↦ Literal at (map (λ c. c.byte) block) | Some place ↦ Carried at place (length block) ])
        one None kept = tt
        one (Some place) kept = kept

    from_alike : (at : ℕ) (bs : List (List Traced)) → AllByRecursion (AllByRecursion InKept) bs → pieces_from (thinned keep base) at bs ≡ pieces_from base at bs
    from_alike at [] a = refl
    from_alike at (b ∷ bs) a = ap₂ (λ (p : Piece) (ps : List Piece). join_piece p ps) (piece_alike at b a.0) (from_alike (at + length b) bs a.1)

    pub pieces_alike : (range : List Traced) → AllByRecursion InKept range → pieces_of (thinned keep base) range ≡ pieces_of base range
    unfolding pieces_of blocks
    pieces_alike range a = from_alike 0 (blocks range) (blocks_kept (length range) range a)

    joined_kept : (p : Piece) (ps : List Piece) → PieceKept p → AllByRecursion PieceKept ps → AllByRecursion PieceKept (join_piece p ps)
    joined_kept (Literal at bytes) (Literal at' bytes' ∷ rest) k ks = (tt, ks.1)
    joined_kept (Literal at bytes) (Carried at' place' len' ∷ rest) k ks = (tt, ks)
    joined_kept (Literal at bytes) [] k ks = (tt, tt)
    joined_kept (Carried at place len) (Literal at' bytes' ∷ rest) k ks = (k, ks)
    joined_kept (Carried at place len) [] k ks = (k, tt)
    joined_kept (Carried at place len) (Carried at' place' len' ∷ rest) k ks = one (same_place (place_after place len) place')
      where
        one : (b : Bool) → AllByRecursion PieceKept (if b then Carried at place (len + len') ∷ rest else Carried at place len ∷ Carried at' place' len' ∷ rest)
        one true = (k, ks.1)
        one false = (k, ks)

    from_kept_pieces : (at : ℕ) (bs : List (List Traced)) → AllByRecursion (AllByRecursion InKept) bs → AllByRecursion PieceKept (pieces_from base at bs)
    from_kept_pieces at [] a = tt
    from_kept_pieces at (b ∷ bs) a = joined_kept (piece_of base at b) (pieces_from base (at + length b) bs) (piece_kept at b a.0) (from_kept_pieces (at + length b) bs a.1)

    pieces_kept : (range : List Traced) → AllByRecursion InKept range → AllByRecursion PieceKept (pieces_of base range)
    unfolding pieces_of blocks
    pieces_kept range a = from_kept_pieces 0 (blocks range) (blocks_kept (length range) range a)

    -- ---- commands

    one_piece : (path : List ℕ) (offset : ℕ) (p : Piece) → PieceKept p → piece_commands (thinned keep base) path offset p ≡ piece_commands base path offset p
    one_piece path offset (Literal at bytes) k = refl
    one_piece path offset (Carried at place len) k =
        ap (λ (o : Option (Subvolume ℕ)). Clone path (offset + at) place.key.uuid place.key.ctransid (elim o as (λ x. List ℕ) [ None ↦ [] | Some s ↦ unwrap_or (first_path s place.ino) [] ]) place.offset len ∷ []) (find-kept keep base place.key k)

    all_pieces : (path : List ℕ) (offset : ℕ) (ps : List Piece) → AllByRecursion PieceKept ps → flat_map (piece_commands (thinned keep base) path offset) ps ≡ flat_map (piece_commands base path offset) ps
    all_pieces path offset [] ks = refl
    all_pieces path offset (p ∷ ps) ks = ap₂ (λ (a b : List Command). a ++ b) (one_piece path offset p ks.0) (all_pieces path offset ps ks.1)

    ranged : (path : List ℕ) (offset : ℕ) (r r' : List Traced) → r ≡ r' → AllByRecursion InKept r
        → flat_map (piece_commands (thinned keep base) path offset) (pieces_of (thinned keep base) r) ≡ flat_map (piece_commands base path offset) (pieces_of base r')
    ranged path offset r r' same a =
        ap (flat_map (piece_commands (thinned keep base) path offset)) (pieces_alike r a)
        ∙ all_pieces path offset (pieces_of base r) (pieces_kept r a)
        ∙ ap (λ (x : List Traced). flat_map (piece_commands base path offset) (pieces_of base x)) same

    module _ (parts : List (List ℕ)) (last : Key) (a b : State Traced) (current : Option (List ℕ)) (h : HoldsAll InKept a) (same : thinned_state keep a ≡ thinned_state keep b) where
      abbrev SameCommands : Command → Type 0
      SameCommands c = Keeps keep c → commands_for (thinned keep base) parts last a current c ≡ commands_for base parts last b current c

      clone_alike : (c : Command) → is_clone c ≡ true → SameCommands c
      clone_alike (Clone path offset uuid ctransid clone_path from len) is kept =
          let c : Command = Clone path offset uuid ctransid clone_path from len in
          ap (λ (cs : List Command). if is_own current uuid then Clone path offset last.uuid last.ctransid clone_path from len ∷ [] else (if is_redirected parts current c then cs else c ∷ []))
          (ranged path offset (clone_range a c) (clone_range b c) (range_alike a b c kept same) (range_kept a c h))
      clone_alike c is kept = absurd (false≢true is)

      pub commands_alike : (c : Command) → SameCommands c
      commands_alike c = by_sort {P = SameCommands}
          (λ c head h kept. head_commands (thinned keep base) parts last a current c head h ∙ sym (head_commands base parts last b current c head h))
          (λ kept. refl) clone_alike
          (λ c h kept. plain_commands (thinned keep base) parts last a current c h ∙ sym (plain_commands base parts last b current c h)) c

    traced_alike : (item : Item) (a b : State Traced) → Keeps keep item.command → thinned_state keep a ≡ thinned_state keep b → thinned_step keep (traced_step a item) ≡ thinned_step keep (traced_step b item)
    traced_alike item a b kept same = steps_alike keep item.command kept (fresh 0) (fresh_cells item) a b same

    pub composed-thinned : (parts : List (List ℕ)) (last : Key) (items : List Item) (a b : State Traced) (current : Option (List ℕ)) → KeepsNamed keep items → HoldsAll InKept a → thinned_state keep a ≡ thinned_state keep b
        → composed_from (thinned keep base) parts last a current items ≡ composed_from base parts last b current items
    unfolding composed_from
    composed-thinned parts last [] a b current kept h same = refl
    composed-thinned parts last (item ∷ items) a b current kept h same =
        let k = keeps_first keep item items kept in
        ap₂ (λ (cs ds : List Command). cs ++ ds) (commands_alike parts last a b current h same item.command k)
        (composed-thinned parts last items (traced_step a item).state (traced_step b item).state (uuid_after current item.command) (keeps_later keep item items kept) (traced_holds a item h) (ap (λ (y : Stepped Traced). y.state) (traced_alike item a b k same)))

    -- ---- ranges and counts

    pub ranges-thinned : (parts : List (List ℕ)) (items : List Item) (a b : State Traced) (current : Option (List ℕ)) → KeepsNamed keep items → thinned_state keep a ≡ thinned_state keep b
        → ranges_from parts a current items ≡ ranges_from parts b current items
    unfolding ranges_from
    ranges-thinned parts [] a b current kept same = refl
    ranges-thinned parts (item ∷ items) a b current kept same =
        let k = keeps_first keep item items kept in
        ap₂ (λ (r : List Traced) (rs : List (List Traced)). if is_redirected parts current item.command then r ∷ rs else rs) (range_alike a b item.command k same)
        (ranges-thinned parts items (traced_step a item).state (traced_step b item).state (uuid_after current item.command) (keeps_later keep item items kept) (ap (λ (y : Stepped Traced). y.state) (traced_alike item a b k same)))

    pub ranges_kept : (parts : List (List ℕ)) (items : List Item) (a : State Traced) (current : Option (List ℕ)) → HoldsAll InKept a → AllByRecursion (AllByRecursion InKept) (ranges_from parts a current items)
    unfolding ranges_from
    ranges_kept parts [] a current h = tt
    ranges_kept parts (item ∷ items) a current h = one (is_redirected parts current item.command) (ranges_kept parts items (traced_step a item).state (uuid_after current item.command) (traced_holds a item h))
      where
        one : (b : Bool) → AllByRecursion (AllByRecursion InKept) (ranges_from parts (traced_step a item).state (uuid_after current item.command) items)
            → AllByRecursion (AllByRecursion InKept) (if b then clone_range a item.command ∷ ranges_from parts (traced_step a item).state (uuid_after current item.command) items else ranges_from parts (traced_step a item).state (uuid_after current item.command) items)
        one true more = (range_kept a item.command h, more)
        one false more = more

    all_ranges : (rs : List (List Traced)) → AllByRecursion (AllByRecursion InKept) rs → map (pieces_of (thinned keep base)) rs ≡ map (pieces_of base) rs
    all_ranges [] a = refl
    all_ranges (r ∷ rs) a = ap₂ (λ (p : List Piece) (ps : List (List Piece)). p ∷ ps) (pieces_alike r a.0) (all_ranges rs a.1)

    pub uncarried_alike : (rs : List (List Traced)) → AllByRecursion (AllByRecursion InKept) rs → uncarried_in (thinned keep base) rs ≡ uncarried_in base rs
    uncarried_alike rs a = ap (λ (ps : List (List Piece)). sum_by (λ pieces. sum_by literal_len pieces) ps) (all_ranges rs a)

    pub runs_alike : (rs : List (List Traced)) → AllByRecursion (AllByRecursion InKept) rs → runs_in (thinned keep base) rs ≡ runs_in base rs
    runs_alike rs a = ap (λ (ps : List (List Piece)). sum_by (λ pieces. count_by is_run pieces) ps) (all_ranges rs a)

    -- ---- the answer that is due

    own_alike : (parts : List (List ℕ)) (a b : State Traced) (current : Option (List ℕ)) (item : Item) → Keeps keep item.command → HoldsAll InKept a → thinned_state keep a ≡ thinned_state keep b
        → uncarried_of (thinned keep base) parts a current item ≡ uncarried_of base parts b current item
    own_alike parts a b current item kept h same =
        ap (λ (n : ℕ). if is_redirected parts current item.command then n else 0)
        (uncarried_alike (clone_range a item.command ∷ []) (range_kept a item.command h, tt) ∙ ap (λ (r : List Traced). uncarried_in base (r ∷ [])) (range_alike a b item.command kept same))

    pub due-thinned : (parts : List (List ℕ)) (items : List Item) (a b : State Traced) (previous : Option Key) (current : Option (List ℕ)) (sum sum' : ℕ) → KeepsNamed keep items → HoldsAll InKept a → thinned_state keep a ≡ thinned_state keep b → sum ≡ sum'
        → due_from (thinned keep base) parts (come_to a previous current sum) items ≡ due_from base parts (come_to b previous current sum') items
    unfolding due_from
    due-thinned parts [] a b previous current sum sum' kept h same sums = refl
    due-thinned parts (item ∷ items) a b previous current sum sum' kept h same sums =
        let k = keeps_first keep item items kept in
        let alike = traced_alike item a b k same in
        let sums' : sum + uncarried_of (thinned keep base) parts a current item ≡ sum' + uncarried_of base parts b current item = ap₂ (λ (m n : ℕ). m + n) sums (own_alike parts a b current item k h same) in
        let breaks : Bool = breaks_order previous (head_of item.command) in
        let next : Option Key = part_after previous (head_of item.command) in
        ap₂ (λ (o : Option Refusal) (n : ℕ). then_due item o breaks n (due_from (thinned keep base) parts (come_to (traced_step a item).state next (uuid_after current item.command) (sum + uncarried_of (thinned keep base) parts a current item)) items)) (ap (λ (y : Stepped Traced). y.refusal) alike) sums'
        ∙ ap (then_due item (traced_step b item).refusal breaks (sum' + uncarried_of base parts b current item))
        (due-thinned parts items (traced_step a item).state (traced_step b item).state next (uuid_after current item.command) (sum + uncarried_of (thinned keep base) parts a current item) (sum' + uncarried_of base parts b current item) (keeps_later keep item items kept) (traced_holds a item h) (ap (λ (y : Stepped Traced). y.state) alike) sums')
