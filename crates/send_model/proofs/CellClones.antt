-- Clones do not look at cells; so no step does.
use Rattle.std.specs.Prelude.{◌≡◌, ℕ, ◌+◌, ◌==◌, Bool, true, false, ◌&&◌, ◌||◌, List, [], map, length, take, drop, Option, None, Some, Result, Ok, Err, nat_lt, nat_le, if◌then◌else◌}
use Rattle.std.specs.Option.{option_map}
use Rattle.std.specs.Str.{bytes_eq}
use Rattle.std.proofs.Common.{refl, sym, ap, ◌∙◌}
use Rattle.std.proofs.lemmas.List.{take-map, drop-map, length-map}
use Rattle.send_model.specs.Refusal.{Refusal, NoSubvolume, NoSource, NotFile, BadRange, Unaligned, FileTooBig, Overlap}
use Rattle.send_model.specs.Chain.{◌>>=◌, ◌>>◌, require, refuse_if, found}
use Rattle.send_model.specs.Subvolume.{Inode, Subvolume, inode_at, is_file, walk}
use Rattle.send_model.specs.Edit.{greatest_end, overwritten, change_inode, set_cells}
use Rattle.send_model.specs.Clone.{cells_of, is_aligned, overlap, Cloned, cloned, clone, clone_values}
use Rattle.send_model.specs.Provenance.{inode_with}
use Rattle.send_model.specs.Command.{Command, Clone}
use Rattle.send_model.specs.Store.{Key, Store, Part, State, Stepped, find, clone_source, edit_part, edited, step_edit, step}
use Rattle.send_model.proofs.CellEdits.{edit-cells}
use Rattle.send_model.proofs.CellSteps.{find-cells, edited-cells, step-cells}
use Rattle.send_model.specs.Cells.{recelled, recelled_result, recelled_store, recelled_part, recelled_state, recelled_step}
use Rattle.send_model.proofs.CellMaps.{reinode, inode_at-cells, is_file-cells, walk-cells, overwritten-cells, change_inode-cells}

module _ {C D : Type 0} (f : C → D) where
  abbrev pub recloned : Result (Cloned C) Refusal → Result (Cloned D) Refusal
  recloned (Ok r) = Ok (record { ino = r.ino; cells = map f r.cells })
  recloned (Err refusal) = Err refusal

  pub cells_of-cells : (s : Subvolume C) (ino : ℕ) → cells_of (recelled f s) ino ≡ map f (cells_of s ino)
  unfolding cells_of
  cells_of-cells s ino = ap (λ (o : Option (Inode D)). elim o as (λ x. List D) [ None ↦ [] | Some inode ↦ inode.cells ]) (inode_at-cells f s ino) ∙ one (inode_at s ino)
    where
      one : (o : Option (Inode C)) → (elim (option_map (reinode f) o) as (λ x. List D) [ None ↦ [] | Some inode ↦ inode.cells ]) ≡ map f (elim o as (λ x. List C) [ None ↦ [] | Some inode ↦ inode.cells ])
      one None = refl
      one (Some inode) = refl

  bind_re : {A : Type 0} (r r' : Result A Refusal) (k : A → Result (Cloned D) Refusal) (h : A → Result (Cloned C) Refusal) → r' ≡ r → ((a : A) → k a ≡ recloned (h a)) → (r' >>= k) ≡ recloned (r >>= h)
  bind_re r r' k h e same = ap (λ (x : Result _ Refusal). x >>= k) e ∙ one r
    where
      one : (x : Result _ Refusal) → (x >>= k) ≡ recloned (x >>= h)
      one (Ok a) = same a
      one (Err refusal) = refl

  then_re : (r r' : Result (Unit {0}) Refusal) (k : Result (Cloned D) Refusal) (h : Result (Cloned C) Refusal) → r' ≡ r → k ≡ recloned h → (r' >> k) ≡ recloned (r >> h)
  then_re r r' k h e same = ap (λ (x : Result (Unit {0}) Refusal). x >> k) e ∙ one r
    where
      one : (x : Result (Unit {0}) Refusal) → (x >> k) ≡ recloned (x >> h)
      one (Ok a) = same
      one (Err refusal) = refl

  abbrev after_source : {E : Type 0} → Subvolume E → Bool → List ℕ → ℕ → List ℕ → ℕ → ℕ → Subvolume E → Result (Cloned E) Refusal
  after_source part own path offset clone_path from len other =
      walk part path >>= λ ino.
      require (is_file part ino) NotFile >> (
      walk other clone_path >>= λ source_ino.
      require (is_file other source_ino) NotFile >> (
      refuse_if ((len == 0) || nat_lt (length (cells_of other source_ino)) (from + len)) BadRange >> (
      require (is_aligned offset from len (length (cells_of other source_ino))) Unaligned >> (
      require (nat_le (offset + len) greatest_end) FileTooBig >> (
      refuse_if (own && (source_ino == ino) && overlap offset from len) Overlap >>
      Ok (record { ino = ino; cells = take len (drop from (cells_of other source_ino)) }))))))

  pub cloned-cells : (part : Subvolume C) (source : Option (Subvolume C)) (own : Bool) (path : List ℕ) (offset : ℕ) (clone_path : List ℕ) (from len : ℕ)
      → cloned (recelled f part) (option_map (recelled f) source) own (clone_values path offset clone_path from len) ≡ recloned (cloned part source own (clone_values path offset clone_path from len))
  unfolding cloned
  cloned-cells part source own path offset clone_path from len =
      then_re _ _ _ _ refl (then_re _ _ _ _ refl (with_source source))
    where
      size : (s : Subvolume C) (i : ℕ) → length (cells_of (recelled f s) i) ≡ length (cells_of s i)
      size s i = ap length (cells_of-cells s i) ∙ length-map (cells_of s i) f

      made : (ino : ℕ) (s : Subvolume C) (i : ℕ) → Ok (record { ino = ino; cells = take len (drop from (cells_of (recelled f s) i)) }) ≡ recloned (Ok (record { ino = ino; cells = take len (drop from (cells_of s i)) }))
      made ino s i =
          let at : List D → Result (Cloned D) Refusal = λ cs. Ok (record { ino = ino; cells = cs }) in
          ap at (ap (λ (cs : List D). take len (drop from cs)) (cells_of-cells s i) ∙ ap (take len) (drop-map f from (cells_of s i)) ∙ take-map f len (drop from (cells_of s i)))

      with_source : (o : Option (Subvolume C)) → (found (option_map (recelled f) o) NoSource >>= after_source (recelled f part) own path offset clone_path from len) ≡ recloned (found o NoSource >>= after_source part own path offset clone_path from len)
      with_source None = refl
      with_source (Some s) =
          bind_re (walk part path) _ _ _ (walk-cells f part path) (λ ino.
          then_re _ _ _ _ (ap (λ (b : Bool). require b NotFile) (is_file-cells f part ino))
          (bind_re (walk s clone_path) _ _ _ (walk-cells f s clone_path) (λ i.
          then_re _ _ _ _ (ap (λ (b : Bool). require b NotFile) (is_file-cells f s i))
          (then_re _ _ _ _ (ap (λ (n : ℕ). refuse_if ((len == 0) || nat_lt n (from + len)) BadRange) (size s i))
          (then_re _ _ _ _ (ap (λ (n : ℕ). require (is_aligned offset from len n) Unaligned) (size s i))
          (then_re _ _ _ _ refl (then_re _ _ _ _ refl (made ino s i))))))))

  clone_on : (zero_cell : C) (part : Subvolume C) (offset : ℕ) (r : Result (Cloned C) Refusal)
      → (recloned r >>= λ range. Ok (change_inode range.ino (set_cells (overwritten (f zero_cell) offset range.cells)) (recelled f part))) ≡ recelled_result f (r >>= λ range. Ok (change_inode range.ino (set_cells (overwritten zero_cell offset range.cells)) part))
  clone_on zero_cell part offset (Err refusal) = refl
  clone_on zero_cell part offset (Ok range) =
      let ok : Subvolume D → Result (Subvolume D) Refusal = λ x. Ok x in
      ap ok (change_inode-cells f range.ino (set_cells (overwritten zero_cell offset range.cells)) (set_cells (overwritten (f zero_cell) offset (map f range.cells))) part
      (λ inode. let at : List D → Inode D = λ cells. inode_with inode cells in ap at (sym (overwritten-cells f zero_cell offset range.cells inode.cells))))

  pub clone-cells : (zero_cell : C) (part : Subvolume C) (source : Option (Subvolume C)) (own : Bool) (path : List ℕ) (offset : ℕ) (clone_path : List ℕ) (from len : ℕ)
      → clone (f zero_cell) (recelled f part) (option_map (recelled f) source) own (clone_values path offset clone_path from len) ≡ recelled_result f (clone zero_cell part source own (clone_values path offset clone_path from len))
  unfolding clone
  clone-cells zero_cell part source own path offset clone_path from len =
      ap (λ (r : Result (Cloned D) Refusal). r >>= λ range. Ok (change_inode range.ino (set_cells (overwritten (f zero_cell) offset range.cells)) (recelled f part))) (cloned-cells part source own path offset clone_path from len)
      ∙ clone_on zero_cell part offset (cloned part source own (clone_values path offset clone_path from len))

module _ {C D : Type 0} (f : C → D) where
  source_cells : (store : Store C) (part : Part C) (key : Key) → clone_source (recelled_store f store) (recelled_part f part) key ≡ option_map (recelled f) (clone_source store part key)
  source_cells store part key = one (bytes_eq key.uuid part.key.uuid)
    where
      one : (b : Bool) → (if b then Some (recelled f part.subvolume) else find (recelled_store f store) key) ≡ option_map (recelled f) (if b then Some part.subvolume else find store key)
      one true = refl
      one false = find-cells f store key

  pub edit_part-cells : (x : C) (put : List C) (store : Store C) (part : Part C) (c : Command) → edit_part (f x) (map f put) (recelled_store f store) (recelled_part f part) c ≡ recelled_result f (edit_part x put store part c)
  unfolding edit_part
  edit_part-cells x put store part (Clone path offset clone_uuid clone_ctransid clone_path clone_offset clone_len) =
      ap (λ (o : Option (Subvolume D)). clone (f x) (recelled f part.subvolume) o (bytes_eq clone_uuid part.key.uuid) (clone_values path offset clone_path clone_offset clone_len)) (source_cells store part (record { uuid = clone_uuid; ctransid = clone_ctransid }))
      ∙ clone-cells f x part.subvolume (clone_source store part (record { uuid = clone_uuid; ctransid = clone_ctransid })) (bytes_eq clone_uuid part.key.uuid) path offset clone_path clone_offset clone_len
  edit_part-cells x put store part c = edit-cells f x put c part.subvolume

  -- ---- the step, clones included

  pub any_edit : (x : C) (put : List C) (state : State C) (c : Command) → step_edit (f x) (map f put) (recelled_state f state) c ≡ recelled_step f (step_edit x put state c)
  unfolding step_edit
  any_edit x put state c = one state.part
    where
      one : (o : Option (Part C)) → (elim (option_map (recelled_part f) o) as (λ y. Stepped D) [ None ↦ record { state = record { store = recelled_store f state.store; part = option_map (recelled_part f) state.part }; refusal = Some NoSubvolume } | Some part ↦ edited (recelled_store f state.store) part (edit_part (f x) (map f put) (recelled_store f state.store) part c) ])
          ≡ recelled_step f (elim o as (λ y. Stepped C) [ None ↦ record { state = state; refusal = Some NoSubvolume } | Some part ↦ edited state.store part (edit_part x put state.store part c) ])
      one None = refl
      one (Some part) = ap (edited (recelled_store f state.store) (recelled_part f part)) (edit_part-cells x put state.store part c) ∙ edited-cells f state.store part (edit_part x put state.store part c)

  -- No step looks at cells.
  pub all_steps-cells : (c : Command) (x : C) (put : List C) (state : State C) → step (f x) (map f put) (recelled_state f state) c ≡ recelled_step f (step x put state c)
  unfolding step
  all_steps-cells (Clone path offset clone_uuid clone_ctransid clone_path clone_offset clone_len) x put state = any_edit x put state (Clone path offset clone_uuid clone_ctransid clone_path clone_offset clone_len)
  all_steps-cells c x put state = step-cells f c refl x put state
