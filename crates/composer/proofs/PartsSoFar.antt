-- Which clones are redirected, and what stands for them, does not depend on the parts after the
-- items: the uuids of the parts so far serve as well as those of all, since a clone that is taken
-- names a part so far or a subvolume of the base, which has no part.
use Rattle.std.specs.Prelude.{◌≡◌, ◌⊎◌, ℕ, Bool, true, false, not, ◌&&◌, List, [], ◌∷◌, ◌++◌, map, Option, None, Some, Result, Ok, if◌then◌else◌}
use Rattle.std.specs.List.{AllByRecursion, flat_map}
use Rattle.std.specs.Option.{option_map}
use Rattle.std.specs.Str.{bytes_eq}
use Rattle.std.proofs.Common.{refl, sym, ap, ap₂, subst, ◌∙◌, inl, inr, ⊎_elim}
use Rattle.std.proofs.lemmas.Bool.{false≢true}
use Rattle.send_model.specs.Refusal.{Refusal, NoSubvolume}
use Rattle.send_model.specs.Command.{Command, Subvol, Snapshot, Clone, End}
use Rattle.send_model.specs.Subvolume.{Subvolume}
use Rattle.send_model.specs.Clone.{clone, clone_values}
use Rattle.send_model.specs.Reading.{Item}
use Rattle.send_model.specs.Store.{Key, Head, head_of, Store, Part, State, Stepped, step, step_head, step_edit, edit_part, find, with_contents, completed, begun, entered, edited, unfinished, clone_source}
use Rattle.send_model.specs.Receive.{bytes_of, start_of}
use Rattle.send_model.specs.Order.{heads, heads_of, onto_heads}
use Rattle.send_model.specs.Outside.{is_among}
use Rattle.send_model.specs.Counts.{is_clone}
use Rattle.send_model.specs.Provenance.{Traced, fresh, traced_store, traced_step, uuid_after, is_own, clone_range, pieces_of}
use Rattle.send_model.specs.Composed.{piece_commands, commands_for, composed_from}
use Rattle.send_model.specs.Cells.{recelled}
use Rattle.send_model.proofs.Sorts.{by_sort, is_plain, plain_step_edit, head_step}
use Rattle.send_model.proofs.Stores.{bytes_eq_same, bytes_eq_true, finds_other, finds_unfinished}
use Rattle.send_model.proofs.Merging.{entered_taken, edited_taken}
use Rattle.send_model.proofs.CellSteps.{find-cells}
use Rattle.composer.specs.OverBase.{AreTaken, HasNone}
use Rattle.send_model.proofs.Tracing.{byte_of, untraced_store}
use Rattle.send_model.proofs.MergingClones.{no_source}

-- ---- uuids

turned : (a b : List ℕ) → bytes_eq a b ≡ true → bytes_eq b a ≡ true
turned a b e = ap (bytes_eq b) (bytes_eq_true a b e) ∙ bytes_eq_same b

module _ (base : Store ℕ) (some others : List (List ℕ)) where
  abbrev pub InBoth : List ℕ → Type 0
  InBoth uuid = (is_among some uuid ≡ true) × (is_among others uuid ≡ true)

  -- What the store so far finds is a part so far or the base's, and the part so far is among both.
  pub record IsKnown (state : State Traced) (current : Option (List ℕ)) : Type 0 where
    pub finds : (k : Key) (s : Subvolume Traced) → find state.store k ≡ Some s → InBoth k.uuid ⊎ (find (traced_store base) k ≡ Some s)
    pub part : (p : Part Traced) → state.part ≡ Some p → InBoth p.key.uuid × (current ≡ Some p.key.uuid)

  pub known_start : (current : Option (List ℕ)) → IsKnown (start_of (traced_store base)) current
  known_start current = record { finds = λ k s e. inr e; part = λ p e. cc }

  Finds : Store Traced → Type 0
  Finds store = (k : Key) (s : Subvolume Traced) → find store k ≡ Some s → InBoth k.uuid ⊎ (find (traced_store base) k ≡ Some s)

  finds_completed : (state : State Traced) (current : Option (List ℕ)) → IsKnown state current → Finds (completed state)
  unfolding completed Finds
  finds_completed state current known k s = one state.part refl
    where
      one : (o : Option (Part Traced)) → state.part ≡ o → find (elim o as (λ x. Store Traced) [ None ↦ state.store | Some part ↦ with_contents part.key.uuid part.subvolume state.store ]) k ≡ Some s → InBoth k.uuid ⊎ (find (traced_store base) k ≡ Some s)
      one None o e = known.finds k s e
      one (Some p) o e = by_uuid (bytes_eq k.uuid p.key.uuid) refl
        where
          by_uuid : (b : Bool) → bytes_eq k.uuid p.key.uuid ≡ b → InBoth k.uuid ⊎ (find (traced_store base) k ≡ Some s)
          by_uuid true h = let ours = known.part p o in inl (subst InBoth (sym (bytes_eq_true k.uuid p.key.uuid h)) ours.0)
          by_uuid false h = known.finds k s (sym (finds_other p.key.uuid p.subvolume state.store k (λ same. false≢true (sym h ∙ ap (bytes_eq k.uuid) (sym same) ∙ bytes_eq_same k.uuid))) ∙ e)

  module _ (last : Key) (none_some : HasNone base some) (none_others : HasNone base others) where
    abbrev Alike : Command → Type 0
    Alike c = (state : State Traced) (current : Option (List ℕ)) → ((head : Head) → head_of c ≡ Some head → InBoth head.key.uuid) → IsKnown state current
        → (step (fresh 0) (map fresh (bytes_of c)) state c).refusal ≡ None
        → (commands_for base some last state current c ≡ commands_for base others last state current c) × IsKnown (step (fresh 0) (map fresh (bytes_of c)) state c).state (uuid_after current c)

    -- ---- the commands

    head_alike : (c : Command) (head : Head) → head_of c ≡ Some head → (state : State Traced) (current : Option (List ℕ)) → commands_for base some last state current c ≡ commands_for base others last state current c
    head_alike (Subvol uuid ctransid path) head h state current = refl
    head_alike (Snapshot uuid ctransid path clone_uuid clone_ctransid) head h state current = refl
    head_alike c head h state current = cc

    plain_alike : (c : Command) → is_plain c ≡ true → (state : State Traced) (current : Option (List ℕ)) → commands_for base some last state current c ≡ commands_for base others last state current c
    plain_alike (Subvol uuid ctransid path) h state current = refl
    plain_alike (Snapshot uuid ctransid path clone_uuid clone_ctransid) h state current = refl
    plain_alike (Clone path offset clone_uuid clone_ctransid clone_path clone_offset clone_len) h state current = absurd (false≢true h)
    plain_alike End h state current = refl
    plain_alike c h state current = refl

    -- What the base finds is none of the parts.
    not_ours : (parts : List (List ℕ)) → HasNone base parts → (k : Key) (s : Subvolume Traced) → find (traced_store base) k ≡ Some s → is_among parts k.uuid ≡ false
    not_ours parts none k s f = one (is_among parts k.uuid) refl
      where
        one : (b : Bool) → is_among parts k.uuid ≡ b → b ≡ false
        one true h = absurd (let at : None ≡ option_map (recelled byte_of) (Some s) = sym (none k h) ∙ ap (λ (x : Store ℕ). find x k) (sym (untraced_store base)) ∙ find-cells byte_of (traced_store base) k ∙ ap (option_map (recelled byte_of)) f in cc)
        one false h = refl

    -- The same uuids are found among both.
    same_among : (state : State Traced) (current : Option (List ℕ)) (k : Key) (s : Subvolume Traced) → IsKnown state current → find state.store k ≡ Some s → is_among some k.uuid ≡ is_among others k.uuid
    same_among state current k s known f =
        ⊎_elim (λ both. both.0 ∙ sym both.1) (λ outside. not_ours some none_some k s outside ∙ sym (not_ours others none_others k s outside)) (known.finds k s f)

    -- Own, or redirected in both or in none.
    clone_either : (state : State Traced) (p : Part Traced) (current : Option (List ℕ)) → state.part ≡ Some p → IsKnown state current → (path : List ℕ) (offset : ℕ) (uuid : List ℕ) (ctransid : ℕ) (clone_path : List ℕ) (from len : ℕ) (s : Subvolume Traced)
        → clone (fresh 0) p.subvolume (clone_source state.store p (record { uuid = uuid; ctransid = ctransid })) (bytes_eq uuid p.key.uuid) (clone_values path offset clone_path from len) ≡ Ok s
        → (is_own current uuid ≡ true) ⊎ (is_among some uuid ≡ is_among others uuid)
    clone_either state p current o known path offset uuid ctransid clone_path from len s e = one (bytes_eq uuid p.key.uuid) refl e
      where
        one : (b : Bool) → bytes_eq uuid p.key.uuid ≡ b → clone (fresh 0) p.subvolume (if b then Some p.subvolume else find state.store (record { uuid = uuid; ctransid = ctransid })) b (clone_values path offset clone_path from len) ≡ Ok s
            → (is_own current uuid ≡ true) ⊎ (is_among some uuid ≡ is_among others uuid)
        one true h q = let ours = known.part p o in inl (ap (λ (c : Option (List ℕ)). is_own c uuid) ours.1 ∙ turned uuid p.key.uuid h)
        one false h q = there (find state.store (record { uuid = uuid; ctransid = ctransid })) refl q
          where
            there : (f : Option (Subvolume Traced)) → find state.store (record { uuid = uuid; ctransid = ctransid }) ≡ f → clone (fresh 0) p.subvolume f false (clone_values path offset clone_path from len) ≡ Ok s
                → (is_own current uuid ≡ true) ⊎ (is_among some uuid ≡ is_among others uuid)
            there None f r = absurd (no_source (fresh 0) p.subvolume s false path offset clone_path from len r)
            there (Some t) f r = inr (same_among state current (record { uuid = uuid; ctransid = ctransid }) t known f)

    clone_alike : (state : State Traced) (current : Option (List ℕ)) (path : List ℕ) (offset : ℕ) (uuid : List ℕ) (ctransid : ℕ) (clone_path : List ℕ) (from len : ℕ) → (is_own current uuid ≡ true) ⊎ (is_among some uuid ≡ is_among others uuid)
        → commands_for base some last state current (Clone path offset uuid ctransid clone_path from len) ≡ commands_for base others last state current (Clone path offset uuid ctransid clone_path from len)
    clone_alike state current path offset uuid ctransid clone_path from len either =
        ⊎_elim (λ own. choose_own own) (λ same. ap (choose (is_own current uuid)) same) either
      where
        this : Command
        this = Clone path offset uuid ctransid clone_path from len

        choose : Bool → Bool → List Command
        choose own among = if own then Clone path offset last.uuid last.ctransid clone_path from len ∷ []
            else (if among && not (is_own current uuid) then flat_map (piece_commands base path offset) (pieces_of base (clone_range state (Clone path offset uuid ctransid clone_path from len)))
            else Clone path offset uuid ctransid clone_path from len ∷ [])

        choose_own : is_own current uuid ≡ true → choose (is_own current uuid) (is_among some uuid) ≡ choose (is_own current uuid) (is_among others uuid)
        choose_own own = ap (λ (b : Bool). choose b (is_among some uuid)) own ∙ sym (ap (λ (b : Bool). choose b (is_among others uuid)) own)

    -- ---- the state

    -- After an edit of the part.
    edit_known : (put : List Traced) (state : State Traced) (current : Option (List ℕ)) (c : Command) → IsKnown state current → (step_edit (fresh 0) put state c).refusal ≡ None
        → (p : Part Traced) × (state.part ≡ Some p) × (s : Subvolume Traced) × (edit_part (fresh 0) put state.store p c ≡ Ok s) × IsKnown (step_edit (fresh 0) put state c).state current
    unfolding step_edit
    edit_known put state current c known ok = one state.part refl ok
      where
        one : (o : Option (Part Traced)) → state.part ≡ o → (elim o as (λ x. Stepped Traced) [ None ↦ record { state = state; refusal = Some NoSubvolume } | Some part ↦ edited state.store part (edit_part (fresh 0) put state.store part c) ]).refusal ≡ None
            → (p : Part Traced) × (o ≡ Some p) × (s : Subvolume Traced) × (edit_part (fresh 0) put state.store p c ≡ Ok s) × IsKnown (elim o as (λ x. Stepped Traced) [ None ↦ record { state = state; refusal = Some NoSubvolume } | Some part ↦ edited state.store part (edit_part (fresh 0) put state.store part c) ]).state current
        one None o h = cc
        one (Some p) o h =
            let e = edited_taken state.store p (edit_part (fresh 0) put state.store p c) h in
            let new : Part Traced = record { key = p.key; subvolume = e.0 } in
            let after : IsKnown (record { store = state.store; part = Some new }) current = record {
              finds = known.finds;
              part = λ q is. subst (λ (x : Part Traced). InBoth x.key.uuid × (current ≡ Some x.key.uuid)) (inside is) (known.part p o);
            } in
            (p, refl, e.0, e.1, subst (λ (r : Result (Subvolume Traced) Refusal). IsKnown (edited state.store p r).state current) (sym e.1) after)
          where
            inside : {x y : Part Traced} → Some x ≡ Some y → x ≡ y
            inside {x = x} q = ap (λ o. elim o as (λ z. Part Traced) [ None ↦ x | Some z ↦ z ]) q

    plain_uuid : (current : Option (List ℕ)) (c : Command) → is_plain c ≡ true → current ≡ uuid_after current c
    plain_uuid current (Subvol uuid ctransid path) h = absurd (false≢true h)
    plain_uuid current (Snapshot uuid ctransid path clone_uuid clone_ctransid) h = absurd (false≢true h)
    plain_uuid current End h = absurd (false≢true h)
    plain_uuid current c h = refl

    after_plain : (c : Command) → is_plain c ≡ true → Alike c
    after_plain c h state current ours known ok =
        let put : List Traced = map fresh (bytes_of c) in
        let is = plain_step_edit (fresh 0) put state c h in
        let e = edit_known put state current c known (subst (λ (x : Stepped Traced). x.refusal ≡ None) is ok) in (
          plain_alike c h state current,
          subst (λ (u : Option (List ℕ)). IsKnown (step (fresh 0) put state c).state u) (plain_uuid current c h) (subst (λ (x : Stepped Traced). IsKnown x.state current) (sym is) e.4),
        )

    after_clone : (c : Command) → is_clone c ≡ true → Alike c
    unfolding step edit_part
    after_clone (Clone path offset uuid ctransid clone_path from len) h state current ours known ok =
        let e = edit_known [] state current (Clone path offset uuid ctransid clone_path from len) known ok in (
          clone_alike state current path offset uuid ctransid clone_path from len (clone_either state e.0 current e.1 known path offset uuid ctransid clone_path from len e.2 e.3),
          e.4,
        )
    after_clone c h state current ours known ok = absurd (false≢true h)

    after_end : Alike End
    unfolding step Finds
    after_end state current ours known ok = (refl, record { finds = finds_completed state current known; part = λ p e. cc })

    head_uuid : (current : Option (List ℕ)) (c : Command) (head : Head) → head_of c ≡ Some head → Some head.key.uuid ≡ uuid_after current c
    head_uuid current (Subvol uuid ctransid path) head h = sym (ap (λ (o : Option Head). elim o as (λ x. Option (List ℕ)) [ None ↦ current | Some k ↦ Some k.key.uuid ]) h)
    head_uuid current (Snapshot uuid ctransid path clone_uuid clone_ctransid) head h = sym (ap (λ (o : Option Head). elim o as (λ x. Option (List ℕ)) [ None ↦ current | Some k ↦ Some k.key.uuid ]) h)
    head_uuid current c head h = cc

    after_head : (c : Command) (head : Head) → head_of c ≡ Some head → Alike c
    unfolding step_head Finds
    after_head c head h state current ours known ok =
        let put : List Traced = map fresh (bytes_of c) in
        let done : Store Traced = completed state in
        let is = head_step (fresh 0) put state c head h in
        let r = entered_taken done head (begun done head) (subst (λ (x : Stepped Traced). x.refusal ≡ None) is ok) in
        let new : Part Traced = record { key = head.key; subvolume = r.0 } in
        let after : IsKnown (record { store = done ++ unfinished head ∷ []; part = Some new }) (Some head.key.uuid) = record {
          finds = λ k s f. finds_completed state current known k s (sym (finds_unfinished head done k) ∙ f);
          part = λ q e. subst (λ (x : Part Traced). InBoth x.key.uuid × (Some head.key.uuid ≡ Some x.key.uuid)) (inside e) (ours head h, refl);
        } in (
          head_alike c head h state current,
          subst (λ (u : Option (List ℕ)). IsKnown (step (fresh 0) put state c).state u) (head_uuid current c head h)
              (subst (λ (x : Stepped Traced). IsKnown x.state (Some head.key.uuid)) (sym (is ∙ ap (entered done head) r.1)) after),
        )
      where
        inside : {x y : Part Traced} → Some x ≡ Some y → x ≡ y
        inside {x = x} q = ap (λ o. elim o as (λ z. Part Traced) [ None ↦ x | Some z ↦ z ]) q

    one_alike : (c : Command) → Alike c
    one_alike c = by_sort {P = λ c. Alike c} after_head after_end after_clone after_plain c

    -- ---- all items

    here_ours : (o : Option Head) (hs : List Head) → AllByRecursion (λ head. InBoth head.key.uuid) (onto_heads o hs) → ((head : Head) → o ≡ Some head → InBoth head.key.uuid) × AllByRecursion (λ head. InBoth head.key.uuid) hs
    here_ours None hs all = (λ head e. cc, all)
    here_ours (Some h) hs all = (λ head e. subst (λ (o : Option Head). elim o as (λ x. Type 0) [ None ↦ Unit {0} | Some x ↦ InBoth x.key.uuid ]) e all.0, all.1)

    -- What stands for items whose parts are among both lists is the same by either.
    pub composed_alike : (items : List Item) (state end : State Traced) (current : Option (List ℕ)) → AllByRecursion (λ head. InBoth head.key.uuid) (heads items) → IsKnown state current → AreTaken state items end
        → composed_from base some last state current items ≡ composed_from base others last state current items
    unfolding composed_from heads_of
    composed_alike [] state end current ours known t = refl
    composed_alike (item ∷ items) state end current ours known t =
        let here = here_ours (head_of item.command) (heads items) ours in
        let a = one_alike item.command state current here.0 known t.0 in
        ap₂ (λ (x y : List Command). x ++ y) a.0 (composed_alike items (traced_step state item).state end (uuid_after current item.command) here.1 a.1 t.1)
