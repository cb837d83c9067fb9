-- Composed commands over any cells, received anywhere: from the first head of consecutive parts on,
-- and as one whole run in every store that agrees with the base on the outside keys.
use Rattle.std.specs.Prelude.{◌≡◌, ◌≢◌, ℕ, Bool, true, false, List, [], ◌∷◌, ◌++◌, Option, None, Some, Ok}
use Rattle.std.specs.List.{AllByRecursion}
use Rattle.std.specs.Option.{option_map}
use Rattle.std.proofs.Common.{refl, sym, ap, ap₂, subst, ◌∙◌}
use Rattle.std.proofs.lemmas.Bool.{false≢true}
use Rattle.send_model.specs.Refusal.{NoSubvolume, NoParent}
use Rattle.send_model.specs.Chain.{found}
use Rattle.send_model.specs.Command.{Command, Subvol, Snapshot, Clone, End}
use Rattle.send_model.specs.Path.{is_name}
use Rattle.send_model.specs.Reading.{Item}
use Rattle.send_model.specs.Subvolume.{Subvolume, root_alone}
use Rattle.send_model.specs.Store.{Key, Head, head_of, Store, State, Stepped, step, step_head, has_name, has_uuid, find, completed, begun, start_from, entered, unfinished}
use Rattle.send_model.specs.Receive.{start_of}
use Rattle.send_model.specs.Order.{onto_heads, heads_of, commands_of, EachFollows}
use Rattle.send_model.specs.Outside.{IsAmong, is_among, keys_named, all_keys_named}
use Rattle.send_model.specs.Counts.{is_clone}
use Rattle.send_model.specs.Provenance.{uuid_after}
use Rattle.send_model.specs.Composed.{head_command}
use Rattle.send_model.specs.Cells.{recelled_result, recelled_state, recelled_step}
use Rattle.send_model.proofs.Sorts.{by_sort, is_plain, plain_step_without, head_step, same_inside}
use Rattle.send_model.proofs.Fuel.{ok_same}
use Rattle.send_model.proofs.Runs.{Takes, step_of}
use Rattle.send_model.proofs.Stores.{key_of_new, finds_unfinished}
use Rattle.send_model.proofs.Merging.{FollowsFrom, last_key, Stands, stands_completed, begun_begins, entered_taken}
use Rattle.send_model.proofs.Composing.{follows_from, received_anywhere}
use Rattle.send_model.proofs.CellSteps.{find-cells, completed-cells, start_cells}
use Rattle.send_model.proofs.CellClones.{all_steps-cells}
use Rattle.send_model.proofs.ElementLaws.{all_rest}
use Rattle.send_model.proofs.Elsewhere.{Agrees, AreApart}
use Rattle.send_model.proofs.MergingClones.{head_uuid}
use Rattle.send_model.proofs.MergingAny.{Celled, does, bytes_in, ITakes, stands_for, no_commands, Keeps, AreFine, InsteadLaw, IsKept, OurHeads, OutsideKeys, IsMerged, begun_kept, cloneless, merges_any}

module _ {C : Type 0} (k : Celled C) where
  -- What is taken with bytes alone is taken with cells.
  pub takes_cells : (items : List Item) (state : State C) (end : State ℕ) → Takes (recelled_state k.byte_in state) (commands_of items) end → (last : State C) × ITakes k state items last × (recelled_state k.byte_in last ≡ end)
  takes_cells [] state end t = (state, refl, t)
  takes_cells (item ∷ items) state end t =
      let next : Stepped C = does k state item in
      let same : step_of (recelled_state k.byte_in state) item.command ≡ recelled_step k.byte_in next =
      ap₂ (λ (z : ℕ) (put : List ℕ). step z put (recelled_state k.byte_in state) item.command) (sym k.is_zero) (sym (k.same_bytes item)) ∙ all_steps-cells k.byte_in item.command k.zero_cell (k.cells item) state in
      let t' : ((recelled_step k.byte_in next).refusal ≡ None) × Takes (recelled_step k.byte_in next).state (commands_of items) end = subst (λ x. (x.refusal ≡ None) × Takes x.state (commands_of items) end) same t in
      let more = takes_cells items next.state end t'.1 in
      (more.0, (t'.0, more.1), more.2)

  module _ (base : Store ℕ) (start : Store C) (keys : List Key) (Good : Subvolume C → Type 0) (ItemGood : Item → Type 0) (keeps : Keeps k base start keys Good ItemGood) (root_good : Good root_alone)
      (instead : State C → Command → List Command) (parts : List (List ℕ)) (last : Key) (Fine : Command → Type 0) where
    -- The base has none of the parts.
    abbrev pub HasNone : Type 0
    HasNone = (q : Key) → is_among parts q.uuid ≡ true → find base q ≡ None

    abbrev Outside : List Key → Type 0
    Outside ks = OutsideKeys k base start keys Good ItemGood keeps instead parts last Fine ks

    abbrev Ours : List Head → Type 0
    Ours hs = OurHeads k base start keys Good ItemGood keeps instead parts last Fine hs

    abbrev Kept : Store C → Type 0
    Kept store = IsKept k base start keys Good ItemGood keeps instead parts last Fine store

    abbrev Merges : List Head → List Command → Key → Subvolume C → State C → Type 0
    Merges hs cs key s end = IsMerged k base start keys Good ItemGood keeps instead parts last Fine hs cs key s end

    abbrev pub Fines : Type 0
    Fines = AreFine k base start keys Good ItemGood keeps instead parts last Fine

    abbrev pub Law : Type 0
    Law = InsteadLaw k base start keys Good ItemGood keeps instead parts last Fine

    abbrev stands : State C → Option (List ℕ) → List Item → List Command
    stands state current items = stands_for k instead parts last state current items

    -- ---- what a part starts from

    start_bytes : (parent : Option Key) (s : Subvolume C) → start_from start parent ≡ Ok s → start_from base parent ≡ Ok (bytes_in k s)
    start_bytes parent s e = ap (λ (st : Store ℕ). start_from st parent) (sym keeps.start_is) ∙ start_cells k.byte_in start parent ∙ ap (recelled_result k.byte_in) e

    first_outside : (c : Command) (head : Head) → head_of c ≡ Some head → (more : List Key) → Outside (keys_named c ++ more) → Outside (all_keys_named (head_command head.name head.key head.parent ∷ []))
    first_outside (Subvol uuid ctransid path) head h more out = subst (λ (x : Head). Outside (all_keys_named (head_command x.name x.key x.parent ∷ []))) (same_inside h) tt
    first_outside (Snapshot uuid ctransid path clone_uuid clone_ctransid) head h more out = subst (λ (x : Head). Outside (all_keys_named (head_command x.name x.key x.parent ∷ []))) (same_inside h) (out.0, tt)
    first_outside c head h more out = cc

    parent_outside : HasNone → (name : List ℕ) (key : Key) (parent : Option Key) (s : Subvolume ℕ) → start_from base parent ≡ Ok s → Outside (all_keys_named (head_command name key parent ∷ []))
        → AllByRecursion (λ q. IsAmong q keys) (all_keys_named (head_command name key parent ∷ []))
    parent_outside no_parts name key None s from out = tt
    parent_outside no_parts name key (Some q) s from out = one (is_among parts q.uuid) refl
      where
        one : (b : Bool) → is_among parts q.uuid ≡ b → AllByRecursion (λ x. IsAmong x keys) (q ∷ [])
        one true e = absurd (let at : found None NoParent ≡ Ok s = subst (λ (o : Option (Subvolume ℕ)). found o NoParent ≡ Ok s) (no_parts q e) from in cc)
        one false e = (out.0 e, tt)

    start_good : (name : List ℕ) (key : Key) (parent : Option Key) (s : Subvolume C) → start_from start parent ≡ Ok s
        → AllByRecursion (λ q. IsAmong q keys) (all_keys_named (head_command name key parent ∷ [])) → Good s
    start_good name key None s from named = subst Good (ok_same from) root_good
    start_good name key (Some q) s from named = one (find start q) refl from
      where
        one : (o : Option (Subvolume C)) → find start q ≡ o → found o NoParent ≡ Ok s → Good s
        one None e f = cc
        one (Some x) e f = subst Good (ok_same f) (keeps.found q x named.0 e)

    base_kept : HasNone → Kept start
    base_kept no_parts = record {
      outside = λ q n. refl;
      inside = λ q t i f. absurd (none q t (no_parts q i) f);
    }
      where
        none : (q : Key) (t : Subvolume C) → find base q ≡ None → find start q ≡ Some t → ⊥
        none q t e f = let at : None ≡ option_map (bytes_in k) (Some t) = sym e ∙ ap (λ (x : Store ℕ). find x q) (sym keeps.start_is) ∙ find-cells k.byte_in start q ∙ ap (option_map (bytes_in k)) f in cc

    -- ---- to the first head

    pub record Comes (items : List Item) (commands : List Command) (end : State C) : Type 0 where
      pub first : Head
      pub rest : List Head
      pub heads_are : heads_of (commands_of items) ≡ first ∷ rest
      pub begins : Subvolume C
      pub from : start_from base first.parent ≡ Ok (bytes_in k begins)
      pub merged : Merges rest commands first.key begins end
      pub first_named : AllByRecursion (λ q. IsAmong q keys) (all_keys_named (head_command first.name first.key first.parent ∷ []))

    abbrev Arrives : List Item → Type 0
    Arrives items = (current : Option (List ℕ)) (end : State C) → AllByRecursion ItemGood items → heads_of (commands_of items) ≢ [] → EachFollows (heads_of (commands_of items)) → Ours (heads_of (commands_of items)) → Outside (all_keys_named (commands_of items))
        → ITakes k (start_of start) items end → Comes items (stands (start_of start) current items) end

    module _ (apart : AreApart keys last) (others : Fines) (law : Law) (no_parts : HasNone) where
      arrives_head : (item : Item) (head : Head) → head_of item.command ≡ Some head → (items : List Item) → Arrives (item ∷ items)
      unfolding heads_of step_head completed
      arrives_head item head h items current end goods some f ours out t =
          let c : Command = item.command in
          let σ : State C = start_of start in
          let hs : List Head = heads_of (commands_of items) in
          let put : List C = k.cells item in
          let follows : FollowsFrom head.key hs = follows_from head hs (subst (λ (o : Option Head). EachFollows (onto_heads o hs)) h f) in
          let our : Ours (head ∷ hs) = subst (λ (o : Option Head). Ours (onto_heads o hs)) h ours in
          let is_head : step k.zero_cell put σ c ≡ entered start head (begun start head) = head_step k.zero_cell put σ c head h in
          let ok = entered_taken start head (begun start head) (subst (λ (x : Stepped C). x.refusal ≡ None) is_head t.0) in
          let b = begun_begins start head ok.0 ok.1 in
          let from = start_bytes head.parent ok.0 b.from in
          let named = parent_outside no_parts head.name head.key head.parent (bytes_in k ok.0) from (first_outside c head h (all_keys_named (commands_of items)) out) in
          let new : Store C = start ++ unfinished head ∷ [] in
          let next : State C = record { store = new; part = Some (record { key = head.key; subvolume = ok.0 }) } in
          let state_is : (step k.zero_cell put σ c).state ≡ next = ap (λ (x : Stepped C). x.state) (is_head ∙ ap (entered start head) ok.1) in
          let m = merges_any k base start keys Good ItemGood keeps instead parts last Fine apart others law items new (Some (record { key = head.key; subvolume = ok.0 })) (Some head.key.uuid) head.key ok.0 end goods.1 follows our.1
          (all_rest (λ q. is_among parts q.uuid ≡ false → IsAmong q keys) (keys_named c) (all_keys_named (commands_of items)) out)
          (record { kept = begun_kept k base start keys Good ItemGood keeps instead parts last Fine head start (base_kept no_parts); good = start_good head.name head.key head.parent ok.0 b.from named; stands = (refl, key_of_new head start b.new_uuid); ours = our.0; current_is = refl })
          (subst (λ (x : State C). ITakes k x items end) state_is t.1) in
          let M : List Command → State C → Option (List ℕ) → Type 0 = λ ds st cur. Merges hs (ds ++ stands st cur items) head.key ok.0 end in
          record {
            first = head;
            rest = hs;
            heads_are = ap (λ (o : Option Head). onto_heads o hs) h;
            begins = ok.0;
            from = from;
            merged = subst (λ (ds : List Command). M ds (step k.zero_cell put σ c).state (uuid_after current c)) (sym (no_commands instead parts last σ current c head h))
                (subst (λ (st : State C). M [] st (uuid_after current c)) (sym state_is)
                (subst (λ (cur : Option (List ℕ)). M [] next cur) (sym (head_uuid current c head h)) m));
            first_named = named;
          }

      arrives_end : (item : Item) (items : List Item) → Arrives items → Arrives (record item { command = End } ∷ items)
      unfolding heads_of step completed
      arrives_end item items ih current end goods some f ours out t =
          let r = ih None end goods.1 some f ours out t.1 in
          record { first = r.first; rest = r.rest; heads_are = r.heads_are; begins = r.begins; from = r.from; merged = r.merged; first_named = r.first_named }

      arrives_plain : (item : Item) → is_plain item.command ≡ true → (items : List Item) → Arrives (item ∷ items)
      arrives_plain item h items current end goods some f ours out t = absurd (let e : Some NoSubvolume ≡ None = sym (plain_step_without k.zero_cell (k.cells item) start item.command h) ∙ t.0 in cc)

      arrives_clone : (item : Item) (c : Command) → is_clone c ≡ true → (items : List Item) → Arrives (record item { command = c } ∷ items)
      arrives_clone item (Clone path offset uuid ctransid clone_path from len) h items current end goods some f ours out t =
          let own : Item = record item { command = Clone path offset uuid ctransid clone_path from len } in
          absurd (let e : Some NoSubvolume ≡ None = sym (cloneless k base start keys Good ItemGood keeps instead parts last Fine (k.cells own) start path offset uuid ctransid clone_path from len) ∙ t.0 in cc)
      arrives_clone item c h items current end goods some f ours out t = absurd (false≢true h)

      pub comes_any : (items : List Item) → Arrives items
      unfolding heads_of
      comes_any [] = λ current end goods some f ours out t. absurd (some refl)
      comes_any (item ∷ items) =
          by_sort {P = λ c. Arrives items → Arrives (record item { command = c } ∷ items)} (λ c head h ih. arrives_head (record item { command = c }) head h items) (arrives_end item items) (λ c h ih. arrives_clone item c h items)
          (λ c h ih. arrives_plain (record item { command = c }) h items) item.command (comes_any items)

    -- ---- anywhere

    start_there : (t : Store ℕ) → Agrees base keys t → (name : List ℕ) (key : Key) (parent : Option Key) (s : Subvolume ℕ) → start_from base parent ≡ Ok s
        → AllByRecursion (λ q. IsAmong q keys) (all_keys_named (head_command name key parent ∷ [])) → start_from t parent ≡ Ok s
    start_there t agrees name key None s from named = from
    start_there t agrees name key (Some q) s from named = subst (λ (o : Option (Subvolume ℕ)). found o NoParent ≡ Ok s) (sym (agrees q named.0)) from

    ended_with : (key : Key) (s : Subvolume C) (τ : State C) (end : State ℕ) → recelled_state k.byte_in τ ≡ end → Stands τ.store τ.part key s → find (completed end) key ≡ Some (bytes_in k s)
    ended_with key s τ end e st =
        ap (λ (x : State ℕ). find (completed x) key) (sym e) ∙ ap (λ (x : Store ℕ). find x key) (completed-cells k.byte_in τ)
        ∙ find-cells k.byte_in (completed τ) key ∙ ap (option_map (bytes_in k)) (stands_completed τ.store τ.part key s st)

    -- What stands for items that were received into the base: one part that every store which
    -- agrees with it accepts.
    pub record ComposesAny (items : List Item) (commands : List Command) (name : List ℕ) (end : State ℕ) : Type 0 where
      pub first : Head
      pub rest : List Head
      pub heads_are : heads_of (commands_of items) ≡ first ∷ rest
      pub subvolume : Subvolume ℕ
      pub subvolume_is : find (completed end) (last_key first.key rest) ≡ Some subvolume
      pub taken : (t : Store ℕ) → Agrees base keys t → has_name name t ≡ false → has_uuid last.uuid t ≡ false
          → Takes (start_of t) (head_command name last first.parent ∷ (commands ++ End ∷ [])) (record { store = t ++ record { name = name; key = last; parent = first.parent; contents = Some subvolume } ∷ []; part = None })
      pub first_named : AllByRecursion (λ q. IsAmong q keys) (all_keys_named (head_command first.name first.key first.parent ∷ []))
      pub fine : AllByRecursion Fine commands

    pub composes_any : AreApart keys last → Fines → Law → HasNone → (items : List Item) (name : List ℕ) (end : State ℕ) → AllByRecursion ItemGood items → is_name name ≡ true
        → heads_of (commands_of items) ≢ [] → EachFollows (heads_of (commands_of items)) → Ours (heads_of (commands_of items)) → Outside (all_keys_named (commands_of items)) → Takes (start_of base) (commands_of items) end
        → ComposesAny items (stands (start_of start) None items) name end
    composes_any apart others law no_parts items name end goods good some f ours out taken =
        let τ0 : State C = start_of start in
        let traced = takes_cells items τ0 end (subst (λ (st : Store ℕ). Takes (start_of st) (commands_of items) end) (sym keeps.start_is) taken) in
        let w = comes_any apart others law no_parts items None traced.0 goods some f ours out traced.1 in
        let edits : List Command = stands τ0 None items in
        let head : Head = record { name = name; key = last; parent = w.first.parent } in
        record {
          first = w.first;
          rest = w.rest;
          heads_are = w.heads_are;
          subvolume = bytes_in k w.merged.last_one;
          subvolume_is = ended_with (last_key w.first.key w.rest) w.merged.last_one traced.0 end traced.2 w.merged.stands;
          taken = λ t agrees no_name no_uuid.
              received_anywhere head (bytes_in k w.begins) (bytes_in k w.merged.last_one) edits t good no_name no_uuid (start_there t agrees w.first.name w.first.key w.first.parent (bytes_in k w.begins) w.from w.first_named)
              (w.merged.merged (t ++ unfinished head ∷ []) (λ q a. finds_unfinished head t q ∙ agrees q a));
          first_named = w.first_named;
          fine = w.merged.fine;
        }
