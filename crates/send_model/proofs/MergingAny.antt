-- The main induction over any cells, and for whatever stands for a redirected clone: what stands
-- for the items of consecutive parts is taken, one after the other, in one part over any store that
-- finds what the base finds under the outside keys. It is given that what stands for a redirected
-- clone does what the clone does. One run over cells is followed; what is taken elsewhere is built
-- from it.
use Rattle.std.specs.Prelude.{◌≡◌, ℕ, Bool, true, false, List, [], ◌∷◌, ◌++◌, map, Option, None, Some, Result, Ok, Err, is_some, if◌then◌else◌}
use Rattle.std.specs.List.{AllByRecursion}
use Rattle.std.specs.Option.{option_map}
use Rattle.std.specs.Str.{bytes_eq}
use Rattle.std.proofs.Common.{refl, sym, ap, ap₂, subst, ◌∙◌, inl, inr}
use Rattle.std.proofs.lemmas.Bool.{false≢true}
use Rattle.send_model.specs.Refusal.{Refusal, NoSubvolume, BadPath, NoSource}
use Rattle.send_model.specs.Chain.{◌>>=◌, ◌>>◌, require, found}
use Rattle.send_model.specs.Command.{Command, Subvol, Snapshot, Clone, End}
use Rattle.send_model.specs.Path.{path_names}
use Rattle.send_model.specs.Subvolume.{Subvolume}
use Rattle.send_model.specs.Edit.{overwritten, change_inode, set_cells, edit}
use Rattle.send_model.specs.Clone.{Cloned, cloned, clone, clone_values}
use Rattle.send_model.specs.Store.{Key, Head, head_of, Store, Part, State, Stepped, step, step_head, step_edit, edit_part, find, with_contents, completed, begun, entered, edited, unfinished, clone_source}
use Rattle.send_model.specs.Receive.{bytes_of}
use Rattle.send_model.specs.Reading.{Item}
use Rattle.send_model.specs.Order.{onto_heads, heads_of, commands_of}
use Rattle.send_model.specs.Outside.{IsAmong, is_among, keys_named, all_keys_named}
use Rattle.send_model.specs.Counts.{is_clone}
use Rattle.send_model.specs.Provenance.{uuid_after, clone_range}
use Rattle.send_model.specs.Composed.{commands_by, list_by}
use Rattle.send_model.specs.Cells.{recelled, recelled_store, recelled_result}
use Rattle.send_model.proofs.Sorts.{by_sort, is_plain, plain_step, plain_step_without, head_step, plain_is_no_head}
use Rattle.send_model.proofs.Runs.{Takes, Takes-append}
use Rattle.send_model.proofs.Fuel.{bound, ok_same}
use Rattle.send_model.proofs.Stores.{bytes_eq_same, key_with, key_of_new, finds_one_of, finds_other, finds_unfinished}
use Rattle.send_model.proofs.Merging.{FollowsFrom, last_key, Stands, stands_completed, begun_begins, entered_taken, edited_taken, from_parent, plain_taken}
use Rattle.send_model.proofs.CellEdits.{edit-cells}
use Rattle.send_model.proofs.CellSteps.{find-cells}
use Rattle.send_model.proofs.CellClones.{clone-cells}
use Rattle.send_model.proofs.ElementLaws.{all_both, all_rest}
use Rattle.send_model.proofs.Elsewhere.{Agrees, AreApart}
use Rattle.send_model.proofs.MergingClones.{plain_uuid, head_uuid, turned_true, turned_false}

-- ---- what stands for heads and plain edits

module _ {S : Type 0} (instead : S → Command → List Command) (parts : List (List ℕ)) (last : Key) where
  pub no_commands : (state : S) (current : Option (List ℕ)) (c : Command) (head : Head) → head_of c ≡ Some head → commands_by instead parts last state current c ≡ []
  no_commands state current (Subvol uuid ctransid path) head h = refl
  no_commands state current (Snapshot uuid ctransid path clone_uuid clone_ctransid) head h = refl
  no_commands state current c head h = cc

  pub itself : (state : S) (current : Option (List ℕ)) (c : Command) → is_plain c ≡ true → commands_by instead parts last state current c ≡ c ∷ []
  itself state current (Subvol uuid ctransid path) h = absurd (false≢true h)
  itself state current (Snapshot uuid ctransid path clone_uuid clone_ctransid) h = absurd (false≢true h)
  itself state current (Clone path offset clone_uuid clone_ctransid clone_path clone_offset clone_len) h = absurd (false≢true h)
  itself state current End h = absurd (false≢true h)
  itself state current c h = refl

pub sourceless : {C : Type 0} (x : C) (s next : Subvolume C) (own : Bool) (path : List ℕ) (offset : ℕ) (clone_path : List ℕ) (from len : ℕ) → clone x s None own (clone_values path offset clone_path from len) ≡ Ok next → ⊥
unfolding clone cloned
sourceless {C} x s next own path offset clone_path from len e = one (is_some (path_names path)) (is_some (path_names clone_path)) e
  where
    one : (a b : Bool) → ((require a BadPath >> (require b BadPath >> ◌>>=◌ {A = Subvolume C} {B = Cloned C} (found None NoSource) (λ u. Err NoSource))) >>= λ range. Ok (change_inode range.ino (set_cells (overwritten x offset range.cells)) s)) ≡ Ok next → ⊥
    one true true h = cc
    one true false h = cc
    one false b h = cc

-- ---- cells, and what an item puts

-- A zero cell, the byte of each cell, and the cells that an item writes, which have its bytes.
pub record Celled (C : Type 0) : Type 0 where
  pub zero_cell : C
  pub byte_in : C → ℕ
  pub is_zero : byte_in zero_cell ≡ 0
  pub cells : Item → List C
  pub same_bytes : (item : Item) → map byte_in (cells item) ≡ bytes_of item.command

module _ {C : Type 0} (k : Celled C) where
  abbrev pub does : State C → Item → Stepped C
  does state item = step k.zero_cell (k.cells item) state item.command

  abbrev pub after : State C → Item → State C
  after state item = (does state item).state

  abbrev pub bytes_in : Subvolume C → Subvolume ℕ
  bytes_in s = recelled k.byte_in s

  -- All items are taken, one after the other.
  abbrev pub ITakes : State C → List Item → State C → Type 0
  ITakes state [] end = state ≡ end
  ITakes state (item ∷ items) end = ((does state item).refusal ≡ None) × ITakes (after state item) items end

  abbrev pub part_with : Store C → Key → Subvolume C → State C
  part_with store key s = record { store = store; part = Some (record { key = key; subvolume = s }) }

  -- The one part elsewhere, as far as a part here has come.
  abbrev pub elsewhere : Key → Store ℕ → Subvolume C → State ℕ
  elsewhere last u s = record { store = u; part = Some (record { key = last; subvolume = bytes_in s }) }

  module _ (instead : State C → Command → List Command) (parts : List (List ℕ)) (last : Key) where
    -- What stands for items, as `list_by` has it.
    abbrev pub stands_for : State C → Option (List ℕ) → List Item → List Command
    stands_for state current [] = []
    stands_for state current (item ∷ items) = commands_by instead parts last state current item.command ++ stands_for (after state item) (uuid_after current item.command) items

    pub listed : (items : List Item) (state : State C) (current : Option (List ℕ)) → list_by after (commands_by instead parts last) state current items ≡ stands_for state current items
    unfolding list_by
    listed [] state current = refl
    listed (item ∷ items) state current = ap (λ (cs : List Command). commands_by instead parts last state current item.command ++ cs) (listed items (after state item) (uuid_after current item.command))

  -- What is known of the cells of a subvolume, of a base with cells, and of each item; and that
  -- edits, clones and the base keep it.
  pub record Keeps (base : Store ℕ) (start : Store C) (keys : List Key) (Good : Subvolume C → Type 0) (ItemGood : Item → Type 0) : Type 0 where
    pub start_is : recelled_store k.byte_in start ≡ base
    pub found : (key : Key) (s : Subvolume C) → IsAmong key keys → find start key ≡ Some s → Good s
    pub edits : (item : Item) (s t : Subvolume C) → ItemGood item → Good s → edit k.zero_cell (k.cells item) item.command s ≡ Ok t → Good t
    pub clones : (s : Subvolume C) (source : Option (Subvolume C)) (own : Bool) (path : List ℕ) (offset : ℕ) (clone_path : List ℕ) (from len : ℕ) (t : Subvolume C)
        → Good s → ((v : Subvolume C) → source ≡ Some v → Good v) → clone k.zero_cell s source own (clone_values path offset clone_path from len) ≡ Ok t → Good t

  module _ (base : Store ℕ) (start : Store C) (keys : List Key) (Good : Subvolume C → Type 0) (ItemGood : Item → Type 0) (keeps : Keeps base start keys Good ItemGood)
      (instead : State C → Command → List Command) (parts : List (List ℕ)) (last : Key) (Fine : Command → Type 0) where
    -- The law of what stands for redirected clones: it does what the clone does, in every store
    -- that agrees, and is fine.
    pub record DoesSame (store : Store C) (key : Key) (s : Subvolume C) (path : List ℕ) (offset : ℕ) (uuid : List ℕ) (ctransid : ℕ) (clone_path : List ℕ) (from len : ℕ) (next : Subvolume C) : Type 0 where
      pub taken : (u : Store ℕ) → Agrees base keys u → Takes (elsewhere last u s) (instead (part_with store key s) (Clone path offset uuid ctransid clone_path from len)) (elsewhere last u next)
      pub fine : AllByRecursion Fine (instead (part_with store key s) (Clone path offset uuid ctransid clone_path from len))

    -- So is what stands for the other commands.
    pub record AreFine : Type 0 where
      pub plain : (item : Item) → ItemGood item → is_plain item.command ≡ true → Fine item.command
      pub own : (item : Item) (path : List ℕ) (offset : ℕ) (uuid : List ℕ) (ctransid : ℕ) (clone_path : List ℕ) (from len : ℕ) → ItemGood (record item { command = Clone path offset uuid ctransid clone_path from len })
          → Fine (Clone path offset last.uuid last.ctransid clone_path from len)
      pub outside : (item : Item) (path : List ℕ) (offset : ℕ) (uuid : List ℕ) (ctransid : ℕ) (clone_path : List ℕ) (from len : ℕ) → ItemGood (record item { command = Clone path offset uuid ctransid clone_path from len })
          → IsAmong (record { uuid = uuid; ctransid = ctransid }) keys → Fine (Clone path offset uuid ctransid clone_path from len)

    abbrev pub InsteadLaw : Type 0
    InsteadLaw = (item : Item) (store : Store C) (key : Key) (s source : Subvolume C) (path : List ℕ) (offset : ℕ) (uuid : List ℕ) (ctransid : ℕ) (clone_path : List ℕ) (from len : ℕ) (range : Cloned C)
        → ItemGood (record item { command = Clone path offset uuid ctransid clone_path from len }) → Good s → Good source → cloned s (Some source) false (clone_values path offset clone_path from len) ≡ Ok range
        → clone_range (part_with store key s) (Clone path offset uuid ctransid clone_path from len) ≡ range.cells
        → DoesSame store key s path offset uuid ctransid clone_path from len (change_inode range.ino (set_cells (overwritten k.zero_cell offset range.cells)) s)

    -- ---- what is said of a store

    pub record IsKept (store : Store C) : Type 0 where
      pub outside : (q : Key) → is_among parts q.uuid ≡ false → find store q ≡ find start q
      pub inside : (q : Key) (t : Subvolume C) → is_among parts q.uuid ≡ true → find store q ≡ Some t → Good t

    abbrev pub IsNow : Option (Part C) → Option (List ℕ) → Key → Type 0
    IsNow None current key = Unit {0}
    IsNow (Some part) current key = current ≡ Some key.uuid

    abbrev pub OurHeads : List Head → Type 0
    OurHeads heads = AllByRecursion (λ head. is_among parts head.key.uuid ≡ true) heads

    abbrev pub OutsideKeys : List Key → Type 0
    OutsideKeys ks = AllByRecursion (λ q. is_among parts q.uuid ≡ false → IsAmong q keys) ks

    pub record ComesTo (store : Store C) (part : Option (Part C)) (current : Option (List ℕ)) (key : Key) (s : Subvolume C) : Type 0 where
      pub kept : IsKept store
      pub good : Good s
      pub stands : Stands store part key s
      pub ours : is_among parts key.uuid ≡ true
      pub current_is : IsNow part current key

    pub record IsMerged (heads : List Head) (commands : List Command) (key : Key) (s : Subvolume C) (end : State C) : Type 0 where
      pub last_one : Subvolume C
      pub stands : Stands end.store end.part (last_key key heads) last_one
      pub merged : (u : Store ℕ) → Agrees base keys u → Takes (elsewhere last u s) commands (elsewhere last u last_one)
      pub fine : AllByRecursion Fine commands

    abbrev pub Merge : List Item → Type 0
    Merge items = (store : Store C) (part : Option (Part C)) (current : Option (List ℕ)) (key : Key) (s : Subvolume C) (end : State C)
        → AllByRecursion ItemGood items → FollowsFrom key (heads_of (commands_of items)) → OurHeads (heads_of (commands_of items)) → OutsideKeys (all_keys_named (commands_of items)) → ComesTo store part current key s
        → ITakes (record { store = store; part = part }) items end
        → IsMerged (heads_of (commands_of items)) (stands_for instead parts last (record { store = store; part = part }) current items) key s end

    merge_nothing : Merge []
    unfolding heads_of
    merge_nothing store part current key s end goods f ours out fl e = record {
      last_one = s;
      stands = subst (λ (x : State C). Stands x.store x.part key s) e fl.stands;
      merged = λ u agrees. refl;
      fine = tt;
    }

    -- ---- END and heads

    kept_on : (store : Store C) (part : Option (Part C)) (key : Key) (s : Subvolume C) → IsKept store → Good s → is_among parts key.uuid ≡ true → Stands store part key s → IsKept (completed (record { store = store; part = part }))
    unfolding completed
    kept_on store None key s c h o st = c
    kept_on store (Some part) key s c h o (e, w) = subst (λ (p : Part C). IsKept (with_contents p.key.uuid p.subvolume store)) (sym e) (record {
      outside = λ q n. finds_other key.uuid s store q (λ same. false≢true (sym n ∙ ap (is_among parts) same ∙ o)) ∙ c.outside q n;
      inside = λ q t i f. elim (finds_one_of key.uuid s store q t f) [
        | inl same ↦ subst Good (sym same) h
        | inr before ↦ c.inside q t i before
      ];
    })

    pub begun_kept : (head : Head) (store : Store C) → IsKept store → IsKept (store ++ unfinished head ∷ [])
    begun_kept head store c = record {
      outside = λ q n. finds_unfinished head store q ∙ c.outside q n;
      inside = λ q t i f. c.inside q t i (sym (finds_unfinished head store q) ∙ f);
    }

    on_end : (item : Item) (items : List Item) → Merge items → Merge (record item { command = End } ∷ items)
    unfolding heads_of step
    on_end item items ih store part current key s end goods f ours out fl t =
        ih (completed (record { store = store; part = part })) None None key s end goods.1 f ours out
        (record { kept = kept_on store part key s fl.kept fl.good fl.ours fl.stands; good = fl.good; stands = stands_completed store part key s fl.stands; ours = fl.ours; current_is = tt }) t.1

    on_head : (item : Item) (head : Head) → head_of item.command ≡ Some head → (items : List Item) → Merge items → Merge (item ∷ items)
    unfolding heads_of step_head
    on_head item head h items ih store part current key s end goods f ours out fl t =
        let c : Command = item.command in
        let σ : State C = record { store = store; part = part } in
        let hs : List Head = heads_of (commands_of items) in
        let put : List C = k.cells item in
        let follows : FollowsFrom key (head ∷ hs) = subst (λ (o : Option Head). FollowsFrom key (onto_heads o hs)) h f in
        let our : OurHeads (head ∷ hs) = subst (λ (o : Option Head). OurHeads (onto_heads o hs)) h ours in
        let done : Store C = completed σ in
        let is_head : step k.zero_cell put σ c ≡ entered done head (begun done head) = head_step k.zero_cell put σ c head h in
        let no_refusal : (entered done head (begun done head)).refusal ≡ None = subst (λ (x : Stepped C). x.refusal ≡ None) is_head t.0 in
        let ok = entered_taken done head (begun done head) no_refusal in
        let b = begun_begins done head ok.0 ok.1 in
        let same : ok.0 ≡ s = from_parent done key head.parent ok.0 s follows.0 (stands_completed store part key s fl.stands) b.from in
        let begun_is : begun done head ≡ Ok s = ok.1 ∙ (let of : Subvolume C → Result (Subvolume C) Refusal = λ x. Ok x in ap of same) in
        let new : Store C = done ++ unfinished head ∷ [] in
        let next : State C = part_with new head.key s in
        let state_is : (step k.zero_cell put σ c).state ≡ next = ap (λ (x : Stepped C). x.state) (is_head ∙ ap (entered done head) begun_is) in
        let m = ih new (Some (record { key = head.key; subvolume = s })) (Some head.key.uuid) head.key s end goods.1 follows.1 our.1 (all_rest (λ q. is_among parts q.uuid ≡ false → IsAmong q keys) (keys_named c) (all_keys_named (commands_of items)) out)
        (record { kept = begun_kept head done (kept_on store part key s fl.kept fl.good fl.ours fl.stands); good = fl.good; stands = (refl, key_of_new head done b.new_uuid); ours = our.0; current_is = refl })
        (subst (λ (x : State C). ITakes x items end) state_is t.1) in
        let M : Option Head → List Command → State C → Option (List ℕ) → Type 0 = λ o ds st cur. IsMerged (onto_heads o hs) (ds ++ stands_for instead parts last st cur items) key s end in
        let at : M (Some head) [] next (Some head.key.uuid) = record { last_one = m.last_one; stands = m.stands; merged = m.merged; fine = m.fine } in
        subst (λ (o : Option Head). M o (commands_by instead parts last σ current c) (step k.zero_cell put σ c).state (uuid_after current c)) (sym h)
        (subst (λ (ds : List Command). M (Some head) ds (step k.zero_cell put σ c).state (uuid_after current c)) (sym (no_commands instead parts last σ current c head h))
        (subst (λ (st : State C). M (Some head) [] st (uuid_after current c)) (sym state_is)
        (subst (λ (cur : Option (List ℕ)). M (Some head) [] next cur) (sym (head_uuid current c head h)) at)))

    -- ---- edits

    abbrev pub InThePart : Item → List Item → Type 0
    InThePart item items = (store : Store C) (key : Key) (s : Subvolume C) (end : State C)
        → AllByRecursion ItemGood (item ∷ items) → FollowsFrom key (heads_of (commands_of items)) → OurHeads (heads_of (commands_of items)) → OutsideKeys (keys_named item.command ++ all_keys_named (commands_of items))
        → IsKept store → Good s → is_among parts key.uuid ≡ true → key_with key.uuid store ≡ Some key
        → ITakes (part_with store key s) (item ∷ items) end
        → IsMerged (heads_of (commands_of items)) (stands_for instead parts last (part_with store key s) (Some key.uuid) (item ∷ items)) key s end

    in_part : (item : Item) (items : List Item) → head_of item.command ≡ None
        → ((store : Store C) → (does (record { store = store; part = None }) item).refusal ≡ Some NoSubvolume)
        → InThePart item items → Merge (item ∷ items)
    unfolding heads_of
    in_part item items no_head without h store None current key s end goods f ours out fl t = absurd (let e : Some NoSubvolume ≡ None = sym (without store) ∙ t.0 in cc)
    in_part item items no_head without h store (Some part) current key s end goods f ours out fl t =
        let hs : List Head = heads_of (commands_of items) in
        let G : Option Head → Part C → Option (List ℕ) → Type 0 = λ o p cur. ITakes (record { store = store; part = Some p }) (item ∷ items) end
        → IsMerged (onto_heads o hs) (stands_for instead parts last (record { store = store; part = Some p }) cur (item ∷ items)) key s end in
        let follows : FollowsFrom key hs = subst (λ (o : Option Head). FollowsFrom key (onto_heads o hs)) no_head f in
        let our : OurHeads hs = subst (λ (o : Option Head). OurHeads (onto_heads o hs)) no_head ours in
        let at : G None (record { key = key; subvolume = s }) (Some key.uuid) = λ t. h store key s end goods follows our out fl.kept fl.good fl.ours fl.stands.1 t in
        subst (λ (o : Option Head). G o part current) (sym no_head)
        (subst (λ (cur : Option (List ℕ)). G None part cur) (sym fl.current_is)
        (subst (λ (p : Part C). G None p (Some key.uuid)) (sym fl.stands.0) at)) t

    -- Where an edit is taken, and what stands for it is, all the rest is.
    go_on : (item : Item) (items : List Item) → ((current : Option (List ℕ)) → uuid_after current item.command ≡ current) → Merge items → (store : Store C) (key : Key) (s next : Subvolume C) (end : State C) (ds : List Command)
        → AllByRecursion ItemGood (item ∷ items) → FollowsFrom key (heads_of (commands_of items)) → OurHeads (heads_of (commands_of items)) → OutsideKeys (keys_named item.command ++ all_keys_named (commands_of items))
        → IsKept store → is_among parts key.uuid ≡ true → key_with key.uuid store ≡ Some key → Good next
        → after (part_with store key s) item ≡ part_with store key next
        → commands_by instead parts last (part_with store key s) (Some key.uuid) item.command ≡ ds
        → ((u : Store ℕ) → Agrees base keys u → Takes (elsewhere last u s) ds (elsewhere last u next))
        → AllByRecursion Fine ds
        → ITakes (part_with store key s) (item ∷ items) end
        → IsMerged (heads_of (commands_of items)) (stands_for instead parts last (part_with store key s) (Some key.uuid) (item ∷ items)) key s end
    go_on item items stays ih store key s next end ds goods f ours out kept our there_is good state_is stands_is taken fine t =
        let c : Command = item.command in
        let m = ih store (Some (record { key = key; subvolume = next })) (Some key.uuid) key next end goods.1 f ours (all_rest (λ q. is_among parts q.uuid ≡ false → IsAmong q keys) (keys_named c) (all_keys_named (commands_of items)) out)
        (record { kept = kept; good = good; stands = (refl, there_is); ours = our; current_is = refl })
        (subst (λ (x : State C). ITakes x items end) state_is t.1) in
        let rest : List Command = stands_for instead parts last (part_with store key next) (Some key.uuid) items in
        let M : List Command → State C → Option (List ℕ) → Type 0 = λ es st cur. IsMerged (heads_of (commands_of items)) (es ++ stands_for instead parts last st cur items) key s end in
        let at : M ds (part_with store key next) (Some key.uuid) = record {
          last_one = m.last_one;
          stands = m.stands;
          merged = λ u agrees. Takes-append ds rest (elsewhere last u s) (elsewhere last u next) (elsewhere last u m.last_one) (taken u agrees) (m.merged u agrees);
          fine = all_both Fine ds rest fine m.fine;
        } in
        let σ : State C = part_with store key s in
        subst (λ (es : List Command). M es (after σ item) (uuid_after (Some key.uuid) c)) (sym stands_is)
        (subst (λ (st : State C). M ds st (uuid_after (Some key.uuid) c)) (sym state_is)
        (subst (λ (cur : Option (List ℕ)). M ds (part_with store key next) cur) (sym (stays (Some key.uuid))) at))

    -- ---- plain edits

    plain_elsewhere : (item : Item) → is_plain item.command ≡ true → (s next : Subvolume C) → edit k.zero_cell (k.cells item) item.command s ≡ Ok next → (u : Store ℕ) → Takes (elsewhere last u s) (item.command ∷ []) (elsewhere last u next)
    plain_elsewhere item h s next e u =
        let c : Command = item.command in
        let same : edit 0 (bytes_of c) c (bytes_in s) ≡ Ok (bytes_in next) =
        ap₂ (λ (z : ℕ) (put : List ℕ). edit z put c (bytes_in s)) (sym k.is_zero) (sym (k.same_bytes item)) ∙ edit-cells k.byte_in k.zero_cell (k.cells item) c s ∙ ap (recelled_result k.byte_in) e in
        plain_taken c h u last (bytes_in s) (bytes_in next) [] (elsewhere last u next) same refl

    plain_in : AreFine → (item : Item) → is_plain item.command ≡ true → (items : List Item) → Merge items → InThePart item items
    plain_in others item h items ih store key s end goods f ours out kept good our at t =
        let c : Command = item.command in
        let put : List C = k.cells item in
        let part : Part C = record { key = key; subvolume = s } in
        let r : Result (Subvolume C) Refusal = edit k.zero_cell put c s in
        let is_edit : step k.zero_cell put (part_with store key s) c ≡ edited store part r = plain_step k.zero_cell put store part c h in
        let ok = edited_taken store part r (subst (λ (x : Stepped C). x.refusal ≡ None) is_edit t.0) in
        go_on item items (λ current. plain_uuid current c h) ih store key s ok.0 end (c ∷ []) goods f ours out kept our at
        (keeps.edits item s ok.0 goods.0 good ok.1)
        (ap (λ (x : Stepped C). x.state) (is_edit ∙ ap (edited store part) ok.1))
        (itself instead parts last (part_with store key s) (Some key.uuid) c h)
        (λ u agrees. plain_elsewhere item h s ok.0 ok.1 u)
        (others.plain item goods.0 h, tt) t

    on_plain : AreFine → (item : Item) → is_plain item.command ≡ true → (items : List Item) → Merge items → Merge (item ∷ items)
    on_plain others item h items ih = in_part item items (plain_is_no_head item.command h) (λ store. plain_step_without k.zero_cell (k.cells item) store item.command h) (plain_in others item h items ih)

    -- ---- clones

    pub cloneless : (put : List C) (store : Store C) (path : List ℕ) (offset : ℕ) (uuid : List ℕ) (ctransid : ℕ) (clone_path : List ℕ) (from len : ℕ)
        → (step k.zero_cell put (record { store = store; part = None }) (Clone path offset uuid ctransid clone_path from len)).refusal ≡ Some NoSubvolume
    unfolding step step_edit
    cloneless put store path offset uuid ctransid clone_path from len = refl

    clone_is : (put : List C) (store : Store C) (key : Key) (s : Subvolume C) (path : List ℕ) (offset : ℕ) (uuid : List ℕ) (ctransid : ℕ) (clone_path : List ℕ) (from len : ℕ)
        → step k.zero_cell put (part_with store key s) (Clone path offset uuid ctransid clone_path from len)
        ≡ edited store (record { key = key; subvolume = s }) (clone k.zero_cell s (clone_source store (record { key = key; subvolume = s }) (record { uuid = uuid; ctransid = ctransid })) (bytes_eq uuid key.uuid) (clone_values path offset clone_path from len))
    unfolding step step_edit edit_part
    clone_is put store key s path offset uuid ctransid clone_path from len = refl

    clone_elsewhere : (u : Store ℕ) (s next : Subvolume ℕ) (path : List ℕ) (offset : ℕ) (key : Key) (clone_path : List ℕ) (from len : ℕ)
        → clone 0 s (clone_source u (record { key = last; subvolume = s }) key) (bytes_eq key.uuid last.uuid) (clone_values path offset clone_path from len) ≡ Ok next
        → Takes (record { store = u; part = Some (record { key = last; subvolume = s }) }) (Clone path offset key.uuid key.ctransid clone_path from len ∷ []) (record { store = u; part = Some (record { key = last; subvolume = next }) })
    unfolding step step_edit edit_part
    clone_elsewhere u s next path offset key clone_path from len e =
        let part : Part ℕ = record { key = last; subvolume = s } in
        let E : Result (Subvolume ℕ) Refusal → Type 0 = λ x. ((edited u part x).refusal ≡ None) × ((edited u part x).state ≡ record { store = u; part = Some (record { key = last; subvolume = next }) }) in
        let at : E (Ok next) = (refl, refl) in
        subst E (sym e) at

    -- What a clone does is what it does with the bytes alone.
    bytes_cloned : (s next : Subvolume C) (source : Option (Subvolume C)) (own : Bool) (path : List ℕ) (offset : ℕ) (clone_path : List ℕ) (from len : ℕ)
        → clone k.zero_cell s source own (clone_values path offset clone_path from len) ≡ Ok next
        → clone 0 (bytes_in s) (option_map bytes_in source) own (clone_values path offset clone_path from len) ≡ Ok (bytes_in next)
    bytes_cloned s next source own path offset clone_path from len e =
        ap (λ (z : ℕ). clone z (bytes_in s) (option_map bytes_in source) own (clone_values path offset clone_path from len)) (sym k.is_zero)
        ∙ clone-cells k.byte_in k.zero_cell s source own path offset clone_path from len ∙ ap (recelled_result k.byte_in) e

    base_finds : (key : Key) → find base key ≡ option_map bytes_in (find start key)
    base_finds key = ap (λ (x : Store ℕ). find x key) (sym keeps.start_is) ∙ find-cells k.byte_in start key

    module _ (apart : AreApart keys last) (others : AreFine) (law : InsteadLaw) (item : Item)
        (path : List ℕ) (offset : ℕ) (uuid : List ℕ) (ctransid : ℕ) (clone_path : List ℕ) (from len : ℕ) where
      abbrev this : Command
      this = Clone path offset uuid ctransid clone_path from len

      abbrev own_item : Item
      own_item = record item { command = this }

      abbrev source_key : Key
      source_key = record { uuid = uuid; ctransid = ctransid }

      -- What stands for a clone in a part that has come to s.
      record StandsFor (store : Store C) (key : Key) (s next : Subvolume C) : Type 0 where
        commands : List Command
        are : commands_by instead parts last (part_with store key s) (Some key.uuid) this ≡ commands
        taken : (u : Store ℕ) → Agrees base keys u → Takes (elsewhere last u s) commands (elsewhere last u next)
        fine : AllByRecursion Fine commands
        good : Good next

      own_stands : (store : Store C) (key : Key) (s next : Subvolume C) → ItemGood own_item → bytes_eq key.uuid uuid ≡ true → Good s
          → clone k.zero_cell s (Some s) true (clone_values path offset clone_path from len) ≡ Ok next → StandsFor store key s next
      own_stands store key s next item_good own good ok = record {
        commands = Clone path offset last.uuid last.ctransid clone_path from len ∷ [];
        are = rw own refl;
        taken = λ u agrees. clone_elsewhere u (bytes_in s) (bytes_in next) path offset last clone_path from len
            (ap (λ (b : Bool). clone 0 (bytes_in s) (if b then Some (bytes_in s) else find u last) b (clone_values path offset clone_path from len)) (bytes_eq_same last.uuid) ∙ bytes_cloned s next (Some s) true path offset clone_path from len ok);
        fine = (others.own item path offset uuid ctransid clone_path from len item_good, tt);
        good = keeps.clones s (Some s) true path offset clone_path from len next good (λ v e. subst Good (some_same s v e) good) ok;
      }
        where
          some_same : (a b : Subvolume C) → Some a ≡ Some b → a ≡ b
          some_same a b e = cc

      outside_stands : (store : Store C) (key : Key) (s next : Subvolume C) → ItemGood own_item → bytes_eq key.uuid uuid ≡ false → is_among parts uuid ≡ false → IsAmong source_key keys → IsKept store → Good s
          → clone k.zero_cell s (find store source_key) false (clone_values path offset clone_path from len) ≡ Ok next → StandsFor store key s next
      outside_stands store key s next item_good own among named_there kept good ok = record {
        commands = this ∷ [];
        are = rw (own, among) refl;
        taken = λ u agrees.
            let here_is : find u source_key ≡ option_map bytes_in (find store source_key) = agrees source_key named_there ∙ base_finds source_key ∙ ap (option_map bytes_in) (sym (kept.outside source_key among)) in
            clone_elsewhere u (bytes_in s) (bytes_in next) path offset source_key clone_path from len
            (ap (λ (b : Bool). clone 0 (bytes_in s) (if b then Some (bytes_in s) else find u source_key) b (clone_values path offset clone_path from len)) (apart source_key named_there)
            ∙ ap (λ (o : Option (Subvolume ℕ)). clone 0 (bytes_in s) o false (clone_values path offset clone_path from len)) here_is
            ∙ bytes_cloned s next (find store source_key) false path offset clone_path from len ok);
        fine = (others.outside item path offset uuid ctransid clone_path from len item_good named_there, tt);
        good = keeps.clones s (find store source_key) false path offset clone_path from len next good
            (λ v e. keeps.found source_key v named_there (sym (kept.outside source_key among) ∙ e)) ok;
      }

      range_is : (store : Store C) (key : Key) (s : Subvolume C) (range : Cloned C)
          → cloned s (clone_source store (record { key = key; subvolume = s }) source_key) (bytes_eq uuid key.uuid) (clone_values path offset clone_path from len) ≡ Ok range → clone_range (part_with store key s) this ≡ range.cells
      unfolding clone_range
      range_is store key s range e = ap (λ (r : Result (Cloned C) Refusal). elim r as (λ x. List C) [ Err refusal ↦ [] | Ok x ↦ x.cells ]) e

      redirected_stands : (store : Store C) (key : Key) (s next source : Subvolume C) → ItemGood own_item → bytes_eq key.uuid uuid ≡ false → is_among parts uuid ≡ true → IsKept store → Good s
          → find store source_key ≡ Some source → clone k.zero_cell s (Some source) false (clone_values path offset clone_path from len) ≡ Ok next → StandsFor store key s next
      unfolding clone
      redirected_stands store key s next source item_good own among kept good f ok =
          let r = bound (cloned s (Some source) false (clone_values path offset clone_path from len)) (λ range. Ok (change_inode range.ino (set_cells (overwritten k.zero_cell offset range.cells)) s)) next ok in
          let range : Cloned C = r.0 in
          let next_is : change_inode range.ino (set_cells (overwritten k.zero_cell offset range.cells)) s ≡ next = ok_same r.2 in
          let source_good : Good source = kept.inside source_key source among f in
          let same_source : (v : Subvolume C) → Some source ≡ Some v → Good v = λ v e. kept.inside source_key v among (f ∙ e) in
          let at : clone_range (part_with store key s) this ≡ range.cells = range_is store key s range
          (ap (λ (b : Bool). cloned s (if b then Some s else find store source_key) b (clone_values path offset clone_path from len)) (turned_false key.uuid uuid own) ∙ ap (λ (o : Option (Subvolume C)). cloned s o false (clone_values path offset clone_path from len)) f ∙ r.1) in
          let does_same = law item store key s source path offset uuid ctransid clone_path from len range item_good good source_good r.1 at in
          record {
            commands = instead (part_with store key s) this;
            are = rw (own, among) refl;
            taken = λ u agrees. subst (λ (x : Subvolume C). Takes (elsewhere last u s) (instead (part_with store key s) this) (elsewhere last u x)) next_is (does_same.taken u agrees);
            fine = does_same.fine;
            good = keeps.clones s (Some source) false path offset clone_path from len next good same_source ok;
          }

      stand : (store : Store C) (key : Key) (s next : Subvolume C) → ItemGood own_item → (a : Bool) → bytes_eq key.uuid uuid ≡ a → (b : Bool) → is_among parts uuid ≡ b → (o : Option (Subvolume C)) → find store source_key ≡ o
          → (is_among parts uuid ≡ false → IsAmong source_key keys) → IsKept store → Good s
          → clone k.zero_cell s (clone_source store (record { key = key; subvolume = s }) source_key) (bytes_eq uuid key.uuid) (clone_values path offset clone_path from len) ≡ Ok next → StandsFor store key s next
      stand store key s next item_good true own b among o f named_there kept good ok =
          own_stands store key s next item_good own good (subst (λ (t : Bool). clone k.zero_cell s (if t then Some s else find store source_key) t (clone_values path offset clone_path from len) ≡ Ok next) (turned_true key.uuid uuid own) ok)
      stand store key s next item_good false own false among o f named_there kept good ok =
          outside_stands store key s next item_good own among (named_there among) kept good (subst (λ (t : Bool). clone k.zero_cell s (if t then Some s else find store source_key) t (clone_values path offset clone_path from len) ≡ Ok next) (turned_false key.uuid uuid own) ok)
      stand store key s next item_good false own true among None f named_there kept good ok =
          let ok' : clone k.zero_cell s (find store source_key) false (clone_values path offset clone_path from len) ≡ Ok next = subst (λ (t : Bool). clone k.zero_cell s (if t then Some s else find store source_key) t (clone_values path offset clone_path from len) ≡ Ok next) (turned_false key.uuid uuid own) ok in
          absurd (sourceless k.zero_cell s next false path offset clone_path from len (subst (λ (o : Option (Subvolume C)). clone k.zero_cell s o false (clone_values path offset clone_path from len) ≡ Ok next) f ok'))
      stand store key s next item_good false own true among (Some source) f named_there kept good ok =
          let ok' : clone k.zero_cell s (find store source_key) false (clone_values path offset clone_path from len) ≡ Ok next = subst (λ (t : Bool). clone k.zero_cell s (if t then Some s else find store source_key) t (clone_values path offset clone_path from len) ≡ Ok next) (turned_false key.uuid uuid own) ok in
          redirected_stands store key s next source item_good own among kept good f (subst (λ (o : Option (Subvolume C)). clone k.zero_cell s o false (clone_values path offset clone_path from len) ≡ Ok next) f ok')

      clone_in : (items : List Item) → Merge items → InThePart own_item items
      clone_in items ih store key s end goods f ours out kept good our at t =
          let own : Item = own_item in
          let part : Part C = record { key = key; subvolume = s } in
          let r : Result (Subvolume C) Refusal = clone k.zero_cell s (clone_source store part source_key) (bytes_eq uuid key.uuid) (clone_values path offset clone_path from len) in
          let is_edit : step k.zero_cell (k.cells own) (part_with store key s) this ≡ edited store part r = clone_is (k.cells own) store key s path offset uuid ctransid clone_path from len in
          let ok = edited_taken store part r (subst (λ (x : Stepped C). x.refusal ≡ None) is_edit t.0) in
          let w = stand store key s ok.0 goods.0 (bytes_eq key.uuid uuid) refl (is_among parts uuid) refl (find store source_key) refl out.0 kept good ok.1 in
          go_on own items (λ current. refl) ih store key s ok.0 end w.commands goods f ours out kept our at w.good
          (ap (λ (x : Stepped C). x.state) (is_edit ∙ ap (edited store part) ok.1)) w.are w.taken w.fine t

    on_clone : AreApart keys last → AreFine → InsteadLaw → (item : Item) (c : Command) → is_clone c ≡ true → (items : List Item) → Merge items → Merge (record item { command = c } ∷ items)
    on_clone apart others law item (Clone path offset uuid ctransid clone_path from len) h items ih =
        let own : Item = record item { command = Clone path offset uuid ctransid clone_path from len } in
        in_part own items refl (λ store. cloneless (k.cells own) store path offset uuid ctransid clone_path from len) (clone_in apart others law item path offset uuid ctransid clone_path from len items ih)
    on_clone apart others law item c h items ih = absurd (false≢true h)

    -- What stands for items after a part is taken in one part over any store that agrees with the
    -- base.
    pub merges_any : AreApart keys last → AreFine → InsteadLaw → (items : List Item) → Merge items
    merges_any apart others law [] = merge_nothing
    merges_any apart others law (item ∷ items) =
        by_sort {P = λ c. Merge items → Merge (record item { command = c } ∷ items)} (λ c head h. on_head (record item { command = c }) head h items) (on_end item items) (λ c h. on_clone apart others law item c h items)
        (λ c h. on_plain others (record item { command = c }) h items) item.command (merges_any apart others law items)
