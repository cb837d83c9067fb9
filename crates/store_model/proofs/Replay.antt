-- A part that was received beside others can be received alone, over any store that finds what the
-- one it was received into found.
use Rattle.std.specs.Prelude.{◌≡◌, ℕ, Bool, true, false, List, [], ◌∷◌, ◌++◌, Option, None, Some, Result, Ok, Err, is_some, if◌then◌else◌}
use Rattle.std.specs.List.{AllByRecursion}
use Rattle.std.specs.Str.{bytes_eq}
use Rattle.std.proofs.Common.{refl, sym, ap, subst, ◌∙◌}
use Rattle.std.proofs.lemmas.Bool.{true≢false}
use Rattle.send_model.specs.Refusal.{Refusal, NoParent, NoSource, BadPath}
use Rattle.send_model.specs.Chain.{found, require, ◌>>◌, ◌>>=◌}
use Rattle.send_model.specs.Command.{Command, Subvol, Snapshot, Clone, End}
use Rattle.send_model.specs.Path.{is_name, path_names}
use Rattle.send_model.specs.Reading.{Item}
use Rattle.send_model.specs.Subvolume.{Subvolume}
use Rattle.send_model.specs.Clone.{clone, cloned, clone_values}
use Rattle.send_model.specs.Store.{Key, Head, head_of, Entry, Store, Part, State, Stepped, has_name, has_uuid, find, completed, unfinished, begun, start_from, entered, step_head, clone_source, edit_part, edited, step_edit, step}
use Rattle.send_model.specs.Receive.{Run, then_run, run_by, run_items, start_of}
use Rattle.send_model.specs.Counts.{is_end}
use Rattle.send_model.proofs.Sorts.{head_step}
use Rattle.send_model.proofs.Stores.{completes_new, finds_unfinished}
use Rattle.store_model.specs.Turns.{Taken, as_stream}

-- ---- what looks at the store finds the same later

-- A store finds all that another one finds.
abbrev pub FindsAll : {C : Type 0} → Store C → Store C → Type 0
FindsAll old new = (key : Key) (s : Subvolume _) → find old key ≡ Some s → find new key ≡ Some s

module _ {C : Type 0} where
  no_source : (zero_cell : C) (part s : Subvolume C) (own : Bool) (path : List ℕ) (offset : ℕ) (clone_path : List ℕ) (from len : ℕ)
      → clone zero_cell part None own (clone_values path offset clone_path from len) ≡ Ok s → ⊥
  unfolding clone cloned
  no_source zero_cell part s own path offset clone_path from len h = one (is_some (path_names path)) (is_some (path_names clone_path)) _ h
    where
      one : {A B : Type 0} {t : B} (a b : Bool) (g : A → Result B Refusal) → ((require a BadPath >> (require b BadPath >> Err NoSource)) >>= g) ≡ Ok t → ⊥
      one false b g e = cc
      one true false g e = cc
      one true true g e = cc

  clone_again : (zero_cell : C) (part s : Subvolume C) (old new : Option (Subvolume C)) (own : Bool) (path : List ℕ) (offset : ℕ) (clone_path : List ℕ) (from len : ℕ)
      → ((t : Subvolume C) → old ≡ Some t → new ≡ Some t)
      → clone zero_cell part old own (clone_values path offset clone_path from len) ≡ Ok s → clone zero_cell part new own (clone_values path offset clone_path from len) ≡ Ok s
  clone_again zero_cell part s None new own path offset clone_path from len f h = absurd (no_source zero_cell part s own path offset clone_path from len h)
  clone_again zero_cell part s (Some t) new own path offset clone_path from len f h =
      subst (λ (o : Option (Subvolume C)). clone zero_cell part o own (clone_values path offset clone_path from len) ≡ Ok s) (sym (f t refl)) h

  source_again : (old new : Store C) (part : Part C) (key : Key) → FindsAll old new → (t : Subvolume C) → clone_source old part key ≡ Some t → clone_source new part key ≡ Some t
  source_again old new part key f t h = one (bytes_eq key.uuid part.key.uuid) h
    where
      one : (b : Bool) → (if b then Some part.subvolume else find old key) ≡ Some t → (if b then Some part.subvolume else find new key) ≡ Some t
      one true e = e
      one false e = f key t e

  -- an edit that is taken over a store is taken over each that finds all that it finds, and makes
  -- the same
  pub edit_again : (zero_cell : C) (put : List C) (old new : Store C) (part : Part C) (c : Command) (s : Subvolume C) → FindsAll old new
      → edit_part zero_cell put old part c ≡ Ok s → edit_part zero_cell put new part c ≡ Ok s
  unfolding edit_part
  edit_again zero_cell put old new part (Clone path offset uuid ctransid clone_path from len) s f h =
      let key : Key = record { uuid = uuid; ctransid = ctransid } in
      clone_again zero_cell part.subvolume s (clone_source old part key) (clone_source new part key) (bytes_eq uuid part.key.uuid) path offset clone_path from len (source_again old new part key f) h
  edit_again zero_cell put old new part c s f h = h

  pub start_again : (old new : Store C) (parent : Option Key) (s : Subvolume C) → FindsAll old new → start_from old parent ≡ Ok s → start_from new parent ≡ Ok s
  start_again old new None s f h = h
  start_again old new (Some key) s f h = one (find old key) refl h
    where
      one : (o : Option (Subvolume C)) → find old key ≡ o → found o NoParent ≡ Ok s → found (find new key) NoParent ≡ Ok s
      one None e q = cc
      one (Some t) e q = ap (λ (o : Option (Subvolume C)). found o NoParent) (f key t e) ∙ q

  pub edit_step : (zero_cell : C) (put : List C) (state : State C) (c : Command) → head_of c ≡ None → is_end c ≡ false → step zero_cell put state c ≡ step_edit zero_cell put state c
  unfolding step
  edit_step zero_cell put state (Subvol uuid ctransid path) h e = cc
  edit_step zero_cell put state (Snapshot uuid ctransid path clone_uuid clone_ctransid) h e = cc
  edit_step zero_cell put state End h e = absurd (true≢false e)
  edit_step zero_cell put state c h e = refl

  pub begins_here : (store : Store C) (head : Head) (s : Subvolume C) → is_name head.name ≡ true → has_name head.name store ≡ false → has_uuid head.key.uuid store ≡ false
      → start_from store head.parent ≡ Ok s → begun store head ≡ Ok s
  unfolding begun
  begins_here store head s a b c d = rw (a, b, c) d

-- ---- runs of items that are all taken

module _ {C : Type 0} (zero_cell : C) (cells : Item → List C) where
  abbrev pub Goes : State C → List Item → State C → Type 0
  Goes state [] end = state ≡ end
  Goes state (item ∷ items) end = ((step zero_cell (cells item) state item.command).refusal ≡ None) × Goes (step zero_cell (cells item) state item.command).state items end

  pub goes_on : (xs ys : List Item) (state middle end : State C) → Goes state xs middle → Goes middle ys end → Goes state (xs ++ ys) end
  goes_on [] ys state middle end e g = subst (λ (s : State C). Goes s ys end) (sym e) g
  goes_on (x ∷ xs) ys state middle end h g = (h.0, goes_on xs ys (step zero_cell (cells x) state x.command).state middle end h.1 g)

  pub goes_step : (item : Item) (items : List Item) (state next end : State C) → step zero_cell (cells item) state item.command ≡ record { state = next; refusal = None }
      → Goes next items end → Goes state (item ∷ items) end
  goes_step item items state next end e g = subst (λ (x : Stepped C). (x.refusal ≡ None) × Goes x.state items end) (sym e) (refl, g)

  runs_on : (item : Item) (rest : Run C) (state : State C) (o : Option Refusal) → o ≡ None → then_run item (record { state = state; refusal = o }) rest ≡ rest
  runs_on item rest state None h = refl
  runs_on item rest state (Some r) h = cc

  pub goes_run : (items : List Item) (state end : State C) → Goes state items end → run_items zero_cell cells state items ≡ record { state = end; refused = None }
  unfolding run_items run_by
  goes_run [] state end e = ap (λ (s : State C). record { state = s; refused = None }) e
  goes_run (item ∷ items) state end h =
      let s : Stepped C = step zero_cell (cells item) state item.command in
      runs_on item (run_items zero_cell cells s.state items) s.state s.refusal h.0 ∙ goes_run items s.state end h.1

  -- ---- edits of a part

  -- Edits of the part of a key, one after the other, over one store.
  abbrev pub Edits : Store C → Key → Subvolume C → List Item → Subvolume C → Type 0
  Edits store key s [] t = s ≡ t
  Edits store key s (item ∷ items) t =
      (head_of item.command ≡ None) × (is_end item.command ≡ false) × (middle : Subvolume C)
      × (edit_part zero_cell (cells item) store (record { key = key; subvolume = s }) item.command ≡ Ok middle) × Edits store key middle items t

  pub edits_again : (old new : Store C) (key : Key) (s t : Subvolume C) (items : List Item) → FindsAll old new → Edits old key s items t → Edits new key s items t
  edits_again old new key s t [] f h = h
  edits_again old new key s t (item ∷ items) f h =
      (h.0, h.1, h.2, edit_again zero_cell (cells item) old new (record { key = key; subvolume = s }) item.command h.2 f h.3, edits_again old new key h.2 t items f h.4)

  pub edits_more : (store : Store C) (key : Key) (s t u : Subvolume C) (items : List Item) (item : Item) → Edits store key s items t
      → head_of item.command ≡ None → is_end item.command ≡ false → edit_part zero_cell (cells item) store (record { key = key; subvolume = t }) item.command ≡ Ok u
      → Edits store key s (items ++ item ∷ []) u
  edits_more store key s t u [] item e h n m = (h, n, u, subst (λ (x : Subvolume C). edit_part zero_cell (cells item) store (record { key = key; subvolume = x }) item.command ≡ Ok u) (sym e) m, refl)
  edits_more store key s t u (x ∷ items) item e h n m = (e.0, e.1, e.2, e.3, edits_more store key e.2 t u items item e.4 h n m)

  pub edits_shaped : (store : Store C) (key : Key) (s t : Subvolume C) (items : List Item) → Edits store key s items t
      → AllByRecursion (λ item. (head_of item.command ≡ None) × (is_end item.command ≡ false)) items
  edits_shaped store key s t [] e = tt
  edits_shaped store key s t (item ∷ items) e = ((e.0, e.1), edits_shaped store key e.2 t items e.4)

  edit_goes : (store : Store C) (key : Key) (s t : Subvolume C) (item : Item) → head_of item.command ≡ None → is_end item.command ≡ false
      → edit_part zero_cell (cells item) store (record { key = key; subvolume = s }) item.command ≡ Ok t
      → step zero_cell (cells item) (record { store = store; part = Some (record { key = key; subvolume = s }) }) item.command
      ≡ record { state = record { store = store; part = Some (record { key = key; subvolume = t }) }; refusal = None }
  unfolding step_edit
  edit_goes store key s t item h n m = edit_step zero_cell (cells item) _ item.command h n ∙ ap (edited store (record { key = key; subvolume = s })) m

  edits_go : (store : Store C) (key : Key) (s t : Subvolume C) (items more : List Item) (end : State C) → Edits store key s items t
      → Goes (record { store = store; part = Some (record { key = key; subvolume = t }) }) more end
      → Goes (record { store = store; part = Some (record { key = key; subvolume = s }) }) (items ++ more) end
  edits_go store key s t [] more end e g = subst (λ (x : Subvolume C). Goes (record { store = store; part = Some (record { key = key; subvolume = x }) }) more end) (sym e) g
  edits_go store key s t (item ∷ items) more end e g =
      goes_step item (items ++ more) _ (record { store = store; part = Some (record { key = key; subvolume = e.2 }) }) end (edit_goes store key s e.2 item e.0 e.1 e.3) (edits_go store key e.2 t items more end e.4 g)

  -- ---- parts

  -- A part's items make it, over a store.
  pub record Built (store : Store C) (taken : Taken) (part : Part C) : Type 0 where
    pub head : Head
    pub is_head : head_of taken.head.command ≡ Some head
    pub key_is : part.key ≡ head.key
    pub named : is_name head.name ≡ true
    pub start : Subvolume C
    pub from : start_from store head.parent ≡ Ok start
    pub edits : Edits store head.key start taken.edits part.subvolume

  abbrev pub built_again : (old new : Store C) (taken : Taken) (part : Part C) → FindsAll old new → Built old taken part → Built new taken part
  built_again old new taken part f b = record {
    head = b.head;
    is_head = b.is_head;
    key_is = b.key_is;
    named = b.named;
    start = b.start;
    from = start_again old new b.head.parent b.start f b.from;
    edits = edits_again old new b.head.key b.start part.subvolume taken.edits f b.edits;
  }

  -- the entry of a part that is complete
  abbrev pub entry_of : Head → Subvolume C → Entry (Subvolume C)
  entry_of head s = record { name = head.name; key = head.key; parent = head.parent; contents = Some s }

  head_goes : (store : Store C) (item : Item) (head : Head) (s : Subvolume C) → head_of item.command ≡ Some head → begun store head ≡ Ok s
      → step zero_cell (cells item) (start_of store) item.command
      ≡ record { state = record { store = store ++ unfinished head ∷ []; part = Some (record { key = head.key; subvolume = s }) }; refusal = None }
  unfolding step_head completed
  head_goes store item head s h b = head_step zero_cell (cells item) (start_of store) item.command head h ∙ ap (entered store head) b

  end_goes : (store : Store C) (item : Item) (head : Head) (s : Subvolume C) → has_uuid head.key.uuid store ≡ false
      → step zero_cell (cells item) (record { store = store ++ unfinished head ∷ []; part = Some (record { key = head.key; subvolume = s }) }) End
      ≡ record { state = start_of (store ++ entry_of head s ∷ []); refusal = None }
  unfolding step completed
  end_goes store item head s n = ap (λ (x : Store C). record { state = start_of x; refusal = None }) (completes_new head s store n)

  -- The stream of the part alone is taken, and its entry is the last one then.
  pub built_goes : (store : Store C) (taken : Taken) (part : Part C) (b : Built store taken part) → has_name b.head.name store ≡ false → has_uuid b.head.key.uuid store ≡ false
      → Goes (start_of store) (as_stream taken) (start_of (store ++ entry_of b.head part.subvolume ∷ []))
  built_goes store taken part b n u =
      let with_head : Store C = store ++ unfinished b.head ∷ [] in
      let last : Item = record taken.head { command = End } in
      goes_step taken.head (taken.edits ++ last ∷ []) (start_of store) (record { store = with_head; part = Some (record { key = b.head.key; subvolume = b.start }) }) _
      (head_goes store taken.head b.head b.start b.is_head (begins_here store b.head b.start b.named n u b.from))
      (edits_go with_head b.head.key b.start part.subvolume taken.edits (last ∷ []) _
      (edits_again store with_head b.head.key b.start part.subvolume taken.edits (λ key s f. finds_unfinished b.head store key ∙ f) b.edits)
      (goes_step last [] _ (start_of (store ++ entry_of b.head part.subvolume ∷ [])) _ (end_goes store last b.head part.subvolume u) refl))
