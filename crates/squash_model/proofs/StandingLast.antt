-- What stands where commands hold one part stands in that part's subvolume.
use Rattle.std.specs.Prelude.{◌≡◌, ◌⊎◌, ℕ, ◌+◌, ◌==◌, Bool, true, false, List, [], ◌∷◌, ◌++◌, length, Option, None, Some, Result, if◌then◌else◌}
use Rattle.std.specs.List.{list_any}
use Rattle.std.specs.Option.{option_map}
use Rattle.std.specs.Str.{bytes_eq}
use Rattle.std.proofs.Common.{refl, sym, ap, ap₂, subst, ◌∙◌, inl, inr, append-nil}
use Rattle.std.proofs.lemmas.Grind.{flat_map-append}
use Rattle.send_model.specs.Refusal.{Refusal}
use Rattle.send_model.specs.Command.{Command, End}
use Rattle.send_model.specs.Subvolume.{Subvolume}
use Rattle.send_model.specs.Store.{Key, same_key, Head, head_of, Entry, Store, has_uuid, find, Part, State, Stepped, completed, unfinished, begun, entered, step_head, edit_part, edited, step}
use Rattle.send_model.specs.Receive.{bytes_of, start_of, byte_cells, run_items}
use Rattle.send_model.specs.Order.{onto_heads, heads_of, commands_of}
use Rattle.send_model.specs.Counts.{is_end}
use Rattle.send_model.specs.Cells.{recelled, recelled_state, recelled_step}
use Rattle.send_model.specs.Separated.{LeadTo}
use Rattle.send_model.proofs.Sorts.{head_step, same_inside}
use Rattle.send_model.proofs.Runs.{takes_run}
use Rattle.send_model.proofs.Stores.{or_parts, same_key_same, completes_new}
use Rattle.send_model.proofs.Merging.{begun_begins, entered_taken, edited_taken}
use Rattle.send_model.proofs.CellSteps.{find-cells, completed-cells}
use Rattle.send_model.proofs.CellClones.{all_steps-cells}
use Rattle.squash_model.specs.Squashed.{Birth, births_from, births_in, births_inside, born_step, born_by, unborn, births_left, stands}
use Rattle.squash_model.specs.SquashLaws.{StandsInLast}
use Rattle.squash_model.proofs.SameSquash.{inner_step, inner_refused, finds_behind, BornTakes, blank_byte, blank_birth, blanks, blank_start, starts_born, unborn_store, births_within, no_births}
use Rattle.squash_model.proofs.SquashProved.{takes_lead}

-- A run over births is a run over bytes, but for the cells.
born_blank : (cs : List Command) (count : ℕ) (state end : State ℕ) (born : State Birth) → recelled_state blank_byte state ≡ recelled_state blank_birth born → LeadTo state cs end
    → recelled_state blank_byte end ≡ recelled_state blank_birth (born_by count born cs)
unfolding born_by
born_blank [] count state end born e t = ap (recelled_state blank_byte) (sym t) ∙ e
born_blank (c ∷ cs) count state end born e (taken, t) =
    let same : recelled_step blank_byte (step 0 (bytes_of c) state c) ≡ recelled_step blank_birth (born_step count born c) =
    sym (all_steps-cells blank_byte c 0 (bytes_of c) state)
    ∙ ap₂ (λ (put : List ℕ) (s : State ℕ). step 0 put s c) (blanks count (bytes_of c)) e
    ∙ all_steps-cells blank_birth c None (births_from count (bytes_of c)) born in
    born_blank cs (count + length (bytes_of c)) (step 0 (bytes_of c) state c).state end (born_step count born c).state (ap (λ (x : Stepped ℕ). x.state) same) t

absent : {C : Type 0} (store : Store C) (key : Key) → has_uuid key.uuid store ≡ false → find store key ≡ None
unfolding find
absent [] key h = refl
absent {C = C} (e ∷ store) key h =
    let p = or_parts (bytes_eq e.key.uuid key.uuid) (has_uuid key.uuid store) h in
    one (same_key e.key key) refl p.0 (absent store key p.1)
  where
    one : (b : Bool) → same_key e.key key ≡ b → bytes_eq e.key.uuid key.uuid ≡ false → find store key ≡ None
        → (if b then (elim e.contents as (λ x. Option (Subvolume C)) [ None ↦ find store key | Some s ↦ Some s ]) else find store key) ≡ None
    one true s q more = cc
    one false s q more = more

module _ (before : Store ℕ) (last : Head) where
  abbrev pub done : Subvolume Birth → Entry (Subvolume Birth)
  done s = record { name = last.name; key = last.key; parent = last.parent; contents = Some s }

  abbrev pub in_part : Subvolume Birth → State Birth
  in_part s = record { store = unborn_store before ++ unfinished last ∷ []; part = Some (record { key = last.key; subvolume = s }) }

  abbrev pub in_store : Subvolume Birth → State Birth
  in_store s = record { store = unborn_store before ++ done s ∷ []; part = None }

  -- The part has come to a subvolume: it is still being received, or it is complete.
  pub record HasCome (state : State Birth) : Type 0 where
    pub births : Subvolume Birth
    pub new : has_uuid last.key.uuid (unborn_store before) ≡ false
    pub is : (state ≡ in_part births) ⊎ (state ≡ in_store births)

  pub no_more : (c : Command) (cs : List Command) → heads_of (c ∷ cs) ≡ [] → (head_of c ≡ None) × (heads_of cs ≡ [])
  unfolding heads_of
  no_more c cs h = one (head_of c) h
    where
      one : (o : Option Head) → onto_heads o (heads_of cs) ≡ [] → (o ≡ None) × (heads_of cs ≡ [])
      one None q = (refl, q)
      one (Some head) q = cc

  abbrev Comes : Command → Type 0
  Comes c = (count : ℕ) (s : Subvolume Birth) → has_uuid last.key.uuid (unborn_store before) ≡ false → head_of c ≡ None → (born_step count (in_part s) c).refusal ≡ None
      → HasCome (born_step count (in_part s) c).state

  end_comes : Comes End
  unfolding step completed
  end_comes count s new h taken =
      let at : Store Birth → State Birth = λ store. record { store = store; part = None } in
      record { births = s; new = new; is = inr (ap at (completes_new last s (unborn_store before) new)) }

  inner_comes : (c : Command) → is_end c ≡ false → Comes c
  inner_comes c e count s new h taken =
      let store : Store Birth = unborn_store before ++ unfinished last ∷ [] in
      let part : Part Birth = record { key = last.key; subvolume = s } in
      let put : List Birth = births_from count (bytes_of c) in
      let is = inner_step None put store part c e h in
      let ok = edited_taken store part (edit_part None put store part c) (ap (λ (x : Stepped Birth). x.refusal) (sym is) ∙ taken) in
      record { births = ok.0; new = new; is = inl (ap (λ (x : Stepped Birth). x.state) is ∙ ap (λ (r : Result (Subvolume Birth) Refusal). (edited store part r).state) ok.1) }

  comes : (c : Command) → Comes c
  comes End = end_comes
  comes c = inner_comes c refl

  abbrev pub Stays : Command → Type 0
  Stays c = (count : ℕ) (s : Subvolume Birth) → head_of c ≡ None → (born_step count (in_store s) c).refusal ≡ None → (born_step count (in_store s) c).state ≡ in_store s

  pub end_stays : Stays End
  unfolding step completed
  end_stays count s h taken = refl

  pub inner_stays : (c : Command) → is_end c ≡ false → Stays c
  inner_stays c e count s h taken = let x = sym (inner_refused None (births_from count (bytes_of c)) (unborn_store before ++ done s ∷ []) c e h) ∙ taken in cc

  pub stays : (c : Command) → Stays c
  stays End = end_stays
  stays c = inner_stays c refl

  come_on : (cs : List Command) (count : ℕ) (state : State Birth) → HasCome state → heads_of cs ≡ [] → BornTakes count state cs → HasCome (born_by count state cs)
  unfolding born_by BornTakes
  come_on [] count state h none t = h
  come_on (c ∷ cs) count state h none (taken, t) =
      let n = no_more c cs none in
      come_on cs (count + length (bytes_of c)) (born_step count state c).state (one h.is n.0) n.1 t
    where
      one : (state ≡ in_part h.births) ⊎ (state ≡ in_store h.births) → head_of c ≡ None → HasCome (born_step count state c).state
      one (inl e) quiet = subst (λ (x : State Birth). HasCome (born_step count x c).state) (sym e) (comes c count h.births h.new quiet (subst (λ (x : State Birth). (born_step count x c).refusal ≡ None) e taken))
      one (inr e) quiet = record { births = h.births; new = h.new; is = inr (ap (λ (x : State Birth). (born_step count x c).state) e ∙ stays c count h.births quiet (subst (λ (x : State Birth). (born_step count x c).refusal ≡ None) e taken)) }

  pub head_comes : (count : ℕ) (c : Command) → head_of c ≡ Some last → (born_step count (unborn before) c).refusal ≡ None → HasCome (born_step count (unborn before) c).state
  unfolding step_head completed
  head_comes count c h taken =
      let store : Store Birth = unborn_store before in
      let is : born_step count (unborn before) c ≡ entered store last (begun store last) = head_step None (births_from count (bytes_of c)) (unborn before) c last h in
      let ok = entered_taken store last (begun store last) (ap (λ (x : Stepped Birth). x.refusal) (sym is) ∙ taken) in
      let b = begun_begins store last ok.0 ok.1 in
      record { births = ok.0; new = b.new_uuid; is = inl (ap (λ (x : Stepped Birth). x.state) is ∙ ap (λ (r : Result (Subvolume Birth) Refusal). (entered store last r).state) ok.1) }

  abbrev pub Waits : Command → Type 0
  Waits c = (count : ℕ) → head_of c ≡ None → (born_step count (unborn before) c).refusal ≡ None → (born_step count (unborn before) c).state ≡ unborn before

  pub end_waits : Waits End
  unfolding step completed
  end_waits count h taken = refl

  inner_waits : (c : Command) → is_end c ≡ false → Waits c
  inner_waits c e count h taken = let x = sym (inner_refused None (births_from count (bytes_of c)) (unborn_store before) c e h) ∙ taken in cc

  pub waits : (c : Command) → Waits c
  waits End = end_waits
  waits c = inner_waits c refl

  begin : (cs : List Command) (count : ℕ) → heads_of cs ≡ last ∷ [] → BornTakes count (unborn before) cs → HasCome (born_by count (unborn before) cs)
  unfolding born_by BornTakes heads_of
  begin [] count h t = cc
  begin (c ∷ cs) count h (taken, t) = one (head_of c) refl h (begin cs (count + length (bytes_of c)))
    where
      one : (o : Option Head) → head_of c ≡ o → onto_heads o (heads_of cs) ≡ last ∷ []
          → (heads_of cs ≡ last ∷ [] → BornTakes (count + length (bytes_of c)) (unborn before) cs → HasCome (born_by (count + length (bytes_of c)) (unborn before) cs))
          → HasCome (born_by (count + length (bytes_of c)) (born_step count (unborn before) c).state cs)
      one None e q more =
          let is = waits c count e taken in
          subst (λ (s : State Birth). HasCome (born_by (count + length (bytes_of c)) s cs)) (sym is) (more q (subst (λ (s : State Birth). BornTakes (count + length (bytes_of c)) s cs) is t))
      one (Some head) e q more =
          let this : head ≡ last = ap (λ (hs : List Head). elim hs as (λ x. Head) [ [] ↦ head | h ∷ rest ↦ h ]) q in
          let none : heads_of cs ≡ [] = ap (λ (hs : List Head). elim hs as (λ x. List Head) [ [] ↦ [] | h ∷ rest ↦ rest ]) q in
          come_on cs (count + length (bytes_of c)) (born_step count (unborn before) c).state (head_comes count c (e ∙ ap (λ (h : Head). Some h) this) taken) none t

  -- What is found then, and what has births.
  found : (state : State Birth) → (h : HasCome state) → find (completed state) last.key ≡ Some h.births
  unfolding completed find
  found state h = one h.is
    where
      behind : find (unborn_store before ++ done h.births ∷ []) last.key ≡ Some h.births
      behind =
          finds_behind (unborn_store before) (done h.births ∷ []) last.key
          ∙ ap (λ (o : Option (Subvolume Birth)). elim o as (λ x. Option (Subvolume Birth)) [ None ↦ find (done h.births ∷ []) last.key | Some s ↦ Some s ]) (absent (unborn_store before) last.key h.new)
          ∙ ap (λ (b : Bool). if b then Some h.births else None) (same_key_same last.key)

      one : (state ≡ in_part h.births) ⊎ (state ≡ in_store h.births) → find (completed state) last.key ≡ Some h.births
      one (inl e) = ap (λ (s : State Birth). find (completed s) last.key) e ∙ ap (λ (s : Store Birth). find s last.key) (completes_new last h.births (unborn_store before) h.new) ∙ behind
      one (inr e) = ap (λ (s : State Birth). find (completed s) last.key) e ∙ behind

  pub left : (state : State Birth) → (h : HasCome state) → births_left state ≡ births_in h.births
  unfolding births_left
  left state h = one h.is
    where
      own : (e : Entry (Subvolume Birth)) → births_within (unborn_store before ++ e ∷ []) ≡ births_inside e.contents
      own e =
          flat_map-append (λ (x : Entry (Subvolume Birth)). births_inside x.contents) (unborn_store before) (e ∷ [])
          ∙ ap (λ (r : List ℕ). r ++ (births_inside e.contents ++ [])) (no_births before) ∙ append-nil (births_inside e.contents)

      one : (state ≡ in_part h.births) ⊎ (state ≡ in_store h.births) → births_left state ≡ births_in h.births
      one (inl e) = ap births_left e ∙ ap (λ (r : List ℕ). r ++ births_in h.births) (own (unfinished last))
      one (inr e) = ap births_left e ∙ ap (λ (r : List ℕ). r ++ []) (own (done h.births)) ∙ append-nil (births_in h.births)

pub stands_in_last : StandsInLast
unfolding stands
stands_in_last base items last one accepted =
    let cs : List Command = commands_of items in
    let end : State ℕ = (run_items 0 byte_cells (start_of base) items).state in
    let lead : LeadTo (start_of base) cs end = takes_lead cs (start_of base) end (takes_run items (start_of base) accepted) in
    let born : State Birth = born_by 0 (unborn base) cs in
    let come = begin base last cs 0 one (starts_born base cs end lead) in
    let births_are = found base last born come in
    let blank : recelled_state blank_byte end ≡ recelled_state blank_birth born = born_blank cs 0 (start_of base) end (unborn base) (blank_start base) lead in
    let finds : option_map (recelled blank_byte) (find (completed end) last.key) ≡ Some (recelled blank_birth come.births) =
    sym (find-cells blank_byte (completed end) last.key) ∙ ap (λ (s : Store ℕ). find s last.key) (sym (completed-cells blank_byte end) ∙ ap completed blank ∙ completed-cells blank_birth born)
    ∙ find-cells blank_birth (completed born) last.key ∙ ap (option_map (recelled blank_birth)) births_are in
    let t = taken (find (completed end) last.key) (recelled blank_birth come.births) finds in
    record {
      subvolume = t.0;
      subvolume_is = t.1;
      births = come.births;
      births_are = births_are;
      same = sym t.2;
      stands_is = λ birth. ap (λ (bs : List ℕ). list_any (λ b. b == birth) bs) (left base last born come);
    }
  where
    taken : (o : Option (Subvolume ℕ)) (x : Subvolume ℕ) → option_map (recelled blank_byte) o ≡ Some x → (t : Subvolume ℕ) × (o ≡ Some t) × (recelled blank_byte t ≡ x)
    taken None x e = cc
    taken (Some t) x e = (t, refl, same_inside e)
