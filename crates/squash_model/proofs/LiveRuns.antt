-- What lives, command by command of one part, and that it is what stands.
use Rattle.std.specs.Prelude.{◌≡◌, ℕ, zero, suc, ◌+◌, ◌<◌, ◌==◌, Bool, true, false, cond, ◌||◌, List, [], ◌∷◌, ◌++◌, map, length, Option, None, Some, Result, Ok, is_some}
use Rattle.std.specs.List.{flat_map}
use Rattle.std.specs.Option.{option_map}
use Rattle.std.specs.Ordering.{nat_cmp, eq_by_cmp, is_eq}
use Rattle.std.specs.Cmp.{Equal-is, nat_cmp_total, tied_itself}
use Rattle.std.specs.Str.{bytes_eq}
use Rattle.std.proofs.Common.{refl, sym, ap, subst, ◌∙◌, arith, get_or, inl, inr}
use Rattle.std.proofs.lemmas.Bool.{cases_eq, true≢false}
use Rattle.std.proofs.lemmas.Map.Lookups.{exact_unsigned}
use Rattle.send_model.specs.Refusal.{Refusal}
use Rattle.send_model.specs.Command.{Command, Clone, End}
use Rattle.send_model.specs.Map.{Map, IsMap, value_at}
use Rattle.send_model.specs.Subvolume.{Inode, Subvolume, IsSound, inode_at}
use Rattle.send_model.specs.Clone.{cells_of}
use Rattle.send_model.specs.Store.{Head, head_of, Store, Part, State, Stepped, has_uuid, completed, find, clone_source, unfinished, edit_part, edited, step, key_of}
use Rattle.send_model.specs.Receive.{bytes_of}
use Rattle.send_model.specs.Order.{heads_of}
use Rattle.send_model.specs.Counts.{is_end}
use Rattle.send_model.specs.Cells.{recelled}
use Rattle.send_model.proofs.MapLaws.{below_none, T_left, T_right}
use Rattle.send_model.proofs.Merging.{edited_taken}
use Rattle.send_model.proofs.CellSteps.{find-cells}
use Rattle.send_model.proofs.CellClones.{cells_of-cells}
use Rattle.send_model.proofs.SoundEdits.{clone_keeps_sound}
use Rattle.send_model.proofs.SoundRenames.{edit_keeps_sound}
use Rattle.send_model.proofs.Sorts.{same_inside}
use Rattle.send_model.proofs.Stores.{finds_unfinished, completes_new}
use Rattle.squash_model.specs.Squashed.{Birth, births_from, births_of, births_in, born_step, born_by, births_left}
use Rattle.squash_model.specs.Liveness.{Living, live_before, live_at, live_from}
use Rattle.squash_model.proofs.StandingCells.{has, has_left, has_right}
use Rattle.squash_model.proofs.SameSquash.{inner_step, BornTakes, unborn_store}
use Rattle.squash_model.proofs.SquashedTwice.{has_either}
use Rattle.squash_model.proofs.StandingLast.{in_part, in_store, no_more, stays, left}
use Rattle.squash_model.proofs.KeptCells.{cells_at}
use Rattle.squash_model.proofs.LiveSteps.{cell, is_birth, Found, IsOf}
use Rattle.squash_model.proofs.LiveCommands.{IsFree, command_steps}

-- ---- births of a subvolume and the places where they stand

module _ (birth : ℕ) where
  in_cells : (cells : List Birth) → has (births_of cells) birth ≡ true → (p : ℕ) × (is_birth birth (get_or cells p None) ≡ true)
  in_cells [] h = cc
  in_cells (None ∷ cells) h = let more = in_cells cells h in (suc more.0, more.1)
  in_cells (Some b ∷ cells) h = one (b == birth) refl h (in_cells cells)
    where
      one : (t : Bool) → (b == birth) ≡ t → t || has (births_of cells) birth ≡ true → (has (births_of cells) birth ≡ true → (p : ℕ) × (is_birth birth (get_or cells p None) ≡ true))
          → (p : ℕ) × (is_birth birth (get_or (Some b ∷ cells) p None) ≡ true)
      one true e q more = (0, e)
      one false e q more = let m = more q in (suc m.0, m.1)

  from_cells : (cells : List Birth) (p : ℕ) → is_birth birth (get_or cells p None) ≡ true → has (births_of cells) birth ≡ true
  from_cells [] p h = cc
  from_cells (None ∷ cells) zero h = cc
  from_cells (None ∷ cells) (suc p) h = from_cells cells p h
  from_cells (Some b ∷ cells) zero h = ap (λ (t : Bool). t || has (births_of cells) birth) h
  from_cells (Some b ∷ cells) (suc p) h = has_right (b ∷ []) (births_of cells) birth (from_cells cells p h)

  abbrev inode_births : ℕ × Inode Birth → List ℕ
  inode_births e = births_of e.1.cells

  record Inside (m : Map ℕ (Inode Birth)) : Type 0 where
    ino : ℕ
    inode : Inode Birth
    at : value_at nat_cmp ino m ≡ Some inode
    has_it : has (births_of inode.cells) birth ≡ true

  in_inodes : (m : Map ℕ (Inode Birth)) → IsMap nat_cmp m → has (flat_map inode_births m) birth ≡ true → Inside m
  in_inodes [] o h = cc
  in_inodes (e ∷ m) o h = elim (has_either (inode_births e) (flat_map inode_births m) birth h) [
    | inl here ↦ record { ino = e.0; inode = e.1; at = ap (λ (b : Bool). cond b (Some e.1) (value_at nat_cmp e.0 m)) (ap is_eq (tied_itself nat_cmp_total e.0)); has_it = here }
    | inr later ↦ let more = in_inodes m (T_right _ _ o) later in
        record {
          ino = more.ino;
          inode = more.inode;
          at = ap (λ (b : Bool). cond b (Some e.1) (value_at nat_cmp more.ino m)) (apart more.ino more.inode more.at) ∙ more.at;
          has_it = more.has_it;
        }
  ]
    where
      apart : (i : ℕ) (inode : Inode Birth) → value_at nat_cmp i m ≡ Some inode → eq_by_cmp nat_cmp i e.0 ≡ false
      apart i inode at = elim (cases_eq i e.0) [
        | inl same ↦ absurd (let none = below_none nat_cmp nat_cmp_total exact_unsigned e.0 e.0 m (tied_itself nat_cmp_total e.0) (T_left _ _ o) in
            let some = subst (λ (j : ℕ). value_at nat_cmp j m ≡ Some inode) same at in never (sym none ∙ some))
        | inr n ↦ one (eq_by_cmp nat_cmp i e.0) refl n
      ]
        where
          never : {X : Type 0} {x : X} → None ≡ Some x → ⊥
          never q = cc

          one : (b : Bool) → eq_by_cmp nat_cmp i e.0 ≡ b → (i ≡ e.0 → ⊥) → b ≡ false
          one false q n = refl
          one true q n = absurd (n (exact_unsigned i e.0 ((Equal-is _).0 q)))

  from_inodes : (m : Map ℕ (Inode Birth)) (i : ℕ) (inode : Inode Birth) → value_at nat_cmp i m ≡ Some inode → has (births_of inode.cells) birth ≡ true → has (flat_map inode_births m) birth ≡ true
  from_inodes [] i inode at h = cc
  from_inodes (e ∷ m) i inode at h = one (eq_by_cmp nat_cmp i e.0) at (from_inodes m i inode)
    where
      one : (b : Bool) → cond b (Some e.1) (value_at nat_cmp i m) ≡ Some inode → (value_at nat_cmp i m ≡ Some inode → has (births_of inode.cells) birth ≡ true → has (flat_map inode_births m) birth ≡ true)
          → has (inode_births e ++ flat_map inode_births m) birth ≡ true
      one true q more = has_left (inode_births e) (flat_map inode_births m) birth (ap (λ (x : Inode Birth). has (births_of x.cells) birth) (same_inside q) ∙ h)
      one false q more = has_right (inode_births e) (flat_map inode_births m) birth (more q h)

  -- A subvolume has the birth where it is found at some place of it.
  abbrev everything : Subvolume Birth → Living
  everything s i p = is_some (inode_at s i)

  there_to_found : (s : Subvolume Birth) → IsMap nat_cmp s.inodes → has (births_in s) birth ≡ true → Found birth (everything s) s
  there_to_found s o h =
      let x = in_inodes s.inodes o h in
      let p = in_cells x.inode.cells x.has_it in
      record {
        ino = x.ino;
        place = p.0;
        lives = ap is_some x.at;
        is = ap (λ (c : List Birth). is_birth birth (get_or c p.0 None)) (cells_at s x.ino (Some x.inode) x.at) ∙ p.1;
      }

  found_to_there : (live : Living) (s : Subvolume Birth) → Found birth live s → has (births_in s) birth ≡ true
  found_to_there live s f = one (inode_at s f.ino) refl
    where
      one : (o : Option (Inode Birth)) → inode_at s f.ino ≡ o → has (births_in s) birth ≡ true
      one None e = absurd (let c = cells_at s f.ino None e in true≢false (sym f.is ∙ ap (λ (x : List Birth). is_birth birth (get_or x f.place None)) c))
      one (Some inode) e = from_inodes s.inodes f.ino inode e (from_cells inode.cells f.place (ap (λ (x : List Birth). is_birth birth (get_or x f.place None)) (sym (cells_at s f.ino (Some inode) e)) ∙ f.is))

-- ---- one part, from its head on

live_step : (count : ℕ) (state : State Birth) (c : Command) (cs : List Command) → is_end c ≡ false
    → live_from count state (c ∷ cs) ≡ live_at state.part c (live_from (count + length (bytes_of c)) (born_step count state c).state cs)
unfolding live_from
live_step count state End cs h = cc
live_step count state c cs h = refl

pub edit_part_sound : (put : List Birth) (u : Store Birth) (part : Part Birth) (c : Command) (t : Subvolume Birth) → IsSound part.subvolume → edit_part None put u part c ≡ Ok t → IsSound t
unfolding edit_part
edit_part_sound put u part (Clone path offset uuid ctransid clone_path from len) t h e =
    clone_keeps_sound None part.subvolume (clone_source u part (key_of uuid ctransid)) (bytes_eq uuid part.key.uuid) path offset clone_path from len t h e
edit_part_sound put u part c t h e = edit_keeps_sound None put c part.subvolume t h e

abbrev nothing : ℕ → Birth
nothing byte = None

module _ (before : Store ℕ) (last : Head) where
  abbrev pub store : Store Birth
  store = unborn_store before ++ unfinished last ∷ []

  abbrev pub part_of : Subvolume Birth → Part Birth
  part_of s = record { key = last.key; subvolume = s }

  -- No subvolume of the store has a birth.
  no_births_there : (birth : ℕ) (after : Living) (s : Subvolume Birth) → IsFree birth (part_of s) after store
  no_births_there birth after s key source f i p =
      let found : option_map (recelled nothing) (find before key) ≡ Some source = sym (find-cells nothing before key) ∙ sym (finds_unfinished last (unborn_store before) key) ∙ f in
      one (find before key) found
    where
      none : (cells : List ℕ) (j : ℕ) → get_or (map nothing cells) j None ≡ None
      none [] j = refl
      none (c ∷ cells) zero = refl
      none (c ∷ cells) (suc j) = none cells j

      one : (o : Option (Subvolume ℕ)) → option_map (recelled nothing) o ≡ Some source → is_birth birth (cell source i p) ≡ false
      one None e = cc
      one (Some x) e = ap (λ (t : Subvolume Birth). is_birth birth (cell t i p)) (sym (same_inside e)) ∙ ap (λ (c : List Birth). is_birth birth (get_or c p None)) (cells_of-cells nothing x i) ∙ ap (is_birth birth) (none (cells_of x i) p)

  -- A step of the part.
  pub record Stepped_ (count : ℕ) (s : Subvolume Birth) (c : Command) : Type 0 where
    pub next : Subvolume Birth
    pub made : edit_part None (births_from count (bytes_of c)) store (part_of s) c ≡ Ok next
    pub is : (born_step count (in_part before last s) c).state ≡ in_part before last next

  pub stepped : (count : ℕ) (s : Subvolume Birth) (c : Command) → is_end c ≡ false → head_of c ≡ None → (born_step count (in_part before last s) c).refusal ≡ None → Stepped_ count s c
  stepped count s c e h taken =
      let put : List Birth = births_from count (bytes_of c) in
      let is = inner_step None put store (part_of s) c e h in
      let ok = edited_taken store (part_of s) (edit_part None put store (part_of s) c) (ap (λ (x : Stepped Birth). x.refusal) (sym is) ∙ taken) in
      record { next = ok.0; made = ok.1; is = ap (λ (x : Stepped Birth). x.state) is ∙ ap (λ (r : Result (Subvolume Birth) Refusal). (edited store (part_of s) r).state) ok.1 }

  -- Nothing changes behind END.
  stays_on : (cs : List Command) (count : ℕ) (s : Subvolume Birth) → heads_of cs ≡ [] → BornTakes count (in_store before last s) cs → born_by count (in_store before last s) cs ≡ in_store before last s
  unfolding born_by BornTakes
  stays_on [] count s n t = refl
  stays_on (c ∷ cs) count s n (taken, t) =
      let m = no_more before last c cs n in
      let is = stays before last c count s m.0 taken in
      ap (λ (x : State Birth). born_by (count + length (bytes_of c)) x cs) is ∙ stays_on cs (count + length (bytes_of c)) s m.1 (subst (λ (x : State Birth). BornTakes (count + length (bytes_of c)) x cs) is t)

  -- Where the part has come to a subvolume: what has a birth in the end.
  pub record Ends (birth count : ℕ) (s : Subvolume Birth) (cs : List Command) : Type 0 where
    pub to : has (births_left (born_by count (in_part before last s) cs)) birth ≡ true → Found birth (live_from count (in_part before last s) cs) s
    pub back : Found birth (live_from count (in_part before last s) cs) s → has (births_left (born_by count (in_part before last s) cs)) birth ≡ true
    pub of : IsOf birth (live_from count (in_part before last s) cs) s

  all_of : (birth : ℕ) (s : Subvolume Birth) → IsOf birth (everything birth s) s
  all_of birth s i p h = inl h

  end_here : (birth count : ℕ) (s : Subvolume Birth) (cs : List Command) (end : State Birth) → IsSound s → born_by count (in_part before last s) cs ≡ end → births_left end ≡ births_in s
      → live_from count (in_part before last s) cs ≡ everything birth s → Ends birth count s cs
  end_here birth count s cs end sound e l live = record {
    to = λ h. subst (λ (x : Living). Found birth x s) (sym live) (there_to_found birth s sound.inodes_in_order (ap (λ (xs : List ℕ). has xs birth) (sym (ap births_left e ∙ l)) ∙ h));
    back = λ f. ap (λ (xs : List ℕ). has xs birth) (ap births_left e ∙ l) ∙ found_to_there birth (live_from count (in_part before last s) cs) s f;
    of = subst (λ (x : Living). IsOf birth x s) (sym live) (all_of birth s);
  }

  module _ (new : has_uuid last.key.uuid (unborn_store before) ≡ false) where
    left_part : (s : Subvolume Birth) → births_left (in_part before last s) ≡ births_in s
    left_part s = left before last (in_part before last s) (record { births = s; new = new; is = inl refl })

    left_store : (s : Subvolume Birth) → births_left (in_store before last s) ≡ births_in s
    left_store s = left before last (in_store before last s) (record { births = s; new = new; is = inr refl })

    pub ended : (count : ℕ) (s : Subvolume Birth) → (born_step count (in_part before last s) End).state ≡ in_store before last s
    unfolding step completed
    ended count s = let at : Store Birth → State Birth = λ x. record { store = x; part = None } in ap at (completes_new last s (unborn_store before) new)

    module _ (birth : ℕ) where
      none_left : (count : ℕ) (s : Subvolume Birth) → IsSound s → Ends birth count s []
      unfolding born_by live_from
      none_left count s sound = end_here birth count s [] (in_part before last s) sound refl (left_part s) refl

      end_left : (count : ℕ) (s : Subvolume Birth) (cs : List Command) → IsSound s → heads_of cs ≡ [] → BornTakes (count + length (bytes_of End)) (born_step count (in_part before last s) End).state cs → Ends birth count s (End ∷ cs)
      unfolding born_by live_from
      end_left count s cs sound n t =
          let later : ℕ = count + length (bytes_of End) in
          end_here birth count s (End ∷ cs) (in_store before last s) sound
          (ap (λ (x : State Birth). born_by later x cs) (ended count s) ∙ stays_on cs later s n (subst (λ (x : State Birth). BornTakes later x cs) (ended count s) t)) (left_store s) refl

      inner_left : (count : ℕ) (s : Subvolume Birth) (c : Command) (cs : List Command) → is_end c ≡ false → head_of c ≡ None → IsSound s → birth < count
          → (born_step count (in_part before last s) c).refusal ≡ None
          → ((t : Subvolume Birth) → IsSound t → (born_step count (in_part before last s) c).state ≡ in_part before last t → Ends birth (count + length (bytes_of c)) t cs)
          → Ends birth count s (c ∷ cs)
      unfolding born_by
      inner_left count s c cs e h sound early taken more =
          let st = stepped count s c e h taken in
          let t : Subvolume Birth = st.next in
          let later : ℕ = count + length (bytes_of c) in
          let rest = more t (edit_part_sound (births_from count (bytes_of c)) store (part_of s) c t sound st.made) st.is in
          let after : Living = live_from later (in_part before last t) cs in
          let live : live_from count (in_part before last s) (c ∷ cs) ≡ live_before (part_of s) c after =
          live_step count (in_part before last s) c cs e ∙ ap (λ (x : State Birth). live_before (part_of s) c (live_from later x cs)) st.is in
          let same = command_steps birth (part_of s) after store c count t (no_births_there birth after s) sound early st.made rest.of in
          record {
            to = λ q. subst (λ (x : Living). Found birth x s) (sym live) (same.same.back (rest.to (ap (λ (x : State Birth). has (births_left (born_by later x cs)) birth) (sym st.is) ∙ q)));
            back = λ f. ap (λ (x : State Birth). has (births_left (born_by later x cs)) birth) st.is ∙ rest.back (same.same.on (subst (λ (x : Living). Found birth x s) live f));
            of = subst (λ (x : Living). IsOf birth x s) (sym live) same.of;
          }

      pub ends : (cs : List Command) (count : ℕ) (s : Subvolume Birth) → IsSound s → birth < count → heads_of cs ≡ [] → BornTakes count (in_part before last s) cs → Ends birth count s cs
      unfolding BornTakes
      ends [] count s sound early n t = none_left count s sound
      ends (End ∷ cs) count s sound early n (taken, t) = end_left count s cs sound (no_more before last End cs n).1 t
      ends (c ∷ cs) count s sound early n (taken, t) =
          let m = no_more before last c cs n in
          inner_left count s c cs refl m.0 sound early taken
          (λ u good is. ends cs (count + length (bytes_of c)) u good (omega (arith, early)) m.1 (subst (λ (x : State Birth). BornTakes (count + length (bytes_of c)) x cs) is t))
