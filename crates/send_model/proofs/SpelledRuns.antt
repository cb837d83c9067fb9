-- What is composed from commands that can be spelled can be spelled: what stands for redirected
-- clones too, where what the base finds under the outside keys can be said.
use Rattle.std.specs.Prelude.{◌≡◌, ℕ, ◌+◌, ◌<◌, Bool, true, false, not, cond, List, [], ◌∷◌, ◌++◌, map, Option, None, Some, Result, Ok, if◌then◌else◌}
use Rattle.std.specs.List.{AllByRecursion, filter, flat_map}
use Rattle.std.specs.Option.{option_map}
use Rattle.std.proofs.Common.{refl, sym, ap, subst, ◌∙◌, append_assoc, arith, inl, inr, ⊎_elim}
use Rattle.std.proofs.lemmas.Bool.{false≢true}
use Rattle.send_model.specs.Refusal.{Refusal, NoSubvolume, NoParent}
use Rattle.send_model.specs.Chain.{found}
use Rattle.send_model.specs.Attribute.{IsBytes, PATH, CLONE_PATH}
use Rattle.send_model.specs.Command.{Command, SUBVOL, SNAPSHOT, Subvol, Snapshot, Write, Clone, End, row, kind_of, kind_of_number}
use Rattle.send_model.specs.Spelling.{IsKnown, IsSpellable}
use Rattle.send_model.specs.Reading.{Item}
use Rattle.send_model.specs.Map.{Map}
use Rattle.send_model.specs.Subvolume.{Inode, Subvolume, root_alone}
use Rattle.send_model.specs.Edit.{edit}
use Rattle.send_model.specs.Store.{Key, Head, head_of, Store, Part, State, Stepped, find, completed, unfinished, begun, entered, edited, start_from, edit_part, step, step_head}
use Rattle.send_model.specs.Receive.{run_items, byte_cells, bytes_of, start_of, IsAccepted}
use Rattle.send_model.specs.Order.{heads_of, heads, commands_of}
use Rattle.send_model.specs.Outside.{IsAmong, is_among, part_uuids, base_of, keys_named, all_keys_named, keys_outside, FindsSayable}
use Rattle.send_model.specs.Provenance.{Traced, fresh, inode_with, traced_from, traced_subvolume, traced_store, is_own, is_redirected, clone_range, pieces_of, uuid_after}
use Rattle.send_model.specs.Counts.{is_clone, is_end}
use Rattle.send_model.specs.Composed.{first_head, last_head, head_command, piece_commands, commands_for, composed_edits, composed_with, composed_from}
use Rattle.send_model.specs.Laws.{CanWrite, AreInner}
use Rattle.send_model.specs.Cells.{Holds}
use Rattle.send_model.proofs.Sorts.{by_sort, is_plain, plain_step, plain_step_without, head_step, same_inside}
use Rattle.send_model.proofs.Fuel.{ok_same}
use Rattle.send_model.proofs.Runs.{Takes, takes_run}
use Rattle.send_model.proofs.Stores.{finds_one_of, finds_unfinished}
use Rattle.send_model.proofs.Merging.{begun_begins, entered_taken, edited_taken}
use Rattle.send_model.proofs.Headlines.{among_all, without_finds}
use Rattle.send_model.proofs.CellClones.{all_steps-cells}
use Rattle.send_model.proofs.Held.{edit_holds}
use Rattle.send_model.proofs.Carrying.{InPlace}
use Rattle.send_model.proofs.Tracing.{byte_of, untraced_store, find_traced, holds_from, TTakes, takes_traced}
use Rattle.send_model.proofs.TracedBase.{traced_holds}
use Rattle.send_model.proofs.Redirected.{clone_stepped, clone_command_holds}
use Rattle.send_model.proofs.SpelledPieces.{IsInside, PathFits, KeyFits, path_first, redirected_inside}
use Rattle.send_model.proofs.Versions.{IsVersion}
use Rattle.send_model.proofs.Canonical.{spellable_first}
use Rattle.send_model.proofs.Streams.{end_writable}
use Rattle.send_model.proofs.ElementLaws.{all_both, all_first, all_rest}
use Rattle.send_model.proofs.MergingClones.{composed_by, composed_items, head_commands, head_uuid, plain_commands, plain_uuid, clone_without}
use Rattle.send_model.proofs.ComposedClones.{all_outside}

-- ---- bytes

abbrev IsByte : Traced → Type 0
IsByte c = c.byte < 256

fresh_bytes : (bytes : List ℕ) → IsBytes bytes → AllByRecursion IsByte (map fresh bytes)
fresh_bytes [] b = tt
fresh_bytes (x ∷ bytes) b = (b.0, fresh_bytes bytes b.1)

pub written_bytes : (version : ℕ) (c : Command) → IsSpellable version c → IsBytes (bytes_of c)
unfolding row
written_bytes version (Write path offset bytes) s = let v = s.values in v.1.1.0.1
written_bytes version c s = tt

traced_bytes : (key : Key) (ino offset : ℕ) (bytes : List ℕ) → IsBytes bytes → AllByRecursion IsByte (traced_from key ino offset bytes)
traced_bytes key ino offset [] b = tt
traced_bytes key ino offset (x ∷ bytes) b = (b.0, traced_bytes key ino (offset + 1) bytes b.1)

traced_inodes : (key : Key) (m : Map ℕ (Inode ℕ)) → AllByRecursion (λ (e : ℕ × Inode ℕ). IsBytes e.1.cells) m
    → AllByRecursion (λ (e : ℕ × Inode Traced). AllByRecursion IsByte e.1.cells) (map (λ (e : ℕ × Inode ℕ). (e.0, inode_with e.1 (traced_from key e.0 0 e.1.cells))) m)
traced_inodes key [] b = tt
traced_inodes key (e ∷ m) b = (traced_bytes key e.0 0 e.1.cells b.0, traced_inodes key m b.1)

traced_holds_bytes : (key : Key) (s : Subvolume ℕ) → AllByRecursion (λ (e : ℕ × Inode ℕ). IsBytes e.1.cells) s.inodes → Holds IsByte (traced_subvolume key s)
unfolding traced_subvolume
traced_holds_bytes key s b = holds_from IsByte (traced_subvolume key s) (traced_inodes key s.inodes b)

-- ---- the run

module _ (version : ℕ) (is : IsVersion version) (base : Store ℕ) (keys : List Key) (parts : List (List ℕ)) (last : Key) where
  -- Each cell is a byte, and stands at its place if it has one.
  abbrev AreRight : Subvolume Traced → Type 0
  AreRight s = Holds (InPlace base keys) s × Holds IsByte s

  abbrev IsListed : Key → Type 0
  IsListed k = is_among parts k.uuid ≡ false → IsAmong k keys

  abbrev FindsRight : Store Traced → Type 0
  FindsRight store = (k : Key) (t : Subvolume Traced) → IsListed k → find store k ≡ Some t → AreRight t

  abbrev PartRight : Option (Part Traced) → Option (List ℕ) → Type 0
  PartRight None current = Unit {0}
  PartRight (Some part) current = AreRight part.subvolume × (current ≡ Some part.key.uuid)

  completed_right : (store : Store Traced) (part : Option (Part Traced)) (current : Option (List ℕ)) → FindsRight store → PartRight part current → FindsRight (completed (record { store = store; part = part }))
  unfolding completed
  completed_right store None current f p = f
  completed_right store (Some part) current f p = λ k t listed e. elim (finds_one_of part.key.uuid part.subvolume store k t e) [
    | inl same ↦ subst (λ (x : Subvolume Traced). AreRight x) (sym same) p.0
    | inr before ↦ f k t listed before
  ]

  root_right : AreRight root_alone
  unfolding root_alone
  root_right = ((root_alone, refl), (root_alone, refl))

  started_right : (store : Store Traced) (parent : Option Key) (start : Subvolume Traced) → FindsRight store → AllByRecursion IsListed (elim parent as (λ x. List Key) [ None ↦ [] | Some k ↦ k ∷ [] ]) → start_from store parent ≡ Ok start → AreRight start
  started_right store None start f listed e = subst (λ (x : Subvolume Traced). AreRight x) (ok_same e) root_right
  started_right store (Some k) start f listed e = one (find store k) refl e
    where
      one : (o : Option (Subvolume Traced)) → find store k ≡ o → found o NoParent ≡ Ok start → AreRight start
      one None g h = cc
      one (Some t) g h = subst (λ (x : Subvolume Traced). AreRight x) (ok_same h) (f k t listed.0 g)

  parent_listed : (c : Command) (head : Head) → head_of c ≡ Some head → AllByRecursion IsListed (keys_named c) → AllByRecursion IsListed (elim head.parent as (λ x. List Key) [ None ↦ [] | Some k ↦ k ∷ [] ])
  parent_listed (Subvol uuid ctransid path) head h l = subst (λ (x : Head). AllByRecursion IsListed (elim x.parent as (λ x. List Key) [ None ↦ [] | Some k ↦ k ∷ [] ])) (same_inside h) tt
  parent_listed (Snapshot uuid ctransid path clone_uuid clone_ctransid) head h l = subst (λ (x : Head). AllByRecursion IsListed (elim x.parent as (λ x. List Key) [ None ↦ [] | Some k ↦ k ∷ [] ])) (same_inside h) l
  parent_listed c head h l = cc

  abbrev IsRight : State Traced → Option (List ℕ) → Type 0
  IsRight state current = FindsRight state.store × PartRight state.part current

  -- What stands for one command can be spelled, and what it leaves is right.
  abbrev Advances : Command → Type 0
  Advances c = (store : Store Traced) (part : Option (Part Traced)) (current : Option (List ℕ)) → FindsRight store → PartRight part current → IsSpellable version c → AllByRecursion IsListed (keys_named c)
      → (step (fresh 0) (map fresh (bytes_of c)) (record { store = store; part = part }) c).refusal ≡ None
      → AllByRecursion (IsInside version) (commands_for base parts last (record { store = store; part = part }) current c) × IsRight (step (fresh 0) (map fresh (bytes_of c)) (record { store = store; part = part }) c).state (uuid_after current c)

  advances_end : Advances End
  unfolding step
  advances_end store part current f p s l t = (tt, (completed_right store part current f p, tt))

  advances_head : (c : Command) (head : Head) → head_of c ≡ Some head → Advances c
  unfolding step_head
  advances_head c head h store part current f p s l t =
      let σ : State Traced = record { store = store; part = part } in
      let put : List Traced = map fresh (bytes_of c) in
      let done : Store Traced = completed σ in
      let right : FindsRight done = completed_right store part current f p in
      let is_head : step (fresh 0) put σ c ≡ entered done head (begun done head) = head_step (fresh 0) put σ c head h in
      let ok = entered_taken done head (begun done head) (subst (λ (x : Stepped Traced). x.refusal ≡ None) is_head t) in
      let b = begun_begins done head ok.0 ok.1 in
      let start_right : AreRight ok.0 = started_right done head.parent ok.0 right (parent_listed c head h l) b.from in
      let new : Store Traced = done ++ unfinished head ∷ [] in
      let after : State Traced = record { store = new; part = Some (record { key = head.key; subvolume = ok.0 }) } in
      let state_is : (step (fresh 0) put σ c).state ≡ after = ap (λ (x : Stepped Traced). x.state) (is_head ∙ ap (entered done head) ok.1) in
      let new_right : FindsRight new = λ k x listed e. right k x listed (sym (finds_unfinished head done k) ∙ e) in (
        subst (λ (cs : List Command). AllByRecursion (IsInside version) cs) (sym (head_commands base parts last σ current c head h)) tt,
        subst (λ (x : State Traced). IsRight x (uuid_after current c)) (sym state_is) (new_right, (start_right, head_uuid current c head h)),
      )

  advances_plain : (c : Command) → is_plain c ≡ true → Advances c
  advances_plain c h store None current f p s l t = absurd (let e : Some NoSubvolume ≡ None = sym (plain_step_without (fresh 0) (map fresh (bytes_of c)) store c h) ∙ t in cc)
  advances_plain c h store (Some part) current f p s l t =
      let put : List Traced = map fresh (bytes_of c) in
      let r : Result (Subvolume Traced) Refusal = edit (fresh 0) put c part.subvolume in
      let σ : State Traced = record { store = store; part = Some part } in
      let is_edit : step (fresh 0) put σ c ≡ edited store part r = plain_step (fresh 0) put store part c h in
      let ok = edited_taken store part r (subst (λ (x : Stepped Traced). x.refusal ≡ None) is_edit t) in
      let state_is : (step (fresh 0) put σ c).state ≡ record { store = store; part = Some (record { key = part.key; subvolume = ok.0 }) } = ap (λ (x : Stepped Traced). x.state) (is_edit ∙ ap (edited store part) ok.1) in
      let next_right : AreRight ok.0 = (
        edit_holds (InPlace base keys) (fresh 0) put c part.subvolume ok.0 tt (placed (bytes_of c)) p.0.0 ok.1,
        edit_holds IsByte (fresh 0) put c part.subvolume ok.0 (omega arith) (fresh_bytes (bytes_of c) (written_bytes version c s)) p.0.1 ok.1,
      ) in (
        subst (λ (cs : List Command). AllByRecursion (IsInside version) cs) (sym (plain_commands base parts last σ current c h)) ((s, (quiet c h).0, (quiet c h).1), tt),
        subst (λ (x : State Traced). IsRight x (uuid_after current c)) (sym state_is) (f, (next_right, plain_uuid current c h ∙ p.1)),
      )
    where
      placed : (bytes : List ℕ) → AllByRecursion (InPlace base keys) (map fresh bytes)
      placed [] = tt
      placed (b ∷ bytes) = (tt, placed bytes)

      quiet : (c : Command) → is_plain c ≡ true → (is_end c ≡ false) × (head_of c ≡ None)
      quiet (Subvol uuid ctransid path) h = absurd (false≢true h)
      quiet (Snapshot uuid ctransid path clone_uuid clone_ctransid) h = absurd (false≢true h)
      quiet End h = absurd (false≢true h)
      quiet c h = (refl, refl)

  -- The base has none of the parts.
  abbrev HasNoParts : Type 0
  HasNoParts = (k : Key) → is_among parts k.uuid ≡ true → find base k ≡ None

  module _ (last_fits : KeyFits last) (key_fits : (key : Key) → IsAmong key keys → KeyFits key) (sayable : FindsSayable base keys) where
    clone_inside : (store : Store Traced) (part : Part Traced) (current : Option (List ℕ)) (path : List ℕ) (offset : ℕ) (uuid : List ℕ) (ctransid : ℕ) (clone_path : List ℕ) (from len : ℕ) (after : Subvolume Traced)
        → FindsRight store → current ≡ Some part.key.uuid → IsSpellable version (Clone path offset uuid ctransid clone_path from len) → IsListed (record { uuid = uuid; ctransid = ctransid })
        → edit_part (fresh 0) [] store part (Clone path offset uuid ctransid clone_path from len) ≡ Ok after
        → AllByRecursion (IsInside version) (commands_for base parts last (record { store = store; part = Some part }) current (Clone path offset uuid ctransid clone_path from len))
    unfolding row
    clone_inside store part current path offset uuid ctransid clone_path from len after f now s listed ok = one (is_own current uuid) refl (is_redirected parts current this) refl
      where
        this : Command
        this = Clone path offset uuid ctransid clone_path from len

        -- a clone from its own part, which names the last one
        own_spelled : IsSpellable version (Clone path offset last.uuid last.ctransid clone_path from len)
        own_spelled = let v = s.values in spellable_first version (Clone path offset last.uuid last.ctransid clone_path from len) s.known
            (path_first version PATH path refl v.0, (v.1.0, (last_fits.0, (last_fits.1, (path_first version CLONE_PATH clone_path refl v.1.1.1.1.0, v.1.1.1.1.1)))))

        one : (a : Bool) → is_own current uuid ≡ a → (b : Bool) → is_redirected parts current (Clone path offset uuid ctransid clone_path from len) ≡ b
            → AllByRecursion (IsInside version) (commands_for base parts last (record { store = store; part = Some part }) current (Clone path offset uuid ctransid clone_path from len))
        one a x true y = redirected_inside version is base keys key_fits sayable parts last store part current [] path offset uuid ctransid clone_path from len after now y (λ t e. f (record { uuid = uuid; ctransid = ctransid }) t listed e) ok s
        one true x false y = subst (λ (a : Bool). AllByRecursion (IsInside version) (if a then Clone path offset last.uuid last.ctransid clone_path from len ∷ []
            else (if is_redirected parts current (Clone path offset uuid ctransid clone_path from len) then flat_map (piece_commands base path offset) (pieces_of base (clone_range (record { store = store; part = Some part }) (Clone path offset uuid ctransid clone_path from len)))
            else Clone path offset uuid ctransid clone_path from len ∷ []))) (sym x) ((own_spelled, refl, refl), tt)
        one false x false y = subst (λ (a : Bool). AllByRecursion (IsInside version) (if a then Clone path offset last.uuid last.ctransid clone_path from len ∷ []
            else (if is_redirected parts current (Clone path offset uuid ctransid clone_path from len) then flat_map (piece_commands base path offset) (pieces_of base (clone_range (record { store = store; part = Some part }) (Clone path offset uuid ctransid clone_path from len)))
            else Clone path offset uuid ctransid clone_path from len ∷ []))) (sym x)
            (subst (λ (b : Bool). AllByRecursion (IsInside version) (if b then flat_map (piece_commands base path offset) (pieces_of base (clone_range (record { store = store; part = Some part }) (Clone path offset uuid ctransid clone_path from len)))
            else Clone path offset uuid ctransid clone_path from len ∷ [])) (sym y) ((s, refl, refl), tt))

    advances_clone : (c : Command) → is_clone c ≡ true → Advances c
    advances_clone (Clone path offset uuid ctransid clone_path from len) h store None current f p s l t = absurd (let e : Some NoSubvolume ≡ None = sym (clone_without store path offset uuid ctransid clone_path from len) ∙ t in cc)
    advances_clone (Clone path offset uuid ctransid clone_path from len) h store (Some part) current f p s l t =
        let k = clone_stepped (fresh 0) [] store part path offset uuid ctransid clone_path from len t in
        let source : Key = record { uuid = uuid; ctransid = ctransid } in
        let next_right : AreRight k.0 = (
          clone_command_holds (InPlace base keys) (fresh 0) tt [] store part path offset uuid ctransid clone_path from len k.0 p.0.0 (λ n x e. (f source x l.0 e).0) k.1,
          clone_command_holds IsByte (fresh 0) (omega arith) [] store part path offset uuid ctransid clone_path from len k.0 p.0.1 (λ n x e. (f source x l.0 e).1) k.1,
        ) in (
          clone_inside store part current path offset uuid ctransid clone_path from len k.0 f p.1 s l.0 k.1,
          subst (λ (x : State Traced). IsRight x current) (sym k.2) (f, (next_right, p.1)),
        )
    advances_clone c h store part current f p s l t = absurd (false≢true h)

    all_inside : (cs : List Command) (store : Store Traced) (part : Option (Part Traced)) (current : Option (List ℕ)) (end : State Traced) → FindsRight store → PartRight part current
        → AllByRecursion (IsSpellable version) cs → AllByRecursion IsListed (all_keys_named cs) → TTakes (record { store = store; part = part }) cs end
        → AllByRecursion (IsInside version) (composed_by base parts last (record { store = store; part = part }) current cs)
    all_inside [] store part current end f p w l t = tt
    all_inside (c ∷ cs) store part current end f p w l t =
        let σ : State Traced = record { store = store; part = part } in
        let next : State Traced = (step (fresh 0) (map fresh (bytes_of c)) σ c).state in
        let a = by_sort {P = λ c. Advances c} (λ c head h. advances_head c head h) advances_end (λ c h. advances_clone c h) (λ c h. advances_plain c h) c store part current f p w.0
        (all_first IsListed (keys_named c) (all_keys_named cs) l) t.0 in
        all_both (IsInside version) (commands_for base parts last σ current c) (composed_by base parts last next (uuid_after current c) cs) a.0
        (all_inside cs next.store next.part (uuid_after current c) end a.1.0 a.1.1 w.1 (all_rest IsListed (keys_named c) (all_keys_named cs) l) t.1)

    base_right : HasNoParts → FindsRight (traced_store base)
    base_right no_parts k t listed e = one (is_among parts k.uuid) refl
      where
        two : IsAmong k keys → (o : Option (Subvolume ℕ)) → find base k ≡ o → option_map (traced_subvolume k) o ≡ Some t → AreRight t
        two among None g h = cc
        two among (Some s) g h =
            let y = sayable k s among g in
            subst (λ (x : Subvolume Traced). AreRight x) (same_inside h) (traced_holds base keys k s among g y.lawful.sound.inodes_in_order, traced_holds_bytes k s y.byte_cells)

        one : (b : Bool) → is_among parts k.uuid ≡ b → AreRight t
        one true i = absurd (let at : Some t ≡ None = sym e ∙ find_traced base k ∙ ap (option_map (traced_subvolume k)) (no_parts k i) in cc)
        one false i = two (listed i) (find base k) refl (sym (find_traced base k) ∙ e)

    run_inside : HasNoParts → (cs : List Command) (end : State ℕ) → AllByRecursion (IsSpellable version) cs → AllByRecursion IsListed (all_keys_named cs) → Takes (start_of base) cs end
        → AllByRecursion (IsInside version) (composed_by base parts last (start_of (traced_store base)) None cs)
    run_inside no_parts cs end w l taken =
        let τ : State Traced = start_of (traced_store base) in
        let traced = takes_traced (λ c put state. all_steps-cells byte_of c (fresh 0) put state) cs τ end (subst (λ (st : Store ℕ). Takes (start_of st) cs end) (sym (untraced_store base)) taken) in
        all_inside cs (traced_store base) None None traced.0 (base_right no_parts) tt w l traced.1

-- ---- heads and keys

abbrev ParentFits : Option Key → Type 0
ParentFits None = Unit {0}
ParentFits (Some k) = KeyFits k

abbrev HeadFits : Head → Type 0
HeadFits h = PathFits h.name × KeyFits h.key × ParentFits h.parent

pub heads_fit : (version : ℕ) (cs : List Command) → AllByRecursion (IsSpellable version) cs → AllByRecursion HeadFits (heads_of cs)
unfolding heads_of row
heads_fit version [] w = tt
heads_fit version (Subvol uuid ctransid path ∷ cs) w = let v = w.0.values in ((path_first version PATH path refl v.1.1.0, (v.0, v.1.0), tt), heads_fit version cs w.1)
heads_fit version (Snapshot uuid ctransid path clone_uuid clone_ctransid ∷ cs) w = let v = w.0.values in ((path_first version PATH path refl v.1.1.0, (v.0, v.1.0), (v.1.1.1.0, v.1.1.1.1.0)), heads_fit version cs w.1)
heads_fit version (c ∷ cs) w = heads_fit version cs w.1

pub keys_fit : (version : ℕ) (cs : List Command) → AllByRecursion (IsSpellable version) cs → AllByRecursion KeyFits (all_keys_named cs)
unfolding row
keys_fit version [] w = tt
keys_fit version (Snapshot uuid ctransid path clone_uuid clone_ctransid ∷ cs) w = let v = w.0.values in ((v.1.1.1.0, v.1.1.1.1.0), keys_fit version cs w.1)
keys_fit version (Clone path offset uuid ctransid clone_path from len ∷ cs) w = let v = w.0.values in ((v.1.1.0, v.1.1.1.0), keys_fit version cs w.1)
keys_fit version (c ∷ cs) w = keys_fit version cs w.1

pub kept_fit : (P : Key → Type 0) (p : Key → Bool) (ks : List Key) → AllByRecursion P ks → AllByRecursion P (filter p ks)
kept_fit P p [] a = tt
kept_fit P p (k ∷ ks) a = one (p k) (kept_fit P p ks a.1)
  where
    one : (b : Bool) → AllByRecursion P (filter p ks) → AllByRecursion P (cond b (k ∷ filter p ks) (filter p ks))
    one true more = (a.0, more)
    one false more = more

pub first_fits : (hs : List Head) (h : Head) → AllByRecursion HeadFits hs → first_head hs ≡ Some h → HeadFits h
first_fits [] h a e = cc
first_fits (x ∷ hs) h a e = subst (λ (y : Head). HeadFits y) (same_inside e) a.0

pub last_fits_of : (hs : List Head) (h : Head) → AllByRecursion HeadFits hs → last_head hs ≡ Some h → HeadFits h
last_fits_of [] h a e = cc
last_fits_of (x ∷ []) h a e = subst (λ (y : Head). HeadFits y) (same_inside e) a.0
last_fits_of (x ∷ y ∷ hs) h a e = last_fits_of (y ∷ hs) h a.1 e

-- Both versions have SUBVOL and SNAPSHOT.
head_known : (version : ℕ) → IsVersion version → (name : List ℕ) (key : Key) (parent : Option Key) → IsKnown version (kind_of (head_command name key parent))
unfolding kind_of_number row
head_known version is name key None = ⊎_elim (λ e. subst (λ (v : ℕ). IsKnown v SUBVOL) (sym e) refl) (λ e. subst (λ (v : ℕ). IsKnown v SUBVOL) (sym e) refl) is
head_known version is name key (Some parent) = ⊎_elim (λ e. subst (λ (v : ℕ). IsKnown v SNAPSHOT) (sym e) refl) (λ e. subst (λ (v : ℕ). IsKnown v SNAPSHOT) (sym e) refl) is

pub head_spelled : (version : ℕ) → IsVersion version → (name : List ℕ) (key : Key) (parent : Option Key) → PathFits name → KeyFits key → ParentFits parent → IsSpellable version (head_command name key parent)
unfolding row
head_spelled version is name key None n k p = spellable_first version (head_command name key None) (head_known version is name key None) (k.0, (k.1, (n, tt)))
head_spelled version is name key (Some parent) n k p = spellable_first version (head_command name key (Some parent)) (head_known version is name key (Some parent)) (k.0, (k.1, (n, (p.0, (p.1, tt)))))

-- A head is no END.
pub head_inner : (name : List ℕ) (key : Key) (parent : Option Key) → is_end (head_command name key parent) ≡ false
head_inner name key None = refl
head_inner name key (Some parent) = refl

-- The head that stands for a first and a last one among commands.
pub heads_spelled : (version : ℕ) → IsVersion version → (cs : List Command) (first last : Head) → first_head (heads_of cs) ≡ Some first → last_head (heads_of cs) ≡ Some last → AllByRecursion (IsSpellable version) cs → IsSpellable version (head_command last.name last.key first.parent)
heads_spelled version is cs first last first_is last_is w =
    let fits = heads_fit version cs w in
    let first_fit = first_fits (heads_of cs) first fits first_is in
    let last_fit = last_fits_of (heads_of cs) last fits last_is in
    head_spelled version is last.name last.key first.parent last_fit.0 last_fit.1 first_fit.2

-- What is composed inside the one part from items whose commands can be spelled.
edits_inside : (version : ℕ) → IsVersion version → (store : Store ℕ) (items : List Item) (last : Head) → last_head (heads items) ≡ Some last
    → AllByRecursion (IsSpellable version) (commands_of items) → IsAccepted (run_items 0 byte_cells (start_of (base_of store items)) items) → FindsSayable (base_of store items) (keys_outside items)
    → AllByRecursion (IsInside version) (composed_edits (base_of store items) last.key items)
unfolding composed_edits
edits_inside version is store items last last_is w accepted sayable =
    let b : Store ℕ = base_of store items in
    let parts : List (List ℕ) = part_uuids items in
    let keys : List Key = keys_outside items in
    let cs : List Command = commands_of items in
    let last_fit = last_fits_of (heads items) last (heads_fit version cs w) last_is in
    let key_fits : (key : Key) → IsAmong key keys → KeyFits key = λ key among. among_all KeyFits key keys (kept_fit KeyFits (λ key. not (is_among parts key.uuid)) (all_keys_named cs) (keys_fit version cs w)) among in
    let inside = run_inside version is b keys parts last.key last_fit.1 key_fits sayable (λ k i. without_finds parts store k i) cs (run_items 0 byte_cells (start_of b) items).state w (all_outside parts (all_keys_named cs)) (takes_run items (start_of b) accepted) in
    subst (λ (es : List Command). AllByRecursion (IsInside version) es) (sym (composed_items b parts last.key items (start_of (traced_store b)) None)) inside

all_spelled : (version : ℕ) (cs : List Command) → AllByRecursion (IsInside version) cs → AllByRecursion (IsSpellable version) cs
all_spelled version [] i = tt
all_spelled version (c ∷ cs) i = (i.0.0, all_spelled version cs i.1)

-- The whole list can be spelled.
pub composed_spelled : (version : ℕ) → IsVersion version → (store : Store ℕ) (items : List Item) (first last : Head) → first_head (heads items) ≡ Some first → last_head (heads items) ≡ Some last
    → AllByRecursion (IsSpellable version) (commands_of items) → IsAccepted (run_items 0 byte_cells (start_of (base_of store items)) items) → FindsSayable (base_of store items) (keys_outside items)
    → AllByRecursion (IsSpellable version) (composed_with (base_of store items) first last items)
unfolding composed_with row
composed_spelled version is store items first last first_is last_is w accepted sayable =
    let es : List Command = composed_edits (base_of store items) last.key items in (
      heads_spelled version is (commands_of items) first last first_is last_is w,
      all_both (IsSpellable version) es (End ∷ []) (all_spelled version es (edits_inside version is store items last last_is w accepted sayable)) ((end_writable version is).spellable, tt),
    )

pub are_inner : (version : ℕ) (cs : List Command) → AllByRecursion (IsInside version) cs → AreInner version cs
are_inner version [] i = tt
are_inner version (c ∷ cs) i = ((record { spellable = i.0.0 }, i.0.1), are_inner version cs i.1)

pub are_spelled : (version : ℕ) (cs : List Command) → AllByRecursion (CanWrite version) cs → AllByRecursion (IsSpellable version) cs
are_spelled version [] w = tt
are_spelled version (c ∷ cs) w = (w.0.spellable, are_spelled version cs w.1)

-- What is composed from items whose commands can be written can be written.
pub composed_inner : (version : ℕ) → IsVersion version → (store : Store ℕ) (items : List Item) (first last : Head) → first_head (heads items) ≡ Some first → last_head (heads items) ≡ Some last
    → AllByRecursion (CanWrite version) (commands_of items) → IsAccepted (run_items 0 byte_cells (start_of (base_of store items)) items) → FindsSayable (base_of store items) (keys_outside items)
    → AreInner version (head_command last.name last.key first.parent ∷ composed_edits (base_of store items) last.key items)
unfolding composed_edits edits_inside
composed_inner version is store items first last first_is last_is w accepted sayable =
    let b : Store ℕ = base_of store items in
    let parts : List (List ℕ) = part_uuids items in
    let cs : List Command = commands_of items in
    let spelled = are_spelled version cs w in (
      (record { spellable = heads_spelled version is cs first last first_is last_is spelled }, head_inner last.name last.key first.parent),
      are_inner version (composed_edits b last.key items) (edits_inside version is store items last last_is spelled accepted sayable),
    )

-- ---- first items of others

named_append : (cs ds : List Command) → all_keys_named (cs ++ ds) ≡ all_keys_named cs ++ all_keys_named ds
named_append [] ds = refl
named_append (c ∷ cs) ds = ap (λ (ks : List Key). keys_named c ++ ks) (named_append cs ds) ∙ sym (append_assoc (keys_named c) (all_keys_named cs) (all_keys_named ds))

pub commands_append : (items more : List Item) → commands_of (items ++ more) ≡ commands_of items ++ commands_of more
commands_append [] more = refl
commands_append (item ∷ items) more = ap (λ (cs : List Command). item.command ∷ cs) (commands_append items more)

-- What stands for first items of others, as the part of the others' last head, can be written where
-- all of them can.
pub front_inner : (version : ℕ) → IsVersion version → (store : Store ℕ) (all items more : List Item) (end : State ℕ) (first last : Head) → all ≡ items ++ more → first_head (heads items) ≡ Some first → last_head (heads all) ≡ Some last
    → AllByRecursion (CanWrite version) (commands_of all) → Takes (start_of (base_of store all)) (commands_of items) end → FindsSayable (base_of store all) (keys_outside all)
    → AreInner version (head_command last.name last.key first.parent ∷ composed_from (base_of store all) (part_uuids all) last.key (start_of (traced_store (base_of store all))) None items)
front_inner version is store all items more end first last same first_is last_is w taken sayable =
    let b : Store ℕ = base_of store all in
    let parts : List (List ℕ) = part_uuids all in
    let keys : List Key = keys_outside all in
    let cs : List Command = commands_of items in
    let ds : List Command = commands_of all in
    let rest : List Command = commands_of more in
    let split : ds ≡ cs ++ rest = ap commands_of same ∙ commands_append items more in
    let can = all_first (CanWrite version) cs rest (subst (λ (xs : List Command). AllByRecursion (CanWrite version) xs) split w) in
    let spelled = are_spelled version cs can in
    let all_can = are_spelled version ds w in
    let last_fit = last_fits_of (heads all) last (heads_fit version ds all_can) last_is in
    let first_fit = first_fits (heads items) first (heads_fit version cs spelled) first_is in
    let key_fits : (key : Key) → IsAmong key keys → KeyFits key = λ key among. among_all KeyFits key keys (kept_fit KeyFits (λ key. not (is_among parts key.uuid)) (all_keys_named ds) (keys_fit version ds all_can)) among in
    let named : all_keys_named ds ≡ all_keys_named cs ++ all_keys_named rest = ap all_keys_named split ∙ named_append cs rest in
    let listed = all_first (λ k. is_among parts k.uuid ≡ false → IsAmong k keys) (all_keys_named cs) (all_keys_named rest) (subst (λ (ks : List Key). AllByRecursion (λ k. is_among parts k.uuid ≡ false → IsAmong k keys) ks) named (all_outside parts (all_keys_named ds))) in
    let inside = run_inside version is b keys parts last.key last_fit.1 key_fits sayable (λ k i. without_finds parts store k i) cs end spelled listed taken in
    let τ : State Traced = start_of (traced_store b) in
    let by = composed_items b parts last.key items τ None in (
      (record { spellable = head_spelled version is last.name last.key first.parent last_fit.0 last_fit.1 first_fit.2 }, head_inner last.name last.key first.parent),
      subst (λ (es : List Command). AreInner version es) (sym by) (are_inner version _ inside),
    )
