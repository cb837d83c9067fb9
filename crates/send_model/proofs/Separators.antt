-- Separators leave the state as it is; neutral commands in between change nothing; and the real
-- receiver, where nothing goes astray.
use Rattle.std.specs.Prelude.{◌≡◌, ◌≢◌, ℕ, ◌≤◌, ◌==◌, Bool, true, false, cond, List, [], ◌∷◌, ◌++◌, Option, None, Some, Result, Ok, Err, is_some, nat_le}
use Rattle.std.specs.declared.cmp.Ordering.{Ordering}
use Rattle.std.specs.Ordering.{nat_cmp}
use Rattle.std.specs.Cmp.{IsTotalOrder, nat_cmp_total}
use Rattle.std.specs.FinMap.Entries.{same_entries}
use Rattle.std.proofs.Common.{refl, sym, ap, subst, ◌∙◌, arith, inl, inr, leb-true}
use Rattle.std.proofs.lemmas.Bool.{eq-eqb}
use Rattle.std.proofs.lemmas.Map.Lookups.{CmpEqualImpliesEq, exact_unsigned}
use Rattle.send_model.specs.Refusal.{Refusal}
use Rattle.send_model.specs.Path.{path_names}
use Rattle.send_model.specs.Map.{Map, IsMap, named_cmp, value_at, with_value, without}
use Rattle.send_model.specs.Command.{Command, Link, Unlink, Utimes}
use Rattle.send_model.specs.Subvolume.{NodeKind, File, Inode, Subvolume, Spot, IsSound, root, epoch, passes_inode, is_file_kind, is_directory_kind, inode_at, named, is_file, is_directory, walk, walk_names, spot, name_count}
use Rattle.send_model.specs.Edit.{edit, change_contents, change_inode, change_at, written_at, set_cells, set_inode, add_name, take_name, link, unlink}
use Rattle.send_model.specs.Store.{Key, Store, Part, State, Stepped, step, edited}
use Rattle.send_model.specs.Receive.{bytes_of}
use Rattle.send_model.specs.Separated.{LeadTo, with_all, NeutralChangesNothing, TouchIsNeutral, DetourIsNeutral, touch, detour, names_file, mtime_of_root, atime_of_root}
use Rattle.send_model.proofs.Sorts.{is_plain, plain_step}
use Rattle.send_model.proofs.MapLaws.{counts_one, cases_key, with_value-here, with_value-other, without-here, without-other, with_value-order, without-order, count-with_value, named_cmp_total, named_cmp_exact}

pub lead-append : (cs ds : List Command) (state middle end : State ℕ) → LeadTo state cs middle → LeadTo middle ds end → LeadTo state (cs ++ ds) end
lead-append [] ds state middle end e t = let P : State ℕ → Type 0 = λ s. LeadTo s ds end in subst P (sym e) t
lead-append (c ∷ cs) ds state middle end (h, t) u = (h, lead-append cs ds _ middle end t u)

pub neutral_changes_nothing : NeutralChangesNothing
neutral_changes_nothing [] state end n t = t
neutral_changes_nothing (l ∷ ls) state end (n, ns) (h, t) =
    lead-append l.before (l.command ∷ with_all ls) state state end n (h, neutral_changes_nothing ls _ end ns t)

-- ---- maps

module _ {K X : Type 0} (R : K → K → Ordering) (o : IsTotalOrder R) (exact : CmpEqualImpliesEq R) where
  -- The value that is there, put there again.
  pub with_value-same : (k : K) (x : X) (m : Map K X) → IsMap R m → value_at R k m ≡ Some x → with_value R k x m ≡ m
  with_value-same k x m h some = same_entries R o exact (with_value R k x m) m (with_value-order R o exact k x m h) h one
    where
      one : (q : K) → value_at R q (with_value R k x m) ≡ value_at R q m
      one q = elim (cases_key R o exact q k) [
        | inl e ↦ subst (λ (y : K). value_at R y (with_value R k x m) ≡ value_at R y m) (sym e) (with_value-here R o exact k x m ∙ sym some)
        | inr n ↦ with_value-other R o exact q k x m n
      ]

  -- A key that was not there, put there and taken away.
  pub without-new : (k : K) (x : X) (m : Map K X) → IsMap R m → value_at R k m ≡ None → without R k (with_value R k x m) ≡ m
  without-new k x m h none = same_entries R o exact (without R k (with_value R k x m)) m (without-order R o exact k (with_value R k x m) (with_value-order R o exact k x m h)) h one
    where
      one : (q : K) → value_at R q (without R k (with_value R k x m)) ≡ value_at R q m
      one q = elim (cases_key R o exact q k) [
        | inl e ↦ subst (λ (y : K). value_at R y (without R k (with_value R k x m)) ≡ value_at R y m) (sym e) (without-here R o exact k (with_value R k x m) ∙ sym none)
        | inr n ↦ without-other R o exact q k (with_value R k x m) n ∙ with_value-other R o exact q k x m n
      ]

-- ---- inodes

-- An inode that is set to itself.
pub unchanged : {C : Type 0} (ino : ℕ) (change : Inode C → Inode C) (s : Subvolume C) → IsMap nat_cmp s.inodes → ((i : Inode C) → inode_at s ino ≡ Some i → change i ≡ i) → change_inode ino change s ≡ s
unfolding change_inode
unchanged {C = C} ino change s ordered same = one (inode_at s ino) refl
  where
    one : (o : Option (Inode C)) → inode_at s ino ≡ o → elim o as (λ x. Subvolume C) [ None ↦ s | Some inode ↦ set_inode ino (change inode) s ] ≡ s
    one None e = refl
    one (Some i) e = ap (λ (m : Map ℕ (Inode C)). record { inodes = m; names = s.names; next = s.next }) (ap (λ (j : Inode C). with_value nat_cmp ino j s.inodes) (same i e) ∙ with_value-same nat_cmp nat_cmp_total exact_unsigned ino i s.inodes ordered e)

-- ---- a WRITE of no bytes

pub record NamesFile (s : Subvolume ℕ) (path : List ℕ) : Type 0 where
  pub ino : ℕ
  pub walked : walk s path ≡ Ok ino
  pub file : is_file s ino ≡ true

pub names_some : (s : Subvolume ℕ) (path : List ℕ) → names_file s path ≡ true → NamesFile s path
names_some s path h = one (walk s path) refl h
  where
    one : (r : Result ℕ Refusal) → walk s path ≡ r → elim r as (λ x. Bool) [ Err refusal ↦ false | Ok ino ↦ is_file s ino ] ≡ true → NamesFile s path
    one (Ok ino) e f = record { ino = ino; walked = e; file = f }
    one (Err refusal) e f = cc

pub touch_edit : (s : Subvolume ℕ) (path : List ℕ) → IsMap nat_cmp s.inodes → NamesFile s path → edit 0 [] (touch path) s ≡ Ok s
unfolding edit change_contents written_at
touch_edit s path ordered n = rw n.walked (rw n.file (ap (λ (x : Subvolume ℕ). Ok x) (unchanged n.ino (set_cells (λ cells. cells)) s ordered (λ i e. refl))))

pub touch_is_neutral : TouchIsNeutral
touch_is_neutral state part path e sound h = one state.part refl e
  where
    one : (p : Option (Part ℕ)) → state.part ≡ p → p ≡ Some part → LeadTo state (touch path ∷ []) state
    one p f g =
        let stepped : step 0 [] state (touch path) ≡ edited state.store part (Ok part.subvolume) =
        ap (λ (o : Option (Part ℕ)). step 0 [] (record { store = state.store; part = o }) (touch path)) e
        ∙ plain_step 0 [] state.store part (touch path) refl
        ∙ ap (edited state.store part) (touch_edit part.subvolume path sound.inodes_in_order (names_some part.subvolume path h)) in (
          ap (λ (x : Stepped ℕ). x.refusal) stepped,
          ap (λ (x : Stepped ℕ). x.state) stepped ∙ ap (λ (o : Option (Part ℕ)). record { store = state.store; part = o }) (sym e),
        )

-- ---- plain edits in one part

abbrev pub here : Store ℕ → Key → Subvolume ℕ → State ℕ
here store key s = record { store = store; part = Some (record { key = key; subvolume = s }) }

-- Plain edits are all taken, and lead from one subvolume to another.
abbrev pub EditsTo : Subvolume ℕ → List Command → Subvolume ℕ → Type 0
EditsTo s [] t = s ≡ t
EditsTo s (c ∷ cs) t = (is_plain c ≡ true) × ((next : Subvolume ℕ) × (edit 0 (bytes_of c) c s ≡ Ok next) × EditsTo next cs t)

pub plain_taken : (store : Store ℕ) (key : Key) (s next : Subvolume ℕ) (c : Command) → is_plain c ≡ true → edit 0 (bytes_of c) c s ≡ Ok next → step 0 (bytes_of c) (here store key s) c ≡ record { state = here store key next; refusal = None }
plain_taken store key s next c p e = plain_step 0 (bytes_of c) store (record { key = key; subvolume = s }) c p ∙ ap (edited store (record { key = key; subvolume = s })) e

pub lead_edits : (store : Store ℕ) (key : Key) (cs : List Command) (s t : Subvolume ℕ) → EditsTo s cs t → LeadTo (here store key s) cs (here store key t)
lead_edits store key [] s t e = ap (here store key) e
lead_edits store key (c ∷ cs) s t (p, (next, e, rest)) =
    let is = plain_taken store key s next c p e in
    let P : State ℕ → Type 0 = λ x. LeadTo x cs (here store key t) in
    (ap (λ (x : Stepped ℕ). x.refusal) is, subst P (sym (ap (λ (x : Stepped ℕ). x.state) is)) (lead_edits store key cs next t rest))

pub state_here : (state : State ℕ) (part : Part ℕ) → state.part ≡ Some part → state ≡ here state.store part.key part.subvolume
state_here state part e = ap (λ (o : Option (Part ℕ)). record { store = state.store; part = o }) e

-- ---- the detour

kind_apart : (k : NodeKind) → is_file_kind k ≡ true → is_directory_kind k ≡ false
kind_apart File h = refl
kind_apart k h = cc

pub file_no_directory : (s : Subvolume ℕ) (ino : ℕ) → is_file s ino ≡ true → is_directory s ino ≡ false
unfolding is_file is_directory
file_no_directory s ino h = one (inode_at s ino) h
  where
    one : (o : Option (Inode ℕ)) → passes_inode (λ inode. is_file_kind inode.kind) o ≡ true → passes_inode (λ inode. is_directory_kind inode.kind) o ≡ false
    one None f = cc
    one (Some i) f = kind_apart i.kind f

file_there : (s : Subvolume ℕ) (ino : ℕ) → is_file s ino ≡ true → is_some (inode_at s ino) ≡ true
unfolding is_file
file_there s ino h = one (inode_at s ino) h
  where
    one : (o : Option (Inode ℕ)) → passes_inode (λ inode. is_file_kind inode.kind) o ≡ true → is_some o ≡ true
    one None f = cc
    one (Some i) f = refl

module _ (s : Subvolume ℕ) (name : List ℕ) (sound : IsSound s) (split : path_names name ≡ Some (name ∷ [])) where
  abbrev pub place : Spot
  place = record { directory = root; name = name }

  root_is : is_directory s root ≡ true
  root_is = sound.root_there

  pub spot_is : (t : Subvolume ℕ) → is_directory t root ≡ true → spot t name ≡ Ok place
  unfolding spot walk_names
  spot_is t d = rw split (rw d refl)

  pub linked : (path : List ℕ) (n : NamesFile s path) → named s root name ≡ None → edit 0 [] (Link name path) s ≡ Ok (add_name place n.ino s)
  unfolding edit link
  linked path n free = rw split (rw n.walked (rw (file_no_directory s n.ino n.file) (rw (spot_is s root_is) (rw free refl))))

  pub linked_there : (ino : ℕ) → named (add_name place ino s) root name ≡ Some ino
  linked_there ino = with_value-here named_cmp named_cmp_total named_cmp_exact (root, name) ino s.names

  pub linked_root : (ino : ℕ) → is_directory (add_name place ino s) root ≡ true
  unfolding is_directory
  linked_root ino = root_is

  pub linked_file : (ino : ℕ) → is_file s ino ≡ true → is_file (add_name place ino s) ino ≡ true
  unfolding is_file
  linked_file ino f = f

  pub linked_walk : (ino : ℕ) → walk (add_name place ino s) name ≡ Ok ino
  unfolding walk walk_names
  linked_walk ino = rw split (rw (linked_root ino) (rw (linked_there ino) refl))

  root_apart : (ino : ℕ) → is_file s ino ≡ true → ino ≢ root
  root_apart ino f e = let d : is_directory s ino ≡ true = subst (λ (i : ℕ). is_directory s i ≡ true) (sym e) root_is in let g = file_no_directory s ino f in cc

  many : (ino : ℕ) → is_file s ino ≡ true → named s root name ≡ None → nat_le (name_count (add_name place ino s) ino) 1 ≡ false
  unfolding name_count
  many ino f free =
      let before : 1 ≤ name_count s ino = sound.has_name ino (file_there s ino f) (root_apart ino f) in
      let after = count-with_value named_cmp named_cmp_total named_cmp_exact ino (root, name) ino s.names free in
      one (nat_le (name_count (add_name place ino s) ino) 1) refl (let self : ◌≡◌ {A = ℕ} (cond (ino == ino) 1 0) 1 = counts_one (ino == ino) (eq-eqb ino ino refl) in omega (arith, before, after, self))
    where
      one : (b : Bool) → nat_le (name_count (add_name place ino s) ino) 1 ≡ b → 2 ≤ name_count (add_name place ino s) ino → b ≡ false
      one false e h = refl
      one true e h = let le : name_count (add_name place ino s) ino ≤ 1 = leb-true _ _ e in absurd (omega (arith, le, h))

  pub unlinked : (ino : ℕ) → is_file s ino ≡ true → named s root name ≡ None → edit 0 [] (Unlink name) (add_name place ino s) ≡ Ok s
  unfolding edit unlink take_name
  unlinked ino f free =
      rw (spot_is (add_name place ino s) (linked_root ino)) (rw (linked_there ino) (rw (file_no_directory (add_name place ino s) ino (linked_file ino f)) (rw (many ino f free)
      (ap (λ (m : Map (ℕ × List ℕ) ℕ). Ok (record { inodes = s.inodes; names = m; next = s.next })) (without-new named_cmp named_cmp_total named_cmp_exact (root, name) ino s.names sound.names_in_order free)))))

  pub timed : edit 0 [] (Utimes (mtime_of_root s) (atime_of_root s) []) s ≡ Ok s
  unfolding edit change_at walk walk_names path_names
  timed = ap (λ (x : Subvolume ℕ). Ok x) (unchanged root (λ inode. record inode { atime = atime_of_root s; mtime = mtime_of_root s }) s sound.inodes_in_order (λ i e. ap (λ (o : Option (Inode ℕ)). record i { atime = elim o [ None ↦ epoch | Some inode ↦ inode.atime ]; mtime = elim o [ None ↦ epoch | Some inode ↦ inode.mtime ] }) e))

  pub detour_edits : (path : List ℕ) → NamesFile s path → named s root name ≡ None → EditsTo s (detour s name path) s
  unfolding detour
  detour_edits path n free =
      let t : Subvolume ℕ = add_name place n.ino s in (
        refl,
        (
          t,
          linked path n free,
          (
            refl,
            (
              t,
              touch_edit t name sound.inodes_in_order (record { ino = n.ino; walked = linked_walk n.ino; file = linked_file n.ino n.file }),
              (
                refl,
                (
                  s,
                  unlinked n.ino n.file free,
                  (refl, (s, timed, refl)),
                ),
              ),
            ),
          ),
        ),
      )

pub detour_is_neutral : DetourIsNeutral
detour_is_neutral state part name path e sound h split free =
    let is = state_here state part e in
    let P : State ℕ → Type 0 = λ x. LeadTo x (detour part.subvolume name path) x in
    subst P (sym is) (lead_edits state.store part.key (detour part.subvolume name path) part.subvolume part.subvolume (detour_edits part.subvolume name sound split path (names_some part.subvolume path h) free))
