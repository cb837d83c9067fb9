-- Squashed commands are squashed to themselves: all their bytes stand.
use Rattle.std.specs.Prelude.{◌≡◌, ℕ, zero, suc, ◌+◌, ◌<◌, ◌==◌, Bool, true, false, ◌||◌, List, [], ◌∷◌, ◌++◌, map, Option, None, Some, ◌⊎◌}
use Rattle.std.specs.List.{list_any, flat_map}
use Rattle.std.specs.Option.{option_map}
use Rattle.std.proofs.Common.{refl, sym, ap, ap₂, subst, ◌∙◌, arith, eqb-true, inl, inr}
use Rattle.std.proofs.lemmas.Bool.{eq-eqb, cases_lt}
use Rattle.send_model.specs.Command.{Command}
use Rattle.send_model.specs.Map.{Map}
use Rattle.send_model.specs.Subvolume.{Inode, Subvolume}
use Rattle.send_model.specs.Store.{Entry, Store, Part, State}
use Rattle.send_model.specs.Receive.{start_of}
use Rattle.send_model.specs.Counts.{literal}
use Rattle.send_model.specs.Provenance.{inode_with}
use Rattle.send_model.specs.Cells.{recelled, recelled_entry, recelled_store, recelled_part, recelled_state}
use Rattle.send_model.specs.Separated.{LeadTo}
use Rattle.squash_model.specs.Squashed.{Birth, born_by, unborn, births_of, births_in, births_inside, part_births, births_left, stands, squashed_from, squashed}
use Rattle.squash_model.proofs.SquashedRuns.{KeepsOrder}
use Rattle.squash_model.proofs.StandingCells.{has, has_left, has_right, store_twice}
use Rattle.squash_model.proofs.SquashedSame.{leads_same}
use Rattle.squash_model.proofs.CountedSquash.{squashed_carried, all_stays}
use Rattle.squash_model.proofs.SameSquash.{blank_start, starts_born}
use Rattle.squash_model.proofs.Relabelled.{relabelled, said, said_leads, said_order, born_alike, one_more, rank, ranked, rank_next, squashed_numbered}

-- ---- births as bytes

-- All bytes of a state.
abbrev bytes_inside : Option (Subvolume ℕ) → List ℕ
bytes_inside None = []
bytes_inside (Some s) = flat_map (λ e. e.1.cells) s.inodes

abbrev bytes_left : State ℕ → List ℕ
bytes_left state = flat_map (λ e. bytes_inside e.contents) state.store ++ elim state.part as (λ x. List ℕ) [ None ↦ [] | Some part ↦ flat_map (λ e. e.1.cells) part.subvolume.inodes ]

module _ (label : ℕ → ℕ) (birth byte : ℕ) where
  -- What has the birth, once it is said, has the byte; or the other way round.
  module _ (here : label birth ≡ byte) where
    cells_say : (cells : List Birth) → has (births_of cells) birth ≡ true → has (map (said label) cells) byte ≡ true
    cells_say [] h = cc
    cells_say (None ∷ cells) h = has_right (0 ∷ []) (map (said label) cells) byte (cells_say cells h)
    cells_say (Some b ∷ cells) h = one (b == birth) refl h (cells_say cells)
      where
        one : (t : Bool) → (b == birth) ≡ t → t || has (births_of cells) birth ≡ true → (has (births_of cells) birth ≡ true → has (map (said label) cells) byte ≡ true)
            → (label b == byte) || has (map (said label) cells) byte ≡ true
        one true e q more = let same : label b ≡ byte = ap label (eqb-true b birth e) ∙ here in ap (λ (t : Bool). t || has (map (said label) cells) byte) (eq-eqb (label b) byte same)
        one false e q more = has_right (label b ∷ []) (map (said label) cells) byte (more q)

-- Each element of a list, and of the list of what is made of each.
pub has_either : (xs ys : List ℕ) (b : ℕ) → has (xs ++ ys) b ≡ true → (has xs b ≡ true) ⊎ (has ys b ≡ true)
has_either [] ys b h = inr h
has_either (x ∷ xs) ys b h = one (x == b) h (has_either xs ys b)
  where
    one : (t : Bool) → t || has (xs ++ ys) b ≡ true → (has (xs ++ ys) b ≡ true → (has xs b ≡ true) ⊎ (has ys b ≡ true)) → (t || has xs b ≡ true) ⊎ (has ys b ≡ true)
    one true q more = inl refl
    one false q more = more q

module _ {Z Y : Type 0} (f : Z → List ℕ) (g : Y → List ℕ) (k : Z → Y) (u v : ℕ) where
  through : ((z : Z) → has (f z) u ≡ true → has (g (k z)) v ≡ true) → (zs : List Z) → has (flat_map f zs) u ≡ true → has (flat_map g (map k zs)) v ≡ true
  through each [] h = cc
  through each (z ∷ zs) h = elim (has_either (f z) (flat_map f zs) u h) [
    | inl here ↦ has_left (g (k z)) (flat_map g (map k zs)) v (each z here)
    | inr later ↦ has_right (g (k z)) (flat_map g (map k zs)) v (through each zs later)
  ]

  back : ((z : Z) → has (g (k z)) v ≡ true → has (f z) u ≡ true) → (zs : List Z) → has (flat_map g (map k zs)) v ≡ true → has (flat_map f zs) u ≡ true
  back each [] h = cc
  back each (z ∷ zs) h = elim (has_either (g (k z)) (flat_map g (map k zs)) v h) [
    | inl here ↦ has_left (f z) (flat_map f zs) u (each z here)
    | inr later ↦ has_right (f z) (flat_map f zs) u (back each zs later)
  ]

abbrev inode_births : ℕ × Inode Birth → List ℕ
inode_births e = births_of e.1.cells

abbrev inode_bytes : ℕ × Inode ℕ → List ℕ
inode_bytes e = e.1.cells

abbrev entry_births : Entry (Subvolume Birth) → List ℕ
entry_births e = births_inside e.contents

abbrev entry_bytes : Entry (Subvolume ℕ) → List ℕ
entry_bytes e = bytes_inside e.contents

module _ (label : ℕ → ℕ) where
  abbrev inode_said : ℕ × Inode Birth → ℕ × Inode ℕ
  inode_said e = (e.0, inode_with e.1 (map (said label) e.1.cells))

  state_says : (birth byte : ℕ) → label birth ≡ byte → (state : State Birth) → has (births_left state) birth ≡ true → has (bytes_left (recelled_state (said label) state)) byte ≡ true
  unfolding births_left
  state_says birth byte is state h =
      let first : List ℕ = flat_map entry_bytes (map (recelled_entry (said label)) state.store) in
      let rest : List ℕ = elim (option_map (recelled_part (said label)) state.part) as (λ x. List ℕ) [ None ↦ [] | Some part ↦ flat_map inode_bytes part.subvolume.inodes ] in
      elim (has_either (flat_map entry_births state.store) (part_births state) birth h) [
        | inl here ↦ has_left first rest byte (through entry_births entry_bytes (recelled_entry (said label)) birth byte (λ e. inside e.contents) state.store here)
        | inr here ↦ has_right first rest byte (of_part state.part here)
      ]
    where
      inodes_say : (m : Map ℕ (Inode Birth)) → has (flat_map inode_births m) birth ≡ true → has (flat_map inode_bytes (map inode_said m)) byte ≡ true
      inodes_say m q = through inode_births inode_bytes inode_said birth byte (λ e. cells_say label birth byte is e.1.cells) m q

      inside : (o : Option (Subvolume Birth)) → has (births_inside o) birth ≡ true → has (bytes_inside (option_map (recelled (said label)) o)) byte ≡ true
      inside None q = cc
      inside (Some s) q = inodes_say s.inodes q

      of_part : (o : Option (Part Birth)) → has (elim o as (λ x. List ℕ) [ None ↦ [] | Some part ↦ births_in part.subvolume ]) birth ≡ true
          → has (elim (option_map (recelled_part (said label)) o) as (λ x. List ℕ) [ None ↦ [] | Some part ↦ flat_map inode_bytes part.subvolume.inodes ]) byte ≡ true
      of_part None q = cc
      of_part (Some part) q = inodes_say part.subvolume.inodes q

-- Back from bytes, where each says its birth and one more.
cells_back : (birth : ℕ) (cells : List Birth) → has (map (said one_more) cells) (birth + 1) ≡ true → has (births_of cells) birth ≡ true
cells_back birth [] h = cc
cells_back birth (None ∷ cells) h = one (0 == birth + 1) refl h (cells_back birth cells)
  where
    one : (t : Bool) → (0 == birth + 1) ≡ t → t || has (map (said one_more) cells) (birth + 1) ≡ true → (has (map (said one_more) cells) (birth + 1) ≡ true → has (births_of cells) birth ≡ true) → has (births_of cells) birth ≡ true
    one true e q more = absurd (let z : 0 ≡ birth + 1 = eqb-true 0 (birth + 1) e in omega (arith, z))
    one false e q more = more q
cells_back birth (Some b ∷ cells) h = one (b + 1 == birth + 1) refl h (cells_back birth cells)
  where
    one : (t : Bool) → (b + 1 == birth + 1) ≡ t → t || has (map (said one_more) cells) (birth + 1) ≡ true → (has (map (said one_more) cells) (birth + 1) ≡ true → has (births_of cells) birth ≡ true)
        → (b == birth) || has (births_of cells) birth ≡ true
    one true e q more = let z : b + 1 ≡ birth + 1 = eqb-true (b + 1) (birth + 1) e in let same : b ≡ birth = omega (arith, z) in ap (λ (t : Bool). t || has (births_of cells) birth) (eq-eqb b birth same)
    one false e q more = has_right (b ∷ []) (births_of cells) birth (more q)

state_back : (birth : ℕ) (state : State Birth) → has (bytes_left (recelled_state (said one_more) state)) (birth + 1) ≡ true → has (births_left state) birth ≡ true
unfolding births_left
state_back birth state h =
    let first : List ℕ = flat_map entry_bytes (map (recelled_entry (said one_more)) state.store) in
    let rest : List ℕ = elim (option_map (recelled_part (said one_more)) state.part) as (λ x. List ℕ) [ None ↦ [] | Some part ↦ flat_map inode_bytes part.subvolume.inodes ] in
    elim (has_either first rest (birth + 1) h) [
      | inl here ↦ has_left (flat_map entry_births state.store) (part_births state) birth (back entry_births entry_bytes (recelled_entry (said one_more)) birth (birth + 1) (λ e. inside e.contents) state.store here)
      | inr here ↦ has_right (flat_map entry_births state.store) (part_births state) birth (of_part state.part here)
    ]
  where
    inodes_back : (m : Map ℕ (Inode Birth)) → has (flat_map inode_bytes (map (inode_said one_more) m)) (birth + 1) ≡ true → has (flat_map inode_births m) birth ≡ true
    inodes_back m q = back inode_births inode_bytes (inode_said one_more) birth (birth + 1) (λ e. cells_back birth e.1.cells) m q

    inside : (o : Option (Subvolume Birth)) → has (bytes_inside (option_map (recelled (said one_more)) o)) (birth + 1) ≡ true → has (births_inside o) birth ≡ true
    inside None q = cc
    inside (Some s) q = inodes_back s.inodes q

    of_part : (o : Option (Part Birth)) → has (elim (option_map (recelled_part (said one_more)) o) as (λ x. List ℕ) [ None ↦ [] | Some part ↦ flat_map inode_bytes part.subvolume.inodes ]) (birth + 1) ≡ true
        → has (elim o as (λ x. List ℕ) [ None ↦ [] | Some part ↦ births_in part.subvolume ]) birth ≡ true
    of_part None q = cc
    of_part (Some part) q = inodes_back part.subvolume.inodes q

-- ---- numbers among those that stand

module _ (standing : ℕ → Bool) where
  pub record Ranked (k : ℕ) : Type 0 where
    pub birth : ℕ
    pub stands : standing birth ≡ true
    pub is : rank standing birth ≡ k

  has_rank : (n k : ℕ) → k < rank standing n → Ranked k
  has_rank zero k h = absurd (let z : rank standing 0 ≡ 0 = refl in omega (arith, h, z))
  has_rank (suc n) k h = one (standing n) refl (has_rank n k)
    where
      one : (t : Bool) → standing n ≡ t → (k < rank standing n → Ranked k) → Ranked k
      one true e more = elim (cases_lt k (rank standing n)) [
        | inl below ↦ more below
        | inr over ↦ record { birth = n; stands = e; is = (let s : suc n ≡ n + 1 = omega arith in let next = ap (rank standing) s ∙ rank_next standing n true e in omega (arith, over, h, next)) }
      ]
      one false e more = more (let s : suc n ≡ n + 1 = omega arith in let next = ap (rank standing) s ∙ rank_next standing n false e in omega (arith, h, next))

-- ---- twice

pub lead_same : (cs : List Command) (state a b : State ℕ) → LeadTo state cs a → LeadTo state cs b → a ≡ b
lead_same [] state a b t u = sym t ∙ u
lead_same (c ∷ cs) state a b (h, t) (g, u) = lead_same cs _ a b t u

module _ (store : Store ℕ) (cs : List Command) (end : State ℕ) (ordered : KeepsOrder (start_of store) cs) (lead : LeadTo (start_of store) cs end) where
  standing : ℕ → Bool
  standing = stands store cs

  -- The store without its bytes.
  blank_store : Store ℕ
  blank_store = recelled_store (λ byte. 0) store

  once : List Command
  once = squashed store cs

  labelled : List Command
  labelled = relabelled (ranked standing) 0 cs

  numbered_once : List Command
  numbered_once = relabelled one_more 0 once

  start_is : (label : ℕ → ℕ) → recelled_state (said label) (unborn store) ≡ start_of blank_store
  unfolding blank_store
  start_is label = ap (λ (s : Store ℕ). start_of s) (store_twice (λ (byte : ℕ). None) (said label) store)

  unborn_is : unborn blank_store ≡ unborn store
  unfolding blank_store
  unborn_is = ap (λ (s : Store Birth). start_of s) (store_twice (λ (byte : ℕ). 0) (λ (byte : ℕ). None) store)

  last_labelled : State ℕ
  last_labelled = recelled_state (said (ranked standing)) (born_by 0 (unborn store) cs)

  leads_labelled : LeadTo (start_of blank_store) labelled last_labelled
  unfolding labelled last_labelled
  leads_labelled = subst (λ (s : State ℕ). LeadTo s (relabelled (ranked standing) 0 cs) (recelled_state (said (ranked standing)) (born_by 0 (unborn store) cs))) (start_is (ranked standing))
      (said_leads (ranked standing) cs 0 (unborn store) (starts_born store cs end lead))

  order_labelled : KeepsOrder (start_of blank_store) labelled
  unfolding labelled
  order_labelled = subst (λ (s : State ℕ). KeepsOrder s (relabelled (ranked standing) 0 cs)) (start_is (ranked standing)) (said_order (ranked standing) cs 0 (start_of store) (unborn store) (blank_start store) ordered)

  stands_labelled : stands blank_store labelled ≡ standing
  unfolding standing labelled stands
  stands_labelled = let e : born_by 0 (unborn blank_store) (relabelled (ranked (stands store cs)) 0 cs) ≡ born_by 0 (unborn store) cs =
      ap (λ (s : State Birth). born_by 0 s (relabelled (ranked (stands store cs)) 0 cs)) unborn_is ∙ born_alike (ranked (stands store cs)) cs 0 (unborn store) in
      λ i birth. list_any (λ b. b == birth) (births_left (e i))

  squashed_labelled : squashed blank_store labelled ≡ numbered_once
  unfolding labelled numbered_once once standing
  squashed_labelled =
      ap₂ (λ (t : ℕ → Bool) (s : State Birth). squashed_from t 0 s (relabelled (ranked (stands store cs)) 0 cs)) stands_labelled unborn_is
      ∙ squashed_numbered (stands store cs) cs 0 (unborn store)

  -- So the squashed commands, with their births as bytes, lead to what the commands lead to, with
  -- the ranks of theirs.
  leads_numbered : LeadTo (start_of blank_store) numbered_once last_labelled
  leads_numbered = subst (λ (ds : List Command). LeadTo (start_of blank_store) ds last_labelled) squashed_labelled (leads_same blank_store labelled last_labelled order_labelled leads_labelled)

  leads_once : LeadTo (start_of store) once end
  unfolding once
  leads_once = leads_same store cs end ordered lead

  last_same : last_labelled ≡ recelled_state (said one_more) (born_by 0 (unborn store) once)
  unfolding numbered_once
  last_same = lead_same (relabelled one_more 0 once) (start_of blank_store) last_labelled (recelled_state (said one_more) (born_by 0 (unborn store) once)) leads_numbered
      (subst (λ (s : State ℕ). LeadTo s (relabelled one_more 0 once) (recelled_state (said one_more) (born_by 0 (unborn store) once))) (start_is one_more)
      (said_leads one_more once 0 (unborn store) (starts_born store once end leads_once)))

  rank_stands : (birth : ℕ) → standing birth ≡ true → stands store once (rank standing birth) ≡ true
  unfolding standing stands last_labelled
  rank_stands birth h =
      let bytes = state_says (ranked standing) birth (rank standing birth + 1) refl (born_by 0 (unborn store) cs) h in
      state_back (rank standing birth) (born_by 0 (unborn store) once) (ap (λ (s : State ℕ). has (bytes_left s) (rank standing birth + 1)) (sym last_same) ∙ bytes)

  all_stand : (k : ℕ) → k < literal once → stands store once k ≡ true
  unfolding once standing
  all_stand k h =
      let r = has_rank standing (literal cs) k (let many = squashed_carried (stands store cs) 0 (unborn store) cs in omega (arith, h, many)) in
      ap (stands store once) (sym r.is) ∙ rank_stands r.birth r.stands

  pub twice_once : squashed store (squashed store cs) ≡ squashed store cs
  unfolding once
  twice_once = all_stays (stands store (squashed store cs)) 0 (unborn store) (squashed store cs) (λ b l m. all_stand b (omega (arith, m)))
