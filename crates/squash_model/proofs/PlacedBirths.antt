-- Births and places: a run over places is one over births, each said as its place, and what stands
-- for commands is the same.
use Rattle.std.specs.Prelude.{◌≡◌, ℕ, zero, suc, ◌+◌, ◌-◌, ◌<◌, ◌≤◌, ◌==◌, Bool, true, false, ◌&&◌, ◌||◌, List, [], ◌∷◌, ◌++◌, map, length, Option, None, Some, Result, Ok, Err, if◌then◌else◌}
use Rattle.std.specs.List.{flat_map, range_with_len}
use Rattle.std.specs.Option.{option_map}
use Rattle.std.proofs.Common.{refl, sym, ap, ap₂, subst, ◌∙◌, arith, eqb-true, append_assoc, length-append}
use Rattle.std.proofs.lemmas.Bool.{eq-eqb}
use Rattle.std.proofs.lemmas.List.{length-map, map-append}
use Rattle.std.proofs.lemmas.List.FromFn.{length-range_with_len}
use Rattle.send_model.specs.Refusal.{Refusal}
use Rattle.send_model.specs.Command.{Command, Write}
use Rattle.send_model.specs.Reading.{Item}
use Rattle.send_model.specs.Map.{Map}
use Rattle.send_model.specs.Subvolume.{Inode, Subvolume, walk}
use Rattle.send_model.specs.Clone.{cells_of}
use Rattle.send_model.specs.Store.{Entry, Store, Part, State, Stepped, step}
use Rattle.send_model.specs.Receive.{bytes_of, start_of}
use Rattle.send_model.specs.Order.{commands_of}
use Rattle.send_model.specs.Provenance.{inode_with}
use Rattle.send_model.specs.Cells.{recelled, recelled_entry, recelled_store, recelled_part, recelled_state, recelled_step}
use Rattle.send_model.proofs.CellMaps.{walk-cells}
use Rattle.send_model.proofs.CellClones.{cells_of-cells, all_steps-cells}
use Rattle.squash_model.specs.Squashed.{Birth, births_from, born_step, born_by, unborn, births_of, births_in, births_inside, part_births, births_left, stands, Stretch, in_front, stretches, all_stand, write_of, lengthened, write_commands, size_at, squash_for, squashed_from}
use Rattle.squash_model.specs.PlacedSquash.{data_len, placed_step, placed_by, lives, placed_from, IsBehind, end_behind, ArePlaced, PlacesSquashTheSame}
use Rattle.squash_model.proofs.StandingCells.{has, store_twice}

-- ---- births that are said otherwise

module _ (label : ℕ → ℕ) where
  abbrev pub said_as : Birth → Birth
  said_as birth = option_map label birth

  births_said : (cells : List Birth) → births_of (map said_as cells) ≡ map label (births_of cells)
  births_said [] = refl
  births_said (None ∷ cells) = births_said cells
  births_said (Some b ∷ cells) = ap (λ (r : List ℕ). label b ∷ r) (births_said cells)

  all_said : {X Y : Type 0} (f : X → List ℕ) (g : Y → List ℕ) (k : X → Y) → ((x : X) → g (k x) ≡ map label (f x)) → (xs : List X) → flat_map g (map k xs) ≡ map label (flat_map f xs)
  all_said f g k each [] = refl
  all_said f g k each (x ∷ xs) = ap₂ (λ (a b : List ℕ). a ++ b) (each x) (all_said f g k each xs) ∙ sym (map-append label (f x) (flat_map f xs))

  abbrev inode_births : ℕ × Inode Birth → List ℕ
  inode_births e = births_of e.1.cells

  abbrev inode_said : ℕ × Inode Birth → ℕ × Inode Birth
  inode_said e = (e.0, inode_with e.1 (map said_as e.1.cells))

  inodes_said : (m : Map ℕ (Inode Birth)) → flat_map inode_births (map inode_said m) ≡ map label (flat_map inode_births m)
  inodes_said m = all_said inode_births inode_births inode_said (λ e. births_said e.1.cells) m

  inside_said : (o : Option (Subvolume Birth)) → births_inside (option_map (recelled said_as) o) ≡ map label (births_inside o)
  inside_said None = refl
  inside_said (Some s) = inodes_said s.inodes

  part_said : (o : Option (Part Birth)) → (elim (option_map (recelled_part said_as) o) as (λ x. List ℕ) [ None ↦ [] | Some part ↦ births_in part.subvolume ])
      ≡ map label (elim o as (λ x. List ℕ) [ None ↦ [] | Some part ↦ births_in part.subvolume ])
  part_said None = refl
  part_said (Some part) = inodes_said part.subvolume.inodes

  pub left_said : (state : State Birth) → births_left (recelled_state said_as state) ≡ map label (births_left state)
  unfolding births_left
  left_said state =
      ap₂ (λ (a b : List ℕ). a ++ b)
      (all_said (λ (e : Entry (Subvolume Birth)). births_inside e.contents) (λ (e : Entry (Subvolume Birth)). births_inside e.contents) (recelled_entry said_as) (λ e. inside_said e.contents) state.store)
      (part_said state.part)
      ∙ sym (map-append label (flat_map (λ (e : Entry (Subvolume Birth)). births_inside e.contents) state.store) (part_births state))

  has_said : (apart : (a b : ℕ) → label a ≡ label b → a ≡ b) (b : ℕ) (xs : List ℕ) → has (map label xs) (label b) ≡ has xs b
  has_said apart b [] = refl
  has_said apart b (x ∷ xs) = ap₂ (λ (s t : Bool). s || t) (one (x == b) refl) (has_said apart b xs)
    where
      one : (t : Bool) → (x == b) ≡ t → (label x == label b) ≡ t
      one true e = eq-eqb (label x) (label b) (ap label (eqb-true x b e))
      one false e = two (label x == label b) refl
        where
          two : (t : Bool) → (label x == label b) ≡ t → t ≡ false
          two true q = let same = eq-eqb x b (apart x b (eqb-true (label x) (label b) q)) in cc
          two false q = refl

  -- The file of a path is as long.
  size_said : (state : State Birth) (path : List ℕ) → size_at (recelled_state said_as state) path ≡ size_at state path
  unfolding size_at
  size_said state path = one state.part
    where
      two : (s : Subvolume Birth) (r : Result ℕ Refusal)
          → (elim r as (λ x. ℕ) [ Err refusal ↦ 0 | Ok ino ↦ length (cells_of (recelled said_as s) ino) ]) ≡ (elim r as (λ x. ℕ) [ Err refusal ↦ 0 | Ok ino ↦ length (cells_of s ino) ])
      two s (Err refusal) = refl
      two s (Ok ino) = ap length (cells_of-cells said_as s ino) ∙ length-map (cells_of s ino) said_as

      one : (o : Option (Part Birth)) → size_at (record { store = recelled_store said_as state.store; part = option_map (recelled_part said_as) o }) path ≡ size_at (record { store = state.store; part = o }) path
      one None = refl
      one (Some part) =
          ap (λ (r : Result ℕ Refusal). elim r as (λ x. ℕ) [ Err refusal ↦ 0 | Ok ino ↦ length (cells_of (recelled said_as part.subvolume) ino) ]) (walk-cells said_as part.subvolume path)
          ∙ two part.subvolume (walk part.subvolume path)

  -- ---- items whose places the label says

  abbrev pub Says : ℕ → List Item → Type 0
  Says count [] = Unit {0}
  Says count (item ∷ items) = ((i : ℕ) → i < data_len item → label (count + i) ≡ item.data_at + i) × Says (count + data_len item) items

  cells_said : (count at : ℕ) (bytes : List ℕ) → ((i : ℕ) → i < length bytes → label (count + i) ≡ at + i) → map said_as (births_from count bytes) ≡ map (λ place. Some place) (range_with_len at (length bytes))
  cells_said count at [] h = refl
  cells_said count at (b ∷ bytes) h =
      let z : count + 0 ≡ count = omega arith in
      let y : at + 0 ≡ at = omega arith in
      let first : label count ≡ at = ap label (sym z) ∙ h 0 (omega arith) ∙ y in
      ap₂ (λ (p : ℕ) (r : List Birth). Some p ∷ r) first
      (cells_said (count + 1) (at + 1) bytes (λ i l.
      let e : count + 1 + i ≡ count + suc i = omega arith in
      let f : at + suc i ≡ at + 1 + i = omega arith in
      ap label e ∙ h (suc i) (omega (arith, l)) ∙ f))

  step_said : (count : ℕ) (state : State Birth) (item : Item) → ((i : ℕ) → i < data_len item → label (count + i) ≡ item.data_at + i)
      → placed_step (recelled_state said_as state) item ≡ recelled_step said_as (born_step count state item.command)
  step_said count state item h =
      ap (λ (put : List Birth). step None put (recelled_state said_as state) item.command) (sym (cells_said count item.data_at (bytes_of item.command) h))
      ∙ all_steps-cells said_as item.command None (births_from count (bytes_of item.command)) state

  pub run_said : (items : List Item) (count : ℕ) (state : State Birth) → Says count items → placed_by (recelled_state said_as state) items ≡ recelled_state said_as (born_by count state (commands_of items))
  unfolding placed_by born_by
  run_said [] count state s = refl
  run_said (item ∷ items) count state s =
      ap (λ (x : State Birth). placed_by x items) (ap (λ (x : Stepped Birth). x.state) (step_said count state item s.0))
      ∙ run_said items (count + data_len item) (born_step count state item.command).state s.1

  -- ---- the commands

  same_stretches : (f g : ℕ → Bool) (a b at : ℕ) (bytes : List ℕ) → ((i : ℕ) → i < length bytes → f (a + i) ≡ g (b + i)) → stretches f a at bytes ≡ stretches g b at bytes
  same_stretches f g a b at [] h = refl
  same_stretches f g a b at (x ∷ bytes) h =
      let y : a + 0 ≡ a = omega arith in
      let z : b + 0 ≡ b = omega arith in
      let first : f a ≡ g b = ap f (sym y) ∙ h 0 (omega arith) ∙ ap g z in
      let rest : List Stretch = stretches f (a + 1) (at + 1) bytes in
      let more = same_stretches f g (a + 1) (b + 1) (at + 1) bytes (λ i l.
      let u : a + 1 + i ≡ a + suc i = omega arith in
      let v : b + suc i ≡ b + 1 + i = omega arith in
      ap f u ∙ h (suc i) (omega (arith, l)) ∙ ap g v) in
      ap₂ (λ (t : Bool) (r : List Stretch). if t then in_front at x r else r) first more

  same_all : (f g : ℕ → Bool) (a b : ℕ) (bytes : List ℕ) → ((i : ℕ) → i < length bytes → f (a + i) ≡ g (b + i)) → all_stand f a bytes ≡ all_stand g b bytes
  same_all f g a b [] h = refl
  same_all f g a b (x ∷ bytes) h =
      let y : a + 0 ≡ a = omega arith in
      let z : b + 0 ≡ b = omega arith in
      ap₂ (λ (s t : Bool). s && t) (ap f (sym y) ∙ h 0 (omega arith) ∙ ap g z)
      (same_all f g (a + 1) (b + 1) bytes (λ i l.
      let u : a + 1 + i ≡ a + suc i = omega arith in
      let v : b + suc i ≡ b + 1 + i = omega arith in
      ap f u ∙ h (suc i) (omega (arith, l)) ∙ ap g v))

  pub same_write : (f g : ℕ → Bool) (a b size size' : ℕ) (path : List ℕ) (offset : ℕ) (bytes : List ℕ) → size ≡ size' → ((i : ℕ) → i < length bytes → f (a + i) ≡ g (b + i))
      → write_commands f a size path offset bytes ≡ write_commands g b size' path offset bytes
  same_write f g a b size size' path offset [] e h = refl
  same_write f g a b size size' path offset (x ∷ bytes) e h =
      let n : ℕ = length (x ∷ bytes) in
      let u : a + n - 1 ≡ a + length bytes = omega arith in
      let v : b + length bytes ≡ b + n - 1 = omega arith in
      let last : f (a + n - 1) ≡ g (b + n - 1) = ap f u ∙ h (length bytes) (omega arith) ∙ ap g v in
      ap₂ (λ (t : Bool) (r : List Command). if t then Write path offset (x ∷ bytes) ∷ [] else r) (same_all f g a b (x ∷ bytes) h)
      (ap₂ (λ (ss : List Stretch) (r : List Command). map (write_of path) ss ++ r) (same_stretches f g a b offset (x ∷ bytes) h)
      (ap₂ (λ (t : Bool) (s : ℕ). lengthened t s (offset + n) path) last e))

  command_said : (living standing : ℕ → Bool) → ((b : ℕ) → living (label b) ≡ standing b) → (count at : ℕ) (state : State Birth) (c : Command) → ((i : ℕ) → i < length (bytes_of c) → label (count + i) ≡ at + i)
      → squash_for living at (recelled_state said_as state) c ≡ squash_for standing count state c
  command_said living standing same count at state (Write path offset bytes) h =
      same_write living standing at count (size_at (recelled_state said_as state) path) (size_at state path) path offset bytes (size_said state path)
      (λ i l. ap living (sym (h i l)) ∙ same (count + i))
  command_said living standing same count at state c h = refl

  pub list_said : (living standing : ℕ → Bool) → ((b : ℕ) → living (label b) ≡ standing b) → (items : List Item) (count : ℕ) (state : State Birth) → Says count items
      → placed_from living (recelled_state said_as state) items ≡ squashed_from standing count state (commands_of items)
  unfolding placed_from squashed_from
  list_said living standing same [] count state s = refl
  list_said living standing same (item ∷ items) count state s =
      ap₂ (λ (a b : List Command). a ++ b) (command_said living standing same count item.data_at state item.command s.0)
      (ap (λ (x : State Birth). placed_from living x items) (ap (λ (x : Stepped Birth). x.state) (step_said count state item s.0))
      ∙ list_said living standing same items (count + data_len item) (born_step count state item.command).state s.1)

-- ---- the label of places that rise

abbrev Rises : ℕ → List ℕ → Type 0
Rises from [] = Unit {0}
Rises from (x ∷ xs) = (from ≤ x) × Rises (x + 1) xs

-- The place of each, and behind them those above all.
abbrev place_in : ℕ → List ℕ → ℕ → ℕ
place_in from [] b = from + b
place_in from (x ∷ xs) zero = x
place_in from (x ∷ xs) (suc b) = place_in (x + 1) xs b

places_low : (from : ℕ) (xs : List ℕ) → Rises from xs → (b : ℕ) → from ≤ place_in from xs b
places_low from [] r b = omega arith
places_low from (x ∷ xs) r zero = r.0
places_low from (x ∷ xs) r (suc b) = let low = r.0 in let more = places_low (x + 1) xs r.1 b in omega (arith, low, more)

places_apart : (from : ℕ) (xs : List ℕ) → Rises from xs → (a b : ℕ) → place_in from xs a ≡ place_in from xs b → a ≡ b
places_apart from [] r a b e = omega (arith, e)
places_apart from (x ∷ xs) r zero zero e = refl
places_apart from (x ∷ xs) r zero (suc b) e = absurd (let low = places_low (x + 1) xs r.1 b in omega (arith, e, low))
places_apart from (x ∷ xs) r (suc a) zero e = absurd (let low = places_low (x + 1) xs r.1 a in omega (arith, e, low))
places_apart from (x ∷ xs) r (suc a) (suc b) e = ap suc (places_apart (x + 1) xs r.1 a b e)

abbrev places : List Item → List ℕ
places [] = []
places (item ∷ items) = range_with_len item.data_at (data_len item) ++ places items

range_rises : (from at n : ℕ) (more : List ℕ) → from ≤ at → Rises (at + n) more → Rises from (range_with_len at n ++ more)
range_rises from at zero more h r = lower more (let e : at + 0 ≡ at = omega arith in subst (λ (k : ℕ). Rises k more) e r)
  where
    lower : (xs : List ℕ) → Rises at xs → Rises from xs
    lower [] q = tt
    lower (x ∷ xs) q = let low = q.0 in (omega (arith, low, h), q.1)
range_rises from at (suc n) more h r = (h, range_rises (at + 1) (at + 1) n more (omega arith) (let e : at + suc n ≡ at + 1 + n = omega arith in subst (λ (k : ℕ). Rises k more) e r))

bytes_rise : (from at : ℕ) (bytes more : List ℕ) → IsBehind from at bytes → Rises (end_behind from at bytes) more → Rises from (range_with_len at (length bytes) ++ more)
bytes_rise from at [] more h r = r
bytes_rise from at (b ∷ bytes) more h r = range_rises from at (length (b ∷ bytes)) more h r

placed_rise : (from : ℕ) (items : List Item) → ArePlaced from items → Rises from (places items)
placed_rise from [] p = tt
placed_rise from (item ∷ items) p =
    bytes_rise from item.data_at (bytes_of item.command) (places items) p.0 (placed_rise (end_behind from item.data_at (bytes_of item.command)) items p.1)

-- The first of some places, and those behind.
in_range : (from at n : ℕ) (more : List ℕ) (i : ℕ) → i < n → place_in from (range_with_len at n ++ more) i ≡ at + i
in_range from at zero more i h = absurd (omega arith)
in_range from at (suc n) more zero h = omega arith
in_range from at (suc n) more (suc i) h = in_range (at + 1) (at + 1) n more i (omega (arith, h)) ∙ (omega arith)

passed : (from : ℕ) (before rest : List ℕ) → (to : ℕ) × ((i : ℕ) → place_in from (before ++ rest) (length before + i) ≡ place_in to rest i)
passed from [] rest = (from, λ i. let e : 0 + i ≡ i = omega arith in ap (place_in from rest) e)
passed from (x ∷ before) rest =
    let more = passed (x + 1) before rest in
    (more.0, λ i. let e : length (x ∷ before) + i ≡ suc (length before + i) = omega arith in ap (place_in from (x ∷ (before ++ rest))) e ∙ more.1 i)

items_say : (before : List ℕ) (items : List Item) → Says (place_in 0 (before ++ places items)) (length before) items
items_say before [] = tt
items_say before (item ∷ items) =
    let own : List ℕ = range_with_len item.data_at (data_len item) in
    let p = passed 0 before (own ++ places items) in
    let len : length (before ++ own) ≡ length before + data_len item = length-append before own ∙ ap (λ (n : ℕ). length before + n) (length-range_with_len item.data_at (data_len item)) in (
      (λ i h. p.1 i ∙ in_range p.0 item.data_at (data_len item) (places items) i h),
      subst (λ (n : ℕ). Says (place_in 0 (before ++ (own ++ places items))) n items) len
          (subst (λ (xs : List ℕ). Says (place_in 0 xs) (length (before ++ own)) items) (append_assoc before own (places items)) (items_say (before ++ own) items)),
    )

-- ---- the law

unborn_said : (label : ℕ → ℕ) (store : Store ℕ) → recelled_state (said_as label) (unborn store) ≡ unborn store
unborn_said label store = ap (λ (s : Store Birth). start_of s) (store_twice (λ (byte : ℕ). None) (said_as label) store)

pub places_squash_the_same : PlacesSquashTheSame
unfolding lives stands
places_squash_the_same store items p =
    let label : ℕ → ℕ = place_in 0 (places items) in
    let says : Says label 0 items = items_say [] items in
    let born : State Birth = born_by 0 (unborn store) (commands_of items) in
    let end : placed_by (unborn store) items ≡ recelled_state (said_as label) born =
    ap (λ (s : State Birth). placed_by s items) (sym (unborn_said label store)) ∙ run_said label items 0 (unborn store) says in
    let same : (b : ℕ) → lives store items (label b) ≡ stands store (commands_of items) b = λ b.
    ap (λ (s : State Birth). has (births_left s) (label b)) end ∙ ap (λ (xs : List ℕ). has xs (label b)) (left_said label born)
    ∙ has_said label (places_apart 0 (places items) (placed_rise 0 items p)) b (births_left born) in
    ap (λ (s : State Birth). placed_from (lives store items) s items) (sym (unborn_said label store))
    ∙ list_said label (lives store items) (stands store (commands_of items)) same items 0 (unborn store) says
