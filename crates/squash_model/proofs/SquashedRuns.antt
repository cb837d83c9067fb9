-- One run over cells that have two bytes, that of a plain run and that of the squashed one, and the
-- birth of the plain one: both bytes are the same where the birth stands. At a WRITE the squashed
-- byte of what does not stand is the one that was there.
use Rattle.std.specs.Prelude.{◌≡◌, ℕ, ◌+◌, ◌-◌, T, Bool, true, false, ◌&&◌, List, [], ◌∷◌, ◌++◌, map, length, Option, None, Some, Result, Ok, Err, nat_le, if◌then◌else◌}
use Rattle.std.specs.Ordering.{nat_cmp}
use Rattle.std.specs.Option.{option_map}
use Rattle.std.specs.FinMap.Entries.{is_sorted, below_all}
use Rattle.std.specs.Ordering.{is_lt}
use Rattle.std.proofs.Common.{refl, sym, ap, ap₂, subst, ◌∙◌, get_or}
use Rattle.std.proofs.lemmas.Bool.{and_parts}
use Rattle.std.proofs.lemmas.List.{length-map}
use Rattle.send_model.specs.Refusal.{Refusal, NoSubvolume, NotFile, FileTooBig}
use Rattle.send_model.specs.Command.{Command, Write}
use Rattle.send_model.specs.Map.{Map, IsMap}
use Rattle.send_model.specs.Subvolume.{Inode, Subvolume, inode_at, is_file, walk}
use Rattle.send_model.specs.Edit.{greatest_end, overwritten, written_at, change_inode, set_cells, change_contents, edit}
use Rattle.send_model.specs.Clone.{cells_of}
use Rattle.send_model.specs.Store.{Store, Part, State, Stepped, step, edited}
use Rattle.send_model.specs.Receive.{bytes_of}
use Rattle.send_model.specs.Provenance.{inode_with}
use Rattle.send_model.specs.Cells.{recelled, recelled_store, recelled_part, recelled_state, recelled_step}
use Rattle.send_model.specs.Separated.{LeadTo}
use Rattle.send_model.proofs.Sorts.{plain_step, plain_step_without}
use Rattle.send_model.proofs.Fuel.{bound, required}
use Rattle.send_model.proofs.Merging.{edited_taken}
use Rattle.send_model.proofs.CellMaps.{reinode, inode_at-cells, is_file-cells, walk-cells, written_at-cells, change_inode-cells}
use Rattle.send_model.proofs.CellClones.{all_steps-cells}
use Rattle.send_model.proofs.Rewriting.{file_there}
use Rattle.send_model.proofs.Separators.{EditsTo, lead_edits, lead-append}
use Rattle.squash_model.specs.Squashed.{Birth, births_from, born_step, born_by, all_stand, stretches, write_of, lengthened, size_at, squash_for, squashed_from}
use Rattle.squash_model.proofs.Laid.{mixed}
use Rattle.squash_model.proofs.WrittenAnew.{anew_edits}

-- ---- of any subvolume

-- What a WRITE that is taken says.
pub record WrittenTo {C : Type 0} (s : Subvolume C) (path : List ℕ) (end : ℕ) : Type 0 where
  pub ino : ℕ
  pub walked : walk s path ≡ Ok ino
  pub file : is_file s ino ≡ true
  pub fits : nat_le end greatest_end ≡ true

written_to : {C : Type 0} (s t : Subvolume C) (path : List ℕ) (end : ℕ) (change : List C → List C) → change_contents path end change s ≡ Ok t → WrittenTo s path end
unfolding change_contents
written_to s t path end change e =
    let w = bound (walk s path) _ t e in
    let f = required (is_file s w.0) NotFile _ t w.2 in
    let g = required (nat_le end greatest_end) FileTooBig _ t f.1 in
    record { ino = w.0; walked = w.1; file = f.0; fits = g.0 }

pub edit_written : {C : Type 0} (zero_cell : C) (put : List C) (path : List ℕ) (offset : ℕ) (bytes : List ℕ) (s t : Subvolume C) → edit zero_cell put (Write path offset bytes) s ≡ Ok t → WrittenTo s path (offset + length put)
unfolding edit
edit_written zero_cell put path offset bytes s t e = written_to s t path (offset + length put) (written_at zero_cell offset put) e

write_made : {C : Type 0} (zero_cell : C) (put : List C) (path : List ℕ) (offset : ℕ) (bytes : List ℕ) (s : Subvolume C) (w : WrittenTo s path (offset + length put))
    → edit zero_cell put (Write path offset bytes) s ≡ Ok (change_inode w.ino (set_cells (written_at zero_cell offset put)) s)
unfolding edit change_contents
write_made zero_cell put path offset bytes s w = rw (w.walked, w.file, w.fits) refl

-- The keys of inodes are in order whatever the inodes are.
keys_below : {X Y : Type 0} (g : X → Y) (k : ℕ) (m : Map ℕ X) → below_all nat_cmp k (map (λ e. (e.0, g e.1)) m) ≡ below_all nat_cmp k m
keys_below g k [] = refl
keys_below g k (e ∷ m) = ap (λ (b : Bool). is_lt (nat_cmp k e.0) && b) (keys_below g k m)

pub keys_sorted : {X Y : Type 0} (g : X → Y) (m : Map ℕ X) → is_sorted nat_cmp (map (λ e. (e.0, g e.1)) m) ≡ is_sorted nat_cmp m
keys_sorted g [] = refl
keys_sorted g (e ∷ m) = ap₂ (λ (a b : Bool). a && b) (keys_below g e.0 m) (keys_sorted g m)

-- How long the file of a path is.
size_is : {C D : Type 0} (f : C → D) (store : Store C) (part : Part C) (path : List ℕ) (ino : ℕ) (old : Inode C) → walk part.subvolume path ≡ Ok ino → inode_at part.subvolume ino ≡ Some old
    → size_at (recelled_state f (record { store = store; part = Some part })) path ≡ length old.cells
unfolding size_at cells_of
size_is {C = C} {D = D} f store part path ino old w at =
    let s : Subvolume C = part.subvolume in
    ap (λ (r : Result ℕ Refusal). elim r as (λ x. ℕ) [ Err refusal ↦ 0 | Ok i ↦ length (cells_of (recelled f s) i) ]) (walk-cells f s path ∙ w)
    ∙ ap (λ (o : Option (Inode D)). length (elim o as (λ x. List D) [ None ↦ [] | Some inode ↦ inode.cells ])) (inode_at-cells f s ino ∙ ap (option_map (reinode f)) at)
    ∙ length-map old.cells f

-- The inodes of the part are in order.
abbrev pub IsOrderedPart : {C : Type 0} → Option (Part C) → Type 0
IsOrderedPart None = Unit {0}
IsOrderedPart (Some part) = IsMap nat_cmp part.subvolume.inodes

-- In each part, before each command, the inodes are in order.
abbrev pub KeepsOrder : State ℕ → List Command → Type 0
KeepsOrder state [] = Unit {0}
KeepsOrder state (c ∷ cs) = IsOrderedPart state.part × KeepsOrder (step 0 (bytes_of c) state c).state cs

-- ---- cells with two bytes

module _ (standing : ℕ → Bool) where
  -- A cell whose birth stands, or that has none.
  abbrev pub lives : Birth → Bool
  lives None = true
  lives (Some birth) = standing birth

  pub record Both : Type 0 where
    pub plain : ℕ
    pub birth : Birth
    pub squashed : ℕ
    pub same : lives birth ≡ true → squashed ≡ plain

  abbrev pub plain_of : Both → ℕ
  plain_of c = c.plain

  abbrev pub birth_of : Both → Birth
  birth_of c = c.birth

  abbrev pub squashed_of : Both → ℕ
  squashed_of c = c.squashed

  -- A byte that was not born, and one that was, where another stood.
  abbrev pub unborn_byte : ℕ → Both
  unborn_byte byte = record { plain = byte; birth = None; squashed = byte; same = λ h. refl }

  abbrev pub born_byte : (byte count old : ℕ) → Both
  born_byte byte count old = record { plain = byte; birth = Some count; squashed = if standing count then byte else old; same = λ h. ap (λ (b : Bool). if b then byte else old) h }

  abbrev pub put_both : ℕ → ℕ → List ℕ → List ℕ → List Both
  put_both count at [] olds = []
  put_both count at (byte ∷ bytes) olds = born_byte byte count (get_or olds at 0) ∷ put_both (count + 1) (at + 1) bytes olds

  plain_put : (count at : ℕ) (bytes olds : List ℕ) → map plain_of (put_both count at bytes olds) ≡ bytes
  plain_put count at [] olds = refl
  plain_put count at (byte ∷ bytes) olds = ap (λ (r : List ℕ). byte ∷ r) (plain_put (count + 1) (at + 1) bytes olds)

  birth_put : (count at : ℕ) (bytes olds : List ℕ) → map birth_of (put_both count at bytes olds) ≡ births_from count bytes
  birth_put count at [] olds = refl
  birth_put count at (byte ∷ bytes) olds = ap (λ (r : List Birth). Some count ∷ r) (birth_put (count + 1) (at + 1) bytes olds)

  squashed_put : (count at : ℕ) (bytes olds : List ℕ) → map squashed_of (put_both count at bytes olds) ≡ mixed 0 standing count at bytes olds
  squashed_put count at [] olds = refl
  squashed_put count at (byte ∷ bytes) olds = ap (λ (r : List ℕ). (if standing count then byte else get_or olds at 0) ∷ r) (squashed_put (count + 1) (at + 1) bytes olds)

  mixed_all : (count at : ℕ) (bytes olds : List ℕ) → all_stand standing count bytes ≡ true → mixed 0 standing count at bytes olds ≡ bytes
  mixed_all count at [] olds h = refl
  mixed_all count at (byte ∷ bytes) olds h =
      let p = and_parts (standing count) (all_stand standing (count + 1) bytes) h in
      ap₂ (λ (b : Bool) (r : List ℕ). (if b then byte else get_or olds at 0) ∷ r) p.0 (mixed_all (count + 1) (at + 1) bytes olds p.1)

  -- ---- one command

  abbrev after : {C : Type 0} → State C → Stepped C
  after state = record { state = state; refusal = None }

  pub record Follows (count : ℕ) (c : Command) (state : State Both) : Type 0 where
    pub next : State Both
    pub plain : step 0 (bytes_of c) (recelled_state plain_of state) c ≡ record { state = recelled_state plain_of next; refusal = None }
    pub born : born_step count (recelled_state birth_of state) c ≡ record { state = recelled_state birth_of next; refusal = None }
    pub squashed : LeadTo (recelled_state squashed_of state) (squash_for standing count (recelled_state birth_of state) c) (recelled_state squashed_of next)

  other_follows : (count : ℕ) (c : Command) (state : State Both) → bytes_of c ≡ [] → squash_for standing count (recelled_state birth_of state) c ≡ c ∷ []
      → (step 0 (bytes_of c) (recelled_state plain_of state) c).refusal ≡ None → Follows count c state
  other_follows count c state e q taken =
      let next = step (unborn_byte 0) [] state c in
      let plain : step 0 (bytes_of c) (recelled_state plain_of state) c ≡ recelled_step plain_of next =
      ap (λ (put : List ℕ). step 0 put (recelled_state plain_of state) c) e ∙ all_steps-cells plain_of c (unborn_byte 0) [] state in
      let none : next.refusal ≡ None = ap (λ (s : Stepped ℕ). s.refusal) (sym plain) ∙ taken in
      let squashed : step 0 (bytes_of c) (recelled_state squashed_of state) c ≡ recelled_step squashed_of next =
      ap (λ (put : List ℕ). step 0 put (recelled_state squashed_of state) c) e ∙ all_steps-cells squashed_of c (unborn_byte 0) [] state in
      record {
        next = next.state;
        plain = plain ∙ ap (λ (o : Option Refusal). record { state = recelled_state plain_of next.state; refusal = o }) none;
        born = ap (λ (bytes : List ℕ). step None (births_from count bytes) (recelled_state birth_of state) c) e ∙ all_steps-cells birth_of c (unborn_byte 0) [] state
            ∙ ap (λ (o : Option Refusal). record { state = recelled_state birth_of next.state; refusal = o }) none;
        squashed = subst (λ (cs : List Command). LeadTo (recelled_state squashed_of state) cs (recelled_state squashed_of next.state)) (sym q)
            (ap (λ (s : Stepped ℕ). s.refusal) squashed ∙ none, ap (λ (s : Stepped ℕ). s.state) squashed);
      }

  abbrev within : Store Both → Part Both → State Both
  within store part = record { store = store; part = Some part }

  module _ (count : ℕ) (store : Store Both) (part : Part Both) (path : List ℕ) (offset : ℕ) (bytes : List ℕ)
      (w : WrittenTo part.subvolume path (offset + length bytes)) (old : Inode Both) (at : inode_at part.subvolume w.ino ≡ Some old)
      (ordered : IsMap nat_cmp part.subvolume.inodes) where
    abbrev write : Command
    write = Write path offset bytes

    abbrev s : Subvolume Both
    s = part.subvolume

    abbrev olds : List ℕ
    olds = map squashed_of old.cells

    abbrev put : List Both
    put = put_both count offset bytes olds

    put_len : length put ≡ length bytes
    put_len = sym (length-map put plain_of) ∙ ap length (plain_put count offset bytes olds)

    abbrev made : Subvolume Both
    made = change_inode w.ino (set_cells (written_at (unborn_byte 0) offset put)) s

    abbrev next : State Both
    next = within store (record { key = part.key; subvolume = made })

    both_stepped : step (unborn_byte 0) put (within store part) write ≡ after next
    both_stepped =
        let fits : nat_le (offset + length put) greatest_end ≡ true = ap (λ (n : ℕ). nat_le (offset + n) greatest_end) put_len ∙ w.fits in
        plain_step (unborn_byte 0) put store part write refl
        ∙ ap (edited store part) (write_made (unborn_byte 0) put path offset bytes s (record { ino = w.ino; walked = w.walked; file = w.file; fits = fits }))

    seen : {D : Type 0} (f : Both → D) → step (f (unborn_byte 0)) (map f put) (recelled_state f (within store part)) write ≡ after (recelled_state f next)
    seen f = all_steps-cells f write (unborn_byte 0) put (within store part) ∙ ap (recelled_step f) both_stepped

    -- ---- the squashed WRITE

    abbrev there : Subvolume ℕ
    there = recelled squashed_of s

    ordered_there : IsMap nat_cmp there.inodes
    ordered_there = subst (λ (b : Bool). T b) (sym (keys_sorted (reinode squashed_of) s.inodes)) ordered

    made_there : recelled squashed_of made ≡ change_inode w.ino (set_cells (written_at 0 offset (mixed 0 standing count offset bytes olds))) there
    made_there =
        sym (change_inode-cells squashed_of w.ino (set_cells (written_at (unborn_byte 0) offset put)) (set_cells (written_at 0 offset (map squashed_of put))) s
        (λ inode. let to : List ℕ → Inode ℕ = λ cells. inode_with inode cells in ap to (sym (written_at-cells squashed_of (unborn_byte 0) offset put inode.cells))))
        ∙ ap (λ (p : List ℕ). change_inode w.ino (set_cells (written_at 0 offset p)) there) (squashed_put count offset bytes olds)

    all_leads : all_stand standing count bytes ≡ true → LeadTo (recelled_state squashed_of (within store part)) (write ∷ []) (recelled_state squashed_of next)
    all_leads h =
        let stepped : step 0 bytes (recelled_state squashed_of (within store part)) write ≡ after (recelled_state squashed_of next) =
        ap (λ (p : List ℕ). step 0 p (recelled_state squashed_of (within store part)) write) (sym (squashed_put count offset bytes olds ∙ mixed_all count offset bytes olds h)) ∙ seen squashed_of in
        (ap (λ (x : Stepped ℕ). x.refusal) stepped, ap (λ (x : Stepped ℕ). x.state) stepped)

    size_there : size_at (recelled_state birth_of (within store part)) path ≡ length olds
    size_there = size_is birth_of store part path w.ino old w.walked at ∙ sym (length-map old.cells squashed_of)

    over_written : (b : ℕ) (rest : List ℕ) → change_inode w.ino (set_cells (overwritten 0 offset (mixed 0 standing count offset (b ∷ rest) olds))) there
        ≡ change_inode w.ino (set_cells (written_at 0 offset (mixed 0 standing count offset (b ∷ rest) olds))) there
    unfolding written_at
    over_written b rest = refl

    -- Where the bytes are these and not all of them stand.
    some_leads : (b : ℕ) (rest : List ℕ) → bytes ≡ b ∷ rest
        → LeadTo (recelled_state squashed_of (within store part))
        (map (write_of path) (stretches standing count offset bytes) ++ lengthened (standing (count + length bytes - 1)) (size_at (recelled_state birth_of (within store part)) path) (offset + length bytes) path)
        (recelled_state squashed_of next)
    some_leads b rest e =
        let walked : walk there path ≡ Ok w.ino = walk-cells squashed_of s path ∙ w.walked in
        let file : is_file there w.ino ≡ true = is_file-cells squashed_of s w.ino ∙ w.file in
        let at_there : inode_at there w.ino ≡ Some (reinode squashed_of old) = inode_at-cells squashed_of s w.ino ∙ ap (option_map (reinode squashed_of)) at in
        let fits : nat_le (offset + length (b ∷ rest)) greatest_end ≡ true = ap (λ (bs : List ℕ). nat_le (offset + length bs) greatest_end) (sym e) ∙ w.fits in
        let cs : ℕ → List ℕ → List Command = λ size bs. map (write_of path) (stretches standing count offset bs) ++ lengthened (standing (count + length bs - 1)) size (offset + length bs) path in
        let t : List ℕ → Subvolume ℕ = λ bs. change_inode w.ino (set_cells (written_at 0 offset (mixed 0 standing count offset bs olds))) there in
        let edits : EditsTo there (cs (length olds) (b ∷ rest)) (t (b ∷ rest)) =
        subst (λ (x : Subvolume ℕ). EditsTo there (cs (length olds) (b ∷ rest)) x) (over_written b rest) (anew_edits path w.ino there (reinode squashed_of old) walked file at_there ordered_there standing count offset b rest fits) in
        let all : EditsTo there (cs (length olds) bytes) (recelled squashed_of made) =
        subst (λ (x : Subvolume ℕ). EditsTo there (cs (length olds) bytes) x) (sym made_there) (subst (λ (bs : List ℕ). EditsTo there (cs (length olds) bs) (t bs)) (sym e) edits) in
        lead_edits (recelled_store squashed_of store) part.key (cs (size_at (recelled_state birth_of (within store part)) path) bytes) there (recelled squashed_of made)
        (subst (λ (n : ℕ). EditsTo there (cs n bytes) (recelled squashed_of made)) (sym size_there) all)

    write_leads : (t : Bool) → all_stand standing count bytes ≡ t → (bs : List ℕ) → bytes ≡ bs
        → LeadTo (recelled_state squashed_of (within store part))
        (if t then write ∷ [] else map (write_of path) (stretches standing count offset bytes) ++ lengthened (standing (count + length bytes - 1)) (size_at (recelled_state birth_of (within store part)) path) (offset + length bytes) path)
        (recelled_state squashed_of next)
    write_leads true h bs e = all_leads h
    write_leads false h [] e = absurd (none h (ap (all_stand standing count) e))
      where
        none : all_stand standing count bytes ≡ false → all_stand standing count bytes ≡ true → ⊥
        none a b = cc
    write_leads false h (b ∷ rest) e = some_leads b rest e

    write_follows : Follows count write (within store part)
    write_follows = record {
      next = next;
      plain = ap (λ (p : List ℕ). step 0 p (recelled_state plain_of (within store part)) write) (sym (plain_put count offset bytes olds)) ∙ seen plain_of;
      born = ap (λ (p : List Birth). step None p (recelled_state birth_of (within store part)) write) (sym (birth_put count offset bytes olds)) ∙ seen birth_of;
      squashed = write_leads (all_stand standing count bytes) refl bytes refl;
    }

  any_write : (count : ℕ) (store : Store Both) (o : Option (Part Both)) (path : List ℕ) (offset : ℕ) (bytes : List ℕ) → IsOrderedPart (option_map (recelled_part plain_of) o)
      → (step 0 bytes (recelled_state plain_of (record { store = store; part = o })) (Write path offset bytes)).refusal ≡ None
      → Follows count (Write path offset bytes) (record { store = store; part = o })
  any_write count store None path offset bytes ordered taken = absurd (some_none (sym (plain_step_without 0 bytes (recelled_store plain_of store) (Write path offset bytes) refl) ∙ taken))
    where
      some_none : Some NoSubvolume ≡ None → ⊥
      some_none e = cc
  any_write count store (Some part) path offset bytes ordered taken =
      let there : Subvolume ℕ = recelled plain_of part.subvolume in
      let ok = edited_taken (recelled_store plain_of store) (recelled_part plain_of part) (edit 0 bytes (Write path offset bytes) there)
      (ap (λ (x : Stepped ℕ). x.refusal) (sym (plain_step 0 bytes (recelled_store plain_of store) (recelled_part plain_of part) (Write path offset bytes) refl)) ∙ taken) in
      let w = edit_written 0 bytes path offset bytes there ok.0 ok.1 in
      let file : is_file part.subvolume w.ino ≡ true = sym (is_file-cells plain_of part.subvolume w.ino) ∙ w.file in
      let here : WrittenTo part.subvolume path (offset + length bytes) = record { ino = w.ino; walked = sym (walk-cells plain_of part.subvolume path) ∙ w.walked; file = file; fits = w.fits } in
      let old = file_there part.subvolume w.ino file in
      write_follows count store part path offset bytes here old.0 old.1 (subst (λ (b : Bool). T b) (keys_sorted (reinode plain_of) part.subvolume.inodes) ordered)

  -- One command that a plain run takes.
  pub follows : (count : ℕ) (c : Command) (state : State Both) → IsOrderedPart (recelled_state plain_of state).part
      → (step 0 (bytes_of c) (recelled_state plain_of state) c).refusal ≡ None → Follows count c state
  follows count (Write path offset bytes) state ordered taken = any_write count state.store state.part path offset bytes ordered taken
  follows count c state ordered taken = other_follows count c state refl refl taken

  -- ---- commands in order

  pub record Followed (count : ℕ) (cs : List Command) (state : State Both) (end : State ℕ) : Type 0 where
    pub last : State Both
    pub plain : recelled_state plain_of last ≡ end
    pub born : born_by count (recelled_state birth_of state) cs ≡ recelled_state birth_of last
    pub squashed : LeadTo (recelled_state squashed_of state) (squashed_from standing count (recelled_state birth_of state) cs) (recelled_state squashed_of last)

  pub followed : (count : ℕ) (cs : List Command) (state : State Both) (end : State ℕ) → KeepsOrder (recelled_state plain_of state) cs → LeadTo (recelled_state plain_of state) cs end
      → Followed count cs state end
  unfolding born_by squashed_from
  followed count [] state end k t = record { last = state; plain = t; born = refl; squashed = refl }
  followed count (c ∷ cs) state end (o, k) (taken, t) =
      let f = follows count c state o taken in
      let to : (step 0 (bytes_of c) (recelled_state plain_of state) c).state ≡ recelled_state plain_of f.next = ap (λ (x : Stepped ℕ). x.state) f.plain in
      let more = followed (count + length (bytes_of c)) cs f.next end (subst (λ (x : State ℕ). KeepsOrder x cs) to k) (subst (λ (x : State ℕ). LeadTo x cs end) to t) in
      let born : (born_step count (recelled_state birth_of state) c).state ≡ recelled_state birth_of f.next = ap (λ (x : Stepped Birth). x.state) f.born in
      record {
        last = more.last;
        plain = more.plain;
        born = ap (λ (x : State Birth). born_by (count + length (bytes_of c)) x cs) born ∙ more.born;
        squashed = lead-append (squash_for standing count (recelled_state birth_of state) c)
            (squashed_from standing (count + length (bytes_of c)) (born_step count (recelled_state birth_of state) c).state cs)
            (recelled_state squashed_of state) (recelled_state squashed_of f.next) (recelled_state squashed_of more.last) f.squashed
            (subst (λ (x : State Birth). LeadTo (recelled_state squashed_of f.next) (squashed_from standing (count + length (bytes_of c)) x cs) (recelled_state squashed_of more.last)) (sym born) more.squashed);
      }
