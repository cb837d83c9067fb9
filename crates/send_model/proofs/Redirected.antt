-- One redirected clone: the commands of its pieces, one after the other in the part without traces,
-- make what the clone makes of the part with traces.
use Rattle.std.specs.Prelude.{◌≡◌, ◌⊎◌, ℕ, zero, suc, ◌+◌, ◌%◌, ◌≤◌, ◌==◌, Bool, true, false, not, ◌&&◌, ◌||◌, List, [], ◌∷◌, map, length, take, drop, Option, None, Some, Result, Ok, Err, nat_lt, nat_le, is_some, if◌then◌else◌}
use Rattle.std.specs.List.{AllByRecursion, flat_map}
use Rattle.std.specs.Str.{bytes_eq}
use Rattle.std.proofs.Common.{refl, sym, ap, ap₂, subst, ◌∙◌, arith, eqb-true, inl, inr}
use Rattle.std.proofs.lemmas.Bool.{and_parts, or_parts, leb-true, le-leb, ltb-false, eqb-false, false_from_ne_true, true≢false}
use Rattle.std.proofs.lemmas.List.{length-take, length-drop, length-map}
use Rattle.send_model.specs.Refusal.{Refusal, BadPath, NotFile, BadRange, Unaligned, FileTooBig, Overlap}
use Rattle.send_model.specs.Command.{Command, Clone}
use Rattle.send_model.specs.Path.{path_names}
use Rattle.send_model.specs.Subvolume.{Inode, Subvolume, is_file, walk, is_nameable}
use Rattle.send_model.specs.Edit.{greatest_end, overwritten, change_inode, set_cells}
use Rattle.send_model.specs.Clone.{cells_of, is_aligned, overlap, Cloned, cloned, clone, clone_values}
use Rattle.send_model.specs.Store.{Key, Store, Part, State, find, clone_source, edit_part, edited, step, step_edit}
use Rattle.send_model.specs.Outside.{IsAmong, is_among, FindsLawful}
use Rattle.send_model.specs.Cells.{recelled, Holds}
use Rattle.send_model.specs.Provenance.{Place, Traced, fresh, inode_with, is_own, is_redirected, clone_range, Piece, Carried, Literal, pieces_of}
use Rattle.send_model.specs.Composed.{piece_commands, path_of, clone_commands}
use Rattle.send_model.proofs.ElementLaws.{all_take, all_drop}
use Rattle.send_model.proofs.Fuel.{required, not_refused, bound, ok_same}
use Rattle.send_model.proofs.Runs.{Takes}
use Rattle.send_model.proofs.Sorts.{same_inside}
use Rattle.send_model.proofs.Stores.{bytes_eq_same, bytes_eq_true}
use Rattle.send_model.proofs.CellMaps.{walk-cells, is_file-cells, overwritten-cells, change_inode-cells}
use Rattle.send_model.proofs.Held.{cells_hold, clone_holds}
use Rattle.send_model.proofs.Tracing.{byte_of}
use Rattle.send_model.proofs.Carrying.{InPlace, range_covered}
use Rattle.send_model.proofs.PieceRuns.{put_bytes, IsPlace, Fits, fits_part, overwritten_put, MayClone, carried_run, pieces_run}
use Rattle.send_model.proofs.LawfulPaths.{path_leads}

-- ---- what a clone from a complete subvolume says

pub record ClonedFacts {C : Type 0} (part source : Subvolume C) (path : List ℕ) (offset : ℕ) (clone_path : List ℕ) (from len : ℕ) (range : Cloned C) : Type 0 where
  pub is_path : is_some (path_names path) ≡ true
  pub is_clone_path : is_some (path_names clone_path) ≡ true
  pub walked : walk part path ≡ Ok range.ino
  pub file : is_file part range.ino ≡ true
  pub source_ino : ℕ
  pub source_walked : walk source clone_path ≡ Ok source_ino
  pub source_file : is_file source source_ino ≡ true
  pub some : 1 ≤ len
  pub within : from + len ≤ length (cells_of source source_ino)
  pub even : offset % 4096 ≡ 0
  pub from_even : from % 4096 ≡ 0
  pub ends : (len % 4096 ≡ 0) ⊎ (from + len ≡ length (cells_of source source_ino))
  pub fits : nat_le (offset + len) greatest_end ≡ true
  pub cells_are : range.cells ≡ take len (drop from (cells_of source source_ino))
  pub length_is : length range.cells ≡ len

or_true : (a b : Bool) → a || b ≡ true → (a ≡ true) ⊎ (b ≡ true)
or_true true b e = inl refl
or_true false b e = inr e

not_zero : (n : ℕ) → (n == 0) ≡ false → 1 ≤ n
not_zero n e = let h = eqb-false n 0 e in one n h
  where
    one : (n : ℕ) → (n ≡ 0 → ⊥) → 1 ≤ n
    one zero h = absurd (h refl)
    one (suc n) h = omega arith

pub cloned_facts : {C : Type 0} (part source : Subvolume C) (own : Bool) (path : List ℕ) (offset : ℕ) (clone_path : List ℕ) (from len : ℕ) (range : Cloned C)
    → cloned part (Some source) own (clone_values path offset clone_path from len) ≡ Ok range → ClonedFacts part source path offset clone_path from len range
unfolding cloned
cloned_facts part source own path offset clone_path from len range e =
    let a = required (is_some (path_names path)) BadPath _ range e in
    let b = required (is_some (path_names clone_path)) BadPath _ range a.1 in
    let c = bound (walk part path) _ range b.1 in
    let d = required (is_file part c.0) NotFile _ range c.2 in
    let f = bound (walk source clone_path) _ range d.1 in
    let size : ℕ = length (cells_of source f.0) in
    let g = required (is_file source f.0) NotFile _ range f.2 in
    let h = not_refused ((len == 0) || nat_lt size (from + len)) BadRange _ range g.1 in
    let i = required (is_aligned offset from len size) Unaligned _ range h.1 in
    let j = required (nat_le (offset + len) greatest_end) FileTooBig _ range i.1 in
    let k = not_refused (own && (f.0 == c.0) && overlap offset from len) Overlap _ range j.1 in
    let same : record { ino = c.0; cells = take len (drop from (cells_of source f.0)) } ≡ range = ok_same k.1 in
    let ino_is : c.0 ≡ range.ino = ap (λ (r : Cloned _). r.ino) same in
    let cells_are : range.cells ≡ take len (drop from (cells_of source f.0)) = sym (ap (λ (r : Cloned _). r.cells) same) in
    let l = or_parts (len == 0) (nat_lt size (from + len)) h.0 in
    let within : from + len ≤ size = ltb-false size (from + len) l.1 in
    let m = and_parts ((offset % 4096 == 0) && (from % 4096 == 0)) ((len % 4096 == 0) || (from + len == size)) i.0 in
    let n = and_parts (offset % 4096 == 0) (from % 4096 == 0) m.0 in
    record {
      is_path = a.0;
      is_clone_path = b.0;
      walked = subst (λ (x : ℕ). walk part path ≡ Ok x) ino_is c.1;
      file = ap (is_file part) (sym ino_is) ∙ d.0;
      source_ino = f.0;
      source_walked = f.1;
      source_file = g.0;
      some = not_zero len l.0;
      within = within;
      even = eqb-true (offset % 4096) 0 n.0;
      from_even = eqb-true (from % 4096) 0 n.1;
      ends = elim (or_true (len % 4096 == 0) (from + len == size) m.1) [
        | inl whole ↦ inl (eqb-true (len % 4096) 0 whole)
        | inr end ↦ inr (eqb-true (from + len) size end)
      ];
      fits = j.0;
      cells_are = cells_are;
      length_is = ap length cells_are ∙ (let t = length-take len (drop from (cells_of source f.0)) in let d = length-drop from (cells_of source f.0) in omega (arith, t, d, within));
    }

-- A clone that is taken has a source.
pub source_there : {C : Type 0} (part : Subvolume C) (source : Option (Subvolume C)) (own : Bool) (path : List ℕ) (offset : ℕ) (clone_path : List ℕ) (from len : ℕ) (range : Cloned C)
    → cloned part source own (clone_values path offset clone_path from len) ≡ Ok range → (s : Subvolume C) × (source ≡ Some s)
unfolding cloned
source_there part None own path offset clone_path from len range e =
    let a = required (is_some (path_names path)) BadPath _ range e in
    let b = required (is_some (path_names clone_path)) BadPath _ range a.1 in
    let none = b.1 in
    cc
source_there part (Some s) own path offset clone_path from len range e = (s, refl)

-- The range of a clone, from the part after it.
pub clone_ranged : {C : Type 0} (x : C) (part : Subvolume C) (source : Option (Subvolume C)) (own : Bool) (path : List ℕ) (offset : ℕ) (clone_path : List ℕ) (from len : ℕ) (after : Subvolume C)
    → clone x part source own (clone_values path offset clone_path from len) ≡ Ok after
    → (range : Cloned C) × (cloned part source own (clone_values path offset clone_path from len) ≡ Ok range) × (change_inode range.ino (set_cells (overwritten x offset range.cells)) part ≡ after)
unfolding clone
clone_ranged x part source own path offset clone_path from len after e =
    let a = bound (cloned part source own (clone_values path offset clone_path from len)) (λ c. Ok (change_inode c.ino (set_cells (overwritten x offset c.cells)) part)) after e in
    (a.0, a.1, ok_same a.2)

-- With the bytes of its cells alone, the part after a clone is the part with the bytes of the range
-- put at their place.
pub after_clone : {C : Type 0} (bytes : C → ℕ) (x : C) → bytes x ≡ 0 → (u : Store ℕ) (new : Key) (path : List ℕ) (part : Subvolume C) (ino offset : ℕ) (cells : List C) → 1 ≤ length cells
    → recelled bytes (change_inode ino (set_cells (overwritten x offset cells)) part) ≡ put_bytes u new path ino offset (map bytes cells) (recelled bytes part)
after_clone {C} bytes x is_zero u new path part ino offset cells some =
    sym (change_inode-cells bytes ino (set_cells (overwritten x offset cells)) (set_cells (overwritten 0 offset (map bytes cells))) part
    (λ inode. let at : List ℕ → Inode ℕ = λ c. inode_with inode c in
    ap at (sym (overwritten-cells bytes x offset cells inode.cells ∙ ap (λ (z : ℕ). overwritten z offset (map bytes cells) (map bytes inode.cells)) is_zero))))
    ∙ overwritten_put u new path ino offset (map bytes cells) (recelled bytes part) (let l = length-map cells bytes in omega (arith, l, some))

-- ---- one redirected clone

-- Nothing has to be known of places outside.
all_free : (ps : List Piece) → AllByRecursion (MayClone (λ p. Unit {0})) ps
all_free [] = tt
all_free (Literal at bytes ∷ ps) = (tt, all_free ps)
all_free (Carried at place len ∷ ps) = (tt, all_free ps)

-- A part without traces in a store.
abbrev pub holding : Store ℕ → Key → Subvolume ℕ → State ℕ
holding u new s = record { store = u; part = Some (record { key = new; subvolume = s }) }

pub below_top : (k n top : ℕ) → nat_le n top ≡ true → k ≤ n → nat_le k top ≡ true
below_top k n top e l = let t = leb-true n top e in le-leb k top (omega (arith, t, l))

-- ---- any clone that is taken

-- A CLONE that a step takes edits the part.
pub clone_stepped : {C : Type 0} (x : C) (put : List C) (store : Store C) (part : Part C)
    (path : List ℕ) (offset : ℕ) (clone_uuid : List ℕ) (clone_ctransid : ℕ) (clone_path : List ℕ) (clone_offset clone_len : ℕ)
    → (step x put (record { store = store; part = Some part }) (Clone path offset clone_uuid clone_ctransid clone_path clone_offset clone_len)).refusal ≡ None
    → (after : Subvolume C) × (edit_part x put store part (Clone path offset clone_uuid clone_ctransid clone_path clone_offset clone_len) ≡ Ok after)
    × ((step x put (record { store = store; part = Some part }) (Clone path offset clone_uuid clone_ctransid clone_path clone_offset clone_len)).state ≡ record { store = store; part = Some (record { key = part.key; subvolume = after }) })
unfolding step step_edit
clone_stepped {C} x put store part path offset clone_uuid clone_ctransid clone_path clone_offset clone_len e = one (edit_part x put store part (Clone path offset clone_uuid clone_ctransid clone_path clone_offset clone_len)) refl e
  where
    one : (r : Result (Subvolume C) Refusal) → edit_part x put store part (Clone path offset clone_uuid clone_ctransid clone_path clone_offset clone_len) ≡ r → (edited store part r).refusal ≡ None
        → (after : Subvolume C) × (edit_part x put store part (Clone path offset clone_uuid clone_ctransid clone_path clone_offset clone_len) ≡ Ok after)
        × ((edited store part (edit_part x put store part (Clone path offset clone_uuid clone_ctransid clone_path clone_offset clone_len))).state ≡ record { store = store; part = Some (record { key = part.key; subvolume = after }) })
    one (Ok after) is q = (after, is, ap (λ (r : Result (Subvolume C) Refusal). (edited store part r).state) is)
    one (Err refusal) is q = cc

-- What holds of the cells of the part, of the source and of the fresh zero byte holds after a
-- CLONE, own or not.
pub clone_command_holds : {C : Type 0} (P : C → Type 0) (x : C) → P x → (put : List C) (store : Store C) (part : Part C)
    (path : List ℕ) (offset : ℕ) (clone_uuid : List ℕ) (clone_ctransid : ℕ) (clone_path : List ℕ) (clone_offset clone_len : ℕ) (after : Subvolume C)
    → Holds P part.subvolume → (bytes_eq clone_uuid part.key.uuid ≡ false → (s : Subvolume C) → find store (record { uuid = clone_uuid; ctransid = clone_ctransid }) ≡ Some s → Holds P s)
    → edit_part x put store part (Clone path offset clone_uuid clone_ctransid clone_path clone_offset clone_len) ≡ Ok after → Holds P after
unfolding edit_part
clone_command_holds {C} P x px put store part path offset clone_uuid clone_ctransid clone_path clone_offset clone_len after own holds e =
    clone_holds P x part.subvolume (clone_source store part (record { uuid = clone_uuid; ctransid = clone_ctransid })) (bytes_eq clone_uuid part.key.uuid) path offset clone_path clone_offset clone_len after px own
    (λ s f. one (bytes_eq clone_uuid part.key.uuid) refl s f) e
  where
    one : (b : Bool) → bytes_eq clone_uuid part.key.uuid ≡ b → (s : Subvolume C) → (if b then Some part.subvolume else find store (record { uuid = clone_uuid; ctransid = clone_ctransid })) ≡ Some s → Holds P s
    one true t s f = subst (Holds P) (same_inside f) own
    one false t s f = holds t s f

-- A source that is redirected is not the part's own, however the two are compared.
pub not_own : (current : Option (List ℕ)) (own uuid : List ℕ) → current ≡ Some own → not (is_own current uuid) ≡ true → (is_own current uuid ≡ false) × (bytes_eq uuid own ≡ false)
not_own current own uuid e n =
    let here : is_own current uuid ≡ false = one (is_own current uuid) n in
    let apart : bytes_eq own uuid ≡ false = ap (λ (o : Option (List ℕ)). is_own o uuid) (sym e) ∙ here in
    (here, false_from_ne_true (bytes_eq uuid own) (λ t. true≢false (sym (bytes_eq_same uuid) ∙ ap (λ (x : List ℕ). bytes_eq x uuid) (bytes_eq_true uuid own t) ∙ apart)))
  where
    one : (b : Bool) → not b ≡ true → b ≡ false
    one true q = cc
    one false q = refl

-- What a redirected CLONE that is taken does: its source and its range, the commands that stand for
-- it, and the part after it.
pub record Redirection (base : Store ℕ) (store : Store Traced) (part : Part Traced) (path : List ℕ) (offset : ℕ) (key : Key) (clone_path : List ℕ) (from len : ℕ) (commands : List Command) (after : Subvolume Traced) : Type 0 where
  pub other : bytes_eq key.uuid part.key.uuid ≡ false
  pub source : Subvolume Traced
  pub there : find store key ≡ Some source
  pub range : Cloned Traced
  pub made : cloned part.subvolume (Some source) false (clone_values path offset clone_path from len) ≡ Ok range
  pub commands_are : commands ≡ flat_map (piece_commands base path offset) (pieces_of base range.cells)
  pub after_is : change_inode range.ino (set_cells (overwritten (fresh 0) offset range.cells)) part.subvolume ≡ after

pub redirection : (base : Store ℕ) (parts : List (List ℕ)) (last : Key) (store : Store Traced) (part : Part Traced) (current : Option (List ℕ)) (put : List Traced)
    (path : List ℕ) (offset : ℕ) (clone_uuid : List ℕ) (clone_ctransid : ℕ) (clone_path : List ℕ) (clone_offset clone_len : ℕ) (after : Subvolume Traced)
    → current ≡ Some part.key.uuid → is_redirected parts current (Clone path offset clone_uuid clone_ctransid clone_path clone_offset clone_len) ≡ true
    → edit_part (fresh 0) put store part (Clone path offset clone_uuid clone_ctransid clone_path clone_offset clone_len) ≡ Ok after
    → Redirection base store part path offset (record { uuid = clone_uuid; ctransid = clone_ctransid }) clone_path clone_offset clone_len
    (clone_commands base parts last (record { store = store; part = Some part }) current (Clone path offset clone_uuid clone_ctransid clone_path clone_offset clone_len)) after
unfolding edit_part clone_range
redirection base parts last store part current put path offset clone_uuid clone_ctransid clone_path clone_offset clone_len after own redirected e =
    let command : Command = Clone path offset clone_uuid clone_ctransid clone_path clone_offset clone_len in
    let key : Key = record { uuid = clone_uuid; ctransid = clone_ctransid } in
    let other = not_own current part.key.uuid clone_uuid own (and_parts (is_among parts clone_uuid) (not (is_own current clone_uuid)) redirected).1 in
    let source_is : clone_source store part key ≡ find store key = ap (λ (b : Bool). if b then Some part.subvolume else find store key) other.1 in
    let a = clone_ranged (fresh 0) part.subvolume (clone_source store part key) (bytes_eq clone_uuid part.key.uuid) path offset clone_path clone_offset clone_len after e in
    let range : Cloned Traced = a.0 in
    let s = source_there part.subvolume (clone_source store part key) (bytes_eq clone_uuid part.key.uuid) path offset clone_path clone_offset clone_len range a.1 in
    record {
      other = other.1;
      source = s.0;
      there = sym source_is ∙ s.1;
      range = range;
      made = ap₂ (λ (o : Option (Subvolume Traced)) (b : Bool). cloned part.subvolume o b (clone_values path offset clone_path clone_offset clone_len)) (sym s.1) (sym other.1) ∙ a.1;
      commands_are =
          ap₂ (λ (b c : Bool). if b then Clone path offset last.uuid last.ctransid clone_path clone_offset clone_len ∷ []
          else (if c then flat_map (piece_commands base path offset) (pieces_of base (clone_range (record { store = store; part = Some part }) command)) else command ∷ [])) other.0 redirected
          ∙ ap (λ (r : Result (Cloned Traced) Refusal). flat_map (piece_commands base path offset) (pieces_of base (elim r as (λ x. List Traced) [ Err refusal ↦ [] | Ok c ↦ c.cells ]))) a.1;
      after_is = a.2;
    }

module _ (base : Store ℕ) (keys : List Key) where
  -- The cells of a clone's range come from where those of its source do.
  pub range_placed : (part source : Subvolume Traced) (path : List ℕ) (offset : ℕ) (clone_path : List ℕ) (from len : ℕ) (range : Cloned Traced)
      → ClonedFacts part source path offset clone_path from len range → Holds (InPlace base keys) source → AllByRecursion (InPlace base keys) range.cells
  range_placed part source path offset clone_path from len range facts holds =
      subst (λ (cells : List Traced). AllByRecursion (InPlace base keys) cells) (sym facts.cells_are)
      (all_take (InPlace base keys) len _ (all_drop (InPlace base keys) from _ (cells_hold (InPlace base keys) source facts.source_ino holds)))

  module _ (lawful : FindsLawful base keys)
      (u : Store ℕ) (new : Key) (same : (key : Key) → IsAmong key keys → (find u key ≡ find base key) × (bytes_eq key.uuid new.uuid ≡ false)) where
    pub range_taken : (part source : Subvolume Traced) (path : List ℕ) (offset : ℕ) (clone_path : List ℕ) (from len : ℕ) (range : Cloned Traced)
        → cloned part (Some source) false (clone_values path offset clone_path from len) ≡ Ok range → Holds (InPlace base keys) source
        → Takes (holding u new (recelled byte_of part)) (flat_map (piece_commands base path offset) (pieces_of base range.cells))
        (holding u new (recelled byte_of (change_inode range.ino (set_cells (overwritten (fresh 0) offset range.cells)) part)))
    range_taken part source path offset clone_path from len range e holds =
        let facts = cloned_facts part source false path offset clone_path from len range e in
        let bytes : List ℕ = map byte_of range.cells in
        let plain : Subvolume ℕ = recelled byte_of part in
        let cs : List Command = flat_map (piece_commands base path offset) (pieces_of base range.cells) in
        let place : IsPlace u new path range.ino plain = record { walked = walk-cells byte_of part path ∙ facts.walked; file = is_file-cells byte_of part range.ino ∙ facts.file } in
        let long = length-map range.cells byte_of ∙ facts.length_is in
        let fits : Fits u new path range.ino (offset + 0) bytes = fits_part u new path range.ino (offset + 0) (offset + len) bytes (λ k l. below_top k (offset + len) greatest_end facts.fits l) (inr (omega (arith, long))) in
        let covered = range_covered base keys range.cells (range_placed part source path offset clone_path from len range facts holds) in
        let agree : (key : Key) (s : Subvolume ℕ) → IsAmong key keys → find base key ≡ Some s → (find u key ≡ Some s) × (bytes_eq key.uuid new.uuid ≡ false) = λ key s among f. let t = same key among in (t.0 ∙ f, t.1) in
        let leads : (p : Place) (s : Subvolume ℕ) → IsAmong p.key keys → find base p.key ≡ Some s → is_nameable s p.ino ≡ true → (walk s (path_of base p) ≡ Ok p.ino) × (is_some (path_names (path_of base p)) ≡ true) =
        λ p s among f n. path_leads base p s (lawful p.key s among f) f n in
        let one = carried_run u new path range.ino base keys offset facts.even facts.is_path agree leads in
        let run = pieces_run u new path range.ino base keys offset facts.even facts.is_path (λ s. Unit {0}) (λ at bytes s p q. tt) (λ p. Unit {0}) (λ at p len s h m e q still f. one at p len s h e q f)
        0 (pieces_of base range.cells) bytes plain covered (all_free (pieces_of base range.cells)) place tt fits in
        let start : offset + 0 ≡ offset = omega arith in
        let some = facts.some in
        let ended : put_bytes u new path range.ino (offset + 0) bytes plain ≡ recelled byte_of (change_inode range.ino (set_cells (overwritten (fresh 0) offset range.cells)) part) =
        ap (λ (k : ℕ). put_bytes u new path range.ino k bytes plain) start ∙ sym (after_clone byte_of (fresh 0) refl u new path part range.ino offset range.cells (let l = facts.length_is in omega (arith, some, l))) in
        subst (λ (t : Subvolume ℕ). Takes (holding u new plain) cs (holding u new t)) ended run
