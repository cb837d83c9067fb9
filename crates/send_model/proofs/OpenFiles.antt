-- The real receiver does what the plain run does, where no command goes astray.
use Rattle.std.specs.Prelude.{◌≡◌, ℕ, ◌+◌, ◌==◌, Bool, true, false, not, ◌&&◌, ◌||◌, List, [], ◌∷◌, length, take, drop, Option, None, Some, Result, Ok, Err, is_some, nat_le, nat_lt}
use Rattle.std.specs.Str.{bytes_eq}
use Rattle.std.proofs.Common.{refl, sym, ap, subst, ◌∙◌, eqb-true}
use Rattle.send_model.specs.Refusal.{Refusal, NoSubvolume, NoSource, NotFile, BadPath, BadRange, Unaligned, FileTooBig, Overlap, BadFallocate}
use Rattle.send_model.specs.Chain.{◌>>=◌, ◌>>◌, require, refuse_if, found}
use Rattle.send_model.specs.Command.{Command, Write, Clone, Fallocate}
use Rattle.send_model.specs.Path.{path_names}
use Rattle.send_model.specs.Subvolume.{Subvolume, is_file, walk}
use Rattle.send_model.specs.Edit.{edit, change_contents, fallocate, greatest_end, allocation_of, fallocated, written_at, overwritten, change_inode, set_cells}
use Rattle.send_model.specs.Clone.{Cloned, cloned, clone, cells_of, is_aligned, overlap, clone_values}
use Rattle.send_model.specs.Store.{Store, Part, State, After, Stepped, step, step_edit, edit_part, edited, clone_source, key_of}
use Rattle.send_model.specs.Receive.{bytes_of}
use Rattle.send_model.specs.Opened.{Opened, Receiver, written_path, kept_at, opened_after, edit_open, step_open, stepped_by, receiver_step, leads_elsewhere, is_astray_at, is_astray, AreSteady}
use Rattle.send_model.specs.Separated.{ReceiverTakes, SteadyIsPlain}
use Rattle.send_model.proofs.Fuel.{required, not_refused, bound, ok_same}
use Rattle.send_model.proofs.Sound.{found_is}
use Rattle.send_model.proofs.Sorts.{same_inside}
use Rattle.send_model.proofs.Merging.{edited_taken}

module _ (put : List ℕ) (store : Store ℕ) (part : Part ℕ) (ino : ℕ) where
  -- What an accepted change of contents says of its path.
  pub contents_file : (path : List ℕ) (end : ℕ) (change : List ℕ → List ℕ) (next : Subvolume ℕ) → change_contents path end change part.subvolume ≡ Ok next → walk part.subvolume path ≡ Ok ino → is_file part.subvolume ino ≡ true
  unfolding change_contents
  contents_file path end change next e w =
      let a = bound (walk part.subvolume path) (λ at. require (is_file part.subvolume at) NotFile >> (require (nat_le end greatest_end) FileTooBig >> Ok (change_inode at (set_cells change) part.subvolume))) next e in
      let f = required (is_file part.subvolume a.0) NotFile (require (nat_le end greatest_end) FileTooBig >> Ok (change_inode a.0 (set_cells change) part.subvolume)) next a.2 in
      subst (λ (i : ℕ). is_file part.subvolume i ≡ true) (ok_same (sym a.1 ∙ w)) f.0

  pub write_open : (path : List ℕ) (offset : ℕ) (bytes : List ℕ) (next : Subvolume ℕ) → edit_part 0 put store part (Write path offset bytes) ≡ Ok next → walk part.subvolume path ≡ Ok ino
      → edit_open 0 put store part ino (Write path offset bytes) ≡ edit_part 0 put store part (Write path offset bytes)
  unfolding edit_open edit_part edit change_contents
  write_open path offset bytes next e w =
      let f = contents_file path (offset + length put) (written_at 0 offset put) next e w in
      sym (rw w (rw f refl))

  pub fallocate_open : (size : ℕ) (path : List ℕ) (offset mode : ℕ) (next : Subvolume ℕ) → edit_part 0 put store part (Fallocate size path offset mode) ≡ Ok next → walk part.subvolume path ≡ Ok ino
      → edit_open 0 put store part ino (Fallocate size path offset mode) ≡ edit_part 0 put store part (Fallocate size path offset mode)
  unfolding edit_open edit_part edit fallocate
  fallocate_open size path offset mode next e w =
      let rest : ℕ → Result (Subvolume ℕ) Refusal = λ at. found (allocation_of mode) (BadFallocate mode) >>= λ allocation. require (nat_le (offset + size) greatest_end) FileTooBig >> Ok (change_inode at (set_cells (fallocated 0 allocation offset size)) part.subvolume) in
      let a = bound (walk part.subvolume path) (λ at. require (is_file part.subvolume at) NotFile >> rest at) next e in
      let f = required (is_file part.subvolume a.0) NotFile (rest a.0) next a.2 in
      let g : is_file part.subvolume ino ≡ true = subst (λ (i : ℕ). is_file part.subvolume i ≡ true) (ok_same (sym a.1 ∙ w)) f.0 in
      sym (rw w (rw g refl))

  clone_same : (path : List ℕ) (offset : ℕ) (clone_uuid : List ℕ) (clone_ctransid : ℕ) (clone_path : List ℕ) (from len : ℕ) (other : Subvolume ℕ) (from_ino : ℕ)
      → is_some (path_names path) ≡ true → is_some (path_names clone_path) ≡ true → clone_source store part (key_of clone_uuid clone_ctransid) ≡ Some other
      → walk part.subvolume path ≡ Ok ino → is_file part.subvolume ino ≡ true → walk other clone_path ≡ Ok from_ino → is_file other from_ino ≡ true
      → ((len == 0) || nat_lt (length (cells_of other from_ino)) (from + len)) ≡ false → is_aligned offset from len (length (cells_of other from_ino)) ≡ true
      → nat_le (offset + len) greatest_end ≡ true → (bytes_eq clone_uuid part.key.uuid && (from_ino == ino) && overlap offset from len) ≡ false
      → edit_open 0 put store part ino (Clone path offset clone_uuid clone_ctransid clone_path from len) ≡ edit_part 0 put store part (Clone path offset clone_uuid clone_ctransid clone_path from len)
  unfolding edit_open edit_part clone cloned
  clone_same path offset clone_uuid clone_ctransid clone_path from len other from_ino a b o w f j g k1 k2 k3 k4 =
      let done : Subvolume ℕ = change_inode ino (set_cells (overwritten 0 offset (take len (drop from (cells_of other from_ino))))) part.subvolume in
      let left : edit_open 0 put store part ino (Clone path offset clone_uuid clone_ctransid clone_path from len) ≡ Ok done =
      rw o (rw j (rw g (rw k1 (rw k2 (rw k3 (rw k4 refl)))))) in
      let right : edit_part 0 put store part (Clone path offset clone_uuid clone_ctransid clone_path from len) ≡ Ok done =
      rw a (rw b (rw o (rw w (rw f (rw j (rw g (rw k1 (rw k2 (rw k3 (rw k4 refl)))))))))) in
      left ∙ sym right

  pub clone_open : (path : List ℕ) (offset : ℕ) (clone_uuid : List ℕ) (clone_ctransid : ℕ) (clone_path : List ℕ) (from len : ℕ) (next : Subvolume ℕ)
      → edit_part 0 put store part (Clone path offset clone_uuid clone_ctransid clone_path from len) ≡ Ok next → walk part.subvolume path ≡ Ok ino
      → edit_open 0 put store part ino (Clone path offset clone_uuid clone_ctransid clone_path from len) ≡ edit_part 0 put store part (Clone path offset clone_uuid clone_ctransid clone_path from len)
  unfolding edit_open edit_part clone cloned
  clone_open path offset clone_uuid clone_ctransid clone_path from len next e w =
      let source : Option (Subvolume ℕ) = clone_source store part (key_of clone_uuid clone_ctransid) in
      let own : Bool = bytes_eq clone_uuid part.key.uuid in
      let r = bound (cloned part.subvolume source own (clone_values path offset clone_path from len)) (λ range. Ok (change_inode range.ino (set_cells (overwritten 0 offset range.cells)) part.subvolume)) next e in
      let end : ℕ → Subvolume ℕ → ℕ → Result (Cloned ℕ) Refusal = λ at other from_ino.
      refuse_if ((len == 0) || nat_lt (length (cells_of other from_ino)) (from + len)) BadRange >>
      (require (is_aligned offset from len (length (cells_of other from_ino))) Unaligned >>
      (require (nat_le (offset + len) greatest_end) FileTooBig >>
      (refuse_if (own && (from_ino == at) && overlap offset from len) Overlap >>
      Ok (record { ino = at; cells = take len (drop from (cells_of other from_ino)) })))) in
      let sourced : ℕ → Subvolume ℕ → Result (Cloned ℕ) Refusal = λ at other. walk other clone_path >>= λ from_ino. require (is_file other from_ino) NotFile >> end at other from_ino in
      let after : Subvolume ℕ → Result (Cloned ℕ) Refusal = λ other. walk part.subvolume path >>= λ at. require (is_file part.subvolume at) NotFile >> sourced at other in
      let a = required (is_some (path_names path)) BadPath (require (is_some (path_names clone_path)) BadPath >> (found source NoSource >>= after)) r.0 r.1 in
      let b = required (is_some (path_names clone_path)) BadPath (found source NoSource >>= after) r.0 a.1 in
      let o = bound (found source NoSource) after r.0 b.1 in
      let i = bound (walk part.subvolume path) (λ at. require (is_file part.subvolume at) NotFile >> sourced at o.0) r.0 o.2 in
      let f = required (is_file part.subvolume i.0) NotFile (sourced i.0 o.0) r.0 i.2 in
      let same : i.0 ≡ ino = ok_same (sym i.1 ∙ w) in
      let file : is_file part.subvolume ino ≡ true = subst (λ (x : ℕ). is_file part.subvolume x ≡ true) same f.0 in
      let t : sourced ino o.0 ≡ Ok r.0 = subst (λ (x : ℕ). sourced x o.0 ≡ Ok r.0) same f.1 in
      let j = bound (walk o.0 clone_path) (λ from_ino. require (is_file o.0 from_ino) NotFile >> end ino o.0 from_ino) r.0 t in
      let g = required (is_file o.0 j.0) NotFile (end ino o.0 j.0) r.0 j.2 in
      let size : ℕ = length (cells_of o.0 j.0) in
      let last : Result (Cloned ℕ) Refusal = Ok (record { ino = ino; cells = take len (drop from (cells_of o.0 j.0)) }) in
      let k1 = not_refused ((len == 0) || nat_lt size (from + len)) BadRange (require (is_aligned offset from len size) Unaligned >> (require (nat_le (offset + len) greatest_end) FileTooBig >> (refuse_if (own && (j.0 == ino) && overlap offset from len) Overlap >> last))) r.0 g.1 in
      let k2 = required (is_aligned offset from len size) Unaligned (require (nat_le (offset + len) greatest_end) FileTooBig >> (refuse_if (own && (j.0 == ino) && overlap offset from len) Overlap >> last)) r.0 k1.1 in
      let k3 = required (nat_le (offset + len) greatest_end) FileTooBig (refuse_if (own && (j.0 == ino) && overlap offset from len) Overlap >> last) r.0 k2.1 in
      let k4 = not_refused (own && (j.0 == ino) && overlap offset from len) Overlap last r.0 k3.1 in
      clone_same path offset clone_uuid clone_ctransid clone_path from len o.0 j.0 a.0 b.0 (found_is source NoSource o.0 o.1) w file j.1 g.0 k1.0 k2.0 k3.0 k4.0

  pub edit_walks : (c : Command) (path : List ℕ) (next : Subvolume ℕ) → written_path c ≡ Some path → edit_part 0 put store part c ≡ Ok next → (now : ℕ) × (walk part.subvolume path ≡ Ok now) × (is_file part.subvolume now ≡ true)
  unfolding edit_part edit change_contents fallocate clone cloned
  edit_walks (Write path offset bytes) p next h e =
      let a = bound (walk part.subvolume path) (λ at. require (is_file part.subvolume at) NotFile >> (require (nat_le (offset + length put) greatest_end) FileTooBig >> Ok (change_inode at (set_cells (written_at 0 offset put)) part.subvolume))) next e in
      let f = required (is_file part.subvolume a.0) NotFile (require (nat_le (offset + length put) greatest_end) FileTooBig >> Ok (change_inode a.0 (set_cells (written_at 0 offset put)) part.subvolume)) next a.2 in
      (a.0, ap (walk part.subvolume) (sym (same_inside h)) ∙ a.1, f.0)
  edit_walks (Fallocate size path offset mode) p next h e =
      let a = bound (walk part.subvolume path) (λ at. require (is_file part.subvolume at) NotFile >> (found (allocation_of mode) (BadFallocate mode) >>= λ allocation. require (nat_le (offset + size) greatest_end) FileTooBig >> Ok (change_inode at (set_cells (fallocated 0 allocation offset size)) part.subvolume))) next e in
      let f = required (is_file part.subvolume a.0) NotFile (found (allocation_of mode) (BadFallocate mode) >>= λ allocation. require (nat_le (offset + size) greatest_end) FileTooBig >> Ok (change_inode a.0 (set_cells (fallocated 0 allocation offset size)) part.subvolume)) next a.2 in
      (a.0, ap (walk part.subvolume) (sym (same_inside h)) ∙ a.1, f.0)
  edit_walks (Clone path offset clone_uuid clone_ctransid clone_path from len) p next h e =
      let source : Option (Subvolume ℕ) = clone_source store part (key_of clone_uuid clone_ctransid) in
      let own : Bool = bytes_eq clone_uuid part.key.uuid in
      let r = bound (cloned part.subvolume source own (clone_values path offset clone_path from len)) (λ range. Ok (change_inode range.ino (set_cells (overwritten 0 offset range.cells)) part.subvolume)) next e in
      let end : Subvolume ℕ → ℕ → ℕ → Result (Cloned ℕ) Refusal = λ other at from_ino.
      refuse_if ((len == 0) || nat_lt (length (cells_of other from_ino)) (from + len)) BadRange >>
      (require (is_aligned offset from len (length (cells_of other from_ino))) Unaligned >>
      (require (nat_le (offset + len) greatest_end) FileTooBig >>
      (refuse_if (own && (from_ino == at) && overlap offset from len) Overlap >>
      Ok (record { ino = at; cells = take len (drop from (cells_of other from_ino)) })))) in
      let on : Subvolume ℕ → ℕ → Result (Cloned ℕ) Refusal = λ other at. require (is_file part.subvolume at) NotFile >> (walk other clone_path >>= λ from_ino. require (is_file other from_ino) NotFile >> end other at from_ino) in
      let after : Subvolume ℕ → Result (Cloned ℕ) Refusal = λ other. walk part.subvolume path >>= on other in
      let a = required (is_some (path_names path)) BadPath (require (is_some (path_names clone_path)) BadPath >> (found source NoSource >>= after)) r.0 r.1 in
      let b = required (is_some (path_names clone_path)) BadPath (found source NoSource >>= after) r.0 a.1 in
      let o = bound (found source NoSource) after r.0 b.1 in
      let i = bound (walk part.subvolume path) (on o.0) r.0 o.2 in
      let f = required (is_file part.subvolume i.0) NotFile (walk o.0 clone_path >>= λ from_ino. require (is_file o.0 from_ino) NotFile >> end o.0 i.0 from_ino) r.0 i.2 in
      (i.0, ap (walk part.subvolume) (sym (same_inside h)) ∙ i.1, f.0)
  edit_walks c p next h e = cc

  pub edit_opened : (c : Command) (path : List ℕ) (next : Subvolume ℕ) → written_path c ≡ Some path → edit_part 0 put store part c ≡ Ok next → walk part.subvolume path ≡ Ok ino → edit_open 0 put store part ino c ≡ edit_part 0 put store part c
  edit_opened (Write path offset bytes) p next h e w = write_open path offset bytes next e (ap (walk part.subvolume) (same_inside h) ∙ w)
  edit_opened (Fallocate size path offset mode) p next h e w = fallocate_open size path offset mode next e (ap (walk part.subvolume) (same_inside h) ∙ w)
  edit_opened (Clone path offset clone_uuid clone_ctransid clone_path from len) p next h e w = clone_open path offset clone_uuid clone_ctransid clone_path from len next e (ap (walk part.subvolume) (same_inside h) ∙ w)
  edit_opened c p next h e w = cc

-- ---- one command

-- A command that writes is an edit of the part.
pub written_step : (c : Command) (path : List ℕ) → written_path c ≡ Some path → (put : List ℕ) (state : State ℕ) → step 0 put state c ≡ step_edit 0 put state c
unfolding step
written_step (Write path offset bytes) p h put state = refl
written_step (Fallocate size path offset mode) p h put state = refl
written_step (Clone path offset clone_uuid clone_ctransid clone_path from len) p h put state = refl
written_step c p h put state = cc

-- The file that is open is the one that the path names.
no_elsewhere : (part : Part ℕ) (ino now : ℕ) (path : List ℕ) → walk part.subvolume path ≡ Ok now → leads_elsewhere (Some part) ino path ≡ false → now ≡ ino
no_elsewhere part ino now path w h = one (now == ino) refl (subst (λ (r : Result ℕ Refusal). elim r as (λ x. Bool) [ Err refusal ↦ false | Ok at ↦ not (at == ino) ] ≡ false) w h)
  where
    one : (b : Bool) → (now == ino) ≡ b → not b ≡ false → now ≡ ino
    one true e n = eqb-true now ino e
    one false e n = cc

pub open_step : (put : List ℕ) (state : State ℕ) (c : Command) (path : List ℕ) (ino : ℕ) → written_path c ≡ Some path → leads_elsewhere state.part ino path ≡ false → (step 0 put state c).refusal ≡ None → step_open 0 put state ino c ≡ step 0 put state c
unfolding step_edit
open_step put state c path ino h l t = one state.part refl l (subst (λ (x : Stepped ℕ). x.refusal ≡ None) (written_step c path h put state) t) ∙ sym (written_step c path h put state)
  where
    one : (o : Option (Part ℕ)) → state.part ≡ o → leads_elsewhere o ino path ≡ false → (elim o as (λ x. Stepped ℕ) [ None ↦ record { state = state; refusal = Some NoSubvolume } | Some part ↦ edited state.store part (edit_part 0 put state.store part c) ]).refusal ≡ None
        → elim o as (λ x. Stepped ℕ) [ None ↦ record { state = state; refusal = Some NoSubvolume } | Some part ↦ edited state.store part (edit_open 0 put state.store part ino c) ] ≡ elim o as (λ x. Stepped ℕ) [ None ↦ record { state = state; refusal = Some NoSubvolume } | Some part ↦ edited state.store part (edit_part 0 put state.store part c) ]
    one None e l t = refl
    one (Some part) e l t =
        let ok = edited_taken state.store part (edit_part 0 put state.store part c) t in
        let w = edit_walks put state.store part ino c path ok.0 h ok.1 in
        ap (edited state.store part) (edit_opened put state.store part ino c path ok.0 h ok.1 (w.1 ∙ (let of : ℕ → Result ℕ Refusal = λ x. Ok x in ap of (no_elsewhere part ino w.0 path w.1 l))))

pub steady_step : (opened : Option Opened) (state : State ℕ) (c : Command) → is_astray opened state c ≡ false → (step 0 (bytes_of c) state c).refusal ≡ None
    → receiver_step 0 (bytes_of c) (record { state = state; opened = opened }) c ≡ record { state = record { state = (step 0 (bytes_of c) state c).state; opened = opened_after opened state.part c }; refusal = None }
unfolding is_astray receiver_step
steady_step opened state c a t = ap (λ (x : Stepped ℕ). record { state = record { state = x.state; opened = opened_after opened state.part c }; refusal = x.refusal }) (one (written_path c) refl a) ∙ ap (λ (x : Option Refusal). record { state = record { state = (step 0 (bytes_of c) state c).state; opened = opened_after opened state.part c }; refusal = x }) t
  where
    two : (path : List ℕ) → written_path c ≡ Some path → (k : Option ℕ) → elim k as (λ x. Bool) [ None ↦ false | Some ino ↦ leads_elsewhere state.part ino path ] ≡ false → stepped_by 0 (bytes_of c) (record { state = state; opened = opened }) c k ≡ step 0 (bytes_of c) state c
    two path h None l = refl
    two path h (Some ino) l = open_step (bytes_of c) state c path ino h l t

    none : (o : Option Opened) → kept_at o None ≡ None
    none None = refl
    none (Some x) = refl

    one : (p : Option (List ℕ)) → written_path c ≡ p → is_astray_at opened state.part p ≡ false → stepped_by 0 (bytes_of c) (record { state = state; opened = opened }) c (kept_at opened (written_path c)) ≡ step 0 (bytes_of c) state c
    one None h l = ap (stepped_by 0 (bytes_of c) (record { state = state; opened = opened }) c) (ap (kept_at opened) h ∙ none opened)
    one (Some path) h l = ap (λ (q : Option (List ℕ)). stepped_by 0 (bytes_of c) (record { state = state; opened = opened }) c (kept_at opened q)) h ∙ two path h (kept_at opened (Some path)) l

pub steady_is_plain : SteadyIsPlain
unfolding AreSteady
steady_is_plain opened state end [] st t = t
steady_is_plain opened state end (c ∷ cs) (a, st) (h, t) =
    let is = steady_step opened state c a h in
    let P : Receiver ℕ → Type 0 = λ r. ReceiverTakes r cs end in
    (ap (λ (x : After (Receiver ℕ)). x.refusal) is, subst P (sym (ap (λ (x : After (Receiver ℕ)). x.state) is)) (steady_is_plain (opened_after opened state.part c) _ end cs st t))
