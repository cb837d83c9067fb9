-- What goes before a command, and the separator itself, as the code appends them.
use Rattle.std.specs.Prelude.{◌≡◌, ℕ, ◌≤◌, Bool, true, false, not, ◌&&◌, List, [], ◌∷◌, ◌++◌, length, Option, None, Some, Result, Ok, Err, OnOk, if◌then◌else◌}
use Rattle.std.specs.Option.{option_map}
use Rattle.std.specs.Str.{bytes_eq}
use Rattle.std.proofs.Common.{refl, sym, ap, ap₂, subst, ◌∙◌, append_assoc, append-nil}
use Rattle.std.proofs.lemmas.Bool.{and_right}
use Rattle.send_model.specs.Refusal.{Refusal}
use Rattle.send_model.specs.Command.{Command, Subvol, Snapshot, MkFile, MkDir, MkNod, MkFifo, MkSock, Symlink, Rename, Link, Unlink, Rmdir, SetXattr, RemoveXattr, Write, Clone, Truncate, Chmod, Chown, Utimes, End, UpdateExtent, Fallocate, FileAttr}
use Rattle.send_model.specs.Subvolume.{Subvolume, walk, is_file}
use Rattle.send_model.specs.Store.{State}
use Rattle.send_model.proofs.Stores.{bytes_eq_true}
use Rattle.send_model.specs.Opened.{Opened, kept_at, written_path, opened_at, is_astray}
use Rattle.send_model.specs.Separated.{touch, detour, free_name, names_file, separator, separator_in, mtime_of_root, atime_of_root}
use Rattle.send_model.specs.Exported.{Exporting, exporting_after}
use Rattle.send_model.specs.Receivable.{receivable}
use Rattle.stream_export.specs.Exporting.{Blank, before, opening, ready_for, opened_by, opened_for, opened_anew, all_receivable, closes}
use Rattle.auditor.specs.Following.{blank_step}
use Rattle.stream_export.proofs.Opening.{anew_is, short_path}
use Rattle.stream_export.proofs.Walking.{opened_still}

-- ---- commands by what they write to

inside : {A : Type 0} {a b : A} → Some a ≡ Some b → a ≡ b
inside e = cc

-- A command that writes to a path goes by that path alone.
pub by_path : (now : Exporting Blank) (c : Command) (path : List ℕ) → Some path ≡ written_path c → (before now (touch path) ≡ before now c) × (opened_for now (touch path) ≡ opened_for now c)
unfolding separator is_astray
by_path now (Subvol uuid ctransid path) to e = cc
by_path now (Snapshot uuid ctransid path clone_uuid clone_ctransid) to e = cc
by_path now (MkFile path) to e = cc
by_path now (MkDir path) to e = cc
by_path now (MkNod mode rdev path) to e = cc
by_path now (MkFifo path) to e = cc
by_path now (MkSock path) to e = cc
by_path now (Symlink path path_link) to e = cc
by_path now (Rename path path_to) to e = cc
by_path now (Link path path_link) to e = cc
by_path now (Unlink path) to e = cc
by_path now (Rmdir path) to e = cc
by_path now (SetXattr name value path) to e = cc
by_path now (RemoveXattr name path) to e = cc
by_path now (Write path offset bytes) to e = let same : to ≡ path = inside e in (ap (λ (p : List ℕ). before now (touch p)) same, ap (λ (p : List ℕ). opened_for now (touch p)) same)
by_path now (Clone path offset clone_uuid clone_ctransid clone_path clone_offset clone_len) to e = let same : to ≡ path = inside e in (ap (λ (p : List ℕ). before now (touch p)) same, ap (λ (p : List ℕ). opened_for now (touch p)) same)
by_path now (Truncate size path) to e = cc
by_path now (Chmod mode path) to e = cc
by_path now (Chown uid gid path) to e = cc
by_path now (Utimes mtime atime path) to e = cc
by_path now End to e = cc
by_path now (UpdateExtent size path offset) to e = cc
by_path now (Fallocate size path offset mode) to e = let same : to ≡ path = inside e in (ap (λ (p : List ℕ). before now (touch p)) same, ap (λ (p : List ℕ). opened_for now (touch p)) same)
by_path now (FileAttr path flags) to e = cc

-- A head and END.
pub closed_by : (now : Exporting Blank) (c : Command) → closes c ≡ true → (before now c ≡ []) × (record { state = now.state; opened = None; other = now.other } ≡ opened_for now c)
unfolding separator is_astray
closed_by now (Subvol uuid ctransid path) e = (refl, refl)
closed_by now (Snapshot uuid ctransid path clone_uuid clone_ctransid) e = (refl, refl)
closed_by now (MkFile path) e = cc
closed_by now (MkDir path) e = cc
closed_by now (MkNod mode rdev path) e = cc
closed_by now (MkFifo path) e = cc
closed_by now (MkSock path) e = cc
closed_by now (Symlink path path_link) e = cc
closed_by now (Rename path path_to) e = cc
closed_by now (Link path path_link) e = cc
closed_by now (Unlink path) e = cc
closed_by now (Rmdir path) e = cc
closed_by now (SetXattr name value path) e = cc
closed_by now (RemoveXattr name path) e = cc
closed_by now (Write path offset bytes) e = cc
closed_by now (Clone path offset clone_uuid clone_ctransid clone_path clone_offset clone_len) e = cc
closed_by now (Truncate size path) e = cc
closed_by now (Chmod mode path) e = cc
closed_by now (Chown uid gid path) e = cc
closed_by now (Utimes mtime atime path) e = cc
closed_by now End e = (refl, refl)
closed_by now (UpdateExtent size path offset) e = cc
closed_by now (Fallocate size path offset mode) e = cc
closed_by now (FileAttr path flags) e = cc

-- A command that neither writes to a path nor closes a file.
pub left_by : (now : Exporting Blank) (c : Command) → closes c ≡ false → None ≡ written_path c → (before now c ≡ []) × (now ≡ opened_for now c)
unfolding separator is_astray
left_by now (Subvol uuid ctransid path) e w = cc
left_by now (Snapshot uuid ctransid path clone_uuid clone_ctransid) e w = cc
left_by now (MkFile path) e w = (refl, refl)
left_by now (MkDir path) e w = (refl, refl)
left_by now (MkNod mode rdev path) e w = (refl, refl)
left_by now (MkFifo path) e w = (refl, refl)
left_by now (MkSock path) e w = (refl, refl)
left_by now (Symlink path path_link) e w = (refl, refl)
left_by now (Rename path path_to) e w = (refl, refl)
left_by now (Link path path_link) e w = (refl, refl)
left_by now (Unlink path) e w = (refl, refl)
left_by now (Rmdir path) e w = (refl, refl)
left_by now (SetXattr name value path) e w = (refl, refl)
left_by now (RemoveXattr name path) e w = (refl, refl)
left_by now (Write path offset bytes) e w = cc
left_by now (Clone path offset clone_uuid clone_ctransid clone_path clone_offset clone_len) e w = cc
left_by now (Truncate size path) e w = (refl, refl)
left_by now (Chmod mode path) e w = (refl, refl)
left_by now (Chown uid gid path) e w = (refl, refl)
left_by now (Utimes mtime atime path) e w = (refl, refl)
left_by now End e w = cc
left_by now (UpdateExtent size path offset) e w = (refl, refl)
left_by now (Fallocate size path offset mode) e w = cc
left_by now (FileAttr path flags) e w = (refl, refl)

-- What is known right before a command is taken that opens no file: it writes to no path, or to the
-- one that is open.
pub ready_left : (now : Exporting Blank) (c : Command) → None ≡ written_path c → now ≡ opened_for now c → now ≡ ready_for now c
ready_left now c e same = same ∙ ap (λ (w : Option (List ℕ)). elim (opening now.opened w) as (λ x. Exporting Blank) [ None ↦ opened_for now c | Some p ↦ now ]) e

pub ready_open : (now : Exporting Blank) (c : Command) (path : List ℕ) (ino : ℕ) → Some path ≡ written_path c → kept_at now.opened (Some path) ≡ Some ino → opened_for now c ≡ ready_for now c
ready_open now c path ino e kept =
    let none : opening now.opened (written_path c) ≡ None =
    ap (opening now.opened) (sym e) ∙ ap (λ (k : Option ℕ). elim k as (λ x. Option (List ℕ)) [ None ↦ Some path | Some i ↦ None ]) kept in
    ap (λ (o : Option (List ℕ)). elim o as (λ x. Exporting Blank) [ None ↦ opened_for now c | Some p ↦ now ]) (sym none)

-- Nothing more is appended.
pub nothing_added : (version : ℕ) (bytes : List ℕ) (cs : List Command) → cs ≡ [] → bytes ≡ bytes ++ all_receivable version cs
nothing_added version bytes cs e = sym (ap (λ (ds : List Command). bytes ++ all_receivable version ds) e ∙ append-nil bytes)

pub on_ok_by : {T E : Type 0} (r : Result T E) (P Q : Type 0) → (P → Q) → OnOk r P → OnOk r Q
on_ok_by (Ok x) P Q f p = f p
on_ok_by (Err e) P Q f p = p

pub on_ok_always : {T E : Type 0} (r : Result T E) (P : Type 0) → P → OnOk r P
on_ok_always (Ok x) P p = p
on_ok_always (Err e) P p = tt

-- ---- the separator

-- A path that names a file is short.
pub short_file : {C : Type 0} (s : Subvolume C) (path : List ℕ) → names_file s path ≡ true → length path ≤ 4095
short_file s path named = one (walk s path) refl named
  where
    one : (r : Result ℕ Refusal) → walk s path ≡ r → (elim r as (λ x. Bool) [ Err refusal ↦ false | Ok ino ↦ is_file s ino ]) ≡ true → length path ≤ 4095
    one (Err refusal) e n = cc
    one (Ok ino) e n = short_path s path ino e

pub touched : {C : Type 0} (s : Subvolume C) (other path : List ℕ) → names_file s other ≡ true → not (bytes_eq other path) ≡ true → separator_in s other path ≡ touch other ∷ []
unfolding separator_in
touched s other path named differ =
    ap (λ (b : Bool). if b && not (bytes_eq other path) then touch other ∷ [] else detour s (free_name s) path) named
    ∙ ap (λ (b : Bool). if b then touch other ∷ [] else detour s (free_name s) path) differ

pub linked_unnamed : {C : Type 0} (s : Subvolume C) (other path : List ℕ) → names_file s other ≡ false → separator_in s other path ≡ detour s (free_name s) path
unfolding separator_in
linked_unnamed s other path named = ap (λ (b : Bool). if b && not (bytes_eq other path) then touch other ∷ [] else detour s (free_name s) path) named

pub linked_same : {C : Type 0} (s : Subvolume C) (other path : List ℕ) → not (bytes_eq other path) ≡ false → separator_in s other path ≡ detour s (free_name s) path
unfolding separator_in
linked_same s other path same =
    ap (λ (b : Bool). if b then touch other ∷ [] else detour s (free_name s) path) (and_right (names_file s other) (not (bytes_eq other path)) same)

-- The four frames of a detour.
pub detour_added : {C : Type 0} (s : Subvolume C) (version : ℕ) (other path n m k : List ℕ) (a b c d e : List ℕ) → n ≡ free_name s → m ≡ free_name s → k ≡ free_name s
    → separator_in s other path ≡ detour s (free_name s) path
    → b ≡ a ++ receivable version (Link n path) → c ≡ b ++ receivable version (touch m) → d ≡ c ++ receivable version (Unlink k)
    → e ≡ d ++ receivable version (Utimes (mtime_of_root s) (atime_of_root s) []) → e ≡ a ++ all_receivable version (separator_in s other path)
unfolding detour
detour_added s version other path n m k a b c d e np mp kp is bp cp dp ep =
    let f : List ℕ = free_name s in
    let r1 : List ℕ = receivable version (Link f path) in
    let r2 : List ℕ = receivable version (touch f) in
    let r3 : List ℕ = receivable version (Unlink f) in
    let r4 : List ℕ = receivable version (Utimes (mtime_of_root s) (atime_of_root s) []) in
    let b1 : b ≡ a ++ r1 = bp ∙ ap (λ (x : List ℕ). a ++ receivable version (Link x path)) np in
    let c1 : c ≡ (a ++ r1) ++ r2 = cp ∙ ap₂ (λ (x y : List ℕ). x ++ receivable version (touch y)) b1 mp in
    let d1 : d ≡ ((a ++ r1) ++ r2) ++ r3 = dp ∙ ap₂ (λ (x y : List ℕ). x ++ receivable version (Unlink y)) c1 kp in
    let e1 : e ≡ (((a ++ r1) ++ r2) ++ r3) ++ r4 = ep ∙ ap (λ (x : List ℕ). x ++ r4) d1 in
    let nil : r4 ≡ r4 ++ [] = sym (append-nil r4) in
    e1 ∙ ap (λ (x : List ℕ). (((a ++ r1) ++ r2) ++ r3) ++ x) nil
    ∙ append_assoc ((a ++ r1) ++ r2) r3 (r4 ++ []) ∙ append_assoc (a ++ r1) r2 (r3 ++ (r4 ++ [])) ∙ append_assoc a r1 (r2 ++ (r3 ++ (r4 ++ [])))
    ∙ sym (ap (λ (cs : List Command). a ++ all_receivable version cs) is)

-- ---- the file that is open

-- What is known of a value whose fields are open, where another inode comes to be open by the same
-- path.
pub opened_again : (state : State Blank) (p other path : List ℕ) (i : Option ℕ) (ino now : ℕ) (self : Exporting Blank) → record { state = state; opened = option_map (λ k. opened_by p k) i; other = other } ≡ self
    → kept_at self.opened (Some path) ≡ Some ino
    → ◌≡◌ {A = Exporting Blank} (record { state = state; opened = Some (opened_by p now); other = other }) (record { state = self.state; opened = Some (opened_by path now); other = self.other })
opened_again state p other path i ino now self view kept =
    let at : List ℕ → Exporting Blank = λ q. record { state = state; opened = Some (opened_by q now); other = other } in
    let after : Exporting Blank → Exporting Blank = λ e. record { state = e.state; opened = Some (opened_by path now); other = e.other } in
    ap at (same_path i (subst (λ (e : Exporting Blank). kept_at e.opened (Some path) ≡ Some ino) (sym view) kept)) ∙ ap after view
  where
    same_path : (k : Option ℕ) → kept_at (option_map (λ j. opened_by p j) k) (Some path) ≡ Some ino → p ≡ path
    same_path None e = cc
    same_path (Some k) e = one (bytes_eq p path) refl e
      where
        one : (b : Bool) → bytes_eq p path ≡ b → ◌≡◌ {A = Option ℕ} (if b then Some k else None) (Some ino) → p ≡ path
        one true same q = bytes_eq_true p path same
        one false same q = cc

-- ---- a command that opens a file, once it is taken

-- It writes to the path that it opens, and this path was not open.
opening_is : (opened : Option Opened) (written : Option (List ℕ)) (path : List ℕ) → Some path ≡ opening opened written → (written ≡ Some path) × (kept_at opened (Some path) ≡ None)
opening_is opened None path e = cc
opening_is opened (Some p) path e = one (kept_at opened (Some p)) refl e
  where
    one : (k : Option ℕ) → kept_at opened (Some p) ≡ k → Some path ≡ (elim k as (λ x. Option (List ℕ)) [ None ↦ Some p | Some ino ↦ None ]) → (Some p ≡ Some path) × (kept_at opened (Some path) ≡ None)
    one None kept is = (sym is, ap (kept_at opened) is ∙ kept)
    one (Some ino) kept is = cc

ready_is : (now : Exporting Blank) (c : Command) (path : List ℕ) → Some path ≡ opening now.opened (written_path c) → ready_for now c ≡ now
ready_is now c path e = ap (λ (o : Option (List ℕ)). elim o as (λ x. Exporting Blank) [ None ↦ opened_for now c | Some p ↦ now ]) (sym e)

-- The path leads after it where it led before it.
pub taken_opening : (old now next : Exporting Blank) (before after : State Blank) (opened : Option Opened) (other : List ℕ) (c : Command) (path : List ℕ) (ino : Option ℕ)
    → Some path ≡ opening old.opened (written_path c) → record { state = before; opened = opened; other = other } ≡ now → now ≡ ready_for old c
    → blank_step before c ≡ record { state = after; refusal = None } → option_map (λ i. opened_by path i) ino ≡ opened_at after.part path
    → next ≡ opened_anew (record { state = after; opened = opened; other = other }) path ino
    → (blank_step old.state c ≡ record { state = next.state; refusal = None }) × (next ≡ exporting_after old c next.state)
taken_opening old now next before after opened other c path ino opens view ready stepped found is =
    let (written, kept) = opening_is old.opened (written_path c) path opens in
    let same : record { state = before; opened = opened; other = other } ≡ old = view ∙ ready ∙ ready_is old c path opens in
    let with : Exporting Blank → Exporting Blank = λ e. record { state = after; opened = e.opened; other = e.other } in
    let step_old : blank_step old.state c ≡ record { state = after; refusal = None } = ap (λ (e : Exporting Blank). blank_step e.state c) (sym same) ∙ stepped in
    let leads : option_map (λ i. opened_by path i) ino ≡ opened_at old.state.part path = found ∙ opened_still tt _ old.state after c path written step_old in
    let anew : opened_anew old path ino ≡ opened_for old c = anew_is old path ino kept leads ∙ (by_path old c path (sym written)).1 in
    let next_is : next ≡ with (opened_for old c) = is ∙ ap (λ (e : Exporting Blank). opened_anew (with e) path ino) same ∙ ap with anew in
    let state_is : after ≡ next.state = sym (ap (λ (e : Exporting Blank). e.state) next_is) in
    (step_old ∙ ap (λ (s : State Blank). record { state = s; refusal = None }) state_is, next_is ∙ ap (λ (s : State Blank). exporting_after old c s) state_is)
