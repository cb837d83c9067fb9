-- Separated commands, in a plain run and in the real receiver.
use Rattle.std.specs.Prelude.{◌≡◌, ℕ, Bool, true, false, not, ◌&&◌, List, [], ◌∷◌, ◌++◌, Option, None, Some, Result, Ok, Err, if◌then◌else◌}
use Rattle.std.specs.Str.{bytes_eq}
use Rattle.std.proofs.Common.{refl, sym, ap, subst, ◌∙◌}
use Rattle.send_model.specs.Refusal.{Refusal, NoSubvolume, NoEntry}
use Rattle.send_model.specs.Command.{Command, Write, Clone, Fallocate, Unlink, Utimes}
use Rattle.send_model.specs.Path.{path_names}
use Rattle.send_model.specs.Subvolume.{Subvolume, IsSound, root, named, is_directory, walk, walk_names}
use Rattle.send_model.specs.Edit.{edit, add_name}
use Rattle.send_model.specs.Store.{Key, Store, Part, State, After, Stepped, step, step_edit, edit_part, edited}
use Rattle.send_model.specs.Receive.{bytes_of}
use Rattle.send_model.specs.Opened.{Opened, Receiver, written_path, kept_at, kept_for, opened_at, open_after, opened_after, stepped_by, receiver_step, leads_elsewhere, is_astray_at, is_astray}
use Rattle.send_model.specs.Separated.{LeadTo, ReceiverTakes, with_all, led_from, separated, separator, separator_for, separator_in, open_anew, other_path, touch, detour, free_name, names_file, mtime_of_root, atime_of_root, CanSeparate, IsFit, AreFit, SeparatedIsReceived}
use Rattle.send_model.proofs.Sorts.{is_plain}
use Rattle.send_model.proofs.Stores.{bytes_eq_true}
use Rattle.send_model.proofs.Merging.{edited_taken}
use Rattle.send_model.proofs.MergingClones.{turned_false}
use Rattle.send_model.proofs.Separators.{here, state_here, plain_taken, lead-append, NamesFile, names_some, touch_edit, place, linked, linked_walk, linked_file, unlinked, timed}
use Rattle.send_model.proofs.OpenFiles.{edit_walks, written_step, steady_step}

-- ---- runs of the receiver

abbrev pub ReceiverLeads : Receiver ℕ → List Command → Receiver ℕ → Type 0
ReceiverLeads r [] q = r ≡ q
ReceiverLeads r (c ∷ cs) q = ((receiver_step 0 (bytes_of c) r c).refusal ≡ None) × ReceiverLeads (receiver_step 0 (bytes_of c) r c).state cs q

pub leads_then : (cs ds : List Command) (r q : Receiver ℕ) (end : State ℕ) → ReceiverLeads r cs q → ReceiverTakes q ds end → ReceiverTakes r (cs ++ ds) end
leads_then [] ds r q end e t = let P : Receiver ℕ → Type 0 = λ x. ReceiverTakes x ds end in subst P (sym e) t
leads_then (c ∷ cs) ds r q end (h, e) t = (h, leads_then cs ds _ q end e t)

pub none_kept : (o : Option Opened) → kept_at o None ≡ None
none_kept None = refl
none_kept (Some x) = refl

module _ (store : Store ℕ) (key : Key) where
  part_of : Subvolume ℕ → Option (Part ℕ)
  part_of s = Some (record { key = key; subvolume = s })

  at : Subvolume ℕ → Option Opened → Receiver ℕ
  at s o = record { state = here store key s; opened = o }

  -- Plain edits that none goes to the file that is open, and what is open then.
  abbrev pub Through : Option Opened → Subvolume ℕ → List Command → Option Opened → Subvolume ℕ → Type 0
  Through o s [] q t = (o ≡ q) × (s ≡ t)
  Through o s (c ∷ cs) q t = (is_plain c ≡ true) × ((kept_for o c ≡ None) × ((next : Subvolume ℕ) × (edit 0 (bytes_of c) c s ≡ Ok next) × Through (opened_after o (Some (record { key = key; subvolume = s })) c) next cs q t))

  pub through_step : (o : Option Opened) (s next : Subvolume ℕ) (c : Command) → is_plain c ≡ true → kept_for o c ≡ None → edit 0 (bytes_of c) c s ≡ Ok next
      → receiver_step 0 (bytes_of c) (record { state = here store key s; opened = o }) c ≡ record { state = record { state = here store key next; opened = opened_after o (Some (record { key = key; subvolume = s })) c }; refusal = None }
  unfolding receiver_step
  through_step o s next c p k e =
      let r : Receiver ℕ = record { state = here store key s; opened = o } in
      let q : Option Opened = opened_after o (Some (record { key = key; subvolume = s })) c in
      ap (λ (x : Option ℕ). record { state = record { state = (stepped_by 0 (bytes_of c) r c x).state; opened = q }; refusal = (stepped_by 0 (bytes_of c) r c x).refusal }) k
      ∙ ap (λ (x : Stepped ℕ). record { state = record { state = x.state; opened = q }; refusal = x.refusal }) (plain_taken store key s next c p e)

  pub through_leads : (cs : List Command) (o q : Option Opened) (s t : Subvolume ℕ) → Through o s cs q t → ReceiverLeads (record { state = here store key s; opened = o }) cs (record { state = here store key t; opened = q })
  through_leads [] o q s t (a, b) = λ i. record { state = here store key (b i); opened = a i }
  through_leads (c ∷ cs) o q s t (p, (k, (next, e, rest))) =
      let is = through_step o s next c p k e in
      let P : Receiver ℕ → Type 0 = λ r. ReceiverLeads r cs (record { state = here store key t; opened = q }) in
      (ap (λ (x : After (Receiver ℕ)). x.refusal) is, subst P (sym (ap (λ (x : After (Receiver ℕ)). x.state) is)) (through_leads cs (opened_after o (Some (record { key = key; subvolume = s })) c) q next t rest))

  pub through_plain : (cs : List Command) (o q : Option Opened) (s t : Subvolume ℕ) → Through o s cs q t → LeadTo (here store key s) cs (here store key t)
  through_plain [] o q s t (a, b) = ap (here store key) b
  through_plain (c ∷ cs) o q s t (p, (k, (next, e, rest))) =
      let is = plain_taken store key s next c p e in
      let P : State ℕ → Type 0 = λ x. LeadTo x cs (here store key t) in
      (ap (λ (x : Stepped ℕ). x.refusal) is, subst P (sym (ap (λ (x : Stepped ℕ). x.state) is)) (through_plain cs (opened_after o (Some (record { key = key; subvolume = s })) c) q next t rest))

  -- ---- a separator where a file is open under the path

  -- What a separator does: nothing to the subvolume, and no file is open under the path then.
  pub record Separates (o : Opened) (s : Subvolume ℕ) (path : List ℕ) (cs : List Command) : Type 0 where
    pub opened : Option Opened
    pub through : Through (Some o) s cs opened s
    pub apart : kept_at opened (Some path) ≡ None

  kept_apart : (o : Opened) (path : List ℕ) → bytes_eq o.path path ≡ false → kept_at (Some o) (Some path) ≡ None
  kept_apart o path h = rw h refl

  after_touch : (o : Opened) (s : Subvolume ℕ) (other : List ℕ) (n : NamesFile s other) → bytes_eq o.path other ≡ false → opened_after (Some o) (Some (record { key = key; subvolume = s })) (touch other) ≡ Some (record { path = other; ino = n.ino })
  after_touch o s other n h =
      ap (λ (k : Option ℕ). elim k as (λ x. Option Opened) [ Some ino ↦ Some o | None ↦ opened_at (Some (record { key = key; subvolume = s })) other ]) (kept_apart o other h)
      ∙ ap (λ (r : Result ℕ Refusal). elim r as (λ x. Option Opened) [ Err refusal ↦ None | Ok ino ↦ Some (record { path = other; ino = ino }) ]) n.walked

  pub touch_separates : (o : Opened) (s : Subvolume ℕ) (path other : List ℕ) → IsSound s → NamesFile s other → bytes_eq o.path other ≡ false → bytes_eq other path ≡ false → Separates o s path (touch other ∷ [])
  touch_separates o s path other sound n h k = record {
    opened = opened_after (Some o) (Some (record { key = key; subvolume = s })) (touch other);
    through = (refl, (kept_apart o other h, (s, touch_edit s other sound.inodes_in_order n, (refl, refl))));
    apart = ap (λ (q : Option Opened). kept_at q (Some path)) (after_touch o s other n h) ∙ kept_apart (record { path = other; ino = n.ino }) path k;
  }

  tail : (name : List ℕ) (s t : Subvolume ℕ) (q : Option Opened) → edit 0 [] (Unlink name) t ≡ Ok s → edit 0 [] (Utimes (mtime_of_root s) (atime_of_root s) []) s ≡ Ok s → Through q t (Unlink name ∷ Utimes (mtime_of_root s) (atime_of_root s) [] ∷ []) q s
  tail name s t q u m = (refl, (none_kept q, (s, u, (refl, (none_kept q, (s, m, (refl, refl)))))))

  pub detour_separates : (o : Opened) (s : Subvolume ℕ) (path name : List ℕ) → IsSound s → NamesFile s path → path_names name ≡ Some (name ∷ []) → named s root name ≡ None → bytes_eq o.path name ≡ false → bytes_eq name path ≡ false → Separates o s path (detour s name path)
  unfolding detour
  detour_separates o s path name sound n split free h k =
      let t : Subvolume ℕ = add_name (place s name sound split) n.ino s in
      let m : NamesFile t name = record { ino = n.ino; walked = linked_walk s name sound split n.ino; file = linked_file s name sound split n.ino n.file } in
      let q : Option Opened = opened_after (Some o) (Some (record { key = key; subvolume = t })) (touch name) in
      record {
        opened = q;
        through = (
          refl,
          (
            refl,
            (
              t,
              linked s name sound split path n free,
              (
                refl,
                (
                  kept_apart o name h,
                  (
                    t,
                    touch_edit t name sound.inodes_in_order m,
                    tail name s t q (unlinked s name sound split n.ino n.file free) (timed s name sound split),
                  ),
                ),
              ),
            ),
          ),
        );
        apart = ap (λ (x : Option Opened). kept_at x (Some path)) (after_touch o t name m h) ∙ kept_apart (record { path = name; ino = n.ino }) path k;
      }

  -- A name that is not there is no path of a file.
  name_apart : (s : Subvolume ℕ) (name path : List ℕ) → NamesFile s path → path_names name ≡ Some (name ∷ []) → named s root name ≡ None → is_directory s root ≡ true → bytes_eq name path ≡ false
  unfolding walk walk_names
  name_apart s name path n split free d = one (bytes_eq name path) refl
    where
      gone : walk s name ≡ Err NoEntry
      gone = rw split (rw d (rw free refl))

      one : (b : Bool) → bytes_eq name path ≡ b → b ≡ false
      one false e = refl
      one true e = let w : walk s name ≡ Ok n.ino = ap (walk s) (bytes_eq_true name path e) ∙ n.walked in let x : ◌≡◌ {A = Result ℕ Refusal} (Err NoEntry) (Ok n.ino) = sym gone ∙ w in cc

  pub separator_separates : (o : Opened) (s : Subvolume ℕ) (path other : List ℕ) → CanSeparate s → NamesFile s path → bytes_eq o.path path ≡ true → Separates o s path (separator_in s other path)
  unfolding separator_in
  separator_separates o s path other can n same = one (names_file s other) (bytes_eq other path) refl refl
    where
      on_path : (p : List ℕ) → bytes_eq p path ≡ false → bytes_eq o.path p ≡ false
      on_path p h = ap (λ (x : List ℕ). bytes_eq x p) (bytes_eq_true o.path path same) ∙ turned_false p path h

      round : Separates o s path (detour s (free_name s) path)
      round = let k = name_apart s (free_name s) path n can.split can.free can.sound.root_there in
          detour_separates o s path (free_name s) can.sound n can.split can.free (on_path (free_name s) k) k

      one : (a b : Bool) → names_file s other ≡ a → bytes_eq other path ≡ b → Separates o s path (if a && not b then touch other ∷ [] else detour s (free_name s) path)
      one true false f k = touch_separates o s path other can.sound (names_some s other f) (on_path other k) k
      one true true f k = round
      one false b f k = round

-- ---- what goes before one command

pub record Parted (opened : Option Opened) (state : State ℕ) (c : Command) (cs : List Command) : Type 0 where
  pub now : Option Opened
  pub plain : LeadTo state cs state
  pub received : ReceiverLeads (record { state = state; opened = opened }) cs (record { state = state; opened = now })
  pub steady : is_astray now state c ≡ false
  pub after : opened_after now state.part c ≡ open_anew opened state c

written_opens : (c : Command) (path : List ℕ) → written_path c ≡ Some path → (q : Option Opened) (part : Option (Part ℕ)) → opened_after q part c ≡ open_after q part (written_path c)
written_opens (Write path offset bytes) p h q part = refl
written_opens (Fallocate size path offset mode) p h q part = refl
written_opens (Clone path offset clone_uuid clone_ctransid clone_path from len) p h q part = refl
written_opens c p h q part = cc

written_after : (c : Command) (path : List ℕ) → written_path c ≡ Some path → (q : Option Opened) (part : Option (Part ℕ)) → kept_at q (Some path) ≡ None → opened_after q part c ≡ opened_at part path
written_after c path h q part k =
    written_opens c path h q part ∙ ap (open_after q part) h
    ∙ ap (λ (x : Option ℕ). elim x as (λ y. Option Opened) [ Some ino ↦ q | None ↦ opened_at part path ]) k

astray_same : (o : Opened) (part : Option (Part ℕ)) (path : List ℕ) → is_astray_at (Some o) part (Some path) ≡ true → bytes_eq o.path path ≡ true
astray_same o part path a = one (bytes_eq o.path path) refl a
  where
    one : (b : Bool) → bytes_eq o.path path ≡ b → elim (if b then Some o.ino else None) as (λ y. Bool) [ None ↦ false | Some ino ↦ leads_elsewhere part ino path ] ≡ true → bytes_eq o.path path ≡ true
    one true e h = e
    one false e h = cc

no_part : (o : Opened) (path : List ℕ) → is_astray_at {C = ℕ} (Some o) None (Some path) ≡ true → ⊥
no_part o path a = one (bytes_eq o.path path) a
  where
    one : (b : Bool) → elim (if b then Some o.ino else None) as (λ y. Bool) [ None ↦ false | Some ino ↦ false ] ≡ true → ⊥
    one true h = cc
    one false h = cc

writes_file : (state : State ℕ) (part : Part ℕ) (c : Command) (path : List ℕ) → state.part ≡ Some part → written_path c ≡ Some path → (step 0 (bytes_of c) state c).refusal ≡ None → NamesFile part.subvolume path
unfolding step_edit
writes_file state part c path e h t =
    let t1 : (step_edit 0 (bytes_of c) state c).refusal ≡ None = subst (λ (x : Stepped ℕ). x.refusal ≡ None) (written_step c path h (bytes_of c) state) t in
    let P : Option (Part ℕ) → Type 0 = λ o. (elim o as (λ x. Stepped ℕ) [ None ↦ record { state = state; refusal = Some NoSubvolume } | Some p ↦ edited state.store p (edit_part 0 (bytes_of c) state.store p c) ]).refusal ≡ None in
    let t2 : (edited state.store part (edit_part 0 (bytes_of c) state.store part c)).refusal ≡ None = subst P e t1 in
    let ok = edited_taken state.store part (edit_part 0 (bytes_of c) state.store part c) t2 in
    let w = edit_walks (bytes_of c) state.store part 0 c path ok.0 h ok.1 in
    record { ino = w.0; walked = w.1; file = w.2 }

parted_here : (store : Store ℕ) (part : Part ℕ) (o : Opened) (other path : List ℕ) (c : Command) → written_path c ≡ Some path → CanSeparate part.subvolume → NamesFile part.subvolume path
    → is_astray_at (Some o) (Some part) (Some path) ≡ true → Parted (Some o) (here store part.key part.subvolume) c (separator_in part.subvolume other path)
unfolding is_astray
parted_here store part o other path c h can n a =
    let s : Subvolume ℕ = part.subvolume in
    let sep = separator_separates store part.key o s path other can n (astray_same o (Some part) path a) in
    let cs : List Command = separator_in s other path in
    let q : Option Opened = sep.opened in
    record {
      now = q;
      plain = through_plain store part.key cs (Some o) q s s sep.through;
      received = through_leads store part.key cs (Some o) q s s sep.through;
      steady = ap (is_astray_at q (Some part)) h ∙ ap (λ (x : Option ℕ). elim x as (λ y. Bool) [ None ↦ false | Some ino ↦ leads_elsewhere (Some part) ino path ]) sep.apart;
      after = written_after c path h q (Some part) sep.apart
          ∙ sym (ap (λ (b : Bool). opened_after (if b then None else Some o) (Some part) c) (ap (is_astray_at (Some o) (Some part)) h ∙ a) ∙ written_after c path h None (Some part) refl);
    }

pub parted : (opened : Option Opened) (other : List ℕ) (state : State ℕ) (c : Command) → IsFit state.part → (step 0 (bytes_of c) state c).refusal ≡ None → Parted opened state c (separator opened other state c)
unfolding separator is_astray
parted opened other state c fit t = one (is_astray opened state c) refl
  where
    two : (po : Option (Part ℕ)) (wp : Option (List ℕ)) (op : Option Opened) → state.part ≡ po → written_path c ≡ wp → opened ≡ op → IsFit po → is_astray_at op po wp ≡ true → Parted opened state c (separator_for other po wp)
    two po None op e h g f a = cc
    two po (Some path) None e h g f a = cc
    two None (Some path) (Some o) e h g f a = absurd (no_part o path a)
    two (Some part) (Some path) (Some o) e h g f a =
        let cs : List Command = separator_in part.subvolume other path in
        let direct = parted_here state.store part o other path c h f (writes_file state part c path e h t) a in
        let at_state : Parted (Some o) state c cs = subst (λ (st : State ℕ). Parted (Some o) st c cs) (sym (state_here state part e)) direct in
        subst (λ (x : Option Opened). Parted x state c cs) (sym g) at_state

    one : (b : Bool) → is_astray opened state c ≡ b → Parted opened state c (if b then separator_for other state.part (written_path c) else [])
    one false a = record { now = opened; plain = refl; received = refl; steady = a; after = ap (λ (b : Bool). opened_after (if b then None else opened) state.part c) (sym a) }
    one true a = two state.part (written_path c) opened refl refl refl fit a

-- ---- all commands

pub separated_takes : (cs : List Command) (opened : Option Opened) (other : List ℕ) (state end : State ℕ) → AreFit state cs → LeadTo state cs end
    → ReceiverTakes (record { state = state; opened = opened }) (with_all (led_from opened other state cs)) end × LeadTo state (with_all (led_from opened other state cs)) end
unfolding AreFit led_from
separated_takes [] opened other state end f t = (t, t)
separated_takes (c ∷ cs) opened other state end (f, fs) (h, t) =
    let p = parted opened other state c f h in
    let next : State ℕ = (step 0 (bytes_of c) state c).state in
    let sep : List Command = separator opened other state c in
    let rest : List Command = with_all (led_from (open_anew opened state c) (other_path other opened (written_path c)) next cs) in
    let both = separated_takes cs (open_anew opened state c) (other_path other opened (written_path c)) next end fs t in
    let is = steady_step p.now state c p.steady h in
    let r : ReceiverTakes (record { state = next; opened = opened_after p.now state.part c }) rest end = subst (λ (q : Option Opened). ReceiverTakes (record { state = next; opened = q }) rest end) (sym p.after) both.0 in
    let P : Receiver ℕ → Type 0 = λ x. ReceiverTakes x rest end in
    let on : ReceiverTakes (record { state = state; opened = p.now }) (c ∷ rest) end = (ap (λ (x : After (Receiver ℕ)). x.refusal) is, subst P (sym (ap (λ (x : After (Receiver ℕ)). x.state) is)) r) in (
      leads_then sep (c ∷ rest) (record { state = state; opened = opened }) (record { state = state; opened = p.now }) end p.received on,
      lead-append sep (c ∷ rest) state state end p.plain (h, both.1),
    )

pub separated_is_received : SeparatedIsReceived
unfolding separated
separated_is_received state end cs f t = let both = separated_takes cs None [] state end f t in record { plain = both.1; received = both.0 }
