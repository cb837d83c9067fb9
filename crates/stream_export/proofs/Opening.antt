-- The file that is open after a command, and what goes before it, as the code finds them.
use Rattle.std.specs.Prelude.{◌≡◌, ℕ, ◌≤◌, ◌==◌, Bool, true, false, not, ◌&&◌, List, [], ◌∷◌, length, Option, None, Some, Result, Ok, Err, if◌then◌else◌, nat_le}
use Rattle.std.specs.Option.{option_map}
use Rattle.std.specs.List.{list_all}
use Rattle.std.specs.Str.{bytes_eq}
use Rattle.std.proofs.Common.{refl, sym, ap, ap₂, ◌∙◌, zero-le, eq-eqb, eqb-true}
use Rattle.std.proofs.lemmas.Bool.{leb-true}
use Rattle.send_model.specs.Refusal.{Refusal, BadPath}
use Rattle.send_model.specs.Path.{path_names, is_name, between_slashes, longest_path}
use Rattle.send_model.specs.Chain.{found, ◌>>=◌}
use Rattle.send_model.specs.Subvolume.{Subvolume, walk, walk_names, root}
use Rattle.send_model.specs.Command.{Command}
use Rattle.send_model.specs.Store.{Key, Part, State}
use Rattle.send_model.specs.Cells.{recelled}
use Rattle.send_model.specs.Opened.{Opened, kept_at, opened_at, open_after, is_astray, is_astray_at, leads_elsewhere}
use Rattle.send_model.specs.Separated.{touch, separator, separator_for, separator_in, open_anew, other_path}
use Rattle.send_model.specs.Exported.{Exporting}
use Rattle.send_model.proofs.Stores.{bytes_eq_true}
use Rattle.send_model.proofs.CellMaps.{walk-cells}
use Rattle.send_model.proofs.SeparatedCells.{separator-cells}
use Rattle.stream_export.specs.Exporting.{Blank, before, opened_by, opened_for, opened_anew}

-- ---- a path that is not open

module _ (now : Exporting Blank) (path : List ℕ) where
  -- It does not lead astray.
  not_astray : kept_at now.opened (Some path) ≡ None → is_astray now.opened now.state (touch path) ≡ false
  unfolding is_astray
  not_astray e = ap (λ (o : Option ℕ). elim o as (λ x. Bool) [ None ↦ false | Some ino ↦ leads_elsewhere now.state.part ino path ]) e

  nothing_before : is_astray now.opened now.state (touch path) ≡ false → before now (touch path) ≡ []
  unfolding separator
  nothing_before e = ap (λ (b : Bool). if b then separator_for now.other now.state.part (Some path) else []) e

  past : (opened : Option Opened) → kept_at opened (Some path) ≡ None → other_path now.other opened (Some path) ≡ (elim opened as (λ x. List ℕ) [ None ↦ now.other | Some o ↦ o.path ])
  past None e = refl
  past (Some o) e = one (bytes_eq o.path path) e
    where
      one : (b : Bool) → ◌≡◌ {A = Option ℕ} (if b then Some o.ino else None) None → (if b then now.other else o.path) ≡ o.path
      one true p = cc
      one false p = refl

  anew_after : kept_at now.opened (Some path) ≡ None → open_anew now.opened now.state (touch path) ≡ opened_at now.state.part path
  anew_after e =
      ap (λ (b : Bool). open_after (if b then None else now.opened) now.state.part (Some path)) (not_astray e)
      ∙ ap (λ (o : Option ℕ). elim o as (λ x. Option Opened) [ Some ino ↦ now.opened | None ↦ opened_at now.state.part path ]) e

  pub anew_before : kept_at now.opened (Some path) ≡ None → before now (touch path) ≡ []
  anew_before e = nothing_before (not_astray e)

  pub anew_is : (ino : Option ℕ) → kept_at now.opened (Some path) ≡ None → option_map (λ i. opened_by path i) ino ≡ opened_at now.state.part path → opened_anew now path ino ≡ opened_for now (touch path)
  anew_is ino e found =
      let at : Option Opened → List ℕ → Exporting Blank = λ opened other. record { state = now.state; opened = opened; other = other } in
      ap₂ at (found ∙ sym (anew_after e)) (sym (past now.opened e))

  -- ---- the path that is open

  same_other : (opened : Option Opened) (ino : ℕ) → kept_at opened (Some path) ≡ Some ino → (opened ≡ Some (opened_by path ino)) × (other_path now.other opened (Some path) ≡ now.other)
  same_other None ino e = cc
  same_other (Some o) ino e = one (bytes_eq o.path path) refl e
    where
      one : (b : Bool) → bytes_eq o.path path ≡ b → ◌≡◌ {A = Option ℕ} (if b then Some o.ino else None) (Some ino)
          → (Some o ≡ Some (opened_by path ino)) × ((if b then now.other else o.path) ≡ now.other)
      one true same p = (ap₂ (λ (t : List ℕ) (i : ℕ). Some (opened_by t i)) (bytes_eq_true o.path path same) (inside p), refl)
        where
          inside : {a b : ℕ} → Some a ≡ Some b → a ≡ b
          inside q = cc
      one false same p = cc

  kept_on : (ino : ℕ) → kept_at now.opened (Some path) ≡ Some ino → leads_elsewhere now.state.part ino path ≡ false → is_astray now.opened now.state (touch path) ≡ false
  unfolding is_astray
  kept_on ino e f = ap (λ (o : Option ℕ). elim o as (λ x. Bool) [ None ↦ false | Some i ↦ leads_elsewhere now.state.part i path ]) e ∙ f

  -- It leads to the inode that is open, or to none.
  pub again_same : (ino : ℕ) → kept_at now.opened (Some path) ≡ Some ino → leads_elsewhere now.state.part ino path ≡ false → (before now (touch path) ≡ []) × (now ≡ opened_for now (touch path))
  again_same ino e f =
      let at : Option Opened → List ℕ → Exporting Blank = λ opened other. record { state = now.state; opened = opened; other = other } in
      let stays : open_anew now.opened now.state (touch path) ≡ now.opened =
      ap (λ (b : Bool). open_after (if b then None else now.opened) now.state.part (Some path)) (kept_on ino e f)
      ∙ ap (λ (o : Option ℕ). elim o as (λ x. Option Opened) [ Some i ↦ now.opened | None ↦ opened_at now.state.part path ]) e in
      (nothing_before (kept_on ino e f), ap₂ at (sym stays) (sym (same_other now.opened ino e).1))

  astray_on : (ino : ℕ) → kept_at now.opened (Some path) ≡ Some ino → leads_elsewhere now.state.part ino path ≡ true → is_astray now.opened now.state (touch path) ≡ true
  unfolding is_astray
  astray_on ino e f = ap (λ (o : Option ℕ). elim o as (λ x. Bool) [ None ↦ false | Some i ↦ leads_elsewhere now.state.part i path ]) e ∙ f

  -- It leads to another one.
  pub again_astray : (ino other : ℕ) → kept_at now.opened (Some path) ≡ Some ino → leads_elsewhere now.state.part ino path ≡ true → opened_at now.state.part path ≡ Some (opened_by path other)
      → (before now (touch path) ≡ separator_for now.other now.state.part (Some path)) × (record { state = now.state; opened = Some (opened_by path other); other = now.other } ≡ opened_for now (touch path))
  unfolding separator
  again_astray ino other e f found =
      let at : Option Opened → List ℕ → Exporting Blank = λ opened other. record { state = now.state; opened = opened; other = other } in
      let opens : open_anew now.opened now.state (touch path) ≡ Some (opened_by path other) =
      ap (λ (b : Bool). open_after (if b then None else now.opened) now.state.part (Some path)) (astray_on ino e f) ∙ found in (
        ap (λ (b : Bool). if b then separator_for now.other now.state.part (Some path) else []) (astray_on ino e f),
        ap₂ at (sym opens) (sym (same_other now.opened ino e).1),
      )

-- ---- the part's inodes and names

module _ {C T : Type 0} (seen : T → Subvolume C) (tree : T) (o : Option T) (part : Option (Part Blank)) (same : option_map (λ t. recelled (λ _. tt) (seen t)) o ≡ option_map (λ p. p.subvolume) part) where
  abbrev blank_part : Key → Part Blank
  blank_part key = record { key = key; subvolume = recelled (λ _. tt) (seen tree) }

  abbrev full_part : Key → Part C
  full_part key = record { key = key; subvolume = seen tree }

  part_of : o ≡ Some tree → (key : Key) × (part ≡ Some (blank_part key))
  part_of is = one part (sym (ap (option_map (λ (t : T). recelled (λ _. tt) (seen t))) is) ∙ same)
    where
      inside : {a b : Subvolume Blank} → Some a ≡ Some b → a ≡ b
      inside e = cc

      one : (p : Option (Part Blank)) → Some (recelled (λ _. tt) (seen tree)) ≡ option_map (λ p. p.subvolume) p → (key : Key) × (p ≡ Some (blank_part key))
      one None e = cc
      one (Some p) e = (p.key, ap (λ (s : Subvolume Blank). Some (record { key = p.key; subvolume = s })) (sym (inside e)))

  no_part : o ≡ None → part ≡ None
  no_part is = one part (sym (ap (option_map (λ (t : T). recelled (λ _. tt) (seen t))) is) ∙ same)
    where
      one : (p : Option (Part Blank)) → None ≡ option_map (λ p. p.subvolume) p → p ≡ None
      one None e = refl
      one (Some p) e = cc

  module _ (path : List ℕ) where
    pub found_none : o ≡ None → None ≡ opened_at part path
    found_none is = ap (λ (p : Option (Part Blank)). opened_at p path) (sym (no_part is))

    pub none_elsewhere : (ino : ℕ) → o ≡ None → leads_elsewhere part ino path ≡ false
    none_elsewhere ino is = ap (λ (p : Option (Part Blank)). leads_elsewhere p ino path) (no_part is)

    found_by : (r : Result ℕ Refusal) → o ≡ Some tree → walk (seen tree) path ≡ r → opened_at part path ≡ (elim r as (λ x. Option Opened) [ Err refusal ↦ None | Ok ino ↦ Some (opened_by path ino) ])
    found_by r is walked =
        ap (λ (p : Option (Part Blank)). opened_at p path) (part_of is).1
        ∙ ap (λ (w : Result ℕ Refusal). elim w as (λ x. Option Opened) [ Err refusal ↦ None | Ok ino ↦ Some (opened_by path ino) ]) (walk-cells (λ _. tt) (seen tree) path ∙ walked)

    elsewhere_by : (r : Result ℕ Refusal) (ino : ℕ) → o ≡ Some tree → walk (seen tree) path ≡ r → leads_elsewhere part ino path ≡ (elim r as (λ x. Bool) [ Err refusal ↦ false | Ok now ↦ not (now == ino) ])
    elsewhere_by r ino is walked =
        ap (λ (p : Option (Part Blank)). leads_elsewhere p ino path) (part_of is).1
        ∙ ap (λ (w : Result ℕ Refusal). elim w as (λ x. Bool) [ Err refusal ↦ false | Ok now ↦ not (now == ino) ]) (walk-cells (λ _. tt) (seen tree) path ∙ walked)

    pub found_at : (ino : ℕ) → o ≡ Some tree → walk (seen tree) path ≡ Ok ino → Some (opened_by path ino) ≡ opened_at part path
    found_at ino is walked = sym (found_by (Ok ino) is walked)

    pub found_not : (refusal : Refusal) → o ≡ Some tree → walk (seen tree) path ≡ Err refusal → None ≡ opened_at part path
    found_not refusal is walked = sym (found_by (Err refusal) is walked)

    pub not_elsewhere : (refusal : Refusal) (ino : ℕ) → o ≡ Some tree → walk (seen tree) path ≡ Err refusal → leads_elsewhere part ino path ≡ false
    not_elsewhere refusal ino is walked = elsewhere_by (Err refusal) ino is walked

    pub here_still : (now ino : ℕ) → o ≡ Some tree → walk (seen tree) path ≡ Ok now → now ≡ ino → leads_elsewhere part ino path ≡ false
    here_still now ino is walked e = elsewhere_by (Ok now) ino is walked ∙ ap not (eq-eqb now ino e)

    differ : (b : Bool) → (b ≡ true → ⊥) → not b ≡ true
    differ true n = absurd (n refl)
    differ false n = refl

    pub elsewhere_now : (now ino : ℕ) → o ≡ Some tree → walk (seen tree) path ≡ Ok now → (now ≡ ino → ⊥) → leads_elsewhere part ino path ≡ true
    elsewhere_now now ino is walked n = elsewhere_by (Ok now) ino is walked ∙ differ (now == ino) (λ e. n (eqb-true now ino e))

  -- The separator of a part is that of its inodes and names.
  abbrev separator_of : {D : Type 0} → Option Opened → List ℕ → List ℕ → Option (Part D) → List Command
  separator_of opened other path p = if is_astray_at opened p (Some path) then separator_for other p (Some path) else []

  pub separator_tree : (now : Exporting Blank) (path : List ℕ) (ino : ℕ) → now.state.part ≡ part → o ≡ Some tree → kept_at now.opened (Some path) ≡ Some ino → leads_elsewhere part ino path ≡ true
      → before now (touch path) ≡ separator_in (seen tree) now.other path
  unfolding separator is_astray
  separator_tree now path ino here is kept elsewhere =
      let (key, at) = part_of is in
      let state : State C = record { store = []; part = Some (full_part key) } in
      let blank_at : before now (touch path) ≡ separator_of now.opened now.other path (Some (blank_part key)) = ap (separator_of now.opened now.other path) (here ∙ at) in
      let astray : is_astray_at now.opened (Some (full_part key)) (Some path) ≡ true =
      ap (λ (k : Option ℕ). elim k as (λ x. Bool) [ None ↦ false | Some i ↦ leads_elsewhere (Some (full_part key)) i path ]) kept
      ∙ ap (λ (w : Result ℕ Refusal). elim w as (λ x. Bool) [ Err refusal ↦ false | Ok now ↦ not (now == ino) ]) (sym (walk-cells (λ _. tt) (seen tree) path))
      ∙ sym (ap (λ (p : Option (Part Blank)). leads_elsewhere p ino path) at) ∙ elsewhere in
      blank_at ∙ separator-cells (λ _. tt) now.opened now.other state (touch path)
      ∙ ap (λ (b : Bool). if b then separator_in (seen tree) now.other path else []) astray

-- ---- short paths

-- A path that leads anywhere is short.
pub short_path : {C : Type 0} (s : Subvolume C) (path : List ℕ) (ino : ℕ) → walk s path ≡ Ok ino → length path ≤ 4095
unfolding walk path_names
short_path s [] ino walked = zero-le
short_path s (b ∷ bytes) ino walked = one (nat_le (length (b ∷ bytes)) longest_path) refl walked
  where
    one : (t : Bool) → nat_le (length (b ∷ bytes)) longest_path ≡ t
        → (found (if t && list_all is_name (between_slashes (b ∷ bytes)) then Some (between_slashes (b ∷ bytes)) else None) BadPath >>= λ names. walk_names s root names) ≡ Ok ino → length (b ∷ bytes) ≤ 4095
    one true e w = leb-true (length (b ∷ bytes)) longest_path e
    one false e w = cc
