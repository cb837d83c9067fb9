-- Edits whose frames stand one after the other, and bytes that are the frames of none.
use Rattle.std.specs.Prelude.{◌≡◌, ℕ, ◌+◌, ◌-◌, ◌<◌, ◌≤◌, Bool, true, false, List, [], ◌∷◌, ◌++◌, length, take, drop, Option, None, Some, Result, Ok, Err}
use Rattle.std.specs.List.{AllByRecursion}
use Rattle.std.specs.Int.{w16, w32, to_le_bytes}
use Rattle.std.proofs.Common.{inl, inr, ⊎_elim, refl, sym, ap, subst, ◌∙◌, arith, length-append, append_assoc, length-take, take-take}
use Rattle.std.proofs.lemmas.Bool.{cases_lt}
use Rattle.std.proofs.lemmas.List.{append-nil, take-append-drop, take-append-le, take_at}
use Rattle.std.proofs.Math.Seq.{take-add}
use Rattle.send_model.specs.Command.{Command, row, kind_of}
use Rattle.send_model.specs.Spelling.{canonical, canonical_all, attributes_of, body_of, frame_of, frame_checksum, IsSpellable}
use Rattle.send_model.specs.Reading.{data_place}
use Rattle.send_model.specs.Receive.{bytes_of}
use Rattle.send_model.specs.Refusal.{Refusal}
use Rattle.send_model.specs.Subvolume.{Subvolume}
use Rattle.send_model.specs.Store.{Store, Part, State, Stepped, edit_part, edited, step_edit}
use Rattle.send_model.proofs.Streams.{canonical_long}
use Rattle.store_model.proofs.OneSaying.{frame_one}
use Rattle.store_model.specs.Stored.{is_edit, IsEdit, taken, edits_made}
use Rattle.group_replay.specs.declared.place.Place.{Place}
use Rattle.group_replay.specs.Fronts.{IsInFront, FindsFront}
use Rattle.group_replay.specs.Taking.{as_runs, open_state}
use Rattle.group_replay.specs.Edits.{one_made, AreEdits, AreBadEdits, TookFront, IsRefusedFront, TakesFront}
use Rattle.group_replay.specs.Aheads.{greatest_frame}

all_join : {A : Type 0} (P : A → Type 0) (xs ys : List A) → AllByRecursion P xs → AllByRecursion P ys → AllByRecursion P (xs ++ ys)
all_join P [] ys a b = b
all_join P (x ∷ xs) ys a b = (a.0, all_join P xs ys a.1 b)

canonical_join : (version : ℕ) (cs ds : List Command) → canonical_all version (cs ++ ds) ≡ canonical_all version cs ++ canonical_all version ds
unfolding canonical_all
canonical_join version [] ds = refl
canonical_join version (c ∷ cs) ds = ap (λ (l : List ℕ). canonical version c ++ l) (canonical_join version cs ds) ∙ sym (append_assoc (canonical version c) (canonical_all version cs) (canonical_all version ds))

-- ---- one edit of an open part, taken or refused

one_step : {C : Type 0} (zero_cell : C) (put : List C) (store : Store C) (old new : Part C) (c : Command) → new.key ≡ old.key → edit_part zero_cell put store old c ≡ Ok new.subvolume
    → step_edit zero_cell put (record { store = store; part = Some old }) c ≡ record { state = record { store = store; part = Some new }; refusal = None }
unfolding step_edit
one_step zero_cell put store old new c same e =
    ap (edited store old) e ∙ (λ i. record { state = record { store = store; part = Some (record { key = sym same i; subvolume = new.subvolume }) }; refusal = None })

pub one_taken : (version at : ℕ) (store : Store (Option Place)) (old new : Part (Option Place)) (c : Command) → new.key ≡ old.key → edit_part None (as_runs (data_place version at (attributes_of c)) (bytes_of c)) store old c ≡ Ok new.subvolume
    → one_made version at c (open_state store old) ≡ Some (open_state store new)
one_taken version at store old new c same e = ap (λ (s : Stepped (Option Place)). taken s) (one_step None (as_runs (data_place version at (attributes_of c)) (bytes_of c)) store old new c same e)

pub one_refused : (version at : ℕ) (store : Store (Option Place)) (old : Part (Option Place)) (c : Command) (refusal : Refusal) → edit_part None (as_runs (data_place version at (attributes_of c)) (bytes_of c)) store old c ≡ Err refusal
    → one_made version at c (open_state store old) ≡ None
unfolding step_edit
one_refused version at store old c refusal e = ap (λ (r : Result (Subvolume (Option Place)) Refusal). taken (edited store old r)) e

-- ---- edits one after the other

module _ (version : ℕ) where
  abbrev S : Type 0
  S = State (Option Place)

  edits_then : (place : ℕ) (cs ds : List Command) (a b : S) (r : Option S) → edits_made None as_runs version place a cs ≡ Some b → edits_made None as_runs version (place + length (canonical_all version cs)) b ds ≡ r
      → edits_made None as_runs version place a (cs ++ ds) ≡ r
  unfolding edits_made canonical_all
  edits_then place [] ds a b r e f =
      let same : a ≡ b = cc in
      let at : place ≡ place + length (canonical_all version []) = omega arith in
      ap (λ (n : ℕ). edits_made None as_runs version n a ds) at ∙ ap (λ (s : S). edits_made None as_runs version (place + length (canonical_all version [])) s ds) same ∙ f
  edits_then place (c ∷ cs) ds a b r e f = by_first (λ s h. edits_then (place + length (canonical version c)) cs ds s b r h behind) (one_made version place c a) e
    where
      at : place + length (canonical version c ++ canonical_all version cs) ≡ (place + length (canonical version c)) + length (canonical_all version cs)
      at = omega (arith, length-append (canonical version c) (canonical_all version cs))

      behind : edits_made None as_runs version ((place + length (canonical version c)) + length (canonical_all version cs)) b ds ≡ r
      behind = ap (λ (n : ℕ). edits_made None as_runs version n b ds) (sym at) ∙ f

      by_first : ((s : S) → edits_made None as_runs version (place + length (canonical version c)) s cs ≡ Some b → edits_made None as_runs version (place + length (canonical version c)) s (cs ++ ds) ≡ r)
          → (o : Option S) → (elim o as (λ x. Option S) [ None ↦ None | Some s ↦ edits_made None as_runs version (place + length (canonical version c)) s cs ]) ≡ Some b
          → (elim o as (λ x. Option S) [ None ↦ None | Some s ↦ edits_made None as_runs version (place + length (canonical version c)) s (cs ++ ds) ]) ≡ r
      by_first ih None h = cc
      by_first ih (Some s) h = ih s h

  -- edits that are spelled in front of others
  pub record Splits (cs ds : List Command) (b : List ℕ) : Type 0 where
    pub rest : List Command
    pub all : ds ≡ cs ++ rest
    pub lawful : AllByRecursion (IsEdit version) rest
    pub spelled : b ≡ canonical_all version rest

  split : (cs ds : List Command) (b : List ℕ) → AllByRecursion (IsEdit version) cs → AllByRecursion (IsEdit version) ds → canonical_all version cs ++ b ≡ canonical_all version ds → Splits cs ds b
  unfolding canonical_all
  split [] ds b are all is = record { rest = ds; all = refl; lawful = all; spelled = is }
  split (c ∷ cs) [] b are all is = absurd (omega (arith, ap length is, length-append (canonical version c ++ canonical_all version cs) b, length-append (canonical version c) (canonical_all version cs), canonical_long version c))
  split (c ∷ cs) (d ∷ ds) b are all is =
      let first = frame_one version c d (canonical_all version cs ++ b) (canonical_all version ds) are.0.1 all.0.1 (sym (append_assoc (canonical version c) (canonical_all version cs) b) ∙ is) in
      let more = split cs ds b are.1 all.1 first.1 in
      record { rest = more.rest; all = (λ i. sym first.0 i ∷ more.all i); lawful = more.lawful; spelled = more.spelled }

  pub no_edits : (at : ℕ) (s : S) → AreEdits version at [] s s
  unfolding edits_made canonical_all
  no_edits at s = record { commands = []; lawful = tt; spelled = refl; makes = refl }

  pub edits_join : (at : ℕ) (a b : List ℕ) (s t u : S) → AreEdits version at a s t → AreEdits version (at + length a) b t u → AreEdits version at (a ++ b) s u
  edits_join at a b s t u e f = record {
    commands = e.commands ++ f.commands;
    lawful = all_join (IsEdit version) e.commands f.commands e.lawful f.lawful;
    spelled = ap (λ (l : List ℕ). l ++ b) e.spelled ∙ ap (λ (l : List ℕ). canonical_all version e.commands ++ l) f.spelled ∙ sym (canonical_join version e.commands f.commands);
    makes = edits_then at e.commands f.commands s t (Some u) e.makes (ap (λ (l : List ℕ). edits_made None as_runs version (at + length l) t f.commands) (sym e.spelled) ∙ f.makes);
  }

  pub bad_after : (at : ℕ) (a b : List ℕ) (s t : S) → AreEdits version at a s t → AreBadEdits version (at + length a) b t → AreBadEdits version at (a ++ b) s
  bad_after at a b s t e bad ds all is =
      let parts = split e.commands ds b e.lawful all (ap (λ (l : List ℕ). l ++ b) (sym e.spelled) ∙ is) in
      ap (edits_made None as_runs version at s) parts.all
      ∙ edits_then at e.commands parts.rest s t None e.makes (ap (λ (l : List ℕ). edits_made None as_runs version (at + length l) t parts.rest) (sym e.spelled) ∙ bad parts.rest parts.lawful parts.spelled)

  -- one edit
  pub one_edit : (at : ℕ) (c : Command) (s t : S) → IsEdit version c → one_made version at c s ≡ Some t → AreEdits version at (canonical version c) s t
  unfolding edits_made canonical_all
  one_edit at c s t is e = record {
    commands = c ∷ [];
    lawful = (is, tt);
    spelled = sym (append-nil (canonical version c));
    makes = ap (λ (o : Option S). elim o as (λ x. Option S) [ None ↦ None | Some next ↦ Some next ]) e;
  }

  -- a frame in front that is no edit, or is refused
  pub one_bad : (at : ℕ) (c : Command) (rest : List ℕ) (s : S) → IsSpellable version c → (is_edit c ≡ true → one_made version at c s ≡ None) → AreBadEdits version at (canonical version c ++ rest) s
  unfolding edits_made canonical_all
  one_bad at c rest s spells bad [] all is = absurd (omega (arith, ap length is, length-append (canonical version c) rest, canonical_long version c))
  one_bad at c rest s spells bad (d ∷ ds) all is =
      let first = frame_one version c d rest (canonical_all version ds) spells all.0.1 is in
      let none : one_made version at d s ≡ None = ap (λ (x : Command). one_made version at x s) (sym first.0) ∙ bad (ap is_edit first.0 ∙ all.0.0) in
      ap (λ (o : Option S). elim o as (λ x. Option S) [ None ↦ None | Some next ↦ edits_made None as_runs version (at + length (canonical version d)) next ds ]) none

  -- no frame is in front
  pub canonical_short : (c : Command) → IsSpellable version c → length (canonical version c) ≤ greatest_frame
  unfolding canonical frame_of
  canonical_short c s =
      let body : List ℕ = body_of version (attributes_of c) in
      let n : ℕ = (row (kind_of c)).number in
      let short = s.short in
      omega (arith, short, length-append (to_le_bytes w32 (length body)) (to_le_bytes w16 n ++ to_le_bytes w32 (frame_checksum (length body) n body) ++ body))

  front_alone : (window more rest : List ℕ) (c : Command) → IsSpellable version c → greatest_frame ≤ length window → window ++ more ≡ canonical version c ++ rest → window ≡ canonical version c ++ drop (length (canonical version c)) window
  front_alone window more rest c s long is =
      let n : ℕ = length (canonical version c) in
      let short = canonical_short c s in
      let front : take n window ≡ canonical version c = sym (take-append-le n window more (omega (arith, short, long))) ∙ ap (take n) is ∙ take_at (canonical version c) rest n refl in
      sym (take-append-drop n window) ∙ ap (λ (l : List ℕ). l ++ drop n window) front

  pub none_bad : (at : ℕ) (window more : List ℕ) (is_last : Bool) (s : S) → 0 < length window → (is_last ≡ false → greatest_frame ≤ length window) → (is_last ≡ true → more ≡ []) → FindsFront version window None
      → AreBadEdits version at (window ++ more) s
  unfolding edits_made canonical_all
  none_bad at window more is_last s some long ends none [] all is = absurd (omega (arith, ap length is, length-append window more, some))
  none_bad at window more true s some long ends none (d ∷ ds) all is =
      let whole : window ≡ canonical version d ++ canonical_all version ds = sym (append-nil window) ∙ ap (λ (l : List ℕ). window ++ l) (sym (ends refl)) ∙ is in
      absurd (none d (canonical_all version ds) all.0.1 whole)
  none_bad at window more false s some long ends none (d ∷ ds) all is =
      absurd (none d (drop (length (canonical version d)) window) all.0.1 (front_alone window more (canonical_all version ds) d all.0.1 (long refl) is))

  -- what stands in front is split off
  front_split : (bytes : List ℕ) (c : Command) (len : ℕ) → IsInFront version bytes c len → bytes ≡ canonical version c ++ drop len bytes
  front_split bytes c len f = sym (take-append-drop len bytes) ∙ ap (λ (l : List ℕ). l ++ drop len bytes) f.spelled

  pub front_len : (bytes : List ℕ) (c : Command) (len : ℕ) → IsInFront version bytes c len → (len ≡ length (canonical version c)) × (10 ≤ len)
  front_len bytes c len f =
      let size : len ≡ length (canonical version c) = sym (length-take len bytes ∙ let within = f.within in omega (arith, within)) ∙ ap length f.spelled in
      (size, omega (arith, size, canonical_long version c))

  -- ---- the frame in front of more bytes

  module _ (at count left : ℕ) (bytes : List ℕ) (s : S) (few : count ≤ left) where
    parts : take left bytes ≡ take count bytes ++ take (left - count) (drop count bytes)
    parts = ap (λ (n : ℕ). take n bytes) (let e : left ≡ count + (left - count) = omega (arith, few) in e) ∙ take-add count (left - count) bytes

    none_left : left ≤ count → take (left - count) (drop count bytes) ≡ []
    none_left all = ap (λ (n : ℕ). take n (drop count bytes)) (let z : left - count ≡ 0 = omega (arith, all) in z)

    -- where no frame is in front of those that are known
    none_in_front : 0 < length (take count bytes) → (count < left → greatest_frame ≤ length (take count bytes)) → FindsFront version (take count bytes) None → AreBadEdits version at (take left bytes) s
    none_in_front some long none =
        subst (λ (l : List ℕ). AreBadEdits version at l s) (sym parts)
        (elim (cases_lt count left) [
          | inl less ↦ none_bad at (take count bytes) (take (left - count) (drop count bytes)) false s some (λ e. long less) (λ e. cc) none
          | inr all ↦ none_bad at (take count bytes) (take (left - count) (drop count bytes)) true s some (λ e. cc) (λ e. none_left all) none
        ])

    -- where the frame in front is at fault
    refused_in_front : IsRefusedFront version at (take count bytes) s → AreBadEdits version at (take left bytes) s
    refused_in_front bad =
        let front_is : take left bytes ≡ canonical version bad.command ++ (drop bad.len (take count bytes) ++ take (left - count) (drop count bytes)) =
        parts ∙ ap (λ (l : List ℕ). l ++ take (left - count) (drop count bytes)) (front_split (take count bytes) bad.command bad.len bad.front)
        ∙ append_assoc (canonical version bad.command) (drop bad.len (take count bytes)) (take (left - count) (drop count bytes)) in
        subst (λ (l : List ℕ). AreBadEdits version at l s) (sym front_is)
        (one_bad at bad.command (drop bad.len (take count bytes) ++ take (left - count) (drop count bytes)) s bad.front.spellable bad.refused)

    pub front_bad : (u : S) → 0 < length (take count bytes) → (count < left → greatest_frame ≤ length (take count bytes)) → TakesFront version at (take count bytes) s u None → AreBadEdits version at (take left bytes) s
    front_bad u some long bad = ⊎_elim (none_in_front some long) refused_in_front bad

  -- where it is taken
  pub front_taken : (at count len : ℕ) (bytes : List ℕ) (s u : S) → len ≤ count → TookFront version at (take count bytes) s u len → AreEdits version at (take len bytes) s u
  front_taken at count len bytes s u less took =
      let first : take len (take count bytes) ≡ take len bytes = take-take len count bytes less in
      subst (λ (l : List ℕ). AreEdits version at l s u) (sym took.front.spelled ∙ first)
      (one_edit at took.command s u (took.edits, took.front.spellable) took.makes)
