-- One group more behind others, and one edit more.
use Rattle.std.proofs.Common.{◌≡◌, ℕ, ◌+◌, Bool, true, false, not, ◌||◌, List, [], ◌∷◌, ◌++◌, length, map, flat_map, Option, None, Some, if◌then◌else◌, refl, sym, ◌∙◌, ap, arith, length-append, append_assoc}
use Rattle.std.specs.List.{AllByRecursion, filter}
use Rattle.std.specs.Str.{bytes_eq}
use Rattle.std.proofs.lemmas.List.{append-nil}
use Rattle.send_model.specs.Command.{Command}
use Rattle.send_model.specs.Spelling.{canonical, canonical_all, attributes_of}
use Rattle.send_model.specs.Reading.{data_place}
use Rattle.send_model.specs.Receive.{bytes_of}
use Rattle.send_model.specs.Store.{Entry, Store, State, has_name, step_edit}
use Rattle.store_model.specs.Image.{Header, header_of, front_of, group_of}
use Rattle.group_log.proofs.GatedGroups.{length-group}
use Rattle.store_model.specs.Stored.{Group, body_bytes, IsGroup, Putting, body_at, taken, edits_made, made, made_all, Makes, first_gate}

abbrev bodies : List Group → List (List ℕ)
bodies groups = map body_bytes groups

pub bodies_push : (groups : List Group) (g : Group) → map body_bytes (groups ++ g ∷ []) ≡ map body_bytes groups ++ body_bytes g ∷ []
bodies_push [] g = refl
bodies_push (x ∷ groups) g = ap (λ (l : List (List ℕ)). body_bytes x ∷ l) (bodies_push groups g)

pub all_push : {A : Type 0} (P : A → Type 0) (xs : List A) (x : A) → AllByRecursion P xs → P x → AllByRecursion P (xs ++ x ∷ [])
all_push P [] x all h = (h, tt)
all_push P (y ∷ xs) x all h = (all.0, all_push P xs x all.1 h)

pub canonical_push : (version : ℕ) (commands : List Command) (c : Command) → canonical_all version (commands ++ c ∷ []) ≡ canonical_all version commands ++ canonical version c
unfolding canonical_all
canonical_push version [] c = append-nil (canonical version c)
canonical_push version (d ∷ commands) c =
    ap (λ (l : List ℕ). canonical version d ++ l) (canonical_push version commands c) ∙ sym (append_assoc (canonical version d) (canonical_all version commands) (canonical version c))

module _ {C : Type 0} (zero_cell : C) (put : Putting C) where
  pub made_push : (groups : List Group) (gate : ℕ) (store before after : Store C) (g : Group) → made_all zero_cell put gate store groups ≡ Some before
      → made zero_cell put (body_at (gate + length (flat_map group_of (bodies groups)))) before g.content ≡ Some after → made_all zero_cell put gate store (groups ++ g ∷ []) ≡ Some after
  unfolding made_all
  made_push [] gate store before after g e f =
      let same : store ≡ before = cc in
      let at : gate ≡ gate + length (flat_map group_of (bodies [])) = omega arith in
      let first : made zero_cell put (body_at gate) store g.content ≡ Some after =
      ap (λ (n : ℕ). made zero_cell put (body_at n) store g.content) at ∙ ap (λ (s : Store C). made zero_cell put (body_at (gate + length (flat_map group_of (bodies [])))) s g.content) same ∙ f in
      ap (λ (o : Option (Store C)). elim o as (λ x. Option (Store C)) [ None ↦ None | Some next ↦ Some next ]) first
  made_push (x ∷ groups) gate store before after g e f = by_first (λ next h. made_push groups (body_at gate + length (body_bytes x)) next before after g h behind) (made zero_cell put (body_at gate) store x.content) e
    where
      at : gate + length (group_of (body_bytes x) ++ flat_map group_of (bodies groups)) ≡ (body_at gate + length (body_bytes x)) + length (flat_map group_of (bodies groups))
      at = omega (arith, length-append (group_of (body_bytes x)) (flat_map group_of (bodies groups)), length-group (body_bytes x))

      behind : made zero_cell put (body_at ((body_at gate + length (body_bytes x)) + length (flat_map group_of (bodies groups)))) before g.content ≡ Some after
      behind = ap (λ (n : ℕ). made zero_cell put (body_at n) before g.content) (sym at) ∙ f

      by_first : ((next : Store C) → made_all zero_cell put (body_at gate + length (body_bytes x)) next groups ≡ Some before → made_all zero_cell put (body_at gate + length (body_bytes x)) next (groups ++ g ∷ []) ≡ Some after)
          → (o : Option (Store C)) → (elim o as (λ x. Option (Store C)) [ None ↦ None | Some next ↦ made_all zero_cell put (body_at gate + length (body_bytes x)) next groups ]) ≡ Some before
          → (elim o as (λ x. Option (Store C)) [ None ↦ None | Some next ↦ made_all zero_cell put (body_at gate + length (body_bytes x)) next (groups ++ g ∷ []) ]) ≡ Some after
      by_first ih None h = cc
      by_first ih (Some next) h = ih next h

  -- The same behind a header.
  length-header : (header : Header) → length (header_of header) ≡ 20
  length-header header = refl

  pub makes_push : (header : Header) (groups : List Group) (before after : Store C) (g : Group) (gate : ℕ) → Makes zero_cell put header.format groups before → gate ≡ length (front_of header (bodies groups)) → IsGroup header.format g
      → made zero_cell put (body_at gate) before g.content ≡ Some after → Makes zero_cell put header.format (groups ++ g ∷ []) after
  makes_push header groups before after g gate m at is f =
      let place : gate ≡ first_gate + length (flat_map group_of (bodies groups)) = omega (arith, at, length-append (header_of header) (flat_map group_of (bodies groups)), length-header header) in
      record {
        lawful = all_push (IsGroup header.format) groups g m.lawful is;
        made = made_push groups first_gate [] before after g m.made (ap (λ (n : ℕ). made zero_cell put (body_at n) before g.content) (sym place) ∙ f);
      }

  pub edits_push : (version place : ℕ) (commands : List Command) (c : Command) (state middle next : State C) → edits_made zero_cell put version place state commands ≡ Some middle
      → taken (step_edit zero_cell (put (data_place version (place + length (canonical_all version commands)) (attributes_of c)) (bytes_of c)) middle c) ≡ Some next
      → edits_made zero_cell put version place state (commands ++ c ∷ []) ≡ Some next
  unfolding edits_made canonical_all
  edits_push version place [] c state middle next e f =
      let same : state ≡ middle = cc in
      let at : place ≡ place + length (canonical_all version []) = omega arith in
      let first : taken (step_edit zero_cell (put (data_place version place (attributes_of c)) (bytes_of c)) state c) ≡ Some next =
      ap (λ (n : ℕ). taken (step_edit zero_cell (put (data_place version n (attributes_of c)) (bytes_of c)) state c)) at
      ∙ ap (λ (s : State C). taken (step_edit zero_cell (put (data_place version (place + length (canonical_all version [])) (attributes_of c)) (bytes_of c)) s c)) same ∙ f in
      ap (λ (o : Option (State C)). elim o as (λ x. Option (State C)) [ None ↦ None | Some s ↦ Some s ]) first
  edits_push version place (d ∷ commands) c state middle next e f =
      by_first (λ s h. edits_push version (place + length (canonical version d)) commands c s middle next h then_last) (taken (step_edit zero_cell (put (data_place version place (attributes_of d)) (bytes_of d)) state d)) e
    where
      at : place + length (canonical version d ++ canonical_all version commands) ≡ (place + length (canonical version d)) + length (canonical_all version commands)
      at = omega (arith, length-append (canonical version d) (canonical_all version commands))

      then_last : taken (step_edit zero_cell (put (data_place version ((place + length (canonical version d)) + length (canonical_all version commands)) (attributes_of c)) (bytes_of c)) middle c) ≡ Some next
      then_last = ap (λ (n : ℕ). taken (step_edit zero_cell (put (data_place version n (attributes_of c)) (bytes_of c)) middle c)) (sym at) ∙ f

      by_first : ((s : State C) → edits_made zero_cell put version (place + length (canonical version d)) s commands ≡ Some middle → edits_made zero_cell put version (place + length (canonical version d)) s (commands ++ c ∷ []) ≡ Some next)
          → (o : Option (State C)) → (elim o as (λ x. Option (State C)) [ None ↦ None | Some s ↦ edits_made zero_cell put version (place + length (canonical version d)) s commands ]) ≡ Some middle
          → (elim o as (λ x. Option (State C)) [ None ↦ None | Some s ↦ edits_made zero_cell put version (place + length (canonical version d)) s (commands ++ c ∷ []) ]) ≡ Some next
      by_first ih None h = cc
      by_first ih (Some s) h = ih s h

-- A name that no entry has takes none out.
pub none_dropped : {S : Type 0} (name : List ℕ) (store : List (Entry S)) → has_name name store ≡ false → filter (λ e. not (bytes_eq e.name name)) store ≡ store
none_dropped name [] h = refl
none_dropped {S = S} name (e ∷ store) h = by_test (none_dropped name store) (bytes_eq e.name name) h
  where
    by_test : (has_name name store ≡ false → filter (λ x. not (bytes_eq x.name name)) store ≡ store)
        → (b : Bool) → b || has_name name store ≡ false → (if not b then e ∷ filter (λ x. not (bytes_eq x.name name)) store else filter (λ x. not (bytes_eq x.name name)) store) ≡ e ∷ store
    by_test ih true k = cc
    by_test ih false k = ap (λ (l : List (Entry S)). e ∷ l) (ih k)
