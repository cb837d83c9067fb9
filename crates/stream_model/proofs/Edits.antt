-- The last edits of groups, and edits of a part one after the other.
use Rattle.std.specs.Prelude.{◌≡◌, ℕ, ◌+◌, Bool, true, false, not, ◌&&◌, List, [], ◌∷◌, ◌++◌, length, Option, None, Some, Result, Ok, Err, is_none}
use Rattle.std.proofs.Common.{refl, sym, ap, ◌∙◌}
use Rattle.std.proofs.lemmas.Bool.{true≢false}
use Rattle.send_model.specs.Refusal.{Refusal}
use Rattle.send_model.specs.Command.{Command}
use Rattle.send_model.specs.Spelling.{canonical}
use Rattle.send_model.specs.Subvolume.{Subvolume}
use Rattle.send_model.specs.Store.{Key, Store, Part, State, head_of, edit_part, edited, step_edit}
use Rattle.send_model.specs.Receive.{bytes_of}
use Rattle.send_model.specs.Counts.{is_end}
use Rattle.send_model.proofs.Sorts.{same_inside}
use Rattle.store_model.specs.Stored.{Group, is_edit, as_bytes, taken, edits_made}
use Rattle.stream_model.specs.OwnStream.{Edits, edits_in, last_edits}

-- ---- the last edits

abbrev pub or_before : Option Edits → Option Edits → Option Edits
or_before before last = elim last as (λ x. Option Edits) [ None ↦ before | Some edits ↦ Some edits ]

module _ (uuid : List ℕ) where
  joined_last : (xs ys : List Group) → last_edits uuid (xs ++ ys) ≡ or_before (last_edits uuid xs) (last_edits uuid ys)
  unfolding last_edits
  joined_last [] ys = one (last_edits uuid ys)
    where
      one : (o : Option Edits) → o ≡ or_before None o
      one None = refl
      one (Some edits) = refl
  joined_last (g ∷ xs) ys = ap (or_before (edits_in uuid g.content)) (joined_last xs ys) ∙ one (last_edits uuid ys)
    where
      one : (o : Option Edits) → or_before (edits_in uuid g.content) (or_before (last_edits uuid xs) o) ≡ or_before (or_before (edits_in uuid g.content) (last_edits uuid xs)) o
      one None = refl
      one (Some edits) = refl

  alone_last : (g : Group) → last_edits uuid (g ∷ []) ≡ edits_in uuid g.content
  unfolding last_edits
  alone_last g = refl

  -- one group more
  pub one_more : (groups : List Group) (g : Group) → last_edits uuid (groups ++ g ∷ []) ≡ or_before (last_edits uuid groups) (edits_in uuid g.content)
  one_more groups g = joined_last groups (g ∷ []) ∙ ap (or_before (last_edits uuid groups)) (alone_last g)

  -- a group that says none
  pub none_more : (groups : List Group) (g : Group) → last_edits uuid groups ≡ None → edits_in uuid g.content ≡ None → last_edits uuid (groups ++ g ∷ []) ≡ None
  none_more groups g n h = joined_last groups (g ∷ []) ∙ ap (or_before (last_edits uuid groups)) (alone_last g ∙ h) ∙ n

  -- and one behind which none say any
  pub found_last : (before behind : List Group) (g : Group) (edits : Edits) → edits_in uuid g.content ≡ Some edits → last_edits uuid behind ≡ None → last_edits uuid (before ++ g ∷ behind) ≡ Some edits
  unfolding last_edits
  found_last before behind g edits h n =
      joined_last before (g ∷ behind) ∙ ap (or_before (last_edits uuid before)) (ap (or_before (edits_in uuid g.content)) n ∙ h)

-- ---- one after the other

abbrev pub part_with : Key → Subvolume ℕ → Part ℕ
part_with key s = record { key = key; subvolume = s }

abbrev pub in_part : Store ℕ → Key → Subvolume ℕ → State ℕ
in_part store key s = record { store = store; part = Some (part_with key s) }

-- Edits of the part of a key, one after the other, over one store.
abbrev pub Edited : Store ℕ → Key → Subvolume ℕ → List Command → Subvolume ℕ → Type 0
Edited store key s [] t = s ≡ t
Edited store key s (c ∷ cs) t =
    (middle : Subvolume ℕ) × (edit_part 0 (bytes_of c) store (part_with key s) c ≡ Ok middle) × Edited store key middle cs t

both_true : (a b : Bool) → a && b ≡ true → (a ≡ true) × (b ≡ true)
both_true true b e = (refl, e)
both_true false b e = absurd (true≢false (sym e))

none_is : {A : Type 0} (o : Option A) → is_none o ≡ true → o ≡ None
none_is None e = refl
none_is (Some a) e = absurd (true≢false (sym e))

not_is : (b : Bool) → not b ≡ true → b ≡ false
not_is true e = absurd (true≢false (sym e))
not_is false e = refl

-- An edit is no head and no END.
pub edit_sort : (c : Command) → is_edit c ≡ true → (head_of c ≡ None) × (is_end c ≡ false)
edit_sort c e = let b = both_true (is_none (head_of c)) (not (is_end c)) e in (none_is (head_of c) b.0, not_is (is_end c) b.1)

pub record Made (store : Store ℕ) (key : Key) (start : Subvolume ℕ) (cs : List Command) (end : State ℕ) : Type 0 where
  pub subvolume : Subvolume ℕ
  pub is : end ≡ in_part store key subvolume
  pub edited : Edited store key start cs subvolume

-- What edits of a group make, they make over its store one after the other.
pub edits_one_by_one : (version place : ℕ) (store : Store ℕ) (key : Key) (s : Subvolume ℕ) (cs : List Command) (end : State ℕ) → edits_made 0 as_bytes version place (in_part store key s) cs ≡ Some end → Made store key s cs end
unfolding edits_made step_edit
edits_one_by_one version place store key s [] end e = record { subvolume = s; is = sym (same_inside e); edited = refl }
edits_one_by_one version place store key s (c ∷ cs) end e =
    one (edit_part 0 (bytes_of c) store (part_with key s) c) refl (λ middle q. edits_one_by_one version (place + length (canonical version c)) store key middle cs end q) e
  where
    next : ℕ
    next = place + length (canonical version c)

    one : (r : Result (Subvolume ℕ) Refusal) → edit_part 0 (bytes_of c) store (part_with key s) c ≡ r
        → ((middle : Subvolume ℕ) → edits_made 0 as_bytes version next (in_part store key middle) cs ≡ Some end → Made store key middle cs end)
        → (elim (taken (edited store (part_with key s) r)) as (λ x. Option (State ℕ)) [ None ↦ None | Some state ↦ edits_made 0 as_bytes version next state cs ]) ≡ Some end → Made store key s (c ∷ cs) end
    one (Err refusal) is more q = cc
    one (Ok middle) is more q =
        let rest = more middle q in
        record { subvolume = rest.subvolume; is = rest.is; edited = (middle, is, rest.edited) }
