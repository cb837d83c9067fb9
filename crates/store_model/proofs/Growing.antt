-- Groups and then others: what they make one after the other, and where the next gate is.
use Rattle.std.specs.Prelude.{◌≡◌, ℕ, ◌+◌, List, [], ◌∷◌, ◌++◌, length, map, Option, None, Some}
use Rattle.std.specs.Int.{w64, to_le_bytes}
use Rattle.std.proofs.Common.{refl, sym, ap, ◌∙◌, arith, length-append, flat_map}
use Rattle.send_model.specs.Store.{Store}
use Rattle.store_model.specs.Image.{Header, header_of, front_of, group_of}
use Rattle.send_model.proofs.Sorts.{same_inside}
use Rattle.send_model.proofs.ElementLaws.{all_both}
use Rattle.store_model.specs.Stored.{Group, body_bytes, IsGroup, Putting, made, body_at, made_all, first_gate, Makes}
use Rattle.store_model.proofs.OneJournal.{length-le}

-- where the gate behind groups is
pub gate_behind : ℕ → List Group → ℕ
gate_behind gate [] = gate
gate_behind gate (group ∷ groups) = gate_behind (body_at gate + length (body_bytes group)) groups

gate_is : (gate : ℕ) (groups : List Group) → gate_behind gate groups ≡ gate + length (flat_map group_of (map body_bytes groups))
unfolding gate_behind
gate_is gate [] = omega arith
gate_is gate (group ∷ groups) =
    gate_is (body_at gate + length (body_bytes group)) groups
    ∙ omega (arith, length-append (group_of (body_bytes group)) (flat_map group_of (map body_bytes groups)), length-append (1 ∷ to_le_bytes w64 (length (body_bytes group))) (body_bytes group), length-le (length (body_bytes group)))

-- it is the end of all that stands before it
pub gate_in_image : (header : Header) (groups : List Group) → gate_behind first_gate groups ≡ length (front_of header (map body_bytes groups))
gate_in_image header groups = gate_is first_gate groups ∙ sym (length-append (header_of header) (flat_map group_of (map body_bytes groups)))

module _ {C : Type 0} (zero_cell : C) (put : Putting C) where
  -- groups, and then others over what they made
  pub made-append : (gate : ℕ) (store middle : Store C) (groups others : List Group) → made_all zero_cell put gate store groups ≡ Some middle
      → made_all zero_cell put gate store (groups ++ others) ≡ made_all zero_cell put (gate_behind gate groups) middle others
  unfolding made_all gate_behind
  made-append gate store middle [] others is = ap (λ (s : Store C). made_all zero_cell put gate s others) (same_inside is)
  made-append gate store middle (group ∷ groups) others is =
      let next : ℕ = body_at gate + length (body_bytes group) in
      one next (made zero_cell put (body_at gate) store group.content) (λ s q. made-append next s middle groups others q) is
    where
      one : (next : ℕ) (o : Option (Store C)) → ((s : Store C) → made_all zero_cell put next s groups ≡ Some middle → made_all zero_cell put next s (groups ++ others) ≡ made_all zero_cell put (gate_behind next groups) middle others)
          → (elim o as (λ x. Option (Store C)) [ None ↦ None | Some s ↦ made_all zero_cell put next s groups ]) ≡ Some middle
          → (elim o as (λ x. Option (Store C)) [ None ↦ None | Some s ↦ made_all zero_cell put next s (groups ++ others) ]) ≡ made_all zero_cell put (gate_behind next groups) middle others
      one next None more q = cc
      one next (Some s) more q = more s q

  -- one group
  made_one : (gate : ℕ) (store : Store C) (group : Group) → made_all zero_cell put gate store (group ∷ []) ≡ made zero_cell put (body_at gate) store group.content
  unfolding made_all
  made_one gate store group = one (made zero_cell put (body_at gate) store group.content)
    where
      one : (o : Option (Store C)) → (elim o as (λ x. Option (Store C)) [ None ↦ None | Some next ↦ Some next ]) ≡ o
      one None = refl
      one (Some next) = refl

  -- one group more
  pub made_more : (gate : ℕ) (store middle : Store C) (groups : List Group) (group : Group) → made_all zero_cell put gate store groups ≡ Some middle
      → made_all zero_cell put gate store (groups ++ group ∷ []) ≡ made zero_cell put (body_at (gate_behind gate groups)) middle group.content
  made_more gate store middle groups group is = made-append gate store middle groups (group ∷ []) is ∙ made_one (gate_behind gate groups) middle group

  -- groups that make a store, and one more
  pub makes_more : (header : Header) (groups : List Group) (group : Group) (store next : Store C) → Makes zero_cell put header.format groups store → IsGroup header.format group
      → made zero_cell put (body_at (length (front_of header (map body_bytes groups)))) store group.content ≡ Some next → Makes zero_cell put header.format (groups ++ group ∷ []) next
  makes_more header groups group store next makes is then = record {
    lawful = all_both (IsGroup header.format) groups (group ∷ []) makes.lawful (is, tt);
    made = made_more first_gate [] store groups group makes.made ∙ ap (λ (n : ℕ). made zero_cell put (body_at n) store group.content) (gate_in_image header groups) ∙ then;
  }

  -- groups of which the first ones make a store do not make any where the next one makes none
  pub none_made : (gate : ℕ) (store middle : Store C) (groups others : List Group) (group : Group) → made_all zero_cell put gate store groups ≡ Some middle
      → made zero_cell put (body_at (gate_behind gate groups)) middle group.content ≡ None → made_all zero_cell put gate store (groups ++ group ∷ others) ≡ None
  unfolding made_all
  none_made gate store middle groups others group is none =
      made-append gate store middle groups (group ∷ others) is
      ∙ ap (λ (o : Option (Store C)). elim o as (λ x. Option (Store C)) [ None ↦ None | Some s ↦ made_all zero_cell put (body_at (gate_behind gate groups) + length (body_bytes group)) s others ]) none
