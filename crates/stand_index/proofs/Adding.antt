-- Blocks that are put into an index.
use Rattle.std.proofs.Common.{◌≡◌, ◌⊎◌, inl, inr, ℕ, ◌+◌, ◌-◌, ◌*◌, ◌%◌, ◌^◌, ◌<◌, ◌≤◌, List, map, Option, Some, None, refl, sym, ap, subst, ◌∙◌, arith}
use Rattle.std.specs.declared.cmp.Ordering.{Ordering}
use Rattle.std.specs.declared.cmp.Ordering.TheVariants.{Less, Equal, Greater}
use Rattle.std.specs.Map.{lookup}
use Rattle.std.specs.BTreeMap.{insert_entry, is_at}
use Rattle.std.proofs.Math.Nat.{mod-le}
use Rattle.std.proofs.lemmas.Nat.{mod_below}
use Rattle.std.proofs.lemmas.Bool.{cases_lt}
use Rattle.stand_index.specs.declared.blocks.Blocks.{Blocks}
use Rattle.stand_index.specs.declared.slot.Slot.{Slot}
use Rattle.stand_index.specs.Blocks.{OneHas, Begins, IsAmong, Adds}
use Rattle.stand_index.specs.Slots.{start_of, blocks_of, all_blocks, AreSmall, IsSlot, AreSlots, IsWidth}
use Rattle.stand_index.proofs.Inserted.{all_inserted, new_there, old_there, only_these, found_there}

-- The first of some blocks as a key.
abbrev pub slot_of : {S : Type 0} → ℕ → Blocks S → Slot S
slot_of width blocks = record {
  source = blocks.source;
  start = start_of width blocks.first;
  ino = blocks.ino;
  shift = blocks.at + (width - blocks.first % width);
  first = blocks.first;
}

module _ {S : Type 0} (width : ℕ) (wide : IsWidth width) (blocks : Blocks S) where
  at_place : ℕ → Blocks S
  at_place at = record { source = blocks.source; first = blocks.first; ino = blocks.ino; at = at; count = blocks.count }

  -- The entry of blocks has these blocks.
  pub same_blocks : blocks_of width (slot_of width blocks, blocks.count) ≡ blocks
  unfolding at_place
  same_blocks = ap at_place
      (omega (arith, mod_below blocks.first width wide.some, mod-le blocks.first width))

  module _ (order : Slot S → Slot S → Ordering) (exact : (a b : Slot S) → order a b ≡ Equal → a ≡ b) (es : List (Slot S × ℕ)) where
    abbrev pub key : Slot S
    key = slot_of width blocks

    same_begins : (source : S) (cell ino place : ℕ) → Begins source cell ino place (blocks_of width (key, blocks.count)) → Begins source cell ino place blocks
    same_begins source cell ino place begins = subst (Begins source cell ino place) same_blocks begins

    -- More blocks have those of fewer.
    more_blocks : (was count : ℕ) → was ≤ count → (source : S) (cell ino place : ℕ) → Begins source cell ino place (blocks_of width (key, was))
        → Begins source cell ino place (blocks_of width (key, count))
    more_blocks was count more source cell ino place b = record {
      block = b.block;
      within = omega (arith, b.within, more);
      source_is = b.source_is;
      cell_is = b.cell_is;
      ino_is = b.ino_is;
      place_is = b.place_is;
    }

    -- An entry that is put in adds its blocks, if there were fewer at its key.
    pub put_adds : ((was : ℕ) → lookup (is_at (order key)) es ≡ Some was → was ≤ blocks.count)
        → Adds blocks (all_blocks width es) (all_blocks width (insert_entry order es key blocks.count))
    put_adds fewer source cell ino place = (
      (λ has. elim (only_these order exact key blocks.count (blocks_of width) (Begins source cell ino place) es has) [
        | inl old ↦ inl old
        | inr new ↦ inr (same_begins source cell ino place new)
      ]),
      (λ has. elim has [
        | inl old ↦ old_there order exact key blocks.count (blocks_of width) (Begins source cell ino place) es
            (λ was finds begins. more_blocks was blocks.count (fewer was finds) source cell ino place begins) old
        | inr new ↦ new_there order exact key blocks.count (blocks_of width) (Begins source cell ino place) es (subst (Begins source cell ino place) (sym same_blocks) new)
      ]),
    )

    -- Where as many were there, nothing needs to be put in.
    pub there_adds : (was : ℕ) → lookup (is_at (order key)) es ≡ Some was → blocks.count ≤ was → Adds blocks (all_blocks width es) (all_blocks width es)
    there_adds was finds more source cell ino place = (
      (λ has. inl has),
      (λ has. elim has [
        | inl old ↦ old
        | inr new ↦ found_there order exact key (blocks_of width) (Begins source cell ino place) es was finds
            (more_blocks blocks.count was more source cell ino place (subst (Begins source cell ino place) (sym same_blocks) new))
      ]),
    )

    pub put_kept : AreSlots width es → 0 < blocks.count → blocks.first + 4096 * (blocks.count - 1) < start_of width blocks.first + width
        → blocks.ino < 2 ^ 64 → blocks.first < 2 ^ 64 → blocks.at < 2 ^ 63 → AreSlots width (insert_entry order es key blocks.count)
    put_kept slots some within ino first at = all_inserted order exact key blocks.count (IsSlot width) es slots (record {
      some = some;
      start_is = refl;
      within = within;
      low = omega (arith, mod_below blocks.first width wide.some, mod-le blocks.first width);
      small = record { ino = ino; shift = omega (arith, at, wide.most); first = first };
    })

-- ---- blocks part by part

module _ {S : Type 0} where
  -- So many of some blocks.
  abbrev pub front_of : Blocks S → ℕ → Blocks S
  front_of blocks count = record { source = blocks.source; first = blocks.first; ino = blocks.ino; at = blocks.at; count = count }

  abbrev pub part_of : Blocks S → ℕ → ℕ → Blocks S
  part_of blocks done count = record { source = blocks.source; first = blocks.first + 4096 * done; ino = blocks.ino; at = blocks.at + 4096 * done; count = count }

  pub adds_none : (blocks : Blocks S) (old : List (Blocks S)) → Adds (front_of blocks 0) old old
  adds_none blocks old source cell ino place = (
    (λ has. inl has),
    (λ has. elim has [ inl old ↦ old | inr none ↦ absurd (below none.block none.within) ]),
  )
    where
      below : (n : ℕ) → n < 0 → ⊥
      below n h = omega (arith, h)

  pub adds_part : (blocks : Blocks S) (done count : ℕ) (old more new : List (Blocks S)) → Adds (front_of blocks done) old more → Adds (part_of blocks done count) more new
      → Adds (front_of blocks (done + count)) old new
  adds_part blocks done count old more new first next source cell ino place = (
    (λ has. elim ((next source cell ino place).0 has) [
      | inl there ↦ elim ((first source cell ino place).0 there) [
        | inl before ↦ inl before
        | inr b ↦ inr (record { block = b.block; within = omega (arith, b.within); source_is = b.source_is; cell_is = b.cell_is; ino_is = b.ino_is; place_is = b.place_is })
      ]
      | inr b ↦ inr (later b)
    ]),
    (λ has. elim has [
      | inl before ↦ (next source cell ino place).1 (inl ((first source cell ino place).1 (inl before)))
      | inr b ↦ elim (split b.block) [
        | inl low ↦ (next source cell ino place).1 (inl ((first source cell ino place).1 (inr (record {
          block = b.block;
          within = low;
          source_is = b.source_is;
          cell_is = b.cell_is;
          ino_is = b.ino_is;
          place_is = b.place_is;
        }))))
        | inr high ↦ (next source cell ino place).1 (inr (behind b high))
      ]
    ]),
  )
    where
      split : (block : ℕ) → (block < done) ⊎ (done ≤ block)
      split block = cases_lt block done

      later : Begins source cell ino place (part_of blocks done count) → Begins source cell ino place (front_of blocks (done + count))
      later b = record {
        block = done + b.block;
        within = omega (arith, b.within);
        source_is = b.source_is;
        cell_is = moved cell blocks.first b.block b.cell_is;
        ino_is = b.ino_is;
        place_is = moved place blocks.at b.block b.place_is;
      }
        where
          moved : (a base block : ℕ) → a ≡ base + 4096 * done + 4096 * block → a ≡ base + 4096 * (done + block)
          moved a base block is = omega (arith, is)

      behind : (b : Begins source cell ino place (front_of blocks (done + count))) → done ≤ b.block → Begins source cell ino place (part_of blocks done count)
      behind b high = record {
        block = b.block - done;
        within = omega (arith, b.within, high);
        source_is = b.source_is;
        cell_is = moved cell blocks.first b.block high b.cell_is;
        ino_is = b.ino_is;
        place_is = moved place blocks.at b.block high b.place_is;
      }
        where
          moved : (a base block : ℕ) → done ≤ block → a ≡ base + 4096 * block → a ≡ base + 4096 * done + 4096 * (block - done)
          moved a base block high is = omega (arith, high, is)
