-- What tags tell: cells with the same tag have the same byte, where each cell has the byte that stands where it was born.
use Rattle.std.specs.Prelude.{◌≡◌, ℕ, ◌+◌, ◌≤◌, ◌==◌, true, List, [], ◌∷◌, map, length, take, drop, Option, None, Some}
use Rattle.std.specs.List.{AllByRecursion}
use Rattle.std.proofs.Common.{refl, sym, ap, ap₂, subst, ◌∙◌, arith, eqb-true}
use Rattle.std.proofs.lemmas.Bool.{false≢true, and_parts}
use Rattle.send_model.specs.Reading.{Item}
use Rattle.send_model.specs.Receive.{bytes_of}
use Rattle.send_model.specs.Subvolume.{Subvolume}
use Rattle.send_model.specs.Clone.{cells_of}
use Rattle.send_model.specs.Store.{Key, Store}
use Rattle.send_model.proofs.Sorts.{same_inside}
use Rattle.send_model.proofs.Overwriting.{drop_twice}
use Rattle.send_model.proofs.Carrying.{Stays, Placed, InPlace, same_place_true}
use Rattle.standing_model.specs.Births.{Birth, Tag, CameFrom, BornAt, Tagged, byte_in, outside_place, traced_of, born_from, born_cells}
use Rattle.standing_model.specs.Standing.{same_birth, same_tag, tags_alike, begin_with}
use Rattle.standing_model.specs.Promises.{file_bytes, IsThere}

abbrev first_of_list : List ℕ → ℕ
first_of_list [] = 0
first_of_list (b ∷ bytes) = b

same_birth_true : (a b : Birth) → same_birth a b ≡ true → a ≡ b
same_birth_true a b e = let p = and_parts (a.file == b.file) (a.at == b.at) e in λ i. record { file = eqb-true a.file b.file p.0 i; at = eqb-true a.at b.at p.1 i }

pub same_tag_true : (a b : Tag) → same_tag a b ≡ true → a ≡ b
same_tag_true (CameFrom a) (CameFrom b) e = ap CameFrom (same_place_true a b e)
same_tag_true (CameFrom a) (BornAt b) e = absurd (false≢true e)
same_tag_true (BornAt a) (CameFrom b) e = absurd (false≢true e)
same_tag_true (BornAt a) (BornAt b) e = ap BornAt (same_birth_true a b e)

module _ (files : List (List ℕ)) (base : Store ℕ) (keys : List Key) where
  -- A byte stands at a place of a file that was read.
  pub record WasRead (birth : Birth) (byte : ℕ) : Type 0 where
    pub rest : List ℕ
    pub at : drop birth.at (file_bytes files birth.file) ≡ byte ∷ rest

  abbrev pub ToldBy : Tag → ℕ → Type 0
  ToldBy (CameFrom place) byte = Stays base keys place byte
  ToldBy (BornAt birth) byte = WasRead birth byte

  abbrev pub Told : Option Tag → ℕ → Type 0
  Told None byte = Unit {0}
  Told (Some tag) byte = ToldBy tag byte

  -- A cell with a tag has the byte that stands where it was born.
  abbrev pub IsTold : Tagged → Type 0
  IsTold c = Told c.tag c.byte

  -- ---- with and without births

  placed : (t : Option Tag) (byte : ℕ) → Told t byte → Placed base keys (outside_place t) byte
  placed None byte h = tt
  placed (Some (CameFrom place)) byte h = h
  placed (Some (BornAt birth)) byte h = tt

  pub all_placed : (cells : List Tagged) → AllByRecursion IsTold cells → AllByRecursion (InPlace base keys) (map traced_of cells)
  all_placed [] a = tt
  all_placed (c ∷ cells) a = (placed c.tag c.byte a.0, all_placed cells a.1)

  -- ---- same tags, same bytes

  one_byte : (t : Tag) (a b : ℕ) → ToldBy t a → ToldBy t b → a ≡ b
  one_byte (CameFrom place) a b h k =
      let same : h.source ≡ k.source = same_inside (sym h.found ∙ k.found) in
      ap first_of_list (sym h.at ∙ ap (λ (s : Subvolume ℕ). drop place.offset (cells_of s place.ino)) same ∙ k.at)
  one_byte (BornAt birth) a b h k = ap first_of_list (sym h.at ∙ k.at)

  told_alike : (t u : Option Tag) (a b : ℕ) → tags_alike t u ≡ true → Told t a → Told u b → a ≡ b
  told_alike None u a b e h k = absurd (false≢true e)
  told_alike (Some t) None a b e h k = absurd (false≢true e)
  told_alike (Some t) (Some u) a b e h k = one_byte u a b (subst (λ (x : Tag). ToldBy x a) (same_tag_true t u e) h) k

  -- Cells that begin with the tags of a block begin with its bytes.
  pub begin_bytes : (cells block : List Tagged) → begin_with cells block ≡ true → AllByRecursion IsTold cells → AllByRecursion IsTold block
      → (length block ≤ length cells) × (take (length block) (map byte_in cells) ≡ map byte_in block)
  begin_bytes cells [] e a b = (omega arith, refl)
  begin_bytes [] (c ∷ block) e a b = absurd (false≢true e)
  begin_bytes (d ∷ cells) (c ∷ block) e a b =
      let p = and_parts (tags_alike c.tag d.tag) (begin_with cells block) e in
      let more = begin_bytes cells block p.1 a.1 b.1 in
      let l = more.0 in
      (omega (arith, l), ap₂ (λ (x : ℕ) (r : List ℕ). x ∷ r) (sym (told_alike c.tag d.tag c.byte d.byte p.0 b.0 a.0)) more.1)

  -- ---- what an item writes

  told_from : (file at : ℕ) (bytes : List ℕ) → take (length bytes) (drop at (file_bytes files file)) ≡ bytes → AllByRecursion IsTold (born_from file at bytes)
  told_from file at [] e = tt
  told_from file at (b ∷ bytes) e = let o = one (drop at (file_bytes files file)) refl e in (o.0, told_from file (at + 1) bytes o.1)
    where
      one : (r : List ℕ) → drop at (file_bytes files file) ≡ r → take (length (b ∷ bytes)) r ≡ b ∷ bytes
          → WasRead (record { file = file; at = at }) b × (take (length bytes) (drop (at + 1) (file_bytes files file)) ≡ bytes)
      one [] s q = cc
      one (x ∷ r) s q =
          let same : x ≡ b = ap first_of_list q in (
            record { rest = r; at = s ∙ ap (λ (y : ℕ). y ∷ r) same },
            ap (take (length bytes)) (sym (drop_twice at 1 (file_bytes files file)) ∙ ap (drop 1) s) ∙ ap (drop 1) q,
          )

  pub item_told : (item : Item) → IsThere files item → AllByRecursion IsTold (born_cells item)
  item_told item there = told_from item.file item.data_at (bytes_of item.command) there
