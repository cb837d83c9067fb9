-- What is asked of a reader's file.
use Rattle.std.specs.Prelude.{◌≡◌, ℕ, ◌+◌, ◌-◌, ◌<◌, ◌≤◌, min, List, [], ◌∷◌, length, take, None, Ok}
use Rattle.std.specs.Prelude.{map, get_or, slice_index_or, String}
use Rattle.std.specs.String.{string_bytes}
use Rattle.std.proofs.Common.{refl, ap, subst, sym, ◌∙◌, arith}
use Rattle.std.proofs.lemmas.List.{get_or-map, length-map}
use Rattle.sx_base.specs.Asks.{Adds, ask, IsReadOnce, AreReadOnce}
use Rattle.sx_base.specs.Later.{AskedOnly, ReadsOn}
use Rattle.sx_base.proofs.Asking.{asked_nothing, asked_then, read_none, read_one, read_then, once_more}
use Rattle.sx_base.specs.declared.inputs.Inputs as reading
use Rattle.tlv_frame.specs.Feeding.{Fed, next_of, room}
use Rattle.tlv_frame.proofs.Growing.{waits_short}
use Rattle.cmd_reader.specs.Left.{Reader, at_start, read_to}

module _ {I : Type 0} (inputs : reading.Ghosts I) where
  -- one call
  pub reads_one : (old new : I) (name : List ℕ) (at count : ℕ) → Adds (inputs.asked old) (inputs.asked new) (ask name at count) → ReadsOn inputs old new name at (at + count)
  reads_one old new name at count adds before was = (ask name at count ∷ [], adds before was, read_one name at count)

  -- none
  pub reads_nothing : (at : I) (name : List ℕ) (from : ℕ) → ReadsOn inputs at at name from from
  reads_nothing at name from = asked_nothing inputs at (read_none name from)

  -- first up to one place, and then on to another
  pub reads_then : (old middle new : I) (name other : List ℕ) (from place next to : ℕ) → other ≡ name → next ≡ place → ReadsOn inputs old middle name from place → ReadsOn inputs middle new other next to
      → ReadsOn inputs old new name from to
  reads_then old middle new name other from place next to named is first second =
      asked_then inputs (λ xs ys one two. read_then name from place to xs ys one two) first
      (subst (λ (n : List ℕ). ReadsOn inputs middle new n place to) named (subst (λ (n : ℕ). ReadsOn inputs middle new other n to) is second))

  -- the same by other words
  pub reads_same : (old new : I) (name other : List ℕ) (from to place next : ℕ) → name ≡ other → from ≡ place → to ≡ next → ReadsOn inputs old new name from to → ReadsOn inputs old new other place next
  reads_same old new name other from to place next named begins ends reads =
      subst (λ (n : ℕ). ReadsOn inputs old new other place n) ends
      (subst (λ (n : ℕ). ReadsOn inputs old new other n to) begins (subst (λ (n : List ℕ). ReadsOn inputs old new n from to) named reads))

  -- a step of a reader, which is seen so
  pub step_asks : (old new : I) (was shown : Reader) (from to at : ℕ) (feed : Fed) → shown ≡ was → shown.offset + length shown.fed.left ≡ from → at + length feed.left ≡ to
      → ReadsOn inputs old new shown.name from to → ReadsOn inputs old new was.name (read_to was) (at + length feed.left)
  step_asks old new was shown from to at feed is begins ends reads =
      subst (λ (r : Reader). ReadsOn inputs old new r.name (read_to r) (at + length feed.left)) is
      (reads_same old new shown.name shown.name from to (read_to shown) (at + length feed.left) refl (sym begins) (sym ends) reads)

  -- a reader at the start of its file
  pub reads_start : (at : I) (file : ℕ) (name : List ℕ) (r : Reader) → r ≡ at_start file name → ReadsOn inputs at at name 0 (read_to r)
  reads_start at file name r is = subst (λ (s : Reader). ReadsOn inputs at at name 0 (read_to s)) (sym is) (reads_nothing at name 0)

  -- one more of files that are read one after the other
  pub file_once : {Z : Type 0} (old middle new : I) (files : List (String Z)) (n : ℕ) (file : String Z) (name : List ℕ) → n < length files → file ≡ slice_index_or files n file → name ≡ string_bytes file
      → AskedOnly inputs old middle (AreReadOnce (take n (map string_bytes files))) → AskedOnly inputs middle new (IsReadOnce name) → AskedOnly inputs old new (AreReadOnce (take (n + 1) (map string_bytes files)))
  file_once old middle new files n file name less is named first second =
      let there : name ≡ get_or (map string_bytes files) n [] = named ∙ ap string_bytes is ∙ sym (get_or-map string_bytes files n file [] less) in
      asked_then inputs (λ xs ys one two. once_more (map string_bytes files) n xs ys (subst (λ (m : ℕ). n < m) (sym (length-map files string_bytes)) less) one (subst (λ (l : List ℕ). IsReadOnce l ys) there two)) first second

-- A feed that waits takes all that a piece gives.
pub takes_all : (feed : Fed) (count taken : ℕ) (row : List ℕ) → next_of feed ≡ Ok None → count ≤ 65_536 → length (take count row) ≡ count → taken ≡ min (length (take count row)) (room - length feed.left) → taken ≡ count
takes_all feed count taken row waits bound size is = let few = waits_short feed waits in omega (arith, few, size, is, bound)
