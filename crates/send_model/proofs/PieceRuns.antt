-- The commands of the pieces of a range, one after the other in a part, write the range at once.
use Rattle.std.specs.Prelude.{◌≡◌, ◌⊎◌, ℕ, zero, suc, ◌+◌, ◌%◌, ◌≤◌, ◌==◌, Bool, true, false, ◌&&◌, ◌||◌, List, [], ◌∷◌, ◌++◌, length, take, drop, Option, None, Some, Result, Ok, nat_le, nat_lt, is_some, if◌then◌else◌}
use Rattle.std.specs.Str.{bytes_eq}
use Rattle.std.specs.List.{AllByRecursion, flat_map}
use Rattle.std.proofs.Common.{refl, sym, ap, subst, ◌∙◌, arith, eqb-true, inl, inr, append-nil, length-append}
use Rattle.std.proofs.lemmas.Bool.{le-ltb, eq-eqb}
use Rattle.std.proofs.lemmas.List.{take-append-drop, length-take, length-drop}
use Rattle.send_model.specs.Refusal.{Refusal}
use Rattle.send_model.specs.Chain.{◌>>=◌}
use Rattle.send_model.specs.Command.{Command, Write, Clone}
use Rattle.send_model.specs.Path.{path_names}
use Rattle.send_model.specs.Subvolume.{Subvolume, is_file, walk, is_nameable}
use Rattle.send_model.specs.Outside.{IsAmong}
use Rattle.send_model.specs.Edit.{greatest_end, overwritten, written_at, change_inode, change_contents, set_cells, edit}
use Rattle.send_model.specs.Clone.{cells_of, is_aligned, block_len, Cloned, cloned, clone, clone_values}
use Rattle.send_model.specs.Store.{Key, Store, Part, State, find, clone_source, edit_part, edited, step, step_edit}
use Rattle.send_model.specs.Provenance.{Place, Piece, Carried, Literal}
use Rattle.send_model.specs.Composed.{write_len, writes_from, path_of, piece_commands}
use Rattle.send_model.proofs.Runs.{Takes, Takes-append}
use Rattle.send_model.proofs.Merging.{plain_taken}
use Rattle.send_model.proofs.Overwriting.{written_at-append}
use Rattle.send_model.proofs.Rewriting.{cells_walk, cells_file, cells_twice, file_there}
use Rattle.send_model.proofs.Carrying.{Serves, Covers, bytes_at}

-- A piece that is cloned is cloned from a place of which something is known.
abbrev pub MayClone : (Place → Type 0) → Piece → Type 0
MayClone May (Literal at bytes) = Unit {0}
MayClone May (Carried at place len) = May place

module _ (u : Store ℕ) (new : Key) (path : List ℕ) (ino : ℕ) where
  abbrev pub state_of : Subvolume ℕ → State ℕ
  state_of s = record { store = u; part = Some (record { key = new; subvolume = s }) }

  -- The part with bytes written at a place of its file.
  abbrev pub with_bytes : ℕ → List ℕ → Subvolume ℕ → Subvolume ℕ
  with_bytes at bytes s = change_inode ino (set_cells (written_at 0 at bytes)) s

  pub record IsPlace (s : Subvolume ℕ) : Type 0 where
    pub walked : walk s path ≡ Ok ino
    pub file : is_file s ino ≡ true

  place_stays : (at : ℕ) (bytes : List ℕ) (s : Subvolume ℕ) → IsPlace s → IsPlace (with_bytes at bytes s)
  place_stays at bytes s p = let there = file_there s ino p.file in record {
    walked = cells_walk ino (written_at 0 at bytes) s there.0 there.1 path ∙ p.walked;
    file = cells_file ino (written_at 0 at bytes) s there.0 there.1 ino ∙ p.file;
  }

  bytes_twice : (at : ℕ) (a b : List ℕ) (s : Subvolume ℕ) → IsPlace s → with_bytes (at + length a) b (with_bytes at a s) ≡ with_bytes at (a ++ b) s
  bytes_twice at a b s p = let there = file_there s ino p.file in
      cells_twice ino (written_at 0 at a) (written_at 0 (at + length a) b) s there.0 there.1
      ∙ ap (λ (g : List ℕ → List ℕ). change_inode ino (set_cells g) s) (λ i cells. written_at-append 0 at a b cells i)

  -- Where there are no bytes, the part as it was.
  abbrev pub put_bytes : ℕ → List ℕ → Subvolume ℕ → Subvolume ℕ
  put_bytes at [] s = s
  put_bytes at (b ∷ bytes) s = with_bytes at (b ∷ bytes) s

  put_twice : (at : ℕ) (a b : List ℕ) (s : Subvolume ℕ) → IsPlace s → put_bytes (at + length a) b (put_bytes at a s) ≡ put_bytes at (a ++ b) s
  put_twice at [] [] s p = refl
  put_twice at [] (y ∷ b) s p = let e : at + 0 ≡ at = omega arith in ap (λ (k : ℕ). with_bytes k (y ∷ b) s) e
  put_twice at (x ∷ a) [] s p = ap (λ (r : List ℕ). with_bytes at r s) (sym (append-nil (x ∷ a)))
  put_twice at (x ∷ a) (y ∷ b) s p = bytes_twice at (x ∷ a) (y ∷ b) s p

  put_stays : (at : ℕ) (bytes : List ℕ) (s : Subvolume ℕ) → IsPlace s → IsPlace (put_bytes at bytes s)
  put_stays at [] s p = p
  put_stays at (b ∷ bytes) s p = place_stays at (b ∷ bytes) s p

  -- ---- one WRITE, and WRITE commands

  write_edit : (end at : ℕ) (bytes : List ℕ) (s : Subvolume ℕ) → end ≡ at + length bytes → IsPlace s → nat_le end greatest_end ≡ true → change_contents path end (written_at 0 at bytes) s ≡ Ok (with_bytes at bytes s)
  unfolding change_contents
  write_edit end at bytes s e p fits = rw (p.walked, p.file, fits) refl

  write_run : (at : ℕ) (bytes : List ℕ) (s : Subvolume ℕ) → IsPlace s → nat_le (at + length bytes) greatest_end ≡ true → Takes (state_of s) (Write path at bytes ∷ []) (state_of (with_bytes at bytes s))
  unfolding edit
  write_run at bytes s p fits = plain_taken (Write path at bytes) refl u new s (with_bytes at bytes s) [] _ (write_edit (at + length bytes) at bytes s refl p fits) refl

  -- WRITE commands of at most so many bytes each.
  abbrev chunks : ℕ → ℕ → ℕ → List ℕ → List Command
  chunks w zero at bytes = []
  chunks w (suc n) at [] = []
  chunks w (suc n) at (b ∷ bytes) = Write path at (take (suc w) (b ∷ bytes)) ∷ chunks w n (at + suc w) (drop (suc w) (b ∷ bytes))

  abbrev pub Fits : ℕ → List ℕ → Type 0
  Fits at [] = Unit {0}
  Fits at (b ∷ bytes) = (k : ℕ) → k ≤ at + length (b ∷ bytes) → nat_le k greatest_end ≡ true

  pub fits_part : (at top : ℕ) (bytes : List ℕ) → ((k : ℕ) → k ≤ top → nat_le k greatest_end ≡ true) → (bytes ≡ []) ⊎ (at + length bytes ≤ top) → Fits at bytes
  fits_part at top [] f h = tt
  fits_part at top (b ∷ bytes) f (inl none) = cc
  fits_part at top (b ∷ bytes) f (inr h) = λ k l. f k (omega (arith, h, l))

  chunks_run : (w n at : ℕ) (bytes : List ℕ) (s : Subvolume ℕ) → length bytes ≤ n → IsPlace s → Fits at bytes → Takes (state_of s) (chunks w n at bytes) (state_of (put_bytes at bytes s))
  chunks_run w zero at [] s l p fits = refl
  chunks_run w zero at (b ∷ bytes) s l p fits = absurd (omega (arith, l))
  chunks_run w (suc n) at [] s l p fits = refl
  chunks_run w (suc n) at (b ∷ bytes) s l p fits =
      let one : List ℕ = b ∷ take w bytes in
      let rest : List ℕ = drop w bytes in
      let all : one ++ rest ≡ b ∷ bytes = ap (λ (r : List ℕ). b ∷ r) (take-append-drop w bytes) in
      let sizes = length-take w bytes in
      let s1 : Subvolume ℕ = with_bytes at one s in
      let p1 = place_stays at one s p in
      let first = write_run at one s p (fits (at + length one) (omega (arith, sizes))) in
      let rest_size = length-drop w bytes in
      let more : Takes (state_of s1) (chunks w n (at + suc w) rest) (state_of (put_bytes (at + suc w) rest s1)) =
      chunks_run w n (at + suc w) rest s1 (omega (arith, rest_size, l)) p1 (fits_part (at + suc w) (at + length (b ∷ bytes)) rest fits (elim (long_or_none rest refl) [ inl none ↦ inl none | inr long ↦ inr (omega (arith, long, rest_size)) ])) in
      let moved : put_bytes (at + suc w) rest s1 ≡ put_bytes (at + length one) rest s1 = shift rest in
      subst (λ (t : Subvolume ℕ). Takes (state_of s) (Write path at one ∷ chunks w n (at + suc w) rest) (state_of t)) (moved ∙ put_twice at one rest s p ∙ ap (λ (r : List ℕ). put_bytes at r s) all)
      (Takes-append (Write path at one ∷ []) (chunks w n (at + suc w) rest) (state_of s) (state_of s1) (state_of (put_bytes (at + suc w) rest s1)) first more)
    where
      -- what is left starts where a whole chunk ends, or nothing is left
      long_or_none : (rest : List ℕ) → rest ≡ drop w bytes → (rest ≡ []) ⊎ (w ≤ length bytes)
      long_or_none [] e = inl refl
      long_or_none (x ∷ rest) e = inr (omega (arith, ap length e, length-drop w bytes))

      shift : (rest : List ℕ) → put_bytes (at + suc w) (drop w bytes) (with_bytes at (b ∷ take w bytes) s) ≡ put_bytes (at + length (b ∷ take w bytes)) (drop w bytes) (with_bytes at (b ∷ take w bytes) s)
      shift rest = elim (long_or_none (drop w bytes) refl) [
        | inl none ↦ ap (λ (r : List ℕ). put_bytes (at + suc w) r (with_bytes at (b ∷ take w bytes) s)) none ∙ sym (ap (λ (r : List ℕ). put_bytes (at + length (b ∷ take w bytes)) r (with_bytes at (b ∷ take w bytes) s)) none)
        | inr long ↦ let e : at + suc w ≡ at + length (b ∷ take w bytes) = omega (arith, long, length-take w bytes) in ap (λ (k : ℕ). put_bytes k (drop w bytes) (with_bytes at (b ∷ take w bytes) s)) e
      ]

  -- WRITE commands of a literal piece are such chunks.
  chunked : (w n at : ℕ) (bytes : List ℕ) → write_len ≡ suc w → writes_from n path at bytes ≡ chunks w n at bytes
  chunked w zero at bytes e = refl
  chunked w (suc n) at [] e = refl
  chunked w (suc n) at (b ∷ bytes) e =
      let rest : ℕ → List Command = λ m. Write path at (take m (b ∷ bytes)) ∷ writes_from n path (at + m) (drop m (b ∷ bytes)) in
      ap rest e ∙ ap (λ (cs : List Command). Write path at (take (suc w) (b ∷ bytes)) ∷ cs) (chunked w n (at + suc w) (drop (suc w) (b ∷ bytes)) e)

  -- ---- one CLONE, from outside or from another file of the part

  clone_made : (off : ℕ) (clone_path : List ℕ) (from len source_ino : ℕ) (source : Option (Subvolume ℕ)) (other s : Subvolume ℕ) (own : Bool) → source ≡ Some other → IsPlace s → is_some (path_names path) ≡ true → is_some (path_names clone_path) ≡ true
      → walk other clone_path ≡ Ok source_ino → is_file other source_ino ≡ true → (len == 0) ≡ false → nat_lt (length (cells_of other source_ino)) (from + len) ≡ false
      → is_aligned off from len (length (cells_of other source_ino)) ≡ true → nat_le (off + len) greatest_end ≡ true → own && (source_ino == ino) ≡ false
      → cloned s source own (clone_values path off clone_path from len) ≡ Ok (record { ino = ino; cells = take len (drop from (cells_of other source_ino)) })
  unfolding cloned
  clone_made off clone_path from len source_ino source other s own e p n n' w f some within aligned fits apart = rw (e, n, n', p.walked, p.file, w, f, some, within, aligned, fits, apart) refl

  clone_step : (s : Subvolume ℕ) (off : ℕ) (key : Key) (clone_path : List ℕ) (from len : ℕ) (t : Subvolume ℕ)
      → clone 0 s (clone_source u (record { key = new; subvolume = s }) key) (bytes_eq key.uuid new.uuid) (clone_values path off clone_path from len) ≡ Ok t
      → Takes (state_of s) (Clone path off key.uuid key.ctransid clone_path from len ∷ []) (state_of t)
  unfolding step step_edit edit_part
  clone_step s off key clone_path from len t e =
      let part : Part ℕ = record { key = new; subvolume = s } in
      let E : Result (Subvolume ℕ) Refusal → Type 0 = λ x. ((edited u part x).refusal ≡ None) × ((edited u part x).state ≡ state_of t) in
      let at : E (Ok t) = (refl, refl) in
      subst E (sym e) at

  clone_run : (off : ℕ) (key : Key) (clone_path : List ℕ) (from len source_ino : ℕ) (other s : Subvolume ℕ) (own : Bool) → clone_source u (record { key = new; subvolume = s }) key ≡ Some other → bytes_eq key.uuid new.uuid ≡ own
      → IsPlace s → is_some (path_names path) ≡ true → is_some (path_names clone_path) ≡ true
      → walk other clone_path ≡ Ok source_ino → is_file other source_ino ≡ true → (len == 0) ≡ false → nat_lt (length (cells_of other source_ino)) (from + len) ≡ false
      → is_aligned off from len (length (cells_of other source_ino)) ≡ true → nat_le (off + len) greatest_end ≡ true → own && (source_ino == ino) ≡ false
      → Takes (state_of s) (Clone path off key.uuid key.ctransid clone_path from len ∷ []) (state_of (change_inode ino (set_cells (overwritten 0 off (take len (drop from (cells_of other source_ino))))) s))
  unfolding clone
  clone_run off key clone_path from len source_ino other s own at is_own p n n' w file some within aligned fits apart =
      let source = clone_source u (record { key = new; subvolume = s }) key in
      let made = clone_made off clone_path from len source_ino source other s own at p n n' w file some within aligned fits apart in
      clone_step s off key clone_path from len _
      (ap (λ (b : Bool). clone 0 s source b (clone_values path off clone_path from len)) is_own
      ∙ ap (λ (r : Result (Cloned ℕ) Refusal). r >>= λ range. Ok (change_inode range.ino (set_cells (overwritten 0 off range.cells)) s)) made)

  pub overwritten_put : (off : ℕ) (bytes : List ℕ) (s : Subvolume ℕ) → 1 ≤ length bytes → change_inode ino (set_cells (overwritten 0 off bytes)) s ≡ put_bytes off bytes s
  unfolding written_at
  overwritten_put off [] s some = absurd (omega (arith, some))
  overwritten_put off (b ∷ bytes) s some = refl

  -- ---- all pieces

  module _ (store : Store ℕ) (keys : List Key) (offset : ℕ) (even : offset % 4096 ≡ 0) (names : is_some (path_names path) ≡ true) where
    taken_len : (place : Place) (len : ℕ) (h : Serves store keys place len) → length (bytes_at store keys place len h) ≡ len
    taken_len place len h = let within = h.within in let some = h.some in omega (arith, within, some, length-take len (drop place.offset (cells_of h.source place.ino)), length-drop place.offset (cells_of h.source place.ino))

    fits_first : (off : ℕ) (a b : List ℕ) → Fits off (a ++ b) → Fits off a
    fits_first off [] b f = tt
    fits_first off (x ∷ a) b f = λ k l. f k (omega (arith, l, length-append (x ∷ a) b))

    fits_rest : (off : ℕ) (a b : List ℕ) → Fits off (a ++ b) → Fits (off + length a) b
    fits_rest off [] [] f = tt
    fits_rest off [] (y ∷ b) f = λ k l. f k (omega (arith, l))
    fits_rest off (x ∷ a) [] f = tt
    fits_rest off (x ∷ a) (y ∷ b) f = λ k l. f k (omega (arith, l, length-append (x ∷ a) (y ∷ b)))

    fits_all : (off : ℕ) (a : List ℕ) → 1 ≤ length a → Fits off a → nat_le (off + length a) greatest_end ≡ true
    fits_all off [] some f = absurd (omega (arith, some))
    fits_all off (x ∷ a) some f = f (off + length (x ∷ a)) (omega arith)

    -- A clone from a place that has the bytes, wherever that is.
    pub any_run : (at : ℕ) (place : Place) (len : ℕ) (s other : Subvolume ℕ) (own : Bool) (h : Serves store keys place len)
        → clone_source u (record { key = new; subvolume = s }) place.key ≡ Some other → bytes_eq place.key.uuid new.uuid ≡ own → own && (place.ino == ino) ≡ false
        → walk other (path_of store place) ≡ Ok place.ino → is_some (path_names (path_of store place)) ≡ true → is_file other place.ino ≡ true → cells_of other place.ino ≡ cells_of h.source place.ino
        → at % 4096 ≡ 0 → IsPlace s → nat_le (offset + at + len) greatest_end ≡ true
        → Takes (state_of s) (Clone path (offset + at) place.key.uuid place.key.ctransid (path_of store place) place.offset len ∷ []) (state_of (put_bytes (offset + at) (bytes_at store keys place len h) s))
    any_run at place len s other own h there is_own apart leads is_path file cells even_at p fits =
        let size : ℕ = length (cells_of other place.ino) in
        let same : size ≡ length (cells_of h.source place.ino) = ap length cells in
        let within = h.within in
        let some = h.some in
        let not_none : (len == 0) ≡ false = one len some in
        let off_even : ((offset + at) % block_len == 0) ≡ true = eq-eqb ((offset + at) % block_len) 0 (omega (arith, even, even_at)) in
        let from_even : (place.offset % block_len == 0) ≡ true = eq-eqb (place.offset % block_len) 0 h.start in
        let ends : ((len % block_len == 0) || (place.offset + len == size)) ≡ true = elim h.ends [
          | inl whole ↦ rw (eq-eqb (len % block_len) 0 whole) refl
          | inr end ↦ or_true (len % block_len == 0) (place.offset + len == size) (eq-eqb (place.offset + len) size (end ∙ sym same))
        ] in
        let aligned : is_aligned (offset + at) place.offset len size ≡ true = rw (off_even, from_even, ends) refl in
        let made = clone_run (offset + at) place.key (path_of store place) place.offset len place.ino other s own there is_own p names is_path leads file not_none (le-ltb size (place.offset + len) (omega (arith, within, same))) aligned fits apart in
        let bytes : take len (drop place.offset (cells_of other place.ino)) ≡ bytes_at store keys place len h = ap (λ (xs : List ℕ). take len (drop place.offset xs)) cells in
        let long : 1 ≤ length (bytes_at store keys place len h) = omega (arith, some, within, length-take len (drop place.offset (cells_of h.source place.ino)), length-drop place.offset (cells_of h.source place.ino)) in
        subst (λ (t : Subvolume ℕ). Takes (state_of s) (Clone path (offset + at) place.key.uuid place.key.ctransid (path_of store place) place.offset len ∷ []) (state_of t))
        (ap (λ (xs : List ℕ). change_inode ino (set_cells (overwritten 0 (offset + at) xs)) s) bytes ∙ overwritten_put (offset + at) (bytes_at store keys place len h) s long) made
      where
        one : (n : ℕ) → 1 ≤ n → (n == 0) ≡ false
        one n h = by (n == 0) refl
          where
            by : (b : Bool) → (n == 0) ≡ b → b ≡ false
            by true e = absurd (let z : n ≡ 0 = eqb-true n 0 e in omega (arith, h, z))
            by false e = refl

        or_true : (a b : Bool) → b ≡ true → (a || b) ≡ true
        or_true true b e = refl
        or_true false b e = e

    -- A clone from outside.
    module _ (agree : (key : Key) (s : Subvolume ℕ) → IsAmong key keys → find store key ≡ Some s → (find u key ≡ Some s) × (bytes_eq key.uuid new.uuid ≡ false))
        (leads : (place : Place) (s : Subvolume ℕ) → IsAmong place.key keys → find store place.key ≡ Some s → is_nameable s place.ino ≡ true → (walk s (path_of store place) ≡ Ok place.ino) × (is_some (path_names (path_of store place)) ≡ true)) where
      pub carried_run : (at : ℕ) (place : Place) (len : ℕ) (s : Subvolume ℕ) → (h : Serves store keys place len) → at % 4096 ≡ 0 → IsPlace s → nat_le (offset + at + len) greatest_end ≡ true
          → Takes (state_of s) (Clone path (offset + at) place.key.uuid place.key.ctransid (path_of store place) place.offset len ∷ []) (state_of (put_bytes (offset + at) (bytes_at store keys place len h) s))
      carried_run at place len s h even_at p fits =
          let way = leads place h.source h.among h.found h.nameable in
          let there = agree place.key h.source h.among h.found in
          let from : clone_source u (record { key = new; subvolume = s }) place.key ≡ Some h.source = ap (λ (b : Bool). if b then Some s else find u place.key) there.1 ∙ there.0 in
          any_run at place len s h.source false h from there.1 refl way.0 way.1 h.file refl even_at p fits

    -- A clone from another file of the part itself, of which the cells and the way to it are as
    -- they were.
    pub own_run : (at : ℕ) (place : Place) (len : ℕ) (s : Subvolume ℕ) → (h : Serves store keys place len) → bytes_eq place.key.uuid new.uuid ≡ true → (place.ino == ino) ≡ false
        → walk s (path_of store place) ≡ Ok place.ino → is_some (path_names (path_of store place)) ≡ true → is_file s place.ino ≡ true → cells_of s place.ino ≡ cells_of h.source place.ino
        → at % 4096 ≡ 0 → IsPlace s → nat_le (offset + at + len) greatest_end ≡ true
        → Takes (state_of s) (Clone path (offset + at) place.key.uuid place.key.ctransid (path_of store place) place.offset len ∷ []) (state_of (put_bytes (offset + at) (bytes_at store keys place len h) s))
    own_run at place len s h own apart leads is_path file cells even_at p fits =
        let from : clone_source u (record { key = new; subvolume = s }) place.key ≡ Some s = ap (λ (b : Bool). if b then Some s else find u place.key) own in
        any_run at place len s s true h from own apart leads is_path file cells even_at p fits

    -- All pieces, where it is given what stays through them, and that a clone from each place puts
    -- the bytes there.
    module _ (Still : Subvolume ℕ → Type 0) (stays : (at : ℕ) (bytes : List ℕ) (s : Subvolume ℕ) → IsPlace s → Still s → Still (put_bytes at bytes s)) (May : Place → Type 0)
        (cloned_run : (at : ℕ) (place : Place) (len : ℕ) (s : Subvolume ℕ) (h : Serves store keys place len) → May place → at % 4096 ≡ 0 → IsPlace s → Still s → nat_le (offset + at + len) greatest_end ≡ true
        → Takes (state_of s) (Clone path (offset + at) place.key.uuid place.key.ctransid (path_of store place) place.offset len ∷ []) (state_of (put_bytes (offset + at) (bytes_at store keys place len h) s))) where
      pub pieces_run : (at : ℕ) (ps : List Piece) (bytes : List ℕ) (s : Subvolume ℕ) → Covers store keys at ps bytes → AllByRecursion (MayClone May) ps → IsPlace s → Still s → Fits (offset + at) bytes
          → Takes (state_of s) (flat_map (piece_commands store path offset) ps) (state_of (put_bytes (offset + at) bytes s))
      pieces_run at [] bytes s c m p q f = let t : (r : List ℕ) → r ≡ [] → put_bytes (offset + at) r s ≡ s = λ r e. ap (λ (x : List ℕ). put_bytes (offset + at) x s) e in ap state_of (sym (t bytes c))
      pieces_run at (Literal here own ∷ ps) bytes s c m p q f =
          let rest : List ℕ = c.1 in
          let g : Fits (offset + at) (own ++ rest) = subst (λ (r : List ℕ). Fits (offset + at) r) c.2 f in
          let s1 : Subvolume ℕ = put_bytes (offset + at) own s in
          let p1 = put_stays (offset + at) own s p in
          let q1 : Still s1 = stays (offset + at) own s p q in
          let first : Takes (state_of s) (writes_from (length own) path (offset + at) own) (state_of s1) =
          subst (λ (cs : List Command). Takes (state_of s) cs (state_of s1)) (sym (chunked 49151 (length own) (offset + at) own refl)) (chunks_run 49151 (length own) (offset + at) own s (omega arith) p (fits_first (offset + at) own rest g)) in
          let e : offset + (at + length own) ≡ offset + at + length own = omega arith in
          let more = pieces_run (at + length own) ps rest s1 c.3 m.1 p1 q1 (subst (λ (k : ℕ). Fits k rest) (sym e) (fits_rest (offset + at) own rest g)) in
          let ended : put_bytes (offset + (at + length own)) rest s1 ≡ put_bytes (offset + at) bytes s = ap (λ (k : ℕ). put_bytes k rest s1) e ∙ put_twice (offset + at) own rest s p ∙ ap (λ (r : List ℕ). put_bytes (offset + at) r s) (sym c.2) in
          subst (λ (h : ℕ). Takes (state_of s) (writes_from (length own) path (offset + h) own ++ flat_map (piece_commands store path offset) ps) (state_of (put_bytes (offset + at) bytes s))) (sym c.0)
          (subst (λ (t : Subvolume ℕ). Takes (state_of s) (writes_from (length own) path (offset + at) own ++ flat_map (piece_commands store path offset) ps) (state_of t)) ended
          (Takes-append (writes_from (length own) path (offset + at) own) (flat_map (piece_commands store path offset) ps) (state_of s) (state_of s1) _ first more))
      pieces_run at (Carried here place len ∷ ps) bytes s c m p q f =
          let own : List ℕ = bytes_at store keys place len c.2 in
          let rest : List ℕ = c.3 in
          let size : length own ≡ len = taken_len place len c.2 in
          let some : 1 ≤ length own = let q = c.2.some in omega (arith, q, size) in
          let g : Fits (offset + at) (own ++ rest) = subst (λ (r : List ℕ). Fits (offset + at) r) c.4 f in
          let s1 : Subvolume ℕ = put_bytes (offset + at) own s in
          let p1 = put_stays (offset + at) own s p in
          let q1 : Still s1 = stays (offset + at) own s p q in
          let fits : nat_le (offset + at + len) greatest_end ≡ true = subst (λ (k : ℕ). nat_le (offset + at + k) greatest_end ≡ true) size (fits_all (offset + at) own some (fits_first (offset + at) own rest g)) in
          let first = cloned_run at place len s c.2 m.0 c.1 p q fits in
          let e : offset + (at + len) ≡ offset + at + length own = omega (arith, size) in
          let more = pieces_run (at + len) ps rest s1 c.5 m.1 p1 q1 (subst (λ (k : ℕ). Fits k rest) (sym e) (fits_rest (offset + at) own rest g)) in
          let ended : put_bytes (offset + (at + len)) rest s1 ≡ put_bytes (offset + at) bytes s = ap (λ (k : ℕ). put_bytes k rest s1) e ∙ put_twice (offset + at) own rest s p ∙ ap (λ (r : List ℕ). put_bytes (offset + at) r s) (sym c.4) in
          let cs : List Command = flat_map (piece_commands store path offset) ps in
          subst (λ (h : ℕ). Takes (state_of s) (Clone path (offset + h) place.key.uuid place.key.ctransid (path_of store place) place.offset len ∷ cs) (state_of (put_bytes (offset + at) bytes s))) (sym c.0)
          (subst (λ (t : Subvolume ℕ). Takes (state_of s) (Clone path (offset + at) place.key.uuid place.key.ctransid (path_of store place) place.offset len ∷ cs) (state_of t)) ended
          (Takes-append (Clone path (offset + at) place.key.uuid place.key.ctransid (path_of store place) place.offset len ∷ []) cs (state_of s) (state_of s1) _ first more))
