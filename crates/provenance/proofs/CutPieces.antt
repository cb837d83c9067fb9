-- What a range is cut into is what the definitions of provenance cut it into, where the ends of
-- outside files are those of a store.
use Rattle.std.specs.Prelude.{◌≡◌, ℕ, zero, suc, ◌+◌, ◌%◌, ◌==◌, Bool, true, false, ◌&&◌, ◌||◌, List, [], ◌∷◌, map, length, take, drop, Option, None, Some, if◌then◌else◌}
use Rattle.std.proofs.Common.{refl, sym, ap, ap₂, ◌∙◌, arith, length-append}
use Rattle.std.proofs.lemmas.List.{length-map, take-map, drop-map}
use Rattle.send_model.specs.Subvolume.{Subvolume, is_file, is_nameable}
use Rattle.send_model.specs.Clone.{block_len, cells_of}
use Rattle.send_model.specs.Store.{Key, Store, find}
use Rattle.send_model.specs.Provenance.{Place, Traced, same_place, is_at, next_place, come_from, can_serve, carried_from, Piece, Carried, Literal, piece_of, place_after, join_piece, pieces_from, pieces_of, blocks_from, blocks}
use Rattle.provenance.specs.Cuts.{file_end, AreEndsOf, succeed, may_serve, carrier, Cut, Run, Rest, cut_of, join_cut, cuts_from, cuts_of, shown}

places : List Traced → List (Option Place)
places cells = map (λ (c : Traced). c.place) cells

come_succeed : (place : Place) (cells : List Traced) → succeed place (places cells) ≡ come_from place cells
unfolding places
come_succeed place [] = refl
come_succeed place (c ∷ cells) = ap (λ (b : Bool). is_at c.place place && b) (come_succeed (next_place place) cells)

can_may : (o : Option (Subvolume ℕ)) (place : Place) (len : ℕ) → may_serve (file_end o place.ino) place len ≡ can_serve o place len
can_may None place len = refl
can_may (Some s) place len = one (is_file s place.ino && is_nameable s place.ino)
  where
    one : (b : Bool) → may_serve (if b then Some (length (cells_of s place.ino)) else None) place len ≡ (place.offset % block_len == 0) && b && ((len == block_len) || (place.offset + len == length (cells_of s place.ino)))
    one true = two (place.offset % block_len == 0) ((len == block_len) || (place.offset + len == length (cells_of s place.ino)))
      where
        two : (x y : Bool) → x && y ≡ (x && true) && y
        two true y = refl
        two false y = refl
    one false = two (place.offset % block_len == 0) ((len == block_len) || (place.offset + len == length (cells_of s place.ino)))
      where
        two : (x y : Bool) → false ≡ (x && false) && y
        two true y = refl
        two false y = refl

module _ (store : Store ℕ) (ends : Key → ℕ → Option ℕ) (right : AreEndsOf store ends) where
  carrier_is : (block : List Traced) → carrier ends (places block) ≡ carried_from store block
  unfolding carrier carried_from places
  carrier_is [] = refl
  carrier_is (c ∷ cells) = one c.place refl
    where
      one : (o : Option Place) → c.place ≡ o → carrier ends (o ∷ places cells)
          ≡ (elim o as (λ x. Option Place) [ None ↦ None | Some p ↦ if come_from p (c ∷ cells) && can_serve (find store p.key) p (length (c ∷ cells)) then Some p else None ])
      one None e = refl
      one (Some p) e =
          let come : succeed p (Some p ∷ places cells) ≡ come_from p (c ∷ cells) = ap (λ (o : Option Place). succeed p (o ∷ places cells)) (sym e) ∙ come_succeed p (c ∷ cells) in
          let long : length (Some p ∷ places cells) ≡ length (c ∷ cells) = ap suc (length-map cells (λ (d : Traced). d.place)) in
          let can : may_serve (ends p.key p.ino) p (length (Some p ∷ places cells)) ≡ can_serve (find store p.key) p (length (c ∷ cells)) =
          ap₂ (λ (o : Option ℕ) (n : ℕ). may_serve o p n) (right p.key p.ino) long ∙ can_may (find store p.key) p (length (c ∷ cells)) in
          ap₂ (λ (a b : Bool). if a && b then Some p else None) come can

  -- The shown pieces of a block before others.
  shown_piece : (from at : ℕ) (block : List Traced) → cut_of ends (from + at) (places block) ≡ shown from (piece_of store at block)
  unfolding places
  shown_piece from at block = one (carrier ends (places block)) (carried_from store block) (carrier_is block) (length-map block (λ (c : Traced). c.place))
    where
      one : (o q : Option Place) → o ≡ q → length (places block) ≡ length block → (elim o as (λ x. Cut) [ None ↦ Rest (from + at) (length (places block)) | Some place ↦ Run place (length (places block)) ])
          ≡ shown from (elim q as (λ x. Piece) [ None ↦ Literal at (map (λ c. c.byte) block) | Some place ↦ Carried at place (length block) ])
      one o None e l = ap₂ (λ (x : Option Place) (n : ℕ). elim x as (λ y. Cut) [ None ↦ Rest (from + at) n | Some place ↦ Run place n ]) e (l ∙ sym (length-map block (λ (c : Traced). c.byte)))
      one o (Some place) e l = ap₂ (λ (x : Option Place) (n : ℕ). elim x as (λ y. Cut) [ None ↦ Rest (from + at) n | Some p ↦ Run p n ]) e l

  shown_join : (from : ℕ) (piece : Piece) (pieces : List Piece) → join_cut (shown from piece) (map (shown from) pieces) ≡ map (shown from) (join_piece piece pieces)
  unfolding join_cut
  shown_join from (Literal at bytes) [] = refl
  shown_join from (Literal at bytes) (Literal at' bytes' ∷ pieces) = ap (λ (n : ℕ). Rest (from + at) n ∷ map (shown from) pieces) (sym (length-append bytes bytes'))
  shown_join from (Literal at bytes) (Carried at' place' len' ∷ pieces) = refl
  shown_join from (Carried at place len) [] = refl
  shown_join from (Carried at place len) (Literal at' bytes' ∷ pieces) = refl
  shown_join from (Carried at place len) (Carried at' place' len' ∷ pieces) = one (same_place (place_after place len) place')
    where
      one : (b : Bool) → (if b then Run place (len + len') ∷ map (shown from) pieces else Run place len ∷ Run place' len' ∷ map (shown from) pieces)
          ≡ map (shown from) (if b then Carried at place (len + len') ∷ pieces else Carried at place len ∷ Carried at' place' len' ∷ pieces)
      one true = refl
      one false = refl

  shown_from : (from at : ℕ) (bs : List (List Traced)) → cuts_from ends (from + at) (map places bs) ≡ map (shown from) (pieces_from store at bs)
  unfolding places
  shown_from from at [] = refl
  shown_from from at (b ∷ bs) =
      let e : from + at + length (places b) ≡ from + (at + length b) = omega (arith, length-map b (λ (c : Traced). c.place)) in
      ap₂ join_cut (shown_piece from at b) (ap (λ (n : ℕ). cuts_from ends n (map places bs)) e ∙ shown_from from (at + length b) bs)
      ∙ shown_join from (piece_of store at b) (pieces_from store (at + length b) bs)

  blocks_places : (n : ℕ) (cells : List Traced) → blocks_from n (places cells) ≡ map places (blocks_from n cells)
  unfolding places
  blocks_places zero cells = refl
  blocks_places (suc n) [] = refl
  blocks_places (suc n) (c ∷ cells) =
      ap₂ (λ (b : List (Option Place)) (r : List (Option Place)). b ∷ blocks_from n r) (take-map (λ (d : Traced). d.place) block_len (c ∷ cells)) (drop-map (λ (d : Traced). d.place) block_len (c ∷ cells))
      ∙ ap (λ (r : List (List (Option Place))). map (λ (d : Traced). d.place) (take block_len (c ∷ cells)) ∷ r) (blocks_places n (drop block_len (c ∷ cells)))

  pub cuts_are_pieces : (from : ℕ) (range : List Traced) → cuts_of ends from (map (λ (c : Traced). c.place) range) ≡ map (shown from) (pieces_of store range)
  unfolding cuts_of pieces_of blocks places
  cuts_are_pieces from range =
      let start : from ≡ from + 0 = omega arith in
      ap₂ (λ (n k : ℕ). cuts_from ends n (blocks_from k (places range))) start (length-map range (λ (c : Traced). c.place))
      ∙ ap (cuts_from ends (from + 0)) (blocks_places (length range) range)
      ∙ shown_from from 0 (blocks_from (length range) range)
