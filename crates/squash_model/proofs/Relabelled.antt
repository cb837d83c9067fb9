-- Commands whose bytes say the births: a run over bytes is then a run over births. And squashed
-- commands have them in order.
use Rattle.std.specs.Prelude.{◌≡◌, ℕ, ◌+◌, ◌-◌, ◌==◌, T, Bool, true, false, not, ◌&&◌, List, [], ◌∷◌, ◌++◌, map, length, Option, None, Some, nat_lt, if◌then◌else◌}
use Rattle.std.specs.List.{range_with_len}
use Rattle.std.specs.Option.{option_map}
use Rattle.std.proofs.Common.{refl, sym, ap, ap₂, subst, ◌∙◌, arith}
use Rattle.std.proofs.lemmas.Bool.{and_parts}
use Rattle.std.proofs.lemmas.List.{length-map}
use Rattle.std.proofs.lemmas.List.FromFn.{length-range_with_len}
use Rattle.std.proofs.lemmas.List.Sums.{sum_by-cons}
use Rattle.send_model.specs.Command.{Command, Write, Truncate}
use Rattle.send_model.specs.Edit.{edit}
use Rattle.send_model.specs.Store.{Part, State, Stepped, step, step_edit, edit_part}
use Rattle.send_model.specs.Receive.{bytes_of}
use Rattle.send_model.specs.Counts.{literal}
use Rattle.send_model.specs.Cells.{recelled_part, recelled_state, recelled_step}
use Rattle.send_model.specs.Separated.{LeadTo}
use Rattle.send_model.proofs.CellMaps.{reinode}
use Rattle.send_model.proofs.CellClones.{all_steps-cells}
use Rattle.squash_model.specs.Squashed.{Birth, births_from, born_step, born_by, Stretch, in_front, stretches, all_stand, write_of, lengthened, write_commands, size_at, squash_for, squashed_from}
use Rattle.squash_model.proofs.SquashedRuns.{keys_sorted, IsOrderedPart, KeepsOrder}
use Rattle.squash_model.proofs.CountedSquash.{one_if, how_many, many_both, command_literal}
use Rattle.squash_model.proofs.SameSquash.{BornTakes, blank_byte, blank_birth, blanks}

-- ---- bytes that say births

module _ (label : ℕ → ℕ) where
  abbrev pub labels : ℕ → ℕ → List ℕ
  labels count n = map label (range_with_len count n)

  abbrev pub relabel : ℕ → Command → Command
  relabel count (Write path offset bytes) = Write path offset (labels count (length bytes))
  relabel count c = c

  abbrev pub relabelled : ℕ → List Command → List Command
  relabelled count [] = []
  relabelled count (c ∷ cs) = relabel count c ∷ relabelled (count + length (bytes_of c)) cs

  abbrev pub said : Birth → ℕ
  said None = 0
  said (Some birth) = label birth

  labels_len : (count n : ℕ) → length (labels count n) ≡ n
  labels_len count n = length-map (range_with_len count n) label ∙ length-range_with_len count n

  pub relabel_len : (count : ℕ) (c : Command) → length (bytes_of (relabel count c)) ≡ length (bytes_of c)
  relabel_len count (Write path offset bytes) = labels_len count (length bytes)
  relabel_len count c = refl

  said_births : (count : ℕ) (bytes : List ℕ) → map said (births_from count bytes) ≡ labels count (length bytes)
  said_births count [] = refl
  said_births count (b ∷ bytes) = ap (λ (r : List ℕ). label count ∷ r) (said_births (count + 1) bytes)

  -- What stands in a WRITE is not looked at, but what is put.
  same_write : {C : Type 0} (z : C) (put : List C) (state : State C) (path : List ℕ) (offset : ℕ) (a b : List ℕ) → step z put state (Write path offset a) ≡ step z put state (Write path offset b)
  unfolding step step_edit edit_part edit
  same_write z put state path offset a b = refl

  said_step : (count : ℕ) (state : State Birth) (c : Command)
      → step 0 (bytes_of (relabel count c)) (recelled_state said state) (relabel count c) ≡ recelled_step said (born_step count state c)
  said_step count state (Write path offset bytes) =
      same_write 0 (labels count (length bytes)) (recelled_state said state) path offset (labels count (length bytes)) bytes
      ∙ ap (λ (put : List ℕ). step 0 put (recelled_state said state) (Write path offset bytes)) (sym (said_births count bytes))
      ∙ all_steps-cells said (Write path offset bytes) None (births_from count bytes) state
  said_step count state c = all_steps-cells said c None [] state

  pub said_leads : (cs : List Command) (count : ℕ) (state : State Birth) → BornTakes count state cs → LeadTo (recelled_state said state) (relabelled count cs) (recelled_state said (born_by count state cs))
  unfolding born_by BornTakes
  said_leads [] count state t = refl
  said_leads (c ∷ cs) count state (taken, t) =
      let next : Stepped Birth = born_step count state c in
      let is = said_step count state c in
      let more = said_leads cs (count + length (bytes_of c)) next.state t in
      let end : State ℕ = recelled_state said (born_by (count + length (bytes_of c)) next.state cs) in
      (ap (λ (x : Stepped ℕ). x.refusal) is ∙ taken, subst (λ (x : State ℕ). LeadTo x (relabelled (count + length (bytes_of c)) cs) end) (sym (ap (λ (x : Stepped ℕ). x.state) is)) more)

  -- The births are the same.
  same_births : (count : ℕ) (a b : List ℕ) → length a ≡ length b → births_from count a ≡ births_from count b
  same_births count [] [] e = refl
  same_births count [] (y ∷ b) e = absurd (omega (arith, e))
  same_births count (x ∷ a) [] e = absurd (omega (arith, e))
  same_births count (x ∷ a) (y ∷ b) e = ap (λ (r : List Birth). Some count ∷ r) (same_births (count + 1) a b (omega (arith, e)))

  same_born : (count : ℕ) (state : State Birth) (c : Command) → born_step count state (relabel count c) ≡ born_step count state c
  same_born count state (Write path offset bytes) =
      same_write None (births_from count (labels count (length bytes))) state path offset (labels count (length bytes)) bytes
      ∙ ap (λ (put : List Birth). step None put state (Write path offset bytes)) (same_births count (labels count (length bytes)) bytes (labels_len count (length bytes)))
  same_born count state c = refl

  pub born_alike : (cs : List Command) (count : ℕ) (state : State Birth) → born_by count state (relabelled count cs) ≡ born_by count state cs
  unfolding born_by
  born_alike [] count state = refl
  born_alike (c ∷ cs) count state =
      ap₂ (λ (n : ℕ) (s : State Birth). born_by n s (relabelled (count + length (bytes_of c)) cs)) (ap (λ (n : ℕ). count + n) (relabel_len count c)) (ap (λ (x : Stepped Birth). x.state) (same_born count state c))
      ∙ born_alike cs (count + length (bytes_of c)) (born_step count state c).state

  -- The inodes of parts are in order, as they were.
  blank_ordered : (a : State ℕ) (b : State Birth) → recelled_state blank_byte a ≡ recelled_state blank_birth b → IsOrderedPart a.part → IsOrderedPart (recelled_state said b).part
  blank_ordered a b e o = to b.part (subst (λ (s : State ℕ). IsOrderedPart s.part) e (from a.part o))
    where
      from : (p : Option (Part ℕ)) → IsOrderedPart p → IsOrderedPart (option_map (recelled_part blank_byte) p)
      from None h = tt
      from (Some part) h = subst (λ (t : Bool). T t) (sym (keys_sorted (reinode blank_byte) part.subvolume.inodes)) h

      to : (p : Option (Part Birth)) → IsOrderedPart (option_map (recelled_part blank_birth) p) → IsOrderedPart (option_map (recelled_part said) p)
      to None h = tt
      to (Some part) h = subst (λ (t : Bool). T t) (keys_sorted (reinode blank_birth) part.subvolume.inodes ∙ sym (keys_sorted (reinode said) part.subvolume.inodes)) h

  pub said_order : (cs : List Command) (count : ℕ) (a : State ℕ) (b : State Birth) → recelled_state blank_byte a ≡ recelled_state blank_birth b → KeepsOrder a cs → KeepsOrder (recelled_state said b) (relabelled count cs)
  said_order [] count a b e k = tt
  said_order (c ∷ cs) count a b e (o, k) =
      let plain : Stepped ℕ = step 0 (bytes_of c) a c in
      let next : Stepped Birth = born_step count b c in
      let same : recelled_step blank_byte plain ≡ recelled_step blank_birth next =
      sym (all_steps-cells blank_byte c 0 (bytes_of c) a)
      ∙ ap₂ (λ (put : List ℕ) (s : State ℕ). step 0 put s c) (blanks count (bytes_of c)) e
      ∙ all_steps-cells blank_birth c None (births_from count (bytes_of c)) b in
      let more = said_order cs (count + length (bytes_of c)) plain.state next.state (ap (λ (x : Stepped ℕ). x.state) same) k in
      (blank_ordered a b e o, subst (λ (x : State ℕ). KeepsOrder x (relabelled (count + length (bytes_of c)) cs)) (sym (ap (λ (x : Stepped ℕ). x.state) (said_step count b c))) more)

-- ---- squashed commands have them in order

abbrev pub one_more : ℕ → ℕ
one_more n = n + 1

module _ (standing : ℕ → Bool) where
  -- How many bytes before a birth stand.
  abbrev pub rank : ℕ → ℕ
  rank birth = how_many standing 0 birth

  abbrev pub ranked : ℕ → ℕ
  ranked birth = rank birth + 1

  rank_more : (count n : ℕ) → rank (count + n) ≡ rank count + how_many standing count n
  rank_more count n = many_both standing 0 count n ∙ (let z : 0 + count ≡ count = omega arith in ap (λ (k : ℕ). rank count + how_many standing k n) z)

  pub rank_next : (count : ℕ) (t : Bool) → standing count ≡ t → rank (count + 1) ≡ rank count + one_if t
  rank_next count t e =
      let one : how_many standing count 1 ≡ one_if (standing count) = sum_by-cons (λ b. one_if (standing b)) count [] ∙ (let z : how_many standing (count + 1) 0 ≡ 0 = refl in omega (arith, z)) in
      rank_more count 1 ∙ ap (λ (k : ℕ). rank count + k) (one ∙ ap one_if e)

  abbrev numbered : ℕ → List Stretch → List Stretch
  numbered k [] = []
  numbered k (s ∷ ss) = record { at = s.at; bytes = labels one_more k (length s.bytes) } ∷ numbered (k + length s.bytes) ss

  front_numbered : (at b k : ℕ) (ss : List Stretch) → in_front at (k + 1) (numbered (k + 1) ss) ≡ numbered k (in_front at b ss)
  front_numbered at b k [] = refl
  front_numbered at b k (f ∷ rest) = one (f.at == at + 1)
    where
      first : Stretch
      first = record { at = f.at; bytes = labels one_more (k + 1) (length f.bytes) }

      one : (t : Bool) → (if t then record { at = at; bytes = (k + 1) ∷ first.bytes } ∷ numbered (k + 1 + length f.bytes) rest else record { at = at; bytes = (k + 1) ∷ [] } ∷ first ∷ numbered (k + 1 + length f.bytes) rest)
          ≡ numbered k (if t then record { at = at; bytes = b ∷ f.bytes } ∷ rest else record { at = at; bytes = b ∷ [] } ∷ f ∷ rest)
      one true = let e : k + 1 + length f.bytes ≡ k + length (b ∷ f.bytes) = omega arith in
          ap (λ (n : ℕ). record { at = at; bytes = (k + 1) ∷ labels one_more (k + 1) (length f.bytes) } ∷ numbered n rest) e
      one false = refl

  stretches_numbered : (count at : ℕ) (bytes : List ℕ) → stretches standing count at (labels ranked count (length bytes)) ≡ numbered (rank count) (stretches standing count at bytes)
  stretches_numbered count at [] = refl
  stretches_numbered count at (b ∷ bytes) = one (standing count) refl (stretches_numbered (count + 1) (at + 1) bytes)
    where
      rest : List Stretch
      rest = stretches standing (count + 1) (at + 1) bytes

      labelled : List Stretch
      labelled = stretches standing (count + 1) (at + 1) (labels ranked (count + 1) (length bytes))

      one : (t : Bool) → standing count ≡ t → labelled ≡ numbered (rank (count + 1)) rest
          → (if t then in_front at (rank count + 1) labelled else labelled) ≡ numbered (rank count) (if t then in_front at b rest else rest)
      one true e more =
          ap (in_front at (rank count + 1)) (more ∙ ap (λ (k : ℕ). numbered k rest) (rank_next count true e)) ∙ front_numbered at b (rank count) rest
      one false e more = more ∙ ap (λ (k : ℕ). numbered k rest) (rank_next count false e ∙ (omega arith))

  stand_alike : (count : ℕ) (a b : List ℕ) → length a ≡ length b → all_stand standing count a ≡ all_stand standing count b
  stand_alike count [] [] e = refl
  stand_alike count [] (y ∷ b) e = absurd (omega (arith, e))
  stand_alike count (x ∷ a) [] e = absurd (omega (arith, e))
  stand_alike count (x ∷ a) (y ∷ b) e = ap (λ (t : Bool). standing count && t) (stand_alike (count + 1) a b (omega (arith, e)))

  -- Where all stand, they are in order.
  all_ordered : (count : ℕ) (bytes : List ℕ) → all_stand standing count bytes ≡ true → labels ranked count (length bytes) ≡ labels one_more (rank count) (length bytes)
  all_ordered count [] h = refl
  all_ordered count (b ∷ bytes) h =
      let p = and_parts (standing count) (all_stand standing (count + 1) bytes) h in
      ap (λ (r : List ℕ). (rank count + 1) ∷ r) (all_ordered (count + 1) bytes p.1 ∙ ap (λ (k : ℕ). labels one_more k (length bytes)) (rank_next count true p.0))

  -- The commands of stretches, and those behind them.
  writes_numbered : (path : List ℕ) (k : ℕ) (ss : List Stretch) (rest : List Command) → ((n : ℕ) → relabelled one_more n rest ≡ rest)
      → map (write_of path) (numbered k ss) ++ rest ≡ relabelled one_more k (map (write_of path) ss ++ rest)
  writes_numbered path k [] rest same = sym (same k)
  writes_numbered path k (s ∷ ss) rest same = ap (λ (cs : List Command). Write path s.at (labels one_more k (length s.bytes)) ∷ cs) (writes_numbered path (k + length s.bytes) ss rest same)

  lengthened_same : (last : Bool) (size end : ℕ) (path : List ℕ) (n : ℕ) → relabelled one_more n (lengthened last size end path) ≡ lengthened last size end path
  lengthened_same last size end path n = one (nat_lt size end && not last)
    where
      one : (t : Bool) → relabelled one_more n (if t then Truncate end path ∷ [] else []) ≡ (if t then Truncate end path ∷ [] else [])
      one true = refl
      one false = refl

  write_numbered : (count size : ℕ) (path : List ℕ) (offset : ℕ) (bytes : List ℕ)
      → write_commands standing count size path offset (labels ranked count (length bytes)) ≡ relabelled one_more (rank count) (write_commands standing count size path offset bytes)
  write_numbered count size path offset bytes =
      ap₂ (λ (t : Bool) (n : ℕ). if t then Write path offset (labels ranked count (length bytes)) ∷ []
      else map (write_of path) (stretches standing count offset (labels ranked count (length bytes))) ++ lengthened (standing (count + n - 1)) size (offset + n) path)
      (stand_alike count (labels ranked count (length bytes)) bytes (labels_len ranked count (length bytes))) (labels_len ranked count (length bytes))
      ∙ one (all_stand standing count bytes) refl
    where
      last : List Command
      last = lengthened (standing (count + length bytes - 1)) size (offset + length bytes) path

      one : (t : Bool) → all_stand standing count bytes ≡ t
          → (if t then Write path offset (labels ranked count (length bytes)) ∷ [] else map (write_of path) (stretches standing count offset (labels ranked count (length bytes))) ++ last)
          ≡ relabelled one_more (rank count) (if t then Write path offset bytes ∷ [] else map (write_of path) (stretches standing count offset bytes) ++ last)
      one true h = ap (λ (r : List ℕ). Write path offset r ∷ []) (all_ordered count bytes h)
      one false h =
          ap (λ (ss : List Stretch). map (write_of path) ss ++ last) (stretches_numbered count offset bytes)
          ∙ writes_numbered path (rank count) (stretches standing count offset bytes) last (lengthened_same (standing (count + length bytes - 1)) size (offset + length bytes) path)

  command_numbered : (count : ℕ) (state : State Birth) (c : Command) → squash_for standing count state (relabel ranked count c) ≡ relabelled one_more (rank count) (squash_for standing count state c)
  command_numbered count state (Write path offset bytes) = write_numbered count (size_at state path) path offset bytes
  command_numbered count state c = refl

  relabelled_both : (label : ℕ → ℕ) (k : ℕ) (cs ds : List Command) → relabelled label k (cs ++ ds) ≡ relabelled label k cs ++ relabelled label (k + literal cs) ds
  unfolding literal
  relabelled_both label k [] ds = let e : k ≡ k + literal [] = omega arith in ap (λ (n : ℕ). relabelled label n ds) e
  relabelled_both label k (c ∷ cs) ds =
      let sum = sum_by-cons (λ (x : Command). length (bytes_of x)) c cs in
      let e : k + length (bytes_of c) + literal cs ≡ k + literal (c ∷ cs) = omega (arith, sum) in
      ap (λ (r : List Command). relabel label k c ∷ r) (relabelled_both label (k + length (bytes_of c)) cs ds ∙ ap (λ (n : ℕ). relabelled label (k + length (bytes_of c)) cs ++ relabelled label n ds) e)

  pub squashed_numbered : (cs : List Command) (count : ℕ) (state : State Birth) → squashed_from standing count state (relabelled ranked count cs) ≡ relabelled one_more (rank count) (squashed_from standing count state cs)
  unfolding squashed_from
  squashed_numbered [] count state = refl
  squashed_numbered (c ∷ cs) count state =
      let n : ℕ = length (bytes_of c) in
      let next : State Birth = (born_step count state c).state in
      let here : List Command = squash_for standing count state c in
      let carried : rank count + literal here ≡ rank (count + n) = ap (λ (k : ℕ). rank count + k) (command_literal standing count state c) ∙ sym (rank_more count n) in
      ap₂ (λ (a b : List Command). a ++ b) (command_numbered count state c)
      (ap₂ (λ (k : ℕ) (s : State Birth). squashed_from standing k s (relabelled ranked (count + n) cs)) (ap (λ (m : ℕ). count + m) (relabel_len ranked count c)) (ap (λ (x : Stepped Birth). x.state) (same_born ranked count state c))
      ∙ squashed_numbered cs (count + n) next ∙ ap (λ (k : ℕ). relabelled one_more k (squashed_from standing (count + n) next cs)) (sym carried))
      ∙ sym (relabelled_both one_more (rank count) here (squashed_from standing (count + n) next cs))
