-- Trees that are made of the parts of others.
use Rattle.extent_map.proofs.Spans.{length-all}
use Rattle.std.proofs.Common.{◌≡◌, ℕ, zero, suc, set, ◌+◌, ◌-◌, ◌<◌, ◌≤◌, List, Option, [], ◌∷◌, ◌++◌, length, take, drop, length-append, length-drop, refl, sym, ap, ap₂, ◌∙◌, subst, arith}
use Rattle.std.proofs.lemmas.List.{take-append-drop, length-take-le, append-nil, append_assoc, take_more_set, drop-set-lt, drop_more, drop_all, take_all}
use Rattle.std.proofs.lemmas.List.Elements.{All-head, All-take, All-drop, All-cons, All-nil, All-append, All-get_or}
use Rattle.std.proofs.lemmas.List.Concat.{flat_map-append}
use Rattle.std.proofs.lemmas.List.Sums.{sum_by-cons, sum_by-take-drop}
use Rattle.std.specs.List.{sum_by, flat_map}
use Rattle.std.specs.Prelude.{IfSome, Some, None}
use Rattle.extent_map.specs.declared.piece.Piece.{Piece}
use Rattle.extent_map.specs.Leaves.{all_cells, cells_in, IsPiece, ArePieces, HaveCells, IsAdded, pieces_at}
use Rattle.extent_map.specs.Opened.{ArePiecesOf, AreKidsOf}
use Rattle.extent_map.proofs.LeafEdits.{length-all_cells, length-cells_in, added_all}
use Rattle.extent_map.specs.Seen.{Seen, cells_count, joined, around, some_of, filled, IsKid, AreKids, AreBelow, IsFork, IsOpenAt, IsTaken}
use Rattle.extent_map.specs.Trees.{IsLeaf}

-- a list in two
pub split_sum : {A : Type 0} (f : A → ℕ) (xs low high : List A) (n : ℕ) → low ≡ take n xs → high ≡ drop n xs → sum_by f low + sum_by f high ≡ sum_by f xs
split_sum f xs low high n l h = ap₂ (λ (a b : List _). sum_by f a + sum_by f b) l h ∙ sum_by-take-drop f xs n

pub split_cells : {A C : Type 0} (f : A → List C) (xs low high : List A) (n : ℕ) → low ≡ take n xs → high ≡ drop n xs → flat_map f low ++ flat_map f high ≡ flat_map f xs
split_cells f xs low high n l h =
    ap₂ (λ (a b : List _). flat_map f a ++ flat_map f b) l h
    ∙ sym (flat_map-append f (take n xs) (drop n xs))
    ∙ ap (flat_map f) (take-append-drop n xs)

module _ {O : Type 0} (reach : O → ℕ) where
  pub pieces_some : (ps : List (Piece O)) → ArePieces reach ps → 0 < length ps → 0 < sum_by (λ p. p.len) ps
  pieces_some [] each some = absurd (omega (arith, some))
  pieces_some (p ∷ ps) each some = omega (arith, (All-head (IsPiece reach) p ps each).some, sum_by-cons (λ (q : Piece O). q.len) p ps)

  -- a leaf in two
  pub low_leaf : (len high n : ℕ) (ps low back : List (Piece O)) → IsLeaf reach len ps → low ≡ take n ps → back ≡ drop n ps → high ≡ sum_by (λ p. p.len) back → 0 < n → n < length ps → IsLeaf reach (len - high) low
  low_leaf len high n ps low back leaf l h count some less =
      let each : ArePieces reach low = subst (ArePieces reach) (sym l) (All-take (IsPiece reach) n ps leaf.each) in
      let s = split_sum (λ (p : Piece O). p.len) ps low back n l h in
      let m : length low ≡ n = ap length l ∙ length-take-le n ps (omega (arith, less)) in
      record {
        each = each;
        counted = omega (arith, s, count, leaf.counted);
        some = omega (arith, s, count, leaf.counted, pieces_some low each (omega (arith, m, some)));
      }

  pub high_leaf : (len high n : ℕ) (ps back : List (Piece O)) → IsLeaf reach len ps → back ≡ drop n ps → high ≡ sum_by (λ p. p.len) back → n < length ps → IsLeaf reach high back
  high_leaf len high n ps back leaf h count less =
      let each : ArePieces reach back = subst (ArePieces reach) (sym h) (All-drop (IsPiece reach) n ps leaf.each) in
      record {
        each = each;
        counted = count;
        some = omega (arith, count, pieces_some back each (omega (arith, ap length h, length-drop n ps, less)));
      }

module _ {O : Type 0} where
  pub low_below : (high n : ℕ) (kids low : List (Seen O)) → AreBelow high kids → low ≡ take n kids → AreBelow high low
  low_below high n kids low b l = record { steps = b.steps; height = b.height; each = subst (AreKids b.steps) (sym l) (All-take (IsKid b.steps) n kids b.each) }

  pub high_below : (high n : ℕ) (kids back : List (Seen O)) → AreBelow high kids → back ≡ drop n kids → AreBelow high back
  high_below high n kids back b h = record { steps = b.steps; height = b.height; each = subst (AreKids b.steps) (sym h) (All-drop (IsKid b.steps) n kids b.each) }

  -- a tree over others in two
  pub low_fork : (high len more n : ℕ) (kids low back : List (Seen O)) → IsFork high len kids → low ≡ take n kids → back ≡ drop n kids → more ≡ sum_by cells_count back → 2 ≤ n → n ≤ length kids → IsFork high (len - more) low
  low_fork high len more n kids low back f l h count two less =
      record {
        below = low_below high n kids low f.below l;
        two = omega (arith, two, ap length l ∙ length-take-le n kids less);
        counted = omega (arith, f.counted, count, split_sum cells_count kids low back n l h);
      }

  pub high_fork : (high len more n : ℕ) (kids back : List (Seen O)) → IsFork high len kids → back ≡ drop n kids → more ≡ sum_by cells_count back → n + 2 ≤ length kids → IsFork high more back
  high_fork high len more n kids back f h count less =
      record {
        below = high_below high n kids back f.below h;
        two = omega (arith, less, ap length h, length-drop n kids);
        counted = count;
      }

  -- a tree over two
  pub two_fork : (high len : ℕ) (a b : Seen O) (trees : List (Seen O)) → trees ≡ a ∷ b ∷ [] → IsKid a.height a → IsKid b.height b → b.height ≡ a.height → high ≡ a.height + 1 → len ≡ length a.cells + length b.cells → IsFork high len trees
  two_fork high len a b trees is first second same up count =
      record {
        below = record {
          steps = a.height;
          height = up;
          each = subst (AreKids a.height) (sym is) (All-cons (IsKid a.height) a (b ∷ []) first (All-cons (IsKid a.height) b [] (subst (λ (n : ℕ). IsKid n b) same second) (All-nil (IsKid a.height))));
        };
        two = omega (arith, ap length is);
        counted = omega (arith, count, ap (sum_by (cells_count {O = O})) is, sum_by-cons (cells_count {O = O}) a (b ∷ []), sum_by-cons (cells_count {O = O}) b []);
      }

-- trees in whose midst there are others
module _ {O : Type 0} (high index steps : ℕ) (trees : List (Seen O)) (hole : IsOpenAt high index trees) (up : high ≡ steps + 1) where
  kids_of : (kids : List (Seen O)) → AreBelow high kids → AreKids steps kids
  kids_of kids b =
      let e : b.steps ≡ steps = omega (arith, up, b.height) in
      subst (λ (n : ℕ). AreKids n kids) e b.each

  pub cells_around : (mid l : List (Seen O)) (cells : List (Option O)) → l ≡ (take index trees ++ mid) ++ drop (index + 1) trees → joined mid ≡ cells → joined l ≡ around index trees cells
  cells_around mid l cells is are =
      ap joined is
      ∙ flat_map-append (λ (k : Seen O). k.cells) (take index trees ++ mid) (drop (index + 1) trees)
      ∙ ap (λ (x : List (Option O)). x ++ joined (drop (index + 1) trees)) (flat_map-append (λ (k : Seen O). k.cells) (take index trees) mid ∙ ap (λ (x : List (Option O)). joined (take index trees) ++ x) are)

  pub fork_around : (len : ℕ) (mid l : List (Seen O)) (cells : List (Option O)) → l ≡ (take index trees ++ mid) ++ drop (index + 1) trees → AreKids steps mid → 0 < length mid → joined mid ≡ cells → len ≡ length (around index trees cells) → IsFork high len l
  fork_around len mid l cells is each some are count =
      let a = take index trees in
      let b = drop (index + 1) trees in
      let n : length (take index trees) ≡ index = length-take-le index trees (omega (arith, hole.within)) in
      record {
        below = record {
          steps = steps;
          height = up;
          each =
              subst (AreKids steps) (sym is)
              (All-append (IsKid steps) (a ++ mid) b (All-append (IsKid steps) a mid (kids_of a hole.before) each) (kids_of b hole.after));
        };
        two = omega (arith, ap length is, length-append (a ++ mid) b, length-append a mid, n, length-drop (index + 1) trees, some, hole.within, hole.two);
        counted = count ∙ ap length (sym (cells_around mid l cells is are)) ∙ length-all (λ (k : Seen O). k.cells) cells_count (λ k. refl) l;
      }

module _ {O : Type 0} where
  -- one tree, or two, as a list
  pub filled_none : (tree : Seen O) → tree.height ≡ 0 → filled tree ≡ []
  filled_none tree e = ap (λ n. some_of n tree) e

  pub filled_some : (tree : Seen O) (n : ℕ) → tree.height ≡ suc n → filled tree ≡ tree ∷ []
  filled_some tree n e = ap (λ n. some_of n tree) e

  filled_cells_at : (n : ℕ) (first second : Seen O) → second.height ≡ n → (second.height ≡ 0 → second.cells ≡ []) → joined (first ∷ filled second) ≡ first.cells ++ second.cells
  filled_cells_at zero first second e none = ap (λ (l : List (Seen O)). first.cells ++ joined l) (filled_none second e) ∙ ap (λ (l : List (Option O)). first.cells ++ l) (sym (none e))
  filled_cells_at (suc n) first second e none = ap (λ (l : List (Seen O)). first.cells ++ joined l) (filled_some second n e) ∙ ap (λ (l : List (Option O)). first.cells ++ l) (append-nil second.cells)

  pub filled_cells : (first second : Seen O) → (second.height ≡ 0 → second.cells ≡ []) → joined (first ∷ filled second) ≡ first.cells ++ second.cells
  filled_cells first second none = filled_cells_at second.height first second refl none

  filled_kids_at : (n steps : ℕ) (first second : Seen O) → second.height ≡ n → IsKid steps first → (0 < second.height → IsKid steps second) → AreKids steps (first ∷ filled second)
  filled_kids_at zero steps first second e kid more = All-cons (IsKid steps) first (filled second) kid (subst (AreKids steps) (sym (filled_none second e)) (All-nil (IsKid steps)))
  filled_kids_at (suc n) steps first second e kid more =
      All-cons (IsKid steps) first (filled second) kid
      (subst (AreKids steps) (sym (filled_some second n e)) (All-cons (IsKid steps) second [] (more (omega (arith, e))) (All-nil (IsKid steps))))

  pub filled_kids : (steps : ℕ) (first second : Seen O) → IsKid steps first → (0 < second.height → IsKid steps second) → AreKids steps (first ∷ filled second)
  filled_kids steps first second kid more = filled_kids_at second.height steps first second refl kid more

  pub filled_one : (tree : Seen O) → 0 < tree.height → filled tree ≡ tree ∷ []
  filled_one tree h =
      let e : tree.height ≡ suc (tree.height - 1) = omega (arith, h) in
      filled_some tree (tree.height - 1) e

  -- a list with one set, and others behind it
  pub set_with : (trees new : List (Seen O)) (index : ℕ) (first : Seen O) (more : List (Seen O)) → index < length trees → new ≡ (take (index + 1) (set trees index first) ++ more) ++ drop (index + 1) (set trees index first)
      → new ≡ (take index trees ++ (first ∷ more)) ++ drop (index + 1) trees
  set_with trees new index first more within is =
      is
      ∙ ap₂ (λ (a b : List (Seen O)). (a ++ more) ++ b) (take_more_set trees index first within) (drop-set-lt (index + 1) trees index first (omega arith))
      ∙ ap (λ (a : List (Seen O)). a ++ drop (index + 1) trees) (append_assoc (take index trees) (first ∷ []) more)

-- the parts of two trees after one another
module _ {O : Type 0} (advanced : O → ℕ → O) (reach : O → ℕ) where
  pub appended_leaf : (left right : Seen O) (a b new : List (Piece O)) (len : ℕ) → ArePiecesOf advanced reach left a → ArePiecesOf advanced reach right b → HaveCells advanced reach (all_cells advanced a ++ all_cells advanced b) new
      → len ≡ length left.cells + length right.cells → IsLeaf reach len new
  appended_leaf left right a b new len la lb is count =
      let c = length-all_cells advanced reach new in
      let d = length-append (all_cells advanced a) (all_cells advanced b) in
      record {
        each = is.each;
        counted = omega (arith, count, c, d, ap length is.are, ap length la.have.are, ap length lb.have.are);
        some = omega (arith, count, la.some);
      }

module _ {O : Type 0} (left right : Seen O) (high more : ℕ) where
  pub appended_kids : (a b new : List (Seen O)) → AreKidsOf left high a → AreKidsOf right more b → new ≡ a ++ b → joined new ≡ left.cells ++ right.cells
  appended_kids a b new la lb is =
      ap joined is
      ∙ flat_map-append (λ (k : Seen O). k.cells) a b
      ∙ ap₂ (λ (x y : List (Option O)). x ++ y) la.are lb.are

  pub appended_fork : (len : ℕ) (a b new : List (Seen O)) → AreKidsOf left high a → AreKidsOf right more b → left.height ≡ right.height → new ≡ a ++ b → len ≡ length left.cells + length right.cells → IsFork high len new
  appended_fork len a b new la lb level is count =
      let e : lb.below.steps ≡ la.below.steps = omega (arith, level, la.as_high, lb.as_high, la.below.height, lb.below.height) in
      record {
        below = record {
          steps = la.below.steps;
          height = la.below.height;
          each = subst (AreKids la.below.steps) (sym is) (All-append (IsKid la.below.steps) a b la.below.each (subst (λ (n : ℕ). AreKids n b) e lb.below.each));
        };
        two = omega (arith, la.two, ap length is, length-append a b);
        counted =
            omega (arith, count, length-all (λ (k : Seen O). k.cells) cells_count (λ k. refl) new, ap length (appended_kids a b new la lb is), length-append left.cells right.cells);
      }

-- a tree that was taken out of those that another is over
module _ {O : Type 0} (tree : Seen O) (high : ℕ) (kids new : List (Seen O)) (index : ℕ) (near : Seen O) (ks : AreKidsOf tree high kids) (tk : IsTaken kids index near new) (within : index < length kids) where
  pub near_kid : IsKid ks.below.steps near
  near_kid = subst (IsKid ks.below.steps) (sym tk.value) (All-get_or (IsKid ks.below.steps) kids index near within ks.below.each)

  pub hole_at : IsOpenAt high index new
  hole_at =
      record {
        before = low_below high index kids (take index new) ks.below tk.before;
        after = high_below high (index + 1) kids (drop (index + 1) new) ks.below tk.after;
        within = omega (arith, within, tk.same);
        two = omega (arith, ks.two, tk.same);
      }

  pub around_near : around index new near.cells ≡ tree.cells
  around_near =
      let o : kids ≡ take index kids ++ near ∷ drop (index + 1) kids =
      sym (take-append-drop index kids)
      ∙ ap (λ (l : List (Seen O)). take index kids ++ l) (drop_more kids index near within ∙ ap (λ (x : Seen O). x ∷ drop (index + 1) kids) (sym tk.value)) in
      ap₂ (λ (a b : List (Seen O)). joined a ++ near.cells ++ joined b) tk.before tk.after
      ∙ append_assoc (joined (take index kids)) near.cells (joined (drop (index + 1) kids))
      ∙ sym (flat_map-append (λ (k : Seen O). k.cells) (take index kids) (near ∷ drop (index + 1) kids))
      ∙ ap joined (sym o)
      ∙ ks.are

  pub around_length : (cells : List (Option O)) → length (around index new cells) + length near.cells ≡ length tree.cells + length cells
  around_length cells =
      let a = joined (take index new) in
      let b = joined (drop (index + 1) new) in
      omega (arith, ap length around_near, length-append (a ++ near.cells) b, length-append a near.cells, length-append (a ++ cells) b, length-append a cells)

  pub last_around : index + 1 ≡ length kids → (x : List (Option O)) → around index new (near.cells ++ x) ≡ tree.cells ++ x
  last_around end x =
      let a = joined (take index new) in
      let d : drop (index + 1) new ≡ [] = drop_all (index + 1) new (omega (arith, end, tk.same)) in
      let t : tree.cells ≡ a ++ near.cells = sym around_near ∙ ap (λ (l : List (Seen O)). a ++ near.cells ++ joined l) d ∙ append-nil (a ++ near.cells) in
      ap (λ (l : List (Seen O)). a ++ (near.cells ++ x) ++ joined l) d
      ∙ append-nil (a ++ (near.cells ++ x))
      ∙ sym (append_assoc a near.cells x)
      ∙ ap (λ (l : List (Option O)). l ++ x) (sym t)

  pub first_around : index ≡ 0 → (x : List (Option O)) → around index new (x ++ near.cells) ≡ x ++ tree.cells
  first_around start x =
      let b = joined (drop (index + 1) new) in
      let t : take index new ≡ [] = ap (λ n. take n new) start in
      ap (λ (l : List (Seen O)). joined l ++ (x ++ near.cells) ++ b) t
      ∙ append_assoc x near.cells b
      ∙ ap (λ (l : List (Option O)). x ++ l) (sym (ap (λ (l : List (Seen O)). joined l ++ near.cells ++ b) t) ∙ around_near)

-- sums of the sides of a tree where one was taken out
module _ {O : Type 0} where
  pub sides_sum : (index : ℕ) (trees : List (Seen O)) → length (around index trees []) ≡ sum_by cells_count (take index trees) + sum_by cells_count (drop (index + 1) trees)
  sides_sum index trees =
      let a = joined (take index trees) in
      let b = joined (drop (index + 1) trees) in
      omega (
        arith,
        length-append (a ++ []) b,
        length-append a [],
        length-all (λ (k : Seen O). k.cells) cells_count (λ k. refl) (take index trees),
        length-all (λ (k : Seen O). k.cells) cells_count (λ k. refl) (drop (index + 1) trees),
      )

-- a leaf that was written to at its end
module _ {O : Type 0} (advanced : O → ℕ → O) (reach : O → ℕ) where
  pub pushed_cells : (tree : Seen O) (ps new : List (Piece O)) (at next : ℕ) (p : Piece O) → ArePiecesOf advanced reach tree ps → at ≡ length ps → IsAdded advanced reach (pieces_at ps at) p (pieces_at new next) → all_cells advanced new ≡ tree.cells ++ cells_in advanced p
  pushed_cells tree ps new at next p are end is =
      added_all advanced reach ps new at next p is
      ∙ ap₂ (λ (a b : List (Piece O)). (all_cells advanced a ++ cells_in advanced p) ++ all_cells advanced b) (take_all at ps (omega (arith, end))) (drop_all at ps (omega (arith, end)))
      ∙ append-nil (all_cells advanced ps ++ cells_in advanced p)
      ∙ ap (λ (l : List (Option O)). l ++ cells_in advanced p) are.have.are

  pub pushed_leaf : (tree : Seen O) (ps new : List (Piece O)) (at next len : ℕ) (p : Piece O) → ArePiecesOf advanced reach tree ps → at ≡ length ps → IsAdded advanced reach (pieces_at ps at) p (pieces_at new next) → len ≡ length tree.cells + p.len → IsLeaf reach len new
  pushed_leaf tree ps new at next len p are end is count =
      record {
        each = is.pieces;
        counted = omega (arith, count, length-all_cells advanced reach new, ap length (pushed_cells tree ps new at next p are end is), length-append tree.cells (cells_in advanced p), length-cells_in advanced reach p);
        some = omega (arith, count, are.some);
      }

module _ {O : Type 0} where
  pub around_more : (index : ℕ) (trees : List (Seen O)) (cells : List (Option O)) → length (around index trees cells) ≡ length (around index trees []) + length cells
  around_more index trees cells =
      let a = joined (take index trees) in
      let b = joined (drop (index + 1) trees) in
      omega (arith, length-append (a ++ cells) b, length-append a cells, length-append (a ++ []) b, length-append a [])

pub some_weaker : {T : Type 0} (o : Option T) (P Q : T → Type 0) → ((x : T) → P x → Q x) → IfSome o P → IfSome o Q
some_weaker None P Q f h = tt
some_weaker (Some x) P Q f h = f x h
