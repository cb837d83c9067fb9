-- What a look-up finds and an edit leaves, where entries stand in parts.
use Rattle.std.proofs.Common.{◌≡◌, ℕ, ◌+◌, Bool, true, false, not, T, cond, ◌&&◌, Option, Some, None, [], ◌∷◌, ◌++◌, get_or, take, drop, refl, sym, ap, ◌∙◌, append_assoc, subst}
use Rattle.std.specs.Prelude.{slice_get}
use Rattle.std.specs.Cmp.{IsTotalOrder}
use Rattle.std.specs.Ordering.{is_lt, is_eq, eq_by_cmp}
use Rattle.std.specs.declared.cmp.Ordering.{Ordering}
use Rattle.std.specs.declared.cmp.Ordering.TheVariants.{Less, Equal, Greater}
use Rattle.std.specs.List.{insert, AllByRecursion}
use Rattle.std.specs.FinMap.Entries.{by_order, below_all, is_sorted-put, is_sorted-where_key}
use Rattle.std.proofs.lemmas.Cmp.{tied_back}
use Rattle.std.proofs.lemmas.List.{take-append-drop}
use Rattle.std.proofs.lemmas.List.Elements.{filter-append}
use Rattle.send_model.specs.Map.{Map, IsMap, value_at, with_value, without}
use Rattle.send_model.proofs.MapLaws.{T_left, T_right, is_less}
use Rattle.shared_map.specs.Sought.{entries_above, entry_after}
use Rattle.shared_map.specs.Pages.{Rises, IsAt, IsGap}
use Rattle.shared_map.proofs.Lists.{split_at}
use Rattle.shared_map.proofs.Orders.{turned, turned_back}

-- ---- entries in order, as the definitions of maps say it

both : (a b : Bool) → T a → T b → T (a && b)
both true b p q = q
both false b p q = p

module _ {K V : Type 0} (order : K → K → Ordering) where
  below_from : (k : K) (es : Map K V) → AllByRecursion (λ f. order k f.0 ≡ Less) es → T (below_all order k es)
  below_from k [] a = tt
  below_from k (e ∷ es) a = both _ _ (subst (λ o. T (is_lt o)) (sym a.0) tt) (below_from k es a.1)

  from_below : (k : K) (es : Map K V) → T (below_all order k es) → AllByRecursion (λ f. order k f.0 ≡ Less) es
  from_below k [] a = tt
  from_below k (e ∷ es) a = (is_less _ (T_left _ _ a), from_below k es (T_right _ _ a))

  pub rises_is_map : (es : Map K V) → Rises order es → IsMap order es
  rises_is_map [] r = tt
  rises_is_map (e ∷ es) r = both _ _ (below_from e.0 es r.0) (rises_is_map es r.1)

  pub map_rises : (es : Map K V) → IsMap order es → Rises order es
  map_rises [] m = tt
  map_rises (e ∷ es) m = (from_below e.0 es (T_left _ _ m), map_rises es (T_right _ _ m))

module _ {K V : Type 0} {order : K → K → Ordering} (total : IsTotalOrder order) (key : K) where
  -- ---- look-ups

  pub value_skip : (xs ys : Map K V) → AllByRecursion (λ e. order e.0 key ≡ Less) xs → value_at order key (xs ++ ys) ≡ value_at order key ys
  value_skip [] ys l = refl
  value_skip (x ∷ xs) ys l = ap (λ (o : Ordering). cond (is_eq o) (Some x.1) (value_at order key (xs ++ ys))) (turned total x.0 key l.0) ∙ value_skip xs ys l.1

  pub value_stop : (ys zs : Map K V) → AllByRecursion (λ e. order e.0 key ≡ Greater) zs → value_at order key (ys ++ zs) ≡ value_at order key ys
  value_stop [] [] g = refl
  value_stop [] (z ∷ zs) g = ap (λ (o : Ordering). cond (is_eq o) (Some z.1) (value_at order key zs)) (turned_back total z.0 key g.0) ∙ value_stop [] zs g.1
  value_stop (y ∷ ys) zs g = ap (λ (r : Option V). cond (eq_by_cmp order key y.0) (Some y.1) r) (value_stop ys zs g)

  here_is : (es : Map K V) (i : ℕ) (e : K × V) → IsAt order key es i → e ≡ get_or es i e → order key e.0 ≡ Equal
  here_is es i e at read = tied_back total e.0 key (subst (λ x. order x.0 key ≡ Equal) (sym read) (at.here e))

  pub value_here : (es : Map K V) (i : ℕ) (e : K × V) → IsAt order key es i → e ≡ get_or es i e → value_at order key es ≡ Some e.1
  value_here es i e at read = ap (value_at order key) (split_at es i e at.in_range read) ∙ value_skip (take i es) (e ∷ drop (i + 1) es) at.below
      ∙ ap (λ (o : Ordering). cond (is_eq o) (Some e.1) (value_at order key (drop (i + 1) es))) (here_is es i e at read)

  pub value_gap : (es : Map K V) (i : ℕ) → IsGap order key es i → value_at order key es ≡ None
  value_gap es i gap = ap (value_at order key) (sym (take-append-drop i es)) ∙ value_skip (take i es) (drop i es) gap.below ∙ value_stop [] (drop i es) gap.after

  -- A look-up in three parts looks in the middle one.
  pub value_home : (xs ys zs : Map K V) → AllByRecursion (λ e. order e.0 key ≡ Less) xs → AllByRecursion (λ e. order e.0 key ≡ Greater) zs → value_at order key (xs ++ (ys ++ zs)) ≡ value_at order key ys
  value_home xs ys zs l g = value_skip xs (ys ++ zs) l ∙ value_stop ys zs g

  -- ---- the entry above a key

  pub above_skip : (xs ys : Map K V) → AllByRecursion (λ e. order e.0 key ≡ Less) xs → entries_above order key (xs ++ ys) ≡ entries_above order key ys
  above_skip [] ys l = refl
  above_skip (x ∷ xs) ys l = ap (λ (o : Ordering). cond (is_lt o) (x ∷ entries_above order key (xs ++ ys)) (entries_above order key (xs ++ ys))) (turned total x.0 key l.0) ∙ above_skip xs ys l.1

  pub after_skip : (xs ys : Map K V) → AllByRecursion (λ e. order e.0 key ≡ Less) xs → entry_after order key (xs ++ ys) ≡ entry_after order key ys
  after_skip xs ys l = ap (λ (m : Map K V). slice_get m 0) (above_skip xs ys l)

  -- Among entries that are all above the key, the first.
  pub after_first : (z : K × V) (zs : Map K V) → order z.0 key ≡ Greater → entry_after order key (z ∷ zs) ≡ Some z
  after_first z zs g = ap (λ (o : Ordering). slice_get (cond (is_lt o) (z ∷ entries_above order key zs) (entries_above order key zs)) 0) (turned_back total z.0 key g)

  pub after_here : (es zs : Map K V) (i : ℕ) (e : K × V) → IsAt order key es i → e ≡ get_or es i e → entry_after order key (es ++ zs) ≡ entry_after order key (drop (i + 1) es ++ zs)
  after_here es zs i e at read =
      let rest = drop (i + 1) es ++ zs in
      ap (λ (l : Map K V). entry_after order key (l ++ zs)) (split_at es i e at.in_range read) ∙ ap (entry_after order key) (append_assoc (take i es) (e ∷ drop (i + 1) es) zs)
      ∙ after_skip (take i es) (e ∷ rest) at.below
      ∙ ap (λ (o : Ordering). slice_get (cond (is_lt o) (e ∷ entries_above order key rest) (entries_above order key rest)) 0) (here_is es i e at read)

  pub after_gap : (es zs : Map K V) (i : ℕ) → IsGap order key es i → entry_after order key (es ++ zs) ≡ entry_after order key (drop i es ++ zs)
  after_gap es zs i gap =
      ap (λ (l : Map K V). entry_after order key (l ++ zs)) (sym (take-append-drop i es)) ∙ ap (entry_after order key) (append_assoc (take i es) (drop i es) zs) ∙ after_skip (take i es) (drop i es ++ zs) gap.below

  -- ---- a value that is set

  module _ (value : V) where
    pub put_skip : (xs ys : Map K V) → AllByRecursion (λ e. order e.0 key ≡ Less) xs → with_value order key value (xs ++ ys) ≡ xs ++ with_value order key value ys
    put_skip [] ys l = refl
    put_skip (x ∷ xs) ys l =
        ap (λ (o : Ordering). by_order o ((key, value) ∷ x ∷ (xs ++ ys)) ((x.0, value) ∷ (xs ++ ys)) (x ∷ with_value order key value (xs ++ ys))) (turned total x.0 key l.0)
        ∙ ap (λ (r : Map K V). x ∷ r) (put_skip xs ys l.1)

    put_by : (y : K × V) (ys zs : Map K V) → with_value order key value (ys ++ zs) ≡ with_value order key value ys ++ zs → (o : Ordering)
        → by_order o ((key, value) ∷ y ∷ (ys ++ zs)) ((y.0, value) ∷ (ys ++ zs)) (y ∷ with_value order key value (ys ++ zs)) ≡ by_order o ((key, value) ∷ y ∷ ys) ((y.0, value) ∷ ys) (y ∷ with_value order key value ys) ++ zs
    put_by y ys zs e Less = refl
    put_by y ys zs e Equal = refl
    put_by y ys zs e Greater = ap (λ (r : Map K V). y ∷ r) e

    pub put_stop : (ys zs : Map K V) → AllByRecursion (λ e. order e.0 key ≡ Greater) zs → with_value order key value (ys ++ zs) ≡ with_value order key value ys ++ zs
    put_stop [] [] g = refl
    put_stop [] (z ∷ zs) g = ap (λ (o : Ordering). by_order o ((key, value) ∷ z ∷ zs) ((z.0, value) ∷ zs) (z ∷ with_value order key value zs)) (turned_back total z.0 key g.0)
    put_stop (y ∷ ys) zs g = put_by y ys zs (put_stop ys zs g) (order key y.0)

    -- Where the key is there, its value is written over.
    pub put_here : (es xs zs : Map K V) (k : K) (was : V) → es ≡ xs ++ (k, was) ∷ zs → AllByRecursion (λ e. order e.0 key ≡ Less) xs → order k key ≡ Equal → with_value order key value es ≡ xs ++ (k, value) ∷ zs
    put_here es xs zs k was split l e =
        ap (with_value order key value) split ∙ put_skip xs ((k, was) ∷ zs) l
        ∙ ap (λ (o : Ordering). xs ++ by_order o ((key, value) ∷ (k, was) ∷ zs) ((k, value) ∷ zs) ((k, was) ∷ with_value order key value zs)) (tied_back total k key e)

    -- Where it is not, its entry goes into the gap.
    pub put_gap : (es : Map K V) (i : ℕ) → IsGap order key es i → with_value order key value es ≡ insert es i (key, value)
    put_gap es i gap =
        ap (with_value order key value) (sym (take-append-drop i es)) ∙ put_skip (take i es) (drop i es) gap.below ∙ ap (λ (r : Map K V). take i es ++ r) (put_stop [] (drop i es) gap.after)

    pub put_home : (xs ys zs : Map K V) → AllByRecursion (λ e. order e.0 key ≡ Less) xs → AllByRecursion (λ e. order e.0 key ≡ Greater) zs → with_value order key value (xs ++ (ys ++ zs)) ≡ xs ++ (with_value order key value ys ++ zs)
    put_home xs ys zs l g = put_skip xs (ys ++ zs) l ∙ ap (λ (r : Map K V). xs ++ r) (put_stop ys zs g)

    pub rises_put : (es : Map K V) → Rises order es → Rises order (with_value order key value es)
    rises_put es r = map_rises order _ (is_sorted-put order total key value es (rises_is_map order es r))

  -- ---- a key that is taken out

  abbrev differ : K × V → Type 0
  differ e = eq_by_cmp order key e.0 ≡ false

  from_less : (xs : Map K V) → AllByRecursion (λ e. order e.0 key ≡ Less) xs → AllByRecursion differ xs
  from_less [] l = tt
  from_less (x ∷ xs) l = (ap is_eq (turned total x.0 key l.0), from_less xs l.1)

  from_greater : (zs : Map K V) → AllByRecursion (λ e. order e.0 key ≡ Greater) zs → AllByRecursion differ zs
  from_greater [] g = tt
  from_greater (z ∷ zs) g = (ap is_eq (turned_back total z.0 key g.0), from_greater zs g.1)

  without_other : (xs : Map K V) → AllByRecursion differ xs → without order key xs ≡ xs
  without_other [] d = refl
  without_other (x ∷ xs) d = ap (λ (b : Bool). cond (not b) (x ∷ without order key xs) (without order key xs)) d.0 ∙ ap (λ (r : Map K V). x ∷ r) (without_other xs d.1)

  without_parts : (xs ys : Map K V) → without order key (xs ++ ys) ≡ without order key xs ++ without order key ys
  without_parts xs ys = filter-append (λ e. not (eq_by_cmp order key e.0)) xs ys

  pub without_here : (es xs zs : Map K V) (e : K × V) → es ≡ xs ++ e ∷ zs → AllByRecursion (λ e. order e.0 key ≡ Less) xs → order e.0 key ≡ Equal → AllByRecursion (λ e. order e.0 key ≡ Greater) zs → without order key es ≡ xs ++ zs
  without_here es xs zs e split l equal g =
      ap (without order key) split ∙ without_parts xs (e ∷ zs)
      ∙ ap (λ (r : Map K V). r ++ without order key (e ∷ zs)) (without_other xs (from_less xs l))
      ∙ ap (λ (o : Ordering). xs ++ cond (not (is_eq o)) (e ∷ without order key zs) (without order key zs)) (tied_back total e.0 key equal)
      ∙ ap (λ (r : Map K V). xs ++ r) (without_other zs (from_greater zs g))

  pub without_gap : (es : Map K V) (i : ℕ) → IsGap order key es i → without order key es ≡ es
  without_gap es i gap =
      ap (without order key) (sym (take-append-drop i es)) ∙ without_parts (take i es) (drop i es)
      ∙ ap (λ (r : Map K V). r ++ without order key (drop i es)) (without_other (take i es) (from_less (take i es) gap.below))
      ∙ ap (λ (r : Map K V). take i es ++ r) (without_other (drop i es) (from_greater (drop i es) gap.after)) ∙ take-append-drop i es

  pub without_home : (xs ys zs : Map K V) → AllByRecursion (λ e. order e.0 key ≡ Less) xs → AllByRecursion (λ e. order e.0 key ≡ Greater) zs → without order key (xs ++ (ys ++ zs)) ≡ xs ++ (without order key ys ++ zs)
  without_home xs ys zs l g =
      without_parts xs (ys ++ zs) ∙ ap (λ (r : Map K V). r ++ without order key (ys ++ zs)) (without_other xs (from_less xs l))
      ∙ ap (λ (r : Map K V). xs ++ r) (without_parts ys zs ∙ ap (λ (r : Map K V). without order key ys ++ r) (without_other zs (from_greater zs g)))

  pub rises_without : (es : Map K V) → Rises order es → Rises order (without order key es)
  rises_without es r = map_rises order _ (is_sorted-where_key order (λ k. not (eq_by_cmp order key k)) es (rises_is_map order es r))
