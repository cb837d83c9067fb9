-- Which inodes there are above one.
use Rattle.std.specs.Prelude.{◌≡◌, ℕ, ◌<◌, ◌≤◌, Bool, true, false, cond, ◌&&◌, T, List, [], ◌∷◌, Option, None, Some, slice_get, nat_lt}
use Rattle.std.specs.declared.cmp.Ordering.{Ordering}
use Rattle.std.specs.declared.cmp.Ordering.TheVariants.{Less, Equal, Greater}
use Rattle.std.specs.FinMap.Entries.{below_all}
use Rattle.std.specs.Ordering.{nat_cmp, is_lt, eq_by_cmp}
use Rattle.std.proofs.Common.{refl, sym, ap, subst, ◌∙◌, arith}
use Rattle.send_model.specs.Map.{Map, IsMap, value_at}
use Rattle.send_model.proofs.MapLaws.{T_left, T_right}
use Rattle.shared_map.specs.Sought.{entries_above, entry_after}

less_is : (a b : ℕ) → is_lt (nat_cmp a b) ≡ true → a < b
less_is a b e = grind arith

not_less : (a b : ℕ) → is_lt (nat_cmp a b) ≡ false → b ≤ a
not_less a b e = grind arith

same_is : (a b : ℕ) → eq_by_cmp nat_cmp a b ≡ true → a ≡ b
same_is a b e = grind arith

holds : (b : Bool) → T b → b ≡ true
holds true h = refl
holds false h = absurd h

none_some : {X : Type 0} (x : X) → None ≡ Some x → ⊥
none_some x e = cc

module _ {X : Type 0} where
  above_all : (a u : ℕ) (m : Map ℕ X) (x : X) → T (below_all nat_cmp a m)
      → value_at nat_cmp u m ≡ Some x → a < u
  above_all a u [] x below e = absurd (none_some x e)
  above_all a u (f ∷ m) x below e =
      one (eq_by_cmp nat_cmp u f.0) refl e
      (above_all a u m x (T_right (is_lt (nat_cmp a f.0)) (below_all nat_cmp a m) below))
    where
      one : (b : Bool) → eq_by_cmp nat_cmp u f.0 ≡ b
          → cond b (Some f.1) (value_at nat_cmp u m) ≡ Some x
          → (value_at nat_cmp u m ≡ Some x → a < u) → a < u
      one true is q more = let less =
          less_is a f.0
          (holds (is_lt (nat_cmp a f.0))
          (T_left (is_lt (nat_cmp a f.0)) (below_all nat_cmp a m) below)) in
          let same = same_is u f.0 is in omega (arith, less, same)
      one false is q more = more q

  -- None lies between an inode and the next one, and none behind the last one.
  abbrev pub IsNoLess : ℕ → Option (ℕ × X) → Type 0
  IsNoLess u None = ⊥
  IsNoLess u (Some e) = e.0 ≤ u

  pub next_above : (m : Map ℕ X) (k u : ℕ) (x : X) → IsMap nat_cmp m → value_at nat_cmp u m ≡ Some x
      → k < u → IsNoLess u (entry_after nat_cmp k m)
  next_above [] k u x sorted e above = absurd (none_some x e)
  next_above (f ∷ m) k u x sorted e above =
      one (is_lt (nat_cmp k f.0)) refl
      (λ found. next_above m k u x (T_right (below_all nat_cmp f.0 m) _ sorted) found above)
    where
      least : f.0 ≤ u
      least = two (eq_by_cmp nat_cmp u f.0) refl e
        where
          two : (b : Bool) → eq_by_cmp nat_cmp u f.0 ≡ b
              → cond b (Some f.1) (value_at nat_cmp u m) ≡ Some x → f.0 ≤ u
          two true is q = let same = same_is u f.0 is in omega (arith, same)
          two false is q = let less =
              above_all f.0 u m x (T_left (below_all nat_cmp f.0 m) _ sorted) q in
              omega (arith, less)

      later : is_lt (nat_cmp k f.0) ≡ false → value_at nat_cmp u m ≡ Some x
      later is = three (eq_by_cmp nat_cmp u f.0) refl e
        where
          three : (b : Bool) → eq_by_cmp nat_cmp u f.0 ≡ b
              → cond b (Some f.1) (value_at nat_cmp u m) ≡ Some x → value_at nat_cmp u m ≡ Some x
          three true t q = let same = same_is u f.0 t in let low =
              not_less k f.0 is in absurd (omega (arith, same, low, above))
          three false t q = q

      one : (b : Bool) → is_lt (nat_cmp k f.0) ≡ b
          → (value_at nat_cmp u m ≡ Some x → IsNoLess u (entry_after nat_cmp k m))
          → IsNoLess u (slice_get
          (cond b (f ∷ entries_above nat_cmp k m) (entries_above nat_cmp k m)) 0)
      one true is more = least
      one false is more = more (later is)
