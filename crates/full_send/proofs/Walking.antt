-- How the paths of a subvolume are passed one after the other.
use Rattle.std.specs.Prelude.{◌≡◌, ◌<◌, ℕ, suc, Bool, true, false, ◌||◌, cond, T, List, [], ◌∷◌, ◌++◌, filter, length, Option, None, Some, Ok, slice_get, MatchOption}
use Rattle.std.specs.Ordering.{is_lt, ordering_reverse}
use Rattle.std.specs.Cmp.{tied_itself}
use Rattle.std.specs.Cmp.Lexicographic.{nat_list_cmp_total}
use Rattle.std.specs.declared.cmp.Ordering.{Ordering}
use Rattle.std.specs.declared.cmp.Ordering.TheVariants.{Less, Equal, Greater}
use Rattle.std.specs.FinMap.Entries.{below_all}
use Rattle.std.proofs.Common.{refl, sym, ap, subst, ◌∙◌, inl, inr, append_assoc, arith}
use Rattle.std.proofs.lemmas.Map.Lookups.{exact_bytes}
use Rattle.send_model.specs.Map.{Map, IsMap, bytes_cmp}
use Rattle.send_model.specs.Subvolume.{Subvolume, IsLawful, walk}
use Rattle.send_model.proofs.LeastPaths.{Among, found_entry, entry_found}
use Rattle.send_model.proofs.MapLaws.{T_left, T_right, is_less}
use Rattle.shared_map.specs.Sought.{entries_above, entry_after}
use Rattle.snapshot_model.specs.Listing.{paths_of}
use Rattle.snapshot_model.proofs.SentPaths.{paths_ordered, walked_path_found, path_found_walks, entry_below, among_end}
use Rattle.path_walk.specs.Passing.{Passed, StepsOn}
use Rattle.path_walk.proofs.Passes.{root_walks}
use Rattle.full_send.specs.Versions.{is_flagged, any_flagged}

abbrev Key : Type 0
Key = List ℕ

-- ---- what is above a key

less_is : (r : Ordering) → r ≡ Less → is_lt (ordering_reverse r) ≡ false
less_is Less e = refl
less_is Equal e = cc
less_is Greater e = cc

kept_first : (p : Key × ℕ → Bool) (e : Key × ℕ) (m : Map Key ℕ) → p e ≡ true → filter p (e ∷ m) ≡ e ∷ filter p m
kept_first p e m is = ap (λ (b : Bool). cond b (e ∷ filter p m) (filter p m)) is

gone_first : (p : Key × ℕ → Bool) (e : Key × ℕ) (m : Map Key ℕ) → p e ≡ false → filter p (e ∷ m) ≡ filter p m
gone_first p e m is = ap (λ (b : Bool). cond b (e ∷ filter p m) (filter p m)) is

all_above : (at : Key) (m : Map Key ℕ) → T (below_all bytes_cmp at m) → entries_above bytes_cmp at m ≡ m
all_above at [] h = refl
all_above at (e ∷ m) h = kept_first (λ f. is_lt (bytes_cmp at f.0)) e m (ap is_lt (is_less _ (T_left _ _ h))) ∙ ap (λ (l : Map Key ℕ). e ∷ l) (all_above at m (T_right _ _ h))

pub above_are : (at : Key) (ino : ℕ) (done rest : Map Key ℕ) → IsMap bytes_cmp (done ++ (at, ino) ∷ rest) → entries_above bytes_cmp at (done ++ (at, ino) ∷ rest) ≡ rest
above_are at ino [] rest h = gone_first (λ f. is_lt (bytes_cmp at f.0)) (at, ino) rest (ap is_lt (tied_itself nat_list_cmp_total at)) ∙ all_above at rest (T_left _ _ h)
above_are at ino (e ∷ done) rest h =
    let below : bytes_cmp e.0 at ≡ Less = entry_below e.0 at ino (done ++ (at, ino) ∷ rest) (T_left _ _ h) (among_end (at, ino) done rest) in
    gone_first (λ f. is_lt (bytes_cmp at f.0)) e (done ++ (at, ino) ∷ rest) (ap is_lt (nat_list_cmp_total.antisymm at e.0) ∙ less_is (bytes_cmp e.0 at) below)
    ∙ above_are at ino done rest (T_right _ _ h)

-- ---- how far they are passed

-- The path that was passed last stands among all of them.
pub record Reached {C : Type 0} (s : Subvolume C) (p : Passed C) : Type 0 where
  pub same : p.subvolume ≡ s
  pub done : Map (List ℕ) ℕ
  pub ino : ℕ
  pub rest : Map (List ℕ) ℕ
  pub parts : done ++ (p.at, ino) ∷ rest ≡ paths_of s

-- Those that were passed, with the last.
abbrev pub so_far : {C : Type 0} {s : Subvolume C} {p : Passed C} → Reached s p → Map (List ℕ) ℕ
so_far {C} {s} {p} r = r.done ++ (p.at, r.ino) ∷ []

no_less : (p : Key) → bytes_cmp p [] ≡ Less → ⊥
no_less [] e = cc
no_less (b ∷ p) e = cc

begins_with : (m : Map Key ℕ) → IsMap bytes_cmp m → Among ([], 256) m → (rest : Map Key ℕ) × (m ≡ ([], 256) ∷ rest)
begins_with [] h a = absurd a
begins_with (e ∷ m) h (inl is) = (m, ap (λ (f : Key × ℕ). f ∷ m) is)
begins_with (e ∷ m) h (inr a) = absurd (no_less e.0 (entry_below e.0 [] 256 m (T_left _ _ h) a))

module _ {C : Type 0} (s : Subvolume C) where
  pub paths_begin : IsLawful s → (rest : Map (List ℕ) ℕ) × (paths_of s ≡ ([], 256) ∷ rest)
  paths_begin lawful = begins_with (paths_of s) (paths_ordered s) (found_entry bytes_cmp nat_list_cmp_total exact_bytes [] 256 (paths_of s) (walked_path_found s lawful [] 256 (root_walks s)))

  pub at_first : IsLawful s → (p : Passed C) → p ≡ record { subvolume = s; at = [] } → (r : Reached s p) × (so_far r ≡ ([], 256) ∷ [])
  at_first lawful p is =
      let b = paths_begin lawful in
      let at : p.at ≡ [] = ap (λ (x : Passed C). x.at) is in (
        record { same = ap (λ (x : Passed C). x.subvolume) is; done = []; ino = 256; rest = b.0; parts = ap (λ (k : Key). (k, 256) ∷ b.0) at ∙ sym b.1 },
        ap (λ (k : Key). (k, 256) ∷ []) at,
      )

  module _ (p : Passed C) (r : Reached s p) where
    above_here : entries_above bytes_cmp p.at (paths_of p.subvolume) ≡ r.rest
    above_here =
        ap (λ (t : Subvolume C). entries_above bytes_cmp p.at (paths_of t)) r.same ∙ ap (entries_above bytes_cmp p.at) (sym r.parts)
        ∙ above_are p.at r.ino r.done r.rest (subst (λ (m : Map Key ℕ). IsMap bytes_cmp m) (sym r.parts) (paths_ordered s))

    next_here : entry_after bytes_cmp p.at (paths_of p.subvolume) ≡ slice_get r.rest 0
    next_here = ap (λ (m : Map Key ℕ). slice_get m 0) above_here

    pub left_is : length (entries_above bytes_cmp p.at (paths_of p.subvolume)) ≡ length r.rest
    left_is = ap length above_here

    abbrev Steps : Passed C → Option ℕ → Option (Key × ℕ) → Type 0
    Steps q result o = MatchOption o ((result ≡ None) × (q ≡ p)) (λ e. (result ≡ Some e.1) × (q ≡ record { subvolume = p.subvolume; at = e.0 }))

    -- There is no other.
    none_by : (q : Passed C) (m : Map (List ℕ) ℕ) → r.rest ≡ m → Steps q None (slice_get m 0) → so_far r ≡ paths_of s
    none_by q [] is h = ap (λ (l : Map Key ℕ). r.done ++ (p.at, r.ino) ∷ l) (sym is) ∙ r.parts
    none_by q (e ∷ m) is h = let none = h.0 in cc

    pub step_none : (q : Passed C) (result : Option ℕ) → result ≡ None → StepsOn p q result → so_far r ≡ paths_of s
    step_none q result is steps = none_by q r.rest refl (subst (λ (o : Option ℕ). Steps q o (slice_get r.rest 0)) is (subst (Steps q result) next_here steps))

    rest_by : (q : Passed C) (m : Map (List ℕ) ℕ) → r.rest ≡ m → Steps q None (slice_get m 0) → r.rest ≡ []
    rest_by q [] is h = is
    rest_by q (e ∷ m) is h = let none = h.0 in cc

    pub rest_none : (q : Passed C) (result : Option ℕ) → result ≡ None → StepsOn p q result → r.rest ≡ []
    rest_none q result is steps = rest_by q r.rest refl (subst (λ (o : Option ℕ). Steps q o (slice_get r.rest 0)) is (subst (Steps q result) next_here steps))

    pub all_paths_are : paths_of s ≡ so_far r ++ r.rest
    all_paths_are = sym r.parts ∙ sym (append_assoc r.done ((p.at, r.ino) ∷ []) r.rest)

    pub walks_here : IsLawful s → walk s p.at ≡ Ok r.ino
    walks_here lawful =
        path_found_walks s lawful p.at r.ino
        (entry_found bytes_cmp nat_list_cmp_total exact_bytes (p.at, r.ino) (paths_of s) (paths_ordered s) (subst (Among (p.at, r.ino)) r.parts (among_end (p.at, r.ino) r.done r.rest)))

    -- Or it is passed.
    pub record Goes (q : Passed C) (ino : ℕ) : Type 0 where
      pub reached : Reached s q
      pub ino_is : reached.ino ≡ ino
      pub so_far_is : so_far reached ≡ so_far r ++ (q.at, ino) ∷ []
      pub rest_is : r.rest ≡ (q.at, ino) ∷ reached.rest
      pub less : length reached.rest < length r.rest

    some_inside : {a b : ℕ} → Some a ≡ Some b → a ≡ b
    some_inside e = cc

    some_by : (q : Passed C) (ino : ℕ) (m : Map (List ℕ) ℕ) → r.rest ≡ m → Steps q (Some ino) (slice_get m 0) → Goes q ino
    some_by q ino [] is h = let none = h.0 in cc
    some_by q ino (e ∷ m) is h =
        let ino_e : ino ≡ e.1 = some_inside h.0 in
        let at : q.at ≡ e.0 = ap (λ (x : Passed C). x.at) h.1 in
        let entry : (q.at, ino) ∷ m ≡ e ∷ m = λ i. (at i, ino_e i) ∷ m in
        let long : length r.rest ≡ suc (length m) = ap length is in record {
          reached = record {
            same = ap (λ (x : Passed C). x.subvolume) h.1 ∙ r.same;
            done = so_far r;
            ino = ino;
            rest = m;
            parts = append_assoc r.done ((p.at, r.ino) ∷ []) ((q.at, ino) ∷ m) ∙ ap (λ (l : Map Key ℕ). r.done ++ (p.at, r.ino) ∷ l) (entry ∙ sym is) ∙ r.parts;
          };
          ino_is = refl;
          so_far_is = refl;
          rest_is = is ∙ sym entry;
          less = omega (arith, long);
        }

    pub step_some : (q : Passed C) (ino : ℕ) (result : Option ℕ) → result ≡ Some ino → StepsOn p q result → Goes q ino
    step_some q ino result is steps = some_by q ino r.rest refl (subst (λ (o : Option ℕ). Steps q o (slice_get r.rest 0)) is (subst (Steps q result) next_here steps))

  -- Fewer are left then.
  pub smaller : (p q : Passed C) (r : Reached s p) (ino : ℕ) → Goes p r q ino
      → length (entries_above bytes_cmp q.at (paths_of q.subvolume)) < length (entries_above bytes_cmp p.at (paths_of p.subvolume))
  smaller p q r ino g = omega (arith, left_is p r, left_is q g.reached, g.less)

-- ---- flags

module _ {C : Type 0} (s : Subvolume C) where
  or_assoc : (a b c : Bool) → ((a || b) || c) ≡ (a || (b || c))
  or_assoc true b c = refl
  or_assoc false b c = refl

  or_true : (a : Bool) → (a || true) ≡ true
  or_true true = refl
  or_true false = refl

  pub any_both : (m others : Map (List ℕ) ℕ) → any_flagged s (m ++ others) ≡ (any_flagged s m || any_flagged s others)
  any_both [] others = refl
  any_both (e ∷ m) others = ap (λ (b : Bool). is_flagged s e.1 || b) (any_both m others) ∙ sym (or_assoc (is_flagged s e.1) (any_flagged s m) (any_flagged s others))

  or_false : (a : Bool) → (a || false) ≡ a
  or_false true = refl
  or_false false = refl

  pub not_flagged : (m : Map (List ℕ) ℕ) (e : List ℕ × ℕ) (b : Bool) → b ≡ any_flagged s m → is_flagged s e.1 ≡ false → b ≡ any_flagged s (m ++ e ∷ [])
  not_flagged m e b is none = is ∙ sym (any_both m (e ∷ []) ∙ ap (λ (c : Bool). any_flagged s m || (c || false)) none ∙ or_false (any_flagged s m))

  -- One of the paths has one.
  pub is_one : (p : Passed C) (r : Reached s p) (b : Bool) → is_flagged s r.ino ≡ true → (b || true) ≡ any_flagged s (paths_of s)
  is_one p r b has =
      or_true b
      ∙ sym (ap (any_flagged s) (sym r.parts) ∙ any_both r.done ((p.at, r.ino) ∷ r.rest) ∙ ap (λ (c : Bool). any_flagged s r.done || (c || any_flagged s r.rest)) has ∙ or_true (any_flagged s r.done))

  pub root_one : IsLawful s → is_flagged s 256 ≡ true → any_flagged s (paths_of s) ≡ true
  root_one lawful has = let b = paths_begin s lawful in ap (any_flagged s) b.1 ∙ ap (λ (c : Bool). c || any_flagged s b.0) has
