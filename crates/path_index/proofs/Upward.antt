-- The way up from a name, directory by directory: the bytes of the names passed so far end each
-- path that ends with the name.
use Rattle.std.specs.Prelude.{◌≡◌, ℕ, ◌+◌, ◌<◌, ◌≤◌, Bool, true, false, cond, List, [], ◌∷◌, ◌++◌, length, Some}
use Rattle.std.specs.Ordering.{eq_by_cmp}
use Rattle.std.specs.Cmp.{Equal-is}
use Rattle.std.specs.List.{AllByRecursion, list_all, join_with_byte}
use Rattle.std.proofs.Common.{refl, sym, ap, subst, ◌∙◌, arith, inl, append_assoc, append-nil, length-append}
use Rattle.send_model.specs.Path.{slash, is_name, between_slashes, path_names}
use Rattle.send_model.specs.Map.{Map, named_cmp, value_at}
use Rattle.send_model.specs.Subvolume.{Subvolume, IsSound, IsLawful, root, named, is_directory}
use Rattle.inode_tree.proofs.Fronts.{cut_off, whole_piece, join_pieces, path_is}
use Rattle.send_model.proofs.LeastPaths.{name_has_no_slash}
use Rattle.send_model.proofs.MapLaws.{named_cmp_exact}
use Rattle.send_model.proofs.WalkLaws.{Step, Leads, leads_from_walk, walk_from_leads}
use Rattle.send_model.proofs.PathLaws.{path_by_pieces, path_names_short, is_name_length}
use Rattle.path_index.specs.Places.{places_of}
use Rattle.path_index.specs.Ways.{EndsAt, IsOnlyPath}
use Rattle.path_index.proofs.Named.{Among, place_among, among_named, directory_place}

-- ---- names and slashes

name_alone : (name : List ℕ) → is_name name ≡ true → between_slashes name ≡ name ∷ []
name_alone name good = whole_piece name (name_has_no_slash name good)

same_names : (p q : List ℕ) (names : List (List ℕ)) → path_names p ≡ Some names → path_names q ≡ Some names → p ≡ q
same_names p q names e f = sym (path_is p names e) ∙ path_is q names f

join_longer : (front names : List (List ℕ)) → length (join_with_byte slash names) ≤ length (join_with_byte slash (front ++ names))
join_longer [] names = omega arith
join_longer (name ∷ front) names = one (front ++ names) (join_longer front names)
  where
    one : (more : List (List ℕ)) → length (join_with_byte slash names) ≤ length (join_with_byte slash more) → length (join_with_byte slash names) ≤ length (join_with_byte slash (name ∷ more))
    one [] h = omega (arith, h)
    one (m ∷ more) h = omega (arith, h, length-append name (slash ∷ join_with_byte slash (m ∷ more)))

good_at : (m : Map (ℕ × List ℕ) ℕ) (k : ℕ × List ℕ) (x : ℕ) → AllByRecursion (λ e. is_name e.0.1 ≡ true) m → value_at named_cmp k m ≡ Some x → is_name k.1 ≡ true
good_at [] k x all e = cc
good_at (f ∷ m) k x all e = one (eq_by_cmp named_cmp k f.0) refl e (good_at m k x all.1)
  where
    one : (b : Bool) → eq_by_cmp named_cmp k f.0 ≡ b → cond b (Some f.1) (value_at named_cmp k m) ≡ Some x → (value_at named_cmp k m ≡ Some x → is_name k.1 ≡ true) → is_name k.1 ≡ true
    one true t q more = subst (λ (p : ℕ × List ℕ). is_name p.1 ≡ true) (sym (named_cmp_exact k f.0 ((Equal-is _).0 t))) all.0
    one false t q more = more q

-- ---- the last step of a walk

module _ {C : Type 0} (s : Subvolume C) where
  pub record LastStep (names : List (List ℕ)) (from to : ℕ) : Type 0 where
    pub before : List (List ℕ)
    pub name : List ℕ
    pub directory : ℕ
    pub names_are : names ≡ before ++ name ∷ []
    pub leads : Leads (Step s) before from directory
    pub step : Step s directory name to

  last_step : (name : List ℕ) (names : List (List ℕ)) (from to : ℕ) → Leads (Step s) (name ∷ names) from to → LastStep (name ∷ names) from to
  last_step name [] from to l = record {
    before = [];
    name = name;
    directory = from;
    names_are = refl;
    leads = refl;
    step = subst (λ (x : ℕ). Step s from name x) l.2 l.1;
  }
  last_step name (more ∷ names) from to l =
      let r = last_step more names l.0 to l.2 in record {
        before = name ∷ r.before;
        name = r.name;
        directory = r.directory;
        names_are = ap (λ (ns : List (List ℕ)). name ∷ ns) r.names_are;
        leads = (l.0, l.1, r.leads);
        step = r.step;
      }

  pub some_step : (names : List (List ℕ)) (from to : ℕ) → (to ≡ from → ⊥) → Leads (Step s) names from to → LastStep names from to
  some_step [] from to n l = absurd (n (sym l))
  some_step (name ∷ names) from to n l = last_step name names from to l

  -- Nothing but no names leads to the root.
  no_names : IsSound s → (names : List (List ℕ)) → Leads (Step s) names root root → names ≡ []
  no_names sound [] l = refl
  no_names sound (name ∷ names) l = let r = last_step name names root root l in absurd (sound.root_unnamed r.directory r.name r.step.1)

  -- ---- the way up

  -- The names passed so far lead from a directory to the place, and the bytes are they and the
  -- place's name; each way from the root to the place passes this directory and ends with these
  -- names.
  pub record Up (place : ℕ × List ℕ) (directory : ℕ) (bytes : List ℕ) : Type 0 where
    pub passed : List (List ℕ)
    pub some : 1 ≤ length bytes
    pub pieces : between_slashes bytes ≡ passed ++ place.1 ∷ []
    pub names : list_all is_name (passed ++ place.1 ∷ []) ≡ true
    pub is_one : is_directory s directory ≡ true
    pub leads : Leads (Step s) passed directory place.0
    pub only : (names : List (List ℕ)) → Leads (Step s) names root place.0 → (front : List (List ℕ)) × (names ≡ front ++ passed) × Leads (Step s) front root directory

  name_is : IsLawful s → (directory : ℕ) (name : List ℕ) (ino : ℕ) → named s directory name ≡ Some ino → is_name name ≡ true
  name_is lawful directory name ino e = good_at s.names (directory, name) ino lawful.lawful_names e

  pub name_fits : IsLawful s → (place : ℕ × List ℕ) (ino : ℕ) → named s place.0 place.1 ≡ Some ino → (1 ≤ length place.1) × (length place.1 ≤ 255)
  name_fits lawful place ino e = is_name_length place.1 (name_is lawful place.0 place.1 ino e)

  pub at_place : IsLawful s → (place : ℕ × List ℕ) (ino : ℕ) → named s place.0 place.1 ≡ Some ino → Up place place.0 place.1
  at_place lawful place ino e =
      let good = name_is lawful place.0 place.1 ino e in record {
        passed = [];
        some = (is_name_length place.1 good).0;
        pieces = name_alone place.1 good;
        names = rw good refl;
        is_one = lawful.sound.in_directory place.0 place.1 ino e;
        leads = refl;
        only = λ names l. (names, sym (append-nil names), l);
      }

  -- One name further up.
  pub one_up : IsLawful s → (place : ℕ × List ℕ) (directory : ℕ) (bytes : List ℕ) → Up place directory bytes → (directory ≡ root → ⊥)
      → (first : ℕ × List ℕ) (rest : List (ℕ × List ℕ)) → places_of s.names directory ≡ first ∷ rest → Up place first.0 (first.1 ++ slash ∷ bytes)
  one_up lawful place directory bytes up n first rest e =
      let there : named s first.0 first.1 ≡ Some directory = among_named s.names first directory lawful.sound.names_in_order (subst (λ (ps : List (ℕ × List ℕ)). Among first ps) (sym e) (inl refl)) in
      let good : is_name first.1 ≡ true = name_is lawful first.0 first.1 directory there in
      let is : is_directory s first.0 ≡ true = lawful.sound.in_directory first.0 first.1 directory there in record {
        passed = first.1 ∷ up.passed;
        some = omega (arith, up.some, length-append first.1 (slash ∷ bytes));
        pieces = cut_off first.1 bytes (name_has_no_slash first.1 good) ∙ ap (λ (ns : List (List ℕ)). first.1 ∷ ns) up.pieces;
        names = rw good up.names;
        is_one = is;
        leads = (directory, (is, there), up.leads);
        only = λ names l. further names (up.only names l);
      }
    where
      further : (names : List (List ℕ)) → (front : List (List ℕ)) × (names ≡ front ++ up.passed) × Leads (Step s) front root directory
          → (front : List (List ℕ)) × (names ≡ front ++ first.1 ∷ up.passed) × Leads (Step s) front root first.0
      further names w =
          let r = some_step w.0 root directory n w.2 in
          let same : (r.directory, r.name) ≡ first = directory_place s lawful.sound directory up.is_one first rest e (r.directory, r.name) r.step.1 in (
            r.before,
            w.1 ∙ ap (λ (ns : List (List ℕ)). ns ++ up.passed) r.names_are ∙ append_assoc r.before (r.name ∷ []) up.passed ∙ ap (λ (p : ℕ × List ℕ). r.before ++ p.1 ∷ up.passed) same,
            subst (λ (p : ℕ × List ℕ). Leads (Step s) r.before root p.0) same r.leads,
          )

  -- ---- the ends of the way

  ways : (place : ℕ × List ℕ) (other : List ℕ) → (o : EndsAt s place other) → Leads (Step s) o.before root place.0
  ways place other o = leads_from_walk s o.before root place.0 o.leads

  -- At the root the bytes are the one path.
  pub at_root : IsLawful s → (place : ℕ × List ℕ) (directory : ℕ) (bytes : List ℕ) → Up place directory bytes → directory ≡ root → length bytes ≤ 4095 → IsOnlyPath s place bytes
  at_root lawful place directory bytes up e short =
      let names_are : path_names bytes ≡ Some (up.passed ++ place.1 ∷ []) = path_by_pieces bytes true (omega (arith, up.some)) short (ap (list_all is_name) up.pieces ∙ up.names) ∙ ap (λ (ns : List (List ℕ)). Some ns) up.pieces in record {
        ends = record {
          before = up.passed;
          names_are = names_are;
          leads = walk_from_leads s up.passed root place.0 (subst (λ (d : ℕ). Leads (Step s) up.passed d place.0) e up.leads);
        };
        only = λ other o. one other o names_are (up.only o.before (ways place other o));
      }
    where
      one : (other : List ℕ) (o : EndsAt s place other) → path_names bytes ≡ Some (up.passed ++ place.1 ∷ []) → (front : List (List ℕ)) × (o.before ≡ front ++ up.passed) × Leads (Step s) front root directory → other ≡ bytes
      one other o names_are w =
          let none : w.0 ≡ [] = no_names lawful.sound w.0 (subst (λ (d : ℕ). Leads (Step s) w.0 root d) e w.2) in
          let same : o.before ≡ up.passed = w.1 ∙ ap (λ (ns : List (List ℕ)). ns ++ up.passed) none in
          same_names other bytes (up.passed ++ place.1 ∷ []) (o.names_are ∙ ap (λ (ns : List (List ℕ)). Some (ns ++ place.1 ∷ [])) same) names_are

  -- A directory below the root that no name leads to: there is no path.
  pub no_way : IsLawful s → (place : ℕ × List ℕ) (directory : ℕ) (bytes : List ℕ) → Up place directory bytes → (directory ≡ root → ⊥)
      → places_of s.names directory ≡ [] → (other : List ℕ) → EndsAt s place other → ⊥
  no_way lawful place directory bytes up n none other o =
      let w = up.only o.before (ways place other o) in
      let r = some_step w.0 root directory n w.2 in
      subst (λ (ps : List (ℕ × List ℕ)). Among (r.directory, r.name) ps) none (place_among s.names (r.directory, r.name) directory r.step.1)

  -- With one name more the bytes are longer than a path may be.
  pub too_long : IsLawful s → (place : ℕ × List ℕ) (directory : ℕ) (bytes : List ℕ) → Up place directory bytes → (directory ≡ root → ⊥)
      → (first : ℕ × List ℕ) (rest : List (ℕ × List ℕ)) → places_of s.names directory ≡ first ∷ rest → 4095 < length first.1 + 1 + length bytes → (other : List ℕ) → EndsAt s place other → ⊥
  too_long lawful place directory bytes up n first rest e long other o =
      let next = one_up lawful place directory bytes up n first rest e in
      let w = next.only o.before (ways place other o) in
      let names_are : path_names other ≡ Some (w.0 ++ (next.passed ++ place.1 ∷ [])) = o.names_are ∙ ap (λ (ns : List (List ℕ)). Some (ns ++ place.1 ∷ [])) w.1 ∙ ap (λ (ns : List (List ℕ)). Some ns) (append_assoc w.0 next.passed (place.1 ∷ [])) in
      let whole : join_with_byte slash (w.0 ++ (next.passed ++ place.1 ∷ [])) ≡ other = path_is other (w.0 ++ (next.passed ++ place.1 ∷ [])) names_are in
      let end : join_with_byte slash (next.passed ++ place.1 ∷ []) ≡ first.1 ++ slash ∷ bytes = ap (join_with_byte slash) (sym next.pieces) ∙ join_pieces (first.1 ++ slash ∷ bytes) in
      absurd (omega (
        arith,
        long,
        join_longer w.0 (next.passed ++ place.1 ∷ []),
        ap length whole,
        ap length end,
        length-append first.1 (slash ∷ bytes),
        path_names_short other (w.0 ++ (next.passed ++ place.1 ∷ [])) names_are,
      ))
