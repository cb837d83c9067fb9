-- What is remembered of the last walks: what it is good for, and that it is kept right.
use Rattle.std.specs.Prelude.{◌≡◌, ℕ, ◌<◌, Bool, true, false, List, [], ◌∷◌, ◌++◌, length, take, ◌-◌, ◌≤◌, Option, None, Some, Result, Ok, Err, IsTrue}
use Rattle.std.proofs.Common.{refl, sym, ap, subst, ◌∙◌, arith, inl, inr}
use Rattle.std.proofs.lemmas.Bool.{true≢false}
use Rattle.send_model.specs.Refusal.{Refusal, BadPath, NoEntry, NotDirectory}
use Rattle.send_model.specs.Chain.{◌>>=◌, ◌>>◌, require, found}
use Rattle.send_model.specs.Path.{is_name, path_names}
use Rattle.send_model.specs.Subvolume.{Subvolume, Spot, root, is_directory, named, walk_names, walk, spot, all_but_last, IsSound}
use Rattle.send_model.specs.Edit.{at_spot}
use Rattle.send_model.proofs.Fuel.{bound, required, ok_same}
use Rattle.send_model.proofs.PathLaws.{path_names_all}
use Rattle.send_model.proofs.WalkLaws.{Step, Leads, leads-map, leads-leaf, leads_from_walk, walk_from_leads}
use Rattle.inode_tree.specs.Places.{one_step, last_of, spot_from}
use Rattle.inode_tree.specs.Walked.{Walked, nothing, front_of, IsFront, LeadsTo, IsKnown, LearnsFront, without_name, GoesOn, spot_below}
use Rattle.inode_tree.proofs.Chains.{goes_on, stops}
use Rattle.inode_tree.proofs.Fronts.{names_behind, front_and_name, front_lawful, front_cut, some_name, one_name}
use Rattle.inode_tree.proofs.Walks.{walk_begins, walk_refused, walk_goes_on, walk_stops, walk_ends, spot_refused, spot_root, spot_begins, spot_goes_on, spot_stops, spot_ends_there, spot_ends_nowhere}

no_names : path_names [] ≡ Some []
unfolding path_names
no_names = refl

module _ {C : Type 0} (s : Subvolume C) where
  -- ---- from a front on

  step_ok : (from : ℕ) (name : List ℕ) (below : ℕ) → Step s from name below → one_step s from name ≡ Ok below
  step_ok from name below step =
      ap (λ (b : Bool). require b NotDirectory >> found (named s from name) NoEntry) step.0 ∙ ap (λ (o : Option ℕ). found o NoEntry) step.1

  below_steps : (names : List (List ℕ)) (from to : ℕ) → Leads (Step s) names from to → (name : List ℕ) (rest : List (List ℕ)) → spot_below s from (names ++ name ∷ rest) ≡ spot_below s to (name ∷ rest)
  below_steps [] from to leads name rest = ap (λ (d : ℕ). spot_below s d (name ∷ rest)) leads
  below_steps (first ∷ []) from to leads name rest =
      spot_goes_on s from first name rest leads.0 (step_ok from first leads.0 leads.1) ∙ below_steps [] leads.0 to leads.2 name rest
  below_steps (first ∷ second ∷ names) from to leads name rest =
      spot_goes_on s from first second (names ++ name ∷ rest) leads.0 (step_ok from first leads.0 leads.1) ∙ below_steps (second ∷ names) leads.0 to leads.2 name rest

  by_names : (path : List ℕ) (names : List (List ℕ)) → path_names path ≡ Some names → spot s path ≡ spot_below s root names
  by_names path [] found = spot_root s path found
  by_names path (name ∷ rest) found = spot_begins s path name rest found

  -- A walk may begin at the directory of a front.
  pub front_begins : (front : List ℕ) (directory : ℕ) → IsFront s front directory → (path rest : List ℕ) (names : List (List ℕ)) → GoesOn front path rest → path_names rest ≡ Some names → spot s path ≡ spot_below s directory names
  front_begins front directory is path rest names goes found =
      let all = names_behind is.names path rest names is.lawful (subst (λ (f : List ℕ). GoesOn f path rest) is.spelled goes) found in
      by_names path (is.names ++ names) all ∙ some names found
    where
      some : (ns : List (List ℕ)) → path_names rest ≡ Some ns → spot_below s root (is.names ++ ns) ≡ spot_below s directory ns
      some [] none = absurd (empty rest goes.some none)
        where
          empty : (r : List ℕ) → 0 < length r → path_names r ≡ Some [] → ⊥
          empty [] more none = absurd (omega arith)
          empty (b ∷ r) more none = some_name b r none
      some (name ∷ ns) e = below_steps is.names root directory (leads_from_walk s is.names root directory is.leads) name ns

  pub root_begins : (path : List ℕ) (names : List (List ℕ)) → path_names path ≡ Some names → spot s path ≡ spot_below s root names
  root_begins = by_names

  -- One name behind a front, or alone, is a place in the directory of the front, or in the root.
  pub name_behind : (front : List ℕ) (directory : ℕ) → IsFront s front directory → (path rest : List ℕ) → GoesOn front path rest → is_name rest ≡ true → spot s path ≡ Ok (record { directory = directory; name = rest })
  name_behind front directory is path rest goes good = front_begins front directory is path rest (rest ∷ []) goes (one_name rest good) ∙ spot_ends_there s directory rest is.there

  pub name_alone : is_directory s root ≡ true → (path : List ℕ) → is_name path ≡ true → spot s path ≡ Ok (record { directory = root; name = path })
  name_alone there path good = by_names path (path ∷ []) (one_name path good) ∙ spot_ends_there s root path there

  -- ---- a walk by its place

  last_step : (directory : ℕ) (name : List ℕ) → walk_names s directory (name ∷ []) ≡ (spot_from s directory name [] >>= λ place. found (at_spot s place) NoEntry)
  last_step directory name = one (is_directory s directory) refl
    where
      one : (b : Bool) → is_directory s directory ≡ b → walk_names s directory (name ∷ []) ≡ (spot_from s directory name [] >>= λ place. found (at_spot s place) NoEntry)
      one true d = here (named s directory name) refl ∙ sym (ap (λ (x : Result Spot Refusal). x >>= λ place. found (at_spot s place) NoEntry) (spot_ends_there s directory name d))
        where
          here : (o : Option ℕ) → named s directory name ≡ o → walk_names s directory (name ∷ []) ≡ found (named s directory name) NoEntry
          here (Some below) n = walk_goes_on s directory name [] below (step_ok directory name below (d, n)) ∙ walk_ends s below ∙ ap (λ (o : Option ℕ). found o NoEntry) (sym n)
          here None n =
              walk_stops s directory name [] NoEntry (ap (λ (b : Bool). require b NotDirectory >> found (named s directory name) NoEntry) d ∙ ap (λ (o : Option ℕ). found o NoEntry) n)
              ∙ ap (λ (o : Option ℕ). found o NoEntry) (sym n)
      one false d =
          walk_stops s directory name [] NotDirectory (ap (λ (b : Bool). require b NotDirectory >> found (named s directory name) NoEntry) d)
          ∙ sym (ap (λ (x : Result Spot Refusal). x >>= λ place. found (at_spot s place) NoEntry) (spot_ends_nowhere s directory name d))

  by_place : (directory : ℕ) (name : List ℕ) (rest : List (List ℕ)) → walk_names s directory (name ∷ rest) ≡ (spot_from s directory name rest >>= λ place. found (at_spot s place) NoEntry)
  by_place directory name [] = last_step directory name
  by_place directory name (further ∷ rest) = one (one_step s directory name) refl (λ below. by_place below further rest)
    where
      one : (o : Result ℕ Refusal) → one_step s directory name ≡ o → ((below : ℕ) → walk_names s below (further ∷ rest) ≡ (spot_from s below further rest >>= λ place. found (at_spot s place) NoEntry))
          → walk_names s directory (name ∷ further ∷ rest) ≡ (spot_from s directory name (further ∷ rest) >>= λ place. found (at_spot s place) NoEntry)
      one (Ok below) e more = walk_goes_on s directory name (further ∷ rest) below e ∙ more below ∙ sym (ap (λ (x : Result Spot Refusal). x >>= λ place. found (at_spot s place) NoEntry) (spot_goes_on s directory name further rest below e))
      one (Err refusal) e more = walk_stops s directory name (further ∷ rest) refusal e ∙ sym (ap (λ (x : Result Spot Refusal). x >>= λ place. found (at_spot s place) NoEntry) (spot_stops s directory name further rest refusal e))

  -- The empty path is the root; each other one leads to what is named at its place.
  pub walk_empty : (path : List ℕ) → length path ≡ 0 → walk s path ≡ Ok root
  walk_empty [] none = walk_begins s [] [] no_names ∙ walk_ends s root
  walk_empty (b ∷ path) none = absurd (omega arith)

  walk_by_place : (path : List ℕ) → (length path ≡ 0 → ⊥) → walk s path ≡ (spot s path >>= λ place. found (at_spot s place) NoEntry)
  walk_by_place path some = one (path_names path) refl
    where
      empty : (p : List ℕ) → (length p ≡ 0 → ⊥) → path_names p ≡ Some [] → ⊥
      empty [] more none = more refl
      empty (b ∷ p) more none = some_name b p none

      one : (o : Option (List (List ℕ))) → path_names path ≡ o → walk s path ≡ (spot s path >>= λ place. found (at_spot s place) NoEntry)
      one None e = walk_refused s path e ∙ sym (ap (λ (x : Result Spot Refusal). x >>= λ place. found (at_spot s place) NoEntry) (spot_refused s path e))
      one (Some []) e = absurd (empty path some e)
      one (Some (name ∷ rest)) e = walk_begins s path (name ∷ rest) e ∙ by_place root name rest ∙ sym (ap (λ (x : Result Spot Refusal). x >>= λ place. found (at_spot s place) NoEntry) (spot_begins s path name rest e))

  pub walk_lost : (path : List ℕ) → (length path ≡ 0 → ⊥) → (refusal : Refusal) → spot s path ≡ Err refusal → walk s path ≡ Err refusal
  walk_lost path some refusal e = walk_by_place path some ∙ stops (spot s path) (λ place. found (at_spot s place) NoEntry) refusal e

  -- A place has a path that is not empty.
  placed_some : (path : List ℕ) (place : Spot) → spot s path ≡ Ok place → length path ≡ 0 → ⊥
  placed_some [] place at none = cc (sym at ∙ spot_root s [] no_names)
  placed_some (b ∷ path) place at none = omega arith

  module _ (path : List ℕ) (place : Spot) (at : spot s path ≡ Ok place) where
    pub walk_misses : at_spot s place ≡ None → walk s path ≡ Err NoEntry
    walk_misses e = walk_by_place path (placed_some path place at) ∙ goes_on (spot s path) (λ p. found (at_spot s p) NoEntry) place at ∙ ap (λ (o : Option ℕ). found o NoEntry) e

    pub walk_finds : (ino : ℕ) → at_spot s place ≡ Some ino → walk s path ≡ Ok ino
    walk_finds ino e = walk_by_place path (placed_some path place at) ∙ goes_on (spot s path) (λ p. found (at_spot s p) NoEntry) place at ∙ ap (λ (o : Option ℕ). found o NoEntry) e

    -- What a path leads to stands at its place.
    pub what_stands : (ino : ℕ) → walk s path ≡ Ok ino → at_spot s place ≡ Some ino
    what_stands ino walked = one (at_spot s place) refl
      where
        one : (o : Option ℕ) → at_spot s place ≡ o → at_spot s place ≡ Some ino
        one None e = cc (sym walked ∙ walk_misses e)
        one (Some x) e = e ∙ (let some : ℕ → Option ℕ = λ n. Some n in ap some (ok_same (sym (walk_finds x e) ∙ walked)))

    -- ---- a place gives a front

    pub record Placed : Type 0 where
      pub first : List ℕ
      pub rest : List (List ℕ)
      pub of_path : path_names path ≡ Some (first ∷ rest)
      pub walked : walk_names s root (all_but_last (first ∷ rest)) ≡ Ok place.directory
      pub directory : IsTrue (is_directory s place.directory)
      pub name : place.name ≡ last_of first rest

    from_names : (first : List ℕ) (rest : List (List ℕ)) → path_names path ≡ Some (first ∷ rest) → Placed
    from_names first rest e =
        let a = bound (walk_names s root (all_but_last (first ∷ rest))) _ place (sym (spot_begins s path first rest e) ∙ at) in
        let d = required (is_directory s a.0) NotDirectory _ place a.2 in
        let same = ok_same d.1 in
        record {
          first = first;
          rest = rest;
          of_path = e;
          walked = a.1 ∙ (let ok : ℕ → Result ℕ Refusal = λ n. Ok n in ap (λ (p : Spot). ok p.directory) same);
          directory = subst (λ (p : Spot). IsTrue (is_directory s p.directory)) same d.0;
          name = ap (λ (p : Spot). p.name) (sym same);
        }

    pub placed : Placed
    placed = one (path_names path) refl
      where
        one : (o : Option (List (List ℕ))) → path_names path ≡ o → Placed
        one None e = cc (sym at ∙ spot_refused s path e)
        one (Some []) e = cc (sym at ∙ spot_root s path e)
        one (Some (first ∷ rest)) e = from_names first rest e

    -- The bytes in front of the name of a place are a front, and no fewer than the name leaves.
    pub place_front : (length place.name ≤ length path) × IsFront s (take (length path - length place.name) path) place.directory
    place_front =
        let p = placed in
        let front = front_of (all_but_last (p.first ∷ p.rest)) in
        let whole : path ≡ front ++ place.name = front_and_name path p.first p.rest p.of_path ∙ ap (λ (n : List ℕ). front ++ n) (sym p.name) in
        let cut = front_cut path front place.name whole in (
          cut.0,
          record {
            names = all_but_last (p.first ∷ p.rest);
            lawful = front_lawful p.first p.rest (path_names_all path (p.first ∷ p.rest) p.of_path);
            spelled = cut.1;
            leads = p.walked;
            there = p.directory;
          },
        )

-- ---- subvolumes in which directories stay

module _ {C : Type 0} (s t : Subvolume C) where
  -- Names that lead to a directory still do.
  abbrev pub DirectoriesStay : Type 0
  DirectoriesStay = (names : List (List ℕ)) (directory : ℕ) → walk_names s root names ≡ Ok directory → is_directory s directory ≡ true → (walk_names t root names ≡ Ok directory) × (is_directory t directory ≡ true)

  -- All steps and directories stay; or those that have nothing to do with an inode.
  pub record Grows : Type 0 where
    pub steps : (from : ℕ) (name : List ℕ) (below : ℕ) → Step s from name below → Step t from name below
    pub directories : (directory : ℕ) → is_directory s directory ≡ true → is_directory t directory ≡ true

  pub record GrowsBut (x : ℕ) : Type 0 where
    pub steps : (from : ℕ) (name : List ℕ) (below : ℕ) → (from ≡ x → ⊥) → (below ≡ x → ⊥) → Step s from name below → Step t from name below
    pub directories : (directory : ℕ) → (directory ≡ x → ⊥) → is_directory s directory ≡ true → is_directory t directory ≡ true

  walks_grow : Grows → (names : List (List ℕ)) (to : ℕ) → walk_names s root names ≡ Ok to → walk_names t root names ≡ Ok to
  walks_grow grows names to walked = walk_from_leads t names root to (leads-map (Step s) (Step t) grows.steps names root to (leads_from_walk s names root to walked))

  pub growing_stays : Grows → DirectoriesStay
  growing_stays grows names directory walked is = (walks_grow grows names directory walked, grows.directories directory is)

  -- What is no directory can come, go or move, and directories stay.
  pub plain_stays : (x : ℕ) → is_directory s x ≡ false → GrowsBut x → DirectoriesStay
  plain_stays x plain grows names directory walked is =
      let differ : directory ≡ x → ⊥ = λ same. true≢false (sym is ∙ ap (is_directory s) same ∙ plain) in (
        walk_from_leads t names root directory
            (leads-leaf (Step s) (Step t) x (λ name below step. true≢false (sym step.0 ∙ plain)) (λ from name below m n step. grows.steps from name below m n step) names root directory (leads_from_walk s names root directory walked) differ),
        grows.directories directory differ is,
      )

  -- ---- what is remembered stays

  front_stays : DirectoriesStay → (front : List ℕ) (directory : ℕ) → IsFront s front directory → IsFront t front directory
  front_stays stay front directory is = let here = stay is.names directory is.leads is.there in record { names = is.names; lawful = is.lawful; spelled = is.spelled; leads = here.0; there = here.1 }

  walk_grows : Grows → (path : List ℕ) (ino : ℕ) → walk s path ≡ Ok ino → walk t path ≡ Ok ino
  unfolding walk
  walk_grows grows path ino walked =
      let a = bound (found (path_names path) BadPath) (λ names. walk_names s root names) ino walked in
      ap (λ (r : Result (List (List ℕ)) Refusal). r >>= λ names. walk_names t root names) a.1 ∙ walks_grow grows a.0 ino a.2

  path_grows : Grows → (path : List ℕ) (o : Option ℕ) → LeadsTo s path o → LeadsTo t path o
  path_grows grows path None leads = tt
  path_grows grows path (Some ino) leads = walk_grows grows path ino leads

  pub known_grows : Grows → (last : Walked) → IsKnown s last → IsKnown t last
  known_grows grows last known = record { front = front_stays (growing_stays grows) last.front last.directory known.front; path = path_grows grows last.path last.ino known.path }

  -- A place stays where directories do.
  pub place_stays : DirectoriesStay → (path : List ℕ) (place : Spot) → spot s path ≡ Ok place → spot t path ≡ Ok place
  place_stays stay path place at =
      let p = placed s path place at in
      let here = stay (all_but_last (p.first ∷ p.rest)) place.directory p.walked p.directory in
      spot_begins t path p.first p.rest p.of_path
      ∙ ap (λ (r : Result ℕ Refusal). r >>= λ there. (require (is_directory t there) NotDirectory >> Ok (record { directory = there; name = last_of p.first p.rest }))) here.0
      ∙ ap (λ (b : Bool). require b NotDirectory >> Ok (record { directory = place.directory; name = last_of p.first p.rest })) here.1
      ∙ ap (λ (n : List ℕ). let ok : Spot → Result Spot Refusal = λ x. Ok x in ok (record { directory = place.directory; name = n })) (sym p.name)

module _ {C : Type 0} (t : Subvolume C) where
  -- ---- what is forgotten and what is learnt

  pub no_front : IsSound t → IsFront t [] root
  no_front sound = record { names = []; lawful = refl; spelled = refl; leads = walk_ends t root; there = sound.root_there }

  pub nothing_known : IsSound t → IsKnown t nothing
  nothing_known sound = record { front = no_front sound; path = tt }

  pub front_learnt : IsSound t → (old new : Walked) (front : List ℕ) (directory : ℕ) → IsFront t front directory → IsKnown t old → LearnsFront old new front directory → IsKnown t new
  front_learnt sound old new front directory is known (inl e) = subst (λ (w : Walked). IsKnown t w) (sym e) (record { front = is; path = known.path })
  front_learnt sound old new front directory is known (inr (inl e)) = subst (λ (w : Walked). IsKnown t w) (sym e) known
  front_learnt sound old new front directory is known (inr (inr e)) = subst (λ (w : Walked). IsKnown t w) (sym e) (record { front = no_front sound; path = known.path })

  -- Where a name went that is no directory's, directories stay; else nothing is remembered.
  pub known_without : (s : Subvolume C) (directory : Bool) → (directory ≡ false → DirectoriesStay s t) → IsSound t → (last : Walked) → IsKnown s last → IsKnown t (without_name directory last)
  known_without s true stay sound last known = record { front = no_front sound; path = tt }
  known_without s false stay sound last known = record { front = front_stays s t (stay refl) last.front last.directory known.front; path = tt }
