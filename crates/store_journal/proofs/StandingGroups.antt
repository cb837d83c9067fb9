-- Groups over places of a disk, as groups over the numbers of places.
use Rattle.std.specs.Prelude.{◌≡◌, ◌⊎◌, ℕ, suc, ◌+◌, List, [], ◌∷◌, ◌++◌, length, map, Option, None, Some}
use Rattle.std.specs.Option.{option_map}
use Rattle.std.specs.List.{AllByRecursion, range_with_len}
use Rattle.std.proofs.Common.{refl, sym, ap, subst, ◌∙◌, inl, inr, lit<, arith, flat_map, append_assoc}
use Rattle.std.proofs.lemmas.List.{append-nil}
use Rattle.extent_map.specs.Pieces.{run_cells}
use Rattle.send_model.specs.Store.{Store}
use Rattle.send_model.specs.Cells.{recelled_store}
use Rattle.store_model.specs.Image.{Header, IsHeader, IsShort, IsCutShort, front_of, group_of, header_of, usual_header}
use Rattle.store_model.specs.Stored.{Group, body_bytes, IsGroup, as_bytes, as_places, byte_of, first_gate, body_at, made, made_all, Makes, Stands, IsBadGroup, FailsBehind, StandsForNone}
use Rattle.store_model.proofs.CellRuns.{made-cells, made_all-cells, all_put_same}
use Rattle.store_model.proofs.OneStore.{one_store}
use Rattle.store_model.proofs.PlacedBytes.{groups_here, places_stand}
use Rattle.group_log.proofs.GatedGroups.{has_closed, rests_has, grows_has}
use Rattle.group_replay.specs.declared.place.Place.{Place}
use Rattle.group_replay.specs.Placing.{further}
use Rattle.group_replay.specs.Taking.{as_runs}
use Rattle.store_journal.specs.Holding.{bodies_of, Holds}
use Rattle.store_journal.specs.Shown.{StoreState}
use Rattle.sx_base.specs.Disk.{Pending}
use Rattle.store_journal.specs.Standing.{with_bytes, GroupsStand, NewStands, HoldsStands, BuildsStands, HoldsOne, StoresHaveSize}

pub number_of : Option Place → Option ℕ
number_of place = option_map (λ p. p.at) place

map-map : {A B C : Type 0} (f : B → C) (g : A → B) (xs : List A) → map f (map g xs) ≡ map (λ x. f (g x)) xs
map-map f g [] = refl
map-map f g (x ∷ xs) = ap (λ (l : List _). f (g x) ∷ l) (map-map f g xs)

-- which cells are put where
pub runs_are_places : (place : ℕ) (bytes : List ℕ) → map number_of (as_runs place bytes) ≡ as_places place bytes
unfolding number_of run_cells
runs_are_places place bytes = map-map number_of (λ (k : ℕ). Some (further (record { at = place }) k)) (range_with_len 0 (length bytes))

pub made_in_places : (groups : List Group) (core : Store (Option Place)) → made_all None as_runs first_gate [] groups ≡ Some core → made_all None as_places first_gate [] groups ≡ Some (recelled_store number_of core)
unfolding number_of
made_in_places groups core e =
    made_all-cells number_of None as_runs as_places first_gate [] groups (all_put_same number_of None as_runs as_places runs_are_places first_gate groups)
    ∙ ap (option_map (recelled_store number_of)) e

pub stand : GroupsStand
unfolding number_of
stand header groups core image has makes =
    places_stand image (recelled_store number_of core) (record {
      header = header;
      groups = groups;
      has = has;
      makes = record { lawful = makes.lawful; made = made_in_places groups core makes.made };
    })

pub new_stands : NewStands
unfolding made_all
new_stands = record {
  header = usual_header;
  groups = [];
  has = record { gate = 0; rest = []; closed = λ e. cc; bytes = refl; lawful = record { format = inr refl; number_fits = lit< tt }; lengths_fit = tt };
  makes = record { lawful = tt; made = refl };
}

pub holds_stands : HoldsStands
holds_stands header groups store seen image pending h is = stand header groups store.core image (rests_has header (bodies_of groups) store.log seen pending h.rests image is) h.makes

pub builds_stands : BuildsStands
builds_stands header groups version commands part store seen image pending b is =
    stand header groups store.core image (grows_has header (bodies_of groups) _ store.log seen pending b.grows image is) b.makes

-- one store is held
holds_place : (header : Header) (groups : List Group) (store : StoreState) (seen : List ℕ) (pending : Pending) → Holds header groups store seen pending → Stands None as_runs seen store.core
holds_place header groups store seen pending h = record {
  header = header;
  groups = groups;
  has = has_closed header (bodies_of groups) store.log h.rests.gate h.rests.rest seen h.rests.behind h.rests.closed h.rests.bytes;
  makes = h.makes;
}

pub holds_one : HoldsOne
holds_one header other groups others store again seen pending later h o =
    one_store None as_runs seen again.core store.core (holds_place other others again seen later o) (holds_place header groups store seen pending h)

pub have_size : StoresHaveSize
have_size len part store (inl idle) = record { size = idle.rest.size; groups = omega (arith, idle.rest.whole) }
have_size len part store (inr is_open) = record { size = is_open.progress.size; groups = omega (arith, is_open.progress.begun) }

-- ---- groups in front of others, or of what is at fault

module _ (header : Header) (groups : List Group) (core : Store (Option Place)) (image rest : List ℕ) (makes : Makes None as_runs header.format groups core) (is : image ≡ front_of header (bodies_of groups) ++ rest) where
  abbrev front : List ℕ
  front = front_of header (bodies_of groups)

  -- they make the subvolumes with their bytes
  pub front_makes : Makes 0 as_bytes header.format groups (with_bytes image core)
  unfolding number_of
  front_makes = record {
    lawful = makes.lawful;
    made = made_all-cells (byte_of image) None as_places as_bytes first_gate [] groups
        (groups_here header.format image (header_of header) rest first_gate groups makes.lawful refl (is ∙ append_assoc (header_of header) (flat_map group_of (bodies_of groups)) rest))
        ∙ ap (option_map (recelled_store (byte_of image))) (made_in_places groups core makes.made);
  }

  -- the next group, which makes nothing over places, makes nothing over bytes
  none_made : (body others : List ℕ) (g : Group) → rest ≡ group_of body ++ others → IsGroup header.format g → body_bytes g ≡ body
      → made None as_runs (body_at (length front)) core g.content ≡ None → made 0 as_bytes (body_at (length front)) (with_bytes image core) g.content ≡ None
  unfolding number_of
  none_made body others g split lawful same none =
      let here : image ≡ front ++ (flat_map group_of (bodies_of (g ∷ [])) ++ others) =
      is ∙ ap (λ (l : List ℕ). front ++ l) (split ∙ ap (λ (l : List ℕ). l ++ others) (ap group_of (sym same) ∙ sym (append-nil (group_of (body_bytes g))))) in
      made-cells (byte_of image) None as_places as_bytes (body_at (length front)) (recelled_store number_of core) g.content (groups_here header.format image front others (length front) (g ∷ []) (lawful, tt) refl here).0
      ∙ ap (option_map (recelled_store (byte_of image)))
      (made-cells number_of None as_runs as_places (body_at (length front)) core g.content (all_put_same number_of None as_runs as_places runs_are_places (length front) (g ∷ [])).0
      ∙ ap (option_map (recelled_store number_of)) none)

  -- so an image with a fault behind them stands for no store
  module _ (lawful : IsHeader header) (fits : AllByRecursion IsShort (bodies_of groups)) where
    fails : (number : ℕ) → number ≡ length groups + 1 → IsCutShort rest ⊎ IsBadGroup header.format (length front) (with_bytes image core) rest → StandsForNone image number
    fails number count fault =
        let count_is : suc (length groups) ≡ number = omega (arith, count) in
        let behind : FailsBehind image (length groups) = record {
          header = header;
          lawful = lawful;
          groups = groups;
          are = refl;
          lengths_fit = fits;
          store = with_bytes image core;
          makes = front_makes;
          rest = rest;
          bytes = is;
          fault = fault;
        } in
        subst (λ (n : ℕ). StandsForNone image n) count_is behind

    pub cut_stands : (number : ℕ) → number ≡ length groups + 1 → IsCutShort rest → StandsForNone image number
    cut_stands number count torn = fails number count (inl torn)

    pub bad_stands : (number : ℕ) (body others : List ℕ) → number ≡ length groups + 1 → IsShort body → rest ≡ group_of body ++ others
        → ((g : Group) → IsGroup header.format g → body_bytes g ≡ body → made None as_runs (body_at (length front)) core g.content ≡ None) → StandsForNone image number
    bad_stands number body others count short split refused =
        fails number count (inr (record {
          body = body;
          others = others;
          short = short;
          bytes = split;
          refused = λ g is_group same. none_made body others g split is_group same (refused g is_group same);
        }))
