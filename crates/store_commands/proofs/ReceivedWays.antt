-- What stands where files are received: the first of the groups that receiving writes, with some of
-- the lines, are on the way.
use Rattle.std.specs.Prelude.{◌≡◌, ℕ, ◌+◌, ◌^◌, ◌<◌, ◌≤◌, cond, ◌==◌, List, [], ◌∷◌, ◌++◌, length, map, drop, Option, None, Some}
use Rattle.std.specs.List.{AllByRecursion, filter, flat_map}
use Rattle.std.proofs.Common.{refl, sym, ap, subst, ◌∙◌, append_assoc, append-nil, arith}
use Rattle.std.proofs.lemmas.List.Concat.{flat_map-append}
use Rattle.std.proofs.lemmas.List.Sums.{sum_by-append}
use Rattle.send_model.specs.Refusal.{Refusal}
use Rattle.send_model.specs.Reading.{Item}
use Rattle.send_model.specs.Store.{Store, State, After, step}
use Rattle.send_model.specs.Receive.{byte_cells}
use Rattle.send_model.specs.Guards.{Guard, Watched, watched_step, receive_watched}
use Rattle.send_model.proofs.ElementLaws.{all_both, all_first, all_drop}
use Rattle.send_model.proofs.Keeping.{all_filtered}
use Rattle.send_model.proofs.Sorts.{same_inside}
use Rattle.store_model.specs.NamedFiles.{NamedFiles, read_of, AreGiven}
use Rattle.store_model.specs.Image.{HasGroups}
use Rattle.store_model.specs.Stored.{Group, body_bytes, IsGroup, as_bytes, made_all, first_gate, StandsFor}
use Rattle.store_model.specs.States.{is_complete, complete_behind, complete_line, received, left_by, received_lines, lines_in, lines_behind, IsBetween, HasNumbers}
use Rattle.store_model.specs.StateLaws.{LinesAreParts}
use Rattle.store_model.specs.Stops.{IsOnTheWay}
use Rattle.store_model.specs.Written.{Begun, closed_by, begun_by, begun_after, groups_from, groups_of}
use Rattle.store_model.proofs.Betweens.{between_has_them}
use Rattle.store_model.proofs.Growing.{gate_behind, made-append}
use Rattle.store_model.proofs.Numbers.{stored_has_numbers}
use Rattle.store_model.proofs.OnTheWay.{first_is_on_the_way}
use Rattle.store_model.proofs.OneStore.{one_store}
use Rattle.store_model.proofs.PassedStates.{more_states, own_state}
use Rattle.store_model.proofs.ReadFronts.{limited_is_front}
use Rattle.store_model.proofs.WrittenGroups.{first_groups_are_states}
use Rattle.store_model.proofs.WrittenLawful.{written_is_lawful}

-- ---- more items

-- The groups of items and more begin with those of the items.
groups_more : (w : Watched (State ℕ)) (begun : Option Begun) (items rest : List Item) → (more : List Group) × (groups_from w begun (items ++ rest) ≡ groups_from w begun items ++ more)
unfolding groups_from
groups_more w begun [] rest = (groups_from w begun rest, refl)
groups_more w begun (item ∷ items) rest =
    let after : After (Watched (State ℕ)) = watched_step (λ s i. step 0 (byte_cells i) s i.command) w item in
    one after.state after.refusal (groups_more after.state (begun_after begun item) items rest)
  where
    closes : List Group
    closes = closed_by w.guards item.command begun

    tail : Watched (State ℕ) → Option Refusal → List Item → List Group
    tail next refusal is = elim refusal as (λ x. List Group) [ Some r ↦ [] | None ↦ begun_by item.command ++ groups_from next (begun_after begun item) is ]

    one : (next : Watched (State ℕ)) (o : Option Refusal) → (more : List Group) × (groups_from next (begun_after begun item) (items ++ rest) ≡ groups_from next (begun_after begun item) items ++ more)
        → (more : List Group) × (closes ++ tail next o (items ++ rest) ≡ (closes ++ tail next o items) ++ more)
    one next (Some r) more = ([], sym (append-nil (closes ++ [])))
    one next None more = (
      more.0,
      ap (λ (l : List Group). closes ++ (begun_by item.command ++ l)) more.1 ∙ ap (λ (l : List Group). closes ++ l) (sym (append_assoc (begun_by item.command) (groups_from next (begun_after begun item) items) more.0))
          ∙ sym (append_assoc closes (begun_by item.command ++ groups_from next (begun_after begun item) items) more.0),
    )

-- What a store on the way prints stands in front of what the end prints.
between_lines : (least : ℕ) (start end now : Store ℕ) → IsBetween least start end now → (rest : List ℕ) × (lines_behind start end ≡ lines_behind start now ++ rest)
unfolding lines_behind
between_lines least start end now b =
    let has = between_has_them least start end now b in
    (flat_map complete_line has.2.0, ap (flat_map complete_line) has.2.1 ∙ flat_map-append complete_line (filter is_complete (drop (length start) now)) has.2.0)

-- ---- on the way

-- No more lines stand in front of those of a store than there are complete parts.
few_lines : LinesAreParts ℕ → (start now : Store ℕ) (written unwritten : List ℕ) → HasNumbers now → lines_behind start now ≡ written ++ unwritten → lines_in written ≤ complete_behind start now
unfolding lines_behind
few_lines counts start now written unwritten numbers is =
    let parts : Store ℕ = filter is_complete (drop (length start) now) in
    let small : HasNumbers parts = all_filtered (λ e. e.key.ctransid < 2 ^ 64) is_complete (drop (length start) now) (all_drop (λ e. e.key.ctransid < 2 ^ 64) (length start) now numbers) in
    let sum : lines_in (written ++ unwritten) ≡ lines_in written + lines_in unwritten = sum_by-append (λ b. cond (b == 10) 1 0) written unwritten in
    let all : lines_in (flat_map complete_line parts) ≡ length parts = counts parts small in
    omega (arith, ap (λ (l : List ℕ). lines_in l) is, sum, all)

module _ (before : List ℕ) (base : Store ℕ) (stands : StandsFor before base) (guards : List Guard) (files : NamedFiles) (are : AreGiven files) where
  -- What is read up to the limits is read first of all.
  pub limited_groups : (first more : List Group) → groups_of base guards (read_of files).limited.items ≡ first ++ more → (others : List Group) × (groups_of base guards (read_of files).reading.items ≡ first ++ others)
  limited_groups first more is =
      let front = limited_is_front files are in
      let all = groups_more (record { guards = guards; state = record { store = base; part = None } }) None (read_of files).limited.items front.0 in (
        more ++ all.0,
        ap (groups_of base guards) front.1 ∙ all.1 ∙ ap (λ (l : List Group). l ++ all.0) is ∙ append_assoc first more all.0,
      )

  -- So is what is printed.
  pub limited_lines : (rest : List ℕ) × (received_lines base guards files ≡ lines_behind base (received 0 byte_cells base guards (read_of files).limited.items).state.state.store ++ rest)
  unfolding receive_watched received
  limited_lines =
      let front = limited_is_front files are in
      let own = own_state 0 byte_cells base guards (read_of files).limited.items in
      let more = more_states 0 byte_cells _ base guards (read_of files).limited.items front.0 _ own in
      let lines = between_lines _ base (received 0 byte_cells base guards ((read_of files).limited.items ++ front.0)).state.state.store _ more in
      (lines.0, ap (λ (is : List Item). lines_behind base (received 0 byte_cells base guards is).state.state.store) front.1 ∙ lines.1)

  module _ (image : List ℕ) (first more : List Group) (all : groups_of base guards (read_of files).limited.items ≡ first ++ more) (has : HasGroups stands.header (map body_bytes (stands.groups ++ first)) image) where
    -- The image stands for what the groups make.
    pub stands_made : (now : Store ℕ) → ((place : ℕ) → made_all 0 as_bytes place base first ≡ Some now) → StandsFor image now
    stands_made now made =
        let written : AllByRecursion (IsGroup stands.header.format) (groups_of base guards (read_of files).reading.items) = written_is_lawful stands.header.format base guards files are in
        let others = limited_groups first more all in
        record {
          header = stands.header;
          groups = stands.groups ++ first;
          has = has;
          makes = record {
            lawful = all_both (IsGroup stands.header.format) stands.groups first stands.makes.lawful
                (all_first (IsGroup stands.header.format) first others.0 (subst (λ (l : List Group). AllByRecursion (IsGroup stands.header.format) l) others.1 written));
            made = made-append 0 as_bytes first_gate [] base stands.groups first stands.makes.made ∙ made (gate_behind first_gate stands.groups);
          };
        }

    -- It is on the way, with the first of the lines of its parts.
    pub on_the_way : LinesAreParts ℕ → (now : Store ℕ) (written unwritten : List ℕ) → ((place : ℕ) → made_all 0 as_bytes place base first ≡ Some now) → lines_behind base now ≡ written ++ unwritten → IsOnTheWay before guards files base written image
    unfolding receive_watched received
    on_the_way counts now written unwritten made printed =
        let others = limited_groups first more all in
        let there = first_is_on_the_way before image guards files base stands first others.0 are others.1 has in
        let mine = stands_made now made in
        let same : there.0 ≡ now = one_store 0 as_bytes image there.0 now there.1 mine in
        let between = first_groups_are_states 0 base guards (read_of files).reading.items first others.0 others.1 in
        let its_own : between.0 ≡ now = same_inside (sym between.1 ∙ made 0) in
        let lines = between_lines _ base (left_by base guards files) between.0 between.2 in
        there.2 written (unwritten ++ lines.0)
        (lines.1 ∙ ap (λ (s : Store ℕ). lines_behind base s ++ lines.0) its_own ∙ ap (λ (l : List ℕ). l ++ lines.0) printed ∙ append_assoc written unwritten lines.0)
        (subst (λ (s : Store ℕ). lines_in written ≤ complete_behind base s) (sym same) (few_lines counts base now written unwritten (stored_has_numbers 0 as_bytes image now mine) printed))

    -- With nothing written it is, whatever the groups are.
    pub on_the_way_at_all : IsOnTheWay before guards files base [] image
    on_the_way_at_all =
        let others = limited_groups first more all in
        let there = first_is_on_the_way before image guards files base stands first others.0 are others.1 has in
        there.2 [] (received_lines base guards files) refl (omega arith)
