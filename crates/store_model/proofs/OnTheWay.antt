-- The image before receiving, the one behind all that it writes, and each behind the first groups
-- of that are on the way.
use Rattle.std.specs.Prelude.{◌≡◌, ℕ, List, [], ◌++◌, map, Some}
use Rattle.std.specs.List.{AllByRecursion}
use Rattle.std.proofs.Common.{refl, sym, subst, ◌∙◌, arith, append-nil}
use Rattle.send_model.specs.Store.{Store}
use Rattle.send_model.specs.Receive.{byte_cells}
use Rattle.send_model.specs.Guards.{receive_watched}
use Rattle.send_model.proofs.ElementLaws.{all_both, all_first}
use Rattle.store_model.specs.Image.{HasGroups}
use Rattle.store_model.specs.Stored.{Group, body_bytes, IsGroup, as_bytes, made_all, first_gate, StandsFor}
use Rattle.store_model.specs.NamedFiles.{read_of}
use Rattle.store_model.specs.States.{IsBetween, received, left_by, received_lines}
use Rattle.store_model.specs.Written.{groups_of}
use Rattle.store_model.specs.Stops.{NothingIsOnTheWay, AllIsOnTheWay, FirstIsOnTheWay}
use Rattle.store_model.proofs.PassedStates.{first_state, own_state}
use Rattle.store_model.proofs.Growing.{gate_behind, made-append}
use Rattle.store_model.proofs.WrittenGroups.{written_is_received, first_groups_are_states}
use Rattle.store_model.proofs.WrittenLawful.{written_is_lawful}
use Rattle.store_model.proofs.Numbers.{printed_are_parts}

pub nothing_is_on_the_way : NothingIsOnTheWay
unfolding receive_watched received
nothing_is_on_the_way before guards files store stands = record {
  stands = stands;
  first = [];
  more = groups_of store guards (read_of files).reading.items;
  all = refl;
  groups = subst (λ (l : List Group). HasGroups stands.header (map body_bytes l) before) (sym (append-nil stands.groups)) stands.has;
  now = store;
  is = stands;
  state = first_state 0 byte_cells store guards (read_of files).reading.items;
  unwritten = received_lines store guards files;
  lines = refl;
}

pub all_is_on_the_way : AllIsOnTheWay
unfolding receive_watched received
all_is_on_the_way before image guards files store stands numbers are has =
    let written : List Group = groups_of store guards (read_of files).reading.items in
    let end : Store ℕ = left_by store guards files in
    let made : made_all 0 as_bytes first_gate [] (stands.groups ++ written) ≡ Some end =
    made-append 0 as_bytes first_gate [] store stands.groups written stands.makes.made
    ∙ written_is_received (gate_behind first_gate stands.groups) store guards (read_of files).reading.items in
    record {
      stands = stands;
      first = written;
      more = [];
      all = sym (append-nil written);
      groups = has;
      now = end;
      is = record {
        header = stands.header;
        groups = stands.groups ++ written;
        has = has;
        makes = record {
          lawful = all_both (IsGroup stands.header.format) stands.groups written stands.makes.lawful (written_is_lawful stands.header.format store guards files are);
          made = made;
        };
      };
      state = subst (λ (n : ℕ). IsBetween n store end end) (sym (printed_are_parts store guards files numbers are)) (own_state 0 byte_cells store guards (read_of files).reading.items);
      unwritten = [];
      lines = sym (append-nil (received_lines store guards files));
    }

pub first_is_on_the_way : FirstIsOnTheWay
unfolding receive_watched received
first_is_on_the_way before image guards files store stands first more are all has =
    let fronts = first_groups_are_states (gate_behind first_gate stands.groups) store guards (read_of files).reading.items first more all in
    let lawful : AllByRecursion (IsGroup stands.header.format) first =
    all_first (IsGroup stands.header.format) first more (subst (λ (l : List Group). AllByRecursion (IsGroup stands.header.format) l) all (written_is_lawful stands.header.format store guards files are)) in
    let is : StandsFor image fronts.0 = record {
      header = stands.header;
      groups = stands.groups ++ first;
      has = has;
      makes = record {
        lawful = all_both (IsGroup stands.header.format) stands.groups first stands.makes.lawful lawful;
        made = made-append 0 as_bytes first_gate [] store stands.groups first stands.makes.made ∙ fronts.1;
      };
    } in (
      fronts.0,
      is,
      λ written unwritten lines fits. record {
        stands = stands;
        first = first;
        more = more;
        all = all;
        groups = has;
        now = fronts.0;
        is = is;
        state = record {
          complete = fronts.2.complete;
          others = fronts.2.others;
          all = fronts.2.all;
          are = fronts.2.are;
          enough = omega (arith, fits, fronts.2.enough);
          is = fronts.2.is;
        };
        unwritten = unwritten;
        lines = lines;
      },
    )
