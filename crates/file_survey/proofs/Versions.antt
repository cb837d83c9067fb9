-- The version of the stream that stands for items: no item has a later one, and what an item's
-- version can say can be written in it.
use Rattle.std.specs.Prelude.{◌≡◌, ℕ, ◌≤◌, ◌==◌, Bool, true, false, ◌||◌, List, [], ◌∷◌, ◌++◌, length, if◌then◌else◌}
use Rattle.std.specs.List.{list_any}
use Rattle.std.proofs.Common.{refl, sym, ap, subst, ◌∙◌, arith, eq-eqb, ⊎_elim}
use Rattle.send_model.specs.Command.{Command, row, kind_of}
use Rattle.send_model.specs.Spelling.{attributes_of, body_of, greatest_body}
use Rattle.send_model.specs.Reading.{Item}
use Rattle.send_model.specs.Composed.{version_of}
use Rattle.send_model.specs.Laws.{CanWrite}
use Rattle.send_model.proofs.Versions.{IsVersion, known_version}
use Rattle.send_model.proofs.ReadCommands.{write_second}
use Rattle.send_commands.specs.Writing.{IsWritable, IsShortEnough, IfSecond}
use Rattle.send_commands.proofs.Writable.{spellable_is_writable}

-- ---- the version of some items

any_there : (items more : List Item) (item : Item) → item.version ≡ 2 → list_any (λ i. i.version == 2) (items ++ item ∷ more) ≡ true
any_there [] more item e = ap (λ (b : Bool). b || list_any (λ i. i.version == 2) more) (eq-eqb item.version 2 e)
any_there (i ∷ items) more item e = later (i.version == 2) (any_there items more item e)
  where
    later : (b : Bool) → list_any (λ i. i.version == 2) (items ++ item ∷ more) ≡ true → b || list_any (λ i. i.version == 2) (items ++ item ∷ more) ≡ true
    later true rest = refl
    later false rest = rest

-- The version, where it is known whether an item has the later one.
abbrev by_later : Bool → ℕ
by_later b = if b then 2 else 1

one_at_least : (b : Bool) → 1 ≤ by_later b
one_at_least true = omega arith
one_at_least false = omega arith

-- No item has a later version than the stream that stands for them all.
pub item_version : (items more : List Item) (item : Item) → IsVersion item.version → item.version ≤ version_of (items ++ item ∷ more)
unfolding version_of
item_version items more item is = ⊎_elim first second is
  where
    any : Bool
    any = list_any (λ i. i.version == 2) (items ++ item ∷ more)

    first : item.version ≡ 1 → item.version ≤ by_later any
    first e = let least : 1 ≤ by_later any = one_at_least any in omega (arith, e, least)

    second : item.version ≡ 2 → item.version ≤ by_later any
    second e = let two : by_later any ≡ by_later true = ap by_later (any_there items more item e) in omega (arith, e, two)

-- ---- written in a later version

-- A version that can say a command is 1 or 2.
pub version_is : (version : ℕ) (c : Command) → CanWrite version c → IsVersion version
version_is version c can = known_version version (row (kind_of c)).number (kind_of c) can.spellable.known

-- What a version can say, a later one can.
pub later_can_write : (version later : ℕ) (c : Command) → CanWrite version c → IsVersion later → version ≤ later → CanWrite later c
later_can_write version later c can is less = ⊎_elim first second is
  where
    first : later ≡ 1 → CanWrite later c
    first e = subst (λ (v : ℕ). CanWrite v c) (⊎_elim (λ (v : version ≡ 1). v ∙ sym e) (λ (v : version ≡ 2). absurd (omega (arith, e, v, less))) (version_is version c can)) can

    second : later ≡ 2 → CanWrite later c
    second e = subst (λ (v : ℕ). CanWrite v c) (sym e) (write_second version c can)

in_second : (b : Bool) (P : Type 0) → P → IfSecond b P
in_second true P p = p
in_second false P p = tt

-- A command that a version can say has a body that is short enough for a frame.
pub short_enough : (version : ℕ) (c : Command) → CanWrite version c → IsShortEnough version c
short_enough version c can = in_second (version == 2) (length (body_of version (attributes_of c)) ≤ greatest_body) can.spellable.short

-- And it can be written in each later version.
pub later_writable : (version later : ℕ) (c : Command) → CanWrite version c → IsVersion later → version ≤ later → IsWritable later c × IsShortEnough later c
later_writable version later c can is less =
    let w : CanWrite later c = later_can_write version later c can is less in
    (spellable_is_writable later c w.spellable, short_enough later c w)
