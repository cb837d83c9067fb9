-- What a reader says of its file, and that the bytes it was given are the file's: for callers that
-- read on in a loop.
use Rattle.std.specs.Prelude.{◌≡◌, ℕ, List, Option, None, Some, Ok}
use Rattle.std.proofs.Common.{refl, sym, subst}
use Rattle.send_model.specs.Reading as reading
use Rattle.cmd_reader.specs.declared.item.Item.{Item}
use Rattle.cmd_reader.specs.declared.item.Glance.{Glance}
use Rattle.cmd_reader.specs.Places.{IfTold}
use Rattle.cmd_reader.specs.Left.{Reader, at_start, HasAhead}
use Rattle.cmd_reader.specs.Next.{item_of, HasEnded, GoesOn, IsNext, Says, NextSays}
use Rattle.cmd_reader.specs.Glances.{IsGlance, GlanceSays}
use Rattle.cmd_reader.proofs.Told.{told_map, told_always, told_moved}

-- A new reader was given none.
pub start_ahead : (told : Option (List (List ℕ × List ℕ))) (file : ℕ) (name : List ℕ) (r : Reader) → r ≡ at_start file name → IfTold told r.name (HasAhead r)
start_ahead told file name r is = let A : Reader → Type 0 = λ x. IfTold told x.name (HasAhead x) in subst A (sym is) (told_always told name (HasAhead (at_start file name)) (λ bytes. record { good = refl; bytes = refl }))

-- What a call said of the next command holds of the file that the inputs told before it.
pub next_item : (told now : Option (List (List ℕ × List ℕ))) (name : List ℕ) (old new : Reader) (early late : ℕ) (o : Option Item) (item : Item)
    → o ≡ Some item → now ≡ told → old.name ≡ name → NextSays now old new early late (Ok o) → IfTold told name (IsNext old new item)
next_item told now name old new early late o item is same named says =
    told_moved told now name old.name (IsNext old new item) same named (subst (λ (x : Option Item). NextSays now old new early late (Ok x)) is says)

-- So does what it said of the end, whatever was asked for.
pub says_end : {T : Type 0} (given : T → Type 0) (told now : Option (List (List ℕ × List ℕ))) (name : List ℕ) (old : Reader) (early late : ℕ) (o : Option T) → o ≡ None → now ≡ told → old.name ≡ name → Says given now old early late (Ok o) → IfTold told name (HasEnded old)
says_end {T = T} given told now name old early late o none same named says =
    told_moved told now name old.name (HasEnded old) same named (subst (λ (x : Option T). Says given now old early late (Ok x)) none says)

pub next_end : (told now : Option (List (List ℕ × List ℕ))) (name : List ℕ) (old new : Reader) (early late : ℕ) (o : Option Item)
    → o ≡ None → now ≡ told → old.name ≡ name → NextSays now old new early late (Ok o) → IfTold told name (HasEnded old)
next_end told now name old new early late o none same named says = says_end (λ (item : Item). IfTold now old.name (IsNext old new item)) told now name old early late o none same named says

-- A reader that has gone past an item goes on.
goes_ahead : (told after : Option (List (List ℕ × List ℕ))) (old new : Reader) (item : reading.Item) → after ≡ told → new.name ≡ old.name → IfTold told old.name (GoesOn old new item) → IfTold after new.name (HasAhead new)
goes_ahead told after old new item same name goes = told_moved after told new.name old.name (HasAhead new) (sym same) (sym name) (told_map told old.name (GoesOn old new item) (HasAhead new) (λ bytes n. n.ahead) goes)

pub next_ahead : (told after : Option (List (List ℕ × List ℕ))) (old new : Reader) (before now : ℕ) (o : Option Item) (item : Item) → o ≡ Some item → after ≡ told → new.name ≡ old.name → NextSays told old new before now (Ok o) → IfTold after new.name (HasAhead new)
next_ahead told after old new before now o item is same name says =
    goes_ahead told after old new (item_of old.file item) same name (next_item told told old.name old new before now o item is refl refl says)

-- What a glance said of the command that it went past.
pub glance_is : (told : Option (List (List ℕ × List ℕ))) (old new : Reader) (before now : ℕ) (o : Option Glance) (glance : Glance) → o ≡ Some glance → GlanceSays told old new before now (Ok o) → IsGlance told old new glance
glance_is told old new before now o glance is says = subst (λ (x : Option Glance). GlanceSays told old new before now (Ok x)) is says

pub glance_ahead : (told after : Option (List (List ℕ × List ℕ))) (old new : Reader) (before now : ℕ) (o : Option Glance) (glance : Glance) → o ≡ Some glance → after ≡ told → new.name ≡ old.name → GlanceSays told old new before now (Ok o) → IfTold after new.name (HasAhead new)
glance_ahead told after old new before now o glance is same name says = let g = glance_is told old new before now o glance is says in goes_ahead told after old new g.item same name g.read.next
