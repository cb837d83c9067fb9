-- Guards beside the words of files that take turns, place by place; and the schedule.
use Rattle.std.specs.Prelude.{◌≡◌, ◌↔◌, ℕ, suc, ◌+◌, ◌-◌, ◌≤◌, ◌<◌, ◌==◌, Bool, true, false, not, ◌&&◌, List, [], ◌∷◌, length, drop, map, Option, None, Some, is_some, nat_le, nat_lt, get_or, if◌then◌else◌}
use Rattle.std.specs.Option.{option_map}
use Rattle.std.specs.List.{AllByRecursion, list_all}
use Rattle.std.proofs.Common.{refl, sym, ap, subst, ◌∙◌, arith, drop-cons, add-one}
use Rattle.std.proofs.lemmas.List.{drop_all}
use Rattle.std.proofs.Math.Dec.{eqb-suc-zero}
use Rattle.std.proofs.lemmas.Bool.{le-leb, leb-true}
use Rattle.send_model.specs.Guards.{Guard, GuardSpec, new_guard, guard_of, is_guard_word}
use Rattle.send_model.specs.Words.{new_guards}
use Rattle.store_model.specs.Turns.{is_turn, schedule_of}
use Rattle.send_model.proofs.Sorts.{same_inside}
use Rattle.program_model.specs.TurnWords.{TurnFiles, with_guard, with_file, turn_files}
use Rattle.program_model.proofs.TurnWords.{View, IsFile, IsGuard, view, file_more, guard_more, none_before, as_many}

true_false : {P : Type 0} (b : Bool) → b ≡ true → b ≡ false → P
true_false true e f = cc
true_false false e f = cc

first_is : {A : Type 0} {x y : A} {xs ys : List A} → x ∷ xs ≡ y ∷ ys → x ≡ y
first_is {x} e = ap (λ (l : List _). elim l [ [] ↦ x | z ∷ zs ↦ z ]) e

rest_is : {A : Type 0} {x y : A} {xs ys : List A} → x ∷ xs ≡ y ∷ ys → xs ≡ ys
rest_is e = ap (λ (l : List _). elim l [ [] ↦ [] | z ∷ zs ↦ zs ]) e

-- ---- guards that were handed in

-- The guards are those of all words exactly where those from a place on are those of the words that
-- are left.
pub record Fits (guards : List Guard) (at : ℕ) (left : List (List ℕ)) (turns : TurnFiles) : Type 0 where
  pub rest : TurnFiles
  pub is : turn_files left ≡ Some rest
  pub as_those : (guards ≡ new_guards turns.guards) ↔ (drop at guards ≡ new_guards rest.guards)

pub fits_start : (guards : List Guard) (words : List (List ℕ)) (turns : TurnFiles) → turn_files words ≡ Some turns → Fits guards 0 words turns
fits_start guards words turns is = record { rest = turns; is = is; as_those = ((λ those. those), (λ those. those)) }

pub fits_file : (guards : List Guard) (at : ℕ) (word : List ℕ) (left : List (List ℕ)) (turns : TurnFiles) → is_guard_word word ≡ false → Fits guards at (word ∷ left) turns → Fits guards at left turns
fits_file guards at word left turns file f = one (view word left f.rest f.is)
  where
    one : View word left f.rest → Fits guards at left turns
    one (IsFile rest g e q) = record {
      rest = rest;
      is = e;
      as_those = subst (λ (t : TurnFiles). (guards ≡ new_guards turns.guards) ↔ (drop at guards ≡ new_guards t.guards)) q f.as_those;
    }
    one (IsGuard rest guard share shares g h e s q) = true_false (is_guard_word word) g file

-- A guard word: what its guard is, and what is left.
record IsThere (guards : List Guard) (at : ℕ) (word : List ℕ) (left : List (List ℕ)) (turns : TurnFiles) : Type 0 where
  spec : GuardSpec
  means : guard_of word ≡ Some spec
  rest : TurnFiles
  is : turn_files left ≡ Some rest
  as_those : (guards ≡ new_guards turns.guards) ↔ (drop at guards ≡ new_guard spec ∷ new_guards rest.guards)

there : (guards : List Guard) (at : ℕ) (word : List ℕ) (left : List (List ℕ)) (turns : TurnFiles) → is_guard_word word ≡ true → Fits guards at (word ∷ left) turns → IsThere guards at word left turns
there guards at word left turns guards_word f = one (view word left f.rest f.is)
  where
    one : View word left f.rest → IsThere guards at word left turns
    one (IsFile rest g e q) = true_false (is_guard_word word) guards_word g
    one (IsGuard rest guard share shares g h e s q) = record {
      spec = guard;
      means = h;
      rest = rest;
      is = e;
      as_those = subst (λ (t : TurnFiles). (guards ≡ new_guards turns.guards) ↔ (drop at guards ≡ new_guards t.guards)) q f.as_those;
    }

said_guard : (spec : GuardSpec) (guard : Guard) (o : Option GuardSpec) → o ≡ Some spec → option_map new_guard o ≡ Some guard → new_guard spec ≡ guard
said_guard spec guard o is e = same_inside (sym (ap (option_map new_guard) is) ∙ e)

pub fits_guard : (guards : List Guard) (at : ℕ) (word : List ℕ) (left : List (List ℕ)) (turns : TurnFiles) (guard : Guard) → drop at guards ≡ guard ∷ drop (at + 1) guards
    → option_map new_guard (guard_of word) ≡ Some guard → is_guard_word word ≡ true → Fits guards at (word ∷ left) turns → Fits guards (at + 1) left turns
fits_guard guards at word left turns guard here same guards_word f =
    let t = there guards at word left turns guards_word f in
    let is : new_guard t.spec ≡ guard = said_guard t.spec guard (guard_of word) t.means same in
    record {
      rest = t.rest;
      is = t.is;
      as_those = (
        (λ those. rest_is (sym here ∙ t.as_those.0 those)),
        (λ those. t.as_those.1 (here ∙ ap (λ (l : List Guard). guard ∷ l) those ∙ ap (λ (g : Guard). g ∷ new_guards t.rest.guards) (sym is))),
      );
    }

pub fits_not : (guards : List Guard) (at : ℕ) (word : List ℕ) (left : List (List ℕ)) (turns : TurnFiles) (guard : Guard) → drop at guards ≡ guard ∷ drop (at + 1) guards
    → (option_map new_guard (guard_of word) ≡ Some guard → ⊥) → is_guard_word word ≡ true → Fits guards at (word ∷ left) turns → guards ≡ new_guards turns.guards → ⊥
fits_not guards at word left turns guard here other guards_word f those =
    let t = there guards at word left turns guards_word f in
    other (ap (option_map new_guard) t.means ∙ ap (λ (g : Guard). Some g) (sym (first_is (sym here ∙ t.as_those.0 those))))

nothing_there : {A : Type 0} {x : A} {xs : List A} {P : Type 0} → [] ≡ x ∷ xs → P
nothing_there e = cc

pub fits_ended : (guards : List Guard) (at : ℕ) (word : List ℕ) (left : List (List ℕ)) (turns : TurnFiles) → drop at guards ≡ [] → is_guard_word word ≡ true
    → Fits guards at (word ∷ left) turns → guards ≡ new_guards turns.guards → ⊥
fits_ended guards at word left turns ended guards_word f those =
    let t = there guards at word left turns guards_word f in nothing_there (sym ended ∙ t.as_those.0 those)

pub fits_end : (guards : List Guard) (at : ℕ) (turns : TurnFiles) → Fits guards at [] turns → (guards ≡ new_guards turns.guards) ↔ (drop at guards ≡ [])
unfolding turn_files
fits_end guards at turns f = subst (λ (t : TurnFiles). (guards ≡ new_guards turns.guards) ↔ (drop at guards ≡ new_guards t.guards)) (sym (same_inside f.is)) f.as_those

-- ---- words that are read from the last one back

-- The words from a place on mean so many files.
pub record Counted (words : List (List ℕ)) (place count : ℕ) : Type 0 where
  pub rest : TurnFiles
  pub is : turn_files (drop place words) ≡ Some rest
  pub many : count ≡ length rest.files

pub counted_none : (words : List (List ℕ)) (place : ℕ) → drop place words ≡ [] → Counted words place 0
unfolding turn_files
counted_none words place none = record { rest = record { guards = []; shares = []; files = [] }; is = ap (λ (ws : List (List ℕ)). turn_files ws) none; many = refl }

pub counted_file : (words : List (List ℕ)) (place count : ℕ) (word : List ℕ) → drop place words ≡ word ∷ drop (place + 1) words → is_guard_word word ≡ false
    → Counted words (place + 1) count → Counted words place (count + 1)
counted_file words place count word here file c = record {
  rest = with_file word c.rest;
  is = ap (λ (ws : List (List ℕ)). turn_files ws) here ∙ file_more word (drop (place + 1) words) c.rest c.is file;
  many = omega (arith, c.many);
}

pub counted_guard : (words : List (List ℕ)) (place count : ℕ) (word : List ℕ) (guard : GuardSpec) → drop place words ≡ word ∷ drop (place + 1) words → is_guard_word word ≡ true
    → guard_of word ≡ Some guard → 0 < count → Counted words (place + 1) count → Counted words place count
counted_guard words place count word guard here guards_word means some c = one c.rest.shares refl
  where
    whole : turn_files (drop place words) ≡ with_guard guard c.rest
    whole = ap (λ (ws : List (List ℕ)). turn_files ws) here ∙ guard_more word (drop (place + 1) words) c.rest (Some guard) c.is guards_word means

    one : (shares : List ℕ) → c.rest.shares ≡ shares → Counted words place count
    one [] e = absurd (omega (arith, some, c.many, as_many (drop (place + 1) words) c.rest c.is, ap (λ (l : List ℕ). length l) e))
    one (share ∷ shares) e = record {
      rest = record { guards = guard ∷ c.rest.guards; shares = suc share ∷ shares; files = c.rest.files };
      is = whole ∙ ap (λ (l : List ℕ). elim l as (λ x. Option TurnFiles) [
        | [] ↦ None
        | s ∷ more ↦ Some (record { guards = guard ∷ c.rest.guards; shares = suc s ∷ more; files = c.rest.files })
      ]) e;
      many = c.many;
    }

-- A guard word that means no guard, and one behind which there is no file.
pub unsaid : (words : List (List ℕ)) (place count : ℕ) (word : List ℕ) → drop place words ≡ word ∷ drop (place + 1) words → is_guard_word word ≡ true
    → guard_of word ≡ None → Counted words (place + 1) count → turn_files words ≡ None
unsaid words place count word here guards_word none c =
    none_before place words (ap (λ (ws : List (List ℕ)). turn_files ws) here ∙ guard_more word (drop (place + 1) words) c.rest None c.is guards_word none)

pub no_file_behind : (words : List (List ℕ)) (place : ℕ) (word : List ℕ) (guard : GuardSpec) → drop place words ≡ word ∷ drop (place + 1) words → is_guard_word word ≡ true
    → guard_of word ≡ Some guard → Counted words (place + 1) 0 → turn_files words ≡ None
no_file_behind words place word guard here guards_word means c = none_before place words (whole ∙ one c.rest.shares refl)
  where
    whole : turn_files (drop place words) ≡ with_guard guard c.rest
    whole = ap (λ (ws : List (List ℕ)). turn_files ws) here ∙ guard_more word (drop (place + 1) words) c.rest (Some guard) c.is guards_word means

    one : (shares : List ℕ) → c.rest.shares ≡ shares → with_guard guard c.rest ≡ None
    one [] e = ap (λ (l : List ℕ). elim l as (λ x. Option TurnFiles) [
      | [] ↦ None
      | s ∷ more ↦ Some (record { guards = guard ∷ c.rest.guards; shares = suc s ∷ more; files = c.rest.files })
    ]) e
    one (share ∷ shares) e = absurd (omega (arith, c.many, as_many (drop (place + 1) words) c.rest c.is, ap (λ (l : List ℕ). length l) e))

-- ---- the schedule

is_long : (letter : ℕ) (word : List ℕ) → nat_le 1 (length (letter ∷ word)) ≡ true
is_long letter word = le-leb 1 (length (letter ∷ word)) (omega arith)

chosen : (files : ℕ) (letter : ℕ) (word : List ℕ) (all : Bool) → list_all (is_turn files) (letter ∷ word) ≡ all
    → schedule_of files (letter ∷ word) ≡ (if all then Some (map (λ l. l - 48) (letter ∷ word)) else None)
unfolding schedule_of
chosen files letter word all is =
    ap (λ (b : Bool). if b && list_all (is_turn files) (letter ∷ word) then Some (map (λ l. l - 48) (letter ∷ word)) else None) (is_long letter word)
    ∙ ap (λ (b : Bool). if b then Some (map (λ l. l - 48) (letter ∷ word)) else None) is

pub scheduled : (files : ℕ) (word : List ℕ) → 1 ≤ length word → list_all (is_turn files) word ≡ true → schedule_of files word ≡ Some (map (λ letter. letter - 48) word)
scheduled files [] some all = absurd (omega (arith, some))
scheduled files (letter ∷ word) some all = chosen files letter word true all

pub unscheduled : (files : ℕ) (word : List ℕ) → list_all (is_turn files) word ≡ false → schedule_of files word ≡ None
unscheduled files [] none = cc
unscheduled files (letter ∷ word) none = chosen files letter word false none

pub no_turns : (files : ℕ) → schedule_of files [] ≡ None
unfolding schedule_of
no_turns files = refl

-- Each digit of a schedule is the place of a session.
turn_is : (files letter : ℕ) → is_turn files letter ≡ true → (48 ≤ letter) × (letter - 48 < files)
turn_is files letter is = one (nat_le 48 letter) refl (nat_lt letter (48 + files)) refl is
  where
    one : (b : Bool) → nat_le 48 letter ≡ b → (c : Bool) → nat_lt letter (48 + files) ≡ c → (b && c && nat_le letter 57) ≡ true → (48 ≤ letter) × (letter - 48 < files)
    one true low true high q = (leb-true 48 letter low, omega (arith, leb-true 48 letter low, leb-true (suc letter) (48 + files) high))
    one true low false high q = cc
    one false low c high q = cc

pub are_places : (files : ℕ) (word : List ℕ) → list_all (is_turn files) word ≡ true → AllByRecursion (λ digit. (48 ≤ digit) × (digit - 48 < files)) word
are_places files [] all = tt
are_places files (letter ∷ word) all = one (is_turn files letter) refl all (λ more. are_places files word more)
  where
    one : (b : Bool) → is_turn files letter ≡ b → (b && list_all (is_turn files) word) ≡ true → (list_all (is_turn files) word ≡ true → AllByRecursion (λ digit. (48 ≤ digit) × (digit - 48 < files)) word)
        → AllByRecursion (λ digit. (48 ≤ digit) × (digit - 48 < files)) (letter ∷ word)
    one true e q more = (turn_is files letter e, more q)
    one false e q more = cc

-- What a schedule is: no word gives another.
pub is_scheduled : (files : ℕ) (word places : List ℕ) → schedule_of files word ≡ Some places → (places ≡ map (λ letter. letter - 48) word) × (list_all (is_turn files) word ≡ true)
is_scheduled files [] places is = absurd (nothing_said (sym (no_turns files) ∙ is))
  where
    nothing_said : {A : Type 0} {x : A} → None ≡ Some x → ⊥
    nothing_said e = cc
is_scheduled files (letter ∷ word) places is = one (list_all (is_turn files) (letter ∷ word)) refl
  where
    one : (b : Bool) → list_all (is_turn files) (letter ∷ word) ≡ b → (places ≡ map (λ l. l - 48) (letter ∷ word)) × (list_all (is_turn files) (letter ∷ word) ≡ true)
    one true e = (sym (same_inside (sym (chosen files letter word true e) ∙ is)), e)
    one false e = absurd (nothing_said (sym (chosen files letter word false e) ∙ is))
      where
        nothing_said : {A : Type 0} {x : A} → None ≡ Some x → ⊥
        nothing_said e = cc

-- Digit by digit.
digit_there : (word : List ℕ) (place : ℕ) → place < length word → drop place word ≡ get_or word place 0 ∷ drop (suc place) word
digit_there word place less = drop-cons word place 0 less

pub digit_more : (files : ℕ) (word : List ℕ) (place : ℕ) → place < length word → is_turn files (get_or word place 0) ≡ true
    → list_all (is_turn files) word ≡ list_all (is_turn files) (drop place word) → list_all (is_turn files) word ≡ list_all (is_turn files) (drop (place + 1) word)
digit_more files word place less is so_far =
    so_far ∙ ap (λ (l : List ℕ). list_all (is_turn files) l) (digit_there word place less)
    ∙ ap (λ (b : Bool). b && list_all (is_turn files) (drop (suc place) word)) is
    ∙ ap (λ (n : ℕ). list_all (is_turn files) (drop n word)) (sym (add-one place))

pub digit_not : (files : ℕ) (word : List ℕ) (place : ℕ) → place < length word → is_turn files (get_or word place 0) ≡ false
    → list_all (is_turn files) word ≡ list_all (is_turn files) (drop place word) → false ≡ is_some (schedule_of files word)
digit_not files word place less is so_far =
    sym (ap (λ (o : Option (List ℕ)). is_some o) (unscheduled files word
    (so_far ∙ ap (λ (l : List ℕ). list_all (is_turn files) l) (digit_there word place less) ∙ ap (λ (b : Bool). b && list_all (is_turn files) (drop (suc place) word)) is)))

pub digits_all : (files : ℕ) (word : List ℕ) (place : ℕ) → length word ≤ place → list_all (is_turn files) word ≡ list_all (is_turn files) (drop place word)
    → not (length word == 0) ≡ is_some (schedule_of files word)
digits_all files [] place past so_far = sym (ap (λ (o : Option (List ℕ)). is_some o) (no_turns files))
digits_all files (letter ∷ word) place past so_far =
    ap (λ (b : Bool). not b) (eqb-suc-zero (length word)) ∙ sym (ap (λ (o : Option (List ℕ)). is_some o) (scheduled files (letter ∷ word) (omega arith) (so_far ∙ ap (λ (l : List ℕ). list_all (is_turn files) l) (drop_all place (letter ∷ word) past))))
