-- Words of files with what they say in front of each, as a loop goes over them.
use Rattle.std.specs.Prelude.{◌≡◌, ◌≢◌, ℕ, ◌+◌, ◌-◌, ◌<◌, ◌≤◌, ◌==◌, ◌^◌, Bool, true, false, ◌&&◌, ◌||◌, not, List, [], ◌∷◌, ◌++◌, map, length, take, drop, get_or, Option, None, Some, IfSome, is_some, is_none, nat_lt, slice_index_or, if◌then◌else◌}
use Rattle.std.specs.List.{list_any}
use Rattle.std.specs.Str.{bytes_eq}
use Rattle.std.proofs.Common.{refl, sym, ap, ap₂, subst, suc, ◌∙◌, arith, drop-cons, add-one}
use Rattle.std.proofs.lemmas.Bool.{false≢true, ltb-true, ltb-false, eqb-true, eqb-false}
use Rattle.std.proofs.lemmas.List.{drop_all, get_or-map, length-map, length-append, length-drop, length-take, map_more, get_or-drop}
use Rattle.std.proofs.lemmas.List.Folds.{list_any-append}
use Rattle.send_model.specs.NamedWords.{is_name_word}
use Rattle.send_model.specs.Attribute.{IsBytes}
use Rattle.send_model.specs.Store.{Key}
use Rattle.send_model.specs.Outside.{is_among}
use Rattle.send_model.specs.Overridden.{Override, no_override, says_nothing, Overrides, uuids_of, IsNewName}
use Rattle.program_model.specs.EscapedWords.{meant_by}
use Rattle.program_model.specs.FileWords.{given_name, given_parent, stands_in_front, name_too, parent_too, said_too, GivenFiles, given_in}
use Rattle.program_model.proofs.GivenWords.{short_name, long_name, given_fits, some_said, IsRead, read_none, read_front, read_file, read_wrong, read_end, read_no_file}
use Rattle.file_words.specs.Fronts.{has_uuid, says_uuid, IsSaid}

-- ---- words of any kind, seen as bytes

module _ {S : Type 0} (text : S → List ℕ) (words : List S) where
  abbrev pub seen : List (List ℕ)
  seen = map text words

  pub word_there : (place : ℕ) (word : S) → place < length words → word ≡ slice_index_or words place word → drop place seen ≡ text word ∷ drop (place + 1) seen
  word_there place word less is =
      drop-cons seen place (text word) (omega (arith, less, length-map words text))
      ∙ ap (λ (w : List ℕ). w ∷ drop (suc place) seen) (get_or-map text words place word (text word) less ∙ ap text (sym is))
      ∙ ap (λ (k : ℕ). text word ∷ drop k seen) (sym (add-one place))

  pub none_left : (place : ℕ) → length words ≤ place → drop place seen ≡ []
  none_left place past = drop_all place seen (omega (arith, past, length-map words text))

  -- The words from one place up to another.
  abbrev pub between : ℕ → ℕ → List (List ℕ)
  between from to = map text (take (to - from) (drop from words))

  pub between_more : (from place : ℕ) (word : S) → from ≤ place → place < length words → word ≡ slice_index_or words place word → between from (place + 1) ≡ between from place ++ text word ∷ []
  between_more from place word after less is =
      let one : place + 1 - from ≡ place - from + 1 = omega (arith, after) in
      ap (λ (n : ℕ). map text (take n (drop from words))) one
      ∙ map_more text (drop from words) (place - from) word (omega (arith, after, less, length-drop from words))
      ∙ ap (λ (w : S). between from place ++ text w ∷ []) (get_or-drop from words (place - from) word ∙ ap (λ (n : ℕ). get_or words n word) (omega (arith, after)) ∙ sym is)

-- There are no words between two places exactly if they are one.
module _ {S : Type 0} (text : S → List ℕ) (words : List S) where
  pub none_between : (from : ℕ) → between text words from from ≡ []
  none_between from = let none : 0 ≡ from - from = omega (arith) in sym (ap (λ (n : ℕ). map text (take n (drop from words))) none)

  pub none_in_front : (front place : ℕ) → front ≤ place → length words ≤ place → place ≤ length words → (front == length words) ≡ (length (between text words front place) == 0)
  none_in_front front place within past less = one (front == length words) (length (between text words front place) == 0) refl refl
    where
      count : length (between text words front place) ≡ place - front
      count = length-map (take (place - front) (drop front words)) text ∙ length-take (place - front) (drop front words) ∙ omega (arith, length-drop front words, within, less)

      one : (a b : Bool) → (front == length words) ≡ a → (length (between text words front place) == 0) ≡ b → a ≡ b
      one true true e f = refl
      one false false e f = refl
      one true false e f = absurd (omega (arith, eqb-true front (length words) e, eqb-false (length (between text words front place)) 0 f, count, past, less))
      one false true e f = absurd (omega (arith, eqb-false front (length words) e, eqb-true (length (between text words front place)) 0 f, count, within, past, less))

-- Whether one of some words passes a test, as a loop goes over them: none in front of a place does.
pub record IsUnmet (p : List ℕ → Bool) (all : List (List ℕ)) (place : ℕ) : Type 0 where
  pub rest : list_any p (drop place all) ≡ list_any p all

pub unmet_start : (p : List ℕ → Bool) (all : List (List ℕ)) → IsUnmet p all 0
unmet_start p all = record { rest = refl }

pub unmet_next : (p : List ℕ → Bool) (all : List (List ℕ)) (place : ℕ) (word : List ℕ) → drop place all ≡ word ∷ drop (place + 1) all → p word ≡ false → IsUnmet p all place → IsUnmet p all (place + 1)
unmet_next p all place word here fails u =
    record { rest = sym (ap (list_any p) here ∙ ap (λ (b : Bool). b || list_any p (drop (place + 1) all)) fails) ∙ u.rest }

pub met : (p : List ℕ → Bool) (all : List (List ℕ)) (place : ℕ) (word : List ℕ) → drop place all ≡ word ∷ drop (place + 1) all → p word ≡ true → IsUnmet p all place → true ≡ list_any p all
met p all place word here passes u = sym (ap (list_any p) here ∙ ap (λ (b : Bool). b || list_any p (drop (place + 1) all)) passes) ∙ u.rest

pub unmet_end : (p : List ℕ → Bool) (all : List (List ℕ)) (place : ℕ) → drop place all ≡ [] → IsUnmet p all place → false ≡ list_any p all
unmet_end p all place none u = sym (ap (list_any p) none) ∙ u.rest

pub seen_some : {S : Type 0} (text : S → List ℕ) (words : List S) → words ≢ [] → map text words ≢ []
seen_some text [] some = λ e. some refl
seen_some text (word ∷ words) some = λ e. cc

-- ---- what one word more says

pub nothing_said : IsSaid [] no_override
nothing_said = record { name = refl; parents = λ uuid. refl; nothing = refl }

or_false : (b : Bool) → (b || false) ≡ b
or_false true = refl
or_false false = refl

or_true : (b : Bool) → (b || true) ≡ true
or_true true = refl
or_true false = refl

some_more : (words : List (List ℕ)) (word : List ℕ) → (length (words ++ word ∷ []) == 0) ≡ false
some_more words word = one (length (words ++ word ∷ []) == 0) refl
  where
    one : (b : Bool) → (length (words ++ word ∷ []) == 0) ≡ b → b ≡ false
    one true e = absurd (omega (arith, eqb-true (length (words ++ word ∷ [])) 0 e, length-append words (word ∷ [])))
    one false e = refl

among_more : (keys : List Key) (key : Key) (uuid : List ℕ) → is_among (uuids_of (keys ++ key ∷ [])) uuid ≡ (is_among (uuids_of keys) uuid || bytes_eq key.uuid uuid)
among_more [] key uuid = or_false (bytes_eq key.uuid uuid)
among_more (k ∷ keys) key uuid = ap (λ (b : Bool). bytes_eq k.uuid uuid || b) (among_more keys key uuid) ∙ or_moves (bytes_eq k.uuid uuid) (is_among (uuids_of keys) uuid) (bytes_eq key.uuid uuid)
  where
    or_moves : (a b c : Bool) → (a || (b || c)) ≡ ((a || b) || c)
    or_moves true b c = refl
    or_moves false b c = refl

pub says_one_more : (fronts : List (List ℕ)) (word : List ℕ) (said more : Override) → IsSaid fronts said → said_too said word ≡ Some more → IsSaid (fronts ++ word ∷ []) more
says_one_more fronts word said more s e = record {
  name = named (is_name_word word) refl e ∙ sym (list_any-append is_name_word fronts (word ∷ []));
  parents = λ uuid. keyed uuid (is_name_word word) refl e ∙ sym (list_any-append (says_uuid uuid) fronts (word ∷ []));
  nothing = some_said said more word e ∙ sym (some_more fronts word);
}
  where
    inside : (a b : Override) → Some a ≡ Some b → a ≡ b
    inside a b e = ap (λ (o : Option Override). elim o as (λ x. Override) [ None ↦ a | Some x ↦ x ]) e

    name_more : (o : Option (List ℕ)) → name_too said o ≡ Some more → (is_some more.name ≡ true) × (more.parents ≡ said.parents)
    name_more None e = cc
    name_more (Some name) e = two (is_some said.name) e
      where
        two : (b : Bool) → (if b then None else Some (record said { name = Some name })) ≡ Some more → (is_some more.name ≡ true) × (more.parents ≡ said.parents)
        two true e = cc
        two false e = let is = inside (record said { name = Some name }) more e in (sym (ap (λ (o : Override). is_some o.name) is), sym (ap (λ (o : Override). o.parents) is))

    parent_more : (o : Option Key) → parent_too said o ≡ Some more → (key : Key) × ((o ≡ Some key) × (more ≡ record said { parents = said.parents ++ key ∷ [] }))
    parent_more None e = cc
    parent_more (Some key) e = two (is_among (uuids_of said.parents) key.uuid) e
      where
        two : (b : Bool) → (if b then None else Some (record said { parents = said.parents ++ key ∷ [] })) ≡ Some more → (k : Key) × ((Some key ≡ Some k) × (more ≡ record said { parents = said.parents ++ k ∷ [] }))
        two true e = cc
        two false e = (key, (refl, sym (inside (record said { parents = said.parents ++ key ∷ [] }) more e)))

    named : (b : Bool) → is_name_word word ≡ b → (if b then name_too said (given_name word) else parent_too said (given_parent word)) ≡ Some more
        → is_some more.name ≡ (list_any is_name_word fronts || (is_name_word word || false))
    named true is e = (name_more (given_name word) e).0 ∙ sym (ap (λ (b : Bool). list_any is_name_word fronts || (b || false)) is ∙ or_true (list_any is_name_word fronts))
    named false is e =
        ap (λ (o : Override). is_some o.name) (parent_more (given_parent word) e).1.1 ∙ s.name
        ∙ sym (ap (λ (b : Bool). list_any is_name_word fronts || (b || false)) is ∙ or_false (list_any is_name_word fronts))

    keyed : (uuid : List ℕ) (b : Bool) → is_name_word word ≡ b → (if b then name_too said (given_name word) else parent_too said (given_parent word)) ≡ Some more
        → is_among (uuids_of more.parents) uuid ≡ (list_any (says_uuid uuid) fronts || (says_uuid uuid word || false))
    keyed uuid true is e =
        ap (λ (keys : List Key). is_among (uuids_of keys) uuid) (name_more (given_name word) e).1 ∙ s.parents uuid
        ∙ sym (ap (λ (b : Bool). list_any (says_uuid uuid) fronts || ((if b then false else has_uuid uuid (given_parent word)) || false)) is ∙ or_false (list_any (says_uuid uuid) fronts))
    keyed uuid false is e =
        let new = parent_more (given_parent word) e in
        ap (λ (o : Override). is_among (uuids_of o.parents) uuid) new.1.1 ∙ among_more said.parents new.0 uuid
        ∙ ap₂ (λ (a b : Bool). a || b) (s.parents uuid)
        (sym (or_false (bytes_eq new.0.uuid uuid)) ∙ sym (ap (λ (o : Option Key). has_uuid uuid o || false) new.1.0)
        ∙ sym (ap (λ (b : Bool). (if b then false else has_uuid uuid (given_parent word)) || false) is))

-- Whether a word says something more, by what it says and what the words in front of it say.
pub name_says : (fronts : List (List ℕ)) (word : List ℕ) (said : Override) → IsSaid fronts said → is_name_word word ≡ true
    → (is_some (given_name word) && not (list_any is_name_word fronts)) ≡ is_some (said_too said word)
name_says fronts word said s is =
    ap (λ (b : Bool). is_some (given_name word) && not b) (sym s.name) ∙ one (given_name word)
    ∙ sym (ap (λ (b : Bool). is_some (if b then name_too said (given_name word) else parent_too said (given_parent word))) is)
  where
    two : (b : Bool) (o : Override) → not b ≡ is_some (if b then None else Some o)
    two true o = refl
    two false o = refl

    one : (o : Option (List ℕ)) → (is_some o && not (is_some said.name)) ≡ is_some (name_too said o)
    one None = refl
    one (Some name) = two (is_some said.name) (record said { name = Some name })

pub parent_says : (fronts : List (List ℕ)) (word : List ℕ) (said : Override) (key : Key) → IsSaid fronts said → is_name_word word ≡ false → given_parent word ≡ Some key
    → not (list_any (says_uuid key.uuid) fronts) ≡ is_some (said_too said word)
parent_says fronts word said key s is gives =
    ap (λ (b : Bool). not b) (sym (s.parents key.uuid)) ∙ two (is_among (uuids_of said.parents) key.uuid) (record said { parents = said.parents ++ key ∷ [] })
    ∙ sym (ap (λ (b : Bool). is_some (if b then name_too said (given_name word) else parent_too said (given_parent word))) is ∙ ap (λ (o : Option Key). is_some (parent_too said o)) gives)
  where
    two : (b : Bool) (o : Override) → not b ≡ is_some (if b then None else Some o)
    two true o = refl
    two false o = refl

pub none_says : (word : List ℕ) (said : Override) → is_name_word word ≡ false → given_parent word ≡ None → false ≡ is_some (said_too said word)
none_says word said is gives =
    sym (ap (λ (b : Bool). is_some (if b then name_too said (given_name word) else parent_too said (given_parent word))) is ∙ ap (λ (o : Option Key). is_some (parent_too said o)) gives)

-- What is said with it.
pub said_name : (word name : List ℕ) (said : Override) → is_name_word word ≡ true → is_some (said_too said word) ≡ true → given_name word ≡ Some name → said_too said word ≡ Some (record said { name = Some name })
said_name word name said is some gives = by_name ∙ one (is_some said.name) (sym (ap (λ (o : Option Override). is_some o) by_name) ∙ some)
  where
    by_name : said_too said word ≡ name_too said (Some name)
    by_name = ap (λ (b : Bool). if b then name_too said (given_name word) else parent_too said (given_parent word)) is ∙ ap (name_too said) gives

    one : (b : Bool) → is_some (if b then None else Some (record said { name = Some name })) ≡ true → (if b then None else Some (record said { name = Some name })) ≡ Some (record said { name = Some name })
    one true e = absurd (false≢true e)
    one false e = refl

pub gives_one : (word : List ℕ) (said : Override) → is_name_word word ≡ true → is_some (said_too said word) ≡ true → is_some (given_name word) ≡ true
gives_one word said is some = one (given_name word) (sym (ap (λ (b : Bool). is_some (if b then name_too said (given_name word) else parent_too said (given_parent word))) is) ∙ some)
  where
    one : (o : Option (List ℕ)) → is_some (name_too said o) ≡ true → is_some o ≡ true
    one None e = absurd (false≢true e)
    one (Some name) e = refl

pub said_parent : (word : List ℕ) (key : Key) (said : Override) → is_name_word word ≡ false → is_some (said_too said word) ≡ true → given_parent word ≡ Some key
    → said_too said word ≡ Some (record said { parents = said.parents ++ key ∷ [] })
said_parent word key said is some gives = by_parent ∙ one (is_among (uuids_of said.parents) key.uuid) (sym (ap (λ (o : Option Override). is_some o) by_parent) ∙ some)
  where
    by_parent : said_too said word ≡ parent_too said (Some key)
    by_parent = ap (λ (b : Bool). if b then name_too said (given_name word) else parent_too said (given_parent word)) is ∙ ap (parent_too said) gives

    one : (b : Bool) → is_some (if b then None else Some (record said { parents = said.parents ++ key ∷ [] })) ≡ true
        → (if b then None else Some (record said { parents = said.parents ++ key ∷ [] })) ≡ Some (record said { parents = said.parents ++ key ∷ [] })
    one true e = absurd (false≢true e)
    one false e = refl

-- ---- whether words stand

-- What is read so far, and what the words in front of the next file say.
pub record AreRead (all left fronts : List (List ℕ)) : Type 0 where
  files : List (List ℕ)
  overrides : Overrides
  said : Override
  read : IsRead all files overrides said left
  is : IsSaid fronts said

pub starts : (all : List (List ℕ)) → AreRead all all []
starts all = record { files = []; overrides = []; said = no_override; read = read_none all; is = nothing_said }

pub one_file : (all left rest fronts : List (List ℕ)) (word : List ℕ) → left ≡ word ∷ rest → stands_in_front word ≡ false → AreRead all left fronts → AreRead all rest []
one_file all left rest fronts word here file r = record {
  files = r.files ++ word ∷ [];
  overrides = r.overrides ++ r.said ∷ [];
  said = no_override;
  read = read_file all r.files r.overrides r.said word rest file (subst (λ (ws : List (List ℕ)). IsRead all r.files r.overrides r.said ws) here r.read);
  is = nothing_said;
}

-- What is said, where something is.
pub some_there : (o : Option Override) → is_some o ≡ true → (more : Override) × (o ≡ Some more)
some_there None e = absurd (false≢true e)
some_there (Some more) e = (more, refl)

pub one_front : (all left rest fronts : List (List ℕ)) (word : List ℕ) → left ≡ word ∷ rest → stands_in_front word ≡ true
    → ((said : Override) → IsSaid fronts said → true ≡ is_some (said_too said word)) → AreRead all left fronts → AreRead all rest (fronts ++ word ∷ [])
one_front all left rest fronts word here front says r =
    let more = some_there (said_too r.said word) (sym (says r.said r.is)) in
    record {
      files = r.files;
      overrides = r.overrides;
      said = more.0;
      read = read_front all r.files r.overrides r.said more.0 word rest front more.1 (subst (λ (ws : List (List ℕ)). IsRead all r.files r.overrides r.said ws) here r.read);
      is = says_one_more fronts word r.said more.0 r.is more.1;
    }

pub none_there : (o : Option Override) → false ≡ is_some o → o ≡ None
none_there None e = refl
none_there (Some more) e = absurd (false≢true e)

pub wrong_front : (all left rest fronts : List (List ℕ)) (word : List ℕ) → left ≡ word ∷ rest → stands_in_front word ≡ true
    → ((said : Override) → IsSaid fronts said → false ≡ is_some (said_too said word)) → AreRead all left fronts → false ≡ is_some (given_in all)
wrong_front all left rest fronts word here front says r =
    sym (ap (λ (g : Option GivenFiles). is_some g) (read_wrong all r.files r.overrides r.said word rest front (none_there (said_too r.said word) (says r.said r.is))
    (subst (λ (ws : List (List ℕ)). IsRead all r.files r.overrides r.said ws) here r.read)))

pub at_end : (all left fronts : List (List ℕ)) → left ≡ [] → AreRead all left fronts → (length fronts == 0) ≡ is_some (given_in all)
at_end all left fronts none r = sym r.is.nothing ∙ one (says_nothing r.said) refl (subst (λ (ws : List (List ℕ)). IsRead all r.files r.overrides r.said ws) none r.read)
  where
    one : (b : Bool) → says_nothing r.said ≡ b → IsRead all r.files r.overrides r.said [] → b ≡ is_some (given_in all)
    one true e read = sym (ap (λ (g : Option GivenFiles). is_some g) (read_end all r.files r.overrides r.said e read))
    one false e read = sym (ap (λ (g : Option GivenFiles). is_some g) (read_no_file all r.files r.overrides r.said e read))

-- ---- the name that a word gives

-- What is meant by a word that gives a name is that name.
name_is : (word name : List ℕ) → is_some (given_name word) ≡ true → meant_by (drop 5 word) ≡ Some name → given_name word ≡ Some name
name_is word name gives is = one (nat_lt (length name) (2 ^ 16)) refl
  where
    one : (b : Bool) → nat_lt (length name) (2 ^ 16) ≡ b → given_name word ≡ Some name
    one true less = short_name word name is (ltb-true (length name) (2 ^ 16) less)
    one false more = absurd (false≢true (sym (ap (λ (o : Option (List ℕ)). is_some o) (long_name word name is (ltb-false (length name) (2 ^ 16) more))) ∙ gives))

pub is_new : (word name : List ℕ) → IsBytes (drop 5 word) → is_some (given_name word) ≡ true → meant_by (drop 5 word) ≡ Some name → IsNewName name
is_new word name are gives is = subst (λ (o : Option (List ℕ)). IfSome o IsNewName) (name_is word name gives is) (given_fits word are)

pub none_given : (o : Option GivenFiles) → o ≡ None → is_some o ≡ true → ⊥
none_given o none some = false≢true (sym (ap (λ (x : Option GivenFiles). is_some x) none) ∙ some)

-- ---- words that are files

-- A word in front of a file says something more, where the words stand.
pub says_more_there : (words files : List (List ℕ)) (overrides : Overrides) (said : Override) (text : List ℕ) (left : List (List ℕ)) → stands_in_front text ≡ true → is_some (given_in words) ≡ true
    → IsRead words files overrides said (text ∷ left) → is_some (said_too said text) ≡ true
says_more_there words files overrides said text left front given read = one (said_too said text) refl
  where
    one : (o : Option Override) → said_too said text ≡ o → is_some o ≡ true
    one None e = absurd (none_given _ (read_wrong words files overrides said text left front e read) given)
    one (Some more) e = refl

pub ended : (words files : List (List ℕ)) (overrides : Overrides) (said : Override) → is_some (given_in words) ≡ true → IsRead words files overrides said []
    → given_in words ≡ Some (record { files = files; overrides = overrides })
ended words files overrides said given read = one (says_nothing said) refl
  where
    one : (b : Bool) → says_nothing said ≡ b → given_in words ≡ Some (record { files = files; overrides = overrides })
    one true e = read_end words files overrides said e read
    one false e = absurd (none_given _ (read_no_file words files overrides said e read) given)
