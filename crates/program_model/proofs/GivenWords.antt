-- The words of files with what they say in front of each, one after the other; and what they give.
use Rattle.std.specs.Prelude.{◌≡◌, ◌≢◌, ℕ, ◌<◌, ◌≤◌, ◌^◌, ◌==◌, ◌&&◌, Bool, true, false, List, [], ◌∷◌, ◌++◌, length, drop, Option, None, Some, IfSome, is_some, is_none, nat_lt, if◌then◌else◌}
use Rattle.std.specs.List.{AllByRecursion}
use Rattle.std.proofs.Common.{refl, sym, ap, subst, suc, ◌∙◌, arith, append_assoc, append-nil}
use Rattle.std.proofs.lemmas.Bool.{lt-ltb, ltb-true, eqb-true}
use Rattle.std.proofs.lemmas.List.{length-append}
use Rattle.send_model.specs.Attribute.{IsBytes}
use Rattle.send_model.specs.Store.{Key}
use Rattle.send_model.specs.Outside.{is_among}
use Rattle.send_model.specs.NamedWords.{is_name_word}
use Rattle.send_model.specs.Overridden.{Override, no_override, says_nothing, Overrides, uuids_of, IsNewName, IsLawfulOverride, AreLawfulOverrides}
use Rattle.send_model.proofs.ElementLaws.{all_both, all_drop}
use Rattle.send_model.proofs.Sorts.{same_inside}
use Rattle.program_model.specs.EscapedWords.{meant_by}
use Rattle.program_model.proofs.EscapedForms.{bytes_are_meant}
use Rattle.program_model.proofs.ParentWords.{parent_fits}
use Rattle.program_model.specs.FileWords.{if_short, given_name, given_parent, stands_in_front, name_too, parent_too, said_too, GivenFiles, no_files, with_file, given_from, given_in, files_of, overrides_of, PlainWordsAreFiles, WordsGiveFiles, GivenAreAsMany, GivenAreLawful}

-- ---- one word more

-- What stands in front of given files.
abbrev pub in_front : List (List ℕ) → Overrides → Option GivenFiles → Option GivenFiles
in_front files overrides None = None
in_front files overrides (Some given) = Some (record { files = files ++ given.files; overrides = overrides ++ given.overrides })

front_of_none : (o : Option GivenFiles) → o ≡ in_front [] [] o
front_of_none None = refl
front_of_none (Some given) = refl

front_of_one : (files : List (List ℕ)) (overrides : Overrides) (file : List ℕ) (said : Override) (o : Option GivenFiles)
    → in_front files overrides (with_file file said o) ≡ in_front (files ++ file ∷ []) (overrides ++ said ∷ []) o
front_of_one files overrides file said None = refl
front_of_one files overrides file said (Some given) = sym (λ i. Some (record {
  files = append_assoc files (file ∷ []) given.files i;
  overrides = append_assoc overrides (said ∷ []) given.overrides i;
}))

-- What comes of a word in front of a file, and of a file.
abbrev front_then : Option Override → List (List ℕ) → Option GivenFiles
front_then o words = elim o [ None ↦ None | Some more ↦ given_from more words ]

front_there : (said : Override) (word : List ℕ) (words : List (List ℕ)) → stands_in_front word ≡ true → given_from said (word ∷ words) ≡ front_then (said_too said word) words
unfolding given_from
front_there said word words is = ap (λ (b : Bool). if b then front_then (said_too said word) words else with_file word said (given_from no_override words)) is

file_there : (said : Override) (word : List ℕ) (words : List (List ℕ)) → stands_in_front word ≡ false → given_from said (word ∷ words) ≡ with_file word said (given_from no_override words)
unfolding given_from
file_there said word words is = ap (λ (b : Bool). if b then front_then (said_too said word) words else with_file word said (given_from no_override words)) is

-- A word gives a name if an attribute has room for the bytes that are meant, and else none.
abbrev given_by : Option (List ℕ) → Option (List ℕ)
given_by o = elim o [ None ↦ None | Some name ↦ if_short name ]

pub short_name : (word name : List ℕ) → meant_by (drop 5 word) ≡ Some name → length name < 2 ^ 16 → given_name word ≡ Some name
short_name word name is short = ap given_by is ∙ ap (λ (b : Bool). if b then Some name else None) (lt-ltb (length name) (2 ^ 16) short)

pub long_name : (word name : List ℕ) → meant_by (drop 5 word) ≡ Some name → 2 ^ 16 ≤ length name → given_name word ≡ None
long_name word name is long = ap given_by is ∙ one (nat_lt (length name) (2 ^ 16)) refl
  where
    one : (b : Bool) → nat_lt (length name) (2 ^ 16) ≡ b → (if b then Some name else None) ≡ None
    one true e = absurd (omega (arith, ltb-true (length name) (2 ^ 16) e, long))
    one false e = refl

pub no_name : (word : List ℕ) → meant_by (drop 5 word) ≡ None → given_name word ≡ None
no_name word is = ap given_by is

-- ---- words that are read one after the other

-- Some files are read, with what is said in front of them, and what is said so far in front of the
-- next one; all words are these and those that are left.
pub record IsRead (all files : List (List ℕ)) (overrides : Overrides) (said : Override) (left : List (List ℕ)) : Type 0 where
  pub all_is : given_in all ≡ in_front files overrides (given_from said left)

pub read_none : (all : List (List ℕ)) → IsRead all [] [] no_override all
read_none all = record { all_is = front_of_none (given_in all) }

pub read_front : (all files : List (List ℕ)) (overrides : Overrides) (said more : Override) (word : List ℕ) (left : List (List ℕ)) → stands_in_front word ≡ true → said_too said word ≡ Some more
    → IsRead all files overrides said (word ∷ left) → IsRead all files overrides more left
read_front all files overrides said more word left is says r =
    record { all_is = r.all_is ∙ ap (λ (o : Option GivenFiles). in_front files overrides o) (front_there said word left is ∙ ap (λ (o : Option Override). front_then o left) says) }

pub read_file : (all files : List (List ℕ)) (overrides : Overrides) (said : Override) (word : List ℕ) (left : List (List ℕ)) → stands_in_front word ≡ false
    → IsRead all files overrides said (word ∷ left) → IsRead all (files ++ word ∷ []) (overrides ++ said ∷ []) no_override left
read_file all files overrides said word left is r = record {
  all_is = r.all_is ∙ ap (λ (o : Option GivenFiles). in_front files overrides o) (file_there said word left is) ∙ front_of_one files overrides word said (given_from no_override left);
}

pub read_wrong : (all files : List (List ℕ)) (overrides : Overrides) (said : Override) (word : List ℕ) (left : List (List ℕ)) → stands_in_front word ≡ true → said_too said word ≡ None
    → IsRead all files overrides said (word ∷ left) → given_in all ≡ None
read_wrong all files overrides said word left is says r =
    r.all_is ∙ ap (λ (o : Option GivenFiles). in_front files overrides o) (front_there said word left is ∙ ap (λ (o : Option Override). front_then o left) says)

pub read_end : (all files : List (List ℕ)) (overrides : Overrides) (said : Override) → says_nothing said ≡ true → IsRead all files overrides said []
    → given_in all ≡ Some (record { files = files; overrides = overrides })
unfolding given_from
read_end all files overrides said none r =
    r.all_is ∙ ap (λ (b : Bool). in_front files overrides (if b then Some no_files else None)) none
    ∙ (λ i. Some (record { files = append-nil files i; overrides = append-nil overrides i }))

pub read_no_file : (all files : List (List ℕ)) (overrides : Overrides) (said : Override) → says_nothing said ≡ false → IsRead all files overrides said [] → given_in all ≡ None
unfolding given_from
read_no_file all files overrides said some r = r.all_is ∙ ap (λ (b : Bool). in_front files overrides (if b then Some no_files else None)) some

-- ---- the laws

pub plain_words : PlainWordsAreFiles
unfolding given_from
plain_words [] plain = refl
plain_words (word ∷ words) plain = file_there no_override word words plain.0 ∙ ap (λ (o : Option GivenFiles). with_file word no_override o) (plain_words words plain.1)

-- Something is said once a word more was read.
pub some_said : (said more : Override) (word : List ℕ) → said_too said word ≡ Some more → says_nothing more ≡ false
some_said said more word e = one (is_name_word word) e
  where
    none_too : (b : Bool) → (b && false) ≡ false
    none_too true = refl
    none_too false = refl

    some_keys : (keys : List Key) (key : Key) → (length (keys ++ key ∷ []) == 0) ≡ false
    some_keys keys key = two (length (keys ++ key ∷ []) == 0) refl
      where
        two : (b : Bool) → (length (keys ++ key ∷ []) == 0) ≡ b → b ≡ false
        two true e = absurd (omega (arith, eqb-true (length (keys ++ key ∷ [])) 0 e, length-append keys (key ∷ [])))
        two false e = refl

    name_more : (o : Option (List ℕ)) → name_too said o ≡ Some more → says_nothing more ≡ false
    name_more None e = cc
    name_more (Some name) e = two (is_some said.name) e
      where
        two : (b : Bool) → (if b then None else Some (record said { name = Some name })) ≡ Some more → says_nothing more ≡ false
        two true e = cc
        two false e = subst (λ (o : Override). says_nothing o ≡ false) (same_inside e) refl

    parent_more : (o : Option Key) → parent_too said o ≡ Some more → says_nothing more ≡ false
    parent_more None e = cc
    parent_more (Some key) e = two (is_among (uuids_of said.parents) key.uuid) e
      where
        two : (b : Bool) → (if b then None else Some (record said { parents = said.parents ++ key ∷ [] })) ≡ Some more → says_nothing more ≡ false
        two true e = cc
        two false e = subst (λ (o : Override). says_nothing o ≡ false) (same_inside e)
            (ap (λ (b : Bool). is_none said.name && b) (some_keys said.parents key) ∙ none_too (is_none said.name))

    one : (b : Bool) → (if b then name_too said (given_name word) else parent_too said (given_parent word)) ≡ Some more → says_nothing more ≡ false
    one true e = name_more (given_name word) e
    one false e = parent_more (given_parent word) e

-- Some files stand behind what is said, and in words.
abbrev SomeFiles : Option GivenFiles → Type 0
SomeFiles o = IfSome o (λ given. given.files ≢ [])

with_some : (file : List ℕ) (said : Override) (o : Option GivenFiles) → SomeFiles (with_file file said o)
with_some file said None = tt
with_some file said (Some given) = λ e. cc

some_behind : (said : Override) (words : List (List ℕ)) → says_nothing said ≡ false → SomeFiles (given_from said words)
unfolding given_from
some_behind said [] some = subst (λ (b : Bool). SomeFiles (if b then Some no_files else None)) (sym some) tt
some_behind said (word ∷ words) some = one (stands_in_front word) (said_too said word) refl (λ more e. some_behind more words (some_said said more word e))
  where
    one : (b : Bool) (o : Option Override) → said_too said word ≡ o → ((more : Override) → said_too said word ≡ Some more → SomeFiles (given_from more words))
        → SomeFiles (if b then front_then o words else with_file word said (given_from no_override words))
    one true None e behind = tt
    one true (Some more) e behind = behind more e
    one false o e behind = with_some word said (given_from no_override words)

some_in : (word : List ℕ) (words : List (List ℕ)) → SomeFiles (given_in (word ∷ words))
unfolding given_from
some_in word words = one (stands_in_front word) (said_too no_override word) refl
  where
    one : (b : Bool) (o : Option Override) → said_too no_override word ≡ o → SomeFiles (if b then front_then o words else with_file word no_override (given_from no_override words))
    one true None e = tt
    one true (Some more) e = some_behind more words (some_said no_override more word e)
    one false o e = with_some word no_override (given_from no_override words)

pub files_stand : WordsGiveFiles
files_stand [] given some is = absurd (some refl)
files_stand (word ∷ words) given some is = subst SomeFiles is (some_in word words)

-- As much is said as there are files.
abbrev AsMany : Option GivenFiles → Type 0
AsMany o = length (overrides_of o) ≡ length (files_of o)

one_more : (file : List ℕ) (said : Override) (o : Option GivenFiles) → AsMany o → AsMany (with_file file said o)
one_more file said None e = refl
one_more file said (Some given) e = ap (λ (n : ℕ). suc n) e

as_many_from : (said : Override) (words : List (List ℕ)) → AsMany (given_from said words)
unfolding given_from
as_many_from said [] = one (says_nothing said)
  where
    one : (b : Bool) → AsMany (if b then Some no_files else None)
    one true = refl
    one false = refl
as_many_from said (word ∷ words) = one (stands_in_front word) (said_too said word) (λ more. as_many_from more words) (as_many_from no_override words)
  where
    one : (b : Bool) (o : Option Override) → ((more : Override) → AsMany (given_from more words)) → AsMany (given_from no_override words)
        → AsMany (if b then front_then o words else with_file word said (given_from no_override words))
    one true None front more = refl
    one true (Some said') front more = front said'
    one false o front more = one_more word said (given_from no_override words) more

pub as_many : GivenAreAsMany
as_many words = as_many_from no_override words

-- What is said is lawful.
abbrev AreLawful : Option GivenFiles → Type 0
AreLawful o = AreLawfulOverrides (overrides_of o)

lawful_more : (file : List ℕ) (said : Override) (o : Option GivenFiles) → IsLawfulOverride said → AreLawful o → AreLawful (with_file file said o)
lawful_more file said None lawful more = tt
lawful_more file said (Some given) lawful more = (lawful, more)

bytes_behind : (n : ℕ) (bytes : List ℕ) → IsBytes bytes → IsBytes (drop n bytes)
bytes_behind n bytes are = all_drop (λ b. b < 256) n bytes are

-- A name that is given is of bytes, and an attribute has room for it.
pub given_fits : (word : List ℕ) → IsBytes (drop 5 word) → IfSome (given_name word) IsNewName
given_fits word are = one (meant_by (drop 5 word)) refl
  where
    short : (name : List ℕ) → IsBytes name → (b : Bool) → nat_lt (length name) (2 ^ 16) ≡ b → IfSome (if b then Some name else None) IsNewName
    short name bytes true e = record { bytes = bytes; short = ltb-true (length name) (2 ^ 16) e }
    short name bytes false e = tt

    one : (o : Option (List ℕ)) → meant_by (drop 5 word) ≡ o → IfSome (given_by o) IsNewName
    one None e = tt
    one (Some name) e = short name (bytes_are_meant (drop 5 word) name are e) (nat_lt (length name) (2 ^ 16)) refl

pub nothing_is_lawful : IsLawfulOverride no_override
nothing_is_lawful = record { name = tt; parents = tt }

said_is_lawful : (said more : Override) (word : List ℕ) → IsLawfulOverride said → IsBytes word → said_too said word ≡ Some more → IsLawfulOverride more
said_is_lawful said more word lawful are e = one (is_name_word word) e
  where
    name_more : (o : Option (List ℕ)) → IfSome o IsNewName → name_too said o ≡ Some more → IsLawfulOverride more
    name_more None fits e = cc
    name_more (Some name) fits e = two (is_some said.name) e
      where
        two : (b : Bool) → (if b then None else Some (record said { name = Some name })) ≡ Some more → IsLawfulOverride more
        two true e = cc
        two false e = subst IsLawfulOverride (same_inside e) (record { name = fits; parents = lawful.parents })

    parent_more : (o : Option Key) → given_parent word ≡ o → parent_too said o ≡ Some more → IsLawfulOverride more
    parent_more None is e = cc
    parent_more (Some key) is e = two (is_among (uuids_of said.parents) key.uuid) e
      where
        two : (b : Bool) → (if b then None else Some (record said { parents = said.parents ++ key ∷ [] })) ≡ Some more → IsLawfulOverride more
        two true e = cc
        two false e = subst IsLawfulOverride (same_inside e)
            (record { name = lawful.name; parents = all_both (λ (k : Key). k.ctransid < 2 ^ 64) said.parents (key ∷ []) lawful.parents (parent_fits word key is, tt) })

    one : (b : Bool) → (if b then name_too said (given_name word) else parent_too said (given_parent word)) ≡ Some more → IsLawfulOverride more
    one true e = name_more (given_name word) (given_fits word (bytes_behind 5 word are)) e
    one false e = parent_more (given_parent word) refl e

lawful_from : (said : Override) (words : List (List ℕ)) → IsLawfulOverride said → AllByRecursion IsBytes words → AreLawful (given_from said words)
unfolding given_from
lawful_from said [] lawful are = one (says_nothing said)
  where
    one : (b : Bool) → AreLawful (if b then Some no_files else None)
    one true = tt
    one false = tt
lawful_from said (word ∷ words) lawful are =
    one (stands_in_front word) (said_too said word) refl (λ more fits. lawful_from more words fits are.1) (lawful_from no_override words nothing_is_lawful are.1)
  where
    one : (b : Bool) (o : Option Override) → said_too said word ≡ o → ((more : Override) → IsLawfulOverride more → AreLawful (given_from more words)) → AreLawful (given_from no_override words)
        → AreLawful (if b then front_then o words else with_file word said (given_from no_override words))
    one true None e front more = tt
    one true (Some said') e front more = front said' (said_is_lawful said said' word lawful are.0 e)
    one false o e front more = lawful_more word said (given_from no_override words) lawful more

pub given_are_lawful : GivenAreLawful
given_are_lawful words are = lawful_from no_override words nothing_is_lawful are
